use Rattle.std.proofs.Common.{◌≡◌, ℕ, sym, ap, ◌∙◌, arith}
use Rattle.images.specs.Inner.{Lands, is_a}
use Rattle.images.proofs.RootLaws.{pops_one, lands_as, last, goes_on, decides, ends_other, field_then, bind_more, bind_not, rest_enough, no_field}
use Rattle.images.proofs.roots.Records.one_field.Goals as goal

pub overflow_sub-m : goal.overflow_sub-m
overflow_sub-m c = omega (arith, (last c.args.self.bytes.now c.args.self.links.now (c.loop-left.invariant.0 c.requires.tags c.requires.chain c.requires.enough) (omega arith)).some)

pub tag-tag-requires-clause-linked : goal.tag-tag-requires-clause-linked
tag-tag-requires-clause-linked c = (last c.args.self.bytes.now c.args.self.links.now (c.loop-left.invariant.0 c.requires.tags c.requires.chain c.requires.enough) (omega arith)).in_array

pub tag-tag-requires-clause-inside : goal.tag-tag-requires-clause-inside
tag-tag-requires-clause-inside c = (last c.args.self.bytes.now c.args.self.links.now (c.loop-left.invariant.0 c.requires.tags c.requires.chain c.requires.enough) (omega arith)).in_bytes

pub overflow_sub-m-in-loop-left : goal.overflow_sub-m-in-loop-left
overflow_sub-m-in-loop-left c = omega (arith, (last c.args.self.bytes.now c.args.self.links.now (c.loop-left.invariant.0 c.requires.tags c.requires.chain c.requires.enough) (omega arith)).some)

pub first-m-requires : goal.first-m-requires
first-m-requires c = (last c.args.self.bytes.now c.args.self.links.now (c.loop-left.invariant.0 c.requires.tags c.requires.chain c.requires.enough) (omega arith)).in_array

pub each-requires : goal.each-requires
each-requires c =
    let x = c.loop-left.invariant.0 c.requires.tags c.requires.chain c.requires.enough in
    let t = last c.args.self.bytes.now c.args.self.links.now (c.loop-left.invariant.0 c.requires.tags c.requires.chain c.requires.enough) (omega arith) in
    rw c.first-m.ensures (record { tags = t.rest; chain = t.below; enough = rest_enough _ _ x t })

pub returns-then-tag-eq-FIELD : goal.returns-then-tag-eq-FIELD
returns-then-tag-eq-FIELD c =
    let en = rw c.first-m.ensures at c.each.ensures in (
      λ tags ch h. let x = c.loop-left.invariant.0 tags ch h in decides _ _ x (omega arith) _ (λ t. field_then _ _ (sym c.tag-tag.ensures ∙ c.if-tag-eq-FIELD.true) (en.0 t.rest t.below (rest_enough _ _ x t))),
      lands_as (sym (pops_one _ _ _ (omega arith)) ∙ c.loop-left.invariant.1) en.1,
    )

pub returns-then-not-is : goal.returns-then-not-is
returns-then-not-is c =
    let other : is_a _ 6 ≡ _ = ap (λ (t : ℕ). is_a t 6) (sym c.tag-tag.ensures) ∙ sym c.is.ensures ∙ c.if-not-is.true in
    (λ tags ch h. decides _ _ (c.loop-left.invariant.0 tags ch h) (omega arith) _ (λ t. bind_not _ _ (λ e. c.if-tag-eq-FIELD.false (c.tag-tag.ensures ∙ e)) other), Lands.nowhere)

pub loop-left-preserved : goal.loop-left-preserved
loop-left-preserved c =
    let bind : is_a _ 6 ≡ _ = ap (λ (t : ℕ). is_a t 6) (sym c.tag-tag.ensures) ∙ sym c.is.ensures ∙ c.if-not-is.false in
    rw c.first-m.ensures (
      λ tags ch h. goes_on _ _ (c.loop-left.invariant.0 tags ch h) (omega arith) (bind_more _ _ (λ e. c.if-tag-eq-FIELD.false (c.tag-tag.ensures ∙ e)) bind),
      sym (pops_one _ _ _ (omega arith)) ∙ c.loop-left.invariant.1,
    )

pub returns : goal.returns
returns c = (λ tags ch h. ends_other _ _ (c.loop-left.invariant.0 tags ch h) (omega arith) no_field, Lands.nowhere)
