use Rattle.std.proofs.Common.{◌≡◌, ℕ, ◌-◌, false, true, sym, ap, ◌∙◌, arith}
use Rattle.images.specs.Inner.{Lands, Each, is_a, sort_code}
use Rattle.images.proofs.RootLaws.{pops_one, pops_none, tag_at, last, goes_on, decides, ends, each_more, each_not}
use Rattle.images.proofs.roots.Records.each.Goals as goal

pub overflow_sub-m : goal.overflow_sub-m
overflow_sub-m c = omega (arith, (last c.args.self.bytes.now c.args.self.links.now (c.loop-left.invariant.0 c.requires.tags c.requires.chain c.requires.enough) (omega arith)).some)

pub tag-requires-clause-linked : goal.tag-requires-clause-linked
tag-requires-clause-linked c = (last c.args.self.bytes.now c.args.self.links.now (c.loop-left.invariant.0 c.requires.tags c.requires.chain c.requires.enough) (omega arith)).in_array

pub tag-requires-clause-inside : goal.tag-requires-clause-inside
tag-requires-clause-inside c = (last c.args.self.bytes.now c.args.self.links.now (c.loop-left.invariant.0 c.requires.tags c.requires.chain c.requires.enough) (omega arith)).in_bytes

pub returns-then-not-is : goal.returns-then-not-is
returns-then-not-is c =
    let other : is_a (tag_at c.args.self.bytes.now c.args.self.links.now (c.loop-left.m - 1)) (sort_code c.args.sort) ≡ false = ap (λ (t : ℕ). is_a t (sort_code c.args.sort)) (sym c.tag.ensures) ∙ sym c.is.ensures ∙ c.if-not-is.true in
    (λ tags ch h. decides _ _ (c.loop-left.invariant.0 tags ch h) (omega arith) _ (λ t. each_not _ _ other), Lands.nowhere)

pub overflow_sub-m-in-loop-left : goal.overflow_sub-m-in-loop-left
overflow_sub-m-in-loop-left c = omega (arith, (last c.args.self.bytes.now c.args.self.links.now (c.loop-left.invariant.0 c.requires.tags c.requires.chain c.requires.enough) (omega arith)).some)

pub first-m-requires : goal.first-m-requires
first-m-requires c = (last c.args.self.bytes.now c.args.self.links.now (c.loop-left.invariant.0 c.requires.tags c.requires.chain c.requires.enough) (omega arith)).in_array

pub loop-left-preserved : goal.loop-left-preserved
loop-left-preserved c =
    let own : is_a (tag_at c.args.self.bytes.now c.args.self.links.now (c.loop-left.m - 1)) (sort_code c.args.sort) ≡ true = ap (λ (t : ℕ). is_a t (sort_code c.args.sort)) (sym c.tag.ensures) ∙ sym c.is.ensures ∙ c.if-not-is.false in
    rw c.first-m.ensures
    (λ tags ch h. goes_on _ _ (c.loop-left.invariant.0 tags ch h) (omega arith) (each_more _ _ own), sym (pops_one _ _ _ (omega arith)) ∙ c.loop-left.invariant.1)

pub returns : goal.returns
returns c = (λ tags ch h. ends _ _ (c.loop-left.invariant.0 tags ch h) (omega arith) Each.none, Lands.at (pops_none _ _ _ (omega arith) ∙ c.loop-left.invariant.1))
