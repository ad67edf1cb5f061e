use Rattle.std.proofs.Common.{sym, ap, refl, ◌+◌, ◌∙◌, arith}
use Rattle.images.specs.Inner.{Question, pops, Lands}
use Rattle.images.proofs.RootLaws.{lands_as}
use Rattle.images.proofs.CheckLaws.{opens, backward, not_fine, not_worded, all_checked}
use Rattle.images.proofs.records.checked.Goals as goal

pub returns-then-not-forward : goal.returns-then-not-forward
returns-then-not-forward c = (λ tags ch h. backward (sym c.forward.ensures ∙ c.if-not-forward.true), Lands.nowhere)

pub returns-in_err-asked : goal.returns-in_err-asked
returns-in_err-asked c = rw c.from_residual.ensures (λ tags ch h. not_fine refl c.in_err-asked.ensures, Lands.nowhere)

pub worded-requires : goal.worded-requires
worded-requires c = let e = ap (λ (q : Question). q.size) c.in_ok-asked.ensures in (omega (arith, e, c.requires.1), c.requires.2)

pub returns-then-not-worded : goal.returns-then-not-worded
returns-then-not-worded c = (λ tags ch h. not_worded c.in_ok-asked.ensures c.worded.ensures c.if-not-worded.true, Lands.nowhere)

pub fit-requires : goal.fit-requires
fit-requires c = let q = c.in_ok-asked.ensures in opens q (c.requires.0 (sym (ap (λ (r : Question). r.fine) q)))

pub returns : goal.returns
returns c =
    let q = c.in_ok-asked.ensures in (
      λ tags ch h.
          all_checked q (sym c.forward.ensures ∙ c.if-not-forward.false) refl c.worded.ensures c.if-not-worded.false
          (c.fit.ensures.0 tags ch (let e = ap (λ (r : Question). r.n3 + r.n2 + r.n1) q in omega (arith, e, h (sym (ap (λ (r : Question). r.fine) q))))),
      lands_as (ap (λ (r : Question). pops c.args.records.links.now c.args.from (r.n3 + (r.n2 + r.n1))) q) c.fit.ensures.1,
    )
