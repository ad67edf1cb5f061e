use Rattle.std.proofs.Common.{ℕ, drop, ap, ◌∙◌, ◌+◌, arith}
use Rattle.images.specs.Inner.{pops, Lands, coded}
use Rattle.images.proofs.RootLaws.{enough_left, from_of, lands_as, lands_at, fit_third, fit_second, fit_first, pops_add}
use Rattle.images.proofs.roots.Records.fit.Goals as goal

pub group-requires : goal.group-requires
group-requires c = let p = c.requires in record { tags = p.tags; chain = p.chain; enough = omega (arith, p.enough) }

pub returns-in_err-second : goal.returns-in_err-second
returns-in_err-second c = rw c.from_residual.ensures (λ tags ch h. fit_third _ _ (coded c.args.asked) tags (c.in_err-second.ensures.0 tags ch (omega arith)), Lands.nowhere)

pub group-requires-2 : goal.group-requires-2
group-requires-2 c =
    let p = c.requires in
    let a = coded c.args.asked in
    let w = from_of _ _ (c.in_ok-second.ensures.0 p.tags p.chain (omega (arith, p.enough))) in
    record { tags = drop a.n3 p.tags; chain = w.1; enough = enough_left a.n3 a.n2 p.tags (omega (arith, p.enough)) }

pub returns-in_err-first : goal.returns-in_err-first
returns-in_err-first c = rw c.from_residual-in_err-first.ensures (
  λ tags ch h.
      let a = coded c.args.asked in
      let w = from_of _ _ (c.in_ok-second.ensures.0 tags ch (omega arith)) in
      fit_second _ _ a tags (c.in_err-first.ensures.0 (drop a.n3 tags) w.1 (enough_left a.n3 a.n2 tags (omega arith))),
  Lands.nowhere,
)

pub group-requires-3 : goal.group-requires-3
group-requires-3 c =
    let p = c.requires in
    let a = coded c.args.asked in
    let w = from_of _ _ (c.in_ok-second.ensures.0 p.tags p.chain (omega (arith, p.enough))) in
    let x = from_of _ _ (c.in_ok-first.ensures.0 (drop a.n3 p.tags) w.1 (enough_left a.n3 a.n2 p.tags (omega (arith, p.enough)))) in
    record { tags = drop a.n2 (drop a.n3 p.tags); chain = x.1; enough = enough_left a.n2 a.n1 (drop a.n3 p.tags) (enough_left a.n3 (a.n2 + a.n1) p.tags (omega (arith, p.enough))) }

pub returns : goal.returns
returns c =
    let a = coded c.args.asked in (
      λ tags ch h.
          let w = from_of _ _ (c.in_ok-second.ensures.0 tags ch (omega arith)) in
          let x = from_of _ _ (c.in_ok-first.ensures.0 (drop a.n3 tags) w.1 (enough_left a.n3 a.n2 tags (omega arith))) in
          fit_first _ _ a tags w.0 x.0 (c.group-3.ensures.0 (drop a.n2 (drop a.n3 tags)) x.1 (enough_left a.n2 a.n1 (drop a.n3 tags) (enough_left a.n3 (a.n2 + a.n1) tags (omega arith)))),
      lands_as
          (ap (λ (m : ℕ). pops c.args.self.links.now m a.n1) (lands_at c.in_ok-first.ensures.1 ∙ ap (λ (m : ℕ). pops c.args.self.links.now m a.n2) (lands_at c.in_ok-second.ensures.1))
          ∙ pops_add _ (pops c.args.self.links.now c.args.from a.n3) a.n2 a.n1 ∙ pops_add _ _ a.n3 (a.n2 + a.n1))
          c.group-3.ensures.1,
    )
