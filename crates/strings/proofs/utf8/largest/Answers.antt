use Rattle.std.proofs.Common.{◌≡◌, ℕ, ◌+◌, ◌-◌, ◌≤◌, ◌<◌, cond, get_or, take, drop, refl, arith}
use lib.Seq.{get_or-drop}
use Rattle.std.specs.declared.cmp.Ordering.{Ordering}
use Rattle.std.specs.declared.cmp.Ordering.TheVariants.{Less, Equal, Greater}
use Rattle.std.specs.Ordering.{MatchOrdering, ord_max, nat_cmp, is_lt}
use Rattle.std.proofs.lemmas.Cmp.{ranked}
use Rattle.std.proofs.lemmas.List.{get_or-take}
use Rattle.strings.proofs.ValidLaws.{none_above_on}
use Rattle.strings.proofs.utf8.largest.Goals as goal

max_above : (a b : ℕ) → (a ≤ ord_max nat_cmp a b) × (b ≤ ord_max nat_cmp a b)
max_above a b = by (nat_cmp b a) (ranked b a (nat_cmp b a) refl)
  where
    by : (r : Ordering) → MatchOrdering r (b < a) (b ≡ a) (a < b) → (a ≤ cond (is_lt r) a b) × (b ≤ cond (is_lt r) a b)
    by Less h = omega arith
    by Equal h = omega arith
    by Greater h = omega arith

pub loop-b-init : goal.loop-b-init
loop-b-init c = record { at_most = λ k h. absurd (omega arith) }

pub loop-b-preserved : goal.loop-b-preserved
loop-b-preserved c =
    let from = c.args.from in
    let i = c.loop-b.b-index in
    let s = c.args.s.now in
    let part = take (from + 64 - from) (drop from s) in
    let same : get_or part i 0 ≡ get_or s (from + i) 0 = rw (get_or-take (from + 64 - from) (drop from s) i 0 (omega arith)) (get_or-drop from s i 0) in
    let above = max_above c.loop-b.most (get_or part i 0) in
    none_above_on c.loop-b.invariant (omega (arith, above, c.max-most.ensures)) (omega (arith, above, same, c.max-most.ensures))

pub returns : goal.returns
returns c = let all : c.loop-b.b-index ≡ 64 = omega arith in rw all at c.loop-b.invariant
