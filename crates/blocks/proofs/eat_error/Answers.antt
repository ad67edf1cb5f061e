-- `blocks::eat_error` meets its contract.
-- Assumes nothing.
use mathlib.Core.Path.{◌≡◌, refl, sym, ◌∙◌, subst}
use mathlib.Core.Bool.{true, false, true≢false}
use mathlib.Core.List.{List, ◌++◌}
use native.Mathlib.Omega.{arith}
use Prim.Native.Nat.{ℕ, ◌+◌}
use lib.ListN.{length, drop, length-drop}
use borrow.Author.Tests.{tests}
use Rattle.std.proofs.Common.{rules, nat_eq, Option}
use Rattle.std.specs.List.{starts_with}
use Rattle.std.specs.Option.{MatchOption}
use Rattle.std.proofs.lemmas.List.{take_all}
use Rattle.std.proofs.lemmas.Iterator.{IsFirst-from_position}
use Rattle.std.proofs.lemmas.Slice.Eq.{starts_is}
use Rattle.std.proofs.lemmas.Bool.Decides.{Decides-eqb}
use Rattle.blocks.specs.Inside.{SoughtTo}
use Rattle.blocks.proofs.Windows.{three_bars, windows_yield, sought_first}
use Rattle.blocks.proofs.eat_error.Goals as goal

yes : (w : List ℕ) → true ≡ starts_with nat_eq w three_bars → w ≡ three_bars ++ drop 3 w
yes w e = (starts_is Decides-eqb w three_bars true e).0 refl

never : (w : List ℕ) → false ≡ starts_with nat_eq w three_bars → (r : List ℕ) → w ≡ three_bars ++ r → ⊥
never w e r q = true≢false (sym ((starts_is Decides-eqb w three_bars false e).1 r q))

pub returns-in-Some : goal.returns-in-Some
returns-in-Some c =
    let s = c.args.source.now in
    let from = c.args.from in
    let first = IsFirst-from_position _ _ c.position.result (λ w. w ≡ three_bars ++ drop 3 w) (λ w. (r : List ℕ) → w ≡ three_bars ++ r → ⊥) c.position.ensures.ran
    (windows_yield (drop from s) (c.windows.ensures.rest ∙ take_all _ _ (omega (arith, length-drop from s))) c.windows.ensures.size)
    (λ x q k. yes x.now (search (rules, tests))) (λ x q k. (search (rules, tests), never x.now (search (rules, tests)))) in
    subst (λ (r : Option ℕ). MatchOption r (SoughtTo s from (length s)) (λ n. SoughtTo s from (from + n + 3))) c.in-Some.is
    (sought_first s from c.position.result c.requires first)

pub returns-in-None : goal.returns-in-None
returns-in-None c =
    let s = c.args.source.now in
    let from = c.args.from in
    let first = IsFirst-from_position _ _ c.position.result (λ w. w ≡ three_bars ++ drop 3 w) (λ w. (r : List ℕ) → w ≡ three_bars ++ r → ⊥) c.position.ensures.ran
    (windows_yield (drop from s) (c.windows.ensures.rest ∙ take_all _ _ (omega (arith, length-drop from s))) c.windows.ensures.size)
    (λ x q k. yes x.now (search (rules, tests))) (λ x q k. (search (rules, tests), never x.now (search (rules, tests)))) in
    subst (λ (r : Option ℕ). MatchOption r (SoughtTo s from (length s)) (λ n. SoughtTo s from (from + n + 3))) c.in-None.is
    (sought_first s from c.position.result c.requires first)
