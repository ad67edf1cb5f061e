-- A reader that computes, with fuel, for worked examples: what it gives is a Reading.
-- Assumes nothing.
use mathlib.Core.Path.{◌≡◌, refl, subst}
use mathlib.Core.Bool.{Bool, true, false}
use mathlib.Core.List.{List}
use mathlib.Core.Option.{Option, some, none as nothing}
use Prim.Native.Nat.{ℕ, zero, suc}
use native.Mathlib.Omega.{arith}
use lib.Dec.{eqb}
use borrow.Author.Tests.{eqb-true, eqb-false}
use Rattle.grammar.specs.Trees.{Trees, none, tree, ◌⊕◌, count}
use Rattle.grammar.specs.Lexemes.{Lexeme, rest, kind_of, stop_of}
use Rattle.grammar.specs.Productions.{Phrase, Body, end, goto, fail, ◌▸◌, eat, leaf, sub, deep, close}
use Rattle.grammar.specs.Reading.{production, Outcome, done, broken, Reading, ended, failed, gone, eaten, uneaten, leafed, closed, subbed, unsubbed, deepened, undeepened, too_deep}

unfoldable pub after : Option Outcome → (Trees → ℕ → List Lexeme → Option Outcome) → Option Outcome
after nothing f = nothing
after (some (done us r ys)) f = f us r ys
after (some (broken n r ys x)) f = some (broken n r ys x)

some_is : {o o' : Outcome} → some o ≡ some o' → o ≡ o'
some_is e = cc

none_some : {o : Outcome} → nothing ≡ some o → ⊥
none_some e = let z : ◌≡◌ {A = ℕ} 0 1 = cc in omega arith

module _ (prefix s : ℕ) where
  unfoldable pub run : ℕ → Body → Trees → ℕ → ℕ → List Lexeme → Option Outcome
  run zero b ts d p xs = nothing
  run (suc n) end ts d p xs = some (done ts p xs)
  run (suc n) (fail m x) ts d p xs = some (broken m p xs x)
  run (suc n) (goto q) ts d p xs = run n (production prefix s q p xs (count ts)) ts d p xs
  run (suc n) (eat k ▸ b) ts d p xs = elim (eqb (kind_of xs) k) [ true ↦ run n b ts d (stop_of p xs) (rest xs) | false ↦ some (broken 5 p xs k) ]
  run (suc n) (leaf t fs ▸ b) ts d p xs = run n b (ts ⊕ tree t fs none) d (stop_of p xs) (rest xs)
  run (suc n) (close t fs ▸ b) ts d p xs = run n b (tree t fs ts) d p xs
  run (suc n) (sub q ▸ b) ts d p xs = after (run n (production prefix s q p xs 0) none d p xs) (λ us r ys. run n b (ts ⊕ us) d r ys)
  run (suc n) (deep q ▸ b) ts zero p xs = some (broken 11 p xs 0)
  run (suc n) (deep q ▸ b) ts (suc d) p xs = after (run n (production prefix s q p xs 0) none d p xs) (λ us r ys. run n b (ts ⊕ us) (suc d) r ys)

  -- What stands after a phrase's own reading, as a Reading.
  after_sub : {q : Phrase} {b : Body} {ts : Trees} {d p : ℕ} {xs : List Lexeme} {o : Outcome} (r : Option Outcome) (next : Trees → ℕ → List Lexeme → Option Outcome)
      → ((o' : Outcome) → r ≡ some o' → Reading prefix s (production prefix s q p xs 0) none d p xs o')
      → ((us : Trees) (j : ℕ) (ys : List Lexeme) → next us j ys ≡ some o → Reading prefix s b (ts ⊕ us) d j ys o)
      → after r next ≡ some o
      → Reading prefix s (sub q ▸ b) ts d p xs o
  unfolding after
  after_sub nothing next f g h = absurd (none_some h)
  after_sub (some (done us j ys)) next f g h = subbed (f (done us j ys) refl) (g us j ys h)
  after_sub {q} {b} {ts} {d} {p} {xs} (some (broken m j ys x)) next f g h =
      subst (λ (w : Outcome). Reading prefix s (sub q ▸ b) ts d p xs w) (some_is h) (unsubbed (f (broken m j ys x) refl))

  after_deep : {q : Phrase} {b : Body} {ts : Trees} {d p : ℕ} {xs : List Lexeme} {o : Outcome} (r : Option Outcome) (next : Trees → ℕ → List Lexeme → Option Outcome)
      → ((o' : Outcome) → r ≡ some o' → Reading prefix s (production prefix s q p xs 0) none d p xs o')
      → ((us : Trees) (j : ℕ) (ys : List Lexeme) → next us j ys ≡ some o → Reading prefix s b (ts ⊕ us) (suc d) j ys o)
      → after r next ≡ some o
      → Reading prefix s (deep q ▸ b) ts (suc d) p xs o
  unfolding after
  after_deep nothing next f g h = absurd (none_some h)
  after_deep (some (done us j ys)) next f g h = deepened (f (done us j ys) refl) (g us j ys h)
  after_deep {q} {b} {ts} {d} {p} {xs} (some (broken m j ys x)) next f g h =
      subst (λ (w : Outcome). Reading prefix s (deep q ▸ b) ts (suc d) p xs w) (some_is h) (undeepened (f (broken m j ys x) refl))

  after_eat : {k : ℕ} {b : Body} {ts : Trees} {d p : ℕ} {xs : List Lexeme} {o : Outcome} (t : Bool) (next : Option Outcome)
      → eqb (kind_of xs) k ≡ t
      → (next ≡ some o → Reading prefix s b ts d (stop_of p xs) (rest xs) o)
      → elim t [ true ↦ next | false ↦ some (broken 5 p xs k) ] ≡ some o
      → Reading prefix s (eat k ▸ b) ts d p xs o
  after_eat {k} {xs = xs} true next q f h = eaten (eqb-true (kind_of xs) k q) (f h)
  after_eat {k} {b} {ts} {d} {p} {xs} false next q f h =
      subst (λ (w : Outcome). Reading prefix s (eat k ▸ b) ts d p xs w) (some_is h) (uneaten (eqb-false (kind_of xs) k q))

  pub sound : (n : ℕ) (b : Body) (ts : Trees) (d p : ℕ) (xs : List Lexeme) (o : Outcome) → run n b ts d p xs ≡ some o → Reading prefix s b ts d p xs o
  unfolding run
  sound zero b ts d p xs o e = absurd (none_some e)
  sound (suc n) end ts d p xs o e = subst (λ (w : Outcome). Reading prefix s end ts d p xs w) (some_is e) ended
  sound (suc n) (fail m x) ts d p xs o e = subst (λ (w : Outcome). Reading prefix s (fail m x) ts d p xs w) (some_is e) failed
  sound (suc n) (goto q) ts d p xs o e = gone (sound n (production prefix s q p xs (count ts)) ts d p xs o e)
  sound (suc n) (eat k ▸ b) ts d p xs o e =
      after_eat (eqb (kind_of xs) k) (run n b ts d (stop_of p xs) (rest xs)) refl (λ h. sound n b ts d (stop_of p xs) (rest xs) o h) e
  sound (suc n) (leaf t fs ▸ b) ts d p xs o e = leafed (sound n b (ts ⊕ tree t fs none) d (stop_of p xs) (rest xs) o e)
  sound (suc n) (close t fs ▸ b) ts d p xs o e = closed (sound n b (tree t fs ts) d p xs o e)
  sound (suc n) (sub q ▸ b) ts d p xs o e =
      after_sub (run n (production prefix s q p xs 0) none d p xs) (λ us r ys. run n b (ts ⊕ us) d r ys)
      (λ o' h. sound n (production prefix s q p xs 0) none d p xs o' h)
      (λ us r ys h. sound n b (ts ⊕ us) d r ys o h)
      e
  sound (suc n) (deep q ▸ b) ts zero p xs o e = subst (λ (w : Outcome). Reading prefix s (deep q ▸ b) ts zero p xs w) (some_is e) too_deep
  sound (suc n) (deep q ▸ b) ts (suc d) p xs o e =
      after_deep (run n (production prefix s q p xs 0) none d p xs) (λ us r ys. run n b (ts ⊕ us) (suc d) r ys)
      (λ o' h. sound n (production prefix s q p xs 0) none d p xs o' h)
      (λ us r ys h. sound n b (ts ⊕ us) (suc d) r ys o h)
      e
