-- A phrase has one outcome only: never a tree and a refusal, never two of either.
-- Assumes nothing.
use mathlib.Core.Path.{◌≡◌, refl, sym, subst}
use mathlib.Core.List.{List}
use Prim.Native.Nat.{ℕ}
use native.Mathlib.Omega.{arith}
use Rattle.grammar.specs.Trees.{Trees, ◌⊕◌}
use Rattle.grammar.specs.Lexemes.{Lexeme}
use Rattle.grammar.specs.Productions.{Body}
use Rattle.grammar.specs.Reading.{Outcome, done, broken, Reading, ended, failed, gone, eaten, uneaten, leafed, closed, subbed, unsubbed, deepened, undeepened, too_deep}

pub same_trees : {us vs : Trees} {r q : ℕ} {xs ys : List Lexeme} → done us r xs ≡ done vs q ys → us ≡ vs
same_trees e = cc

pub same_place : {us vs : Trees} {r q : ℕ} {xs ys : List Lexeme} → done us r xs ≡ done vs q ys → r ≡ q
same_place e = cc

pub same_left : {us vs : Trees} {r q : ℕ} {xs ys : List Lexeme} → done us r xs ≡ done vs q ys → xs ≡ ys
same_left e = cc

pub done_broken : {us : Trees} {r n q x : ℕ} {xs ys : List Lexeme} → done us r xs ≡ broken n q ys x → ⊥
done_broken e = let z : ◌≡◌ {A = ℕ} 0 1 = cc in omega arith

module _ {prefix s : ℕ} where
  -- What comes after a phrase, moved to that phrase's other outcome.
  moved : {b : Body} (ts : Trees) {us vs : Trees} {d r q : ℕ} {xs ys : List Lexeme} {o : Outcome} → done us r xs ≡ done vs q ys → Reading prefix s b (ts ⊕ vs) d q ys o
      → Reading prefix s b (ts ⊕ us) d r xs o
  moved {b} ts {us} {vs} {d} {r} {q} {xs} {ys} {o} e x =
      subst (λ (w : Trees). Reading prefix s b (ts ⊕ w) d r xs o) (sym (same_trees e))
      (subst (λ (m : ℕ). Reading prefix s b (ts ⊕ vs) d m xs o) (sym (same_place e)) (subst (λ (zs : List Lexeme). Reading prefix s b (ts ⊕ vs) d q zs o) (sym (same_left e)) x))

  -- ONE OUTCOME ONLY.
  pub once : {b : Body} {ts : Trees} {d p : ℕ} {xs : List Lexeme} {o o' : Outcome} → Reading prefix s b ts d p xs o → Reading prefix s b ts d p xs o' → o ≡ o'
  once ended ended = refl
  once failed failed = refl
  once (gone r) (gone r') = once r r'
  once (eaten e r) (eaten e' r') = once r r'
  once (eaten e r) (uneaten n) = absurd (n e)
  once (uneaten n) (eaten e r) = absurd (n e)
  once (uneaten n) (uneaten n') = refl
  once (leafed r) (leafed r') = once r r'
  once (closed r) (closed r') = once r r'
  once {ts} (subbed r q) (subbed r' q') = once q (moved ts (once r r') q')
  once (subbed r q) (unsubbed r') = absurd (done_broken (once r r'))
  once (unsubbed r) (subbed r' q') = absurd (done_broken (sym (once r r')))
  once (unsubbed r) (unsubbed r') = once r r'
  once {ts} (deepened r q) (deepened r' q') = once q (moved ts (once r r') q')
  once (deepened r q) (undeepened r') = absurd (done_broken (once r r'))
  once (undeepened r) (deepened r' q') = absurd (done_broken (sym (once r r')))
  once (undeepened r) (undeepened r') = once r r'
  once too_deep too_deep = refl
