-- A key that no row of a table has.
-- Assumes nothing.
use mathlib.Core.Path.{◌≡◌, refl, ap, ◌∙◌}
use mathlib.Core.Bool.{Bool, true, false, ◌&&◌, ◌||◌, cond}
use mathlib.Core.List.{List, [], ◌∷◌}
use Prim.Native.Nat.{ℕ}
use lib.Dec.{T, eqb}
use borrow.Author.Tests.{eqb-true, ne_eqb}
use Rattle.grammar.proofs.LayoutLaws.{NoneOf}
use Rattle.grammar.proofs.Chosen.{and_left, and_right}
use Rattle.images.specs.Inner.{Entry, ◌is◌, look}

unfoldable pub among : ℕ → List ℕ → Bool
among k [] = false
among k (j ∷ ks) = eqb k j || among k ks

unfoldable pub all_among : {A : Type 0} → List (Entry A) → List ℕ → Bool
unfolding among
all_among [] ks = true
all_among ((k is a) ∷ rest) ks = among k ks && all_among rest ks

not_key : (t k : ℕ) (ks : List ℕ) → T (among k ks) → NoneOf t ks → t ≡ k → ⊥
unfolding among
not_key t k [] h n e = h
not_key t k (j ∷ ks) h n e = by (eqb k j) refl h (λ i. not_key t k ks i n.0 e)
  where
    by : (b : Bool) → eqb k j ≡ b → T (b || among k ks) → (T (among k ks) → ⊥) → ⊥
    by true q h rest = n.1 (e ∙ eqb-true k j q)
    by false q h rest = rest h

-- The keys of a `match`, the last arm's first, are those of a table: a key that is none of them is in no row.
pub look_none : {A : Type 0} (other : A) (t : ℕ) (ks : List ℕ) (rs : List (Entry A)) → T (all_among rs ks) → NoneOf t ks → look other t rs ≡ other
unfolding look all_among
look_none other t ks [] h n = refl
look_none other t ks ((k is a) ∷ rs) h n =
    ap (λ (b : Bool). cond b a (look other t rs)) (ne_eqb t k (not_key t k ks (and_left (among k ks) (all_among rs ks) h) n))
    ∙ look_none other t ks rs (and_right (among k ks) (all_among rs ks) h) n
