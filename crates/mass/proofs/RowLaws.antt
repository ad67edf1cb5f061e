-- The rows of the lent list are its listings.
-- Assumes nothing.
use mathlib.Core.Path.{◌≡◌, refl, sym, ap, subst, ◌∙◌}
use mathlib.Core.List.{List, [], ◌∷◌, ◌++◌}
use Prim.Native.Nat.{ℕ, zero, suc, ◌+◌, ◌*◌, ◌<◌}
use native.Mathlib.Omega.{arith}
use lib.ListN.{length, get_or}
use Rattle.mass.specs.Mass.{Listing, listing, offset, numbers, row, In, Ascends}
use Rattle.mass.proofs.Sole.{above}

row_next : (a b c d i : ℕ) (l : List ℕ) → row (a ∷ b ∷ c ∷ d ∷ l) (suc i) ≡ row l i
row_next a b c d i l =
    let w = a ∷ b ∷ c ∷ d ∷ l in
    let x : suc i * 4 ≡ suc (suc (suc (suc (i * 4)))) = omega arith in
    let at : (k : ℕ) → get_or w (suc i * 4 + k) 0 ≡ get_or l (i * 4 + k) 0 = λ k. ap (λ (j : ℕ). get_or w j 0) (let y : suc i * 4 + k ≡ suc (suc (suc (suc (i * 4 + k)))) = omega arith in y) in
    ap (λ (j : ℕ). listing (get_or w j 0) (get_or w (suc i * 4 + 1) 0) (get_or w (suc i * 4 + 2) 0) (get_or w (suc i * 4 + 3) 0)) x
    ∙ ap (λ (v : ℕ). listing (get_or l (i * 4) 0) v (get_or w (suc i * 4 + 2) 0) (get_or w (suc i * 4 + 3) 0)) (at 1)
    ∙ ap (λ (v : ℕ). listing (get_or l (i * 4) 0) (get_or l (i * 4 + 1) 0) v (get_or w (suc i * 4 + 3) 0)) (at 2)
    ∙ ap (λ (v : ℕ). listing (get_or l (i * 4) 0) (get_or l (i * 4 + 1) 0) (get_or l (i * 4 + 2) 0) v) (at 3)

module _ (zs : List ℕ) where
  -- Each row is in the list, ..
  pub row_in : (ls : List Listing) (i : ℕ) → i < length ls → In (row (numbers ls ++ zs) i) ls
  unfolding numbers
  row_in [] i h = absurd (omega arith)
  row_in (listing o k a e ∷ ls) zero h = In.first
  row_in (listing o k a e ∷ ls) (suc i) h = subst (λ (l : Listing). In l (listing o k a e ∷ ls)) (sym (row_next o k a e i (numbers ls ++ zs))) (In.later (row_in ls i (omega arith)))

  -- .. and what is in the list is a row.
  pub in_row : (ls : List Listing) {l : Listing} → In l ls → (i : ℕ) × (i < length ls) × (row (numbers ls ++ zs) i ≡ l)
  unfolding numbers
  in_row [] j = elim j [ ]
  in_row (listing o k a e ∷ ls) In.first = (0, omega arith, refl)
  in_row (listing o k a e ∷ ls) (In.later j) = let x = in_row ls j in (suc x.0, omega (arith, x.1), row_next o k a e x.0 (numbers ls ++ zs) ∙ x.2)

  pub rows_ascend : {n : ℕ} (ls : List Listing) → Ascends n ls → (i j : ℕ) → i < j → j < length ls → offset (row (numbers ls ++ zs) i) < offset (row (numbers ls ++ zs) j)
  unfolding numbers
  rows_ascend [] a i j h g = absurd (omega arith)
  rows_ascend (listing o k a e ∷ ls) (Ascends.more x y) i zero h g = absurd (omega arith)
  rows_ascend (listing o k a e ∷ ls) (Ascends.more x y) zero (suc j) h g =
      let z = above y (row_in ls j (omega arith)) in
      subst (λ (l : Listing). o < offset l) (sym (row_next o k a e j (numbers ls ++ zs))) z
  rows_ascend (listing o k a e ∷ ls) (Ascends.more x y) (suc i) (suc j) h g =
      let z = rows_ascend ls y i j (omega arith) (omega arith) in
      subst (λ (l : Listing). offset l < offset (row (o ∷ k ∷ a ∷ e ∷ (numbers ls ++ zs)) (suc j))) (sym (row_next o k a e i (numbers ls ++ zs)))
      (subst (λ (l : Listing). offset (row (numbers ls ++ zs) i) < offset l) (sym (row_next o k a e j (numbers ls ++ zs))) z)
