-- The listings as numbers: stored one behind the other.
-- Assumes nothing.
use mathlib.Core.Path.{◌≡◌, refl, sym, ap, ◌∙◌}
use mathlib.Core.List.{List, [], ◌∷◌, ◌++◌, append_assoc}
use Prim.Native.Nat.{ℕ, suc, ◌+◌, ◌-◌, ◌*◌, ◌≤◌}
use native.Mathlib.Omega.{arith}
use lib.ListN.{length, take, drop, set, replicate, length-append, length-set, length-replicate, replicate-append-replicate}
use lib.Seq.{sets, sets-eq, take_at, drop_at, drop-drop}
use Rattle.mass.specs.Mass.{Listing, listing, numbers}
use Rattle.mass.specs.Inner.{Stores}

-- Four stores.
four : (l : List ℕ) (i o k a e : ℕ) → set (set (set (set l i o) (i + 1) k) (i + 2) a) (i + 3) e ≡ sets l i (o ∷ k ∷ a ∷ e ∷ [])
four l i o k a e =
    let x : i + 1 ≡ suc i = omega arith in
    let y : i + 2 ≡ suc (suc i) = omega arith in
    let z : i + 3 ≡ suc (suc (suc i)) = omega arith in
    ap (λ (j : ℕ). set (set (set (set l i o) j k) (i + 2) a) (i + 3) e) x ∙ ap (λ (j : ℕ). set (set (set (set l i o) (suc i) k) j a) (i + 3) e) y
    ∙ ap (λ (j : ℕ). set (set (set (set l i o) (suc i) k) (suc (suc i)) a) j e) z

pub stores : (l : List ℕ) (count o k a e : ℕ) → Stores l count o k a e (set (set (set (set l (count * 4) o) (count * 4 + 1) k) (count * 4 + 2) a) (count * 4 + 3) e)
stores l count o k a e =
    let i = count * 4 in
    record {
      long = length-set (set (set (set l i o) (i + 1) k) (i + 2) a) (i + 3) e ∙ length-set (set (set l i o) (i + 1) k) (i + 2) a ∙ length-set (set l i o) (i + 1) k ∙ length-set l i o;
      stored = λ h. four l i o k a e ∙ sets-eq (o ∷ k ∷ a ∷ e ∷ []) l i h ∙ append_assoc (take i l) (o ∷ k ∷ a ∷ e ∷ []) (drop (i + 4) l);
    }

pub numbers_append : (ls ms : List Listing) → numbers (ls ++ ms) ≡ numbers ls ++ numbers ms
unfolding numbers
numbers_append [] ms = refl
numbers_append (listing o k a e ∷ ls) ms = ap (λ (l : List ℕ). o ∷ k ∷ a ∷ e ∷ l) (numbers_append ls ms)

pub numbers-length : (ls : List Listing) → length (numbers ls) ≡ length ls * 4
unfolding numbers
numbers-length [] = refl
numbers-length (listing o k a e ∷ ls) = omega (arith, numbers-length ls)

-- Zeros, without the first of them.
drop_zeros : (k n : ℕ) → k ≤ n → drop {A = ℕ} k (replicate n 0) ≡ replicate (n - k) 0
drop_zeros k n h =
    let q : k + (n - k) ≡ n = omega arith in
    ap (λ (i : ℕ). drop {A = ℕ} k (replicate i 0)) (sym q) ∙ ap (drop k) (sym (replicate-append-replicate k (n - k) 0)) ∙ drop_at (replicate k 0) (replicate (n - k) 0) k (length-replicate k 0)

-- The list as it is filled, and one listing more.

pub filled_next : (size count o k a e : ℕ) (ls : List Listing) (list after : List ℕ) → count ≡ length ls → length list ≡ size
    → (4 * length ls ≤ size → list ≡ numbers ls ++ replicate (size - 4 * length ls) 0) → Stores list count o k a e after
    → 4 * length (ls ++ listing o k a e ∷ []) ≤ size → after ≡ numbers (ls ++ listing o k a e ∷ []) ++ replicate (size - 4 * length (ls ++ listing o k a e ∷ [])) 0
unfolding numbers
filled_next size count o k a e ls list after c l f s h =
    let n = length-append ls (listing o k a e ∷ []) in
    let x = f (omega (arith, n)) in
    let z : List ℕ = replicate (size - 4 * length ls) 0 in
    let w : length (numbers ls) ≡ count * 4 = omega (arith, numbers-length ls) in
    let t : take (count * 4) list ≡ numbers ls = ap (take (count * 4)) x ∙ take_at (numbers ls) z (count * 4) w in
    let d : drop (count * 4) list ≡ z = ap (drop (count * 4)) x ∙ drop_at (numbers ls) z (count * 4) w in
    let q : size - 4 * length ls - 4 ≡ size - 4 * length (ls ++ listing o k a e ∷ []) = omega (arith, n) in
    let r : drop (count * 4 + 4) list ≡ replicate (size - 4 * length (ls ++ listing o k a e ∷ [])) 0 =
    sym (drop-drop 4 (count * 4) list) ∙ ap (drop 4) d ∙ drop_zeros 4 (size - 4 * length ls) (omega (arith, n)) ∙ ap (λ (i : ℕ). replicate {A = ℕ} i 0) q in
    s.stored (omega (arith, n))
    ∙ ap (λ (u : List ℕ). u ++ (o ∷ k ∷ a ∷ e ∷ drop (count * 4 + 4) list)) t
    ∙ ap (λ (u : List ℕ). numbers ls ++ (o ∷ k ∷ a ∷ e ∷ u)) r
    ∙ sym (append_assoc (numbers ls) (o ∷ k ∷ a ∷ e ∷ []) (replicate (size - 4 * length (ls ++ listing o k a e ∷ [])) 0))
    ∙ ap (λ (u : List ℕ). u ++ replicate (size - 4 * length (ls ++ listing o k a e ∷ [])) 0) (sym (numbers_append ls (listing o k a e ∷ [])))
