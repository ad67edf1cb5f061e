-- Laws of parts of a list: what a store into one part leaves of the others, and lists that have the same parts.
-- Assumes nothing.
use mathlib.Core.Path.{◌≡◌, sym, ap, ap₂, ◌∙◌}
use mathlib.Core.List.{List, ◌++◌}
use Prim.Native.Nat.{ℕ, zero, suc, ◌+◌, ◌-◌, ◌≤◌, ◌<◌}
use native.Mathlib.Omega.{arith}
use lib.ListN.{length, take, drop}
use lib.Seq.{slice, length-slice, take-append-le, take-take, take_at, drop_at, length-take-le, take-add, take-length}
use Rattle.leaves.proofs.PartLaws.{lent}

module _ (l last : List ℕ) (a b : ℕ) (within : a ≤ length l) where
  -- What stands where a part was lent and came back.
  abbrev rest : List ℕ
  rest = drop (b - a) (drop a l)

  -- parts before it are as they were
  pub part-before : (x y : ℕ) → y ≤ a → slice x y (take a l ++ (last ++ drop (b - a) (drop a l))) ≡ slice x y l
  part-before x y h =
      ap (drop x) (take-append-le y (take a l) (last ++ rest) (omega (arith, length-take-le a l within)) ∙ take-take y a l h)

  -- and it is what came back, which is as long as what was lent
  pub part_itself : length last ≡ length (take (b - a) (drop a l)) → b ≤ length l → slice a b (take a l ++ (last ++ drop (b - a) (drop a l))) ≡ last
  part_itself long h =
      sym (lent a b (take a l ++ (last ++ rest)))
      ∙ ap (take (b - a)) (drop_at (take a l) (last ++ rest) a (length-take-le a l within))
      ∙ take_at last rest (b - a) (long ∙ ap length (lent a b l) ∙ length-slice a b l h)

-- Lists that have the same parts have the same front: parts that follow each other from 0 on.
module _ (from to : ℕ → ℕ) (n : ℕ) (start : from 0 ≡ 0) (next : (i : ℕ) → i < n → to i ≡ from (suc i)) (forward : (i : ℕ) → i < n → from i ≤ to i)
    (l m : List ℕ) (same : (i : ℕ) → i < n → slice (from i) (to i) l ≡ slice (from i) (to i) m) where
  longer : (a b : ℕ) (k : List ℕ) → a ≤ b → take b k ≡ take a k ++ slice a b k
  longer a b k h =
      ap (λ (j : ℕ). take j k) (let q : b ≡ a + (b - a) = omega arith in q) ∙ take-add a (b - a) k ∙ ap (λ (r : List ℕ). take a k ++ r) (lent a b k)

  same_front : (i : ℕ) → i ≤ n → take (from i) l ≡ take (from i) m
  same_front zero h = ap (λ (j : ℕ). take j l) start ∙ sym (ap (λ (j : ℕ). take j m) start)
  same_front (suc i) h =
      let below : i < n = omega arith in
      let up = next i below in
      let step = forward i below in
      ap (λ (j : ℕ). take j l) (sym up)
      ∙ longer (from i) (to i) l step
      ∙ ap₂ (λ (x y : List ℕ). x ++ y) (same_front i (omega arith)) (same i below)
      ∙ sym (longer (from i) (to i) m step)
      ∙ ap (λ (j : ℕ). take j m) up

  -- where the last one ends with both
  pub same_parts : from n ≡ length l → from n ≡ length m → l ≡ m
  same_parts p q =
      sym (take-length l) ∙ ap (λ (j : ℕ). take j l) (sym p) ∙ same_front n (omega arith) ∙ ap (λ (j : ℕ). take j m) q ∙ take-length m
