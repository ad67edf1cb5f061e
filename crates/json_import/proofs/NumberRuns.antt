-- The machine reads numbers: a whole literal, and then 17 or the tree.
-- Assumes nothing.
use mathlib.Core.Path.{◌≡◌, refl, sym, ap, ◌∙◌}
use mathlib.Core.Bool.{Bool, true, false, cond}
use mathlib.Core.List.{List, [], ◌∷◌, ◌++◌, append_assoc, append-nil}
use Prim.Native.Nat.{ℕ, suc, ◌+◌}
use native.Mathlib.Omega.{arith}
use lib.ListN.{length}
use Rattle.grammar.specs.Numbers.{LARGE}
use Rattle.grammar.specs.Answer.{refused}
use Rattle.json_import.specs.Machine.{Frame, Shape, digits, after, broken, stuck, next, whole, is_over, walk, Stopped, signed, past, step, finish, run}
use Rattle.json_import.proofs.Skips.{stays_broken}
use Rattle.json_import.proofs.NumberShapes.{whole_goes, goes_at}

module _ (deep : ℕ → Bool) (large : List ℕ → Bool) (neg : Bool) (a : ℕ) (fs : List Frame) where
  -- The literal is whole, and is judged before the byte behind it.
  pub judged : (sh : Shape) (w r : List ℕ) (i : ℕ) → whole sh ≡ true → Stopped sh r
      → run deep large (digits sh neg a w fs) i r ≡ cond (large w) (refused LARGE a i 0) (run deep large (after (signed neg w) fs) i r)
  unfolding run step finish
  judged sh w [] i p q = rw p refl
  judged sh w (b ∷ r) i p q = rw (q, p) (by (large w))
    where
      by : (c : Bool) → run deep large (cond c (broken LARGE a i) (past (signed neg w) fs i b)) (i + 1) r
          ≡ cond c (refused LARGE a i 0) (run deep large (past (signed neg w) fs i b) (i + 1) r)
      by true = stays_broken deep large LARGE a i (i + 1) r
      by false = refl

  pub run_digits : (sh : Shape) (w v r t : List ℕ) (i : ℕ) → w ++ v ≡ t → whole (walk sh v) ≡ true → Stopped (walk sh v) r
      → run deep large (digits sh neg a w fs) i (v ++ r) ≡ cond (large t) (refused LARGE a (i + length v) 0) (run deep large (after (signed neg t) fs) (i + length v) r)
  unfolding run step walk
  run_digits sh w [] r t i e p q =
      let same : w ≡ t = sym (append-nil w) ∙ e in
      let at : i ≡ i + 0 = omega arith in
      judged sh w r i p q
      ∙ ap (λ (l : List ℕ). cond (large l) (refused LARGE a i 0) (run deep large (after (signed neg l) fs) i r)) same
      ∙ ap (λ (n : ℕ). cond (large t) (refused LARGE a n 0) (run deep large (after (signed neg t) fs) n r)) at
  run_digits sh w (b ∷ v) r t i e p q =
      let on : is_over (next sh b) ≡ false = goes_at (next sh b) v (whole_goes (walk (next sh b) v) p) in
      let at : i + 1 + length v ≡ i + suc (length v) = omega arith in
      ap (λ (c : Bool). run deep large (cond c (cond (whole sh) (cond (large w) (broken LARGE a i) (past (signed neg w) fs i b)) (stuck i)) (digits (next sh b) neg a (w ++ (b ∷ [])) fs)) (i + 1) (v ++ r)) on
      ∙ run_digits (next sh b) (w ++ (b ∷ [])) v r t (i + 1) (append_assoc w (b ∷ []) v ∙ e) p q
      ∙ ap (λ (n : ℕ). cond (large t) (refused LARGE a n 0) (run deep large (after (signed neg t) fs) n r)) at
