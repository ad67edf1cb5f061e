-- The machine passes white space, and stays where it broke off.
-- Assumes nothing.
use mathlib.Core.Path.{◌≡◌, refl, ap, ◌∙◌}
use mathlib.Core.Bool.{Bool, true}
use mathlib.Core.List.{List, [], ◌∷◌}
use Prim.Native.Nat.{ℕ, ◌+◌}
use Rattle.grammar.specs.Trees.{Trees}
use Rattle.grammar.specs.Answer.{refused}
use Rattle.json_import.specs.Tokens.{At, is_blank, Ws}
use Rattle.json_import.specs.Tokens.Ws.{none, more}
use Rattle.json_import.specs.Json.{NOT_JSON}
use Rattle.json_import.specs.Machine.{Frame, arr, obj, State, want, first, first_name, name, colon, after, stuck, broken, past, step, finish, run, goes}

module _ (deep : ℕ → Bool) (large : List ℕ → Bool) where
  pub skip : (st : State) → ((i b : ℕ) → is_blank b ≡ true → step deep large st i b ≡ st) → {h g : At} → Ws h g → goes deep large st h ≡ goes deep large st g
  unfolding run
  skip st f none = refl
  skip st f (more {i} {b} {s} p w) = ap (λ (x : State). run deep large x (i + 1) s) (f i b p) ∙ skip st f w

  pub skip_want : (fs : List Frame) {h g : At} → Ws h g → goes deep large (want fs) h ≡ goes deep large (want fs) g
  unfolding step
  skip_want fs w = skip (want fs) by w
    where
      by : (i b : ℕ) → is_blank b ≡ true → step deep large (want fs) i b ≡ want fs
      by i b p = rw p refl

  pub skip_first : (fs : List Frame) {h g : At} → Ws h g → goes deep large (first fs) h ≡ goes deep large (first fs) g
  unfolding step
  skip_first fs w = skip (first fs) by w
    where
      by : (i b : ℕ) → is_blank b ≡ true → step deep large (first fs) i b ≡ first fs
      by i b p = rw p refl

  pub skip_first_name : (fs : List Frame) {h g : At} → Ws h g → goes deep large (first_name fs) h ≡ goes deep large (first_name fs) g
  unfolding step
  skip_first_name fs w = skip (first_name fs) by w
    where
      by : (i b : ℕ) → is_blank b ≡ true → step deep large (first_name fs) i b ≡ first_name fs
      by i b p = rw p refl

  pub skip_name : (ts : Trees) (fs : List Frame) {h g : At} → Ws h g → goes deep large (name ts fs) h ≡ goes deep large (name ts fs) g
  unfolding step
  skip_name ts fs w = skip (name ts fs) by w
    where
      by : (i b : ℕ) → is_blank b ≡ true → step deep large (name ts fs) i b ≡ name ts fs
      by i b p = rw p refl

  pub skip_colon : (ts : Trees) (w : List ℕ) (a e : ℕ) (fs : List Frame) {h g : At} → Ws h g → goes deep large (colon ts w a e fs) h ≡ goes deep large (colon ts w a e fs) g
  unfolding step
  skip_colon ts w a e fs x = skip (colon ts w a e fs) by x
    where
      by : (i b : ℕ) → is_blank b ≡ true → step deep large (colon ts w a e fs) i b ≡ colon ts w a e fs
      by i b p = rw p refl

  pub skip_after : (t : Trees) (fs : List Frame) {h g : At} → Ws h g → goes deep large (after t fs) h ≡ goes deep large (after t fs) g
  unfolding step past
  skip_after t fs w = skip (after t fs) (by fs) w
    where
      by : (fs : List Frame) (i b : ℕ) → is_blank b ≡ true → step deep large (after t fs) i b ≡ after t fs
      by [] i b p = rw p refl
      by (arr ts ∷ fs) i b p = rw p refl
      by (obj ts w a e ∷ fs) i b p = rw p refl

  -- Broken off is broken off.
  pub stays_broken : (n a e i : ℕ) (s : List ℕ) → run deep large (broken n a e) i s ≡ refused n a e 0
  unfolding run step finish
  stays_broken n a e i [] = refl
  stays_broken n a e i (b ∷ s) = stays_broken n a e (i + 1) s

  pub stays_stuck : (n i : ℕ) (s : List ℕ) → run deep large (stuck n) i s ≡ refused NOT_JSON n n 0
  unfolding run step finish
  stays_stuck n i [] = refl
  stays_stuck n i (b ∷ s) = stays_stuck n (i + 1) s
