-- The letters of a source: the next place is further on, a byte below 128 is its own letter, past the end stands END.
-- Assumes nothing.
use mathlib.Core.Path.{◌≡◌, sym, ◌∙◌, subst}
use mathlib.Core.Bool.{Bool, true, false, cond}
use mathlib.Core.List.{List}
use Prim.Native.Nat.{ℕ, ◌+◌, ◌≤◌, ◌<◌, min}
use native.Mathlib.Omega.{arith}
use native.Mathlib.Decide.{dec_lt}
use lib.Dec.{T, ltb}
use lib.ListN.{length, get_or, get_or-eq_default}
use borrow.Author.Tests.{lt-ltb, le-ltb}
use Rattle.regexes.specs.Regex.{END, within}
use Rattle.regexes.proofs.Longest.{Sound}
use Rattle.lexemes.specs.Letters.{WHITE, OTHER, text, letter, next, beyond, width, white_space, code_point}

either : (t : Bool) (a b : ℕ) (P : ℕ → Type 0) → P a → P b → P (cond t a b)
either true a b P p q = p
either false a b P p q = q

module _ (s : List ℕ) (i : ℕ) where
  -- A byte that is not 0 stands within the source.
  pub inside : 0 < get_or s i 0 → i < length s
  inside h = by (dec_lt i (length s))
    where
      by : Dec (i < length s) → i < length s
      by (yes l) = l
      by (no n) = absurd (omega (arith, get_or-eq_default s 0 {n = i} (omega arith)))

  pub letter-ascii : i < length s → get_or s i 0 < 128 → letter s i ≡ get_or s i 0
  unfolding letter
  letter-ascii h g = simp (lt-ltb i (length s) h, lt-ltb (get_or s i 0) 128 g)

  pub letter_high : i < length s → 128 ≤ get_or s i 0 → letter s i ≡ beyond s i
  unfolding letter
  letter_high h g = simp (lt-ltb i (length s) h, le-ltb (get_or s i 0) 128 g)

  pub letter-past : length s ≤ i → letter s i ≡ END
  unfolding letter
  letter-past h = simp (le-ltb i (length s) h)

  pub next_past : length s ≤ i → next s i ≡ i + 1
  unfolding next
  next_past h = simp (le-ltb i (length s) h)

  next_wide : (w : ℕ) → i < length s → width (get_or s i 0) ≡ w → next s i ≡ min (i + w) (length s)
  unfolding next
  next_wide w h e = simp (lt-ltb i (length s) h, e)

  pub next-ascii : i < length s → get_or s i 0 < 128 → next s i ≡ i + 1
  next-ascii h g = next_wide 1 h (simp (lt-ltb (get_or s i 0) 128 g)) ∙ omega arith

  pub next-two : i < length s → 128 ≤ get_or s i 0 → get_or s i 0 < 224 → next s i ≡ min (i + 2) (length s)
  next-two h a b = next_wide 2 h (simp (le-ltb (get_or s i 0) 128 a, lt-ltb (get_or s i 0) 224 b))

  pub next-three : i < length s → 224 ≤ get_or s i 0 → get_or s i 0 < 240 → next s i ≡ min (i + 3) (length s)
  next-three h a b = next_wide 3 h (simp (le-ltb (get_or s i 0) 128 (omega arith), le-ltb (get_or s i 0) 224 a, lt-ltb (get_or s i 0) 240 b))

  pub next_four : i < length s → 240 ≤ get_or s i 0 → next s i ≡ min (i + 4) (length s)
  next_four h a = next_wide 4 h (simp (le-ltb (get_or s i 0) 128 (omega arith), le-ltb (get_or s i 0) 224 (omega arith), le-ltb (get_or s i 0) 240 a))

  beyond_range : (WHITE ≤ beyond s i) × (beyond s i ≤ OTHER)
  unfolding beyond
  beyond_range =
      either (within white_space (code_point (get_or s i 0) (get_or s (i + 1) 0) (get_or s (i + 2) 0) (get_or s (i + 3) 0))) WHITE OTHER
      (λ x. (WHITE ≤ x) × (x ≤ OTHER)) (omega arith) (omega arith)

  -- The letter of a byte beyond ASCII is WHITE or OTHER.
  pub high : i < length s → 128 ≤ get_or s i 0 → (WHITE ≤ letter s i) × (letter s i ≤ OTHER)
  high h g = subst (λ (x : ℕ). (WHITE ≤ x) × (x ≤ OTHER)) (sym (letter_high h g)) beyond_range

  -- A test of the letter, by the byte.
  pub by_byte : (f : ℕ → Bool) → T (f WHITE) → T (f OTHER) → T (f END) → (get_or s i 0 < 128 → T (f (get_or s i 0))) → T (f (letter s i))
  by_byte f a b p g = by (dec_lt i (length s)) (dec_lt (get_or s i 0) 128)
    where
      two : (l : ℕ) → WHITE ≤ l → l ≤ OTHER → T (f l)
      two l h k = at (dec_lt l OTHER)
        where
          at : Dec (l < OTHER) → T (f l)
          at (yes m) = subst (λ (x : ℕ). T (f x)) (omega arith) a
          at (no m) = subst (λ (x : ℕ). T (f x)) (omega arith) b

      by : Dec (i < length s) → Dec (get_or s i 0 < 128) → T (f (letter s i))
      by (yes l) (yes h) = subst (λ (x : ℕ). T (f x)) (sym (letter-ascii l h)) (g h)
      by (yes l) (no n) = two (letter s i) (high l (omega arith)).0 (high l (omega arith)).1
      by (no n) d = subst (λ (x : ℕ). T (f x)) (sym (letter-past (omega arith))) p

  pub inside_letter : i < length s → letter s i < END
  inside_letter h = by (dec_lt (get_or s i 0) 128)
    where
      by : Dec (get_or s i 0 < 128) → letter s i < END
      by (yes l) = omega (arith, letter-ascii h l)
      by (no n) = omega (arith, (high h (omega arith)).1)

  pub letter_inside : letter s i < END → i < length s
  letter_inside h = by (dec_lt i (length s))
    where
      by : Dec (i < length s) → i < length s
      by (yes l) = l
      by (no n) = absurd (omega (arith, letter-past (omega arith)))

  -- A letter below 128 is a byte.
  pub of_letter : (b : ℕ) → b < 128 → letter s i ≡ b → (get_or s i 0 ≡ b) × (next s i ≡ i + 1)
  of_letter b g e = by (dec_lt (get_or s i 0) 128)
    where
      here : i < length s
      here = letter_inside (omega arith)

      by : Dec (get_or s i 0 < 128) → (get_or s i 0 ≡ b) × (next s i ≡ i + 1)
      by (yes h) = (sym (letter-ascii here h) ∙ e, next-ascii here h)
      by (no n) = absurd (omega (arith, (high here (omega arith)).0))

  -- The next place is further on, and within.
  pub up : i < next s i
  unfolding next
  up = by (dec_lt i (length s))
    where
      wide : (b : ℕ) → 0 < width b
      wide b =
          either (ltb b 0x80) 1 (cond (ltb b 0xE0) 2 (cond (ltb b 0xF0) 3 4)) (λ x. 0 < x) (omega arith)
          (either (ltb b 0xE0) 2 (cond (ltb b 0xF0) 3 4) (λ x. 0 < x) (omega arith) (either (ltb b 0xF0) 3 4 (λ x. 0 < x) (omega arith) (omega arith)))

      by : Dec (i < length s) → i < next s i
      by (yes l) = simp (lt-ltb i (length s) l) (omega (arith, wide (get_or s i 0)))
      by (no n) = simp (le-ltb i (length s) (omega arith)) (omega arith)

  pub next-within : i < length s → next s i ≤ length s
  unfolding next
  next-within h = simp (lt-ltb i (length s) h) (omega arith)

  low : letter s i ≤ END
  low = by (dec_lt i (length s))
    where
      by : Dec (i < length s) → letter s i ≤ END
      by (yes l) = omega (arith, inside_letter l)
      by (no n) = omega (arith, letter-past (omega arith))

pub sound : (s : List ℕ) → Sound (text s)
sound s = record { up = up s; low = low s }
