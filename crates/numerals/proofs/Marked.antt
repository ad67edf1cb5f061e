-- The limit itself is refused, and one less is not; and there is no second answer.
-- Assumes nothing.
use mathlib.Core.Path.{◌≡◌, refl, sym, subst, ◌∙◌}
use mathlib.Core.Bool.{Bool, false, true≢false}
use mathlib.Core.List.{List, [], ◌∷◌, ◌++◌}
use Prim.Native.Nat.{ℕ, ◌+◌, ◌*◌, ◌^◌}
use Prim.Native.Char.{code}
use native.Mathlib.Omega.{arith}
use lib.Dec.{T, leb, leb→le, ltb, ltb→lt}
use lib.ListN.{take}
use Rattle.numerals.specs.Value.{LIMIT, AtLeast, spelled, digits, before, behind, has, mantissa, exponent, places, Large, multiplied, divided, TooLarge, Verdict, too_large, in_range}
use Rattle.numerals.specs.Inner.{ascii, limit_digits}
use Rattle.numerals.proofs.Powers.{none}

-- No second answer.
pub verdict_once : {t : List ℕ} {a b : Bool} → Verdict t a → Verdict t b → a ≡ b
verdict_once (too_large x) (too_large y) = refl
verdict_once (too_large x) (in_range y) = absurd (y x)
verdict_once (in_range x) (too_large y) = absurd (x y)
verdict_once (in_range x) (in_range y) = refl

-- What is computed of a literal without a minus behind its `e`.
abbrev up : List ℕ → ℕ
up t = spelled 0 (mantissa t) * 10 ^ spelled 0 (exponent t)

abbrev down : List ℕ → ℕ
down t = LIMIT * 10 ^ places (mantissa t)

reaches : (t : List ℕ) → has 45 (exponent t) ≡ false → T (leb (down t) (up t)) → TooLarge t
reaches t e h = record { value = multiplied e (leb→le (down t) (up t) h) }

misses : (t : List ℕ) → has 45 (exponent t) ≡ false → T (ltb (up t) (down t)) → TooLarge t → ⊥
misses t e h l = by l.value
  where
    by : Large (mantissa t) (exponent t) → ⊥
    by (multiplied f a) = omega (arith, ltb→lt (up t) (down t) h, a)
    by (divided f a) = true≢false (sym f ∙ e)

-- Zero is in range, whatever its exponent.
pub zero_in_range : (t : List ℕ) → spelled 0 (mantissa t) ≡ 0 → TooLarge t → ⊥
zero_in_range t z l = by l.value
  where
    by : Large (mantissa t) (exponent t) → ⊥
    by (multiplied f a) = none (spelled 0 (exponent t)) (places (mantissa t)) (subst (λ (n : ℕ). AtLeast n (spelled 0 (exponent t)) (places (mantissa t))) z a)
    by (divided f a) = none 0 (places (mantissa t) + spelled 0 (exponent t)) (subst (λ (n : ℕ). AtLeast n 0 (places (mantissa t) + spelled 0 (exponent t))) z a)

-- 2^1024 - 2^970, and one less, which ends in 1 and not in 2.
pub limit_too_large : TooLarge limit_digits
unfolding limit_digits before behind has spelled digits LIMIT
limit_too_large = reaches limit_digits refl tt

pub less_in_range : TooLarge (take 308 limit_digits ++ code "1" ∷ []) → ⊥
unfolding limit_digits before behind has spelled digits LIMIT
less_in_range = misses (take 308 limit_digits ++ code "1" ∷ []) refl tt

-- Leading zeros count for nothing, places do, and so does every digit: 0.00 with the limit's digits and e311, and with the last digit less.
pub moved_too_large : TooLarge (ascii "0.00" ++ limit_digits ++ ascii "e+0_311")
unfolding limit_digits before behind has spelled digits LIMIT
moved_too_large = reaches (ascii "0.00" ++ limit_digits ++ ascii "e+0_311") refl tt

pub moved_in_range : TooLarge (ascii "0.00" ++ (take 308 limit_digits ++ code "1" ∷ []) ++ ascii "e+0_311") → ⊥
unfolding limit_digits before behind has spelled digits LIMIT
moved_in_range = misses (ascii "0.00" ++ (take 308 limit_digits ++ code "1" ∷ []) ++ ascii "e+0_311") refl tt
