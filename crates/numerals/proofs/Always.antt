-- Every text is too large or not, and a test says which: for what is computed, and never where an exponent may be large.
-- Assumes nothing.
use mathlib.Core.Path.{◌≡◌, refl, sym, ◌∙◌}
use mathlib.Core.Bool.{Bool, true, false, not, cond, true≢false}
use mathlib.Core.List.{List}
use Prim.Native.Nat.{ℕ, ◌+◌, ◌*◌, ◌^◌, ◌<◌}
use native.Mathlib.Omega.{arith}
use lib.Dec.{T, leb, leb→le, nleb→lt}
use Rattle.numerals.specs.Value.{LIMIT, spelled, digits, before, behind, mantissa, exponent, places, has, AtLeast, Large, multiplied, divided, TooLarge}
use Rattle.numerals.specs.Inner.{Says}

unfoldable at_least : ℕ → ℕ → ℕ → Bool
at_least n up down = leb (LIMIT * 10 ^ down) (n * 10 ^ up)

says_at_least : (n up down : ℕ) → Says (at_least n up down) (AtLeast n up down)
unfolding at_least
says_at_least n up down = by (at_least n up down) (leb→le (LIMIT * 10 ^ down) (n * 10 ^ up)) (nleb→lt (LIMIT * 10 ^ down) (n * 10 ^ up))
  where
    by : (r : Bool) → (T r → AtLeast n up down) → (T (not r) → n * 10 ^ up < LIMIT * 10 ^ down) → Says r (AtLeast n up down)
    by true f g = f tt
    by false f g = λ a. omega (arith, g tt, a)

unfoldable is_large : List ℕ → List ℕ → Bool
is_large m x = cond (has 45 x) (at_least (spelled 0 m) 0 (places m + spelled 0 x)) (at_least (spelled 0 m) (spelled 0 x) (places m))

unfoldable pub is_too_large : List ℕ → Bool
unfolding is_large at_least LIMIT spelled digits before behind has
is_too_large t = is_large (mantissa t) (exponent t)

says_large : (m x : List ℕ) → Says (is_large m x) (Large m x)
unfolding is_large
says_large m x = by (has 45 x) refl
  where
    of_divided : has 45 x ≡ true → (r : Bool) → Says r (AtLeast (spelled 0 m) 0 (places m + spelled 0 x)) → Says r (Large m x)
    of_divided e true a = divided e a
    of_divided e false a = λ g. no g
      where
        no : Large m x → ⊥
        no (multiplied f b) = true≢false (sym e ∙ f)
        no (divided f b) = a b

    of_multiplied : has 45 x ≡ false → (r : Bool) → Says r (AtLeast (spelled 0 m) (spelled 0 x) (places m)) → Says r (Large m x)
    of_multiplied e true a = multiplied e a
    of_multiplied e false a = λ g. no g
      where
        no : Large m x → ⊥
        no (multiplied f b) = a b
        no (divided f b) = true≢false (sym f ∙ e)

    by : (h : Bool) → has 45 x ≡ h
        → Says (cond h (at_least (spelled 0 m) 0 (places m + spelled 0 x)) (at_least (spelled 0 m) (spelled 0 x) (places m))) (Large m x)
    by true e = of_divided e (at_least (spelled 0 m) 0 (places m + spelled 0 x)) (says_at_least (spelled 0 m) 0 (places m + spelled 0 x))
    by false e = of_multiplied e (at_least (spelled 0 m) (spelled 0 x) (places m)) (says_at_least (spelled 0 m) (spelled 0 x) (places m))

pub says_too_large : (t : List ℕ) → Says (is_too_large t) (TooLarge t)
unfolding is_too_large
says_too_large t = by (is_large (mantissa t) (exponent t)) (says_large (mantissa t) (exponent t))
  where
    by : (r : Bool) → Says r (Large (mantissa t) (exponent t)) → Says r (TooLarge t)
    by true a = record { value = a }
    by false a = λ g. a g.value

pub too_large_or_not : (t : List ℕ) → Dec (TooLarge t)
too_large_or_not t = by (is_too_large t) (says_too_large t)
  where
    by : (r : Bool) → Says r (TooLarge t) → Dec (TooLarge t)
    by true a = yes a
    by false a = no a
