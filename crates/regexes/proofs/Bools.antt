-- Tests: halves of `&&` and `||`, a test at every number below a bound, and one test that implies another.
-- Assumes nothing.
use mathlib.Core.Path.{◌≡◌, refl, sym, subst}
use mathlib.Core.Bool.{Bool, true, false, not, ◌&&◌, ◌||◌}
use mathlib.Core.List.{List, [], ◌∷◌}
use mathlib.Core.Logic.{◌⊎◌, inl, inr}
use Prim.Native.Nat.{ℕ, zero, suc, ◌<◌}
use native.Mathlib.Omega.{arith}
use native.Mathlib.Decide.{ℕ_discrete}
use lib.Dec.{T}

pub and : (a b : Bool) → T a → T b → T (a && b)
and true b p q = q
and false b p q = absurd p

pub and_left : (a b : Bool) → T (a && b) → T a
and_left true b p = tt
and_left false b p = p

pub and_right : (a b : Bool) → T (a && b) → T b
and_right true b p = p
and_right false b p = absurd p

pub or_left : (a b : Bool) → T a → T (a || b)
or_left true b p = tt
or_left false b p = absurd p

pub or_right_lem : (a b : Bool) → T b → T (a || b)
or_right_lem true b p = tt
or_right_lem false b p = p

pub or_cases : (a b : Bool) → T (a || b) → T a ⊎ T b
or_cases true b p = inl tt
or_cases false b p = inr p

pub refuted : (a : Bool) → T (not a) → T a → ⊥
refuted true p q = p
refuted false p q = q

pub refutes : (a : Bool) → (T a → ⊥) → T (not a)
refutes true f = f tt
refutes false f = tt

pub decided : (a : Bool) → T a ⊎ T (not a)
decided true = inl tt
decided false = inr tt

pub is_true : (a : Bool) → a ≡ true → T a
is_true a e = subst (λ (x : Bool). T x) (sym e) tt

pub is_false : (a : Bool) → a ≡ false → T (not a)
is_false a e = subst (λ (x : Bool). T (not x)) (sym e) tt

pub true_is : (a : Bool) → T a → true ≡ a
true_is true t = refl
true_is false t = absurd t

pub false_is : (a : Bool) → T (not a) → false ≡ a
false_is true t = absurd t
false_is false t = refl

-- A list of tests, all of which hold.
abbrev pub every : List Bool → Bool
every [] = true
every (x ∷ xs) = x && every xs

abbrev pub Each : List Bool → Type 0
Each [] = Unit {0}
Each (x ∷ xs) = T x × Each xs

pub each : (xs : List Bool) → T (every xs) → Each xs
each [] t = tt
each (x ∷ xs) t = (and_left x (every xs) t, each xs (and_right x (every xs) t))

-- A test at every number below n.
unfoldable pub all : (ℕ → Bool) → ℕ → Bool
all f zero = true
all f (suc n) = f n && all f n

pub all_at : (f : ℕ → Bool) (n : ℕ) → T (all f n) → (k : ℕ) → k < n → T (f k)
unfolding all
all_at f zero t k h = absurd (omega arith)
all_at f (suc n) t k h = by (ℕ_discrete k n) (all_at f n (and_right (f n) (all f n) t) k)
  where
    by : Dec (k ≡ n) → (k < n → T (f k)) → T (f k)
    by (yes e) below = subst (λ (x : ℕ). T (f x)) (sym e) (and_left (f n) (all f n) t)
    by (no e) below = below (omega arith)

-- A second test, asked only where the first holds: an argument is computed before a call, a function's body is not.
abbrev pub ask : Bool → (Unit {0} → Bool) → Bool
ask true g = g tt
ask false g = true

pub asked : (a : Bool) (g : Unit {0} → Bool) → T (ask a g) → T a → T (g tt)
asked true g t p = t
asked false g t p = absurd p

-- Where the first test holds of a number below n, the second does.
unfoldable pub implies : ℕ → (ℕ → Bool) → (ℕ → Bool) → Bool
unfolding all
implies n f g = all (λ l. ask (f l) (λ u. g l)) n

pub implied : (n : ℕ) (f g : ℕ → Bool) → T (implies n f g) → (l : ℕ) → l < n → T (f l) → T (g l)
unfolding implies
implied n f g t l h p = asked (f l) (λ u. g l) (all_at (λ l. ask (f l) (λ u. g l)) n t l h) p
