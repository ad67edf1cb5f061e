-- Powers of ten beside the limit: a number of enough digits reaches it, one of too few does not.
-- Assumes nothing.
use mathlib.Core.Path.{◌≡◌, sym, subst}
use Prim.Native.Nat.{ℕ, ◌+◌, ◌*◌, ◌^◌, ◌≤◌, ◌<◌}
use native.Mathlib.Omega.{arith}
use native.Mathlib.Nat.{one-le-pow, pow-le-pow_right, mul-le-mul_right, mul-lt-mul_of_pos_right, le_of_mul-le-mul_right, mul_right_comm, le_trans, lt_of_lt_of_le}
use lib.Dec.{lit<, lit≤}
use lib.Pow.{pow-add}
use Rattle.numerals.specs.Value.{LIMIT, AtLeast}

pub power-some : (k : ℕ) → 0 < 10 ^ k
power-some k = one-le-pow k 10 (lit< tt)

pub power-next : (k : ℕ) → 10 ^ (k + 1) ≡ 10 ^ k * 10
power-next k = pow-add 10 k 1

pub power_grows : {i j : ℕ} → i ≤ j → 10 ^ i ≤ 10 ^ j
power_grows h = pow-le-pow_right (lit< tt) h

-- The limit has 309 digits.
limit_low : 10 ^ 308 ≤ LIMIT
unfolding LIMIT
limit_low = lit≤ tt

limit_high : LIMIT ≤ 10 ^ 309
unfolding LIMIT
limit_high = lit≤ tt

limit_under : (j : ℕ) → LIMIT * 10 ^ j ≤ 10 ^ (309 + j)
limit_under j = subst (λ (x : ℕ). LIMIT * 10 ^ j ≤ x) (sym (pow-add 10 309 j)) (mul-le-mul_right (10 ^ j) limit_high)

limit_over : (j : ℕ) → 10 ^ (308 + j) ≤ LIMIT * 10 ^ j
limit_over j = subst (λ (x : ℕ). x ≤ LIMIT * 10 ^ j) (sym (pow-add 10 308 j)) (mul-le-mul_right (10 ^ j) limit_low)

-- More than 309 digits before the point.
pub many : (n k up down : ℕ) → 10 ^ k ≤ n * 10 → 310 + down ≤ k + up → AtLeast n up down
many n k up down full h =
    le_of_mul-le-mul_right {k = 10} (le_trans (mul-le-mul_right 10 (limit_under down)) (le_trans ten up_to)) (lit< tt)
  where
    ten : 10 ^ (309 + down) * 10 ≤ 10 ^ k * 10 ^ up
    ten =
        subst (λ (x : ℕ). x ≤ 10 ^ k * 10 ^ up) (power-next (309 + down))
        (subst (λ (x : ℕ). 10 ^ (309 + down + 1) ≤ x) (pow-add 10 k up) (power_grows (omega arith)))

    up_to : 10 ^ k * 10 ^ up ≤ n * 10 ^ up * 10
    up_to = subst (λ (x : ℕ). 10 ^ k * 10 ^ up ≤ x) (mul_right_comm n 10 (10 ^ up)) (mul-le-mul_right (10 ^ up) full)

-- Fewer than 309.
pub few : (n k up down : ℕ) → n < 10 ^ k → k + up ≤ 308 + down → AtLeast n up down → ⊥
few n k up down size h a = omega (arith, lt_of_lt_of_le below a)
  where
    below : n * 10 ^ up < LIMIT * 10 ^ down
    below =
        lt_of_lt_of_le (subst (λ (x : ℕ). n * 10 ^ up < x) (sym (pow-add 10 k up)) (mul-lt-mul_of_pos_right size (power-some up)))
        (le_trans (power_grows h) (limit_over down))

-- Zero reaches it never.
pub none : (up down : ℕ) → AtLeast 0 up down → ⊥
none up down a = omega (arith, limit_over down, power-some (308 + down), a)
