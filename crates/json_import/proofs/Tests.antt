-- Tests of bytes, from facts and to facts.
-- Assumes nothing.
use mathlib.Core.Path.{◌≡◌, refl, sym}
use mathlib.Core.Bool.{Bool, true, false, ◌&&◌, ◌||◌, true≢false}
use Prim.Native.Nat.{ℕ, ◌≤◌, ◌<◌}
use native.Mathlib.Omega.{arith}
use lib.Dec.{eqb, leb}
use borrow.Author.Tests.{le-leb, lt-leb, leb-true, ne_eqb}
use Rattle.strings.specs.Utf8.{In}
use Rattle.strings.specs.Literals.{Hex}
use Rattle.strings.specs.Literals.Hex.{digit, upper, lower}
use Rattle.numerals.specs.Inner.{Says}
use Rattle.numerals.specs.Value.{is_digit}
use Rattle.json_import.specs.Machine.{hex}

pub yes_true : (c : Bool) {A : Type 0} → Says c A → A → c ≡ true
yes_true true s a = refl
yes_true false s a = absurd (s a)

pub no_false : (c : Bool) {A : Type 0} → Says c A → (A → ⊥) → c ≡ false
no_false true s n = absurd (n s)
no_false false s n = refl

and_both : (a b : Bool) → a ≡ true → b ≡ true → (a && b) ≡ true
and_both true b p q = q
and_both false b p q = p

and_right_false : (a b : Bool) → b ≡ false → (a && b) ≡ false
and_right_false true b p = p
and_right_false false b p = refl

and_left_false : (a b : Bool) → a ≡ false → (a && b) ≡ false
and_left_false true b p = absurd (true≢false p)
and_left_false false b p = refl

pub or_false : (a b : Bool) → a ≡ false → b ≡ false → (a || b) ≡ false
or_false true b p q = p
or_false false b p q = q

pub split_and : (a b : Bool) → (a && b) ≡ true → (a ≡ true) × (b ≡ true)
split_and true b p = (refl, p)
split_and false b p = absurd (true≢false (sym p))

-- Between bounds, above them, below them.
pub inside : (lo hi b : ℕ) → lo ≤ b → b ≤ hi → (leb lo b && leb b hi) ≡ true
inside lo hi b p q = and_both (leb lo b) (leb b hi) (le-leb lo b p) (le-leb b hi q)

pub above : (lo hi b : ℕ) → hi < b → (leb lo b && leb b hi) ≡ false
above lo hi b p = and_right_false (leb lo b) (leb b hi) (lt-leb b hi p)

pub below : (lo hi b : ℕ) → b < lo → (leb lo b && leb b hi) ≡ false
below lo hi b p = and_left_false (leb lo b) (leb b hi) (lt-leb lo b p)

-- A digit is between `0` and `9`.
pub digit_in : (b : ℕ) → is_digit b ≡ true → In 0x30 0x39 b
digit_in b p = let both = split_and (leb 0x30 b) (leb b 0x39) p in (leb-true 0x30 b both.0, leb-true b 0x39 both.1)

pub record Value (b v : ℕ) : Type 0 where
  pub is : hex b ≡ v
  pub small : v ≤ 15

pub hex_value : {b v : ℕ} → Hex b v → Value b v
unfolding hex
hex_value (digit {b} h) = record { is = rw (inside 0x30 0x39 b h.0 h.1) refl; small = omega arith }
hex_value (upper {b} h) = record { is = rw (above 0x30 0x39 b (omega arith), inside 0x41 0x46 b h.0 h.1) refl; small = omega arith }
hex_value (lower {b} h) =
    record { is = rw (above 0x30 0x39 b (omega arith), above 0x41 0x46 b (omega arith), inside 0x61 0x66 b h.0 h.1) refl; small = omega arith }

pub small_hex : (v : ℕ) → v ≤ 15 → leb 16 v ≡ false
small_hex v h = lt-leb 16 v (omega arith)

pub other : (b c : ℕ) → (b ≡ c → ⊥) → eqb b c ≡ false
other b c n = ne_eqb b c n
