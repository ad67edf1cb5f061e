-- A JSON number is a numeral of Jsonnet without `_`; it has no quote, and stands outside strings.
-- Assumes nothing.
use mathlib.Core.Path.{◌≡◌, refl, sym, ap, subst}
use mathlib.Core.Bool.{Bool, true, false, not, ◌&&◌, ◌||◌, true≢false}
use mathlib.Core.List.{List, [], ◌∷◌, ◌++◌}
use Prim.Native.Nat.{ℕ, ◌≤◌}
use native.Mathlib.Omega.{arith}
use lib.Dec.{T, eqb, leb}
use lib.ListN.{length, length-append}
use borrow.Author.Tests.{ne_eqb, eqb-false, le-leb, leb-true}
use Rattle.strings.specs.Utf8.{In}
use Rattle.numerals.specs.Value as digit
use Rattle.regexes.specs.Regex.{within}
use Rattle.lexemes.specs.Rules.{◌–◌}
use Rattle.lexemes.specs.Texts.{plain, Numeral}
use Rattle.lexemes.specs.Texts as texts
use Rattle.json_import.specs.Tokens as tokens
use Rattle.both.specs.Solidus.{outside, Solidus}

-- ── Bytes outside strings ─────────────────────────────────────────────────────────────────────────

-- Bytes among which are no quote and no `_`.
abbrev pub Clear : List ℕ → Type 0
Clear [] = Unit {0}
Clear (b ∷ w) = (b ≡ 0x22 → ⊥) × (b ≡ 0x5F → ⊥) × Clear w

-- The same as a test, for bytes that are known.
abbrev is_clear : List ℕ → Bool
is_clear [] = true
is_clear (b ∷ w) = not (eqb b 0x22) && (not (eqb b 0x5F) && is_clear w)

pub clearly : (w : List ℕ) → T (is_clear w) → Clear w
clearly [] h = tt
clearly (b ∷ w) h = by (eqb b 0x22) refl (eqb b 0x5F) refl h (clearly w)
  where
    by : (x : Bool) → eqb b 0x22 ≡ x → (y : Bool) → eqb b 0x5F ≡ y → T (not x && (not y && is_clear w)) → (T (is_clear w) → Clear w) → Clear (b ∷ w)
    by true p y q h on = absurd h
    by false p true q h on = absurd h
    by false p false q h on = (eqb-false b 0x22 p, eqb-false b 0x5F q, on h)

pub clear_on : (w r : List ℕ) → Clear w → Solidus outside (w ++ r) → Solidus outside r
clear_on [] r c x = x
clear_on (b ∷ w) r c (Solidus.before n x) = clear_on w r c.2 x
clear_on (b ∷ w) r c (Solidus.opens x) = absurd (c.0 refl)

pub clear_back : (w r : List ℕ) → Clear w → Solidus outside r → Solidus outside (w ++ r)
clear_back [] r c x = x
clear_back (b ∷ w) r c x = Solidus.before c.0 (clear_back w r c.2 x)

-- ── Numbers ───────────────────────────────────────────────────────────────────────────────────────

digit_test : (b : ℕ) → digit.is_digit b ≡ true → T (texts.is_digit b)
digit_test b e = subst (λ (x : Bool). T (x || false)) (sym e) tt

digit_range : (b : ℕ) → digit.is_digit b ≡ true → (0x30 ≤ b) × (b ≤ 0x39)
digit_range b e = by (leb 0x30 b) refl (leb b 0x39) refl e
  where
    by : (x : Bool) → leb 0x30 b ≡ x → (y : Bool) → leb b 0x39 ≡ y → x && y ≡ true → (0x30 ≤ b) × (b ≤ 0x39)
    by true p true q e = (leb-true 0x30 b p, leb-true b 0x39 q)
    by true p false q e = absurd (true≢false (sym e))
    by false p y q e = absurd (true≢false (sym e))

digits_all : {w : List ℕ} → tokens.Digits w → (b : ℕ) × (bs : List ℕ) × (w ≡ b ∷ bs) × T (texts.is_digit b) × texts.All texts.is_digit bs
digits_all (tokens.Digits.one {b} e) = (b, [], refl, digit_test b e, tt)
digits_all (tokens.Digits.more {b} e d) = let y = digits_all d in (b, _, refl, digit_test b e, subst (texts.All texts.is_digit) (sym y.2) (y.3, y.4))

digits_clear : {w : List ℕ} → tokens.Digits w → Clear w
digits_clear (tokens.Digits.one {b} e) = let r = digit_range b e in ((λ q. omega arith), (λ q. omega arith), tt)
digits_clear (tokens.Digits.more {b} e d) = let r = digit_range b e in ((λ q. omega arith), (λ q. omega arith), digits_clear d)

one_nine : (b : ℕ) → In 0x31 0x39 b → T (within ("1" – "9" ∷ []) b)
one_nine b h = simp (le-leb 0x31 b h.0, le-leb b 0x39 h.1) tt

int_whole : {w : List ℕ} → tokens.Int w → texts.Whole w
int_whole tokens.Int.zero = texts.Whole.zero
int_whole (tokens.Int.single {b} h) = texts.Whole.digits (one_nine b h) tt
int_whole (tokens.Int.several {b} h d) = let y = digits_all d in texts.Whole.digits (one_nine b h) (subst (texts.All texts.is_digit) (sym y.2) (y.3, y.4))

int_clear : {w : List ℕ} → tokens.Int w → Clear w
int_clear tokens.Int.zero = ((λ q. omega arith), (λ q. omega arith), tt)
int_clear (tokens.Int.single {b} h) = ((λ q. omega (arith, h.0)), (λ q. omega (arith, h.1)), tt)
int_clear (tokens.Int.several {b} h d) = ((λ q. omega (arith, h.0)), (λ q. omega (arith, h.1)), digits_clear d)

frac_fraction : {w : List ℕ} → tokens.Frac w → texts.Fraction w
frac_fraction tokens.Frac.none = texts.Fraction.none
frac_fraction (tokens.Frac.frac d) = let y = digits_all d in subst (λ (u : List ℕ). texts.Fraction (0x2E ∷ u)) (sym y.2) (texts.Fraction.point y.3 y.4)

frac_clear : {w : List ℕ} → tokens.Frac w → Clear w
frac_clear tokens.Frac.none = tt
frac_clear (tokens.Frac.frac d) = ((λ q. omega arith), (λ q. omega arith), digits_clear d)

mark_e : {e : ℕ} → tokens.Mark e → T (texts.is_e e) × (e ≡ 0x22 → ⊥) × (e ≡ 0x5F → ⊥)
mark_e tokens.Mark.lower = (tt, (λ q. omega arith), λ q. omega arith)
mark_e tokens.Mark.upper = (tt, (λ q. omega arith), λ q. omega arith)

sign_test : {b : ℕ} → tokens.Sign b → T (texts.is_sign b) × (b ≡ 0x22 → ⊥) × (b ≡ 0x5F → ⊥)
sign_test tokens.Sign.plus = (tt, (λ q. omega arith), λ q. omega arith)
sign_test tokens.Sign.minus = (tt, (λ q. omega arith), λ q. omega arith)

exp_exponent : {w : List ℕ} → tokens.Exp w → texts.Exponent w
exp_exponent tokens.Exp.none = texts.Exponent.none
exp_exponent (tokens.Exp.exp {e = e} m d) =
    let y = digits_all d in subst (λ (u : List ℕ). texts.Exponent (e ∷ u)) (sym y.2) (texts.Exponent.unsigned (mark_e m).0 y.3 y.4)
exp_exponent (tokens.Exp.signed {e = e} {b = b} m g d) =
    let y = digits_all d in subst (λ (u : List ℕ). texts.Exponent (e ∷ b ∷ u)) (sym y.2) (texts.Exponent.signed (mark_e m).0 (sign_test g).0 y.3 y.4)

exp_clear : {w : List ℕ} → tokens.Exp w → Clear w
exp_clear tokens.Exp.none = tt
exp_clear (tokens.Exp.exp m d) = ((mark_e m).1, (mark_e m).2, digits_clear d)
exp_clear (tokens.Exp.signed m g d) = ((mark_e m).1, (mark_e m).2, ((sign_test g).1, (sign_test g).2, digits_clear d))

clear_append : (u v : List ℕ) → Clear u → Clear v → Clear (u ++ v)
clear_append [] v c d = d
clear_append (b ∷ u) v c d = (c.0, c.1, clear_append u v c.2 d)

-- A JSON number is a numeral of Jsonnet without `_`.
pub number_numeral : {w : List ℕ} → tokens.Number w → Numeral w
number_numeral (tokens.Number.number i f x) = texts.Numeral.numeral (int_whole i) (frac_fraction f) (exp_exponent x)

pub number_clear : {w : List ℕ} → tokens.Number w → Clear w
number_clear (tokens.Number.number {i} {f} {x} a b c) = clear_append i (f ++ x) (int_clear a) (clear_append f x (frac_clear b) (exp_clear c))

pub number_some : {w : List ℕ} → tokens.Number w → 1 ≤ length w
number_some (tokens.Number.number {i} {f} {x} a b c) = let y = int_some a in omega (arith, length-append i (f ++ x))
  where
    int_some : {w : List ℕ} → tokens.Int w → 1 ≤ length w
    int_some tokens.Int.zero = omega arith
    int_some (tokens.Int.single h) = omega arith
    int_some (tokens.Int.several h d) = omega arith

pub clear_plain : (w : List ℕ) → Clear w → plain w ≡ w
unfolding plain
clear_plain [] c = refl
clear_plain (b ∷ w) c = simp (ne_eqb b 0x5F c.1) (ap (λ (u : List ℕ). b ∷ u) (clear_plain w c.2))
