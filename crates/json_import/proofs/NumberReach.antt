-- What stands behind a shape, and how it goes on: each shape but `over` is the beginning of a number.
-- Assumes nothing.
use mathlib.Core.Path.{◌≡◌, refl, sym, subst}
use mathlib.Core.Bool.{Bool, true, false, cond, ◌||◌, true≢false}
use mathlib.Core.List.{List, [], ◌∷◌, ◌++◌, append_assoc, append-nil}
use Prim.Native.Nat.{ℕ}
use native.Mathlib.Omega.{arith}
use lib.Dec.{eqb}
use borrow.Author.Tests.{eqb-true, eqb-false}
use Rattle.strings.specs.Utf8.{In}
use Rattle.numerals.specs.Value.{is_digit}
use Rattle.json_import.specs.Tokens.{Digits, one, more, Int, Frac, Mark, lower, upper, Sign, plus, minus, Exp, Number, number}
use Rattle.json_import.specs.Tokens as tokens
use Rattle.json_import.specs.Machine.{Shape, zero, int, point, frac, mark, sign, exp, over, is_mark, is_sign, next, is_over, walk}
use Rattle.json_import.proofs.Tests.{digit_in}
use Rattle.json_import.proofs.NumberShapes.{from, whole_goes, goes_at, number_whole, Leading, leading, number_leading}

pub data Reach : Shape → List ℕ → Type 0 where
  zero_only : Reach zero (0x30 ∷ [])
  int_one : {b : ℕ} → In 0x31 0x39 b → Reach int (b ∷ [])
  int_more : {b : ℕ} {d : List ℕ} → In 0x31 0x39 b → Digits d → Reach int (b ∷ d)
  to_point : {i : List ℕ} → Int i → Reach point (i ++ (0x2E ∷ []))
  to_frac : {i d : List ℕ} → Int i → Digits d → Reach frac (i ++ (0x2E ∷ d))
  to_mark : {i f : List ℕ} {e : ℕ} → Int i → Frac f → Mark e → Reach mark (i ++ (f ++ (e ∷ [])))
  to_sign : {i f : List ℕ} {e g : ℕ} → Int i → Frac f → Mark e → Sign g → Reach sign (i ++ (f ++ (e ∷ g ∷ [])))
  to_exp : {i f d : List ℕ} {e : ℕ} → Int i → Frac f → Mark e → Digits d → Reach exp (i ++ (f ++ (e ∷ d)))
  to_signed : {i f d : List ℕ} {e g : ℕ} → Int i → Frac f → Mark e → Sign g → Digits d → Reach exp (i ++ (f ++ (e ∷ g ∷ d)))

-- ── One byte more ─────────────────────────────────────────────────────────────────────────────────

snoc_digits : {d : List ℕ} (b : ℕ) → Digits d → is_digit b ≡ true → Digits (d ++ (b ∷ []))
snoc_digits b (one p) q = more p (one q)
snoc_digits b (more p ds) q = more p (snoc_digits b ds q)

is_mark_lem : (b : ℕ) → is_mark b ≡ true → Mark b
is_mark_lem b = by (eqb b 0x65) (eqb b 0x45) refl refl
  where
    by : (c d : Bool) → eqb b 0x65 ≡ c → eqb b 0x45 ≡ d → (c || d) ≡ true → Mark b
    by true d p q r = subst Mark (sym (eqb-true b 0x65 p)) lower
    by false true p q r = subst Mark (sym (eqb-true b 0x45 q)) upper
    by false false p q r = absurd (true≢false (sym r))

is_sign_lem : (b : ℕ) → is_sign b ≡ true → Sign b
is_sign_lem b = by (eqb b 0x2B) (eqb b 0x2D) refl refl
  where
    by : (c d : Bool) → eqb b 0x2B ≡ c → eqb b 0x2D ≡ d → (c || d) ≡ true → Sign b
    by true d p q r = subst Sign (sym (eqb-true b 0x2B p)) plus
    by false true p q r = subst Sign (sym (eqb-true b 0x2D q)) minus
    by false false p q r = absurd (true≢false (sym r))

at_point : (w : List ℕ) → Int w → (b : ℕ) → eqb b 0x2E ≡ true → Reach point (w ++ (b ∷ []))
at_point w a b p = subst (λ (c : ℕ). Reach point (w ++ (c ∷ []))) (sym (eqb-true b 0x2E p)) (to_point a)

at_mark : (i f : List ℕ) → Int i → Frac f → (b : ℕ) (c : Bool) → is_mark b ≡ c → is_over (cond c mark over) ≡ false → Reach (cond c mark over) ((i ++ f) ++ (b ∷ []))
unfolding is_over
at_mark i f a x b true p q = rw append_assoc (to_mark a x (is_mark_lem b p))
at_mark i f a x b false p q = absurd (true≢false q)

-- Behind the digits before the point: a point or an exponent.
at_end : (w : List ℕ) → Int w → (b : ℕ) (c : Bool) → eqb b 0x2E ≡ c → is_over (cond c point (cond (is_mark b) mark over)) ≡ false
    → Reach (cond c point (cond (is_mark b) mark over)) (w ++ (b ∷ []))
at_end w a b true p q = at_point w a b p
at_end w a b false p q =
    subst (λ (l : List ℕ). Reach (cond (is_mark b) mark over) (l ++ (b ∷ []))) (append-nil w) (at_mark w [] a tokens.Frac.none b (is_mark b) refl q)

at_int : (w : List ℕ) → Int w → ((b : ℕ) → is_digit b ≡ true → Reach int (w ++ (b ∷ []))) → (b : ℕ) (c : Bool) → is_digit b ≡ c
    → is_over (cond c int (cond (eqb b 0x2E) point (cond (is_mark b) mark over))) ≡ false
    → Reach (cond c int (cond (eqb b 0x2E) point (cond (is_mark b) mark over))) (w ++ (b ∷ []))
at_int w a f b true p q = f b p
at_int w a f b false p q = at_end w a b (eqb b 0x2E) refl q

at_frac : (i d : List ℕ) → Int i → Digits d → (b : ℕ) (c : Bool) → is_digit b ≡ c → is_over (cond c frac (cond (is_mark b) mark over)) ≡ false
    → Reach (cond c frac (cond (is_mark b) mark over)) ((i ++ (0x2E ∷ d)) ++ (b ∷ []))
at_frac i d a ds b true p q = rw append_assoc (to_frac a (snoc_digits b ds p))
at_frac i d a ds b false p q = at_mark i (0x2E ∷ d) a (tokens.Frac.frac ds) b (is_mark b) refl q

-- Where only a digit goes on.
only_digit : (w : List ℕ) (to : Shape) → ((b : ℕ) → is_digit b ≡ true → Reach to (w ++ (b ∷ []))) → (b : ℕ) (c : Bool) → is_digit b ≡ c → is_over (cond c to over) ≡ false
    → Reach (cond c to over) (w ++ (b ∷ []))
unfolding is_over
only_digit w to f b true p q = f b p
only_digit w to f b false p q = absurd (true≢false q)

behind_mark : (i f : List ℕ) {e : ℕ} → Int i → Frac f → Mark e → (b : ℕ) (c d : Bool) → is_digit b ≡ c → is_sign b ≡ d → is_over (cond c exp (cond d sign over)) ≡ false
    → Reach (cond c exp (cond d sign over)) ((i ++ (f ++ (e ∷ []))) ++ (b ∷ []))
unfolding is_over
behind_mark i f a x m b true d p g q = simp append_assoc (to_exp a x m (one p))
behind_mark i f a x m b false true p g q = simp append_assoc (to_sign a x m (is_sign_lem b g))
behind_mark i f a x m b false false p g q = absurd (true≢false q)

pub reach_next : {sh : Shape} {w : List ℕ} → Reach sh w → (b : ℕ) → is_over (next sh b) ≡ false → Reach (next sh b) (w ++ (b ∷ []))
unfolding next
reach_next zero_only b q = at_end (0x30 ∷ []) tokens.Int.zero b (eqb b 0x2E) refl q
reach_next (int_one {b = c} h) b q = at_int (c ∷ []) (tokens.Int.single h) (λ x p. int_more h (one p)) b (is_digit b) refl q
reach_next (int_more {b = c} {d = d} h ds) b q = at_int (c ∷ d) (tokens.Int.several h ds) (λ x p. int_more h (snoc_digits x ds p)) b (is_digit b) refl q
reach_next (to_point {i} a) b q = only_digit (i ++ (0x2E ∷ [])) frac (λ x p. rw append_assoc (to_frac a (one p))) b (is_digit b) refl q
reach_next (to_frac {i} {d} a ds) b q = at_frac i d a ds b (is_digit b) refl q
reach_next (to_mark {i} {f} {e} a x m) b q = behind_mark i f a x m b (is_digit b) (is_sign b) refl refl q
reach_next (to_sign {i} {f} {e} {g} a x m s) b q =
    only_digit (i ++ (f ++ (e ∷ g ∷ []))) exp (λ y p. simp append_assoc (to_signed a x m s (one p))) b (is_digit b) refl q
reach_next (to_exp {i} {f} {d} {e} a x m ds) b q =
    only_digit (i ++ (f ++ (e ∷ d))) exp (λ y p. simp append_assoc (to_exp a x m (snoc_digits y ds p))) b (is_digit b) refl q
reach_next (to_signed {i} {f} {d} {e} {g} a x m s ds) b q =
    only_digit (i ++ (f ++ (e ∷ g ∷ d))) exp (λ y p. simp append_assoc (to_signed a x m s (snoc_digits y ds p))) b (is_digit b) refl q

pub walk_reach : {sh : Shape} (u : List ℕ) → Reach sh u → (v : List ℕ) → is_over (walk sh v) ≡ false → Reach (walk sh v) (u ++ v)
unfolding walk
walk_reach {sh} u r [] p = subst (Reach sh) (sym (append-nil u)) r
walk_reach {sh} u r (b ∷ v) p =
    subst (Reach (walk (next sh b) v)) (append_assoc u (b ∷ []) v) (walk_reach {sh = next sh b} (u ++ (b ∷ [])) (reach_next r b (goes_at (next sh b) v p)) v p)

reach_begun : (b : ℕ) (c : Bool) → eqb b 0x30 ≡ c → is_digit b ≡ true → Reach (cond c zero int) (b ∷ [])
reach_begun b true p d = subst (λ (x : ℕ). Reach zero (x ∷ [])) (sym (eqb-true b 0x30 p)) zero_only
reach_begun b false p d = let h = digit_in b d in int_one {b = b} (omega (arith, h.0, eqb-false b 0x30 p), h.1)

pub lead_reach : (b : ℕ) (v : List ℕ) → is_digit b ≡ true → is_over (from (b ∷ v)) ≡ false → Reach (from (b ∷ v)) (b ∷ v)
unfolding from
lead_reach b v d p = walk_reach (b ∷ []) (reach_begun b (eqb b 0x30) refl d) v p

pub number_reach : {w : List ℕ} → Number w → Reach (from w) w
number_reach n = by (number_leading n) (whole_goes (from _) (number_whole n))
  where
    by : {w : List ℕ} → Leading w → is_over (from w) ≡ false → Reach (from w) w
    by (leading {b} {v} d) p = lead_reach b v d p

-- ── To a number ───────────────────────────────────────────────────────────────────────────────────

-- The bytes go on to a number.
pub data Onward (w : List ℕ) : Type 0 where
  onward : (v : List ℕ) → Number (w ++ v) → Onward w

int_number : {w : List ℕ} → Int w → Onward w
int_number a = onward [] (number a tokens.Frac.none tokens.Exp.none)

pub reach_number : {sh : Shape} {w : List ℕ} → Reach sh w → Onward w
reach_number zero_only = int_number tokens.Int.zero
reach_number (int_one h) = int_number (tokens.Int.single h)
reach_number (int_more h ds) = int_number (tokens.Int.several h ds)
reach_number (to_point a) = onward (0x30 ∷ []) (simp append_assoc (number a (tokens.Frac.frac (one refl)) tokens.Exp.none))
reach_number (to_frac a ds) = onward [] (simp append_assoc (number a (tokens.Frac.frac ds) tokens.Exp.none))
reach_number (to_mark a x m) = onward (0x30 ∷ []) (simp append_assoc (number a x (tokens.Exp.exp m (one refl))))
reach_number (to_sign a x m s) = onward (0x30 ∷ []) (simp append_assoc (number a x (tokens.Exp.signed m s (one refl))))
reach_number (to_exp a x m ds) = onward [] (rw append-nil (number a x (tokens.Exp.exp m ds)))
reach_number (to_signed a x m s ds) = onward [] (rw append-nil (number a x (tokens.Exp.signed m s ds)))

-- Behind a whole literal the shape is over.
pub stops_over : {w : List ℕ} → Number w → (b : ℕ) → ((v : List ℕ) → Number (w ++ (b ∷ v)) → ⊥) → is_over (next (from w) b) ≡ true
stops_over {w} n b f = by (is_over (next (from w) b)) refl
  where
    contrary : Onward (w ++ (b ∷ [])) → ⊥
    contrary (onward v m) = f v (subst Number (append_assoc w (b ∷ []) v) m)

    by : (c : Bool) → is_over (next (from w) b) ≡ c → c ≡ true
    by true p = refl
    by false p = absurd (contrary (reach_number (reach_next (number_reach n) b p)))
