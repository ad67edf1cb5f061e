-- Numbers and their shapes: which shape a number ends in, what stands behind a shape, and how a shape goes on to a number.
-- Assumes nothing.
use mathlib.Core.Path.{◌≡◌, refl, sym, ap, ◌∙◌}
use mathlib.Core.Bool.{Bool, true, false, cond, true≢false}
use mathlib.Core.List.{List, [], ◌∷◌, ◌++◌}
use Prim.Native.Nat.{ℕ}
use native.Mathlib.Omega.{arith}
use borrow.Author.Tests.{ne_eqb}
use Rattle.numerals.specs.Value.{is_digit}
use Rattle.json_import.specs.Tokens.{Digits, one, more, Int, Frac, Mark, lower, upper, Sign, plus, minus, Exp, Number, number}
use Rattle.json_import.specs.Tokens as tokens
use Rattle.json_import.specs.Machine.{Shape, zero, int, point, frac, mark, sign, exp, over, next, begun, whole, is_over, walk}
use Rattle.json_import.proofs.Tests.{inside}

-- The shape of a whole text, which begins with a digit.
unfoldable pub from : List ℕ → Shape
unfolding walk
from [] = over
from (b ∷ v) = walk (begun b) v

pub walk_append : (sh : Shape) (u v : List ℕ) → walk sh (u ++ v) ≡ walk (walk sh u) v
unfolding walk
walk_append sh [] v = refl
walk_append sh (b ∷ u) v = walk_append (next sh b) u v

pub walk_over : (v : List ℕ) → walk over v ≡ over
unfolding walk next
walk_over [] = refl
walk_over (b ∷ v) = walk_over v

pub over_is : (sh : Shape) → is_over sh ≡ true → sh ≡ over
unfolding is_over
over_is zero p = absurd (true≢false (sym p))
over_is int p = absurd (true≢false (sym p))
over_is point p = absurd (true≢false (sym p))
over_is frac p = absurd (true≢false (sym p))
over_is mark p = absurd (true≢false (sym p))
over_is sign p = absurd (true≢false (sym p))
over_is exp p = absurd (true≢false (sym p))
over_is over p = refl

pub whole_goes : (sh : Shape) → whole sh ≡ true → is_over sh ≡ false
unfolding whole is_over
whole_goes zero p = refl
whole_goes int p = refl
whole_goes point p = absurd (true≢false (sym p))
whole_goes frac p = refl
whole_goes mark p = absurd (true≢false (sym p))
whole_goes sign p = absurd (true≢false (sym p))
whole_goes exp p = refl
whole_goes over p = absurd (true≢false (sym p))

-- What goes on behind a byte went on at it.
pub goes_at : (sh : Shape) (v : List ℕ) → is_over (walk sh v) ≡ false → is_over sh ≡ false
unfolding is_over
goes_at sh v p = by (is_over sh) refl
  where
    by : (c : Bool) → is_over sh ≡ c → c ≡ false
    by false e = refl
    by true e =
        let met : is_over (walk sh v) ≡ true = ap (λ (x : Shape). is_over (walk x v)) (over_is sh e) ∙ ap (λ (x : Shape). is_over x) (walk_over v) in
        absurd (true≢false (sym met ∙ p))

-- ── A number's shape is whole ─────────────────────────────────────────────────────────────────────

digits_to : (sh to : Shape) → ((b : ℕ) → is_digit b ≡ true → next sh b ≡ to) → ((b : ℕ) → is_digit b ≡ true → next to b ≡ to) → {d : List ℕ} → Digits d → walk sh d ≡ to
unfolding walk
digits_to sh to f g (one {b} p) = f b p
digits_to sh to f g (more {b} {w} p ds) = ap (λ (x : Shape). walk x w) (f b p) ∙ digits_to to to g g ds

pub int_digit : (b : ℕ) → is_digit b ≡ true → next int b ≡ int
unfolding next
int_digit b p = rw p refl

pub point_digit : (b : ℕ) → is_digit b ≡ true → next point b ≡ frac
unfolding next
point_digit b p = rw p refl

pub frac_digit : (b : ℕ) → is_digit b ≡ true → next frac b ≡ frac
unfolding next
frac_digit b p = rw p refl

pub mark_digit : (b : ℕ) → is_digit b ≡ true → next mark b ≡ exp
unfolding next
mark_digit b p = rw p refl

pub sign-digit : (b : ℕ) → is_digit b ≡ true → next sign b ≡ exp
unfolding next
sign-digit b p = rw p refl

pub exp_digit : (b : ℕ) → is_digit b ≡ true → next exp b ≡ exp
unfolding next
exp_digit b p = rw p refl

-- A shape at which a number may end, and which an exponent may follow.
data Mantissa : Shape → Type 0 where
  at_zero : Mantissa zero
  at_int : Mantissa int
  at_frac : Mantissa frac

at_mark : {sh : Shape} {e : ℕ} → Mantissa sh → Mark e → next sh e ≡ mark
unfolding next
at_mark at_zero lower = refl
at_mark at_zero upper = refl
at_mark at_int lower = refl
at_mark at_int upper = refl
at_mark at_frac lower = refl
at_mark at_frac upper = refl

at_sign : {b : ℕ} → Sign b → next mark b ≡ sign
unfolding next
at_sign plus = refl
at_sign minus = refl

exp_whole : {sh : Shape} {x : List ℕ} → Mantissa sh → Exp x → whole (walk sh x) ≡ true
unfolding walk whole
exp_whole at_zero tokens.Exp.none = refl
exp_whole at_int tokens.Exp.none = refl
exp_whole at_frac tokens.Exp.none = refl
exp_whole m (tokens.Exp.exp {e = e} {w = w} k ds) =
    ap (λ (y : Shape). whole (walk y w)) (at_mark m k) ∙ ap (λ (y : Shape). whole y) (digits_to mark exp mark_digit exp_digit ds)
exp_whole m (tokens.Exp.signed {e = e} {b = b} {w = w} k g ds) =
    ap (λ (y : Shape). whole (walk (next y b) w)) (at_mark m k) ∙ ap (λ (y : Shape). whole (walk y w)) (at_sign g)
    ∙ ap (λ (y : Shape). whole y) (digits_to sign exp sign-digit exp_digit ds)

-- Behind the digits before the point.
record Led (w : List ℕ) : Type 0 where
  pub to : Shape
  pub mantissa : Mantissa to
  pub so : (v : List ℕ) → from (w ++ v) ≡ walk to v
  pub pointed : next to 0x2E ≡ point

int_led : {w : List ℕ} → Int w → Led w
unfolding from next
int_led tokens.Int.zero = record { to = zero; mantissa = at_zero; so = λ v. refl; pointed = refl }
int_led (tokens.Int.single {b} h) =
    record {
      to = int;
      mantissa = at_int;
      so = λ v. ap (λ (c : Bool). walk (cond c zero int) v) (ne_eqb b 0x30 (λ e. omega (arith, h.0, e)));
      pointed = refl;
    }
int_led (tokens.Int.several {b} {w} h ds) =
    record {
      to = int;
      mantissa = at_int;
      so = λ v.
          ap (λ (c : Bool). walk (cond c zero int) (w ++ v)) (ne_eqb b 0x30 (λ e. omega (arith, h.0, e)))
          ∙ walk_append int w v ∙ ap (λ (y : Shape). walk y v) (digits_to int int int_digit int_digit ds);
      pointed = refl;
    }

pub number_whole : {w : List ℕ} → Number w → whole (from w) ≡ true
unfolding walk
number_whole (number {i} {f} {x} a tokens.Frac.none e) =
    let l = int_led a in ap (λ (y : Shape). whole y) (l.so x) ∙ exp_whole l.mantissa e
number_whole (number {i = i} {x = x} a (tokens.Frac.frac {w = d} ds) e) =
    let l = int_led a in
    ap (λ (y : Shape). whole y) (l.so (0x2E ∷ (d ++ x))) ∙ ap (λ (y : Shape). whole (walk y (d ++ x))) l.pointed
    ∙ ap (λ (y : Shape). whole y) (walk_append point d x) ∙ ap (λ (y : Shape). whole (walk y x)) (digits_to point frac point_digit frac_digit ds) ∙ exp_whole at_frac e

-- A number begins with a digit.
pub data Leading : List ℕ → Type 0 where
  leading : {b : ℕ} {v : List ℕ} → is_digit b ≡ true → Leading (b ∷ v)

int_leading : {w : List ℕ} (v : List ℕ) → Int w → Leading (w ++ v)
int_leading v tokens.Int.zero = leading refl
int_leading v (tokens.Int.single {b} h) = leading (inside 0x30 0x39 b (omega (arith, h.0)) h.1)
int_leading v (tokens.Int.several {b} {w} h ds) = leading (inside 0x30 0x39 b (omega (arith, h.0)) h.1)

pub number_leading : {w : List ℕ} → Number w → Leading w
number_leading (number {i} {f} {x} a b c) = int_leading (f ++ x) a
