-- Laws of texts: what is left of a text from a place on, classes of bytes, a numeral cut into its parts from the left in one way only.
-- Assumes nothing.
use mathlib.Core.Path.{◌≡◌, refl, sym, ◌∙◌, ap, subst}
use mathlib.Core.Bool.{Bool, true, false, not, ◌&&◌}
use mathlib.Core.List.{List, [], ◌∷◌, ◌++◌, append-nil}
use mathlib.Core.Logic.{◌⊎◌, inl, inr, ⊎_elim}
use Prim.Native.Nat.{ℕ, zero, suc, ◌+◌, ◌-◌, ◌≤◌, ◌<◌}
use Prim.Native.Char.{code}
use native.Mathlib.Omega.{arith}
use native.Mathlib.Numerals.{add-one}
use native.Mathlib.Decide.{dec_lt}
use lib.Dec.{T, leb, le→leb, eqb}
use lib.ListN.{length, get_or, take, drop, length-drop, drop_of_length-le, get_or-eq_default}
use native.Mathlib.Nat.{le_refl}
use lib.Seq.{drop-cons, take_all, take-length}
use borrow.Author.Tests.{ne_eqb}
use Rattle.std.proofs.lemmas.Bool.{leb-true, leb-false, and_parts, and_cases}
use Rattle.std.specs.List.{list_all}
use Rattle.strings.specs.Utf8.{Utf8, ValidTo}
use Rattle.regexes.specs.Regex.{within, in_class}
use Rattle.regexes.proofs.Bools.{and, true_is, false_is, is_false, implies, implied}
use Rattle.lexemes.specs.Rules.{◌–◌, alpha, alnum}
use Rattle.lexemes.specs.Texts.{All, Identifier, keywords, Among, TellsKeyword, is_digit, is_e, is_sign, Whole, Fraction, Exponent, Numeral}
use Rattle.lexemes.proofs.Spaces.{within_to, within_from}
use Rattle.numerals.specs.Value.{Verdict}
use Rattle.grammar.specs.Words.{NameText, NumberText}
use Rattle.blocks.specs.Inside.{Says, holds, fails}
use Rattle.images.specs.Inner.{Digits, SomeDigits, some, Tail, tail}

-- ── What is left of a text ────────────────────────────────────────────────────────────────────────

module _ (s : List ℕ) where
  -- The byte at a place, and what stands after it.
  pub left : (i : ℕ) → i < length s → drop i s ≡ get_or s i 0 ∷ drop (i + 1) s
  left i h = drop-cons s i 0 h ∙ ap (λ (n : ℕ). get_or s i 0 ∷ drop n s) (sym (add-one i))

  pub nothing_left : (i : ℕ) → length s ≤ i → drop i s ≡ []
  nothing_left i h = drop_of_length-le s h

-- The first of two lists that are one, and what follows it.
head : {a b : ℕ} {l m : List ℕ} → a ∷ l ≡ b ∷ m → a ≡ b
head q = ap (λ (x : List ℕ). get_or x 0 0) q

rest : {a b : ℕ} {l m : List ℕ} → a ∷ l ≡ b ∷ m → l ≡ m
rest q = ap (λ (x : List ℕ). drop 1 x) q

-- ── Classes ───────────────────────────────────────────────────────────────────────────────────────

abbrev between : ℕ → ℕ → ℕ → Bool
between lo hi b = leb lo b && leb b hi

-- A class that has every byte of a range, or none.
module _ (f : ℕ → Bool) (lo hi b : ℕ) (fits : b < 256) (h : lo ≤ b) (g : b ≤ hi) where
  inside : T (between lo hi b)
  inside = and (leb lo b) (leb b hi) (le→leb lo b h) (le→leb b hi g)

  pub has : T (implies 256 (between lo hi) f) → true ≡ f b
  has t = true_is (f b) (implied 256 (between lo hi) f t b fits inside)

  pub lacks : T (implies 256 (between lo hi) (λ b. not (f b))) → false ≡ f b
  lacks t = false_is (f b) (implied 256 (between lo hi) (λ b. not (f b)) t b fits inside)

-- And one that has two bytes only.
abbrev neither : ℕ → ℕ → ℕ → Bool
neither x y b = not (eqb b x) && not (eqb b y)

pub lacks_others : (f : ℕ → Bool) (x y b : ℕ) → b < 256 → (b ≡ x → ⊥) → (b ≡ y → ⊥) → T (implies 256 (neither x y) (λ b. not (f b))) → false ≡ f b
lacks_others f x y b fits n m t =
    false_is (f b)
    (implied 256 (neither x y) (λ b. not (f b)) t b fits
    (and (not (eqb b x)) (not (eqb b y)) (is_false (eqb b x) (ne_eqb b x n)) (is_false (eqb b y) (ne_eqb b y m))))

zero_is_none : T (is_digit 0) → ⊥
zero_is_none t = t

lone : {A : Type 0} → A ⊎ ⊥ → A
lone (inl x) = x
lone (inr x) = absurd x

digit_range : (b : ℕ) → T (is_digit b) → (48 ≤ b) × (b ≤ 57)
digit_range b t = lone (within_to ("0" – "9" ∷ []) b t)

-- A digit that is no zero, and back.
pub no_zero : (b : ℕ) → T (is_digit b) → (b ≡ code "0" → ⊥) → T (within ("1" – "9" ∷ []) b)
no_zero b t n = let r = digit_range b t in within_from ("1" – "9" ∷ []) b (inl (omega (arith, r.0), r.1))

digit_of : (b : ℕ) → T (within ("1" – "9" ∷ []) b) → T (is_digit b)
digit_of b t = let r = lone (within_to ("1" – "9" ∷ []) b t) in within_from ("0" – "9" ∷ []) b (inl (omega (arith, r.0), r.1))

e_no_digit : (b : ℕ) → T (is_e b) → T (is_digit b) → ⊥
e_no_digit b t d =
    ⊎_elim (λ u. omega (arith, u.0, (digit_range b d).1)) (λ u. omega (arith, (lone u).0, (digit_range b d).1)) (within_to ("e" – "e" ∷ "E" – "E" ∷ []) b t)

sign_no_digit : (b : ℕ) → T (is_sign b) → T (is_digit b) → ⊥
sign_no_digit b t d =
    ⊎_elim (λ u. omega (arith, u.1, (digit_range b d).0)) (λ u. omega (arith, (lone u).1, (digit_range b d).0)) (within_to ("+" – "+" ∷ "-" – "-" ∷ []) b t)

-- ── Digits ────────────────────────────────────────────────────────────────────────────────────────

-- No digit stands first.
abbrev pub Stops : List ℕ → Type 0
Stops [] = Unit {0}
Stops (b ∷ l) = T (is_digit b) → ⊥

-- Digits end in one way only.
pub once : (ds es t u : List ℕ) → All is_digit ds → All is_digit es → Stops t → Stops u → ds ++ t ≡ es ++ u → t ≡ u
once [] [] t u ad ae st su q = q
once [] (c ∷ es) t u ad ae st su q = absurd (subst Stops q st ae.0)
once (b ∷ ds) [] t u ad ae st su q = absurd (subst Stops (sym q) su ad.0)
once (b ∷ ds) (c ∷ es) t u ad ae st su q = once ds es t u ad.1 ae.1 st su (rest q)

-- The digits from i on as a list, and what is left behind them.
pub record Run (s : List ℕ) (i r : ℕ) : Type 0 where
  pub run : List ℕ
  pub all : All is_digit run
  pub size : length run ≡ r - i
  pub split : drop i s ≡ run ++ drop r s

module _ (s : List ℕ) where
  -- Where a digit stands the text goes on.
  pub digit-within : (k : ℕ) → T (is_digit (get_or s k 0)) → k < length s
  digit-within k t = by (dec_lt k (length s))
    where
      by : Dec (k < length s) → k < length s
      by (yes h) = h
      by (no n) = absurd (zero_is_none (subst (λ (b : ℕ). T (is_digit b)) (get_or-eq_default s 0 (omega arith)) t))

  runs : (n i r : ℕ) → r ≡ i + n → ((k : ℕ) → i ≤ k → k < r → T (is_digit (get_or s k 0))) → Run s i r
  runs zero i r q each =
      let e : i ≡ r = omega arith in
      record { run = []; all = tt; size = omega arith; split = ap (λ (k : ℕ). drop k s) e }
  runs (suc n) i r q each =
      let d = each i (omega arith) (omega arith) in
      let rest = runs n (i + 1) r (omega arith) (λ k g l. each k (omega arith) l) in
      record {
        run = get_or s i 0 ∷ rest.run;
        all = (d, rest.all);
        size = omega (arith, rest.size);
        split = left s i (digit-within i d) ∙ ap (λ (l : List ℕ). get_or s i 0 ∷ l) rest.split;
      }

  pub run_of : {i r : ℕ} → Digits s i r → Run s i r
  run_of {i} {r} d = runs (r - i) i r (omega (arith, d.forward)) d.each

  -- What stands behind them does not begin with one.
  pub stops : {i r : ℕ} → Digits s i r → Stops (drop r s)
  stops {i} {r} d = by (dec_lt r (length s))
    where
      by : Dec (r < length s) → Stops (drop r s)
      by (yes h) = subst Stops (sym (left s r h)) d.over
      by (no n) = subst Stops (sym (nothing_left s r (omega arith))) tt

  -- Digits up to the end: some, if there is one, and nothing else is.
  pub some_left : {i r : ℕ} → Digits s i r → (r ≡ i → ⊥) → length s ≤ r → SomeDigits (drop i s)
  some_left {i} {r} d n h = by (run_of d).run (run_of d).all (run_of d).size ((run_of d).split ∙ ap (λ (l : List ℕ). (run_of d).run ++ l) (nothing_left s r h) ∙ append-nil (run_of d).run)
    where
      by : (ds : List ℕ) → All is_digit ds → length ds ≡ r - i → drop i s ≡ ds → SomeDigits (drop i s)
      by [] a z e = absurd (n (omega (arith, d.forward)))
      by (b ∷ ds) a z e = subst SomeDigits (sym e) (some a.0 a.1)

  pub none_left : {i r : ℕ} → Digits s i r → r ≡ i → SomeDigits (drop i s) → ⊥
  none_left {i} {r} d e m = by (drop i s) (subst (λ (k : ℕ). Stops (drop k s)) e (stops d)) m
    where
      by : (l : List ℕ) → Stops l → SomeDigits l → ⊥
      by _ st (some t a) = st t

  pub more_left : {i r : ℕ} → Digits s i r → r < length s → SomeDigits (drop i s) → ⊥
  more_left {i} {r} d h m = by (drop i s) (run_of d).split m
    where
      by : (l : List ℕ) → l ≡ (run_of d).run ++ drop r s → SomeDigits l → ⊥
      by _ e (some {b} {bs} t a) =
          let q = once (b ∷ bs) (run_of d).run [] (drop r s) (t, a) (run_of d).all tt (stops d) (append-nil (b ∷ bs) ∙ e) in
          let z : 0 ≡ length s - r = ap length q ∙ length-drop r s in
          omega arith

-- ── Exponents ─────────────────────────────────────────────────────────────────────────────────────

pub exponent-stops : {l : List ℕ} → Exponent l → Stops l
exponent-stops Exponent.none = tt
exponent-stops (Exponent.unsigned {e} t d a) = e_no_digit e t
exponent-stops (Exponent.signed {e} t g d a) = e_no_digit e t

pub exponent_e : {c : ℕ} {l : List ℕ} → Exponent (c ∷ l) → T (is_e c)
exponent_e (Exponent.unsigned e d a) = e
exponent_e (Exponent.signed e g d a) = e

exponent-length : {l : List ℕ} → Exponent l → (length l ≡ 0) ⊎ (2 ≤ length l)
exponent-length Exponent.none = inl refl
exponent-length (Exponent.unsigned e d a) = inr (omega arith)
exponent-length (Exponent.signed e g d a) = inr (omega arith)

-- An `e` alone is none.
pub exponent_alone : {c : ℕ} → Exponent (c ∷ []) → ⊥
exponent_alone E = ⊎_elim (λ z. omega (arith, z)) (λ z. omega (arith, z)) (exponent-length E)

-- After an `e` with a sign, and without.
pub with_sign : {c g : ℕ} {l : List ℕ} → T (is_e c) → T (is_sign g) → SomeDigits l → Exponent (c ∷ g ∷ l)
with_sign e g (some d a) = Exponent.signed e g d a

pub from_sign : {c g : ℕ} {l : List ℕ} → T (is_sign g) → Exponent (c ∷ g ∷ l) → SomeDigits l
from_sign {c} {g} t (Exponent.unsigned e d a) = absurd (sign_no_digit g t d)
from_sign t (Exponent.signed e g d a) = some d a

pub without_sign : {c : ℕ} {l : List ℕ} → T (is_e c) → SomeDigits l → Exponent (c ∷ l)
without_sign e (some d a) = Exponent.unsigned e d a

pub from_digits : {c g : ℕ} {l : List ℕ} → (T (is_sign g) → ⊥) → Exponent (c ∷ g ∷ l) → SomeDigits (g ∷ l)
from_digits n (Exponent.unsigned e d a) = some d a
from_digits n (Exponent.signed e g d a) = absurd (n g)

-- ── What follows a whole part ─────────────────────────────────────────────────────────────────────

-- A list cut in two, by what the parts are.
record Parts (l : List ℕ) : Type 0 where
  f : List ℕ
  e : List ℕ
  fraction : Fraction f
  exponent : Exponent e
  eq : l ≡ f ++ e

parts : {l : List ℕ} → Tail l → Parts l
parts (tail {f} {e} F E) = record { f = f; e = e; fraction = F; exponent = E; eq = refl }

pub tail_stops : {l : List ℕ} → Tail l → Stops l
tail_stops {l} t = by (parts t).f (parts t).e (parts t).fraction (parts t).exponent (parts t).eq
  where
    by : (f e : List ℕ) → Fraction f → Exponent e → l ≡ f ++ e → Stops l
    by _ e Fraction.none E q = subst Stops (sym q) (exponent-stops E)
    by _ e (Fraction.point {b} {bs} d a) E q = subst Stops (sym q) (λ t. t)

pub tail_exponent : {l : List ℕ} → Exponent l → Tail l
tail_exponent E = tail Fraction.none E

pub exponent_of_tail : {c : ℕ} {l : List ℕ} → (c ≡ code "." → ⊥) → Tail (c ∷ l) → Exponent (c ∷ l)
exponent_of_tail {c} {l} n t = by (parts t).f (parts t).e (parts t).fraction (parts t).exponent (parts t).eq
  where
    by : (f e : List ℕ) → Fraction f → Exponent e → c ∷ l ≡ f ++ e → Exponent (c ∷ l)
    by _ e Fraction.none E q = subst Exponent (sym q) E
    by _ e (Fraction.point {b} {bs} d a) E q = absurd (n (head q))

-- Behind a point: a digit or more, then an exponent.
record Pointed (l : List ℕ) : Type 0 where
  b : ℕ
  bs : List ℕ
  e : List ℕ
  digit : T (is_digit b)
  all : All is_digit bs
  exponent : Exponent e
  eq : l ≡ b ∷ (bs ++ e)

pointed : {l : List ℕ} → Tail (code "." ∷ l) → Pointed l
pointed {l} t = by (parts t).f (parts t).e (parts t).fraction (parts t).exponent (parts t).eq
  where
    by : (f e : List ℕ) → Fraction f → Exponent e → code "." ∷ l ≡ f ++ e → Pointed l
    by _ e Fraction.none E q = absurd (exponent_e (subst Exponent (sym q) E))
    by _ e (Fraction.point {b} {bs} d a) E q = record { b = b; bs = bs; e = e; digit = d; all = a; exponent = E; eq = rest q }

module _ (s : List ℕ) {i r : ℕ} (d : Digits s i r) where
  pub no_fraction : r ≡ i → Tail (code "." ∷ drop i s) → ⊥
  no_fraction e t =
      let p = pointed t in
      subst Stops p.eq (subst (λ (k : ℕ). Stops (drop k s)) e (stops s d)) p.digit

  pub fraction_then : (r ≡ i → ⊥) → Exponent (drop r s) → Tail (code "." ∷ drop i s)
  fraction_then n E = by (run_of s d).run (run_of s d).all (run_of s d).size (run_of s d).split
    where
      by : (ds : List ℕ) → All is_digit ds → length ds ≡ r - i → drop i s ≡ ds ++ drop r s → Tail (code "." ∷ drop i s)
      by [] a z q = absurd (n (omega (arith, d.forward)))
      by (b ∷ ds) a z q = subst (λ (l : List ℕ). Tail (code "." ∷ l)) (sym q) (tail (Fraction.point {b = b} {bs = ds} a.0 a.1) E)

  pub then_exponent : Tail (code "." ∷ drop i s) → Exponent (drop r s)
  then_exponent t =
      let p = pointed t in
      subst Exponent
      (once (p.b ∷ p.bs) (run_of s d).run p.e (drop r s) (p.digit, p.all) (run_of s d).all (exponent-stops p.exponent) (stops s d) (sym p.eq ∙ (run_of s d).split))
      p.exponent

-- ── Numerals ──────────────────────────────────────────────────────────────────────────────────────

record Cut (l : List ℕ) : Type 0 where
  w : List ℕ
  t : List ℕ
  whole : Whole w
  after : Tail t
  eq : l ≡ w ++ t

cut : {l : List ℕ} → Numeral l → Cut l
cut (Numeral.numeral {w} {f} {e} W F E) = record { w = w; t = f ++ e; whole = W; after = tail F E; eq = refl }

numeral_of : {w t : List ℕ} → Whole w → Tail t → Numeral (w ++ t)
numeral_of W (tail F E) = Numeral.numeral W F E

pub empty_numeral : Numeral [] → ⊥
empty_numeral n = by (cut n).w (cut n).t (cut n).whole (cut n).eq
  where
    by : (w t : List ℕ) → Whole w → [] ≡ w ++ t → ⊥
    by _ t Whole.zero q = omega (arith, ap length q)
    by _ t (Whole.digits {b} {bs} d a) q = omega (arith, ap length q)

pub numeral_first : (x : ℕ) (l : List ℕ) → Numeral (x ∷ l) → T (is_digit x)
numeral_first x l n = by (cut n).w (cut n).t (cut n).whole (cut n).eq
  where
    by : (w t : List ℕ) → Whole w → x ∷ l ≡ w ++ t → T (is_digit x)
    by _ t Whole.zero q = subst (λ (y : ℕ). T (is_digit y)) (sym (head q)) tt
    by _ t (Whole.digits {b} {bs} d a) q = subst (λ (y : ℕ). T (is_digit y)) (sym (head q)) (digit_of b d)

-- A whole part of one zero.
pub zero_then : {l : List ℕ} → Tail l → Numeral (code "0" ∷ l)
zero_then t = numeral_of Whole.zero t

pub after_zero : {l : List ℕ} → Numeral (code "0" ∷ l) → Tail l
after_zero {l} n = by (cut n).w (cut n).t (cut n).whole (cut n).after (cut n).eq
  where
    by : (w t : List ℕ) → Whole w → Tail t → code "0" ∷ l ≡ w ++ t → Tail l
    by _ t Whole.zero m q = subst Tail (sym (rest q)) m
    by _ t (Whole.digits {b} {bs} d a) m q = absurd (subst (λ (x : ℕ). T (within ("1" – "9" ∷ []) x)) (sym (head q)) d)

-- A whole part that begins with another digit, and all digits behind it.
module _ (s : List ℕ) {i r : ℕ} (d : Digits s i r) (x : ℕ) where
  pub whole_then : T (within ("1" – "9" ∷ []) x) → Tail (drop r s) → Numeral (x ∷ drop i s)
  whole_then t m =
      subst (λ (l : List ℕ). Numeral (x ∷ l)) (sym (run_of s d).split) (numeral_of (Whole.digits {b = x} {bs = (run_of s d).run} t (run_of s d).all) m)

  pub after_whole : (x ≡ code "0" → ⊥) → Numeral (x ∷ drop i s) → Tail (drop r s)
  after_whole n m = by (cut m).w (cut m).t (cut m).whole (cut m).after (cut m).eq
    where
      by : (w t : List ℕ) → Whole w → Tail t → x ∷ drop i s ≡ w ++ t → Tail (drop r s)
      by _ t Whole.zero m q = absurd (n (head q))
      by _ t (Whole.digits {b} {bs} u a) m q =
          subst Tail
          (once bs (run_of s d).run t (drop r s) a (run_of s d).all (tail_stops m) (stops s d) (sym (rest q) ∙ (run_of s d).split)) m

-- ── Names ─────────────────────────────────────────────────────────────────────────────────────────

-- A letter is a letter or digit; behind the digits nothing else is.
alpha-alnum : T (implies 256 (in_class alpha) (in_class alnum))
unfolding implies
alpha-alnum = tt

pub alnum_of : {b : ℕ} → b < 256 → T (in_class alpha b) → T (in_class alnum b)
alnum_of {b} h t = implied 256 (in_class alpha) (in_class alnum) alpha-alnum b h t

abbrev late : ℕ → Bool
late b = leb 58 b && not (in_class alpha b)

none_late : T (implies 256 late (λ b. not (in_class alnum b)))
unfolding implies
none_late = tt

pub no_alnum : {b : ℕ} → b < 256 → 58 ≤ b → T (not (in_class alpha b)) → T (not (in_class alnum b))
no_alnum {b} h g t = implied 256 late (λ b. not (in_class alnum b)) none_late b h (and (leb 58 b) (not (in_class alpha b)) (le→leb 58 b g) t)

-- What holds of every byte of a list, place by place.
all_at : (f : ℕ → Bool) (l : List ℕ) → All f l → (k : ℕ) → k < length l → T (f (get_or l k 0))
all_at f [] a k h = absurd (omega arith)
all_at f (b ∷ l) a zero h = a.0
all_at f (b ∷ l) a (suc k) h = all_at f l a.1 k (omega arith)

all_from : (f : ℕ → Bool) (l : List ℕ) → ((k : ℕ) → k < length l → T (f (get_or l k 0))) → All f l
all_from f [] h = tt
all_from f (b ∷ l) h = (h 0 (omega arith), all_from f l (λ k g. h (suc k) (omega arith)))

pub no_name : (s : List ℕ) → length s ≡ 0 → NameText s → ⊥
no_name [] e n = n.identifier
no_name (b ∷ s) e n = omega arith

pub first-letter : (s : List ℕ) → NameText s → T (in_class alpha (get_or s 0 0))
first-letter [] n = absurd n.identifier
first-letter (b ∷ s) n = n.identifier.0

pub later_letter : (s : List ℕ) → NameText s → (k : ℕ) → 1 ≤ k → k < length s → T (in_class alnum (get_or s k 0))
later_letter [] n k g h = absurd (omega arith)
later_letter (b ∷ s) n zero g h = absurd (omega arith)
later_letter (b ∷ s) n (suc k) g h = all_at (in_class alnum) s n.identifier.1 k (omega arith)

pub identifier_of : (s : List ℕ) → 1 ≤ length s → T (in_class alpha (get_or s 0 0)) → ((k : ℕ) → 1 ≤ k → k < length s → T (in_class alnum (get_or s k 0))) → Identifier s
identifier_of [] g t h = absurd (omega arith)
identifier_of (b ∷ s) g t h = (t, all_from (in_class alnum) s (λ k l. h (suc k) (omega arith) (omega arith)))

-- ── Answers ───────────────────────────────────────────────────────────────────────────────────────

no_such : {A : Type 0} → false ≡ true → A
no_such e = absurd (subst (λ (x : Bool). T (not x)) e tt)

pub keyword_told : {t : List ℕ} {r : Bool} → TellsKeyword t r → r ≡ true → Among t keywords
keyword_told (TellsKeyword.keyword m) e = m
keyword_told (TellsKeyword.other n) e = no_such e

pub other_told : {t : List ℕ} {r : Bool} → TellsKeyword t r → r ≡ false → Among t keywords → ⊥
other_told (TellsKeyword.keyword m) e = no_such (sym e)
other_told (TellsKeyword.other n) e = n

-- A number, by its two tests.
pub no_number : {t : List ℕ} {r : Bool} → Says (Numeral t) r → r ≡ false → NumberText t → ⊥
no_number (holds p) e = no_such (sym e)
no_number (fails n) e = λ m. n m.numeral

pub large_number : {t : List ℕ} {r : Bool} → Verdict t r → r ≡ true → NumberText t → ⊥
large_number (Verdict.too_large l) e = λ m. m.in_range l
large_number (Verdict.in_range n) e = no_such e

pub a_number : {t : List ℕ} {r v : Bool} → Says (Numeral t) r → r ≡ true → Verdict t v → v ≡ false → NumberText t
a_number (holds p) e (Verdict.too_large l) q = no_such (sym q)
a_number (holds p) e (Verdict.in_range n) q = record { numeral = p; in_range = n }
a_number (fails n) e l q = no_such e

-- An answer to one question is that to another that comes to the same.
pub same : {P Q : Type 0} {r : Bool} → (P → Q) → (Q → P) → Says P r → Says Q r
same f g (holds p) = holds (f p)
same f g (fails n) = fails (λ q. n (g q))

-- A test of a byte, by what it is a test of.
pub is_so : {b : Bool} {r : Bool} → r ≡ b → r ≡ true → T b
is_so e q = subst (λ (x : Bool). T x) (sym (sym e ∙ q)) tt

pub is_not : {b : Bool} {r : Bool} → r ≡ b → r ≡ false → T b → ⊥
is_not e q t = subst (λ (x : Bool). T x) (sym e ∙ q) t

-- ── A numeral's parts, from a place of a text on ──────────────────────────────────────────────────

pub exponent-past : (s : List ℕ) (i : ℕ) → length s ≤ i → Exponent (drop i s)
exponent-past s i h = subst Exponent (sym (nothing_left s i h)) Exponent.none

module _ (s : List ℕ) (i : ℕ) (h : i < length s) where
  pub no_e : (T (is_e (get_or s i 0)) → ⊥) → Exponent (drop i s) → ⊥
  no_e n E = n (exponent_e (subst Exponent (left s i h) E))

  pub lone_e : length s ≤ i + 1 → Exponent (drop i s) → ⊥
  lone_e g E = exponent_alone (subst Exponent (left s i h ∙ ap (λ (l : List ℕ). get_or s i 0 ∷ l) (nothing_left s (i + 1) g)) E)

  module _ (g : i + 1 < length s) where
    second : drop (i + 1) s ≡ get_or s (i + 1) 0 ∷ drop (i + 2) s
    second = let e : i + 1 + 1 ≡ i + 2 = omega arith in left s (i + 1) g ∙ ap (λ (n : ℕ). get_or s (i + 1) 0 ∷ drop n s) e

    both : drop i s ≡ get_or s i 0 ∷ get_or s (i + 1) 0 ∷ drop (i + 2) s
    both = left s i h ∙ ap (λ (l : List ℕ). get_or s i 0 ∷ l) second

    pub exponent-signed : {r : Bool} → T (is_e (get_or s i 0)) → T (is_sign (get_or s (i + 1) 0)) → Says (SomeDigits (drop (i + 2) s)) r → Says (Exponent (drop i s)) r
    exponent-signed e t d = same (λ m. subst Exponent (sym both) (with_sign e t m)) (λ E. from_sign t (subst Exponent both E)) d

    pub exponent_unsigned : {r : Bool} → T (is_e (get_or s i 0)) → (T (is_sign (get_or s (i + 1) 0)) → ⊥) → Says (SomeDigits (drop (i + 1) s)) r → Says (Exponent (drop i s)) r
    exponent_unsigned e n d =
        same (λ m. subst Exponent (sym (left s i h)) (without_sign e m)) (λ E. subst SomeDigits (sym second) (from_digits n (subst Exponent both E))) d

  pub tail_other : {r : Bool} → (get_or s i 0 ≡ code "." → ⊥) → Says (Exponent (drop i s)) r → Says (Tail (drop i s)) r
  tail_other n d = same tail_exponent (λ t. subst Exponent (sym (left s i h)) (exponent_of_tail n (subst Tail (left s i h) t))) d

  module _ (p : get_or s i 0 ≡ code ".") {r : ℕ} (d : Digits s (i + 1) r) where
    from_point : drop i s ≡ code "." ∷ drop (i + 1) s
    from_point = left s i h ∙ ap (λ (b : ℕ). b ∷ drop (i + 1) s) p

    pub tail_bare : r ≡ i + 1 → Tail (drop i s) → ⊥
    tail_bare e t = no_fraction s d e (subst Tail from_point t)

    pub tail_pointed : {a : Bool} → (r ≡ i + 1 → ⊥) → Says (Exponent (drop r s)) a → Says (Tail (drop i s)) a
    tail_pointed n x = same (λ E. subst Tail (sym from_point) (fraction_then s d n E)) (λ t. then_exponent s d (subst Tail from_point t)) x

pub tail_past : (s : List ℕ) (i : ℕ) → length s ≤ i → Tail (drop i s)
tail_past s i h = tail_exponent (exponent-past s i h)

pub no_numeral : (s : List ℕ) → length s ≡ 0 → Numeral s → ⊥
no_numeral [] e n = empty_numeral n
no_numeral (b ∷ s) e n = omega arith

module _ (s : List ℕ) (h : 0 < length s) where
  first : s ≡ get_or s 0 0 ∷ drop 1 s
  first = left s 0 h

  pub numeral_digit : Numeral s → T (is_digit (get_or s 0 0))
  numeral_digit n = numeral_first (get_or s 0 0) (drop 1 s) (subst Numeral first n)

  pub numeral_zero : {r : Bool} → get_or s 0 0 ≡ code "0" → Says (Tail (drop 1 s)) r → Says (Numeral s) r
  numeral_zero e d =
      let q : s ≡ code "0" ∷ drop 1 s = first ∙ ap (λ (b : ℕ). b ∷ drop 1 s) e in
      same (λ t. subst Numeral (sym q) (zero_then t)) (λ n. after_zero (subst Numeral q n)) d

  pub numeral_whole : {r : Bool} {e : ℕ} → Digits s 1 e → T (is_digit (get_or s 0 0)) → (get_or s 0 0 ≡ code "0" → ⊥) → Says (Tail (drop e s)) r → Says (Numeral s) r
  numeral_whole ds t n d =
      same (λ m. subst Numeral (sym first) (whole_then s ds (get_or s 0 0) (no_zero (get_or s 0 0) t n) m))
      (λ m. after_whole s ds (get_or s 0 0) n (subst Numeral first m)) d

pub utf8_whole : (s : List ℕ) (n : ℕ) → ValidTo s n → Says (Utf8 s) (leb (length s) n)
utf8_whole s n v = by (leb (length s) n) refl
  where
    by : (b : Bool) → leb (length s) n ≡ b → Says (Utf8 s) b
    by true e = holds (subst (λ (l : List ℕ). Utf8 l) (take_all n s (leb-true (length s) n e)) v.valid)
    by false e = fails (λ u. let h = leb-false (length s) n e in omega (arith, h, v.longest (length s) (le_refl (length s)) (subst (λ (l : List ℕ). Utf8 l) (sym (take-length s)) u)))

-- ── Names ─────────────────────────────────────────────────────────────────────────────────────────

all_of : (f : ℕ → Bool) (l : List ℕ) → list_all f l ≡ true → All f l
all_of f [] e = tt
all_of f (b ∷ l) e = let p = and_parts (f b) (list_all f l) e in (subst (λ (x : Bool). T x) (sym p.0) tt, all_of f l p.1)

none_of : (f : ℕ → Bool) (l : List ℕ) → list_all f l ≡ false → All f l → ⊥
none_of f [] e a = no_such (sym e)
none_of f (b ∷ l) e a = ⊎_elim (λ q. subst (λ (x : Bool). T x) q a.0) (λ q. none_of f l q a.1) (and_cases (f b) (list_all f l) e)

behind : (s : List ℕ) → take (length s - 1) (drop 1 s) ≡ drop 1 s
behind s = take_all (length s - 1) (drop 1 s) (omega (arith, length-drop 1 s))

module _ (s : List ℕ) (h : 1 ≤ length s) where
  pub name_told : {k : Bool} → T (in_class alpha (get_or s 0 0)) → list_all (in_class alnum) (take (length s - 1) (drop 1 s)) ≡ true → TellsKeyword s k → Says (NameText s) (not k)
  name_told t e k = by s h t (sym (ap (list_all (in_class alnum)) (behind s)) ∙ e) k
    where
      by : (s : List ℕ) → 1 ≤ length s → {k : Bool} → T (in_class alpha (get_or s 0 0)) → list_all (in_class alnum) (drop 1 s) ≡ true → TellsKeyword s k → Says (NameText s) (not k)
      by [] h t e k = absurd (omega arith)
      by (b ∷ s) h t e (TellsKeyword.keyword m) = fails (λ n. n.no_keyword m)
      by (b ∷ s) h t e (TellsKeyword.other n) = holds (record { identifier = (t, all_of (in_class alnum) s e); no_keyword = n })

  pub no_word : list_all (in_class alnum) (take (length s - 1) (drop 1 s)) ≡ false → NameText s → ⊥
  no_word e n = by s (sym (ap (list_all (in_class alnum)) (behind s)) ∙ e) n
    where
      by : (s : List ℕ) → list_all (in_class alnum) (drop 1 s) ≡ false → NameText s → ⊥
      by [] e n = n.identifier
      by (b ∷ s) e n = none_of (in_class alnum) s e n.identifier.1

pub number_told : {t : List ℕ} {k : Bool} → Numeral t → Verdict t k → Says (NumberText t) (not k)
number_told p (Verdict.too_large l) = fails (λ m. m.in_range l)
number_told p (Verdict.in_range n) = holds (record { numeral = p; in_range = n })
