-- The table of byte classes and its rule: one test of all 256 entries, which antt computes, and what it says of each.
-- Assumes nothing.
use mathlib.Core.Path.{◌≡◌, refl, sym, ◌∙◌, ap, subst}
use mathlib.Core.Bool.{Bool, true, false, not, ◌&&◌}
use mathlib.Core.List.{List, [], ◌∷◌}
use Prim.Native.Nat.{ℕ, zero, suc, ◌+◌, ◌-◌, ◌<◌, ◌≤◌}
use native.Mathlib.Omega.{arith}
use native.Mathlib.Decide.{dec_lt}
use borrow.Author.Tests.{le-ltb, ne_eqb}
use lib.Dec.{T, eqb, eqb→eq, leb, le→leb, leb→le}
use lib.ListN.{length, get_or, get_or-eq_default}
use Rattle.std.proofs.lemmas.Bool.Decides.{nat_tests}
use Rattle.std.specs.Char.{is_ascii_digit}
use Rattle.regexes.specs.Regex.{END, Rule}
use Rattle.regexes.proofs.Bools.{is_true, is_false, and, refutes, refuted, and_left, and_right, every, Each, each, all, all_at, implies, implied}
use Rattle.regexes.proofs.Tables.{steps, gives}
use Rattle.lexemes.specs.Letters.{WHITE, OTHER, next}
use Rattle.lexemes.specs.Scan.{class_of, ascii_class, class_table, RunOf, Ran, InWord, Says, IsDigit, single, Best}
use Rattle.lexemes.proofs.Letters.{letter-ascii, next-ascii, by_byte, inside}
use Rattle.lexemes.proofs.Moves.{Sees, not_in, NotAll, not_all, Rest, at_rest, go, stop}

right : ℕ → Bool
right b = eqb (get_or class_table b 0) (48 + class_of b)

pub table_right : (b : ℕ) → b < 256 → get_or class_table b 0 ≡ 48 + class_of b
unfolding right class_table all class_of ascii_class
table_right b h = eqb→eq (get_or class_table b 0) (48 + class_of b) (all_at right 256 tt b h)

few : ℕ → Bool
few b = leb (class_of b) 10

pub class_most : (b : ℕ) → b < 256 → class_of b ≤ 10
unfolding few all class_of ascii_class
class_most b h = leb→le (class_of b) 10 (all_at few 256 tt b h)

-- What an entry of the table says of its byte.
pub entry_says : (b k : ℕ) → b < 256 → get_or class_table b 0 ≡ 48 + k → k ≡ class_of b
entry_says b k h e = omega (arith, e, table_right b h)

-- A byte that has a class is one of ASCII, and not 0.
pub class_zero : class_of 0 ≡ 0
unfolding class_of ascii_class
class_zero = refl

pub class_small : (b : ℕ) → 1 ≤ class_of b → b < 128
unfolding class_of
class_small b h = by (dec_lt b 128)
  where
    by : Dec (b < 128) → b < 128
    by (yes l) = l
    by (no n) = absurd (omega (arith, simp (le-ltb b 128 (omega arith)) at h))

abbrev pub between : ℕ → ℕ → ℕ → Bool
between lo hi b = leb lo (class_of b) && leb (class_of b) hi

pub is_between : (lo hi b : ℕ) → lo ≤ class_of b → class_of b ≤ hi → T (between lo hi b)
is_between lo hi b p q = and (leb lo (class_of b)) (leb (class_of b) hi) (le→leb lo (class_of b) p) (le→leb (class_of b) hi q)

pub not_between : (lo hi b : ℕ) → (lo ≤ class_of b → class_of b ≤ hi → ⊥) → T (not (between lo hi b))
not_between lo hi b n =
    refutes (between lo hi b)
    (λ t. n (leb→le lo (class_of b) (and_left (leb lo (class_of b)) (leb (class_of b) hi) t))
    (leb→le (class_of b) hi (and_right (leb lo (class_of b)) (leb (class_of b) hi) t)))

-- The bytes of the classes lo to hi pass a test, and no other letter does.
abbrev covering : ℕ → ℕ → (ℕ → Bool) → List Bool
covering lo hi f =
    implies 128 (between lo hi) f ∷ implies 128 (λ b. not (between lo hi b)) (λ b. not (f b)) ∷ not (f WHITE) ∷ not (f OTHER) ∷ not (f END) ∷ []

unfoldable pub covers : ℕ → ℕ → (ℕ → Bool) → Bool
unfolding implies class_of ascii_class
covers lo hi f = every (covering lo hi f)

module _ (s : List ℕ) (lo hi : ℕ) (f : ℕ → Bool) (some : 1 ≤ lo) (c : T (covers lo hi f)) where
  parts : Each (covering lo hi f)
  unfolding covers
  parts = each (covering lo hi f) c

  -- A byte of these classes, and a place where none stands.
  pub classed : (i : ℕ) → lo ≤ class_of (get_or s i 0) → class_of (get_or s i 0) ≤ hi → Sees s i f (i + 1)
  classed i p q =
      let small : get_or s i 0 < 128 = class_small (get_or s i 0) (omega arith) in
      let here : i < length s = inside s i (positive (get_or s i 0) p) in
      record {
        passes = subst (λ (x : ℕ). T (f x)) (sym (letter-ascii s i here small)) (implied 128 (between lo hi) f parts.0 (get_or s i 0) small (is_between lo hi (get_or s i 0) p q));
        after = sym (next-ascii s i here small);
      }
    where
      positive : (b : ℕ) → lo ≤ class_of b → 0 < b
      positive zero p = absurd (omega (arith, class_zero))
      positive (suc b) p = omega arith

  pub unclassed : (i : ℕ) → (lo ≤ class_of (get_or s i 0) → class_of (get_or s i 0) ≤ hi → ⊥) → Sees s i (λ l. not (f l)) (next s i)
  unclassed i n =
      record {
        passes =
            by_byte s i (λ l. not (f l)) parts.1.1.0 parts.1.1.1.0 parts.1.1.1.1.0
            (λ small. implied 128 (λ b. not (between lo hi b)) (λ b. not (f b)) parts.1.0 (get_or s i 0) small (not_between lo hi (get_or s i 0) n));
        after = refl;
      }

  -- Over a run of these classes, by which the table S comes back.
  module _ (from r : ℕ) (ran : Ran s from lo hi r) (S : List Rule) (t : T (steps S f S)) where
    pub run_on : (k e n i : ℕ) → from ≤ i → i + n ≡ r → Best s S r k e → Best s S i k e
    run_on k e zero i a b l = subst (λ (x : ℕ). Best s S x k e) (omega arith) l
    run_on k e (suc n) i a b l =
        let c = ran.each i a (omega arith) in
        go (classed i c.0 c.1) (run_on k e n (i + 1) (omega arith) (omega arith) l) t

    pub run_stop : (k : ℕ) → T (steps S (λ l. not (f l)) []) → T (gives S k) → Best s S from k r
    run_stop k u a = run_on k r (r - from) from (omega arith) (omega (arith, ran.start)) (stop (unclassed r ran.over) u a)

-- What holds of each number from f below i, and of i, holds below i + 1.
pub up_to : (P : ℕ → Type 0) (f i : ℕ) → ((k : ℕ) → f ≤ k → k < i → P k) → P i → (k : ℕ) → f ≤ k → k < i + 1 → P k
up_to P f i h p k g l = by (dec_lt k i)
  where
    by : Dec (k < i) → P k
    by (yes m) = h k g m
    by (no n) = subst (λ (x : ℕ). P x) (omega arith) p

-- A run so far: its bytes have the classes lo to hi.
pub record Passed (s : List ℕ) (f lo hi i : ℕ) : Type 0 where
  pub start : f ≤ i
  pub end : i ≤ length s
  pub each : (k : ℕ) → f ≤ k → k < i → (lo ≤ class_of (get_or s k 0)) × (class_of (get_or s k 0) ≤ hi)

pub passed_none : {s : List ℕ} {f lo hi : ℕ} → f ≤ length s → Passed s f lo hi f
passed_none h = record { start = omega arith; end = h; each = λ k g l. omega arith }

pub passed_on : {s : List ℕ} {f lo hi i : ℕ} → Passed s f lo hi i → i < length s → (lo ≤ class_of (get_or s i 0)) × (class_of (get_or s i 0) ≤ hi) → Passed s f lo hi (i + 1)
passed_on {s} {f} {lo} {hi} {i} p h c =
    record {
      start = omega (arith, p.start);
      end = omega arith;
      each = up_to (λ (k : ℕ). (lo ≤ class_of (get_or s k 0)) × (class_of (get_or s k 0) ≤ hi)) f i p.each c;
    }

-- It is over at a byte of another class, and at the end of the source.
pub passed_over : {s : List ℕ} {f lo hi i : ℕ} → Passed s f lo hi i → ((lo ≤ class_of (get_or s i 0)) × (class_of (get_or s i 0) ≤ hi) → ⊥) → Ran s f lo hi i
passed_over p n = record { start = p.start; end = p.end; each = p.each; over = λ h g. n (h, g) }

pub passed_end : {s : List ℕ} {f lo hi i : ℕ} → Passed s f lo hi i → 1 ≤ lo → length s ≤ i → Ran s f lo hi i
passed_end {s} {i = i} p some h =
    let z : get_or s i 0 ≡ 0 = get_or-eq_default s 0 h in
    passed_over p (λ c. omega (arith, ap class_of z ∙ class_zero))

-- A test that tells the bytes of the classes lo to hi; a run of such bytes.
unfoldable pub tells : ℕ → ℕ → (ℕ → Bool) → Bool
unfolding implies class_of ascii_class
tells lo hi p = implies 256 p (between lo hi) && implies 256 (λ b. not (p b)) (λ b. not (between lo hi b))

pub ran_by : (p : ℕ → Bool) (lo hi : ℕ) → 1 ≤ lo → T (tells lo hi p) → (s : List ℕ) {f r : ℕ} → ((k : ℕ) → get_or s k 0 < 256) → RunOf p s f r → Ran s f lo hi r
unfolding tells
ran_by p lo hi some t s {f} {r} bytes run = record {
  start = run.start;
  end = run.end;
  each = λ k g l. inside k (is_true (p (get_or s k 0)) (run.each k g l));
  over = over (dec_lt r (length s));
}
  where
    inside : (k : ℕ) → T (p (get_or s k 0)) → (lo ≤ class_of (get_or s k 0)) × (class_of (get_or s k 0) ≤ hi)
    inside k u =
        let x = implied 256 p (between lo hi) (and_left (implies 256 p (between lo hi)) (implies 256 (λ b. not (p b)) (λ b. not (between lo hi b))) t) (get_or s k 0) (bytes k) u in
        (leb→le lo (class_of (get_or s k 0)) (and_left (leb lo (class_of (get_or s k 0))) (leb (class_of (get_or s k 0)) hi) x), leb→le (class_of (get_or s k 0)) hi (and_right (leb lo (class_of (get_or s k 0))) (leb (class_of (get_or s k 0)) hi) x))

    over : Dec (r < length s) → lo ≤ class_of (get_or s r 0) → class_of (get_or s r 0) ≤ hi → ⊥
    over (yes l) h g =
        refuted (between lo hi (get_or s r 0))
        (implied 256 (λ b. not (p b)) (λ b. not (between lo hi b)) (and_right (implies 256 p (between lo hi)) (implies 256 (λ b. not (p b)) (λ b. not (between lo hi b))) t) (get_or s r 0) (bytes r) (is_false (p (get_or s r 0)) (run.over l)))
        (is_between lo hi (get_or s r 0) h g)
    over (no n) h g = let z : get_or s r 0 ≡ 0 = get_or-eq_default s 0 (omega arith) in omega (arith, ap class_of z ∙ class_zero)

-- What says whether a word goes on is the test of the classes.
pub says_between : (b : ℕ) (r : Bool) → Says r (InWord b) → r ≡ between 1 3 b
says_between b true w = sym (true_of (between 1 3 b) (is_between 1 3 b w.0 w.1))
  where
    true_of : (t : Bool) → T t → t ≡ true
    true_of true u = refl
    true_of false u = absurd u
says_between b false n = sym (false_of (between 1 3 b) (not_between 1 3 b (λ h g. n (h, g))))
  where
    false_of : (t : Bool) → T (not t) → t ≡ false
    false_of false u = refl
    false_of true u = absurd u

-- All bytes from one to another pass a test.
abbrev from_to : ℕ → ℕ → ℕ → Bool
from_to lo hi b = leb lo b && leb b hi

ranged : (f : ℕ → Bool) (lo hi : ℕ) → T (implies 256 (from_to lo hi) f) → (b : ℕ) → b < 256 → lo ≤ b → b ≤ hi → T (f b)
ranged f lo hi t b h g l = implied 256 (from_to lo hi) f t b h (and (leb lo b) (leb b hi) (le→leb lo b g) (le→leb b hi l))

-- All bytes from one to another begin a word, and none does; a word goes on with each, and with none.
module _ (lo hi : ℕ) where
  unfoldable pub begins_all : Bool
  unfolding implies class_of ascii_class
  begins_all = implies 256 (from_to lo hi) (λ b. eqb (class_of b) 1)

  unfoldable pub begins_none : Bool
  unfolding implies class_of ascii_class
  begins_none = implies 256 (from_to lo hi) (λ b. not (eqb (class_of b) 1))

  unfoldable pub goes_on_all : Bool
  unfolding implies class_of ascii_class
  goes_on_all = implies 256 (from_to lo hi) (between 1 3)

  unfoldable pub goes_on_none : Bool
  unfolding implies class_of ascii_class
  goes_on_none = implies 256 (from_to lo hi) (λ b. not (between 1 3 b))

  module _ (b : ℕ) (h : b < 256) (g : lo ≤ b) (l : b ≤ hi) where
    pub begins-word : T begins_all → class_of b ≡ 1
    unfolding begins_all
    begins-word t = eqb→eq (class_of b) 1 (ranged (λ b. eqb (class_of b) 1) lo hi t b h g l)

    pub begins_no_word : T begins_none → class_of b ≡ 1 → ⊥
    unfolding begins_none
    begins_no_word t e = refuted (eqb (class_of b) 1) (ranged (λ b. not (eqb (class_of b) 1)) lo hi t b h g l) (subst (λ (x : ℕ). T (eqb x 1)) (sym e) tt)

    pub in_word : T goes_on_all → InWord b
    unfolding goes_on_all
    in_word t =
        let u = ranged (between 1 3) lo hi t b h g l in
        (leb→le 1 (class_of b) (and_left (leb 1 (class_of b)) (leb (class_of b) 3) u), leb→le (class_of b) 3 (and_right (leb 1 (class_of b)) (leb (class_of b) 3) u))

    pub in_no_word : T goes_on_none → InWord b → ⊥
    unfolding goes_on_none
    in_no_word t w = refuted (between 1 3 b) (ranged (λ b. not (between 1 3 b)) lo hi t b h g l) (is_between 1 3 b w.0 w.1)

-- A digit, by its byte.
digits_are : T (implies 256 (λ b. leb 48 b && leb b 57) (between 2 3))
unfolding implies class_of ascii_class
digits_are = tt

digits_only : T (implies 128 (between 2 3) (λ b. leb 48 b && leb b 57))
unfolding implies class_of ascii_class
digits_only = tt

pub digit_class : (b : ℕ) → 48 ≤ b → b ≤ 57 → (2 ≤ class_of b) × (class_of b ≤ 3)
digit_class b h g =
    let t = implied 256 (λ b. leb 48 b && leb b 57) (between 2 3) digits_are b (omega arith) (and (leb 48 b) (leb b 57) (le→leb 48 b h) (le→leb b 57 g)) in
    (leb→le 2 (class_of b) (and_left (leb 2 (class_of b)) (leb (class_of b) 3) t), leb→le (class_of b) 3 (and_right (leb 2 (class_of b)) (leb (class_of b) 3) t))

pub class_digit : (b : ℕ) → 2 ≤ class_of b → class_of b ≤ 3 → (48 ≤ b) × (b ≤ 57)
class_digit b h g =
    let t = implied 128 (between 2 3) (λ b. leb 48 b && leb b 57) digits_only b (class_small b (omega arith)) (is_between 2 3 b h g) in
    (leb→le 48 b (and_left (leb 48 b) (leb b 57) t), leb→le b 57 (and_right (leb 48 b) (leb b 57) t))

-- The library's test of a digit.
pub digit_told : (b : ℕ) (r : Bool) → r ≡ is_ascii_digit b → Says r (IsDigit b)
digit_told b true e = digit_class b (grind (arith, nat_tests)) (grind (arith, nat_tests))
digit_told b false e = λ d. let h = class_digit b d.0 d.1 in grind (arith, nat_tests)

-- A blank, by its byte.
blanks_only : T (implies 256 (not_in (13 ∷ 10 ∷ 9 ∷ 32 ∷ [])) (λ b. not (eqb (class_of b) 4)))
unfolding implies class_of ascii_class
blanks_only = tt

pub no_blank : (b : ℕ) → b < 256 → Rest (13 ∷ 10 ∷ 9 ∷ 32 ∷ []) b → class_of b ≡ 4 → ⊥
no_blank b h r e =
    refuted (eqb (class_of b) 4) (implied 256 (not_in (13 ∷ 10 ∷ 9 ∷ 32 ∷ [])) (λ b. not (eqb (class_of b) 4)) blanks_only b h (at_rest (13 ∷ 10 ∷ 9 ∷ 32 ∷ []) b r))
    (subst (λ (x : ℕ). T (eqb x 4)) (sym e) tt)

pub says_blank : (b : ℕ) (r : Bool) → Says r (class_of b ≡ 4) → r ≡ eqb (class_of b) 4
says_blank b true e = sym (ap (λ (x : ℕ). eqb x 4) e)
says_blank b false n = sym (ne_eqb (class_of b) 4 n)

-- An operator, by its byte; and what has no class: none of these bytes, no letter, no operator.
operators_only : T (implies 256 (λ b. not (eqb (single b) 0)) (λ b. eqb (class_of b) 10))
unfolding implies class_of ascii_class single
operators_only = tt

pub operator_class : (b : ℕ) → b < 256 → (single b ≡ 0 → ⊥) → class_of b ≡ 10
operator_class b h n =
    eqb→eq (class_of b) 10
    (implied 256 (λ b. not (eqb (single b) 0)) (λ b. eqb (class_of b) 10) operators_only b h (refutes (eqb (single b) 0) (λ t. n (eqb→eq (single b) 0 t))))

-- The bytes from lo to hi but for xs that begin no word and are no operator have no class.
unfoldable pub else_none : ℕ → ℕ → List ℕ → Bool
unfolding implies class_of ascii_class single
else_none lo hi xs = implies 256 (λ b. (from_to lo hi b && not_in xs b) && (not (eqb (class_of b) 1) && eqb (single b) 0)) (λ b. eqb (class_of b) 0)

pub none_begun : (lo hi : ℕ) (xs : List ℕ) → T (else_none lo hi xs) → (b : ℕ) → b < 256 → lo ≤ b → b ≤ hi → NotAll xs b → (class_of b ≡ 1 → ⊥) → single b ≡ 0 → 0 ≡ class_of b
unfolding else_none
none_begun lo hi xs t b h g l r n z =
    sym (eqb→eq (class_of b) 0
    (implied 256 (λ b. (from_to lo hi b && not_in xs b) && (not (eqb (class_of b) 1) && eqb (single b) 0)) (λ b. eqb (class_of b) 0) t b h
    (and (from_to lo hi b && not_in xs b) (not (eqb (class_of b) 1) && eqb (single b) 0)
    (and (from_to lo hi b) (not_in xs b) (and (leb lo b) (leb b hi) (le→leb lo b g) (le→leb b hi l)) (not_all xs b r))
    (and (not (eqb (class_of b) 1)) (eqb (single b) 0) (refutes (eqb (class_of b) 1) (λ t. n (eqb→eq (class_of b) 1 t))) (subst (λ (x : ℕ). T (eqb x 0)) (sym z) tt)))))
