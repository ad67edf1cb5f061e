-- A number literal is too large with its underscores where it is without them.
-- Assumes nothing.
use mathlib.Core.Path.{◌≡◌, refl, sym, ap, subst, subst⁻¹, ◌∙◌}
use mathlib.Core.Bool.{Bool, true, false, ◌||◌, cond, true≢false}
use mathlib.Core.List.{List, [], ◌∷◌}
use mathlib.Core.Logic.{◌⊎◌, inl, inr}
use Prim.Native.Nat.{ℕ, ◌+◌, ◌-◌}
use native.Mathlib.Decide.{ℕ_discrete}
use native.Mathlib.Omega.{arith}
use lib.Dec.{eqb}
use lib.ListN.{take, drop}
use lib.Seq.{slice}
use borrow.Author.Tests.{ne_eqb}
use Rattle.numerals.specs.Value.{is_digit, spelled, digits, before, behind, has, places, Large, multiplied, divided, TooLarge, Verdict, too_large, in_range}
use Rattle.numerals.specs.Inner.{pushed}
use Rattle.numerals.proofs.Scans.{before_here, before_other, behind-here, behind_other}
use Rattle.lexemes.specs.Texts.{plain}
use Rattle.leaves.proofs.PartLaws.{lent}

abbrev UNDER : ℕ
UNDER = 0x5F

plain_under : (bs : List ℕ) → plain (UNDER ∷ bs) ≡ plain bs
unfolding plain
plain_under bs = refl

plain_kept : (b : ℕ) (bs : List ℕ) → (b ≡ UNDER → ⊥) → plain (b ∷ bs) ≡ b ∷ plain bs
unfolding plain
plain_kept b bs n = ap (λ (t : Bool). cond t (plain bs) (b ∷ plain bs)) (ne_eqb b UNDER n)

spelled-plain : (n : ℕ) (t : List ℕ) → spelled n (plain t) ≡ spelled n t
unfolding spelled plain
spelled-plain n [] = refl
spelled-plain n (b ∷ bs) = by (ℕ_discrete b UNDER) (λ m. spelled-plain m bs)
  where
    by : Dec (b ≡ UNDER) → ((m : ℕ) → spelled m (plain bs) ≡ spelled m bs) → spelled n (plain (b ∷ bs)) ≡ spelled n (b ∷ bs)
    by (yes e) h = subst⁻¹ (λ (c : ℕ). spelled n (plain (c ∷ bs)) ≡ spelled n (c ∷ bs)) e (h n)
    by (no f) h = ap (spelled n) (plain_kept b bs f) ∙ h (pushed n b)

digits-plain : (t : List ℕ) → digits (plain t) ≡ digits t
unfolding digits plain
digits-plain [] = refl
digits-plain (b ∷ bs) = by (ℕ_discrete b UNDER) (digits-plain bs)
  where
    by : Dec (b ≡ UNDER) → digits (plain bs) ≡ digits bs → digits (plain (b ∷ bs)) ≡ digits (b ∷ bs)
    by (yes e) h = subst⁻¹ (λ (c : ℕ). digits (plain (c ∷ bs)) ≡ digits (c ∷ bs)) e h
    by (no f) h = ap digits (plain_kept b bs f) ∙ ap (λ (m : ℕ). cond (is_digit b) (1 + m) m) h

has-plain : (x : ℕ) → (UNDER ≡ x → ⊥) → (t : List ℕ) → has x (plain t) ≡ has x t
unfolding has plain
has-plain x n [] = refl
has-plain x n (b ∷ bs) = by (ℕ_discrete b UNDER) (has-plain x n bs)
  where
    by : Dec (b ≡ UNDER) → has x (plain bs) ≡ has x bs → has x (plain (b ∷ bs)) ≡ has x (b ∷ bs)
    by (yes e) h = subst⁻¹ (λ (c : ℕ). has x (plain (c ∷ bs)) ≡ has x (c ∷ bs)) e (h ∙ sym (ap (λ (t : Bool). t || has x bs) (ne_eqb UNDER x n)))
    by (no f) h = ap (has x) (plain_kept b bs f) ∙ ap (λ (t : Bool). eqb b x || t) h

module _ (x y : ℕ) (n : UNDER ≡ x → ⊥) (m : UNDER ≡ y → ⊥) where
  one_of : (b : ℕ) → ((b ≡ x) ⊎ (b ≡ y)) ⊎ ((b ≡ x → ⊥) × (b ≡ y → ⊥))
  one_of b = by (ℕ_discrete b x) (ℕ_discrete b y)
    where
      by : Dec (b ≡ x) → Dec (b ≡ y) → ((b ≡ x) ⊎ (b ≡ y)) ⊎ ((b ≡ x → ⊥) × (b ≡ y → ⊥))
      by (yes e) d = inl (inl e)
      by (no f) (yes e) = inl (inr e)
      by (no f) (no g) = inr (f, g)

  before-plain : (t : List ℕ) → before x y (plain t) ≡ plain (before x y t)
  unfolding before plain
  before-plain [] = refl
  before-plain (b ∷ bs) = by (ℕ_discrete b UNDER) (before-plain bs)
    where
      kept : (b ≡ UNDER → ⊥) → before x y (plain bs) ≡ plain (before x y bs) → ((b ≡ x) ⊎ (b ≡ y)) ⊎ ((b ≡ x → ⊥) × (b ≡ y → ⊥))
          → before x y (b ∷ plain bs) ≡ plain (before x y (b ∷ bs))
      kept f h (inl e) = before_here x y b (plain bs) e ∙ sym (ap plain (before_here x y b bs e))
      kept f h (inr g) =
          before_other x y b (plain bs) g.0 g.1 ∙ ap (λ (l : List ℕ). b ∷ l) h ∙ sym (plain_kept b (before x y bs) f) ∙ sym (ap plain (before_other x y b bs g.0 g.1))

      by : Dec (b ≡ UNDER) → before x y (plain bs) ≡ plain (before x y bs) → before x y (plain (b ∷ bs)) ≡ plain (before x y (b ∷ bs))
      by (yes e) h = subst⁻¹ (λ (c : ℕ). before x y (plain (c ∷ bs)) ≡ plain (before x y (c ∷ bs))) e (h ∙ sym (ap plain (before_other x y UNDER bs n m)))
      by (no f) h = ap (before x y) (plain_kept b bs f) ∙ kept f h (one_of b)

  behind-plain : (t : List ℕ) → behind x y (plain t) ≡ plain (behind x y t)
  unfolding behind plain
  behind-plain [] = refl
  behind-plain (b ∷ bs) = by (ℕ_discrete b UNDER) (behind-plain bs)
    where
      kept : behind x y (plain bs) ≡ plain (behind x y bs) → ((b ≡ x) ⊎ (b ≡ y)) ⊎ ((b ≡ x → ⊥) × (b ≡ y → ⊥))
          → behind x y (b ∷ plain bs) ≡ plain (behind x y (b ∷ bs))
      kept h (inl e) = behind-here x y b (plain bs) e ∙ sym (ap plain (behind-here x y b bs e))
      kept h (inr g) = behind_other x y b (plain bs) g.0 g.1 ∙ h ∙ sym (ap plain (behind_other x y b bs g.0 g.1))

      by : Dec (b ≡ UNDER) → behind x y (plain bs) ≡ plain (behind x y bs) → behind x y (plain (b ∷ bs)) ≡ plain (behind x y (b ∷ bs))
      by (yes e) h = subst⁻¹ (λ (c : ℕ). behind x y (plain (c ∷ bs)) ≡ plain (behind x y (c ∷ bs))) e (h ∙ sym (ap plain (behind_other x y UNDER bs n m)))
      by (no f) h = ap (behind x y) (plain_kept b bs f) ∙ kept h (one_of b)

places-plain : (m : List ℕ) → places (plain m) ≡ places m
places-plain m = ap digits (behind-plain 0x2E 0x2E (λ e. omega (arith, e)) (λ e. omega (arith, e)) m) ∙ digits-plain (behind 0x2E 0x2E m)

-- Two pairs of parts that say the same.
alike : {m m' x x' : List ℕ} → spelled 0 m ≡ spelled 0 m' → places m ≡ places m' → spelled 0 x ≡ spelled 0 x' → has 0x2D x ≡ has 0x2D x' → Large m x → Large m' x'
alike {m} {m'} {x} {x'} a b c d (multiplied e l) = multiplied (sym d ∙ e) (rw (← a, ← b, ← c) l)
alike {m} {m'} {x} {x'} a b c d (divided e l) = divided (sym d ∙ e) (rw (← a, ← b, ← c) l)

module _ (t : List ℕ) where
  mantissas : before 0x65 0x45 (plain t) ≡ plain (before 0x65 0x45 t)
  mantissas = before-plain 0x65 0x45 (λ e. omega (arith, e)) (λ e. omega (arith, e)) t

  exponents : behind 0x65 0x45 (plain t) ≡ plain (behind 0x65 0x45 t)
  exponents = behind-plain 0x65 0x45 (λ e. omega (arith, e)) (λ e. omega (arith, e)) t

  abbrev m : List ℕ
  m = before 0x65 0x45 t

  abbrev x : List ℕ
  x = behind 0x65 0x45 t

  same_digits : spelled 0 (before 0x65 0x45 (plain t)) ≡ spelled 0 m
  same_digits = ap (spelled 0) mantissas ∙ spelled-plain 0 m

  same_places : places (before 0x65 0x45 (plain t)) ≡ places m
  same_places = ap places mantissas ∙ places-plain m

  same_power : spelled 0 (behind 0x65 0x45 (plain t)) ≡ spelled 0 x
  same_power = ap (spelled 0) exponents ∙ spelled-plain 0 x

  same_minus : has 0x2D (behind 0x65 0x45 (plain t)) ≡ has 0x2D x
  same_minus = ap (has 0x2D) exponents ∙ has-plain 0x2D (λ e. omega (arith, e)) x

  pub large_with : TooLarge (plain t) → TooLarge t
  large_with l = record { value = alike same_digits same_places same_power same_minus l.value }

  pub large_without : TooLarge t → TooLarge (plain t)
  large_without l = record { value = alike (sym same_digits) (sym same_places) (sym same_power) (sym same_minus) l.value }

-- What the test says of a part of the source.
module _ (s : List ℕ) (a e : ℕ) {r : Bool} (v : Verdict (take (e - a) (drop a s)) r) where
  pub judged_large : r ≡ true → TooLarge (plain (slice a e s))
  judged_large q = by (subst (λ (l : List ℕ). Verdict l r) (lent a e s) v) q
    where
      by : {b : Bool} → Verdict (slice a e s) b → b ≡ true → TooLarge (plain (slice a e s))
      by (too_large l) q = large_without (slice a e s) l
      by (in_range n) q = absurd (true≢false (sym q))

  pub judged_in_range : r ≡ false → TooLarge (plain (slice a e s)) → ⊥
  judged_in_range q = by (subst (λ (l : List ℕ). Verdict l r) (lent a e s) v) q
    where
      by : {b : Bool} → Verdict (slice a e s) b → b ≡ false → TooLarge (plain (slice a e s)) → ⊥
      by (too_large l) q = absurd (true≢false q)
      by (in_range n) q = λ l. n (large_with (slice a e s) l)
