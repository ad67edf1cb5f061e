-- Spans in one number: none runs backward exactly where no value is the one for that.
-- Assumes nothing.
use mathlib.Core.Path.{◌≡◌, refl, ap, ◌∙◌}
use mathlib.Core.Bool.{Bool, true, false, cond}
use mathlib.Core.List.{List, [], ◌∷◌, ◌++◌, map}
use Prim.Native.Nat.{ℕ, zero, suc, ◌+◌, ◌-◌, ◌≤◌, ◌<◌}
use native.Mathlib.Omega.{arith}
use lib.Dec.{leb, eqb}
use lib.ListN.{length, get_or, replicate}
use lib.Seq.{slice, length-slice}
use borrow.Author.Tests.{leb-true, le-leb, ne_eqb, eq-eqb}
use Rattle.grammar.specs.Trees.{Field, byte, number, span, text}
use Rattle.grammar.specs.Image.{payload}
use Rattle.grammar.specs.Layout.{Part, Laid, over, a_span, a_text, a_count, a_flag, a_slice, a_byte}
use Rattle.grammar.specs.Derived.{Forwards}
use Rattle.images.specs.Inner.{BACKWARD, span_value, two_at, onward, forward}
use Rattle.images.proofs.PartLaws.{value, cut, two_cut}
use Rattle.images.proofs.RootLaws.{no_true}

-- Fields of two bytes, and texts of no more than a payload.
abbrev pub Small : List Field → Type 0
Small [] = Unit {0}
Small (byte b ∷ fs) = (b < 131072) × Small fs
Small (number n ∷ fs) = (n < 131072) × Small fs
Small (span a e ∷ fs) = (a + e < 131072) × Small fs
Small (text w ∷ fs) = (length w < 131072) × Small fs

module _ (bytes : List ℕ) (small : (i : ℕ) → get_or bytes i 0 < 256) (end : ℕ) (within : end ≤ length bytes) where
  two_small : (at : ℕ) → two_at bytes at ≤ 65535
  two_small at = omega (arith, small at, small (at + 1))

  pub small_laid : {ps : List Part} {fs : List Field} {n : ℕ} (a : ℕ) → a ≤ end → end - a ≤ 65535 → Laid ps fs n → payload fs ≡ slice a end bytes → Small fs
  unfolding payload
  small_laid a le h over e = tt
  small_laid a le h (a_span {a = i} {e = j} l) e =
      let x = two_cut bytes end within small a e in
      let y = two_cut bytes end within small (a + 2) x.2 in
      (omega (arith, x.1, y.1, two_small a, two_small (a + 2)), small_laid (a + 2 + 2) y.0 (omega (arith, y.0)) l y.2)
  small_laid a le h (a_text {w = w}) e = (omega (arith, ap length e ∙ length-slice a end bytes within), tt)
  small_laid a le h (a_count {m = m} l) e =
      let x = two_cut bytes end within small a e in (omega (arith, x.1, two_small a), small_laid (a + 2) x.0 (omega (arith, x.0)) l x.2)
  small_laid a le h (a_flag i l) e = let x = cut bytes end within a e in (omega arith, small_laid (a + 1) (omega (arith, x.0)) (omega (arith, x.0)) l x.2)
  small_laid a le h (a_slice i l) e = let x = cut bytes end within a e in (omega arith, small_laid (a + 1) (omega (arith, x.0)) (omega (arith, x.0)) l x.2)
  small_laid a le h (a_byte {m = m} {b = b} i l) e =
      let x = cut bytes end within a e in (omega (arith, x.1, small a), small_laid (a + 1) (omega (arith, x.0)) (omega (arith, x.0)) l x.2)

span_below : (a e : ℕ) → a ≤ e → a + e < 131072 → span_value a e < 131072
unfolding span_value
span_below a e h l = rw (le-leb a e h) l

zeros : (k i : ℕ) → get_or (replicate k 0) i 0 < 131072
zeros zero i = omega arith
zeros (suc k) zero = omega arith
zeros (suc k) (suc i) = zeros k i

pub values_below : (fs : List Field) (k : ℕ) → Small fs → Forwards fs → (i : ℕ) → get_or (map value fs ++ replicate k 0) i 0 < 131072
unfolding value
values_below [] k s f i = zeros k i
values_below (byte b ∷ fs) k s f zero = s.0
values_below (byte b ∷ fs) k s f (suc i) = values_below fs k s.1 f i
values_below (number n ∷ fs) k s f zero = s.0
values_below (number n ∷ fs) k s f (suc i) = values_below fs k s.1 f i
values_below (span a e ∷ fs) k s f zero = span_below a e f.0 s.0
values_below (span a e ∷ fs) k s f (suc i) = values_below fs k s.1 f.1 i
values_below (text w ∷ fs) k s f zero = s.0
values_below (text w ∷ fs) k s f (suc i) = values_below fs k s.1 f i

not_back : (n : ℕ) → n < 131072 → n ≡ BACKWARD → ⊥
not_back n h e = omega arith

pub forward_of : (v : List ℕ) → ((i : ℕ) → get_or v i 0 < 131072) → forward v ≡ true
unfolding forward
forward_of v h =
    rw (
      ne_eqb (get_or v 0 0) BACKWARD (not_back _ (h 0)),
      ne_eqb (get_or v 1 0) BACKWARD (not_back _ (h 1)),
      ne_eqb (get_or v 2 0) BACKWARD (not_back _ (h 2)),
      ne_eqb (get_or v 3 0) BACKWARD (not_back _ (h 3)),
      ne_eqb (get_or v 4 0) BACKWARD (not_back _ (h 4)),
      ne_eqb (get_or v 5 0) BACKWARD (not_back _ (h 5)),
    )

onward_is : (v : ℕ) (b : Bool) → onward v b ≡ true → (v ≡ BACKWARD → ⊥) × (b ≡ true)
onward_is v b e = (λ q. no_true e (rw (eq-eqb v BACKWARD q)), by (eqb v BACKWARD) e)
  where
    by : (t : Bool) → cond t false b ≡ true → b ≡ true
    by true q = absurd (let z : ◌≡◌ {A = ℕ} 0 1 = cc in omega arith)
    by false q = q

pub forward_is : (v : List ℕ) → forward v ≡ true → (i : ℕ) → i < 6 → get_or v i 0 ≡ BACKWARD → ⊥
unfolding forward
forward_is v e i h =
    let a = onward_is (get_or v 0 0) _ e in
    let b = onward_is (get_or v 1 0) _ a.1 in
    let c = onward_is (get_or v 2 0) _ b.1 in
    let d = onward_is (get_or v 3 0) _ c.1 in
    let f = onward_is (get_or v 4 0) _ d.1 in
    let g = onward_is (get_or v 5 0) _ f.1 in
    by i h a.0 b.0 c.0 d.0 f.0 g.0
  where
    by : (j : ℕ) → j < 6 → (get_or v 0 0 ≡ BACKWARD → ⊥) → (get_or v 1 0 ≡ BACKWARD → ⊥) → (get_or v 2 0 ≡ BACKWARD → ⊥) → (get_or v 3 0 ≡ BACKWARD → ⊥)
        → (get_or v 4 0 ≡ BACKWARD → ⊥) → (get_or v 5 0 ≡ BACKWARD → ⊥) → get_or v j 0 ≡ BACKWARD → ⊥
    by zero h p0 p1 p2 p3 p4 p5 = p0
    by (suc zero) h p0 p1 p2 p3 p4 p5 = p1
    by (suc (suc zero)) h p0 p1 p2 p3 p4 p5 = p2
    by (suc (suc (suc zero))) h p0 p1 p2 p3 p4 p5 = p3
    by (suc (suc (suc (suc zero)))) h p0 p1 p2 p3 p4 p5 = p4
    by (suc (suc (suc (suc (suc zero))))) h p0 p1 p2 p3 p4 p5 = p5
    by (suc (suc (suc (suc (suc (suc j)))))) h p0 p1 p2 p3 p4 p5 = λ e. omega arith

span_forward : (a e : ℕ) → (span_value a e ≡ BACKWARD → ⊥) → a ≤ e
unfolding span_value
span_forward a e n = by (leb a e) refl n
  where
    by : (b : Bool) → leb a e ≡ b → (cond b (a + e) BACKWARD ≡ BACKWARD → ⊥) → a ≤ e
    by true q m = leb-true a e q
    by false q m = absurd (m refl)

pub forward_fields : (fs : List Field) (k : ℕ) → ((i : ℕ) → i < length fs → get_or (map value fs ++ replicate k 0) i 0 ≡ BACKWARD → ⊥) → Forwards fs
unfolding value
forward_fields [] k n = tt
forward_fields (byte b ∷ fs) k n = forward_fields fs k (λ i h. n (suc i) (omega arith))
forward_fields (number m ∷ fs) k n = forward_fields fs k (λ i h. n (suc i) (omega arith))
forward_fields (span a e ∷ fs) k n = (span_forward a e (n zero (omega arith)), forward_fields fs k (λ i h. n (suc i) (omega arith)))
forward_fields (text w ∷ fs) k n = forward_fields fs k (λ i h. n (suc i) (omega arith))
