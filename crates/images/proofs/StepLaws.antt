-- One record more: its bytes, its children and the rows of trees before and after it.
-- Assumes nothing.
use mathlib.Core.Path.{◌≡◌, refl, sym, ap, subst, ◌∙◌}
use mathlib.Core.Bool.{Bool, true, false, cond}
use mathlib.Core.List.{List, [], ◌∷◌, ◌++◌}
use Prim.Native.Nat.{ℕ, suc, ◌+◌, ◌-◌, ◌<◌}
use native.Mathlib.Omega.{arith}
use lib.Dec.{eqb}
use lib.ListN.{length, take, drop, replicate, length-append}
use borrow.Author.Tests.{eqb-true, eq-eqb, ne_eqb}
use Rattle.grammar.specs.Tags.{INFIX}
use Rattle.grammar.specs.Trees.{Field, byte, span, Trees}
use Rattle.grammar.specs.Image.{payload}
use Rattle.grammar.specs.Layout.{Part, place, below, Layout, layout, layout_of, Laid, over, a_span, a_byte, Tells, tells, codes, numbers}
use Rattle.images.specs.Images.{Age, old, new, Row}
use Rattle.images.specs.Inner.{Dating, dates, dated_row}

-- ── The kind of infix records ─────────────────────────────────────────────────────────────────────

-- The age that a kind stands for.
unfoldable pub age_of : ℕ → Age
age_of kind = cond (eqb kind 1) old new

pub dates_other : (tag size age : ℕ) → (tag ≡ INFIX → ⊥) → dates tag size age ≡ age
unfolding dates
dates_other tag size age n = rw (ne_eqb tag INFIX n)

pub dates_infix : (tag size age : ℕ) → tag ≡ INFIX → dates tag size age ≡ cond (eqb age 0) (cond (eqb size 1) 1 2) age
unfolding dates
dates_infix tag size age e = rw (eq-eqb tag INFIX e)

-- The records before are of that age.
pub row_age : {ts : Trees} {age : ℕ} (tag size : ℕ) → Dating ts age → Row (age_of (dates tag size age)) ts
unfolding age_of dates
row_age {ts} tag size (Dating.undated f) = f (age_of (dates tag size 0))
row_age {ts} tag size (Dating.is_old r n) = by (eqb tag INFIX)
  where
    by : (b : Bool) → Row (age_of (cond b 1 1)) ts
    by true = r
    by false = r
row_age {ts} tag size (Dating.is_new r n) = by (eqb tag INFIX)
  where
    by : (b : Bool) → Row (age_of (cond b 2 2)) ts
    by true = r
    by false = r

-- A kind is none that the records before contradict.
pub kind_old : {ts : Trees} {age : ℕ} (tag size : ℕ) → tag ≡ INFIX → size ≡ 1 → Dating ts age → Row old ts → dates tag size age ≡ 1
kind_old tag size e s (Dating.undated f) r = dates_infix tag size 0 e ∙ rw (eq-eqb size 1 s)
kind_old tag size e s (Dating.is_old q n) r = dates_infix tag size 1 e
kind_old tag size e s (Dating.is_new q n) r = absurd (n r)

pub kind_new : {ts : Trees} {age : ℕ} (tag size : ℕ) → tag ≡ INFIX → (size ≡ 1 → ⊥) → Dating ts age → Row new ts → dates tag size age ≡ 2
kind_new tag size e s (Dating.undated f) r = dates_infix tag size 0 e ∙ rw (ne_eqb size 1 s)
kind_new tag size e s (Dating.is_old q n) r = absurd (n r)
kind_new tag size e s (Dating.is_new q n) r = dates_infix tag size 2 e

-- ── Rows of codes ─────────────────────────────────────────────────────────────────────────────────

pub row_plain : (tag kind own : ℕ) (ps : List Part) → layout_of tag ≡ layout own ps → (tag ≡ INFIX → kind ≡ 1 → ⊥) → drop 1 (dated_row tag kind) ≡ codes ps ++ replicate (6 - length ps) 0
unfolding dated_row numbers
row_plain tag kind own ps e n = by (eqb tag INFIX) refl (eqb kind 1) refl
  where
    by : (b : Bool) → eqb tag INFIX ≡ b → (c : Bool) → eqb kind 1 ≡ c
        → drop 1 (cond b (cond c (2 ∷ 28 ∷ replicate 5 0) (numbers (layout_of tag))) (numbers (layout_of tag))) ≡ codes ps ++ replicate (6 - length ps) 0
    by true p true q = absurd (n (eqb-true tag INFIX p) (eqb-true kind 1 q))
    by true p false q = ap (λ (l : Layout). drop 1 (numbers l)) e
    by false p c q = ap (λ (l : Layout). drop 1 (numbers l)) e

pub row_old : (tag kind : ℕ) → tag ≡ INFIX → kind ≡ 1 → drop 1 (dated_row tag kind) ≡ 28 ∷ replicate 5 0
unfolding dated_row
row_old tag kind e k = rw (eq-eqb tag INFIX e, eq-eqb kind 1 k)

pub infix_layout : layout_of INFIX ≡ layout 2 (below 20 ∷ place ∷ [])
unfolding layout_of
infix_layout = refl

-- ── What is laid out ──────────────────────────────────────────────────────────────────────────────

pub told_laid : {own n : ℕ} {ps : List Part} {fs : List Field} → Tells (layout own ps) fs n → (m : ℕ) × Laid ps fs m × (own + m ≡ n)
told_laid (tells l) = (_, l, refl)

-- an infix record: its byte and its place
pub infix_laid : {tag n : ℕ} {fs : List Field} → tag ≡ INFIX → Tells (layout_of tag) fs n → (m : ℕ) × Laid (below 20 ∷ place ∷ []) fs m × (2 + m ≡ n)
infix_laid {tag} {n} {fs} e t = told_laid (subst (λ (l : Layout). Tells l fs n) (ap layout_of e ∙ infix_layout) t)

-- an old infix record: one byte
pub record OldFields (fs : List Field) : Type 0 where
  pub operator : ℕ
  pub few : operator < 20
  pub whole : fs ≡ byte operator ∷ []

nothing_laid : {fs : List Field} {n : ℕ} → Laid [] fs n → length fs ≡ 0
nothing_laid over = refl

one_laid : {fs : List Field} {n : ℕ} → Laid (place ∷ []) fs n → length fs ≡ 1
one_laid (a_span l) = ap suc (nothing_laid l)

pub two_laid : {fs : List Field} {n : ℕ} → Laid (below 20 ∷ place ∷ []) fs n → (length fs ≡ 2) × OldFields (take 1 fs)
two_laid (a_byte {b = b} h l) = (ap suc (one_laid l), record { operator = b; few = h; whole = refl })

pub zero_laid : {fs : List Field} {n : ℕ} → Laid (below 20 ∷ place ∷ []) fs n → n ≡ 0
zero_laid (a_byte h (a_span over)) = refl

pub new_length : {fs : List Field} {n : ℕ} → Laid (below 20 ∷ place ∷ []) fs n → length (payload fs) ≡ 5
unfolding payload
new_length (a_byte h (a_span over)) = refl

single : (fs : List Field) → length fs ≡ 1 → take 1 (fs ++ span 0 0 ∷ []) ≡ fs
single [] e = absurd (omega arith)
single (f ∷ []) e = refl
single (f ∷ (g ∷ fs)) e = absurd (omega arith)

pub old_fields : (fs : List Field) {n : ℕ} → Laid (below 20 ∷ place ∷ []) (fs ++ span 0 0 ∷ []) n → OldFields fs
old_fields fs l =
    let t = two_laid l in
    let k : length fs ≡ 1 = omega (arith, t.0, length-append fs (span 0 0 ∷ [])) in
    record { operator = t.1.operator; few = t.1.few; whole = sym (single fs k) ∙ t.1.whole }

-- the other way: the byte of an old record, laid out alone
pub byte_laid : {fs : List Field} {n : ℕ} → Laid (below 20 ∷ []) fs n → OldFields fs × (n ≡ 0)
byte_laid (a_byte {b = b} h over) = (record { operator = b; few = h; whole = refl }, refl)
