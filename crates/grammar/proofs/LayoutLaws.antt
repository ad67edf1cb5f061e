-- Every record that Records.antt allows is laid out as Layout.antt says, and has the children that it tells of.
-- Assumes nothing.
use mathlib.Core.Path.{◌≡◌, refl, sym, ap, subst, ◌∙◌}
use mathlib.Core.Bool.{Bool, true, false, ◌&&◌, ◌||◌, cond}
use mathlib.Core.List.{List, [], ◌∷◌, ◌++◌}
use Prim.Native.Nat.{ℕ, zero, suc, ◌+◌, ◌<◌}
use native.Mathlib.Omega.{arith}
use lib.Dec.{T, eqb}
use lib.ListN.{length, length-append}
use borrow.Author.Tests.{eqb-true, ne_eqb}
use Rattle.grammar.specs.Trees.{Field, Trees}
use Rattle.grammar.specs.Records.{Sort, times, Spans, Has, no, yes, Part, absent, present, Rest, whole, dropped, kept, First, Name, fixed, computed, Method, value, method, Form, Obeys}
use Rattle.grammar.specs.Records.{expression, named, param, bind, clause, pattern, pattern_field, member}
use Rattle.grammar.specs.Records.{r1, r2, r3, r4, r5, r6, r7, r8, r9, r10, r11, r12, r13, r14, r15, r16, r17, r18, r19, r20, r21, r22, r23, r24_value, r24_function, r25, r26, r27, r28, r29_bare, r29_default, r30, r31, r32, r33, r34, r35}
use Rattle.grammar.specs.Records as records
use Rattle.grammar.specs.Layout.{Row, row, rows, Layout, layout, unknown, layout_in, layout_of, bits_in, over, a_span, a_text, a_count, a_flag, a_slice, a_byte, Tells, tells, LaidOut, numbers}
use Rattle.grammar.proofs.Chosen.{and_left, and_right}
use Rattle.grammar.proofs.Sorts.{fits-length, times-length}
use Rattle.grammar.proofs.Obeys.{obeys_length}

-- ── A tag that is none ────────────────────────────────────────────────────────────────────────────

-- What is known where no arm of a `match` is taken: a number that is none of the keys, the last arm's first.
abbrev pub NoneOf : ℕ → List ℕ → Type 0
NoneOf t [] = Unit
NoneOf t (k ∷ ks) = NoneOf t ks × (t ≡ k → ⊥)

-- From n down to 1.
unfoldable pub down : ℕ → List ℕ
down zero = []
down (suc n) = suc n ∷ down n

unfoldable among : ℕ → List ℕ → Bool
among k [] = false
among k (j ∷ ks) = eqb k j || among k ks

unfoldable all_among : List Row → List ℕ → Bool
all_among [] ks = true
all_among (row k own ps ∷ rs) ks = among k ks && all_among rs ks

not_key : (t k : ℕ) (ks : List ℕ) → T (among k ks) → NoneOf t ks → t ≡ k → ⊥
unfolding among
not_key t k [] h n e = h
not_key t k (j ∷ ks) h n e = by (eqb k j) refl h (λ i. not_key t k ks i n.0 e)
  where
    by : (b : Bool) → eqb k j ≡ b → T (b || among k ks) → (T (among k ks) → ⊥) → ⊥
    by true q h rest = n.1 (e ∙ eqb-true k j q)
    by false q h rest = rest h

unknown_in : (t : ℕ) (ks : List ℕ) (rs : List Row) → T (all_among rs ks) → NoneOf t ks → layout_in t rs ≡ unknown
unfolding layout_in all_among
unknown_in t ks [] h n = refl
unknown_in t ks (row k own ps ∷ rs) h n =
    ap (λ (b : Bool). cond b (layout own ps) (layout_in t rs)) (ne_eqb t k (not_key t k ks (and_left (among k ks) (all_among rs ks) h) n))
    ∙ unknown_in t ks rs (and_right (among k ks) (all_among rs ks) h) n

-- The tags are 1 to 35.
pub unknown_tag : (t : ℕ) → NoneOf t (down 35) → unknown ≡ layout_of t
unfolding layout_of rows among all_among down
unknown_tag t n = sym (unknown_in t (down 35) rows tt n)

-- ── Records ───────────────────────────────────────────────────────────────────────────────────────

-- so many of one sort, and then others
length_list : (n : ℕ) (σ : Sort) (σs : List Sort) → length (times n σ ++ σs) ≡ n + length σs
length_list n σ σs = length-append (times n σ) σs ∙ ap (λ (m : ℕ). m + length σs) (times-length n σ)

has_told : {σ : Sort} {d : ℕ} {σs : List Sort} → Has σ d σs → (d < 2) × (length σs ≡ d)
has_told no = (omega arith, refl)
has_told yes = (omega arith, refl)

slice_told : {q : Spans} {b₁ a₁ e₁ b₂ a₂ e₂ b₃ a₃ e₃ : ℕ} {σs τs υs : List Sort} → Part q 1 b₁ a₁ e₁ σs → Part q 2 b₂ a₂ e₂ τs → Part q 4 b₃ a₃ e₃ υs
    → (b₁ + b₂ + b₃ < 8) × (length ((σs ++ τs) ++ υs) ≡ bits_in (b₁ + b₂ + b₃))
slice_told (absent f) (absent g) (absent h) = (omega arith, refl)
slice_told (absent f) (absent g) (present h) = (omega arith, refl)
slice_told (absent f) (present g) (absent h) = (omega arith, refl)
slice_told (absent f) (present g) (present h) = (omega arith, refl)
slice_told (present f) (absent g) (absent h) = (omega arith, refl)
slice_told (present f) (absent g) (present h) = (omega arith, refl)
slice_told (present f) (present g) (absent h) = (omega arith, refl)
slice_told (present f) (present g) (present h) = (omega arith, refl)

rest_below : {r m : ℕ} {w : List ℕ} → Rest r m w → r < 3
rest_below whole = omega arith
rest_below dropped = omega arith
rest_below (kept h) = omega arith

name_below : {c : ℕ} {σ : Sort} → Name c σ → c < 2
name_below fixed = omega arith
name_below computed = omega arith

method_below : {p m n : ℕ} → Method p m n → (p < 2) × (m < 2)
method_below (value h) = (omega arith, omega arith)
method_below method = (omega arith, omega arith)

first_below : {f : ℕ} {σ : Sort} → First f σ → f < 2
first_below records.first = omega arith
first_below records.later = omega arith

counted : {l : Layout} {fs : List Field} {m n : ℕ} → m ≡ n → Tells l fs m → Tells l fs n
counted {l} {fs} e t = subst (λ (n : ℕ). Tells l fs n) e t

-- EVERY RECORD of the table is laid out as its tag's layout has it, and its fields tell how many children it has.
pub form_laid : {q : Spans} {σ : Sort} {tag : ℕ} {fields : List Field} {wanted : List Sort} → Form q σ tag fields wanted → Tells (layout_of tag) fields (length wanted)
unfolding layout_of
form_laid (r1 {o} h g) = tells (a_byte {m = 3} {b = o} (omega arith) (a_span over))
form_laid r2 = tells over
form_laid (r3 {f} h) = tells (a_byte {m = 2} {b = f} (omega arith) over)
form_laid (r4 h) = tells a_text
form_laid (r5 h) = tells a_text
form_laid (r6 h w) = tells (a_span a_text)
form_laid (r7 {n}) = counted (omega (arith, times-length n expression)) (tells (a_count over))
form_laid (r8 n) = counted (omega (arith, times-length n clause)) (tells (a_count over))
form_laid (r9 {n}) = counted (omega (arith, times-length n member)) (tells (a_count over))
form_laid (r10 a b n) =
    let members = length-append (times a bind ++ records.field ∷ times b bind) (records.iteration ∷ times n clause) in
    counted (omega (arith, members, length_list a bind (records.field ∷ times b bind), times-length b bind, times-length n clause)) (tells (a_count (a_count over)))
form_laid r11 = tells over
form_laid (r12 {o} h) = tells (a_byte {m = 4} {b = o} (omega arith) over)
form_laid (r13 {o} h g) = tells (a_byte {m = 20} {b = o} (omega arith) (a_span over))
form_laid r14 = tells over
form_laid (r15 {n}) = counted (omega (arith, length_list n bind (expression ∷ []))) (tells (a_count over))
form_laid (r16 {o} h g) = tells (a_byte {m = 3} {b = o} (omega arith) (a_span over))
form_laid (r17 h) = tells (a_span over)
form_laid (r18 {t = t} {u} {n} h g) =
    counted (omega (arith, length_list u expression (times n named), times-length n named)) (tells (a_span (a_byte {m = 2} {b = t} (omega arith) (a_count (a_count over)))))
form_laid (r19 h) = tells a_text
form_laid (r20 {n = n} h f g) = tells (a_span (a_byte (first_below f) (a_byte {m = 2} {b = n} (omega arith) over)))
form_laid (r21 {n = n} h) = counted (omega (arith, length_list n param (expression ∷ []))) (tells (a_span (a_count over)))
form_laid (r22 h g) = let d = has_told g in counted (omega (arith, d.1)) (tells (a_span (a_flag d.0 over)))
form_laid (r23 f g h) = let d = slice_told f g h in counted (omega (arith, d.1)) (tells (a_slice d.0 (a_span (a_span (a_span over)))))
form_laid r24_value = tells (a_byte {m = 2} {b = 0} (omega arith) (a_count over))
form_laid (r24_function {n}) = counted (omega (arith, length_list n param (expression ∷ []))) (tells (a_byte {m = 2} {b = 1} (omega arith) (a_count over)))
form_laid (r25 h w) = tells (a_span a_text)
form_laid r26 = tells over
form_laid (r27 {n} {m = m} h) =
    counted (omega (arith, length_list n pattern (times m pattern), times-length m pattern)) (tells (a_count (a_byte (rest_below h) (a_count a_text))))
form_laid (r28 {n} h) = counted (omega (arith, times-length n pattern_field)) (tells (a_count (a_byte (rest_below h) a_text)))
form_laid (r29_bare h g w) = let d = has_told h in counted (omega (arith, d.1)) (tells (a_flag d.0 (a_flag {b = 0} (omega arith) (a_span a_text))))
form_laid (r29_default {σs = σs} h g w) =
    let d = has_told h in
    counted (omega (arith, length-append σs (expression ∷ []), d.1)) (tells (a_flag d.0 (a_flag {b = 1} (omega arith) (a_span a_text))))
form_laid (r30 h) = let d = has_told h in counted (omega (arith, d.1)) (tells (a_flag d.0 over))
form_laid (r31 {n = n} {v} h c m i) =
    counted (omega (arith, length_list n param (expression ∷ [])))
    (tells (a_span (a_byte (name_below c) (a_byte (method_below m).0 (a_byte (method_below m).1 (a_count (a_byte {m = 3} {b = v} (omega arith) over)))))))
form_laid (r32 h g) = let d = has_told g in counted (omega (arith, d.1)) (tells (a_span (a_flag d.0 over)))
form_laid r33 = tells over
form_laid (r34 h) = tells (a_span over)
form_laid (r35 {v} h w) = tells (a_byte {m = 3} {b = v} (omega arith) a_text)

-- ── Trees ─────────────────────────────────────────────────────────────────────────────────────────

-- EVERY TREE that obeys the table is laid out so.
pub obeys_laid : {q : Spans} {σs : List Sort} {ts : Trees} → Obeys q σs ts → LaidOut ts
obeys_laid records.none = LaidOut.none
obeys_laid (records.node f g c r) = LaidOut.node (counted (sym (fits-length g) ∙ obeys_length c) (form_laid f)) (obeys_laid c) (obeys_laid r)
