-- A record of the table is as the code asks: its fields go together, its text is of the kind, its children are the groups that are asked for.
-- Assumes nothing.
use mathlib.Core.Path.{◌≡◌, refl, ap}
use mathlib.Core.Bool.{Bool, true, false, cond}
use mathlib.Core.List.{List, [], ◌∷◌, ◌++◌, map, append-nil}
use Prim.Native.Nat.{ℕ, ◌+◌, ◌-◌, ◌/◌, ◌%◌, ◌<◌}
use native.Mathlib.Omega.{arith}
use lib.Dec.{eqb}
use lib.ListN.{length, replicate}
use borrow.Author.Tests.{le-leb, eq-eqb, ne_eqb}
use Rattle.grammar.specs.Trees.{Field, byte, number, span, text}
use Rattle.grammar.specs.Records.{Sort, times, Spans, Has, First, Part, Rest, Name, Method, Form}
use Rattle.grammar.specs.Records as records
use Rattle.grammar.specs.Layout.{bits_in}
use Rattle.images.specs.Inner.{Question, span_value, unless, slice_fine, method_fine, pick, count_by, sort_by, text_by, fine_by, fines, Entry, ◌is◌, look, row_of, rows, asks, sort_of, sorts, Worded, COMP}
use Rattle.images.proofs.PartLaws.{value}

-- The values of fields, in six numbers.
abbrev pub values : List Field → List ℕ
values fs = map value fs ++ replicate (6 - length fs) 0

-- The text at the end, if there is one.
unfoldable pub words_of : List Field → List ℕ
words_of [] = []
words_of (byte b ∷ fs) = words_of fs
words_of (number n ∷ fs) = words_of fs
words_of (span a e ∷ fs) = words_of fs
words_of (text w ∷ fs) = w

-- ── Sorts by their numbers ────────────────────────────────────────────────────────────────────────

unfoldable pub numbered : List (Entry Sort)
numbered =
    (0 is records.expression) ∷ (1 is records.string) ∷ (2 is records.run) ∷ (3 is records.object) ∷ (4 is records.named) ∷ (5 is records.param) ∷ (6 is records.bind) ∷
    (7 is records.field) ∷ (8 is records.assertion) ∷ (9 is records.member) ∷ (10 is records.iteration) ∷ (11 is records.if_clause) ∷ (12 is records.clause) ∷
    (13 is records.pattern) ∷ (14 is records.name_pattern) ∷ []

unfoldable pub sort_at : ℕ → Sort
unfolding look numbered
sort_at n = look records.pattern_field n numbered

-- The three groups of children, as the table has them.
unfoldable pub groups : Question → List Sort
unfolding sort_at
groups a = times a.n1 (sort_at a.s1) ++ (times a.n2 (sort_at a.s2) ++ times a.n3 (sort_at a.s3))

-- What a record wants is what is asked for. Of an object comprehension some binds, a field, and binds again.
pub data Wanted (a : Question) : List Sort → Type 0 where
  plain : {ws : List Sort} → (a.s1 < 16) × (a.s2 < 16) × (a.s3 < 16) → groups a ≡ ws → Wanted a ws
  comp : (x y n : ℕ) → a.s1 ≡ COMP → a.n1 ≡ x + 1 + y → a.n2 ≡ 1 → a.s2 ≡ 10 → a.n3 ≡ n → a.s3 ≡ 12
      → Wanted a ((times x records.bind ++ records.field ∷ times y records.bind) ++ records.iteration ∷ times n records.clause)

pub record Asked (σ : Sort) (tag : ℕ) (fs : List Field) (ws : List Sort) : Type 0 where
  pub fine : (asks tag (values fs)).fine ≡ true
  pub text : Worded (asks tag (values fs)).text (words_of fs)
  pub size : (asks tag (values fs)).size ≡ length (words_of fs)
  pub wanted : Wanted (asks tag (values fs)) ws
  pub sort : σ ≡ sort_of tag

asked : {σ : Sort} {tag : ℕ} {fs : List Field} {ws : List Sort} → (asks tag (values fs)).fine ≡ true → Worded (asks tag (values fs)).text (words_of fs)
    → (asks tag (values fs)).size ≡ length (words_of fs) → ((asks tag (values fs)).s1 < 16) × ((asks tag (values fs)).s2 < 16) × ((asks tag (values fs)).s3 < 16) → groups (asks tag (values fs)) ≡ ws → σ ≡ sort_of tag → Asked σ tag fs ws
asked f t s n w o = record { fine = f; text = t; size = s; wanted = Wanted.plain n w; sort = o }

-- ── Spans and slices ──────────────────────────────────────────────────────────────────────────────

zero_span : {a e : ℕ} → (a ≡ 0) × (e ≡ 0) → span_value a e ≡ 0
unfolding span_value
zero_span {a} {e} z = rw (le-leb a e (omega (arith, z.0, z.1))) (omega (arith, z.0, z.1))

unless_zero : (flag n : ℕ) → n ≡ 0 → unless flag n ≡ true
unfolding unless
unless_zero flag n e = by (eqb flag 0)
  where
    by : (b : Bool) → cond b (eqb n 0) true ≡ true
    by true = eq-eqb n 0 e
    by false = refl

part_fine : {w b a e : ℕ} {σs : List Sort} (flag : ℕ) → Part Spans.forward w b a e σs → (b ≡ w → flag ≡ 0 → ⊥) → unless flag (span_value a e) ≡ true
unfolding unless
part_fine flag (Part.absent z) n = unless_zero flag _ (zero_span z)
part_fine {a = a} {e} flag (Part.present h) n = rw (ne_eqb flag 0 (n refl))

slices : (b x y z : ℕ) → unless (b % 2) x ≡ true → unless (b / 2 % 2) y ≡ true → unless (b / 4 % 2) z ≡ true → slice_fine b x y z ≡ true
unfolding slice_fine
slices b x y z p q r = rw (p, q, r)

slice_asked : {b₁ a₁ e₁ b₂ a₂ e₂ b₃ a₃ e₃ : ℕ} {σs τs υs : List Sort} → Part Spans.forward 1 b₁ a₁ e₁ σs → Part Spans.forward 2 b₂ a₂ e₂ τs → Part Spans.forward 4 b₃ a₃ e₃ υs
    → (b₁ + b₂ + b₃ < 8) × (b₁ ≡ 1 → (b₁ + b₂ + b₃) % 2 ≡ 0 → ⊥) × (b₂ ≡ 2 → (b₁ + b₂ + b₃) / 2 % 2 ≡ 0 → ⊥) × (b₃ ≡ 4 → (b₁ + b₂ + b₃) / 4 % 2 ≡ 0 → ⊥)
slice_asked (Part.absent f) (Part.absent g) (Part.absent h) = (omega arith, (λ e q. omega arith), (λ e q. omega arith), (λ e q. omega arith))
slice_asked (Part.absent f) (Part.absent g) (Part.present h) = (omega arith, (λ e q. omega arith), (λ e q. omega arith), (λ e q. omega arith))
slice_asked (Part.absent f) (Part.present g) (Part.absent h) = (omega arith, (λ e q. omega arith), (λ e q. omega arith), (λ e q. omega arith))
slice_asked (Part.absent f) (Part.present g) (Part.present h) = (omega arith, (λ e q. omega arith), (λ e q. omega arith), (λ e q. omega arith))
slice_asked (Part.present f) (Part.absent g) (Part.absent h) = (omega arith, (λ e q. omega arith), (λ e q. omega arith), (λ e q. omega arith))
slice_asked (Part.present f) (Part.absent g) (Part.present h) = (omega arith, (λ e q. omega arith), (λ e q. omega arith), (λ e q. omega arith))
slice_asked (Part.present f) (Part.present g) (Part.absent h) = (omega arith, (λ e q. omega arith), (λ e q. omega arith), (λ e q. omega arith))
slice_asked (Part.present f) (Part.present g) (Part.present h) = (omega arith, (λ e q. omega arith), (λ e q. omega arith), (λ e q. omega arith))

slice-groups : {b₁ a₁ e₁ b₂ a₂ e₂ b₃ a₃ e₃ : ℕ} {σs τs υs : List Sort} → Part Spans.forward 1 b₁ a₁ e₁ σs → Part Spans.forward 2 b₂ a₂ e₂ τs → Part Spans.forward 4 b₃ a₃ e₃ υs
    → times (bits_in (b₁ + b₂ + b₃)) records.expression ++ [] ≡ (σs ++ τs) ++ υs
unfolding times
slice-groups (Part.absent f) (Part.absent g) (Part.absent h) = refl
slice-groups (Part.absent f) (Part.absent g) (Part.present h) = refl
slice-groups (Part.absent f) (Part.present g) (Part.absent h) = refl
slice-groups (Part.absent f) (Part.present g) (Part.present h) = refl
slice-groups (Part.present f) (Part.absent g) (Part.absent h) = refl
slice-groups (Part.present f) (Part.absent g) (Part.present h) = refl
slice-groups (Part.present f) (Part.present g) (Part.absent h) = refl
slice-groups (Part.present f) (Part.present g) (Part.present h) = refl

more_less : (n : ℕ) → 1 + n - 1 ≡ n
more_less n = omega arith

-- ── Every form ────────────────────────────────────────────────────────────────────────────────────

pub form_asked : {σ : Sort} {tag : ℕ} {fs : List Field} {ws : List Sort} → Form Spans.forward σ tag fs ws → Asked σ tag fs ws
unfolding asks row_of rows look count_by sort_by text_by fine_by fines sort_of sorts groups sort_at numbered times words_of value pick unless method_fine
form_asked (Form.r1 h p) = asked refl Worded.free refl (omega arith, omega arith, omega arith) refl refl
form_asked Form.r2 = asked refl Worded.free refl (omega arith, omega arith, omega arith) refl refl
form_asked (Form.r3 h) = asked refl Worded.free refl (omega arith, omega arith, omega arith) refl refl
form_asked (Form.r4 h) = asked refl (Worded.number h) refl (omega arith, omega arith, omega arith) refl refl
form_asked (Form.r5 h) = asked refl (Worded.utf8 h) refl (omega arith, omega arith, omega arith) refl refl
form_asked (Form.r6 p h) = asked refl (Worded.name h) refl (omega arith, omega arith, omega arith) refl refl
form_asked (Form.r7 {n}) = asked refl Worded.free refl (omega arith, omega arith, omega arith) (append-nil (times n records.expression)) refl
form_asked (Form.r8 n) = asked (le-leb 1 (1 + n) (omega arith)) Worded.free refl (omega arith, omega arith, omega arith) (ap (λ (k : ℕ). records.expression ∷ records.iteration ∷ times k records.clause) (more_less n)) refl
form_asked (Form.r9 {n}) = asked refl Worded.free refl (omega arith, omega arith, omega arith) (append-nil (times n records.member)) refl
form_asked (Form.r10 a b n) = record { fine = le-leb 1 (1 + n) (omega arith); text = Worded.free; size = refl; wanted = Wanted.comp a b n refl refl refl refl (more_less n) refl; sort = refl }
form_asked Form.r11 = asked refl Worded.free refl (omega arith, omega arith, omega arith) refl refl
form_asked (Form.r12 h) = asked refl Worded.free refl (omega arith, omega arith, omega arith) refl refl
form_asked (Form.r13 h p) = asked refl Worded.free refl (omega arith, omega arith, omega arith) refl refl
form_asked Form.r14 = asked refl Worded.free refl (omega arith, omega arith, omega arith) refl refl
form_asked Form.r15 = asked refl Worded.free refl (omega arith, omega arith, omega arith) refl refl
form_asked (Form.r16 h p) = asked refl Worded.free refl (omega arith, omega arith, omega arith) refl refl
form_asked (Form.r17 p) = asked refl Worded.free refl (omega arith, omega arith, omega arith) refl refl
form_asked (Form.r18 p h) = asked refl Worded.free refl (omega arith, omega arith, omega arith) refl refl
form_asked (Form.r19 h) = asked refl (Worded.name h) refl (omega arith, omega arith, omega arith) refl refl
form_asked (Form.r20 p First.first h) = asked refl Worded.free refl (omega arith, omega arith, omega arith) refl refl
form_asked (Form.r20 p First.later h) = asked refl Worded.free refl (omega arith, omega arith, omega arith) refl refl
form_asked (Form.r21 p) = asked refl Worded.free refl (omega arith, omega arith, omega arith) refl refl
form_asked (Form.r22 p Has.no) = asked refl Worded.free refl (omega arith, omega arith, omega arith) refl refl
form_asked (Form.r22 p Has.yes) = asked refl Worded.free refl (omega arith, omega arith, omega arith) refl refl
form_asked (Form.r23 {b₁ = b₁} {a₁} {e₁} {b₂} {a₂} {e₂} {b₃} {a₃} {e₃} p q r) = let x = slice_asked p q r in asked (slices (b₁ + b₂ + b₃) (span_value a₁ e₁) (span_value a₂ e₂) (span_value a₃ e₃) (part_fine ((b₁ + b₂ + b₃) % 2) p x.1) (part_fine ((b₁ + b₂ + b₃) / 2 % 2) q x.2) (part_fine ((b₁ + b₂ + b₃) / 4 % 2) r x.3)) Worded.free refl (omega arith, omega arith, omega arith) (ap (λ (l : List Sort). records.expression ∷ l) (slice-groups p q r)) refl
form_asked Form.r24_value = asked refl Worded.free refl (omega arith, omega arith, omega arith) refl refl
form_asked Form.r24_function = asked refl Worded.free refl (omega arith, omega arith, omega arith) refl refl
form_asked (Form.r25 p h) = asked refl (Worded.name h) refl (omega arith, omega arith, omega arith) refl refl
form_asked Form.r26 = asked refl Worded.free refl (omega arith, omega arith, omega arith) refl refl
form_asked (Form.r27 Rest.whole) = asked refl Worded.empty refl (omega arith, omega arith, omega arith) refl refl
form_asked (Form.r27 {n} {m = m} Rest.dropped) = asked refl Worded.empty refl (omega arith, omega arith, omega arith) (ap (λ (l : List Sort). times n records.pattern ++ l) (append-nil (times m records.pattern))) refl
form_asked (Form.r27 {n} {m = m} (Rest.kept h)) = asked refl (Worded.name h) refl (omega arith, omega arith, omega arith) (ap (λ (l : List Sort). times n records.pattern ++ l) (append-nil (times m records.pattern))) refl
form_asked (Form.r28 {n} Rest.whole) = asked refl Worded.empty refl (omega arith, omega arith, omega arith) (append-nil (times n records.pattern_field)) refl
form_asked (Form.r28 {n} Rest.dropped) = asked refl Worded.empty refl (omega arith, omega arith, omega arith) (append-nil (times n records.pattern_field)) refl
form_asked (Form.r28 {n} (Rest.kept h)) = asked refl (Worded.name h) refl (omega arith, omega arith, omega arith) (append-nil (times n records.pattern_field)) refl
form_asked (Form.r29_bare Has.no p w) = asked (eq-eqb _ 0 (zero_span p)) (Worded.name w) refl (omega arith, omega arith, omega arith) refl refl
form_asked (Form.r29_default Has.no p w) = asked refl (Worded.name w) refl (omega arith, omega arith, omega arith) refl refl
form_asked (Form.r29_bare Has.yes p w) = asked (eq-eqb _ 0 (zero_span p)) (Worded.name w) refl (omega arith, omega arith, omega arith) refl refl
form_asked (Form.r29_default Has.yes p w) = asked refl (Worded.name w) refl (omega arith, omega arith, omega arith) refl refl
form_asked (Form.r30 Has.no) = asked refl Worded.free refl (omega arith, omega arith, omega arith) refl refl
form_asked (Form.r30 Has.yes) = asked refl Worded.free refl (omega arith, omega arith, omega arith) refl refl
form_asked (Form.r31 p Name.fixed (Method.value g) v) = asked refl Worded.free refl (omega arith, omega arith, omega arith) refl refl
form_asked (Form.r31 p Name.fixed Method.method v) = asked refl Worded.free refl (omega arith, omega arith, omega arith) refl refl
form_asked (Form.r31 p Name.computed (Method.value g) v) = asked refl Worded.free refl (omega arith, omega arith, omega arith) refl refl
form_asked (Form.r31 p Name.computed Method.method v) = asked refl Worded.free refl (omega arith, omega arith, omega arith) refl refl
form_asked (Form.r32 p Has.no) = asked refl Worded.free refl (omega arith, omega arith, omega arith) refl refl
form_asked (Form.r32 p Has.yes) = asked refl Worded.free refl (omega arith, omega arith, omega arith) refl refl
form_asked Form.r33 = asked refl Worded.free refl (omega arith, omega arith, omega arith) refl refl
form_asked (Form.r34 p) = asked refl Worded.free refl (omega arith, omega arith, omega arith) refl refl
form_asked (Form.r35 v w) = asked refl (Worded.name w) refl (omega arith, omega arith, omega arith) refl refl
