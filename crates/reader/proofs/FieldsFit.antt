-- EVERY NUMBER AND EVERY SPAN FITS ITS FIELD. In a tree that the rules derive of a source a number is at most the source's length, a span ends by the
-- source's end, and a byte is one: so with at most 65,000 bytes of source each number and each end fits its two bytes. That a payload's length fits is
-- `payloads_fit` (crates/grammar/proofs/Room.antt).
-- Assumes nothing.
use mathlib.Core.Path.{◌≡◌, refl, ap}
use mathlib.Core.List.{List, [], ◌∷◌, ◌++◌}
use Prim.Native.Nat.{ℕ, zero, suc, ◌/◌, ◌%◌, ◌≤◌}
use native.Mathlib.Omega.{arith}
use lib.ListN.{length, length-append}
use Rattle.grammar.specs.Trees.{Field, byte, number, span, text, Trees}
use Rattle.grammar.specs.Trees as trees
use Rattle.grammar.specs.Records.{Sort, Fits, times, Spans, Has, First, Part, Rest, Name, Method, Form, Obeys}
use Rattle.grammar.specs.Derived.{Forwards}
use Rattle.grammar.specs.Answer.{prefix_power}
use Rattle.grammar.proofs.Obeys.{obeys_length, obeys}
use Rattle.grammar.proofs.Spanned.{forwards}
use Rattle.grammar.proofs.Possible.{kept_worded}
use Rattle.grammar.proofs.Ranges.{kept_ranged}
use Rattle.reader.proofs.AnswerLaws.{HasTree}
use Rattle.reader.proofs.RowCounts.{Narrow, rows_narrow}
use Rattle.reader.proofs.SpanEnds.{Below, stops, Ending, spans_end}

-- ── What fits ─────────────────────────────────────────────────────────────────────────────────────

-- R41. A record's fields: bytes, numbers up to n, spans that go forward and end by n.
abbrev pub Fit : ℕ → List Field → Type 0
Fit n [] = Unit
Fit n (byte b ∷ fs) = (b ≤ 255) × Fit n fs
Fit n (number m ∷ fs) = (m ≤ n) × Fit n fs
Fit n (span a e ∷ fs) = (a ≤ e) × (e ≤ n) × Fit n fs
Fit n (text w ∷ fs) = Fit n fs

-- So in each record.
pub data Fitting (n : ℕ) : Trees → Type 0 where
  none : Fitting n trees.none
  node : {tag : ℕ} {fields : List Field} {children ts : Trees} → Fit n fields → Fitting n children → Fitting n ts → Fitting n (trees.node tag fields children ts)

-- ── A number of a record counts children ──────────────────────────────────────────────────────────

abbrev Counting : ℕ → List Field → Type 0
Counting n [] = Unit
Counting n (byte b ∷ fs) = (b ≤ 255) × Counting n fs
Counting n (number m ∷ fs) = (m ≤ n) × Counting n fs
Counting n (span a e ∷ fs) = Counting n fs
Counting n (text w ∷ fs) = Counting n fs

length-times : (n : ℕ) (σ : Sort) → length (times n σ) ≡ n
unfolding times
length-times zero σ = refl
length-times (suc n) σ = ap suc (length-times n σ)

-- So many, and others around them.
behind : (n : ℕ) (σ : Sort) (σs : List Sort) → n ≤ length (times n σ ++ σs)
behind n σ σs = omega (arith, length-append (times n σ) σs, length-times n σ)

has_flag : {σ : Sort} {h : ℕ} {σs : List Sort} → Has σ h σs → h ≤ 1
has_flag Has.no = omega arith
has_flag Has.yes = omega arith

first_flag : {f : ℕ} {σ : Sort} → First f σ → f ≤ 1
first_flag First.first = omega arith
first_flag First.later = omega arith

part_byte : {q : Spans} {w b a e : ℕ} {σs : List Sort} → Part q w b a e σs → b ≤ w
part_byte (Part.absent h) = omega arith
part_byte (Part.present h) = omega arith

rest_byte : {r m : ℕ} {w : List ℕ} → Rest r m w → r ≤ 2
rest_byte Rest.whole = omega arith
rest_byte Rest.dropped = omega arith
rest_byte (Rest.kept h) = omega arith

name_flag : {c : ℕ} {σ : Sort} → Name c σ → c ≤ 1
name_flag Name.fixed = omega arith
name_flag Name.computed = omega arith

method_flags : {p m n : ℕ} → Method p m n → (p ≤ 1) × (m ≤ 1)
method_flags (Method.value h) = (h, omega arith)
method_flags Method.method = (omega arith, omega arith)

counting : {q : Spans} {σ : Sort} {tag : ℕ} {fs : List Field} {ws : List Sort} → Form q σ tag fs ws → Counting (length ws) fs
counting (Form.r1 h p) = (omega (arith, h), tt)
counting Form.r2 = tt
counting (Form.r3 h) = (omega (arith, h), tt)
counting (Form.r4 h) = tt
counting (Form.r5 h) = tt
counting (Form.r6 p h) = tt
counting (Form.r7 {n}) = (omega (arith, length-times n Sort.expression), tt)
counting (Form.r8 n) = (omega (arith, length-times n Sort.clause), tt)
counting (Form.r9 {n}) = (omega (arith, length-times n Sort.member), tt)
counting (Form.r10 a b n) =
    let x = length-append (times a Sort.bind) (Sort.field ∷ times b Sort.bind) in
    let y = length-append (times a Sort.bind ++ Sort.field ∷ times b Sort.bind) (Sort.iteration ∷ times n Sort.clause) in
    (omega (arith, x, y, length-times a Sort.bind, length-times b Sort.bind), (omega (arith, y, length-times n Sort.clause), tt))
counting Form.r11 = tt
counting (Form.r12 h) = (omega (arith, h), tt)
counting (Form.r13 h p) = (omega (arith, h), tt)
counting Form.r14 = tt
counting (Form.r15 {n}) = (behind n Sort.bind (Sort.expression ∷ []), tt)
counting (Form.r16 h p) = (omega (arith, h), tt)
counting (Form.r17 p) = tt
counting (Form.r18 {u = u} {n} p h) =
    let x = length-append (times u Sort.expression) (times n Sort.named) in
    (omega (arith, h), (omega (arith, x, length-times u Sort.expression), (omega (arith, x, length-times n Sort.named), tt)))
counting (Form.r19 h) = tt
counting (Form.r20 p f h) = (omega (arith, first_flag f), (omega (arith, h), tt))
counting (Form.r21 {n = n} p) = (behind n Sort.param (Sort.expression ∷ []), tt)
counting (Form.r22 p h) = (omega (arith, has_flag h), tt)
counting (Form.r23 a b c) = (omega (arith, part_byte a, part_byte b, part_byte c), tt)
counting Form.r24_value = (omega arith, (omega arith, tt))
counting (Form.r24_function {n}) = (omega arith, (omega (arith, behind n Sort.param (Sort.expression ∷ [])), tt))
counting (Form.r25 p h) = tt
counting Form.r26 = tt
counting (Form.r27 {n} {m = m} h) =
    let x = length-append (times n Sort.pattern) (times m Sort.pattern) in
    (omega (arith, x, length-times n Sort.pattern), (omega (arith, rest_byte h), (omega (arith, x, length-times m Sort.pattern), tt)))
counting (Form.r28 {n} h) = (omega (arith, length-times n Sort.pattern_field), (omega (arith, rest_byte h), tt))
counting (Form.r29_bare h p w) = (omega (arith, has_flag h), (omega arith, tt))
counting (Form.r29_default h p w) = (omega (arith, has_flag h), (omega arith, tt))
counting (Form.r30 h) = (omega (arith, has_flag h), tt)
counting (Form.r31 {n = n} p c m v) =
    (omega (arith, name_flag c), (omega (arith, method_flags m), (omega (arith, method_flags m), (omega (arith, behind n Sort.param (Sort.expression ∷ [])), (omega (arith, v), tt)))))
counting (Form.r32 p h) = (omega (arith, has_flag h), tt)
counting Form.r33 = tt
counting (Form.r34 p) = tt
counting (Form.r35 v w) = (omega (arith, v), tt)

-- ── Together ──────────────────────────────────────────────────────────────────────────────────────

fits-length : {σs τs : List Sort} → Fits σs τs → length σs ≡ length τs
fits-length Fits.none = refl
fits-length (Fits.more i f) = ap suc (fits-length f)

fit : {m n : ℕ} (fs : List Field) → m ≤ n → Counting m fs → Forwards fs → Below n (stops fs) → Fit n fs
fit [] l c f e = tt
fit (byte b ∷ fs) l c f e = (c.0, fit fs l c.1 f e)
fit (number k ∷ fs) l c f e = (omega (arith, l, c.0), fit fs l c.1 f e)
fit (span a b ∷ fs) l c f e = (f.0, e.0, fit fs l c f.1 e.1)
fit (text w ∷ fs) l c f e = fit fs l c f e

fitting : {n : ℕ} {σs : List Sort} {ts : Trees} → Obeys Spans.forward σs ts → Narrow n ts → Ending n ts → Fitting n ts
fitting Obeys.none Narrow.none Ending.none = Fitting.none
fitting (Obeys.node {fields = fs} f g h k) (Narrow.node c w v) (Ending.node e x y) =
    Fitting.node (fit fs (omega (arith, c, fits-length g, obeys_length h)) (counting f) (forwards f).0 e) (fitting h w x) (fitting k v y)

-- OF WHATEVER SOURCE THAT HAS A TREE, under whichever setting.
pub fields_fit : {setting : ℕ} {source : List ℕ} {ts : Trees} → HasTree setting source ts → Fitting (length source) ts
fields_fit {setting} d =
    let o = kept_ranged d.lexemes in
    fitting (obeys (prefix_power setting) setting o (kept_worded d.utf8 d.lexemes) d.reads).2 (rows_narrow (prefix_power setting) setting o d.reads)
    (spans_end (prefix_power setting) setting o d.reads)

-- That is at most 65,000, so that each number and each end of a span has its two bytes.
pub two_bytes : {setting : ℕ} {source : List ℕ} {ts : Trees} {n : ℕ} → HasTree setting source ts → n ≤ length source → (n / 256 ≤ 255) × (n % 256 ≤ 255)
two_bytes d h = (omega (arith, d.short, h), omega arith)
