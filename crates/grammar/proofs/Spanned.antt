-- The table's conditions on spans by themselves, `Spanned`: what obeys the whole table is what obeys it but for spans and is so.
-- Assumes nothing.
use mathlib.Core.Path.{◌≡◌, refl}
use mathlib.Core.Bool.{not, ◌||◌}
use mathlib.Core.List.{List}
use Prim.Native.Nat.{ℕ, ◌≤◌}
use native.Mathlib.Omega.{arith}
use lib.Dec.{T, eqb}
use Rattle.grammar.specs.Tags.{IDENTITY, NULL, BOOL, NUMBER, STRING, VARIABLE, ARRAY, ARRAY_COMP, MEMBERS, OBJECT_COMP, EXTENSION, PREFIX}
use Rattle.grammar.specs.Tags.{INFIX, ASSERT_EXPR, LOCAL, IMPORT, ERROR, CALL, NAMED_ARGUMENT, INDEX_PART, FUNCTION, IF, SLICE, BIND}
use Rattle.grammar.specs.Tags.{NAME_PATTERN, SKIP, ARRAY_PATTERN, OBJECT_PATTERN, PATTERN_FIELD, PARAMETER, FIELD, ASSERT, FOR, IF_CLAUSE}
use Rattle.grammar.specs.Tags.{OBJECT_ITERATION}
use Rattle.grammar.specs.Trees.{Field, Trees}
use Rattle.grammar.specs.Records.{Sort, Spans, Part, Form, Obeys}
use Rattle.grammar.specs.Derived.{Forwards, Zeros, Spanned}
use Rattle.grammar.proofs.Possible.{is_kind, not_either}

-- ── But for spans and spanned: the whole table ────────────────────────────────────────────────────

pub tight : {σ : Sort} {tag : ℕ} {fs : List Field} {ws : List Sort} → Form Spans.free σ tag fs ws → Forwards fs → Zeros tag fs → Form Spans.forward σ tag fs ws
tight (Form.r1 h p) f z = Form.r1 h f.0
tight Form.r2 f z = Form.r2
tight (Form.r3 h) f z = Form.r3 h
tight (Form.r4 h) f z = Form.r4 h
tight (Form.r5 h) f z = Form.r5 h
tight (Form.r6 p h) f z = Form.r6 f.0 h
tight Form.r7 f z = Form.r7
tight (Form.r8 n) f z = Form.r8 n
tight Form.r9 f z = Form.r9
tight (Form.r10 a b n) f z = Form.r10 a b n
tight Form.r11 f z = Form.r11
tight (Form.r12 h) f z = Form.r12 h
tight (Form.r13 h p) f z = Form.r13 h f.0
tight Form.r14 f z = Form.r14
tight Form.r15 f z = Form.r15
tight (Form.r16 h p) f z = Form.r16 h f.0
tight (Form.r17 p) f z = Form.r17 f.0
tight (Form.r18 p h) f z = Form.r18 f.0 h
tight (Form.r19 h) f z = Form.r19 h
tight (Form.r20 p g h) f z = Form.r20 f.0 g h
tight (Form.r21 p) f z = Form.r21 f.0
tight (Form.r22 p h) f z = Form.r22 f.0 h
tight (Form.r23 (Part.absent h0) (Part.absent h1) (Part.absent h2)) f (Zeros.slice x y z) =
    Form.r23 (Part.absent (x refl)) (Part.absent (y refl)) (Part.absent (z refl))
tight (Form.r23 (Part.absent h0) (Part.absent h1) (Part.absent h2)) f (Zeros.other n m) = absurd (n refl)
tight (Form.r23 (Part.absent h0) (Part.absent h1) (Part.present h2)) f (Zeros.slice x y z) =
    Form.r23 (Part.absent (x refl)) (Part.absent (y refl)) (Part.present f.1.1.0)
tight (Form.r23 (Part.absent h0) (Part.absent h1) (Part.present h2)) f (Zeros.other n m) = absurd (n refl)
tight (Form.r23 (Part.absent h0) (Part.present h1) (Part.absent h2)) f (Zeros.slice x y z) =
    Form.r23 (Part.absent (x refl)) (Part.present f.1.0) (Part.absent (z refl))
tight (Form.r23 (Part.absent h0) (Part.present h1) (Part.absent h2)) f (Zeros.other n m) = absurd (n refl)
tight (Form.r23 (Part.absent h0) (Part.present h1) (Part.present h2)) f (Zeros.slice x y z) =
    Form.r23 (Part.absent (x refl)) (Part.present f.1.0) (Part.present f.1.1.0)
tight (Form.r23 (Part.absent h0) (Part.present h1) (Part.present h2)) f (Zeros.other n m) = absurd (n refl)
tight (Form.r23 (Part.present h0) (Part.absent h1) (Part.absent h2)) f (Zeros.slice x y z) =
    Form.r23 (Part.present f.0) (Part.absent (y refl)) (Part.absent (z refl))
tight (Form.r23 (Part.present h0) (Part.absent h1) (Part.absent h2)) f (Zeros.other n m) = absurd (n refl)
tight (Form.r23 (Part.present h0) (Part.absent h1) (Part.present h2)) f (Zeros.slice x y z) =
    Form.r23 (Part.present f.0) (Part.absent (y refl)) (Part.present f.1.1.0)
tight (Form.r23 (Part.present h0) (Part.absent h1) (Part.present h2)) f (Zeros.other n m) = absurd (n refl)
tight (Form.r23 (Part.present h0) (Part.present h1) (Part.absent h2)) f (Zeros.slice x y z) =
    Form.r23 (Part.present f.0) (Part.present f.1.0) (Part.absent (z refl))
tight (Form.r23 (Part.present h0) (Part.present h1) (Part.absent h2)) f (Zeros.other n m) = absurd (n refl)
tight (Form.r23 (Part.present h0) (Part.present h1) (Part.present h2)) f (Zeros.slice x y z) =
    Form.r23 (Part.present f.0) (Part.present f.1.0) (Part.present f.1.1.0)
tight (Form.r23 (Part.present h0) (Part.present h1) (Part.present h2)) f (Zeros.other n m) = absurd (n refl)
tight Form.r24_value f z = Form.r24_value
tight Form.r24_function f z = Form.r24_function
tight (Form.r25 p h) f z = Form.r25 f.0 h
tight Form.r26 f z = Form.r26
tight (Form.r27 r) f z = Form.r27 r
tight (Form.r28 r) f z = Form.r28 r
tight (Form.r29_bare h p w) f (Zeros.pattern_field z) = Form.r29_bare h (z refl) w
tight (Form.r29_bare h p w) f (Zeros.other n m) = absurd (m refl)
tight (Form.r29_default h p w) f (Zeros.pattern_field z) = Form.r29_default h f.0 w
tight (Form.r29_default h p w) f (Zeros.other n m) = absurd (m refl)
tight (Form.r30 h) f z = Form.r30 h
tight (Form.r31 p n m v) f z = Form.r31 f.0 n m v
tight (Form.r32 p h) f z = Form.r32 f.0 h
tight Form.r33 f z = Form.r33
tight (Form.r34 p) f z = Form.r34 f.0
tight (Form.r35 v w) f z = Form.r35 v w

pub spanned_obeys : {σs : List Sort} {ts : Trees} → Obeys Spans.free σs ts → Spanned ts → Obeys Spans.forward σs ts
spanned_obeys Obeys.none Spanned.none = Obeys.none
spanned_obeys (Obeys.node f g h k) (Spanned.node x z c r) = Obeys.node (tight f x z) g (spanned_obeys h c) (spanned_obeys k r)

-- ── What obeys the whole table is spanned ─────────────────────────────────────────────────────────

others : (tag : ℕ) {fs : List Field} → T (not (eqb tag SLICE || eqb tag PATTERN_FIELD)) → Zeros tag fs
others tag h = let n = not_either (eqb tag SLICE) (eqb tag PATTERN_FIELD) h in Zeros.other (λ e. n.0 (is_kind e)) (λ e. n.1 (is_kind e))

zero : {a e : ℕ} → (a ≡ 0) × (e ≡ 0) → a ≤ e
zero z = omega (arith, z.0, z.1)

pub forwards : {σ : Sort} {tag : ℕ} {fs : List Field} {ws : List Sort} → Form Spans.forward σ tag fs ws → Forwards fs × Zeros tag fs
forwards (Form.r1 h p) = ((p, tt), others IDENTITY tt)
forwards Form.r2 = (tt, others NULL tt)
forwards (Form.r3 h) = (tt, others BOOL tt)
forwards (Form.r4 h) = (tt, others NUMBER tt)
forwards (Form.r5 h) = (tt, others STRING tt)
forwards (Form.r6 p h) = ((p, tt), others VARIABLE tt)
forwards Form.r7 = (tt, others ARRAY tt)
forwards (Form.r8 n) = (tt, others ARRAY_COMP tt)
forwards Form.r9 = (tt, others MEMBERS tt)
forwards (Form.r10 a b n) = (tt, others OBJECT_COMP tt)
forwards Form.r11 = (tt, others EXTENSION tt)
forwards (Form.r12 h) = (tt, others PREFIX tt)
forwards (Form.r13 h p) = ((p, tt), others INFIX tt)
forwards Form.r14 = (tt, others ASSERT_EXPR tt)
forwards Form.r15 = (tt, others LOCAL tt)
forwards (Form.r16 h p) = ((p, tt), others IMPORT tt)
forwards (Form.r17 p) = ((p, tt), others ERROR tt)
forwards (Form.r18 p h) = ((p, tt), others CALL tt)
forwards (Form.r19 h) = (tt, others NAMED_ARGUMENT tt)
forwards (Form.r20 p f h) = ((p, tt), others INDEX_PART tt)
forwards (Form.r21 p) = ((p, tt), others FUNCTION tt)
forwards (Form.r22 p h) = ((p, tt), others IF tt)
forwards (Form.r23 (Part.absent h0) (Part.absent h1) (Part.absent h2)) = ((zero h0, (zero h1, (zero h2, tt))), Zeros.slice {b = 0} (λ e. h0) (λ e. h1) (λ e. h2))
forwards (Form.r23 (Part.absent h0) (Part.absent h1) (Part.present h2)) =
    ((zero h0, (zero h1, (h2, tt))), Zeros.slice {b = 4} (λ e. h0) (λ e. h1) (λ e. absurd (omega (arith, e))))
forwards (Form.r23 (Part.absent h0) (Part.present h1) (Part.absent h2)) =
    ((zero h0, (h1, (zero h2, tt))), Zeros.slice {b = 2} (λ e. h0) (λ e. absurd (omega (arith, e))) (λ e. h2))
forwards (Form.r23 (Part.absent h0) (Part.present h1) (Part.present h2)) =
    ((zero h0, (h1, (h2, tt))), Zeros.slice {b = 6} (λ e. h0) (λ e. absurd (omega (arith, e))) (λ e. absurd (omega (arith, e))))
forwards (Form.r23 (Part.present h0) (Part.absent h1) (Part.absent h2)) =
    ((h0, (zero h1, (zero h2, tt))), Zeros.slice {b = 1} (λ e. absurd (omega (arith, e))) (λ e. h1) (λ e. h2))
forwards (Form.r23 (Part.present h0) (Part.absent h1) (Part.present h2)) =
    ((h0, (zero h1, (h2, tt))), Zeros.slice {b = 5} (λ e. absurd (omega (arith, e))) (λ e. h1) (λ e. absurd (omega (arith, e))))
forwards (Form.r23 (Part.present h0) (Part.present h1) (Part.absent h2)) =
    ((h0, (h1, (zero h2, tt))), Zeros.slice {b = 3} (λ e. absurd (omega (arith, e))) (λ e. absurd (omega (arith, e))) (λ e. h2))
forwards (Form.r23 (Part.present h0) (Part.present h1) (Part.present h2)) =
    ((h0, (h1, (h2, tt))), Zeros.slice {b = 7} (λ e. absurd (omega (arith, e))) (λ e. absurd (omega (arith, e))) (λ e. absurd (omega (arith, e))))
forwards Form.r24_value = (tt, others BIND tt)
forwards Form.r24_function = (tt, others BIND tt)
forwards (Form.r25 p h) = ((p, tt), others NAME_PATTERN tt)
forwards Form.r26 = (tt, others SKIP tt)
forwards (Form.r27 r) = (tt, others ARRAY_PATTERN tt)
forwards (Form.r28 r) = (tt, others OBJECT_PATTERN tt)
forwards (Form.r29_bare h p w) = ((zero p, tt), Zeros.pattern_field (λ e. p))
forwards (Form.r29_default h p w) = ((p, tt), Zeros.pattern_field {d = 1} (λ e. absurd (omega (arith, e))))
forwards (Form.r30 h) = (tt, others PARAMETER tt)
forwards (Form.r31 p n m v) = ((p, tt), others FIELD tt)
forwards (Form.r32 p h) = ((p, tt), others ASSERT tt)
forwards Form.r33 = (tt, others FOR tt)
forwards (Form.r34 p) = ((p, tt), others IF_CLAUSE tt)
forwards (Form.r35 v w) = (tt, others OBJECT_ITERATION tt)

pub obeys_spanned : {σs : List Sort} {ts : Trees} → Obeys Spans.forward σs ts → Spanned ts
obeys_spanned Obeys.none = Spanned.none
obeys_spanned (Obeys.node f g h k) = let x = forwards f in Spanned.node x.0 x.1 (obeys_spanned h) (obeys_spanned k)
