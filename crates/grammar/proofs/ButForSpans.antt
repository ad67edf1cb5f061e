-- The table of records without its conditions on spans: what obeys the whole table obeys it, and so does what differs in spans only.
-- Assumes nothing.
use mathlib.Core.Path.{subst}
use mathlib.Core.List.{List, [], ◌∷◌}
use Prim.Native.Nat.{ℕ}
use Rattle.grammar.specs.Trees.{Field, Trees}
use Rattle.grammar.specs.Trees as trees
use Rattle.grammar.specs.Records.{Sort, Spans, Part, Form, Obeys}
use Rattle.grammar.proofs.Alike.{AlikeField, AlikeFields, ◌⋆◌, Alike}

-- ── From the whole table ──────────────────────────────────────────────────────────────────────────

loose_part : {q : Spans} {w b a e : ℕ} {σs : List Sort} → Part q w b a e σs → Part Spans.free w b a e σs
loose_part (Part.absent h) = Part.absent tt
loose_part (Part.present h) = Part.present tt

loose_form : {q : Spans} {σ : Sort} {tag : ℕ} {fs : List Field} {ws : List Sort} → Form q σ tag fs ws → Form Spans.free σ tag fs ws
loose_form (Form.r1 h p) = Form.r1 h tt
loose_form Form.r2 = Form.r2
loose_form (Form.r3 h) = Form.r3 h
loose_form (Form.r4 h) = Form.r4 h
loose_form (Form.r5 h) = Form.r5 h
loose_form (Form.r6 p h) = Form.r6 tt h
loose_form Form.r7 = Form.r7
loose_form (Form.r8 n) = Form.r8 n
loose_form Form.r9 = Form.r9
loose_form (Form.r10 a b n) = Form.r10 a b n
loose_form Form.r11 = Form.r11
loose_form (Form.r12 h) = Form.r12 h
loose_form (Form.r13 h p) = Form.r13 h tt
loose_form Form.r14 = Form.r14
loose_form Form.r15 = Form.r15
loose_form (Form.r16 h p) = Form.r16 h tt
loose_form (Form.r17 p) = Form.r17 tt
loose_form (Form.r18 p h) = Form.r18 tt h
loose_form (Form.r19 h) = Form.r19 h
loose_form (Form.r20 p f h) = Form.r20 tt f h
loose_form (Form.r21 p) = Form.r21 tt
loose_form (Form.r22 p h) = Form.r22 tt h
loose_form (Form.r23 p q r) = Form.r23 (loose_part p) (loose_part q) (loose_part r)
loose_form Form.r24_value = Form.r24_value
loose_form Form.r24_function = Form.r24_function
loose_form (Form.r25 p h) = Form.r25 tt h
loose_form Form.r26 = Form.r26
loose_form (Form.r27 r) = Form.r27 r
loose_form (Form.r28 r) = Form.r28 r
loose_form (Form.r29_bare h p w) = Form.r29_bare h tt w
loose_form (Form.r29_default h p w) = Form.r29_default h tt w
loose_form (Form.r30 h) = Form.r30 h
loose_form (Form.r31 p n m v) = Form.r31 tt n m v
loose_form (Form.r32 p h) = Form.r32 tt h
loose_form Form.r33 = Form.r33
loose_form (Form.r34 p) = Form.r34 tt
loose_form (Form.r35 v w) = Form.r35 v w

pub loose : {q : Spans} {σs : List Sort} {ts : Trees} → Obeys q σs ts → Obeys Spans.free σs ts
loose Obeys.none = Obeys.none
loose (Obeys.node f g h k) = Obeys.node (loose_form f) g (loose h) (loose k)

-- ── Of trees that differ in spans only ────────────────────────────────────────────────────────────

-- Fields that do, by what they are.
data Like : Field → Field → Type 0 where
  byte : {n : ℕ} → Like (trees.byte n) (trees.byte n)
  number : {n : ℕ} → Like (trees.number n) (trees.number n)
  text : {w : List ℕ} → Like (trees.text w) (trees.text w)
  span : {a e b f : ℕ} → Like (trees.span a e) (trees.span b f)

infixr 90 ◌⊹◌
data Likes : List Field → List Field → Type 0 where
  nil : Likes [] []
  ◌⊹◌ : {f g : Field} {fs gs : List Field} → Like f g → Likes fs gs → Likes (f ∷ fs) (g ∷ gs)

itself : (f : Field) → Like f f
itself (trees.byte n) = byte
itself (trees.number n) = number
itself (trees.span a e) = span
itself (trees.text w) = text

like : {f g : Field} → AlikeField f g → Like f g
like {f} (AlikeField.same e) = subst (λ (h : Field). Like f h) e (itself f)
like AlikeField.spans = span

likes : {fs gs : List Field} → AlikeFields fs gs → Likes fs gs
likes AlikeFields.nil = nil
likes (f ⋆ fs) = like f ⊹ likes fs

part_like : {w b a e i j : ℕ} {σs : List Sort} → Part Spans.free w b a e σs → Part Spans.free w b i j σs
part_like (Part.absent h) = Part.absent tt
part_like (Part.present h) = Part.present tt

form_like : {σ : Sort} {tag : ℕ} {fs gs : List Field} {ws : List Sort} → Form Spans.free σ tag fs ws → Likes fs gs → Form Spans.free σ tag gs ws
form_like (Form.r1 h p) (byte ⊹ span ⊹ nil) = Form.r1 h tt
form_like Form.r2 nil = Form.r2
form_like (Form.r3 h) (byte ⊹ nil) = Form.r3 h
form_like (Form.r4 h) (text ⊹ nil) = Form.r4 h
form_like (Form.r5 h) (text ⊹ nil) = Form.r5 h
form_like (Form.r6 p h) (span ⊹ text ⊹ nil) = Form.r6 tt h
form_like Form.r7 (number ⊹ nil) = Form.r7
form_like (Form.r8 n) (number ⊹ nil) = Form.r8 n
form_like Form.r9 (number ⊹ nil) = Form.r9
form_like (Form.r10 a b n) (number ⊹ number ⊹ nil) = Form.r10 a b n
form_like Form.r11 nil = Form.r11
form_like (Form.r12 h) (byte ⊹ nil) = Form.r12 h
form_like (Form.r13 h p) (byte ⊹ span ⊹ nil) = Form.r13 h tt
form_like Form.r14 nil = Form.r14
form_like Form.r15 (number ⊹ nil) = Form.r15
form_like (Form.r16 h p) (byte ⊹ span ⊹ nil) = Form.r16 h tt
form_like (Form.r17 p) (span ⊹ nil) = Form.r17 tt
form_like (Form.r18 p h) (span ⊹ byte ⊹ number ⊹ number ⊹ nil) = Form.r18 tt h
form_like (Form.r19 h) (text ⊹ nil) = Form.r19 h
form_like (Form.r20 p f h) (span ⊹ byte ⊹ byte ⊹ nil) = Form.r20 tt f h
form_like (Form.r21 p) (span ⊹ number ⊹ nil) = Form.r21 tt
form_like (Form.r22 p h) (span ⊹ byte ⊹ nil) = Form.r22 tt h
form_like (Form.r23 p q r) (byte ⊹ span ⊹ span ⊹ span ⊹ nil) = Form.r23 (part_like p) (part_like q) (part_like r)
form_like Form.r24_value (byte ⊹ number ⊹ nil) = Form.r24_value
form_like Form.r24_function (byte ⊹ number ⊹ nil) = Form.r24_function
form_like (Form.r25 p h) (span ⊹ text ⊹ nil) = Form.r25 tt h
form_like Form.r26 nil = Form.r26
form_like (Form.r27 r) (number ⊹ byte ⊹ number ⊹ text ⊹ nil) = Form.r27 r
form_like (Form.r28 r) (number ⊹ byte ⊹ text ⊹ nil) = Form.r28 r
form_like (Form.r29_bare h p w) (byte ⊹ byte ⊹ span ⊹ text ⊹ nil) = Form.r29_bare h tt w
form_like (Form.r29_default h p w) (byte ⊹ byte ⊹ span ⊹ text ⊹ nil) = Form.r29_default h tt w
form_like (Form.r30 h) (byte ⊹ nil) = Form.r30 h
form_like (Form.r31 p n m v) (span ⊹ byte ⊹ byte ⊹ byte ⊹ number ⊹ byte ⊹ nil) = Form.r31 tt n m v
form_like (Form.r32 p h) (span ⊹ byte ⊹ nil) = Form.r32 tt h
form_like Form.r33 nil = Form.r33
form_like (Form.r34 p) (span ⊹ nil) = Form.r34 tt
form_like (Form.r35 v w) (byte ⊹ text ⊹ nil) = Form.r35 v w

pub obeys_alike : {σs : List Sort} {ts us : Trees} → Alike ts us → Obeys Spans.free σs ts → Obeys Spans.free σs us
obeys_alike Alike.no_trees Obeys.none = Obeys.none
obeys_alike (Alike.a_node f c r) (Obeys.node x g h k) = Obeys.node (form_like x (likes f)) g (obeys_alike c h) (obeys_alike r k)
