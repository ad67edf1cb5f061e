-- A record that is laid out as its tag says, whose spans are forward, whose fields go together, whose text is of the kind, is one of the table,
-- and wants the children that are asked for.
-- Assumes nothing.
use mathlib.Core.Path.{◌≡◌, refl, sym, ap, subst, ◌∙◌}
use mathlib.Core.Bool.{Bool, true, false, cond, ◌&&◌}
use mathlib.Core.List.{List, [], ◌∷◌, ◌++◌, append-nil, append_assoc}
use Prim.Native.Nat.{ℕ, zero, suc, ◌+◌, ◌-◌, ◌*◌, ◌/◌, ◌%◌, ◌≤◌, ◌<◌}
use native.Mathlib.Omega.{arith}
use lib.Dec.{eqb}
use borrow.Author.Tests.{le-leb, leb-true, eqb-true, eq-eqb}
use Rattle.grammar.specs.Tags.{IDENTITY, NULL, BOOL, NUMBER, STRING, VARIABLE, ARRAY, ARRAY_COMP, MEMBERS, OBJECT_COMP, EXTENSION, PREFIX, INFIX, ASSERT_EXPR, LOCAL, IMPORT, ERROR, CALL}
use Rattle.grammar.specs.Tags.{NAMED_ARGUMENT, INDEX_PART, FUNCTION, IF, SLICE, BIND, NAME_PATTERN, SKIP, ARRAY_PATTERN, OBJECT_PATTERN, PATTERN_FIELD, PARAMETER, FIELD, ASSERT, FOR, IF_CLAUSE, OBJECT_ITERATION}
use Rattle.grammar.specs.Trees.{Field, byte, number, span, text}
use Rattle.grammar.specs.Words.{NameText}
use Rattle.grammar.specs.Records.{Sort, times, Spans, Has, First, Part, Rest, Name, Method, Form}
use Rattle.grammar.specs.Records as records
use Rattle.grammar.specs.Layout.{layout, unknown, Row, row, rows as layouts, layout_in, layout_of, bits_in, over, a_span, a_text, a_count, a_flag, a_slice, a_byte, Tells, tells}
use Rattle.grammar.specs.Derived.{Forwards}
use Rattle.images.specs.Inner.{span_value, unless, slice_fine, method_fine, pick, count_by, sort_by, text_by, fine_by, fines, look, row_of, rows, asks, sort_of, sorts, Worded, COMP}
use Rattle.images.proofs.PartLaws.{value}
use Rattle.images.proofs.CodeLaws.{number_of, utf8_of, name_of}
use Rattle.images.proofs.FormLaws.{values, words_of, numbered, sort_at, groups}

-- ── A known tag is one of the table's ─────────────────────────────────────────────────────────────

abbrev pub AllRows : (ℕ → Type 0) → List Row → Type 0
AllRows P [] = Unit {0}
AllRows P (row k own ps ∷ rs) = P k × AllRows P rs

pub among_rows : (P : ℕ → Type 0) (tag : ℕ) (rs : List Row) → AllRows P rs → (layout_in tag rs ≡ unknown → ⊥) → P tag
unfolding layout_in
among_rows P tag [] a n = absurd (n refl)
among_rows P tag (row k own ps ∷ rs) a n = by (eqb tag k) refl n (λ m. among_rows P tag rs a.1 m)
  where
    by : (b : Bool) → eqb tag k ≡ b → (cond b (layout own ps) (layout_in tag rs) ≡ unknown → ⊥) → ((layout_in tag rs ≡ unknown → ⊥) → P tag) → P tag
    by true e m f = subst P (sym (eqb-true tag k e)) a.0
    by false e m f = f m

-- ── What the tests say ────────────────────────────────────────────────────────────────────────────

span_zero : {a e : ℕ} → a ≤ e → span_value a e ≡ 0 → (a ≡ 0) × (e ≡ 0)
unfolding span_value
span_zero {a} {e} h z = let s : a + e ≡ 0 = rw (le-leb a e h) at z in (omega arith, omega arith)

unless_is : (flag n : ℕ) → flag ≡ 0 → unless flag n ≡ true → n ≡ 0
unfolding unless
unless_is flag n z e = eqb-true n 0 (rw (eq-eqb flag 0 z) at e)

and_both : (b c : Bool) → b && c ≡ true → (b ≡ true) × (c ≡ true)
and_both true c e = (refl, e)
and_both false c e = absurd (let z : ◌≡◌ {A = ℕ} 0 1 = cc in omega arith)

worded_empty : {w : List ℕ} → Worded 4 w → [] ≡ w
worded_empty Worded.empty = refl

m31_method : (c p m k v : ℕ) {a e : ℕ} → p < 2 → m < 2 → v < 3 → a ≤ e → method_fine p m k ≡ true → Method p m k
unfolding method_fine
m31_method c p zero k v i j l q f = subst (λ (n : ℕ). Method p 0 n) (sym (eqb-true k 0 f)) (Method.value (omega arith))
m31_method c p (suc zero) k v i j l q f = subst (λ (n : ℕ). Method n 1 k) (sym (eqb-true p 0 f)) Method.method
m31_method c p (suc (suc m)) k v i j l q f = absurd (omega arith)

bit : (w b : ℕ) {a e : ℕ} → b < 2 → a ≤ e → unless b (span_value a e) ≡ true → (σs : List Sort) × Part Spans.forward w (w * b) a e σs × (times b records.expression ≡ σs)
unfolding times
bit w zero {a} {e} h p f = let z : 0 ≡ w * 0 = omega arith in ([], subst (λ (i : ℕ). Part Spans.forward w i a e []) z (Part.absent (span_zero p (unless_is 0 _ refl f))), refl)
bit w (suc zero) {a} {e} h p f = let z : w ≡ w * 1 = omega arith in (records.expression ∷ [], subst (λ (i : ℕ). Part Spans.forward w i a e (records.expression ∷ [])) z (Part.present p), refl)
bit w (suc (suc b)) h p f = absurd (omega arith)

times_add : (m n : ℕ) (σ : Sort) → times (m + n) σ ≡ times m σ ++ times n σ
unfolding times
times_add zero n σ = let z : 0 + n ≡ n = omega arith in ap (λ (i : ℕ). times i σ) z
times_add (suc m) n σ = let z : suc m + n ≡ suc (m + n) = omega arith in ap (λ (i : ℕ). times i σ) z ∙ ap (λ (l : List Sort). σ ∷ l) (times_add m n σ)

three_bits : (b : ℕ) → b < 8 → 1 * (b % 2) + 2 * (b / 2 % 2) + 4 * (b / 4 % 2) ≡ b
three_bits zero h = refl
three_bits (suc zero) h = refl
three_bits (suc (suc zero)) h = refl
three_bits (suc (suc (suc zero))) h = refl
three_bits (suc (suc (suc (suc zero)))) h = refl
three_bits (suc (suc (suc (suc (suc zero))))) h = refl
three_bits (suc (suc (suc (suc (suc (suc zero)))))) h = refl
three_bits (suc (suc (suc (suc (suc (suc (suc zero))))))) h = refl
three_bits (suc (suc (suc (suc (suc (suc (suc (suc b)))))))) h = absurd (omega arith)

-- ── Forms with the children that are there ────────────────────────────────────────────────────────

-- K: the rows of sorts that the children fit.
module _ (K : List Sort → Type 0) where
  pub record Made (tag : ℕ) (fs : List Field) : Type 0 where
    pub wanted : List Sort
    pub form : Form Spans.forward (sort_of tag) tag fs wanted
    pub kept : K wanted

  -- they fit the groups that are asked for
  abbrev pub Plain : ℕ → List Field → Type 0
  Plain tag fs = ((asks tag (values fs)).s1 < 16) × ((asks tag (values fs)).s2 < 16) × ((asks tag (values fs)).s3 < 16) → K (groups (asks tag (values fs)))

  -- of an object comprehension: the field stands between binds
  abbrev pub Comp : ℕ → List Field → Type 0
  Comp tag fs = (asks tag (values fs)).s1 ≡ COMP → (asks tag (values fs)).n2 ≡ 1 → (asks tag (values fs)).s2 ≡ 10 → (asks tag (values fs)).s3 ≡ 12 → (x : ℕ) × (y : ℕ) × ((asks tag (values fs)).n1 ≡ x + 1 + y)
      × K ((times x records.bind ++ records.field ∷ times y records.bind) ++ records.iteration ∷ times (asks tag (values fs)).n3 records.clause)

  abbrev Maker : ℕ → List Field → Type 0
  Maker tag fs = Plain tag fs → Made tag fs

  abbrev MakerC : ℕ → List Field → Type 0
  MakerC tag fs = Comp tag fs → Made tag fs

  abbrev pub Makes : ℕ → Type 0
  Makes tag = (fs : List Field) (n : ℕ) → Tells (layout_of tag) fs n → Forwards fs → (asks tag (values fs)).fine ≡ true
      → Worded (asks tag (values fs)).text (words_of fs) → Plain tag fs → Comp tag fs → Made tag fs

  made : {tag : ℕ} {fs : List Field} {ws : List Sort} → Form Spans.forward (sort_of tag) tag fs ws
      → ((asks tag (values fs)).s1 < 16) × ((asks tag (values fs)).s2 < 16) × ((asks tag (values fs)).s3 < 16) → groups (asks tag (values fs)) ≡ ws → Maker tag fs
  made f n w pk = record { wanted = _; form = f; kept = subst K w (pk n) }

  -- ── Those that go by cases ────────────────────────────────────────────────────────────────────────

  m8_by : (k : ℕ) → 1 ≤ k → Maker ARRAY_COMP (number k ∷ [])
  unfolding asks row_of rows look count_by sort_by text_by fine_by fines sort_of sorts groups sort_at numbered times words_of value pick unless method_fine
  m8_by zero h = absurd (omega arith)
  m8_by (suc k) h = let e : 1 + k ≡ suc k = omega arith in subst (λ (i : ℕ). Maker ARRAY_COMP (number i ∷ [])) e
      (made (Form.r8 k) (omega arith, omega arith, omega arith) (let q : 1 + k - 1 ≡ k = omega arith in ap (λ (i : ℕ). records.expression ∷ records.iteration ∷ times i records.clause) q))

  m10_by : (k l : ℕ) → 1 ≤ l → MakerC OBJECT_COMP (number k ∷ number l ∷ [])
  unfolding asks row_of rows look count_by sort_by text_by fine_by fines sort_of sorts groups sort_at numbered times words_of value pick unless method_fine
  m10_by k zero h ck = absurd (omega arith)
  m10_by k (suc l) h ck =
      let p = ck refl refl refl refl in
      let q : 1 + l ≡ suc l = omega arith in
      let r : suc l - 1 ≡ l = omega arith in
      let f : Form Spans.forward records.object OBJECT_COMP (number k ∷ number (suc l) ∷ []) ((times p.0 records.bind ++ records.field ∷ times p.1 records.bind) ++ records.iteration ∷ times l records.clause) =
      subst (λ (i : ℕ). Form Spans.forward records.object OBJECT_COMP (number i ∷ number (suc l) ∷ []) ((times p.0 records.bind ++ records.field ∷ times p.1 records.bind) ++ records.iteration ∷ times l records.clause)) (sym p.2)
      (subst (λ (i : ℕ). Form Spans.forward records.object OBJECT_COMP (number (p.0 + 1 + p.1) ∷ number i ∷ []) ((times p.0 records.bind ++ records.field ∷ times p.1 records.bind) ++ records.iteration ∷ times l records.clause)) q
      (Form.r10 p.0 p.1 l)) in
      record { wanted = _; form = f; kept = subst (λ (i : ℕ). K ((times p.0 records.bind ++ records.field ∷ times p.1 records.bind) ++ records.iteration ∷ times i records.clause)) r p.3 }

  m20_by : (f s : ℕ) {a e : ℕ} → f < 2 → s < 2 → a ≤ e → Maker INDEX_PART (span a e ∷ byte f ∷ byte s ∷ [])
  unfolding asks row_of rows look count_by sort_by text_by fine_by fines sort_of sorts groups sort_at numbered times words_of value pick unless method_fine
  m20_by zero s h g p = made (Form.r20 {n = s} p First.later (omega arith)) (omega arith, omega arith, omega arith) refl
  m20_by (suc zero) s h g p = made (Form.r20 {n = s} p First.first (omega arith)) (omega arith, omega arith, omega arith) refl
  m20_by (suc (suc f)) s h g p = absurd (omega arith)

  m22_by : (d : ℕ) {a e : ℕ} → d < 2 → a ≤ e → Maker IF (span a e ∷ byte d ∷ [])
  unfolding asks row_of rows look count_by sort_by text_by fine_by fines sort_of sorts groups sort_at numbered times words_of value pick unless method_fine
  m22_by zero h p = made (Form.r22 p Has.no) (omega arith, omega arith, omega arith) refl
  m22_by (suc zero) h p = made (Form.r22 p Has.yes) (omega arith, omega arith, omega arith) refl
  m22_by (suc (suc d)) h p = absurd (omega arith)

  m24_by : (f k : ℕ) → f < 2 → unless f k ≡ true → Maker BIND (byte f ∷ number k ∷ [])
  unfolding asks row_of rows look count_by sort_by text_by fine_by fines sort_of sorts groups sort_at numbered times words_of value pick unless method_fine
  m24_by zero k h e = subst (λ (i : ℕ). Maker BIND (byte 0 ∷ number i ∷ [])) (sym (unless_is 0 k refl e)) (made Form.r24_value (omega arith, omega arith, omega arith) refl)
  m24_by (suc zero) k h e = made Form.r24_function (omega arith, omega arith, omega arith) refl
  m24_by (suc (suc f)) k h e = absurd (omega arith)

  m27_by : (k r l : ℕ) (u : List ℕ) → r < 3 → unless r l ≡ true → Worded (cond (eqb r 2) 3 4) u → Maker ARRAY_PATTERN (number k ∷ byte r ∷ number l ∷ text u ∷ [])
  unfolding asks row_of rows look count_by sort_by text_by fine_by fines sort_of sorts groups sort_at numbered times words_of value pick unless method_fine
  m27_by k zero l u h e w =
      subst (λ (i : ℕ). Maker ARRAY_PATTERN (number k ∷ byte 0 ∷ number i ∷ text u ∷ [])) (sym (unless_is 0 l refl e))
      (subst (λ (v : List ℕ). Maker ARRAY_PATTERN (number k ∷ byte 0 ∷ number 0 ∷ text v ∷ [])) (worded_empty w) (made (Form.r27 Rest.whole) (omega arith, omega arith, omega arith) refl))
  m27_by k (suc zero) l u h e w =
      subst (λ (v : List ℕ). Maker ARRAY_PATTERN (number k ∷ byte 1 ∷ number l ∷ text v ∷ [])) (worded_empty w)
      (made (Form.r27 Rest.dropped) (omega arith, omega arith, omega arith) (ap (λ (s : List Sort). times k records.pattern ++ s) (append-nil (times l records.pattern))))
  m27_by k (suc (suc zero)) l u h e w = made (Form.r27 (Rest.kept (name_of w))) (omega arith, omega arith, omega arith) (ap (λ (s : List Sort). times k records.pattern ++ s) (append-nil (times l records.pattern)))
  m27_by k (suc (suc (suc r))) l u h e w = absurd (omega arith)

  m28_by : (k r : ℕ) (u : List ℕ) → r < 3 → Worded (cond (eqb r 2) 3 4) u → Maker OBJECT_PATTERN (number k ∷ byte r ∷ text u ∷ [])
  unfolding asks row_of rows look count_by sort_by text_by fine_by fines sort_of sorts groups sort_at numbered times words_of value pick unless method_fine
  m28_by k zero u h w = subst (λ (v : List ℕ). Maker OBJECT_PATTERN (number k ∷ byte 0 ∷ text v ∷ [])) (worded_empty w) (made (Form.r28 Rest.whole) (omega arith, omega arith, omega arith) (append-nil (times k records.pattern_field)))
  m28_by k (suc zero) u h w = subst (λ (v : List ℕ). Maker OBJECT_PATTERN (number k ∷ byte 1 ∷ text v ∷ [])) (worded_empty w) (made (Form.r28 Rest.dropped) (omega arith, omega arith, omega arith) (append-nil (times k records.pattern_field)))
  m28_by k (suc (suc zero)) u h w = made (Form.r28 (Rest.kept (name_of w))) (omega arith, omega arith, omega arith) (append-nil (times k records.pattern_field))
  m28_by k (suc (suc (suc r))) u h w = absurd (omega arith)

  m29_by : (h d : ℕ) {a e : ℕ} {w : List ℕ} → h < 2 → d < 2 → a ≤ e → unless d (span_value a e) ≡ true → NameText w → Maker PATTERN_FIELD (byte h ∷ byte d ∷ span a e ∷ text w ∷ [])
  unfolding asks row_of rows look count_by sort_by text_by fine_by fines sort_of sorts groups sort_at numbered times words_of value pick unless method_fine
  m29_by zero zero i j p f w = made (Form.r29_bare Has.no (span_zero p (unless_is 0 _ refl f)) w) (omega arith, omega arith, omega arith) refl
  m29_by (suc zero) zero i j p f w = made (Form.r29_bare Has.yes (span_zero p (unless_is 0 _ refl f)) w) (omega arith, omega arith, omega arith) refl
  m29_by zero (suc zero) i j p f w = made (Form.r29_default Has.no p w) (omega arith, omega arith, omega arith) refl
  m29_by (suc zero) (suc zero) i j p f w = made (Form.r29_default Has.yes p w) (omega arith, omega arith, omega arith) refl
  m29_by (suc (suc h)) d i j p f w = absurd (omega arith)
  m29_by zero (suc (suc d)) i j p f w = absurd (omega arith)
  m29_by (suc zero) (suc (suc d)) i j p f w = absurd (omega arith)

  m30_by : (d : ℕ) → d < 2 → Maker PARAMETER (byte d ∷ [])
  unfolding asks row_of rows look count_by sort_by text_by fine_by fines sort_of sorts groups sort_at numbered times words_of value pick unless method_fine
  m30_by zero h = made (Form.r30 Has.no) (omega arith, omega arith, omega arith) refl
  m30_by (suc zero) h = made (Form.r30 Has.yes) (omega arith, omega arith, omega arith) refl
  m30_by (suc (suc d)) h = absurd (omega arith)

  m31_by : (c p m k v : ℕ) {a e : ℕ} → c < 2 → p < 2 → m < 2 → v < 3 → a ≤ e → method_fine p m k ≡ true
      → Maker FIELD (span a e ∷ byte c ∷ byte p ∷ byte m ∷ number k ∷ byte v ∷ [])
  unfolding asks row_of rows look count_by sort_by text_by fine_by fines sort_of sorts groups sort_at numbered times words_of value pick unless method_fine
  m31_by zero p m k v h i j l q f = made (Form.r31 {v = v} q Name.fixed (m31_method 0 p m k v i j l q f) (omega arith)) (omega arith, omega arith, omega arith) refl
  m31_by (suc zero) p m k v h i j l q f = made (Form.r31 {v = v} q Name.computed (m31_method 1 p m k v i j l q f) (omega arith)) (omega arith, omega arith, omega arith) refl
  m31_by (suc (suc c)) p m k v h i j l q f = absurd (omega arith)

  m32_by : (d : ℕ) {a e : ℕ} → d < 2 → a ≤ e → Maker ASSERT (span a e ∷ byte d ∷ [])
  unfolding asks row_of rows look count_by sort_by text_by fine_by fines sort_of sorts groups sort_at numbered times words_of value pick unless method_fine
  m32_by zero h p = made (Form.r32 p Has.no) (omega arith, omega arith, omega arith) refl
  m32_by (suc zero) h p = made (Form.r32 p Has.yes) (omega arith, omega arith, omega arith) refl
  m32_by (suc (suc d)) h p = absurd (omega arith)

  -- a slice, by the three bits of its byte
  m23_by : (b : ℕ) {i₁ j₁ i₂ j₂ i₃ j₃ : ℕ} → b < 8 → i₁ ≤ j₁ → i₂ ≤ j₂ → i₃ ≤ j₃ → slice_fine b (span_value i₁ j₁) (span_value i₂ j₂) (span_value i₃ j₃) ≡ true
      → Maker SLICE (byte b ∷ span i₁ j₁ ∷ span i₂ j₂ ∷ span i₃ j₃ ∷ [])
  unfolding asks row_of rows look count_by sort_by text_by fine_by fines sort_of sorts groups sort_at numbered times words_of value pick unless method_fine slice_fine
  m23_by b {i₁} {j₁} {i₂} {j₂} {i₃} {j₃} h p q r f =
      let x = and_both (unless (b % 2) (span_value i₁ j₁)) _ f in
      let y = and_both (unless (b / 2 % 2) (span_value i₂ j₂)) _ x.1 in
      let u = bit 1 (b % 2) (omega arith) p x.0 in
      let v = bit 2 (b / 2 % 2) (omega arith) q y.0 in
      let w = bit 4 (b / 4 % 2) (omega arith) r y.1 in
      let s = three_bits b h in
      let g : times (bits_in b) records.expression ++ [] ≡ (u.0 ++ v.0) ++ w.0 =
      append-nil (times (bits_in b) records.expression) ∙ times_add (b % 2) (b / 2 % 2 + b / 4 % 2) records.expression
      ∙ ap (λ (l : List Sort). l ++ times (b / 2 % 2 + b / 4 % 2) records.expression) u.2
      ∙ ap (λ (l : List Sort). u.0 ++ l) (times_add (b / 2 % 2) (b / 4 % 2) records.expression ∙ ap (λ (l : List Sort). l ++ times (b / 4 % 2) records.expression) v.2 ∙ ap (λ (l : List Sort). v.0 ++ l) w.2)
      ∙ sym (append_assoc u.0 v.0 w.0) in
      made (subst (λ (i : ℕ). Form Spans.forward records.expression SLICE (byte i ∷ span i₁ j₁ ∷ span i₂ j₂ ∷ span i₃ j₃ ∷ []) (records.expression ∷ (u.0 ++ v.0) ++ w.0)) s (Form.r23 u.1 v.1 w.1))
      (omega arith, omega arith, omega arith) (ap (λ (l : List Sort). records.expression ∷ l) g)

  -- ── Each tag ──────────────────────────────────────────────────────────────────────────────────────

  m1 : Makes IDENTITY
  unfolding asks row_of rows look count_by sort_by text_by fine_by fines sort_of sorts groups sort_at numbered times words_of value pick unless method_fine layout_of
  m1 fs n (tells (a_byte {b = o} h (a_span over))) fw fine w pk ck = made (Form.r1 {o = o} (omega arith) fw.0) (omega arith, omega arith, omega arith) refl pk

  m2 : Makes NULL
  unfolding asks row_of rows look count_by sort_by text_by fine_by fines sort_of sorts groups sort_at numbered times words_of value pick unless method_fine layout_of
  m2 fs n (tells over) fw fine w pk ck = made (Form.r2) (omega arith, omega arith, omega arith) refl pk

  m3 : Makes BOOL
  unfolding asks row_of rows look count_by sort_by text_by fine_by fines sort_of sorts groups sort_at numbered times words_of value pick unless method_fine layout_of
  m3 fs n (tells (a_byte {b = o} h over)) fw fine w pk ck = made (Form.r3 {f = o} (omega arith)) (omega arith, omega arith, omega arith) refl pk

  m4 : Makes NUMBER
  unfolding asks row_of rows look count_by sort_by text_by fine_by fines sort_of sorts groups sort_at numbered times words_of value pick unless method_fine layout_of
  m4 fs n (tells a_text) fw fine w pk ck = made (Form.r4 (number_of w)) (omega arith, omega arith, omega arith) refl pk

  m5 : Makes STRING
  unfolding asks row_of rows look count_by sort_by text_by fine_by fines sort_of sorts groups sort_at numbered times words_of value pick unless method_fine layout_of
  m5 fs n (tells a_text) fw fine w pk ck = made (Form.r5 (utf8_of w)) (omega arith, omega arith, omega arith) refl pk

  m6 : Makes VARIABLE
  unfolding asks row_of rows look count_by sort_by text_by fine_by fines sort_of sorts groups sort_at numbered times words_of value pick unless method_fine layout_of
  m6 fs n (tells (a_span a_text)) fw fine w pk ck = made (Form.r6 fw.0 (name_of w)) (omega arith, omega arith, omega arith) refl pk

  m7 : Makes ARRAY
  unfolding asks row_of rows look count_by sort_by text_by fine_by fines sort_of sorts groups sort_at numbered times words_of value pick unless method_fine layout_of
  m7 fs n (tells (a_count {m = k} over)) fw fine w pk ck = made (Form.r7 {n = k}) (omega arith, omega arith, omega arith) (append-nil (times k records.expression)) pk

  m8 : Makes ARRAY_COMP
  unfolding asks row_of rows look count_by sort_by text_by fine_by fines sort_of sorts groups sort_at numbered times words_of value pick unless method_fine layout_of
  m8 fs n (tells (a_count {m = k} over)) fw fine w pk ck = m8_by k (leb-true 1 k fine) pk

  m9 : Makes MEMBERS
  unfolding asks row_of rows look count_by sort_by text_by fine_by fines sort_of sorts groups sort_at numbered times words_of value pick unless method_fine layout_of
  m9 fs n (tells (a_count {m = k} over)) fw fine w pk ck = made (Form.r9 {n = k}) (omega arith, omega arith, omega arith) (append-nil (times k records.member)) pk

  m10 : Makes OBJECT_COMP
  unfolding asks row_of rows look count_by sort_by text_by fine_by fines sort_of sorts groups sort_at numbered times words_of value pick unless method_fine layout_of
  m10 fs n (tells (a_count {m = k} (a_count {m = l} over))) fw fine w pk ck = m10_by k l (leb-true 1 l fine) ck

  m11 : Makes EXTENSION
  unfolding asks row_of rows look count_by sort_by text_by fine_by fines sort_of sorts groups sort_at numbered times words_of value pick unless method_fine layout_of
  m11 fs n (tells over) fw fine w pk ck = made (Form.r11) (omega arith, omega arith, omega arith) refl pk

  m12 : Makes PREFIX
  unfolding asks row_of rows look count_by sort_by text_by fine_by fines sort_of sorts groups sort_at numbered times words_of value pick unless method_fine layout_of
  m12 fs n (tells (a_byte {b = o} h over)) fw fine w pk ck = made (Form.r12 {o = o} (omega arith)) (omega arith, omega arith, omega arith) refl pk

  m13 : Makes INFIX
  unfolding asks row_of rows look count_by sort_by text_by fine_by fines sort_of sorts groups sort_at numbered times words_of value pick unless method_fine layout_of
  m13 fs n (tells (a_byte {b = o} h (a_span over))) fw fine w pk ck = made (Form.r13 {o = o} (omega arith) fw.0) (omega arith, omega arith, omega arith) refl pk

  m14 : Makes ASSERT_EXPR
  unfolding asks row_of rows look count_by sort_by text_by fine_by fines sort_of sorts groups sort_at numbered times words_of value pick unless method_fine layout_of
  m14 fs n (tells over) fw fine w pk ck = made (Form.r14) (omega arith, omega arith, omega arith) refl pk

  m15 : Makes LOCAL
  unfolding asks row_of rows look count_by sort_by text_by fine_by fines sort_of sorts groups sort_at numbered times words_of value pick unless method_fine layout_of
  m15 fs n (tells (a_count over)) fw fine w pk ck = made (Form.r15) (omega arith, omega arith, omega arith) refl pk

  m16 : Makes IMPORT
  unfolding asks row_of rows look count_by sort_by text_by fine_by fines sort_of sorts groups sort_at numbered times words_of value pick unless method_fine layout_of
  m16 fs n (tells (a_byte {b = o} h (a_span over))) fw fine w pk ck = made (Form.r16 {o = o} (omega arith) fw.0) (omega arith, omega arith, omega arith) refl pk

  m17 : Makes ERROR
  unfolding asks row_of rows look count_by sort_by text_by fine_by fines sort_of sorts groups sort_at numbered times words_of value pick unless method_fine layout_of
  m17 fs n (tells (a_span over)) fw fine w pk ck = made (Form.r17 fw.0) (omega arith, omega arith, omega arith) refl pk

  m18 : Makes CALL
  unfolding asks row_of rows look count_by sort_by text_by fine_by fines sort_of sorts groups sort_at numbered times words_of value pick unless method_fine layout_of
  m18 fs n (tells (a_span (a_byte {b = t} h (a_count (a_count over))))) fw fine w pk ck = made (Form.r18 {t = t} fw.0 (omega arith)) (omega arith, omega arith, omega arith) refl pk

  m19 : Makes NAMED_ARGUMENT
  unfolding asks row_of rows look count_by sort_by text_by fine_by fines sort_of sorts groups sort_at numbered times words_of value pick unless method_fine layout_of
  m19 fs n (tells a_text) fw fine w pk ck = made (Form.r19 (name_of w)) (omega arith, omega arith, omega arith) refl pk

  m20 : Makes INDEX_PART
  unfolding asks row_of rows look count_by sort_by text_by fine_by fines sort_of sorts groups sort_at numbered times words_of value pick unless method_fine layout_of
  m20 fs n (tells (a_span (a_byte {b = f} h (a_byte {b = s} g over)))) fw fine w pk ck = m20_by f s h g fw.0 pk

  m21 : Makes FUNCTION
  unfolding asks row_of rows look count_by sort_by text_by fine_by fines sort_of sorts groups sort_at numbered times words_of value pick unless method_fine layout_of
  m21 fs n (tells (a_span (a_count over))) fw fine w pk ck = made (Form.r21 fw.0) (omega arith, omega arith, omega arith) refl pk

  m22 : Makes IF
  unfolding asks row_of rows look count_by sort_by text_by fine_by fines sort_of sorts groups sort_at numbered times words_of value pick unless method_fine layout_of
  m22 fs n (tells (a_span (a_flag {b = d} h over))) fw fine w pk ck = m22_by d h fw.0 pk

  m23 : Makes SLICE
  unfolding asks row_of rows look count_by sort_by text_by fine_by fines sort_of sorts groups sort_at numbered times words_of value pick unless method_fine layout_of
  m23 fs n (tells (a_slice {b = b} h (a_span (a_span (a_span over))))) fw fine w pk ck = m23_by b h fw.0 fw.1.0 fw.1.1.0 fine pk

  m24 : Makes BIND
  unfolding asks row_of rows look count_by sort_by text_by fine_by fines sort_of sorts groups sort_at numbered times words_of value pick unless method_fine layout_of
  m24 fs n (tells (a_byte {b = f} h (a_count {m = k} over))) fw fine w pk ck = m24_by f k h fine pk

  m25 : Makes NAME_PATTERN
  unfolding asks row_of rows look count_by sort_by text_by fine_by fines sort_of sorts groups sort_at numbered times words_of value pick unless method_fine layout_of
  m25 fs n (tells (a_span a_text)) fw fine w pk ck = made (Form.r25 fw.0 (name_of w)) (omega arith, omega arith, omega arith) refl pk

  m26 : Makes SKIP
  unfolding asks row_of rows look count_by sort_by text_by fine_by fines sort_of sorts groups sort_at numbered times words_of value pick unless method_fine layout_of
  m26 fs n (tells over) fw fine w pk ck = made (Form.r26) (omega arith, omega arith, omega arith) refl pk

  m27 : Makes ARRAY_PATTERN
  unfolding asks row_of rows look count_by sort_by text_by fine_by fines sort_of sorts groups sort_at numbered times words_of value pick unless method_fine layout_of
  m27 fs n (tells (a_count {m = k} (a_byte {b = r} h (a_count {m = l} (a_text {w = u}))))) fw fine w pk ck = m27_by k r l u h fine w pk

  m28 : Makes OBJECT_PATTERN
  unfolding asks row_of rows look count_by sort_by text_by fine_by fines sort_of sorts groups sort_at numbered times words_of value pick unless method_fine layout_of
  m28 fs n (tells (a_count {m = k} (a_byte {b = r} h (a_text {w = u})))) fw fine w pk ck = m28_by k r u h w pk

  m29 : Makes PATTERN_FIELD
  unfolding asks row_of rows look count_by sort_by text_by fine_by fines sort_of sorts groups sort_at numbered times words_of value pick unless method_fine layout_of
  m29 fs n (tells (a_flag {b = h} i (a_flag {b = d} j (a_span a_text)))) fw fine w pk ck = m29_by h d i j fw.0 fine (name_of w) pk

  m30 : Makes PARAMETER
  unfolding asks row_of rows look count_by sort_by text_by fine_by fines sort_of sorts groups sort_at numbered times words_of value pick unless method_fine layout_of
  m30 fs n (tells (a_flag {b = d} h over)) fw fine w pk ck = m30_by d h pk

  m31 : Makes FIELD
  unfolding asks row_of rows look count_by sort_by text_by fine_by fines sort_of sorts groups sort_at numbered times words_of value pick unless method_fine layout_of
  m31 fs n (tells (a_span (a_byte {b = c} h (a_byte {b = p} i (a_byte {b = m} j (a_count {m = k} (a_byte {b = v} l over))))))) fw fine w pk ck = m31_by c p m k v h i j l fw.0 fine pk

  m32 : Makes ASSERT
  unfolding asks row_of rows look count_by sort_by text_by fine_by fines sort_of sorts groups sort_at numbered times words_of value pick unless method_fine layout_of
  m32 fs n (tells (a_span (a_flag {b = d} h over))) fw fine w pk ck = m32_by d h fw.0 pk

  m33 : Makes FOR
  unfolding asks row_of rows look count_by sort_by text_by fine_by fines sort_of sorts groups sort_at numbered times words_of value pick unless method_fine layout_of
  m33 fs n (tells over) fw fine w pk ck = made (Form.r33) (omega arith, omega arith, omega arith) refl pk

  m34 : Makes IF_CLAUSE
  unfolding asks row_of rows look count_by sort_by text_by fine_by fines sort_of sorts groups sort_at numbered times words_of value pick unless method_fine layout_of
  m34 fs n (tells (a_span over)) fw fine w pk ck = made (Form.r34 fw.0) (omega arith, omega arith, omega arith) refl pk

  m35 : Makes OBJECT_ITERATION
  unfolding asks row_of rows look count_by sort_by text_by fine_by fines sort_of sorts groups sort_at numbered times words_of value pick unless method_fine layout_of
  m35 fs n (tells (a_byte {b = v} h a_text)) fw fine w pk ck = made (Form.r35 {v = v} (omega arith) (name_of w)) (omega arith, omega arith, omega arith) refl pk

  -- EVERY KNOWN TAG.
  pub makes : (tag : ℕ) → (layout_of tag ≡ unknown → ⊥) → Makes tag
  unfolding layout_of layouts
  makes tag known =
      among_rows Makes tag layouts
      (m1, (m2, (m3, (m4, (m5, (m6, (m7, (m8, (m9, (m10, (m11, (m12, (m13, (m14, (m15, (m16, (m17, (m18, (m19, (m20, (m21, (m22, (m23, (m24, (m25, (m26, (m27, (m28, (m29, (m30, (m31, (m32, (m33, (m34, (m35, tt)))))))))))))))))))))))))))))))))))
      known
