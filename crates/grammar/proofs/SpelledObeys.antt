-- What worded lexemes spell obeys the table of records but for spans: greedily, anywhere, or however else phrases may end.
-- Assumes nothing.
use mathlib.Core.Path.{◌≡◌, sym, subst}
use mathlib.Core.List.{List, [], ◌∷◌, ◌++◌, append_assoc}
use Prim.Native.Nat.{ℕ, suc, ◌+◌, ◌≤◌}
use native.Mathlib.Omega.{arith}
use lib.ListN.{length-append}
use Rattle.lexemes.specs.Kinds.{IDENT}
use Rattle.grammar.specs.Tags.{PATTERN_FIELD}
use Rattle.grammar.specs.Trees.{byte, number, span, text, Trees, tree, ◌⊕◌, count}
use Rattle.grammar.specs.Lexemes.{Said, said, Lexeme}
use Rattle.grammar.specs.Words.{NameText, Possible, Worded}
use Rattle.grammar.specs.Spells.{◌is◌saying◌then◌, worded, ◌is◌then◌, lexeme, Unary, Identity, Import, Binary, Open, Spells}
use Rattle.grammar.specs.Spells as spells
use Rattle.grammar.specs.Spells.{Category as C}
use Rattle.grammar.specs.Records.{Sort, Is, Fits, times, Spans, Flag, Has, First, Part, Rest, Name, Method, Form, Obeys}
use Rattle.grammar.proofs.ImageLaws.{row_end}
use Rattle.grammar.proofs.Possible.{a_text, a_name, said_numeral, name_utf8}
use Rattle.grammar.proofs.Sorts.{0≤1, 1≤1, 0≤2, 1≤2, 2≤2, told, times-length, local_member, field_member, assertion_member, name_pattern_fits}
use Rattle.grammar.proofs.Sorts.{iteration_clause, if_clause_clause}
use Rattle.grammar.proofs.Rows.{Are, are, Is-a, are_length, are_append, are_nil, are_as, no_trees, a_record, a_string, string_expression}
use Rattle.grammar.proofs.Rows.{object_is_expression, first-expression, Each, no_more, one_more, Optional, not_there, there, one_more_last}
use Rattle.grammar.proofs.Rows.{all, has}

-- ── Bytes ─────────────────────────────────────────────────────────────────────────────────────────

sign_byte : {k o : ℕ} → Unary k o → o ≤ 3
sign_byte Unary.plus = omega arith
sign_byte Unary.minus = omega arith
sign_byte Unary.bit_not = omega arith
sign_byte Unary.not = omega arith

identity_byte : {k o : ℕ} → Identity k o → o ≤ 2
identity_byte Identity.self = omega arith
identity_byte Identity.super = omega arith
identity_byte Identity.dollar = omega arith

import_byte : {k o : ℕ} → Import k o → o ≤ 2
import_byte Import.import = omega arith
import_byte Import.importstr = omega arith
import_byte Import.importbin = omega arith

operator_byte : {s k l o : ℕ} → Binary s k l o → o ≤ 19
operator_byte Binary.or = omega arith
operator_byte (Binary.coalesce h) = omega arith
operator_byte Binary.and = omega arith
operator_byte Binary.bit_or = omega arith
operator_byte Binary.bit_xor = omega arith
operator_byte Binary.bit_and = omega arith
operator_byte Binary.eq = omega arith
operator_byte Binary.ne = omega arith
operator_byte Binary.lt = omega arith
operator_byte Binary.gt = omega arith
operator_byte Binary.le = omega arith
operator_byte Binary.ge = omega arith
operator_byte Binary.in_object = omega arith
operator_byte Binary.lhs = omega arith
operator_byte Binary.rhs = omega arith
operator_byte Binary.plus = omega arith
operator_byte Binary.minus = omega arith
operator_byte Binary.mul = omega arith
operator_byte Binary.div = omega arith
operator_byte Binary.modulo = omega arith

-- ── Past lexemes ──────────────────────────────────────────────────────────────────────────────────

past : {k : ℕ} {xs ys : List Lexeme} → xs is k then ys → Worded xs → Worded ys
past lexeme (Worded.more p w) = w

said_there : {k : ℕ} {v : Said} {xs ys : List Lexeme} → xs is k saying v then ys → Worded xs → Possible k v × Worded ys
said_there worded (Worded.more p w) = (p, w)

name_there : {v : Said} {xs ys : List Lexeme} → xs is IDENT saying v then ys → Worded xs → NameText (said v) × Worded ys
name_there k w = let p = said_there k w in (a_name p.0 tt, p.1)

module _ {Ends : Open → ℕ → Type 0} where
  flagged : {k b : ℕ} {xs ys : List Lexeme} → spells.Perhaps Ends k b xs ys → Worded xs → Flag b × Worded ys
  flagged (spells.Perhaps.no e) w = (0≤1, w)
  flagged (spells.Perhaps.yes k) w = (1≤1, past k w)

  visible : {v : ℕ} {xs ys : List Lexeme} → spells.Colons Ends v xs ys → Worded xs → (v ≤ 2) × Worded ys
  visible (spells.Colons.one a e) w = (0≤2, past a w)
  visible (spells.Colons.two a b e) w = (1≤2, past b (past a w))
  visible (spells.Colons.three a b c) w = (2≤2, past c (past b (past a w)))

  a_rest : {r : ℕ} {t : List ℕ} {xs ys : List Lexeme} (m : ℕ) → spells.Rest Ends r t xs ys → Worded xs → Rest r m t × Worded ys
  a_rest m (spells.Rest.dropped k e) w = (Rest.dropped, past k w)
  a_rest m (spells.Rest.kept k l) w = let n = name_there l (past k w) in (Rest.kept n.0, n.1)

-- ── Counts ────────────────────────────────────────────────────────────────────────────────────────

-- Clauses are one more than those after the first.
clause_count : (n : ℕ) {cs : Trees} → Are (Sort.iteration ∷ times n Sort.clause) cs → 1 + n ≡ count cs
clause_count n a = let h = are_length a in omega (arith, h, times-length n Sort.clause)

-- Locals around a field.
around : (a b : ℕ) {ls f ms : Trees} → Are (times a Sort.bind) ls → Is-a Sort.field f → Are (times b Sort.bind) ms
    → Are (times a Sort.bind ++ Sort.field ∷ times b Sort.bind) (ls ⊕ f ⊕ ms)
around a b x y z =
    are_as (λ σs f. subst (λ (l : List Sort). Fits σs l) (append_assoc (times a Sort.bind) (Sort.field ∷ []) (times b Sort.bind)) f) (are_append (are_append x y) z)

around_count : (a b : ℕ) {ts : Trees} → Are (times a Sort.bind ++ Sort.field ∷ times b Sort.bind) ts → a + 1 + b ≡ count ts
around_count a b x =
    let h = are_length x in
    omega (arith, h, length-append (times a Sort.bind) (Sort.field ∷ times b Sort.bind), times-length a Sort.bind, times-length b Sort.bind)

-- Nothing more to the right.
with_none : {ws : List Sort} {t : Trees} → Are ws t → Are ws (t ⊕ Trees.none)
with_none {ws} {t} a = subst (λ (u : Trees). Are ws u) (sym (row_end t)) a

-- ── What is claimed of each category ──────────────────────────────────────────────────────────────

abbrev pub Claim : C → Trees → Type 0
Claim (C.expr m) t = Is-a Sort.expression t
Claim (C.operation m) t = Is-a Sort.expression t
Claim C.suffixed t = Is-a Sort.expression t
Claim (C.chain f) t = (σ : Sort) × First f σ × Is-a σ t
Claim C.basic t = Is-a Sort.expression t
Claim C.string t = Is-a Sort.string t
Claim C.object t = Is-a Sort.object t
Claim C.member t = Is-a Sort.member t
Claim C.local t = Is-a Sort.bind t
Claim C.field t = Is-a Sort.field t
Claim C.parameter t = Is-a Sort.param t
Claim C.bind t = Is-a Sort.bind t
Claim C.assertion t = Is-a Sort.assertion t
Claim C.named_argument t = Is-a Sort.named t
Claim C.iteration t = Is-a Sort.iteration t
Claim C.clauses t = (n : ℕ) × Are (Sort.iteration ∷ times n Sort.clause) t
Claim C.pattern t = Is-a Sort.pattern t
Claim C.pattern_field t = Is-a Sort.pattern_field t
Claim (C.name c) t = (σ : Sort) × Name c σ × Is-a σ t
Claim (C.part w b) t = (ws : List Sort) × ((a e : ℕ) → Part Spans.free w b a e ws) × Are ws t
Claim (C.step b) t = (ws : List Sort) × ((a e : ℕ) → Part Spans.free 4 b a e ws) × Are ws t
Claim (C.perhaps k A d) t = Optional (Claim A) d t
Claim (C.each A) t = Each (Claim A) t
Claim (C.row A) t = Each (Claim A) t
Claim (C.more A) t = Each (Claim A) t

module _ {prefix s : ℕ} {Ends : Open → ℕ → Type 0} where
  -- A line for each form.
  spelled : {d : ℕ} {A : C} {xs ys : List Lexeme} {t : Trees} → Spells prefix s Ends d A xs t ys → Worded xs → Claim A t × Worded ys
  unfolding ◌⊕◌ times said
  -- Rows
  spelled Spells.each_none w = (no_more, w)
  spelled (Spells.each_more x y k) w = let a = spelled x w in let b = spelled y a.1 in (one_more a.0 b.0, past k b.1)
  spelled (Spells.row_shut x) w = spelled x w
  spelled (Spells.row_last x y) w = let a = spelled x w in let b = spelled y a.1 in (one_more a.0 b.0, b.1)
  spelled Spells.more_none w = (no_more, w)
  spelled (Spells.more_row k x) w = spelled x (past k w)
  spelled (Spells.perhaps_not e) w = (not_there, w)
  spelled (Spells.perhaps_so k x) w = let a = spelled x (past k w) in (there a.0, a.1)
  -- Operations
  spelled (Spells.whole x e) w = spelled x w
  spelled (Spells.operand x) w = spelled x w
  spelled (Spells.prefixed u k x) w = let a = spelled x (past k w) in (a_record (Form.r12 (sign_byte u)) a.0, a.1)
  spelled (Spells.infixed o le x k y) w =
      let a = spelled x w in
      let b = spelled y (past k a.1) in
      (a_record (Form.r13 (operator_byte o) tt) (are_append a.0 b.0), b.1)
  -- Suffixes
  spelled (Spells.whole_chain x e) w = let a = spelled x w in (first-expression a.0.1 a.0.2, a.1)
  spelled (Spells.bare x) w = let a = spelled x w in ((Sort.expression, First.first, a.0), a.1)
  spelled (Spells.member_of x k l) w =
      let a = spelled x w in
      let n = name_there l (past k a.1) in
      ((Sort.run, First.later, a_record (Form.r20 tt a.0.1 0≤1) (are_append a.0.2 (string_expression (a_string (name_utf8 n.0))))), n.1)
  spelled (Spells.safe_member_of h x k m l) w =
      let a = spelled x w in
      let n = name_there l (past m (past k a.1)) in
      ((Sort.run, First.later, a_record (Form.r20 tt a.0.1 1≤1) (are_append a.0.2 (string_expression (a_string (name_utf8 n.0))))), n.1)
  spelled (Spells.index_of x k y l) w =
      let a = spelled x w in
      let b = spelled y (past k a.1) in
      ((Sort.run, First.later, a_record (Form.r20 tt a.0.1 0≤1) (are_append a.0.2 b.0)), past l b.1)
  spelled (Spells.safe_index_of h x k m n y l) w =
      let a = spelled x w in
      let b = spelled y (past n (past m (past k a.1))) in
      ((Sort.run, First.later, a_record (Form.r20 tt a.0.1 1≤1) (are_append a.0.2 b.0)), past l b.1)
  spelled (Spells.slice_of {i₁ = i₁} {i₂} {i₃} {j₁} {j₂} {j₃} x k p c q r l) w =
      let a = spelled x w in
      let p₁ = spelled p (past k a.1) in
      let p₂ = spelled q (past c p₁.1) in
      let p₃ = spelled r p₂.1 in
      let all-parts = are_append (are_append (are_append (first-expression a.0.1 a.0.2) p₁.0.2) p₂.0.2) p₃.0.2 in
      ((Sort.expression, First.first, a_record (Form.r23 (p₁.0.1 i₁ j₁) (p₂.0.1 i₂ j₂) (p₃.0.1 i₃ j₃)) all-parts), past l p₃.1)
  spelled Spells.part_not w = (([], (λ a e. Part.absent tt), no_trees), w)
  spelled (Spells.part_so x) w = let a = spelled x w in ((_, (λ i j. Part.present tt), a.0), a.1)
  spelled Spells.step_not w = (([], (λ a e. Part.absent tt), no_trees), w)
  spelled (Spells.step_so k x) w = spelled x (past k w)
  spelled (Spells.called {ts = ts} x k y l t) w =
      let a = spelled x w in
      let b = spelled y (past k a.1) in
      let f = flagged t (past l b.1) in (
        (
          Sort.expression,
          First.first,
          a_record (Form.r18 {u = count ts} {n = 0} tt f.0)
              (are_nil (are_append (first-expression a.0.1 a.0.2) (all Sort.expression b.0))),
        ),
        f.1,
      )
  spelled (Spells.called_by_name {ts = ts} {ns = ns} x k y z l t) w =
      let a = spelled x w in
      let b = spelled y (past k a.1) in
      let c = spelled z b.1 in
      let f = flagged t (past l c.1) in
      let kids = are_append (are_append (first-expression a.0.1 a.0.2) (all Sort.expression b.0)) (all Sort.named c.0) in
      ((Sort.expression, First.first, a_record (Form.r18 {u = count ts} {n = count ns} tt f.0) kids), f.1)
  spelled (Spells.an_argument l k x) w = let n = name_there l w in let a = spelled x (past k n.1) in (a_record (Form.r19 n.0) a.0, a.1)
  spelled (Spells.extended x y) w =
      let a = spelled x w in
      let b = spelled y a.1 in
      ((Sort.expression, First.first, a_record Form.r11 (are_append (first-expression a.0.1 a.0.2) b.0)), b.1)
  -- 1 to 8
  spelled (Spells.identity i k) w = (a_record (Form.r1 (identity_byte i) tt) no_trees, past k w)
  spelled (Spells.null k) w = (a_record Form.r2 no_trees, past k w)
  spelled (Spells.true k) w = (a_record (Form.r3 1≤1) no_trees, past k w)
  spelled (Spells.false k) w = (a_record (Form.r3 0≤1) no_trees, past k w)
  spelled (Spells.numeral l) w = let p = said_there l w in (a_record (Form.r4 (said_numeral p.0 tt)) no_trees, p.1)
  spelled (Spells.literal x) w = let a = spelled x w in (string_expression a.0, a.1)
  spelled (Spells.quoted q l) w = let p = said_there l w in (a_string (a_text p.0), p.1)
  spelled (Spells.variable l) w = let n = name_there l w in (a_record (Form.r6 tt n.0) no_trees, n.1)
  spelled (Spells.parens k x l) w = let a = spelled x (past k w) in (a.0, past l a.1)
  spelled (Spells.array k x l) w = let a = spelled x (past k w) in (a_record Form.r7 (all Sort.expression a.0), past l a.1)
  spelled (Spells.array_comprehension {cs = cs} k x p y l) w =
      let a = spelled x (past k w) in
      let f = flagged p a.1 in
      let b = spelled y f.1 in (
        a_record (told (λ m. number m ∷ []) (1 + b.0.0) (count cs) (clause_count b.0.0 b.0.1) (Form.r8 b.0.0))
            (are_append a.0 b.0.1),
        past l b.1,
      )
  spelled (Spells.an_object x) w = let a = spelled x w in (object_is_expression a.0, a.1)
  -- 14 to 17, 21 and 22
  spelled (Spells.assert x k y) w = let a = spelled x w in let b = spelled y (past k a.1) in (a_record Form.r14 (are_append a.0 b.0), b.1)
  spelled (Spells.locals k x l y) w =
      let a = spelled x (past k w) in
      let b = spelled y (past l a.1) in
      (a_record Form.r15 (are_append (all Sort.bind a.0) b.0), b.1)
  spelled (Spells.import i k x) w = let a = spelled x (past k w) in (a_record (Form.r16 (import_byte i) tt) a.0, a.1)
  spelled (Spells.error k x) w = let a = spelled x (past k w) in (a_record (Form.r17 tt) a.0, a.1)
  spelled (Spells.function k l x m y) w =
      let a = spelled x (past l (past k w)) in
      let b = spelled y (past m a.1) in
      (a_record (Form.r21 tt) (are_append (all Sort.param a.0) b.0), b.1)
  spelled (Spells.if k x l y z) w =
      let a = spelled x (past k w) in
      let b = spelled y (past l a.1) in
      let c = spelled z b.1 in
      let h = has c.0 in
      (a_record (Form.r22 tt h.1) (are_append (are_append a.0 b.0) h.2), c.1)
  -- Objects
  spelled (Spells.members k x l) w = let a = spelled x (past k w) in (a_record Form.r9 (all Sort.member a.0), past l a.1)
  spelled (Spells.object_comprehension {ls = ls} {f = f} {ms = ms} {cs = cs} k x y z q l) w =
      let a = spelled x (past k w) in
      let b = spelled y a.1 in
      let c = spelled z b.1 in
      let d = spelled q c.1 in
      let m = around (count ls) (count ms) (all Sort.bind a.0) b.0 (all Sort.bind c.0) in
      let form = told (λ i. number (count (ls ⊕ f ⊕ ms)) ∷ number i ∷ []) (1 + d.0.0) (count cs) (clause_count d.0.0 d.0.1)
      (told (λ i. number i ∷ number (1 + d.0.0) ∷ []) (count ls + 1 + count ms) (count (ls ⊕ f ⊕ ms)) (around_count (count ls) (count ms) m)
      (Form.r10 (count ls) (count ms) d.0.0)) in
      (a_record form (are_append m d.0.1), past l d.1)
  spelled (Spells.a_local k x) w = spelled x (past k w)
  spelled (Spells.local_member x) w = let a = spelled x w in (are_as (λ σs f. local_member f) a.0, a.1)
  spelled (Spells.assert_member x) w = let a = spelled x w in (are_as (λ σs f. assertion_member f) a.0, a.1)
  spelled (Spells.field_member x) w = let a = spelled x w in (are_as (λ σs f. field_member f) a.0, a.1)
  spelled (Spells.bind_value x k y) w = let a = spelled x w in let b = spelled y (past k a.1) in (a_record Form.r24_value (are_append a.0 b.0), b.1)
  spelled (Spells.bind_function n k x l m y) w =
      let h = name_there n w in
      let a = spelled x (past k h.1) in
      let b = spelled y (past m (past l a.1)) in
      (a_record Form.r24_function (are_append (a_record (Form.r25 tt h.0) no_trees) (are_append (all Sort.param a.0) b.0)), b.1)
  spelled (Spells.a_field x p c y) w =
      let a = spelled x w in
      let f = flagged p a.1 in
      let v = visible c f.1 in
      let b = spelled y v.1 in
      (a_record (Form.r31 {n = 0} tt a.0.1 (Method.value f.0) v.0) (are_append a.0.2 b.0), b.1)
  spelled (Spells.a_method {ps = ps} x k y l c z) w =
      let a = spelled x w in
      let b = spelled y (past k a.1) in
      let v = visible c (past l b.1) in
      let d = spelled z v.1 in
      (a_record (Form.r31 {n = count ps} tt a.0.1 Method.method v.0) (are_append (are_append a.0.2 (all Sort.param b.0)) d.0), d.1)
  spelled (Spells.name_word l) w = let n = name_there l w in ((Sort.string, Name.fixed, a_string (name_utf8 n.0)), n.1)
  spelled (Spells.name_literal x) w = let a = spelled x w in ((Sort.string, Name.fixed, a.0), a.1)
  spelled (Spells.name_computed k x l) w = let a = spelled x (past k w) in ((Sort.expression, Name.computed, a.0), past l a.1)
  spelled (Spells.asserted k x y) w =
      let a = spelled x (past k w) in
      let b = spelled y a.1 in
      let h = has b.0 in
      (a_record (Form.r32 tt h.1) (are_append a.0 h.2), b.1)
  spelled (Spells.a_parameter x y) w =
      let a = spelled x w in
      let b = spelled y a.1 in
      let h = has b.0 in
      (a_record (Form.r30 h.1) (are_append a.0 h.2), b.1)
  -- Clauses
  spelled (Spells.first_clause k x) w = let a = spelled x (past k w) in ((0, a.0), a.1)
  spelled (Spells.for_clause x k y) w =
      let a = spelled x w in
      let b = spelled y (past k a.1) in
      ((suc a.0.0, one_more_last a.0.0 Sort.clause (Sort.iteration ∷ []) a.0.1 (are_as (λ σs f. iteration_clause f) b.0)), b.1)
  spelled (Spells.if_clause i j x k y) w =
      let a = spelled x w in
      let b = spelled y (past k a.1) in (
        (
          suc a.0.0,
          one_more_last a.0.0 Sort.clause (Sort.iteration ∷ []) a.0.1
              (are_as (λ σs f. if_clause_clause f) (a_record (Form.r34 tt) b.0)),
        ),
        b.1,
      )
  spelled (Spells.each_of x k y) w = let a = spelled x w in let b = spelled y (past k a.1) in (a_record Form.r33 (are_append a.0 b.0), b.1)
  spelled (Spells.each_field_of h k n l c x m y) w =
      let i = name_there n (past k w) in
      let v = visible c (past l i.1) in
      let a = spelled x v.1 in
      let b = spelled y (past m a.1) in
      (a_record (Form.r35 v.0 i.0) (are_append a.0 b.0), b.1)
  -- Patterns
  spelled (Spells.name_pattern l) w = let n = name_there l w in (are_as (λ σs f. name_pattern_fits f) (a_record (Form.r25 tt n.0) no_trees), n.1)
  spelled (Spells.skip h k) w = (a_record Form.r26 no_trees, past k w)
  spelled (Spells.array_pattern {ps = ps} h k x l) w =
      let a = spelled x (past k w) in
      (a_record (Form.r27 {n = count ps} {m = 0} Rest.whole) (are_nil (all Sort.pattern a.0)), past l a.1)
  spelled (Spells.array_pattern_rest {qs = qs} h k x r y l) w =
      let a = spelled x (past k w) in
      let t = a_rest (count qs) r a.1 in
      let b = spelled y t.1 in
      (a_record (Form.r27 t.0) (are_append (all Sort.pattern a.0) (all Sort.pattern b.0)), past l b.1)
  spelled (Spells.object_pattern h k x l) w = let a = spelled x (past k w) in (a_record (Form.r28 Rest.whole) (all Sort.pattern_field a.0), past l a.1)
  spelled (Spells.object_pattern_rest h k x r p l) w =
      let a = spelled x (past k w) in
      let t = a_rest 0 r a.1 in
      let f = flagged p t.1 in
      (a_record (Form.r28 t.0) (all Sort.pattern_field a.0), past l f.1)
  spelled (Spells.a_pattern_field n x y) w =
      let i = name_there n w in
      let a = spelled x i.1 in
      let b = spelled y a.1 in
      (field_of i.0 (has a.0) b.0, b.1)
    where
      field_of : {h d a e : ℕ} {p t : Trees} {v : List ℕ} → NameText v → (ws : List Sort) × Has Sort.pattern h ws × Are ws p → Optional (Is-a Sort.expression) d t
          → Is-a Sort.pattern_field (tree PATTERN_FIELD (byte h ∷ byte d ∷ span a e ∷ text v ∷ []) (p ⊕ t))
      field_of i x not_there = a_record (Form.r29_bare x.1 tt i) (with_none x.2)
      field_of i x (there b) = a_record (Form.r29_default x.1 tt i) (are_append x.2 b)

-- An expression by the table, whatever its spans.
abbrev pub Expression : Trees → Type 0
Expression t = (σ : Sort) × Is σ Sort.expression × Obeys Spans.free (σ ∷ []) t

-- WHAT WORDED LEXEMES SPELL OBEYS THE TABLE BUT FOR SPANS; it is an expression.
pub spelled_obeys : {prefix s d : ℕ} {Ends : Open → ℕ → Type 0} {xs ys : List Lexeme} {t : Trees} → Worded xs → Spells prefix s Ends d (C.expr 0) xs t ys
    → Expression t
spelled_obeys w x = lone (spelled x w).0
  where
    lone : {t : Trees} → Is-a Sort.expression t → Expression t
    lone (are (Fits.more i Fits.none) o) = (_, i, o)
