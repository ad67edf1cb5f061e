-- Each production keeps to what its phrase has at its start and at its end (Shapes.antt): a line for each phrase.
-- Assumes nothing.
use mathlib.Core.Path.{◌≡◌, refl, sym, subst}
use mathlib.Core.Bool.{Bool, true, false, ◌&&◌, ◌||◌}
use mathlib.Core.List.{List, [], ◌∷◌, ◌++◌}
use Prim.Native.Nat.{ℕ, suc, ◌+◌, ◌-◌, ◌≤◌}
use native.Mathlib.Omega.{arith}
use lib.Dec.{T, leb, leb→le, eqb, eqb→eq}
use lib.ListN.{length, length-append}
use Rattle.grammar.specs.Tags.{OBJECT_COMP, BIND, FIELD}
use Rattle.grammar.specs.Trees.{Field, byte, number, span, text}
use Rattle.lexemes.specs.Kinds.{L_BRACK, R_BRACK, COLON, FLOAT, IDENT, STRING_DOUBLE, STRING_SINGLE, STRING_DOUBLE_VERBATIM, STRING_SINGLE_VERBATIM, STRING_BLOCK}
use Rattle.grammar.specs.Lexemes.{good, said}
use Rattle.grammar.specs.Productions.{Phrase, goto, ◌▸◌, sub, View, four_are, is_string, with_field, with_member, rule, Sign, sign, signs, sign_rows, Operator, op, operators}
use Rattle.grammar.specs.Productions.{operator_rows, expr, infix_tail, suffixed, suffix, null_safe, null_safe_index, bracket, member_name}
use Rattle.grammar.specs.Productions.{null_safe_end, index_or_slice, slice_end, slice_ended, slice_step, slice_stepped, arguments, argument}
use Rattle.grammar.specs.Productions.{argument_end, call_close, call_end, named_argument, basic, string, array, array_first, array_comp}
use Rattle.grammar.specs.Productions.{array_comp_end, elements, next_element, inside, member, members, next_member, comprehension}
use Rattle.grammar.specs.Productions.{comprehension_end, field, field_named, field_value, params, params_end, param, param_default, binds}
use Rattle.grammar.specs.Productions.{binds_end, local_body, bind, bind_named, bind_function, else_part, function_body, assertion, condition}
use Rattle.grammar.specs.Productions.{asserted, clauses, more_clauses, for_clause, header, if_clause, iteration, iteration_value, pattern}
use Rattle.grammar.specs.Productions.{array_pattern, pattern_starts, pattern_starts_end, array_rest, array_rest_end, pattern_ends}
use Rattle.grammar.specs.Productions.{pattern_ends_end, array_pattern_close, object_pattern, pattern_fields, pattern_fields_end, object_rest}
use Rattle.grammar.specs.Productions.{object_rest_end, object_pattern_close, pattern_field, pattern_into, pattern_default, default_value}
use Rattle.grammar.specs.Productions.{default_end}
use Rattle.grammar.specs.Words.{NameText, Possible}
use Rattle.grammar.specs.Records.{Sort, Spans, Fits, times, Has, First, Part, Rest, Name, Method, Form}
use Rattle.grammar.proofs.Tables.{moves}
use Rattle.grammar.proofs.Chosen.{and_left, and_right}
use Rattle.grammar.proofs.Possible.{is_kind, a_name, a_numeral, a_text}
use Rattle.grammar.proofs.Sorts.{0≤1, 0≤2, 1≤1, 1≤2, 2≤2, Members, bind_from, assertion_from, field_from, add_named, add_unnamed, all_members}
use Rattle.grammar.proofs.Sorts.{as_expression, count-times, first_fits, fits_append, fits_last, fits-length, fits_nil, fits-times}
use Rattle.grammar.proofs.Sorts.{if_clause_clause, iteration_clause, name_pattern_fits, object-expression, one, no_part, open_rest, slice_form}
use Rattle.grammar.proofs.Sorts.{times-length, told, no_field, one_field, dropped, kept}
use Rattle.grammar.proofs.Shapes.{◌also◌, Indexing, Many, exit, After, AfterFrom, Before, Keeps, KeepsAt, KeepsAll}

unfoldable pub small_signs : List Sign → Bool
small_signs [] = true
small_signs (sign k o ∷ rest) = leb o 3 && small_signs rest

unfoldable pub small_operators : List Operator → Bool
small_operators [] = true
small_operators (op k g l r o ∷ rest) = leb o 19 && small_operators rest

either : {C : Type 0} (a b : Bool) → T (a || b) → (T a → C) → (T b → C) → C
either true b h f g = f tt
either false b h f g = g h

small : (o n : ℕ) (b : Bool) → T (leb o n && b) → o ≤ n
small o n b h = leb→le o n (and_left (leb o n) b h)

-- Suffixes after an expression, and after an index part.
afresh : {low : ℕ} (p : ℕ) → low ≤ p → Indexing 1 (Sort.expression ∷ [])
afresh p le = (Sort.expression, First.first, one)

onward : {low : ℕ} (p : ℕ) → low ≤ p → Indexing 0 (Sort.run ∷ [])
onward p le = (Sort.run, First.later, one)

module _ (prefix : ℕ) where
  sign_keeps : (least : ℕ) (v : View) (σs : List Sort) → Fits σs [] → (xs : List Sign) → T (small_signs xs)
      → KeepsAll v.kind v.before v.stop (AfterFrom v.kind (expr least)) σs (sign_rows prefix least v xs)
  unfolding Keeps KeepsAt KeepsAll Before exit sign_rows small_signs moves
  sign_keeps least v σs f [] h = ((λ p le. Fits.none), (λ τs x. ((λ p le. fits_append f x), (λ τs y. y))))
  sign_keeps least v σs f (sign k o ∷ rest) h =
      (λ t. ((λ p le. Fits.none), (λ τs x. (Sort.expression, _, Form.r12 (small o 3 (small_signs rest) h), fits_append f x, ((λ p le. one), (λ τs y. y)))))) also
      sign_keeps least v σs f rest (and_right (leb o 3) (small_signs rest) h)

  operator_keeps : (least : ℕ) (v : View) → v.start ≤ v.stop → (σs : List Sort) → Fits σs (Sort.expression ∷ []) → (xs : List Operator) → T (small_operators xs)
      → KeepsAll v.kind v.before v.stop (AfterFrom v.kind (infix_tail least)) σs (operator_rows least v xs)
  unfolding Keeps KeepsAt KeepsAll Before exit operator_rows small_operators moves
  operator_keeps least v z σs f [] h = f
  operator_keeps least v z σs f (op k g l r o ∷ rest) h =
      (λ t. ((λ p le. Fits.none), (λ τs x. (Sort.expression, _, Form.r13 (small o 19 (small_operators rest) h) z, fits_append f x, ((λ p le. one), (λ τs y. y)))))) also
      operator_keeps least v z σs f rest (and_right (leb o 19) (small_operators rest) h)

  -- At a view whose ranges go forward and whose texts are possible, with the sorts σs, as many as there are trees.
  module _ (v : View) (σs : List Sort) (o : (v.before ≤ v.start) × (v.start ≤ v.stop)) (len : length σs ≡ v.count)
      (w : Possible v.kind v.says) (w₁ : Possible v.kind₁ v.says₁) where
    -- How many locals and fields there are, in an object comprehension.
    around : (a b : ℕ) → Fits σs (times a Sort.bind ++ Sort.field ∷ times b Sort.bind) → a + 1 + b ≡ v.count
    around a b f =
        omega (arith, len, fits-length f, length-append (times a Sort.bind) (Sort.field ∷ times b Sort.bind), times-length a Sort.bind, times-length b Sort.bind)

    -- A record that tells how many there are.
    counted : (σ : Sort) (fields : ℕ → List Field) {ρ : Sort} {tag : ℕ} {ws : List Sort} (b : Many σ σs)
        → Form Spans.forward ρ tag (fields b.0) ws → Form Spans.forward ρ tag (fields v.count) ws
    counted σ fields b f = told fields b.0 v.count (count-times σ b.0 v.count len b.1) f

    -- How many stand behind a first one; how many clauses behind an element; how many patterns behind the first n.
    behind : (ρ σ : Sort) (n : ℕ) → Fits σs (ρ ∷ times n σ) → n ≡ v.count - 1
    behind ρ σ n f = omega (arith, len, fits-length f, times-length n σ)

    clausal : (n : ℕ) → Fits σs (Sort.expression ∷ Sort.iteration ∷ times n Sort.clause) → 1 + n ≡ v.count - 1
    clausal n f = omega (arith, len, fits-length f, times-length n Sort.clause)

    ends : (n m : ℕ) → Fits σs (times n Sort.pattern ++ times m Sort.pattern) → m ≡ v.count - n
    ends n m f =
        omega (arith, len, fits-length f, length-append (times n Sort.pattern) (times m Sort.pattern), times-length n Sort.pattern, times-length m Sort.pattern)

    every_pattern : Many Sort.pattern σs → Fits σs (times v.count Sort.pattern)
    every_pattern b = fits-times Sort.pattern b.0 v.count (count-times Sort.pattern b.0 v.count len b.1) b.1

    -- A field and a function's bind of so many parameters; an object comprehension of m members.
    field_form : {i j c p m n u : ℕ} {σ : Sort} → Name c σ → Method p m n → i ≤ j → u ≤ 2 → Fits σs (σ ∷ times n Sort.param)
        → Form Spans.forward Sort.field FIELD (span i j ∷ byte c ∷ byte p ∷ byte m ∷ number (v.count - 1) ∷ byte u ∷ [])
        (σ ∷ times n Sort.param ++ Sort.expression ∷ [])
    field_form {i} {j} {c} {p} {m} {n} {u} {σ} x y le h f =
        told (λ k. span i j ∷ byte c ∷ byte p ∷ byte m ∷ number k ∷ byte u ∷ []) n (v.count - 1) (behind σ Sort.param n f) (Form.r31 le x y h)

    bind_form : (n : ℕ) → Fits σs (Sort.name_pattern ∷ times n Sort.param)
        → Form Spans.forward Sort.bind BIND (byte 1 ∷ number (v.count - 1) ∷ []) (Sort.name_pattern ∷ times n Sort.param ++ Sort.expression ∷ [])
    bind_form n f = told (λ m. byte 1 ∷ number m ∷ []) n (v.count - 1) (behind Sort.name_pattern Sort.param n f) Form.r24_function

    comprehension_form : (a b n m : ℕ) → a + 1 + b ≡ m
        → Fits σs ((times a Sort.bind ++ Sort.field ∷ times b Sort.bind) ++ Sort.iteration ∷ times n Sort.clause)
        → Form Spans.forward Sort.object OBJECT_COMP (number m ∷ number (v.count - m) ∷ [])
        ((times a Sort.bind ++ Sort.field ∷ times b Sort.bind) ++ Sort.iteration ∷ times n Sort.clause)
    comprehension_form a b n m e f =
        told (λ k. number m ∷ number k ∷ []) (1 + n) (v.count - m) all (told (λ k. number k ∷ number (1 + n) ∷ []) (a + 1 + b) m e (Form.r10 a b n))
      where
        locals : length (times a Sort.bind ++ Sort.field ∷ times b Sort.bind) ≡ a + 1 + b
        locals = omega (arith, length-append (times a Sort.bind) (Sort.field ∷ times b Sort.bind), times-length a Sort.bind, times-length b Sort.bind)

        all : 1 + n ≡ v.count - m
        all =
            omega (
              arith,
              len,
              e,
              fits-length f,
              locals,
              times-length n Sort.clause,
              length-append (times a Sort.bind ++ Sort.field ∷ times b Sort.bind) (Sort.iteration ∷ times n Sort.clause),
            )

    -- A comprehension of members that have no fault.
    comprehend : Members 0 σs → Keeps v.before v.stop (After (comprehension 0)) σs (sub clauses ▸ goto (comprehension_end v.count))
    unfolding Keeps Before exit moves
    comprehend (one_field a b f) =
        ((λ p le. Fits.none), (λ τs x. ((λ p le. (a, b, x.0, around a b f, fits_append f x.1)), (λ τs y. y))))

    -- Of the four lexemes `[`, a name, `]`, `:`, the second.
    key_name : T (four_are v L_BRACK IDENT R_BRACK COLON) → NameText (said v.says₁)
    key_name t =
        let a = eqb v.kind L_BRACK in
        let b = eqb v.kind₁ IDENT in
        let c = eqb v.kind₂ R_BRACK in
        a_name w₁ (and_right a b (and_left (a && b) c (and_left (a && b && c) (eqb v.kind₃ COLON) t)))

    -- What a field begins with is neither `local` nor `assert`.
    field_kind : (k : ℕ) → ((c : ℕ) → with_member c k ≡ with_field c) → T (eqb v.kind k) → (c : ℕ) → with_member c v.kind ≡ with_field c
    field_kind k e t c = subst (λ (j : ℕ). with_member c j ≡ with_field c) (sym (eqb→eq v.kind k t)) (e c)

    string_kind : T (is_string v) → (c : ℕ) → with_member c v.kind ≡ with_field c
    unfolding with_member
    string_kind t =
        let k = v.kind in
        let a = eqb k STRING_DOUBLE in
        let b = eqb k STRING_SINGLE in
        let d = eqb k STRING_DOUBLE_VERBATIM in
        let e = eqb k STRING_SINGLE_VERBATIM in
        either (a || b || d || e) (eqb k STRING_BLOCK) t
        (λ t. either (a || b || d) e t
        (λ t. either (a || b) d t
        (λ t. either a b t (field_kind STRING_DOUBLE (λ c. refl)) (field_kind STRING_SINGLE (λ c. refl)))
        (field_kind STRING_DOUBLE_VERBATIM (λ c. refl))) (field_kind STRING_SINGLE_VERBATIM (λ c. refl))) (field_kind STRING_BLOCK (λ c. refl))

    abbrev pub Kept : Phrase → Type 0
    Kept q = Before q v.before σs → KeepsAll v.kind v.before v.stop (AfterFrom v.kind q) σs (rule prefix q v)

    pub keeps : (q : Phrase) → Kept q
    unfolding rule signs operators Keeps KeepsAt KeepsAll Before exit moves times small_signs small_operators with_member
    keeps (expr a) f =
        sign_keeps a v σs f signs tt
    keeps (infix_tail a) f =
        operator_keeps a v o.1 σs f operators tt
    keeps suffixed f =
        ((λ p le. Fits.none), (λ τs x. ((λ p le. (Sort.expression, First.first, fits_append f x)), (λ τs y. y))))
    keeps (suffix a) b =
        (λ t. ((λ p le. b), (λ τs y. y))) also
        (λ t. ((λ p le. (b.0, b.1, 0≤1, b.2)), (λ τs y. y))) also
        (λ t. ((λ p le. b), (λ τs y. y))) also
        (λ t. ((λ p le. (omega arith, first_fits b.1 b.2)), (λ τs y. y))) also
        (λ t. ((λ p le. Fits.none), (λ τs x. (Sort.expression, _, Form.r11, fits_append (first_fits b.1 b.2) x, (afresh, (λ τs y. y)))))) also
        first_fits b.1 b.2
    keeps (null_safe a) b =
        (λ t. ((λ p le. b), (λ τs y. y))) also
        ((λ p le. (b.0, b.1, 1≤1, b.2)), (λ τs y. y))
    keeps (null_safe_index a) b =
        ((λ p le. Fits.none), (λ τs x. ((λ p le. (b.0, b.1, omega arith, fits_append b.2 x)), (λ τs y. y))))
    keeps (bracket a) b =
        (λ t. ((λ p le. ([], no_part, first_fits b.1 b.2)), (λ τs y. y))) also
        ((λ p le. Fits.none), (λ τs x. ((λ p le. (b.0, b.1, omega arith, fits_append b.2 x)), (λ τs y. y))))
    keeps (member_name a c) b =
        (λ t. (Sort.string, Form.r5 (a_text w), (Sort.run, _, Form.r20 o.1 b.1 b.2, fits_append b.3 (as_expression one), (onward, (λ τs y. y))))) also
        tt
    keeps (null_safe_end a c) b =
        (λ e. (Sort.run, _, Form.r20 b.2 b.1 1≤1, b.3, (onward, (λ τs y. y))))
    keeps (index_or_slice a c) b =
        (λ t. ((λ p le. (_, Part.present b.2, first_fits b.1 b.3)), (λ τs y. y))) also
        (λ e. (Sort.run, _, Form.r20 b.2 b.1 0≤1, b.3, (onward, (λ τs y. y))))
    keeps (slice_end c i j) b =
        (λ t. ((λ p le. (c, 0, b.0, [], b.1, no_part, omega arith, fits_nil b.2)), (λ τs y. y))) also
        (λ t. (Sort.expression, _, slice_form c b.1 no_part no_part (omega arith), fits_nil (fits_nil b.2), (afresh, (λ τs y. y)))) also
        ((λ p le. Fits.none), (λ τs x. ((λ p le. (b.0, b.1, omega arith, fits_append b.2 x)), (λ τs y. y))))
    keeps (slice_ended c i j a) b =
        (λ t. ((λ p le. (c, 2, b.0, _, b.1, Part.present b.2, refl, b.3)), (λ τs y. y))) also
        (λ e. (Sort.expression, _, slice_form (c + 2) b.1 (Part.present b.2) no_part (omega arith), fits_nil b.3, (afresh, (λ τs y. y))))
    keeps (slice_step c i j m l) b =
        (λ t. (Sort.expression, _, slice_form c b.4 b.5 no_part (omega (arith, b.6)), fits_nil b.7, (afresh, (λ τs y. y)))) also
        ((λ p le. Fits.none), (λ τs x. ((λ p le. (b.0, b.1, b.2, b.3, b.4, b.5, b.6, omega arith, fits_append b.7 x)), (λ τs y. y))))
    keeps (slice_stepped c i j m l a) b =
        (λ e. (Sort.expression, _, slice_form (c + 4) b.4 b.5 (Part.present b.7) (omega (arith, b.6)), b.8, (afresh, (λ τs y. y))))
    keeps (arguments a u n) b =
        (λ t. ((λ p le. (omega (arith, b.0), b.1)), (λ τs y. y))) also
        ((λ p le. (omega (arith, b.0), b.1)), (λ τs y. y))
    keeps (argument a u n) b =
        (λ t. ((λ p le. Fits.none), (λ τs x. ((λ p le. (omega (arith, b.0), add_named u n b.1 x)), (λ τs y. y))))) also
        (λ t. ((λ p le. Fits.none), (λ τs x. ((λ p le. (omega (arith, b.0), add_unnamed u n (eqb→eq n 0 t) b.1 x)), (λ τs y. y))))) also
        tt
    keeps (argument_end a u n) b =
        (λ t. ((λ p le. (omega (arith, b.0), b.1)), (λ τs y. y))) also
        ((λ p le. (omega (arith, b.0), b.1)), (λ τs y. y))
    keeps (call_close a u n) b =
        (λ e. ((λ p le. (omega (arith, b.0), b.1)), (λ τs y. y)))
    keeps (call_end a u n) b =
        (λ t. (Sort.expression, _, Form.r18 b.0 1≤1, b.1, (afresh, (λ τs y. y)))) also
        (Sort.expression, _, Form.r18 b.0 0≤1, b.1, (afresh, (λ τs y. y)))
    keeps named_argument f =
        (λ e. ((λ p le. Fits.none), (λ τs x. (Sort.named, _, Form.r19 (a_name w (is_kind e)), fits_append f x, one))))
    keeps basic f =
        (λ t. (Sort.expression, Form.r1 0≤2 o.1, fits_append f one)) also
        (λ t. (Sort.expression, Form.r1 1≤2 o.1, fits_append f one)) also
        (λ t. (Sort.expression, Form.r1 2≤2 o.1, fits_append f one)) also
        (λ t. (Sort.expression, Form.r2, fits_append f one)) also
        (λ t. (Sort.expression, Form.r3 1≤1, fits_append f one)) also
        (λ t. (Sort.expression, Form.r3 0≤1, fits_append f one)) also
        (λ t. ((λ p le. f), (λ τs y. as_expression y))) also
        (λ t. (Sort.expression, Form.r4 (a_numeral w (and_left (eqb v.kind FLOAT) (good v.says) t) (and_right (eqb v.kind FLOAT) (good v.says) t)), fits_append f one)) also
        (λ t. tt) also
        (λ t. ((λ p le. Fits.none), (λ τs x. fits_append f x))) also
        (λ t. ((λ p le. f), (λ τs y. y))) also
        (λ t. ((λ p le. Fits.none), (λ τs x. fits_append f (object-expression x)))) also
        (λ t. ((λ p le. (0, f)), (λ τs y. y))) also
        (λ t. ((λ p le. Fits.none), (λ τs x. ((λ p le. Fits.none), (λ τs y. ((λ p le. (o.1, fits_append (fits_append f x) y)), (λ τs z. z))))))) also
        (λ t. ((λ p le. (0, Fits.none)), (λ τs x. ((λ p le. (o.1, (x.0, fits_append f x.1))), (λ τs y. y))))) also
        (λ t. ((λ p le. Fits.none), (λ τs x. ((λ p le. Fits.none), (λ τs y. (Sort.expression, _, Form.r14, fits_append (fits_append f x) y, one)))))) also
        (λ t. ((λ p le. Fits.none), (λ τs x. (Sort.expression, _, Form.r17 o.1, fits_append f x, one)))) also
        (λ t. ((λ p le. Fits.none), (λ τs x. (Sort.expression, _, Form.r16 1≤2 o.1, fits_append f x, one)))) also
        (λ t. ((λ p le. Fits.none), (λ τs x. (Sort.expression, _, Form.r16 2≤2 o.1, fits_append f x, one)))) also
        (λ t. ((λ p le. Fits.none), (λ τs x. (Sort.expression, _, Form.r16 0≤2 o.1, fits_append f x, one)))) also
        (λ t. (Sort.expression, Form.r6 o.1 (a_name w t), fits_append f one)) also
        tt
    keeps string f =
        (λ t. (Sort.string, Form.r5 (a_text w), fits_append f one)) also
        tt
    keeps array f =
        (λ t. (Sort.expression, _, Form.r7, f, one)) also
        ((λ p le. Fits.none), (λ τs x. ((λ p le. fits_append f x), (λ τs y. y))))
    keeps array_first f =
        (λ t. ((λ p le. f), (λ τs y. y))) also
        (λ t. ((λ p le. f), (λ τs y. y))) also
        ((λ p le. (1, f)), (λ τs y. y))
    keeps array_comp f =
        ((λ p le. Fits.none), (λ τs x. ((λ p le. (x.0, fits_append f x.1)), (λ τs y. y))))
    keeps array_comp_end b =
        (λ e. (Sort.expression, _, told (λ m. number m ∷ []) (1 + b.0) (v.count - 1) (clausal b.0 b.1) (Form.r8 b.0), b.1, one))
    keeps elements b =
        (λ t. ((λ p le. b), (λ τs y. y))) also
        (λ e. (Sort.expression, _, counted Sort.expression (λ m. number m ∷ []) b Form.r7, b.1, one))
    keeps next_element b =
        (λ t. (Sort.expression, _, counted Sort.expression (λ m. number m ∷ []) b Form.r7, b.1, one)) also
        ((λ p le. Fits.none), (λ τs x. ((λ p le. (suc b.0, fits_last b.0 Sort.expression [] b.1 x)), (λ τs y. y))))
    keeps inside f =
        (λ t. (Sort.object, _, Form.r9, f, one)) also
        ((λ p le. Fits.none), (λ τs x. ((λ p le. x.adds 4 σs (no_field 0 f)), (λ τs y. y))))
    keeps member f =
        (λ t. ((λ p le. Fits.none), (λ τs x. bind_from t (fits_append f x)))) also
        (λ t. ((λ p le. Fits.none), (λ τs x. assertion_from t (fits_append f x)))) also
        ((λ p le. Fits.none), (λ τs x. field_from x.0 (fits_append f x.1)))
    keeps (members c) b =
        (λ t. ((λ p le. b), (λ τs y. y))) also
        (λ t. ((λ p le. b), (λ τs y. y))) also
        (let m = all_members b in (Sort.object, _, counted Sort.member (λ k. number k ∷ []) m Form.r9, m.1, one))
    keeps (next_member c) b =
        (λ t. (let m = all_members b in (Sort.object, _, counted Sort.member (λ k. number k ∷ []) m Form.r9, m.1, one))) also
        (λ t. ((λ p le. b), (λ τs y. y))) also
        ((λ p le. Fits.none), (λ τs x. ((λ p le. x.adds c σs b), (λ τs y. y))))
    keeps (comprehension c) b =
        (λ t. comprehend (subst (λ (m : ℕ). Members m σs) (eqb→eq c 0 t) b)) also
        ((λ p le. Fits.none), (λ τs x. tt))
    keeps (comprehension_end m) b =
        (Sort.object, _, comprehension_form b.0 b.1 b.2 m b.3 b.4, b.4, one)
    keeps field f =
        (λ t. (Sort.string, Form.r5 (a_text w), ((λ p le. (Sort.string, Name.fixed, omega arith, fits_append f one)), (λ τs y. (field_kind IDENT (λ c. refl) t, y))))) also
        (λ t. ((λ p le. Fits.none), (λ τs x. ((λ p le. (Sort.string, Name.fixed, omega arith, fits_append f x)), (λ τs y. (string_kind t, y)))))) also
        (λ t. ((λ p le. Fits.none), (λ τs x. ((λ p le. (Sort.expression, Name.computed, omega arith, fits_append f x)), (λ τs y. (field_kind L_BRACK (λ c. refl) t, y)))))) also
        tt
    keeps (field_named c a) b =
        (λ t. ((λ p le. (0, Fits.none)), (λ τs x. ((λ p le. (b.0, x.0, b.1, Method.method, b.2, fits_append b.3 x.1)), (λ τs y. y))))) also
        (λ t. ((λ p le. (b.0, 0, b.1, Method.value 1≤1, b.2, b.3)), (λ τs y. y))) also
        ((λ p le. (b.0, 0, b.1, Method.value 0≤1, b.2, b.3)), (λ τs y. y))
    keeps (field_value i j c p m) b =
        (λ t. ((λ p le. Fits.none), (λ τs x. (Sort.field, _, field_form b.2 b.3 b.4 2≤2 b.5, fits_append b.5 x, one)))) also
        (λ t. ((λ p le. Fits.none), (λ τs x. (Sort.field, _, field_form b.2 b.3 b.4 1≤2 b.5, fits_append b.5 x, one)))) also
        (λ e. ((λ p le. Fits.none), (λ τs x. (Sort.field, _, field_form b.2 b.3 b.4 0≤2 b.5, fits_append b.5 x, one))))
    keeps params b =
        (λ t. b) also
        ((λ p le. Fits.none), (λ τs x. ((λ p le. (suc b.0, fits_last b.0 Sort.param [] b.1 x)), (λ τs y. y))))
    keeps params_end b =
        (λ t. ((λ p le. b), (λ τs y. y))) also
        b
    keeps param f =
        ((λ p le. Fits.none), (λ τs x. ((λ p le. fits_append f x), (λ τs y. y))))
    keeps param_default f =
        (λ t. ((λ p le. Fits.none), (λ τs x. (Sort.param, _, Form.r30 Has.yes, fits_append f x, one)))) also
        (Sort.param, _, Form.r30 Has.no, f, one)
    keeps binds b =
        (λ t. ((λ p le. b), (λ τs y. y))) also
        ((λ p le. Fits.none), (λ τs x. ((λ p le. (suc b.0, fits_last b.0 Sort.bind [] b.1 x)), (λ τs y. y))))
    keeps binds_end b =
        (λ t. ((λ p le. b), (λ τs y. y))) also
        ((λ p le. b), (λ τs y. y))
    keeps local_body b =
        (λ e. ((λ p le. Fits.none), (λ τs x. (Sort.expression, _, counted Sort.bind (λ m. number m ∷ []) b Form.r15, fits_append b.1 x, one))))
    keeps bind f =
        (λ t. (Sort.name_pattern, Form.r25 o.1 (a_name w t), ((λ p le. fits_append f one), (λ τs y. y)))) also
        ((λ p le. Fits.none), (λ τs x. ((λ p le. Fits.none), (λ τs y. (Sort.bind, _, Form.r24_value, fits_append (fits_append f x) y, one)))))
    keeps bind_named f =
        (λ t. ((λ p le. (0, Fits.none)), (λ τs x. ((λ p le. (x.0, fits_append f x.1)), (λ τs y. y))))) also
        (λ e. ((λ p le. Fits.none), (λ τs x. (Sort.bind, _, Form.r24_value, fits_append (name_pattern_fits f) x, one))))
    keeps bind_function b =
        (λ e. ((λ p le. Fits.none), (λ τs x. (Sort.bind, _, bind_form b.0 b.1, fits_append b.1 x, one))))
    keeps (else_part i j) b =
        (λ t. ((λ p le. Fits.none), (λ τs x. (Sort.expression, _, Form.r22 b.0 Has.yes, fits_append b.1 x, one)))) also
        (Sort.expression, _, Form.r22 b.0 Has.no, b.1, one)
    keeps (function_body i j) b =
        ((λ p le. Fits.none), (λ τs x. (Sort.expression, _, counted Sort.param (λ m. span i j ∷ number m ∷ []) b.1 (Form.r21 b.0), fits_append b.1.1 x, one)))
    keeps assertion f =
        (λ e. ((λ p le. f), (λ τs y. y)))
    keeps condition f =
        ((λ p le. Fits.none), (λ τs x. ((λ p le. (omega arith, fits_append f x)), (λ τs y. y))))
    keeps (asserted a) b =
        (λ t. ((λ p le. Fits.none), (λ τs x. (Sort.assertion, _, Form.r32 b.0 Has.yes, fits_append b.1 x, one)))) also
        (Sort.assertion, _, Form.r32 b.0 Has.no, b.1, one)
    keeps clauses f =
        (λ e. ((λ p le. Fits.none), (λ τs x. ((λ p le. (0, fits_append f x)), (λ τs y. y)))))
    keeps more_clauses b =
        (λ t. ((λ p le. Fits.none), (λ τs x. ((λ p le. (suc b.0, fits_last b.0 Sort.clause (Sort.iteration ∷ []) b.1 (iteration_clause x))), (λ τs y. y))))) also
        (λ t. ((λ p le. (o.1, Fits.none)), (λ τs x. ((λ p le. (suc b.0, fits_last b.0 Sort.clause (Sort.iteration ∷ []) b.1 (if_clause_clause x))), (λ τs y. y))))) also
        b
    keeps for_clause f =
        (λ t. ((λ p le. Fits.none), (λ τs x. ((λ p le. (key_name t, fits_append f x)), (λ τs y. y))))) also
        ((λ p le. Fits.none), (λ τs x. ((λ p le. Fits.none), (λ τs y. (Sort.iteration, _, Form.r33, fits_append (fits_append f x) y, one)))))
    keeps header f =
        (λ e. f)
    keeps (if_clause i j) b =
        ((λ p le. Fits.none), (λ τs x. (Sort.if_clause, _, Form.r34 b.0, fits_append b.1 x, one)))
    keeps (iteration key) b =
        (λ t. ((λ p le. (2≤2, b.0, b.1)), (λ τs y. y))) also
        (λ t. ((λ p le. (1≤2, b.0, b.1)), (λ τs y. y))) also
        (λ e. ((λ p le. (0≤2, b.0, b.1)), (λ τs y. y)))
    keeps (iteration_value a key) b =
        ((λ p le. Fits.none), (λ τs x. ((λ p le. Fits.none), (λ τs y. (Sort.iteration, _, Form.r35 b.0 b.1, fits_append (fits_append b.2 x) y, one)))))
    keeps pattern f =
        (λ t. (Sort.name_pattern, Form.r25 o.1 (a_name w t), fits_append f (name_pattern_fits one))) also
        (λ t. (Sort.pattern, Form.r26, fits_append f one)) also
        (λ t. ((λ p le. Fits.none), (λ τs x. fits_append f x))) also
        (λ t. ((λ p le. Fits.none), (λ τs x. fits_append f x))) also
        (λ t. tt) also
        tt
    keeps array_pattern f =
        (λ e. ((λ p le. (0, f)), (λ τs y. y)))
    keeps pattern_starts b =
        (λ t. ((λ p le. (0, Rest.whole, fits_nil (every_pattern b))), (λ τs y. y))) also
        (λ t. ((λ p le. every_pattern b), (λ τs y. y))) also
        ((λ p le. Fits.none), (λ τs x. ((λ p le. (suc b.0, fits_last b.0 Sort.pattern [] b.1 x)), (λ τs y. y))))
    keeps pattern_starts_end b =
        (λ t. ((λ p le. b), (λ τs y. y))) also
        ((λ p le. (0, Rest.whole, fits_nil (every_pattern b))), (λ τs y. y))
    keeps (array_rest n) f =
        (λ t. ((λ p le. (kept (a_name w t), 0, fits_nil f)), (λ τs y. y))) also
        ((λ p le. (dropped, 0, fits_nil f)), (λ τs y. y))
    keeps (array_rest_end n r x) b =
        (λ t. ((λ p le. b), (λ τs y. y))) also
        ((λ p le. (b.1, open_rest b.1 b.0, b.2)), (λ τs y. y))
    keeps (pattern_ends n r x) b =
        (λ t. ((λ p le. (b.1, open_rest b.1 b.0, b.2)), (λ τs y. y))) also
        ((λ p le. Fits.none), (λ τs x. ((λ p le. (b.0, suc b.1, fits_last b.1 Sort.pattern (times n Sort.pattern) b.2 x)), (λ τs y. y))))
    keeps (pattern_ends_end n r x) b =
        (λ t. ((λ p le. b), (λ τs y. y))) also
        ((λ p le. (b.1, open_rest b.1 b.0, b.2)), (λ τs y. y))
    keeps (array_pattern_close n r x) b =
        (λ e. (Sort.pattern, _, told (λ m. number n ∷ byte r ∷ number m ∷ text x ∷ []) b.0 (v.count - n) (ends n b.0 b.2) (Form.r27 b.1), b.2, one))
    keeps object_pattern f =
        (λ e. ((λ p le. (0, f)), (λ τs y. y)))
    keeps pattern_fields b =
        (λ t. ((λ p le. (Rest.whole, b)), (λ τs y. y))) also
        (λ t. ((λ p le. b), (λ τs y. y))) also
        ((λ p le. Fits.none), (λ τs x. ((λ p le. (suc b.0, fits_last b.0 Sort.pattern_field [] b.1 x)), (λ τs y. y))))
    keeps pattern_fields_end b =
        (λ t. ((λ p le. b), (λ τs y. y))) also
        ((λ p le. (Rest.whole, b)), (λ τs y. y))
    keeps object_rest b =
        (λ t. ((λ p le. (Rest.kept (a_name w t), b)), (λ τs y. y))) also
        ((λ p le. (Rest.dropped, b)), (λ τs y. y))
    keeps (object_rest_end r x) b =
        (λ t. ((λ p le. b), (λ τs y. y))) also
        ((λ p le. b), (λ τs y. y))
    keeps (object_pattern_close r x) b =
        (λ e. (Sort.pattern, _, counted Sort.pattern_field (λ m. number m ∷ byte r ∷ text x ∷ []) b.1 (Form.r28 b.0), b.1.1, one))
    keeps pattern_field f =
        (λ e. ((λ p le. (a_name w (is_kind e), f)), (λ τs y. y)))
    keeps (pattern_into x) b =
        (λ t. ((λ p le. Fits.none), (λ τs x. ((λ p le. (b.0, _, Has.yes, fits_append b.1 x)), (λ τs y. y))))) also
        ((λ p le. (b.0, [], Has.no, b.1)), (λ τs y. y))
    keeps (pattern_default h x) b =
        (λ t. ((λ p le. b), (λ τs y. y))) also
        (Sort.pattern_field, _, Form.r29_bare b.2 (refl, refl) b.0, b.3, one)
    keeps (default_value h x) b =
        ((λ p le. Fits.none), (λ τs x. ((λ p le. (b.0, b.1, b.2, omega arith, fits_append b.3 x)), (λ τs y. y))))
    keeps (default_end h x a) b =
        (Sort.pattern_field, _, Form.r29_default b.2 b.3 b.0, b.4, one)
