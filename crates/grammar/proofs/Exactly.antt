-- WHICH TREES ARE SPELLED AT ALL: exactly those that obey the table of records but for spans.
-- Assumes nothing.
use mathlib.Core.Path.{sym, subst}
use mathlib.Core.List.{List, [], ◌∷◌, ◌++◌}
use Prim.Native.Nat.{ℕ, suc, ◌+◌, ◌≤◌}
use native.Mathlib.Omega.{arith}
use lib.Dec.{T}
use Rattle.lexemes.specs.Kinds.{TAILSTRICT_KW, PLUS}
use Rattle.grammar.specs.Tags.{OBJECT_COMP, LOCAL, CALL, FUNCTION, SLICE, BIND, ARRAY_PATTERN, PATTERN_FIELD, FIELD}
use Rattle.grammar.specs.Trees.{Field, byte, number, span, text, Trees, node, tree, ◌⊕◌}
use Rattle.grammar.specs.Lexemes.{Lexeme}
use Rattle.grammar.specs.Productions.{Switch, always, exp_destruct, exp_object_iteration, exp_null_coaelse}
use Rattle.grammar.specs.Reading.{has}
use Rattle.grammar.specs.Words.{NameText, Worded}
use Rattle.grammar.specs.Spells.{greedily, SpelledWithin, Category as C}
use Rattle.grammar.specs.Records.{Sort, Is, times, Spans, Has, First, Part, Rest, Method, Form, Obeys}
use Rattle.grammar.proofs.ImageLaws.{row_end}
use Rattle.grammar.proofs.SpelledObeys.{Expression, spelled_obeys}
use Rattle.grammar.proofs.Stretches.{at_end}
use Rattle.grammar.proofs.OperatorKinds.{identity_of, import_of, sign_of, operator_of}
use Rattle.grammar.proofs.Prints.{Any, Prints, Operand, Item, a_guard, expr_of, flagged, colonned}
use Rattle.grammar.proofs.Writes.{NamePattern, a_name, Writes, All, Split, split, Clausal, split_at, many_of, clausal_of, widened, fit}
use Rattle.grammar.proofs.Forms.{identity, null, bool, a_number, string, variable, array, array_comp, members, object_comp, extension, sign}
use Rattle.grammar.proofs.Forms.{operation, assert, local_expr, import, error, call, base, index, function, if, part, slice}
use Rattle.grammar.proofs.Parts.{Left, drops, keeps, named_argument, bind_value, bind_function, skip, array_pattern, array_pattern_rest}
use Rattle.grammar.proofs.Parts.{object_pattern, object_pattern_rest, pattern_field, pattern_default, param, field_value, field_method}
use Rattle.grammar.proofs.Parts.{field_name, asserted, iteration, object_iteration}

-- ── From the table ────────────────────────────────────────────────────────────────────────────────

-- Rows of children, taken apart as a record wants them.
module _ (prefix s : ℕ) where
  objects : (a b : ℕ) {n : ℕ} {ts cs : Trees} → Split prefix s (times a Sort.bind) (Sort.field ∷ times b Sort.bind) ts → Clausal prefix s n cs
      → Prints prefix s C.object Any (tree OBJECT_COMP (number (a + 1 + b) ∷ number n ∷ []) (ts ⊕ cs))
  objects a b (split l (All.more f m)) c = object_comp (many_of a Sort.bind l) f (many_of b Sort.bind m) c

  comprehended : (a b n : ℕ) {cs : Trees} → Split prefix s (times a Sort.bind ++ Sort.field ∷ times b Sort.bind) (Sort.iteration ∷ times n Sort.clause) cs
      → Prints prefix s C.object Any (tree OBJECT_COMP (number (a + 1 + b) ∷ number (1 + n) ∷ []) cs)
  comprehended a b n (split m c) = objects a b (split_at (times a Sort.bind) (Sort.field ∷ times b Sort.bind) m) (clausal_of n c)

  local_of : (n : ℕ) {cs : Trees} → Split prefix s (times n Sort.bind) (Sort.expression ∷ []) cs → Operand prefix s (tree LOCAL (number n ∷ []) cs)
  local_of n (split b (All.more e All.none)) = local_expr (many_of n Sort.bind b) e

  call_of : (t u n : ℕ) {a e tag : ℕ} {fs : List Field} {ks cs : Trees} → t ≤ 1 → Operand prefix s (tree tag fs ks)
      → Split prefix s (times u Sort.expression) (times n Sort.named) cs
      → Operand prefix s (tree CALL (span a e ∷ byte t ∷ number u ∷ number n ∷ []) (node tag fs ks cs))
  unfolding ◌⊕◌
  call_of t u n h e (split a b) = call (flagged TAILSTRICT_KW tt t h) e (many_of u Sort.expression a) (many_of n Sort.named b)

  function_of : (n : ℕ) {a e : ℕ} {cs : Trees} → Split prefix s (times n Sort.param) (Sort.expression ∷ []) cs
      → Operand prefix s (tree FUNCTION (span a e ∷ number n ∷ []) cs)
  function_of n (split p (All.more e All.none)) = function (many_of n Sort.param p) e

  halves : {b₁ i₁ j₁ b₂ i₂ j₂ b₃ i₃ j₃ tag : ℕ} {fs : List Field} {ks ts us : Trees} {σs τs υs : List Sort} → Part Spans.free 1 b₁ i₁ j₁ σs
      → Part Spans.free 2 b₂ i₂ j₂ τs
      → Part Spans.free 4 b₃ i₃ j₃ υs → Operand prefix s (tree tag fs ks) → Split prefix s σs τs ts → All prefix s υs us
      → Operand prefix s (tree SLICE (byte (b₁ + b₂ + b₃) ∷ span i₁ j₁ ∷ span i₂ j₂ ∷ span i₃ j₃ ∷ []) (node tag fs ks (ts ⊕ us)))
  unfolding ◌⊕◌
  halves p q r e (split a b) c = slice e (part p a) (part q b) (part r c)

  slice_of : {b₁ i₁ j₁ b₂ i₂ j₂ b₃ i₃ j₃ tag : ℕ} {fs : List Field} {ks cs : Trees} (σs τs : List Sort) {υs : List Sort} → Part Spans.free 1 b₁ i₁ j₁ σs
      → Part Spans.free 2 b₂ i₂ j₂ τs
      → Part Spans.free 4 b₃ i₃ j₃ υs → Operand prefix s (tree tag fs ks) → Split prefix s (σs ++ τs) υs cs
      → Operand prefix s (tree SLICE (byte (b₁ + b₂ + b₃) ∷ span i₁ j₁ ∷ span i₂ j₂ ∷ span i₃ j₃ ∷ []) (node tag fs ks cs))
  slice_of σs τs p q r e (split a b) = halves p q r e (split_at σs τs a) b

  bind_function_of : (n : ℕ) {tag : ℕ} {fs : List Field} {ks cs : Trees} → NamePattern (tree tag fs ks)
      → Split prefix s (times n Sort.param) (Sort.expression ∷ []) cs
      → Item prefix s C.bind (tree BIND (byte 1 ∷ number n ∷ []) (node tag fs ks cs))
  bind_function_of n h (split p (All.more e All.none)) = bind_function h (many_of n Sort.param p) e

  default_of : {h a e : ℕ} {w : List ℕ} {σs : List Sort} {cs : Trees} → Has Sort.pattern h σs → NameText w → Split prefix s σs (Sort.expression ∷ []) cs
      → Item prefix s C.pattern_field (tree PATTERN_FIELD (byte h ∷ byte 1 ∷ span a e ∷ text w ∷ []) cs)
  default_of h n (split p (All.more e All.none)) = pattern_default h n p e

  method_of : (m c v : ℕ) {a e tag : ℕ} {fs : List Field} {ks cs : Trees} → v ≤ 2 → Prints prefix s (C.name c) Any (tree tag fs ks)
      → Split prefix s (times m Sort.param) (Sort.expression ∷ []) cs
      → Item prefix s C.field (tree FIELD (span a e ∷ byte c ∷ byte 0 ∷ byte 1 ∷ number m ∷ byte v ∷ []) (node tag fs ks cs))
  unfolding ◌⊕◌
  method_of m c v h n (split p (All.more e All.none)) = field_method n (many_of m Sort.param p) (colonned v h) e

  module _ (on : (g : Switch) → T (has s g)) where
    whole_pattern : (n : ℕ) {cs : Trees} → Split prefix s (times n Sort.pattern) [] cs
        → Prints prefix s C.pattern Any (tree ARRAY_PATTERN (number n ∷ byte 0 ∷ number 0 ∷ text [] ∷ []) cs)
    whole_pattern n (split {ts = ps} p All.none) =
        subst (λ (t : Trees). Prints prefix s C.pattern Any (tree ARRAY_PATTERN (number n ∷ byte 0 ∷ number 0 ∷ text [] ∷ []) t)) (sym (row_end ps))
        (array_pattern (on exp_destruct) (many_of n Sort.pattern p))

    pattern_of : (n m : ℕ) {r : ℕ} {w : List ℕ} {cs : Trees} → Left s r w → Split prefix s (times n Sort.pattern) (times m Sort.pattern) cs
        → Prints prefix s C.pattern Any (tree ARRAY_PATTERN (number n ∷ byte r ∷ number m ∷ text w ∷ []) cs)
    pattern_of n m l (split p q) = array_pattern_rest (on exp_destruct) l (many_of n Sort.pattern p) (many_of m Sort.pattern q)

    -- A record of the table whose children are written is written: a line for each form.
    form : {σ : Sort} {tag : ℕ} {fs : List Field} {ws : List Sort} {cs : Trees} → Form Spans.free σ tag fs ws → All prefix s ws cs
        → Writes prefix s σ (tree tag fs cs)
    unfolding ◌⊕◌ times
    form (Form.r1 {o} h p) All.none = identity (identity_of o h)
    form Form.r2 All.none = null
    form (Form.r3 {f} h) All.none = bool f h
    form (Form.r4 h) All.none = a_number h
    form (Form.r5 h) All.none = string h
    form (Form.r6 p h) All.none = variable h
    form (Form.r7 {n}) x = array (many_of n Sort.expression x)
    form (Form.r8 n) (All.more e x) = array_comp e (clausal_of n x)
    form (Form.r9 {n}) x = members (many_of n Sort.member x)
    form (Form.r10 a b n) x = comprehended a b n (split_at (times a Sort.bind ++ Sort.field ∷ times b Sort.bind) (Sort.iteration ∷ times n Sort.clause) x)
    form Form.r11 (All.more e (All.more o All.none)) = extension e o
    form (Form.r12 {o} h) (All.more e All.none) = sign (sign_of o h) e
    form (Form.r13 {o} h p) (All.more e (All.more f All.none)) = operation (operator_of (on exp_null_coaelse) o h) e f
    form Form.r14 (All.more a (All.more e All.none)) = assert a e
    form (Form.r15 {n}) x = local_of n (split_at (times n Sort.bind) (Sort.expression ∷ []) x)
    form (Form.r16 {o} h p) (All.more e All.none) = import (import_of o h) e
    form (Form.r17 p) (All.more e All.none) = error e
    form (Form.r18 {t = t} {u} {n} p h) (All.more e x) = call_of t u n h e (split_at (times u Sort.expression) (times n Sort.named) x)
    form (Form.r19 h) (All.more e All.none) = named_argument h e
    form (Form.r20 {n = n} p First.first h) (All.more e (All.more i All.none)) = index (on exp_null_coaelse) n h (base e) i
    form (Form.r20 {n = n} p First.later h) (All.more r (All.more i All.none)) = index (on exp_null_coaelse) n h r i
    form (Form.r21 {n = n} p) x = function_of n (split_at (times n Sort.param) (Sort.expression ∷ []) x)
    form (Form.r22 p h) (All.more c (All.more e x)) = if h c e x
    form (Form.r23 {σs = σs} {τs} {υs} p q r) (All.more e x) = slice_of σs τs p q r e (split_at (σs ++ τs) υs x)
    form Form.r24_value (All.more p (All.more e All.none)) = bind_value p e
    form (Form.r24_function {n}) (All.more p x) = bind_function_of n p (split_at (times n Sort.param) (Sort.expression ∷ []) x)
    form (Form.r25 p h) All.none = a_name h
    form Form.r26 All.none = skip (on exp_destruct)
    form (Form.r27 {n} Rest.whole) x = whole_pattern n (split_at (times n Sort.pattern) [] x)
    form (Form.r27 {n} {m = m} Rest.dropped) x = pattern_of n m drops (split_at (times n Sort.pattern) (times m Sort.pattern) x)
    form (Form.r27 {n} {m = m} (Rest.kept h)) x = pattern_of n m (keeps h) (split_at (times n Sort.pattern) (times m Sort.pattern) x)
    form (Form.r28 {n} Rest.whole) x = object_pattern (on exp_destruct) (many_of n Sort.pattern_field x)
    form (Form.r28 {n} Rest.dropped) x = object_pattern_rest (on exp_destruct) drops (many_of n Sort.pattern_field x)
    form (Form.r28 {n} (Rest.kept h)) x = object_pattern_rest (on exp_destruct) (keeps h) (many_of n Sort.pattern_field x)
    form (Form.r29_bare h p w) x = pattern_field h w x
    form (Form.r29_default {σs = σs} h p w) x = default_of h w (split_at σs (Sort.expression ∷ []) x)
    form (Form.r30 h) (All.more p x) = param h p x
    form (Form.r31 {p = p} {v = v} q n (Method.value h) le) (All.more {tag = tag} {fs = fs} {cs = cs} a (All.more e All.none)) =
        field_value (field_name prefix s (tree tag fs cs) n a) (flagged PLUS tt p h) (colonned v le) e
    form (Form.r31 {c = c} {v = v} q n (Method.method {n = m}) le) (All.more {tag = tag} {fs = fs} {cs = cs} a x) =
        method_of m c v le (field_name prefix s (tree tag fs cs) n a) (split_at (times m Sort.param) (Sort.expression ∷ []) x)
    form (Form.r32 p h) (All.more e x) = asserted h e x
    form Form.r33 (All.more p (All.more e All.none)) = iteration p e
    form (Form.r34 {a} {e} p) (All.more x All.none) = a_guard a e x
    form (Form.r35 {v} h w) (All.more p (All.more e All.none)) = object_iteration (on exp_object_iteration) w (colonned v h) p e

    written : {σs : List Sort} {ts : Trees} → Obeys Spans.free σs ts → All prefix s σs ts
    written Obeys.none = All.none
    written (Obeys.node f g h k) = All.more (form f (fit prefix s g (written h))) (written k)

-- ── The theorem ───────────────────────────────────────────────────────────────────────────────────

-- Some worded lexemes spell it greedily, within some levels.
pub record SpelledSomehow (prefix s : ℕ) (t : Trees) : Type 0 where
  pub lexemes : List Lexeme
  pub worded : Worded lexemes
  pub levels : ℕ
  pub spells : SpelledWithin prefix s (greedily s) levels lexemes t

-- A TREE IS SPELLED BY SOME LEXEMES EXACTLY WHEN IT OBEYS THE TABLE BUT FOR SPANS. One way under every setting, the other where every switch is on.
pub somehow_obeys : {prefix s : ℕ} {t : Trees} → SpelledSomehow prefix s t → Expression t
somehow_obeys x = spelled_obeys x.worded x.spells

pub obeys_somehow : {prefix s : ℕ} {t : Trees} → ((g : Switch) → T (has s g)) → Expression t → SpelledSomehow prefix s t
obeys_somehow {prefix} {s} on x = by x.1 (written prefix s on x.2)
  where
    by : {σ : Sort} {t : Trees} → Is σ Sort.expression → All prefix s (σ ∷ []) t → SpelledSomehow prefix s t
    by i (All.more {tag = tag} {fs = fs} {cs = cs} p All.none) =
        let e = widened prefix s (tree tag fs cs) i p in
        record {
          lexemes = e.stretch.before [];
          worded = e.stretch.worded [] Worded.none;
          levels = suc e.levels;
          spells = expr_of 0 e (suc e.levels) (omega arith) [] at_end;
        }

every_switch : (g : Switch) → T (has 7 g)
unfolding has
every_switch always = tt
every_switch exp_destruct = tt
every_switch exp_object_iteration = tt
every_switch exp_null_coaelse = tt

pub exactly : (prefix : ℕ) (t : Trees) → (SpelledSomehow prefix 7 t → Expression t) × (Expression t → SpelledSomehow prefix 7 t)
exactly prefix t = (somehow_obeys, obeys_somehow every_switch)
