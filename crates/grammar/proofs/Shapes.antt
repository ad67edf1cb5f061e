-- What each phrase has at its start and at its end, by the table of records, and what it is for a production to keep to it.
-- Assumes nothing.
use mathlib.Core.Path.{◌≡◌}
use mathlib.Core.Bool.{true, false}
use mathlib.Core.List.{List, [], ◌∷◌, ◌++◌}
use Prim.Native.Nat.{ℕ, ◌+◌, ◌≤◌}
use lib.Dec.{T}
use Rattle.grammar.specs.Productions.{Phrase, Body, end, goto, fail, ◌▸◌, eat, leaf, sub, deep, close, row, Table, otherwise, ◌∣◌, expr}
use Rattle.grammar.specs.Productions.{infix_tail, suffixed, suffix, null_safe, null_safe_index, bracket, member_name, null_safe_end}
use Rattle.grammar.specs.Productions.{index_or_slice, slice_end, slice_ended, slice_step, slice_stepped, arguments, argument, argument_end}
use Rattle.grammar.specs.Productions.{call_close, call_end, named_argument, basic, string, array, array_first, array_comp, array_comp_end}
use Rattle.grammar.specs.Productions.{elements, next_element, inside, member, members, next_member, comprehension, comprehension_end, field}
use Rattle.grammar.specs.Productions.{field_named, field_value, params, params_end, param, param_default, binds, binds_end, local_body, bind}
use Rattle.grammar.specs.Productions.{bind_named, bind_function, else_part, function_body, assertion, condition, asserted, clauses}
use Rattle.grammar.specs.Productions.{more_clauses, for_clause, header, if_clause, iteration, iteration_value, pattern, array_pattern}
use Rattle.grammar.specs.Productions.{pattern_starts, pattern_starts_end, array_rest, array_rest_end, pattern_ends, pattern_ends_end}
use Rattle.grammar.specs.Productions.{array_pattern_close, object_pattern, pattern_fields, pattern_fields_end, object_rest, object_rest_end}
use Rattle.grammar.specs.Productions.{object_pattern_close, pattern_field, pattern_into, pattern_default, default_value, default_end}
use Rattle.grammar.specs.Productions.{with_field, with_member}
use Rattle.grammar.specs.Words.{NameText}
use Rattle.grammar.specs.Records.{Sort, Fits, times, Spans, Flag, Has, First, Part, Rest, Name, Method, Form}
use Rattle.grammar.proofs.Tables.{moves}
use Rattle.grammar.proofs.Sorts.{Members, MemberFrom, Open}

-- ── What a phrase has at its start and at its end ─────────────────────────────────────────────────

-- At its end: one tree of a sort, or a row. A member and a field tell besides by which kind they began.
pub data Exit : Type 0 where
  single : Sort → Exit
  parameters clausal nothing a_field a_member : Exit

abbrev pub Ends : Exit → List Sort → Type 0
Ends (single σ) τs = Fits τs (σ ∷ [])
Ends parameters τs = (n : ℕ) × Fits τs (times n Sort.param)
Ends clausal τs = (n : ℕ) × Fits τs (Sort.iteration ∷ times n Sort.clause)
Ends nothing τs = Fits τs []
Ends a_field τs = Fits τs (Sort.field ∷ [])
Ends a_member τs = Fits τs (Sort.member ∷ [])

abbrev pub EndsFrom : ℕ → Exit → List Sort → Type 0
EndsFrom k (single σ) τs = Ends (single σ) τs
EndsFrom k parameters τs = Ends parameters τs
EndsFrom k clausal τs = Ends clausal τs
EndsFrom k nothing τs = Ends nothing τs
EndsFrom k a_field τs = ((c : ℕ) → with_member c k ≡ with_field c) × Fits τs (Sort.field ∷ [])
EndsFrom k a_member τs = MemberFrom k τs

ends_wherever : (k : ℕ) (e : Exit) (τs : List Sort) → EndsFrom k e τs → Ends e τs
ends_wherever k (single σ) τs x = x
ends_wherever k parameters τs x = x
ends_wherever k clausal τs x = x
ends_wherever k nothing τs x = x
ends_wherever k a_field τs x = x.1
ends_wherever k a_member τs x = x.fits

unfoldable pub exit : Phrase → Exit
exit (expr a) = single Sort.expression
exit (infix_tail a) = single Sort.expression
exit suffixed = single Sort.expression
exit (suffix a) = single Sort.expression
exit (null_safe a) = single Sort.expression
exit (null_safe_index a) = single Sort.expression
exit (bracket a) = single Sort.expression
exit (member_name a b) = single Sort.expression
exit (null_safe_end a b) = single Sort.expression
exit (index_or_slice a b) = single Sort.expression
exit (slice_end a b c) = single Sort.expression
exit (slice_ended a b c d) = single Sort.expression
exit (slice_step a b c d e) = single Sort.expression
exit (slice_stepped a b c d e f) = single Sort.expression
exit (arguments a b c) = single Sort.expression
exit (argument a b c) = single Sort.expression
exit (argument_end a b c) = single Sort.expression
exit (call_close a b c) = single Sort.expression
exit (call_end a b c) = single Sort.expression
exit named_argument = single Sort.named
exit basic = single Sort.expression
exit string = single Sort.string
exit array = single Sort.expression
exit array_first = single Sort.expression
exit array_comp = single Sort.expression
exit array_comp_end = single Sort.expression
exit elements = single Sort.expression
exit next_element = single Sort.expression
exit inside = single Sort.object
exit member = a_member
exit (members a) = single Sort.object
exit (next_member a) = single Sort.object
exit (comprehension a) = single Sort.object
exit (comprehension_end a) = single Sort.object
exit field = a_field
exit (field_named a b) = single Sort.field
exit (field_value a b c d e) = single Sort.field
exit params = parameters
exit params_end = parameters
exit param = single Sort.param
exit param_default = single Sort.param
exit binds = single Sort.expression
exit binds_end = single Sort.expression
exit local_body = single Sort.expression
exit bind = single Sort.bind
exit bind_named = single Sort.bind
exit bind_function = single Sort.bind
exit (else_part a b) = single Sort.expression
exit (function_body a b) = single Sort.expression
exit assertion = single Sort.assertion
exit condition = single Sort.assertion
exit (asserted a) = single Sort.assertion
exit clauses = clausal
exit more_clauses = clausal
exit for_clause = single Sort.iteration
exit header = nothing
exit (if_clause a b) = single Sort.if_clause
exit (iteration a) = single Sort.iteration
exit (iteration_value a b) = single Sort.iteration
exit pattern = single Sort.pattern
exit array_pattern = single Sort.pattern
exit pattern_starts = single Sort.pattern
exit pattern_starts_end = single Sort.pattern
exit (array_rest a) = single Sort.pattern
exit (array_rest_end a b c) = single Sort.pattern
exit (pattern_ends a b c) = single Sort.pattern
exit (pattern_ends_end a b c) = single Sort.pattern
exit (array_pattern_close a b c) = single Sort.pattern
exit object_pattern = single Sort.pattern
exit pattern_fields = single Sort.pattern
exit pattern_fields_end = single Sort.pattern
exit object_rest = single Sort.pattern
exit (object_rest_end a b) = single Sort.pattern
exit (object_pattern_close a b) = single Sort.pattern
exit pattern_field = single Sort.pattern_field
exit (pattern_into a) = single Sort.pattern_field
exit (pattern_default a b) = single Sort.pattern_field
exit (default_value a b) = single Sort.pattern_field
exit (default_end a b c) = single Sort.pattern_field

abbrev pub After : Phrase → List Sort → Type 0
unfolding exit
After q τs = Ends (exit q) τs

abbrev pub AfterFrom : ℕ → Phrase → List Sort → Type 0
unfolding exit
AfterFrom k q τs = EndsFrom k (exit q) τs

pub wherever : (k : ℕ) (q : Phrase) (τs : List Sort) → AfterFrom k q τs → After q τs
unfolding exit After AfterFrom
wherever k q τs x = ends_wherever k (exit q) τs x

-- At its start, where the last lexeme ended at p.
abbrev pub Called : ℕ → ℕ → ℕ → ℕ → List Sort → Type 0
Called a u n p σs = (a ≤ p) × Fits σs ((Sort.expression ∷ times u Sort.expression) ++ times n Sort.named)

abbrev pub Indexing : ℕ → List Sort → Type 0
Indexing f σs = (σ : Sort) × First f σ × Fits σs (σ ∷ [])

abbrev pub Indexed : ℕ → ℕ → ℕ → List Sort → Type 0
Indexed f a p σs = (σ : Sort) × First f σ × (a ≤ p) × Fits σs (σ ∷ Sort.expression ∷ [])

abbrev pub Many : Sort → List Sort → Type 0
Many σ σs = (n : ℕ) × Fits σs (times n σ)

abbrev pub Ended : ℕ → ℕ → List ℕ → List Sort → Type 0
Ended n r w σs = Open r w × (m : ℕ) × Fits σs (times n Sort.pattern ++ times m Sort.pattern)

unfoldable pub Before : Phrase → ℕ → List Sort → Type 0
Before (expr a) p σs = Fits σs []
Before (infix_tail a) p σs = Fits σs (Sort.expression ∷ [])
Before suffixed p σs = Fits σs []
Before (suffix a) p σs = Indexing a σs
Before (null_safe a) p σs = Indexing a σs
Before (null_safe_index a) p σs = Indexing a σs
Before (bracket a) p σs = Indexing a σs
Before (member_name a b) p σs = (σ : Sort) × First a σ × Flag b × Fits σs (σ ∷ [])
Before (null_safe_end a b) p σs = Indexed a b p σs
Before (index_or_slice a b) p σs = Indexed a b p σs
Before (slice_end a b c) p σs = (ρ : List Sort) × Part Spans.forward 1 a b c ρ × Fits σs (Sort.expression ∷ ρ)
Before (slice_ended a b c d) p σs = (ρ : List Sort) × Part Spans.forward 1 a b c ρ × (d ≤ p) × Fits σs (Sort.expression ∷ ρ ++ Sort.expression ∷ [])
Before (slice_step a b c d e) p σs =
    (i : ℕ) × (j : ℕ) × (ρ : List Sort) × (ς : List Sort) × Part Spans.forward 1 i b c ρ × Part Spans.forward 2 j d e ς × (i + j ≡ a) × Fits σs
    (Sort.expression ∷ ρ ++ ς)
Before (slice_stepped a b c d e f) p σs =
    (i : ℕ) × (j : ℕ) × (ρ : List Sort) × (ς : List Sort) × Part Spans.forward 1 i b c ρ × Part Spans.forward 2 j d e ς × (i + j ≡ a) × (f ≤ p) × Fits σs
    (Sort.expression ∷ (ρ ++ ς) ++ Sort.expression ∷ [])
Before (arguments a b c) p σs = Called a b c p σs
Before (argument a b c) p σs = Called a b c p σs
Before (argument_end a b c) p σs = Called a b c p σs
Before (call_close a b c) p σs = Called a b c p σs
Before (call_end a b c) p σs = Called a b c p σs
Before named_argument p σs = Fits σs []
Before basic p σs = Fits σs []
Before string p σs = Fits σs []
Before array p σs = Fits σs []
Before array_first p σs = Fits σs (Sort.expression ∷ [])
Before array_comp p σs = Fits σs (Sort.expression ∷ [])
Before array_comp_end p σs = (n : ℕ) × Fits σs (Sort.expression ∷ Sort.iteration ∷ times n Sort.clause)
Before elements p σs = Many Sort.expression σs
Before next_element p σs = Many Sort.expression σs
Before inside p σs = Fits σs []
Before member p σs = Fits σs []
Before (members a) p σs = Members a σs
Before (next_member a) p σs = Members a σs
Before (comprehension a) p σs = Members a σs
Before (comprehension_end a) p σs =
    (i : ℕ) × (j : ℕ) × (n : ℕ) × (i + 1 + j ≡ a) × Fits σs ((times i Sort.bind ++ Sort.field ∷ times j Sort.bind) ++ Sort.iteration ∷ times n Sort.clause)
Before field p σs = Fits σs []
Before (field_named a b) p σs = (σ : Sort) × Name a σ × (b ≤ p) × Fits σs (σ ∷ [])
Before (field_value a b c d e) p σs = (σ : Sort) × (n : ℕ) × Name c σ × Method d e n × (a ≤ b) × Fits σs (σ ∷ times n Sort.param)
Before params p σs = Many Sort.param σs
Before params_end p σs = Many Sort.param σs
Before param p σs = Fits σs []
Before param_default p σs = Fits σs (Sort.pattern ∷ [])
Before binds p σs = Many Sort.bind σs
Before binds_end p σs = Many Sort.bind σs
Before local_body p σs = Many Sort.bind σs
Before bind p σs = Fits σs []
Before bind_named p σs = Fits σs (Sort.name_pattern ∷ [])
Before bind_function p σs = (n : ℕ) × Fits σs (Sort.name_pattern ∷ times n Sort.param)
Before (else_part a b) p σs = (a ≤ b) × Fits σs (Sort.expression ∷ Sort.expression ∷ [])
Before (function_body a b) p σs = (a ≤ b) × Many Sort.param σs
Before assertion p σs = Fits σs []
Before condition p σs = Fits σs []
Before (asserted a) p σs = (a ≤ p) × Fits σs (Sort.expression ∷ [])
Before clauses p σs = Fits σs []
Before more_clauses p σs = (n : ℕ) × Fits σs (Sort.iteration ∷ times n Sort.clause)
Before for_clause p σs = Fits σs []
Before header p σs = Fits σs []
Before (if_clause a b) p σs = (a ≤ b) × Fits σs []
Before (iteration a) p σs = NameText a × Fits σs []
Before (iteration_value a b) p σs = (a ≤ 2) × NameText b × Fits σs []
Before pattern p σs = Fits σs []
Before array_pattern p σs = Fits σs []
Before pattern_starts p σs = Many Sort.pattern σs
Before pattern_starts_end p σs = Many Sort.pattern σs
Before (array_rest a) p σs = Fits σs (times a Sort.pattern)
Before (array_rest_end a b c) p σs = Ended a b c σs
Before (pattern_ends a b c) p σs = Ended a b c σs
Before (pattern_ends_end a b c) p σs = Ended a b c σs
Before (array_pattern_close a b c) p σs = (m : ℕ) × Rest b m c × Fits σs (times a Sort.pattern ++ times m Sort.pattern)
Before object_pattern p σs = Fits σs []
Before pattern_fields p σs = Many Sort.pattern_field σs
Before pattern_fields_end p σs = Many Sort.pattern_field σs
Before object_rest p σs = Many Sort.pattern_field σs
Before (object_rest_end a b) p σs = Rest a 0 b × Many Sort.pattern_field σs
Before (object_pattern_close a b) p σs = Rest a 0 b × Many Sort.pattern_field σs
Before pattern_field p σs = Fits σs []
Before (pattern_into a) p σs = NameText a × Fits σs []
Before (pattern_default a b) p σs = NameText b × (ρ : List Sort) × Has Sort.pattern a ρ × Fits σs ρ
Before (default_value a b) p σs = NameText b × (ρ : List Sort) × Has Sort.pattern a ρ × Fits σs ρ
Before (default_end a b c) p σs = NameText b × (ρ : List Sort) × Has Sort.pattern a ρ × (c ≤ p) × Fits σs (ρ ++ Sort.expression ∷ [])

-- ── A production keeps to it ──────────────────────────────────────────────────────────────────────

-- With the sorts σs so far, a place of at least low and, after a lexeme, of at least next, what b ends with is as X says.
unfoldable pub Keeps : ℕ → ℕ → (List Sort → Type 0) → List Sort → Body → Type 0
Keeps low next X σs end = X σs
Keeps low next X σs (fail n x) = Unit
Keeps low next X σs (goto q) = ((p : ℕ) → low ≤ p → Before q p σs) × ((τs : List Sort) → After q τs → X τs)
Keeps low next X σs (eat k ▸ b) = Keeps next next X σs b
Keeps low next X σs (leaf t fs ▸ b) = (σ : Sort) × Form Spans.forward σ t fs [] × Keeps next next X (σs ++ σ ∷ []) b
Keeps low next X σs (close t fs ▸ b) = (σ : Sort) × (ws : List Sort) × Form Spans.forward σ t fs ws × Fits σs ws × Keeps low next X (σ ∷ []) b
Keeps low next X σs (sub q ▸ b) =
    ((p : ℕ) → low ≤ p → Before q p []) × ((τs : List Sort) → After q τs → Keeps (elim (moves q) [ true ↦ next | false ↦ low ]) next X (σs ++ τs) b)
Keeps low next X σs (deep q ▸ b) =
    ((p : ℕ) → low ≤ p → Before q p []) × ((τs : List Sort) → After q τs → Keeps (elim (moves q) [ true ↦ next | false ↦ low ]) next X (σs ++ τs) b)

-- The same of a body that begins where a lexeme of this kind stands: if it takes one, that is of the kind that it takes; if it begins with a
-- phrase, that one began there.
unfoldable pub KeepsAt : ℕ → ℕ → ℕ → (List Sort → Type 0) → List Sort → Body → Type 0
KeepsAt kind low next X σs end = Keeps low next X σs end
KeepsAt kind low next X σs (fail n x) = Keeps low next X σs (fail n x)
KeepsAt kind low next X σs (goto q) = Keeps low next X σs (goto q)
KeepsAt kind low next X σs (eat k ▸ b) = kind ≡ k → Keeps low next X σs (eat k ▸ b)
KeepsAt kind low next X σs (leaf t fs ▸ b) = Keeps low next X σs (leaf t fs ▸ b)
KeepsAt kind low next X σs (close t fs ▸ b) = Keeps low next X σs (close t fs ▸ b)
KeepsAt kind low next X σs (sub q ▸ b) =
    ((p : ℕ) → low ≤ p → Before q p [])
    × ((τs : List Sort) → AfterFrom kind q τs → Keeps (elim (moves q) [ true ↦ next | false ↦ low ]) next X (σs ++ τs) b)
KeepsAt kind low next X σs (deep q ▸ b) = Keeps low next X σs (deep q ▸ b)

infixr 20 ◌also◌
-- One row and those after it.
pub data Both (A B : Type 0) : Type 0 where
  ◌also◌ : A → B → Both A B

unfoldable pub KeepsAll : ℕ → ℕ → ℕ → (List Sort → Type 0) → List Sort → Table → Type 0
KeepsAll kind low next X σs (otherwise b) = KeepsAt kind low next X σs b
KeepsAll kind low next X σs (row g t b ∣ rows) = Both (T t → Keeps low next X σs b) (KeepsAll kind low next X σs rows)

-- What a body keeps to it keeps to wherever it begins.
pub anywhere : (kind low next : ℕ) (X : List Sort → Type 0) (σs : List Sort) (b : Body) → Keeps low next X σs b → KeepsAt kind low next X σs b
unfolding Keeps KeepsAt
anywhere kind low next X σs end k = k
anywhere kind low next X σs (fail n x) k = k
anywhere kind low next X σs (goto q) k = k
anywhere kind low next X σs (eat j ▸ b) k = λ e. k
anywhere kind low next X σs (leaf t fs ▸ b) k = k
anywhere kind low next X σs (close t fs ▸ b) k = k
anywhere kind low next X σs (sub q ▸ b) k = (k.0, (λ τs x. k.1 τs (wherever kind q τs x)))
anywhere kind low next X σs (deep q ▸ b) k = k
