-- Where spans end: none behind the source. A phrase carries ends of spans on to the record that will have them; each production carries on, and writes,
-- only such as stand in the source: a line for each phrase.
-- Assumes nothing.
use mathlib.Core.Bool.{Bool, true, false, ◌&&◌}
use mathlib.Core.List.{List, [], ◌∷◌}
use Prim.Native.Nat.{ℕ, ◌≤◌}
use native.Mathlib.Omega.{arith}
use Rattle.grammar.specs.Trees.{Field, byte, number, span, text, Trees, ◌⊕◌, count}
use Rattle.grammar.specs.Trees as trees
use Rattle.grammar.specs.Lexemes.{Lexeme, Ranged}
use Rattle.grammar.specs.Productions.{Phrase, Body, end, goto, fail, ◌▸◌, eat, leaf, sub, deep, close, row, Table, otherwise, ◌∣◌, View, rule, Sign, sign, signs, sign_rows, Operator, op, operators, operator_rows}
use Rattle.grammar.specs.Productions.{expr, infix_tail, suffixed, suffix, null_safe, null_safe_index, bracket, member_name, null_safe_end, index_or_slice, slice_end, slice_ended, slice_step}
use Rattle.grammar.specs.Productions.{slice_stepped, arguments, argument, argument_end, call_close, call_end, named_argument, basic, string, array, array_first, array_comp, array_comp_end, elements}
use Rattle.grammar.specs.Productions.{next_element, inside, member, members, next_member, comprehension, comprehension_end, field, field_named, field_value, params, params_end, param, param_default}
use Rattle.grammar.specs.Productions.{binds, binds_end, local_body, bind, bind_named, bind_function, else_part, function_body, assertion, condition, asserted, clauses, more_clauses, for_clause}
use Rattle.grammar.specs.Productions.{header, if_clause, iteration, iteration_value, pattern, array_pattern, pattern_starts, pattern_starts_end, array_rest, array_rest_end, pattern_ends, pattern_ends_end}
use Rattle.grammar.specs.Productions.{array_pattern_close, object_pattern, pattern_fields, pattern_fields_end, object_rest, object_rest_end, object_pattern_close, pattern_field, pattern_into}
use Rattle.grammar.specs.Productions.{pattern_default, default_value, default_end}
use Rattle.grammar.specs.Reading.{has, choose, view, production, done, Reading, ended, gone, eaten, leafed, closed, subbed, deepened, Reads}
use Rattle.grammar.proofs.Obeys.{ranged_rest, onward}
use Rattle.reader.proofs.RowCounts.{ranged_within}

-- ── What is asked ─────────────────────────────────────────────────────────────────────────────────

abbrev pub Below : ℕ → List ℕ → Type 0
Below n [] = Unit
Below n (x ∷ xs) = (x ≤ n) × Below n xs

-- Where the spans of a record end.
abbrev pub stops : List Field → List ℕ
stops [] = []
stops (byte b ∷ fs) = stops fs
stops (number n ∷ fs) = stops fs
stops (span a e ∷ fs) = e ∷ stops fs
stops (text w ∷ fs) = stops fs

-- The ends that a phrase carries on.
abbrev ends : Phrase → List ℕ
ends (expr least) = []
ends (infix_tail least) = []
ends suffixed = []
ends (suffix f) = []
ends (null_safe f) = []
ends (null_safe_index f) = []
ends (null_safe_end f a) = []
ends (member_name f n) = []
ends (bracket f) = []
ends (index_or_slice f a) = []
ends (slice_end b i j) = j ∷ []
ends (slice_ended b i j a) = j ∷ []
ends (slice_step b i j k l) = j ∷ l ∷ []
ends (slice_stepped b i j k l a) = j ∷ l ∷ []
ends (arguments a u n) = []
ends (argument a u n) = []
ends named_argument = []
ends (argument_end a u n) = []
ends (call_close a u n) = []
ends (call_end a u n) = []
ends basic = []
ends string = []
ends array = []
ends array_first = []
ends array_comp = []
ends array_comp_end = []
ends elements = []
ends next_element = []
ends member = []
ends inside = []
ends (members c) = []
ends (next_member c) = []
ends (comprehension c) = []
ends (comprehension_end m) = []
ends field = []
ends (field_named c a) = []
ends (field_value i j c p m) = j ∷ []
ends params = []
ends params_end = []
ends param = []
ends param_default = []
ends binds = []
ends binds_end = []
ends local_body = []
ends bind = []
ends bind_named = []
ends bind_function = []
ends (else_part i j) = j ∷ []
ends (function_body i j) = j ∷ []
ends assertion = []
ends condition = []
ends (asserted a) = []
ends clauses = []
ends more_clauses = []
ends for_clause = []
ends header = []
ends (iteration key) = []
ends (iteration_value visibility key) = []
ends (if_clause i j) = j ∷ []
ends pattern = []
ends array_pattern = []
ends pattern_starts = []
ends pattern_starts_end = []
ends (array_rest n) = []
ends (array_rest_end n r w) = []
ends (pattern_ends n r w) = []
ends (pattern_ends_end n r w) = []
ends (array_pattern_close n r w) = []
ends object_pattern = []
ends pattern_fields = []
ends pattern_fields_end = []
ends object_rest = []
ends (object_rest_end r w) = []
ends (object_pattern_close r w) = []
ends pattern_field = []
ends (pattern_into w) = []
ends (pattern_default h w) = []
ends (default_value h w) = []
ends (default_end h w a) = []

-- A production writes and carries on no other.
unfoldable Stops : ℕ → Body → Type 0
Stops n end = Unit
Stops n (fail m x) = Unit
Stops n (goto q) = Below n (ends q)
Stops n (eat k ▸ b) = Stops n b
Stops n (leaf t fs ▸ b) = Below n (stops fs) × Stops n b
Stops n (close t fs ▸ b) = Below n (stops fs) × Stops n b
Stops n (sub q ▸ b) = Below n (ends q) × Stops n b
Stops n (deep q ▸ b) = Below n (ends q) × Stops n b

unfoldable StopsAll : ℕ → Table → Type 0
StopsAll n (otherwise b) = Stops n b
StopsAll n (row w t b ∣ rows) = Stops n b × StopsAll n rows

-- ── Each phrase ───────────────────────────────────────────────────────────────────────────────────

module _ (prefix n : ℕ) (v : View) (next : v.stop ≤ n) (behind : v.before ≤ n) where
  sign-stops : (least : ℕ) (xs : List Sign) → StopsAll n (sign_rows prefix least v xs)
  unfolding Stops StopsAll sign_rows
  sign-stops least [] = (tt, tt)
  sign-stops least (sign k o ∷ xs) = ((tt, (tt, tt)), sign-stops least xs)

  operator_stops : (least : ℕ) (xs : List Operator) → StopsAll n (operator_rows least v xs)
  unfolding Stops StopsAll operator_rows
  operator_stops least [] = tt
  operator_stops least (op k g l r o ∷ xs) = ((tt, ((omega arith, tt), tt)), operator_stops least xs)

  each : (q : Phrase) → Below n (ends q) → StopsAll n (rule prefix q v)
  unfolding rule signs operators Stops StopsAll
  each (expr least) held = sign-stops least signs
  each (infix_tail least) held = operator_stops least operators
  each suffixed held = (tt, tt)
  each (suffix f) held = (tt, (tt, (tt, (tt, ((tt, (tt, tt)), tt)))))
  each (null_safe f) held = (tt, tt)
  each (null_safe_index f) held = (tt, tt)
  each (null_safe_end f a) held = ((omega arith, tt), tt)
  each (member_name f n) held = ((tt, ((omega arith, tt), tt)), tt)
  each (bracket f) held = ((omega arith, tt), (tt, tt))
  each (index_or_slice f a) held = ((omega arith, tt), ((omega arith, tt), tt))
  each (slice_end b i j) held = ((omega arith, (omega arith, tt)), (((omega arith, (omega arith, (omega arith, tt))), tt), (tt, (omega arith, tt))))
  each (slice_ended b i j a) held = ((omega arith, (omega arith, tt)), ((omega arith, (omega arith, (omega arith, tt))), tt))
  each (slice_step b i j k l) held = (((omega arith, (omega arith, (omega arith, tt))), tt), (tt, (omega arith, (omega arith, tt))))
  each (slice_stepped b i j k l a) held = ((omega arith, (omega arith, (omega arith, tt))), tt)
  each (arguments a u n) held = (tt, tt)
  each (argument a u n) held = ((tt, tt), ((tt, tt), tt))
  each named_argument held = (tt, (tt, tt))
  each (argument_end a u n) held = (tt, tt)
  each (call_close a u n) held = tt
  each (call_end a u n) held = (((omega arith, tt), tt), ((omega arith, tt), tt))
  each basic held = (((omega arith, tt), tt), (((omega arith, tt), tt), (((omega arith, tt), tt), ((tt, tt), ((tt, tt), ((tt, tt), (tt, ((tt, tt), (tt, ((tt, tt), (tt, ((tt, tt), (tt, ((tt, (tt, (omega arith, tt))), ((tt, (omega arith, tt)), ((tt, (tt, (tt, tt))), ((tt, ((omega arith, tt), tt)), ((tt, ((omega arith, tt), tt)), ((tt, ((omega arith, tt), tt)), ((tt, ((omega arith, tt), tt)), (((omega arith, tt), tt), tt)))))))))))))))))))))
  each string held = ((tt, tt), tt)
  each array held = ((tt, tt), (tt, tt))
  each array_first held = (tt, (tt, tt))
  each array_comp held = (tt, tt)
  each array_comp_end held = (tt, tt)
  each elements held = (tt, (tt, tt))
  each next_element held = ((tt, tt), (tt, tt))
  each member held = ((tt, tt), ((tt, tt), (tt, tt)))
  each inside held = ((tt, tt), (tt, tt))
  each (members c) held = (tt, (tt, (tt, tt)))
  each (next_member c) held = ((tt, tt), (tt, (tt, tt)))
  each (comprehension c) held = ((tt, tt), (tt, tt))
  each (comprehension_end m) held = (tt, tt)
  each field held = ((tt, tt), ((tt, tt), ((tt, tt), tt)))
  each (field_named c a) held = ((tt, (omega arith, tt)), ((omega arith, tt), (omega arith, tt)))
  each (field_value i j c p m) held = ((tt, ((omega arith, tt), tt)), ((tt, ((omega arith, tt), tt)), (tt, ((omega arith, tt), tt))))
  each params held = (tt, (tt, tt))
  each params_end held = (tt, tt)
  each param held = (tt, tt)
  each param_default held = ((tt, (tt, tt)), (tt, tt))
  each binds held = (tt, (tt, tt))
  each binds_end held = (tt, tt)
  each local_body held = (tt, (tt, tt))
  each bind held = (((omega arith, tt), tt), (tt, (tt, (tt, tt))))
  each bind_named held = ((tt, tt), (tt, (tt, tt)))
  each bind_function held = (tt, (tt, tt))
  each (else_part i j) held = ((tt, ((omega arith, tt), tt)), ((omega arith, tt), tt))
  each (function_body i j) held = (tt, ((omega arith, tt), tt))
  each assertion held = tt
  each condition held = (tt, tt)
  each (asserted a) held = ((tt, ((omega arith, tt), tt)), ((omega arith, tt), tt))
  each clauses held = (tt, tt)
  each more_clauses held = ((tt, tt), (((omega arith, tt), tt), tt))
  each for_clause held = ((tt, tt), (tt, (tt, (tt, tt))))
  each header held = tt
  each (iteration key) held = (tt, (tt, tt))
  each (iteration_value visibility key) held = (tt, (tt, (tt, tt)))
  each (if_clause i j) held = (tt, ((omega arith, tt), tt))
  each pattern held = (((omega arith, tt), tt), ((tt, tt), ((tt, tt), ((tt, tt), (tt, tt)))))
  each array_pattern held = tt
  each pattern_starts held = (tt, (tt, (tt, tt)))
  each pattern_starts_end held = (tt, tt)
  each (array_rest n) held = (tt, tt)
  each (array_rest_end n r w) held = (tt, tt)
  each (pattern_ends n r w) held = (tt, (tt, tt))
  each (pattern_ends_end n r w) held = (tt, tt)
  each (array_pattern_close n r w) held = (tt, tt)
  each object_pattern held = tt
  each pattern_fields held = (tt, (tt, (tt, tt)))
  each pattern_fields_end held = (tt, tt)
  each object_rest held = (tt, tt)
  each (object_rest_end r w) held = (tt, tt)
  each (object_pattern_close r w) held = (tt, tt)
  each pattern_field held = tt
  each (pattern_into w) held = ((tt, tt), tt)
  each (pattern_default h w) held = (tt, ((omega arith, tt), tt))
  each (default_value h w) held = (tt, tt)
  each (default_end h w a) held = ((omega arith, tt), tt)

-- ── Readings ──────────────────────────────────────────────────────────────────────────────────────

-- No span of a record ends later.
pub data Ending (n : ℕ) : Trees → Type 0 where
  none : Ending n trees.none
  node : {tag : ℕ} {fields : List Field} {children ts : Trees} → Below n (stops fields) → Ending n children → Ending n ts → Ending n (trees.node tag fields children ts)

ending_row : {n : ℕ} {ts us : Trees} → Ending n ts → Ending n us → Ending n (ts ⊕ us)
unfolding ◌⊕◌
ending_row Ending.none v = v
ending_row (Ending.node h w u) v = Ending.node h w (ending_row u v)

module _ (prefix s : ℕ) where
  chosen : (n : ℕ) (t : Table) → StopsAll n t → Stops n (choose s t)
  unfolding choose StopsAll
  chosen n (otherwise b) k = k
  chosen n (row w t b ∣ rows) k = by (t && has s w) (chosen n rows k.1)
    where
      by : (a : Bool) → Stops n (choose s rows) → Stops n (elim a [ true ↦ b | false ↦ choose s rows ])
      by true h = k.0
      by false h = h

  stops-production : {size : ℕ} (q : Phrase) (p : ℕ) (xs : List Lexeme) (n : ℕ) → Ranged size p xs → Below size (ends q) → Stops size (production prefix s q p xs n)
  unfolding production view
  stops-production {size} q p xs n o h =
      chosen size (rule prefix q (view p xs n)) (each prefix size (view p xs n) (ranged_within (ranged_rest o)) (ranged_within o) q h)

  ending : {size : ℕ} {b : Body} {ts us : Trees} {d p r : ℕ} {xs ys : List Lexeme} → Reading prefix s b ts d p xs (done us r ys) → Ranged size p xs → Ending size ts → Stops size b
      → Ending size us
  unfolding Stops
  ending ended o w k = w
  ending (gone {q} {ts} {d} {p} {xs} x) o w k = ending x o w (stops-production q p xs (count ts) o k)
  ending (eaten e x) o w k = ending x (ranged_rest o) w k
  ending (leafed x) o w k = ending x (ranged_rest o) (ending_row w (Ending.node k.0 Ending.none Ending.none)) k.1
  ending (closed x) o w k = ending x o (Ending.node k.0 w Ending.none) k.1
  ending (subbed {q} {p = p} {xs = xs} x y) o w k = ending y (onward prefix s x o).2 (ending_row w (ending x o Ending.none (stops-production q p xs 0 o k.0))) k.1
  ending (deepened {q} {p = p} {xs = xs} x y) o w k = ending y (onward prefix s x o).2 (ending_row w (ending x o Ending.none (stops-production q p xs 0 o k.0))) k.1

  -- NO SPAN ENDS BEHIND THE SOURCE.
  pub spans_end : {size depth : ℕ} {xs : List Lexeme} {us : Trees} {r : ℕ} {ys : List Lexeme} → Ranged size 0 xs → Reads prefix s depth xs (done us r ys) → Ending size us
  unfolding Stops
  spans_end o x = ending x o Ending.none (tt, tt)
