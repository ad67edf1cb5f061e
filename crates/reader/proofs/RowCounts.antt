-- How many trees stand in a row: at most one for each byte of the source. Whatever adds a tree takes a byte for it. What a phrase may add beyond
-- the bytes that it takes, and that each of its productions keeps to that: one line for each phrase, computed.
-- Assumes nothing.
use mathlib.Core.Path.{◌≡◌, subst}
use mathlib.Core.Bool.{Bool, true, false, ◌&&◌, ◌||◌, not}
use mathlib.Core.List.{List, [], ◌∷◌}
use mathlib.Core.Logic.{◌⊎◌, inl, inr}
use Prim.Native.Nat.{ℕ, ◌+◌, ◌-◌, ◌≤◌}
use native.Mathlib.Omega.{arith}
use lib.Dec.{T, T_not, eqb, eqb_refl, leb, leb→le}
use Rattle.lexemes.specs.Kinds.{EOF}
use Rattle.grammar.specs.Trees.{Field, Trees, tree, ◌⊕◌, count}
use Rattle.grammar.specs.Trees as trees
use Rattle.grammar.specs.Lexemes.{good, Lexeme, kind_of, stop_of, Ranged}
use Rattle.grammar.specs.Productions.{Phrase, Body, end, goto, fail, ◌▸◌, eat, leaf, sub, deep, close, row, Table, otherwise, ◌∣◌, View, rule, signs, operators, sign_rows, operator_rows}
use Rattle.grammar.specs.Productions.{expr, infix_tail, suffixed, suffix, null_safe, null_safe_index, bracket, member_name, null_safe_end, index_or_slice, slice_end, slice_ended, slice_step}
use Rattle.grammar.specs.Productions.{slice_stepped, arguments, argument, argument_end, call_close, call_end, named_argument, basic, string, array, array_first, array_comp, array_comp_end, elements}
use Rattle.grammar.specs.Productions.{next_element, inside, member, members, next_member, comprehension, comprehension_end, field, field_named, field_value, params, params_end, param, param_default}
use Rattle.grammar.specs.Productions.{binds, binds_end, local_body, bind, bind_named, bind_function, else_part, function_body, assertion, condition, asserted, clauses, more_clauses, for_clause}
use Rattle.grammar.specs.Productions.{header, if_clause, iteration, iteration_value, pattern, array_pattern, pattern_starts, pattern_starts_end, array_rest, array_rest_end, pattern_ends, pattern_ends_end}
use Rattle.grammar.specs.Productions.{array_pattern_close, object_pattern, pattern_fields, pattern_fields_end, object_rest, object_rest_end, object_pattern_close, pattern_field, pattern_into}
use Rattle.grammar.specs.Productions.{pattern_default, default_value, default_end}
use Rattle.grammar.specs.Reading.{has, choose, view, production, done, Reading, ended, gone, eaten, leafed, closed, subbed, deepened, Reads}
use Rattle.grammar.proofs.Chosen.{and_left, and_right, or_cases}
use Rattle.grammar.proofs.Obeys.{ranged_rest, onward}

-- ── The account ───────────────────────────────────────────────────────────────────────────────────

-- How many trees a phrase may add beyond one for each byte that it takes.
unfoldable lends : Phrase → ℕ
lends (expr least) = 0
lends (infix_tail least) = 0
lends suffixed = 0
lends (suffix f) = 0
lends (null_safe f) = 1
lends (null_safe_index f) = 0
lends (null_safe_end f a) = 0
lends (member_name f n) = 1
lends (bracket f) = 0
lends (index_or_slice f a) = 0
lends (slice_end b i j) = 0
lends (slice_ended b i j a) = 0
lends (slice_step b i j k l) = 0
lends (slice_stepped b i j k l a) = 0
lends (arguments a u n) = 0
lends (argument a u n) = 0
lends named_argument = 0
lends (argument_end a u n) = 0
lends (call_close a u n) = 0
lends (call_end a u n) = 1
lends basic = 0
lends string = 0
lends array = 0
lends array_first = 0
lends array_comp = 0
lends array_comp_end = 0
lends elements = 0
lends next_element = 0
lends member = 0
lends inside = 1
lends (members c) = 1
lends (next_member c) = 1
lends (comprehension c) = 1
lends (comprehension_end m) = 1
lends field = 0
lends (field_named c a) = 0
lends (field_value i j c p m) = 0
lends params = 1
lends params_end = 0
lends param = 1
lends param_default = 1
lends binds = 0
lends binds_end = 0
lends local_body = 0
lends bind = 0
lends bind_named = 0
lends bind_function = 0
lends (else_part i j) = 1
lends (function_body i j) = 1
lends assertion = 0
lends condition = 1
lends (asserted a) = 1
lends clauses = 0
lends more_clauses = 0
lends for_clause = 0
lends header = 0
lends (iteration key) = 0
lends (iteration_value visibility key) = 0
lends (if_clause i j) = 1
lends pattern = 0
lends array_pattern = 0
lends pattern_starts = 0
lends pattern_starts_end = 0
lends (array_rest n) = 0
lends (array_rest_end n r w) = 0
lends (pattern_ends n r w) = 0
lends (pattern_ends_end n r w) = 0
lends (array_pattern_close n r w) = 0
lends object_pattern = 0
lends pattern_fields = 0
lends pattern_fields_end = 0
lends object_rest = 0
lends (object_rest_end r w) = 0
lends (object_pattern_close r w) = 0
lends pattern_field = 0
lends (pattern_into w) = 1
lends (pattern_default h w) = 1
lends (default_value h w) = 1
lends (default_end h w a) = 1

-- With so much credit a production ends without debt. A leaf takes whatever stands next, so one is let pass as the first step only, and where something
-- does.
unfoldable keeps : Bool → ℕ → Body → Bool
unfolding lends
keeps some g end = true
keeps some g (fail n x) = true
keeps some g (goto q) = leb (lends q) g
keeps some g (eat k ▸ b) = not (eqb k EOF) && keeps false (g + 1) b
keeps some g (leaf t fs ▸ b) = some && keeps false g b
keeps some g (close t fs ▸ b) = leb 1 g && keeps false (g - 1) b
keeps some g (sub q ▸ b) = leb (lends q) g && keeps false (g - lends q) b
keeps some g (deep q ▸ b) = leb (lends q) g && keeps false (g - lends q) b

-- So does every production whose test holds.
unfoldable keeps_all : Bool → ℕ → Table → Bool
unfolding keeps
keeps_all some g (otherwise b) = keeps some g b
keeps_all some g (row w t b ∣ rows) = (keeps some g b || not t) && keeps_all some g rows

-- ── Each phrase ───────────────────────────────────────────────────────────────────────────────────

-- Where a lexeme stands next, and where none does.
abbrev Kept : ℕ → Phrase → Type 0
Kept prefix q = ((v : View) → T (keeps_all true (lends q) (rule prefix q v))) × ((p n : ℕ) → T (keeps_all false (lends q) (rule prefix q (view p [] n))))

module _ (prefix : ℕ) where
  each : (q : Phrase) → Kept prefix q
  unfolding rule signs operators sign_rows operator_rows keeps_all keeps lends view good
  each (expr least) = ((λ v. tt), (λ p n. tt))
  each (infix_tail least) = ((λ v. tt), (λ p n. tt))
  each suffixed = ((λ v. tt), (λ p n. tt))
  each (suffix f) = ((λ v. tt), (λ p n. tt))
  each (null_safe f) = ((λ v. tt), (λ p n. tt))
  each (null_safe_index f) = ((λ v. tt), (λ p n. tt))
  each (null_safe_end f a) = ((λ v. tt), (λ p n. tt))
  each (member_name f n) = ((λ v. tt), (λ p n. tt))
  each (bracket f) = ((λ v. tt), (λ p n. tt))
  each (index_or_slice f a) = ((λ v. tt), (λ p n. tt))
  each (slice_end b i j) = ((λ v. tt), (λ p n. tt))
  each (slice_ended b i j a) = ((λ v. tt), (λ p n. tt))
  each (slice_step b i j k l) = ((λ v. tt), (λ p n. tt))
  each (slice_stepped b i j k l a) = ((λ v. tt), (λ p n. tt))
  each (arguments a u n) = ((λ v. tt), (λ p n. tt))
  each (argument a u n) = ((λ v. tt), (λ p n. tt))
  each named_argument = ((λ v. tt), (λ p n. tt))
  each (argument_end a u n) = ((λ v. tt), (λ p n. tt))
  each (call_close a u n) = ((λ v. tt), (λ p n. tt))
  each (call_end a u n) = ((λ v. tt), (λ p n. tt))
  each basic = ((λ v. tt), (λ p n. tt))
  each string = ((λ v. tt), (λ p n. tt))
  each array = ((λ v. tt), (λ p n. tt))
  each array_first = ((λ v. tt), (λ p n. tt))
  each array_comp = ((λ v. tt), (λ p n. tt))
  each array_comp_end = ((λ v. tt), (λ p n. tt))
  each elements = ((λ v. tt), (λ p n. tt))
  each next_element = ((λ v. tt), (λ p n. tt))
  each member = ((λ v. tt), (λ p n. tt))
  each inside = ((λ v. tt), (λ p n. tt))
  each (members c) = ((λ v. tt), (λ p n. tt))
  each (next_member c) = ((λ v. tt), (λ p n. tt))
  each (comprehension c) = ((λ v. tt), (λ p n. tt))
  each (comprehension_end m) = ((λ v. tt), (λ p n. tt))
  each field = ((λ v. tt), (λ p n. tt))
  each (field_named c a) = ((λ v. tt), (λ p n. tt))
  each (field_value i j c p m) = ((λ v. tt), (λ p n. tt))
  each params = ((λ v. tt), (λ p n. tt))
  each params_end = ((λ v. tt), (λ p n. tt))
  each param = ((λ v. tt), (λ p n. tt))
  each param_default = ((λ v. tt), (λ p n. tt))
  each binds = ((λ v. tt), (λ p n. tt))
  each binds_end = ((λ v. tt), (λ p n. tt))
  each local_body = ((λ v. tt), (λ p n. tt))
  each bind = ((λ v. tt), (λ p n. tt))
  each bind_named = ((λ v. tt), (λ p n. tt))
  each bind_function = ((λ v. tt), (λ p n. tt))
  each (else_part i j) = ((λ v. tt), (λ p n. tt))
  each (function_body i j) = ((λ v. tt), (λ p n. tt))
  each assertion = ((λ v. tt), (λ p n. tt))
  each condition = ((λ v. tt), (λ p n. tt))
  each (asserted a) = ((λ v. tt), (λ p n. tt))
  each clauses = ((λ v. tt), (λ p n. tt))
  each more_clauses = ((λ v. tt), (λ p n. tt))
  each for_clause = ((λ v. tt), (λ p n. tt))
  each header = ((λ v. tt), (λ p n. tt))
  each (iteration key) = ((λ v. tt), (λ p n. tt))
  each (iteration_value visibility key) = ((λ v. tt), (λ p n. tt))
  each (if_clause i j) = ((λ v. tt), (λ p n. tt))
  each pattern = ((λ v. tt), (λ p n. tt))
  each array_pattern = ((λ v. tt), (λ p n. tt))
  each pattern_starts = ((λ v. tt), (λ p n. tt))
  each pattern_starts_end = ((λ v. tt), (λ p n. tt))
  each (array_rest n) = ((λ v. tt), (λ p n. tt))
  each (array_rest_end n r w) = ((λ v. tt), (λ p n. tt))
  each (pattern_ends n r w) = ((λ v. tt), (λ p n. tt))
  each (pattern_ends_end n r w) = ((λ v. tt), (λ p n. tt))
  each (array_pattern_close n r w) = ((λ v. tt), (λ p n. tt))
  each object_pattern = ((λ v. tt), (λ p n. tt))
  each pattern_fields = ((λ v. tt), (λ p n. tt))
  each pattern_fields_end = ((λ v. tt), (λ p n. tt))
  each object_rest = ((λ v. tt), (λ p n. tt))
  each (object_rest_end r w) = ((λ v. tt), (λ p n. tt))
  each (object_pattern_close r w) = ((λ v. tt), (λ p n. tt))
  each pattern_field = ((λ v. tt), (λ p n. tt))
  each (pattern_into w) = ((λ v. tt), (λ p n. tt))
  each (pattern_default h w) = ((λ v. tt), (λ p n. tt))
  each (default_value h w) = ((λ v. tt), (λ p n. tt))
  each (default_end h w a) = ((λ v. tt), (λ p n. tt))

-- ── Readings ──────────────────────────────────────────────────────────────────────────────────────

-- Whether a lexeme stands next.
abbrev some : List Lexeme → Bool
some [] = false
some (x ∷ xs) = true

some_of : (xs : List Lexeme) (k : ℕ) → T (not (eqb k EOF)) → kind_of xs ≡ k → T (some xs)
some_of [] k h e = absurd (T_not (eqb k EOF) h (subst (λ (m : ℕ). T (eqb m EOF)) e (eqb_refl EOF)))
some_of (x ∷ xs) k h e = tt

-- It has a byte.
a_byte : {size p : ℕ} {xs : List Lexeme} → Ranged size p xs → T (some xs) → p + 1 ≤ stop_of p xs
a_byte (Ranged.none h) t = absurd t
a_byte (Ranged.more a b c g) t = omega (arith, a, b)

pub ranged_within : {size p : ℕ} {xs : List Lexeme} → Ranged size p xs → p ≤ size
ranged_within (Ranged.none h) = h
ranged_within (Ranged.more a b c g) = omega (arith, a, b, ranged_within g)

count-row : (ts us : Trees) → count (ts ⊕ us) ≡ count ts + count us
unfolding ◌⊕◌ count
count-row trees.none us = omega arith
count-row (trees.node tag fields children ts) us = omega (arith, count-row ts us)

-- No record has more children.
pub data Narrow (n : ℕ) : Trees → Type 0 where
  none : Narrow n trees.none
  node : {tag : ℕ} {fields : List Field} {children ts : Trees} → count children ≤ n → Narrow n children → Narrow n ts → Narrow n (trees.node tag fields children ts)

narrow_row : {n : ℕ} {ts us : Trees} → Narrow n ts → Narrow n us → Narrow n (ts ⊕ us)
unfolding ◌⊕◌
narrow_row Narrow.none v = v
narrow_row (Narrow.node h w u) v = Narrow.node h w (narrow_row u v)

module _ (prefix s : ℕ) where
  chosen : (f : Bool) (g : ℕ) (t : Table) → T (keeps_all f g t) → T (keeps f g (choose s t))
  unfolding choose keeps_all
  chosen f g (otherwise b) h = h
  chosen f g (row w t b ∣ rows) h =
      by t (has s w) (and_left (keeps f g b || not t) (keeps_all f g rows) h) (chosen f g rows (and_right (keeps f g b || not t) (keeps_all f g rows) h))
    where
      either : T (keeps f g b) ⊎ T false → T (keeps f g b)
      either (inl x) = x
      either (inr x) = absurd x

      by : (t a : Bool) → T (keeps f g b || not t) → T (keeps f g (choose s rows)) → T (keeps f g (elim (t && a) [ true ↦ b | false ↦ choose s rows ]))
      by true true k l = either (or_cases (keeps f g b) false k)
      by true false k l = l
      by false a k l = l

  keeps_production : (q : Phrase) (p : ℕ) (xs : List Lexeme) (n : ℕ) → T (keeps (some xs) (lends q) (production prefix s q p xs n))
  unfolding production
  keeps_production q p [] n = chosen false (lends q) (rule prefix q (view p [] n)) ((each prefix q).1 p n)
  keeps_production q p (x ∷ xs) n = chosen true (lends q) (rule prefix q (view p (x ∷ xs) n)) ((each prefix q).0 (view p (x ∷ xs) n))

  -- What a phrase adds, and that no row has become too long.
  added : {size : ℕ} {b : Body} {ts us : Trees} {d p r : ℕ} {xs ys : List Lexeme} → Reading prefix s b ts d p xs (done us r ys) → Ranged size p xs
      → (f : Bool) → (T f → T (some xs)) → (g : ℕ) → T (keeps f g b) → count ts + g ≤ p + 1 → Narrow size ts
      → (count us + p ≤ count ts + r + g) × Narrow size us
  unfolding keeps count
  added ended o f l g k h w = (omega arith, w)
  added (gone {q} {ts} {d} {p} {xs} x) o f l g k h w =
      let m = leb→le (lends q) g k in
      let z = added x o (some xs) (λ t. t) (lends q) (keeps_production q p xs (count ts)) (omega (arith, m, h)) w in
      (omega (arith, m, z.0), z.1)
  added (eaten {k = n} {b} {xs = xs} e x) o f l g k h w =
      let m = a_byte o (some_of xs n (and_left (not (eqb n EOF)) (keeps false (g + 1) b) k) e) in
      let z = added x (ranged_rest o) false (λ t. absurd t) (g + 1) (and_right (not (eqb n EOF)) (keeps false (g + 1) b) k) (omega (arith, m, h)) w in
      (omega (arith, m, z.0), z.1)
  added (leafed {t} {fs} {b} {ts} x) o f l g k h w =
      let m = a_byte o (l (and_left f (keeps false g b) k)) in
      let c = count-row ts (tree t fs trees.none) in
      let z = added x (ranged_rest o) false (λ t. absurd t) g (and_right f (keeps false g b) k) (omega (arith, m, h, c)) (narrow_row w (Narrow.node (omega arith) Narrow.none Narrow.none)) in
      (omega (arith, m, c, z.0), z.1)
  added (closed {t} {fs} {b} {ts} x) o f l g k h w =
      let m = leb→le 1 g (and_left (leb 1 g) (keeps false (g - 1) b) k) in
      let z = added x o false (λ t. absurd t) (g - 1) (and_right (leb 1 g) (keeps false (g - 1) b) k) (omega (arith, m, h)) (Narrow.node (omega (arith, m, h, ranged_within o)) w Narrow.none) in
      (omega (arith, m, z.0), z.1)
  added (subbed {q} {b} {ts} {us = vs} {p = p} {xs = xs} x y) o f l g k h w =
      let m = leb→le (lends q) g (and_left (leb (lends q) g) (keeps false (g - lends q) b) k) in
      let u = added x o (some xs) (λ t. t) (lends q) (keeps_production q p xs 0) (omega (arith, m, h)) Narrow.none in
      let c = count-row ts vs in
      let z = added y (onward prefix s x o).2 false (λ t. absurd t) (g - lends q) (and_right (leb (lends q) g) (keeps false (g - lends q) b) k) (omega (arith, m, h, c, u.0)) (narrow_row w u.1) in
      (omega (arith, m, c, u.0, z.0), z.1)
  added (deepened {q} {b} {ts} {us = vs} {p = p} {xs = xs} x y) o f l g k h w =
      let m = leb→le (lends q) g (and_left (leb (lends q) g) (keeps false (g - lends q) b) k) in
      let u = added x o (some xs) (λ t. t) (lends q) (keeps_production q p xs 0) (omega (arith, m, h)) Narrow.none in
      let c = count-row ts vs in
      let z = added y (onward prefix s x o).2 false (λ t. absurd t) (g - lends q) (and_right (leb (lends q) g) (keeps false (g - lends q) b) k) (omega (arith, m, h, c, u.0)) (narrow_row w u.1) in
      (omega (arith, m, c, u.0, z.0), z.1)

  -- NO RECORD HAS MORE CHILDREN THAN THE SOURCE HAS BYTES.
  pub rows_narrow : {size depth : ℕ} {xs : List Lexeme} {us : Trees} {r : ℕ} {ys : List Lexeme} → Ranged size 0 xs → Reads prefix s depth xs (done us r ys) → Narrow size us
  unfolding lends ◌⊕◌ count
  rows_narrow {xs = xs} o (deepened x (eaten e ended)) = (added x o (some xs) (λ t. t) 0 (keeps_production (expr 0) 0 xs 0) (omega arith) Narrow.none).1
