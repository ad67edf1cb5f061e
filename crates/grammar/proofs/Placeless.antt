-- Places decide nothing: a reading without its places is a reading. So lexemes that agree in kind and in what they say, wherever they stand, have
-- outcomes that are the same but for spans, with as many lexemes left. (A bad escape's detail is a place: where its lexeme is told, it is too.)
-- Assumes nothing.
use mathlib.Core.Path.{◌≡◌, refl, sym, ap, subst, ◌∙◌}
use mathlib.Core.Bool.{Bool, true, false, cond, not, ◌&&◌, ◌||◌}
use mathlib.Core.List.{List, [], ◌∷◌}
use Prim.Native.Nat.{ℕ, suc, ◌+◌, ◌-◌, ◌≤◌}
use native.Mathlib.Omega.{arith}
use lib.Dec.{T, eqb, leb, leb→le, le→leb}
use borrow.Author.Tests.{eq-eqb}
use Rattle.grammar.specs.Tags.{STRING}
use Rattle.grammar.specs.Numbers.{ESCAPE}
use Rattle.grammar.specs.Trees.{text, Trees, none, node, tree, ◌⊕◌, count}
use Rattle.grammar.specs.Lexemes.{good, said, spoiled_at, Lexeme, rest, kind_of, start_of, stop_of}
use Rattle.grammar.specs.Productions.{Phrase, Body, end, goto, fail, ◌▸◌, Step, eat, leaf, sub, deep, close, row, Table, otherwise, ◌∣◌, when◌⟹◌, View, rule, source}
use Rattle.grammar.specs.Productions.{expr, infix_tail, suffixed, suffix, null_safe, null_safe_index, bracket, member_name, null_safe_end, index_or_slice, slice_end, slice_ended, slice_step}
use Rattle.grammar.specs.Productions.{slice_stepped, arguments, argument, argument_end, call_close, call_end, named_argument, basic, string, array, array_first, array_comp, array_comp_end, elements}
use Rattle.grammar.specs.Productions.{next_element, inside, member, members, next_member, comprehension, comprehension_end, field, field_named, field_value, params, params_end, param, param_default}
use Rattle.grammar.specs.Productions.{binds, binds_end, local_body, bind, bind_named, bind_function, else_part, function_body, assertion, condition, asserted, clauses, more_clauses, for_clause}
use Rattle.grammar.specs.Productions.{header, if_clause, iteration, iteration_value, pattern, array_pattern, pattern_starts, pattern_starts_end, array_rest, array_rest_end, pattern_ends, pattern_ends_end}
use Rattle.grammar.specs.Productions.{array_pattern_close, object_pattern, pattern_fields, pattern_fields_end, object_rest, object_rest_end, object_pattern_close, pattern_field, pattern_into}
use Rattle.grammar.specs.Productions.{pattern_default, default_value, default_end}
use Rattle.grammar.specs.Reading.{has, choose, view, production, Outcome, done, broken, Reading, ended, failed, gone, eaten, uneaten, leafed, closed, subbed, unsubbed, deepened, undeepened, too_deep, Reads}
use Rattle.grammar.proofs.Alike.{placeless, placeless_fields}
use Rattle.grammar.proofs.Chosen.{and_left, and_right, pick}
use Rattle.grammar.proofs.Once.{once}

-- ── The same without places ───────────────────────────────────────────────────────────────────────

unfoldable pub placeless_lexeme : Lexeme → Lexeme
placeless_lexeme x = record { kind = x.kind; start = 0; stop = 0; word = x.word }

unfoldable pub placeless_lexemes : List Lexeme → List Lexeme
placeless_lexemes [] = []
placeless_lexemes (x ∷ xs) = placeless_lexeme x ∷ placeless_lexemes xs

-- A bad escape's detail is a place in its lexeme, which starts at a.
unfoldable pub placeless_detail : ℕ → ℕ → ℕ → ℕ
placeless_detail n a x = cond (eqb n ESCAPE) (x - a) x

unfoldable pub placeless_outcome : Outcome → Outcome
placeless_outcome (done ts p xs) = done (placeless ts) 0 (placeless_lexemes xs)
placeless_outcome (broken n p xs x) = broken n 0 (placeless_lexemes xs) (placeless_detail n (start_of p xs) x)

-- A phrase's arguments that are places, as Productions.antt tells them.
unfoldable placeless_phrase : Phrase → Phrase
placeless_phrase (expr a) = expr a
placeless_phrase (infix_tail a) = infix_tail a
placeless_phrase suffixed = suffixed
placeless_phrase (suffix a) = suffix a
placeless_phrase (null_safe a) = null_safe a
placeless_phrase (null_safe_index a) = null_safe_index a
placeless_phrase (bracket a) = bracket a
placeless_phrase (member_name a b) = member_name a b
placeless_phrase (null_safe_end a b) = null_safe_end a 0
placeless_phrase (index_or_slice a b) = index_or_slice a 0
placeless_phrase (slice_end a b c) = slice_end a 0 0
placeless_phrase (slice_ended a b c d) = slice_ended a 0 0 0
placeless_phrase (slice_step a b c d e) = slice_step a 0 0 0 0
placeless_phrase (slice_stepped a b c d e f) = slice_stepped a 0 0 0 0 0
placeless_phrase (arguments a b c) = arguments 0 b c
placeless_phrase (argument a b c) = argument 0 b c
placeless_phrase (argument_end a b c) = argument_end 0 b c
placeless_phrase (call_close a b c) = call_close 0 b c
placeless_phrase (call_end a b c) = call_end 0 b c
placeless_phrase named_argument = named_argument
placeless_phrase basic = basic
placeless_phrase string = string
placeless_phrase array = array
placeless_phrase array_first = array_first
placeless_phrase array_comp = array_comp
placeless_phrase array_comp_end = array_comp_end
placeless_phrase elements = elements
placeless_phrase next_element = next_element
placeless_phrase inside = inside
placeless_phrase member = member
placeless_phrase (members a) = members a
placeless_phrase (next_member a) = next_member a
placeless_phrase (comprehension a) = comprehension a
placeless_phrase (comprehension_end a) = comprehension_end a
placeless_phrase field = field
placeless_phrase (field_named a b) = field_named a 0
placeless_phrase (field_value a b c d e) = field_value 0 0 c d e
placeless_phrase params = params
placeless_phrase params_end = params_end
placeless_phrase param = param
placeless_phrase param_default = param_default
placeless_phrase binds = binds
placeless_phrase binds_end = binds_end
placeless_phrase local_body = local_body
placeless_phrase bind = bind
placeless_phrase bind_named = bind_named
placeless_phrase bind_function = bind_function
placeless_phrase (else_part a b) = else_part 0 0
placeless_phrase (function_body a b) = function_body 0 0
placeless_phrase assertion = assertion
placeless_phrase condition = condition
placeless_phrase (asserted a) = asserted 0
placeless_phrase clauses = clauses
placeless_phrase more_clauses = more_clauses
placeless_phrase for_clause = for_clause
placeless_phrase header = header
placeless_phrase (if_clause a b) = if_clause 0 0
placeless_phrase (iteration a) = iteration a
placeless_phrase (iteration_value a b) = iteration_value a b
placeless_phrase pattern = pattern
placeless_phrase array_pattern = array_pattern
placeless_phrase pattern_starts = pattern_starts
placeless_phrase pattern_starts_end = pattern_starts_end
placeless_phrase (array_rest a) = array_rest a
placeless_phrase (array_rest_end a b c) = array_rest_end a b c
placeless_phrase (pattern_ends a b c) = pattern_ends a b c
placeless_phrase (pattern_ends_end a b c) = pattern_ends_end a b c
placeless_phrase (array_pattern_close a b c) = array_pattern_close a b c
placeless_phrase object_pattern = object_pattern
placeless_phrase pattern_fields = pattern_fields
placeless_phrase pattern_fields_end = pattern_fields_end
placeless_phrase object_rest = object_rest
placeless_phrase (object_rest_end a b) = object_rest_end a b
placeless_phrase (object_pattern_close a b) = object_pattern_close a b
placeless_phrase pattern_field = pattern_field
placeless_phrase (pattern_into a) = pattern_into a
placeless_phrase (pattern_default a b) = pattern_default a b
placeless_phrase (default_value a b) = default_value a b
placeless_phrase (default_end a b c) = default_end a b 0

unfoldable placeless_step : Step → Step
placeless_step (eat k) = eat k
placeless_step (leaf t fs) = leaf t (placeless_fields fs)
placeless_step (sub q) = sub (placeless_phrase q)
placeless_step (deep q) = deep (placeless_phrase q)
placeless_step (close t fs) = close t (placeless_fields fs)

-- Of a production for where the next lexeme starts at a.
unfoldable placeless_body : ℕ → Body → Body
placeless_body a end = end
placeless_body a (goto q) = goto (placeless_phrase q)
placeless_body a (fail n x) = fail n (placeless_detail n a x)
placeless_body a (st ▸ b) = placeless_step st ▸ placeless_body a b

unfoldable placeless_table : ℕ → Table → Table
placeless_table a (otherwise b) = otherwise (placeless_body a b)
placeless_table a (row g t b ∣ rows) = row g t (placeless_body a b) ∣ placeless_table a rows

unfoldable placeless_view : View → View
placeless_view v =
    record {
      kind = v.kind;
      kind₁ = v.kind₁;
      kind₂ = v.kind₂;
      kind₃ = v.kind₃;
      start = 0;
      stop = 0;
      before = 0;
      says = v.says;
      says₁ = v.says₁;
      count = v.count;
    }

-- ── No production looks at a place ────────────────────────────────────────────────────────────────

-- A bad escape is not told behind a step: it is told at its own lexeme, which starts at a, and lies there or further on.
unfoldable unescaped : Body → Bool
unescaped end = true
unescaped (goto q) = true
unescaped (fail n x) = not (eqb n ESCAPE)
unescaped (st ▸ b) = unescaped b

unfoldable steady : ℕ → Body → Bool
steady a end = true
steady a (goto q) = true
steady a (fail n x) = not (eqb n ESCAPE) || leb a x
steady a (st ▸ b) = unescaped b

unfoldable steady_table : ℕ → Table → Bool
steady_table a (otherwise b) = steady a b
steady_table a (row g t b ∣ rows) = steady a b && steady_table a rows

-- Each phrase's productions, where all places are 0, are its productions without their places. A line for each phrase.
rule_placeless : (prefix : ℕ) (q : Phrase) (v : View)
    → (rule prefix (placeless_phrase q) (placeless_view v) ≡ placeless_table v.start (rule prefix q v)) × T (steady_table v.start (rule prefix q v))
unfolding rule placeless_phrase placeless_view placeless_table placeless_body placeless_step placeless_fields placeless_detail steady_table steady unescaped
rule_placeless prefix (expr a) v = (refl, tt)
rule_placeless prefix (infix_tail a) v = (refl, tt)
rule_placeless prefix suffixed v = (refl, tt)
rule_placeless prefix (suffix a) v = (refl, tt)
rule_placeless prefix (null_safe a) v = (refl, tt)
rule_placeless prefix (null_safe_index a) v = (refl, tt)
rule_placeless prefix (bracket a) v = (refl, tt)
rule_placeless prefix (member_name a b) v = (refl, tt)
rule_placeless prefix (null_safe_end a b) v = (refl, tt)
rule_placeless prefix (index_or_slice a b) v = (refl, tt)
rule_placeless prefix (slice_end a b c) v = (refl, tt)
rule_placeless prefix (slice_ended a b c d) v = (refl, tt)
rule_placeless prefix (slice_step a b c d e) v = (refl, tt)
rule_placeless prefix (slice_stepped a b c d e f) v = (refl, tt)
rule_placeless prefix (arguments a b c) v = (refl, tt)
rule_placeless prefix (argument a b c) v = (refl, tt)
rule_placeless prefix (argument_end a b c) v = (refl, tt)
rule_placeless prefix (call_close a b c) v = (refl, tt)
rule_placeless prefix (call_end a b c) v = (refl, tt)
rule_placeless prefix named_argument v = (refl, tt)
rule_placeless prefix basic v = (refl, tt)
rule_placeless prefix string v =
    let m = spoiled_at v.says in
    let e : 0 + 1 + m ≡ v.start + 1 + m - v.start = omega arith in
    (ap (λ (x : ℕ). rows v (fail ESCAPE x)) e, le→leb v.start (v.start + 1 + m) (omega arith))
  where
    rows : View → Body → Table
    rows v b = when good v.says ⟹ leaf STRING (text (said v.says) ∷ []) ▸ end ∣ otherwise b
rule_placeless prefix array v = (refl, tt)
rule_placeless prefix array_first v = (refl, tt)
rule_placeless prefix array_comp v = (refl, tt)
rule_placeless prefix array_comp_end v = (refl, tt)
rule_placeless prefix elements v = (refl, tt)
rule_placeless prefix next_element v = (refl, tt)
rule_placeless prefix inside v = (refl, tt)
rule_placeless prefix member v = (refl, tt)
rule_placeless prefix (members a) v = (refl, tt)
rule_placeless prefix (next_member a) v = (refl, tt)
rule_placeless prefix (comprehension a) v = (refl, tt)
rule_placeless prefix (comprehension_end a) v = (refl, tt)
rule_placeless prefix field v = (refl, tt)
rule_placeless prefix (field_named a b) v = (refl, tt)
rule_placeless prefix (field_value a b c d e) v = (refl, tt)
rule_placeless prefix params v = (refl, tt)
rule_placeless prefix params_end v = (refl, tt)
rule_placeless prefix param v = (refl, tt)
rule_placeless prefix param_default v = (refl, tt)
rule_placeless prefix binds v = (refl, tt)
rule_placeless prefix binds_end v = (refl, tt)
rule_placeless prefix local_body v = (refl, tt)
rule_placeless prefix bind v = (refl, tt)
rule_placeless prefix bind_named v = (refl, tt)
rule_placeless prefix bind_function v = (refl, tt)
rule_placeless prefix (else_part a b) v = (refl, tt)
rule_placeless prefix (function_body a b) v = (refl, tt)
rule_placeless prefix assertion v = (refl, tt)
rule_placeless prefix condition v = (refl, tt)
rule_placeless prefix (asserted a) v = (refl, tt)
rule_placeless prefix clauses v = (refl, tt)
rule_placeless prefix more_clauses v = (refl, tt)
rule_placeless prefix for_clause v = (refl, tt)
rule_placeless prefix header v = (refl, tt)
rule_placeless prefix (if_clause a b) v = (refl, tt)
rule_placeless prefix (iteration a) v = (refl, tt)
rule_placeless prefix (iteration_value a b) v = (refl, tt)
rule_placeless prefix pattern v = (refl, tt)
rule_placeless prefix array_pattern v = (refl, tt)
rule_placeless prefix pattern_starts v = (refl, tt)
rule_placeless prefix pattern_starts_end v = (refl, tt)
rule_placeless prefix (array_rest a) v = (refl, tt)
rule_placeless prefix (array_rest_end a b c) v = (refl, tt)
rule_placeless prefix (pattern_ends a b c) v = (refl, tt)
rule_placeless prefix (pattern_ends_end a b c) v = (refl, tt)
rule_placeless prefix (array_pattern_close a b c) v = (refl, tt)
rule_placeless prefix object_pattern v = (refl, tt)
rule_placeless prefix pattern_fields v = (refl, tt)
rule_placeless prefix pattern_fields_end v = (refl, tt)
rule_placeless prefix object_rest v = (refl, tt)
rule_placeless prefix (object_rest_end a b) v = (refl, tt)
rule_placeless prefix (object_pattern_close a b) v = (refl, tt)
rule_placeless prefix pattern_field v = (refl, tt)
rule_placeless prefix (pattern_into a) v = (refl, tt)
rule_placeless prefix (pattern_default a b) v = (refl, tt)
rule_placeless prefix (default_value a b) v = (refl, tt)
rule_placeless prefix (default_end a b c) v = (refl, tt)

chosen_placeless : (s a : ℕ) (t : Table) → choose s (placeless_table a t) ≡ placeless_body a (choose s t)
unfolding choose placeless_table
chosen_placeless s a (otherwise b) = refl
chosen_placeless s a (row g t b ∣ rows) = by (t && has s g) (chosen_placeless s a rows)
  where
    by : (c : Bool) → choose s (placeless_table a rows) ≡ placeless_body a (choose s rows)
        → ◌≡◌ {A = Body} (elim c [ true ↦ placeless_body a b | false ↦ choose s (placeless_table a rows) ]) (placeless_body a (elim c [ true ↦ b | false ↦ choose s rows ]))
    by true e = refl
    by false e = e

chosen_steady : (s a : ℕ) (t : Table) → T (steady_table a t) → T (steady a (choose s t))
unfolding choose steady_table
chosen_steady s a (otherwise b) h = h
chosen_steady s a (row g t b ∣ rows) h =
    pick (λ (x : Body). T (steady a x)) (t && has s g) b (choose s rows) (and_left (steady a b) (steady_table a rows) h)
    (chosen_steady s a rows (and_right (steady a b) (steady_table a rows) h))

view_placeless : (p : ℕ) (xs : List Lexeme) (n : ℕ) → view 0 (placeless_lexemes xs) n ≡ placeless_view (view p xs n)
unfolding view placeless_view placeless_lexemes placeless_lexeme
view_placeless p [] n = refl
view_placeless p (x ∷ []) n = refl
view_placeless p (x ∷ y ∷ []) n = refl
view_placeless p (x ∷ y ∷ z ∷ []) n = refl
view_placeless p (x ∷ y ∷ z ∷ w ∷ xs) n = refl

production_placeless : (prefix s : ℕ) (q : Phrase) (p : ℕ) (xs : List Lexeme) (n : ℕ)
    → production prefix s (placeless_phrase q) 0 (placeless_lexemes xs) n ≡ placeless_body (start_of p xs) (production prefix s q p xs n)
unfolding production view
production_placeless prefix s q p xs n =
    ap (λ (v : View). choose s (rule prefix (placeless_phrase q) v)) (view_placeless p xs n)
    ∙ ap (choose s) (rule_placeless prefix q (view p xs n)).0
    ∙ chosen_placeless s (start_of p xs) (rule prefix q (view p xs n))

production_steady : (prefix s : ℕ) (q : Phrase) (p : ℕ) (xs : List Lexeme) (n : ℕ) → T (steady (start_of p xs) (production prefix s q p xs n))
unfolding production view
production_steady prefix s q p xs n = chosen_steady s (start_of p xs) (rule prefix q (view p xs n)) (rule_placeless prefix q (view p xs n)).1

-- ── Readings without places ───────────────────────────────────────────────────────────────────────

placeless_⊕ : (ts us : Trees) → placeless (ts ⊕ us) ≡ placeless ts ⊕ placeless us
unfolding ◌⊕◌ placeless
placeless_⊕ none us = refl
placeless_⊕ (node t fs cs ts) us = ap (node t (placeless_fields fs) (placeless cs)) (placeless_⊕ ts us)

placeless_count : (ts : Trees) → count (placeless ts) ≡ count ts
unfolding count placeless
placeless_count none = refl
placeless_count (node t fs cs ts) = ap suc (placeless_count ts)

placeless_kind : (xs : List Lexeme) → kind_of (placeless_lexemes xs) ≡ kind_of xs
unfolding placeless_lexemes placeless_lexeme
placeless_kind [] = refl
placeless_kind (x ∷ xs) = refl

-- What a body's places are told from: it is for here, or it tells of none.
data For (a : ℕ) (b : Body) (p : ℕ) (xs : List Lexeme) : Type 0 where
  for_here : a ≡ start_of p xs → T (steady a b) → For a b p xs
  for_any : T (unescaped b) → For a b p xs

onward : {a p q : ℕ} {st : Step} {b : Body} {xs ys : List Lexeme} → For a (st ▸ b) p xs → For a b q ys
unfolding steady unescaped
onward (for_here e h) = for_any h
onward (for_any h) = for_any h

same_detail : {a p n x : ℕ} {xs : List Lexeme} → For a (fail n x) p xs → placeless_detail n a x ≡ placeless_detail n (start_of p xs) x
unfolding unescaped placeless_detail
same_detail {n = n} {x} (for_here e h) = ap (λ (i : ℕ). placeless_detail n i x) e
same_detail {a} {p} {n} {x} {xs} (for_any h) = by (eqb n ESCAPE) h
  where
    by : (c : Bool) → T (not c) → cond c (x - a) x ≡ cond c (x - start_of p xs) x
    by true h = absurd h
    by false h = refl

module _ (prefix s : ℕ) where
  -- Behind the next lexeme.
  past : {b : Body} {ts : Trees} {d : ℕ} (xs : List Lexeme) {o : Outcome} → Reading prefix s b ts d 0 (placeless_lexemes (rest xs)) o
      → Reading prefix s b ts d (stop_of 0 (placeless_lexemes xs)) (rest (placeless_lexemes xs)) o
  unfolding placeless_lexemes placeless_lexeme
  past [] r = r
  past (x ∷ xs) r = r

  -- A phrase's production, at a place and without.
  of_phrase : (q : Phrase) (p : ℕ) (xs : List Lexeme) (n : ℕ) {m : ℕ} {ts : Trees} {d : ℕ} {o : Outcome} → m ≡ n
      → Reading prefix s (placeless_body (start_of p xs) (production prefix s q p xs n)) ts d 0 (placeless_lexemes xs) o
      → Reading prefix s (production prefix s (placeless_phrase q) 0 (placeless_lexemes xs) m) ts d 0 (placeless_lexemes xs) o
  of_phrase q p xs n {m} {ts} {d} {o} e r =
      subst (λ (i : ℕ). Reading prefix s (production prefix s (placeless_phrase q) 0 (placeless_lexemes xs) i) ts d 0 (placeless_lexemes xs) o) (sym e)
      (subst (λ (b : Body). Reading prefix s b ts d 0 (placeless_lexemes xs) o) (sym (production_placeless prefix s q p xs n)) r)

  for_phrase : (q : Phrase) (p : ℕ) (xs : List Lexeme) (n : ℕ) → For (start_of p xs) (production prefix s q p xs n) p xs
  for_phrase q p xs n = for_here refl (production_steady prefix s q p xs n)

  beside : (ts us : Trees) {b : Body} {d p : ℕ} {xs : List Lexeme} {o : Outcome} → Reading prefix s b (placeless (ts ⊕ us)) d p xs o
      → Reading prefix s b (placeless ts ⊕ placeless us) d p xs o
  beside ts us {b} {d} {p} {xs} {o} r = subst (λ (w : Trees). Reading prefix s b w d p xs o) (placeless_⊕ ts us) r

  -- A READING WITHOUT ITS PLACES is a reading of the lexemes without their places.
  reading_placeless : (a : ℕ) {b : Body} {ts : Trees} {d p : ℕ} {xs : List Lexeme} {o : Outcome} → Reading prefix s b ts d p xs o → For a b p xs
      → Reading prefix s (placeless_body a b) (placeless ts) d 0 (placeless_lexemes xs) (placeless_outcome o)
  unfolding placeless_body placeless_step placeless_outcome placeless_detail placeless count
  reading_placeless a ended f = ended
  reading_placeless a (failed {n} {x} {ts} {d} {p} {xs}) f =
      subst (λ (y : ℕ). Reading prefix s (fail n (placeless_detail n a x)) (placeless ts) d 0 (placeless_lexemes xs) (broken n 0 (placeless_lexemes xs) y)) (same_detail f) failed
  reading_placeless a (gone {q} {ts} {p = p} {xs} r) f =
      gone (of_phrase q p xs (count ts) (placeless_count ts) (reading_placeless (start_of p xs) r (for_phrase q p xs (count ts))))
  reading_placeless a (eaten {xs = xs} e r) f = eaten (placeless_kind xs ∙ e) (past xs (reading_placeless a r (onward f)))
  reading_placeless a (uneaten {xs = xs} n) f = uneaten (λ e. n (sym (placeless_kind xs) ∙ e))
  reading_placeless a (leafed {t} {fs} {ts = ts} {xs = xs} r) f = leafed (past xs (beside ts (tree t fs none) (reading_placeless a r (onward f))))
  reading_placeless a (closed r) f = closed (reading_placeless a r (onward f))
  reading_placeless a (subbed {q} {ts = ts} {us} {p = p} {xs = xs} r r') f =
      subbed (of_phrase q p xs 0 refl (reading_placeless (start_of p xs) r (for_phrase q p xs 0))) (beside ts us (reading_placeless a r' (onward f)))
  reading_placeless a (unsubbed {q} {p = p} {xs = xs} r) f = unsubbed (of_phrase q p xs 0 refl (reading_placeless (start_of p xs) r (for_phrase q p xs 0)))
  reading_placeless a (deepened {q} {ts = ts} {us} {p = p} {xs = xs} r r') f =
      deepened (of_phrase q p xs 0 refl (reading_placeless (start_of p xs) r (for_phrase q p xs 0))) (beside ts us (reading_placeless a r' (onward f)))
  reading_placeless a (undeepened {q} {p = p} {xs = xs} r) f = undeepened (of_phrase q p xs 0 refl (reading_placeless (start_of p xs) r (for_phrase q p xs 0)))
  reading_placeless a too_deep f = too_deep

  -- LEXEMES THAT ARE THE SAME BUT FOR THEIR PLACES have outcomes that are the same but for places.
  pub one_outcome : {depth : ℕ} {xs ys : List Lexeme} {o o' : Outcome} → placeless_lexemes xs ≡ placeless_lexemes ys → Reads prefix s depth xs o → Reads prefix s depth ys o'
      → placeless_outcome o ≡ placeless_outcome o'
  unfolding placeless_body placeless_step placeless_phrase placeless unescaped
  one_outcome {depth} {o' = o'} e r r' =
      once (reading_placeless 0 r (for_any tt))
      (subst (λ (zs : List Lexeme). Reading prefix s source none depth 0 zs (placeless_outcome o')) (sym e) (reading_placeless 0 r' (for_any tt)))

  -- A bad escape stands in its lexeme or behind it.
  escape_inside : {a : ℕ} {b : Body} {ts : Trees} {d p n r x : ℕ} {xs ys : List Lexeme} → Reading prefix s b ts d p xs (broken n r ys x) → For a b p xs → n ≡ ESCAPE
      → start_of r ys ≤ x
  unfolding steady unescaped count
  escape_inside {a} (failed {n} {x} {p = p} {xs}) (for_here e h) q =
      subst (λ (i : ℕ). i ≤ x) e (leb→le a x (subst (λ (c : Bool). T (not c || leb a x)) (eq-eqb n ESCAPE q) h))
  escape_inside (failed {n}) (for_any h) q = absurd (subst (λ (c : Bool). T (not c)) (eq-eqb n ESCAPE q) h)
  escape_inside {a = a} (gone {q} {ts} {p = p} {xs} r) f e = escape_inside {a = start_of p xs} r (for_phrase q p xs (count ts)) e
  escape_inside (eaten e r) f q = escape_inside r (onward f) q
  escape_inside (uneaten n) f q = absurd (omega (arith, q))
  escape_inside (leafed r) f q = escape_inside r (onward f) q
  escape_inside (closed r) f q = escape_inside r (onward f) q
  escape_inside (subbed r r') f q = escape_inside r' (onward f) q
  escape_inside {a = a} (unsubbed {q} {p = p} {xs = xs} r) f e = escape_inside {a = start_of p xs} r (for_phrase q p xs 0) e
  escape_inside (deepened r r') f q = escape_inside r' (onward f) q
  escape_inside {a = a} (undeepened {q} {p = p} {xs = xs} r) f e = escape_inside {a = start_of p xs} r (for_phrase q p xs 0) e
  escape_inside too_deep f q = absurd (omega (arith, q))

  pub escape_from : {depth n r x : ℕ} {xs ys : List Lexeme} → Reads prefix s depth xs (broken n r ys x) → n ≡ ESCAPE → start_of r ys ≤ x
  unfolding unescaped
  escape_from r e = escape_inside {a = 0} r (for_any tt) e

-- ── How far a reading has come ────────────────────────────────────────────────────────────────────

-- After some of the lexemes, of which the last ended at r.
pub data Came : ℕ → List Lexeme → ℕ → List Lexeme → Type 0 where
  at_once : {p : ℕ} {xs : List Lexeme} → Came p xs p xs
  after : {p r : ℕ} {x : Lexeme} {xs ys : List Lexeme} → Came x.stop xs r ys → Came p (x ∷ xs) r ys

step : {p r : ℕ} (xs : List Lexeme) {ys : List Lexeme} → Came (stop_of p xs) (rest xs) r ys → Came p xs r ys
step [] c = c
step (x ∷ xs) c = after c

then_on : {p q r : ℕ} {xs ys zs : List Lexeme} → Came p xs q ys → Came q ys r zs → Came p xs r zs
then_on at_once d = d
then_on (after c) d = after (then_on c d)

unfoldable CameTo : ℕ → List Lexeme → Outcome → Type 0
CameTo p xs (done ts r ys) = Came p xs r ys
CameTo p xs (broken n r ys x) = Came p xs r ys

later_to : {p q : ℕ} {xs ys : List Lexeme} (o : Outcome) → Came p xs q ys → CameTo q ys o → CameTo p xs o
unfolding CameTo
later_to (done ts r zs) c d = then_on c d
later_to (broken n r zs x) c d = then_on c d

step_to : (p : ℕ) (xs : List Lexeme) (o : Outcome) → CameTo (stop_of p xs) (rest xs) o → CameTo p xs o
unfolding CameTo
step_to p xs (done ts r zs) c = step xs c
step_to p xs (broken n r zs x) c = step xs c

module _ (prefix s : ℕ) where
  came : {b : Body} {ts : Trees} {d p : ℕ} {xs : List Lexeme} {o : Outcome} → Reading prefix s b ts d p xs o → CameTo p xs o
  unfolding CameTo
  came ended = at_once
  came failed = at_once
  came (gone r) = came r
  came (eaten {p = p} {xs = xs} {o = o} e r) = step_to p xs o (came r)
  came (uneaten n) = at_once
  came (leafed {p = p} {xs = xs} {o = o} r) = step_to p xs o (came r)
  came (closed r) = came r
  came (subbed {o = o} r r') = later_to o (came r) (came r')
  came (unsubbed r) = came r
  came (deepened {o = o} r r') = later_to o (came r) (came r')
  came (undeepened r) = came r
  came too_deep = at_once

  pub broken_came : {depth n r x : ℕ} {xs ys : List Lexeme} → Reads prefix s depth xs (broken n r ys x) → Came 0 xs r ys
  unfolding CameTo
  broken_came r = came r
