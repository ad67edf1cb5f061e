-- Facts of the whole grammar: what each phrase is like, and a checker that every one of its productions keeps to it. One line for each
-- phrase, so that a wrong production fails at its own line.
-- Assumes nothing.
use mathlib.Core.Path.{◌≡◌, refl}
use mathlib.Core.Bool.{Bool, true, false, ◌&&◌, ◌||◌, not}
use Prim.Native.Nat.{ℕ}
use lib.Dec.{T, eqb, ltb}
use Rattle.lexemes.specs.Kinds.{EOF, QUESTION_MARK, NULL_COAELSE}
use Rattle.lexemes.specs.Kept.{bad_kinds, bad}
use Rattle.lexemes.proofs.KeptLaws.{every}
use Rattle.grammar.specs.Numbers.{met_with}
use Rattle.grammar.specs.Lexemes.{Said, nothing, good}
use Rattle.grammar.specs.Productions.{Phrase, Body, end, goto, fail, ◌▸◌, eat, leaf, sub, deep, close, always, exp_destruct, exp_object_iteration, exp_null_coaelse, row, Table, otherwise, ◌∣◌, View, rule}
use Rattle.grammar.specs.Productions.{expr, infix_tail, suffixed, suffix, null_safe, null_safe_index, bracket, member_name, null_safe_end, index_or_slice, slice_end, slice_ended, slice_step}
use Rattle.grammar.specs.Productions.{slice_stepped, arguments, argument, argument_end, call_close, call_end, named_argument, basic, string, array, array_first, array_comp, array_comp_end, elements}
use Rattle.grammar.specs.Productions.{next_element, inside, member, members, next_member, comprehension, comprehension_end, field, field_named, field_value, params, params_end, param, param_default}
use Rattle.grammar.specs.Productions.{binds, binds_end, local_body, bind, bind_named, bind_function, else_part, function_body, assertion, condition, asserted, clauses, more_clauses, for_clause}
use Rattle.grammar.specs.Productions.{header, if_clause, iteration, iteration_value, pattern, array_pattern, pattern_starts, pattern_starts_end, array_rest, array_rest_end, pattern_ends, pattern_ends_end}
use Rattle.grammar.specs.Productions.{array_pattern_close, object_pattern, pattern_fields, pattern_fields_end, object_rest, object_rest_end, object_pattern_close, pattern_field, pattern_into}
use Rattle.grammar.specs.Productions.{pattern_default, default_value, default_end}

-- ── What each phrase is like ──────────────────────────────────────────────────────────────────────

-- Its order: before it takes a lexeme it goes over to phrases of lower order only. Its rank: how many phrases it goes through where `?`
-- or `??` stands next before it ends or is broken there, 0 for a phrase that never stands behind another. Whether it surely takes a lexeme.
pub data Traits : Type 0 where
  traits : ℕ → ℕ → Bool → Traits

unfoldable pub about : Phrase → Traits
about (expr a) = traits 3 0 true
about (infix_tail a) = traits 0 1 false
about suffixed = traits 2 0 true
about (suffix a) = traits 0 1 false
about (null_safe a) = traits 2 0 true
about (null_safe_index a) = traits 1 0 true
about (bracket a) = traits 1 0 true
about (member_name a b) = traits 1 0 true
about (null_safe_end a b) = traits 0 1 true
about (index_or_slice a b) = traits 0 1 true
about (slice_end a b c) = traits 1 0 true
about (slice_ended a b c d) = traits 0 1 true
about (slice_step a b c d e) = traits 1 0 true
about (slice_stepped a b c d e f) = traits 0 1 true
about (arguments a b c) = traits 3 0 true
about (argument a b c) = traits 2 0 true
about (argument_end a b c) = traits 1 2 true
about (call_close a b c) = traits 0 1 true
about (call_end a b c) = traits 1 2 false
about named_argument = traits 0 0 true
about basic = traits 1 0 true
about string = traits 0 0 true
about array = traits 3 0 true
about array_first = traits 2 2 true
about array_comp = traits 1 0 true
about array_comp_end = traits 0 1 true
about elements = traits 0 1 true
about next_element = traits 1 0 true
about inside = traits 4 0 false
about member = traits 3 0 true
about (members a) = traits 2 1 false
about (next_member a) = traits 4 0 false
about (comprehension a) = traits 1 0 true
about (comprehension_end a) = traits 0 1 false
about field = traits 2 0 true
about (field_named a b) = traits 1 2 true
about (field_value a b c d e) = traits 0 1 true
about params = traits 2 0 false
about params_end = traits 0 1 false
about param = traits 1 0 true
about param_default = traits 0 1 false
about binds = traits 2 0 true
about binds_end = traits 1 2 true
about local_body = traits 0 1 true
about bind = traits 1 0 true
about bind_named = traits 0 0 true
about bind_function = traits 0 0 true
about (else_part a b) = traits 0 1 false
about (function_body a b) = traits 0 0 true
about assertion = traits 0 0 true
about condition = traits 1 0 true
about (asserted a) = traits 0 1 false
about clauses = traits 0 0 true
about more_clauses = traits 0 1 false
about for_clause = traits 1 0 true
about header = traits 0 0 true
about (if_clause a b) = traits 0 0 true
about (iteration a) = traits 0 1 true
about (iteration_value a b) = traits 1 0 true
about pattern = traits 0 0 true
about array_pattern = traits 0 0 true
about pattern_starts = traits 2 0 true
about pattern_starts_end = traits 1 2 true
about (array_rest a) = traits 2 0 true
about (array_rest_end a b c) = traits 1 0 true
about (pattern_ends a b c) = traits 2 0 true
about (pattern_ends_end a b c) = traits 1 2 true
about (array_pattern_close a b c) = traits 0 1 true
about object_pattern = traits 0 0 true
about pattern_fields = traits 2 0 true
about pattern_fields_end = traits 1 2 true
about object_rest = traits 2 0 true
about (object_rest_end a b) = traits 1 0 true
about (object_pattern_close a b) = traits 0 1 true
about pattern_field = traits 0 0 true
about (pattern_into a) = traits 1 0 false
about (pattern_default a b) = traits 0 1 false
about (default_value a b) = traits 1 0 true
about (default_end a b c) = traits 0 1 false

unfoldable pub order_in : Traits → ℕ
order_in (traits o r m) = o

unfoldable pub rank_in : Traits → ℕ
rank_in (traits o r m) = r

unfoldable pub moves_in : Traits → Bool
moves_in (traits o r m) = m

unfoldable pub order : Phrase → ℕ
unfolding about order_in
order q = order_in (about q)

unfoldable pub rank : Phrase → ℕ
unfolding about rank_in
rank q = rank_in (about q)

unfoldable pub moves : Phrase → Bool
unfolding about moves_in
moves q = moves_in (about q)

-- ── Checkers of one production ────────────────────────────────────────────────────────────────────

-- More than every order.
abbrev pub top : ℕ
top = 5

-- What comes before the first lexeme stands lower than r.
unfoldable pub low : ℕ → Body → Bool
low r end = true
low r (fail n x) = true
low r (goto q) = ltb (order q) r
low r (eat k ▸ b) = not (eqb k EOF) && low top b
low r (leaf t fs ▸ b) = low r b
low r (close t fs ▸ b) = low r b
low r (sub q ▸ b) = ltb (order q) r && low r b
low r (deep q ▸ b) = low r b

-- Where `?` or `??` stands next it ends or is broken with number 5, going through phrases of rank below r only.
unfoldable pub halts : ℕ → Body → Bool
halts r end = true
halts r (fail n x) = false
halts r (goto q) = ltb 0 (rank q) && ltb (rank q) r
halts r (eat k ▸ b) = not (eqb k QUESTION_MARK || eqb k NULL_COAELSE)
halts r (leaf t fs ▸ b) = false
halts r (close t fs ▸ b) = halts r b
halts r (sub q ▸ b) = false
halts r (deep q ▸ b) = false

unfoldable pub fails : Body → Bool
fails end = false
fails (fail n x) = true
fails (goto q) = false
fails (st ▸ b) = false

-- What stands behind a phrase halts there, or fails.
unfoldable pub fine : Body → Bool
fine end = true
fine (fail n x) = true
fine (goto q) = true
fine (eat k ▸ b) = fine b
fine (leaf t fs ▸ b) = fine b
fine (close t fs ▸ b) = fine b
fine (sub q ▸ b) = (halts 3 b || fails b) && fine b
fine (deep q ▸ b) = (halts 3 b || fails b) && fine b

-- If it ends it has taken a lexeme.
unfoldable pub moved : Body → Bool
moved end = false
moved (fail n x) = true
moved (goto q) = moves q
moved (eat k ▸ b) = true
moved (leaf t fs ▸ b) = true
moved (close t fs ▸ b) = moved b
moved (sub q ▸ b) = moves q || moved b
moved (deep q ▸ b) = moves q || moved b

-- It is broken with a number that a reading may meet, and with its detail.
unfoldable pub numbered : Body → Bool
unfolding met_with
numbered end = true
numbered (fail n x) = met_with n x
numbered (goto q) = true
numbered (st ▸ b) = numbered b

-- It takes no bad lexeme: what it eats has a good kind. A leaf takes whatever stands next, so one is let pass as the first step only.
unfoldable pub picky : Bool → Body → Bool
unfolding bad
picky first end = true
picky first (fail n x) = true
picky first (goto q) = true
picky first (eat k ▸ b) = not (bad k) && picky false b
picky first (leaf t fs ▸ b) = first && picky false b
picky first (close t fs ▸ b) = picky false b
picky first (sub q ▸ b) = picky false b
picky first (deep q ▸ b) = picky false b

-- ── Checkers of a table ───────────────────────────────────────────────────────────────────────────

-- Every production of phrase q is low, fine and numbered, and moves if q does.
unfoldable pub sound_body : Phrase → Body → Bool
sound_body q b = low (order q) b && (fine b && (numbered b && (not (moves q) || moved b)))

unfoldable pub sound_table : Phrase → Table → Bool
sound_table q (otherwise b) = sound_body q b
sound_table q (row g t b ∣ rest) = sound_body q b && sound_table q rest

-- The production chosen without null-coaelse halts.
unfoldable pub halts_table : ℕ → Table → Bool
halts_table r (otherwise b) = halts r b
halts_table r (row always t b ∣ rest) = elim t [ true ↦ halts r b | false ↦ halts_table r rest ]
halts_table r (row exp_destruct t b ∣ rest) = (not t || halts r b) && halts_table r rest
halts_table r (row exp_object_iteration t b ∣ rest) = (not t || halts r b) && halts_table r rest
halts_table r (row exp_null_coaelse t b ∣ rest) = halts_table r rest

unfoldable pub stops-table : Phrase → Table → Bool
stops-table q t = not (ltb 0 (rank q)) || halts_table (rank q) t

unfoldable pub unguarded : Table → Bool
unguarded (otherwise b) = true
unguarded (row always t b ∣ rest) = unguarded rest
unguarded (row exp_destruct t b ∣ rest) = false
unguarded (row exp_object_iteration t b ∣ rest) = false
unguarded (row exp_null_coaelse t b ∣ rest) = false

-- Every production takes no bad lexeme, but for a leaf at its start.
unfoldable pub picky_table : Table → Bool
picky_table (otherwise b) = picky true b
picky_table (row g t b ∣ rest) = picky true b && picky_table rest

-- No production whose test holds begins with a leaf.
unfoldable pub shuns : Table → Bool
shuns (otherwise b) = picky false b
shuns (row g t b ∣ rest) = (picky false b || not t) && shuns rest

-- ── The facts ─────────────────────────────────────────────────────────────────────────────────────

-- The view with another lexeme next, of which the kind is known, and what it says.
abbrev pub with_next : View → ℕ → Said → View
with_next v k w =
    record {
      kind = k;
      kind₁ = v.kind₁;
      kind₂ = v.kind₂;
      kind₃ = v.kind₃;
      start = v.start;
      stop = v.stop;
      before = v.before;
      says = w;
      says₁ = v.says₁;
      count = v.count;
    }

abbrev pub with_kind : View → ℕ → View
with_kind v k = with_next v k v.says

-- The phrases that a switch bears on.
pub data Switched : Phrase → Type 0 where
  at_infix_tail : {m : ℕ} → Switched (infix_tail m)
  at_suffix : {f : ℕ} → Switched (suffix f)
  at_pattern : Switched pattern
  at_for_clause : Switched for_clause

module _ (prefix : ℕ) where
  -- It takes no bad lexeme: where one stands, which says nothing, no production begins with a leaf.
  unfoldable pub careful : Phrase → View → Bool
  careful q v = picky_table (rule prefix q v) && every bad_kinds (λ (k : ℕ). shuns (rule prefix q (with_next v k nothing)))

  unfoldable pub checked : Phrase → View → Bool
  checked q v =
      sound_table q (rule prefix q v) && stops-table q (rule prefix q (with_kind v QUESTION_MARK)) && stops-table q (rule prefix q (with_kind v NULL_COAELSE)) && careful q v

  -- What is found of phrase q: its productions are checked; which phrases have switches; and that only expressions ask for the prefix power.
  pub data Facts (q : Phrase) (v : View) : Type 0 where
    plain : T (checked q v && unguarded (rule prefix q v)) → ((other : ℕ) → rule prefix q v ≡ rule other q v) → Facts q v
    switched : Switched q → T (checked q v) → ((other : ℕ) → rule prefix q v ≡ rule other q v) → Facts q v
    an_expr : {m : ℕ} → q ≡ expr m → T (checked q v && unguarded (rule prefix q v)) → Facts q v

  pub facts : (q : Phrase) (v : View) → Facts q v
  unfolding rule checked sound_table sound_body stops-table halts_table low halts fails fine moved numbered moves order rank unguarded careful every picky_table shuns picky good
  facts (expr a) v = an_expr refl tt
  facts (infix_tail a) v = switched at_infix_tail tt (λ other. refl)
  facts suffixed v = plain tt (λ other. refl)
  facts (suffix a) v = switched at_suffix tt (λ other. refl)
  facts (null_safe a) v = plain tt (λ other. refl)
  facts (null_safe_index a) v = plain tt (λ other. refl)
  facts (bracket a) v = plain tt (λ other. refl)
  facts (member_name a b) v = plain tt (λ other. refl)
  facts (null_safe_end a b) v = plain tt (λ other. refl)
  facts (index_or_slice a b) v = plain tt (λ other. refl)
  facts (slice_end a b c) v = plain tt (λ other. refl)
  facts (slice_ended a b c d) v = plain tt (λ other. refl)
  facts (slice_step a b c d e) v = plain tt (λ other. refl)
  facts (slice_stepped a b c d e f) v = plain tt (λ other. refl)
  facts (arguments a b c) v = plain tt (λ other. refl)
  facts (argument a b c) v = plain tt (λ other. refl)
  facts (argument_end a b c) v = plain tt (λ other. refl)
  facts (call_close a b c) v = plain tt (λ other. refl)
  facts (call_end a b c) v = plain tt (λ other. refl)
  facts named_argument v = plain tt (λ other. refl)
  facts basic v = plain tt (λ other. refl)
  facts string v = plain tt (λ other. refl)
  facts array v = plain tt (λ other. refl)
  facts array_first v = plain tt (λ other. refl)
  facts array_comp v = plain tt (λ other. refl)
  facts array_comp_end v = plain tt (λ other. refl)
  facts elements v = plain tt (λ other. refl)
  facts next_element v = plain tt (λ other. refl)
  facts inside v = plain tt (λ other. refl)
  facts member v = plain tt (λ other. refl)
  facts (members a) v = plain tt (λ other. refl)
  facts (next_member a) v = plain tt (λ other. refl)
  facts (comprehension a) v = plain tt (λ other. refl)
  facts (comprehension_end a) v = plain tt (λ other. refl)
  facts field v = plain tt (λ other. refl)
  facts (field_named a b) v = plain tt (λ other. refl)
  facts (field_value a b c d e) v = plain tt (λ other. refl)
  facts params v = plain tt (λ other. refl)
  facts params_end v = plain tt (λ other. refl)
  facts param v = plain tt (λ other. refl)
  facts param_default v = plain tt (λ other. refl)
  facts binds v = plain tt (λ other. refl)
  facts binds_end v = plain tt (λ other. refl)
  facts local_body v = plain tt (λ other. refl)
  facts bind v = plain tt (λ other. refl)
  facts bind_named v = plain tt (λ other. refl)
  facts bind_function v = plain tt (λ other. refl)
  facts (else_part a b) v = plain tt (λ other. refl)
  facts (function_body a b) v = plain tt (λ other. refl)
  facts assertion v = plain tt (λ other. refl)
  facts condition v = plain tt (λ other. refl)
  facts (asserted a) v = plain tt (λ other. refl)
  facts clauses v = plain tt (λ other. refl)
  facts more_clauses v = plain tt (λ other. refl)
  facts for_clause v = switched at_for_clause tt (λ other. refl)
  facts header v = plain tt (λ other. refl)
  facts (if_clause a b) v = plain tt (λ other. refl)
  facts (iteration a) v = plain tt (λ other. refl)
  facts (iteration_value a b) v = plain tt (λ other. refl)
  facts pattern v = switched at_pattern tt (λ other. refl)
  facts array_pattern v = plain tt (λ other. refl)
  facts pattern_starts v = plain tt (λ other. refl)
  facts pattern_starts_end v = plain tt (λ other. refl)
  facts (array_rest a) v = plain tt (λ other. refl)
  facts (array_rest_end a b c) v = plain tt (λ other. refl)
  facts (pattern_ends a b c) v = plain tt (λ other. refl)
  facts (pattern_ends_end a b c) v = plain tt (λ other. refl)
  facts (array_pattern_close a b c) v = plain tt (λ other. refl)
  facts object_pattern v = plain tt (λ other. refl)
  facts pattern_fields v = plain tt (λ other. refl)
  facts pattern_fields_end v = plain tt (λ other. refl)
  facts object_rest v = plain tt (λ other. refl)
  facts (object_rest_end a b) v = plain tt (λ other. refl)
  facts (object_pattern_close a b) v = plain tt (λ other. refl)
  facts pattern_field v = plain tt (λ other. refl)
  facts (pattern_into a) v = plain tt (λ other. refl)
  facts (pattern_default a b) v = plain tt (λ other. refl)
  facts (default_value a b) v = plain tt (λ other. refl)
  facts (default_end a b c) v = plain tt (λ other. refl)
