-- How long an image can be: at most 16 bytes for each byte of the source, and every payload fits its two length bytes. What a phrase may
-- write beyond 16 bytes for each byte that it takes, and that each of its productions keeps to that, a line for each phrase.
-- Assumes nothing.
use mathlib.Core.Path.{◌≡◌, refl, ap, subst}
use mathlib.Core.Bool.{Bool, true, false, ◌&&◌, not}
use mathlib.Core.List.{List, [], ◌∷◌}
use Prim.Native.Nat.{ℕ, ◌+◌, ◌-◌, ◌*◌, ◌≤◌}
use native.Mathlib.Omega.{arith}
use lib.Dec.{T, T_not, eqb, eqb→eq, eqb_refl}
use lib.ListN.{length}
use Rattle.lexemes.specs.Kinds.{EOF, SELF_KW, SUPER_KW, DOLLAR, NULL_KW, TRUE_KW, FALSE_KW, FLOAT, IDENT, QUESTION_MARK, L_BRACK, R_BRACK}
use Rattle.grammar.specs.Trees.{Field, Trees, none, node, tree, ◌⊕◌, count}
use Rattle.grammar.specs.Image.{payload, image}
use Rattle.grammar.specs.Lexemes.{Said, good, said, Lexeme, rest, kind_of, word_of, stop_of, Ranged}
use Rattle.grammar.specs.Productions.{Phrase, Body, end, goto, fail, ◌▸◌, eat, leaf, sub, deep, close, row, Table, otherwise, ◌∣◌, View, word, rule, Sign, sign, signs, sign_rows, Operator, op, operators, operator_rows}
use Rattle.grammar.specs.Productions.{expr, infix_tail, suffixed, suffix, null_safe, null_safe_index, bracket, member_name, null_safe_end, index_or_slice, slice_end, slice_ended, slice_step}
use Rattle.grammar.specs.Productions.{slice_stepped, arguments, argument, argument_end, call_close, call_end, named_argument, basic, string, array, array_first, array_comp, array_comp_end, elements}
use Rattle.grammar.specs.Productions.{next_element, inside, member, members, next_member, comprehension, comprehension_end, field, field_named, field_value, params, params_end, param, param_default}
use Rattle.grammar.specs.Productions.{binds, binds_end, local_body, bind, bind_named, bind_function, else_part, function_body, assertion, condition, asserted, clauses, more_clauses, for_clause}
use Rattle.grammar.specs.Productions.{header, if_clause, iteration, iteration_value, pattern, array_pattern, pattern_starts, pattern_starts_end, array_rest, array_rest_end, pattern_ends, pattern_ends_end}
use Rattle.grammar.specs.Productions.{array_pattern_close, object_pattern, pattern_fields, pattern_fields_end, object_rest, object_rest_end, object_pattern_close, pattern_field, pattern_into}
use Rattle.grammar.specs.Productions.{pattern_default, default_value, default_end}
use Rattle.grammar.specs.Reading.{has, choose, view, production, done, Reading, ended, gone, eaten, leafed, closed, subbed, deepened, Reads}
use Rattle.grammar.proofs.Chosen.{and_left, and_right}
use Rattle.grammar.proofs.ImageLaws.{close_length, row-length}
use Rattle.grammar.proofs.Obeys.{next_range, ranged_rest, onward}

-- ── The account ───────────────────────────────────────────────────────────────────────────────────

-- What a phrase may write beyond 16 bytes for each byte that it takes.
unfoldable owes : Phrase → ℕ
owes (expr a) = 0
owes (infix_tail a) = 0
owes suffixed = 0
owes (suffix a) = 0
owes (null_safe a) = 0
owes (null_safe_index a) = 0
owes (bracket a) = 0
owes (member_name a b) = 0
owes (null_safe_end a b) = 0
owes (index_or_slice a b) = 0
owes (slice_end a b c) = 0
owes (slice_ended a b c d) = 0
owes (slice_step a b c d e) = 0
owes (slice_stepped a b c d e f) = 0
owes (arguments a b c) = 0
owes (argument a b c) = 0
owes (argument_end a b c) = 0
owes (call_close a b c) = 0
owes (call_end a b c) = 12
owes named_argument = 0
owes basic = 0
owes string = 0
owes array = 0
owes array_first = 0
owes array_comp = 0
owes array_comp_end = 0
owes elements = 0
owes next_element = 0
owes inside = 7
owes member = 0
owes (members a) = 7
owes (next_member a) = 7
owes (comprehension a) = 7
owes (comprehension_end a) = 7
owes field = 0
owes (field_named a b) = 0
owes (field_value a b c d e) = 0
owes params = 4
owes params_end = 0
owes param = 4
owes param_default = 4
owes binds = 0
owes binds_end = 0
owes local_body = 0
owes bind = 0
owes bind_named = 0
owes bind_function = 0
owes (else_part a b) = 8
owes (function_body a b) = 9
owes assertion = 0
owes condition = 8
owes (asserted a) = 8
owes clauses = 0
owes more_clauses = 0
owes for_clause = 0
owes header = 0
owes (if_clause a b) = 7
owes (iteration a) = 0 + length a
owes (iteration_value a b) = 0 + length b
owes pattern = 0
owes array_pattern = 0
owes pattern_starts = 0
owes pattern_starts_end = 0
owes (array_rest a) = 0
owes (array_rest_end a b c) = 0 + length c
owes (pattern_ends a b c) = 0 + length c
owes (pattern_ends_end a b c) = 0 + length c
owes (array_pattern_close a b c) = 0 + length c
owes object_pattern = 0
owes pattern_fields = 0
owes pattern_fields_end = 0
owes object_rest = 0
owes (object_rest_end a b) = 0 + length b
owes (object_pattern_close a b) = 0 + length b
owes pattern_field = 0
owes (pattern_into a) = 9 + length a
owes (pattern_default a b) = 9 + length b
owes (default_value a b) = 9 + length b
owes (default_end a b c) = 9 + length b

-- What is left over from a phrase: from the header `[k]:`, read at a production's start, the key.
data Spares (v : View) : Bool → Phrase → ℕ → Type 0 where
  nothing : {fresh : Bool} {q : Phrase} → Spares v fresh q 0
  its_key : Spares v true header (length (said v.says₁))

-- With credit g and e bytes written, a production that stands at the view's lexeme (if fresh) or behind it ends with no debt.
unfoldable Pays : View → ℕ → ℕ → Bool → Body → Type 0
Pays v g e fresh end = e ≤ g
Pays v g e fresh (fail n x) = Unit
Pays v g e fresh (goto q) = e + owes q ≤ g
Pays v g e true (eat k ▸ b) = T (not (eqb k EOF)) × (1 ≤ v.stop - v.before → Pays v (g + 16 * (v.stop - v.before)) e false b)
Pays v g e false (eat k ▸ b) = T (not (eqb k EOF)) × Pays v (g + 16) e false b
Pays v g e true (leaf t fs ▸ b) = (1 ≤ v.stop - v.before) × Pays v (g + 16 * (v.stop - v.before)) (e + (3 + length (payload fs))) false b
Pays v g e false (leaf t fs ▸ b) = ⊥
Pays v g e fresh (close t fs ▸ b) = Pays v g (e + (3 + length (payload fs))) fresh b
Pays v g e fresh (sub q ▸ b) = (k : ℕ) × Spares v fresh q k × Pays v (g + k) (e + owes q) false b
Pays v g e fresh (deep q ▸ b) = (k : ℕ) × Spares v fresh q k × Pays v (g + k) (e + owes q) false b

unfoldable PaysAll : View → ℕ → Table → Type 0
PaysAll v g (otherwise b) = Pays v g 0 true b
PaysAll v g (row w t b ∣ rows) = (T t → Pays v g 0 true b) × PaysAll v g rows

-- No record of a production has a payload of more than 32 bytes beyond the longest text, and no text is carried on that is longer.
unfoldable Light : ℕ → Body → Type 0
Light longest end = Unit
Light longest (fail n x) = Unit
Light longest (goto q) = owes q ≤ 12 + longest
Light longest (eat k ▸ b) = Light longest b
Light longest (leaf t fs ▸ b) = (length (payload fs) ≤ 32 + longest) × Light longest b
Light longest (close t fs ▸ b) = (length (payload fs) ≤ 32 + longest) × Light longest b
Light longest (sub q ▸ b) = (owes q ≤ 12 + longest) × Light longest b
Light longest (deep q ▸ b) = (owes q ≤ 12 + longest) × Light longest b

unfoldable LightAll : ℕ → Table → Type 0
LightAll longest (otherwise b) = Light longest b
LightAll longest (row w t b ∣ rows) = Light longest b × LightAll longest rows

-- ── Each phrase ───────────────────────────────────────────────────────────────────────────────────

unfoldable live_signs : List Sign → Bool
live_signs [] = true
live_signs (sign k o ∷ xs) = not (eqb k EOF) && live_signs xs

unfoldable live_operators : List Operator → Bool
live_operators [] = true
live_operators (op k g l r o ∷ xs) = not (eqb k EOF) && live_operators xs

module _ (prefix : ℕ) where
  sign_pays : (least : ℕ) (v : View) (xs : List Sign) → T (live_signs xs) → PaysAll v 0 (sign_rows prefix least v xs)
  unfolding Pays PaysAll owes sign_rows live_signs payload
  sign_pays least v [] h = (0, Spares.nothing, omega arith)
  sign_pays least v (sign k o ∷ xs) h =
      ((λ t. (and_left (not (eqb k EOF)) (live_signs xs) h, (λ l. (0, Spares.nothing, omega arith)))), sign_pays least v xs (and_right (not (eqb k EOF)) (live_signs xs) h))

  operator_pays : (least : ℕ) (v : View) (xs : List Operator) → T (live_operators xs) → PaysAll v 0 (operator_rows least v xs)
  unfolding Pays PaysAll owes operator_rows live_operators payload
  operator_pays least v [] h = omega arith
  operator_pays least v (op k g l r o ∷ xs) h =
      ((λ t. (and_left (not (eqb k EOF)) (live_operators xs) h, (λ l. (0, Spares.nothing, omega arith)))), operator_pays least v xs (and_right (not (eqb k EOF)) (live_operators xs) h))

  -- At a view: its text is no longer than what is taken with its lexeme, and where a kind or a text stands there is a lexeme.
  module _ (v : View) (wide : length (word v) ≤ v.stop - v.before) (some : (k : ℕ) → T (not (eqb k EOF)) → v.kind ≡ k → 1 ≤ v.stop - v.before)
      (spoken : T (good v.says) → 1 ≤ v.stop - v.before) where
    pays : (q : Phrase) → PaysAll v (owes q) (rule prefix q v)
    unfolding rule signs operators Pays PaysAll owes payload live_signs live_operators
    pays (expr least) = sign_pays least v signs tt
    pays (infix_tail least) = operator_pays least v operators tt
    pays suffixed =
        (0, Spares.nothing, omega arith)
    pays (suffix f) = (
      (λ t. (tt, (λ l. (tt, omega arith)))),
      (
        (λ t. (tt, (λ l. omega arith))),
        (
          (λ t. (tt, (λ l. omega arith))),
          (
            (λ t. (tt, (λ l. omega arith))),
            (
              (λ t. (tt, (λ l. (0, Spares.nothing, (tt, omega arith))))),
              omega arith,
            ),
          ),
        ),
      ),
    )
    pays (null_safe f) = (
      (λ t. (tt, (λ l. omega arith))),
      omega arith,
    )
    pays (null_safe_index f) =
        (0, Spares.nothing, omega arith)
    pays (bracket f) = (
      (λ t. (tt, (λ l. omega arith))),
      (0, Spares.nothing, omega arith),
    )
    pays (member_name f n) = (
      (λ t. (let l = some IDENT tt (eqb→eq v.kind IDENT t) in (l, omega arith))),
      tt,
    )
    pays (null_safe_end f a) =
        (tt, (λ l. omega arith))
    pays (index_or_slice f a) = (
      (λ t. (tt, (λ l. omega arith))),
      (tt, (λ l. omega arith)),
    )
    pays (slice_end b i j) = (
      (λ t. (tt, (λ l. omega arith))),
      (
        (λ t. (tt, (λ l. omega arith))),
        (0, Spares.nothing, omega arith),
      ),
    )
    pays (slice_ended b i j a) = (
      (λ t. (tt, (λ l. omega arith))),
      (tt, (λ l. omega arith)),
    )
    pays (slice_step b i j k l) = (
      (λ t. (tt, (λ l. omega arith))),
      (0, Spares.nothing, omega arith),
    )
    pays (slice_stepped b i j k l a) =
        (tt, (λ l. omega arith))
    pays (arguments a u n) = (
      (λ t. omega arith),
      omega arith,
    )
    pays (argument a u n) = (
      (λ t. (0, Spares.nothing, omega arith)),
      (
        (λ t. (0, Spares.nothing, omega arith)),
        tt,
      ),
    )
    pays (argument_end a u n) = (
      (λ t. (tt, (λ l. omega arith))),
      omega arith,
    )
    pays (call_close a u n) =
        (tt, (λ l. omega arith))
    pays (call_end a u n) = (
      (λ t. (tt, (λ l. omega arith))),
      omega arith,
    )
    pays named_argument =
        (tt, (λ l. (tt, (0, Spares.nothing, omega arith))))
    pays basic = (
      (λ t. (let l = some SELF_KW tt (eqb→eq v.kind SELF_KW t) in (l, omega arith))),
      (
        (λ t. (let l = some SUPER_KW tt (eqb→eq v.kind SUPER_KW t) in (l, omega arith))),
        (
          (λ t. (let l = some DOLLAR tt (eqb→eq v.kind DOLLAR t) in (l, omega arith))),
          (
            (λ t. (let l = some NULL_KW tt (eqb→eq v.kind NULL_KW t) in (l, omega arith))),
            (
              (λ t. (let l = some TRUE_KW tt (eqb→eq v.kind TRUE_KW t) in (l, omega arith))),
              (
                (λ t. (let l = some FALSE_KW tt (eqb→eq v.kind FALSE_KW t) in (l, omega arith))),
                (
                  (λ t. omega arith),
                  (
                    (λ t. (let l = some FLOAT tt (eqb→eq v.kind FLOAT (and_left (eqb v.kind FLOAT) (good v.says) t)) in (l, omega arith))),
                    (
                      (λ t. tt),
                      (
                        (λ t. (tt, (λ l. (0, Spares.nothing, (tt, omega arith))))),
                        (
                          (λ t. (tt, (λ l. omega arith))),
                          (
                            (λ t. (tt, (λ l. (0, Spares.nothing, (tt, omega arith))))),
                            (
                              (λ t. (tt, (λ l. omega arith))),
                              (
                                (λ t. (tt, (λ l. (0, Spares.nothing, (tt, (0, Spares.nothing, omega arith)))))),
                                (
                                  (λ t. (tt, (λ l. (tt, (0, Spares.nothing, (tt, omega arith)))))),
                                  (
                                    (λ t. (0, Spares.nothing, (tt, (0, Spares.nothing, omega arith)))),
                                    (
                                      (λ t. (tt, (λ l. (0, Spares.nothing, omega arith)))),
                                      (
                                        (λ t. (tt, (λ l. (0, Spares.nothing, omega arith)))),
                                        (
                                          (λ t. (tt, (λ l. (0, Spares.nothing, omega arith)))),
                                          (
                                            (λ t. (tt, (λ l. (0, Spares.nothing, omega arith)))),
                                            (
                                              (λ t. (let l = some IDENT tt (eqb→eq v.kind IDENT t) in (l, omega arith))),
                                              tt,
                                            ),
                                          ),
                                        ),
                                      ),
                                    ),
                                  ),
                                ),
                              ),
                            ),
                          ),
                        ),
                      ),
                    ),
                  ),
                ),
              ),
            ),
          ),
        ),
      ),
    )
    pays string = (
      (λ t. (let l = spoken t in (l, omega arith))),
      tt,
    )
    pays array = (
      (λ t. (tt, (λ l. omega arith))),
      (0, Spares.nothing, omega arith),
    )
    pays array_first = (
      (λ t. omega arith),
      (
        (λ t. (tt, (λ l. omega arith))),
        omega arith,
      ),
    )
    pays array_comp =
        (0, Spares.nothing, omega arith)
    pays array_comp_end =
        (tt, (λ l. omega arith))
    pays elements = (
      (λ t. (tt, (λ l. omega arith))),
      (tt, (λ l. omega arith)),
    )
    pays next_element = (
      (λ t. (tt, (λ l. omega arith))),
      (0, Spares.nothing, omega arith),
    )
    pays inside = (
      (λ t. omega arith),
      (0, Spares.nothing, omega arith),
    )
    pays member = (
      (λ t. (tt, (λ l. (0, Spares.nothing, omega arith)))),
      (
        (λ t. (0, Spares.nothing, omega arith)),
        (0, Spares.nothing, omega arith),
      ),
    )
    pays (members c) = (
      (λ t. (tt, (λ l. omega arith))),
      (
        (λ t. omega arith),
        omega arith,
      ),
    )
    pays (next_member c) = (
      (λ t. omega arith),
      (
        (λ t. omega arith),
        (0, Spares.nothing, omega arith),
      ),
    )
    pays (comprehension c) = (
      (λ t. (0, Spares.nothing, omega arith)),
      (0, Spares.nothing, tt),
    )
    pays (comprehension_end m) =
        omega arith
    pays field = (
      (λ t. (let l = some IDENT tt (eqb→eq v.kind IDENT t) in (l, omega arith))),
      (
        (λ t. (0, Spares.nothing, omega arith)),
        (
          (λ t. (tt, (λ l. (0, Spares.nothing, (tt, omega arith))))),
          tt,
        ),
      ),
    )
    pays (field_named c a) = (
      (λ t. (tt, (λ l. (0, Spares.nothing, (tt, omega arith))))),
      (
        (λ t. (tt, (λ l. omega arith))),
        omega arith,
      ),
    )
    pays (field_value i j c p m) = (
      (λ t. (tt, (λ l. (tt, (tt, (0, Spares.nothing, omega arith)))))),
      (
        (λ t. (tt, (λ l. (tt, (0, Spares.nothing, omega arith))))),
        (tt, (λ l. (0, Spares.nothing, omega arith))),
      ),
    )
    pays params = (
      (λ t. omega arith),
      (0, Spares.nothing, omega arith),
    )
    pays params_end = (
      (λ t. (tt, (λ l. omega arith))),
      omega arith,
    )
    pays param =
        (0, Spares.nothing, omega arith)
    pays param_default = (
      (λ t. (tt, (λ l. (0, Spares.nothing, omega arith)))),
      omega arith,
    )
    pays binds = (
      (λ t. omega arith),
      (0, Spares.nothing, omega arith),
    )
    pays binds_end = (
      (λ t. (tt, (λ l. omega arith))),
      omega arith,
    )
    pays local_body =
        (tt, (λ l. (0, Spares.nothing, omega arith)))
    pays bind = (
      (λ t. (let l = some IDENT tt (eqb→eq v.kind IDENT t) in (l, omega arith))),
      (0, Spares.nothing, (tt, (0, Spares.nothing, omega arith))),
    )
    pays bind_named = (
      (λ t. (tt, (λ l. (0, Spares.nothing, (tt, omega arith))))),
      (tt, (λ l. (0, Spares.nothing, omega arith))),
    )
    pays bind_function =
        (tt, (λ l. (0, Spares.nothing, omega arith)))
    pays (else_part i j) = (
      (λ t. (tt, (λ l. (0, Spares.nothing, omega arith)))),
      omega arith,
    )
    pays (function_body i j) =
        (0, Spares.nothing, omega arith)
    pays assertion =
        (tt, (λ l. omega arith))
    pays condition =
        (0, Spares.nothing, omega arith)
    pays (asserted a) = (
      (λ t. (tt, (λ l. (0, Spares.nothing, omega arith)))),
      omega arith,
    )
    pays clauses =
        (tt, (λ l. (0, Spares.nothing, omega arith)))
    pays more_clauses = (
      (λ t. (tt, (λ l. (0, Spares.nothing, omega arith)))),
      (
        (λ t. (tt, (λ l. (0, Spares.nothing, omega arith)))),
        omega arith,
      ),
    )
    pays for_clause = (
      (λ t. (length (said v.says₁), Spares.its_key, omega arith)),
      (0, Spares.nothing, (tt, (0, Spares.nothing, omega arith))),
    )
    pays header =
        (tt, (λ l. (tt, (tt, omega arith))))
    pays (if_clause i j) =
        (0, Spares.nothing, omega arith)
    pays (iteration key) = (
      (λ t. (tt, (λ l. (tt, (tt, omega arith))))),
      (
        (λ t. (tt, (λ l. (tt, omega arith)))),
        (tt, (λ l. omega arith)),
      ),
    )
    pays (iteration_value visibility key) =
        (0, Spares.nothing, (tt, (0, Spares.nothing, omega arith)))
    pays pattern = (
      (λ t. (let l = some IDENT tt (eqb→eq v.kind IDENT t) in (l, omega arith))),
      (
        (λ t. (let l = some QUESTION_MARK tt (eqb→eq v.kind QUESTION_MARK t) in (l, omega arith))),
        (
          (λ t. (0, Spares.nothing, omega arith)),
          (
            (λ t. (0, Spares.nothing, omega arith)),
            (
              (λ t. tt),
              tt,
            ),
          ),
        ),
      ),
    )
    pays array_pattern =
        (tt, (λ l. omega arith))
    pays pattern_starts = (
      (λ t. omega arith),
      (
        (λ t. (tt, (λ l. omega arith))),
        (0, Spares.nothing, omega arith),
      ),
    )
    pays pattern_starts_end = (
      (λ t. (tt, (λ l. omega arith))),
      omega arith,
    )
    pays (array_rest n) = (
      (λ t. (tt, (λ l. omega arith))),
      omega arith,
    )
    pays (array_rest_end n r w) = (
      (λ t. (tt, (λ l. omega arith))),
      omega arith,
    )
    pays (pattern_ends n r w) = (
      (λ t. omega arith),
      (0, Spares.nothing, omega arith),
    )
    pays (pattern_ends_end n r w) = (
      (λ t. (tt, (λ l. omega arith))),
      omega arith,
    )
    pays (array_pattern_close n r w) =
        (tt, (λ l. omega arith))
    pays object_pattern =
        (tt, (λ l. omega arith))
    pays pattern_fields = (
      (λ t. omega arith),
      (
        (λ t. (tt, (λ l. omega arith))),
        (0, Spares.nothing, omega arith),
      ),
    )
    pays pattern_fields_end = (
      (λ t. (tt, (λ l. omega arith))),
      omega arith,
    )
    pays object_rest = (
      (λ t. (tt, (λ l. omega arith))),
      omega arith,
    )
    pays (object_rest_end r w) = (
      (λ t. (tt, (λ l. omega arith))),
      omega arith,
    )
    pays (object_pattern_close r w) =
        (tt, (λ l. omega arith))
    pays pattern_field =
        (tt, (λ l. omega arith))
    pays (pattern_into w) = (
      (λ t. (tt, (λ l. (0, Spares.nothing, omega arith)))),
      omega arith,
    )
    pays (pattern_default h w) = (
      (λ t. (tt, (λ l. omega arith))),
      omega arith,
    )
    pays (default_value h w) =
        (0, Spares.nothing, omega arith)
    pays (default_end h w a) =
        omega arith

  module _ (longest : ℕ) where
    sign_light : (least : ℕ) (v : View) (xs : List Sign) → LightAll longest (sign_rows prefix least v xs)
    unfolding Light LightAll owes sign_rows payload
    sign_light least v [] = (omega arith, omega arith)
    sign_light least v (sign k o ∷ xs) = ((omega arith, (omega arith, omega arith)), sign_light least v xs)

    operator_light : (least : ℕ) (v : View) (xs : List Operator) → LightAll longest (operator_rows least v xs)
    unfolding Light LightAll owes operator_rows payload
    operator_light least v [] = tt
    operator_light least v (op k g l r o ∷ xs) = ((omega arith, (omega arith, omega arith)), operator_light least v xs)

  -- At a view whose texts are no longer than the longest.
  module _ (longest : ℕ) (v : View) (short : length (word v) ≤ longest) (short₁ : length (said v.says₁) ≤ longest) where
    light : (q : Phrase) → owes q ≤ 12 + longest → LightAll longest (rule prefix q v)
    unfolding rule signs operators Light LightAll owes payload
    light (expr least) held = sign_light longest least v signs
    light (infix_tail least) held = operator_light longest least v operators
    light suffixed held = (omega arith, omega arith)
    light (suffix f) held = (omega arith, (omega arith, (omega arith, (omega arith, ((omega arith, (omega arith, omega arith)), tt)))))
    light (null_safe f) held = (omega arith, omega arith)
    light (null_safe_index f) held = (omega arith, omega arith)
    light (bracket f) held = (omega arith, (omega arith, omega arith))
    light (member_name f n) held = ((omega arith, (omega arith, omega arith)), tt)
    light (null_safe_end f a) held = (omega arith, omega arith)
    light (index_or_slice f a) held = (omega arith, (omega arith, omega arith))
    light (slice_end b i j) held = (omega arith, ((omega arith, omega arith), (omega arith, omega arith)))
    light (slice_ended b i j a) held = (omega arith, (omega arith, omega arith))
    light (slice_step b i j k l) held = ((omega arith, omega arith), (omega arith, omega arith))
    light (slice_stepped b i j k l a) held = (omega arith, omega arith)
    light (arguments a u n) held = (omega arith, omega arith)
    light (argument a u n) held = ((omega arith, omega arith), ((omega arith, omega arith), tt))
    light (argument_end a u n) held = (omega arith, omega arith)
    light (call_close a u n) held = omega arith
    light (call_end a u n) held = ((omega arith, omega arith), (omega arith, omega arith))
    light named_argument held = (omega arith, (omega arith, tt))
    light basic held = ((omega arith, tt), ((omega arith, tt), ((omega arith, tt), ((omega arith, tt), ((omega arith, tt), ((omega arith, tt), (omega arith, ((omega arith, tt), (tt, ((omega arith, tt), (omega arith, ((omega arith, tt), (omega arith, ((omega arith, (omega arith, omega arith)), ((omega arith, omega arith), ((omega arith, (omega arith, (omega arith, tt))), ((omega arith, (omega arith, tt)), ((omega arith, (omega arith, tt)), ((omega arith, (omega arith, tt)), ((omega arith, (omega arith, tt)), ((omega arith, tt), tt)))))))))))))))))))))
    light string held = ((omega arith, tt), tt)
    light array held = ((omega arith, tt), (omega arith, omega arith))
    light array_first held = (omega arith, (omega arith, omega arith))
    light array_comp held = (omega arith, omega arith)
    light array_comp_end held = (omega arith, tt)
    light elements held = (omega arith, (omega arith, tt))
    light next_element held = ((omega arith, tt), (omega arith, omega arith))
    light inside held = ((omega arith, tt), (omega arith, omega arith))
    light member held = ((omega arith, tt), ((omega arith, tt), (omega arith, tt)))
    light (members c) held = (omega arith, (omega arith, (omega arith, tt)))
    light (next_member c) held = ((omega arith, tt), (omega arith, (omega arith, omega arith)))
    light (comprehension c) held = ((omega arith, omega arith), (omega arith, tt))
    light (comprehension_end m) held = (omega arith, tt)
    light field held = ((omega arith, omega arith), ((omega arith, omega arith), ((omega arith, omega arith), tt)))
    light (field_named c a) held = ((omega arith, omega arith), (omega arith, omega arith))
    light (field_value i j c p m) held = ((omega arith, (omega arith, tt)), ((omega arith, (omega arith, tt)), (omega arith, (omega arith, tt))))
    light params held = (tt, (omega arith, omega arith))
    light params_end held = (omega arith, tt)
    light param held = (omega arith, omega arith)
    light param_default held = ((omega arith, (omega arith, tt)), (omega arith, tt))
    light binds held = (omega arith, (omega arith, omega arith))
    light binds_end held = (omega arith, omega arith)
    light local_body held = (omega arith, (omega arith, tt))
    light bind held = ((omega arith, omega arith), (omega arith, (omega arith, (omega arith, tt))))
    light bind_named held = ((omega arith, omega arith), (omega arith, (omega arith, tt)))
    light bind_function held = (omega arith, (omega arith, tt))
    light (else_part i j) held = ((omega arith, (omega arith, tt)), (omega arith, tt))
    light (function_body i j) held = (omega arith, (omega arith, tt))
    light assertion held = omega arith
    light condition held = (omega arith, omega arith)
    light (asserted a) held = ((omega arith, (omega arith, tt)), (omega arith, tt))
    light clauses held = (omega arith, omega arith)
    light more_clauses held = ((omega arith, omega arith), ((omega arith, omega arith), tt))
    light for_clause held = ((omega arith, omega arith), (omega arith, (omega arith, (omega arith, tt))))
    light header held = tt
    light (if_clause i j) held = (omega arith, (omega arith, tt))
    light (iteration key) held = (omega arith, (omega arith, omega arith))
    light (iteration_value visibility key) held = (omega arith, (omega arith, (omega arith, tt)))
    light pattern held = ((omega arith, tt), ((omega arith, tt), ((omega arith, tt), ((omega arith, tt), (tt, tt)))))
    light array_pattern held = omega arith
    light pattern_starts held = (omega arith, (omega arith, (omega arith, omega arith)))
    light pattern_starts_end held = (omega arith, omega arith)
    light (array_rest n) held = (omega arith, omega arith)
    light (array_rest_end n r w) held = (omega arith, omega arith)
    light (pattern_ends n r w) held = (omega arith, (omega arith, omega arith))
    light (pattern_ends_end n r w) held = (omega arith, omega arith)
    light (array_pattern_close n r w) held = (omega arith, tt)
    light object_pattern held = omega arith
    light pattern_fields held = (omega arith, (omega arith, (omega arith, omega arith)))
    light pattern_fields_end held = (omega arith, omega arith)
    light object_rest held = (omega arith, omega arith)
    light (object_rest_end r w) held = (omega arith, omega arith)
    light (object_pattern_close r w) held = (omega arith, tt)
    light pattern_field held = omega arith
    light (pattern_into w) held = ((omega arith, omega arith), omega arith)
    light (pattern_default h w) held = (omega arith, (omega arith, tt))
    light (default_value h w) held = (omega arith, omega arith)
    light (default_end h w a) held = (omega arith, tt)

-- ── Readings ──────────────────────────────────────────────────────────────────────────────────────

ranged_within : {size p : ℕ} {xs : List Lexeme} → Ranged size p xs → p ≤ size
ranged_within (Ranged.none h) = h
ranged_within (Ranged.more a b c g) = omega (arith, a, b, ranged_within g)

next_word : {size : ℕ} {p : ℕ} {xs : List Lexeme} → Ranged size p xs → length (said (word_of xs)) ≤ stop_of p xs - p
unfolding said
next_word (Ranged.none h) = omega arith
next_word (Ranged.more a b c g) = omega (arith, a, b, c)

next-some : {size : ℕ} {p : ℕ} {xs : List Lexeme} → Ranged size p xs → (k : ℕ) → T (not (eqb k EOF)) → kind_of xs ≡ k → 1 ≤ stop_of p xs - p
next-some (Ranged.none m) k h e = absurd (T_not (eqb k EOF) h (subst (λ (m : ℕ). T (eqb m EOF)) e (eqb_refl EOF)))
next-some (Ranged.more a b c g) k h e = omega (arith, a, b)

next_spoken : {size : ℕ} {p : ℕ} {xs : List Lexeme} → Ranged size p xs → T (good (word_of xs)) → 1 ≤ stop_of p xs - p
unfolding good
next_spoken (Ranged.none m) h = absurd h
next_spoken (Ranged.more a b c g) h = omega (arith, a, b)

-- No record has a longer payload.
pub data Within (n : ℕ) : Trees → Type 0 where
  empty : Within n none
  first : {tag : ℕ} {fields : List Field} {children ts : Trees} → length (payload fields) ≤ n → Within n children → Within n ts → Within n (node tag fields children ts)

within-row : {n : ℕ} {ts us : Trees} → Within n ts → Within n us → Within n (ts ⊕ us)
unfolding ◌⊕◌
within-row empty v = v
within-row (first h w u) v = first h w (within-row u v)

-- The view is that of the next lexeme, if it is fresh.
data Fresh (v : View) : Bool → ℕ → List Lexeme → Type 0 where
  now : {p : ℕ} {xs : List Lexeme} → v.before ≡ p → v.stop ≡ stop_of p xs → v.says₁ ≡ word_of (rest xs) → Fresh v true p xs
  past : {p : ℕ} {xs : List Lexeme} → Fresh v false p xs

module _ (prefix s : ℕ) where
  pays_chosen : (v : View) (g : ℕ) (t : Table) → PaysAll v g t → Pays v g 0 true (choose s t)
  unfolding choose PaysAll
  pays_chosen v g (otherwise b) k = k
  pays_chosen v g (row w t b ∣ rows) k = by t (has s w) k.0 (pays_chosen v g rows k.1)
    where
      by : (t a : Bool) → (T t → Pays v g 0 true b) → Pays v g 0 true (choose s rows) → Pays v g 0 true (elim (t && a) [ true ↦ b | false ↦ choose s rows ])
      by true true f h = f tt
      by true false f h = h
      by false a f h = h

  pays_production : {size : ℕ} (q : Phrase) (p : ℕ) (xs : List Lexeme) (n : ℕ) → Ranged size p xs → Pays (view p xs n) (owes q) 0 true (production prefix s q p xs n)
  unfolding production view
  pays_production q p xs n g =
      pays_chosen (view p xs n) (owes q) (rule prefix q (view p xs n)) (pays prefix (view p xs n) (next_word g) (next-some g) (next_spoken g) q)

  fresh_view : (p : ℕ) (xs : List Lexeme) (n : ℕ) → Fresh (view p xs n) true p xs
  unfolding view
  fresh_view p xs n = now refl refl refl

  -- What the header takes for its key.
  key_spared : {size : ℕ} {us : Trees} {d p r : ℕ} {xs ys : List Lexeme} → Reading prefix s (eat L_BRACK ▸ eat IDENT ▸ eat R_BRACK ▸ end) none d p xs (done us r ys) → Ranged size p xs
      → length (image us) + 16 * p + length (said (word_of (rest xs))) ≤ 16 * r
  unfolding image
  key_spared (eaten e₀ (eaten e₁ (eaten e₂ ended))) g =
      omega (arith, next_range g, next_range (ranged_rest g), next_range (ranged_rest (ranged_rest g)), next_word (ranged_rest g))

  header_spared : {size : ℕ} {us : Trees} {d p r : ℕ} {xs ys : List Lexeme} → Reading prefix s (production prefix s header p xs 0) none d p xs (done us r ys) → Ranged size p xs
      → length (image us) + 16 * p + length (said (word_of (rest xs))) ≤ 16 * r
  unfolding production rule choose
  header_spared x g = key_spared x g

  -- A phrase's own account, with what it spares.
  spared : {size : ℕ} {v : View} {fresh : Bool} {q : Phrase} {k : ℕ} {us : Trees} {d p r : ℕ} {xs ys : List Lexeme} → Spares v fresh q k → Fresh v fresh p xs
      → Reading prefix s (production prefix s q p xs 0) none d p xs (done us r ys) → Ranged size p xs → length (image us) + 16 * p ≤ 16 * r + owes q
      → length (image us) + 16 * p + k ≤ 16 * r + owes q
  unfolding owes
  spared Spares.nothing f x g h = omega arith
  spared Spares.its_key (now a b c) x g h = omega (arith, header_spared x g, ap (λ (w : Said). length (said w)) c)

  paid : {size : ℕ} {b : Body} {ts us : Trees} {d p r : ℕ} {xs ys : List Lexeme} → Reading prefix s b ts d p xs (done us r ys) → Ranged size p xs
      → (v : View) (fresh : Bool) → Fresh v fresh p xs → (g e : ℕ) → Pays v g e fresh b → length (image us) + 16 * p + e ≤ length (image ts) + 16 * r + g
  unfolding Pays image
  paid ended o v fresh f g e k = omega arith
  paid (gone {q} {ts} {d} {p} {xs} x) o v fresh f g e k =
      omega (arith, k, paid x o (view p xs (count ts)) true (fresh_view p xs (count ts)) (owes q) 0 (pays_production q p xs (count ts) o))
  paid (eaten {k = n} i x) o v true (now a b c) g e k =
      omega (arith, a, b, next_range o, paid x (ranged_rest o) v false past _ e (k.1 (omega (arith, a, b, next-some o n k.0 i))))
  paid (eaten {k = n} i x) o v false f g e k = omega (arith, next-some o n k.0 i, paid x (ranged_rest o) v false past _ e k.1)
  paid (leafed {t} {fs} {ts = ts} x) o v true (now a b c) g e k =
      omega (arith, a, b, next_range o, row-length ts (tree t fs none), close_length t fs none, paid x (ranged_rest o) v false past _ _ k.1)
  paid (leafed x) o v false f g e k = absurd k
  paid (closed {t} {fs} {ts = ts} x) o v fresh f g e k = omega (arith, close_length t fs ts, paid x o v fresh f g _ k)
  paid (subbed {q} {ts = ts} {us = vs} {p = p} {xs = xs} x y) o v fresh f g e k =
      let own = paid x o (view p xs 0) true (fresh_view p xs 0) (owes q) 0 (pays_production q p xs 0 o) in
      omega (arith, spared k.1 f x o (omega (arith, own)), row-length ts vs, paid y (onward prefix s x o).2 v false past _ _ k.2)
  paid (deepened {q} {ts = ts} {us = vs} {p = p} {xs = xs} x y) o v fresh f g e k =
      let own = paid x o (view p xs 0) true (fresh_view p xs 0) (owes q) 0 (pays_production q p xs 0 o) in
      omega (arith, spared k.1 f x o (omega (arith, own)), row-length ts vs, paid y (onward prefix s x o).2 v false past _ _ k.2)

  -- AN IMAGE HAS AT MOST 16 BYTES FOR EACH BYTE of its source.
  pub image-bound : {size : ℕ} {depth : ℕ} {xs : List Lexeme} {us : Trees} {r : ℕ} {ys : List Lexeme} → Ranged size 0 xs → Reads prefix s depth xs (done us r ys) → length (image us) ≤ 16 * size
  unfolding owes ◌⊕◌ image
  image-bound {xs = xs} o (deepened {us = vs} x (eaten e ended)) =
      let f = onward prefix s x o in
      omega (arith, ranged_within f.2, paid x o (view 0 xs 0) true (fresh_view 0 xs 0) 0 0 (pays_production (expr 0) 0 xs 0 o))

  -- ── Payloads ──────────────────────────────────────────────────────────────────────────────────

  light_chosen : (longest : ℕ) (t : Table) → LightAll longest t → Light longest (choose s t)
  unfolding choose LightAll
  light_chosen longest (otherwise b) k = k
  light_chosen longest (row w t b ∣ rows) k = by (t && has s w) (light_chosen longest rows k.1)
    where
      by : (a : Bool) → Light longest (choose s rows) → Light longest (elim a [ true ↦ b | false ↦ choose s rows ])
      by true h = k.0
      by false h = h

  light_production : {size : ℕ} (q : Phrase) (p : ℕ) (xs : List Lexeme) (n : ℕ) → Ranged size p xs → owes q ≤ 12 + size → Light size (production prefix s q p xs n)
  unfolding production view
  light_production {size} q p xs n o h =
      light_chosen size (rule prefix q (view p xs n))
      (light prefix size (view p xs n) (omega (arith, next_word o, ranged_within (ranged_rest o)))
      (omega (arith, next_word (ranged_rest o), ranged_within (ranged_rest (ranged_rest o)))) q h)

  lit : {size : ℕ} {b : Body} {ts us : Trees} {d p r : ℕ} {xs ys : List Lexeme} → Reading prefix s b ts d p xs (done us r ys) → Ranged size p xs → Within (32 + size) ts → Light size b
      → Within (32 + size) us
  unfolding Light
  lit ended o w k = w
  lit (gone {q} {ts} {d} {p} {xs} x) o w k = lit x o w (light_production q p xs (count ts) o k)
  lit (eaten e x) o w k = lit x (ranged_rest o) w k
  lit (leafed x) o w k = lit x (ranged_rest o) (within-row w (first k.0 empty empty)) k.1
  lit (closed x) o w k = lit x o (first k.0 w empty) k.1
  lit (subbed {q} {p = p} {xs = xs} x y) o w k = lit y (onward prefix s x o).2 (within-row w (lit x o empty (light_production q p xs 0 o k.0))) k.1
  lit (deepened {q} {p = p} {xs = xs} x y) o w k = lit y (onward prefix s x o).2 (within-row w (lit x o empty (light_production q p xs 0 o k.0))) k.1

  -- EVERY PAYLOAD FITS: it has at most 32 bytes more than the source. So with at most 65,000 bytes of source its length fits two bytes.
  pub payloads_fit : {size depth : ℕ} {xs : List Lexeme} {us : Trees} {r : ℕ} {ys : List Lexeme} → Ranged size 0 xs → Reads prefix s depth xs (done us r ys) → Within (32 + size) us
  unfolding Light owes
  payloads_fit o x = lit x o empty (omega arith, tt)
