-- Each production of each phrase keeps to the forms: a line for each phrase.
-- Assumes nothing.
use mathlib.Core.Path.{refl, sym, subst}
use mathlib.Core.Bool.{true, ◌&&◌}
use mathlib.Core.List.{List, [], ◌∷◌}
use Prim.Native.Nat.{ℕ, ◌≤◌}
use lib.Dec.{T, eqb, eqb→eq, leb, leb→le, eqb_refl}
use Rattle.lexemes.specs.Kinds.{PLUS, L_BRACK, L_PAREN, L_BRACE, COLON, DOT, COMMA, ASSIGN, QUESTION_MARK, IDENT}
use Rattle.lexemes.specs.Kinds.{TAILSTRICT_KW, ELSE_KW, FOR_KW}
use Rattle.grammar.specs.Trees.{Trees, none, ◌⊕◌, count}
use Rattle.grammar.specs.Lexemes.{rest, kind_of}
use Rattle.grammar.specs.Productions.{Phrase, exp_null_coaelse, rule, Sign, sign, signs, sign_rows, Operator, op, operators, operator_rows}
use Rattle.grammar.specs.Reading.{has, view}
use Rattle.grammar.specs.Spells.{Lexemes, ◌is◌then◌, Perhaps, Colons, Identity, Import, Binary, Open, Continues, greedily, Spells}
use Rattle.grammar.proofs.Chosen.{and_left, and_right}
use Rattle.grammar.proofs.Alike.{⊕_none}
use Rattle.grammar.proofs.OperatorForms.{both, Signs, signs_sound, Sound, more, operators_sound, Found, found_none, found, found_later}
use Rattle.grammar.proofs.LexemeForms.{resaid, seen, seen', quoted_kind, kind_is, other}
use Rattle.grammar.proofs.SpelledStates.{retree, Over, plain, just, Tail, shut, as_row, as_operand, as_signed, chained, a_string, named_by}
use Rattle.grammar.proofs.SpelledStates.{as_binary, Rules, fresh, opened, behind, one, over, tail, last}
use Rattle.grammar.proofs.SpelledSuffixes.{spells_member, spells_index, spells_safe_index, from_start, from_index, without_end, with_end}
use Rattle.grammar.proofs.SpelledSuffixes.{without_step, with_no_step, with_step, spells_slice, each_arguments, last_arguments, comma_behind}
use Rattle.grammar.proofs.SpelledSuffixes.{no_arguments, positional, by_name, spells_call, safe, safe_open, safe_indexed, dotted, safely}
use Rattle.grammar.proofs.SpelledSuffixes.{bracketed, indexed, stepping, called}
use Rattle.grammar.proofs.SpelledMembers.{spells_array_comprehension, each_members, last_members, member_comma, a_local_member}
use Rattle.grammar.proofs.SpelledMembers.{an_assert_member, a_field_member, to_clauses, spells_object_comprehension, spells_field, with_params, spells_value}
use Rattle.grammar.proofs.SpelledMembers.{spells_function, with_key, spells_iteration, add_guard, braced, extend, spells_literal, spells_numeral}
use Rattle.grammar.proofs.SpelledMembers.{comprehending, comprehended, each_local, inside, headed, headed_method, a_name, iffed}
use Rattle.grammar.proofs.SpelledMembers.{functioned, header, visible, guarded}
use Rattle.grammar.proofs.SpelledPatterns.{deeper, drops, keeps_name, spells_array_pattern, no_ends, shut_ends, open_ends, comma_ends, add_end}
use Rattle.grammar.proofs.SpelledPatterns.{first_ends, spells_object_pattern, spells_pattern_field, starts, dots, whole, all_fields, and_rest}
use Rattle.grammar.proofs.SpelledPatterns.{entry, into, defaulting, defaulted}
use Rattle.grammar.proofs.SpelledPhrases.{After, Before, Keeps, KeepsAll, entered, inner, inner_array, inner_object, inner_header}

-- The proof of a table: of its first row where that fits, and of the others where it does not.
if_fits : {A B : Type 0} → A → B → A × B
if_fits a b = (a, b)

module _ (R : Rules) where
  suffixes_over : (k : ℕ) → (T (eqb k QUESTION_MARK) → T (has R.setting exp_null_coaelse) → ⊥) → (T (eqb k DOT) → T true → ⊥) → (T (eqb k L_BRACK) → T true → ⊥)
      → (T (eqb k L_PAREN) → T true → ⊥) → (T (eqb k L_BRACE) → T true → ⊥) → greedily R.setting Open.suffixes k
  suffixes_over k a b c d e Continues.dot = b tt tt
  suffixes_over k a b c d e Continues.bracket = c tt tt
  suffixes_over k a b c d e Continues.paren = d tt tt
  suffixes_over k a b c d e Continues.brace = e tt tt
  suffixes_over k a b c d e (Continues.question h) = a tt h

  option_over : (j k : ℕ) → (T (eqb k j) → ⊥) → greedily R.setting (Open.optional j) k
  option_over j k a Continues.option = a (eqb_refl j)

  module _ (may : (q : Open) (k : ℕ) → greedily R.setting q k → R.Ends q k) where
    stop : (k : ℕ) (xs : Lexemes) → (T (eqb (kind_of xs) k) → ⊥) → R.Ends (Open.optional k) (kind_of xs)
    stop k xs n = may (Open.optional k) (kind_of xs) (option_over k (kind_of xs) n)

    sign_keeps : (m : ℕ) (p n : ℕ) (xs : Lexemes) (ops : List Sign) → Signs ops
        → KeepsAll R (Over (deeper R) m xs) xs none xs (sign_rows R.prefix m (view p xs n) ops)
    unfolding Keeps KeepsAll Before After sign_rows Signs view ◌⊕◌
    sign_keeps m p n xs [] h = (fresh, (λ us ys a. (as_operand R a, (λ us ys y. y))))
    sign_keeps m p n xs (sign k o ∷ rest) h =
        if_fits (λ t g. (h.1, (λ k. ((λ d. fresh), (λ us ys a. (as_signed R h.0 k (entered a), (λ us ys y. y))))))) (λ off. sign_keeps m p n xs rest h.2)

    operator_keeps : (m p n : ℕ) {x₀ xs : Lexemes} {t : Trees} → Tail R m x₀ t xs → (ops : List Operator) → Sound R.setting ops
        → ((l o : ℕ) → Binary R.setting (kind_of xs) l o → m ≤ l → Found R.setting (kind_of xs) l o ops)
        → KeepsAll R (Over (deeper R) m x₀) x₀ t xs (operator_rows m (view p xs n) ops)
    unfolding Keeps KeepsAll Before After operator_rows view
    operator_keeps m p n {xs = xs} (tail c e f) [] h in-it = over (Spells.whole e (may (Open.operations m) (kind_of xs) stops)) c stops
      where
        stops : greedily R.setting (Open.operations m) (kind_of xs)
        stops c = by c in-it
          where
            by : {k : ℕ} → Continues R.setting (Open.operations m) k → ((l o : ℕ) → Binary R.setting k l o → m ≤ l → Found R.setting k l o []) → ⊥
            by (Continues.operator {l = l} {o = o} b le) i = found_none R.setting (i l o b le)
    operator_keeps m p n {xs = xs} (tail c e f) (op k g l r o ∷ ops) (more b z a h) in-it =
        if_fits (λ t on. (z, (λ j. ((λ d. fresh), (λ us ys a. (as_binary R (b on) (fits t) (f l o (operated t on)) j (entered a), (λ us ys y. y)))))))
        (λ off. operator_keeps m p n (tail c e f) ops h (λ l' o' b le. found_later m (in-it l' o' b le) le off))
      where
        fits : T (eqb (kind_of xs) k && leb m l) → m ≤ l
        fits t = leb→le m l (and_right (eqb (kind_of xs) k) (leb m l) t)

        operated : T (eqb (kind_of xs) k && leb m l) → T (has R.setting g) → Binary R.setting (kind_of xs) l o
        operated t on = subst (λ (i : ℕ). Binary R.setting i l o) (sym (eqb→eq (kind_of xs) k (and_left (eqb (kind_of xs) k) (leb m l) t))) (b on)

    -- One colon and no second; two and no third.
    one_only : (xs : Lexemes) → (T (eqb (kind_of xs) COLON && eqb (kind_of (rest xs)) COLON) → T true → ⊥) → xs is COLON then rest xs
        → R.Ends (Open.optional COLON) (kind_of (rest xs))
    one_only xs n a = stop COLON (rest xs) (λ t. n (both (eqb (kind_of xs) COLON) (eqb (kind_of (rest xs)) COLON) (kind_is a) t) tt)

    two_only : (xs : Lexemes) → (T (eqb (kind_of xs) COLON && eqb (kind_of (rest xs)) COLON && eqb (kind_of (rest (rest xs))) COLON) → T true → ⊥)
        → xs is COLON then rest xs → rest xs is COLON then rest (rest xs) → R.Ends (Open.optional COLON) (kind_of (rest (rest xs)))
    two_only xs n a b =
        stop COLON (rest (rest xs)) (λ t. n (both (eqb (kind_of xs) COLON && eqb (kind_of (rest xs)) COLON) (eqb (kind_of (rest (rest xs))) COLON)
        (both (eqb (kind_of xs) COLON) (eqb (kind_of (rest xs)) COLON) (kind_is a) (kind_is b)) t) tt)

    pub keeps : (q : Phrase) (p : ℕ) (x₀ xs : Lexemes) (ts : Trees) → Before R q x₀ ts xs
        → KeepsAll R (After R q x₀) x₀ ts xs (rule R.prefix q (view p xs (count ts)))
    unfolding rule signs operators Keeps KeepsAll Before After view has ◌⊕◌ count
    keeps (Phrase.expr m) p x₀ xs ts fresh = sign_keeps m p 0 xs signs signs_sound
    keeps (Phrase.infix_tail m) p x₀ xs ts t = operator_keeps m p (count ts) t operators (operators_sound R.setting) (λ l o b le. found R.setting b)
    keeps Phrase.suffixed p x₀ xs ts fresh = (fresh, (λ us ys a. (chained R a, (λ us ys y. y))))
    keeps (Phrase.suffix f) p x₀ xs ts (one c o) =
        if_fits (λ t h. (tt, (λ k. (tt, (λ d. (safe h c k d, (λ us ys y. y)))))))
        (λ n1. if_fits (λ t h. (tt, (λ k. (dotted c k, (λ us ys y. y)))))
        (λ n2. if_fits (λ t h. (tt, (λ k. (bracketed c k, (λ us ys y. y)))))
        (λ n3. if_fits (λ t h. (tt, (λ k. (no_arguments R c k, (λ us ys y. y)))))
        (λ n4. if_fits (λ t h. (tt, (λ k. (fresh, (λ us ys a. (tt, (λ j. (extend R c k a j, (λ us ys y. y)))))))))
        (λ n5. one (Spells.whole_chain c (may Open.suffixes (kind_of xs) (suffixes_over (kind_of xs) n1 n2 n3 n4 n5))) o)))))
    keeps (Phrase.null_safe f) p x₀ xs ts d = if_fits (λ t h. (tt, (λ k. (safe_open d k, (λ us ys y. y))))) (λ n1. (safely d, (λ us ys y. y)))
    keeps (Phrase.null_safe_index f) p x₀ xs ts d = ((λ d. fresh), (λ us ys a. (safe_indexed d (inner a), (λ us ys y. y))))
    keeps (Phrase.null_safe_end f a) p x₀ xs ts d = (tt, (λ j. (one (spells_safe_index R d j) refl, (λ us ys y. y))))
    keeps (Phrase.member_name f n) p x₀ xs ts d = if_fits (λ t h. (one (spells_member R d (seen xs tt t)) refl, (λ us ys y. y))) (λ n1. tt)
    keeps (Phrase.bracket f) p x₀ xs ts d =
        if_fits (λ t h. (tt, (λ k. (from_start R d k, (λ us ys y. y))))) (λ n1. ((λ d. fresh), (λ us ys a. (indexed d (inner a), (λ us ys y. y)))))
    keeps (Phrase.index_or_slice f a) p x₀ xs ts d =
        if_fits (λ t h. (tt, (λ k. (from_index R d k, (λ us ys y. y))))) (λ n1. (tt, (λ j. (one (spells_index R d j) refl, (λ us ys y. y)))))
    keeps (Phrase.slice_end b i j) p x₀ xs ts d =
        if_fits (λ t h. (tt, (λ k. (stepping (without_end R d) k, (λ us ys y. y)))))
        (λ n1. if_fits (λ t h. (tt, (λ k. (one (spells_slice R (without_step R (without_end R d)) k) refl, (λ us ys y. y)))))
        (λ n2. ((λ d. fresh), (λ us ys a. (with_end R d (inner a), (λ us ys y. y))))))
    keeps (Phrase.slice_ended b i j a) p x₀ xs ts d =
        if_fits (λ t h. (tt, (λ k. (stepping d k, (λ us ys y. y))))) (λ n1. (tt, (λ k. (one (spells_slice R (without_step R d) k) refl, (λ us ys y. y)))))
    keeps (Phrase.slice_step b i j k l) p x₀ xs ts d =
        if_fits (λ t h. (tt, (λ r. (one (spells_slice R (with_no_step R d) r) refl, (λ us ys y. y)))))
        (λ n1. ((λ d. fresh), (λ us ys a. (with_step R d (inner a), (λ us ys y. y)))))
    keeps (Phrase.slice_stepped b i j k l a) p x₀ xs ts d = (tt, (λ r. (one (spells_slice R d r) refl, (λ us ys y. y))))
    keeps (Phrase.arguments a u n) p x₀ xs ts d = if_fits (λ t h. (each_arguments R d, (λ us ys y. y))) (λ n1. (d, (λ us ys y. y)))
    keeps (Phrase.argument a u n) p x₀ xs ts d =
        if_fits (λ t h. (fresh, (λ us ys e. (by_name R d e, (λ us ys y. y)))))
        (λ n1. if_fits (λ t h. ((λ d. fresh), (λ us ys e. (positional R (eqb→eq n 0 t) d (entered e), (λ us ys y. y))))) (λ n2. tt))
    keeps Phrase.named_argument p x₀ xs ts fresh = (tt, (λ i. (tt, (λ k. ((λ d. fresh), (λ us ys a. one (Spells.an_argument (resaid i) k (inner a)) refl))))))
    keeps (Phrase.argument_end a u n) p x₀ xs ts d = if_fits (λ t h. (tt, (λ k. (comma_behind R d k, (λ us ys y. y))))) (λ n1. (last_arguments R d, (λ us ys y. y)))
    keeps (Phrase.call_close a u n) p x₀ xs ts d = (tt, (λ k. (called d k, (λ us ys y. y))))
    keeps (Phrase.call_end a u n) p x₀ xs ts d =
        if_fits (λ t h. (tt, (λ k. (one (spells_call R d (Perhaps.yes k)) refl, (λ us ys y. y)))))
        (λ n1. (one (spells_call R d (Perhaps.no (stop TAILSTRICT_KW xs (λ t. n1 t tt)))) refl, (λ us ys y. y)))
    keeps Phrase.basic p x₀ xs ts fresh =
        if_fits (λ t h. one (Spells.identity Identity.self (seen' xs tt t)) refl)
        (λ n1. if_fits (λ t h. one (Spells.identity Identity.super (seen' xs tt t)) refl)
        (λ n2. if_fits (λ t h. one (Spells.identity Identity.dollar (seen' xs tt t)) refl)
        (λ n3. if_fits (λ t h. one (Spells.null (seen' xs tt t)) refl)
        (λ n4. if_fits (λ t h. one (Spells.true (seen' xs tt t)) refl)
        (λ n5. if_fits (λ t h. one (Spells.false (seen' xs tt t)) refl)
        (λ n6. if_fits (λ t h. ((quoted_kind (kind_of xs) t, fresh), (λ us ys a. a_string R a)))
        (λ n7. if_fits (λ t h. one (spells_numeral R xs t) refl)
        (λ n8'. if_fits (λ t h. tt)
        (λ n8. if_fits (λ t h. (tt, (λ k. ((λ d. fresh), (λ us ys a. (tt, (λ j. one (Spells.parens k (inner a) j) (just R (entered a)))))))))
        (λ n9. if_fits (λ t h. (tt, (λ k. (opened k, (λ us ys y. y)))))
        (λ n10. if_fits (λ t h. (tt, (λ k. (fresh, (λ us ys a. (tt, (λ j. braced R k a j)))))))
        (λ n11. if_fits (λ t h. (tt, (λ k. (behind k Spells.each_none, (λ us ys y. y)))))
        (λ n12. if_fits (λ t h. (
          tt,
          (λ k. (
            (λ d. fresh),
            (λ us ys a. (
              tt,
              (λ j. ((λ d. fresh), (λ vs zs b. (iffed k (inner a) j (inner b), (λ us ys y. y))))),
            )),
          )),
        ))
        (λ n13. if_fits (λ t h. (tt, (λ k. (tt, (λ j. (Spells.each_none, (λ us ys a. (tt, (λ l. (functioned k j a l, (λ us ys y. y)))))))))))
        (λ n14. if_fits (λ t h. (fresh, (λ us ys a. (tt, (λ j. ((λ d. fresh), (λ vs zs b. one (Spells.assert a j (inner b)) refl)))))))
        (λ n15. if_fits (λ t h. (tt, (λ k. ((λ d. fresh), (λ us ys a. one (Spells.error k (inner a)) refl)))))
        (λ n16. if_fits (λ t h. (tt, (λ k. ((λ d. fresh), (λ us ys a. one (Spells.import Import.importstr k (inner a)) refl)))))
        (λ n17. if_fits (λ t h. (tt, (λ k. ((λ d. fresh), (λ us ys a. one (Spells.import Import.importbin k (inner a)) refl)))))
        (λ n18. if_fits (λ t h. (tt, (λ k. ((λ d. fresh), (λ us ys a. one (Spells.import Import.import k (inner a)) refl)))))
        (λ n19. if_fits (λ t h. one (Spells.variable (seen xs tt t)) refl) (λ n20. tt)))))))))))))))))))))
    keeps Phrase.string p x₀ xs ts (q, fresh) = if_fits (λ t h. one (spells_literal R xs q t) refl) (λ n1. tt)
    keeps Phrase.array p x₀ xs ts (opened k) =
        if_fits (λ t h. (tt, (λ j. one (Spells.array k (Spells.row_shut Spells.each_none) j) refl)))
        (λ n1. ((λ d. fresh), (λ us ys a. (behind k (entered a), (λ us ys y. y)))))
    keeps Phrase.array_first p x₀ xs ts (behind k a) =
        if_fits (λ t h. (comprehending k a (Perhaps.no (stop COMMA xs (other (kind_of xs) FOR_KW COMMA tt t))), (λ us ys y. y)))
        (λ n1. if_fits (λ t h. (tt, (λ c. (comprehending k a (Perhaps.yes c), (λ us ys y. y)))))
        (λ n2. (behind k (last Spells.each_none (plain R a)), (λ us ys y. y))))
    keeps Phrase.array_comp p x₀ xs ts d = (fresh, (λ us ys a. (comprehended d a, (λ us ys y. y))))
    keeps Phrase.array_comp_end p x₀ xs ts d = (tt, (λ j. one (spells_array_comprehension R d j) refl))
    keeps Phrase.elements p x₀ xs ts (behind k l) =
        if_fits (λ t h. (tt, (λ c. (behind k (shut R l c), (λ us ys y. y))))) (λ n1. (tt, (λ j. one (Spells.array k (as_row R l) j) refl)))
    keeps Phrase.next_element p x₀ xs ts (behind k e) =
        if_fits (λ t h. (tt, (λ j. one (Spells.array k (Spells.row_shut e) j) refl)))
        (λ n1. ((λ d. fresh), (λ us ys a. (behind k (last e (inner a)), (λ us ys y. y)))))
    keeps Phrase.inside p x₀ xs ts fresh =
        if_fits (λ t h. inside (λ w y k j. Spells.members k (Spells.row_shut Spells.each_none) j) refl)
        (λ n1. (fresh, (λ us ys a. ((last Spells.each_none a.spelled, a.adds 4 x₀ none (each_local Spells.each_none)), (λ us ys y. y)))))
    keeps Phrase.member p x₀ xs ts fresh =
        if_fits (λ t h. (tt, (λ k. (fresh, (λ us ys a. a_local_member R t (Spells.a_local k a))))))
        (λ n1. if_fits (λ t h. (fresh, (λ us ys a. an_assert_member R t a)))
        (λ n2. (fresh, (λ us ys a. a_field_member R (λ t. n1 t tt) (λ t. n2 t tt) a))))
    keeps (Phrase.members c) p x₀ xs ts (l, m) =
        if_fits (λ t h. (tt, (λ k. ((shut R l k, member_comma R m k), (λ us ys y. y)))))
        (λ n1. if_fits (λ t h. (last_members R m, (λ us ys y. y))) (λ n2. inside (λ w y k j. Spells.members k (as_row R l) j) refl))
    keeps (Phrase.next_member c) p x₀ xs ts (e, m) =
        if_fits (λ t h. inside (λ w y k j. Spells.members k (Spells.row_shut e) j) refl)
        (λ n1. if_fits (λ t h. (each_members R m, (λ us ys y. y)))
        (λ n2. (fresh, (λ us ys a. ((last e a.spelled, a.adds c x₀ ts m), (λ us ys y. y))))))
    keeps (Phrase.comprehension c) p x₀ xs ts m = if_fits (λ t h. (fresh, (λ us ys a. (to_clauses R t m a, (λ us ys y. y))))) (λ n1. (fresh, (λ us ys a. tt)))
    keeps (Phrase.comprehension_end m) p x₀ xs ts d = inside (λ w y k j. spells_object_comprehension R d k j) refl
    keeps Phrase.field p x₀ xs ts fresh =
        if_fits (λ t h. (one (Spells.name_word (seen xs tt t)) refl, (λ us ys y. y)))
        (λ n1. if_fits (λ t h. ((quoted_kind (kind_of xs) t, fresh), (λ us ys a. (named_by R a, (λ us ys y. y)))))
        (λ n2. if_fits (λ t h. (
          tt,
          (λ k. (
            (λ d. fresh),
            (λ us ys a. (
              tt,
              (λ j. (one (Spells.name_computed k (inner a) j) (just R (entered a)), (λ us ys y. y))),
            )),
          )),
        )) (λ n3. tt)))
    keeps (Phrase.field_named c a) p x₀ xs ts n =
        if_fits (λ t h. (tt, (λ k. (Spells.each_none, (λ us ys b. (tt, (λ j. (headed_method n k b j, (λ us ys y. y)))))))))
        (λ n1. if_fits (λ t h. (tt, (λ k. (headed n (Perhaps.yes k), (λ us ys y. y)))))
        (λ n2. (headed n (Perhaps.no (stop PLUS xs (λ t. n2 t tt))), (λ us ys y. y))))
    keeps (Phrase.field_value i j c p' m) p x₀ xs ts d =
        if_fits (λ t h. (tt, (λ a. (tt, (λ b. (tt, (λ c. ((λ d. fresh), (λ us ys e. spells_field R d (Colons.three a b c) (inner e))))))))))
        (λ n1. if_fits (λ t h. (
          tt,
          (λ a. (
            tt,
            (λ b. (
              (λ d. fresh),
              (λ us ys e. spells_field R d (Colons.two a b (two_only xs n1 a b))
                  (inner e)),
            )),
          )),
        )) (λ n2. (tt, (λ a. ((λ d. fresh), (λ us ys e. spells_field R d (Colons.one a (one_only xs n2 a)) (inner e)))))))
    keeps Phrase.params p x₀ xs ts e = if_fits (λ t h. Spells.row_shut e) (λ n1. (fresh, (λ us ys a. (last e a, (λ us ys y. y)))))
    keeps Phrase.params_end p x₀ xs ts l = if_fits (λ t h. (tt, (λ k. (shut R l k, (λ us ys y. y))))) (λ n1. as_row R l)
    keeps Phrase.param p x₀ xs ts fresh = (fresh, (λ us ys a. (a, (λ us ys y. y))))
    keeps Phrase.param_default p x₀ xs ts d =
        if_fits (λ t h. (tt, (λ k. ((λ d. fresh), (λ us ys a. Spells.a_parameter d (Spells.perhaps_so k (inner a)))))))
        (λ n1. retree R refl (⊕_none ts) (Spells.a_parameter d (Spells.perhaps_not (stop ASSIGN xs (λ t. n1 t tt)))))
    keeps Phrase.binds p x₀ xs ts (behind k e) =
        if_fits (λ t h. (behind k (Spells.row_shut e), (λ us ys y. y))) (λ n1. (fresh, (λ us ys a. (behind k (last e a), (λ us ys y. y)))))
    keeps Phrase.binds_end p x₀ xs ts (behind k l) =
        if_fits (λ t h. (tt, (λ c. (behind k (shut R l c), (λ us ys y. y))))) (λ n1. (behind k (as_row R l), (λ us ys y. y)))
    keeps Phrase.local_body p x₀ xs ts (behind k r) = (tt, (λ j. ((λ d. fresh), (λ us ys a. one (Spells.locals k r j (inner a)) refl))))
    keeps Phrase.bind p x₀ xs ts fresh =
        if_fits (λ t h. (a_name (seen xs tt t), (λ us ys y. y))) (λ n1.
        (fresh, (λ us ys d. (tt, (λ k. ((λ d. fresh), (λ vs zs a. Spells.bind_value d k (inner a))))))))
    keeps Phrase.bind_named p x₀ xs ts d =
        if_fits (λ t h. (tt, (λ k. (Spells.each_none, (λ us ys a. (tt, (λ j. (with_params R d k a j, (λ us ys y. y)))))))))
        (λ n1. (tt, (λ k. ((λ d. fresh), (λ us ys a. spells_value R d k (inner a))))))
    keeps Phrase.bind_function p x₀ xs ts d = (tt, (λ k. ((λ d. fresh), (λ us ys a. spells_function R d k (inner a)))))
    keeps (Phrase.else_part i j) p x₀ xs ts (iffed k c l t') =
        if_fits (λ t h. (tt, (λ e. ((λ d. fresh), (λ us ys a. one (Spells.if k c l t' (Spells.perhaps_so e (inner a))) refl)))))
        (λ n1. one (retree R refl (⊕_none ts) (Spells.if k c l t' (Spells.perhaps_not (stop ELSE_KW xs (λ t. n1 t tt))))) refl)
    keeps (Phrase.function_body i j) p x₀ xs ts (functioned k l r m) = ((λ d. fresh), (λ us ys a. one (Spells.function k l r m (inner a)) refl))
    keeps Phrase.assertion p x₀ xs ts fresh = (tt, (λ k. (opened k, (λ us ys y. y))))
    keeps Phrase.condition p x₀ xs ts (opened k) = ((λ d. fresh), (λ us ys a. (behind k (inner a), (λ us ys y. y))))
    keeps (Phrase.asserted a) p x₀ xs ts (behind k e) =
        if_fits (λ t h. (tt, (λ j. ((λ d. fresh), (λ us ys b. Spells.asserted k e (Spells.perhaps_so j (inner b)))))))
        (λ n1. retree R refl (⊕_none ts) (Spells.asserted k e (Spells.perhaps_not (stop COLON xs (λ t. n1 t tt)))))
    keeps Phrase.clauses p x₀ xs ts fresh = (tt, (λ k. (fresh, (λ us ys a. (Spells.first_clause k a, (λ us ys y. y))))))
    keeps Phrase.more_clauses p x₀ xs ts d =
        if_fits (λ t h. (tt, (λ k. (fresh, (λ us ys a. (Spells.for_clause d k a, (λ us ys y. y)))))))
        (λ n1. if_fits (λ t h. (tt, (λ k. (fresh, (λ us ys a. (add_guard R d k a, (λ us ys y. y))))))) (λ n2. d))
    keeps Phrase.for_clause p x₀ xs ts fresh =
        if_fits (λ t h. ((λ d. fresh), (λ us ys a. (with_key R h (inner_header a), (λ us ys y. y)))))
        (λ n1. (fresh, (λ us ys d. (tt, (λ k. ((λ d. fresh), (λ vs zs a. Spells.each_of d k (inner a))))))))
    keeps Phrase.header p x₀ xs ts fresh = (tt, (λ a. (tt, (λ b. (tt, (λ c. header a (resaid b) c))))))
    keeps (Phrase.if_clause i j) p x₀ xs ts fresh = ((λ d. fresh), (λ us ys a. guarded i j (inner a)))
    keeps (Phrase.iteration w) p x₀ xs ts d =
        if_fits (λ t h. (tt, (λ a. (tt, (λ b. (tt, (λ c. (visible d (Colons.three a b c), (λ us ys y. y)))))))))
        (λ n1. if_fits (λ t h. (tt, (λ a. (tt, (λ b. (visible d (Colons.two a b (two_only xs n1 a b)), (λ us ys y. y)))))))
        (λ n2. (tt, (λ a. (visible d (Colons.one a (one_only xs n2 a)), (λ us ys y. y))))))
    keeps (Phrase.iteration_value c w) p x₀ xs ts d = (fresh, (λ us ys q. (tt, (λ k. ((λ d. fresh), (λ vs zs a. spells_iteration R d q k (inner a)))))))
    keeps Phrase.pattern p x₀ xs ts fresh =
        if_fits (λ t h. Spells.name_pattern (seen xs tt t)) (λ n1. if_fits (λ t h. Spells.skip h (seen' xs tt t))
        (λ n2. if_fits (λ t h. ((λ d. (h, fresh)), (λ us ys a. inner_array a)))
        (λ n3. if_fits (λ t h. ((λ d. (h, fresh)), (λ us ys a. inner_object a))) (λ n4. if_fits (λ t h. tt) (λ n5. tt)))))
    keeps Phrase.array_pattern p x₀ xs ts (h, fresh) = (tt, (λ k. (starts h k Spells.each_none, (λ us ys y. y))))
    keeps Phrase.pattern_starts p x₀ xs ts (starts h' k e) =
        if_fits (λ t h. (whole h' k (Spells.row_shut e) refl, (λ us ys y. y)))
        (λ n1. if_fits (λ t h. (tt, (λ d. ((refl, dots h' k e d), (λ us ys y. y))))) (λ n2. (fresh, (λ us ys a. (starts h' k (last e a), (λ us ys y. y))))))
    keeps Phrase.pattern_starts_end p x₀ xs ts (starts h' k l) =
        if_fits (λ t h. (tt, (λ c. (starts h' k (shut R l c), (λ us ys y. y))))) (λ n1. (whole h' k (as_row R l) refl, (λ us ys y. y)))
    keeps (Phrase.array_rest n) p x₀ xs ts (q, d) =
        if_fits (λ t h. (tt, (λ i. ((q, keeps_name R d (resaid i)), (λ us ys y. y))))) (λ n1. ((q, drops R d (stop IDENT xs (λ t. n1 t tt))), (λ us ys y. y)))
    keeps (Phrase.array_rest_end n r w) p x₀ xs ts (q, d) =
        if_fits (λ t h. (tt, (λ k. (first_ends R q d k, (λ us ys y. y))))) (λ n1. (no_ends R q d, (λ us ys y. y)))
    keeps (Phrase.pattern_ends n r w) p x₀ xs ts d = if_fits (λ t h. (shut_ends R d, (λ us ys y. y))) (λ n1. (fresh, (λ us ys a. (add_end R d a, (λ us ys y. y)))))
    keeps (Phrase.pattern_ends_end n r w) p x₀ xs ts d = if_fits (λ t h. (tt, (λ k. (comma_ends R d k, (λ us ys y. y))))) (λ n1. (open_ends R d, (λ us ys y. y)))
    keeps (Phrase.array_pattern_close n r w) p x₀ xs ts d = (tt, (λ j. spells_array_pattern R d j))
    keeps Phrase.object_pattern p x₀ xs ts (h, fresh) = (tt, (λ k. (starts h k Spells.each_none, (λ us ys y. y))))
    keeps Phrase.pattern_fields p x₀ xs ts (starts h' k e) =
        if_fits (λ t h. (all_fields h' k (Spells.row_shut e), (λ us ys y. y)))
        (λ n1. if_fits (λ t h. (tt, (λ d. (dots h' k e d, (λ us ys y. y))))) (λ n2. (fresh, (λ us ys a. (starts h' k (last e a), (λ us ys y. y))))))
    keeps Phrase.pattern_fields_end p x₀ xs ts (starts h' k l) =
        if_fits (λ t h. (tt, (λ c. (starts h' k (shut R l c), (λ us ys y. y))))) (λ n1. (all_fields h' k (as_row R l), (λ us ys y. y)))
    keeps Phrase.object_rest p x₀ xs ts d =
        if_fits (λ t h. (tt, (λ i. (keeps_name R d (resaid i), (λ us ys y. y))))) (λ n1. (drops R d (stop IDENT xs (λ t. n1 t tt)), (λ us ys y. y)))
    keeps (Phrase.object_rest_end r w) p x₀ xs ts d =
        if_fits (λ t h. (tt, (λ k. (and_rest d (Perhaps.yes k), (λ us ys y. y))))) (λ n1. (and_rest d (Perhaps.no (stop COMMA xs (λ t. n1 t tt))), (λ us ys y. y)))
    keeps (Phrase.object_pattern_close r w) p x₀ xs ts d = (tt, (λ j. spells_object_pattern R d j))
    keeps Phrase.pattern_field p x₀ xs ts fresh = (tt, (λ i. (entry (resaid i) refl, (λ us ys y. y))))
    keeps (Phrase.pattern_into w) p x₀ xs ts (entry i q) =
        if_fits (λ t h. (tt, (λ k. (fresh, (λ us ys a. (into (entry i q) (Spells.perhaps_so k a), (λ us ys y. y)))))))
        (λ n1. (into (entry i q) (Spells.perhaps_not (stop COLON xs (λ t. n1 t tt))), (λ us ys y. y)))
    keeps (Phrase.pattern_default h w) p x₀ xs ts d =
        if_fits (λ t h. (tt, (λ k. (defaulting d k, (λ us ys y. y)))))
        (λ n1. retree R refl (⊕_none ts) (spells_pattern_field R d (Spells.perhaps_not (stop ASSIGN xs (λ t. n1 t tt)))))
    keeps (Phrase.default_value h w) p x₀ xs ts d = ((λ d. fresh), (λ us ys a. (defaulted d (inner a), (λ us ys y. y))))
    keeps (Phrase.default_end h w a) p x₀ xs ts (defaulted (defaulting d k) e) = spells_pattern_field R d (Spells.perhaps_so k e)
