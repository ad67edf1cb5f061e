-- Basic expressions that are spelled greedily are read.
-- Assumes nothing.
use mathlib.Core.Path.{◌≡◌, refl, ap, subst}
use mathlib.Core.Bool.{Bool, ◌&&◌, not}
use mathlib.Core.List.{List, [], ◌∷◌}
use Prim.Native.Nat.{ℕ}
use lib.Dec.{T, T_not, eqb, eqb→eq}
use Rattle.lexemes.specs.Kinds.{PLUS, MINUS, NOT, BIT_NOT, L_BRACK, R_BRACK, L_PAREN, R_PAREN, COLON, SEMI, COMMA, FLOAT, IDENT}
use Rattle.lexemes.specs.Kinds.{LOCAL_KW, IF_KW, THEN_KW, ELSE_KW, FUNCTION_KW, ERROR_KW, NULL_KW, TRUE_KW, FALSE_KW, FOR_KW}
use Rattle.grammar.specs.Tags.{IDENTITY, NULL, BOOL, NUMBER, VARIABLE, ARRAY, ARRAY_COMP, ASSERT_EXPR, LOCAL, IMPORT, ERROR, FUNCTION, IF}
use Rattle.grammar.specs.Trees.{byte, number, span, text, Trees, none, tree, ◌⊕◌, count}
use Rattle.grammar.specs.Lexemes.{Said, says, good, said, rest, kind_of}
use Rattle.grammar.specs.Productions.{Phrase, end, goto, rule}
use Rattle.grammar.specs.Reading.{has, choose, view, production}
use Rattle.grammar.specs.Spells.{Lexemes, ◌is◌saying◌then◌, worded, ◌is◌then◌, lexeme, Perhaps, Quoted, Identity, Import, greedily}
use Rattle.grammar.proofs.Alike.{same, spans, nil, ◌⋆◌, Alike, no_trees, alike_tree, alike_⊕, alike_none, alike_number}
use Rattle.grammar.proofs.GreedySteps.{Under, Got, Goes, deeps, stay, next, eats, leafs, closes, enters, subs, finish, at_last, this, skip, turns}
use Rattle.grammar.proofs.LexemeForms.{Not, kind_is}
use Rattle.grammar.proofs.GreedyClaims.{ExprRead, BasicRead, a_basic, ObjectRead, in_braces, EachOf, e_none, e_more, RowOf, r_shut, r_last}
use Rattle.grammar.proofs.GreedyClaims.{MaybeOf, m_not, m_so, ClausesRead, some_clauses, ParameterRead, BindRead, AssertionRead, an_assertion}
use Rattle.grammar.proofs.GreedyClaims.{StringRead, a_string_read, got_expr, opens, one_expr}
use Rattle.grammar.proofs.GreedyMembers.{got_params, binds_goes}
use Rattle.grammar.proofs.GreedyObjects.{less, got_clauses}

-- The kinds that begin a basic expression, but for a name: an expression goes on or is over at none of these.
unfoldable Begins : ℕ → Bool
Begins k =
    not (eqb k R_BRACK) && not (eqb k COLON) && not (eqb k R_PAREN) && not (eqb k FOR_KW) && not (eqb k PLUS) && not (eqb k MINUS) && not
    (eqb k BIT_NOT) && not (eqb k NOT) && not (eqb k IDENT)

bars : (k j : ℕ) → T (Begins k) → T (not (Begins j)) → Not k j
bars k j h n t = T_not (Begins j) n (subst (λ (i : ℕ). T (Begins i)) (eqb→eq k j t) h)

module _ {G : Under} where
  begins_so : {xs ys : Lexemes} {t : Trees} → T (Begins (kind_of xs)) → count t ≡ 1 → ((p : ℕ) → Got G Phrase.basic p xs t ys) → BasicRead G xs t ys
  unfolding Begins
  begins_so {xs} h c f =
      let k = kind_of xs in
      a_basic (bars k R_BRACK h tt, bars k COLON h tt, bars k R_PAREN h tt, bars k FOR_KW h tt)
      (bars k PLUS h tt, bars k MINUS h tt, bars k BIT_NOT h tt, bars k NOT h tt)
      (λ t u. absurd (bars k IDENT h tt t)) c f

  -- ── Arrays ──────────────────────────────────────────────────────────────────────────────────────

  array_item : {y z w : Lexemes} {ts t : Trees} → EachOf (ExprRead G 0) y ts z → ExprRead G 0 z t w → Not (kind_of w) FOR_KW
      → (T (eqb (kind_of w) COMMA && eqb (kind_of (rest w)) FOR_KW) → ⊥) → (p : ℕ)
      → Goes G (goto Phrase.array) none p y (goto Phrase.elements) (ts ⊕ t) w
  unfolding rule view has ◌⊕◌
  array_item e_none e n m p =
      turns (skip (λ t h. (opens e).0 t) at_last) (deeps (got_expr e p) (λ us r al. turns (skip (λ t h. n t) (skip (λ t h. m t) at_last)) (stay al)))
  array_item (e_more d x lexeme) e n m p =
      next (array_item d x (λ t. t) (λ t. (opens e).3 t) p) (λ us r al. turns (this tt tt)
      (eats lexeme (λ r. turns (skip (λ t h. (opens e).0 t) at_last) (deeps (got_expr e r) (λ vs r al'. stay (alike_⊕ al al'))))))

  array_goes : {y z w : Lexemes} {ts : Trees} → RowOf (ExprRead G 0) y ts z → z is R_BRACK then w → (p : ℕ)
      → Goes G (goto Phrase.array) none p y end (tree ARRAY (number (count ts) ∷ []) ts) w
  unfolding rule view has count
  array_goes (r_shut e_none) lexeme p = turns (this tt tt) (eats lexeme (λ r. closes (stay (alike_tree (same refl ⋆ nil) no_trees))))
  array_goes (r_shut (e_more d x lexeme)) lexeme p =
      next (array_item d x (λ t. t) (λ t. t) p) (λ us r al. turns (this tt tt)
      (eats lexeme (λ r. turns (this tt tt) (eats lexeme (λ r. closes (stay (alike_tree (alike_number al ⋆ nil) al)))))))
  array_goes (r_last d x) lexeme p =
      next (array_item d x (λ t. t) (λ t. t) p) (λ us r al. turns (skip (λ t h. t) at_last)
      (eats lexeme (λ r. closes (stay (alike_tree (alike_number al ⋆ nil) al)))))

  comprehension_goes : {b : ℕ} {y z w u x : Lexemes} {t cs : Trees} → ExprRead G 0 y t z → Perhaps (greedily G.setting) COMMA b z w
      → ClausesRead G w cs u → u is R_BRACK then x → (p : ℕ)
      → Goes G (goto Phrase.array) none p y end (tree ARRAY_COMP (number (count cs) ∷ []) (t ⊕ cs)) x
  unfolding rule view has ◌⊕◌
  comprehension_goes e (Perhaps.no g) (some_clauses h f) lexeme p =
      turns (skip (λ t h. (opens e).0 t) at_last) (deeps (got_expr e p)
      (λ us r al. turns (this h tt) (turns at_last (subs (got_clauses (some_clauses h f) (λ t. t) (λ t. t) r)
      (λ vs r al'. turns at_last (eats lexeme (λ r. closes (stay (alike_tree (same (ap number (less (one_expr e) al al')) ⋆ nil) (alike_⊕ al al'))))))))))
  comprehension_goes e (Perhaps.yes lexeme) (some_clauses h f) lexeme p =
      turns (skip (λ t h. (opens e).0 t) at_last) (deeps (got_expr e p)
      (λ us r al. turns (skip (λ t h. t) (this h tt)) (eats lexeme (λ r. turns at_last (subs (got_clauses (some_clauses h f) (λ t. t) (λ t. t) r)
      (λ vs r al'. turns at_last (eats lexeme (λ r. closes (stay (alike_tree (same (ap number (less (one_expr e) al al')) ⋆ nil) (alike_⊕ al al')))))))))))

  -- ── Basic expressions ───────────────────────────────────────────────────────────────────────────

  pub a_identity : {k o a e : ℕ} {xs ys : Lexemes} → Identity k o → xs is k then ys → BasicRead G xs (tree IDENTITY (byte o ∷ span a e ∷ []) none) ys
  unfolding Begins production choose rule view has good said count ◌⊕◌
  a_identity Identity.self lexeme = begins_so tt refl (λ p. finish (leafs lexeme (λ r. stay (alike_tree (same refl ⋆ spans ⋆ nil) no_trees))))
  a_identity Identity.super lexeme = begins_so tt refl (λ p. finish (leafs lexeme (λ r. stay (alike_tree (same refl ⋆ spans ⋆ nil) no_trees))))
  a_identity Identity.dollar lexeme = begins_so tt refl (λ p. finish (leafs lexeme (λ r. stay (alike_tree (same refl ⋆ spans ⋆ nil) no_trees))))

  pub a_null : {xs ys : Lexemes} → xs is NULL_KW then ys → BasicRead G xs (tree NULL [] none) ys
  unfolding Begins production choose rule view has good said count ◌⊕◌
  a_null lexeme = begins_so tt refl (λ p. finish (leafs lexeme (λ r. stay (alike_tree nil no_trees))))

  pub a_true : {xs ys : Lexemes} → xs is TRUE_KW then ys → BasicRead G xs (tree BOOL (byte 1 ∷ []) none) ys
  unfolding Begins production choose rule view has good said count ◌⊕◌
  a_true lexeme = begins_so tt refl (λ p. finish (leafs lexeme (λ r. stay (alike_tree (same refl ⋆ nil) no_trees))))

  pub a_false : {xs ys : Lexemes} → xs is FALSE_KW then ys → BasicRead G xs (tree BOOL (byte 0 ∷ []) none) ys
  unfolding Begins production choose rule view has good said count ◌⊕◌
  a_false lexeme = begins_so tt refl (λ p. finish (leafs lexeme (λ r. stay (alike_tree (same refl ⋆ nil) no_trees))))

  pub a_numeral : {w : List ℕ} {xs ys : Lexemes} → xs is FLOAT saying says w then ys → BasicRead G xs (tree NUMBER (text w ∷ []) none) ys
  unfolding Begins production choose rule view has good said count ◌⊕◌
  a_numeral worded = begins_so tt refl (λ p. finish (leafs lexeme (λ r. stay (alike_tree (same refl ⋆ nil) no_trees))))

  pub a_variable : {a e : ℕ} {v : Said} {xs ys : Lexemes} → xs is IDENT saying v then ys → BasicRead G xs (tree VARIABLE (span a e ∷ text (said v) ∷ []) none) ys
  unfolding Begins production choose rule view has good said count ◌⊕◌
  a_variable worded =
      a_basic ((λ t. t), (λ t. t), (λ t. t), (λ t. t)) ((λ t. t), (λ t. t), (λ t. t), (λ t. t)) (λ t u. u) refl
      (λ p. finish (leafs lexeme (λ r. stay (alike_tree (spans ⋆ same refl ⋆ nil) no_trees))))

  pub a_literal : {xs ys : Lexemes} {t : Trees} → StringRead xs t ys → BasicRead G xs t ys
  unfolding Begins production choose rule view has good said count ◌⊕◌
  a_literal (a_string_read Quoted.double worded) = begins_so tt refl (λ p. finish (enters (leafs lexeme (λ r. stay (alike_tree (same refl ⋆ nil) no_trees)))))
  a_literal (a_string_read Quoted.single worded) = begins_so tt refl (λ p. finish (enters (leafs lexeme (λ r. stay (alike_tree (same refl ⋆ nil) no_trees)))))
  a_literal (a_string_read Quoted.double_verbatim worded) =
      begins_so tt refl (λ p. finish (enters (leafs lexeme (λ r. stay (alike_tree (same refl ⋆ nil) no_trees)))))
  a_literal (a_string_read Quoted.single_verbatim worded) =
      begins_so tt refl (λ p. finish (enters (leafs lexeme (λ r. stay (alike_tree (same refl ⋆ nil) no_trees)))))
  a_literal (a_string_read Quoted.block worded) = begins_so tt refl (λ p. finish (enters (leafs lexeme (λ r. stay (alike_tree (same refl ⋆ nil) no_trees)))))

  pub a_parens : {xs ys zs ws : Lexemes} {t : Trees} → xs is L_PAREN then ys → ExprRead G 0 ys t zs → zs is R_PAREN then ws → BasicRead G xs t ws
  unfolding Begins production choose rule view has good said count ◌⊕◌
  a_parens lexeme e j = begins_so tt (one_expr e) (λ p. finish (eats lexeme (λ r. deeps (got_expr e r) (λ us r al. eats j (λ r. stay al)))))

  pub an_array : {xs ys zs ws : Lexemes} {ts : Trees} → xs is L_BRACK then ys → RowOf (ExprRead G 0) ys ts zs → zs is R_BRACK then ws
      → BasicRead G xs (tree ARRAY (number (count ts) ∷ []) ts) ws
  unfolding Begins production choose rule view has good said count ◌⊕◌
  an_array lexeme r j = begins_so tt refl (λ p. finish (eats lexeme (λ p. array_goes r j p)))

  pub an_array_comprehension : {b : ℕ} {xs ys zs ws us vs : Lexemes} {t cs : Trees} → xs is L_BRACK then ys → ExprRead G 0 ys t zs
      → Perhaps (greedily G.setting) COMMA b zs ws → ClausesRead G ws cs us → us is R_BRACK then vs
      → BasicRead G xs (tree ARRAY_COMP (number (count cs) ∷ []) (t ⊕ cs)) vs
  unfolding Begins production choose rule view has good said count ◌⊕◌
  an_array_comprehension lexeme e c d j = begins_so tt refl (λ p. finish (eats lexeme (λ p. comprehension_goes e c d j p)))

  pub an_object : {xs ys : Lexemes} {t : Trees} → ObjectRead G xs t ys → BasicRead G xs t ys
  unfolding Begins production choose rule view has good said count ◌⊕◌
  an_object (in_braces lexeme o f j) = begins_so tt o (λ p. finish (eats lexeme (λ r. subs (f r) (λ us r al. eats j (λ r. stay al)))))

  pub an_assert : {xs ys zs ws : Lexemes} {a t : Trees} → AssertionRead G xs a ys → ys is SEMI then zs → ExprRead G 0 zs t ws
      → BasicRead G xs (tree ASSERT_EXPR [] (a ⊕ t)) ws
  unfolding Begins production choose rule view has good said count ◌⊕◌
  an_assert (an_assertion lexeme f) j e =
      begins_so tt refl (λ p. finish (subs (f p) (λ us r al. eats j (λ r. deeps (got_expr e r) (λ vs r al'. closes (stay (alike_tree nil (alike_⊕ al al'))))))))

  pub some_locals : {xs ys zs ws us : Lexemes} {bs t : Trees} → xs is LOCAL_KW then ys → RowOf (BindRead G) ys bs zs → zs is SEMI then ws
      → ExprRead G 0 ws t us → BasicRead G xs (tree LOCAL (number (count bs) ∷ []) (bs ⊕ t)) us
  unfolding Begins production choose rule view has good said count ◌⊕◌
  some_locals lexeme r j e =
      begins_so tt refl (λ p. finish (eats lexeme (λ p. next (binds_goes r (kind_is j) p)
      (λ us r al. enters (eats j (λ r. deeps (got_expr e r) (λ vs r al'. closes (stay (alike_tree (alike_number al ⋆ nil) (alike_⊕ al al'))))))))))

  pub an_import : {k o a e : ℕ} {xs ys zs : Lexemes} {t : Trees} → Import k o → xs is k then ys → ExprRead G 0 ys t zs
      → BasicRead G xs (tree IMPORT (byte o ∷ span a e ∷ []) t) zs
  unfolding Begins production choose rule view has good said count ◌⊕◌
  an_import Import.import lexeme e =
      begins_so tt refl (λ p. finish (eats lexeme (λ r. deeps (got_expr e r) (λ us r al. closes (stay (alike_tree (same refl ⋆ spans ⋆ nil) al))))))
  an_import Import.importstr lexeme e =
      begins_so tt refl (λ p. finish (eats lexeme (λ r. deeps (got_expr e r) (λ us r al. closes (stay (alike_tree (same refl ⋆ spans ⋆ nil) al))))))
  an_import Import.importbin lexeme e =
      begins_so tt refl (λ p. finish (eats lexeme (λ r. deeps (got_expr e r) (λ us r al. closes (stay (alike_tree (same refl ⋆ spans ⋆ nil) al))))))

  pub an_error : {a b : ℕ} {xs ys zs : Lexemes} {t : Trees} → xs is ERROR_KW then ys → ExprRead G 0 ys t zs → BasicRead G xs (tree ERROR (span a b ∷ []) t) zs
  unfolding Begins production choose rule view has good said count ◌⊕◌
  an_error lexeme e = begins_so tt refl (λ p. finish (eats lexeme (λ r. deeps (got_expr e r) (λ us r al. closes (stay (alike_tree (spans ⋆ nil) al))))))

  pub a_function : {a b : ℕ} {xs ys zs ws us vs : Lexemes} {ps t : Trees} → xs is FUNCTION_KW then ys → ys is L_PAREN then zs
      → RowOf (ParameterRead G) zs ps ws → ws is R_PAREN then us → ExprRead G 0 us t vs
      → BasicRead G xs (tree FUNCTION (span a b ∷ number (count ps) ∷ []) (ps ⊕ t)) vs
  unfolding Begins production choose rule view has good said count ◌⊕◌
  a_function lexeme k r j e =
      begins_so tt refl (λ p. finish (eats lexeme (λ p. eats k (λ p. subs (got_params r (kind_is j) p)
      (λ us r al. eats j (λ r. enters (deeps (got_expr e r) (λ vs r al'. closes (stay (alike_tree (spans ⋆ alike_number al ⋆ nil) (alike_⊕ al al')))))))))))

  else_goes : {d i j a b : ℕ} {x y : Lexemes} {f : Trees} → MaybeOf ELSE_KW (ExprRead G 0) d x f y → (us t₀ : Trees) (p : ℕ) → Alike t₀ us
      → Goes G (goto (Phrase.else_part i j)) us p x end (tree IF (span a b ∷ byte d ∷ []) (t₀ ⊕ f)) y
  unfolding rule view has
  else_goes (m_not n) us t₀ p al = turns (skip (λ t h. n t) at_last) (closes (stay (alike_tree (spans ⋆ same refl ⋆ nil) (alike_none al))))
  else_goes (m_so lexeme e) us t₀ p al =
      turns (this tt tt) (eats lexeme (λ r. deeps (got_expr e r) (λ vs r al'. closes (stay (alike_tree (spans ⋆ same refl ⋆ nil) (alike_⊕ al al'))))))

  pub an_if : {a b d : ℕ} {xs ys zs ws us vs : Lexemes} {c t f : Trees} → xs is IF_KW then ys → ExprRead G 0 ys c zs → zs is THEN_KW then ws
      → ExprRead G 0 ws t us → MaybeOf ELSE_KW (ExprRead G 0) d us f vs
      → BasicRead G xs (tree IF (span a b ∷ byte d ∷ []) (c ⊕ t ⊕ f)) vs
  unfolding Begins production choose rule view has good said count ◌⊕◌
  an_if {c = c} {t = u} lexeme e j g m =
      begins_so tt refl (λ p. finish (eats lexeme (λ r. deeps (got_expr e r)
      (λ us r al. eats j (λ r. deeps (got_expr g r) (λ vs r al'. else_goes m (us ⊕ vs) (c ⊕ u) r (alike_⊕ al al')))))))
