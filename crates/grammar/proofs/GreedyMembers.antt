-- Parameters, binds, fields and asserts that are spelled greedily are read.
-- Assumes nothing.
use mathlib.Core.Path.{◌≡◌, refl, ap, ◌∙◌}
use mathlib.Core.List.{[], ◌∷◌}
use Prim.Native.Nat.{ℕ, suc, ◌-◌}
use native.Mathlib.Omega.{arith}
use lib.Dec.{T, eqb}
use Rattle.lexemes.specs.Kinds.{PLUS, L_BRACK, R_BRACK, L_PAREN, R_PAREN, COLON, SEMI, COMMA, ASSIGN, IDENT}
use Rattle.lexemes.specs.Kinds.{ASSERT_KW}
use Rattle.grammar.specs.Tags.{STRING, BIND, NAME_PATTERN, PARAMETER, FIELD, ASSERT}
use Rattle.grammar.specs.Trees.{byte, number, span, text, Trees, none, node, tree, ◌⊕◌, count}
use Rattle.grammar.specs.Lexemes.{Said, good, said, rest, kind_of}
use Rattle.grammar.specs.Productions.{Phrase, end, goto, rule}
use Rattle.grammar.specs.Reading.{has, view}
use Rattle.grammar.specs.Spells.{Lexemes, ◌is◌saying◌then◌, worded, ◌is◌then◌, lexeme, Perhaps, Colons, Quoted, greedily}
use Rattle.grammar.proofs.Chosen.{and_left}
use Rattle.grammar.proofs.ImageLaws.{count-row}
use Rattle.grammar.proofs.Alike.{same, spans, nil, ◌⋆◌, Alike, no_trees, a_node, alike_tree, alike_⊕, alike_none, alike_count}
use Rattle.grammar.proofs.GreedySteps.{Under, Got, Goes, deeps, stay, next, eats, leafs, closes, subs, finish, from_goto, respell, at_last}
use Rattle.grammar.proofs.GreedySteps.{this, skip, by_row, turns, begins}
use Rattle.grammar.proofs.LexemeForms.{Not, kind_is, other}
use Rattle.grammar.proofs.GreedyPicks.{not_option}
use Rattle.grammar.proofs.GreedyClaims.{ExprRead, RowOf, MaybeOf, m_not, m_so, ParameterRead, a_param, BindRead, a_bind, PatternRead, pat_name}
use Rattle.grammar.proofs.GreedyClaims.{pat_other, FieldRead, a_field_read, NameComes, comes, NameRead, a_name_read, AssertionRead}
use Rattle.grammar.proofs.GreedyClaims.{an_assertion, StringRead, a_string_read, got_expr, one_expr, row_goes}
use Rattle.grammar.proofs.GreedyPatterns.{got_pattern, pattern_not}

fewer : {t us : Trees} → Alike t us → count t - 1 ≡ count us - 1
fewer a = ap (λ (n : ℕ). n - 1) (alike_count a)

suc_less : (n : ℕ) → n ≡ suc n - 1
suc_less n = omega arith

pub colon_next : {s v : ℕ} {xs ys : Lexemes} → Colons (greedily s) v xs ys → T (eqb (kind_of xs) COLON)
colon_next (Colons.one lexeme g) = tt
colon_next (Colons.two lexeme k g) = tt
colon_next (Colons.three lexeme k l) = tt

module _ {G : Under} where
  -- ── Parameters, binds ───────────────────────────────────────────────────────────────────────────

  take_param : (xs ys : Lexemes) (t : Trees) → ParameterRead G xs t ys → Not (kind_of ys) ASSIGN → (n p : ℕ) (us t₀ : Trees) → Alike t₀ us
      → Goes G (goto Phrase.params) us p xs (goto Phrase.params_end) (t₀ ⊕ t) ys
  unfolding rule view has
  take_param xs ys t (a_param n f) off i p us t₀ al = turns (skip (λ t h. n t) at_last) (subs (f p) (λ vs r al'. stay (alike_⊕ al al')))

  pub got_params : {xs ys : Lexemes} {ts : Trees} → RowOf (ParameterRead G) xs ts ys → T (eqb (kind_of ys) R_PAREN) → (p : ℕ) → Got G Phrase.params p xs ts ys
  unfolding rule view has ◌⊕◌
  got_params {ys = ys} r k p =
      from_goto (row_goes (λ (n : ℕ). Phrase.params_end) (λ (n : ℕ). Phrase.params) (ParameterRead G) take_param
      (λ xs ys j n p us t₀ al. turns (this (kind_is j) tt) (eats j (λ r. stay al)))
      (λ (n : ℕ). end) (λ n p us t₀ al. turns (skip (λ t h. other (kind_of ys) R_PAREN COMMA tt k t) at_last) (stay al))
      (λ n p us t₀ al. turns (this k tt) (stay al))
      (other (kind_of ys) R_PAREN ASSIGN tt k) r 0 p none none no_trees)

  take_bind : (xs ys : Lexemes) (t : Trees) → BindRead G xs t ys → Not (kind_of ys) ASSIGN → (n p : ℕ) (us t₀ : Trees) → Alike t₀ us
      → Goes G (goto Phrase.binds) us p xs (goto Phrase.binds_end) (t₀ ⊕ t) ys
  unfolding rule view has
  take_bind xs ys t (a_bind n f) off i p us t₀ al = turns (skip (λ t h. n t) at_last) (subs (f p) (λ vs r al'. stay (alike_⊕ al al')))

  pub binds_goes : {xs ys : Lexemes} {ts : Trees} → RowOf (BindRead G) xs ts ys → T (eqb (kind_of ys) SEMI) → (p : ℕ)
      → Goes G (goto Phrase.binds) none p xs (goto Phrase.local_body) ts ys
  unfolding rule view has ◌⊕◌
  binds_goes {ys = ys} r k p =
      row_goes (λ (n : ℕ). Phrase.binds_end) (λ (n : ℕ). Phrase.binds) (BindRead G) take_bind
      (λ xs ys j n p us t₀ al. turns (this (kind_is j) tt) (eats j (λ r. stay al)))
      (λ (n : ℕ). goto Phrase.local_body) (λ n p us t₀ al. turns (skip (λ t h. other (kind_of ys) SEMI COMMA tt k t) at_last) (stay al))
      (λ n p us t₀ al. turns (this k tt) (stay al))
      (other (kind_of ys) SEMI ASSIGN tt k) r 0 p none none no_trees

  pub parameter : {d : ℕ} {xs ys zs : Lexemes} {p t : Trees} → PatternRead G xs p ys → MaybeOf ASSIGN (ExprRead G 0) d ys t zs
      → ParameterRead G xs (tree PARAMETER (byte d ∷ []) (p ⊕ t)) zs
  unfolding rule view has ◌⊕◌
  parameter x (m_not n) =
      a_param (pattern_not x).0 (λ p. begins at_last (subs (got_pattern x p)
      (λ us r al. turns (skip (λ t h. n t) at_last) (closes (stay (alike_tree (same refl ⋆ nil) (alike_none al)))))))
  parameter x (m_so lexeme g) =
      a_param (pattern_not x).0 (λ p. begins at_last (subs (got_pattern x p)
      (λ us r al. turns (this tt tt) (eats lexeme (λ r. deeps (got_expr g r) (λ vs r al'. closes (stay (alike_tree (same refl ⋆ nil) (alike_⊕ al al')))))))))

  pub value_bind : {xs ys zs ws : Lexemes} {p t : Trees} → PatternRead G xs p ys → ys is ASSIGN then zs → ExprRead G 0 zs t ws
      → BindRead G xs (tree BIND (byte 0 ∷ number 0 ∷ []) (p ⊕ t)) ws
  unfolding rule view has ◌⊕◌
  value_bind (pat_name worded) lexeme e =
      a_bind (λ t. t) (λ p. begins (this tt tt) (leafs lexeme (λ r. turns (skip (λ t h. t) at_last)
      (eats lexeme (λ r. deeps (got_expr e r) (λ vs r al'. closes (stay
      (alike_tree (same refl ⋆ same refl ⋆ nil) (a_node (spans ⋆ same refl ⋆ nil) no_trees al')))))))))
  value_bind (pat_other n h f) k e =
      a_bind n.2 (λ p. begins (skip (λ t h. n.0 t) at_last) (subs (f p)
      (λ us r al. eats k (λ r. deeps (got_expr e r) (λ vs r al'. closes (stay (alike_tree (same refl ⋆ same refl ⋆ nil) (alike_⊕ al al'))))))))

  pub function_bind : {a b : ℕ} {v : Said} {xs ys zs ws us vs qs : Lexemes} {ps t : Trees} → xs is IDENT saying v then ys → ys is L_PAREN then zs
      → RowOf (ParameterRead G) zs ps ws → ws is R_PAREN then us → us is ASSIGN then vs
      → ExprRead G 0 vs t qs → BindRead G xs (tree BIND (byte 1 ∷ number (count ps) ∷ []) (node NAME_PATTERN (span a b ∷ text (said v) ∷ []) none (ps ⊕ t))) qs
  unfolding rule view has ◌⊕◌ count
  function_bind worded lexeme r j k e =
      a_bind (λ t. t) (λ p. begins (this tt tt) (leafs lexeme (λ p. turns (this tt tt)
      (eats lexeme (λ p. subs (got_params r (kind_is j) p) (λ us p al. eats j (λ p. turns at_last (eats k (λ p. deeps (got_expr e p)
      (λ vs p al'. closes (stay (alike_tree (same refl ⋆ same (ap number (alike_count al ∙ suc_less (count us))) ⋆ nil)
      (a_node (spans ⋆ same refl ⋆ nil) no_trees (alike_⊕ al al'))))))))))))))

  pub bound : {xs ys : Lexemes} {t : Trees} → BindRead G xs t ys → (p : ℕ) → Got G Phrase.bind p xs t ys
  bound (a_bind n f) p = f p

  -- ── Fields ──────────────────────────────────────────────────────────────────────────────────────

  field_tail : {v : ℕ} {x y z : Lexemes} {t : Trees} → Colons (greedily G.setting) v x y → ExprRead G 0 y t z
      → (i j c q m a e : ℕ) (us t₀ : Trees) (p : ℕ) → Alike t₀ us
      → Goes G (goto (Phrase.field_value i j c q m)) us p x end (tree FIELD (span a e ∷ byte c ∷ byte q ∷ byte m ∷ number (count t₀ - 1) ∷ byte v ∷ []) (t₀ ⊕ t)) z
  unfolding rule view has
  field_tail {y = y} (Colons.one lexeme g) e i j c q m a b us t₀ p al =
      turns (skip (λ t h. not_option COLON y g (and_left (eqb (kind_of y) COLON) (eqb (kind_of (rest y)) COLON) t)) (skip (λ t h. not_option COLON y g t) at_last))
      (eats lexeme (λ r. deeps (got_expr e r) (λ vs r al'. closes (stay
      (alike_tree (spans ⋆ same refl ⋆ same refl ⋆ same refl ⋆ same (ap number (fewer al)) ⋆ same refl ⋆ nil) (alike_⊕ al al'))))))
  field_tail {y = y} (Colons.two lexeme lexeme g) e i j c q m a b us t₀ p al =
      turns (skip (λ t h. not_option COLON y g t) (this tt tt))
      (eats lexeme (λ r. eats lexeme (λ r. deeps (got_expr e r) (λ vs r al'. closes
      (stay (alike_tree (spans ⋆ same refl ⋆ same refl ⋆ same refl ⋆ same (ap number (fewer al)) ⋆ same refl ⋆ nil) (alike_⊕ al al')))))))
  field_tail (Colons.three lexeme lexeme lexeme) e i j c q m a b us t₀ p al =
      turns (this tt tt)
      (eats lexeme (λ r. eats lexeme (λ r. eats lexeme (λ r. deeps (got_expr e r)
      (λ vs r al'. closes (stay (alike_tree (spans ⋆ same refl ⋆ same refl ⋆ same refl ⋆ same (ap number (fewer al)) ⋆ same refl ⋆ nil) (alike_⊕ al al'))))))))

  pub a_field : {a e c q v : ℕ} {xs ys zs ws us : Lexemes} {n t : Trees} → NameRead G c xs n ys → Perhaps (greedily G.setting) PLUS q ys zs
      → Colons (greedily G.setting) v zs ws → ExprRead G 0 ws t us
      → FieldRead G xs (tree FIELD (span a e ∷ byte c ∷ byte q ∷ byte 0 ∷ number 0 ∷ byte v ∷ []) (n ⊕ t)) us
  unfolding rule view has
  a_field {a} {e} {c} {q} {v} {zs = zs} {us = x₉} {n = n} {t = t} (a_name_read w o f) k d x = a_field_read w (λ p. by k (f p))
    where
      none_left : count n - 1 ≡ 0
      none_left = omega arith

      by : {q p : ℕ} {xs ys : Lexemes} → Perhaps (greedily G.setting) PLUS q ys zs → NameComes G c p xs n ys
          → Got G Phrase.field p xs (tree FIELD (span a e ∷ byte c ∷ byte q ∷ byte 0 ∷ number 0 ∷ byte v ∷ []) (n ⊕ t)) x₉
      by (Perhaps.no g) (comes i h) =
          finish (next h (λ us r al. respell (ap (λ (m : ℕ). tree FIELD (span a e ∷ byte c ∷ byte 0 ∷ byte 0 ∷ number m ∷ byte v ∷ []) (n ⊕ t)) none_left)
          (turns (skip (λ t h. other (kind_of zs) COLON L_PAREN tt (colon_next d) t)
          (skip (λ t h. other (kind_of zs) COLON PLUS tt (colon_next d) t) at_last)) (field_tail d x _ _ c 0 0 a e us n r al))))
      by (Perhaps.yes lexeme) (comes i h) =
          finish (next h (λ us r al. respell (ap (λ (m : ℕ). tree FIELD (span a e ∷ byte c ∷ byte 1 ∷ byte 0 ∷ number m ∷ byte v ∷ []) (n ⊕ t)) none_left)
          (turns (skip (λ t h. t) (this tt tt)) (eats lexeme (λ r. field_tail d x _ _ c 1 0 a e us n r al)))))

  pub a_method : {a e c v : ℕ} {xs ys zs ws us vs qs : Lexemes} {n ps t : Trees} → NameRead G c xs n ys → ys is L_PAREN then zs
      → RowOf (ParameterRead G) zs ps ws → ws is R_PAREN then us → Colons (greedily G.setting) v us vs
      → ExprRead G 0 vs t qs → FieldRead G xs (tree FIELD (span a e ∷ byte c ∷ byte 0 ∷ byte 1 ∷ number (count ps) ∷ byte v ∷ []) (n ⊕ ps ⊕ t)) qs
  unfolding rule view has
  a_method {a} {e} {c} {v} {zs = zs} {qs = qs} {n = n} {ps} {t} (a_name_read w o f) k r lexeme d x = a_field_read w (λ p. by k (f p))
    where
      all_params : count (n ⊕ ps) - 1 ≡ count ps
      all_params = omega (arith, count-row n ps)

      by : {p : ℕ} {xs ys : Lexemes} → ys is L_PAREN then zs → NameComes G c p xs n ys
          → Got G Phrase.field p xs (tree FIELD (span a e ∷ byte c ∷ byte 0 ∷ byte 1 ∷ number (count ps) ∷ byte v ∷ []) (n ⊕ ps ⊕ t)) qs
      by lexeme (comes i h) =
          finish (next h (λ us j al. respell (ap (λ (m : ℕ). tree FIELD (span a e ∷ byte c ∷ byte 0 ∷ byte 1 ∷ number m ∷ byte v ∷ []) (n ⊕ ps ⊕ t)) all_params)
          (turns (this tt tt) (eats lexeme (λ j. subs (got_params r tt j)
          (λ vs j al'. eats lexeme (λ j. field_tail d x _ _ c 0 1 a e (us ⊕ vs) (n ⊕ ps) j (alike_⊕ al al'))))))))

  -- Names of fields
  pub word_name : {v : Said} {xs ys : Lexemes} → xs is IDENT saying v then ys → NameRead G 0 xs (tree STRING (text (said v) ∷ []) none) ys
  unfolding rule view has ◌⊕◌ count
  word_name worded =
      a_name_read ((λ t. t), (λ t. t), (λ t. t), (λ t. t)) refl (λ p. comes _
      (by_row Phrase.field 0 (this tt tt) (leafs lexeme (λ r. stay (alike_tree (same refl ⋆ nil) no_trees)))))

  pub literal_name : {xs ys : Lexemes} {t : Trees} → StringRead xs t ys → NameRead G 0 xs t ys
  unfolding rule view has ◌⊕◌ count good said
  literal_name (a_string_read Quoted.double worded) =
      a_name_read ((λ t. t), (λ t. t), (λ t. t), (λ t. t)) refl (λ p. comes _
      (by_row Phrase.field 0 (skip (λ t h. t) (this tt tt)) (subs (begins (this tt tt)
      (leafs lexeme (λ r. stay (alike_tree (same refl ⋆ nil) no_trees)))) (λ us r al. stay al))))
  literal_name (a_string_read Quoted.single worded) =
      a_name_read ((λ t. t), (λ t. t), (λ t. t), (λ t. t)) refl (λ p. comes _
      (by_row Phrase.field 0 (skip (λ t h. t) (this tt tt)) (subs (begins (this tt tt)
      (leafs lexeme (λ r. stay (alike_tree (same refl ⋆ nil) no_trees)))) (λ us r al. stay al))))
  literal_name (a_string_read Quoted.double_verbatim worded) =
      a_name_read ((λ t. t), (λ t. t), (λ t. t), (λ t. t)) refl (λ p. comes _
      (by_row Phrase.field 0 (skip (λ t h. t) (this tt tt)) (subs (begins (this tt tt)
      (leafs lexeme (λ r. stay (alike_tree (same refl ⋆ nil) no_trees)))) (λ us r al. stay al))))
  literal_name (a_string_read Quoted.single_verbatim worded) =
      a_name_read ((λ t. t), (λ t. t), (λ t. t), (λ t. t)) refl (λ p. comes _
      (by_row Phrase.field 0 (skip (λ t h. t) (this tt tt)) (subs (begins (this tt tt)
      (leafs lexeme (λ r. stay (alike_tree (same refl ⋆ nil) no_trees)))) (λ us r al. stay al))))
  literal_name (a_string_read Quoted.block worded) =
      a_name_read ((λ t. t), (λ t. t), (λ t. t), (λ t. t)) refl (λ p. comes _
      (by_row Phrase.field 0 (skip (λ t h. t) (this tt tt)) (subs (begins (this tt tt)
      (leafs lexeme (λ r. stay (alike_tree (same refl ⋆ nil) no_trees)))) (λ us r al. stay al))))

  pub computed_name : {xs ys zs ws : Lexemes} {t : Trees} → xs is L_BRACK then ys → ExprRead G 0 ys t zs → zs is R_BRACK then ws → NameRead G 1 xs t ws
  unfolding rule view has ◌⊕◌
  computed_name lexeme e j =
      a_name_read ((λ t. t), (λ t. t), (λ t. t), (λ t. t)) (one_expr e)
      (λ p. comes _ (by_row Phrase.field 0 (skip (λ t h. t) (skip (λ t h. t) (this tt tt)))
      (eats lexeme (λ r. deeps (got_expr e r) (λ us r al. eats j (λ r. stay al))))))

  pub assertion : {a b d : ℕ} {xs ys zs ws : Lexemes} {t u : Trees} → xs is ASSERT_KW then ys → ExprRead G 0 ys t zs
      → MaybeOf COLON (ExprRead G 0) d zs u ws → AssertionRead G xs (tree ASSERT (span a b ∷ byte d ∷ []) (t ⊕ u)) ws
  unfolding rule view has ◌⊕◌
  assertion lexeme e (m_not n) =
      an_assertion lexeme (λ p. begins at_last (eats lexeme (λ r. turns at_last
      (deeps (got_expr e r) (λ us r al. turns (skip (λ t h. n t) at_last) (closes (stay (alike_tree (spans ⋆ same refl ⋆ nil) (alike_none al)))))))))
  assertion lexeme e (m_so lexeme g) =
      an_assertion lexeme (λ p. begins at_last (eats lexeme (λ r. turns at_last
      (deeps (got_expr e r) (λ us r al. turns (this tt tt) (eats lexeme
      (λ r. deeps (got_expr g r) (λ vs r al'. closes (stay (alike_tree (spans ⋆ same refl ⋆ nil) (alike_⊕ al al')))))))))))
