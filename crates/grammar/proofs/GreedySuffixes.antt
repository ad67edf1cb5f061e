-- Operations, suffixes and index parts that are spelled greedily are read.
-- Assumes nothing.
use mathlib.Core.Path.{◌≡◌, refl, subst}
use mathlib.Core.List.{[], ◌∷◌}
use Prim.Native.Nat.{ℕ, suc, ◌+◌, ◌≤◌}
use native.Mathlib.Omega.{arith}
use lib.Dec.{T, eqb}
use Rattle.lexemes.specs.Kinds.{L_BRACK, R_BRACK, DOT, ASSIGN, QUESTION_MARK, IDENT}
use Rattle.grammar.specs.Tags.{STRING, EXTENSION, PREFIX, INFIX, INDEX_PART}
use Rattle.grammar.specs.Trees.{byte, span, text, Trees, none, tree, ◌⊕◌, count}
use Rattle.grammar.specs.Lexemes.{Said, said, kind_of}
use Rattle.grammar.specs.Productions.{Phrase, goto, exp_null_coaelse, rule, signs, sign_rows}
use Rattle.grammar.specs.Reading.{has, choose, view, production}
use Rattle.grammar.specs.Spells.{Lexemes, ◌is◌saying◌then◌, worded, ◌is◌then◌, lexeme, Unary, Binary, Open, greedily}
use Rattle.grammar.proofs.Alike.{same, spans, nil, ◌⋆◌, Alike, no_trees, alike_tree, alike_⊕}
use Rattle.grammar.proofs.OperatorForms.{operators_sound, found, not_assign}
use Rattle.grammar.proofs.GreedySteps.{Under, under, Goes, deeply, deeps, stay, next, eats, leafs, closes, subs, finish, at_last, this, skip, by_row, turns}
use Rattle.grammar.proofs.LexemeForms.{Not}
use Rattle.grammar.proofs.GreedyPicks.{tail_ends, tail_takes, suffix_ends}
use Rattle.grammar.proofs.GreedyClaims.{ExprRead, an_expr, OperationRead, an_operation, SuffixedRead, a_suffixed, ChainRead, a_chain}
use Rattle.grammar.proofs.GreedyClaims.{BasicRead, a_basic, ObjectRead, in_braces, got_expr, opens}

-- ── Operations ────────────────────────────────────────────────────────────────────────────────────

pub whole_expr : {prefix s d m : ℕ} {xs ys : Lexemes} {t : Trees} → OperationRead (under prefix s d) m xs t ys → greedily s (Open.operations m) (kind_of ys)
    → ExprRead (under prefix s (suc d)) m xs t ys
whole_expr {prefix} {m = m} {ys = ys} (an_operation o n c f) g =
    an_expr o n c (λ p. deeply (finish (next (f m p (omega arith)) (λ us r a. turns (tail_ends prefix m r (count us) ys g) (stay a)))))

module _ {G : Under} where
  pub as_operation : {m : ℕ} {xs ys : Lexemes} {t : Trees} → SuffixedRead G xs t ys → OperationRead G m xs t ys
  unfolding rule signs sign_rows view ◌⊕◌
  as_operation (a_suffixed o u n c f) =
      an_operation o n c (λ j p le. by_row (Phrase.expr j) 0 (skip (λ t h. u.0 t)
      (skip (λ t h. u.1 t) (skip (λ t h. u.2 t) (skip (λ t h. u.3 t) at_last)))) (subs (f p) (λ us r a. stay a)))

  pub infix_operation : {m k l o i j : ℕ} {xs ys zs ws : Lexemes} {t u : Trees} → Binary G.setting k l o → m ≤ l → OperationRead G l xs t ys
      → ys is k then zs → ExprRead G (l + 1) zs u ws
      → OperationRead G m xs (tree INFIX (byte o ∷ span i j ∷ []) (t ⊕ u)) ws
  unfolding count
  infix_operation {m} {k} {l} {ys = ys} {zs = zs} b le (an_operation o n c f) j e =
      an_operation o (λ t v. absurd (not_assign G.setting (operators_sound G.setting) (found G.setting b)
      (subst (λ (i : ℕ). T (eqb i ASSIGN)) (its j) (n t v)))) refl
      (λ i p le'. next (f i p (omega (arith, le, le'))) (λ us r a. turns (tail_takes G.prefix i r (count us) ys zs j b (omega (arith, le, le')))
      (eats j (λ r. deeps (got_expr e r) (λ vs r a'. closes (stay (alike_tree (same refl ⋆ spans ⋆ nil) (alike_⊕ a a'))))))))
    where
      its : {k : ℕ} {ys zs : Lexemes} → ys is k then zs → kind_of ys ≡ k
      its lexeme = refl

  pub a_sign : {m k o : ℕ} {xs ys zs : Lexemes} {t : Trees} → Unary k o → xs is k then ys → ExprRead G G.prefix ys t zs
      → OperationRead G m xs (tree PREFIX (byte o ∷ []) t) zs
  unfolding production choose rule signs sign_rows view has count ◌⊕◌
  a_sign Unary.plus lexeme e =
      an_operation ((λ t. t), (λ t. t), (λ t. t), (λ t. t)) (λ t u. absurd t) refl
      (λ j p le. eats lexeme (λ r. deeps (got_expr e r) (λ us r al. closes (stay (alike_tree (same refl ⋆ nil) al)))))
  a_sign Unary.minus lexeme e =
      an_operation ((λ t. t), (λ t. t), (λ t. t), (λ t. t)) (λ t u. absurd t) refl
      (λ j p le. eats lexeme (λ r. deeps (got_expr e r) (λ us r al. closes (stay (alike_tree (same refl ⋆ nil) al)))))
  a_sign Unary.bit_not lexeme e =
      an_operation ((λ t. t), (λ t. t), (λ t. t), (λ t. t)) (λ t u. absurd t) refl
      (λ j p le. eats lexeme (λ r. deeps (got_expr e r) (λ us r al. closes (stay (alike_tree (same refl ⋆ nil) al)))))
  a_sign Unary.not lexeme e =
      an_operation ((λ t. t), (λ t. t), (λ t. t), (λ t. t)) (λ t u. absurd t) refl
      (λ j p le. eats lexeme (λ r. deeps (got_expr e r) (λ us r al. closes (stay (alike_tree (same refl ⋆ nil) al)))))

  -- ── Suffixes ────────────────────────────────────────────────────────────────────────────────────

  pub whole_suffixed : {f : ℕ} {xs ys : Lexemes} {t : Trees} → ChainRead G f xs t ys → greedily G.setting Open.suffixes (kind_of ys) → SuffixedRead G xs t ys
  whole_suffixed {f} {ys = ys} (a_chain o u n c g) h =
      a_suffixed o u n c (λ p. finish (next (g p) (λ us r a. turns (suffix_ends G.prefix f r (count us) ys h) (stay a))))

  pub bare_chain : {xs ys : Lexemes} {t : Trees} → BasicRead G xs t ys → ChainRead G 1 xs t ys
  unfolding rule view ◌⊕◌
  bare_chain (a_basic o u n c f) = a_chain o u n c (λ p. by_row Phrase.suffixed 0 at_last (subs (f p) (λ us r a. stay a)))

  pub grow : {f g : ℕ} {xs ys zs : Lexemes} {t u : Trees} → ChainRead G f xs t ys → Not (kind_of ys) ASSIGN → count u ≡ 1
      → ((us : Trees) (r : ℕ) → Alike t us → Goes G (goto (Phrase.suffix f)) us r ys (goto (Phrase.suffix g)) u zs) → ChainRead G g xs u zs
  grow (a_chain o u n c f) off one h = a_chain o u (λ t v. absurd (off (n t v))) one (λ p. next (f p) h)

  pub a_member : {f a e : ℕ} {v : Said} {xs ys zs ws : Lexemes} {t : Trees} → ChainRead G f xs t ys → ys is DOT then zs → zs is IDENT saying v then ws
      → ChainRead G 0 xs (tree INDEX_PART (span a e ∷ byte f ∷ byte 0 ∷ []) (t ⊕ tree STRING (text (said v) ∷ []) none)) ws
  unfolding rule view has count
  a_member c lexeme worded =
      grow c (λ t. t) refl (λ us r al. turns (skip (λ t h. t) (this tt tt))
      (eats lexeme (λ r. turns (this tt tt) (leafs lexeme (λ r. closes
      (stay (alike_tree (spans ⋆ same refl ⋆ same refl ⋆ nil) (alike_⊕ al (alike_tree (same refl ⋆ nil) no_trees)))))))))

  pub a_safe_member : {f a e : ℕ} {v : Said} {xs ys zs ws us : Lexemes} {t : Trees} → T (has G.setting exp_null_coaelse) → ChainRead G f xs t ys
      → ys is QUESTION_MARK then zs → zs is DOT then ws → ws is IDENT saying v then us
      → ChainRead G 0 xs (tree INDEX_PART (span a e ∷ byte f ∷ byte 1 ∷ []) (t ⊕ tree STRING (text (said v) ∷ []) none)) us
  unfolding rule view has count
  a_safe_member h c lexeme k worded =
      grow c (λ t. t) refl (λ us r al. turns (this tt h) (eats lexeme (λ r. eats k
      (λ r. turns (skip (λ t h. t) at_last) (turns (this tt tt) (leafs lexeme
      (λ r. closes (stay (alike_tree (spans ⋆ same refl ⋆ same refl ⋆ nil) (alike_⊕ al (alike_tree (same refl ⋆ nil) no_trees)))))))))))

  pub an_index : {f a e : ℕ} {xs ys zs ws us : Lexemes} {t i : Trees} → ChainRead G f xs t ys → ys is L_BRACK then zs → ExprRead G 0 zs i ws → ws is R_BRACK then us
      → ChainRead G 0 xs (tree INDEX_PART (span a e ∷ byte f ∷ byte 0 ∷ []) (t ⊕ i)) us
  unfolding rule view has count
  an_index c lexeme e lexeme =
      grow c (λ t. t) refl (λ us r al. turns (skip (λ t h. t) (skip (λ t h. t) (this tt tt)))
      (eats lexeme (λ r. turns (skip (λ t h. (opens e).1 t) at_last) (deeps (got_expr e r)
      (λ vs r al'. turns (skip (λ t h. t) at_last) (eats lexeme (λ r. closes (stay (alike_tree (spans ⋆ same refl ⋆ same refl ⋆ nil) (alike_⊕ al al'))))))))))

  pub a_safe_index : {f a e : ℕ} {xs ys zs ws us vs qs : Lexemes} {t i : Trees} → T (has G.setting exp_null_coaelse) → ChainRead G f xs t ys
      → ys is QUESTION_MARK then zs → zs is DOT then ws → ws is L_BRACK then us
      → ExprRead G 0 us i vs → vs is R_BRACK then qs → ChainRead G 0 xs (tree INDEX_PART (span a e ∷ byte f ∷ byte 1 ∷ []) (t ⊕ i)) qs
  unfolding rule view has count
  a_safe_index h c lexeme k lexeme e j =
      grow c (λ t. t) refl (λ us r al. turns (this tt h) (eats lexeme (λ r. eats k
      (λ r. turns (this tt tt) (eats lexeme (λ r. turns at_last (deeps (got_expr e r)
      (λ vs r al'. turns at_last (eats j (λ r. closes (stay (alike_tree (spans ⋆ same refl ⋆ same refl ⋆ nil) (alike_⊕ al al')))))))))))))

  pub an_extension : {f : ℕ} {xs ys zs : Lexemes} {t o : Trees} → ChainRead G f xs t ys → ObjectRead G ys o zs → ChainRead G 1 xs (tree EXTENSION [] (t ⊕ o)) zs
  unfolding rule view has count
  an_extension c (in_braces lexeme o f j) =
      grow c (λ t. t) refl (λ us r al. turns (skip (λ t h. t) (skip (λ t h. t) (skip (λ t h. t) (skip (λ t h. t) (this tt tt)))))
      (eats lexeme (λ r. subs (f r) (λ vs r al'. eats j (λ r. closes (stay (alike_tree nil (alike_⊕ al al'))))))))
