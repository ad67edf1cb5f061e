-- Clauses and objects that are spelled greedily are read.
-- Assumes nothing.
use mathlib.Core.Path.{◌≡◌, refl, sym, ap, subst}
use mathlib.Core.List.{List, [], ◌∷◌}
use Prim.Native.Nat.{ℕ, suc, ◌-◌}
use native.Mathlib.Omega.{arith}
use lib.Dec.{T, eqb}
use Rattle.lexemes.specs.Kinds.{L_BRACK, R_BRACK, R_BRACE, COLON, COMMA, IDENT}
use Rattle.lexemes.specs.Kinds.{IF_KW, IN_KW, FOR_KW}
use Rattle.grammar.specs.Tags.{MEMBERS, OBJECT_COMP, FOR, IF_CLAUSE, OBJECT_ITERATION}
use Rattle.grammar.specs.Trees.{byte, number, span, text, Trees, none, tree, ◌⊕◌, count}
use Rattle.grammar.specs.Lexemes.{Said, said, rest, kind_of}
use Rattle.grammar.specs.Productions.{Phrase, Body, goto, ◌▸◌, sub, exp_object_iteration, rule, with_field, with_member}
use Rattle.grammar.specs.Reading.{has, view}
use Rattle.grammar.specs.Spells.{Lexemes, ◌is◌saying◌then◌, worded, ◌is◌then◌, lexeme, Colons, greedily}
use Rattle.grammar.proofs.Chosen.{and_left}
use Rattle.grammar.proofs.ImageLaws.{count-row}
use Rattle.grammar.proofs.Alike.{⊕_assoc, same, spans, nil, ◌⋆◌, Alike, no_trees, alike_tree, alike_⊕, alike_none, alike_count, alike_number}
use Rattle.grammar.proofs.GreedySteps.{Under, under, Got, Goes, deeply, deeps, stay, next, eats, closes, subs, finish, from_goto, respell}
use Rattle.grammar.proofs.GreedySteps.{at_last, this, skip, by_row, turns, begins}
use Rattle.grammar.proofs.LexemeForms.{Not, other, field_fault}
use Rattle.grammar.proofs.GreedyPicks.{not_option}
use Rattle.grammar.proofs.GreedyClaims.{ExprRead, EachOf, e_none, e_more, RowOf, r_shut, r_last, MoreOf, m_none, m_row, ClausesRead}
use Rattle.grammar.proofs.GreedyClaims.{some_clauses, PatternRead, FieldRead, a_field_read, an_assertion, LocalRead, a_local_read, MemberRead}
use Rattle.grammar.proofs.GreedyClaims.{mem_local, mem_assert, mem_field, got_expr}
use Rattle.grammar.proofs.GreedyPatterns.{got_pattern, pattern_heads}
use Rattle.grammar.proofs.GreedyMembers.{colon_next}

pub less : {t us : Trees} {cs vs : Trees} → count t ≡ 1 → Alike t us → Alike cs vs → count cs ≡ count (us ⊕ vs) - 1
less {t} {us} {cs} {vs} e a b = omega (arith, count-row us vs, alike_count a, alike_count b)

clause_count : (cs ws ks : Trees) → Alike cs ks → count cs ≡ count (ws ⊕ ks) - count ws
clause_count cs ws ks a = omega (arith, alike_count a, count-row ws ks)

-- One member more after those with fault c, where xs are left.
abbrev taking : ℕ → Lexemes → Body
taking c xs = sub Phrase.member ▸ goto (Phrase.members (with_member c (kind_of xs)))

module _ {G : Under} where
  -- ── Clauses ─────────────────────────────────────────────────────────────────────────────────────

  pub got_clauses : {xs ys : Lexemes} {t : Trees} → ClausesRead G xs t ys → Not (kind_of ys) FOR_KW → Not (kind_of ys) IF_KW → (p : ℕ)
      → Got G Phrase.clauses p xs t ys
  unfolding rule view has
  got_clauses (some_clauses h f) n m p = finish (next (f p) (λ us r al. turns (skip (λ t h. n t) (skip (λ t h. m t) at_last)) (stay al)))

  -- `for`
  pub each_of : {xs ys zs ws : Lexemes} {p t : Trees} → PatternRead G xs p ys → ys is IN_KW then zs → ExprRead G 0 zs t ws → (j : ℕ)
      → Got G Phrase.for_clause j xs (tree FOR [] (p ⊕ t)) ws
  unfolding rule view has ◌⊕◌
  each_of x lexeme e j =
      begins (skip (λ t h. pattern_heads x t) at_last) (subs (got_pattern x j)
      (λ us r al. eats lexeme (λ r. deeps (got_expr e r) (λ vs r al'. closes (stay (alike_tree nil (alike_⊕ al al')))))))

  colons_go : {v : ℕ} {w : List ℕ} {x y : Lexemes} → Colons (greedily G.setting) v x y → (us t₀ : Trees) (p : ℕ) → Alike t₀ us
      → Goes G (goto (Phrase.iteration w)) us p x (goto (Phrase.iteration_value v w)) t₀ y
  unfolding rule view has
  colons_go {y = y} (Colons.one lexeme g) us t₀ p al =
      turns (skip (λ t h. not_option COLON y g (and_left (eqb (kind_of y) COLON) (eqb (kind_of (rest y)) COLON) t))
      (skip (λ t h. not_option COLON y g t) at_last)) (eats lexeme (λ r. stay al))
  colons_go {y = y} (Colons.two lexeme lexeme g) us t₀ p al =
      turns (skip (λ t h. not_option COLON y g t) (this tt tt)) (eats lexeme (λ r. eats lexeme (λ r. stay al)))
  colons_go (Colons.three lexeme lexeme lexeme) us t₀ p al = turns (this tt tt) (eats lexeme (λ r. eats lexeme (λ r. eats lexeme (λ r. stay al))))

  pub first_clause : {xs ys zs : Lexemes} {t : Trees} → xs is FOR_KW then ys → ((p : ℕ) → Got G Phrase.for_clause p ys t zs) → ClausesRead G xs t zs
  unfolding rule view has ◌⊕◌
  first_clause lexeme f = some_clauses tt (λ p. by_row Phrase.clauses 0 at_last (eats lexeme (λ r. subs (f r) (λ us r al. stay al))))

  pub more_for : {xs ys zs ws : Lexemes} {ts t : Trees} → ClausesRead G xs ts ys → ys is FOR_KW then zs
      → ((p : ℕ) → Got G Phrase.for_clause p zs t ws) → ClausesRead G xs (ts ⊕ t) ws
  unfolding rule view has
  more_for (some_clauses h g) lexeme f =
      some_clauses h (λ p. next (g p) (λ us r al. turns (this tt tt) (eats lexeme (λ r. subs (f r) (λ vs r al'. stay (alike_⊕ al al'))))))

  pub more_if : {xs ys zs ws : Lexemes} {ts t : Trees} (a b : ℕ) → ClausesRead G xs ts ys → ys is IF_KW then zs → ExprRead G 0 zs t ws
      → ClausesRead G xs (ts ⊕ tree IF_CLAUSE (span a b ∷ []) t) ws
  unfolding rule view has ◌⊕◌
  more_if a b (some_clauses h g) lexeme e =
      some_clauses h (λ p. next (g p) (λ us r al. turns (skip (λ t h. t) (this tt tt))
      (eats lexeme (λ r. subs (begins at_last (deeps (got_expr e r) (λ us r al. closes (stay (alike_tree (spans ⋆ nil) al)))))
      (λ vs r al'. stay (alike_⊕ al al'))))))

  -- ── Objects ─────────────────────────────────────────────────────────────────────────────────────

  member_start : {xs ys : Lexemes} {t : Trees} → MemberRead G xs t ys → Not (kind_of xs) R_BRACE × Not (kind_of xs) FOR_KW
  member_start (mem_local (a_local_read lexeme f)) = ((λ t. t), (λ t. t))
  member_start (mem_assert (an_assertion lexeme f)) = ((λ t. t), (λ t. t))
  member_start (mem_field (a_field_read n f)) = (n.2, n.3)

  got_member : {xs ys : Lexemes} {t : Trees} → MemberRead G xs t ys → (p : ℕ) → Got G Phrase.member p xs t ys
  unfolding rule view has ◌⊕◌
  got_member (mem_local (a_local_read lexeme f)) p = begins (this tt tt) (eats lexeme (λ r. subs (f r) (λ vs r al. stay al)))
  got_member (mem_assert (an_assertion lexeme f)) p = begins (skip (λ t h. t) (this tt tt)) (subs (f p) (λ vs r al. stay al))
  got_member (mem_field (a_field_read n f)) p = begins (skip (λ t h. n.0 t) (skip (λ t h. n.1 t) at_last)) (subs (f p) (λ vs r al. stay al))

  take_member : {xs ys : Lexemes} {t : Trees} → MemberRead G xs t ys → (c p : ℕ) (us t₀ : Trees) → Alike t₀ us
      → Goes G (taking c xs) us p xs (goto (Phrase.members (with_member c (kind_of xs)))) (t₀ ⊕ t) ys
  take_member x c p us t₀ al = subs (got_member x p) (λ vs r al'. stay (alike_⊕ al al'))

  all_after : {xs ys : Lexemes} {ts : Trees} → EachOf (MemberRead G) xs ts ys → ℕ
  all_after e_none = 4
  all_after (e_more {ys = ys} e x k) = with_member (all_after e) (kind_of ys)

  inside_item : {y z w : Lexemes} {ts t : Trees} (e : EachOf (MemberRead G) y ts z) (x : MemberRead G z t w) (p : ℕ)
      → Goes G (goto Phrase.inside) none p y (goto (Phrase.members (with_member (all_after e) (kind_of z)))) (ts ⊕ t) w
  unfolding rule view has all_after ◌⊕◌
  inside_item e_none x p = turns (skip (λ t h. (member_start x).0 t) at_last) (take_member x 4 p none none no_trees)
  inside_item (e_more {ys = ys} {ts = ts} {t = t} d x' lexeme) x p =
      next (inside_item d x' p) (λ us r al. turns (this tt tt) (eats lexeme
      (λ r. turns (skip (λ t h. (member_start x).0 t) (skip (λ t h. (member_start x).1 t) at_last)) (take_member x (with_member (all_after d) (kind_of ys)) r us (ts ⊕ t) al))))

  pub object_goes : {y z w : Lexemes} {ts : Trees} → RowOf (MemberRead G) y ts z → z is R_BRACE then w → (p : ℕ)
      → Got G Phrase.inside p y (tree MEMBERS (number (count ts) ∷ []) ts) z
  unfolding rule view has count
  object_goes (r_shut e_none) lexeme p = from_goto (turns (this tt tt) (closes (stay (alike_tree (same refl ⋆ nil) no_trees))))
  object_goes (r_shut (e_more d x lexeme)) lexeme p =
      from_goto (next (inside_item d x p) (λ us r al. turns (this tt tt)
      (eats lexeme (λ r. turns (this tt tt) (closes (stay (alike_tree (alike_number al ⋆ nil) al)))))))
  object_goes (r_last d x) lexeme p =
      from_goto (next (inside_item d x p) (λ us r al. turns (skip (λ t h. t) (skip (λ t h. t) at_last)) (closes (stay (alike_tree (alike_number al ⋆ nil) al)))))

  -- Object comprehensions: locals, a field, locals, clauses
  local_item : {z w : Lexemes} {t : Trees} → LocalRead G z t w → (c p : ℕ) (us t₀ : Trees) → Alike t₀ us
      → Goes G (taking c z) us p z (goto (Phrase.members c)) (t₀ ⊕ t) w
  unfolding with_member
  local_item (a_local_read lexeme f) c p us t₀ al = take_member (mem_local (a_local_read lexeme f)) c p us t₀ al

  local_start : {z w : Lexemes} {t : Trees} → LocalRead G z t w → Not (kind_of z) R_BRACE × Not (kind_of z) FOR_KW
  local_start (a_local_read lexeme f) = ((λ t. t), (λ t. t))

  locals_start : {y z w : Lexemes} {ts t : Trees} → EachOf (LocalRead G) y ts z → LocalRead G z t w → Not (kind_of y) R_BRACE × Not (kind_of y) FOR_KW
  locals_start e_none x = local_start x
  locals_start (e_more e x' k) x = locals_start e x'

  locals_goes : {y z : Lexemes} {ls : Trees} → EachOf (LocalRead G) y ls z → Not (kind_of z) R_BRACE → Not (kind_of z) FOR_KW
      → (c p : ℕ) (us t₀ : Trees) → Alike t₀ us
      → Goes G (taking c y) us p y (taking c z) (t₀ ⊕ ls) z
  unfolding rule view has
  locals_goes e_none n m c p us t₀ al = stay (alike_none al)
  locals_goes (e_more {ts = ts} {t = t} d x lexeme) n m c p us t₀ al =
      respell (⊕_assoc t₀ ts t) (next (locals_goes d (local_start x).0 (local_start x).1 c p us t₀ al) (λ us r al. next (local_item x c r us (t₀ ⊕ ts) al)
      (λ us r al. turns (this tt tt) (eats lexeme (λ r. turns (skip (λ t h. n t) (skip (λ t h. m t) at_last)) (stay al))))))

  row_locals : {y z : Lexemes} {ms : Trees} → RowOf (LocalRead G) y ms z → T (eqb (kind_of z) FOR_KW) → (p : ℕ) (us t₀ : Trees) → Alike t₀ us
      → Goes G (goto (Phrase.next_member 0)) us p y (goto (Phrase.comprehension 0)) (t₀ ⊕ ms) z
  unfolding rule view has
  row_locals {z = z} (r_shut e_none) k p us t₀ al = turns (skip (λ t h. other (kind_of z) FOR_KW R_BRACE tt k t) (this k tt)) (stay (alike_none al))
  row_locals {z = z} (r_shut (e_more {ts = ts} {t = t} d x lexeme)) k p us t₀ al =
      turns (skip (λ t h. (locals_start d x).0 t) (skip (λ t h. (locals_start d x).1 t) at_last))
      (respell (⊕_assoc t₀ ts t) (next (locals_goes d (local_start x).0 (local_start x).1 0 p us t₀ al) (λ us r al. next (local_item x 0 r us (t₀ ⊕ ts) al)
      (λ us r al. turns (this tt tt) (eats lexeme (λ r. turns (skip (λ t h. other (kind_of z) FOR_KW R_BRACE tt k t) (this k tt)) (stay al)))))))
  row_locals {z = z} (r_last {ts = ts} {t = t} d x) k p us t₀ al =
      turns (skip (λ t h. (locals_start d x).0 t) (skip (λ t h. (locals_start d x).1 t) at_last))
      (respell (⊕_assoc t₀ ts t) (next (locals_goes d (local_start x).0 (local_start x).1 0 p us t₀ al) (λ us r al. next (local_item x 0 r us (t₀ ⊕ ts) al)
      (λ us r al. turns (skip (λ t h. other (kind_of z) FOR_KW COMMA tt k t) (this k tt)) (stay al)))))

  more_locals : {y z : Lexemes} {ms : Trees} → MoreOf (LocalRead G) y ms z → T (eqb (kind_of z) FOR_KW) → (p : ℕ) (us t₀ : Trees) → Alike t₀ us
      → Goes G (goto (Phrase.members 0)) us p y (goto (Phrase.comprehension 0)) (t₀ ⊕ ms) z
  unfolding rule view has
  more_locals {z = z} m_none k p us t₀ al = turns (skip (λ t h. other (kind_of z) FOR_KW COMMA tt k t) (this k tt)) (stay (alike_none al))
  more_locals (m_row lexeme q) k p us t₀ al = turns (this tt tt) (eats lexeme (λ r. row_locals q k r us t₀ al))

  object-start : {y z w : Lexemes} {ts t : Trees} → EachOf (LocalRead G) y ts z → FieldRead G z t w → Not (kind_of y) R_BRACE
  object-start e_none (a_field_read n f) = n.2
  object-start (e_more e x k) f = (locals_start e x).0

  refault : {a b : ℕ} {c : Body} {us t : Trees} {p : ℕ} {xs ys : Lexemes} → a ≡ b → Goes G (goto (Phrase.members b)) us p xs c t ys → Goes G (goto (Phrase.members a)) us p xs c t ys
  refault {c = c} {us} {t} {p} {xs} {ys} e g = subst (λ (n : ℕ). Goes G (goto (Phrase.members n)) us p xs c t ys) (sym e) g

  pub object_comprehension_goes : {x₁ x₂ x₃ x₄ x₅ x₆ : Lexemes} {ls f ms cs : Trees} → EachOf (LocalRead G) x₁ ls x₂ → FieldRead G x₂ f x₃
      → MoreOf (LocalRead G) x₃ ms x₄ → ClausesRead G x₄ cs x₅ → x₅ is R_BRACE then x₆ → (p : ℕ)
      → Got G Phrase.inside p x₁ (tree OBJECT_COMP (number (count (ls ⊕ f ⊕ ms)) ∷ number (count cs) ∷ []) (ls ⊕ f ⊕ ms ⊕ cs)) x₅
  unfolding rule view has ◌⊕◌ with_field
  object_comprehension_goes {x₂ = x₂} {ls = ls} {f = fd} {ms} {cs} e (a_field_read n g) m (some_clauses h k) lexeme p =
      from_goto (turns (skip (λ t h. object-start e (a_field_read n g) t) at_last) (next (locals_goes e n.2 n.3 4 p none none no_trees)
      (λ us r al. subs (got_member (mem_field (a_field_read n g)) r) (λ vs r al'. refault (field_fault 4 (kind_of x₂) n.0 n.1) (next (more_locals m h r (us ⊕ vs) (ls ⊕ fd) (alike_⊕ al al'))
      (λ ws r al''. turns (this tt tt) (subs (got_clauses (some_clauses h k) (λ t. t) (λ t. t) r)
      (λ ks r al'''. turns at_last (closes (stay (alike_tree (alike_number al'' ⋆ same (ap number (clause_count cs ws ks al''')) ⋆ nil) (alike_⊕ al'' al'''))))))))))))

module _ {prefix s d : ℕ} where
  pub each_field_of : {c : ℕ} {v : Said} {xs x₁ x₂ x₃ x₄ x₅ x₆ x₇ : Lexemes} {p t : Trees} → T (has s exp_object_iteration) → xs is L_BRACK then x₁
      → x₁ is IDENT saying v then x₂
      → x₂ is R_BRACK then x₃ → Colons (greedily s) c x₃ x₄ → PatternRead (under prefix s (suc d)) x₄ p x₅ → x₅ is IN_KW then x₆
      → ExprRead (under prefix s (suc d)) 0 x₆ t x₇ → (j : ℕ)
      → Got (under prefix s (suc d)) Phrase.for_clause j xs (tree OBJECT_ITERATION (byte c ∷ text (said v) ∷ []) (p ⊕ t)) x₇
  unfolding rule view has ◌⊕◌
  each_field_of h lexeme worded lexeme d x k e j =
      begins (this (colon_next d) h) (deeps (deeply (begins at_last (eats lexeme (λ r. eats lexeme (λ r. eats lexeme (λ r. stay no_trees))))))
      (λ us r al. next (colons_go d us none r al) (λ us r al. turns at_last
      (subs (got_pattern x r) (λ vs r al'. eats k (λ r. deeps (got_expr e r)
      (λ ws r al''. closes (stay (alike_tree (same refl ⋆ same refl ⋆ nil) (alike_⊕ (alike_⊕ al al') al''))))))))))
