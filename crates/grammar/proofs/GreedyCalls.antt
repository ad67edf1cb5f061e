-- Calls and slices that are spelled greedily are read.
-- Assumes nothing.
use mathlib.Core.Path.{◌≡◌, refl, sym, ap, ◌∙◌}
use mathlib.Core.List.{[], ◌∷◌}
use Prim.Native.Nat.{ℕ, ◌+◌}
use native.Mathlib.Omega.{arith}
use lib.Dec.{T, eqb}
use Rattle.lexemes.specs.Kinds.{L_BRACK, R_BRACK, L_PAREN, R_PAREN, COLON, COMMA, ASSIGN, IDENT}
use Rattle.lexemes.specs.Kinds.{TAILSTRICT_KW}
use Rattle.grammar.specs.Tags.{CALL, NAMED_ARGUMENT, SLICE}
use Rattle.grammar.specs.Trees.{byte, number, span, text, Trees, none, tree, ◌⊕◌, count}
use Rattle.grammar.specs.Lexemes.{Said, said, rest, kind_of}
use Rattle.grammar.specs.Productions.{Phrase, goto, rule}
use Rattle.grammar.specs.Reading.{has, view}
use Rattle.grammar.specs.Spells.{Lexemes, ◌is◌saying◌then◌, worded, ◌is◌then◌, lexeme, Perhaps, greedily}
use Rattle.grammar.proofs.Chosen.{and_left, and_right}
use Rattle.grammar.proofs.Alike.{same, spans, nil, ◌⋆◌, Alike, alike_tree, alike_⊕, alike_none}
use Rattle.grammar.proofs.GreedySteps.{Under, Goes, deeps, stay, next, eats, closes, subs, respell, rebody, at_last, this, skip, turns, begins}
use Rattle.grammar.proofs.LexemeForms.{Not, other}
use Rattle.grammar.proofs.GreedyPicks.{not_option}
use Rattle.grammar.proofs.GreedyClaims.{ExprRead, ChainRead, ArgumentRead, a_named, EachOf, RowOf, PartRead, part_none, part-some, StepRead}
use Rattle.grammar.proofs.GreedyClaims.{step_none, step_some, got_expr, opens, unnamed, one_expr, each_goes, row_goes}
use Rattle.grammar.proofs.GreedySuffixes.{grow}

no_more : (b : ℕ) → b + 0 ≡ b
no_more b = omega arith

module _ {G : Under} where
  -- ── Calls ───────────────────────────────────────────────────────────────────────────────────────

  -- Arguments: a is where `(` stands, u and n how many there are.
  take_positional : (a : ℕ) (xs ys : Lexemes) (t : Trees) → ExprRead G 0 xs t ys → Not (kind_of ys) ASSIGN → (u p : ℕ) (us t₀ : Trees) → Alike t₀ us
      → Goes G (goto (Phrase.arguments a u 0)) us p xs (goto (Phrase.argument_end a (u + count t) 0)) (t₀ ⊕ t) ys
  unfolding rule view has
  take_positional a xs ys t e off u p us t₀ al =
      rebody (ap (λ (i : ℕ). goto (Phrase.argument_end a i 0)) (counted u (one_expr e)))
      (turns (skip (λ t h. (opens e).2 t) at_last)
      (turns (skip (λ t h. off (unnamed e (and_left (eqb (kind_of xs) IDENT) (eqb (kind_of (rest xs)) ASSIGN) t)
      (and_right (eqb (kind_of xs) IDENT) (eqb (kind_of (rest xs)) ASSIGN) t))) (this tt tt))
      (deeps (got_expr e p) (λ vs r al'. stay (alike_⊕ al al')))))
    where
      counted : (u : ℕ) → count t ≡ 1 → u + 1 ≡ u + count t
      counted u e = omega arith

  take_named : (a u : ℕ) (xs ys : Lexemes) (t : Trees) → ArgumentRead G xs t ys → Not (kind_of ys) ASSIGN → (n p : ℕ) (us t₀ : Trees) → Alike t₀ us
      → Goes G (goto (Phrase.arguments a u n)) us p xs (goto (Phrase.argument_end a u (n + count t))) (t₀ ⊕ t) ys
  unfolding rule view has
  take_named a u xs ys t (a_named lexeme lexeme c f) off n p us t₀ al =
      rebody (ap (λ (i : ℕ). goto (Phrase.argument_end a u i)) (counted n c))
      (turns (skip (λ t h. t) at_last) (turns (this tt tt) (subs (f p) (λ vs r al'. stay (alike_⊕ al al')))))
    where
      counted : (u : ℕ) → count t ≡ 1 → u + 1 ≡ u + count t
      counted u e = omega arith

  argument_comma : (a u : ℕ) (xs ys : Lexemes) → xs is COMMA then ys → (n p : ℕ) (us t₀ : Trees) → Alike t₀ us
      → Goes G (goto (Phrase.argument_end a u n)) us p xs (goto (Phrase.arguments a u n)) t₀ ys
  unfolding rule view has
  argument_comma a u xs ys lexeme n p us t₀ al = turns (this tt tt) (eats lexeme (λ r. stay al))

  end_of_call : {u n b a e i : ℕ} {x y z : Lexemes} → x is R_PAREN then y → Perhaps (greedily G.setting) TAILSTRICT_KW b y z
      → (us : Trees) (p : ℕ) (t₀ : Trees) → Alike t₀ us
      → Goes G (goto (Phrase.call_close i u n)) us p x (goto (Phrase.suffix 1)) (tree CALL (span a e ∷ byte b ∷ number u ∷ number n ∷ []) t₀) z
  unfolding rule view has
  end_of_call {y = y} k (Perhaps.no g) us p t₀ al =
      turns at_last (eats k (λ r. turns (skip (λ t h. not_option TAILSTRICT_KW y g t) at_last)
      (closes (stay (alike_tree (spans ⋆ same refl ⋆ same refl ⋆ same refl ⋆ nil) al)))))
  end_of_call k (Perhaps.yes lexeme) us p t₀ al =
      turns at_last (eats k (λ r. turns (this tt tt) (eats lexeme (λ r. closes (stay (alike_tree (spans ⋆ same refl ⋆ same refl ⋆ same refl ⋆ nil) al))))))

  stop_end : (a u n p : ℕ) (us t₀ : Trees) (y : Lexemes) → T (eqb (kind_of y) R_PAREN) → Alike t₀ us
      → Goes G (goto (Phrase.argument_end a u n)) us p y (goto (Phrase.call_close a u n)) t₀ y
  unfolding rule view has
  stop_end a u n p us t₀ y k al = turns (skip (λ t h. other (kind_of y) R_PAREN COMMA tt k t) at_last) (stay al)

  stop_start : (a u n p : ℕ) (us t₀ : Trees) (y : Lexemes) → T (eqb (kind_of y) R_PAREN) → Alike t₀ us
      → Goes G (goto (Phrase.arguments a u n)) us p y (goto (Phrase.call_close a u n)) t₀ y
  unfolding rule view has
  stop_start a u n p us t₀ y k al = turns (this k tt) (stay al)

  positional_goes : {x y : Lexemes} {ts : Trees} → RowOf (ExprRead G 0) x ts y → T (eqb (kind_of y) R_PAREN) → (a p : ℕ) (us t₀ : Trees) → Alike t₀ us
      → Goes G (goto (Phrase.arguments a 0 0)) us p x (goto (Phrase.call_close a (0 + count ts) 0)) (t₀ ⊕ ts) y
  positional_goes {y = y} e k a p us t₀ al =
      row_goes (λ (u : ℕ). Phrase.argument_end a u 0) (λ (u : ℕ). Phrase.arguments a u 0) (ExprRead G 0) (take_positional a)
      (λ xs ys j n p us t₀ al. argument_comma a n xs ys j 0 p us t₀ al)
      (λ (u : ℕ). goto (Phrase.call_close a u 0)) (λ n p us t₀ al. stop_end a n 0 p us t₀ y k al) (λ n p us t₀ al. stop_start a n 0 p us t₀ y k al)
      (other (kind_of y) R_PAREN ASSIGN tt k) e 0 p us t₀ al

  each_positional_goes : {x y : Lexemes} {ts : Trees} → EachOf (ExprRead G 0) x ts y → (a p : ℕ) (us t₀ : Trees) → Alike t₀ us
      → Goes G (goto (Phrase.arguments a 0 0)) us p x (goto (Phrase.arguments a (0 + count ts) 0)) (t₀ ⊕ ts) y
  each_positional_goes e a p us t₀ al =
      each_goes (λ (u : ℕ). Phrase.argument_end a u 0) (λ (u : ℕ). Phrase.arguments a u 0) (ExprRead G 0) (take_positional a)
      (λ xs ys j n p us t₀ al. argument_comma a n xs ys j 0 p us t₀ al) e 0 p us t₀ al

  named_goes : {x y : Lexemes} {ts : Trees} (u : ℕ) → RowOf (ArgumentRead G) x ts y → T (eqb (kind_of y) R_PAREN) → (a p : ℕ) (us t₀ : Trees) → Alike t₀ us
      → Goes G (goto (Phrase.arguments a u 0)) us p x (goto (Phrase.call_close a u (0 + count ts))) (t₀ ⊕ ts) y
  named_goes {y = y} u e k a p us t₀ al =
      row_goes (λ (n : ℕ). Phrase.argument_end a u n) (λ (n : ℕ). Phrase.arguments a u n) (ArgumentRead G) (take_named a u) (argument_comma a u)
      (λ (n : ℕ). goto (Phrase.call_close a u n))
      (λ n p us t₀ al. stop_end a u n p us t₀ y k al) (λ n p us t₀ al. stop_start a u n p us t₀ y k al) (other (kind_of y) R_PAREN ASSIGN tt k) e 0 p us t₀ al

  pub a_call : {f a e b : ℕ} {x₀ x y z w v : Lexemes} {t ts : Trees} → ChainRead G f x₀ t x → x is L_PAREN then y → RowOf (ExprRead G 0) y ts z
      → z is R_PAREN then w → Perhaps (greedily G.setting) TAILSTRICT_KW b w v
      → ChainRead G 1 x₀ (tree CALL (span a e ∷ byte b ∷ number (count ts) ∷ number 0 ∷ []) (t ⊕ ts)) v
  unfolding rule view has count
  a_call {f} {a} {e} {b} {t = t} {ts} c lexeme r lexeme l =
      grow c (λ t. t) refl (λ us p al. turns (skip (λ t h. t) (skip (λ t h. t) (skip (λ t h. t) (this tt tt))))
      (eats lexeme (λ p. next (positional_goes r tt _ p us t al)
      (λ vs p al. respell (ap (λ (n : ℕ). tree CALL (span a e ∷ byte b ∷ number n ∷ number 0 ∷ []) (t ⊕ ts)) (counted (count ts)))
      (end_of_call lexeme l vs p (t ⊕ ts) al)))))
    where
      counted : (n : ℕ) → 0 + n ≡ n
      counted n = omega arith

  pub a_call_by_name : {f a e b : ℕ} {x₀ x y q z w v : Lexemes} {t ts ns : Trees} → ChainRead G f x₀ t x → x is L_PAREN then y
      → EachOf (ExprRead G 0) y ts q → RowOf (ArgumentRead G) q ns z → z is R_PAREN then w
      → Perhaps (greedily G.setting) TAILSTRICT_KW b w v
      → ChainRead G 1 x₀ (tree CALL (span a e ∷ byte b ∷ number (count ts) ∷ number (count ns) ∷ []) (t ⊕ ts ⊕ ns)) v
  unfolding rule view has count
  a_call_by_name {f} {a} {e} {b} {t = t} {ts} {ns} c lexeme r q lexeme l =
      grow c (λ t. t) refl (λ us p al. turns (skip (λ t h. t) (skip (λ t h. t) (skip (λ t h. t) (this tt tt))))
      (eats lexeme (λ p. next (each_positional_goes r _ p us t al)
      (λ vs p al. next (named_goes (0 + count ts) q tt _ p vs (t ⊕ ts) al)
      (λ ws p al. respell (ap (λ (n : ℕ). tree CALL (span a e ∷ byte b ∷ number n ∷ number (0 + count ns) ∷ []) (t ⊕ ts ⊕ ns)) (counted (count ts))
      ∙ ap (λ (n : ℕ). tree CALL (span a e ∷ byte b ∷ number (count ts) ∷ number n ∷ []) (t ⊕ ts ⊕ ns)) (counted (count ns)))
      (end_of_call lexeme l ws p (t ⊕ ts ⊕ ns) al))))))
    where
      counted : (n : ℕ) → 0 + n ≡ n
      counted n = omega arith

  pub name_argument : {v : Said} {xs ys zs ws : Lexemes} {t : Trees} → xs is IDENT saying v then ys → ys is ASSIGN then zs → ExprRead G 0 zs t ws
      → ArgumentRead G xs (tree NAMED_ARGUMENT (text (said v) ∷ []) t) ws
  unfolding rule view has count ◌⊕◌
  name_argument worded j e =
      a_named lexeme j refl (λ p. begins at_last (eats lexeme (λ r. eats j
      (λ r. deeps (got_expr e r) (λ us r al. closes (stay (alike_tree (same refl ⋆ nil) al)))))))

  -- ── Slices ──────────────────────────────────────────────────────────────────────────────────────

  slice_step_goes : (b i j k l : ℕ) {c i₁ j₁ i₂ j₂ i₃ j₃ : ℕ} {x y z : Lexemes} {t : Trees} → PartRead G 4 c x t y → y is R_BRACK then z
      → (us t₀ : Trees) (p : ℕ) → Alike t₀ us
      → Goes G (goto (Phrase.slice_step b i j k l)) us p x (goto (Phrase.suffix 1)) (tree SLICE (byte (b + c) ∷ span i₁ j₁ ∷ span i₂ j₂ ∷ span i₃ j₃ ∷ []) (t₀ ⊕ t)) z
  unfolding rule view has
  slice_step_goes b i j k l part_none lexeme us t₀ p al =
      turns (this tt tt) (eats lexeme (λ r. closes (stay (alike_tree (same (ap byte (no_more b)) ⋆ spans ⋆ spans ⋆ spans ⋆ nil) (alike_none al)))))
  slice_step_goes b i j k l (part-some e) n us t₀ p al =
      turns (skip (λ t h. (opens e).0 t) at_last) (deeps (got_expr e p)
      (λ vs r al'. turns at_last (eats n (λ r. closes (stay (alike_tree (same refl ⋆ spans ⋆ spans ⋆ spans ⋆ nil) (alike_⊕ al al')))))))

  slice_goes : (b i j : ℕ) {b₂ b₃ i₁ j₁ i₂ j₂ i₃ j₃ : ℕ} {x y z w : Lexemes} {t₂ t₃ : Trees} → PartRead G 2 b₂ x t₂ y → StepRead G b₃ y t₃ z
      → z is R_BRACK then w → (us t₀ : Trees) (p : ℕ) → Alike t₀ us
      → Goes G (goto (Phrase.slice_end b i j)) us p x (goto (Phrase.suffix 1)) (tree SLICE (byte (b + b₂ + b₃) ∷ span i₁ j₁ ∷ span i₂ j₂ ∷ span i₃ j₃ ∷ []) (t₀ ⊕ t₂ ⊕ t₃)) w
  unfolding rule view has
  slice_goes b i j part_none step_none lexeme us t₀ p al =
      turns (skip (λ t h. t) (this tt tt)) (eats lexeme (λ r. closes (stay
      (alike_tree (same (ap byte (no_more (b + 0) ∙ no_more b)) ⋆ spans ⋆ spans ⋆ spans ⋆ nil) (alike_none (alike_none al))))))
  slice_goes b i j {i₁ = i₁} {j₁} {i₂} {j₂} {i₃} {j₃} {t₃ = t₃} part_none (step_some {b = c} lexeme q) k us t₀ p al =
      respell (ap (λ (n : ℕ). tree SLICE (byte (n + c) ∷ span i₁ j₁ ∷ span i₂ j₂ ∷ span i₃ j₃ ∷ []) (t₀ ⊕ none ⊕ t₃)) (sym (no_more b)))
      (turns (this tt tt) (eats lexeme (λ r. slice_step_goes b i j 0 0 q k us (t₀ ⊕ none) r (alike_none al))))
  slice_goes b i j (part-some e) step_none lexeme us t₀ p al =
      turns (skip (λ t h. (opens e).1 t) (skip (λ t h. (opens e).0 t) at_last)) (deeps (got_expr e p)
      (λ vs r al'. turns (skip (λ t h. t) at_last) (eats lexeme (λ r. closes
      (stay (alike_tree (same (ap byte (no_more (b + 2))) ⋆ spans ⋆ spans ⋆ spans ⋆ nil) (alike_none (alike_⊕ al al'))))))))
  slice_goes b i j {t₂ = t₂} (part-some e) (step_some lexeme q) k us t₀ p al =
      turns (skip (λ t h. (opens e).1 t) (skip (λ t h. (opens e).0 t) at_last)) (deeps (got_expr e p)
      (λ vs r al'. turns (this tt tt) (eats lexeme (λ r'. slice_step_goes (b + 2) i j _ _ q k (us ⊕ vs) (t₀ ⊕ t₂) r' (alike_⊕ al al')))))

  pub a_slice : {f b₁ b₂ b₃ i₁ i₂ i₃ j₁ j₂ j₃ : ℕ} {xs x₁ x₂ x₃ x₄ x₅ x₆ x₇ : Lexemes} {t t₁ t₂ t₃ : Trees} → ChainRead G f xs t x₁
      → x₁ is L_BRACK then x₂ → PartRead G 1 b₁ x₂ t₁ x₃ → x₃ is COLON then x₄
      → PartRead G 2 b₂ x₄ t₂ x₅ → StepRead G b₃ x₅ t₃ x₆ → x₆ is R_BRACK then x₇
      → ChainRead G 1 xs (tree SLICE (byte (b₁ + b₂ + b₃) ∷ span i₁ j₁ ∷ span i₂ j₂ ∷ span i₃ j₃ ∷ []) (t ⊕ t₁ ⊕ t₂ ⊕ t₃)) x₇
  unfolding rule view has count
  a_slice {t = t} c lexeme part_none lexeme q r k =
      grow c (λ t. t) refl (λ us p al. turns (skip (λ t h. t) (skip (λ t h. t) (this tt tt)))
      (eats lexeme (λ p. turns (this tt tt) (eats lexeme (λ p. slice_goes 0 0 0 q r k us (t ⊕ none) p (alike_none al))))))
  a_slice {t = t} {t₁} c lexeme (part-some e) lexeme q r k =
      grow c (λ t. t) refl (λ us p al. turns (skip (λ t h. t) (skip (λ t h. t) (this tt tt)))
      (eats lexeme (λ p. turns (skip (λ t h. (opens e).1 t) at_last) (deeps (got_expr e p)
      (λ vs p al'. turns (this tt tt) (eats lexeme (λ p'. slice_goes 1 _ _ q r k (us ⊕ vs) (t ⊕ t₁) p' (alike_⊕ al al'))))))))
