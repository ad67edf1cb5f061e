-- Patterns that are spelled greedily are read.
-- Assumes nothing.
use mathlib.Core.Path.{◌≡◌, refl, ap}
use mathlib.Core.Bool.{Bool, ◌&&◌}
use mathlib.Core.List.{List, [], ◌∷◌}
use Prim.Native.Nat.{ℕ, suc, ◌-◌}
use native.Mathlib.Omega.{arith}
use lib.Dec.{T, eqb}
use Rattle.lexemes.specs.Kinds.{L_BRACK, R_BRACK, R_PAREN, L_BRACE, R_BRACE, COLON, SEMI, DOTDOTDOT, COMMA, ASSIGN, QUESTION_MARK, IDENT}
use Rattle.grammar.specs.Tags.{SKIP, ARRAY_PATTERN, OBJECT_PATTERN, PATTERN_FIELD}
use Rattle.grammar.specs.Trees.{byte, number, span, text, Trees, none, tree, ◌⊕◌, count}
use Rattle.grammar.specs.Lexemes.{Said, said, rest, kind_of}
use Rattle.grammar.specs.Productions.{Phrase, end, goto, exp_destruct, rule}
use Rattle.grammar.specs.Reading.{has, choose, view, production}
use Rattle.grammar.specs.Spells.{Lexemes, ◌is◌saying◌then◌, worded, ◌is◌then◌, lexeme, Perhaps, Rest, greedily}
use Rattle.grammar.proofs.Chosen.{and_left, and_right}
use Rattle.grammar.proofs.ImageLaws.{count-row}
use Rattle.grammar.proofs.Alike.{same, spans, nil, ◌⋆◌, Alike, no_trees, alike_tree, alike_⊕, alike_none, alike_count, alike_number}
use Rattle.grammar.proofs.GreedySteps.{Under, under, Got, Goes, deeply, deeps, stay, next, eats, leafs, closes, subs, finish, at_last, this}
use Rattle.grammar.proofs.GreedySteps.{skip, turns, begins}
use Rattle.grammar.proofs.LexemeForms.{Not, kind_is, other}
use Rattle.grammar.proofs.GreedyPicks.{not_option}
use Rattle.grammar.proofs.GreedyClaims.{ExprRead, EachOf, e_none, e_more, RowOf, r_shut, r_last, MoreOf, m_none, m_row, MaybeOf, m_not, m_so}
use Rattle.grammar.proofs.GreedyClaims.{Heads, PatternRead, pat_name, pat_other, EntryRead, an_entry_read, got_expr, each_goes, row_goes}

pub data Untaken (y : Lexemes) : Lexemes → Type 0 where
  untaken : Untaken y y

nought : (us : Trees) → 0 ≡ count us - count us
nought us = omega arith

left : (ps qs : Trees) {us vs : Trees} → Alike ps us → Alike (ps ⊕ qs) vs → count qs ≡ count vs - count us
left ps qs a b = omega (arith, alike_count a, alike_count b, count-row ps qs)

three : (a b c : Bool) → T (a && b && c) → T a × T b × T c
three a b c t = (and_left a b (and_left (a && b) c t), and_right a b (and_left (a && b) c t), and_right (a && b) c t)

module _ {G : Under} where
  pub got_pattern : {xs ys : Lexemes} {t : Trees} → PatternRead G xs t ys → (p : ℕ) → Got G Phrase.pattern p xs t ys
  unfolding production choose rule view has ◌⊕◌
  got_pattern (pat_name worded) p = finish (leafs lexeme (λ r. stay (alike_tree (spans ⋆ same refl ⋆ nil) no_trees)))
  got_pattern (pat_other n h f) p = f p

  -- No pattern begins with these.
  pub pattern_not : {xs ys : Lexemes} {t : Trees} → PatternRead G xs t ys
      → Not (kind_of xs) R_PAREN × Not (kind_of xs) SEMI × Not (kind_of xs) R_BRACK × Not (kind_of xs) DOTDOTDOT
  pattern_not (pat_name worded) = ((λ t. t), (λ t. t), (λ t. t), (λ t. t))
  pattern_not (pat_other n h f) = (n.1, n.2, n.3, n.4)

  pub pattern_heads : {xs ys : Lexemes} {t : Trees} → PatternRead G xs t ys → Heads xs ys
  pattern_heads (pat_name worded) t = absurd t
  pattern_heads (pat_other n h f) t = h t

  each_heads : {y z : Lexemes} {ts : Trees} → EachOf (PatternRead G) y ts z → T (eqb (kind_of y) IDENT) → T (eqb (kind_of (rest y)) R_BRACK) → Untaken y z
  each_heads e_none i k = untaken
  each_heads (e_more e x j) i k = absurd (by (each_heads e i k) x j i k)
    where
      by : {y ys zs ws : Lexemes} {t : Trees} → Untaken y ys → PatternRead G ys t zs → zs is COMMA then ws → T (eqb (kind_of y) IDENT)
          → T (eqb (kind_of (rest y)) R_BRACK) → ⊥
      by untaken (pat_name worded) lexeme i k = k
      by untaken (pat_other n h f) j i k = n.0 i

  row_heads : {y z w : Lexemes} {ts : Trees} → RowOf (PatternRead G) y ts z → z is R_BRACK then w → T (eqb (kind_of y) IDENT)
      → T (eqb (kind_of (rest y)) R_BRACK) → T (eqb (kind_of (rest (rest y))) COLON)
      → T (eqb (kind_of w) COLON)
  row_heads (r_shut e) j i k c = by (each_heads e i k) j i
    where
      by : {y z w : Lexemes} → Untaken y z → z is R_BRACK then w → T (eqb (kind_of y) IDENT) → T (eqb (kind_of w) COLON)
      by untaken lexeme i = absurd i
  row_heads (r_last e x) j i k c = by (each_heads e i k) x j i c
    where
      by : {y v z w : Lexemes} {t : Trees} → Untaken y v → PatternRead G v t z → z is R_BRACK then w → T (eqb (kind_of y) IDENT)
          → T (eqb (kind_of (rest (rest y))) COLON) → T (eqb (kind_of w) COLON)
      by untaken (pat_name worded) lexeme i c = c
      by untaken (pat_other n h f) j i c = absurd (n.0 i)

  take_pattern : (xs ys : Lexemes) (t : Trees) → PatternRead G xs t ys → Not (kind_of ys) ASSIGN → (n p : ℕ) (us t₀ : Trees) → Alike t₀ us
      → Goes G (goto Phrase.pattern_starts) us p xs (goto Phrase.pattern_starts_end) (t₀ ⊕ t) ys
  unfolding rule view has
  take_pattern xs ys t x off i p us t₀ al =
      turns (skip (λ t h. (pattern_not x).2 t) (skip (λ t h. (pattern_not x).3 t) at_last)) (subs (got_pattern x p) (λ vs r al'. stay (alike_⊕ al al')))

  starts_comma : (xs ys : Lexemes) → xs is COMMA then ys → (n p : ℕ) (us t₀ : Trees) → Alike t₀ us
      → Goes G (goto Phrase.pattern_starts_end) us p xs (goto Phrase.pattern_starts) t₀ ys
  unfolding rule view has
  starts_comma xs ys j n p us t₀ al = turns (this (kind_is j) tt) (eats j (λ r. stay al))

  starts_goes : {xs ys : Lexemes} {ts : Trees} → EachOf (PatternRead G) xs ts ys → (p : ℕ)
      → Goes G (goto Phrase.pattern_starts) none p xs (goto Phrase.pattern_starts) ts ys
  unfolding ◌⊕◌
  starts_goes e p =
      each_goes (λ (n : ℕ). Phrase.pattern_starts_end) (λ (n : ℕ). Phrase.pattern_starts) (PatternRead G) take_pattern starts_comma e 0 p none none no_trees

  array_pattern_goes : {y z w : Lexemes} {ts : Trees} → RowOf (PatternRead G) y ts z → z is R_BRACK then w → (p : ℕ)
      → Goes G (goto Phrase.pattern_starts) none p y end (tree ARRAY_PATTERN (number (count ts) ∷ byte 0 ∷ number 0 ∷ text [] ∷ []) ts) w
  unfolding rule view has
  array_pattern_goes (r_shut e) lexeme p =
      next (starts_goes e p) (λ us r al. turns (this tt tt) (turns at_last
      (eats lexeme (λ r. closes (stay (alike_tree (alike_number al ⋆ same refl ⋆ same (ap number (nought us)) ⋆ same refl ⋆ nil) al))))))
  array_pattern_goes (r_last {ys = y} {ts = ts} {t = t} e x) lexeme p =
      next (starts_goes e p) (λ us r al. next (take_pattern y _ t x (λ t. t) 0 r us ts al)
      (λ vs r al. turns (skip (λ t h. t) at_last) (turns at_last (eats lexeme
      (λ r. closes (stay (alike_tree (alike_number al ⋆ same refl ⋆ same (ap number (nought vs)) ⋆ same refl ⋆ nil) al)))))))

  rest_goes : {r : ℕ} {w : List ℕ} {z x : Lexemes} → Rest (greedily G.setting) r w z x → (us t₀ : Trees) (p : ℕ) → Alike t₀ us
      → Goes G (goto Phrase.pattern_starts) us p z (goto (Phrase.array_rest_end (count us) r w)) t₀ x
  unfolding rule view has
  rest_goes {x = x} (Rest.dropped lexeme g) us t₀ p al =
      turns (skip (λ t h. t) (this tt tt)) (eats lexeme (λ r. turns (skip (λ t h. not_option IDENT x g t) at_last) (stay al)))
  rest_goes (Rest.kept lexeme worded) us t₀ p al = turns (skip (λ t h. t) (this tt tt)) (eats lexeme (λ r. turns (this tt tt) (eats lexeme (λ r. stay al))))

  module _ (m r : ℕ) (w : List ℕ) where
    take_end : (xs ys : Lexemes) (t : Trees) → PatternRead G xs t ys → Not (kind_of ys) ASSIGN → (n p : ℕ) (us t₀ : Trees) → Alike t₀ us
        → Goes G (goto (Phrase.pattern_ends m r w)) us p xs (goto (Phrase.pattern_ends_end m r w)) (t₀ ⊕ t) ys
    unfolding rule view has
    take_end xs ys t x off i p us t₀ al = turns (skip (λ t h. (pattern_not x).2 t) at_last) (subs (got_pattern x p) (λ vs r al'. stay (alike_⊕ al al')))

    -- Patterns behind a rest, up to `]`.
    ends_goes : {xs ys : Lexemes} {ts : Trees} → MoreOf (PatternRead G) xs ts ys → T (eqb (kind_of ys) R_BRACK) → (us t₀ : Trees) (p : ℕ) → Alike t₀ us
        → Goes G (goto (Phrase.array_rest_end m r w)) us p xs (goto (Phrase.array_pattern_close m r w)) (t₀ ⊕ ts) ys
    unfolding rule view has
    ends_goes {ys = ys} m_none k us t₀ p al = turns (skip (λ t h. other (kind_of ys) R_BRACK COMMA tt k t) at_last) (stay (alike_none al))
    ends_goes {ys = ys} (m_row lexeme q) k us t₀ p al =
        turns (this tt tt) (eats lexeme (λ p. row_goes (λ (n : ℕ). Phrase.pattern_ends_end m r w) (λ (n : ℕ). Phrase.pattern_ends m r w) (PatternRead G) take_end
        (λ xs ys j n p us t₀ al. turns (this (kind_is j) tt) (eats j (λ r. stay al)))
        (λ (n : ℕ). goto (Phrase.array_pattern_close m r w)) (λ n p us t₀ al. turns (skip (λ t h. other (kind_of ys) R_BRACK COMMA tt k t) at_last)
        (stay al)) (λ n p us t₀ al. turns (this k tt) (stay al))
        (other (kind_of ys) R_BRACK ASSIGN tt k) q 0 p us t₀ al))

  array_rest_goes : {r : ℕ} {w : List ℕ} {y z x u v : Lexemes} {ps qs : Trees} → EachOf (PatternRead G) y ps z
      → Rest (greedily G.setting) r w z x → MoreOf (PatternRead G) x qs u → u is R_BRACK then v → (p : ℕ)
      → Goes G (goto Phrase.pattern_starts) none p y end (tree ARRAY_PATTERN (number (count ps) ∷ byte r ∷ number (count qs) ∷ text w ∷ []) (ps ⊕ qs)) v
  unfolding rule view has
  array_rest_goes {r} {w} {ps = ps} {qs = qs} e d m lexeme p =
      next (starts_goes e p) (λ us j al. next (rest_goes d us ps j al) (λ us' j al'. next (ends_goes (count us) r w m tt us' ps j al')
      (λ vs j al''. turns at_last (eats lexeme (λ j. closes (stay (alike_tree
      (alike_number al ⋆ same refl ⋆ same (ap number (left ps qs al al'')) ⋆ same refl ⋆ nil) al'')))))))

  -- Object patterns
  take-entry : (xs ys : Lexemes) (t : Trees) → EntryRead G xs t ys → Not (kind_of ys) ASSIGN → (n p : ℕ) (us t₀ : Trees) → Alike t₀ us
      → Goes G (goto Phrase.pattern_fields) us p xs (goto Phrase.pattern_fields_end) (t₀ ⊕ t) ys
  unfolding rule view has
  take-entry xs ys t (an_entry_read lexeme f) off i p us t₀ al = turns (skip (λ t h. t) (skip (λ t h. t) at_last)) (subs (f p) (λ vs r al'. stay (alike_⊕ al al')))

  entries_comma : (xs ys : Lexemes) → xs is COMMA then ys → (n p : ℕ) (us t₀ : Trees) → Alike t₀ us
      → Goes G (goto Phrase.pattern_fields_end) us p xs (goto Phrase.pattern_fields) t₀ ys
  unfolding rule view has
  entries_comma xs ys j n p us t₀ al = turns (this (kind_is j) tt) (eats j (λ r. stay al))

  object_pattern_goes : {y z w : Lexemes} {ts : Trees} → RowOf (EntryRead G) y ts z → z is R_BRACE then w → (p : ℕ)
      → Goes G (goto Phrase.pattern_fields) none p y end (tree OBJECT_PATTERN (number (count ts) ∷ byte 0 ∷ text [] ∷ []) ts) w
  unfolding rule view has ◌⊕◌
  object_pattern_goes q lexeme p =
      next (row_goes (λ (n : ℕ). Phrase.pattern_fields_end) (λ (n : ℕ). Phrase.pattern_fields) (EntryRead G) take-entry entries_comma
      (λ (n : ℕ). goto (Phrase.object_pattern_close 0 []))
      (λ n p us t₀ al. turns (skip (λ t h. t) at_last) (stay al)) (λ n p us t₀ al. turns (this tt tt) (stay al)) (λ t. t) q 0 p none none no_trees)
      (λ us r al. turns at_last (eats lexeme (λ r. closes (stay (alike_tree (alike_number al ⋆ same refl ⋆ same refl ⋆ nil) al)))))

  object_rest_goes : {r b : ℕ} {w : List ℕ} {y z x u v : Lexemes} {ps : Trees} → EachOf (EntryRead G) y ps z
      → Rest (greedily G.setting) r w z x → Perhaps (greedily G.setting) COMMA b x u → u is R_BRACE then v → (p : ℕ)
      → Goes G (goto Phrase.pattern_fields) none p y end (tree OBJECT_PATTERN (number (count ps) ∷ byte r ∷ text w ∷ []) ps) v
  unfolding rule view has ◌⊕◌
  object_rest_goes {r} {w = w} {ps = ps} e d c k p =
      next (each_goes (λ (n : ℕ). Phrase.pattern_fields_end) (λ (n : ℕ). Phrase.pattern_fields) (EntryRead G) take-entry entries_comma e 0 p none none no_trees)
      (λ us j al. next (rests d us j al) (λ us j al. next (commas c k us j al)
      (λ us j al. turns at_last (eats k (λ j. closes (stay (alike_tree (alike_number al ⋆ same refl ⋆ same refl ⋆ nil) al)))))))
    where
      rests : {r : ℕ} {w : List ℕ} {z x : Lexemes} → Rest (greedily G.setting) r w z x → (us : Trees) (p : ℕ) → Alike ps us
          → Goes G (goto Phrase.pattern_fields) us p z (goto (Phrase.object_rest_end r w)) ps x
      rests {x = x} (Rest.dropped lexeme g) us p al =
          turns (skip (λ t h. t) (this tt tt)) (eats lexeme (λ j. turns (skip (λ t h. not_option IDENT x g t) at_last) (stay al)))
      rests (Rest.kept lexeme worded) us p al = turns (skip (λ t h. t) (this tt tt)) (eats lexeme (λ j. turns (this tt tt) (eats lexeme (λ j. stay al))))

      commas : {b : ℕ} {x u v : Lexemes} → Perhaps (greedily G.setting) COMMA b x u → u is R_BRACE then v → (us : Trees) (p : ℕ) → Alike ps us
          → Goes G (goto (Phrase.object_rest_end r w)) us p x (goto (Phrase.object_pattern_close r w)) ps u
      commas (Perhaps.no g) lexeme us p al = turns (skip (λ t h. t) at_last) (stay al)
      commas (Perhaps.yes lexeme) k us p al = turns (this tt tt) (eats lexeme (λ j. stay al))

  pub skip_pattern : {xs ys : Lexemes} → T (has G.setting exp_destruct) → xs is QUESTION_MARK then ys → PatternRead G xs (tree SKIP [] none) ys
  unfolding rule view has ◌⊕◌
  skip_pattern h lexeme =
      pat_other ((λ t. t), (λ t. t), (λ t. t), (λ t. t), (λ t. t)) (λ t. absurd t)
      (λ p. begins (skip (λ t h. t) (this tt h)) (leafs lexeme (λ r. stay (alike_tree nil no_trees))))

  default_goes : {h d a b : ℕ} {w : List ℕ} {x y : Lexemes} {t : Trees} → MaybeOf ASSIGN (ExprRead G 0) d x t y → (us t₀ : Trees) (p : ℕ) → Alike t₀ us
      → Goes G (goto (Phrase.pattern_default h w)) us p x end (tree PATTERN_FIELD (byte h ∷ byte d ∷ span a b ∷ text w ∷ []) (t₀ ⊕ t)) y
  unfolding rule view has
  default_goes (m_not n) us t₀ p al =
      turns (skip (λ t h. n t) at_last) (closes (stay (alike_tree (same refl ⋆ same refl ⋆ spans ⋆ same refl ⋆ nil) (alike_none al))))
  default_goes (m_so lexeme e) us t₀ p al =
      turns (this tt tt) (eats lexeme (λ r. turns at_last (deeps (got_expr e r)
      (λ vs r al'. turns at_last (closes (stay (alike_tree (same refl ⋆ same refl ⋆ spans ⋆ same refl ⋆ nil) (alike_⊕ al al'))))))))

  pub an_entry : {h d a b : ℕ} {v : Said} {xs ys zs ws : Lexemes} {p t : Trees} → xs is IDENT saying v then ys
      → MaybeOf COLON (PatternRead G) h ys p zs → MaybeOf ASSIGN (ExprRead G 0) d zs t ws
      → EntryRead G xs (tree PATTERN_FIELD (byte h ∷ byte d ∷ span a b ∷ text (said v) ∷ []) (p ⊕ t)) ws
  unfolding rule view has ◌⊕◌
  an_entry worded (m_not n) m =
      an_entry_read lexeme (λ p. begins at_last (eats lexeme (λ r. turns (skip (λ t h. n t) at_last) (default_goes m none none r no_trees))))
  an_entry {p = q} worded (m_so lexeme x) m =
      an_entry_read lexeme (λ p. begins at_last (eats lexeme (λ r. turns (this tt tt)
      (eats lexeme (λ r. subs (got_pattern x r) (λ us r al. default_goes m us q r al))))))

module _ {prefix s d : ℕ} where
  pub an_array_pattern : {xs ys zs ws : Lexemes} {ps : Trees} → T (has s exp_destruct) → xs is L_BRACK then ys
      → RowOf (PatternRead (under prefix s d)) ys ps zs → zs is R_BRACK then ws
      → PatternRead (under prefix s (suc d)) xs (tree ARRAY_PATTERN (number (count ps) ∷ byte 0 ∷ number 0 ∷ text [] ∷ []) ps) ws
  unfolding rule view has ◌⊕◌
  an_array_pattern {ys = ys} h lexeme q j =
      pat_other ((λ t. t), (λ t. t), (λ t. t), (λ t. t), (λ t. t))
      (λ t. let k = three (eqb (kind_of ys) IDENT) (eqb (kind_of (rest ys)) R_BRACK) (eqb (kind_of (rest (rest ys))) COLON) t in row_heads q j k.0 k.1 k.2)
      (λ p. begins (skip (λ t h. t) (skip (λ t h. t) (this tt h))) (deeps (deeply (begins at_last (eats lexeme (λ r. array_pattern_goes q j r))))
      (λ us r al. stay al)))

  pub an_array_pattern_rest : {r : ℕ} {w : List ℕ} {xs ys zs ws us vs : Lexemes} {ps qs : Trees} → T (has s exp_destruct) → xs is L_BRACK then ys
      → EachOf (PatternRead (under prefix s d)) ys ps zs → Rest (greedily s) r w zs ws
      → MoreOf (PatternRead (under prefix s d)) ws qs us → us is R_BRACK then vs
      → PatternRead (under prefix s (suc d)) xs (tree ARRAY_PATTERN (number (count ps) ∷ byte r ∷ number (count qs) ∷ text w ∷ []) (ps ⊕ qs)) vs
  unfolding rule view has ◌⊕◌
  an_array_pattern_rest {ys = ys} {vs = vs} h lexeme e d m j =
      pat_other ((λ t. t), (λ t. t), (λ t. t), (λ t. t), (λ t. t))
      (λ t. let k = three (eqb (kind_of ys) IDENT) (eqb (kind_of (rest ys)) R_BRACK) (eqb (kind_of (rest (rest ys))) COLON) t in absurd
      (by (each_heads e k.0 k.1) d k.0))
      (λ p. begins (skip (λ t h. t) (skip (λ t h. t) (this tt h))) (deeps (deeply (begins at_last (eats lexeme (λ r. array_rest_goes e d m j r))))
      (λ us r al. stay al)))
    where
      by : {y z x : Lexemes} {r : ℕ} {w : List ℕ} → Untaken y z → Rest (greedily s) r w z x → T (eqb (kind_of y) IDENT) → ⊥
      by untaken (Rest.dropped lexeme g) i = i
      by untaken (Rest.kept lexeme g) i = i

  pub an_object_pattern : {xs ys zs ws : Lexemes} {ps : Trees} → T (has s exp_destruct) → xs is L_BRACE then ys
      → RowOf (EntryRead (under prefix s d)) ys ps zs → zs is R_BRACE then ws
      → PatternRead (under prefix s (suc d)) xs (tree OBJECT_PATTERN (number (count ps) ∷ byte 0 ∷ text [] ∷ []) ps) ws
  unfolding rule view has ◌⊕◌
  an_object_pattern h lexeme q j =
      pat_other ((λ t. t), (λ t. t), (λ t. t), (λ t. t), (λ t. t)) (λ t. absurd t)
      (λ p. begins (skip (λ t h. t) (skip (λ t h. t) (skip (λ t h. t) (this tt h))))
      (deeps (deeply (begins at_last (eats lexeme (λ r. object_pattern_goes q j r)))) (λ us r al. stay al)))

  pub an_object_pattern_rest : {r b : ℕ} {w : List ℕ} {xs ys zs ws us vs : Lexemes} {ps : Trees} → T (has s exp_destruct) → xs is L_BRACE then ys
      → EachOf (EntryRead (under prefix s d)) ys ps zs → Rest (greedily s) r w zs ws
      → Perhaps (greedily s) COMMA b ws us → us is R_BRACE then vs
      → PatternRead (under prefix s (suc d)) xs (tree OBJECT_PATTERN (number (count ps) ∷ byte r ∷ text w ∷ []) ps) vs
  unfolding rule view has ◌⊕◌
  an_object_pattern_rest h lexeme e d c j =
      pat_other ((λ t. t), (λ t. t), (λ t. t), (λ t. t), (λ t. t)) (λ t. absurd t)
      (λ p. begins (skip (λ t h. t) (skip (λ t h. t) (skip (λ t h. t) (this tt h))))
      (deeps (deeply (begins at_last (eats lexeme (λ r. object_rest_goes e d c j r)))) (λ us r al. stay al)))
