-- Each record of an expression is written: a lemma for each form, by its name in 01.
-- Assumes nothing.
use mathlib.Core.Path.{◌≡◌, sym, subst}
use mathlib.Core.List.{List, [], ◌∷◌}
use Prim.Native.Nat.{ℕ, zero, suc, ◌+◌, ◌≤◌}
use native.Mathlib.Omega.{arith}
use lib.Dec.{T}
use Rattle.strings.specs.Utf8.{Utf8}
use Rattle.lexemes.specs.Kinds.{L_BRACK, R_BRACK, L_PAREN, R_PAREN, L_BRACE, R_BRACE, COLON, SEMI, DOT, COMMA, QUESTION_MARK, TAILSTRICT_KW, LOCAL_KW}
use Rattle.lexemes.specs.Kinds.{IF_KW, THEN_KW, ELSE_KW, FUNCTION_KW, ERROR_KW, NULL_KW, TRUE_KW, FALSE_KW, FOR_KW}
use Rattle.grammar.specs.Tags.{IDENTITY, NULL, BOOL, NUMBER, STRING, VARIABLE, ARRAY, ARRAY_COMP, MEMBERS, OBJECT_COMP, EXTENSION, PREFIX}
use Rattle.grammar.specs.Tags.{INFIX, ASSERT_EXPR, LOCAL, IMPORT, ERROR, CALL, INDEX_PART, FUNCTION, IF, SLICE}
use Rattle.grammar.specs.Trees.{Field, byte, number, span, text, Trees, node, tree, ◌⊕◌, count}
use Rattle.grammar.specs.Trees as trees
use Rattle.grammar.specs.Lexemes.{Lexeme, said}
use Rattle.grammar.specs.Productions.{exp_null_coaelse}
use Rattle.grammar.specs.Reading.{has}
use Rattle.grammar.specs.Words.{NameText, NumberText}
use Rattle.grammar.specs.Spells.{lexeme, worded, greedily, Perhaps, Quoted, Open, Spells, Category as C}
use Rattle.grammar.specs.Records.{Sort, Spans, Has, Part}
use Rattle.grammar.proofs.ImageLaws.{row_assoc, count-row}
use Rattle.grammar.proofs.Stretches.{◌⟫◌, empty, token, tok, named, numbered, quoted, no_suffix, no_option, Closes, at_paren, at_bracket}
use Rattle.grammar.proofs.Stretches.{at_comma, at_colon, at_then, at_else, at_for, over_comma, over_semi, over_bracket, over_brace}
use Rattle.grammar.proofs.OperatorKinds.{IdentityOf, an_identity, ImportOf, an_import, SignOf, a_sign, OperatorOf, an_operator}
use Rattle.grammar.proofs.Prints.{Any, Row, row-map, Flagged, Prints, Operand, Item, expr_of, operation_parens, chain_parens, basic_parens}
use Rattle.grammar.proofs.Prints.{commas, depth, each_of, row_of, exprs, clauses_first}
use Rattle.grammar.proofs.Writes.{All, Many, many, Clausal, clausal}

-- Behind an expression in parentheses.
abbrev close : List Lexeme → List Lexeme
close ys = token R_PAREN ∷ ys

module _ {prefix s : ℕ} where
  -- ── 1 to 6 ──────────────────────────────────────────────────────────────────────────────────────

  pub identity : {o a e : ℕ} → IdentityOf o → Operand prefix s (tree IDENTITY (byte o ∷ span a e ∷ []) trees.none)
  identity (an_identity {k} i h) = record { stretch = tok k h; levels = 0; spell = λ d le ys f. Spells.identity i lexeme }

  pub null : Operand prefix s (tree NULL [] trees.none)
  null = record { stretch = tok NULL_KW tt; levels = 0; spell = λ d le ys f. Spells.null lexeme }

  pub bool : (f : ℕ) → f ≤ 1 → Operand prefix s (tree BOOL (byte f ∷ []) trees.none)
  bool zero h = record { stretch = tok FALSE_KW tt; levels = 0; spell = λ d le ys f. Spells.false lexeme }
  bool (suc zero) h = record { stretch = tok TRUE_KW tt; levels = 0; spell = λ d le ys f. Spells.true lexeme }
  bool (suc (suc f)) h = absurd (omega arith)

  pub a_number : {w : List ℕ} → NumberText w → Operand prefix s (tree NUMBER (text w ∷ []) trees.none)
  unfolding said
  a_number {w} h = record { stretch = numbered w h; levels = 0; spell = λ d le ys f. Spells.numeral worded }

  pub string : {w : List ℕ} → Utf8 w → Prints prefix s C.string Any (tree STRING (text w ∷ []) trees.none)
  string {w} h = record { stretch = quoted w h; levels = 0; spell = λ d le ys f. Spells.quoted Quoted.double worded }

  pub variable : {a e : ℕ} {w : List ℕ} → NameText w → Operand prefix s (tree VARIABLE (span a e ∷ text w ∷ []) trees.none)
  unfolding said
  variable {w = w} h = record { stretch = named w h; levels = 0; spell = λ d le ys f. Spells.variable worded }

  -- ── 7 to 11 ─────────────────────────────────────────────────────────────────────────────────────

  pub array : {n : ℕ} {ts : Trees} → Many prefix s Sort.expression n ts → Operand prefix s (tree ARRAY (number n ∷ []) ts)
  array (many r) =
      record {
        stretch = tok L_BRACK tt ⟫ commas (exprs r) ⟫ tok R_BRACK tt;
        levels = suc (depth (exprs r));
        spell = λ d le ys f. Spells.array lexeme (row_of at_comma (exprs r) d (omega arith) (token R_BRACK ∷ ys)) lexeme;
      }

  pub array_comp : {n : ℕ} {t cs : Trees} → Operand prefix s t → Clausal prefix s n cs → Operand prefix s (tree ARRAY_COMP (number n ∷ []) (t ⊕ cs))
  array_comp e (clausal c) =
      record {
        stretch = tok L_BRACK tt ⟫ e.stretch ⟫ c.stretch ⟫ tok R_BRACK tt;
        levels = suc (e.levels + c.levels);
        spell = λ d le ys f.
            let x = c.spell d (omega arith) (token R_BRACK ∷ ys) over_bracket in
            let q = sym (clauses_first x) in
            Spells.array_comprehension lexeme (expr_of 0 e d (omega arith) (c.stretch.before (token R_BRACK ∷ ys)) (subst (λ (k : ℕ). Closes s k) q at_for))
            (Perhaps.no (subst (λ (k : ℕ). greedily s (Open.optional COMMA) k) q (no_option COMMA FOR_KW tt))) x lexeme;
      }

  pub members : {n : ℕ} {ts : Trees} → Many prefix s Sort.member n ts → Prints prefix s C.object Any (tree MEMBERS (number n ∷ []) ts)
  members (many r) =
      record {
        stretch = tok L_BRACE tt ⟫ commas r ⟫ tok R_BRACE tt;
        levels = suc (depth r);
        spell = λ d le ys f. Spells.members lexeme (row_of over_comma r d (omega arith) (token R_BRACE ∷ ys)) lexeme;
      }

  local : {t : Trees} → Item prefix s C.bind t → Item prefix s C.local t
  local p = record { stretch = tok LOCAL_KW tt ⟫ p.stretch; levels = suc p.levels; spell = λ d le ys o. Spells.a_local lexeme (p.spell d (omega arith) ys o) }

  locals : {ts : Trees} → Row (Item prefix s C.bind) ts → Row (Item prefix s C.local) ts
  locals r = row-map (λ t p. local p) r

  comprehension : {ls f ms cs : Trees} → Row (Item prefix s C.local) ls → Item prefix s C.field f → Row (Item prefix s C.local) ms
      → Item prefix s C.clauses cs → Prints prefix s C.object Any (tree OBJECT_COMP (number (count (ls ⊕ f ⊕ ms)) ∷ number (count cs) ∷ []) (ls ⊕ f ⊕ ms ⊕ cs))
  comprehension a b c q =
      record {
        stretch = tok L_BRACE tt ⟫ commas a ⟫ b.stretch ⟫ tok COMMA tt ⟫ commas c ⟫ q.stretch ⟫ tok R_BRACE tt;
        levels = suc (depth a + b.levels + depth c + q.levels);
        spell = λ d le ys f.
            let end = q.stretch.before (token R_BRACE ∷ ys) in
            let rest = token COMMA ∷ (commas c).before end in
            Spells.object_comprehension lexeme (each_of over_comma a d (omega arith) (b.stretch.before rest)) (b.spell d (omega arith) rest over_comma)
            (Spells.more_row lexeme (row_of over_comma c d (omega arith) end)) (q.spell d (omega arith) (token R_BRACE ∷ ys) over_brace) lexeme;
      }

  pub object_comp : {a b n tag : ℕ} {fs : List Field} {ls k ms cs : Trees} → Many prefix s Sort.bind a ls → Item prefix s C.field (tree tag fs k)
      → Many prefix s Sort.bind b ms
      → Clausal prefix s n cs → Prints prefix s C.object Any (tree OBJECT_COMP (number (a + 1 + b) ∷ number n ∷ []) ((ls ⊕ node tag fs k ms) ⊕ cs))
  unfolding ◌⊕◌ count
  object_comp {tag = tag} {fs = fs} {k = k} (many {ts = ls} a) f (many {ts = ms} b) (clausal {ts = cs} c) =
      let e : count (ls ⊕ tree tag fs k ⊕ ms) ≡ count ls + 1 + count ms = omega (arith, count-row (ls ⊕ tree tag fs k) ms, count-row ls (tree tag fs k)) in
      subst (λ (m : ℕ). Prints prefix s C.object Any (tree OBJECT_COMP (number m ∷ number (count cs) ∷ []) ((ls ⊕ node tag fs k ms) ⊕ cs))) e
      (subst (λ (t : Trees). Prints prefix s C.object Any (tree OBJECT_COMP (number (count (ls ⊕ tree tag fs k ⊕ ms)) ∷ number (count cs) ∷ []) (t ⊕ cs)))
      (row_assoc ls (tree tag fs k) ms) (comprehension (locals a) f (locals b) c))

  pub extension : {t o : Trees} → Operand prefix s t → Prints prefix s C.object Any o → Operand prefix s (tree EXTENSION [] (t ⊕ o))
  extension e o =
      chain_parens (suc (e.levels + o.levels)) (e.stretch ⟫ o.stretch)
      (λ d le ys. Spells.extended (Spells.bare (e.spell d (omega arith) (o.stretch.before (close ys)) tt)) (o.spell d (omega arith) (close ys) tt))

  -- ── 12 to 17 ────────────────────────────────────────────────────────────────────────────────────

  pub sign : {o : ℕ} {t : Trees} → SignOf o → Operand prefix s t → Operand prefix s (tree PREFIX (byte o ∷ []) t)
  sign (a_sign {k} u h) e =
      operation_parens (suc e.levels) (tok k h ⟫ e.stretch) (λ d le ys. Spells.prefixed u lexeme (expr_of prefix e d (omega arith) (close ys) at_paren))

  pub operation : {o i j : ℕ} {t u : Trees} → OperatorOf s o → Operand prefix s t → Operand prefix s u → Operand prefix s (tree INFIX (byte o ∷ span i j ∷ []) (t ⊕ u))
  operation (an_operator {k} {l} b h n) e f =
      operation_parens (suc (e.levels + f.levels)) (e.stretch ⟫ tok k h ⟫ f.stretch)
      (λ d le ys.
      let left = e.spell d (omega arith) (token k ∷ f.stretch.before (close ys)) tt in
      Spells.infixed {m = 0} b (omega arith) (Spells.operand (Spells.whole_chain (Spells.bare left) (no_suffix k n))) lexeme
      (expr_of (l + 1) f d (omega arith) (close ys) at_paren))

  pub assert : {a t : Trees} → Item prefix s C.assertion a → Operand prefix s t → Operand prefix s (tree ASSERT_EXPR [] (a ⊕ t))
  assert a e =
      basic_parens (suc (a.levels + e.levels)) (a.stretch ⟫ tok SEMI tt ⟫ e.stretch)
      (λ d le ys. Spells.assert (a.spell d (omega arith) (token SEMI ∷ e.stretch.before (close ys)) over_semi) lexeme
      (expr_of 0 e d (omega arith) (close ys) at_paren))

  pub local_expr : {n : ℕ} {bs t : Trees} → Many prefix s Sort.bind n bs → Operand prefix s t → Operand prefix s (tree LOCAL (number n ∷ []) (bs ⊕ t))
  local_expr (many r) e =
      basic_parens (suc (depth r + e.levels)) (tok LOCAL_KW tt ⟫ commas r ⟫ tok SEMI tt ⟫ e.stretch)
      (λ d le ys. Spells.locals lexeme (row_of over_comma r d (omega arith) (token SEMI ∷ e.stretch.before (close ys))) lexeme
      (expr_of 0 e d (omega arith) (close ys) at_paren))

  pub import : {o a e : ℕ} {t : Trees} → ImportOf o → Operand prefix s t → Operand prefix s (tree IMPORT (byte o ∷ span a e ∷ []) t)
  import (an_import {k} i h) e =
      basic_parens (suc e.levels) (tok k h ⟫ e.stretch) (λ d le ys. Spells.import i lexeme (expr_of 0 e d (omega arith) (close ys) at_paren))

  pub error : {a e : ℕ} {t : Trees} → Operand prefix s t → Operand prefix s (tree ERROR (span a e ∷ []) t)
  error e = basic_parens (suc e.levels) (tok ERROR_KW tt ⟫ e.stretch) (λ d le ys. Spells.error lexeme (expr_of 0 e d (omega arith) (close ys) at_paren))

  -- ── 18 to 23 ────────────────────────────────────────────────────────────────────────────────────

  pub call : {a e b u n : ℕ} {t ts ns : Trees} → Flagged s TAILSTRICT_KW b → Operand prefix s t → Many prefix s Sort.expression u ts → Many prefix s Sort.named n ns
      → Operand prefix s (tree CALL (span a e ∷ byte b ∷ number u ∷ number n ∷ []) (t ⊕ ts ⊕ ns))
  call p e (many r) (many q) =
      chain_parens (suc (e.levels + depth (exprs r) + depth q)) (e.stretch ⟫ tok L_PAREN tt ⟫ commas (exprs r) ⟫ commas q ⟫ tok R_PAREN tt ⟫ p.stretch)
      (λ d le ys.
      let end = token R_PAREN ∷ p.stretch.before (close ys) in
      Spells.called_by_name (Spells.bare (e.spell d (omega arith) (token L_PAREN ∷ (commas (exprs r)).before ((commas q).before end)) tt)) lexeme
      (each_of at_comma (exprs r) d (omega arith) ((commas q).before end)) (row_of over_comma q d (omega arith) end) lexeme
      (p.spell (close ys) (no_option TAILSTRICT_KW R_PAREN tt)))

  -- The first part of a run stands on any expression.
  pub base : {t : Trees} → Operand prefix s t → Prints prefix s (C.chain 1) Any t
  base e = record { stretch = e.stretch; levels = suc e.levels; spell = λ d le ys f. Spells.bare (e.spell d (omega arith) ys tt) }

  pub index : {f a e : ℕ} {t i : Trees} → T (has s exp_null_coaelse) → (n : ℕ) → n ≤ 1 → Prints prefix s (C.chain f) Any t → Operand prefix s i
      → Prints prefix s (C.chain 0) Any (tree INDEX_PART (span a e ∷ byte f ∷ byte n ∷ []) (t ⊕ i))
  index on zero h b i =
      record {
        stretch = b.stretch ⟫ tok L_BRACK tt ⟫ i.stretch ⟫ tok R_BRACK tt;
        levels = suc (b.levels + i.levels);
        spell = λ d le ys f.
            let end = token R_BRACK ∷ ys in
            Spells.index_of (b.spell d (omega arith) (token L_BRACK ∷ i.stretch.before end) tt) lexeme (expr_of 0 i d (omega arith) end at_bracket) lexeme;
      }
  index on (suc zero) h b i =
      record {
        stretch = b.stretch ⟫ tok QUESTION_MARK tt ⟫ tok DOT tt ⟫ tok L_BRACK tt ⟫ i.stretch ⟫ tok R_BRACK tt;
        levels = suc (b.levels + i.levels);
        spell = λ d le ys f.
            let end = token R_BRACK ∷ ys in
            Spells.safe_index_of on (b.spell d (omega arith) (token QUESTION_MARK ∷ token DOT ∷ token L_BRACK ∷ i.stretch.before end) tt) lexeme lexeme lexeme
            (expr_of 0 i d (omega arith) end at_bracket) lexeme;
      }
  index on (suc (suc n)) h b i = absurd (omega arith)

  pub function : {a e n : ℕ} {ps t : Trees} → Many prefix s Sort.param n ps → Operand prefix s t
      → Operand prefix s (tree FUNCTION (span a e ∷ number n ∷ []) (ps ⊕ t))
  function (many r) e =
      basic_parens (suc (depth r + e.levels)) (tok FUNCTION_KW tt ⟫ tok L_PAREN tt ⟫ commas r ⟫ tok R_PAREN tt ⟫ e.stretch)
      (λ d le ys. Spells.function lexeme lexeme (row_of over_comma r d (omega arith) (token R_PAREN ∷ e.stretch.before (close ys))) lexeme
      (expr_of 0 e d (omega arith) (close ys) at_paren))

  pub if : {a e d : ℕ} {σs : List Sort} {c t fs : Trees} → Has Sort.expression d σs → Operand prefix s c → Operand prefix s t → All prefix s σs fs
      → Operand prefix s (tree IF (span a e ∷ byte d ∷ []) (c ⊕ t ⊕ fs))
  if Has.no c t All.none =
      basic_parens (suc (c.levels + t.levels)) (tok IF_KW tt ⟫ c.stretch ⟫ tok THEN_KW tt ⟫ t.stretch)
      (λ d le ys.
      Spells.if lexeme (expr_of 0 c d (omega arith) (token THEN_KW ∷ t.stretch.before (close ys)) at_then) lexeme (expr_of 0 t d (omega arith) (close ys) at_paren)
      (Spells.perhaps_not (no_option ELSE_KW R_PAREN tt)))
  if Has.yes c t (All.more f All.none) =
      basic_parens (suc (c.levels + t.levels + f.levels)) (tok IF_KW tt ⟫ c.stretch ⟫ tok THEN_KW tt ⟫ t.stretch ⟫ tok ELSE_KW tt ⟫ f.stretch)
      (λ d le ys.
      let end = token ELSE_KW ∷ f.stretch.before (close ys) in
      Spells.if lexeme (expr_of 0 c d (omega arith) (token THEN_KW ∷ t.stretch.before end) at_then) lexeme (expr_of 0 t d (omega arith) end at_else)
      (Spells.perhaps_so lexeme (expr_of 0 f d (omega arith) (close ys) at_paren)))

  pub part : {w b a e : ℕ} {σs : List Sort} {ts : Trees} → Part Spans.free w b a e σs → All prefix s σs ts → Prints prefix s (C.part w b) (Closes s) ts
  part (Part.absent h) All.none = record { stretch = empty; levels = 0; spell = λ d le ys c. Spells.part_not }
  part (Part.present h) (All.more e All.none) =
      record { stretch = e.stretch; levels = suc e.levels; spell = λ d le ys c. Spells.part_so (expr_of 0 e d (omega arith) ys c) }

  pub slice : {b₁ b₂ b₃ i₁ j₁ i₂ j₂ i₃ j₃ : ℕ} {t t₁ t₂ t₃ : Trees} → Operand prefix s t → Prints prefix s (C.part 1 b₁) (Closes s) t₁
      → Prints prefix s (C.part 2 b₂) (Closes s) t₂ → Prints prefix s (C.part 4 b₃) (Closes s) t₃
      → Operand prefix s (tree SLICE (byte (b₁ + b₂ + b₃) ∷ span i₁ j₁ ∷ span i₂ j₂ ∷ span i₃ j₃ ∷ []) (t ⊕ t₁ ⊕ t₂ ⊕ t₃))
  slice e p q r =
      chain_parens (suc (e.levels + p.levels + q.levels + r.levels))
      (e.stretch ⟫ tok L_BRACK tt ⟫ p.stretch ⟫ tok COLON tt ⟫ q.stretch ⟫ tok COLON tt ⟫ r.stretch ⟫ tok R_BRACK tt)
      (λ d le ys.
      let z = token R_BRACK ∷ close ys in
      let y = token COLON ∷ r.stretch.before z in
      let x = token COLON ∷ q.stretch.before y in
      Spells.slice_of (Spells.bare (e.spell d (omega arith) (token L_BRACK ∷ p.stretch.before x) tt)) lexeme (p.spell d (omega arith) x at_colon) lexeme
      (q.spell d (omega arith) y at_colon)
      (Spells.step_so lexeme (r.spell d (omega arith) z at_bracket)) lexeme)
