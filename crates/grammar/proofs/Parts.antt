-- Each record that is a part of an expression is written: arguments, binds, patterns, parameters, fields, asserts, clauses.
-- Assumes nothing.
use mathlib.Core.Path.{sym, subst}
use mathlib.Core.List.{List, [], ◌∷◌}
use Prim.Native.Nat.{ℕ, suc, ◌+◌}
use native.Mathlib.Omega.{arith}
use lib.Dec.{T}
use Rattle.lexemes.specs.Kinds.{L_BRACK, R_BRACK, L_PAREN, R_PAREN, L_BRACE, R_BRACE, COLON, DOTDOTDOT, COMMA, ASSIGN, QUESTION_MARK, PLUS, IDENT}
use Rattle.lexemes.specs.Kinds.{IN_KW, ASSERT_KW}
use Rattle.grammar.specs.Tags.{NAMED_ARGUMENT, BIND, SKIP, ARRAY_PATTERN, OBJECT_PATTERN, PATTERN_FIELD, PARAMETER, FIELD, ASSERT, FOR}
use Rattle.grammar.specs.Tags.{OBJECT_ITERATION}
use Rattle.grammar.specs.Trees.{Field, byte, number, span, text, Trees, node, tree, ◌⊕◌}
use Rattle.grammar.specs.Trees as trees
use Rattle.grammar.specs.Lexemes.{Lexeme, said, kind_of}
use Rattle.grammar.specs.Productions.{exp_destruct, exp_object_iteration}
use Rattle.grammar.specs.Reading.{has}
use Rattle.grammar.specs.Words.{NameText}
use Rattle.grammar.specs.Spells.{lexeme, worded, greedily, Perhaps, Open, Spells}
use Rattle.grammar.specs.Spells as spells
use Rattle.grammar.specs.Spells.{Category as C}
use Rattle.grammar.specs.Records.{Sort, Has, Name}
use Rattle.grammar.proofs.Stretches.{Stretch, ◌⟫◌, token, tok, named, no_option, at_bracket, at_colon, over_comma}
use Rattle.grammar.proofs.Prints.{Any, Flagged, Colonned, Prints, Operand, Item, deeper, expr_of, boxed, commas, depth, each_of, row_of}
use Rattle.grammar.proofs.Prints.{pattern_first}
use Rattle.grammar.proofs.Writes.{NamePattern, a_name, Writes, All, Many, many}

-- What a pattern leaves over, dropped or kept, where no name follows.
pub record Left (s r : ℕ) (w : List ℕ) : Type 0 where
  pub stretch : Stretch
  pub spell : (ys : List Lexeme) → greedily s (Open.optional IDENT) (kind_of ys) → spells.Rest (greedily s) r w (stretch.before ys) ys

pub drops : {s : ℕ} → Left s 1 []
drops = record { stretch = tok DOTDOTDOT tt; spell = λ ys e. spells.Rest.dropped lexeme e }

pub keeps : {s : ℕ} {w : List ℕ} → NameText w → Left s 2 w
unfolding said
keeps {w = w} h = record { stretch = tok DOTDOTDOT tt ⟫ named w h; spell = λ ys e. spells.Rest.kept lexeme worded }

module _ {prefix s : ℕ} where
  -- ── 19 and 24 ───────────────────────────────────────────────────────────────────────────────────

  pub named_argument : {w : List ℕ} {t : Trees} → NameText w → Operand prefix s t → Item prefix s C.named_argument (tree NAMED_ARGUMENT (text w ∷ []) t)
  unfolding said
  named_argument {w} h e =
      record {
        stretch = named w h ⟫ tok ASSIGN tt ⟫ e.stretch;
        levels = suc e.levels;
        spell = λ d le ys o. Spells.an_argument worded lexeme
            (expr_of 0 e d (omega arith) ys o.closes);
      }

  pub bind_value : {p t : Trees} → Prints prefix s C.pattern Any p → Operand prefix s t → Item prefix s C.bind (tree BIND (byte 0 ∷ number 0 ∷ []) (p ⊕ t))
  bind_value p e =
      record {
        stretch = p.stretch ⟫ tok ASSIGN tt ⟫ e.stretch;
        levels = suc (p.levels + e.levels);
        spell =
            λ d le ys o. Spells.bind_value (p.spell d (omega arith) (token ASSIGN ∷ e.stretch.before ys) tt) lexeme
            (expr_of 0 e d (omega arith) ys o.closes);
      }

  pub bind_function : {n tag : ℕ} {fs : List Field} {cs ps t : Trees} → NamePattern (tree tag fs cs) → Many prefix s Sort.param n ps → Operand prefix s t
      → Item prefix s C.bind (tree BIND (byte 1 ∷ number n ∷ []) (node tag fs cs (ps ⊕ t)))
  unfolding said
  bind_function (a_name {w = w} h) (many r) e =
      record {
        stretch = named w h ⟫ tok L_PAREN tt ⟫ commas r ⟫ tok R_PAREN tt ⟫ tok ASSIGN tt ⟫ e.stretch;
        levels = suc (depth r + e.levels);
        spell = λ d le ys o.
            Spells.bind_function worded lexeme (row_of over_comma r d (omega arith) (token R_PAREN ∷ token ASSIGN ∷ e.stretch.before ys)) lexeme lexeme
            (expr_of 0 e d (omega arith) ys o.closes);
      }

  -- ── Patterns: 26 to 29 ──────────────────────────────────────────────────────────────────────────

  pub skip : T (has s exp_destruct) → Prints prefix s C.pattern Any (tree SKIP [] trees.none)
  skip on = record { stretch = tok QUESTION_MARK tt; levels = 0; spell = λ d le ys f. Spells.skip on lexeme }

  pub array_pattern : {n : ℕ} {ps : Trees} → T (has s exp_destruct) → Many prefix s Sort.pattern n ps
      → Prints prefix s C.pattern Any (tree ARRAY_PATTERN (number n ∷ byte 0 ∷ number 0 ∷ text [] ∷ []) ps)
  array_pattern on (many r) =
      deeper (depth r) (tok L_BRACK tt ⟫ commas r ⟫ tok R_BRACK tt)
      (λ d le ys f. Spells.array_pattern on lexeme (row_of {F = Any} tt r d (omega arith) (token R_BRACK ∷ ys)) lexeme)

  pub array_pattern_rest : {r n m : ℕ} {w : List ℕ} {ps qs : Trees} → T (has s exp_destruct) → Left s r w → Many prefix s Sort.pattern n ps
      → Many prefix s Sort.pattern m qs
      → Prints prefix s C.pattern Any (tree ARRAY_PATTERN (number n ∷ byte r ∷ number m ∷ text w ∷ []) (ps ⊕ qs))
  array_pattern_rest on l (many a) (many b) =
      deeper (depth a + depth b) (tok L_BRACK tt ⟫ commas a ⟫ l.stretch ⟫ tok COMMA tt ⟫ commas b ⟫ tok R_BRACK tt)
      (λ d le ys f.
      let z = token R_BRACK ∷ ys in
      let y = token COMMA ∷ (commas b).before z in
      Spells.array_pattern_rest on lexeme (each_of {F = Any} tt a d (omega arith) (l.stretch.before y)) (l.spell y (no_option IDENT COMMA tt))
      (Spells.more_row lexeme (row_of {F = Any} tt b d (omega arith) z)) lexeme)

  pub object_pattern : {n : ℕ} {ps : Trees} → T (has s exp_destruct) → Many prefix s Sort.pattern_field n ps
      → Prints prefix s C.pattern Any (tree OBJECT_PATTERN (number n ∷ byte 0 ∷ text [] ∷ []) ps)
  object_pattern on (many r) =
      deeper (depth r) (tok L_BRACE tt ⟫ commas r ⟫ tok R_BRACE tt)
      (λ d le ys f. Spells.object_pattern on lexeme (row_of over_comma r d (omega arith) (token R_BRACE ∷ ys)) lexeme)

  pub object_pattern_rest : {r n : ℕ} {w : List ℕ} {ps : Trees} → T (has s exp_destruct) → Left s r w → Many prefix s Sort.pattern_field n ps
      → Prints prefix s C.pattern Any (tree OBJECT_PATTERN (number n ∷ byte r ∷ text w ∷ []) ps)
  object_pattern_rest on l (many a) =
      deeper (depth a) (tok L_BRACE tt ⟫ commas a ⟫ l.stretch ⟫ tok R_BRACE tt)
      (λ d le ys f.
      let z = token R_BRACE ∷ ys in
      Spells.object_pattern_rest on lexeme (each_of over_comma a d (omega arith) (l.stretch.before z)) (l.spell z (no_option IDENT R_BRACE tt))
      (Perhaps.no (no_option COMMA R_BRACE tt)) lexeme)

  pub pattern_field : {h a e : ℕ} {w : List ℕ} {σs : List Sort} {cs : Trees} → Has Sort.pattern h σs → NameText w → All prefix s σs cs
      → Item prefix s C.pattern_field (tree PATTERN_FIELD (byte h ∷ byte 0 ∷ span a e ∷ text w ∷ []) cs)
  unfolding said ◌⊕◌
  pattern_field {w = w} Has.no n All.none =
      record {
        stretch = named w n;
        levels = 0;
        spell = λ d le ys o. Spells.a_pattern_field {p = trees.none} {t = trees.none} worded
            (Spells.perhaps_not o.colon) (Spells.perhaps_not o.assign);
      }
  pattern_field {w = w} Has.yes n (All.more {tag = tag} {fs = fs} {cs = cs} p All.none) =
      record {
        stretch = named w n ⟫ tok COLON tt ⟫ p.stretch;
        levels = suc p.levels;
        spell =
            λ d le ys o. Spells.a_pattern_field {p = tree tag fs cs} {t = trees.none} worded (Spells.perhaps_so lexeme (p.spell d (omega arith) ys tt))
            (Spells.perhaps_not o.assign);
      }

  pub pattern_default : {h a e : ℕ} {w : List ℕ} {σs : List Sort} {cs t : Trees} → Has Sort.pattern h σs → NameText w → All prefix s σs cs → Operand prefix s t
      → Item prefix s C.pattern_field (tree PATTERN_FIELD (byte h ∷ byte 1 ∷ span a e ∷ text w ∷ []) (cs ⊕ t))
  unfolding said
  pattern_default {w = w} Has.no n All.none e =
      record {
        stretch = named w n ⟫ tok ASSIGN tt ⟫ e.stretch;
        levels = suc e.levels;
        spell =
            λ d le ys o. Spells.a_pattern_field worded (Spells.perhaps_not (no_option COLON ASSIGN tt))
            (Spells.perhaps_so lexeme (expr_of 0 e d (omega arith) ys o.closes));
      }
  pattern_default {w = w} Has.yes n (All.more p All.none) e =
      record {
        stretch = named w n ⟫ tok COLON tt ⟫ p.stretch ⟫ tok ASSIGN tt ⟫ e.stretch;
        levels = suc (p.levels + e.levels);
        spell = λ d le ys o.
            Spells.a_pattern_field worded (Spells.perhaps_so lexeme (p.spell d (omega arith) (token ASSIGN ∷ e.stretch.before ys) tt))
            (Spells.perhaps_so lexeme (expr_of 0 e d (omega arith) ys o.closes));
      }

  -- ── 30 to 32 ────────────────────────────────────────────────────────────────────────────────────

  pub param : {d : ℕ} {σs : List Sort} {p cs : Trees} → Has Sort.expression d σs → Prints prefix s C.pattern Any p → All prefix s σs cs
      → Item prefix s C.parameter (tree PARAMETER (byte d ∷ []) (p ⊕ cs))
  param Has.no p All.none =
      record {
        stretch = p.stretch;
        levels = p.levels;
        spell = λ d le ys o. Spells.a_parameter (p.spell d le ys tt) (Spells.perhaps_not o.assign);
      }
  param Has.yes p (All.more e All.none) =
      record {
        stretch = p.stretch ⟫ tok ASSIGN tt ⟫ e.stretch;
        levels = suc (p.levels + e.levels);
        spell =
            λ d le ys o. Spells.a_parameter (p.spell d (omega arith) (token ASSIGN ∷ e.stretch.before ys) tt)
            (Spells.perhaps_so lexeme (expr_of 0 e d (omega arith) ys o.closes));
      }

  -- A field's value stands in parentheses: so no colon more is seen.
  pub field_value : {a e c p v : ℕ} {n t : Trees} → Prints prefix s (C.name c) Any n → Flagged s PLUS p → Colonned s v → Operand prefix s t
      → Item prefix s C.field (tree FIELD (span a e ∷ byte c ∷ byte p ∷ byte 0 ∷ number 0 ∷ byte v ∷ []) (n ⊕ t))
  field_value n p v e =
      record {
        stretch = n.stretch ⟫ p.stretch ⟫ v.stretch ⟫ (boxed e).stretch;
        levels = suc (n.levels + (boxed e).levels);
        spell = λ d le ys o.
            let z = (boxed e).stretch.before ys in
            let y = v.stretch.before z in
            let no_plus = subst (λ (k : ℕ). greedily s (Open.optional PLUS) k) (sym (v.first z)) (no_option PLUS COLON tt) in
            Spells.a_field (n.spell d (omega arith) (p.stretch.before y) tt) (p.spell y no_plus) (v.spell z (no_option COLON L_PAREN tt))
            (expr_of 0 (boxed e) d (omega arith) ys o.closes);
      }

  pub field_method : {a e c v m : ℕ} {n ps t : Trees} → Prints prefix s (C.name c) Any n → Many prefix s Sort.param m ps → Colonned s v → Operand prefix s t
      → Item prefix s C.field (tree FIELD (span a e ∷ byte c ∷ byte 0 ∷ byte 1 ∷ number m ∷ byte v ∷ []) (n ⊕ ps ⊕ t))
  field_method n (many r) v e =
      record {
        stretch = n.stretch ⟫ tok L_PAREN tt ⟫ commas r ⟫ tok R_PAREN tt ⟫ v.stretch ⟫ (boxed e).stretch;
        levels = suc (n.levels + depth r + (boxed e).levels);
        spell = λ d le ys o.
            let z = (boxed e).stretch.before ys in
            let y = token R_PAREN ∷ v.stretch.before z in
            Spells.a_method (n.spell d (omega arith) (token L_PAREN ∷ (commas r).before y) tt) lexeme (row_of over_comma r d (omega arith) y) lexeme
            (v.spell z (no_option COLON L_PAREN tt))
            (expr_of 0 (boxed e) d (omega arith) ys o.closes);
      }

  pub asserted : {a e d : ℕ} {σs : List Sort} {t cs : Trees} → Has Sort.expression d σs → Operand prefix s t → All prefix s σs cs
      → Item prefix s C.assertion (tree ASSERT (span a e ∷ byte d ∷ []) (t ⊕ cs))
  asserted Has.no e All.none =
      record {
        stretch = tok ASSERT_KW tt ⟫ e.stretch;
        levels = suc e.levels;
        spell = λ d le ys o. Spells.asserted lexeme
            (expr_of 0 e d (omega arith) ys o.closes) (Spells.perhaps_not o.colon);
      }
  asserted Has.yes e (All.more m All.none) =
      record {
        stretch = tok ASSERT_KW tt ⟫ e.stretch ⟫ tok COLON tt ⟫ m.stretch;
        levels = suc (e.levels + m.levels);
        spell =
            λ d le ys o. Spells.asserted lexeme (expr_of 0 e d (omega arith) (token COLON ∷ m.stretch.before ys) at_colon)
            (Spells.perhaps_so lexeme (expr_of 0 m d (omega arith) ys o.closes));
      }

  -- ── Clauses: 33 to 35 ───────────────────────────────────────────────────────────────────────────

  pub iteration : {p t : Trees} → Prints prefix s C.pattern Any p → Operand prefix s t → Item prefix s C.iteration (tree FOR [] (p ⊕ t))
  iteration p e =
      record {
        stretch = p.stretch ⟫ tok IN_KW tt ⟫ e.stretch;
        levels = suc (p.levels + e.levels);
        spell = λ d le ys o. Spells.each_of (p.spell d (omega arith) (token IN_KW ∷ e.stretch.before ys) tt) lexeme (expr_of 0 e d (omega arith) ys o.closes);
      }

  pub object_iteration : {v : ℕ} {w : List ℕ} {p t : Trees} → T (has s exp_object_iteration) → NameText w → Colonned s v → Prints prefix s C.pattern Any p
      → Operand prefix s t
      → Item prefix s C.iteration (tree OBJECT_ITERATION (byte v ∷ text w ∷ []) (p ⊕ t))
  unfolding said
  object_iteration {w = w} on n v p e =
      deeper (p.levels + e.levels) (tok L_BRACK tt ⟫ named w n ⟫ tok R_BRACK tt ⟫ v.stretch ⟫ p.stretch ⟫ tok IN_KW tt ⟫ e.stretch)
      (λ d le ys o.
      let z = token IN_KW ∷ e.stretch.before ys in
      let q = p.spell (suc d) (omega arith) z tt in
      Spells.each_field_of on lexeme worded lexeme (v.spell (p.stretch.before z) (pattern_first q)) q lexeme (expr_of 0 e (suc d) (omega arith) ys o.closes))

module _ (prefix s : ℕ) where
  -- A field's name: as a literal, or in brackets.
  pub field_name : {c : ℕ} {σ : Sort} (t : Trees) → Name c σ → Writes prefix s σ t → Prints prefix s (C.name c) Any t
  field_name t Name.fixed p = record { stretch = p.stretch; levels = suc p.levels; spell = λ d le ys f. Spells.name_literal (p.spell d (omega arith) ys tt) }
  field_name t Name.computed e =
      record {
        stretch = tok L_BRACK tt ⟫ e.stretch ⟫ tok R_BRACK tt;
        levels = suc e.levels;
        spell = λ d le ys f. Spells.name_computed lexeme
            (expr_of 0 e d (omega arith) (token R_BRACK ∷ ys) at_bracket) lexeme;
      }
