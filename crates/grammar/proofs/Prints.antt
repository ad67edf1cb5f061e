-- What it is to write a tree as a category, and how: operands in parentheses, rows with a comma behind each. Whatever the levels are, if enough.
-- Assumes nothing.
use mathlib.Core.Path.{◌≡◌, refl, sym, subst}
use mathlib.Core.List.{List, [], ◌∷◌}
use Prim.Native.Nat.{ℕ, zero, suc, ◌+◌, ◌≤◌}
use native.Mathlib.Omega.{arith}
use lib.Dec.{T}
use Rattle.lexemes.specs.Kinds.{L_PAREN, R_PAREN, COLON, COMMA, FOR_KW, IF_KW}
use Rattle.grammar.specs.Tags.{IF_CLAUSE}
use Rattle.grammar.specs.Trees.{Field, span, Trees, node, tree, ◌⊕◌}
use Rattle.grammar.specs.Trees as trees
use Rattle.grammar.specs.Lexemes.{Lexeme, kind_of}
use Rattle.grammar.specs.Spells.{lexeme, worded, greedily, Perhaps, Colons, Open, Spells, Category as C}
use Rattle.grammar.proofs.ImageLaws.{row_end, row_assoc}
use Rattle.grammar.proofs.Possible.{wordless}
use Rattle.grammar.proofs.Stretches.{Stretch, ◌⟫◌, empty, token, tok, no_option, Closes, Over, at_paren, over_for, over_if}

-- Wherever it stands.
abbrev pub Any : ℕ → Type 0
Any k = Unit

-- A row of trees, each of which is a P.
pub data Row (P : Trees → Type 0) : Trees → Type 0 where
  no_more : Row P trees.none
  one_more : {tag : ℕ} {fs : List Field} {cs ts : Trees} → P (tree tag fs cs) → Row P ts → Row P (node tag fs cs ts)

pub row-map : {P Q : Trees → Type 0} → ((t : Trees) → P t → Q t) → {ts : Trees} → Row P ts → Row Q ts
row-map f no_more = no_more
row-map f (one_more {tag} {fs} {cs} p r) = one_more (f (tree tag fs cs) p) (row-map f r)

-- ── Flags and colons ──────────────────────────────────────────────────────────────────────────────

-- A lexeme of kind k as the flag tells, where not another one follows.
pub record Flagged (s k b : ℕ) : Type 0 where
  pub stretch : Stretch
  pub spell : (ys : List Lexeme) → greedily s (Open.optional k) (kind_of ys) → Perhaps (greedily s) k b (stretch.before ys) ys

-- As many colons as a visibility has, where not another one follows; a colon stands first.
pub record Colonned (s v : ℕ) : Type 0 where
  pub stretch : Stretch
  pub spell : (ys : List Lexeme) → greedily s (Open.optional COLON) (kind_of ys) → Colons (greedily s) v (stretch.before ys) ys
  pub first : (ys : List Lexeme) → kind_of (stretch.before ys) ≡ COLON

pub flagged : {s : ℕ} (k : ℕ) → T (wordless k) → (b : ℕ) → b ≤ 1 → Flagged s k b
flagged k h zero le = record { stretch = empty; spell = λ ys e. Perhaps.no e }
flagged k h (suc zero) le = record { stretch = tok k h; spell = λ ys e. Perhaps.yes lexeme }
flagged k h (suc (suc b)) le = absurd (omega arith)

pub colonned : {s : ℕ} (v : ℕ) → v ≤ 2 → Colonned s v
colonned zero le = record { stretch = tok COLON tt; spell = λ ys e. Colons.one lexeme e; first = λ ys. refl }
colonned (suc zero) le = record { stretch = tok COLON tt ⟫ tok COLON tt; spell = λ ys e. Colons.two lexeme lexeme e; first = λ ys. refl }
colonned (suc (suc zero)) le =
    record { stretch = tok COLON tt ⟫ tok COLON tt ⟫ tok COLON tt; spell = λ ys e. Colons.three lexeme lexeme lexeme; first = λ ys. refl }
colonned (suc (suc (suc v))) le = absurd (omega arith)

module _ (prefix s : ℕ) where
  -- t is written by a stretch: as an A, within so many levels or more, wherever F says that it may stand.
  pub record Prints (A : C) (F : ℕ → Type 0) (t : Trees) : Type 0 where
    pub stretch : Stretch
    pub levels : ℕ
    pub spell : (d : ℕ) → levels ≤ d → (ys : List Lexeme) → F (kind_of ys) → Spells prefix s (greedily s) d A (stretch.before ys) t ys

  -- An expression, written so that anything may follow; an A, which may end in one.
  abbrev pub Operand : Trees → Type 0
  Operand t = Prints C.basic Any t

  abbrev pub Item : C → Trees → Type 0
  Item A t = Prints A (Over s) t

  -- An if clause; a clause. Both without their keyword.
  pub data Guard : Trees → Type 0 where
    a_guard : (a e : ℕ) {t : Trees} → Operand t → Guard (tree IF_CLAUSE (span a e ∷ []) t)

  pub data Clause (t : Trees) : Type 0 where
    a_for : Item C.iteration t → Clause t
    an_if : Guard t → Clause t

module _ {prefix s : ℕ} where
  -- What counts one level.
  pub deeper : {A : C} {F : ℕ → Type 0} {t : Trees} (n : ℕ) (a : Stretch)
      → ((d : ℕ) → n ≤ d → (ys : List Lexeme) → F (kind_of ys) → Spells prefix s (greedily s) (suc d) A (a.before ys) t ys) → Prints prefix s A F t
  deeper {A} {F} {t} n a h = record { stretch = a; levels = suc n; spell = by }
    where
      by : (d : ℕ) → suc n ≤ d → (ys : List Lexeme) → F (kind_of ys) → Spells prefix s (greedily s) d A (a.before ys) t ys
      by zero le ys f = absurd (omega arith)
      by (suc d) le ys f = h d (omega arith) ys f

  -- ── Expressions ─────────────────────────────────────────────────────────────────────────────────

  -- An operand of whatever level of binding.
  pub expr_of : {t : Trees} (m : ℕ) (p : Operand prefix s t) (d : ℕ) → suc p.levels ≤ d → (ys : List Lexeme) → Closes s (kind_of ys)
      → Spells prefix s (greedily s) d (C.expr m) (p.stretch.before ys) t ys
  expr_of m p zero le ys c = absurd (omega arith)
  expr_of m p (suc d) le ys c = Spells.whole (Spells.operand (Spells.whole_chain (Spells.bare (p.spell d (omega arith) ys tt)) c.suffix)) (c.operator m)

  pub an_expr : {t : Trees} → Operand prefix s t → Prints prefix s (C.expr 0) (Closes s) t
  an_expr p = record { stretch = p.stretch; levels = suc p.levels; spell = λ d le ys c. expr_of 0 p d le ys c }

  -- In parentheses: an operation, a chain of suffixes, a form that goes on as far as it can.
  pub operation_parens : {t : Trees} (n : ℕ) (a : Stretch)
      → ((d : ℕ) → n ≤ d → (ys : List Lexeme) → Spells prefix s (greedily s) d (C.operation 0) (a.before (token R_PAREN ∷ ys)) t (token R_PAREN ∷ ys))
      → Operand prefix s t
  operation_parens n a h =
      deeper n (tok L_PAREN tt ⟫ a ⟫ tok R_PAREN tt) (λ d le ys f. Spells.parens lexeme (Spells.whole (h d le ys) (at_paren.operator 0)) lexeme)

  pub chain_parens : {f : ℕ} {t : Trees} (n : ℕ) (a : Stretch)
      → ((d : ℕ) → n ≤ d → (ys : List Lexeme) → Spells prefix s (greedily s) d (C.chain f) (a.before (token R_PAREN ∷ ys)) t (token R_PAREN ∷ ys))
      → Operand prefix s t
  chain_parens n a h = operation_parens n a (λ d le ys. Spells.operand (Spells.whole_chain (h d le ys) at_paren.suffix))

  pub basic_parens : {t : Trees} (n : ℕ) (a : Stretch)
      → ((d : ℕ) → n ≤ d → (ys : List Lexeme) → Spells prefix s (greedily s) d C.basic (a.before (token R_PAREN ∷ ys)) t (token R_PAREN ∷ ys)) → Operand prefix s t
  basic_parens n a h = chain_parens n a (λ d le ys. Spells.bare (h d le ys))

  -- An expression in parentheses.
  abbrev pub boxed : {t : Trees} → Operand prefix s t → Operand prefix s t
  boxed p =
      record {
        stretch = tok L_PAREN tt ⟫ p.stretch ⟫ tok R_PAREN tt;
        levels = suc p.levels;
        spell = λ d le ys f. Spells.parens lexeme (expr_of 0 p d le (token R_PAREN ∷ ys) at_paren) lexeme;
      }

  -- ── Rows ────────────────────────────────────────────────────────────────────────────────────────

  -- Each with its comma; levels that are enough for all.
  abbrev pub commas : {A : C} {F : ℕ → Type 0} {ts : Trees} → Row (Prints prefix s A F) ts → Stretch
  commas no_more = empty
  commas (one_more p r) = p.stretch ⟫ tok COMMA tt ⟫ commas r

  abbrev pub depth : {A : C} {F : ℕ → Type 0} {ts : Trees} → Row (Prints prefix s A F) ts → ℕ
  depth no_more = 0
  depth (one_more p r) = p.levels + depth r

  eachs : {A : C} {F : ℕ → Type 0} {us : Trees} → F COMMA → (r : Row (Prints prefix s A F) us) (d : ℕ) → depth r ≤ d → (xs ys : List Lexeme) (ts : Trees)
      → Spells prefix s (greedily s) d (C.each A) xs ts ((commas r).before ys) → Spells prefix s (greedily s) d (C.each A) xs (ts ⊕ us) ys
  unfolding ◌⊕◌
  eachs {A} f no_more d le xs ys ts x = subst (λ (t : Trees). Spells prefix s (greedily s) d (C.each A) xs t ys) (sym (row_end ts)) x
  eachs {A} f (one_more {tag} {fs} {cs} {ts = us} p r) d le xs ys ts x =
      subst (λ (t : Trees). Spells prefix s (greedily s) d (C.each A) xs t ys) (row_assoc ts (tree tag fs cs) us)
      (eachs f r d (omega arith) xs ys (ts ⊕ tree tag fs cs) (Spells.each_more x (p.spell d (omega arith) (token COMMA ∷ (commas r).before ys) f) lexeme))

  pub each_of : {A : C} {F : ℕ → Type 0} {ts : Trees} → F COMMA → (r : Row (Prints prefix s A F) ts) (d : ℕ) → depth r ≤ d → (ys : List Lexeme)
      → Spells prefix s (greedily s) d (C.each A) ((commas r).before ys) ts ys
  unfolding ◌⊕◌
  each_of f r d le ys = eachs f r d le ((commas r).before ys) ys trees.none Spells.each_none

  pub row_of : {A : C} {F : ℕ → Type 0} {ts : Trees} → F COMMA → (r : Row (Prints prefix s A F) ts) (d : ℕ) → depth r ≤ d → (ys : List Lexeme)
      → Spells prefix s (greedily s) d (C.row A) ((commas r).before ys) ts ys
  row_of f r d le ys = Spells.row_shut (each_of f r d le ys)

  pub exprs : {ts : Trees} → Row (Operand prefix s) ts → Row (Prints prefix s (C.expr 0) (Closes s)) ts
  exprs r = row-map (λ t p. an_expr p) r

  -- ── Clauses ─────────────────────────────────────────────────────────────────────────────────────

  abbrev clause : {t : Trees} → Clause prefix s t → Stretch
  clause (a_for p) = tok FOR_KW tt ⟫ p.stretch
  clause (an_if (a_guard a e p)) = tok IF_KW tt ⟫ p.stretch

  abbrev clause_depth : {t : Trees} → Clause prefix s t → ℕ
  clause_depth (a_for p) = p.levels
  clause_depth (an_if (a_guard a e p)) = suc p.levels

  abbrev clauses : {ts : Trees} → Row (Clause prefix s) ts → Stretch
  clauses no_more = empty
  clauses (one_more c r) = clause c ⟫ clauses r

  abbrev clauses_depth : {ts : Trees} → Row (Clause prefix s) ts → ℕ
  clauses_depth no_more = 0
  clauses_depth (one_more c r) = clause_depth c + clauses_depth r

  -- Clauses before what a clause may stand before.
  over_clauses : {ts : Trees} (r : Row (Clause prefix s) ts) (ys : List Lexeme) → Over s (kind_of ys) → Over s (kind_of ((clauses r).before ys))
  over_clauses no_more ys o = o
  over_clauses (one_more (a_for p) r) ys o = over_for
  over_clauses (one_more (an_if (a_guard a e p)) r) ys o = over_if

  more_clauses : {us : Trees} (r : Row (Clause prefix s) us) (d : ℕ) → clauses_depth r ≤ d → (xs ys : List Lexeme) (ts : Trees) → Over s (kind_of ys)
      → Spells prefix s (greedily s) d C.clauses xs ts ((clauses r).before ys) → Spells prefix s (greedily s) d C.clauses xs (ts ⊕ us) ys
  unfolding ◌⊕◌
  more_clauses no_more d le xs ys ts o x = subst (λ (t : Trees). Spells prefix s (greedily s) d C.clauses xs t ys) (sym (row_end ts)) x
  more_clauses (one_more {tag} {fs} {cs} {ts = us} (a_for p) r) d le xs ys ts o x =
      subst (λ (t : Trees). Spells prefix s (greedily s) d C.clauses xs t ys) (row_assoc ts (tree tag fs cs) us)
      (more_clauses r d (omega arith) xs ys (ts ⊕ tree tag fs cs) o (Spells.for_clause x lexeme
      (p.spell d (omega arith) ((clauses r).before ys) (over_clauses r ys o))))
  more_clauses (one_more {ts = us} (an_if (a_guard a e {t} p)) r) d le xs ys ts o x =
      subst (λ (t : Trees). Spells prefix s (greedily s) d C.clauses xs t ys) (row_assoc ts (tree IF_CLAUSE (span a e ∷ []) t) us)
      (more_clauses r d (omega arith) xs ys (ts ⊕ tree IF_CLAUSE (span a e ∷ []) t) o
      (Spells.if_clause a e x lexeme (expr_of 0 p d (omega arith) ((clauses r).before ys) (over_clauses r ys o).closes)))

  pub all_clauses : {tag : ℕ} {fs : List Field} {cs ts : Trees} → Item prefix s C.iteration (tree tag fs cs) → Row (Clause prefix s) ts
      → Item prefix s C.clauses (node tag fs cs ts)
  unfolding ◌⊕◌
  all_clauses {tag} {fs} {cs} p r =
      record {
        stretch = tok FOR_KW tt ⟫ p.stretch ⟫ clauses r;
        levels = p.levels + clauses_depth r;
        spell = λ d le ys o. more_clauses r d (omega arith) (token FOR_KW ∷ p.stretch.before ((clauses r).before ys)) ys (tree tag fs cs) o
            (Spells.first_clause lexeme (p.spell d (omega arith) ((clauses r).before ys) (over_clauses r ys o)));
      }

  -- A pattern does not begin with a colon; clauses begin with `for`.
  pub pattern_first : {d : ℕ} {xs ys : List Lexeme} {t : Trees} → Spells prefix s (greedily s) d C.pattern xs t ys → greedily s (Open.optional COLON) (kind_of xs)
  pattern_first (Spells.name_pattern worded) = no_option COLON _ tt
  pattern_first (Spells.skip h lexeme) = no_option COLON _ tt
  pattern_first (Spells.array_pattern h lexeme x l) = no_option COLON _ tt
  pattern_first (Spells.array_pattern_rest h lexeme x r y l) = no_option COLON _ tt
  pattern_first (Spells.object_pattern h lexeme x l) = no_option COLON _ tt
  pattern_first (Spells.object_pattern_rest h lexeme x r p l) = no_option COLON _ tt

  pub clauses_first : {d : ℕ} {xs ys : List Lexeme} {ts : Trees} → Spells prefix s (greedily s) d C.clauses xs ts ys → kind_of xs ≡ FOR_KW
  clauses_first (Spells.first_clause lexeme x) = refl
  clauses_first (Spells.for_clause x k y) = clauses_first x
  clauses_first (Spells.if_clause a e x k y) = clauses_first x
