-- What is claimed of a tree of each sort: that it can be written. Rows of such trees, split as the table wants them.
-- Assumes nothing.
use mathlib.Core.Path.{◌≡◌, subst}
use mathlib.Core.List.{List, [], ◌∷◌, ◌++◌}
use Prim.Native.Nat.{ℕ, zero, suc, ◌+◌}
use native.Mathlib.Omega.{arith}
use Rattle.lexemes.specs.Kinds.{R_PAREN, LOCAL_KW}
use Rattle.grammar.specs.Tags.{NAME_PATTERN}
use Rattle.grammar.specs.Trees.{Field, span, text, Trees, node, tree, ◌⊕◌, count}
use Rattle.grammar.specs.Trees as trees
use Rattle.grammar.specs.Lexemes.{said}
use Rattle.grammar.specs.Words.{NameText}
use Rattle.grammar.specs.Spells.{lexeme, worded, Spells, Category as C}
use Rattle.grammar.specs.Records.{Sort, Is, Fits, times}
use Rattle.grammar.proofs.Stretches.{◌⟫◌, token, tok, named}
use Rattle.grammar.proofs.Prints.{Any, Row, no_more, one_more, Prints, Operand, Item, Guard, Clause, a_for, an_if, chain_parens, all_clauses}

-- A name pattern, known as such: a function's name is written without being one.
pub data NamePattern : Trees → Type 0 where
  a_name : {a e : ℕ} {w : List ℕ} → NameText w → NamePattern (tree NAME_PATTERN (span a e ∷ text w ∷ []) trees.none)

module _ (prefix s : ℕ) where
  -- Expressions, strings, index parts, objects and patterns stand anywhere; what may end in an expression stands before what ends one.
  abbrev pub Writes : Sort → Trees → Type 0
  Writes Sort.expression t = Operand prefix s t
  Writes Sort.string t = Prints prefix s C.string Any t
  Writes Sort.run t = Prints prefix s (C.chain 0) Any t
  Writes Sort.object t = Prints prefix s C.object Any t
  Writes Sort.named t = Item prefix s C.named_argument t
  Writes Sort.param t = Item prefix s C.parameter t
  Writes Sort.bind t = Item prefix s C.bind t
  Writes Sort.field t = Item prefix s C.field t
  Writes Sort.assertion t = Item prefix s C.assertion t
  Writes Sort.member t = Item prefix s C.member t
  Writes Sort.iteration t = Item prefix s C.iteration t
  Writes Sort.if_clause t = Guard prefix s t
  Writes Sort.clause t = Clause prefix s t
  Writes Sort.pattern t = Prints prefix s C.pattern Any t
  Writes Sort.name_pattern t = NamePattern t
  Writes Sort.pattern_field t = Item prefix s C.pattern_field t

  -- Trees of these sorts, each written.
  pub data All : List Sort → Trees → Type 0 where
    none : All [] trees.none
    more : {σ : Sort} {σs : List Sort} {tag : ℕ} {fs : List Field} {cs ts : Trees} → Writes σ (tree tag fs cs) → All σs ts → All (σ ∷ σs) (node tag fs cs ts)

  -- The same in two parts; so many of one sort; so many clauses.
  pub data Split (ws us : List Sort) : Trees → Type 0 where
    split : {ts vs : Trees} → All ws ts → All us vs → Split ws us (ts ⊕ vs)

  pub data Many (σ : Sort) : ℕ → Trees → Type 0 where
    many : {ts : Trees} → Row (Writes σ) ts → Many σ (count ts) ts

  pub data Clausal : ℕ → Trees → Type 0 where
    clausal : {ts : Trees} → Item prefix s C.clauses ts → Clausal (count ts) ts

module _ {prefix s : ℕ} where
  pub split_at : (ws us : List Sort) {cs : Trees} → All prefix s (ws ++ us) cs → Split prefix s ws us cs
  unfolding ◌⊕◌
  split_at [] us a = split All.none a
  split_at (w ∷ ws) us (All.more {tag = tag} {fs = fs} {cs = cs} p a) = by (split_at ws us a)
    where
      by : {ts : Trees} → Split prefix s ws us ts → Split prefix s (w ∷ ws) us (node tag fs cs ts)
      by (split x y) = split (All.more p x) y

  pub many_of : (n : ℕ) (σ : Sort) {ts : Trees} → All prefix s (times n σ) ts → Many prefix s σ n ts
  unfolding times count
  many_of zero σ All.none = many no_more
  many_of (suc n) σ (All.more {tag = tag} {fs = fs} {cs = cs} p a) = by (many_of n σ a)
    where
      by : {m : ℕ} {ts : Trees} → Many prefix s σ m ts → Many prefix s σ (suc m) (node tag fs cs ts)
      by (many r) = many (one_more p r)

  pub clausal_of : (n : ℕ) {ts : Trees} → All prefix s (Sort.iteration ∷ times n Sort.clause) ts → Clausal prefix s (1 + n) ts
  unfolding count
  clausal_of n (All.more {tag = tag} {fs = fs} {cs = cs} p a) = by (many_of n Sort.clause a)
    where
      by : {m : ℕ} {ts : Trees} → Many prefix s Sort.clause m ts → Clausal prefix s (1 + m) (node tag fs cs ts)
      by (many {ts} r) =
          let e : suc (count ts) ≡ 1 + count ts = omega arith in subst (λ (k : ℕ). Clausal prefix s k (node tag fs cs ts)) e (clausal (all_clauses p r))

  -- A name where any pattern may stand.
  pub name_pattern : {t : Trees} → NamePattern t → Prints prefix s C.pattern Any t
  unfolding said
  name_pattern (a_name {w = w} h) = record { stretch = named w h; levels = 0; spell = λ d le ys f. Spells.name_pattern worded }

module _ (prefix s : ℕ) where
  -- What is written as one sort is written as a wider one.
  pub widened : {σ τ : Sort} (t : Trees) → Is σ τ → Writes prefix s σ t → Writes prefix s τ t
  widened t Is.itself p = p
  widened t Is.a_string p = record { stretch = p.stretch; levels = p.levels; spell = λ d le ys f. Spells.literal (p.spell d le ys tt) }
  widened t Is.a_run p = chain_parens p.levels p.stretch (λ d le ys. p.spell d le (token R_PAREN ∷ ys) tt)
  widened t Is.an_object p = record { stretch = p.stretch; levels = p.levels; spell = λ d le ys f. Spells.an_object (p.spell d le ys tt) }
  widened t Is.a_local p =
      record {
        stretch = tok LOCAL_KW tt ⟫ p.stretch;
        levels = p.levels;
        spell = λ d le ys f. Spells.local_member (Spells.a_local lexeme (p.spell d le ys f));
      }
  widened t Is.a_field p = record { stretch = p.stretch; levels = p.levels; spell = λ d le ys f. Spells.field_member (p.spell d le ys f) }
  widened t Is.an_assertion p = record { stretch = p.stretch; levels = p.levels; spell = λ d le ys f. Spells.assert_member (p.spell d le ys f) }
  widened t Is.an_iteration p = a_for p
  widened t Is.an_if p = an_if p
  widened t Is.a_name p = name_pattern p

  pub fit : {σs ws : List Sort} {ts : Trees} → Fits σs ws → All prefix s σs ts → All prefix s ws ts
  fit Fits.none All.none = All.none
  fit (Fits.more i f) (All.more {tag = tag} {fs = fs} {cs = cs} p a) = All.more (widened (tree tag fs cs) i p) (fit f a)
