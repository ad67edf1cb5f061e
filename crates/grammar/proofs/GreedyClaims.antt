-- What is claimed of each category (Spells.antt): how lexemes that are spelled so are read, and what the productions may see of them. And
-- one loop for all rows.
-- Assumes nothing.
use mathlib.Core.Path.{◌≡◌, sym, ap}
use mathlib.Core.Bool.{◌&&◌}
use mathlib.Core.List.{List, [], ◌∷◌}
use Prim.Native.Nat.{ℕ, ◌+◌, ◌≤◌}
use native.Mathlib.Omega.{arith}
use lib.Dec.{T, eqb}
use Rattle.lexemes.specs.Kinds.{PLUS, MINUS, NOT, BIT_NOT, L_BRACK, R_BRACK, R_PAREN, L_BRACE, R_BRACE, COLON, SEMI, DOTDOTDOT, COMMA, ASSIGN, IDENT}
use Rattle.lexemes.specs.Kinds.{LOCAL_KW, FOR_KW, ASSERT_KW}
use Rattle.grammar.specs.Tags.{STRING, NAME_PATTERN}
use Rattle.grammar.specs.Trees.{span, text, Trees, none, tree, ◌⊕◌, count}
use Rattle.grammar.specs.Lexemes.{Said, says, said, rest, kind_of}
use Rattle.grammar.specs.Productions.{Phrase, Body, goto}
use Rattle.grammar.specs.Spells.{Lexemes, ◌is◌saying◌then◌, ◌is◌then◌, lexeme, Quoted}
use Rattle.grammar.proofs.ImageLaws.{count-row}
use Rattle.grammar.proofs.Alike.{⊕_none, ⊕_assoc, Alike}
use Rattle.grammar.proofs.GreedySteps.{Under, body_of, Got, Goes, Deeply, stay, next, respell, rebody}
use Rattle.grammar.proofs.LexemeForms.{Not}

-- ── Claims ────────────────────────────────────────────────────────────────────────────────────────

-- No expression begins with these; no basic one with a sign.
abbrev Opens : ℕ → Type 0
Opens k = Not k R_BRACK × Not k COLON × Not k R_PAREN × Not k FOR_KW

abbrev Unsigned : ℕ → Type 0
Unsigned k = Not k PLUS × Not k MINUS × Not k BIT_NOT × Not k NOT

-- A name and `=` are no expression, but for the name.
abbrev Unnamed : Lexemes → Lexemes → Type 0
Unnamed xs ys = T (eqb (kind_of xs) IDENT) → T (eqb (kind_of (rest xs)) ASSIGN) → T (eqb (kind_of ys) ASSIGN)

pub data ExprRead (G : Under) (m : ℕ) (xs : Lexemes) (t : Trees) (ys : Lexemes) : Type 0 where
  an_expr : Opens (kind_of xs) → Unnamed xs ys → count t ≡ 1 → ((p : ℕ) → Deeply G (Phrase.expr m) p xs t ys) → ExprRead G m xs t ys

pub data OperationRead (G : Under) (m : ℕ) (xs : Lexemes) (t : Trees) (ys : Lexemes) : Type 0 where
  an_operation : Opens (kind_of xs) → Unnamed xs ys → count t ≡ 1
      → ((j p : ℕ) → j ≤ m → Goes G (body_of G (Phrase.expr j) p xs 0) none p xs (goto (Phrase.infix_tail j)) t ys) → OperationRead G m xs t ys

pub data SuffixedRead (G : Under) (xs : Lexemes) (t : Trees) (ys : Lexemes) : Type 0 where
  a_suffixed : Opens (kind_of xs) → Unsigned (kind_of xs) → Unnamed xs ys → count t ≡ 1 → ((p : ℕ) → Got G Phrase.suffixed p xs t ys) → SuffixedRead G xs t ys

pub data ChainRead (G : Under) (f : ℕ) (xs : Lexemes) (t : Trees) (ys : Lexemes) : Type 0 where
  a_chain : Opens (kind_of xs) → Unsigned (kind_of xs) → Unnamed xs ys → count t ≡ 1
      → ((p : ℕ) → Goes G (body_of G Phrase.suffixed p xs 0) none p xs (goto (Phrase.suffix f)) t ys) → ChainRead G f xs t ys

pub data BasicRead (G : Under) (xs : Lexemes) (t : Trees) (ys : Lexemes) : Type 0 where
  a_basic : Opens (kind_of xs) → Unsigned (kind_of xs) → Unnamed xs ys → count t ≡ 1 → ((p : ℕ) → Got G Phrase.basic p xs t ys) → BasicRead G xs t ys

pub data ObjectRead (G : Under) (xs : Lexemes) (t : Trees) (ys : Lexemes) : Type 0 where
  in_braces : {x₁ x₂ : Lexemes} → xs is L_BRACE then x₁ → count t ≡ 1 → ((p : ℕ) → Got G Phrase.inside p x₁ t x₂) → x₂ is R_BRACE then ys → ObjectRead G xs t ys

pub data ArgumentRead (G : Under) (xs : Lexemes) (t : Trees) (ys : Lexemes) : Type 0 where
  a_named : {x₁ x₂ : Lexemes} → xs is IDENT then x₁ → x₁ is ASSIGN then x₂ → count t ≡ 1 → ((p : ℕ) → Got G Phrase.named_argument p xs t ys) → ArgumentRead G xs t ys

-- Rows, with a claim of each item.
pub data EachOf (P : Lexemes → Trees → Lexemes → Type 0) : Lexemes → Trees → Lexemes → Type 0 where
  e_none : {xs : Lexemes} → EachOf P xs none xs
  e_more : {xs ys zs ws : Lexemes} {ts t : Trees} → EachOf P xs ts ys → P ys t zs → zs is COMMA then ws → EachOf P xs (ts ⊕ t) ws

pub data RowOf (P : Lexemes → Trees → Lexemes → Type 0) : Lexemes → Trees → Lexemes → Type 0 where
  r_shut : {xs ys : Lexemes} {ts : Trees} → EachOf P xs ts ys → RowOf P xs ts ys
  r_last : {xs ys zs : Lexemes} {ts t : Trees} → EachOf P xs ts ys → P ys t zs → RowOf P xs (ts ⊕ t) zs

pub data MoreOf (P : Lexemes → Trees → Lexemes → Type 0) : Lexemes → Trees → Lexemes → Type 0 where
  m_none : {xs : Lexemes} → MoreOf P xs none xs
  m_row : {xs ys zs : Lexemes} {ts : Trees} → xs is COMMA then ys → RowOf P ys ts zs → MoreOf P xs ts zs

pub data MaybeOf (k : ℕ) (P : Lexemes → Trees → Lexemes → Type 0) : ℕ → Lexemes → Trees → Lexemes → Type 0 where
  m_not : {xs : Lexemes} → Not (kind_of xs) k → MaybeOf k P 0 xs none xs
  m_so : {xs ys zs : Lexemes} {t : Trees} → xs is k then ys → P ys t zs → MaybeOf k P 1 xs t zs

pub data PartRead (G : Under) (w : ℕ) : ℕ → Lexemes → Trees → Lexemes → Type 0 where
  part_none : {xs : Lexemes} → PartRead G w 0 xs none xs
  part-some : {xs ys : Lexemes} {t : Trees} → ExprRead G 0 xs t ys → PartRead G w w xs t ys

pub data StepRead (G : Under) : ℕ → Lexemes → Trees → Lexemes → Type 0 where
  step_none : {xs : Lexemes} → StepRead G 0 xs none xs
  step_some : {b : ℕ} {xs ys zs : Lexemes} {t : Trees} → xs is COLON then ys → PartRead G 4 b ys t zs → StepRead G b xs t zs

pub data ClausesRead (G : Under) (xs : Lexemes) (t : Trees) (ys : Lexemes) : Type 0 where
  some_clauses : T (eqb (kind_of xs) FOR_KW) → ((p : ℕ) → Goes G (body_of G Phrase.clauses p xs 0) none p xs (goto Phrase.more_clauses) t ys) → ClausesRead G xs t ys

pub data ParameterRead (G : Under) (xs : Lexemes) (t : Trees) (ys : Lexemes) : Type 0 where
  a_param : Not (kind_of xs) R_PAREN → ((p : ℕ) → Got G Phrase.param p xs t ys) → ParameterRead G xs t ys

pub data BindRead (G : Under) (xs : Lexemes) (t : Trees) (ys : Lexemes) : Type 0 where
  a_bind : Not (kind_of xs) SEMI → ((p : ℕ) → Got G Phrase.bind p xs t ys) → BindRead G xs t ys

-- No pattern begins with these, but for a name.
abbrev PatternStart : ℕ → Type 0
PatternStart k = Not k IDENT × Not k R_PAREN × Not k SEMI × Not k R_BRACK × Not k DOTDOTDOT

-- What looks like the header of an object iteration is `[k]` and then `:`.
abbrev pub Heads : Lexemes → Lexemes → Type 0
Heads xs ys =
    T (eqb (kind_of xs) L_BRACK && eqb (kind_of (rest xs)) IDENT && eqb (kind_of (rest (rest xs))) R_BRACK
    && eqb (kind_of (rest (rest (rest xs)))) COLON) → T (eqb (kind_of ys) COLON)

pub data PatternRead (G : Under) (xs : Lexemes) : Trees → Lexemes → Type 0 where
  pat_name : {a e : ℕ} {v : Said} {ys : Lexemes} → xs is IDENT saying v then ys → PatternRead G xs (tree NAME_PATTERN (span a e ∷ text (said v) ∷ []) none) ys
  pat_other : {t : Trees} {ys : Lexemes} → PatternStart (kind_of xs) → Heads xs ys → ((p : ℕ) → Got G Phrase.pattern p xs t ys) → PatternRead G xs t ys

pub data EntryRead (G : Under) (xs : Lexemes) (t : Trees) (ys : Lexemes) : Type 0 where
  an_entry_read : {x₁ : Lexemes} → xs is IDENT then x₁ → ((p : ℕ) → Got G Phrase.pattern_field p xs t ys) → EntryRead G xs t ys

-- No field begins with these.
abbrev FieldStart : ℕ → Type 0
FieldStart k = Not k LOCAL_KW × Not k ASSERT_KW × Not k R_BRACE × Not k FOR_KW

pub data FieldRead (G : Under) (xs : Lexemes) (t : Trees) (ys : Lexemes) : Type 0 where
  a_field_read : FieldStart (kind_of xs) → ((p : ℕ) → Got G Phrase.field p xs t ys) → FieldRead G xs t ys

pub data NameComes (G : Under) (c p : ℕ) (xs : Lexemes) (t : Trees) (ys : Lexemes) : Type 0 where
  comes : (a : ℕ) → Goes G (body_of G Phrase.field p xs 0) none p xs (goto (Phrase.field_named c a)) t ys → NameComes G c p xs t ys

pub data NameRead (G : Under) (c : ℕ) (xs : Lexemes) (t : Trees) (ys : Lexemes) : Type 0 where
  a_name_read : FieldStart (kind_of xs) → count t ≡ 1 → ((p : ℕ) → NameComes G c p xs t ys) → NameRead G c xs t ys

pub data AssertionRead (G : Under) (xs : Lexemes) (t : Trees) (ys : Lexemes) : Type 0 where
  an_assertion : {x₁ : Lexemes} → xs is ASSERT_KW then x₁ → ((p : ℕ) → Got G Phrase.assertion p xs t ys) → AssertionRead G xs t ys

pub data LocalRead (G : Under) (xs : Lexemes) (t : Trees) (ys : Lexemes) : Type 0 where
  a_local_read : {x₁ : Lexemes} → xs is LOCAL_KW then x₁ → ((p : ℕ) → Got G Phrase.bind p x₁ t ys) → LocalRead G xs t ys

pub data MemberRead (G : Under) (xs : Lexemes) (t : Trees) (ys : Lexemes) : Type 0 where
  mem_local : LocalRead G xs t ys → MemberRead G xs t ys
  mem_assert : AssertionRead G xs t ys → MemberRead G xs t ys
  mem_field : FieldRead G xs t ys → MemberRead G xs t ys

pub data StringRead (xs : Lexemes) : Trees → Lexemes → Type 0 where
  a_string_read : {k : ℕ} {w : List ℕ} {ys : Lexemes} → Quoted k → xs is k saying says w then ys → StringRead xs (tree STRING (text w ∷ []) none) ys

module _ {G : Under} where
  pub got_expr : {m : ℕ} {xs ys : Lexemes} {t : Trees} → ExprRead G m xs t ys → (p : ℕ) → Deeply G (Phrase.expr m) p xs t ys
  got_expr (an_expr o n c f) p = f p

  pub opens : {m : ℕ} {xs ys : Lexemes} {t : Trees} → ExprRead G m xs t ys → Opens (kind_of xs)
  opens (an_expr o n c f) = o

  pub unnamed : {m : ℕ} {xs ys : Lexemes} {t : Trees} → ExprRead G m xs t ys → Unnamed xs ys
  unnamed (an_expr o n c f) = n

  pub one_expr : {m : ℕ} {xs ys : Lexemes} {t : Trees} → ExprRead G m xs t ys → count t ≡ 1
  one_expr (an_expr o n c f) = c

  -- ── Rows ────────────────────────────────────────────────────────────────────────────────────────

  -- A loop: S₂ takes an item and is S₁, which takes a comma and is S₂; n counts the trees.
  module _ (S₁ S₂ : ℕ → Phrase) (P : Lexemes → Trees → Lexemes → Type 0)
      (take : (xs ys : Lexemes) (t : Trees) → P xs t ys → Not (kind_of ys) ASSIGN → (n p : ℕ) (us t₀ : Trees) → Alike t₀ us → Goes G
      (goto (S₂ n)) us p xs (goto (S₁ (n + count t))) (t₀ ⊕ t) ys)
      (comma : (xs ys : Lexemes) → xs is COMMA then ys → (n p : ℕ) (us t₀ : Trees) → Alike t₀ us → Goes G (goto (S₁ n)) us p xs (goto (S₂ n)) t₀ ys)
    where
      pub each_goes : {xs ys : Lexemes} {ts : Trees} → EachOf P xs ts ys → (n p : ℕ) (us t₀ : Trees) → Alike t₀ us
          → Goes G (goto (S₂ n)) us p xs (goto (S₂ (n + count ts))) (t₀ ⊕ ts) ys
      unfolding count
      each_goes e_none n p us t₀ a = rebody (ap (λ (i : ℕ). goto (S₂ i)) (none_more n)) (respell (sym (⊕_none t₀)) (stay a))
        where
          none_more : (n : ℕ) → n ≡ n + 0
          none_more n = omega arith
      each_goes {ys = ys} (e_more {ys = y} {zs = z} {ts = ts} {t = t} e x lexeme) n p us t₀ a =
          rebody (ap (λ (i : ℕ). goto (S₂ i)) (counted n)) (respell (⊕_assoc t₀ ts t)
          (next (each_goes e n p us t₀ a) (λ us' r a'. next (take y _ t x (λ h. h) (n + count ts) r us' (t₀ ⊕ ts) a')
          (λ vs r a''. comma _ ys lexeme (n + count ts + count t) r vs (t₀ ⊕ ts ⊕ t) a''))))
        where
          counted : (n : ℕ) → n + count ts + count t ≡ n + count (ts ⊕ t)
          counted n = omega (arith, count-row ts t)

      -- A row, where both stop before what stands next.
      pub row_goes : {xs ys : Lexemes} {ts : Trees} (F : ℕ → Body) → ((n p : ℕ) (us t₀ : Trees) → Alike t₀ us → Goes G (goto (S₁ n)) us p ys (F n) t₀ ys)
          → ((n p : ℕ) (us t₀ : Trees) → Alike t₀ us → Goes G (goto (S₂ n)) us p ys (F n) t₀ ys) → Not (kind_of ys) ASSIGN → RowOf P xs ts ys
          → (n p : ℕ) (us t₀ : Trees) → Alike t₀ us → Goes G (goto (S₂ n)) us p xs (F (n + count ts)) (t₀ ⊕ ts) ys
      row_goes {ts = ts} F stop₁ stop₂ off (r_shut e) n p us t₀ a = next (each_goes e n p us t₀ a) (λ us' r a'. stop₂ (n + count ts) r us' (t₀ ⊕ ts) a')
      row_goes {ys = ys} F stop₁ stop₂ off (r_last {ys = y} {ts = ts} {t = t} e x) n p us t₀ a =
          rebody (ap F (counted n)) (respell (⊕_assoc t₀ ts t)
          (next (each_goes e n p us t₀ a) (λ us' r a'. next (take y ys t x off (n + count ts) r us' (t₀ ⊕ ts) a')
          (λ vs r a''. stop₁ (n + count ts + count t) r vs (t₀ ⊕ ts ⊕ t) a''))))
        where
          counted : (n : ℕ) → n + count ts + count t ≡ n + count (ts ⊕ t)
          counted n = omega (arith, count-row ts t)
