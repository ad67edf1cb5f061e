-- What a phrase has read so far, told in the forms of Spells.antt: `x₀` is where the phrase began, `ts` its trees so far, `x` what is left.
-- Here what many phrases share: nothing yet, one tree, a row with its last item, an expression, an operation.
-- Assumes nothing.
use mathlib.Core.Path.{◌≡◌, refl, sym, subst}
use mathlib.Core.Bool.{Bool, true, false, not}
use mathlib.Core.List.{List, [], ◌∷◌}
use Prim.Native.Nat.{ℕ, ◌+◌, ◌≤◌}
use native.Mathlib.Omega.{arith}
use lib.Dec.{T, leb, leb→le, nleb→lt}
use Rattle.lexemes.specs.Kinds.{COMMA}
use Rattle.grammar.specs.Tags.{PREFIX, INFIX}
use Rattle.grammar.specs.Trees.{Field, byte, span, Trees, none, tree, ◌⊕◌, count}
use Rattle.grammar.specs.Lexemes.{kind_of}
use Rattle.grammar.specs.Spells.{Lexemes, ◌is◌then◌, Unary, Binary, Open, Continues, greedily, Spells}
use Rattle.grammar.specs.Spells.{Category as C}

-- What stays the same within a phrase: the prefix power, the setting, where phrases may be over, the levels that are left.
pub record Rules : Type 1 where
  pub prefix : ℕ
  pub setting : ℕ
  pub Ends : Open → ℕ → Type 0
  pub levels : ℕ

abbrev pub rules : ℕ → ℕ → (Open → ℕ → Type 0) → ℕ → Rules
rules prefix s Ends d = record { prefix = prefix; setting = s; Ends = Ends; levels = d }

pub data Fresh : Lexemes → Trees → Lexemes → Type 0 where
  fresh : {x : Lexemes} → Fresh x none x

pub data Opened (k : ℕ) : Lexemes → Trees → Lexemes → Type 0 where
  opened : {x₀ x : Lexemes} → x₀ is k then x → Opened k x₀ none x

-- Behind one lexeme of kind k
pub data Behind (k : ℕ) (P : Lexemes → Trees → Lexemes → Type 0) : Lexemes → Trees → Lexemes → Type 0 where
  behind : {x₀ y x : Lexemes} {ts : Trees} → x₀ is k then y → P y ts x → Behind k P x₀ ts x

module _ (R : Rules) where
  abbrev pub Sp : C → Lexemes → Trees → Lexemes → Type 0
  Sp c xs ts ys = Spells R.prefix R.setting R.Ends R.levels c xs ts ys

  -- The same tree, told otherwise.
  pub retree : {c : C} {tag : ℕ} {fs fs' : List Field} {ts us : Trees} {x y : Lexemes} → fs ≡ fs' → ts ≡ us → Sp c x (tree tag fs ts) y → Sp c x (tree tag fs' us) y
  retree {c} {tag} {fs} {fs'} {ts} {us} {x} {y} e q r =
      subst (λ (ws : Trees). Sp c x (tree tag fs' ws) y) q (subst (λ (gs : List Field). Sp c x (tree tag gs ts) y) e r)

  -- One tree of a category.
  pub data One (c : C) : Lexemes → Trees → Lexemes → Type 0 where
    one : {x₀ x : Lexemes} {t : Trees} → Sp c x₀ t x → count t ≡ 1 → One c x₀ t x

  -- An expression that is over, and stands before nothing that continues it.
  pub data Over (m : ℕ) : Lexemes → Trees → Lexemes → Type 0 where
    over : {x₀ x : Lexemes} {t : Trees} → Sp (C.expr m) x₀ t x → count t ≡ 1 → greedily R.setting (Open.operations m) (kind_of x) → Over m x₀ t x

  pub plain : {m : ℕ} {x₀ x : Lexemes} {t : Trees} → Over m x₀ t x → Sp (C.expr m) x₀ t x
  plain (over e c g) = e

  pub just : {m : ℕ} {x₀ x : Lexemes} {t : Trees} → Over m x₀ t x → count t ≡ 1
  just (over e c g) = c

  -- An operation of level m so far; if an operator comes, it is one of that operator's level too.
  pub data Tail (m : ℕ) : Lexemes → Trees → Lexemes → Type 0 where
    tail : {x₀ x : Lexemes} {t : Trees} → count t ≡ 1 → Sp (C.operation m) x₀ t x
        → ((l o : ℕ) → Binary R.setting (kind_of x) l o → Sp (C.operation l) x₀ t x) → Tail m x₀ t x

  -- Rows: with an item last that has no comma yet.
  pub data Last (c : C) : Lexemes → Trees → Lexemes → Type 0 where
    last : {x₀ y x : Lexemes} {ts t : Trees} → Sp (C.each c) x₀ ts y → Sp c y t x → Last c x₀ (ts ⊕ t) x

  pub shut : {c : C} {x₀ y x : Lexemes} {ts : Trees} → Last c x₀ ts y → y is COMMA then x → Sp (C.each c) x₀ ts x
  shut (last e t) k = Spells.each_more e t k

  pub as_row : {c : C} {x₀ x : Lexemes} {ts : Trees} → Last c x₀ ts x → Sp (C.row c) x₀ ts x
  as_row (last e t) = Spells.row_last e t

  -- ── Operations ──────────────────────────────────────────────────────────────────────────────────

  pub as_operand : {m : ℕ} {x₀ x : Lexemes} {t : Trees} → One C.suffixed x₀ t x → Tail m x₀ t x
  as_operand (one e o) = tail o (Spells.operand e) (λ l o b. Spells.operand e)

  pub as_signed : {m k o : ℕ} {x₀ y x : Lexemes} {t : Trees} → Unary k o → x₀ is k then y → Over R.prefix y t x → Tail m x₀ (tree PREFIX (byte o ∷ []) t) x
  unfolding count
  as_signed u k a = tail refl (Spells.prefixed u k (plain a)) (λ l o b. Spells.prefixed u k (plain a))

  pub chained : {x₀ x : Lexemes} {t : Trees} → One C.basic x₀ t x → One (C.chain 1) x₀ t x
  chained (one e o) = one (Spells.bare e) o

  pub a_string : {x₀ x : Lexemes} {t : Trees} → One C.string x₀ t x → One C.basic x₀ t x
  a_string (one e o) = one (Spells.literal e) o

  pub named_by : {x₀ x : Lexemes} {t : Trees} → One C.string x₀ t x → One (C.name 0) x₀ t x
  named_by (one e o) = one (Spells.name_literal e) o

  -- The operator that comes next, if one does, is of no higher level: the right operand would have taken it.
  pub as_binary : {m k l o a e : ℕ} {x₀ y z x : Lexemes} {t u : Trees} → Binary R.setting k l o → m ≤ l → Sp (C.operation l) x₀ t y → y is k then z
      → Over (l + 1) z u x
      → Tail m x₀ (tree INFIX (byte o ∷ span a e ∷ []) (t ⊕ u)) x
  unfolding count
  as_binary {l = l} {x = x} b le e j (over g c w) = tail refl (Spells.infixed b le e j g) (λ l' o' b'. Spells.infixed b (by l' o' (leb l' l) refl b') e j g)
    where
      by : (l' o' : ℕ) (c : Bool) → leb l' l ≡ c → Binary R.setting (kind_of x) l' o' → l' ≤ l
      by l' o' true q b = leb→le l' l (subst T (sym q) tt)
      by l' o' false q b = absurd (w (Continues.operator b (omega (arith, nleb→lt l' l (subst (λ (c : Bool). T (not c)) (sym q) tt)))))
