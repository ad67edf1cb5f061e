-- What a row's test tells of the next lexeme, in the words of Spells.antt.
-- Assumes nothing.
use mathlib.Core.Path.{◌≡◌, refl, sym, subst}
use mathlib.Core.Bool.{Bool, true, false, ◌||◌, not}
use mathlib.Core.List.{[], ◌∷◌}
use mathlib.Core.Logic.{◌⊎◌, inl, inr}
use Prim.Native.Nat.{ℕ}
use lib.Dec.{T, T_not, eqb, eqb→eq, eqb_refl}
use Rattle.lexemes.specs.Kinds.{EOF, STRING_DOUBLE, STRING_SINGLE, STRING_DOUBLE_VERBATIM, STRING_SINGLE_VERBATIM, STRING_BLOCK, LOCAL_KW, ASSERT_KW}
use Rattle.grammar.specs.Lexemes.{Said, rest, kind_of, word_of}
use Rattle.grammar.specs.Productions.{with_field, with_assert, with_member}
use Rattle.grammar.specs.Spells.{Lexemes, ◌is◌saying◌then◌, ◌is◌then◌, Quoted}
use Rattle.grammar.proofs.Chosen.{or_cases}

-- A lexeme of a known kind stands next.
pub told : {k : ℕ} (xs : Lexemes) → T (not (eqb k EOF)) → kind_of xs ≡ k → xs is k saying word_of xs then rest xs
told {k} [] h e = absurd (T_not (eqb k EOF) h (subst (λ (n : ℕ). T (eqb n EOF)) e tt))
told (x ∷ xs) h e = subst (λ (n : ℕ). (x ∷ xs) is n saying x.word then xs) e ◌is◌saying◌then◌.worded

pub unsaid : {k : ℕ} {v : Said} {xs ys : Lexemes} → xs is k saying v then ys → xs is k then ys
unsaid ◌is◌saying◌then◌.worded = ◌is◌then◌.lexeme

pub resaid : {k : ℕ} {xs ys : Lexemes} → xs is k then ys → xs is k saying word_of xs then ys
resaid ◌is◌then◌.lexeme = ◌is◌saying◌then◌.worded

-- What a row's test tells.
pub seen : {k : ℕ} (xs : Lexemes) → T (not (eqb k EOF)) → T (eqb (kind_of xs) k) → xs is k saying word_of xs then rest xs
seen {k} xs h t = told xs h (eqb→eq (kind_of xs) k t)

pub seen' : {k : ℕ} (xs : Lexemes) → T (not (eqb k EOF)) → T (eqb (kind_of xs) k) → xs is k then rest xs
seen' xs h t = unsaid (seen xs h t)

pub quoted_kind : (k : ℕ)
    → T (eqb k STRING_DOUBLE || eqb k STRING_SINGLE || eqb k STRING_DOUBLE_VERBATIM || eqb k STRING_SINGLE_VERBATIM || eqb k STRING_BLOCK) → Quoted k
quoted_kind k t = by₁ (or_cases (eqb k STRING_DOUBLE || eqb k STRING_SINGLE || eqb k STRING_DOUBLE_VERBATIM || eqb k STRING_SINGLE_VERBATIM) (eqb k STRING_BLOCK) t)
  where
    by₄ : T (eqb k STRING_DOUBLE) ⊎ T (eqb k STRING_SINGLE) → Quoted k
    by₄ (inl h) = subst Quoted (sym (eqb→eq k STRING_DOUBLE h)) Quoted.double
    by₄ (inr h) = subst Quoted (sym (eqb→eq k STRING_SINGLE h)) Quoted.single

    by₃ : T (eqb k STRING_DOUBLE || eqb k STRING_SINGLE) ⊎ T (eqb k STRING_DOUBLE_VERBATIM) → Quoted k
    by₃ (inl h) = by₄ (or_cases (eqb k STRING_DOUBLE) (eqb k STRING_SINGLE) h)
    by₃ (inr h) = subst Quoted (sym (eqb→eq k STRING_DOUBLE_VERBATIM h)) Quoted.double_verbatim

    by₂ : T (eqb k STRING_DOUBLE || eqb k STRING_SINGLE || eqb k STRING_DOUBLE_VERBATIM) ⊎ T (eqb k STRING_SINGLE_VERBATIM) → Quoted k
    by₂ (inl h) = by₃ (or_cases (eqb k STRING_DOUBLE || eqb k STRING_SINGLE) (eqb k STRING_DOUBLE_VERBATIM) h)
    by₂ (inr h) = subst Quoted (sym (eqb→eq k STRING_SINGLE_VERBATIM h)) Quoted.single_verbatim

    by₁ : T (eqb k STRING_DOUBLE || eqb k STRING_SINGLE || eqb k STRING_DOUBLE_VERBATIM || eqb k STRING_SINGLE_VERBATIM) ⊎ T (eqb k STRING_BLOCK) → Quoted k
    by₁ (inl h) = by₂ (or_cases (eqb k STRING_DOUBLE || eqb k STRING_SINGLE || eqb k STRING_DOUBLE_VERBATIM) (eqb k STRING_SINGLE_VERBATIM) h)
    by₁ (inr h) = subst Quoted (sym (eqb→eq k STRING_BLOCK h)) Quoted.block

pub quoted_is : {k : ℕ} → Quoted k → T (not (eqb k EOF))
quoted_is Quoted.double = tt
quoted_is Quoted.single = tt
quoted_is Quoted.double_verbatim = tt
quoted_is Quoted.single_verbatim = tt
quoted_is Quoted.block = tt

-- ── Kinds ─────────────────────────────────────────────────────────────────────────────────────────

abbrev pub Not : ℕ → ℕ → Type 0
Not k j = T (eqb k j) → ⊥

pub kind_is : {k : ℕ} {xs ys : Lexemes} → xs is k then ys → T (eqb (kind_of xs) k)
kind_is {k} ◌is◌then◌.lexeme = eqb_refl k

-- A kind that is k is no other.
pub other : (j k i : ℕ) → T (not (eqb k i)) → T (eqb j k) → Not j i
other j k i h t u = T_not (eqb k i) h (subst (λ (n : ℕ). T (eqb n i)) (eqb→eq j k t) u)

-- A member that begins with neither `local` nor `assert` counts as a field.
pub field_fault : (c k : ℕ) → Not k LOCAL_KW → Not k ASSERT_KW → with_member c k ≡ with_field c
unfolding with_member
field_fault c k n m = by (eqb k LOCAL_KW) (eqb k ASSERT_KW) n m
  where
    by : (a b : Bool) → (T a → ⊥) → (T b → ⊥) → ◌≡◌ {A = ℕ} (elim a [ true ↦ c | false ↦ elim b [ true ↦ with_assert c | false ↦ with_field c ] ]) (with_field c)
    by true b n m = absurd (n tt)
    by false true n m = absurd (m tt)
    by false false n m = refl
