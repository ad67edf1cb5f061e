-- The operators of the productions (Productions.antt) are the operators of the forms (Spells.antt), with their levels and bytes.
-- Assumes nothing.
use mathlib.Core.Path.{◌≡◌, refl, sym, subst}
use mathlib.Core.Bool.{Bool, true, false, ◌&&◌, not}
use mathlib.Core.List.{List, [], ◌∷◌}
use Prim.Native.Nat.{ℕ, ◌+◌, ◌≤◌}
use lib.Dec.{T, T_not, eqb, eqb→eq, eqb_refl, leb, le→leb}
use Rattle.lexemes.specs.Kinds.{EOF, ASSIGN}
use Rattle.grammar.specs.Productions.{Switch, Sign, sign, signs, Operator, op, operators}
use Rattle.grammar.specs.Reading.{has}
use Rattle.grammar.specs.Spells.{Unary, Binary}
use Rattle.grammar.proofs.Chosen.{and_left, and_right}

pub both : (a b : Bool) → T a → T b → T (a && b)
both true b h k = k
both false b h k = absurd h

unfoldable pub Signs : List Sign → Type 0
Signs [] = Unit
Signs (sign k o ∷ rest) = Unary k o × T (not (eqb k EOF)) × Signs rest

pub signs_sound : Signs signs
unfolding Signs signs
signs_sound = (Unary.plus, tt, (Unary.minus, tt, (Unary.bit_not, tt, (Unary.not, tt, tt))))

module _ (s : ℕ) where
  -- Each operator of a list is one of the forms, its right power is one more than its left; it is not EOF, and no `=`.
  pub data Sound : List Operator → Type 0 where
    none : Sound []
    more : {k l o : ℕ} {g : Switch} {rest : List Operator} → (T (has s g) → Binary s k l o) → T (not (eqb k EOF)) → T (not (eqb k ASSIGN)) → Sound rest
        → Sound (op k g l (l + 1) o ∷ rest)

  pub operators_sound : Sound operators
  unfolding operators
  operators_sound =
      more (λ h. Binary.or) tt tt
      (more (λ h. Binary.coalesce h) tt tt
      (more (λ h. Binary.and) tt tt
      (more (λ h. Binary.bit_or) tt tt
      (more (λ h. Binary.bit_xor) tt tt
      (more (λ h. Binary.bit_and) tt tt
      (more (λ h. Binary.eq) tt tt
      (more (λ h. Binary.ne) tt tt
      (more (λ h. Binary.lt) tt tt
      (more (λ h. Binary.gt) tt tt
      (more (λ h. Binary.le) tt tt
      (more (λ h. Binary.ge) tt tt
      (more (λ h. Binary.in_object) tt tt
      (more (λ h. Binary.lhs) tt tt
      (more (λ h. Binary.rhs) tt tt
      (more (λ h. Binary.plus) tt tt
      (more (λ h. Binary.minus) tt tt
      (more (λ h. Binary.mul) tt tt
      (more (λ h. Binary.div) tt tt
      (more (λ h. Binary.modulo) tt tt
      none)))))))))))))))))))

  -- The first operator of kind k in a list has level l and byte o, and its switch is on.
  pub data Found (k l o : ℕ) : List Operator → Type 0 where
    here : {g : Switch} {rest : List Operator} → T (has s g) → Found k l o (op k g l (l + 1) o ∷ rest)
    there : {j l' r o' : ℕ} {g : Switch} {rest : List Operator} → (T (eqb k j) → ⊥) → Found k l o rest → Found k l o (op j g l' r o' ∷ rest)

  pub found_none : {k l o : ℕ} → Found k l o [] → ⊥
  found_none = elim [ ]

  unfoldable finds : ℕ → ℕ → ℕ → List Operator → Bool
  finds k l o [] = false
  finds k l o (op j g l' r o' ∷ rest) = elim (eqb k j) [ true ↦ eqb l l' && (eqb o o' && has s g) | false ↦ finds k l o rest ]

  finds_found : (k l o : ℕ) (ops : List Operator) → Sound ops → T (finds k l o ops) → Found k l o ops
  unfolding finds
  finds_found k l o [] h f = absurd f
  finds_found k l o (op j g l' r o' ∷ rest) (more b e n h) f = by (eqb k j) refl f (finds_found k l o rest h)
    where
      by : (b : Bool) → eqb k j ≡ b → T (elim b [ true ↦ eqb l l' && (eqb o o' && has s g) | false ↦ finds k l o rest ])
          → (T (finds k l o rest) → Found k l o rest) → Found k l o (op j g l' (l' + 1) o' ∷ rest)
      by false e t on = there (λ u. subst T e u) (on t)
      by true e t on =
          let others = and_right (eqb l l') (eqb o o' && has s g) t in
          subst (λ (i : ℕ). Found k l o (op i g l' (l' + 1) o' ∷ rest)) (eqb→eq k j (subst T (sym e) tt))
          (subst (λ (i : ℕ). Found k l o (op k g i (i + 1) o' ∷ rest)) (eqb→eq l l' (and_left (eqb l l') (eqb o o' && has s g) t))
          (subst (λ (i : ℕ). Found k l o (op k g l (l + 1) i ∷ rest)) (eqb→eq o o' (and_left (eqb o o') (has s g) others))
          (here (and_right (eqb o o') (has s g) others))))

  -- Each operator of the forms is found among the productions'.
  pub found : {k l o : ℕ} → Binary s k l o → Found k l o operators
  unfolding finds operators has
  found {k} {l} {o} b = finds_found k l o operators operators_sound (by b)
    where
      by : {k l o : ℕ} → Binary s k l o → T (finds k l o operators)
      by Binary.or = tt
      by (Binary.coalesce h) = h
      by Binary.and = tt
      by Binary.bit_or = tt
      by Binary.bit_xor = tt
      by Binary.bit_and = tt
      by Binary.eq = tt
      by Binary.ne = tt
      by Binary.lt = tt
      by Binary.gt = tt
      by Binary.le = tt
      by Binary.ge = tt
      by Binary.in_object = tt
      by Binary.lhs = tt
      by Binary.rhs = tt
      by Binary.plus = tt
      by Binary.minus = tt
      by Binary.mul = tt
      by Binary.div = tt
      by Binary.modulo = tt

  not_assign_in : {k l o : ℕ} {ops os : List Operator} → Sound ops → Found k l o os → ops ≡ os → T (eqb k ASSIGN) → ⊥
  not_assign_in none (here on) q t = cc
  not_assign_in none (there off f) q t = cc
  not_assign_in {k} (more {k = j} b e n h) (here on) q t = let same : j ≡ k = cc in T_not (eqb j ASSIGN) n (subst (λ (i : ℕ). T (eqb i ASSIGN)) (sym same) t)
  not_assign_in (more {rest = os} b e n h) (there {rest = os'} off f) q t = let same : os ≡ os' = cc in not_assign_in h f same t

  pub not_assign : {k l o : ℕ} {ops : List Operator} → Sound ops → Found k l o ops → T (eqb k ASSIGN) → ⊥
  not_assign h f t = not_assign_in h f refl t

-- Not this one, so a later one.
pub found_later : {s i k l l' r o o' : ℕ} {g : Switch} {ops : List Operator} (m : ℕ) → Found s i l' o' (op k g l r o ∷ ops) → m ≤ l'
    → (T (eqb i k && leb m l) → T (has s g) → ⊥) → Found s i l' o' ops
found_later {k = k} {l = l} m (here on) le off = absurd (off (both (eqb k k) (leb m l) (eqb_refl k) (le→leb m l le)) on)
found_later m (there n f) le off = f
