-- Every table has a longest match at every place, or takes nothing there, if no two kinds ever end a match at one place. That is shown over
-- the tables that are left of the first after any letters, given as the states of an automaton: a test that antt computes for each state.
-- Assumes nothing.
use mathlib.Core.Path.{◌≡◌, refl, sym, subst}
use mathlib.Core.Bool.{Bool, true, false}
use mathlib.Core.List.{List, [], ◌∷◌, map}
use mathlib.Core.Logic.{◌⊎◌, inl, inr, ⊎_elim}
use Prim.Native.Nat.{ℕ, zero, suc, ◌+◌, ◌≤◌}
use native.Mathlib.Omega.{arith}
use lib.Dec.{T}
use Rattle.regexes.specs.Regex.{Text, END, Rule, Longest, Nothing}
use Rattle.regexes.proofs.Bools.{every, Each, each, all, all_at}
use Rattle.regexes.proofs.Tables.{left, accepts, Among, same, same_eq}
use Rattle.regexes.proofs.Longest.{Sound, empty, fail, on, halt}

-- Whether a table is in a list.
among : List Rule → List (List Rule) → Bool
unfolding same
among S [] = false
among S (Q ∷ Qs) = elim (same S Q) [ true ↦ true | false ↦ among S Qs ]

-- At most one kind.
few : List ℕ → Bool
few [] = true
few (k ∷ []) = true
few (k ∷ k' ∷ ks) = false

-- Every letter takes the table to one of the list, END to nothing, and at most one kind ends there.
tests : List Rule → List (List Rule) → List Bool
tests S Qs = all (λ l. among (left l S) Qs) (suc END) ∷ same (left END S) [] ∷ few (accepts S) ∷ []

unfoldable pub closes : List Rule → List (List Rule) → Bool
unfolding tests all among left same few accepts
closes S Qs = every (tests S Qs)

-- The longest match at a place, or nothing.
abbrev pub Outcome : (ℕ → ℕ → Type 0) → Text → List Rule → ℕ → Type 0
Outcome Beats t S p = ((k : ℕ) × (e : ℕ) × Longest Beats t S p k e) ⊎ Nothing t S p

module _ (State : Type 0) (table : State → List Rule) (next : State → List State) (closed : (x : State) → T (closes (table x) (map table (next x)))) where
  parts : (x : State) → Each (tests (table x) (map table (next x)))
  unfolding closes
  parts x = each (tests (table x) (map table (next x))) (closed x)

  -- The state to which a letter leads.
  find : (S : List Rule) (ys : List State) → T (among S (map table ys)) → (y : State) × (S ≡ table y)
  unfolding among
  find S [] t = absurd t
  find S (y ∷ ys) t = by (same S (table y)) refl t (find S ys)
    where
      by : (b : Bool) → same S (table y) ≡ b → T (elim b [ true ↦ true | false ↦ among S (map table ys) ]) → (T (among S (map table ys)) → (y : State) × (S ≡ table y))
          → (y : State) × (S ≡ table y)
      by true e t later = (y, same_eq S (table y) (subst (λ (x : Bool). T x) (sym e) tt))
      by false e t later = later t

  goes : (x : State) (l : ℕ) → l ≤ END → (y : State) × (left l (table x) ≡ table y)
  unfolding tests
  goes x l h = find (left l (table x)) (next x) (all_at (λ l. among (left l (table x)) (map table (next x))) (suc END) (parts x).0 l (omega arith))

  over : (x : State) → left END (table x) ≡ []
  unfolding tests
  over x = same_eq (left END (table x)) [] (parts x).1.0

  module _ (t : Text) (sound : Sound t) (Beats : ℕ → ℕ → Type 0) where
    -- What is left takes nothing: the match ends here, if one does.
    ends : (x : State) (p : ℕ) → Nothing t (left (t.letter p) (table x)) (t.next p) → Outcome Beats t (table x) p
    unfolding tests few
    ends x p n = by (accepts (table x)) refl (parts x).1.1.0
      where
        by : (ks : List ℕ) → accepts (table x) ≡ ks → T (few ks) → Outcome Beats t (table x) p
        by [] e f = inr (fail t sound (table x) p e n)
        by (k ∷ []) e f =
            inl (
              k,
              p,
              halt t sound Beats (table x) p k (subst (λ (ks : List ℕ). Among k ks) (sym e) (inl refl))
                  (λ k' a. ⊎_elim (λ q. inl q) (λ q. absurd q) (subst (λ (ks : List ℕ). Among k' ks) e a)) n,
            )
        by (k ∷ k' ∷ ks) e f = absurd f

    pub outcome : (n : ℕ) → ((i : ℕ) → n ≤ i → t.letter i ≡ END) → (d : ℕ) (x : State) (p : ℕ) → n ≤ p + d → Outcome Beats t (table x) p
    outcome n past zero x p h =
        ends x p (subst (λ (l : ℕ). Nothing t (left l (table x)) (t.next p)) (sym (past p (omega arith))) (subst (λ (S : List Rule). Nothing t S (t.next p)) (sym (over x)) (empty t sound (t.next p))))
    outcome n past (suc d) x p h = by (goes x (t.letter p) (sound.low p)) (λ y. outcome n past d y (t.next p) (omega (arith, sound.up p)))
      where
        by : (y : State) × (left (t.letter p) (table x) ≡ table y) → ((y : State) → Outcome Beats t (table y) (t.next p)) → Outcome Beats t (table x) p
        by y rec =
            ⊎_elim
            (λ m. inl (m.0, m.1, on t sound Beats (table x) p m.0 m.1 (subst (λ (S : List Rule). Longest Beats t S (t.next p) m.0 m.1) (sym y.1) m.2)))
            (λ n. ends x p (subst (λ (S : List Rule). Nothing t S (t.next p)) (sym y.1) n))
            (rec y.0)
