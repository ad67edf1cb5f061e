-- The production of expr_bp and of its loop, from the operator that stands next: for the code, which finds an operator by its kind.
-- Assumes nothing.
use mathlib.Core.Path.{◌≡◌, refl, sym, ap, subst}
use mathlib.Core.Bool.{Bool, true, false, ◌&&◌, not, cond}
use mathlib.Core.List.{List, [], ◌∷◌}
use Prim.Native.Nat.{ℕ}
use lib.Dec.{T, T_not, eqb, leb}
use borrow.Author.Tests.{eqb-true}
use Rattle.grammar.specs.Tags.{INFIX}
use Rattle.grammar.specs.Trees.{Field, byte}
use Rattle.grammar.specs.Productions.{Switch, always, Body, end, goto, ◌▸◌, eat, sub, deep, close, View, here, expr, infix_tail, suffixed, rule, Sign, sign, signs, sign_rows, Operator, op, operators, operator_rows}
use Rattle.grammar.specs.Reading.{has, choose}
use Rattle.grammar.specs.Operators.{binary, sign_in, prefix_of, operator_in, infix_of}
use Rattle.std.specs.Prelude.{Option, Some, None}
use Rattle.grammar.specs.declared.operators.Operator as code
use Rattle.grammar.proofs.Chosen.{and_left, and_right}

-- What expr_bp is where a prefix operator stands, and where none does.
unfoldable pub signed : ℕ → ℕ → ℕ → Option ℕ → Body
signed prefix least k (Some o) = eat k ▸ deep (expr prefix) ▸ close 12 (byte o ∷ []) ▸ goto (infix_tail least)
signed prefix least k None = sub suffixed ▸ goto (infix_tail least)

sign_chosen : (prefix s least : ℕ) (v : View) (xs : List Sign) → choose s (sign_rows prefix least v xs) ≡ signed prefix least v.kind (sign_in v.kind xs)
unfolding choose sign_rows sign_in signed has
sign_chosen prefix s least v [] = refl
sign_chosen prefix s least v (sign k o ∷ xs) = by (eqb v.kind k) refl (sign_chosen prefix s least v xs)
  where
    by : (t : Bool) → eqb v.kind k ≡ t → choose s (sign_rows prefix least v xs) ≡ signed prefix least v.kind (sign_in v.kind xs)
        → ◌≡◌ {A = Body} (elim (t && true) [ true ↦ eat k ▸ deep (expr prefix) ▸ close 12 (byte o ∷ []) ▸ goto (infix_tail least) | false ↦ choose s (sign_rows prefix least v xs) ])
        (signed prefix least v.kind (cond t (Some o) (sign_in v.kind xs)))
    by true e h = ap (λ (j : ℕ). eat j ▸ deep (expr prefix) ▸ close 12 (byte o ∷ []) ▸ goto (infix_tail least)) (sym (eqb-true v.kind k e))
    by false e h = h

pub prefix_chosen : (prefix s least : ℕ) (v : View) → choose s (rule prefix (expr least) v) ≡ signed prefix least v.kind (prefix_of v.kind)
unfolding rule prefix_of
prefix_chosen prefix s least v = sign_chosen prefix s least v signs

-- The switch of an operator's kind.
unfoldable pub switch_in : ℕ → List Operator → Switch
switch_in k [] = always
switch_in k (op j g l r o ∷ xs) = cond (eqb k j) g (switch_in k xs)

-- A turn of the loop: an operator of kind k and byte o that stands at this place, and its second operand of this power.
abbrev pub turn : ℕ → ℕ → Field → ℕ → ℕ → Body
turn least k place o r = eat k ▸ deep (expr r) ▸ close INFIX (byte o ∷ place ∷ []) ▸ goto (infix_tail least)

-- What the loop is where a binary operator stands, if its switch is on, and where none does.
unfoldable pub looped : ℕ → ℕ → Field → Bool → Option code.Operator → Body
looped least k place on (Some p) = elim (leb least p.left && on) [ true ↦ turn least k place p.byte p.right | false ↦ end ]
looped least k place on None = end

-- Every operator has a kind of its own.
unfoldable absent : ℕ → List Operator → Bool
absent k [] = true
absent k (op j g l r o ∷ xs) = not (eqb k j) && absent k xs

unfoldable distinct : List Operator → Bool
distinct [] = true
distinct (op j g l r o ∷ xs) = absent j xs && distinct xs

module _ (s least : ℕ) (v : View) where
  none_chosen : (k : ℕ) → v.kind ≡ k → (xs : List Operator) → T (absent k xs) → choose s (operator_rows least v xs) ≡ end
  unfolding choose operator_rows absent
  none_chosen k e [] h = refl
  none_chosen k e (op j g l r o ∷ xs) h = by (eqb v.kind j) refl (none_chosen k e xs (and_right (not (eqb k j)) (absent k xs) h))
    where
      by : (t : Bool) → eqb v.kind j ≡ t → choose s (operator_rows least v xs) ≡ end
          → ◌≡◌ {A = Body} (elim (t && leb least l && has s g) [ true ↦ turn least j (here v) o r | false ↦ choose s (operator_rows least v xs) ]) end
      by true i n = absurd (T_not (eqb k j) (and_left (not (eqb k j)) (absent k xs) h) (subst (λ (m : ℕ). T (eqb m j)) e (subst T (sym i) tt)))
      by false i n = n

  operator_chosen : (xs : List Operator) → T (distinct xs) → choose s (operator_rows least v xs) ≡ looped least v.kind (here v) (has s (switch_in v.kind xs)) (operator_in v.kind xs)
  unfolding choose operator_rows operator_in switch_in looped distinct
  operator_chosen [] h = refl
  operator_chosen (op k g l r o ∷ xs) h = by (eqb v.kind k) refl (operator_chosen xs (and_right (absent k xs) (distinct xs) h))
    where
      taken : (u : Bool) → v.kind ≡ k
          → ◌≡◌ {A = Body} (elim u [ true ↦ turn least k (here v) o r | false ↦ choose s (operator_rows least v xs) ])
          (elim u [ true ↦ turn least v.kind (here v) o r | false ↦ end ])
      taken true e = ap (λ (j : ℕ). turn least j (here v) o r) (sym e)
      taken false e = none_chosen k e xs (and_left (absent k xs) (distinct xs) h)

      by : (t : Bool) → eqb v.kind k ≡ t
          → choose s (operator_rows least v xs) ≡ looped least v.kind (here v) (has s (switch_in v.kind xs)) (operator_in v.kind xs)
          → ◌≡◌ {A = Body} (elim (t && leb least l && has s g) [ true ↦ turn least k (here v) o r | false ↦ choose s (operator_rows least v xs) ])
          (looped least v.kind (here v) (has s (cond t g (switch_in v.kind xs))) (cond t (binary o l r) (operator_in v.kind xs)))
      by true e i = taken (leb least l && has s g) (eqb-true v.kind k e)
      by false e i = i

pub infix_chosen : (prefix s least : ℕ) (v : View) → choose s (rule prefix (infix_tail least) v) ≡ looped least v.kind (here v) (has s (switch_in v.kind operators)) (infix_of v.kind)
unfolding rule infix_of operators distinct absent
infix_chosen prefix s least v = operator_chosen s least v operators tt
