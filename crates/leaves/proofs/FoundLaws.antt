-- What the code's tests find: operators by their kinds, and a comprehension's fault.
-- Assumes nothing.
use mathlib.Core.Path.{◌≡◌, refl, sym, ap, subst, ◌∙◌}
use mathlib.Core.Bool.{Bool, true, false, cond, ◌&&◌, ◌||◌}
use mathlib.Core.List.{List, [], ◌∷◌}
use Prim.Native.Nat.{ℕ}
use lib.Dec.{eqb}
use borrow.Author.Tests.{eqb-true, ne_eqb}
use Rattle.lexemes.specs.Kinds.{LOCAL_KW, ASSERT_KW}
use Rattle.grammar.specs.Productions.{with_field, with_assert, with_member, Switch, always, exp_destruct, exp_object_iteration, exp_null_coaelse, Operator, op, operators}
use Rattle.grammar.specs.Reading.{has}
use Rattle.leaves.specs.Operators.{infix_in, infix_under}
use Rattle.grammar.specs.Operators.{binary, infix_of, operator_in}
use Rattle.grammar.proofs.Chosen.{pick_no, true_false}
use Rattle.std.specs.Prelude.{Option, None}
use Rattle.grammar.specs.declared.operators.Operator as code

pub same_fault : (c : ℕ) → ¬ (c ≡ 4) → ¬ (c ≡ 0) → c ≡ with_field c
unfolding with_field
same_fault c a b = sym (pick_no (eqb c 4) 0 (elim (eqb c 0) [ true ↦ 2 | false ↦ c ]) (ne_eqb c 4 a) ∙ pick_no (eqb c 0) 2 c (ne_eqb c 0 b))

pub assert_fault : (c : ℕ) → ¬ (c ≡ 2) → 3 ≡ with_assert c
unfolding with_assert
assert_fault c a = sym (pick_no (eqb c 2) 2 3 (ne_eqb c 2 a))

-- a member's part in it, by the kind that it begins with
pub local_fault : (c k : ℕ) → k ≡ LOCAL_KW → c ≡ with_member c k
unfolding with_member
local_fault c k e = subst (λ (m : ℕ). c ≡ with_member c m) (sym e) refl

pub assert_member_fault : (c k : ℕ) → k ≡ ASSERT_KW → with_assert c ≡ with_member c k
unfolding with_member
assert_member_fault c k e = subst (λ (m : ℕ). with_assert c ≡ with_member c m) (sym e) refl

pub field_member_fault : (c k : ℕ) → ¬ (k ≡ LOCAL_KW) → ¬ (k ≡ ASSERT_KW) → with_field c ≡ with_member c k
unfolding with_member
field_member_fault c k a b =
    sym (pick_no (eqb k LOCAL_KW) c (elim (eqb k ASSERT_KW) [ true ↦ with_assert c | false ↦ with_field c ]) (ne_eqb k LOCAL_KW a)
    ∙ pick_no (eqb k ASSERT_KW) (with_assert c) (with_field c) (ne_eqb k ASSERT_KW b))

-- ── Binary operators under a setting ──────────────────────────────────────────────────────────────

unfoldable is_always : Switch → Bool
is_always always = true
is_always exp_destruct = false
is_always exp_object_iteration = false
is_always exp_null_coaelse = false

-- Only `??` has a switch.
unfoldable usual : List Operator → Bool
usual [] = true
usual (op j w l r o ∷ rest) = (is_always w || eqb j 3) && usual rest

and_l : (a b : Bool) → a && b ≡ true → a ≡ true
and_l true b e = refl
and_l false b e = e

and_r : (a b : Bool) → a && b ≡ true → b ≡ true
and_r true b e = e
and_r false b e = absurd (true_false (sym e))

no_switch : (g k j : ℕ) (w : Switch) → is_always w || eqb j 3 ≡ true → ¬ (k ≡ 3) → eqb k j ≡ true → has g w ≡ true
unfolding is_always has
no_switch g k j always h n e = refl
no_switch g k j exp_destruct h n e = absurd (n (eqb-true k j e ∙ eqb-true j 3 h))
no_switch g k j exp_object_iteration h n e = absurd (n (eqb-true k j e ∙ eqb-true j 3 h))
no_switch g k j exp_null_coaelse h n e = absurd (n (eqb-true k j e ∙ eqb-true j 3 h))

choice : (t u : Bool) (a x y : Option code.Operator) → (t ≡ true → u ≡ true) → x ≡ y → cond t a x ≡ cond (t && u) a y
choice true true a x y f e = refl
choice true false a x y f e = absurd (true_false (sym (f refl)))
choice false u a x y f e = e

same_in : (g k : ℕ) (ops : List Operator) → usual ops ≡ true → ¬ (k ≡ 3) → operator_in k ops ≡ infix_in g k ops
unfolding operator_in infix_in usual
same_in g k [] h n = refl
same_in g k (op j w l r o ∷ rest) h n =
    choice (eqb k j) (has g w) (binary o l r) (operator_in k rest) (infix_in g k rest) (no_switch g k j w (and_l (is_always w || eqb j 3) (usual rest) h) n)
    (same_in g k rest (and_r (is_always w || eqb j 3) (usual rest) h) n)

pub same_infix : (g k : ℕ) → ¬ (k ≡ 3) → infix_of k ≡ infix_under g k
unfolding infix_of infix_under usual is_always operators
same_infix g k n = same_in g k operators refl n

pub switched_on : (g k : ℕ) → k ≡ 3 → has g exp_null_coaelse ≡ true → binary 18 2 3 ≡ infix_under g k
unfolding infix_under infix_in has operators
switched_on g k e h =
    subst (λ (m : ℕ). binary 18 2 3 ≡ infix_under g m) (sym e) (sym (ap (λ (t : Bool). cond t (binary 18 2 3) None) h))

pub switched_off : (g k : ℕ) → k ≡ 3 → has g exp_null_coaelse ≡ false → None ≡ infix_under g k
unfolding infix_under infix_in has operators
switched_off g k e h =
    subst (λ (m : ℕ). None ≡ infix_under g m) (sym e) (sym (ap (λ (t : Bool). cond t (binary 18 2 3) None) h))
