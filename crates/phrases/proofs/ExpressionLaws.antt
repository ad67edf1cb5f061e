-- What an expression goes on as where its operators are found, and the phrases of expr_basic that more than one lexeme makes.
-- Assumes nothing.
use mathlib.Core.Path.{◌≡◌, refl, sym, ap, subst, subst⁻¹, ◌∙◌}
use mathlib.Core.Bool.{Bool, true, false, ◌&&◌, not, cond}
use mathlib.Core.List.{List, [], ◌∷◌}
use Prim.Native.Nat.{ℕ, zero, suc, ◌≤◌, ◌<◌}
use native.Mathlib.Omega.{arith}
use lib.Dec.{T, T_not, eqb, leb}
use borrow.Author.Tests.{eqb-true, le-leb, lt-leb}
use Rattle.grammar.specs.Trees.{byte, span}
use Rattle.grammar.specs.Lexemes.{Lexeme, Said}
use Rattle.grammar.specs.Productions.{Body, end, goto, ◌▸◌, eat, sub, deep, close, rule, expr, infix_tail, suffixed, View, here, expression, basic, array, binds, inside, signs, Operator, op, operators, operator_rows}
use Rattle.grammar.specs.Reading.{has, choose}
use Rattle.std.specs.Prelude.{Option, Some, None}
use Rattle.grammar.specs.Operators.{binary, prefix_of, sign_in}
use Rattle.grammar.specs.declared.operators.Operator as code
use Rattle.grammar.proofs.Chosen.{and_left, and_right, pick_yes, pick_no}
use Rattle.grammar.proofs.OperatorLaws.{signed, prefix_chosen, turn, looped}
use Rattle.leaves.specs.Operators.{infix_in, infix_under}
use Rattle.leaves.specs.Lexing.{Imports}
use Rattle.leaves.specs.Meets.{power}
use Rattle.leaves.proofs.LexemeLaws.{sight}
use Rattle.leaves.specs.declared.Cursor.{Cursor}

-- ── Prefix operators ──────────────────────────────────────────────────────────────────────────────

un_none : {o : ℕ} → ◌≡◌ {A = Option ℕ} None (Some o) → ⊥
un_none e = let z : ◌≡◌ {A = ℕ} 0 1 = cc in omega arith

-- A prefix operator's kind is no end.
above : (k : ℕ) {o : ℕ} → prefix_of k ≡ Some o → 1 < k
unfolding prefix_of sign_in signs
above zero e = absurd (un_none e)
above (suc zero) e = absurd (un_none e)
above (suc (suc k)) e = omega arith

pub sign_kind : {k o : ℕ} {p : Option ℕ} → p ≡ prefix_of k → p ≡ Some o → 1 < k
sign_kind {k} e f = above k (sym e ∙ f)

pub a_sign : (g : ℕ) (c : Cursor) (xs : List Lexeme) (n least k : ℕ) (t : Said) {o : ℕ} {p : Option ℕ} → p ≡ prefix_of k → p ≡ Some o
    → choose g (rule (power g) (expr least) (sight c xs n k t)) ≡ eat k ▸ deep (expr (power g)) ▸ close 12 (byte o ∷ []) ▸ goto (infix_tail least)
unfolding sight signed
a_sign g c xs n least k t e f = prefix_chosen (power g) g least (sight c xs n k t) ∙ ap (signed (power g) least k) (sym e ∙ f)

pub no_sign : (g : ℕ) (c : Cursor) (xs : List Lexeme) (n least k : ℕ) (t : Said) {p : Option ℕ} → p ≡ prefix_of k → p ≡ None
    → choose g (rule (power g) (expr least) (sight c xs n k t)) ≡ sub suffixed ▸ goto (infix_tail least)
unfolding sight signed
no_sign g c xs n least k t e f = prefix_chosen (power g) g least (sight c xs n k t) ∙ ap (signed (power g) least k) (sym e ∙ f)

-- ── Binary operators ──────────────────────────────────────────────────────────────────────────────

-- Every operator has a kind of its own.
unfoldable absent : ℕ → List Operator → Bool
absent k [] = true
absent k (op j w l r o ∷ xs) = not (eqb k j) && absent k xs

unfoldable distinct : List Operator → Bool
distinct [] = true
distinct (op j w l r o ∷ xs) = absent j xs && distinct xs

module _ (g least : ℕ) (v : View) where
  none_chosen : (k : ℕ) → v.kind ≡ k → (xs : List Operator) → T (absent k xs) → choose g (operator_rows least v xs) ≡ end
  unfolding choose operator_rows absent
  none_chosen k e [] h = refl
  none_chosen k e (op j w l r o ∷ xs) h = by (eqb v.kind j) refl (none_chosen k e xs (and_right (not (eqb k j)) (absent k xs) h))
    where
      by : (t : Bool) → eqb v.kind j ≡ t → choose g (operator_rows least v xs) ≡ end
          → ◌≡◌ {A = Body} (elim (t && leb least l && has g w) [ true ↦ turn least j (here v) o r | false ↦ choose g (operator_rows least v xs) ]) end
      by true i n = absurd (T_not (eqb k j) (and_left (not (eqb k j)) (absent k xs) h) (subst (λ (m : ℕ). T (eqb m j)) e (subst T (sym i) tt)))
      by false i n = n

  operator_chosen : (xs : List Operator) → T (distinct xs) → choose g (operator_rows least v xs) ≡ looped least v.kind (here v) true (infix_in g v.kind xs)
  unfolding choose operator_rows infix_in looped distinct
  operator_chosen [] h = refl
  operator_chosen (op k w l r o ∷ xs) h = by (eqb v.kind k) refl (operator_chosen xs (and_right (absent k xs) (distinct xs) h))
    where
      found : (u x : Bool) → v.kind ≡ k → choose g (operator_rows least v xs) ≡ looped least v.kind (here v) true (infix_in g v.kind xs)
          → leb least l ≡ u
          → ◌≡◌ {A = Body} (elim (u && x) [ true ↦ turn least k (here v) o r | false ↦ choose g (operator_rows least v xs) ])
          (looped least v.kind (here v) true (cond x (binary o l r) (infix_in g v.kind xs)))
      found true true e i y =
          ap (λ (j : ℕ). turn least j (here v) o r) (sym e)
          ∙ sym (pick_yes (leb least l && true) (turn least v.kind (here v) o r) end (ap (λ (z : Bool). z && true) y))
      found false true e i y =
          none_chosen k e xs (and_left (absent k xs) (distinct xs) h)
          ∙ sym (pick_no (leb least l && true) (turn least v.kind (here v) o r) end (ap (λ (z : Bool). z && true) y))
      found true false e i y = i
      found false false e i y = i

      by : (t : Bool) → eqb v.kind k ≡ t → choose g (operator_rows least v xs) ≡ looped least v.kind (here v) true (infix_in g v.kind xs)
          → ◌≡◌ {A = Body} (elim (t && leb least l && has g w) [ true ↦ turn least k (here v) o r | false ↦ choose g (operator_rows least v xs) ])
          (looped least v.kind (here v) true (cond (t && has g w) (binary o l r) (infix_in g v.kind xs)))
      by true e i = found (leb least l) (has g w) (eqb-true v.kind k e) i refl
      by false e i = i

  infix_chosen : choose g (rule (power g) (infix_tail least) v) ≡ looped least v.kind (here v) true (infix_under g v.kind)
  unfolding rule infix_under operators distinct absent
  infix_chosen = operator_chosen operators tt

in_none : {p : code.Operator} → ◌≡◌ {A = Option code.Operator} None (Some p) → ⊥
in_none e = let z : ◌≡◌ {A = ℕ} 0 1 = cc in omega arith

-- A binary operator's kind is no end.
beyond : (g k : ℕ) {p : code.Operator} → infix_under g k ≡ Some p → 1 < k
unfolding infix_under infix_in operators
beyond g zero e = absurd (in_none e)
beyond g (suc zero) e = absurd (in_none e)
beyond g (suc (suc k)) e = omega arith

pub infix_kind : (g : ℕ) {k : ℕ} {p : code.Operator} {b : Option code.Operator} → b ≡ infix_under g k → b ≡ Some p → 1 < k
infix_kind g {k} e f = beyond g k (sym e ∙ f)

module _ (g : ℕ) (c : Cursor) (xs : List Lexeme) (n least k : ℕ) (t : Said) {b : Option code.Operator} (e : b ≡ infix_under g k) where
  pub an_operator : {p : code.Operator} → b ≡ Some p → least ≤ p.left
      → choose g (rule (power g) (infix_tail least) (sight c xs n k t)) ≡ turn least k (span c.start c.end) p.byte p.right
  unfolding sight looped
  an_operator {p} f h =
      infix_chosen g least (sight c xs n k t) ∙ ap (looped least k (span c.start c.end) true) (sym e ∙ f)
      ∙ pick_yes (leb least p.left && true) (turn least k (span c.start c.end) p.byte p.right) end (ap (λ (z : Bool). z && true) (le-leb least p.left h))

  pub weak_operator : {p : code.Operator} → b ≡ Some p → p.left < least → choose g (rule (power g) (infix_tail least) (sight c xs n k t)) ≡ end
  unfolding sight looped
  weak_operator {p} f h =
      infix_chosen g least (sight c xs n k t) ∙ ap (looped least k (span c.start c.end) true) (sym e ∙ f)
      ∙ pick_no (leb least p.left && true) (turn least k (span c.start c.end) p.byte p.right) end (ap (λ (z : Bool). z && true) (lt-leb least p.left h))

  pub no_operator : b ≡ None → choose g (rule (power g) (infix_tail least) (sight c xs n k t)) ≡ end
  unfolding sight looped
  no_operator f = infix_chosen g least (sight c xs n k t) ∙ ap (looped least k (span c.start c.end) true) (sym e ∙ f)

-- ── Phrases of expr_basic that more than one lexeme makes ─────────────────────────────────────────

module _ (g : ℕ) (c : Cursor) (xs : List Lexeme) (n : ℕ) (t : Said) where
  pub a_paren : choose g (rule (power g) basic (sight c xs n 25 t)) ≡ eat 25 ▸ expression ▸ eat 26 ▸ end
  unfolding choose rule sight has
  a_paren = refl

  pub an_array : choose g (rule (power g) basic (sight c xs n 23 t)) ≡ eat 23 ▸ goto array
  unfolding choose rule sight has
  an_array = refl

  pub an_object : choose g (rule (power g) basic (sight c xs n 27 t)) ≡ eat 27 ▸ sub inside ▸ eat 28 ▸ end
  unfolding choose rule sight has
  an_object = refl

  pub a_local : choose g (rule (power g) basic (sight c xs n 67 t)) ≡ eat 67 ▸ goto binds
  unfolding choose rule sight has
  a_local = refl

  pub an_error : choose g (rule (power g) basic (sight c xs n 75 t)) ≡ eat 75 ▸ expression ▸ close 17 (span c.start c.end ∷ []) ▸ end
  unfolding choose rule sight has
  an_error = refl

pub imports_at : {k j m : ℕ} → k ≡ j → Imports j m → Imports k m
imports_at {m = m} e i = subst⁻¹ (λ (z : ℕ). Imports z m) e i
