-- `parser::suffix_at` meets its contract.
-- Assumes nothing.
use mathlib.Core.Path.{refl, sym, subst}
use mathlib.Core.Logic.{inl, inr}
use mathlib.Core.List.{[], ◌∷◌}
use mathlib.Core.Bool.{Bool, true, false}
use mathlib.Core.Path.{◌≡◌}
use Prim.Native.Nat.{ℕ}
use types.Run.{OneOf}
use Rattle.grammar.specs.Productions.{exp_null_coaelse}
use Rattle.grammar.specs.Reading.{has}
use Rattle.leaves.specs.Lexing.{Suffixed, mark, dot, bracket, paren, brace, no_mark, none}
use Rattle.leaves.proofs.parser.suffix_at.Goals as goal

-- at `?` its switch says it
marked : {g k : ℕ} → k ≡ 36 → (t : Bool) → t ≡ has g exp_null_coaelse → Suffixed g k t
marked k true h = mark k (sym h)
marked k false h = no_mark k (sym h)

begins : {g k : ℕ} → OneOf (23 ∷ 25 ∷ 27 ∷ 31 ∷ []) k → Suffixed g k true
begins (inl e) = bracket e
begins (inr (inl e)) = paren e
begins (inr (inr (inl e))) = brace e
begins (inr (inr (inr e))) = dot e

begins_none : {g k : ℕ} → ¬ (k ≡ 36) → ¬ (OneOf (23 ∷ 25 ∷ 27 ∷ 31 ∷ []) k) → Suffixed g k false
begins_none h n = none h (λ z. n (inr (inr (inr z)))) (λ z. n (inl z)) (λ z. n (inr (inl z))) (λ z. n (inr (inr (inl z))))

pub returns-then-kind-eq-QUESTION_MARK : goal.returns-then-kind-eq-QUESTION_MARK
returns-then-kind-eq-QUESTION_MARK c = marked c.if-kind-eq-QUESTION_MARK.true _ c.has_null_coaelse.ensures

pub returns-in-31 : goal.returns-in-31
returns-in-31 c = begins c.in-31.is

pub returns-in_default : goal.returns-in_default
returns-in_default c = begins_none c.if-kind-eq-QUESTION_MARK.false c.in_default.in_default-own.rest.1
