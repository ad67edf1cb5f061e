-- `lexemes::scan::class_by` meets its contract.
-- Assumes nothing.
use mathlib.Core.Path.{sym, ◌∙◌}
use mathlib.Core.List.{[], ◌∷◌}
use native.Mathlib.Omega.{arith}
use Rattle.lexemes.proofs.Classes.{else_none, none_begun}
use Rattle.lexemes.proofs.Numerals.{denied}
use Rattle.lexemes.proofs.Operations.{is_operator, no_operator}
use Rattle.lexemes.proofs.scan.class_by.Goals as goal

pub returns-then-is_some : goal.returns-then-is_some
returns-then-is_some c = is_operator c.args.b c.ranges.b.fits c.single_kind.result c.single_kind.ensures (sym c.is_some.ensures ∙ c.if-is_some.true)

-- None of these.
pub returns-else-is_some : goal.returns-else-is_some
unfolding else_none
returns-else-is_some c =
    none_begun 0 255 (47 ∷ 35 ∷ 64 ∷ 39 ∷ 34 ∷ 57 ∷ 56 ∷ 55 ∷ 54 ∷ 53 ∷ 52 ∷ 51 ∷ 50 ∷ 49 ∷ 48 ∷ 13 ∷ 10 ∷ 9 ∷ 32 ∷ []) tt c.args.b c.ranges.b.fits (omega arith) (omega arith)
    ((λ x. omega (arith, x)), ((λ x. omega (arith, x)), ((λ x. omega (arith, x)), ((λ x. omega (arith, x)), ((λ x. omega (arith, x)), ((λ x. omega (arith, x)), ((λ x. omega (arith, x)), ((λ x. omega (arith, x)), ((λ x. omega (arith, x)), ((λ x. omega (arith, x)), ((λ x. omega (arith, x)), ((λ x. omega (arith, x)), ((λ x. omega (arith, x)), ((λ x. omega (arith, x)), ((λ x. omega (arith, x)), ((λ x. omega (arith, x)), ((λ x. omega (arith, x)), ((λ x. omega (arith, x)), ((λ x. omega (arith, x)), tt)))))))))))))))))))
    (denied c.if-is_alpha.false c.is_alpha.ensures) (no_operator c.args.b c.single_kind.result c.single_kind.ensures (sym c.is_some.ensures ∙ c.if-is_some.false))
