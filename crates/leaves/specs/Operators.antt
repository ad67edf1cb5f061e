-- The binary operators of a setting as code finds them by a kind.
-- Assumes nothing.
use Rattle.std.specs.Prelude.{cond, ◌&&◌, List, [], ◌∷◌, ℕ, eqb, Option, None}
use Rattle.grammar.specs.Productions.{Operator, op, operators}
use Rattle.grammar.specs.Reading.{has}
use Rattle.grammar.specs.Operators.{binary}
use Rattle.grammar.specs.declared.operators.Operator as code

unfoldable pub infix_in : ℕ → ℕ → List Operator → Option code.Operator
infix_in g k [] = None
infix_in g k (op j w left right o ∷ rest) = cond (eqb k j && has g w) (binary o left right) (infix_in g k rest)

-- The byte, the left and the right power of the binary operator of a kind, under setting g.
unfoldable pub infix_under : ℕ → ℕ → Option code.Operator
infix_under g k = infix_in g k operators
