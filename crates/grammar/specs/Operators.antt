-- The operators as code finds them by a kind: from the lists of Productions.antt.
-- Assumes nothing.
use Rattle.std.specs.Prelude.{cond, List, [], ◌∷◌, ℕ, eqb, Option, Some, None}
use Rattle.grammar.specs.Productions.{Sign, sign, signs, Operator, op, operators}
use Rattle.grammar.specs.declared.operators.Operator as code

-- R19, R44. unary_op: the byte of the prefix operator of a kind.
unfoldable pub sign_in : ℕ → List Sign → Option ℕ
sign_in k [] = None
sign_in k (sign j o ∷ rest) = cond (eqb k j) (Some o) (sign_in k rest)

unfoldable pub prefix_of : ℕ → Option ℕ
prefix_of k = sign_in k signs

-- A binary operator with its byte and its two powers.
abbrev pub binary : ℕ → ℕ → ℕ → Option code.Operator
binary o left right = Some (record { byte = o; left = left; right = right })

-- R18, R44. binary_op, infix_binding_power: the byte, the left and the right power of the binary operator of a kind, whatever the setting.
unfoldable pub operator_in : ℕ → List Operator → Option code.Operator
operator_in k [] = None
operator_in k (op j g left right o ∷ rest) = cond (eqb k j) (binary o left right) (operator_in k rest)

unfoldable pub infix_of : ℕ → Option code.Operator
infix_of k = operator_in k operators
