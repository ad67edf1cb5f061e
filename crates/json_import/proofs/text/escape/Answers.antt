-- `escape`: a letter, or four digits.
-- Assumes nothing.
use Rattle.std.proofs.Common.{arith}
use Rattle.json_import.proofs.EscapePlaces.{slash_u, slash_none, no_letter_byte}
use Rattle.json_import.proofs.text.escape.Goals as goal

pub returns-in-117 : goal.returns-in-117
returns-in-117 c = slash_u c.peek.ensures c.in-117.is c.unit.ensures

pub returns-in_default : goal.returns-in_default
returns-in_default c = slash_none c.peek.ensures (λ z. omega (arith, z)) (no_letter_byte _ (λ z. omega (arith, z)) (λ z. omega (arith, z)) (λ z. omega (arith, z)) (λ z. omega (arith, z)) (λ z. omega (arith, z)) (λ z. omega (arith, z)) (λ z. omega (arith, z)) (λ z. omega (arith, z)))
