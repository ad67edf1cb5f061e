-- `within_array`: a comma, a bracket, or neither.
-- Assumes nothing.
use Rattle.std.proofs.Common.{arith, sym, ◌∙◌}
use Rattle.json_import.proofs.NextPlaces.{array_again, array-closed, array_stuck}
use Rattle.json_import.proofs.within_array.Goals as goal

pub returns-in-44 : goal.returns-in-44
returns-in-44 c = array_again c.requires (sym c.peek.ensures ∙ c.in-44.is) c.blanks-at.ensures

pub returns-in-93 : goal.returns-in-93
returns-in-93 c = array-closed c.requires (sym c.peek.ensures ∙ c.in-93.is) c.closed.ensures.0 c.closed.ensures.1

pub returns-in_default : goal.returns-in_default
returns-in_default c = array_stuck c.requires (λ z. omega (arith, z)) (λ z. omega (arith, z))
