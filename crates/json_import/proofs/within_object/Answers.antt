-- `within_object`: a comma and a name, a brace, or neither.
-- Assumes nothing.
use Rattle.std.proofs.Common.{arith, sym, ◌∙◌}
use Rattle.json_import.proofs.NextPlaces.{object-closed, object_stuck}
use Rattle.json_import.proofs.within_object.Goals as goal

pub returns-in-125 : goal.returns-in-125
returns-in-125 c = object-closed c.requires (sym c.peek.ensures ∙ c.in-125.is) c.closed.ensures.0 c.closed.ensures.1

pub returns-in_default : goal.returns-in_default
returns-in_default c = object_stuck c.requires (λ z. omega (arith, z)) (λ z. omega (arith, z))
