-- `array`: its bracket, or a first element.
-- Assumes nothing.
use Rattle.std.proofs.Common.{sym, ◌∙◌}
use Rattle.json_import.proofs.ValuePlaces.{array_empty, array_enter}
use Rattle.json_import.proofs.array.Goals as goal

pub returns-then-peek-eq93 : goal.returns-then-peek-eq93
returns-then-peek-eq93 c = array_empty c.blanks-at.ensures c.requires (sym c.peek.ensures ∙ c.if-peek-eq93.true) c.closed.ensures.0 c.closed.ensures.1

pub returns : goal.returns
returns c = array_enter c.blanks-at.ensures c.requires (λ z. c.if-peek-eq93.false (c.peek.ensures ∙ z))
