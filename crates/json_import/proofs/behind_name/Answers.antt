-- `behind_name`: a colon, with white space round it.
-- Assumes nothing.
use Rattle.std.proofs.Common.{sym, ◌∙◌}
use Rattle.json_import.proofs.ValuePlaces.{no_colon_there, colon_there}
use Rattle.json_import.proofs.behind_name.Goals as goal

pub returns-then-peek-ne58 : goal.returns-then-peek-ne58
returns-then-peek-ne58 c = no_colon_there c.blanks-colon.ensures (λ z. c.if-peek-ne58.true (c.peek.ensures ∙ z))

pub returns : goal.returns
returns c = colon_there c.blanks-colon.ensures (sym c.peek.ensures ∙ c.if-peek-ne58.false) c.blanks.ensures
