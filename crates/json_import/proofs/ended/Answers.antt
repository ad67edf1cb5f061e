-- `ended`: white space, and then the end or not.
-- Assumes nothing.
use Rattle.json_import.proofs.NextPlaces.{text_ends, text_goes_on}
use Rattle.json_import.proofs.ended.Goals as goal

pub returns-then-end-text : goal.returns-then-end-text
returns-then-end-text c = text_goes_on c.blanks-end.ensures c.if-end-text.true

pub returns : goal.returns
returns c = text_ends c.blanks-end.ensures c.if-end-text.false
