-- `scanned`: by whether the shape is whole.
-- Assumes nothing.
use Rattle.std.proofs.Common.{sym, ◌∙◌}
use Rattle.json_import.specs.Inner.{at_end, cut_off}
use Rattle.json_import.proofs.scan.scanned.Goals as goal

pub returns-then-is_whole : goal.returns-then-is_whole
returns-then-is_whole c = at_end (sym c.is_whole.ensures ∙ c.if-is_whole.true)

pub returns-else-is_whole : goal.returns-else-is_whole
returns-else-is_whole c = cut_off (sym c.is_whole.ensures ∙ c.if-is_whole.false)
