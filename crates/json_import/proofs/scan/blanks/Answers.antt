-- `blanks`: byte by byte, up to one that is not blank.
-- Assumes nothing.
use Rattle.std.proofs.Common.{sym, ◌∙◌}
use Rattle.json_import.proofs.Scans.{blanks_start, blanks_more}
use Rattle.json_import.proofs.scan.blanks.Goals as goal

pub loop-at-init : goal.loop-at-init
loop-at-init c = blanks_start _ _ c.requires

pub loop-at-preserved : goal.loop-at-preserved
loop-at-preserved c = blanks_more c.loop-at.invariant c.loop-at-test.true (sym c.is_blank.ensures ∙ c.if-not-is_blank.false)
