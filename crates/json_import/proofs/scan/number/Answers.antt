-- `number`: digit by digit, as the machine reads it.
-- Assumes nothing.
use Rattle.json_import.proofs.Scans.{shape_goes, over_is, walked_start, walked_more, walked_stop, walked_end}
use Rattle.json_import.proofs.scan.number.Goals as goal

pub loop-i-init : goal.loop-i-init
loop-i-init c = walked_start _ _ c.requires c.begun-sh.ensures

pub loop-i-preserved : goal.loop-i-preserved
loop-i-preserved c = walked_more c.loop-i.invariant c.loop-i-test.true c.in-Some.ensures (shape_goes _)

pub returns-in-None : goal.returns-in-None
returns-in-None c = walked_stop c.loop-i.invariant c.loop-i-test.true c.in-None.ensures over_is c.scanned.ensures

pub returns : goal.returns
returns c = walked_end c.loop-i.invariant c.loop-i-test.false c.scanned-2.ensures
