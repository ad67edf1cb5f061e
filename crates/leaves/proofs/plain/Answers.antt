-- `plain` meets its contract: at each byte what is written is what stands before it without its underscores.
-- Assumes nothing.
use Rattle.leaves.proofs.TextLaws.{plainly_begun, plainly_skips, plainly_takes}
use Rattle.leaves.proofs.plain.Goals as goal

pub loop-b-init : goal.loop-b-init
loop-b-init c = plainly_begun c.args.text.now c.args.part.now

pub loop-b-preserved-then-b-eq95 : goal.loop-b-preserved-then-b-eq95
loop-b-preserved-then-b-eq95 c = plainly_skips c.loop-b.invariant c.loop-b-test.true c.if-b-eq95.true

pub loop-b-preserved : goal.loop-b-preserved
loop-b-preserved c = plainly_takes c.loop-b.invariant c.loop-b-test.true c.if-b-eq95.false c.put.ensures
