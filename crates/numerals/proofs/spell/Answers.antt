use Rattle.numerals.specs.Value.{spelled}
use Rattle.numerals.proofs.Spellings.{spelled-next}
use Rattle.numerals.proofs.Caps.{capped_begun}
use Rattle.numerals.proofs.spell.Goals as goal

pub loop-b-init : goal.loop-b-init
unfolding spelled
loop-b-init c = capped_begun _

pub loop-b-preserved : goal.loop-b-preserved
loop-b-preserved c = rw (spelled-next c.args.text.now c.loop-b.b-index c.loop-b-test.true) (c.append-n.ensures.appends _ c.loop-b.invariant)
