-- `word`: letter by letter, as the machine spells it.
-- Assumes nothing.
use Rattle.std.proofs.Common.{arith}
use Rattle.std.proofs.lemmas.Grind.{common_steps}
use Rattle.json_import.proofs.Places.{spelt_more, spelt_other, spelt_end}
use Rattle.json_import.proofs.scan.word.Goals as goal

pub returns-then-ne : goal.returns-then-ne
returns-then-ne c = spelt_other c.loop-i.invariant c.loop-i-test.true (λ l e. grind (arith, common_steps))

pub loop-i-preserved : goal.loop-i-preserved
loop-i-preserved c = spelt_more c.loop-i.invariant c.loop-i-test.true (grind (arith, common_steps)) (grind (arith, common_steps))

pub returns : goal.returns
returns c = spelt_end c.loop-i.invariant c.loop-i-test.false
