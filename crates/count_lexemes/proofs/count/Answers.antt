-- Each lexeme ends further on, within the source.
use Rattle.std.proofs.Common.{arith}
use Rattle.lexemes.proofs.KeptLaws.{next_bounds}
use Rattle.count_lexemes.proofs.count.Goals as goal

pub loop-l-smaller : goal.loop-l-smaller
loop-l-smaller c = omega (arith, next_bounds c.next_kept-l.ensures c.if-l-eq-EOF.false)

pub loop-l-preserved : goal.loop-l-preserved
loop-l-preserved c = omega (arith, next_bounds c.next_kept-l.ensures c.if-l-eq-EOF.false)
