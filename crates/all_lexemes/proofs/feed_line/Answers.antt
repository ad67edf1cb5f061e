-- Each lexeme ends further on, within the source.
use Rattle.std.proofs.Common.{arith}
use Rattle.lexemes.proofs.Laws.{lexeme_bounds}
use Rattle.all_lexemes.proofs.feed_line.Goals as goal

pub loop-at-smaller : goal.loop-at-smaller
loop-at-smaller c = omega (arith, lexeme_bounds c.args.source.now c.loop-at-test.true c.lexeme_at-l.ensures)
