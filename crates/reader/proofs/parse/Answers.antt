-- `reader::parse` meets its contract.
-- Assumes nothing.
use native.Mathlib.Omega.{arith}
use Rattle.leaves.proofs.Steps.{handed}
use Rattle.reader.proofs.ReaderLaws.{parses_broken, parses_more, parses_tree}
use Rattle.reader.proofs.parse.Goals as goal

pub expr-requires : goal.expr-requires
expr-requires c = record { stands = c.cursor_at.ensures.1; room = omega arith }

pub returns-in_err-done : goal.returns-in_err-done
returns-in_err-done c = parses_broken c.cursor_at.ensures c.expr.ensures c.in_err-done.was (handed c.from_residual.ensures)

pub returns-then-done-ne-EOF : goal.returns-then-done-ne-EOF
returns-then-done-ne-EOF c = parses_more c.cursor_at.ensures c.expr.ensures c.in_ok-done.was c.if-done-ne-EOF.true c.error.ensures

pub returns : goal.returns
returns c = parses_tree c.cursor_at.ensures c.expr.ensures c.in_ok-done.was c.if-done-ne-EOF.false
