use Rattle.std.proofs.Common.{map, arith}
use Rattle.grammar.specs.Laid.{part_of}
use Rattle.images.proofs.PartWalk.{row_numbers, row_seven, row_code, row_past, code_some, goes_on, is_done, fails, gets_within}
use Rattle.images.proofs.parts.taken.Goals as goal

pub returns-in_err-got-clause-walk : goal.returns-in_err-got-clause-walk
returns-in_err-got-clause-walk c =
    rw c.from_residual.ensures
    (fails c.args.bytes.now c.args.from c.args.end (row_numbers (map part_of c.args.parts.now)) (row_seven c.args.parts.now c.requires.2) c.loop-i.invariant (omega (arith, c.requires.2)) (row_code c.args.parts.now c.loop-i.i _ c.loop-i-test.true) (code_some _) c.in_err-got.ensures)

pub loop-i-preserved : goal.loop-i-preserved
loop-i-preserved c =
    goes_on c.args.bytes.now c.args.from c.args.end (row_numbers (map part_of c.args.parts.now)) (row_seven c.args.parts.now c.requires.2) c.loop-i.invariant (omega (arith, c.requires.2)) (row_code c.args.parts.now c.loop-i.i _ c.loop-i-test.true) (code_some _) c.in_ok-got.ensures.0
    (gets_within c.loop-i.invariant.within c.in_ok-got.ensures.0) c.in_ok-got.ensures.1

pub returns-clause-walk : goal.returns-clause-walk
returns-clause-walk c = rw c.then_some.ensures (is_done c.args.bytes.now c.args.from c.args.end (row_numbers (map part_of c.args.parts.now)) (row_seven c.args.parts.now c.requires.2) c.loop-i.invariant (row_past c.args.parts.now c.loop-i.i c.loop-i-test.false))
