use Rattle.strings.specs.Valid.{NoneAbove}
use Rattle.strings.proofs.utf8.largest.Given as goal

-- Of the bytes passed none is above the largest so far.
abbrev pub invariant-loop-b : goal.invariant-loop-b
invariant-loop-b l = NoneAbove l.s l.from l.b-index l.most
