use Rattle.std.proofs.Common.{length, ◌-◌}
use Rattle.strings.specs.Valid.{ValidSoFar}
use Rattle.strings.proofs.utf8.valid_to.Given as goal

-- The bytes before i are UTF-8.
abbrev pub invariant-loop-i : goal.invariant-loop-i
invariant-loop-i l = ValidSoFar l.s l.i

abbrev pub decreases-loop-i : goal.decreases-loop-i
decreases-loop-i l = length l.s - l.i
