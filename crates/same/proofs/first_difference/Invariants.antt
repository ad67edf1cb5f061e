-- All lexemes so far are the same. The measure is what is left of the first source.
use Rattle.std.proofs.Common.{length, ◌-◌}
use Rattle.same.proofs.PartingLaws.{Along}
use Rattle.same.proofs.first_difference.Given as goal

abbrev pub invariant-loop-l : goal.invariant-loop-l
invariant-loop-l l = Along l.left l.right l.i l.j

abbrev pub decreases-loop-l : goal.decreases-loop-l
decreases-loop-l l = length l.left - l.i
