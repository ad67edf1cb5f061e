-- All lexemes so far are dropped.
-- Assumes nothing.
use Rattle.std.proofs.Common.{length, ◌-◌}
use Rattle.lexemes.proofs.KeptLaws.{Skipping}
use Rattle.lexemes.proofs.kept.next_kept.Given as goal

abbrev pub invariant-loop-i : goal.invariant-loop-i
invariant-loop-i l = Skipping l.src l.fn.at l.i

abbrev pub decreases-loop-i : goal.decreases-loop-i
decreases-loop-i l = length l.src - l.i
