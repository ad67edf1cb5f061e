-- No closing so far, and whether a star stands before.
-- Assumes nothing.
use Rattle.std.proofs.Common.{length, ◌-◌, ◌≤◌}
use Rattle.lexemes.proofs.Slashes.{Seeking}
use Rattle.lexemes.proofs.comments.close_from.Given as goal

abbrev pub invariant-loop-i : goal.invariant-loop-i
invariant-loop-i l = (l.i ≤ length l.src) × Seeking l.src l.fn.from l.i l.star

abbrev pub decreases-loop-i : goal.decreases-loop-i
decreases-loop-i l = length l.src - l.i
