use Rattle.std.proofs.Common.{◌-◌, ◌≤◌, length}
use Rattle.show.proofs.bad_blocks.line_at_fault.Given as goal

abbrev pub invariant-loop-i : goal.invariant-loop-i
invariant-loop-i l = l.i ≤ length l.source

abbrev pub decreases-loop-i : goal.decreases-loop-i
decreases-loop-i l = length l.source - l.i
