use Rattle.std.proofs.Common.{length, ◌-◌, ◌≤◌}
use Rattle.system.proofs.source.Source.fill.Given as goal

abbrev pub invariant-loop-done : goal.invariant-loop-done
invariant-loop-done l = l.done ≤ length l.buffer

abbrev pub decreases-loop-done : goal.decreases-loop-done
decreases-loop-done l = length l.initial.buffer - l.done
