use Rattle.std.proofs.Common.{◌-◌, ◌≤◌, length}
use Rattle.replay_lexemes.proofs.source_agrees.Given as goal

abbrev pub invariant-loop-at : goal.invariant-loop-at
invariant-loop-at l = l.at ≤ length l.source

abbrev pub decreases-loop-at : goal.decreases-loop-at
decreases-loop-at l = length l.source - l.at
