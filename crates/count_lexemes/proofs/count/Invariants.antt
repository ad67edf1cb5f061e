use Rattle.std.proofs.Common.{◌-◌, ◌≤◌, length}
use Rattle.count_lexemes.proofs.count.Given as goal

abbrev pub invariant-loop-l : goal.invariant-loop-l
invariant-loop-l l = (l.n ≤ l.at) × (l.at ≤ length l.src)

abbrev pub decreases-loop-l : goal.decreases-loop-l
decreases-loop-l l = length l.src - l.at
