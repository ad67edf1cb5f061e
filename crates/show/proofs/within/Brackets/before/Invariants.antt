use Rattle.std.proofs.Common.{◌-◌}
use Rattle.show.proofs.within.Brackets.before.Given as goal

abbrev pub decreases-loop-at : goal.decreases-loop-at
decreases-loop-at l = l.to - l.at
