use Rattle.std.proofs.Common.{◌-◌, length}
use Rattle.all_lexemes.proofs.feed_line.Given as goal

abbrev pub decreases-loop-at : goal.decreases-loop-at
decreases-loop-at l = length l.source - l.at
