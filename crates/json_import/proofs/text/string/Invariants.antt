-- `string`: its characters so far.
-- Assumes nothing.
use Rattle.std.proofs.Common.{◌-◌, length}
use Rattle.json_import.proofs.StringPlaces.{CharsSoFar}
use Rattle.json_import.proofs.text.string.Given as goal

abbrev pub invariant-loop-i : goal.invariant-loop-i
invariant-loop-i l = CharsSoFar l.text l.fn.out l.fn.from.at l.head l.i l.n l.out

abbrev pub decreases-loop-i : goal.decreases-loop-i
decreases-loop-i l = length l.text - l.i
