-- What the loop over content lines keeps: the lines before are read and stored.
use Rattle.std.proofs.Common.{◌-◌, length}
use Rattle.blocks.proofs.Readings.{Reading}
use Rattle.blocks.proofs.lines.Given as goal

abbrev pub invariant-loop-body : goal.invariant-loop-body
invariant-loop-body l = Reading l.source l.first l.content l.initial.out l.initial.w l.out l.w l.from

abbrev pub decreases-loop-body : goal.decreases-loop-body
decreases-loop-body l = length l.source - l.from
