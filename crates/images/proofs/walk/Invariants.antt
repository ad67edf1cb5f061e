use Rattle.std.proofs.Common.{length, ◌-◌}
use Rattle.images.specs.Inner.{age_code}
use Rattle.images.proofs.WalkLaws.{Walking}
use Rattle.images.proofs.walk.Given as goal

abbrev pub invariant-loop-at : goal.invariant-loop-at
invariant-loop-at l = Walking l.bytes l.initial.links l.links l.at l.n l.standing (age_code l.age)

abbrev pub decreases-loop-at : goal.decreases-loop-at
decreases-loop-at l = length l.bytes - l.at
