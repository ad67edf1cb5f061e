use Rattle.mass.proofs.MemberLaws.{Going}
use Rattle.mass.proofs.members.raised.Given as goal

abbrev pub invariant-loop-m : goal.invariant-loop-m
invariant-loop-m l = Going l.bytes l.links l.first l.n l.own.undecided l.own.mass l.own.depth l.m

abbrev pub decreases-loop-m : goal.decreases-loop-m
decreases-loop-m l = l.m
