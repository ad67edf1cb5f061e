use Rattle.std.proofs.Common.{length}
use Rattle.mass.proofs.FillLaws.{Fillings}
use Rattle.mass.proofs.fill.Given as goal

abbrev pub invariant-loop-i : goal.invariant-loop-i
invariant-loop-i l = Fillings l.bytes l.links l.n (length l.initial.list) l.count l.i l.list
