use Rattle.numerals.proofs.Scans.{Sought}
use Rattle.numerals.proofs.find.Given as goal

-- Neither byte was met.
abbrev pub invariant-loop-i : goal.invariant-loop-i
invariant-loop-i l = Sought l.text l.x l.y l.i
