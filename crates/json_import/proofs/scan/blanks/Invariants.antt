-- `blanks`: white space reaches to the place where the loop is.
-- Assumes nothing.
use Rattle.json_import.proofs.Scans.{BlanksSoFar}
use Rattle.json_import.proofs.scan.blanks.Given as goal

abbrev pub invariant-loop-at : goal.invariant-loop-at
invariant-loop-at l = BlanksSoFar l.text l.from l.at
