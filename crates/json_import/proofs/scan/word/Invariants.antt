-- `word`: so many letters stand there.
-- Assumes nothing.
use Rattle.json_import.proofs.Places.{SpeltSoFar}
use Rattle.json_import.proofs.scan.word.Given as goal

abbrev pub invariant-loop-i : goal.invariant-loop-i
invariant-loop-i l = SpeltSoFar l.text l.letters l.at l.i
