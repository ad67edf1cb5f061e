-- `number`: the literal is read to the place where the loop is, and its shape is so far.
-- Assumes nothing.
use Rattle.json_import.specs.Inner.{shape}
use Rattle.json_import.proofs.Scans.{WalkedSoFar}
use Rattle.json_import.proofs.scan.number.Given as goal

abbrev pub invariant-loop-i : goal.invariant-loop-i
invariant-loop-i l = WalkedSoFar l.text l.at (shape l.sh) l.i
