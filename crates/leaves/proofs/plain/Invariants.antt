-- What is written is what stands before `b` without its underscores.
-- Assumes nothing.
use Rattle.leaves.proofs.TextLaws.{Plainly}
use Rattle.leaves.proofs.plain.Given as goal

abbrev pub invariant-loop-b : goal.invariant-loop-b
invariant-loop-b l = Plainly l.text l.initial.part l.b-index l.n l.part
