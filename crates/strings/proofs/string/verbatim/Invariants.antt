use Rattle.std.proofs.Common.{length, ◌-◌}
use Rattle.strings.specs.Literals.{Verbatim}
use Rattle.strings.proofs.Walk.{Walked}
use Rattle.strings.proofs.Steps.{Faultless}
use Rattle.strings.proofs.string.verbatim.Given as goal

-- What is read so far is stored, and what is left goes on from there.
abbrev pub invariant-loop-at : goal.invariant-loop-at
invariant-loop-at l = Walked (Verbatim l.quote) Faultless l.s l.initial.out l.at l.n l.out

abbrev pub decreases-loop-at : goal.decreases-loop-at
decreases-loop-at l = length l.s - l.at
