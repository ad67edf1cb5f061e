use Rattle.std.proofs.Common.{length, ◌-◌}
use Rattle.strings.specs.Literals.{Quoted, BadEscape}
use Rattle.strings.proofs.Walk.{Walked}
use Rattle.strings.proofs.string.unescape.Given as goal

-- What is read so far is stored, and what is left goes on from there.
abbrev pub invariant-loop-i : goal.invariant-loop-i
invariant-loop-i l = Walked Quoted BadEscape l.s l.initial.out l.i l.n l.out

abbrev pub decreases-loop-i : goal.decreases-loop-i
decreases-loop-i l = length l.s - l.i
