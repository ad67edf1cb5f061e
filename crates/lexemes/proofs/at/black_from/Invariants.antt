-- No white space so far.
-- Assumes nothing.
use Rattle.std.proofs.Common.{length, ◌-◌, ◌≤◌}
use Rattle.lexemes.proofs.Verbatim.{Blacks}
use Rattle.lexemes.proofs.at.black_from.Given as goal

abbrev pub invariant-loop-i : goal.invariant-loop-i
invariant-loop-i l = (l.i ≤ length l.src) × Blacks l.src l.fn.from l.i

abbrev pub decreases-loop-i : goal.decreases-loop-i
decreases-loop-i l = length l.src - l.i
