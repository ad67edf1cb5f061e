-- All bytes so far pass.
-- Assumes nothing.
use Rattle.std.proofs.Common.{length, get_or, ◌-◌, ℕ, ◌≤◌, ◌<◌, true}
use Rattle.lexemes.proofs.bytes.run_while.Given as goal

abbrev pub invariant-loop-i : goal.invariant-loop-i
invariant-loop-i g l = (l.fn.from ≤ l.i) × (l.i ≤ length l.src) × ((k : ℕ) → l.fn.from ≤ k → k < l.i → goal.F-post g l.passes (get_or l.src k 0) true)

abbrev pub decreases-loop-i : goal.decreases-loop-i
decreases-loop-i g l = length l.src - l.i
