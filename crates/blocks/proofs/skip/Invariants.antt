-- The bytes passed so far are such as the test passes.
use Rattle.std.proofs.Common.{ℕ, ◌≤◌, ◌<◌, get_or, true}
use Rattle.blocks.proofs.skip.Given as goal

abbrev pub invariant-loop-i : goal.invariant-loop-i
invariant-loop-i g l = (k : ℕ) → l.fn.from ≤ k → k < l.i → goal.F-post g l.passes (get_or l.source k 0) true
