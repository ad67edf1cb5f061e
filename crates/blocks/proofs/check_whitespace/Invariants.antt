-- The bytes compared so far are the same.
use Prim.Native.Nat.{ℕ, ◌+◌, ◌<◌}
use mathlib.Core.Path.{◌≡◌}
use lib.ListN.{get_or}
use Rattle.blocks.proofs.check_whitespace.Given as goal

abbrev pub invariant-loop-k : goal.invariant-loop-k
invariant-loop-k l = (j : ℕ) → j < l.k → get_or l.source (l.fn.first + j) 0 ≡ get_or l.source (l.fn.i + j) 0
