-- The bytes passed so far are no LFs, and are stored; no place beyond the output's end is reached.
use Prim.Native.Nat.{◌+◌, ◌-◌, ◌≤◌}
use Rattle.blocks.specs.Blocks.{InLine}
use Rattle.blocks.proofs.Runs.{Passed}
use Rattle.blocks.proofs.Places.{Copied}
use Rattle.blocks.proofs.copy_line.Given as goal

abbrev pub invariant-loop-w : goal.invariant-loop-w
invariant-loop-w l =
    Passed InLine l.source l.fn.from (l.fn.from + (l.w - l.fn.at))
    × Copied l.source l.fn.from l.fn.out l.fn.at (l.fn.from + (l.w - l.fn.at)) l.out l.w
    × l.w - l.fn.at ≤ l.w-end - l.fn.at
