-- `blocks::bars_at` meets its contract.
-- Assumes nothing.
use native.Mathlib.Omega.{arith}
use lib.ListN.{length-drop}
use Rattle.std.proofs.lemmas.List.{take_all}
use Rattle.blocks.proofs.Places.{bars_told}
use Rattle.blocks.proofs.bars_at.Goals as goal

pub returns : goal.returns
returns c =
    let source = c.args.source.now in
    bars_told source c.args.i _ (take_all _ _ (omega (arith, length-drop c.args.i source))) c.requires c.starts_with.ensures.value
