-- `blocks::block_text` meets its contract: a bad block has no text, and zeros are left.
-- Assumes nothing.
use mathlib.Core.Path.{◌∙◌, ap}
use Prim.Native.Nat.{ℕ}
use lib.ListN.{replicate}
use Rattle.strings.specs.Decoding.{missing}
use Rattle.strings.proofs.DecodingLaws.{cleared}
use Rattle.blocks.proofs.Whole.{walked_good, walked_bad}
use Rattle.blocks.proofs.block_text.Goals as goal

pub returns-in-Ok : goal.returns-in-Ok
returns-in-Ok c = walked_good c.in-Ok.ensures

pub returns-in-Err : goal.returns-in-Err
returns-in-Err c =
    let zero = c.clear.ensures ∙ ap (λ (n : ℕ). replicate n 0) c.lex_str_block.auto.out in
    cleared c.args.out.now _ 0 (missing (walked_bad c.in-Err.ensures)) zero
