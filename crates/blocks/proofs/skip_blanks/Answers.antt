-- `blocks::skip_blanks` meets its contract.
-- Assumes nothing.
use Rattle.std.proofs.Common.{rules, ◌||◌, nat_eq}
use borrow.Author.Tests.{tests}
use Rattle.blocks.proofs.Runs.{spans_as}
use Rattle.blocks.proofs.skip_blanks.Goals as goal

pub returns : goal.returns
returns c =
    spans_as (λ b e. search (rules, tests)) (λ b e. search (rules, tests)) (c.skip.ensures.run (λ b. nat_eq b 32 || nat_eq b 9) (λ b r q. search (rules, tests)))
