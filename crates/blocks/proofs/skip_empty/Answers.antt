-- `blocks::skip_empty` meets its contract.
-- Assumes nothing.
use Rattle.std.proofs.Common.{rules, nat_eq}
use borrow.Author.Tests.{tests}
use Rattle.blocks.proofs.Runs.{spans_as}
use Rattle.blocks.proofs.skip_empty.Goals as goal

pub returns : goal.returns
returns c =
    spans_as (λ b e. search (rules, tests)) (λ b e. search (rules, tests)) (c.skip.ensures.run (λ b. nat_eq b 10) (λ b r q. search (rules, tests)))
