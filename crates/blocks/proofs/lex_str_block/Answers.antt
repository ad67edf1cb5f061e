-- `blocks::lex_str_block` meets its contract.
-- Assumes nothing.
use native.Mathlib.Omega.{arith}
use Rattle.blocks.proofs.Whole.{walked_past, walked_no_line, walked_no_new_line, walked_no_indent, walked_body}
use mathlib.Core.Path.{◌≡◌}
use borrow.Author.Tests.{tests}
use Rattle.std.proofs.Common.{rules, ℕ, List, true, nat_eq, ◌||◌}
use Rattle.blocks.specs.Blocks.{HeaderBlank}
use Rattle.blocks.specs.Inside.{Spans}
use Rattle.blocks.proofs.Runs.{spans_as}
use Rattle.blocks.proofs.lex_str_block.Goals as goal

-- what the header's blanks are, as its test says
blanks_of : {s : List ℕ} {i j : ℕ} → Spans (λ b. (nat_eq b 32 || nat_eq b 9 || nat_eq b 13) ≡ true) s i j → Spans HeaderBlank s i j
blanks_of d = spans_as (λ b e. search (rules, tests)) (λ b e. search (rules, tests)) d

pub returns-then-source-at : goal.returns-then-source-at
returns-then-source-at c = rw c.at.ensures (walked_past c.if-source-at.true)

pub returns-then-lf-source : goal.returns-then-lf-source
returns-then-lf-source c = rw c.at-then-lf-source.ensures (walked_no_line c.skip_dash-open.ensures (blanks_of (c.skip-lf.ensures.run _ (λ b r q. search (rules, tests)))) c.if-lf-source.true)

pub returns-then-source-lf-ne10 : goal.returns-then-source-lf-ne10
returns-then-source-lf-ne10 c =
    let blanks = blanks_of (c.skip-lf.ensures.run _ (λ b r q. search (rules, tests))) in
    rw c.at-then-source-lf-ne10.ensures
    (walked_no_new_line c.skip_dash-open.ensures blanks (omega (arith, blanks.within, c.if-lf-source.false)) c.if-source-lf-ne10.true c.eat_error.ensures)

pub returns-then-content-first : goal.returns-then-content-first
returns-then-content-first c =
    let blanks = blanks_of (c.skip-lf.ensures.run _ (λ b r q. search (rules, tests))) in
    rw c.at-then-content-first.ensures
    (walked_no_indent c.skip_dash-open.ensures blanks (omega (arith, blanks.within, c.if-lf-source.false)) c.if-source-lf-ne10.false
    c.skip_empty-first.ensures c.skip_blanks-content.ensures c.if-content-first.true c.eat_error-then-content-first.ensures)

pub returns : goal.returns
returns c =
    let blanks = blanks_of (c.skip-lf.ensures.run _ (λ b r q. search (rules, tests))) in
    walked_body c.skip_dash-open.ensures blanks (omega (arith, blanks.within, c.if-lf-source.false)) c.if-source-lf-ne10.false c.lines.ensures
