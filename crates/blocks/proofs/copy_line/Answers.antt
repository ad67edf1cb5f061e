-- `blocks::copy_line` meets its contract: each byte passed is no LF and is stored, and those that have no room are passed as others are.
-- Assumes nothing.
use mathlib.Core.Path.{◌≡◌, sym, ◌∙◌, subst}
use mathlib.Core.Bool.{true≢false}
use native.Mathlib.Omega.{arith}
use Prim.Native.Nat.{ℕ, ◌+◌, ◌-◌, ◌<◌}
use lib.ListN.{length, get_or}
use borrow.Author.Tests.{tests, le-ltb}
use Rattle.std.proofs.Common.{rules, not, nat_eq}
use Rattle.blocks.specs.Blocks.{InLine}
use Rattle.blocks.specs.Inside.{Spans}
use Rattle.blocks.proofs.Runs.{Passed, passed_none, passed_more, passed_stop, passed_end, passed_then, spans_as}
use Rattle.blocks.proofs.Places.{copied_none, copied_more, copied_full}
use Rattle.blocks.proofs.copy_line.Goals.{then-i-source, else-i-source}
use Rattle.blocks.proofs.copy_line.Goals as goal

pub loop-w-init : goal.loop-w-init
loop-w-init c =
    let none : c.args.from + (c.args.at - c.args.at) ≡ c.args.from = omega arith in
    rw none (passed_none c.requires, copied_none c.requires, omega arith)

pub returns-then-not-goes_on : goal.returns-then-not-goes_on
returns-then-not-goes_on c =
    let inv = c.loop-w.invariant in
    let stops = c.if-not-goes_on.true in
    elim c.if-i-source.branch [
      | then-i-source w ↦ (passed_stop inv.0 (λ h. h (search (rules, tests))), inv.1.stored)
      | else-i-source w ↦ (passed_end inv.0 w.if-i-source.false, inv.1.stored)
    ]

pub loop-w-preserved : goal.loop-w-preserved
loop-w-preserved c =
    let inv = c.loop-w.invariant in
    let source = c.args.source.now in
    let i : ℕ = c.args.from + (c.loop-w.w - c.args.at) in
    let goes_on = c.if-not-goes_on.false in
    let passed : i < length source × InLine (get_or source i 0) =
    elim c.if-i-source.branch [
      | then-i-source w ↦ (w.if-i-source.true, λ q. search (rules, tests))
      | else-i-source w ↦ absurd (true≢false (sym goes_on ∙ w.goes_on-is ∙ le-ltb i (length source) w.if-i-source.false))
    ] in
    let next : c.args.from + (c.loop-w.w + 1 - c.args.at) ≡ i + 1 = omega (arith, c.loop-w.auto.w) in
    rw next (passed_more inv.0 passed.0 passed.1, copied_more inv.1 passed.0 (search rules), omega (arith, c.loop-w-test.true))

pub returns : goal.returns
returns c =
    let inv = c.loop-w.invariant in
    let source = c.args.source.now in
    let i : ℕ = c.args.from + (c.loop-w.w - c.args.at) in
    let j : ℕ = c.args.from + c.saturating_sub.result in
    let full : i ≡ j = omega (arith, inv.2, c.loop-w-test.false, c.saturating_sub.ensures) in
    let rest : Spans InLine source j c.skip.result =
    spans_as (λ b e. search (rules, tests)) (λ b e. search (rules, tests)) (c.skip.ensures.run (λ b. not (nat_eq b 10)) (λ b r q. search (rules, tests))) in (
      passed_then (subst (Passed InLine source c.args.from) full inv.0) rest,
      copied_full c.skip.result inv.1 (omega (arith, c.loop-w-test.false, c.loop-w.auto.out)) (omega (arith, full, rest.on)) rest.within,
    )
