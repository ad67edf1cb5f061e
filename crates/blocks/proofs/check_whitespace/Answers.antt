-- `blocks::check_whitespace` meets its contract.
-- Assumes nothing.
use native.Mathlib.Omega.{arith}
use lib.ListN.{length-drop}
use Rattle.std.proofs.Common.{rules}
use Rattle.std.proofs.lemmas.List.{take_all}
use Rattle.std.proofs.lemmas.Slice.{between_is}
use Rattle.blocks.proofs.Places.{starts_told, starts_there, starts_short, starts_not}
use Rattle.blocks.proofs.check_whitespace.Goals as goal

-- a long indent
pub returns-then-n-gt-SHORT : goal.returns-then-n-gt-SHORT
returns-then-n-gt-SHORT c =
    let source = c.args.source.now in
    let pre = c.requires in
    starts_told source c.args.first c.args.content c.args.i _ pre.0 pre.1 pre.2 (take_all _ _ (omega (arith, length-drop c.args.i source)))
    (search (rules, between_is)) c.starts_with.ensures.value

pub returns-then-source-i : goal.returns-then-source-i
returns-then-source-i c = let pre = c.requires in starts_short _ _ _ _ pre.0 pre.1 pre.2 c.if-source-i.true

pub returns-then-source-first : goal.returns-then-source-first
returns-then-source-first c = let pre = c.requires in starts_not _ _ _ _ pre.0 pre.1 _ c.loop-k-test.true c.if-source-first.true

pub returns : goal.returns
returns c =
    let pre = c.requires in
    starts_there _ _ _ _ pre.0 pre.1 (omega (arith, pre.2, c.if-source-i.false)) (λ j l. c.loop-k.invariant j (omega (arith, l, c.loop-k-test.false)))
