-- `blocks::lines` meets its contract, by what `Readings` says of each way out and of a turn.
-- Assumes nothing.
use mathlib.Core.Path.{sym, ap, ◌∙◌}
use mathlib.Core.Bool.{false}
use Prim.Native.Nat.{◌<◌}
use native.Mathlib.Omega.{arith}
use lib.ListN.{length}
use lib.Seq.{sets}
use Rattle.blocks.specs.Inside.{an_unexpected_end}
use Rattle.blocks.proofs.Places.{does_start, not_start, spanned_feeds}
use Rattle.blocks.proofs.Readings.{stored_as, counted_as, para, reading_start, reading_more, other_line, cut_body, blank_body, close_body}
use Rattle.blocks.proofs.lines.Goals as goal

pub loop-body-init : goal.loop-body-init
loop-body-init c =
    let pre = c.requires in
    reading_start _ pre.1 (omega (arith, c.put_feeds-w.ensures.1, pre.1.on))

pub returns-then-lf-source : goal.returns-then-lf-source
returns-then-lf-source c =
    let pre = c.requires in
    rw c.at.ensures (an_unexpected_end (cut_body pre.0 pre.1 pre.2 c.loop-body.invariant c.copy_line-lf.ensures.0 (omega (arith, c.if-lf-source.true))) c.if-lf-source.true)

pub returns-then-i-source : goal.returns-then-i-source
returns-then-i-source c =
    let pre = c.requires in
    let line = c.copy_line-lf.ensures.0 in
    let empty = c.skip_empty-next.ensures in
    let fed : c.copy_line-lf.result < length c.args.source.now = omega (arith, line.within, c.if-lf-source.false) in
    let other = other_line empty (not_start c.check_whitespace.ensures c.if-not-check_whitespace.true) in
    rw c.at-then-i-source.ensures
    (an_unexpected_end
    (blank_body pre.0 pre.1 pre.2 c.loop-body.invariant (para _ line fed empty) other c.skip_blanks-i.ensures (omega (arith, c.if-i-source.true)))
    c.if-i-source.true)

pub returns-then-not-check_whitespace : goal.returns-then-not-check_whitespace
returns-then-not-check_whitespace c =
    let pre = c.requires in
    let entry = c.args.out.now in
    let line = c.copy_line-lf.ensures in
    let empty = c.skip_empty-next.ensures in
    let fed : c.copy_line-lf.result < length c.args.source.now = omega (arith, line.0.within, c.if-lf-source.false) in
    let other = other_line empty (not_start c.check_whitespace.ensures c.if-not-check_whitespace.true) in
    let put = c.put_feeds-w.ensures in
    close_body pre.0 pre.1 pre.2 c.loop-body.invariant (para _ line.0 fed empty) other c.skip_blanks-i.ensures entry line.0 fed empty
    line.1 (put.0 ∙ ap (sets entry 0) (sym (spanned_feeds pre.0))) (omega (arith, put.1)) (omega (arith, c.skip_blanks-i.ensures.within, c.if-i-source.false)) c.close.ensures

pub loop-body-preserved : goal.loop-body-preserved
loop-body-preserved c =
    let now = c.loop-body in
    let line = c.copy_line-lf.ensures in
    let empty = c.skip_empty-next.ensures in
    let fed : c.copy_line-lf.result < length c.args.source.now = omega (arith, line.0.within, c.if-lf-source.false) in
    let starts = does_start c.check_whitespace.ensures c.if-not-check_whitespace.false in
    let put = c.put_feeds-w-in-loop-body.ensures in
    reading_more now.invariant (para _ line.0 fed empty) (omega (arith, line.0.on, empty.on)) (omega arith) starts.0 starts.1
    (put.0 ∙ stored_as line.0 fed empty now.out now.w false line.1)
    (put.1 ∙ counted_as line.0 fed empty now.w false)
