-- A character read byte by byte; what no longer fits the table ends it.
use Rattle.std.proofs.Common.{arith}
use Rattle.strings.proofs.Reading.{past_end, no_row, first_read, next_read, not_read, all_read}
use Rattle.strings.proofs.utf8.char_len.Goals as goal

pub returns-in_err-get : goal.returns-in_err-get
returns-in_err-get c = rw c.from_residual.ensures (past_end _ _ c.in_err-get.ensures.lookup.3)

pub returns-in_err-lead : goal.returns-in_err-lead
returns-in_err-lead c =
    let first = c.in_ok-get.ensures.lookup.3 in
    rw c.from_residual-in_err-lead.ensures (no_row _ _ first.0 (rw (first.1 0) at c.in_err-lead.ensures))

pub loop-k-init : goal.loop-k-init
loop-k-init c =
    let first = c.in_ok-get.ensures.lookup.3 in
    let row = c.in_ok-lead.ensures in
    first_read first.0 (λ z. omega arith) (rw (first.1 0) at row.1)

pub returns-in_err-b : goal.returns-in_err-b
returns-in_err-b c =
    let none = c.in_err-b.ensures.lookup.3 in
    rw c.from_residual-in_err-b.ensures (not_read c.loop-k-test.true c.loop-k.invariant (λ g x. omega arith))

pub returns-then-b-low : goal.returns-then-b-low
returns-then-b-low c =
    let b = c.in_ok-b.ensures.lookup.3.1 0 in
    not_read c.loop-k-test.true c.loop-k.invariant (λ g x. omega arith)

pub loop-k-preserved : goal.loop-k-preserved
loop-k-preserved c =
    let next = c.in_ok-b.ensures.lookup.3 in
    let b = next.1 0 in
    next_read c.loop-k-test.true c.loop-k.invariant next.0 (omega arith)

pub returns : goal.returns
returns c = (omega (arith, c.in_ok-lead.ensures), all_read (omega (arith, c.in_ok-lead.ensures)) c.loop-k.invariant)
