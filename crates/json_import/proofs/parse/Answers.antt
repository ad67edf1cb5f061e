-- `parse`: a value within the open ones, and what comes behind it.
-- Assumes nothing.
use Rattle.std.proofs.Common.{refl, arith}
use Rattle.json_import.proofs.Places.{err_out}
use Rattle.json_import.proofs.ParsePlaces.{first_wanted, wanted_broken, wanted_on, stood_ready, stood_below, stood_ended, stood_left_over, stood_standing, stood_on, stood_broken, value_later, within_later}
use Rattle.json_import.proofs.parse.Goals as goal

pub loop-step-init : goal.loop-step-init
loop-step-init c = (first_wanted c.blanks.ensures, refl)

pub returns-in_err-step : goal.returns-in_err-step
returns-in_err-step c = rw (err_out c.from_residual.ensures.1) (wanted_broken c.loop-step.invariant.0 c.in_err-step.ensures)

pub loop-step-2-init : goal.loop-step-2-init
loop-step-2-init c =
    let wanted = c.loop-step.invariant in
    (wanted_on wanted.0 wanted.1 c.in_ok-step.ensures, wanted.1, omega (arith, value_later c.in_ok-step.ensures))

pub returns-in_err-ended : goal.returns-in_err-ended
returns-in_err-ended c =
    let x = rw c.in-Whole.is at c.loop-step-2.invariant.0 in
    rw (err_out c.from_residual-in_err-ended.ensures.1) (stood_left_over c.if-depth-eq0.true x c.in_err-ended.ensures)

pub returns-then-depth-eq0 : goal.returns-then-depth-eq0
returns-then-depth-eq0 c = stood_ended c.if-depth-eq0.true (rw c.in-Whole.is at c.loop-step-2.invariant.0) c.in_ok-ended.ensures

pub within-requires : goal.within-requires
within-requires c =
    let x = rw c.in-Whole.is at c.loop-step-2.invariant.0 in
    (stood_ready c.requires x, stood_standing _ c.if-depth-eq0.false x)

pub returns-in_err-step-2 : goal.returns-in_err-step-2
returns-in_err-step-2 c =
    let x = rw c.in-Whole.is at c.loop-step-2.invariant.0 in
    rw (err_out c.from_residual-in_err-step-2.ensures.1) (stood_broken _ c.if-depth-eq0.false x c.in_err-step-2.ensures)

pub loop-step-2-smaller : goal.loop-step-2-smaller
loop-step-2-smaller c =
    let x = rw c.in-Whole.is at c.loop-step-2.invariant.0 in
    let on = within_later (stood_standing _ c.if-depth-eq0.false x) c.in_ok-step-2.ensures in
    rw c.in-Whole.is (omega (arith, on.0, on.1))

pub loop-step-2-preserved : goal.loop-step-2-preserved
loop-step-2-preserved c =
    let x = rw c.in-Whole.is at c.loop-step-2.invariant.0 in
    let near = rw c.in-Whole.is at c.loop-step-2.invariant.2 in
    let size = c.loop-step-2.invariant.1 in
    let on = within_later (stood_standing _ c.if-depth-eq0.false x) c.in_ok-step-2.ensures in
    (stood_on _ c.if-depth-eq0.false size x c.in_ok-step-2.ensures, size, omega (arith, near, on.0, on.1, stood_below x, c.if-depth-eq0.false))
