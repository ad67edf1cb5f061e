use Rattle.std.proofs.Common.{arith}
use Rattle.strings.proofs.Escapes.{begins_u, no_u, low_at, no_spelled, not_low}
use Rattle.strings.proofs.string.low_at.Goals as goal

pub returns-then-not-starts_with : goal.returns-then-not-starts_with
returns-then-not-starts_with c = no_u c.args.s.now c.args.i _ c.starts_with.ensures.value c.if-not-starts_with.true

pub returns-in_err-low : goal.returns-in_err-low
returns-in_err-low c = rw c.from_residual.ensures (no_spelled c.args.s.now c.args.i c.in_err-low.ensures)

pub returns-in-56320-to-57343 : goal.returns-in-56320-to-57343
returns-in-56320-to-57343 c =
    let u = begins_u c.args.s.now c.args.i _ c.starts_with.ensures.value c.if-not-starts_with.false in
    low_at c.args.s.now c.args.i u.0 u.1 c.in_ok-low.ensures (omega arith)

pub returns-in_default : goal.returns-in_default
returns-in_default c = not_low c.args.s.now c.args.i c.in_ok-low.ensures (λ h. omega arith)

pub returns-in_default-2 : goal.returns-in_default-2
returns-in_default-2 c = not_low c.args.s.now c.args.i c.in_ok-low.ensures (λ h. omega arith)
