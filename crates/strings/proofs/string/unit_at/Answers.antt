-- A code unit that is no half, or a pair.
use Rattle.std.proofs.Common.{inl, inr, arith}
use Rattle.strings.proofs.Escapes.{four_small, no_units, low_unit, unit_at, unit_broken, pair_at, pair_broken, room}
use Rattle.strings.proofs.string.unit_at.Goals as goal
use Rattle.strings.proofs.string.unit_at.Goals.{in_default-via-then-n-lt55296, in_default-via-else-n-lt55296+else-n-lt56320+else-n-lt57344}

pub returns-in_err-n : goal.returns-in_err-n
returns-in_err-n c =
    let at = c.args in
    rw c.from_residual.ensures (unit_broken at.s.now at.i c.requires.0 c.requires.1 (no_units c.in_err-n.ensures))

pub low_at-requires : goal.low_at-requires
low_at-requires c = let four = c.in_ok-n.ensures in room c.args.s.now c.args.i c.requires.0 c.requires.1 four.1

pub returns-in_err-lo-in-55296-to-56319 : goal.returns-in_err-lo-in-55296-to-56319
returns-in_err-lo-in-55296-to-56319 c =
    let at = c.args in
    let four = c.in_ok-n.ensures in
    rw c.from_residual-in_err-lo-in-55296-to-56319.ensures
    (pair_broken at.s.now at.i c.requires.0 c.requires.1 four.1 (omega arith) c.in_err-lo-in-55296-to-56319.ensures)

pub returns-in_ok-lo-in-55296-to-56319 : goal.returns-in_ok-lo-in-55296-to-56319
returns-in_ok-lo-in-55296-to-56319 c =
    let at = c.args in
    let four = c.in_ok-n.ensures in
    let low = c.in_ok-lo-in-55296-to-56319.ensures in
    pair_at at.s.now at.i c.requires.0 c.requires.1 four.1 (omega arith) low.1

pub returns-in-56320-to-57343 : goal.returns-in-56320-to-57343
returns-in-56320-to-57343 c =
    let at = c.args in
    let four = c.in_ok-n.ensures in
    unit_broken at.s.now at.i c.requires.0 c.requires.1 (low_unit four.1 (omega arith))

pub returns-in_default : goal.returns-in_default
returns-in_default c =
    let at = c.args in
    let four = c.in_ok-n.ensures in
    unit_at at.s.now at.i c.requires.0 c.requires.1 four.1
    (elim c.in_default.branch [
      | in_default-via-then-n-lt55296 w ↦ inl (omega arith)
      | in_default-via-else-n-lt55296+else-n-lt56320+else-n-lt57344 w ↦ inr (omega (arith, four_small four.1))
    ])
