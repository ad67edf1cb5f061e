-- By the size, and where that is the limit's, by the first digit that differs.
use Rattle.std.proofs.Common.{arith}
use Rattle.numerals.proofs.Orders.{decides_zero, decides_many, decides_few, decides_above, decides_below, decides_equal}
use Rattle.numerals.proofs.reaches.Goals as goal
use Rattle.numerals.proofs.reaches.Goals.{then-l-eq0-via-then-l-eq0, then-l-eq0-via-else-l-eq0+then-size-down}

pub returns-then-l-eq0 : goal.returns-then-l-eq0
returns-then-l-eq0 c =
    elim c.then-l-eq0.branch [
      | then-l-eq0-via-then-l-eq0 w ↦ decides_zero _ _ _ w.if-l-eq0.true
      | then-l-eq0-via-else-l-eq0+then-size-down w ↦ decides_few _ _ _ w.if-size-down.true
    ]

pub returns-then-down-size : goal.returns-then-down-size
returns-then-down-size c = decides_many _ _ _ c.if-l-eq0.false c.if-down-size.true

pub returns-in-Less : goal.returns-in-Less
returns-in-Less c = decides_below _ _ _ (omega (arith, c.if-size-down.false, c.if-down-size.false)) c.in-Less.is

pub returns-in-Equal : goal.returns-in-Equal
returns-in-Equal c = decides_equal _ _ _ (omega (arith, c.if-size-down.false, c.if-down-size.false)) c.in-Equal.is

pub returns-in-Greater : goal.returns-in-Greater
returns-in-Greater c = decides_above _ _ _ (omega (arith, c.if-size-down.false, c.if-down-size.false)) c.in-Greater.is
