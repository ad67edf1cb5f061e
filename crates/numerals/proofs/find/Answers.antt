use Rattle.std.proofs.Common.{◌≡◌, length, inl, inr, arith}
use Rattle.numerals.proofs.Scans.{sought_begun, sought_here, sought_on, sought_all}
use Rattle.numerals.proofs.find.Goals as goal
use Rattle.numerals.proofs.find.Goals.{then-b-x-via-then-b-x, then-b-x-via-else-b-x+then-b-y}

pub loop-i-init : goal.loop-i-init
loop-i-init c = sought_begun _ _ _

pub returns-then-b-x : goal.returns-then-b-x
returns-then-b-x c =
    sought_here c.loop-i.invariant c.loop-i-test.true
    (elim c.then-b-x.branch [
      | then-b-x-via-then-b-x w ↦ inl w.if-b-x.true
      | then-b-x-via-else-b-x+then-b-y w ↦ inr w.if-b-y.true
    ])

pub loop-i-preserved : goal.loop-i-preserved
loop-i-preserved c = sought_on c.loop-i.invariant c.loop-i-test.true c.if-b-x.false c.if-b-y.false

pub returns : goal.returns
returns c =
    let end : c.loop-i.i ≡ length c.args.text.now = omega arith in
    rw end at (sought_all c.loop-i.invariant (omega arith))
