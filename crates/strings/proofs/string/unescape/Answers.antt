use Rattle.std.proofs.Common.{arith}
use Rattle.strings.specs.Literals.Quoted.{end}
use Rattle.strings.proofs.Walk.{ended, broke}
use Rattle.strings.proofs.Steps.{coded, quoted-plain, quoted_escape, quoted_broken}
use Rattle.strings.proofs.string.unescape.Goals as goal

pub returns-in_default : goal.returns-in_default
returns-in_default c =
    let walk = c.loop-i.invariant in
    broke _ _ _ _ walk _ c.clear.ensures (quoted_broken walk c.loop-i-test.true c.if-b-eq92.true c.in_default.ensures)

pub put_code-n-requires : goal.put_code-n-requires
put_code-n-requires c =
    let found = coded c.in-Some.ensures in
    (found.below, omega (arith, c.loop-i.invariant.short))

pub loop-i-preserved-then-b-eq92 : goal.loop-i-preserved-then-b-eq92
loop-i-preserved-then-b-eq92 c =
    let put = c.put_code-n.ensures in
    quoted_escape c.loop-i.invariant c.loop-i-test.true _ _ _ _ c.if-b-eq92.true c.in-Some.ensures put.0 put.1

pub loop-i-preserved : goal.loop-i-preserved
loop-i-preserved c = quoted-plain c.loop-i.invariant c.loop-i-test.true _ c.if-b-eq92.false c.put.ensures

pub returns : goal.returns
returns c = ended _ _ _ _ c.loop-i.invariant c.loop-i-test.false end
