use Rattle.std.proofs.Common.{arith}
use Rattle.numerals.specs.Value.{spelled}
use Rattle.numerals.proofs.Spellings.{spelled-next}
use Rattle.numerals.proofs.Orders.{led_begun}
use Rattle.numerals.proofs.leading.Goals as goal

pub loop-b-init : goal.loop-b-init
unfolding spelled
loop-b-init c = record { led = led_begun; short = omega arith }

pub loop-b-preserved : goal.loop-b-preserved
loop-b-preserved c =
    let so_far = c.loop-b.invariant in
    record {
      led = rw (spelled-next c.args.text.now c.loop-b.b-index c.loop-b-test.true) (c.push-l.ensures.step _ so_far.led);
      short = omega (arith, c.push-l.ensures.grows, so_far.short);
    }
