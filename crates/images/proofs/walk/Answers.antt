use Rattle.std.proofs.Common.{sym, ◌∙◌, arith, length-set}
use Rattle.images.specs.Inner.{Whole}
use Rattle.images.proofs.WalkLaws.{starts, goes_on, refusal, leaves_roots, next_longer, room, some_record, records_fit, last_inside, ends_refused, ends_accepted}
use Rattle.images.proofs.walk.Goals as goal

pub loop-at-init : goal.loop-at-init
loop-at-init c = starts _ _

pub returns-in-Err : goal.returns-in-Err
returns-in-Err c = rw c.refused.ensures (Whole.refused c.loop-at.invariant.long (refusal c.loop-at.invariant.state c.loop-at-test.true _ (c.in-Err.ensures c.loop-at.invariant.state)))

pub bounds-links-n : goal.bounds-links-n
bounds-links-n c = omega (arith, (room c.loop-at.invariant c.loop-at-test.true c.requires (c.in-Ok.ensures c.loop-at.invariant.state)))

pub bounds-links-n-in-loop-at : goal.bounds-links-n-in-loop-at
bounds-links-n-in-loop-at c = rw length-set (omega (arith, (room c.loop-at.invariant c.loop-at-test.true c.requires (c.in-Ok.ensures c.loop-at.invariant.state))))

pub loop-at-smaller : goal.loop-at-smaller
loop-at-smaller c = omega (arith, next_longer (c.in-Ok.ensures c.loop-at.invariant.state))

pub loop-at-preserved : goal.loop-at-preserved
loop-at-preserved c = goes_on c.loop-at.invariant c.loop-at-test.true (room c.loop-at.invariant c.loop-at-test.true c.requires (c.in-Ok.ensures c.loop-at.invariant.state)) (c.in-Ok.ensures c.loop-at.invariant.state)

pub returns-then-standing-ne1 : goal.returns-then-standing-ne1
returns-then-standing-ne1 c = Whole.refused c.loop-at.invariant.long (leaves_roots c.loop-at.invariant.state c.loop-at-test.false c.loop-at.invariant.within c.if-standing-ne1.true)

pub overflow_sub-last : goal.overflow_sub-last
overflow_sub-last c = omega (arith, some_record c.loop-at.invariant c.loop-at-test.false (omega arith))

pub bounds-links-n-2 : goal.bounds-links-n-2
bounds-links-n-2 c = omega (arith, records_fit c.loop-at.invariant c.loop-at-test.false (omega arith), some_record c.loop-at.invariant c.loop-at-test.false (omega arith))

pub bounds-bytes-last : goal.bounds-bytes-last
bounds-bytes-last c = last_inside c.loop-at.invariant c.loop-at-test.false (omega arith)

pub returns-then-not-is : goal.returns-then-not-is
returns-then-not-is c = ends_refused c.loop-at.invariant c.loop-at-test.false (omega arith) (sym c.is.ensures ∙ c.if-not-is.true)

pub returns : goal.returns
returns c = ends_accepted c.loop-at.invariant c.loop-at-test.false (omega arith) (sym c.is.ensures ∙ c.if-not-is.false)
