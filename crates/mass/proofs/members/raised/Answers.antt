use Rattle.std.proofs.Common.{arith}
use Rattle.mass.proofs.StandLaws.{seen}
use Rattle.mass.proofs.MemberLaws.{starts, next-some, turn, ends}
use Rattle.mass.proofs.members.raised.Goals as goal

pub loop-m-init : goal.loop-m-init
loop-m-init c = starts _ _ _ _

pub overflow_mul-at : goal.overflow_mul-at
overflow_mul-at c = omega (arith, (seen (next-some c.requires c.loop-m.invariant c.loop-m-test.true).root).in_array)

pub offset_bounds-links-last : goal.offset_bounds-links-last
offset_bounds-links-last c = omega (arith, (seen (next-some c.requires c.loop-m.invariant c.loop-m-test.true).root).in_array)

pub bounds-links-last : goal.bounds-links-last
bounds-links-last c = omega (arith, (seen (next-some c.requires c.loop-m.invariant c.loop-m-test.true).root).in_array)

pub overflow_mul-m : goal.overflow_mul-m
overflow_mul-m c = omega (arith, (seen (next-some c.requires c.loop-m.invariant c.loop-m-test.true).root).in_array)

pub overflow_add-m : goal.overflow_add-m
overflow_add-m c = omega (arith, (seen (next-some c.requires c.loop-m.invariant c.loop-m-test.true).root).in_array)

pub offset_bounds-links-last-in-loop-m : goal.offset_bounds-links-last-in-loop-m
offset_bounds-links-last-in-loop-m c = omega (arith, (seen (next-some c.requires c.loop-m.invariant c.loop-m-test.true).root).in_array)

pub bounds-links-last-in-loop-m : goal.bounds-links-last-in-loop-m
bounds-links-last-in-loop-m c = omega (arith, (seen (next-some c.requires c.loop-m.invariant c.loop-m-test.true).root).in_array)

pub adds-requires : goal.adds-requires
adds-requires c = let l = next-some c.requires c.loop-m.invariant c.loop-m-test.true in record { tag = l.tag; fields = l.fields; children = l.children; root = l.root }

pub loop-m-smaller : goal.loop-m-smaller
loop-m-smaller c = omega (arith, (next-some c.requires c.loop-m.invariant c.loop-m-test.true).less)

pub loop-m-preserved : goal.loop-m-preserved
loop-m-preserved c = rw c.plus-own.ensures (turn c.loop-m.own c.adds.result c.loop-m.invariant c.loop-m-test.true c.adds.ensures)

pub returns : goal.returns
returns c = record { each = ends c.loop-m.invariant (omega arith) }
