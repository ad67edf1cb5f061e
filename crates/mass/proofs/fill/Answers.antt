use Rattle.std.proofs.Common.{arith}
use Rattle.mass.proofs.StandLaws.{seen}
use Rattle.mass.proofs.FillLaws.{starts, next, turn_nothing, turn_listed, ends}
use Rattle.mass.proofs.fill.Goals as goal

pub loop-i-init : goal.loop-i-init
loop-i-init c = starts _ _ _ _ c.requires.1

pub listing-requires : goal.listing-requires
listing-requires c = next c.requires.0 c.loop-i.invariant c.loop-i-test.true

pub overflow_mul-i : goal.overflow_mul-i
overflow_mul-i c = omega (arith, (seen (next c.requires.0 c.loop-i.invariant c.loop-i-test.true).root).in_array)

pub offset_bounds-links-i : goal.offset_bounds-links-i
offset_bounds-links-i c = omega (arith, (seen (next c.requires.0 c.loop-i.invariant c.loop-i-test.true).root).in_array)

pub bounds-links-i : goal.bounds-links-i
bounds-links-i c = omega (arith, (seen (next c.requires.0 c.loop-i.invariant c.loop-i-test.true).root).in_array)

pub loop-i-preserved-in_default : goal.loop-i-preserved-in_default
loop-i-preserved-in_default c = turn_nothing c.loop-i.invariant c.loop-i-test.true c.in_default.ensures

pub loop-i-preserved : goal.loop-i-preserved
loop-i-preserved c = turn_listed c.loop-i.invariant c.loop-i-test.true c.in-Some.found _ c.in-Some.ensures c.store.ensures

pub returns : goal.returns
returns c = ends c.loop-i.invariant (omega arith)
