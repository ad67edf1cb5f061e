use Rattle.images.proofs.BackLaws.{back_short, back_refused, links_fit, back_accepted}
use Rattle.std.proofs.Common.{arith}
use Rattle.images.proofs.back.Goals as goal

pub returns-then-links-needed : goal.returns-then-links-needed
returns-then-links-needed c = back_short _ c.clear.ensures c.if-links-needed.true

pub returns-in-Err : goal.returns-in-Err
returns-in-Err c = back_refused _ c.in-Err.fault c.in-Err.ensures c.if-links-needed.false c.clear-in-Err.ensures

pub overflow_mul-n : goal.overflow_mul-n
overflow_mul-n c = omega (arith, links_fit c.in-Ok.ensures)

pub offset_bounds-links-n : goal.offset_bounds-links-n
offset_bounds-links-n c = omega (arith, links_fit c.in-Ok.ensures)

pub slice_bounds-clear-count : goal.slice_bounds-clear-count
slice_bounds-clear-count c = links_fit c.in-Ok.ensures

pub slice_bounds-clear-start : goal.slice_bounds-clear-start
slice_bounds-clear-start c = omega (arith, links_fit c.in-Ok.ensures)

pub returns-in-Ok : goal.returns-in-Ok
returns-in-Ok c = back_accepted c.in-Ok.ensures c.if-links-needed.false c.clear-in-Ok.ensures
