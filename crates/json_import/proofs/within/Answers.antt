-- `within`: white space, and then as an array or as an object goes on, whose field is written.
-- Assumes nothing.
use Rattle.std.proofs.Common.{arith}
use Rattle.json_import.proofs.NextPlaces.{field_long, object_count, array-within, object-within}
use Rattle.json_import.proofs.within.Goals as goal

pub within_object-requires : goal.within_object-requires
within_object-requires c =
    let pre = c.requires in
    let blanks = c.blanks-at.ensures in
    let count = object_count (rw c.in-Object.is at pre.1) in
    (blanks.within, pre.0.1, omega (arith, pre.0.2, blanks.on, c.put_field-written.ensures.to, field_long c.in-Object.start c.in-Object.end), omega (arith, count.0, blanks.on), blanks.unblank)

pub returns-in-Array : goal.returns-in-Array
returns-in-Array c = rw c.in-Array.is (array-within c.blanks-at.ensures c.within_array.ensures)

pub returns-in-Object : goal.returns-in-Object
returns-in-Object c = rw c.in-Object.is (object-within c.blanks-at.ensures c.put_field-written.ensures c.within_object.ensures)
