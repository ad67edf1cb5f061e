use Rattle.std.proofs.Common.{map}
use Rattle.grammar.specs.Laid.{part_of}
use Rattle.images.proofs.PartWalk.{Going, row_numbers}
use Rattle.images.proofs.parts.taken.Given as goal

abbrev pub invariant-loop-i : goal.invariant-loop-i
invariant-loop-i l = Going l.bytes l.from l.end (row_numbers (map part_of l.parts)) l.values l.at l.children l.i
