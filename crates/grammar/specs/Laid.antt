-- The rows of src/layout.rt as layouts (Layout.antt).
-- Assumes nothing.
use Rattle.std.specs.Prelude.{Option, None, Some, map}
use Rattle.grammar.specs.declared.layout.Part as parts
use Rattle.grammar.specs.declared.layout.Part.TheVariants.{Span, Text, Count, Has, Bits, Below}
use Rattle.grammar.specs.declared.layout.Row as rows
use Rattle.grammar.specs.Layout.{Part, place, words, count, has, bits, below, Layout, layout, unknown}

abbrev pub part_of : parts.Part → Part
part_of Span = place
part_of Text = words
part_of Count = count
part_of Has = has
part_of Bits = bits
part_of (Below n) = below n

-- A row, or that there is no such record.
abbrev pub laid_out : Option rows.Row → Layout
laid_out None = unknown
laid_out (Some r) = layout r.children (map part_of r.parts.now)
