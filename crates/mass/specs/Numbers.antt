-- An answer in 02's numbers.
-- Assumes nothing.
use Rattle.std.specs.Prelude.{Ok, Err}
use Rattle.images.specs.Numbers.{Numbers, refusal}
use Rattle.images.specs.declared.Fault.TheVariants.{Unknown, Malformed, Children, Underived, Short}
use Rattle.mass.specs.declared.Fault.TheVariants.{Image, ListShort}
use Rattle.mass.specs.Mass.{Answer}

-- 02's number, the record's offset, and a count: of listings, and for 24 of the numbers that are needed. "Unused fields are 0."
unfoldable pub numbers : Answer → Numbers
numbers (Ok n) = record { number = 0; offset = 0; count = n }
numbers (Err (Image (Unknown a))) = refusal 13 a
numbers (Err (Image (Malformed a))) = refusal 14 a
numbers (Err (Image (Children a))) = refusal 15 a
numbers (Err (Image (Underived a))) = refusal 16 a
numbers (Err (ListShort n)) = record { number = 21; offset = 0; count = n }
numbers (Err (Image (Short n))) = record { number = 24; offset = 0; count = n }
