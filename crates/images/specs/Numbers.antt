-- An answer in 02's numbers.
-- Assumes nothing.
use Rattle.std.specs.Prelude.{ℕ, Ok, Err}
use Rattle.images.specs.declared.Fault.TheVariants.{Unknown, Malformed, Children, Underived, Short}
use Rattle.images.specs.Images.{Answer}
use Rattle.images.specs.declared.fields.Fields.{Fields}

-- 02's number, the record's offset, the number of records, and for 24 the count of numbers that are needed. "Unused fields are 0."
pub record Numbers : Type 0 where
  pub number : ℕ
  pub offset : ℕ
  pub count : ℕ

abbrev pub refusal : ℕ → ℕ → Numbers
refusal n a = record { number = n; offset = a; count = 0 }

unfoldable pub numbers : Answer → Numbers
numbers (Ok n) = record { number = 0; offset = 0; count = n }
numbers (Err (Unknown a)) = refusal 13 a
numbers (Err (Malformed a)) = refusal 14 a
numbers (Err (Children a)) = refusal 15 a
numbers (Err (Underived a)) = refusal 16 a
numbers (Err (Short n)) = record { number = 24; offset = 0; count = n }

-- The same three, as the code hands them back.
abbrev pub answered : Fields → Numbers
answered f = record { number = f.number; offset = f.offset; count = f.count }
