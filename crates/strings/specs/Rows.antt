-- Table 3-7 read by the first byte, for the function that looks a first byte up; `Character` is the table itself.
-- Assumes nothing.
use Rattle.std.specs.Prelude.{ℕ}
use Rattle.strings.specs.Utf8.{In}

-- A character that begins with the byte has so many bytes, none where that is 0, and its second byte lies between the bounds.
pub data Row (a : ℕ) : ℕ → ℕ → ℕ → Type 0 where
  row_00_7F : In 0x00 0x7F a → Row a 1 0x80 0xBF
  none_80_C1 : In 0x80 0xC1 a → Row a 0 0x80 0xBF
  row_C2_DF : In 0xC2 0xDF a → Row a 2 0x80 0xBF
  row_E0 : In 0xE0 0xE0 a → Row a 3 0xA0 0xBF
  row_E1_EC : In 0xE1 0xEC a → Row a 3 0x80 0xBF
  row_ED : In 0xED 0xED a → Row a 3 0x80 0x9F
  row_EE_EF : In 0xEE 0xEF a → Row a 3 0x80 0xBF
  row_F0 : In 0xF0 0xF0 a → Row a 4 0x90 0xBF
  row_F1_F3 : In 0xF1 0xF3 a → Row a 4 0x80 0xBF
  row_F4 : In 0xF4 0xF4 a → Row a 4 0x80 0x8F
  none_F5_FF : In 0xF5 0xFF a → Row a 0 0x80 0xBF
