-- Each arm is a row of the table.
use Rattle.std.proofs.Common.{◌≡◌, ℕ, ◌<◌, arith}
use native.Mathlib.Decide.{dec_lt}
use Rattle.strings.specs.Utf8.{In}
use Rattle.strings.specs.Rows.{Row, row_00_7F, none_80_C1, row_C2_DF, row_E0, row_E1_EC, row_ED, row_EE_EF, row_F0, row_F1_F3, row_F4, none_F5_FF}
use Rattle.strings.proofs.utf8.lead_of.Goals as goal

-- 0xED stands between two rows of the table that say the same.
row_three : {a : ℕ} → Dec (a < 0xED) → In 0xE1 0xEF a → (a ≡ 0xED → ⊥) → Row a 3 0x80 0xBF
row_three (yes l) h n = row_E1_EC (omega arith)
row_three (no l) h n = row_EE_EF (omega arith)

pub returns-in-0-to-127 : goal.returns-in-0-to-127
returns-in-0-to-127 c = (omega arith, row_00_7F (omega arith))

pub returns-in-194-to-223 : goal.returns-in-194-to-223
returns-in-194-to-223 c = (omega arith, row_C2_DF (omega arith))

pub returns-in-224 : goal.returns-in-224
returns-in-224 c = (omega arith, row_E0 (omega arith))

pub returns-in-237 : goal.returns-in-237
returns-in-237 c = (omega arith, row_ED (omega arith))

pub returns-in_default-a : goal.returns-in_default-a
returns-in_default-a c = (omega arith, row_three (dec_lt c.args.a 0xED) (omega arith) (λ e. omega arith))

pub returns-in-240 : goal.returns-in-240
returns-in-240 c = (omega arith, row_F0 (omega arith))

pub returns-in-244 : goal.returns-in-244
returns-in-244 c = (omega arith, row_F4 (omega arith))

pub returns-in_default-a-2 : goal.returns-in_default-a-2
returns-in_default-a-2 c = (omega arith, row_F1_F3 (omega arith))

pub returns-in_default : goal.returns-in_default
returns-in_default c = none_80_C1 (omega arith)

pub returns-in_default-2 : goal.returns-in_default-2
returns-in_default-2 c = none_F5_FF (omega arith)
