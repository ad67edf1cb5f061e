-- `lexemes::numbers::is_digit` meets its contract.
-- Assumes nothing.
use mathlib.Core.Path.{subst}
use Prim.Native.Nat.{ℕ}
use Rattle.lexemes.specs.Scan.{Says, IsDigit}
use Rattle.lexemes.proofs.Classes.{digit_told}
use Rattle.lexemes.proofs.numbers.is_digit.Goals as goal

pub returns : goal.returns
returns c =
    subst (λ (b : ℕ). Says c.is_ascii_digit.result (IsDigit b)) c.peek.ensures (digit_told c.peek.result c.is_ascii_digit.result c.is_ascii_digit.ensures.value)
