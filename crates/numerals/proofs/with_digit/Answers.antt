use Rattle.numerals.proofs.Orders.{compares_decided}
use Rattle.numerals.proofs.with_digit.Goals as goal

pub returns-in_default : goal.returns-in_default
returns-in_default c = compares_decided _ _ _ c.in_default.not-Equal
