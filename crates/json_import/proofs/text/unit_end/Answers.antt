-- `unit_end`: two digits more, and of a high half its low one; or the first byte that is another.
-- Assumes nothing.
use Rattle.std.proofs.Common.{arith}
use Rattle.json_import.proofs.Places.{err_out}
use Rattle.json_import.proofs.EscapePlaces.{unit_third, unit_fourth, unit_whole, unit_high}
use Rattle.json_import.proofs.text.unit_end.Goals as goal

pub returns-in_err-c : goal.returns-in_err-c
returns-in_err-c c = let k = c.in_err-c.ensures in rw (err_out c.from_residual.ensures.1, k.1) (unit_third _ k.0)

pub returns-in_err-d : goal.returns-in_err-d
returns-in_err-d c = let k = c.in_err-d.ensures in let e = c.in_ok-c.ensures in rw (err_out c.from_residual-in_err-d.ensures.1, k.1) (unit_fourth _ e.0 e.1 k.0)

pub returns-in-55296-to-56319 : goal.returns-in-55296-to-56319
returns-in-55296-to-56319 c = let e = c.in_ok-c.ensures in let f = c.in_ok-d.ensures in unit_high _ e.0 e.1 f.0 f.1 (omega arith, omega arith) c.low_half.ensures

pub returns-in_default : goal.returns-in_default
returns-in_default c = let e = c.in_ok-c.ensures in let f = c.in_ok-d.ensures in unit_whole _ e.0 e.1 f.0 f.1 c.requires.1 (grind arith)
