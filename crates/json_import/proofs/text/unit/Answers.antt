-- `unit`: two digits that begin no low half, and what follows them.
-- Assumes nothing.
use Rattle.std.proofs.Common.{arith}
use Rattle.json_import.proofs.Places.{err_out}
use Rattle.json_import.proofs.EscapePlaces.{unit_first, unit_second, unit_low, unit_on}
use Rattle.json_import.proofs.text.unit.Goals as goal

pub returns-in_err-a : goal.returns-in_err-a
returns-in_err-a c = let k = c.in_err-a.ensures in rw (err_out c.from_residual.ensures.1, k.1) (unit_first k.0)

pub returns-in_err-b : goal.returns-in_err-b
returns-in_err-b c = let k = c.in_err-b.ensures in let e = c.in_ok-a.ensures in rw (err_out c.from_residual-in_err-b.ensures.1, k.1) (unit_second e.0 e.1 k.0)

pub returns-in-220-to-223 : goal.returns-in-220-to-223
returns-in-220-to-223 c = let e = c.in_ok-a.ensures in let f = c.in_ok-b.ensures in unit_low e.0 e.1 f.0 f.1 (omega arith, omega arith)

pub returns-in_default : goal.returns-in_default
returns-in_default c = let e = c.in_ok-a.ensures in let f = c.in_ok-b.ensures in unit_on e.0 e.1 f.0 f.1 (grind arith) c.unit_end.ensures
