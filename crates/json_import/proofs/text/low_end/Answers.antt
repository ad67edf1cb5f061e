-- `low_end`: two digits, or the first byte that is none.
-- Assumes nothing.
use Rattle.json_import.proofs.Places.{err_out}
use Rattle.json_import.proofs.EscapePlaces.{low_third, low_fourth, low_whole}
use Rattle.json_import.proofs.text.low_end.Goals as goal

pub returns-in_err-c : goal.returns-in_err-c
returns-in_err-c c = let k = c.in_err-c.ensures in rw (err_out c.from_residual.ensures.1, k.1) (low_third _ _ k.0)

pub returns-in_err-d : goal.returns-in_err-d
returns-in_err-d c = let k = c.in_err-d.ensures in let e = c.in_ok-c.ensures in rw (err_out c.from_residual-in_err-d.ensures.1, k.1) (low_fourth _ _ e.0 e.1 k.0)

pub returns : goal.returns
returns c = let e = c.in_ok-c.ensures in let f = c.in_ok-d.ensures in low_whole _ _ e.0 e.1 f.0 f.1 c.requires.1 c.requires.2
