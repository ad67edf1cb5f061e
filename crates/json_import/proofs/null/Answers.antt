-- `null`: its letters, and its record.
-- Assumes nothing.
use Rattle.std.proofs.Common.{arith}
use Rattle.json_import.proofs.Places.{err_out}
use Rattle.json_import.proofs.LeafPlaces.{word_broken, word_none}
use Rattle.json_import.proofs.null.Goals as goal

pub returns-in_err-at : goal.returns-in_err-at
returns-in_err-at c = rw (err_out c.from_residual.ensures.1) (word_broken _ c.in_err-at.ensures)

pub returns : goal.returns
returns c = word_none _ (omega arith) c.requires c.in_ok-at.ensures c.put_none-written.ensures
