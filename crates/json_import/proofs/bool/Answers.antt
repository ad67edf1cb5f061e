-- `bool`: its letters, and its record.
-- Assumes nothing.
use Rattle.json_import.proofs.Places.{err_out}
use Rattle.json_import.proofs.LeafPlaces.{word_broken, word_flag}
use Rattle.json_import.proofs.bool.Goals as goal

pub returns-in_err-at : goal.returns-in_err-at
returns-in_err-at c = rw (err_out c.from_residual.ensures.1) (word_broken _ c.in_err-at.ensures)

pub returns : goal.returns
returns c = word_flag _ _ c.requires.1 c.requires.0 c.in_ok-at.ensures c.put_flag-written.ensures
