-- `number`: a whole literal is judged, and its record written.
-- Assumes nothing.
use Rattle.json_import.proofs.Places.{err_out}
use Rattle.json_import.proofs.LeafPlaces.{stands, numeral_cut, numeral_large, numeral_done}
use Rattle.json_import.proofs.number.Goals as goal

pub returns-in_err-at : goal.returns-in_err-at
returns-in_err-at c = rw (err_out c.from_residual.ensures.1) (numeral_cut c.in_err-at.ensures)

pub returns-then-too_large : goal.returns-then-too_large
returns-then-too_large c = numeral_large (stands c.requires.0 c.in_ok-at.ensures) c.too_large.ensures c.if-too_large.true

pub returns : goal.returns
returns c = numeral_done (stands c.requires.0 c.in_ok-at.ensures) c.too_large.ensures c.if-too_large.false c.put_word-written.ensures
