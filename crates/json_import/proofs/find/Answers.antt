-- `find`: length and encoding first, then the reading, the room last.
-- Assumes nothing.
use Rattle.json_import.proofs.Places.{err_out}
use Rattle.json_import.proofs.ImportLaws.{valid_all, finds_long, finds_encoding, finds_broken, finds_room, finds_tree}
use Rattle.json_import.proofs.find.Goals as goal

pub returns-then-text-gt-LONGEST : goal.returns-then-text-gt-LONGEST
returns-then-text-gt-LONGEST c = finds_long c.if-text-gt-LONGEST.true

pub returns-then-valid-text : goal.returns-then-valid-text
returns-then-valid-text c = finds_encoding c.if-text-gt-LONGEST.false c.valid_to-valid.ensures c.if-valid-text.true

pub returns-in_err-length : goal.returns-in_err-length
returns-in_err-length c =
    rw (err_out c.from_residual.ensures.1) (finds_broken c.if-text-gt-LONGEST.false (valid_all c.valid_to-valid.ensures c.if-valid-text.false) c.in_err-length.ensures)

pub returns-then-output-length : goal.returns-then-output-length
returns-then-output-length c = finds_room c.if-text-gt-LONGEST.false (valid_all c.valid_to-valid.ensures c.if-valid-text.false) c.in_ok-length.ensures c.if-output-length.true

pub returns : goal.returns
returns c = finds_tree c.if-text-gt-LONGEST.false (valid_all c.valid_to-valid.ensures c.if-valid-text.false) c.in_ok-length.ensures c.if-output-length.false
