use Rattle.blocks.specs.Inside.{fails}
use Rattle.blocks.proofs.Places.{said}
use Rattle.images.proofs.TextLaws.{no_number, number_told}
use Rattle.images.proofs.texts.is_number.Goals as goal

pub returns-then-is_numeral : goal.returns-then-is_numeral
returns-then-is_numeral c = number_told (said c.is_numeral.ensures c.if-is_numeral.true) c.too_large.ensures

pub returns-else-is_numeral : goal.returns-else-is_numeral
returns-else-is_numeral c = rw c.if-is_numeral.false (fails (no_number c.is_numeral.ensures c.if-is_numeral.false))
