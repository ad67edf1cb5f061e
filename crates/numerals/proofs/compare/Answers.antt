-- The limit's next digit, and this one.
use Rattle.std.proofs.Common.{get_or}
use Rattle.std.proofs.lemmas.Cmp.{ranked}
use Rattle.numerals.specs.Inner.{limit_digits}
use Rattle.numerals.proofs.Orders.{compares_past, compares_ranked}
use Rattle.numerals.proofs.compare.Goals as goal

pub returns-then-count-ge309 : goal.returns-then-count-ge309
returns-then-count-ge309 c = compares_past _ _ c.if-count-ge309.true

pub returns : goal.returns
unfolding limit_digits
returns c =
    let at = c.args in
    compares_ranked at.count at.b c.if-count-ge309.false c.cmp.result (ranked at.b (get_or limit_digits at.count 0) c.cmp.result c.cmp.ensures)
