-- By whether the exponent has a minus.
use Rattle.std.proofs.Common.{◌≡◌, sym, ◌∙◌, arith, false, rules}
use lib.Dec.{leb}
use Rattle.numerals.proofs.Parts.{places_short, known, multiplied_by, divided_away, divided_by}
use Rattle.numerals.proofs.parts_reach.Goals as goal

pub reaches-requires : goal.reaches-requires
reaches-requires c = omega (arith, c.count_places-down.ensures, places_short c.args.mantissa.now, c.well_formed.0.1)

pub reaches-requires-2 : goal.reaches-requires-2
reaches-requires-2 c = omega (arith, c.count_places-down.ensures, places_short c.args.mantissa.now, c.well_formed.0.1)

pub returns-then-power-l : goal.returns-then-power-l
returns-then-power-l c =
    divided_by (known c.leading-l.ensures c.spell-power.ensures) (sym c.has_minus.ensures ∙ c.if-has_minus.true) c.if-power-l.true
    c.count_places-down.ensures c.reaches.ensures

pub returns-else-power-l : goal.returns-else-power-l
returns-else-power-l c =
    let short : leb c.spell-power.result c.leading-l.result.count ≡ false = search rules in
    rw short (divided_away (known c.leading-l.ensures c.spell-power.ensures) (sym c.has_minus.ensures ∙ c.if-has_minus.true) c.if-power-l.false)

pub returns : goal.returns
returns c =
    multiplied_by (known c.leading-l.ensures c.spell-power.ensures) (sym c.has_minus.ensures ∙ c.if-has_minus.false) c.add.ensures
    c.count_places-down.ensures c.reaches-2.ensures
