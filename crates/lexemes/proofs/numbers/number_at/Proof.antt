-- `lexemes::numbers::number_at` meets its contract.
-- Assumes nothing.
use borrow.Author.Rules.{rules}
use Rattle.lexemes.proofs.Numerals.{zero_number, whole_number}
use Rattle.lexemes.proofs.numbers.number_at.Statement.{statement}
use Rattle.lexemes.proofs.numbers.number_at.Tie as tie

shared_slice_read_if1 : tie.Need-bounds-src-at
shared_slice_read_if1 c = search rules

add_fraction_at : tie.Need-overflow_add-at
add_fraction_at c = search rules

fraction_at_requires : tie.Need-fraction_at-requires
fraction_at_requires c κs = search rules

returns : tie.Need-returns-then-src-at-eq48
returns c =
    let args = c.args in
    let s = args.src.now in
    let if1 = c.if-src-at-eq48 in
    let fraction-at = c.fraction_at in
    zero_number s if1.true fraction-at.ensures

add_digits_from : tie.Need-overflow_add-at-2
add_digits_from c = search rules

digits_from_requires : tie.Need-digits_from-requires
digits_from_requires c κs = search rules

fraction_at_requires_2 : tie.Need-fraction_at-requires-2
fraction_at_requires_2 c κs =
    let digits_from = c.digits_from in
    digits_from.ensures.end

returns_2 : tie.Need-returns
returns_2 c =
    let args = c.args in
    let s = args.src.now in
    let pre = c.requires in
    let if1 = c.if-src-at-eq48 in
    let digits_from = c.digits_from in
    let fraction-at2 = c.fraction_at-2 in
    whole_number s pre.1 if1.false digits_from.ensures fraction-at2.ensures

pub number_at_spec : {M : Type 1} → statement M
number_at_spec =
    tie.close
    (tie.spec
    shared_slice_read_if1
    add_fraction_at
    fraction_at_requires
    returns
    add_digits_from
    digits_from_requires
    fraction_at_requires_2
    returns_2)
