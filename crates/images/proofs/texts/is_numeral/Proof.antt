-- `images::texts::is_numeral` meets its contract.
-- Assumes nothing.
use native.Mathlib.Omega.{arith}
use borrow.Author.Rules.{rules}
use Rattle.blocks.specs.Inside.{fails}
use Rattle.images.proofs.TextLaws.{is_so, is_not, no_numeral, numeral_digit, numeral_zero, numeral_whole}
use Rattle.images.proofs.texts.is_numeral.Statement.{statement}
use Rattle.images.proofs.texts.is_numeral.Tie as tie

returns : tie.Need-returns-then-text-eq0
returns c = fails (no_numeral c.args.text.now c.if-text-eq0.true)

shared_slice_read_b : tie.Need-bounds-text-0
shared_slice_read_b c = search rules

is_tail_requires : tie.Need-is_tail-requires
is_tail_requires c κs = search rules

returns_2 : tie.Need-returns-then-b-eq48
returns_2 c =
    let s = c.args.text.now in
    numeral_zero s (omega arith) c.if-b-eq48.true c.is_tail.ensures

is_digit_requires : tie.Need-is_digit-requires
is_digit_requires c κs = search rules

returns_3 : tie.Need-returns-then-not-is_digit
returns_3 c =
    let s = c.args.text.now in
    let is_digit = c.is_digit in
    fails (λ n. is_not is_digit.ensures (c.if-not-is_digit.true) (numeral_digit s (omega arith) n))

digits_requires : tie.Need-digits-requires
digits_requires c κs = search rules

is_tail_requires_2 : tie.Need-is_tail-requires-2
is_tail_requires_2 c κs = search rules

returns_4 : tie.Need-returns
returns_4 c =
    let s = c.args.text.now in
    let is_digit = c.is_digit in
    let d = is_so is_digit.ensures (c.if-not-is_digit.false) in
    numeral_whole s (omega arith) c.digits.ensures d c.if-b-eq48.false c.is_tail-2.ensures

pub is_numeral_spec : {M : Type 1} → statement M
is_numeral_spec =
    tie.close
    (tie.spec
    returns
    shared_slice_read_b
    is_tail_requires
    returns_2
    is_digit_requires
    returns_3
    digits_requires
    is_tail_requires_2
    returns_4)
