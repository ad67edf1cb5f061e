-- `images::texts::is_tail` meets its contract.
-- Assumes nothing.
use native.Mathlib.Omega.{arith}
use borrow.Author.Rules.{rules}
use Rattle.blocks.specs.Inside.{holds, fails}
use Rattle.images.proofs.TextLaws.{tail_past, tail_other, tail_bare, tail_pointed}
use Rattle.images.proofs.texts.is_tail.Statement.{statement}
use Rattle.images.proofs.texts.is_tail.Tie as tie

returns : tie.Need-returns-then-text-i
returns c =
    let args = c.args in
    holds (tail_past args.text.now args.i c.if-text-i.true)

shared_slice_read_if2 : tie.Need-bounds-text-i
shared_slice_read_if2 c = search rules

is_exponent_requires : tie.Need-is_exponent-requires
is_exponent_requires c κs = search rules

returns_2 : tie.Need-returns-then-text-i-ne46
returns_2 c =
    let args = c.args in
    tail_other args.text.now args.i (omega arith) c.if-text-i-ne46.true c.is_exponent.ensures

add_digits : tie.Need-overflow_add-i
add_digits c = search rules

digits_requires : tie.Need-digits-end-requires
digits_requires c κs = search rules

add_if3 : tie.Need-overflow_add-i-2
add_if3 c = search rules

returns_3 : tie.Need-returns-then-end-i
returns_3 c =
    let args = c.args in
    fails (tail_bare args.text.now args.i (omega arith) c.if-text-i-ne46.false c.digits-end.ensures c.if-end-i.true)

is_exponent_requires_2 : tie.Need-is_exponent-requires-2
is_exponent_requires_2 c κs = search rules

returns_4 : tie.Need-returns
returns_4 c =
    let args = c.args in
    tail_pointed args.text.now args.i (omega arith) c.if-text-i-ne46.false c.digits-end.ensures c.if-end-i.false c.is_exponent-2.ensures

pub is_tail_spec : {M : Type 1} → statement M
is_tail_spec =
    tie.close
    (tie.spec
    returns
    shared_slice_read_if2
    is_exponent_requires
    returns_2
    add_digits
    digits_requires
    add_if3
    returns_3
    is_exponent_requires_2
    returns_4)
