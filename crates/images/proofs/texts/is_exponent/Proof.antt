-- `images::texts::is_exponent` meets its contract.
-- Assumes nothing.
use native.Mathlib.Omega.{arith}
use borrow.Author.Rules.{rules}
use Rattle.blocks.specs.Inside.{holds, fails}
use Rattle.images.proofs.TextLaws.{is_so, is_not, exponent-past, no_e, lone_e, exponent-signed, exponent_unsigned}
use Rattle.images.proofs.texts.is_exponent.Statement.{statement}
use Rattle.images.proofs.texts.is_exponent.Tie as tie

returns : tie.Need-returns-then-text-i
returns c =
    let args = c.args in
    holds (exponent-past args.text.now args.i c.if-text-i.true)

shared_slice_read_is_e : tie.Need-bounds-text-i
shared_slice_read_is_e c = search rules

is_e_requires : tie.Need-is_e-requires
is_e_requires c κs = search rules

returns_2 : tie.Need-returns-then-not-is_e
returns_2 c =
    let args = c.args in
    let is_e = c.is_e in
    fails (no_e args.text.now args.i (omega arith) (is_not is_e.ensures (c.if-not-is_e.true)))

add_if3 : tie.Need-overflow_add-i
add_if3 c = search rules

returns_3 : tie.Need-returns-then-text-i-2
returns_3 c =
    let args = c.args in
    fails (lone_e args.text.now args.i (omega arith) c.if-text-i-2.true)

add_is_sign : tie.Need-overflow_add-i-2
add_is_sign c = search rules

shared_slice_read_is_sign : tie.Need-bounds-text-i-2
shared_slice_read_is_sign c = search rules

is_sign_requires : tie.Need-is_sign-requires
is_sign_requires c κs = search rules

add_is_digits : tie.Need-overflow_add-i-then-is_sign
add_is_digits c = search rules

is_digits_requires : tie.Need-is_digits-requires
is_digits_requires c κs = search rules

returns_4 : tie.Need-returns-then-is_sign
returns_4 c =
    let args = c.args in
    let is_e = c.is_e in
    let e = is_so is_e.ensures (c.if-not-is_e.false) in
    let is_sign = c.is_sign in
    exponent-signed args.text.now args.i (omega arith) (omega arith) e (is_so is_sign.ensures c.if-is_sign.true) c.is_digits.ensures

add_is_digits_2 : tie.Need-overflow_add-i-3
add_is_digits_2 c = search rules

is_digits_requires_2 : tie.Need-is_digits-requires-2
is_digits_requires_2 c κs = search rules

returns_5 : tie.Need-returns
returns_5 c =
    let args = c.args in
    let is_e = c.is_e in
    let e = is_so is_e.ensures (c.if-not-is_e.false) in
    let is_sign = c.is_sign in
    exponent_unsigned args.text.now args.i (omega arith) (omega arith) e (is_not is_sign.ensures c.if-is_sign.false) c.is_digits-2.ensures

pub is_exponent_spec : {M : Type 1} → statement M
is_exponent_spec =
    tie.close
    (tie.spec
    returns
    shared_slice_read_is_e
    is_e_requires
    returns_2
    add_if3
    returns_3
    add_is_sign
    shared_slice_read_is_sign
    is_sign_requires
    add_is_digits
    is_digits_requires
    returns_4
    add_is_digits_2
    is_digits_requires_2
    returns_5)
