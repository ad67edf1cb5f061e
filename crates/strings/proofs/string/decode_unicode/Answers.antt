-- Four digits, or the first byte that is none.
use Rattle.std.proofs.Common.{◌≡◌, ◌+◌, ◌*◌, arith}
use Rattle.std.proofs.lemmas.List.{length-drop, take_rest}
use Rattle.strings.proofs.Escapes.{hex_small, four_long, four_is, not_four}
use Rattle.strings.proofs.string.decode_unicode.Goals as goal

pub returns-in_default : goal.returns-in_default
returns-in_default c = λ n r f. omega (arith, four_long f, length-drop c.args.i c.args.s.now)

pub returns-in_err-high : goal.returns-in_err-high
returns-in_err-high c = rw c.from_residual-in_err-high.ensures (not_four _ 1 (omega arith) (rw take_rest at c.in_err-high.ensures))

pub returns-in_err-to_digit-2 : goal.returns-in_err-to_digit-2
returns-in_err-to_digit-2 c = rw c.from_residual-in_err-to_digit-2.ensures (not_four _ 2 (omega arith) (rw take_rest at c.in_err-to_digit-2.ensures))

pub returns-in_err-low : goal.returns-in_err-low
returns-in_err-low c = rw c.from_residual-in_err-low.ensures (not_four _ 3 (omega arith) (rw take_rest at c.in_err-low.ensures))

pub overflow_mul-result : goal.overflow_mul-result
overflow_mul-result c = omega (arith, hex_small c.in_ok-to_digit.ensures, hex_small c.in_ok-high.ensures)

pub overflow_add-result : goal.overflow_add-result
overflow_add-result c =
    omega (arith, hex_small c.in_ok-to_digit.ensures, hex_small c.in_ok-high.ensures, hex_small c.in_ok-to_digit-2.ensures, hex_small c.in_ok-low.ensures)

pub returns : goal.returns
returns c =
    let v = c.in_ok-to_digit.field-0 in
    let w = c.in_ok-high.field-0 in
    let x = c.in_ok-to_digit-2.field-0 in
    let y = c.in_ok-low.field-0 in
    let same : (v * 0x10 + w) * 0x100 + (x * 0x10 + y) ≡ v * 0x1000 + w * 0x100 + x * 0x10 + y = omega arith in
    rw same
    (four_is _
    (rw take_rest at c.in_ok-to_digit.ensures)
    (rw take_rest at c.in_ok-high.ensures)
    (rw take_rest at c.in_ok-to_digit-2.ensures)
    (rw take_rest at c.in_ok-low.ensures))
