-- `\x` and two digits, or the first byte that is none.
use Rattle.std.proofs.Common.{arith}
use Rattle.std.proofs.lemmas.List.{take_rest}
use Rattle.strings.proofs.Escapes.{two_at, no_two, no_first, no_second}
use Rattle.strings.proofs.string.two_at.Goals as goal

pub returns-in_default : goal.returns-in_default
returns-in_default c = no_two c.args.s.now c.args.i (omega arith) c.requires.1 (omega arith)

pub returns-in_err-to_digit : goal.returns-in_err-to_digit
returns-in_err-to_digit c =
    let at = c.args in
    rw c.from_residual.ensures (no_first at.s.now at.i (omega arith) c.requires.1 (rw take_rest at c.in_err-to_digit.ensures))

pub returns-in_err-to_digit-2 : goal.returns-in_err-to_digit-2
returns-in_err-to_digit-2 c =
    let at = c.args in
    rw c.from_residual-in_err-to_digit-2.ensures (no_second at.s.now at.i (omega arith) c.requires.1 (rw take_rest at c.in_err-to_digit-2.ensures))

pub returns : goal.returns
returns c =
    let at = c.args in
    two_at at.s.now at.i (omega arith) c.requires.1
    (rw take_rest at c.in_ok-to_digit.ensures)
    (rw take_rest at c.in_ok-to_digit-2.ensures)
