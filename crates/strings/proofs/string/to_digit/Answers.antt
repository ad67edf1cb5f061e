-- Each arm is a row of `Hex`.
use Rattle.std.proofs.Common.{◌≡◌, ◌+◌, ◌-◌, arith}
use Rattle.strings.specs.Literals.{digit, upper, lower}
use Rattle.strings.proofs.string.to_digit.Goals as goal

pub returns-in-48-to-57 : goal.returns-in-48-to-57
returns-in-48-to-57 c = digit {b = c.args.b} (omega arith)

pub returns-in-65-to-70 : goal.returns-in-65-to-70
returns-in-65-to-70 c =
    let b = c.args.b in
    let same : b - 0x41 + 10 ≡ b - 0x37 = omega arith in
    rw same (upper {b = b} (omega arith))

pub returns-in-97-to-102 : goal.returns-in-97-to-102
returns-in-97-to-102 c =
    let b = c.args.b in
    let same : b - 0x61 + 10 ≡ b - 0x57 = omega arith in
    rw same (lower {b = b} (omega arith))
