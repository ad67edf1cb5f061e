-- `lexemes::numbers::after_sign` meets its contract: digits, the end, or junk.
-- Assumes nothing.
use native.Mathlib.Omega.{arith}
use Rattle.lexemes.proofs.Numerals.{digit_inside, said, denied, sign_number, sign_none, sign-bad}
use Rattle.lexemes.proofs.numbers.after_sign.Goals as goal

pub digits_from-requires : goal.digits_from-requires
digits_from-requires c = omega (arith, digit_inside c.args.src.now c.args.f (said c.if-is_digit.true c.is_digit.ensures))

pub returns-then-is_digit : goal.returns-then-is_digit
returns-then-is_digit c = sign_number c.args.src.now (said c.if-is_digit.true c.is_digit.ensures) c.digits_from.ensures

pub returns-then-src-f : goal.returns-then-src-f
returns-then-src-f c = sign_none c.args.src.now c.if-src-f.true

pub returns : goal.returns
returns c = sign-bad c.args.src.now c.if-src-f.false (denied c.if-is_digit.false c.is_digit.ensures) c.after.ensures
