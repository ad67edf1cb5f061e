-- `lexemes::numbers::after_e` meets its contract: digits, the end, a sign, or junk.
-- Assumes nothing.
use native.Mathlib.Omega.{arith}
use Rattle.lexemes.proofs.Numerals.{digit_inside, said, denied, e_number, e_none, e_bad, e_sign_on}
use Rattle.lexemes.proofs.numbers.after_e.Goals as goal

pub digits_from-requires : goal.digits_from-requires
digits_from-requires c = omega (arith, digit_inside c.args.src.now c.args.f (said c.if-is_digit.true c.is_digit.ensures))

pub returns-then-is_digit : goal.returns-then-is_digit
returns-then-is_digit c = e_number c.args.src.now (said c.if-is_digit.true c.is_digit.ensures) c.digits_from.ensures

pub returns-then-src-f : goal.returns-then-src-f
returns-then-src-f c = e_none c.args.src.now c.if-src-f.true

pub returns-in-43 : goal.returns-in-43
returns-in-43 c = e_sign_on c.args.src.now c.args.f c.after_sign.result (grind arith) c.after_sign.ensures

pub returns-in_default : goal.returns-in_default
returns-in_default c =
    e_bad c.args.src.now c.if-src-f.false (denied c.if-is_digit.false c.is_digit.ensures) ((λ z. grind arith), ((λ z. grind arith), tt)) c.after.ensures
