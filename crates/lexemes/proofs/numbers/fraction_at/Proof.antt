-- `lexemes::numbers::fraction_at` meets its contract: a point with digits, the end or junk after it, or no point.
-- Assumes nothing.
use mathlib.Core.Path.{sym, ◌∙◌}
use mathlib.Core.Logic.{inr}
use Prim.Native.Nat.{◌+◌}
use native.Mathlib.Omega.{arith}
use borrow.Author.Rules.{rules}
use Rattle.lexemes.proofs.Numerals.{digit_inside, said, denied, point_number, point_none, point_bad}
use Rattle.lexemes.proofs.numbers.fraction_at.Statement.{statement}
use Rattle.lexemes.proofs.numbers.fraction_at.Tie as tie

peek_requires : tie.Need-peek-requires
peek_requires c κs = search rules

add_is_digit : tie.Need-overflow_add-p
add_is_digit c = search rules

is_digit_requires : tie.Need-is_digit-requires
is_digit_requires c κs = search rules

add_digits_from : tie.Need-overflow_add-p-then-is_digit
add_digits_from c = search rules

digits_from_requires : tie.Need-digits_from-requires
digits_from_requires c κs =
    let args = c.args in
    let s = args.src.now in
    let if2 = c.if-is_digit in
    let is_digit = c.is_digit in
    omega (arith, digit_inside s (args.p + 1) (said if2.true is_digit.ensures))

exponent_at_requires : tie.Need-exponent_at-requires
exponent_at_requires c κs =
    let digits_from = c.digits_from in
    digits_from.ensures.end

returns : tie.Need-returns-then-is_digit
returns c =
    let args = c.args in
    let s = args.src.now in
    let peek = c.peek in
    let if1 = c.if-peek-eq46 in
    let if2 = c.if-is_digit in
    let is_digit = c.is_digit in
    let digits_from = c.digits_from in
    let exponent-at = c.exponent_at in
    point_number s (sym peek.ensures ∙ if1.true) (said if2.true is_digit.ensures) digits_from.ensures exponent-at.ensures

add_if3 : tie.Need-overflow_add-p-then-peek-eq46
add_if3 c = search rules

returns_2 : tie.Need-returns-then-src-p
returns_2 c =
    let args = c.args in
    let s = args.src.now in
    let peek = c.peek in
    let if1 = c.if-peek-eq46 in
    let if3 = c.if-src-p in
    point_none s (sym peek.ensures ∙ if1.true) if3.true

add_after : tie.Need-overflow_add-p-then-peek-eq46-2
add_after c = search rules

after_requires : tie.Need-after-requires
after_requires c κs = search rules

returns_3 : tie.Need-returns-then-peek-eq46
returns_3 c =
    let args = c.args in
    let s = args.src.now in
    let peek = c.peek in
    let if1 = c.if-peek-eq46 in
    let if3 = c.if-src-p in
    let if2 = c.if-is_digit in
    let is_digit = c.is_digit in
    let after = c.after in
    point_bad s (sym peek.ensures ∙ if1.true) if3.false (denied if2.false is_digit.ensures) after.ensures

exponent_at_requires_2 : tie.Need-exponent_at-requires-2
exponent_at_requires_2 c κs = search rules

returns_4 : tie.Need-returns
returns_4 c =
    let if1 = c.if-peek-eq46 in
    let peek = c.peek in
    let exponent-at2 = c.exponent_at-2 in
    inr (inr ((λ e. if1.false (peek.ensures ∙ e)), exponent-at2.ensures))

pub fraction_at_spec : {M : Type 1} → statement M
fraction_at_spec =
    tie.close
    (tie.spec
    peek_requires
    add_is_digit
    is_digit_requires
    add_digits_from
    digits_from_requires
    exponent_at_requires
    returns
    add_if3
    returns_2
    add_after
    after_requires
    returns_3
    exponent_at_requires_2
    returns_4)
