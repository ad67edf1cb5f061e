-- `lexemes::numbers::digits_from` meets its contract. The loop's invariant: digits and groups of them stand before i, and none at i.
-- Assumes nothing.
use mathlib.Core.Path.{refl, sym, ◌∙◌}
use Prim.Native.Nat.{◌+◌, ◌-◌, ◌≤◌}
use native.Mathlib.Omega.{arith}
use lib.ListN.{length, get_or}
use borrow.Author.Rules.{rules}
use Rattle.lexemes.specs.Scan.{IsDigit, Hops, here, group_on}
use Rattle.lexemes.proofs.Numerals.{run_hops, digit_inside, said, denied}
use Rattle.lexemes.proofs.numbers.digits_from.Statement.{statement}
use Rattle.lexemes.proofs.numbers.digits_from.Tie as tie

abbrev invariant_loop : tie.invariant-loop-from
invariant_loop src from i₀ i = (from ≤ i) × (i ≤ length src) × Hops src from i × (IsDigit (get_or src i 0) → ⊥)

abbrev decreases_loop : tie.decreases-loop-from
decreases_loop src from i₀ i = length src - i

digit_run_requires : tie.Need-digit_run-i-requires invariant_loop decreases_loop
digit_run_requires c κs = search rules

loop_holds : tie.Need-loop-from-init invariant_loop decreases_loop
loop_holds c =
    let digit-run = c.digit_run-i in
    (digit-run.ensures.start, digit-run.ensures.end, run_hops digit-run.ensures here, λ d. digit-run.ensures.over d.0 d.1)

peek_requires : tie.Need-peek-requires invariant_loop decreases_loop
peek_requires c κs = search rules

add_is_digit : tie.Need-overflow_add-i invariant_loop decreases_loop
add_is_digit c = search rules

is_digit_requires : tie.Need-is_digit-requires invariant_loop decreases_loop
is_digit_requires c κs = search rules

returns : tie.Need-returns-then-not-is_digit invariant_loop decreases_loop
returns c =
    let loop = c.loop-from in
    let is_digit = c.is_digit in
    let if2 = c.if-not-is_digit in
    record { start = loop.invariant.0; end = loop.invariant.1; hops = loop.invariant.2; over = loop.invariant.3; no_group = λ e. denied (if2.true) is_digit.ensures }

add_digit_run : tie.Need-overflow_add-i-in-loop-from invariant_loop decreases_loop
add_digit_run c =
    let args = c.args in
    let s = args.src.now in
    let loop = c.loop-from in
    let is_digit = c.is_digit in
    let if2 = c.if-not-is_digit in
    omega (arith, digit_inside s (loop.i + 1) (said (if2.false) is_digit.ensures))

digit_run_requires_2 : tie.Need-digit_run-i-requires-in-loop-from invariant_loop decreases_loop
digit_run_requires_2 c κs =
    let args = c.args in
    let s = args.src.now in
    let loop = c.loop-from in
    let is_digit = c.is_digit in
    let if2 = c.if-not-is_digit in
    omega (arith, digit_inside s (loop.i + 1) (said (if2.false) is_digit.ensures))

loop_less : tie.Need-loop-from-smaller invariant_loop decreases_loop
loop_less c =
    let digit-run2 = c.digit_run-i-in-loop-from in
    omega (arith, digit-run2.ensures.start, digit-run2.ensures.end)

loop_again : tie.Need-loop-from-preserved invariant_loop decreases_loop
loop_again c =
    let loop = c.loop-from in
    let digit-run2 = c.digit_run-i-in-loop-from in
    let peek = c.peek in
    let if1 = c.loop-from-test in
    let is_digit = c.is_digit in
    let if2 = c.if-not-is_digit in (
      omega (arith, loop.invariant.0, digit-run2.ensures.start),
      digit-run2.ensures.end,
      run_hops digit-run2.ensures (group_on loop.invariant.2 (sym peek.ensures ∙ if1.true) (said (if2.false) is_digit.ensures) refl),
      λ d. digit-run2.ensures.over d.0 d.1,
    )

returns_2 : tie.Need-returns invariant_loop decreases_loop
returns_2 c =
    let loop = c.loop-from in
    let if1 = c.loop-from-test in
    let peek = c.peek in
    record { start = loop.invariant.0; end = loop.invariant.1; hops = loop.invariant.2; over = loop.invariant.3; no_group = λ e d. if1.false (peek.ensures ∙ e) }

pub digits_from_spec : {M : Type 1} → statement M
digits_from_spec =
    tie.close
    (tie.spec
    invariant_loop
    decreases_loop
    digit_run_requires
    loop_holds
    peek_requires
    add_is_digit
    is_digit_requires
    returns
    add_digit_run
    digit_run_requires_2
    loop_less
    loop_again
    returns_2)
