-- `images::texts::digits` meets its contract. The loop's invariant: all bytes so far are digits.
-- Assumes nothing.
use mathlib.Core.Path.{◌≡◌, subst}
use Prim.Native.Nat.{ℕ, ◌-◌, ◌≤◌, ◌<◌}
use native.Mathlib.Omega.{arith}
use lib.Dec.{T}
use lib.ListN.{length, get_or, get_or-eq_default}
use borrow.Author.Rules.{rules}
use Rattle.lexemes.specs.Texts.{is_digit}
use Rattle.lexemes.proofs.Classes.{up_to}
use Rattle.images.proofs.TextLaws.{is_so, is_not}
use Rattle.images.proofs.texts.digits.Statement.{statement}
use Rattle.images.proofs.texts.digits.Tie as tie

abbrev invariant_loop : tie.invariant-loop-end
invariant_loop text i end₀ end = (i ≤ end) × ((k : ℕ) → i ≤ k → k < end → T (is_digit (get_or text k 0)))

abbrev decreases_loop : tie.decreases-loop-end
decreases_loop text i end₀ end = length text - end

loop_holds : tie.Need-loop-end-init invariant_loop decreases_loop
loop_holds c = (omega arith, λ k g l. absurd (omega arith))

shared_slice_read_is_digit : tie.Need-bounds-text-end invariant_loop decreases_loop
shared_slice_read_is_digit c = search rules

is_digit_requires : tie.Need-is_digit-requires invariant_loop decreases_loop
is_digit_requires c κs = search rules

returns : tie.Need-returns-then-not-is_digit invariant_loop decreases_loop
returns c =
    let loop = c.loop-end in
    let test = c.is_digit in
    record { forward = loop.invariant.0; each = loop.invariant.1; over = is_not test.ensures (c.if-not-is_digit.true) }

add_end : tie.Need-overflow_add-end invariant_loop decreases_loop
add_end c = search rules

loop_less : tie.Need-loop-end-smaller invariant_loop decreases_loop
loop_less c = search rules

loop_again : tie.Need-loop-end-preserved invariant_loop decreases_loop
loop_again c =
    let args = c.args in
    let loop = c.loop-end in
    let test = c.is_digit in
    let d = is_so test.ensures (c.if-not-is_digit.false) in
    (omega arith, up_to (λ (k : ℕ). T (is_digit (get_or args.text.now k 0))) args.i loop.end loop.invariant.1 d)

returns_2 : tie.Need-returns invariant_loop decreases_loop
returns_2 c =
    let args = c.args in
    let loop = c.loop-end in
    let z : get_or args.text.now loop.end 0 ≡ 0 = get_or-eq_default args.text.now 0 c.loop-end-test.false in
    record { forward = loop.invariant.0; each = loop.invariant.1; over = λ t. subst (λ (b : ℕ). T (is_digit b)) z t }

pub digits_spec : {M : Type 1} → statement M
digits_spec =
    tie.close
    (tie.spec
    invariant_loop
    decreases_loop
    loop_holds
    shared_slice_read_is_digit
    is_digit_requires
    returns
    add_end
    loop_less
    loop_again
    returns_2)
