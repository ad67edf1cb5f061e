-- `lexemes::at::verbatim_at` meets its contract. The loop's invariant: a longest match in the string from here is one from its `@`.
-- Assumes nothing.
use mathlib.Core.Logic.{⊎_elim}
use mathlib.Core.Path.{sym, ◌∙◌}
use Prim.Native.Nat.{◌+◌, ◌-◌, ◌≤◌}
use native.Mathlib.Omega.{arith}
use lib.ListN.{length}
use borrow.Author.Rules.{rules}
use Rattle.lexemes.proofs.Letters.{up, next-within, inside}
use Rattle.lexemes.proofs.Verbatim.{InRaw, raw_plain, raw_opened, raw_on, raw_doubled, raw_closed, raw_cut}
use Rattle.lexemes.proofs.at.verbatim_at.Statement.{statement}
use Rattle.lexemes.proofs.at.verbatim_at.Tie as tie

abbrev invariant_loop : tie.invariant-loop-i
invariant_loop src at q good i₀ i = (i ≤ length src) × InRaw src at q good i

abbrev decreases_loop : tie.decreases-loop-i
decreases_loop src at q good i₀ i = length src - i

add_i : tie.Need-overflow_add-i invariant_loop decreases_loop
add_i c = search rules

loop_holds : tie.Need-loop-i-init invariant_loop decreases_loop
loop_holds c =
    let pre = c.requires in
    (omega (arith, pre.0), raw_opened pre.3 pre.1 pre.2)

shared_slice_read_b : tie.Need-bounds-src-i invariant_loop decreases_loop
shared_slice_read_b c = search rules

add_peek : tie.Need-overflow_add-i-then-b-q invariant_loop decreases_loop
add_peek c = search rules

peek_requires : tie.Need-peek-requires invariant_loop decreases_loop
peek_requires c κs = search rules

add_i_2 : tie.Need-overflow_add-i-then-peek-q invariant_loop decreases_loop
add_i_2 c =
    let args = c.args in
    let s = args.src.now in
    let loop = c.loop-i in
    let peek = c.peek in
    let if2 = c.if-peek-q in
    let pre = c.requires in
    omega (arith, inside s (loop.i + 1) (omega (arith, peek.ensures, if2.true, raw_plain args.q args.good pre.3)))

loop_less : tie.Need-loop-i-smaller-then-peek-q invariant_loop decreases_loop
loop_less c =
    let args = c.args in
    let s = args.src.now in
    let loop = c.loop-i in
    let peek = c.peek in
    let if2 = c.if-peek-q in
    let pre = c.requires in
    omega (arith, inside s (loop.i + 1) (omega (arith, peek.ensures, if2.true, raw_plain args.q args.good pre.3)))

loop_again : tie.Need-loop-i-preserved-then-peek-q invariant_loop decreases_loop
loop_again c =
    let args = c.args in
    let s = args.src.now in
    let loop = c.loop-i in
    let peek = c.peek in
    let if2 = c.if-peek-q in
    let pre = c.requires in
    let if1 = c.if-b-q in
    (omega (arith, inside s (loop.i + 1) (omega (arith, peek.ensures, if2.true, raw_plain args.q args.good pre.3))), raw_doubled loop.invariant.1 if1.true (sym peek.ensures ∙ if2.true))

add_t12 : tie.Need-overflow_add-result invariant_loop decreases_loop
add_t12 c = search rules

returns : tie.Need-returns-then-b-q invariant_loop decreases_loop
returns c =
    let loop = c.loop-i in
    let if1 = c.if-b-q in
    let if2 = c.if-peek-q in
    let peek = c.peek in
    raw_closed loop.invariant.1 if1.true (λ e. if2.false (peek.ensures ∙ e))

after_requires : tie.Need-after-i-requires invariant_loop decreases_loop
after_requires c κs = search rules

loop_less_2 : tie.Need-loop-i-smaller invariant_loop decreases_loop
loop_less_2 c =
    let args = c.args in
    let after = c.after-i in
    let s = args.src.now in
    let loop = c.loop-i in
    omega (arith, after.ensures, up s loop.i)

loop_again_2 : tie.Need-loop-i-preserved invariant_loop decreases_loop
loop_again_2 c =
    let args = c.args in
    let after = c.after-i in
    let s = args.src.now in
    let loop = c.loop-i in
    let loop-test = c.loop-i-test in
    let if1 = c.if-b-q in
    (omega (arith, after.ensures, next-within s loop.i loop-test.true), raw_on loop.invariant.1 loop-test.true if1.false after.ensures)

add_t14 : tie.Need-overflow_add-result-2 invariant_loop decreases_loop
add_t14 c =
    let pre = c.requires in
    ⊎_elim (λ e. omega (arith, e.1)) (λ e. omega (arith, e.1)) pre.3

returns_2 : tie.Need-returns invariant_loop decreases_loop
returns_2 c =
    let loop = c.loop-i in
    let loop-test = c.loop-i-test in
    raw_cut loop.invariant.1 loop-test.false

pub verbatim_at_spec : {M : Type 1} → statement M
verbatim_at_spec =
    tie.close
    (tie.spec
    invariant_loop
    decreases_loop
    add_i
    loop_holds
    shared_slice_read_b
    add_peek
    peek_requires
    add_i_2
    loop_less
    loop_again
    add_t12
    returns
    after_requires
    loop_less_2
    loop_again_2
    add_t14
    returns_2)
