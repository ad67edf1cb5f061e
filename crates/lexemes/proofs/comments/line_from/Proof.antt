-- `lexemes::comments::line_from` meets its contract. The loop's invariant: a longest match of the comment from here is one from its start.
-- Assumes nothing.
use mathlib.Core.Path.{sym, ◌∙◌}
use Prim.Native.Nat.{◌-◌, ◌≤◌}
use native.Mathlib.Omega.{arith}
use lib.ListN.{length}
use borrow.Author.Rules.{rules}
use Rattle.lexemes.proofs.Letters.{up, next-within}
use Rattle.lexemes.proofs.Slashes.{InLine, line-start, line_on, line_lf, line_crlf, line_cr, line_end}
use Rattle.lexemes.proofs.comments.line_from.Statement.{statement}
use Rattle.lexemes.proofs.comments.line_from.Tie as tie

abbrev invariant_loop : tie.invariant-loop-i
invariant_loop src from i₀ i = (i ≤ length src) × InLine src from i

abbrev decreases_loop : tie.decreases-loop-i
decreases_loop src from i₀ i = length src - i

loop_holds : tie.Need-loop-i-init invariant_loop decreases_loop
loop_holds c = (search rules, line-start)

shared_slice_read_b : tie.Need-bounds-src-i invariant_loop decreases_loop
shared_slice_read_b c = search rules

add_result : tie.Need-overflow_add-result invariant_loop decreases_loop
add_result c = search rules

returns : tie.Need-returns-then-b-eq10 invariant_loop decreases_loop
returns c =
    let loop = c.loop-i in
    let if1 = c.if-b-eq10 in
    line_lf loop.invariant.1 if1.true

add_peek : tie.Need-overflow_add-i invariant_loop decreases_loop
add_peek c = search rules

peek_requires : tie.Need-peek-requires invariant_loop decreases_loop
peek_requires c κs = search rules

add_result_2 : tie.Need-overflow_add-result-then-peek-eq10 invariant_loop decreases_loop
add_result_2 c = search rules

returns_2 : tie.Need-returns-then-peek-eq10 invariant_loop decreases_loop
returns_2 c =
    let loop = c.loop-i in
    let if2 = c.if-b-eq13 in
    let peek = c.peek in
    let if3 = c.if-peek-eq10 in
    line_crlf loop.invariant.1 if2.true (sym peek.ensures ∙ if3.true)

returns_3 : tie.Need-returns-then-b-eq13 invariant_loop decreases_loop
returns_3 c =
    let loop = c.loop-i in
    let if2 = c.if-b-eq13 in
    let if3 = c.if-peek-eq10 in
    let peek = c.peek in
    line_cr loop.invariant.1 if2.true (λ e. if3.false (peek.ensures ∙ e))

after_requires : tie.Need-after-i-requires invariant_loop decreases_loop
after_requires c κs = search rules

loop_less : tie.Need-loop-i-smaller invariant_loop decreases_loop
loop_less c =
    let args = c.args in
    let after = c.after-i in
    let s = args.src.now in
    let loop = c.loop-i in
    omega (arith, after.ensures, up s loop.i)

loop_again : tie.Need-loop-i-preserved invariant_loop decreases_loop
loop_again c =
    let args = c.args in
    let after = c.after-i in
    let s = args.src.now in
    let loop = c.loop-i in
    let loop-test = c.loop-i-test in
    let if1 = c.if-b-eq10 in
    let if2 = c.if-b-eq13 in
    (omega (arith, after.ensures, next-within s loop.i loop-test.true), line_on loop.invariant.1 loop-test.true (if1.false, (if2.false, tt)) after.ensures)

returns_4 : tie.Need-returns invariant_loop decreases_loop
returns_4 c =
    let loop = c.loop-i in
    let loop-test = c.loop-i-test in
    line_end loop.invariant.1 loop-test.false

pub line_from_spec : {M : Type 1} → statement M
line_from_spec =
    tie.close
    (tie.spec
    invariant_loop
    decreases_loop
    loop_holds
    shared_slice_read_b
    add_result
    returns
    add_peek
    peek_requires
    add_result_2
    returns_2
    returns_3
    after_requires
    loop_less
    loop_again
    returns_4)
