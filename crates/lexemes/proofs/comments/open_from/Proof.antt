-- `lexemes::comments::open_from` meets its contract. The loop's invariant: all so far is part of a comment with no closing.
-- Assumes nothing.
use Prim.Native.Nat.{◌+◌, ◌-◌, ◌≤◌}
use native.Mathlib.Omega.{arith}
use lib.ListN.{length}
use borrow.Author.Rules.{rules}
use Rattle.lexemes.proofs.Letters.{up, next-within}
use Rattle.lexemes.proofs.Slashes.{Unclosed, open_start, open_other, open_star, open_slash, open_star_last, open_star_slash, open_end}
use Rattle.lexemes.proofs.comments.open_from.Statement.{statement}
use Rattle.lexemes.proofs.comments.open_from.Tie as tie

abbrev invariant_loop : tie.invariant-loop-i
invariant_loop src from i₀ i = (i ≤ length src) × Unclosed src from i

abbrev decreases_loop : tie.decreases-loop-i
decreases_loop src from i₀ i = length src - i

loop_holds : tie.Need-loop-i-init invariant_loop decreases_loop
loop_holds c = (search rules, open_start)

shared_slice_read_b : tie.Need-bounds-src-i invariant_loop decreases_loop
shared_slice_read_b c = search rules

returns : tie.Need-returns-then-b-eq47 invariant_loop decreases_loop
returns c =
    let loop = c.loop-i in
    let if1 = c.if-b-eq47 in
    open_slash loop.invariant.1 if1.true

add_if3 : tie.Need-overflow_add-i invariant_loop decreases_loop
add_if3 c = search rules

returns_2 : tie.Need-returns-then-src-i invariant_loop decreases_loop
returns_2 c =
    let loop = c.loop-i in
    let if2 = c.if-b-eq42 in
    let if3 = c.if-src-i in
    open_star_last loop.invariant.1 if2.true if3.true

add_if4 : tie.Need-overflow_add-i-then-b-eq42 invariant_loop decreases_loop
add_if4 c = search rules

shared_slice_read_if4 : tie.Need-bounds-src-i-then-b-eq42 invariant_loop decreases_loop
shared_slice_read_if4 c = search rules

returns_3 : tie.Need-returns-then-src-i-eq47 invariant_loop decreases_loop
returns_3 c =
    let loop = c.loop-i in
    let if2 = c.if-b-eq42 in
    let if4 = c.if-src-i-eq47 in
    open_star_slash loop.invariant.1 if2.true if4.true

add_after : tie.Need-overflow_add-i-then-b-eq42-2 invariant_loop decreases_loop
add_after c = search rules

after_requires : tie.Need-after-i-requires invariant_loop decreases_loop
after_requires c κs = search rules

loop_less : tie.Need-loop-i-smaller-then-b-eq42 invariant_loop decreases_loop
loop_less c =
    let args = c.args in
    let after = c.after-i in
    let s = args.src.now in
    let loop = c.loop-i in
    omega (arith, after.ensures, up s (loop.i + 1))

loop_again : tie.Need-loop-i-preserved-then-b-eq42 invariant_loop decreases_loop
loop_again c =
    let args = c.args in
    let after = c.after-i in
    let s = args.src.now in
    let loop = c.loop-i in
    let if3 = c.if-src-i in
    let if2 = c.if-b-eq42 in
    let if4 = c.if-src-i-eq47 in
    (omega (arith, after.ensures, next-within s (loop.i + 1) if3.false), open_star loop.invariant.1 if2.true if3.false if4.false after.ensures)

after_requires_2 : tie.Need-after-i-requires-in-loop-i invariant_loop decreases_loop
after_requires_2 c κs = search rules

loop_less_2 : tie.Need-loop-i-smaller invariant_loop decreases_loop
loop_less_2 c =
    let args = c.args in
    let after2 = c.after-i-in-loop-i in
    let s = args.src.now in
    let loop = c.loop-i in
    omega (arith, after2.ensures, up s loop.i)

loop_again_2 : tie.Need-loop-i-preserved invariant_loop decreases_loop
loop_again_2 c =
    let args = c.args in
    let after2 = c.after-i-in-loop-i in
    let s = args.src.now in
    let loop = c.loop-i in
    let loop-test = c.loop-i-test in
    let if2 = c.if-b-eq42 in
    let if1 = c.if-b-eq47 in
    (omega (arith, after2.ensures, next-within s loop.i loop-test.true), open_other loop.invariant.1 loop-test.true (if2.false, (if1.false, tt)) after2.ensures)

returns_4 : tie.Need-returns invariant_loop decreases_loop
returns_4 c =
    let loop = c.loop-i in
    let loop-test = c.loop-i-test in
    open_end loop.invariant.1 loop-test.false

pub open_from_spec : {M : Type 1} → statement M
open_from_spec =
    tie.close
    (tie.spec
    invariant_loop
    decreases_loop
    loop_holds
    shared_slice_read_b
    returns
    add_if3
    returns_2
    add_if4
    shared_slice_read_if4
    returns_3
    add_after
    after_requires
    loop_less
    loop_again
    after_requires_2
    loop_less_2
    loop_again_2
    returns_4)
