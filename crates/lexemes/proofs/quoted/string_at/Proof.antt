-- `lexemes::quoted::string_at` meets its contract. The loop's invariant: a longest match in the string from here is one from its start.
-- Assumes nothing.
use mathlib.Core.Logic.{⊎_elim}
use Prim.Native.Nat.{◌+◌, ◌-◌, ◌≤◌, ◌<◌}
use native.Mathlib.Omega.{arith}
use lib.ListN.{length}
use borrow.Author.Rules.{rules}
use Rattle.lexemes.proofs.Letters.{up, next-within}
use Rattle.lexemes.proofs.Quotes.{InString, opened, passed, escape_passed, closed, cut_escape, cut}
use Rattle.lexemes.proofs.quoted.string_at.Statement.{statement}
use Rattle.lexemes.proofs.quoted.string_at.Tie as tie

abbrev invariant_loop : tie.invariant-loop-i
invariant_loop src at q good i₀ i = (at < i) × (i ≤ length src) × InString src at q good i

abbrev decreases_loop : tie.decreases-loop-i
decreases_loop src at q good i₀ i = length src - i

add_i : tie.Need-overflow_add-i invariant_loop decreases_loop
add_i c = search rules

loop_holds : tie.Need-loop-i-init invariant_loop decreases_loop
loop_holds c =
    let pre = c.requires in
    (omega arith, omega arith, opened pre.2 pre.1)

shared_slice_read_b : tie.Need-bounds-src-i invariant_loop decreases_loop
shared_slice_read_b c = search rules

add_t11 : tie.Need-overflow_add-result invariant_loop decreases_loop
add_t11 c = search rules

returns : tie.Need-returns-then-b-q invariant_loop decreases_loop
returns c =
    let loop = c.loop-i in
    let if1 = c.if-b-q in
    closed loop.invariant.2 if1.true

add_if3 : tie.Need-overflow_add-i-then-b-eq92 invariant_loop decreases_loop
add_if3 c = search rules

add_t15 : tie.Need-overflow_add-result-then-src-i invariant_loop decreases_loop
add_t15 c =
    let pre = c.requires in
    ⊎_elim (λ e. omega (arith, e.1)) (λ e. omega (arith, e.1)) pre.2

returns_2 : tie.Need-returns-then-src-i invariant_loop decreases_loop
returns_2 c =
    let loop = c.loop-i in
    let if2 = c.if-b-eq92 in
    let if3 = c.if-src-i in
    cut_escape loop.invariant.2 if2.true if3.true

add_after : tie.Need-overflow_add-i-then-b-eq92-2 invariant_loop decreases_loop
add_after c = search rules

after_requires : tie.Need-after-i-requires invariant_loop decreases_loop
after_requires c κs = search rules

loop_less : tie.Need-loop-i-smaller-then-b-eq92 invariant_loop decreases_loop
loop_less c =
    let args = c.args in
    let after = c.after-i in
    let s = args.src.now in
    let loop = c.loop-i in
    omega (arith, after.ensures, up s (loop.i + 1))

loop_again : tie.Need-loop-i-preserved-then-b-eq92 invariant_loop decreases_loop
loop_again c =
    let args = c.args in
    let after = c.after-i in
    let s = args.src.now in
    let loop = c.loop-i in
    let if3 = c.if-src-i in
    let if2 = c.if-b-eq92 in (
      omega (arith, after.ensures, up s (loop.i + 1)),
      omega (arith, after.ensures, next-within s (loop.i + 1) if3.false),
      escape_passed loop.invariant.2 if2.true if3.false after.ensures,
    )

after_requires_2 : tie.Need-after-i-requires-in-loop-i invariant_loop decreases_loop
after_requires_2 c κs = search rules

loop_less_2 : tie.Need-loop-i-smaller invariant_loop decreases_loop
loop_less_2 c =
    let args = c.args in
    let after2 = c.after-i-in-loop-i in
    let s = args.src.now in
    let loop = c.loop-i in
    omega (arith, after2.ensures, up s loop.i)

loop_again_2 : tie.Need-loop-i-preserved invariant_loop decreases_loop
loop_again_2 c =
    let args = c.args in
    let after2 = c.after-i-in-loop-i in
    let s = args.src.now in
    let loop = c.loop-i in
    let loop-test = c.loop-i-test in
    let if1 = c.if-b-q in
    let if2 = c.if-b-eq92 in (
      omega (arith, after2.ensures, up s loop.i),
      omega (arith, after2.ensures, next-within s loop.i loop-test.true),
      passed loop.invariant.2 loop-test.true (if1.false, (if2.false, tt)) after2.ensures,
    )

add_t16 : tie.Need-overflow_add-result-2 invariant_loop decreases_loop
add_t16 c =
    let pre = c.requires in
    ⊎_elim (λ e. omega (arith, e.1)) (λ e. omega (arith, e.1)) pre.2

returns_3 : tie.Need-returns invariant_loop decreases_loop
returns_3 c =
    let loop = c.loop-i in
    let loop-test = c.loop-i-test in
    cut loop.invariant.2 loop-test.false

pub string_at_spec : {M : Type 1} → statement M
string_at_spec =
    tie.close
    (tie.spec
    invariant_loop
    decreases_loop
    add_i
    loop_holds
    shared_slice_read_b
    add_t11
    returns
    add_if3
    add_t15
    returns_2
    add_after
    after_requires
    loop_less
    loop_again
    after_requires_2
    loop_less_2
    loop_again_2
    add_t16
    returns_3)
