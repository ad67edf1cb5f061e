-- `lexemes::kept::first_bad` meets its contract. The loop's invariant: no lexeme so far is bad.
-- Assumes nothing.
use mathlib.Core.Path.{sym, ◌∙◌}
use Prim.Native.Nat.{◌-◌}
use native.Mathlib.Omega.{arith}
use lib.ListN.{length}
use borrow.Author.Rules.{rules}
use Rattle.lexemes.proofs.KeptLaws.{Good, good_start, good_on, good-bad, good_end, next_bounds}
use Rattle.lexemes.proofs.kept.first_bad.Statement.{statement}
use Rattle.lexemes.proofs.kept.first_bad.Tie as tie

abbrev invariant_loop : tie.invariant-loop-l
invariant_loop src i₀ i = Good src i

abbrev decreases_loop : tie.decreases-loop-l
decreases_loop src i₀ i = length src - i

loop_holds : tie.Need-loop-l-init invariant_loop decreases_loop
loop_holds c = good_start

next_kept_requires : tie.Need-next_kept-l-requires invariant_loop decreases_loop
next_kept_requires c κs = search rules

-- No lexeme is left.
returns : tie.Need-returns-then-l-eq-EOF invariant_loop decreases_loop
returns c =
    let next-kept = c.next_kept-l in
    let loop = c.loop-l in
    good_end loop.invariant next-kept.ensures c.if-l-eq-EOF.true

is_bad_requires : tie.Need-is_bad-requires invariant_loop decreases_loop
is_bad_requires c κs = search rules

returns_2 : tie.Need-returns-then-is_bad invariant_loop decreases_loop
returns_2 c =
    let is_bad = c.is_bad in
    let if1 = c.if-l-eq-EOF in
    let next-kept = c.next_kept-l in
    let loop = c.loop-l in
    good-bad loop.invariant next-kept.ensures if1.false (sym is_bad.ensures ∙ c.if-is_bad.true)

loop_less : tie.Need-loop-l-smaller invariant_loop decreases_loop
loop_less c =
    let if1 = c.if-l-eq-EOF in
    let next-kept = c.next_kept-l in
    let within = next_bounds next-kept.ensures if1.false in
    omega (arith, within.0, within.1, within.2)

loop_again : tie.Need-loop-l-preserved invariant_loop decreases_loop
loop_again c =
    let is_bad = c.is_bad in
    let if1 = c.if-l-eq-EOF in
    let next-kept = c.next_kept-l in
    let loop = c.loop-l in
    good_on loop.invariant next-kept.ensures if1.false (sym is_bad.ensures ∙ c.if-is_bad.false)

pub first_bad_spec : {M : Type 1} → statement M
first_bad_spec = tie.close (tie.spec invariant_loop decreases_loop loop_holds next_kept_requires returns is_bad_requires returns_2 loop_less loop_again)
