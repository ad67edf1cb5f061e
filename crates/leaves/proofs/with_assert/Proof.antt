-- `with_assert` meets its contract.
-- Assumes nothing.
use Rattle.grammar.specs.Productions.{with_assert}
use borrow.Author.Tests.{eq-eqb, ne_eqb}
use mathlib.Core.Path.{refl}
use native.Mathlib.Omega.{arith}
use Rattle.leaves.proofs.with_assert.Statement.{statement}
use Rattle.leaves.proofs.with_assert.Tie as tie

returns : tie.Need-returns-then-fault-eq2
unfolding with_assert
returns c =
    let args' = c.args in
    let if1' = c.if-fault-eq2 in
    (rw (eq-eqb args'.fault 2 if1'.true, with_assert) refl, omega arith)

returns_2 : tie.Need-returns
unfolding with_assert
returns_2 c =
    let args' = c.args in
    let if1' = c.if-fault-eq2 in
    (rw (ne_eqb args'.fault 2 if1'.false, with_assert) refl, omega arith)

pub with_assert_spec : {M : Type 1} → statement M
with_assert_spec = tie.close (tie.spec returns returns_2)
