-- `with_field` meets its contract.
-- Assumes nothing.
use Rattle.grammar.specs.Productions.{with_field}
use borrow.Author.Tests.{eq-eqb, ne_eqb}
use mathlib.Core.Path.{refl}
use native.Mathlib.Omega.{arith}
use Rattle.leaves.proofs.with_field.Statement.{statement}
use Rattle.leaves.proofs.with_field.Tie as tie

returns : tie.Need-returns-then-fault-eq4
unfolding with_field
returns c =
    let args' = c.args in
    let if1' = c.if-fault-eq4 in
    (rw (eq-eqb args'.fault 4 if1'.true, with_field) refl, omega arith)

returns_2 : tie.Need-returns-then-fault-eq0
unfolding with_field
returns_2 c =
    let args' = c.args in
    let if1' = c.if-fault-eq4 in
    let if2' = c.if-fault-eq0 in
    (rw (ne_eqb args'.fault 4 if1'.false, eq-eqb args'.fault 0 if2'.true, with_field) refl, omega arith)

returns_3 : tie.Need-returns
unfolding with_field
returns_3 c =
    let args' = c.args in
    let if1' = c.if-fault-eq4 in
    let if2' = c.if-fault-eq0 in
    let pre' = c.requires in
    (rw (ne_eqb args'.fault 4 if1'.false, ne_eqb args'.fault 0 if2'.false, with_field) refl, pre')

pub with_field_spec : {M : Type 1} → statement M
with_field_spec = tie.close (tie.spec returns returns_2 returns_3)
