-- `with_member` meets its contract.
-- Assumes nothing.
use mathlib.Core.Path.{◌∙◌}
use borrow.Author.Rules.{rules}
use Rattle.leaves.proofs.FoundLaws.{local_fault, assert_member_fault, field_member_fault}
use Rattle.leaves.proofs.with_member.Statement.{statement}
use Rattle.leaves.proofs.with_member.Tie as tie

returns : tie.Need-returns-then-kind-eq-LOCAL_KW
returns c = let start = c.before in (local_fault start.args.fault start.args.kind c.if-kind-eq-LOCAL_KW.true, start.requires)

with_assert_requires : tie.Need-with_assert-requires
with_assert_requires c κs = search rules

returns_2 : tie.Need-returns-then-kind-eq-ASSERT_KW
returns_2 c =
    let found = c.with_assert.ensures in
    let at-assert = c.before in
    let args' = at-assert.args in
    (found.0 ∙ assert_member_fault args'.fault args'.kind at-assert.if-kind-eq-ASSERT_KW.true, found.1)

with_field_requires : tie.Need-with_field-requires
with_field_requires c κs = search rules

returns_3 : tie.Need-returns
returns_3 c =
    let found = c.with_field.ensures in
    let neither = c.before in
    let args' = neither.args in
    (found.0 ∙ field_member_fault args'.fault args'.kind neither.if-kind-eq-LOCAL_KW.false neither.if-kind-eq-ASSERT_KW.false, found.1)

pub with_member_spec : {M : Type 1} → statement M
with_member_spec = tie.close (tie.spec returns with_assert_requires returns_2 with_field_requires returns_3)
