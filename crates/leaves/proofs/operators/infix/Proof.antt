-- `operators::infix` meets its contract.
-- Assumes nothing.
use mathlib.Core.Path.{sym, ◌∙◌}
use borrow.Author.Rules.{rules}
use Rattle.leaves.proofs.FoundLaws
use Rattle.leaves.proofs.operators.infix.Statement.{statement}
use Rattle.leaves.proofs.operators.infix.Tie as tie

binary_op_requires : tie.Need-binary_op-requires
binary_op_requires c κs = search rules

returns : tie.Need-returns-then-kind-ne-NULL_COAELSE
returns c =
    let binary-op' = c.binary_op in
    let args' = c.args in
    let if1' = c.if-kind-ne-NULL_COAELSE in
    binary-op'.ensures ∙ FoundLaws.same_infix args'.set args'.kind if1'.true

has_null_coaelse_requires : tie.Need-has_null_coaelse-requires
has_null_coaelse_requires c κs = search rules

returns_2 : tie.Need-returns-then-has_null_coaelse
returns_2 c =
    let tested = c.has_null_coaelse in
    let else1 = c.before.before in
    let args' = else1.args in
    FoundLaws.switched_on args'.set args'.kind else1.if-kind-ne-NULL_COAELSE.false (sym tested.ensures ∙ c.if-has_null_coaelse.true)

returns_3 : tie.Need-returns
returns_3 c =
    let tested = c.has_null_coaelse in
    let else1 = c.before.before in
    let args' = else1.args in
    FoundLaws.switched_off args'.set args'.kind else1.if-kind-ne-NULL_COAELSE.false (sym tested.ensures ∙ c.if-has_null_coaelse.false)

pub infix_spec : {M : Type 1} → statement M
infix_spec = tie.close (tie.spec binary_op_requires returns has_null_coaelse_requires returns_2 returns_3)
