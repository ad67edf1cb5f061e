-- `operators::prefix_power` meets its contract: one power for each answer of `has_published`.
-- Assumes nothing.
use mathlib.Core.Path.{sym, ap, ◌∙◌}
use mathlib.Core.Bool.{Bool, cond}
use Rattle.grammar.specs.Answer.{prefix_power}
use Rattle.grammar.proofs.operators.prefix_power.Statement.{statement}
use Rattle.grammar.proofs.operators.prefix_power.Tie as tie

has_published_requires : tie.Need-has_published-requires
has_published_requires c κs = tt

returns : tie.Need-returns-then-has_published
unfolding prefix_power
returns c = ap (λ (b : Bool). cond b 22 20) (sym c.if-has_published.true ∙ c.has_published.ensures)

returns_2 : tie.Need-returns
unfolding prefix_power
returns_2 c = ap (λ (b : Bool). cond b 22 20) (sym c.if-has_published.false ∙ c.has_published.ensures)

pub prefix_power_spec : {M : Type 1} → statement M
prefix_power_spec = tie.close (tie.spec has_published_requires returns returns_2)
