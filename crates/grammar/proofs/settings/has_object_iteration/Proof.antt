-- `settings::has_object_iteration` meets its contract: the test is that of `has`.
-- Assumes nothing.
use mathlib.Core.Path.{refl}
use Rattle.grammar.specs.Reading.{has}
use Rattle.grammar.proofs.settings.has_object_iteration.Statement.{statement}
use Rattle.grammar.proofs.settings.has_object_iteration.Tie as tie

returns : tie.Need-returns
unfolding has
returns c = refl

pub has_object_iteration_spec : {M : Type 1} → statement M
has_object_iteration_spec = tie.close (tie.spec returns)
