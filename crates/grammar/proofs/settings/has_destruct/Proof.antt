-- `settings::has_destruct` meets its contract: the test is that of `has`.
-- Assumes nothing.
use mathlib.Core.Path.{refl}
use Rattle.grammar.specs.Reading.{has}
use Rattle.grammar.proofs.settings.has_destruct.Statement.{statement}
use Rattle.grammar.proofs.settings.has_destruct.Tie as tie

returns : tie.Need-returns
unfolding has
returns c = refl

pub has_destruct_spec : {M : Type 1} → statement M
has_destruct_spec = tie.close (tie.spec returns)
