-- `settings::has_null_coaelse` meets its contract: the test is that of `has`.
-- Assumes nothing.
use mathlib.Core.Path.{refl}
use Rattle.grammar.specs.Reading.{has}
use Rattle.grammar.proofs.settings.has_null_coaelse.Statement.{statement}
use Rattle.grammar.proofs.settings.has_null_coaelse.Tie as tie

returns : tie.Need-returns
unfolding has
returns c = refl

pub has_null_coaelse_spec : {M : Type 1} → statement M
has_null_coaelse_spec = tie.close (tie.spec returns)
