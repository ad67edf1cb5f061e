-- `settings::has_published` meets its contract: the test is that of `published`.
-- Assumes nothing.
use mathlib.Core.Path.{refl}
use Rattle.grammar.specs.Reading.{published}
use Rattle.grammar.proofs.settings.has_published.Statement.{statement}
use Rattle.grammar.proofs.settings.has_published.Tie as tie

returns : tie.Need-returns
unfolding published
returns c = refl

pub has_published_spec : {M : Type 1} → statement M
has_published_spec = tie.close (tie.spec returns)
