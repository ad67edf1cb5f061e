use Rattle.std.proofs.Common.{sym, ◌∙◌}
use Rattle.images.proofs.CodeLaws.{is_first, is_second}
use Rattle.images.proofs.sorts.is.Goals as goal

pub returns-then-eq : goal.returns-then-eq
returns-then-eq c = c.if-eq.true ∙ is_first c.args.tag c.of-own.result c.args.wanted c.of-own.ensures (sym c.eq.ensures ∙ c.if-eq.true)

pub returns-else-eq : goal.returns-else-eq
returns-else-eq c = c.eq-else-eq.ensures ∙ is_second c.args.tag c.of-own.result c.wider.result c.args.wanted c.of-own.ensures c.wider.ensures (sym c.eq.ensures ∙ c.if-eq.false)
