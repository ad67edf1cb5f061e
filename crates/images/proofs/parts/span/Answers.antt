use Rattle.images.proofs.CodeLaws.{span_of, span_back}
use Rattle.images.proofs.parts.span.Goals as goal

pub returns-then-start-end : goal.returns-then-start-end
returns-then-start-end c = span_of _ _ _ _ c.number-start.ensures.value c.number-end.ensures.value c.if-start-end.true

pub returns-else-start-end : goal.returns-else-start-end
returns-else-start-end c = span_back _ _ _ _ c.number-start.ensures.value c.number-end.ensures.value c.if-start-end.false
