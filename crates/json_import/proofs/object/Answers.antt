-- `object`: its brace, or a first name.
-- Assumes nothing.
use Rattle.std.proofs.Common.{sym, ◌∙◌}
use Rattle.json_import.proofs.ValuePlaces.{object_empty, object_named}
use Rattle.json_import.proofs.object.Goals as goal

pub returns-then-peek-eq125 : goal.returns-then-peek-eq125
returns-then-peek-eq125 c = object_empty c.blanks-at.ensures c.requires (sym c.peek.ensures ∙ c.if-peek-eq125.true) c.closed.ensures.0 c.closed.ensures.1

pub returns : goal.returns
returns c = object_named c.blanks-at.ensures c.requires (λ z. c.if-peek-eq125.false (c.peek.ensures ∙ z)) c.named.ensures
