-- `writers::put_kind` meets its contract: one writing after the other.
-- Assumes nothing.
use Rattle.grammar.specs.Image.{entry, payload}
use Rattle.grammar.proofs.WritingLaws.{and_then}
use borrow.Author.Rules.{rules}
use Rattle.grammar.proofs.writers.put_kind.Statement.{statement}
use Rattle.grammar.proofs.writers.put_kind.Tie as tie

returns : tie.Need-returns
unfolding entry payload
returns c =
    let span = c.before.before in
    let byte = span.before.before.before.before in
    let head = byte.before.before.before.before in
    and_then (and_then head.put_head-w1.ensures byte.put_byte-w2.ensures) span.put_span.ensures

pub put_kind_spec : {M : Type 1} → statement M
put_kind_spec =
    tie.close (tie.spec (λ c κs. search rules) (λ c κs. search rules) (λ c κs. search rules) (λ c. search rules) returns)
