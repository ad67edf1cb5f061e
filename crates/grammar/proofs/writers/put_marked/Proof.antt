-- `writers::put_marked` meets its contract: one writing after the other.
-- Assumes nothing.
use Rattle.grammar.specs.Image.{entry, payload}
use Rattle.grammar.proofs.WritingLaws.{and_then}
use borrow.Author.Rules.{rules}
use Rattle.grammar.proofs.writers.put_marked.Statement.{statement}
use Rattle.grammar.proofs.writers.put_marked.Tie as tie

returns : tie.Need-returns
unfolding entry payload
returns c =
    let byte = c.before.before in
    let span = byte.before.before.before.before in
    let head = span.before.before.before.before in
    and_then (and_then head.put_head-w1.ensures span.put_span-w2.ensures) byte.put_byte.ensures

pub put_marked_spec : {M : Type 1} → statement M
put_marked_spec =
    tie.close (tie.spec (λ c κs. search rules) (λ c κs. search rules) (λ c κs. search rules) (λ c. search rules) returns)
