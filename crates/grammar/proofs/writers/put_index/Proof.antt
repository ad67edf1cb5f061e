-- `writers::put_index` meets its contract: one writing after the other.
-- Assumes nothing.
use Rattle.grammar.specs.Image.{entry, payload}
use Rattle.grammar.proofs.WritingLaws.{and_then}
use borrow.Author.Rules.{rules}
use Rattle.grammar.proofs.writers.put_index.Statement.{statement}
use Rattle.grammar.proofs.writers.put_index.Tie as tie

returns : tie.Need-returns
unfolding entry payload
returns c =
    let byte2 = c.before.before in
    let byte = byte2.before.before.before.before in
    let span = byte.before.before.before.before in
    let head = span.before.before.before.before in
    and_then (and_then (and_then head.put_head-w1.ensures span.put_span-w2.ensures) byte.put_byte-w3.ensures) byte2.put_byte.ensures

pub put_index_spec : {M : Type 1} → statement M
put_index_spec =
    tie.close
    (tie.spec
    (λ c κs. search rules)
    (λ c κs. search rules)
    (λ c κs. search rules)
    (λ c κs. search rules)
    (λ c. search rules)
    returns)
