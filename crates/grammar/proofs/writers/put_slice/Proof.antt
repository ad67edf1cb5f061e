-- `writers::put_slice` meets its contract: one writing after the other.
-- Assumes nothing.
use Rattle.grammar.specs.Image.{entry, payload}
use Rattle.grammar.proofs.WritingLaws.{and_then}
use borrow.Author.Rules.{rules}
use Rattle.grammar.proofs.writers.put_slice.Statement.{statement}
use Rattle.grammar.proofs.writers.put_slice.Tie as tie

returns : tie.Need-returns
unfolding entry payload
returns c =
    let span3 = c.before.before in
    let span2 = span3.before.before.before.before in
    let span = span2.before.before.before.before in
    let byte = span.before.before.before.before in
    let head = byte.before.before.before.before in
    and_then (and_then (and_then (and_then head.put_head-w1.ensures byte.put_byte-w2.ensures) span.put_span-w3.ensures) span2.put_span-w4.ensures) span3.put_span.ensures

pub put_slice_spec : {M : Type 1} → statement M
put_slice_spec =
    tie.close
    (tie.spec
    (λ c κs. search rules)
    (λ c κs. search rules)
    (λ c κs. search rules)
    (λ c κs. search rules)
    (λ c κs. search rules)
    (λ c. search rules)
    returns)
