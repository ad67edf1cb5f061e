-- `writers::put_call` meets its contract: one writing after the other.
-- Assumes nothing.
use Rattle.grammar.specs.Image.{entry, payload}
use Rattle.grammar.proofs.WritingLaws.{and_then}
use borrow.Author.Rules.{rules}
use Rattle.grammar.proofs.writers.put_call.Statement.{statement}
use Rattle.grammar.proofs.writers.put_call.Tie as tie

returns : tie.Need-returns
unfolding entry payload
returns c =
    let number2 = c.before.before in
    let number = number2.before.before.before.before in
    let byte = number.before.before.before.before in
    let span = byte.before.before.before.before in
    let head = span.before.before.before.before in
    and_then (and_then (and_then (and_then head.put_head-w1.ensures span.put_span-w2.ensures) byte.put_byte-w3.ensures) number.put_number-w4.ensures) number2.put_number.ensures

pub put_call_spec : {M : Type 1} → statement M
put_call_spec =
    tie.close
    (tie.spec
    (λ c κs. search rules)
    (λ c κs. search rules)
    (λ c κs. search rules)
    (λ c κs. search rules)
    (λ c κs. search rules)
    (λ c. search rules)
    returns)
