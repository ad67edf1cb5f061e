-- `writers::put_bind` meets its contract: one writing after the other.
-- Assumes nothing.
use Rattle.grammar.specs.Image.{entry, payload}
use Rattle.grammar.proofs.WritingLaws.{and_then}
use borrow.Author.Rules.{rules}
use Rattle.grammar.proofs.writers.put_bind.Statement.{statement}
use Rattle.grammar.proofs.writers.put_bind.Tie as tie

returns : tie.Need-returns
unfolding entry payload
returns c =
    let number = c.before.before in
    let byte = number.before.before.before.before in
    let head = byte.before.before.before.before in
    and_then (and_then head.put_head-w1.ensures byte.put_byte-w2.ensures) number.put_number.ensures

pub put_bind_spec : {M : Type 1} → statement M
put_bind_spec =
    tie.close
    (tie.spec (λ c κs. search rules) (λ c κs. search rules) (λ c κs. search rules) (λ c. search rules) returns)
