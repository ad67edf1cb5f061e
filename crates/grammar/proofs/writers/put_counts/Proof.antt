-- `writers::put_counts` meets its contract: one writing after the other.
-- Assumes nothing.
use Rattle.grammar.specs.Image.{entry, payload}
use Rattle.grammar.proofs.WritingLaws.{and_then}
use borrow.Author.Rules.{rules}
use Rattle.grammar.proofs.writers.put_counts.Statement.{statement}
use Rattle.grammar.proofs.writers.put_counts.Tie as tie

returns : tie.Need-returns
unfolding entry payload
returns c =
    let number2 = c.before.before in
    let number = number2.before.before.before.before in
    let head = number.before.before.before.before in
    and_then (and_then head.put_head-w1.ensures number.put_number-w2.ensures) number2.put_number.ensures

pub put_counts_spec : {M : Type 1} → statement M
put_counts_spec =
    tie.close
    (tie.spec (λ c κs. search rules) (λ c κs. search rules) (λ c κs. search rules) (λ c. search rules) returns)
