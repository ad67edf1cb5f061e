-- `writers::put_count` meets its contract: one writing after the other.
-- Assumes nothing.
use Rattle.grammar.specs.Image.{entry, payload}
use Rattle.grammar.proofs.WritingLaws.{and_then}
use borrow.Author.Rules.{rules}
use Rattle.grammar.proofs.writers.put_count.Statement.{statement}
use Rattle.grammar.proofs.writers.put_count.Tie as tie

returns : tie.Need-returns
unfolding entry payload
returns c =
    let number = c.before.before in
    let head = number.before.before.before.before in
    and_then head.put_head-w1.ensures number.put_number.ensures

pub put_count_spec : {M : Type 1} → statement M
put_count_spec = tie.close (tie.spec (λ c κs. search rules) (λ c κs. search rules) (λ c. search rules) returns)
