-- `writers::put_word` meets its contract: one writing after the other.
-- Assumes nothing.
use Rattle.grammar.specs.Image.{entry, payload}
use Rattle.grammar.proofs.WritingLaws.{and_then}
use borrow.Author.Rules.{rules}
use Rattle.grammar.proofs.writers.put_word.Statement.{statement}
use Rattle.grammar.proofs.writers.put_word.Tie as tie

returns : tie.Need-returns
unfolding entry payload
returns c =
    let text = c.before.before in
    let head = text.before.before.before.before in
    let args = head.args in
    and_then head.put_head-w1.ensures text.put_text.ensures

pub put_word_spec : {M : Type 1} → statement M
put_word_spec = tie.close (tie.spec (λ c κs. search rules) (λ c κs. search rules) (λ c. search rules) returns)
