-- `writers::put_none` meets its contract: one writing after the other.
-- Assumes nothing.
use Rattle.grammar.specs.Image.{entry, payload}
use borrow.Author.Rules.{rules}
use Rattle.grammar.proofs.writers.put_none.Statement.{statement}
use Rattle.grammar.proofs.writers.put_none.Tie as tie

returns : tie.Need-returns
unfolding entry payload
returns c =
    let head = c.before.before in
    head.put_head.ensures

pub put_none_spec : {M : Type 1} → statement M
put_none_spec = tie.close (tie.spec (λ c κs. search rules) (λ c. search rules) returns)
