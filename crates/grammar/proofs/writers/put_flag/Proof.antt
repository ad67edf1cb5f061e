-- `writers::put_flag` meets its contract: one writing after the other.
-- Assumes nothing.
use Rattle.grammar.specs.Image.{entry, payload}
use Rattle.grammar.proofs.WritingLaws.{and_then}
use borrow.Author.Rules.{rules}
use Rattle.grammar.proofs.writers.put_flag.Statement.{statement}
use Rattle.grammar.proofs.writers.put_flag.Tie as tie

returns : tie.Need-returns
unfolding entry payload
returns c =
    let byte = c.before.before in
    let head = byte.before.before.before.before in
    and_then head.put_head-w1.ensures byte.put_byte.ensures

pub put_flag_spec : {M : Type 1} → statement M
put_flag_spec = tie.close (tie.spec (λ c κs. search rules) (λ c κs. search rules) (λ c. search rules) returns)
