-- `writers::put_head` meets its contract: one writing after the other.
-- Assumes nothing.
use Rattle.grammar.proofs.WritingLaws.{and_then}
use borrow.Author.Rules.{rules}
use Rattle.grammar.proofs.writers.put_head.Statement.{statement}
use Rattle.grammar.proofs.writers.put_head.Tie as tie

returns : tie.Need-returns
returns c = and_then c.put_byte-w1.ensures c.put_number.ensures

pub put_head_spec : {M : Type 1} → statement M
put_head_spec = tie.close (tie.spec (λ c κs. search rules) (λ c κs. search rules) (λ c. search rules) returns)
