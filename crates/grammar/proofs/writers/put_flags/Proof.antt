-- `writers::put_flags` meets its contract: one writing after the other.
-- Assumes nothing.
use Rattle.grammar.proofs.WritingLaws.{and_then}
use borrow.Author.Rules.{rules}
use Rattle.grammar.proofs.writers.put_flags.Statement.{statement}
use Rattle.grammar.proofs.writers.put_flags.Tie as tie

returns : tie.Need-returns
returns c =
    let third = c.before.before in
    let second = third.before.before.before.before in
    let first = second.before.before.before.before in
    and_then (and_then first.put_byte-w1.ensures second.put_byte-w2.ensures) third.put_byte.ensures

pub put_flags_spec : {M : Type 1} → statement M
put_flags_spec =
    tie.close
    (tie.spec (λ c κs. search rules) (λ c κs. search rules) (λ c κs. search rules) (λ c. search rules) returns)
