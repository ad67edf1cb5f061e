-- `members_close` meets its contract: one record over all members.
-- Assumes nothing.
use borrow.Author.Rules.{rules}
use Rattle.grammar.specs.Image.{entry, payload}
use native.Mathlib.Omega.{arith}
use Rattle.leaves.proofs.Steps
use Rattle.leaves.proofs.members_close.Statement.{statement}
use Rattle.leaves.proofs.members_close.Tie as tie

put_count_requires : tie.Need-put_count-w1-requires
put_count_requires c κs = search rules

same_length : tie.Need-shape_of-out
same_length c = search rules

returns : tie.Need-returns
unfolding entry payload
returns c =
    let put-count' = c.put_count-w1 in
    record { ends = λ s. record { ends = λ g d n. Steps.owes (omega arith) (Steps.closed 5 (omega arith) put-count'.ensures Steps.here) } }

pub members_close_spec : {M : Type 1} → statement M
members_close_spec = tie.close (tie.spec put_count_requires same_length returns)
