-- `writers::put_iteration` meets its contract: one writing after the other.
-- Assumes nothing.
use Prim.Native.Nat.{◌+◌}
use native.Mathlib.Omega.{arith}
use lib.ListN.{length}
use Rattle.grammar.specs.Image.{entry, payload}
use Rattle.grammar.proofs.WritingLaws.{and_then, head_is}
use borrow.Author.Rules.{rules}
use Rattle.grammar.proofs.writers.put_iteration.Statement.{statement}
use Rattle.grammar.proofs.writers.put_iteration.Tie as tie

returns : tie.Need-returns
unfolding entry payload
returns c =
    let text = c.before.before in
    let byte = text.before.before.before.before in
    let head = byte.before.before.before.before in
    let args = head.args in
    and_then (and_then (head_is 35 (1 + length args.s.now) _ (omega arith) head.put_head-w1.ensures) byte.put_byte-w2.ensures) text.put_text.ensures

pub put_iteration_spec : {M : Type 1} → statement M
put_iteration_spec =
    tie.close
    (tie.spec
    (λ c. search rules)
    (λ c κs. search rules)
    (λ c κs. search rules)
    (λ c κs. search rules)
    (λ c. search rules)
    returns)
