-- `writers::put_name` meets its contract: one writing after the other.
-- Assumes nothing.
use Prim.Native.Nat.{◌+◌}
use native.Mathlib.Omega.{arith}
use lib.ListN.{length}
use Rattle.grammar.specs.Image.{entry, payload}
use Rattle.grammar.proofs.WritingLaws.{and_then, head_is}
use borrow.Author.Rules.{rules}
use Rattle.grammar.proofs.writers.put_name.Statement.{statement}
use Rattle.grammar.proofs.writers.put_name.Tie as tie

returns : tie.Need-returns
unfolding entry payload
returns c =
    let text = c.before.before in
    let span = text.before.before.before.before in
    let head = span.before.before.before.before in
    let args = head.args in
    and_then (and_then (head_is args.tag (4 + length args.s.now) _ (omega arith) head.put_head-w1.ensures) span.put_span-w2.ensures) text.put_text.ensures

pub put_name_spec : {M : Type 1} → statement M
put_name_spec =
    tie.close
    (tie.spec
    (λ c. search rules)
    (λ c κs. search rules)
    (λ c κs. search rules)
    (λ c κs. search rules)
    (λ c. search rules)
    returns)
