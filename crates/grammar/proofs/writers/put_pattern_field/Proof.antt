-- `writers::put_pattern_field` meets its contract: one writing after the other.
-- Assumes nothing.
use Prim.Native.Nat.{◌+◌}
use native.Mathlib.Omega.{arith}
use lib.ListN.{length}
use Rattle.grammar.specs.Image.{entry, payload}
use Rattle.grammar.proofs.WritingLaws.{and_then, head_is}
use borrow.Author.Rules.{rules}
use Rattle.grammar.proofs.writers.put_pattern_field.Statement.{statement}
use Rattle.grammar.proofs.writers.put_pattern_field.Tie as tie

returns : tie.Need-returns
unfolding entry payload
returns c =
    let text = c.before.before in
    let span = text.before.before.before.before in
    let byte2 = span.before.before.before.before in
    let byte = byte2.before.before.before.before in
    let head = byte.before.before.before.before in
    let args = head.args in
    and_then (and_then (and_then (and_then (head_is 29 (6 + length args.s.now) _ (omega arith) head.put_head-w1.ensures) byte.put_byte-w2.ensures) byte2.put_byte-w3.ensures) span.put_span-w4.ensures) text.put_text.ensures

pub put_pattern_field_spec : {M : Type 1} → statement M
put_pattern_field_spec =
    tie.close
    (tie.spec
    (λ c. search rules)
    (λ c κs. search rules)
    (λ c κs. search rules)
    (λ c κs. search rules)
    (λ c κs. search rules)
    (λ c κs. search rules)
    (λ c. search rules)
    returns)
