-- `writers::put_array_pattern` meets its contract: one writing after the other.
-- Assumes nothing.
use Prim.Native.Nat.{◌+◌}
use native.Mathlib.Omega.{arith}
use lib.ListN.{length}
use Rattle.grammar.specs.Image.{entry, payload}
use Rattle.grammar.proofs.WritingLaws.{and_then, head_is}
use borrow.Author.Rules.{rules}
use Rattle.grammar.proofs.writers.put_array_pattern.Statement.{statement}
use Rattle.grammar.proofs.writers.put_array_pattern.Tie as tie

returns : tie.Need-returns
unfolding entry payload
returns c =
    let text = c.before.before in
    let number2 = text.before.before.before.before in
    let byte = number2.before.before.before.before in
    let number = byte.before.before.before.before in
    let head = number.before.before.before.before in
    let args = head.args in
    and_then (and_then (and_then (and_then (head_is 27 (5 + length args.s.now) _ (omega arith) head.put_head-w1.ensures) number.put_number-w2.ensures) byte.put_byte-w3.ensures) number2.put_number-w4.ensures) text.put_text.ensures

pub put_array_pattern_spec : {M : Type 1} → statement M
put_array_pattern_spec =
    tie.close
    (tie.spec
    (λ c. search rules)
    (λ c κs. search rules)
    (λ c κs. search rules)
    (λ c κs. search rules)
    (λ c κs. search rules)
    (λ c κs. search rules)
    (λ c. search rules)
    returns)
