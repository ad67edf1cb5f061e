-- `object_rest` meets its contract: a name, if there is one, a comma, if there is one, and the end.
-- Assumes nothing.
use borrow.Author.Rules.{rules}
use Prim.Native.Nat.{◌-◌}
use Rattle.grammar.specs.Productions.{◌▸◌, eat, goto, object_rest_end}
use Rattle.leaves.proofs.LeafLaws.{moved_on, onward, past_comma, past_stands}
use Rattle.leaves.proofs.LeafRules.{rest_bare, rest_named}
use Rattle.leaves.proofs.LexemeLaws.{lies}
use lib.Seq.{slice}
use mathlib.Core.List.{[]}
use mathlib.Core.Path.{refl}
use native.Mathlib.Omega.{arith}
use Rattle.leaves.proofs.Steps
use Rattle.leaves.proofs.object_rest.Statement.{statement}
use Rattle.leaves.proofs.object_rest.Tie as tie

eat_any_requires : tie.Need-eat_any-requires
eat_any_requires c κs = search rules

past_comma_requires : tie.Need-past_comma-c1-requires
past_comma_requires c κs = search rules

object_pattern_close_requires : tie.Need-object_pattern_close-requires
object_pattern_close_requires c κs =
    let pre' = c.requires in
    let eat-any' = c.eat_any in
    let past-comma' = c.past_comma-c1 in
    let st = pre'.0.stands in
    let next = past_stands eat-any'.ensures.stands past-comma'.ensures in
    let on = moved_on st eat-any'.ensures in
    let word = lies st in
    (onward pre'.0 next.0 (omega (arith, on, next.1)), omega (arith, pre'.1, on, next.1), word.on, word.within)

same_length : tie.Need-shape_of-out-then-c-eq-IDENT
same_length c = search rules

returns : tie.Need-returns-then-c-eq-IDENT
returns c =
    let pre' = c.requires in
    let args' = c.args in
    let if1' = c.if-c-eq-IDENT in
    let eat-any' = c.eat_any in
    let object-pattern-close' = c.object_pattern_close in
    let past-comma' = c.past_comma-c1 in
    let st = pre'.0.stands in
    let src = args'.src.now in
    let name = slice args'.c.start args'.c.end src in
    let word = lies st in
    record {
      ends = λ g d.
          let there = Steps.called (eat 55 ▸ goto (object_rest_end 2 name)) st if1'.true (λ xs. rest_named g args'.c xs args'.n name) Steps.here in
          let named = Steps.taken_of (args'.c.end - args'.c.at) (omega arith) st eat-any'.ensures if1'.true there in
          Steps.tail (omega (arith, word.from, word.on)) (object-pattern-close'.ensures.ends g d) (past_comma eat-any'.ensures.stands past-comma'.ensures named);
    }

past_comma_requires_2 : tie.Need-past_comma-c1-requires-2
past_comma_requires_2 c κs = search rules

object_pattern_close_requires_2 : tie.Need-object_pattern_close-requires-2
object_pattern_close_requires_2 c κs =
    let pre' = c.requires in
    let past-comma2' = c.past_comma-c1-2 in
    let st = pre'.0.stands in
    let next = past_stands st past-comma2'.ensures in
    (onward pre'.0 next.0 next.1, omega (arith, pre'.1, next.1), omega arith, omega arith)

same_length_2 : tie.Need-shape_of-out
same_length_2 c = search rules

returns_2 : tie.Need-returns
returns_2 c =
    let pre' = c.requires in
    let args' = c.args in
    let if1' = c.if-c-eq-IDENT in
    let object-pattern-close2' = c.object_pattern_close-2 in
    let past-comma2' = c.past_comma-c1-2 in
    let st = pre'.0.stands in
    record {
      ends = λ g d.
          let bare = Steps.known (goto (object_rest_end 1 [])) st refl (λ xs t. rest_bare g args'.c xs args'.n args'.c.kind t if1'.false) Steps.here in
          Steps.tail (omega arith) (object-pattern-close2'.ensures.ends g d) (past_comma st past-comma2'.ensures bare);
    }

pub object_rest_spec : {M : Type 1} → statement M
object_rest_spec = tie.close (tie.spec eat_any_requires past_comma_requires object_pattern_close_requires same_length returns past_comma_requires_2 object_pattern_close_requires_2 same_length_2 returns_2)
