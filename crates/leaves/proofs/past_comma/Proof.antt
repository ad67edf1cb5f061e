-- `past_comma` meets its contract.
-- Assumes nothing.
use borrow.Author.Rules.{rules}
use Rattle.leaves.specs.Lexing.{past, same}
use mathlib.Core.Path.{refl}
use Rattle.leaves.proofs.past_comma.Statement.{statement}
use Rattle.leaves.proofs.past_comma.Tie as tie

eat_any_requires : tie.Need-eat_any-requires
eat_any_requires c κs = search rules

returns : tie.Need-returns-then-c-eq-COMMA
returns c =
    let if1' = c.if-c-eq-COMMA in
    let eat-any' = c.eat_any in
    past if1'.true eat-any'.ensures

returns_2 : tie.Need-returns
returns_2 c =
    let if1' = c.if-c-eq-COMMA in
    same if1'.false refl

pub past_comma_spec : {M : Type 1} → statement M
past_comma_spec = tie.close (tie.spec eat_any_requires returns returns_2)
