-- `visibility` meets its contract.
-- Assumes nothing.
use borrow.Author.Rules.{rules}
use Rattle.leaves.specs.Lexing.{none_more, one_more, two_more}
use Rattle.leaves.proofs.visibility.Statement.{statement}
use Rattle.leaves.proofs.visibility.Tie as tie

returns : tie.Need-returns-then-c-ne-COLON
returns c =
    let if1' = c.if-c-ne-COLON in
    none_more if1'.true

eat_any_requires : tie.Need-eat_any-c1-requires
eat_any_requires c κs = search rules

returns_2 : tie.Need-returns-then-c1-ne-COLON
returns_2 c =
    let if1' = c.if-c-ne-COLON in
    let eat-any' = c.eat_any-c1 in
    let if2' = c.if-c1-ne-COLON in
    one_more if1'.false eat-any'.ensures if2'.true

eat_any_requires_2 : tie.Need-eat_any-requires
eat_any_requires_2 c κs = search rules

returns_3 : tie.Need-returns
returns_3 c =
    let if1' = c.if-c-ne-COLON in
    let eat-any' = c.eat_any-c1 in
    let if2' = c.if-c1-ne-COLON in
    let eat-any2' = c.eat_any in
    two_more if1'.false eat-any'.ensures if2'.false eat-any2'.ensures

pub visibility_spec : {M : Type 1} → statement M
visibility_spec =
    tie.close (tie.spec returns eat_any_requires returns_2 eat_any_requires_2 returns_3)
