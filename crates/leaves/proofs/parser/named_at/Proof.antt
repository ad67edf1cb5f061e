-- `parser::named_at` meets its contract.
-- Assumes nothing.
use Rattle.leaves.specs.Lexing.{named, no_name, no_value}
use Rattle.leaves.proofs.parser.named_at.Statement.{statement}
use Rattle.leaves.proofs.parser.named_at.Tie as tie

returns : tie.Need-returns-then-c-ne-IDENT
returns c =
    let if1' = c.if-c-ne-IDENT in
    no_name if1'.true

eat_any_requires : tie.Need-eat_any-c1-requires
eat_any_requires c κs =
    let pre' = c.requires in
    pre'

returns_2 : tie.Need-returns-then-c1-ne-ASSIGN
returns_2 c =
    let if1' = c.if-c-ne-IDENT in
    let eat-any' = c.eat_any-c1 in
    let if2' = c.if-c1-ne-ASSIGN in
    no_value if1'.false eat-any'.ensures if2'.true

returns_3 : tie.Need-returns
returns_3 c =
    let if1' = c.if-c-ne-IDENT in
    let eat-any' = c.eat_any-c1 in
    let if2' = c.if-c1-ne-ASSIGN in
    named if1'.false eat-any'.ensures if2'.false

pub named_at_spec : {M : Type 1} → statement M
named_at_spec = tie.close (tie.spec returns eat_any_requires returns_2 returns_3)
