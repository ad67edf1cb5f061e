-- `parser::eat_any` meets its contract.
-- Assumes nothing.
use borrow.Author.Rules.{rules}
use Rattle.leaves.proofs.LexemeLaws.{lies}
use Rattle.leaves.proofs.parser.eat_any.Statement.{statement}
use Rattle.leaves.proofs.parser.eat_any.Tie as tie

cast_cursor_at : tie.Need-overflow_cast-c
cast_cursor_at c = search rules

cursor_at_requires : tie.Need-cursor_at-requires
cursor_at_requires c κs =
    let pre' = c.requires in
    ((lies pre').within, pre'.short)

returns : tie.Need-returns
returns c =
    let cursor-at' = c.cursor_at in
    record { at = cursor-at'.ensures.0; stands = cursor-at'.ensures.1 }

pub eat_any_spec : {M : Type 1} → statement M
eat_any_spec = tie.close (tie.spec cast_cursor_at cursor_at_requires returns)
