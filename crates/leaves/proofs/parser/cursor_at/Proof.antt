-- `parser::cursor_at` meets its contract: sixteen bits hold every place of a short source.
-- Assumes nothing.
use Prim.Native.Nat.{◌<◌}
use native.Mathlib.Omega.{arith}
use borrow.Author.Rules.{rules}
use Rattle.leaves.proofs.LexemeLaws.{next_lies}
use Rattle.leaves.proofs.parser.cursor_at.Statement.{statement}
use Rattle.leaves.proofs.parser.cursor_at.Tie as tie

next_kept_requires : tie.Need-next_kept-l-requires
next_kept_requires c κs = search rules

cast_t4 : tie.Need-overflow_cast-result
cast_t4 c = search rules

cast_t5 : tie.Need-overflow_cast-result-2
cast_t5 c =
    let pre' = c.requires in
    let next' = c.next_kept-l in
    let l = next_lies pre'.0 next'.ensures in
    let start : next'.result.start < 65536 = omega (arith, l.on, l.within, pre'.1) in
    record { fits = start }

cast_t6 : tie.Need-overflow_cast-result-3
cast_t6 c =
    let pre' = c.requires in
    let next' = c.next_kept-l in
    let l = next_lies pre'.0 next'.ensures in
    let end : next'.result.end < 65536 = omega (arith, l.within, pre'.1) in
    record { fits = end }

returns : tie.Need-returns
returns c = search rules

pub cursor_at_spec : {M : Type 1} → statement M
cursor_at_spec = tie.close (tie.spec next_kept_requires cast_t4 cast_t5 cast_t6 returns)
