-- `lexemes::bytes::is_other` meets its contract: a test of all bytes of each stretch.
-- Assumes nothing.
use native.Mathlib.Omega.{arith}
use Rattle.lexemes.proofs.Classes.{goes_on_all, goes_on_none, in_word, in_no_word}
use Rattle.lexemes.proofs.bytes.is_other.Statement.{statement}
use Rattle.lexemes.proofs.bytes.is_other.Tie as tie

returns : tie.Need-returns-then-b-gt95
unfolding goes_on_none
returns c = in_no_word 96 96 c.args.b (omega arith) (omega arith) (omega arith) tt

returns_2 : tie.Need-returns-then-b-ge95
unfolding goes_on_all
returns_2 c = in_word 95 95 c.args.b (omega arith) (omega arith) (omega arith) tt

returns_3 : tie.Need-returns-then-b-gt90
unfolding goes_on_none
returns_3 c = in_no_word 91 94 c.args.b (omega arith) (omega arith) (omega arith) tt

returns_4 : tie.Need-returns-then-b-ge65
unfolding goes_on_all
returns_4 c = in_word 65 90 c.args.b (omega arith) (omega arith) (omega arith) tt

returns_5 : tie.Need-returns-then-b-gt57
unfolding goes_on_none
returns_5 c = in_no_word 58 64 c.args.b (omega arith) (omega arith) (omega arith) tt

returns_6 : tie.Need-returns-then-b-lt48
unfolding goes_on_none
returns_6 c = in_no_word 0 47 c.args.b (omega arith) (omega arith) (omega arith) tt

returns_7 : tie.Need-returns
unfolding goes_on_all
returns_7 c = in_word 48 57 c.args.b (omega arith) (omega arith) (omega arith) tt

pub is_other_spec : {M : Type 1} → statement M
is_other_spec = tie.close (tie.spec returns returns_2 returns_3 returns_4 returns_5 returns_6 returns_7)
