-- `lexemes::bytes::is_alpha` meets its contract: a test of all bytes of each stretch.
-- Assumes nothing.
use native.Mathlib.Omega.{arith}
use Rattle.lexemes.proofs.Classes.{begins_all, begins_none, begins-word, begins_no_word}
use Rattle.lexemes.proofs.bytes.is_alpha.Statement.{statement}
use Rattle.lexemes.proofs.bytes.is_alpha.Tie as tie

returns : tie.Need-returns-then-b-gt122
unfolding begins_none
returns c = begins_no_word 123 255 c.args.b (omega arith) (omega arith) (omega arith) tt

returns_2 : tie.Need-returns-then-b-ge97
unfolding begins_all
returns_2 c = begins-word 97 122 c.args.b (omega arith) (omega arith) (omega arith) tt

returns_3 : tie.Need-returns-then-b-gt95
unfolding begins_none
returns_3 c = begins_no_word 96 96 c.args.b (omega arith) (omega arith) (omega arith) tt

returns_4 : tie.Need-returns-then-b-ge95
unfolding begins_all
returns_4 c = begins-word 95 95 c.args.b (omega arith) (omega arith) (omega arith) tt

returns_5 : tie.Need-returns-then-b-gt90
unfolding begins_none
returns_5 c = begins_no_word 91 94 c.args.b (omega arith) (omega arith) (omega arith) tt

returns_6 : tie.Need-returns-then-b-lt65
unfolding begins_none
returns_6 c = begins_no_word 0 64 c.args.b (omega arith) (omega arith) (omega arith) tt

returns_7 : tie.Need-returns
unfolding begins_all
returns_7 c = begins-word 65 90 c.args.b (omega arith) (omega arith) (omega arith) tt

pub is_alpha_spec : {M : Type 1} → statement M
is_alpha_spec = tie.close (tie.spec returns returns_2 returns_3 returns_4 returns_5 returns_6 returns_7)
