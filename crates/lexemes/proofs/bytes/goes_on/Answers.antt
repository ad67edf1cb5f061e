-- `lexemes::bytes::goes_on` meets its contract.
-- Assumes nothing.
use native.Mathlib.Omega.{arith}
use Rattle.lexemes.proofs.Classes.{goes_on_all, goes_on_none, in_word, in_no_word}
use Rattle.lexemes.proofs.bytes.goes_on.Goals as goal

pub returns-then-b-gt122 : goal.returns-then-b-gt122
unfolding goes_on_none
returns-then-b-gt122 c = in_no_word 123 255 c.args.b (omega arith) (omega arith) (omega arith) tt

pub returns-then-b-ge97 : goal.returns-then-b-ge97
unfolding goes_on_all
returns-then-b-ge97 c = in_word 97 122 c.args.b (omega arith) (omega arith) (omega arith) tt
