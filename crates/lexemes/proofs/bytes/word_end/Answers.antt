-- `lexemes::bytes::word_end` meets its contract.
-- Assumes nothing.
use native.Mathlib.Omega.{arith}
use Rattle.lexemes.proofs.Classes.{between, tells, ran_by, says_between}
use Rattle.lexemes.proofs.bytes.word_end.Goals as goal

pub returns : goal.returns
unfolding tells
returns c = ran_by (between 1 3) 1 3 (omega arith) tt c.args.src.now (λ k. (c.type_inv.src k).fits) (c.run_while.ensures (between 1 3) (λ b r q. says_between b r q))
