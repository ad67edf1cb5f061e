-- `lexemes::bytes::blanks` meets its contract.
-- Assumes nothing.
use Prim.Native.Nat.{ℕ}
use native.Mathlib.Omega.{arith}
use lib.Dec.{eqb}
use Rattle.lexemes.specs.Scan.{class_of}
use Rattle.lexemes.proofs.Classes.{tells, ran_by, says_blank}
use Rattle.lexemes.proofs.bytes.blanks.Goals as goal

pub returns : goal.returns
unfolding tells
returns c =
    ran_by (λ (b : ℕ). eqb (class_of b) 4) 4 4 (omega arith) tt c.args.src.now (λ k. (c.type_inv.src k).fits)
    (c.run_while.ensures (λ (b : ℕ). eqb (class_of b) 4) (λ b r q. says_blank b r q))
