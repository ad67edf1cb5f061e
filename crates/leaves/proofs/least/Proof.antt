-- `least` meets its contract.
-- Assumes nothing.
use mathlib.Core.Logic.{inl, inr}
use mathlib.Core.Path.{refl}
use native.Mathlib.Omega.{arith}
use Rattle.leaves.proofs.least.Statement.{statement}
use Rattle.leaves.proofs.least.Tie as tie

returns : tie.Need-returns-then-a-b
returns c =
    (omega arith, inl refl)

returns_2 : tie.Need-returns-else-a-b
returns_2 c =
    (omega arith, inr (refl, omega arith))

pub least_spec : {M : Type 1} → statement M
least_spec = tie.close (tie.spec returns returns_2)
