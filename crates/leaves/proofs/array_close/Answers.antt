-- `array_close` meets its contract: `]`, and one record over all elements.
-- Assumes nothing.
use Rattle.grammar.specs.Image.{entry, payload}
use Rattle.leaves.proofs.LeafLaws.{few, fits}
use native.Mathlib.Omega.{arith}
use Rattle.leaves.proofs.Steps
use Rattle.leaves.proofs.array_close.Goals as goal

pub returns-in_err-c1 : goal.returns-in_err-c1
returns-in_err-c1 c =
    record { ends = λ g d n. Steps.passed (Steps.eats_broken c.eat.ensures c.in_err-c1.was (Steps.handed c.from_residual.ensures)) Steps.here }

pub returns : goal.returns
unfolding entry payload
returns c =
    record { ends = λ g d n. Steps.ends (omega arith) (Steps.closed 5 (omega arith) c.put_count-w2.ensures (Steps.ate c.eat.ensures c.in_ok-c1.was Steps.here)) }
