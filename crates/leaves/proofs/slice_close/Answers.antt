-- `slice_close` meets its contract: `]`, and one record over what is sliced and the slice's parts.
-- Assumes nothing.
use Rattle.grammar.specs.Image.{entry, payload}
use Rattle.leaves.proofs.LeafLaws.{fits}
use native.Mathlib.Omega.{arith}
use Rattle.leaves.proofs.Steps
use Rattle.leaves.proofs.slice_close.Goals as goal

pub returns-in_err-c1 : goal.returns-in_err-c1
returns-in_err-c1 c =
    record { tells = λ g d n. Steps.passed_telling (Steps.eats_broken c.eat.ensures c.in_err-c1.was (Steps.handed c.from_residual.ensures)) Steps.here }

pub returns : goal.returns
unfolding entry payload
returns c =
    record { tells = λ g d n. Steps.says_on (omega arith) (omega arith) (Steps.closed 16 (omega arith) c.put_slice-w2.ensures (Steps.ate c.eat.ensures c.in_ok-c1.was Steps.here)) }
