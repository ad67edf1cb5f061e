-- `lexemes::operators::lone_kind` meets its contract, arm by arm.
-- Assumes nothing.
use mathlib.Core.Path.{refl}
use native.Mathlib.Omega.{arith}
use Rattle.lexemes.specs.Scan.{single}
use Rattle.lexemes.proofs.Operations.{alone}
use Rattle.lexemes.proofs.operators.lone_kind.Goals as goal

pub returns-in-44 : goal.returns-in-44
unfolding single
returns-in-44 c = alone 44 c.in-44.is (omega arith) tt refl

pub returns-in-58 : goal.returns-in-58
unfolding single
returns-in-58 c = alone 58 c.in-58.is (omega arith) tt refl

pub returns-in-91 : goal.returns-in-91
unfolding single
returns-in-91 c = alone 91 c.in-91.is (omega arith) tt refl

pub returns-in-93 : goal.returns-in-93
unfolding single
returns-in-93 c = alone 93 c.in-93.is (omega arith) tt refl

pub returns-in-40 : goal.returns-in-40
unfolding single
returns-in-40 c = alone 40 c.in-40.is (omega arith) tt refl

pub returns-in-41 : goal.returns-in-41
unfolding single
returns-in-41 c = alone 41 c.in-41.is (omega arith) tt refl

pub returns-in-123 : goal.returns-in-123
unfolding single
returns-in-123 c = alone 123 c.in-123.is (omega arith) tt refl

pub returns-in-125 : goal.returns-in-125
unfolding single
returns-in-125 c = alone 125 c.in-125.is (omega arith) tt refl

pub returns-in-59 : goal.returns-in-59
unfolding single
returns-in-59 c = alone 59 c.in-59.is (omega arith) tt refl

pub returns-in-36 : goal.returns-in-36
unfolding single
returns-in-36 c = alone 36 c.in-36.is (omega arith) tt refl

pub returns-in-43 : goal.returns-in-43
unfolding single
returns-in-43 c = alone 43 c.in-43.is (omega arith) tt refl

pub returns-in-45 : goal.returns-in-45
unfolding single
returns-in-45 c = alone 45 c.in-45.is (omega arith) tt refl

pub returns-in-42 : goal.returns-in-42
unfolding single
returns-in-42 c = alone 42 c.in-42.is (omega arith) tt refl

pub returns-in-37 : goal.returns-in-37
unfolding single
returns-in-37 c = alone 37 c.in-37.is (omega arith) tt refl
