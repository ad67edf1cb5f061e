use Rattle.std.proofs.Common.{take}
use Rattle.numerals.specs.Value.{spelled}
use Rattle.numerals.specs.Inner.{Capped}
use Rattle.numerals.proofs.spell.Given as goal

-- The number is for the bytes before the index.
abbrev pub invariant-loop-b : goal.invariant-loop-b
invariant-loop-b l = Capped l.cap (spelled 0 (take l.b-index l.text)) l.n
