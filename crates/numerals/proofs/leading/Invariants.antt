use Rattle.std.proofs.Common.{◌≤◌, take}
use Rattle.numerals.specs.Value.{spelled}
use Rattle.numerals.specs.Inner.{Led}
use Rattle.numerals.proofs.leading.Given as goal

-- What is kept is of the bytes before the index.
abbrev pub invariant-loop-b : goal.invariant-loop-b
invariant-loop-b l = record { led : Led (spelled 0 (take l.b-index l.text)) l.l; short : l.l.count ≤ l.b-index }
