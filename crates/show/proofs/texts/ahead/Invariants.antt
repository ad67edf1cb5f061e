use Rattle.std.proofs.Common.{◌≤◌, length}
use Rattle.show.proofs.texts.ahead.Given as goal

abbrev pub invariant-loop : goal.invariant-loop
invariant-loop l = l.i ≤ length l.text
