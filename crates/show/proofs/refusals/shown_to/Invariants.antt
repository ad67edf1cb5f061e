use Rattle.std.proofs.Common.{◌≤◌, length}
use Rattle.show.proofs.refusals.shown_to.Given as goal

abbrev pub invariant-loop : goal.invariant-loop
invariant-loop l = (l.at ≤ l.i) × (l.i ≤ length l.source)
