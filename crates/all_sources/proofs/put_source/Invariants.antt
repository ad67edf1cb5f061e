use Rattle.std.proofs.Common.{◌≡◌, length}
use Rattle.all_sources.proofs.put_source.Given as goal

abbrev pub invariant-loop-i : goal.invariant-loop-i
invariant-loop-i l = length l.source.room.now ≡ length l.fn.source.room.now
