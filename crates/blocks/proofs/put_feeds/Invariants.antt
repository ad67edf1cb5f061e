-- So many LFs stand in the output, as far as it has room.
use Rattle.blocks.proofs.Places.{Fed}
use Rattle.blocks.proofs.put_feeds.Given as goal

abbrev pub invariant-loop-k : goal.invariant-loop-k
invariant-loop-k l = Fed l.fn.out l.fn.at l.k l.out
