use Rattle.std.proofs.Common.{◌≡◌, length}
use Rattle.desk.proofs.text.List+u8.put_list.Given as goal

abbrev pub invariant-loop-n : goal.invariant-loop-n
invariant-loop-n g l = length l.self.room.now ≡ length l.fn.self.room.now
