use Rattle.std.proofs.Common.{◌≡◌, length}
use Rattle.desk.proofs.text.List+u8.put_hex_line.Given as goal

abbrev pub invariant-loop-b : goal.invariant-loop-b
invariant-loop-b l = length l.self.room.now ≡ length l.fn.self.room.now
