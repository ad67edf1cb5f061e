use Rattle.strings.proofs.Reading.{Reading}
use Rattle.strings.proofs.utf8.char_len.Given as goal

-- Of the bytes that the first asks for, k have been read.
abbrev pub invariant-loop-k : goal.invariant-loop-k
invariant-loop-k l = Reading l.s l.at l.k l.lead.width l.low l.high
