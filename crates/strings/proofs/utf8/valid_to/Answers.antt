use Rattle.std.proofs.Common.{arith}
use Rattle.strings.specs.Utf8.{none}
use Rattle.strings.proofs.ValidLaws.{ascii_more, valid_end, stopped_short, valid_there}
use Rattle.strings.proofs.utf8.valid_to.Goals as goal

pub loop-i-init : goal.loop-i-init
loop-i-init c = record { within = omega arith; valid = none }

pub loop-i-preserved-then-largest-lt128 : goal.loop-i-preserved-then-largest-lt128
loop-i-preserved-then-largest-lt128 c = ascii_more 64 (omega arith) c.largest.ensures c.if-largest-lt128.true c.loop-i.invariant

pub returns-then-i-next : goal.returns-then-i-next
returns-then-i-next c = stopped_short c.valid_from-i.ensures c.if-i-next.true

pub loop-i-preserved : goal.loop-i-preserved
loop-i-preserved c = valid_there c.valid_from-i.ensures c.if-i-next.false

pub returns : goal.returns
returns c = valid_end c.valid_from.ensures
