use Rattle.std.proofs.Common.{arith}
use Rattle.images.specs.Inner.{Extends}
use Rattle.images.proofs.CodeLaws.{ends_at}
use Rattle.images.proofs.records.payload_end.Goals as goal

pub returns-then-left-lt3 : goal.returns-then-left-lt3
returns-then-left-lt3 c = Extends.cut_header (omega arith)

pub returns-then-left-size : goal.returns-then-left-size
returns-then-left-size c = Extends.cut_payload (omega arith) (omega arith)

pub returns : goal.returns
returns c = ends_at c.number-size.ensures.value (omega arith)
