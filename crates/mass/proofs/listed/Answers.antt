use Rattle.std.proofs.Common.{arith}
use Rattle.mass.proofs.AnswerLaws.{answers_short, answers_listed}
use Rattle.mass.proofs.listed.Goals as goal

pub returns-then-list-count : goal.returns-then-list-count
returns-then-list-count c = record { answers = answers_short _ c.requires.0 c.requires.1 c.fill-count.ensures c.if-list-count.true c.clear-then-list-count.ensures; zeros = c.clear.ensures }

pub returns : goal.returns
returns c = record { answers = answers_listed _ c.requires.0 c.requires.1 c.fill-count.ensures (omega arith); zeros = c.clear.ensures }
