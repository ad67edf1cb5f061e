-- `reader::read` meets its contract.
-- Assumes nothing.
use borrow.Author.Rules.{rules}
use Rattle.reader.proofs.ReaderLaws.{reads_cleared}
use Rattle.reader.proofs.read.Goals as goal

pub returns : goal.returns
returns c = reads_cleared c.find-r.ensures c.written-n.ensures (search rules) c.clear.ensures
