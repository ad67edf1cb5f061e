use Rattle.std.proofs.Common.{length, arith}
use Rattle.std.proofs.lemmas.Result.{err_from_is_err_and}
use Rattle.mass.proofs.AnswerLaws.{lengths_as, tree_given, kept, zeros_again, zeros_length}
use Rattle.mass.proofs.list.Goals as goal

pub returns-in_err-n : goal.returns-in_err-n
returns-in_err-n c = let p = err_from_is_err_and c.from_residual.result c.from_residual.ensures.1 in rw (p.1, p.2) (kept c.in_err-n.ensures c.clear.ensures)

pub listed-requires : goal.listed-requires
listed-requires c = let g = tree_given c.in_ok-n.ensures in (omega (arith, g.0), g.1, zeros_again (length c.args.listings.now) c.clear.ensures)

pub returns : goal.returns
returns c = lengths_as (omega arith) (zeros_length _ c.clear.ensures) c.listed.ensures
