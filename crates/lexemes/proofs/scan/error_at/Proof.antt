-- `lexemes::scan::error_at` meets its contract: no rule begins with the byte.
-- Assumes nothing.
use borrow.Author.Rules.{rules}
use Rattle.lexemes.proofs.Firsts.{error_scanned}
use Rattle.lexemes.proofs.scan.error_at.Statement.{statement}
use Rattle.lexemes.proofs.scan.error_at.Tie as tie

after_requires : tie.Need-after-requires
after_requires c κs = search rules

returns : tie.Need-returns
returns c =
    let args = c.args in
    let s = args.src.now in
    let pre = c.requires in
    let after = c.after in
    error_scanned s args.at pre.1 after.ensures

pub error_at_spec : {M : Type 1} → statement M
error_at_spec = tie.close (tie.spec after_requires returns)
