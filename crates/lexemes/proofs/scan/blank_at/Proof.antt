-- `lexemes::scan::blank_at` meets its contract: a run of blanks.
-- Assumes nothing.
use borrow.Author.Rules.{rules}
use Rattle.lexemes.proofs.Firsts.{blank_scanned}
use Rattle.lexemes.proofs.scan.blank_at.Statement.{statement}
use Rattle.lexemes.proofs.scan.blank_at.Tie as tie

add_blanks : tie.Need-overflow_add-at
add_blanks c = search rules

blanks_requires : tie.Need-blanks-requires
blanks_requires c κs = search rules

returns : tie.Need-returns
returns c =
    let args = c.args in
    let s = args.src.now in
    let pre = c.requires in
    let blanks = c.blanks in
    blank_scanned s args.at pre.1 blanks.ensures

pub blank_at_spec : {M : Type 1} → statement M
blank_at_spec = tie.close (tie.spec add_blanks blanks_requires returns)
