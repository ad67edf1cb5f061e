-- `lexemes::comments::hash_at` meets its contract.
-- Assumes nothing.
use borrow.Author.Rules.{rules}
use Rattle.lexemes.proofs.Slashes.{hash_scanned}
use Rattle.lexemes.proofs.comments.hash_at.Statement.{statement}
use Rattle.lexemes.proofs.comments.hash_at.Tie as tie

add_line_from : tie.Need-overflow_add-at
add_line_from c = search rules

line_from_requires : tie.Need-line_from-requires
line_from_requires c κs = search rules

returns : tie.Need-returns
returns c =
    let args = c.args in
    let s = args.src.now in
    let pre = c.requires in
    let line-from = c.line_from in
    hash_scanned s args.at pre.1 line-from.ensures

pub hash_at_spec : {M : Type 1} → statement M
hash_at_spec = tie.close (tie.spec add_line_from line_from_requires returns)
