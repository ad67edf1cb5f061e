-- `quoted` meets its contract.
-- Assumes nothing.
use borrow.Author.Rules.{rules}
use Rattle.leaves.proofs.TextLaws.{decodes_lent}
use Rattle.strings.specs.Literals.{Quoted, BadEscape}
use Rattle.leaves.proofs.quoted.Statement.{statement}
use Rattle.leaves.proofs.quoted.Tie as tie

sub_unescape : tie.Need-slice_bounds-unescape-count
sub_unescape c = search rules

part_unescape_start : tie.Need-slice_bounds-unescape-start
part_unescape_start c = search rules

part_unescape_end : tie.Need-slice_bounds-unescape-end
part_unescape_end c = search rules

unescape_requires : tie.Need-unescape-requires
unescape_requires c κs = search rules

same_length : tie.Need-shape_of-part
same_length c = search rules

returns : tie.Need-returns
returns c =
    let args' = c.args in
    let unescape' = c.unescape in
    decodes_lent Quoted BadEscape args'.src.now args'.a args'.e unescape'.ensures

pub quoted_spec : {M : Type 1} → statement M
quoted_spec = tie.close (tie.spec sub_unescape part_unescape_start part_unescape_end unescape_requires same_length returns)
