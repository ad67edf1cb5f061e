-- `verbatim` meets its contract.
-- Assumes nothing.
use borrow.Author.Rules.{rules}
use Rattle.leaves.proofs.TextLaws.{decodes_lent}
use Rattle.strings.specs.Decoding.{Never}
use Rattle.strings.specs.Literals.{Verbatim}
use Rattle.leaves.proofs.verbatim.Statement.{statement}
use Rattle.leaves.proofs.verbatim.Tie as tie

sub_verbatim : tie.Need-slice_bounds-verbatim-count
sub_verbatim c = search rules

part-verbatim-start : tie.Need-slice_bounds-verbatim-start
part-verbatim-start c = search rules

part_verbatim_end : tie.Need-slice_bounds-verbatim-end
part_verbatim_end c = search rules

verbatim_requires : tie.Need-verbatim-requires
verbatim_requires c κs = search rules

same_length : tie.Need-shape_of-part
same_length c = search rules

returns : tie.Need-returns
returns c =
    let args' = c.args in
    let verbatim' = c.verbatim in
    decodes_lent (Verbatim args'.quote) (λ s. Never) args'.src.now args'.a args'.e verbatim'.ensures

pub verbatim_spec : {M : Type 1} → statement M
verbatim_spec = tie.close (tie.spec sub_verbatim part-verbatim-start part_verbatim_end verbatim_requires same_length returns)
