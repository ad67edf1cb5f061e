-- `parse_number` meets its contract: a literal that is too large says nothing, and is refused where it stands.
-- Assumes nothing.
use borrow.Author.Rules.{rules}
use Rattle.leaves.proofs.LeafLaws.{large_answer}
use Rattle.leaves.proofs.LexemeLaws.{lies}
use Rattle.leaves.proofs.Underscores.{judged_large, judged_in_range}
use Rattle.leaves.proofs.parse_number.Statement.{statement}
use Rattle.leaves.proofs.parse_number.Tie as tie

cast_too_large : tie.Need-overflow_cast-start
cast_too_large c = search rules

cast_too_large_2 : tie.Need-overflow_cast-end
cast_too_large_2 c = search rules

sub_too_large : tie.Need-slice_bounds-too_large-count
sub_too_large c = (lies c.requires.0.stands).on

part_too_large_start : tie.Need-slice_bounds-too_large-start
part_too_large_start c = (lies c.requires.0.stands).on

part_too_large_end : tie.Need-slice_bounds-too_large-end
part_too_large_end c = (lies c.requires.0.stands).within

too_large_requires : tie.Need-too_large-requires
too_large_requires c κs = search rules

error_requires : tie.Need-error-requires
error_requires c κs = search rules

returns : tie.Need-returns-then-too_large
returns c =
    let start = c.before.before.before.before.before.before in
    let at = start.args.c in
    let large = judged_large start.args.src.now at.start at.end c.too_large.ensures c.if-too_large.true in
    record { ends = λ g d. large_answer start.requires.0.stands start.requires.1 large c.error.ensures }

number_in_range_requires : tie.Need-number_in_range-requires
number_in_range_requires c κs =
    let start = c.before.before.before.before.before.before in
    let at = start.args.c in
    (start.requires.0, start.requires.1, judged_in_range start.args.src.now at.start at.end c.too_large.ensures c.if-too_large.false)

same_length : tie.Need-shape_of-out
same_length c = search rules

returns_2 : tie.Need-returns
returns_2 c = search rules

pub parse_number_spec : {M : Type 1} → statement M
parse_number_spec =
    tie.close (tie.spec cast_too_large cast_too_large_2 sub_too_large part_too_large_start part_too_large_end too_large_requires error_requires returns number_in_range_requires same_length returns_2)
