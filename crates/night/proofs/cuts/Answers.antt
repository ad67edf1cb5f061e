use Rattle.std.proofs.Common.{false}
use Rattle.std.proofs.lemmas.List.Sorted.{non_decreasing_from_is_sorted}
use Rattle.night.proofs.NightLaws.{unsorted_told}
use Rattle.night.proofs.cuts.Goals as goal

pub returns-else-is_sorted : goal.returns-else-is_sorted
returns-else-is_sorted c =
    let k = non_decreasing_from_is_sorted c.args.ends.now false c.if-is_sorted.ensures.cases in
    unsorted_told c.args.ends.now c.args.size k cc
