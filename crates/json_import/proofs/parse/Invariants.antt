-- `parse`: what has been read, and what is next. Each value takes the place on, or opens one value more at the same place.
-- Assumes nothing.
use Rattle.std.proofs.Common.{◌≡◌, ◌+◌, ◌-◌, ◌*◌, ◌≤◌, length}
use Rattle.json_import.proofs.ParsePlaces.{Wanted, Going, place_of}
use Rattle.json_import.proofs.parse.Given as goal

abbrev pub invariant-loop-step : goal.invariant-loop-step
invariant-loop-step l = Wanted l.text l.fn.out l.stack l.out l.depth l.place.at l.place.written × (length l.stack ≡ 200)

abbrev pub decreases-loop-step : goal.decreases-loop-step
decreases-loop-step l = 2 * (length l.text - l.place.at) + (200 - l.depth)

abbrev pub invariant-loop-step-2 : goal.invariant-loop-step-2
invariant-loop-step-2 l =
    Going l.text l.fn.out l.stack l.out l.depth l.step
    × (length l.stack ≡ 200)
    × (2 * (length l.text - place_of l.step) + (200 - l.depth) ≤ 2 * (length l.text - l.place.at) + (200 - l.initial.depth))

abbrev pub decreases-loop-step-2 : goal.decreases-loop-step-2
decreases-loop-step-2 l = length l.text - place_of l.step
