use Rattle.std.proofs.Common.{◌≡◌, ◌+◌, ◌*◌, arith, rules}
use Rattle.night.proofs.NightLaws.{source-within, part-within, reached_next}
use Rattle.night.proofs.read_files.Goals as goal

pub slice_bounds-read_file-end : goal.slice_bounds-read_file-end
slice_bounds-read_file-end c =
    let h = source-within c.loop-i.invariant c.loop-i-test.true in search rules

pub slice_bounds-read_file-end-in-loop-i : goal.slice_bounds-read_file-end-in-loop-i
slice_bounds-read_file-end-in-loop-i c =
    let h = part-within c.loop-i.invariant c.loop-i-test.true in search rules

pub loop-i-preserved : goal.loop-i-preserved
loop-i-preserved c =
    let next : (c.loop-i.i + 1) * 5 ≡ c.loop-i.i * 5 + 5 = omega arith in
    rw next
    (reached_next c.loop-i.invariant c.loop-i-test.true c.read_file.new.part c.read_file.new.place c.read_file.auto.part c.read_file.auto.place c.read_file.ensures)
