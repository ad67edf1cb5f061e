-- Every file before the one at hand is read.
use Rattle.std.proofs.Common.{◌*◌}
use Rattle.night.proofs.NightLaws.{Reached}
use Rattle.night.proofs.read_files.Given as goal

abbrev pub invariant-loop-i : goal.invariant-loop-i
invariant-loop-i l = Reached l.setting l.sources l.ends l.parts l.fn.output l.fn.answers l.output l.answers l.from l.part (l.i * 5) l.i
