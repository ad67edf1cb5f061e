use Rattle.std.proofs.Common.{rules}
use Rattle.night.specs.Night.{read}
use Rattle.night.proofs.NightLaws.{cleared}
use Rattle.night.proofs.read.Goals as goal

pub returns-then-fit : goal.returns-then-fit
returns-then-fit c = read (c.fit.ensures.0 c.if-fit.true) c.read_files.auto.output c.read_files.auto.answers c.read_files.ensures

pub returns : goal.returns
returns c = cleared c.if-fit.false c.fit.ensures.1 c.clear.ensures (search rules)
