use Rattle.std.proofs.Common.{refl, sym, ap, ◌∙◌, arith}
use Rattle.reader.specs.Five.{five}
use Rattle.night.proofs.NightLaws.{stored_next, stored_five, reads_same}
use Rattle.night.proofs.read_file.Goals as goal

pub loop-i-init : goal.loop-i-init
loop-i-init c = refl

pub loop-i-preserved : goal.loop-i-preserved
loop-i-preserved c = stored_next _ _ (omega (arith, c.loop-i-test.true, c.five.ensures.0)) c.loop-i.invariant

pub returns : goal.returns
returns c =
    let stored = stored_five _ _ c.requires c.five.ensures.0 c.loop-i-test.false c.loop-i.invariant in
    reads_same refl refl (sym (ap five stored ∙ c.five.ensures.1)) refl c.read-reading.ensures
