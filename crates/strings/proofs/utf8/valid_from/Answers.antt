use Rattle.strings.specs.Valid.{stopped}
use Rattle.strings.proofs.CharacterLaws.{character_at, valid_stop}
use Rattle.strings.proofs.ValidLaws.{valid_more}
use Rattle.strings.proofs.utf8.valid_from.Goals as goal

pub returns-in_default : goal.returns-in_default
returns-in_default c =
    let v = c.loop-i.invariant in
    stopped c.loop-i-test.true (valid_stop _ _ v.within v.valid c.in_default.ensures)

pub loop-i-preserved : goal.loop-i-preserved
loop-i-preserved c = let h = c.in-Some.ensures in valid_more c.loop-i.invariant (character_at _ _ _ h.1 h.0)
