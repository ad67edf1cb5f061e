use Rattle.images.proofs.RootLaws.{no_true}
use Rattle.mass.proofs.FieldLaws.{calls_mass, calls_depth, calls_other}
use Rattle.mass.proofs.members.called.Goals as goal

pub returns-then-same : goal.returns-then-same
returns-then-same c = calls_mass c.args.bytes.now c.args.at _ c.number-size.ensures.value (c.same.ensures.0 c.if-same.true)

pub returns-then-same-2 : goal.returns-then-same-2
returns-then-same-2 c = calls_depth c.args.bytes.now c.args.at _ c.number-size.ensures.value (c.same-2.ensures.0 c.if-same-2.true)

pub returns : goal.returns
returns c = calls_other c.args.bytes.now c.args.at _ c.number-size.ensures.value (λ h. no_true (c.same.ensures.1 h) c.if-same.false) (λ h. no_true (c.same-2.ensures.1 h) c.if-same-2.false)
