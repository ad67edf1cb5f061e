use Rattle.mass.proofs.ObjectLaws.{kind_tag}
use Rattle.mass.proofs.members.Kind.number.Goals as goal

pub returns : goal.returns
returns c = kind_tag c.args.self
