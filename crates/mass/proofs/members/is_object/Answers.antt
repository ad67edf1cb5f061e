use Rattle.std.proofs.Common.{refl, arith}
use Rattle.mass.proofs.ObjectLaws.{braces_of}
use Rattle.mass.proofs.members.is_object.Goals as goal

pub returns-in-9 : goal.returns-in-9
returns-in-9 c = (λ _. braces_of c.args.tag (omega arith) (omega arith), λ _. refl)
