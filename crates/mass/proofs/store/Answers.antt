use Rattle.mass.proofs.ListLaws.{stores}
use Rattle.mass.proofs.store.Goals as goal

pub returns : goal.returns
returns c = rw c.number.ensures (stores _ _ _ _ _ _)
