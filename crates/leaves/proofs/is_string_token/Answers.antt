-- `is_string_token` meets its contract.
-- Assumes nothing.
use Rattle.leaves.specs.Lexing.{quotes}
use Rattle.leaves.proofs.LeafLaws.{string_kind, no_string}
use Rattle.leaves.proofs.is_string_token.Goals as goal

pub returns-in-41 : goal.returns-in-41
returns-in-41 c = quotes (string_kind c.in-41.is)

pub returns-in_default : goal.returns-in_default
returns-in_default c = no_string c.in_default.in_default-own.rest.1
