-- `matigelo_mass` meets its contract.
-- Assumes nothing.
use borrow.Author.Rules.{rules}
use Rattle.matigelo.proofs.matigelo_mass.Statement.{statement}
use Rattle.matigelo.proofs.matigelo_mass.Tie as tie

list_requires : tie.Need-list-listed-requires
list_requires c κs = search rules

numbers_requires : tie.Need-numbers-f-requires
numbers_requires c κs = search rules

same_length : tie.Need-shape_of-links
same_length c = search rules

same_length_2 : tie.Need-shape_of-list
same_length_2 c = search rules

returns : tie.Need-returns
returns c =
    let list = c.list-listed in
    record { answer = list.result; lists = list.ensures; told = c.numbers-f.ensures }

pub matigelo_mass_spec : {M : Type 1} → statement M
matigelo_mass_spec = tie.close (tie.spec list_requires numbers_requires same_length same_length_2 returns)
