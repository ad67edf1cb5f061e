-- `matigelo_back` meets its contract.
-- Assumes nothing.
use borrow.Author.Rules.{rules}
use Rattle.matigelo.proofs.matigelo_back.Statement.{statement}
use Rattle.matigelo.proofs.matigelo_back.Tie as tie

back_requires : tie.Need-back-back-requires
back_requires c κs = search rules

numbers_requires : tie.Need-numbers-f-requires
numbers_requires c κs = search rules

same_length : tie.Need-shape_of-links
same_length c = search rules

returns : tie.Need-returns
returns c =
    let back = c.back-back in
    record { answer = back.result; reads = back.ensures; told = c.numbers-f.ensures }

pub matigelo_back_spec : {M : Type 1} → statement M
matigelo_back_spec = tie.close (tie.spec back_requires numbers_requires same_length returns)
