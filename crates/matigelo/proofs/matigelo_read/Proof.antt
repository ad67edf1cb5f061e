-- `matigelo_read` meets its contract.
-- Assumes nothing.
use mathlib.Core.Path.{subst⁻¹}
use lib.ListN.{length}
use borrow.Author.Rules.{rules}
use Rattle.grammar.specs.Answer.{Answer}
use Rattle.grammar.specs.Source.{Reads01}
use Rattle.matigelo.proofs.matigelo_read.Statement.{statement}
use Rattle.matigelo.proofs.matigelo_read.Tie as tie

read_requires : tie.Need-read-reading-requires
read_requires c κs = search rules

five_requires : tie.Need-five-five-requires
five_requires c κs = search rules

same_length : tie.Need-shape_of-output
same_length c = search rules

returns : tie.Need-returns
returns c =
    let args' = c.args in
    let read' = c.read-reading in
    subst⁻¹ (λ (a : Answer). Reads01 args'.setting args'.source.now (length args'.output.now) a read'.new.output) c.five-five.ensures.1 read'.ensures

pub matigelo_read_spec : {M : Type 1} → statement M
matigelo_read_spec = tie.close (tie.spec read_requires five_requires same_length returns)
