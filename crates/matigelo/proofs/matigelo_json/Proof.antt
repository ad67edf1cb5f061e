-- `matigelo_json` meets its contract.
-- Assumes nothing.
use mathlib.Core.Path.{subst⁻¹}
use lib.ListN.{length}
use borrow.Author.Rules.{rules}
use Rattle.grammar.specs.Answer.{Answer}
use Rattle.json_import.specs.Json.{ReadsJson}
use Rattle.matigelo.proofs.matigelo_json.Statement.{statement}
use Rattle.matigelo.proofs.matigelo_json.Tie as tie

read_json_requires : tie.Need-read_json-importing-requires
read_json_requires c κs = search rules

five_requires : tie.Need-five-five-requires
five_requires c κs = search rules

same_length : tie.Need-shape_of-output
same_length c = search rules

returns : tie.Need-returns
returns c =
    let args' = c.args in
    let read' = c.read_json-importing in
    subst⁻¹ (λ (a : Answer). ReadsJson args'.text.now (length args'.output.now) a read'.new.output) c.five-five.ensures.1 read'.ensures

pub matigelo_json_spec : {M : Type 1} → statement M
matigelo_json_spec = tie.close (tie.spec read_json_requires five_requires same_length returns)
