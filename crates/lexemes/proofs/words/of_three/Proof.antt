-- `lexemes::words::of_three` meets its contract: a test of the keyword in each arm, and of all keywords in the last.
-- Assumes nothing.
use mathlib.Core.List.{[], ◌∷◌}
use borrow.Author.Rules.{rules}
use Rattle.lexemes.proofs.Keywords.{has, numbered, is_keyword, no_keyword}
use Rattle.lexemes.proofs.words.of_three.Statement.{statement}
use Rattle.lexemes.proofs.words.of_three.Tie as tie

three_requires : tie.Need-three-v-requires
three_requires c κs = search rules

returns : tie.Need-returns-in-7499622
unfolding has
returns c =
    let args = c.args in
    let three = c.three-v in
    is_keyword args.src.now args.at 16 3 7499622 83 tt three.result three.ensures c.in-7499622.is

returns_2 : tie.Need-returns-in_default
unfolding numbered
returns_2 c =
    let args = c.args in
    let three = c.three-v in
    no_keyword args.src.now args.at 3 (7499622 ∷ []) tt three.result three.ensures c.in_default.in_default-own.rest

pub of_three_spec : {M : Type 1} → statement M
of_three_spec = tie.close (tie.spec three_requires returns returns_2)
