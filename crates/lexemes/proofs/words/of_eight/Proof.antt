-- `lexemes::words::of_eight` meets its contract: a test of the keyword in each arm, and of all keywords in the last.
-- Assumes nothing.
use mathlib.Core.List.{[], ◌∷◌}
use borrow.Author.Rules.{rules}
use Rattle.lexemes.proofs.Keywords.{has, numbered, is_keyword, no_keyword}
use Rattle.lexemes.proofs.words.of_eight.Statement.{statement}
use Rattle.lexemes.proofs.words.of_eight.Tie as tie

eight_requires : tie.Need-eight-v-requires
eight_requires c κs = search rules

returns : tie.Need-returns-in-7957695015192261990
unfolding has
returns c =
    let args = c.args in
    let eight = c.eight-v in
    is_keyword args.src.now args.at 8 8 7957695015192261990 74 tt eight.result eight.ensures c.in-7957695015192261990.is

returns_2 : tie.Need-returns-in_default
unfolding numbered
returns_2 c =
    let args = c.args in
    let eight = c.eight-v in
    no_keyword args.src.now args.at 8 (7957695015192261990 ∷ []) tt eight.result eight.ensures c.in_default.in_default-own.rest

pub of_eight_spec : {M : Type 1} → statement M
of_eight_spec = tie.close (tie.spec eight_requires returns returns_2)
