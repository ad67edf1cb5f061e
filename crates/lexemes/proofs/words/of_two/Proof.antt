-- `lexemes::words::of_two` meets its contract: a test of the keyword in each arm, and of all keywords in the last.
-- Assumes nothing.
use mathlib.Core.List.{[], ◌∷◌}
use borrow.Author.Rules.{rules}
use Rattle.lexemes.proofs.Keywords.{has, numbered, is_keyword, no_keyword}
use Rattle.lexemes.proofs.words.of_two.Statement.{statement}
use Rattle.lexemes.proofs.words.of_two.Tie as tie

two_requires : tie.Need-two-v-requires
two_requires c κs = search rules

returns : tie.Need-returns-in-26217
unfolding has
returns c =
    let args = c.args in
    let two = c.two-v in
    is_keyword args.src.now args.at 5 2 26217 71 tt two.result two.ensures c.in-26217.is

returns_2 : tie.Need-returns-in-28265
unfolding has
returns_2 c =
    let args = c.args in
    let two = c.two-v in
    is_keyword args.src.now args.at 10 2 28265 76 tt two.result two.ensures c.in-28265.is

returns_3 : tie.Need-returns-in_default
unfolding numbered
returns_3 c =
    let args = c.args in
    let two = c.two-v in
    no_keyword args.src.now args.at 2 (28265 ∷ 26217 ∷ []) tt two.result two.ensures c.in_default.in_default-own.rest

pub of_two_spec : {M : Type 1} → statement M
of_two_spec = tie.close (tie.spec two_requires returns returns_2 returns_3)
