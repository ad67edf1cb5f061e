-- `lexemes::words::of_four` meets its contract: a test of the keyword in each arm, and of all keywords in the last.
-- Assumes nothing.
use mathlib.Core.List.{[], ◌∷◌}
use borrow.Author.Rules.{rules}
use Rattle.lexemes.proofs.Keywords.{has, numbered, is_keyword, no_keyword}
use Rattle.lexemes.proofs.words.of_four.Statement.{statement}
use Rattle.lexemes.proofs.words.of_four.Tie as tie

four_requires : tie.Need-four-v-requires
four_requires c κs = search rules

returns : tie.Need-returns-in-1852139636
unfolding has
returns c =
    let args = c.args in
    let four = c.four-v in
    is_keyword args.src.now args.at 6 4 1852139636 72 tt four.result four.ensures c.in-1852139636.is

returns_2 : tie.Need-returns-in-1702063205
unfolding has
returns_2 c =
    let args = c.args in
    let four = c.four-v in
    is_keyword args.src.now args.at 7 4 1702063205 73 tt four.result four.ensures c.in-1702063205.is

returns_3 : tie.Need-returns-in-1819047278
unfolding has
returns_3 c =
    let args = c.args in
    let four = c.four-v in
    is_keyword args.src.now args.at 11 4 1819047278 78 tt four.result four.ensures c.in-1819047278.is

returns_4 : tie.Need-returns-in-1702195828
unfolding has
returns_4 c =
    let args = c.args in
    let four = c.four-v in
    is_keyword args.src.now args.at 12 4 1702195828 79 tt four.result four.ensures c.in-1702195828.is

returns_5 : tie.Need-returns-in-1718379891
unfolding has
returns_5 c =
    let args = c.args in
    let four = c.four-v in
    is_keyword args.src.now args.at 14 4 1718379891 81 tt four.result four.ensures c.in-1718379891.is

returns_6 : tie.Need-returns-in_default
unfolding numbered
returns_6 c =
    let args = c.args in
    let four = c.four-v in
    no_keyword args.src.now args.at 4 (1718379891 ∷ 1702195828 ∷ 1819047278 ∷ 1702063205 ∷ 1852139636 ∷ []) tt four.result four.ensures c.in_default.in_default-own.rest

pub of_four_spec : {M : Type 1} → statement M
of_four_spec = tie.close (tie.spec four_requires returns returns_2 returns_3 returns_4 returns_5 returns_6)
