-- `lexemes::words::of_five` meets its contract: a test of the keyword in each arm, and of all keywords in the last.
-- Assumes nothing.
use mathlib.Core.List.{[], ◌∷◌}
use borrow.Author.Rules.{rules}
use Rattle.lexemes.proofs.Keywords.{has, numbered, is_keyword, no_keyword}
use Rattle.lexemes.proofs.words.of_five.Statement.{statement}
use Rattle.lexemes.proofs.words.of_five.Tie as tie

five_requires : tie.Need-five-v-requires
five_requires c κs = search rules

returns : tie.Need-returns-in-465490374508
unfolding has
returns c =
    let args = c.args in
    let five = c.five-v in
    is_keyword args.src.now args.at 1 5 465490374508 67 tt five.result five.ensures c.in-465490374508.is

returns_2 : tie.Need-returns-in-491496043109
unfolding has
returns_2 c =
    let args = c.args in
    let five = c.five-v in
    is_keyword args.src.now args.at 9 5 491496043109 75 tt five.result five.ensures c.in-491496043109.is

returns_3 : tie.Need-returns-in-435728179558
unfolding has
returns_3 c =
    let args = c.args in
    let five = c.five-v in
    is_keyword args.src.now args.at 13 5 435728179558 80 tt five.result five.ensures c.in-435728179558.is

returns_4 : tie.Need-returns-in-491328140659
unfolding has
returns_4 c =
    let args = c.args in
    let five = c.five-v in
    is_keyword args.src.now args.at 15 5 491328140659 82 tt five.result five.ensures c.in-491328140659.is

returns_5 : tie.Need-returns-in_default
unfolding numbered
returns_5 c =
    let args = c.args in
    let five = c.five-v in
    no_keyword args.src.now args.at 5 (491328140659 ∷ 435728179558 ∷ 491496043109 ∷ 465490374508 ∷ []) tt five.result five.ensures c.in_default.in_default-own.rest

pub of_five_spec : {M : Type 1} → statement M
of_five_spec = tie.close (tie.spec five_requires returns returns_2 returns_3 returns_4 returns_5)
