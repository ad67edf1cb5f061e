-- `lexemes::words::of_six` meets its contract: a test of the keyword in each arm, and of all keywords in the last.
-- Assumes nothing.
use mathlib.Core.List.{[], ◌∷◌}
use borrow.Author.Rules.{rules}
use Rattle.lexemes.proofs.Keywords.{has, numbered, is_keyword, no_keyword}
use Rattle.lexemes.proofs.words.of_six.Statement.{statement}
use Rattle.lexemes.proofs.words.of_six.Tie as tie

six_requires : tie.Need-six-v-requires
six_requires c κs = search rules

returns : tie.Need-returns-in-128034844732777
unfolding has
returns c =
    let args = c.args in
    let six = c.six-v in
    is_keyword args.src.now args.at 4 6 128034844732777 70 tt six.result six.ensures c.in-128034844732777.is

returns_2 : tie.Need-returns-in-128034677158753
unfolding has
returns_2 c =
    let args = c.args in
    let six = c.six-v in
    is_keyword args.src.now args.at 17 6 128034677158753 84 tt six.result six.ensures c.in-128034677158753.is

returns_3 : tie.Need-returns-in_default
unfolding numbered
returns_3 c =
    let args = c.args in
    let six = c.six-v in
    no_keyword args.src.now args.at 6 (128034677158753 ∷ 128034844732777 ∷ []) tt six.result six.ensures c.in_default.in_default-own.rest

pub of_six_spec : {M : Type 1} → statement M
of_six_spec = tie.close (tie.spec six_requires returns returns_2 returns_3)
