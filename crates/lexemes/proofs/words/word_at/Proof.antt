-- `lexemes::words::word_at` meets its contract.
-- Assumes nothing.
use native.Mathlib.Omega.{arith}
use borrow.Author.Rules.{rules}
use Rattle.lexemes.proofs.Keywords.{word_scanned}
use Rattle.lexemes.proofs.words.word_at.Statement.{statement}
use Rattle.lexemes.proofs.words.word_at.Tie as tie

add_word_end : tie.Need-overflow_add-at
add_word_end c = search rules

word_end_requires : tie.Need-word_end-end-requires
word_end_requires c κs = search rules

keyword_requires : tie.Need-keyword-kind-requires
keyword_requires c κs =
    let word-end = c.word_end-end in
    omega (arith, word-end.ensures.start, word-end.ensures.end)

returns : tie.Need-returns
returns c =
    let args = c.args in
    let s = args.src.now in
    let word-end = c.word_end-end in
    let pre = c.requires in
    let keyword = c.keyword-kind in
    word_scanned s args.at word-end.result pre.1 word-end.ensures keyword.ensures

pub word_at_spec : {M : Type 1} → statement M
word_at_spec = tie.close (tie.spec add_word_end word_end_requires keyword_requires returns)
