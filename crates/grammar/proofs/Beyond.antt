-- 02, Item 2, computed from the bytes of a source to the answer: a literal that no double holds is refused at itself, and zero is not, whatever its exponent.
-- Assumes nothing.
use mathlib.Core.Path.{refl}
use mathlib.Core.List.{[], ◌∷◌}
use Rattle.lexemes.specs.Letters.{ascii}
use Rattle.lexemes.specs.Kept.{keep, first_bad}
use Rattle.lexemes.specs.Kept as lexemes
use Rattle.lexemes.specs.Rules.{rules}
use Rattle.lexemes.specs.Texts.{plain}
use Rattle.lexemes.proofs.Munch.{lex}
use Rattle.grammar.specs.Tags.{NUMBER}
use Rattle.grammar.specs.Numbers.{LARGE}
use Rattle.grammar.specs.Trees.{text, none, tree as one_tree, ◌⊕◌, count}
use Rattle.grammar.specs.Lexemes.{good, said, spoiled_at}
use Rattle.grammar.specs.Productions.{rule}
use Rattle.grammar.specs.Reading.{has, published, choose, view, production}
use Rattle.grammar.specs.Answer.{refused, tree, verdict, Judged, prefix_power, document_01}
use Rattle.grammar.specs.Source.{Bad, Kept}
use Rattle.grammar.proofs.Execute.{run, after}
use Rattle.grammar.proofs.Computed.{low, word_at, no_string, no_strings, words, plainly}

-- `-1e999`: 17 at 1,6, the sign left out, without a detail
pub large_refused : Judged Bad Kept document_01 0 (ascii "-1e999") (refused LARGE 1 6 0)
unfolding lex rules first_bad keep lexemes.bad lexemes.dropped no_strings no_string words word_at plain low run after prefix_power published production choose rule view has ◌⊕◌ count good said spoiled_at verdict
large_refused = plainly 0 _ _ _ tt tt tt refl refl tt refl

-- `0e999`: a tree, with the text as it was typed
pub zero_read : Judged Bad Kept document_01 0 (ascii "0e999") (tree (one_tree NUMBER (text (ascii "0e999") ∷ []) none))
unfolding lex rules first_bad keep lexemes.bad lexemes.dropped no_strings no_string words word_at plain low run after prefix_power published production choose rule view has ◌⊕◌ count good said spoiled_at verdict
zero_read = plainly 0 _ _ _ tt tt tt refl refl tt refl
