-- 01's thirteen marked readings, and four more of its sentences, from the bytes of a source to the answer, through lexemes and decoders: computed.
-- Assumes nothing.
use mathlib.Core.Path.{◌≡◌, refl}
use mathlib.Core.List.{List, [], ◌∷◌, ◌++◌}
use Prim.Native.Nat.{ℕ}
use lib.Dec.{leb→le, ltb→lt}
use lib.ListN.{length, replicate}
use borrow.Author.Tests.{eqb-false}
use Rattle.strings.proofs.Marked.{marked_reading_5, marked_reading_6, marked_reading_7}
use Rattle.blocks.specs.Blocks.{a_good, ends}
use Rattle.blocks.proofs.Marked.{marked_reading_8}
use Rattle.lexemes.specs.Kinds.{EOF, IDENT, STRING_BLOCK}
use Rattle.lexemes.specs.Letters.{ascii}
use Rattle.lexemes.specs.Lexeme.{lexeme, block}
use Rattle.lexemes.specs.Kept.{Lexemes, keep, first_bad}
use Rattle.lexemes.specs.Kept as lexemes
use Rattle.lexemes.specs.Rules.{rules}
use Rattle.lexemes.specs.Letters.{letter, next}
use Rattle.lexemes.proofs.Munch.{lex, lexed, munch, munched_ruled}
use Rattle.lexemes.specs.Texts.{plain}
use Rattle.grammar.specs.Trees.{Trees, ◌⊕◌, count}
use Rattle.grammar.specs.Image.{image, entry, payload}
use Rattle.grammar.specs.Lexemes.{good, said, spoiled_at}
use Rattle.grammar.specs.Productions.{rule, with_field, with_assert, with_member}
use Rattle.grammar.specs.Reading.{has, published, choose, view, production}
use Rattle.grammar.specs.Says.{its_text, its_escape, Told}
use Rattle.grammar.specs.Says as says_of
use Rattle.grammar.specs.Answer.{refused, tree, verdict, Judged, bad_lexeme, prefix_power, document_01}
use Rattle.grammar.specs.Source.{Bad, bad, Kept}
use Rattle.grammar.proofs.Execute.{run, after}
use Rattle.grammar.proofs.Computed.{low, low_utf8, word_at, no_string, words, no_strings, judge, plainly}

-- ---- a claim, from bytes

-- Under a setting a source has this image, or is refused with number, place and detail.
pub data Claim : Type 0 where
  reads : ℕ → List ℕ → List ℕ → Claim
  refuses : ℕ → List ℕ → ℕ → ℕ → ℕ → ℕ → Claim

abbrev pub Holds : Claim → Type 0
Holds (reads s bytes img) = (ts : Trees) × Judged Bad Kept document_01 s bytes (tree ts) × (image ts ≡ img)
Holds (refuses s bytes n a e x) = Judged Bad Kept document_01 s bytes (refused n a e x)

-- So it is with each of some claims.
abbrev pub Each : (Claim → Type 0) → List Claim → Type 0
Each P [] = Unit
Each P (c ∷ cs) = P c × Each P cs

-- So it is with every reading of a list, each of one claim or more.
abbrev pub Every : (Claim → Type 0) → List (List Claim) → Type 0
Every P [] = Unit
Every P (r ∷ rs) = Each P r × Every P rs

module _ {P Q : Claim → Type 0} (so : (c : Claim) → P c → Q c) where
  pub each_so : (cs : List Claim) → Each P cs → Each Q cs
  each_so [] h = tt
  each_so (c ∷ cs) h = (so c h.0, each_so cs h.1)

  pub every_so : (rs : List (List Claim)) → Every P rs → Every Q rs
  every_so [] h = tt
  every_so (r ∷ rs) h = (each_so r h.0, every_so rs h.1)

-- ---- 01's list

-- n of `(`, then `1`, then n of `)`
unfoldable pub parens : ℕ → List ℕ
parens n = replicate n 0x28 ++ 0x31 ∷ replicate n 0x29

-- The thirteen; 12 has three claims, and 13 two.
unfoldable pub marked : List (List Claim)
unfolding parens
marked =
    -- 1. Empty: 7 at 0,0
    (refuses 0 ([]) 7 0 0 0 ∷ []) ∷
    -- 2. `1`: image 04 00 01 31
    (reads 0 (ascii "1") (0x04 ∷ 0x00 ∷ 0x01 ∷ 0x31 ∷ []) ∷ []) ∷
    -- 3. `1 2`: 5 at 2,3, detail 1
    (refuses 0 (ascii "1 2") 5 2 3 1 ∷ []) ∷
    -- 4. `a-b-c` is (a-b)-c
    (reads 0 (ascii "a-b-c") (0x06 ∷ 0x00 ∷ 0x05 ∷ 0x00 ∷ 0x00 ∷ 0x00 ∷ 0x01 ∷ 0x61 ∷ 0x06 ∷ 0x00 ∷ 0x05 ∷ 0x00 ∷ 0x02 ∷ 0x00 ∷ 0x03 ∷ 0x62 ∷ 0x0D ∷ 0x00 ∷ 0x05 ∷ 0x04 ∷ 0x00 ∷ 0x01 ∷ 0x00 ∷ 0x02 ∷ 0x06 ∷ 0x00 ∷ 0x05 ∷ 0x00 ∷ 0x04 ∷ 0x00 ∷ 0x05 ∷ 0x63 ∷ 0x0D ∷ 0x00 ∷ 0x05 ∷ 0x04 ∷ 0x00 ∷ 0x03 ∷ 0x00 ∷ 0x04 ∷ []) ∷ []) ∷
    -- 5. `"\x41"`: D0 81
    (reads 0 (0x22 ∷ 0x5C ∷ 0x78 ∷ 0x34 ∷ 0x31 ∷ 0x22 ∷ []) (0x05 ∷ 0x00 ∷ 0x02 ∷ 0xD0 ∷ 0x81 ∷ []) ∷ []) ∷
    -- 6. `"\uD83D\uDE00"`: F0 9F 98 80
    (reads 0 (0x22 ∷ 0x5C ∷ 0x75 ∷ 0x44 ∷ 0x38 ∷ 0x33 ∷ 0x44 ∷ 0x5C ∷ 0x75 ∷ 0x44 ∷ 0x45 ∷ 0x30 ∷ 0x30 ∷ 0x22 ∷ []) (0x05 ∷ 0x00 ∷ 0x04 ∷ 0xF0 ∷ 0x9F ∷ 0x98 ∷ 0x80 ∷ []) ∷ []) ∷
    -- 7. `"\uD800x"`: 9 at 0,9, detail 1: the high half's backslash
    (refuses 0 (0x22 ∷ 0x5C ∷ 0x75 ∷ 0x44 ∷ 0x38 ∷ 0x30 ∷ 0x30 ∷ 0x78 ∷ 0x22 ∷ []) 9 0 9 1 ∷ []) ∷
    -- 8. `|||-`, LF, two spaces `mass`, LF, two spaces `depth`, LF, `|||`: `mass` LF `depth`
    (reads 0 (0x7C ∷ 0x7C ∷ 0x7C ∷ 0x2D ∷ 0x0A ∷ 0x20 ∷ 0x20 ∷ 0x6D ∷ 0x61 ∷ 0x73 ∷ 0x73 ∷ 0x0A ∷ 0x20 ∷ 0x20 ∷ 0x64 ∷ 0x65 ∷ 0x70 ∷ 0x74 ∷ 0x68 ∷ 0x0A ∷ 0x7C ∷ 0x7C ∷ 0x7C ∷ []) (0x05 ∷ 0x00 ∷ 0x0A ∷ 0x6D ∷ 0x61 ∷ 0x73 ∷ 0x73 ∷ 0x0A ∷ 0x64 ∷ 0x65 ∷ 0x70 ∷ 0x74 ∷ 0x68 ∷ []) ∷ []) ∷
    -- 9. `f(a=1, 2)`: 8 at 7,8, detail 1
    (refuses 0 (ascii "f(a=1, 2)") 8 7 8 1 ∷ []) ∷
    -- 10. `if a then 1else 2`: 4 at 10,13
    (refuses 0 (ascii "if a then 1else 2") 4 10 13 39 ∷ []) ∷
    -- 11. `a?.b`: 5 at 1,2
    (refuses 0 (ascii "a?.b") 5 1 2 1 ∷ []) ∷
    -- 12. `[v for [k]: v in o]`: setting 0, 5 at 7,8; setting 1, 5 at 10,11; setting 2, a tree
    (refuses 0 (ascii "[v for [k]: v in o]") 5 7 8 IDENT ∷ refuses 1 (ascii "[v for [k]: v in o]") 5 10 11 76 ∷ reads 2 (ascii "[v for [k]: v in o]") (0x06 ∷ 0x00 ∷ 0x05 ∷ 0x00 ∷ 0x01 ∷ 0x00 ∷ 0x02 ∷ 0x76 ∷ 0x19 ∷ 0x00 ∷ 0x05 ∷ 0x00 ∷ 0x0C ∷ 0x00 ∷ 0x0D ∷ 0x76 ∷ 0x06 ∷ 0x00 ∷ 0x05 ∷ 0x00 ∷ 0x11 ∷ 0x00 ∷ 0x12 ∷ 0x6F ∷ 0x23 ∷ 0x00 ∷ 0x02 ∷ 0x00 ∷ 0x6B ∷ 0x08 ∷ 0x00 ∷ 0x02 ∷ 0x00 ∷ 0x01 ∷ []) ∷ []) ∷
    -- 13. 199 `(`, `1`, 199 `)`: a tree; 200 of each: 11 at 200,201
    (reads 0 (parens 199) (0x04 ∷ 0x00 ∷ 0x01 ∷ 0x31 ∷ []) ∷ refuses 0 (parens 200) 11 200 201 0 ∷ []) ∷
    []

pub marked_are_thirteen : length marked ≡ 13
unfolding marked
marked_are_thirteen = refl

-- Further sentences of 01.
unfoldable pub further : List Claim
further =
    -- "Readings that look right and aren't": `(a.b).c` is two runs
    reads 0 (ascii "(a.b).c") (0x06 ∷ 0x00 ∷ 0x05 ∷ 0x00 ∷ 0x01 ∷ 0x00 ∷ 0x02 ∷ 0x61 ∷ 0x05 ∷ 0x00 ∷ 0x01 ∷ 0x62 ∷ 0x14 ∷ 0x00 ∷ 0x06 ∷ 0x00 ∷ 0x03 ∷ 0x00 ∷ 0x04 ∷ 0x01 ∷ 0x00 ∷ 0x05 ∷ 0x00 ∷ 0x01 ∷ 0x63 ∷ 0x14 ∷ 0x00 ∷ 0x06 ∷ 0x00 ∷ 0x06 ∷ 0x00 ∷ 0x07 ∷ 0x01 ∷ 0x00 ∷ []) ∷
    -- "Comprehension faults (8) come after its last clause"
    refuses 0 (ascii "{a:1,b:2 for x in y}") 8 19 20 2 ∷
    -- "operator byte in enum order"
    reads 0 (ascii "!a") (0x06 ∷ 0x00 ∷ 0x05 ∷ 0x00 ∷ 0x01 ∷ 0x00 ∷ 0x02 ∷ 0x61 ∷ 0x0C ∷ 0x00 ∷ 0x01 ∷ 0x03 ∷ []) ∷
    -- The case of `readtree`: `-a*b` is -(a*b)
    reads 0 (ascii "-a*b") (0x06 ∷ 0x00 ∷ 0x05 ∷ 0x00 ∷ 0x01 ∷ 0x00 ∷ 0x02 ∷ 0x61 ∷ 0x06 ∷ 0x00 ∷ 0x05 ∷ 0x00 ∷ 0x03 ∷ 0x00 ∷ 0x04 ∷ 0x62 ∷ 0x0D ∷ 0x00 ∷ 0x05 ∷ 0x00 ∷ 0x00 ∷ 0x02 ∷ 0x00 ∷ 0x03 ∷ 0x0C ∷ 0x00 ∷ 0x01 ∷ 0x01 ∷ []) ∷
    []

block_source : List ℕ
block_source = 0x7C ∷ 0x7C ∷ 0x7C ∷ 0x2D ∷ 0x0A ∷ 0x20 ∷ 0x20 ∷ 0x6D ∷ 0x61 ∷ 0x73 ∷ 0x73 ∷ 0x0A ∷ 0x20 ∷ 0x20 ∷ 0x64 ∷ 0x65 ∷ 0x70 ∷ 0x74 ∷ 0x68 ∷ 0x0A ∷ 0x7C ∷ 0x7C ∷ 0x7C ∷ []

block_lexemes : Lexemes block_source 0 (lexeme STRING_BLOCK 0 23 ∷ [])
unfolding block_source rules munch letter next
block_lexemes =
    lexemes.Lexemes.some (ltb→lt 0 23 tt)
    (block (ltb→lt 0 23 tt) (munched_ruled block_source 0 STRING_BLOCK 3 refl) (a_good (ends marked_reading_8.0 refl)) refl)
    (lexemes.Lexemes.none (leb→le 23 23 tt))

pub marked_readings : Every Holds marked
unfolding marked parens block_source lex rules first_bad keep lexemes.bad lexemes.dropped no_strings no_string words word_at plain low run after prefix_power published production choose rule view has ◌⊕◌ count with_field with_assert with_member good said spoiled_at image entry payload verdict
marked_readings = ((plainly 0 _ _ _ tt tt tt refl refl tt refl, tt), (((_, plainly 0 _ _ _ tt tt tt refl refl tt refl, refl), tt), ((plainly 0 _ _ _ tt tt tt refl refl tt refl, tt), (((_, plainly 0 _ _ _ tt tt tt refl refl tt refl, refl), tt), (((_, judge 0 _ _ _ _ tt tt tt (lexed _ 500 0 _ refl) refl (Told.more (its_text (says_of.Means.double marked_reading_5)) Told.none) refl, refl), tt), (((_, judge 0 _ _ _ _ tt tt tt (lexed _ 500 0 _ refl) refl (Told.more (its_text (says_of.Means.double marked_reading_6)) Told.none) refl, refl), tt), ((judge 0 _ _ _ _ tt tt tt (lexed _ 500 0 _ refl) refl (Told.more (its_escape (says_of.in_double marked_reading_7)) Told.none) refl, tt), (((_, judge 0 block_source _ _ _ tt tt tt block_lexemes refl (Told.more (its_text (says_of.Means.block marked_reading_8.1)) Told.none) refl, refl), tt), ((plainly 0 _ _ _ tt tt tt refl refl tt refl, tt), ((bad_lexeme refl (leb→le 17 65000 tt) (low_utf8 _ tt) (bad (eqb-false 39 EOF refl) (record { lexemes = _; all = lexed (ascii "if a then 1else 2") 500 0 _ refl; is_first = refl })), tt), ((plainly 0 _ _ _ tt tt tt refl refl tt refl, tt), ((plainly 0 _ _ _ tt tt tt refl refl tt refl, (plainly 1 _ _ _ tt tt tt refl refl tt refl, ((_, plainly 2 _ _ _ tt tt tt refl refl tt refl, refl), tt))), (((_, plainly 0 _ _ _ tt tt tt refl refl tt refl, refl), (plainly 0 _ _ _ tt tt tt refl refl tt refl, tt)), tt)))))))))))))

pub further_readings : Each Holds further
unfolding further lex rules first_bad keep lexemes.bad lexemes.dropped no_strings no_string words word_at plain low run after prefix_power published production choose rule view has ◌⊕◌ count with_field with_assert with_member good said spoiled_at image entry payload verdict
further_readings = ((_, plainly 0 _ _ _ tt tt tt refl refl tt refl, refl), (plainly 0 _ _ _ tt tt tt refl refl tt refl, ((_, plainly 0 _ _ _ tt tt tt refl refl tt refl, refl), ((_, plainly 0 _ _ _ tt tt tt refl refl tt refl, refl), tt))))
