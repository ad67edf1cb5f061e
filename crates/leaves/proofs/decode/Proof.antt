-- `decode` meets its contract: a literal's kind says what its text is.
-- Assumes nothing.
use borrow.Author.Rules.{rules}
use Rattle.leaves.proofs.LexemeLaws.{lies}
use Rattle.leaves.proofs.TextLaws.{decodes_block, decodes_double_verbatim, decodes_quoted, decodes_single_verbatim, plainly_quoted, quoted_long}
use native.Mathlib.Omega.{arith}
use Rattle.leaves.proofs.decode.Statement.{statement}
use Rattle.leaves.proofs.decode.Tie as tie

cast_start : tie.Need-overflow_cast-start
cast_start c = search rules

cast_end : tie.Need-overflow_cast-end
cast_end c = search rules

add_block_text : tie.Need-overflow_add-start
add_block_text c =
    let pre' = c.requires in
    let literal = lies pre'.0 in
    omega (arith, literal.block c.in-50.is, literal.within)

block_text_requires : tie.Need-block_text-requires
block_text_requires c κs = search rules

add_verbatim : tie.Need-overflow_add-start-in-45
add_verbatim c =
    let pre' = c.requires in
    let literal = lies pre'.0 in
    omega (arith, literal.raw c.in-45.is, literal.within)

sub_verbatim : tie.Need-overflow_sub-end
sub_verbatim c =
    let pre' = c.requires in
    let literal = lies pre'.0 in
    omega (arith, literal.raw c.in-45.is, literal.within)

verbatim_requires : tie.Need-verbatim-requires
verbatim_requires c κs =
    let pre' = c.requires in
    let literal = lies pre'.0 in
    (omega (arith, literal.raw c.in-45.is), omega (arith, literal.within))

add_verbatim_2 : tie.Need-overflow_add-start-in-47
add_verbatim_2 c =
    let pre' = c.requires in
    let literal = lies pre'.0 in
    omega (arith, literal.raw' c.in-47.is, literal.within)

sub_verbatim_2 : tie.Need-overflow_sub-end-in-47
sub_verbatim_2 c =
    let pre' = c.requires in
    let literal = lies pre'.0 in
    omega (arith, literal.raw' c.in-47.is, literal.within)

verbatim_requires_2 : tie.Need-verbatim-requires-in-47
verbatim_requires_2 c κs =
    let pre' = c.requires in
    let literal = lies pre'.0 in
    (omega (arith, literal.raw' c.in-47.is), omega (arith, literal.within))

add_quoted : tie.Need-overflow_add-start-in_default
add_quoted c =
    let pre' = c.requires in
    let matched' = c.in_default.in_default-own in
    let kind = plainly_quoted pre'.1 (λ z. omega (arith, z, matched'.rest)) (λ z. omega (arith, z, matched'.rest)) (λ z. omega (arith, z, matched'.rest)) in
    let long = quoted_long pre'.0 kind in
    let literal = lies pre'.0 in
    omega (arith, long, literal.within)

sub_quoted : tie.Need-overflow_sub-end-in_default
sub_quoted c =
    let pre' = c.requires in
    let matched' = c.in_default.in_default-own in
    let kind = plainly_quoted pre'.1 (λ z. omega (arith, z, matched'.rest)) (λ z. omega (arith, z, matched'.rest)) (λ z. omega (arith, z, matched'.rest)) in
    let long = quoted_long pre'.0 kind in
    let literal = lies pre'.0 in
    omega (arith, long, literal.within)

quoted_requires : tie.Need-quoted-requires
quoted_requires c κs =
    let pre' = c.requires in
    let matched' = c.in_default.in_default-own in
    let kind = plainly_quoted pre'.1 (λ z. omega (arith, z, matched'.rest)) (λ z. omega (arith, z, matched'.rest)) (λ z. omega (arith, z, matched'.rest)) in
    let long = quoted_long pre'.0 kind in
    let literal = lies pre'.0 in
    (omega (arith, long), omega (arith, literal.within))

same_length : tie.Need-shape_of-part-in-50
same_length c = search rules

returns : tie.Need-returns-in-50
returns c =
    let pre' = c.requires in
    let block-text' = c.block_text in
    decodes_block c.in-50.is ((lies pre'.0).block' c.in-50.is) block-text'.ensures

same_length_2 : tie.Need-shape_of-part-in-45
same_length_2 c = search rules

returns_2 : tie.Need-returns-in-45
returns_2 c =
    let verbatim' = c.verbatim in
    decodes_double_verbatim c.in-45.is verbatim'.ensures

same_length_3 : tie.Need-shape_of-part-in-47
same_length_3 c = search rules

returns_3 : tie.Need-returns-in-47
returns_3 c =
    let verbatim2' = c.verbatim-in-47 in
    decodes_single_verbatim c.in-47.is verbatim2'.ensures

same_length_4 : tie.Need-shape_of-part-in_default
same_length_4 c = search rules

returns_4 : tie.Need-returns-in_default
returns_4 c =
    let pre' = c.requires in
    let matched' = c.in_default.in_default-own in
    let quoted' = c.quoted in
    let kind = plainly_quoted pre'.1 (λ z. omega (arith, z, matched'.rest)) (λ z. omega (arith, z, matched'.rest)) (λ z. omega (arith, z, matched'.rest)) in
    decodes_quoted kind quoted'.ensures

pub decode_spec : {M : Type 1} → statement M
decode_spec = tie.close (tie.spec cast_start cast_end add_block_text block_text_requires add_verbatim sub_verbatim verbatim_requires add_verbatim_2 sub_verbatim_2 verbatim_requires_2 add_quoted sub_quoted quoted_requires same_length returns same_length_2 returns_2 same_length_3 returns_3 same_length_4 returns_4)
