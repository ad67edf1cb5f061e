-- `lexemes::scan::lexeme_of` meets its contract: what the rules match, or a block.
-- Assumes nothing.
use mathlib.Core.Path.{refl, subst}
use Prim.Native.Nat.{ℕ}
use borrow.Author.Rules.{rules}
use Rattle.lexemes.specs.Lexeme.{Ruled, rule, block}
use Rattle.lexemes.proofs.scan.lexeme_of.Statement.{statement}
use Rattle.lexemes.proofs.scan.lexeme_of.Tie as tie

returns : tie.Need-returns-then-kind-ne-STRING_BLOCK
returns c =
    let pre = c.requires in
    let if1 = c.if-kind-ne-STRING_BLOCK in
    rule pre.0 pre.1 if1.true refl

block_at_requires : tie.Need-block_at-requires
block_at_requires c κs = search rules

of_block_requires : tie.Need-of_block-requires
of_block_requires c κs = search rules

returns_2 : tie.Need-returns
returns_2 c =
    let args = c.args in
    let pre = c.requires in
    let s = args.src.now in
    let if1 = c.if-kind-ne-STRING_BLOCK in
    let block_at = c.block_at in
    let of-block = c.of_block in
    block pre.0 (subst (λ (k : ℕ). Ruled s args.at k args.m.end) if1.false pre.1) block_at.ensures of-block.ensures

pub lexeme_of_spec : {M : Type 1} → statement M
lexeme_of_spec = tie.close (tie.spec returns block_at_requires of_block_requires returns_2)
