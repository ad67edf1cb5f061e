-- `lexemes::words::is_keyword` meets its contract.
-- Assumes nothing.
use mathlib.Core.Path.{◌≡◌}
use mathlib.Core.List.{List, [], ◌∷◌}
use Prim.Native.Nat.{ℕ}
use native.Mathlib.Omega.{arith}
use lib.ListN.{length}
use borrow.Author.Rules.{rules}
use Rattle.lexemes.specs.Texts.{TellsKeyword, keywords, Among}
use Rattle.lexemes.proofs.TextLaws.{keyword_among, none_among, empty_among}
use Rattle.lexemes.proofs.words.is_keyword.Statement.{statement}
use Rattle.lexemes.proofs.words.is_keyword.Tie as tie

-- A text of no byte is no keyword.
empty : (s : List ℕ) → length s ≡ 0 → Among s keywords → ⊥
empty [] e m = empty_among m
empty (b ∷ s) e m = omega arith

returns : tie.Need-returns-then-text-eq0
returns c = TellsKeyword.other (empty c.args.text.now c.if-text-eq0.true)

keyword_requires : tie.Need-keyword-requires
keyword_requires c κs = search rules

returns_2 : tie.Need-returns-then-keyword-eq-IDENT
returns_2 c =
    let s = c.args.text.now in
    TellsKeyword.other (none_among s c.keyword.ensures c.if-keyword-eq-IDENT.true)

returns_3 : tie.Need-returns
returns_3 c =
    let s = c.args.text.now in
    TellsKeyword.keyword (keyword_among s c.keyword.ensures c.if-keyword-eq-IDENT.false)

pub is_keyword_spec : {M : Type 1} → statement M
is_keyword_spec = tie.close (tie.spec returns keyword_requires returns_2 returns_3)
