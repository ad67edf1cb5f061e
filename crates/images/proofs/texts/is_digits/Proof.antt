-- `images::texts::is_digits` meets its contract.
-- Assumes nothing.
use borrow.Author.Rules.{rules}
use Rattle.blocks.specs.Inside.{holds, fails}
use Rattle.images.proofs.TextLaws.{none_left, more_left, some_left}
use Rattle.images.proofs.texts.is_digits.Statement.{statement}
use Rattle.images.proofs.texts.is_digits.Tie as tie

digits_requires : tie.Need-digits-end-requires
digits_requires c κs = search rules

returns : tie.Need-returns-then-end-i
returns c =
    let s = c.args.text.now in
    fails (none_left s c.digits-end.ensures c.if-end-i.true)

returns_2 : tie.Need-returns-then-end-text
returns_2 c =
    let s = c.args.text.now in
    fails (more_left s c.digits-end.ensures c.if-end-text.true)

returns_3 : tie.Need-returns
returns_3 c =
    let s = c.args.text.now in
    holds (some_left s c.digits-end.ensures c.if-end-i.false c.if-end-text.false)

pub is_digits_spec : {M : Type 1} → statement M
is_digits_spec = tie.close (tie.spec digits_requires returns returns_2 returns_3)
