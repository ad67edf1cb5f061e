-- `lexemes::words::one` meets its contract.
-- Assumes nothing.
use mathlib.Core.Path.{refl}
use native.Mathlib.Omega.{arith}
use borrow.Author.Rules.{rules}
use Rattle.lexemes.specs.Words.{Makes}
use Rattle.lexemes.proofs.words.one.Statement.{statement}
use Rattle.lexemes.proofs.words.one.Tie as tie

shared_slice_read_wide : tie.Need-bounds-src-at
shared_slice_read_wide c = search rules

wide_requires : tie.Need-wide-requires
wide_requires c κs = search rules

returns : tie.Need-returns
unfolding Makes
returns c =
    let wide = c.wide in
    (0, wide.ensures.1, refl, omega (arith, wide.ensures.0))

pub one_spec : {M : Type 1} → statement M
one_spec = tie.close (tie.spec shared_slice_read_wide wide_requires returns)
