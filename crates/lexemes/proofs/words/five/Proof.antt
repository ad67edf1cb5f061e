-- `lexemes::words::five` meets its contract.
-- Assumes nothing.
use mathlib.Core.Path.{refl, subst}
use Prim.Native.Nat.{ℕ, ◌+◌}
use native.Mathlib.Omega.{arith}
use borrow.Author.Rules.{rules}
use Rattle.lexemes.specs.Words.{Makes}
use Rattle.lexemes.proofs.Keywords.{shift, join, below}
use Rattle.lexemes.proofs.words.five.Statement.{statement}
use Rattle.lexemes.proofs.words.five.Tie as tie

four_requires : tie.Need-four-requires
four_requires c κs = search rules

add_one : tie.Need-overflow_add-at
add_one c = search rules

one_requires : tie.Need-one-requires
one_requires c κs = search rules

mul_result : tie.Need-overflow_mul-result
unfolding shift
mul_result c =
    let args = c.args in
    let second = c.one in
    omega (arith, below args.src.now 1 (args.at + 4) second.result second.ensures)

add_result : tie.Need-overflow_add-result
unfolding shift
add_result c =
    let args = c.args in
    let first = c.four in
    let second = c.one in
    omega (arith, below args.src.now 4 args.at first.result first.ensures, below args.src.now 1 (args.at + 4) second.result second.ensures)

returns : tie.Need-returns
unfolding shift
returns c =
    let args = c.args in
    let first = c.four in
    let second = c.one in
    subst (λ (r : ℕ). Makes args.src.now args.at 5 r) (omega arith)
    (join args.src.now 4 1 5 args.at first.result second.result refl first.ensures second.ensures)

pub five_spec : {M : Type 1} → statement M
five_spec = tie.close (tie.spec four_requires add_one one_requires mul_result add_result returns)
