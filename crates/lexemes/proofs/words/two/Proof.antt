-- `lexemes::words::two` meets its contract.
-- Assumes nothing.
use mathlib.Core.Path.{refl, subst}
use Prim.Native.Nat.{ℕ, ◌+◌}
use native.Mathlib.Omega.{arith}
use borrow.Author.Rules.{rules}
use Rattle.lexemes.specs.Words.{Makes}
use Rattle.lexemes.proofs.Keywords.{shift, join, below}
use Rattle.lexemes.proofs.words.two.Statement.{statement}
use Rattle.lexemes.proofs.words.two.Tie as tie

one_requires : tie.Need-one-requires
one_requires c κs = search rules

add_one : tie.Need-overflow_add-at
add_one c = search rules

one_requires_2 : tie.Need-one-requires-2
one_requires_2 c κs = search rules

mul_result : tie.Need-overflow_mul-result
unfolding shift
mul_result c =
    let args = c.args in
    let second = c.one-2 in
    omega (arith, below args.src.now 1 (args.at + 1) second.result second.ensures)

add_result : tie.Need-overflow_add-result
unfolding shift
add_result c =
    let args = c.args in
    let first = c.one in
    let second = c.one-2 in
    omega (arith, below args.src.now 1 args.at first.result first.ensures, below args.src.now 1 (args.at + 1) second.result second.ensures)

returns : tie.Need-returns
unfolding shift
returns c =
    let args = c.args in
    let first = c.one in
    let second = c.one-2 in
    subst (λ (r : ℕ). Makes args.src.now args.at 2 r) (omega arith)
    (join args.src.now 1 1 2 args.at first.result second.result refl first.ensures second.ensures)

pub two_spec : {M : Type 1} → statement M
two_spec = tie.close (tie.spec one_requires add_one one_requires_2 mul_result add_result returns)
