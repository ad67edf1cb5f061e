-- `lexemes::words::four` meets its contract.
-- Assumes nothing.
use mathlib.Core.Path.{refl, subst}
use Prim.Native.Nat.{ℕ, ◌+◌}
use native.Mathlib.Omega.{arith}
use borrow.Author.Rules.{rules}
use Rattle.lexemes.specs.Words.{Makes}
use Rattle.lexemes.proofs.Keywords.{shift, join, below}
use Rattle.lexemes.proofs.words.four.Statement.{statement}
use Rattle.lexemes.proofs.words.four.Tie as tie

two_requires : tie.Need-two-requires
two_requires c κs = search rules

add_two : tie.Need-overflow_add-at
add_two c = search rules

two_requires_2 : tie.Need-two-requires-2
two_requires_2 c κs = search rules

mul_result : tie.Need-overflow_mul-result
unfolding shift
mul_result c =
    let args = c.args in
    let second = c.two-2 in
    omega (arith, below args.src.now 2 (args.at + 2) second.result second.ensures)

add_result : tie.Need-overflow_add-result
unfolding shift
add_result c =
    let args = c.args in
    let first = c.two in
    let second = c.two-2 in
    omega (arith, below args.src.now 2 args.at first.result first.ensures, below args.src.now 2 (args.at + 2) second.result second.ensures)

returns : tie.Need-returns
unfolding shift
returns c =
    let args = c.args in
    let first = c.two in
    let second = c.two-2 in
    subst (λ (r : ℕ). Makes args.src.now args.at 4 r) (omega arith)
    (join args.src.now 2 2 4 args.at first.result second.result refl first.ensures second.ensures)

pub four_spec : {M : Type 1} → statement M
four_spec = tie.close (tie.spec two_requires add_two two_requires_2 mul_result add_result returns)
