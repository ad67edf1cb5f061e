-- `lexemes::operators::operator_at` meets its contract: dots, one byte, two, or the three bars that open a block.
-- Assumes nothing.
use mathlib.Core.Path.{sym, ◌∙◌, ap, subst}
use Prim.Native.Nat.{ℕ, ◌+◌}
use lib.ListN.{get_or}
use Rattle.lexemes.specs.Lexeme.{Ruled}
use Rattle.lexemes.specs.Scan.{named, pair}
use Rattle.lexemes.proofs.Operations.{single_some, by_one, by_two, by_three}
use Rattle.lexemes.proofs.operators.operator_at.Goals as goal

pub unreachable-requires : goal.unreachable-requires
unreachable-requires c = single_some (get_or c.args.src.now c.args.at 0) c.requires.1 (sym c.in_default.is ∙ c.single_kind.ensures)

pub returns-in-Some-single_kind : goal.returns-in-Some-single_kind
returns-in-Some-single_kind c =
    let b = get_or c.args.src.now c.args.at 0 in
    by_one c.args.src.now c.args.at c.requires.1 c.if-b-eq46.false (sym c.in-None.is ∙ c.pair_kind.ensures ∙ ap (λ (d : ℕ). named (pair b d)) c.peek.ensures)
    (sym c.in-Some-single_kind.is ∙ c.single_kind.ensures)

pub returns-then-peek-eq124 : goal.returns-then-peek-eq124
returns-then-peek-eq124 c =
    let b = get_or c.args.src.now c.args.at 0 in
    by_three c.args.src.now c.args.at c.requires.1 c.if-b-eq46.false (sym c.in-Some-eq2.is ∙ c.pair_kind.ensures ∙ ap (λ (d : ℕ). named (pair b d)) c.peek.ensures)
    c.in-Some-eq2.field-0-test (sym c.peek-in-Some-eq2.ensures ∙ c.if-peek-eq124.true)

pub returns-else-peek-eq124 : goal.returns-else-peek-eq124
returns-else-peek-eq124 c =
    let b = get_or c.args.src.now c.args.at 0 in
    subst (λ (k : ℕ). Ruled c.args.src.now c.args.at k (c.args.at + 2)) c.in-Some-eq2.field-0-test
    (by_two c.args.src.now c.args.at c.requires.1 c.if-b-eq46.false (sym c.in-Some-eq2.is ∙ c.pair_kind.ensures ∙ ap (λ (d : ℕ). named (pair b d)) c.peek.ensures)
    (λ q x. c.if-peek-eq124.false (c.peek-in-Some-eq2.ensures ∙ x)))

pub returns-in-Some : goal.returns-in-Some
returns-in-Some c =
    let b = get_or c.args.src.now c.args.at 0 in
    by_two c.args.src.now c.args.at c.requires.1 c.if-b-eq46.false (sym c.in-Some.is ∙ c.pair_kind.ensures ∙ ap (λ (d : ℕ). named (pair b d)) c.peek.ensures)
    (λ q x. c.in-Some.kind-test.1 q)
