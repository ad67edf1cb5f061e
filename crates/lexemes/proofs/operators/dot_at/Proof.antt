-- `lexemes::operators::dot_at` meets its contract.
-- Assumes nothing.
use mathlib.Core.Path.{sym, ◌∙◌}
use borrow.Author.Rules.{rules}
use Rattle.lexemes.proofs.Operations.{dot_scanned, dots_scanned, two_dots_scanned}
use Rattle.lexemes.proofs.operators.dot_at.Statement.{statement}
use Rattle.lexemes.proofs.operators.dot_at.Tie as tie

add_peek : tie.Need-overflow_add-at
add_peek c = search rules

peek_requires : tie.Need-peek-requires
peek_requires c κs = search rules

add_t6 : tie.Need-overflow_add-result
add_t6 c = search rules

returns : tie.Need-returns-then-peek-ne46
returns c =
    let args = c.args in
    let s = args.src.now in
    let pre = c.requires in
    let if1 = c.if-peek-ne46 in
    let peek = c.peek in
    dot_scanned s args.at pre.1 (λ e. if1.true (peek.ensures ∙ e))

add_peek_2 : tie.Need-overflow_add-at-2
add_peek_2 c = search rules

peek_requires_2 : tie.Need-peek-requires-2
peek_requires_2 c κs = search rules

add_t7 : tie.Need-overflow_add-result-then-peek-eq46
add_t7 c = search rules

returns_2 : tie.Need-returns-then-peek-eq46
returns_2 c =
    let args = c.args in
    let s = args.src.now in
    let pre = c.requires in
    let peek = c.peek in
    let if1 = c.if-peek-ne46 in
    let peek2 = c.peek-2 in
    let if2 = c.if-peek-eq46 in
    dots_scanned s args.at pre.1 (sym peek.ensures ∙ if1.false) (sym peek2.ensures ∙ if2.true)

add_t4 : tie.Need-overflow_add-result-2
add_t4 c = search rules

returns_3 : tie.Need-returns
returns_3 c =
    let args = c.args in
    let s = args.src.now in
    let pre = c.requires in
    let peek = c.peek in
    let if1 = c.if-peek-ne46 in
    let if2 = c.if-peek-eq46 in
    let peek2 = c.peek-2 in
    two_dots_scanned s args.at pre.1 (sym peek.ensures ∙ if1.false) (λ e. if2.false (peek2.ensures ∙ e))

pub dot_at_spec : {M : Type 1} → statement M
dot_at_spec =
    tie.close
    (tie.spec
    add_peek
    peek_requires
    add_t6
    returns
    add_peek_2
    peek_requires_2
    add_t7
    returns_2
    add_t4
    returns_3)
