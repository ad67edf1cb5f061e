-- `lexemes::comments::slash_at` meets its contract: a line comment, what begins with `/*`, division.
-- Assumes nothing.
use mathlib.Core.Path.{sym, ◌∙◌}
use Prim.Native.Nat.{◌+◌}
use native.Mathlib.Omega.{arith}
use borrow.Author.Rules.{rules}
use Rattle.lexemes.proofs.Letters.{inside}
use Rattle.lexemes.proofs.Slashes.{line_scanned, div_scanned}
use Rattle.lexemes.proofs.comments.slash_at.Statement.{statement}
use Rattle.lexemes.proofs.comments.slash_at.Tie as tie

add_peek : tie.Need-overflow_add-at
add_peek c = search rules

peek_requires : tie.Need-peek-b-requires
peek_requires c κs = search rules

add_line_from : tie.Need-overflow_add-at-then-b-eq47
add_line_from c = search rules

line_from_requires : tie.Need-line_from-requires
line_from_requires c κs =
    let args = c.args in
    let s = args.src.now in
    let peek = c.peek-b in
    let if1 = c.if-b-eq47 in
    omega (arith, inside s (args.at + 1) (omega (arith, peek.ensures, if1.true)))

returns : tie.Need-returns-then-b-eq47
returns c =
    let args = c.args in
    let s = args.src.now in
    let pre = c.requires in
    let peek = c.peek-b in
    let if1 = c.if-b-eq47 in
    let line-from = c.line_from in
    line_scanned s args.at pre.1 (sym peek.ensures ∙ if1.true) line-from.ensures

comment_at_requires : tie.Need-comment_at-requires
comment_at_requires c κs =
    let args = c.args in
    let s = args.src.now in
    let peek = c.peek-b in
    let if2 = c.if-b-eq42 in
    let pre = c.requires in
    (inside s (args.at + 1) (omega (arith, peek.ensures, if2.true)), pre.1, sym peek.ensures ∙ if2.true)

returns_2 : tie.Need-returns-then-b-eq42
returns_2 c = search rules

add_t4 : tie.Need-overflow_add-result
add_t4 c = search rules

returns_3 : tie.Need-returns
returns_3 c =
    let args = c.args in
    let s = args.src.now in
    let pre = c.requires in
    let if1 = c.if-b-eq47 in
    let peek = c.peek-b in
    let if2 = c.if-b-eq42 in
    div_scanned s args.at pre.1 (λ e. if1.false (peek.ensures ∙ e)) (λ e. if2.false (peek.ensures ∙ e))

pub slash_at_spec : {M : Type 1} → statement M
slash_at_spec =
    tie.close
    (tie.spec
    add_peek
    peek_requires
    add_line_from
    line_from_requires
    returns
    comment_at_requires
    returns_2
    add_t4
    returns_3)
