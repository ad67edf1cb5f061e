-- `lexemes::at::at_sign` meets its contract: a verbatim string, junk, or a lone `@`.
-- Assumes nothing.
use mathlib.Core.Path.{sym, ◌∙◌}
use Prim.Native.Nat.{◌+◌}
use native.Mathlib.Omega.{arith}
use Rattle.lexemes.proofs.Letters.{next-within}
use Rattle.lexemes.proofs.Verbatim.{at_white, at_one, at_more, black_inside}
use Rattle.lexemes.proofs.at.at_sign.Goals as goal

pub returns-then-not-is_black : goal.returns-then-not-is_black
returns-then-not-is_black c = at_white c.args.src.now c.args.at c.requires.1 (sym c.is_black.ensures ∙ c.if-not-is_black.true)

pub after-f-requires : goal.after-f-requires
after-f-requires c = black_inside c.args.src.now (c.args.at + 1) (sym c.is_black.ensures ∙ c.if-not-is_black.false)

pub black_from-end-requires : goal.black_from-end-requires
black_from-end-requires c =
    let s = c.args.src.now in
    let dark = sym c.is_black.ensures ∙ c.if-not-is_black.false in
    omega (arith, c.after-f.ensures, next-within s (c.args.at + 1) (black_inside s (c.args.at + 1) dark))

pub returns-then-end-f : goal.returns-then-end-f
returns-then-end-f c =
    let dark = sym c.is_black.ensures ∙ c.if-not-is_black.false in
    at_one c.args.src.now c.args.at c.requires.1 (λ e. c.if-b-eq34.false (c.peek-b.ensures ∙ e)) (λ e. c.if-b-eq39.false (c.peek-b.ensures ∙ e)) dark c.after-f.ensures c.if-end-f.true c.black_from-end.ensures

pub returns : goal.returns
returns c =
    let dark = sym c.is_black.ensures ∙ c.if-not-is_black.false in
    at_more c.args.src.now c.args.at c.requires.1 (λ e. c.if-b-eq34.false (c.peek-b.ensures ∙ e)) (λ e. c.if-b-eq39.false (c.peek-b.ensures ∙ e)) dark c.after-f.ensures c.if-end-f.false c.black_from-end.ensures
