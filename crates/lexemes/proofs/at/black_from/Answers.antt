-- `lexemes::at::black_from` meets its contract.
-- Assumes nothing.
use mathlib.Core.Path.{sym, ◌∙◌}
use native.Mathlib.Omega.{arith}
use Rattle.lexemes.proofs.Letters.{up, next-within}
use Rattle.lexemes.proofs.Verbatim.{blacks_on, blacks_end, black_past}
use Rattle.lexemes.proofs.at.black_from.Goals as goal

pub returns-then-not-is_black : goal.returns-then-not-is_black
returns-then-not-is_black c = blacks_end c.loop-i.invariant.1 (sym c.is_black.ensures ∙ c.if-not-is_black.true)

pub loop-i-smaller : goal.loop-i-smaller
loop-i-smaller c = omega (arith, c.after-i.ensures, up c.args.src.now c.loop-i.i)

pub loop-i-preserved : goal.loop-i-preserved
loop-i-preserved c =
    (omega (arith, c.after-i.ensures, next-within c.args.src.now c.loop-i.i c.loop-i-test.true), blacks_on c.loop-i.invariant.1 (sym c.is_black.ensures ∙ c.if-not-is_black.false) c.after-i.ensures)

pub returns : goal.returns
returns c = blacks_end c.loop-i.invariant.1 (sym (black_past c.args.src.now c.loop-i.i c.loop-i-test.false))
