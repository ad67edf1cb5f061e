-- `lexemes::numbers::exponent_at` meets its contract: an exponent, or none.
-- Assumes nothing.
use mathlib.Core.Path.{refl}
use native.Mathlib.Omega.{arith}
use Rattle.lexemes.proofs.Letters.{inside}
use Rattle.lexemes.proofs.Numerals.{exponent_tried, exponent_none}
use Rattle.lexemes.proofs.numbers.exponent_at.Goals as goal

pub after_e-requires : goal.after_e-requires
after_e-requires c = omega (arith, inside c.args.src.now c.args.p (grind arith))

pub returns-in-101 : goal.returns-in-101
returns-in-101 c = exponent_tried c.args.src.now c.after_e.result _ c.unwrap_or.result (grind arith) c.after_e.ensures refl refl c.unwrap_or.ensures

pub returns-in_default : goal.returns-in_default
returns-in_default c = exponent_none c.args.src.now (λ z. grind arith) (λ z. grind arith)
