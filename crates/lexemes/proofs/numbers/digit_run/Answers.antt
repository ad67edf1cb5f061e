-- `lexemes::numbers::digit_run` meets its contract.
-- Assumes nothing.
use native.Mathlib.Omega.{arith}
use borrow.Author.Rules.{rules}
use Rattle.std.specs.Char.{is_ascii_digit}
use Rattle.lexemes.proofs.Classes.{tells, ran_by}
use Rattle.lexemes.proofs.numbers.digit_run.Goals as goal

pub returns : goal.returns
unfolding tells
returns c = ran_by is_ascii_digit 2 3 (omega arith) tt c.args.src.now (λ k. (c.type_inv.src k).fits) (c.run_while.ensures is_ascii_digit (λ b r q. search rules))
