-- `parser::eat` meets its contract.
-- Assumes nothing.
use mathlib.Core.Path.{sym, ◌∙◌}
use native.Mathlib.Omega.{arith}
use borrow.Author.Rules.{rules}
use Rattle.leaves.proofs.Steps
use Rattle.leaves.proofs.parser.eat.Statement.{statement}
use Rattle.leaves.proofs.parser.eat.Tie as tie

eat_any_requires : tie.Need-eat_any-requires
eat_any_requires c κs = search rules

returns : tie.Need-returns-then-c-kind
returns c =
    let pre' = c.requires in
    let eat-any' = c.eat_any in
    let if1' = c.if-c-kind in
    let args' = c.args in
    record {
      eats = λ g d o. record { takes = λ b n. Steps.ends (omega arith) (Steps.count_is (omega arith) (Steps.taken pre'.0 pre'.1 eat-any'.ensures if1'.true Steps.here)) };
      moved = λ c₁ w₁ j q. Steps.moved_to args'.c q (Steps.beyond (omega (arith, pre'.0, if1'.true)) pre'.1 eat-any'.ensures) eat-any'.ensures.at;
    }

error_requires : tie.Need-error-requires
error_requires c κs = search rules

returns_2 : tie.Need-returns
returns_2 c =
    let pre' = c.requires in
    let if1' = c.if-c-kind in
    let error' = c.error in
    record {
      eats = λ g d o. record { takes = λ b n. Steps.broke (Steps.misses pre'.1 if1'.false Steps.here) error'.ensures };
      moved = λ c₁ w₁ j q. absurd (Steps.not_done (sym error'.ensures ∙ q));
    }

pub eat_spec : {M : Type 1} → statement M
eat_spec = tie.close (tie.spec eat_any_requires returns error_requires returns_2)
