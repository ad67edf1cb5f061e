-- `blocks::skip` meets its contract, for each p that says what the test answers.
-- Assumes nothing.
use mathlib.Core.Path.{sym, ◌∙◌}
use mathlib.Core.Bool.{true, false, true≢false}
use native.Mathlib.Omega.{arith}
use Rattle.blocks.proofs.Runs.{passed_stop, passed_end}
use Rattle.blocks.proofs.skip.Goals as goal

pub returns-then-not-passes : goal.returns-then-not-passes
returns-then-not-passes g c = record {
  bounds = (omega arith, omega arith);
  run = λ p h.
      passed_stop (record { on = omega arith; within = omega arith; all = λ k l m. sym (h _ true (c.loop-i.invariant k m l)) })
      (λ e. true≢false (sym e ∙ sym (h _ false c.if-not-passes.ensures)));
}

pub returns : goal.returns
returns g c = record {
  bounds = (c.requires.inside, omega arith);
  run = λ p h.
      passed_end (record { on = c.requires.inside; within = omega arith; all = λ k l m. sym (h _ true (c.loop-i.invariant k m (omega (arith, c.loop-i-test.false)))) })
      (omega arith);
}
