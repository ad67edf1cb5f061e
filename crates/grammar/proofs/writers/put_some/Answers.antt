use Rattle.std.proofs.Common.{refl, ap, ◌∙◌}
use Rattle.std.proofs.lemmas.List.Edits.{sets}
use lib.Seq.{take_all}
use Rattle.grammar.proofs.WritingLaws.{copied, full}
use Rattle.grammar.proofs.writers.put_some.Goals as goal

pub returns-then-out-w : goal.returns-then-out-w
returns-then-out-w c = record { to = refl; stored = full c.args.out.now c.args.w c.args.s.now c.if-out-w.true }

pub loop-i-init : goal.loop-i-init
loop-i-init c = refl

pub loop-i-preserved : goal.loop-i-preserved
loop-i-preserved c = c.put.ensures ∙ copied _ _ _ _ _ c.loop-i-test.true c.loop-i.invariant

pub returns : goal.returns
returns c =
    record { to = refl; stored = c.loop-i.invariant ∙ ap (λ l. sets c.args.out.now c.args.w l) (take_all _ _ c.loop-i-test.false) }
