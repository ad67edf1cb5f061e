use Rattle.std.proofs.Common.{refl, ap, ◌∙◌}
use Rattle.std.proofs.lemmas.List.Edits.{sets}
use lib.Seq.{take_all}
use Rattle.grammar.proofs.WritingLaws.{copied}
use Rattle.grammar.proofs.writers.put_text.Goals as goal

pub loop-i-init : goal.loop-i-init
loop-i-init c = refl

pub loop-i-preserved : goal.loop-i-preserved
loop-i-preserved c = copied _ _ _ _ _ c.loop-i-test.true c.loop-i.invariant

pub returns : goal.returns
returns c =
    record { to = refl; stored = c.loop-i.invariant ∙ ap (λ l. sets c.args.out.now c.args.w l) (take_all _ _ c.loop-i-test.false) }
