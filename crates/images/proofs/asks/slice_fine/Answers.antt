use Rattle.std.proofs.Common.{sym, ◌∙◌}
use Rattle.images.proofs.CodeLaws.{slice_first, slice_second, slice_third}
use Rattle.images.proofs.asks.slice_fine.Goals as goal
use Rattle.images.proofs.asks.slice_fine.Goals.{then-unless, else-unless}

pub returns-then-unless-2 : goal.returns-then-unless-2
returns-then-unless-2 c =
    elim c.if-unless.branch [
      | then-unless w ↦ c.unless-then-unless-2.ensures ∙ slice_third c.args.b c.args.x c.args.y c.args.z (sym c.unless.ensures ∙ w.if-unless.true) (sym w.unless-then-unless.ensures ∙ sym w.value-is ∙ c.if-unless-2.true)
      | else-unless w ↦ cc
    ]

pub returns-else-unless-2 : goal.returns-else-unless-2
returns-else-unless-2 c =
    elim c.if-unless.branch [
      | then-unless w ↦ c.if-unless-2.false ∙ slice_second c.args.b c.args.x c.args.y c.args.z (sym c.unless.ensures ∙ w.if-unless.true) (sym w.unless-then-unless.ensures ∙ sym w.value-is ∙ c.if-unless-2.false)
      | else-unless w ↦ c.if-unless-2.false ∙ slice_first c.args.b c.args.x c.args.y c.args.z (sym c.unless.ensures ∙ w.if-unless.false)
    ]
