-- `blocks::skip_dash` meets its contract.
-- Assumes nothing.
use Rattle.blocks.proofs.Places.{dashed_there, dashed_other, dashed_end}
use Rattle.blocks.proofs.skip_dash.Goals.{else-at-source-via-then-at-source+else-source-at-eq45, else-at-source-via-else-at-source}
use Rattle.blocks.proofs.skip_dash.Goals as goal

pub returns-then-source-at-eq45 : goal.returns-then-source-at-eq45
returns-then-source-at-eq45 c = dashed_there _ _ c.if-at-source.true c.if-source-at-eq45.true

pub returns-else-at-source : goal.returns-else-at-source
returns-else-at-source c =
    elim c.else-at-source.branch [
      | else-at-source-via-then-at-source+else-source-at-eq45 w ↦ dashed_other _ _ w.if-at-source.true w.if-source-at-eq45.false
      | else-at-source-via-else-at-source w ↦ dashed_end _ _ c.requires w.if-at-source.false
    ]
