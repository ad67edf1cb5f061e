-- `blocks::close` meets its contract.
-- Assumes nothing.
use mathlib.Core.Path.{◌≡◌, ◌∙◌, sym, ap}
use mathlib.Core.Bool.{Bool}
use Rattle.blocks.specs.Inside.{last_end, failing}
use Rattle.blocks.proofs.Places.{are_bars, no_bars}
use Rattle.blocks.proofs.Readings.{closed_by}
use Rattle.blocks.proofs.close.Goals.{then-dash, else-dash}
use Rattle.blocks.proofs.close.Goals as goal

pub returns-then-not-bars_at : goal.returns-then-not-bars_at
returns-then-not-bars_at c = rw c.at.ensures (failing (no_bars c.bars_at.ensures c.if-not-bars_at.true) c.eat_error.ensures)

pub returns : goal.returns
returns c =
    let last : c.if-dash.last ≡ last_end c.args.dash c.args.next =
    elim c.if-dash.branch [
      | then-dash w ↦ w.last-is ∙ sym (ap (λ (x : Bool). last_end x c.args.next) w.if-dash.true)
      | else-dash w ↦ w.last-is ∙ sym (ap (λ (x : Bool). last_end x c.args.next) w.if-dash.false)
    ] in
    closed_by {last = c.if-dash.last} (are_bars c.bars_at.ensures c.if-not-bars_at.false) last c.put_feeds-text.ensures.1 c.put_feeds-text.ensures.0
