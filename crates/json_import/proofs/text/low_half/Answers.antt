-- `low_half`: `\u`, a `D`, a digit from `C` to `F`, and two more; or the first byte that is another.
-- Assumes nothing.
use Rattle.std.proofs.Common.{sym, ◌∙◌}
use Rattle.json_import.proofs.Places.{err_out}
use Rattle.json_import.proofs.EscapePlaces.{high_first, high_second, high_third_none, high_third, high_fourth_none, high_fourth_low, high_on}
use Rattle.json_import.proofs.text.low_half.Goals as goal

pub returns-then-peek-ne92 : goal.returns-then-peek-ne92
returns-then-peek-ne92 c = high_first _ c.peek.ensures c.if-peek-ne92.true

pub returns-then-peek-ne117 : goal.returns-then-peek-ne117
returns-then-peek-ne117 c = high_second _ (sym c.peek.ensures ∙ c.if-peek-ne92.false) c.peek-2.ensures c.if-peek-ne117.true

pub returns-in_err-a : goal.returns-in_err-a
returns-in_err-a c = let k = c.in_err-a.ensures in
    rw (err_out c.from_residual.ensures.1, k.1) (high_third_none _ (sym c.peek.ensures ∙ c.if-peek-ne92.false) (sym c.peek-2.ensures ∙ c.if-peek-ne117.false) k.0)

pub returns-then-a-ne13 : goal.returns-then-a-ne13
returns-then-a-ne13 c = high_third _ (sym c.peek.ensures ∙ c.if-peek-ne92.false) (sym c.peek-2.ensures ∙ c.if-peek-ne117.false) c.in_ok-a.ensures.0 c.if-a-ne13.true

pub returns-in_err-b : goal.returns-in_err-b
returns-in_err-b c = let k = c.in_err-b.ensures in
    rw (err_out c.from_residual-in_err-b.ensures.1, k.1)
    (high_fourth_none _ (sym c.peek.ensures ∙ c.if-peek-ne92.false) (sym c.peek-2.ensures ∙ c.if-peek-ne117.false) c.in_ok-a.ensures.0 c.if-a-ne13.false k.0)

pub returns-then-b-lt12 : goal.returns-then-b-lt12
returns-then-b-lt12 c = high_fourth_low _ (sym c.peek.ensures ∙ c.if-peek-ne92.false) (sym c.peek-2.ensures ∙ c.if-peek-ne117.false) c.in_ok-a.ensures.0 c.if-a-ne13.false c.in_ok-b.ensures.0 c.if-b-lt12.true

pub returns : goal.returns
returns c = high_on _ (sym c.peek.ensures ∙ c.if-peek-ne92.false) (sym c.peek-2.ensures ∙ c.if-peek-ne117.false) c.in_ok-a.ensures.0 c.if-a-ne13.false c.in_ok-b.ensures.0 c.if-b-lt12.false c.in_ok-b.ensures.1 c.low_end.ensures
