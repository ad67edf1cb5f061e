-- `lexemes::comments::comment_at` meets its contract: a whole comment, one with no closing, one too short, division.
-- Assumes nothing.
use mathlib.Core.Path.{sym, ◌∙◌}
use Rattle.lexemes.proofs.Slashes.{closed_scanned, open_scanned, short_scanned, div_star}
use Rattle.lexemes.proofs.comments.comment_at.Goals as goal

pub returns-in-Some : goal.returns-in-Some
returns-in-Some c = closed_scanned c.args.src.now c.args.at c.requires.1 c.requires.2 c.in-Some.ensures

pub returns-then-at-open : goal.returns-then-at-open
returns-then-at-open c = open_scanned c.args.src.now c.args.at c.requires.1 c.requires.2 c.in_default.ensures c.if-at-open.true c.open_from-open.ensures

pub returns-then-peek-eq47 : goal.returns-then-peek-eq47
returns-then-peek-eq47 c = short_scanned c.args.src.now c.args.at c.requires.1 c.requires.2 c.in_default.ensures (sym c.peek.ensures ∙ c.if-peek-eq47.true)

pub returns : goal.returns
returns c =
    div_star c.args.src.now c.args.at c.requires.1 c.requires.2 c.in_default.ensures c.if-at-open.false c.open_from-open.ensures
    (λ e. c.if-peek-eq47.false (c.peek.ensures ∙ e))
