-- `named`: a string, and its colon.
-- Assumes nothing.
use Rattle.std.proofs.Common.{sym, ◌∙◌}
use Rattle.json_import.proofs.Places.{err_out}
use Rattle.json_import.proofs.ValuePlaces.{no_quote, name_cut, colon_cut, name_done}
use Rattle.json_import.proofs.named.Goals as goal

pub returns-then-peek-ne34 : goal.returns-then-peek-ne34
returns-then-peek-ne34 c = no_quote c.requires.1 (λ z. c.if-peek-ne34.true (c.peek.ensures ∙ z))

pub returns-in_err-name : goal.returns-in_err-name
returns-in_err-name c = rw (err_out c.from_residual.ensures.1) (name_cut (sym c.peek.ensures ∙ c.if-peek-ne34.false) c.in_err-name.ensures)

pub returns-in_err-at : goal.returns-in_err-at
returns-in_err-at c = rw (err_out c.from_residual-in_err-at.ensures.1) (colon_cut c.requires.0 (sym c.peek.ensures ∙ c.if-peek-ne34.false) c.in_ok-name.ensures c.in_err-at.ensures)

pub returns : goal.returns
returns c = name_done c.requires.0 (sym c.peek.ensures ∙ c.if-peek-ne34.false) c.in_ok-name.ensures c.in_ok-at.ensures
