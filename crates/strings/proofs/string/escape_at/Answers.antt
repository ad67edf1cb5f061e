-- By the byte after the backslash.
use Rattle.std.proofs.Common.{◌∙◌, arith}
use Rattle.strings.proofs.Escapes.{first_in, no_escape_end, escape_at, letter_is, no_escape}
use Rattle.strings.proofs.string.escape_at.Goals as goal

pub returns-in_err-l : goal.returns-in_err-l
returns-in_err-l c = rw c.from_residual.ensures (no_escape_end _ _ c.in_err-l.ensures.lookup.3)

pub returns-in_err-letter-in_default : goal.returns-in_err-letter-in_default
returns-in_err-letter-in_default c =
    let at = c.args in
    let l = c.in_ok-l.ensures.lookup.3.1 0 ∙ first_in at.s.now at.i in
    rw c.from_residual-in_err-letter-in_default.ensures
    (no_escape _ (rw l at c.in_err-letter-in_default.ensures) (λ e. omega arith) (λ e. omega arith))

pub returns-in_ok-letter-in_default : goal.returns-in_ok-letter-in_default
returns-in_ok-letter-in_default c =
    let at = c.args in
    let l = c.in_ok-l.ensures.lookup.3.1 0 ∙ first_in at.s.now at.i in
    escape_at at.s.now at.i 1 c.requires (omega arith) (letter_is _ (rw l at c.in_ok-letter-in_default.ensures))
