-- `digit_at`: the value, or that there is none.
-- Assumes nothing.
use Rattle.std.proofs.Common.{refl, sym, ap, ◌∙◌}
use Rattle.json_import.specs.Machine.{hex}
use Rattle.json_import.proofs.EscapePlaces.{digit-hex, digit-none}
use Rattle.json_import.proofs.text.digit_at.Goals as goal

pub returns-in-Some : goal.returns-in-Some
returns-in-Some c = let d = digit-hex c.in-Some.ensures in (d.0 ∙ ap hex c.peek.ensures, d.1)

pub returns-in-None : goal.returns-in-None
returns-in-None c = (sym (ap hex c.peek.ensures) ∙ digit-none c.in-None.ensures, refl)
