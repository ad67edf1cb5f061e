-- `lexemes::bytes::is_blank` meets its contract, arm by arm.
-- Assumes nothing.
use mathlib.Core.Path.{ap}
use Rattle.lexemes.specs.Scan.{class_of, ascii_class}
use Rattle.lexemes.proofs.Classes.{no_blank}
use Rattle.lexemes.proofs.bytes.is_blank.Statement.{statement}
use Rattle.lexemes.proofs.bytes.is_blank.Tie as tie

returns : tie.Need-returns-in-32
unfolding class_of ascii_class
returns c = ap class_of c.in-32.is

returns_2 : tie.Need-returns-in-9
unfolding class_of ascii_class
returns_2 c = ap class_of c.in-9.is

returns_3 : tie.Need-returns-in-10
unfolding class_of ascii_class
returns_3 c = ap class_of c.in-10.is

returns_4 : tie.Need-returns-in-13
unfolding class_of ascii_class
returns_4 c = ap class_of c.in-13.is

returns_5 : tie.Need-returns-in_default
returns_5 c =
    let args = c.args in
    let fits = c.ranges in
    let match = c.in_default.in_default-own in
    no_blank args.b fits.b.fits match.rest

pub is_blank_spec : {M : Type 1} → statement M
is_blank_spec = tie.close (tie.spec returns returns_2 returns_3 returns_4 returns_5)
