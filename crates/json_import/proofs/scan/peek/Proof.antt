-- `peek` meets its contract.
-- Assumes nothing.
use mathlib.Core.Path.{sym}
use lib.ListN.{get_or-eq_default}
use borrow.Author.Rules.{rules}
use Rattle.json_import.proofs.scan.peek.Statement.{statement}
use Rattle.json_import.proofs.scan.peek.Tie as tie

shared_slice_read_result : tie.Need-bounds-text-at
shared_slice_read_result c = search rules

returns : tie.Need-returns-then-at-text
returns c = search rules

returns_2 : tie.Need-returns-else-at-text
returns_2 c = sym (get_or-eq_default c.args.text.now 0 c.if-at-text.false)

pub peek_spec : {M : Type 1} → statement M
peek_spec = tie.close (tie.spec shared_slice_read_result returns returns_2)
