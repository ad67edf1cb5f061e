-- `lexemes::kept::next_kept` meets its contract.
-- Assumes nothing.
use mathlib.Core.Path.{sym, ◌∙◌, ap}
use Prim.Native.Nat.{◌+◌}
use native.Mathlib.Omega.{arith}
use lib.ListN.{get_or}
use borrow.Author.Rules.{rules}
use denote.Enum.Bare.{same_true}
use Rattle.lexemes.specs.Scan.{class_number}
use Rattle.lexemes.specs.contracts.bytes.Class.{the_type}
use Rattle.lexemes.specs.declared.bytes.Class.TheVariants.{Blank}
use Rattle.lexemes.proofs.Laws.{lexeme_bounds}
use Rattle.lexemes.proofs.KeptLaws.{skip_on, skip_found, skip_end, blank_lexeme, blank_dropped, alone_lexeme, alone_kept}
use Rattle.lexemes.proofs.kept.next_kept.Goals as goal

-- An operator of one byte is kept.
pub returns-in-Some : goal.returns-in-Some
returns-in-Some c =
    let alone = c.in-Some.ensures (get_or c.args.src.now (c.loop-i.i + 1) 0) in
    skip_found c.loop-i.invariant c.loop-i-test.true (alone_lexeme c.loop-i-test.true alone) (alone_kept alone)

-- Blanks are dropped.
pub loop-i-preserved-then-eq : goal.loop-i-preserved-then-eq
loop-i-preserved-then-eq c =
    let blank = ap class_number (same_true the_type (search rules) c.class_by-class.result Blank (sym c.if-eq.ensures)) in
    skip_on c.loop-i.invariant c.loop-i-test.true (blank_lexeme c.loop-i-test.true (sym c.class_by-class.ensures ∙ blank) c.blanks-i.ensures) blank_dropped

pub returns-then-not-is_dropped : goal.returns-then-not-is_dropped
returns-then-not-is_dropped c = skip_found c.loop-i.invariant c.loop-i-test.true c.lexeme_of-l.ensures (sym c.is_dropped.ensures ∙ c.if-not-is_dropped.true)

pub loop-i-smaller : goal.loop-i-smaller
loop-i-smaller c = omega (arith, c.loop-i-test.true, (lexeme_bounds c.args.src.now c.loop-i-test.true c.lexeme_of-l.ensures).1)

pub loop-i-preserved : goal.loop-i-preserved
loop-i-preserved c = skip_on c.loop-i.invariant c.loop-i-test.true c.lexeme_of-l.ensures (sym c.is_dropped.ensures ∙ c.if-not-is_dropped.false)

pub returns : goal.returns
returns c = skip_end c.loop-i.invariant c.loop-i-test.false
