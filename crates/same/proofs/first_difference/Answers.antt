-- What the code finds of two lexemes is what the laws of PartingLaws ask.
use Rattle.std.proofs.Common.{arith}
use Rattle.lexemes.proofs.KeptLaws.{next_bounds}
use Rattle.same.proofs.PartingLaws.{begun, lies, parted, over, along}
use Rattle.same.proofs.first_difference.Goals as goal

pub same_lexeme-requires : goal.same_lexeme-requires
same_lexeme-requires c =
    let l = lies c.loop-l.invariant.left c.next_kept-l.ensures in
    let m = lies c.loop-l.invariant.right c.next_kept-m.ensures in
    (l.1, l.2, m.1, m.2)

pub loop-l-init : goal.loop-l-init
loop-l-init c = begun

pub returns-then-not-same_lexeme : goal.returns-then-not-same_lexeme
returns-then-not-same_lexeme c =
    parted c.loop-l.invariant c.next_kept-l.ensures c.next_kept-m.ensures c.if-not-same_lexeme.ensures

pub returns-then-l-eq-EOF : goal.returns-then-l-eq-EOF
returns-then-l-eq-EOF c =
    over c.loop-l.invariant c.next_kept-l.ensures c.next_kept-m.ensures c.if-not-same_lexeme.ensures c.if-l-eq-EOF.true

pub loop-l-smaller : goal.loop-l-smaller
loop-l-smaller c = omega (arith, next_bounds c.next_kept-l.ensures c.if-l-eq-EOF.false)

pub loop-l-preserved : goal.loop-l-preserved
loop-l-preserved c =
    along c.loop-l.invariant c.next_kept-l.ensures c.next_kept-m.ensures c.if-not-same_lexeme.ensures c.if-l-eq-EOF.false
