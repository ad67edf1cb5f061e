use Rattle.std.proofs.Common.{arith, refl}
use Rattle.grammar.specs.Layout.{code}
use Rattle.images.specs.Inner.{Lacks, limit, told_by}
use Rattle.images.proofs.PartWalk.{lacks_part, gets_part, lacks_byte, has_byte, get_span, get_text, get_count, below_limit, below_told}
use Rattle.images.proofs.parts.get.Goals as goal
use Rattle.images.proofs.parts.get.Goals.{in-Span+else-left-lt4, in-Text, in-Count+else-left-lt2, in-Has+in_ok-b-in-Has, in-Bits+in_ok-b-in-Bits, in-Below+in_ok-byte_below-in-Below}

pub returns-then-left-lt4 : goal.returns-then-left-lt4
unfolding code
returns-then-left-lt4 c = lacks_part c.in-Span.is (Lacks.no_span (omega arith))

pub returns-then-left-lt2 : goal.returns-then-left-lt2
unfolding code
returns-then-left-lt2 c = lacks_part c.in-Count.is (Lacks.no_count (omega arith))

pub returns-in_err-b-in-Has : goal.returns-in_err-b-in-Has
unfolding code limit
returns-in_err-b-in-Has c = rw c.from_residual.ensures (lacks_part c.in-Has.is (lacks_byte (omega arith) refl c.in_err-b-in-Has.ensures))

pub returns-in_err-b-in-Bits : goal.returns-in_err-b-in-Bits
unfolding code limit
returns-in_err-b-in-Bits c = rw c.from_residual-in_err-b-in-Bits.ensures (lacks_part c.in-Bits.is (lacks_byte (omega arith) refl c.in_err-b-in-Bits.ensures))

pub returns-in_err-byte_below-in-Below : goal.returns-in_err-byte_below-in-Below
unfolding code
returns-in_err-byte_below-in-Below c =
    rw c.from_residual-in_err-byte_below-in-Below.ensures (lacks_part c.in-Below.is (lacks_byte (omega arith) (below_limit c.in-Below.limit) (rw c.from.ensures at c.in_err-byte_below-in-Below.ensures)))

pub returns : goal.returns
unfolding code limit told_by
returns c = elim c.match-part.branch [
  | in-Span+else-left-lt4 w ↦ rw w.size-is (gets_part w.in-Span.is (get_span (omega arith) w.span.ensures), omega arith)
  | in-Text w ↦ rw w.size-is (gets_part w.in-Text.is (get_text c.requires.0), omega arith)
  | in-Count+else-left-lt2 w ↦ rw w.size-is (gets_part w.in-Count.is (get_count (omega arith) w.number-n.ensures.value), w.number-n.ensures.small)
  | in-Has+in_ok-b-in-Has w ↦ rw w.size-is (gets_part w.in-Has.is (has_byte (omega arith) refl w.in_ok-b-in-Has.ensures refl), omega (arith, w.in_ok-b-in-Has.ensures.3))
  | in-Bits+in_ok-b-in-Bits w ↦ rw w.size-is (gets_part w.in-Bits.is (has_byte (omega arith) refl w.in_ok-b-in-Bits.ensures w.bits.ensures.value), omega (arith, w.bits.ensures.few))
  | in-Below+in_ok-byte_below-in-Below w ↦ rw w.size-is
      (gets_part w.in-Below.is (has_byte (omega arith) (below_limit w.in-Below.limit) (rw w.from.ensures at w.in_ok-byte_below-in-Below.ensures) (below_told w.in-Below.limit _)), omega arith)
]
