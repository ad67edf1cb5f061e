use Rattle.std.proofs.Common.{length, ◌<◌, arith}
use Rattle.strings.specs.Literals.Verbatim.{end}
use Rattle.strings.proofs.Walk.{ended}
use Rattle.strings.proofs.Steps.{verbatim-plain, verbatim-two, verbatim_one}
use Rattle.strings.proofs.string.verbatim.Goals as goal
use Rattle.strings.proofs.string.verbatim.Goals.{then-b-quote+then-doubled, else-b-quote, else-b-quote-via-then-b-quote+else-doubled, else-b-quote-via-else-b-quote}

pub loop-at-preserved : goal.loop-at-preserved
loop-at-preserved c =
    let walk = c.loop-at.invariant in
    let more : c.loop-at.at < length c.args.s.now = omega (arith, c.loop-at-test.true) in
    elim c.if-b-quote.branch [
      | then-b-quote+then-doubled w ↦ rw w.at-is (verbatim-two walk more _ c.put.ensures w.if-b-quote.true (rw w.if-doubled.true at w.doubled.ensures))
      | else-b-quote w ↦ rw w.at-is (elim w.else-b-quote.branch [
        | else-b-quote-via-then-b-quote+else-doubled v ↦ verbatim_one walk more _ c.put.ensures v.if-b-quote.true (rw v.if-doubled.false at v.doubled.ensures)
        | else-b-quote-via-else-b-quote v ↦ verbatim-plain walk more _ c.put.ensures v.if-b-quote.false
      ])
    ]

pub returns : goal.returns
returns c = ended _ _ _ _ c.loop-at.invariant (omega arith) end
