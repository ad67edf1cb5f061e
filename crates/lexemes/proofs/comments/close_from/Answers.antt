-- `lexemes::comments::close_from` meets its contract.
-- Assumes nothing.
use native.Mathlib.Omega.{arith}
use Rattle.lexemes.proofs.Letters.{up, next-within}
use Rattle.lexemes.proofs.Slashes.{seek_start, seek_star, seek_slash, seek_other, seek_closed, seek_end}
use Rattle.lexemes.proofs.comments.close_from.Goals as goal
use Rattle.lexemes.proofs.comments.close_from.Goals.{in-42, in_default-2, in_default}

pub loop-i-init : goal.loop-i-init
loop-i-init c = (c.requires, seek_start)

pub returns-in-47 : goal.returns-in-47
returns-in-47 c = seek_closed c.loop-i.invariant.1 c.if-star.true c.in-47.is

pub loop-i-smaller : goal.loop-i-smaller
loop-i-smaller c = omega (arith, c.after-i.ensures, up c.args.src.now c.loop-i.i)

pub loop-i-preserved : goal.loop-i-preserved
loop-i-preserved c =
    let s = c.args.src.now in
    let i = c.loop-i.i in
    let m = c.loop-i.invariant.1 in (
      omega (arith, c.after-i.ensures, next-within s i c.loop-i-test.true),
      elim c.match-src-i.branch [
        | in-42 w ↦ rw w.star-is (seek_star m w.in-42.is c.after-i.ensures)
        | in_default-2 w ↦ rw w.star-is (seek_slash m w.if-star.false w.in-47.is c.after-i.ensures)
        | in_default w ↦ rw w.star-is (seek_other m c.loop-i-test.true ((λ z. omega (arith, z)), ((λ z. omega (arith, z)), tt)) c.after-i.ensures)
      ],
    )

pub returns : goal.returns
returns c = seek_end c.loop-i.invariant.1 c.loop-i-test.false
