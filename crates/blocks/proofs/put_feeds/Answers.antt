-- `blocks::put_feeds` meets its contract.
-- Assumes nothing.
use mathlib.Core.Path.{◌≡◌, refl, sym, ap, ◌∙◌}
use native.Mathlib.Omega.{arith}
use Prim.Native.Nat.{ℕ}
use lib.Seq.{sets}
use Rattle.blocks.specs.Inside.{feeds}
use Rattle.blocks.proofs.Places.{sets-beyond, fed_none, fed_more}
use Rattle.blocks.proofs.put_feeds.Goals.{then-at-out+else-loop-k-test, else-at-out}
use Rattle.blocks.proofs.put_feeds.Goals as goal

pub loop-k-init : goal.loop-k-init
loop-k-init c = fed_none

pub loop-k-preserved : goal.loop-k-preserved
loop-k-preserved c = fed_more c.loop-k.invariant c.put.ensures

pub returns : goal.returns
returns c = (
  elim c.if-at-out.branch [
    | then-at-out+else-loop-k-test w ↦
        let all : w.loop-k.k ≡ c.args.n = omega (arith, w.loop-k-test.false, w.loop-k.auto.k-end) in
        w.out-is ∙ w.loop-k.invariant.stored ∙ ap (λ (k : ℕ). sets c.args.out.now c.args.at (feeds k)) all
    | else-at-out w ↦ w.out-is ∙ sym (sets-beyond (feeds c.args.n) c.args.out.now c.args.at w.if-at-out.false)
  ],
  refl,
)
