-- `array_pattern_close` meets its contract: `]`, and one record over all patterns, which owes the bytes of the rest's name.
-- Assumes nothing.
use Prim.Native.Nat.{◌+◌, ◌-◌, ℕ}
use Rattle.grammar.specs.Image.{entry, payload}
use Rattle.grammar.specs.Productions.{◌▸◌, close, eat, end}
use Rattle.grammar.specs.Trees.{byte, number, text}
use Rattle.leaves.proofs.LeafLaws.{few, fits}
use Rattle.leaves.proofs.LeafRules.{array_pattern_closes}
use Rattle.leaves.proofs.PartLaws.{lent_short, wrote_lent}
use lib.Seq.{length-slice, slice}
use mathlib.Core.List.{List, [], ◌∷◌}
use mathlib.Core.Path.{refl}
use native.Mathlib.Omega.{arith}
use Rattle.leaves.proofs.Steps
use Rattle.leaves.proofs.array_pattern_close.Goals as goal

pub returns-in_err-c1 : goal.returns-in_err-c1
returns-in_err-c1 c =
    let src = c.args.src.now in
    let name = slice c.args.name.start c.args.name.end src in
    let body = eat 24 ▸ close 27 (number c.args.n ∷ byte c.args.rest ∷ number c.args.m ∷ text name ∷ []) ▸ end in
    record {
      ends = λ g d.
          Steps.passed (Steps.eats_broken c.eat.ensures c.in_err-c1.was (Steps.handed c.from_residual.ensures))
          (Steps.known body c.requires.0.stands refl (λ xs t. array_pattern_closes g c.args.c xs c.args.n c.args.m c.args.rest name c.args.c.kind t) Steps.here);
    }

pub returns : goal.returns
unfolding entry payload
returns c =
    let src = c.args.src.now in
    let name = slice c.args.name.start c.args.name.end src in
    let body = eat 24 ▸ close 27 (number c.args.n ∷ byte c.args.rest ∷ number c.args.m ∷ text name ∷ []) ▸ end in
    let size = length-slice c.args.name.start c.args.name.end src c.requires.4 in
    let written = wrote_lent 27 (λ (l : List ℕ). number c.args.n ∷ byte c.args.rest ∷ number c.args.m ∷ text l ∷ []) src c.args.name.start c.args.name.end c.put_array_pattern-w2.ensures in
    record {
      ends = λ g d.
          let there = Steps.known body c.requires.0.stands refl (λ xs t. array_pattern_closes g c.args.c xs c.args.n c.args.m c.args.rest name c.args.c.kind t) Steps.here in
          Steps.owes (omega arith)
          (Steps.closed (8 + (c.args.name.end - c.args.name.start)) (omega (arith, size)) written (Steps.ate c.eat.ensures c.in_ok-c1.was there));
    }
