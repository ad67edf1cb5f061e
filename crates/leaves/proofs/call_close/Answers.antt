-- `call_close` meets its contract: `)`, perhaps `tailstrict`, and one record over what is called and the arguments.
-- Assumes nothing.
use Rattle.grammar.specs.Image.{entry, payload}
use Rattle.grammar.specs.Productions.{◌▸◌, call_end, eat, goto}
use Rattle.leaves.proofs.LeafLaws.{ate_stands, few, fits}
use Rattle.leaves.proofs.LeafRules.{call_closes, not_strict, strict}
use Rattle.leaves.proofs.LexemeLaws.{lies}
use lib.Dec.{lit<}
use mathlib.Core.Path.{refl}
use native.Mathlib.Omega.{arith}
use Rattle.leaves.proofs.Steps
use Rattle.leaves.proofs.call_close.Goals as goal

pub returns-in_err-c1 : goal.returns-in_err-c1
returns-in_err-c1 c =
    let call = call_end c.args.from c.args.unnamed c.args.named in
    record {
      tells = λ g d n.
          Steps.passed_telling (Steps.eats_broken c.eat.ensures c.in_err-c1.was (Steps.handed c.from_residual.ensures))
          (Steps.known (eat 26 ▸ goto call) c.requires.0.stands refl (λ xs t. call_closes g c.args.c xs n c.args.from c.args.unnamed c.args.named c.args.c.kind t) Steps.here);
    }

pub eat_any-requires : goal.eat_any-requires
eat_any-requires c =
    ate_stands c.requires.0.stands c.eat.ensures c.in_ok-c1.was

pub returns-then-c1-eq-TAILSTRICT_KW : goal.returns-then-c1-eq-TAILSTRICT_KW
unfolding entry payload
returns-then-c1-eq-TAILSTRICT_KW c =
    let call = call_end c.args.from c.args.unnamed c.args.named in
    let st = ate_stands c.requires.0.stands c.eat.ensures c.in_ok-c1.was in
    record {
      tells = λ g d n.
          let opened = Steps.known (eat 26 ▸ goto call) c.requires.0.stands refl (λ xs t. call_closes g c.args.c xs n c.args.from c.args.unnamed c.args.named c.args.c.kind t) Steps.here in
          let closed = Steps.ate c.eat.ensures c.in_ok-c1.was opened in
          let tail = Steps.known _ st c.if-c1-eq-TAILSTRICT_KW.true (λ xs t. strict g _ xs n c.args.from c.args.unnamed c.args.named t) closed in
          Steps.says_on (omega arith) (omega arith) (Steps.closed 12 (omega arith) c.put_call-w2.ensures (Steps.taken (lit< tt) st c.eat_any.ensures c.if-c1-eq-TAILSTRICT_KW.true tail));
    }

pub returns : goal.returns
unfolding entry payload
returns c =
    let call = call_end c.args.from c.args.unnamed c.args.named in
    let st = ate_stands c.requires.0.stands c.eat.ensures c.in_ok-c1.was in
    record {
      tells = λ g d n.
          let opened = Steps.known (eat 26 ▸ goto call) c.requires.0.stands refl (λ xs t. call_closes g c.args.c xs n c.args.from c.args.unnamed c.args.named c.args.c.kind t) Steps.here in
          let closed = Steps.ate c.eat.ensures c.in_ok-c1.was opened in
          let tail = Steps.known _ st refl (λ xs t. not_strict g _ xs n c.args.from c.args.unnamed c.args.named _ t c.if-c1-eq-TAILSTRICT_KW.false) closed in
          Steps.says_on (omega arith) (omega arith) (Steps.closed 12 (omega arith) c.put_call-w2-2.ensures tail);
    }
