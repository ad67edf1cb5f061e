use Rattle.std.proofs.Common.{◌≡◌, ◌∙◌, ℕ, not, eqb, length, rules, tests, arith}
use Rattle.std.proofs.lemmas.Iterator.{YieldsList-from_slice}
use Rattle.std.proofs.lemmas.Iterator.Search.{all_from_yields_List}
use Rattle.images.specs.Inner.{BACKWARD}
use Rattle.images.proofs.CodeLaws.{forward_all}
use Rattle.images.proofs.asks.forward.Goals as goal

pub returns : goal.returns
returns c =
    let six : length c.args.v ≡ 6 = omega arith in
    all_from_yields_List (λ (x : ℕ). not (eqb x BACKWARD)) _ _ _ c.all.ensures.ran (YieldsList-from_slice c.args.v cc) (λ x b q k. search (rules, tests)) ∙ forward_all c.args.v six
