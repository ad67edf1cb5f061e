use Rattle.std.proofs.Common.{◌-◌, length, drop, length-drop, ap, ◌∙◌, arith}
use lib.Seq.{take_all}
use Rattle.numerals.specs.Value.{digits}
use Rattle.numerals.proofs.Scans.{drop_past}
use Rattle.numerals.proofs.count_places.Goals as goal

pub returns : goal.returns
returns c =
    let m = c.args.mantissa.now in
    let p = c.past-from.result in
    let all = take_all (length m - p) (drop p m) (omega (arith, length-drop p m)) in
    c.count_digits.ensures ∙ ap digits (all ∙ drop_past m c.find.ensures c.past-from.ensures)
