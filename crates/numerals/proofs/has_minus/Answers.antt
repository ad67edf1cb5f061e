use Rattle.std.proofs.Common.{ℕ, ◌∙◌, sym, ap, length}
use lib.Dec.{ltb}
use Rattle.std.proofs.Common.{length-take-le}
use Rattle.numerals.proofs.Scans.{has-before}
use Rattle.numerals.proofs.has_minus.Goals as goal

pub returns : goal.returns
returns c =
    let text = c.args.text.now in
    let found = c.find.ensures in
    let front = sym (ap length found.front) ∙ length-take-le c.find.result text found.within in
    sym (has-before 45 text ∙ ap (λ (n : ℕ). ltb n (length text)) front)
