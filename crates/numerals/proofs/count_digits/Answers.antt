use Rattle.std.proofs.Common.{◌≡◌, ◌∙◌, rules}
use Rattle.std.specs.Prelude.{count_by}
use Rattle.std.specs.Char.{is_ascii_digit}
use Rattle.numerals.proofs.Scans.{counted}
use Rattle.numerals.proofs.count_digits.Goals as goal

pub returns : goal.returns
returns c =
    let n : c.count.result ≡ count_by is_ascii_digit c.args.text.now = search rules in
    n ∙ counted c.args.text.now
