-- `lexemes::bytes::is_black` meets its contract: by the byte of ASCII, by the code point, and at the end.
-- Assumes nothing.
use mathlib.Core.Path.{sym, ◌∙◌, ap}
use mathlib.Core.Bool.{not}
use native.Mathlib.Omega.{arith}
use Rattle.std.proofs.lemmas.Bool.Decides.{nat_tests}
use Rattle.regexes.specs.Regex.{in_class, within}
use Rattle.lexemes.specs.Letters.{beyond, white_space}
use Rattle.lexemes.specs.Scan.{black}
use Rattle.lexemes.proofs.Letters.{letter-ascii, letter_high}
use Rattle.lexemes.proofs.Verbatim.{black_beyond, black_past}
use Rattle.lexemes.proofs.bytes.is_black.Goals as goal
use Rattle.lexemes.proofs.bytes.is_black.Goals.{in_default, in_default-2, in-9-to-13, in-9-to-13-2}

pub returns-then-src-i : goal.returns-then-src-i
returns-then-src-i c = black_past c.args.src.now c.args.i c.if-src-i.true

pub returns-then-a-lt128 : goal.returns-then-a-lt128
returns-then-a-lt128 c =
    rw (letter-ascii c.args.src.now c.args.i c.if-src-i.false c.if-a-lt128.true)
    (elim c.match-matches.branch [
      | in_default w ↦ grind (arith, nat_tests)
      | in_default-2 w ↦ grind (arith, nat_tests)
      | in-9-to-13 w ↦ grind (arith, nat_tests)
      | in-9-to-13-2 w ↦ grind (arith, nat_tests)
    ])

pub returns : goal.returns
unfolding beyond
returns c =
    let s = c.args.src.now in
    let b = c.peek-b.ensures in
    let d = c.peek-c.ensures in
    let e = c.peek-d.ensures in
    ap not (c.is_white.ensures ∙ ap (within white_space) (c.code_point.ensures ∙ cc))
    ∙ black_beyond _
    ∙ ap (in_class black) (sym (letter_high s c.args.i c.if-src-i.false c.if-a-lt128.false))
