use Rattle.std.proofs.Common.{arith, sym, ◌∙◌}
use Rattle.blocks.specs.Inside.{fails}
use Rattle.images.proofs.TextLaws.{no_name, first-letter, name_told, no_word, is_so, is_not}
use mathlib.Core.Path.{◌≡◌}
use Prim.Native.Nat.{◌-◌}
use lib.ListN.{length, take, drop}
use Rattle.std.specs.List.{list_all}
use Rattle.regexes.specs.Regex.{in_class}
use Rattle.lexemes.specs.Rules.{alnum}
use Rattle.images.proofs.texts.is_name.Goals as goal
use Rattle.images.proofs.texts.is_name.Goals.{then-is_alpha, else-is_alpha}

pub returns-in-empty : goal.returns-in-empty
returns-in-empty c = fails (no_name c.args.text.now (omega arith))

pub returns-then-is_word : goal.returns-then-is_word
returns-then-is_word c = elim c.if-is_alpha.branch [
  | then-is_alpha w ↦ name_told c.args.text.now c.in-len1-up.len_at_least (is_so c.is_alpha.ensures w.if-is_alpha.true) (let e : list_all (in_class alnum) (take (length c.args.text.now - 1) (drop 1 c.args.text.now)) ≡ w.is_word.result = grind (arith, w.is_word.ensures) in e ∙ sym w.value-is ∙ c.if-is_word.true) c.is_keyword.ensures
  | else-is_alpha w ↦ cc
]

pub returns-else-is_word : goal.returns-else-is_word
returns-else-is_word c = rw c.if-is_word.false (elim c.if-is_alpha.branch [
  | then-is_alpha w ↦ fails (no_word c.args.text.now c.in-len1-up.len_at_least (let e : list_all (in_class alnum) (take (length c.args.text.now - 1) (drop 1 c.args.text.now)) ≡ w.is_word.result = grind (arith, w.is_word.ensures) in e ∙ sym w.value-is ∙ c.if-is_word.false))
  | else-is_alpha w ↦ fails (λ n. is_not c.is_alpha.ensures w.if-is_alpha.false (first-letter c.args.text.now n))
])
