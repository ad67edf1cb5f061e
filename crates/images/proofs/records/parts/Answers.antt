use Rattle.std.proofs.Common.{sym, ◌∙◌, refl, map}
use Rattle.grammar.specs.Layout.{numbers, codes, code}
use Rattle.grammar.specs.Laid.{part_of}
use Rattle.images.specs.Inner.{age_code}
use Rattle.images.proofs.CodeLaws.{is_old, is_not_old}
use Rattle.images.proofs.StepLaws.{row_old, row_plain}
use Rattle.images.proofs.records.parts.Goals as goal
use Rattle.images.proofs.records.parts.Goals.{else-tag-eq-INFIX-via-then-tag-eq-INFIX+else-eq, else-tag-eq-INFIX-via-else-tag-eq-INFIX}

pub returns-then-eq : goal.returns-then-eq
unfolding numbers codes code
returns-then-eq c = sym (row_old c.args.tag (age_code c.args.age) c.if-tag-eq-INFIX.true (is_old _ refl c.args.age (sym c.eq.ensures ∙ c.if-eq.true)))

pub returns-else-tag-eq-INFIX : goal.returns-else-tag-eq-INFIX
unfolding numbers
returns-else-tag-eq-INFIX c = sym (row_plain c.args.tag (age_code c.args.age) c.args.row.children (map part_of c.args.row.parts.now) (sym c.requires) (elim c.else-tag-eq-INFIX.branch [
  | else-tag-eq-INFIX-via-then-tag-eq-INFIX+else-eq w ↦ λ t k. is_not_old _ refl c.args.age (sym w.eq.ensures ∙ w.if-eq.false) k
  | else-tag-eq-INFIX-via-else-tag-eq-INFIX w ↦ λ t k. w.if-tag-eq-INFIX.false t
]))
