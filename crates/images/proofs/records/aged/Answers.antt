use Rattle.std.proofs.Common.{ap, ◌∙◌, Some}
use Rattle.images.specs.declared.records.Age.{Age}
use Rattle.images.specs.Inner.{age_code}
use Rattle.images.proofs.CodeLaws.{dates_other, aged_or, old_size, new_size}
use Rattle.images.proofs.records.aged.Goals as goal
use Rattle.images.proofs.records.aged.Goals.{then-size-eq1, else-size-eq1}

pub returns-then-tag-ne-INFIX : goal.returns-then-tag-ne-INFIX
returns-then-tag-ne-INFIX c = dates_other c.args.tag c.args.size (age_code c.args.age) c.if-tag-ne-INFIX.true

pub returns : goal.returns
returns c =
    ap age_code c.or.ensures ∙ aged_or c.args.tag c.args.size c.args.age c.if-size-eq1.or c.if-tag-ne-INFIX.false (elim c.if-size-eq1.branch [
      | then-size-eq1 w ↦ ap (λ (a : Age). age_code (Some a)) w.or-is ∙ old_size c.args.size w.if-size-eq1.true
      | else-size-eq1 w ↦ ap (λ (a : Age). age_code (Some a)) w.or-is ∙ new_size c.args.size w.if-size-eq1.false
    ])
