use Rattle.std.proofs.Common.{sym, ap, ◌∙◌}
use denote.Enum.Bare.{same_true, same_false}
use Rattle.images.specs.contracts.sorts.Sort.{the_type}
use Rattle.images.specs.declared.sorts.Sort.TheVariants.{CompMember}
use Rattle.images.specs.Inner.{sort_code}
use Rattle.images.proofs.RootLaws.{comp_group, each_group}
use Rattle.images.proofs.CodeLaws.{comp_code}
use Rattle.images.proofs.roots.Records.group.Goals as goal

pub returns-then-eq : goal.returns-then-eq
returns-then-eq c =
    let e = same_true the_type tt c.args.group.sort CompMember (sym c.eq.ensures ∙ c.if-eq.true) in
    (λ tags ch h. comp_group _ _ (ap sort_code e) (c.one_field.ensures.0 tags ch h), c.one_field.ensures.1)

pub returns : goal.returns
returns c =
    let n = same_false the_type c.args.group.sort CompMember (sym c.eq.ensures ∙ c.if-eq.false) in
    (λ tags ch h. each_group _ _ (λ e. n (comp_code c.args.group.sort e)) (c.each.ensures.0 tags ch h), c.each.ensures.1)
