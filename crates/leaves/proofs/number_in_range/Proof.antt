-- `number_in_range` meets its contract: the literal without underscores, written before its head.
-- Assumes nothing.
use borrow.Author.Rules.{rules}
use Prim.Native.Nat.{◌-◌, ◌<◌, ℕ}
use Rattle.grammar.specs.Productions.{◌▸◌, end, leaf}
use Rattle.grammar.specs.Trees.{text}
use Rattle.leaves.proofs.LeafLaws.{any_size, bytes_short, fits}
use Rattle.leaves.proofs.LeafRules.{a_number}
use Rattle.leaves.proofs.LexemeLaws.{lies}
use Rattle.leaves.proofs.PartLaws.{lent, sets-rest, text_wrote}
use Rattle.leaves.proofs.TextLaws.{meaning, means_short}
use lib.Dec.{lit<}
use lib.ListN.{drop, length, take}
use lib.Seq.{sets, slice}
use mathlib.Core.List.{List, [], ◌∷◌}
use mathlib.Core.Logic.{inl, inr, ⊎_elim}
use mathlib.Core.Path.{◌∙◌, ap}
use native.Mathlib.Omega.{arith}
use Rattle.leaves.proofs.Steps
use Rattle.grammar.specs.Says.{number as means-number}
use Rattle.lexemes.specs.Texts.{plain}
use Rattle.leaves.proofs.number_in_range.Statement.{statement}
use Rattle.leaves.proofs.number_in_range.Tie as tie

add_least : tie.Need-overflow_add-w
add_least c = search rules

least_requires : tie.Need-least-from-requires
least_requires c κs = search rules

cast_plain : tie.Need-overflow_cast-start
cast_plain c = search rules

cast_plain_2 : tie.Need-overflow_cast-end
cast_plain_2 c = search rules

sub_plain : tie.Need-slice_bounds-plain-count
sub_plain c =
    let pre' = c.requires in
    let st = pre'.0.stands in
    (lies st).on

part-plain-start : tie.Need-slice_bounds-plain-start
part-plain-start c =
    let pre' = c.requires in
    let st = pre'.0.stands in
    (lies st).on

part_plain_end : tie.Need-slice_bounds-plain-end
part_plain_end c =
    let pre' = c.requires in
    let st = pre'.0.stands in
    (lies st).within

sub_plain_2 : tie.Need-slice_bounds-plain-count-2
sub_plain_2 c = search rules

part_plain_start_2 : tie.Need-slice_bounds-plain-start-2
part_plain_start_2 c = search rules

part_plain_end_2 : tie.Need-slice_bounds-plain-end-2
part_plain_end_2 c = search rules

plain_requires : tie.Need-plain-n-requires
plain_requires c κs =
    let pre' = c.requires in
    omega (arith, bytes_short pre'.0)

put_head_requires : tie.Need-put_head-w1-requires
put_head_requires c κs =
    let args' = c.args in
    let plain' = c.plain-n in
    let pre' = c.requires in
    let src = args'.src.now in
    let same = ap plain (lent args'.c.start args'.c.end src) in
    let count = plain'.ensures.0 ∙ ap length same in
    let digits = plain (slice args'.c.start args'.c.end src) in
    let st = pre'.0.stands in
    let short = means_short {t = digits} st pre'.1 (means-number pre'.2) in
    (omega (arith, fits pre'.0), omega (arith, count, short, (lies st).within, pre'.0.stands.short))

eat_any_requires : tie.Need-eat_any-requires
eat_any_requires c κs = search rules

add_t10 : tie.Need-overflow_add-result
add_t10 c =
    let args' = c.args in
    let plain' = c.plain-n in
    let pre' = c.requires in
    let put-head' = c.put_head-w1 in
    let src = args'.src.now in
    let same = ap plain (lent args'.c.start args'.c.end src) in
    let count = plain'.ensures.0 ∙ ap length same in
    let digits = plain (slice args'.c.start args'.c.end src) in
    let st = pre'.0.stands in
    let short = means_short {t = digits} st pre'.1 (means-number pre'.2) in
    omega (arith, count, short, (lies st).within, pre'.0.stands.short, fits pre'.0, put-head'.ensures.to)

same_length : tie.Need-shape_of-out
same_length c = search rules

returns : tie.Need-returns
returns c =
    let args' = c.args in
    let plain' = c.plain-n in
    let pre' = c.requires in
    let least' = c.least-from in
    let put-head' = c.put_head-w1 in
    let eat-any' = c.eat_any in
    let src = args'.src.now in
    let same = ap plain (lent args'.c.start args'.c.end src) in
    let digits = plain (slice args'.c.start args'.c.end src) in
    let count = plain'.ensures.0 ∙ ap length same in
    let st = pre'.0.stands in
    let short = means_short {t = digits} st pre'.1 (means-number pre'.2) in
    let some : 1 < args'.c.kind = omega (arith, pre'.1) in
    let stored = plain'.ensures.1 ∙ ap (λ (l : List ℕ). sets (take (length args'.out.now - least'.result) (drop least'.result args'.out.now)) 0 l) same in
    let written =
    text_wrote 4 args'.out.now args'.w least'.result digits count (sets-rest args'.out.now _ digits least'.result stored)
    (⊎_elim (λ e. inl e) (λ e. inr e) least'.ensures.1) put-head'.ensures in
    record {
      ends = λ g d.
          let there = meaning (leaf 4 (text digits ∷ []) ▸ end) st pre'.1 (lit< tt) (means-number pre'.2) (λ xs. a_number g args'.c xs 0 digits) Steps.here in
          Steps.ends (omega arith) (Steps.leaved st eat-any'.ensures some (any_size 4 st digits short) written there);
    }

pub number_in_range_spec : {M : Type 1} → statement M
number_in_range_spec = tie.close (tie.spec add_least least_requires cast_plain cast_plain_2 sub_plain part-plain-start part_plain_end sub_plain_2 part_plain_start_2 part_plain_end_2 plain_requires put_head_requires eat_any_requires add_t10 same_length returns)
