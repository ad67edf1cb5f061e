-- `parse_string_content` meets its contract: the literal's text, written before its head; at a bad escape it breaks off.
-- Assumes nothing.
use borrow.Author.Rules.{rules}
use Rattle.grammar.specs.Productions.{◌▸◌, end, leaf}
use Rattle.grammar.specs.Trees.{text}
use Rattle.leaves.proofs.LeafLaws.{any_size, bad-answer, fits, within}
use Rattle.leaves.proofs.LeafRules.{good_string}
use Rattle.leaves.proofs.LexemeLaws.{lies}
use Rattle.leaves.proofs.PartLaws.{sets-rest, text_wrote}
use Rattle.leaves.proofs.TextLaws.{a_lexeme, fault_found, found, meaning, means_short, spoils_within}
use mathlib.Core.List.{[], ◌∷◌}
use mathlib.Core.Logic.{inl, inr, ⊎_elim}
use mathlib.Core.Path.{refl}
use native.Mathlib.Omega.{arith}
use Rattle.leaves.proofs.Steps
use Rattle.leaves.proofs.parse_string_content.Statement.{statement}
use Rattle.leaves.proofs.parse_string_content.Tie as tie

add_least : tie.Need-overflow_add-w
add_least c = search rules

least_requires : tie.Need-least-from-requires
least_requires c κs = search rules

sub_decode : tie.Need-slice_bounds-decode-count
sub_decode c = search rules

part_decode_start : tie.Need-slice_bounds-decode-start
part_decode_start c = search rules

part_decode_end : tie.Need-slice_bounds-decode-end
part_decode_end c = search rules

decode_requires : tie.Need-decode-d-requires
decode_requires c κs = search rules

enum_known_d : tie.Need-enum_known-d
enum_known_d c = search rules

cast_error : tie.Need-overflow_cast-c
cast_error c = search rules

add_error : tie.Need-overflow_add-c
add_error c =
    let pre' = c.requires in
    omega (arith, within pre'.0)

add_error_2 : tie.Need-overflow_add-c-in-Err
add_error_2 c =
    let decode' = c.decode-d in
    let pre' = c.requires in
    let st = pre'.0.stands in
    let inside = spoils_within (lies st).within (fault_found decode'.ensures c.in-Err.is) in
    omega (arith, inside, within pre'.0)

error_requires : tie.Need-error-requires
error_requires c κs = search rules

enum_known_d_2 : tie.Need-enum_known-d-in-Ok-1
enum_known_d_2 c = search rules

put_head_requires : tie.Need-put_head-w1-requires
put_head_requires c κs =
    let decode' = c.decode-d in
    let pre' = c.requires in
    let text' = found decode'.ensures c.in-Ok.is in
    let st = pre'.0.stands in
    let short = means_short st refl text'.1 in
    (omega (arith, fits pre'.0), omega (arith, text'.2, short, (lies st).within, pre'.0.stands.short))

eat_any_requires : tie.Need-eat_any-requires
eat_any_requires c κs = search rules

add_t22 : tie.Need-overflow_add-result
add_t22 c =
    let decode' = c.decode-d in
    let pre' = c.requires in
    let put-head' = c.put_head-w1 in
    let text' = found decode'.ensures c.in-Ok.is in
    let st = pre'.0.stands in
    let short = means_short st refl text'.1 in
    omega (arith, text'.2, short, (lies st).within, pre'.0.stands.short, fits pre'.0, put-head'.ensures.to)

same_length : tie.Need-shape_of-out-in-Err
same_length c = search rules

returns : tie.Need-returns-in-Err
returns c =
    let pre' = c.requires in
    let decode' = c.decode-d in
    let fault = fault_found decode'.ensures c.in-Err.is in
    record { ends = λ g d. bad-answer pre'.0.stands fault c.error.ensures }

same_length_2 : tie.Need-shape_of-out-in-Ok
same_length_2 c = search rules

returns_2 : tie.Need-returns-in-Ok
returns_2 c =
    let decode' = c.decode-d in
    let pre' = c.requires in
    let args' = c.args in
    let least' = c.least-from in
    let put-head' = c.put_head-w1 in
    let eat-any' = c.eat_any in
    let text' = found decode'.ensures c.in-Ok.is in
    let st = pre'.0.stands in
    let some = a_lexeme pre'.1 in
    let short = means_short st refl text'.1 in
    let written =
    text_wrote 5 args'.out.now args'.w least'.result text'.0 text'.2 (sets-rest args'.out.now _ text'.0 least'.result text'.3)
    (⊎_elim (λ e. inl e) (λ e. inr e) least'.ensures.1) put-head'.ensures in
    record {
      ends = λ g d.
          let there = meaning (leaf 5 (text text'.0 ∷ []) ▸ end) st refl some text'.1 (λ xs. good_string g args'.c xs 0 args'.c.kind text'.0) Steps.here in
          Steps.ends (omega arith) (Steps.leaved st eat-any'.ensures some (any_size 5 st text'.0 short) written there);
    }

pub parse_string_content_spec : {M : Type 1} → statement M
parse_string_content_spec = tie.close (tie.spec add_least least_requires sub_decode part_decode_start part_decode_end decode_requires enum_known_d cast_error add_error add_error_2 error_requires enum_known_d_2 put_head_requires eat_any_requires add_t22 same_length returns same_length_2 returns_2)
