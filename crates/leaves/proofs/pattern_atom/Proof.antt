-- `pattern_atom` meets its contract: a name, or, under its switch, `?`; else it breaks off.
-- Assumes nothing.
use borrow.Author.Rules.{rules}
use Rattle.grammar.specs.Image.{entry, payload}
use Rattle.leaves.proofs.LeafLaws.{bytes_short, fits, one_fault, one_leaf, one_name, within}
use Rattle.leaves.proofs.LeafRules.{a_name, a_skip, bad_pattern, no_pattern}
use Rattle.leaves.proofs.LexemeLaws.{lies}
use lib.Dec.{lit<}
use lib.Seq.{slice}
use mathlib.Core.Path.{sym, ◌∙◌}
use native.Mathlib.Omega.{arith}
use Rattle.leaves.proofs.pattern_atom.Statement.{statement}
use Rattle.leaves.proofs.pattern_atom.Tie as tie

cast_put_name : tie.Need-overflow_cast-start
cast_put_name c = search rules

cast_put_name_2 : tie.Need-overflow_cast-end
cast_put_name_2 c = search rules

sub_put_name : tie.Need-slice_bounds-put_name-count
sub_put_name c =
    let pre' = c.requires in
    let st = pre'.0.stands in
    (lies st).on

part_put_name_start : tie.Need-slice_bounds-put_name-start
part_put_name_start c =
    let pre' = c.requires in
    let st = pre'.0.stands in
    (lies st).on

part_put_name_end : tie.Need-slice_bounds-put_name-end
part_put_name_end c =
    let pre' = c.requires in
    let st = pre'.0.stands in
    (lies st).within

put_name_requires : tie.Need-put_name-w1-requires
put_name_requires c κs =
    let pre' = c.requires in
    let places = within pre'.0 in
    (fits pre'.0, places.0, places.1, omega (arith, bytes_short pre'.0))

eat_any_requires : tie.Need-eat_any-requires
eat_any_requires c κs = search rules

same_length : tie.Need-shape_of-out-then-kind-eq-IDENT
same_length c = search rules

returns : tie.Need-returns-then-kind-eq-IDENT
returns c =
    let pre' = c.requires in
    let args' = c.args in
    let if1' = c.if-kind-eq-IDENT in
    let eat-any' = c.eat_any in
    let put-name' = c.put_name-w1 in
    let st = pre'.0.stands in
    let src = args'.src.now in
    let name = slice args'.c.start args'.c.end src in
    record { ends = λ d. one_name 25 st if1'.true (λ xs. a_name args'.set args'.c xs 0 name) eat-any'.ensures put-name'.ensures }

has_destruct_requires : tie.Need-has_destruct-requires
has_destruct_requires c κs = search rules

error_requires : tie.Need-error-requires
error_requires c κs = search rules

returns_2 : tie.Need-returns-then-not-has_destruct
returns_2 c =
    let pre' = c.requires in
    let args' = c.args in
    let if1' = c.if-kind-eq-IDENT in
    let tested = c.has_destruct in
    let off = sym tested.ensures ∙ c.if-not-has_destruct.true in
    let error' = c.error in
    let st = pre'.0.stands in
    record { ends = λ d. one_fault st (λ xs t. no_pattern args'.set args'.c xs 0 args'.c.kind t if1'.false off) error'.ensures }

put_none_requires : tie.Need-put_none-w1-requires
put_none_requires c κs = search rules

eat_any_requires_2 : tie.Need-eat_any-requires-then-kind-eq-QUESTION_MARK
eat_any_requires_2 c κs = search rules

same_length_2 : tie.Need-shape_of-out-then-kind-eq-QUESTION_MARK
same_length_2 c = search rules

returns_3 : tie.Need-returns-then-kind-eq-QUESTION_MARK
unfolding entry payload
returns_3 c =
    let pre' = c.requires in
    let if3' = c.if-kind-eq-QUESTION_MARK in
    let args' = c.args in
    let else2 = c.before.before.before.before.before.before in
    let tested = else2.has_destruct in
    let on = sym tested.ensures ∙ else2.if-not-has_destruct.false in
    let eat-any2' = c.eat_any-then-kind-eq-QUESTION_MARK in
    let put-none' = c.put_none-w1 in
    let st = pre'.0.stands in
    record { ends = λ d. one_leaf st if3'.true (lit< tt) (λ xs t. a_skip args'.set args'.c xs 0 t on) eat-any2'.ensures (omega arith) put-none'.ensures }

error_requires_2 : tie.Need-error-requires-2
error_requires_2 c κs = search rules

returns_4 : tie.Need-returns
returns_4 c =
    let pre' = c.requires in
    let args' = c.args in
    let if1' = c.if-kind-eq-IDENT in
    let tested = c.has_destruct in
    let on = sym tested.ensures ∙ c.if-not-has_destruct.false in
    let if3' = c.if-kind-eq-QUESTION_MARK in
    let error2' = c.error-2 in
    let st = pre'.0.stands in
    record {
      ends = λ d.
          one_fault st (λ xs t. bad_pattern args'.set args'.c xs 0 args'.c.kind t if1'.false on if3'.false pre'.1 pre'.2)
          error2'.ensures;
    }

pub pattern_atom_spec : {M : Type 1} → statement M
pattern_atom_spec = tie.close (tie.spec cast_put_name cast_put_name_2 sub_put_name part_put_name_start part_put_name_end put_name_requires eat_any_requires same_length returns has_destruct_requires error_requires returns_2 put_none_requires eat_any_requires_2 same_length_2 returns_3 error_requires_2 returns_4)
