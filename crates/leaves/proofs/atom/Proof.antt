-- `atom` meets its contract: a lexeme of each kind that is a phrase by itself; else it breaks off.
-- Assumes nothing.
use borrow.Author.Rules.{rules}
use Rattle.grammar.specs.Image.{entry, payload}
use Rattle.grammar.specs.Productions.{goto, string}
use Rattle.leaves.proofs.LeafLaws.{bytes_short, fits, is_quoted, not_quoted, one_fault, one_leaf, one_name, within}
use Rattle.leaves.proofs.LeafRules.{a_dollar, a_false, a_null, a_self, a_super, a_true, a_variable, basic_string, no_atom}
use Rattle.leaves.proofs.LexemeLaws.{lies}
use lib.Dec.{lit<}
use lib.Seq.{slice}
use mathlib.Core.Path.{refl}
use native.Mathlib.Omega.{arith}
use Rattle.leaves.proofs.Steps
use Rattle.leaves.proofs.atom.Statement.{statement}
use Rattle.leaves.proofs.atom.Tie as tie

eat_any_requires : tie.Need-eat_any-requires
eat_any_requires c κs = search rules

put_kind_requires : tie.Need-put_kind-requires
put_kind_requires c κs =
    let pre' = c.requires in
    let places = within pre'.0 in
    (fits pre'.0, places.0, places.1)

eat_any_requires_2 : tie.Need-eat_any-requires-in-82
eat_any_requires_2 c κs = search rules

put_kind_requires_2 : tie.Need-put_kind-requires-in-82
put_kind_requires_2 c κs =
    let pre' = c.requires in
    let places = within pre'.0 in
    (fits pre'.0, places.0, places.1)

eat_any_requires_3 : tie.Need-eat_any-requires-in-34
eat_any_requires_3 c κs = search rules

put_kind_requires_3 : tie.Need-put_kind-requires-in-34
put_kind_requires_3 c κs =
    let pre' = c.requires in
    let places = within pre'.0 in
    (fits pre'.0, places.0, places.1)

eat_any_requires_4 : tie.Need-eat_any-requires-in-78
eat_any_requires_4 c κs = search rules

put_none_requires : tie.Need-put_none-requires
put_none_requires c κs = search rules

eat_any_requires_5 : tie.Need-eat_any-requires-in-79
eat_any_requires_5 c κs = search rules

put_flag_requires : tie.Need-put_flag-requires
put_flag_requires c κs = search rules

eat_any_requires_6 : tie.Need-eat_any-requires-in-80
eat_any_requires_6 c κs = search rules

put_flag_requires_2 : tie.Need-put_flag-requires-in-80
put_flag_requires_2 c κs = search rules

parse_number_requires : tie.Need-parse_number-requires
parse_number_requires c κs = search rules

eat_any_requires_7 : tie.Need-eat_any-requires-in-55
eat_any_requires_7 c κs = search rules

cast_put_name : tie.Need-overflow_cast-start
cast_put_name c = search rules

cast_put_name_2 : tie.Need-overflow_cast-end
cast_put_name_2 c = search rules

sub_put_name : tie.Need-slice_bounds-put_name-count
sub_put_name c =
    let pre' = c.requires in
    let st = pre'.0.stands in
    (lies st).on

part_put_name_start : tie.Need-slice_bounds-put_name-start
part_put_name_start c =
    let pre' = c.requires in
    let st = pre'.0.stands in
    (lies st).on

part_put_name_end : tie.Need-slice_bounds-put_name-end
part_put_name_end c = search rules

put_name_requires : tie.Need-put_name-requires
put_name_requires c κs =
    let pre' = c.requires in
    let places = within pre'.0 in
    (fits pre'.0, places.0, places.1, omega (arith, bytes_short pre'.0))

is_string_token_requires : tie.Need-is_string_token-requires
is_string_token_requires c κs = search rules

parse_string_content_requires : tie.Need-parse_string_content-requires
parse_string_content_requires c κs =
    let is-string-token' = c.is_string_token in
    let if1' = c.if-is_string_token in
    let pre' = c.requires in
    let quoted = is_quoted is-string-token'.ensures if1'.true in
    (pre'.0, quoted)

same_length : tie.Need-shape_of-out-then-is_string_token
same_length c = search rules

returns : tie.Need-returns-then-is_string_token
returns c =
    let pre' = c.requires in
    let is-string-token' = c.is_string_token in
    let if1' = c.if-is_string_token in
    let parse-string-content' = c.parse_string_content in
    let args' = c.args in
    let st = pre'.0.stands in
    let quoted = is_quoted is-string-token'.ensures if1'.true in
    record {
      ends = λ g d.
          Steps.tail (omega arith) (parse-string-content'.ensures.ends g d)
          (Steps.known (goto string) st refl (λ xs t. basic_string g args'.c xs 0 args'.c.kind t quoted) Steps.here);
    }

error_requires : tie.Need-error-requires
error_requires c κs = search rules

same_length_2 : tie.Need-shape_of-out-in-81
same_length_2 c = search rules

returns_2 : tie.Need-returns-in-81
unfolding entry payload
returns_2 c =
    let pre' = c.requires in
    let args' = c.args in
    let eat-any' = c.eat_any in
    let put-kind' = c.put_kind in
    let st = pre'.0.stands in
    record { ends = λ g d. one_leaf st c.in-81.is (lit< tt) (λ xs t. a_self g args'.c xs 0 t) eat-any'.ensures (omega arith) put-kind'.ensures }

same_length_3 : tie.Need-shape_of-out-in-82
same_length_3 c = search rules

returns_3 : tie.Need-returns-in-82
unfolding entry payload
returns_3 c =
    let pre' = c.requires in
    let args' = c.args in
    let eat-any2' = c.eat_any-in-82 in
    let put-kind2' = c.put_kind-in-82 in
    let st = pre'.0.stands in
    record { ends = λ g d. one_leaf st c.in-82.is (lit< tt) (λ xs t. a_super g args'.c xs 0 t) eat-any2'.ensures (omega arith) put-kind2'.ensures }

same_length_4 : tie.Need-shape_of-out-in-34
same_length_4 c = search rules

returns_4 : tie.Need-returns-in-34
unfolding entry payload
returns_4 c =
    let pre' = c.requires in
    let args' = c.args in
    let eat-any3' = c.eat_any-in-34 in
    let put-kind3' = c.put_kind-in-34 in
    let st = pre'.0.stands in
    record { ends = λ g d. one_leaf st c.in-34.is (lit< tt) (λ xs t. a_dollar g args'.c xs 0 t) eat-any3'.ensures (omega arith) put-kind3'.ensures }

same_length_5 : tie.Need-shape_of-out-in-78
same_length_5 c = search rules

returns_5 : tie.Need-returns-in-78
unfolding entry payload
returns_5 c =
    let pre' = c.requires in
    let args' = c.args in
    let eat-any4' = c.eat_any-in-78 in
    let put-none' = c.put_none in
    let st = pre'.0.stands in
    record { ends = λ g d. one_leaf st c.in-78.is (lit< tt) (λ xs t. a_null g args'.c xs 0 t) eat-any4'.ensures (omega arith) put-none'.ensures }

same_length_6 : tie.Need-shape_of-out-in-79
same_length_6 c = search rules

returns_6 : tie.Need-returns-in-79
unfolding entry payload
returns_6 c =
    let pre' = c.requires in
    let args' = c.args in
    let eat-any5' = c.eat_any-in-79 in
    let put-flag' = c.put_flag in
    let st = pre'.0.stands in
    record { ends = λ g d. one_leaf st c.in-79.is (lit< tt) (λ xs t. a_true g args'.c xs 0 t) eat-any5'.ensures (omega arith) put-flag'.ensures }

same_length_7 : tie.Need-shape_of-out-in-80
same_length_7 c = search rules

returns_7 : tie.Need-returns-in-80
unfolding entry payload
returns_7 c =
    let pre' = c.requires in
    let args' = c.args in
    let eat-any6' = c.eat_any-in-80 in
    let put-flag2' = c.put_flag-in-80 in
    let st = pre'.0.stands in
    record { ends = λ g d. one_leaf st c.in-80.is (lit< tt) (λ xs t. a_false g args'.c xs 0 t) eat-any6'.ensures (omega arith) put-flag2'.ensures }

same_length_8 : tie.Need-shape_of-out-in-37
same_length_8 c = search rules

returns_8 : tie.Need-returns-in-37
returns_8 c = search rules

same_length_9 : tie.Need-shape_of-out-in-55
same_length_9 c = search rules

returns_9 : tie.Need-returns-in-55
returns_9 c =
    let pre' = c.requires in
    let args' = c.args in
    let eat-any7' = c.eat_any-in-55 in
    let put-name' = c.put_name in
    let st = pre'.0.stands in
    let src = args'.src.now in
    let name = slice args'.c.start args'.c.end src in
    record { ends = λ g d. one_name 6 st c.in-55.is (λ xs. a_variable g args'.c xs 0 name) eat-any7'.ensures put-name'.ensures }

returns_10 : tie.Need-returns-else-is_string_token
returns_10 c =
    let pre' = c.requires in
    let matched' = c.in_default.in_default-own in
    let is-string-token' = c.is_string_token in
    let if1' = c.if-is_string_token in
    let args' = c.args in
    let error' = c.error in
    let st = pre'.0.stands in
    let others = matched'.rest in
    let none = not_quoted is-string-token'.ensures if1'.false in
    record {
      ends = λ g d.
          one_fault st
          (λ xs t. no_atom g args'.c xs 0 args'.c.kind t pre'.1 others.0.0.0.0.0.0.0.1 others.0.0.0.0.0.0.1 others.0.0.0.0.0.1 others.0.0.0.0.1 others.0.0.0.1 others.0.0.1 others.0.1 others.1 none)
          error'.ensures;
    }

pub atom_spec : {M : Type 1} → statement M
atom_spec = tie.close (tie.spec eat_any_requires put_kind_requires eat_any_requires_2 put_kind_requires_2 eat_any_requires_3 put_kind_requires_3 eat_any_requires_4 put_none_requires eat_any_requires_5 put_flag_requires eat_any_requires_6 put_flag_requires_2 parse_number_requires eat_any_requires_7 cast_put_name cast_put_name_2 sub_put_name part_put_name_start part_put_name_end put_name_requires is_string_token_requires parse_string_content_requires same_length returns error_requires same_length_2 returns_2 same_length_3 returns_3 same_length_4 returns_4 same_length_5 returns_5 same_length_6 returns_6 same_length_7 returns_7 same_length_8 returns_8 same_length_9 returns_9 returns_10)
