-- `lexemes::bytes::code_point` meets its contract: each width by its test.
-- Assumes nothing.
use borrow.Author.Tests.{lt-ltb, le-ltb}
use borrow.Author.Rules.{rules}
use Rattle.lexemes.specs.Letters.{code_point}
use Rattle.lexemes.proofs.bytes.code_point.Statement.{statement}
use Rattle.lexemes.proofs.bytes.code_point.Tie as tie

returns : tie.Need-returns-then-a-lt128
unfolding code_point
returns c =
    let args = c.args in
    let if1 = c.if-a-lt128 in
    simp (lt-ltb args.a 0x80 if1.true)

cast_x : tie.Need-overflow_cast-x
cast_x c = search rules

cast_result : tie.Need-overflow_cast-result-then-a-lt224
cast_result c = search rules

mul_result : tie.Need-overflow_mul-result
mul_result c = search rules

add_result : tie.Need-overflow_add-result
add_result c = search rules

returns_2 : tie.Need-returns-then-a-lt224
unfolding code_point
returns_2 c =
    let args = c.args in
    let if1 = c.if-a-lt128 in
    let if2 = c.if-a-lt224 in
    simp (le-ltb args.a 0x80 if1.false, lt-ltb args.a 0xE0 if2.true)

cast_y : tie.Need-overflow_cast-y
cast_y c = search rules

cast_result_2 : tie.Need-overflow_cast-result-then-a-lt240
cast_result_2 c = search rules

mul_result_2 : tie.Need-overflow_mul-result-then-a-lt240
mul_result_2 c = search rules

mul_result_3 : tie.Need-overflow_mul-result-then-a-lt240-2
mul_result_3 c = search rules

add_result_2 : tie.Need-overflow_add-result-then-a-lt240
add_result_2 c = search rules

add_result_3 : tie.Need-overflow_add-result-then-a-lt240-2
add_result_3 c = search rules

returns_3 : tie.Need-returns-then-a-lt240
unfolding code_point
returns_3 c =
    let args = c.args in
    let if1 = c.if-a-lt128 in
    let if2 = c.if-a-lt224 in
    let if3 = c.if-a-lt240 in
    simp (le-ltb args.a 0x80 if1.false, le-ltb args.a 0xE0 if2.false, lt-ltb args.a 0xF0 if3.true)

cast_result_3 : tie.Need-overflow_cast-result-2
cast_result_3 c = search rules

mul_result_4 : tie.Need-overflow_mul-result-2
mul_result_4 c = search rules

mul_result_5 : tie.Need-overflow_mul-result-3
mul_result_5 c = search rules

add_result_4 : tie.Need-overflow_add-result-2
add_result_4 c = search rules

mul_result_6 : tie.Need-overflow_mul-result-4
mul_result_6 c = search rules

add_result_5 : tie.Need-overflow_add-result-3
add_result_5 c = search rules

cast_result_4 : tie.Need-overflow_cast-result-3
cast_result_4 c = search rules

add_result_6 : tie.Need-overflow_add-result-4
add_result_6 c = search rules

returns_4 : tie.Need-returns
unfolding code_point
returns_4 c =
    let args = c.args in
    let if1 = c.if-a-lt128 in
    let if2 = c.if-a-lt224 in
    let if3 = c.if-a-lt240 in
    simp (le-ltb args.a 0x80 if1.false, le-ltb args.a 0xE0 if2.false, le-ltb args.a 0xF0 if3.false)

pub code_point_spec : {M : Type 1} → statement M
code_point_spec =
    tie.close
    (tie.spec
    returns
    cast_x
    cast_result
    mul_result
    add_result
    returns_2
    cast_y
    cast_result_2
    mul_result_2
    mul_result_3
    add_result_2
    add_result_3
    returns_3
    cast_result_3
    mul_result_4
    mul_result_5
    add_result_4
    mul_result_6
    add_result_5
    cast_result_4
    add_result_6
    returns_4)
