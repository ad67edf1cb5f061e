-- `value`: by its first byte.
-- Assumes nothing.
use Rattle.std.proofs.Common.{◌≡◌, true, get_or, arith, sym, ◌∙◌}
use Rattle.std.proofs.lemmas.Bool.Decides.{nat_tests}
use Rattle.numerals.specs.Value.{is_digit}
use Rattle.json_import.proofs.Places.{err_out}
use Rattle.json_import.proofs.ValuePlaces.{value_cut, value_deep, begin_is, a_string, an_open_array, an_open_object, a_negative, a_false, a_null, a_true, a_number, no_begin}
use Rattle.json_import.proofs.value.Goals as goal

pub returns-then-begins : goal.returns-then-begins
returns-then-begins c = value_deep (begin_is c.peek-b.ensures c.begins.ensures c.if-begins.true) c.if-depth-ge-DEPTH.true

pub returns-else-begins : goal.returns-else-begins
returns-else-begins c = value_cut c.requires.1 (begin_is c.peek-b.ensures c.begins.ensures c.if-begins.false)

pub returns-in-91 : goal.returns-in-91
returns-in-91 c = an_open_array c.requires.0 c.if-depth-ge-DEPTH.false (sym c.peek-b.ensures ∙ c.in-91.is) c.array.ensures

pub returns-in-123 : goal.returns-in-123
returns-in-123 c = an_open_object c.requires.0 c.if-depth-ge-DEPTH.false (sym c.peek-b.ensures ∙ c.in-123.is) c.object.ensures

pub returns-in_err-whole-in-34 : goal.returns-in_err-whole-in-34
returns-in_err-whole-in-34 c = rw (err_out c.from_residual.ensures.1) (a_string c.requires.0 c.if-depth-ge-DEPTH.false (sym c.peek-b.ensures ∙ c.in-34.is) c.in_err-whole-in-34.ensures)

pub returns-in_ok-whole-in-34 : goal.returns-in_ok-whole-in-34
returns-in_ok-whole-in-34 c = a_string c.requires.0 c.if-depth-ge-DEPTH.false (sym c.peek-b.ensures ∙ c.in-34.is) c.in_ok-whole-in-34.ensures

pub returns-in_err-whole-in-45 : goal.returns-in_err-whole-in-45
returns-in_err-whole-in-45 c = rw (err_out c.from_residual-in_err-whole-in-45.ensures.1) (a_negative c.requires.0 c.if-depth-ge-DEPTH.false (sym c.peek-b.ensures ∙ c.in-45.is) c.in_err-whole-in-45.ensures)

pub returns-in_ok-whole-in-45 : goal.returns-in_ok-whole-in-45
returns-in_ok-whole-in-45 c = a_negative c.requires.0 c.if-depth-ge-DEPTH.false (sym c.peek-b.ensures ∙ c.in-45.is) c.in_ok-whole-in-45.ensures

pub returns-in_err-whole-in-102 : goal.returns-in_err-whole-in-102
returns-in_err-whole-in-102 c = rw (err_out c.from_residual-in_err-whole-in-102.ensures.1) (a_false c.requires.0 c.if-depth-ge-DEPTH.false (sym c.peek-b.ensures ∙ c.in-102.is) c.in_err-whole-in-102.ensures)

pub returns-in_ok-whole-in-102 : goal.returns-in_ok-whole-in-102
returns-in_ok-whole-in-102 c = a_false c.requires.0 c.if-depth-ge-DEPTH.false (sym c.peek-b.ensures ∙ c.in-102.is) c.in_ok-whole-in-102.ensures

pub returns-in_err-whole-in-110 : goal.returns-in_err-whole-in-110
returns-in_err-whole-in-110 c = rw (err_out c.from_residual-in_err-whole-in-110.ensures.1) (a_null c.requires.0 c.if-depth-ge-DEPTH.false (sym c.peek-b.ensures ∙ c.in-110.is) c.in_err-whole-in-110.ensures)

pub returns-in_ok-whole-in-110 : goal.returns-in_ok-whole-in-110
returns-in_ok-whole-in-110 c = a_null c.requires.0 c.if-depth-ge-DEPTH.false (sym c.peek-b.ensures ∙ c.in-110.is) c.in_ok-whole-in-110.ensures

pub returns-in_err-whole-in-116 : goal.returns-in_err-whole-in-116
returns-in_err-whole-in-116 c = rw (err_out c.from_residual-in_err-whole-in-116.ensures.1) (a_true c.requires.0 c.if-depth-ge-DEPTH.false (sym c.peek-b.ensures ∙ c.in-116.is) c.in_err-whole-in-116.ensures)

pub returns-in_ok-whole-in-116 : goal.returns-in_ok-whole-in-116
returns-in_ok-whole-in-116 c = a_true c.requires.0 c.if-depth-ge-DEPTH.false (sym c.peek-b.ensures ∙ c.in-116.is) c.in_ok-whole-in-116.ensures

pub returns-in_err-whole-in-48-to-57 : goal.returns-in_err-whole-in-48-to-57
returns-in_err-whole-in-48-to-57 c = let d : is_digit (get_or c.args.text.now c.args.from.at 0) ≡ true = grind (arith, nat_tests, c.peek-b.ensures) in
    rw (err_out c.from_residual-in_err-whole-in-48-to-57.ensures.1) (a_number c.requires.0 c.if-depth-ge-DEPTH.false d c.in_err-whole-in-48-to-57.ensures)

pub returns-in_ok-whole-in-48-to-57 : goal.returns-in_ok-whole-in-48-to-57
returns-in_ok-whole-in-48-to-57 c = let d : is_digit (get_or c.args.text.now c.args.from.at 0) ≡ true = grind (arith, nat_tests, c.peek-b.ensures) in
    a_number c.requires.0 c.if-depth-ge-DEPTH.false d c.in_ok-whole-in-48-to-57.ensures

pub returns-in_default : goal.returns-in_default
returns-in_default c = value_cut c.requires.1 (no_begin (get_or c.args.text.now c.args.from.at 0) (λ z. omega (arith, z)) (λ z. omega (arith, z)) (λ z. omega (arith, z)) (λ z. omega (arith, z)) (λ z. omega (arith, z)) (λ z. omega (arith, z)) (λ z. omega (arith, z)) (λ p q. omega (arith, p, q)))

pub returns-in_default-2 : goal.returns-in_default-2
returns-in_default-2 c = value_cut c.requires.1 (no_begin (get_or c.args.text.now c.args.from.at 0) (λ z. omega (arith, z)) (λ z. omega (arith, z)) (λ z. omega (arith, z)) (λ z. omega (arith, z)) (λ z. omega (arith, z)) (λ z. omega (arith, z)) (λ z. omega (arith, z)) (λ p q. omega (arith, p, q)))
