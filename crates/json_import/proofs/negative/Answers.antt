-- `negative`: a number behind a minus.
-- Assumes nothing.
use Rattle.std.proofs.Common.{ℕ, sym, ap, ◌∙◌}
use Rattle.numerals.specs.Value.{is_digit}
use Rattle.json_import.proofs.Places.{err_out}
use Rattle.json_import.proofs.LeafPlaces.{minus_cut, minus_deep, minus_broken, minus_whole, numeral_room}
use Rattle.json_import.proofs.negative.Goals as goal

pub returns-then-not-is_ascii_digit : goal.returns-then-not-is_ascii_digit
returns-then-not-is_ascii_digit c = let d = sym (ap (λ (b : ℕ). is_digit b) c.peek.ensures) ∙ sym c.is_ascii_digit.ensures.value ∙ c.if-not-is_ascii_digit.true in
    minus_cut d

pub returns-then-depth-ge-DEPTH : goal.returns-then-depth-ge-DEPTH
returns-then-depth-ge-DEPTH c = let d = sym (ap (λ (b : ℕ). is_digit b) c.peek.ensures) ∙ sym c.is_ascii_digit.ensures.value ∙ c.if-not-is_ascii_digit.false in
    minus_deep d c.if-depth-ge-DEPTH.true

pub returns-in_err-behind : goal.returns-in_err-behind
returns-in_err-behind c = let d = sym (ap (λ (b : ℕ). is_digit b) c.peek.ensures) ∙ sym c.is_ascii_digit.ensures.value ∙ c.if-not-is_ascii_digit.false in
    rw (err_out c.from_residual.ensures.1) (minus_broken d c.if-depth-ge-DEPTH.false c.in_err-behind.ensures)

pub put_flag-written-requires : goal.put_flag-written-requires
put_flag-written-requires c = numeral_room c.requires c.in_ok-behind.ensures

pub returns : goal.returns
returns c = let d = sym (ap (λ (b : ℕ). is_digit b) c.peek.ensures) ∙ sym c.is_ascii_digit.ensures.value ∙ c.if-not-is_ascii_digit.false in
    minus_whole d c.if-depth-ge-DEPTH.false c.requires c.in_ok-behind.ensures c.put_flag-written.ensures
