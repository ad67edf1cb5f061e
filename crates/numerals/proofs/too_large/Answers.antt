-- At once where both parts are short, else by its parts.
use Rattle.std.proofs.Common.{◌≡◌, List, ℕ, ◌-◌, ◌<◌, length, take, drop, length-drop, length-take-le, refl, ap, subst, ◌∙◌, inr, arith}
use lib.Seq.{take_all}
use Rattle.numerals.specs.Value.{mantissa, exponent}
use Rattle.numerals.proofs.Scans.{drop_past}
use Rattle.numerals.proofs.Parts.{few_bytes, judged, judged_short}
use Rattle.numerals.proofs.too_large.Goals as goal

pub returns-then-text-lt5 : goal.returns-then-text-lt5
returns-then-text-lt5 c = judged_short c.args.text.now c.if-text-lt5.true

pub returns-then-text-from-lt3 : goal.returns-then-text-from-lt3
returns-then-text-from-lt3 c =
    let text = c.args.text.now in
    let found = c.find-e.ensures in
    let past = c.past-from.ensures in
    let front = subst (λ (m : List ℕ). length m < 210) found.front (omega (arith, length-take-le c.find-e.result text found.within, c.if-e-lt210.true)) in
    let rest = subst (λ (x : List ℕ). length x < 3) (drop_past text found past) (omega (arith, length-drop c.past-from.result text, c.if-text-from-lt3.true)) in
    judged text (mantissa text) (exponent text) refl refl (few_bytes (mantissa text) (exponent text) front (inr rest))

pub returns : goal.returns
returns c =
    let text = c.args.text.now in
    let found = c.find-e in
    let past = c.past-from in
    let front : found.result - 0 ≡ found.result = omega arith in
    let all = take_all (length text - past.result) (drop past.result text) (omega (arith, length-drop past.result text)) in
    judged text _ _ (ap (λ (n : ℕ). take n text) front ∙ found.ensures.front) (all ∙ drop_past text found.ensures past.ensures) c.parts_reach.ensures
