-- What is no scalar value has no text.
use Rattle.std.proofs.Common.{inl, inr, arith}
use native.Mathlib.Decide.{dec_lt}
use Rattle.strings.specs.Utf8.{Scalar, utf8, encoded}
use Rattle.strings.specs.Decoding.{missing}
use Rattle.strings.proofs.DecodingLaws.{decoded, cleared}
use Rattle.strings.proofs.Utf8Laws.{encodes_scalar}
use Rattle.strings.proofs.utf8.encode.Goals as goal

pub returns-in-0-to-55295 : goal.returns-in-0-to-55295
returns-in-0-to-55295 c =
    let code = c.args.code in
    let stored = c.put_code.ensures in
    let scalar : Scalar code =
    elim (dec_lt code 0xD800) [
      | yes low ↦ inl low
      | no high ↦ inr (grind arith)
    ]
    in
    decoded _ _ (utf8 code) _ (encoded scalar) (omega arith) stored.0

pub returns-in_default : goal.returns-in_default
returns-in_default c =
    let code = c.args.code in
    let none : Scalar code → ⊥ = λ x.
    elim x [
      | inl low ↦ omega (arith, low)
      | inr high ↦ omega (arith, high.0, high.1)
    ]
    in
    cleared _ _ 0 (missing (λ t e. none (encodes_scalar e))) c.clear.ensures
