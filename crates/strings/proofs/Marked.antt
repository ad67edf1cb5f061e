-- 01's marked readings 5, 6 and 7: the insides of their literals.
-- Assumes nothing.
use mathlib.Core.Path.{refl}
use mathlib.Core.List.{[], ◌∷◌}
use native.Mathlib.Omega.{arith}
use Rattle.strings.specs.Utf8.{utf8}
use Rattle.strings.specs.Literals.{digit, upper, Four, four, low, pair, two, Quoted, BadEscape, here}
use Rattle.strings.specs.Literals as literals
use Rattle.strings.proofs.Escapes.{low_bytes, u_view, high_unit}

-- 5. `\x41`: D0 81
pub marked_reading_5 : Quoted (0x5C ∷ 0x78 ∷ 0x34 ∷ 0x31 ∷ []) (0xD0 ∷ 0x81 ∷ [])
unfolding utf8
marked_reading_5 = literals.Quoted.escape (two (digit {b = 0x34} (omega arith)) (digit {b = 0x31} (omega arith))) literals.Quoted.end

-- 6. `\uD83D\uDE00`: F0 9F 98 80
pub marked_reading_6 : Quoted (0x5C ∷ 0x75 ∷ 0x44 ∷ 0x38 ∷ 0x33 ∷ 0x44 ∷ 0x5C ∷ 0x75 ∷ 0x44 ∷ 0x45 ∷ 0x30 ∷ 0x30 ∷ []) (0xF0 ∷ 0x9F ∷ 0x98 ∷ 0x80 ∷ [])
unfolding utf8
marked_reading_6 =
    literals.Quoted.escape
    (pair (four (upper {b = 0x44} (omega arith)) (digit {b = 0x38} (omega arith)) (digit {b = 0x33} (omega arith)) (upper {b = 0x44} (omega arith))) (omega arith)
    (low (four (upper {b = 0x44} (omega arith)) (upper {b = 0x45} (omega arith)) (digit {b = 0x30} (omega arith)) (digit {b = 0x30} (omega arith))) (omega arith)))
    literals.Quoted.end

-- 7. `\uD800x`: its first bad escape is the one that it begins with
pub marked_reading_7 : BadEscape (0x5C ∷ 0x75 ∷ 0x44 ∷ 0x38 ∷ 0x30 ∷ 0x30 ∷ 0x78 ∷ []) 0
marked_reading_7 =
    let high : Four (0x44 ∷ 0x38 ∷ 0x30 ∷ 0x30 ∷ 0x78 ∷ []) 0xD800 (0x78 ∷ []) = four (upper {b = 0x44} (omega arith)) (digit {b = 0x38} (omega arith)) (digit {b = 0x30} (omega arith)) (digit {b = 0x30} (omega arith)) in
    here (λ c r e. high_unit high (omega arith) (λ m q l. omega (arith, (low_bytes l).0)) (u_view e refl))
