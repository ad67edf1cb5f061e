-- The escape `\/`: RFC 8259 has it, Jsonnet has not (01, "Strings").
-- Assumes nothing.
use Rattle.std.specs.Prelude.{◌≡◌, List, ◌∷◌, ℕ, ◌+◌, get_or}

-- R64. A place of a JSON text: outside all strings, or inside one.
pub data Where : Type 0 where
  outside inside : Where

-- R12, R64. From such a place on, the text has the escape `\/` in one of its strings. A string begins and ends with a quote; in it a backslash
-- and the byte behind it belong together, so that `\\/` has none.
pub data Solidus : Where → List ℕ → Type 0 where
  before : {b : ℕ} {s : List ℕ} → (b ≡ 0x22 → ⊥) → Solidus outside s → Solidus outside (b ∷ s)
  opens : {s : List ℕ} → Solidus inside s → Solidus outside (0x22 ∷ s)
  closes : {s : List ℕ} → Solidus outside s → Solidus inside (0x22 ∷ s)
  plain : {b : ℕ} {s : List ℕ} → (b ≡ 0x22 → ⊥) → (b ≡ 0x5C → ⊥) → Solidus inside s → Solidus inside (b ∷ s)
  escape : {l : ℕ} {s : List ℕ} → (l ≡ 0x2F → ⊥) → Solidus inside s → Solidus inside (0x5C ∷ l ∷ s)
  here : {s : List ℕ} → Solidus inside (0x5C ∷ 0x2F ∷ s)

abbrev pub HasSolidus : List ℕ → Type 0
HasSolidus s = Solidus outside s

-- 02, Item 3. A backslash stands at this byte of a text, and behind it a solidus.
pub record SolidusAt (s : List ℕ) (x : ℕ) : Type 0 where
  pub backslash : get_or s x 0 ≡ 0x5C
  pub solidus : get_or s (x + 1) 0 ≡ 0x2F
