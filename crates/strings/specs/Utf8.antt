-- Well-formed UTF-8, from the Unicode Standard: table 3-7 (well-formed byte sequences) and table 3-6 (the bytes of a code point).
-- Assumes nothing.
use Rattle.std.specs.Prelude.{◌≡◌, cond, List, [], ◌∷◌, ◌⊎◌, ℕ, ◌+◌, ◌/◌, ◌%◌, ◌≤◌, ◌<◌, ltb, length, take}

abbrev pub In : ℕ → ℕ → ℕ → Type 0
In lo hi b = (lo ≤ b) × (b ≤ hi)

abbrev pub Tail : ℕ → Type 0
Tail = In 0x80 0xBF

-- R34. The bytes begin with one character, and the second list is what follows it: table 3-7, row by row.
pub data Character : List ℕ → List ℕ → Type 0 where
  row_00_7F : {a : ℕ} {r : List ℕ} → In 0x00 0x7F a → Character (a ∷ r) r
  row_C2_DF : {a b : ℕ} {r : List ℕ} → In 0xC2 0xDF a → Tail b → Character (a ∷ b ∷ r) r
  row_E0 : {a b c : ℕ} {r : List ℕ} → In 0xE0 0xE0 a → In 0xA0 0xBF b → Tail c → Character (a ∷ b ∷ c ∷ r) r
  row_E1_EC : {a b c : ℕ} {r : List ℕ} → In 0xE1 0xEC a → Tail b → Tail c → Character (a ∷ b ∷ c ∷ r) r
  row_ED : {a b c : ℕ} {r : List ℕ} → In 0xED 0xED a → In 0x80 0x9F b → Tail c → Character (a ∷ b ∷ c ∷ r) r
  row_EE_EF : {a b c : ℕ} {r : List ℕ} → In 0xEE 0xEF a → Tail b → Tail c → Character (a ∷ b ∷ c ∷ r) r
  row_F0 : {a b c d : ℕ} {r : List ℕ} → In 0xF0 0xF0 a → In 0x90 0xBF b → Tail c → Tail d → Character (a ∷ b ∷ c ∷ d ∷ r) r
  row_F1_F3 : {a b c d : ℕ} {r : List ℕ} → In 0xF1 0xF3 a → Tail b → Tail c → Tail d → Character (a ∷ b ∷ c ∷ d ∷ r) r
  row_F4 : {a b c d : ℕ} {r : List ℕ} → In 0xF4 0xF4 a → In 0x80 0x8F b → Tail c → Tail d → Character (a ∷ b ∷ c ∷ d ∷ r) r

-- R34. How many bytes the character has with which the list begins; 0 where it begins with none.
pub data CharacterLength : List ℕ → ℕ → Type 0 where
  begins : {s r : List ℕ} {n : ℕ} → Character s r → length s ≡ n + length r → CharacterLength s n
  nothing : {s : List ℕ} → ((r : List ℕ) → Character s r → ⊥) → CharacterLength s 0

-- R34. The bytes are UTF-8: characters, one after another.
pub data Utf8 : List ℕ → Type 0 where
  none : Utf8 []
  more : {s r : List ℕ} → Character s r → Utf8 r → Utf8 s

-- R34. 01, number 3: "bytes valid so far", the longest part from the start that is UTF-8.
pub record ValidTo (s : List ℕ) (n : ℕ) : Type 0 where
  pub within : n ≤ length s
  pub valid : Utf8 (take n s)
  pub longest : (m : ℕ) → m ≤ length s → Utf8 (take m s) → m ≤ n

-- R12. A Unicode scalar value: a code point that is no half of a surrogate pair.
abbrev pub Scalar : ℕ → Type 0
Scalar c = (c < 0xD800) ⊎ ((0xE000 ≤ c) × (c < 0x110000))

-- R12, R42. The bytes of a code point, table 3-6: six bits to each byte after the first.
unfoldable pub utf8 : ℕ → List ℕ
utf8 c =
    cond (ltb c 0x80) (c ∷ [])
    (cond (ltb c 0x800) ((0xC0 + c / 0x40) ∷ (0x80 + c % 0x40) ∷ [])
    (cond (ltb c 0x10000) ((0xE0 + c / 0x1000) ∷ (0x80 + c / 0x40 % 0x40) ∷ (0x80 + c % 0x40) ∷ [])
    ((0xF0 + c / 0x40000) ∷ (0x80 + c / 0x1000 % 0x40) ∷ (0x80 + c / 0x40 % 0x40) ∷ (0x80 + c % 0x40) ∷ [])))

-- R12. What a code point is encoded as, if it is a scalar value.
pub data Encodes (c : ℕ) : List ℕ → Type 0 where
  encoded : Scalar c → Encodes c (utf8 c)
