-- Laws of the bytes of a code point: what and how many they are by its range, and that tables 3-6 and 3-7 agree.
-- Assumes nothing.
use mathlib.Core.Path.{◌≡◌, refl, sym, ◌∙◌, ap}
use mathlib.Core.List.{List, [], ◌∷◌, ◌++◌, append-nil}
use mathlib.Core.Logic.{inl, inr}
use Prim.Native.Nat.{ℕ, ◌+◌, ◌-◌, ◌*◌, ◌/◌, ◌%◌, ◌≤◌, ◌<◌}
use native.Mathlib.Omega.{arith}
use native.Mathlib.Decide.{dec_lt}
use lib.ListN.{length}
use borrow.Author.Tests.{lt-ltb, le-ltb}
use Rattle.strings.specs.Utf8.{Tail, In, Character, row_00_7F, row_C2_DF, row_E0, row_E1_EC, row_ED, row_EE_EF, row_F0, row_F1_F3, row_F4, Utf8, Scalar, utf8, Encodes, encoded}
use Rattle.strings.specs.Decoding.{Decoded, Decoding, Missing}
use Rattle.strings.proofs.DecodingLaws.{missing_once}
use Rattle.strings.proofs.CharacterLaws.{utf8_one}

pub utf8_1 : (c : ℕ) → c < 0x80 → utf8 c ≡ c ∷ []
unfolding utf8
utf8_1 c h = simp (lt-ltb c 0x80 h)

pub utf8_2 : (c : ℕ) → 0x80 ≤ c → c < 0x800 → utf8 c ≡ (0xC0 + c / 0x40) ∷ (0x80 + c % 0x40) ∷ []
unfolding utf8
utf8_2 c g h = simp (le-ltb c 0x80 g, lt-ltb c 0x800 h)

pub utf8_3 : (c : ℕ) → 0x800 ≤ c → c < 0x10000 → utf8 c ≡ (0xE0 + c / 0x1000) ∷ (0x80 + c / 0x40 % 0x40) ∷ (0x80 + c % 0x40) ∷ []
unfolding utf8
utf8_3 c g h = simp (le-ltb c 0x80 (omega arith), le-ltb c 0x800 g, lt-ltb c 0x10000 h)

pub utf8_4 : (c : ℕ) → 0x10000 ≤ c → utf8 c ≡ (0xF0 + c / 0x40000) ∷ (0x80 + c / 0x1000 % 0x40) ∷ (0x80 + c / 0x40 % 0x40) ∷ (0x80 + c % 0x40) ∷ []
unfolding utf8
utf8_4 c g = simp (le-ltb c 0x80 (omega arith), le-ltb c 0x800 (omega arith), le-ltb c 0x10000 g)

-- Whatever holds of a code point holds if it holds in each of the four ranges.
pub by_range :
    (P : ℕ → Type 0) (c : ℕ) →
    (c < 0x80 → P c) → (0x80 ≤ c → c < 0x800 → P c) → (0x800 ≤ c → c < 0x10000 → P c) → (0x10000 ≤ c → P c) → P c
by_range P c one two three four = by (dec_lt c 0x80) (dec_lt c 0x800) (dec_lt c 0x10000)
  where
    by : Dec (c < 0x80) → Dec (c < 0x800) → Dec (c < 0x10000) → P c
    by (yes h) d e = one h
    by (no h) (yes g) e = two (omega arith) g
    by (no h) (no g) (yes f) = three (omega arith) f
    by (no h) (no g) (no f) = four (omega arith)

-- How many bytes, bounded by how large the code point is.
pub record Size (c n : ℕ) : Type 0 where
  pub some : 1 ≤ n
  pub below_80 : c < 0x80 → n ≡ 1
  pub below_800 : c < 0x800 → n ≤ 2
  pub below_10000 : c < 0x10000 → n ≤ 3
  pub most : n ≤ 4

pub utf8_size : (c : ℕ) → Size c (length (utf8 c))
utf8_size c =
    by_range (λ c. Size c (length (utf8 c))) c
    (λ h. rw (utf8_1 c h) (omega arith))
    (λ g h. rw (utf8_2 c g h) (omega arith))
    (λ g h. rw (utf8_3 c g h) (omega arith))
    (λ g. rw (utf8_4 c g) (omega arith))

-- What is no scalar value.
pub no_surrogate : (c : ℕ) → 0xD800 ≤ c → c < 0xE000 → Scalar c → ⊥
no_surrogate c g h (inl x) = omega arith
no_surrogate c g h (inr x) = omega arith

pub none_above : (c : ℕ) → 0x110000 ≤ c → Scalar c → ⊥
none_above c g (inl x) = omega arith
none_above c g (inr x) = omega arith

pub encodes_scalar : {c : ℕ} {t : List ℕ} → Encodes c t → Scalar c
encodes_scalar (encoded h) = h

pub encodes_once : {c : ℕ} {t t' : List ℕ} → Encodes c t → Encodes c t' → t ≡ t'
encodes_once (encoded h) (encoded h') = refl

-- `encode` has one answer.
pub encode_once :
    {c : ℕ} {out o o' : List ℕ} {r r' : Decoded} → Decoding (Encodes c) (Missing (Encodes c)) out r o → Decoding (Encodes c) (Missing (Encodes c)) out r' o' →
    (r ≡ r') × (o ≡ o')
encode_once d d' = missing_once (λ t t' e e'. encodes_once e e') d d'

-- The number that the bytes of a character spell.
unfoldable value : List ℕ → ℕ
value [] = 0
value (a ∷ []) = a
value (a ∷ b ∷ []) = (a - 0xC0) * 0x40 + (b - 0x80)
value (a ∷ b ∷ c ∷ []) = ((a - 0xE0) * 0x40 + (b - 0x80)) * 0x40 + (c - 0x80)
value (a ∷ b ∷ c ∷ d ∷ r) = (((a - 0xF0) * 0x40 + (b - 0x80)) * 0x40 + (c - 0x80)) * 0x40 + (d - 0x80)

-- Dividing by 0x40 twice, and thrice.
twice : (c : ℕ) → c / 0x1000 ≡ c / 0x40 / 0x40
twice c = omega arith

thrice : (c : ℕ) → c / 0x40000 ≡ c / 0x1000 / 0x40
thrice c = omega arith

value_utf8 : (c : ℕ) → value (utf8 c) ≡ c
unfolding value
value_utf8 c =
    by_range (λ c. value (utf8 c) ≡ c) c
    (λ h. rw (utf8_1 c h) refl)
    (λ g h. rw (utf8_2 c g h) (omega arith))
    (λ g h. rw (utf8_3 c g h) (omega (arith, twice c)))
    (λ g. rw (utf8_4 c g) (omega (arith, twice c, thrice c)))

-- Two code points are never spelled alike.
pub utf8_injective : (c d : ℕ) → utf8 c ≡ utf8 d → c ≡ d
utf8_injective c d e = sym (value_utf8 c) ∙ ap value e ∙ value_utf8 d

tail : (n : ℕ) → Tail (0x80 + n % 0x40)
tail n = omega arith

-- A scalar value's bytes are a character.
module _ (c : ℕ) (r : List ℕ) where
  character_1 : c < 0x80 → Character (utf8 c ++ r) r
  character_1 h = let a : In 0x00 0x7F c = omega arith in rw (utf8_1 c h) (row_00_7F a)

  character_2 : 0x80 ≤ c → c < 0x800 → Character (utf8 c ++ r) r
  character_2 g h = let a : In 0xC2 0xDF (0xC0 + c / 0x40) = omega arith in rw (utf8_2 c g h) (row_C2_DF a (tail c))

  abbrev lead_3 : ℕ
  lead_3 = 0xE0 + c / 0x1000

  abbrev second_3 : ℕ
  second_3 = 0x80 + c / 0x40 % 0x40

  character_3 : 0x800 ≤ c → c < 0x10000 → Scalar c → Character (utf8 c ++ r) r
  character_3 g h x = rw (utf8_3 c g h) (by (dec_lt c 0x1000) (dec_lt c 0xD000) x)
    where
      by : Dec (c < 0x1000) → Dec (c < 0xD000) → Scalar c → Character (lead_3 ∷ second_3 ∷ (0x80 + c % 0x40) ∷ r) r
      by (yes l) m x = let a : In 0xE0 0xE0 lead_3 = omega arith in let b : In 0xA0 0xBF second_3 = omega arith in row_E0 a b (tail c)
      by (no l) (yes m) x = let a : In 0xE1 0xEC lead_3 = omega arith in row_E1_EC a (tail (c / 0x40)) (tail c)
      by (no l) (no m) (inl x) = let a : In 0xED 0xED lead_3 = omega arith in let b : In 0x80 0x9F second_3 = omega arith in row_ED a b (tail c)
      by (no l) (no m) (inr x) = let a : In 0xEE 0xEF lead_3 = omega arith in row_EE_EF a (tail (c / 0x40)) (tail c)

  abbrev lead_4 : ℕ
  lead_4 = 0xF0 + c / 0x40000

  abbrev second_4 : ℕ
  second_4 = 0x80 + c / 0x1000 % 0x40

  character_4 : 0x10000 ≤ c → Scalar c → Character (utf8 c ++ r) r
  character_4 g (inl x) = absurd (omega arith)
  character_4 g (inr x) = rw (utf8_4 c g) (by (dec_lt c 0x40000) (dec_lt c 0x100000))
    where
      by : Dec (c < 0x40000) → Dec (c < 0x100000) → Character (lead_4 ∷ second_4 ∷ (0x80 + c / 0x40 % 0x40) ∷ (0x80 + c % 0x40) ∷ r) r
      by (yes l) m = let a : In 0xF0 0xF0 lead_4 = omega arith in let b : In 0x90 0xBF second_4 = omega arith in row_F0 a b (tail (c / 0x40)) (tail c)
      by (no l) (yes m) = let a : In 0xF1 0xF3 lead_4 = omega arith in row_F1_F3 a (tail (c / 0x1000)) (tail (c / 0x40)) (tail c)
      by (no l) (no m) = let a : In 0xF4 0xF4 lead_4 = omega arith in let b : In 0x80 0x8F second_4 = omega arith in row_F4 a b (tail (c / 0x40)) (tail c)

pub utf8_character : (c : ℕ) (r : List ℕ) → Scalar c → Character (utf8 c ++ r) r
utf8_character c r =
    by_range (λ c. Scalar c → Character (utf8 c ++ r) r) c
    (λ h x. character_1 c r h) (λ g h x. character_2 c r g h) (character_3 c r) (character_4 c r)

pub utf8-utf8 : (c : ℕ) → Scalar c → Utf8 (utf8 c)
utf8-utf8 c x = utf8_one (rw append-nil at (utf8_character c [] x))

pub encodes_utf8 : {c : ℕ} {t : List ℕ} → Encodes c t → Utf8 t
encodes_utf8 (encoded x) = utf8-utf8 _ x

-- Every character is the bytes of a scalar value.
pub record Spelled (s r : List ℕ) : Type 0 where
  pub code : ℕ
  pub scalar : Scalar code
  pub bytes : s ≡ utf8 code ++ r

digit : (x y : ℕ) → y < 0x40 → ((x * 0x40 + y) / 0x40 ≡ x) × ((x * 0x40 + y) % 0x40 ≡ y)
digit x y h = (omega arith, omega arith)

spell_2 : (a b : ℕ) (r : List ℕ) → In 0xC2 0xDF a → Tail b → Spelled (a ∷ b ∷ r) r
unfolding value
spell_2 a b r x y =
    let c = value (a ∷ b ∷ []) in
    let low = digit (a - 0xC0) (b - 0x80) (omega arith) in
    let first : 0xC0 + c / 0x40 ≡ a = omega (arith, low.0) in
    let second : 0x80 + c % 0x40 ≡ b = omega (arith, low.1) in
    record { code = c; scalar = inl (omega arith); bytes = sym (rw (utf8_2 c (omega arith) (omega arith), first, second)) }

spell_3 :
    (a b d : ℕ) (r : List ℕ) → In 0xE0 0xEF a → Tail b → Tail d → 0x800 ≤ value (a ∷ b ∷ d ∷ []) → Scalar (value (a ∷ b ∷ d ∷ [])) →
    Spelled (a ∷ b ∷ d ∷ r) r
unfolding value
spell_3 a b d r x y z g h =
    let c = value (a ∷ b ∷ d ∷ []) in
    let q = (a - 0xE0) * 0x40 + (b - 0x80) in
    let low = digit q (d - 0x80) (omega arith) in
    let high = digit (a - 0xE0) (b - 0x80) (omega arith) in
    let first : 0xE0 + c / 0x1000 ≡ a = rw (twice c, low.0) (omega (arith, high.0)) in
    let second : 0x80 + c / 0x40 % 0x40 ≡ b = rw low.0 (omega (arith, high.1)) in
    let third : 0x80 + c % 0x40 ≡ d = omega (arith, low.1) in
    record { code = c; scalar = h; bytes = sym (rw (utf8_3 c g (omega arith), first, second, third)) }

spell_4 :
    (a b d e : ℕ) (r : List ℕ) → In 0xF0 0xF4 a → Tail b → Tail d → Tail e →
    In 0x10000 0x10FFFF (value (a ∷ b ∷ d ∷ e ∷ [])) → Spelled (a ∷ b ∷ d ∷ e ∷ r) r
unfolding value
spell_4 a b d e r x y z w g =
    let c = value (a ∷ b ∷ d ∷ e ∷ []) in
    let p = (a - 0xF0) * 0x40 + (b - 0x80) in
    let q = p * 0x40 + (d - 0x80) in
    let low = digit q (e - 0x80) (omega arith) in
    let middle = digit p (d - 0x80) (omega arith) in
    let high = digit (a - 0xF0) (b - 0x80) (omega arith) in
    let first : 0xF0 + c / 0x40000 ≡ a = rw (thrice c, twice c, low.0, middle.0) (omega (arith, high.0)) in
    let second : 0x80 + c / 0x1000 % 0x40 ≡ b = rw (twice c, low.0, middle.0) (omega (arith, high.1)) in
    let third : 0x80 + c / 0x40 % 0x40 ≡ d = rw low.0 (omega (arith, middle.1)) in
    let fourth : 0x80 + c % 0x40 ≡ e = omega (arith, low.1) in
    record { code = c; scalar = inr (omega arith); bytes = sym (rw (utf8_4 c g.0, first, second, third, fourth)) }

pub character_scalar : {s r : List ℕ} → Character s r → Spelled s r
unfolding value
character_scalar (row_00_7F {a} {r} x) = record { code = a; scalar = inl (omega arith); bytes = sym (rw (utf8_1 a (omega arith))) }
character_scalar (row_C2_DF {a} {b} {r} x y) = spell_2 a b r x y
character_scalar (row_E0 {a} {b} {c} {r} x y z) = spell_3 a b c r (omega arith) (omega arith) z (omega arith) (inl (omega arith))
character_scalar (row_E1_EC {a} {b} {c} {r} x y z) = spell_3 a b c r (omega arith) y z (omega arith) (inl (omega arith))
character_scalar (row_ED {a} {b} {c} {r} x y z) = spell_3 a b c r (omega arith) (omega arith) z (omega arith) (inl (omega arith))
character_scalar (row_EE_EF {a} {b} {c} {r} x y z) = spell_3 a b c r (omega arith) y z (omega arith) (inr (omega arith))
character_scalar (row_F0 {a} {b} {c} {d} {r} x y z w) = spell_4 a b c d r (omega arith) (omega arith) z w (omega arith)
character_scalar (row_F1_F3 {a} {b} {c} {d} {r} x y z w) = spell_4 a b c d r (omega arith) y z w (omega arith)
character_scalar (row_F4 {a} {b} {c} {d} {r} x y z w) = spell_4 a b c d r (omega arith) (omega arith) z w (omega arith)
