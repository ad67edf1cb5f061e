-- The tokens of a JSON text: RFC 8259, sections 2, 6 and 7.
-- Assumes nothing.
use Rattle.std.specs.Prelude.{◌≡◌, Bool, true, not, ◌&&◌, ◌||◌, List, [], ◌∷◌, ◌++◌, ℕ, ◌+◌, ◌-◌, ◌*◌, eqb, leb, length}
use Rattle.strings.specs.Utf8.{In, Scalar, utf8}
use Rattle.strings.specs.Literals.{Four, Low, Begins}
use Rattle.numerals.specs.Value.{is_digit}

infix 60 ◌▹◌
-- R61. A place in a text: its offset, and the bytes from there on.
pub data At : Type 0 where
  ◌▹◌ : ℕ → List ℕ → At

-- ── Section 2: white space and structural characters ──────────────────────────────────────────────

-- R61. "ws = *( %x20 / %x09 / %x0A / %x0D )"
abbrev pub is_blank : ℕ → Bool
is_blank b = eqb b 0x20 || (eqb b 0x09 || (eqb b 0x0A || eqb b 0x0D))

pub data Ws : At → At → Type 0 where
  none : {h : At} → Ws h h
  more : {i b : ℕ} {s : List ℕ} {h : At} → is_blank b ≡ true → Ws (i + 1 ▹ s) h → Ws (i ▹ b ∷ s) h

-- R61. A bracket that closes, with the white space before it.
pub data Closes (c : ℕ) : At → At → Type 0 where
  closes : {h : At} {i : ℕ} {s : List ℕ} → Ws h (i ▹ c ∷ s) → Closes c h (i + 1 ▹ s)

-- R61. "value-separator = ws %x2C ws", "name-separator = ws %x3A ws"
pub data Around (c : ℕ) : At → At → Type 0 where
  around : {h g m : At} → Closes c h m → Ws m g → Around c h g

-- ── Section 6: numbers, without the minus ─────────────────────────────────────────────────────────

-- R63. "1*DIGIT"
pub data Digits : List ℕ → Type 0 where
  one : {b : ℕ} → is_digit b ≡ true → Digits (b ∷ [])
  more : {b : ℕ} {w : List ℕ} → is_digit b ≡ true → Digits w → Digits (b ∷ w)

-- R63. "int = zero / ( digit1-9 *DIGIT )"
pub data Int : List ℕ → Type 0 where
  zero : Int (0x30 ∷ [])
  single : {b : ℕ} → In 0x31 0x39 b → Int (b ∷ [])
  several : {b : ℕ} {w : List ℕ} → In 0x31 0x39 b → Digits w → Int (b ∷ w)

-- R63. "[ frac ]", "frac = decimal-point 1*DIGIT"
pub data Frac : List ℕ → Type 0 where
  none : Frac []
  frac : {w : List ℕ} → Digits w → Frac (0x2E ∷ w)

-- R63. "[ exp ]", "exp = e [ minus / plus ] 1*DIGIT"
pub data Mark : ℕ → Type 0 where
  lower : Mark 0x65
  upper : Mark 0x45

pub data Sign : ℕ → Type 0 where
  plus : Sign 0x2B
  minus : Sign 0x2D

pub data Exp : List ℕ → Type 0 where
  none : Exp []
  exp : {e : ℕ} {w : List ℕ} → Mark e → Digits w → Exp (e ∷ w)
  signed : {e b : ℕ} {w : List ℕ} → Mark e → Sign b → Digits w → Exp (e ∷ b ∷ w)

-- R63. "number = [ minus ] int [ frac ] [ exp ]", but for the minus, which has a record of its own.
pub data Number : List ℕ → Type 0 where
  number : {i f x : List ℕ} → Int i → Frac f → Exp x → Number (i ++ (f ++ x))

-- R63. At a place stands this literal, whole: with the byte behind it no number goes on. (What may follow a number is none of its bytes, so
-- that this takes no text away from the RFC's grammar; it says when number 17 is met.)
pub data Literal : At → List ℕ → At → Type 0 where
  literal : {i : ℕ} {w r : List ℕ} → Number w → ((b : ℕ) (v : List ℕ) → Begins b r → Number (w ++ (b ∷ v)) → ⊥) → Literal (i ▹ w ++ r) w (i + length w ▹ r)

-- ── Section 7: strings ────────────────────────────────────────────────────────────────────────────

-- R64. "unescaped = %x20-21 / %x23-5B / %x5D-10FFFF". The text is bytes here: that they are UTF-8 is number 3's matter.
abbrev pub is_plain : ℕ → Bool
is_plain b = leb 0x20 b && (not (eqb b 0x22) && not (eqb b 0x5C))

-- R64. "escape ( %x22 / %x5C / %x2F / %x62 / %x66 / %x6E / %x72 / %x74 )": the letter, and the character that it stands for.
pub data Letter : ℕ → ℕ → Type 0 where
  quotation_mark : Letter 0x22 0x22
  reverse_solidus : Letter 0x5C 0x5C
  solidus : Letter 0x2F 0x2F
  backspace : Letter 0x62 0x08
  form_feed : Letter 0x66 0x0C
  line_feed : Letter 0x6E 0x0A
  return : Letter 0x72 0x0D
  tab : Letter 0x74 0x09

-- R64. "*char quotation_mark": the characters up to the closing quote, and their text. "\u" and four hex digits are a code point, and two halves
-- are one ("12-character sequence"); a half alone is refused (02, Item 6), so that it stands in no text.
pub data Chars : At → List ℕ → At → Type 0 where
  end : {i : ℕ} {s : List ℕ} → Chars (i ▹ 0x22 ∷ s) [] (i + 1 ▹ s)
  plain : {i b : ℕ} {s t : List ℕ} {h : At} → is_plain b ≡ true → Chars (i + 1 ▹ s) t h → Chars (i ▹ b ∷ s) (b ∷ t) h
  letter : {i l c : ℕ} {s t : List ℕ} {h : At} → Letter l c → Chars (i + 2 ▹ s) t h → Chars (i ▹ 0x5C ∷ l ∷ s) (c ∷ t) h
  unit : {i n : ℕ} {s r t : List ℕ} {h : At} → Four s n r → Scalar n → Chars (i + 6 ▹ r) t h → Chars (i ▹ 0x5C ∷ 0x75 ∷ s) (utf8 n ++ t) h
  pair :
      {i hi lo : ℕ} {s q r t : List ℕ} {h : At} → Four s hi q → In 0xD800 0xDBFF hi → Low q lo r → Chars (i + 12 ▹ r) t h →
      Chars (i ▹ 0x5C ∷ 0x75 ∷ s) (utf8 (0x10000 + (hi - 0xD800) * 0x400 + (lo - 0xDC00)) ++ t) h

-- R64. "string = quotation_mark *char quotation_mark"
pub data String : At → List ℕ → At → Type 0 where
  string : {i : ℕ} {s w : List ℕ} {h : At} → Chars (i + 1 ▹ s) w h → String (i ▹ 0x22 ∷ s) w h
