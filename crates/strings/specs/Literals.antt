-- What the inside of a string literal means: document 01, "Lexemes", the paragraph "Strings".
-- Assumes nothing.
use Rattle.std.specs.Prelude.{◌≡◌, List, [], ◌∷◌, ◌++◌, ℕ, suc, ◌+◌, ◌-◌, ◌*◌, length}
use Rattle.strings.specs.Utf8.{In, Scalar, utf8}

-- R12. A hex digit and its value.
pub data Hex : ℕ → ℕ → Type 0 where
  digit : {b : ℕ} → In 0x30 0x39 b → Hex b (b - 0x30)
  upper : {b : ℕ} → In 0x41 0x46 b → Hex b (b - 0x37)
  lower : {b : ℕ} → In 0x61 0x66 b → Hex b (b - 0x57)

-- R12. The bytes begin with four hex digits that spell the number, and the last list is what follows them.
pub data Four : List ℕ → ℕ → List ℕ → Type 0 where
  four :
      {a b c d v w x y : ℕ} {r : List ℕ} → Hex a v → Hex b w → Hex c x → Hex d y →
      Four (a ∷ b ∷ c ∷ d ∷ r) (v * 0x1000 + w * 0x100 + x * 0x10 + y) r

-- R12. `\\ \" \' \b \f \n \r \t`: the letter after the backslash and the character that it stands for.
pub data Letter : ℕ → ℕ → Type 0 where
  backslash : Letter 0x5C 0x5C
  double : Letter 0x22 0x22
  single : Letter 0x27 0x27
  backspace : Letter 0x62 0x08
  form_feed : Letter 0x66 0x0C
  line_feed : Letter 0x6E 0x0A
  return : Letter 0x72 0x0D
  tab : Letter 0x74 0x09

-- R12. The bytes begin with `\u` and a low half.
pub data Low : List ℕ → ℕ → List ℕ → Type 0 where
  low : {lo : ℕ} {s r : List ℕ} → Four s lo r → In 0xDC00 0xDFFF lo → Low (0x5C ∷ 0x75 ∷ s) lo r

-- R12. After a backslash the bytes begin with an escape for the code point, and the last list is what follows it.
pub data Escape : List ℕ → ℕ → List ℕ → Type 0 where
  letter : {l c : ℕ} {r : List ℕ} → Letter l c → Escape (l ∷ r) c r
  -- "`\u` with four hex digits"; "a low half alone is bad", and so is a high half
  unit : {n : ℕ} {s r : List ℕ} → Four s n r → Scalar n → Escape (0x75 ∷ s) n r
  -- "a high half needing `\u` and a low half"
  pair :
      {hi lo : ℕ} {s q r : List ℕ} → Four s hi q → In 0xD800 0xDBFF hi → Low q lo r →
      Escape (0x75 ∷ s) (0x10000 + (hi - 0xD800) * 0x400 + (lo - 0xDC00)) r
  -- "`\x` with digits d, e is code point 256d+e"
  two : {d e v w : ℕ} {r : List ℕ} → Hex d v → Hex e w → Escape (0x78 ∷ d ∷ e ∷ r) (v * 0x100 + w) r

-- R12. The inside of a quoted literal means the text. What has no text here is refused, RFC 8259's `\/` among it.
pub data Quoted : List ℕ → List ℕ → Type 0 where
  end : Quoted [] []
  plain : {b : ℕ} {s t : List ℕ} → (b ≡ 0x5C → ⊥) → Quoted s t → Quoted (b ∷ s) (b ∷ t)
  escape : {s r t : List ℕ} {c : ℕ} → Escape s c r → Quoted r t → Quoted (0x5C ∷ s) (utf8 c ++ t)

-- 02, Item 3, "the byte offset of the backslash that begins the bad escape": the first bad escape of an inside begins at this byte. It is the
-- backslash after which no escape stands, so the high half's where a low half is missing or bad; all before it are plain bytes and
-- escapes. An inside has one exactly where it has no text, and one only (proofs/LiteralLaws.antt).
pub data BadEscape : List ℕ → ℕ → Type 0 where
  here : {s : List ℕ} → ((c : ℕ) (r : List ℕ) → Escape s c r → ⊥) → BadEscape (0x5C ∷ s) 0
  past_plain : {b n : ℕ} {s : List ℕ} → (b ≡ 0x5C → ⊥) → BadEscape s n → BadEscape (b ∷ s) (suc n)
  past_escape : (k : ℕ) {s r : List ℕ} {c n : ℕ} → Escape s c r → length s ≡ k + length r → BadEscape r n → BadEscape (0x5C ∷ s) (suc (k + n))

-- The list begins with the byte.
abbrev pub Begins : ℕ → List ℕ → Type 0
Begins q [] = ⊥
Begins q (b ∷ s) = b ≡ q

-- R13. The inside of a verbatim literal between quotes q: "a doubled quote is one". A quote that stands alone, which no literal has,
-- is kept, as the Rust's `replace` keeps it: every inside has a text.
pub data Verbatim (q : ℕ) : List ℕ → List ℕ → Type 0 where
  end : Verbatim q [] []
  plain : {b : ℕ} {s t : List ℕ} → (b ≡ q → ⊥) → Verbatim q s t → Verbatim q (b ∷ s) (b ∷ t)
  doubled : {s t : List ℕ} → Verbatim q s t → Verbatim q (q ∷ q ∷ s) (q ∷ t)
  alone : {s t : List ℕ} → (Begins q s → ⊥) → Verbatim q s t → Verbatim q (q ∷ s) (q ∷ t)
