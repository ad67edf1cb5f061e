-- A source as letters, which is what the classes of the rules can tell apart: an ASCII character is its own letter, white space beyond
-- ASCII is one letter, any other character another. So any bytes have letters, whether or not they are UTF-8.
-- Assumes nothing.
use Rattle.std.specs.Prelude.{cond, List, [], ◌∷◌, ℕ, ◌+◌, ◌*◌, ◌%◌, min, ltb, length, get_or}
use Prim.Native.Char.{code}
use Prim.Native.String.{String, [] as nil, ◌∷◌ as ◌then◌}
use Rattle.regexes.specs.Regex.{Text, END, Range, ◌to◌, within}

abbrev pub WHITE : ℕ
WHITE = 128

abbrev pub OTHER : ℕ
OTHER = 129

-- R11. "Unicode White_Space (25 code points)": the 19 beyond ASCII.
unfoldable pub white_space : List Range
white_space =
    0x85 to 0x85 ∷ 0xA0 to 0xA0 ∷ 0x1680 to 0x1680 ∷ 0x2000 to 0x200A ∷ 0x2028 to 0x2029 ∷ 0x202F to 0x202F ∷ 0x205F to 0x205F ∷ 0x3000 to 0x3000 ∷ []

-- R11. A character has as many bytes as its first byte says: Unicode's table 3-7, first column.
abbrev pub width : ℕ → ℕ
width b = cond (ltb b 0x80) 1 (cond (ltb b 0xE0) 2 (cond (ltb b 0xF0) 3 4))

-- R11. The code point whose bytes are a, b, c, d, as many of them as a says: table 3-6.
unfoldable pub code_point : ℕ → ℕ → ℕ → ℕ → ℕ
code_point a b c d =
    cond (ltb a 0x80) a
    (cond (ltb a 0xE0) (a % 0x20 * 0x40 + b % 0x40)
    (cond (ltb a 0xF0) (a % 0x10 * 0x1000 + b % 0x40 * 0x40 + c % 0x40) (a % 8 * 0x40000 + b % 0x40 * 0x1000 + c % 0x40 * 0x40 + d % 0x40)))

unfoldable pub beyond : List ℕ → ℕ → ℕ
beyond s i = cond (within white_space (code_point (get_or s i 0) (get_or s (i + 1) 0) (get_or s (i + 2) 0) (get_or s (i + 3) 0))) WHITE OTHER

-- R6, R11. The letter at a place, and the place after it.
unfoldable pub letter : List ℕ → ℕ → ℕ
letter s i = cond (ltb i (length s)) (cond (ltb (get_or s i 0) 0x80) (get_or s i 0) (beyond s i)) END

unfoldable pub next : List ℕ → ℕ → ℕ
next s i = cond (ltb i (length s)) (min (i + width (get_or s i 0)) (length s)) (i + 1)

abbrev pub text : List ℕ → Text
text s = record { letter = letter s; next = next s }

-- R6. The bytes of an ASCII text.
abbrev pub ascii : String → List ℕ
ascii nil = []
ascii (c then s) = code c ∷ ascii s
