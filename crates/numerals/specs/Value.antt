-- The exact value of a number literal, and whether it is beyond a double: document 02, Item 2. All in whole numbers.
-- Assumes nothing.
use Rattle.std.specs.Prelude.{◌≡◌, Bool, true, false, ◌&&◌, ◌||◌, cond, List, [], ◌∷◌, ℕ, ◌+◌, ◌-◌, ◌*◌, ◌^◌, ◌≤◌, eqb, leb}
use Prim.Native.Char.{code}

-- R45. "at least 2^1024 - 2^970"
unfoldable pub LIMIT : ℕ
LIMIT = 2 ^ 1024 - 2 ^ 970

abbrev pub is_digit : ℕ → Bool
is_digit b = leb (code "0") b && leb b (code "9")

-- R45. The whole number that the digits among these bytes spell, written behind n. Whatever is no digit, as `_` and `.`, is passed over.
unfoldable pub spelled : ℕ → List ℕ → ℕ
spelled n [] = n
spelled n (b ∷ bs) = spelled (cond (is_digit b) (n * 10 + (b - code "0")) n) bs

-- How many digits there are.
unfoldable pub digits : List ℕ → ℕ
digits [] = 0
digits (b ∷ bs) = cond (is_digit b) (1 + digits bs) (digits bs)

-- What stands before the first of two bytes, and what stands behind it; all, and nothing, where there is neither.
unfoldable pub before : ℕ → ℕ → List ℕ → List ℕ
before x y [] = []
before x y (b ∷ bs) = cond (eqb b x || eqb b y) [] (b ∷ before x y bs)

unfoldable pub behind : ℕ → ℕ → List ℕ → List ℕ
behind x y [] = []
behind x y (b ∷ bs) = cond (eqb b x || eqb b y) bs (behind x y bs)

unfoldable pub has : ℕ → List ℕ → Bool
has x [] = false
has x (b ∷ bs) = eqb b x || has x bs

-- R9. What stands before a literal's `e`, and what stands behind it.
abbrev pub mantissa : List ℕ → List ℕ
mantissa t = before (code "e") (code "E") t

abbrev pub exponent : List ℕ → List ℕ
exponent t = behind (code "e") (code "E") t

-- n * 10^up / 10^down is at least the limit.
abbrev pub AtLeast : ℕ → ℕ → ℕ → Type 0
AtLeast n up down = LIMIT * 10 ^ down ≤ n * 10 ^ up

-- R9. How many digits stand behind the point.
abbrev pub places : List ℕ → ℕ
places m = digits (behind (code ".") (code ".") m)

-- R45. The mantissa is a whole number, but for its places; the exponent says how often it is to be taken ten times or, if there is a minus, divided by
-- ten.
pub data Large (m x : List ℕ) : Type 0 where
  multiplied : has (code "-") x ≡ false → AtLeast (spelled 0 m) (spelled 0 x) (places m) → Large m x
  divided : has (code "-") x ≡ true → AtLeast (spelled 0 m) 0 (places m + spelled 0 x) → Large m x

-- R45. "a literal whose exact decimal value is at least 2^1024 - 2^970". This is said of all byte strings, and means something of literals.
pub record TooLarge (t : List ℕ) : Type 0 where
  pub value : Large (mantissa t) (exponent t)

-- The answer of a test for it.
pub data Verdict (t : List ℕ) : Bool → Type 0 where
  too_large : TooLarge t → Verdict t true
  in_range : (TooLarge t → ⊥) → Verdict t false
