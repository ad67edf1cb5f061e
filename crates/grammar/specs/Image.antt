-- The image of trees: 01, "The image".
-- Assumes nothing.
use Rattle.std.specs.Prelude.{List, [], ◌∷◌, ◌++◌, ℕ, ◌/◌, ◌%◌, length}
use Rattle.grammar.specs.Trees.{Field, byte, number, span, text, Trees, none, node}

-- R41. "Numbers are two bytes, high first"
abbrev pub two : ℕ → List ℕ
two n = n / 256 ∷ n % 256 ∷ []

-- R41. "a span is two of them; a flag is one byte; names and texts run to the payload's end"
unfoldable pub payload : List Field → List ℕ
payload [] = []
payload (byte b ∷ fields) = b ∷ payload fields
payload (number n ∷ fields) = two n ++ payload fields
payload (span a b ∷ fields) = two a ++ two b ++ payload fields
payload (text w ∷ []) = w
payload (text w ∷ (field ∷ fields)) = w ++ payload (field ∷ fields)

-- R40. "one-byte tag, two-byte length, payload"
unfoldable pub entry : ℕ → List Field → List ℕ
entry tag fields = tag ∷ (two (length (payload fields)) ++ payload fields)

-- R40. "Records stand children first, in source order."
unfoldable pub image : Trees → List ℕ
image none = []
image (node tag fields children ts) = (image children ++ entry tag fields) ++ image ts
