-- What the decoder's inner functions promise each other. Nothing here has to be believed: the public contracts do not name it.
-- Assumes nothing.
use Rattle.std.specs.Prelude.{Bool, true, false, Option, Some, None, List, ℕ, ◌≤◌, ◌<◌, length, drop}
use Rattle.strings.specs.Literals.{Hex, Four, Low, Letter, Escape}
use Rattle.strings.specs.declared.string.Escaped.{Escaped}

-- a test's answer
abbrev pub Says : Bool → Type 0 → Type 0
Says true A = A
Says false A = A → ⊥

-- the value of a hex digit, if the byte is one
abbrev pub Digit : ℕ → Option ℕ → Type 0
Digit b (Some v) = Hex b v
Digit b None = (v : ℕ) → Hex b v → ⊥

-- the number that four hex digits spell, if they stand there
abbrev pub Spelled : List ℕ → Option ℕ → Type 0
Spelled s (Some n) = (r : List ℕ) × Four s n r
Spelled s None = (n : ℕ) (r : List ℕ) → Four s n r → ⊥

-- the low half after `\u`, if one stands there
abbrev pub Halved : List ℕ → Option ℕ → Type 0
Halved s (Some lo) = (r : List ℕ) × Low s lo r
Halved s None = (lo : ℕ) (r : List ℕ) → Low s lo r → ⊥

-- what a letter after a backslash stands for, if it stands for anything
abbrev pub Meant : ℕ → Option ℕ → Type 0
Meant l (Some c) = Letter l c
Meant l None = (c : ℕ) → Letter l c → ⊥

-- an escape at i for the code point c, with j the place after it
abbrev pub EscapeTo : List ℕ → ℕ → ℕ → ℕ → Type 0
EscapeTo s i c j = Escape (drop i s) c (drop j s) × (i < j) × (j ≤ length s)

-- the escape at i, if one stands there
abbrev pub EscapeAt : List ℕ → ℕ → Option Escaped → Type 0
EscapeAt s i (Some e) = EscapeTo s i e.code e.next
EscapeAt s i None = (c : ℕ) (r : List ℕ) → Escape (drop i s) c r → ⊥
