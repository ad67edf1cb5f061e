-- On the way to `ValidTo`: what the functions that look for it promise each other.
-- Assumes nothing.
use Rattle.std.specs.Prelude.{ℕ, ◌+◌, ◌≤◌, ◌<◌, length, take, get_or, List}
use Rattle.strings.specs.Utf8.{Utf8, ValidTo}

-- Of n bytes from a place on none is above m.
pub record NoneAbove (s : List ℕ) (from n m : ℕ) : Type 0 where
  pub at_most : (k : ℕ) → k < n → get_or s (from + k) 0 ≤ m

-- The bytes before a place are UTF-8.
pub record ValidSoFar (s : List ℕ) (at : ℕ) : Type 0 where
  pub within : at ≤ length s
  pub valid : Utf8 (take at s)

-- Characters reach a place, if not further; or they stop before it, and nothing longer is UTF-8.
pub data ValidUpTo (s : List ℕ) (to at : ℕ) : Type 0 where
  reached : to ≤ at → ValidSoFar s at → ValidUpTo s to at
  stopped : at < to → ValidTo s at → ValidUpTo s to at
