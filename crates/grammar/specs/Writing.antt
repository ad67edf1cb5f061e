-- What a writer promises: bytes at a place of the output, as far as there is room.
-- Assumes nothing.
use Rattle.std.specs.Prelude.{◌≡◌, List, ℕ, ◌+◌, length}
use Rattle.std.proofs.lemmas.List.Edits.{sets}

-- From w on stand these bytes (`sets` stores nothing past the end), and the count, which runs on when the output is full, is w₁.
pub record Wrote (out : List ℕ) (w : ℕ) (bytes : List ℕ) (w₁ : ℕ) (out₁ : List ℕ) : Type 0 where
  pub to : w₁ ≡ w + length bytes
  pub stored : out₁ ≡ sets out w bytes
