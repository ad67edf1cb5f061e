-- Trees: what a reading builds, and what the image writes down.
-- Assumes nothing.
use Rattle.std.specs.Prelude.{List, ℕ, suc}

-- R41. A field of a record. A flag and an enum's byte are bytes; a name and a text are texts.
pub data Field : Type 0 where
  byte : ℕ → Field
  number : ℕ → Field
  span : ℕ → ℕ → Field
  text : List ℕ → Field

-- R40. A row of trees: none, or a first tree (its record's tag and fields, the row of its children) and the row to its right.
pub data Trees : Type 0 where
  none : Trees
  node : ℕ → List Field → Trees → Trees → Trees

-- R40. A row of one tree.
abbrev pub tree : ℕ → List Field → Trees → Trees
tree tag fields children = node tag fields children none

infixl 65 ◌⊕◌
-- R40. Two rows side by side.
unfoldable pub ◌⊕◌ : Trees → Trees → Trees
◌⊕◌ none us = us
◌⊕◌ (node tag fields children ts) us = node tag fields children (ts ⊕ us)

-- R40. How many trees stand in a row.
unfoldable pub count : Trees → ℕ
count none = 0
count (node tag fields children ts) = suc (count ts)
