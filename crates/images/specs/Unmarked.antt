-- Trees without marks, as images from before Item 8 have them. That an image is old exactly when it is such a tree's is proved (proofs/OldImages.antt).
-- Assumes nothing.
use Rattle.std.specs.Prelude.{◌≡◌, cond, List, ℕ, eqb, take}
use Rattle.grammar.specs.Tags.{INFIX}
use Rattle.grammar.specs.Trees.{Field, Trees, none, node}
use Rattle.images.specs.Images.{Age, old, new, Accepted}

-- R51. Item 8: "The infix record gains the operator lexeme's span after its byte." Without it the byte is left.
abbrev pub operator_alone : List Field → List Field
operator_alone fields = take 1 fields

-- R51. Every other record is as it is.
unfoldable pub unmarked_fields : ℕ → List Field → List Field
unmarked_fields tag fields = cond (eqb tag INFIX) (operator_alone fields) fields

unfoldable pub unmarked : Trees → Trees
unfolding unmarked_fields
unmarked none = none
unmarked (node tag fields children ts) = node tag (unmarked_fields tag fields) (unmarked children) (unmarked ts)

-- R51. "so its length becomes 5"; "Images of length 1 from before".
abbrev pub infix_length : Age → ℕ
infix_length old = 1
infix_length new = 5

-- R51. Accepted as an image of that age.
pub record AcceptedAs (age : Age) (bytes : List ℕ) (t : Trees) : Type 0 where
  pub accepted : Accepted bytes t
  pub aged : accepted.age ≡ age
