-- The rule of the minutes, "Change one, change the other", as the planner's list keeps it.
-- Assumes nothing.
use Rattle.std.specs.Prelude.{◌≡◌, List, ℕ, ◌<◌}
use Rattle.grammar.specs.Trees.{Field, Trees}
use Rattle.mass.specs.Mass.{DEPTH, Raises, Undecided, Object, Among, listing, row}

-- R54, R55. An object in which mass is raised: depth is raised too, or it is listed for mass alone, or it is undecided and listed so. The list is of n rows.
pub data Accounted (n : ℕ) (list : List ℕ) (offset : ℕ) (members : Trees) : Type 0 where
  both : {a e : ℕ} → Raises DEPTH members a e → Accounted n list offset members
  alone : {i a e : ℕ} → i < n → row list i ≡ listing offset 1 a e → Accounted n list offset members
  undecided : {i : ℕ} → Undecided members → i < n → row list i ≡ listing offset 0 0 0 → Accounted n list offset members

-- R54. A record of the tree t is an object's own, and this object is accounted for.
pub record Minuted (t : Trees) (n : ℕ) (list : List ℕ) (tag : ℕ) (fields : List Field) (children : Trees) : Type 0 where
  pub offset : ℕ
  pub members : Trees
  pub object : Object t offset members
  pub own : Among tag fields children members
  pub accounted : Accounted n list offset members
