-- An answer to an image as C gets it: three numbers, "number, offset, count".
-- Assumes nothing.
use Rattle.std.specs.Prelude.{◌≡◌, List, ℕ, get_or}
use Rattle.images.specs.Numbers.{Numbers, numbers}
use Rattle.images.specs.Images.{Answer, ReadsBack}
use Rattle.mass.specs.Numbers as listed
use Rattle.mass.specs.Mass.{MassDepth}
use Rattle.mass.specs.Mass as mass

abbrev pub three : List ℕ → Numbers
three a = record { number = get_or a 0 0; offset = get_or a 1 0; count = get_or a 2 0 }

-- Of an image and an array of so many numbers: 02's numbers for the answer, and the array as it is left.
pub record Back02 (image : List ℕ) (room : ℕ) (n : Numbers) (links : List ℕ) : Type 0 where
  pub answer : Answer
  pub reads : ReadsBack image room answer links
  pub told : n ≡ numbers answer

-- Of an image, an array and a list of so many numbers: 02's numbers for the answer, and both as they are left.
pub record Mass02 (image : List ℕ) (room size : ℕ) (n : Numbers) (links list : List ℕ) : Type 0 where
  pub answer : mass.Answer
  pub lists : MassDepth image room size answer links list
  pub told : n ≡ listed.numbers answer
