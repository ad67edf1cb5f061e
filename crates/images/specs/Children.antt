-- A record's children, told twice: by the tree, and by the lent array. That both are the same is proved (proofs/Children.antt).
-- Assumes nothing.
use Rattle.std.specs.Prelude.{List, [], ◌∷◌, ◌++◌, ℕ, suc, ◌+◌, ◌*◌, ◌≤◌, length, get_or}
use Rattle.grammar.specs.Trees.{Field, Trees, none, node}
use Rattle.grammar.specs.Image.{entry, image}
use Rattle.images.specs.Images.{records}

-- ── By the tree ───────────────────────────────────────────────────────────────────────────────────

-- R40. A record of an image: its number in the image's order, the offset of its own bytes, its tag and fields, and the numbers of its children in their order.
pub record Record : Type 0 where
  pub number : ℕ
  pub offset : ℕ
  pub tag : ℕ
  pub fields : List Field
  pub children : List ℕ

-- R40. The numbers of the roots of a row whose records are numbered from `first` on: each stands behind the records of its children.
unfoldable pub root_numbers : ℕ → Trees → List ℕ
root_numbers first none = []
root_numbers first (node tag fields children ts) = (first + records children) ∷ root_numbers (first + records children + 1) ts

-- R40. The records of a row that begins at an offset, with a number.
pub data Holds : ℕ → ℕ → Trees → Record → Type 0 where
  root : {at first tag : ℕ} {fields : List Field} {children ts : Trees}
      → Holds at first (node tag fields children ts) (record { number = first + records children; offset = at + length (image children); tag = tag; fields = fields; children = root_numbers first children })
  under : {at first tag : ℕ} {fields : List Field} {children ts : Trees} {r : Record} → Holds at first children r → Holds at first (node tag fields children ts) r
  beside : {at first tag : ℕ} {fields : List Field} {children ts : Trees} {r : Record}
      → Holds (at + length (image children) + length (entry tag fields)) (first + records children + 1) ts r → Holds at first (node tag fields children ts) r

-- ── By the array ──────────────────────────────────────────────────────────────────────────────────

-- R53. The number of the first record of a record's own tree.
abbrev pub first_of : List ℕ → ℕ → ℕ
first_of array i = get_or array (i * 2 + 1) 0

-- R53. "A record's last child is the record before it, and before the first record of that child's tree stands the next", until `first` is reached.
pub data Backward (array : List ℕ) (first : ℕ) : ℕ → List ℕ → Type 0 where
  over : Backward array first first []
  child : {m : ℕ} {before : List ℕ} → first ≤ m → Backward array first (first_of array m) before → Backward array first (suc m) (before ++ m ∷ [])

-- R53. These are the children of record i.
abbrev pub Found : List ℕ → ℕ → List ℕ → Type 0
Found array i children = Backward array (first_of array i) i children
