-- Mass without depth: 02, Item 11. "This is the planner's list": the objects of an accepted image that raise mass and not depth, or depth and not
-- mass, or of which that is undecided.
-- Assumes nothing.
use Rattle.std.specs.Prelude.{◌≡◌, Result, Ok, Err, List, [], ◌∷◌, ◌++◌, ℕ, suc, ◌+◌, ◌-◌, ◌*◌, ◌≤◌, ◌<◌, length, get_or, replicate}
use Rattle.grammar.specs.Tags.{STRING, MEMBERS, OBJECT_COMP, FIELD}
use Rattle.grammar.specs.Trees.{Field, byte, number, span, text, Trees, node}
use Rattle.grammar.specs.Trees as trees
use Rattle.grammar.specs.Image.{entry, image}
use Rattle.images.specs.Images.{Accepted, Refused, needed}
use Rattle.images.specs.declared.Fault as images
use Rattle.images.specs.declared.Fault.TheVariants as back
use Rattle.mass.specs.declared.Fault.{Fault}
use Rattle.mass.specs.declared.Fault.TheVariants.{Image, ListShort}

-- ── Fields ────────────────────────────────────────────────────────────────────────────────────────

-- R54. `mass` and `depth` in bytes.
abbrev pub MASS : List ℕ
MASS = 109 ∷ 97 ∷ 115 ∷ 115 ∷ []

abbrev pub DEPTH : List ℕ
DEPTH = 100 ∷ 101 ∷ 112 ∷ 116 ∷ 104 ∷ []

-- R54. "a fixed field `mass` marked plus": a record, by its tag, fields and children, that is one of this name, which stands from a to e. (The first
-- child of a field is its name; what follows it is the value.)
pub data FixedPlus (name : List ℕ) (a e : ℕ) : ℕ → List Field → Trees → Type 0 where
  fixed_plus : {m n v : ℕ} {value : Trees} → FixedPlus name a e FIELD (span a e ∷ byte 0 ∷ byte 1 ∷ byte m ∷ number n ∷ byte v ∷ []) (node STRING (text name ∷ []) trees.none value)

-- R54. "any computed plus field"
pub data ComputedPlus : ℕ → List Field → Type 0 where
  computed_plus : {a e m n v : ℕ} → ComputedPlus FIELD (span a e ∷ byte 1 ∷ byte 1 ∷ byte m ∷ number n ∷ byte v ∷ [])

-- ── What an object's members say ──────────────────────────────────────────────────────────────────

-- R54. They raise what has this name; "the name span of the first such field" is from a to e.
pub data Raises (name : List ℕ) : Trees → ℕ → ℕ → Type 0 where
  first : {tag : ℕ} {fields : List Field} {children ts : Trees} {a e : ℕ} → FixedPlus name a e tag fields children → Raises name (node tag fields children ts) a e
  later : {tag : ℕ} {fields : List Field} {children ts : Trees} {a e : ℕ} → ((b f : ℕ) → FixedPlus name b f tag fields children → ⊥) → Raises name ts a e
      → Raises name (node tag fields children ts) a e

abbrev pub Leaves : List ℕ → Trees → Type 0
Leaves name members = (a e : ℕ) → Raises name members a e → ⊥

-- R54. Whether they raise anything is undecided: "An object with any computed plus field, even with both names or neither".
pub data Undecided : Trees → Type 0 where
  here : {tag : ℕ} {fields : List Field} {children ts : Trees} → ComputedPlus tag fields → Undecided (node tag fields children ts)
  later : {tag : ℕ} {fields : List Field} {children ts : Trees} → Undecided ts → Undecided (node tag fields children ts)

-- R55. "1 for `mass` alone or 2 for `depth`, and the name span of the first such field"; undecided "instead, as 0 and span 0,0".
pub data Lists (members : Trees) : ℕ → ℕ → ℕ → Type 0 where
  undecided : Undecided members → Lists members 0 0 0
  mass_alone : {a e : ℕ} → (Undecided members → ⊥) → Raises MASS members a e → Leaves DEPTH members → Lists members 1 a e
  depth_alone : {a e : ℕ} → (Undecided members → ⊥) → Raises DEPTH members a e → Leaves MASS members → Lists members 2 a e

-- ── Objects ───────────────────────────────────────────────────────────────────────────────────────

-- R55. "each member record (tag 9 or 10)"
pub data Braces : ℕ → Type 0 where
  members : Braces MEMBERS
  comprehension : Braces OBJECT_COMP

-- R55. A tree within trees whose image begins at an offset: the offset of its own record, the tag, fields and children.
pub data Subtree : ℕ → Trees → ℕ → ℕ → List Field → Trees → Type 0 where
  here : {at tag : ℕ} {fields : List Field} {children ts : Trees} → Subtree at (node tag fields children ts) (at + length (image children)) tag fields children
  inside : {at tag : ℕ} {fields : List Field} {children ts : Trees} {o t : ℕ} {f : List Field} {c : Trees} → Subtree at children o t f c → Subtree at (node tag fields children ts) o t f c
  beside : {at tag : ℕ} {fields : List Field} {children ts : Trees} {o t : ℕ} {f : List Field} {c : Trees}
      → Subtree (at + length (image children) + length (entry tag fields)) ts o t f c → Subtree at (node tag fields children ts) o t f c

-- R55. An object of the tree t, at this offset, with these members.
pub record Object (t : Trees) (offset : ℕ) (members : Trees) : Type 0 where
  pub tag : ℕ
  pub fields : List Field
  pub braces : Braces tag
  pub subtree : Subtree 0 t offset tag fields members

-- R54. A record among the roots of these trees, by its tag, fields and children.
pub data Among (tag : ℕ) (fields : List Field) (children : Trees) : Trees → Type 0 where
  here : {ts : Trees} → Among tag fields children (node tag fields children ts)
  later : {t : ℕ} {f : List Field} {c ts : Trees} → Among tag fields children ts → Among tag fields children (node t f c ts)

-- ── The list ──────────────────────────────────────────────────────────────────────────────────────

-- R55. "Each listing is four numbers"
pub data Listing : Type 0 where
  listing : ℕ → ℕ → ℕ → ℕ → Listing

abbrev pub offset : Listing → ℕ
offset (listing o k a e) = o

unfoldable pub numbers : List Listing → List ℕ
numbers [] = []
numbers (listing o k a e ∷ ls) = o ∷ k ∷ a ∷ e ∷ numbers ls

-- R55. Row i of a list of numbers, counted from 0.
abbrev pub row : List ℕ → ℕ → Listing
row list i = listing (get_or list (i * 4) 0) (get_or list (i * 4 + 1) 0) (get_or list (i * 4 + 2) 0) (get_or list (i * 4 + 3) 0)

-- R55. What is to be listed of t.
pub data Due (t : Trees) : Listing → Type 0 where
  due : {o k a e : ℕ} {members : Trees} → Object t o members → Lists members k a e → Due t (listing o k a e)

pub data In (l : Listing) : List Listing → Type 0 where
  first : {ls : List Listing} → In l (l ∷ ls)
  later : {m : Listing} {ls : List Listing} → In l ls → In l (m ∷ ls)

-- R55. Offsets ascend, from this one on.
pub data Ascends : ℕ → List Listing → Type 0 where
  none : {n : ℕ} → Ascends n []
  more : {n : ℕ} {l : Listing} {ls : List Listing} → n ≤ offset l → Ascends (suc (offset l)) ls → Ascends n (l ∷ ls)

-- R55. THE PLANNER'S LIST of a tree: "Every such object is listed once and no other", "in image order".
pub record Planned (t : Trees) (ls : List Listing) : Type 0 where
  pub complete : (l : Listing) → Due t l → In l ls
  pub sound : (l : Listing) → In l ls → Due t l
  pub in_order : Ascends 0 ls

-- ── The answer ────────────────────────────────────────────────────────────────────────────────────

-- The count of listings, or why there is no list.
abbrev pub Answer : Type 0
Answer = Result ℕ Fault

-- R56. Of an image, an array and a list of so many numbers: the answer, and the list as it is left.
pub data Answers (bytes : List ℕ) (room size : ℕ) : Answer → List ℕ → Type 0 where
  short : room < needed bytes → Answers bytes room size (Err (Image (back.Short (needed bytes)))) (replicate size 0)
  -- "Refusals: Item 1's"
  refused : {f : images.Fault} → needed bytes ≤ room → Refused bytes (Err f) → Answers bytes room size (Err (Image f)) (replicate size 0)
  -- "then 21 list too short, with the count needed; list zero"
  list_short : {t : Trees} {ls : List Listing} → needed bytes ≤ room → Accepted bytes t → Planned t ls → size < 4 * length ls
      → Answers bytes room size (Err (ListShort (length ls))) (replicate size 0)
  listed : {t : Trees} {ls : List Listing} → needed bytes ≤ room → Accepted bytes t → Planned t ls → 4 * length ls ≤ size
      → Answers bytes room size (Ok (length ls)) (numbers ls ++ replicate (size - 4 * length ls) 0)

-- R54 to R56. The same, with the array as it is left: all zero.
pub record MassDepth (bytes : List ℕ) (room size : ℕ) (a : Answer) (array list : List ℕ) : Type 0 where
  pub answers : Answers bytes room size a list
  pub zeros : array ≡ replicate room 0
