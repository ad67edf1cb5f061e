-- What the functions promise each other. No public contract cites these.
-- Assumes nothing.
use Rattle.std.specs.Prelude.{◌≡◌, Bool, true, Option, None, Some, List, ◌∷◌, ◌++◌, ℕ, ◌+◌, ◌-◌, ◌*◌, ◌≤◌, ◌<◌, length, take, drop, replicate}
use Rattle.grammar.specs.Trees.{Field, Trees, tree}
use Rattle.grammar.specs.Image.{image}
use Rattle.images.specs.Images.{Age, Row, records, links, Accepted}
use Rattle.mass.specs.Mass.{MASS, DEPTH, FixedPlus, ComputedPlus, Raises, Leaves, Undecided, Lists, Braces, Listing, numbers, Planned}
use Rattle.mass.specs.declared.members.Own.{Own}
use Rattle.mass.specs.declared.members.Added.{Added}
use Rattle.mass.specs.declared.members.Added.TheVariants.{Mass, Depth, Computed}
use Rattle.mass.specs.declared.members.Kind.{Kind}
use Rattle.mass.specs.declared.members.Kind.TheVariants.{Undecided as IsUndecided, Mass as MassAlone, Depth as DepthAlone}
use Rattle.mass.specs.declared.members.Listed as found
pub use Rattle.images.specs.Images.{two_at}

-- ── Where trees stand ─────────────────────────────────────────────────────────────────────────────

-- Trees side by side: in the image from an offset on, and their links in the array from a record's number on.
pub record Standing (bytes array : List ℕ) (at first : ℕ) (ts : Trees) : Type 0 where
  pub age : Age
  pub row : Row age ts
  pub after : List ℕ
  pub split : drop at bytes ≡ image ts ++ after
  pub links_after : List ℕ
  pub linked : drop (first * 2) array ≡ links at first ts ++ links_after

-- Some trees stand there that have the records from first up to n.
pub record SomeTrees (bytes array : List ℕ) (first n : ℕ) : Type 0 where
  pub at : ℕ
  pub ts : Trees
  pub standing : Standing bytes array at first ts
  pub many : n ≡ first + records ts

-- Record n: a tree stands there whose root it is.
pub record Root (bytes array : List ℕ) (n tag : ℕ) (fields : List Field) (children : Trees) : Type 0 where
  pub at : ℕ
  pub first : ℕ
  pub standing : Standing bytes array at first (tree tag fields children)
  pub number : n ≡ first + records children

pub record SomeRoot (bytes array : List ℕ) (n : ℕ) : Type 0 where
  pub tag : ℕ
  pub fields : List Field
  pub children : Trees
  pub root : Root bytes array n tag fields children

-- ── What a member adds, and what all of them do ───────────────────────────────────────────────────

pub data Calls (name : List ℕ) : Option Added → Type 0 where
  mass : name ≡ MASS → Calls name (Some Mass)
  depth : name ≡ DEPTH → Calls name (Some Depth)
  other : (name ≡ MASS → ⊥) → (name ≡ DEPTH → ⊥) → Calls name None

pub data Adds (tag : ℕ) (fields : List Field) (children : Trees) : Option Added → Type 0 where
  nothing : ((a e : ℕ) → FixedPlus MASS a e tag fields children → ⊥) → ((a e : ℕ) → FixedPlus DEPTH a e tag fields children → ⊥) → (ComputedPlus tag fields → ⊥)
      → Adds tag fields children None
  mass : {a e : ℕ} → FixedPlus MASS a e tag fields children → Adds tag fields children (Some Mass)
  depth : {a e : ℕ} → FixedPlus DEPTH a e tag fields children → Adds tag fields children (Some Depth)
  computed : ComputedPlus tag fields → Adds tag fields children (Some Computed)

-- Of record n.
pub record AddsAs (bytes array : List ℕ) (n : ℕ) (added : Option Added) : Type 0 where
  pub each : (tag : ℕ) (fields : List Field) (children : Trees) → Root bytes array n tag fields children → Adds tag fields children added

-- With what one member more adds, whose record has this offset.
abbrev pub plus : Own → Option Added → ℕ → Own
plus own None at = own
plus own (Some Mass) at = record { undecided = own.undecided; mass = Some at; depth = own.depth }
plus own (Some Depth) at = record { undecided = own.undecided; mass = own.mass; depth = Some at }
plus own (Some Computed) at = record { undecided = true; mass = own.mass; depth = own.depth }

-- A field by its record's offset, which is never 0, its name standing before it.
pub data Spot (bytes : List ℕ) (name : List ℕ) (members : Trees) : Option ℕ → Type 0 where
  nowhere : Leaves name members → Spot bytes name members None
  at : {o : ℕ} → 0 < o → o + 6 < length bytes → Raises name members (two_at bytes (o + 3)) (two_at bytes (o + 5)) → Spot bytes name members (Some o)

pub record SumsUp (bytes : List ℕ) (members : Trees) (undecided : Bool) (mass depth : Option ℕ) : Type 0 where
  pub if_so : undecided ≡ true → Undecided members
  pub so : Undecided members → undecided ≡ true
  pub on_mass : Spot bytes MASS members mass
  pub on_depth : Spot bytes DEPTH members depth

-- Of the trees that have the records from first up to n.
pub record RaisedBy (bytes array : List ℕ) (first n : ℕ) (own : Own) : Type 0 where
  pub each : (at : ℕ) (ts : Trees) → Standing bytes array at first ts → n ≡ first + records ts → SumsUp bytes ts own.undecided own.mass own.depth

-- ── Listings ──────────────────────────────────────────────────────────────────────────────────────

-- What is listed of a record.
abbrev pub kind_code : Kind → ℕ
kind_code IsUndecided = 0
kind_code MassAlone = 1
kind_code DepthAlone = 2

pub data Shows (tag : ℕ) (children : Trees) : Option found.Listed → Type 0 where
  nothing : ((k a e : ℕ) → Braces tag → Lists children k a e → ⊥) → Shows tag children None
  listed : {l : found.Listed} → Braces tag → Lists children (kind_code l.kind) l.start l.end → Shows tag children (Some l)

pub record ShownOf (bytes array : List ℕ) (n : ℕ) (shown : Option found.Listed) : Type 0 where
  pub each : (tag : ℕ) (fields : List Field) (children : Trees) → Root bytes array n tag fields children → Shows tag children shown

-- Four numbers at their place, if there is room for them.
pub record Stores (before : List ℕ) (count o k a e : ℕ) (after : List ℕ) : Type 0 where
  pub long : length after ≡ length before
  pub stored : count * 4 + 4 ≤ length before → after ≡ take (count * 4) before ++ (o ∷ k ∷ a ∷ e ∷ drop (count * 4 + 4) before)

-- The whole image, accepted, and the array that `back` leaves.
pub record Given (bytes array : List ℕ) (n : ℕ) (t : Trees) : Type 0 where
  pub accepted : Accepted bytes t
  pub rest : List ℕ
  pub linked : array ≡ links 0 0 t ++ rest
  pub many : n ≡ records t

pub record SomeGiven (bytes array : List ℕ) (n : ℕ) : Type 0 where
  pub t : Trees
  pub given : Given bytes array n t

-- The planner's list, in a list of numbers that is long enough.
pub record Filled (size : ℕ) (t : Trees) (count : ℕ) (list : List ℕ) : Type 0 where
  pub ls : List Listing
  pub planned : Planned t ls
  pub counted : count ≡ length ls
  pub long : length list ≡ size
  pub filled : 4 * length ls ≤ size → list ≡ numbers ls ++ replicate (size - 4 * length ls) 0

pub record Fills (bytes array : List ℕ) (n size count : ℕ) (list : List ℕ) : Type 0 where
  pub each : (t : Trees) → Given bytes array n t → Filled size t count list
