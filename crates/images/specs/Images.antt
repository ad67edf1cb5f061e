-- Reading an image back: 02, Item 1, with Item 8's two kinds of infix records. What is accepted is stated over derivations; what is refused, by
-- the first record that cannot stand there.
-- Assumes nothing.
use Rattle.std.specs.Prelude.{◌≡◌, cond, Result, Ok, Err, List, [], ◌∷◌, ◌++◌, ℕ, suc, ◌+◌, ◌-◌, ◌*◌, ◌/◌, ◌≤◌, ◌<◌, eqb, length, get_or, replicate}
use Rattle.grammar.specs.Tags.{INFIX}
use Rattle.grammar.specs.Trees.{Field, span, Trees, none, node, tree, ◌⊕◌, count}
use Rattle.grammar.specs.Image.{entry, image}
use Rattle.grammar.specs.Records.{Sort, Spans, Obeys}
use Rattle.grammar.specs.Layout.{Layout, layout_of, Tells}
use Rattle.grammar.specs.Answer.{prefix_power}
use Rattle.grammar.specs.Derived.{Spanned, Derived}
use Rattle.images.specs.declared.Fault.{Fault}
use Rattle.images.specs.declared.Fault.TheVariants.{Unknown, Malformed, Children, Underived, Short}

-- "Numbers are two bytes, high first"
abbrev pub two_at : List ℕ → ℕ → ℕ
two_at bytes at = get_or bytes at 0 * 256 + get_or bytes (at + 1) 0

-- ── Old images ────────────────────────────────────────────────────────────────────────────────────

-- R51. Item 8: "Images of length 1 from before still read under Item 1, shown without a mark, and one image may not hold both kinds."
pub data Age : Type 0 where
  old new : Age

-- R51. The fields of a record in an image of that age, as the table of records has them: an old infix record has no span, and 0, 0 stands for it.
unfoldable pub dated : Age → ℕ → List Field → List Field
dated new tag fields = fields
dated old tag fields = cond (eqb tag INFIX) (fields ++ span 0 0 ∷ []) fields

unfoldable pub dated_trees : Age → Trees → Trees
unfolding dated
dated_trees age none = none
dated_trees age (node tag fields children ts) = node tag (dated age tag fields) (dated_trees age children) (dated_trees age ts)

-- ── What is accepted ──────────────────────────────────────────────────────────────────────────────

-- R50. "It accepts exactly the images that some derivation of 01's rules under setting 7 gives, with the limits on source length and depth left out
-- and spans disregarded, but span ends must not precede starts": these bytes are the image of t. (Of spans also "where absent, not 0".)
pub record Accepted (bytes : List ℕ) (t : Trees) : Type 0 where
  pub age : Age
  pub derived : Derived (prefix_power 7) 7 (dated_trees age t)
  pub spanned : Spanned (dated_trees age t)
  pub written : bytes ≡ image t

-- ── What becomes of an image ──────────────────────────────────────────────────────────────────────

-- The number of its records, or why it is refused.
abbrev pub Answer : Type 0
Answer = Result ℕ Fault

-- ── What is refused ───────────────────────────────────────────────────────────────────────────────

-- R52. Trees side by side, each as the table of records has it.
pub record Row (age : Age) (ts : Trees) : Type 0 where
  pub sorts : List Sort
  pub obeys : Obeys Spans.forward sorts (dated_trees age ts)

-- R52. "the first bad record deciding": the records before it are trees side by side, and `rest` is what follows them.
pub record Before (bytes : List ℕ) (ts : Trees) (rest : List ℕ) : Type 0 where
  pub age : Age
  pub row : Row age ts
  pub split : bytes ≡ image ts ++ rest

-- R52. A record of this tag stands next, of the right length, its flags and enum bytes in range, of the same kind as the infix records before it;
-- it tells of n children.
pub record Stands (ts : Trees) (rest : List ℕ) (tag n : ℕ) : Type 0 where
  pub age : Age
  pub row : Row age ts
  pub fields : List Field
  pub after : List ℕ
  pub here : rest ≡ entry tag fields ++ after
  pub told : Tells (layout_of tag) (dated age tag fields) n

-- R52. With the record that stands next, and the last trees as its children, there are trees side by side again.
pub record More (ts : Trees) (rest : List ℕ) : Type 0 where
  pub age : Age
  pub tag : ℕ
  pub fields : List Field
  pub us : Trees
  pub children : Trees
  pub after : List ℕ
  pub roots : ts ≡ us ⊕ children
  pub here : rest ≡ entry tag fields ++ after
  pub row : Row age (us ⊕ tree tag fields children)

-- R52. Why an image is refused, and at which offset.
pub data Refused (bytes : List ℕ) : Answer → Type 0 where
  -- "13 unknown tag"
  unknown : {ts : Trees} {tag : ℕ} {rest : List ℕ} → Before bytes ts (tag ∷ rest) → layout_of tag ≡ Layout.unknown → Refused bytes (Err (Unknown (length (image ts))))
  -- "14 wrong length, flag or enum byte"; "a cut header is 14"; "a mixture is 14, at the first record that disagrees with the first infix record"
  malformed : {ts : Trees} {tag : ℕ} {rest : List ℕ} → Before bytes ts (tag ∷ rest) → (layout_of tag ≡ Layout.unknown → ⊥)
      → ((n : ℕ) → Stands ts (tag ∷ rest) tag n → ⊥) → Refused bytes (Err (Malformed (length (image ts))))
  -- "15 children missing"
  missing : {ts : Trees} {rest : List ℕ} {tag n : ℕ} → Before bytes ts rest → Stands ts rest tag n → count ts < n → Refused bytes (Err (Children (length (image ts))))
  -- "16 a text, name, shape .. that no derivation gives, or a span backward or, where absent, not 0"
  underived : {ts : Trees} {rest : List ℕ} {tag n : ℕ} → Before bytes ts rest → Stands ts rest tag n → n ≤ count ts → (More ts rest → ⊥)
      → Refused bytes (Err (Underived (length (image ts))))
  -- "an empty image, or roots left over at the end, is 15 at the image's length"
  left_over : {ts : Trees} → Before bytes ts [] → (count ts ≡ 1 → ⊥) → Refused bytes (Err (Children (length bytes)))
  -- 16 "a .. lone root that no derivation gives", at its own record
  lone_root : {tag : ℕ} {fields : List Field} {children : Trees} (b : Before bytes (tree tag fields children) [])
      → (Derived (prefix_power 7) 7 (dated_trees b.age (tree tag fields children)) → ⊥) → Refused bytes (Err (Underived (length (image children))))

-- ── The lent array ────────────────────────────────────────────────────────────────────────────────

-- R50. How many records a row of trees has.
unfoldable pub records : Trees → ℕ
records none = 0
records (node tag fields children ts) = records children + suc (records ts)

-- R53. For each record its offset and the number of the first record of its own tree; of a row that begins at an offset, with a number.
unfoldable pub links : ℕ → ℕ → Trees → List ℕ
links at first none = []
links at first (node tag fields children ts) =
    links at first children ++ (at + length (image children)) ∷ first ∷ links (at + length (image children) + length (entry tag fields)) (first + records children + 1) ts

-- R53. Two numbers for every three bytes.
abbrev pub needed : List ℕ → ℕ
needed bytes = length bytes / 3 * 2

-- ── The answer ────────────────────────────────────────────────────────────────────────────────────

-- R50 to R53. Of an image and an array of so many numbers: the answer, and the array as it is left.
pub data ReadsBack (bytes : List ℕ) (room : ℕ) : Answer → List ℕ → Type 0 where
  -- "24 the array is shorter", "before all others"
  short : room < needed bytes → ReadsBack bytes room (Err (Short (needed bytes))) (replicate room 0)
  accepted : {t : Trees} → needed bytes ≤ room → Accepted bytes t → ReadsBack bytes room (Ok (records t)) (links 0 0 t ++ replicate (room - 2 * records t) 0)
  refused : {b : Answer} → needed bytes ≤ room → Refused bytes b → ReadsBack bytes room b (replicate room 0)
