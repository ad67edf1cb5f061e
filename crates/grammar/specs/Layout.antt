-- How records are laid out, for whoever reads an image: 01's list of records once more, by the parts of their payloads, and by how many
-- children there are to a record. That every record that Records.antt allows is laid out so is proved (proofs/LayoutLaws.antt).
-- Assumes nothing.
use Rattle.std.specs.Prelude.{cond, List, [], ◌∷◌, ◌++◌, ℕ, ◌+◌, ◌-◌, ◌/◌, ◌%◌, ◌<◌, eqb, length, replicate}
use Rattle.grammar.specs.Tags.{IDENTITY, NULL, BOOL, NUMBER, STRING, VARIABLE, ARRAY, ARRAY_COMP, MEMBERS, OBJECT_COMP, EXTENSION, PREFIX, INFIX, ASSERT_EXPR, LOCAL, IMPORT, ERROR, CALL}
use Rattle.grammar.specs.Tags.{NAMED_ARGUMENT, INDEX_PART, FUNCTION, IF, SLICE, BIND, NAME_PATTERN, SKIP, ARRAY_PATTERN, OBJECT_PATTERN, PATTERN_FIELD, PARAMETER, FIELD, ASSERT, FOR, IF_CLAUSE, OBJECT_ITERATION}
use Rattle.grammar.specs.Trees.{Field, byte, number, span, text, Trees, count as size}
use Rattle.grammar.specs.Trees as trees

-- R41. A part of a payload, and the children that it tells of.
pub data Part : Type 0 where
  place : Part  -- a span
  words : Part  -- a name or a text, to the payload's end
  count : Part  -- a number: so many children
  has : Part  -- a flag: a child if it is set
  bits : Part  -- a byte below 8: a child for each of 1, 2 and 4
  below : ℕ → Part  -- a byte below this: a flag, or a place in an enum

-- R40. How many children every such record has, and the parts of its payload; or there is no such record.
pub data Layout : Type 0 where
  layout : ℕ → List Part → Layout
  unknown : Layout

pub data Row : Type 0 where
  row : ℕ → ℕ → List Part → Row  -- tag, children, parts

unfoldable pub rows : List Row
rows =
    row IDENTITY 0 (below 3 ∷ place ∷ []) ∷
    row NULL 0 [] ∷
    row BOOL 0 (below 2 ∷ []) ∷
    row NUMBER 0 (words ∷ []) ∷
    row STRING 0 (words ∷ []) ∷
    row VARIABLE 0 (place ∷ words ∷ []) ∷
    row ARRAY 0 (count ∷ []) ∷
    row ARRAY_COMP 1 (count ∷ []) ∷
    row MEMBERS 0 (count ∷ []) ∷
    row OBJECT_COMP 0 (count ∷ count ∷ []) ∷
    row EXTENSION 2 [] ∷
    row PREFIX 1 (below 4 ∷ []) ∷
    row INFIX 2 (below 20 ∷ place ∷ []) ∷
    row ASSERT_EXPR 2 [] ∷
    row LOCAL 1 (count ∷ []) ∷
    row IMPORT 1 (below 3 ∷ place ∷ []) ∷
    row ERROR 1 (place ∷ []) ∷
    row CALL 1 (place ∷ below 2 ∷ count ∷ count ∷ []) ∷
    row NAMED_ARGUMENT 1 (words ∷ []) ∷
    row INDEX_PART 2 (place ∷ below 2 ∷ below 2 ∷ []) ∷
    row FUNCTION 1 (place ∷ count ∷ []) ∷
    row IF 2 (place ∷ has ∷ []) ∷
    row SLICE 1 (bits ∷ place ∷ place ∷ place ∷ []) ∷
    row BIND 2 (below 2 ∷ count ∷ []) ∷
    row NAME_PATTERN 0 (place ∷ words ∷ []) ∷
    row SKIP 0 [] ∷
    row ARRAY_PATTERN 0 (count ∷ below 3 ∷ count ∷ words ∷ []) ∷
    row OBJECT_PATTERN 0 (count ∷ below 3 ∷ words ∷ []) ∷
    row PATTERN_FIELD 0 (has ∷ has ∷ place ∷ words ∷ []) ∷
    row PARAMETER 1 (has ∷ []) ∷
    row FIELD 2 (place ∷ below 2 ∷ below 2 ∷ below 2 ∷ count ∷ below 3 ∷ []) ∷
    row ASSERT 1 (place ∷ has ∷ []) ∷
    row FOR 2 [] ∷
    row IF_CLAUSE 1 (place ∷ []) ∷
    row OBJECT_ITERATION 2 (below 3 ∷ words ∷ []) ∷
    []

unfoldable pub layout_in : ℕ → List Row → Layout
layout_in tag [] = unknown
layout_in tag (row t own ps ∷ rest) = cond (eqb tag t) (layout own ps) (layout_in tag rest)

-- R40. The layout of a tag's records.
unfoldable pub layout_of : ℕ → Layout
unfolding layout_in rows
layout_of tag = layout_in tag rows

-- ── Records that are laid out so ──────────────────────────────────────────────────────────────────

-- R43. How many of its three parts a slice's byte has.
abbrev pub bits_in : ℕ → ℕ
bits_in b = b % 2 + (b / 2 % 2 + b / 4 % 2)

-- R41. The fields have these parts, which tell of n children.
pub data Laid : List Part → List Field → ℕ → Type 0 where
  over : Laid [] [] 0
  a_span : {a e n : ℕ} {ps : List Part} {fs : List Field} → Laid ps fs n → Laid (place ∷ ps) (span a e ∷ fs) n
  a_text : {w : List ℕ} → Laid (words ∷ []) (text w ∷ []) 0
  a_count : {m n : ℕ} {ps : List Part} {fs : List Field} → Laid ps fs n → Laid (count ∷ ps) (number m ∷ fs) (m + n)
  a_flag : {b n : ℕ} {ps : List Part} {fs : List Field} → b < 2 → Laid ps fs n → Laid (has ∷ ps) (byte b ∷ fs) (b + n)
  a_slice : {b n : ℕ} {ps : List Part} {fs : List Field} → b < 8 → Laid ps fs n → Laid (bits ∷ ps) (byte b ∷ fs) (bits_in b + n)
  a_byte : {m b n : ℕ} {ps : List Part} {fs : List Field} → b < m → Laid ps fs n → Laid (below m ∷ ps) (byte b ∷ fs) n

-- R40. A record of this layout with these fields has n children.
pub data Tells : Layout → List Field → ℕ → Type 0 where
  tells : {own n : ℕ} {ps : List Part} {fs : List Field} → Laid ps fs n → Tells (layout own ps) fs (own + n)

-- R40. Trees of which every record is laid out so, and has the children that it tells of.
pub data LaidOut : Trees → Type 0 where
  none : LaidOut trees.none
  node : {tag : ℕ} {fields : List Field} {children ts : Trees} → Tells (layout_of tag) fields (size children) → LaidOut children → LaidOut ts
      → LaidOut (trees.node tag fields children ts)

-- ── The same in numbers, by which `images` says what it takes of a payload ────────────────────────

unfoldable pub code : Part → ℕ
code place = 1
code words = 2
code count = 3
code has = 4
code bits = 5
code (below n) = 8 + n

unfoldable pub codes : List Part → List ℕ
unfolding code
codes [] = []
codes (p ∷ ps) = code p ∷ codes ps

-- The children, then the parts and zeros, seven numbers in all; 255 and zeros where there is no such record.
unfoldable pub numbers : Layout → List ℕ
unfolding codes
numbers (layout own ps) = own ∷ codes ps ++ replicate (6 - length ps) 0
numbers unknown = 255 ∷ replicate 6 0
