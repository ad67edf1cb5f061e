-- Values of a JSON text: RFC 8259, sections 3, 4 and 5, with the trees that they are, and where the reading of one breaks off.
-- Assumes nothing.
use Rattle.std.specs.Prelude.{◌≡◌, Bool, true, ◌||◌, List, [], ◌∷◌, ℕ, ◌+◌, eqb}
use Rattle.numerals.specs.Value.{is_digit}
use Rattle.grammar.specs.Tags.{NULL, BOOL, NUMBER, STRING, ARRAY, MEMBERS, PREFIX, FIELD}
use Rattle.grammar.specs.Numbers.{DEPTH, LARGE}
use Rattle.grammar.specs.Trees.{byte, number, span, text, Trees, none, tree, ◌⊕◌, count}
use Rattle.json_import.specs.Tokens.{At, ◌▹◌, Ws, Closes, Around, Literal, String}

-- R65. The records of a station file are those that the same text has as Jsonnet. A leaf with a text; a negative number, which is the prefix
-- minus (byte 1) over a number; a field: its name's span with the quotes, nothing computed, no plus, no method, `:`.
abbrev pub leaf : ℕ → List ℕ → Trees
leaf tag w = tree tag (text w ∷ []) none

abbrev pub negative : Trees → Trees
negative t = tree PREFIX (byte 1 ∷ []) t

abbrev pub field : List ℕ → ℕ → ℕ → Trees → Trees
field w a e t = tree FIELD (span a e ∷ byte 0 ∷ byte 0 ∷ byte 0 ∷ number 0 ∷ byte 0 ∷ []) (leaf STRING w ⊕ t)

abbrev pub array : Trees → Trees
array ts = tree ARRAY (number (count ts) ∷ []) ts

abbrev pub object : Trees → Trees
object ts = tree MEMBERS (number (count ts) ∷ []) ts

-- R62. The bytes that can begin a value: `{ [ " - f n t` and the digits.
abbrev pub can_begin : ℕ → Bool
can_begin b = eqb b 0x7B || (eqb b 0x5B || (eqb b 0x22 || (eqb b 0x2D || (eqb b 0x66 || (eqb b 0x6E || (eqb b 0x74 || is_digit b))))))

-- R62. "member = string name-separator value", up to the value: the name's text, from where to where it stands, and where the value begins.
pub data Named : At → List ℕ → ℕ → ℕ → At → Type 0 where
  named : {a e : ℕ} {s r w : List ℕ} {h : At} → String (a ▹ s) w (e ▹ r) → Around 0x3A (e ▹ r) h → Named (a ▹ s) w a e h

-- R62. A value; a number without its minus; "value *( value-separator value ) end-array"; "member *( value-separator member ) end-object".
pub data Part : Type 0 where
  value unsigned elements members : Part

-- R66. What becomes of a part: its trees, and where it ends; or broken off, with number, start and end.
pub data Outcome : Type 0 where
  done : Trees → At → Outcome
  broken : ℕ → ℕ → ℕ → Outcome

-- R62, R66. `Reads Deep Large part k h o`: within k open values the part that begins at h has the outcome o. `Deep k` says that k open values
-- leave no room for one more, `Large w` that no number may be w.
pub data Reads (Deep : ℕ → Type 0) (Large : List ℕ → Type 0) : Part → ℕ → At → Outcome → Type 0 where
  -- "start = end = where that value or number begins, given only if a byte that can begin it is there"
  too_deep : {k i b : ℕ} {s : List ℕ} → Deep k → can_begin b ≡ true → Reads Deep Large value k (i ▹ b ∷ s) (broken DEPTH i i)
  -- "false / null / true"
  a_false : {k i : ℕ} {s : List ℕ} → (Deep k → ⊥)
      → Reads Deep Large value k (i ▹ 0x66 ∷ 0x61 ∷ 0x6C ∷ 0x73 ∷ 0x65 ∷ s) (done (tree BOOL (byte 0 ∷ []) none) (i + 5 ▹ s))
  a_null : {k i : ℕ} {s : List ℕ} → (Deep k → ⊥) → Reads Deep Large value k (i ▹ 0x6E ∷ 0x75 ∷ 0x6C ∷ 0x6C ∷ s) (done (tree NULL [] none) (i + 4 ▹ s))
  a_true : {k i : ℕ} {s : List ℕ} → (Deep k → ⊥) → Reads Deep Large value k (i ▹ 0x74 ∷ 0x72 ∷ 0x75 ∷ 0x65 ∷ s) (done (tree BOOL (byte 1 ∷ []) none) (i + 4 ▹ s))
  -- "string"
  a_string : {k : ℕ} {h g : At} {w : List ℕ} → (Deep k → ⊥) → String h w g → Reads Deep Large value k h (done (leaf STRING w) g)
  -- "number = [ minus ] ..": 02, "one for each minus sign"
  positive : {k : ℕ} {h : At} {o : Outcome} → Reads Deep Large unsigned k h o → Reads Deep Large value k h o
  minus : {k i : ℕ} {s : List ℕ} {t : Trees} {g : At} → (Deep k → ⊥) → Reads Deep Large unsigned (k + 1) (i + 1 ▹ s) (done t g)
      → Reads Deep Large value k (i ▹ 0x2D ∷ s) (done (negative t) g)
  minus_broken : {k i n a e : ℕ} {s : List ℕ} → (Deep k → ⊥) → Reads Deep Large unsigned (k + 1) (i + 1 ▹ s) (broken n a e)
      → Reads Deep Large value k (i ▹ 0x2D ∷ s) (broken n a e)
  deep_number : {k i b : ℕ} {s : List ℕ} → Deep k → is_digit b ≡ true → Reads Deep Large unsigned k (i ▹ b ∷ s) (broken DEPTH i i)
  a_number : {k : ℕ} {h g : At} {w : List ℕ} → (Deep k → ⊥) → Literal h w g → (Large w → ⊥) → Reads Deep Large unsigned k h (done (leaf NUMBER w) g)
  -- R67. 17 "at the literal without its minus"
  large : {k i j : ℕ} {s r w : List ℕ} → (Deep k → ⊥) → Literal (i ▹ s) w (j ▹ r) → Large w → Reads Deep Large unsigned k (i ▹ s) (broken LARGE i j)
  -- "array = begin-array [ value *( value-separator value ) ] end-array"
  empty_array : {k i : ℕ} {s : List ℕ} {g : At} → (Deep k → ⊥) → Closes 0x5D (i + 1 ▹ s) g → Reads Deep Large value k (i ▹ 0x5B ∷ s) (done (array none) g)
  an_array : {k i : ℕ} {s : List ℕ} {h g : At} {ts : Trees} → (Deep k → ⊥) → Ws (i + 1 ▹ s) h → Reads Deep Large elements (k + 1) h (done ts g)
      → Reads Deep Large value k (i ▹ 0x5B ∷ s) (done (array ts) g)
  array_broken : {k i n a e : ℕ} {s : List ℕ} {h : At} → (Deep k → ⊥) → Ws (i + 1 ▹ s) h → Reads Deep Large elements (k + 1) h (broken n a e)
      → Reads Deep Large value k (i ▹ 0x5B ∷ s) (broken n a e)
  last_element : {k : ℕ} {h m g : At} {t : Trees} → Reads Deep Large value k h (done t m) → Closes 0x5D m g → Reads Deep Large elements k h (done t g)
  next_element : {k : ℕ} {h m n g : At} {t ts : Trees} → Reads Deep Large value k h (done t m) → Around 0x2C m n → Reads Deep Large elements k n (done ts g)
      → Reads Deep Large elements k h (done (t ⊕ ts) g)
  element_broken : {k n a e : ℕ} {h : At} → Reads Deep Large value k h (broken n a e) → Reads Deep Large elements k h (broken n a e)
  elements_broken : {k n a e : ℕ} {h m l : At} {t : Trees} → Reads Deep Large value k h (done t m) → Around 0x2C m l → Reads Deep Large elements k l (broken n a e)
      → Reads Deep Large elements k h (broken n a e)
  -- "object = begin-object [ member *( value-separator member ) ] end-object"; "duplicate names stay"
  empty_object : {k i : ℕ} {s : List ℕ} {g : At} → (Deep k → ⊥) → Closes 0x7D (i + 1 ▹ s) g → Reads Deep Large value k (i ▹ 0x7B ∷ s) (done (object none) g)
  an_object : {k i : ℕ} {s : List ℕ} {h g : At} {ts : Trees} → (Deep k → ⊥) → Ws (i + 1 ▹ s) h → Reads Deep Large members (k + 1) h (done ts g)
      → Reads Deep Large value k (i ▹ 0x7B ∷ s) (done (object ts) g)
  object_broken : {k i n a e : ℕ} {s : List ℕ} {h : At} → (Deep k → ⊥) → Ws (i + 1 ▹ s) h → Reads Deep Large members (k + 1) h (broken n a e)
      → Reads Deep Large value k (i ▹ 0x7B ∷ s) (broken n a e)
  last_member : {k a e : ℕ} {h v m g : At} {w : List ℕ} {t : Trees} → Named h w a e v → Reads Deep Large value k v (done t m) → Closes 0x7D m g
      → Reads Deep Large members k h (done (field w a e t) g)
  next_member : {k a e : ℕ} {h v m n g : At} {w : List ℕ} {t ts : Trees} → Named h w a e v → Reads Deep Large value k v (done t m) → Around 0x2C m n
      → Reads Deep Large members k n (done ts g) → Reads Deep Large members k h (done (field w a e t ⊕ ts) g)
  member_broken : {k a e n b c : ℕ} {h v : At} {w : List ℕ} → Named h w a e v → Reads Deep Large value k v (broken n b c) → Reads Deep Large members k h (broken n b c)
  members_broken : {k a e n b c : ℕ} {h v m l : At} {w : List ℕ} {t : Trees} → Named h w a e v → Reads Deep Large value k v (done t m) → Around 0x2C m l
      → Reads Deep Large members k l (broken n b c) → Reads Deep Large members k h (broken n b c)
