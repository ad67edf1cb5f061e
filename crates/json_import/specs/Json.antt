-- The whole answer for a station file: document 02, Item 6. For a text and the length of the output: which number, with place and length, and
-- every byte of the output.
-- Assumes nothing.
use Rattle.std.specs.Prelude.{◌≡◌, List, [], ◌++◌, ℕ, ◌≤◌, ◌<◌, length, take}
use Rattle.strings.specs.Utf8.{Utf8, ValidTo}
use Rattle.numerals.specs.Value.{TooLarge}
use Rattle.grammar.specs.Numbers.{LONG, ENCODING}
use Rattle.grammar.specs.Trees.{Trees}
use Rattle.grammar.specs.Answer.{Answer, Verdict, refused, tree, answer, output, document_01}
use Rattle.json_import.specs.Tokens.{At, ◌▹◌, Ws}
use Rattle.json_import.specs.Values.{value, done, broken, Reads}

-- R68. 02's new number.
abbrev pub NOT_JSON : ℕ
NOT_JSON = 19

-- R61. "JSON-text = ws value ws", read to its end or broken off.
pub data Text (Deep : ℕ → Type 0) (Large : List ℕ → Type 0) (s : List ℕ) : Verdict → Type 0 where
  whole : {h g : At} {n : ℕ} {t : Trees} → Ws (0 ▹ s) h → Reads Deep Large value 0 h (done t g) → Ws g (n ▹ []) → Text Deep Large s (tree t)
  broken_off : {h : At} {n a e : ℕ} → Ws (0 ▹ s) h → Reads Deep Large value 0 h (broken n a e) → Text Deep Large s (refused n a e 0)

-- R68. A JSON text, whatever its depth and its numbers' size.
abbrev pub Never : {A : Type 0} → A → Type 0
Never x = ⊥

pub data JsonText (s : List ℕ) : Type 0 where
  json : {t : Trees} → Text Never Never s (tree t) → JsonText s

-- R68. Some JSON text begins with these bytes.
pub data Begun (s : List ℕ) : Type 0 where
  begun : (w : List ℕ) → JsonText (s ++ w) → Begun s

-- R68. "the first byte where no JSON text continues": as many bytes as the longest beginning has that some JSON text begins with.
pub record Continues (s : List ℕ) (n : ℕ) : Type 0 where
  pub within : n ≤ length s
  pub begins : Begun (take n s)
  pub longest : (m : ℕ) → m ≤ length s → Begun (take m s) → m ≤ n

-- R5, R66. 200 open values leave no room for another.
abbrev pub TooDeep : ℕ → Type 0
TooDeep k = document_01.depth ≤ k

-- R69. "2 and 3 come first, 12 last, the others as the reading meets them". Where the reading is neither whole nor broken off, the text is none.
pub data Judged (s : List ℕ) : Verdict → Type 0 where
  too_long : document_01.size < length s → Judged s (refused LONG 0 0 0)
  not_utf8 : {n : ℕ} → length s ≤ document_01.size → ValidTo s n → n < length s → Judged s (refused ENCODING n n 0)
  read : {v : Verdict} → length s ≤ document_01.size → Utf8 s → Text TooDeep TooLarge s v → Judged s v
  not_json : {n : ℕ} → length s ≤ document_01.size → Utf8 s → ((v : Verdict) → Text TooDeep TooLarge s v → ⊥) → Continues s n → Judged s (refused NOT_JSON n n 0)

-- R69. The answer and the output for a text and an output of so many bytes. The importer's contract.
pub record ReadsJson (s : List ℕ) (room : ℕ) (a : Answer) (out : List ℕ) : Type 0 where
  pub found : Verdict
  pub judged : Judged s found
  pub answered : a ≡ answer room found
  pub written : out ≡ output room found
