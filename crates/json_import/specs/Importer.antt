-- What the importer promises: its answers as documents 01 and 02 number them.
-- Assumes nothing.
use Rattle.std.specs.Prelude.{◌≡◌, List, ◌++◌, ℕ, ◌-◌, ◌≤◌, length, get_or, take, replicate, Result, Ok, Err}
use Rattle.std.specs.Result.{result_unwrap_or}
use Rattle.grammar.specs.Numbers.{TREE, LONG, ENCODING, DEPTH, ROOM, LARGE}
use Rattle.grammar.specs.Answer.{Answer, Verdict, answer, output}
use Rattle.json_import.specs.Json.{NOT_JSON, Judged, ReadsJson}
use Rattle.json_import.specs.declared.Fault.{Fault}
use Rattle.json_import.specs.declared.Fault.TheVariants as faults
use Rattle.json_import.specs.declared.fields.Fields.{Fields}
use Rattle.json_import.specs.declared.Unread.{Unread}
use Rattle.json_import.specs.declared.Unread.TheVariants.{Long, Encoding, NotJson, Depth, Room, Large}

-- ── The numbers for each case of the answer ───────────────────────────────────────────────────────

-- R2. A refusal: number and place. A tree: number and length.
abbrev pub refusal : ℕ → ℕ → ℕ → Answer
refusal n a e = record { number = n; start = a; stop = e; detail = 0; size = 0 }

abbrev pub tree_of : ℕ → ℕ → Answer
tree_of n size = record { number = n; start = 0; stop = 0; detail = 0; size = size }

-- What becomes of a text: the image's length, or why it is not read.
abbrev pub Importing : Type 0
Importing = Result ℕ Unread

-- R2, R66 to R69. Number, start, end, detail and length.
unfoldable pub numbers : Importing → Answer
numbers (Ok n) = tree_of TREE n
numbers (Err Long) = refusal LONG 0 0
numbers (Err (Encoding n)) = refusal ENCODING n n
numbers (Err (NotJson n)) = refusal NOT_JSON n n
numbers (Err (Depth n)) = refusal DEPTH n n
numbers (Err (Room n)) = tree_of ROOM n
numbers (Err (Large a e)) = refusal LARGE a e

-- The same five, as the code hands them back, and as a list: "number, start, end, detail, length".
abbrev pub answered : Fields → Answer
answered f = record { number = f.number; start = f.start; stop = f.end; detail = f.detail; size = f.length }

abbrev pub five : List ℕ → Answer
five a = record { number = get_or a 0 0; start = get_or a 1 0; stop = get_or a 2 0; detail = get_or a 3 0; size = get_or a 4 0 }

-- ── The importer's contract ───────────────────────────────────────────────────────────────────────

-- R69. Of a text and an output as it came in: the answer and the output as it is left.
abbrev pub Imports : List ℕ → List ℕ → Importing → List ℕ → Type 0
Imports s out r out' = ReadsJson s (length out) (numbers r) out'

-- ── On the way there ──────────────────────────────────────────────────────────────────────────────

-- A fault as an answer.
abbrev pub importing : Fault → Unread
importing (faults.NotJson n) = NotJson n
importing (faults.Deep n) = Depth n
importing (faults.Large a e) = Large a e

-- How many bytes of the output are the image's.
abbrev pub written : Importing → ℕ
written r = result_unwrap_or r 0

-- The answer is found, and beyond the image the output has yet to be cleared.
pub record Finds (s out : List ℕ) (r : Importing) (out' : List ℕ) : Type 0 where
  pub found : Verdict
  pub judged : Judged s found
  pub told : numbers r ≡ answer (length out) found
  pub room : written r ≤ length out
  pub left : output (length out) found ≡ take (written r) out' ++ replicate (length out - written r) 0
