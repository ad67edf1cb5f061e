-- What the reader promises: its answers as document 01 numbers them.
-- Assumes nothing.
use Rattle.std.specs.Prelude.{◌≡◌, true, cond, List, ◌++◌, ℕ, ◌-◌, ◌≤◌, eqb, length, take, replicate, Result, Ok, Err}
use Rattle.std.proofs.lemmas.List.Edits.{sets}
use Rattle.strings.specs.Utf8.{Utf8}
use Rattle.lexemes.specs.declared.Lexeme.{Lexeme as Range}
use Rattle.lexemes.specs.Kept as lexemes
use Rattle.grammar.specs.Numbers.{TREE, SETTING, LONG, ENCODING, LEXEME, WANTED, ABSENT, EXPRESSION, MISPLACED, ESCAPE, DEPTH, ROOM, LARGE, met_with}
use Rattle.grammar.specs.Trees.{Trees}
use Rattle.grammar.specs.Image.{image}
use Rattle.grammar.specs.Lexemes.{Lexeme as Token}
use Rattle.grammar.specs.Says.{Told}
use Rattle.grammar.specs.Reading.{Outcome, Reads as Derived}
use Rattle.grammar.specs.Answer.{Answer, Verdict, refused, tree, verdict, Judged, answer, output, valid_setting, prefix_power, document_01}
use Rattle.grammar.specs.Source.{Bad, Kept, Reads01}
use Rattle.leaves.specs.Meets.{Answer as Phrased}
use Rattle.reader.specs.declared.Fields.{Fields}
use Rattle.reader.specs.declared.Unread.{Unread}
use Rattle.reader.specs.declared.Unread.TheVariants.{Setting, Long, Encoding, Lexeme, Wanted, Absent, Expression, Misplaced, Escape, Depth, Room, Large}

-- ── Document 01's numbers for each case of the answer ─────────────────────────────────────────────

-- R2. A refusal: number, place, detail.
abbrev pub refusal : ℕ → ℕ → ℕ → ℕ → Answer
refusal n a e x = record { number = n; start = a; stop = e; detail = x; size = 0 }

-- R2. A tree: number and length.
abbrev pub tree_of : ℕ → ℕ → Answer
tree_of n size = record { number = n; start = 0; stop = 0; detail = 0; size = size }

-- What becomes of a source: the image's length, or why there is none.
abbrev pub Reading : Type 0
Reading = Result ℕ Unread

-- R2, R32 to R39, R45. 01's number, start, end, detail and length.
unfoldable pub numbers : Reading → Answer
numbers (Ok n) = tree_of TREE n
numbers (Err Setting) = refusal SETTING 0 0 0
numbers (Err Long) = refusal LONG 0 0 0
numbers (Err (Encoding n)) = refusal ENCODING n n 0
numbers (Err (Lexeme a e k)) = refusal LEXEME a e k
numbers (Err (Wanted a e k)) = refusal WANTED a e k
numbers (Err (Absent a e x)) = refusal ABSENT a e x
numbers (Err (Expression a e)) = refusal EXPRESSION a e 0
numbers (Err (Misplaced a e x)) = refusal MISPLACED a e x
numbers (Err (Escape a e x)) = refusal ESCAPE a e x
numbers (Err (Depth a e)) = refusal DEPTH a e 0
numbers (Err (Room n)) = tree_of ROOM n
numbers (Err (Large a e)) = refusal LARGE a e 0

-- The same five, as the code hands them back.
abbrev pub answered : Fields → Answer
answered f = record { number = f.number; start = f.start; stop = f.end; detail = f.detail; size = f.length }

-- ── The reader's contract ─────────────────────────────────────────────────────────────────────────

-- R1. Of a setting, a source and an output as it came in: the answer and the output as it is left.
abbrev pub Reads : ℕ → List ℕ → List ℕ → Reading → List ℕ → Type 0
Reads setting source out reading out' = Reads01 setting source (length out) (numbers reading) out'

-- ── On the way there ──────────────────────────────────────────────────────────────────────────────

-- How many bytes of the output are the image's.
unfoldable pub written : Reading → ℕ
written r = cond (eqb (numbers r).number TREE) (numbers r).size 0

-- R32 to R34. None of 1 to 3 is to be answered.
pub record Admitted (setting : ℕ) (source : List ℕ) : Type 0 where
  pub known : valid_setting setting ≡ true
  pub short : length source ≤ 65000
  pub valid : Utf8 source

-- What the phrases make of the kept lexemes, whether one of them is bad or not.
pub record Met (setting : ℕ) (source : List ℕ) (found : Verdict) : Type 0 where
  pub ranges : List Range
  pub tokens : List Token
  pub kept : lexemes.Kept source 0 ranges
  pub told : Told source ranges tokens
  pub outcome : Outcome
  pub reads : Derived (prefix_power setting) setting 200 tokens outcome
  pub so : verdict outcome ≡ found

-- Their answer: of a tree its image's length, with the image stored as far as there is room; or the refusal.
unfoldable pub Parsed : ℕ → List ℕ → List ℕ → Phrased → List ℕ → Type 0
Parsed setting source out (Ok x) out' = (ts : Trees) × Met setting source (tree ts) × (x.1 ≡ length (image ts)) × (out' ≡ sets out 0 (image ts))
Parsed setting source out (Err r) out' =
    Met setting source (refused r.number r.place.start r.place.end r.detail) × (met_with r.number r.detail ≡ true)

pub record Parses (setting : ℕ) (source out : List ℕ) (a : Phrased) (out' : List ℕ) : Type 0 where
  pub parsed : Parsed setting source out a out'

-- The answer is found, and beyond the image the output has yet to be cleared.
pub record Finds (setting : ℕ) (source out : List ℕ) (reading : Reading) (out' : List ℕ) : Type 0 where
  pub found : Verdict
  pub judged : Judged Bad Kept document_01 setting source found
  pub told : numbers reading ≡ answer (length out) found
  pub room : written reading ≤ length out
  pub left : output (length out) found ≡ take (written reading) out' ++ replicate (length out - written reading) 0
