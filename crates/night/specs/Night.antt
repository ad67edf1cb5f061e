-- A night's files in one call: document 02, Item 7. "Take one buffer of sources with a list of ends, and one output with a list of ends for its
-- parts; the answers go into a lent list, five numbers to a file."
-- Assumes nothing.
use Rattle.std.specs.Prelude.{◌≡◌, List, ◌∷◌, ℕ, ◌+◌, ◌*◌, ◌-◌, ◌≤◌, ◌<◌, length, get_or, replicate}
use Rattle.std.proofs.Math.Seq.{slice}
use Rattle.grammar.specs.Answer.{Answer}
use Rattle.grammar.specs.Source.{Reads01}
use Rattle.reader.specs.Five.{five}

-- R49. The call's numbers: "Refusals: 20 .. Else the call gives 0."
abbrev pub READ : ℕ
READ = 0

abbrev pub LISTS : ℕ
LISTS = 20

-- ── Files as parts of a buffer ────────────────────────────────────────────────────────────────────

-- R47. File i, counted from 0, begins where the one before it stops, and the first one at 0.
abbrev pub begins : List ℕ → ℕ → ℕ
begins ends i = get_or (0 ∷ ends) i 0

abbrev pub stops : List ℕ → ℕ → ℕ
stops ends i = get_or ends i 0

abbrev pub file : List ℕ → List ℕ → ℕ → List ℕ
file ends buffer i = slice (begins ends i) (stops ends i) buffer

abbrev pub size_of : List ℕ → ℕ → ℕ
size_of ends i = stops ends i - begins ends i

-- R47. Its five numbers in the list of answers.
abbrev pub answer_of : List ℕ → ℕ → Answer
answer_of answers i = five (slice (5 * i) (5 * i + 5) answers)

-- ── Lists that fit ────────────────────────────────────────────────────────────────────────────────

-- R49. No end stands before the one before it, and the last is the buffer's. Where there is no file, the buffer is empty.
pub record Cuts (ends : List ℕ) (size : ℕ) : Type 0 where
  pub forward : (i : ℕ) → i < length ends → begins ends i ≤ stops ends i
  pub whole : begins ends (length ends) ≡ size

-- R49. What 20 is the refusal of: "the lists are for unequal numbers of files, end short of or beyond their buffers, or go backward". The lengths of
-- the buffers are size and room, and count is how many numbers the list for the answers has.
pub record Fit (ends : List ℕ) (size : ℕ) (part-ends : List ℕ) (room count : ℕ) : Type 0 where
  pub parts : length part-ends ≡ length ends
  pub answers : count ≡ 5 * length ends
  pub sources : Cuts ends size
  pub output : Cuts part-ends room

-- ── The contract ──────────────────────────────────────────────────────────────────────────────────

-- R48. "Answer and output part for each source equal the single call's on that source, that setting and that part."
pub record Each (setting : ℕ) (sources ends part-ends out answers : List ℕ) : Type 0 where
  pub single : (i : ℕ) → i < length ends → Reads01 setting (file ends sources i) (size_of part-ends i) (answer_of answers i) (file part-ends out i)

-- R47 to R49. Of a setting, the sources with their ends, the output's length with the ends of its parts, and the length of the list for the answers: the
-- call's number, and the output and that list as they are left.
pub data Night (setting : ℕ) (sources ends : List ℕ) (room : ℕ) (part-ends : List ℕ) (count : ℕ) : ℕ → List ℕ → List ℕ → Type 0 where
  read : {out answers : List ℕ} → Fit ends (length sources) part-ends room count → length out ≡ room → length answers ≡ count
      → Each setting sources ends part-ends out answers → Night setting sources ends room part-ends count READ out answers
  -- R49. "then no file is read and output and answer list are zero"
  unfit : (Fit ends (length sources) part-ends room count → ⊥) → Night setting sources ends room part-ends count LISTS (replicate room 0) (replicate count 0)
