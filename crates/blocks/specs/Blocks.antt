-- What a text block is, what its faults are and what it means: document 01, "Lexemes", the paragraph "Blocks".
-- A relation's first list is the bytes that are read, from behind the opening `|||` on; its last list is what follows what was read.
-- Assumes nothing.
use Rattle.std.specs.Prelude.{◌≡◌, Bool, true, false, List, [], ◌∷◌, ◌++◌, ◌⊎◌, ℕ, ◌+◌, Result, Ok, Err, length, drop}
use Rattle.blocks.specs.declared.BlockError.{BlockError}
use Rattle.blocks.specs.declared.BlockFault.{BlockFault}
use Rattle.blocks.specs.declared.BlockFault.TheVariants.{UnexpectedEnd, MissingNewLine, MissingTermination, MissingIndent}

abbrev pub LineFeed : ℕ → Type 0
LineFeed b = b ≡ 0x0A

-- R14. "blanks of space, tab, CR", of the header line alone
abbrev pub HeaderBlank : ℕ → Type 0
HeaderBlank b = (b ≡ 0x20) ⊎ ((b ≡ 0x09) ⊎ (b ≡ 0x0D))

-- R14. "spaces and tabs"
abbrev pub Blank : ℕ → Type 0
Blank b = (b ≡ 0x20) ⊎ (b ≡ 0x09)

-- R14. A byte of a line: any but LF. "CR stays".
abbrev pub InLine : ℕ → Type 0
InLine b = b ≡ 0x0A → ⊥

-- R14. The bytes begin with a run of such as are P, the second list: all that there are, up to the end or to the first that is none.
pub data Run (P : ℕ → Type 0) : List ℕ → List ℕ → List ℕ → Type 0 where
  end : Run P [] [] []
  stop : {b : ℕ} {s : List ℕ} → (P b → ⊥) → Run P (b ∷ s) [] (b ∷ s)
  more : {b : ℕ} {s run r : List ℕ} → P b → Run P s run r → Run P (b ∷ s) (b ∷ run) r

-- R14. "optional `-`": whether it stands there.
pub data Dash : List ℕ → Bool → List ℕ → Type 0 where
  there : {s : List ℕ} → Dash (0x2D ∷ s) true s
  other : {b : ℕ} {s : List ℕ} → (b ≡ 0x2D → ⊥) → Dash (b ∷ s) false (b ∷ s)
  end : Dash [] false []

-- R14. "`|||`, optional `-`, blanks of space, tab, CR, then LF": what follows the blanks, where the LF is wanted.
pub data Header : List ℕ → Bool → List ℕ → Type 0 where
  header : {s t blanks r : List ℕ} {dash : Bool} → Dash s dash t → Run HeaderBlank t blanks r → Header s dash r

-- R14. "Lines of LF alone are empty lines. The first other line's run of spaces and tabs is the indent": that line, and the indent.
pub data Indent : List ℕ → List ℕ → List ℕ → Type 0 where
  first : {s empty line indent r : List ℕ} → Run LineFeed s empty line → Run Blank line indent r → Indent s line indent

-- R14. Lines, one after another: "Lines of LF alone are empty lines", "Each line starting with exactly that indent is content after it".
-- `Last`, below, is what stands after them.
pub data Lines (indent : List ℕ) : List ℕ → List (List ℕ) → List ℕ → Type 0 where
  none : {s : List ℕ} → Lines indent s [] s
  empty : {s r : List ℕ} {lines : List (List ℕ)} → Lines indent s lines r → Lines indent (0x0A ∷ s) ([] ∷ lines) r
  content :
      {s t line u r : List ℕ} {lines : List (List ℕ)} → s ≡ indent ++ t → Run InLine t line (0x0A ∷ u) → Lines indent u lines r →
      Lines indent s (line ∷ lines) r

-- R14. "Another line": neither empty nor one that starts with the indent.
pub record Other (indent s : List ℕ) : Type 0 where
  pub not_empty : (r : List ℕ) → s ≡ 0x0A ∷ r → ⊥
  pub not_content : (r : List ℕ) → s ≡ indent ++ r → ⊥

-- R15. The bytes do not begin with `|||`.
abbrev pub NoBars : List ℕ → Type 0
NoBars s = (r : List ℕ) → s ≡ 0x7C ∷ 0x7C ∷ 0x7C ∷ r → ⊥

-- R15. "to the next `|||` included, or to the end"
pub data Sought : List ℕ → List ℕ → Type 0 where
  here : {r : List ℕ} → Sought (0x7C ∷ 0x7C ∷ 0x7C ∷ r) r
  on : {b : ℕ} {s r : List ℕ} → NoBars (b ∷ s) → Sought s r → Sought (b ∷ s) r
  end : Sought [] []

-- R14, R15. What stands after `|||`: a good block with its lines, or a fault.
pub data Found : Type 0 where
  good : List (List ℕ) → Found
  unexpected_end : Found
  missing_new_line : Found
  missing_indent : Found
  missing_termination : Found

-- R14, R15. The line after the lines, from behind its spaces and tabs on.
pub data Closing (lines : List (List ℕ)) : List ℕ → Found → List ℕ → Type 0 where
  -- "Another line must be spaces or tabs, if any, then `|||`."
  closed : {r : List ℕ} → Closing lines (0x7C ∷ 0x7C ∷ 0x7C ∷ r) (good lines) r
  -- "A later line with only those up to the end of input .. is unexpected_end"
  blank : Closing lines [] unexpected_end []
  -- "any other failing later line is missing_termination", sought "after the failing line's blanks"
  failing : {b : ℕ} {s r : List ℕ} → NoBars (b ∷ s) → Sought (b ∷ s) r → Closing lines (b ∷ s) missing_termination r

-- R14, R15. The line after the lines.
pub data Last (indent : List ℕ) (lines : List (List ℕ)) : List ℕ → Found → List ℕ → Type 0 where
  another : {s blanks t r : List ℕ} {f : Found} → Other indent s → Run Blank s blanks t → Closing lines t f r → Last indent lines s f r
  -- "a content line without LF, is unexpected_end", and it "takes all to the end"
  cut : {s t line : List ℕ} → s ≡ indent ++ t → Run InLine t line [] → Last indent lines s unexpected_end []

-- R14, R15. What follows the header line.
pub data Body : List ℕ → Found → List ℕ → Type 0 where
  -- "none is missing_indent", sought "at the unindented line"
  no_indent : {s line r : List ℕ} → Indent s line [] → Sought line r → Body s missing_indent r
  indented :
      {b : ℕ} {s line i t r : List ℕ} {lines : List (List ℕ)} {f : Found} → Indent s line (b ∷ i) → Lines (b ∷ i) s lines t → Last (b ∷ i) lines t f r →
      Body s f r

-- R14, R15. What stands after `|||`, and what follows the lexeme.
pub data Stands : List ℕ → Found → List ℕ → Type 0 where
  -- "the end unexpected_end", which "takes all to the end"
  no_line : {s : List ℕ} {dash : Bool} → Header s dash [] → Stands s unexpected_end []
  -- "another character there is missing_new_line", sought "past the character that stood for the LF": past its first byte, which
  -- is the same, since no later byte of a character is `|`
  no_new_line : {b : ℕ} {s t r : List ℕ} {dash : Bool} → Header s dash (b ∷ t) → (b ≡ 0x0A → ⊥) → Sought t r → Stands s missing_new_line r
  after_header : {s t r : List ℕ} {dash : Bool} {f : Found} → Header s dash (0x0A ∷ t) → Body t f r → Stands s f r

-- R14. "lines joined by LF"
unfoldable pub joined : List (List ℕ) → List ℕ
joined [] = []
joined (line ∷ []) = line
joined (line ∷ next ∷ lines) = line ++ 0x0A ∷ joined (next ∷ lines)

-- R14. "Text: lines joined by LF, a last LF unless `-`."
unfoldable pub text : Bool → List (List ℕ) → List ℕ
text true lines = joined lines
text false lines = joined lines ++ 0x0A ∷ []

-- R14. The text of a good block.
pub data BlockText : List ℕ → List ℕ → Type 0 where
  means : {s t r : List ℕ} {dash : Bool} {lines : List (List ℕ)} → Header s dash (0x0A ∷ t) → Body t (good lines) r → BlockText s (text dash lines)

-- R14, R15. What stands from the place `at` of the source on, and the offset at which the lexeme ends.
pub data Ends (source : List ℕ) (at : ℕ) (f : Found) (end : ℕ) : Type 0 where
  ends : {r : List ℕ} → Stands (drop at source) f r → end + length r ≡ length source → Ends source at f end

-- What the code answers: where a good block ends, or a bad one with its fault.
abbrev pub Block : Type 0
Block = Result ℕ BlockError

abbrev pub fault_at : BlockFault → ℕ → BlockError
fault_at f e = record { fault = f; end = e }

-- R14, R15. The same as the code's answer.
pub data BlockAt (source : List ℕ) (at : ℕ) : Block → Type 0 where
  a_good : {lines : List (List ℕ)} {end : ℕ} → Ends source at (good lines) end → BlockAt source at (Ok end)
  an_unexpected_end : {end : ℕ} → Ends source at unexpected_end end → BlockAt source at (Err (fault_at UnexpectedEnd end))
  a_missing_new_line : {end : ℕ} → Ends source at missing_new_line end → BlockAt source at (Err (fault_at MissingNewLine end))
  a_missing_indent : {end : ℕ} → Ends source at missing_indent end → BlockAt source at (Err (fault_at MissingIndent end))
  a_missing_termination : {end : ℕ} → Ends source at missing_termination end → BlockAt source at (Err (fault_at MissingTermination end))
