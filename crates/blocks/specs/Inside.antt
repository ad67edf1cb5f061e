-- What the functions inside this crate promise each other: runs and tests between places of a source, and what a walk has found.
-- Assumes nothing.
use Rattle.std.specs.Prelude.{◌≡◌, Bool, true, false, List, [], ◌∷◌, ◌++◌, ℕ, ◌+◌, ◌-◌, ◌≤◌, ltb, length, drop, replicate, Result, Ok, Err}
use Rattle.std.proofs.lemmas.List.Edits.{sets}
use Rattle.std.proofs.Math.Seq.{slice}
use Rattle.blocks.specs.Blocks.{Run, Dash, NoBars, Sought, good, unexpected_end, missing_termination, Body, text, BlockText, fault_at, BlockAt}
use Rattle.blocks.specs.declared.BlockError.{BlockError}
use Rattle.blocks.specs.declared.BlockFault.TheVariants.{UnexpectedEnd, MissingTermination}
use Rattle.blocks.specs.declared.Good.{Good}

-- A test's answer.
pub data Says (P : Type 0) : Bool → Type 0 where
  holds : P → Says P true
  fails : (P → ⊥) → Says P false

-- The run of bytes that are P from place i ends at place j.
pub record Spans (P : ℕ → Type 0) (s : List ℕ) (i j : ℕ) : Type 0 where
  pub on : i ≤ j
  pub within : j ≤ length s
  pub run : Run P (drop i s) (slice i j s) (drop j s)

-- The optional `-` from place i ends at place j: further on where there is one.
pub record Dashed (s : List ℕ) (i j : ℕ) : Type 0 where
  pub on : i ≤ j
  pub within : j ≤ length s
  pub dash : Dash (drop i s) (ltb i j) (drop j s)

-- The next `|||` from place i, if any, ends at place j.
pub record SoughtTo (s : List ℕ) (i j : ℕ) : Type 0 where
  pub within : j ≤ length s
  pub sought : Sought (drop i s) (drop j s)

-- Whether `|||` stands at place i.
pub data BarsAt (s : List ℕ) (i : ℕ) : Bool → Type 0 where
  bars : i + 3 ≤ length s → drop i s ≡ 0x7C ∷ 0x7C ∷ 0x7C ∷ drop (i + 3) s → BarsAt s i true
  none : NoBars (drop i s) → BarsAt s i false

-- Whether the line at place i starts with the bytes from a to e.
pub data StartsAt (s : List ℕ) (a e i : ℕ) : Bool → Type 0 where
  starts : i + (e - a) ≤ length s → drop i s ≡ slice a e s ++ drop (i + (e - a)) s → StartsAt s a e i true
  differs : ((r : List ℕ) → drop i s ≡ slice a e s ++ r → ⊥) → StartsAt s a e i false

-- So many LFs.
abbrev pub feeds : ℕ → List ℕ
feeds n = replicate n 0x0A

-- The last LFs of a text stand up to place e: `|||-` leaves out the last.
abbrev pub last_end : Bool → ℕ → ℕ
last_end true e = e - 1
last_end false e = e

-- A good block's lexeme ends at a place, and its text is so long.
abbrev pub good_at : ℕ → ℕ → Result Good BlockError
good_at e n = Ok (record { end = e; text = n })

-- Behind the blanks of the line after the lines, at place i: with `|||` there the last LFs, from a to e, are stored at w.
pub data ClosedAt (s : List ℕ) (i a e : ℕ) (dash : Bool) (out : List ℕ) (w : ℕ) : Result Good BlockError → List ℕ → Type 0 where
  closed :
      i + 3 ≤ length s → drop i s ≡ 0x7C ∷ 0x7C ∷ 0x7C ∷ drop (i + 3) s →
      ClosedAt s i a e dash out w (good_at (i + 3) (w + (last_end dash e - a))) (sets out w (feeds (last_end dash e - a)))
  failing : {j : ℕ} {out₁ : List ℕ} → NoBars (drop i s) → SoughtTo s i j → ClosedAt s i a e dash out w (Err (fault_at MissingTermination j)) out₁

-- From place i, after the header line: a good block's text is stored, a bad one leaves what it leaves.
pub data BodyAt (s : List ℕ) (i : ℕ) (dash : Bool) (out : List ℕ) : Result Good BlockError → List ℕ → Type 0 where
  a_good :
      {lines : List (List ℕ)} {r : List ℕ} {j : ℕ} → Body (drop i s) (good lines) r → j + length r ≡ length s →
      BodyAt s i dash out (good_at j (length (text dash lines))) (sets out 0 (text dash lines))
  an_unexpected_end : {j : ℕ} {out₁ : List ℕ} → Body (drop i s) unexpected_end [] → j ≡ length s → BodyAt s i dash out (Err (fault_at UnexpectedEnd j)) out₁
  a_missing_termination :
      {r : List ℕ} {j : ℕ} {out₁ : List ℕ} → Body (drop i s) missing_termination r → j + length r ≡ length s →
      BodyAt s i dash out (Err (fault_at MissingTermination j)) out₁

-- The whole walk: what stands there, and the text stored if there is one.
pub data Walked (s : List ℕ) (at : ℕ) (out : List ℕ) : Result Good BlockError → List ℕ → Type 0 where
  a_text : {t : List ℕ} {j : ℕ} → BlockAt s at (Ok j) → BlockText (drop at s) t → Walked s at out (good_at j (length t)) (sets out 0 t)
  no_text : {b : BlockError} {out₁ : List ℕ} → BlockAt s at (Err b) → ((t : List ℕ) → BlockText (drop at s) t → ⊥) → Walked s at out (Err b) out₁
