-- What some derivation gives: the trees of 01's rules, whatever the source, its length and the depth. Spans are left out (`Alike`), and asked for
-- by themselves (`Spanned`). Which trees these are is proved: those of the table of records (proofs/Derived.antt, `whole_exactly`).
-- Assumes nothing.
use Rattle.std.specs.Prelude.{◌≡◌, List, [], ◌∷◌, ℕ, ◌/◌, ◌%◌, ◌≤◌}
use Rattle.grammar.specs.Tags.{SLICE, PATTERN_FIELD}
use Rattle.grammar.specs.Trees.{Field, byte, number, span, text, Trees}
use Rattle.grammar.specs.Trees as trees
use Rattle.grammar.specs.Alike.{Alike}
use Rattle.grammar.specs.Lexemes.{Lexeme}
use Rattle.grammar.specs.Reading.{done, Reads}
use Rattle.grammar.specs.Words.{Worded}
use Rattle.grammar.specs.Records.{Spans, Absent}

-- ── Spans by themselves ───────────────────────────────────────────────────────────────────────────

-- R43. No span of a record runs backward.
abbrev pub Forwards : List Field → Type 0
Forwards [] = Unit
Forwards (byte n ∷ fs) = Forwards fs
Forwards (number n ∷ fs) = Forwards fs
Forwards (span a e ∷ fs) = (a ≤ e) × Forwards fs
Forwards (text w ∷ fs) = Forwards fs

-- R43. "23 slice: byte (start 1, end 2, step 4), three spans, absent ones 0"; "29 .. default's span (0 if absent)".
pub data Zeros : ℕ → List Field → Type 0 where
  slice : {b i₁ j₁ i₂ j₂ i₃ j₃ : ℕ} → (b % 2 ≡ 0 → Absent Spans.forward i₁ j₁) → (b / 2 % 2 ≡ 0 → Absent Spans.forward i₂ j₂)
      → (b / 4 % 2 ≡ 0 → Absent Spans.forward i₃ j₃) → Zeros SLICE (byte b ∷ span i₁ j₁ ∷ span i₂ j₂ ∷ span i₃ j₃ ∷ [])
  pattern_field : {h d a e : ℕ} {w : List ℕ} → (d ≡ 0 → Absent Spans.forward a e) → Zeros PATTERN_FIELD (byte h ∷ byte d ∷ span a e ∷ text w ∷ [])
  other : {tag : ℕ} {fs : List Field} → (tag ≡ SLICE → ⊥) → (tag ≡ PATTERN_FIELD → ⊥) → Zeros tag fs

-- R43. So in each record.
pub data Spanned : Trees → Type 0 where
  none : Spanned trees.none
  node : {tag : ℕ} {fs : List Field} {cs ts : Trees} → Forwards fs → Zeros tag fs → Spanned cs → Spanned ts → Spanned (trees.node tag fs cs ts)

-- ── Derivations ───────────────────────────────────────────────────────────────────────────────────

-- R17, R40. Some derivation over worded lexemes, at some depth, gives t but for spans.
pub record Derived (prefix s : ℕ) (t : Trees) : Type 0 where
  pub lexemes : List Lexeme
  pub worded : Worded lexemes
  pub depth : ℕ
  pub given : Trees
  pub at : ℕ
  pub left : List Lexeme
  pub reads : Reads prefix s depth lexemes (done given at left)
  pub alike : Alike t given
