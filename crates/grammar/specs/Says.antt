-- What a kept lexeme of a source says: the one place where the phrases meet the bytes of a source.
-- Assumes nothing.
use Rattle.std.specs.Prelude.{List, [], ◌∷◌, ℕ, ◌+◌, ◌-◌, drop}
use Rattle.std.proofs.Math.Seq.{slice}
use Rattle.strings.specs.Literals.{Quoted, BadEscape, Verbatim}
use Rattle.blocks.specs.Blocks.{BlockText}
use Rattle.numerals.specs.Value.{TooLarge}
use Rattle.lexemes.specs.declared.Lexeme.{Lexeme as Range}
use Rattle.lexemes.specs.Kinds.{FLOAT, IDENT, STRING_DOUBLE, STRING_SINGLE, STRING_DOUBLE_VERBATIM, STRING_SINGLE_VERBATIM, STRING_BLOCK}
use Rattle.lexemes.specs.Texts.{plain}
use Rattle.grammar.specs.Lexemes.{Said, says, spoiled, nothing, Lexeme}

-- R42. ident, parse_number, parse_string_content: of the source s, the lexeme of this kind from a to e has this text.
pub data Means (s : List ℕ) : ℕ → ℕ → ℕ → List ℕ → Type 0 where
  name : {a e : ℕ} → Means s IDENT a e (slice a e s)
  number : {a e : ℕ} → (TooLarge (plain (slice a e s)) → ⊥) → Means s FLOAT a e (plain (slice a e s))  -- 02, Item 2
  double : {a e : ℕ} {w : List ℕ} → Quoted (slice (a + 1) (e - 1) s) w → Means s STRING_DOUBLE a e w
  single : {a e : ℕ} {w : List ℕ} → Quoted (slice (a + 1) (e - 1) s) w → Means s STRING_SINGLE a e w
  double_verbatim : {a e : ℕ} {w : List ℕ} → Verbatim 0x22 (slice (a + 2) (e - 1) s) w → Means s STRING_DOUBLE_VERBATIM a e w
  single_verbatim : {a e : ℕ} {w : List ℕ} → Verbatim 0x27 (slice (a + 2) (e - 1) s) w → Means s STRING_SINGLE_VERBATIM a e w
  block : {a e : ℕ} {w : List ℕ} → BlockText (drop (a + 3) s) w → Means s STRING_BLOCK a e w

-- It is a quoted string, whose first bad escape begins behind so many bytes of its inside.
pub data Spoils (s : List ℕ) : ℕ → ℕ → ℕ → ℕ → Type 0 where
  in_double : {a e n : ℕ} → BadEscape (slice (a + 1) (e - 1) s) n → Spoils s STRING_DOUBLE a e n
  in_single : {a e n : ℕ} → BadEscape (slice (a + 1) (e - 1) s) n → Spoils s STRING_SINGLE a e n

-- R39, R42. What it says: its text, or where that is spoiled; with neither, nothing.
pub data Says (s : List ℕ) (k a e : ℕ) : Said → Type 0 where
  its_text : {w : List ℕ} → Means s k a e w → Says s k a e (says w)
  its_escape : {n : ℕ} → Spoils s k a e n → Says s k a e (spoiled n)
  no_text : ((w : List ℕ) → Means s k a e w → ⊥) → ((n : ℕ) → Spoils s k a e n → ⊥) → Says s k a e nothing

-- R42. Lexemes of a source, and the same with what they say.
pub data Told (s : List ℕ) : List Range → List Lexeme → Type 0 where
  none : Told s [] []
  more : {k a e : ℕ} {w : Said} {xs : List Range} {ys : List Lexeme} → Says s k a e w → Told s xs ys
      → Told s (record { kind = k; start = a; end = e } ∷ xs) (record { kind = k; start = a; stop = e; word = w } ∷ ys)
