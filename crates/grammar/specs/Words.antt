-- What lexemes may say: the texts that are possible for a kind. The lexemes of every source are so (proofs/Possible.antt).
-- Assumes nothing.
use Rattle.std.specs.Prelude.{◌≡◌, List, [], ◌∷◌, ℕ}
use Rattle.strings.specs.Utf8.{Utf8}
use Rattle.numerals.specs.Value.{TooLarge}
use Rattle.lexemes.specs.Kinds.{FLOAT, IDENT}
use Rattle.lexemes.specs.Texts.{Identifier, keywords, Among, Numeral}
use Rattle.grammar.specs.Lexemes.{Said, says, nothing, Lexeme}
use Rattle.grammar.specs.Spells.{Quoted}

-- R42. A name: an identifier and no keyword.
pub record NameText (w : List ℕ) : Type 0 where
  pub identifier : Identifier w
  pub no_keyword : Among w keywords → ⊥

-- A number: a numeral without underscores, below what a double holds.
pub record NumberText (w : List ℕ) : Type 0 where
  pub numeral : Numeral w
  pub in_range : TooLarge w → ⊥

-- R42. A lexeme of kind k may say v: an identifier its name, a number its numeral, a string literal a text of UTF-8, or where its bad escape is; all
-- but identifiers nothing.
pub data Possible : ℕ → Said → Type 0 where
  name : {w : List ℕ} → NameText w → Possible IDENT (says w)
  numeral : {w : List ℕ} → NumberText w → Possible FLOAT (says w)
  string : {k : ℕ} {w : List ℕ} → Quoted k → Utf8 w → Possible k (says w)
  spoiled : {k n : ℕ} → Quoted k → Possible k (Said.spoiled n)
  silent : {k : ℕ} → (k ≡ IDENT → ⊥) → Possible k nothing

-- R42. Each of these lexemes says what it may.
pub data Worded : List Lexeme → Type 0 where
  none : Worded []
  more : {x : Lexeme} {xs : List Lexeme} → Possible x.kind x.word → Worded xs → Worded (x ∷ xs)
