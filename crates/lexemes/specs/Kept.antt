-- The lexemes of a source, the kept ones among them, and the first bad one: document 01, "White space and good comments are dropped",
-- and number 4, "a bad lexeme anywhere".
-- Assumes nothing.
use Rattle.std.specs.Prelude.{◌≡◌, Bool, false, cond, ◌||◌, List, [], ◌∷◌, ℕ, ◌≤◌, ◌<◌, eqb, length}
use Rattle.lexemes.specs.declared.Lexeme.{Lexeme}
use Rattle.lexemes.specs.declared.kept.Cursor.{Cursor}
use Rattle.lexemes.specs.Kinds.{EOF, WHITESPACE, SINGLE_LINE_SLASH_COMMENT, SINGLE_LINE_HASH_COMMENT, MULTI_LINE_COMMENT, ERROR_FLOAT_JUNK_AFTER_POINT, ERROR_FLOAT_JUNK_AFTER_EXPONENT, ERROR_FLOAT_JUNK_AFTER_EXPONENT_SIGN, ERROR_STRING_DOUBLE_UNTERMINATED, ERROR_STRING_SINGLE_UNTERMINATED, ERROR_STRING_DOUBLE_VERBATIM_UNTERMINATED, ERROR_STRING_SINGLE_VERBATIM_UNTERMINATED, ERROR_STRING_VERBATIM_MISSING_QUOTES, ERROR_STRING_BLOCK_UNEXPECTED_END, ERROR_STRING_BLOCK_MISSING_NEW_LINE, ERROR_STRING_BLOCK_MISSING_TERMINATION, ERROR_STRING_BLOCK_MISSING_INDENT, ERROR_COMMENT_TOO_SHORT, ERROR_COMMENT_UNTERMINATED, ERROR_NO_OPERATOR, ERROR_MISSING_TOKEN, ERROR_UNEXPECTED_TOKEN, ERROR_CUSTOM, LEXING_ERROR}
use Rattle.lexemes.specs.Lexeme.{LexemeAt, lexeme}

-- R6. All lexemes from a place to the end of the source, one after the other.
pub data Lexemes (s : List ℕ) : ℕ → List Lexeme → Type 0 where
  none : {at : ℕ} → length s ≤ at → Lexemes s at []
  some : {at : ℕ} {l : Lexeme} {ls : List Lexeme} → at < length s → LexemeAt s at l → Lexemes s l.end ls → Lexemes s at (l ∷ ls)

abbrev pub one_of : List ℕ → ℕ → Bool
one_of [] k = false
one_of (x ∷ xs) k = eqb k x || one_of xs k

-- "White space and good comments are dropped."
abbrev pub dropped_kinds : List ℕ
dropped_kinds = WHITESPACE ∷ SINGLE_LINE_SLASH_COMMENT ∷ SINGLE_LINE_HASH_COMMENT ∷ MULTI_LINE_COMMENT ∷ []

unfoldable pub dropped : ℕ → Bool
dropped k = one_of dropped_kinds k

-- The kinds that syntax_kinds.rs has an `error_description` for.
abbrev pub bad_kinds : List ℕ
bad_kinds =
    ERROR_FLOAT_JUNK_AFTER_POINT ∷ ERROR_FLOAT_JUNK_AFTER_EXPONENT ∷ ERROR_FLOAT_JUNK_AFTER_EXPONENT_SIGN ∷ ERROR_STRING_DOUBLE_UNTERMINATED
    ∷ ERROR_STRING_SINGLE_UNTERMINATED ∷ ERROR_STRING_DOUBLE_VERBATIM_UNTERMINATED ∷ ERROR_STRING_SINGLE_VERBATIM_UNTERMINATED ∷ ERROR_STRING_VERBATIM_MISSING_QUOTES
    ∷ ERROR_STRING_BLOCK_UNEXPECTED_END ∷ ERROR_STRING_BLOCK_MISSING_NEW_LINE ∷ ERROR_STRING_BLOCK_MISSING_TERMINATION ∷ ERROR_STRING_BLOCK_MISSING_INDENT
    ∷ ERROR_COMMENT_TOO_SHORT ∷ ERROR_COMMENT_UNTERMINATED ∷ ERROR_NO_OPERATOR ∷ ERROR_MISSING_TOKEN ∷ ERROR_UNEXPECTED_TOKEN ∷ ERROR_CUSTOM ∷ LEXING_ERROR ∷ []

unfoldable pub bad : ℕ → Bool
bad k = one_of bad_kinds k

unfoldable pub keep : List Lexeme → List Lexeme
keep [] = []
keep (l ∷ ls) = cond (dropped l.kind) (keep ls) (l ∷ keep ls)

-- R7. The kept lexemes from a place to the end of the source.
pub record Kept (s : List ℕ) (at : ℕ) (ks : List Lexeme) : Type 0 where
  pub lexemes : List Lexeme
  pub all : Lexemes s at lexemes
  pub kept : ks ≡ keep lexemes

-- R7, R31. The first of them; with none left EOF, at the place twice.
abbrev pub first : ℕ → List Lexeme → Lexeme
first at [] = lexeme EOF at at
first at (l ∷ ls) = l

pub record NextKept (s : List ℕ) (at : ℕ) (l : Lexeme) : Type 0 where
  pub left : List Lexeme
  pub is_left : Kept s at left
  pub is_first : l ≡ first at left

-- R35. The first bad lexeme of all; EOF at the end of the source where none is bad.
unfoldable pub first_bad : ℕ → List Lexeme → Lexeme
first_bad n [] = lexeme EOF n n
first_bad n (l ∷ ls) = cond (bad l.kind) l (first_bad n ls)

pub record FirstBad (s : List ℕ) (l : Lexeme) : Type 0 where
  pub lexemes : List Lexeme
  pub all : Lexemes s 0 lexemes
  pub is_first : l ≡ first_bad (length s) lexemes

-- R31. A cursor stands at a place: where the last lexeme taken ended, and the next kept one from there.
pub record Stands (s : List ℕ) (at : ℕ) (c : Cursor) : Type 0 where
  pub last : c.last ≡ at
  pub current : NextKept s at c.current
