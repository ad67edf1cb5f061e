-- The lexeme at a place: document 01, "Lexemes". "The longest matching rule wins; a keyword beats `IDENT`."
-- Assumes nothing.
use Rattle.std.specs.Prelude.{◌≡◌, List, ℕ, ◌≤◌, ◌<◌, Ok, Err, length}
use Rattle.regexes.specs.Regex.{Longest, Nothing}
use Rattle.blocks.specs.Blocks.{Block, BlockAt}
use Rattle.blocks.specs.declared.BlockFault.{BlockFault}
use Rattle.blocks.specs.declared.BlockFault.TheVariants.{UnexpectedEnd, MissingNewLine, MissingTermination, MissingIndent}
use Rattle.lexemes.specs.declared.Lexeme.{Lexeme}
use Rattle.lexemes.specs.Kinds.{EOF, IDENT, STRING_BLOCK, ERROR_STRING_BLOCK_UNEXPECTED_END, ERROR_STRING_BLOCK_MISSING_NEW_LINE, ERROR_STRING_BLOCK_MISSING_TERMINATION, ERROR_STRING_BLOCK_MISSING_INDENT, TAILSTRICT_KW, ASSERT_KW, LEXING_ERROR}
use Rattle.lexemes.specs.Letters.{text, next}
use Rattle.lexemes.specs.Rules.{rules}

-- R6. The keywords stand together in `SyntaxKind`.
abbrev pub Keyword : ℕ → Type 0
Keyword k = (TAILSTRICT_KW ≤ k) × (k ≤ ASSERT_KW)

-- R6. "a keyword beats `IDENT`"
abbrev pub Beats : ℕ → ℕ → Type 0
Beats k k' = Keyword k × (k' ≡ IDENT)

-- R6, R8. What the rules make of the place: the longest match, or, "a character no rule takes is one `LEXING_ERROR`".
pub data Ruled (s : List ℕ) (at k e : ℕ) : Type 0 where
  longest : Longest Beats (text s) rules at k e → Ruled s at k e
  error : Nothing (text s) rules at → k ≡ LEXING_ERROR → e ≡ next s at → Ruled s at k e

-- R15. lex.rs: the kind of a block by its fault, and its end.
abbrev pub fault_kind : BlockFault → ℕ
fault_kind UnexpectedEnd = ERROR_STRING_BLOCK_UNEXPECTED_END
fault_kind MissingNewLine = ERROR_STRING_BLOCK_MISSING_NEW_LINE
fault_kind MissingTermination = ERROR_STRING_BLOCK_MISSING_TERMINATION
fault_kind MissingIndent = ERROR_STRING_BLOCK_MISSING_INDENT

abbrev pub block_kind : Block → ℕ
block_kind (Ok e) = STRING_BLOCK
block_kind (Err b) = fault_kind b.fault

abbrev pub block_end : Block → ℕ
block_end (Ok e) = e
block_end (Err b) = b.end

abbrev pub lexeme : ℕ → ℕ → ℕ → Lexeme
lexeme k a e = record { kind = k; start = a; end = e }

-- R6, R14. The lexeme at a place. Past the end of the source that is EOF; a `|||` goes on as a block.
pub data LexemeAt (s : List ℕ) (at : ℕ) (l : Lexeme) : Type 0 where
  end : length s ≤ at → l ≡ lexeme EOF at at → LexemeAt s at l
  rule : {k e : ℕ} → at < length s → Ruled s at k e → (k ≡ STRING_BLOCK → ⊥) → l ≡ lexeme k at e → LexemeAt s at l
  block : {p : ℕ} {b : Block} → at < length s → Ruled s at STRING_BLOCK p → BlockAt s p b → l ≡ lexeme (block_kind b) at (block_end b) → LexemeAt s at l
