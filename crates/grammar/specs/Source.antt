-- The whole answer for the bytes of a source: what the lexemes of a source tell the phrases, put into Answer.antt.
-- Assumes nothing.
use Rattle.std.specs.Prelude.{◌≡◌, List, ℕ, length}
use Rattle.lexemes.specs.declared.Lexeme.{Lexeme as Range}
use Rattle.lexemes.specs.Kinds.{EOF}
use Rattle.lexemes.specs.Lexeme.{lexeme}
use Rattle.lexemes.specs.Kept.{FirstBad}
use Rattle.lexemes.specs.Kept as lexemes
use Rattle.grammar.specs.Lexemes.{Lexeme}
use Rattle.grammar.specs.Says.{Told}
use Rattle.grammar.specs.Answer.{Answer, Answers, document_01}

-- R35. Number 4's "first one": it has kind k and stands from a to e.
pub data Bad (source : List ℕ) (k a e : ℕ) : Type 0 where
  bad : (k ≡ EOF → ⊥) → FirstBad source (lexeme k a e) → Bad source k a e

-- R7. The source has no bad lexeme, and xs are its kept lexemes with what they say.
pub data Kept (source : List ℕ) (xs : List Lexeme) : Type 0 where
  kept : {ranges : List Range} → FirstBad source (lexeme EOF (length source) (length source)) → lexemes.Kept source 0 ranges → Told source ranges xs → Kept source xs

-- R1. Document 01: the answer and the output for a setting, a source and an output of so many bytes. The reader's contract.
abbrev pub Reads01 : ℕ → List ℕ → ℕ → Answer → List ℕ → Type 0
Reads01 setting source room answer out = Answers Bad Kept document_01 setting source room answer out
