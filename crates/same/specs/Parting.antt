-- Where two sources part: the first of their kept lexemes, one by one, that do not agree in kind and text.
-- Assumes nothing.
use Rattle.std.specs.Prelude.{List, [], ◌∷◌, ℕ, Option, None, Some}
use Rattle.lexemes.specs.declared.Lexeme.{Lexeme}
use Rattle.lexemes.specs.Kept.{Kept, first}
use Rattle.lexemes.specs.Same.{SameLexeme}

-- What the comparison gives: nothing where all kept lexemes are the same; else the first two that are not.
abbrev pub Parting : Type 0
Parting = Option (Lexeme × Lexeme)

module _ (s t : List ℕ) where
  -- R46. Kept lexemes of s and of t, the last before them having ended at p and q. With none left, EOF stands there (`first`), which is no lexeme's kind: so
  -- a source with lexemes left parts from one without.
  pub data Parts : ℕ → ℕ → List Lexeme → List Lexeme → Parting → Type 0 where
    both_over : {p q : ℕ} → Parts p q [] [] None
    on : {p q : ℕ} {l m : Lexeme} {ls ms : List Lexeme} {r : Parting} → SameLexeme s t l m → Parts l.end m.end ls ms r → Parts p q (l ∷ ls) (m ∷ ms) r
    here : {p q : ℕ} {ls ms : List Lexeme} → (SameLexeme s t (first p ls) (first q ms) → ⊥) → Parts p q ls ms (Some (first p ls, first q ms))

  pub record FirstDifference (r : Parting) : Type 0 where
    pub left : List Lexeme
    pub right : List Lexeme
    pub kept_left : Kept s 0 left
    pub kept_right : Kept t 0 right
    pub parts : Parts 0 0 left right r
