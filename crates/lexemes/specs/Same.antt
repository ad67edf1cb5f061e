-- Two sources whose kept lexemes are the same, and where they part: 02, Item 10, "whose kept lexemes agree in kind and text". Bad lexemes are
-- kept ones; white space and comments are none.
-- Assumes nothing.
use Rattle.std.specs.Prelude.{◌≡◌, List, [], ◌∷◌, ℕ, suc}
use Rattle.lexemes.specs.declared.Lexeme.{Lexeme}
use Rattle.lexemes.specs.Kept.{Kept}
use Rattle.lexemes.specs.Texts.{text_of}

module _ (s t : List ℕ) where
  -- R46. A lexeme of s and one of t agree in kind and text.
  pub record SameLexeme (l m : Lexeme) : Type 0 where
    pub kind : l.kind ≡ m.kind
    pub text : text_of s l ≡ text_of t m

  -- Lexemes of s and of t, as many, each with its own.
  pub data SameList : List Lexeme → List Lexeme → Type 0 where
    none : SameList [] []
    more : {l m : Lexeme} {ls ms : List Lexeme} → SameLexeme l m → SameList ls ms → SameList (l ∷ ls) (m ∷ ms)

  -- R46. The kept lexemes of s and of t are the same.
  pub record SameLexemes : Type 0 where
    pub left : List Lexeme
    pub right : List Lexeme
    pub kept_left : Kept s 0 left
    pub kept_right : Kept t 0 right
    pub same : SameList left right

-- R31, R46. The places of a source by its kept lexemes, numbered from 0, where the last lexeme before them ended at p: each one's range, and behind them all
-- the end, which is the last one's end twice ("0, 0 if none").
pub data Place : ℕ → List Lexeme → ℕ → ℕ → ℕ → Type 0 where
  here : {p : ℕ} {l : Lexeme} {ls : List Lexeme} → Place p (l ∷ ls) 0 l.start l.end
  at_end : {p : ℕ} → Place p [] 0 p p
  later : {p i a e : ℕ} {l : Lexeme} {ls : List Lexeme} → Place l.end ls i a e → Place p (l ∷ ls) (suc i) a e
