-- What the phrases see of a lexeme.
-- Assumes nothing.
use Rattle.std.specs.Prelude.{Bool, true, false, List, [], ◌∷◌, ℕ, ◌-◌, ◌≤◌, ◌<◌, length}
use Rattle.lexemes.specs.Kinds.{EOF}

-- R42. What a lexeme says: a name, a number without underscores, a text decoded; of a string with a bad escape no text, but how many bytes of its
-- inside stand before the first; or, as a number beyond a double, nothing.
pub data Said : Type 0 where
  says : List ℕ → Said
  spoiled : ℕ → Said
  nothing : Said

unfoldable pub good : Said → Bool
good (says w) = true
good (spoiled n) = false
good nothing = false

unfoldable pub said : Said → List ℕ
said (says w) = w
said (spoiled n) = []
said nothing = []

unfoldable pub spoiled_at : Said → ℕ
spoiled_at (says w) = 0
spoiled_at (spoiled n) = n
spoiled_at nothing = 0

-- R7, R42. A kept lexeme: its kind, its range and what it says.
pub record Lexeme : Type 0 where
  pub kind : ℕ
  pub start : ℕ
  pub stop : ℕ
  pub word : Said

-- R31. Of the lexemes that are left: those after the next one, its kind, and what it says. With none left: EOF.
abbrev pub rest : List Lexeme → List Lexeme
rest [] = []
rest (x ∷ xs) = xs

abbrev pub kind_of : List Lexeme → ℕ
kind_of [] = EOF
kind_of (x ∷ xs) = x.kind

abbrev pub word_of : List Lexeme → Said
word_of [] = nothing
word_of (x ∷ xs) = x.word

-- R31. 01's "current": "the next kept lexeme's range, or, with none left, the last one's end twice (0, 0 if none)". `p` is where the last
-- one ended, 0 at first.
abbrev pub start_of : ℕ → List Lexeme → ℕ
start_of p [] = p
start_of p (x ∷ xs) = x.start

abbrev pub stop_of : ℕ → List Lexeme → ℕ
stop_of p [] = p
stop_of p (x ∷ xs) = x.stop

-- R7. What the lexeme layer owes: from p on, within a source of so many bytes, the ranges go forward, no lexeme is empty, and none says more
-- bytes than it has.
pub data Ranged (size : ℕ) : ℕ → List Lexeme → Type 0 where
  none : {p : ℕ} → p ≤ size → Ranged size p []
  more : {p : ℕ} {x : Lexeme} {xs : List Lexeme} → p ≤ x.start → x.start < x.stop → length (said x.word) ≤ x.stop - x.start → Ranged size x.stop xs
      → Ranged size p (x ∷ xs)
