-- Regular expressions as values, what it is for one to match from a place to a place of a text, and the longest match of a table of rules.
-- Assumes nothing.
use Rattle.std.specs.Prelude.{◌≡◌, Bool, false, not, ◌&&◌, ◌||◌, List, [], ◌∷◌, ◌⊎◌, ℕ, ◌≤◌, T, leb, ltb}

infix 90 ◌to◌
infixr 30 ◌·◌
infixr 20 ◌∣◌
infix 10 ◌⇒◌
-- R6. A text: the letter at each place, and the place after that letter.
pub record Text : Type 0 where
  pub letter : ℕ → ℕ
  pub next : ℕ → ℕ

-- R6. The letter that stands past the end of a text. It is the largest, and no class has it.
abbrev pub END : ℕ
END = 130

-- R6. Letters from one to another, both included.
pub data Range : Type 0 where
  ◌to◌ : ℕ → ℕ → Range
  deriving Discrete as Range-discrete

-- R6. `only rs` is the class `[..]`, `but rs` the class `[^..]`.
pub data Class : Type 0 where
  only but : List Range → Class
  deriving Discrete as Class-discrete

-- R6. Nothing, the empty text, one letter of a class, one after the other, one or the other, any number of times.
pub data Re : Type 0 where
  none eps : Re
  one : Class → Re
  ◌·◌ ◌∣◌ : Re → Re → Re
  star : Re → Re
  deriving Discrete as Re-discrete

abbrev pub within : List Range → ℕ → Bool
within [] l = false
within (a to b ∷ rs) l = (leb a l && leb l b) || within rs l

abbrev pub in_class : Class → ℕ → Bool
in_class (only rs) l = ltb l END && within rs l
in_class (but rs) l = ltb l END && not (within rs l)

-- R6. Any number of steps.
pub data Star (R : ℕ → ℕ → Type 0) : ℕ → ℕ → Type 0 where
  stop : {i : ℕ} → Star R i i
  more : {i j k : ℕ} → R i j → Star R j k → Star R i k

-- R6. The expression matches the text from i to j.
unfoldable pub Match : Text → Re → ℕ → ℕ → Type 0
Match t none i j = ⊥
Match t eps i j = i ≡ j
Match t (one c) i j = T (in_class c (t.letter i)) × (j ≡ t.next i)
Match t (a · b) i k = (j : ℕ) × Match t a i j × Match t b j k
Match t (a ∣ b) i j = Match t a i j ⊎ Match t b i j
Match t (star a) i j = Star (Match t a) i j

-- R6. A rule: the kind that it gives, and what it matches.
pub data Rule : Type 0 where
  ◌⇒◌ : ℕ → Re → Rule
  deriving Discrete as Rule-discrete

-- R6. Some rule of the table that gives kind k matches from i to j.
unfoldable pub Takes : Text → List Rule → ℕ → ℕ → ℕ → Type 0
Takes t [] k i j = ⊥
Takes t ((q ⇒ r) ∷ rs) k i j = ((k ≡ q) × Match t r i j) ⊎ Takes t rs k i j

-- R6. The longest match at a place gives kind k and ends at e. Whoever else reaches e gives k too, or is beaten by k.
pub record Longest (Beats : ℕ → ℕ → Type 0) (t : Text) (rules : List Rule) (at k e : ℕ) : Type 0 where
  pub takes : Takes t rules k at e
  pub longest : (k' e' : ℕ) → Takes t rules k' at e' → e' ≤ e
  pub first : (k' : ℕ) → Takes t rules k' at e → (k' ≡ k) ⊎ Beats k k'

-- R8. No rule takes anything at a place.
pub record Nothing (t : Text) (rules : List Rule) (at : ℕ) : Type 0 where
  pub none_takes : (k e : ℕ) → Takes t rules k at e → ⊥
