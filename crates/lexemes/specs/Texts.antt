-- What the text of a kept lexeme is like: what the layers above need to know of it.
-- Assumes nothing.
use Rattle.std.specs.Prelude.{◌≡◌, Bool, true, false, cond, List, [], ◌∷◌, ◌++◌, ◌⊎◌, ℕ, ◌-◌, T, eqb, take, drop}
use Prim.Native.Char.{code}
use Rattle.regexes.specs.Regex.{in_class, within}
use Rattle.lexemes.specs.declared.Lexeme.{Lexeme}
use Rattle.lexemes.specs.Letters.{ascii}
use Rattle.lexemes.specs.Rules.{◌–◌, alpha, alnum}

-- The bytes from one place to another; the text of a lexeme.
abbrev pub part : List ℕ → ℕ → ℕ → List ℕ
part s a e = take (e - a) (drop a s)

abbrev pub text_of : List ℕ → Lexeme → List ℕ
text_of s l = part s l.start l.end

-- Every byte passes a test.
abbrev pub All : (ℕ → Bool) → List ℕ → Type 0
All f [] = Unit {0}
All f (b ∷ bs) = T (f b) × All f bs

-- An identifier, `[_a-zA-Z][_a-zA-Z0-9]*`, that is no keyword.
abbrev pub Identifier : List ℕ → Type 0
Identifier [] = ⊥
Identifier (b ∷ bs) = T (in_class alpha b) × All (in_class alnum) bs

unfoldable pub keywords : List (List ℕ)
keywords =
    ascii "tailstrict" ∷ ascii "local" ∷ ascii "importstr" ∷ ascii "importbin" ∷ ascii "import" ∷ ascii "if" ∷ ascii "then" ∷ ascii "else" ∷
    ascii "function" ∷ ascii "error" ∷ ascii "in" ∷ ascii "null" ∷ ascii "true" ∷ ascii "false" ∷ ascii "self" ∷ ascii "super" ∷ ascii "for" ∷ ascii "assert" ∷ []

abbrev pub Among : List ℕ → List (List ℕ) → Type 0
Among t [] = ⊥
Among t (u ∷ us) = (t ≡ u) ⊎ Among t us

-- A test's answer to whether a text is a keyword.
pub data TellsKeyword (t : List ℕ) : Bool → Type 0 where
  keyword : Among t keywords → TellsKeyword t true
  other : (Among t keywords → ⊥) → TellsKeyword t false

-- "A number keeps its literal without underscores": a literal without them, and what it then is.
unfoldable pub plain : List ℕ → List ℕ
plain [] = []
plain (b ∷ bs) = cond (eqb b (code "_")) (plain bs) (b ∷ plain bs)

abbrev pub is_digit : ℕ → Bool
is_digit b = within ("0" – "9" ∷ []) b

pub data Whole : List ℕ → Type 0 where
  zero : Whole (code "0" ∷ [])
  digits : {b : ℕ} {bs : List ℕ} → T (within ("1" – "9" ∷ []) b) → All is_digit bs → Whole (b ∷ bs)

pub data Fraction : List ℕ → Type 0 where
  none : Fraction []
  point : {b : ℕ} {bs : List ℕ} → T (is_digit b) → All is_digit bs → Fraction (code "." ∷ b ∷ bs)

abbrev pub is_e : ℕ → Bool
is_e b = within ("e" – "e" ∷ "E" – "E" ∷ []) b

abbrev pub is_sign : ℕ → Bool
is_sign b = within ("+" – "+" ∷ "-" – "-" ∷ []) b

pub data Exponent : List ℕ → Type 0 where
  none : Exponent []
  unsigned : {e b : ℕ} {bs : List ℕ} → T (is_e e) → T (is_digit b) → All is_digit bs → Exponent (e ∷ b ∷ bs)
  signed : {e s b : ℕ} {bs : List ℕ} → T (is_e e) → T (is_sign s) → T (is_digit b) → All is_digit bs → Exponent (e ∷ s ∷ b ∷ bs)

pub data Numeral : List ℕ → Type 0 where
  numeral : {w f e : List ℕ} → Whole w → Fraction f → Exponent e → Numeral (w ++ (f ++ e))

-- A literal between quotes q, and a verbatim one.
abbrev pub Enclosed : ℕ → List ℕ → List ℕ → Type 0
Enclosed q inside t = t ≡ q ∷ (inside ++ q ∷ [])

abbrev pub EnclosedRaw : ℕ → List ℕ → List ℕ → Type 0
EnclosedRaw q inside t = t ≡ code "@" ∷ q ∷ (inside ++ q ∷ [])
