-- The numbers handed back: 01's table, by the names that the code has (src/numbers.rt). What stands in the other fields of an answer is
-- said here once; that every answer keeps to it is proved (proofs/NumberLaws.antt).
-- Assumes nothing.
use Rattle.std.specs.Prelude.{Bool, true, false, ◌&&◌, cond, List, [], ◌∷◌, ℕ, eqb}

abbrev pub TREE : ℕ
TREE = 0

abbrev pub SETTING : ℕ
SETTING = 1

abbrev pub LONG : ℕ
LONG = 2

abbrev pub ENCODING : ℕ
ENCODING = 3

abbrev pub LEXEME : ℕ
LEXEME = 4

abbrev pub WANTED : ℕ
WANTED = 5

abbrev pub ABSENT : ℕ
ABSENT = 6

abbrev pub EXPRESSION : ℕ
EXPRESSION = 7

abbrev pub MISPLACED : ℕ
MISPLACED = 8

abbrev pub ESCAPE : ℕ
ESCAPE = 9

-- 10 is not used: 02, Item 10, "retire its number without using it again".

abbrev pub DEPTH : ℕ
DEPTH = 11

abbrev pub ROOM : ℕ
ROOM = 12

abbrev pub LARGE : ℕ
LARGE = 17

-- R30. "Order: 1, 2, 3, 4; then 5 to 11 as the reading meets them; 12 last." What comes last is for a tree, and has a length.
pub data Order : Type 0 where
  first met last : Order

-- R31 to R35. The place: none; start = end; a lexeme, or with none left the end twice.
pub data Place : Type 0 where
  nowhere point lexeme : Place

-- R35 to R39. The detail: none; a kind; one of those that 01 numbers; where in the source a byte stands.
pub data Detail : Type 0 where
  nothing kind which byte : Detail

pub data Row : Type 0 where
  row : ℕ → Order → Place → Detail → Row

-- R30 to R39, R45.
unfoldable pub table : List Row
table =
    row TREE last nowhere nothing ∷
    row SETTING first nowhere nothing ∷
    row LONG first nowhere nothing ∷
    row ENCODING first point nothing ∷
    row LEXEME first lexeme kind ∷
    row WANTED met lexeme kind ∷
    row ABSENT met lexeme which ∷
    row EXPRESSION met lexeme nothing ∷
    row MISPLACED met lexeme which ∷
    row ESCAPE met lexeme byte ∷
    row DEPTH met lexeme nothing ∷
    row ROOM last nowhere nothing ∷
    row LARGE met lexeme nothing ∷
    []

-- ── What the table says of numbers ────────────────────────────────────────────────────────────────

unfoldable pub is_met : Order → Bool
is_met first = false
is_met met = true
is_met last = false

unfoldable pub placed : Place → ℕ → ℕ → Bool
placed nowhere a e = eqb a 0 && eqb e 0
placed point a e = eqb a e
placed lexeme a e = true

unfoldable pub is_lexeme : Place → Bool
is_lexeme nowhere = false
is_lexeme point = false
is_lexeme lexeme = true

unfoldable pub detailed : Detail → ℕ → Bool
detailed nothing x = eqb x 0
detailed kind x = true
detailed which x = true
detailed byte x = true

unfoldable pub sized : Order → ℕ → Bool
sized first n = eqb n 0
sized met n = eqb n 0
sized last n = true

unfoldable pub met_in : ℕ → ℕ → List Row → Bool
unfolding is_met detailed
met_in n x [] = false
met_in n x (row m o p d ∷ rows) = cond (eqb n m) (is_met o && detailed d x) (met_in n x rows)

-- The reading may meet number n, with detail x.
unfoldable pub met_with : ℕ → ℕ → Bool
unfolding met_in table
met_with n x = met_in n x table

unfoldable pub fits_in : ℕ → ℕ → ℕ → ℕ → ℕ → List Row → Bool
unfolding placed detailed sized
fits_in n a e x l [] = false
fits_in n a e x l (row m o p d ∷ rows) = cond (eqb n m) (placed p a e && (detailed d x && sized o l)) (fits_in n a e x l rows)

-- R2. Number, start, end, detail and length, as the table has them: "Unused fields are 0."
unfoldable pub fits : ℕ → ℕ → ℕ → ℕ → ℕ → Bool
unfolding fits_in table
fits n a e x l = fits_in n a e x l table

unfoldable pub at_lexeme_in : ℕ → List Row → Bool
unfolding is_lexeme
at_lexeme_in n [] = false
at_lexeme_in n (row m o p d ∷ rows) = cond (eqb n m) (is_lexeme p) (at_lexeme_in n rows)

-- Number n stands at a lexeme, or at the end.
unfoldable pub at_lexeme : ℕ → Bool
unfolding at_lexeme_in table
at_lexeme n = at_lexeme_in n table
