-- A machine that reads a text byte by byte, with its open values on a stack: what the importer's inner functions promise is said by its states. Nothing
-- here has to be believed: that its runs are the readings of Values.antt is proved.
-- Assumes nothing.
use Rattle.std.specs.Prelude.{◌≡◌, Bool, false, ◌&&◌, ◌||◌, ℕ, ◌+◌, ◌-◌, ◌*◌, eqb, leb, length}
use Rattle.std.proofs.Math.Bool.{true, cond}
use mathlib.Core.List.{List, [], ◌∷◌, ◌++◌}
use Rattle.strings.specs.Utf8.{utf8}
use Rattle.numerals.specs.Value.{is_digit}
use Rattle.grammar.specs.Tags.{NULL, BOOL, NUMBER, STRING}
use Rattle.grammar.specs.Numbers.{DEPTH, LARGE}
use Rattle.grammar.specs.Trees.{byte, Trees, none, tree, ◌⊕◌}
use Rattle.grammar.specs.Answer.{Verdict, refused}
use Rattle.grammar.specs.Answer as answer
use Rattle.json_import.specs.Tokens.{At, ◌▹◌, is_blank, is_plain}
use Rattle.json_import.specs.Values.{leaf, negative, field, array, object, can_begin}
use Rattle.json_import.specs.Json.{NOT_JSON}

-- An open value: an array with its elements before, or an object with its fields before and the name of the field whose value is being read.
pub data Frame : Type 0 where
  arr : Trees → Frame
  obj : Trees → List ℕ → ℕ → ℕ → Frame

-- What a string is read for: a value; or a name behind these fields, which begins here.
pub data Use : Type 0 where
  a_value : Use
  a_name : Trees → ℕ → Use

-- How far a number is: `0`, more digits, a point, digits behind it, `e`, its sign, its digits; or none.
pub data Shape : Type 0 where
  zero int point frac mark sign exp over : Shape

-- How far an escape is: behind the backslash; behind `\u` and none to three digits; behind a high half, its low half's backslash, its `u`,
-- and one to three of its digits.
pub data Escape : Type 0 where
  slash u_none : Escape
  u_one u_two u_three : ℕ → Escape
  high high_slash high_u : ℕ → Escape
  low_one : ℕ → Escape
  low_two low_three : ℕ → ℕ → Escape

pub data State : Type 0 where
  want first first_name : List Frame → State
  name : Trees → List Frame → State
  colon : Trees → List ℕ → ℕ → ℕ → List Frame → State
  after : Trees → List Frame → State
  word : List ℕ → Trees → List Frame → State
  minus : List Frame → State
  digits : Shape → Bool → ℕ → List ℕ → List Frame → State
  chars : List ℕ → Use → List Frame → State
  escape : Escape → List ℕ → Use → List Frame → State
  stuck : ℕ → State
  broken : ℕ → ℕ → ℕ → State

abbrev pub is_mark : ℕ → Bool
is_mark b = eqb b 0x65 || eqb b 0x45

abbrev pub is_sign : ℕ → Bool
is_sign b = eqb b 0x2B || eqb b 0x2D

-- A number with one byte more.
unfoldable pub next : Shape → ℕ → Shape
next zero b = cond (eqb b 0x2E) point (cond (is_mark b) mark over)
next int b = cond (is_digit b) int (cond (eqb b 0x2E) point (cond (is_mark b) mark over))
next point b = cond (is_digit b) frac over
next frac b = cond (is_digit b) frac (cond (is_mark b) mark over)
next mark b = cond (is_digit b) exp (cond (is_sign b) sign over)
next sign b = cond (is_digit b) exp over
next exp b = cond (is_digit b) exp over
next over b = over

-- Its first digit.
abbrev pub begun : ℕ → Shape
begun b = cond (eqb b 0x30) zero int

unfoldable pub whole : Shape → Bool
whole zero = true
whole int = true
whole point = false
whole frac = true
whole mark = false
whole sign = false
whole exp = true
whole over = false

unfoldable pub is_over : Shape → Bool
is_over zero = false
is_over int = false
is_over point = false
is_over frac = false
is_over mark = false
is_over sign = false
is_over exp = false
is_over over = true

-- A shape behind more bytes.
unfoldable pub walk : Shape → List ℕ → Shape
unfolding next
walk sh [] = sh
walk sh (b ∷ v) = walk (next sh b) v

-- No number goes on from a shape with what is left.
abbrev pub Stopped : Shape → List ℕ → Type 0
Stopped sh [] = Unit {0}
Stopped sh (b ∷ r) = is_over (next sh b) ≡ true

-- A hex digit's value, 16 for another byte.
unfoldable pub hex : ℕ → ℕ
hex b =
    cond (leb 0x30 b && leb b 0x39) (b - 0x30)
    (cond (leb 0x41 b && leb b 0x46) (b - 0x37)
    (cond (leb 0x61 b && leb b 0x66) (b - 0x57) 16))

-- What a letter behind a backslash stands for, 256 for another byte.
unfoldable pub meant : ℕ → ℕ
meant b =
    cond (eqb b 0x22) 0x22
    (cond (eqb b 0x5C) 0x5C
    (cond (eqb b 0x2F) 0x2F
    (cond (eqb b 0x62) 0x08
    (cond (eqb b 0x66) 0x0C
    (cond (eqb b 0x6E) 0x0A
    (cond (eqb b 0x72) 0x0D
    (cond (eqb b 0x74) 0x09 256)))))))

-- A string is closed; its closing quote's end is e.
unfoldable pub closed : List ℕ → Use → ℕ → List Frame → State
closed w a_value e fs = after (leaf STRING w) fs
closed w (a_name ts a) e fs = colon ts w a e fs

-- One byte more of an escape. A half is told as soon as no text has it.
unfoldable pub escaped : Escape → List ℕ → Use → List Frame → ℕ → ℕ → State
unfolding meant hex
escaped slash w u fs i b = cond (eqb b 0x75) (escape u_none w u fs) (cond (leb 256 (meant b)) (stuck i) (chars (w ++ (meant b ∷ [])) u fs))
escaped u_none w u fs i b = cond (leb 16 (hex b)) (stuck i) (escape (u_one (hex b)) w u fs)
escaped (u_one x) w u fs i b =
    cond (leb 16 (hex b) || (leb 0xDC (x * 16 + hex b) && leb (x * 16 + hex b) 0xDF)) (stuck i) (escape (u_two (x * 16 + hex b)) w u fs)
escaped (u_two x) w u fs i b = cond (leb 16 (hex b)) (stuck i) (escape (u_three (x * 16 + hex b)) w u fs)
escaped (u_three x) w u fs i b =
    cond (leb 16 (hex b)) (stuck i)
    (cond (leb 0xD800 (x * 16 + hex b) && leb (x * 16 + hex b) 0xDBFF) (escape (high (x * 16 + hex b)) w u fs) (chars (w ++ utf8 (x * 16 + hex b)) u fs))
escaped (high n) w u fs i b = cond (eqb b 0x5C) (escape (high_slash n) w u fs) (stuck i)
escaped (high_slash n) w u fs i b = cond (eqb b 0x75) (escape (high_u n) w u fs) (stuck i)
escaped (high_u n) w u fs i b = cond (eqb (hex b) 13) (escape (low_one n) w u fs) (stuck i)
escaped (low_one n) w u fs i b = cond (leb 12 (hex b) && leb (hex b) 15) (escape (low_two n (13 * 16 + hex b)) w u fs) (stuck i)
escaped (low_two n x) w u fs i b = cond (leb 16 (hex b)) (stuck i) (escape (low_three n (x * 16 + hex b)) w u fs)
escaped (low_three n x) w u fs i b =
    cond (leb 16 (hex b)) (stuck i) (chars (w ++ utf8 (0x10000 + (n - 0xD800) * 0x400 + (x * 16 + hex b - 0xDC00))) u fs)

-- A number's tree.
unfoldable pub signed : Bool → List ℕ → Trees
signed false w = leaf NUMBER w
signed true w = negative (leaf NUMBER w)

-- A value is whole, and another byte comes.
unfoldable pub past : Trees → List Frame → ℕ → ℕ → State
past t [] i b = cond (is_blank b) (after t []) (stuck i)
past t (arr ts ∷ fs) i b =
    cond (is_blank b) (after t (arr ts ∷ fs)) (cond (eqb b 0x2C) (want (arr (ts ⊕ t) ∷ fs)) (cond (eqb b 0x5D) (after (array (ts ⊕ t)) fs) (stuck i)))
past t (obj ts w a e ∷ fs) i b =
    cond (is_blank b) (after t (obj ts w a e ∷ fs))
    (cond (eqb b 0x2C) (name (ts ⊕ field w a e t) fs) (cond (eqb b 0x7D) (after (object (ts ⊕ field w a e t)) fs) (stuck i)))

-- A word with one letter more.
unfoldable pub spelled : List ℕ → Trees → List Frame → ℕ → ℕ → State
spelled [] t fs i b = stuck i
spelled (c ∷ []) t fs i b = cond (eqb b c) (after t fs) (stuck i)
spelled (c ∷ (d ∷ cs)) t fs i b = cond (eqb b c) (word (d ∷ cs) t fs) (stuck i)

-- What is left of a word.
abbrev pub spelling : List ℕ → Trees → List Frame → State
spelling [] t fs = after t fs
spelling (c ∷ cs) t fs = word (c ∷ cs) t fs

-- A value's first byte, where it may begin.
unfoldable pub start : List Frame → ℕ → ℕ → State
start fs i b =
    cond (is_digit b) (digits (begun b) false i (b ∷ []) fs)
    (cond (eqb b 0x22) (chars [] a_value fs)
    (cond (eqb b 0x5B) (first fs)
    (cond (eqb b 0x7B) (first_name fs)
    (cond (eqb b 0x2D) (minus fs)
    (cond (eqb b 0x66) (word (0x61 ∷ 0x6C ∷ 0x73 ∷ 0x65 ∷ []) (tree BOOL (byte 0 ∷ []) none) fs)
    (cond (eqb b 0x6E) (word (0x75 ∷ 0x6C ∷ 0x6C ∷ []) (tree NULL [] none) fs)
    (cond (eqb b 0x74) (word (0x72 ∷ 0x75 ∷ 0x65 ∷ []) (tree BOOL (byte 1 ∷ []) none) fs) (stuck i))))))))

-- 01's depth.
abbrev pub is_deep : ℕ → Bool
is_deep k = leb 200 k

module _ (deep : ℕ → Bool) (large : List ℕ → Bool) where
  unfoldable pub begin : List Frame → ℕ → ℕ → State
  unfolding start
  begin fs i b = cond (can_begin b) (cond (deep (length fs)) (broken DEPTH i i) (start fs i b)) (stuck i)

  -- One byte more.
  unfoldable pub step : State → ℕ → ℕ → State
  unfolding begin next whole is_over signed past spelled escaped closed
  step (want fs) i b = cond (is_blank b) (want fs) (begin fs i b)
  step (first fs) i b = cond (is_blank b) (first fs) (cond (eqb b 0x5D) (after (array none) fs) (begin (arr none ∷ fs) i b))
  step (first_name fs) i b = cond (is_blank b) (first_name fs) (cond (eqb b 0x22) (chars [] (a_name none i) fs) (cond (eqb b 0x7D) (after (object none) fs) (stuck i)))
  step (name ts fs) i b = cond (is_blank b) (name ts fs) (cond (eqb b 0x22) (chars [] (a_name ts i) fs) (stuck i))
  step (colon ts w a e fs) i b = cond (is_blank b) (colon ts w a e fs) (cond (eqb b 0x3A) (want (obj ts w a e ∷ fs)) (stuck i))
  step (after t fs) i b = past t fs i b
  step (word cs t fs) i b = spelled cs t fs i b
  step (minus fs) i b = cond (is_digit b) (cond (deep (length fs + 1)) (broken DEPTH i i) (digits (begun b) true i (b ∷ []) fs)) (stuck i)
  step (digits sh neg a w fs) i b =
      cond (is_over (next sh b)) (cond (whole sh) (cond (large w) (broken LARGE a i) (past (signed neg w) fs i b)) (stuck i))
      (digits (next sh b) neg a (w ++ (b ∷ [])) fs)
  step (chars w u fs) i b = cond (is_plain b) (chars (w ++ (b ∷ [])) u fs) (cond (eqb b 0x22) (closed w u (i + 1) fs) (cond (eqb b 0x5C) (escape slash w u fs) (stuck i)))
  step (escape x w u fs) i b = escaped x w u fs i b
  step (stuck n) i b = stuck n
  step (broken n a e) i b = broken n a e

  unfoldable pub ended : Trees → List Frame → ℕ → Verdict
  ended t [] i = answer.tree t
  ended t (f ∷ fs) i = refused NOT_JSON i i 0

  -- The end of the text.
  unfoldable pub finish : State → ℕ → Verdict
  unfolding ended whole signed
  finish (want fs) i = refused NOT_JSON i i 0
  finish (first fs) i = refused NOT_JSON i i 0
  finish (first_name fs) i = refused NOT_JSON i i 0
  finish (name ts fs) i = refused NOT_JSON i i 0
  finish (colon ts w a e fs) i = refused NOT_JSON i i 0
  finish (after t fs) i = ended t fs i
  finish (word cs t fs) i = refused NOT_JSON i i 0
  finish (minus fs) i = refused NOT_JSON i i 0
  finish (digits sh neg a w fs) i = cond (whole sh) (cond (large w) (refused LARGE a i 0) (ended (signed neg w) fs i)) (refused NOT_JSON i i 0)
  finish (chars w u fs) i = refused NOT_JSON i i 0
  finish (escape x w u fs) i = refused NOT_JSON i i 0
  finish (stuck n) i = refused NOT_JSON n n 0
  finish (broken n a e) i = refused n a e 0

  unfoldable pub run : State → ℕ → List ℕ → Verdict
  unfolding finish step
  run st i [] = finish st i
  run st i (b ∷ s) = run (step st i b) (i + 1) s

  abbrev pub goes : State → At → Verdict
  goes st (i ▹ s) = run st i s
