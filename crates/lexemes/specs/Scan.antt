-- What the scanners promise each other. No public contract cites these: they stand for what is left of the rules on the way through a lexeme.
-- Assumes nothing.
use Rattle.std.specs.Prelude.{◌≡◌, Bool, true, false, cond, List, [], ◌∷◌, ◌++◌, ◌⊎◌, ℕ, ◌+◌, ◌≤◌, ◌<◌, eqb, ltb, length, get_or, Option, None, Some}
use Prim.Native.Char.{code}
use Rattle.regexes.specs.Regex.{within, Class, but, one, ◌·◌, ◌∣◌, star, Rule, ◌⇒◌, in_class, Longest, Nothing, Takes}
use Rattle.lexemes.specs.declared.Matched.{Matched}
use Rattle.lexemes.specs.declared.bytes.Class.{Class as ByteClass}
use Rattle.lexemes.specs.declared.bytes.Class.TheVariants.{Other, Alpha, Digit, Zero, Blank, Double, Single, At, Hash, Slash, Operator}
use Rattle.lexemes.specs.Kinds.{OR, NULL_COAELSE, AND, BIT_OR, BIT_XOR, BIT_AND, EQ, NE, LT, GT, LE, GE, LHS, RHS, PLUS, MINUS, MUL, MODULO, NOT, BIT_NOT, L_BRACK, R_BRACK, L_PAREN, R_PAREN, L_BRACE, R_BRACE, COLON, SEMI, DOT, COMMA, DOLLAR, ASSIGN, QUESTION_MARK, FLOAT, ERROR_FLOAT_JUNK_AFTER_POINT, ERROR_FLOAT_JUNK_AFTER_EXPONENT, ERROR_FLOAT_JUNK_AFTER_EXPONENT_SIGN, STRING_DOUBLE, STRING_SINGLE, STRING_DOUBLE_VERBATIM, STRING_SINGLE_VERBATIM, ERROR_STRING_VERBATIM_MISSING_QUOTES, SINGLE_LINE_SLASH_COMMENT, SINGLE_LINE_HASH_COMMENT, MULTI_LINE_COMMENT, ERROR_COMMENT_UNTERMINATED}
use Rattle.lexemes.specs.Letters.{text, ascii}
use Rattle.lexemes.specs.Rules.{◌–◌, chr, some, alpha, digit, no_digit, groups, exponent, ee, sign, opt, line, new_line, space, no_star, no_star_slash, no_slash}
use Rattle.lexemes.specs.Lexeme.{Beats}

-- The longest match of what is left of the rules, and none.
abbrev pub Best : List ℕ → List Rule → ℕ → ℕ → ℕ → Type 0
Best s S at k e = Longest Beats (text s) S at k e

abbrev pub Never : List ℕ → List Rule → ℕ → Type 0
Never s S at = Nothing (text s) S at

-- The longest match of what is left, or None where there is none.
abbrev pub Tried : List ℕ → List Rule → ℕ → Option Matched → Type 0
Tried s S f None = Never s S f
Tried s S f (Some m) = Best s S f m.kind m.end

-- A test's answer to a question.
abbrev pub Says : Bool → Type 0 → Type 0
Says true A = A
Says false A = A → ⊥

-- The numbers of the classes that the code names.
abbrev pub class_number : ByteClass → ℕ
class_number Other = 0
class_number Alpha = 1
class_number Digit = 2
class_number Zero = 3
class_number Blank = 4
class_number Double = 5
class_number Single = 6
class_number At = 7
class_number Hash = 8
class_number Slash = 9
class_number Operator = 10

-- The class of a byte below 128: which scanner takes a lexeme that begins with it.
unfoldable pub ascii_class : ℕ → ℕ
ascii_class b =
    cond (in_class alpha b) 1
    (cond (within ("1" – "9" ∷ []) b) 2
    (cond (eqb b (code "0")) 3
    (cond (within (" " – " " ∷ "\t" – "\t" ∷ "\n" – "\n" ∷ "\r" – "\r" ∷ []) b) 4
    (cond (eqb b (code "\"")) 5
    (cond (eqb b (code "'")) 6
    (cond (eqb b (code "@")) 7
    (cond (eqb b (code "#")) 8
    (cond (eqb b (code "/")) 9
    (cond (within ("!" – "!" ∷ "$" – "&" ∷ "(" – "." ∷ ":" – "?" ∷ "[" – "[" ∷ "]" – "^" ∷ "{" – "~" ∷ []) b) 10 0)))))))))

unfoldable pub class_of : ℕ → ℕ
class_of b = cond (ltb b 128) (ascii_class b) 0

-- The table of classes, as src/bytes.rt has it, sixteen to a row: `0` for class 0 and so on up to `:` for 10.
unfoldable pub class_table : List ℕ
class_table =
    ascii "0000000004400400" ++
    ascii "0000000000000000" ++
    ascii "4:58:::6:::::::9" ++
    ascii "3222222222::::::" ++
    ascii "7111111111111111" ++
    ascii "11111111111:0::1" ++
    ascii "0111111111111111" ++
    ascii "11111111111::::0" ++
    ascii "0000000000000000" ++
    ascii "0000000000000000" ++
    ascii "0000000000000000" ++
    ascii "0000000000000000" ++
    ascii "0000000000000000" ++
    ascii "0000000000000000" ++
    ascii "0000000000000000" ++
    ascii "0000000000000000"

-- The bytes from f up to r have classes lo to hi, and the byte at r has not.
pub record Ran (s : List ℕ) (f lo hi r : ℕ) : Type 0 where
  pub start : f ≤ r
  pub end : r ≤ length s
  pub each : (k : ℕ) → f ≤ k → k < r → (lo ≤ class_of (get_or s k 0)) × (class_of (get_or s k 0) ≤ hi)
  pub over : lo ≤ class_of (get_or s r 0) → class_of (get_or s r 0) ≤ hi → ⊥

-- The bytes from f up to r pass a test, and the byte at r, where there is one, does not.
pub record RunOf (p : ℕ → Bool) (s : List ℕ) (f r : ℕ) : Type 0 where
  pub start : f ≤ r
  pub end : r ≤ length s
  pub each : (k : ℕ) → f ≤ k → k < r → p (get_or s k 0) ≡ true
  pub over : r < length s → p (get_or s r 0) ≡ false

-- A word goes on with the byte.
abbrev pub InWord : ℕ → Type 0
InWord b = (1 ≤ class_of b) × (class_of b ≤ 3)

-- A kind that may be none, which the definitions below say by 0.
abbrev pub named : ℕ → Option ℕ
named k = cond (eqb k 0) None (Some k)

-- Operators of one byte and of two.
unfoldable pub single : ℕ → ℕ
single b =
    cond (eqb b (code "|")) BIT_OR
    (cond (eqb b (code "^")) BIT_XOR
    (cond (eqb b (code "&")) BIT_AND
    (cond (eqb b (code "<")) LT
    (cond (eqb b (code ">")) GT
    (cond (eqb b (code "+")) PLUS
    (cond (eqb b (code "-")) MINUS
    (cond (eqb b (code "*")) MUL
    (cond (eqb b (code "%")) MODULO
    (cond (eqb b (code "!")) NOT
    (cond (eqb b (code "~")) BIT_NOT
    (cond (eqb b (code "[")) L_BRACK
    (cond (eqb b (code "]")) R_BRACK
    (cond (eqb b (code "(")) L_PAREN
    (cond (eqb b (code ")")) R_PAREN
    (cond (eqb b (code "{")) L_BRACE
    (cond (eqb b (code "}")) R_BRACE
    (cond (eqb b (code ":")) COLON
    (cond (eqb b (code ";")) SEMI
    (cond (eqb b (code ".")) DOT
    (cond (eqb b (code ",")) COMMA
    (cond (eqb b (code "$")) DOLLAR
    (cond (eqb b (code "=")) ASSIGN
    (cond (eqb b (code "?")) QUESTION_MARK 0)))))))))))))))))))))))

unfoldable pub pair : ℕ → ℕ → ℕ
pair b c =
    cond (eqb c (code "="))
    (cond (eqb b (code "=")) EQ (cond (eqb b (code "!")) NE (cond (eqb b (code "<")) LE (cond (eqb b (code ">")) GE 0))))
    (cond (eqb b c)
    (cond (eqb b (code "|")) OR
    (cond (eqb b (code "?")) NULL_COAELSE (cond (eqb b (code "&")) AND (cond (eqb b (code "<")) LHS (cond (eqb b (code ">")) RHS 0)))))
    0)

-- k is the kind of the operator of one byte b, which is the whole lexeme where the byte after it is c.
pub record Alone (b c k : ℕ) : Type 0 where
  pub class : class_of b ≡ 10
  pub kind : k ≡ single b
  pub no_pair : pair b c ≡ 0
  pub no_dots : b ≡ code "." → c ≡ code "." → ⊥

-- Such a kind, whatever the byte after it, or None, which says nothing.
abbrev pub Lone : ℕ → Option ℕ → Type 0
Lone b None = Unit {0}
Lone b (Some k) = (c : ℕ) → Alone b c k

-- A quote, and the kind of the string in it; the next kind is that of one with no end.
abbrev pub Quote : ℕ → ℕ → Type 0
Quote q g = ((q ≡ code "\"") × (g ≡ STRING_DOUBLE)) ⊎ ((q ≡ code "'") × (g ≡ STRING_SINGLE))

abbrev pub RawQuote : ℕ → ℕ → Type 0
RawQuote q g = ((q ≡ code "\"") × (g ≡ STRING_DOUBLE_VERBATIM)) ⊎ ((q ≡ code "'") × (g ≡ STRING_SINGLE_VERBATIM))

-- A line comment of kind k after its opening.
abbrev pub in_line : ℕ → List Rule
in_line k = (k ⇒ line · new_line) ∷ []

pub record LineEnd (s : List ℕ) (f r : ℕ) : Type 0 where
  pub slash : Best s (in_line SINGLE_LINE_SLASH_COMMENT) f SINGLE_LINE_SLASH_COMMENT r
  pub hash : Best s (in_line SINGLE_LINE_HASH_COMMENT) f SINGLE_LINE_HASH_COMMENT r

-- A comment after its opening: a whole one, and one that has no end.
abbrev pub in_comment : List Rule
in_comment = (MULTI_LINE_COMMENT ⇒ star (no_star ∣ some (chr "*") · no_star_slash) · some (chr "*") · chr "/") ∷ []

abbrev pub unclosed : List Rule
unclosed = (ERROR_COMMENT_UNTERMINATED ⇒ some (no_star_slash ∣ chr "*" · no_slash)) ∷ []

-- Where a comment's closing ends, past all that one with no end takes; or None, and there is no closing.
abbrev pub Closing : List ℕ → ℕ → Option ℕ → Type 0
Closing s f None = Never s in_comment f
Closing s f (Some r) = Best s in_comment f MULTI_LINE_COMMENT r × (f + 2 ≤ r) × ((k e : ℕ) → Takes (text s) unclosed k f e → e < r)

-- r is where a comment with no closing ends; or the start, and there is none.
abbrev pub Opening : List ℕ → ℕ → ℕ → Type 0
Opening s f r = ((r ≡ f) × Never s unclosed f) ⊎ ((f < r) × Best s unclosed f ERROR_COMMENT_UNTERMINATED r)

abbrev pub IsDigit : ℕ → Type 0
IsDigit b = (2 ≤ class_of b) × (class_of b ≤ 3)

-- Digits, and groups of digits after a `_`.
pub data Hops (s : List ℕ) : ℕ → ℕ → Type 0 where
  here : {i : ℕ} → Hops s i i
  digit_on : {i j k : ℕ} → Hops s i j → IsDigit (get_or s j 0) → k ≡ j + 1 → Hops s i k
  group_on : {i j k : ℕ} → Hops s i j → get_or s j 0 ≡ code "_" → IsDigit (get_or s (j + 1) 0) → k ≡ j + 2 → Hops s i k

-- `[0-9]*(?:_[0-9]+)*` from f ends at r and goes no further.
pub record Digits (s : List ℕ) (f r : ℕ) : Type 0 where
  pub start : f ≤ r
  pub end : r ≤ length s
  pub hops : Hops s f r
  pub over : IsDigit (get_or s r 0) → ⊥
  pub no_group : get_or s r 0 ≡ code "_" → IsDigit (get_or s (r + 1) 0) → ⊥

-- A number after its `.`, after its `e` and after its exponent's sign.
abbrev pub after_point : List Rule
after_point =
    (FLOAT ⇒ some digit · groups · exponent)
    ∷ (ERROR_FLOAT_JUNK_AFTER_POINT ⇒ no_digit)
    ∷ (ERROR_FLOAT_JUNK_AFTER_EXPONENT ⇒ some digit · groups · ee · one (but ("+" – "+" ∷ "-" – "-" ∷ "0" – "9" ∷ [])))
    ∷ (ERROR_FLOAT_JUNK_AFTER_EXPONENT_SIGN ⇒ some digit · groups · ee · sign · no_digit)
    ∷ []

abbrev pub after_e : List Rule
after_e =
    (FLOAT ⇒ opt sign · some digit · groups)
    ∷ (ERROR_FLOAT_JUNK_AFTER_EXPONENT ⇒ one (but ("+" – "+" ∷ "-" – "-" ∷ "0" – "9" ∷ [])))
    ∷ (ERROR_FLOAT_JUNK_AFTER_EXPONENT_SIGN ⇒ sign · no_digit)
    ∷ []

abbrev pub after_sign : List Rule
after_sign = (FLOAT ⇒ some digit · groups) ∷ (ERROR_FLOAT_JUNK_AFTER_EXPONENT_SIGN ⇒ no_digit) ∷ []

abbrev pub IsE : ℕ → Type 0
IsE b = (b ≡ code "e") ⊎ (b ≡ code "E")

-- A number that may go on by an exponent at p, or ends there.
abbrev pub ExponentAt : List ℕ → ℕ → ℕ → ℕ → Type 0
ExponentAt s p k e =
    (IsE (get_or s p 0) × Best s after_e (p + 1) k e) ⊎ ((k ≡ FLOAT) × (e ≡ p) × (IsE (get_or s p 0) → Never s after_e (p + 1)))

-- A number whose whole part ends at p.
abbrev pub FractionAt : List ℕ → ℕ → ℕ → ℕ → Type 0
FractionAt s p k e =
    ((get_or s p 0 ≡ code ".") × Best s after_point (p + 1) k e)
    ⊎ (((get_or s p 0 ≡ code ".") × Never s after_point (p + 1) × (k ≡ FLOAT) × (e ≡ p)) ⊎ ((get_or s p 0 ≡ code "." → ⊥) × ExponentAt s p k e))

-- A character that is no white space, `\S`.
abbrev pub black : Class
black = but space

-- The junk rule after `@` and a character.
abbrev pub blacks : List Rule
blacks = (ERROR_STRING_VERBATIM_MISSING_QUOTES ⇒ some (one black)) ∷ []

-- r is where the run of such characters ends; or the start, and there is none.
abbrev pub BlackEnd : List ℕ → ℕ → ℕ → Type 0
BlackEnd s f r = ((r ≡ f) × Never s blacks f) ⊎ ((f < r) × Best s blacks f ERROR_STRING_VERBATIM_MISSING_QUOTES r)
