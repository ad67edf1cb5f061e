-- The automaton of the rules that are no keywords: its states, each by a text that leads to it, and where a letter leads from each.
-- From it: at every place there is a longest match or none, and no two of these rules ever end a longest match at one place.
-- Assumes nothing.
use mathlib.Core.List.{List, [], ◌∷◌, map}
use Prim.Native.Nat.{ℕ}
use Prim.Native.String.{String}
use native.Mathlib.Omega.{arith}
use lib.Dec.{T}
use lib.ListN.{length}
use Rattle.regexes.specs.Regex.{Rule, ◌⇒◌, eps}
use Rattle.regexes.proofs.Tables.{left}
use Rattle.regexes.proofs.Exists.{closes, Outcome, outcome}
use Rattle.lexemes.specs.Kinds.{NULL_COAELSE, AND, BIT_XOR, EQ, NE, LE, GE, LHS, RHS, PLUS, MINUS, MUL, MODULO, BIT_NOT, L_BRACK, R_BRACK, L_PAREN, R_PAREN, L_BRACE, R_BRACE, COLON, SEMI, DOTDOTDOT, COMMA, DOLLAR, ERROR_FLOAT_JUNK_AFTER_POINT, ERROR_FLOAT_JUNK_AFTER_EXPONENT, ERROR_FLOAT_JUNK_AFTER_EXPONENT_SIGN, STRING_DOUBLE, STRING_SINGLE, STRING_BLOCK, SINGLE_LINE_SLASH_COMMENT, SINGLE_LINE_HASH_COMMENT, MULTI_LINE_COMMENT}
use Rattle.lexemes.specs.Letters.{text, ascii}
use Rattle.lexemes.specs.Rules.{rules}
use Rattle.lexemes.specs.Lexeme.{Beats}
use Rattle.lexemes.proofs.Letters.{sound, letter-past}
use Rattle.lexemes.proofs.Keywords.{others}

data State : Type 0 where
  start over : State
  all_taken : ℕ → State
  bar bars quest amp equal bang less greater dot dots : State
  zero digits group point fraction fraction_group e sign exponent exponent_group : State
  double double_escape single single_escape : State
  at at_double at_double_quote at_single at_single_quote junk junks : State
  word blanks slash line line_cr hash hash_cr : State
  comment comment_slash comment_part comment_star comment_two_stars comment_past comment_past_star : State

after : String → List Rule
after s = steps (ascii s) others
  where
    steps : List ℕ → List Rule → List Rule
    steps [] S = S
    steps (l ∷ ls) S = steps ls (left l S)

table : State → List Rule
table start = others
table over = []
table (all_taken k) = (k ⇒ eps) ∷ []
table bar = after "|"
table bars = after "||"
table quest = after "?"
table amp = after "&"
table equal = after "="
table bang = after "!"
table less = after "<"
table greater = after ">"
table dot = after "."
table dots = after ".."
table zero = after "0"
table digits = after "1"
table group = after "1_"
table point = after "1."
table fraction = after "1.0"
table fraction_group = after "1.0_"
table e = after "1e"
table sign = after "1e+"
table exponent = after "1e0"
table exponent_group = after "1e0_"
table double = after "\""
table double_escape = after "\"\\"
table single = after "'"
table single_escape = after "'\\"
table at = after "@"
table at_double = after "@\""
table at_double_quote = after "@\"\""
table at_single = after "@'"
table at_single_quote = after "@''"
table junk = after "@a"
table junks = after "@aa"
table word = after "a"
table blanks = after " "
table slash = after "/"
table line = after "//"
table line_cr = after "//\r"
table hash = after "#"
table hash_cr = after "#\r"
table comment = after "/*"
table comment_slash = after "/*/"
table comment_part = after "/*a"
table comment_star = after "/**"
table comment_two_stars = after "/***"
table comment_past = after "/*a/"
table comment_past_star = after "/*a/*"

next : State → List State
next start =
    over ∷ word ∷ blanks ∷ digits ∷ zero ∷ bar ∷ quest ∷ amp ∷ equal ∷ bang ∷ less ∷ greater ∷ dot ∷ double ∷ single ∷ at ∷ slash ∷ hash
    ∷ all_taken BIT_XOR ∷ all_taken PLUS ∷ all_taken MINUS ∷ all_taken MUL ∷ all_taken MODULO ∷ all_taken BIT_NOT ∷ all_taken L_BRACK ∷ all_taken R_BRACK
    ∷ all_taken L_PAREN ∷ all_taken R_PAREN ∷ all_taken L_BRACE ∷ all_taken R_BRACE ∷ all_taken COLON ∷ all_taken SEMI ∷ all_taken COMMA ∷ all_taken DOLLAR ∷ []
next over = over ∷ []
next (all_taken k) = over ∷ []
next bar = over ∷ bars ∷ []
next bars = over ∷ all_taken STRING_BLOCK ∷ []
next quest = over ∷ all_taken NULL_COAELSE ∷ []
next amp = over ∷ all_taken AND ∷ []
next equal = over ∷ all_taken EQ ∷ []
next bang = over ∷ all_taken NE ∷ []
next less = over ∷ all_taken LHS ∷ all_taken LE ∷ []
next greater = over ∷ all_taken RHS ∷ all_taken GE ∷ []
next dot = over ∷ dots ∷ []
next dots = over ∷ all_taken DOTDOTDOT ∷ []
next zero = over ∷ point ∷ e ∷ []
next digits = over ∷ digits ∷ group ∷ point ∷ e ∷ []
next group = over ∷ digits ∷ []
next point = fraction ∷ all_taken ERROR_FLOAT_JUNK_AFTER_POINT ∷ over ∷ []
next fraction = over ∷ fraction ∷ fraction_group ∷ e ∷ []
next fraction_group = over ∷ fraction ∷ []
next e = exponent ∷ sign ∷ all_taken ERROR_FLOAT_JUNK_AFTER_EXPONENT ∷ over ∷ []
next sign = exponent ∷ all_taken ERROR_FLOAT_JUNK_AFTER_EXPONENT_SIGN ∷ over ∷ []
next exponent = over ∷ exponent ∷ exponent_group ∷ []
next exponent_group = over ∷ exponent ∷ []
next double = double ∷ double_escape ∷ all_taken STRING_DOUBLE ∷ over ∷ []
next double_escape = double ∷ over ∷ []
next single = single ∷ single_escape ∷ all_taken STRING_SINGLE ∷ over ∷ []
next single_escape = single ∷ over ∷ []
next at = junk ∷ over ∷ at_double ∷ at_single ∷ []
next at_double = at_double ∷ at_double_quote ∷ over ∷ []
next at_double_quote = over ∷ at_double ∷ []
next at_single = at_single ∷ at_single_quote ∷ over ∷ []
next at_single_quote = over ∷ at_single ∷ []
next junk = junks ∷ over ∷ []
next junks = junks ∷ over ∷ []
next word = word ∷ over ∷ []
next blanks = blanks ∷ over ∷ []
next slash = over ∷ line ∷ comment ∷ []
next line = line ∷ line_cr ∷ all_taken SINGLE_LINE_SLASH_COMMENT ∷ over ∷ []
next line_cr = over ∷ all_taken SINGLE_LINE_SLASH_COMMENT ∷ []
next hash = hash ∷ hash_cr ∷ all_taken SINGLE_LINE_HASH_COMMENT ∷ over ∷ []
next hash_cr = over ∷ all_taken SINGLE_LINE_HASH_COMMENT ∷ []
next comment = comment_part ∷ comment_slash ∷ comment_star ∷ over ∷ []
next comment_slash = comment_past ∷ comment_past_star ∷ over ∷ []
next comment_part = comment_part ∷ comment_star ∷ comment_past ∷ over ∷ []
next comment_star = comment_part ∷ comment_two_stars ∷ all_taken MULTI_LINE_COMMENT ∷ over ∷ []
next comment_two_stars = comment_part ∷ comment_star ∷ all_taken MULTI_LINE_COMMENT ∷ over ∷ []
next comment_past = comment_past ∷ comment_past_star ∷ over ∷ []
next comment_past_star = comment_past ∷ comment_past_star ∷ all_taken MULTI_LINE_COMMENT ∷ over ∷ []

closed : (x : State) → T (closes (table x) (map table (next x)))
unfolding closes table next after left rules
closed start = tt
closed over = tt
closed (all_taken k) = tt
closed bar = tt
closed bars = tt
closed quest = tt
closed amp = tt
closed equal = tt
closed bang = tt
closed less = tt
closed greater = tt
closed dot = tt
closed dots = tt
closed zero = tt
closed digits = tt
closed group = tt
closed point = tt
closed fraction = tt
closed fraction_group = tt
closed e = tt
closed sign = tt
closed exponent = tt
closed exponent_group = tt
closed double = tt
closed double_escape = tt
closed single = tt
closed single_escape = tt
closed at = tt
closed at_double = tt
closed at_double_quote = tt
closed at_single = tt
closed at_single_quote = tt
closed junk = tt
closed junks = tt
closed word = tt
closed blanks = tt
closed slash = tt
closed line = tt
closed line_cr = tt
closed hash = tt
closed hash_cr = tt
closed comment = tt
closed comment_slash = tt
closed comment_part = tt
closed comment_star = tt
closed comment_two_stars = tt
closed comment_past = tt
closed comment_past_star = tt

-- At every place of a source the rules that are no keywords have a longest match, or take nothing.
pub others_outcome : (s : List ℕ) (p : ℕ) → Outcome Beats (text s) others p
unfolding table
others_outcome s p = outcome State table next closed (text s) (sound s) Beats (length s) (letter-past s) (length s) start p (omega arith)
