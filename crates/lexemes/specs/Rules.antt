-- R6, R9, R10, R11. The rules of syntax_kinds.rs: each `#[token]` and `#[regex]` as a value, in the order of the kinds, with the attribute above it.
-- A row `KIND ⇒ token "..."` is the attribute `#[token("...")]` of that kind.
-- Assumes nothing.
use Rattle.std.specs.Prelude.{List, [], ◌∷◌}
use Prim.Native.Char.{Char, code}
use Prim.Native.String.{String, [] as nil, ◌∷◌ as ◌then◌}
use Rattle.regexes.specs.Regex.{Range, ◌to◌, Class, only, but, Re, eps, one, ◌·◌, ◌∣◌, star, Rule, ◌⇒◌}
use Rattle.lexemes.specs.Letters.{WHITE}
use Rattle.lexemes.specs.Kinds.{OR, NULL_COAELSE, AND, BIT_OR, BIT_XOR, BIT_AND, EQ, NE, LT, GT, LE, GE, LHS, RHS, PLUS, MINUS, MUL, DIV, MODULO, NOT, BIT_NOT, L_BRACK, R_BRACK, L_PAREN, R_PAREN, L_BRACE, R_BRACE, COLON, SEMI, DOT, DOTDOTDOT, COMMA, DOLLAR, ASSIGN, QUESTION_MARK, FLOAT, ERROR_FLOAT_JUNK_AFTER_POINT, ERROR_FLOAT_JUNK_AFTER_EXPONENT, ERROR_FLOAT_JUNK_AFTER_EXPONENT_SIGN, STRING_DOUBLE, ERROR_STRING_DOUBLE_UNTERMINATED, STRING_SINGLE, ERROR_STRING_SINGLE_UNTERMINATED, STRING_DOUBLE_VERBATIM, ERROR_STRING_DOUBLE_VERBATIM_UNTERMINATED, STRING_SINGLE_VERBATIM, ERROR_STRING_SINGLE_VERBATIM_UNTERMINATED, ERROR_STRING_VERBATIM_MISSING_QUOTES, STRING_BLOCK, IDENT, WHITESPACE, SINGLE_LINE_SLASH_COMMENT, SINGLE_LINE_HASH_COMMENT, MULTI_LINE_COMMENT, ERROR_COMMENT_TOO_SHORT, ERROR_COMMENT_UNTERMINATED, TAILSTRICT_KW, LOCAL_KW, IMPORTSTR_KW, IMPORTBIN_KW, IMPORT_KW, IF_KW, THEN_KW, ELSE_KW, FUNCTION_KW, ERROR_KW, IN_KW, NULL_KW, TRUE_KW, FALSE_KW, SELF_KW, SUPER_KW, FOR_KW, ASSERT_KW}

infix 90 ◌–◌
-- a-b in a class
abbrev pub ◌–◌ : Char → Char → Range
a – b = code a to code b

-- One character; a text, character by character.
abbrev pub chr : Char → Re
chr c = one (only (c – c ∷ []))

abbrev pub spell : Char → String → Re
spell c nil = chr c
spell c (d then s) = chr c · spell d s

abbrev pub token : String → Re
token nil = eps
token (c then s) = spell c s

-- r+
abbrev pub some : Re → Re
some r = r · star r

-- r?
abbrev pub opt : Re → Re
opt r = eps ∣ r

-- [0-9]
abbrev pub digit : Re
digit = one (only ("0" – "9" ∷ []))

-- [^0-9]
abbrev pub no_digit : Re
no_digit = one (but ("0" – "9" ∷ []))

-- (?:_[0-9]+)*
abbrev pub groups : Re
groups = star (chr "_" · some digit)

-- (?:0|[1-9][0-9]*(?:_[0-9]+)*)
abbrev pub whole : Re
whole = chr "0" ∣ one (only ("1" – "9" ∷ [])) · star digit · groups

-- (?:\.[0-9]+(?:_[0-9]+)*)?
abbrev pub fraction : Re
fraction = opt (chr "." · some digit · groups)

-- [eE]
abbrev pub ee : Re
ee = one (only ("e" – "e" ∷ "E" – "E" ∷ []))

-- [+-]
abbrev pub sign : Re
sign = one (only ("+" – "+" ∷ "-" – "-" ∷ []))

-- (?:[eE][+-]?[0-9]+(?:_[0-9]+)*)?
abbrev pub exponent : Re
exponent = opt (ee · opt sign · some digit · groups)

-- (?s:[^q\\]|\\.)*, for a quote q
abbrev pub quoted : Char → Re
quoted q = star (one (but (q – q ∷ "\\" – "\\" ∷ [])) ∣ chr "\\" · one (but []))

-- (?:[^q]|qq)*, for a quote q
abbrev pub verbatim : Char → Re
verbatim q = star (one (but (q – q ∷ [])) ∣ chr q · chr q)

-- \s in a class: Unicode's White_Space, U+0009 to U+000D, U+0020 and the code points beyond ASCII
abbrev pub space : List Range
space = 0x09 to 0x0D ∷ " " – " " ∷ WHITE to WHITE ∷ []

-- [_a-zA-Z]
abbrev pub alpha : Class
alpha = only ("_" – "_" ∷ "a" – "z" ∷ "A" – "Z" ∷ [])

-- [_a-zA-Z0-9]
abbrev pub alnum : Class
alnum = only ("_" – "_" ∷ "a" – "z" ∷ "A" – "Z" ∷ "0" – "9" ∷ [])

-- [^\r\n]*, in the Rust `*?`: by 01 a comment runs to the end of its line, so the longest match is meant
abbrev pub line : Re
line = star (one (but ("\r" – "\r" ∷ "\n" – "\n" ∷ [])))

-- (\r\n|\n)?
abbrev pub new_line : Re
new_line = opt (token "\r\n" ∣ chr "\n")

-- [^*], [^*/], [^/]
abbrev pub no_star : Re
no_star = one (but ("*" – "*" ∷ []))

abbrev pub no_star_slash : Re
no_star_slash = one (but ("*" – "*" ∷ "/" – "/" ∷ []))

abbrev pub no_slash : Re
no_slash = one (but ("/" – "/" ∷ []))

unfoldable pub rules : List Rule
rules =
    (OR ⇒ token "||") ∷
    (NULL_COAELSE ⇒ token "??") ∷
    (AND ⇒ token "&&") ∷
    (BIT_OR ⇒ token "|") ∷
    (BIT_XOR ⇒ token "^") ∷
    (BIT_AND ⇒ token "&") ∷
    (EQ ⇒ token "==") ∷
    (NE ⇒ token "!=") ∷
    (LT ⇒ token "<") ∷
    (GT ⇒ token ">") ∷
    (LE ⇒ token "<=") ∷
    (GE ⇒ token ">=") ∷
    (LHS ⇒ token "<<") ∷
    (RHS ⇒ token ">>") ∷
    (PLUS ⇒ token "+") ∷
    (MINUS ⇒ token "-") ∷
    (MUL ⇒ token "*") ∷
    (DIV ⇒ token "/") ∷
    (MODULO ⇒ token "%") ∷
    (NOT ⇒ token "!") ∷
    (BIT_NOT ⇒ token "~") ∷
    (L_BRACK ⇒ token "[") ∷
    (R_BRACK ⇒ token "]") ∷
    (L_PAREN ⇒ token "(") ∷
    (R_PAREN ⇒ token ")") ∷
    (L_BRACE ⇒ token "{") ∷
    (R_BRACE ⇒ token "}") ∷
    (COLON ⇒ token ":") ∷
    (SEMI ⇒ token ";") ∷
    (DOT ⇒ token ".") ∷
    (DOTDOTDOT ⇒ token "...") ∷
    (COMMA ⇒ token ",") ∷
    (DOLLAR ⇒ token "$") ∷
    (ASSIGN ⇒ token "=") ∷
    (QUESTION_MARK ⇒ token "?") ∷
    -- #[regex("(?:0|[1-9][0-9]*(?:_[0-9]+)*)(?:\\.[0-9]+(?:_[0-9]+)*)?(?:[eE][+-]?[0-9]+(?:_[0-9]+)*)?")]
    (FLOAT ⇒ whole · fraction · exponent) ∷
    -- #[regex("(?:0|[1-9][0-9]*(?:_[0-9]+)*)\\.[^0-9]")]
    (ERROR_FLOAT_JUNK_AFTER_POINT ⇒ whole · chr "." · no_digit) ∷
    -- #[regex("(?:0|[1-9][0-9]*(?:_[0-9]+)*)(?:\\.[0-9]+(?:_[0-9]+)*)?[eE][^+\\-0-9]")]
    (ERROR_FLOAT_JUNK_AFTER_EXPONENT ⇒ whole · fraction · ee · one (but ("+" – "+" ∷ "-" – "-" ∷ "0" – "9" ∷ []))) ∷
    -- #[regex("(?:0|[1-9][0-9]*(?:_[0-9]+)*)(?:\\.[0-9]+(?:_[0-9]+)*)?[eE][+-][^0-9]")]
    (ERROR_FLOAT_JUNK_AFTER_EXPONENT_SIGN ⇒ whole · fraction · ee · sign · no_digit) ∷
    -- #[regex("\"(?s:[^\"\\\\]|\\\\.)*\"")]
    (STRING_DOUBLE ⇒ chr "\"" · quoted "\"" · chr "\"") ∷
    -- #[regex("\"(?s:[^\"\\\\]|\\\\.)*")]
    (ERROR_STRING_DOUBLE_UNTERMINATED ⇒ chr "\"" · quoted "\"") ∷
    -- #[regex("'(?s:[^'\\\\]|\\\\.)*'")]
    (STRING_SINGLE ⇒ chr "'" · quoted "'" · chr "'") ∷
    -- #[regex("'(?s:[^'\\\\]|\\\\.)*")]
    (ERROR_STRING_SINGLE_UNTERMINATED ⇒ chr "'" · quoted "'") ∷
    -- #[regex("@\"(?:[^\"]|\"\")*\"")]
    (STRING_DOUBLE_VERBATIM ⇒ chr "@" · chr "\"" · verbatim "\"" · chr "\"") ∷
    -- #[regex("@\"(?:[^\"]|\"\")*")]
    (ERROR_STRING_DOUBLE_VERBATIM_UNTERMINATED ⇒ chr "@" · chr "\"" · verbatim "\"") ∷
    -- #[regex("@'(?:[^']|'')*'")]
    (STRING_SINGLE_VERBATIM ⇒ chr "@" · chr "'" · verbatim "'" · chr "'") ∷
    -- #[regex("@'(?:[^']|'')*")]
    (ERROR_STRING_SINGLE_VERBATIM_UNTERMINATED ⇒ chr "@" · chr "'" · verbatim "'") ∷
    -- #[regex("@[^\"'\\s]\\S+")]
    (ERROR_STRING_VERBATIM_MISSING_QUOTES ⇒ chr "@" · one (but ("\"" – "\"" ∷ "'" – "'" ∷ space)) · some (one (but space))) ∷
    -- #[regex("\\|\\|\\|")]
    (STRING_BLOCK ⇒ token "|||") ∷
    -- #[regex("[_a-zA-Z][_a-zA-Z0-9]*")]
    (IDENT ⇒ one alpha · star (one alnum)) ∷
    -- #[regex("[ \\t\\n\\r]+")]
    (WHITESPACE ⇒ some (one (only (" " – " " ∷ "\t" – "\t" ∷ "\n" – "\n" ∷ "\r" – "\r" ∷ [])))) ∷
    -- #[regex("//[^\\r\\n]*?(\\r\\n|\\n)?")]
    (SINGLE_LINE_SLASH_COMMENT ⇒ token "//" · line · new_line) ∷
    -- #[regex("#[^\\r\\n]*?(\\r\\n|\\n)?")]
    (SINGLE_LINE_HASH_COMMENT ⇒ token "#" · line · new_line) ∷
    -- #[regex("/\\*([^*]|\\*+[^*/])*\\*+/")]
    (MULTI_LINE_COMMENT ⇒ token "/*" · star (no_star ∣ some (chr "*") · no_star_slash) · some (chr "*") · chr "/") ∷
    -- #[regex("/\\*/")]
    (ERROR_COMMENT_TOO_SHORT ⇒ token "/*/") ∷
    -- #[regex("/\\*([^*/]|\\*[^/])+")]
    (ERROR_COMMENT_UNTERMINATED ⇒ token "/*" · some (no_star_slash ∣ chr "*" · no_slash)) ∷
    (TAILSTRICT_KW ⇒ token "tailstrict") ∷
    (LOCAL_KW ⇒ token "local") ∷
    (IMPORTSTR_KW ⇒ token "importstr") ∷
    (IMPORTBIN_KW ⇒ token "importbin") ∷
    (IMPORT_KW ⇒ token "import") ∷
    (IF_KW ⇒ token "if") ∷
    (THEN_KW ⇒ token "then") ∷
    (ELSE_KW ⇒ token "else") ∷
    (FUNCTION_KW ⇒ token "function") ∷
    (ERROR_KW ⇒ token "error") ∷
    (IN_KW ⇒ token "in") ∷
    (NULL_KW ⇒ token "null") ∷
    (TRUE_KW ⇒ token "true") ∷
    (FALSE_KW ⇒ token "false") ∷
    (SELF_KW ⇒ token "self") ∷
    (SUPER_KW ⇒ token "super") ∷
    (FOR_KW ⇒ token "for") ∷
    (ASSERT_KW ⇒ token "assert") ∷
    []
