-- R6. The kinds of lexemes: positions in `SyntaxKind` of syntax_kinds.rs from 0, by the names that they have there, `-` for `_`.
-- Assumes nothing.
use Rattle.std.specs.Prelude.{ℕ}

abbrev pub TOMBSTONE : ℕ
TOMBSTONE = 0

abbrev pub EOF : ℕ
EOF = 1

abbrev pub OR : ℕ
OR = 2

abbrev pub NULL_COAELSE : ℕ
NULL_COAELSE = 3

abbrev pub AND : ℕ
AND = 4

abbrev pub BIT_OR : ℕ
BIT_OR = 5

abbrev pub BIT_XOR : ℕ
BIT_XOR = 6

abbrev pub BIT_AND : ℕ
BIT_AND = 7

abbrev pub EQ : ℕ
EQ = 8

abbrev pub NE : ℕ
NE = 9

abbrev pub LT : ℕ
LT = 10

abbrev pub GT : ℕ
GT = 11

abbrev pub LE : ℕ
LE = 12

abbrev pub GE : ℕ
GE = 13

abbrev pub LHS : ℕ
LHS = 14

abbrev pub RHS : ℕ
RHS = 15

abbrev pub PLUS : ℕ
PLUS = 16

abbrev pub MINUS : ℕ
MINUS = 17

abbrev pub MUL : ℕ
MUL = 18

abbrev pub DIV : ℕ
DIV = 19

abbrev pub MODULO : ℕ
MODULO = 20

abbrev pub NOT : ℕ
NOT = 21

abbrev pub BIT_NOT : ℕ
BIT_NOT = 22

abbrev pub L_BRACK : ℕ
L_BRACK = 23

abbrev pub R_BRACK : ℕ
R_BRACK = 24

abbrev pub L_PAREN : ℕ
L_PAREN = 25

abbrev pub R_PAREN : ℕ
R_PAREN = 26

abbrev pub L_BRACE : ℕ
L_BRACE = 27

abbrev pub R_BRACE : ℕ
R_BRACE = 28

abbrev pub COLON : ℕ
COLON = 29

abbrev pub SEMI : ℕ
SEMI = 30

abbrev pub DOT : ℕ
DOT = 31

abbrev pub DOTDOTDOT : ℕ
DOTDOTDOT = 32

abbrev pub COMMA : ℕ
COMMA = 33

abbrev pub DOLLAR : ℕ
DOLLAR = 34

abbrev pub ASSIGN : ℕ
ASSIGN = 35

abbrev pub QUESTION_MARK : ℕ
QUESTION_MARK = 36

abbrev pub FLOAT : ℕ
FLOAT = 37

abbrev pub ERROR_FLOAT_JUNK_AFTER_POINT : ℕ
ERROR_FLOAT_JUNK_AFTER_POINT = 38

abbrev pub ERROR_FLOAT_JUNK_AFTER_EXPONENT : ℕ
ERROR_FLOAT_JUNK_AFTER_EXPONENT = 39

abbrev pub ERROR_FLOAT_JUNK_AFTER_EXPONENT_SIGN : ℕ
ERROR_FLOAT_JUNK_AFTER_EXPONENT_SIGN = 40

abbrev pub STRING_DOUBLE : ℕ
STRING_DOUBLE = 41

abbrev pub ERROR_STRING_DOUBLE_UNTERMINATED : ℕ
ERROR_STRING_DOUBLE_UNTERMINATED = 42

abbrev pub STRING_SINGLE : ℕ
STRING_SINGLE = 43

abbrev pub ERROR_STRING_SINGLE_UNTERMINATED : ℕ
ERROR_STRING_SINGLE_UNTERMINATED = 44

abbrev pub STRING_DOUBLE_VERBATIM : ℕ
STRING_DOUBLE_VERBATIM = 45

abbrev pub ERROR_STRING_DOUBLE_VERBATIM_UNTERMINATED : ℕ
ERROR_STRING_DOUBLE_VERBATIM_UNTERMINATED = 46

abbrev pub STRING_SINGLE_VERBATIM : ℕ
STRING_SINGLE_VERBATIM = 47

abbrev pub ERROR_STRING_SINGLE_VERBATIM_UNTERMINATED : ℕ
ERROR_STRING_SINGLE_VERBATIM_UNTERMINATED = 48

abbrev pub ERROR_STRING_VERBATIM_MISSING_QUOTES : ℕ
ERROR_STRING_VERBATIM_MISSING_QUOTES = 49

abbrev pub STRING_BLOCK : ℕ
STRING_BLOCK = 50

abbrev pub ERROR_STRING_BLOCK_UNEXPECTED_END : ℕ
ERROR_STRING_BLOCK_UNEXPECTED_END = 51

abbrev pub ERROR_STRING_BLOCK_MISSING_NEW_LINE : ℕ
ERROR_STRING_BLOCK_MISSING_NEW_LINE = 52

abbrev pub ERROR_STRING_BLOCK_MISSING_TERMINATION : ℕ
ERROR_STRING_BLOCK_MISSING_TERMINATION = 53

abbrev pub ERROR_STRING_BLOCK_MISSING_INDENT : ℕ
ERROR_STRING_BLOCK_MISSING_INDENT = 54

abbrev pub IDENT : ℕ
IDENT = 55

abbrev pub WHITESPACE : ℕ
WHITESPACE = 56

abbrev pub SINGLE_LINE_SLASH_COMMENT : ℕ
SINGLE_LINE_SLASH_COMMENT = 57

abbrev pub SINGLE_LINE_HASH_COMMENT : ℕ
SINGLE_LINE_HASH_COMMENT = 58

abbrev pub MULTI_LINE_COMMENT : ℕ
MULTI_LINE_COMMENT = 59

abbrev pub ERROR_COMMENT_TOO_SHORT : ℕ
ERROR_COMMENT_TOO_SHORT = 60

abbrev pub ERROR_COMMENT_UNTERMINATED : ℕ
ERROR_COMMENT_UNTERMINATED = 61

abbrev pub ERROR_NO_OPERATOR : ℕ
ERROR_NO_OPERATOR = 62

abbrev pub ERROR_MISSING_TOKEN : ℕ
ERROR_MISSING_TOKEN = 63

abbrev pub ERROR_UNEXPECTED_TOKEN : ℕ
ERROR_UNEXPECTED_TOKEN = 64

abbrev pub ERROR_CUSTOM : ℕ
ERROR_CUSTOM = 65

abbrev pub TAILSTRICT_KW : ℕ
TAILSTRICT_KW = 66

abbrev pub LOCAL_KW : ℕ
LOCAL_KW = 67

abbrev pub IMPORTSTR_KW : ℕ
IMPORTSTR_KW = 68

abbrev pub IMPORTBIN_KW : ℕ
IMPORTBIN_KW = 69

abbrev pub IMPORT_KW : ℕ
IMPORT_KW = 70

abbrev pub IF_KW : ℕ
IF_KW = 71

abbrev pub THEN_KW : ℕ
THEN_KW = 72

abbrev pub ELSE_KW : ℕ
ELSE_KW = 73

abbrev pub FUNCTION_KW : ℕ
FUNCTION_KW = 74

abbrev pub ERROR_KW : ℕ
ERROR_KW = 75

abbrev pub IN_KW : ℕ
IN_KW = 76

abbrev pub META_OBJECT_APPLY : ℕ
META_OBJECT_APPLY = 77

abbrev pub NULL_KW : ℕ
NULL_KW = 78

abbrev pub TRUE_KW : ℕ
TRUE_KW = 79

abbrev pub FALSE_KW : ℕ
FALSE_KW = 80

abbrev pub SELF_KW : ℕ
SELF_KW = 81

abbrev pub SUPER_KW : ℕ
SUPER_KW = 82

abbrev pub FOR_KW : ℕ
FOR_KW = 83

abbrev pub ASSERT_KW : ℕ
ASSERT_KW = 84

abbrev pub LEXING_ERROR : ℕ
LEXING_ERROR = 85
