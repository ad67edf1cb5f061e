-- R40. The tags of records: 01's numbers of "The image", by the names that the code has (src/tags.rt), `-` for `_`.
-- Assumes nothing.
use Rattle.std.specs.Prelude.{ℕ}

abbrev pub IDENTITY : ℕ
IDENTITY = 1

abbrev pub NULL : ℕ
NULL = 2

abbrev pub BOOL : ℕ
BOOL = 3

abbrev pub NUMBER : ℕ
NUMBER = 4

abbrev pub STRING : ℕ
STRING = 5

abbrev pub VARIABLE : ℕ
VARIABLE = 6

abbrev pub ARRAY : ℕ
ARRAY = 7

abbrev pub ARRAY_COMP : ℕ
ARRAY_COMP = 8

abbrev pub MEMBERS : ℕ
MEMBERS = 9

abbrev pub OBJECT_COMP : ℕ
OBJECT_COMP = 10

abbrev pub EXTENSION : ℕ
EXTENSION = 11

abbrev pub PREFIX : ℕ
PREFIX = 12

abbrev pub INFIX : ℕ
INFIX = 13

abbrev pub ASSERT_EXPR : ℕ
ASSERT_EXPR = 14

abbrev pub LOCAL : ℕ
LOCAL = 15

abbrev pub IMPORT : ℕ
IMPORT = 16

abbrev pub ERROR : ℕ
ERROR = 17

abbrev pub CALL : ℕ
CALL = 18

abbrev pub NAMED_ARGUMENT : ℕ
NAMED_ARGUMENT = 19

abbrev pub INDEX_PART : ℕ
INDEX_PART = 20

abbrev pub FUNCTION : ℕ
FUNCTION = 21

abbrev pub IF : ℕ
IF = 22

abbrev pub SLICE : ℕ
SLICE = 23

abbrev pub BIND : ℕ
BIND = 24

abbrev pub NAME_PATTERN : ℕ
NAME_PATTERN = 25

abbrev pub SKIP : ℕ
SKIP = 26

abbrev pub ARRAY_PATTERN : ℕ
ARRAY_PATTERN = 27

abbrev pub OBJECT_PATTERN : ℕ
OBJECT_PATTERN = 28

abbrev pub PATTERN_FIELD : ℕ
PATTERN_FIELD = 29

abbrev pub PARAMETER : ℕ
PARAMETER = 30

abbrev pub FIELD : ℕ
FIELD = 31

abbrev pub ASSERT : ℕ
ASSERT = 32

abbrev pub FOR : ℕ
FOR = 33

abbrev pub IF_CLAUSE : ℕ
IF_CLAUSE = 34

abbrev pub OBJECT_ITERATION : ℕ
OBJECT_ITERATION = 35
