-- What the functions below `back` promise each other: a numeral by its parts, a record's bytes by the parts of its layout, what it asks of its children, the
-- row of open roots in the lent array. The definitions here follow the code; what they amount to is proved (proofs/). No public contract cites them.
-- Assumes nothing.
use Rattle.std.specs.Prelude.{◌≡◌, Bool, true, false, cond, ◌&&◌, ◌||◌, Option, None, Some, Result, Ok, Err, List, [], ◌∷◌, ◌++◌, ℕ, zero, suc, ◌+◌, ◌-◌, ◌*◌, ◌/◌, ◌%◌, ◌≤◌, ◌<◌, T, eqb, leb, ltb, length, take, drop, get_or, replicate}
use Rattle.strings.specs.Utf8.{Utf8}
use Rattle.lexemes.specs.Texts.{All, is_digit, Fraction, Exponent}
use Rattle.grammar.specs.Tags.{IDENTITY, NULL, BOOL, NUMBER, STRING, VARIABLE, ARRAY, ARRAY_COMP, MEMBERS, OBJECT_COMP, EXTENSION, PREFIX, INFIX, ASSERT_EXPR, LOCAL, IMPORT, ERROR, CALL}
use Rattle.grammar.specs.Tags.{NAMED_ARGUMENT, INDEX_PART, FUNCTION, IF, SLICE, BIND, NAME_PATTERN, SKIP, ARRAY_PATTERN, OBJECT_PATTERN, PATTERN_FIELD, PARAMETER, FIELD, ASSERT, FOR, IF_CLAUSE, OBJECT_ITERATION}
use Rattle.grammar.specs.Words.{NameText, NumberText}
use Rattle.grammar.specs.Trees.{Trees, tree, ◌⊕◌, count}
use Rattle.grammar.specs.Trees as trees
use Rattle.grammar.specs.Image.{entry, image}
use Rattle.grammar.specs.Records.{Sort}
use Rattle.grammar.specs.Records as records
use Rattle.grammar.specs.Layout.{Part, Layout, layout_of, bits_in, numbers as layout-numbers}
use Rattle.images.specs.Images.{Answer, Age, old, new, Accepted, Row, Stands, More, Refused, links}
use Rattle.images.specs.Images as images
pub use Rattle.images.specs.Images.{two_at}
use Rattle.images.specs.declared.Fault.{Fault}
use Rattle.images.specs.declared.sorts.Sort as sorts-of-code
use Rattle.images.specs.declared.sorts.Sort.TheVariants.{Expression, String, Run, Object, Named, Param, Bind, Field, Assertion, Member, Iteration, IfClause, Clause, Pattern, NamePattern, PatternField, CompMember}
use Rattle.images.specs.declared.asks.Text.{Text}
use Rattle.images.specs.declared.asks.Text.TheVariants.{Free, Number, Utf8 as Utf8Text, Name, Empty}
use Rattle.images.specs.declared.asks.Question as asked
use Rattle.images.specs.declared.parts.Got.{Got}
use Rattle.images.specs.declared.parts.Parts.{Parts}
use Rattle.images.specs.declared.records.Age as ages
use Rattle.images.specs.declared.records.Age.TheVariants.{Old, New}
use Rattle.images.specs.declared.records.Next.{Next}
use Rattle.images.specs.declared.records.Wrong.{Wrong}
use Rattle.images.specs.declared.records.Wrong.TheVariants.{Unknown, Malformed, Missing, Underived}

-- ── Numerals ──────────────────────────────────────────────────────────────────────────────────────

-- In the words of lexemes' Texts.antt.

-- The digits from i on end at r. (Past the end stands 0, which is none.)
pub record Digits (s : List ℕ) (i r : ℕ) : Type 0 where
  pub forward : i ≤ r
  pub each : (k : ℕ) → i ≤ k → k < r → T (is_digit (get_or s k 0))
  pub over : T (is_digit (get_or s r 0)) → ⊥

-- A digit or more.
pub data SomeDigits : List ℕ → Type 0 where
  some : {b : ℕ} {bs : List ℕ} → T (is_digit b) → All is_digit bs → SomeDigits (b ∷ bs)

-- What may stand behind a numeral's whole part.
pub data Tail : List ℕ → Type 0 where
  tail : {f e : List ℕ} → Fraction f → Exponent e → Tail (f ++ e)

-- ── A record's bytes ──────────────────────────────────────────────────────────────────────────────

-- A span in one number: 0 for 0, 0 alone, and one that no other span has where it runs backward.
abbrev pub BACKWARD : ℕ
BACKWARD = 131072

unfoldable pub span_value : ℕ → ℕ → ℕ
span_value a e = cond (leb a e) (a + e) BACKWARD

-- Of a part that is a byte: what it is below, and the children that it tells of.
unfoldable pub limit : ℕ → ℕ
limit code = cond (eqb code 4) 2 (cond (eqb code 5) 8 (code - 8))

unfoldable pub told_by : ℕ → ℕ → ℕ
told_by code b = cond (eqb code 4) b (cond (eqb code 5) (bits_in b) 0)

-- A part by its code (grammar's Layout.antt), at a place of a payload that ends at `end`: its value, the place after it, the children that it tells of.
pub data Gets (bytes : List ℕ) (at end : ℕ) : ℕ → ℕ → ℕ → ℕ → Type 0 where
  a_span : at + 4 ≤ end → Gets bytes at end 1 (span_value (two_at bytes at) (two_at bytes (at + 2))) (at + 4) 0
  a_text : Gets bytes at end 2 (end - at) end 0
  a_count : at + 2 ≤ end → Gets bytes at end 3 (two_at bytes at) (at + 2) (two_at bytes at)
  a_byte : {code : ℕ} → 4 ≤ code → at < end → get_or bytes at 0 < limit code → Gets bytes at end code (get_or bytes at 0) (at + 1) (told_by code (get_or bytes at 0))

-- Or no such part is there.
pub data Lacks (bytes : List ℕ) (at end : ℕ) : ℕ → Type 0 where
  no_span : end < at + 4 → Lacks bytes at end 1
  no_count : end < at + 2 → Lacks bytes at end 3
  no_byte : {code : ℕ} → 4 ≤ code → end ≤ at → Lacks bytes at end code
  bad_byte : {code : ℕ} → 4 ≤ code → at < end → limit code ≤ get_or bytes at 0 → Lacks bytes at end code

abbrev pub Gives : List ℕ → ℕ → ℕ → ℕ → Option Got → Type 0
Gives bytes at end code (Some g) = Gets bytes at end code g.value g.next g.children × (g.children ≤ 65535)
Gives bytes at end code None = Lacks bytes at end code

-- All of them, up to the code 0 or the last: their values, and the children they tell of.
pub data Takes (bytes : List ℕ) (end : ℕ) : ℕ → List ℕ → List ℕ → ℕ → Type 0 where
  over : {cs : List ℕ} → Takes bytes end end (0 ∷ cs) [] 0
  last : Takes bytes end end [] [] 0
  more : {at v next k n c : ℕ} {cs vs : List ℕ} → (c ≡ 0 → ⊥) → Gets bytes at end c v next k → Takes bytes end next cs vs n → Takes bytes end at (c ∷ cs) (v ∷ vs) (k + n)

-- Or one of them is wrong, or bytes are left over.
pub data Fails (bytes : List ℕ) (end : ℕ) : ℕ → List ℕ → Type 0 where
  left : {at : ℕ} {cs : List ℕ} → (at ≡ end → ⊥) → Fails bytes end at (0 ∷ cs)
  left_last : {at : ℕ} → (at ≡ end → ⊥) → Fails bytes end at []
  wrong : {at c : ℕ} {cs : List ℕ} → (c ≡ 0 → ⊥) → Lacks bytes at end c → Fails bytes end at (c ∷ cs)
  later : {at v next k c : ℕ} {cs : List ℕ} → (c ≡ 0 → ⊥) → Gets bytes at end c v next k → Fails bytes end next cs → Fails bytes end at (c ∷ cs)

-- The numbers of a row's parts, zeros behind them.
abbrev pub padded : List Part → List ℕ
padded ps = drop 1 (layout-numbers (Layout.layout 0 ps))

-- The values stand in six numbers, zeros behind them.
pub data Walks (bytes : List ℕ) (from end : ℕ) (codes : List ℕ) : Option Parts → Type 0 where
  good : {p : Parts} {vs : List ℕ} {n : ℕ} → Takes bytes end from codes vs n → p.children ≡ n → p.values ≡ vs ++ replicate (6 - length vs) 0 → Walks bytes from end codes (Some p)
  bad : Fails bytes end from codes → Walks bytes from end codes None

-- ── What a record asks ────────────────────────────────────────────────────────────────────────────

-- A table: what stands beside a key, or beside none of them.
infix 30 ◌is◌
pub data Entry (A : Type 0) : Type 0 where
  ◌is◌ : ℕ → A → Entry A

unfoldable pub look : {A : Type 0} → A → ℕ → List (Entry A) → A
look other k [] = other
look other k ((j is a) ∷ rest) = cond (eqb k j) a (look other k rest)

-- Sorts of records in numbers. The last is for the members of an object comprehension: binds and one field.
unfoldable pub code : Sort → ℕ
code records.expression = 0
code records.string = 1
code records.run = 2
code records.object = 3
code records.named = 4
code records.param = 5
code records.bind = 6
code records.field = 7
code records.assertion = 8
code records.member = 9
code records.iteration = 10
code records.if_clause = 11
code records.clause = 12
code records.pattern = 13
code records.name_pattern = 14
code records.pattern_field = 15

abbrev pub COMP : ℕ
COMP = 16

abbrev pub sort_code : sorts-of-code.Sort → ℕ
sort_code Expression = 0
sort_code String = 1
sort_code Run = 2
sort_code Object = 3
sort_code Named = 4
sort_code Param = 5
sort_code Bind = 6
sort_code Field = 7
sort_code Assertion = 8
sort_code Member = 9
sort_code Iteration = 10
sort_code IfClause = 11
sort_code Clause = 12
sort_code Pattern = 13
sort_code NamePattern = 14
sort_code PatternField = 15
sort_code CompMember = COMP

-- What a record is, by its tag.
unfoldable pub sorts : List (Entry Sort)
sorts =
    (STRING is records.string) ∷ (MEMBERS is records.object) ∷ (OBJECT_COMP is records.object) ∷ (NAMED_ARGUMENT is records.named) ∷ (INDEX_PART is records.run) ∷
    (BIND is records.bind) ∷ (NAME_PATTERN is records.name_pattern) ∷ (SKIP is records.pattern) ∷ (ARRAY_PATTERN is records.pattern) ∷ (OBJECT_PATTERN is records.pattern) ∷
    (PATTERN_FIELD is records.pattern_field) ∷ (PARAMETER is records.param) ∷ (FIELD is records.field) ∷ (ASSERT is records.assertion) ∷ (FOR is records.iteration) ∷
    (IF_CLAUSE is records.if_clause) ∷ (OBJECT_ITERATION is records.iteration) ∷ []

unfoldable pub sort_of : ℕ → Sort
unfolding look sorts
sort_of tag = look records.expression tag sorts

-- What else it is.
unfoldable pub wider : Sort → Sort
wider records.expression = records.expression
wider records.string = records.expression
wider records.run = records.expression
wider records.object = records.expression
wider records.named = records.named
wider records.param = records.param
wider records.bind = records.member
wider records.field = records.member
wider records.assertion = records.member
wider records.member = records.member
wider records.iteration = records.clause
wider records.if_clause = records.clause
wider records.clause = records.clause
wider records.pattern = records.pattern
wider records.name_pattern = records.pattern
wider records.pattern_field = records.pattern_field

unfoldable pub wides : List (Entry ℕ)
wides = (1 is 0) ∷ (2 is 0) ∷ (3 is 0) ∷ (6 is 9) ∷ (7 is 9) ∷ (8 is 9) ∷ (10 is 12) ∷ (11 is 12) ∷ (14 is 13) ∷ []

unfoldable pub wide_code : ℕ → ℕ
unfolding look wides
wide_code c = look c c wides

-- A record of this tag is of the sort with this number.
unfoldable pub is_a : ℕ → ℕ → Bool
unfolding sort_of code wide_code
is_a tag wanted = eqb (code (sort_of tag)) wanted || eqb (wide_code (code (sort_of tag))) wanted

-- A number that is 0 unless a flag is set; and one that is 0 where it is, the other where it is not.
unfoldable pub unless : ℕ → ℕ → Bool
unless flag n = cond (eqb flag 0) (eqb n 0) true

unfoldable pub method_fine : ℕ → ℕ → ℕ → Bool
method_fine plus method n = cond (eqb method 0) (eqb n 0) (eqb plus 0)

unfoldable pub slice_fine : ℕ → ℕ → ℕ → ℕ → Bool
unfolding unless
slice_fine b x y z = unless (b % 2) x && (unless (b / 2 % 2) y && unless (b / 4 % 2) z)

unfoldable pub pick : ℕ → ℕ → ℕ → ℕ
pick b zero-case other = cond (eqb b 0) zero-case other

-- The last bytes before an end.
abbrev pub tail_part : ℕ → ℕ → List ℕ → List ℕ
tail_part size end bytes = take (end - (end - size)) (drop (end - size) bytes)

-- What is asked of a text: nothing, a number, UTF-8, a name, that it is empty.
abbrev pub rest_kind : ℕ → ℕ
rest_kind b = cond (eqb b 2) 3 4

pub data Worded : ℕ → List ℕ → Type 0 where
  free : {w : List ℕ} → Worded 0 w
  number : {w : List ℕ} → NumberText w → Worded 1 w
  utf8 : {w : List ℕ} → Utf8 w → Worded 2 w
  name : {w : List ℕ} → NameText w → Worded 3 w
  empty : Worded 4 []

-- By tag: what relates its fields, three groups of children, how many and of which sort, the text's kind and length; each by a code.
unfoldable pub rows : List (Entry (List ℕ))
rows =
    (IDENTITY is (0 ∷ 0 ∷ 0 ∷ 0 ∷ 0 ∷ 0 ∷ 0 ∷ 0 ∷ 0 ∷ [])) ∷
    (NULL is (0 ∷ 0 ∷ 0 ∷ 0 ∷ 0 ∷ 0 ∷ 0 ∷ 0 ∷ 0 ∷ [])) ∷
    (BOOL is (0 ∷ 0 ∷ 0 ∷ 0 ∷ 0 ∷ 0 ∷ 0 ∷ 0 ∷ 0 ∷ [])) ∷
    (NUMBER is (0 ∷ 0 ∷ 0 ∷ 0 ∷ 0 ∷ 0 ∷ 0 ∷ 1 ∷ 8 ∷ [])) ∷
    (STRING is (0 ∷ 0 ∷ 0 ∷ 0 ∷ 0 ∷ 0 ∷ 0 ∷ 2 ∷ 8 ∷ [])) ∷
    (VARIABLE is (0 ∷ 0 ∷ 0 ∷ 0 ∷ 0 ∷ 0 ∷ 0 ∷ 3 ∷ 9 ∷ [])) ∷
    (ARRAY is (0 ∷ 8 ∷ 0 ∷ 0 ∷ 0 ∷ 0 ∷ 0 ∷ 0 ∷ 0 ∷ [])) ∷
    (ARRAY_COMP is (1 ∷ 1 ∷ 0 ∷ 1 ∷ 10 ∷ 16 ∷ 12 ∷ 0 ∷ 0 ∷ [])) ∷
    (MEMBERS is (0 ∷ 8 ∷ 9 ∷ 0 ∷ 0 ∷ 0 ∷ 0 ∷ 0 ∷ 0 ∷ [])) ∷
    (OBJECT_COMP is (2 ∷ 8 ∷ 16 ∷ 1 ∷ 10 ∷ 17 ∷ 12 ∷ 0 ∷ 0 ∷ [])) ∷
    (EXTENSION is (0 ∷ 1 ∷ 0 ∷ 1 ∷ 3 ∷ 0 ∷ 0 ∷ 0 ∷ 0 ∷ [])) ∷
    (PREFIX is (0 ∷ 1 ∷ 0 ∷ 0 ∷ 0 ∷ 0 ∷ 0 ∷ 0 ∷ 0 ∷ [])) ∷
    (INFIX is (0 ∷ 2 ∷ 0 ∷ 0 ∷ 0 ∷ 0 ∷ 0 ∷ 0 ∷ 0 ∷ [])) ∷
    (ASSERT_EXPR is (0 ∷ 1 ∷ 8 ∷ 1 ∷ 0 ∷ 0 ∷ 0 ∷ 0 ∷ 0 ∷ [])) ∷
    (LOCAL is (0 ∷ 8 ∷ 6 ∷ 1 ∷ 0 ∷ 0 ∷ 0 ∷ 0 ∷ 0 ∷ [])) ∷
    (IMPORT is (0 ∷ 1 ∷ 0 ∷ 0 ∷ 0 ∷ 0 ∷ 0 ∷ 0 ∷ 0 ∷ [])) ∷
    (ERROR is (0 ∷ 1 ∷ 0 ∷ 0 ∷ 0 ∷ 0 ∷ 0 ∷ 0 ∷ 0 ∷ [])) ∷
    (CALL is (0 ∷ 1 ∷ 0 ∷ 10 ∷ 0 ∷ 11 ∷ 4 ∷ 0 ∷ 0 ∷ [])) ∷
    (NAMED_ARGUMENT is (0 ∷ 1 ∷ 0 ∷ 0 ∷ 0 ∷ 0 ∷ 0 ∷ 3 ∷ 8 ∷ [])) ∷
    (INDEX_PART is (0 ∷ 1 ∷ 32 ∷ 1 ∷ 0 ∷ 0 ∷ 0 ∷ 0 ∷ 0 ∷ [])) ∷
    (FUNCTION is (0 ∷ 9 ∷ 5 ∷ 1 ∷ 0 ∷ 0 ∷ 0 ∷ 0 ∷ 0 ∷ [])) ∷
    (IF is (0 ∷ 2 ∷ 0 ∷ 9 ∷ 0 ∷ 0 ∷ 0 ∷ 0 ∷ 0 ∷ [])) ∷
    (SLICE is (3 ∷ 1 ∷ 0 ∷ 24 ∷ 0 ∷ 0 ∷ 0 ∷ 0 ∷ 0 ∷ [])) ∷
    (BIND is (4 ∷ 1 ∷ 33 ∷ 9 ∷ 5 ∷ 1 ∷ 0 ∷ 0 ∷ 0 ∷ [])) ∷
    (NAME_PATTERN is (0 ∷ 0 ∷ 0 ∷ 0 ∷ 0 ∷ 0 ∷ 0 ∷ 3 ∷ 9 ∷ [])) ∷
    (SKIP is (0 ∷ 0 ∷ 0 ∷ 0 ∷ 0 ∷ 0 ∷ 0 ∷ 0 ∷ 0 ∷ [])) ∷
    (ARRAY_PATTERN is (5 ∷ 8 ∷ 13 ∷ 10 ∷ 13 ∷ 0 ∷ 0 ∷ 5 ∷ 11 ∷ [])) ∷
    (OBJECT_PATTERN is (0 ∷ 8 ∷ 15 ∷ 0 ∷ 0 ∷ 0 ∷ 0 ∷ 5 ∷ 10 ∷ [])) ∷
    (PATTERN_FIELD is (5 ∷ 8 ∷ 13 ∷ 9 ∷ 0 ∷ 0 ∷ 0 ∷ 3 ∷ 11 ∷ [])) ∷
    (PARAMETER is (0 ∷ 1 ∷ 13 ∷ 8 ∷ 0 ∷ 0 ∷ 0 ∷ 0 ∷ 0 ∷ [])) ∷
    (FIELD is (6 ∷ 1 ∷ 34 ∷ 12 ∷ 5 ∷ 1 ∷ 0 ∷ 0 ∷ 0 ∷ [])) ∷
    (ASSERT is (0 ∷ 1 ∷ 0 ∷ 9 ∷ 0 ∷ 0 ∷ 0 ∷ 0 ∷ 0 ∷ [])) ∷
    (FOR is (0 ∷ 1 ∷ 13 ∷ 1 ∷ 0 ∷ 0 ∷ 0 ∷ 0 ∷ 0 ∷ [])) ∷
    (IF_CLAUSE is (0 ∷ 1 ∷ 0 ∷ 0 ∷ 0 ∷ 0 ∷ 0 ∷ 0 ∷ 0 ∷ [])) ∷
    (OBJECT_ITERATION is (0 ∷ 1 ∷ 13 ∷ 1 ∷ 0 ∷ 0 ∷ 0 ∷ 3 ∷ 9 ∷ [])) ∷
    []

unfoldable pub row_of : ℕ → List ℕ
unfolding look rows
row_of tag = look (7 ∷ 0 ∷ 0 ∷ 0 ∷ 0 ∷ 0 ∷ 0 ∷ 0 ∷ 0 ∷ []) tag rows

-- The codes: a number below 8 is itself; from 8 on a value, from 16 on one less than a value; 24, the parts of a slice.
unfoldable pub count_by : ℕ → List ℕ → ℕ
count_by c v = cond (ltb c 8) c (cond (ltb c 14) (get_or v (c - 8) 0) (cond (ltb c 16) 0 (cond (ltb c 22) (get_or v (c - 16) 0 - 1) (bits_in (get_or v 0 0)))))

-- Below 32 a sort; else one of two, by a flag.
unfoldable pub sort_by : ℕ → List ℕ → ℕ
unfolding pick
sort_by c v = cond (ltb c 32) c (cond (eqb c 32) (pick (get_or v 1 0) 2 0) (cond (eqb c 33) (pick (get_or v 0 0) 13 14) (pick (get_or v 1 0) 1 0)))

unfoldable pub text_by : ℕ → List ℕ → ℕ
text_by c v = cond (ltb c 5) c (rest_kind (get_or v 1 0))

unfoldable pub fines : List ℕ → List (Entry Bool)
unfolding unless slice_fine method_fine
fines v =
    (0 is true) ∷ (1 is leb 1 (get_or v 0 0)) ∷ (2 is leb 1 (get_or v 1 0)) ∷ (3 is slice_fine (get_or v 0 0) (get_or v 1 0) (get_or v 2 0) (get_or v 3 0)) ∷
    (4 is unless (get_or v 0 0) (get_or v 1 0)) ∷ (5 is unless (get_or v 1 0) (get_or v 2 0)) ∷ (6 is method_fine (get_or v 2 0) (get_or v 3 0) (get_or v 4 0)) ∷ []

unfoldable pub fine_by : ℕ → List ℕ → Bool
unfolding look fines
fine_by c v = look false c (fines v)

-- Three groups of children, how many and of which sort, the text's kind and length, and whether the fields go together.
pub record Question : Type 0 where
  pub fine : Bool
  pub n1 : ℕ
  pub s1 : ℕ
  pub n2 : ℕ
  pub s2 : ℕ
  pub n3 : ℕ
  pub s3 : ℕ
  pub text : ℕ
  pub size : ℕ

abbrev pub question : Bool → ℕ → ℕ → ℕ → ℕ → ℕ → ℕ → ℕ → ℕ → Question
question fine n1 s1 n2 s2 n3 s3 text size = record { fine = fine; n1 = n1; s1 = s1; n2 = n2; s2 = s2; n3 = n3; s3 = s3; text = text; size = size }

abbrev pub decoded : List ℕ → List ℕ → Question
decoded r v =
    question (fine_by (get_or r 0 0) v) (count_by (get_or r 1 0) v) (sort_by (get_or r 2 0) v) (count_by (get_or r 3 0) v) (sort_by (get_or r 4 0) v) (count_by (get_or r 5 0) v)
    (sort_by (get_or r 6 0) v) (text_by (get_or r 7 0) v) (count_by (get_or r 8 0) v)

unfoldable pub asks : ℕ → List ℕ → Question
unfolding row_of count_by sort_by text_by fine_by
asks tag v = decoded (row_of tag) v

-- The same as the code has it: nothing is asked where the fields do not go together.
abbrev pub text_code : Text → ℕ
text_code Free = 0
text_code Number = 1
text_code Utf8Text = 2
text_code Name = 3
text_code Empty = 4

abbrev pub coded : asked.Question → Question
coded q = question true q.first.count (sort_code q.first.sort) q.second.count (sort_code q.second.sort) q.third.count (sort_code q.third.sort) (text_code q.text) q.size

abbrev pub Asks : Question → Option asked.Question → Type 0
Asks p (Some q) = coded q ≡ p
Asks p None = p.fine ≡ false

-- No span runs backward.
abbrev pub onward : ℕ → Bool → Bool
onward v b = cond (eqb v BACKWARD) false b

unfoldable pub forward : List ℕ → Bool
forward v = onward (get_or v 0 0) (onward (get_or v 1 0) (onward (get_or v 2 0) (onward (get_or v 3 0) (onward (get_or v 4 0) (onward (get_or v 5 0) true)))))

-- ── The row of open roots ─────────────────────────────────────────────────────────────────────────

-- From record number n on back the roots have these tags, the last one first: each stands in the array with its offset and the first record of
-- its tree.
pub data Chain (bytes array : List ℕ) : ℕ → List ℕ → Type 0 where
  none : Chain bytes array 0 []
  root : {m : ℕ} {tags : List ℕ} → m * 2 + 1 < length array → get_or array (m * 2) 0 < length bytes → get_or array (m * 2 + 1) 0 ≤ m
      → Chain bytes array (get_or array (m * 2 + 1) 0) tags → Chain bytes array (m + 1) (get_or bytes (get_or array (m * 2) 0) 0 ∷ tags)

-- Where the roots before the last k of them end.
unfoldable pub pops : List ℕ → ℕ → ℕ → ℕ
pops array m zero = m
pops array m (suc k) = pops array (get_or array ((m - 1) * 2 + 1) 0) k

-- It ends there, if it does.
pub data Lands (array : List ℕ) (from k : ℕ) : Option ℕ → Type 0 where
  at : {m : ℕ} → m ≡ pops array from k → Lands array from k (Some m)
  nowhere : Lands array from k None

-- So many of them there are.
pub record Open (bytes array : List ℕ) (n k : ℕ) : Type 0 where
  pub tags : List ℕ
  pub chain : Chain bytes array n tags
  pub enough : k ≤ length tags

-- Each of a sort; or one a field and the others binds.
pub data Each (sort : ℕ) : List ℕ → Type 0 where
  none : Each sort []
  more : {tag : ℕ} {tags : List ℕ} → is_a tag sort ≡ true → Each sort tags → Each sort (tag ∷ tags)

pub data OneField : List ℕ → Type 0 where
  here : {tags : List ℕ} → Each 6 tags → OneField (FIELD ∷ tags)
  before : {tag : ℕ} {tags : List ℕ} → is_a tag 6 ≡ true → OneField tags → OneField (tag ∷ tags)

pub data Group : ℕ → List ℕ → Type 0 where
  each : {sort : ℕ} {tags : List ℕ} → (sort ≡ COMP → ⊥) → Each sort tags → Group sort tags
  comp : {tags : List ℕ} → OneField tags → Group COMP tags

-- The last n roots are such a group, and where the roots before them end; or they are none.
pub data Walked (bytes array : List ℕ) (P : List ℕ → Type 0) (n : ℕ) (tags : List ℕ) : Option ℕ → Type 0 where
  from : {m : ℕ} → P (take n tags) → Chain bytes array m (drop n tags) → Walked bytes array P n tags (Some m)
  other : (P (take n tags) → ⊥) → Walked bytes array P n tags None

-- The last roots are the three groups, the last group first.
pub record Fit (a : Question) (tags : List ℕ) : Type 0 where
  pub third : Group a.s3 (take a.n3 tags)
  pub second : Group a.s2 (take a.n2 (drop a.n3 tags))
  pub first : Group a.s1 (take a.n1 (drop a.n2 (drop a.n3 tags)))

abbrev pub beyond : Question → List ℕ → List ℕ
beyond a tags = drop a.n1 (drop a.n2 (drop a.n3 tags))

pub data Fitted (bytes array : List ℕ) (a : Question) (tags : List ℕ) : Option ℕ → Type 0 where
  from : {m : ℕ} → Fit a tags → Chain bytes array m (beyond a tags) → Fitted bytes array a tags (Some m)
  other : (Fit a tags → ⊥) → Fitted bytes array a tags None

-- All that number 16 asks of a record whose bytes and children are there.
pub record Checks (bytes : List ℕ) (tag end : ℕ) (values tags : List ℕ) : Type 0 where
  pub forwards : forward values ≡ true
  pub fine : (asks tag values).fine ≡ true
  pub worded : Worded (asks tag values).text (tail_part (asks tag values).size end bytes)
  pub fit : Fit (asks tag values) tags

pub data Checked (bytes array : List ℕ) (tag end : ℕ) (values tags : List ℕ) : Option ℕ → Type 0 where
  from : {m : ℕ} → Checks bytes tag end values tags → Chain bytes array m (beyond (asks tag values) tags) → Checked bytes array tag end values tags (Some m)
  other : (Checks bytes tag end values tags → ⊥) → Checked bytes array tag end values tags None

-- ── One record more ───────────────────────────────────────────────────────────────────────────────

-- The kind of the infix records so far: none yet 0, old 1, new 2.
pub data Dating (ts : Trees) : ℕ → Type 0 where
  undated : ((age : Age) → Row age ts) → Dating ts 0
  is_old : Row old ts → (Row new ts → ⊥) → Dating ts 1
  is_new : Row new ts → (Row old ts → ⊥) → Dating ts 2

abbrev pub age_code : Option ages.Age → ℕ
age_code None = 0
age_code (Some Old) = 1
age_code (Some New) = 2

-- The tags of the roots, the last one first, before those given.
unfoldable pub roots : Trees → List ℕ → List ℕ
roots trees.none tags = tags
roots (trees.node tag fields children ts) tags = roots ts (tag ∷ tags)

-- The walk so far: the trees, the place, the number of records and of roots, the kind of infix records, and the array.
pub record State (bytes array : List ℕ) (at n standing age : ℕ) : Type 0 where
  pub ts : Trees
  pub dating : Dating ts age
  pub split : bytes ≡ image ts ++ drop at bytes
  pub place : at ≡ length (image ts)
  pub number : n ≡ images.records ts
  pub opened : standing ≡ count ts
  pub chain : Chain bytes array n (roots ts [])
  pub rest : List ℕ
  pub stored : array ≡ links 0 0 ts ++ rest

-- Where a record's payload ends, by its length bytes.
pub data Extends (bytes : List ℕ) (at : ℕ) : Option ℕ → Type 0 where
  end : at + 3 + two_at bytes (at + 1) ≤ length bytes → Extends bytes at (Some (at + 3 + two_at bytes (at + 1)))
  cut_header : length bytes < at + 3 → Extends bytes at None
  cut_payload : at + 3 ≤ length bytes → length bytes < at + 3 + two_at bytes (at + 1) → Extends bytes at None

-- The kind of infix records with a record of this tag and length, and the layout's row by it.
unfoldable pub dates : ℕ → ℕ → ℕ → ℕ
dates tag size age = cond (eqb tag INFIX) (cond (eqb age 0) (cond (eqb size 1) 1 2) age) age

unfoldable pub dated_row : ℕ → ℕ → List ℕ
dated_row tag age = cond (eqb tag INFIX) (cond (eqb age 1) (2 ∷ 28 ∷ replicate 5 0) (layout-numbers (layout_of tag))) (layout-numbers (layout_of tag))

-- What becomes of the next record.
pub data Stepped (bytes array : List ℕ) (at : ℕ) (ts : Trees) : Result Next Wrong → Type 0 where
  next : {x : Next} (tag : ℕ) (fields : List trees.Field) (us children : Trees) → ts ≡ us ⊕ children → drop at bytes ≡ entry tag fields ++ drop x.end bytes
      → x.end ≡ at + length (entry tag fields) → x.first ≡ images.records us → x.standing ≡ count us + 1 → Dating (us ⊕ tree tag fields children) (age_code x.age)
      → Chain bytes array x.first (roots us []) → Stepped bytes array at ts (Ok x)
  unknown : layout_of (get_or bytes at 0) ≡ Layout.unknown → Stepped bytes array at ts (Err Unknown)
  malformed : (layout_of (get_or bytes at 0) ≡ Layout.unknown → ⊥) → ((n : ℕ) → Stands ts (drop at bytes) (get_or bytes at 0) n → ⊥) → Stepped bytes array at ts (Err Malformed)
  missing : {n : ℕ} → Stands ts (drop at bytes) (get_or bytes at 0) n → count ts < n → Stepped bytes array at ts (Err Missing)
  underived : {n : ℕ} → Stands ts (drop at bytes) (get_or bytes at 0) n → n ≤ count ts → (More ts (drop at bytes) → ⊥) → Stepped bytes array at ts (Err Underived)

-- ── The whole walk ────────────────────────────────────────────────────────────────────────────────

-- A refusal at an offset.
abbrev pub refusal_at : Wrong → ℕ → Fault
refusal_at Unknown offset = Fault.Unknown offset
refusal_at Malformed offset = Fault.Malformed offset
refusal_at Missing offset = Fault.Children offset
refusal_at Underived offset = Fault.Underived offset

-- The array begins with the links of a tree that is accepted; behind them, and where there is none, it holds whatever it holds then.
pub data Whole (bytes : List ℕ) (room : ℕ) : Answer → List ℕ → Type 0 where
  accepted : {t : Trees} {array : List ℕ} (rest : List ℕ) → Accepted bytes t → array ≡ links 0 0 t ++ rest → length array ≡ room → Whole bytes room (Ok (images.records t)) array
  refused : {b : Answer} {array : List ℕ} → length array ≡ room → Refused bytes b → Whole bytes room b array
