-- 01's list of records as a table: tag, fields with their texts and spans, and children by what they are. To be read beside "The image".
-- Assumes nothing.
use Rattle.std.specs.Prelude.{◌≡◌, List, [], ◌∷◌, ◌++◌, ℕ, zero, suc, ◌+◌, ◌≤◌}
use Rattle.strings.specs.Utf8.{Utf8}
use Rattle.grammar.specs.Trees.{Field, byte, number, span, text, Trees}
use Rattle.grammar.specs.Trees as trees
use Rattle.grammar.specs.Tags.{IDENTITY, NULL, BOOL, NUMBER, STRING, VARIABLE, ARRAY, ARRAY_COMP, MEMBERS, OBJECT_COMP, EXTENSION, PREFIX, INFIX}
use Rattle.grammar.specs.Tags.{ASSERT_EXPR, LOCAL, IMPORT, ERROR, CALL, NAMED_ARGUMENT, INDEX_PART, FUNCTION, IF, SLICE, BIND, NAME_PATTERN, SKIP}
use Rattle.grammar.specs.Tags.{ARRAY_PATTERN, OBJECT_PATTERN, PATTERN_FIELD, PARAMETER, FIELD, ASSERT, FOR, IF_CLAUSE, OBJECT_ITERATION}
use Rattle.grammar.specs.Words.{NameText, NumberText}

-- R40. What a record is.
pub data Sort : Type 0 where
  expression : Sort
  string run object : Sort  -- expressions: a string; an index part, on which a later one of its run may stand; what stands between braces
  named param bind field assertion member : Sort
  iteration if_clause clause : Sort
  pattern name_pattern pattern_field : Sort

-- R40. What counts as what.
pub data Is : Sort → Sort → Type 0 where
  itself : {σ : Sort} → Is σ σ
  a_string : Is string expression
  a_run : Is run expression
  an_object : Is object expression
  a_local : Is bind member
  a_field : Is field member
  an_assertion : Is assertion member
  an_iteration : Is iteration clause
  an_if : Is if_clause clause
  a_name : Is name_pattern pattern

-- R40. Children, each what is wanted there.
pub data Fits : List Sort → List Sort → Type 0 where
  none : Fits [] []
  more : {σ τ : Sort} {σs τs : List Sort} → Is σ τ → Fits σs τs → Fits (σ ∷ σs) (τ ∷ τs)

-- R40. So many of a sort.
unfoldable pub times : ℕ → Sort → List Sort
times zero σ = []
times (suc n) σ = σ ∷ times n σ

-- R43. What is asked of spans: `forward`, that one that is there does not run backward and an absent one is 0; or, for what holds "but for spans",
-- nothing.
pub data Spans : Type 0 where
  forward free : Spans

abbrev pub Present : Spans → ℕ → ℕ → Type 0
Present Spans.forward a e = a ≤ e
Present Spans.free a e = Unit

abbrev pub Absent : Spans → ℕ → ℕ → Type 0
Absent Spans.forward a e = (a ≡ 0) × (e ≡ 0)
Absent Spans.free a e = Unit

abbrev pub Flag : ℕ → Type 0
Flag f = f ≤ 1

-- R41. A flag and the child that it tells of, if it is set.
pub data Has (σ : Sort) : ℕ → List Sort → Type 0 where
  no : Has σ 0 []
  yes : Has σ 1 (σ ∷ [])

-- R40. First-of-run: the first part of a run stands on anything, a later one on a part.
pub data First : ℕ → Sort → Type 0 where
  first : First 1 expression
  later : First 0 run

-- R43. A part of a slice: the weight in its byte, its span, its child; "absent ones 0".
pub data Part (q : Spans) (weight : ℕ) : ℕ → ℕ → ℕ → List Sort → Type 0 where
  absent : {a e : ℕ} → Absent q a e → Part q weight 0 a e []
  present : {a e : ℕ} → Present q a e → Part q weight weight a e (expression ∷ [])

-- R26. A pattern's rest: its byte (none 0, drop 1, keep 2), how many patterns stand after it, its name.
pub data Rest : ℕ → ℕ → List ℕ → Type 0 where
  whole : Rest 0 0 []
  dropped : {m : ℕ} → Rest 1 m []
  kept : {m : ℕ} {w : List ℕ} → NameText w → Rest 2 m w

-- R43. A field's name: computed or not; and its plus, method and parameter count.
pub data Name : ℕ → Sort → Type 0 where
  fixed : Name 0 string
  computed : Name 1 expression

pub data Method : ℕ → ℕ → ℕ → Type 0 where
  value : {plus : ℕ} → Flag plus → Method plus 0 0
  method : {n : ℕ} → Method 0 1 n

-- R40. `Form q σ tag fields children`: a record of this tag may have these fields, is a σ, and wants these children.
pub data Form (q : Spans) : Sort → ℕ → List Field → List Sort → Type 0 where
  -- "1 identity: which (self 0, super 1, $ 2), span. 2 null. 3 bool: flag. 4 number: text. 5 string: text. 6 variable: span, name."
  r1 : {o a e : ℕ} → o ≤ 2 → Present q a e → Form q expression IDENTITY (byte o ∷ span a e ∷ []) []
  r2 : Form q expression NULL [] []
  r3 : {f : ℕ} → Flag f → Form q expression BOOL (byte f ∷ []) []
  r4 : {w : List ℕ} → NumberText w → Form q expression NUMBER (text w ∷ []) []
  r5 : {w : List ℕ} → Utf8 w → Form q string STRING (text w ∷ []) []
  r6 : {a e : ℕ} {w : List ℕ} → Present q a e → NameText w → Form q expression VARIABLE (span a e ∷ text w ∷ []) []
  -- "7 array: count. 8 array comprehension: clause count. 9 members: count."
  r7 : {n : ℕ} → Form q expression ARRAY (number n ∷ []) (times n expression)
  r8 : (n : ℕ) → Form q expression ARRAY_COMP (number (1 + n) ∷ []) (expression ∷ iteration ∷ times n clause)
  r9 : {n : ℕ} → Form q object MEMBERS (number n ∷ []) (times n member)
  -- "10 object comprehension: member count, clause count. 11 extension (child: 9 or 10)."
  r10 : (a b n : ℕ) → Form q object OBJECT_COMP (number (a + 1 + b) ∷ number (1 + n) ∷ []) ((times a bind ++ field ∷ times b bind) ++ iteration ∷ times n clause)
  r11 : Form q expression EXTENSION [] (expression ∷ object ∷ [])
  -- "12 prefix, 13 infix: operator byte in enum order (`NullCoaelse` 18, `In` 19 always). 14 assert expression. 15 local: bind count."
  -- Item 8: "The infix record gains the operator lexeme's span after its byte."
  r12 : {o : ℕ} → o ≤ 3 → Form q expression PREFIX (byte o ∷ []) (expression ∷ [])
  r13 : {o a e : ℕ} → o ≤ 19 → Present q a e → Form q expression INFIX (byte o ∷ span a e ∷ []) (expression ∷ expression ∷ [])
  r14 : Form q expression ASSERT_EXPR [] (assertion ∷ expression ∷ [])
  r15 : {n : ℕ} → Form q expression LOCAL (number n ∷ []) (times n bind ++ expression ∷ [])
  -- "16 import: kind byte in enum order, span. 17 error: span."
  r16 : {o a e : ℕ} → o ≤ 2 → Present q a e → Form q expression IMPORT (byte o ∷ span a e ∷ []) (expression ∷ [])
  r17 : {a e : ℕ} → Present q a e → Form q expression ERROR (span a e ∷ []) (expression ∷ [])
  -- "18 call: arguments' span, tailstrict, unnamed count, named count. 19 named argument: name."
  r18 : {a e t u n : ℕ} → Present q a e → Flag t
      → Form q expression CALL (span a e ∷ byte t ∷ number u ∷ number n ∷ []) (expression ∷ times u expression ++ times n named)
  r19 : {w : List ℕ} → NameText w → Form q named NAMED_ARGUMENT (text w ∷ []) (expression ∷ [])
  -- "20 index part (children: what is indexed, the index): span, first-of-run, null_safe."
  r20 : {a e f n : ℕ} {σ : Sort} → Present q a e → First f σ → Flag n → Form q run INDEX_PART (span a e ∷ byte f ∷ byte n ∷ []) (σ ∷ expression ∷ [])
  -- "21 function: span, parameter count. 22 if: span, has-else."
  r21 : {a e n : ℕ} → Present q a e → Form q expression FUNCTION (span a e ∷ number n ∷ []) (times n param ++ expression ∷ [])
  r22 : {a e d : ℕ} {σs : List Sort} → Present q a e → Has expression d σs → Form q expression IF (span a e ∷ byte d ∷ []) (expression ∷ expression ∷ σs)
  -- "23 slice: byte (start 1, end 2, step 4), three spans, absent ones 0."
  r23 : {b₁ a₁ e₁ b₂ a₂ e₂ b₃ a₃ e₃ : ℕ} {σs τs υs : List Sort} → Part q 1 b₁ a₁ e₁ σs → Part q 2 b₂ a₂ e₂ τs → Part q 4 b₃ a₃ e₃ υs
      → Form q expression SLICE (byte (b₁ + b₂ + b₃) ∷ span a₁ e₁ ∷ span a₂ e₂ ∷ span a₃ e₃ ∷ []) (expression ∷ (σs ++ τs) ++ υs)
  -- "24 bind (first child its pattern, a function's name as 25): function flag, parameter count."
  r24_value : Form q bind BIND (byte 0 ∷ number 0 ∷ []) (pattern ∷ expression ∷ [])
  r24_function : {n : ℕ} → Form q bind BIND (byte 1 ∷ number n ∷ []) (name_pattern ∷ times n param ++ expression ∷ [])
  -- "25 name pattern: span, name. 26 skip."
  r25 : {a e : ℕ} {w : List ℕ} → Present q a e → NameText w → Form q name_pattern NAME_PATTERN (span a e ∷ text w ∷ []) []
  r26 : Form q pattern SKIP [] []
  -- "27 array pattern: start count, rest byte (none 0, drop 1, keep 2), end count, rest name. 28 object pattern: field count, rest byte, rest name."
  r27 : {n r m : ℕ} {w : List ℕ} → Rest r m w → Form q pattern ARRAY_PATTERN (number n ∷ byte r ∷ number m ∷ text w ∷ []) (times n pattern ++ times m pattern)
  r28 : {n r : ℕ} {w : List ℕ} → Rest r 0 w → Form q pattern OBJECT_PATTERN (number n ∷ byte r ∷ text w ∷ []) (times n pattern_field)
  -- "29 its field: has-pattern, has-default, default's span (0 if absent), name. 30 parameter: has-default."
  r29_bare : {h a e : ℕ} {w : List ℕ} {σs : List Sort} → Has pattern h σs → Absent q a e → NameText w
      → Form q pattern_field PATTERN_FIELD (byte h ∷ byte 0 ∷ span a e ∷ text w ∷ []) σs
  r29_default : {h a e : ℕ} {w : List ℕ} {σs : List Sort} → Has pattern h σs → Present q a e → NameText w
      → Form q pattern_field PATTERN_FIELD (byte h ∷ byte 1 ∷ span a e ∷ text w ∷ []) (σs ++ expression ∷ [])
  r30 : {d : ℕ} {σs : List Sort} → Has expression d σs → Form q param PARAMETER (byte d ∷ []) (pattern ∷ σs)
  -- "31 field: name span, computed, plus, method, parameter count, visibility (0, 1, 2)."
  r31 : {a e c p m n v : ℕ} {σ : Sort} → Present q a e → Name c σ → Method p m n → v ≤ 2
      → Form q field FIELD (span a e ∷ byte c ∷ byte p ∷ byte m ∷ number n ∷ byte v ∷ []) (σ ∷ times n param ++ expression ∷ [])
  -- "32 assert: condition span, has-message. 33 for. 34 if clause: span. 35 object iteration: visibility, key."
  r32 : {a e d : ℕ} {σs : List Sort} → Present q a e → Has expression d σs → Form q assertion ASSERT (span a e ∷ byte d ∷ []) (expression ∷ σs)
  r33 : Form q iteration FOR [] (pattern ∷ expression ∷ [])
  r34 : {a e : ℕ} → Present q a e → Form q if_clause IF_CLAUSE (span a e ∷ []) (expression ∷ [])
  r35 : {v : ℕ} {w : List ℕ} → v ≤ 2 → NameText w → Form q iteration OBJECT_ITERATION (byte v ∷ text w ∷ []) (pattern ∷ expression ∷ [])

-- R40. Trees obey the table: in this order they are of these sorts, and so on down.
pub data Obeys (q : Spans) : List Sort → Trees → Type 0 where
  none : Obeys q [] trees.none
  node : {σ : Sort} {tag : ℕ} {fields : List Field} {wanted actual σs : List Sort} {children ts : Trees}
      → Form q σ tag fields wanted → Fits actual wanted → Obeys q actual children → Obeys q σs ts → Obeys q (σ ∷ σs) (trees.node tag fields children ts)
