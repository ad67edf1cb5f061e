-- The phrases of ir-parser's lib.rs as data: for each phrase its productions, to be read beside the Rust function that is named above them.
-- How productions are read is said in Reading.antt; no definition here runs a parser.
-- Assumes nothing.
use Rattle.std.specs.Prelude.{Bool, true, false, ◌&&◌, ◌||◌, List, [], ◌∷◌, ℕ, ◌+◌, ◌-◌, eqb, leb}
use Rattle.lexemes.specs.Kinds.{EOF, OR, NULL_COAELSE, AND, BIT_OR, BIT_XOR, BIT_AND, EQ, NE, LT, GT, LE, GE, LHS, RHS, PLUS, MINUS, MUL, DIV, MODULO, NOT, BIT_NOT}
use Rattle.lexemes.specs.Kinds.{L_BRACK, R_BRACK, L_PAREN, R_PAREN, L_BRACE, R_BRACE, COLON, SEMI, DOT, DOTDOTDOT, COMMA, DOLLAR, ASSIGN, QUESTION_MARK, FLOAT, IDENT}
use Rattle.lexemes.specs.Kinds.{STRING_DOUBLE, STRING_SINGLE, STRING_DOUBLE_VERBATIM, STRING_SINGLE_VERBATIM, STRING_BLOCK}
use Rattle.lexemes.specs.Kinds.{TAILSTRICT_KW, LOCAL_KW, IMPORTSTR_KW, IMPORTBIN_KW, IMPORT_KW, IF_KW, THEN_KW, ELSE_KW, FUNCTION_KW, ERROR_KW, IN_KW, NULL_KW, TRUE_KW, FALSE_KW, SELF_KW, SUPER_KW, FOR_KW, ASSERT_KW}
use Rattle.grammar.specs.Tags.{IDENTITY, NULL, BOOL, NUMBER, STRING, VARIABLE, ARRAY, ARRAY_COMP, MEMBERS, OBJECT_COMP, EXTENSION, PREFIX, INFIX, ASSERT_EXPR, LOCAL, IMPORT, ERROR, CALL}
use Rattle.grammar.specs.Tags.{NAMED_ARGUMENT, INDEX_PART, FUNCTION, IF, SLICE, BIND, NAME_PATTERN, SKIP, ARRAY_PATTERN, OBJECT_PATTERN, PATTERN_FIELD, PARAMETER, FIELD, ASSERT, FOR, IF_CLAUSE, OBJECT_ITERATION}
use Rattle.grammar.specs.Numbers.{WANTED, ABSENT, EXPRESSION, MISPLACED, ESCAPE, LARGE}
use Rattle.grammar.specs.Trees.{Field, byte, number, span, text}
use Rattle.grammar.specs.Lexemes.{Said, good, said, spoiled_at}

-- ── What a production is made of ──────────────────────────────────────────────────────────────────

-- A phrase's arguments are what its earlier part found: a power, where a part began, spans and flags of the record to come, counts.
pub data Phrase : Type 0 where
  expr : ℕ → Phrase  -- least power
  infix_tail : ℕ → Phrase
  suffixed : Phrase
  suffix : ℕ → Phrase  -- 1: the next index part is the first of its run
  null_safe null_safe_index bracket : ℕ → Phrase  -- first-of-run
  member_name : ℕ → ℕ → Phrase  -- first-of-run, null_safe
  null_safe_end index_or_slice : ℕ → ℕ → Phrase  -- first-of-run, where the index began
  slice_end : ℕ → ℕ → ℕ → Phrase  -- parts seen, the start's range (0, 0 if absent)
  slice_ended : ℕ → ℕ → ℕ → ℕ → Phrase  -- and where the end began
  slice_step : ℕ → ℕ → ℕ → ℕ → ℕ → Phrase  -- and the end's range
  slice_stepped : ℕ → ℕ → ℕ → ℕ → ℕ → ℕ → Phrase  -- and where the step began
  arguments argument argument_end call_close call_end : ℕ → ℕ → ℕ → Phrase  -- where `(` stood, how many arguments are unnamed and named
  named_argument : Phrase
  basic string : Phrase
  array array_first array_comp array_comp_end elements next_element : Phrase
  inside member : Phrase
  members next_member comprehension : ℕ → Phrase  -- the fault of a comprehension of these members, 0 for none
  comprehension_end : ℕ → Phrase  -- how many members
  field : Phrase
  field_named : ℕ → ℕ → Phrase  -- computed, where the name began
  field_value : ℕ → ℕ → ℕ → ℕ → ℕ → Phrase  -- the name's range, computed, plus, method
  params params_end param param_default : Phrase
  binds binds_end local_body bind bind_named bind_function : Phrase
  else_part function_body : ℕ → ℕ → Phrase  -- the keyword's range
  assertion condition : Phrase
  asserted : ℕ → Phrase  -- where the condition began
  clauses more_clauses for_clause header : Phrase
  if_clause : ℕ → ℕ → Phrase  -- the keyword's range
  iteration : List ℕ → Phrase  -- the key
  iteration_value : ℕ → List ℕ → Phrase  -- visibility, the key
  pattern array_pattern pattern_starts pattern_starts_end : Phrase
  array_rest : ℕ → Phrase  -- how many patterns stand before `...`
  array_rest_end pattern_ends pattern_ends_end array_pattern_close : ℕ → ℕ → List ℕ → Phrase  -- and the rest's byte and name
  object_pattern pattern_fields pattern_fields_end object_rest : Phrase
  object_rest_end object_pattern_close : ℕ → List ℕ → Phrase  -- the rest's byte and name
  pattern_field : Phrase
  pattern_into : List ℕ → Phrase  -- the field's name
  pattern_default default_value : ℕ → List ℕ → Phrase  -- has-pattern, the field's name
  default_end : ℕ → List ℕ → ℕ → Phrase  -- and where the default began

pub data Step : Type 0 where
  eat : ℕ → Step  -- a lexeme of this kind; where another stands the phrase is broken: WANTED, here, this kind
  leaf : ℕ → List Field → Step  -- a lexeme, whatever it is, and for it a record without children
  sub : Phrase → Step  -- a phrase, whose trees are added to this one's
  deep : Phrase → Step  -- the same one level deeper; with no level left this phrase is broken: DEPTH, here
  close : ℕ → List Field → Step  -- the trees of this phrase so far become the children of one record

infixr 40 ◌▸◌
-- A production: steps, and then the phrase is over, or goes on as another phrase with the trees that it has, or is broken here.
pub data Body : Type 0 where
  end : Body
  goto : Phrase → Body
  fail : ℕ → ℕ → Body  -- 01's number and detail
  ◌▸◌ : Step → Body → Body

-- R25. The cargo features that a setting is a sum of.
pub data Switch : Type 0 where
  always exp_destruct exp_object_iteration exp_null_coaelse : Switch

-- A production, for where a switch is on and a test of what stands next holds.
pub data Row : Type 0 where
  row : Switch → Bool → Body → Row

infixr 20 ◌∣◌
-- A phrase's productions: the first that is for this place.
pub data Table : Type 0 where
  otherwise : Body → Table
  ◌∣◌ : Row → Table → Table

-- What a production may look at.
pub record View : Type 0 where
  pub kind : ℕ  -- of the next lexeme; EOF where there is none
  pub kind₁ : ℕ  -- of the one after it, and so on
  pub kind₂ : ℕ
  pub kind₃ : ℕ
  pub start : ℕ  -- where the next lexeme starts and stops
  pub stop : ℕ
  pub before : ℕ  -- where the last one stopped
  pub says : Said  -- what the next lexeme says
  pub says₁ : Said  -- and the one after it
  pub count : ℕ  -- how many trees the phrase has so far

infix 30 ◌at◌⟹◌
infix 30 ◌at◌with◌⟹◌
infix 30 when◌⟹◌
infix 30 when◌with◌⟹◌
abbrev pub ◌at◌⟹◌ : View → ℕ → Body → Row
◌at◌⟹◌ v k b = row always (eqb v.kind k) b

abbrev pub ◌at◌with◌⟹◌ : View → ℕ → Switch → Body → Row
◌at◌with◌⟹◌ v k s b = row s (eqb v.kind k) b

abbrev pub when◌⟹◌ : Bool → Body → Row
when◌⟹◌ t b = row always t b

abbrev pub when◌with◌⟹◌ : Bool → Switch → Body → Row
when◌with◌⟹◌ t s b = row s t b

-- The tests that look further than one lexeme.
abbrev pub two_are : View → ℕ → ℕ → Bool
two_are v a b = eqb v.kind a && eqb v.kind₁ b

abbrev pub three_are : View → ℕ → ℕ → ℕ → Bool
three_are v a b c = eqb v.kind a && eqb v.kind₁ b && eqb v.kind₂ c

abbrev pub four_are : View → ℕ → ℕ → ℕ → ℕ → Bool
four_are v a b c d = eqb v.kind a && eqb v.kind₁ b && eqb v.kind₂ c && eqb v.kind₃ d

-- is_string_token
abbrev pub is_string : View → Bool
is_string v =
    eqb v.kind STRING_DOUBLE || eqb v.kind STRING_SINGLE || eqb v.kind STRING_DOUBLE_VERBATIM || eqb v.kind STRING_SINGLE_VERBATIM
    || eqb v.kind STRING_BLOCK

-- The next lexeme's text.
abbrev pub word : View → List ℕ
word v = said v.says

-- R43. Spans: the next lexeme's; one from `a` to the last lexeme read; an absent one.
abbrev pub here : View → Field
here v = span v.start v.stop

abbrev pub since : ℕ → View → Field
since a v = span a v.before

abbrev pub absent : Field
absent = span 0 0

-- ── Operators ─────────────────────────────────────────────────────────────────────────────────────

-- R19, R44. unary_op: a prefix operator's kind and its byte, its place in `UnaryOpType`.
pub data Sign : Type 0 where
  sign : ℕ → ℕ → Sign

unfoldable pub signs : List Sign
signs = sign PLUS 0 ∷ sign MINUS 1 ∷ sign BIT_NOT 2 ∷ sign NOT 3 ∷ []

-- R18, R28, R44. binary_op, infix_binding_power: a binary operator's kind, switch, left and right power, and its byte, its place in `BinaryOpType`.
pub data Operator : Type 0 where
  op : ℕ → Switch → ℕ → ℕ → ℕ → Operator

unfoldable pub operators : List Operator
operators =
    op OR always 2 3 17 ∷
    op NULL_COAELSE exp_null_coaelse 2 3 18 ∷
    op AND always 4 5 16 ∷
    op BIT_OR always 6 7 12 ∷
    op BIT_XOR always 8 9 13 ∷
    op BIT_AND always 10 11 11 ∷
    op EQ always 12 13 14 ∷
    op NE always 12 13 15 ∷
    op LT always 14 15 7 ∷
    op GT always 14 15 8 ∷
    op LE always 14 15 9 ∷
    op GE always 14 15 10 ∷
    op IN_KW always 14 15 19 ∷
    op LHS always 16 17 5 ∷
    op RHS always 16 17 6 ∷
    op PLUS always 18 19 3 ∷
    op MINUS always 18 19 4 ∷
    op MUL always 20 21 0 ∷
    op DIV always 20 21 1 ∷
    op MODULO always 20 21 2 ∷
    []

-- R19. expr_bp at each prefix operator: its operand has at least the prefix power.
unfoldable pub sign_rows : ℕ → ℕ → View → List Sign → Table
sign_rows prefix least v [] = otherwise (sub suffixed ▸ goto (infix_tail least))
sign_rows prefix least v (sign k o ∷ rest) =
    v at k ⟹ eat k ▸ deep (expr prefix) ▸ close PREFIX (byte o ∷ []) ▸ goto (infix_tail least)
    ∣ sign_rows prefix least v rest

-- R18, R43. expr_bp's loop at each binary operator: the record has the operator's own span.
unfoldable pub operator_rows : ℕ → View → List Operator → Table
operator_rows least v [] = otherwise end
operator_rows least v (op k g left right o ∷ rest) =
    when eqb v.kind k && leb least left with g ⟹ eat k ▸ deep (expr right) ▸ close INFIX (byte o ∷ here v ∷ []) ▸ goto (infix_tail least)
    ∣ operator_rows least v rest

-- ── Comprehensions ────────────────────────────────────────────────────────────────────────────────

-- R23, R38. objinside, the loop over a comprehension's members: the fault so far, "members judged in order". 4 no field yet, 0 one field,
-- 2 a second field, 3 an assert: the first of 2 and 3 stays. The numbers are number 8's details.
unfoldable pub with_field : ℕ → ℕ
with_field c = elim (eqb c 4) [ true ↦ 0 | false ↦ elim (eqb c 0) [ true ↦ 2 | false ↦ c ] ]

unfoldable pub with_assert : ℕ → ℕ
with_assert c = elim (eqb c 2) [ true ↦ 2 | false ↦ 3 ]

-- With one member more, by the kind that it begins with: a local leaves the fault as it is.
unfoldable pub with_member : ℕ → ℕ → ℕ
with_member c k = elim (eqb k LOCAL_KW) [ true ↦ c | false ↦ elim (eqb k ASSERT_KW) [ true ↦ with_assert c | false ↦ with_field c ] ]

-- ── The productions ───────────────────────────────────────────────────────────────────────────────

-- expr
abbrev pub expression : Step
expression = deep (expr 0)

-- R16. parse: the whole source
abbrev pub source : Body
source = expression ▸ eat EOF ▸ end

unfoldable pub rule : ℕ → Phrase → View → Table
unfolding signs operators sign_rows operator_rows
-- R19. expr_bp, unary_op, prefix_binding_power
rule prefix (expr least) v = sign_rows prefix least v signs
-- R18. expr_bp's loop, binary_op, infix_binding_power
rule prefix (infix_tail least) v = operator_rows least v operators
-- R20, R28, R40. expr_suffix
rule prefix suffixed v = otherwise (sub basic ▸ goto (suffix 1))
rule prefix (suffix f) v =
    v at QUESTION_MARK with exp_null_coaelse ⟹ eat QUESTION_MARK ▸ eat DOT ▸ goto (null_safe f)
    ∣ v at DOT ⟹ eat DOT ▸ goto (member_name f 0)
    ∣ v at L_BRACK ⟹ eat L_BRACK ▸ goto (bracket f)
    ∣ v at L_PAREN ⟹ eat L_PAREN ▸ goto (arguments v.start 0 0)
    ∣ v at L_BRACE ⟹ eat L_BRACE ▸ sub inside ▸ eat R_BRACE ▸ close EXTENSION [] ▸ goto (suffix 1)
    ∣ otherwise end
rule prefix (null_safe f) v =
    v at L_BRACK ⟹ eat L_BRACK ▸ goto (null_safe_index f)
    ∣ otherwise (goto (member_name f 1))
rule prefix (null_safe_index f) v = otherwise (expression ▸ goto (null_safe_end f v.start))
rule prefix (null_safe_end f a) v = otherwise (eat R_BRACK ▸ close INDEX_PART (since a v ∷ byte f ∷ byte 1 ∷ []) ▸ goto (suffix 0))
rule prefix (member_name f n) v =
    v at IDENT ⟹ leaf STRING (text (word v) ∷ []) ▸ close INDEX_PART (here v ∷ byte f ∷ byte n ∷ []) ▸ goto (suffix 0)
    ∣ otherwise (fail WANTED IDENT)
rule prefix (bracket f) v =
    v at COLON ⟹ eat COLON ▸ goto (slice_end 0 0 0)
    ∣ otherwise (expression ▸ goto (index_or_slice f v.start))
rule prefix (index_or_slice f a) v =
    v at COLON ⟹ eat COLON ▸ goto (slice_end 1 a v.before)
    ∣ otherwise (eat R_BRACK ▸ close INDEX_PART (since a v ∷ byte f ∷ byte 0 ∷ []) ▸ goto (suffix 0))
-- slice_desc, after its first `:`
rule prefix (slice_end b i j) v =
    v at COLON ⟹ eat COLON ▸ goto (slice_step b i j 0 0)
    ∣ v at R_BRACK ⟹ eat R_BRACK ▸ close SLICE (byte b ∷ span i j ∷ absent ∷ absent ∷ []) ▸ goto (suffix 1)
    ∣ otherwise (expression ▸ goto (slice_ended b i j v.start))
rule prefix (slice_ended b i j a) v =
    v at COLON ⟹ eat COLON ▸ goto (slice_step (b + 2) i j a v.before)
    ∣ otherwise (eat R_BRACK ▸ close SLICE (byte (b + 2) ∷ span i j ∷ since a v ∷ absent ∷ []) ▸ goto (suffix 1))
rule prefix (slice_step b i j k l) v =
    v at R_BRACK ⟹ eat R_BRACK ▸ close SLICE (byte b ∷ span i j ∷ span k l ∷ absent ∷ []) ▸ goto (suffix 1)
    ∣ otherwise (expression ▸ goto (slice_stepped b i j k l v.start))
rule prefix (slice_stepped b i j k l a) v =
    otherwise (eat R_BRACK ▸ close SLICE (byte (b + 4) ∷ span i j ∷ span k l ∷ since a v ∷ []) ▸ goto (suffix 1))
-- R21, R22, R38. args, with expr_suffix's `(`, `)` and `tailstrict`. The trees: what is called, then the arguments
rule prefix (arguments a u n) v =
    v at R_PAREN ⟹ goto (call_close a u n)
    ∣ otherwise (goto (argument a u n))
rule prefix (argument a u n) v =
    when two_are v IDENT ASSIGN ⟹ sub named_argument ▸ goto (argument_end a u (n + 1))
    ∣ when eqb n 0 ⟹ expression ▸ goto (argument_end a (u + 1) n)
    ∣ otherwise (fail MISPLACED 1)
rule prefix named_argument v = otherwise (eat IDENT ▸ eat ASSIGN ▸ expression ▸ close NAMED_ARGUMENT (text (word v) ∷ []) ▸ end)
rule prefix (argument_end a u n) v =
    v at COMMA ⟹ eat COMMA ▸ goto (arguments a u n)
    ∣ otherwise (goto (call_close a u n))
rule prefix (call_close a u n) v = otherwise (eat R_PAREN ▸ goto (call_end a u n))
rule prefix (call_end a u n) v =
    v at TAILSTRICT_KW ⟹ eat TAILSTRICT_KW ▸ close CALL (since a v ∷ byte 1 ∷ number u ∷ number n ∷ []) ▸ goto (suffix 1)
    ∣ otherwise (close CALL (since a v ∷ byte 0 ∷ number u ∷ number n ∷ []) ▸ goto (suffix 1))
-- R16, R24, R37, R42, R45. expr_basic; parse_number, with 02, Item 2: a number beyond a double says nothing
rule prefix basic v =
    v at SELF_KW ⟹ leaf IDENTITY (byte 0 ∷ here v ∷ []) ▸ end
    ∣ v at SUPER_KW ⟹ leaf IDENTITY (byte 1 ∷ here v ∷ []) ▸ end
    ∣ v at DOLLAR ⟹ leaf IDENTITY (byte 2 ∷ here v ∷ []) ▸ end
    ∣ v at NULL_KW ⟹ leaf NULL [] ▸ end
    ∣ v at TRUE_KW ⟹ leaf BOOL (byte 1 ∷ []) ▸ end
    ∣ v at FALSE_KW ⟹ leaf BOOL (byte 0 ∷ []) ▸ end
    ∣ when is_string v ⟹ goto string
    ∣ when eqb v.kind FLOAT && good v.says ⟹ leaf NUMBER (text (word v) ∷ []) ▸ end
    ∣ v at FLOAT ⟹ fail LARGE 0
    ∣ v at L_PAREN ⟹ eat L_PAREN ▸ expression ▸ eat R_PAREN ▸ end
    ∣ v at L_BRACK ⟹ eat L_BRACK ▸ goto array
    ∣ v at L_BRACE ⟹ eat L_BRACE ▸ sub inside ▸ eat R_BRACE ▸ end
    ∣ v at LOCAL_KW ⟹ eat LOCAL_KW ▸ goto binds
    ∣ v at IF_KW ⟹ eat IF_KW ▸ expression ▸ eat THEN_KW ▸ expression ▸ goto (else_part v.start v.stop)
    ∣ v at FUNCTION_KW ⟹ eat FUNCTION_KW ▸ eat L_PAREN ▸ sub params ▸ eat R_PAREN ▸ goto (function_body v.start v.stop)
    ∣ v at ASSERT_KW ⟹ sub assertion ▸ eat SEMI ▸ expression ▸ close ASSERT_EXPR [] ▸ end
    ∣ v at ERROR_KW ⟹ eat ERROR_KW ▸ expression ▸ close ERROR (here v ∷ []) ▸ end
    ∣ v at IMPORTSTR_KW ⟹ eat IMPORTSTR_KW ▸ expression ▸ close IMPORT (byte 1 ∷ here v ∷ []) ▸ end
    ∣ v at IMPORTBIN_KW ⟹ eat IMPORTBIN_KW ▸ expression ▸ close IMPORT (byte 2 ∷ here v ∷ []) ▸ end
    ∣ v at IMPORT_KW ⟹ eat IMPORT_KW ▸ expression ▸ close IMPORT (byte 0 ∷ here v ∷ []) ▸ end
    ∣ v at IDENT ⟹ leaf VARIABLE (here v ∷ text (word v) ∷ []) ▸ end
    ∣ otherwise (fail EXPRESSION 0)
-- R39, R42. parse_string_content; 02, Item 3: the detail is where the bad escape's backslash stands in the source, one byte of it being the quote
rule prefix string v =
    when good v.says ⟹ leaf STRING (text (word v) ∷ []) ▸ end
    ∣ otherwise (fail ESCAPE (v.start + 1 + spoiled_at v.says))
-- R21. expr_basic's arrays, after `[`
rule prefix array v =
    v at R_BRACK ⟹ eat R_BRACK ▸ close ARRAY (number 0 ∷ []) ▸ end
    ∣ otherwise (expression ▸ goto array_first)
rule prefix array_first v =
    v at FOR_KW ⟹ goto array_comp
    ∣ when two_are v COMMA FOR_KW ⟹ eat COMMA ▸ goto array_comp
    ∣ otherwise (goto elements)
rule prefix array_comp v = otherwise (sub clauses ▸ goto array_comp_end)
rule prefix array_comp_end v = otherwise (eat R_BRACK ▸ close ARRAY_COMP (number (v.count - 1) ∷ []) ▸ end)
rule prefix elements v =
    v at COMMA ⟹ eat COMMA ▸ goto next_element
    ∣ otherwise (eat R_BRACK ▸ close ARRAY (number v.count ∷ []) ▸ end)
rule prefix next_element v =
    v at R_BRACK ⟹ eat R_BRACK ▸ close ARRAY (number v.count ∷ []) ▸ end
    ∣ otherwise (expression ▸ goto elements)
-- member
rule prefix member v =
    v at LOCAL_KW ⟹ eat LOCAL_KW ▸ sub bind ▸ end
    ∣ v at ASSERT_KW ⟹ sub assertion ▸ end
    ∣ otherwise (sub field ▸ end)
-- R21, R23. objinside: between the braces
rule prefix inside v =
    v at R_BRACE ⟹ close MEMBERS (number 0 ∷ []) ▸ end
    ∣ otherwise (sub member ▸ goto (members (with_member 4 v.kind)))
rule prefix (members c) v =
    v at COMMA ⟹ eat COMMA ▸ goto (next_member c)
    ∣ v at FOR_KW ⟹ goto (comprehension c)
    ∣ otherwise (close MEMBERS (number v.count ∷ []) ▸ end)
rule prefix (next_member c) v =
    v at R_BRACE ⟹ close MEMBERS (number v.count ∷ []) ▸ end
    ∣ v at FOR_KW ⟹ goto (comprehension c)
    ∣ otherwise (sub member ▸ goto (members (with_member c v.kind)))
-- R23, R38. "Comprehension faults (8) come after its last clause"
rule prefix (comprehension c) v =
    when eqb c 0 ⟹ sub clauses ▸ goto (comprehension_end v.count)
    ∣ otherwise (sub clauses ▸ fail MISPLACED c)
rule prefix (comprehension_end m) v = otherwise (close OBJECT_COMP (number m ∷ number (v.count - m) ∷ []) ▸ end)
-- R37, R43. field, field_name, visibility
rule prefix field v =
    v at IDENT ⟹ leaf STRING (text (word v) ∷ []) ▸ goto (field_named 0 v.start)
    ∣ when is_string v ⟹ sub string ▸ goto (field_named 0 v.start)
    ∣ v at L_BRACK ⟹ eat L_BRACK ▸ expression ▸ eat R_BRACK ▸ goto (field_named 1 v.start)
    ∣ otherwise (fail ABSENT 1)
rule prefix (field_named c a) v =
    v at L_PAREN ⟹ eat L_PAREN ▸ sub params ▸ eat R_PAREN ▸ goto (field_value a v.before c 0 1)
    ∣ v at PLUS ⟹ eat PLUS ▸ goto (field_value a v.before c 1 0)
    ∣ otherwise (goto (field_value a v.before c 0 0))
rule prefix (field_value i j c p m) v =
    when three_are v COLON COLON COLON ⟹ eat COLON ▸ eat COLON ▸ eat COLON ▸ expression ▸ close FIELD (span i j ∷ byte c ∷ byte p ∷ byte m ∷ number (v.count - 1) ∷ byte 2 ∷ []) ▸ end
    ∣ when two_are v COLON COLON ⟹ eat COLON ▸ eat COLON ▸ expression ▸ close FIELD (span i j ∷ byte c ∷ byte p ∷ byte m ∷ number (v.count - 1) ∷ byte 1 ∷ []) ▸ end
    ∣ otherwise (eat COLON ▸ expression ▸ close FIELD (span i j ∷ byte c ∷ byte p ∷ byte m ∷ number (v.count - 1) ∷ byte 0 ∷ []) ▸ end)
-- R21. params, up to `)`
rule prefix params v =
    v at R_PAREN ⟹ end
    ∣ otherwise (sub param ▸ goto params_end)
rule prefix params_end v =
    v at COMMA ⟹ eat COMMA ▸ goto params
    ∣ otherwise end
rule prefix param v = otherwise (sub pattern ▸ goto param_default)
rule prefix param_default v =
    v at ASSIGN ⟹ eat ASSIGN ▸ expression ▸ close PARAMETER (byte 1 ∷ []) ▸ end
    ∣ otherwise (close PARAMETER (byte 0 ∷ []) ▸ end)
-- R21. expr_basic's local, after `local`; bind
rule prefix binds v =
    v at SEMI ⟹ goto local_body
    ∣ otherwise (sub bind ▸ goto binds_end)
rule prefix binds_end v =
    v at COMMA ⟹ eat COMMA ▸ goto binds
    ∣ otherwise (goto local_body)
rule prefix local_body v = otherwise (eat SEMI ▸ expression ▸ close LOCAL (number v.count ∷ []) ▸ end)
rule prefix bind v =
    v at IDENT ⟹ leaf NAME_PATTERN (here v ∷ text (word v) ∷ []) ▸ goto bind_named
    ∣ otherwise (sub pattern ▸ eat ASSIGN ▸ expression ▸ close BIND (byte 0 ∷ number 0 ∷ []) ▸ end)
rule prefix bind_named v =
    v at L_PAREN ⟹ eat L_PAREN ▸ sub params ▸ eat R_PAREN ▸ goto bind_function
    ∣ otherwise (eat ASSIGN ▸ expression ▸ close BIND (byte 0 ∷ number 0 ∷ []) ▸ end)
rule prefix bind_function v = otherwise (eat ASSIGN ▸ expression ▸ close BIND (byte 1 ∷ number (v.count - 1) ∷ []) ▸ end)
-- if_else, after its second expression; expr_basic's function, after `)`
rule prefix (else_part i j) v =
    v at ELSE_KW ⟹ eat ELSE_KW ▸ expression ▸ close IF (span i j ∷ byte 1 ∷ []) ▸ end
    ∣ otherwise (close IF (span i j ∷ byte 0 ∷ []) ▸ end)
rule prefix (function_body i j) v = otherwise (expression ▸ close FUNCTION (span i j ∷ number v.count ∷ []) ▸ end)
-- assert_stmt
rule prefix assertion v = otherwise (eat ASSERT_KW ▸ goto condition)
rule prefix condition v = otherwise (expression ▸ goto (asserted v.start))
rule prefix (asserted a) v =
    v at COLON ⟹ eat COLON ▸ expression ▸ close ASSERT (since a v ∷ byte 1 ∷ []) ▸ end
    ∣ otherwise (close ASSERT (since a v ∷ byte 0 ∷ []) ▸ end)
-- compspecs, for_spec, if_spec_data
rule prefix clauses v = otherwise (eat FOR_KW ▸ sub for_clause ▸ goto more_clauses)
rule prefix more_clauses v =
    v at FOR_KW ⟹ eat FOR_KW ▸ sub for_clause ▸ goto more_clauses
    ∣ v at IF_KW ⟹ eat IF_KW ▸ sub (if_clause v.start v.stop) ▸ goto more_clauses
    ∣ otherwise end
-- R27. "With 2, `for [k]:` is object iteration only when the four lexemes `[`, `IDENT`, `]`, `:` stand there."
rule prefix for_clause v =
    when four_are v L_BRACK IDENT R_BRACK COLON with exp_object_iteration ⟹ deep header ▸ goto (iteration (said v.says₁))
    ∣ otherwise (sub pattern ▸ eat IN_KW ▸ expression ▸ close FOR [] ▸ end)
rule prefix header v = otherwise (eat L_BRACK ▸ eat IDENT ▸ eat R_BRACK ▸ end)
rule prefix (iteration key) v =
    when three_are v COLON COLON COLON ⟹ eat COLON ▸ eat COLON ▸ eat COLON ▸ goto (iteration_value 2 key)
    ∣ when two_are v COLON COLON ⟹ eat COLON ▸ eat COLON ▸ goto (iteration_value 1 key)
    ∣ otherwise (eat COLON ▸ goto (iteration_value 0 key))
rule prefix (iteration_value visibility key) v = otherwise (sub pattern ▸ eat IN_KW ▸ expression ▸ close OBJECT_ITERATION (byte visibility ∷ text key ∷ []) ▸ end)
rule prefix (if_clause i j) v = otherwise (expression ▸ close IF_CLAUSE (span i j ∷ []) ▸ end)
-- R26, R37. destruct
rule prefix pattern v =
    v at IDENT ⟹ leaf NAME_PATTERN (here v ∷ text (word v) ∷ []) ▸ end
    ∣ v at QUESTION_MARK with exp_destruct ⟹ leaf SKIP [] ▸ end
    ∣ v at L_BRACK with exp_destruct ⟹ deep array_pattern ▸ end
    ∣ v at L_BRACE with exp_destruct ⟹ deep object_pattern ▸ end
    ∣ when true with exp_destruct ⟹ fail ABSENT 2
    ∣ otherwise (fail WANTED IDENT)
-- R21, R26. destruct_array, destruct_rest
rule prefix array_pattern v = otherwise (eat L_BRACK ▸ goto pattern_starts)
rule prefix pattern_starts v =
    v at R_BRACK ⟹ goto (array_pattern_close v.count 0 [])
    ∣ v at DOTDOTDOT ⟹ eat DOTDOTDOT ▸ goto (array_rest v.count)
    ∣ otherwise (sub pattern ▸ goto pattern_starts_end)
rule prefix pattern_starts_end v =
    v at COMMA ⟹ eat COMMA ▸ goto pattern_starts
    ∣ otherwise (goto (array_pattern_close v.count 0 []))
rule prefix (array_rest n) v =
    v at IDENT ⟹ eat IDENT ▸ goto (array_rest_end n 2 (word v))
    ∣ otherwise (goto (array_rest_end n 1 []))
rule prefix (array_rest_end n r w) v =
    v at COMMA ⟹ eat COMMA ▸ goto (pattern_ends n r w)
    ∣ otherwise (goto (array_pattern_close n r w))
rule prefix (pattern_ends n r w) v =
    v at R_BRACK ⟹ goto (array_pattern_close n r w)
    ∣ otherwise (sub pattern ▸ goto (pattern_ends_end n r w))
rule prefix (pattern_ends_end n r w) v =
    v at COMMA ⟹ eat COMMA ▸ goto (pattern_ends n r w)
    ∣ otherwise (goto (array_pattern_close n r w))
rule prefix (array_pattern_close n r w) v = otherwise (eat R_BRACK ▸ close ARRAY_PATTERN (number n ∷ byte r ∷ number (v.count - n) ∷ text w ∷ []) ▸ end)
-- R26. destruct_object, destruct_rest
rule prefix object_pattern v = otherwise (eat L_BRACE ▸ goto pattern_fields)
rule prefix pattern_fields v =
    v at R_BRACE ⟹ goto (object_pattern_close 0 [])
    ∣ v at DOTDOTDOT ⟹ eat DOTDOTDOT ▸ goto object_rest
    ∣ otherwise (sub pattern_field ▸ goto pattern_fields_end)
rule prefix pattern_fields_end v =
    v at COMMA ⟹ eat COMMA ▸ goto pattern_fields
    ∣ otherwise (goto (object_pattern_close 0 []))
rule prefix object_rest v =
    v at IDENT ⟹ eat IDENT ▸ goto (object_rest_end 2 (word v))
    ∣ otherwise (goto (object_rest_end 1 []))
rule prefix (object_rest_end r w) v =
    v at COMMA ⟹ eat COMMA ▸ goto (object_pattern_close r w)
    ∣ otherwise (goto (object_pattern_close r w))
rule prefix (object_pattern_close r w) v = otherwise (eat R_BRACE ▸ close OBJECT_PATTERN (number v.count ∷ byte r ∷ text w ∷ []) ▸ end)
rule prefix pattern_field v = otherwise (eat IDENT ▸ goto (pattern_into (word v)))
rule prefix (pattern_into w) v =
    v at COLON ⟹ eat COLON ▸ sub pattern ▸ goto (pattern_default 1 w)
    ∣ otherwise (goto (pattern_default 0 w))
rule prefix (pattern_default h w) v =
    v at ASSIGN ⟹ eat ASSIGN ▸ goto (default_value h w)
    ∣ otherwise (close PATTERN_FIELD (byte h ∷ byte 0 ∷ absent ∷ text w ∷ []) ▸ end)
rule prefix (default_value h w) v = otherwise (expression ▸ goto (default_end h w v.start))
rule prefix (default_end h w a) v = otherwise (close PATTERN_FIELD (byte h ∷ byte 1 ∷ since a v ∷ text w ∷ []) ▸ end)
