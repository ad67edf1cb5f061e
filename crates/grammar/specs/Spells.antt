-- The grammar as a paper would have it: which lexemes spell which tree. A constructor for each form of 01; binding powers are levels. No
-- lookahead, no order of rules, no counts carried along; spans may be any (Reading.antt says which).
--
-- A form takes the lexemes xs and leaves ys. What it leaves is looked at in one way only, by `Ends q k`: the open phrase q may be over before a
-- lexeme of kind k. `anywhere` asks nothing, and the grammar is as ambiguous as the language; `greedily` is 01's sentence "Each phrase takes
-- the next lexeme whenever that can continue the innermost open phrase."
-- For a whole source three open phrases decide between trees: operations (`-a*b`), suffixes (`error a.b`) and `optional ELSE_KW` (`if a then if
-- b then c else d`). Every other `optional` kind stands only where nothing but its own form may have it, and so decides nothing (which is not
-- proved); asked for there, each form is judged by itself, without what may follow it.
-- Depth is the number in front: how many levels are left. A form hands it on; an expression, a pattern with brackets and the header `[k]:` take one.
-- Assumes nothing.
use Rattle.std.specs.Prelude.{◌≡◌, true as so, List, [], ◌∷◌, ℕ, suc, ◌+◌, ◌≤◌, T, length}
use Rattle.strings.specs.Utf8.{Utf8}
use Rattle.lexemes.specs.Kinds.{OR, NULL_COAELSE, AND, BIT_OR, BIT_XOR, BIT_AND, EQ, NE, LT, GT, LE, GE, LHS, RHS, PLUS, MINUS, MUL, DIV, MODULO, NOT, BIT_NOT}
use Rattle.lexemes.specs.Kinds.{L_BRACK, R_BRACK, L_PAREN, R_PAREN, L_BRACE, R_BRACE, COLON, SEMI, DOT, DOTDOTDOT, COMMA, DOLLAR, ASSIGN, QUESTION_MARK, FLOAT, IDENT}
use Rattle.lexemes.specs.Kinds.{STRING_DOUBLE, STRING_SINGLE, STRING_DOUBLE_VERBATIM, STRING_SINGLE_VERBATIM, STRING_BLOCK}
use Rattle.lexemes.specs.Kinds.{TAILSTRICT_KW, LOCAL_KW, IMPORTSTR_KW, IMPORTBIN_KW, IMPORT_KW, IF_KW, THEN_KW, ELSE_KW, FUNCTION_KW, ERROR_KW}
use Rattle.lexemes.specs.Kinds.{IN_KW, NULL_KW, TRUE_KW, FALSE_KW, SELF_KW, SUPER_KW, FOR_KW, ASSERT_KW}
use Rattle.grammar.specs.Tags.{IDENTITY, NULL, BOOL, NUMBER, STRING, VARIABLE, ARRAY, ARRAY_COMP, MEMBERS, OBJECT_COMP, EXTENSION, PREFIX, INFIX, ASSERT_EXPR, LOCAL}
use Rattle.grammar.specs.Tags.{IMPORT, ERROR, CALL, NAMED_ARGUMENT, INDEX_PART, FUNCTION, IF, SLICE, BIND, NAME_PATTERN, SKIP, ARRAY_PATTERN, OBJECT_PATTERN}
use Rattle.grammar.specs.Tags.{PATTERN_FIELD, PARAMETER, FIELD, ASSERT, FOR, IF_CLAUSE, OBJECT_ITERATION}
use Rattle.grammar.specs.Trees.{byte, number, span, text, Trees, none, node, tree, ◌⊕◌, count}
use Rattle.grammar.specs.Lexemes.{Said, says, said, Lexeme, kind_of}
use Rattle.grammar.specs.Productions.{exp_destruct, exp_object_iteration, exp_null_coaelse}
use Rattle.grammar.specs.Reading.{has}
use Rattle.grammar.specs.Answer.{Limits}
use Rattle.grammar.specs.Source.{Kept}

-- ── Lexemes ───────────────────────────────────────────────────────────────────────────────────────

abbrev pub Lexemes : Type 0
Lexemes = List Lexeme

-- R42. The lexemes xs are one of kind k, which says v, and then ys.
infix 30 ◌is◌saying◌then◌
pub data ◌is◌saying◌then◌ : Lexemes → ℕ → Said → Lexemes → Type 0 where
  worded : {k a e : ℕ} {v : Said} {ys : Lexemes} → (record { kind = k; start = a; stop = e; word = v } ∷ ys) is k saying v then ys

-- R16. Whatever it says.
infix 30 ◌is◌then◌
pub data ◌is◌then◌ : Lexemes → ℕ → Lexemes → Type 0 where
  lexeme : {k a e : ℕ} {v : Said} {ys : Lexemes} → (record { kind = k; start = a; stop = e; word = v } ∷ ys) is k then ys

-- R12, R44. The kinds of literals with a text; of identities, prefix operators and imports, each with the byte of its record.
pub data Quoted : ℕ → Type 0 where
  double : Quoted STRING_DOUBLE
  single : Quoted STRING_SINGLE
  double_verbatim : Quoted STRING_DOUBLE_VERBATIM
  single_verbatim : Quoted STRING_SINGLE_VERBATIM
  block : Quoted STRING_BLOCK

pub data Identity : ℕ → ℕ → Type 0 where
  self : Identity SELF_KW 0
  super : Identity SUPER_KW 1
  dollar : Identity DOLLAR 2

pub data Unary : ℕ → ℕ → Type 0 where
  plus : Unary PLUS 0
  minus : Unary MINUS 1
  bit_not : Unary BIT_NOT 2
  not : Unary NOT 3

pub data Import : ℕ → ℕ → Type 0 where
  import : Import IMPORT_KW 0
  importstr : Import IMPORTSTR_KW 1
  importbin : Import IMPORTBIN_KW 2

-- R18, R44. "Binding, left/right": a binary operator's kind; its level, which is its left power (the right power is one more); the byte of its record.
pub data Binary (s : ℕ) : ℕ → ℕ → ℕ → Type 0 where
  or : Binary s OR 2 17
  coalesce : T (has s exp_null_coaelse) → Binary s NULL_COAELSE 2 18
  and : Binary s AND 4 16
  bit_or : Binary s BIT_OR 6 12
  bit_xor : Binary s BIT_XOR 8 13
  bit_and : Binary s BIT_AND 10 11
  eq : Binary s EQ 12 14
  ne : Binary s NE 12 15
  lt : Binary s LT 14 7
  gt : Binary s GT 14 8
  le : Binary s LE 14 9
  ge : Binary s GE 14 10
  in_object : Binary s IN_KW 14 19
  lhs : Binary s LHS 16 5
  rhs : Binary s RHS 16 6
  plus : Binary s PLUS 18 3
  minus : Binary s MINUS 18 4
  mul : Binary s MUL 20 0
  div : Binary s DIV 20 1
  modulo : Binary s MODULO 20 2

-- ── The greedy rule ───────────────────────────────────────────────────────────────────────────────

-- R17. The open phrases: operations of a level; suffixes; what a lexeme of kind k may continue.
pub data Open : Type 0 where
  operations : ℕ → Open
  suffixes : Open
  optional : ℕ → Open

-- R17. The kinds that continue them.
pub data Continues (s : ℕ) : Open → ℕ → Type 0 where
  operator : {k l o m : ℕ} → Binary s k l o → m ≤ l → Continues s (operations m) k
  dot : Continues s suffixes DOT
  bracket : Continues s suffixes L_BRACK
  paren : Continues s suffixes L_PAREN
  brace : Continues s suffixes L_BRACE
  question : T (has s exp_null_coaelse) → Continues s suffixes QUESTION_MARK
  option : {k : ℕ} → Continues s (optional k) k

-- R17. Where a phrase may be over.
abbrev pub anywhere : Open → ℕ → Type 0
anywhere q k = Unit

abbrev pub greedily : ℕ → Open → ℕ → Type 0
greedily s q k = Continues s q k → ⊥

module _ (Ends : Open → ℕ → Type 0) where
  -- Perhaps one of kind k, with a flag that tells.
  pub data Perhaps (k : ℕ) : ℕ → Lexemes → Lexemes → Type 0 where
    no : {xs : Lexemes} → Ends (optional k) (kind_of xs) → Perhaps k 0 xs xs
    yes : {xs ys : Lexemes} → xs is k then ys → Perhaps k 1 xs ys

  -- "visibility (0, 1, 2)": so many colons more than one.
  pub data Colons : ℕ → Lexemes → Lexemes → Type 0 where
    one : {xs ys : Lexemes} → xs is COLON then ys → Ends (optional COLON) (kind_of ys) → Colons 0 xs ys
    two : {xs ys zs : Lexemes} → xs is COLON then ys → ys is COLON then zs → Ends (optional COLON) (kind_of zs) → Colons 1 xs zs
    three : {xs ys zs ws : Lexemes} → xs is COLON then ys → ys is COLON then zs → zs is COLON then ws → Colons 2 xs ws

  -- "rest byte (none 0, drop 1, keep 2) .. rest name": `...` with or without a name.
  pub data Rest : ℕ → List ℕ → Lexemes → Lexemes → Type 0 where
    dropped : {xs ys : Lexemes} → xs is DOTDOTDOT then ys → Ends (optional IDENT) (kind_of ys) → Rest 1 [] xs ys
    kept : {xs ys zs : Lexemes} {v : Said} → xs is DOTDOTDOT then ys → ys is IDENT saying v then zs → Rest 2 (said v) xs zs

-- ── Forms ─────────────────────────────────────────────────────────────────────────────────────────

pub data Category : Type 0 where
  expr : ℕ → Category  -- an expression that is an operand of this level, 0 for any expression
  operation : ℕ → Category  -- the same, though it may not be over yet
  suffixed : Category  -- a basic expression with all its suffixes
  chain : ℕ → Category  -- the same, though there may be more of them. 0 if an index part stands last: the next is not first of its run
  basic string object : Category
  member local field parameter bind assertion named_argument : Category
  clauses iteration : Category  -- of a comprehension; what stands behind `for`
  pattern pattern_field : Category
  name : ℕ → Category  -- of a field: 1 if computed
  part : ℕ → ℕ → Category  -- of a slice: its weight, and what it adds to the slice's byte
  step : ℕ → Category  -- of a slice: what it adds to the byte
  perhaps : ℕ → Category → ℕ → Category  -- a lexeme of this kind and one of that category, or nothing: the flag
  each : Category → Category  -- some, a comma behind each
  row : Category → Category  -- some, commas between them: "Commas may trail"
  more : Category → Category  -- perhaps a comma and a row

module _ (prefix s : ℕ) (Ends : Open → ℕ → Type 0) where
  -- R16. `Spells d C xs ts ys`: within d levels the lexemes of xs up to ys spell the trees ts, which are a C.
  pub data Spells : ℕ → Category → Lexemes → Trees → Lexemes → Type 0 where
    -- Rows: `a, b, c` and `a, b, c,`
    each_none : {d : ℕ} {C : Category} {xs : Lexemes} → Spells d (each C) xs none xs
    each_more : {d : ℕ} {C : Category} {xs ys zs ws : Lexemes} {ts t : Trees}
        → Spells d (each C) xs ts ys → Spells d C ys t zs → zs is COMMA then ws → Spells d (each C) xs (ts ⊕ t) ws
    row_shut : {d : ℕ} {C : Category} {xs ys : Lexemes} {ts : Trees} → Spells d (each C) xs ts ys → Spells d (row C) xs ts ys
    row_last : {d : ℕ} {C : Category} {xs ys zs : Lexemes} {ts t : Trees}
        → Spells d (each C) xs ts ys → Spells d C ys t zs → Spells d (row C) xs (ts ⊕ t) zs
    more_none : {d : ℕ} {C : Category} {xs : Lexemes} → Spells d (more C) xs none xs
    more_row : {d : ℕ} {C : Category} {xs ys zs : Lexemes} {ts : Trees}
        → xs is COMMA then ys → Spells d (row C) ys ts zs → Spells d (more C) xs ts zs
    perhaps_not : {d k : ℕ} {C : Category} {xs : Lexemes} → Ends (optional k) (kind_of xs) → Spells d (perhaps k C 0) xs none xs
    perhaps_so : {d k : ℕ} {C : Category} {xs ys zs : Lexemes} {t : Trees}
        → xs is k then ys → Spells d C ys t zs → Spells d (perhaps k C 1) xs t zs
    -- "Depth: 200. Each entry to `expr_bp` counts one while it lasts": each expression has such an entry
    whole : {d m : ℕ} {xs ys : Lexemes} {t : Trees}
        → Spells d (operation m) xs t ys → Ends (operations m) (kind_of ys) → Spells (suc d) (expr m) xs t ys
    -- 12 and 13: `-a`, `a * b`. "Binding, left/right .. prefix 20". A prefix operator may stand wherever an operand may
    operand : {d m : ℕ} {xs ys : Lexemes} {t : Trees} → Spells d suffixed xs t ys → Spells d (operation m) xs t ys
    prefixed : {d m k o : ℕ} {xs ys zs : Lexemes} {t : Trees}
        → Unary k o → xs is k then ys → Spells d (expr prefix) ys t zs → Spells d (operation m) xs (tree PREFIX (byte o ∷ []) t) zs
    infixed : {d m k l o a e : ℕ} {xs ys zs ws : Lexemes} {t u : Trees} → Binary s k l o → m ≤ l
        → Spells d (operation l) xs t ys → ys is k then zs → Spells d (expr (l + 1)) zs u ws
        → Spells d (operation m) xs (tree INFIX (byte o ∷ span a e ∷ []) (t ⊕ u)) ws
    -- 20, 23, 18, 19 and 11: `a.b`, `a?.b`, `a[i]`, `a?.[i]`, `a[i:j:k]`, `f(x, n=y) tailstrict`, `a {..}`. "Suffixes bind tightest", "`?.` need 4"
    whole_chain : {d f : ℕ} {xs ys : Lexemes} {t : Trees} → Spells d (chain f) xs t ys → Ends suffixes (kind_of ys) → Spells d suffixed xs t ys
    bare : {d : ℕ} {xs ys : Lexemes} {t : Trees} → Spells d basic xs t ys → Spells d (chain 1) xs t ys
    member_of : {d f a e : ℕ} {v : Said} {xs ys zs ws : Lexemes} {t : Trees}
        → Spells d (chain f) xs t ys → ys is DOT then zs → zs is IDENT saying v then ws
        → Spells d (chain 0) xs (tree INDEX_PART (span a e ∷ byte f ∷ byte 0 ∷ []) (t ⊕ tree STRING (text (said v) ∷ []) none)) ws
    safe_member_of : {d f a e : ℕ} {v : Said} {xs ys zs ws us : Lexemes} {t : Trees} → T (has s exp_null_coaelse)
        → Spells d (chain f) xs t ys → ys is QUESTION_MARK then zs → zs is DOT then ws → ws is IDENT saying v then us
        → Spells d (chain 0) xs (tree INDEX_PART (span a e ∷ byte f ∷ byte 1 ∷ []) (t ⊕ tree STRING (text (said v) ∷ []) none)) us
    index_of : {d f a e : ℕ} {xs ys zs ws us : Lexemes} {t i : Trees}
        → Spells d (chain f) xs t ys → ys is L_BRACK then zs → Spells d (expr 0) zs i ws → ws is R_BRACK then us
        → Spells d (chain 0) xs (tree INDEX_PART (span a e ∷ byte f ∷ byte 0 ∷ []) (t ⊕ i)) us
    safe_index_of : {d f a e : ℕ} {xs ys zs ws us vs qs : Lexemes} {t i : Trees} → T (has s exp_null_coaelse)
        → Spells d (chain f) xs t ys → ys is QUESTION_MARK then zs → zs is DOT then ws
        → ws is L_BRACK then us → Spells d (expr 0) us i vs → vs is R_BRACK then qs
        → Spells d (chain 0) xs (tree INDEX_PART (span a e ∷ byte f ∷ byte 1 ∷ []) (t ⊕ i)) qs
    slice_of : {d f b₁ b₂ b₃ i₁ i₂ i₃ j₁ j₂ j₃ : ℕ} {xs x₁ x₂ x₃ x₄ x₅ x₆ x₇ : Lexemes} {t t₁ t₂ t₃ : Trees}
        → Spells d (chain f) xs t x₁ → x₁ is L_BRACK then x₂
        → Spells d (part 1 b₁) x₂ t₁ x₃ → x₃ is COLON then x₄ → Spells d (part 2 b₂) x₄ t₂ x₅
        → Spells d (step b₃) x₅ t₃ x₆ → x₆ is R_BRACK then x₇
        → Spells d (chain 1) xs
        (tree SLICE (byte (b₁ + b₂ + b₃) ∷ span i₁ j₁ ∷ span i₂ j₂ ∷ span i₃ j₃ ∷ []) (t ⊕ t₁ ⊕ t₂ ⊕ t₃)) x₇
    part_not : {d w : ℕ} {xs : Lexemes} → Spells d (part w 0) xs none xs
    part_so : {d w : ℕ} {xs ys : Lexemes} {t : Trees} → Spells d (expr 0) xs t ys → Spells d (part w w) xs t ys
    step_not : {d : ℕ} {xs : Lexemes} → Spells d (step 0) xs none xs
    step_so : {d b : ℕ} {xs ys zs : Lexemes} {t : Trees} → xs is COLON then ys → Spells d (part 4 b) ys t zs → Spells d (step b) xs t zs
    called : {d f a e b : ℕ} {xs ys zs ws us vs : Lexemes} {t ts : Trees}
        → Spells d (chain f) xs t ys → ys is L_PAREN then zs → Spells d (row (expr 0)) zs ts ws → ws is R_PAREN then us
        → Perhaps Ends TAILSTRICT_KW b us vs
        → Spells d (chain 1) xs (tree CALL (span a e ∷ byte b ∷ number (count ts) ∷ number 0 ∷ []) (t ⊕ ts)) vs
    called_by_name : {d f a e b : ℕ} {xs ys zs ws us vs qs : Lexemes} {t ts ns : Trees}
        → Spells d (chain f) xs t ys → ys is L_PAREN then zs → Spells d (each (expr 0)) zs ts ws → Spells d (row named_argument) ws ns us
        → us is R_PAREN then vs → Perhaps Ends TAILSTRICT_KW b vs qs
        → Spells d (chain 1) xs (tree CALL (span a e ∷ byte b ∷ number (count ts) ∷ number (count ns) ∷ []) (t ⊕ ts ⊕ ns)) qs
    an_argument : {d : ℕ} {v : Said} {xs ys zs ws : Lexemes} {t : Trees}
        → xs is IDENT saying v then ys → ys is ASSIGN then zs → Spells d (expr 0) zs t ws
        → Spells d named_argument xs (tree NAMED_ARGUMENT (text (said v) ∷ []) t) ws
    extended : {d f : ℕ} {xs ys zs : Lexemes} {t o : Trees}
        → Spells d (chain f) xs t ys → Spells d object ys o zs → Spells d (chain 1) xs (tree EXTENSION [] (t ⊕ o)) zs
    -- 1 to 8, and parentheses, which "write nothing": `self`, `null`, `true`, `1`, `"s"`, `x`, `(e)`, `[a, b]`, `[a for x in xs]`
    identity : {d k o a e : ℕ} {xs ys : Lexemes} → Identity k o → xs is k then ys
        → Spells d basic xs (tree IDENTITY (byte o ∷ span a e ∷ []) none) ys
    null : {d : ℕ} {xs ys : Lexemes} → xs is NULL_KW then ys → Spells d basic xs (tree NULL [] none) ys
    true : {d : ℕ} {xs ys : Lexemes} → xs is TRUE_KW then ys → Spells d basic xs (tree BOOL (byte 1 ∷ []) none) ys
    false : {d : ℕ} {xs ys : Lexemes} → xs is FALSE_KW then ys → Spells d basic xs (tree BOOL (byte 0 ∷ []) none) ys
    numeral : {d : ℕ} {w : List ℕ} {xs ys : Lexemes} → xs is FLOAT saying says w then ys → Spells d basic xs (tree NUMBER (text w ∷ []) none) ys
    literal : {d : ℕ} {xs ys : Lexemes} {t : Trees} → Spells d string xs t ys → Spells d basic xs t ys
    quoted : {d k : ℕ} {w : List ℕ} {xs ys : Lexemes} → Quoted k → xs is k saying says w then ys
        → Spells d string xs (tree STRING (text w ∷ []) none) ys
    variable : {d a e : ℕ} {v : Said} {xs ys : Lexemes}
        → xs is IDENT saying v then ys → Spells d basic xs (tree VARIABLE (span a e ∷ text (said v) ∷ []) none) ys
    parens : {d : ℕ} {xs ys zs ws : Lexemes} {t : Trees}
        → xs is L_PAREN then ys → Spells d (expr 0) ys t zs → zs is R_PAREN then ws → Spells d basic xs t ws
    array : {d : ℕ} {xs ys zs ws : Lexemes} {ts : Trees}
        → xs is L_BRACK then ys → Spells d (row (expr 0)) ys ts zs → zs is R_BRACK then ws
        → Spells d basic xs (tree ARRAY (number (count ts) ∷ []) ts) ws
    array_comprehension : {d b : ℕ} {xs ys zs ws us vs : Lexemes} {t cs : Trees}
        → xs is L_BRACK then ys → Spells d (expr 0) ys t zs → Perhaps Ends COMMA b zs ws → Spells d clauses ws cs us → us is R_BRACK then vs
        → Spells d basic xs (tree ARRAY_COMP (number (count cs) ∷ []) (t ⊕ cs)) vs
    an_object : {d : ℕ} {xs ys : Lexemes} {t : Trees} → Spells d object xs t ys → Spells d basic xs t ys
    -- 14 to 17, 21 and 22: `assert c : m; e`, `local x = 1; e`, `import e`, `error e`, `function(x) e`, `if c then t else e`. "`local` may have no bind"
    assert : {d : ℕ} {xs ys zs ws : Lexemes} {a t : Trees}
        → Spells d assertion xs a ys → ys is SEMI then zs → Spells d (expr 0) zs t ws → Spells d basic xs (tree ASSERT_EXPR [] (a ⊕ t)) ws
    locals : {d : ℕ} {xs ys zs ws us : Lexemes} {bs t : Trees}
        → xs is LOCAL_KW then ys → Spells d (row bind) ys bs zs → zs is SEMI then ws → Spells d (expr 0) ws t us
        → Spells d basic xs (tree LOCAL (number (count bs) ∷ []) (bs ⊕ t)) us
    import : {d k o a e : ℕ} {xs ys zs : Lexemes} {t : Trees}
        → Import k o → xs is k then ys → Spells d (expr 0) ys t zs → Spells d basic xs (tree IMPORT (byte o ∷ span a e ∷ []) t) zs
    error : {d a e : ℕ} {xs ys zs : Lexemes} {t : Trees}
        → xs is ERROR_KW then ys → Spells d (expr 0) ys t zs → Spells d basic xs (tree ERROR (span a e ∷ []) t) zs
    function : {d a e : ℕ} {xs ys zs ws us vs : Lexemes} {ps t : Trees}
        → xs is FUNCTION_KW then ys → ys is L_PAREN then zs → Spells d (row parameter) zs ps ws → ws is R_PAREN then us → Spells d (expr 0) us t vs
        → Spells d basic xs (tree FUNCTION (span a e ∷ number (count ps) ∷ []) (ps ⊕ t)) vs
    if : {d a e h : ℕ} {xs ys zs ws us vs : Lexemes} {c t f : Trees}
        → xs is IF_KW then ys → Spells d (expr 0) ys c zs → zs is THEN_KW then ws → Spells d (expr 0) ws t us
        → Spells d (perhaps ELSE_KW (expr 0) h) us f vs
        → Spells d basic xs (tree IF (span a e ∷ byte h ∷ []) (c ⊕ t ⊕ f)) vs
    -- 9 and 10, braces included: `{..}`, `{[k]: v for k in ks}`. "2 second field, 3 assert, 4 no field in an object comprehension" are refused:
    -- it has locals and one field
    members : {d : ℕ} {xs ys zs ws : Lexemes} {ts : Trees}
        → xs is L_BRACE then ys → Spells d (row member) ys ts zs → zs is R_BRACE then ws
        → Spells d object xs (tree MEMBERS (number (count ts) ∷ []) ts) ws
    object_comprehension : {d : ℕ} {xs x₁ x₂ x₃ x₄ x₅ x₆ : Lexemes} {ls f ms cs : Trees}
        → xs is L_BRACE then x₁ → Spells d (each local) x₁ ls x₂ → Spells d field x₂ f x₃ → Spells d (more local) x₃ ms x₄
        → Spells d clauses x₄ cs x₅ → x₅ is R_BRACE then x₆
        → Spells d object xs (tree OBJECT_COMP (number (count (ls ⊕ f ⊕ ms)) ∷ number (count cs) ∷ []) (ls ⊕ f ⊕ ms ⊕ cs)) x₆
    -- 24, 31, 32 and 30: `local x = 1`, `f(x) = e`, `k +: v`, `k(x):: v`, `assert c : m`, the parameter `x=e`
    local_member : {d : ℕ} {xs ys : Lexemes} {t : Trees} → Spells d local xs t ys → Spells d member xs t ys
    assert_member : {d : ℕ} {xs ys : Lexemes} {t : Trees} → Spells d assertion xs t ys → Spells d member xs t ys
    field_member : {d : ℕ} {xs ys : Lexemes} {t : Trees} → Spells d field xs t ys → Spells d member xs t ys
    a_local : {d : ℕ} {xs ys zs : Lexemes} {t : Trees} → xs is LOCAL_KW then ys → Spells d bind ys t zs → Spells d local xs t zs
    bind_value : {d : ℕ} {xs ys zs ws : Lexemes} {p t : Trees}
        → Spells d pattern xs p ys → ys is ASSIGN then zs → Spells d (expr 0) zs t ws
        → Spells d bind xs (tree BIND (byte 0 ∷ number 0 ∷ []) (p ⊕ t)) ws
    bind_function : {d a e : ℕ} {v : Said} {xs ys zs ws us vs qs : Lexemes} {ps t : Trees}
        → xs is IDENT saying v then ys → ys is L_PAREN then zs → Spells d (row parameter) zs ps ws → ws is R_PAREN then us
        → us is ASSIGN then vs → Spells d (expr 0) vs t qs
        → Spells d bind xs (tree BIND (byte 1 ∷ number (count ps) ∷ []) (node NAME_PATTERN (span a e ∷ text (said v) ∷ []) none (ps ⊕ t))) qs
    a_field : {d a e c p v : ℕ} {xs ys zs ws us : Lexemes} {n t : Trees}
        → Spells d (name c) xs n ys → Perhaps Ends PLUS p ys zs → Colons Ends v zs ws → Spells d (expr 0) ws t us
        → Spells d field xs (tree FIELD (span a e ∷ byte c ∷ byte p ∷ byte 0 ∷ number 0 ∷ byte v ∷ []) (n ⊕ t)) us
    a_method : {d a e c v : ℕ} {xs ys zs ws us vs qs : Lexemes} {n ps t : Trees}
        → Spells d (name c) xs n ys → ys is L_PAREN then zs → Spells d (row parameter) zs ps ws → ws is R_PAREN then us
        → Colons Ends v us vs → Spells d (expr 0) vs t qs
        → Spells d field xs (tree FIELD (span a e ∷ byte c ∷ byte 0 ∷ byte 1 ∷ number (count ps) ∷ byte v ∷ []) (n ⊕ ps ⊕ t)) qs
    name_word : {d : ℕ} {v : Said} {xs ys : Lexemes} → xs is IDENT saying v then ys → Spells d (name 0) xs (tree STRING (text (said v) ∷ []) none) ys
    name_literal : {d : ℕ} {xs ys : Lexemes} {t : Trees} → Spells d string xs t ys → Spells d (name 0) xs t ys
    name_computed : {d : ℕ} {xs ys zs ws : Lexemes} {t : Trees}
        → xs is L_BRACK then ys → Spells d (expr 0) ys t zs → zs is R_BRACK then ws → Spells d (name 1) xs t ws
    asserted : {d a e h : ℕ} {xs ys zs ws : Lexemes} {t u : Trees}
        → xs is ASSERT_KW then ys → Spells d (expr 0) ys t zs → Spells d (perhaps COLON (expr 0) h) zs u ws
        → Spells d assertion xs (tree ASSERT (span a e ∷ byte h ∷ []) (t ⊕ u)) ws
    a_parameter : {d h : ℕ} {xs ys zs : Lexemes} {p t : Trees}
        → Spells d pattern xs p ys → Spells d (perhaps ASSIGN (expr 0) h) ys t zs → Spells d parameter xs (tree PARAMETER (byte h ∷ []) (p ⊕ t)) zs
    -- 33 to 35: `for x in xs`, `if c`, `for [k]: v in o`. "With 2, `for [k]:` is object iteration"; "and the header .. up to its `:`" counts one level
    first_clause : {d : ℕ} {xs ys zs : Lexemes} {t : Trees} → xs is FOR_KW then ys → Spells d iteration ys t zs → Spells d clauses xs t zs
    for_clause : {d : ℕ} {xs ys zs ws : Lexemes} {ts t : Trees}
        → Spells d clauses xs ts ys → ys is FOR_KW then zs → Spells d iteration zs t ws → Spells d clauses xs (ts ⊕ t) ws
    if_clause : {d : ℕ} (a e : ℕ) {xs ys zs ws : Lexemes} {ts t : Trees}
        → Spells d clauses xs ts ys → ys is IF_KW then zs → Spells d (expr 0) zs t ws
        → Spells d clauses xs (ts ⊕ tree IF_CLAUSE (span a e ∷ []) t) ws
    each_of : {d : ℕ} {xs ys zs ws : Lexemes} {p t : Trees}
        → Spells d pattern xs p ys → ys is IN_KW then zs → Spells d (expr 0) zs t ws → Spells d iteration xs (tree FOR [] (p ⊕ t)) ws
    each_field_of : {d c : ℕ} {v : Said} {xs x₁ x₂ x₃ x₄ x₅ x₆ x₇ : Lexemes} {p t : Trees} → T (has s exp_object_iteration)
        → xs is L_BRACK then x₁ → x₁ is IDENT saying v then x₂ → x₂ is R_BRACK then x₃ → Colons Ends c x₃ x₄
        → Spells (suc d) pattern x₄ p x₅ → x₅ is IN_KW then x₆ → Spells (suc d) (expr 0) x₆ t x₇
        → Spells (suc d) iteration xs (tree OBJECT_ITERATION (byte c ∷ text (said v) ∷ []) (p ⊕ t)) x₇
    -- 25 to 29: `x`, `?`, `[a, ...r, b]`, `{k: x = e, ...r}`. "Without 1 a pattern is an identifier"; "so does each array or object pattern" count one
    name_pattern : {d a e : ℕ} {v : Said} {xs ys : Lexemes}
        → xs is IDENT saying v then ys → Spells d pattern xs (tree NAME_PATTERN (span a e ∷ text (said v) ∷ []) none) ys
    skip : {d : ℕ} {xs ys : Lexemes} → T (has s exp_destruct) → xs is QUESTION_MARK then ys → Spells d pattern xs (tree SKIP [] none) ys
    array_pattern : {d : ℕ} {xs ys zs ws : Lexemes} {ps : Trees} → T (has s exp_destruct)
        → xs is L_BRACK then ys → Spells d (row pattern) ys ps zs → zs is R_BRACK then ws
        → Spells (suc d) pattern xs (tree ARRAY_PATTERN (number (count ps) ∷ byte 0 ∷ number 0 ∷ text [] ∷ []) ps) ws
    array_pattern_rest : {d r : ℕ} {w : List ℕ} {xs ys zs ws us vs : Lexemes} {ps qs : Trees} → T (has s exp_destruct)
        → xs is L_BRACK then ys → Spells d (each pattern) ys ps zs → Rest Ends r w zs ws → Spells d (more pattern) ws qs us → us is R_BRACK then vs
        → Spells (suc d) pattern xs (tree ARRAY_PATTERN (number (count ps) ∷ byte r ∷ number (count qs) ∷ text w ∷ []) (ps ⊕ qs)) vs
    object_pattern : {d : ℕ} {xs ys zs ws : Lexemes} {ps : Trees} → T (has s exp_destruct)
        → xs is L_BRACE then ys → Spells d (row pattern_field) ys ps zs → zs is R_BRACE then ws
        → Spells (suc d) pattern xs (tree OBJECT_PATTERN (number (count ps) ∷ byte 0 ∷ text [] ∷ []) ps) ws
    object_pattern_rest : {d r b : ℕ} {w : List ℕ} {xs ys zs ws us vs : Lexemes} {ps : Trees} → T (has s exp_destruct)
        → xs is L_BRACE then ys → Spells d (each pattern_field) ys ps zs → Rest Ends r w zs ws → Perhaps Ends COMMA b ws us → us is R_BRACE then vs
        → Spells (suc d) pattern xs (tree OBJECT_PATTERN (number (count ps) ∷ byte r ∷ text w ∷ []) ps) vs
    a_pattern_field : {d h i a e : ℕ} {v : Said} {xs ys zs ws : Lexemes} {p t : Trees}
        → xs is IDENT saying v then ys → Spells d (perhaps COLON pattern h) ys p zs → Spells d (perhaps ASSIGN (expr 0) i) zs t ws
        → Spells d pattern_field xs (tree PATTERN_FIELD (byte h ∷ byte i ∷ span a e ∷ text (said v) ∷ []) (p ⊕ t)) ws

-- ── Sources ───────────────────────────────────────────────────────────────────────────────────────

-- R5, R16. The kept lexemes xs of a source spell a tree within so many levels: one expression, and then nothing.
abbrev pub SpelledWithin : ℕ → ℕ → (Open → ℕ → Type 0) → ℕ → Lexemes → Trees → Type 0
SpelledWithin prefix s Ends levels xs t = Spells prefix s Ends levels (expr 0) xs t []

-- R16. A source past numbers 1 to 4 spells a tree, greedily and within the limits.
pub record Spelled (limits : Limits) (setting : ℕ) (source : List ℕ) (t : Trees) : Type 0 where
  pub known : limits.valid setting ≡ so
  pub short : length source ≤ limits.size
  pub utf8 : Utf8 source
  pub kept : Lexemes
  pub lexemes : Kept source kept
  pub spelled : SpelledWithin (limits.prefix setting) setting (greedily setting) limits.depth kept t
