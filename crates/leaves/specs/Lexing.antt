-- The lexemes of a source as a phrase function meets them: by a cursor.
-- Assumes nothing.
use Rattle.std.specs.Prelude.{◌≡◌, List, [], ◌∷◌, ℕ, ◌≤◌, length, Bool, true, false}
use Rattle.lexemes.specs.Lexeme.{lexeme}
use Rattle.lexemes.specs.Kept.{NextKept}
use Rattle.lexemes.specs.Kinds.{EOF, IDENT, ASSIGN, COMMA, L_BRACK, R_BRACK, L_PAREN, L_BRACE, COLON, DOT, QUESTION_MARK, STRING_DOUBLE, STRING_SINGLE, STRING_DOUBLE_VERBATIM, STRING_SINGLE_VERBATIM, STRING_BLOCK}
use Rattle.lexemes.specs.Kinds.{LOCAL_KW, IF_KW, FUNCTION_KW, ASSERT_KW, ERROR_KW, IMPORT_KW, IMPORTSTR_KW, IMPORTBIN_KW}
use Rattle.grammar.specs.Productions.{exp_object_iteration, exp_null_coaelse}
use Rattle.grammar.specs.Reading.{has}
use Rattle.grammar.specs.Lexemes.{Said, Lexeme}
use Rattle.grammar.specs.Says.{Says}
use Rattle.leaves.specs.declared.Cursor.{Cursor}

-- The kept lexemes of s from p on, as the grammar sees them.
pub data Left (s : List ℕ) : ℕ → List Lexeme → Type 0 where
  over : {p : ℕ} → NextKept s p (lexeme EOF p p) → Left s p []
  more : {p k a e : ℕ} {w : Said} {xs : List Lexeme} → NextKept s p (lexeme k a e) → (k ≡ EOF → ⊥) → Says s k a e w → Left s e xs
      → Left s p (record { kind = k; start = a; stop = e; word = w } ∷ xs)

-- A cursor tells of the source what stands next. The source is no longer than one may be (R4), so that sixteen bits hold every place of it.
pub record Stands (s : List ℕ) (c : Cursor) : Type 0 where
  pub short : length s ≤ 65000
  pub within : c.at ≤ length s
  pub next : NextKept s c.at (lexeme c.kind c.start c.end)

-- A cursor past the lexeme that another tells of.
pub record Moved (s : List ℕ) (c c₁ : Cursor) : Type 0 where
  pub at : c₁.at ≡ c.end
  pub stands : Stands s c₁

-- ── What stands further on ────────────────────────────────────────────────────────────────────────

-- A name and `=`: 1; else 0.
pub data Named (s : List ℕ) (c : Cursor) : ℕ → Type 0 where
  named : {c₁ : Cursor} → c.kind ≡ IDENT → Moved s c c₁ → c₁.kind ≡ ASSIGN → Named s c 1
  no_name : (c.kind ≡ IDENT → ⊥) → Named s c 0
  no_value : {c₁ : Cursor} → c.kind ≡ IDENT → Moved s c c₁ → (c₁.kind ≡ ASSIGN → ⊥) → Named s c 0

-- Whether `[`, a name, `]` and `:` stand next, where setting g has object iteration, and at which cursors.
pub data Header (g : ℕ) (s : List ℕ) (c : Cursor) : Bool → Type 0 where
  header : {c₁ c₂ c₃ : Cursor} → has g exp_object_iteration ≡ true → c.kind ≡ L_BRACK → Moved s c c₁ → c₁.kind ≡ IDENT → Moved s c₁ c₂ → c₂.kind ≡ R_BRACK
      → Moved s c₂ c₃ → c₃.kind ≡ COLON → Header g s c true
  off : has g exp_object_iteration ≡ false → Header g s c false
  no_bracket : (c.kind ≡ L_BRACK → ⊥) → Header g s c false
  no_key : {c₁ : Cursor} → Moved s c c₁ → (c₁.kind ≡ IDENT → ⊥) → Header g s c false
  not_closed : {c₁ c₂ : Cursor} → Moved s c c₁ → Moved s c₁ c₂ → (c₂.kind ≡ R_BRACK → ⊥) → Header g s c false
  no_colon : {c₁ c₂ c₃ : Cursor} → Moved s c c₁ → Moved s c₁ c₂ → Moved s c₂ c₃ → (c₃.kind ≡ COLON → ⊥) → Header g s c false

-- Whether a suffix begins with a kind, under setting g.
pub data Suffixed (g k : ℕ) : Bool → Type 0 where
  mark : k ≡ QUESTION_MARK → has g exp_null_coaelse ≡ true → Suffixed g k true
  dot : k ≡ DOT → Suffixed g k true
  bracket : k ≡ L_BRACK → Suffixed g k true
  paren : k ≡ L_PAREN → Suffixed g k true
  brace : k ≡ L_BRACE → Suffixed g k true
  no_mark : k ≡ QUESTION_MARK → has g exp_null_coaelse ≡ false → Suffixed g k false
  none : (k ≡ QUESTION_MARK → ⊥) → (k ≡ DOT → ⊥) → (k ≡ L_BRACK → ⊥) → (k ≡ L_PAREN → ⊥) → (k ≡ L_BRACE → ⊥) → Suffixed g k false

-- A string's kind.
pub data Quoting : ℕ → Type 0 where
  double : Quoting STRING_DOUBLE
  single : Quoting STRING_SINGLE
  double_verbatim : Quoting STRING_DOUBLE_VERBATIM
  single_verbatim : Quoting STRING_SINGLE_VERBATIM
  block : Quoting STRING_BLOCK

pub data Quotes (k : ℕ) : Bool → Type 0 where
  quotes : Quoting k → Quotes k true
  none : (Quoting k → ⊥) → Quotes k false

-- A kind that no phrase of several lexemes begins with, among those of expr_basic.
abbrev pub Atom : ℕ → Type 0
Atom k =
    (k ≡ L_PAREN → ⊥) × (k ≡ L_BRACK → ⊥) × (k ≡ L_BRACE → ⊥) × (k ≡ LOCAL_KW → ⊥) × (k ≡ IF_KW → ⊥) × (k ≡ FUNCTION_KW → ⊥) × (k ≡ ASSERT_KW → ⊥)
    × (k ≡ ERROR_KW → ⊥) × (k ≡ IMPORTSTR_KW → ⊥) × (k ≡ IMPORTBIN_KW → ⊥) × (k ≡ IMPORT_KW → ⊥)

-- The kinds of imports and their bytes.
pub data Imports : ℕ → ℕ → Type 0 where
  normal : Imports IMPORT_KW 0
  string : Imports IMPORTSTR_KW 1
  binary : Imports IMPORTBIN_KW 2

-- After one `:`, so many more, at most two, up to the second cursor.
pub data Colons (s : List ℕ) (c : Cursor) : ℕ → Cursor → Type 0 where
  none_more : (c.kind ≡ COLON → ⊥) → Colons s c 0 c
  one_more : {c₁ : Cursor} → c.kind ≡ COLON → Moved s c c₁ → (c₁.kind ≡ COLON → ⊥) → Colons s c 1 c₁
  two_more : {c₁ c₂ : Cursor} → c.kind ≡ COLON → Moved s c c₁ → c₁.kind ≡ COLON → Moved s c₁ c₂ → Colons s c 2 c₂

-- Past a comma, if one stands here.
pub data Past (s : List ℕ) (c c₁ : Cursor) : Type 0 where
  past : c.kind ≡ COMMA → Moved s c c₁ → Past s c c₁
  same : (c.kind ≡ COMMA → ⊥) → c₁ ≡ c → Past s c c₁
