-- Writing lexemes: stretches of worded lexemes before whatever follows, and the kinds before which phrases are over.
-- Assumes nothing.
use mathlib.Core.Bool.{Bool, false, not, ◌||◌}
use mathlib.Core.List.{List, [], ◌∷◌}
use Prim.Native.Nat.{ℕ}
use lib.Dec.{T, T_not, eqb, eqb_refl}
use Rattle.strings.specs.Utf8.{Utf8}
use Rattle.lexemes.specs.Kinds.{EOF, OR, NULL_COAELSE, AND, BIT_OR, BIT_XOR, BIT_AND, EQ, NE, LT, GT, LE, GE, LHS, RHS, PLUS, MINUS, MUL, DIV, MODULO}
use Rattle.lexemes.specs.Kinds.{L_BRACK, R_BRACK, L_PAREN, R_PAREN, L_BRACE, R_BRACE, COLON, SEMI, DOT, COMMA, ASSIGN, QUESTION_MARK, FLOAT, IDENT}
use Rattle.lexemes.specs.Kinds.{STRING_DOUBLE, IF_KW, THEN_KW, ELSE_KW, IN_KW, FOR_KW}
use Rattle.grammar.specs.Lexemes.{says, nothing, Lexeme}
use Rattle.grammar.specs.Words.{NameText, NumberText, Possible, Worded}
use Rattle.grammar.specs.Spells.{Quoted, Binary, Open, Continues, greedily}
use Rattle.grammar.proofs.Possible.{wordless, silent}

-- ── Stretches ─────────────────────────────────────────────────────────────────────────────────────

-- Lexemes before whatever follows: what they say is possible.
pub record Stretch : Type 0 where
  pub before : List Lexeme → List Lexeme
  pub worded : (ys : List Lexeme) → Worded ys → Worded (before ys)

infixr 45 ◌⟫◌
-- One after the other; none.
abbrev pub ◌⟫◌ : Stretch → Stretch → Stretch
◌⟫◌ a b = record { before = λ ys. a.before (b.before ys); worded = λ ys w. a.worded (b.before ys) (b.worded ys w) }

abbrev pub empty : Stretch
empty = record { before = λ ys. ys; worded = λ ys w. w }

-- A lexeme that says nothing.
abbrev pub token : ℕ → Lexeme
token k = record { kind = k; start = 0; stop = 0; word = nothing }

abbrev pub tok : (k : ℕ) → T (wordless k) → Stretch
tok k h = record { before = λ ys. token k ∷ ys; worded = λ ys w. Worded.more (silent k h) w }

-- A name, a number, a string.
abbrev pub speaking : ℕ → List ℕ → Lexeme
speaking k w = record { kind = k; start = 0; stop = 0; word = says w }

abbrev pub named : (w : List ℕ) → NameText w → Stretch
named w h = record { before = λ ys. speaking IDENT w ∷ ys; worded = λ ys x. Worded.more (Possible.name h) x }

abbrev pub numbered : (w : List ℕ) → NumberText w → Stretch
numbered w h = record { before = λ ys. speaking FLOAT w ∷ ys; worded = λ ys x. Worded.more (Possible.numeral h) x }

abbrev pub quoted : (w : List ℕ) → Utf8 w → Stretch
quoted w h = record { before = λ ys. speaking STRING_DOUBLE w ∷ ys; worded = λ ys x. Worded.more (Possible.string Quoted.double h) x }

-- ── Where phrases are over ────────────────────────────────────────────────────────────────────────

abbrev pub among : ℕ → List ℕ → Bool
among k [] = false
among k (j ∷ js) = eqb k j || among k js

abbrev pub suffixing : ℕ → Bool
suffixing k = among k (DOT ∷ L_BRACK ∷ L_PAREN ∷ L_BRACE ∷ QUESTION_MARK ∷ [])

abbrev pub operating : ℕ → Bool
operating k =
    among k
    (OR ∷ NULL_COAELSE ∷ AND ∷ BIT_OR ∷ BIT_XOR ∷ BIT_AND ∷ EQ ∷ NE ∷ LT ∷ GT ∷ LE ∷ GE ∷ IN_KW ∷ LHS ∷ RHS ∷ PLUS ∷ MINUS ∷ MUL ∷ DIV ∷ MODULO ∷ [])

binary_operating : {s k l o : ℕ} → Binary s k l o → T (operating k)
binary_operating Binary.or = tt
binary_operating (Binary.coalesce h) = tt
binary_operating Binary.and = tt
binary_operating Binary.bit_or = tt
binary_operating Binary.bit_xor = tt
binary_operating Binary.bit_and = tt
binary_operating Binary.eq = tt
binary_operating Binary.ne = tt
binary_operating Binary.lt = tt
binary_operating Binary.gt = tt
binary_operating Binary.le = tt
binary_operating Binary.ge = tt
binary_operating Binary.in_object = tt
binary_operating Binary.lhs = tt
binary_operating Binary.rhs = tt
binary_operating Binary.plus = tt
binary_operating Binary.minus = tt
binary_operating Binary.mul = tt
binary_operating Binary.div = tt
binary_operating Binary.modulo = tt

module _ {s : ℕ} where
  pub no_suffix : (k : ℕ) → T (not (suffixing k)) → greedily s Open.suffixes k
  no_suffix k h c = T_not (suffixing k) h (by c)
    where
      by : {k : ℕ} → Continues s Open.suffixes k → T (suffixing k)
      by Continues.dot = tt
      by Continues.bracket = tt
      by Continues.paren = tt
      by Continues.brace = tt
      by (Continues.question h) = tt

  pub no_operator : (k m : ℕ) → T (not (operating k)) → greedily s (Open.operations m) k
  no_operator k m h c = T_not (operating k) h (by c)
    where
      by : {k : ℕ} → Continues s (Open.operations m) k → T (operating k)
      by (Continues.operator b le) = binary_operating b

  pub no_option : (j k : ℕ) → T (not (eqb k j)) → greedily s (Open.optional j) k
  no_option j k h c = T_not (eqb k j) h (by c)
    where
      by : {k : ℕ} → Continues s (Open.optional j) k → T (eqb k j)
      by Continues.option = eqb_refl j

-- Before a lexeme of kind k an operand with its suffixes is over, and so is an operation of any level.
pub record Closes (s k : ℕ) : Type 0 where
  pub suffix : greedily s Open.suffixes k
  pub operator : (m : ℕ) → greedily s (Open.operations m) k

-- So is what may have a message, a pattern or a default.
pub record Over (s k : ℕ) : Type 0 where
  pub closes : Closes s k
  pub colon : greedily s (Open.optional COLON) k
  pub assign : greedily s (Open.optional ASSIGN) k

module _ {s : ℕ} where
  pub closing : (k : ℕ) → T (not (suffixing k)) → T (not (operating k)) → Closes s k
  closing k a b = record { suffix = no_suffix k a; operator = λ m. no_operator k m b }

  over : (k : ℕ) → T (not (suffixing k)) → T (not (operating k)) → T (not (eqb k COLON)) → T (not (eqb k ASSIGN)) → Over s k
  over k a b c d = record { closes = closing k a b; colon = no_option COLON k c; assign = no_option ASSIGN k d }

  pub at_paren : Closes s R_PAREN
  at_paren = closing R_PAREN tt tt

  pub at_bracket : Closes s R_BRACK
  at_bracket = closing R_BRACK tt tt

  pub at_comma : Closes s COMMA
  at_comma = closing COMMA tt tt

  pub at_colon : Closes s COLON
  at_colon = closing COLON tt tt

  pub at_then : Closes s THEN_KW
  at_then = closing THEN_KW tt tt

  pub at_else : Closes s ELSE_KW
  at_else = closing ELSE_KW tt tt

  pub at_end : Closes s EOF
  at_end = closing EOF tt tt

  pub at_for : Closes s FOR_KW
  at_for = closing FOR_KW tt tt

  pub over_comma : Over s COMMA
  over_comma = over COMMA tt tt tt tt

  pub over_semi : Over s SEMI
  over_semi = over SEMI tt tt tt tt

  pub over_bracket : Over s R_BRACK
  over_bracket = over R_BRACK tt tt tt tt

  pub over_brace : Over s R_BRACE
  over_brace = over R_BRACE tt tt tt tt

  pub over_for : Over s FOR_KW
  over_for = over FOR_KW tt tt tt tt

  pub over_if : Over s IF_KW
  over_if = over IF_KW tt tt tt tt
