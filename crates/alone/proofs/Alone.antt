-- Lexed alone: what stands in a source as a lexeme is that lexeme, whatever follows, as long as the next byte is not one that could go on with it. A
-- law for each kind of lexeme.
-- Bytes w stand in s from at up to e: `Spells s w at e`.
-- Assumes nothing.
use mathlib.Core.Path.{◌≡◌, refl, sym, ap, subst, ◌∙◌}
use mathlib.Core.List.{List, [], ◌∷◌, ◌++◌}
use mathlib.Core.Logic.{inl, inr}
use Prim.Native.Nat.{ℕ, zero, suc, ◌+◌, ◌-◌, ◌≤◌, ◌<◌}
use native.Mathlib.Omega.{arith}
use native.Mathlib.Nat.{add-zero}
use borrow.Author.Tests.{ne_eqb}
use lib.Dec.{T, eqb, eqb→eq, leb, leb→le}
use lib.ListN.{length, get_or}
use Rattle.regexes.specs.Regex.{in_class}
use Rattle.regexes.proofs.Bools.{and_left, and_right, implies, implied}
use Rattle.lexemes.specs.Kinds.{IDENT, L_PAREN, R_PAREN, L_BRACK, R_BRACK, L_BRACE, R_BRACE, COLON, SEMI, COMMA, DOLLAR, PLUS, MINUS, BIT_NOT}
use Rattle.lexemes.specs.Kinds.{MUL, MODULO, LT, GT, BIT_AND, BIT_OR, BIT_XOR, NOT, ASSIGN, QUESTION_MARK, OR, NULL_COAELSE, AND, EQ, NE, LE, GE, LHS, RHS}
use Rattle.lexemes.specs.Rules.{alpha, alnum}
use Rattle.lexemes.specs.Scan.{class_of, ascii_class, Ran, InWord, single, pair, Alone}
use Rattle.lexemes.specs.Texts.{All, Identifier, keywords, Among}
use Rattle.lexemes.specs.Words.{Spells, word_text, word_kind}
use Rattle.lexemes.specs.Lexeme.{Ruled}
use Rattle.lexemes.proofs.Classes.{between}
use Rattle.lexemes.proofs.Operations.{flat, alone_scanned, two_bytes}
use Rattle.lexemes.proofs.Keywords.{spells_from, spells_to, spells_same, word_scanned, keyword_least}
use Rattle.lexemes.proofs.TextLaws.{keyword_among}

-- Every number of s is a byte.
abbrev pub Bytes : List ℕ → Type 0
Bytes s = (k : ℕ) → get_or s k 0 < 256

-- What stands somewhere stands there in two parts.
pub split : (s u v : List ℕ) (i j : ℕ) → Spells s (u ++ v) i j → (m : ℕ) × Spells s u i m × Spells s v m j
unfolding Spells
split s [] v i j p = (i, refl, p)
split s (b ∷ u) v i j p = let r = split s u v (i + 1) j p.1 in (r.0, (p.0, r.1), r.2)

-- ── Classes of bytes ──────────────────────────────────────────────────────────────────────────────

alpha-first : T (implies 256 (in_class alpha) (λ b. eqb (class_of b) 1))
unfolding implies class_of ascii_class
alpha-first = tt

alnum-word : T (implies 256 (in_class alnum) (between 1 3))
unfolding implies class_of ascii_class
alnum-word = tt

letter_class : (b : ℕ) → b < 256 → T (in_class alpha b) → class_of b ≡ 1
letter_class b h t = eqb→eq (class_of b) 1 (implied 256 (in_class alpha) (λ b. eqb (class_of b) 1) alpha-first b h t)

word_class : (b : ℕ) → b < 256 → T (in_class alnum b) → InWord b
word_class b h t =
    let m = implied 256 (in_class alnum) (between 1 3) alnum-word b h t in
    (leb→le 1 (class_of b) (and_left (leb 1 (class_of b)) (leb (class_of b) 3) m), leb→le (class_of b) 3 (and_right (leb 1 (class_of b)) (leb (class_of b) 3) m))

-- ── Names ─────────────────────────────────────────────────────────────────────────────────────────

keyword_text : (v : ℕ) → v < 18 → Among (word_text v) keywords
keyword_text v h =
    keyword_among (word_text v) (inl (v, h, refl, spells_from (word_text v) (word_text v) 0 (length (word_text v)) (omega arith) (λ k g. ap (λ (x : ℕ). get_or (word_text v) x 0) (omega arith))))
    (λ e. omega (arith, e, keyword_least v h))

-- The letters of an identifier.
letters_of : (w : List ℕ) → Identifier w → (1 ≤ length w) × T (in_class alpha (get_or w 0 0)) × ((k : ℕ) → 1 ≤ k → k < length w → T (in_class alnum (get_or w k 0)))
letters_of [] i = absurd i
letters_of (b ∷ bs) i = (omega arith, i.0, later)
  where
    among : (cs : List ℕ) → All (in_class alnum) cs → (k : ℕ) → k < length cs → T (in_class alnum (get_or cs k 0))
    among [] a k h = absurd (omega arith)
    among (c ∷ cs) a zero h = a.0
    among (c ∷ cs) a (suc k) h = among cs a.1 k (omega arith)

    later : (k : ℕ) → 1 ≤ k → k < suc (length bs) → T (in_class alnum (get_or (b ∷ bs) k 0))
    later zero g h = absurd (omega arith)
    later (suc k) g h = among bs i.1 k (omega arith)

module _ (s w : List ℕ) (at e : ℕ) (bytes : Bytes s) (there : Spells s w at e) (word : Identifier w) (inside : e ≤ length s) where
  same : (k : ℕ) → k < length w → get_or s (at + k) 0 ≡ get_or w k 0
  same = (spells_to s w at e there).1

  size : e ≡ at + length w
  size = (spells_to s w at e there).0

  some : 1 ≤ length w
  some = (letters_of w word).0

  first : class_of (get_or s at 0) ≡ 1
  first =
      let q : get_or s at 0 ≡ get_or w 0 0 = subst (λ (x : ℕ). get_or s x 0 ≡ get_or w 0 0) (add-zero at) (same 0 (omega (arith, some))) in
      letter_class (get_or s at 0) (bytes at) (subst (λ (b : ℕ). T (in_class alpha b)) (sym q) (letters_of w word).1)

  later : (k : ℕ) → at + 1 ≤ k → k < e → (1 ≤ class_of (get_or s k 0)) × (class_of (get_or s k 0) ≤ 3)
  later k g h =
      let q : get_or s k 0 ≡ get_or w (k - at) 0 = subst (λ (x : ℕ). get_or s x 0 ≡ get_or w (k - at) 0) (omega arith) (same (k - at) (omega (arith, size))) in
      word_class (get_or s k 0) (bytes k) (subst (λ (b : ℕ). T (in_class alnum b)) (sym q) ((letters_of w word).2 (k - at) (omega arith) (omega (arith, size))))

  ran : (InWord (get_or s e 0) → ⊥) → Ran s (at + 1) 1 3 e
  ran over = record { start = omega (arith, size, some); end = inside; each = later; over = λ p q. over (p, q) }

  -- A name is an identifier, where no word goes on with the next byte; the keyword v is itself.
  pub name_alone : (Among w keywords → ⊥) → (InWord (get_or s e 0) → ⊥) → Ruled s at IDENT e
  name_alone none over =
      word_scanned s at e first (ran over)
      (inr (refl, λ v h m. none (subst (λ (u : List ℕ). Among u keywords) (sym (spells_same s w (word_text v) at e there m)) (keyword_text v h))))

  pub keyword_alone : (v : ℕ) → v < 18 → w ≡ word_text v → (InWord (get_or s e 0) → ⊥) → Ruled s at (get_or word_kind v 0) e
  keyword_alone v h q over = word_scanned s at e first (ran over) (inl (v, h, refl, subst (λ (u : List ℕ). Spells s u at e) q there))

-- ── Marks ─────────────────────────────────────────────────────────────────────────────────────────

-- A mark of one byte that no pair begins with is a lexeme whatever follows.
pub data Mark : ℕ → ℕ → Type 0 where
  l_paren : Mark 40 L_PAREN
  r_paren : Mark 41 R_PAREN
  l_brack : Mark 91 L_BRACK
  r_brack : Mark 93 R_BRACK
  l_brace : Mark 123 L_BRACE
  r_brace : Mark 125 R_BRACE
  colon : Mark 58 COLON
  semi : Mark 59 SEMI
  comma : Mark 44 COMMA
  dollar : Mark 36 DOLLAR
  plus : Mark 43 PLUS
  minus : Mark 45 MINUS
  tilde : Mark 126 BIT_NOT

mark_sole : {b k : ℕ} → Mark b k → (c : ℕ) → Alone b c k
unfolding class_of ascii_class single pair
mark_sole l_paren c = record { class = refl; kind = refl; no_pair = flat (eqb c 61) (eqb 40 c); no_dots = λ e f. omega (arith, e) }
mark_sole r_paren c = record { class = refl; kind = refl; no_pair = flat (eqb c 61) (eqb 41 c); no_dots = λ e f. omega (arith, e) }
mark_sole l_brack c = record { class = refl; kind = refl; no_pair = flat (eqb c 61) (eqb 91 c); no_dots = λ e f. omega (arith, e) }
mark_sole r_brack c = record { class = refl; kind = refl; no_pair = flat (eqb c 61) (eqb 93 c); no_dots = λ e f. omega (arith, e) }
mark_sole l_brace c = record { class = refl; kind = refl; no_pair = flat (eqb c 61) (eqb 123 c); no_dots = λ e f. omega (arith, e) }
mark_sole r_brace c = record { class = refl; kind = refl; no_pair = flat (eqb c 61) (eqb 125 c); no_dots = λ e f. omega (arith, e) }
mark_sole colon c = record { class = refl; kind = refl; no_pair = flat (eqb c 61) (eqb 58 c); no_dots = λ e f. omega (arith, e) }
mark_sole semi c = record { class = refl; kind = refl; no_pair = flat (eqb c 61) (eqb 59 c); no_dots = λ e f. omega (arith, e) }
mark_sole comma c = record { class = refl; kind = refl; no_pair = flat (eqb c 61) (eqb 44 c); no_dots = λ e f. omega (arith, e) }
mark_sole dollar c = record { class = refl; kind = refl; no_pair = flat (eqb c 61) (eqb 36 c); no_dots = λ e f. omega (arith, e) }
mark_sole plus c = record { class = refl; kind = refl; no_pair = flat (eqb c 61) (eqb 43 c); no_dots = λ e f. omega (arith, e) }
mark_sole minus c = record { class = refl; kind = refl; no_pair = flat (eqb c 61) (eqb 45 c); no_dots = λ e f. omega (arith, e) }
mark_sole tilde c = record { class = refl; kind = refl; no_pair = flat (eqb c 61) (eqb 126 c); no_dots = λ e f. omega (arith, e) }

pub mark_alone : (s : List ℕ) (at : ℕ) {b k : ℕ} → get_or s at 0 ≡ b → Mark b k → Ruled s at k (at + 1)
mark_alone s at {k = k} e m = alone_scanned s at (subst (λ (x : ℕ). Alone x (get_or s (at + 1) 0) k) (sym e) (mark_sole m (get_or s (at + 1) 0)))

-- ── Operators ─────────────────────────────────────────────────────────────────────────────────────

-- An operator of one byte is a lexeme where neither `=` nor the same byte follows.
pub data Operator : ℕ → ℕ → Type 0 where
  mul : Operator 42 MUL
  modulo : Operator 37 MODULO
  lt : Operator 60 LT
  gt : Operator 62 GT
  bit_and : Operator 38 BIT_AND
  bit_or : Operator 124 BIT_OR
  bit_xor : Operator 94 BIT_XOR
  not : Operator 33 NOT
  assign : Operator 61 ASSIGN
  question : Operator 63 QUESTION_MARK

pub record Single (b k : ℕ) : Type 0 where
  pub class : class_of b ≡ 10
  pub kind : k ≡ single b
  pub no_dot : b ≡ 46 → ⊥

operator_single : {b k : ℕ} → Operator b k → Single b k
unfolding class_of ascii_class single
operator_single mul = record { class = refl; kind = refl; no_dot = λ e. omega (arith, e) }
operator_single modulo = record { class = refl; kind = refl; no_dot = λ e. omega (arith, e) }
operator_single lt = record { class = refl; kind = refl; no_dot = λ e. omega (arith, e) }
operator_single gt = record { class = refl; kind = refl; no_dot = λ e. omega (arith, e) }
operator_single bit_and = record { class = refl; kind = refl; no_dot = λ e. omega (arith, e) }
operator_single bit_or = record { class = refl; kind = refl; no_dot = λ e. omega (arith, e) }
operator_single bit_xor = record { class = refl; kind = refl; no_dot = λ e. omega (arith, e) }
operator_single not = record { class = refl; kind = refl; no_dot = λ e. omega (arith, e) }
operator_single assign = record { class = refl; kind = refl; no_dot = λ e. omega (arith, e) }
operator_single question = record { class = refl; kind = refl; no_dot = λ e. omega (arith, e) }

pub no_pair_with : (b c : ℕ) → (c ≡ 61 → ⊥) → (b ≡ c → ⊥) → pair b c ≡ 0
unfolding pair
no_pair_with b c n m = simp (ne_eqb c 61 n, ne_eqb b c m) refl

pub operator_alone : (s : List ℕ) (at : ℕ) {b k : ℕ} → get_or s at 0 ≡ b → Operator b k → (get_or s (at + 1) 0 ≡ 61 → ⊥) → (b ≡ get_or s (at + 1) 0 → ⊥) → Ruled s at k (at + 1)
operator_alone s at {b} {k} e o n m =
    let x = operator_single o in
    alone_scanned s at (subst (λ (y : ℕ). Alone y (get_or s (at + 1) 0) k) (sym e)
    record { class = x.class; kind = x.kind; no_pair = no_pair_with b (get_or s (at + 1) 0) n m; no_dots = λ p q. x.no_dot p })

-- One of two bytes whatever follows; but for `||`, where no third may.
pub data Pair : ℕ → ℕ → ℕ → Type 0 where
  eq : Pair 61 61 EQ
  ne : Pair 33 61 NE
  le : Pair 60 61 LE
  ge : Pair 62 61 GE
  or : Pair 124 124 OR
  coalesce : Pair 63 63 NULL_COAELSE
  and : Pair 38 38 AND
  lhs : Pair 60 60 LHS
  rhs : Pair 62 62 RHS

pub record Double (b c k : ℕ) : Type 0 where
  pub class : class_of b ≡ 10
  pub kind : k ≡ pair b c
  pub no_dot : b ≡ 46 → ⊥
  pub some : k ≡ 0 → ⊥

pair_double : {b c k : ℕ} → Pair b c k → Double b c k
unfolding class_of ascii_class pair
pair_double eq = record { class = refl; kind = refl; no_dot = λ e. omega (arith, e); some = λ e. omega (arith, e) }
pair_double ne = record { class = refl; kind = refl; no_dot = λ e. omega (arith, e); some = λ e. omega (arith, e) }
pair_double le = record { class = refl; kind = refl; no_dot = λ e. omega (arith, e); some = λ e. omega (arith, e) }
pair_double ge = record { class = refl; kind = refl; no_dot = λ e. omega (arith, e); some = λ e. omega (arith, e) }
pair_double or = record { class = refl; kind = refl; no_dot = λ e. omega (arith, e); some = λ e. omega (arith, e) }
pair_double coalesce = record { class = refl; kind = refl; no_dot = λ e. omega (arith, e); some = λ e. omega (arith, e) }
pair_double and = record { class = refl; kind = refl; no_dot = λ e. omega (arith, e); some = λ e. omega (arith, e) }
pair_double lhs = record { class = refl; kind = refl; no_dot = λ e. omega (arith, e); some = λ e. omega (arith, e) }
pair_double rhs = record { class = refl; kind = refl; no_dot = λ e. omega (arith, e); some = λ e. omega (arith, e) }

pub pair_alone : (s : List ℕ) (at : ℕ) {b c k : ℕ} → get_or s at 0 ≡ b → get_or s (at + 1) 0 ≡ c → Pair b c k → (get_or s (at + 2) 0 ≡ 124 → ⊥) → Ruled s at k (at + 2)
pair_alone s at {b} {c} {k} e f p n =
    let x = pair_double p in
    two_bytes s at (ap class_of e ∙ x.class) (λ q. x.no_dot (sym e ∙ q)) (x.kind ∙ ap (pair b) (sym f) ∙ ap (λ (y : ℕ). pair y (get_or s (at + 1) 0)) (sym e)) x.some (λ q. n)
