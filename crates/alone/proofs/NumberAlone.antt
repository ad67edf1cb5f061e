-- A numeral is one number, where no digit, `_`, point or exponent follows (R9).
-- Assumes nothing.
use mathlib.Core.Path.{◌≡◌, refl, sym, subst, ◌∙◌}
use mathlib.Core.Bool.{◌||◌}
use mathlib.Core.List.{List, [], ◌∷◌, ◌++◌}
use mathlib.Core.Logic.{◌⊎◌, inl, inr, ⊎_elim}
use Prim.Native.Nat.{ℕ, ◌+◌, ◌≤◌, ◌<◌}
use native.Mathlib.Omega.{arith}
use native.Mathlib.Decide.{ℕ_discrete}
use lib.Dec.{T, eqb, leb, leb→le}
use borrow.Author.Tests.{ne_eqb}
use lib.ListN.{length, get_or}
use Rattle.std.proofs.Common.{Some}
use Rattle.regexes.specs.Regex.{within}
use Rattle.regexes.proofs.Bools.{and_left, and_right, implies, implied}
use Rattle.lexemes.specs.Kinds.{FLOAT}
use Rattle.lexemes.specs.Rules.{◌–◌}
use Rattle.lexemes.specs.Scan.{class_of, ascii_class, IsDigit, IsE, Hops, here, digit_on, Digits, ExponentAt, FractionAt}
use Rattle.lexemes.specs.Texts.{All, is_digit, is_e, is_sign, Whole, Fraction, Exponent, Numeral}
use Rattle.lexemes.specs.Words.{Spells}
use Rattle.lexemes.specs.Lexeme.{Ruled}
use Rattle.lexemes.proofs.Classes.{between, class_digit}
use Rattle.lexemes.proofs.Keywords.{spells_to}
use Rattle.lexemes.proofs.Numerals.{sign_number, e_number, e_sign_on, exponent_on, exponent_none, point_number, zero_number, whole_number}
use Rattle.alone.proofs.Alone.{Bytes, split}

-- ── Bytes ─────────────────────────────────────────────────────────────────────────────────────────

-- No numeral goes on with the byte.
pub record Stops (b : ℕ) : Type 0 where
  pub no_digit : IsDigit b → ⊥
  pub no_group : b ≡ 95 → ⊥
  pub no_point : b ≡ 46 → ⊥
  pub no_e : b ≡ 101 → ⊥
  pub no_E : b ≡ 69 → ⊥

digits-two : T (implies 256 is_digit (between 2 3))
unfolding implies class_of ascii_class
digits-two = tt

is_digit_lem : (b : ℕ) → b < 256 → T (is_digit b) → IsDigit b
is_digit_lem b h t =
    let m = implied 256 is_digit (between 2 3) digits-two b h t in
    (leb→le 2 (class_of b) (and_left (leb 2 (class_of b)) (leb (class_of b) 3) m), leb→le (class_of b) 3 (and_right (leb 2 (class_of b)) (leb (class_of b) 3) m))

-- One of two bytes.
either : (c d b : ℕ) → T (eqb b c || eqb b d) → (b ≡ c) ⊎ (b ≡ d)
either c d b t = by (ℕ_discrete b c) (ℕ_discrete b d)
  where
    by : Dec (b ≡ c) → Dec (b ≡ d) → (b ≡ c) ⊎ (b ≡ d)
    by (yes e) y = inl e
    by (no n) (yes e) = inr e
    by (no n) (no m) = absurd (simp (ne_eqb b c n, ne_eqb b d m) at t)

es_two : T (implies 256 is_e (λ b. eqb b 101 || eqb b 69))
unfolding implies
es_two = tt

is_e_lem : (b : ℕ) → b < 256 → T (is_e b) → IsE b
is_e_lem b h t = either 101 69 b (implied 256 is_e (λ b. eqb b 101 || eqb b 69) es_two b h t)

signs-two : T (implies 256 is_sign (λ b. eqb b 43 || eqb b 45))
unfolding implies
signs-two = tt

is_sign_lem : (b : ℕ) → b < 256 → T (is_sign b) → (b ≡ 43) ⊎ (b ≡ 45)
is_sign_lem b h t = either 43 45 b (implied 256 is_sign (λ b. eqb b 43 || eqb b 45) signs-two b h t)

nine_ten : T (implies 256 (within ("1" – "9" ∷ [])) is_digit)
unfolding implies
nine_ten = tt

module _ (s : List ℕ) (bytes : Bytes s) where
  digit-here : (i : ℕ) (b : ℕ) → get_or s i 0 ≡ b → T (is_digit b) → IsDigit (get_or s i 0)
  digit-here i b e t = is_digit_lem (get_or s i 0) (bytes i) (subst (λ (x : ℕ). T (is_digit x)) (sym e) t)

  -- A digit from 1 to 9.
  nonzero : (i b : ℕ) → get_or s i 0 ≡ b → T (within ("1" – "9" ∷ []) b) → IsDigit (get_or s i 0) × (get_or s i 0 ≡ 48 → ⊥)
  nonzero i b e t =
      let h : b < 256 = omega (arith, bytes i, e) in (
        is_digit_lem (get_or s i 0) (bytes i) (subst (λ (x : ℕ). T (is_digit x)) (sym e) (implied 256 (within ("1" – "9" ∷ [])) is_digit nine_ten b h t)),
        λ z. subst (λ (x : ℕ). T (within ("1" – "9" ∷ []) x)) (sym e ∙ z) t,
      )

  e_first : (i : ℕ) → T (is_e (get_or s i 0)) → (IsDigit (get_or s i 0) → ⊥) × (get_or s i 0 ≡ 95 → ⊥) × (get_or s i 0 ≡ 46 → ⊥)
  e_first i t = ⊎_elim (λ q. far (omega (arith, q), λ y. omega (arith, y, q))) (λ q. far (omega (arith, q), λ y. omega (arith, y, q))) (is_e_lem (get_or s i 0) (bytes i) t)
    where
      far : (58 ≤ get_or s i 0) × (get_or s i 0 ≡ 95 → ⊥) → (IsDigit (get_or s i 0) → ⊥) × (get_or s i 0 ≡ 95 → ⊥) × (get_or s i 0 ≡ 46 → ⊥)
      far q = ((λ y. omega (arith, q.0, (class_digit (get_or s i 0) y.0 y.1).1)), q.1, λ y. omega (arith, y, q.0))

  -- A row of digits, where neither a digit nor `_` follows.
  hops : (f i j : ℕ) (bs : List ℕ) → All is_digit bs → Spells s bs i j → Hops s f i → Hops s f j
  unfolding Spells
  hops f i j [] a w h = subst (Hops s f) w h
  hops f i j (b ∷ bs) a w h = hops f (i + 1) j bs a.1 w.1 (digit_on h (digit-here i b w.0 a.0) refl)

  row : (i j : ℕ) (bs : List ℕ) → All is_digit bs → Spells s bs i j → j ≤ length s → (IsDigit (get_or s j 0) → ⊥) → (get_or s j 0 ≡ 95 → ⊥) → Digits s i j
  row i j bs a w le n m =
      record { start = omega (arith, (spells_to s bs i j w).0); end = le; hops = hops i i j bs a w here; over = n; no_group = λ e d. m e }

  -- ── The parts of a numeral ──────────────────────────────────────────────────────────────────────

  exponent_alone : (p j : ℕ) (es : List ℕ) → Exponent es → Spells s es p j → j ≤ length s → Stops (get_or s j 0) → ExponentAt s p FLOAT j
  unfolding Spells
  exponent_alone p j [] Exponent.none w le t = subst (ExponentAt s p FLOAT) w (exponent_none s (subst (λ (i : ℕ). get_or s i 0 ≡ 101 → ⊥) (sym w) t.no_e) (subst (λ (i : ℕ). get_or s i 0 ≡ 69 → ⊥) (sym w) t.no_E))
  exponent_alone p j _ (Exponent.unsigned {b = b} {bs = bs} e d ds) w le t =
      exponent_on s (is_e_lem (get_or s p 0) (bytes p) (subst (λ (y : ℕ). T (is_e y)) (sym w.0) e))
      (e_number s (digit-here (p + 1) b w.1.0 d) (row (p + 1 + 1) j bs ds w.1.1 le t.no_digit t.no_group))
  exponent_alone p j _ (Exponent.signed {b = b} {bs = bs} e sg d ds) w le t =
      let n = sign_number s (digit-here (p + 1 + 1) b w.1.1.0 d) (row (p + 1 + 1 + 1) j bs ds w.1.1.1 le t.no_digit t.no_group) in
      exponent_on s (is_e_lem (get_or s p 0) (bytes p) (subst (λ (y : ℕ). T (is_e y)) (sym w.0) e))
      (e_sign_on s (p + 1) (Some record { kind = FLOAT; end = j }) (is_sign_lem (get_or s (p + 1) 0) (bytes (p + 1)) (subst (λ (y : ℕ). T (is_sign y)) (sym w.1.0) sg)) n)

  -- What stands first in an exponent, or behind it: neither a digit nor `_`, and no point.
  before-exponent : (p j : ℕ) (es : List ℕ) → Exponent es → Spells s es p j → Stops (get_or s j 0) → (IsDigit (get_or s p 0) → ⊥) × (get_or s p 0 ≡ 95 → ⊥) × (get_or s p 0 ≡ 46 → ⊥)
  unfolding Spells
  before-exponent p j [] Exponent.none w t =
      subst (λ (i : ℕ). (IsDigit (get_or s i 0) → ⊥) × (get_or s i 0 ≡ 95 → ⊥) × (get_or s i 0 ≡ 46 → ⊥)) (sym w) (t.no_digit, t.no_group, t.no_point)
  before-exponent p j _ (Exponent.unsigned e d ds) w t = e_first p (subst (λ (y : ℕ). T (is_e y)) (sym w.0) e)
  before-exponent p j _ (Exponent.signed e sg d ds) w t = e_first p (subst (λ (y : ℕ). T (is_e y)) (sym w.0) e)

  fraction_alone : (p q j : ℕ) (fs es : List ℕ) → Fraction fs → Exponent es → Spells s fs p q → Spells s es q j → j ≤ length s → Stops (get_or s j 0) → FractionAt s p FLOAT j
  unfolding Spells
  fraction_alone p q j [] es Fraction.none x w v le t =
      subst (λ (i : ℕ). FractionAt s i FLOAT j) (sym w) (inr (inr ((before-exponent q j es x v t).2, exponent_alone q j es x v le t)))
  fraction_alone p q j _ es (Fraction.point {b} {bs} d ds) x w v le t =
      let b4 = before-exponent q j es x v t in
      let ds2 : Digits s (p + 2) q = subst (λ (i : ℕ). Digits s i q) (omega arith) (row (p + 1 + 1) q bs ds w.1.1 (omega (arith, le, (spells_to s es q j v).0)) b4.0 b4.1) in
      point_number s w.0 (digit-here (p + 1) b w.1.0 d) ds2 (exponent_alone q j es x v le t)

  -- What stands behind the whole part: neither a digit nor `_`.
  before-fraction : (p q j : ℕ) (fs es : List ℕ) → Fraction fs → Exponent es → Spells s fs p q → Spells s es q j → Stops (get_or s j 0) → (IsDigit (get_or s p 0) → ⊥) × (get_or s p 0 ≡ 95 → ⊥)
  unfolding Spells
  before-fraction p q j [] es Fraction.none x w v t =
      let b4 = before-exponent q j es x v t in
      subst (λ (i : ℕ). (IsDigit (get_or s i 0) → ⊥) × (get_or s i 0 ≡ 95 → ⊥)) (sym w) (b4.0, b4.1)
  before-fraction p q j _ es (Fraction.point d ds) x w v t =
      ((λ y. omega (arith, (class_digit (get_or s p 0) y.0 y.1).0, w.0)), λ y. omega (arith, y, w.0))

  whole_alone : (at p q j : ℕ) (ws fs es : List ℕ) → Whole ws → Fraction fs → Exponent es → Spells s ws at p → Spells s fs p q → Spells s es q j → j ≤ length s → Stops (get_or s j 0) → Ruled s at FLOAT j
  unfolding Spells
  whole_alone at p q j _ fs es Whole.zero f x u w v le t = zero_number s u.0 (subst (λ (i : ℕ). FractionAt s i FLOAT j) (sym u.1) (fraction_alone p q j fs es f x w v le t))
  whole_alone at p q j _ fs es (Whole.digits {b} {bs} d ds) f x u w v le t =
      let r = nonzero at b u.0 d in
      let n = before-fraction p q j fs es f x w v t in
      whole_number s r.0 r.1 (row (at + 1) p bs ds u.1 (omega (arith, le, (spells_to s fs p q w).0, (spells_to s es q j v).0)) n.0 n.1) (fraction_alone p q j fs es f x w v le t)

  -- R9. A numeral without `_`.
  pub number_alone : (at j : ℕ) (n : List ℕ) → Numeral n → Spells s n at j → j ≤ length s → Stops (get_or s j 0) → Ruled s at FLOAT j
  number_alone at j _ (Numeral.numeral {w = ws} {f = fs} {e = es} a f x) u le t =
      let y = split s ws (fs ++ es) at j u in
      let z = split s fs es y.0 j y.2 in
      whole_alone at y.0 z.0 j ws fs es a f x y.1 z.1 z.2 le t
