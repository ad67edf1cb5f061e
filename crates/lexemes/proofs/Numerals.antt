-- Numbers: the tables of rules on the way through one, and how far a scan has come.
-- Assumes nothing.
use mathlib.Core.Path.{◌≡◌, refl, sym, ◌∙◌, ap, subst}
use mathlib.Core.Bool.{Bool, true, false, not, ◌&&◌}
use mathlib.Core.List.{List, [], ◌∷◌}
use mathlib.Core.Logic.{◌⊎◌, inl, inr, ⊎_elim}
use Prim.Native.Nat.{ℕ, zero, suc, ◌+◌, ◌-◌, ◌≤◌, ◌<◌}
use native.Mathlib.Omega.{arith}
use native.Mathlib.Decide.{ℕ_discrete}
use lib.Dec.{T, ltb, lt→ltb, eqb, eqb→eq}
use lib.ListN.{length, get_or}
use Rattle.std.proofs.Common.{Option, Some, None}
use Rattle.std.specs.Option.{unwrap_or}
use Rattle.regexes.specs.Regex.{END, Rule, within, ◌to◌}
use Rattle.regexes.proofs.Bools.{and}
use Rattle.regexes.proofs.Tables.{left, steps, gives, silent}
use Rattle.lexemes.specs.declared.Matched.{Matched}
use Rattle.lexemes.specs.Kinds.{FLOAT, ERROR_FLOAT_JUNK_AFTER_POINT, ERROR_FLOAT_JUNK_AFTER_EXPONENT, ERROR_FLOAT_JUNK_AFTER_EXPONENT_SIGN}
use Rattle.lexemes.specs.Letters.{letter, next}
use Rattle.lexemes.specs.Rules.{rules}
use Rattle.lexemes.specs.Lexeme.{Ruled, longest}
use Rattle.lexemes.specs.Scan.{Ran, Best, Never, Tried, IsDigit, Hops, here, digit_on, group_on, Digits, after_point, after_e, after_sign, IsE, ExponentAt, FractionAt, Says}
use Rattle.lexemes.proofs.Letters.{inside_letter, letter_inside}
use Rattle.lexemes.proofs.Spaces.{within_to}
use Rattle.lexemes.proofs.Moves.{Sees, low, not_in, NotAll, byte, none, end, go, stop, stop_before, fail_before, never}
use Rattle.lexemes.proofs.Classes.{covers, classed, unclassed}
use Rattle.lexemes.proofs.Quotes.{done, ended}

abbrev digits : ℕ → Bool
digits l = within (48 to 57 ∷ []) l

digit_classes : T (covers 2 3 digits)
unfolding covers
digit_classes = tt

-- A letter that is neither a digit nor `_` nor one of xs; a character that is no digit and none of xs; one of xs.
abbrev strange : List ℕ → ℕ → Bool
strange xs l = not (digits l) && not_in (95 ∷ xs) l

abbrev junk : List ℕ → ℕ → Bool
junk xs l = ltb l END && (not (digits l) && not_in xs l)

abbrev one_of : List ℕ → ℕ → Bool
one_of xs l = not (not_in xs l)

-- The tables after the digit 0 of a whole part, and after digits of a whole part, of a fraction, of an exponent.
abbrev zeroed : List Rule
zeroed = left 48 rules

abbrev wholes : List Rule
wholes = left 49 rules

abbrev fractions : List Rule
fractions = left 48 after_point

abbrev exponents : List Rule
exponents = left 48 after_e

-- What a test says.
pub said : {A : Type 0} {b : Bool} → b ≡ true → Says b A → A
said {A} e x = subst (λ (t : Bool). Says t A) e x

pub denied : {A : Type 0} {b : Bool} → b ≡ false → Says b A → A → ⊥
denied {A} e x = subst (λ (t : Bool). Says t A) e x

module _ {s : List ℕ} where
  -- What stands at a place: a digit, none; a character that is junk; an `e`, a sign.
  pub digit_at : {i : ℕ} → IsDigit (get_or s i 0) → Sees s i digits (i + 1)
  digit_at {i} d = classed s 2 3 digits (omega arith) digit_classes i d.0 d.1

  no_digit_at : (i : ℕ) → (IsDigit (get_or s i 0) → ⊥) → Sees s i (λ l. not (digits l)) (next s i)
  no_digit_at i n = unclassed s 2 3 digits (omega arith) digit_classes i (λ p q. n (p, q))

  strange_at : (i : ℕ) (xs : List ℕ) → T (low (95 ∷ xs)) → (IsDigit (get_or s i 0) → ⊥) → NotAll (95 ∷ xs) (get_or s i 0) → Sees s i (strange xs) (next s i)
  strange_at i xs t n m =
      record { passes = and (not (digits (letter s i))) (not_in (95 ∷ xs) (letter s i)) (no_digit_at i n).passes (none s i (95 ∷ xs) t m).passes; after = refl }

  junk_at : (i : ℕ) (xs : List ℕ) → T (low xs) → i < length s → (IsDigit (get_or s i 0) → ⊥) → NotAll xs (get_or s i 0) → Sees s i (junk xs) (next s i)
  junk_at i xs t h n m =
      record {
        passes = and (ltb (letter s i) END) (not (digits (letter s i)) && not_in xs (letter s i)) (lt→ltb (letter s i) END (inside_letter s i h))
            (and (not (digits (letter s i))) (not_in xs (letter s i)) (no_digit_at i n).passes (none s i xs t m).passes);
        after = refl;
      }

pub digit_inside : (s : List ℕ) (i : ℕ) → IsDigit (get_or s i 0) → i < length s
digit_inside s i d = letter_inside s i (by (letter s i) (digit_at d).passes)
  where
    by : (l : ℕ) → T (digits l) → l < END
    by l t = ⊎_elim (λ x. omega (arith, x.1)) (λ x. absurd x) (within_to (48 to 57 ∷ []) l t)

-- How digits go on in the table S, which is S' after a `_`; xs are the other bytes that go on.
record InDigits (S S' : List Rule) (xs : List ℕ) : Type 0 where
  goes : T (steps S digits S)
  group : T (steps S (eqb 95) S')
  group_goes : T (steps S' digits S)
  group_none : T (steps S' (λ l. not (digits l)) [])
  ends : T (steps S (strange xs) [])
  low_xs : T (low (95 ∷ xs))
  gives_S : T (gives S FLOAT)
  silent_S' : T (silent S')

in_wholes : InDigits wholes (left 95 wholes) (46 ∷ 69 ∷ 101 ∷ [])
unfolding steps gives silent left rules
in_wholes = record { goes = tt; group = tt; group_goes = tt; group_none = tt; ends = tt; low_xs = tt; gives_S = tt; silent_S' = tt }

in_fractions : InDigits fractions (left 95 fractions) (69 ∷ 101 ∷ [])
unfolding steps gives silent left
in_fractions = record { goes = tt; group = tt; group_goes = tt; group_none = tt; ends = tt; low_xs = tt; gives_S = tt; silent_S' = tt }

in_exponents : InDigits exponents (left 95 exponents) []
unfolding steps gives silent left
in_exponents = record { goes = tt; group = tt; group_goes = tt; group_none = tt; ends = tt; low_xs = tt; gives_S = tt; silent_S' = tt }

module _ {s : List ℕ} where
  -- A run of digits.
  run_steps : {f j r : ℕ} → Ran s j 2 3 r → (n i : ℕ) → j ≤ i → i + n ≡ r → Hops s f i → Hops s f r
  run_steps {f} ran zero i a b h = subst (λ (x : ℕ). Hops s f x) (omega arith) h
  run_steps ran (suc n) i a b h = run_steps ran n (i + 1) (omega arith) (omega arith) (digit_on h (ran.each i a (omega arith)) refl)

  pub run_hops : {f j r : ℕ} → Ran s j 2 3 r → Hops s f j → Hops s f r
  run_hops {f} {j} {r} ran h = run_steps ran (r - j) j (omega arith) (omega (arith, ran.start)) h

  module _ {S S' : List Rule} {xs : List ℕ} (F : InDigits S S' xs) where
    digits_on : {f r k e : ℕ} → Hops s f r → Best s S r k e → Best s S f k e
    digits_on here l = l
    digits_on {k = k} {e = e} (digit_on {j = j} h d q) l =
        digits_on h (go (digit_at d) (subst (λ (x : ℕ). Best s S x k e) q l) F.goes)
    digits_on {k = k} {e = e} (group_on {j = j} h u d q) l =
        digits_on h (go (byte s j 95 tt u) (go (digit_at d) (subst (λ (x : ℕ). Best s S x k e) (omega arith) l) F.group_goes) F.group)

    -- A number ends where no digit, no group and none of xs follows.
    settle : {f p : ℕ} → Digits s f p → NotAll xs (get_or s p 0) → Best s S p FLOAT p
    settle {f} {p} d m = by (ℕ_discrete (get_or s p 0) 95)
      where
        by : Dec (get_or s p 0 ≡ 95) → Best s S p FLOAT p
        by (yes e) = stop_before (byte s p 95 tt e) (never (no_digit_at (p + 1) (d.no_group e)) F.group_none F.silent_S') F.group F.gives_S
        by (no z) = stop (strange_at p xs F.low_xs d.over (z, m)) F.ends F.gives_S

-- After the exponent's sign, after `e`, after the point.
record Trial (S : List Rule) : Type 0 where
  ends : T (steps S (eqb END) [])
  silent_S : T (silent S)

sign_trial : Trial after_sign
unfolding steps silent
sign_trial = record { ends = tt; silent_S = tt }

e_trial : Trial after_e
unfolding steps silent
e_trial = record { ends = tt; silent_S = tt }

point_trial : Trial after_point
unfolding steps silent
point_trial = record { ends = tt; silent_S = tt }

sign-digit : T (steps after_sign digits exponents)
unfolding steps
sign-digit = tt

sign_junk : T (steps after_sign (junk []) (done ERROR_FLOAT_JUNK_AFTER_EXPONENT_SIGN))
unfolding steps
sign_junk = tt

e_digit : T (steps after_e digits exponents)
unfolding steps
e_digit = tt

e_junk : T (steps after_e (junk (43 ∷ 45 ∷ [])) (done ERROR_FLOAT_JUNK_AFTER_EXPONENT))
unfolding steps
e_junk = tt

e_plus : T (steps after_e (eqb 43) after_sign)
unfolding steps
e_plus = tt

e_minus : T (steps after_e (eqb 45) after_sign)
unfolding steps
e_minus = tt

point_digit : T (steps after_point digits fractions)
unfolding steps
point_digit = tt

point_junk : T (steps after_point (junk []) (done ERROR_FLOAT_JUNK_AFTER_POINT))
unfolding steps
point_junk = tt

module _ (s : List ℕ) where
  nothing_at : {S : List Rule} {f : ℕ} → Trial S → length s ≤ f → Never s S f
  nothing_at {S} {f} t h = never (end s f h) t.ends t.silent_S

  exponent-digits : {S : List Rule} {f r : ℕ} → T (steps S digits exponents) → IsDigit (get_or s f 0) → Digits s (f + 1) r → Best s S f FLOAT r
  exponent-digits t d g = go (digit_at d) (digits_on in_exponents g.hops (settle in_exponents g tt)) t

  -- One more character, which is junk.
  junk_taken : {S : List Rule} {f r k : ℕ} (xs : List ℕ) → T (low xs) → f < length s → (IsDigit (get_or s f 0) → ⊥) → NotAll xs (get_or s f 0)
      → T (steps S (junk xs) (done k)) → r ≡ next s f → Best s S f k r
  junk_taken {S} {f} {r} {k} xs t h n m u e =
      subst (λ (x : ℕ). Best s S f k x) (sym e) (go (junk_at f xs t h n m) (ended s k (next s f)) u)

  pub sign_number : {f r : ℕ} → IsDigit (get_or s f 0) → Digits s (f + 1) r → Best s after_sign f FLOAT r
  sign_number d g = exponent-digits sign-digit d g

  pub sign_none : {f : ℕ} → length s ≤ f → Never s after_sign f
  sign_none h = nothing_at sign_trial h

  pub sign-bad : {f r : ℕ} → f < length s → (IsDigit (get_or s f 0) → ⊥) → r ≡ next s f → Best s after_sign f ERROR_FLOAT_JUNK_AFTER_EXPONENT_SIGN r
  sign-bad h n e = junk_taken [] tt h n tt sign_junk e

  pub e_number : {f r : ℕ} → IsDigit (get_or s f 0) → Digits s (f + 1) r → Best s after_e f FLOAT r
  e_number d g = exponent-digits e_digit d g

  pub e_none : {f : ℕ} → length s ≤ f → Never s after_e f
  e_none h = nothing_at e_trial h

  pub e_bad : {f r : ℕ} → f < length s → (IsDigit (get_or s f 0) → ⊥) → NotAll (43 ∷ 45 ∷ []) (get_or s f 0) → r ≡ next s f → Best s after_e f ERROR_FLOAT_JUNK_AFTER_EXPONENT r
  e_bad h n m e = junk_taken (43 ∷ 45 ∷ []) tt h n m e_junk e

  signed : (f b : ℕ) → Sees s f (eqb b) (f + 1) → T (steps after_e (eqb b) after_sign) → (o : Option Matched) → Tried s after_sign (f + 1) o → Tried s after_e f o
  signed f b x t None w = fail_before x w t e_trial.silent_S
  signed f b x t (Some m) w = go x w t

  pub e_sign_on : (f : ℕ) (o : Option Matched) → (get_or s f 0 ≡ 43) ⊎ (get_or s f 0 ≡ 45) → Tried s after_sign (f + 1) o → Tried s after_e f o
  e_sign_on f o (inl h) w = signed f 43 (byte s f 43 tt h) e_plus o w
  e_sign_on f o (inr h) w = signed f 45 (byte s f 45 tt h) e_minus o w

  -- An `e` or `E`.
  e_at : {p : ℕ} → IsE (get_or s p 0) → Sees s p (one_of (101 ∷ 69 ∷ [])) (p + 1)
  e_at {p} (inl h) =
      let x = byte s p 101 tt h in
      record { passes = subst (λ (l : ℕ). T (one_of (101 ∷ 69 ∷ []) l)) (eqb→eq 101 (letter s p) x.passes) tt; after = x.after }
  e_at {p} (inr h) =
      let x = byte s p 69 tt h in
      record { passes = subst (λ (l : ℕ). T (one_of (101 ∷ 69 ∷ []) l)) (eqb→eq 69 (letter s p) x.passes) tt; after = x.after }

  pub exponent_on : {p k e : ℕ} → IsE (get_or s p 0) → Best s after_e (p + 1) k e → ExponentAt s p k e
  exponent_on i w = inl (i, w)

  -- What was tried after `e` is the number, or comes to nothing, and the number ends before it.
  pub exponent_tried :
      {p : ℕ} (o : Option Matched) (whole m : Matched) → IsE (get_or s p 0) → Tried s after_e (p + 1) o → whole.kind ≡ FLOAT → whole.end ≡ p → m ≡ unwrap_or o whole
      → ExponentAt s p m.kind m.end
  exponent_tried None whole m i n k e q = inr (ap (λ (x : Matched). x.kind) q ∙ k, ap (λ (x : Matched). x.end) q ∙ e, λ j. n)
  exponent_tried {p} (Some x) whole m i b k e q = inl (i, subst (λ (y : Matched). Best s after_e (p + 1) y.kind y.end) (sym q) b)

  pub exponent_none : {p : ℕ} → (get_or s p 0 ≡ 101 → ⊥) → (get_or s p 0 ≡ 69 → ⊥) → ExponentAt s p FLOAT p
  exponent_none n m = inr (refl, refl, λ i. absurd (⊎_elim n m i))

  -- A table that goes on by an exponent, or ends.
  record ByE (S : List Rule) : Type 0 where
    e : T (steps S (one_of (101 ∷ 69 ∷ [])) after_e)
    gives_S : T (gives S FLOAT)

  by_exponent : {S : List Rule} {p k e : ℕ} → ByE S → (NotAll (69 ∷ 101 ∷ []) (get_or s p 0) → Best s S p FLOAT p) → ExponentAt s p k e → Best s S p k e
  by_exponent F z (inl w) = go (e_at w.0) w.1 F.e
  by_exponent {S} {p} {k} {e} F z (inr w) =
      subst (λ (x : ℕ). Best s S p x e) (sym w.0) (subst (λ (x : ℕ). Best s S p FLOAT x) (sym w.1) (by (ℕ_discrete (get_or s p 0) 69) (ℕ_discrete (get_or s p 0) 101)))
    where
      stuck : IsE (get_or s p 0) → Best s S p FLOAT p
      stuck i = stop_before (e_at i) (w.2 i) F.e F.gives_S

      by : Dec (get_or s p 0 ≡ 69) → Dec (get_or s p 0 ≡ 101) → Best s S p FLOAT p
      by (yes h) d = stuck (inr h)
      by (no n) (yes h) = stuck (inl h)
      by (no n) (no m) = z (n, (m, tt))

  e_fractions : ByE fractions
  unfolding steps gives left
  e_fractions = record { e = tt; gives_S = tt }

  -- Past the point.
  pub point_number : {p r k e : ℕ} → get_or s p 0 ≡ 46 → IsDigit (get_or s (p + 1) 0) → Digits s (p + 2) r → ExponentAt s r k e → FractionAt s p k e
  point_number {p} {r} {k} {e} h d g x =
      inl (
        h,
        go (digit_at d)
            (subst (λ (y : ℕ). Best s fractions y k e) (omega arith) (digits_on in_fractions g.hops (by_exponent e_fractions (settle in_fractions g) x)))
            point_digit,
      )

  pub point_none : {p : ℕ} → get_or s p 0 ≡ 46 → length s ≤ p + 1 → FractionAt s p FLOAT p
  point_none h l = inr (inl (h, nothing_at point_trial l, refl, refl))

  pub point_bad : {p r : ℕ} → get_or s p 0 ≡ 46 → p + 1 < length s → (IsDigit (get_or s (p + 1) 0) → ⊥) → r ≡ next s (p + 1) → FractionAt s p ERROR_FLOAT_JUNK_AFTER_POINT r
  point_bad h l n e = inl (h, junk_taken [] tt l n tt point_junk e)

  -- A table that goes on by a fraction or an exponent, or ends.
  record ByPoint (S : List Rule) : Type 0 where
    point : T (steps S (eqb 46) after_point)
    exponent : ByE S

  by_fraction : {S : List Rule} {p k e : ℕ} → ByPoint S → (NotAll (46 ∷ 69 ∷ 101 ∷ []) (get_or s p 0) → Best s S p FLOAT p) → FractionAt s p k e → Best s S p k e
  by_fraction {S} {p} F z (inl w) = go (byte s p 46 tt w.0) w.1 F.point
  by_fraction {S} {p} {k} {e} F z (inr (inl w)) =
      subst (λ (x : ℕ). Best s S p x e) (sym w.2) (subst (λ (x : ℕ). Best s S p FLOAT x) (sym w.3) (stop_before (byte s p 46 tt w.0) w.1 F.point F.exponent.gives_S))
  by_fraction F z (inr (inr w)) = by_exponent F.exponent (λ n. z (w.0, n)) w.1

  point_zeroed : ByPoint zeroed
  unfolding steps gives left rules
  point_zeroed = record { point = tt; exponent = record { e = tt; gives_S = tt } }

  point_wholes : ByPoint wholes
  unfolding steps gives left rules
  point_wholes = record { point = tt; exponent = record { e = tt; gives_S = tt } }

  zero_first : T (steps rules (eqb 48) zeroed)
  unfolding steps rules
  zero_first = tt

  zero_ends : T (steps zeroed (not_in (46 ∷ 69 ∷ 101 ∷ [])) [])
  unfolding steps rules
  zero_ends = tt

  whole-first : T (steps rules (λ l. digits l && not_in (48 ∷ []) l) wholes)
  unfolding steps rules
  whole-first = tt

  pub zero_number : {at k e : ℕ} → get_or s at 0 ≡ 48 → FractionAt s (at + 1) k e → Ruled s at k e
  zero_number {at} h x =
      longest
      (go (byte s at 48 tt h)
      (by_fraction point_zeroed (λ n. stop (none s (at + 1) (46 ∷ 69 ∷ 101 ∷ []) tt n) zero_ends point_zeroed.exponent.gives_S) x)
      zero_first)

  pub whole_number : {at r k e : ℕ} → IsDigit (get_or s at 0) → (get_or s at 0 ≡ 48 → ⊥) → Digits s (at + 1) r → FractionAt s r k e → Ruled s at k e
  whole_number {at} d n g x =
      let y = digit_at {s = s} d in
      let z : Sees s at (λ l. digits l && not_in (48 ∷ []) l) (at + 1) =
      record { passes = and (digits (letter s at)) (not_in (48 ∷ []) (letter s at)) y.passes (none s at (48 ∷ []) tt (n, tt)).passes; after = y.after } in
      longest (go z (digits_on in_wholes g.hops (by_fraction point_wholes (settle in_wholes g) x)) whole-first)
