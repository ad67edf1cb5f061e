-- What begins with `@`: verbatim strings, and junk. The tables of rules on the way, and how far a scan has come.
-- Assumes nothing.
use mathlib.Core.Path.{◌≡◌, refl, sym, ap, subst}
use mathlib.Core.Bool.{Bool, true, false, not, cond, ◌&&◌}
use mathlib.Core.List.{List, [], ◌∷◌}
use mathlib.Core.Logic.{◌⊎◌, inl, inr, ⊎_elim}
use Prim.Native.Nat.{ℕ, ◌+◌, ◌≤◌, ◌<◌}
use native.Mathlib.Omega.{arith}
use lib.Dec.{T, eqb, ltb, ltb→lt}
use lib.ListN.{length, get_or}
use Rattle.regexes.specs.Regex.{END, within, Rule, ◌⇒◌, Re, ◌to◌, but, one, eps, ◌·◌, ◌∣◌, star, in_class}
use Rattle.regexes.proofs.Bools.{and, and_left, is_true, is_false}
use Rattle.regexes.proofs.Tables.{left, steps, gives, silent}
use Rattle.lexemes.specs.Kinds.{LEXING_ERROR, ERROR_STRING_VERBATIM_MISSING_QUOTES}
use Rattle.lexemes.specs.Letters.{WHITE, OTHER, letter, next}
use Rattle.lexemes.specs.Rules.{rules, space}
use Rattle.lexemes.specs.Lexeme.{Ruled, longest, error}
use Rattle.lexemes.specs.Scan.{Best, Never, RawQuote, black, blacks, BlackEnd}
use Rattle.lexemes.proofs.Letters.{up, letter_inside, letter-past}
use Rattle.lexemes.proofs.Moves.{is, Sees, plain, low, other, not_in, byte, char, none, end, go, stop, fail_before, never}

-- (?:[^q]|qq)*
abbrev body : ℕ → Re
body q = star (one (but (q to q ∷ [])) ∣ is q · is q)

-- In a verbatim string, and after a quote in it.
abbrev in_raw : ℕ → ℕ → List Rule
in_raw q g = (g ⇒ body q · is q) ∷ (g + 1 ⇒ body q) ∷ []

abbrev after_quote : ℕ → ℕ → List Rule
after_quote q g = (g ⇒ is q · body q · is q ∣ eps) ∷ (g + 1 ⇒ is q · body q) ∷ []

record Facts (q g : ℕ) : Type 0 where
  plain_q : T (plain q)
  low_q : T (low (q ∷ []))
  opens : T (steps (left 64 rules) (eqb q) (in_raw q g))
  goes : T (steps (in_raw q g) (other (q ∷ [])) (in_raw q g))
  quote : T (steps (in_raw q g) (eqb q) (after_quote q g))
  doubled : T (steps (after_quote q g) (eqb q) (in_raw q g))
  closes : T (steps (after_quote q g) (not_in (q ∷ [])) [])
  ends : T (steps (in_raw q g) (eqb END) [])
  gives_open : T (gives (in_raw q g) (g + 1))
  gives_closed : T (gives (after_quote q g) g)

double : Facts 34 45
unfolding steps gives silent rules
double = record { plain_q = tt; low_q = tt; opens = tt; goes = tt; quote = tt; doubled = tt; closes = tt; ends = tt; gives_open = tt; gives_closed = tt }

single : Facts 39 47
unfolding steps gives silent rules
single = record { plain_q = tt; low_q = tt; opens = tt; goes = tt; quote = tt; doubled = tt; closes = tt; ends = tt; gives_open = tt; gives_closed = tt }

facts : (q g : ℕ) → RawQuote q g → Facts q g
facts q g (inl e) = subst (λ (x : ℕ). Facts x g) (sym e.0) (subst (λ (x : ℕ). Facts 34 x) (sym e.1) double)
facts q g (inr e) = subst (λ (x : ℕ). Facts x g) (sym e.0) (subst (λ (x : ℕ). Facts 39 x) (sym e.1) single)

-- A quote is no 0.
pub raw_plain : (q g : ℕ) → RawQuote q g → 0 < q
raw_plain q g (inl e) = omega (arith, e.0)
raw_plain q g (inr e) = omega (arith, e.0)

at_first : T (steps rules (eqb 64) (left 64 rules))
unfolding steps rules
at_first = tt

-- A longest match in the verbatim string from i on is one from its `@` on.
pub record InRaw (s : List ℕ) (at q g i : ℕ) : Type 0 where
  pub raw : RawQuote q g
  pub on : (k e : ℕ) → Best s (in_raw q g) i k e → Best s rules at k e

module _ {s : List ℕ} {at q g : ℕ} where
  pub raw_opened : RawQuote q g → get_or s at 0 ≡ 64 → get_or s (at + 1) 0 ≡ q → InRaw s at q g (at + 2)
  raw_opened raw h e =
      let F = facts q g raw in
      record {
        raw = raw;
        on = λ k e' l.
            go (byte s at 64 tt h) (go (byte s (at + 1) q F.plain_q e) (subst (λ (x : ℕ). Best s (in_raw q g) x k e') (omega arith) l) F.opens) at_first;
      }

  module _ {i : ℕ} (m : InRaw s at q g i) where
    F : Facts q g
    F = facts q g m.raw

    pub raw_on : {j : ℕ} → i < length s → (get_or s i 0 ≡ q → ⊥) → j ≡ next s i → InRaw s at q g j
    raw_on h n e =
        record {
          raw = m.raw;
          on = λ k e' l. m.on k e' (go (char s i (q ∷ []) F.low_q h (n, tt)) (subst (λ (x : ℕ). Best s (in_raw q g) x k e') e l) F.goes);
        }

    pub raw_doubled : get_or s i 0 ≡ q → get_or s (i + 1) 0 ≡ q → InRaw s at q g (i + 2)
    raw_doubled h e =
        record {
          raw = m.raw;
          on = λ k e' l. m.on k e'
              (go (byte s i q F.plain_q h) (go (byte s (i + 1) q F.plain_q e) (subst (λ (x : ℕ). Best s (in_raw q g) x k e') (omega arith) l) F.doubled) F.quote);
        }

    pub raw_closed : get_or s i 0 ≡ q → (get_or s (i + 1) 0 ≡ q → ⊥) → Ruled s at g (i + 1)
    raw_closed h n =
        longest (m.on g (i + 1) (go (byte s i q F.plain_q h) (stop (none s (i + 1) (q ∷ []) F.low_q (n, tt)) F.closes F.gives_closed) F.quote))

    pub raw_cut : length s ≤ i → Ruled s at (g + 1) i
    raw_cut b = longest (m.on (g + 1) i (stop (end s i b) F.ends F.gives_open))

-- The junk rule.
abbrev black_tail : List Rule
black_tail = left 65 blacks

black_one : T (steps blacks (in_class black) black_tail)
unfolding steps
black_one = tt

black_more : T (steps black_tail (in_class black) black_tail)
unfolding steps
black_more = tt

black_none : T (steps blacks (λ l. not (in_class black l)) [])
unfolding steps
black_none = tt

black_over : T (steps black_tail (λ l. not (in_class black l)) [])
unfolding steps
black_over = tt

gives_tail : T (gives black_tail ERROR_STRING_VERBATIM_MISSING_QUOTES)
unfolding gives left
gives_tail = tt

silent_blacks : T (silent blacks)
unfolding silent
silent_blacks = tt

at_junk : T (steps (left 64 rules) (λ l. in_class black l && not_in (34 ∷ 39 ∷ []) l) blacks)
unfolding steps rules
at_junk = tt

at_none : T (steps (left 64 rules) (λ l. not (in_class black l)) [])
unfolding steps rules
at_none = tt

silent_at : T (silent (left 64 rules))
unfolding silent left rules
silent_at = tt

pub silent_rules : T (silent rules)
unfolding silent rules
silent_rules = tt

-- The run of characters from f on that are no white space, so far.
pub record Blacks (s : List ℕ) (f i : ℕ) : Type 0 where
  pub on : (i ≡ f) ⊎ ((f < i) × ((k e : ℕ) → Best s black_tail i k e → Best s blacks f k e))

module _ (s : List ℕ) (i : ℕ) where
  is_black : in_class black (letter s i) ≡ true → Sees s i (in_class black) (next s i)
  is_black h = record { passes = is_true (in_class black (letter s i)) h; after = refl }

  is_white : in_class black (letter s i) ≡ false → Sees s i (λ l. not (in_class black l)) (next s i)
  is_white h = record { passes = is_false (in_class black (letter s i)) h; after = refl }

module _ {s : List ℕ} {f : ℕ} where
  pub blacks-start : Blacks s f f
  blacks-start = record { on = inl refl }

  module _ {i : ℕ} (m : Blacks s f i) where
    pub blacks_on : {j : ℕ} → in_class black (letter s i) ≡ true → j ≡ next s i → Blacks s f j
    blacks_on {j} h e =
        record {
          on = inr (
            ⊎_elim (λ z. omega (arith, z, up s i)) (λ z. omega (arith, z.0, up s i)) m.on,
            λ k e' l.
                let l' = subst (λ (x : ℕ). Best s black_tail x k e') e l in
                ⊎_elim (λ z. subst (λ (x : ℕ). Best s blacks x k e') z (go (is_black s i h) l' black_one)) (λ z. z.1 k e' (go (is_black s i h) l' black_more)) m.on,
          );
        }

    pub blacks_end : in_class black (letter s i) ≡ false → BlackEnd s f i
    blacks_end h =
        let x = is_white s i h in
        ⊎_elim
        (λ z. inl (z, subst (λ (p : ℕ). Never s blacks p) z (never x black_none silent_blacks)))
        (λ z. inr (z.0, z.1 ERROR_STRING_VERBATIM_MISSING_QUOTES i (stop x black_over gives_tail)))
        m.on

-- What begins with `@` and no quote.
module _ (s : List ℕ) (at : ℕ) (h : get_or s at 0 ≡ 64) where
  bad : Never s (left 64 rules) (at + 1) → Ruled s at LEXING_ERROR (at + 1)
  bad n = let x = byte s at 64 tt h in error (fail_before x n at_first silent_rules) refl x.after

  pub at_white : in_class black (letter s (at + 1)) ≡ false → Ruled s at LEXING_ERROR (at + 1)
  at_white w = bad (never (is_white s (at + 1) w) at_none silent_at)

  module _ {f : ℕ} (n : get_or s (at + 1) 0 ≡ 34 → ⊥) (m : get_or s (at + 1) 0 ≡ 39 → ⊥) (w : in_class black (letter s (at + 1)) ≡ true) (q : f ≡ next s (at + 1)) where
    first : Sees s (at + 1) (λ l. in_class black l && not_in (34 ∷ 39 ∷ []) l) f
    first =
        record {
          passes = and (in_class black (letter s (at + 1))) (not_in (34 ∷ 39 ∷ []) (letter s (at + 1))) (is_black s (at + 1) w).passes (none s (at + 1) (34 ∷ 39 ∷ []) tt (n, (m, tt))).passes;
          after = q;
        }

    -- "the junk rule needs two characters"
    pub at_one : {r : ℕ} → r ≤ f → BlackEnd s f r → Ruled s at LEXING_ERROR (at + 1)
    at_one l (inl z) = bad (fail_before first z.1 at_junk silent_at)
    at_one l (inr z) = absurd (omega (arith, z.0))

    pub at_more : {r : ℕ} → f < r → BlackEnd s f r → Ruled s at ERROR_STRING_VERBATIM_MISSING_QUOTES r
    at_more l (inl z) = absurd (omega (arith, z.0))
    at_more l (inr z) = longest (go (byte s at 64 tt h) (go first z.1 at_junk) at_first)

pub black_inside : (s : List ℕ) (i : ℕ) → in_class black (letter s i) ≡ true → i < length s
black_inside s i e = letter_inside s i (by (letter s i) e)
  where
    by : (l : ℕ) → in_class black l ≡ true → l < END
    by l e = ltb→lt l END (and_left (ltb l END) (not (within space l)) (is_true (in_class black l) e))

-- `\S`: the letter of a code point beyond ASCII, white space or not, and the end.
pub black_beyond : (white : Bool) → not white ≡ in_class black (cond white WHITE OTHER)
black_beyond true = refl
black_beyond false = refl

pub black_past : (s : List ℕ) (i : ℕ) → length s ≤ i → false ≡ in_class black (letter s i)
black_past s i h = ap (in_class black) (sym (letter-past s i h))
