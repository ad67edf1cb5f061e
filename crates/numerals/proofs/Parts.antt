-- A literal's two parts decided, where what the code keeps of them is known.
-- Assumes nothing.
use mathlib.Core.Path.{◌≡◌, refl, sym, subst, ◌∙◌}
use mathlib.Core.Bool.{Bool, true, false, true≢false}
use mathlib.Core.List.{List, [], ◌∷◌}
use mathlib.Core.Logic.{◌⊎◌, inl, inr, ⊎_elim}
use Prim.Native.Nat.{ℕ, ◌+◌, ◌-◌, ◌^◌, ◌≤◌, ◌<◌}
use native.Mathlib.Omega.{arith}
use native.Mathlib.Nat.{lt_of_lt_of_le}
use lib.ListN.{length}
use Rattle.numerals.specs.Value.{spelled, digits, behind, places, has, AtLeast, Large, multiplied, divided, Verdict, too_large, in_range, before}
use Rattle.numerals.specs.Inner.{Led, Says, Decides, Capped}
use Rattle.numerals.specs.declared.Lead.{Lead}
use Rattle.numerals.proofs.Powers.{few, none, power_grows}
use Rattle.numerals.proofs.Spellings.{digits-length, spelled_small}
use Rattle.numerals.proofs.Scans.{behind_short, before_short, found_between}

pub places_short : (m : List ℕ) → places m ≤ length m
places_short m = omega (arith, digits-length (behind 46 46 m), behind_short 46 46 m)

not_both : {b : Bool} → b ≡ true → b ≡ false → ⊥
not_both e f = true≢false (sym e ∙ f)

-- What is known of the parts m and x: the digits of m, and the number behind the `e`.
pub record Known (m x : List ℕ) (l : Lead) (p : ℕ) : Type 0 where
  pub led : Led (spelled 0 m) l
  pub short : l.count ≤ length m
  pub capped : Capped (length m + 310) (spelled 0 x) p

pub known : {m x : List ℕ} {l : Lead} {p : ℕ} → (Led (spelled 0 m) l) × (l.count ≤ length m) → Capped (length m + 310) (spelled 0 x) p → Known m x l p
known d c = record { led = d.0; short = d.1; capped = c }

module _ {m x : List ℕ} {l : Lead} {p : ℕ} (k : Known m x l p) where
  multiplied_sizes : (size : ℕ) → Capped (length m + 310) (l.count + p) size
      → (size + 0 ≡ l.count + spelled 0 x) ⊎ ((310 + places m ≤ size) × (310 + (places m + 0) ≤ l.count + spelled 0 x))
  multiplied_sizes size c =
      let fit = places_short m in
      ⊎_elim (λ s. ⊎_elim (λ t. inl (omega (arith, s, t))) (λ t. inr (omega (arith, t.1), omega (arith, s, t.0))) c.same)
      (λ s. ⊎_elim (λ t. inr (omega (arith, t, s.1), omega (arith, s.0))) (λ t. inr (omega (arith, t.1), omega (arith, s.0))) c.same) k.capped.same

  pub multiplied_by : {size down : ℕ} {r : Bool} → has 45 x ≡ false → Capped (length m + 310) (l.count + p) size → down ≡ places m → Decides l size down r
      → Says r (Large m x)
  multiplied_by {size} {r = r} e c q d =
      by r ((subst (λ (n : ℕ). Decides l size n r) q d).decides (spelled 0 m) (spelled 0 x) 0 k.led (multiplied_sizes size c))
    where
      none_over : places m + 0 ≡ places m
      none_over = omega arith

      by : (r : Bool) → Says r (AtLeast (spelled 0 m) (spelled 0 x) (places m + 0)) → Says r (Large m x)
      by true a = multiplied e (subst (λ (n : ℕ). AtLeast (spelled 0 m) (spelled 0 x) n) none_over a)
      by false a = λ g. refuted g
        where
          refuted : Large m x → ⊥
          refuted (multiplied f b) = a (subst (λ (n : ℕ). AtLeast (spelled 0 m) (spelled 0 x) n) (sym none_over) b)
          refuted (divided f b) = not_both f e

  module _ (e : has 45 x ≡ true) where
    divided_not : (AtLeast (spelled 0 m) 0 (places m + spelled 0 x) → ⊥) → Large m x → ⊥
    divided_not n (multiplied f b) = not_both e f
    divided_not n (divided f b) = n b

    -- The number behind the `e` is as large as the digits are many.
    pub divided_away : l.count < p → Large m x → ⊥
    divided_away h =
        divided_not (few (spelled 0 m) l.count 0 (places m + spelled 0 x) k.led.size
        (⊎_elim (λ s. omega (arith, s)) (λ s. omega (arith, s.0, k.short)) k.capped.same))

    pub divided_by : {down : ℕ} {r : Bool} → p ≤ l.count → down ≡ places m → Decides l (l.count - p) down r → Says r (Large m x)
    divided_by {r = r} h q d = by r ((subst (λ (n : ℕ). Decides l (l.count - p) n r) q d).decides (spelled 0 m) 0 (spelled 0 x) k.led (inl sizes))
      where
        sizes : l.count - p + spelled 0 x ≡ l.count + 0
        sizes = ⊎_elim (λ s. omega (arith, s)) (λ s. absurd (omega (arith, s.1, k.short))) k.capped.same

        by : (r : Bool) → Says r (AtLeast (spelled 0 m) 0 (places m + spelled 0 x)) → Says r (Large m x)
        by true a = divided e a
        by false a = divided_not a

-- Two bytes spell at most 99, and 209 digits with 99 zeros behind them are 308; no digit at all spells 0.
pub few_bytes : (m x : List ℕ) → length m < 210 → (length m ≡ 0) ⊎ (length x < 3) → Large m x → ⊥
few_bytes m x short h = refuted
  where
    zero : length m ≡ 0 → spelled 0 m ≡ 0
    zero e = omega (arith, spelled_small m, power_grows {i = digits m} {j = 0} (omega (arith, digits-length m, e)))

    hundred : length x < 3 → spelled 0 x < 10 ^ 2
    hundred l = lt_of_lt_of_le (spelled_small x) (power_grows {j = 2} (omega (arith, digits-length x, l)))

    refuted : Large m x → ⊥
    refuted (multiplied f a) =
        ⊎_elim (λ e. none (spelled 0 x) (places m) (subst (λ (n : ℕ). AtLeast n (spelled 0 x) (places m)) (zero e) a))
        (λ l. few (spelled 0 m) (digits m) (spelled 0 x) (places m) (spelled_small m) (omega (arith, digits-length m, hundred l)) a) h
    refuted (divided f a) = few (spelled 0 m) (digits m) 0 (places m + spelled 0 x) (spelled_small m) (omega (arith, digits-length m)) a

-- The parts are the literal's.
pub judged : (t m x : List ℕ) {r : Bool} → m ≡ before 101 69 t → x ≡ behind 101 69 t → Says r (Large m x) → Verdict t r
judged t m x {r} e f s = by r (subst (λ (y : List ℕ). Says r (Large (before 101 69 t) y)) f (subst (λ (n : List ℕ). Says r (Large n x)) e s))
  where
    by : (r : Bool) → Says r (Large (before 101 69 t) (behind 101 69 t)) → Verdict t r
    by true a = too_large (record { value = a })
    by false a = in_range (λ g. a g.value)

-- A literal of less than five bytes: with three behind its `e` it has none before it.
pub judged_short : (t : List ℕ) → length t < 5 → Verdict t false
judged_short t h = judged t (before 101 69 t) (behind 101 69 t) refl refl (few_bytes (before 101 69 t) (behind 101 69 t) short (by (behind 101 69 t) between))
  where
    between : 1 ≤ length (behind 101 69 t) → length (before 101 69 t) + length (behind 101 69 t) < length t
    between = found_between 101 69 t

    short : length (before 101 69 t) < 210
    short = omega (arith, before_short 101 69 t)

    by : (x : List ℕ) → (1 ≤ length x → length (before 101 69 t) + length x < length t) → (length (before 101 69 t) ≡ 0) ⊎ (length x < 3)
    by [] b = inr (omega arith)
    by (_ ∷ []) b = inr (omega arith)
    by (_ ∷ _ ∷ []) b = inr (omega arith)
    by (_ ∷ _ ∷ _ ∷ x) b = inl (omega (arith, h, b (omega arith)))
