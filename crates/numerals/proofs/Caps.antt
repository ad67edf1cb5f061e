-- A number that is not counted beyond a cap.
-- Assumes nothing.
use mathlib.Core.Path.{◌≡◌, refl, sym, ap, subst, ◌∙◌}
use mathlib.Core.Bool.{Bool, true, false, cond}
use mathlib.Core.Logic.{◌⊎◌, inl, inr, ⊎_elim}
use Prim.Native.Nat.{ℕ, ◌+◌, ◌-◌, ◌*◌, ◌/◌, ◌≤◌, ◌<◌}
use native.Mathlib.Omega.{arith}
use lib.Dec.{T}
use Rattle.numerals.specs.Value.{is_digit}
use Rattle.numerals.specs.Inner.{Capped, Appends, pushed}
use Rattle.numerals.proofs.Spellings.{is_digit_lem, pushed_none}

pub capped_begun : (cap : ℕ) → Capped cap 0 0
capped_begun cap = record { bounded = omega arith; same = inl refl }

module _ (n b cap : ℕ) where
  pub appends_none : (b < 48) ⊎ (57 < b) → Appends n b cap n
  appends_none h = record { appends = λ m g. subst (λ (x : ℕ). Capped cap x n) (sym (pushed_none m b h)) g }

  module _ (low : 48 ≤ b) (high : b ≤ 57) where
    pushed_is : (m : ℕ) → pushed m b ≡ m * 10 + (b - 48)
    pushed_is m = by (is_digit b) (is_digit_lem b low high)
      where
        by : (x : Bool) → T x → cond x (m * 10 + (b - 48)) m ≡ m * 10 + (b - 48)
        by true t = refl
        by false t = absurd t

    -- Ten times it is beyond the cap.
    pub appends_cap : cap / 10 < n → Appends n b cap cap
    appends_cap h =
        record {
          appends = λ m g.
              let over : cap ≤ m * 10 = ⊎_elim (λ e. omega arith) (λ e. omega (arith, e.0)) g.same in
              record { bounded = omega arith; same = inr (omega (arith, pushed_is m), omega arith) };
        }

    pub appends_digit : 1 ≤ cap → n ≤ cap / 10 → Appends n b cap (n * 10 + (b - 48))
    appends_digit some h =
        record {
          appends = λ m g.
              let exact : n ≡ m = ⊎_elim (λ e. e) (λ e. absurd (omega (arith, e.1))) g.same in
              record { bounded = omega arith; same = inl (ap (λ (x : ℕ). x * 10 + (b - 48)) exact ∙ sym (pushed_is m)) };
        }
