-- Where `|||` first stands, told by each three bytes in a row.
-- Assumes nothing.
use mathlib.Core.Path.{◌≡◌, sym, ◌∙◌, ap, subst}
use mathlib.Core.List.{List, [], ◌∷◌, ◌++◌}
use Prim.Native.Nat.{ℕ, zero, suc, ◌+◌, ◌≤◌, ◌<◌}
use native.Mathlib.Omega.{arith}
use lib.ListN.{length, take, drop, length-drop, drop_of_length-le}
use lib.Seq.{drop-drop}
use Rattle.std.proofs.Common.{Option, Some, None, Bor}
use Rattle.std.specs.List.{AllWithin, HoldsAt}
use Rattle.std.specs.Option.{MatchOption}
use Rattle.std.specs.Iterator.{AlwaysYields}
use Rattle.std.proofs.lemmas.Iterator.{YieldsList}
use Rattle.std.specs.Slice.Iter.{windows_rest, windows_size, windows_steps}
use Rattle.std.specs.declared.slice.Windows.{Windows}
use Rattle.blocks.specs.Blocks.{NoBars, Sought, here, on}
use Rattle.blocks.specs.Inside.{SoughtTo}

abbrev pub three_bars : List ℕ
three_bars = 0x7C ∷ 0x7C ∷ 0x7C ∷ []

-- each three bytes in a row
abbrev pub threes : List ℕ → List (List ℕ)
threes [] = []
threes (a ∷ []) = []
threes (a ∷ b ∷ []) = []
threes (a ∷ b ∷ c ∷ s) = (a ∷ b ∷ c ∷ []) ∷ threes (b ∷ c ∷ s)

-- they are what `windows(3)` gives
windows_give :
    (xs : List ℕ) (w : Windows ℕ) → windows_rest w ≡ xs → windows_size w ≡ 3 → AlwaysYields windows_steps (λ (y : Bor (List ℕ)). y.now) w (threes xs)
windows_give [] w e f = λ x j p. absurd (omega (arith, p.1.0, ap length e, f))
windows_give (a ∷ []) w e f = λ x j p. absurd (omega (arith, p.1.0, ap length e, f))
windows_give (a ∷ b ∷ []) w e f = λ x j p. absurd (omega (arith, p.1.0, ap length e, f))
windows_give (a ∷ b ∷ c ∷ s) w e f = (
  λ j p. omega (arith, p.1.0, ap length e, f),
  λ x j p.
      (p.1.1 ∙ ap (λ (n : ℕ). take n (windows_rest w)) f ∙ ap (take 3) e, windows_give (b ∷ c ∷ s) j (p.1.2 ∙ ap (drop 1) e) (p.0 ∙ f)),
)

pub windows_yield :
    (xs : List ℕ) {w : Windows ℕ} → windows_rest w ≡ xs → windows_size w ≡ 3 → YieldsList windows_steps (λ (y : Bor (List ℕ)). y.now) w (threes xs)
windows_yield xs {w} e f = record { runs = windows_give xs w e f }

short : (s : List ℕ) → length s < 3 → NoBars s
short s h r e = omega (arith, ap length e)

apart : (a b c : ℕ) (s : List ℕ) → ((r : List ℕ) → a ∷ b ∷ c ∷ [] ≡ three_bars ++ r → ⊥) → NoBars (a ∷ b ∷ c ∷ s)
apart a b c s h r e = h [] (ap (take 3) e)

-- what is sought, where none of them is `|||`, and where the first that is stands at a place
pub sought_none : (s : List ℕ) → AllWithin (λ w. (r : List ℕ) → w ≡ three_bars ++ r → ⊥) (threes s) 0 (length (threes s)) → Sought s []
sought_none [] h = Sought.end
sought_none (a ∷ []) h = on (short _ (omega arith)) Sought.end
sought_none (a ∷ b ∷ []) h = on (short _ (omega arith)) (on (short _ (omega arith)) Sought.end)
sought_none (a ∷ b ∷ c ∷ s) h =
    on (apart a b c s (h 0 [] (omega arith) (omega arith))) (sought_none (b ∷ c ∷ s) (λ k d l m. h (suc k) d (omega arith) (omega arith)))

pub sought_some :
    (s : List ℕ) (n : ℕ) → n < length (threes s) → HoldsAt (λ w. w ≡ three_bars ++ drop 3 w) (threes s) n →
    AllWithin (λ w. (r : List ℕ) → w ≡ three_bars ++ r → ⊥) (threes s) 0 n → Sought s (drop (n + 3) s)
sought_some [] n l h all = absurd (omega arith)
sought_some (a ∷ []) n l h all = absurd (omega arith)
sought_some (a ∷ b ∷ []) n l h all = absurd (omega arith)
sought_some (a ∷ b ∷ c ∷ s) zero l h all =
    let e : a ∷ b ∷ c ∷ [] ≡ three_bars = h [] in
    subst (λ (t : List ℕ). Sought (t ++ s) s) (sym e) here
sought_some (a ∷ b ∷ c ∷ s) (suc n) l h all =
    let next : suc n + 3 ≡ suc (n + 3) = omega arith in
    rw next
    (on (apart a b c s (all 0 [] (omega arith) (omega arith)))
    (sought_some (b ∷ c ∷ s) n (omega arith) (λ d. h d) (λ k d l m. all (suc k) d (omega arith) (omega arith))))

threes_fit : (s : List ℕ) (n : ℕ) → n < length (threes s) → n + 3 ≤ length s
threes_fit [] n l = absurd (omega arith)
threes_fit (a ∷ []) n l = absurd (omega arith)
threes_fit (a ∷ b ∷ []) n l = absurd (omega arith)
threes_fit (a ∷ b ∷ c ∷ s) zero l = omega arith
threes_fit (a ∷ b ∷ c ∷ s) (suc n) l = let h = threes_fit (b ∷ c ∷ s) n (omega arith) in omega arith

-- from a place of a source on
pub sought_first :
    (s : List ℕ) (from : ℕ) (r : Option ℕ) → from ≤ length s →
    MatchOption r (AllWithin (λ w. (r : List ℕ) → w ≡ three_bars ++ r → ⊥) (threes (drop from s)) 0 (length (threes (drop from s))))
    (λ n. (n < length (threes (drop from s))) × HoldsAt (λ w. w ≡ three_bars ++ drop 3 w) (threes (drop from s)) n
    × AllWithin (λ w. (r : List ℕ) → w ≡ three_bars ++ r → ⊥) (threes (drop from s)) 0 n) →
    MatchOption r (SoughtTo s from (length s)) (λ n. SoughtTo s from (from + n + 3))
sought_first s from None h none = record {
  within = omega arith;
  sought = subst (λ (t : List ℕ). Sought (drop from s) t) (sym (drop_of_length-le s {i = length s} (omega arith))) (sought_none (drop from s) none);
}
sought_first s from (Some n) h (less, there, before) =
    let place : from + (n + 3) ≡ from + n + 3 = omega arith in
    record {
      within = omega (arith, threes_fit (drop from s) n less, length-drop from s);
      sought =
          subst (λ (t : List ℕ). Sought (drop from s) t) (drop-drop (n + 3) from s ∙ ap (λ (i : ℕ). drop i s) place)
          (sought_some (drop from s) n less there before);
    }
