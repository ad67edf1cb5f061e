-- Runs of bytes, and the next `|||`: there is one of each, and how a loop that goes from place to place finds it.
-- Assumes nothing.
use mathlib.Core.Path.{◌≡◌, refl, sym, ◌∙◌, ap, subst}
use mathlib.Core.List.{List, [], ◌∷◌, ◌++◌}
use Prim.Native.Nat.{ℕ, zero, suc, ◌+◌, ◌-◌, ◌≤◌, ◌<◌}
use native.Mathlib.Omega.{arith}
use native.Mathlib.Numerals.{add-one}
use native.Mathlib.Decide.{ℕ_discrete}
use borrow.Author.Count.{below_more}
use lib.ListN.{length, get_or, take, drop, length-append}
use lib.Seq.{slice, slice-cons}
use Rattle.strings.proofs.Stores.{drop-next}
use Rattle.blocks.specs.Blocks.{Run, stop, more, InLine, Sought, here, on}
use Rattle.blocks.specs.Inside.{Spans}

-- a byte that is not other than b is b
pub stable : (a b : ℕ) → ((a ≡ b → ⊥) → ⊥) → a ≡ b
stable a b h = by (ℕ_discrete a b)
  where
    by : Dec (a ≡ b) → a ≡ b
    by (yes e) = e
    by (no g) = absurd (h g)

module _ {P : ℕ → Type 0} where
  pub run_split : {s l r : List ℕ} → Run P s l r → s ≡ l ++ r
  run_split Run.end = refl
  run_split (stop h) = refl
  run_split (more {b = b} p d) = ap (λ (t : List ℕ). b ∷ t) (run_split d)

  pub run_once : {s l r l' r' : List ℕ} → Run P s l r → Run P s l' r' → (l ≡ l') × (r ≡ r')
  run_once Run.end Run.end = (refl, refl)
  run_once (stop h) (stop g) = (refl, refl)
  run_once (stop h) (more p d) = absurd (h p)
  run_once (more p d) (stop h) = absurd (h p)
  run_once (more {b = b} p d) (more q e) = let o = run_once d e in (ap (λ (t : List ℕ). b ∷ t) o.0, o.1)

  pub run_length : {s l r : List ℕ} → Run P s l r → length l + length r ≡ length s
  run_length {l = l} {r = r} d = sym (length-append l r) ∙ ap length (sym (run_split d))

  -- what follows a run does not go on with it
  pub run_stops : {s l r : List ℕ} {b : ℕ} → Run P s l (b ∷ r) → P b → ⊥
  run_stops (stop h) p = h p
  run_stops (more q d) p = run_stops d p

  pub run_head : {s l r : List ℕ} {b : ℕ} → Run P s (b ∷ l) r → P b
  run_head (more p d) = p

module _ (P : ℕ → Type 0) where
  run_of :
      (s : List ℕ) (n : ℕ) → n ≤ length s → ((k : ℕ) → k < n → P (get_or s k 0)) → (n < length s → P (get_or s n 0) → ⊥) →
      Run P s (take n s) (drop n s)
  run_of [] zero h all past = Run.end
  run_of [] (suc n) h all past = absurd (omega arith)
  run_of (b ∷ s) zero h all past = stop (past (omega arith))
  run_of (b ∷ s) (suc n) h all past =
      more (all zero (omega arith)) (run_of s n (omega arith) (λ k g. all (suc k) (omega arith)) (λ g. past (omega arith)))

  run_between :
      (s : List ℕ) (i j : ℕ) → i ≤ j → j ≤ length s → ((k : ℕ) → k < j → i ≤ k → P (get_or s k 0)) → (j < length s → P (get_or s j 0) → ⊥) →
      Run P (drop i s) (slice i j s) (drop j s)
  run_between s zero j h g all past = run_of s j g (λ k l. all k l (omega arith)) past
  run_between [] (suc i) j h g all past = absurd (omega arith)
  run_between (b ∷ s) (suc i) zero h g all past = absurd (omega arith)
  run_between (b ∷ s) (suc i) (suc j) h g all past =
      run_between s i j (omega arith) (omega arith) (λ k l m. all (suc k) (omega arith) (omega arith)) (λ l. past (omega arith))

-- A loop has passed the places from i up to j: their bytes are P.
pub record Passed (P : ℕ → Type 0) (s : List ℕ) (i j : ℕ) : Type 0 where
  pub on : i ≤ j
  pub within : j ≤ length s
  pub all : (k : ℕ) → k < j → i ≤ k → P (get_or s k 0)

module _ {P : ℕ → Type 0} {s : List ℕ} {i : ℕ} where
  pub passed_none : i ≤ length s → Passed P s i i
  passed_none h = record { on = omega arith; within = h; all = λ k l m. absurd (omega arith) }

  pub passed_more : {j : ℕ} → Passed P s i j → j < length s → P (get_or s j 0) → Passed P s i (j + 1)
  passed_more {j} d h p = record {
    on = omega arith;
    within = omega arith;
    all = below_more (λ k. i ≤ k → P (get_or s k 0)) j d.all (λ l. p);
  }

  pub passed_stop : {j : ℕ} → Passed P s i j → (P (get_or s j 0) → ⊥) → Spans P s i j
  passed_stop {j} d h = record { on = d.on; within = d.within; run = run_between P s i j d.on d.within d.all (λ l. h) }

  pub passed_end : {j : ℕ} → Passed P s i j → length s ≤ j → Spans P s i j
  passed_end {j} d h = record { on = d.on; within = d.within; run = run_between P s i j d.on d.within d.all (λ l. absurd (omega arith)) }

  -- a run that goes on from where the loop stands
  pub passed_then : {j e : ℕ} → Passed P s i j → Spans P s j e → Spans P s i e
  passed_then {j} {e} d r = record { on = omega (arith, d.on, r.on); within = r.within; run = back (j - i) i (omega (arith, d.on)) (omega arith) }
    where
      back : (n k : ℕ) → k + n ≡ j → i ≤ k → Run P (drop k s) (slice k e s) (drop e s)
      back zero k q h = let k-is : k ≡ j = omega (arith, q) in subst (λ (m : ℕ). Run P (drop m s) (slice m e s) (drop e s)) (sym k-is) r.run
      back (suc n) k q h =
          let inside : k < e = omega (arith, q, r.on) in
          subst (λ (t : List ℕ). Run P t (slice k e s) (drop e s)) (sym (drop-next s k (omega (arith, r.within))))
          (subst (λ (t : List ℕ). Run P (get_or s k 0 ∷ drop (k + 1) s) t (drop e s)) (sym (slice-cons k e s 0 inside r.within))
          (more (d.all k (omega (arith, q)) h) (subst (λ (m : ℕ). Run P (drop (k + 1) s) (slice m e s) (drop e s)) (add-one k) (back n (k + 1) (omega (arith, q)) (omega arith)))))

-- a run of bytes that are P is one of bytes that are Q, where those are the same bytes
pub spans_as : {P Q : ℕ → Type 0} {s : List ℕ} {i j : ℕ} → ((b : ℕ) → P b → Q b) → ((b : ℕ) → Q b → P b) → Spans P s i j → Spans Q s i j
spans_as {P} {Q} there back d = record { on = d.on; within = d.within; run = turned d.run }
  where
    turned : {s l r : List ℕ} → Run P s l r → Run Q s l r
    turned Run.end = Run.end
    turned (stop {b = b} h) = stop (λ q. h (back b q))
    turned (more {b = b} p d) = more (there b p) (turned d)

-- a line's run that ends before the source does ends at an LF
pub line_feed : {s : List ℕ} {i j : ℕ} → Spans InLine s i j → j < length s → get_or s j 0 ≡ 0x0A
line_feed {s} {i} {j} d h = stable _ _ (run_stops (subst (λ (t : List ℕ). Run InLine (drop i s) (slice i j s) t) (drop-next s j h) d.run))

pub sought_once : {s r r' : List ℕ} → Sought s r → Sought s r' → r ≡ r'
sought_once here here = refl
sought_once here (on h d) = absurd (h _ refl)
sought_once (on h d) here = absurd (h _ refl)
sought_once (on h d) (on g e) = sought_once d e
sought_once Sought.end Sought.end = refl

pub sought_length : {s r : List ℕ} → Sought s r → length r ≤ length s
sought_length here = omega arith
sought_length (on h d) = let g = sought_length d in omega arith
sought_length Sought.end = omega arith
