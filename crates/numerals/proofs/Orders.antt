-- How digits stand to the limit's as one more comes, and what that says in the end.
-- Assumes nothing.
use mathlib.Core.Path.{◌≡◌, refl, sym, ap, subst, ◌∙◌}
use mathlib.Core.Bool.{Bool, true, false, not, cond}
use mathlib.Core.Logic.{◌⊎◌, ⊎_elim}
use Prim.Native.Nat.{ℕ, zero, suc, ◌+◌, ◌-◌, ◌*◌, ◌%◌, ◌^◌, ◌≤◌, ◌<◌}
use native.Mathlib.Omega.{arith}
use native.Mathlib.Nat.{mul_assoc, add-mul, mul-le-mul_right, mul-lt-mul_of_pos_right, mul-mod_left, le_trans}
use lib.Dec.{T, lit<, leb, leb→le, nleb→lt}
use lib.Pow.{pow-add}
use lib.ListN.{take, get_or}
use lib.Seq.{take_all}
use Rattle.numerals.specs.Value.{LIMIT, is_digit, spelled, AtLeast}
use Rattle.numerals.specs.Inner.{limit_digits, Reaches, Misses, Ordered, equal, above, below, Led, Compares, Pushes, pushed, Says, Decides}
use Rattle.std.specs.declared.cmp.Ordering.{Ordering}
use Rattle.std.specs.Ordering.{MatchOrdering}
use Rattle.std.specs.declared.cmp.Ordering.TheVariants.{Less, Equal, Greater}
use Rattle.numerals.specs.declared.Lead.{Lead}
use Rattle.numerals.proofs.Powers.{power-next, power-some, many, few, none}
use Rattle.numerals.proofs.Spellings.{worth, limit-length, limit-spelled, limit_last, limit-digit, limit-next, limit_cut, is_digit_lem, pushed_none}

-- n times 10^(j + down) is n times 10^j, times 10^down.
shifted : (n j up down : ℕ) → up ≡ j + down → n * 10 ^ up ≡ n * 10 ^ j * 10 ^ down
shifted n j up down e = ap (λ (i : ℕ). n * 10 ^ i) e ∙ ap (λ (x : ℕ). n * x) (pow-add 10 j down) ∙ sym (mul_assoc n (10 ^ j) (10 ^ down))

-- ── One digit more ────────────────────────────────────────────────────────────────────────────────

still_above : {n k : ℕ} (d : ℕ) → Reaches n k → Reaches (n * 10 + d) (k + 1)
still_above {n} {k} d a =
    record {
      reached = λ up down e.
          omega (arith, a.reached (1 + up) down (omega arith), shifted n 1 (1 + up) up refl, add-mul (n * 10) d (10 ^ up));
    }

still_below : {n k : ℕ} (d : ℕ) → d ≤ 9 → Misses n k → Misses (n * 10 + d) (k + 1)
still_below {n} {k} d h a =
    record {
      missed = λ up down e.
          let more : n * 10 + d + 1 ≤ (n + 1) * 10 = omega arith in
          le_trans (mul-le-mul_right (10 ^ up) more) (subst (λ (x : ℕ). x ≤ LIMIT * 10 ^ down) (shifted (n + 1) 1 (1 + up) up refl) (a.missed (1 + up) down (omega arith)));
    }

-- A first digit that differs decides.
goes_above : (n k j : ℕ) → k + j ≡ 309 → spelled 0 (take k limit_digits) < n → Reaches n k
goes_above n k j h less =
    record { reached = λ up down e. subst (λ (x : ℕ). LIMIT * 10 ^ down ≤ x) (sym (shifted n j up down (omega arith))) (mul-le-mul_right (10 ^ down) past) }
  where
    past : LIMIT ≤ n * 10 ^ j
    past =
        let more : spelled 0 (take k limit_digits) + 1 ≤ n = omega arith in
        omega (arith, (limit_cut k j h).1, mul-le-mul_right (10 ^ j) more)

goes_below : (n k j : ℕ) → k + j ≡ 309 → n < spelled 0 (take k limit_digits) → Misses n k
goes_below n k j h less =
    record { missed = λ up down e. subst (λ (x : ℕ). x ≤ LIMIT * 10 ^ down) (sym (shifted (n + 1) j up down (omega arith))) (mul-le-mul_right (10 ^ down) short) }
  where
    short : (n + 1) * 10 ^ j ≤ LIMIT
    short =
        let more : n + 1 ≤ spelled 0 (take k limit_digits) = omega arith in
        omega (arith, (limit_cut k j h).0, mul-le-mul_right (10 ^ j) more)

-- All 309 digits are the limit's.
is_limit : (n k : ℕ) → 309 ≤ k → n ≡ spelled 0 (take k limit_digits) → n ≡ LIMIT
is_limit n k h e = e ∙ ap (spelled 0) (take_all k limit_digits (omega (arith, limit-length))) ∙ limit-spelled

limit_reaches : (n k : ℕ) → k ≡ 309 → n ≡ LIMIT → Reaches n k
limit_reaches n k h e =
    record { reached = λ up down u. subst (λ (i : ℕ). LIMIT * 10 ^ down ≤ n * 10 ^ i) (omega arith) (subst (λ (x : ℕ). LIMIT * 10 ^ down ≤ x * 10 ^ down) (sym e) (omega arith)) }

pub compares_above : (k b : ℕ) → Compares Greater k b Greater
compares_above k b = record { compares = λ n t o. by o }
  where
    by : {n : ℕ} → Ordered n k Greater → Ordered (n * 10 + (b - 48)) (k + 1) Greater
    by (above a) = above (still_above (b - 48) a)

pub compares_below : (k b : ℕ) → Compares Less k b Less
compares_below k b = record { compares = λ n t o. by (worth b t) o }
  where
    by : {n : ℕ} → (48 ≤ b) × (b ≤ 57) → Ordered n k Less → Ordered (n * 10 + (b - 48)) (k + 1) Less
    by w (below a) = below (still_below (b - 48) (omega (arith, w.0, w.1)) a)

-- What is above or below stays so.
pub compares_decided : (o : Ordering) (k b : ℕ) → (o ≡ Equal → ⊥) → Compares o k b o
compares_decided Less k b n = compares_below k b
compares_decided Equal k b n = absurd (n refl)
compares_decided Greater k b n = compares_above k b

pub compares_past : (k b : ℕ) → 309 ≤ k → Compares Equal k b Greater
compares_past k b h = record { compares = λ n t o. by o }
  where
    by : {n : ℕ} → Ordered n k Equal → Ordered (n * 10 + (b - 48)) (k + 1) Greater
    by {n} (equal l e) = above (still_above (b - 48) (limit_reaches n k (omega arith) (is_limit n k h e)))

module _ (k b : ℕ) (h : k < 309) where
  abbrev next : ℕ
  next = get_or limit_digits k 0

  pub compares_more : next < b → Compares Equal k b Greater
  compares_more less = record { compares = λ n t o. by (worth b t) o }
    where
      by : {n : ℕ} → (48 ≤ b) × (b ≤ 57) → Ordered n k Equal → Ordered (n * 10 + (b - 48)) (k + 1) Greater
      by {n} w (equal l e) = above (goes_above (n * 10 + (b - 48)) (k + 1) (308 - k) (omega arith) (omega (arith, limit-next k h, w.0, w.1, (worth next (limit-digit k h)).0)))

  pub compares_less : b < next → Compares Equal k b Less
  compares_less less = record { compares = λ n t o. by (worth b t) o }
    where
      by : {n : ℕ} → (48 ≤ b) × (b ≤ 57) → Ordered n k Equal → Ordered (n * 10 + (b - 48)) (k + 1) Less
      by {n} w (equal l e) = below (goes_below (n * 10 + (b - 48)) (k + 1) (308 - k) (omega arith) (omega (arith, limit-next k h, w.0, w.1, (worth next (limit-digit k h)).0)))

  pub compares_same : next ≡ b → Compares Equal k b Equal
  compares_same same = record { compares = λ n t o. by o }
    where
      by : {n : ℕ} → Ordered n k Equal → Ordered (n * 10 + (b - 48)) (k + 1) Equal
      by {n} (equal l e) =
          equal (omega arith) (ap (λ (m : ℕ). m * 10 + (b - 48)) e ∙ ap (λ (d : ℕ). spelled 0 (take k limit_digits) * 10 + (d - 48)) (sym same) ∙ sym (limit-next k h))

-- The limit's next digit, compared with this one.
pub compares_ranked : (k b : ℕ) (h : k < 309) (r : Ordering) → MatchOrdering r (b < next k b h) (b ≡ next k b h) (next k b h < b) → Compares Equal k b r
compares_ranked k b h Less m = compares_less k b h m
compares_ranked k b h Equal m = compares_same k b h (sym m)
compares_ranked k b h Greater m = compares_more k b h m

-- ── What is kept of the digits ────────────────────────────────────────────────────────────────────

pub led_begun : Led 0 (record { count = 0; order = Equal })
unfolding spelled
led_begun = record { size = lit< tt; full = λ h. omega arith; order = equal (omega arith) refl }

module _ (l : Lead) (b : ℕ) where
  pub pushes_none : (b < 48) ⊎ (57 < b) → Pushes l b l
  pushes_none h = record { step = λ n g. subst (λ (m : ℕ). Led m l) (sym (pushed_none n b h)) g; grows = omega arith }

  -- A zero before all other digits.
  pub pushes_zero : l.count ≡ 0 → b ≡ 48 → Pushes l b l
  pushes_zero h z =
      record {
        step = λ n g.
            let nothing : n ≡ 0 = omega (arith, subst (λ (k : ℕ). n < 10 ^ k) h g.size) in
            subst (λ (m : ℕ). Led m l) (nothing ∙ sym (ap (λ (m : ℕ). pushed m b) nothing ∙ ap (pushed 0) z)) g;
        grows = omega arith;
      }

  pub pushes_digit : (o : Ordering) → 48 ≤ b → b ≤ 57 → (l.count + (b - 48) ≡ 0 → ⊥) → Compares l.order l.count b o
      → Pushes l b (record { count = l.count + 1; order = o })
  pushes_digit o low high some c =
      record { step = λ n g. subst (λ (m : ℕ). Led m (record { count = l.count + 1; order = o })) (sym (pushed_is n)) (stepped n g); grows = omega arith }
    where
      d : ℕ
      d = b - 48

      pushed_is : (n : ℕ) → pushed n b ≡ n * 10 + d
      pushed_is n = by (is_digit b) (is_digit_lem b low high)
        where
          by : (x : Bool) → T x → cond x (n * 10 + d) n ≡ n * 10 + d
          by true t = refl
          by false t = absurd t

      full : (n k : ℕ) → n < 10 ^ k → (1 ≤ k → 10 ^ k ≤ n * 10) → (k + d ≡ 0 → ⊥) → 10 ^ (k + 1) ≤ (n * 10 + d) * 10
      full n zero s f h = omega (arith, power-next 0)
      full n (suc k) s f h = omega (arith, power-next (suc k), f (omega arith))

      stepped : (n : ℕ) → Led n l → Led (n * 10 + d) (record { count = l.count + 1; order = o })
      stepped n g =
          record {
            size = omega (arith, g.size, power-next l.count);
            full = λ h. full n l.count g.size g.full some;
            order = c.compares n (is_digit_lem b low high) g.order;
          }

-- ── In the end ────────────────────────────────────────────────────────────────────────────────────

module _ (n k up down : ℕ) (e : k + up ≡ 309 + down) where
  pub above_reaches : Ordered n k Greater → AtLeast n up down
  above_reaches (above a) = a.reached up down e

  pub below_misses : Ordered n k Less → AtLeast n up down → ⊥
  below_misses (below a) h = omega (arith, a.missed up down e, h, add-mul n 1 (10 ^ up), power-some up)

  pub equal_reaches : 309 ≤ k → Ordered n k Equal → AtLeast n up down
  equal_reaches h (equal l q) = (limit_reaches n k (omega arith) (is_limit n k h q)).reached up down e

  -- The limit's last digit is no 0, so fewer digits than it has are not all of it.
  pub equal_misses : k < 309 → Ordered n k Equal → AtLeast n up down → ⊥
  equal_misses h (equal l q) a = omega (arith, a, shifted n j up down (omega arith), mul-lt-mul_of_pos_right short (power-some down))
    where
      j : ℕ
      j = 309 - k

      i : ℕ
      i = 308 - k

      tens : n * 10 ^ j ≡ n * 10 ^ i * 10
      tens = shifted n i j 1 (omega arith)

      apart : n * 10 ^ j ≡ LIMIT → ⊥
      apart z = omega (arith, sym (mul-mod_left (n * 10 ^ i) 10) ∙ ap (λ (x : ℕ). x % 10) (sym tens ∙ z) ∙ limit_last)

      short : n * 10 ^ j < LIMIT
      short = omega (arith, subst (λ (m : ℕ). m * 10 ^ j ≤ LIMIT) (sym q) (limit_cut k j (omega arith)).0, apart)

-- A number of `count` digits, by its size.
module _ (l : Lead) (size down : ℕ) where
  decided : {r : Bool} → ((n up over : ℕ) → Led n l → l.count + up ≡ 309 + (down + over) → Says r (AtLeast n up (down + over)))
      → size ≡ 309 + down → Decides l size down r
  decided f e = record { decides = λ n up over g h. ⊎_elim (λ s. f n up over g (omega arith)) (λ s. absurd (omega (arith, s.0))) h }

  pub decides_zero : l.count ≡ 0 → Decides l size down false
  decides_zero z =
      record {
        decides = λ n up over g h a.
            let nothing : n ≡ 0 = omega (arith, subst (λ (k : ℕ). n < 10 ^ k) z g.size) in
            none up (down + over) (subst (λ (m : ℕ). AtLeast m up (down + over)) nothing a);
      }

  pub decides_many : (l.count ≡ 0 → ⊥) → 309 + down < size → Decides l size down true
  decides_many some h =
      record {
        decides = λ n up over g e. many n l.count up (down + over) (g.full (omega (arith, some))) (⊎_elim (λ s. omega (arith, s)) (λ s. s.1) e);
      }

  pub decides_few : size < 309 + down → Decides l size down false
  decides_few h =
      record {
        decides = λ n up over g e a. few n l.count up (down + over) g.size (⊎_elim (λ s. omega (arith, s)) (λ s. omega (arith, s.0)) e) a;
      }

  module _ (e : size ≡ 309 + down) where
    pub decides_above : l.order ≡ Greater → Decides l size down true
    decides_above q = decided (λ n up over g h. above_reaches n l.count up (down + over) h (subst (λ (o : Ordering). Ordered n l.count o) q g.order)) e

    pub decides_below : l.order ≡ Less → Decides l size down false
    decides_below q = decided (λ n up over g h. below_misses n l.count up (down + over) h (subst (λ (o : Ordering). Ordered n l.count o) q g.order)) e

    pub decides_equal : l.order ≡ Equal → Decides l size down (leb 309 l.count)
    decides_equal q = decided (λ n up over g h. by n up over h (leb 309 l.count) (leb→le 309 l.count) (λ t. nleb→lt 309 l.count t)
        (subst (λ (o : Ordering). Ordered n l.count o) q g.order)) e
      where
        by : (n up over : ℕ) → l.count + up ≡ 309 + (down + over) → (r : Bool) → (T r → 309 ≤ l.count) → (T (not r) → l.count < 309) → Ordered n l.count Equal
            → Says r (AtLeast n up (down + over))
        by n up over h true f g o = equal_reaches n l.count up (down + over) h (f tt) o
        by n up over h false f g o = equal_misses n l.count up (down + over) h (g tt) o
