-- A character read byte by byte, as `char_len` does: what is known after each.
-- Assumes nothing.
use mathlib.Core.Path.{◌≡◌, refl}
use mathlib.Core.List.{List, ◌∷◌}
use Prim.Native.Nat.{ℕ, zero, suc, ◌+◌, ◌-◌, ◌≤◌, ◌<◌}
use native.Mathlib.Omega.{arith}
use lib.ListN.{length, get_or, drop, length-drop}
use lib.Seq.{drop-cons}
use Rattle.strings.specs.Utf8.{In, Character, CharacterLength, begins, nothing}
use Rattle.strings.specs.Rows.{Row}
use Rattle.strings.proofs.Rows.{Follows, end, next, Led, led, to_led, from_led, led_some, row_once}

led_follows : {a n lo hi : ℕ} {t r : List ℕ} → Row a (suc n) lo hi → Led (a ∷ t) r → Follows lo hi n t r
led_follows {n = n} x (led {n = m} y f) =
    let e = row_once y x in
    let k : m ≡ n = omega (arith, e.0) in
    rw (k, e.1, e.2) at f

follows_next : {lo hi n b : ℕ} {t r : List ℕ} → Follows lo hi (suc n) (b ∷ t) r → Follows 0x80 0xBF n t r
follows_next (next x f) = f

follows_in : {lo hi n b : ℕ} {t r : List ℕ} → Follows lo hi (suc n) (b ∷ t) r → In lo hi b
follows_in (next x f) = x

follows_some : {lo hi n : ℕ} {t r : List ℕ} → Follows lo hi (suc n) t r → 0 < length t
follows_some (next x f) = omega arith

led_row : {a lo hi : ℕ} {t r : List ℕ} → Row a 0 lo hi → Led (a ∷ t) r → ⊥
led_row x (led y f) = omega (arith, (row_once x y).0)

-- Of a character of w bytes at a place k have been read: it is one if the others follow, and only then.
pub record Reading (s : List ℕ) (at k w lo hi : ℕ) : Type 0 where
  pub within : at + k ≤ length s
  pub forth : (r : List ℕ) → Character (drop at s) r → Follows lo hi (w - k) (drop (at + k) s) r
  pub back : (r : List ℕ) → Follows lo hi (w - k) (drop (at + k) s) r → Character (drop at s) r

pub past_end : (s : List ℕ) (at : ℕ) → length s ≤ at → CharacterLength (drop at s) 0
past_end s at h = nothing {s = drop at s} (λ r p. omega (arith, led_some (to_led p), length-drop at s))

-- A first byte of no row begins none.
pub no_row : (s : List ℕ) (at : ℕ) {lo hi : ℕ} → at < length s → Row (get_or s at 0) 0 lo hi → CharacterLength (drop at s) 0
no_row s at h x = nothing {s = drop at s} (λ r p. led_row x (to_led (rw (drop-cons s at 0 h) at p)))

pub first_read : {s : List ℕ} {at w lo hi : ℕ} → at < length s → (w ≡ 0 → ⊥) → Row (get_or s at 0) w lo hi → Reading s at 1 w lo hi
first_read {w = zero} h z x = absurd (z refl)
first_read {s = s} {at = at} {w = suc n} h z x =
    let here = drop-cons s at 0 h in
    let left : suc n - 1 ≡ n = omega arith in
    let place : at + 1 ≡ suc at = omega arith in
    record {
      within = omega arith;
      forth = λ r p. rw (left, place) (led_follows x (to_led (rw here at p)));
      back = λ r f. rw here (from_led (led x (rw (left, place) at f)));
    }

pub next_read :
    {s : List ℕ} {at k w lo hi : ℕ} → k < w → Reading s at k w lo hi → at + k < length s → In lo hi (get_or s (at + k) 0) →
    Reading s at (k + 1) w 0x80 0xBF
next_read {s} {at} {k} {w} h R g x =
    let here = drop-cons s (at + k) 0 g in
    let left : w - k ≡ suc (w - (k + 1)) = omega arith in
    let place : suc (at + k) ≡ at + (k + 1) = omega arith in
    record {
      within = omega arith;
      forth = λ r p. follows_next (rw (left, here, place) at (R.forth r p));
      back = λ r f. R.back r (rw (left, here, place) (next x f));
    }

-- A byte is missing or out of bounds.
pub not_read :
    {s : List ℕ} {at k w lo hi : ℕ} → k < w → Reading s at k w lo hi → (at + k < length s → In lo hi (get_or s (at + k) 0) → ⊥) →
    CharacterLength (drop at s) 0
not_read {s} {at} {k} {w} h R z =
    nothing {s = drop at s} (λ r p.
    let left : w - k ≡ suc (w - (k + 1)) = omega arith in
    let f = rw left at (R.forth r p) in
    let g : at + k < length s = omega (arith, follows_some f, length-drop (at + k) s) in
    z g (follows_in (rw (drop-cons s (at + k) 0 g) at f)))

pub all_read : {s : List ℕ} {at k w lo hi : ℕ} → k ≡ w → Reading s at k w lo hi → CharacterLength (drop at s) w
all_read {s} {at} {k} {w} e R =
    let left : w - k ≡ 0 = omega arith in
    let longer : length (drop at s) ≡ w + length (drop (at + k) s) = omega (arith, R.within, length-drop at s, length-drop (at + k) s) in
    begins (R.back (drop (at + k) s) (rw left end)) longer
