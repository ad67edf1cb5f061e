-- Table 3-7 read by the first byte: it says how many bytes follow, and where the second lies. The laws of characters rest on this form.
-- Assumes nothing.
use mathlib.Core.Path.{◌≡◌, refl, ap, subst}
use mathlib.Core.Bool.{Bool, true, false, cond, ◌&&◌}
use mathlib.Core.List.{List, [], ◌∷◌, ◌++◌}
use mathlib.Core.Logic.{◌⊎◌, inl, inr, ⊎_elim}
use Prim.Native.Nat.{ℕ, zero, suc, ◌+◌, ◌-◌, ◌≤◌, ◌<◌}
use native.Mathlib.Omega.{arith}
use native.Mathlib.Decide.{dec_lt}
use lib.Dec.{T, ltb, leb, eqb, leb→le, eqb→eq}
use lib.ListN.{length}
use Rattle.strings.specs.Utf8 as table
use Rattle.strings.specs.Utf8.{In, Character}
use Rattle.strings.specs.Rows.{Row, row_00_7F, none_80_C1, row_C2_DF, row_E0, row_E1_EC, row_ED, row_EE_EF, row_F0, row_F1_F3, row_F4, none_F5_FF}

-- The row of a byte, computed.
unfoldable width : ℕ → ℕ
width a = cond (ltb a 0x80) 1 (cond (ltb a 0xC2) 0 (cond (ltb a 0xE0) 2 (cond (ltb a 0xF0) 3 (cond (ltb a 0xF5) 4 0))))

unfoldable low : ℕ → ℕ
low a = cond (eqb a 0xE0) 0xA0 (cond (eqb a 0xF0) 0x90 0x80)

unfoldable high : ℕ → ℕ
high a = cond (eqb a 0xED) 0x9F (cond (eqb a 0xF4) 0x8F 0xBF)

unfoldable has : ℕ → ℕ → ℕ → ℕ → Bool
has n lo hi a = eqb (width a) n && (eqb (low a) lo && (eqb (high a) hi && leb 0x80 lo))

-- A test tried at k numbers from a on.
unfoldable tried : (ℕ → Bool) → ℕ → ℕ → Bool
tried f zero a = true
tried f (suc k) a = f (a + k) && tried f k a

both : (a b : Bool) → T (a && b) → T a × T b
both true b t = (tt, t)
both false b t = absurd t

last_or_before : (b n : ℕ) → b < suc n → (n ≡ b) ⊎ (b < n)
last_or_before b n h = by (dec_lt b n)
  where
    by : Dec (b < n) → (n ≡ b) ⊎ (b < n)
    by (yes l) = inr l
    by (no l) = inl (omega arith)

tried_at : (f : ℕ → Bool) (k a : ℕ) → T (tried f k a) → (b : ℕ) → a ≤ b → b < a + k → T (f b)
unfolding tried
tried_at f zero a t b g h = absurd (omega arith)
tried_at f (suc k) a t b g h =
    let here = both (f (a + k)) (tried f k a) t in
    ⊎_elim (λ (e : a + k ≡ b). subst (λ (x : ℕ). T (f x)) e here.0) (λ (l : b < a + k). tried_at f k a here.1 b g l)
    (last_or_before b (a + k) (omega arith))

record Entry (a n lo hi : ℕ) : Type 0 where
  wide : width a ≡ n
  from : low a ≡ lo
  to : high a ≡ hi
  no_ascii : 0x80 ≤ lo

entry : {a : ℕ} (first last n lo hi : ℕ) → In first last a → T (tried (has n lo hi) (suc (last - first)) first) → Entry a n lo hi
unfolding has
entry {a} first last n lo hi x t =
    let W = eqb (width a) n in
    let L = eqb (low a) lo in
    let H = eqb (high a) hi in
    let Z = leb 0x80 lo in
    let w = both W (L && (H && Z)) (tried_at (has n lo hi) (suc (last - first)) first t a x.0 (omega arith)) in
    let l = both L (H && Z) w.1 in
    let h = both H Z l.1 in
    record { wide = eqb→eq (width a) n w.0; from = eqb→eq (low a) lo l.0; to = eqb→eq (high a) hi h.0; no_ascii = leb→le 0x80 lo h.1 }

row-entry : {a n lo hi : ℕ} → Row a n lo hi → Entry a n lo hi
unfolding tried has width low high
row-entry (row_00_7F x) = entry _ _ _ _ _ x tt
row-entry (none_80_C1 x) = entry _ _ _ _ _ x tt
row-entry (row_C2_DF x) = entry _ _ _ _ _ x tt
row-entry (row_E0 x) = entry _ _ _ _ _ x tt
row-entry (row_E1_EC x) = entry _ _ _ _ _ x tt
row-entry (row_ED x) = entry _ _ _ _ _ x tt
row-entry (row_EE_EF x) = entry _ _ _ _ _ x tt
row-entry (row_F0 x) = entry _ _ _ _ _ x tt
row-entry (row_F1_F3 x) = entry _ _ _ _ _ x tt
row-entry (row_F4 x) = entry _ _ _ _ _ x tt
row-entry (none_F5_FF x) = entry _ _ _ _ _ x tt

-- So many bytes follow, the first of them between the bounds and the others between those of every later byte; the last list is the rest.
pub data Follows : ℕ → ℕ → ℕ → List ℕ → List ℕ → Type 0 where
  end : {lo hi : ℕ} {r : List ℕ} → Follows lo hi 0 r r
  next : {lo hi n b : ℕ} {t r : List ℕ} → In lo hi b → Follows 0x80 0xBF n t r → Follows lo hi (suc n) (b ∷ t) r

-- A character is a first byte of some row with as many bytes after it as the row asks for.
pub data Led : List ℕ → List ℕ → Type 0 where
  led : {a n lo hi : ℕ} {t r : List ℕ} → Row a (suc n) lo hi → Follows lo hi n t r → Led (a ∷ t) r

pub to_led : {s r : List ℕ} → Character s r → Led s r
to_led (table.row_00_7F x) = led (row_00_7F x) end
to_led (table.row_C2_DF x y) = led (row_C2_DF x) (next y end)
to_led (table.row_E0 x y z) = led (row_E0 x) (next y (next z end))
to_led (table.row_E1_EC x y z) = led (row_E1_EC x) (next y (next z end))
to_led (table.row_ED x y z) = led (row_ED x) (next y (next z end))
to_led (table.row_EE_EF x y z) = led (row_EE_EF x) (next y (next z end))
to_led (table.row_F0 x y z w) = led (row_F0 x) (next y (next z (next w end)))
to_led (table.row_F1_F3 x y z w) = led (row_F1_F3 x) (next y (next z (next w end)))
to_led (table.row_F4 x y z w) = led (row_F4 x) (next y (next z (next w end)))

pub from_led : {s r : List ℕ} → Led s r → Character s r
from_led (led (row_00_7F x) end) = table.row_00_7F x
from_led (led (row_C2_DF x) (next y end)) = table.row_C2_DF x y
from_led (led (row_E0 x) (next y (next z end))) = table.row_E0 x y z
from_led (led (row_E1_EC x) (next y (next z end))) = table.row_E1_EC x y z
from_led (led (row_ED x) (next y (next z end))) = table.row_ED x y z
from_led (led (row_EE_EF x) (next y (next z end))) = table.row_EE_EF x y z
from_led (led (row_F0 x) (next y (next z (next w end)))) = table.row_F0 x y z w
from_led (led (row_F1_F3 x) (next y (next z (next w end)))) = table.row_F1_F3 x y z w
from_led (led (row_F4 x) (next y (next z (next w end)))) = table.row_F4 x y z w

pub led_some : {s r : List ℕ} → Led s r → 0 < length s
led_some (led x f) = omega arith

-- A byte has one row.
pub row_once : {a n lo hi n' lo' hi' : ℕ} → Row a n lo hi → Row a n' lo' hi' → (n ≡ n') × (lo ≡ lo') × (hi ≡ hi')
row_once x y =
    let e = row-entry x in
    let f = row-entry y in
    (cc, cc, cc)

-- The second byte is no ASCII.
pub row_low : {a n lo hi : ℕ} → Row a n lo hi → 0x80 ≤ lo
row_low x = (row-entry x).no_ascii

pub follows_once : {lo hi lo' hi' n : ℕ} {t r r' : List ℕ} → Follows lo hi n t r → Follows lo' hi' n t r' → r ≡ r'
follows_once end end = refl
follows_once (next x f) (next y g) = follows_once f g

pub follows_append : {lo hi n : ℕ} {t r : List ℕ} (q : List ℕ) → Follows lo hi n t r → Follows lo hi n (t ++ q) (r ++ q)
follows_append q end = end
follows_append q (next x f) = next x (follows_append q f)

-- What begins the list, by itself, and the rest.
pub record Apart (Begins : List ℕ → List ℕ → Type 0) (s r : List ℕ) : Type 0 where
  pub bytes : List ℕ
  pub joined : s ≡ bytes ++ r
  pub alone : Begins bytes []

pub follows_apart : {lo hi n : ℕ} {t r : List ℕ} → Follows lo hi n t r → Apart (Follows lo hi n) t r
follows_apart end = record { bytes = []; joined = refl; alone = end }
follows_apart (next {b = b} x f) =
    let g = follows_apart f in
    record { bytes = b ∷ g.bytes; joined = ap (λ (l : List ℕ). b ∷ l) g.joined; alone = next x g.alone }

-- What begins the list p ++ b ∷ s and leaves r begins p too.
pub record Within (Begins : List ℕ → List ℕ → Type 0) (p : List ℕ) (b : ℕ) (s r : List ℕ) : Type 0 where
  pub rest : List ℕ
  pub joined : r ≡ rest ++ b ∷ s
  pub before : Begins p rest

-- The bytes that follow are no ASCII, so they end before an ASCII byte.
pub follows_within :
    {lo hi n : ℕ} {t r : List ℕ} (p : List ℕ) (b : ℕ) (s : List ℕ) → b < 0x80 → 0x80 ≤ lo → t ≡ p ++ b ∷ s → Follows lo hi n t r →
    Within (Follows lo hi n) p b s r
follows_within p b s h l e end = record { rest = p; joined = e; before = end }
follows_within [] b s h l e (next {b = c} x f) = let same : c ≡ b = cc in absurd (omega arith)
follows_within {lo} {hi} (d ∷ p) b s h l e (next {b = c} {t = t} x f) =
    let same : c ≡ d = cc in
    let first : In lo hi d = omega arith in
    let others : t ≡ p ++ b ∷ s = cc in
    let g = follows_within p b s h (omega arith) others f in
    record { rest = g.rest; joined = g.joined; before = next {r = g.rest} first g.before }
