-- What the inner functions promise each other. Nothing here has to be believed: the public contract does not name it.
-- Assumes nothing.
use Rattle.std.specs.Prelude.{◌≡◌, Bool, true, false, cond, List, [], ◌∷◌, ◌⊎◌, ℕ, ◌+◌, ◌-◌, ◌*◌, ◌^◌, ◌≤◌, ◌<◌, T, length, take, drop}
use Prim.Native.Char.{code}
use Prim.Native.String.{String, [] as nil, ◌∷◌ as ◌then◌}
use Rattle.numerals.specs.Value.{LIMIT, is_digit, spelled, before, behind, AtLeast}
use Rattle.std.specs.declared.cmp.Ordering.{Ordering}
use Rattle.std.specs.declared.cmp.Ordering.TheVariants.{Less, Equal, Greater}
use Rattle.numerals.specs.declared.Lead.{Lead}

abbrev pub ascii : String → List ℕ
ascii nil = []
ascii (c then s) = code c ∷ ascii s

-- The limit's 309 digits.
unfoldable pub limit_digits : List ℕ
limit_digits =
    ascii
    "179769313486231580793728971405303415079934132710037826936173778980444968292764750946649017977587207096330286416692887910946555547851940402630657488671505820681908902000708383676273854845817711531764475730270069855571366959622842914819860834936475292719074168444365510704342711559699508093042880177904174497792"

-- The number of which k digits are n, whatever follows them, is at least the limit where it has 309 digits before the point, or below it.
pub record Reaches (n k : ℕ) : Type 0 where
  pub reached : (up down : ℕ) → k + up ≡ 309 + down → AtLeast n up down

pub record Misses (n k : ℕ) : Type 0 where
  pub missed : (up down : ℕ) → k + up ≡ 309 + down → (n + 1) * 10 ^ up ≤ LIMIT * 10 ^ down

-- How k digits, which spell n, stand to the limit's first ones.
pub data Ordered (n k : ℕ) : Ordering → Type 0 where
  equal : k ≤ 309 → n ≡ spelled 0 (take k limit_digits) → Ordered n k Equal
  above : Reaches n k → Ordered n k Greater
  below : Misses n k → Ordered n k Less

-- What is kept of the digits so far, which spell n: how many there are from the first that is not 0 on, and how these stand to the limit's.
pub record Led (n : ℕ) (l : Lead) : Type 0 where
  pub size : n < 10 ^ l.count
  pub full : 1 ≤ l.count → 10 ^ l.count ≤ n * 10
  pub order : Ordered n l.count l.order

-- One digit more, and one byte more.
abbrev pub pushed : ℕ → ℕ → ℕ
pushed n b = cond (is_digit b) (n * 10 + (b - code "0")) n

pub record Compares (o : Ordering) (k b : ℕ) (r : Ordering) : Type 0 where
  pub compares : (n : ℕ) → T (is_digit b) → Ordered n k o → Ordered (n * 10 + (b - code "0")) (k + 1) r

pub record Pushes (l : Lead) (b : ℕ) (r : Lead) : Type 0 where
  pub step : (n : ℕ) → Led n l → Led (pushed n b) r
  pub grows : r.count ≤ l.count + 1

-- A test's answer.
abbrev pub Says : Bool → Type 0 → Type 0
Says true A = A
Says false A = A → ⊥

-- The digits, times 10^up and divided by 10^(down + over), have `size` digits before the point when `down` places are left out. Where both
-- sizes are beyond what matters, they need not agree.
pub record Decides (l : Lead) (size down : ℕ) (r : Bool) : Type 0 where
  pub decides : (n up over : ℕ) → Led n l → (size + over ≡ l.count + up) ⊎ ((310 + down ≤ size) × (310 + (down + over) ≤ l.count + up))
      → Says r (AtLeast n up (down + over))

-- The first of two bytes.
pub record Found (t : List ℕ) (x y r : ℕ) : Type 0 where
  pub within : r ≤ length t
  pub front : take r t ≡ before x y t
  pub rest : drop (r + 1) t ≡ behind x y t

-- The place behind a byte that was found, or the end.
pub record Past (at end r : ℕ) : Type 0 where
  pub within : r ≤ end
  pub past : (r ≡ at + 1) ⊎ ((r ≡ end) × (end ≤ at))

-- r is n, or both are at least the cap.
pub record Capped (cap n r : ℕ) : Type 0 where
  pub bounded : r ≤ cap + 9
  pub same : (r ≡ n) ⊎ ((cap ≤ n) × (cap ≤ r))

pub record Appends (n b cap r : ℕ) : Type 0 where
  pub appends : (m : ℕ) → Capped cap m n → Capped cap (pushed m b) r
