-- What bytes spell, taken apart: in two parts, and byte by byte; and the limit's digits.
-- Assumes nothing.
use mathlib.Core.Path.{◌≡◌, refl, sym, ap, subst, ◌∙◌}
use mathlib.Core.Bool.{Bool, true, false, ◌&&◌, cond}
use mathlib.Core.List.{List, [], ◌∷◌, ◌++◌}
use mathlib.Core.Logic.{◌⊎◌, ⊎_elim}
use Prim.Native.Nat.{ℕ, suc, ◌+◌, ◌-◌, ◌*◌, ◌%◌, ◌^◌, ◌≤◌, ◌<◌}
use native.Mathlib.Omega.{arith}
use native.Mathlib.Numerals.{add-one}
use native.Mathlib.Nat.{mul_assoc, add-mul, mul-le-mul_right}
use lib.Dec.{T, leb, leb→le, le→leb}
use lib.Pow.{pow-add}
use lib.ListN.{length, take, drop, get_or, length-take, length-drop, take-append-drop}
use lib.Seq.{take-suc}
use Rattle.regexes.proofs.Bools.{all, all_at}
use Rattle.numerals.specs.Value.{LIMIT, is_digit, spelled, digits}
use Rattle.numerals.specs.Inner.{limit_digits, pushed}

-- A digit is worth at most 9.
pub worth : (b : ℕ) → T (is_digit b) → (48 ≤ b) × (b ≤ 57)
worth b t = by (leb 48 b) (leb b 57) t (leb→le 48 b) (leb→le b 57)
  where
    by : (x y : Bool) → T (x && y) → (T x → 48 ≤ b) → (T y → b ≤ 57) → (48 ≤ b) × (b ≤ 57)
    by true true t f g = (f tt, g tt)
    by true false t f g = absurd t
    by false y t f g = absurd t

pub spelled_append : (n : ℕ) (s t : List ℕ) → spelled n (s ++ t) ≡ spelled (spelled n s) t
unfolding spelled
spelled_append n [] t = refl
spelled_append n (b ∷ s) t = spelled_append (pushed n b) s t

pub digits_append : (s t : List ℕ) → digits (s ++ t) ≡ digits s + digits t
unfolding digits
digits_append [] t = omega arith
digits_append (b ∷ s) t = by (is_digit b) (digits_append s t)
  where
    by : (x : Bool) → digits (s ++ t) ≡ digits s + digits t
        → cond x (1 + digits (s ++ t)) (digits (s ++ t)) ≡ cond x (1 + digits s) (digits s) + digits t
    by true h = omega arith
    by false h = h

pub digits-length : (t : List ℕ) → digits t ≤ length t
unfolding digits
digits-length [] = omega arith
digits-length (b ∷ t) = by (is_digit b) (digits-length t)
  where
    by : (x : Bool) → digits t ≤ length t → cond x (1 + digits t) (digits t) ≤ suc (length t)
    by true h = omega arith
    by false h = omega arith

-- What follows n moves it up by as many places as it has digits.
pub spelled-behind : (n : ℕ) (t : List ℕ) → spelled n t ≡ n * 10 ^ digits t + spelled 0 t
unfolding spelled digits
spelled-behind n [] = omega arith
spelled-behind n (b ∷ t) = by (is_digit b) (λ m. spelled-behind m t)
  where
    by : (x : Bool) → ((m : ℕ) → spelled m t ≡ m * 10 ^ digits t + spelled 0 t)
        → spelled (cond x (n * 10 + (b - 48)) n) t ≡ n * 10 ^ cond x (1 + digits t) (digits t) + spelled (cond x (0 * 10 + (b - 48)) 0) t
    by false h = h n
    by true h =
        let d = b - 48 in
        let p = 10 ^ digits t in
        let shift : n * 10 ^ (1 + digits t) ≡ n * 10 * p = ap (λ (x : ℕ). n * x) (pow-add 10 1 (digits t)) ∙ sym (mul_assoc n 10 p) in
        let apart : (n * 10 + d) * p ≡ n * 10 * p + d * p = add-mul (n * 10) d p in
        let low : spelled (0 * 10 + d) t ≡ (0 * 10 + d) * p + spelled 0 t = h (0 * 10 + d) in
        let zero-d : (0 * 10 + d) * p ≡ d * p = ap (λ (x : ℕ). x * p) (omega arith) in
        omega (arith, h (n * 10 + d), shift, apart, low, zero-d)

pub spelled_small : (t : List ℕ) → spelled 0 t < 10 ^ digits t
unfolding spelled digits
spelled_small [] = omega arith
spelled_small (b ∷ t) = by (is_digit b) (worth b) (spelled_small t)
  where
    by : (x : Bool) → (T x → (48 ≤ b) × (b ≤ 57)) → spelled 0 t < 10 ^ digits t
        → spelled (cond x (0 * 10 + (b - 48)) 0) t < 10 ^ cond x (1 + digits t) (digits t)
    by false w h = h
    by true w h =
        let d = 0 * 10 + (b - 48) in
        let p = 10 ^ digits t in
        let nine : d ≤ 9 = omega (arith, (w tt).1) in
        omega (arith, spelled-behind d t, mul-le-mul_right p nine, pow-add 10 1 (digits t))

-- A digit, and a byte that is none.
pub pushed-digit : (n b : ℕ) → T (is_digit b) → spelled n (b ∷ []) ≡ n * 10 + (b - 48)
unfolding spelled
pushed-digit n b t = by (is_digit b) t
  where
    by : (x : Bool) → T x → cond x (n * 10 + (b - 48)) n ≡ n * 10 + (b - 48)
    by true t = refl
    by false t = absurd t

pub pushed_none : (n b : ℕ) → (b < 48) ⊎ (57 < b) → pushed n b ≡ n
pushed_none n b h = by (is_digit b) (worth b)
  where
    by : (x : Bool) → (T x → (48 ≤ b) × (b ≤ 57)) → cond x (n * 10 + (b - 48)) n ≡ n
    by true w = absurd (⊎_elim (λ l. omega (arith, l, (w tt).0)) (λ l. omega (arith, l, (w tt).1)) h)
    by false w = refl

pub is_digit_lem : (b : ℕ) → 48 ≤ b → b ≤ 57 → T (is_digit b)
is_digit_lem b l h = by (leb 48 b) (leb b 57) (le→leb 48 b l) (le→leb b 57 h)
  where
    by : (x y : Bool) → T x → T y → T (x && y)
    by true y t u = u
    by false y t u = absurd t

one : (b : ℕ) → T (is_digit b) → digits (b ∷ []) ≡ 1
unfolding digits
one b t = by (is_digit b) t
  where
    by : (x : Bool) → T x → cond x (1 + 0) 0 ≡ 1
    by true t = refl
    by false t = absurd t

no_one : (b : ℕ) → (b < 48) ⊎ (57 < b) → digits (b ∷ []) ≡ 0
unfolding digits
no_one b h = by (is_digit b) (worth b)
  where
    by : (x : Bool) → (T x → (48 ≤ b) × (b ≤ 57)) → cond x (1 + 0) 0 ≡ 0
    by true w = absurd (⊎_elim (λ l. omega (arith, l, (w tt).0)) (λ l. omega (arith, l, (w tt).1)) h)
    by false w = refl

-- One byte more.
pub spelled-next : (t : List ℕ) (i : ℕ) → i < length t → spelled 0 (take (i + 1) t) ≡ pushed (spelled 0 (take i t)) (get_or t i 0)
unfolding spelled
spelled-next t i h =
    ap (λ (j : ℕ). spelled 0 (take j t)) (add-one i) ∙ ap (spelled 0) (take-suc t i 0 h) ∙ spelled_append 0 (take i t) (get_or t i 0 ∷ [])

digits-next : (t : List ℕ) (i : ℕ) → i < length t → digits (take (i + 1) t) ≡ digits (take i t) + digits (get_or t i 0 ∷ [])
digits-next t i h = ap (λ (j : ℕ). digits (take j t)) (add-one i) ∙ ap digits (take-suc t i 0 h) ∙ digits_append (take i t) (get_or t i 0 ∷ [])

pub counts : (t : List ℕ) (i : ℕ) → i < length t → 48 ≤ get_or t i 0 → get_or t i 0 ≤ 57 → digits (take (i + 1) t) ≡ digits (take i t) + 1
counts t i h l g = digits-next t i h ∙ ap (λ (n : ℕ). digits (take i t) + n) (one (get_or t i 0) (is_digit_lem (get_or t i 0) l g))

pub counts_not : (t : List ℕ) (i : ℕ) → i < length t → (get_or t i 0 < 48) ⊎ (57 < get_or t i 0) → digits (take (i + 1) t) ≡ digits (take i t)
counts_not t i h l = digits-next t i h ∙ ap (λ (n : ℕ). digits (take i t) + n) (no_one (get_or t i 0) l) ∙ omega arith

-- ── The limit's digits ────────────────────────────────────────────────────────────────────────────

pub limit-length : length limit_digits ≡ 309
unfolding limit_digits
limit-length = refl

limit-digits : digits limit_digits ≡ 309
unfolding limit_digits digits
limit-digits = refl

pub limit-spelled : spelled 0 limit_digits ≡ LIMIT
unfolding limit_digits spelled LIMIT
limit-spelled = refl

pub limit_last : LIMIT % 10 ≡ 2
unfolding LIMIT
limit_last = refl

pub limit-digit : (k : ℕ) → k < 309 → T (is_digit (get_or limit_digits k 0))
unfolding limit_digits all
limit-digit k h = all_at (λ i. is_digit (get_or limit_digits i 0)) 309 tt k h

-- One more of them; and the limit cut behind the first k.
pub limit-next : (k : ℕ) → k < 309 → spelled 0 (take (k + 1) limit_digits) ≡ spelled 0 (take k limit_digits) * 10 + (get_or limit_digits k 0 - 48)
limit-next k h =
    ap (λ (i : ℕ). spelled 0 (take i limit_digits)) (add-one k) ∙ ap (spelled 0) (take-suc limit_digits k 0 (subst (λ (n : ℕ). k < n) (sym limit-length) h))
    ∙ spelled_append 0 (take k limit_digits) (get_or limit_digits k 0 ∷ []) ∙ pushed-digit (spelled 0 (take k limit_digits)) (get_or limit_digits k 0) (limit-digit k h)

pub limit_cut : (k j : ℕ) → k + j ≡ 309 → (spelled 0 (take k limit_digits) * 10 ^ j ≤ LIMIT) × (LIMIT < (spelled 0 (take k limit_digits) + 1) * 10 ^ j)
limit_cut k j h = (omega (arith, whole), omega (arith, whole, small, add-mul p 1 (10 ^ j)))
  where
    p : ℕ
    p = spelled 0 (take k limit_digits)

    rest : List ℕ
    rest = drop k limit_digits

    left : digits rest ≡ j
    left =
        omega (
          arith,
          digits_append (take k limit_digits) rest,
          ap digits (take-append-drop k limit_digits),
          limit-digits,
          digits-length (take k limit_digits),
          digits-length rest,
          length-take k limit_digits,
          length-drop k limit_digits,
          limit-length,
        )

    whole : LIMIT ≡ p * 10 ^ j + spelled 0 rest
    whole =
        sym limit-spelled ∙ ap (spelled 0) (sym (take-append-drop k limit_digits)) ∙ spelled_append 0 (take k limit_digits) rest ∙ spelled-behind p rest
        ∙ ap (λ (i : ℕ). p * 10 ^ i + spelled 0 rest) left

    small : spelled 0 rest < 10 ^ j
    small = subst (λ (i : ℕ). spelled 0 rest < 10 ^ i) left (spelled_small rest)
