-- What stands before a byte, and behind it, as a scan finds it.
-- Assumes nothing.
use mathlib.Core.Path.{◌≡◌, refl, sym, ap, subst, ◌∙◌}
use mathlib.Core.Bool.{Bool, true, false, ◌||◌, cond}
use mathlib.Core.List.{List, [], ◌∷◌, ◌++◌, append-nil, append_assoc}
use mathlib.Core.Logic.{◌⊎◌, inl, inr, ⊎_elim}
use Prim.Native.Nat.{ℕ, suc, ◌+◌, ◌≤◌, ◌<◌}
use native.Mathlib.Omega.{arith}
use native.Mathlib.Numerals.{add-one}
use lib.Dec.{T, eqb, eqb→eq, eqb_refl, ltb, leb-zero, leb-suc-suc}
use lib.ListN.{length, take, drop, get_or, drop_of_length-le}
use lib.Seq.{take-suc, drop-cons}
use Rattle.std.specs.Prelude.{count_by}
use Rattle.std.proofs.lemmas.List.Sums.{sum_by-cons}
use Rattle.std.specs.Char.{is_ascii_digit}
use Rattle.numerals.specs.Value.{is_digit, digits, before, behind, has}
use Rattle.numerals.specs.Inner.{Found, Past}

is_eqb : (b x : ℕ) → b ≡ x → T (eqb b x)
is_eqb b x e = subst (λ (i : ℕ). T (eqb b i)) e (eqb_refl b)

module _ (x y b : ℕ) (bs : List ℕ) where
  pub before_here : (b ≡ x) ⊎ (b ≡ y) → before x y (b ∷ bs) ≡ []
  unfolding before
  before_here h = by (eqb b x) (eqb b y) (⊎_elim (λ e. inl (is_eqb b x e)) (λ e. inr (is_eqb b y e)) h)
    where
      by : (p q : Bool) → T p ⊎ T q → cond (p || q) [] (b ∷ before x y bs) ≡ []
      by true q t = refl
      by false true t = refl
      by false false t = absurd (⊎_elim (λ u. u) (λ u. u) t)

  pub behind-here : (b ≡ x) ⊎ (b ≡ y) → behind x y (b ∷ bs) ≡ bs
  unfolding behind
  behind-here h = by (eqb b x) (eqb b y) (⊎_elim (λ e. inl (is_eqb b x e)) (λ e. inr (is_eqb b y e)) h)
    where
      by : (p q : Bool) → T p ⊎ T q → cond (p || q) bs (behind x y bs) ≡ bs
      by true q t = refl
      by false true t = refl
      by false false t = absurd (⊎_elim (λ u. u) (λ u. u) t)

  pub before_other : (b ≡ x → ⊥) → (b ≡ y → ⊥) → before x y (b ∷ bs) ≡ b ∷ before x y bs
  unfolding before
  before_other n m = by (eqb b x) (eqb b y) (λ t. n (eqb→eq b x t)) (λ t. m (eqb→eq b y t))
    where
      by : (p q : Bool) → (T p → ⊥) → (T q → ⊥) → cond (p || q) [] (b ∷ before x y bs) ≡ b ∷ before x y bs
      by false false f g = refl
      by true q f g = absurd (f tt)
      by false true f g = absurd (g tt)

  pub behind_other : (b ≡ x → ⊥) → (b ≡ y → ⊥) → behind x y (b ∷ bs) ≡ behind x y bs
  unfolding behind
  behind_other n m = by (eqb b x) (eqb b y) (λ t. n (eqb→eq b x t)) (λ t. m (eqb→eq b y t))
    where
      by : (p q : Bool) → (T p → ⊥) → (T q → ⊥) → cond (p || q) bs (behind x y bs) ≡ behind x y bs
      by false false f g = refl
      by true q f g = absurd (f tt)
      by false true f g = absurd (g tt)

-- Neither byte stands before i.
pub record Sought (t : List ℕ) (x y i : ℕ) : Type 0 where
  pub within : i ≤ length t
  pub front : before x y t ≡ take i t ++ before x y (drop i t)
  pub rest : behind x y t ≡ behind x y (drop i t)

pub sought_begun : (t : List ℕ) (x y : ℕ) → Sought t x y 0
sought_begun t x y = record { within = omega arith; front = refl; rest = refl }

module _ {t : List ℕ} {x y i : ℕ} (s : Sought t x y i) where
  pub sought_on : i < length t → (get_or t i 0 ≡ x → ⊥) → (get_or t i 0 ≡ y → ⊥) → Sought t x y (i + 1)
  sought_on h n m =
      let b = get_or t i 0 in
      record {
        within = omega arith;
        front = s.front ∙ ap (λ (l : List ℕ). take i t ++ before x y l) (drop-cons t i 0 h)
            ∙ ap (λ (l : List ℕ). take i t ++ l) (before_other x y b (drop (suc i) t) n m)
            ∙ sym (append_assoc (take i t) (b ∷ []) (before x y (drop (suc i) t)))
            ∙ ap (λ (l : List ℕ). l ++ before x y (drop (suc i) t)) (sym (take-suc t i 0 h))
            ∙ ap (λ (j : ℕ). take j t ++ before x y (drop j t)) (sym (add-one i));
        rest = s.rest ∙ ap (behind x y) (drop-cons t i 0 h) ∙ behind_other x y b (drop (suc i) t) n m ∙ ap (λ (j : ℕ). behind x y (drop j t)) (sym (add-one i));
      }

  pub sought_here : i < length t → (get_or t i 0 ≡ x) ⊎ (get_or t i 0 ≡ y) → Found t x y i
  sought_here h e =
      let b = get_or t i 0 in
      record {
        within = omega arith;
        front = sym (s.front ∙ ap (λ (l : List ℕ). take i t ++ before x y l) (drop-cons t i 0 h)
            ∙ ap (λ (l : List ℕ). take i t ++ l) (before_here x y b (drop (suc i) t) e) ∙ append-nil (take i t));
        rest = ap (λ (j : ℕ). drop j t) (add-one i) ∙ sym (s.rest ∙ ap (behind x y) (drop-cons t i 0 h) ∙ behind-here x y b (drop (suc i) t) e);
      }

  pub sought_all : length t ≤ i → Found t x y i
  unfolding before behind
  sought_all h =
      let over : drop i t ≡ [] = drop_of_length-le t h in
      record {
        within = s.within;
        front = sym (s.front ∙ ap (λ (l : List ℕ). take i t ++ before x y l) over ∙ append-nil (take i t));
        rest = drop_of_length-le t {i = i + 1} (omega arith) ∙ sym (s.rest ∙ ap (behind x y) over);
      }

-- What stands behind, from the place where the code begins.
pub drop_past : (t : List ℕ) {x y r p : ℕ} → Found t x y r → Past r (length t) p → drop p t ≡ behind x y t
drop_past t {r = r} {p = p} f q =
    ⊎_elim (λ e. ap (λ (i : ℕ). drop i t) e ∙ f.rest) (λ e. drop_of_length-le t {i = p} (omega (arith, e.0)) ∙ sym (drop_of_length-le t {i = r + 1} (omega (arith, e.1))) ∙ f.rest) q.past

-- A byte is there if something stands behind what stands before it.
pub has-before : (x : ℕ) (t : List ℕ) → has x t ≡ ltb (length (before x x t)) (length t)
unfolding has before
has-before x [] = refl
has-before x (b ∷ t) = by (eqb b x) (has-before x t)
  where
    by : (p : Bool) → has x t ≡ ltb (length (before x x t)) (length t)
        → (p || has x t) ≡ ltb (length (cond (p || p) [] (b ∷ before x x t))) (suc (length t))
    by true h = sym (leb-suc-suc 0 (length t) ∙ leb-zero (length t))
    by false h = h ∙ sym (leb-suc-suc (suc (length (before x x t))) (length t))

pub behind_short : (x y : ℕ) (t : List ℕ) → length (behind x y t) ≤ length t
unfolding behind
behind_short x y [] = omega arith
behind_short x y (b ∷ t) = by (eqb b x || eqb b y) (behind_short x y t)
  where
    by : (p : Bool) → length (behind x y t) ≤ length t → length (cond p t (behind x y t)) ≤ suc (length t)
    by true h = omega arith
    by false h = omega arith

pub before_short : (x y : ℕ) (t : List ℕ) → length (before x y t) ≤ length t
unfolding before
before_short x y [] = omega arith
before_short x y (b ∷ t) = by (eqb b x || eqb b y) (before_short x y t)
  where
    by : (p : Bool) → length (before x y t) ≤ length t → length (cond p [] (b ∷ before x y t)) ≤ suc (length t)
    by true h = omega arith
    by false h = omega arith

-- What was found stands between the two.
pub found_between : (x y : ℕ) (t : List ℕ) → 1 ≤ length (behind x y t) → length (before x y t) + length (behind x y t) < length t
unfolding before behind
found_between x y [] = λ h. absurd (omega (arith, h))
found_between x y (b ∷ t) = by (eqb b x || eqb b y) (found_between x y t)
  where
    by : (p : Bool) → (1 ≤ length (behind x y t) → length (before x y t) + length (behind x y t) < length t)
        → 1 ≤ length (cond p t (behind x y t)) → length (cond p [] (b ∷ before x y t)) + length (cond p t (behind x y t)) < suc (length t)
    by true h k = omega arith
    by false h k = omega (arith, h k)

-- A chain's count of the digits.
pub counted : (t : List ℕ) → count_by is_ascii_digit t ≡ digits t
unfolding digits
counted [] = refl
counted (b ∷ t) = sum_by-cons (λ (x : ℕ). cond (is_ascii_digit x) 1 0) b t ∙ by (is_digit b) (counted t)
  where
    by : (p : Bool) → count_by is_ascii_digit t ≡ digits t → cond p 1 0 + count_by is_ascii_digit t ≡ cond p (1 + digits t) (digits t)
    by true h = ap (λ (n : ℕ). 1 + n) h
    by false h = omega (arith, h)
