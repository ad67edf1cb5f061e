-- Laws of writing: two writings one after the other, a head written after its payload, and a copy byte by byte.
-- Assumes nothing.
use mathlib.Core.Path.{◌≡◌, refl, sym, ap, subst, ◌∙◌}
use mathlib.Core.List.{List, [], ◌∷◌, ◌++◌}
use Prim.Native.Nat.{ℕ, zero, suc, ◌+◌, ◌≤◌, ◌<◌}
use native.Mathlib.Omega.{arith}
use native.Mathlib.Numerals.{add-one}
use lib.ListN.{length, get_or, set, take, length-append}
use lib.Seq.{sets, set_out, length-take-le, take-suc}
use Rattle.strings.proofs.Stores.{sets_append}
use Rattle.grammar.specs.Image.{two}
use Rattle.grammar.specs.Writing.{Wrote}

-- Two writings, one after the other, are one.
pub and_then : {out out₁ out₂ xs ys : List ℕ} {w w₁ w₂ : ℕ} → Wrote out w xs w₁ out₁ → Wrote out₁ w₁ ys w₂ out₂ → Wrote out w (xs ++ ys) w₂ out₂
and_then {out} {xs = xs} {ys = ys} {w} {w₁} p q =
    record {
      to = omega (arith, p.to, q.to, length-append xs ys);
      stored = q.stored ∙ ap (λ (l : List ℕ). sets l w₁ ys) p.stored ∙ sets_append out w w₁ xs ys p.to;
    }

-- The same length, written otherwise.
pub head_is : {out out₁ : List ℕ} {w w₁ : ℕ} (t n m : ℕ) → n ≡ m → Wrote out w (t ∷ two n) w₁ out₁ → Wrote out w (t ∷ two m) w₁ out₁
head_is {out} {out₁} {w} {w₁} t n m e v = subst (λ (k : ℕ). Wrote out w (t ∷ two k) w₁ out₁) e v

-- Two bytes stored one by one; and bytes of which the output, which is full, takes none.
pub both : (out : List ℕ) (w a b : ℕ) → set (set out w a) (w + 1) b ≡ sets out w (a ∷ b ∷ [])
both out w a b = ap (λ (x : ℕ). set (set out w a) x b) (add-one w)

pub full : (out : List ℕ) (w : ℕ) (bs : List ℕ) → length out ≤ w → out ≡ sets out w bs
full out w [] h = refl
full out w (b ∷ bs) h = full out (suc w) bs (omega arith) ∙ ap (λ (l : List ℕ). sets l (suc w) bs) (sym (set_out _ _ _ h))

-- One byte more of a text.
pub copied : (out s now : List ℕ) (w i : ℕ) → i < length s → now ≡ sets out w (take i s) → set now (w + i) (get_or s i 0) ≡ sets out w (take (i + 1) s)
copied out s now w i h e =
    ap (λ (l : List ℕ). set l (w + i) (get_or s i 0)) e
    ∙ sets_append out w (w + i) (take i s) (get_or s i 0 ∷ []) (omega (arith, length-take-le i s (omega arith)))
    ∙ ap (λ (l : List ℕ). sets out w l) (sym (take-suc s i 0 h))
    ∙ ap (λ (n : ℕ). sets out w (take n s)) (sym (add-one i))

-- A store before others.
store_first : (out : List ℕ) (w j x : ℕ) (bs : List ℕ) → j < w → sets (set out j x) w bs ≡ set (sets out w bs) j x
store_first out w j x [] h = refl
store_first out w j x (b ∷ bs) h = ap (λ (l : List ℕ). sets l (suc w) bs) (set_swap out j w x b (λ e. omega (arith, h, e))) ∙ store_first (set out w b) (suc w) j x bs (omega arith)
  where
    set_swap : (l : List ℕ) (i j x y : ℕ) → ¬ (i ≡ j) → set (set l i x) j y ≡ set (set l j y) i x
    set_swap [] i j x y n = refl
    set_swap (a ∷ l) zero zero x y n = absurd (n refl)
    set_swap (a ∷ l) zero (suc j) x y n = refl
    set_swap (a ∷ l) (suc i) zero x y n = refl
    set_swap (a ∷ l) (suc i) (suc j) x y n = ap (λ (r : List ℕ). a ∷ r) (set_swap l i j x y (λ e. n (ap suc e)))

-- A head may be written after the payload behind it.
pub head_last : (out : List ℕ) (w : ℕ) (head bs : List ℕ) → sets (sets out (w + length head) bs) w head ≡ sets out w (head ++ bs)
head_last out w [] bs = ap (λ (n : ℕ). sets out n bs) (omega arith)
head_last out w (x ∷ head) bs =
    ap (λ (l : List ℕ). sets l (suc w) head) (sym (store_first out (w + suc (length head)) w x bs (omega arith)))
    ∙ ap (λ (n : ℕ). sets (sets (set out w x) n bs) (suc w) head) (omega arith)
    ∙ head_last (set out w x) (suc w) head bs
