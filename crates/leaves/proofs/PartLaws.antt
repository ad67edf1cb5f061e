-- Laws of parts: a part of the source that is lent, and the rest of the output that is lent and written before its head is.
-- Assumes nothing.
use mathlib.Core.Path.{◌≡◌, refl, sym, ap, ap₂, subst, ◌∙◌}
use mathlib.Core.Logic.{◌⊎◌, inl, inr}
use mathlib.Core.List.{List, [], ◌∷◌, ◌++◌, append-nil}
use Prim.Native.Nat.{ℕ, zero, suc, ◌+◌, ◌-◌, ◌≤◌, ◌<◌}
use native.Mathlib.Omega.{arith}
use lib.ListN.{length, set, take, drop, take-append-drop, length-drop, drop_of_length-le}
use lib.Seq.{sets, slice, length-slice, take_all, take-nil, set_out, take-set-le, drop-set-add}
use Rattle.grammar.specs.Trees.{Field, text}
use Rattle.grammar.specs.Image.{entry, payload, two}
use Rattle.grammar.specs.Writing.{Wrote}

-- ── A part of the source ──────────────────────────────────────────────────────────────────────────

-- the code's part is the contracts'
pub lent : (a e : ℕ) (s : List ℕ) → take (e - a) (drop a s) ≡ slice a e s
lent zero e s = ap (λ (n : ℕ). take n s) (let q : e - 0 ≡ e = omega arith in q)
lent (suc a) zero s = ap (λ (n : ℕ). take n (drop (suc a) s)) (let q : 0 - suc a ≡ 0 = omega arith in q)
lent (suc a) (suc e) [] = take-nil (suc e - suc a)
lent (suc a) (suc e) (x ∷ s) = ap (λ (n : ℕ). take n (drop a s)) (let q : suc e - suc a ≡ e - a = omega arith in q) ∙ lent a e s

-- it is as short as the source
pub lent_short : (s : List ℕ) (a e : ℕ) → length s ≤ 65000 → e ≤ length s → length (take (e - a) (drop a s)) < 65000 + 1
lent_short s a e h i = omega (arith, ap length (lent a e s), length-slice a e s i, h, i)

-- a record that ends in one
pub wrote_lent : (t : ℕ) (f : List ℕ → List Field) (s : List ℕ) (a e : ℕ) {o o₁ : List ℕ} {w w₁ : ℕ} → Wrote o w (entry t (f (take (e - a) (drop a s)))) w₁ o₁
    → Wrote o w (entry t (f (slice a e s))) w₁ o₁
wrote_lent t f s a e {o} {o₁} {w} {w₁} u = subst (λ (l : List ℕ). Wrote o w (entry t (f l)) w₁ o₁) (lent a e s) u

-- ── The rest of the output ────────────────────────────────────────────────────────────────────────

sets-part : (out : List ℕ) (w j : ℕ) (bs : List ℕ) → take w out ++ sets (drop w out) j bs ≡ sets out (w + j) bs
sets-part out w j [] = take-append-drop w out
sets-part out w j (b ∷ bs) =
    ap₂ (λ (x y : List ℕ). x ++ sets y (suc j) bs) (sym (take-set-le w out (w + j) b (omega arith))) (sym (drop-set-add w out j b))
    ∙ sets-part (set out (w + j) b) w (suc j) bs
    ∙ ap (λ (n : ℕ). sets (set out (w + j) b) n bs) (let q : w + suc j ≡ suc (w + j) = omega arith in q)

-- what a callee wrote into the lent rest, said of the whole
pub sets-rest : (out last bs : List ℕ) (w : ℕ) → last ≡ sets (take (length out - w) (drop w out)) 0 bs
    → take w out ++ (last ++ drop (length out - w) (drop w out)) ≡ sets out w bs
sets-rest out last bs w e =
    ap₂ (λ (x y : List ℕ). take w out ++ (x ++ y))
    (e ∙ ap (λ (l : List ℕ). sets l 0 bs) (take_all (length out - w) (drop w out) (omega (arith, length-drop w out))))
    (drop_of_length-le (drop w out) {i = length out - w} (omega (arith, length-drop w out)))
    ∙ ap (λ (l : List ℕ). take w out ++ l) (append-nil (sets (drop w out) 0 bs))
    ∙ sets-part out w 0 bs
    ∙ ap (λ (n : ℕ). sets out n bs) (let q : w + 0 ≡ w = omega arith in q)

sets_none : (out : List ℕ) (w : ℕ) (bs : List ℕ) → length out ≤ w → sets out w bs ≡ out
sets_none out w [] h = refl
sets_none out w (b ∷ bs) h = ap (λ (l : List ℕ). sets l (suc w) bs) (set_out out w b h) ∙ sets_none out (suc w) bs (omega arith)

-- what was written first, and what is written before it
set_comm : (l : List ℕ) (i j x y : ℕ) → ¬ (i ≡ j) → set (set l i x) j y ≡ set (set l j y) i x
set_comm [] i j x y n = refl
set_comm (a ∷ l) zero zero x y n = absurd (n refl)
set_comm (a ∷ l) zero (suc j) x y n = refl
set_comm (a ∷ l) (suc i) zero x y n = refl
set_comm (a ∷ l) (suc i) (suc j) x y n = ap (λ (r : List ℕ). a ∷ r) (set_comm l i j x y (λ e. n (ap suc e)))

sets-set : (out : List ℕ) (w j x : ℕ) (bs : List ℕ) → j < w → sets (set out j x) w bs ≡ set (sets out w bs) j x
sets-set out w j x [] h = refl
sets-set out w j x (b ∷ bs) h =
    ap (λ (l : List ℕ). sets l (suc w) bs) (set_comm out j w x b (λ e. omega (arith, h, e))) ∙ sets-set (set out w b) (suc w) j x bs (omega arith)

sets-before : (out : List ℕ) (w : ℕ) (h bs : List ℕ) → sets (sets out (w + length h) bs) w h ≡ sets out w (h ++ bs)
sets-before out w [] bs = ap (λ (n : ℕ). sets out n bs) (let q : w + 0 ≡ w = omega arith in q)
sets-before out w (x ∷ h) bs =
    ap (λ (l : List ℕ). sets l (suc w) h) (sym (sets-set out (w + suc (length h)) w x bs (omega arith)))
    ∙ ap (λ (n : ℕ). sets (sets (set out w x) n bs) (suc w) h) (let q : w + suc (length h) ≡ suc w + length h = omega arith in q)
    ∙ sets-before (set out w x) (suc w) h bs

-- the same where there may be no room
sets_around : (out : List ℕ) (w from : ℕ) (h bs : List ℕ) → (from ≡ w + length h) ⊎ ((from ≡ length out) × (length out ≤ w + length h))
    → sets (sets out from bs) w h ≡ sets out w (h ++ bs)
sets_around out w from h bs (inl e) = ap (λ (n : ℕ). sets (sets out n bs) w h) e ∙ sets-before out w h bs
sets_around out w from h bs (inr e) =
    ap (λ (l : List ℕ). sets l w h) (sets_none out from bs (omega (arith, e.0)) ∙ sym (sets_none out (w + length h) bs e.1)) ∙ sets-before out w h bs

-- a text that was written first, with its head
pub text_wrote : (t : ℕ) (out : List ℕ) (w from : ℕ) (xs : List ℕ) {out₁ out₂ : List ℕ} {w₁ n : ℕ} → n ≡ length xs → out₁ ≡ sets out from xs
    → (from ≡ w + 3) ⊎ ((from ≡ length out) × (length out ≤ w + 3)) → Wrote out₁ w (t ∷ two n) w₁ out₂ → Wrote out w (entry t (text xs ∷ [])) (w₁ + n) out₂
unfolding entry payload
text_wrote t out w from xs {out₁} {out₂} {w₁} {n} e q h v =
    record {
      to = omega (arith, v.to, e);
      stored =
          v.stored ∙ ap (λ (l : List ℕ). sets l w (t ∷ two n)) q ∙ sets_around out w from (t ∷ two n) xs h
          ∙ ap (λ (k : ℕ). sets out w (t ∷ (two k ++ xs))) e;
    }
