-- Sources whose kept lexemes are the same: their first bad lexemes stand at the same one, and the inner parts of their lexemes are the same too.
-- Assumes nothing.
use mathlib.Core.Path.{◌≡◌, refl, sym, ap, subst, ◌∙◌}
use mathlib.Core.Bool.{Bool, true, false, cond}
use mathlib.Core.List.{List, [], ◌∷◌}
use Prim.Native.Nat.{ℕ, zero, suc, ◌+◌, ◌-◌, ◌≤◌}
use native.Mathlib.Omega.{arith}
use lib.ListN.{length, take, drop, length-drop}
use lib.Seq.{take-take, drop-drop, length-take-le}
use Rattle.lexemes.specs.declared.Lexeme.{Lexeme}
use Rattle.lexemes.specs.Kinds.{EOF}
use Rattle.lexemes.specs.Lexeme.{lexeme}
use Rattle.lexemes.specs.Kept.{dropped, bad, keep, Kept, first_bad, FirstBad}
use Rattle.lexemes.specs.Texts.{part}
use Rattle.lexemes.specs.Same.{SameList, none, more, SameLexemes, Place, here, later}
use Rattle.lexemes.proofs.KeptLaws.{dropped-good, lexemes_once}

-- ── The first bad lexeme ──────────────────────────────────────────────────────────────────────────

-- What is dropped is not bad. So the first bad lexeme of all is that of the kept ones.
pub bad_kept : (n : ℕ) (ls : List Lexeme) → first_bad n ls ≡ first_bad n (keep ls)
unfolding first_bad keep
bad_kept n [] = refl
bad_kept n (l ∷ ls) = by (dropped l.kind) refl (bad_kept n ls)
  where
    by : (d : Bool) → dropped l.kind ≡ d → first_bad n ls ≡ first_bad n (keep ls) → first_bad n (l ∷ ls) ≡ first_bad n (cond d (keep ls) (l ∷ keep ls))
    by true e q = ap (λ (b : Bool). cond b l (first_bad n ls)) (dropped-good l.kind e) ∙ q
    by false e q = ap (λ (x : Lexeme). cond (bad l.kind) l x) q

-- The first bad ones of two lists: none in either, or two of a kind at the same place.
pub data SameBad (p q : ℕ) (xs ys : List Lexeme) (n m : ℕ) (l k : Lexeme) : Type 0 where
  no_bad : l ≡ lexeme EOF n n → k ≡ lexeme EOF m m → SameBad p q xs ys n m l k
  a_bad : {i : ℕ} → l.kind ≡ k.kind → Place p xs i l.start l.end → Place q ys i k.start k.end → SameBad p q xs ys n m l k

module _ {s t : List ℕ} where
  same_bad : (p q n m : ℕ) {xs ys : List Lexeme} → SameList s t xs ys → SameBad p q xs ys n m (first_bad n xs) (first_bad m ys)
  unfolding first_bad
  same_bad p q n m none = no_bad refl refl
  same_bad p q n m (more {l = l} {m = k} {ls = xs} {ms = ys} e r) = by (bad l.kind) (bad k.kind) (ap bad e.kind) (same_bad l.end k.end n m r)
    where
      by : (b c : Bool) → b ≡ c → SameBad l.end k.end xs ys n m (first_bad n xs) (first_bad m ys)
          → SameBad p q (l ∷ xs) (k ∷ ys) n m (cond b l (first_bad n xs)) (cond c k (first_bad m ys))
      by true true h i = a_bad e.kind here here
      by true false h i = absurd (let z : ◌≡◌ {A = ℕ} 0 1 = cc in omega arith)
      by false true h i = absurd (let z : ◌≡◌ {A = ℕ} 0 1 = cc in omega arith)
      by false false h (no_bad x y) = no_bad x y
      by false false h (a_bad x y z) = a_bad x (later y) (later z)

  -- OF SOURCES WITH THE SAME KEPT LEXEMES: none has a bad lexeme, or the first bad ones are of one kind and stand at the same place.
  pub same_first_bad : (x : SameLexemes s t) {l k : Lexeme} → FirstBad s l → FirstBad t k → SameBad 0 0 x.left x.right (length s) (length t) l k
  same_first_bad x {l} {k} b c =
      subst (λ (y : Lexeme). SameBad 0 0 x.left x.right (length s) (length t) y k) (sym (of b x.kept_left))
      (subst (λ (y : Lexeme). SameBad 0 0 x.left x.right (length s) (length t) (first_bad (length s) x.left) y) (sym (of c x.kept_right))
      (same_bad 0 0 (length s) (length t) x.same))
    where
      of : {u : List ℕ} {y : Lexeme} {ys : List Lexeme} → FirstBad u y → Kept u 0 ys → y ≡ first_bad (length u) ys
      of {u} b k =
          b.is_first ∙ ap (first_bad (length u)) (lexemes_once b.all k.all) ∙ bad_kept (length u) k.lexemes ∙ ap (first_bad (length u)) (sym k.kept)

-- ── Parts of a text ───────────────────────────────────────────────────────────────────────────────

part_of_part : (m i n : ℕ) (l : List ℕ) → i + m ≤ n → take m (drop i (take n l)) ≡ take m (drop i l)
part_of_part m zero n l h = take-take m n l (omega arith)
part_of_part m (suc i) zero l h = absurd (omega arith)
part_of_part m (suc i) (suc n) [] h = refl
part_of_part m (suc i) (suc n) (x ∷ l) h = part_of_part m i n l (omega arith)

-- Where two parts are the same, so is what is left of them without so many bytes at the start and at the end.
pub same_inside : (s t : List ℕ) (a e b f i j : ℕ) → a + i ≤ e → b + i ≤ f → e ≤ length s → f ≤ length t → part s a e ≡ part t b f → part s (a + i) (e - j) ≡ part t (b + i) (f - j)
same_inside s t a e b f i j h g le lf q = inner s a e h ∙ middle ∙ sym (inner t b f g)
  where
    inner : (u : List ℕ) (a e : ℕ) → a + i ≤ e → part u (a + i) (e - j) ≡ take (e - j - (a + i)) (drop i (part u a e))
    inner u a e h = ap (take (e - j - (a + i))) (sym (drop-drop i a u)) ∙ sym (part_of_part (e - j - (a + i)) i (e - a) (drop a u) (omega arith))

    wide : (u : List ℕ) (a e : ℕ) → a ≤ e → e ≤ length u → length (part u a e) ≡ e - a
    wide u a e h l = length-take-le (e - a) (drop a u) (omega (arith, length-drop a u))

    as_wide : e - j - (a + i) ≡ f - j - (b + i)
    as_wide = omega (arith, wide s a e (omega arith) le, wide t b f (omega arith) lf, ap length q)

    middle : take (e - j - (a + i)) (drop i (part s a e)) ≡ take (f - j - (b + i)) (drop i (part t b f))
    middle = ap (λ (n : ℕ). take n (drop i (part s a e))) as_wide ∙ ap (λ (l : List ℕ). take (f - j - (b + i)) (drop i l)) q
