-- Where two sources part: there is one answer, it is `None` exactly for sources whose kept lexemes are the same, and how the code finds it.
-- Assumes nothing.
use Rattle.std.proofs.Common.{◌≡◌, refl, sym, ap, subst, ◌∙◌, Bool, true, false, None, Some, List, [], ◌∷◌, ℕ, ◌-◌, ◌≤◌, arith, length, take, drop}
use Rattle.lexemes.specs.declared.Lexeme.{Lexeme}
use Rattle.lexemes.specs.Kinds.{EOF}
use Rattle.lexemes.specs.Lexeme.{lexeme}
use Rattle.lexemes.specs.Kept.{Kept, first, NextKept}
use Rattle.lexemes.specs.Texts.{text_of}
use Rattle.lexemes.specs.Scan.{Says}
use Rattle.lexemes.specs.Same.{SameLexeme, SameList, none, more, SameLexemes}
use Rattle.lexemes.proofs.KeptLaws.{Rest, kept_step, kept_once, next_eof, next-some, next_bounds}
use Rattle.same.specs.Parting.{Parting, Parts, both_over, on, here, FirstDifference}

-- The next kept lexeme lies in its source.
pub lies : {u : List ℕ} {p : ℕ} {l : Lexeme} → p ≤ length u → NextKept u p l → (p ≤ l.start) × (l.start ≤ l.end) × (l.end ≤ length u)
lies {u} {p} {l} h n = by n.left (kept_step n.is_left) n.is_first
  where
    by : (ks : List Lexeme) → Rest u p ks → l ≡ first p ks → (p ≤ l.start) × (l.start ≤ l.end) × (l.end ≤ length u)
    by [] r e = subst (λ (m : Lexeme). (p ≤ m.start) × (m.start ≤ m.end) × (m.end ≤ length u)) (sym e) (omega arith, omega arith, h)
    by (k ∷ ks) (Rest.next f g i d z y) e = subst (λ (m : Lexeme). (p ≤ m.start) × (m.start ≤ m.end) × (m.end ≤ length u)) (sym e) (f, omega arith, i)

-- On the way of the code: all lexemes up to p and q are the same.
pub record Along (s t : List ℕ) (p q : ℕ) : Type 0 where
  pub left : p ≤ length s
  pub right : q ≤ length t
  pub back : {ls ms : List Lexeme} {r : Parting} → Kept s p ls → Kept t q ms → Parts s t p q ls ms r → FirstDifference s t r

module _ {s t : List ℕ} where
  -- ── One answer ──────────────────────────────────────────────────────────────────────────────────

  -- No text is left at both ends.
  ends_same : (p q : ℕ) → SameLexeme s t (lexeme EOF p p) (lexeme EOF q q)
  ends_same p q =
      let x : p - p ≡ q - q = omega arith in
      let y : q - q ≡ 0 = omega arith in
      record { kind = refl; text = ap (λ (n : ℕ). take n (drop p s)) (x ∙ y) ∙ sym (ap (λ (n : ℕ). take n (drop q t)) y) }

  pub parts_once : {p q : ℕ} {ls ms : List Lexeme} {r r' : Parting} → Parts s t p q ls ms r → Parts s t p q ls ms r' → r ≡ r'
  parts_once both_over both_over = refl
  parts_once {p} {q} both_over (here h) = absurd (h (ends_same p q))
  parts_once (on e x) (on e' y) = parts_once x y
  parts_once (on e x) (here h) = absurd (h e)
  parts_once {p} {q} (here h) both_over = absurd (h (ends_same p q))
  parts_once (here h) (on e y) = absurd (h e)
  parts_once (here h) (here h') = refl

  -- NO SECOND ANSWER.
  pub difference_once : {r r' : Parting} → FirstDifference s t r → FirstDifference s t r' → r ≡ r'
  difference_once {r} {r'} x y =
      parts_once x.parts (subst (λ (ls : List Lexeme). Parts s t 0 0 ls x.right r') (kept_once y.kept_left x.kept_left)
      (subst (λ (ms : List Lexeme). Parts s t 0 0 y.left ms r') (kept_once y.kept_right x.kept_right) y.parts))

  -- ── `None` ──────────────────────────────────────────────────────────────────────────────────────

  parts_same : {p q : ℕ} {ls ms : List Lexeme} {r : Parting} → Parts s t p q ls ms r → r ≡ None → SameList s t ls ms
  parts_same both_over e = none
  parts_same (on x y) e = more x (parts_same y e)
  parts_same (here h) e = cc

  same_parts : {p q : ℕ} {ls ms : List Lexeme} → SameList s t ls ms → Parts s t p q ls ms None
  same_parts none = both_over
  same_parts (more x y) = on x (same_parts y)

  -- `None` IS SAID OF TWO SOURCES EXACTLY WHERE THEIR KEPT LEXEMES ARE THE SAME.
  pub said_same : FirstDifference s t None → SameLexemes s t
  said_same x = record { left = x.left; right = x.right; kept_left = x.kept_left; kept_right = x.kept_right; same = parts_same x.parts refl }

  pub same_said : {r : Parting} → SameLexemes s t → FirstDifference s t r → r ≡ None
  same_said x y = difference_once y (record { left = x.left; right = x.right; kept_left = x.kept_left; kept_right = x.kept_right; parts = same_parts x.same })

  -- ── As the code finds it ────────────────────────────────────────────────────────────────────────

  pub begun : Along s t 0 0
  begun = record { left = omega arith; right = omega arith; back = λ {ls} {ms} k l x. record { left = ls; right = ms; kept_left = k; kept_right = l; parts = x } }

  module _ {p q : ℕ} {l m : Lexeme} (a : Along s t p q) (n : NextKept s p l) (o : NextKept t q m) where
    -- They part here.
    pub parted : (SameLexeme s t l m → ⊥) → FirstDifference s t (Some (l, m))
    parted h =
        subst (λ (x : Lexeme). FirstDifference s t (Some (x, m))) (sym n.is_first) (subst (λ (x : Lexeme). FirstDifference s t (Some (first p n.left, x))) (sym o.is_first)
        (a.back n.is_left o.is_left (here (λ e. h (subst (λ (x : Lexeme). SameLexeme s t x m) (sym n.is_first) (subst (λ (x : Lexeme). SameLexeme s t (first p n.left) x) (sym o.is_first) e))))))

    -- Both are over.
    pub over : SameLexeme s t l m → l.kind ≡ EOF → FirstDifference s t None
    over e k = a.back (next_eof n k).0 (next_eof o (sym e.kind ∙ k)).0 both_over

    -- On behind these two.
    pub along : SameLexeme s t l m → (l.kind ≡ EOF → ⊥) → Along s t l.end m.end
    along e k =
        let x = next-some n k in
        let k' : m.kind ≡ EOF → ⊥ = λ i. k (e.kind ∙ i) in
        let y = next-some o k' in
        record {
          left = (next_bounds n k).2;
          right = (next_bounds o k').2;
          back = λ {ls} {ms} {r} i j z.
              a.back x.1 y.1 (on e (subst (λ (ls : List Lexeme). Parts s t l.end m.end ls y.0 r) (kept_once i x.2)
              (subst (λ (ms : List Lexeme). Parts s t l.end m.end ls ms r) (kept_once j y.2) z)));
        }

-- What the code says of two lexemes.
module _ (s t : List ℕ) (l m : Lexeme) where
  pub other_kind : (l.kind ≡ m.kind → ⊥) → Says false (SameLexeme s t l m)
  other_kind h = λ e. h e.kind

  pub by_text : {r : Bool} → l.kind ≡ m.kind → (r ≡ true → text_of s l ≡ text_of t m) × (text_of s l ≡ text_of t m → r ≡ true) → Says r (SameLexeme s t l m)
  by_text {r = true} k h = record { kind = k; text = h.0 refl }
  by_text {r = false} k h = λ e. absurd (let z = h.1 e.text in let y : ◌≡◌ {A = ℕ} 0 1 = cc in omega arith)
