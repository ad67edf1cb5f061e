-- Blanks are dropped one by one: a blank before a place changes none of the lexemes that are kept from there on.
-- Assumes nothing.
use mathlib.Core.Path.{◌≡◌, ap, subst, ◌∙◌}
use mathlib.Core.List.{List}
use Prim.Native.Nat.{ℕ, zero, suc, ◌+◌, ◌≤◌, ◌<◌}
use native.Mathlib.Omega.{arith}
use native.Mathlib.Decide.{dec_lt, ℕ_discrete}
use lib.ListN.{length, get_or, get_or-eq_default}
use Rattle.lexemes.specs.declared.Lexeme.{Lexeme}
use Rattle.lexemes.specs.Scan.{class_of, Ran}
use Rattle.lexemes.specs.Kept.{Kept}
use Rattle.lexemes.proofs.Classes.{class_zero, Passed, passed_none, passed_on, passed_over, passed_end}
use Rattle.lexemes.proofs.KeptLaws.{kept_drop, kept_always, kept_once, blank_lexeme, blank_dropped}

module _ (s : List ℕ) where
  abbrev blank : ℕ → Type 0
  blank i = class_of (get_or s i 0) ≡ 4

  -- How far blanks run.
  run : (n i f : ℕ) → length s ≤ i + n → Passed s f 4 4 i → (e : ℕ) × Ran s f 4 4 e
  run zero i f h p = (i, passed_end p (omega arith) (omega arith))
  run (suc n) i f h p = by (dec_lt i (length s)) (ℕ_discrete (class_of (get_or s i 0)) 4) (λ p. run n (i + 1) f (omega arith) p)
    where
      by : Dec (i < length s) → Dec (blank i) → (Passed s f 4 4 (i + 1) → (e : ℕ) × Ran s f 4 4 e) → (e : ℕ) × Ran s f 4 4 e
      by (no g) d on = (i, passed_end p (omega arith) (omega arith))
      by (yes g) (no m) on = (i, passed_over p (λ q. m (omega (arith, q.0, q.1))))
      by (yes g) (yes e) on = on (passed_on p g (omega (arith, e), omega (arith, e)))

  runs : (f : ℕ) → f ≤ length s → (e : ℕ) × Ran s f 4 4 e
  runs f h = run (length s) f f (omega arith) (passed_none h)

  -- The lexeme of blanks from a place, and the same from a blank before it.
  module _ {i : ℕ} (h : i < length s) (b : blank i) where
    -- No blank follows.
    sole : (blank (i + 1) → ⊥) → {ks : List Lexeme} → Kept s (i + 1) ks → Kept s i ks
    sole n k =
        kept_drop h (blank_lexeme h b record { start = omega arith; end = omega arith; each = λ j f g. absurd (omega arith); over = λ p q. n (omega arith) }) blank_dropped k

    -- More blanks follow, up to e.
    longer : (e : ℕ) → i + 1 < length s → blank (i + 1) → Ran s (i + 2) 4 4 e → {ks : List Lexeme} → Kept s (i + 1) ks → Kept s i ks
    longer e g c r {ks} k =
        let on = kept_always s e in
        let r₁ : Ran s (i + 1 + 1) 4 4 e = subst (λ (x : ℕ). Ran s x 4 4 e) (omega arith) r in
        let there : Kept s (i + 1) on.0 = kept_drop g (blank_lexeme g c r₁) blank_dropped on.1 in
        let here : Kept s i on.0 = kept_drop h (blank_lexeme h b (wider r)) blank_dropped on.1 in
        subst (Kept s i) (kept_once there k) here
      where
        each : Ran s (i + 2) 4 4 e → (j : ℕ) → i + 1 ≤ j → j < e → (4 ≤ class_of (get_or s j 0)) × (class_of (get_or s j 0) ≤ 4)
        each r j f l = by (ℕ_discrete j (i + 1))
          where
            by : Dec (j ≡ i + 1) → (4 ≤ class_of (get_or s j 0)) × (class_of (get_or s j 0) ≤ 4)
            by (yes q) = let c₁ : class_of (get_or s j 0) ≡ 4 = ap (λ (x : ℕ). class_of (get_or s x 0)) q ∙ c in (omega arith, omega arith)
            by (no q) = r.each j (omega arith) l

        wider : Ran s (i + 2) 4 4 e → Ran s (i + 1) 4 4 e
        wider r = record { start = omega (arith, r.start); end = r.end; each = each r; over = r.over }

    -- A BLANK IS DROPPED: the lexemes kept from the place behind it are those kept from its own.
    pub blank_before : {ks : List Lexeme} → Kept s (i + 1) ks → Kept s i ks
    blank_before {ks} k = by (dec_lt (i + 1) (length s)) (ℕ_discrete (class_of (get_or s (i + 1) 0)) 4)
      where
        by : Dec (i + 1 < length s) → Dec (blank (i + 1)) → Kept s i ks
        by (no g) (no n) = sole n k
        by (no g) (yes c) = absurd (omega (arith, c, ap class_of (get_or-eq_default s 0 {n = i + 1} (omega arith)), class_zero))
        by (yes g) (no n) = sole n k
        by (yes g) (yes c) = let r = runs (i + 2) (omega arith) in longer r.0 g c r.1 k
