-- White space, words and numbers: at each place one stands, or the machine sticks.
-- Assumes nothing.
use mathlib.Core.Path.{◌≡◌, refl, sym, ap, subst, ◌∙◌}
use mathlib.Core.Bool.{Bool, true, false, true≢false}
use mathlib.Core.List.{List, [], ◌∷◌, ◌++◌, append-nil}
use Prim.Native.Nat.{ℕ, ◌+◌, ◌≤◌}
use native.Mathlib.Omega.{arith}
use native.Mathlib.Decide.{ℕ_discrete}
use lib.Dec.{eqb}
use lib.ListN.{length, length-append}
use borrow.Author.Tests.{ne_eqb, eq-eqb}
use Rattle.strings.specs.Literals.{Begins}
use Rattle.numerals.specs.Value.{is_digit}
use Rattle.grammar.specs.Trees.{Trees}
use Rattle.grammar.specs.Answer.{refused}
use Rattle.json_import.specs.Tokens.{At, ◌▹◌, is_blank, Ws, Number, number, Literal, literal}
use Rattle.json_import.specs.Tokens as tokens
use Rattle.json_import.specs.Json.{NOT_JSON}
use Rattle.json_import.specs.Machine.{Frame, State, Shape, over, word, digits, stuck, begun, next, whole, is_over, walk, Stopped, spelled, step, finish, run}
use Rattle.json_import.proofs.Skips.{stays_stuck}
use Rattle.json_import.proofs.NumberShapes.{from, walk_append, walk_over, over_is, whole_goes, number_whole}
use Rattle.json_import.proofs.NumberReach.{Reach, zero_only, int_one, int_more, to_point, to_frac, to_mark, to_sign, to_exp, to_signed, lead_reach}

abbrev pub size : At → ℕ
size (i ▹ s) = length s

-- ── White space ───────────────────────────────────────────────────────────────────────────────────

abbrev pub Unblank : At → Type 0
Unblank (i ▹ []) = Unit {0}
Unblank (i ▹ b ∷ s) = is_blank b ≡ false

pub record Skipped (h : At) : Type 0 where
  pub to : At
  pub ws : Ws h to
  pub unblank : Unblank to
  pub shorter : size to ≤ size h

pub read_ws : (i : ℕ) (s : List ℕ) → Skipped (i ▹ s)
read_ws i [] = record { to = i ▹ []; ws = Ws.none; unblank = tt; shorter = omega arith }
read_ws i (b ∷ s) = by (is_blank b) refl (read_ws (i + 1) s)
  where
    by : (c : Bool) → is_blank b ≡ c → Skipped (i + 1 ▹ s) → Skipped (i ▹ b ∷ s)
    by true e r = record { to = r.to; ws = Ws.more e r.ws; unblank = r.unblank; shorter = omega (arith, r.shorter) }
    by false e r = record { to = i ▹ b ∷ s; ws = Ws.none; unblank = e; shorter = omega arith }

pub read_ws_at : (h : At) → Skipped h
read_ws_at (i ▹ s) = read_ws i s

-- ── Words ─────────────────────────────────────────────────────────────────────────────────────────

pub data ReadWord (cs s : List ℕ) : Type 0 where
  there : (r : List ℕ) → s ≡ cs ++ r → ReadWord cs s
  stick : (d : ℕ) → ((deep : ℕ → Bool) (large : List ℕ → Bool) (t : Trees) (fs : List Frame) (i : ℕ) → run deep large (word cs t fs) i s ≡ refused NOT_JSON (i + d) (i + d) 0)
      → ReadWord cs s

plus_none : (i : ℕ) → refused NOT_JSON i i 0 ≡ refused NOT_JSON (i + 0) (i + 0) 0
plus_none i = let at : i ≡ i + 0 = omega arith in ap (λ (n : ℕ). refused NOT_JSON n n 0) at

plus_one : (i d : ℕ) → refused NOT_JSON (i + 1 + d) (i + 1 + d) 0 ≡ refused NOT_JSON (i + (1 + d)) (i + (1 + d)) 0
plus_one i d = let at : i + 1 + d ≡ i + (1 + d) = omega arith in ap (λ (n : ℕ). refused NOT_JSON n n 0) at

pub other_letter : (c : ℕ) (cs : List ℕ) (t : Trees) (fs : List Frame) (i b : ℕ) → eqb b c ≡ false → spelled (c ∷ cs) t fs i b ≡ stuck i
unfolding spelled
other_letter c [] t fs i b e = rw e refl
other_letter c (d ∷ cs) t fs i b e = rw e refl

same_letter : (c d : ℕ) (cs : List ℕ) (t : Trees) (fs : List Frame) (i : ℕ) → spelled (c ∷ d ∷ cs) t fs i c ≡ word (d ∷ cs) t fs
unfolding spelled
same_letter c d cs t fs i = rw (eq-eqb c c refl) refl

pub read_word : (c : ℕ) (cs s : List ℕ) → ReadWord (c ∷ cs) s
unfolding run step finish
read_word c cs [] = stick 0 (λ deep large t fs i. plus_none i)
read_word c [] (b ∷ s) = by (ℕ_discrete b c)
  where
    by : Dec (b ≡ c) → ReadWord (c ∷ []) (b ∷ s)
    by (yes e) = there s (ap (λ (x : ℕ). x ∷ s) e)
    by (no n) = stick 0 (λ deep large t fs i. ap (λ (st : State). run deep large st (i + 1) s) (other_letter c [] t fs i b (ne_eqb b c n)) ∙ stays_stuck deep large i (i + 1) s ∙ plus_none i)
read_word c (d ∷ cs) (b ∷ s) = by (ℕ_discrete b c) (read_word d cs s)
  where
    on : ReadWord (d ∷ cs) s → ReadWord (c ∷ d ∷ cs) (c ∷ s)
    on (there r e) = there r (ap (λ (x : List ℕ). c ∷ x) e)
    on (stick k f) = stick (1 + k) (λ deep large t fs i. ap (λ (st : State). run deep large st (i + 1) s) (same_letter c d cs t fs i) ∙ f deep large t fs (i + 1) ∙ plus_one i k)

    by : Dec (b ≡ c) → ReadWord (d ∷ cs) s → ReadWord (c ∷ d ∷ cs) (b ∷ s)
    by (yes e) r = subst (λ (x : ℕ). ReadWord (c ∷ d ∷ cs) (x ∷ s)) (sym e) (on r)
    by (no n) r = stick 0 (λ deep large t fs i. ap (λ (st : State). run deep large st (i + 1) s) (other_letter c (d ∷ cs) t fs i b (ne_eqb b c n)) ∙ stays_stuck deep large i (i + 1) s ∙ plus_none i)

-- ── Numbers ───────────────────────────────────────────────────────────────────────────────────────

pub data ReadDigits (sh : Shape) (s : List ℕ) : Type 0 where
  to_end : (v r : List ℕ) → s ≡ v ++ r → whole (walk sh v) ≡ true → Stopped (walk sh v) r → ReadDigits sh s
  stick : (d : ℕ)
      → ((deep : ℕ → Bool) (large : List ℕ → Bool) (neg : Bool) (a : ℕ) (w : List ℕ) (fs : List Frame) (i : ℕ) → run deep large (digits sh neg a w fs) i s ≡ refused NOT_JSON (i + d) (i + d) 0)
      → ReadDigits sh s

pub cut_short : (deep : ℕ → Bool) (large : List ℕ → Bool) (sh : Shape) (neg : Bool) (a : ℕ) (w : List ℕ) (fs : List Frame) (i : ℕ) → whole sh ≡ false → finish deep large (digits sh neg a w fs) i ≡ refused NOT_JSON i i 0
unfolding finish
cut_short deep large sh neg a w fs i p = rw p refl

pub no_digit_lem : (deep : ℕ → Bool) (large : List ℕ → Bool) (sh : Shape) (neg : Bool) (a : ℕ) (w : List ℕ) (fs : List Frame) (i b : ℕ) → is_over (next sh b) ≡ true → whole sh ≡ false
    → step deep large (digits sh neg a w fs) i b ≡ stuck i
unfolding step
no_digit_lem deep large sh neg a w fs i b p q = rw (p, q) refl

pub a_digit : (deep : ℕ → Bool) (large : List ℕ → Bool) (sh : Shape) (neg : Bool) (a : ℕ) (w : List ℕ) (fs : List Frame) (i b : ℕ) → is_over (next sh b) ≡ false
    → step deep large (digits sh neg a w fs) i b ≡ digits (next sh b) neg a (w ++ (b ∷ [])) fs
unfolding step
a_digit deep large sh neg a w fs i b p = rw p refl

read_digits : (s : List ℕ) (sh : Shape) → ReadDigits sh s
unfolding run walk
read_digits [] sh = by (whole sh) refl
  where
    by : (c : Bool) → whole sh ≡ c → ReadDigits sh []
    by true e = to_end [] [] refl e tt
    by false e = stick 0 (λ deep large neg a w fs i. cut_short deep large sh neg a w fs i e ∙ plus_none i)
read_digits (b ∷ s) sh = by (is_over (next sh b)) refl (whole sh) refl (read_digits s (next sh b))
  where
    on : is_over (next sh b) ≡ false → ReadDigits (next sh b) s → ReadDigits sh (b ∷ s)
    on e (to_end v r p q t) = to_end (b ∷ v) r (ap (λ (x : List ℕ). b ∷ x) p) q t
    on e (stick d f) =
        stick (1 + d) (λ deep large neg a w fs i. ap (λ (st : State). run deep large st (i + 1) s) (a_digit deep large sh neg a w fs i b e) ∙ f deep large neg a (w ++ (b ∷ [])) fs (i + 1) ∙ plus_one i d)

    by : (c : Bool) → is_over (next sh b) ≡ c → (d : Bool) → whole sh ≡ d → ReadDigits (next sh b) s → ReadDigits sh (b ∷ s)
    by false e d q r = on e r
    by true e true q r = to_end [] (b ∷ s) refl q e
    by true e false q r =
        stick 0 (λ deep large neg a w fs i. ap (λ (st : State). run deep large st (i + 1) s) (no_digit_lem deep large sh neg a w fs i b e q) ∙ stays_stuck deep large i (i + 1) s ∙ plus_none i)

whole_number : {sh : Shape} {w : List ℕ} → Reach sh w → whole sh ≡ true → Number w
unfolding whole
whole_number zero_only p = number tokens.Int.zero tokens.Frac.none tokens.Exp.none
whole_number (int_one h) p = number (tokens.Int.single h) tokens.Frac.none tokens.Exp.none
whole_number (int_more {b} {d} h ds) p = subst (λ (x : List ℕ). Number (b ∷ x)) (append-nil d) (number (tokens.Int.several h ds) tokens.Frac.none tokens.Exp.none)
whole_number (to_point a) p = absurd (true≢false (sym p))
whole_number (to_frac {i} {d} a ds) p = subst (λ (x : List ℕ). Number (i ++ (0x2E ∷ x))) (append-nil d) (number a (tokens.Frac.frac ds) tokens.Exp.none)
whole_number (to_mark a x m) p = absurd (true≢false (sym p))
whole_number (to_sign a x m s) p = absurd (true≢false (sym p))
whole_number (to_exp a x m ds) p = number a x (tokens.Exp.exp m ds)
whole_number (to_signed a x m s ds) p = number a x (tokens.Exp.signed m s ds)

-- No number goes on over a shape's end.
no_longer : (b : ℕ) (v : List ℕ) (c : ℕ) (x : List ℕ) → is_over (next (from (b ∷ v)) c) ≡ true → Number ((b ∷ v) ++ (c ∷ x)) → ⊥
unfolding from walk whole
no_longer b v c x e n =
    let over-there : walk (begun b) (v ++ (c ∷ x)) ≡ over = walk_append (begun b) v (c ∷ x) ∙ ap (λ (y : Shape). walk y x) (over_is _ e) ∙ walk_over x in
    true≢false (sym (number_whole n) ∙ ap (λ (y : Shape). whole y) over-there)

stops : (b : ℕ) (v r : List ℕ) → Stopped (from (b ∷ v)) r → (c : ℕ) (x : List ℕ) → Begins c r → Number ((b ∷ v) ++ (c ∷ x)) → ⊥
stops b v [] st c x g n = g
stops b v (d ∷ r) st c x g n = no_longer b v d x st (subst (λ (y : ℕ). Number ((b ∷ v) ++ (y ∷ x))) (sym g) n)

pub data ReadLiteral (i b : ℕ) (s : List ℕ) : Type 0 where
  a_literal : {w : List ℕ} {g : At} → Literal (i ▹ b ∷ s) w g → size g ≤ length s → ReadLiteral i b s
  stick : (d : ℕ)
      → ((deep : ℕ → Bool) (large : List ℕ → Bool) (neg : Bool) (a : ℕ) (w : List ℕ) (fs : List Frame) (i : ℕ) → run deep large (digits (begun b) neg a w fs) i s ≡ refused NOT_JSON (i + d) (i + d) 0)
      → ReadLiteral i b s

pub read_literal : (i b : ℕ) (s : List ℕ) → is_digit b ≡ true → ReadLiteral i b s
unfolding from
read_literal i b s d = by (read_digits s (begun b))
  where
    it : (v r : List ℕ) → whole (walk (begun b) v) ≡ true → Stopped (walk (begun b) v) r → ReadLiteral i b (v ++ r)
    it v r q st = a_literal (literal {i = i} {w = b ∷ v} {r = r} (whole_number (lead_reach b v d (whole_goes (walk (begun b) v) q)) q) (stops b v r st)) (omega (arith, length-append v r))

    by : ReadDigits (begun b) s → ReadLiteral i b s
    by (to_end v r e q st) = subst (ReadLiteral i b) (sym e) (it v r q st)
    by (ReadDigits.stick k f) = ReadLiteral.stick k f
