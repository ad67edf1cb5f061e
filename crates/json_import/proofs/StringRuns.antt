-- The machine reads strings: what `Chars` says of bytes, its states do.
-- Assumes nothing.
use mathlib.Core.Path.{◌≡◌, refl, sym, ap, subst, ◌∙◌}
use mathlib.Core.Bool.{Bool, false, cond, ◌&&◌, ◌||◌}
use mathlib.Core.List.{List, [], ◌∷◌, ◌++◌, append_assoc, append-nil}
use mathlib.Core.Logic.{◌⊎◌, inl, inr, ⊎_elim}
use Prim.Native.Nat.{ℕ, ◌+◌, ◌-◌, ◌*◌, ◌≤◌, ◌<◌}
use native.Mathlib.Omega.{arith}
use lib.Dec.{eqb, leb}
use Rattle.strings.specs.Utf8.{In, Scalar, utf8}
use Rattle.strings.specs.Literals.{Four, four, Low, low}
use Rattle.json_import.specs.Tokens.{At, ◌▹◌, Letter, quotation_mark, reverse_solidus, solidus, backspace, form_feed, line_feed, return, tab, Chars, end, plain, letter, unit, pair}
use Rattle.json_import.specs.Machine.{Frame, Use, slash, u_none, u_one, u_two, u_three, high, high_u, low_one, low_two, low_three, State, chars, escape, stuck, meant, closed, escaped, step, run, goes}
use Rattle.json_import.proofs.Tests.{Value, hex_value, small_hex, inside, above, below, or_false}

-- ── One escape ────────────────────────────────────────────────────────────────────────────────────

pub letter_step : {l c : ℕ} → Letter l c → (w : List ℕ) (u : Use) (fs : List Frame) (i : ℕ) → escaped slash w u fs i l ≡ chars (w ++ (c ∷ [])) u fs
unfolding escaped meant
letter_step quotation_mark w u fs i = refl
letter_step reverse_solidus w u fs i = refl
letter_step solidus w u fs i = refl
letter_step backspace w u fs i = refl
letter_step form_feed w u fs i = refl
letter_step line_feed w u fs i = refl
letter_step return w u fs i = refl
letter_step tab w u fs i = refl

module _ (w : List ℕ) (us : Use) (fs : List Frame) (i : ℕ) where
  pub first-digit : {b v : ℕ} → Value b v → escaped u_none w us fs i b ≡ escape (u_one v) w us fs
  unfolding escaped
  first-digit {b} {v} h = rw (h.is, small_hex v h.small) refl

  pub second_digit : {b v : ℕ} (x : ℕ) → Value b v → (x * 16 + v < 0xDC) ⊎ (0xDF < x * 16 + v) → escaped (u_one x) w us fs i b ≡ escape (u_two (x * 16 + v)) w us fs
  unfolding escaped
  second_digit {b} {v} x h o =
      let none : (leb 0xDC (x * 16 + v) && leb (x * 16 + v) 0xDF) ≡ false = ⊎_elim (λ p. below 0xDC 0xDF (x * 16 + v) p) (λ p. above 0xDC 0xDF (x * 16 + v) p) o in
      let no : (leb 16 v || (leb 0xDC (x * 16 + v) && leb (x * 16 + v) 0xDF)) ≡ false = or_false (leb 16 v) _ (small_hex v h.small) none in
      rw (h.is, no) refl

  pub third_digit : {b v : ℕ} (x : ℕ) → Value b v → escaped (u_two x) w us fs i b ≡ escape (u_three (x * 16 + v)) w us fs
  unfolding escaped
  third_digit {b} {v} x h = rw (h.is, small_hex v h.small) refl

  pub last_digit : {b v : ℕ} (x : ℕ) → Value b v → (x * 16 + v < 0xD800) ⊎ (0xDBFF < x * 16 + v) → escaped (u_three x) w us fs i b ≡ chars (w ++ utf8 (x * 16 + v)) us fs
  unfolding escaped
  last_digit {b} {v} x h o =
      let none : (leb 0xD800 (x * 16 + v) && leb (x * 16 + v) 0xDBFF) ≡ false = ⊎_elim (λ p. below 0xD800 0xDBFF (x * 16 + v) p) (λ p. above 0xD800 0xDBFF (x * 16 + v) p) o in
      rw (h.is, small_hex v h.small, none) refl

  pub last_of_high : {b v : ℕ} (x : ℕ) → Value b v → In 0xD800 0xDBFF (x * 16 + v) → escaped (u_three x) w us fs i b ≡ escape (high (x * 16 + v)) w us fs
  unfolding escaped
  last_of_high {b} {v} x h o = rw (h.is, small_hex v h.small, inside 0xD800 0xDBFF (x * 16 + v) o.0 o.1) refl

  pub first_of_low : {b : ℕ} (n : ℕ) → Value b 13 → escaped (high_u n) w us fs i b ≡ escape (low_one n) w us fs
  unfolding escaped
  first_of_low n h = rw h.is refl

  pub second_of_low : {b v : ℕ} (n : ℕ) → Value b v → 12 ≤ v → escaped (low_one n) w us fs i b ≡ escape (low_two n (13 * 16 + v)) w us fs
  unfolding escaped
  second_of_low {b} {v} n h o = rw (h.is, inside 12 15 v o h.small) refl

  pub third_of_low : {b v : ℕ} (n x : ℕ) → Value b v → escaped (low_two n x) w us fs i b ≡ escape (low_three n (x * 16 + v)) w us fs
  unfolding escaped
  third_of_low {b} {v} n x h = rw (h.is, small_hex v h.small) refl

  pub last_of_low : {b v : ℕ} (n x : ℕ) → Value b v
      → escaped (low_three n x) w us fs i b ≡ chars (w ++ utf8 (0x10000 + (n - 0xD800) * 0x400 + (x * 16 + v - 0xDC00))) us fs
  unfolding escaped
  last_of_low {b} {v} n x h = rw (h.is, small_hex v h.small) refl

-- ── Strings ───────────────────────────────────────────────────────────────────────────────────────

abbrev pub place : At → ℕ
place (i ▹ s) = i

module _ (deep : ℕ → Bool) (large : List ℕ → Bool) (us : Use) (fs : List Frame) where
  -- Four digits that are no half; four that are a high half; four that are a low one.
  pub run_unit : {s r : List ℕ} {n : ℕ} (w : List ℕ) (i : ℕ) → Four s n r → Scalar n
      → run deep large (escape u_none w us fs) i s ≡ run deep large (chars (w ++ utf8 n) us fs) (i + 4) r
  unfolding run step
  run_unit w i (four {a = a} {b = b} {c = c} {d = d} {v = v} {w = x} {x = y} {y = z} {r = r} p q m l) sc =
      let hp = hex_value p in
      let hq = hex_value q in
      let hm = hex_value m in
      let hl = hex_value l in
      let n : ((v * 16 + x) * 16 + y) * 16 + z ≡ v * 0x1000 + x * 0x100 + y * 0x10 + z = omega arith in
      let two : (v * 16 + x < 0xDC) ⊎ (0xDF < v * 16 + x) = ⊎_elim (λ e. inl (omega (arith, e, hp.small, hq.small, hm.small, hl.small))) (λ e. inr (omega (arith, e.0, hp.small, hq.small, hm.small, hl.small))) sc in
      let all : (((v * 16 + x) * 16 + y) * 16 + z < 0xD800) ⊎ (0xDBFF < ((v * 16 + x) * 16 + y) * 16 + z) = ⊎_elim (λ e. inl (omega (arith, e))) (λ e. inr (omega (arith, e.0))) sc in
      let at : i + 1 + 1 + 1 + 1 ≡ i + 4 = omega arith in
      ap (λ (st : State). run deep large st (i + 1) (b ∷ c ∷ d ∷ r)) (first-digit w us fs i hp)
      ∙ ap (λ (st : State). run deep large st (i + 1 + 1) (c ∷ d ∷ r)) (second_digit w us fs (i + 1) v hq two)
      ∙ ap (λ (st : State). run deep large st (i + 1 + 1 + 1) (d ∷ r)) (third_digit w us fs (i + 1 + 1) (v * 16 + x) hm)
      ∙ ap (λ (st : State). run deep large st (i + 1 + 1 + 1 + 1) r) (last_digit w us fs (i + 1 + 1 + 1) ((v * 16 + x) * 16 + y) hl all)
      ∙ ap (λ (k : ℕ). run deep large (chars (w ++ utf8 k) us fs) (i + 1 + 1 + 1 + 1) r) n
      ∙ ap (λ (k : ℕ). run deep large (chars (w ++ utf8 (v * 0x1000 + x * 0x100 + y * 0x10 + z)) us fs) k r) at

  pub run_high : {s r : List ℕ} {n : ℕ} (w : List ℕ) (i : ℕ) → Four s n r → In 0xD800 0xDBFF n
      → run deep large (escape u_none w us fs) i s ≡ run deep large (escape (high n) w us fs) (i + 4) r
  unfolding run step
  run_high w i (four {a = a} {b = b} {c = c} {d = d} {v = v} {w = x} {x = y} {y = z} {r = r} p q m l) h =
      let hp = hex_value p in
      let hq = hex_value q in
      let hm = hex_value m in
      let hl = hex_value l in
      let n : ((v * 16 + x) * 16 + y) * 16 + z ≡ v * 0x1000 + x * 0x100 + y * 0x10 + z = omega arith in
      let two : (v * 16 + x < 0xDC) ⊎ (0xDF < v * 16 + x) = inl (omega (arith, h.0, h.1)) in
      let all : In 0xD800 0xDBFF (((v * 16 + x) * 16 + y) * 16 + z) = (omega (arith, h.0), omega (arith, h.1)) in
      let at : i + 1 + 1 + 1 + 1 ≡ i + 4 = omega arith in
      ap (λ (st : State). run deep large st (i + 1) (b ∷ c ∷ d ∷ r)) (first-digit w us fs i hp)
      ∙ ap (λ (st : State). run deep large st (i + 1 + 1) (c ∷ d ∷ r)) (second_digit w us fs (i + 1) v hq two)
      ∙ ap (λ (st : State). run deep large st (i + 1 + 1 + 1) (d ∷ r)) (third_digit w us fs (i + 1 + 1) (v * 16 + x) hm)
      ∙ ap (λ (st : State). run deep large st (i + 1 + 1 + 1 + 1) r) (last_of_high w us fs (i + 1 + 1 + 1) ((v * 16 + x) * 16 + y) hl all)
      ∙ ap (λ (k : ℕ). run deep large (escape (high k) w us fs) (i + 1 + 1 + 1 + 1) r) n
      ∙ ap (λ (k : ℕ). run deep large (escape (high (v * 0x1000 + x * 0x100 + y * 0x10 + z)) w us fs) k r) at

  pub run_low : {s r : List ℕ} {lo : ℕ} (n : ℕ) (w : List ℕ) (i : ℕ) → Low s lo r
      → run deep large (escape (high n) w us fs) i s ≡ run deep large (chars (w ++ utf8 (0x10000 + (n - 0xD800) * 0x400 + (lo - 0xDC00))) us fs) (i + 6) r
  unfolding run step escaped
  run_low n w i (low (four {a = a} {b = b} {c = c} {d = d} {v = v} {w = x} {x = y} {y = z} {r = r} p q m l) h) =
      let hp = hex_value p in
      let hq = hex_value q in
      let hm = hex_value m in
      let hl = hex_value l in
      let one : v ≡ 13 = omega (arith, hp.small, hq.small, hm.small, hl.small, h.0, h.1) in
      let twelve : 12 ≤ x = omega (arith, hp.small, hq.small, hm.small, hl.small, h.0, h.1, one) in
      let hp' : Value a 13 = subst (Value a) one hp in
      let e : ((13 * 16 + x) * 16 + y) * 16 + z ≡ v * 0x1000 + x * 0x100 + y * 0x10 + z = omega (arith, one) in
      let at : i + 1 + 1 + 1 + 1 + 1 + 1 ≡ i + 6 = omega arith in
      ap (λ (st : State). run deep large st (i + 1 + 1 + 1) (b ∷ c ∷ d ∷ r)) (first_of_low w us fs (i + 1 + 1) n hp')
      ∙ ap (λ (st : State). run deep large st (i + 1 + 1 + 1 + 1) (c ∷ d ∷ r)) (second_of_low w us fs (i + 1 + 1 + 1) n hq twelve)
      ∙ ap (λ (st : State). run deep large st (i + 1 + 1 + 1 + 1 + 1) (d ∷ r)) (third_of_low w us fs (i + 1 + 1 + 1 + 1) n (13 * 16 + x) hm)
      ∙ ap (λ (st : State). run deep large st (i + 1 + 1 + 1 + 1 + 1 + 1) r) (last_of_low w us fs (i + 1 + 1 + 1 + 1 + 1) n ((13 * 16 + x) * 16 + y) hl)
      ∙ ap (λ (k : ℕ). run deep large (chars (w ++ utf8 (0x10000 + (n - 0xD800) * 0x400 + (k - 0xDC00))) us fs) (i + 1 + 1 + 1 + 1 + 1 + 1) r) e
      ∙ ap (λ (k : ℕ). run deep large (chars (w ++ utf8 (0x10000 + (n - 0xD800) * 0x400 + (v * 0x1000 + x * 0x100 + y * 0x10 + z - 0xDC00))) us fs) k r) at

  -- Characters up to the closing quote.
  pub run_chars : {h g : At} {t : List ℕ} → Chars h t g → (w : List ℕ) → goes deep large (chars w us fs) h ≡ goes deep large (closed (w ++ t) us (place g) fs) g
  unfolding run step escaped
  run_chars (end {i} {s}) w = ap (λ (x : List ℕ). run deep large (closed x us (i + 1) fs) (i + 1) s) (sym (append-nil w))
  run_chars (plain {i} {b} {s} {t} {h} p c) w =
      ap (λ (x : Bool). run deep large (cond x (chars (w ++ (b ∷ [])) us fs) (cond (eqb b 0x22) (closed w us (i + 1) fs) (cond (eqb b 0x5C) (escape slash w us fs) (stuck i)))) (i + 1) s) p
      ∙ run_chars c (w ++ (b ∷ []))
      ∙ ap (λ (x : List ℕ). goes deep large (closed x us (place h) fs) h) (append_assoc w (b ∷ []) t)
  run_chars (letter {i} {l} {c} {s} {t} {h} p q) w =
      let at : i + 1 + 1 ≡ i + 2 = omega arith in
      ap (λ (st : State). run deep large st (i + 1 + 1) s) (letter_step p w us fs (i + 1))
      ∙ ap (λ (k : ℕ). run deep large (chars (w ++ (c ∷ [])) us fs) k s) at
      ∙ run_chars q (w ++ (c ∷ []))
      ∙ ap (λ (x : List ℕ). goes deep large (closed x us (place h) fs) h) (append_assoc w (c ∷ []) t)
  run_chars (unit {i} {n} {s} {r} {t} {h} p sc q) w =
      let at : i + 1 + 1 + 4 ≡ i + 6 = omega arith in
      run_unit w (i + 1 + 1) p sc
      ∙ ap (λ (k : ℕ). run deep large (chars (w ++ utf8 n) us fs) k r) at
      ∙ run_chars q (w ++ utf8 n)
      ∙ ap (λ (x : List ℕ). goes deep large (closed x us (place h) fs) h) (append_assoc w (utf8 n) t)
  run_chars (pair {i = i} {hi = hi} {lo = lo} {r = r} {t = t} {h = h} p b l q) w =
      let at : i + 1 + 1 + 4 + 6 ≡ i + 12 = omega arith in
      let code = 0x10000 + (hi - 0xD800) * 0x400 + (lo - 0xDC00) in
      run_high w (i + 1 + 1) p b
      ∙ run_low hi w (i + 1 + 1 + 4) l
      ∙ ap (λ (k : ℕ). run deep large (chars (w ++ utf8 code) us fs) k r) at
      ∙ run_chars q (w ++ utf8 code)
      ∙ ap (λ (x : List ℕ). goes deep large (closed x us (place h) fs) h) (append_assoc w (utf8 code) t)
