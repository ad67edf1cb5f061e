-- Behind a backslash stands an escape, or the machine sticks: and then at the byte at which none goes on.
-- Assumes nothing.
use mathlib.Core.Path.{◌≡◌, refl, sym, ap, subst, ◌∙◌}
use mathlib.Core.Bool.{Bool, true, false, cond, ◌&&◌}
use mathlib.Core.List.{List, [], ◌∷◌, ◌++◌}
use mathlib.Core.Logic.{◌⊎◌, inl, inr}
use Prim.Native.Nat.{ℕ, zero, suc, ◌+◌, ◌-◌, ◌*◌, ◌≤◌, ◌<◌}
use native.Mathlib.Omega.{arith}
use native.Mathlib.Decide.{dec_le, dec_lt, ℕ_discrete}
use lib.Dec.{eqb, leb}
use lib.ListN.{length}
use borrow.Author.Tests.{leb-true, eqb-true, ne_eqb}
use Rattle.strings.specs.Utf8.{In, Scalar, utf8}
use Rattle.strings.specs.Literals.{Hex, Four, four, Low, low}
use Rattle.strings.specs.Literals.Hex.{digit, upper, lower}
use Rattle.grammar.specs.Answer.{refused}
use Rattle.json_import.specs.Tokens.{At, ◌▹◌, Letter, quotation_mark, reverse_solidus, solidus, backspace, form_feed, line_feed, return, tab, is_plain, Chars, end, plain, letter, unit, pair}
use Rattle.json_import.specs.Json.{NOT_JSON}
use Rattle.json_import.specs.Machine.{Frame, Use, Escape, slash, u_none, u_one, u_two, u_three, high, high_slash, high_u, low_one, low_two, low_three, State, chars, escape, stuck, meant, hex, escaped, step, finish, run}
use Rattle.json_import.proofs.Tests.{Value, hex_value, small_hex, inside, above, below}
use Rattle.json_import.proofs.Skips.{stays_stuck}
use Rattle.json_import.proofs.StringRuns.{letter_step, first-digit, second_digit, third_digit, first_of_low, second_of_low, third_of_low, run_unit, run_high, run_low}

-- ── Digits ────────────────────────────────────────────────────────────────────────────────────────

-- A byte is a hex digit or none.
pub data HexOrNot (b : ℕ) : Type 0 where
  is_hex : {v : ℕ} → Hex b v → HexOrNot b
  no_hex : hex b ≡ 16 → HexOrNot b

in_or_out : (lo hi b : ℕ) → In lo hi b ⊎ ((leb lo b && leb b hi) ≡ false)
in_or_out lo hi b = by (leb lo b) (leb b hi) refl refl
  where
    by : (p q : Bool) → leb lo b ≡ p → leb b hi ≡ q → In lo hi b ⊎ ((p && q) ≡ false)
    by true true p q = inl (leb-true lo b p, leb-true b hi q)
    by true false p q = inr refl
    by false q p e = inr refl

pub hex_or_not : (b : ℕ) → HexOrNot b
unfolding hex
hex_or_not b = one (in_or_out 0x30 0x39 b)
  where
    three : (leb 0x30 b && leb b 0x39) ≡ false → (leb 0x41 b && leb b 0x46) ≡ false → In 0x61 0x66 b ⊎ ((leb 0x61 b && leb b 0x66) ≡ false) → HexOrNot b
    three e f (inl h) = is_hex (lower h)
    three e f (inr g) = no_hex (rw (e, f, g) refl)

    two : (leb 0x30 b && leb b 0x39) ≡ false → In 0x41 0x46 b ⊎ ((leb 0x41 b && leb b 0x46) ≡ false) → HexOrNot b
    two e (inl h) = is_hex (upper h)
    two e (inr f) = three e f (in_or_out 0x61 0x66 b)

    one : In 0x30 0x39 b ⊎ ((leb 0x30 b && leb b 0x39) ≡ false) → HexOrNot b
    one (inl h) = is_hex (digit h)
    one (inr e) = two e (in_or_out 0x41 0x46 b)

-- ── Sticking ──────────────────────────────────────────────────────────────────────────────────────

-- From an escape that is so far, the machine sticks behind d bytes, whatever it reads the string for.
pub record Sticks (x : Escape) (s : List ℕ) (d : ℕ) : Type 0 where
  pub sticks : (deep : ℕ → Bool) (large : List ℕ → Bool) (w : List ℕ) (us : Use) (fs : List Frame) (i : ℕ)
      → run deep large (escape x w us fs) i s ≡ refused NOT_JSON (i + d) (i + d) 0

at_end : (x : Escape) → Sticks x [] 0
unfolding run finish
at_end x = record { sticks = λ deep large w us fs i. let at : i ≡ i + 0 = omega arith in ap (λ (n : ℕ). refused NOT_JSON n n 0) at }

at_byte : (x : Escape) (b : ℕ) (s : List ℕ) → ((w : List ℕ) (us : Use) (fs : List Frame) (i : ℕ) → escaped x w us fs i b ≡ stuck i) → Sticks x (b ∷ s) 0
unfolding run step
at_byte x b s f =
    record {
      sticks = λ deep large w us fs i.
          let at : i ≡ i + 0 = omega arith in
          ap (λ (st : State). run deep large st (i + 1) s) (f w us fs i) ∙ stays_stuck deep large i (i + 1) s ∙ ap (λ (n : ℕ). refused NOT_JSON n n 0) at;
    }

one_more : (x y : Escape) (b : ℕ) (s : List ℕ) (d : ℕ) → ((w : List ℕ) (us : Use) (fs : List Frame) (i : ℕ) → escaped x w us fs i b ≡ escape y w us fs) → Sticks y s d → Sticks x (b ∷ s) (1 + d)
unfolding run step
one_more x y b s d f r =
    record {
      sticks = λ deep large w us fs i.
          let at : i + 1 + d ≡ i + (1 + d) = omega arith in
          ap (λ (st : State). run deep large st (i + 1) s) (f w us fs i) ∙ r.sticks deep large w us fs (i + 1) ∙ ap (λ (n : ℕ). refused NOT_JSON n n 0) at;
    }

-- ── Four digits ───────────────────────────────────────────────────────────────────────────────────

pub no_first : (b : ℕ) → hex b ≡ 16 → (w : List ℕ) (us : Use) (fs : List Frame) (i : ℕ) → escaped u_none w us fs i b ≡ stuck i
unfolding escaped
no_first b h w us fs i = rw h refl

pub no_second : (x b : ℕ) → hex b ≡ 16 → (w : List ℕ) (us : Use) (fs : List Frame) (i : ℕ) → escaped (u_one x) w us fs i b ≡ stuck i
unfolding escaped
no_second x b h w us fs i = rw h refl

pub half_second : (x b v : ℕ) → Value b v → 0xDC ≤ x * 16 + v → x * 16 + v ≤ 0xDF → (w : List ℕ) (us : Use) (fs : List Frame) (i : ℕ) → escaped (u_one x) w us fs i b ≡ stuck i
unfolding escaped
half_second x b v h p q w us fs i = rw (h.is, small_hex v h.small, inside 0xDC 0xDF (x * 16 + v) p q) refl

pub no_third : (x b : ℕ) → hex b ≡ 16 → (w : List ℕ) (us : Use) (fs : List Frame) (i : ℕ) → escaped (u_two x) w us fs i b ≡ stuck i
unfolding escaped
no_third x b h w us fs i = rw h refl

pub no_fourth : (x b : ℕ) → hex b ≡ 16 → (w : List ℕ) (us : Use) (fs : List Frame) (i : ℕ) → escaped (u_three x) w us fs i b ≡ stuck i
unfolding escaped
no_fourth x b h w us fs i = rw h refl

-- Four digits that are no low half, or the machine sticks.
pub data Units (s : List ℕ) : Type 0 where
  plainly : {n : ℕ} {r : List ℕ} → Four s n r → Scalar n → Units s
  half : {n : ℕ} {r : List ℕ} → Four s n r → In 0xD800 0xDBFF n → Units s
  stick : (d : ℕ) → Sticks u_none s d → Units s

module _ {a b c d v x y z : ℕ} (r : List ℕ) (p : Hex a v) (q : Hex b x) (m : Hex c y) (l : Hex d z) (no_low : (v * 16 + x < 0xDC) ⊎ (0xDF < v * 16 + x)) where
  four_digits : Units (a ∷ b ∷ c ∷ d ∷ r)
  four_digits = by no_low (dec_lt (v * 16 + x) 0xD8)
    where
      hp : Value a v
      hp = hex_value p

      hq : Value b x
      hq = hex_value q

      hm : Value c y
      hm = hex_value m

      hl : Value d z
      hl = hex_value l

      by : (v * 16 + x < 0xDC) ⊎ (0xDF < v * 16 + x) → Dec (v * 16 + x < 0xD8) → Units (a ∷ b ∷ c ∷ d ∷ r)
      by o (yes e) = plainly (four p q m l) (inl (omega (arith, e, hm.small, hl.small)))
      by (inl o) (no e) = half (four p q m l) (omega (arith, e, o, hm.small, hl.small), omega (arith, e, o, hm.small, hl.small))
      by (inr o) (no e) = plainly (four p q m l) (inr (omega (arith, o, hm.small, hl.small), omega (arith, hp.small, hq.small, hm.small, hl.small)))

read_fourth : {a b c v x y : ℕ} (s : List ℕ) → Hex a v → Hex b x → Hex c y → (v * 16 + x < 0xDC) ⊎ (0xDF < v * 16 + x)
    → Units (a ∷ b ∷ c ∷ s) ⊎ ((d : ℕ) × Sticks (u_three ((v * 16 + x) * 16 + y)) s d)
read_fourth {v = v} {x = x} {y = y} [] p q m o = inr (0, at_end (u_three ((v * 16 + x) * 16 + y)))
read_fourth {a} {b} {c} {v} {x} {y} (d ∷ r) p q m o = by (hex_or_not d)
  where
    by : HexOrNot d → Units (a ∷ b ∷ c ∷ d ∷ r) ⊎ ((k : ℕ) × Sticks (u_three ((v * 16 + x) * 16 + y)) (d ∷ r) k)
    by (is_hex l) = inl (four_digits r p q m l o)
    by (no_hex e) = inr (0, at_byte (u_three ((v * 16 + x) * 16 + y)) d r (no_fourth ((v * 16 + x) * 16 + y) d e))

read_third : {a b v x : ℕ} (s : List ℕ) → Hex a v → Hex b x → (v * 16 + x < 0xDC) ⊎ (0xDF < v * 16 + x) → Units (a ∷ b ∷ s) ⊎ ((d : ℕ) × Sticks (u_two (v * 16 + x)) s d)
read_third {v = v} {x = x} [] p q o = inr (0, at_end (u_two (v * 16 + x)))
read_third {a} {b} {v} {x} (c ∷ s) p q o = by (hex_or_not c)
  where
    on : {y : ℕ} → Hex c y → Units (a ∷ b ∷ c ∷ s) ⊎ ((d : ℕ) × Sticks (u_three ((v * 16 + x) * 16 + y)) s d) → Units (a ∷ b ∷ c ∷ s) ⊎ ((d : ℕ) × Sticks (u_two (v * 16 + x)) (c ∷ s) d)
    on m (inl u) = inl u
    on {y} m (inr (d, st)) = inr (1 + d, one_more (u_two (v * 16 + x)) (u_three ((v * 16 + x) * 16 + y)) c s d (λ w us fs i. third_digit w us fs i (v * 16 + x) (hex_value m)) st)

    by : HexOrNot c → Units (a ∷ b ∷ c ∷ s) ⊎ ((d : ℕ) × Sticks (u_two (v * 16 + x)) (c ∷ s) d)
    by (is_hex m) = on m (read_fourth s p q m o)
    by (no_hex e) = inr (0, at_byte (u_two (v * 16 + x)) c s (no_third (v * 16 + x) c e))

read_second : {a v : ℕ} (s : List ℕ) → Hex a v → Units (a ∷ s) ⊎ ((d : ℕ) × Sticks (u_one v) s d)
read_second {v = v} [] p = inr (0, at_end (u_one v))
read_second {a} {v} (b ∷ s) p = by (hex_or_not b)
  where
    on : {x : ℕ} → Hex b x → (v * 16 + x < 0xDC) ⊎ (0xDF < v * 16 + x) → Units (a ∷ b ∷ s) ⊎ ((d : ℕ) × Sticks (u_two (v * 16 + x)) s d) → Units (a ∷ b ∷ s) ⊎ ((d : ℕ) × Sticks (u_one v) (b ∷ s) d)
    on q o (inl u) = inl u
    on {x} q o (inr (d, st)) = inr (1 + d, one_more (u_one v) (u_two (v * 16 + x)) b s d (λ w us fs i. second_digit w us fs i v (hex_value q) o) st)

    judge : {x : ℕ} → Hex b x → Dec (v * 16 + x < 0xDC) → Dec (0xDF < v * 16 + x) → Units (a ∷ b ∷ s) ⊎ ((d : ℕ) × Sticks (u_one v) (b ∷ s) d)
    judge q (yes e) f = on q (inl e) (read_third s p q (inl e))
    judge q (no e) (yes f) = on q (inr f) (read_third s p q (inr f))
    judge {x} q (no e) (no f) = inr (0, at_byte (u_one v) b s (half_second v b x (hex_value q) (omega (arith, e)) (omega (arith, f))))

    by : HexOrNot b → Units (a ∷ b ∷ s) ⊎ ((d : ℕ) × Sticks (u_one v) (b ∷ s) d)
    by (is_hex {v = x} q) = judge q (dec_lt (v * 16 + x) 0xDC) (dec_lt 0xDF (v * 16 + x))
    by (no_hex e) = inr (0, at_byte (u_one v) b s (no_second v b e))

pub read_units : (s : List ℕ) → Units s
read_units [] = stick 0 (at_end u_none)
read_units (a ∷ s) = by (hex_or_not a)
  where
    on : {v : ℕ} → Hex a v → Units (a ∷ s) ⊎ ((d : ℕ) × Sticks (u_one v) s d) → Units (a ∷ s)
    on p (inl u) = u
    on {v} p (inr (d, st)) = stick (1 + d) (one_more u_none (u_one v) a s d (λ w us fs i. first-digit w us fs i (hex_value p)) st)

    by : HexOrNot a → Units (a ∷ s)
    by (is_hex p) = on p (read_second s p)
    by (no_hex e) = stick 0 (at_byte u_none a s (no_first a e))

-- ── The low half ──────────────────────────────────────────────────────────────────────────────────

pub no_slash_lem : (n b : ℕ) → eqb b 0x5C ≡ false → (w : List ℕ) (us : Use) (fs : List Frame) (i : ℕ) → escaped (high n) w us fs i b ≡ stuck i
unfolding escaped
no_slash_lem n b h w us fs i = rw h refl

pub no_u : (n b : ℕ) → eqb b 0x75 ≡ false → (w : List ℕ) (us : Use) (fs : List Frame) (i : ℕ) → escaped (high_slash n) w us fs i b ≡ stuck i
unfolding escaped
no_u n b h w us fs i = rw h refl

pub the_slash : (n : ℕ) (w : List ℕ) (us : Use) (fs : List Frame) (i : ℕ) → escaped (high n) w us fs i 0x5C ≡ escape (high_slash n) w us fs
unfolding escaped
the_slash n w us fs i = refl

pub the_u : (n : ℕ) (w : List ℕ) (us : Use) (fs : List Frame) (i : ℕ) → escaped (high_slash n) w us fs i 0x75 ≡ escape (high_u n) w us fs
unfolding escaped
the_u n w us fs i = refl

pub no_d : (n b : ℕ) → eqb (hex b) 13 ≡ false → (w : List ℕ) (us : Use) (fs : List Frame) (i : ℕ) → escaped (high_u n) w us fs i b ≡ stuck i
unfolding escaped
no_d n b h w us fs i = rw h refl

pub no_low_second : (n b : ℕ) → (leb 12 (hex b) && leb (hex b) 15) ≡ false → (w : List ℕ) (us : Use) (fs : List Frame) (i : ℕ) → escaped (low_one n) w us fs i b ≡ stuck i
unfolding escaped
no_low_second n b h w us fs i = rw h refl

pub no_low_third : (n x b : ℕ) → hex b ≡ 16 → (w : List ℕ) (us : Use) (fs : List Frame) (i : ℕ) → escaped (low_two n x) w us fs i b ≡ stuck i
unfolding escaped
no_low_third n x b h w us fs i = rw h refl

pub no_low_fourth : (n x b : ℕ) → hex b ≡ 16 → (w : List ℕ) (us : Use) (fs : List Frame) (i : ℕ) → escaped (low_three n x) w us fs i b ≡ stuck i
unfolding escaped
no_low_fourth n x b h w us fs i = rw h refl

-- A low half behind a high one, or the machine sticks.
pub data Lows (n : ℕ) (s : List ℕ) : Type 0 where
  a_low : {lo : ℕ} {r : List ℕ} → Low s lo r → Lows n s
  stick : (d : ℕ) → Sticks (high n) s d → Lows n s

-- From a state on: a low half's digits are whole, or the machine sticks.
abbrev Or : (n : ℕ) → List ℕ → Escape → List ℕ → Type 0
Or n whole x s = Lows n whole ⊎ ((d : ℕ) × Sticks x s d)

step_or : (n : ℕ) (all : List ℕ) (x y : Escape) (b : ℕ) (s : List ℕ) → ((w : List ℕ) (us : Use) (fs : List Frame) (i : ℕ) → escaped x w us fs i b ≡ escape y w us fs) → Or n all y s → Or n all x (b ∷ s)
step_or n all x y b s f (inl l) = inl l
step_or n all x y b s f (inr (d, st)) = inr (1 + d, one_more x y b s d f st)

low_fourth : (n : ℕ) {a b c x y : ℕ} (s : List ℕ) → Hex a 13 → Hex b x → 12 ≤ x → Hex c y → Or n (0x5C ∷ 0x75 ∷ a ∷ b ∷ c ∷ s) (low_three n ((13 * 16 + x) * 16 + y)) s
low_fourth n {x = x} {y = y} [] p q o m = inr (0, at_end (low_three n ((13 * 16 + x) * 16 + y)))
low_fourth n {a} {b} {c} {x} {y} (d ∷ r) p q o m = by (hex_or_not d)
  where
    by : HexOrNot d → Or n (0x5C ∷ 0x75 ∷ a ∷ b ∷ c ∷ d ∷ r) (low_three n ((13 * 16 + x) * 16 + y)) (d ∷ r)
    by (is_hex l) =
        inl (a_low (low (four p q m l) (omega (arith, o, (hex_value q).small, (hex_value m).small, (hex_value l).small), omega (arith, o, (hex_value q).small, (hex_value m).small, (hex_value l).small))))
    by (no_hex e) = inr (0, at_byte (low_three n ((13 * 16 + x) * 16 + y)) d r (no_low_fourth n ((13 * 16 + x) * 16 + y) d e))

low_third : (n : ℕ) {a b x : ℕ} (s : List ℕ) → Hex a 13 → Hex b x → 12 ≤ x → Or n (0x5C ∷ 0x75 ∷ a ∷ b ∷ s) (low_two n (13 * 16 + x)) s
low_third n {x = x} [] p q o = inr (0, at_end (low_two n (13 * 16 + x)))
low_third n {a} {b} {x} (c ∷ s) p q o = by (hex_or_not c)
  where
    by : HexOrNot c → Or n (0x5C ∷ 0x75 ∷ a ∷ b ∷ c ∷ s) (low_two n (13 * 16 + x)) (c ∷ s)
    by (is_hex {v = y} m) = step_or n _ (low_two n (13 * 16 + x)) (low_three n ((13 * 16 + x) * 16 + y)) c s (λ w us fs i. third_of_low w us fs i n (13 * 16 + x) (hex_value m)) (low_fourth n s p q o m)
    by (no_hex e) = inr (0, at_byte (low_two n (13 * 16 + x)) c s (no_low_third n (13 * 16 + x) c e))

low_second : (n : ℕ) {a : ℕ} (s : List ℕ) → Hex a 13 → Or n (0x5C ∷ 0x75 ∷ a ∷ s) (low_one n) s
low_second n [] p = inr (0, at_end (low_one n))
low_second n {a} (b ∷ s) p = by (hex_or_not b)
  where
    judge : {x : ℕ} → Hex b x → Dec (12 ≤ x) → Or n (0x5C ∷ 0x75 ∷ a ∷ b ∷ s) (low_one n) (b ∷ s)
    judge {x} q (yes o) = step_or n _ (low_one n) (low_two n (13 * 16 + x)) b s (λ w us fs i. second_of_low w us fs i n (hex_value q) o) (low_third n s p q o)
    judge {x} q (no o) =
        let small : (leb 12 (hex b) && leb (hex b) 15) ≡ false = below 12 15 (hex b) (omega (arith, o, (hex_value q).is)) in
        inr (0, at_byte (low_one n) b s (no_low_second n b small))

    by : HexOrNot b → Or n (0x5C ∷ 0x75 ∷ a ∷ b ∷ s) (low_one n) (b ∷ s)
    by (is_hex {v = x} q) = judge q (dec_le 12 x)
    by (no_hex e) =
        let large : (leb 12 (hex b) && leb (hex b) 15) ≡ false = above 12 15 (hex b) (omega (arith, e)) in
        inr (0, at_byte (low_one n) b s (no_low_second n b large))

low_first : (n : ℕ) (s : List ℕ) → Or n (0x5C ∷ 0x75 ∷ s) (high_u n) s
low_first n [] = inr (0, at_end (high_u n))
low_first n (a ∷ s) = by (hex_or_not a)
  where
    judge : {v : ℕ} → Hex a v → Dec (v ≡ 13) → Or n (0x5C ∷ 0x75 ∷ a ∷ s) (high_u n) (a ∷ s)
    judge {v} p (yes e) =
        let p' : Hex a 13 = subst (Hex a) e p in
        step_or n _ (high_u n) (low_one n) a s (λ w us fs i. first_of_low w us fs i n (hex_value p')) (low_second n s p')
    judge {v} p (no e) = inr (0, at_byte (high_u n) a s (no_d n a (ne_eqb (hex a) 13 (λ z. e (sym (hex_value p).is ∙ z)))))

    by : HexOrNot a → Or n (0x5C ∷ 0x75 ∷ a ∷ s) (high_u n) (a ∷ s)
    by (is_hex {v} p) = judge p (ℕ_discrete v 13)
    by (no_hex e) = inr (0, at_byte (high_u n) a s (no_d n a (ne_eqb (hex a) 13 (λ z. omega (arith, e, z)))))

low_u : (n : ℕ) (s : List ℕ) → Or n (0x5C ∷ s) (high_slash n) s
low_u n [] = inr (0, at_end (high_slash n))
low_u n (b ∷ s) = by (ℕ_discrete b 0x75)
  where
    by : Dec (b ≡ 0x75) → Or n (0x5C ∷ b ∷ s) (high_slash n) (b ∷ s)
    by (yes e) = subst (λ (z : ℕ). Or n (0x5C ∷ z ∷ s) (high_slash n) (z ∷ s)) (sym e) (step_or n (0x5C ∷ 0x75 ∷ s) (high_slash n) (high_u n) 0x75 s (the_u n) (low_first n s))
    by (no e) = inr (0, at_byte (high_slash n) b s (no_u n b (ne_eqb b 0x75 e)))

pub read_low : (n : ℕ) (s : List ℕ) → Lows n s
read_low n [] = stick 0 (at_end (high n))
read_low n (b ∷ s) = by (ℕ_discrete b 0x5C)
  where
    of : Or n (0x5C ∷ s) (high n) (0x5C ∷ s) → Lows n (0x5C ∷ s)
    of (inl l) = l
    of (inr (d, st)) = stick d st

    by : Dec (b ≡ 0x5C) → Lows n (b ∷ s)
    by (yes e) = subst (λ (z : ℕ). Lows n (z ∷ s)) (sym e) (of (step_or n (0x5C ∷ s) (high n) (high_slash n) 0x5C s (the_slash n) (low_u n s)))
    by (no e) = stick 0 (at_byte (high n) b s (no_slash_lem n b (ne_eqb b 0x5C e)))

-- ── An escape ─────────────────────────────────────────────────────────────────────────────────────

-- Behind a backslash stands an escape: its text, what follows it, and how many bytes both have with the backslash.
pub record Coded (s : List ℕ) : Type 0 where
  pub text : List ℕ
  pub rest : List ℕ
  pub size : ℕ
  pub shorter : length rest < length s
  pub goes_on : (i : ℕ) (t : List ℕ) (g : At) → Chars (i + size ▹ rest) t g → Chars (i ▹ 0x5C ∷ s) (text ++ t) g
  pub runs : (deep : ℕ → Bool) (large : List ℕ → Bool) (w : List ℕ) (us : Use) (fs : List Frame) (i : ℕ)
      → run deep large (escape slash w us fs) (i + 1) s ≡ run deep large (chars (w ++ text) us fs) (i + size) rest

pub data Escapes (s : List ℕ) : Type 0 where
  coded : Coded s → Escapes s
  stick : (d : ℕ) → Sticks slash s d → Escapes s

four_shorter : {s r : List ℕ} {n : ℕ} → Four s n r → length r < length s
four_shorter (four p q m l) = omega arith

low_shorter : {s r : List ℕ} {n : ℕ} → Low s n r → length r < length s
low_shorter (low f h) = omega (arith, four_shorter f)

the_unit : {s r : List ℕ} {n : ℕ} → Four s n r → Scalar n → Coded (0x75 ∷ s)
unfolding run step escaped
the_unit {s} {r} {n} f sc =
    record {
      text = utf8 n;
      rest = r;
      size = 6;
      shorter = omega (arith, four_shorter f);
      goes_on = λ i t g c. unit f sc c;
      runs = λ deep large w us fs i.
          let at : i + 1 + 1 + 4 ≡ i + 6 = omega arith in
          run_unit deep large us fs w (i + 1 + 1) f sc ∙ ap (λ (k : ℕ). run deep large (chars (w ++ utf8 n) us fs) k r) at;
    }

the_pair : {s q r : List ℕ} {hi lo : ℕ} → Four s hi q → In 0xD800 0xDBFF hi → Low q lo r → Coded (0x75 ∷ s)
unfolding run step escaped
the_pair {s} {q} {r} {hi} {lo} f h l =
    record {
      text = utf8 (0x10000 + (hi - 0xD800) * 0x400 + (lo - 0xDC00));
      rest = r;
      size = 12;
      shorter = omega (arith, four_shorter f, low_shorter l);
      goes_on = λ i t g c. pair f h l c;
      runs = λ deep large w us fs i.
          let at : i + 1 + 1 + 4 + 6 ≡ i + 12 = omega arith in
          run_high deep large us fs w (i + 1 + 1) f h ∙ run_low deep large us fs hi w (i + 1 + 1 + 4) l
          ∙ ap (λ (k : ℕ). run deep large (chars (w ++ utf8 (0x10000 + (hi - 0xD800) * 0x400 + (lo - 0xDC00))) us fs) k r) at;
    }

the_letter : {l c : ℕ} (s : List ℕ) → Letter l c → Coded (l ∷ s)
unfolding run step
the_letter {l} {c} s p =
    record {
      text = c ∷ [];
      rest = s;
      size = 2;
      shorter = omega arith;
      goes_on = λ i t g x. letter p x;
      runs = λ deep large w us fs i.
          let at : i + 1 + 1 ≡ i + 2 = omega arith in
          ap (λ (st : State). run deep large st (i + 1 + 1) s) (letter_step p w us fs (i + 1)) ∙ ap (λ (k : ℕ). run deep large (chars (w ++ (c ∷ [])) us fs) k s) at;
    }

pub letter_or_not : (l : ℕ) → ((c : ℕ) × Letter l c) ⊎ (meant l ≡ 256)
unfolding meant
letter_or_not l = by (eqb l 0x22) (eqb l 0x5C) (eqb l 0x2F) (eqb l 0x62) (eqb l 0x66) (eqb l 0x6E) (eqb l 0x72) (eqb l 0x74) refl refl refl refl refl refl refl refl
  where
    is : (k c : ℕ) → eqb l k ≡ true → Letter k c → ((c : ℕ) × Letter l c)
    is k c e p = (c, subst (λ (z : ℕ). Letter z c) (sym (eqb-true l k e)) p)

    by : (c1 c2 c3 c4 c5 c6 c7 c8 : Bool) → eqb l 0x22 ≡ c1 → eqb l 0x5C ≡ c2 → eqb l 0x2F ≡ c3 → eqb l 0x62 ≡ c4 → eqb l 0x66 ≡ c5 → eqb l 0x6E ≡ c6 → eqb l 0x72 ≡ c7 → eqb l 0x74 ≡ c8
        → ((c : ℕ) × Letter l c)
        ⊎ ◌≡◌ {A = ℕ} (cond c1 0x22 (cond c2 0x5C (cond c3 0x2F (cond c4 0x08 (cond c5 0x0C (cond c6 0x0A (cond c7 0x0D (cond c8 0x09 256)))))))) 256
    by true c2 c3 c4 c5 c6 c7 c8 e1 e2 e3 e4 e5 e6 e7 e8 = inl (is 0x22 0x22 e1 quotation_mark)
    by false true c3 c4 c5 c6 c7 c8 e1 e2 e3 e4 e5 e6 e7 e8 = inl (is 0x5C 0x5C e2 reverse_solidus)
    by false false true c4 c5 c6 c7 c8 e1 e2 e3 e4 e5 e6 e7 e8 = inl (is 0x2F 0x2F e3 solidus)
    by false false false true c5 c6 c7 c8 e1 e2 e3 e4 e5 e6 e7 e8 = inl (is 0x62 0x08 e4 backspace)
    by false false false false true c6 c7 c8 e1 e2 e3 e4 e5 e6 e7 e8 = inl (is 0x66 0x0C e5 form_feed)
    by false false false false false true c7 c8 e1 e2 e3 e4 e5 e6 e7 e8 = inl (is 0x6E 0x0A e6 line_feed)
    by false false false false false false true c8 e1 e2 e3 e4 e5 e6 e7 e8 = inl (is 0x72 0x0D e7 return)
    by false false false false false false false true e1 e2 e3 e4 e5 e6 e7 e8 = inl (is 0x74 0x09 e8 tab)
    by false false false false false false false false e1 e2 e3 e4 e5 e6 e7 e8 = inr refl

pub no_letter : (l : ℕ) → eqb l 0x75 ≡ false → meant l ≡ 256 → (w : List ℕ) (us : Use) (fs : List Frame) (i : ℕ) → escaped slash w us fs i l ≡ stuck i
unfolding escaped
no_letter l e m w us fs i = rw (e, m) refl

pub the_u_none : (w : List ℕ) (us : Use) (fs : List Frame) (i : ℕ) → escaped slash w us fs i 0x75 ≡ escape u_none w us fs
unfolding escaped
the_u_none w us fs i = refl

-- Behind a high half no low one stands.
half_sticks : {s r : List ℕ} {n : ℕ} (d : ℕ) → Four s n r → In 0xD800 0xDBFF n → Sticks (high n) r d → Sticks u_none s (4 + d)
half_sticks d f h st =
    record {
      sticks = λ deep large w us fs i.
          let at : i + 4 + d ≡ i + (4 + d) = omega arith in
          run_high deep large us fs w i f h ∙ st.sticks deep large w us fs (i + 4) ∙ ap (λ (k : ℕ). refused NOT_JSON k k 0) at;
    }

read_u : (s : List ℕ) → Units s → Escapes (0x75 ∷ s)
read_u s (plainly f sc) = coded (the_unit f sc)
read_u s (half {n} {r} f h) = by (read_low n r)
  where
    by : Lows n r → Escapes (0x75 ∷ s)
    by (a_low l) = coded (the_pair f h l)
    by (Lows.stick d st) = Escapes.stick (1 + (4 + d)) (one_more slash u_none 0x75 s (4 + d) the_u_none (half_sticks d f h st))
read_u s (Units.stick d st) = Escapes.stick (1 + d) (one_more slash u_none 0x75 s d the_u_none st)

pub read_escape : (s : List ℕ) → Escapes s
read_escape [] = Escapes.stick 0 (at_end slash)
read_escape (l ∷ s) = by (ℕ_discrete l 0x75) (letter_or_not l)
  where
    by : Dec (l ≡ 0x75) → ((c : ℕ) × Letter l c) ⊎ (meant l ≡ 256) → Escapes (l ∷ s)
    by (yes e) x = subst (λ (z : ℕ). Escapes (z ∷ s)) (sym e) (read_u s (read_units s))
    by (no n) (inl (c, p)) = coded (the_letter s p)
    by (no n) (inr m) = Escapes.stick 0 (at_byte slash l s (no_letter l (ne_eqb l 0x75 n) m))

-- ── Characters up to the closing quote ────────────────────────────────────────────────────────────

abbrev size_of : At → ℕ
size_of (i ▹ s) = length s

pub data ReadChars (i : ℕ) (s : List ℕ) : Type 0 where
  to_quote : {t : List ℕ} {g : At} → Chars (i ▹ s) t g → ReadChars i s
  stick : (n : ℕ) → ((deep : ℕ → Bool) (large : List ℕ → Bool) (w : List ℕ) (us : Use) (fs : List Frame) → run deep large (chars w us fs) i s ≡ refused NOT_JSON n n 0) → ReadChars i s

pub plain_step : (deep : ℕ → Bool) (large : List ℕ → Bool) (w : List ℕ) (us : Use) (fs : List Frame) (i b : ℕ) → is_plain b ≡ true → step deep large (chars w us fs) i b ≡ chars (w ++ (b ∷ [])) us fs
unfolding step
plain_step deep large w us fs i b p = rw p refl

pub other_step : (deep : ℕ → Bool) (large : List ℕ → Bool) (w : List ℕ) (us : Use) (fs : List Frame) (i b : ℕ) → is_plain b ≡ false → eqb b 0x22 ≡ false → eqb b 0x5C ≡ false
    → step deep large (chars w us fs) i b ≡ stuck i
unfolding step
other_step deep large w us fs i b p q r = rw (p, q, r) refl

pub slash_step : (deep : ℕ → Bool) (large : List ℕ → Bool) (w : List ℕ) (us : Use) (fs : List Frame) (i : ℕ) → step deep large (chars w us fs) i 0x5C ≡ escape slash w us fs
unfolding step
slash_step deep large w us fs i = refl

pub read_chars : (fuel i : ℕ) (s : List ℕ) → length s ≤ fuel → ReadChars i s
unfolding run finish
read_chars zero i [] le = stick i (λ deep large w us fs. refl)
read_chars zero i (b ∷ s) le = absurd (omega (arith, le))
read_chars (suc fuel) i [] le = stick i (λ deep large w us fs. refl)
read_chars (suc fuel) i (b ∷ s) le = by (λ j r h. read_chars fuel j r h) (is_plain b) refl (ℕ_discrete b 0x22) (ℕ_discrete b 0x5C)
  where
    on : is_plain b ≡ true → ReadChars (i + 1) s → ReadChars i (b ∷ s)
    on p (to_quote c) = to_quote (plain p c)
    on p (stick n f) = stick n (λ deep large w us fs. ap (λ (st : State). run deep large st (i + 1) s) (plain_step deep large w us fs i b p) ∙ f deep large (w ++ (b ∷ [])) us fs)

    past : (c : Coded s) → ReadChars (i + c.size) c.rest → ReadChars i (0x5C ∷ s)
    past c (to_quote {t} {g} x) = to_quote (c.goes_on i t g x)
    past c (stick n f) = stick n (λ deep large w us fs. ap (λ (st : State). run deep large st (i + 1) s) (slash_step deep large w us fs i) ∙ c.runs deep large w us fs i ∙ f deep large (w ++ c.text) us fs)

    escape_at : ((j : ℕ) (r : List ℕ) → length r ≤ fuel → ReadChars j r) → Escapes s → ReadChars i (0x5C ∷ s)
    escape_at rec (coded c) = past c (rec (i + c.size) c.rest (omega (arith, le, c.shorter)))
    escape_at rec (Escapes.stick d st) =
        stick (i + 1 + d) (λ deep large w us fs. ap (λ (x : State). run deep large x (i + 1) s) (slash_step deep large w us fs i) ∙ st.sticks deep large w us fs (i + 1))

    by : ((j : ℕ) (r : List ℕ) → length r ≤ fuel → ReadChars j r) → (p : Bool) → is_plain b ≡ p → Dec (b ≡ 0x22) → Dec (b ≡ 0x5C) → ReadChars i (b ∷ s)
    by rec true e q r = on e (rec (i + 1) s (omega (arith, le)))
    by rec false e (yes q) r = subst (λ (z : ℕ). ReadChars i (z ∷ s)) (sym q) (to_quote end)
    by rec false e (no q) (yes r) = subst (λ (z : ℕ). ReadChars i (z ∷ s)) (sym r) (escape_at rec (read_escape s))
    by rec false e (no q) (no r) =
        stick i (λ deep large w us fs. ap (λ (st : State). run deep large st (i + 1) s) (other_step deep large w us fs i b e (ne_eqb b 0x22 q) (ne_eqb b 0x5C r)) ∙ stays_stuck deep large i (i + 1) s)
