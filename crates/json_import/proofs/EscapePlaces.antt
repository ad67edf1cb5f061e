-- Escapes at places of a text: what each test of the code says of the machine.
-- Assumes nothing.
use mathlib.Core.Path.{◌≡◌, refl, sym, ap, ◌∙◌}
use mathlib.Core.List.{List, [], ◌∷◌, ◌++◌}
use mathlib.Core.Logic.{◌⊎◌, inl, inr}
use Prim.Native.Nat.{ℕ, ◌+◌, ◌-◌, ◌*◌, ◌≤◌, ◌<◌}
use native.Mathlib.Omega.{arith}
use lib.ListN.{length, get_or}
use borrow.Author.Tests.{ne_eqb}
use Rattle.strings.specs.Utf8.{In, utf8}
use Rattle.strings.specs.Inner.{Digit}
use Rattle.strings.proofs.Utf8Laws.{utf8_1, utf8_size}
use Rattle.json_import.specs.Tokens.{Letter, quotation_mark, reverse_solidus, solidus, backspace, form_feed, line_feed, return, tab}
use Rattle.json_import.specs.Machine.{slash, u_none, u_one, u_two, u_three, high, high_slash, high_u, low_one, low_two, low_three, chars, meant, hex, escaped}
use Rattle.json_import.specs.Inner.{EscapeTo}
use Rattle.std.specs.Prelude.{Some, None, Result, Ok, Err}
use Rattle.json_import.specs.declared.text.Escaped.{Escaped}
use Rattle.json_import.specs.declared.Fault.{Fault}
use Rattle.json_import.specs.declared.Fault.TheVariants.{NotJson}
use Rattle.json_import.proofs.Tests.{Value, hex_value, below, above}
use Rattle.json_import.proofs.StringRuns.{letter_step, first-digit, second_digit, third_digit, last_digit, last_of_high, first_of_low, second_of_low, third_of_low, last_of_low}
use Rattle.json_import.proofs.Escapes.{HexOrNot, is_hex, no_hex, hex_or_not, letter_or_not, no_letter, the_u_none, no_first, no_second, half_second, no_third, no_fourth, no_slash_lem, no_u, the_slash, the_u, no_d, no_low_second, no_low_third, no_low_fourth}
use Rattle.json_import.proofs.Places.{byte_inside, one_before, stops-here, code_here}

-- ── Digits ────────────────────────────────────────────────────────────────────────────────────────

pub digit-hex : {b v : ℕ} → Digit b (Some v) → (v ≡ hex b) × (v ≤ 15)
digit-hex h = (sym (hex_value h).is, (hex_value h).small)

pub digit-none : {b : ℕ} → Digit b None → hex b ≡ 16
digit-none {b} f = by (hex_or_not b)
  where
    by : HexOrNot b → hex b ≡ 16
    by (is_hex h) = absurd (f _ h)
    by (no_hex e) = e

-- A digit's value, which the code has as v; or none.
some : (b : ℕ) {v : ℕ} → v ≡ hex b → v ≤ 15 → Value b v
some b e h = record { is = sym e; small = h }

value_inside : (s : List ℕ) (at : ℕ) {v : ℕ} → Value (get_or s at 0) v → at < length s
unfolding hex
value_inside s at {v} h =
    byte_inside s at (λ z. let none : 16 ≡ v = sym (ap (λ (b : ℕ). hex b) z) ∙ h.is in omega (arith, none, h.small))

-- ── The last two digits of a low half ─────────────────────────────────────────────────────────────

module _ {s : List ℕ} {at : ℕ} (n x : ℕ) where
  pub low_third : hex (get_or s at 0) ≡ 16 → EscapeTo s (low_two n x) 10 at (Err (NotJson at))
  low_third h = stops-here (low_two n x) (no_low_third n x (get_or s at 0) h)

  module _ {c : ℕ} (e : c ≡ hex (get_or s at 0)) (h : c ≤ 15) where
    on_third : {r : Result Escaped Fault} → EscapeTo s (low_three n (x * 16 + c)) 11 (at + 1) r → EscapeTo s (low_two n x) 10 at r
    on_third = one_before (low_two n x) (low_three n (x * 16 + c)) (value_inside s at (some (get_or s at 0) e h)) refl refl (λ w us fs i. third_of_low w us fs i n x (some (get_or s at 0) e h))

    pub low_fourth : hex (get_or s (at + 1) 0) ≡ 16 → EscapeTo s (low_two n x) 10 at (Err (NotJson (at + 1)))
    low_fourth g = on_third (stops-here (low_three n (x * 16 + c)) (no_low_fourth n (x * 16 + c) (get_or s (at + 1) 0) g))

    pub low_whole : {d : ℕ} → d ≡ hex (get_or s (at + 1) 0) → d ≤ 15 → In 0xD800 0xDBFF n → In 0xDC 0xDF x → EscapeTo s (low_two n x) 10 at (Ok (record { code = 0x10000 + (n - 0xD800) * 0x400 + ((x * 16 + c) * 16 + d - 0xDC00); end = at + 2 }))
    low_whole {d} f g p q =
        let all = 0x10000 + (n - 0xD800) * 0x400 + ((x * 16 + c) * 16 + d - 0xDC00) in
        let most : all < 0x110000 = omega (arith, p.0, p.1, q.0, q.1, h, g) in
        let short : length (utf8 all) ≤ 11 + 1 = omega (arith, (utf8_size all).most) in
        let next : at + 2 ≡ at + 1 + 1 = omega arith in
        on_third (code_here (low_three n (x * 16 + c)) all (value_inside s (at + 1) (some (get_or s (at + 1) 0) f g)) next most short (λ w us fs i. last_of_low w us fs i n (x * 16 + c) (some (get_or s (at + 1) 0) f g)))

-- ── A low half ────────────────────────────────────────────────────────────────────────────────────

module _ {s : List ℕ} {at : ℕ} (n : ℕ) where
  pub high_first : {b : ℕ} → b ≡ get_or s at 0 → (b ≡ 0x5C → ⊥) → EscapeTo s (high n) 6 at (Err (NotJson at))
  high_first e h = stops-here (high n) (no_slash_lem n (get_or s at 0) (ne_eqb (get_or s at 0) 0x5C (λ z. h (e ∙ z))))

  module _ (e : get_or s at 0 ≡ 0x5C) where
    on_slash : {r : Result Escaped Fault} → EscapeTo s (high_slash n) 7 (at + 1) r → EscapeTo s (high n) 6 at r
    on_slash =
        one_before (high n) (high_slash n) (byte_inside s at (λ z. omega (arith, e, z))) refl refl (λ w us fs i. ap (λ (b : ℕ). escaped (high n) w us fs i b) e ∙ the_slash n w us fs i)

    pub high_second : {b : ℕ} → b ≡ get_or s (at + 1) 0 → (b ≡ 0x75 → ⊥) → EscapeTo s (high n) 6 at (Err (NotJson (at + 1)))
    high_second f h = on_slash (stops-here (high_slash n) (no_u n (get_or s (at + 1) 0) (ne_eqb (get_or s (at + 1) 0) 0x75 (λ z. h (f ∙ z)))))

    module _ (f : get_or s (at + 1) 0 ≡ 0x75) where
      on_u : {r : Result Escaped Fault} → EscapeTo s (high_u n) 8 (at + 2) r → EscapeTo s (high n) 6 at r
      on_u x =
          let next : at + 2 ≡ at + 1 + 1 = omega arith in
          on_slash
          (one_before (high_slash n) (high_u n) (byte_inside s (at + 1) (λ z. omega (arith, f, z))) refl next (λ w us fs i. ap (λ (b : ℕ). escaped (high_slash n) w us fs i b) f ∙ the_u n w us fs i) x)

      pub high_third_none : hex (get_or s (at + 2) 0) ≡ 16 → EscapeTo s (high n) 6 at (Err (NotJson (at + 2)))
      high_third_none h = on_u (stops-here (high_u n) (no_d n (get_or s (at + 2) 0) (ne_eqb (hex (get_or s (at + 2) 0)) 13 (λ z. omega (arith, h, z)))))

      pub high_third : {c : ℕ} → c ≡ hex (get_or s (at + 2) 0) → (c ≡ 13 → ⊥) → EscapeTo s (high n) 6 at (Err (NotJson (at + 2)))
      high_third g h = on_u (stops-here (high_u n) (no_d n (get_or s (at + 2) 0) (ne_eqb (hex (get_or s (at + 2) 0)) 13 (λ z. h (g ∙ z)))))

      module _ {c : ℕ} (g : c ≡ hex (get_or s (at + 2) 0)) (h : c ≡ 13) where
        on_d : {r : Result Escaped Fault} → EscapeTo s (low_one n) 9 (at + 3) r → EscapeTo s (high n) 6 at r
        on_d x =
            let next : at + 3 ≡ at + 2 + 1 = omega arith in
            let d-there : Value (get_or s (at + 2) 0) 13 = record { is = sym g ∙ h; small = omega arith } in
            on_u (one_before (high_u n) (low_one n) (value_inside s (at + 2) d-there) refl next (λ w us fs i. first_of_low w us fs i n d-there) x)

        pub high_fourth_low : {d : ℕ} → d ≡ hex (get_or s (at + 3) 0) → d < 12 → EscapeTo s (high n) 6 at (Err (NotJson (at + 3)))
        high_fourth_low k l = on_d (stops-here (low_one n) (no_low_second n (get_or s (at + 3) 0) (below 12 15 (hex (get_or s (at + 3) 0)) (omega (arith, k, l)))))

        pub high_fourth_none : hex (get_or s (at + 3) 0) ≡ 16 → EscapeTo s (high n) 6 at (Err (NotJson (at + 3)))
        high_fourth_none l = on_d (stops-here (low_one n) (no_low_second n (get_or s (at + 3) 0) (above 12 15 (hex (get_or s (at + 3) 0)) (omega (arith, l)))))

        pub high_on : {d : ℕ} {r : Result Escaped Fault} → d ≡ hex (get_or s (at + 3) 0) → 12 ≤ d → d ≤ 15 → EscapeTo s (low_two n (13 * 16 + d)) 10 (at + 4) r → EscapeTo s (high n) 6 at r
        high_on {d} k l m x =
            let next : at + 4 ≡ at + 3 + 1 = omega arith in
            on_d (one_before (low_one n) (low_two n (13 * 16 + d)) (value_inside s (at + 3) (some (get_or s (at + 3) 0) k m)) refl next (λ w us fs i. second_of_low w us fs i n (some (get_or s (at + 3) 0) k m) l) x)

-- ── Four digits ───────────────────────────────────────────────────────────────────────────────────

module _ {s : List ℕ} {at : ℕ} (x : ℕ) where
  pub unit_third : hex (get_or s at 0) ≡ 16 → EscapeTo s (u_two x) 4 at (Err (NotJson at))
  unit_third h = stops-here (u_two x) (no_third x (get_or s at 0) h)

  module _ {c : ℕ} (e : c ≡ hex (get_or s at 0)) (h : c ≤ 15) where
    on_unit : {r : Result Escaped Fault} → EscapeTo s (u_three (x * 16 + c)) 5 (at + 1) r → EscapeTo s (u_two x) 4 at r
    on_unit = one_before (u_two x) (u_three (x * 16 + c)) (value_inside s at (some (get_or s at 0) e h)) refl refl (λ w us fs i. third_digit w us fs i x (some (get_or s at 0) e h))

    pub unit_fourth : hex (get_or s (at + 1) 0) ≡ 16 → EscapeTo s (u_two x) 4 at (Err (NotJson (at + 1)))
    unit_fourth g = on_unit (stops-here (u_three (x * 16 + c)) (no_fourth (x * 16 + c) (get_or s (at + 1) 0) g))

    pub unit_whole : {d : ℕ} → d ≡ hex (get_or s (at + 1) 0) → d ≤ 15 → x < 256 → ((x * 16 + c) * 16 + d < 0xD800) ⊎ (0xDBFF < (x * 16 + c) * 16 + d) → EscapeTo s (u_two x) 4 at (Ok (record { code = (x * 16 + c) * 16 + d; end = at + 2 }))
    unit_whole {d} f g p o =
        let all = (x * 16 + c) * 16 + d in
        let most : all < 0x110000 = omega (arith, p, h, g) in
        let short : length (utf8 all) ≤ 5 + 1 = omega (arith, (utf8_size all).most) in
        let next : at + 2 ≡ at + 1 + 1 = omega arith in
        on_unit (code_here (u_three (x * 16 + c)) all (value_inside s (at + 1) (some (get_or s (at + 1) 0) f g)) next most short (λ w us fs i. last_digit w us fs i (x * 16 + c) (some (get_or s (at + 1) 0) f g) o))

    pub unit_high : {d : ℕ} {r : Result Escaped Fault} → d ≡ hex (get_or s (at + 1) 0) → d ≤ 15 → In 0xD800 0xDBFF ((x * 16 + c) * 16 + d) → EscapeTo s (high ((x * 16 + c) * 16 + d)) 6 (at + 2) r → EscapeTo s (u_two x) 4 at r
    unit_high {d} f g o y =
        let next : at + 2 ≡ at + 1 + 1 = omega arith in
        on_unit (one_before (u_three (x * 16 + c)) (high ((x * 16 + c) * 16 + d)) (value_inside s (at + 1) (some (get_or s (at + 1) 0) f g)) refl next (λ w us fs i. last_of_high w us fs i (x * 16 + c) (some (get_or s (at + 1) 0) f g) o) y)

module _ {s : List ℕ} {at : ℕ} where
  pub unit_first : hex (get_or s at 0) ≡ 16 → EscapeTo s u_none 2 at (Err (NotJson at))
  unit_first h = stops-here u_none (no_first (get_or s at 0) h)

  module _ {a : ℕ} (e : a ≡ hex (get_or s at 0)) (h : a ≤ 15) where
    on_first : {r : Result Escaped Fault} → EscapeTo s (u_one a) 3 (at + 1) r → EscapeTo s u_none 2 at r
    on_first = one_before u_none (u_one a) (value_inside s at (some (get_or s at 0) e h)) refl refl (λ w us fs i. first-digit w us fs i (some (get_or s at 0) e h))

    pub unit_second : hex (get_or s (at + 1) 0) ≡ 16 → EscapeTo s u_none 2 at (Err (NotJson (at + 1)))
    unit_second g = on_first (stops-here (u_one a) (no_second a (get_or s (at + 1) 0) g))

    -- A low half alone.
    pub unit_low : {b : ℕ} → b ≡ hex (get_or s (at + 1) 0) → b ≤ 15 → In 0xDC 0xDF (a * 16 + b) → EscapeTo s u_none 2 at (Err (NotJson (at + 1)))
    unit_low {b} f g o = on_first (stops-here (u_one a) (half_second a (get_or s (at + 1) 0) b (some (get_or s (at + 1) 0) f g) o.0 o.1))

    pub unit_on : {b : ℕ} {r : Result Escaped Fault} → b ≡ hex (get_or s (at + 1) 0) → b ≤ 15 → (a * 16 + b < 0xDC) ⊎ (0xDF < a * 16 + b) → EscapeTo s (u_two (a * 16 + b)) 4 (at + 2) r → EscapeTo s u_none 2 at r
    unit_on {b} f g o y =
        let next : at + 2 ≡ at + 1 + 1 = omega arith in
        on_first (one_before (u_one a) (u_two (a * 16 + b)) (value_inside s (at + 1) (some (get_or s (at + 1) 0) f g)) refl next (λ w us fs i. second_digit w us fs i a (some (get_or s (at + 1) 0) f g) o) y)

-- ── Behind a backslash ────────────────────────────────────────────────────────────────────────────

letter_small : {l c : ℕ} → Letter l c → (meant l ≡ c) × (c < 0x80) × (l ≡ 0 → ⊥)
unfolding meant
letter_small quotation_mark = (refl, omega arith, λ z. omega (arith, z))
letter_small reverse_solidus = (refl, omega arith, λ z. omega (arith, z))
letter_small solidus = (refl, omega arith, λ z. omega (arith, z))
letter_small backspace = (refl, omega arith, λ z. omega (arith, z))
letter_small form_feed = (refl, omega arith, λ z. omega (arith, z))
letter_small line_feed = (refl, omega arith, λ z. omega (arith, z))
letter_small return = (refl, omega arith, λ z. omega (arith, z))
letter_small tab = (refl, omega arith, λ z. omega (arith, z))

-- A byte that stands for no character there.
pub no_letter_byte : (b : ℕ) → (b ≡ 0x22 → ⊥) → (b ≡ 0x5C → ⊥) → (b ≡ 0x2F → ⊥) → (b ≡ 0x62 → ⊥) → (b ≡ 0x66 → ⊥) → (b ≡ 0x6E → ⊥) → (b ≡ 0x72 → ⊥) → (b ≡ 0x74 → ⊥) → meant b ≡ 256
unfolding meant
no_letter_byte b p1 p2 p3 p4 p5 p6 p7 p8 =
    rw (ne_eqb b 0x22 p1, ne_eqb b 0x5C p2, ne_eqb b 0x2F p3, ne_eqb b 0x62 p4, ne_eqb b 0x66 p5, ne_eqb b 0x6E p6, ne_eqb b 0x72 p7, ne_eqb b 0x74 p8) refl

module _ {s : List ℕ} {at b : ℕ} (e : b ≡ get_or s at 0) where
  pub slash_u : {r : Result Escaped Fault} → b ≡ 0x75 → EscapeTo s u_none 2 (at + 1) r → EscapeTo s slash 1 at r
  slash_u h =
      let u-there : get_or s at 0 ≡ 0x75 = sym e ∙ h in
      one_before slash u_none (byte_inside s at (λ z. omega (arith, u-there, z))) refl refl (λ w us fs i. ap (λ (k : ℕ). escaped slash w us fs i k) u-there ∙ the_u_none w us fs i)

  module _ (h : b ≡ 0x75 → ⊥) where
    pub slash_none : meant b ≡ 256 → EscapeTo s slash 1 at (Err (NotJson at))
    slash_none m = stops-here slash (λ w us fs i. ap (λ (k : ℕ). escaped slash w us fs i k) (sym e) ∙ no_letter b (ne_eqb b 0x75 h) m w us fs i)

    pub slash_letter : {c : ℕ} → c ≡ meant b → c ≤ 255 → EscapeTo s slash 1 at (Ok (record { code = c; end = at + 1 }))
    slash_letter {c} m l = by (letter_or_not b)
      where
        this : (d : ℕ) → Letter b d → c ≡ d → EscapeTo s slash 1 at (Ok (record { code = c; end = at + 1 }))
        this d p q =
            let low : c < 0x80 = omega (arith, q, (letter_small p).1) in
            let short : length (utf8 c) ≤ 1 + 1 = omega (arith, (utf8_size c).below_80 low) in
            code_here slash c (byte_inside s at (λ z. (letter_small p).2 (e ∙ z))) refl (omega (arith, low)) short
            (λ w us fs i.
            ap (λ (k : ℕ). escaped slash w us fs i k) (sym e) ∙ letter_step p w us fs i ∙ ap (λ (k : ℕ). chars (w ++ (k ∷ [])) us fs) (sym q)
            ∙ ap (λ (t : List ℕ). chars (w ++ t) us fs) (sym (utf8_1 c low)))

        by : ((d : ℕ) × Letter b d) ⊎ (meant b ≡ 256) → EscapeTo s slash 1 at (Ok (record { code = c; end = at + 1 }))
        by (inl (d, p)) = this d p (m ∙ (letter_small p).0)
        by (inr q) = absurd (omega (arith, m, l, q))
