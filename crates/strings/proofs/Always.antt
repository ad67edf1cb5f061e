-- Decided: whether a character begins a list, how far it is UTF-8, whether an inside has a text or a bad escape. So every source has an answer, whoever computes it.
-- Assumes nothing.
use mathlib.Core.Path.{◌≡◌, refl}
use mathlib.Core.List.{List, [], ◌∷◌}
use mathlib.Core.Logic.{◌⊎◌, inl, inr}
use Prim.Native.Nat.{ℕ, zero, suc, ◌+◌, ◌-◌, ◌≤◌, ◌<◌}
use native.Mathlib.Omega.{arith}
use native.Mathlib.Decide.{dec_lt, dec_le, ℕ_discrete}
use lib.ListN.{length, get_or, take, drop, drop_of_length-le}
use Rattle.strings.specs.Utf8.{In, Character, CharacterLength, begins, nothing, Utf8, none, ValidTo}
use Rattle.strings.specs.Rows.{Row, row_00_7F, none_80_C1, row_C2_DF, row_E0, row_E1_EC, row_ED, row_EE_EF, row_F0, row_F1_F3, row_F4, none_F5_FF}
use Rattle.strings.specs.Literals.{Hex, digit, upper, lower, Four, four, Low, low, Letter, backslash, double, single, backspace, form_feed, line_feed, return, tab, Escape, letter, unit, pair, two, Quoted, BadEscape, here, past_plain, past_escape}
use Rattle.strings.specs.Literals as literals
use Rattle.strings.proofs.Rows.{Follows, end, next, Led, led, to_led, from_led, led_some, row_once}
use Rattle.strings.proofs.CharacterLaws.{character_at, valid_stop, valid_on}
use Rattle.strings.proofs.Escapes.{no_hex, four_small, four_long, four_digits, low_bytes, low_long, hex_byte, letter_low, no_letter, no_escape, four_once, Units, u_view, x_view, no_units, low_unit, high_unit}
use Rattle.strings.proofs.Steps.{escape_short}

-- there is one, or there is none
abbrev pub Decided : (A : Type 0) (P : A → Type 0) → Type 0
Decided A P = ((x : A) × P x) ⊎ ((x : A) → P x → ⊥)

in_or_not : (lo hi b : ℕ) → Dec (In lo hi b)
in_or_not lo hi b = by (dec_le lo b) (dec_le b hi)
  where
    by : Dec (lo ≤ b) → Dec (b ≤ hi) → Dec (In lo hi b)
    by (yes x) (yes y) = yes (x, y)
    by (yes x) (no y) = no (λ h. y h.1)
    by (no x) y = no (λ h. x h.0)

-- ---- characters

pub record Rowed (a : ℕ) : Type 0 where
  pub wide : ℕ
  pub lo : ℕ
  pub hi : ℕ
  pub row : Row a wide lo hi

row_of : (a : ℕ) → a ≤ 0xFF → Rowed a
row_of a h = by (dec_lt a 0x80) (dec_lt a 0xC2) (dec_lt a 0xE0) (dec_lt a 0xE1) (dec_lt a 0xED) (dec_lt a 0xEE) (dec_lt a 0xF0) (dec_lt a 0xF1) (dec_lt a 0xF4) (dec_lt a 0xF5)
  where
    by : Dec (a < 0x80) → Dec (a < 0xC2) → Dec (a < 0xE0) → Dec (a < 0xE1) → Dec (a < 0xED) → Dec (a < 0xEE) → Dec (a < 0xF0) → Dec (a < 0xF1) → Dec (a < 0xF4) → Dec (a < 0xF5) → Rowed a
    by (yes p) q r s t u v w x y = record { wide = 1; lo = 0x80; hi = 0xBF; row = row_00_7F (omega arith) }
    by (no p) (yes q) r s t u v w x y = record { wide = 0; lo = 0x80; hi = 0xBF; row = none_80_C1 (omega arith) }
    by (no p) (no q) (yes r) s t u v w x y = record { wide = 2; lo = 0x80; hi = 0xBF; row = row_C2_DF (omega arith) }
    by (no p) (no q) (no r) (yes s) t u v w x y = record { wide = 3; lo = 0xA0; hi = 0xBF; row = row_E0 (omega arith) }
    by (no p) (no q) (no r) (no s) (yes t) u v w x y = record { wide = 3; lo = 0x80; hi = 0xBF; row = row_E1_EC (omega arith) }
    by (no p) (no q) (no r) (no s) (no t) (yes u) v w x y = record { wide = 3; lo = 0x80; hi = 0x9F; row = row_ED (omega arith) }
    by (no p) (no q) (no r) (no s) (no t) (no u) (yes v) w x y = record { wide = 3; lo = 0x80; hi = 0xBF; row = row_EE_EF (omega arith) }
    by (no p) (no q) (no r) (no s) (no t) (no u) (no v) (yes w) x y = record { wide = 4; lo = 0x90; hi = 0xBF; row = row_F0 (omega arith) }
    by (no p) (no q) (no r) (no s) (no t) (no u) (no v) (no w) (yes x) y = record { wide = 4; lo = 0x80; hi = 0xBF; row = row_F1_F3 (omega arith) }
    by (no p) (no q) (no r) (no s) (no t) (no u) (no v) (no w) (no x) (yes y) = record { wide = 4; lo = 0x80; hi = 0x8F; row = row_F4 (omega arith) }
    by (no p) (no q) (no r) (no s) (no t) (no u) (no v) (no w) (no x) (no y) = record { wide = 0; lo = 0x80; hi = 0xBF; row = none_F5_FF (omega arith) }

row_byte : {a n lo hi : ℕ} → Row a n lo hi → a ≤ 0xFF
row_byte (row_00_7F h) = omega arith
row_byte (none_80_C1 h) = omega arith
row_byte (row_C2_DF h) = omega arith
row_byte (row_E0 h) = omega arith
row_byte (row_E1_EC h) = omega arith
row_byte (row_ED h) = omega arith
row_byte (row_EE_EF h) = omega arith
row_byte (row_F0 h) = omega arith
row_byte (row_F1_F3 h) = omega arith
row_byte (row_F4 h) = omega arith
row_byte (none_F5_FF h) = omega arith

follows_long : {lo hi n : ℕ} {t r : List ℕ} → Follows lo hi n t r → length t ≡ n + length r
follows_long end = omega arith
follows_long (next h f) = omega (arith, follows_long f)

follows_or_not : (lo hi n : ℕ) (t : List ℕ) → Decided (List ℕ) (Follows lo hi n t)
follows_or_not lo hi zero t = inl (t, end)
follows_or_not lo hi (suc n) [] = inr (λ r f. omega (arith, follows_long f))
follows_or_not lo hi (suc n) (b ∷ t) = by (in_or_not lo hi b) (follows_or_not 0x80 0xBF n t)
  where
    by : Dec (In lo hi b) → Decided (List ℕ) (Follows 0x80 0xBF n t) → Decided (List ℕ) (Follows lo hi (suc n) (b ∷ t))
    by (yes h) (inl f) = inl (f.0, next h f.1)
    by (yes h) (inr f) = inr none_follows
      where
        none_follows : (r : List ℕ) → Follows lo hi (suc n) (b ∷ t) r → ⊥
        none_follows r (next x y) = f r y
    by (no h) f = inr out_of_range
      where
        out_of_range : (r : List ℕ) → Follows lo hi (suc n) (b ∷ t) r → ⊥
        out_of_range r (next x y) = h x

pub character_or_not : (s : List ℕ) → Decided (List ℕ) (Character s)
character_or_not [] = inr (λ r c. omega (arith, led_some (to_led c)))
character_or_not (a ∷ t) = by (dec_le a 0xFF)
  where
    narrow : (x : Rowed a) → x.wide ≡ 0 → Decided (List ℕ) (Character (a ∷ t))
    narrow x e = inr (λ r c. no_width (to_led c))
      where
        no_width : {r : List ℕ} → Led (a ∷ t) r → ⊥
        no_width (led y f) = omega (arith, (row_once x.row y).0)

    wide : (n lo hi : ℕ) → Row a (suc n) lo hi → Decided (List ℕ) (Follows lo hi n t) → Decided (List ℕ) (Character (a ∷ t))
    wide n lo hi x (inl f) = inl (f.0, from_led (led x f.1))
    wide n lo hi x (inr f) = inr (λ r c. no_rest (to_led c))
      where
        no_rest : {r : List ℕ} → Led (a ∷ t) r → ⊥
        no_rest {r} (led {n = m} y g) =
            let same = row_once y x in
            let e : m ≡ n = omega (arith, same.0) in
            f r (rw (same.1, same.2, e) at g)

    sized : (x : Rowed a) (n : ℕ) → x.wide ≡ n → Decided (List ℕ) (Character (a ∷ t))
    sized x zero e = narrow x e
    sized x (suc n) e = wide n x.lo x.hi (rw e at x.row) (follows_or_not x.lo x.hi n t)

    by : Dec (a ≤ 0xFF) → Decided (List ℕ) (Character (a ∷ t))
    by (yes h) = let x = row_of a h in sized x x.wide refl
    by (no h) = inr (λ r c. too_large (to_led c))
      where
        too_large : {r : List ℕ} → Led (a ∷ t) r → ⊥
        too_large (led y f) = h (row_byte y)

led_shorter : {s r : List ℕ} → Led s r → length r < length s
led_shorter (led x f) = omega (arith, follows_long f)

pub character_length_always : (s : List ℕ) → (n : ℕ) × CharacterLength s n
character_length_always s = by (character_or_not s)
  where
    by : Decided (List ℕ) (Character s) → (n : ℕ) × CharacterLength s n
    by (inl c) = (length s - length c.0, begins {n = length s - length c.0} c.1 (omega (arith, led_shorter (to_led c.1))))
    by (inr c) = (0, nothing c)

pub valid_always : (s : List ℕ) → (n : ℕ) × ValidTo s n
valid_always s = go (length s) 0 (omega arith) (omega arith) none
  where
    go : (fuel i : ℕ) → length s ≤ fuel + i → i ≤ length s → Utf8 (take i s) → (n : ℕ) × ValidTo s n
    go zero i h g u = (i, valid_stop s i g u (ended (drop_of_length-le s {i = i} (omega arith))))
      where
        ended : drop i s ≡ [] → CharacterLength (drop i s) 0
        ended e = rw e (nothing {s = []} (λ r c. omega (arith, led_some (to_led c))))
    go (suc fuel) i h g u = by (character_length_always (drop i s)) (λ j a b v. go fuel j a b v)
      where
        by : (n : ℕ) × CharacterLength (drop i s) n → ((j : ℕ) → length s ≤ fuel + j → j ≤ length s → Utf8 (take j s) → (n : ℕ) × ValidTo s n) → (n : ℕ) × ValidTo s n
        by (zero, l) rec = (i, valid_stop s i g u l)
        by (suc n, l) rec =
            let c = character_at s i (suc n) l (omega arith) in
            rec (i + suc n) (omega arith) c.within (valid_on u c)

-- ---- escapes and texts

hex_or_not : (b : ℕ) → Decided ℕ (Hex b)
hex_or_not b = by (in_or_not 0x30 0x39 b) (in_or_not 0x41 0x46 b) (in_or_not 0x61 0x66 b)
  where
    by : Dec (In 0x30 0x39 b) → Dec (In 0x41 0x46 b) → Dec (In 0x61 0x66 b) → Decided ℕ (Hex b)
    by (yes h) g f = inl (_, digit h)
    by (no h) (yes g) f = inl (_, upper g)
    by (no h) (no g) (yes f) = inl (_, lower f)
    by (no h) (no g) (no f) = inr (no_hex b h g f)

-- four digits and what they spell
abbrev Fours : List ℕ → Type 0
Fours s = ((n : ℕ) × (r : List ℕ) × Four s n r) ⊎ ((n : ℕ) (r : List ℕ) → Four s n r → ⊥)

four_or_not : (s : List ℕ) → Fours s
four_or_not [] = inr (λ n r f. omega (arith, four_long f))
four_or_not (a ∷ []) = inr (λ n r f. omega (arith, four_long f))
four_or_not (a ∷ b ∷ []) = inr (λ n r f. omega (arith, four_long f))
four_or_not (a ∷ b ∷ c ∷ []) = inr (λ n r f. omega (arith, four_long f))
four_or_not (a ∷ b ∷ c ∷ d ∷ s) = by (hex_or_not a) (hex_or_not b) (hex_or_not c) (hex_or_not d)
  where
    without : (k : ℕ) → k < 4 → ((v : ℕ) → Hex (get_or (a ∷ b ∷ c ∷ d ∷ s) k 0) v → ⊥) → Fours (a ∷ b ∷ c ∷ d ∷ s)
    without k h g = inr (λ n r f. let x = four_digits f k h in g x.0 x.1)

    by : Decided ℕ (Hex a) → Decided ℕ (Hex b) → Decided ℕ (Hex c) → Decided ℕ (Hex d) → Fours (a ∷ b ∷ c ∷ d ∷ s)
    by (inl p) (inl q) (inl r) (inl t) = inl (_, s, four p.1 q.1 r.1 t.1)
    by (inr p) q r t = without 0 (omega arith) p
    by (inl p) (inr q) r t = without 1 (omega arith) q
    by (inl p) (inl q) (inr r) t = without 2 (omega arith) r
    by (inl p) (inl q) (inl r) (inr t) = without 3 (omega arith) t

letter_or_not : (l : ℕ) → Decided ℕ (Letter l)
letter_or_not l = by (ℕ_discrete l 0x5C) (ℕ_discrete l 0x22) (ℕ_discrete l 0x27) (ℕ_discrete l 0x62) (ℕ_discrete l 0x66) (ℕ_discrete l 0x6E) (ℕ_discrete l 0x72) (ℕ_discrete l 0x74)
  where
    by : Dec (l ≡ 0x5C) → Dec (l ≡ 0x22) → Dec (l ≡ 0x27) → Dec (l ≡ 0x62) → Dec (l ≡ 0x66) → Dec (l ≡ 0x6E) → Dec (l ≡ 0x72) → Dec (l ≡ 0x74) → Decided ℕ (Letter l)
    by (yes eq) b c d e f g h = inl (0x5C, rw eq backslash)
    by (no a) (yes eq) c d e f g h = inl (0x22, rw eq double)
    by (no a) (no b) (yes eq) d e f g h = inl (0x27, rw eq single)
    by (no a) (no b) (no c) (yes eq) e f g h = inl (0x08, rw eq backspace)
    by (no a) (no b) (no c) (no d) (yes eq) f g h = inl (0x0C, rw eq form_feed)
    by (no a) (no b) (no c) (no d) (no e) (yes eq) g h = inl (0x0A, rw eq line_feed)
    by (no a) (no b) (no c) (no d) (no e) (no f) (yes eq) h = inl (0x0D, rw eq return)
    by (no a) (no b) (no c) (no d) (no e) (no f) (no g) (yes eq) = inl (0x09, rw eq tab)
    by (no a) (no b) (no c) (no d) (no e) (no f) (no g) (no h) = inr (no_letter l a b c d e f g h)

abbrev Lows : List ℕ → Type 0
Lows s = ((n : ℕ) × (r : List ℕ) × Low s n r) ⊎ ((n : ℕ) (r : List ℕ) → Low s n r → ⊥)

low_or_not : (s : List ℕ) → Lows s
low_or_not [] = inr (λ n r f. omega (arith, low_long f))
low_or_not (a ∷ []) = inr (λ n r f. omega (arith, low_long f))
low_or_not (a ∷ b ∷ s) = by (ℕ_discrete a 0x5C) (ℕ_discrete b 0x75) (four_or_not s)
  where
    by : Dec (a ≡ 0x5C) → Dec (b ≡ 0x75) → Fours s → Lows (a ∷ b ∷ s)
    by (no h) g f = inr (λ n r x. h (low_bytes x).0)
    by (yes h) (no g) f = inr (λ n r x. g (low_bytes x).1)
    by (yes h) (yes g) (inr f) = inr (λ n r x. f n r (low_bytes x).2)
    by (yes h) (yes g) (inl f) = half (in_or_not 0xDC00 0xDFFF f.0)
      where
        half : Dec (In 0xDC00 0xDFFF f.0) → Lows (a ∷ b ∷ s)
        half (yes k) = rw (h, g) (inl (_, _, low f.2 k))
        half (no k) = inr (λ n r x. k (rw (four_once (low_bytes x).2 f.2).0 at (low_bytes x).3))

-- an escape and what it stands for
abbrev Escaping : List ℕ → Type 0
Escaping s = ((c : ℕ) × (r : List ℕ) × Escape s c r) ⊎ ((c : ℕ) (r : List ℕ) → Escape s c r → ⊥)

unit_or_not : (s : List ℕ) → Escaping (0x75 ∷ s)
unit_or_not s = by (four_or_not s)
  where
    without : (Units s → ⊥) → Escaping (0x75 ∷ s)
    without h = inr (λ c r x. h (u_view x refl))

    by_half : (n : ℕ) (r : List ℕ) → Four s n r → Dec (n < 0xD800) → Dec (n < 0xDC00) → Dec (n < 0xE000) → Lows r → Escaping (0x75 ∷ s)
    by_half n r f (yes a) b c l = inl (_, _, unit f (inl a))
    by_half n r f (no a) (yes b) c (inl l) = inl (_, _, pair f (omega arith) l.2)
    by_half n r f (no a) (yes b) c (inr l) = without (high_unit f (omega arith) l)
    by_half n r f (no a) (no b) (yes c) l = without (low_unit f (omega arith))
    by_half n r f (no a) (no b) (no c) l = inl (_, _, unit f (inr (omega (arith, four_small f))))

    by : Fours s → Escaping (0x75 ∷ s)
    by (inr f) = without (no_units f)
    by (inl (n, r, f)) = by_half n r f (dec_lt n 0xD800) (dec_lt n 0xDC00) (dec_lt n 0xE000) (low_or_not r)

two_or_not : (s : List ℕ) → Escaping (0x78 ∷ s)
two_or_not [] = inr (λ c r x. let v = x_view x refl in omega (arith, hex_byte v.2))
two_or_not (d ∷ []) = inr (λ c r x. let v = x_view x refl in omega (arith, hex_byte v.3))
two_or_not (d ∷ e ∷ s) = by (hex_or_not d) (hex_or_not e)
  where
    by : Decided ℕ (Hex d) → Decided ℕ (Hex e) → Escaping (0x78 ∷ d ∷ e ∷ s)
    by (inl h) (inl g) = inl (_, _, two h.1 g.1)
    by (inr h) g = inr (λ c r x. let v = x_view x refl in h v.0 v.2)
    by (inl h) (inr g) = inr (λ c r x. let v = x_view x refl in g v.1 v.3)

escape_or_not : (s : List ℕ) → Escaping s
escape_or_not [] = inr (no_escape [] (λ c h. omega (arith, letter_low h)) (λ e. omega arith) (λ e. omega arith))
escape_or_not (l ∷ s) = by (letter_or_not l) (ℕ_discrete l 0x75) (ℕ_discrete l 0x78)
  where
    by : Decided ℕ (Letter l) → Dec (l ≡ 0x75) → Dec (l ≡ 0x78) → Escaping (l ∷ s)
    by (inl h) u x = inl (_, _, letter h.1)
    by (inr h) (yes e) x = rw e (unit_or_not s)
    by (inr h) (no u) (yes e) = rw e (two_or_not s)
    by (inr h) (no u) (no x) = inr (no_escape (l ∷ s) h u x)

-- An inside has a text, or a first bad escape.
abbrev pub TextOrBadEscape : List ℕ → Type 0
TextOrBadEscape s = ((t : List ℕ) × Quoted s t) ⊎ ((n : ℕ) × BadEscape s n)

-- one byte more, or one escape
quoted_turn : (s : List ℕ) → ((r : List ℕ) → length r < length s → TextOrBadEscape r) → TextOrBadEscape s
quoted_turn [] rec = inl ([], literals.Quoted.end)
quoted_turn (b ∷ s) rec = by (ℕ_discrete b 0x5C) (escape_or_not s)
  where
    plain : (b ≡ 0x5C → ⊥) → TextOrBadEscape s → TextOrBadEscape (b ∷ s)
    plain h (inl t) = inl (_, literals.Quoted.plain h t.1)
    plain h (inr n) = inr (_, past_plain h n.1)

    escaped : (c : ℕ) (r : List ℕ) → Escape s c r → TextOrBadEscape r → TextOrBadEscape (0x5C ∷ s)
    escaped c r e (inl t) = inl (_, literals.Quoted.escape e t.1)
    escaped c r e (inr n) = inr (_, past_escape (length s - length r) e (omega (arith, escape_short e)) n.1)

    by : Dec (b ≡ 0x5C) → Escaping s → TextOrBadEscape (b ∷ s)
    by (no h) e = plain h (rec s (omega arith))
    by (yes q) (inl (c, r, e)) = rw q (escaped c r e (rec r (omega (arith, escape_short e))))
    by (yes q) (inr e) = rw q (inr (0, here e))

pub text_or_bad_escape : (s : List ℕ) → TextOrBadEscape s
text_or_bad_escape s = go (suc (length s)) s (omega arith)
  where
    go : (fuel : ℕ) (s : List ℕ) → length s < fuel → TextOrBadEscape s
    go zero s h = absurd (omega arith)
    go (suc fuel) s h = quoted_turn s (λ r g. go fuel r (omega arith))

-- It has one exactly where it has no text.
pub bad_escape_where_no_text : {s : List ℕ} → ((t : List ℕ) → Quoted s t → ⊥) → (n : ℕ) × BadEscape s n
bad_escape_where_no_text {s} h = by (text_or_bad_escape s)
  where
    by : TextOrBadEscape s → (n : ℕ) × BadEscape s n
    by (inl t) = absurd (h t.0 t.1)
    by (inr n) = n
