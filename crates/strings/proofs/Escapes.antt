-- What hex digits, letters and escapes can be: the laws of Literals.antt by which the decoder's inner functions go.
-- Assumes nothing.
use mathlib.Core.Path.{◌≡◌, refl, sym, ◌∙◌, ap}
use mathlib.Core.List.{List, [], ◌∷◌}
use mathlib.Core.Logic.{inl, inr}
use Prim.Native.Nat.{ℕ, zero, suc, ◌+◌, ◌-◌, ◌*◌, ◌≤◌, ◌<◌}
use native.Mathlib.Omega.{arith}
use native.Mathlib.Decide.{dec_lt}
use lib.ListN.{length, get_or, take, drop, length-drop, get_or-eq_default, drop_of_length-le}
use lib.Dec.{eqb}
use mathlib.Core.Bool.{Bool, true, false}
use Rattle.std.specs.List.{starts_with}
use Rattle.std.proofs.lemmas.List.{take_rest}
use Rattle.std.proofs.lemmas.Slice.Eq.{starts_is}
use Rattle.std.proofs.lemmas.Bool.Decides.{Decides-eqb}
use lib.Seq.{drop-drop, get_or-drop}
use Rattle.strings.specs.Utf8.{In, Scalar}
use Rattle.strings.specs.Literals.{Hex, digit, upper, lower, Four, four, Low, low, Letter, backslash, double, single, backspace, form_feed, line_feed, return, tab, Escape, letter, unit, pair, two}
use Rattle.std.specs.Prelude.{Some, None}
use Rattle.strings.specs.Inner.{Spelled, Halved, EscapeTo, EscapeAt}

-- ---- hex digits

pub hex_small : {b v : ℕ} → Hex b v → v < 16
hex_small (digit h) = omega arith
hex_small (upper h) = omega arith
hex_small (lower h) = omega arith

pub hex_byte : {b v : ℕ} → Hex b v → (0x30 ≤ b) × (b ≤ 0x66)
hex_byte (digit h) = omega arith
hex_byte (upper h) = omega arith
hex_byte (lower h) = omega arith

pub hex_once : {b v w : ℕ} → Hex b v → Hex b w → v ≡ w
hex_once (digit h) (digit g) = refl
hex_once (digit h) (upper g) = absurd (omega arith)
hex_once (digit h) (lower g) = absurd (omega arith)
hex_once (upper h) (digit g) = absurd (omega arith)
hex_once (upper h) (upper g) = refl
hex_once (upper h) (lower g) = absurd (omega arith)
hex_once (lower h) (digit g) = absurd (omega arith)
hex_once (lower h) (upper g) = absurd (omega arith)
hex_once (lower h) (lower g) = refl

pub no_hex : (b : ℕ) → (In 0x30 0x39 b → ⊥) → (In 0x41 0x46 b → ⊥) → (In 0x61 0x66 b → ⊥) → (v : ℕ) → Hex b v → ⊥
no_hex b f g h v (digit x) = f x
no_hex b f g h v (upper x) = g x
no_hex b f g h v (lower x) = h x

-- ---- four of them

pub four_small : {s r : List ℕ} {n : ℕ} → Four s n r → n < 0x10000
four_small (four a b c d) = omega (arith, hex_small a, hex_small b, hex_small c, hex_small d)

pub four_long : {s r : List ℕ} {n : ℕ} → Four s n r → length s ≡ 4 + length r
four_long (four a b c d) = omega arith

pub four_rest : {s r : List ℕ} {n : ℕ} → Four s n r → r ≡ drop 4 s
four_rest (four a b c d) = refl

pub four_once : {s r q : List ℕ} {n m : ℕ} → Four s n r → Four s m q → (n ≡ m) × (r ≡ q)
four_once (four a b c d) (four e f g h) = (omega (arith, hex_once a e, hex_once b f, hex_once c g, hex_once d h), refl)

pub four_is : (s : List ℕ) {v w x y : ℕ} → Hex (get_or s 0 0) v → Hex (get_or s 1 0) w → Hex (get_or s 2 0) x → Hex (get_or s 3 0) y → Spelled s (Some (v * 0x1000 + w * 0x100 + x * 0x10 + y))
four_is [] p q r t = absurd (omega (arith, hex_byte t))
four_is (a ∷ []) p q r t = absurd (omega (arith, hex_byte t))
four_is (a ∷ b ∷ []) p q r t = absurd (omega (arith, hex_byte t))
four_is (a ∷ b ∷ c ∷ []) p q r t = absurd (omega (arith, hex_byte t))
four_is (a ∷ b ∷ c ∷ d ∷ s) p q r t = (_, four p q r t)

-- each of the first four bytes is a digit
pub four_digits : {s r : List ℕ} {n : ℕ} → Four s n r → (k : ℕ) → k < 4 → (v : ℕ) × Hex (get_or s k 0) v
four_digits (four a b c d) zero h = (_, a)
four_digits (four a b c d) (suc zero) h = (_, b)
four_digits (four a b c d) (suc (suc zero)) h = (_, c)
four_digits (four a b c d) (suc (suc (suc zero))) h = (_, d)
four_digits (four a b c d) (suc (suc (suc (suc k)))) h = absurd (omega arith)

pub not_four : (s : List ℕ) (k : ℕ) → k < 4 → ((v : ℕ) → Hex (get_or s k 0) v → ⊥) → Spelled s None
not_four s k h f = λ n r x. let d = four_digits x k h in f d.0 d.1

-- ---- a low half

pub low_once : {s r q : List ℕ} {n m : ℕ} → Low s n r → Low s m q → (n ≡ m) × (r ≡ q)
low_once (low f g) (low h k) = four_once f h

pub low_long : {s r : List ℕ} {n : ℕ} → Low s n r → length s ≡ 6 + length r
low_long (low f g) = omega (arith, four_long f)

low_rest : {s r : List ℕ} {n : ℕ} → Low s n r → r ≡ drop 6 s
low_rest (low f g) = four_rest f

low_begins : {s r : List ℕ} {lo : ℕ} → Low s lo r → (q : List ℕ) × (s ≡ 0x5C ∷ 0x75 ∷ q)
low_begins (low {s = s} f g) = (s, refl)

pub low_is : (s : List ℕ) {lo : ℕ} → get_or s 0 0 ≡ 0x5C → get_or s 1 0 ≡ 0x75 → Spelled (drop 2 s) (Some lo) → In 0xDC00 0xDFFF lo → Halved s (Some lo)
low_is [] e f g h = absurd (omega arith)
low_is (a ∷ []) e f g h = absurd (omega arith)
low_is (a ∷ b ∷ s) e f g h = rw (e, f) (g.0, low g.1 h)

-- what a low half shows of its bytes
pub low_bytes : {s r : List ℕ} {lo : ℕ} → Low s lo r → (get_or s 0 0 ≡ 0x5C) × (get_or s 1 0 ≡ 0x75) × Four (drop 2 s) lo r × In 0xDC00 0xDFFF lo
low_bytes (low f g) = (refl, refl, f, g)

-- ---- letters

pub letter_low : {l c : ℕ} → Letter l c → (0x20 < l) × (l < 0x75) × (c < 0x80)
letter_low backslash = omega arith
letter_low double = omega arith
letter_low single = omega arith
letter_low backspace = omega arith
letter_low form_feed = omega arith
letter_low line_feed = omega arith
letter_low return = omega arith
letter_low tab = omega arith

pub letter_once : {l c d : ℕ} → Letter l c → Letter l d → c ≡ d
letter_once backslash backslash = refl
letter_once double double = refl
letter_once single single = refl
letter_once backspace backspace = refl
letter_once form_feed form_feed = refl
letter_once line_feed line_feed = refl
letter_once return return = refl
letter_once tab tab = refl

pub no_letter :
    (l : ℕ) → (l ≡ 0x5C → ⊥) → (l ≡ 0x22 → ⊥) → (l ≡ 0x27 → ⊥) → (l ≡ 0x62 → ⊥) → (l ≡ 0x66 → ⊥) → (l ≡ 0x6E → ⊥) → (l ≡ 0x72 → ⊥) → (l ≡ 0x74 → ⊥) →
    (d : ℕ) → Letter l d → ⊥
no_letter l a b c d e f g h m backslash = a refl
no_letter l a b c d e f g h m double = b refl
no_letter l a b c d e f g h m single = c refl
no_letter l a b c d e f g h m backspace = d refl
no_letter l a b c d e f g h m form_feed = e refl
no_letter l a b c d e f g h m line_feed = f refl
no_letter l a b c d e f g h m return = g refl
no_letter l a b c d e f g h m tab = h refl

-- ---- escapes

-- the bytes begin with an escape of k bytes for the code point
pub record Escapes (s : List ℕ) (c k : ℕ) : Type 0 where
  pub rest : List ℕ
  pub escape : Escape s c rest
  pub long : length s ≡ k + length rest

pub letter_is : (s : List ℕ) {c : ℕ} → Letter (get_or s 0 0) c → Escapes s c 1
letter_is [] h = absurd (omega (arith, letter_low h))
letter_is (l ∷ r) h = record { rest = r; escape = letter h; long = omega arith }

pub two_is : (s : List ℕ) {v w : ℕ} → get_or s 0 0 ≡ 0x78 → Hex (get_or s 1 0) v → Hex (get_or s 2 0) w → Escapes s (v * 0x100 + w) 3
two_is [] e h g = absurd (omega arith)
two_is (x ∷ []) e h g = absurd (omega (arith, hex_byte h))
two_is (x ∷ d ∷ []) e h g = absurd (omega (arith, hex_byte g))
two_is (x ∷ d ∷ f ∷ r) e h g = record { rest = r; escape = rw e (two h g); long = omega arith }

pub unit_is : (s : List ℕ) {n : ℕ} {r : List ℕ} → get_or s 0 0 ≡ 0x75 → Four (drop 1 s) n r → Scalar n → Escapes s n 5
unit_is [] e f g = absurd (omega arith)
unit_is (u ∷ s) {r = r} e f g = record { rest = r; escape = rw e (unit f g); long = omega (arith, four_long f) }

pub pair_is :
    (s : List ℕ) {hi lo : ℕ} {q r : List ℕ} → get_or s 0 0 ≡ 0x75 → Four (drop 1 s) hi q → In 0xD800 0xDBFF hi → Low q lo r →
    Escapes s (0x10000 + (hi - 0xD800) * 0x400 + (lo - 0xDC00)) 11
pair_is [] e f g h = absurd (omega arith)
pair_is (u ∷ s) {r = r} e f g h = record { rest = r; escape = rw e (pair f g h); long = omega (arith, four_long f, low_long h) }

pub x_view : {s r : List ℕ} {c : ℕ} → Escape s c r → get_or s 0 0 ≡ 0x78 → (v w : ℕ) × Hex (get_or s 1 0) v × Hex (get_or s 2 0) w
x_view (letter h) e = absurd (omega (arith, letter_low h))
x_view (unit f g) e = absurd (omega arith)
x_view (pair f g h) e = absurd (omega arith)
x_view (two h g) e = (_, _, h, g)

-- what `\u` can go on with
pub data Units (s : List ℕ) : Type 0 where
  alone : {n : ℕ} {r : List ℕ} → Four s n r → Scalar n → Units s
  paired : {hi lo : ℕ} {q r : List ℕ} → Four s hi q → In 0xD800 0xDBFF hi → Low q lo r → Units s

pub u_view : {s r : List ℕ} {c : ℕ} → Escape s c r → get_or s 0 0 ≡ 0x75 → Units (drop 1 s)
u_view (letter h) e = absurd (omega (arith, letter_low h))
u_view (unit f g) e = alone f g
u_view (pair f g h) e = paired f g h
u_view (two h g) e = absurd (omega arith)

pub no_units : {s : List ℕ} → ((n : ℕ) (r : List ℕ) → Four s n r → ⊥) → Units s → ⊥
no_units h (alone f g) = h _ _ f
no_units h (paired f g k) = h _ _ f

half_not_scalar : {n : ℕ} → Scalar n → In 0xD800 0xDFFF n → ⊥
half_not_scalar (inl x) h = omega arith
half_not_scalar (inr x) h = omega arith

pub low_unit : {s r : List ℕ} {n : ℕ} → Four s n r → In 0xDC00 0xDFFF n → Units s → ⊥
low_unit f h (alone g k) = half_not_scalar (rw (four_once g f).0 at k) (omega arith)
low_unit f h (paired g k x) = omega (arith, (four_once f g).0)

pub high_unit : {s r : List ℕ} {n : ℕ} → Four s n r → In 0xD800 0xDBFF n → ((m : ℕ) (q : List ℕ) → Low r m q → ⊥) → Units s → ⊥
high_unit f h l (alone g k) = half_not_scalar (rw (four_once g f).0 at k) (omega arith)
high_unit f h l (paired g k x) = l _ _ (rw (four_once g f).1 at x)

pub no_escape : (s : List ℕ) → ((c : ℕ) → Letter (get_or s 0 0) c → ⊥) → (get_or s 0 0 ≡ 0x75 → ⊥) → (get_or s 0 0 ≡ 0x78 → ⊥) → (c : ℕ) (r : List ℕ) → Escape s c r → ⊥
no_escape s f g h c r (letter x) = f c x
no_escape s f g h c r (unit x y) = g refl
no_escape s f g h c r (pair x y z) = g refl
no_escape s f g h c r (two x y) = h refl

pub escape_rest : {s r : List ℕ} {c : ℕ} → Escape s c r → (k : ℕ) → length s ≡ k + length r → r ≡ drop k s
escape_rest (letter {r = r} h) k e = let n : k ≡ 1 = omega arith in rw n
escape_rest (unit f g) k e = let n : k ≡ 5 = omega (arith, four_long f) in rw n (four_rest f)
escape_rest (pair {s = s} f g h) k e =
    let n : k ≡ 11 = omega (arith, four_long f, low_long h) in
    rw n (low_rest h ∙ ap (drop 6) (four_rest f) ∙ drop-drop 6 4 s)
escape_rest (two h g) k e = let n : k ≡ 3 = omega arith in rw n

pub escape_at : (s : List ℕ) (i k : ℕ) {c : ℕ} → i ≤ length s → 0 < k → Escapes (drop i s) c k → EscapeTo s i c (i + k)
escape_at s i k h g x =
    let r : x.rest ≡ drop (i + k) s = escape_rest x.escape k x.long ∙ drop-drop k i s in
    (rw r at x.escape, omega arith, omega (arith, x.long, length-drop i s))

pub escape_once : {s r q : List ℕ} {c d : ℕ} → Escape s c r → Escape s d q → (c ≡ d) × (r ≡ q)
escape_once (letter h) (letter g) = (letter_once h g, refl)
escape_once (letter h) (unit f g) = absurd (omega (arith, letter_low h))
escape_once (letter h) (pair f g x) = absurd (omega (arith, letter_low h))
escape_once (letter h) (two f g) = absurd (omega (arith, letter_low h))
escape_once (unit f g) (letter h) = absurd (omega (arith, letter_low h))
escape_once (unit f g) (unit h k) = four_once f h
escape_once (unit f g) (pair h k x) = absurd (half_not_scalar (rw (four_once f h).0 at g) (omega arith))
escape_once (pair f g x) (letter h) = absurd (omega (arith, letter_low h))
escape_once (pair f g x) (unit h k) = absurd (half_not_scalar (rw (four_once h f).0 at k) (omega arith))
escape_once (pair f g x) (pair h k y) =
    let e = (four_once f h).0 in
    let l = low_once x (rw (four_once h f).1 at y) in
    (omega (arith, e, l.0), l.1)
escape_once (two f g) (letter h) = absurd (omega (arith, letter_low h))
escape_once (two f g) (two h k) = (omega (arith, hex_once f h, hex_once g k), refl)

-- ---- the same at a place of the source

pub byte_in : (s : List ℕ) (i k b : ℕ) → get_or (drop i s) k 0 ≡ b → 0 < b → i + k < length s
byte_in s i k b e h = by (dec_lt (i + k) (length s))
  where
    by : Dec (i + k < length s) → i + k < length s
    by (yes g) = g
    by (no g) = absurd (omega (arith, get_or-drop i s k 0, get_or-eq_default s 0 {n = i + k} (omega arith)))

pub first_in : (s : List ℕ) (i : ℕ) → get_or s i 0 ≡ get_or (drop i s) 0 0
first_in s i = let k : i ≡ i + 0 = omega arith in rw (get_or-drop i s 0 0) (ap (λ (j : ℕ). get_or s j 0) k)

pub no_escape_end : (s : List ℕ) (i : ℕ) → length s ≤ i → EscapeAt s i None
no_escape_end s i h = rw (drop_of_length-le s h) (no_escape [] (λ c h. omega (arith, letter_low h)) (λ e. omega arith) (λ e. omega arith))

-- what the test for `\u` says of the rest that it looks at
module _ (s : List ℕ) (i : ℕ) (b : Bool) (e : b ≡ starts_with eqb (take (length s - i) (drop i s)) (0x5C ∷ 0x75 ∷ [])) where
  found : (b ≡ true → drop i s ≡ 0x5C ∷ 0x75 ∷ drop 2 (drop i s)) × ((r : List ℕ) → drop i s ≡ 0x5C ∷ 0x75 ∷ r → b ≡ true)
  found = starts_is {E = eqb} Decides-eqb (drop i s) (0x5C ∷ 0x75 ∷ []) b (rw take_rest at e)

  pub begins_u : b ≡ true → (get_or (drop i s) 0 0 ≡ 0x5C) × (get_or (drop i s) 1 0 ≡ 0x75)
  begins_u h = let f = found.0 h in (ap (λ (l : List ℕ). get_or l 0 0) f, ap (λ (l : List ℕ). get_or l 1 0) f)

  pub no_u : b ≡ false → Halved (drop i s) None
  no_u h = λ lo r x. let f = low_begins x in cc (found.1 f.0 f.1)

module _ (s : List ℕ) (i : ℕ) where
  pub low_at : {lo : ℕ} → get_or (drop i s) 0 0 ≡ 0x5C → get_or (drop i s) 1 0 ≡ 0x75 → Spelled (drop (i + 2) s) (Some lo) → In 0xDC00 0xDFFF lo → Halved (drop i s) (Some lo)
  low_at e f g h = low_is (drop i s) e f (rw (sym (drop-drop 2 i s)) at g) h

  pub no_spelled : Spelled (drop (i + 2) s) None → Halved (drop i s) None
  no_spelled g = λ lo r x. let b = low_bytes x in g lo r (rw (drop-drop 2 i s) at b.2)

  pub not_low : {n : ℕ} → Spelled (drop (i + 2) s) (Some n) → (In 0xDC00 0xDFFF n → ⊥) → Halved (drop i s) None
  not_low g h = λ lo r x. let b = low_bytes x in h (omega (arith, b.3, (four_once g.1 (rw (drop-drop 2 i s) at b.2)).0))

module _ (s : List ℕ) (i : ℕ) (here : i < length s) (u : get_or (drop i s) 0 0 ≡ 0x75) where
  pub unit_at : {n : ℕ} {r : List ℕ} → Four (drop (i + 1) s) n r → Scalar n → EscapeTo s i n (i + 5)
  unit_at f g = escape_at s i 5 (omega arith) (omega arith) (unit_is (drop i s) u (rw (sym (drop-drop 1 i s)) at f) g)

  after_unit : {n : ℕ} {r : List ℕ} → Four (drop (i + 1) s) n r → r ≡ drop (i + 5) s
  after_unit f = let e : i + 1 + 4 ≡ i + 5 = omega arith in four_rest f ∙ drop-drop 4 (i + 1) s ∙ ap (λ (k : ℕ). drop k s) e

  pub pair_at :
      {hi lo : ℕ} {q r : List ℕ} → Four (drop (i + 1) s) hi q → In 0xD800 0xDBFF hi → Low (drop (i + 5) s) lo r →
      EscapeTo s i (0x10000 + (hi - 0xD800) * 0x400 + (lo - 0xDC00)) (i + 11)
  pair_at f g h =
      escape_at s i 11 (omega arith) (omega arith)
      (pair_is (drop i s) u (rw (sym (drop-drop 1 i s)) at f) g (rw (sym (after_unit f)) at h))

  pub room : {n : ℕ} {r : List ℕ} → Four (drop (i + 1) s) n r → i + 5 ≤ length s
  room f = omega (arith, four_long f, length-drop (i + 1) s)

  pub unit_broken : (Units (drop (i + 1) s) → ⊥) → EscapeAt s i None
  unit_broken h = λ c r x. h (rw (drop-drop 1 i s) at (u_view x u))

  pub pair_broken :
      {n : ℕ} {r : List ℕ} → Four (drop (i + 1) s) n r → In 0xD800 0xDBFF n → ((m : ℕ) (q : List ℕ) → Low (drop (i + 5) s) m q → ⊥) → EscapeAt s i None
  pair_broken f g h = unit_broken (high_unit f g (λ m q x. h m q (rw (after_unit f) at x)))

module _ (s : List ℕ) (i : ℕ) (here : i ≤ length s) (x : get_or (drop i s) 0 0 ≡ 0x78) where
  pub two_at : {v w : ℕ} → Hex (get_or (drop i s) 1 0) v → Hex (get_or (drop i s) 2 0) w → EscapeTo s i (v * 0x100 + w) (i + 3)
  two_at h g = escape_at s i 3 here (omega arith) (two_is (drop i s) x h g)

  pub no_two : length s < i + 3 → EscapeAt s i None
  no_two h = λ c r e. let d = x_view e x in omega (arith, byte_in s i 2 (get_or (drop i s) 2 0) refl (omega (arith, hex_byte d.3)))

  pub no_first : ((v : ℕ) → Hex (get_or (drop i s) 1 0) v → ⊥) → EscapeAt s i None
  no_first h = λ c r e. let d = x_view e x in h d.0 d.2

  pub no_second : ((v : ℕ) → Hex (get_or (drop i s) 2 0) v → ⊥) → EscapeAt s i None
  no_second h = λ c r e. let d = x_view e x in h d.1 d.3
