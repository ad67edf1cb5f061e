-- Laws of characters, and of texts made of them.
-- Assumes nothing.
use mathlib.Core.Path.{◌≡◌, refl, sym, ◌∙◌, ap}
use mathlib.Core.List.{List, [], ◌∷◌, ◌++◌}
use Prim.Native.Nat.{ℕ, zero, ◌+◌, ◌-◌, ◌≤◌, ◌<◌}
use native.Mathlib.Omega.{arith}
use native.Mathlib.Decide.{dec_lt}
use lib.ListN.{length, take, drop, length-append, length-take, length-drop, take-append-drop}
use lib.Seq.{drop_at, take_at, take-add, take-length, drop-drop}
use Rattle.strings.specs.Utf8.{In, Character, row_00_7F, CharacterLength, begins, nothing, Utf8, none, more, ValidTo}
use Rattle.strings.proofs.Rows.{Led, led, to_led, from_led, led_some, row_once, row_low, follows_once, follows_append, Apart, follows_apart, Within, follows_within}

-- A list begins with at most one character.
led_once : {s r r' : List ℕ} → Led s r → Led s r' → r ≡ r'
led_once (led {n = n} x f) (led {n = m} y g) =
    let e : m ≡ n = omega (arith, (row_once x y).0) in
    follows_once f (rw e at g)

pub character_once : {s r r' : List ℕ} → Character s r → Character s r' → r ≡ r'
character_once p q = led_once (to_led p) (to_led q)

led_append : {s r : List ℕ} (q : List ℕ) → Led s r → Character (s ++ q) (r ++ q)
led_append q (led x f) = from_led (led x (follows_append q f))

pub character_append : {s r : List ℕ} (q : List ℕ) → Character s r → Character (s ++ q) (r ++ q)
character_append q p = led_append q (to_led p)

led_apart : {s r : List ℕ} → Led s r → Apart Character s r
led_apart (led {a = a} x f) =
    let g = follows_apart f in
    record { bytes = a ∷ g.bytes; joined = ap (λ (l : List ℕ). a ∷ l) g.joined; alone = from_led (led x g.alone) }

pub character_apart : {s r : List ℕ} → Character s r → Apart Character s r
character_apart p = led_apart (to_led p)

-- What follows a character is what is left when its bytes are dropped.
pub record Parted (s r : List ℕ) (n : ℕ) : Type 0 where
  pub rest : r ≡ drop n s
  pub alone : Character (take n s) []
  pub some : 1 ≤ n

pub character_parted : {s r : List ℕ} (n : ℕ) → Character s r → length s ≡ n + length r → Parted s r n
character_parted {s} {r} n p e =
    let a = character_apart p in
    let l : length a.bytes ≡ n = omega (arith, ap length a.joined, length-append a.bytes r) in
    record {
      rest = sym (ap (drop n) a.joined ∙ drop_at a.bytes r n l);
      alone = rw (ap (take n) a.joined ∙ take_at a.bytes r n l) a.alone;
      some = omega (arith, led_some (to_led a.alone));
    }

pub character_length_once : {s : List ℕ} {n n' : ℕ} → CharacterLength s n → CharacterLength s n' → n ≡ n'
character_length_once (begins p e) (begins p' e') = omega (arith, ap length (character_once p p'))
character_length_once (begins p e) (nothing h) = absurd (h _ p)
character_length_once (nothing h) (begins p e) = absurd (h _ p)
character_length_once (nothing h) (nothing h') = refl

-- A character of so many bytes at a place of a list, cut out of it.
pub record CharacterAt (s : List ℕ) (at n : ℕ) : Type 0 where
  pub within : at + n ≤ length s
  pub character : Character (drop at s) (drop (at + n) s)
  pub alone : Character (take n (drop at s)) []

pub character_at : (s : List ℕ) (at n : ℕ) → CharacterLength (drop at s) n → 0 < n → CharacterAt s at n
character_at s at n (begins {r = r} p e) h =
    let a = character_parted n p e in
    record {
      within = omega (arith, length-drop at s);
      character = rw (sym (drop-drop n at s), sym a.rest) p;
      alone = a.alone;
    }
character_at s at zero (nothing x) h = absurd (omega arith)

-- UTF-8 after UTF-8 is UTF-8.
pub utf8_append : {s t : List ℕ} → Utf8 s → Utf8 t → Utf8 (s ++ t)
utf8_append none v = v
utf8_append (more p u) v = more (character_append _ p) (utf8_append u v)

pub utf8_one : {s : List ℕ} → Character s [] → Utf8 s
utf8_one p = more p none

-- What follows a character of UTF-8 is UTF-8, and so is what follows UTF-8.
pub utf8-rest : {s r : List ℕ} → Character s r → Utf8 s → Utf8 r
utf8-rest {r = r} p none = elim p [ ]
utf8-rest p (more p' u) = rw (character_once p p') u

pub utf8_cancel : {p : List ℕ} (q : List ℕ) → Utf8 p → Utf8 (p ++ q) → Utf8 q
utf8_cancel q none v = v
utf8_cancel q (more c u) v = utf8_cancel q u (utf8-rest (character_append q c) v)

no_character : {s : List ℕ} → CharacterLength s 0 → (r : List ℕ) → Character s r → ⊥
no_character (begins p e) r q = omega (arith, (character_parted 0 p e).some)
no_character (nothing z) r q = z r q

utf8-begins : {s : List ℕ} → Utf8 s → 0 < length s → ((r : List ℕ) → Character s r → ⊥) → ⊥
utf8-begins none h z = omega arith
utf8-begins (more p u) h z = z _ p

-- The first bytes are UTF-8 up to a place where no character begins: nothing longer is.
pub valid_stop : (s : List ℕ) (i : ℕ) → i ≤ length s → Utf8 (take i s) → CharacterLength (drop i s) 0 → ValidTo s i
valid_stop s i h u l = record { within = h; valid = u; longest = λ m g v. at_most m g v (dec_lt i m) }
  where
    at_most : (m : ℕ) → m ≤ length s → Utf8 (take m s) → Dec (i < m) → m ≤ i
    at_most m g v (no x) = omega arith
    at_most m g v (yes x) =
        let part = take (m - i) (drop i s) in
        let place : m ≡ i + (m - i) = omega arith in
        let whole : take m s ≡ take i s ++ part = ap (λ (k : ℕ). take k s) place ∙ take-add i (m - i) s in
        let rest : Utf8 part = utf8_cancel part u (rw whole at v) in
        let some : 0 < length part = omega (arith, ap length whole, length-append (take i s) part, length-take i s, length-take m s) in
        absurd (utf8-begins rest some (λ r p. no_character l (r ++ drop (m - i) (drop i s)) (rw take-append-drop at (character_append (drop (m - i) (drop i s)) p))))

-- One character more is valid too.
pub valid_on : {s : List ℕ} {i n : ℕ} → Utf8 (take i s) → CharacterAt s i n → Utf8 (take (i + n) s)
valid_on {s} {i} {n} u c = rw take-add (utf8_append u (utf8_one c.alone))

-- All bytes are valid where the answer is the whole length, and only there.
pub valid_whole : {s : List ℕ} {n : ℕ} → ValidTo s n → n ≡ length s → Utf8 s
valid_whole {s} v e = rw (e, take-length s) at v.valid

pub valid_all : {s : List ℕ} {n : ℕ} → Utf8 s → ValidTo s n → n ≡ length s
valid_all {s} {n} u v = let all : length s ≤ n = v.longest (length s) (omega arith) (rw take-length u) in omega (arith, v.within)

pub valid_to_once : {s : List ℕ} {n n' : ℕ} → ValidTo s n → ValidTo s n' → n ≡ n'
valid_to_once {n = n} {n' = n'} v w = omega (arith, v.longest n' w.within w.valid, w.longest n v.within v.valid)

led_within : {u r : List ℕ} (d : ℕ) (p : List ℕ) (b : ℕ) (s : List ℕ) → b < 0x80 → u ≡ d ∷ (p ++ b ∷ s) → Led u r → Within Character (d ∷ p) b s r
led_within d p b s h e (led {a = a} {t = t} x f) =
    let first : a ≡ d = cc in
    let others : t ≡ p ++ b ∷ s = cc in
    let g = follows_within p b s h (row_low x) others f in
    record { rest = g.rest; joined = g.joined; before = from_led (led (rw first at x) g.before) }

-- What stands before and after an ASCII byte of UTF-8 is UTF-8.
pub ascii-rest : {b : ℕ} {s : List ℕ} → Utf8 (b ∷ s) → b < 0x80 → Utf8 s
ascii-rest {b} u h = let x : In 0x00 0x7F b = omega arith in utf8-rest (row_00_7F x) u

splits : {u : List ℕ} (p : List ℕ) (b : ℕ) (s : List ℕ) → b < 0x80 → u ≡ p ++ b ∷ s → Utf8 u → Utf8 p × Utf8 s
splits p b s h e none = absurd (omega (arith, ap length e, length-append p (b ∷ s)))
splits [] b s h e (more c u) = (none, ascii-rest (rw e at (more c u)) h)
splits (d ∷ p) b s h e (more c u) =
    let g = led_within d p b s h e (to_led c) in
    let parts = splits g.rest b s h g.joined u in
    (more g.before parts.0, parts.1)

pub ascii_splits : {b : ℕ} (p : List ℕ) {s : List ℕ} → Utf8 (p ++ b ∷ s) → b < 0x80 → Utf8 p × Utf8 s
ascii_splits {b} p {s} u h = splits p b s h refl u
