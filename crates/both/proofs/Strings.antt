-- A JSON string is one string literal of Jsonnet: its bytes between the quotes mean the same text, or have the escape `\/` and are spoiled by it.
-- Assumes nothing.
use mathlib.Core.Path.{◌≡◌, refl, sym, ap, subst, ◌∙◌}
use mathlib.Core.Bool.{true, true≢false}
use mathlib.Core.List.{List, [], ◌∷◌, ◌++◌, append_assoc}
use Prim.Native.Nat.{ℕ, suc, ◌+◌, ◌-◌, ◌*◌, ◌<◌}
use native.Mathlib.Omega.{arith}
use lib.ListN.{length, get_or, length-append}
use lib.Seq.{get_or-append-add}
use Rattle.strings.specs.Utf8.{In, Scalar, utf8}
use Rattle.strings.specs.Literals.{Hex, four, low, Escape, Quoted, BadEscape}
use Rattle.strings.specs.Literals as literals
use Rattle.strings.proofs.Utf8Laws.{utf8_1}
use Rattle.lexemes.specs.Kinds.{STRING_DOUBLE}
use Rattle.lexemes.specs.Lexeme.{Ruled}
use Rattle.alone.proofs.StringAlone.{There, there_next, Scanned, string_closed, byte_on, slash_on}
use Rattle.json_import.specs.Tokens.{At, ◌▹◌, is_plain, Letter, Chars}
use Rattle.json_import.specs.Tokens as tokens
use Rattle.both.specs.Solidus.{inside, outside, Solidus, SolidusAt}

-- A place's offset, and the bytes from there on.
abbrev pub place : At → ℕ
place (i ▹ s) = i

abbrev pub behind : At → List ℕ
behind (i ▹ s) = s

-- ── Tests of bytes ────────────────────────────────────────────────────────────────────────────────

-- A byte of a string that stands for itself.
pub plain_byte : (b : ℕ) → is_plain b ≡ true → (b ≡ 0x22 → ⊥) × (b ≡ 0x5C → ⊥)
plain_byte b e = ((λ q. true≢false (sym e ∙ ap is_plain q)), λ q. true≢false (sym e ∙ ap is_plain q))

hex-plain : {b v : ℕ} → Hex b v → (b ≡ 0x22 → ⊥) × (b ≡ 0x5C → ⊥)
hex-plain (literals.Hex.digit h) = ((λ q. omega (arith, h.0)), λ q. omega (arith, h.1))
hex-plain (literals.Hex.upper h) = ((λ q. omega (arith, h.0)), λ q. omega (arith, h.1))
hex-plain (literals.Hex.lower h) = ((λ q. omega (arith, h.0)), λ q. omega (arith, h.0))

hex_low : {b v : ℕ} → Hex b v → b < 0x80
hex_low (literals.Hex.digit h) = omega (arith, h.1)
hex_low (literals.Hex.upper h) = omega (arith, h.1)
hex_low (literals.Hex.lower h) = omega (arith, h.1)

-- ── What the bytes of a string are ────────────────────────────────────────────────────────────────

-- The bytes u of a string, which go on with a text t, make the text t' of it, and have no `\/`.
record Step (u t t' : List ℕ) : Type 0 where
  means : {w : List ℕ} → Quoted w t → Quoted (u ++ w) t'
  spoils : {w : List ℕ} {n : ℕ} → BadEscape w n → (m : ℕ) × (m ≡ length u + n) × BadEscape (u ++ w) m
  on : (r : List ℕ) → Solidus inside (u ++ r) → Solidus inside r
  back : (r : List ℕ) → Solidus inside r → Solidus inside (u ++ r)

-- One byte that stands for itself.
past_plain : {b : ℕ} {r : List ℕ} → (b ≡ 0x22 → ⊥) → (b ≡ 0x5C → ⊥) → Solidus inside (b ∷ r) → Solidus inside r
past_plain n₁ n₂ (Solidus.closes x) = absurd (n₁ refl)
past_plain n₁ n₂ (Solidus.plain m₁ m₂ x) = x
past_plain n₁ n₂ (Solidus.escape m x) = absurd (n₂ refl)
past_plain n₁ n₂ Solidus.here = absurd (n₂ refl)

past_escape : {l : ℕ} {r : List ℕ} → (l ≡ 0x2F → ⊥) → Solidus inside (0x5C ∷ l ∷ r) → Solidus inside r
past_escape n (Solidus.plain m₁ m₂ x) = absurd (m₂ refl)
past_escape n (Solidus.escape m x) = x
past_escape n Solidus.here = absurd (n refl)

plain_step : {b : ℕ} {t : List ℕ} → is_plain b ≡ true → Step (b ∷ []) t (b ∷ t)
plain_step {b} e =
    let n = plain_byte b e in
    record {
      means = λ q. literals.Quoted.plain n.1 q;
      spoils = λ {w} {n = m} x. (suc m, omega arith, literals.BadEscape.past_plain n.1 x);
      on = λ r x. past_plain n.0 n.1 x;
      back = λ r x. Solidus.plain n.0 n.1 x;
    }

-- A letter behind a backslash, but for `/`.
letter_step : {l c : ℕ} {t : List ℕ} → literals.Letter l c → (l ≡ 0x2F → ⊥) → c < 0x80 → Step (0x5C ∷ l ∷ []) t (c ∷ t)
letter_step {l} {c} {t} x n h =
    record {
      means = λ {w} q. subst (λ (u : List ℕ). Quoted (0x5C ∷ l ∷ w) (u ++ t)) (utf8_1 c h) (literals.Quoted.escape (literals.Escape.letter x) q);
      spoils = λ {w} {n = m} y. (suc (1 + m), omega arith, literals.BadEscape.past_escape 1 {r = w} (literals.Escape.letter x) (omega arith) y);
      on = λ r y. past_escape n y;
      back = λ r y. Solidus.escape n y;
    }

-- Four hex digits.
on_four : {a b c d v w x y : ℕ} → Hex a v → Hex b w → Hex c x → Hex d y → {r : List ℕ} → Solidus inside (a ∷ b ∷ c ∷ d ∷ r) → Solidus inside r
on_four h₁ h₂ h₃ h₄ z =
    past_plain (hex-plain h₄).0 (hex-plain h₄).1 (past_plain (hex-plain h₃).0 (hex-plain h₃).1
    (past_plain (hex-plain h₂).0 (hex-plain h₂).1 (past_plain (hex-plain h₁).0 (hex-plain h₁).1 z)))

back_four : {a b c d v w x y : ℕ} → Hex a v → Hex b w → Hex c x → Hex d y → {r : List ℕ} → Solidus inside r → Solidus inside (a ∷ b ∷ c ∷ d ∷ r)
back_four h₁ h₂ h₃ h₄ z =
    Solidus.plain (hex-plain h₁).0 (hex-plain h₁).1 (Solidus.plain (hex-plain h₂).0 (hex-plain h₂).1
    (Solidus.plain (hex-plain h₃).0 (hex-plain h₃).1 (Solidus.plain (hex-plain h₄).0 (hex-plain h₄).1 z)))

u_no_solidus : ◌≡◌ {A = ℕ} 0x75 0x2F → ⊥
u_no_solidus q = omega arith

unit_step : {a b c d v w x y : ℕ} {t : List ℕ} (h₁ : Hex a v) (h₂ : Hex b w) (h₃ : Hex c x) (h₄ : Hex d y) → Scalar (v * 0x1000 + w * 0x100 + x * 0x10 + y)
    → Step (0x5C ∷ 0x75 ∷ a ∷ b ∷ c ∷ d ∷ []) t (utf8 (v * 0x1000 + w * 0x100 + x * 0x10 + y) ++ t)
unit_step h₁ h₂ h₃ h₄ s =
    record {
      means = λ {w} q. literals.Quoted.escape (literals.Escape.unit (four h₁ h₂ h₃ h₄) s) q;
      spoils = λ {w} {n = m} z. (suc (5 + m), omega arith, literals.BadEscape.past_escape 5 {r = w} (literals.Escape.unit (four h₁ h₂ h₃ h₄) s) (omega arith) z);
      on = λ r z. on_four h₁ h₂ h₃ h₄ (past_escape u_no_solidus z);
      back = λ r z. Solidus.escape u_no_solidus (back_four h₁ h₂ h₃ h₄ z);
    }

pair_step : {a b c d v w x y a' b' c' d' v' w' x' y' : ℕ} {t : List ℕ} (h₁ : Hex a v) (h₂ : Hex b w) (h₃ : Hex c x) (h₄ : Hex d y)
    (g₁ : Hex a' v') (g₂ : Hex b' w') (g₃ : Hex c' x') (g₄ : Hex d' y') → In 0xD800 0xDBFF (v * 0x1000 + w * 0x100 + x * 0x10 + y)
    → In 0xDC00 0xDFFF (v' * 0x1000 + w' * 0x100 + x' * 0x10 + y')
    → Step (0x5C ∷ 0x75 ∷ a ∷ b ∷ c ∷ d ∷ 0x5C ∷ 0x75 ∷ a' ∷ b' ∷ c' ∷ d' ∷ []) t
    (utf8 (0x10000 + (v * 0x1000 + w * 0x100 + x * 0x10 + y - 0xD800) * 0x400 + (v' * 0x1000 + w' * 0x100 + x' * 0x10 + y' - 0xDC00)) ++ t)
pair_step h₁ h₂ h₃ h₄ g₁ g₂ g₃ g₄ hi lo =
    record {
      means = λ {w} q. literals.Quoted.escape (literals.Escape.pair (four h₁ h₂ h₃ h₄) hi (low (four g₁ g₂ g₃ g₄) lo)) q;
      spoils = λ {w} {n = m} z. (suc (11 + m), omega arith, literals.BadEscape.past_escape 11 {r = w} (literals.Escape.pair (four h₁ h₂ h₃ h₄) hi (low (four g₁ g₂ g₃ g₄) lo)) (omega arith) z);
      on = λ r z. on_four g₁ g₂ g₃ g₄ (past_escape u_no_solidus (on_four h₁ h₂ h₃ h₄ (past_escape u_no_solidus z)));
      back = λ r z. Solidus.escape u_no_solidus (back_four h₁ h₂ h₃ h₄ (Solidus.escape u_no_solidus (back_four g₁ g₂ g₃ g₄ z)));
    }

-- What becomes of a string: its bytes between the quotes mean its text, and it has no `\/`; or they are spoiled by a `\/`, and it has.
pub data Meant (r t q w : List ℕ) : Type 0 where
  means : Quoted w t → (Solidus inside r → Solidus outside q) → (Solidus outside q → Solidus inside r) → Meant r t q w
  slashed : {n : ℕ} → BadEscape w n → SolidusAt w n → Solidus inside r → Meant r t q w

-- Of the place behind the opening quote, where r stands: the bytes up to the closing quote, and what they mean.
pub record Between (i : ℕ) (r t : List ℕ) (h : At) : Type 0 where
  pub inner : List ℕ
  pub joined : r ≡ inner ++ (0x22 ∷ behind h)
  pub long : place h ≡ i + length inner + 1
  pub meant : Meant r t (behind h) inner

step_on : (u : List ℕ) {i : ℕ} {r t t' : List ℕ} {h : At} → Step u t t' → Between (i + length u) r t h → Between i (u ++ r) t' h
step_on u {i} {r} {t} {t'} {h} s b =
    record {
      inner = u ++ b.inner;
      joined = ap (λ (x : List ℕ). u ++ x) b.joined ∙ sym (append_assoc u b.inner (0x22 ∷ behind h));
      long = omega (arith, b.long, length-append u b.inner);
      meant = by b.meant;
    }
  where
    by : Meant r t (behind h) b.inner → Meant (u ++ r) t' (behind h) (u ++ b.inner)
    by (means q f g) = means (s.means q) (λ x. f (s.on r x)) (λ x. s.back r (g x))
    by (slashed {n} x p y) =
        let z = s.spoils x in
        let front : length u + n + 1 ≡ length u + (n + 1) = omega arith in
        slashed z.2
        record {
          backslash = ap (λ (m : ℕ). get_or (u ++ b.inner) m 0) z.1 ∙ get_or-append-add u b.inner n 0 ∙ p.backslash;
          solidus = ap (λ (m : ℕ). get_or (u ++ b.inner) (m + 1) 0) z.1 ∙ ap (λ (m : ℕ). get_or (u ++ b.inner) m 0) front ∙ get_or-append-add u b.inner (n + 1) 0 ∙ p.solidus;
        }
        (s.back r y)

-- `\/` is no escape of Jsonnet.
no_letter : {c : ℕ} → literals.Letter 0x2F c → ⊥
no_letter = elim [ ]

no_solidus : (s : List ℕ) (c : ℕ) (r : List ℕ) → Escape (0x2F ∷ s) c r → ⊥
no_solidus s c r (literals.Escape.letter x) = no_letter x

-- THE CHARACTERS OF A STRING, up to its closing quote.
pub chars_between : {i : ℕ} {r t : List ℕ} {h : At} → Chars (i ▹ r) t h → Between i r t h
chars_between tokens.Chars.end =
    record { inner = []; joined = refl; long = omega arith; meant = means literals.Quoted.end (λ x. by x) (λ x. Solidus.closes x) }
  where
    by : {s : List ℕ} → Solidus inside (0x22 ∷ s) → Solidus outside s
    by (Solidus.closes x) = x
    by (Solidus.plain m₁ m₂ x) = absurd (m₁ refl)
chars_between (tokens.Chars.plain {b = b} e c) = step_on (b ∷ []) (plain_step e) (chars_between c)
chars_between (tokens.Chars.letter tokens.Letter.quotation_mark c) = step_on (0x5C ∷ 0x22 ∷ []) (letter_step literals.Letter.double (λ q. omega arith) (omega arith)) (chars_between c)
chars_between (tokens.Chars.letter tokens.Letter.reverse_solidus c) = step_on (0x5C ∷ 0x5C ∷ []) (letter_step literals.Letter.backslash (λ q. omega arith) (omega arith)) (chars_between c)
chars_between (tokens.Chars.letter tokens.Letter.solidus c) =
    let b = chars_between c in
    record {
      inner = 0x5C ∷ 0x2F ∷ b.inner;
      joined = ap (λ (x : List ℕ). 0x5C ∷ 0x2F ∷ x) b.joined;
      long = omega (arith, b.long);
      meant = slashed (literals.BadEscape.here (no_solidus b.inner)) record { backslash = refl; solidus = refl } Solidus.here;
    }
chars_between (tokens.Chars.letter tokens.Letter.backspace c) = step_on (0x5C ∷ 0x62 ∷ []) (letter_step literals.Letter.backspace (λ q. omega arith) (omega arith)) (chars_between c)
chars_between (tokens.Chars.letter tokens.Letter.form_feed c) = step_on (0x5C ∷ 0x66 ∷ []) (letter_step literals.Letter.form_feed (λ q. omega arith) (omega arith)) (chars_between c)
chars_between (tokens.Chars.letter tokens.Letter.line_feed c) = step_on (0x5C ∷ 0x6E ∷ []) (letter_step literals.Letter.line_feed (λ q. omega arith) (omega arith)) (chars_between c)
chars_between (tokens.Chars.letter tokens.Letter.return c) = step_on (0x5C ∷ 0x72 ∷ []) (letter_step literals.Letter.return (λ q. omega arith) (omega arith)) (chars_between c)
chars_between (tokens.Chars.letter tokens.Letter.tab c) = step_on (0x5C ∷ 0x74 ∷ []) (letter_step literals.Letter.tab (λ q. omega arith) (omega arith)) (chars_between c)
chars_between (tokens.Chars.unit (four {a = a} {b = b} {c = x} {d = d} h₁ h₂ h₃ h₄) s c) = step_on (0x5C ∷ 0x75 ∷ a ∷ b ∷ x ∷ d ∷ []) (unit_step h₁ h₂ h₃ h₄ s) (chars_between c)
chars_between (tokens.Chars.pair (four {a = a} {b = b} {c = x} {d = d} h₁ h₂ h₃ h₄) hi (low (four {a = a'} {b = b'} {c = x'} {d = d'} g₁ g₂ g₃ g₄) lo) c) =
    step_on (0x5C ∷ 0x75 ∷ a ∷ b ∷ x ∷ d ∷ 0x5C ∷ 0x75 ∷ a' ∷ b' ∷ x' ∷ d' ∷ []) (pair_step h₁ h₂ h₃ h₄ g₁ g₂ g₃ g₄ hi lo) (chars_between c)

-- ── One lexeme ────────────────────────────────────────────────────────────────────────────────────

-- At i, where r stands, within the string that begins at `at`.
abbrev InIt : List ℕ → ℕ → ℕ → List ℕ → Type 0
InIt s at i r = There s i r × Scanned s at 34 STRING_DOUBLE i r

letter_low : {l c : ℕ} → Letter l c → l < 0x80
letter_low tokens.Letter.quotation_mark = omega arith
letter_low tokens.Letter.reverse_solidus = omega arith
letter_low tokens.Letter.solidus = omega arith
letter_low tokens.Letter.backspace = omega arith
letter_low tokens.Letter.form_feed = omega arith
letter_low tokens.Letter.line_feed = omega arith
letter_low tokens.Letter.return = omega arith
letter_low tokens.Letter.tab = omega arith

module _ {s : List ℕ} {at : ℕ} where
  on_hex : {i b v : ℕ} {r : List ℕ} → Hex b v → InIt s at i (b ∷ r) → InIt s at (i + 1) r
  on_hex h x = (there_next x.0, byte_on (omega arith) x.0 (hex-plain h).0 (hex-plain h).1 x.1)

  on_digits : {i a b c d v w x y : ℕ} {r : List ℕ} → Hex a v → Hex b w → Hex c x → Hex d y → InIt s at i (a ∷ b ∷ c ∷ d ∷ r) → InIt s at (i + 4) r
  on_digits {i} {r = r} h₁ h₂ h₃ h₄ x = subst (λ (j : ℕ). InIt s at j r) (omega arith) (on_hex h₄ (on_hex h₃ (on_hex h₂ (on_hex h₁ x))))

  on_slash : {i b : ℕ} {r : List ℕ} → b < 0x80 → InIt s at i (0x5C ∷ b ∷ r) → InIt s at (i + 2) r
  on_slash {i} {r = r} h x = (subst (λ (j : ℕ). There s j r) (omega arith) (there_next (there_next x.0)), slash_on (omega arith) x.0 h x.1)

  on_unit : {i a b c d v w x y : ℕ} {r : List ℕ} → Hex a v → Hex b w → Hex c x → Hex d y → InIt s at i (0x5C ∷ 0x75 ∷ a ∷ b ∷ c ∷ d ∷ r) → InIt s at (i + 6) r
  on_unit {i} {r = r} h₁ h₂ h₃ h₄ x = subst (λ (j : ℕ). InIt s at j r) (omega arith) (on_digits h₁ h₂ h₃ h₄ (on_slash (omega arith) x))

  -- THE CHARACTERS OF A STRING ARE LEXED WITH IT, whatever follows the closing quote.
  pub chars_ruled : {i : ℕ} {r t : List ℕ} {h : At} → Chars (i ▹ r) t h → There s i r → Scanned s at 34 STRING_DOUBLE i r → Ruled s at STRING_DOUBLE (place h) × There s (place h) (behind h)
  chars_ruled tokens.Chars.end e x = (string_closed (omega arith) e x, there_next e)
  chars_ruled (tokens.Chars.plain {b = b} p c) e x =
      let n = plain_byte b p in
      chars_ruled c (there_next e) (byte_on (omega arith) e n.0 n.1 x)
  chars_ruled (tokens.Chars.letter l c) e x = let y = on_slash (letter_low l) (e, x) in chars_ruled c y.0 y.1
  chars_ruled (tokens.Chars.unit (four h₁ h₂ h₃ h₄) p c) e x = let y = on_unit h₁ h₂ h₃ h₄ (e, x) in chars_ruled c y.0 y.1
  chars_ruled (tokens.Chars.pair {i = i} {r = r} (four h₁ h₂ h₃ h₄) hi (low (four g₁ g₂ g₃ g₄) lo) c) e x =
      let y : InIt s at (i + 12) r = subst (λ (j : ℕ). InIt s at j r) (omega arith) (on_unit g₁ g₂ g₃ g₄ (on_unit h₁ h₂ h₃ h₄ (e, x))) in
      chars_ruled c y.0 y.1
