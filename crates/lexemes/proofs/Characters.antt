-- On UTF-8 a letter is one whole character: where the bytes of a code point stand, the letter is the code point's, and the next place is past
-- these bytes. So a class such as `[^0-9]` takes one character, and `\s` is Unicode's White_Space.
-- Assumes nothing.
use mathlib.Core.Path.{◌≡◌, refl, sym, ◌∙◌, ap, subst}
use mathlib.Core.Bool.{Bool, cond}
use mathlib.Core.List.{List, ◌∷◌, ◌++◌}
use mathlib.Core.Logic.{inl, inr}
use Prim.Native.Nat.{ℕ, ◌+◌, ◌-◌, ◌*◌, ◌/◌, ◌%◌, ◌≤◌, ◌<◌}
use native.Mathlib.Omega.{arith}
use native.Mathlib.Nat.{add-zero}
use lib.Dec.{ltb}
use lib.ListN.{length, get_or, drop, length-drop}
use lib.Seq.{get_or-drop, drop-drop, drop_at}
use borrow.Author.Tests.{lt-ltb, le-ltb}
use Rattle.regexes.specs.Regex.{within}
use Rattle.strings.specs.Utf8.{Character, Scalar, utf8}
use Rattle.strings.proofs.Utf8Laws.{by_range, utf8_1, utf8_2, utf8_3, utf8_4, character_scalar}
use Rattle.lexemes.specs.Letters.{WHITE, OTHER, letter, next, beyond, code_point, white_space}
use Rattle.lexemes.proofs.Letters.{letter-ascii, letter_high, next-ascii, next-two, next-three, next_four}

-- The letter of a code point.
abbrev pub letter_of : ℕ → ℕ
letter_of c = cond (ltb c 0x80) c (cond (within white_space c) WHITE OTHER)

two : (a b d e c : ℕ) → 0x80 ≤ c → c < 0x800 → a ≡ 0xC0 + c / 0x40 → b ≡ 0x80 + c % 0x40 → code_point a b d e ≡ c
unfolding code_point
two a b d e c h g p q = simp (le-ltb a 0x80 (omega arith), lt-ltb a 0xE0 (omega arith)) (omega arith)

three : (a b d e c : ℕ) → 0x800 ≤ c → c < 0x10000 → a ≡ 0xE0 + c / 0x1000 → b ≡ 0x80 + c / 0x40 % 0x40 → d ≡ 0x80 + c % 0x40 → code_point a b d e ≡ c
unfolding code_point
three a b d e c h g p q r = simp (le-ltb a 0x80 (omega arith), le-ltb a 0xE0 (omega arith), lt-ltb a 0xF0 (omega arith)) (omega arith)

tail_of : (x y : ℕ) → x ≡ 0x80 + y % 0x40 → x % 0x40 ≡ y % 0x40
tail_of x y e = omega arith

lead_of : (x y : ℕ) → y < 5 → x ≡ 0xF0 + y → x % 8 ≡ y
lead_of x y h e = omega arith

-- The four parts of a code point make it up.
parts : (c q r t : ℕ) → q ≡ c / 0x40 → r ≡ q / 0x40 → t ≡ r / 0x40 → t * 0x40000 + r % 0x40 * 0x1000 + q % 0x40 * 0x40 + c % 0x40 ≡ c
parts c q r t e f g =
    let x : r ≡ t * 0x40 + r % 0x40 = omega arith in
    let y : q ≡ r * 0x40 + q % 0x40 = omega arith in
    let z : c ≡ q * 0x40 + c % 0x40 = omega arith in
    sum c q r t (r % 0x40) (q % 0x40) (c % 0x40) x y z
  where
    sum : (c q r t u v w : ℕ) → r ≡ t * 0x40 + u → q ≡ r * 0x40 + v → c ≡ q * 0x40 + w → t * 0x40000 + u * 0x1000 + v * 0x40 + w ≡ c
    sum c q r t u v w x y z = omega arith

four : (a b d e c : ℕ) → 0x10000 ≤ c → c < 0x110000 → a ≡ 0xF0 + c / 0x40000 → b ≡ 0x80 + c / 0x1000 % 0x40 → d ≡ 0x80 + c / 0x40 % 0x40 → e ≡ 0x80 + c % 0x40 → code_point a b d e ≡ c
unfolding code_point
four a b d e c h g p q r t =
    simp (le-ltb a 0x80 (omega arith), le-ltb a 0xE0 (omega arith), le-ltb a 0xF0 (omega arith))
    (simp (lead_of a (c / 0x40000) (small c g) p, tail_of b (c / 0x1000) q, tail_of d (c / 0x40) r, tail_of e c t)
    (parts c (c / 0x40) (c / 0x1000) (c / 0x40000) refl (half c) (third c)))
  where
    small : (c : ℕ) → c < 0x110000 → c / 0x40000 < 5
    small c g = omega arith

    half : (c : ℕ) → c / 0x1000 ≡ c / 0x40 / 0x40
    half c = omega arith

    third : (c : ℕ) → c / 0x40000 ≡ c / 0x1000 / 0x40
    third c = omega arith

-- A code point stands at a place: its letter, and the place behind its bytes.
pub record Stands (s : List ℕ) (i c n : ℕ) : Type 0 where
  pub letter_is : letter s i ≡ letter_of c
  pub next_is : next s i ≡ i + n

module _ (s : List ℕ) (i : ℕ) where
  byte_of : {t : List ℕ} → drop i s ≡ t → (k : ℕ) → get_or s (i + k) 0 ≡ get_or t k 0
  byte_of e k = sym (get_or-drop i s k 0) ∙ ap (λ (l : List ℕ). get_or l k 0) e

  first_of : {t : List ℕ} → drop i s ≡ t → get_or s i 0 ≡ get_or t 0 0
  first_of e = ap (λ (x : ℕ). get_or s x 0) (sym (add-zero i)) ∙ byte_of e 0

  room : {t : List ℕ} → drop i s ≡ t → length s - i ≡ length t
  room e = sym (length-drop i s) ∙ ap length e

  -- Beyond ASCII the letter goes by the code point.
  high : (c : ℕ) → i < length s → 0x80 ≤ get_or s i 0 → 0x80 ≤ c → code_point (get_or s i 0) (get_or s (i + 1) 0) (get_or s (i + 2) 0) (get_or s (i + 3) 0) ≡ c → letter s i ≡ letter_of c
  unfolding beyond
  high c l h g e =
      letter_high s i l h ∙ ap (λ (p : ℕ). cond (within white_space p) WHITE OTHER) e ∙ sym (ap (λ (b : Bool). cond b c (cond (within white_space c) WHITE OTHER)) (le-ltb c 0x80 g))

  stands_1 : (c : ℕ) (r : List ℕ) → c < 0x80 → drop i s ≡ c ∷ r → Stands s i c 1
  stands_1 c r h e =
      let l = room e in
      let b = first_of e in
      record {
        letter_is = letter-ascii s i (omega arith) (omega arith) ∙ b ∙ sym (ap (λ (t : Bool). cond t c (cond (within white_space c) WHITE OTHER)) (lt-ltb c 0x80 h));
        next_is = next-ascii s i (omega arith) (omega arith);
      }

  stands_2 : (c : ℕ) (r : List ℕ) → 0x80 ≤ c → c < 0x800 → drop i s ≡ (0xC0 + c / 0x40) ∷ (0x80 + c % 0x40) ∷ r → Stands s i c 2
  stands_2 c r h g e =
      let l = room e in
      let a = first_of e in
      let b = byte_of e 1 in
      record {
        letter_is = high c (omega arith) (omega arith) h (two (get_or s i 0) (get_or s (i + 1) 0) (get_or s (i + 2) 0) (get_or s (i + 3) 0) c h g a b);
        next_is = next-two s i (omega arith) (omega arith) (omega arith) ∙ omega arith;
      }

  stands_3 : (c : ℕ) (r : List ℕ) → 0x800 ≤ c → c < 0x10000 → drop i s ≡ (0xE0 + c / 0x1000) ∷ (0x80 + c / 0x40 % 0x40) ∷ (0x80 + c % 0x40) ∷ r → Stands s i c 3
  stands_3 c r h g e =
      let l = room e in
      let a = first_of e in
      let b = byte_of e 1 in
      let d = byte_of e 2 in
      record {
        letter_is = high c (omega arith) (omega arith) (omega arith) (three (get_or s i 0) (get_or s (i + 1) 0) (get_or s (i + 2) 0) (get_or s (i + 3) 0) c h g a b d);
        next_is = next-three s i (omega arith) (omega arith) (omega arith) ∙ omega arith;
      }

  stands_4 : (c : ℕ) (r : List ℕ) → 0x10000 ≤ c → c < 0x110000 → drop i s ≡ (0xF0 + c / 0x40000) ∷ (0x80 + c / 0x1000 % 0x40) ∷ (0x80 + c / 0x40 % 0x40) ∷ (0x80 + c % 0x40) ∷ r → Stands s i c 4
  stands_4 c r h g e =
      let l = room e in
      let a = first_of e in
      let b = byte_of e 1 in
      let d = byte_of e 2 in
      let f = byte_of e 3 in
      record {
        letter_is = high c (omega arith) (omega arith) (omega arith) (four (get_or s i 0) (get_or s (i + 1) 0) (get_or s (i + 2) 0) (get_or s (i + 3) 0) c h g a b d f);
        next_is = next_four s i (omega arith) (omega arith) ∙ omega arith;
      }

  -- Where the bytes of a scalar value stand.
  pub stands : (c : ℕ) (r : List ℕ) → Scalar c → drop i s ≡ utf8 c ++ r → Stands s i c (length (utf8 c))
  stands c r v e =
      by_range (λ (c : ℕ). Scalar c → drop i s ≡ utf8 c ++ r → Stands s i c (length (utf8 c))) c
      (λ h v e. subst (Stands s i c) (sym (ap length (utf8_1 c h))) (stands_1 c r h (e ∙ ap (λ (t : List ℕ). t ++ r) (utf8_1 c h))))
      (λ h g v e. subst (Stands s i c) (sym (ap length (utf8_2 c h g))) (stands_2 c r h g (e ∙ ap (λ (t : List ℕ). t ++ r) (utf8_2 c h g))))
      (λ h g v e. subst (Stands s i c) (sym (ap length (utf8_3 c h g))) (stands_3 c r h g (e ∙ ap (λ (t : List ℕ). t ++ r) (utf8_3 c h g))))
      (λ h v e. subst (Stands s i c) (sym (ap length (utf8_4 c h))) (stands_4 c r h (below v) (e ∙ ap (λ (t : List ℕ). t ++ r) (utf8_4 c h))))
      v e
    where
      below : Scalar c → c < 0x110000
      below (inl h) = omega arith
      below (inr h) = h.1

-- A character of the source encodes a code point; the letter is that code point's, and the next place is past the character.
pub one_character : (s : List ℕ) (i : ℕ) {r : List ℕ} → Character (drop i s) r → (c : ℕ) × (drop i s ≡ utf8 c ++ r) × (letter s i ≡ letter_of c) × (drop (next s i) s ≡ r)
one_character s i {r} d =
    let x = character_scalar d in
    let t = stands s i x.code r x.scalar x.bytes in (
      x.code,
      x.bytes,
      t.letter_is,
      ap (λ (n : ℕ). drop n s) t.next_is ∙ sym (drop-drop (length (utf8 x.code)) i s) ∙ ap (drop (length (utf8 x.code))) x.bytes ∙ drop_at (utf8 x.code) r (length (utf8 x.code)) refl,
    )
