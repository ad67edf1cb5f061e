-- Within a string, byte by byte: the lexemes' rules take whole characters, and a text that is read by bytes comes to the same place.
-- Assumes nothing.
use mathlib.Core.Path.{◌≡◌, refl, sym, ap, subst, ◌∙◌}
use mathlib.Core.List.{List, ◌∷◌, ◌++◌}
use Prim.Native.Nat.{ℕ, ◌+◌, ◌≤◌, ◌<◌}
use native.Mathlib.Omega.{arith}
use native.Mathlib.Decide.{dec_lt}
use lib.ListN.{length, get_or, drop, length-drop}
use lib.Seq.{get_or-drop, drop-drop, drop_at}
use Rattle.strings.specs.Utf8.{Character, Utf8}
use Rattle.strings.proofs.CharacterLaws.{ascii-rest}
use Rattle.lexemes.specs.Letters.{next}
use Rattle.lexemes.specs.Lexeme.{Ruled}
use Rattle.lexemes.specs.Scan.{Quote}
use Rattle.lexemes.proofs.Letters.{next-ascii, next-two, next-three, next_four}
use Rattle.lexemes.proofs.Quotes.{InString, opened, passed, escape_passed, closed}

-- ── What stands at a place ────────────────────────────────────────────────────────────────────────

-- From the place i on, r is the rest of the source.
pub record There (s : List ℕ) (i : ℕ) (r : List ℕ) : Type 0 where
  pub rest : drop i s ≡ r

module _ {s : List ℕ} {i : ℕ} where
  pub there_inside : {b : ℕ} {r : List ℕ} → There s i (b ∷ r) → i < length s
  there_inside e = omega (arith, ap length e.rest, length-drop i s)

  pub there_byte : {r : List ℕ} (k : ℕ) → There s i r → get_or s (i + k) 0 ≡ get_or r k 0
  there_byte k e = sym (get_or-drop i s k 0) ∙ ap (λ (l : List ℕ). get_or l k 0) e.rest

  pub there_first : {b : ℕ} {r : List ℕ} → There s i (b ∷ r) → get_or s i 0 ≡ b
  there_first {b} e = subst (λ (x : ℕ). get_or s x 0 ≡ b) (omega arith) (there_byte 0 e)

  pub there_next : {b : ℕ} {r : List ℕ} → There s i (b ∷ r) → There s (i + 1) r
  there_next {b} e = record { rest = sym (drop-drop 1 i s) ∙ ap (drop 1) e.rest }

pub there_behind : {s : List ℕ} {i : ℕ} (w r : List ℕ) → There s i (w ++ r) → There s (i + length w) r
there_behind {s} {i} w r e = record { rest = sym (drop-drop (length w) i s) ∙ ap (drop (length w)) e.rest ∙ drop_at w r (length w) refl }

-- ── Inside a string ───────────────────────────────────────────────────────────────────────────────

-- A scan of the string that begins at `at` has come to i, where r stands; or, where i is in the middle of a character beyond ASCII, to that
-- character's end.
pub data Scanned (s : List ℕ) (at q g : ℕ) : ℕ → List ℕ → Type 0 where
  here : {i : ℕ} {r : List ℕ} → InString s at q g i → Utf8 r → Scanned s at q g i r
  within : {i b : ℕ} {r : List ℕ} → 0x80 ≤ b → Scanned s at q g (i + 1) r → Scanned s at q g i (b ∷ r)

module _ {s : List ℕ} {at q g : ℕ} where
  -- Before a byte of ASCII a character is over.
  pub settled : {i b : ℕ} {r : List ℕ} → b < 0x80 → Scanned s at q g i (b ∷ r) → InString s at q g i × Utf8 r
  settled h (here m u) = (m, ascii-rest u h)
  settled h (within l x) = absurd (omega arith)

  pub string_opened : {r : List ℕ} → Quote q g → q < 0x80 → There s at (q ∷ r) → Utf8 r → Scanned s at q g (at + 1) r
  string_opened k h e u = here (opened k (there_first e)) u

  pub string_closed : {i : ℕ} {r : List ℕ} → q < 0x80 → There s i (q ∷ r) → Scanned s at q g i (q ∷ r) → Ruled s at g (i + 1)
  string_closed h e x = closed (settled h x).0 (there_first e)

  module _ (low : q < 0x80) where
    -- The first byte of a character beyond ASCII, which has n more.
    leap : {i : ℕ} (j : ℕ) {a : ℕ} {r : List ℕ} → InString s at q g i → There s i (a ∷ r) → 0x80 ≤ a → next s i ≡ j → InString s at q g j
    leap j m e h n = passed m (there_inside e) ((λ z. omega (arith, z, there_first e)), ((λ z. omega (arith, z, there_first e)), tt)) (sym n)

    two : {i a b : ℕ} {r : List ℕ} → InString s at q g i → There s i (a ∷ b ∷ r) → 0x80 ≤ a → a < 0xE0 → 0x80 ≤ b → Utf8 r → Scanned s at q g (i + 1) (b ∷ r)
    two {i} m e h l k u =
        let f = there_first e in
        let n : next s i ≡ i + 1 + 1 = next-two s i (there_inside e) (omega arith) (omega arith) ∙ omega (arith, there_inside (there_next e)) in
        within k (here (leap (i + 1 + 1) m e h n) u)

    three : {i a b c : ℕ} {r : List ℕ} → InString s at q g i → There s i (a ∷ b ∷ c ∷ r) → 0xE0 ≤ a → a < 0xF0 → 0x80 ≤ b → 0x80 ≤ c → Utf8 r → Scanned s at q g (i + 1) (b ∷ c ∷ r)
    three {i} m e h l k k₂ u =
        let f = there_first e in
        let n : next s i ≡ i + 1 + 1 + 1 = next-three s i (there_inside e) (omega arith) (omega arith) ∙ omega (arith, there_inside (there_next (there_next e))) in
        within k (within k₂ (here (leap (i + 1 + 1 + 1) m e (omega arith) n) u))

    four : {i a b c d : ℕ} {r : List ℕ} → InString s at q g i → There s i (a ∷ b ∷ c ∷ d ∷ r) → 0xF0 ≤ a → 0x80 ≤ b → 0x80 ≤ c → 0x80 ≤ d → Utf8 r → Scanned s at q g (i + 1) (b ∷ c ∷ d ∷ r)
    four {i} m e h k k₂ k₃ u =
        let f = there_first e in
        let n : next s i ≡ i + 1 + 1 + 1 + 1 = next_four s i (there_inside e) (omega arith) ∙ omega (arith, there_inside (there_next (there_next (there_next e)))) in
        within k (within k₂ (within k₃ (here (leap (i + 1 + 1 + 1 + 1) m e (omega arith) n) u)))

    high : {i b : ℕ} {r : List ℕ} → 0x80 ≤ b → There s i (b ∷ r) → InString s at q g i → Utf8 (b ∷ r) → Scanned s at q g (i + 1) r
    high h e m (Utf8.more (Character.row_00_7F x) u) = absurd (omega (arith, x.1))
    high h e m (Utf8.more (Character.row_C2_DF x y) u) = two m e h (omega (arith, x.1)) y.0 u
    high h e m (Utf8.more (Character.row_E0 x y z) u) = three m e x.0 (omega (arith, x.1)) (omega (arith, y.0)) z.0 u
    high h e m (Utf8.more (Character.row_E1_EC x y z) u) = three m e (omega (arith, x.0)) (omega (arith, x.1)) y.0 z.0 u
    high h e m (Utf8.more (Character.row_ED x y z) u) = three m e (omega (arith, x.0)) (omega (arith, x.1)) y.0 z.0 u
    high h e m (Utf8.more (Character.row_EE_EF x y z) u) = three m e (omega (arith, x.0)) (omega (arith, x.1)) y.0 z.0 u
    high h e m (Utf8.more (Character.row_F0 x y z w) u) = four m e x.0 (omega (arith, y.0)) z.0 w.0 u
    high h e m (Utf8.more (Character.row_F1_F3 x y z w) u) = four m e (omega (arith, x.0)) y.0 z.0 w.0 u
    high h e m (Utf8.more (Character.row_F4 x y z w) u) = four m e (omega (arith, x.0)) y.0 z.0 w.0 u

    -- A BYTE THAT IS NEITHER THE QUOTE NOR A BACKSLASH.
    pub byte_on : {i b : ℕ} {r : List ℕ} → There s i (b ∷ r) → (b ≡ q → ⊥) → (b ≡ 92 → ⊥) → Scanned s at q g i (b ∷ r) → Scanned s at q g (i + 1) r
    byte_on e n₁ n₂ (within h x) = x
    byte_on {i} {b} {r} e n₁ n₂ (here m u) = by (dec_lt b 0x80)
      where
        by : Dec (b < 0x80) → Scanned s at q g (i + 1) r
        by (no h) = high (omega arith) e m u
        by (yes h) =
            let f = there_first e in
            here (passed m (there_inside e) ((λ z. n₁ (sym f ∙ z)), ((λ z. n₂ (sym f ∙ z)), tt)) (sym (next-ascii s i (there_inside e) (omega arith))))
            (ascii-rest u h)

    -- A BACKSLASH AND A BYTE OF ASCII.
    pub slash_on : {i b : ℕ} {r : List ℕ} → There s i (92 ∷ b ∷ r) → b < 0x80 → Scanned s at q g i (92 ∷ b ∷ r) → Scanned s at q g (i + 2) r
    slash_on {i} {b} {r} e h x =
        let y = settled (omega arith) x in
        let f = there_first (there_next e) in
        subst (λ (j : ℕ). Scanned s at q g j r) (omega arith)
        (here (escape_passed y.0 (there_first e) (there_inside (there_next e)) (sym (next-ascii s (i + 1) (there_inside (there_next e)) (omega arith)))) (ascii-rest y.1 h))
