-- One turn of each decoder's loop, as a step of its walk.
-- Assumes nothing.
use mathlib.Core.Path.{◌≡◌, refl, ◌∙◌}
use mathlib.Core.List.{List, [], ◌∷◌}
use Prim.Native.Nat.{ℕ, suc, ◌+◌, ◌-◌, ◌*◌, ◌≤◌, ◌<◌}
use native.Mathlib.Omega.{arith}
use native.Mathlib.Decide.{dec_lt}
use mathlib.Core.Logic.{inl, inr}
use lib.ListN.{length, get_or, set, drop, length-drop, drop_of_length-le}
use lib.Seq.{sets}
use Rattle.strings.specs.Utf8.{utf8, Scalar}
use Rattle.strings.specs.Literals.{Escape, letter, unit, pair, two, Quoted, BadEscape, here, past_plain, past_escape, Verbatim, Begins}
use Rattle.strings.specs.Decoding.{Never}
use Rattle.strings.specs.Literals as literals
use Rattle.std.specs.Prelude.{None}
use Rattle.strings.specs.Inner.{EscapeTo, EscapeAt}
use Rattle.strings.proofs.Utf8Laws.{utf8_size}
use Rattle.strings.proofs.Escapes.{hex_small, four_long, low_long, low_bytes, letter_low}
use Rattle.strings.proofs.Stores.{drop-next}
use Rattle.strings.proofs.Walk.{Walked, step}

-- ---- quoted

-- an escape is no shorter than what it stands for, even without its backslash
pub escape_short : {s r : List ℕ} {c : ℕ} → Escape s c r → length (utf8 c) + length r ≤ length s
escape_short (letter {c = c} h) = omega (arith, (utf8_size c).below_80 (letter_low h).2)
escape_short (unit {n = n} f g) = omega (arith, (utf8_size n).most, four_long f)
escape_short (pair {hi} {lo} f g h) = omega (arith, (utf8_size (0x10000 + (hi - 0xD800) * 0x400 + (lo - 0xDC00))).most, four_long f, low_long h)
escape_short (two {d} {e} {v} {w} h g) =
    let small : v * 0x100 + w < 0x10000 = omega (arith, hex_small h, hex_small g) in
    omega (arith, (utf8_size (v * 0x100 + w)).below_10000 small)

pub escape_scalar : {s r : List ℕ} {c : ℕ} → Escape s c r → Scalar c
escape_scalar (letter h) = inl (omega (arith, letter_low h))
escape_scalar (unit f g) = g
escape_scalar (pair f g h) = inr (omega (arith, (low_bytes h).3))
escape_scalar (two h g) = inl (omega (arith, hex_small h, hex_small g))

scalar_below : {c : ℕ} → Scalar c → c < 0x110000
scalar_below (inl h) = omega arith
scalar_below (inr h) = h.1

-- what is known of an escape that was found
pub record Coded (s : List ℕ) (i c j : ℕ) : Type 0 where
  pub escape : Escape (drop i s) c (drop j s)
  pub on : i < j
  pub within : j ≤ length s
  pub below : c < 0x110000
  pub short : length (utf8 c) ≤ j - i

pub coded : {s : List ℕ} {i c j : ℕ} → EscapeTo s i c j → Coded s i c j
coded {s} {i} {c} {j} (e, h, g) =
    record {
      escape = e;
      on = h;
      within = g;
      below = scalar_below (escape_scalar e);
      short = omega (arith, escape_short e, length-drop i s, length-drop j s);
    }

module _ {s out₀ out : List ℕ} {i n : ℕ} (w : Walked Quoted BadEscape s out₀ i n out) (h : i < length s) where
  pub quoted-plain : (out₁ : List ℕ) → (get_or s i 0 ≡ 0x5C → ⊥) → out₁ ≡ set out n (get_or s i 0) → Walked Quoted BadEscape s out₀ (i + 1) (n + 1) out₁
  quoted-plain out₁ g e =
      step Quoted BadEscape s out₀ w (get_or s i 0 ∷ []) (i + 1) (n + 1) out₁ (omega arith) (omega arith) (omega arith) refl e
      (λ t q. rw (drop-next s i h) (literals.Quoted.plain g q))
      (λ k f. let far : i + 1 - i + k ≡ suc k = omega arith in rw (drop-next s i h, far) (past_plain g f))

  pub quoted_escape :
      (out₁ : List ℕ) (c j m : ℕ) → get_or s i 0 ≡ 0x5C → EscapeTo s (i + 1) c j → out₁ ≡ sets out n (utf8 c) → m ≡ n + length (utf8 c) →
      Walked Quoted BadEscape s out₀ j m out₁
  quoted_escape out₁ c j m g e p q =
      let found = coded e in
      let wide : length (drop (i + 1) s) ≡ (j - (i + 1)) + length (drop j s) = omega (arith, found.on, found.within, length-drop (i + 1) s, length-drop j s) in
      step Quoted BadEscape s out₀ w (utf8 c) j m out₁ (omega (arith, found.on)) found.within (omega (arith, found.short)) q p
      (λ t x. rw (drop-next s i h, g) (literals.Quoted.escape found.escape x))
      (λ k f.
      let far : j - i + k ≡ suc (j - (i + 1) + k) = omega (arith, found.on) in
      rw (drop-next s i h, g, far) (past_escape (j - (i + 1)) found.escape wide f))

  pub quoted_broken : get_or s i 0 ≡ 0x5C → EscapeAt s (i + 1) None → BadEscape (drop i s) 0
  quoted_broken g b = rw (drop-next s i h, g) (here b)

-- ---- verbatim

begins_in : (s : List ℕ) (q i : ℕ) → Begins q (drop i s) → (i < length s) × (get_or s i 0 ≡ q)
begins_in s q i b = by (dec_lt i (length s))
  where
    by : Dec (i < length s) → (i < length s) × (get_or s i 0 ≡ q)
    by (yes h) = (h, rw (drop-next s i h) at b)
    by (no h) = absurd (rw (drop_of_length-le s {i = i} (omega arith)) at b)

-- a verbatim inside has no fault
abbrev pub Faultless : List ℕ → ℕ → Type 0
Faultless s = Never

module _ {q : ℕ} {s out₀ out : List ℕ} {i n : ℕ} (w : Walked (Verbatim q) Faultless s out₀ i n out) (h : i < length s) (out₁ : List ℕ) (e : out₁ ≡ set out n (get_or s i 0)) where
  pub verbatim-plain : (get_or s i 0 ≡ q → ⊥) → Walked (Verbatim q) Faultless s out₀ (i + 1) (n + 1) out₁
  verbatim-plain g =
      step (Verbatim q) Faultless s out₀ w (get_or s i 0 ∷ []) (i + 1) (n + 1) out₁ (omega arith) (omega arith) (omega arith) refl e
      (λ t x. rw (drop-next s i h) (literals.Verbatim.plain g x))
      (λ k f. f)

  pub verbatim-two : get_or s i 0 ≡ q → Begins q (drop (i + 1) s) → Walked (Verbatim q) Faultless s out₀ (i + 2) (n + 1) out₁
  verbatim-two g b =
      let next = begins_in s q (i + 1) b in
      let k : i + 1 + 1 ≡ i + 2 = omega arith in
      let both : drop i s ≡ q ∷ q ∷ drop (i + 2) s = drop-next s i h ∙ rw (g, drop-next s (i + 1) next.0, next.1, k) in
      step (Verbatim q) Faultless s out₀ w (get_or s i 0 ∷ []) (i + 2) (n + 1) out₁ (omega arith) (omega (arith, next.0)) (omega arith) refl e
      (λ t x. rw (both, g) (literals.Verbatim.doubled x))
      (λ k f. f)

  pub verbatim_one : get_or s i 0 ≡ q → (Begins q (drop (i + 1) s) → ⊥) → Walked (Verbatim q) Faultless s out₀ (i + 1) (n + 1) out₁
  verbatim_one g b =
      step (Verbatim q) Faultless s out₀ w (get_or s i 0 ∷ []) (i + 1) (n + 1) out₁ (omega arith) (omega arith) (omega arith) refl e
      (λ t x. rw (drop-next s i h, g) (literals.Verbatim.alone b x))
      (λ k f. f)
