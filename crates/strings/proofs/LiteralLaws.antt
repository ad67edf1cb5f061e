-- What is true of every literal's inside: it has at most one text, which is no longer than the inside, and UTF-8 if that is; or a first bad
-- escape, and one only.
-- Assumes nothing.
use mathlib.Core.Path.{◌≡◌, refl, sym, ◌∙◌, ap, subst}
use mathlib.Core.List.{List, [], ◌∷◌, ◌++◌}
use Prim.Native.Nat.{ℕ, suc, ◌≤◌, ◌<◌}
use native.Mathlib.Omega.{arith}
use native.Mathlib.Decide.{ℕ_discrete}
use lib.ListN.{length, get_or, length-append}
use lib.Seq.{append_snoc, get_or-drop}
use Rattle.strings.specs.Utf8.{In, utf8, Utf8, more, row_00_7F}
use Rattle.strings.specs.Literals.{Four, four, Low, low, Escape, letter, unit, pair, two, Quoted, BadEscape, here, past_plain, past_escape, Begins, Verbatim}
use Rattle.strings.specs.Literals as literals
use Rattle.strings.specs.Decoding.{Decoded, Decoding, Never}
use Rattle.strings.proofs.DecodingLaws.{decoding_once}
use Rattle.strings.proofs.Utf8Laws.{utf8-utf8}
use Rattle.strings.proofs.CharacterLaws.{utf8_append, ascii-rest, ascii_splits}
use Rattle.strings.proofs.Escapes.{hex_byte, letter_low, escape_once, escape_rest}
use Rattle.strings.proofs.Steps.{escape_short, escape_scalar}

pub quoted_once : {s t u : List ℕ} → Quoted s t → Quoted s u → t ≡ u
quoted_once literals.Quoted.end literals.Quoted.end = refl
quoted_once (literals.Quoted.plain h x) (literals.Quoted.plain g y) = rw (quoted_once x y)
quoted_once (literals.Quoted.plain h x) (literals.Quoted.escape e y) = absurd (h refl)
quoted_once (literals.Quoted.escape e x) (literals.Quoted.plain h y) = absurd (h refl)
quoted_once (literals.Quoted.escape e x) (literals.Quoted.escape f y) =
    let same = escape_once e f in
    rw (same.0, quoted_once x (rw (sym same.1) at y))

pub quoted_short : {s t : List ℕ} → Quoted s t → length t ≤ length s
quoted_short literals.Quoted.end = omega arith
quoted_short (literals.Quoted.plain h x) = omega (arith, quoted_short x)
quoted_short (literals.Quoted.escape {t = t} {c = c} e x) = omega (arith, escape_short e, quoted_short x, length-append (utf8 c) t)

-- The same for two insides that are equal: they are matched apart.
verbatim_alike : {q : ℕ} {s s' t u : List ℕ} → Verbatim q s t → Verbatim q s' u → s ≡ s' → t ≡ u
verbatim_alike literals.Verbatim.end literals.Verbatim.end e = refl
verbatim_alike literals.Verbatim.end (literals.Verbatim.plain g y) e = cc
verbatim_alike literals.Verbatim.end (literals.Verbatim.doubled y) e = cc
verbatim_alike literals.Verbatim.end (literals.Verbatim.alone g y) e = cc
verbatim_alike (literals.Verbatim.plain h x) literals.Verbatim.end e = cc
verbatim_alike (literals.Verbatim.plain {b = b} {s = s} h x) (literals.Verbatim.plain {b = c} {s = s'} g y) e =
    let rest : s ≡ s' = cc in let first : b ≡ c = cc in let text = verbatim_alike x y rest in cc
verbatim_alike {q} (literals.Verbatim.plain {b = b} h x) (literals.Verbatim.doubled y) e = absurd (h (let first : b ≡ q = cc in first))
verbatim_alike {q} (literals.Verbatim.plain {b = b} h x) (literals.Verbatim.alone g y) e = absurd (h (let first : b ≡ q = cc in first))
verbatim_alike (literals.Verbatim.doubled x) literals.Verbatim.end e = cc
verbatim_alike {q} (literals.Verbatim.doubled x) (literals.Verbatim.plain {b = b} g y) e = absurd (g (let first : b ≡ q = cc in first))
verbatim_alike (literals.Verbatim.doubled {s = s} x) (literals.Verbatim.doubled {s = s'} y) e =
    let rest : s ≡ s' = cc in let text = verbatim_alike x y rest in cc
verbatim_alike {q} (literals.Verbatim.doubled {s = s} x) (literals.Verbatim.alone {s = s'} g y) e =
    let rest : q ∷ s ≡ s' = cc in absurd (g (subst (Begins q) rest refl))
verbatim_alike (literals.Verbatim.alone h x) literals.Verbatim.end e = cc
verbatim_alike {q} (literals.Verbatim.alone h x) (literals.Verbatim.plain {b = b} g y) e = absurd (g (let first : b ≡ q = cc in first))
verbatim_alike {q} (literals.Verbatim.alone {s = s} h x) (literals.Verbatim.doubled {s = s'} y) e =
    let rest : q ∷ s' ≡ s = cc in absurd (h (subst (Begins q) rest refl))
verbatim_alike (literals.Verbatim.alone {s = s} h x) (literals.Verbatim.alone {s = s'} g y) e =
    let rest : s ≡ s' = cc in let text = verbatim_alike x y rest in cc

pub verbatim_once : {q : ℕ} {s t u : List ℕ} → Verbatim q s t → Verbatim q s u → t ≡ u
verbatim_once x y = verbatim_alike x y refl

pub verbatim_short : {q : ℕ} {s t : List ℕ} → Verbatim q s t → length t ≤ length s
verbatim_short literals.Verbatim.end = omega arith
verbatim_short (literals.Verbatim.plain h x) = omega (arith, verbatim_short x)
verbatim_short (literals.Verbatim.doubled x) = omega (arith, verbatim_short x)
verbatim_short (literals.Verbatim.alone h x) = omega (arith, verbatim_short x)

-- Every inside of a verbatim literal has a text: `verbatim` never refuses.
pub verbatim_always : (q : ℕ) (s : List ℕ) → (t : List ℕ) × Verbatim q s t
verbatim_always q [] = ([], literals.Verbatim.end)
verbatim_always q (b ∷ []) = last (ℕ_discrete b q)
  where
    last : Dec (b ≡ q) → (t : List ℕ) × Verbatim q (b ∷ []) t
    last (yes e) = (q ∷ [], rw e (literals.Verbatim.alone (λ x. x) literals.Verbatim.end))
    last (no h) = (b ∷ [], literals.Verbatim.plain h literals.Verbatim.end)
verbatim_always q (b ∷ d ∷ s) = by (ℕ_discrete b q) (ℕ_discrete d q) (verbatim_always q s) (verbatim_always q (d ∷ s))
  where
    by : Dec (b ≡ q) → Dec (d ≡ q) → (t : List ℕ) × Verbatim q s t → (t : List ℕ) × Verbatim q (d ∷ s) t → (t : List ℕ) × Verbatim q (b ∷ d ∷ s) t
    by (no h) x rest after = (b ∷ after.0, literals.Verbatim.plain h after.1)
    by (yes e) (yes f) rest after = (q ∷ rest.0, rw (e, f) (literals.Verbatim.doubled rest.1))
    by (yes e) (no h) rest after = (q ∷ after.0, rw e (literals.Verbatim.alone h after.1))

-- ---- UTF-8

-- What was read plain so far stands before both: a longer character's bytes are read one by one.
four_utf8 : {s r : List ℕ} {n : ℕ} → Four s n r → Utf8 s → Utf8 r
four_utf8 (four a b c d) u =
    ascii-rest (ascii-rest (ascii-rest (ascii-rest u (omega (arith, hex_byte a))) (omega (arith, hex_byte b))) (omega (arith, hex_byte c))) (omega (arith, hex_byte d))

escape_utf8 : {s r : List ℕ} {c : ℕ} → Escape s c r → Utf8 s → Utf8 r
escape_utf8 (letter h) u = ascii-rest u (omega (arith, letter_low h))
escape_utf8 (unit f g) u = four_utf8 f (ascii-rest u (omega arith))
escape_utf8 (pair f g (low h k)) u = four_utf8 h (ascii-rest (ascii-rest (four_utf8 f (ascii-rest u (omega arith))) (omega arith)) (omega arith))
escape_utf8 (two h g) u = ascii-rest (ascii-rest (ascii-rest u (omega arith)) (omega (arith, hex_byte h))) (omega (arith, hex_byte g))

quoted_on : {s t : List ℕ} → Quoted s t → (p : List ℕ) → Utf8 (p ++ s) → Utf8 (p ++ t)
quoted_on literals.Quoted.end p u = u
quoted_on (literals.Quoted.plain {b} {s} {t} h x) p u = rw append_snoc at (quoted_on x (p ++ (b ∷ [])) (rw append_snoc u))
quoted_on (literals.Quoted.escape {c = c} e x) p u =
    let parts = ascii_splits p u (omega arith) in
    utf8_append parts.0 (utf8_append (utf8-utf8 c (escape_scalar e)) (quoted_on x [] (escape_utf8 e parts.1)))

pub quoted-utf8 : {s t : List ℕ} → Quoted s t → Utf8 s → Utf8 t
quoted-utf8 x u = quoted_on x [] u

verbatim_on : {q : ℕ} {s t : List ℕ} → q < 0x80 → Verbatim q s t → (p : List ℕ) → Utf8 (p ++ s) → Utf8 (p ++ t)
verbatim_on h literals.Verbatim.end p u = u
verbatim_on h (literals.Verbatim.plain {b} {s} {t} g x) p u = rw append_snoc at (verbatim_on h x (p ++ (b ∷ [])) (rw append_snoc u))
verbatim_on {q} h (literals.Verbatim.doubled x) p u =
    let parts = ascii_splits p u h in
    let one : In 0x00 0x7F q = omega arith in
    utf8_append parts.0 (more (row_00_7F one) (verbatim_on h x [] (ascii-rest parts.1 h)))
verbatim_on {q} h (literals.Verbatim.alone g x) p u = rw append_snoc at (verbatim_on h x (p ++ (q ∷ [])) (rw append_snoc u))

pub verbatim-utf8 : {q : ℕ} {s t : List ℕ} → q < 0x80 → Verbatim q s t → Utf8 s → Utf8 t
verbatim-utf8 h x u = verbatim_on h x [] u

-- ---- the first bad escape

-- An inside that has a text has none.
pub bad_escape_no_text : {s t : List ℕ} {n : ℕ} → Quoted s t → BadEscape s n → ⊥
bad_escape_no_text {n = n} literals.Quoted.end x4 = elim x4 [ ]
bad_escape_no_text (literals.Quoted.plain h x) (here f) = h refl
bad_escape_no_text (literals.Quoted.plain h x) (past_plain g y) = bad_escape_no_text x y
bad_escape_no_text (literals.Quoted.plain h x) (past_escape k e l y) = h refl
bad_escape_no_text (literals.Quoted.escape e x) (here f) = f _ _ e
bad_escape_no_text (literals.Quoted.escape e x) (past_plain g y) = g refl
bad_escape_no_text (literals.Quoted.escape e x) (past_escape k {n = n} f l y) = bad_escape_no_text x (subst (λ (r : List ℕ). BadEscape r n) (escape_once f e).1 y)

-- It has one at most.
pub bad_escape_once : {s : List ℕ} {n m : ℕ} → BadEscape s n → BadEscape s m → n ≡ m
bad_escape_once (here f) (here g) = refl
bad_escape_once (here f) (past_plain h y) = absurd (h refl)
bad_escape_once (here f) (past_escape k e l y) = absurd (f _ _ e)
bad_escape_once (past_plain h x) (here g) = absurd (h refl)
bad_escape_once (past_plain h x) (past_plain g y) = ap suc (bad_escape_once x y)
bad_escape_once (past_plain h x) (past_escape k e l y) = absurd (h refl)
bad_escape_once (past_escape k e l x) (here g) = absurd (g _ _ e)
bad_escape_once (past_escape k e l x) (past_plain h y) = absurd (h refl)
bad_escape_once (past_escape k e l x) (past_escape j {n = m} f h y) =
    let same = (escape_once f e).1 in
    omega (arith, bad_escape_once x (subst (λ (r : List ℕ). BadEscape r m) same y), ap length same)

-- It is a backslash of the inside.
pub bad_escape_within : {s : List ℕ} {n : ℕ} → BadEscape s n → (n < length s) × (get_or s n 0 ≡ 0x5C)
bad_escape_within (here f) = (omega arith, refl)
bad_escape_within (past_plain h x) = let w = bad_escape_within x in (omega (arith, w.0), w.1)
bad_escape_within (past_escape k {s = s} {n = n} e l x) =
    let w = bad_escape_within x in
    (omega (arith, w.0), sym (get_or-drop k s n 0) ∙ ap (λ (r : List ℕ). get_or r n 0) (sym (escape_rest e k l)) ∙ w.1)

-- ---- no second answer

module _ {s out : List ℕ} {r r' : Decoded} {o o' : List ℕ} where
  pub unescape_once : Decoding (Quoted s) (BadEscape s) out r o → Decoding (Quoted s) (BadEscape s) out r' o' → (r ≡ r') × (o ≡ o')
  unescape_once = decoding_once (λ t u x y. quoted_once x y) (λ n m x y. bad_escape_once x y) (λ t n x y. bad_escape_no_text x y)

  pub verbatim_answer_once : {q : ℕ} → Decoding (Verbatim q s) Never out r o → Decoding (Verbatim q s) Never out r' o' → (r ≡ r') × (o ≡ o')
  verbatim_answer_once = decoding_once (λ t u x y. verbatim_once x y) (λ n m x y. absurd x) (λ t n x y. y)
