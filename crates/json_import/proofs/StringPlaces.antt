-- How far a string has come: the invariant of its loop, and what it ends in.
-- Assumes nothing.
use mathlib.Core.Path.{◌≡◌, refl, sym, ap, subst, ◌∙◌}
use mathlib.Core.Bool.{Bool, true, false}
use mathlib.Core.List.{List, [], ◌∷◌, ◌++◌}
use Prim.Native.Nat.{ℕ, ◌+◌, ◌≤◌, ◌<◌}
use native.Mathlib.Omega.{arith}
use lib.ListN.{length, get_or, set, length-append}
use lib.Seq.{sets, length-sets}
use borrow.Author.Tests.{ne_eqb}
use Rattle.strings.specs.Utf8.{utf8}
use Rattle.strings.proofs.Stores.{sets_append}
use Rattle.grammar.specs.Tags.{STRING}
use Rattle.grammar.specs.Image.{two, payload, entry}
use Rattle.grammar.specs.Writing.{Wrote}
use Rattle.grammar.proofs.WritingLaws.{head_last}
use Rattle.grammar.specs.Answer.{refused}
use Rattle.json_import.specs.Tokens.{is_plain}
use Rattle.json_import.specs.Json.{NOT_JSON}
use Rattle.json_import.specs.Machine.{Frame, Use, Escape, slash, chars, escape, closed, step, finish}
use Rattle.json_import.specs.Inner.{Leads, EscapeTo, code, stops, StringTo, string, cut}
use Rattle.std.specs.Prelude.{Result, Ok, Err}
use Rattle.json_import.specs.declared.text.Escaped.{Escaped}
use Rattle.json_import.specs.declared.Fault.{Fault}
use Rattle.json_import.specs.declared.Fault.TheVariants.{NotJson}
use Rattle.json_import.proofs.Escapes.{plain_step, other_step, slash_step}
use Rattle.json_import.proofs.Places.{byte_inside, leads_here, leads_on, leads_stick, one_on, sticks_here}

pub wrote_size : {out out₁ bytes : List ℕ} {w w₁ : ℕ} → Wrote out w bytes w₁ out₁ → length out₁ ≡ length out
wrote_size {out} {out₁} {bytes} {w} x = ap length x.stored ∙ length-sets out w bytes

-- The string whose first quote stands at `at` is read up to i, and its text so far stands in the output behind the room for its record's head.
pub record CharsSoFar (s out₀ : List ℕ) (at w i n : ℕ) (out : List ℕ) : Type 0 where
  pub read : List ℕ
  pub count : n ≡ w + 3 + length read
  pub stored : out ≡ sets out₀ (w + 3) read
  pub short : at + 1 + length read ≤ i
  pub within : i ≤ length s
  pub leads : (us : Use) (fs : List Frame) → Leads s (chars [] us fs) (at + 1) (chars read us fs) i

pub chars_start : (s out : List ℕ) (at w : ℕ) → at < length s → CharsSoFar s out at w (at + 1) (w + 3) out
chars_start s out at w h =
    record { read = []; count = omega arith; stored = refl; short = omega arith; within = omega (arith, h); leads = λ us fs. leads_here (chars [] us fs) (at + 1) }

quote_step : (deep : ℕ → Bool) (large : List ℕ → Bool) (w : List ℕ) (us : Use) (fs : List Frame) (i : ℕ) → step deep large (chars w us fs) i 0x22 ≡ closed w us (i + 1) fs
unfolding step
quote_step deep large w us fs i = refl

endless : (deep : ℕ → Bool) (large : List ℕ → Bool) (w : List ℕ) (us : Use) (fs : List Frame) (i : ℕ) → finish deep large (chars w us fs) i ≡ refused NOT_JSON i i 0
unfolding finish
endless deep large w us fs i = refl

module _ {s out₀ out : List ℕ} {at w i n : ℕ} (x : CharsSoFar s out₀ at w i n out) where
  pub same_size : length out ≡ length out₀
  same_size = ap length x.stored ∙ length-sets out₀ (w + 3) x.read

  -- More of the text, from more bytes.
  more : (piece out₁ : List ℕ) (j m : ℕ) → i + length piece ≤ j → j ≤ length s → m ≡ n + length piece → out₁ ≡ sets out n piece
      → ((us : Use) (fs : List Frame) → Leads s (chars x.read us fs) i (chars (x.read ++ piece) us fs) j) → CharsSoFar s out₀ at w j m out₁
  more piece out₁ j m fits within e stored leads =
      record {
        read = x.read ++ piece;
        count = omega (arith, x.count, e, length-append x.read piece);
        stored = stored ∙ ap (λ (l : List ℕ). sets l n piece) x.stored ∙ sets_append out₀ (w + 3) n x.read piece x.count;
        short = omega (arith, x.short, fits, length-append x.read piece);
        within = within;
        leads = λ us fs. leads_on (x.leads us fs) (leads us fs);
      }

  -- Where neither a byte that stands for itself stands, nor a quote, nor a backslash.
  pub chars_stuck : (i < length s → is_plain (get_or s i 0) ≡ false) → (get_or s i 0 ≡ 0x22 → ⊥) → (get_or s i 0 ≡ 0x5C → ⊥) → (out₁ : List ℕ) → StringTo s out₀ at w (Err (NotJson i)) out₁
  chars_stuck p q b out₁ =
      cut
      (λ us fs.
      leads_stick (x.leads us fs)
      (sticks_here (chars x.read us fs) i (λ deep large. endless deep large x.read us fs i)
      (λ l deep large. other_step deep large x.read us fs i (get_or s i 0) (p l) (ne_eqb (get_or s i 0) 0x22 q) (ne_eqb (get_or s i 0) 0x5C b))))

  module _ (h : i < length s) where
    pub chars_plain : (out₁ : List ℕ) → is_plain (get_or s i 0) ≡ true → out₁ ≡ set out n (get_or s i 0) → CharsSoFar s out₀ at w (i + 1) (n + 1) out₁
    chars_plain out₁ p e =
        more (get_or s i 0 ∷ []) out₁ (i + 1) (n + 1) (omega arith) (omega (arith, h)) (omega arith) e
        (λ us fs.
        one_on (chars x.read us fs) (chars (x.read ++ (get_or s i 0 ∷ [])) us fs) i (i + 1) h refl
        (λ deep large. plain_step deep large x.read us fs i (get_or s i 0) p))

    slash_on : get_or s i 0 ≡ 0x5C → (us : Use) (fs : List Frame) → Leads s (chars x.read us fs) i (escape slash x.read us fs) (i + 1)
    slash_on e us fs =
        one_on (chars x.read us fs) (escape slash x.read us fs) i (i + 1) h refl
        (λ deep large. ap (λ (b : ℕ). step deep large (chars x.read us fs) i b) e ∙ slash_step deep large x.read us fs i)

    pub chars_escape : (out₁ : List ℕ) (e : Escaped) (m : ℕ) → get_or s i 0 ≡ 0x5C → EscapeTo s slash 1 (i + 1) (Ok e) → out₁ ≡ sets out n (utf8 e.code) → m ≡ n + length (utf8 e.code)
        → CharsSoFar s out₀ at w e.end m out₁
    chars_escape out₁ e m k (code on within below short leads) p q =
        more (utf8 e.code) out₁ e.end m (omega (arith, short)) within q p (λ us fs. leads_on (slash_on k us fs) (leads x.read us fs))

    pub chars_stops : {f : Fault} (out₁ : List ℕ) → get_or s i 0 ≡ 0x5C → EscapeTo s slash 1 (i + 1) (Err f) → StringTo s out₀ at w (Err f) out₁
    chars_stops out₁ e (stops sticks) = cut (λ us fs. leads_stick (x.leads us fs) (leads_stick (slash_on e us fs) (sticks x.read us fs)))

    pub chars_closed : (out₁ : List ℕ) (m w₁ : ℕ) → get_or s i 0 ≡ 0x22 → m ≡ length x.read → Wrote out w (STRING ∷ two m) w₁ out₁ → StringTo s out₀ at w (Ok (record { at = i + 1; written = n })) out₁
    unfolding entry payload
    chars_closed out₁ m w₁ e k v =
        string {p = record { at = i + 1; written = n }} x.read (omega (arith, h)) (omega (arith, x.short))
        (λ us fs.
        leads_on (x.leads us fs)
        (one_on (chars x.read us fs) (closed x.read us (i + 1) fs) i (i + 1) h refl
        (λ deep large. ap (λ (b : ℕ). step deep large (chars x.read us fs) i b) e ∙ quote_step deep large x.read us fs i)))
        (record {
          to = omega (arith, x.count);
          stored = v.stored ∙ ap (λ (l : ℕ). sets out w (STRING ∷ two l)) k ∙ ap (λ (l : List ℕ). sets l w (STRING ∷ two (length x.read))) x.stored
              ∙ head_last out₀ w (STRING ∷ two (length x.read)) x.read;
        })

-- The backslash is the byte that the code has read, and an escape's answer is one or the other.
module _ {s out₀ out : List ℕ} {at w i n b : ℕ} {r : Result Escaped Fault} where
  pub string_stops : {f : Fault} {out₁ : List ℕ} → CharsSoFar s out₀ at w i n out → b ≡ get_or s i 0 → b ≡ 0x5C → EscapeTo s slash 1 (i + 1) r → r ≡ Err f → StringTo s out₀ at w (Err f) out₁
  string_stops x p q y k =
      let there = sym p ∙ q in
      chars_stops x (byte_inside s i (λ z. omega (arith, z, there))) _ there (subst (λ r. EscapeTo s slash 1 (i + 1) r) k y)

  pub string_goes_on : {e : Escaped} {out₁ : List ℕ} {m : ℕ} → CharsSoFar s out₀ at w i n out → b ≡ get_or s i 0 → b ≡ 0x5C → EscapeTo s slash 1 (i + 1) r → r ≡ Ok e → out₁ ≡ sets out n (utf8 e.code)
      → m ≡ n + length (utf8 e.code) → CharsSoFar s out₀ at w e.end m out₁
  string_goes_on x p q y k put to =
      let there = sym p ∙ q in
      chars_escape x (byte_inside s i (λ z. omega (arith, z, there))) _ _ _ there (subst (λ r. EscapeTo s slash 1 (i + 1) r) k y) put to

pub found_code : {s : List ℕ} {x : Escape} {k at : ℕ} {e : Escaped} → EscapeTo s x k at (Ok e) → (e.code < 0x110000) × (at < e.end)
found_code (code on within below short leads) = (below, on)
