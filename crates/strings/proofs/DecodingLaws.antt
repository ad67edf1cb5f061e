-- Laws of `Decoding`, for every decoder.
-- Assumes nothing.
use mathlib.Core.Path.{◌≡◌, refl, ap}
use mathlib.Core.List.{List}
use Prim.Native.Nat.{ℕ}
use lib.ListN.{length, replicate}
use lib.Seq.{sets}
use Rattle.std.specs.Prelude.{Ok, Err}
use Rattle.strings.specs.Decoding.{Decoded, Decoding, text, refused, Missing, missing}

-- What a decoder shows at a return: the text's length and what was stored, or that there is no text and all is zero.
pub decoded :
    {Means : List ℕ → Type 0} {Fault : ℕ → Type 0} (out out' t : List ℕ) (n : ℕ) → Means t → n ≡ length t → out' ≡ sets out 0 t →
    Decoding Means Fault out (Ok n) out'
decoded out out' t n m en eo = rw (en, eo) (text m)

pub cleared :
    {Means : List ℕ → Type 0} {Fault : ℕ → Type 0} (out out' : List ℕ) (n : ℕ) → Fault n → out' ≡ replicate (length out) 0 →
    Decoding Means Fault out (Err (record { at = n })) out'
cleared out out' n f eo = rw eo (refused f)

-- Where at most one text is meant, or else one fault told, there is one answer, and one content of the output.
pub decoding_once :
    {Means : List ℕ → Type 0} {Fault : ℕ → Type 0} {out o o' : List ℕ} {r r' : Decoded} →
    ((t t' : List ℕ) → Means t → Means t' → t ≡ t') → ((n n' : ℕ) → Fault n → Fault n' → n ≡ n') → ((t : List ℕ) (n : ℕ) → Means t → Fault n → ⊥) →
    Decoding Means Fault out r o → Decoding Means Fault out r' o' → (r ≡ r') × (o ≡ o')
decoding_once one same not_both (text m) (text m') = let e = one _ _ m m' in (cc, cc)
decoding_once one same not_both (text m) (refused f) = absurd (not_both _ _ m f)
decoding_once one same not_both (refused f) (text m) = absurd (not_both _ _ m f)
decoding_once one same not_both (refused f) (refused f') = (ap (λ (n : ℕ). Err (record { at = n })) (same _ _ f f'), refl)

-- So it is of a decoder that tells no more than that there is no text.
pub missing_once :
    {Means : List ℕ → Type 0} {out o o' : List ℕ} {r r' : Decoded} → ((t t' : List ℕ) → Means t → Means t' → t ≡ t') →
    Decoding Means (Missing Means) out r o → Decoding Means (Missing Means) out r' o' → (r ≡ r') × (o ≡ o')
missing_once {Means} one d d' = decoding_once one alike not_both d d'
  where
    alike : (n n' : ℕ) → Missing Means n → Missing Means n' → n ≡ n'
    alike n n' (missing f) (missing g) = refl

    not_both : (t : List ℕ) (n : ℕ) → Means t → Missing Means n → ⊥
    not_both t n m (missing f) = f t m
