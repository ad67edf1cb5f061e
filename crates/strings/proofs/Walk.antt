-- How far a decoder has come, whatever its rules: the invariant of both loops.
-- Assumes nothing.
use mathlib.Core.Path.{◌≡◌, refl, sym, ◌∙◌, ap, subst}
use mathlib.Core.List.{List, [], ◌++◌, append_assoc, append-nil}
use Prim.Native.Nat.{ℕ, ◌+◌, ◌-◌, ◌≤◌, ◌<◌}
use native.Mathlib.Omega.{arith}
use native.Mathlib.Nat.{zero-add}
use lib.ListN.{length, drop, replicate, length-append, drop_of_length-le}
use lib.Seq.{sets, length-sets}
use Rattle.strings.specs.Decoding.{Decoding, text, refused}
use Rattle.std.specs.Prelude.{Ok, Err}
use Rattle.strings.proofs.Stores.{sets_append}

-- The first i bytes of s are read, and what they mean is stored: `Means` of the rest goes on to `Means` of the whole, and a `Fault` of the rest is
-- one of the whole, i bytes further on.
pub record Walked (Means : List ℕ → List ℕ → Type 0) (Fault : List ℕ → ℕ → Type 0) (s out₀ : List ℕ) (i n : ℕ) (out : List ℕ) : Type 0 where
  pub done : List ℕ
  pub count : n ≡ length done
  pub stored : out ≡ sets out₀ 0 done
  pub short : n ≤ i
  pub within : i ≤ length s
  pub onward : (t : List ℕ) → Means (drop i s) t → Means s (done ++ t)
  pub further : (k : ℕ) → Fault (drop i s) k → Fault s (i + k)

module _ (Means : List ℕ → List ℕ → Type 0) (Fault : List ℕ → ℕ → Type 0) (s out₀ : List ℕ) where
  pub start : Walked Means Fault s out₀ 0 0 out₀
  start =
      record {
        done = [];
        count = refl;
        stored = refl;
        short = omega arith;
        within = omega arith;
        onward = λ t m. m;
        further = λ k f. subst (Fault s) (sym (zero-add k)) f;
      }

  module _ {i n : ℕ} {out : List ℕ} (w : Walked Means Fault s out₀ i n out) where
    -- the bytes from i to j mean the piece
    pub step :
        (piece : List ℕ) (j m : ℕ) (out₁ : List ℕ) → i < j → j ≤ length s → length piece ≤ j - i → m ≡ n + length piece → out₁ ≡ sets out n piece →
        ((t : List ℕ) → Means (drop j s) t → Means (drop i s) (piece ++ t)) → ((k : ℕ) → Fault (drop j s) k → Fault (drop i s) (j - i + k)) →
        Walked Means Fault s out₀ j m out₁
    step piece j m out₁ on in-s fits q e go far =
        record {
          done = w.done ++ piece;
          count = omega (arith, w.count, length-append w.done piece);
          stored = e ∙ ap (λ (l : List ℕ). sets l n piece) w.stored ∙ sets_append out₀ 0 n w.done piece (omega (arith, w.count));
          short = omega (arith, w.short);
          within = in-s;
          onward = λ t x. rw append_assoc (w.onward (piece ++ t) (go t x));
          further = λ k f. let p : i + (j - i + k) ≡ j + k = omega arith in subst (Fault s) p (w.further (j - i + k) (far k f));
        }

    pub same_size : length out ≡ length out₀
    same_size = ap length w.stored ∙ length-sets out₀ 0 w.done

    pub ended : length s ≤ i → Means [] [] → Decoding (Means s) (Fault s) out₀ (Ok n) out
    ended h e =
        let whole : Means s w.done = rw append-nil at (w.onward [] (rw (drop_of_length-le s h) e)) in
        rw (w.count, w.stored) (text whole)

    pub broke : (out₁ : List ℕ) → out₁ ≡ replicate (length out) 0 → Fault (drop i s) 0 → Decoding (Means s) (Fault s) out₀ (Err (record { at = i })) out₁
    broke out₁ e f = let p : i + 0 ≡ i = omega arith in rw (e, same_size) (refused (subst (Fault s) p (w.further 0 f)))
