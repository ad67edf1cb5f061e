-- What lib.Seq lacks of lists: the rest of a list by its first element, runs of stores into an output, and what clearing leaves.
-- Assumes nothing.
use mathlib.Core.Path.{◌≡◌, sym, ◌∙◌, ap}
use mathlib.Core.List.{List, [], ◌∷◌, ◌++◌, append_assoc, append-nil}
use Prim.Native.Nat.{ℕ, suc, ◌+◌, ◌<◌}
use native.Mathlib.Omega.{arith}
use native.Mathlib.Numerals.{add-one}
use lib.ListN.{length, get_or, set, drop, replicate, length-replicate, drop_of_length-le, replicate-append-replicate}
use lib.Seq.{sets, drop-cons, set_at}

-- The list from a place on, by its first element.
pub drop-next : (s : List ℕ) (i : ℕ) → i < length s → drop i s ≡ get_or s i 0 ∷ drop (i + 1) s
drop-next s i h = rw add-one (drop-cons s i 0 h)

-- A run of stores, and then another from where it ended, is one run.
pub sets_append : (l : List ℕ) (n k : ℕ) (vs ws : List ℕ) → k ≡ n + length vs → sets (sets l n vs) k ws ≡ sets l n (vs ++ ws)
sets_append l n k [] ws e = ap (λ (j : ℕ). sets l j ws) (omega arith)
sets_append l n k (v ∷ vs) ws e = sets_append (set l n v) (suc n) k vs ws (omega arith)

-- zeros below i, and from i on what came in
unfoldable pub Zeroed : List ℕ → ℕ → List ℕ → Type 0
Zeroed out₀ i out = out ≡ replicate i 0 ++ drop i out₀

pub zeroed_next : (out₀ : List ℕ) (i : ℕ) (out : List ℕ) → i < length out₀ → Zeroed out₀ i out → Zeroed out₀ (i + 1) (set out i 0)
unfolding Zeroed
zeroed_next out₀ i out h e =
    ap (λ (l : List ℕ). set l i 0) (e ∙ ap (λ (l : List ℕ). replicate i 0 ++ l) (drop-cons out₀ i 0 h))
    ∙ set_at (replicate i 0) _ (drop (suc i) out₀) 0 i (length-replicate i 0)
    ∙ sym (append_assoc (replicate i 0) (0 ∷ []) (drop (suc i) out₀))
    ∙ ap (λ (l : List ℕ). l ++ drop (suc i) out₀) (replicate-append-replicate i 1 0)
    ∙ ap (λ (k : ℕ). replicate (i + 1) 0 ++ drop k out₀) (sym (add-one i))

pub zeroed_all : (out₀ : List ℕ) (i : ℕ) (out : List ℕ) → i ≡ length out₀ → Zeroed out₀ i out → out ≡ replicate (length out₀) 0
unfolding Zeroed
zeroed_all out₀ i out h e =
    e ∙ ap (λ (l : List ℕ). replicate i 0 ++ l) (drop_of_length-le out₀ {i = i} (omega arith)) ∙ append-nil (replicate i 0) ∙ ap (λ (k : ℕ). replicate k 0) h
