-- In one of some ranges: the test, to and from.
-- Assumes nothing.

use mathlib.Core.Bool.{◌&&◌}
use mathlib.Core.List.{List, [], ◌∷◌}
use mathlib.Core.Logic.{◌⊎◌, inl, inr, ⊎_elim}
use Prim.Native.Nat.{ℕ, ◌≤◌}
use lib.Dec.{T, leb, le→leb, leb→le}
use Rattle.regexes.specs.Regex.{Range, ◌to◌, within}
use Rattle.regexes.proofs.Bools.{and, and_left, and_right, or_left, or_right_lem, or_cases}

-- In one of the ranges.
abbrev pub In : List Range → ℕ → Type 0
In [] p = ⊥
In (a to b ∷ rs) p = ((a ≤ p) × (p ≤ b)) ⊎ In rs p

pub within_from : (rs : List Range) (p : ℕ) → In rs p → T (within rs p)
within_from [] p h = absurd h
within_from (a to b ∷ rs) p (inl h) = or_left (leb a p && leb p b) (within rs p) (and (leb a p) (leb p b) (le→leb a p h.0) (le→leb p b h.1))
within_from (a to b ∷ rs) p (inr h) = or_right_lem (leb a p && leb p b) (within rs p) (within_from rs p h)

pub within_to : (rs : List Range) (p : ℕ) → T (within rs p) → In rs p
within_to [] p t = absurd t
within_to (a to b ∷ rs) p t =
    ⊎_elim
    (λ x. inl (leb→le a p (and_left (leb a p) (leb p b) x), leb→le p b (and_right (leb a p) (leb p b) x)))
    (λ x. inr (within_to rs p x))
    (or_cases (leb a p && leb p b) (within rs p) t)
