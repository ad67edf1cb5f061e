-- THE DEMANDS ON THE READER OF IMAGES, as theorems about `back`. What it promises is `ReadsBack` (specs/Images.antt): of an image and the length of the
-- lent array, which answer it gives and what it leaves in the array.
-- Assumes nothing.
use mathlib.Core.Path.{◌≡◌, refl, sym, ap, ◌∙◌}
use mathlib.Core.Bool.{Bool, cond}
use mathlib.Core.List.{List, ◌++◌}
use Prim.Native.Nat.{ℕ, ◌-◌, ◌*◌, ◌≤◌, ◌<◌}
use native.Mathlib.Omega.{arith}
use lib.Dec.{eqb}
use lib.ListN.{length, replicate, length-append, length-replicate}
use Rattle.grammar.specs.Trees.{Trees}
use Rattle.images.specs.declared.Fault.TheVariants.{Unknown, Malformed, Children, Underived, Short}
use Rattle.std.proofs.Common.{Ok, Err}
use Rattle.images.specs.declared.fields.Fields.{Fields}
use Rattle.images.specs.Images.{Answer, Accepted, Refused, records, links, needed, ReadsBack}
use Rattle.images.specs.Numbers.{Numbers, numbers, answered}
use Rattle.images.proofs.LinkLaws.{links-length}
use Rattle.images.proofs.WalkLaws.{records-image}
use Rattle.images.proofs.Sole.{no_tree, reads_back_once}
use contract.Lifetimes.{Lfts}
use borrow.Fn.Kinds.{Dens}
use Rattle.images.proofs.back.Kinds.{ps}
use Rattle.images.proofs.back.Reads as reads
use Rattle.images.proofs.back.Statement.{statement}
use Rattle.images.proofs.back.Met.{met}

-- ── There is always an answer, and never a second ─────────────────────────────────────────────────

-- Each call stays in bounds and ends, and what it promises is so.
pub total : {M : Type 1} → statement M
total = met

-- It asks nothing of its caller.
pub asks_nothing : (κs : Lfts 2) (a : Dens κs ps) → reads.Asked κs a
asks_nothing κs a = tt

-- No second answer and no second array meet the contract.
pub no_second : {bytes : List ℕ} {room : ℕ} {a a' : Answer} {links links' : List ℕ} → ReadsBack bytes room a links → ReadsBack bytes room a' links' → (a ≡ a') × (links ≡ links')
no_second = reads_back_once

-- ── Which answer it is ────────────────────────────────────────────────────────────────────────────

module _ {bytes : List ℕ} {room : ℕ} {a : Answer} {array : List ℕ} (x : ReadsBack bytes room a array) where
  -- An accepted image is answered with its tree, one that is refused with its refusal; but first of all, an array that is too short with 24.
  pub accepted_is_tree : {t : Trees} → needed bytes ≤ room → Accepted bytes t → (a ≡ Ok (records t)) × (array ≡ links 0 0 t ++ replicate (room - 2 * records t) 0)
  accepted_is_tree h y = reads_back_once x (ReadsBack.accepted h y)

  pub refused_is_refusal : {b : Answer} → needed bytes ≤ room → Refused bytes b → (a ≡ b) × (array ≡ replicate room 0)
  refused_is_refusal h y = reads_back_once x (ReadsBack.refused h y)

  pub short_is_first : room < needed bytes → (a ≡ Err (Short (needed bytes))) × (array ≡ replicate room 0)
  short_is_first h = reads_back_once x (ReadsBack.short h)

-- A tree is answered for an accepted image only.
pub tree_is_accepted : {bytes array : List ℕ} {room n : ℕ} → ReadsBack bytes room (Ok n) array
    → (t : Trees) × Accepted bytes t × (records t ≡ n) × (array ≡ links 0 0 t ++ replicate (room - 2 * records t) 0)
tree_is_accepted {bytes} {array} {room} {n} x = by room n array x
  where
    by : (room n : ℕ) (array : List ℕ) → ReadsBack bytes room (Ok n) array
        → (t : Trees) × Accepted bytes t × (records t ≡ n) × (array ≡ links 0 0 t ++ replicate (room - 2 * records t) 0)
    by room n array (ReadsBack.accepted {t} h y) = (t, y, refl, refl)
    by room n array (ReadsBack.refused h y) = absurd (omega (arith, no_tree y))

-- And any other answer, where the array is long enough, for one that is refused so.
pub refusal_is_refused : {bytes array : List ℕ} {room : ℕ} {a : Answer} → ReadsBack bytes room a array → needed bytes ≤ room → ((n : ℕ) → a ≡ Ok n → ⊥) → Refused bytes a
refusal_is_refused {bytes} {array} {room} {a} x = by room a array x
  where
    by : (room : ℕ) (a : Answer) (array : List ℕ) → ReadsBack bytes room a array → needed bytes ≤ room → ((n : ℕ) → a ≡ Ok n → ⊥) → Refused bytes a
    by room a array (ReadsBack.short h) g n = absurd (omega arith)
    by room a array (ReadsBack.accepted {t} h y) g n = absurd (n (records t) refl)
    by room a array (ReadsBack.refused h y) g n = y

-- After every other answer the array is all zero.
pub zero_after_refusal : {bytes array : List ℕ} {room : ℕ} {a : Answer} → ReadsBack bytes room a array → ((n : ℕ) → a ≡ Ok n → ⊥) → array ≡ replicate room 0
zero_after_refusal {bytes} {array} {room} {a} x = by room a array x
  where
    by : (room : ℕ) (a : Answer) (array : List ℕ) → ReadsBack bytes room a array → ((n : ℕ) → a ≡ Ok n → ⊥) → array ≡ replicate room 0
    by room a array (ReadsBack.short h) n = refl
    by room a array (ReadsBack.accepted {t} h y) n = absurd (n (records t) refl)
    by room a array (ReadsBack.refused h y) n = refl

-- The array is as long as it was: there is room for the links of every image that is accepted.
pub array-length : {bytes array : List ℕ} {room : ℕ} {a : Answer} → ReadsBack bytes room a array → length array ≡ room
array-length {bytes} {array} {room} {a} x = by room a array x
  where
    by : (room : ℕ) (a : Answer) (array : List ℕ) → ReadsBack bytes room a array → length array ≡ room
    by room a array (ReadsBack.short h) = length-replicate {A = ℕ} room 0
    by room a array (ReadsBack.accepted {t} h y) =
        let many : records t * 3 ≤ length bytes = omega (arith, records-image t, ap length y.written) in
        let zeros = replicate {A = ℕ} (room - 2 * records t) 0 in
        omega (arith, length-append (links 0 0 t) zeros, links-length 0 0 t, length-replicate {A = ℕ} (room - 2 * records t) 0)
    by room a array (ReadsBack.refused h y) = length-replicate {A = ℕ} room 0

-- ── An answer in 02's numbers ─────────────────────────────────────────────────────────────────────

-- The case that has these numbers.
case_of : Numbers → Answer
case_of n = by (eqb n.number)
  where
    by : (ℕ → Bool) → Answer
    by is =
        cond (is 0) (Ok n.count)
        (cond (is 13) (Err (Unknown n.offset))
        (cond (is 14) (Err (Malformed n.offset))
        (cond (is 15) (Err (Children n.offset))
        (cond (is 16) (Err (Underived n.offset))
        (Err (Short n.count))))))

case_back : (a : Answer) → case_of (numbers a) ≡ a
unfolding numbers case_of
case_back (Ok n) = refl
case_back (Err (Unknown at)) = refl
case_back (Err (Malformed at)) = refl
case_back (Err (Children at)) = refl
case_back (Err (Underived at)) = refl
case_back (Err (Short n)) = refl

-- No two answers have the same numbers.
pub same_case : (a a' : Answer) → numbers a ≡ numbers a' → a ≡ a'
same_case a a' e = sym (case_back a) ∙ ap case_of e ∙ case_back a'

-- No second fields meet the contract of `numbers`.
pub numbers_once : (a : Answer) {f g : Fields} → answered f ≡ numbers a → answered g ≡ numbers a → f ≡ g
numbers_once a p q = ap fields_of (p ∙ sym q)
  where
    fields_of : Numbers → Fields
    fields_of n = record { number = n.number; offset = n.offset; count = n.count }
