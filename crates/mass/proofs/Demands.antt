-- THE DEMANDS ON THE PLANNER'S LIST, as theorems about `mass::list`. What it promises is `MassDepth` (specs/Mass.antt): of an image, the lengths of the
-- lent array and of the lent list, which answer it gives, and what it leaves in both.
-- Assumes nothing.
use mathlib.Core.Path.{◌≡◌, refl, sym, ap, subst, ◌∙◌}
use mathlib.Core.Bool.{Bool, cond}
use mathlib.Core.List.{List, ◌++◌}
use Prim.Native.Nat.{ℕ, ◌-◌, ◌*◌, ◌<◌}
use native.Mathlib.Omega.{arith}
use lib.Dec.{eqb}
use lib.ListN.{length, replicate}
use Rattle.grammar.specs.Trees.{Trees}
use Rattle.images.specs.Images.{Accepted}
use Rattle.images.specs.Numbers.{Numbers}
use Rattle.images.specs.declared.Fault.TheVariants.{Unknown, Malformed, Children, Underived, Short}
use Rattle.mass.specs.declared.Fault.TheVariants.{Image, ListShort}
use Rattle.std.proofs.Common.{Ok, Err}
use Rattle.images.specs.Numbers as back-numbers
use Rattle.mass.specs.Numbers as in-numbers
use Rattle.mass.specs.Mass.{Answer, Listing, offset, numbers, row, Due, In, Planned, Answers, MassDepth}
use Rattle.images.proofs.Sole.{one_tree}
use Rattle.mass.proofs.Sole.{answers_once}
use Rattle.mass.proofs.RowLaws.{row_in, in_row, rows_ascend}
use contract.Lifetimes.{Lfts}
use borrow.Fn.Kinds.{Dens}
use Rattle.mass.proofs.list.Kinds.{ps}
use Rattle.mass.proofs.list.Reads as reads
use Rattle.mass.proofs.list.Statement.{statement}
use Rattle.mass.proofs.list.Met.{met}

-- ── There is always an answer, and never a second ─────────────────────────────────────────────────

-- Each call stays in bounds and ends, and what it promises is so.
pub total : {M : Type 1} → statement M
total = met

-- It asks nothing of its caller.
pub asks_nothing : (κs : Lfts 3) (a : Dens κs ps) → reads.Asked κs a
asks_nothing κs a = tt

-- No second answer, array or list meets the contract.
pub no_second : {bytes : List ℕ} {room size : ℕ} {a b : Answer} {array array' list list' : List ℕ} → MassDepth bytes room size a array list → MassDepth bytes room size b array' list'
    → (a ≡ b) × (array ≡ array') × (list ≡ list')
no_second x y = let e = answers_once x.answers y.answers in (e.0, x.zeros ∙ sym y.zeros, e.1)

-- ── The list ──────────────────────────────────────────────────────────────────────────────────────

-- After 0 the list holds the planner's list of the image's tree, and zeros behind it.
pub record Holding (size n : ℕ) (t : Trees) (list : List ℕ) : Type 0 where
  pub ls : List Listing
  pub planned : Planned t ls
  pub counted : n ≡ length ls
  pub held : list ≡ numbers ls ++ replicate (size - 4 * n) 0

holding_of : {bytes list : List ℕ} {room size n : ℕ} {t : Trees} → Answers bytes room size (Ok n) list → Accepted bytes t → Holding size n t list
holding_of {bytes} {list} {room} {size} {n} {t} x a = by size n list x
  where
    by : (size n : ℕ) (list : List ℕ) → Answers bytes room size (Ok n) list → Holding size n t list
    by size n list (Answers.listed {ls = ls} h y p s) = record { ls = ls; planned = subst (λ (u : Trees). Planned u ls) (one_tree y a) p; counted = refl; held = refl }

module _ {bytes : List ℕ} {room size n : ℕ} {array list : List ℕ} {t : Trees} (x : MassDepth bytes room size (Ok n) array list) (accepted : Accepted bytes t) where
  pub holding : Holding size n t list
  holding = holding_of x.answers accepted

  row_held : (i : ℕ) → row (numbers holding.ls ++ replicate (size - 4 * n) 0) i ≡ row list i
  row_held i = ap (λ (l : List ℕ). row l i) (sym holding.held)

  -- COMPLETE: every object that is to be listed has a row.
  pub complete : (l : Listing) → Due t l → (i : ℕ) × (i < n) × (row list i ≡ l)
  complete l d =
      let h = holding in
      let r = in_row (replicate (size - 4 * n) 0) h.ls (h.planned.complete l d) in
      (r.0, omega (arith, r.1, h.counted), sym (row_held r.0) ∙ r.2)

  -- SOUND: no other has one.
  pub sound : (i : ℕ) → i < n → Due t (row list i)
  sound i g =
      let h = holding in
      h.planned.sound (row list i) (subst (λ (l : Listing). In l h.ls) (row_held i) (row_in (replicate (size - 4 * n) 0) h.ls i (omega (arith, h.counted))))

  -- IN ORDER: rows stand in the order of the image.
  pub in_order : (i j : ℕ) → i < j → j < n → offset (row list i) < offset (row list j)
  in_order i j f g =
      let h = holding in
      let o = rows_ascend (replicate (size - 4 * n) 0) h.ls h.planned.in_order i j f (omega (arith, h.counted)) in
      subst (λ (l : Listing). offset l < offset (row list j)) (row_held i) (subst (λ (l : Listing). offset (row (numbers h.ls ++ replicate (size - 4 * n) 0) i) < offset l) (row_held j) o)

  -- ONCE: no object has two rows.
  pub once : (i j : ℕ) → i < n → j < n → offset (row list i) ≡ offset (row list j) → i ≡ j
  once i j f g e =
      let a : i < j → ⊥ = λ h. let o = in_order i j h g in omega (arith, o, e) in
      let b : j < i → ⊥ = λ h. let o = in_order j i h f in omega (arith, o, e) in
      omega (arith, a, b)

-- After every other answer the list is all zero.
pub zero_after_refusal : {bytes array list : List ℕ} {room size : ℕ} {a : Answer} → MassDepth bytes room size a array list → ((n : ℕ) → a ≡ Ok n → ⊥) → list ≡ replicate size 0
zero_after_refusal x n = by x.answers n
  where
    by : {bytes : List ℕ} {room size : ℕ} {a : Answer} {list : List ℕ} → Answers bytes room size a list → ((n : ℕ) → a ≡ Ok n → ⊥) → list ≡ replicate size 0
    by (Answers.short h) n = refl
    by (Answers.refused h r) n = refl
    by (Answers.list_short h y p s) n = refl
    by (Answers.listed {ls = ls} h y p s) n = absurd (n (length ls) refl)

-- ── An answer in 02's numbers ─────────────────────────────────────────────────────────────────────

-- The case that has these numbers.
case_of : Numbers → Answer
case_of n = by (eqb n.number)
  where
    by : (ℕ → Bool) → Answer
    by is =
        cond (is 0) (Ok n.count)
        (cond (is 13) (Err (Image (Unknown n.offset)))
        (cond (is 14) (Err (Image (Malformed n.offset)))
        (cond (is 15) (Err (Image (Children n.offset)))
        (cond (is 16) (Err (Image (Underived n.offset)))
        (cond (is 21) (Err (ListShort n.count))
        (Err (Image (Short n.count))))))))

case_back : (a : Answer) → case_of (in-numbers.numbers a) ≡ a
unfolding in-numbers.numbers back-numbers.numbers case_of
case_back (Ok n) = refl
case_back (Err (Image (Unknown at))) = refl
case_back (Err (Image (Malformed at))) = refl
case_back (Err (Image (Children at))) = refl
case_back (Err (Image (Underived at))) = refl
case_back (Err (ListShort n)) = refl
case_back (Err (Image (Short n))) = refl

-- No two answers have the same numbers.
pub same_case : (a b : Answer) → in-numbers.numbers a ≡ in-numbers.numbers b → a ≡ b
same_case a b e = sym (case_back a) ∙ ap case_of e ∙ case_back b
