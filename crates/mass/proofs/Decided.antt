-- What an object raises can be told: of the members of an accepted tree.
-- Assumes nothing.
use mathlib.Core.Path.{◌≡◌, refl, sym, ap, subst, ◌∙◌}
use mathlib.Core.Bool.{Bool, true, false}
use mathlib.Core.List.{List, [], ◌∷◌}
use mathlib.Core.Logic.{◌⊎◌, inl, inr, ⊎_elim}
use Prim.Native.Nat.{ℕ}
use native.Mathlib.Omega.{arith}
use lib.Dec.{eqb}
use lib.ListN.{length, get_or, drop}
use borrow.Author.Tests.{eqb-true, eqb-false}
use Rattle.grammar.specs.Tags.{FIELD}
use Rattle.grammar.specs.Trees.{Field, Trees, node, count}
use Rattle.grammar.specs.Trees as trees
use Rattle.grammar.specs.Records.{Sort, Spans, Obeys}
use Rattle.images.specs.Images.{Age, dated, dated_trees}
use Rattle.mass.specs.Mass.{MASS, DEPTH, FixedPlus, ComputedPlus, Raises, Leaves, Undecided}
use Rattle.std.proofs.Common.{Option, None, Some}
use Rattle.mass.specs.declared.members.Added.{Added}
use Rattle.mass.specs.declared.members.Added.TheVariants.{Mass, Depth, Computed}
use Rattle.mass.specs.Inner.{Calls, Adds}
use Rattle.mass.proofs.FieldLaws.{Shape, root_shape, called, no_field, fixed_byte, computed_byte, computed_at}
use Rattle.mass.proofs.MemberLaws.{leaves_more, undecided_less, not_computed, not_other, raises_some, undecided_some}

abbrev Either : Type 0 → Type 0
Either P = P ⊎ (P → ⊥)

numbers_told : (a b : ℕ) → Either (a ≡ b)
numbers_told a b = by (eqb a b) refl
  where
    by : (t : Bool) → eqb a b ≡ t → Either (a ≡ b)
    by true e = inl (eqb-true a b e)
    by false e = inr (eqb-false a b e)

words_told : (v w : List ℕ) → Either (v ≡ w)
words_told [] [] = inl refl
words_told [] (y ∷ ys) = inr (λ e. let l = ap length e in omega (arith, l))
words_told (x ∷ xs) [] = inr (λ e. let l = ap length e in omega (arith, l))
words_told (x ∷ xs) (y ∷ ys) = both (numbers_told x y) (words_told xs ys)
  where
    both : Either (x ≡ y) → Either (xs ≡ ys) → Either (x ∷ xs ≡ y ∷ ys)
    both (inl e) (inl f) = inl (ap (λ (i : ℕ). i ∷ xs) e ∙ ap (λ (l : List ℕ). y ∷ l) f)
    both (inr n) f = inr (λ q. n (ap (λ (l : List ℕ). get_or l 0 0) q))
    both (inl e) (inr n) = inr (λ q. n (ap (λ (l : List ℕ). drop 1 l) q))

name_told : (w : List ℕ) → (k : Option Added) × Calls w k
name_told w = by (words_told w MASS) (words_told w DEPTH)
  where
    by : Either (w ≡ MASS) → Either (w ≡ DEPTH) → (k : Option Added) × Calls w k
    by (inl e) x = (Some Mass, Calls.mass e)
    by (inr n) (inl e) = (Some Depth, Calls.depth e)
    by (inr n) (inr m) = (None, Calls.other n m)

shape_told : {fields : List Field} {cs : Trees} → Shape fields cs → (k : Option Added) × Adds FIELD fields cs k
shape_told (Shape.fixed {p = p} {w = w}) = ⊎_elim (λ e. let c = name_told w in (c.0, called e c.0 c.1)) (λ n. (None, Adds.nothing (λ b f x. n (fixed_byte x)) (λ b f x. n (fixed_byte x)) (λ x. n (computed_byte x)))) (numbers_told p 1)
shape_told (Shape.computed {p = p}) = ⊎_elim (λ e. (Some Computed, Adds.computed (computed_at refl e))) (λ n. (None, Adds.nothing (λ b f x. n (fixed_byte x)) (λ b f x. n (fixed_byte x)) (λ x. n (computed_byte x)))) (numbers_told p 1)

-- What one member adds.
member_told : (age : Age) (tag : ℕ) (fields : List Field) (cs : Trees) {σs : List Sort} {us : Trees} → Obeys Spans.forward σs (node tag (dated age tag fields) (dated_trees age cs) us)
    → (k : Option Added) × Adds tag fields cs k
member_told age tag fields cs {σs} {us} o = ⊎_elim known (λ n. (None, no_field n)) (numbers_told tag FIELD)
  where
    known : tag ≡ FIELD → (k : Option Added) × Adds tag fields cs k
    known e =
        let x = shape_told (root_shape age fields cs (subst (λ (t : ℕ). Obeys Spans.forward σs (node t (dated age t fields) (dated_trees age cs) us)) e o)) in
        (x.0, subst (λ (t : ℕ). Adds t fields cs x.0) (sym e) x.1)

-- ── All members ───────────────────────────────────────────────────────────────────────────────────

pub data Found (name : List ℕ) (ts : Trees) : Type 0 where
  found : {a e : ℕ} → Raises name ts a e → Found name ts
  nowhere : Leaves name ts → Found name ts

pub record Decided (ts : Trees) : Type 0 where
  pub undecided : Either (Undecided ts)
  pub mass : Found MASS ts
  pub depth : Found DEPTH ts

kept : {name : List ℕ} {tag : ℕ} {fields : List Field} {cs ts : Trees} → ((a e : ℕ) → FixedPlus name a e tag fields cs → ⊥) → Found name ts → Found name (node tag fields cs ts)
kept n (found x) = found (Raises.later n x)
kept n (nowhere l) = nowhere (leaves_more n l)

still : {tag : ℕ} {fields : List Field} {cs ts : Trees} → (ComputedPlus tag fields → ⊥) → Either (Undecided ts) → Either (Undecided (node tag fields cs ts))
still n (inl u) = inl (Undecided.later u)
still n (inr m) = inr (λ u. m (undecided_less n u))

more : {tag : ℕ} {k : Option Added} {fields : List Field} {cs ts : Trees} → Adds tag fields cs k → Decided ts → Decided (node tag fields cs ts)
more (Adds.nothing m d c) x = record { undecided = still c x.undecided; mass = kept m x.mass; depth = kept d x.depth }
more (Adds.mass y) x = record { undecided = still (not_computed y) x.undecided; mass = found (Raises.first y); depth = kept (λ a e z. not_other y z) x.depth }
more (Adds.depth y) x = record { undecided = still (not_computed y) x.undecided; mass = kept (λ a e z. not_other z y) x.mass; depth = found (Raises.first y) }
more (Adds.computed c) x = record { undecided = inl (Undecided.here c); mass = kept (λ a e z. not_computed z c) x.mass; depth = kept (λ a e z. not_computed z c) x.depth }

rest_obeys : {σs : List Sort} {tag : ℕ} {fields : List Field} {cs us : Trees} → Obeys Spans.forward σs (node tag fields cs us) → (τs : List Sort) × Obeys Spans.forward τs us
rest_obeys (Obeys.node {σs = σs} f g h k) = (σs, k)

pub decided : (age : Age) (ts : Trees) {σs : List Sort} → Obeys Spans.forward σs (dated_trees age ts) → Decided ts
unfolding dated_trees count
decided age trees.none o =
    record { undecided = inr (λ u. omega (arith, undecided_some u)); mass = nowhere (λ a e x. omega (arith, raises_some x)); depth = nowhere (λ a e x. omega (arith, raises_some x)) }
decided age (trees.node tag fields cs ts) o = more (member_told age tag fields cs o).1 (decided age ts (rest_obeys o).1)
