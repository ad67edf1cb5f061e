-- No second list, and no second answer.
-- Assumes nothing.
use mathlib.Core.Path.{◌≡◌, refl, sym, ap, subst, ◌∙◌}
use mathlib.Core.List.{List, [], ◌∷◌, ◌++◌}
use mathlib.Core.Logic.{◌⊎◌, inl, inr, ⊎_elim}
use Prim.Native.Nat.{ℕ, suc, ◌-◌, ◌*◌, ◌≤◌, ◌<◌}
use native.Mathlib.Omega.{arith}
use lib.ListN.{length, replicate}
use Rattle.grammar.specs.Trees.{Trees}
use Rattle.images.specs.Images.{Accepted}
use Rattle.images.specs.declared.Fault as images
use Rattle.images.proofs.Sole.{one_tree, one_refusal, accepted_not_refused}
use Rattle.mass.specs.declared.Fault.TheVariants.{Image, ListShort}
use Rattle.std.proofs.Common.{Result, Ok, Err}
use Rattle.mass.specs.Mass.{Listing, offset, numbers, In, Ascends, Planned, Answer, Answers}

-- ── One list ──────────────────────────────────────────────────────────────────────────────────────

-- What is in a list that ascends stands at its beginning or higher.
pub above : {n : ℕ} {l : Listing} {ls : List Listing} → Ascends n ls → In l ls → n ≤ offset l
above Ascends.none i = elim i [ ]
above (Ascends.more h a) In.first = h
above (Ascends.more h a) (In.later i) = let x = above a i in omega (arith, x)

-- Both lists have the same members.
abbrev Within : List Listing → List Listing → Type 0
Within ls ms = (l : Listing) → In l ls → In l ms

head_or_tail : {l m : Listing} {ms : List Listing} → In l (m ∷ ms) → (l ≡ m) ⊎ In l ms
head_or_tail In.first = inl refl
head_or_tail (In.later i) = inr i

-- The least of one is the least of the other.
same_head : {n k : ℕ} {l m : Listing} {ls ms : List Listing} → Ascends n (l ∷ ls) → Ascends k (m ∷ ms) → In l (m ∷ ms) → In m (l ∷ ls) → l ≡ m
same_head (Ascends.more h a) (Ascends.more g b) In.first j = refl
same_head (Ascends.more h a) (Ascends.more g b) (In.later i) In.first = refl
same_head (Ascends.more h a) (Ascends.more g b) (In.later i) (In.later j) = let x = above a j in let y = above b i in absurd (omega (arith, x, y))

rest-within : {n : ℕ} {l m : Listing} {ls ms : List Listing} → Ascends n (l ∷ ls) → l ≡ m → Within (l ∷ ls) (m ∷ ms) → Within ls ms
rest-within (Ascends.more h a) e w x i = ⊎_elim (λ q. absurd (let y = above a i in let z = ap offset (q ∙ sym e) in omega (arith, y, z))) (λ j. j) (head_or_tail (w x (In.later i)))

rest_ascends : {n : ℕ} {l : Listing} {ls : List Listing} → Ascends n (l ∷ ls) → Ascends (suc (offset l)) ls
rest_ascends (Ascends.more h a) = a

some_in : {l : Listing} {ls : List Listing} → In l ls → 0 < length ls
some_in In.first = omega arith
some_in (In.later i) = omega arith

ascends_once : {n k : ℕ} (ls ms : List Listing) → Ascends n ls → Ascends k ms → Within ls ms → Within ms ls → ls ≡ ms
ascends_once [] [] a b v w = refl
ascends_once [] (m ∷ ms) a b v w = absurd (let i = some_in (w m In.first) in omega (arith, i))
ascends_once (l ∷ ls) [] a b v w = absurd (let i = some_in (v l In.first) in omega (arith, i))
ascends_once (l ∷ ls) (m ∷ ms) a b v w =
    let e = same_head a b (v l In.first) (w m In.first) in
    ap (λ (x : Listing). x ∷ ls) e ∙ ap (λ (x : List Listing). m ∷ x) (ascends_once ls ms (rest_ascends a) (rest_ascends b) (rest-within a e v) (rest-within b (sym e) w))

-- A TREE HAS ONE LIST.
pub planned_once : {t : Trees} {ls ms : List Listing} → Planned t ls → Planned t ms → ls ≡ ms
planned_once {ls = ls} {ms} p q = ascends_once ls ms p.in_order q.in_order (λ l i. q.complete l (p.sound l i)) (λ l i. p.complete l (q.sound l i))

-- ── One answer ────────────────────────────────────────────────────────────────────────────────────

kept_once : {f g : images.Fault} → ◌≡◌ {A = Result ℕ images.Fault} (Err f) (Err g) → ◌≡◌ {A = Answer} (Err (Image f)) (Err (Image g))
kept_once {f} {g} e = let z : f ≡ g = cc in ap (λ (x : images.Fault). Err (Image x)) z

module _ {bytes : List ℕ} where
  lists_once : {t u : Trees} {ls ms : List Listing} → Accepted bytes t → Accepted bytes u → Planned t ls → Planned u ms → ls ≡ ms
  lists_once {ls = ls} x y p q = planned_once (subst (λ (v : Trees). Planned v ls) (one_tree x y) p) q

  pub answers_once : {room size : ℕ} {a b : Answer} {l m : List ℕ} → Answers bytes room size a l → Answers bytes room size b m → (a ≡ b) × (l ≡ m)
  answers_once (Answers.short h) (Answers.short g) = (refl, refl)
  answers_once (Answers.short h) (Answers.refused g r) = absurd (omega arith)
  answers_once (Answers.short h) (Answers.list_short g x p s) = absurd (omega arith)
  answers_once (Answers.short h) (Answers.listed g x p s) = absurd (omega arith)
  answers_once (Answers.refused h r) (Answers.short g) = absurd (omega arith)
  answers_once (Answers.refused h r) (Answers.refused g q) = (kept_once (one_refusal r q), refl)
  answers_once (Answers.refused h r) (Answers.list_short g x p s) = absurd (accepted_not_refused x r)
  answers_once (Answers.refused h r) (Answers.listed g x p s) = absurd (accepted_not_refused x r)
  answers_once (Answers.list_short h x p s) (Answers.short g) = absurd (omega arith)
  answers_once (Answers.list_short h x p s) (Answers.refused g r) = absurd (accepted_not_refused x r)
  answers_once (Answers.list_short h x p s) (Answers.list_short g y q r) = (ap (λ (n : ℕ). Err (ListShort n)) (ap length (lists_once x y p q)), refl)
  answers_once (Answers.list_short h x p s) (Answers.listed g y q r) = absurd (let e = ap length (lists_once x y p q) in omega (arith, e))
  answers_once (Answers.listed h x p s) (Answers.short g) = absurd (omega arith)
  answers_once (Answers.listed h x p s) (Answers.refused g r) = absurd (accepted_not_refused x r)
  answers_once (Answers.listed h x p s) (Answers.list_short g y q r) = absurd (let e = ap length (lists_once x y p q) in omega (arith, e))
  answers_once {size = size} (Answers.listed h x p s) (Answers.listed g y q r) =
      let e = lists_once x y p q in
      (ap Ok (ap length e), ap (λ (ls : List Listing). numbers ls ++ replicate (size - 4 * length ls) 0) e)
