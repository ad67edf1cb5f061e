-- `listed` and `list`, answer by answer.
-- Assumes nothing.
use mathlib.Core.Path.{◌≡◌, refl, sym, ap, subst, ◌∙◌}
use mathlib.Core.List.{List}
use Prim.Native.Nat.{ℕ, ◌*◌, ◌/◌, ◌≤◌, ◌<◌}
use native.Mathlib.Omega.{arith}
use lib.ListN.{length, replicate, length-replicate}
use Rattle.images.specs.Images.{Refused, needed, ReadsBack}
use Rattle.images.specs.declared.Fault as images
use Rattle.images.specs.declared.Fault.TheVariants as back
use Rattle.mass.specs.declared.Fault.TheVariants.{Image, ListShort}
use Rattle.std.proofs.Common.{Ok, Err}
use Rattle.mass.specs.Mass.{Answer, Answers, MassDepth}
use Rattle.images.specs.Numbers as in-images
use Rattle.mass.specs.Numbers as in-numbers
use Rattle.mass.specs.Inner.{SomeGiven, Fills}

pub zeros_length : {list : List ℕ} (n : ℕ) → list ≡ replicate n 0 → length list ≡ n
zeros_length n e = ap length e ∙ length-replicate {A = ℕ} n 0

pub zeros_again : {list : List ℕ} (n : ℕ) → list ≡ replicate n 0 → list ≡ replicate (length list) 0
zeros_again n e = e ∙ ap (λ (i : ℕ). replicate {A = ℕ} i 0) (sym (zeros_length n e))

pub lengths_as : {bytes array list : List ℕ} {room m size k : ℕ} {a : Answer} → m ≡ room → k ≡ size → MassDepth bytes m k a array list → MassDepth bytes room size a array list
lengths_as {bytes} {array} {list} {room} {m} {size} {k} {a} e f x =
    subst (λ (i : ℕ). MassDepth bytes i size a array list) e (subst (λ (i : ℕ). MassDepth bytes m i a array list) f x)

-- ── A tree ────────────────────────────────────────────────────────────────────────────────────────

module _ {bytes array : List ℕ} {n size count : ℕ} {list : List ℕ} (room : ℕ) (h : needed bytes ≤ room) (o : SomeGiven bytes array n) (f : Fills bytes array n size count list) where
  pub answers_short : {after : List ℕ} → length list / 4 < count → after ≡ replicate (length list) 0 → Answers bytes room size (Err (ListShort count)) after
  answers_short {after} l e =
      let x = f.each o.t o.given in
      let s : size < 4 * length x.ls = omega (arith, x.counted, x.long) in
      subst (λ (k : ℕ). Answers bytes room size (Err (ListShort k)) after) (sym x.counted)
      (subst (λ (w : List ℕ). Answers bytes room size (Err (ListShort (length x.ls))) w) (sym (e ∙ ap (λ (i : ℕ). replicate {A = ℕ} i 0) x.long))
      (Answers.list_short h o.given.accepted x.planned s))

  pub answers_listed : count ≤ length list / 4 → Answers bytes room size (Ok count) list
  answers_listed l =
      let x = f.each o.t o.given in
      let s : 4 * length x.ls ≤ size = omega (arith, x.counted, x.long) in
      subst (λ (k : ℕ). Answers bytes room size (Ok k) list) (sym x.counted)
      (subst (λ (w : List ℕ). Answers bytes room size (Ok (length x.ls)) w) (sym (x.filled s)) (Answers.listed h o.given.accepted x.planned s))

-- ── What `back` says ──────────────────────────────────────────────────────────────────────────────

never_tree : {bytes : List ℕ} {n : ℕ} → Refused bytes (Ok n) → ⊥
never_tree x = elim x [ ]

pub tree_given : {bytes array : List ℕ} {room n : ℕ} → ReadsBack bytes room (Ok n) array → (needed bytes ≤ room) × SomeGiven bytes array n
tree_given {bytes} {array} {room} {n} x = by room n array x
  where
    by : (room n : ℕ) (array : List ℕ) → ReadsBack bytes room (Ok n) array → (needed bytes ≤ room) × SomeGiven bytes array n
    by room n array (ReadsBack.accepted {t} h a) = (h, record { t = t; given = record { accepted = a; rest = _; linked = refl; many = refl } })
    by room n array (ReadsBack.refused h r) = absurd (never_tree r)

-- A refusal of Item 1, as it is.
pub kept : {bytes array list : List ℕ} {room size : ℕ} {f : images.Fault} → ReadsBack bytes room (Err f) array → list ≡ replicate size 0 → MassDepth bytes room size (Err (Image f)) array list
kept {bytes} {array} {list} {room} {size} {f} x e = by room f array x
  where
    by : (room : ℕ) (f : images.Fault) (array : List ℕ) → ReadsBack bytes room (Err f) array → MassDepth bytes room size (Err (Image f)) array list
    by room f array (ReadsBack.short h) =
        record { answers = subst (λ (l : List ℕ). Answers bytes room size (Err (Image (back.Short (needed bytes)))) l) (sym e) (Answers.short h); zeros = refl }
    by room f array (ReadsBack.refused h r) = record { answers = subst (λ (l : List ℕ). Answers bytes room size (Err (Image f)) l) (sym e) (Answers.refused h r); zeros = refl }

-- A refusal of Item 1 has the numbers that `images` gives it.
pub image_numbers : (f : images.Fault) → in-images.numbers (Err f) ≡ in-numbers.numbers (Err (Image f))
unfolding in-images.numbers in-numbers.numbers
image_numbers (back.Unknown a) = refl
image_numbers (back.Malformed a) = refl
image_numbers (back.Children a) = refl
image_numbers (back.Underived a) = refl
image_numbers (back.Short n) = refl
