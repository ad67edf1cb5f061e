-- `back`, answer by answer.
-- Assumes nothing.
use mathlib.Core.Path.{◌≡◌, sym, ap, subst, ◌∙◌}
use mathlib.Core.List.{List, ◌++◌, append-nil}
use Prim.Native.Nat.{ℕ, ◌-◌, ◌*◌, ◌≤◌, ◌<◌}
use native.Mathlib.Omega.{arith}
use lib.ListN.{length, take, drop, replicate, length-append, length-drop, drop_of_length-le}
use lib.Seq.{take_all, take_at}
use Rattle.images.specs.declared.Fault.{Fault}
use Rattle.images.specs.declared.Fault.TheVariants.{Short}
use Rattle.std.proofs.Common.{Ok, Err}
use Rattle.images.specs.Images.{Refused, records, links, needed, ReadsBack}
use Rattle.images.specs.Inner.{Whole}
use Rattle.images.proofs.LinkLaws.{links-length}

pub back_short : {bytes array : List ℕ} (n : ℕ) → array ≡ replicate n 0 → n < needed bytes → ReadsBack bytes n (Err (Short (needed bytes))) array
back_short {bytes} n e h = subst (λ (l : List ℕ). ReadsBack bytes n (Err (Short (needed bytes))) l) (sym e) (ReadsBack.short h)

pub back_refused : {bytes array cleared : List ℕ} (n : ℕ) (f : Fault) → Whole bytes n (Err f) array → needed bytes ≤ n → cleared ≡ replicate (length array) 0 → ReadsBack bytes n (Err f) cleared
back_refused {bytes} {array} n f (Whole.refused l x) h z =
    subst (λ (w : List ℕ). ReadsBack bytes n (Err f) w) (sym (z ∙ ap (λ (i : ℕ). replicate i 0) l)) (ReadsBack.refused h x)

never_tree : {bytes : List ℕ} {n : ℕ} → Refused bytes (Ok n) → ⊥
never_tree x = elim x [ ]

-- The links of a tree's records fit, and what is behind them is cleared.
pub links_fit : {bytes array : List ℕ} {room n : ℕ} → Whole bytes room (Ok n) array → n * 2 ≤ length array
links_fit (Whole.accepted {t} rest x e l) = omega (arith, ap length e, length-append (links 0 0 t) rest, links-length 0 0 t)
links_fit (Whole.refused l x) = absurd (never_tree x)

pub back_accepted : {bytes array : List ℕ} {room n : ℕ} {last : List ℕ} → Whole bytes room (Ok n) array → needed bytes ≤ room
    → last ≡ replicate (length (take (length array - n * 2) (drop (n * 2) array))) 0
    → ReadsBack bytes room (Ok n) (take (n * 2) array ++ (last ++ drop (length array - n * 2) (drop (n * 2) array)))
back_accepted {bytes} {array} {room} {last = last} (Whole.accepted {t} rest x e l) h z =
    subst (λ (w : List ℕ). ReadsBack bytes room (Ok (records t)) w) (sym cleared) (ReadsBack.accepted h x)
  where
    behind : ℕ
    behind = length array - records t * 2

    long : length (take behind (drop (records t * 2) array)) ≡ room - 2 * records t
    long = ap length (take_all behind (drop (records t * 2) array) (omega (arith, length-drop (records t * 2) array))) ∙ omega (arith, l, length-drop (records t * 2) array)

    cleared : take (records t * 2) array ++ (last ++ drop behind (drop (records t * 2) array)) ≡ links 0 0 t ++ replicate (room - 2 * records t) 0
    cleared =
        ap (λ (w : List ℕ). take (records t * 2) array ++ (last ++ w)) (drop_of_length-le (drop (records t * 2) array) {i = behind} (omega (arith, length-drop (records t * 2) array)))
        ∙ ap (λ (w : List ℕ). take (records t * 2) array ++ w) (append-nil last ∙ z ∙ ap (λ (m : ℕ). replicate m 0) long)
        ∙ ap (λ (w : List ℕ). w ++ replicate (room - 2 * records t) 0) (ap (take (records t * 2)) e ∙ take_at (links 0 0 t) rest (records t * 2) (links-length 0 0 t))
back_accepted (Whole.refused l x) h z = absurd (never_tree x)
