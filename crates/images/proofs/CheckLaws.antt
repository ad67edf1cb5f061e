-- What number 16 asks of a record, step by step.
-- Assumes nothing.
use mathlib.Core.Path.{◌≡◌, sym, ap, subst, ◌∙◌}
use mathlib.Core.Bool.{Bool, true, false}
use mathlib.Core.List.{List}
use Prim.Native.Nat.{ℕ, ◌+◌}
use Rattle.std.proofs.Common.{Option, None}
use Rattle.blocks.specs.Inside.{Says}
use Rattle.images.specs.Inner.{Question, tail_part, Worded, forward, asks, Open, Fitted, Checked}
use Rattle.blocks.proofs.Places.{said, denied}
use Rattle.images.proofs.RootLaws.{no_true}

pub opens : {bytes array : List ℕ} {n : ℕ} {a b : Question} → a ≡ b → Open bytes array n (b.n3 + b.n2 + b.n1) → Open bytes array n (a.n3 + a.n2 + a.n1)
opens {bytes} {array} {n} e o = subst (λ (q : Question). Open bytes array n (q.n3 + q.n2 + q.n1)) (sym e) o

module _ {bytes array : List ℕ} {tag end : ℕ} {values tags : List ℕ} where
  pub backward : forward values ≡ false → Checked bytes array tag end values tags None
  backward e = Checked.other (λ x. no_true x.forwards e)

  module _ {a : Question} (q : a ≡ asks tag values) where
    pub not_fine : a.fine ≡ false → Checked bytes array tag end values tags None
    not_fine e = Checked.other (λ x. no_true x.fine (sym (ap (λ (p : Question). p.fine) q) ∙ e))

    pub not_worded : {r : Bool} → Says (Worded a.text (tail_part a.size end bytes)) r → r ≡ false → Checked bytes array tag end values tags None
    not_worded d e = Checked.other (λ x. denied d e (subst (λ (p : Question). Worded p.text (tail_part p.size end bytes)) (sym q) x.worded))

    fits : {r : Option ℕ} → Fitted bytes array (asks tag values) tags r → forward values ≡ true → (asks tag values).fine ≡ true
        → Worded (asks tag values).text (tail_part (asks tag values).size end bytes) → Checked bytes array tag end values tags r
    fits (Fitted.from f c) e g w = Checked.from (record { forwards = e; fine = g; worded = w; fit = f }) c
    fits (Fitted.other n) e g w = Checked.other (λ x. n x.fit)

    pub all_checked : {r : Bool} {s : Option ℕ} → forward values ≡ true → a.fine ≡ true → Says (Worded a.text (tail_part a.size end bytes)) r → r ≡ true
        → Fitted bytes array a tags s → Checked bytes array tag end values tags s
    all_checked {s = s} e g d f x =
        fits (subst (λ (p : Question). Fitted bytes array p tags s) q x) e (sym (ap (λ (p : Question). p.fine) q) ∙ g)
        (subst (λ (p : Question). Worded p.text (tail_part p.size end bytes)) q (said d f))
