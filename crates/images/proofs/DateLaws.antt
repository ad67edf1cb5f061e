-- The kind of infix records after one record more.
-- Assumes nothing.
use mathlib.Core.Path.{◌≡◌, refl, sym, ap, subst, ◌∙◌}
use mathlib.Core.Bool.{Bool, true, false, cond}
use mathlib.Core.List.{List, [], ◌∷◌, ◌++◌}
use Prim.Native.Nat.{ℕ}
use native.Mathlib.Omega.{arith}
use lib.Dec.{eqb}
use lib.ListN.{length, length-append}
use borrow.Author.Tests.{eqb-true, eqb-false, eq-eqb}
use Rattle.grammar.specs.Tags.{INFIX}
use Rattle.grammar.specs.Trees.{Field, span, Trees, tree, ◌⊕◌}
use Rattle.grammar.specs.Records.{Spans, Form}
use Rattle.grammar.proofs.LayoutLaws.{form_laid}
use Rattle.images.specs.Images.{Age, old, new, dated, Row}
use Rattle.images.specs.Inner.{Dating, dates}
use Rattle.images.proofs.RowLaws.{Over, row_more, row_less, dated_other}
use Rattle.images.proofs.StepLaws.{age_of, dates_other, dates_infix, infix_laid, two_laid}

-- An infix record has two fields, the span included that an old one lacks.
two_fields : (g : Age) {tag : ℕ} {fields : List Field} {cs : Trees} → tag ≡ INFIX → Over g tag fields cs → length (dated g tag fields) ≡ 2
two_fields g e o = (two_laid (infix_laid e (form_laid o.form)).1).0

old_length : {tag : ℕ} {fields : List Field} {cs : Trees} → tag ≡ INFIX → Over old tag fields cs → length fields ≡ 1
unfolding dated
old_length {tag} {fields} e o =
    let d : dated old tag fields ≡ fields ++ span 0 0 ∷ [] = rw (eq-eqb tag INFIX e) in
    omega (arith, ap length d, two_fields old e o, length-append fields (span 0 0 ∷ []))

new_length : {tag : ℕ} {fields : List Field} {cs : Trees} → tag ≡ INFIX → Over new tag fields cs → length fields ≡ 2
unfolding dated
new_length e o = two_fields new e o

-- a record that is no infix has no age
over_any : (g h : Age) {tag : ℕ} {fields : List Field} {cs : Trees} → (tag ≡ INFIX → ⊥) → Over g tag fields cs → Over h tag fields cs
over_any g h {tag} {fields} n o = record {
  sort = o.sort;
  wanted = o.wanted;
  form = subst (λ (fs : List Field). Form Spans.forward o.sort tag fs o.wanted) (dated_other g tag fields n ∙ sym (dated_other h tag fields n)) o.form;
  fits = o.fits;
}

module _ (us cs : Trees) (tag : ℕ) (fields : List Field) where
  no_infix : {age : ℕ} (g : Age) → (tag ≡ INFIX → ⊥) → Over g tag fields cs → Dating (us ⊕ cs) age → Dating (us ⊕ tree tag fields cs) age
  no_infix g n o (Dating.undated f) = Dating.undated (λ h. row_more h us cs tag fields (f h) (over_any g h n o))
  no_infix g n o (Dating.is_old r x) = Dating.is_old (row_more old us cs tag fields r (over_any g old n o)) (λ y. x (row_less new us cs tag fields y).1)
  no_infix g n o (Dating.is_new r x) = Dating.is_new (row_more new us cs tag fields r (over_any g new n o)) (λ y. x (row_less old us cs tag fields y).1)

  old_infix : tag ≡ INFIX → Over old tag fields cs → Row old (us ⊕ cs) → Dating (us ⊕ tree tag fields cs) 1
  old_infix e o r = Dating.is_old (row_more old us cs tag fields r o) (λ y. omega (arith, old_length e o, new_length e (row_less new us cs tag fields y).0))

  new_infix : tag ≡ INFIX → Over new tag fields cs → Row new (us ⊕ cs) → Dating (us ⊕ tree tag fields cs) 2
  new_infix e o r = Dating.is_new (row_more new us cs tag fields r o) (λ y. omega (arith, new_length e o, old_length e (row_less old us cs tag fields y).0))

  by_kind : tag ≡ INFIX → (kind : ℕ) (c : Bool) → eqb kind 1 ≡ c → (c ≡ false → kind ≡ 2) → Row (cond c old new) (us ⊕ cs) → Over (cond c old new) tag fields cs
      → Dating (us ⊕ tree tag fields cs) kind
  by_kind e kind true q other r o = subst (λ (k : ℕ). Dating (us ⊕ tree tag fields cs) k) (sym (eqb-true kind 1 q)) (old_infix e o r)
  by_kind e kind false q other r o = subst (λ (k : ℕ). Dating (us ⊕ tree tag fields cs) k) (sym (other refl)) (new_infix e o r)

  -- a kind of an infix record is 1 or 2
  kinds : {age : ℕ} (size : ℕ) → tag ≡ INFIX → Dating (us ⊕ cs) age → (dates tag size age ≡ 1 → ⊥) → dates tag size age ≡ 2
  kinds size e (Dating.undated f) n = by (eqb size 1) (dates_infix tag size 0 e)
    where
      by : (b : Bool) → dates tag size 0 ≡ cond b 1 2 → dates tag size 0 ≡ 2
      by true q = absurd (n q)
      by false q = q
  kinds size e (Dating.is_old r x) n = absurd (n (dates_infix tag size 1 e))
  kinds size e (Dating.is_new r x) n = dates_infix tag size 2 e

  -- with one record more
  pub dating_more : {age : ℕ} (size : ℕ) → Dating (us ⊕ cs) age → Row (age_of (dates tag size age)) (us ⊕ cs) → Over (age_of (dates tag size age)) tag fields cs
      → Dating (us ⊕ tree tag fields cs) (dates tag size age)
  unfolding age_of
  dating_more {age} size d r o = by (eqb tag INFIX) refl
    where
      by : (b : Bool) → eqb tag INFIX ≡ b → Dating (us ⊕ tree tag fields cs) (dates tag size age)
      by true q = let e = eqb-true tag INFIX q in by_kind e (dates tag size age) (eqb (dates tag size age) 1) refl (λ w. kinds size e d (eqb-false (dates tag size age) 1 w)) r o
      by false q =
          let n = eqb-false tag INFIX q in
          subst (λ (k : ℕ). Dating (us ⊕ tree tag fields cs) k) (sym (dates_other tag size age n)) (no_infix (age_of (dates tag size age)) n o d)
