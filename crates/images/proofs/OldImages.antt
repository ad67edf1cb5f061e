-- OLD IMAGES ARE READ AS THE SAME TREE WITHOUT MARKS. Take the marks out of a tree whose image is accepted: the image of what is left is accepted too, as an
-- old one. And every old image that is accepted comes about so. All infix records of an image are of one kind.
-- Assumes nothing.
use mathlib.Core.Path.{◌≡◌, refl, sym, ap, subst, ◌∙◌}
use mathlib.Core.Bool.{Bool, true, false}
use mathlib.Core.List.{List, [], ◌∷◌, ◌++◌}
use Prim.Native.Nat.{ℕ, ◌+◌}
use native.Mathlib.Omega.{arith}
use lib.Dec.{eqb}
use lib.ListN.{length}
use borrow.Author.Tests.{eqb-true, eqb-false, eq-eqb, ne_eqb}
use Rattle.grammar.specs.Tags.{INFIX}
use Rattle.grammar.specs.Trees.{Field, byte, number, span, text, Trees}
use Rattle.grammar.specs.Trees as trees
use Rattle.grammar.specs.Image.{payload, entry, image}
use Rattle.grammar.specs.Records.{Sort, Spans, Obeys}
use Rattle.grammar.specs.Layout.{place, below, layout_of, Laid, over, a_span, a_byte, Tells}
use Rattle.grammar.specs.Alike.{AlikeFields, same, spans, nil, ◌⋆◌, Alike, no_trees, a_node}
use Rattle.grammar.specs.Answer.{prefix_power}
use Rattle.grammar.specs.Derived.{Forwards, Zeros, Spanned, Derived}
use Rattle.grammar.proofs.Alike.{alike_trans}
use Rattle.grammar.proofs.LayoutLaws.{form_laid}
use Rattle.images.specs.Images.{Age, old, new, dated, dated_trees, Row, records}
use Rattle.images.specs.Children.{Record, root_numbers, Holds}
use Rattle.images.specs.Unmarked.{operator_alone, unmarked_fields, unmarked, infix_length, AcceptedAs}
use Rattle.images.proofs.RowLaws.{dated_other}
use Rattle.images.proofs.StepLaws.{infix_laid}
use Rattle.images.proofs.Determined.{old_infix, old_size, new_size}
use Rattle.images.proofs.Sole.{accepted_row}

-- ── Records ───────────────────────────────────────────────────────────────────────────────────────

unmarked_infix : (tag : ℕ) (fs : List Field) → tag ≡ INFIX → unmarked_fields tag fs ≡ operator_alone fs
unfolding unmarked_fields
unmarked_infix tag fs e = rw (eq-eqb tag INFIX e)

unmarked_other : (tag : ℕ) (fs : List Field) → (tag ≡ INFIX → ⊥) → unmarked_fields tag fs ≡ fs
unfolding unmarked_fields
unmarked_other tag fs n = rw (ne_eqb tag INFIX n)

dated_infix : (tag : ℕ) (fs : List Field) → tag ≡ INFIX → dated old tag fs ≡ fs ++ span 0 0 ∷ []
unfolding dated
dated_infix tag fs e = rw (eq-eqb tag INFIX e)

-- With 0, 0 for its mark a record is the same but for spans.
abbrev erased : ℕ → List Field → List Field
erased tag fs = dated old tag (unmarked_fields tag fs)

erased_infix : (tag : ℕ) (fs : List Field) → tag ≡ INFIX → erased tag fs ≡ operator_alone fs ++ span 0 0 ∷ []
erased_infix tag fs e = ap (dated old tag) (unmarked_infix tag fs e) ∙ dated_infix tag (operator_alone fs) e

erased_other : (tag : ℕ) (fs : List Field) → (tag ≡ INFIX → ⊥) → erased tag fs ≡ fs
erased_other tag fs n = ap (dated old tag) (unmarked_other tag fs n) ∙ dated_other old tag fs n

alike_mark : {fs : List Field} {n : ℕ} → Laid (below 20 ∷ place ∷ []) fs n → AlikeFields (operator_alone fs ++ span 0 0 ∷ []) fs
alike_mark (a_byte h (a_span over)) = same refl ⋆ spans ⋆ nil

same_fields : (fs : List Field) → AlikeFields fs fs
same_fields [] = nil
same_fields (f ∷ fs) = same refl ⋆ same_fields fs

erased_alike : (tag : ℕ) (fs : List Field) {n : ℕ} → Tells (layout_of tag) fs n → AlikeFields (erased tag fs) fs
erased_alike tag fs t = by (eqb tag INFIX) refl
  where
    by : (b : Bool) → eqb tag INFIX ≡ b → AlikeFields (erased tag fs) fs
    by true q = let e = eqb-true tag INFIX q in subst (λ (gs : List Field). AlikeFields gs fs) (sym (erased_infix tag fs e)) (alike_mark (infix_laid e t).1)
    by false q = subst (λ (gs : List Field). AlikeFields gs fs) (sym (erased_other tag fs (eqb-false tag INFIX q))) (same_fields fs)

-- Its spans are forward, and where they are absent 0, as before.
first-forward : (fs : List Field) → Forwards fs → Forwards (operator_alone fs ++ span 0 0 ∷ [])
first-forward [] f = (omega arith, tt)
first-forward (byte b ∷ fs) f = (omega arith, tt)
first-forward (number n ∷ fs) f = (omega arith, tt)
first-forward (span a e ∷ fs) f = (f.0, (omega arith, tt))
first-forward (text w ∷ fs) f = (omega arith, tt)

erased_spanned : (tag : ℕ) (fs : List Field) → Forwards fs → Zeros tag fs → Forwards (erased tag fs) × Zeros tag (erased tag fs)
erased_spanned tag fs f z = by (eqb tag INFIX) refl
  where
    by : (b : Bool) → eqb tag INFIX ≡ b → Forwards (erased tag fs) × Zeros tag (erased tag fs)
    by true q =
        let e = eqb-true tag INFIX q in
        (subst (λ (gs : List Field). Forwards gs) (sym (erased_infix tag fs e)) (first-forward fs f), Zeros.other {tag = tag} (λ s. omega (arith, e, s)) (λ s. omega (arith, e, s)))
    by false q = let e = sym (erased_other tag fs (eqb-false tag INFIX q)) in (subst (λ (gs : List Field). Forwards gs) e f, subst (λ (gs : List Field). Zeros tag gs) e z)

-- ── Trees ─────────────────────────────────────────────────────────────────────────────────────────

trees_alike : {σs : List Sort} {ts : Trees} → Obeys Spans.forward σs ts → Alike (dated_trees old (unmarked ts)) ts
unfolding dated_trees unmarked
trees_alike Obeys.none = no_trees
trees_alike (Obeys.node {tag = tag} {fields = fields} f g h k) = a_node (erased_alike tag fields (form_laid f)) (trees_alike h) (trees_alike k)

trees_spanned : {ts : Trees} → Spanned ts → Spanned (dated_trees old (unmarked ts))
unfolding dated_trees unmarked
trees_spanned Spanned.none = Spanned.none
trees_spanned (Spanned.node {tag = tag} {fs = fs} f z c r) = let x = erased_spanned tag fs f z in Spanned.node x.0 x.1 (trees_spanned c) (trees_spanned r)

-- A new image's trees are those that the table has.
pub dated_new : (ts : Trees) → dated_trees new ts ≡ ts
unfolding dated_trees dated
dated_new trees.none = refl
dated_new (trees.node tag fields children ts) =
    ap (λ (cs : Trees). trees.node tag fields cs (dated_trees new ts)) (dated_new children) ∙ ap (trees.node tag fields children) (dated_new ts)

-- An old record has no mark, and none that is added is left when it is taken out.
old_unmarked : (tag : ℕ) (fs : List Field) {n : ℕ} → Tells (layout_of tag) (dated old tag fs) n → fs ≡ unmarked_fields tag (dated old tag fs)
old_unmarked tag fs t = by (eqb tag INFIX) refl
  where
    by : (b : Bool) → eqb tag INFIX ≡ b → fs ≡ unmarked_fields tag (dated old tag fs)
    by true q =
        let e = eqb-true tag INFIX q in
        let one = (old_infix tag fs e t).0.whole in
        sym (unmarked_infix tag (dated old tag fs) e ∙ ap operator_alone (dated_infix tag fs e ∙ ap (λ (gs : List Field). gs ++ span 0 0 ∷ []) one) ∙ sym one)
    by false q = let n = eqb-false tag INFIX q in sym (unmarked_other tag (dated old tag fs) n ∙ dated_other old tag fs n)

trees_unmarked : (ts : Trees) {σs : List Sort} → Obeys Spans.forward σs (dated_trees old ts) → ts ≡ unmarked (dated_trees old ts)
unfolding dated_trees unmarked
trees_unmarked trees.none o = refl
trees_unmarked (trees.node tag fields children ts) (Obeys.node f g h k) =
    ap (λ (fs : List Field). trees.node tag fs children ts) (old_unmarked tag fields (form_laid f))
    ∙ ap (λ (cs : Trees). trees.node tag (unmarked_fields tag (dated old tag fields)) cs ts) (trees_unmarked children h)
    ∙ ap (trees.node tag (unmarked_fields tag (dated old tag fields)) (unmarked (dated_trees old children))) (trees_unmarked ts k)

-- ── The theorems ──────────────────────────────────────────────────────────────────────────────────

-- What an age says of an accepted tree.
record Aged (age : Age) (bytes : List ℕ) (t : Trees) : Type 0 where
  pub derived : Derived (prefix_power 7) 7 (dated_trees age t)
  pub spanned : Spanned (dated_trees age t)
  pub written : bytes ≡ image t
  pub row : Row age t

aged : {age : Age} {bytes : List ℕ} {t : Trees} → AcceptedAs age bytes t → Aged age bytes t
aged {age} {bytes} {t} x =
    subst (λ (g : Age). Aged g bytes t) x.aged (record { derived = x.accepted.derived; spanned = x.accepted.spanned; written = x.accepted.written; row = accepted_row x.accepted })

-- MARKS CAN BE LEFT OUT: the image without them is accepted as an old one, with the same tree without marks.
pub unmarked_accepted : {bytes : List ℕ} {t : Trees} → AcceptedAs new bytes t → AcceptedAs old (image (unmarked t)) (unmarked t)
unmarked_accepted {t = t} x =
    let y = aged x in
    let d = subst (λ (u : Trees). Derived (prefix_power 7) 7 u) (dated_new t) y.derived in
    let o = subst (λ (u : Trees). Obeys Spans.forward y.row.sorts u) (dated_new t) y.row.obeys in
    record {
      accepted = record {
        age = old;
        derived = record { lexemes = d.lexemes; worded = d.worded; depth = d.depth; given = d.given; at = d.at; left = d.left; reads = d.reads; alike = alike_trans (trees_alike o) d.alike };
        spanned = trees_spanned (subst Spanned (dated_new t) y.spanned);
        written = refl;
      };
      aged = refl;
    }

-- EVERY OLD IMAGE IS SUCH A ONE: its tree is, without marks, the tree of a new image that is accepted.
pub old_is_unmarked : {bytes : List ℕ} {t : Trees} → AcceptedAs old bytes t → (u : Trees) × AcceptedAs new (image u) u × (t ≡ unmarked u)
old_is_unmarked {t = t} x =
    let y = aged x in
    let u = dated_trees old t in
    let e = sym (dated_new u) in (
      u,
      record {
        accepted = record { age = new; derived = subst (λ (w : Trees). Derived (prefix_power 7) 7 w) e y.derived; spanned = subst Spanned e y.spanned; written = refl };
        aged = refl;
      },
      trees_unmarked t y.row.obeys,
    )

-- AND RECORD BY RECORD: as many, of the same tags, with the same children.
pub records-unmarked : (ts : Trees) → records (unmarked ts) ≡ records ts
unfolding records unmarked
records-unmarked trees.none = refl
records-unmarked (trees.node tag fields children ts) = omega (arith, records-unmarked children, records-unmarked ts)

roots-unmarked : (first : ℕ) (ts : Trees) → root_numbers first (unmarked ts) ≡ root_numbers first ts
unfolding root_numbers unmarked
roots-unmarked first trees.none = refl
roots-unmarked first (trees.node tag fields children ts) =
    ap (λ (n : ℕ). (first + n) ∷ root_numbers (first + n + 1) (unmarked ts)) (records-unmarked children)
    ∙ ap (λ (l : List ℕ). (first + records children) ∷ l) (roots-unmarked (first + records children + 1) ts)

-- The record without its mark, wherever it stands now.
pub record Without (at first : ℕ) (ts : Trees) (r : Record) : Type 0 where
  pub there : Record
  pub held : Holds at first (unmarked ts) there
  pub number : there.number ≡ r.number
  pub tag : there.tag ≡ r.tag
  pub fields : there.fields ≡ unmarked_fields r.tag r.fields
  pub children : there.children ≡ r.children

pub holds_unmarked : {at at' first : ℕ} {ts : Trees} {r : Record} → Holds at first ts r → Without at' first ts r
unfolding unmarked
holds_unmarked {first = first} (Holds.root {children = children}) = record {
  there = _;
  held = Holds.root;
  number = ap (λ (n : ℕ). first + n) (records-unmarked children);
  tag = refl;
  fields = refl;
  children = roots-unmarked first children;
}
holds_unmarked (Holds.under h) =
    let x = holds_unmarked h in record { there = x.there; held = Holds.under x.held; number = x.number; tag = x.tag; fields = x.fields; children = x.children }
holds_unmarked {at' = at'} {first = first} (Holds.beside {tag = tag} {fields = fields} {children = children} {ts = ts} h) =
    let to = at' + length (image (unmarked children)) + length (entry tag (unmarked_fields tag fields)) in
    let x = holds_unmarked {at' = to} h in
    record {
      there = x.there;
      held = Holds.beside (subst (λ (n : ℕ). Holds to (first + n + 1) (unmarked ts) x.there) (sym (records-unmarked children)) x.held);
      number = x.number;
      tag = x.tag;
      fields = x.fields;
      children = x.children;
    }

-- ── One kind ──────────────────────────────────────────────────────────────────────────────────────

infix_sized : (age : Age) {at first : ℕ} {ts : Trees} {r : Record} {σs : List Sort} → Holds at first ts r → Obeys Spans.forward σs (dated_trees age ts) → r.tag ≡ INFIX
    → length (payload r.fields) ≡ infix_length age
unfolding dated_trees
infix_sized old (Holds.root {tag = tag} {fields = fields}) (Obeys.node f g h k) e = old_size tag fields e (form_laid f)
infix_sized new (Holds.root {tag = tag} {fields = fields}) (Obeys.node f g h k) e = new_size tag fields e (form_laid f)
infix_sized age (Holds.under x) (Obeys.node f g h k) e = infix_sized age x h e
infix_sized age (Holds.beside x) (Obeys.node f g h k) e = infix_sized age x k e

-- ONE IMAGE DOES NOT HOLD BOTH KINDS: each infix record of an accepted image has the length of the image's age.
pub one_kind : {age : Age} {bytes : List ℕ} {t : Trees} → AcceptedAs age bytes t → (r : Record) → Holds 0 0 t r → r.tag ≡ INFIX → length (payload r.fields) ≡ infix_length age
one_kind {age} x r h e = infix_sized age h (aged x).row.obeys e

-- An image that is accepted as old and as new has no infix record.
pub neither_old_nor_new : {bytes : List ℕ} {t : Trees} → AcceptedAs old bytes t → AcceptedAs new bytes t → (r : Record) → Holds 0 0 t r → r.tag ≡ INFIX → ⊥
neither_old_nor_new x y r h e = omega (arith, one_kind x r h e, one_kind y r h e)
