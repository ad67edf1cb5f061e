-- A record is determined by the bytes from its place on, of whichever age the image is: its tag, its fields, how many children they tell of, and what
-- follows it. With the trees before it, the trees after it are determined too.
-- Assumes nothing.
use mathlib.Core.Path.{◌≡◌, refl, sym, ap, subst, ◌∙◌}
use mathlib.Core.Bool.{Bool, true, false}
use mathlib.Core.List.{List, [], ◌∷◌, ◌++◌}
use Prim.Native.Nat.{ℕ, ◌+◌, ◌/◌, ◌%◌}
use native.Mathlib.Omega.{arith}
use lib.Dec.{eqb}
use lib.ListN.{length, drop, get_or, length-map}
use lib.Seq.{slice}
use borrow.Author.Tests.{eqb-true, eqb-false, eq-eqb}
use Rattle.grammar.specs.Tags.{INFIX}
use Rattle.grammar.specs.Trees.{Field, byte, number, span, text, Trees, tree, ◌⊕◌, count}
use Rattle.grammar.specs.Trees as trees
use Rattle.grammar.specs.Image.{two, payload}
use Rattle.grammar.specs.Layout.{Part, Layout, layout_of, Laid, over, a_span, a_text, a_count, a_flag, a_slice, a_byte, Tells, tells, bits_in}
use Rattle.grammar.proofs.ImageLaws.{count-row}
use Rattle.grammar.proofs.LayoutLaws.{form_laid}
use Rattle.grammar.proofs.Sorts.{fits-length}
use Rattle.images.specs.Images.{Age, old, new, dated, Row, Stands, More}
use Rattle.images.specs.Inner.{sort_of}
use Rattle.images.proofs.EntryLaws.{entry_there}
use Rattle.images.proofs.RowLaws.{tags, tags_count, dated_other, row_less}
use Rattle.images.proofs.StepLaws.{infix_laid, OldFields, old_fields, zero_laid, new_length}

-- ── Fields by their bytes ─────────────────────────────────────────────────────────────────────────

two_once : (m n : ℕ) (ws vs : List ℕ) → two m ++ ws ≡ two n ++ vs → (m ≡ n) × (ws ≡ vs)
two_once m n ws vs e =
    let high : m / 256 ≡ n / 256 = ap (λ (l : List ℕ). get_or l 0 0) e in
    let low : m % 256 ≡ n % 256 = ap (λ (l : List ℕ). get_or l 1 0) e in
    (omega arith, ap (drop 2) e)

-- Fields of one layout are the same, and tell of as many children, where their bytes are the same.
laid_once : {ps : List Part} {fs gs : List Field} {m n : ℕ} → Laid ps fs m → Laid ps gs n → payload fs ≡ payload gs → (fs ≡ gs) × (m ≡ n)
unfolding payload
laid_once over over e = (refl, refl)
laid_once (a_span {a = a} {e = b} {fs = fs} l) (a_span {a = c} {e = d} {fs = gs} k) e =
    let x = two_once a c (two b ++ payload fs) (two d ++ payload gs) e in
    let y = two_once b d (payload fs) (payload gs) x.1 in
    let z = laid_once l k y.1 in
    (ap (λ (i : ℕ). span i b ∷ fs) x.0 ∙ ap (λ (i : ℕ). span c i ∷ fs) y.0 ∙ ap (λ (hs : List Field). span c d ∷ hs) z.0, z.1)
laid_once a_text a_text e = (ap (λ (w : List ℕ). text w ∷ []) e, refl)
laid_once (a_count {m = a} {n = m} {fs = fs} l) (a_count {m = b} {n = n} {fs = gs} k) e =
    let x = two_once a b (payload fs) (payload gs) e in
    let z = laid_once l k x.1 in
    (ap (λ (i : ℕ). number i ∷ fs) x.0 ∙ ap (λ (hs : List Field). number b ∷ hs) z.0, omega (arith, x.0, z.1))
laid_once (a_flag {b = a} {fs = fs} h l) (a_flag {b = b} {fs = gs} g k) e =
    let x : a ≡ b = ap (λ (w : List ℕ). get_or w 0 0) e in
    let z = laid_once l k (ap (drop 1) e) in
    (ap (λ (i : ℕ). byte i ∷ fs) x ∙ ap (λ (hs : List Field). byte b ∷ hs) z.0, omega (arith, z.1))
laid_once (a_slice {b = a} {n = m} {fs = fs} h l) (a_slice {b = b} {n = n} {fs = gs} g k) e =
    let x : a ≡ b = ap (λ (w : List ℕ). get_or w 0 0) e in
    let z = laid_once l k (ap (drop 1) e) in
    (ap (λ (i : ℕ). byte i ∷ fs) x ∙ ap (λ (hs : List Field). byte b ∷ hs) z.0, ap (λ (i : ℕ). bits_in i + m) x ∙ ap (λ (i : ℕ). bits_in b + i) z.1)
laid_once (a_byte {b = a} {fs = fs} h l) (a_byte {b = b} {fs = gs} g k) e =
    let x : a ≡ b = ap (λ (w : List ℕ). get_or w 0 0) e in
    let z = laid_once l k (ap (drop 1) e) in
    (ap (λ (i : ℕ). byte i ∷ fs) x ∙ ap (λ (hs : List Field). byte b ∷ hs) z.0, z.1)

told_alike : {l : Layout} {fs gs : List Field} {m n : ℕ} → Tells l fs m → Tells l gs n → payload fs ≡ payload gs → (fs ≡ gs) × (m ≡ n)
told_alike (tells {own = own} l) (tells k) e = let x = laid_once l k e in (x.0, ap (λ (i : ℕ). own + i) x.1)

-- ── Infix records, old and new ────────────────────────────────────────────────────────────────────

pub old_infix : (tag : ℕ) (fs : List Field) {n : ℕ} → tag ≡ INFIX → Tells (layout_of tag) (dated old tag fs) n → OldFields fs × (n ≡ 2)
unfolding dated
old_infix tag fs {n} e t =
    let d : dated old tag fs ≡ fs ++ span 0 0 ∷ [] = rw (eq-eqb tag INFIX e) in
    let x = infix_laid e (subst (λ (gs : List Field). Tells (layout_of tag) gs n) d t) in
    (old_fields fs x.1, omega (arith, zero_laid x.1, x.2))

-- One byte old, five new.
pub old_size : (tag : ℕ) (fs : List Field) {n : ℕ} → tag ≡ INFIX → Tells (layout_of tag) (dated old tag fs) n → length (payload fs) ≡ 1
unfolding payload
old_size tag fs e t = ap (λ (gs : List Field). length (payload gs)) (old_infix tag fs e t).0.whole

pub new_size : (tag : ℕ) (fs : List Field) {n : ℕ} → tag ≡ INFIX → Tells (layout_of tag) (dated new tag fs) n → length (payload fs) ≡ 5
unfolding dated
new_size tag fs e t = new_length (infix_laid e t).1

infix_once : (g h : Age) (tag : ℕ) (fs gs : List Field) {m n : ℕ} → tag ≡ INFIX → Tells (layout_of tag) (dated g tag fs) m → Tells (layout_of tag) (dated h tag gs) n
    → payload fs ≡ payload gs → (fs ≡ gs) × (m ≡ n)
unfolding dated payload
infix_once new new tag fs gs i t u e = told_alike t u e
infix_once old new tag fs gs i t u e = absurd (omega (arith, old_size tag fs i t, new_size tag gs i u, ap length e))
infix_once new old tag fs gs i t u e = absurd (omega (arith, new_size tag fs i t, old_size tag gs i u, ap length e))
infix_once old old tag fs gs i t u e =
    let x = old_infix tag fs i t in
    let y = old_infix tag gs i u in
    let b : x.0.operator ≡ y.0.operator = ap (λ (w : List ℕ). get_or w 0 0) (sym (ap payload x.0.whole) ∙ e ∙ ap payload y.0.whole) in
    (x.0.whole ∙ ap (λ (o : ℕ). byte o ∷ []) b ∙ sym y.0.whole, x.1 ∙ sym y.1)

told_once : (g h : Age) (tag : ℕ) (fs gs : List Field) {m n : ℕ} → Tells (layout_of tag) (dated g tag fs) m → Tells (layout_of tag) (dated h tag gs) n → payload fs ≡ payload gs
    → (fs ≡ gs) × (m ≡ n)
told_once g h tag fs gs {m} {n} t u e = by (eqb tag INFIX) refl
  where
    by : (b : Bool) → eqb tag INFIX ≡ b → (fs ≡ gs) × (m ≡ n)
    by true q = infix_once g h tag fs gs (eqb-true tag INFIX q) t u e
    by false q =
        let other = eqb-false tag INFIX q in
        told_alike (subst (λ (l : List Field). Tells (layout_of tag) l m) (dated_other g tag fs other) t) (subst (λ (l : List Field). Tells (layout_of tag) l n) (dated_other h tag gs other) u) e

-- The fields that the table has are the same, of whichever age the record is.
pub dated_once : (g h : Age) (tag : ℕ) (fs : List Field) {m n : ℕ} → Tells (layout_of tag) (dated g tag fs) m → Tells (layout_of tag) (dated h tag fs) n → dated g tag fs ≡ dated h tag fs
dated_once g h tag fs {m} {n} t u = by (eqb tag INFIX) refl
  where
    ages : (a b : Age) → tag ≡ INFIX → Tells (layout_of tag) (dated a tag fs) m → Tells (layout_of tag) (dated b tag fs) n → dated a tag fs ≡ dated b tag fs
    ages old old e t u = refl
    ages new new e t u = refl
    ages old new e t u = absurd (omega (arith, old_size tag fs e t, new_size tag fs e u))
    ages new old e t u = absurd (omega (arith, new_size tag fs e t, old_size tag fs e u))

    by : (b : Bool) → eqb tag INFIX ≡ b → dated g tag fs ≡ dated h tag fs
    by true q = ages g h (eqb-true tag INFIX q) t u
    by false q = let other = eqb-false tag INFIX q in dated_other g tag fs other ∙ sym (dated_other h tag fs other)

-- ── The record that stands next ───────────────────────────────────────────────────────────────────

pub record SameRecord {ts us : Trees} {rest : List ℕ} {tag tag' m n : ℕ} (x : Stands ts rest tag m) (y : Stands us rest tag' n) : Type 0 where
  pub tags : tag ≡ tag'
  pub fields : x.fields ≡ y.fields
  pub after : x.after ≡ y.after
  pub children : m ≡ n

pub stands_once : {ts us : Trees} {rest : List ℕ} {tag tag' m n : ℕ} (x : Stands ts rest tag m) (y : Stands us rest tag' n) → SameRecord x y
stands_once {rest = rest} {tag} {tag'} {m} {n} x y =
    let a = entry_there rest 0 tag x.fields x.after (omega arith) x.here in
    let b = entry_there rest 0 tag' y.fields y.after (omega arith) y.here in
    let e : tag ≡ tag' = a.tagged ∙ sym b.tagged in
    let l : length (payload x.fields) ≡ length (payload y.fields) = sym a.sized ∙ b.sized in
    let p : payload x.fields ≡ payload y.fields = a.paid ∙ ap (λ (i : ℕ). slice (0 + 3) (0 + 3 + i) rest) l ∙ sym b.paid in
    let told = subst (λ (i : ℕ). Tells (layout_of i) (dated y.age i y.fields) n) (sym e) y.told in
    let f = told_once x.age y.age tag x.fields y.fields x.told told p in
    record { tags = e; fields = f.0; after = a.follows ∙ ap (λ (i : ℕ). drop (0 + 3 + i) rest) l ∙ sym b.follows; children = f.1 }

-- ── One record more ───────────────────────────────────────────────────────────────────────────────

-- The record that makes one more stands there, and tells of the children that it takes.
pub more_stands : {ts : Trees} {rest : List ℕ} (x : More ts rest) → Stands ts rest x.tag (count x.children)
more_stands {ts} {rest} x =
    let y = row_less x.age x.us x.children x.tag x.fields x.row in
    let o = y.0 in
    let n : length o.wanted ≡ count x.children = sym (fits-length o.fits) ∙ length-map (tags x.children) sort_of ∙ tags_count x.children in
    record {
      age = x.age;
      row = subst (λ (t : Trees). Row x.age t) (sym x.roots) y.1;
      fields = x.fields;
      after = x.after;
      here = x.here;
      told = subst (λ (i : ℕ). Tells (layout_of x.tag) (dated x.age x.tag x.fields) i) n (form_laid o.form);
    }

-- The first tree of a row, and the row to its right.
abbrev first : Trees → Trees
first trees.none = trees.none
first (trees.node tag fields children ts) = tree tag fields children

abbrev right : Trees → Trees
right trees.none = trees.none
right (trees.node tag fields children ts) = ts

-- A row is split in one way before its last trees, so many.
split_once : (us vs cs ds : Trees) → us ⊕ cs ≡ vs ⊕ ds → count cs ≡ count ds → (us ≡ vs) × (cs ≡ ds)
unfolding ◌⊕◌ count
split_once trees.none trees.none cs ds e n = (refl, e)
split_once trees.none (trees.node tag fields children vs) cs ds e n = absurd (omega (arith, ap count e, count-row vs ds, n))
split_once (trees.node tag fields children us) trees.none cs ds e n = absurd (omega (arith, ap count e, count-row us cs, n))
split_once (trees.node tag fields children us) (trees.node tag' fields' children' vs) cs ds e n =
    let x = split_once us vs cs ds (ap right e) n in
    (ap (λ (t : Trees). t ⊕ us) (ap first e) ∙ ap (trees.node tag' fields' children') x.0, x.1)

abbrev pub grown : {ts : Trees} {rest : List ℕ} → More ts rest → Trees
grown x = x.us ⊕ tree x.tag x.fields x.children

-- ONE RECORD MORE IN ONE WAY.
pub more_once : {ts : Trees} {rest : List ℕ} (x y : More ts rest) → (grown x ≡ grown y) × (x.after ≡ y.after)
unfolding more_stands ◌⊕◌
more_once x y =
    let s = stands_once (more_stands x) (more_stands y) in
    let p = split_once x.us y.us x.children y.children (sym x.roots ∙ y.roots) s.children in (
      ap (λ (t : Trees). t ⊕ tree x.tag x.fields x.children) p.0 ∙ ap (λ (t : ℕ). y.us ⊕ tree t x.fields x.children) s.tags
          ∙ ap (λ (fs : List Field). y.us ⊕ tree y.tag fs x.children) s.fields ∙ ap (λ (cs : Trees). y.us ⊕ tree y.tag y.fields cs) p.1,
      s.after,
    )
