-- Rows of trees: tags and sorts of their roots, a row with a record more, and a row split.
-- Assumes nothing.
use mathlib.Core.Path.{◌≡◌, refl, sym, ap, subst, ◌∙◌}
use mathlib.Core.List.{List, [], ◌∷◌, ◌++◌, map, append_assoc}
use Prim.Native.Nat.{ℕ, zero, suc, ◌+◌}
use native.Mathlib.Omega.{arith}
use lib.ListN.{length, take, drop}
use lib.Seq.{take_at, drop_at}
use borrow.Author.Tests.{ne_eqb}
use Rattle.grammar.specs.Tags.{INFIX}
use Rattle.grammar.specs.Trees.{Field, span, Trees, tree, ◌⊕◌, count}
use Rattle.grammar.specs.Trees as trees
use Rattle.grammar.specs.Image.{entry, image}
use Rattle.grammar.specs.Records.{Sort, Fits, Spans, Form, Obeys}
use Rattle.grammar.proofs.ImageLaws.{image-row, image_close}
use Rattle.grammar.proofs.Obeys.{obeys_append}
use Rattle.images.specs.Images.{Age, old, new, dated, dated_trees, Row, records}
use Rattle.images.specs.Inner.{sort_of, roots}
use Rattle.images.proofs.FormLaws.{form_asked}

-- ── Rows side by side ─────────────────────────────────────────────────────────────────────────────

-- The tags of the roots.
unfoldable pub tags : Trees → List ℕ
tags trees.none = []
tags (trees.node tag fields children ts) = tag ∷ tags ts

pub tags_row : (ts us : Trees) → tags (ts ⊕ us) ≡ tags ts ++ tags us
unfolding tags ◌⊕◌
tags_row trees.none us = refl
tags_row (trees.node tag fields children ts) us = ap (λ (l : List ℕ). tag ∷ l) (tags_row ts us)

pub tags_count : (ts : Trees) → length (tags ts) ≡ count ts
unfolding tags count
tags_count trees.none = refl
tags_count (trees.node tag fields children ts) = ap suc (tags_count ts)

pub dated_row : (age : Age) (ts us : Trees) → dated_trees age (ts ⊕ us) ≡ dated_trees age ts ⊕ dated_trees age us
unfolding dated_trees ◌⊕◌
dated_row age trees.none us = refl
dated_row age (trees.node tag fields children ts) us = ap (trees.node tag (dated age tag fields) (dated_trees age children)) (dated_row age ts us)

pub tags_dated : (age : Age) (ts : Trees) → tags (dated_trees age ts) ≡ tags ts
unfolding tags dated_trees
tags_dated age trees.none = refl
tags_dated age (trees.node tag fields children ts) = ap (λ (l : List ℕ). tag ∷ l) (tags_dated age ts)

pub records-row : (ts us : Trees) → records (ts ⊕ us) ≡ records ts + records us
unfolding records ◌⊕◌
records-row trees.none us = omega arith
records-row (trees.node tag fields children ts) us = omega (arith, records-row ts us)

-- The image of a row with a record more, over its last trees.
pub image_more : (us cs : Trees) (tag : ℕ) (fields : List Field) → image (us ⊕ tree tag fields cs) ≡ image (us ⊕ cs) ++ entry tag fields
image_more us cs tag fields =
    image-row us (tree tag fields cs) ∙ ap (λ (l : List ℕ). image us ++ l) (image_close tag fields cs) ∙ sym (append_assoc (image us) (image cs) (entry tag fields))
    ∙ ap (λ (l : List ℕ). l ++ entry tag fields) (sym (image-row us cs))

-- The last n trees of a row.
pub record Parted (ts : Trees) (n : ℕ) : Type 0 where
  pub us : Trees
  pub cs : Trees
  pub whole : ts ≡ us ⊕ cs
  pub many : count cs ≡ n

pub part-row : (ts : Trees) (n k : ℕ) → count ts ≡ k + n → Parted ts n
unfolding count ◌⊕◌
part-row ts n zero e = record { us = trees.none; cs = ts; whole = refl; many = omega (arith, e) }
part-row trees.none n (suc k) e = absurd (omega arith)
part-row (trees.node tag fields children ts) n (suc k) e =
    let x = part-row ts n k (omega arith) in
    record { us = trees.node tag fields children x.us; cs = x.cs; whole = ap (trees.node tag fields children) x.whole; many = x.many }

pub fits_as : {σs τs ws : List Sort} → σs ≡ τs → Fits σs ws → Fits τs ws
fits_as {ws = ws} e f = subst (λ (l : List Sort). Fits l ws) e f

-- ── Sorts ─────────────────────────────────────────────────────────────────────────────────────────

pub obeys_sorts : {q : List Sort} {ts : Trees} → Obeys Spans.forward q ts → q ≡ map sort_of (tags ts)
unfolding tags
obeys_sorts Obeys.none = refl
obeys_sorts (Obeys.node {tag = tag} {σs = σs} f g h k) = ap (λ (σ : Sort). σ ∷ σs) (form_asked f).sort ∙ ap (λ (l : List Sort). sort_of tag ∷ l) (obeys_sorts k)

-- Rows that obey, taken apart.
pub record Halves (ts us : Trees) : Type 0 where
  pub left : List Sort
  pub right : List Sort
  pub obeys_left : Obeys Spans.forward left ts
  pub obeys_right : Obeys Spans.forward right us

pub obeys_halves : (ts us : Trees) {σs : List Sort} → Obeys Spans.forward σs (ts ⊕ us) → Halves ts us
unfolding ◌⊕◌
obeys_halves trees.none us o = record { left = []; right = _; obeys_left = Obeys.none; obeys_right = o }
obeys_halves (trees.node tag fields children ts) us (Obeys.node f g h k) =
    let x = obeys_halves ts us k in
    record { left = _ ∷ x.left; right = x.right; obeys_left = Obeys.node f g h x.obeys_left; obeys_right = x.obeys_right }

module _ (age : Age) where
  pub row_halves : (ts us : Trees) → Row age (ts ⊕ us) → Row age ts × Row age us
  row_halves ts us r =
      let x = obeys_halves (dated_trees age ts) (dated_trees age us) (subst (λ (t : Trees). Obeys Spans.forward r.sorts t) (dated_row age ts us) r.obeys) in
      (record { sorts = x.left; obeys = x.obeys_left }, record { sorts = x.right; obeys = x.obeys_right })

  pub row_join : (ts us : Trees) → Row age ts → Row age us → Row age (ts ⊕ us)
  row_join ts us r s = record { sorts = r.sorts ++ s.sorts; obeys = subst (λ (t : Trees). Obeys Spans.forward (r.sorts ++ s.sorts) t) (sym (dated_row age ts us)) (obeys_append r.obeys s.obeys) }

  pub row-sorts : (ts : Trees) (r : Row age ts) → r.sorts ≡ map sort_of (tags ts)
  row-sorts ts r = obeys_sorts r.obeys ∙ ap (map sort_of) (tags_dated age ts)

  -- A record over the last trees of a row.
  pub record Over (tag : ℕ) (fields : List Field) (cs : Trees) : Type 0 where
    pub sort : Sort
    pub wanted : List Sort
    pub form : Form Spans.forward sort tag (dated age tag fields) wanted
    pub fits : Fits (map sort_of (tags cs)) wanted

  pub row_more : (us cs : Trees) (tag : ℕ) (fields : List Field) → Row age (us ⊕ cs) → Over tag fields cs → Row age (us ⊕ tree tag fields cs)
  unfolding dated_trees
  row_more us cs tag fields r o =
      let h = row_halves us cs r in
      let f = subst (λ (l : List Sort). Fits l o.wanted) (sym (row-sorts cs h.1)) o.fits in
      row_join us (tree tag fields cs) h.0 (record { sorts = o.sort ∷ []; obeys = Obeys.node o.form f h.1.obeys Obeys.none })

  alone : {σs : List Sort} {tag : ℕ} {fields : List Field} {cs : Trees} → Obeys Spans.forward σs (tree tag (dated age tag fields) (dated_trees age cs)) → Over tag fields cs × Row age cs
  alone {cs = cs} (Obeys.node {σ = σ} {wanted = wanted} {actual = actual} f g h Obeys.none) =
      let r : Row age cs = record { sorts = actual; obeys = h } in
      (record { sort = σ; wanted = wanted; form = f; fits = fits_as (row-sorts cs r) g }, r)

  pub row_less : (us cs : Trees) (tag : ℕ) (fields : List Field) → Row age (us ⊕ tree tag fields cs) → Over tag fields cs × Row age (us ⊕ cs)
  unfolding dated_trees
  row_less us cs tag fields r =
      let h = row_halves us (tree tag fields cs) r in
      let a = alone h.1.obeys in
      (a.0, row_join us cs h.0 a.1)

-- ── Ages ──────────────────────────────────────────────────────────────────────────────────────────

pub dated_other : (age : Age) (tag : ℕ) (fields : List Field) → (tag ≡ INFIX → ⊥) → dated age tag fields ≡ fields
unfolding dated
dated_other old tag fields n = rw (ne_eqb tag INFIX n)
dated_other new tag fields n = refl

-- ── The tags, the last first ──────────────────────────────────────────────────────────────────────

-- A list backward, before another.
unfoldable pub back : List ℕ → List ℕ → List ℕ
back [] l = l
back (x ∷ xs) l = back xs (x ∷ l)

pub roots_back : (ts : Trees) (l : List ℕ) → roots ts l ≡ back (tags ts) l
unfolding roots tags back
roots_back trees.none l = refl
roots_back (trees.node tag fields children ts) l = roots_back ts (tag ∷ l)

pub roots-row : (ts us : Trees) (l : List ℕ) → roots (ts ⊕ us) l ≡ roots us (roots ts l)
unfolding roots ◌⊕◌
roots-row trees.none us l = refl
roots-row (trees.node tag fields children ts) us l = roots-row ts us (tag ∷ l)

pub back_append : (xs ys l : List ℕ) → back (xs ++ ys) l ≡ back ys (back xs l)
unfolding back
back_append [] ys l = refl
back_append (x ∷ xs) ys l = back_append xs ys (x ∷ l)

pub back_onto : (xs l : List ℕ) → back xs l ≡ back xs [] ++ l
unfolding back
back_onto [] l = refl
back_onto (x ∷ xs) l = back_onto xs (x ∷ l) ∙ sym (append_assoc (back xs []) (x ∷ []) l) ∙ sym (ap (λ (r : List ℕ). r ++ l) (back_onto xs (x ∷ [])))

pub back_length : (xs l : List ℕ) → length (back xs l) ≡ length xs + length l
unfolding back
back_length [] l = omega arith
back_length (x ∷ xs) l = omega (arith, back_length xs (x ∷ l))

pub take_back : (n : ℕ) (xs l : List ℕ) → length xs ≡ n → take n (back xs l) ≡ back xs []
take_back n xs l e = ap (take n) (back_onto xs l) ∙ take_at (back xs []) l n (omega (arith, back_length xs [], e))

pub drop_back : (n : ℕ) (xs l : List ℕ) → length xs ≡ n → drop n (back xs l) ≡ l
drop_back n xs l e = ap (drop n) (back_onto xs l) ∙ drop_at (back xs []) l n (omega (arith, back_length xs [], e))

pub back_back : (xs : List ℕ) (l : List ℕ) → back (back xs l) [] ≡ back l xs
unfolding back
back_back [] l = refl
back_back (x ∷ xs) l = back_back xs (x ∷ l)
