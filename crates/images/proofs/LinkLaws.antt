-- The links of a row of trees: one record more, and the walk back over the last trees.
-- Assumes nothing.
use mathlib.Core.Path.{◌≡◌, refl, sym, ap, ◌∙◌}
use mathlib.Core.List.{List, [], ◌∷◌, ◌++◌, append_assoc}
use Prim.Native.Nat.{ℕ, zero, suc, ◌+◌, ◌-◌, ◌*◌}
use native.Mathlib.Omega.{arith}
use lib.ListN.{length, get_or, length-append}
use lib.Seq.{get_or-append-add}
use Rattle.grammar.specs.Trees.{Field, Trees, tree, ◌⊕◌, count}
use Rattle.grammar.specs.Trees as trees
use Rattle.grammar.specs.Image.{entry, image}
use Rattle.grammar.proofs.ImageLaws.{row_assoc, count-row, row-length}
use Rattle.images.specs.Images.{records, links}
use Rattle.images.specs.Inner.{pops}
use Rattle.images.proofs.RowLaws.{records-row, part-row}

pub links-length : (at first : ℕ) (ts : Trees) → length (links at first ts) ≡ records ts * 2
unfolding links records
links-length at first trees.none = refl
links-length at first (trees.node tag fields children ts) =
    let a = at + length (image children) + length (entry tag fields) in
    let f = first + records children + 1 in
    omega (arith, length-append (links at first children) ((at + length (image children)) ∷ first ∷ links a f ts), links-length at first children, links-length a f ts)

pub links-row : (at first : ℕ) (ts us : Trees) → links at first (ts ⊕ us) ≡ links at first ts ++ links (at + length (image ts)) (first + records ts) us
unfolding links records image ◌⊕◌
links-row at first trees.none us = let a : at ≡ at + 0 = omega arith in let f : first ≡ first + 0 = omega arith in ap (λ (i : ℕ). links i first us) a ∙ ap (λ (i : ℕ). links (at + 0) i us) f
links-row at first (trees.node tag fields children ts) us =
    let a = at + length (image children) + length (entry tag fields) in
    let f = first + records children + 1 in
    let l1 = length-append (image children ++ entry tag fields) (image ts) in
    let l2 = length-append (image children) (entry tag fields) in
    let p : a + length (image ts) ≡ at + length ((image children ++ entry tag fields) ++ image ts) = omega (arith, l1, l2) in
    let q : f + records ts ≡ first + (records children + suc (records ts)) = omega arith in
    let r = links-row a f ts us in
    let s = ap (λ (i : ℕ). links i (f + records ts) us) p ∙ ap (λ (i : ℕ). links (at + length ((image children ++ entry tag fields) ++ image ts)) i us) q in
    ap (λ (l : List ℕ). links at first children ++ (at + length (image children)) ∷ first ∷ l) (r ∙ ap (λ (l : List ℕ). links a f ts ++ l) s)
    ∙ sym (append_assoc (links at first children) ((at + length (image children)) ∷ first ∷ links a f ts) (links (at + length ((image children ++ entry tag fields) ++ image ts)) (first + (records children + suc (records ts))) us))

-- One record more, over the last trees.
pub links_more : (us cs : Trees) (tag : ℕ) (fields : List Field) → links 0 0 (us ⊕ tree tag fields cs) ≡ links 0 0 (us ⊕ cs) ++ length (image (us ⊕ cs)) ∷ records us ∷ []
unfolding links
links_more us cs tag fields =
    let o : 0 + length (image us) + length (image cs) ≡ length (image (us ⊕ cs)) = omega (arith, row-length us cs) in
    let z : 0 + records us ≡ records us = omega arith in
    links-row 0 0 us (tree tag fields cs)
    ∙ sym (append_assoc (links 0 0 us) (links (0 + length (image us)) (0 + records us) cs) ((0 + length (image us) + length (image cs)) ∷ (0 + records us) ∷ []))
    ∙ ap (λ (l : List ℕ). l ++ (0 + length (image us) + length (image cs)) ∷ (0 + records us) ∷ []) (sym (links-row 0 0 us cs))
    ∙ ap (λ (i : ℕ). links 0 0 (us ⊕ cs) ++ i ∷ (0 + records us) ∷ []) o ∙ ap (λ (i : ℕ). links 0 0 (us ⊕ cs) ++ length (image (us ⊕ cs)) ∷ i ∷ []) z

-- A row of one tree.
pub record Single (t : Trees) : Type 0 where
  pub tag : ℕ
  pub fields : List Field
  pub children : Trees
  pub whole : t ≡ tree tag fields children

pub single : (t : Trees) → count t ≡ 1 → Single t
unfolding count
single trees.none e = absurd (omega arith)
single (trees.node tag fields cs trees.none) e = record { tag = tag; fields = fields; children = cs; whole = refl }
single (trees.node tag fields cs (trees.node t f c ts)) e = absurd (omega arith)

-- The first record of the last tree.
first_of : (array rest : List ℕ) (us cs : Trees) (tag : ℕ) (fields : List Field) → array ≡ links 0 0 (us ⊕ tree tag fields cs) ++ rest
    → get_or array ((records (us ⊕ tree tag fields cs) - 1) * 2 + 1) 0 ≡ records us
unfolding records
first_of array rest us cs tag fields e =
    let l = links-length 0 0 (us ⊕ cs) in
    let n = records-row us cs in
    let m = records-row us (tree tag fields cs) in
    let i : (records (us ⊕ tree tag fields cs) - 1) * 2 + 1 ≡ length (links 0 0 (us ⊕ cs)) + 1 = omega (arith, l, n, m) in
    let a : array ≡ links 0 0 (us ⊕ cs) ++ (length (image (us ⊕ cs)) ∷ records us ∷ [] ++ rest) =
    e ∙ ap (λ (x : List ℕ). x ++ rest) (links_more us cs tag fields) ∙ append_assoc (links 0 0 (us ⊕ cs)) (length (image (us ⊕ cs)) ∷ records us ∷ []) rest in
    ap (λ (x : List ℕ). get_or x ((records (us ⊕ tree tag fields cs) - 1) * 2 + 1) 0) a
    ∙ ap (λ (k : ℕ). get_or (links 0 0 (us ⊕ cs) ++ (length (image (us ⊕ cs)) ∷ records us ∷ [] ++ rest)) k 0) i
    ∙ get_or-append-add (links 0 0 (us ⊕ cs)) (length (image (us ⊕ cs)) ∷ records us ∷ [] ++ rest) 1 0

-- THE WALK BACK over the last k trees ends where they begin.
pub pops-row : (k : ℕ) (array rest : List ℕ) (us cs : Trees) → count cs ≡ k → array ≡ links 0 0 (us ⊕ cs) ++ rest → pops array (records (us ⊕ cs)) k ≡ records us
unfolding pops count ◌⊕◌
pops-row zero array rest us trees.none c e = ap records (end us)
  where
    end : (ts : Trees) → ts ⊕ trees.none ≡ ts
    end trees.none = refl
    end (trees.node tag fields children ts) = ap (trees.node tag fields children) (end ts)
pops-row zero array rest us (trees.node tag fields cs ts) c e = absurd (omega arith)
pops-row (suc k) array rest us cs c e =
    let p = part-row cs 1 k (omega (arith, c)) in
    let s = single p.cs p.many in
    let q : us ⊕ cs ≡ (us ⊕ p.us) ⊕ tree s.tag s.fields s.children =
    ap (λ (t : Trees). us ⊕ t) (p.whole ∙ ap (λ (t : Trees). p.us ⊕ t) s.whole) ∙ sym (row_assoc us p.us (tree s.tag s.fields s.children)) in
    let f = first_of array rest (us ⊕ p.us) s.children s.tag s.fields (e ∙ ap (λ (t : Trees). links 0 0 t ++ rest) q) in
    let r = links-row 0 0 (us ⊕ p.us) (tree s.tag s.fields s.children) in
    let n : count p.us ≡ k = omega (arith, c, ap count p.whole, count-row p.us p.cs, p.many) in
    ap (λ (t : Trees). pops array (get_or array ((records t - 1) * 2 + 1) 0) k) q ∙ ap (λ (m : ℕ). pops array m k) f
    ∙ pops-row k array _ us p.us n (e ∙ ap (λ (t : Trees). links 0 0 t ++ rest) q ∙ ap (λ (l : List ℕ). l ++ rest) r ∙ append_assoc (links 0 0 (us ⊕ p.us)) _ rest)
