-- Trees that stand in an image, taken apart; and what the image and the array have of a record.
-- Assumes nothing.
use mathlib.Core.Path.{◌≡◌, refl, sym, ap, ◌∙◌}
use mathlib.Core.List.{List, [], ◌∷◌, ◌++◌, append_assoc}
use Prim.Native.Nat.{ℕ, ◌+◌, ◌*◌, ◌<◌}
use native.Mathlib.Omega.{arith}
use lib.ListN.{length, get_or, drop, length-drop}
use lib.Seq.{drop-drop, drop_at, get_or-drop}
use Rattle.grammar.specs.Trees.{Field, Trees, tree, ◌⊕◌}
use Rattle.grammar.specs.Trees as trees
use Rattle.grammar.specs.Image.{entry, image}
use Rattle.grammar.proofs.ImageLaws.{image-row, image_close}
use Rattle.images.specs.Images.{records, links}
use Rattle.images.proofs.RowLaws.{row_halves, row_less, Over}
use Rattle.images.proofs.LinkLaws.{links-length, links-row}
use Rattle.mass.specs.Inner.{Standing, Root}

module _ {bytes array : List ℕ} where
  -- ── Trees side by side ──────────────────────────────────────────────────────────────────────────

  module _ {at first : ℕ} (us vs : Trees) (s : Standing bytes array at first (us ⊕ vs)) where
    image_left : drop at bytes ≡ image us ++ (image vs ++ s.after)
    image_left = s.split ∙ ap (λ (l : List ℕ). l ++ s.after) (image-row us vs) ∙ append_assoc (image us) (image vs) s.after

    links_left : drop (first * 2) array ≡ links at first us ++ (links (at + length (image us)) (first + records us) vs ++ s.links_after)
    links_left = s.linked ∙ ap (λ (l : List ℕ). l ++ s.links_after) (links-row at first us vs)
        ∙ append_assoc (links at first us) (links (at + length (image us)) (first + records us) vs) s.links_after

    pub left : Standing bytes array at first us
    left = record { age = s.age; row = (row_halves s.age us vs s.row).0; after = _; split = image_left; links_after = _; linked = links_left }

    pub right : Standing bytes array (at + length (image us)) (first + records us) vs
    right =
        let k : (first + records us) * 2 ≡ first * 2 + records us * 2 = omega arith in
        record {
          age = s.age;
          row = (row_halves s.age us vs s.row).1;
          after = s.after;
          split = sym (drop-drop (length (image us)) at bytes) ∙ ap (drop (length (image us))) image_left ∙ drop_at (image us) (image vs ++ s.after) (length (image us)) refl;
          links_after = s.links_after;
          linked = ap (λ (i : ℕ). drop i array) k ∙ sym (drop-drop (records us * 2) (first * 2) array) ∙ ap (drop (records us * 2)) links_left
              ∙ drop_at (links at first us) (links (at + length (image us)) (first + records us) vs ++ s.links_after) (records us * 2) (links-length at first us);
        }

  -- ── A record and its children ───────────────────────────────────────────────────────────────────

  module _ {at first tag : ℕ} {fields : List Field} {cs : Trees} (s : Standing bytes array at first (tree tag fields cs)) where
    pub over : Over s.age tag fields cs
    unfolding ◌⊕◌
    over = (row_less s.age trees.none cs tag fields s.row).0

    image_children : drop at bytes ≡ image cs ++ (entry tag fields ++ s.after)
    image_children = s.split ∙ ap (λ (l : List ℕ). l ++ s.after) (image_close tag fields cs) ∙ append_assoc (image cs) (entry tag fields) s.after

    links_children : drop (first * 2) array ≡ links at first cs ++ (at + length (image cs)) ∷ first ∷ s.links_after
    unfolding links
    links_children = s.linked ∙ append_assoc (links at first cs) ((at + length (image cs)) ∷ first ∷ []) s.links_after

    pub children : Standing bytes array at first cs
    unfolding ◌⊕◌
    children = record { age = s.age; row = (row_less s.age trees.none cs tag fields s.row).1; after = _; split = image_children; links_after = _; linked = links_children }

    pub entry_at : drop (at + length (image cs)) bytes ≡ entry tag fields ++ s.after
    entry_at = sym (drop-drop (length (image cs)) at bytes) ∙ ap (drop (length (image cs))) image_children ∙ drop_at (image cs) (entry tag fields ++ s.after) (length (image cs)) refl

    pub links_at : drop ((first + records cs) * 2) array ≡ (at + length (image cs)) ∷ first ∷ s.links_after
    links_at =
        let k : (first + records cs) * 2 ≡ first * 2 + records cs * 2 = omega arith in
        ap (λ (i : ℕ). drop i array) k ∙ sym (drop-drop (records cs * 2) (first * 2) array) ∙ ap (drop (records cs * 2)) links_children
        ∙ drop_at (links at first cs) ((at + length (image cs)) ∷ first ∷ s.links_after) (records cs * 2) (links-length at first cs)

-- What a list has from a place on, read there.
pub read_at : (l : List ℕ) {m : List ℕ} (k i : ℕ) → drop k l ≡ m → get_or l (k + i) 0 ≡ get_or m i 0
read_at l k i e = sym (get_or-drop k l i 0) ∙ ap (λ (x : List ℕ). get_or x i 0) e

pub long_at : (l : List ℕ) {m : List ℕ} (k : ℕ) → drop k l ≡ m → 0 < length m → k + length m ≡ length l
long_at l k e h = omega (arith, sym (length-drop k l) ∙ ap length e)

-- ── What is read of a record ──────────────────────────────────────────────────────────────────────

-- Record n as the code finds it: its offset and the first record of its tree in the array, and from that offset on the image has it.
pub record Seen (bytes array : List ℕ) (n at first tag : ℕ) (fields : List Field) : Type 0 where
  pub in_array : n * 2 + 1 < length array
  pub offset : get_or array (n * 2) 0 ≡ at
  pub first_is : get_or array (n * 2 + 1) 0 ≡ first
  pub after : List ℕ
  pub here : drop (get_or array (n * 2) 0) bytes ≡ entry tag fields ++ after

pub seen : {bytes array : List ℕ} {n tag : ℕ} {fields : List Field} {cs : Trees} (r : Root bytes array n tag fields cs) → Seen bytes array n (r.at + length (image cs)) r.first tag fields
seen {bytes} {array} {n} {tag} {fields} {cs} r =
    let s = r.standing in
    let e : drop (n * 2) array ≡ (r.at + length (image cs)) ∷ r.first ∷ s.links_after = ap (λ (i : ℕ). drop (i * 2) array) r.number ∙ links_at s in
    let z : n * 2 + 0 ≡ n * 2 = omega arith in
    let o : get_or array (n * 2) 0 ≡ r.at + length (image cs) = ap (λ (i : ℕ). get_or array i 0) (sym z) ∙ read_at array (n * 2) 0 e in
    let l = long_at array (n * 2) e (omega arith) in
    record {
      in_array = omega (arith, l);
      offset = o;
      first_is = read_at array (n * 2) 1 e;
      after = s.after;
      here = ap (λ (i : ℕ). drop i bytes) o ∙ entry_at s;
    }
