-- Laws of rows of trees and of their images: lengths add up, and writing is appending.
-- Assumes nothing.
use mathlib.Core.Path.{◌≡◌, refl, sym, ap, subst, ◌∙◌}
use mathlib.Core.List.{List, ◌∷◌, ◌++◌, append_assoc, append-nil}
use Prim.Native.Nat.{ℕ, ◌+◌}
use native.Mathlib.Omega.{arith}
use lib.ListN.{length, length-append}
use Rattle.grammar.specs.Trees.{Field, byte, number, span, text, Trees, none, node, tree, ◌⊕◌, count}
use Rattle.grammar.specs.Alike.{AlikeFields, same, spans, nil, ◌⋆◌, Alike, no_trees, a_node}
use Rattle.grammar.specs.Image.{two, payload, entry, image}

pub row_end : (ts : Trees) → ts ⊕ none ≡ ts
unfolding ◌⊕◌
row_end none = refl
row_end (node tag fields children ts) = ap (node tag fields children) (row_end ts)

pub row_assoc : (ts us vs : Trees) → (ts ⊕ us) ⊕ vs ≡ ts ⊕ (us ⊕ vs)
unfolding ◌⊕◌
row_assoc none us vs = refl
row_assoc (node tag fields children ts) us vs = ap (node tag fields children) (row_assoc ts us vs)

pub count-row : (ts us : Trees) → count (ts ⊕ us) ≡ count ts + count us
unfolding ◌⊕◌ count
count-row none us = omega arith
count-row (node tag fields children ts) us = omega (arith, count-row ts us)

-- The image of two rows, of a record over a row, and of a row with a leaf more.
pub image-row : (ts us : Trees) → image (ts ⊕ us) ≡ image ts ++ image us
unfolding ◌⊕◌ image
image-row none us = refl
image-row (node tag fields children ts) us =
    ap (λ (l : List ℕ). (image children ++ entry tag fields) ++ l) (image-row ts us) ∙ sym (append_assoc (image children ++ entry tag fields) (image ts) (image us))

pub image_close : (tag : ℕ) (fields : List Field) (ts : Trees) → image (tree tag fields ts) ≡ image ts ++ entry tag fields
unfolding image
image_close tag fields ts = append-nil (image ts ++ entry tag fields)

pub image-leaf : (tag : ℕ) (fields : List Field) (ts : Trees) → image (ts ⊕ tree tag fields none) ≡ image ts ++ entry tag fields
unfolding image
image-leaf tag fields ts = image-row ts (tree tag fields none) ∙ ap (λ (l : List ℕ). image ts ++ l) (append-nil (entry tag fields))

-- A record's own bytes: three, and its payload.
pub entry_length : (tag : ℕ) (fields : List Field) → length (entry tag fields) ≡ 3 + length (payload fields)
unfolding entry
entry_length tag fields = omega (arith, length-append (two (length (payload fields))) (payload fields))

-- LENGTHS ADD UP.
pub image-length : (tag : ℕ) (fields : List Field) (children ts : Trees)
    → length (image (node tag fields children ts)) ≡ length (image children) + (3 + length (payload fields)) + length (image ts)
unfolding image
image-length tag fields children ts =
    omega (arith, length-append (image children ++ entry tag fields) (image ts), length-append (image children) (entry tag fields), entry_length tag fields)

pub close_length : (tag : ℕ) (fields : List Field) (ts : Trees) → length (image (tree tag fields ts)) ≡ length (image ts) + (3 + length (payload fields))
close_length tag fields ts = omega (arith, ap length (image_close tag fields ts), length-append (image ts) (entry tag fields), entry_length tag fields)

pub row-length : (ts us : Trees) → length (image (ts ⊕ us)) ≡ length (image ts) + length (image us)
row-length ts us = omega (arith, ap length (image-row ts us), length-append (image ts) (image us))

-- ── The same but for spans: as many bytes ─────────────────────────────────────────────────────────

same_field_length : (f : Field) {fs gs : List Field} → AlikeFields fs gs → length (payload fs) ≡ length (payload gs) → length (payload (f ∷ fs)) ≡ length (payload (f ∷ gs))
unfolding payload
same_field_length (byte b) a e = omega (arith, e)
same_field_length (number n) a e = omega (arith, e)
same_field_length (span i j) a e = omega (arith, e)
same_field_length (text w) nil e = refl
same_field_length (text w) (◌⋆◌ {f} {g} {fs} {gs} x a) e = omega (arith, e, length-append w (payload (f ∷ fs)), length-append w (payload (g ∷ gs)))

alike_payload : {fs gs : List Field} → AlikeFields fs gs → length (payload fs) ≡ length (payload gs)
unfolding payload
alike_payload nil = refl
alike_payload (◌⋆◌ {f} {g} {fs} {gs} (same e) a) = subst (λ (h : Field). length (payload (f ∷ fs)) ≡ length (payload (h ∷ gs))) e (same_field_length f a (alike_payload a))
alike_payload (spans ⋆ a) = omega (arith, alike_payload a)

pub alike_length : {ts us : Trees} → Alike ts us → length (image ts) ≡ length (image us)
alike_length no_trees = refl
alike_length (a_node {t} {fs} {gs} {cs} {ds} {ts} {us} f c r) = omega (arith, image-length t fs cs ts, image-length t gs ds us, alike_payload f, alike_length c, alike_length r)
