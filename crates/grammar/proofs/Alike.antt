-- Laws of trees that are the same but for spans (specs/Alike.antt), and of rows of trees side by side.
-- Assumes nothing.
use mathlib.Core.Path.{◌≡◌, refl, sym, ap, subst, ◌∙◌}
use mathlib.Core.List.{List, [], ◌∷◌}
use Prim.Native.Nat.{ℕ, suc}
use Rattle.grammar.specs.Trees.{Field, byte, number, span, text, Trees, none, node, tree, ◌⊕◌, count}
pub use Rattle.grammar.specs.Alike.{AlikeField, same, spans, AlikeFields, nil, ◌⋆◌, Alike, no_trees, a_node}

-- ── Rows ──────────────────────────────────────────────────────────────────────────────────────────

pub ⊕_none : (ts : Trees) → ts ⊕ none ≡ ts
unfolding ◌⊕◌
⊕_none none = refl
⊕_none (node t fs cs ts) = ap (node t fs cs) (⊕_none ts)

pub ⊕_assoc : (ts us vs : Trees) → ts ⊕ us ⊕ vs ≡ ts ⊕ (us ⊕ vs)
unfolding ◌⊕◌
⊕_assoc none us vs = refl
⊕_assoc (node t fs cs ts) us vs = ap (node t fs cs) (⊕_assoc ts us vs)

-- ── Alike ─────────────────────────────────────────────────────────────────────────────────────────

pub alike_tree : {t : ℕ} {fs gs : List Field} {cs ds : Trees} → AlikeFields fs gs → Alike cs ds → Alike (tree t fs cs) (tree t gs ds)
alike_tree f a = a_node f a no_trees

pub alike_⊕ : {ts us vs ws : Trees} → Alike ts us → Alike vs ws → Alike (ts ⊕ vs) (us ⊕ ws)
unfolding ◌⊕◌
alike_⊕ no_trees b = b
alike_⊕ (a_node f c r) b = a_node f c (alike_⊕ r b)

pub alike_none : {t us : Trees} → Alike t us → Alike (t ⊕ none) us
alike_none {t} {us} a = subst (λ (w : Trees). Alike w us) (sym (⊕_none t)) a

pub alike_count : {ts us : Trees} → Alike ts us → count ts ≡ count us
unfolding count
alike_count no_trees = refl
alike_count (a_node f c r) = ap suc (alike_count r)

pub alike_number : {t us : Trees} → Alike t us → AlikeField (number (count t)) (number (count us))
alike_number a = same (ap number (alike_count a))

field_sym : {f g : Field} → AlikeField f g → AlikeField g f
field_sym (same e) = same (sym e)
field_sym spans = spans

fields_sym : {fs gs : List Field} → AlikeFields fs gs → AlikeFields gs fs
fields_sym nil = nil
fields_sym (f ⋆ fs) = field_sym f ⋆ fields_sym fs

pub alike_sym : {ts us : Trees} → Alike ts us → Alike us ts
alike_sym no_trees = no_trees
alike_sym (a_node f c r) = a_node (fields_sym f) (alike_sym c) (alike_sym r)

field_trans : {f g h : Field} → AlikeField f g → AlikeField g h → AlikeField f h
field_trans (same e) (same q) = same (e ∙ q)
field_trans {h = h} (same e) spans = subst (λ (x : Field). AlikeField x h) (sym e) spans
field_trans {f} spans (same q) = subst (λ (x : Field). AlikeField f x) q spans
field_trans spans spans = spans

fields_trans : {fs gs hs : List Field} → AlikeFields fs gs → AlikeFields gs hs → AlikeFields fs hs
fields_trans nil nil = nil
fields_trans (f ⋆ fs) (g ⋆ gs) = field_trans f g ⋆ fields_trans fs gs

pub alike_trans : {ts us vs : Trees} → Alike ts us → Alike us vs → Alike ts vs
alike_trans no_trees no_trees = no_trees
alike_trans (a_node f c r) (a_node g d q) = a_node (fields_trans f g) (alike_trans c d) (alike_trans r q)

-- ── Trees without their spans ─────────────────────────────────────────────────────────────────────

-- A tree with 0, 0 for every span.
unfoldable pub placeless_fields : List Field → List Field
placeless_fields [] = []
placeless_fields (byte b ∷ fs) = byte b ∷ placeless_fields fs
placeless_fields (number n ∷ fs) = number n ∷ placeless_fields fs
placeless_fields (span a e ∷ fs) = span 0 0 ∷ placeless_fields fs
placeless_fields (text w ∷ fs) = text w ∷ placeless_fields fs

unfoldable pub placeless : Trees → Trees
placeless none = none
placeless (node t fs cs ts) = node t (placeless_fields fs) (placeless cs) (placeless ts)

fields_placeless : (fs : List Field) → AlikeFields fs (placeless_fields fs)
unfolding placeless_fields
fields_placeless [] = nil
fields_placeless (byte b ∷ fs) = same refl ⋆ fields_placeless fs
fields_placeless (number n ∷ fs) = same refl ⋆ fields_placeless fs
fields_placeless (span a e ∷ fs) = spans ⋆ fields_placeless fs
fields_placeless (text w ∷ fs) = same refl ⋆ fields_placeless fs

alike_placeless : (ts : Trees) → Alike ts (placeless ts)
unfolding placeless
alike_placeless none = no_trees
alike_placeless (node t fs cs ts) = a_node (fields_placeless fs) (alike_placeless cs) (alike_placeless ts)

-- Trees that are one tree without their spans are the same but for spans.
pub one_placeless : {ts us : Trees} → placeless ts ≡ placeless us → Alike ts us
one_placeless {ts} {us} e = alike_trans (alike_placeless ts) (subst (λ (w : Trees). Alike w us) (sym e) (alike_sym (alike_placeless us)))
