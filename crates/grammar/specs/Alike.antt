-- The same but for spans: two trees with the same records, and in these the same fields, but that a span may be any other. It is said of fields
-- and not of bytes, and said here once: for what is read of two sources, for what is spelled (Spells.antt leaves spans open), and for images.
-- Assumes nothing.
use Rattle.std.specs.Prelude.{◌≡◌, List, [], ◌∷◌, ℕ}
use Rattle.grammar.specs.Trees.{Field, span, Trees, none, node}

pub data AlikeField : Field → Field → Type 0 where
  same : {f g : Field} → f ≡ g → AlikeField f g
  spans : {a e b f : ℕ} → AlikeField (span a e) (span b f)

infixr 90 ◌⋆◌
pub data AlikeFields : List Field → List Field → Type 0 where
  nil : AlikeFields [] []
  ◌⋆◌ : {f g : Field} {fs gs : List Field} → AlikeField f g → AlikeFields fs gs → AlikeFields (f ∷ fs) (g ∷ gs)

pub data Alike : Trees → Trees → Type 0 where
  no_trees : Alike none none
  a_node : {t : ℕ} {fs gs : List Field} {cs ds ts us : Trees} → AlikeFields fs gs → Alike cs ds → Alike ts us → Alike (node t fs cs ts) (node t gs ds us)
