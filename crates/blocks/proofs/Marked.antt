-- 01's marked reading 8: `|||-`, LF, two spaces `mass`, LF, two spaces `depth`, LF, `|||` is a good block with the text `mass` LF `depth`.
-- Assumes nothing.
use mathlib.Core.Path.{◌≡◌, refl}
use mathlib.Core.Bool.{true, false}
use mathlib.Core.List.{List, [], ◌∷◌, ◌++◌, head-eq_of_cons-eq}
use mathlib.Core.Logic.{inl, ⊎_elim}
use Prim.Native.Nat.{ℕ}
use lib.Dec.{eqb}
use borrow.Author.Tests.{eqb-false}
use Rattle.blocks.specs.Blocks.{Run, stop, more, InLine, there, Header, header, first, Lines, content, good, closed, another, Body, indented, Stands, after_header, joined, text, BlockText, means}

-- bytes of a line, tested one by one
data Plain : List ℕ → Type 0 where
  none : Plain []
  one : {b : ℕ} {l : List ℕ} → eqb b 0x0A ≡ false → Plain l → Plain (b ∷ l)

line : {l : List ℕ} (r : List ℕ) → Plain l → Run InLine (l ++ 0x0A ∷ r) l (0x0A ∷ r)
line r Plain.none = stop (λ h. h refl)
line r (one {b = b} e p) = more (eqb-false b 0x0A e) (line r p)

abbrev mass : List ℕ
mass = 0x6D ∷ 0x61 ∷ 0x73 ∷ 0x73 ∷ []

abbrev depth : List ℕ
depth = 0x64 ∷ 0x65 ∷ 0x70 ∷ 0x74 ∷ 0x68 ∷ []

abbrev last : List ℕ
last = 0x7C ∷ 0x7C ∷ 0x7C ∷ []

abbrev second : List ℕ
second = 0x20 ∷ 0x20 ∷ depth ++ 0x0A ∷ last

abbrev body : List ℕ
body = 0x20 ∷ 0x20 ∷ mass ++ 0x0A ∷ second

read : Body body (good (mass ∷ depth ∷ [])) []
read =
    indented
    (first (stop (eqb-false 0x20 0x0A refl)) (more (inl refl) (more (inl refl) (stop (⊎_elim (eqb-false 0x6D 0x20 refl) (eqb-false 0x6D 0x09 refl))))))
    (content refl (line second (one refl (one refl (one refl (one refl Plain.none)))))
    (content refl (line last (one refl (one refl (one refl (one refl (one refl Plain.none)))))) Lines.none))
    (another
    (record {
      not_empty = λ r e. eqb-false 0x7C 0x0A refl (head-eq_of_cons-eq e);
      not_content = λ r e. eqb-false 0x7C 0x20 refl (head-eq_of_cons-eq e);
    })
    (stop (⊎_elim (eqb-false 0x7C 0x20 refl) (eqb-false 0x7C 0x09 refl))) closed)

pub marked_reading_8 : Stands (0x2D ∷ 0x0A ∷ body) (good (mass ∷ depth ∷ [])) [] × BlockText (0x2D ∷ 0x0A ∷ body) (mass ++ 0x0A ∷ depth)
unfolding joined text
marked_reading_8 =
    let top : Header (0x2D ∷ 0x0A ∷ body) true (0x0A ∷ body) =
    header there (stop (⊎_elim (eqb-false 0x0A 0x20 refl) (⊎_elim (eqb-false 0x0A 0x09 refl) (eqb-false 0x0A 0x0D refl)))) in
    (after_header top read, means top read)
