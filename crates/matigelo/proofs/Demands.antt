-- WHAT IS WRITTEN IS READ BACK: theorems about `read` and `back` together, from bytes to bytes. What they promise is `Reads`
-- (crates/reader/specs/Reader.antt) and `ReadsBack` (crates/images/specs/Images.antt). `HasTree` says that the rules derive a tree of the source.
-- Assumes nothing.
use mathlib.Core.Path.{◌≡◌, refl, sym, ap, subst, ◌∙◌}
use mathlib.Core.List.{List, [], ◌∷◌, ◌++◌}
use Prim.Native.Nat.{ℕ, ◌-◌, ◌*◌, ◌≤◌}
use native.Mathlib.Omega.{arith}
use lib.ListN.{length, get_or, take, replicate}
use lib.Seq.{take_at}
use Rattle.grammar.specs.Trees.{Field, Trees}
use Rattle.grammar.specs.Image.{image}
use Rattle.grammar.specs.Derived.{Spanned, Derived}
use Rattle.grammar.specs.Answer.{prefix_power}
use Rattle.grammar.proofs.Derived.{whole_exactly}
use Rattle.grammar.proofs.Ranges.{source_obeys}
use Rattle.std.proofs.Common.{Ok}
use Rattle.images.specs.Images.{Answer, new, Accepted, records, links, needed, ReadsBack}
use Rattle.images.specs.Numbers.{Numbers, numbers}
use Rattle.images.proofs.Sole.{one_tree}
use Rattle.images.proofs.OldImages.{dated_new}
use Rattle.images.proofs.Demands.{no_second, accepted_is_tree}
use Rattle.mass.specs.Numbers as listed
use Rattle.mass.specs.Mass.{MASS, FixedPlus, Subtree, MassDepth}
use Rattle.mass.specs.Minutes.{Minuted}
use Rattle.mass.proofs.Demands as demands
use Rattle.mass.proofs.Minutes.{minutes}
use Rattle.reader.specs.Reader.{Reads}
use Rattle.std.specs.Prelude.{Ok}
use Rattle.reader.proofs.AnswerLaws.{HasTree}
use Rattle.reader.proofs.Demands.{tree_is_derived}
use Rattle.matigelo.specs.Three.{three, Back02, Mass02}

-- ── Demand 2: "every image written is read back to the same tree" ─────────────────────────────────

-- What is derived of a source, under whichever setting, has an image that is accepted as its own.
pub derived_is_accepted : {setting : ℕ} {source : List ℕ} {ts : Trees} → HasTree setting source ts → Accepted (image ts) ts
derived_is_accepted {ts = ts} d =
    let x = (whole_exactly (prefix_power 7) ts).0 (source_obeys d.lexemes d.reads d.utf8) in
    record {
      age = new;
      derived = subst (λ (u : Trees). Derived (prefix_power 7) 7 u) (sym (dated_new ts)) x.0;
      spanned = subst Spanned (sym (dated_new ts)) x.1;
      written = refl;
    }

-- A call of `read` that has answered with a tree, and whatever call of `back` on the bytes that it wrote.
module _ (setting : ℕ) (source out : List ℕ) (n : ℕ) (out' : List ℕ) (x : Reads setting source out (Ok n) out') where
  written : (ts : Trees) × HasTree setting source ts × (take n out' ≡ image ts) × Accepted (take n out') ts
  written =
      let z = tree_is_derived setting source out (Ok n) out' x n refl in
      let e : take n out' ≡ image z.0 = ap (take n) z.3 ∙ take_at (image z.0) _ n (sym z.2) in
      (z.0, z.1, e, subst (λ (l : List ℕ). Accepted l z.0) (sym e) (derived_is_accepted z.1))

  -- They are accepted with the number of records; the links are those of the tree that the rules derive of the source, and no other tree has these bytes.
  pub read_back : (room : ℕ) (b : Answer) (array : List ℕ) → needed (take n out') ≤ room → ReadsBack (take n out') room b array
      → (ts : Trees) × HasTree setting source ts × (take n out' ≡ image ts) × (b ≡ Ok (records ts))
      × (array ≡ links 0 0 ts ++ replicate (room - 2 * records ts) 0) × ((u : Trees) → Accepted (take n out') u → u ≡ ts)
  read_back room b array h y =
      let w = written in
      let told = accepted_is_tree y h w.3 in
      (w.0, w.1, w.2, told.0, told.1, λ u v. one_tree v w.3)

  -- THE RULE OF THE MINUTES, of a source: whatever call of `list` on what was written, each field `mass+:` of the tree that the rules derive of the source stands in
  -- an object that raises depth too, or that is listed, or that is undecided and listed so.
  pub read_minuted : (room size m : ℕ) (array list : List ℕ) → MassDepth (take n out') room size (Ok m) array list
      → (ts : Trees) × HasTree setting source ts
      × ((o tag a e : ℕ) (fields : List Field) (children : Trees) → Subtree 0 ts o tag fields children → FixedPlus MASS a e tag fields children → Minuted ts m list tag fields children)
  read_minuted room size m array list y = let w = written in (w.0, w.1, λ o tag a e fields children h f. minutes y w.3 h f)

-- ── For C ─────────────────────────────────────────────────────────────────────────────────────────

three_list : (a : List ℕ) → length a ≡ 3 → get_or a 0 0 ∷ get_or a 1 0 ∷ get_or a 2 0 ∷ [] ≡ a
three_list [] e = absurd (omega arith)
three_list (x ∷ []) e = absurd (omega arith)
three_list (x ∷ y ∷ []) e = absurd (omega arith)
three_list (x ∷ y ∷ z ∷ []) e = refl
three_list (x ∷ y ∷ z ∷ u ∷ us) e = absurd (omega arith)

same_three : (a b : List ℕ) → length a ≡ 3 → length b ≡ 3 → three a ≡ three b → a ≡ b
same_three a b h k e = sym (three_list a h) ∙ ap (λ (x : Numbers). x.number ∷ x.offset ∷ x.count ∷ []) e ∙ three_list b k

-- No second array of three numbers, and no second array of links.
pub no_second_three : {bytes : List ℕ} {room : ℕ} {a b l m : List ℕ} → length a ≡ 3 → length b ≡ 3 → Back02 bytes room (three a) l → Back02 bytes room (three b) m → (a ≡ b) × (l ≡ m)
no_second_three {a = a} {b} h k x y =
    let z = no_second x.reads y.reads in
    (same_three a b h k (x.told ∙ ap numbers z.0 ∙ sym y.told), z.1)

-- The same of the planner's list.
pub no_second_listed : {bytes : List ℕ} {room size : ℕ} {a b l m list list' : List ℕ} → length a ≡ 3 → length b ≡ 3 → Mass02 bytes room size (three a) l list
    → Mass02 bytes room size (three b) m list' → (a ≡ b) × (l ≡ m) × (list ≡ list')
no_second_listed {a = a} {b} h k x y =
    let z = demands.no_second x.lists y.lists in
    (same_three a b h k (x.told ∙ ap listed.numbers z.0 ∙ sym y.told), z.1, z.2)
