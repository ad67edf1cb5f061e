-- What is listed of an object, by what its members raise.
-- Assumes nothing.
use mathlib.Core.Path.{◌≡◌, refl, sym, subst}
use mathlib.Core.Bool.{Bool, true, false}
use mathlib.Core.List.{List}
use Prim.Native.Nat.{ℕ, ◌+◌, ◌*◌, ◌<◌, ◌≤◌}
use native.Mathlib.Omega.{arith}
use lib.ListN.{length, get_or}
use lib.Dec.{eqb}
use borrow.Author.Tests.{eqb-true, eqb-false}
use denote.Enum.Declared.{tag_of}
use Rattle.mass.specs.contracts.members.Kind.{the_type}
use Rattle.grammar.specs.Trees.{Field, Trees}
use Rattle.images.proofs.RootLaws.{no_true}
use Rattle.mass.specs.Mass.{MASS, DEPTH, Raises, Leaves, Undecided, Lists, Braces}
use Rattle.std.proofs.Common.{Option, None, Some}
use Rattle.mass.specs.declared.members.Kind.{Kind}
use Rattle.mass.specs.declared.members.Kind.TheVariants.{Undecided as IsUndecided, Mass as MassAlone, Depth as DepthAlone}
use Rattle.mass.specs.declared.members.Listed as found
use Rattle.mass.specs.declared.members.Own.{Own}
use Rattle.mass.specs.Inner.{two_at, Standing, SomeTrees, Root, RaisedBy, Spot, SumsUp, kind_code, Shows}
use Rattle.mass.proofs.StandLaws.{children, seen}

-- ── Its members ───────────────────────────────────────────────────────────────────────────────────

pub members_of : {bytes array : List ℕ} {n tag : ℕ} {fields : List Field} {cs : Trees} → Root bytes array n tag fields cs → SomeTrees bytes array (get_or array (n * 2 + 1) 0) n
members_of {bytes} {array} {n} {cs = cs} r =
    let f = (seen r).first_is in
    record { at = r.at; ts = cs; standing = subst (λ (i : ℕ). Standing bytes array r.at i cs) (sym f) (children r.standing); many = omega (arith, r.number, f) }

pub says_of : {bytes array : List ℕ} {n tag : ℕ} {fields : List Field} {cs : Trees} {own : Own} (r : Root bytes array n tag fields cs) → RaisedBy bytes array (get_or array (n * 2 + 1) 0) n own
    → SumsUp bytes cs own.undecided own.mass own.depth
unfolding members_of
says_of {cs = cs} r x = x.each r.at cs (members_of r).standing (members_of r).many

pub spot_none : {bytes name : List ℕ} {ts : Trees} → Spot bytes name ts None → Leaves name ts
spot_none (Spot.nowhere l) = l

pub spot_some : {bytes name : List ℕ} {ts : Trees} {o : ℕ} → Spot bytes name ts (Some o) → (o + 6 < length bytes) × Raises name ts (two_at bytes (o + 3)) (two_at bytes (o + 5))
spot_some (Spot.at h i x) = (i, x)

-- ── Its listing ───────────────────────────────────────────────────────────────────────────────────

-- The spots as the code knows them.
module _ {bytes : List ℕ} {cs : Trees} {undecided : Bool} {mass depth o : Option ℕ} (s : SumsUp bytes cs undecided mass depth) where
  pub mass_is : mass ≡ o → Spot bytes MASS cs o
  mass_is e = subst (λ (p : Option ℕ). Spot bytes MASS cs p) e s.on_mass

  pub depth_is : depth ≡ o → Spot bytes DEPTH cs o
  depth_is e = subst (λ (p : Option ℕ). Spot bytes DEPTH cs p) e s.on_depth

pub braces_of : (tag : ℕ) → 9 ≤ tag → tag ≤ 10 → Braces tag
braces_of tag h l = by (eqb tag 9) refl
  where
    by : (b : Bool) → eqb tag 9 ≡ b → Braces tag
    by true e = subst Braces (sym (eqb-true tag 9 e)) Braces.members
    by false e = let n = eqb-false tag 9 e in let q : 10 ≡ tag = omega arith in subst Braces q Braces.comprehension

-- The numbers of the list are the tags of the enum.
pub kind_tag : (k : Kind) → tag_of the_type k ≡ kind_code k
kind_tag IsUndecided = refl
kind_tag MassAlone = refl
kind_tag DepthAlone = refl

abbrev pub shown : Kind → ℕ → ℕ → found.Listed
shown kind a e = record { kind = kind; start = a; end = e }

pub no_object : {tag : ℕ} {cs : Trees} → (Braces tag → ⊥) → Shows tag cs None
no_object n = Shows.nothing (λ k a e b l. n b)

module _ {bytes : List ℕ} {cs : Trees} {undecided : Bool} {mass depth : Option ℕ} (s : SumsUp bytes cs undecided mass depth) where
  pub shows_undecided : {tag : ℕ} → Braces tag → undecided ≡ true → Shows tag cs (Some (shown IsUndecided 0 0))
  shows_undecided b e = Shows.listed b (Lists.undecided (s.if_so e))

  pub decided : undecided ≡ false → Undecided cs → ⊥
  decided e u = no_true (s.so u) e

-- By the two spots.
module _ {bytes : List ℕ} {cs : Trees} (n : Undecided cs → ⊥) where
  pub shows_neither : {tag : ℕ} → Spot bytes MASS cs None → Spot bytes DEPTH cs None → Shows tag cs None
  shows_neither m d = Shows.nothing (λ k a f b l. none_of l)
    where
      none_of : {k a f : ℕ} → Lists cs k a f → ⊥
      none_of (Lists.undecided u) = n u
      none_of (Lists.mass_alone o x y) = spot_none m _ _ x
      none_of (Lists.depth_alone o x y) = spot_none d _ _ x

  pub shows_both : {tag o p : ℕ} → Spot bytes MASS cs (Some o) → Spot bytes DEPTH cs (Some p) → Shows tag cs None
  shows_both m d = Shows.nothing (λ k a f b l. none_of l)
    where
      none_of : {k a f : ℕ} → Lists cs k a f → ⊥
      none_of (Lists.undecided u) = n u
      none_of (Lists.mass_alone o x y) = y _ _ (spot_some d).1
      none_of (Lists.depth_alone o x y) = y _ _ (spot_some m).1

  pub shows_mass : {tag o : ℕ} → Braces tag → Spot bytes MASS cs (Some o) → Spot bytes DEPTH cs None → Shows tag cs (Some (shown MassAlone (two_at bytes (o + 3)) (two_at bytes (o + 5))))
  shows_mass b m d = Shows.listed b (Lists.mass_alone n (spot_some m).1 (spot_none d))

  pub shows_depth : {tag o : ℕ} → Braces tag → Spot bytes MASS cs None → Spot bytes DEPTH cs (Some o) → Shows tag cs (Some (shown DepthAlone (two_at bytes (o + 3)) (two_at bytes (o + 5))))
  shows_depth b m d = Shows.listed b (Lists.depth_alone n (spot_some d).1 (spot_none m))
