-- `fill`, record by record.
-- Assumes nothing.
use mathlib.Core.Path.{◌≡◌, refl, sym, ap, subst, ◌∙◌}
use mathlib.Core.List.{List, [], ◌∷◌, ◌++◌, append_assoc, append-nil}
use Prim.Native.Nat.{ℕ, ◌+◌, ◌-◌, ◌*◌, ◌≤◌, ◌<◌}
use native.Mathlib.Omega.{arith}
use lib.ListN.{length, get_or, replicate, length-append}
use Rattle.grammar.specs.Trees.{Field, Trees}
use Rattle.grammar.specs.Image.{image}
use Rattle.grammar.specs.Answer.{prefix_power}
use Rattle.grammar.proofs.Derived.{whole_exactly}
use Rattle.images.specs.Images.{dated_trees}
use Rattle.mass.specs.Mass.{Lists, Braces, Listing, listing, numbers}
use Rattle.std.proofs.Common.{None, Some}
use Rattle.mass.specs.declared.members.Listed as found
use Rattle.mass.specs.Inner.{Standing, Root, SomeRoot, kind_code, Shows, ShownOf, Stores, Given, SomeGiven, Fills}
use Rattle.mass.proofs.StandLaws.{seen}
use Rattle.mass.proofs.ListLaws.{filled_next}
use Rattle.mass.proofs.PlaceLaws.{Place, place, places, places-length, Walk, walk, Ahead, ahead, next_record, Listings, listings_append, planned}

-- Of the tree t: the records before i are done, and `todo` are the others.
pub record Doing (bytes array : List ℕ) (t : Trees) (size count i : ℕ) (list : List ℕ) : Type 0 where
  pub done : List Place
  pub todo : List Place
  pub split : places 0 0 t ≡ done ++ todo
  pub ahead_of : Walk bytes array i todo
  pub reached : length done ≡ i
  pub ls : List Listing
  pub listings : Listings done ls
  pub counted : count ≡ length ls
  pub filled : 4 * length ls ≤ size → list ≡ numbers ls ++ replicate (size - 4 * length ls) 0

pub record Fillings (bytes array : List ℕ) (n size count i : ℕ) (list : List ℕ) : Type 0 where
  pub long : length list ≡ size
  pub below : count ≤ i
  pub each : (t : Trees) → Given bytes array n t → Doing bytes array t size count i list

-- ── The start ─────────────────────────────────────────────────────────────────────────────────────

stands : {bytes array : List ℕ} {n : ℕ} {t : Trees} → Given bytes array n t → Standing bytes array 0 0 t
stands {t = t} g =
    let a = g.accepted in
    let x = (whole_exactly (prefix_power 7) (dated_trees a.age t)).1 (a.derived, a.spanned) in
    record {
      age = a.age;
      row = record { sorts = x.0 ∷ []; obeys = x.2 };
      after = [];
      split = a.written ∙ sym (append-nil (image t));
      links_after = g.rest;
      linked = g.linked;
    }

pub starts : (bytes array : List ℕ) (n : ℕ) (list : List ℕ) → list ≡ replicate (length list) 0 → Fillings bytes array n (length list) 0 0 list
unfolding numbers
starts bytes array n list z =
    record {
      long = refl;
      below = omega arith;
      each = λ t g. record {
        done = [];
        todo = places 0 0 t;
        split = refl;
        ahead_of = walk bytes array 0 0 t (stands g);
        reached = refl;
        ls = [];
        listings = Listings.none;
        counted = refl;
        filled = λ h. z ∙ ap (λ (k : ℕ). replicate {A = ℕ} k 0) (let q : length list ≡ length list - 0 = omega arith in q);
      };
    }

-- ── A turn ────────────────────────────────────────────────────────────────────────────────────────

module _ {bytes array : List ℕ} {n size count i : ℕ} {list : List ℕ} where
  left_over : {t : Trees} (g : Given bytes array n t) (d : Doing bytes array t size count i list) → i < n → 0 < length d.todo
  left_over {t} g d h = omega (arith, g.many, places-length 0 0 t, ap length d.split, length-append d.done d.todo, d.reached)

  pub next : (o : SomeGiven bytes array n) → Fillings bytes array n size count i list → i < n → SomeRoot bytes array i
  next o f h = let d = f.each o.t o.given in root_of (next_record bytes array d.ahead_of (left_over o.given d h))
    where
      root_of : {ps : List Place} → Ahead bytes array i ps → SomeRoot bytes array i
      root_of (ahead {at} {first} {tag} {fields} {cs} s q w) = record { tag = tag; fields = fields; children = cs; root = record { at = at; first = first; standing = s; number = q } }

-- One record more is done.
record Step (bytes array : List ℕ) (i : ℕ) (todo : List Place) (ms : List Listing) : Type 0 where
  pub p : Place
  pub ps : List Place
  pub split : todo ≡ p ∷ ps
  pub ahead_of : Walk bytes array (i + 1) ps
  pub shows : Listings (p ∷ []) ms

module _ {bytes array : List ℕ} {i : ℕ} where
  step_nothing : {todo : List Place} → Ahead bytes array i todo → ShownOf bytes array i None → Step bytes array i todo []
  step_nothing (ahead {at} {first} {tag} {fields} {cs} s q w) x =
      record { p = _; ps = _; split = refl; ahead_of = w; shows = Listings.passed (nothing (x.each tag fields cs (record { at = at; first = first; standing = s; number = q }))) Listings.none }
    where
      nothing : {tag : ℕ} {cs : Trees} → Shows tag cs None → (k a e : ℕ) → Braces tag → Lists cs k a e → ⊥
      nothing (Shows.nothing n) = n

  step_listed : {todo : List Place} {l : found.Listed} → Ahead bytes array i todo → ShownOf bytes array i (Some l) → Step bytes array i todo (listing (get_or array (i * 2) 0) (kind_code l.kind) l.start l.end ∷ [])
  step_listed {todo} {l} (ahead {at} {first} {tag} {fields} {cs} s q w) x =
      let r : Root bytes array i tag fields cs = record { at = at; first = first; standing = s; number = q } in
      record {
        p = place at first tag fields cs;
        ps = _;
        split = refl;
        ahead_of = w;
        shows = subst (λ (o : ℕ). Listings (place at first tag fields cs ∷ []) (listing o (kind_code l.kind) l.start l.end ∷ [])) (sym (seen r).offset) (one (x.each tag fields cs r));
      }
    where
      one : {at first tag : ℕ} {l : found.Listed} {fields : List Field} {cs : Trees} → Shows tag cs (Some l) → Listings (place at first tag fields cs ∷ []) (listing (at + length (image cs)) (kind_code l.kind) l.start l.end ∷ [])
      one (Shows.listed b x) = Listings.shown b x Listings.none

  steps : {t : Trees} {size count i' count' : ℕ} {list list' : List ℕ} {ms : List Listing} (d : Doing bytes array t size count i list) → Step bytes array i d.todo ms → i' ≡ i + 1
      → count' ≡ length (d.ls ++ ms) → (4 * length (d.ls ++ ms) ≤ size → list' ≡ numbers (d.ls ++ ms) ++ replicate (size - 4 * length (d.ls ++ ms)) 0)
      → Doing bytes array t size count' i' list'
  steps {ms = ms} d s e c f =
      record {
        done = d.done ++ s.p ∷ [];
        todo = s.ps;
        split = d.split ∙ ap (λ (l : List Place). d.done ++ l) s.split ∙ sym (append_assoc d.done (s.p ∷ []) s.ps);
        ahead_of = subst (λ (j : ℕ). Walk bytes array j s.ps) (sym e) s.ahead_of;
        reached = omega (arith, length-append d.done (s.p ∷ []), d.reached, e);
        ls = d.ls ++ ms;
        listings = listings_append d.listings s.shows;
        counted = c;
        filled = f;
      }

module _ {bytes array : List ℕ} {n size count i : ℕ} {list : List ℕ} (f : Fillings bytes array n size count i list) (h : i < n) where
  pub turn_nothing : ShownOf bytes array i None → Fillings bytes array n size count (i + 1) list
  turn_nothing x =
      record {
        long = f.long;
        below = omega (arith, f.below);
        each = λ t g.
            let d = f.each t g in
            let z = append-nil d.ls in
            steps d (step_nothing (next_record bytes array d.ahead_of (left_over g d h)) x) refl (d.counted ∙ ap length (sym z))
            (subst (λ (ls : List Listing). 4 * length ls ≤ size → list ≡ numbers ls ++ replicate (size - 4 * length ls) 0) (sym z) d.filled);
      }

  pub turn_listed : (l : found.Listed) (after : List ℕ) → ShownOf bytes array i (Some l) → Stores list count (get_or array (i * 2) 0) (kind_code l.kind) l.start l.end after
      → Fillings bytes array n size (count + 1) (i + 1) after
  turn_listed l after x s =
      record {
        long = s.long ∙ f.long;
        below = omega (arith, f.below);
        each = λ t g.
            let d = f.each t g in
            steps d (step_listed (next_record bytes array d.ahead_of (left_over g d h)) x) refl
            (omega (arith, d.counted, length-append d.ls (listing (get_or array (i * 2) 0) (kind_code l.kind) l.start l.end ∷ [])))
            (filled_next size count (get_or array (i * 2) 0) (kind_code l.kind) l.start l.end d.ls list after d.counted f.long d.filled s);
      }

-- ── The end ───────────────────────────────────────────────────────────────────────────────────────

no_places : (ps : List Place) → length ps ≡ 0 → ps ≡ []
no_places [] e = refl
no_places (p ∷ ps) e = absurd (omega arith)

pub ends : {bytes array : List ℕ} {n size count i : ℕ} {list : List ℕ} → Fillings bytes array n size count i list → n ≤ i → Fills bytes array n size count list
ends f h =
    record {
      each = λ t g.
          let d = f.each t g in
          let z = no_places d.todo (omega (arith, g.many, places-length 0 0 t, ap length d.split, length-append d.done d.todo, d.reached)) in
          let w = d.split ∙ ap (λ (l : List Place). d.done ++ l) z ∙ append-nil d.done in
          record {
            ls = d.ls;
            planned = planned t d.ls (subst (λ (ps : List Place). Listings ps d.ls) (sym w) d.listings);
            counted = d.counted;
            long = f.long;
            filled = d.filled;
          };
    }
