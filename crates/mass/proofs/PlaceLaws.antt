-- The records of trees, in image order, and what is listed of them.
-- Assumes nothing.
use mathlib.Core.Path.{◌≡◌, refl, sym, ap, subst, ◌∙◌}
use mathlib.Core.List.{List, [], ◌∷◌, ◌++◌}
use Prim.Native.Nat.{ℕ, suc, ◌+◌, ◌≤◌, ◌<◌}
use native.Mathlib.Omega.{arith}
use lib.ListN.{length, length-append}
use Rattle.grammar.specs.Trees.{Field, Trees, tree, node, ◌⊕◌}
use Rattle.grammar.specs.Trees as trees
use Rattle.grammar.specs.Image.{entry, image}
use Rattle.grammar.proofs.ImageLaws.{image-length, entry_length, close_length}
use Rattle.images.specs.Images.{records}
use Rattle.mass.specs.Mass.{FixedPlus, fixed_plus, Raises, Lists, Braces, Subtree, Listing, listing, offset, Due, due, In, Ascends, Planned}
use Rattle.mass.specs.Inner.{Standing}
use Rattle.mass.proofs.StandLaws.{left, right, children}

-- A record, with its tree's offset and the number of its tree's first record.
pub data Place : Type 0 where
  place : ℕ → ℕ → ℕ → List Field → Trees → Place

unfoldable pub places : ℕ → ℕ → Trees → List Place
places at first trees.none = []
places at first (trees.node tag fields cs ts) =
    places at first cs ++ place at first tag fields cs ∷ places (at + length (image cs) + length (entry tag fields)) (first + records cs + 1) ts

pub places-length : (at first : ℕ) (ts : Trees) → length (places at first ts) ≡ records ts
unfolding places records
places-length at first trees.none = refl
places-length at first (trees.node tag fields cs ts) =
    let a = at + length (image cs) + length (entry tag fields) in
    let f = first + records cs + 1 in
    omega (arith, length-append (places at first cs) (place at first tag fields cs ∷ places a f ts), places-length at first cs, places-length a f ts)

-- ── Where they stand ──────────────────────────────────────────────────────────────────────────────

module _ (bytes array : List ℕ) where
  -- Records from number n on.
  pub data Walk : ℕ → List Place → Type 0 where
    none : {n : ℕ} → Walk n []
    more : {n at first tag : ℕ} {fields : List Field} {cs : Trees} {ps : List Place} → Standing bytes array at first (tree tag fields cs) → n ≡ first + records cs → Walk (n + 1) ps
        → Walk n (place at first tag fields cs ∷ ps)

  walk_append : {n m : ℕ} {ps qs : List Place} → Walk n ps → n + length ps ≡ m → Walk m qs → Walk n (ps ++ qs)
  walk_append {n} {m} {qs = qs} none e w = subst (λ (i : ℕ). Walk i qs) (sym e ∙ omega arith) w
  walk_append (more s q v) e w = more s q (walk_append v (omega arith) w)

  pub walk : (at first : ℕ) (ts : Trees) → Standing bytes array at first ts → Walk first (places at first ts)
  unfolding places records ◌⊕◌
  walk at first trees.none s = none
  walk at first (trees.node tag fields cs ts) s =
      let t = tree tag fields cs in
      let l : Standing bytes array at first t = left t ts s in
      let a : at + length (image t) ≡ at + length (image cs) + length (entry tag fields) = omega (arith, close_length tag fields cs, entry_length tag fields) in
      let f : first + records t ≡ first + records cs + 1 = omega arith in
      let r = subst (λ (i : ℕ). Standing bytes array i (first + records cs + 1) ts) a (subst (λ (i : ℕ). Standing bytes array (at + length (image t)) i ts) f (right t ts s)) in
      walk_append (walk at first cs (children l)) (ap (λ (i : ℕ). first + i) (places-length at first cs))
      (more l refl (walk (at + length (image cs) + length (entry tag fields)) (first + records cs + 1) ts r))

  -- The next record.
  pub data Ahead (n : ℕ) : List Place → Type 0 where
    ahead : {at first tag : ℕ} {fields : List Field} {cs : Trees} {ps : List Place} → Standing bytes array at first (tree tag fields cs) → n ≡ first + records cs → Walk (n + 1) ps
        → Ahead n (place at first tag fields cs ∷ ps)

  pub next_record : {n : ℕ} {ps : List Place} → Walk n ps → 0 < length ps → Ahead n ps
  next_record none h = absurd (omega arith)
  next_record (more s q w) h = ahead s q w

-- ── What is listed of them ────────────────────────────────────────────────────────────────────────

pub data Listings : List Place → List Listing → Type 0 where
  none : Listings [] []
  shown : {at first tag k a e : ℕ} {fields : List Field} {cs : Trees} {ps : List Place} {ls : List Listing} → Braces tag → Lists cs k a e → Listings ps ls
      → Listings (place at first tag fields cs ∷ ps) (listing (at + length (image cs)) k a e ∷ ls)
  passed : {at first tag : ℕ} {fields : List Field} {cs : Trees} {ps : List Place} {ls : List Listing} → ((k a e : ℕ) → Braces tag → Lists cs k a e → ⊥) → Listings ps ls
      → Listings (place at first tag fields cs ∷ ps) ls

pub listings_append : {ps qs : List Place} {ls ms : List Listing} → Listings ps ls → Listings qs ms → Listings (ps ++ qs) (ls ++ ms)
listings_append Listings.none y = y
listings_append (Listings.shown b l x) y = Listings.shown b l (listings_append x y)
listings_append (Listings.passed n x) y = Listings.passed n (listings_append x y)

-- ── One listing for each object ───────────────────────────────────────────────────────────────────

-- The same for two records whose fields are equal: they are matched apart.
fixed_alike : {name : List ℕ} {a e b f tag tag' : ℕ} {fields fields' : List Field} {cs cs' : Trees} → FixedPlus name a e tag fields cs → FixedPlus name b f tag' fields' cs' → fields ≡ fields'
    → (a ≡ b) × (e ≡ f)
fixed_alike fixed_plus fixed_plus q = (cc, cc)

fixed_once : {name : List ℕ} {a e b f tag : ℕ} {fields : List Field} {cs : Trees} → FixedPlus name a e tag fields cs → FixedPlus name b f tag fields cs → (a ≡ b) × (e ≡ f)
fixed_once x y = fixed_alike x y refl

pub raises_once : {name : List ℕ} {a e b f : ℕ} {ts : Trees} → Raises name ts a e → Raises name ts b f → (a ≡ b) × (e ≡ f)
raises_once (Raises.first x) (Raises.first y) = fixed_once x y
raises_once (Raises.first x) (Raises.later n y) = absurd (n _ _ x)
raises_once (Raises.later n x) (Raises.first y) = absurd (n _ _ y)
raises_once (Raises.later n x) (Raises.later m y) = raises_once x y

pub lists_once : (o : ℕ) {k a e l b f : ℕ} {ts : Trees} → Lists ts k a e → Lists ts l b f → listing o k a e ≡ listing o l b f
lists_once o (Lists.undecided u) (Lists.undecided v) = refl
lists_once o (Lists.undecided u) (Lists.mass_alone n x y) = absurd (n u)
lists_once o (Lists.undecided u) (Lists.depth_alone n x y) = absurd (n u)
lists_once o (Lists.mass_alone n x y) (Lists.undecided u) = absurd (n u)
lists_once o (Lists.depth_alone n x y) (Lists.undecided u) = absurd (n u)
lists_once o (Lists.mass_alone n x y) (Lists.depth_alone m z w) = absurd (w _ _ x)
lists_once o (Lists.depth_alone n x y) (Lists.mass_alone m z w) = absurd (w _ _ x)
lists_once o (Lists.mass_alone {e = e} n x y) (Lists.mass_alone {a = b} m z w) =
    let q = raises_once x z in ap (λ (i : ℕ). listing o 1 i e) q.0 ∙ ap (λ (i : ℕ). listing o 1 b i) q.1
lists_once o (Lists.depth_alone {e = e} n x y) (Lists.depth_alone {a = b} m z w) =
    let q = raises_once x z in ap (λ (i : ℕ). listing o 2 i e) q.0 ∙ ap (λ (i : ℕ). listing o 2 b i) q.1

-- ── The planner's list ────────────────────────────────────────────────────────────────────────────

-- Sound: each place is a record of the trees.
data Every (P : Place → Type 0) : List Place → Type 0 where
  none : Every P []
  more : {p : Place} {ps : List Place} → P p → Every P ps → Every P (p ∷ ps)

every_append : {P : Place → Type 0} {ps qs : List Place} → Every P ps → Every P qs → Every P (ps ++ qs)
every_append Every.none y = y
every_append (Every.more x xs) y = Every.more x (every_append xs y)

every : (P : Place → Type 0) (at first : ℕ) (ts : Trees)
    → ((a f tag : ℕ) (fields : List Field) (cs : Trees) → Subtree at ts (a + length (image cs)) tag fields cs → P (place a f tag fields cs)) → Every P (places at first ts)
unfolding places
every P at first trees.none h = Every.none
every P at first (trees.node tag fields cs ts) h =
    every_append (every P at first cs (λ a f t g c x. h a f t g c (Subtree.inside x)))
    (Every.more (h at first tag fields cs Subtree.here) (every P (at + length (image cs) + length (entry tag fields)) (first + records cs + 1) ts (λ a f t g c x. h a f t g c (Subtree.beside x))))

unfoldable HeldIn : Trees → Place → Type 0
HeldIn t (place at first tag fields cs) = Subtree 0 t (at + length (image cs)) tag fields cs

sound : (t : Trees) {ps : List Place} {ls : List Listing} → Listings ps ls → Every (HeldIn t) ps → (l : Listing) → In l ls → Due t l
unfolding HeldIn
sound t Listings.none h l i = elim i [ ]
sound t (Listings.shown {tag = tag} {fields = fields} b x y) (Every.more h hs) l In.first = due (record { tag = tag; fields = fields; braces = b; subtree = h }) x
sound t (Listings.shown b x y) (Every.more h hs) l (In.later i) = sound t y hs l i
sound t (Listings.passed n y) (Every.more h hs) l i = sound t y hs l i

-- Complete: each record of the trees has its place.
data Placed (o tag : ℕ) (fields : List Field) (cs : Trees) : List Place → Type 0 where
  found : {at f : ℕ} {ps : List Place} → at + length (image cs) ≡ o → Placed o tag fields cs (place at f tag fields cs ∷ ps)
  behind : {p : Place} {ps : List Place} → Placed o tag fields cs ps → Placed o tag fields cs (p ∷ ps)

placed_left : {o tag : ℕ} {fields : List Field} {cs : Trees} {ps : List Place} (qs : List Place) → Placed o tag fields cs ps → Placed o tag fields cs (ps ++ qs)
placed_left qs (Placed.found e) = Placed.found e
placed_left qs (Placed.behind x) = Placed.behind (placed_left qs x)

placed_right : {o tag : ℕ} {fields : List Field} {cs : Trees} (ps : List Place) {qs : List Place} → Placed o tag fields cs qs → Placed o tag fields cs (ps ++ qs)
placed_right [] x = x
placed_right (p ∷ ps) x = Placed.behind (placed_right ps x)

placed : (first : ℕ) {at o tag : ℕ} {fields : List Field} {cs ts : Trees} → Subtree at ts o tag fields cs → Placed o tag fields cs (places at first ts)
unfolding places
placed first (Subtree.here {at} {children = cs}) = placed_right (places at first cs) (Placed.found refl)
placed first (Subtree.inside x) = placed_left _ (placed first x)
placed first (Subtree.beside {at} {children = cs} x) = placed_right (places at first cs) (Placed.behind (placed (first + records cs + 1) x))

complete : {o tag k a e : ℕ} {fields : List Field} {cs : Trees} {ps : List Place} {ls : List Listing} → Listings ps ls → Placed o tag fields cs ps → Braces tag → Lists cs k a e → In (listing o k a e) ls
complete Listings.none p c z = elim p [ ]
complete {o} {k = k} {a} {e} (Listings.shown {k = l} {a = b} {e = f} {ls = ls} d x y) (Placed.found q) c z =
    subst (λ (m : Listing). In (listing o k a e) (m ∷ ls)) (lists_once o z x ∙ ap (λ (i : ℕ). listing i l b f) (sym q)) In.first
complete (Listings.passed n y) (Placed.found q) c z = absurd (n _ _ _ c z)
complete (Listings.shown b x y) (Placed.behind p) c z = In.later (complete y p c z)
complete (Listings.passed n y) (Placed.behind p) c z = complete y p c z

-- In order: offsets rise.
data Rising (hi : ℕ) : ℕ → List Place → Type 0 where
  none : {lo : ℕ} → lo ≤ hi → Rising hi lo []
  more : {lo at first tag : ℕ} {fields : List Field} {cs : Trees} {ps : List Place} → lo ≤ at + length (image cs) → Rising hi (suc (at + length (image cs))) ps
      → Rising hi lo (place at first tag fields cs ∷ ps)

rising_from : {hi lo low : ℕ} {ps : List Place} → low ≤ lo → Rising hi lo ps → Rising hi low ps
rising_from {hi} {lo} {low} h (Rising.none i) = Rising.none (let j : low ≤ hi = omega arith in j)
rising_from {low = low} h (Rising.more {at = at} {cs = cs} i x) = Rising.more (let j : low ≤ at + length (image cs) = omega arith in j) x

rising_append : {mid hi lo : ℕ} {ps qs : List Place} → Rising mid lo ps → Rising hi mid qs → Rising hi lo (ps ++ qs)
rising_append (Rising.none h) y = rising_from h y
rising_append (Rising.more h x) y = Rising.more h (rising_append x y)

rising : (at first : ℕ) (ts : Trees) → Rising (at + length (image ts)) at (places at first ts)
unfolding places image
rising at first trees.none = Rising.none (let h : at ≤ at + 0 = omega arith in h)
rising at first (trees.node tag fields cs ts) =
    let a = at + length (image cs) + length (entry tag fields) in
    let q : a + length (image ts) ≡ at + length (image (node tag fields cs ts)) = omega (arith, image-length tag fields cs ts, entry_length tag fields) in
    rising_append (rising at first cs)
    (Rising.more (let h : at + length (image cs) ≤ at + length (image cs) = omega arith in h) (rising_from (let h : suc (at + length (image cs)) ≤ a = omega (arith, entry_length tag fields) in h)
    (subst (λ (i : ℕ). Rising i a (places a (first + records cs + 1) ts)) q (rising a (first + records cs + 1) ts))))

ascends_from : {n m : ℕ} {ls : List Listing} → m ≤ n → Ascends n ls → Ascends m ls
ascends_from h Ascends.none = Ascends.none
ascends_from {m = m} h (Ascends.more {l = l} i x) = Ascends.more (let j : m ≤ offset l = omega arith in j) x

ascends : {hi : ℕ} {ps : List Place} {ls : List Listing} {lo : ℕ} → Listings ps ls → Rising hi lo ps → Ascends lo ls
ascends Listings.none r = Ascends.none
ascends (Listings.shown b x y) (Rising.more h r) = Ascends.more h (ascends y r)
ascends (Listings.passed n y) (Rising.more h r) = ascends_from (omega arith) (ascends y r)

pub planned : (t : Trees) (ls : List Listing) → Listings (places 0 0 t) ls → Planned t ls
unfolding HeldIn
planned t ls x =
    record {
      complete = λ l d. all_of d;
      sound = sound t x (every (HeldIn t) 0 0 t (λ a f tag fields cs h. h));
      in_order = ascends x (rising 0 0 t);
    }
  where
    all_of : {l : Listing} → Due t l → In l ls
    all_of (due o y) = complete x (placed 0 o.subtree) o.braces y
