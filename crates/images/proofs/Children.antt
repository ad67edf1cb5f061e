-- THE LINKS ARE THE TREE'S: of every record of an accepted image the array has the offset at which its own bytes stand, and the children that are
-- found from it are the record's children in the tree. Every number below the count is one record's, and by the array one row of children.
-- Assumes nothing.
use mathlib.Core.Path.{◌≡◌, refl, sym, ap, subst, ◌∙◌}
use mathlib.Core.Bool.{Bool, true, false}
use mathlib.Core.List.{List, [], ◌∷◌, ◌++◌, append_assoc, append-nil}
use Prim.Native.Nat.{ℕ, suc, ◌+◌, ◌-◌, ◌*◌, ◌≤◌, ◌<◌}
use native.Mathlib.Omega.{arith}
use lib.Dec.{eqb, ltb}
use lib.ListN.{length, drop, get_or, replicate, length-append}
use lib.Seq.{get_or_at, drop_at}
use borrow.Author.Tests.{eqb-true, eqb-false, ltb-true, ltb-false}
use Rattle.grammar.specs.Trees.{Field, Trees}
use Rattle.grammar.specs.Trees as trees
use Rattle.grammar.specs.Image.{entry, image}
use Rattle.std.proofs.Common.{Ok}
use Rattle.images.specs.Images.{Accepted, records, links, ReadsBack}
use Rattle.images.specs.Children.{Record, root_numbers, Holds, first_of, Backward, Found}
use Rattle.images.proofs.LinkLaws.{links-length}
use Rattle.images.proofs.Sole.{no_tree}

-- ── Where a row stands ────────────────────────────────────────────────────────────────────────────

-- A row's bytes stand in the image and its links in the array, each at its place.
record Stored (bytes array : List ℕ) (at first : ℕ) (ts : Trees) : Type 0 where
  pub before : List ℕ
  pub after : List ℕ
  pub split : bytes ≡ before ++ (image ts ++ after)
  pub place : length before ≡ at
  pub left : List ℕ
  pub right : List ℕ
  pub linked : array ≡ left ++ (links at first ts ++ right)
  pub number : length left ≡ first * 2

module _ {bytes array : List ℕ} {at first tag : ℕ} {fields : List Field} {children ts : Trees} (s : Stored bytes array at first (trees.node tag fields children ts)) where
  abbrev offset : ℕ
  offset = at + length (image children)

  abbrev next : ℕ
  next = offset + length (entry tag fields)

  abbrev own : ℕ
  own = first + records children

  -- its children, its own record, and what stands to the right
  bytes_parts : bytes ≡ s.before ++ (image children ++ (entry tag fields ++ (image ts ++ s.after)))
  unfolding image
  bytes_parts =
      s.split
      ∙ ap (λ (l : List ℕ). s.before ++ l)
      (append_assoc (image children ++ entry tag fields) (image ts) s.after ∙ append_assoc (image children) (entry tag fields) (image ts ++ s.after))

  array_parts : array ≡ s.left ++ (links at first children ++ (offset ∷ first ∷ (links next (own + 1) ts ++ s.right)))
  unfolding links
  array_parts = s.linked ∙ ap (λ (l : List ℕ). s.left ++ l) (append_assoc (links at first children) (offset ∷ first ∷ links next (own + 1) ts) s.right)

  in_children : Stored bytes array at first children
  in_children = record {
    before = s.before;
    after = entry tag fields ++ (image ts ++ s.after);
    split = bytes_parts;
    place = s.place;
    left = s.left;
    right = offset ∷ first ∷ (links next (own + 1) ts ++ s.right);
    linked = array_parts;
    number = s.number;
  }

  before_own : length (s.before ++ image children) ≡ offset
  before_own = omega (arith, length-append s.before (image children), s.place)

  left_own : length (s.left ++ links at first children) ≡ own * 2
  left_own = omega (arith, length-append s.left (links at first children), s.number, links-length at first children)

  bytes_own : bytes ≡ (s.before ++ image children) ++ (entry tag fields ++ (image ts ++ s.after))
  bytes_own = bytes_parts ∙ sym (append_assoc s.before (image children) (entry tag fields ++ (image ts ++ s.after)))

  array_own : array ≡ (s.left ++ links at first children) ++ (offset ∷ first ∷ (links next (own + 1) ts ++ s.right))
  array_own = array_parts ∙ sym (append_assoc s.left (links at first children) (offset ∷ first ∷ (links next (own + 1) ts ++ s.right)))

  in_right : Stored bytes array next (own + 1) ts
  in_right =
      let l = s.left ++ links at first children in
      record {
        before = (s.before ++ image children) ++ entry tag fields;
        after = s.after;
        split = bytes_own ∙ sym (append_assoc (s.before ++ image children) (entry tag fields) (image ts ++ s.after));
        place = omega (arith, length-append (s.before ++ image children) (entry tag fields), before_own);
        left = l ++ offset ∷ first ∷ [];
        right = s.right;
        linked = array_own ∙ sym (append_assoc l (offset ∷ first ∷ []) (links next (own + 1) ts ++ s.right));
        number = omega (arith, length-append l (offset ∷ first ∷ []), left_own);
      }

  own_bytes : drop offset bytes ≡ entry tag fields ++ (image ts ++ s.after)
  own_bytes = ap (drop offset) bytes_own ∙ drop_at (s.before ++ image children) (entry tag fields ++ (image ts ++ s.after)) offset before_own

  own_offset : get_or array (own * 2) 0 ≡ offset
  own_offset = ap (λ (l : List ℕ). get_or l (own * 2) 0) array_own ∙ get_or_at (s.left ++ links at first children) offset (first ∷ (links next (own + 1) ts ++ s.right)) 0 (own * 2) left_own

  own_first : first_of array own ≡ first
  own_first =
      let l = s.left ++ links at first children in
      let r = links next (own + 1) ts ++ s.right in
      ap (λ (w : List ℕ). get_or w (own * 2 + 1) 0) (array_own ∙ sym (append_assoc l (offset ∷ []) (first ∷ r)))
      ∙ get_or_at (l ++ offset ∷ []) first r 0 (own * 2 + 1) (omega (arith, length-append l (offset ∷ []), left_own))

-- ── Found backward ────────────────────────────────────────────────────────────────────────────────

backward_as : {array ks ls : List ℕ} {first m n : ℕ} → m ≡ n → ks ≡ ls → Backward array first m ks → Backward array first n ls
backward_as {array} {ks} {ls} {first} {m} {n} e q b = subst (λ (i : ℕ). Backward array first i ls) e (subst (λ (l : List ℕ). Backward array first m l) q b)

-- A row's roots are found behind those that are found before it.
roots_found : {bytes array before : List ℕ} {at first m : ℕ} (ts : Trees) → Stored bytes array at m ts → first ≤ m → Backward array first m before
    → Backward array first (m + records ts) (before ++ root_numbers m ts)
unfolding records root_numbers
roots_found {before = before} {m = m} trees.none s h b = backward_as (omega arith) (sym (append-nil before)) b
roots_found {array = array} {before} {first = first} {m} (trees.node tag fields children ts) s h b =
    let own = m + records children in
    let c : Backward array first (suc own) (before ++ own ∷ []) = Backward.child {m = own} (omega arith) (subst (λ (i : ℕ). Backward array first i before) (sym (own_first s)) b) in
    let d = roots_found {before = before ++ own ∷ []} ts (in_right s) (omega arith) (backward_as (omega arith) refl c) in
    backward_as (omega arith) (append_assoc before (own ∷ []) (root_numbers (own + 1) ts)) d

-- ── Every record ──────────────────────────────────────────────────────────────────────────────────

-- What an image and its array tell of a record: its own bytes stand at its offset, and its children are found.
pub record Told (bytes array : List ℕ) (r : Record) : Type 0 where
  pub offset : get_or array (r.number * 2) 0 ≡ r.offset
  pub after : List ℕ
  pub own : drop r.offset bytes ≡ entry r.tag r.fields ++ after
  pub children : Found array r.number r.children

holds_told : {bytes array : List ℕ} {at first : ℕ} {ts : Trees} {r : Record} → Stored bytes array at first ts → Holds at first ts r → Told bytes array r
holds_told {array = array} {first = first} s (Holds.root {children = children}) =
    let i = first + records children in
    record {
      offset = own_offset s;
      after = _;
      own = own_bytes s;
      children = subst (λ (f : ℕ). Backward array f i (root_numbers first children)) (sym (own_first s)) (roots_found children (in_children s) (omega arith) Backward.over);
    }
holds_told s (Holds.under h) = holds_told (in_children s) h
holds_told s (Holds.beside h) = holds_told (in_right s) h

-- The links of a whole tree.
pub tree_told : {bytes : List ℕ} {t : Trees} (rest : List ℕ) → bytes ≡ image t → (r : Record) → Holds 0 0 t r → Told bytes (links 0 0 t ++ rest) r
tree_told {bytes} {t} rest e r h = holds_told stored h
  where
    stored : Stored bytes (links 0 0 t ++ rest) 0 0 t
    stored = record { before = []; after = []; split = e ∙ sym (append-nil (image t)); place = refl; left = []; right = rest; linked = refl; number = refl }

-- THE LINKS ARE THE TREE'S.
pub links_are_the_trees : {bytes array : List ℕ} {room n : ℕ} → ReadsBack bytes room (Ok n) array
    → (t : Trees) × Accepted bytes t × (records t ≡ n) × ((r : Record) → Holds 0 0 t r → Told bytes array r)
links_are_the_trees {bytes} {array} {room} {n} x = by room n array x
  where
    by : (room n : ℕ) (array : List ℕ) → ReadsBack bytes room (Ok n) array
        → (t : Trees) × Accepted bytes t × (records t ≡ n) × ((r : Record) → Holds 0 0 t r → Told bytes array r)
    by room n array (ReadsBack.accepted {t} h a) = (t, a, refl, tree_told (replicate (room - 2 * records t) 0) a.written)
    by room n array (ReadsBack.refused h x) = absurd (omega (arith, no_tree x))

-- ── Every number, and one record only ─────────────────────────────────────────────────────────────

-- Every number of a row is a record's.
pub record Numbered (at first : ℕ) (ts : Trees) (i : ℕ) : Type 0 where
  pub there : Record
  pub held : Holds at first ts there
  pub numbered : there.number ≡ i

pub numbers_held : (at first : ℕ) (ts : Trees) (i : ℕ) → first ≤ i → i < first + records ts → Numbered at first ts i
unfolding records
numbers_held at first trees.none i h g = absurd (omega arith)
numbers_held at first (trees.node tag fields children ts) i h g =
    by (ltb i (first + records children)) refl (eqb i (first + records children)) refl
    (λ l. numbers_held at first children i h l)
    (λ l. numbers_held (at + length (image children) + length (entry tag fields)) (first + records children + 1) ts i l (omega arith))
  where
    by : (b : Bool) → ltb i (first + records children) ≡ b → (c : Bool) → eqb i (first + records children) ≡ c → (i < first + records children → Numbered at first children i)
        → (first + records children + 1 ≤ i → Numbered (at + length (image children) + length (entry tag fields)) (first + records children + 1) ts i) → Numbered at first (trees.node tag fields children ts) i
    by true e c f deeper further = let x = deeper (ltb-true i (first + records children) e) in record { there = x.there; held = Holds.under x.held; numbered = x.numbered }
    by false e true f deeper further = record { there = _; held = Holds.root; numbered = sym (eqb-true i (first + records children) f) }
    by false e false f deeper further =
        let more = ltb-false i (first + records children) e in
        let other = eqb-false i (first + records children) f in
        let x = further (omega arith) in
        record { there = x.there; held = Holds.beside x.held; numbered = x.numbered }

-- The numbers of a row's records are the row's.
within : {at first : ℕ} {ts : Trees} {r : Record} → Holds at first ts r → (first ≤ r.number) × (r.number < first + records ts)
unfolding records
within Holds.root = (omega arith, omega arith)
within (Holds.under h) = let x = within h in (omega (arith, x.0), omega (arith, x.1))
within (Holds.beside h) = let x = within h in (omega (arith, x.0), omega (arith, x.1))

-- A number is one record's.
pub holds_once : {at first : ℕ} {ts : Trees} {r q : Record} → Holds at first ts r → Holds at first ts q → r.number ≡ q.number → r ≡ q
holds_once Holds.root Holds.root e = refl
holds_once Holds.root (Holds.under h) e = absurd (omega (arith, (within h).1, e))
holds_once Holds.root (Holds.beside h) e = absurd (omega (arith, (within h).0, e))
holds_once (Holds.under h) Holds.root e = absurd (omega (arith, (within h).1, e))
holds_once (Holds.under h) (Holds.under g) e = holds_once h g e
holds_once (Holds.under h) (Holds.beside g) e = absurd (omega (arith, (within h).1, (within g).0, e))
holds_once (Holds.beside h) Holds.root e = absurd (omega (arith, (within h).0, e))
holds_once (Holds.beside h) (Holds.under g) e = absurd (omega (arith, (within h).0, (within g).1, e))
holds_once (Holds.beside h) (Holds.beside g) e = holds_once h g e

-- The same for two numbers that are equal: they are matched apart.
found_alike : {array : List ℕ} {first n m : ℕ} {ks ls : List ℕ} → Backward array first n ks → Backward array first m ls → n ≡ m → ks ≡ ls
found_alike Backward.over Backward.over e = refl
found_alike Backward.over (Backward.child h b) e = absurd (omega arith)
found_alike (Backward.child h b) Backward.over e = absurd (omega arith)
found_alike {array = array} (Backward.child {m = i} h b) (Backward.child {m = j} {before = after} g c) e =
    let same : i ≡ j = omega arith in
    ap (λ (l : List ℕ). l ++ i ∷ []) (found_alike b c (ap (first_of array) same)) ∙ ap (λ (k : ℕ). after ++ k ∷ []) same

-- The array tells of one row of children.
pub found_once : {array ks ls : List ℕ} {first n : ℕ} → Backward array first n ks → Backward array first n ls → ks ≡ ls
found_once x y = found_alike x y refl
