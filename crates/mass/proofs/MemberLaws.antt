-- The members of an object, gone through from the last to the first.
-- Assumes nothing.
use mathlib.Core.Path.{◌≡◌, refl, sym, ap, subst, ◌∙◌}
use mathlib.Core.Bool.{Bool, true, false}
use mathlib.Core.List.{List, [], ◌∷◌}
use Prim.Native.Nat.{ℕ, ◌+◌, ◌-◌, ◌*◌, ◌≤◌, ◌<◌}
use native.Mathlib.Omega.{arith}
use lib.ListN.{length, get_or}
use Rattle.grammar.specs.Tags.{STRING, FIELD}
use Rattle.grammar.specs.Trees.{Field, byte, number, span, text, Trees, tree, node, ◌⊕◌, count}
use Rattle.grammar.specs.Trees as trees
use Rattle.grammar.specs.Image.{image}
use Rattle.grammar.proofs.ImageLaws.{row_assoc, row_end, image-length}
use Rattle.images.specs.Images.{records}
use Rattle.images.proofs.RootLaws.{no_true}
use Rattle.images.proofs.RowLaws.{records-row}
use Rattle.mass.specs.Mass.{MASS, DEPTH, FixedPlus, fixed_plus, ComputedPlus, Raises, Leaves, Undecided}
use Rattle.std.proofs.Common.{Option, None, Some}
use Rattle.mass.specs.declared.members.Added.{Added}
use Rattle.mass.specs.declared.members.Added.TheVariants.{Mass, Depth, Computed}
use Rattle.mass.specs.declared.members.Own.{Own}
use Rattle.mass.specs.Inner.{two_at, Standing, SomeTrees, Root, Adds, AddsAs, plus, Spot, SumsUp}
use Rattle.mass.proofs.StandLaws.{left, right, seen}
use Rattle.mass.proofs.FieldLaws.{Face, face, field_face, as_field, fixed_tag, fixed_name, computed_flag, tag_read}

-- ── The last of a row ─────────────────────────────────────────────────────────────────────────────

-- A row that has a tree, by its last.
pub data Ended : Trees → Type 0 where
  ended : (us : Trees) (tag : ℕ) (fields : List Field) (children : Trees) → Ended (us ⊕ tree tag fields children)

one_more : (tag : ℕ) (fields : List Field) (children : Trees) {ts : Trees} → Ended ts → Ended (node tag fields children ts)
unfolding ◌⊕◌
one_more tag fields children (ended us t f c) = ended (node tag fields children us) t f c

end_of : (tag : ℕ) (fields : List Field) (children ts : Trees) → Ended (node tag fields children ts)
unfolding ◌⊕◌
end_of tag fields children trees.none = ended trees.none tag fields children
end_of tag fields children (trees.node t f c ts) = one_more tag fields children (end_of t f c ts)

some_end : (ts : Trees) → 0 < records ts → Ended ts
unfolding records
some_end trees.none h = absurd (omega arith)
some_end (trees.node tag fields children ts) h = end_of tag fields children ts

-- ── The walk ──────────────────────────────────────────────────────────────────────────────────────

-- Of the trees from a record on, those on the right, from record m on, are gone through.
pub record Gone (bytes : List ℕ) (first : ℕ) (ts : Trees) (undecided : Bool) (mass depth : Option ℕ) (m : ℕ) : Type 0 where
  pub us : Trees
  pub ws : Trees
  pub whole : ts ≡ us ⊕ ws
  pub many : m ≡ first + records us
  pub says : SumsUp bytes ws undecided mass depth

pub record Going (bytes array : List ℕ) (first n : ℕ) (undecided : Bool) (mass depth : Option ℕ) (m : ℕ) : Type 0 where
  pub each : (at : ℕ) (ts : Trees) → Standing bytes array at first ts → n ≡ first + records ts → Gone bytes first ts undecided mass depth m

pub raises_some : {name : List ℕ} {ts : Trees} {a e : ℕ} → Raises name ts a e → 0 < count ts
unfolding count
raises_some (Raises.first x) = omega arith
raises_some (Raises.later n x) = omega arith

pub undecided_some : {ts : Trees} → Undecided ts → 0 < count ts
unfolding count
undecided_some (Undecided.here x) = omega arith
undecided_some (Undecided.later x) = omega arith

says_none : (bytes : List ℕ) → SumsUp bytes trees.none false None None
unfolding count
says_none bytes =
    record {
      if_so = λ e. absurd (no_true e refl);
      so = λ u. absurd (omega (arith, undecided_some u));
      on_mass = Spot.nowhere (λ a e x. omega (arith, raises_some x));
      on_depth = Spot.nowhere (λ a e x. omega (arith, raises_some x));
    }

pub starts : (bytes array : List ℕ) (first n : ℕ) → Going bytes array first n false None None n
starts bytes array first n = record { each = λ at ts s e. record { us = ts; ws = trees.none; whole = sym (row_end ts); many = e; says = says_none bytes } }

-- The next tree to the left, by its root, record m - 1.
pub record Next (bytes array : List ℕ) (first m : ℕ) (us : Trees) : Type 0 where
  pub vs : Trees
  pub tag : ℕ
  pub fields : List Field
  pub children : Trees
  pub split : us ≡ vs ⊕ tree tag fields children
  pub root : Root bytes array (m - 1) tag fields children
  pub left_of : get_or array ((m - 1) * 2 + 1) 0 ≡ first + records vs
  pub less : get_or array ((m - 1) * 2 + 1) 0 < m

next_of : {bytes array : List ℕ} {at first m : ℕ} {us : Trees} → Ended us → Standing bytes array at first us → m ≡ first + records us → Next bytes array first m us
unfolding records
next_of {bytes} {array} {at} {first} {m} (ended vs tag fields children) s e =
    let r : Root bytes array (m - 1) tag fields children =
    record { at = at + length (image vs); first = first + records vs; standing = right vs (tree tag fields children) s; number = omega (arith, records-row vs (tree tag fields children)) } in
    record { vs = vs; tag = tag; fields = fields; children = children; split = refl; root = r; left_of = (seen r).first_is; less = omega (arith, (seen r).first_is, records-row vs (tree tag fields children)) }

module _ {bytes array : List ℕ} {at first : ℕ} {ts : Trees} (s : Standing bytes array at first ts) where
  pub next : {undecided : Bool} {mass depth : Option ℕ} {m : ℕ} (g : Gone bytes first ts undecided mass depth m) → first < m → Next bytes array first m g.us
  next {m = m} g h =
      let t = subst (λ (t : Trees). Standing bytes array at first t) g.whole s in
      next_of (some_end g.us (omega (arith, g.many))) (left g.us g.ws t) g.many

  -- With that tree gone through too.
  pub goes : {undecided undecided₁ : Bool} {mass mass₁ depth depth₁ : Option ℕ} {m : ℕ} (g : Gone bytes first ts undecided mass depth m) (h : first < m)
      → SumsUp bytes (node (next g h).tag (next g h).fields (next g h).children g.ws) undecided₁ mass₁ depth₁
      → Gone bytes first ts undecided₁ mass₁ depth₁ (get_or array ((m - 1) * 2 + 1) 0)
  unfolding ◌⊕◌
  goes g h x =
      let k = next g h in
      record {
        us = k.vs;
        ws = node k.tag k.fields k.children g.ws;
        whole = g.whole ∙ ap (λ (t : Trees). t ⊕ g.ws) k.split ∙ row_assoc k.vs (tree k.tag k.fields k.children) g.ws;
        many = k.left_of;
        says = x;
      }

-- ── One member more ───────────────────────────────────────────────────────────────────────────────

pub leaves_more : {name : List ℕ} {tag : ℕ} {fields : List Field} {children ts : Trees} → ((a e : ℕ) → FixedPlus name a e tag fields children → ⊥) → Leaves name ts → Leaves name (node tag fields children ts)
leaves_more n l a e (Raises.first x) = n a e x
leaves_more n l a e (Raises.later m x) = l a e x

spot_kept : {bytes name : List ℕ} {o : Option ℕ} {tag : ℕ} {fields : List Field} {children ts : Trees} → ((a e : ℕ) → FixedPlus name a e tag fields children → ⊥) → Spot bytes name ts o
    → Spot bytes name (node tag fields children ts) o
spot_kept n (Spot.nowhere l) = Spot.nowhere (leaves_more n l)
spot_kept n (Spot.at h i x) = Spot.at h i (Raises.later n x)

pub undecided_less : {tag : ℕ} {fields : List Field} {children ts : Trees} → (ComputedPlus tag fields → ⊥) → Undecided (node tag fields children ts) → Undecided ts
undecided_less n (Undecided.here x) = absurd (n x)
undecided_less n (Undecided.later x) = x

-- A fixed field is not computed, and has one name.
pub not_computed : {name : List ℕ} {a e tag : ℕ} {fields : List Field} {children : Trees} → FixedPlus name a e tag fields children → ComputedPlus tag fields → ⊥
not_computed fixed_plus x = omega (arith, computed_flag x)

pub not_other : {a e b f tag : ℕ} {fields : List Field} {children : Trees} → FixedPlus MASS a e tag fields children → FixedPlus DEPTH b f tag fields children → ⊥
not_other fixed_plus x = omega (arith, ap length (fixed_name x))

-- A field that raises, by its offset: its name span is read there.
read_span : {bytes name : List ℕ} {at a e : ℕ} {fields : List Field} {children : Trees} → FixedPlus name a e FIELD fields children → Face bytes at fields children
    → (at + 13 ≤ length bytes) × (two_at bytes (at + 3) ≡ a) × (two_at bytes (at + 5) ≡ e)
read_span fixed_plus (face i x y c p s) = (i, x, y)

face_raises : {bytes name : List ℕ} {at a e : ℕ} {fields : List Field} {children : Trees} (ts : Trees) → 0 < at → FixedPlus name a e FIELD fields children → Face bytes at fields children
    → Spot bytes name (node FIELD fields children ts) (Some at)
face_raises {bytes} {name} {at} {a} {fields = fields} {children} ts z x f =
    let r = read_span x f in
    Spot.at z (omega (arith, r.0))
    (subst (λ (b : ℕ). Raises name (node FIELD fields children ts) b (two_at bytes (at + 5))) (sym r.1)
    (subst (λ (g : ℕ). Raises name (node FIELD fields children ts) a g) (sym r.2) (Raises.first x)))

-- No field stands at 0.
past_name : {name : List ℕ} {a e tag : ℕ} {fields : List Field} {children : Trees} → FixedPlus name a e tag fields children → 0 < length (image children)
past_name {name} (fixed_plus {value = value}) = omega (arith, image-length STRING (text name ∷ []) trees.none value)

spot_here : {bytes array name : List ℕ} {n a e tag : ℕ} {fields : List Field} {children ts : Trees} → Root bytes array n tag fields children → FixedPlus name a e tag fields children
    → Spot bytes name (node tag fields children ts) (Some (get_or array (n * 2) 0))
spot_here {bytes} {array} {name} {n} {a} {e} {tag} {fields} {children} {ts} r x =
    let at = get_or array (n * 2) 0 in
    let q : FIELD ≡ tag = sym (fixed_tag x) in
    subst (λ (t : ℕ). Spot bytes name (node t fields children ts) (Some at)) q
    (face_raises ts (omega (arith, (seen r).offset, past_name x)) (subst (λ (t : ℕ). FixedPlus name a e t fields children) (sym q) x) (field_face (as_field r (tag_read r ∙ fixed_tag x))))

module _ {bytes array : List ℕ} {n tag : ℕ} {fields : List Field} {children ts : Trees} (r : Root bytes array n tag fields children) {undecided : Bool} {mass depth : Option ℕ}
    (s : SumsUp bytes ts undecided mass depth) where
  pub says_nothing : Adds tag fields children None → SumsUp bytes (node tag fields children ts) undecided mass depth
  says_nothing (Adds.nothing m d c) =
      record { if_so = λ e. Undecided.later (s.if_so e); so = λ u. s.so (undecided_less c u); on_mass = spot_kept m s.on_mass; on_depth = spot_kept d s.on_depth }

  pub says_computed : Adds tag fields children (Some Computed) → SumsUp bytes (node tag fields children ts) true mass depth
  says_computed (Adds.computed c) =
      record {
        if_so = λ e. Undecided.here c;
        so = λ u. refl;
        on_mass = spot_kept (λ a e x. not_computed x c) s.on_mass;
        on_depth = spot_kept (λ a e x. not_computed x c) s.on_depth;
      }

  pub says_mass : Adds tag fields children (Some Mass) → SumsUp bytes (node tag fields children ts) undecided (Some (get_or array (n * 2) 0)) depth
  says_mass (Adds.mass x) =
      record {
        if_so = λ e. Undecided.later (s.if_so e);
        so = λ u. s.so (undecided_less (not_computed x) u);
        on_mass = spot_here r x;
        on_depth = spot_kept (λ b f y. not_other x y) s.on_depth;
      }

  pub says_depth : Adds tag fields children (Some Depth) → SumsUp bytes (node tag fields children ts) undecided mass (Some (get_or array (n * 2) 0))
  says_depth (Adds.depth x) =
      record {
        if_so = λ e. Undecided.later (s.if_so e);
        so = λ u. s.so (undecided_less (not_computed x) u);
        on_mass = spot_kept (λ b f y. not_other y x) s.on_mass;
        on_depth = spot_here r x;
      }

-- ── The loop's turns ──────────────────────────────────────────────────────────────────────────────

-- What is known of the next tree where some trees are there.
pub next-some : {bytes array : List ℕ} {first n : ℕ} {undecided : Bool} {mass depth : Option ℕ} {m : ℕ} (o : SomeTrees bytes array first n) (g : Going bytes array first n undecided mass depth m) → first < m
    → Next bytes array first m (g.each o.at o.ts o.standing o.many).us
next-some o g h = next o.standing (g.each o.at o.ts o.standing o.many) h

-- With what record m - 1 adds.
pub turn : {bytes array : List ℕ} {first n m : ℕ} (own : Own) (k : Option Added) → Going bytes array first n own.undecided own.mass own.depth m → first < m → AddsAs bytes array (m - 1) k
    → Going bytes array first n (plus own k (get_or array ((m - 1) * 2) 0)).undecided (plus own k (get_or array ((m - 1) * 2) 0)).mass (plus own k (get_or array ((m - 1) * 2) 0)).depth
    (get_or array ((m - 1) * 2 + 1) 0)
turn own None g h a = record { each = λ at ts s q. let x = g.each at ts s q in let y = next s x h in goes s x h (says_nothing y.root x.says (a.each _ _ _ y.root)) }
turn own (Some Computed) g h a = record { each = λ at ts s q. let x = g.each at ts s q in let y = next s x h in goes s x h (says_computed y.root x.says (a.each _ _ _ y.root)) }
turn own (Some Mass) g h a = record { each = λ at ts s q. let x = g.each at ts s q in let y = next s x h in goes s x h (says_mass y.root x.says (a.each _ _ _ y.root)) }
turn own (Some Depth) g h a = record { each = λ at ts s q. let x = g.each at ts s q in let y = next s x h in goes s x h (says_depth y.root x.says (a.each _ _ _ y.root)) }

-- All are gone through.
no_records : (us : Trees) → records us ≡ 0 → trees.none ≡ us
unfolding records
no_records trees.none e = refl
no_records (trees.node tag fields children ts) e = absurd (omega arith)

pub ends : {bytes array : List ℕ} {first n : ℕ} {undecided : Bool} {mass depth : Option ℕ} {m : ℕ} → Going bytes array first n undecided mass depth m → m ≤ first
    → (at : ℕ) (ts : Trees) → Standing bytes array at first ts → n ≡ first + records ts → SumsUp bytes ts undecided mass depth
unfolding ◌⊕◌
ends {bytes} {undecided = undecided} {mass} {depth} g h at ts s e =
    let x = g.each at ts s e in
    let z = no_records x.us (omega (arith, x.many)) in
    subst (λ (t : Trees). SumsUp bytes t undecided mass depth) (sym (x.whole ∙ ap (λ (t : Trees). t ⊕ x.ws) (sym z))) x.says
