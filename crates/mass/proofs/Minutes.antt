-- THE RULE OF THE MINUTES: "Change one, change the other". Every `mass+` field of an accepted tree stands in an object that raises depth too, or that
-- is listed, or that is undecided and listed so.
-- Assumes nothing.
use mathlib.Core.Path.{◌≡◌, refl, sym, subst}
use mathlib.Core.List.{List, [], ◌∷◌, ◌++◌}
use mathlib.Core.Logic.{◌⊎◌, inl, inr, ⊎_elim}
use Prim.Native.Nat.{ℕ, zero, suc, ◌+◌, ◌≤◌, ◌<◌}
use native.Mathlib.Omega.{arith}
use lib.ListN.{length}
use Rattle.grammar.specs.Tags.{FIELD}
use Rattle.grammar.specs.Trees.{Field, Trees, node}
use Rattle.grammar.specs.Image.{entry, image}
use Rattle.grammar.specs.Records.{Sort, Is, Fits, times, Spans, Has, First, Part, Name, Form, Obeys}
use Rattle.grammar.specs.Answer.{prefix_power}
use Rattle.grammar.proofs.Derived.{whole_exactly}
use Rattle.images.specs.Images.{Age, dated_trees, Accepted}
use Rattle.std.proofs.Common.{Ok}
use Rattle.mass.specs.Mass.{MASS, DEPTH, FixedPlus, Raises, Leaves, Undecided, Lists, Braces, Subtree, Object, Among, listing, due, MassDepth}
use Rattle.mass.specs.Minutes.{Accounted, Minuted}
use Rattle.mass.proofs.FieldLaws.{fixed_tag}
use Rattle.mass.proofs.Decided.{Found, found, nowhere, Decided, decided}
use Rattle.mass.proofs.Demands.{complete}

-- ── Fields stand in objects ───────────────────────────────────────────────────────────────────────

-- How many fields may stand where these sorts are wanted, at least.
abbrev field_in : Sort → ℕ
field_in Sort.expression = 0
field_in Sort.string = 0
field_in Sort.run = 0
field_in Sort.object = 0
field_in Sort.named = 0
field_in Sort.param = 0
field_in Sort.bind = 0
field_in Sort.field = 1
field_in Sort.assertion = 0
field_in Sort.member = 1
field_in Sort.iteration = 0
field_in Sort.if_clause = 0
field_in Sort.clause = 0
field_in Sort.pattern = 0
field_in Sort.name_pattern = 0
field_in Sort.pattern_field = 0

abbrev fields_in : List Sort → ℕ
fields_in [] = 0
fields_in (σ ∷ σs) = field_in σ + fields_in σs

fields_append : (σs τs : List Sort) → fields_in (σs ++ τs) ≡ fields_in σs + fields_in τs
fields_append [] τs = omega arith
fields_append (σ ∷ σs) τs = omega (arith, fields_append σs τs)

no_fields : (n : ℕ) (σ : Sort) → field_in σ ≡ 0 → fields_in (times n σ) ≡ 0
unfolding times
no_fields zero σ e = refl
no_fields (suc n) σ e = omega (arith, no_fields n σ e, e)

behind : (n : ℕ) (σ : Sort) (τs : List Sort) → field_in σ ≡ 0 → fields_in τs ≡ 0 → fields_in (times n σ ++ τs) ≡ 0
behind n σ τs e f = omega (arith, fields_append (times n σ) τs, no_fields n σ e)

has_none : {d : ℕ} {σ : Sort} {σs : List Sort} → field_in σ ≡ 0 → Has σ d σs → fields_in σs ≡ 0
has_none e Has.no = refl
has_none e Has.yes = omega (arith, e)

part_none : {w b a e : ℕ} {σs : List Sort} → Part Spans.forward w b a e σs → fields_in σs ≡ 0
part_none (Part.absent x) = refl
part_none (Part.present x) = refl

first_none : {f : ℕ} {σ : Sort} → First f σ → field_in σ ≡ 0
first_none First.first = refl
first_none First.later = refl

name_none : {c : ℕ} {σ : Sort} → Name c σ → field_in σ ≡ 0
name_none Name.fixed = refl
name_none Name.computed = refl

-- A record that wants a field among its children is an object's.
wants : {σ : Sort} {tag : ℕ} {fs : List Field} {ws : List Sort} → Form Spans.forward σ tag fs ws → (fields_in ws ≡ 0) ⊎ Braces tag
wants (Form.r1 h p) = inl refl
wants Form.r2 = inl refl
wants (Form.r3 h) = inl refl
wants (Form.r4 h) = inl refl
wants (Form.r5 h) = inl refl
wants (Form.r6 p h) = inl refl
wants (Form.r7 {n}) = inl (no_fields n Sort.expression refl)
wants (Form.r8 n) = inl (omega (arith, no_fields n Sort.clause refl))
wants (Form.r9 {n}) = inr Braces.members
wants (Form.r10 a b n) = inr Braces.comprehension
wants Form.r11 = inl refl
wants (Form.r12 h) = inl refl
wants (Form.r13 h p) = inl refl
wants Form.r14 = inl refl
wants (Form.r15 {n}) = inl (behind n Sort.bind (Sort.expression ∷ []) refl refl)
wants (Form.r16 h p) = inl refl
wants (Form.r17 p) = inl refl
wants (Form.r18 {u = u} {n} p h) = inl (omega (arith, behind u Sort.expression (times n Sort.named) refl (no_fields n Sort.named refl)))
wants (Form.r19 h) = inl refl
wants (Form.r20 p f h) = inl (omega (arith, first_none f))
wants (Form.r21 {n = n} p) = inl (behind n Sort.param (Sort.expression ∷ []) refl refl)
wants (Form.r22 p h) = inl (omega (arith, has_none refl h))
wants (Form.r23 {σs = σs} {τs} {υs} p q r) = inl (omega (arith, fields_append (σs ++ τs) υs, fields_append σs τs, part_none p, part_none q, part_none r))
wants Form.r24_value = inl refl
wants (Form.r24_function {n}) = inl (omega (arith, behind n Sort.param (Sort.expression ∷ []) refl refl))
wants (Form.r25 p h) = inl refl
wants Form.r26 = inl refl
wants (Form.r27 {n} {m = m} h) = inl (behind n Sort.pattern (times m Sort.pattern) refl (no_fields m Sort.pattern refl))
wants (Form.r28 {n} h) = inl (no_fields n Sort.pattern_field refl)
wants (Form.r29_bare h p w) = inl (has_none refl h)
wants (Form.r29_default {σs = σs} h p w) = inl (omega (arith, fields_append σs (Sort.expression ∷ []), has_none refl h))
wants (Form.r30 h) = inl (omega (arith, has_none refl h))
wants (Form.r31 {n = n} q m i j) = inl (omega (arith, name_none m, behind n Sort.param (Sort.expression ∷ []) refl refl))
wants (Form.r32 p h) = inl (omega (arith, has_none refl h))
wants Form.r33 = inl refl
wants (Form.r34 p) = inl refl
wants (Form.r35 h w) = inl refl

is_more : {σ τ : Sort} → Is σ τ → field_in σ ≤ field_in τ
is_more {σ} Is.itself = omega arith
is_more Is.a_string = omega arith
is_more Is.a_run = omega arith
is_more Is.an_object = omega arith
is_more Is.a_local = omega arith
is_more Is.a_field = omega arith
is_more Is.an_assertion = omega arith
is_more Is.an_iteration = omega arith
is_more Is.an_if = omega arith
is_more Is.a_name = omega arith

fits_more : {σs ws : List Sort} → Fits σs ws → fields_in σs ≤ fields_in ws
fits_more Fits.none = omega arith
fits_more (Fits.more i f) = omega (arith, is_more i, fits_more f)

field_sort : {σ : Sort} {fs : List Field} {ws : List Sort} → Form Spans.forward σ FIELD fs ws → field_in σ ≡ 1
field_sort (Form.r31 q m i j) = refl

some-field : (age : Age) {fields : List Field} {cs ts : Trees} {σs : List Sort} → Among FIELD fields cs ts → Obeys Spans.forward σs (dated_trees age ts) → 0 < fields_in σs
unfolding dated_trees
some-field age Among.here (Obeys.node f g h k) = omega (arith, field_sort f)
some-field age (Among.later a) (Obeys.node f g h k) = omega (arith, some-field age a k)

-- Where a field stands: among these trees, or in an object of theirs.
record Within (age : Age) (at : ℕ) (ts : Trees) (fields : List Field) (cs : Trees) : Type 0 where
  pub place : ℕ
  pub members : Trees
  pub tag : ℕ
  pub own : List Field
  pub braces : Braces tag
  pub subtree : Subtree at ts place tag own members
  pub among : Among FIELD fields cs members
  pub sorts : List Sort
  pub obeys : Obeys Spans.forward sorts (dated_trees age members)

where_in : (age : Age) {at o : ℕ} {ts : Trees} {fields : List Field} {cs : Trees} {σs : List Sort} → Subtree at ts o FIELD fields cs → Obeys Spans.forward σs (dated_trees age ts)
    → Among FIELD fields cs ts ⊎ Within age at ts fields cs
unfolding dated_trees
where_in age Subtree.here o = inl Among.here
where_in age {at} {fields = fields} {cs} (Subtree.inside {tag = tag} {fields = own} {children = c} {ts = ts} x) (Obeys.node f g h k) = ⊎_elim among (λ w. inr (deeper w)) (where_in age x h)
  where
    deeper : Within age at c fields cs → Within age at (node tag own c ts) fields cs
    deeper w = record { place = w.place; members = w.members; tag = w.tag; own = w.own; braces = w.braces; subtree = Subtree.inside w.subtree; among = w.among; sorts = w.sorts; obeys = w.obeys }

    among : Among FIELD fields cs c → Among FIELD fields cs (node tag own c ts) ⊎ Within age at (node tag own c ts) fields cs
    among a =
        inr (⊎_elim (λ e. absurd (let s = some-field age a h in let m = fits_more g in omega (arith, s, m, e)))
        (λ b. record { place = at + length (image c); members = c; tag = tag; own = own; braces = b; subtree = Subtree.here; among = a; sorts = _; obeys = h }) (wants f))
where_in age {at} {fields = fields} {cs} (Subtree.beside {tag = tag} {fields = own} {children = c} {ts = ts} x) (Obeys.node f g h k) = ⊎_elim (λ a. inl (Among.later a)) (λ w. inr (further w)) (where_in age x k)
  where
    further : Within age (at + length (image c) + length (entry tag own)) ts fields cs → Within age at (node tag own c ts) fields cs
    further w = record { place = w.place; members = w.members; tag = w.tag; own = w.own; braces = w.braces; subtree = Subtree.beside w.subtree; among = w.among; sorts = w.sorts; obeys = w.obeys }

-- ── The rule ──────────────────────────────────────────────────────────────────────────────────────

-- Members of which one raises what has a name do not leave it.
not_left : {name : List ℕ} {a e tag : ℕ} {fields : List Field} {cs ts : Trees} → Among tag fields cs ts → FixedPlus name a e tag fields cs → Leaves name ts → ⊥
not_left Among.here f l = l _ _ (Raises.first f)
not_left (Among.later a) f l = not_left a f (λ b g x. l b g (Raises.later (λ c h y. l c h (Raises.first y)) x))

accounted : {bytes array list : List ℕ} {room size n : ℕ} {t : Trees} → MassDepth bytes room size (Ok n) array list → Accepted bytes t → {o : ℕ} {ms : Trees} → Object t o ms → Decided ms → (Leaves MASS ms → ⊥)
    → Accounted n list o ms
accounted {list = list} {n = rows} x y {o} {ms} q d n = by d.undecided d.mass d.depth
  where
    by : (Undecided ms ⊎ (Undecided ms → ⊥)) → Found MASS ms → Found DEPTH ms → Accounted rows list o ms
    by (inl u) m p = let r = complete x y (listing o 0 0 0) (due q (Lists.undecided u)) in Accounted.undecided u r.1 r.2
    by (inr v) (nowhere l) p = absurd (n l)
    by (inr v) (found m) (found p) = Accounted.both p
    by (inr v) (found {a} {e} m) (nowhere l) = let r = complete x y (listing o 1 a e) (due q (Lists.mass_alone v m l)) in Accounted.alone r.1 r.2

-- EVERY `mass+` FIELD OF AN ACCEPTED TREE stands in an object that has `depth+` too, or is listed, or is undecided.
pub minutes : {bytes array list : List ℕ} {room size n : ℕ} {t : Trees} → MassDepth bytes room size (Ok n) array list → Accepted bytes t
    → {o tag a e : ℕ} {fields : List Field} {children : Trees} → Subtree 0 t o tag fields children → FixedPlus MASS a e tag fields children → Minuted t n list tag fields children
minutes {list = list} {n = n} {t} x y {o} {tag} {a} {e} {fields} {children} h f =
    let q : FIELD ≡ tag = sym (fixed_tag f) in
    subst (λ (i : ℕ). Minuted t n list i fields children) q
    (⊎_elim alone in_object (where_in age (subst (λ (i : ℕ). Subtree 0 t o i fields children) (sym q) h) w.2))
  where
    age : Age
    age = y.age

    w : (σ : Sort) × Is σ Sort.expression × Obeys Spans.forward (σ ∷ []) (dated_trees age t)
    w = (whole_exactly (prefix_power 7) (dated_trees y.age t)).1 (y.derived, y.spanned)

    g : FixedPlus MASS a e FIELD fields children
    g = subst (λ (i : ℕ). FixedPlus MASS a e i fields children) (fixed_tag f) f

    alone : Among FIELD fields children t → Minuted t n list FIELD fields children
    alone m = absurd (let s = some-field age m w.2 in let i = is_more w.1 in omega (arith, s, i))

    in_object : Within age 0 t fields children → Minuted t n list FIELD fields children
    in_object v =
        let b : Object t v.place v.members = record { tag = v.tag; fields = v.own; braces = v.braces; subtree = v.subtree } in
        record { offset = v.place; members = v.members; object = b; own = v.among; accounted = accounted x y b (decided age v.members v.obeys) (not_left v.among g) }
