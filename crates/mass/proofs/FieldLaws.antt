-- A member as its bytes show it.
-- Assumes nothing.
use mathlib.Core.Path.{◌≡◌, refl, sym, ap, subst, ◌∙◌}
use mathlib.Core.List.{List, [], ◌∷◌, ◌++◌}
use Prim.Native.Nat.{ℕ, ◌+◌, ◌-◌, ◌*◌, ◌/◌, ◌%◌, ◌≤◌, ◌<◌}
use native.Mathlib.Omega.{arith}
use lib.ListN.{length, get_or, take, drop}
use lib.Seq.{slice}
use Rattle.grammar.specs.Tags.{STRING, FIELD}
use Rattle.grammar.specs.Trees.{Field, byte, number, span, text, Trees, tree, node, ◌⊕◌, count}
use Rattle.grammar.specs.Trees as trees
use Rattle.grammar.specs.Image.{payload, entry}
use Rattle.grammar.specs.Records.{Sort, Is, Fits, Spans, Form, Name, Obeys}
use Rattle.grammar.proofs.Obeys.{obeys_length}
use Rattle.images.specs.Images.{Age, dated, dated_trees, records}
use Rattle.images.proofs.RowLaws.{dated_other}
use Rattle.images.proofs.CodeLaws.{part_slice}
use Rattle.images.proofs.EntryLaws.{entry_there}
use Rattle.mass.specs.Mass.{MASS, DEPTH, FixedPlus, fixed_plus, ComputedPlus, computed_plus}
use Rattle.std.proofs.Common.{Option, None, Some}
use Rattle.mass.specs.declared.members.Added.{Added}
use Rattle.mass.specs.declared.members.Added.TheVariants.{Mass, Depth, Computed}
use Rattle.mass.specs.Inner.{two_at, Root, Calls, Adds}
use Rattle.mass.proofs.StandLaws.{left, children, seen, read_at, long_at}

-- ── The shape of a field ──────────────────────────────────────────────────────────────────────────

-- A field of an accepted tree: its name is a string, if it is fixed.
pub data Shape : List Field → Trees → Type 0 where
  fixed : {a e p m n v : ℕ} {w : List ℕ} {value : Trees} → Shape (span a e ∷ byte 0 ∷ byte p ∷ byte m ∷ number n ∷ byte v ∷ []) (node STRING (text w ∷ []) trees.none value)
  computed : {a e p m n v : ℕ} {cs : Trees} → Shape (span a e ∷ byte 1 ∷ byte p ∷ byte m ∷ number n ∷ byte v ∷ []) cs

-- A string's record.
record Stringed (tag : ℕ) (fields : List Field) (cs : Trees) : Type 0 where
  pub w : List ℕ
  pub tagged : STRING ≡ tag
  pub texted : text w ∷ [] ≡ fields
  pub alone : trees.none ≡ cs

a_string : (age : Age) (fields : List Field) (cs : Trees) {tag : ℕ} {fs : List Field} {σs ws : List Sort} → Form Spans.forward Sort.string tag fs ws → Fits σs ws
    → Obeys Spans.forward σs (dated_trees age cs) → fs ≡ dated age tag fields → Stringed tag fields cs
unfolding dated_trees count
a_string age fields trees.none (Form.r5 {w} u) Fits.none o e = record { w = w; tagged = refl; texted = e ∙ dated_other age STRING fields (λ q. omega (arith, q)); alone = refl }
a_string age fields (trees.node t f c ts) (Form.r5 u) Fits.none o e = absurd (omega (arith, obeys_length o))

shape : (age : Age) (cs : Trees) {σ : Sort} {fs : List Field} {σs ws : List Sort} → Form Spans.forward σ FIELD fs ws → Fits σs ws → Obeys Spans.forward σs (dated_trees age cs) → Shape fs cs
unfolding dated_trees count
shape age (trees.node tag fields cs ts) (Form.r31 {a} {e} {c} {p} {m} {n} {v} q Name.fixed i j) (Fits.more Is.itself g) (Obeys.node f h k o) =
    let x = a_string age fields cs f h k refl in
    let fs = span a e ∷ byte c ∷ byte p ∷ byte m ∷ number n ∷ byte v ∷ [] in
    subst (λ (t : ℕ). Shape fs (node t fields cs ts)) x.tagged
    (subst (λ (l : List Field). Shape fs (node STRING l cs ts)) x.texted (subst (λ (u : Trees). Shape fs (node STRING (text x.w ∷ []) u ts)) x.alone Shape.fixed))
shape age trees.none (Form.r31 q Name.fixed i j) (Fits.more Is.itself g) o = absurd (omega (arith, obeys_length o))
shape age cs (Form.r31 q Name.computed i j) g o = Shape.computed

-- ── Bytes ─────────────────────────────────────────────────────────────────────────────────────────

-- A field by the bytes that the code looks at.
pub data Face (bytes : List ℕ) (at : ℕ) : List Field → Trees → Type 0 where
  face : {a e c p m n v : ℕ} {cs : Trees} → at + 13 ≤ length bytes → two_at bytes (at + 3) ≡ a → two_at bytes (at + 5) ≡ e → get_or bytes (at + 7) 0 ≡ c → get_or bytes (at + 8) 0 ≡ p
      → Shape (span a e ∷ byte c ∷ byte p ∷ byte m ∷ number n ∷ byte v ∷ []) cs → Face bytes at (span a e ∷ byte c ∷ byte p ∷ byte m ∷ number n ∷ byte v ∷ []) cs

two_read : (bytes : List ℕ) {l : List ℕ} (at i n : ℕ) → drop at bytes ≡ l → get_or l i 0 ≡ n / 256 → get_or l (i + 1) 0 ≡ n % 256 → two_at bytes (at + i) ≡ n
two_read bytes {l} at i n e x y =
    let k : at + i + 1 ≡ at + (i + 1) = omega arith in
    let h = read_at bytes at i e ∙ x in
    let j = ap (λ (m : ℕ). get_or bytes m 0) k ∙ read_at bytes at (i + 1) e ∙ y in
    omega (arith, h, j)

face_of : (bytes : List ℕ) (at : ℕ) (after : List ℕ) {fs : List Field} {cs : Trees} → drop at bytes ≡ entry FIELD fs ++ after → Shape fs cs → Face bytes at fs cs
unfolding entry payload
face_of bytes at after d (Shape.fixed {a} {e}) =
    face (omega (arith, long_at bytes at d (omega arith))) (two_read bytes at 3 a d refl refl) (two_read bytes at 5 e d refl refl) (read_at bytes at 7 d) (read_at bytes at 8 d) Shape.fixed
face_of bytes at after d (Shape.computed {a} {e}) =
    face (omega (arith, long_at bytes at d (omega arith))) (two_read bytes at 3 a d refl refl) (two_read bytes at 5 e d refl refl) (read_at bytes at 7 d) (read_at bytes at 8 d) Shape.computed

pub root_shape : (age : Age) (fields : List Field) (cs : Trees) {σs : List Sort} {us : Trees} → Obeys Spans.forward σs (node FIELD (dated age FIELD fields) (dated_trees age cs) us) → Shape fields cs
root_shape age fields cs (Obeys.node f g k o) = subst (λ (fs : List Field). Shape fs cs) (dated_other age FIELD fields (λ q. omega (arith, q))) (shape age cs f g k)

pub field_face : {bytes array : List ℕ} {n : ℕ} {fields : List Field} {cs : Trees} → Root bytes array n FIELD fields cs → Face bytes (get_or array (n * 2) 0) fields cs
unfolding dated_trees
field_face {bytes} {array} {n} {fields} {cs} r =
    let s = r.standing in
    face_of bytes (get_or array (n * 2) 0) (seen r).after (seen r).here (root_shape s.age fields cs s.row.obeys)

-- A fixed field's name is the first record of its tree.
name_root : {bytes array : List ℕ} {n : ℕ} {fields : List Field} {w : List ℕ} {value : Trees} (r : Root bytes array n FIELD fields (node STRING (text w ∷ []) trees.none value))
    → Root bytes array (get_or array (n * 2 + 1) 0) STRING (text w ∷ []) trees.none
unfolding ◌⊕◌ records
name_root {w = w} {value} r =
    record { at = r.at; first = r.first; standing = left (tree STRING (text w ∷ []) trees.none) value (children r.standing); number = (seen r).first_is ∙ omega arith }

-- The text of a string's record.
pub record TextRead (bytes : List ℕ) (at : ℕ) (w : List ℕ) : Type 0 where
  pub within : at + 3 + two_at bytes (at + 1) ≤ length bytes
  pub reads : slice (at + 3) (at + 3 + two_at bytes (at + 1)) bytes ≡ w

text_read : {bytes array : List ℕ} {n : ℕ} {w : List ℕ} → Root bytes array n STRING (text w ∷ []) trees.none → TextRead bytes (get_or array (n * 2) 0) w
unfolding payload entry
text_read {bytes} {array} {n} {w} r =
    let at = get_or array (n * 2) 0 in
    let d = (seen r).here in
    let x = entry_there bytes at STRING (text w ∷ []) (seen r).after (omega (arith, long_at bytes at d (omega arith))) d in
    record { within = omega (arith, x.within, x.sized); reads = ap (λ (k : ℕ). slice (at + 3) (at + 3 + k) bytes) x.sized ∙ sym x.paid }

-- ── What a record adds ────────────────────────────────────────────────────────────────────────────

module _ {bytes array : List ℕ} {n tag : ℕ} {fields : List Field} {cs : Trees} (r : Root bytes array n tag fields cs) where
  pub tag_read : get_or bytes (get_or array (n * 2) 0) 0 ≡ tag
  unfolding entry
  tag_read = let at = get_or array (n * 2) 0 in let z : at + 0 ≡ at = omega arith in ap (λ (i : ℕ). get_or bytes i 0) (sym z) ∙ read_at bytes at 0 (seen r).here

  pub root_within : get_or array (n * 2) 0 < length bytes
  unfolding entry
  root_within = let l = long_at bytes (get_or array (n * 2) 0) (seen r).here (omega arith) in omega (arith, l)

pub fixed_tag : {name : List ℕ} {a e tag : ℕ} {fields : List Field} {cs : Trees} → FixedPlus name a e tag fields cs → tag ≡ FIELD
fixed_tag fixed_plus = refl

computed_tag : {tag : ℕ} {fields : List Field} → ComputedPlus tag fields → tag ≡ FIELD
computed_tag computed_plus = refl

pub no_field : {tag : ℕ} {fields : List Field} {cs : Trees} → (tag ≡ FIELD → ⊥) → Adds tag fields cs None
no_field n = Adds.nothing (λ a e f. n (fixed_tag f)) (λ a e f. n (fixed_tag f)) (λ f. n (computed_tag f))

-- A field whose plus byte is p.
pub fixed_byte : {name : List ℕ} {a e b f c p m n v : ℕ} {cs : Trees} → FixedPlus name b f FIELD (span a e ∷ byte c ∷ byte p ∷ byte m ∷ number n ∷ byte v ∷ []) cs → p ≡ 1
fixed_byte fixed_plus = refl

pub computed_byte : {a e c p m n v : ℕ} → ComputedPlus FIELD (span a e ∷ byte c ∷ byte p ∷ byte m ∷ number n ∷ byte v ∷ []) → p ≡ 1
computed_byte computed_plus = refl

pub no_plus : {bytes : List ℕ} {at : ℕ} {fields : List Field} {cs : Trees} → Face bytes at fields cs → (get_or bytes (at + 8) 0 ≡ 1 → ⊥) → Adds FIELD fields cs None
no_plus (face w a e c p s) h = Adds.nothing (λ b f x. h (p ∙ fixed_byte x)) (λ b f x. h (p ∙ fixed_byte x)) (λ x. h (p ∙ computed_byte x))

pub computed_at : {a e c p m n v : ℕ} → c ≡ 1 → p ≡ 1 → ComputedPlus FIELD (span a e ∷ byte c ∷ byte p ∷ byte m ∷ number n ∷ byte v ∷ [])
computed_at {a} {e} {c} {p} {m} {n} {v} x y =
    subst (λ (i : ℕ). ComputedPlus FIELD (span a e ∷ byte i ∷ byte p ∷ byte m ∷ number n ∷ byte v ∷ [])) (sym x)
    (subst (λ (i : ℕ). ComputedPlus FIELD (span a e ∷ byte 1 ∷ byte i ∷ byte m ∷ number n ∷ byte v ∷ [])) (sym y) computed_plus)

pub adds_computed : {bytes : List ℕ} {at : ℕ} {fields : List Field} {cs : Trees} → Face bytes at fields cs → get_or bytes (at + 8) 0 ≡ 1 → get_or bytes (at + 7) 0 ≡ 1 → Adds FIELD fields cs (Some Computed)
adds_computed (face w a e c p s) h k = Adds.computed (computed_at (sym c ∙ k) (sym p ∙ h))

fixed_at : (name w : List ℕ) {a e p m n v : ℕ} {value : Trees} → w ≡ name → p ≡ 1
    → FixedPlus name a e FIELD (span a e ∷ byte 0 ∷ byte p ∷ byte m ∷ number n ∷ byte v ∷ []) (node STRING (text w ∷ []) trees.none value)
fixed_at name w {a} {e} {p} {m} {n} {v} {value} x y =
    subst (λ (l : List ℕ). FixedPlus name a e FIELD (span a e ∷ byte 0 ∷ byte p ∷ byte m ∷ number n ∷ byte v ∷ []) (node STRING (text l ∷ []) trees.none value)) (sym x)
    (subst (λ (i : ℕ). FixedPlus name a e FIELD (span a e ∷ byte 0 ∷ byte i ∷ byte m ∷ number n ∷ byte v ∷ []) (node STRING (text name ∷ []) trees.none value)) (sym y) fixed_plus)

pub fixed_name : {name w : List ℕ} {a e : ℕ} {fields : List Field} {value : Trees} → FixedPlus name a e FIELD fields (node STRING (text w ∷ []) trees.none value) → w ≡ name
fixed_name fixed_plus = refl

pub computed_flag : {a e c p m n v : ℕ} → ComputedPlus FIELD (span a e ∷ byte c ∷ byte p ∷ byte m ∷ number n ∷ byte v ∷ []) → c ≡ 1
computed_flag computed_plus = refl

-- A fixed field marked plus, its name read.
pub record Named (bytes array : List ℕ) (n : ℕ) (fields : List Field) (cs : Trees) : Type 0 where
  pub w : List ℕ
  pub in_array : get_or array (n * 2 + 1) 0 * 2 + 1 < length array
  pub read : TextRead bytes (get_or array (get_or array (n * 2 + 1) 0 * 2) 0) w
  pub adds : (k : Option Added) → Calls w k → Adds FIELD fields cs k

pub called : {w : List ℕ} {a e p m n v : ℕ} {value : Trees} → p ≡ 1 → (k : Option Added) → Calls w k
    → Adds FIELD (span a e ∷ byte 0 ∷ byte p ∷ byte m ∷ number n ∷ byte v ∷ []) (node STRING (text w ∷ []) trees.none value) k
called {w} q k (Calls.mass x) = Adds.mass (fixed_at MASS w x q)
called {w} q k (Calls.depth x) = Adds.depth (fixed_at DEPTH w x q)
called q k (Calls.other x y) = Adds.nothing (λ b f z. x (fixed_name z)) (λ b f z. y (fixed_name z)) (λ z. omega (arith, computed_flag z))

pub named : {bytes array : List ℕ} {n : ℕ} {fields : List Field} {cs : Trees} → Root bytes array n FIELD fields cs → Face bytes (get_or array (n * 2) 0) fields cs
    → get_or bytes (get_or array (n * 2) 0 + 8) 0 ≡ 1 → (get_or bytes (get_or array (n * 2) 0 + 7) 0 ≡ 1 → ⊥) → Named bytes array n fields cs
named r (face i a e c p (Shape.fixed {w = w})) h k =
    let q = name_root r in
    record { w = w; in_array = (seen q).in_array; read = text_read q; adds = called (sym p ∙ h) }
named r (face i a e c p Shape.computed) h k = absurd (k c)

-- A record whose tag byte is a field's.
pub as_field : {bytes array : List ℕ} {n tag : ℕ} {fields : List Field} {cs : Trees} → Root bytes array n tag fields cs → get_or bytes (get_or array (n * 2) 0) 0 ≡ FIELD → Root bytes array n FIELD fields cs
as_field {bytes} {array} {n} {tag} {fields} {cs} r h = subst (λ (t : ℕ). Root bytes array n t fields cs) (sym (tag_read r) ∙ h) r

pub field_adds : {bytes array : List ℕ} {n tag : ℕ} {k : Option Added} {fields : List Field} {cs : Trees} → Root bytes array n tag fields cs → get_or bytes (get_or array (n * 2) 0) 0 ≡ FIELD
    → Adds FIELD fields cs k → Adds tag fields cs k
field_adds {k = k} {fields} {cs} r h x = subst (λ (t : ℕ). Adds t fields cs k) (sym h ∙ tag_read r) x

pub face_within : {bytes : List ℕ} {at : ℕ} {fields : List Field} {cs : Trees} → Face bytes at fields cs → at + 13 ≤ length bytes
face_within (face i a e c p s) = i

-- A name, by the part of the image that the code compares.
module _ (bytes : List ℕ) (at size : ℕ) (e : size ≡ two_at bytes (at + 1)) where
  whole_name : slice (at + 3) (at + 3 + two_at bytes (at + 1)) bytes ≡ take (at + 3 + size - (at + 3)) (drop (at + 3) bytes)
  whole_name = ap (λ (k : ℕ). slice (at + 3) (at + 3 + k) bytes) (sym e) ∙ sym (part_slice bytes (at + 3) (at + 3 + size) (omega arith))

  pub calls_mass : take (at + 3 + size - (at + 3)) (drop (at + 3) bytes) ≡ MASS → Calls (slice (at + 3) (at + 3 + two_at bytes (at + 1)) bytes) (Some Mass)
  calls_mass h = Calls.mass (whole_name ∙ h)

  pub calls_depth : take (at + 3 + size - (at + 3)) (drop (at + 3) bytes) ≡ DEPTH → Calls (slice (at + 3) (at + 3 + two_at bytes (at + 1)) bytes) (Some Depth)
  calls_depth h = Calls.depth (whole_name ∙ h)

  pub calls_other : (take (at + 3 + size - (at + 3)) (drop (at + 3) bytes) ≡ MASS → ⊥) → (take (at + 3 + size - (at + 3)) (drop (at + 3) bytes) ≡ DEPTH → ⊥)
      → Calls (slice (at + 3) (at + 3 + two_at bytes (at + 1)) bytes) None
  calls_other h k = Calls.other (λ x. h (sym whole_name ∙ x)) (λ x. k (sym whole_name ∙ x))
