-- Behind a value that is whole: the next element or field of an open value, its end, and the end of the text.
-- Assumes nothing.
use mathlib.Core.Path.{◌≡◌, refl, sym, ap, subst, ◌∙◌}
use mathlib.Core.Bool.{Bool, false}
use mathlib.Core.List.{List, [], ◌∷◌, ◌++◌, append_assoc, append-nil}
use Prim.Native.Nat.{ℕ, ◌+◌, ◌≤◌, ◌<◌}
use native.Mathlib.Omega.{arith}
use lib.ListN.{length, drop, get_or, set, drop_of_length-le}
use lib.Seq.{sets}
use borrow.Author.Tests.{ne_eqb}
use Rattle.strings.proofs.Stores.{sets_append}
use Rattle.grammar.specs.Tags.{ARRAY, MEMBERS, STRING, FIELD}
use Rattle.grammar.specs.Trees.{byte, number, span, Trees, ◌⊕◌, count}
use Rattle.grammar.specs.Image.{payload, entry, image}
use Rattle.grammar.specs.Writing.{Wrote}
use Rattle.grammar.specs.Answer.{refused}
use Rattle.grammar.proofs.ImageLaws.{count-row, image-row, image_close}
use Rattle.grammar.proofs.WritingLaws.{and_then}
use Rattle.json_import.specs.Tokens.{is_blank}
use Rattle.json_import.specs.Values.{leaf, field, array, object}
use Rattle.json_import.specs.Json.{NOT_JSON}
use Rattle.json_import.specs.Machine.{Frame, arr, obj, State, want, name, after, stuck, past, is_deep, step, finish, ended, run}
use Rattle.json_import.specs.Inner.{Blanks}
use Rattle.json_import.specs.Leaves.{Goes}
use Rattle.json_import.specs.Steps.{row, Opened, an_array, an_object, NamedTo, named, NextTo, again, closed, Behind, Standing, ArrayNext, ObjectNext, OpenNext, EndedTo, whole_text, left_over}
use Rattle.std.specs.Prelude.{Result, Ok, Err}
use Rattle.json_import.specs.declared.Place.{Place}
use Rattle.json_import.specs.declared.Open.TheVariants.{Array, Object}
use Rattle.json_import.specs.declared.Fault.{Fault}
use Rattle.json_import.specs.declared.Fault.TheVariants.{NotJson}
use Rattle.json_import.specs.declared.Step.{Step}
use Rattle.json_import.specs.declared.Step.TheVariants.{Whole, Within}
use Rattle.json_import.proofs.Skips.{skip_want, skip_name, skip_after, stays_stuck}
use Rattle.json_import.proofs.Descends.{no_element, no_member}
use Rattle.json_import.proofs.Places.{byte_inside, sticks_here}
use Rattle.json_import.proofs.LeafPlaces.{comes_of, one_step, goes_on, goes_comes}
use Rattle.json_import.proofs.ValuePlaces.{number_long}

-- ── One byte behind a value ───────────────────────────────────────────────────────────────────────

comma_step : (large : List ℕ → Bool) (t ts : Trees) (fs : List Frame) (i : ℕ) → step is_deep large (after t (arr ts ∷ fs)) i 0x2C ≡ want (arr (ts ⊕ t) ∷ fs)
unfolding step past
comma_step large t ts fs i = refl

bracket_step : (large : List ℕ → Bool) (t ts : Trees) (fs : List Frame) (i : ℕ) → step is_deep large (after t (arr ts ∷ fs)) i 0x5D ≡ after (array (ts ⊕ t)) fs
unfolding step past
bracket_step large t ts fs i = refl

comma_name_step : (large : List ℕ → Bool) (t ts : Trees) (v : List ℕ) (a e : ℕ) (fs : List Frame) (i : ℕ)
    → step is_deep large (after t (obj ts v a e ∷ fs)) i 0x2C ≡ name (ts ⊕ field v a e t) fs
unfolding step past
comma_name_step large t ts v a e fs i = refl

brace_step : (large : List ℕ → Bool) (t ts : Trees) (v : List ℕ) (a e : ℕ) (fs : List Frame) (i : ℕ)
    → step is_deep large (after t (obj ts v a e ∷ fs)) i 0x7D ≡ after (object (ts ⊕ field v a e t)) fs
unfolding step past
brace_step large t ts v a e fs i = refl

open_end : (deep : ℕ → Bool) (large : List ℕ → Bool) (t : Trees) (f : Frame) (fs : List Frame) (i : ℕ) → finish deep large (after t (f ∷ fs)) i ≡ refused NOT_JSON i i 0
unfolding finish ended
open_end deep large t f fs i = refl

left_step : (large : List ℕ → Bool) (t : Trees) (i b : ℕ) → is_blank b ≡ false → step is_deep large (after t []) i b ≡ stuck i
unfolding step past
left_step large t i b p = rw p refl

-- A byte there is takes the machine one step on.
by_byte : {s : List ℕ} {at : ℕ} (b : ℕ) (x y : State) → get_or s at 0 ≡ b → 0 < b → ((large : List ℕ → Bool) → step is_deep large x at b ≡ y) → Goes s x at y (at + 1)
by_byte {s} {at} b x y k some f =
    one_step x y at (byte_inside s at (λ z. omega (arith, k, z, some))) (λ large. ap (λ (c : ℕ). step is_deep large x at c) k ∙ f large)

skip_behind : {s : List ℕ} {from at : ℕ} → Blanks s from at → (t : Trees) (fs : List Frame) → Goes s (after t fs) from (after t fs) at
skip_behind x t fs = record { runs = λ large says. skip_after is_deep large t fs x.ws }

-- ── Within an array ───────────────────────────────────────────────────────────────────────────────

to_name : {s : List ℕ} {at r : ℕ} → get_or s at 0 ≡ 0x2C → Blanks s (at + 1) r → (ts t : Trees) (v : List ℕ) (a e : ℕ) (fs : List Frame)
    → Goes s (after t (obj ts v a e ∷ fs)) at (name (ts ⊕ field v a e t) fs) r
to_name {at = at} k y ts t v a e fs =
    goes_on (by_byte 0x2C (after t (obj ts v a e ∷ fs)) (name (ts ⊕ field v a e t) fs) k (omega arith) (λ large. comma_name_step large t ts v a e fs at))
    (record { runs = λ large says. skip_name is_deep large (ts ⊕ field v a e t) fs y.ws })

array-image : (n : ℕ) (ts : Trees) → count ts ≡ n → image ts ++ entry ARRAY (number n ∷ []) ≡ image (array ts)
array-image n ts c = ap (λ (m : ℕ). image ts ++ entry ARRAY (number m ∷ [])) (sym c) ∙ sym (image_close ARRAY (number (count ts) ∷ []) ts)

object-image : (n : ℕ) (ts : Trees) → count ts ≡ n → image ts ++ entry MEMBERS (number n ∷ []) ≡ image (object ts)
object-image n ts c = ap (λ (m : ℕ). image ts ++ entry MEMBERS (number m ∷ [])) (sym c) ∙ sym (image_close MEMBERS (number (count ts) ∷ []) ts)

module _ {s out : List ℕ} {at w n : ℕ} (x : Behind s at w n) where
  pub array_again : {e : ℕ} → get_or s at 0 ≡ 0x2C → Blanks s (at + 1) e → ArrayNext s out at w n (Ok (Within (record { at = e; written = w }) (Array n))) out
  unfolding row
  array_again {e} k y =
      record {
        next = λ ts t c.
            again {p = record { at = e; written = w }} (arr (ts ⊕ t)) [] (omega (arith, y.on)) y.within y.unblank (omega (arith, y.on, x.2))
            (an_array {ts = ts ⊕ t} (sym c) (omega (arith, c, x.3, y.on)))
            (λ fs.
            goes_on (by_byte 0x2C (after t (arr ts ∷ fs)) (want (arr (ts ⊕ t) ∷ fs)) k (omega arith) (λ large. comma_step large t ts fs at))
            (record { runs = λ large says. skip_want is_deep large (arr (ts ⊕ t) ∷ fs) y.ws }))
            (append-nil (image (ts ⊕ t)))
            (record { to = omega arith; stored = refl });
      }

  pub array-closed : {p : Place} {out₁ : List ℕ} → get_or s at 0 ≡ 0x5D → p.at ≡ at + 1 → Wrote out w (entry ARRAY (number n ∷ [])) p.written out₁ → ArrayNext s out at w n (Ok (Whole p)) out₁
  unfolding count
  array-closed {p} k q v =
      record {
        next = λ ts t c.
            closed {p = p} (array (ts ⊕ t)) (entry ARRAY (number n ∷ [])) refl (omega (arith, q)) (omega (arith, q, byte_inside s at (λ z. omega (arith, k, z))))
            (omega (arith, q, x.2, v.to, number_long ARRAY n))
            (λ fs.
            subst (λ (e : ℕ). Goes s (after t (arr ts ∷ fs)) at (after (array (ts ⊕ t)) fs) e) (sym q)
            (by_byte 0x5D (after t (arr ts ∷ fs)) (after (array (ts ⊕ t)) fs) k (omega arith) (λ large. bracket_step large t ts fs at)))
            (array-image n (ts ⊕ t) c)
            v;
      }

  pub array_stuck : {out₁ : List ℕ} → (get_or s at 0 ≡ 0x2C → ⊥) → (get_or s at 0 ≡ 0x5D → ⊥) → ArrayNext s out at w n (Err (NotJson at)) out₁
  array_stuck p q =
      record {
        next = λ ts t c.
            NextTo.broken {f = NotJson at}
            (λ fs.
            comes_of (sticks_here (after t (arr ts ∷ fs)) at (λ deep large. open_end deep large t (arr ts) fs at)
            (λ l deep large. no_element deep large t ts fs at (get_or s at 0) x.4 (ne_eqb (get_or s at 0) 0x2C p) (ne_eqb (get_or s at 0) 0x5D q))));
      }

  -- ── Within an object ────────────────────────────────────────────────────────────────────────────

  pub object_named : {r : ℕ} {st : Result Step Fault} {out₁ : List ℕ} → get_or s at 0 ≡ 0x2C → Blanks s (at + 1) r → NamedTo s out r w n st out₁ → ObjectNext s out at w n st out₁
  unfolding row
  object_named {r} k y (named {p} l b on within unblank inner room goes put) =
      record {
        next = λ ts t v a z c.
            again {p = p} (obj (ts ⊕ field v a z t) l r b) (image (leaf STRING l)) (omega (arith, y.on, on)) within unblank room
            (an_object {ts = ts ⊕ field v a z t} (sym c) (omega (arith, c, x.3, y.on, on)) (omega (arith, y.within, x.1)) (omega (arith, inner, within, x.1)))
            (λ fs. goes_on (to_name k y ts t v a z fs) (goes (ts ⊕ field v a z t) fs))
            refl
            put;
      }
  object_named k y (NamedTo.broken {f} comes) =
      record { next = λ ts t v a z c. NextTo.broken {f = f} (λ fs. goes_comes f (to_name k y ts t v a z fs) (comes (ts ⊕ field v a z t) fs)) }

  -- The same of the byte that the code has read.
  pub object_next :
      {b r : ℕ} {st : Result Step Fault} {out₁ : List ℕ} →
      b ≡ get_or s at 0 → b ≡ 0x2C → Blanks s (at + 1) r → NamedTo s out r w n st out₁ → ObjectNext s out at w n st out₁
  object_next e k y v = object_named (sym e ∙ k) y v

  pub object-closed : {p : Place} {out₁ : List ℕ} → get_or s at 0 ≡ 0x7D → p.at ≡ at + 1 → Wrote out w (entry MEMBERS (number n ∷ [])) p.written out₁ → ObjectNext s out at w n (Ok (Whole p)) out₁
  unfolding count
  object-closed {p} k q put =
      record {
        next = λ ts t v a z c.
            closed {p = p} (object (ts ⊕ field v a z t)) (entry MEMBERS (number n ∷ [])) refl (omega (arith, q)) (omega (arith, q, byte_inside s at (λ y. omega (arith, k, y))))
            (omega (arith, q, x.2, put.to, number_long MEMBERS n))
            (λ fs.
            subst (λ (e : ℕ). Goes s (after t (obj ts v a z ∷ fs)) at (after (object (ts ⊕ field v a z t)) fs) e) (sym q)
            (by_byte 0x7D (after t (obj ts v a z ∷ fs)) (after (object (ts ⊕ field v a z t)) fs) k (omega arith) (λ large. brace_step large t ts v a z fs at)))
            (object-image n (ts ⊕ field v a z t) c)
            put;
      }

  pub object_stuck : {out₁ : List ℕ} → (get_or s at 0 ≡ 0x2C → ⊥) → (get_or s at 0 ≡ 0x7D → ⊥) → ObjectNext s out at w n (Err (NotJson at)) out₁
  object_stuck p q =
      record {
        next = λ ts t v a z c.
            NextTo.broken {f = NotJson at}
            (λ fs.
            comes_of (sticks_here (after t (obj ts v a z ∷ fs)) at (λ deep large. open_end deep large t (obj ts v a z) fs at)
            (λ l deep large. no_member deep large t ts v a z fs at (get_or s at 0) x.4 (ne_eqb (get_or s at 0) 0x2C p) (ne_eqb (get_or s at 0) 0x7D q))));
      }

-- ── Within an open value ──────────────────────────────────────────────────────────────────────────

-- White space before what comes next.
skipped : {s out before out₁ : List ℕ} {from at w : ℕ} {r : Result Step Fault} (st : List Frame → State) → Blanks s from at → ((fs : List Frame) → Goes s (st fs) from (st fs) at)
    → NextTo s out st before at w r out₁ → NextTo s out st before from w r out₁
skipped st x skip (again {p} {o} g bytes on within unblank room opened goes is put) =
    again {p = p} {o = o} g bytes (omega (arith, x.on, on)) within unblank room opened (λ fs. goes_on (skip fs) (goes fs)) is put
skipped st x skip (closed {p} u bytes one on within room goes is put) =
    closed {p = p} u bytes one (omega (arith, x.on, on)) within room (λ fs. goes_on (skip fs) (goes fs)) is put
skipped st x skip (NextTo.broken {f} comes) = NextTo.broken {f = f} (λ fs. goes_comes f (skip fs) (comes fs))

-- What was written before it.
behind_it : {s out out₁ out₂ before extra : List ℕ} {at w w₁ : ℕ} {r : Result Step Fault} {st : List Frame → State} → Wrote out w extra w₁ out₁ → NextTo s out₁ st (before ++ extra) at w₁ r out₂
    → NextTo s out st before at w r out₂
behind_it {before = before} {extra = extra} put (again {p} {o} g bytes on within unblank room opened goes is more) =
    again {p = p} {o = o} g (extra ++ bytes) on within unblank room opened goes (sym (append_assoc before extra bytes) ∙ is) (and_then put more)
behind_it {before = before} {extra = extra} put (closed {p} u bytes one on within room goes is more) =
    closed {p = p} u (extra ++ bytes) one on within room goes (sym (append_assoc before extra bytes) ∙ is) (and_then put more)
behind_it put (NextTo.broken {f} comes) = NextTo.broken {f = f} comes

field-image : (ts t : Trees) (v : List ℕ) (a e : ℕ)
    → image (ts ⊕ field v a e t) ≡ ((image ts ++ image (leaf STRING v)) ++ image t) ++ entry FIELD (span a e ∷ byte 0 ∷ byte 0 ∷ byte 0 ∷ number 0 ∷ byte 0 ∷ [])
field-image ts t v a e =
    let flags = span a e ∷ byte 0 ∷ byte 0 ∷ byte 0 ∷ number 0 ∷ byte 0 ∷ [] in
    image-row ts (field v a e t)
    ∙ ap (λ (l : List ℕ). image ts ++ l) (image_close FIELD flags (leaf STRING v ⊕ t) ∙ ap (λ (l : List ℕ). l ++ entry FIELD flags) (image-row (leaf STRING v) t))
    ∙ sym (append_assoc (image ts) (image (leaf STRING v) ++ image t) (entry FIELD flags))
    ∙ ap (λ (l : List ℕ). l ++ entry FIELD flags) (sym (append_assoc (image ts) (image (leaf STRING v)) (image t)))

pub field_long : (a e : ℕ) → length (entry FIELD (span a e ∷ byte 0 ∷ byte 0 ∷ byte 0 ∷ number 0 ∷ byte 0 ∷ [])) ≡ 13
unfolding entry payload
field_long a e = refl

pub array_count : {at n : ℕ} → Standing at (Array n) → n ≤ at
array_count {at} {n} x = by x.opened
  where
    by : {f : Frame} → Opened at (Array n) f → n ≤ at
    by (an_array is below) = omega (arith, is, below)

pub object_count : {at n a e : ℕ} → Standing at (Object n a e) → (n ≤ at) × (a ≤ 65000) × (e ≤ 65000)
object_count {at} {n} {a} {e} x = by x.opened
  where
    by : {f : Frame} → Opened at (Object n a e) f → (n ≤ at) × (a ≤ 65000) × (e ≤ 65000)
    by (an_object is below p q) = (omega (arith, is, below), p, q)

module _ {s out : List ℕ} {from at w n : ℕ} (x : Blanks s from at) where
  pub array-within : {r : Result Step Fault} {out₁ : List ℕ} → ArrayNext s out at w (n + 1) r out₁ → OpenNext s out from w (Array n) r out₁
  unfolding row
  array-within {r} {out₁} y = record { next = by }
    where
      by : (f : Frame) (t : Trees) → Opened from (Array n) f → count t ≡ 1 → NextTo s out (λ fs. after t (f ∷ fs)) (row f ++ image t) from w r out₁
      by (arr ts) t (an_array is below) one =
          skipped (λ fs. after t (arr ts ∷ fs)) x (λ fs. skip_behind x t (arr ts ∷ fs))
          (subst (λ (l : List ℕ). NextTo s out (λ fs. after t (arr ts ∷ fs)) l at w r out₁) (image-row ts t) (y.next ts t (omega (arith, count-row ts t, one, is))))
      by (obj _ _ _ _) t x one = elim x [ ]

  pub object-within : {a e w₁ : ℕ} {r : Result Step Fault} {out₁ out₂ : List ℕ}
      → Wrote out w (entry FIELD (span a e ∷ byte 0 ∷ byte 0 ∷ byte 0 ∷ number 0 ∷ byte 0 ∷ [])) w₁ out₁ → ObjectNext s out₁ at w₁ (n + 1) r out₂
      → OpenNext s out from w (Object n a e) r out₂
  unfolding row count
  object-within {a} {e} {w₁} {r} {out₁} {out₂} put y = record { next = by }
    where
      by : (f : Frame) (t : Trees) → Opened from (Object n a e) f → count t ≡ 1 → NextTo s out (λ fs. after t (f ∷ fs)) (row f ++ image t) from w r out₂
      by (arr _) t x one = elim x [ ]
      by (obj ts v a e) t (an_object is below p q) one =
          skipped (λ fs. after t (obj ts v a e ∷ fs)) x (λ fs. skip_behind x t (obj ts v a e ∷ fs))
          (behind_it put
          (subst (λ (l : List ℕ). NextTo s out₁ (λ fs. after t (obj ts v a e ∷ fs)) l at w₁ r out₂) (field-image ts t v a e)
          (y.next ts t v a e (omega (arith, count-row ts (field v a e t), is)))))

-- ── The end of the text ───────────────────────────────────────────────────────────────────────────

module _ {s : List ℕ} {from at : ℕ} (x : Blanks s from at) where
  pub text_ends : {u : Unit {0}} → length s ≤ at → EndedTo s from (Ok u)
  unfolding run finish ended
  text_ends {u} h =
      whole_text {u = u}
      (λ t. record { runs = λ large says. (skip_behind x t []).runs large says ∙ ap (λ (l : List ℕ). run is_deep large (after t []) at l) (drop_of_length-le s h) })

  pub text_goes_on : at < length s → EndedTo s from (Err (NotJson at))
  text_goes_on h =
      left_over {f = NotJson at}
      (λ t.
      goes_comes (NotJson at)
      (goes_on (skip_behind x t []) (one_step (after t []) (stuck at) at h (λ large. left_step large t at (get_or s at 0) x.unblank)))
      (record { runs = λ large says. stays_stuck is_deep large at (at + 1) (drop (at + 1) s) }))

-- ── A field's record, stored byte by byte ─────────────────────────────────────────────────────────

-- One byte more behind those that are stored.
pub then_byte : (out : List ℕ) (w : ℕ) (vs : List ℕ) (v : ℕ) {now : List ℕ} {k : ℕ} → now ≡ sets out w vs → k ≡ w + length vs → set now k v ≡ sets out w (vs ++ (v ∷ []))
then_byte out w vs v {now} {k} e h = ap (λ (l : List ℕ). set l k v) e ∙ sets_append out w k vs (v ∷ []) h
