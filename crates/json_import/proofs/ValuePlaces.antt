-- Values at places of a text: brackets, names and colons, and a value's first byte.
-- Assumes nothing.
use mathlib.Core.Path.{◌≡◌, refl, sym, ap, subst, ◌∙◌}
use mathlib.Core.Bool.{Bool, true, false, cond, ◌||◌}
use mathlib.Core.List.{List, [], ◌∷◌}
use Prim.Native.Nat.{ℕ, ◌+◌, ◌≤◌, ◌<◌}
use native.Mathlib.Omega.{arith}
use Rattle.std.proofs.lemmas.Bool.Decides.{nat_tests}
use native.Mathlib.Decide.{dec_lt}
use lib.Dec.{eqb, leb}
use lib.ListN.{length, drop, get_or, drop_of_length-le}
use borrow.Author.Tests.{le-leb, lt-leb, ne_eqb}
use Rattle.strings.proofs.Stores.{drop-next}
use Rattle.numerals.specs.Value.{is_digit}
use Rattle.grammar.specs.Tags.{ARRAY, MEMBERS, STRING, NUMBER, NULL, BOOL}
use Rattle.grammar.specs.Numbers.{DEPTH}
use Rattle.grammar.specs.Trees.{byte, number, text, Trees, none, tree, count}
use Rattle.grammar.specs.Image.{payload, entry, image}
use Rattle.grammar.specs.Writing.{Wrote}
use Rattle.grammar.specs.Answer.{refused}
use Rattle.json_import.specs.Tokens.{is_blank}
use Rattle.json_import.specs.Values as values
use Rattle.json_import.specs.Values.{can_begin}
use Rattle.json_import.specs.Json.{NOT_JSON}
use Rattle.json_import.specs.Machine.{Frame, arr, obj, a_value, a_name, State, want, first, first_name, name, colon, after, minus, digits, chars, broken as broken_off, begun, signed, closed, spelling, start, begin, is_deep, step, finish, run}
use Rattle.json_import.specs.Inner.{Blanks, StringTo, string, cut}
use Rattle.json_import.specs.Leaves.{Goes, Ready, LeafTo, leaf, Any, NumeralTo, numeral}
use Rattle.json_import.specs.Steps.{row, an_array, an_object, Shallow, ColonTo, colon_at, NamedTo, named, OpensTo, whole, enter}
use Rattle.std.specs.Prelude.{Result, Ok, Err}
use Rattle.json_import.specs.declared.Place.{Place}
use Rattle.json_import.specs.declared.Open.TheVariants.{Array, Object}
use Rattle.json_import.specs.declared.Fault.{Fault}
use Rattle.json_import.specs.declared.Fault.TheVariants.{NotJson, Deep}
use Rattle.json_import.specs.declared.Step.{Step}
use Rattle.json_import.specs.declared.Step.TheVariants.{Whole, Within}
use Rattle.json_import.proofs.Skips.{skip_want, skip_first, skip_first_name, skip_colon, stays_broken}
use Rattle.json_import.proofs.Runs.{begins_unblank}
use Rattle.json_import.proofs.Descends.{no_value, no_name, no_colon}
use Rattle.json_import.proofs.Places.{byte_inside, sticks_here}
use Rattle.json_import.proofs.LeafPlaces.{goes_of, comes_of, one_step, goes_on, goes_comes, wrote_leaf, image-leaf, text_long}

-- ── Two states that go on alike ───────────────────────────────────────────────────────────────────

same_here : {s : List ℕ} (a b : State) (i : ℕ) → ((large : List ℕ → Bool) → finish is_deep large a i ≡ finish is_deep large b i)
    → ((large : List ℕ → Bool) → step is_deep large a i (get_or s i 0) ≡ step is_deep large b i (get_or s i 0)) → Goes s a i b i
unfolding run
same_here {s} a b i e f = by (dec_lt i (length s))
  where
    by : Dec (i < length s) → Goes s a i b i
    by (yes h) =
        record {
          runs = λ large says.
              ap (λ (l : List ℕ). run is_deep large a i l) (drop-next s i h) ∙ ap (λ (st : State). run is_deep large st (i + 1) (drop (i + 1) s)) (f large)
              ∙ sym (ap (λ (l : List ℕ). run is_deep large b i l) (drop-next s i h));
        }
    by (no h) =
        let past : length s ≤ i = omega (arith, h) in
        record {
          runs = λ large says. ap (λ (l : List ℕ). run is_deep large a i l) (drop_of_length-le s past) ∙ e large ∙ sym (ap (λ (l : List ℕ). run is_deep large b i l) (drop_of_length-le s past));
        }

pub number_long : (tag n : ℕ) → length (entry tag (number n ∷ [])) ≡ 5
unfolding entry payload
number_long tag n = refl

string_long : (t : List ℕ) → length (entry STRING (text t ∷ [])) ≡ 3 + length t
string_long t = text_long STRING t

-- ── Behind a `[` ──────────────────────────────────────────────────────────────────────────────────

first_step : (large : List ℕ → Bool) (fs : List Frame) (i b : ℕ) → is_blank b ≡ false → eqb b 0x5D ≡ false → step is_deep large (first fs) i b ≡ step is_deep large (want (arr none ∷ fs)) i b
unfolding step
first_step large fs i b p q = rw (p, q) refl

first_end : (large : List ℕ → Bool) (fs : List Frame) (i : ℕ) → finish is_deep large (first fs) i ≡ finish is_deep large (want (arr none ∷ fs)) i
unfolding finish
first_end large fs i = refl

empty_step : (large : List ℕ → Bool) (fs : List Frame) (i : ℕ) → step is_deep large (first fs) i 0x5D ≡ after (values.array none) fs
unfolding step
empty_step large fs i = refl

module _ {s out : List ℕ} {from r w : ℕ} (x : Blanks s from r) (ready : Ready s from w) where
  pub array_empty : {out₁ : List ℕ} {p : Place} → get_or s r 0 ≡ 0x5D → p.at ≡ r + 1 → Wrote out w (entry ARRAY (number 0 ∷ [])) p.written out₁ → OpensTo s out Shallow first from w (Ok (Whole p)) out₁
  unfolding count
  array_empty {p = p} e q v =
      let there : r < length s = byte_inside s r (λ z. omega (arith, e, z)) in
      whole {p = p} (values.array none) refl (omega (arith, x.on, q)) (omega (arith, there, q)) (omega (arith, x.on, q, ready.2, v.to, number_long ARRAY 0))
      (λ fs u.
      subst (λ (k : ℕ). Goes s (first fs) from (after (values.array none) fs) k) (sym q)
      (goes_on (record { runs = λ large says. skip_first is_deep large fs x.ws })
      (one_step (first fs) (after (values.array none) fs) r there (λ large. ap (λ (b : ℕ). step is_deep large (first fs) r b) e ∙ empty_step large fs r))))
      (wrote_leaf ARRAY (number 0 ∷ []) v)

  pub array_enter : (get_or s r 0 ≡ 0x5D → ⊥) → OpensTo s out Shallow first from w (Ok (Within (record { at = r; written = w }) (Array 0))) out
  unfolding count row image
  array_enter n =
      enter {p = record { at = r; written = w }} (arr none) x.on x.within x.unblank (omega (arith, x.on, ready.2)) (an_array {ts = none} refl (omega arith)) (λ fs u. u)
      (λ fs u.
      goes_on (record { runs = λ large says. skip_first is_deep large fs x.ws })
      (same_here (first fs) (want (arr none ∷ fs)) r (λ large. first_end large fs r) (λ large. first_step large fs r (get_or s r 0) x.unblank (ne_eqb (get_or s r 0) 0x5D n))))
      (record { to = omega arith; stored = refl })

-- ── Names ─────────────────────────────────────────────────────────────────────────────────────────

colon_step : (large : List ℕ → Bool) (ts : Trees) (t : List ℕ) (a b : ℕ) (fs : List Frame) (i : ℕ) → step is_deep large (colon ts t a b fs) i 0x3A ≡ want (obj ts t a b ∷ fs)
unfolding step
colon_step large ts t a b fs i = refl

colon_end : (deep : ℕ → Bool) (large : List ℕ → Bool) (ts : Trees) (t : List ℕ) (a b : ℕ) (fs : List Frame) (i : ℕ) → finish deep large (colon ts t a b fs) i ≡ refused NOT_JSON i i 0
unfolding finish
colon_end deep large ts t a b fs i = refl

skip_to : {s : List ℕ} {at r : ℕ} → Blanks s at r → (ts : Trees) (t : List ℕ) (a b : ℕ) (fs : List Frame) → Goes s (colon ts t a b fs) at (colon ts t a b fs) r
skip_to x ts t a b fs = record { runs = λ large says. skip_colon is_deep large ts t a b fs x.ws }

module _ {s : List ℕ} {at r : ℕ} (x : Blanks s at r) where
  pub no_colon_there : (get_or s r 0 ≡ 0x3A → ⊥) → ColonTo s at (Err (NotJson r))
  no_colon_there n =
      ColonTo.broken {f = NotJson r}
      (λ ts t a b fs.
      goes_comes (NotJson r) (skip_to x ts t a b fs)
      (comes_of (sticks_here (colon ts t a b fs) r (λ deep large. colon_end deep large ts t a b fs r)
      (λ l deep large. no_colon deep large ts t a b fs r (get_or s r 0) x.unblank (ne_eqb (get_or s r 0) 0x3A n)))))

  pub colon_there : {e : ℕ} → get_or s r 0 ≡ 0x3A → Blanks s (r + 1) e → ColonTo s at (Ok e)
  colon_there {e} k y =
      let there : r < length s = byte_inside s r (λ z. omega (arith, k, z)) in
      colon_at {e = e} (omega (arith, x.on, y.on)) y.within y.unblank
      (λ ts t a b fs.
      goes_on (skip_to x ts t a b fs)
      (goes_on (one_step (colon ts t a b fs) (want (obj ts t a b ∷ fs)) r there (λ large. ap (λ (c : ℕ). step is_deep large (colon ts t a b fs) r c) k ∙ colon_step large ts t a b fs r))
      (record { runs = λ large says. skip_want is_deep large (obj ts t a b ∷ fs) y.ws })))

name_step : (large : List ℕ → Bool) (ts : Trees) (fs : List Frame) (i : ℕ) → step is_deep large (name ts fs) i 0x22 ≡ chars [] (a_name ts i) fs
unfolding step
name_step large ts fs i = refl

name_end : (deep : ℕ → Bool) (large : List ℕ → Bool) (ts : Trees) (fs : List Frame) (i : ℕ) → finish deep large (name ts fs) i ≡ refused NOT_JSON i i 0
unfolding finish
name_end deep large ts fs i = refl

pub no_quote : {s out out₁ : List ℕ} {at w n : ℕ} → is_blank (get_or s at 0) ≡ false → (get_or s at 0 ≡ 0x22 → ⊥) → NamedTo s out at w n (Err (NotJson at)) out₁
no_quote {s} {at = at} p k =
    NamedTo.broken {f = NotJson at}
    (λ ts fs. comes_of (sticks_here (name ts fs) at (λ deep large. name_end deep large ts fs at) (λ l deep large. no_name deep large ts fs at (get_or s at 0) p (ne_eqb (get_or s at 0) 0x22 k))))

quote_on : {s : List ℕ} {at : ℕ} → get_or s at 0 ≡ 0x22 → (ts : Trees) (fs : List Frame) → Goes s (name ts fs) at (chars [] (a_name ts at) fs) (at + 1)
quote_on {s} {at} k ts fs =
    one_step (name ts fs) (chars [] (a_name ts at) fs) at (byte_inside s at (λ z. omega (arith, k, z))) (λ large. ap (λ (b : ℕ). step is_deep large (name ts fs) at b) k ∙ name_step large ts fs at)

pub name_cut : {s out out₁ : List ℕ} {at w n : ℕ} {f : Fault} → get_or s at 0 ≡ 0x22 → StringTo s out at w (Err f) out₁ → NamedTo s out at w n (Err f) out₁
name_cut {at = at} k (cut {n = m} g) = NamedTo.broken {f = NotJson m} (λ ts fs. goes_comes (NotJson m) (quote_on k ts fs) (comes_of (g (a_name ts at) fs)))

module _ {s out out₁ : List ℕ} {at w n : ℕ} {p : Place} (ready : Ready s at w) (k : get_or s at 0 ≡ 0x22) where
  pub colon_cut : {f : Fault} → StringTo s out at w (Ok p) out₁ → ColonTo s p.at (Err f) → NamedTo s out at w n (Err f) out₁
  unfolding closed
  colon_cut {f} (string t within short g put) (ColonTo.broken h) =
      NamedTo.broken {f = f} (λ ts fs. goes_comes f (goes_on (quote_on k ts fs) (goes_of (g (a_name ts at) fs))) (h ts t at p.at fs))

  pub name_done : {e : ℕ} → StringTo s out at w (Ok p) out₁ → ColonTo s p.at (Ok e) → NamedTo s out at w n (Ok (Within (record { at = e; written = p.written }) (Object n at p.at))) out₁
  unfolding closed
  name_done {e} (string t within short g put) (colon_at on last unblank h) =
      named {p = record { at = e; written = p.written }} t p.at (omega (arith, short, on)) last unblank (omega (arith, on)) (omega (arith, ready.2, short, on, put.to, string_long t))
      (λ ts fs. goes_on (quote_on k ts fs) (goes_on (goes_of (g (a_name ts at) fs)) (h ts t at p.at fs)))
      (wrote_leaf STRING (text t ∷ []) put)

pub string_end : {s out out₁ : List ℕ} {at w : ℕ} {p : Place} → StringTo s out at w (Ok p) out₁ → p.at ≤ length s
string_end (string t within short g put) = within

-- ── Behind a `{` ──────────────────────────────────────────────────────────────────────────────────

first_name_step : (large : List ℕ → Bool) (fs : List Frame) (i b : ℕ) → is_blank b ≡ false → eqb b 0x7D ≡ false → step is_deep large (first_name fs) i b ≡ step is_deep large (name none fs) i b
unfolding step
first_name_step large fs i b p q = rw (p, q) refl

first_name_end : (large : List ℕ → Bool) (fs : List Frame) (i : ℕ) → finish is_deep large (first_name fs) i ≡ finish is_deep large (name none fs) i
unfolding finish
first_name_end large fs i = refl

no_fields_step : (large : List ℕ → Bool) (fs : List Frame) (i : ℕ) → step is_deep large (first_name fs) i 0x7D ≡ after (values.object none) fs
unfolding step
no_fields_step large fs i = refl

to_name : {s : List ℕ} {from r : ℕ} → Blanks s from r → (get_or s r 0 ≡ 0x7D → ⊥) → (fs : List Frame) → Goes s (first_name fs) from (name none fs) r
to_name {s} {from} {r} x n fs =
    goes_on (record { runs = λ large says. skip_first_name is_deep large fs x.ws })
    (same_here (first_name fs) (name none fs) r (λ large. first_name_end large fs r) (λ large. first_name_step large fs r (get_or s r 0) x.unblank (ne_eqb (get_or s r 0) 0x7D n)))

module _ {s out : List ℕ} {from r w : ℕ} (x : Blanks s from r) (ready : Ready s from w) where
  pub object_empty : {out₁ : List ℕ} {p : Place} → get_or s r 0 ≡ 0x7D → p.at ≡ r + 1 → Wrote out w (entry MEMBERS (number 0 ∷ [])) p.written out₁ → OpensTo s out Shallow first_name from w (Ok (Whole p)) out₁
  unfolding count
  object_empty {p = p} e q v =
      let there : r < length s = byte_inside s r (λ z. omega (arith, e, z)) in
      whole {p = p} (values.object none) refl (omega (arith, x.on, q)) (omega (arith, there, q)) (omega (arith, x.on, q, ready.2, v.to, number_long MEMBERS 0))
      (λ fs u.
      subst (λ (k : ℕ). Goes s (first_name fs) from (after (values.object none) fs) k) (sym q)
      (goes_on (record { runs = λ large says. skip_first_name is_deep large fs x.ws })
      (one_step (first_name fs) (after (values.object none) fs) r there (λ large. ap (λ (b : ℕ). step is_deep large (first_name fs) r b) e ∙ no_fields_step large fs r))))
      (wrote_leaf MEMBERS (number 0 ∷ []) v)

  module _ (n : get_or s r 0 ≡ 0x7D → ⊥) where
    pub object_named : {out₁ : List ℕ} {st : Result Step Fault} → NamedTo s out r w 0 st out₁ → OpensTo s out Shallow first_name from w st out₁
    unfolding count row image
    object_named (named {p} t b on within unblank inner room g put) =
        enter {p = p} (obj none t r b) (omega (arith, x.on, on)) within unblank room
        (an_object {ts = none} refl (omega arith) (omega (arith, x.within, ready.1)) (omega (arith, inner, within, ready.1)))
        (λ fs z. z) (λ fs z. goes_on (to_name x n fs) (g none fs)) put
    object_named (NamedTo.broken {f} g) = OpensTo.broken {f = f} (λ fs z. goes_comes f (to_name x n fs) (g none fs))

-- ── A value's first byte ──────────────────────────────────────────────────────────────────────────

want_end : (deep : ℕ → Bool) (large : List ℕ → Bool) (fs : List Frame) (i : ℕ) → finish deep large (want fs) i ≡ refused NOT_JSON i i 0
unfolding finish
want_end deep large fs i = refl

pub begin_inside : (s : List ℕ) (at : ℕ) → can_begin (get_or s at 0) ≡ true → at < length s
begin_inside s at c = byte_inside s at (λ z. mathlib.Core.Bool.true≢false (sym c ∙ ap (λ (b : ℕ). can_begin b) z))

pub ready_on : (s : List ℕ) (at : ℕ) {w : ℕ} → Ready s at w → can_begin (get_or s at 0) ≡ true → Ready s (at + 1) w
ready_on s at r c = (omega (arith, begin_inside s at c), r.1, omega (arith, r.2))

want_step : (large : List ℕ → Bool) (fs : List Frame) (i b : ℕ) → can_begin b ≡ true → step is_deep large (want fs) i b ≡ cond (leb 200 (length fs)) (broken_off DEPTH i i) (start fs i b)
unfolding step begin
want_step large fs i b c = rw (begins_unblank b c, c) refl

module _ {s out : List ℕ} {at w depth : ℕ} where
  pub value_cut : {out₁ : List ℕ} → is_blank (get_or s at 0) ≡ false → can_begin (get_or s at 0) ≡ false → OpensTo s out (λ fs. length fs ≡ depth) want at w (Err (NotJson at)) out₁
  value_cut p q =
      OpensTo.broken {f = NotJson at} (λ fs u. comes_of (sticks_here (want fs) at (λ deep large. want_end deep large fs at) (λ l deep large. no_value deep large fs at (get_or s at 0) p q)))

  pub value_deep : {out₁ : List ℕ} → can_begin (get_or s at 0) ≡ true → 200 ≤ depth → OpensTo s out (λ fs. length fs ≡ depth) want at w (Err (Deep at)) out₁
  value_deep c h =
      OpensTo.broken {f = Deep at}
      (λ fs u.
      goes_comes (Deep at)
      (one_step (want fs) (broken_off DEPTH at at) at (begin_inside s at c)
      (λ large. want_step large fs at (get_or s at 0) c ∙ ap (λ (k : Bool). cond k (broken_off DEPTH at at) (start fs at (get_or s at 0))) (le-leb 200 (length fs) (omega (arith, u, h)))))
      (record { runs = λ large says. stays_broken is_deep large DEPTH at at (at + 1) (drop (at + 1) s) }))

begins_at : {s : List ℕ} {at depth : ℕ} → can_begin (get_or s at 0) ≡ true → depth < 200 → (fs : List Frame) → length fs ≡ depth → Goes s (want fs) at (start fs at (get_or s at 0)) (at + 1)
begins_at {s} {at} c h fs u =
    one_step (want fs) (start fs at (get_or s at 0)) at (begin_inside s at c)
    (λ large. want_step large fs at (get_or s at 0) c ∙ ap (λ (k : Bool). cond k (broken_off DEPTH at at) (start fs at (get_or s at 0))) (lt-leb 200 (length fs) (omega (arith, u, h))))

to : {s : List ℕ} {at depth : ℕ} → can_begin (get_or s at 0) ≡ true → depth < 200 → (st : List Frame → State) → ((fs : List Frame) → start fs at (get_or s at 0) ≡ st fs)
    → (fs : List Frame) → length fs ≡ depth → Goes s (want fs) at (st fs) (at + 1)
to {s} {at} c h st is fs u = subst (λ (x : State). Goes s (want fs) at x (at + 1)) (is fs) (begins_at c h fs u)

shallow : {depth : ℕ} → depth < 200 → (fs : List Frame) → length fs ≡ depth → Shallow fs
shallow h fs u = omega (arith, u, h)

-- What a value comes to, as its leaf does.
abbrev pub whole_leaf : Result Place Fault → Result Step Fault
whole_leaf (Ok p) = Ok (Whole p)
whole_leaf (Err f) = Err f

module _ {s out : List ℕ} {at w depth : ℕ} (c : can_begin (get_or s at 0) ≡ true) (h : depth < 200) (st : List Frame → State) (is : (fs : List Frame) → start fs at (get_or s at 0) ≡ st fs) where
  leaf_value : {Fits : List Frame → Type 0} {l : Result Place Fault} {out₁ : List ℕ} → ((fs : List Frame) → length fs ≡ depth → Fits fs) → LeafTo s out Fits st (at + 1) w l out₁
      → OpensTo s out (λ fs. length fs ≡ depth) want at w (whole_leaf l) out₁
  leaf_value fit (leaf {p} t one on within room g put) = whole {p = p} t one (omega (arith, on)) within room (λ fs u. goes_on (to c h st is fs u) (g fs (fit fs u))) put
  leaf_value fit (LeafTo.broken {f} g) = OpensTo.broken {f = f} (λ fs u. goes_comes f (to c h st is fs u) (g fs (fit fs u)))

  opens_value : {r : Result Step Fault} {out₁ : List ℕ} → OpensTo s out Shallow st (at + 1) w r out₁ → OpensTo s out (λ fs. length fs ≡ depth) want at w r out₁
  opens_value (whole {p} t one on within room g put) = whole {p = p} t one (omega (arith, on)) within room (λ fs u. goes_on (to c h st is fs u) (g fs (shallow h fs u))) put
  opens_value (enter {p} {o} f on within unblank room q below g put) =
      enter {p = p} {o = o} f (omega (arith, on)) within unblank room q (shallow h) (λ fs u. goes_on (to c h st is fs u) (g fs (shallow h fs u))) put
  opens_value (OpensTo.broken {f = f} g) = OpensTo.broken {f = f} (λ fs u. goes_comes f (to c h st is fs u) (g fs (shallow h fs u)))

-- By the byte.
begins_with : (x b : ℕ) → can_begin b ≡ true → x ≡ b → can_begin x ≡ true
begins_with x b c e = ap (λ (k : ℕ). can_begin k) e ∙ c

digit_begins : (b : ℕ) → is_digit b ≡ true → can_begin b ≡ true
digit_begins b d = grind (arith, nat_tests)

starts : (b : ℕ) (s : List ℕ) (at : ℕ) → get_or s at 0 ≡ b → (fs : List Frame) → start fs at (get_or s at 0) ≡ start fs at b
starts b s at e fs = ap (λ (k : ℕ). start fs at k) e

string_leaf : {s out out₁ : List ℕ} {at w : ℕ} {l : Result Place Fault} → Ready s at w → StringTo s out at w l out₁ → LeafTo s out Any (chars [] a_value) (at + 1) w l out₁
unfolding closed count
string_leaf ready (string {p} t within short g put) =
    leaf {p = p} (values.leaf STRING t) refl (omega (arith, short)) within (omega (arith, ready.2, short, put.to, string_long t)) (λ fs u. goes_of (g a_value fs)) (wrote_leaf STRING (text t ∷ []) put)
string_leaf ready (cut {n = n} g) = LeafTo.broken {f = NotJson n} (λ fs u. comes_of (g a_value fs))

module _ {s out : List ℕ} {at w depth : ℕ} (ready : Ready s at w) (h : depth < 200) where
  pub a_string : {l : Result Place Fault} {out₁ : List ℕ} → get_or s at 0 ≡ 0x22 → StringTo s out at w l out₁ → OpensTo s out (λ fs. length fs ≡ depth) want at w (whole_leaf l) out₁
  unfolding start
  a_string e x = leaf_value (begins_with (get_or s at 0) 0x22 refl e) h (chars [] a_value) (starts 0x22 s at e) (λ fs u. tt) (string_leaf ready x)

  pub an_open_array : {r : Result Step Fault} {out₁ : List ℕ} → get_or s at 0 ≡ 0x5B → OpensTo s out Shallow first (at + 1) w r out₁ → OpensTo s out (λ fs. length fs ≡ depth) want at w r out₁
  unfolding start
  an_open_array e x = opens_value (begins_with (get_or s at 0) 0x5B refl e) h first (starts 0x5B s at e) x

  pub an_open_object : {r : Result Step Fault} {out₁ : List ℕ} → get_or s at 0 ≡ 0x7B → OpensTo s out Shallow first_name (at + 1) w r out₁ → OpensTo s out (λ fs. length fs ≡ depth) want at w r out₁
  unfolding start
  an_open_object e x = opens_value (begins_with (get_or s at 0) 0x7B refl e) h first_name (starts 0x7B s at e) x

  pub a_negative : {l : Result Place Fault} {out₁ : List ℕ} → get_or s at 0 ≡ 0x2D → LeafTo s out (λ fs. length fs + 1 ≡ depth + 1) minus (at + 1) w l out₁ → OpensTo s out (λ fs. length fs ≡ depth) want at w (whole_leaf l) out₁
  unfolding start
  a_negative e x = leaf_value (begins_with (get_or s at 0) 0x2D refl e) h minus (starts 0x2D s at e) (λ fs u. ap (λ (k : ℕ). k + 1) u) x

  pub a_false : {l : Result Place Fault} {out₁ : List ℕ} → get_or s at 0 ≡ 0x66 → LeafTo s out Any (spelling (0x61 ∷ 0x6C ∷ 0x73 ∷ 0x65 ∷ []) (tree BOOL (byte 0 ∷ []) none)) (at + 1) w l out₁
      → OpensTo s out (λ fs. length fs ≡ depth) want at w (whole_leaf l) out₁
  unfolding start
  a_false e x = leaf_value (begins_with (get_or s at 0) 0x66 refl e) h (spelling (0x61 ∷ 0x6C ∷ 0x73 ∷ 0x65 ∷ []) (tree BOOL (byte 0 ∷ []) none)) (starts 0x66 s at e) (λ fs u. tt) x

  pub a_null : {l : Result Place Fault} {out₁ : List ℕ} → get_or s at 0 ≡ 0x6E → LeafTo s out Any (spelling (0x75 ∷ 0x6C ∷ 0x6C ∷ []) (tree NULL [] none)) (at + 1) w l out₁
      → OpensTo s out (λ fs. length fs ≡ depth) want at w (whole_leaf l) out₁
  unfolding start
  a_null e x = leaf_value (begins_with (get_or s at 0) 0x6E refl e) h (spelling (0x75 ∷ 0x6C ∷ 0x6C ∷ []) (tree NULL [] none)) (starts 0x6E s at e) (λ fs u. tt) x

  pub a_true : {l : Result Place Fault} {out₁ : List ℕ} → get_or s at 0 ≡ 0x74 → LeafTo s out Any (spelling (0x72 ∷ 0x75 ∷ 0x65 ∷ []) (tree BOOL (byte 1 ∷ []) none)) (at + 1) w l out₁
      → OpensTo s out (λ fs. length fs ≡ depth) want at w (whole_leaf l) out₁
  unfolding start
  a_true e x = leaf_value (begins_with (get_or s at 0) 0x74 refl e) h (spelling (0x72 ∷ 0x75 ∷ 0x65 ∷ []) (tree BOOL (byte 1 ∷ []) none)) (starts 0x74 s at e) (λ fs u. tt) x

  -- None of the others: a digit.
  pub a_number : {l : Result Place Fault} {out₁ : List ℕ} → is_digit (get_or s at 0) ≡ true → NumeralTo s out at w l out₁ → OpensTo s out (λ fs. length fs ≡ depth) want at w (whole_leaf l) out₁
  unfolding start signed count
  a_number d (numeral {p} v size on within g put) =
      let long : length (image (values.leaf NUMBER v)) ≡ 3 + length v = ap length (image-leaf NUMBER (text v ∷ [])) ∙ text_long NUMBER v in
      whole {p = p} (values.leaf NUMBER v) refl (omega (arith, on)) within (omega (arith, ready.2, size, on, put.to, long))
      (λ fs u. goes_on (to (digit_begins (get_or s at 0) d) h (digits (begun (get_or s at 0)) false at (get_or s at 0 ∷ [])) (λ gs. rw d refl) fs u) (g false fs)) put
  a_number d (NumeralTo.broken {f = f} g) =
      OpensTo.broken {f = f} (λ fs u. goes_comes f (to (digit_begins (get_or s at 0) d) h (digits (begun (get_or s at 0)) false at (get_or s at 0 ∷ [])) (λ gs. rw d refl) fs u) (g false fs))

-- Whether the byte there can begin a value, as the code found it out.
pub begin_is : {b x : ℕ} {r v : Bool} → b ≡ x → r ≡ can_begin b → r ≡ v → can_begin x ≡ v
begin_is e f g = ap (λ (k : ℕ). can_begin k) (sym e) ∙ sym f ∙ g

-- A byte that begins none.
pub no_begin : (b : ℕ) → (b ≡ 0x22 → ⊥) → (b ≡ 0x5B → ⊥) → (b ≡ 0x7B → ⊥) → (b ≡ 0x2D → ⊥) → (b ≡ 0x66 → ⊥) → (b ≡ 0x6E → ⊥) → (b ≡ 0x74 → ⊥)
    → (0x30 ≤ b → b ≤ 0x39 → ⊥) → can_begin b ≡ false
no_begin b p1 p2 p3 p4 p5 p6 p7 d = grind (arith, nat_tests)
