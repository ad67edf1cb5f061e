-- Facts of places in a source, for the functions that look at single bytes: tests, `-`, `|||`, the indent, and copying.
-- Assumes nothing.
use mathlib.Core.Path.{◌≡◌, refl, sym, ◌∙◌, ap, subst, subst₂}
use mathlib.Core.Bool.{Bool, true, false, true≢false}
use mathlib.Core.List.{List, [], ◌∷◌, ◌++◌, append_assoc, append_cancel_right}
use Prim.Native.Nat.{ℕ, zero, suc, ◌+◌, ◌-◌, ◌≤◌, ◌<◌, min}
use native.Mathlib.Omega.{arith}
use native.Mathlib.Numerals.{add-one}
use native.Mathlib.Decide.{ℕ_discrete}
use lib.ListN.{length, get_or, set, take, drop, length-append, length-replicate, length-drop, take-append-drop, drop_of_length-le, get_or-append}
use borrow.Rule.Slice.PartMut.{put_mid}
use Rattle.std.specs.List.{starts_with}
use Rattle.std.proofs.Common.{nat_eq}
use Rattle.std.proofs.lemmas.Slice.Eq.{starts_is}
use Rattle.std.proofs.lemmas.Bool.Decides.{Decides-eqb}
use lib.Seq.{sets, sets-eq, slice, length-sets, slice_empty, take-suc, drop-append-le, length-slice, length-take-le, get_or-take, get_or-drop, drop-drop, ext_get_or}
use borrow.Author.Tests.{lt-ltb, le-ltb}
use Rattle.strings.proofs.Stores.{sets_append}
use Rattle.blocks.specs.Blocks.{Run, stop, more, LineFeed, Dash, there, NoBars}
use Rattle.blocks.specs.Inside.{Says, holds, fails, Spans, Dashed, BarsAt, bars, StartsAt, starts, differs, feeds}
use Rattle.strings.proofs.Stores.{drop-next}

-- What a test's answer tells.
pub said : {P : Type 0} {b : Bool} → Says P b → b ≡ true → P
said (holds p) e = p
said (fails h) e = absurd (true≢false (sym e))

pub denied : {P : Type 0} {b : Bool} → Says P b → b ≡ false → P → ⊥
denied (holds p) e = absurd (true≢false e)
denied (fails h) e = h

pub are_bars : {s : List ℕ} {i : ℕ} {b : Bool} → BarsAt s i b → b ≡ true → (i + 3 ≤ length s) × (drop i s ≡ 0x7C ∷ 0x7C ∷ 0x7C ∷ drop (i + 3) s)
are_bars (bars h d) e = (h, d)
are_bars (BarsAt.none h) e = absurd (true≢false (sym e))

pub no_bars : {s : List ℕ} {i : ℕ} {b : Bool} → BarsAt s i b → b ≡ false → NoBars (drop i s)
no_bars (bars h d) e = absurd (true≢false e)
no_bars (BarsAt.none h) e = h

pub does_start :
    {s : List ℕ} {a e i : ℕ} {b : Bool} → StartsAt s a e i b → b ≡ true → (i + (e - a) ≤ length s) × (drop i s ≡ slice a e s ++ drop (i + (e - a)) s)
does_start (starts h d) e = (h, d)
does_start (differs h) e = absurd (true≢false (sym e))

pub not_start : {s : List ℕ} {a e i : ℕ} {b : Bool} → StartsAt s a e i b → b ≡ false → (r : List ℕ) → drop i s ≡ slice a e s ++ r → ⊥
not_start (starts h d) e = absurd (true≢false e)
not_start (differs h) e = h

-- The optional `-`.
pub dashed_there : (s : List ℕ) (i : ℕ) → i < length s → get_or s i 0 ≡ 0x2D → Dashed s i (i + 1)
dashed_there s i h e = record { on = omega arith; within = omega arith; dash = rw (lt-ltb i (i + 1) (omega arith), drop-next s i h, e) there }

pub dashed_other : (s : List ℕ) (i : ℕ) → i < length s → (get_or s i 0 ≡ 0x2D → ⊥) → Dashed s i i
dashed_other s i h n = record { on = omega arith; within = omega arith; dash = rw (le-ltb i i (omega arith), drop-next s i h) (Dash.other n) }

pub dashed_end : (s : List ℕ) (i : ℕ) → i ≤ length s → length s ≤ i → Dashed s i i
dashed_end s i h g = record { on = omega arith; within = h; dash = rw (le-ltb i i (omega arith), drop_of_length-le s {i = i} g) Dash.end }

-- What `starts_with` says of `|||`, and of the indent, on the source from place i on.
pub bars_told : (s : List ℕ) (i : ℕ) {from : List ℕ} (r : Bool) → from ≡ drop i s → i ≤ length s → r ≡ starts_with nat_eq from (0x7C ∷ 0x7C ∷ 0x7C ∷ []) → BarsAt s i r
bars_told s i r f h told = by r (subst (λ (t : List ℕ). r ≡ starts_with nat_eq t (0x7C ∷ 0x7C ∷ 0x7C ∷ [])) f told)
  where
    by : (b : Bool) → b ≡ starts_with nat_eq (drop i s) (0x7C ∷ 0x7C ∷ 0x7C ∷ []) → BarsAt s i b
    by true e =
        let there = (starts_is Decides-eqb (drop i s) (0x7C ∷ 0x7C ∷ 0x7C ∷ []) true e).0 refl in
        bars (omega (arith, ap length there, length-drop i s, length-drop 3 (drop i s))) (there ∙ ap (λ (t : List ℕ). 0x7C ∷ 0x7C ∷ 0x7C ∷ t) (drop-drop 3 i s))
    by false e = BarsAt.none (λ t q. true≢false (sym ((starts_is Decides-eqb (drop i s) (0x7C ∷ 0x7C ∷ 0x7C ∷ []) false e).1 t q)))

pub starts_told :
    (s : List ℕ) (a e i : ℕ) {from indent : List ℕ} (r : Bool) → a ≤ e → e ≤ length s → i ≤ length s → from ≡ drop i s → indent ≡ slice a e s →
    r ≡ starts_with nat_eq from indent → StartsAt s a e i r
starts_told s a e i r h g l f n told = by r (subst₂ (λ (t u : List ℕ). r ≡ starts_with nat_eq t u) f n told)
  where
    long : length (slice a e s) ≡ e - a
    long = length-slice a e s g

    by : (b : Bool) → b ≡ starts_with nat_eq (drop i s) (slice a e s) → StartsAt s a e i b
    by true q =
        let there = (starts_is Decides-eqb (drop i s) (slice a e s) true q).0 refl in
        let room : i + (e - a) ≤ length s =
        omega (arith, ap length there, length-append (slice a e s) (drop (length (slice a e s)) (drop i s)), long, length-drop i s) in
        starts room (there ∙ ap (λ (k : ℕ). slice a e s ++ drop k (drop i s)) long ∙ ap (λ (t : List ℕ). slice a e s ++ t) (drop-drop (e - a) i s))
    by false q = differs (λ t d. true≢false (sym ((starts_is Decides-eqb (drop i s) (slice a e s) false q).1 t d)))

-- The bytes from i on are those from a to e, or not.
module _ (s : List ℕ) (a e i : ℕ) (h : a ≤ e) (g : e ≤ length s) where
  get_or-slice : (k : ℕ) → k < e - a → get_or (slice a e s) k 0 ≡ get_or s (a + k) 0
  get_or-slice k l = get_or-drop a (take e s) k 0 ∙ get_or-take e s (a + k) 0 (omega arith)

  pub starts_there : i + (e - a) ≤ length s → ((k : ℕ) → k < e - a → get_or s (a + k) 0 ≡ get_or s (i + k) 0) → StartsAt s a e i true
  starts_there m all =
      let n : ℕ = e - a in
      let long : length (take n (drop i s)) ≡ n = length-take-le n (drop i s) (omega (arith, length-drop i s)) in
      let same : take n (drop i s) ≡ slice a e s =
      ext_get_or 0 (take n (drop i s)) (slice a e s) (long ∙ sym (length-slice a e s g))
      (λ k l.
      let l' : k < n = omega arith in
      get_or-take n (drop i s) k 0 l' ∙ get_or-drop i s k 0 ∙ sym (all k l') ∙ sym (get_or-slice k l')) in
      starts m (sym (take-append-drop n (drop i s)) ∙ ap (λ (t : List ℕ). t ++ drop n (drop i s)) same ∙ ap (λ (t : List ℕ). slice a e s ++ t) (drop-drop n i s))

  pub starts_short : i ≤ length s → length s - i < e - a → StartsAt s a e i false
  starts_short m l = differs (λ r d. omega (arith, ap length d, length-append (slice a e s) r, length-slice a e s g, length-drop i s))

  pub starts_not : (k : ℕ) → k < e - a → (get_or s (a + k) 0 ≡ get_or s (i + k) 0 → ⊥) → StartsAt s a e i false
  starts_not k l n =
      differs
      (λ r d.
      n
      (sym (get_or-slice k l) ∙ sym (get_or-append (slice a e s) r 0 k (omega (arith, length-slice a e s g))) ∙ ap (λ (t : List ℕ). get_or t k 0) (sym d)
      ∙ get_or-drop i s k 0))

-- Parts of a source.
pub slice-drop : (s : List ℕ) (a e : ℕ) → a ≤ e → e ≤ length s → slice a e s ++ drop e s ≡ drop a s
slice-drop s a e h g =
    sym (drop-append-le a (take e s) (drop e s) (omega (arith, length-take-le e s g))) ∙ ap (drop a) (take-append-drop e s)

pub slice_split : (s : List ℕ) (a m e : ℕ) → a ≤ m → m ≤ e → e ≤ length s → slice a m s ++ slice m e s ≡ slice a e s
slice_split s a m e h g k =
    append_cancel_right (slice a m s ++ slice m e s) (slice a e s) (drop e s)
    (append_assoc (slice a m s) (slice m e s) (drop e s) ∙ ap (λ (t : List ℕ). slice a m s ++ t) (slice-drop s m e g k)
    ∙ slice-drop s a m h (omega arith) ∙ sym (slice-drop s a e (omega arith) k))

-- A store, and a run of stores, beyond the end of an output leaves it as it was.
set_beyond : (l : List ℕ) (i v : ℕ) → length l ≤ i → set l i v ≡ l
set_beyond [] i v h = refl
set_beyond (x ∷ l) zero v h = absurd (omega arith)
set_beyond (x ∷ l) (suc i) v h = ap (λ (k : List ℕ). x ∷ k) (set_beyond l i v (omega arith))

pub sets-beyond : (vs l : List ℕ) (i : ℕ) → length l ≤ i → sets l i vs ≡ l
sets-beyond [] l i h = refl
sets-beyond (v ∷ vs) l i h = ap (λ (k : List ℕ). sets k (suc i) vs) (set_beyond l i v h) ∙ sets-beyond vs l (suc i) (omega arith)

-- A loop has copied the bytes from a up to i.
pub record Copied (s : List ℕ) (a : ℕ) (out₀ : List ℕ) (at i : ℕ) (out : List ℕ) (w : ℕ) : Type 0 where
  pub since : a ≤ i
  pub within : i ≤ length s
  pub count : w ≡ at + (i - a)
  pub stored : out ≡ sets out₀ at (slice a i s)

module _ {s : List ℕ} {a : ℕ} {out₀ : List ℕ} {at : ℕ} where
  pub copied_none : a ≤ length s → Copied s a out₀ at a out₀ at
  copied_none h = record { since = omega arith; within = h; count = omega arith; stored = rw (slice_empty a s) refl }

  pub copied_more :
      {i : ℕ} {out : List ℕ} {w : ℕ} {out₁ : List ℕ} → Copied s a out₀ at i out w → i < length s → out₁ ≡ set out w (get_or s i 0) →
      Copied s a out₀ at (i + 1) out₁ (w + 1)
  copied_more {i} {out} {w} {out₁} d h e =
      let grown : slice a (i + 1) s ≡ slice a i s ++ get_or s i 0 ∷ [] =
      ap (λ (k : ℕ). slice a k s) (add-one i) ∙ ap (drop a) (take-suc s i 0 h)
      ∙ drop-append-le a (take i s) (get_or s i 0 ∷ []) (omega (arith, d.since, length-take-le i s d.within)) in
      let place : w ≡ at + length (slice a i s) = omega (arith, d.count, length-slice a i s d.within) in
      record {
        since = omega (arith, d.since);
        within = omega arith;
        count = omega (arith, d.since, d.count);
        stored =
            e ∙ ap (λ (o : List ℕ). set o w (get_or s i 0)) d.stored ∙ sets_append out₀ at w (slice a i s) (get_or s i 0 ∷ []) place
            ∙ ap (sets out₀ at) (sym grown);
      }

  pub copied_length : {i : ℕ} {out : List ℕ} {w : ℕ} → Copied s a out₀ at i out w → length out ≡ length out₀
  copied_length {i} d = ap length d.stored ∙ length-sets out₀ at (slice a i s)

-- What has no room is not stored, however far it goes on.
pub copied_full : {s : List ℕ} {a : ℕ} {out₀ : List ℕ} {at i : ℕ} {out : List ℕ} {w : ℕ} (e : ℕ) → Copied s a out₀ at i out w → length out ≤ w → i ≤ e → e ≤ length s → out ≡ sets out₀ at (slice a e s)
copied_full {s} {a} {out₀} {at} {i} {out} {w} e d full h g =
    sym (ap (sets out₀ at) (sym (slice_split s a i e d.since h g))
    ∙ sym (sets_append out₀ at w (slice a i s) (slice i e s) (omega (arith, d.count, length-slice a i s d.within)))
    ∙ ap (λ (o : List ℕ). sets o w (slice i e s)) (sym d.stored) ∙ sets-beyond (slice i e s) out w full)

-- What is written as far as there is room is stored, since beyond the end nothing is.
pub sets_room :
    (l : List ℕ) (at k n : ℕ) (vs ys : List ℕ) → at < length l → k ≡ n → n ≡ min (length vs) (length l - at) → ys ≡ take n vs →
    put_mid at k l ys ≡ sets l at vs
sets_room l at k n vs ys h k-is n-is ys-is =
    let long : length (take n vs) ≡ n = length-take-le n vs (omega (arith, n-is)) in
    let part : sets l at (take n vs) ≡ put_mid at n l (take n vs) =
    sets-eq (take n vs) l at (omega (arith, long, n-is)) ∙ append_assoc (take at l) (take n vs) (drop (at + length (take n vs)) l)
    ∙ ap (λ (j : ℕ). take at l ++ (take n vs ++ drop (at + j) l)) long ∙ ap (λ (r : List ℕ). take at l ++ (take n vs ++ r)) (sym (drop-drop n at l)) in
    rw (k-is, ys-is) (sym part ∙ sym beyond ∙ sets_append l at (at + n) (take n vs) (drop n vs) (ap (λ (j : ℕ). at + j) (sym long)) ∙ ap (sets l at) (take-append-drop n vs))
  where
    beyond : sets (sets l at (take n vs)) (at + n) (drop n vs) ≡ sets l at (take n vs)
    beyond = by (ℕ_discrete n (length vs))
      where
        by : Dec (n ≡ length vs) → sets (sets l at (take n vs)) (at + n) (drop n vs) ≡ sets l at (take n vs)
        by (yes e) = ap (sets (sets l at (take n vs)) (at + n)) (drop_of_length-le vs {i = n} (omega arith))
        by (no g) = sets-beyond (drop n vs) (sets l at (take n vs)) (at + n) (omega (arith, length-sets l at (take n vs)))

-- LFs in a row, one more at either end; and a run of LFs is such.
pub feeds-next : (k : ℕ) → feeds k ++ 0x0A ∷ [] ≡ feeds (k + 1)
feeds-next k = grown k ∙ ap feeds (sym (add-one k))
  where
    grown : (n : ℕ) → feeds n ++ 0x0A ∷ [] ≡ feeds (suc n)
    grown zero = refl
    grown (suc n) = ap (λ (t : List ℕ). 0x0A ∷ t) (grown n)

pub feeds_cons : {b : ℕ} {l : List ℕ} (n : ℕ) → b ≡ 0x0A → l ≡ feeds n → b ∷ l ≡ feeds (suc n)
feeds_cons {l = l} n e f = ap (λ (b : ℕ). b ∷ l) e ∙ ap (λ (t : List ℕ). 0x0A ∷ t) f

pub run_feeds : {s l r : List ℕ} → Run LineFeed s l r → l ≡ feeds (length l)
run_feeds Run.end = refl
run_feeds (stop h) = refl
run_feeds (more {run = run} p d) = feeds_cons (length run) p (run_feeds d)

pub spanned_feeds : {s : List ℕ} {i e : ℕ} → Spans LineFeed s i e → slice i e s ≡ feeds (e - i)
spanned_feeds {s} {i} {e} d = run_feeds d.run ∙ ap feeds (length-slice i e s d.within)

-- A loop has stored k LFs.
pub record Fed (out₀ : List ℕ) (at k : ℕ) (out : List ℕ) : Type 0 where
  pub stored : out ≡ sets out₀ at (feeds k)

module _ {out₀ : List ℕ} {at : ℕ} where
  pub fed_none : Fed out₀ at 0 out₀
  fed_none = record { stored = refl }

  pub fed_more : {k : ℕ} {out out₁ : List ℕ} → Fed out₀ at k out → out₁ ≡ set out (at + k) 0x0A → Fed out₀ at (k + 1) out₁
  fed_more {k} d e = record {
    stored =
        e ∙ ap (λ (o : List ℕ). set o (at + k) 0x0A) d.stored
        ∙ sets_append out₀ at (at + k) (feeds k) (0x0A ∷ []) (ap (λ (n : ℕ). at + n) (sym (length-replicate {A = ℕ} k 0x0A)))
        ∙ ap (sets out₀ at) (feeds-next k);
  }

  pub fed_length : {k : ℕ} {out : List ℕ} → Fed out₀ at k out → length out ≡ length out₀
  fed_length {k} d = ap length d.stored ∙ length-sets out₀ at (feeds k)
