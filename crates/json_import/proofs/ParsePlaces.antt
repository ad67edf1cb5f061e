-- The importer's loop: the open values on its stack, what the machine has come to, and what the image has so far.
-- Assumes nothing.
use mathlib.Core.Path.{◌≡◌, refl, sym, ap, subst, ◌∙◌}
use mathlib.Core.Bool.{false}
use mathlib.Core.List.{List, [], ◌∷◌, ◌++◌, append_assoc}
use Prim.Native.Nat.{ℕ, ◌+◌, ◌-◌, ◌*◌, ◌≤◌, ◌<◌}
use native.Mathlib.Omega.{arith}
use lib.ListN.{length, get_or, set}
use lib.Seq.{get_or-set_same, get_or-set_other}
use Rattle.grammar.specs.Trees.{Trees, none, count}
use Rattle.grammar.specs.Image.{image}
use Rattle.grammar.specs.Writing.{Wrote}
use Rattle.grammar.proofs.WritingLaws.{and_then}
use Rattle.json_import.specs.Tokens.{is_blank}
use Rattle.json_import.specs.Values.{array}
use Rattle.json_import.specs.Machine.{Frame, State, want, after, is_deep}
use Rattle.json_import.specs.Inner.{Blanks}
use Rattle.json_import.specs.Leaves.{Goes, Ready}
use Rattle.json_import.specs.Steps.{row, Opened, an_array, an_object, OpensTo, NextTo, Standing, OpenNext, EndedTo, whole_text, left_over, ParsedTo, parsed}
use Rattle.std.specs.Prelude.{Ok, Err}
use Rattle.json_import.specs.declared.Place.{Place}
use Rattle.json_import.specs.declared.Open.{Open}
use Rattle.json_import.specs.declared.Fault.{Fault}
use Rattle.json_import.specs.declared.Step.{Step}
use Rattle.json_import.specs.declared.Step.TheVariants.{Whole, Within}
use Rattle.json_import.proofs.Skips.{skip_want}
use Rattle.json_import.proofs.LeafPlaces.{goes_on, goes_comes}

-- ── The stack ─────────────────────────────────────────────────────────────────────────────────────

-- The first d entries of the stack stand for these open values, the innermost first.
pub data Stacked (stack : List Open) (at : ℕ) : ℕ → List Frame → Type 0 where
  empty : {k : ℕ} → k ≡ 0 → Stacked stack at k []
  above : {d k : ℕ} {f : Frame} {fs : List Frame} (o : Open) → k ≡ d + 1 → ((z : Open) → get_or stack d z ≡ o) → Opened at o f → Stacked stack at d fs → Stacked stack at k (f ∷ fs)

opened_later : {at e : ℕ} {o : Open} {f : Frame} → at ≤ e → Opened at o f → Opened e o f
opened_later h (an_array {ts = ts} is below) = an_array {ts = ts} is (omega (arith, h, below))
opened_later h (an_object {ts = ts} {w = w} is below p q) = an_object {ts = ts} {w = w} is (omega (arith, h, below)) p q

stacked_later : {stack : List Open} {at e d : ℕ} {fs : List Frame} → at ≤ e → Stacked stack at d fs → Stacked stack e d fs
stacked_later h (empty z) = empty z
stacked_later h (above o k is opened under) = above o k is (opened_later h opened) (stacked_later h under)

-- A store at or above them leaves them.
stacked_set : {stack : List Open} {at d : ℕ} {fs : List Frame} (i : ℕ) (o : Open) → d ≤ i → Stacked stack at d fs → Stacked (set stack i o) at d fs
stacked_set i o h (empty z) = empty z
stacked_set {stack} i o h (above {d = d} p k is opened under) =
    above p k (λ z. get_or-set_other stack i d o z (λ e. omega (arith, e, h, k)) ∙ is z) opened (stacked_set i o (omega (arith, h, k)) under)

stacked_length : {stack : List Open} {at d : ℕ} {fs : List Frame} → Stacked stack at d fs → length fs ≡ d
stacked_length (empty z) = sym z
stacked_length (above o k is opened under) = omega (arith, k, stacked_length under)

stacked_push : {stack : List Open} {at d i k : ℕ} {f : Frame} {fs : List Frame} (o : Open) → i ≡ d → k ≡ d + 1 → i < length stack → Opened at o f → Stacked stack at d fs → Stacked (set stack i o) at k (f ∷ fs)
stacked_push {stack} {at} {d} {i} {k} o e q h opened under =
    above {d = d} o q (λ z. ap (λ (j : ℕ). get_or (set stack i o) j z) (sym e) ∙ get_or-set_same stack i o z h) opened (stacked_set i o (omega (arith, e)) under)

-- ── What has been read ────────────────────────────────────────────────────────────────────────────

-- What the image has of open values, the outermost first.
unfoldable pub rows : List Frame → List ℕ
rows [] = []
rows (f ∷ fs) = rows fs ++ row f

-- From the beginning of the text the machine has come to a state, and these bytes are written.
pub record Reached (s out₀ out : List ℕ) (st : State) (bytes : List ℕ) (at w : ℕ) : Type 0 where
  pub within : at ≤ length s
  pub room : w ≤ 20 * at
  pub goes : Goes s (want []) 0 st at
  pub wrote : Wrote out₀ 0 bytes w out

-- A value is wanted within so many open ones.
pub record Wanted (s out₀ : List ℕ) (stack : List Open) (out : List ℕ) (depth at w : ℕ) : Type 0 where
  pub frames : List Frame
  pub below : depth ≤ 200
  pub stacked : Stacked stack at depth frames
  pub unblank : is_blank (get_or s at 0) ≡ false
  pub reached : Reached s out₀ out (want frames) (rows frames) at w

-- A value is whole within so many open ones.
pub data Stood (s out₀ : List ℕ) (stack : List Open) (out : List ℕ) (depth at w : ℕ) : Type 0 where
  stood : (fs : List Frame) (t : Trees) → depth ≤ 200 → Stacked stack at depth fs → count t ≡ 1 → Reached s out₀ out (after t fs) (rows fs ++ image t) at w
      → Stood s out₀ stack out depth at w

-- What is next: a value is whole, or one is wanted within an open value that the stack is to have.
abbrev pub Going : List ℕ → List ℕ → List Open → List ℕ → ℕ → Step → Type 0
Going s out₀ stack out depth (Whole p) = Stood s out₀ stack out depth p.at p.written
Going s out₀ stack out depth (Within p o) = (depth < 200) × Wanted s out₀ (set stack depth o) out (depth + 1) p.at p.written

abbrev pub place_of : Step → ℕ
place_of (Whole p) = p.at
place_of (Within p o) = p.at

-- ── A value is wanted ─────────────────────────────────────────────────────────────────────────────

-- The text's own value.
pub first_wanted : {s out : List ℕ} {stack : List Open} {at : ℕ} → Blanks s 0 at → Wanted s out stack out 0 at 0
unfolding rows
first_wanted x =
    record {
      frames = [];
      below = omega arith;
      stacked = empty refl;
      unblank = x.unblank;
      reached = record { within = x.within; room = omega arith; goes = record { runs = λ large says. skip_want is_deep large [] x.ws }; wrote = record { to = omega arith; stored = refl } };
    }

module _ {s out₀ out : List ℕ} {stack : List Open} {depth at w : ℕ} (x : Wanted s out₀ stack out depth at w) where
  pub wanted_ready : length s ≤ 65000 → Ready s at w × (is_blank (get_or s at 0) ≡ false)
  wanted_ready l = ((x.reached.within, l, x.reached.room), x.unblank)

  pub wanted_broken : {f : Fault} {out₁ : List ℕ} → OpensTo s out (λ gs. length gs ≡ depth) want at w (Err f) out₁ → ParsedTo s out₀ (Err f) out₁
  wanted_broken {f} (OpensTo.broken comes) = ParsedTo.broken {f = f} (goes_comes f x.reached.goes (comes x.frames (stacked_length x.stacked)))

  pub wanted_whole : {p : Place} {out₁ : List ℕ} → OpensTo s out (λ gs. length gs ≡ depth) want at w (Ok (Whole p)) out₁ → Stood s out₀ stack out₁ depth p.at p.written
  wanted_whole (OpensTo.whole t one on within room goes put) =
      stood x.frames t x.below (stacked_later on x.stacked) one
      (record { within = within; room = room; goes = goes_on x.reached.goes (goes x.frames (stacked_length x.stacked)); wrote = and_then x.reached.wrote put })

  pub enter_below : {p : Place} {o : Open} {out₁ : List ℕ} → OpensTo s out (λ gs. length gs ≡ depth) want at w (Ok (Within p o)) out₁ → depth < 200
  enter_below (OpensTo.enter f on within unblank room opened below goes put) = omega (arith, below x.frames (stacked_length x.stacked), stacked_length x.stacked)

  pub wanted_on : {r : Step} {out₁ : List ℕ} → length stack ≡ 200 → OpensTo s out (λ gs. length gs ≡ depth) want at w (Ok r) out₁ → Going s out₀ stack out₁ depth r
  unfolding rows
  wanted_on l (OpensTo.whole {p} t one on within room goes put) = wanted_whole (OpensTo.whole {p = p} t one on within room goes put)
  wanted_on l (OpensTo.enter {o = o} f on within unblank room opened below goes put) =
      let h : depth < 200 = omega (arith, below x.frames (stacked_length x.stacked), stacked_length x.stacked) in (
        h,
        record {
          frames = f ∷ x.frames;
          below = omega (arith, h);
          stacked = stacked_push {i = depth} o refl refl (omega (arith, l, h)) opened (stacked_later on x.stacked);
          unblank = unblank;
          reached = record { within = within; room = room; goes = goes_on x.reached.goes (goes x.frames (stacked_length x.stacked)); wrote = and_then x.reached.wrote put };
        },
      )

-- ── A value is whole ──────────────────────────────────────────────────────────────────────────────

-- Within an open value: what is written behind it is of that one.
of_the_open : {out₀ out out₁ bytes rest : List ℕ} {w w₁ : ℕ} (f : Frame) (fs : List Frame) (t : Trees) → Wrote out₀ 0 (rows (f ∷ fs) ++ image t) w out → Wrote out w bytes w₁ out₁
    → (row f ++ image t) ++ bytes ≡ rest → Wrote out₀ 0 (rows fs ++ rest) w₁ out₁
unfolding rows
of_the_open {out₀} {out₁ = out₁} {bytes = bytes} {w₁ = w₁} f fs t before put is =
    subst (λ (l : List ℕ). Wrote out₀ 0 l w₁ out₁)
    (append_assoc (rows fs ++ row f) (image t) bytes ∙ append_assoc (rows fs) (row f) (image t ++ bytes)
    ∙ ap (λ (l : List ℕ). rows fs ++ l) (sym (append_assoc (row f) (image t) bytes) ∙ is)) (and_then before put)

module _ {s out₀ out out₁ : List ℕ} {stack : List Open} {depth d at w : ℕ} (f : Frame) (fs : List Frame) (t : Trees) (k : depth ≡ d + 1) (h : depth ≤ 200) (under : Stacked stack at d fs)
    (x : Reached s out₀ out (after t (f ∷ fs)) (rows (f ∷ fs) ++ image t) at w) where
  next_stood : {p : Place} → NextTo s out (λ gs. after t (f ∷ gs)) (row f ++ image t) at w (Ok (Whole p)) out₁ → Stood s out₀ stack out₁ (depth - 1) p.at p.written
  next_stood {p} (NextTo.closed u bytes one on within room goes is put) =
      let same : d ≡ depth - 1 = omega (arith, k) in
      stood fs u (omega (arith, h)) (subst (λ (n : ℕ). Stacked stack p.at n fs) same (stacked_later (omega (arith, on)) under)) one
      (record { within = within; room = room; goes = goes_on x.goes (goes fs); wrote = of_the_open f fs t x.wrote put is })

  next_on : {r : Step} → length stack ≡ 200 → NextTo s out (λ gs. after t (f ∷ gs)) (row f ++ image t) at w (Ok r) out₁ → Going s out₀ stack out₁ (depth - 1) r
  unfolding rows
  next_on l (NextTo.again {p} {o} g bytes on within unblank room opened goes is put) =
      let same : depth - 1 + 1 ≡ depth = omega (arith, k) in (
        omega (arith, k, h),
        record {
          frames = g ∷ fs;
          below = omega (arith, same, h);
          stacked = stacked_push {i = depth - 1} o (omega (arith, k)) (omega (arith, k)) (omega (arith, l, k, h)) opened (stacked_later (omega (arith, on)) under);
          unblank = unblank;
          reached = record { within = within; room = room; goes = goes_on x.goes (goes fs); wrote = of_the_open f fs t x.wrote put is };
        },
      )
  next_on l (NextTo.closed {p} u bytes one on within room goes is put) = next_stood (NextTo.closed {p = p} u bytes one on within room goes is put)

  next_broken : {i : Fault} → NextTo s out (λ gs. after t (f ∷ gs)) (row f ++ image t) at w (Err i) out₁ → ParsedTo s out₀ (Err i) out₁
  next_broken {i} (NextTo.broken comes) = ParsedTo.broken {f = i} (goes_comes i x.goes (comes fs))

-- The entry of the stack that stands for the innermost open value.
entry_is : (stack : List Open) {depth at : ℕ} {o : Open} {f : Frame} (d : ℕ) (z : Open) → depth ≡ d + 1 → ((y : Open) → get_or stack d y ≡ o) → Opened at o f → Opened at (get_or stack (depth - 1) z) f
entry_is stack {depth} {at} {f = f} d z k is opened =
    let same : d ≡ depth - 1 = omega (arith, k) in
    subst (λ (p : Open). Opened at p f) (sym (is z) ∙ ap (λ (i : ℕ). get_or stack i z) same) opened

module _ {s out₀ out : List ℕ} {stack : List Open} {depth at w : ℕ} where
  pub stood_ready : length s ≤ 65000 → Stood s out₀ stack out depth at w → Ready s at w
  stood_ready l (stood fs t h st one x) = (x.within, l, x.room)

  pub stood_below : Stood s out₀ stack out depth at w → depth ≤ 200
  stood_below (stood fs t h st one x) = h

  pub stood_ended : {u : Unit {0}} → depth ≡ 0 → Stood s out₀ stack out depth at w → EndedTo s at (Ok u) → ParsedTo s out₀ (Ok w) out
  unfolding rows
  stood_ended n (stood (f ∷ fs) t h (above o k is opened under) one x) v = absurd (omega (arith, n, k))
  stood_ended n (stood [] t h (empty k) one x) (whole_text comes) = parsed {w = w} t (record { runs = λ large says. x.goes.runs large says ∙ (comes t).runs large says }) x.wrote

  pub stood_left_over : {f : Fault} → depth ≡ 0 → Stood s out₀ stack out depth at w → EndedTo s at (Err f) → ParsedTo s out₀ (Err f) out
  stood_left_over n (stood (f ∷ fs) t h (above o k is opened under) one x) v = absurd (omega (arith, n, k))
  stood_left_over n (stood [] t h (empty k) one x) (left_over {f} comes) = ParsedTo.broken {f = f} (goes_comes f x.goes (comes t))

  module _ (z : Open) (n : ¬ (depth ≡ 0)) where
    pub stood_standing : Stood s out₀ stack out depth at w → Standing at (get_or stack (depth - 1) z)
    stood_standing (stood [] t h (empty k) one x) = absurd (n k)
    stood_standing (stood (f ∷ fs) t h (above {d = d} o k is opened under) one x) = record { frame = f; opened = entry_is stack d z k is opened }

    pub stood_on : {r : Step} {out₁ : List ℕ} → length stack ≡ 200 → Stood s out₀ stack out depth at w → OpenNext s out at w (get_or stack (depth - 1) z) (Ok r) out₁ → Going s out₀ stack out₁ (depth - 1) r
    stood_on l (stood [] t h (empty k) one x) v = absurd (n k)
    stood_on l (stood (f ∷ fs) t h (above {d = d} o k is opened under) one x) v = next_on f fs t k h under x l (v.next f t (entry_is stack d z k is opened) one)

    pub stood_closed : {p : Place} {out₁ : List ℕ} → Stood s out₀ stack out depth at w → OpenNext s out at w (get_or stack (depth - 1) z) (Ok (Whole p)) out₁
        → Stood s out₀ stack out₁ (depth - 1) p.at p.written
    stood_closed (stood [] t h (empty k) one x) v = absurd (n k)
    stood_closed (stood (f ∷ fs) t h (above {d = d} o k is opened under) one x) v = next_stood f fs t k h under x (v.next f t (entry_is stack d z k is opened) one)

    pub stood_broken : {i : Fault} {out₁ : List ℕ} → Stood s out₀ stack out depth at w → OpenNext s out at w (get_or stack (depth - 1) z) (Err i) out₁ → ParsedTo s out₀ (Err i) out₁
    stood_broken (stood [] t h (empty k) one x) v = absurd (n k)
    stood_broken (stood (f ∷ fs) t h (above {d = d} o k is opened under) one x) v = next_broken f fs t k h under x (v.next f t (entry_is stack d z k is opened) one)

-- ── The loop ends ─────────────────────────────────────────────────────────────────────────────────

-- A value takes the place on, or stays and opens one more.
pub value_later : {s out out₁ : List ℕ} {Fits : List Frame → Type 0} {st : List Frame → State} {at w : ℕ} {r : Step} → OpensTo s out Fits st at w (Ok r) out₁
    → (at ≤ place_of r) × (place_of r ≤ length s)
value_later (OpensTo.whole t one on within room goes put) = (on, within)
value_later (OpensTo.enter f on within unblank room opened below goes put) = (on, within)

next_later : {s out out₁ before : List ℕ} {st : List Frame → State} {at w : ℕ} {r : Step} → NextTo s out st before at w (Ok r) out₁ → (at < place_of r) × (place_of r ≤ length s)
next_later (NextTo.again g bytes on within unblank room opened goes is put) = (on, within)
next_later (NextTo.closed u bytes one on within room goes is put) = (on, within)

-- What comes behind a value takes it on.
pub within_later : {s out out₁ : List ℕ} {at w : ℕ} {r : Step} {o : Open} → Standing at o → OpenNext s out at w o (Ok r) out₁ → (at < place_of r) × (place_of r ≤ length s)
unfolding count
within_later y v = next_later (v.next y.frame (array none) y.opened refl)
