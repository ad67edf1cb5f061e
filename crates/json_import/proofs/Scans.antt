-- How far the scanners have come: the invariants of their loops, and what they end in.
-- Assumes nothing.
use mathlib.Core.Path.{◌≡◌, refl, sym, ap, subst, ◌∙◌}
use mathlib.Core.Bool.{Bool, true, false}
use mathlib.Core.List.{List, [], ◌∷◌, ◌++◌, append_assoc, append-nil}
use Prim.Native.Nat.{ℕ, ◌+◌, ◌≤◌, ◌<◌}
use native.Mathlib.Omega.{arith}
use native.Mathlib.Numerals.{add-one}
use lib.ListN.{length, drop, get_or, get_or-eq_default, length-append, drop_of_length-le}
use lib.Seq.{drop-cons}
use Rattle.json_import.specs.Tokens.{At, ◌▹◌, is_blank, Ws}
use Rattle.json_import.specs.Machine.{Shape, over, begun, next, whole, is_over, walk, Stopped, Frame, State, digits, run}
use Rattle.json_import.specs.Json.{NOT_JSON}
use Rattle.json_import.specs.Inner.{Blanks, shape, ScannedTo, at_end, cut_off, NumberTo, literal, broken}
use Rattle.std.specs.Prelude.{Result}
use Rattle.json_import.specs.declared.Fault.{Fault}
use Rattle.json_import.specs.declared.scan.Shape.{Shape as Coded}
use Rattle.json_import.specs.declared.scan.Shape.TheVariants.{Zero, Int, Point, Frac, Mark, Sign, Exp}
use Rattle.grammar.specs.Answer.{refused}
use Rattle.json_import.proofs.Skips.{stays_stuck}
use Rattle.json_import.proofs.NumberShapes.{walk_append}
use Rattle.json_import.proofs.Tokens.{a_digit, no_digit_lem, cut_short}

-- ── White space ───────────────────────────────────────────────────────────────────────────────────

pub record BlanksSoFar (s : List ℕ) (from at : ℕ) : Type 0 where
  pub on : from ≤ at
  pub within : at ≤ length s
  pub ws : Ws (from ▹ drop from s) (at ▹ drop at s)

ws_more : {h : At} {i b : ℕ} {s : List ℕ} → is_blank b ≡ true → Ws h (i ▹ b ∷ s) → Ws h (i + 1 ▹ s)
ws_more p Ws.none = Ws.more p Ws.none
ws_more p (Ws.more q w) = Ws.more q (ws_more p w)

pub blanks_start : (s : List ℕ) (from : ℕ) → from ≤ length s → BlanksSoFar s from from
blanks_start s from h = record { on = omega arith; within = h; ws = Ws.none }

pub blanks_more : {s : List ℕ} {from at : ℕ} → BlanksSoFar s from at → at < length s → is_blank (get_or s at 0) ≡ true → BlanksSoFar s from (at + 1)
blanks_more {s} {from} {at} x h p =
    record {
      on = omega (arith, x.on);
      within = omega (arith, h);
      ws = subst (λ (l : List ℕ). Ws (from ▹ drop from s) (at + 1 ▹ l)) (ap (λ (n : ℕ). drop n s) (sym (add-one at)))
          (ws_more p (subst (λ (l : List ℕ). Ws (from ▹ drop from s) (at ▹ l)) (drop-cons s at 0 h) x.ws));
    }

pub blanks_stop : {s : List ℕ} {from at : ℕ} → BlanksSoFar s from at → is_blank (get_or s at 0) ≡ false → Blanks s from at
blanks_stop x p = record { on = x.on; within = x.within; ws = x.ws; unblank = p }

pub blanks_end : {s : List ℕ} {from at : ℕ} → BlanksSoFar s from at → length s ≤ at → Blanks s from at
blanks_end {s} {from} {at} x h = blanks_stop x (ap (λ (b : ℕ). is_blank b) (get_or-eq_default s 0 h))

-- ── A number's literal ────────────────────────────────────────────────────────────────────────────

-- Only where a number doesn't go on its shape is over.
pub shape_goes : (sh : Coded) → is_over (shape sh) ≡ false
unfolding is_over
shape_goes Zero = refl
shape_goes Int = refl
shape_goes Point = refl
shape_goes Frac = refl
shape_goes Mark = refl
shape_goes Sign = refl
shape_goes Exp = refl

pub over_is : is_over over ≡ true
unfolding is_over
over_is = refl

-- A number is read up to a place, where its shape is so far.
pub record WalkedSoFar (s : List ℕ) (at : ℕ) (sh : Shape) (i : ℕ) : Type 0 where
  pub read : List ℕ
  pub split : drop (at + 1) s ≡ read ++ drop i s
  pub place : i ≡ at + 1 + length read
  pub within : i ≤ length s
  pub shaped : walk (begun (get_or s at 0)) read ≡ sh
  pub runs : (deep : ℕ → Bool) (large : List ℕ → Bool) (neg : Bool) (a : ℕ) (w : List ℕ) (fs : List Frame)
      → run deep large (digits (begun (get_or s at 0)) neg a w fs) (at + 1) (drop (at + 1) s) ≡ run deep large (digits sh neg a (w ++ read) fs) i (drop i s)

pub walked_start : (s : List ℕ) (at : ℕ) {sh : Shape} → at < length s → sh ≡ begun (get_or s at 0) → WalkedSoFar s at sh (at + 1)
unfolding walk
walked_start s at h e =
    record {
      read = [];
      split = refl;
      place = omega arith;
      within = omega (arith, h);
      shaped = sym e;
      runs = λ deep large neg a w fs.
          ap (λ (x : Shape). run deep large (digits x neg a w fs) (at + 1) (drop (at + 1) s)) (sym e)
          ∙ ap (λ (l : List ℕ). run deep large (digits _ neg a l fs) (at + 1) (drop (at + 1) s)) (sym (append-nil w));
    }

drop_here : (s : List ℕ) (i : ℕ) → i < length s → drop i s ≡ get_or s i 0 ∷ drop (i + 1) s
drop_here s i h = drop-cons s i 0 h ∙ ap (λ (n : ℕ). get_or s i 0 ∷ drop n s) (sym (add-one i))

walk_snoc : (sh : Shape) (u : List ℕ) (b : ℕ) → walk sh (u ++ (b ∷ [])) ≡ next (walk sh u) b
unfolding walk
walk_snoc sh u b = walk_append sh u (b ∷ [])

pub walked_more : {s : List ℕ} {at i : ℕ} {sh more : Shape} → WalkedSoFar s at sh i → i < length s → more ≡ next sh (get_or s i 0) → is_over more ≡ false → WalkedSoFar s at more (i + 1)
unfolding run
walked_more {s} {at} {i} {sh} {more} x h e o =
    let b = get_or s i 0 in
    record {
      read = x.read ++ (b ∷ []);
      split = x.split ∙ ap (λ (l : List ℕ). x.read ++ l) (drop_here s i h) ∙ sym (append_assoc x.read (b ∷ []) (drop (i + 1) s));
      place = omega (arith, x.place, length-append x.read (b ∷ []));
      within = omega (arith, h);
      shaped = walk_snoc (begun (get_or s at 0)) x.read b ∙ ap (λ (y : Shape). next y b) x.shaped ∙ sym e;
      runs = λ deep large neg a w fs.
          x.runs deep large neg a w fs
          ∙ ap (λ (l : List ℕ). run deep large (digits sh neg a (w ++ x.read) fs) i l) (drop_here s i h)
          ∙ ap (λ (st : State). run deep large st (i + 1) (drop (i + 1) s)) (a_digit deep large sh neg a (w ++ x.read) fs i b (ap (λ (y : Shape). is_over y) (sym e) ∙ o))
          ∙ ap (λ (y : Shape). run deep large (digits y neg a ((w ++ x.read) ++ (b ∷ [])) fs) (i + 1) (drop (i + 1) s)) (sym e)
          ∙ ap (λ (l : List ℕ). run deep large (digits more neg a l fs) (i + 1) (drop (i + 1) s)) (append_assoc w x.read (b ∷ []));
    }

-- The number ends here: whole, or cut off.
walked_to : {s : List ℕ} {at i : ℕ} {sh : Shape} {r : Result ℕ Fault} → WalkedSoFar s at sh i → Stopped sh (drop i s)
    → ((deep : ℕ → Bool) (large : List ℕ → Bool) (neg : Bool) (a : ℕ) (w : List ℕ) (fs : List Frame) → whole sh ≡ false → run deep large (digits sh neg a w fs) i (drop i s) ≡ refused NOT_JSON i i 0)
    → ScannedTo sh i r → NumberTo s at r
walked_to {s} {at} {i} {sh} x st f (at_end p) =
    literal x.read x.split x.place x.within (ap (λ (y : Shape). whole y) x.shaped ∙ p) (subst (λ (y : Shape). Stopped y (drop i s)) (sym x.shaped) st)
walked_to {s} {at} {i} {sh} x st f (cut_off p) = broken (λ deep large neg a w fs. x.runs deep large neg a w fs ∙ f deep large neg a (w ++ x.read) fs p)

pub walked_stop : {s : List ℕ} {at i : ℕ} {sh more : Shape} {r : Result ℕ Fault} → WalkedSoFar s at sh i → i < length s → more ≡ next sh (get_or s i 0) → is_over more ≡ true → ScannedTo sh i r → NumberTo s at r
unfolding run
walked_stop {s} {at} {i} {sh} x h e o sc =
    let over-here : is_over (next sh (get_or s i 0)) ≡ true = ap (λ (y : Shape). is_over y) (sym e) ∙ o in
    walked_to x (subst (Stopped sh) (sym (drop_here s i h)) over-here)
    (λ deep large neg a w fs p.
    ap (λ (l : List ℕ). run deep large (digits sh neg a w fs) i l) (drop_here s i h)
    ∙ ap (λ (y : State). run deep large y (i + 1) (drop (i + 1) s)) (no_digit_lem deep large sh neg a w fs i (get_or s i 0) over-here p) ∙ stays_stuck deep large i (i + 1) (drop (i + 1) s))
    sc

pub walked_end : {s : List ℕ} {at i : ℕ} {sh : Shape} {r : Result ℕ Fault} → WalkedSoFar s at sh i → length s ≤ i → ScannedTo sh (length s) r → NumberTo s at r
unfolding run
walked_end {s} {at} {i} {sh} {r} x h sc =
    let same : length s ≡ i = omega (arith, h, x.within) in
    let nothing : drop i s ≡ [] = drop_of_length-le s h in
    walked_to x (subst (Stopped sh) (sym nothing) tt)
    (λ deep large neg a w fs p. ap (λ (l : List ℕ). run deep large (digits sh neg a w fs) i l) nothing ∙ cut_short deep large sh neg a w fs i p)
    (subst (λ (k : ℕ). ScannedTo sh k r) same sc)
