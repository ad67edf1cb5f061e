-- Leaves at places of a text: words and numbers, with the records that are written for them.
-- Assumes nothing.
use mathlib.Core.Path.{◌≡◌, refl, sym, ap, subst, ◌∙◌}
use mathlib.Core.Bool.{Bool, true, false, cond}
use mathlib.Core.List.{List, [], ◌∷◌, ◌++◌, append-nil}
use Prim.Native.Nat.{ℕ, ◌+◌, ◌-◌, ◌^◌, ◌≤◌, ◌<◌}
use native.Mathlib.Omega.{arith}
use lib.Dec.{leb}
use lib.ListN.{length, take, drop, get_or}
use lib.Seq.{take_at}
use borrow.Author.Tests.{le-leb, lt-leb}
use Rattle.strings.proofs.Stores.{drop-next}
use Rattle.numerals.specs.Value.{is_digit, TooLarge, Verdict, too_large, in_range}
use Rattle.grammar.specs.Tags.{NUMBER, PREFIX}
use Rattle.grammar.specs.Numbers.{DEPTH, LARGE}
use Rattle.grammar.specs.Trees.{Field, byte, text, Trees, none, tree, count}
use Rattle.grammar.specs.Image.{payload, entry, image}
use Rattle.grammar.specs.Writing.{Wrote}
use Rattle.grammar.proofs.ImageLaws.{image_close}
use Rattle.grammar.proofs.WritingLaws.{and_then}
use Rattle.grammar.specs.Answer.{refused}
use Rattle.json_import.specs.Values as values
use Rattle.json_import.specs.Json.{NOT_JSON}
use Rattle.json_import.specs.Machine.{Frame, State, after, minus, digits, stuck, broken as broken_off, begun, signed, spelling, is_deep, step, finish, run}
use Rattle.json_import.specs.Inner.{Leads, Sticks, WordTo, spelt, other, NumberTo, literal, broken as cut_off}
use Rattle.json_import.specs.Leaves.{Goes, Comes, verdict, Ready, LeafTo, leaf, Any, NumeralTo, numeral}
use Rattle.std.specs.Prelude.{Ok, Err}
use Rattle.json_import.specs.declared.Place.{Place}
use Rattle.json_import.specs.declared.Fault.{Fault}
use Rattle.json_import.specs.declared.Fault.TheVariants.{NotJson, Deep, Large}
use Rattle.json_import.proofs.Tests.{yes_true, no_false, digit_in}
use Rattle.json_import.proofs.Skips.{stays_broken}
use Rattle.json_import.proofs.NumberRuns.{run_digits}
use Rattle.json_import.proofs.Places.{byte_inside, sticks_here}

-- ── Runs ──────────────────────────────────────────────────────────────────────────────────────────

pub goes_of : {s : List ℕ} {a b : State} {i j : ℕ} → Leads s a i b j → Goes s a i b j
goes_of x = record { runs = λ large says. x.runs is_deep large }

pub comes_of : {s : List ℕ} {a : State} {i n : ℕ} → Sticks s a i n → Comes s a i (refused NOT_JSON n n 0)
comes_of x = record { runs = λ large says. x.runs is_deep large }

-- One step with 01's depth.
pub one_step : {s : List ℕ} (a b : State) (i : ℕ) → i < length s → ((large : List ℕ → Bool) → step is_deep large a i (get_or s i 0) ≡ b) → Goes s a i b (i + 1)
unfolding run
one_step {s} a b i h f =
    record { runs = λ large says. ap (λ (l : List ℕ). run is_deep large a i l) (drop-next s i h) ∙ ap (λ (st : State). run is_deep large st (i + 1) (drop (i + 1) s)) (f large) }

pub goes_on : {s : List ℕ} {a b c : State} {i j k : ℕ} → Goes s a i b j → Goes s b j c k → Goes s a i c k
goes_on x y = record { runs = λ large says. x.runs large says ∙ y.runs large says }

pub goes_comes : {s : List ℕ} {a b : State} {i j : ℕ} (f : Fault) → Goes s a i b j → Comes s b j (verdict f) → Comes s a i (verdict f)
goes_comes f x y = record { runs = λ large says. x.runs large says ∙ y.runs large says }

-- ── Images ────────────────────────────────────────────────────────────────────────────────────────

pub image-leaf : (tag : ℕ) (fields : List Field) → image (tree tag fields none) ≡ entry tag fields
unfolding image
image-leaf tag fields = append-nil (entry tag fields)

pub wrote_leaf : {out out₁ : List ℕ} {w w₁ : ℕ} (tag : ℕ) (fields : List Field) → Wrote out w (entry tag fields) w₁ out₁ → Wrote out w (image (tree tag fields none)) w₁ out₁
wrote_leaf {out} {out₁} {w} {w₁} tag fields v = subst (λ (l : List ℕ). Wrote out w l w₁ out₁) (sym (image-leaf tag fields)) v

pub text_long : (tag : ℕ) (v : List ℕ) → length (entry tag (text v ∷ [])) ≡ 3 + length v
unfolding entry payload
text_long tag v = omega arith

flag_long : (tag b : ℕ) → length (entry tag (byte b ∷ [])) ≡ 4
unfolding entry payload
flag_long tag b = refl

none_long : (tag : ℕ) → length (entry tag []) ≡ 3
unfolding entry payload
none_long tag = refl

-- ── Words ─────────────────────────────────────────────────────────────────────────────────────────

module _ {s letters : List ℕ} {at w : ℕ} where
  pub word_broken : {out out₁ : List ℕ} {f : Fault} (t : Trees) → WordTo s letters at (Err f) → LeafTo s out Any (spelling letters t) at w (Err f) out₁
  word_broken t (other {n} f) = LeafTo.broken {f = NotJson n} (λ fs u. comes_of (f t fs))

  word-leaf : {out out₁ : List ℕ} {e w₁ : ℕ} (tag : ℕ) (fields : List Field) → 1 ≤ length letters → Ready s at w → length (entry tag fields) ≤ 4 → WordTo s letters at (Ok e)
      → Wrote out w (entry tag fields) w₁ out₁ → LeafTo s out Any (spelling letters (tree tag fields none)) at w (Ok (record { at = e; written = w₁ })) out₁
  unfolding count
  word-leaf {e = e} {w₁ = w₁} tag fields some ready short (spelt is within f) v =
      leaf {p = record { at = e; written = w₁ }} (tree tag fields none) refl (omega (arith, is)) within (omega (arith, is, some, short, ready.2, v.to)) (λ fs u. goes_of (f (tree tag fields none) fs)) (wrote_leaf tag fields v)

  pub word_none : {out out₁ : List ℕ} {e w₁ : ℕ} (tag : ℕ) → 1 ≤ length letters → Ready s at w → WordTo s letters at (Ok e) → Wrote out w (entry tag []) w₁ out₁
      → LeafTo s out Any (spelling letters (tree tag [] none)) at w (Ok (record { at = e; written = w₁ })) out₁
  word_none tag some ready = word-leaf tag [] some ready (omega (arith, none_long tag))

  pub word_flag : {out out₁ : List ℕ} {e w₁ : ℕ} (tag b : ℕ) → 1 ≤ length letters → Ready s at w → WordTo s letters at (Ok e) → Wrote out w (entry tag (byte b ∷ [])) w₁ out₁
      → LeafTo s out Any (spelling letters (tree tag (byte b ∷ []) none)) at w (Ok (record { at = e; written = w₁ })) out₁
  word_flag tag b some ready = word-leaf tag (byte b ∷ []) some ready (omega (arith, flag_long tag b))

-- ── Numbers ───────────────────────────────────────────────────────────────────────────────────────

-- A whole literal stands from a place to another, and the machine judges it there.
pub record Stands (s : List ℕ) (at e : ℕ) : Type 0 where
  pub written : List ℕ
  pub part : take (e - at) (drop at s) ≡ written
  pub size : at + length written ≡ e
  pub on : at < e
  pub within : e ≤ length s
  pub runs : (large : List ℕ → Bool) (neg : Bool) (fs : List Frame)
      → run is_deep large (digits (begun (get_or s at 0)) neg at (get_or s at 0 ∷ []) fs) (at + 1) (drop (at + 1) s)
      ≡ cond (large written) (refused LARGE at e 0) (run is_deep large (after (signed neg written) fs) e (drop e s))

pub stands : {s : List ℕ} {at e : ℕ} → at < length s → NumberTo s at (Ok e) → Stands s at e
stands {s} {at} {e} h (literal v split place within p q) =
    let b = get_or s at 0 in
    let whole : drop at s ≡ (b ∷ v) ++ drop e s = drop-next s at h ∙ ap (λ (l : List ℕ). b ∷ l) split in
    let long : length (b ∷ v) ≡ e - at = omega (arith, place) in
    let last : at + 1 + length v ≡ e = omega (arith, place) in
    record {
      written = b ∷ v;
      part = ap (λ (l : List ℕ). take (e - at) l) whole ∙ take_at (b ∷ v) (drop e s) (e - at) long;
      size = omega (arith, place);
      on = omega (arith, place);
      within = within;
      runs = λ large neg fs.
          ap (λ (l : List ℕ). run is_deep large (digits (begun b) neg at (b ∷ []) fs) (at + 1) l) split
          ∙ run_digits is_deep large neg at fs (begun b) (b ∷ []) v (drop e s) (b ∷ v) (at + 1) refl p q
          ∙ ap (λ (n : ℕ). cond (large (b ∷ v)) (refused LARGE at n 0) (run is_deep large (after (signed neg (b ∷ v)) fs) n (drop e s))) last;
    }

pub part_short : {s : List ℕ} {at e : ℕ} → Stands s at e → length s ≤ 65000 → length (take (e - at) (drop at s)) < 2 ^ 16
part_short x h = omega (arith, ap length x.part, x.size, x.within, h)

large_is : {t : List ℕ} {r : Bool} → Verdict t r → r ≡ true → TooLarge t
large_is (too_large x) e = x
large_is (in_range f) e = absurd (mathlib.Core.Bool.true≢false (sym e))

in_range_is : {t : List ℕ} {r : Bool} → Verdict t r → r ≡ false → TooLarge t → ⊥
in_range_is (too_large x) e = absurd (mathlib.Core.Bool.true≢false e)
in_range_is (in_range f) e = f

module _ {s out : List ℕ} {at w : ℕ} where
  pub numeral_cut : {out₁ : List ℕ} {f : Fault} → NumberTo s at (Err f) → NumeralTo s out at w (Err f) out₁
  numeral_cut (cut_off {n} f) = NumeralTo.broken {f = NotJson n} (λ neg fs. record { runs = λ large says. f is_deep large neg at (get_or s at 0 ∷ []) fs })

  module _ {e : ℕ} {r : Bool} (x : Stands s at e) (v : Verdict (take (e - at) (drop at s)) r) where
    pub numeral_large : {out₁ : List ℕ} → r ≡ true → NumeralTo s out at w (Err (Large at e)) out₁
    numeral_large p =
        let vast : TooLarge x.written = subst TooLarge x.part (large_is v p) in
        NumeralTo.broken {f = Large at e}
        (λ neg fs.
        record {
          runs = λ large says.
              x.runs large neg fs
              ∙ ap (λ (c : Bool). cond c (refused LARGE at e 0) (run is_deep large (after (signed neg x.written) fs) e (drop e s))) (yes_true (large x.written) (says x.written) vast);
        })

    pub numeral_done : {out₁ : List ℕ} {w₁ : ℕ} → r ≡ false → Wrote out w (entry NUMBER (text (take (e - at) (drop at s)) ∷ [])) w₁ out₁ → NumeralTo s out at w (Ok (record { at = e; written = w₁ })) out₁
    numeral_done {out₁} {w₁} p put =
        let fits : TooLarge x.written → ⊥ = λ y. in_range_is v p (subst TooLarge (sym x.part) y) in
        numeral {p = record { at = e; written = w₁ }} x.written x.size x.on x.within
        (λ neg fs.
        record {
          runs = λ large says.
              x.runs large neg fs
              ∙ ap (λ (c : Bool). cond c (refused LARGE at e 0) (run is_deep large (after (signed neg x.written) fs) e (drop e s))) (no_false (large x.written) (says x.written) fits);
        })
        (subst (λ (l : List ℕ). Wrote out w (image (values.leaf NUMBER l)) w₁ out₁) x.part (wrote_leaf NUMBER (text (take (e - at) (drop at s)) ∷ []) put))

-- ── A minus ───────────────────────────────────────────────────────────────────────────────────────

pub digit_inside : (s : List ℕ) (at : ℕ) → is_digit (get_or s at 0) ≡ true → at < length s
digit_inside s at d = byte_inside s at (λ z. omega (arith, z, (digit_in (get_or s at 0) d).0))

no_digit_step : (large : List ℕ → Bool) (deep : ℕ → Bool) (fs : List Frame) (i b : ℕ) → is_digit b ≡ false → step deep large (minus fs) i b ≡ stuck i
unfolding step
no_digit_step large deep fs i b p = rw p refl

deep_step : (large : List ℕ → Bool) (fs : List Frame) (i b : ℕ) → is_digit b ≡ true → leb 200 (length fs + 1) ≡ true → step is_deep large (minus fs) i b ≡ broken_off DEPTH i i
unfolding step
deep_step large fs i b p q = rw (p, q) refl

digit_step : (large : List ℕ → Bool) (fs : List Frame) (i b : ℕ) → is_digit b ≡ true → leb 200 (length fs + 1) ≡ false → step is_deep large (minus fs) i b ≡ digits (begun b) true i (b ∷ []) fs
unfolding step
digit_step large fs i b p q = rw (p, q) refl

no_end : (deep : ℕ → Bool) (large : List ℕ → Bool) (fs : List Frame) (i : ℕ) → finish deep large (minus fs) i ≡ refused NOT_JSON i i 0
unfolding finish
no_end deep large fs i = refl

enters : {s : List ℕ} {at depth : ℕ} → is_digit (get_or s at 0) ≡ true → depth < 200 → (fs : List Frame) → length fs + 1 ≡ depth
    → Goes s (minus fs) at (digits (begun (get_or s at 0)) true at (get_or s at 0 ∷ []) fs) (at + 1)
enters {s} {at} {depth} d h fs u =
    one_step (minus fs) (digits (begun (get_or s at 0)) true at (get_or s at 0 ∷ []) fs) at (digit_inside s at d)
    (λ large. digit_step large fs at (get_or s at 0) d (lt-leb 200 (length fs + 1) (omega (arith, u, h))))

module _ {s out : List ℕ} {at w depth : ℕ} where
  pub minus_cut : {out₁ : List ℕ} → is_digit (get_or s at 0) ≡ false → LeafTo s out (λ fs. length fs + 1 ≡ depth) minus at w (Err (NotJson at)) out₁
  minus_cut p =
      LeafTo.broken {f = NotJson at} (λ fs u. comes_of (sticks_here (minus fs) at (λ deep large. no_end deep large fs at) (λ l deep large. no_digit_step large deep fs at (get_or s at 0) p)))

  pub minus_deep : {out₁ : List ℕ} → is_digit (get_or s at 0) ≡ true → 200 ≤ depth → LeafTo s out (λ fs. length fs + 1 ≡ depth) minus at w (Err (Deep at)) out₁
  minus_deep d h =
      LeafTo.broken {f = Deep at}
      (λ fs u.
      goes_comes (Deep at)
      (one_step (minus fs) (broken_off DEPTH at at) at (digit_inside s at d) (λ large. deep_step large fs at (get_or s at 0) d (le-leb 200 (length fs + 1) (omega (arith, u, h)))))
      (record { runs = λ large says. stays_broken is_deep large DEPTH at at (at + 1) (drop (at + 1) s) }))

  module _ (d : is_digit (get_or s at 0) ≡ true) (h : depth < 200) where
    pub minus_broken : {out₁ out₂ : List ℕ} {f : Fault} → NumeralTo s out at w (Err f) out₁ → LeafTo s out (λ fs. length fs + 1 ≡ depth) minus at w (Err f) out₂
    minus_broken {f = f} (NumeralTo.broken g) = LeafTo.broken {f = f} (λ fs u. goes_comes f (enters d h fs u) (g true fs))

    pub minus_whole : {out₁ out₂ : List ℕ} {p : Place} {w₂ : ℕ} → Ready s at w → NumeralTo s out at w (Ok p) out₁ → Wrote out₁ p.written (entry PREFIX (byte 1 ∷ [])) w₂ out₂
        → LeafTo s out (λ fs. length fs + 1 ≡ depth) minus at w (Ok (record { at = p.at; written = w₂ })) out₂
    unfolding signed count
    minus_whole {out₁} {out₂} {p} {w₂} ready (numeral v size on within g put) over =
        let long : length (image (values.leaf NUMBER v)) ≡ 3 + length v = ap length (image-leaf NUMBER (text v ∷ [])) ∙ text_long NUMBER v in
        leaf {p = record { at = p.at; written = w₂ }} (values.negative (values.leaf NUMBER v)) refl (omega (arith, on)) within (omega (arith, size, on, ready.2, put.to, over.to, long, flag_long PREFIX 1))
        (λ fs u. goes_on (enters d h fs u) (g true fs))
        (subst (λ (l : List ℕ). Wrote out w l w₂ out₂) (sym (image_close PREFIX (byte 1 ∷ []) (values.leaf NUMBER v))) (and_then put over))

pub numeral_room : {s out out₁ : List ℕ} {at w : ℕ} {p : Place} → Ready s at w → NumeralTo s out at w (Ok p) out₁ → p.written < 2 ^ 40
numeral_room ready (numeral v size on within g put) =
    let long : length (image (values.leaf NUMBER v)) ≡ 3 + length v = ap length (image-leaf NUMBER (text v ∷ [])) ∙ text_long NUMBER v in
    omega (arith, size, within, ready.1, ready.2, put.to, long)
