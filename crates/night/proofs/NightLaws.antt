-- Laws of a night's lists: where files begin and stop, when lists fit, and the turn that reads one file.
-- Assumes nothing.
use mathlib.Core.Path.{◌≡◌, refl, sym, ap, subst, subst⁻¹, ◌∙◌}
use mathlib.Core.Bool.{Bool, true, false, true≢false}
use mathlib.Core.List.{List, [], ◌∷◌, ◌++◌, append-nil}
use Prim.Native.Nat.{ℕ, zero, suc, ◌+◌, ◌*◌, ◌-◌, ◌/◌, ◌%◌, ◌≤◌, ◌<◌}
use native.Mathlib.Omega.{arith}
use native.Mathlib.Numerals.{add-one}
use borrow.Author.Count.{below_more}
use borrow.Rule.Slice.PartMut.{same_len_mid}
use borrow.Author.Tests.{eqb-true, eq-eqb}
use lib.Dec.{eqb}
use lib.ListN.{length, get_or, set, take, drop, replicate, drop_of_length-le}
use lib.Seq.{sets, sets-eq, take_all, slice, length-slice}
use Rattle.std.specs.List.Sorted.{IsNonDecreasing}
use Rattle.grammar.specs.Answer.{Answer}
use Rattle.grammar.specs.Source.{Reads01}
use Rattle.grammar.proofs.WritingLaws.{copied}
use Rattle.leaves.proofs.PartLaws.{lent}
use Rattle.reader.specs.Five.{five}
use Rattle.night.specs.Night.{LISTS, begins, stops, file, size_of, answer_of, Cuts, Fit, Each, Night, unfit}
use Rattle.night.proofs.Parts.{part-before, part_itself}

-- ── Ends that cut a buffer ────────────────────────────────────────────────────────────────────────

-- A file stops where the next begins.
pub next-begins : (ends : List ℕ) (i : ℕ) → begins ends (i + 1) ≡ stops ends i
next-begins ends i = ap (begins ends) (add-one i)

module _ {ends : List ℕ} {size : ℕ} (c : Cuts ends size) where
  grows : (k i : ℕ) → i + k ≤ length ends → begins ends i ≤ begins ends (i + k)
  grows zero i h = omega (arith, ap (begins ends) (let q : i + 0 ≡ i = omega arith in q))
  grows (suc k) i h =
      let here = c.forward i (omega arith) in
      let on : stops ends i ≤ begins ends (suc i + k) = grows k (suc i) (omega arith) in
      omega (arith, ap (begins ends) (let q : i + suc k ≡ suc i + k = omega arith in q))

  -- files follow each other
  pub begins-before : (i j : ℕ) → i ≤ j → j ≤ length ends → begins ends i ≤ begins ends j
  begins-before i j h l =
      let z = grows (j - i) i (omega arith) in omega (arith, ap (begins ends) (let q : i + (j - i) ≡ j = omega arith in q))

  -- and stand within the buffer
  pub stops-within : (i : ℕ) → i < length ends → stops ends i ≤ size
  stops-within i h = let z = begins-before (suc i) (length ends) h (omega arith) in omega (arith, c.whole)

-- ── Whether lists fit, as the code tests it ───────────────────────────────────────────────────────

-- A test that is true exactly where something holds.
abbrev pub Tests : Bool → Type 0 → Type 0
Tests b P = (b ≡ true → P) × (P → b ≡ true)

pub fails : (P : Type 0) → (P → ⊥) → Tests false P
fails P n = (λ e. absurd (true≢false (sym e)), λ p. absurd (n p))

-- an end stands before the one before it
pub backward : (ends : List ℕ) (size i : ℕ) → i < length ends → stops ends i < begins ends i → Tests false (Cuts ends size)
backward ends size i h b = fails (Cuts ends size) (λ c. let z = c.forward i h in omega arith)

-- none does, and the last one is compared
pub compared : (ends : List ℕ) (size from i : ℕ) → i ≡ length ends → from ≡ begins ends i → ((k : ℕ) → k < i → begins ends k ≤ stops ends k)
    → Tests (eqb from size) (Cuts ends size)
compared ends size from i l e all =
    let last : from ≡ begins ends (length ends) = e ∙ ap (begins ends) l in (
      λ t. record { forward = λ k h. all k (omega arith); whole = sym last ∙ eqb-true from size t },
      λ c. eq-eqb from size (last ∙ c.whole),
    )

-- as `is_sorted` finds one that does, and that none does
pub unsorted : (ends : List ℕ) (size : ℕ) → (k : ℕ) × (k + 1 < length ends) × ((d : ℕ) → get_or ends (k + 1) d < get_or ends k d) → Tests false (Cuts ends size)
unsorted ends size h = backward ends size (h.0 + 1) h.1 (omega (arith, h.2 0, next-begins ends h.0))

-- the same of whatever is false then
pub unsorted_told : (ends : List ℕ) (size : ℕ) {r : Bool} → (k : ℕ) × (k + 1 < length ends) × ((d : ℕ) → get_or ends (k + 1) d < get_or ends k d) → r ≡ false → Tests r (Cuts ends size)
unsorted_told ends size h e = rw e (unsorted ends size h)

pub rising : (ends : List ℕ) (size last : ℕ) → IsNonDecreasing ends → last ≡ begins ends (length ends) → Tests (eqb last size) (Cuts ends size)
rising ends size last s e = compared ends size last (length ends) refl e forward
  where
    forward : (k : ℕ) → k < length ends → begins ends k ≤ stops ends k
    forward zero h = omega arith
    forward (suc k) h = s k (suc k) 0 (omega arith) h

-- the lists are for other numbers of files
module _ (ends : List ℕ) (size : ℕ) (parts : List ℕ) (room count : ℕ) where
  abbrev fitting : Type 0
  fitting = Fit ends size parts room count

  pub other_parts : ¬ (length parts ≡ length ends) → Tests false fitting
  other_parts n = fails fitting (λ f. n f.parts)

  pub no_fives : ¬ (count % 5 ≡ 0) → Tests false fitting
  no_fives n = fails fitting (λ f. n (omega (arith, f.answers)))

  pub other_fives : ¬ (count / 5 ≡ length ends) → Tests false fitting
  other_fives n = fails fitting (λ f. n (omega (arith, f.answers)))

  -- the sources are not cut by their ends
  pub no_sources : {b : Bool} → b ≡ false → Tests b (Cuts ends size) → Tests false fitting
  no_sources e t = fails fitting (λ f. true≢false (sym (t.1 f.sources) ∙ e))

  -- all is as it should be, but for the output
  pub fits : {b : Bool} → length parts ≡ length ends → count % 5 ≡ 0 → count / 5 ≡ length ends → Cuts ends size → Tests b (Cuts parts room) → Tests b fitting
  fits p m d c t = (λ e. record { parts = p; answers = omega arith; sources = c; output = t.0 e }, λ f. t.1 f.output)

-- What is left of lists that do not fit.
pub cleared : {setting : ℕ} {sources ends : List ℕ} {room : ℕ} {parts : List ℕ} {count : ℕ} {out answers : List ℕ} {b : Bool} → b ≡ false → (Fit ends (length sources) parts room count → b ≡ true)
    → out ≡ replicate room 0 → answers ≡ replicate count 0 → Night setting sources ends room parts count LISTS out answers
cleared {setting} {sources} {ends} {room} {parts} {count} {out} {answers} e t p q =
    subst⁻¹ (λ (l : List ℕ). Night setting sources ends room parts count LISTS l answers) p
    (subst⁻¹ (λ (l : List ℕ). Night setting sources ends room parts count LISTS (replicate room 0) l) q (unfit (λ f. true≢false (sym (t f) ∙ e))))

-- ── Five numbers ──────────────────────────────────────────────────────────────────────────────────

-- A list of five is its elements.
pub five_list : (a : List ℕ) → length a ≡ 5 → get_or a 0 0 ∷ get_or a 1 0 ∷ get_or a 2 0 ∷ get_or a 3 0 ∷ get_or a 4 0 ∷ [] ≡ a
five_list [] e = absurd (omega arith)
five_list (v ∷ []) e = absurd (omega arith)
five_list (v ∷ w ∷ []) e = absurd (omega arith)
five_list (v ∷ w ∷ x ∷ []) e = absurd (omega arith)
five_list (v ∷ w ∷ x ∷ y ∷ []) e = absurd (omega arith)
five_list (v ∷ w ∷ x ∷ y ∷ z ∷ []) e = refl
five_list (v ∷ w ∷ x ∷ y ∷ z ∷ u ∷ us) e = absurd (omega arith)

-- Numbers stored one by one from a list's start on; five over five are then all that is there.
module _ (l a : List ℕ) {now : List ℕ} {i : ℕ} where
  pub stored_next : i < length a → now ≡ sets l 0 (take i a) → set now i (get_or a i 0) ≡ sets l 0 (take (i + 1) a)
  stored_next h e = ap (λ (k : ℕ). set now k (get_or a i 0)) (let q : i ≡ 0 + i = omega arith in q) ∙ copied l a now 0 i h e

  pub stored_five : length l ≡ 5 → length a ≡ 5 → 5 ≤ i → now ≡ sets l 0 (take i a) → now ≡ a
  stored_five p q h e =
      e
      ∙ ap (λ (vs : List ℕ). sets l 0 vs) (take_all i a (omega arith))
      ∙ sets-eq a l 0 (omega arith)
      ∙ ap (λ (r : List ℕ). a ++ r) (drop_of_length-le l {i = 0 + length a} (omega arith))
      ∙ append-nil a

-- An answer's five numbers are in the list once.
pub same_five : (a b : List ℕ) → length a ≡ 5 → length b ≡ 5 → five a ≡ five b → a ≡ b
same_five a b h k e =
    sym (five_list a h) ∙ ap (λ (x : Answer). x.number ∷ x.start ∷ x.stop ∷ x.detail ∷ x.size ∷ []) e ∙ five_list b k

-- ── The single call, of equal things ──────────────────────────────────────────────────────────────

pub reads_same : {setting : ℕ} {s s' : List ℕ} {n n' : ℕ} {a a' : Answer} {o o' : List ℕ} → s ≡ s' → n ≡ n' → a ≡ a' → o ≡ o' → Reads01 setting s n a o → Reads01 setting s' n' a' o'
reads_same {setting} {s} {s'} {n} {n'} {a} {a'} {o} {o'} p q r t x =
    subst (λ (l : List ℕ). Reads01 setting l n' a' o') p
    (subst (λ (m : ℕ). Reads01 setting s m a' o') q
    (subst (λ (b : Answer). Reads01 setting s n b o') r
    (subst (λ (l : List ℕ). Reads01 setting s n a l) t x)))

-- ── The turn that reads a file ────────────────────────────────────────────────────────────────────

-- Before file i of lists that fit: where it and its part begin, where its five numbers go, and that every file before it is read.
pub record Reached (setting : ℕ) (sources ends parts out₀ answers₀ out answers : List ℕ) (from part place i : ℕ) : Type 0 where
  pub fit : Fit ends (length sources) parts (length out₀) (length answers₀)
  pub more : i ≤ length ends
  pub from_is : from ≡ begins ends i
  pub part_is : part ≡ begins parts i
  pub place_is : place ≡ 5 * i
  pub same_room : length out ≡ length out₀
  pub same_count : length answers ≡ length answers₀
  pub read : (k : ℕ) → k < i → Reads01 setting (file ends sources k) (size_of parts k) (answer_of answers k) (file parts out k)

pub reached_first : {setting : ℕ} {sources ends parts out answers : List ℕ} → Fit ends (length sources) parts (length out) (length answers)
    → Reached setting sources ends parts out answers out answers 0 0 0 0
reached_first f =
    record {
      fit = f;
      more = omega arith;
      from_is = refl;
      part_is = refl;
      place_is = refl;
      same_room = refl;
      same_count = refl;
      read = λ k h. absurd (omega (arith, h));
    }

module _ {setting : ℕ} {sources ends parts out₀ answers₀ out answers : List ℕ} {from part place i : ℕ} (r : Reached setting sources ends parts out₀ answers₀ out answers from part place i) where
  -- the last turn leaves every file read
  pub reached_all : length ends ≤ i → Each setting sources ends parts out answers
  reached_all h = record { single = λ k b. r.read k (omega (arith, b, h)) }

  module _ (below : i < length ends) where
    pub source-forward : from ≤ stops ends i
    source-forward = omega (arith, r.from_is, r.fit.sources.forward i below)

    pub source-within : stops ends i ≤ length sources
    source-within = stops-within r.fit.sources i below

    pub has_part : i < length parts
    has_part = omega (arith, below, r.fit.parts)

    pub part-forward : part ≤ stops parts i
    part-forward = omega (arith, r.part_is, r.fit.output.forward i has_part)

    pub part-within : stops parts i ≤ length out
    part-within = omega (arith, r.same_room, stops-within r.fit.output i has_part)

    pub place-within : place + 5 ≤ length answers
    place-within = omega (arith, r.place_is, r.same_count, r.fit.answers, below)

    its_source : take (stops ends i - from) (drop from sources) ≡ file ends sources i
    its_source = lent from (stops ends i) sources ∙ ap (λ (n : ℕ). slice n (stops ends i) sources) r.from_is

    its_room : length (take (stops parts i - part) (drop part out)) ≡ size_of parts i
    its_room =
        ap length (lent part (stops parts i) out)
        ∙ length-slice part (stops parts i) out part-within
        ∙ ap (λ (n : ℕ). stops parts i - n) r.part_is

    -- what came back of the output and of the answers
    module _ (o a : List ℕ) (o-long : length o ≡ length (take (stops parts i - part) (drop part out))) (a-long : length a ≡ length (take (place + 5 - place) (drop place answers))) where
      abbrev out' : List ℕ
      out' = take part out ++ (o ++ drop (stops parts i - part) (drop part out))

      abbrev answers' : List ℕ
      answers' = take place answers ++ (a ++ drop (place + 5 - place) (drop place answers))

      before : (k : ℕ) → k < i → Reads01 setting (file ends sources k) (size_of parts k) (answer_of answers' k) (file parts out' k)
      before k h =
          let earlier = begins-before r.fit.output (suc k) i h (omega (arith, has_part)) in
          let p = part-before out o part (stops parts i) (omega (arith, part-forward, part-within)) (begins parts k) (stops parts k) (omega (arith, earlier, r.part_is)) in
          let q = part-before answers a place (place + 5) (omega (arith, place-within)) (5 * k) (5 * k + 5) (omega (arith, h, r.place_is)) in
          reads_same refl refl (ap five (sym q)) (sym p) (r.read k h)

      its_part : file parts out' i ≡ o
      its_part =
          ap (λ (n : ℕ). slice n (stops parts i) out') (sym r.part_is)
          ∙ part_itself out o part (stops parts i) (omega (arith, part-forward, part-within)) o-long part-within

      its_place : slice (5 * i) (5 * i + 5) answers' ≡ a
      its_place =
          ap (λ (n : ℕ). slice n (n + 5) answers') (sym r.place_is)
          ∙ part_itself answers a place (place + 5) (omega (arith, place-within)) a-long place-within

      module _ (single : Reads01 setting (take (stops ends i - from) (drop from sources)) (length (take (stops parts i - part) (drop part out))) (five a) o) where
        itself : Reads01 setting (file ends sources i) (size_of parts i) (answer_of answers' i) (file parts out' i)
        itself = reads_same its_source its_room (ap five (sym its_place)) (sym its_part) single

        pub reached_next : Reached setting sources ends parts out₀ answers₀ out' answers' (stops ends i) (stops parts i) (place + 5) (i + 1)
        reached_next =
            record {
              fit = r.fit;
              more = omega (arith, below);
              from_is = sym (next-begins ends i);
              part_is = sym (next-begins parts i);
              place_is = omega (arith, r.place_is);
              same_room = same_len_mid part (stops parts i - part) out o o-long ∙ r.same_room;
              same_count = same_len_mid place (place + 5 - place) answers a a-long ∙ r.same_count;
              read = below_more _ _ before itself;
            }
