-- The machine's runs are the readings: what a derivation of Values.antt says, the machine does.
-- Assumes nothing.
use mathlib.Core.Path.{◌≡◌, refl, sym, ap, subst, ◌∙◌}
use mathlib.Core.Bool.{Bool, true, false, cond, ◌||◌}
use mathlib.Core.List.{List, [], ◌∷◌, ◌++◌}
use Prim.Native.Nat.{ℕ, suc, ◌+◌, ◌≤◌}
use native.Mathlib.Omega.{arith}
use lib.Dec.{eqb}
use lib.ListN.{length}
use borrow.Author.Tests.{eqb-true, ne_eqb}
use Rattle.numerals.specs.Inner.{Says}
use Rattle.numerals.specs.Value.{is_digit}
use Rattle.grammar.specs.Tags.{NULL, BOOL, NUMBER}
use Rattle.grammar.specs.Numbers.{DEPTH, LARGE}
use Rattle.grammar.specs.Trees.{byte, Trees, none, tree, ◌⊕◌}
use Rattle.grammar.specs.Answer.{Verdict, refused}
use Rattle.grammar.proofs.ImageLaws.{row_assoc}
use Rattle.json_import.specs.Tokens.{At, ◌▹◌, is_blank, Closes, closes, Around, around, Literal, literal, String, string, Number}
use Rattle.json_import.specs.Values.{leaf, negative, field, array, object, can_begin, Named, named, Part, value, unsigned, elements, members, Outcome, done, broken, Reads, too_deep, a_false, a_null, a_true, a_string, positive, minus, minus_broken, deep_number, a_number, large, empty_array, an_array, array_broken, last_element, next_element, element_broken, elements_broken, empty_object, an_object, object_broken, last_member, next_member, member_broken, members_broken}
use Rattle.json_import.specs.Machine.{Frame, arr, obj, a_value, a_name, State, want, first, first_name, name, colon, after, chars, begun, start, begin, Stopped, signed, past, closed, spelled, step, run, goes}
use Rattle.json_import.specs.Machine as machine
use Rattle.json_import.proofs.Tests.{yes_true, no_false, digit_in}
use Rattle.json_import.proofs.Skips.{skip_want, skip_first, skip_first_name, skip_name, skip_colon, skip_after, stays_broken}
use Rattle.json_import.proofs.StringRuns.{place, run_chars}
use Rattle.json_import.proofs.NumberShapes.{from, number_whole, Leading, leading, number_leading}
use Rattle.json_import.proofs.NumberReach.{stops_over}
use Rattle.json_import.proofs.NumberRuns.{run_digits}

-- ── Bytes that begin a value ──────────────────────────────────────────────────────────────────────

-- What holds of `{ [ " - f n t` and of each digit holds of each byte that begins a value.
pub can_begin_lem : (P : ℕ → Type 0) → P 0x7B → P 0x5B → P 0x22 → P 0x2D → P 0x66 → P 0x6E → P 0x74 → ((b : ℕ) → is_digit b ≡ true → P b) → (b : ℕ) → can_begin b ≡ true → P b
can_begin_lem P p1 p2 p3 p4 p5 p6 p7 pd b = by (eqb b 0x7B) (eqb b 0x5B) (eqb b 0x22) (eqb b 0x2D) (eqb b 0x66) (eqb b 0x6E) (eqb b 0x74) refl refl refl refl refl refl refl
  where
    it : (c : ℕ) → eqb b c ≡ true → P c → P b
    it c e p = subst P (sym (eqb-true b c e)) p

    by : (c1 c2 c3 c4 c5 c6 c7 : Bool) → eqb b 0x7B ≡ c1 → eqb b 0x5B ≡ c2 → eqb b 0x22 ≡ c3 → eqb b 0x2D ≡ c4 → eqb b 0x66 ≡ c5 → eqb b 0x6E ≡ c6 → eqb b 0x74 ≡ c7
        → (c1 || (c2 || (c3 || (c4 || (c5 || (c6 || (c7 || is_digit b))))))) ≡ true → P b
    by true c2 c3 c4 c5 c6 c7 e1 e2 e3 e4 e5 e6 e7 q = it 0x7B e1 p1
    by false true c3 c4 c5 c6 c7 e1 e2 e3 e4 e5 e6 e7 q = it 0x5B e2 p2
    by false false true c4 c5 c6 c7 e1 e2 e3 e4 e5 e6 e7 q = it 0x22 e3 p3
    by false false false true c5 c6 c7 e1 e2 e3 e4 e5 e6 e7 q = it 0x2D e4 p4
    by false false false false true c6 c7 e1 e2 e3 e4 e5 e6 e7 q = it 0x66 e5 p5
    by false false false false false true c7 e1 e2 e3 e4 e5 e6 e7 q = it 0x6E e6 p6
    by false false false false false false true e1 e2 e3 e4 e5 e6 e7 q = it 0x74 e7 p7
    by false false false false false false false e1 e2 e3 e4 e5 e6 e7 q = pd b q

digit_other : (b c : ℕ) → is_digit b ≡ true → (0x30 ≤ c → c ≤ 0x39 → ⊥) → eqb b c ≡ false
digit_other b c d n = let h = digit_in b d in ne_eqb b c (λ e. n (omega (arith, h.0, e)) (omega (arith, h.1, e)))

pub begins_unblank : (b : ℕ) → can_begin b ≡ true → is_blank b ≡ false
begins_unblank = can_begin_lem (λ b. is_blank b ≡ false) refl refl refl refl refl refl refl by
  where
    by : (b : ℕ) → is_digit b ≡ true → is_blank b ≡ false
    by b d =
        rw (digit_other b 0x20 d (λ p q. omega (arith, p)), digit_other b 0x09 d (λ p q. omega (arith, p)), digit_other b 0x0A d (λ p q. omega (arith, p)), digit_other b 0x0D d (λ p q. omega (arith, p))) refl

pub begins-unclosed : (b : ℕ) → can_begin b ≡ true → eqb b 0x5D ≡ false
begins-unclosed = can_begin_lem (λ b. eqb b 0x5D ≡ false) refl refl refl refl refl refl refl (λ b d. digit_other b 0x5D d (λ p q. omega (arith, q)))

pub digit-begins : (b : ℕ) → is_digit b ≡ true → can_begin b ≡ true
digit-begins b d =
    rw (digit_other b 0x7B d (λ p q. omega (arith, q)), digit_other b 0x5B d (λ p q. omega (arith, q)), digit_other b 0x22 d (λ p q. omega (arith, p)), digit_other b 0x2D d (λ p q. omega (arith, p)), digit_other b 0x66 d (λ p q. omega (arith, q)), digit_other b 0x6E d (λ p q. omega (arith, q)), digit_other b 0x74 d (λ p q. omega (arith, q))) d

-- A value begins at a place.
pub data Starts : At → Type 0 where
  starts : {i b : ℕ} {s : List ℕ} → can_begin b ≡ true → Starts (i ▹ b ∷ s)

-- A string begins at a place.
pub data Quotes : At → Type 0 where
  quotes : {i : ℕ} {s : List ℕ} → Quotes (i ▹ 0x22 ∷ s)

string_quotes : {h g : At} {w : List ℕ} → String h w g → Quotes h
string_quotes (string c) = quotes

string_starts : {h g : At} {w : List ℕ} → String h w g → Starts h
string_starts (string c) = starts refl

named_quotes : {h v : At} {w : List ℕ} {a e : ℕ} → Named h w a e v → Quotes h
named_quotes (named s c) = string_quotes s

leading_starts : {w : List ℕ} (i : ℕ) (r : List ℕ) → Leading w → Starts (i ▹ w ++ r)
leading_starts i r (leading {b} d) = starts (digit-begins b d)

literal_starts : {h g : At} {w : List ℕ} → Literal h w g → Starts h
literal_starts (literal {i} {w} {r} n f) = leading_starts i r (number_leading n)

abbrev Begun : Part → At → Type 0
Begun value h = Starts h
Begun unsigned h = Starts h
Begun elements h = Starts h
Begun members h = Quotes h

module _ {Deep : ℕ → Type 0} {Large : List ℕ → Type 0} where
  pub part-begun : {p : Part} {k : ℕ} {h : At} {o : Outcome} → Reads Deep Large p k h o → Begun p h
  part-begun (too_deep d c) = starts c
  part-begun (a_false n) = starts refl
  part-begun (a_null n) = starts refl
  part-begun (a_true n) = starts refl
  part-begun (a_string n s) = string_starts s
  part-begun (positive r) = part-begun r
  part-begun (minus n r) = starts refl
  part-begun (minus_broken n r) = starts refl
  part-begun (deep_number {b = b} d c) = starts (digit-begins b c)
  part-begun (a_number n l m) = literal_starts l
  part-begun (large n l m) = literal_starts l
  part-begun (empty_array n c) = starts refl
  part-begun (an_array n w r) = starts refl
  part-begun (array_broken n w r) = starts refl
  part-begun (last_element r c) = part-begun r
  part-begun (next_element r c q) = part-begun r
  part-begun (element_broken r) = part-begun r
  part-begun (elements_broken r c q) = part-begun r
  part-begun (empty_object n c) = starts refl
  part-begun (an_object n w r) = starts refl
  part-begun (object_broken n w r) = starts refl
  part-begun (last_member n r c) = named_quotes n
  part-begun (next_member n r c q) = named_quotes n
  part-begun (member_broken n r) = named_quotes n
  part-begun (members_broken n r c q) = named_quotes n

-- ── The runs ──────────────────────────────────────────────────────────────────────────────────────

module _ (Deep : ℕ → Type 0) (Large : List ℕ → Type 0) (deep : ℕ → Bool) (vast : List ℕ → Bool) (says-deep : (k : ℕ) → Says (deep k) (Deep k))
    (says-vast : (w : List ℕ) → Says (vast w) (Large w)) where
  -- A number behind its sign, if it has one.
  abbrev pub sgn : Bool → Trees → Trees
  sgn false t = t
  sgn true t = negative t

  signed_is : (neg : Bool) (w : List ℕ) → signed neg w ≡ sgn neg (leaf NUMBER w)
  unfolding signed
  signed_is false w = refl
  signed_is true w = refl

  -- A run comes to what an outcome says: on with the trees, or broken off.
  abbrev pub Comes : (Trees → State) → Outcome → Verdict → Type 0
  Comes f (done t g) v = v ≡ goes deep vast (f t) g
  Comes f (broken n a e) v = v ≡ refused n a e 0

  pub come : (f : Trees → State) (o : Outcome) {v v' : Verdict} → v' ≡ v → Comes f o v → Comes f o v'
  come f (done t g) e c = e ∙ c
  come f (broken n a e') e c = e ∙ c

  -- A state in which a number may begin, within k open values.
  abbrev pub Enters : State → ℕ → Bool → List Frame → Type 0
  Enters st k neg fs =
      (i b : ℕ) → is_digit b ≡ true → step deep vast st i b ≡ cond (deep k) (machine.broken DEPTH i i) (machine.digits (begun b) neg i (b ∷ []) fs)

  abbrev pub Claim : Part → ℕ → At → Outcome → Type 0
  Claim value k h o = (fs : List Frame) → length fs ≡ k → Comes (λ t. after t fs) o (goes deep vast (want fs) h)
  Claim unsigned k h o = (st : State) (neg : Bool) (fs : List Frame) → Enters st k neg fs → Comes (λ t. after (sgn neg t) fs) o (goes deep vast st h)
  Claim elements k h o = (ts : Trees) (fs : List Frame) → length fs + 1 ≡ k → Comes (λ us. after (array (ts ⊕ us)) fs) o (goes deep vast (want (arr ts ∷ fs)) h)
  Claim members k h o = (ts : Trees) (fs : List Frame) → length fs + 1 ≡ k → Comes (λ us. after (object (ts ⊕ us)) fs) o (goes deep vast (name ts fs) h)

  -- The first byte of a value.
  pub want_step : (fs : List Frame) (i b : ℕ) → can_begin b ≡ true → step deep vast (want fs) i b ≡ cond (deep (length fs)) (machine.broken DEPTH i i) (start fs i b)
  unfolding step begin
  want_step fs i b c = rw (begins_unblank b c, c) refl

  pub deep_at : (fs : List Frame) (k : ℕ) → length fs ≡ k → deep (length fs) ≡ deep k
  deep_at fs k e = ap (λ (n : ℕ). deep n) e

  pub want_start : (fs : List Frame) (i b : ℕ) {k : ℕ} → can_begin b ≡ true → length fs ≡ k → (Deep k → ⊥) → step deep vast (want fs) i b ≡ start fs i b
  want_start fs i b {k} c e n =
      want_step fs i b c ∙ ap (λ (x : Bool). cond x (machine.broken DEPTH i i) (start fs i b)) (deep_at fs k e ∙ no_false (deep k) (says-deep k) n)

  pub want_enters : (fs : List Frame) (k : ℕ) → length fs ≡ k → Enters (want fs) k false fs
  unfolding start
  want_enters fs k e i b d =
      want_step fs i b (digit-begins b d)
      ∙ ap (λ (x : Bool). cond x (machine.broken DEPTH i i) (start fs i b)) (deep_at fs k e)
      ∙ ap (λ (x : State). cond (deep k) (machine.broken DEPTH i i) x) (rw d refl)

  pub minus_enters : (fs : List Frame) (k : ℕ) → length fs ≡ k → Enters (machine.minus fs) (k + 1) true fs
  unfolding step
  minus_enters fs k e i b d = rw (d, e) refl

  -- From a value's first byte on.
  pub from_start : (fs : List Frame) (i b : ℕ) (s : List ℕ) {k : ℕ} → can_begin b ≡ true → length fs ≡ k → (Deep k → ⊥)
      → run deep vast (want fs) i (b ∷ s) ≡ run deep vast (start fs i b) (i + 1) s
  unfolding run
  from_start fs i b s c e n = ap (λ (x : State). run deep vast x (i + 1) s) (want_start fs i b c e n)

  -- Literals.
  pub stopped : {w : List ℕ} (r : List ℕ) → Number w → ((b : ℕ) (v : List ℕ) → Rattle.strings.specs.Literals.Begins b r → Number (w ++ (b ∷ v)) → ⊥) → Stopped (from w) r
  stopped [] n f = tt
  stopped (b ∷ r) n f = stops_over n b (λ v m. f b v refl m)

  lead_runs : (b : ℕ) (v r : List ℕ) (i : ℕ) → is_digit b ≡ true → machine.whole (from (b ∷ v)) ≡ true → Stopped (from (b ∷ v)) r → (st : State) (k : ℕ) (neg : Bool) (fs : List Frame)
      → Enters st k neg fs → deep k ≡ false
      → run deep vast st i (b ∷ (v ++ r)) ≡ cond (vast (b ∷ v)) (refused LARGE i (i + suc (length v)) 0) (run deep vast (after (signed neg (b ∷ v)) fs) (i + suc (length v)) r)
  unfolding run from
  lead_runs b v r i d p q st k neg fs en sh =
      let at : i + 1 + length v ≡ i + suc (length v) = omega arith in
      ap (λ (x : State). run deep vast x (i + 1) (v ++ r)) (en i b d ∙ ap (λ (x : Bool). cond x (machine.broken DEPTH i i) (machine.digits (begun b) neg i (b ∷ []) fs)) sh)
      ∙ run_digits deep vast neg i fs (begun b) (b ∷ []) v r (b ∷ v) (i + 1) refl p q
      ∙ ap (λ (n : ℕ). cond (vast (b ∷ v)) (refused LARGE i n 0) (run deep vast (after (signed neg (b ∷ v)) fs) n r)) at

  pub literal_runs : {h g : At} {w : List ℕ} → Literal h w g → (st : State) (k : ℕ) (neg : Bool) (fs : List Frame) → Enters st k neg fs → deep k ≡ false
      → goes deep vast st h ≡ cond (vast w) (refused LARGE (place h) (place g) 0) (goes deep vast (after (signed neg w) fs) g)
  literal_runs (literal {i} {w} {r} n f) st k neg fs en sh = by (number_leading n) (number_whole n) (stopped r n f)
    where
      by : {w : List ℕ} → Leading w → machine.whole (from w) ≡ true → Stopped (from w) r
          → run deep vast st i (w ++ r) ≡ cond (vast w) (refused LARGE i (i + length w) 0) (run deep vast (after (signed neg w) fs) (i + length w) r)
      by (leading {b} {v} d) p q = lead_runs b v r i d p q st k neg fs en sh

  -- Brackets, commas and names.
  pub first_want : {h : At} (fs : List Frame) → Starts h → goes deep vast (first fs) h ≡ goes deep vast (want (arr none ∷ fs)) h
  unfolding run step
  first_want fs (starts {i} {b} {s} c) = rw (begins_unblank b c, begins-unclosed b c) refl

  first_name_name : {h : At} (fs : List Frame) → Quotes h → goes deep vast (first_name fs) h ≡ goes deep vast (name none fs) h
  unfolding run step
  first_name_name fs quotes = refl

  pub closes_first : {h g : At} (fs : List Frame) → Closes 0x5D h g → goes deep vast (first fs) h ≡ goes deep vast (after (array none) fs) g
  unfolding run step
  closes_first fs (closes w) = skip_first deep vast fs w

  pub closes_first_name : {h g : At} (fs : List Frame) → Closes 0x7D h g → goes deep vast (first_name fs) h ≡ goes deep vast (after (object none) fs) g
  unfolding run step
  closes_first_name fs (closes w) = skip_first_name deep vast fs w

  pub closes_array : {h g : At} (t ts : Trees) (fs : List Frame) → Closes 0x5D h g → goes deep vast (after t (arr ts ∷ fs)) h ≡ goes deep vast (after (array (ts ⊕ t)) fs) g
  unfolding run step past
  closes_array t ts fs (closes w) = skip_after deep vast t (arr ts ∷ fs) w

  pub closes_object : {h g : At} (t ts : Trees) (w : List ℕ) (a e : ℕ) (fs : List Frame) → Closes 0x7D h g
      → goes deep vast (after t (obj ts w a e ∷ fs)) h ≡ goes deep vast (after (object (ts ⊕ field w a e t)) fs) g
  unfolding run step past
  closes_object t ts w a e fs (closes x) = skip_after deep vast t (obj ts w a e ∷ fs) x

  pub comma_array : {h g : At} (t ts : Trees) (fs : List Frame) → Around 0x2C h g → goes deep vast (after t (arr ts ∷ fs)) h ≡ goes deep vast (want (arr (ts ⊕ t) ∷ fs)) g
  unfolding run step past
  comma_array t ts fs (around (closes w) v) = skip_after deep vast t (arr ts ∷ fs) w ∙ skip_want deep vast (arr (ts ⊕ t) ∷ fs) v

  pub comma_object : {h g : At} (t ts : Trees) (w : List ℕ) (a e : ℕ) (fs : List Frame) → Around 0x2C h g
      → goes deep vast (after t (obj ts w a e ∷ fs)) h ≡ goes deep vast (name (ts ⊕ field w a e t) fs) g
  unfolding run step past
  comma_object t ts w a e fs (around (closes x) v) = skip_after deep vast t (obj ts w a e ∷ fs) x ∙ skip_name deep vast (ts ⊕ field w a e t) fs v

  pub colon_runs : {h g : At} (ts : Trees) (w : List ℕ) (a e : ℕ) (fs : List Frame) → Around 0x3A h g
      → goes deep vast (colon ts w a e fs) h ≡ goes deep vast (want (obj ts w a e ∷ fs)) g
  unfolding run step
  colon_runs ts w a e fs (around (closes x) v) = skip_colon deep vast ts w a e fs x ∙ skip_want deep vast (obj ts w a e ∷ fs) v

  pub name_string : {a e : ℕ} {s r w : List ℕ} (ts : Trees) (fs : List Frame) → String (a ▹ s) w (e ▹ r)
      → goes deep vast (name ts fs) (a ▹ s) ≡ goes deep vast (colon ts w a e fs) (e ▹ r)
  unfolding run step closed
  name_string {a} ts fs (string c) = run_chars deep vast (a_name ts a) fs c []

  pub named_runs : {h v : At} {w : List ℕ} {a e : ℕ} (ts : Trees) (fs : List Frame) → Named h w a e v → goes deep vast (name ts fs) h ≡ goes deep vast (want (obj ts w a e ∷ fs)) v
  named_runs ts fs (named {a} {e} {s} {r} {w} x c) = name_string ts fs x ∙ colon_runs ts w a e fs c

  pub value_string : {h g : At} {w : List ℕ} (fs : List Frame) {k : ℕ} → length fs ≡ k → (Deep k → ⊥) → String h w g → goes deep vast (want fs) h ≡ goes deep vast (after (leaf 5 w) fs) g
  unfolding start closed
  value_string fs e n (string {i} {s} {w} c) = from_start fs i 0x22 s refl e n ∙ run_chars deep vast a_value fs c []

  -- Words.
  false_runs : (i : ℕ) (s : List ℕ) (fs : List Frame)
      → run deep vast (start fs i 0x66) (i + 1) (0x61 ∷ 0x6C ∷ 0x73 ∷ 0x65 ∷ s) ≡ run deep vast (after (tree BOOL (byte 0 ∷ []) none) fs) (i + 5) s
  unfolding run step start spelled
  false_runs i s fs = let at : i + 1 + 1 + 1 + 1 + 1 ≡ i + 5 = omega arith in ap (λ (n : ℕ). run deep vast (after (tree BOOL (byte 0 ∷ []) none) fs) n s) at

  null_runs : (i : ℕ) (s : List ℕ) (fs : List Frame)
      → run deep vast (start fs i 0x6E) (i + 1) (0x75 ∷ 0x6C ∷ 0x6C ∷ s) ≡ run deep vast (after (tree NULL [] none) fs) (i + 4) s
  unfolding run step start spelled
  null_runs i s fs = let at : i + 1 + 1 + 1 + 1 ≡ i + 4 = omega arith in ap (λ (n : ℕ). run deep vast (after (tree NULL [] none) fs) n s) at

  true_runs : (i : ℕ) (s : List ℕ) (fs : List Frame)
      → run deep vast (start fs i 0x74) (i + 1) (0x72 ∷ 0x75 ∷ 0x65 ∷ s) ≡ run deep vast (after (tree BOOL (byte 1 ∷ []) none) fs) (i + 4) s
  unfolding run step start spelled
  true_runs i s fs = let at : i + 1 + 1 + 1 + 1 ≡ i + 4 = omega arith in ap (λ (n : ℕ). run deep vast (after (tree BOOL (byte 1 ∷ []) none) fs) n s) at

  -- EVERY READING IS A RUN.
  pub reads_run : {p : Part} {k : ℕ} {h : At} {o : Outcome} → Reads Deep Large p k h o → Claim p k h o
  unfolding run start ◌⊕◌
  reads_run (too_deep {k} {i} {b} {s} d c) = λ fs e.
      ap (λ (x : State). run deep vast x (i + 1) s)
      (want_step fs i b c ∙ ap (λ (x : Bool). cond x (machine.broken DEPTH i i) (start fs i b)) (deep_at fs k e ∙ yes_true (deep k) (says-deep k) d))
      ∙ stays_broken deep vast DEPTH i i (i + 1) s
  reads_run (a_false {k} {i} {s} n) = λ fs e. from_start fs i 0x66 (0x61 ∷ 0x6C ∷ 0x73 ∷ 0x65 ∷ s) refl e n ∙ false_runs i s fs
  reads_run (a_null {k} {i} {s} n) = λ fs e. from_start fs i 0x6E (0x75 ∷ 0x6C ∷ 0x6C ∷ s) refl e n ∙ null_runs i s fs
  reads_run (a_true {k} {i} {s} n) = λ fs e. from_start fs i 0x74 (0x72 ∷ 0x75 ∷ 0x65 ∷ s) refl e n ∙ true_runs i s fs
  reads_run (a_string n s) = λ fs e. value_string fs e n s
  reads_run (positive {k} {h} {o} r) = λ fs e. reads_run r (want fs) false fs (want_enters fs k e)
  reads_run (minus {k} {i} {s} n r) = λ fs e. from_start fs i 0x2D s refl e n ∙ reads_run r (machine.minus fs) true fs (minus_enters fs k e)
  reads_run (minus_broken {k} {i} {n = m} {s = s} n r) = λ fs e. from_start fs i 0x2D s refl e n ∙ reads_run r (machine.minus fs) true fs (minus_enters fs k e)
  reads_run (deep_number {k} {i} {b} {s} d c) = λ st neg fs en.
      ap (λ (x : State). run deep vast x (i + 1) s)
      (en i b c ∙ ap (λ (x : Bool). cond x (machine.broken DEPTH i i) (machine.digits (begun b) neg i (b ∷ []) fs)) (yes_true (deep k) (says-deep k) d))
      ∙ stays_broken deep vast DEPTH i i (i + 1) s
  reads_run (a_number {k} {h} {g} {w} n l m) = λ st neg fs en.
      literal_runs l st k neg fs en (no_false (deep k) (says-deep k) n)
      ∙ ap (λ (x : Bool). cond x (refused LARGE (place h) (place g) 0) (goes deep vast (after (signed neg w) fs) g)) (no_false (vast w) (says-vast w) m)
      ∙ ap (λ (x : Trees). goes deep vast (after x fs) g) (signed_is neg w)
  reads_run (large {k} {i} {j} {s} {r} {w} n l m) = λ st neg fs en.
      literal_runs l st k neg fs en (no_false (deep k) (says-deep k) n)
      ∙ ap (λ (x : Bool). cond x (refused LARGE i j 0) (run deep vast (after (signed neg w) fs) j r)) (yes_true (vast w) (says-vast w) m)
  reads_run (empty_array {k} {i} {s} n c) = λ fs e. from_start fs i 0x5B s refl e n ∙ closes_first fs c
  reads_run (an_array {k} {i} {s} {h} {g} {ts} n w r) = λ fs e.
      from_start fs i 0x5B s refl e n ∙ skip_first deep vast fs w ∙ first_want fs (part-begun r) ∙ reads_run r none fs (omega (arith, e))
  reads_run (array_broken {k} {i} {s = s} {h = h} n w r) = λ fs e.
      from_start fs i 0x5B s refl e n ∙ skip_first deep vast fs w ∙ first_want fs (part-begun r) ∙ reads_run r none fs (omega (arith, e))
  reads_run (last_element {k} {h} {m} {g} {t} r c) = λ ts fs e. reads_run r (arr ts ∷ fs) (omega (arith, e)) ∙ closes_array t ts fs c
  reads_run (next_element {k} {h} {m} {n} {g} {t} {ts = us} r c q) = λ ts fs e.
      reads_run r (arr ts ∷ fs) (omega (arith, e)) ∙ comma_array t ts fs c ∙ reads_run q (ts ⊕ t) fs e
      ∙ ap (λ (x : Trees). goes deep vast (after (array x) fs) g) (row_assoc ts t us)
  reads_run (element_broken r) = λ ts fs e. reads_run r (arr ts ∷ fs) (omega (arith, e))
  reads_run (elements_broken {t = t} r c q) = λ ts fs e. reads_run r (arr ts ∷ fs) (omega (arith, e)) ∙ comma_array t ts fs c ∙ reads_run q (ts ⊕ t) fs e
  reads_run (empty_object {k} {i} {s} n c) = λ fs e. from_start fs i 0x7B s refl e n ∙ closes_first_name fs c
  reads_run (an_object {k} {i} {s} {h} {g} {ts} n w r) = λ fs e.
      from_start fs i 0x7B s refl e n ∙ skip_first_name deep vast fs w ∙ first_name_name fs (part-begun r) ∙ reads_run r none fs (omega (arith, e))
  reads_run (object_broken {k} {i} {s = s} n w r) = λ fs e.
      from_start fs i 0x7B s refl e n ∙ skip_first_name deep vast fs w ∙ first_name_name fs (part-begun r) ∙ reads_run r none fs (omega (arith, e))
  reads_run (last_member {k} {a} {e = b} {w = w} {t = t} n r c) = λ ts fs e.
      named_runs ts fs n ∙ reads_run r (obj ts w a b ∷ fs) (omega (arith, e)) ∙ closes_object t ts w a b fs c
  reads_run (next_member {k} {a} {e = b} {g = g} {w = w} {t = t} {ts = us} n r c q) = λ ts fs e.
      named_runs ts fs n ∙ reads_run r (obj ts w a b ∷ fs) (omega (arith, e)) ∙ comma_object t ts w a b fs c ∙ reads_run q (ts ⊕ field w a b t) fs e
      ∙ ap (λ (x : Trees). goes deep vast (after (object x) fs) g) (row_assoc ts (field w a b t) us)
  reads_run (member_broken {a = a} {e = b} {w = w} n r) = λ ts fs e. named_runs ts fs n ∙ reads_run r (obj ts w a b ∷ fs) (omega (arith, e))
  reads_run (members_broken {a = a} {e = b} {w = w} {t = t} n r c q) = λ ts fs e.
      named_runs ts fs n ∙ reads_run r (obj ts w a b ∷ fs) (omega (arith, e)) ∙ comma_object t ts w a b fs c ∙ reads_run q (ts ⊕ field w a b t) fs e
