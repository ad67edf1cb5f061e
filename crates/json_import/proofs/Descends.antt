-- Every place has a reading, or the machine sticks there: so the machine's runs are no more than the readings.
-- Assumes nothing.
use mathlib.Core.Path.{◌≡◌, refl, sym, ap, subst, ◌∙◌}
use mathlib.Core.Bool.{Bool, true, false, cond}
use mathlib.Core.List.{List, [], ◌∷◌, ◌++◌}
use Prim.Native.Nat.{ℕ, zero, suc, ◌+◌, ◌*◌, ◌≤◌, ◌<◌}
use native.Mathlib.Omega.{arith}
use native.Mathlib.Decide.{ℕ_discrete}
use lib.Dec.{eqb}
use lib.ListN.{length, length-append}
use borrow.Author.Tests.{ne_eqb}
use Rattle.numerals.specs.Inner.{Says}
use Rattle.numerals.specs.Value.{is_digit}
use Rattle.strings.specs.Literals.{Four, four, Low, low}
use Rattle.grammar.specs.Trees.{Trees, none, ◌⊕◌}
use Rattle.grammar.specs.Answer.{refused}
use Rattle.json_import.specs.Tokens.{At, ◌▹◌, is_blank, Ws, Closes, closes, Around, around, Literal, literal, Chars, end, plain, letter, unit, pair, String, string}
use Rattle.json_import.specs.Values.{field, can_begin, Named, named, Part, value, unsigned, elements, members, Outcome, done, broken, Reads, too_deep, a_false, a_null, a_true, a_string, positive, minus, minus_broken, deep_number, a_number, large, empty_array, an_array, array_broken, last_element, next_element, element_broken, elements_broken, empty_object, an_object, object_broken, last_member, next_member, member_broken, members_broken}
use Rattle.json_import.specs.Json.{NOT_JSON}
use Rattle.json_import.specs.Machine.{Frame, arr, obj, a_value, a_name, State, want, first, first_name, name, colon, after, stuck, begun, start, begin, past, ended, step, finish, run, goes}
use Rattle.json_import.specs.Machine as machine
use Rattle.json_import.proofs.Tests.{no_false}
use Rattle.json_import.proofs.Skips.{skip_first, skip_first_name, skip_colon, skip_after, stays_stuck}
use Rattle.json_import.proofs.Escapes.{ReadChars, to_quote, read_chars}
use Rattle.json_import.proofs.NumberShapes.{Leading, leading, number_leading}
use Rattle.json_import.proofs.Tokens.{size, Unblank, Skipped, read_ws, read_ws_at, ReadWord, there, read_word, ReadLiteral, a_literal, read_literal}
use Rattle.json_import.proofs.Runs.{can_begin_lem, Enters, want_enters, minus_enters, from_start, comma_array, comma_object, name_string, named_runs, reads_run}

-- ── What is read is shorter ───────────────────────────────────────────────────────────────────────

ws_shorter : {h g : At} → Ws h g → size g ≤ size h
ws_shorter Ws.none = omega arith
ws_shorter (Ws.more p w) = omega (arith, ws_shorter w)

closes_shorter : {c : ℕ} {h g : At} → Closes c h g → size g < size h
closes_shorter (closes w) = omega (arith, ws_shorter w)

around_shorter : {c : ℕ} {h g : At} → Around c h g → size g < size h
around_shorter (around c w) = omega (arith, closes_shorter c, ws_shorter w)

four_shorter : {s r : List ℕ} {n : ℕ} → Four s n r → length r < length s
four_shorter (four p q m l) = omega arith

low_shorter : {s r : List ℕ} {n : ℕ} → Low s n r → length r < length s
low_shorter (low f h) = omega (arith, four_shorter f)

chars_shorter : {h g : At} {t : List ℕ} → Chars h t g → size g < size h
chars_shorter end = omega arith
chars_shorter (plain p c) = omega (arith, chars_shorter c)
chars_shorter (letter p c) = omega (arith, chars_shorter c)
chars_shorter (unit f s c) = omega (arith, chars_shorter c, four_shorter f)
chars_shorter (pair f h l c) = omega (arith, chars_shorter c, four_shorter f, low_shorter l)

string_shorter : {h g : At} {w : List ℕ} → String h w g → size g < size h
string_shorter (string c) = omega (arith, chars_shorter c)

leading_shorter : {w : List ℕ} (r : List ℕ) → Leading w → length r < length (w ++ r)
leading_shorter r (leading {b} {v} d) = omega (arith, length-append v r)

literal_shorter : {h g : At} {w : List ℕ} → Literal h w g → size g < size h
literal_shorter (literal {i} {w} {r} n f) = leading_shorter r (number_leading n)

named_shorter : {h v : At} {w : List ℕ} {a e : ℕ} → Named h w a e v → size v < size h
named_shorter (named s c) = omega (arith, string_shorter s, around_shorter c)

abbrev Shorter : Outcome → At → Type 0
Shorter (done t g) h = size g < size h
Shorter (broken n a e) h = Unit {0}

module _ {Deep : ℕ → Type 0} {Large : List ℕ → Type 0} where
  reads_shorter : {p : Part} {k : ℕ} {h : At} {o : Outcome} → Reads Deep Large p k h o → Shorter o h
  reads_shorter (too_deep d c) = tt
  reads_shorter (a_false n) = omega arith
  reads_shorter (a_null n) = omega arith
  reads_shorter (a_true n) = omega arith
  reads_shorter (a_string n s) = string_shorter s
  reads_shorter (positive r) = reads_shorter r
  reads_shorter (minus n r) = let x = reads_shorter r in omega (arith, x)
  reads_shorter (minus_broken n r) = tt
  reads_shorter (deep_number d c) = tt
  reads_shorter (a_number n l m) = literal_shorter l
  reads_shorter (large n l m) = tt
  reads_shorter (empty_array n c) = omega (arith, closes_shorter c)
  reads_shorter (an_array n w r) = let x = reads_shorter r in omega (arith, ws_shorter w, x)
  reads_shorter (array_broken n w r) = tt
  reads_shorter (last_element r c) = let x = reads_shorter r in omega (arith, x, closes_shorter c)
  reads_shorter (next_element r c q) = let x = reads_shorter r in let y = reads_shorter q in omega (arith, x, y, around_shorter c)
  reads_shorter (element_broken r) = tt
  reads_shorter (elements_broken r c q) = tt
  reads_shorter (empty_object n c) = omega (arith, closes_shorter c)
  reads_shorter (an_object n w r) = let x = reads_shorter r in omega (arith, ws_shorter w, x)
  reads_shorter (object_broken n w r) = tt
  reads_shorter (last_member n r c) = let x = reads_shorter r in omega (arith, x, closes_shorter c, named_shorter n)
  reads_shorter (next_member n r c q) = let x = reads_shorter r in let y = reads_shorter q in omega (arith, x, y, around_shorter c, named_shorter n)
  reads_shorter (member_broken n r) = tt
  reads_shorter (members_broken n r c q) = tt

-- ── Bytes at which the machine sticks ─────────────────────────────────────────────────────────────

module _ (deep : ℕ → Bool) (vast : List ℕ → Bool) where
  pub stuck_there : (st : State) (i b : ℕ) (s : List ℕ) → step deep vast st i b ≡ stuck i → run deep vast st i (b ∷ s) ≡ refused NOT_JSON i i 0
  unfolding run
  stuck_there st i b s e = ap (λ (x : State). run deep vast x (i + 1) s) e ∙ stays_stuck deep vast i (i + 1) s

  pub no_value : (fs : List Frame) (i b : ℕ) → is_blank b ≡ false → can_begin b ≡ false → step deep vast (want fs) i b ≡ stuck i
  unfolding step begin
  no_value fs i b p q = rw (p, q) refl

  no_number : (fs : List Frame) (i b : ℕ) → is_digit b ≡ false → step deep vast (machine.minus fs) i b ≡ stuck i
  unfolding step
  no_number fs i b p = rw p refl

  pub no_name : (ts : Trees) (fs : List Frame) (i b : ℕ) → is_blank b ≡ false → eqb b 0x22 ≡ false → step deep vast (name ts fs) i b ≡ stuck i
  unfolding step
  no_name ts fs i b p q = rw (p, q) refl

  pub no_colon : (ts : Trees) (w : List ℕ) (a e : ℕ) (fs : List Frame) (i b : ℕ) → is_blank b ≡ false → eqb b 0x3A ≡ false → step deep vast (colon ts w a e fs) i b ≡ stuck i
  unfolding step
  no_colon ts w a e fs i b p q = rw (p, q) refl

  pub no_element : (t ts : Trees) (fs : List Frame) (i b : ℕ) → is_blank b ≡ false → eqb b 0x2C ≡ false → eqb b 0x5D ≡ false → step deep vast (after t (arr ts ∷ fs)) i b ≡ stuck i
  unfolding step past
  no_element t ts fs i b p q r = rw (p, q, r) refl

  pub no_member : (t ts : Trees) (w : List ℕ) (a e : ℕ) (fs : List Frame) (i b : ℕ) → is_blank b ≡ false → eqb b 0x2C ≡ false → eqb b 0x7D ≡ false
      → step deep vast (after t (obj ts w a e ∷ fs)) i b ≡ stuck i
  unfolding step past
  no_member t ts w a e fs i b p q r = rw (p, q, r) refl

  -- Where no bracket closes, an array's first element is wanted, and an object's first name.
  first_wants : (fs : List Frame) (i b : ℕ) (s : List ℕ) → is_blank b ≡ false → eqb b 0x5D ≡ false → run deep vast (first fs) i (b ∷ s) ≡ run deep vast (want (arr none ∷ fs)) i (b ∷ s)
  unfolding run step
  first_wants fs i b s p q = rw (p, q) refl

  first_names : (fs : List Frame) (i b : ℕ) (s : List ℕ) → is_blank b ≡ false → eqb b 0x7D ≡ false → run deep vast (first_name fs) i (b ∷ s) ≡ run deep vast (name none fs) i (b ∷ s)
  unfolding run step
  first_names fs i b s p q = rw (p, q) refl

-- ── The descent ───────────────────────────────────────────────────────────────────────────────────

-- The parts that nest.
data Nest : Type 0 where
  a_val els mems : Nest

abbrev part : Nest → Part
part a_val = value
part els = elements
part mems = members

abbrev rank : Nest → ℕ
rank a_val = 0
rank els = 1
rank mems = 1

module _ (Deep : ℕ → Type 0) (Large : List ℕ → Type 0) (deep : ℕ → Bool) (vast : List ℕ → Bool) (says-deep : (k : ℕ) → Says (deep k) (Deep k))
    (says-vast : (w : List ℕ) → Says (vast w) (Large w)) where
  abbrev pub Sticks : Part → ℕ → At → ℕ → Type 0
  Sticks value k h n = (fs : List Frame) → length fs ≡ k → goes deep vast (want fs) h ≡ refused NOT_JSON n n 0
  Sticks unsigned k h n = (st : State) (neg : Bool) (fs : List Frame) → Enters Deep Large deep vast says-deep says-vast st k neg fs → goes deep vast st h ≡ refused NOT_JSON n n 0
  Sticks elements k h n = (ts : Trees) (fs : List Frame) → length fs + 1 ≡ k → goes deep vast (want (arr ts ∷ fs)) h ≡ refused NOT_JSON n n 0
  Sticks members k h n = (ts : Trees) (fs : List Frame) → length fs + 1 ≡ k → goes deep vast (name ts fs) h ≡ refused NOT_JSON n n 0

  pub data ReadPart (p : Part) (k : ℕ) (h : At) : Type 0 where
    a_part : {o : Outcome} → Reads Deep Large p k h o → ReadPart p k h
    sticks : (n : ℕ) → Sticks p k h n → ReadPart p k h

  deep_or_not : (k : ℕ) → Dec (Deep k)
  deep_or_not k = by (deep k) (says-deep k)
    where
      by : (c : Bool) → Says c (Deep k) → Dec (Deep k)
      by true a = yes a
      by false a = no a

  vast_or_not : (w : List ℕ) → Dec (Large w)
  vast_or_not w = by (vast w) (says-vast w)
    where
      by : (c : Bool) → Says c (Large w) → Dec (Large w)
      by true a = yes a
      by false a = no a

  -- Numbers.
  read_unsigned : (k i b : ℕ) (s : List ℕ) → is_digit b ≡ true → ReadPart unsigned k (i ▹ b ∷ s)
  unfolding run
  read_unsigned k i b s d = by (deep_or_not k) (read_literal i b s d)
    where
      judge : (Deep k → ⊥) → {w : List ℕ} (g : At) → Literal (i ▹ b ∷ s) w g → Dec (Large w) → ReadPart unsigned k (i ▹ b ∷ s)
      judge n (j ▹ r) l (yes v) = a_part (large n l v)
      judge n g l (no v) = a_part (a_number n l v)

      by : Dec (Deep k) → ReadLiteral i b s → ReadPart unsigned k (i ▹ b ∷ s)
      by (yes x) l = a_part (deep_number x d)
      by (no n) (a_literal {w} {g} l z) = judge n g l (vast_or_not w)
      by (no n) (ReadLiteral.stick m f) =
          sticks (i + 1 + m)
          (λ st neg fs en.
          ap (λ (x : State). run deep vast x (i + 1) s)
          (en i b d ∙ ap (λ (x : Bool). cond x (machine.broken 11 i i) (machine.digits (begun b) neg i (b ∷ []) fs)) (no_false (deep k) (says-deep k) n))
          ∙ f deep vast neg i (b ∷ []) fs (i + 1))

  read_minus : (k i : ℕ) (s : List ℕ) → (Deep k → ⊥) → ReadPart value k (i ▹ 0x2D ∷ s)
  unfolding run start finish
  read_minus k i [] n = sticks (i + 1) (λ fs e. from_start Deep Large deep vast says-deep says-vast fs i 0x2D [] refl e n)
  read_minus k i (b ∷ s) n = by (is_digit b) refl
    where
      on : ReadPart unsigned (k + 1) (i + 1 ▹ b ∷ s) → ReadPart value k (i ▹ 0x2D ∷ b ∷ s)
      on (a_part {o = done t g} r) = a_part (minus n r)
      on (a_part {o = broken m x y} r) = a_part (minus_broken n r)
      on (sticks m f) = sticks m (λ fs e. from_start Deep Large deep vast says-deep says-vast fs i 0x2D (b ∷ s) refl e n ∙ f (machine.minus fs) true fs (minus_enters Deep Large deep vast says-deep says-vast fs k e))

      by : (c : Bool) → is_digit b ≡ c → ReadPart value k (i ▹ 0x2D ∷ b ∷ s)
      by true d = on (read_unsigned (k + 1) (i + 1) b s d)
      by false d = sticks (i + 1) (λ fs e. from_start Deep Large deep vast says-deep says-vast fs i 0x2D (b ∷ s) refl e n ∙ stuck_there deep vast (machine.minus fs) (i + 1) b s (no_number deep vast fs (i + 1) b d))

  read_digit : (k i b : ℕ) (s : List ℕ) → is_digit b ≡ true → ReadPart value k (i ▹ b ∷ s)
  read_digit k i b s d = by (read_unsigned k i b s d)
    where
      by : ReadPart unsigned k (i ▹ b ∷ s) → ReadPart value k (i ▹ b ∷ s)
      by (a_part r) = a_part (positive r)
      by (sticks m f) = sticks m (λ fs e. f (want fs) false fs (want_enters Deep Large deep vast says-deep says-vast fs k e))

  -- Words and strings.
  read_false : (k i : ℕ) (s : List ℕ) → (Deep k → ⊥) → ReadPart value k (i ▹ 0x66 ∷ s)
  unfolding start
  read_false k i s n = by (read_word 0x61 (0x6C ∷ 0x73 ∷ 0x65 ∷ []) s)
    where
      by : ReadWord (0x61 ∷ 0x6C ∷ 0x73 ∷ 0x65 ∷ []) s → ReadPart value k (i ▹ 0x66 ∷ s)
      by (there r e) = subst (λ (x : List ℕ). ReadPart value k (i ▹ 0x66 ∷ x)) (sym e) (a_part (a_false n))
      by (ReadWord.stick d f) = sticks (i + 1 + d) (λ fs e. from_start Deep Large deep vast says-deep says-vast fs i 0x66 s refl e n ∙ f deep vast _ fs (i + 1))

  read_null : (k i : ℕ) (s : List ℕ) → (Deep k → ⊥) → ReadPart value k (i ▹ 0x6E ∷ s)
  unfolding start
  read_null k i s n = by (read_word 0x75 (0x6C ∷ 0x6C ∷ []) s)
    where
      by : ReadWord (0x75 ∷ 0x6C ∷ 0x6C ∷ []) s → ReadPart value k (i ▹ 0x6E ∷ s)
      by (there r e) = subst (λ (x : List ℕ). ReadPart value k (i ▹ 0x6E ∷ x)) (sym e) (a_part (a_null n))
      by (ReadWord.stick d f) = sticks (i + 1 + d) (λ fs e. from_start Deep Large deep vast says-deep says-vast fs i 0x6E s refl e n ∙ f deep vast _ fs (i + 1))

  read_true : (k i : ℕ) (s : List ℕ) → (Deep k → ⊥) → ReadPart value k (i ▹ 0x74 ∷ s)
  unfolding start
  read_true k i s n = by (read_word 0x72 (0x75 ∷ 0x65 ∷ []) s)
    where
      by : ReadWord (0x72 ∷ 0x75 ∷ 0x65 ∷ []) s → ReadPart value k (i ▹ 0x74 ∷ s)
      by (there r e) = subst (λ (x : List ℕ). ReadPart value k (i ▹ 0x74 ∷ x)) (sym e) (a_part (a_true n))
      by (ReadWord.stick d f) = sticks (i + 1 + d) (λ fs e. from_start Deep Large deep vast says-deep says-vast fs i 0x74 s refl e n ∙ f deep vast _ fs (i + 1))

  read_string : (k i : ℕ) (s : List ℕ) → (Deep k → ⊥) → ReadPart value k (i ▹ 0x22 ∷ s)
  unfolding start
  read_string k i s n = by (read_chars (length s) (i + 1) s (omega arith))
    where
      by : ReadChars (i + 1) s → ReadPart value k (i ▹ 0x22 ∷ s)
      by (to_quote c) = a_part (a_string n (string c))
      by (ReadChars.stick m f) = sticks m (λ fs e. from_start Deep Large deep vast says-deep says-vast fs i 0x22 s refl e n ∙ f deep vast [] a_value fs)

  -- What nests is read with less fuel.
  abbrev Rec : ℕ → Type 0
  Rec fuel = (p : Nest) (k : ℕ) (h : At) → 2 * size h + rank p < fuel → Unblank h → ReadPart (part p) k h

  read_array : (fuel : ℕ) → Rec fuel → (k i : ℕ) (s : List ℕ) → 2 * suc (length s) ≤ fuel → (Deep k → ⊥) → ReadPart value k (i ▹ 0x5B ∷ s)
  unfolding start run finish
  read_array fuel rec k i s le n = by (read_ws (i + 1) s)
    where
      on : {h : At} → Ws (i + 1 ▹ s) h → ((fs : List Frame) → goes deep vast (first fs) h ≡ goes deep vast (want (arr none ∷ fs)) h) → ReadPart elements (k + 1) h → ReadPart value k (i ▹ 0x5B ∷ s)
      on w f (a_part {o = done ts g} r) = a_part (an_array n w r)
      on w f (a_part {o = broken m x y} r) = a_part (array_broken n w r)
      on w f (sticks m q) = sticks m (λ fs e. from_start Deep Large deep vast says-deep says-vast fs i 0x5B s refl e n ∙ skip_first deep vast fs w ∙ f fs ∙ q none fs (omega (arith, e)))

      inside : (h : At) → Ws (i + 1 ▹ s) h → Unblank h → size h ≤ length s → ReadPart value k (i ▹ 0x5B ∷ s)
      inside (j ▹ []) w u z = on w (λ fs. refl) (rec els (k + 1) (j ▹ []) (omega (arith, le, z)) u)
      inside (j ▹ b ∷ r) w u z = pick (ℕ_discrete b 0x5D)
        where
          pick : Dec (b ≡ 0x5D) → ReadPart value k (i ▹ 0x5B ∷ s)
          pick (yes e) = a_part (empty_array n (closes (subst (λ (x : ℕ). Ws (i + 1 ▹ s) (j ▹ x ∷ r)) e w)))
          pick (no e) = on w (λ fs. first_wants deep vast fs j b r u (ne_eqb b 0x5D e)) (rec els (k + 1) (j ▹ b ∷ r) (omega (arith, le, z)) u)

      by : Skipped (i + 1 ▹ s) → ReadPart value k (i ▹ 0x5B ∷ s)
      by x = inside x.to x.ws x.unblank x.shorter

  read_object : (fuel : ℕ) → Rec fuel → (k i : ℕ) (s : List ℕ) → 2 * suc (length s) ≤ fuel → (Deep k → ⊥) → ReadPart value k (i ▹ 0x7B ∷ s)
  unfolding start run finish
  read_object fuel rec k i s le n = by (read_ws (i + 1) s)
    where
      on : {h : At} → Ws (i + 1 ▹ s) h → ((fs : List Frame) → goes deep vast (first_name fs) h ≡ goes deep vast (name none fs) h) → ReadPart members (k + 1) h → ReadPart value k (i ▹ 0x7B ∷ s)
      on w f (a_part {o = done ts g} r) = a_part (an_object n w r)
      on w f (a_part {o = broken m x y} r) = a_part (object_broken n w r)
      on w f (sticks m q) = sticks m (λ fs e. from_start Deep Large deep vast says-deep says-vast fs i 0x7B s refl e n ∙ skip_first_name deep vast fs w ∙ f fs ∙ q none fs (omega (arith, e)))

      inside : (h : At) → Ws (i + 1 ▹ s) h → Unblank h → size h ≤ length s → ReadPart value k (i ▹ 0x7B ∷ s)
      inside (j ▹ []) w u z = on w (λ fs. refl) (rec mems (k + 1) (j ▹ []) (omega (arith, le, z)) u)
      inside (j ▹ b ∷ r) w u z = pick (ℕ_discrete b 0x7D)
        where
          pick : Dec (b ≡ 0x7D) → ReadPart value k (i ▹ 0x7B ∷ s)
          pick (yes e) = a_part (empty_object n (closes (subst (λ (x : ℕ). Ws (i + 1 ▹ s) (j ▹ x ∷ r)) e w)))
          pick (no e) = on w (λ fs. first_names deep vast fs j b r u (ne_eqb b 0x7D e)) (rec mems (k + 1) (j ▹ b ∷ r) (omega (arith, le, z)) u)

      by : Skipped (i + 1 ▹ s) → ReadPart value k (i ▹ 0x7B ∷ s)
      by x = inside x.to x.ws x.unblank x.shorter

  read_value : (fuel : ℕ) → Rec fuel → (k : ℕ) (h : At) → 2 * size h ≤ fuel → Unblank h → ReadPart value k h
  unfolding run finish
  read_value fuel rec k (i ▹ []) le u = sticks i (λ fs e. refl)
  read_value fuel rec k (i ▹ b ∷ s) le u = by (can_begin b) refl (deep_or_not k)
    where
      by : (c : Bool) → can_begin b ≡ c → Dec (Deep k) → ReadPart value k (i ▹ b ∷ s)
      by false c x = sticks i (λ fs e. stuck_there deep vast (want fs) i b s (no_value deep vast fs i b u c))
      by true c (yes x) = a_part (too_deep x c)
      by true c (no n) =
          can_begin_lem (λ (x : ℕ). ReadPart value k (i ▹ x ∷ s)) (read_object fuel rec k i s le n) (read_array fuel rec k i s le n) (read_string k i s n) (read_minus k i s n) (read_false k i s n)
          (read_null k i s n) (read_true k i s n) (λ x d. read_digit k i x s d) b c

  -- Behind an element: the array's end, or a comma and more elements.
  after_element : {k : ℕ} {h m g : At} {t : Trees} → Reads Deep Large value k h (done t m) → Ws m g → (ts : Trees) (fs : List Frame) → length fs + 1 ≡ k
      → goes deep vast (want (arr ts ∷ fs)) h ≡ goes deep vast (after t (arr ts ∷ fs)) g
  after_element {t = t} r w ts fs e = reads_run Deep Large deep vast says-deep says-vast r (arr ts ∷ fs) (omega (arith, e)) ∙ skip_after deep vast t (arr ts ∷ fs) w

  more_elements : {k : ℕ} {h m l : At} {t : Trees} → Reads Deep Large value k h (done t m) → Around 0x2C m l → ReadPart elements k l → ReadPart elements k h
  more_elements r c (a_part {o = done us g} q) = a_part (next_element r c q)
  more_elements r c (a_part {o = broken n a e} q) = a_part (elements_broken r c q)
  more_elements {t = t} r c (sticks n f) = sticks n (λ ts fs e. reads_run Deep Large deep vast says-deep says-vast r (arr ts ∷ fs) (omega (arith, e)) ∙ comma_array Deep Large deep vast says-deep says-vast t ts fs c ∙ f (ts ⊕ t) fs e)

  behind_element : (fuel : ℕ) → Rec fuel → {k : ℕ} {h m : At} {t : Trees} → 2 * size h + 1 ≤ fuel → Reads Deep Large value k h (done t m) → (g : At) → Ws m g → Unblank g → size g ≤ size m
      → ReadPart elements k h
  unfolding run finish ended
  behind_element fuel rec le r (j ▹ []) w u z = sticks j (λ ts fs e. after_element r w ts fs e)
  behind_element fuel rec {k} {h} {m} {t} le r (j ▹ b ∷ s) w u z = by (ℕ_discrete b 0x5D) (ℕ_discrete b 0x2C)
    where
      shorter : size m < size h
      shorter = reads_shorter r

      comma : Ws m (j ▹ 0x2C ∷ s) → Skipped (j + 1 ▹ s) → ReadPart elements k h
      comma v x = more_elements r (around (closes v) x.ws) (rec els k x.to (omega (arith, le, z, shorter, x.shorter)) x.unblank)

      by : Dec (b ≡ 0x5D) → Dec (b ≡ 0x2C) → ReadPart elements k h
      by (yes e) d = a_part (last_element r (closes (subst (λ (x : ℕ). Ws m (j ▹ x ∷ s)) e w)))
      by (no n) (yes e) = comma (subst (λ (x : ℕ). Ws m (j ▹ x ∷ s)) e w) (read_ws (j + 1) s)
      by (no n) (no q) =
          sticks j (λ ts fs e. after_element r w ts fs e ∙ stuck_there deep vast (after t (arr ts ∷ fs)) j b s (no_element deep vast t ts fs j b u (ne_eqb b 0x2C q) (ne_eqb b 0x5D n)))

  read_elements : (fuel : ℕ) → Rec fuel → (k : ℕ) (h : At) → 2 * size h + 1 ≤ fuel → Unblank h → ReadPart elements k h
  read_elements fuel rec k h le u = by (rec a_val k h (omega (arith, le)) u)
    where
      by : ReadPart value k h → ReadPart elements k h
      by (a_part {o = done t m} r) = let x = read_ws_at m in behind_element fuel rec le r x.to x.ws x.unblank x.shorter
      by (a_part {o = broken n a e} r) = a_part (element_broken r)
      by (sticks n f) = sticks n (λ ts fs e. f (arr ts ∷ fs) (omega (arith, e)))

  -- Behind a field: the object's end, or a comma and more fields.
  after_field : {k a b : ℕ} {h v m g : At} {w : List ℕ} {t : Trees} → Named h w a b v → Reads Deep Large value k v (done t m) → Ws m g → (ts : Trees) (fs : List Frame) → length fs + 1 ≡ k
      → goes deep vast (name ts fs) h ≡ goes deep vast (after t (obj ts w a b ∷ fs)) g
  after_field {a = a} {b = b} {w = w} {t = t} n r x ts fs e =
      named_runs Deep Large deep vast says-deep says-vast ts fs n ∙ reads_run Deep Large deep vast says-deep says-vast r (obj ts w a b ∷ fs) (omega (arith, e)) ∙ skip_after deep vast t (obj ts w a b ∷ fs) x

  more_members : {k a b : ℕ} {h v m l : At} {w : List ℕ} {t : Trees} → Named h w a b v → Reads Deep Large value k v (done t m) → Around 0x2C m l → ReadPart members k l → ReadPart members k h
  more_members n r c (a_part {o = done us g} q) = a_part (next_member n r c q)
  more_members n r c (a_part {o = broken i x y} q) = a_part (members_broken n r c q)
  more_members {a = a} {b = b} {w = w} {t = t} n r c (sticks i f) =
      sticks i (λ ts fs e. named_runs Deep Large deep vast says-deep says-vast ts fs n ∙ reads_run Deep Large deep vast says-deep says-vast r (obj ts w a b ∷ fs) (omega (arith, e)) ∙ comma_object Deep Large deep vast says-deep says-vast t ts w a b fs c ∙ f (ts ⊕ field w a b t) fs e)

  behind-field : (fuel : ℕ) → Rec fuel → {k a c : ℕ} {h v m : At} {w : List ℕ} {t : Trees} → 2 * size h + 1 ≤ fuel → Named h w a c v → Reads Deep Large value k v (done t m) → (g : At) → Ws m g
      → Unblank g → size g ≤ size m → ReadPart members k h
  unfolding run finish ended
  behind-field fuel rec le n r (j ▹ []) x u z = sticks j (λ ts fs e. after_field n r x ts fs e)
  behind-field fuel rec {k} {a} {c} {h} {v} {m} {w} {t} le n r (j ▹ b ∷ s) x u z = by (ℕ_discrete b 0x7D) (ℕ_discrete b 0x2C)
    where
      shorter : size m < size v
      shorter = reads_shorter r

      comma : Ws m (j ▹ 0x2C ∷ s) → Skipped (j + 1 ▹ s) → ReadPart members k h
      comma q y = more_members n r (around (closes q) y.ws) (rec mems k y.to (omega (arith, le, z, shorter, named_shorter n, y.shorter)) y.unblank)

      by : Dec (b ≡ 0x7D) → Dec (b ≡ 0x2C) → ReadPart members k h
      by (yes e) d = a_part (last_member n r (closes (subst (λ (y : ℕ). Ws m (j ▹ y ∷ s)) e x)))
      by (no p) (yes e) = comma (subst (λ (y : ℕ). Ws m (j ▹ y ∷ s)) e x) (read_ws (j + 1) s)
      by (no p) (no q) =
          sticks j (λ ts fs e. after_field n r x ts fs e ∙ stuck_there deep vast (after t (obj ts w a c ∷ fs)) j b s (no_member deep vast t ts w a c fs j b u (ne_eqb b 0x2C q) (ne_eqb b 0x7D p)))

  -- A field's value behind its name.
  named_value : (fuel : ℕ) → Rec fuel → {k a c : ℕ} {h v : At} {w : List ℕ} → 2 * size h + 1 ≤ fuel → Named h w a c v → ReadPart value k v → ReadPart members k h
  named_value fuel rec le n (a_part {o = done t m} r) = let x = read_ws_at m in behind-field fuel rec le n r x.to x.ws x.unblank x.shorter
  named_value fuel rec le n (a_part {o = broken i x y} r) = a_part (member_broken n r)
  named_value fuel rec {a = a} {c = c} {w = w} le n (sticks i f) = sticks i (λ ts fs e. named_runs Deep Large deep vast says-deep says-vast ts fs n ∙ f (obj ts w a c ∷ fs) (omega (arith, e)))

  -- A colon behind a name.
  after_name : {a c : ℕ} {s r w : List ℕ} {g : At} → String (a ▹ s) w (c ▹ r) → Ws (c ▹ r) g → (ts : Trees) (fs : List Frame) → goes deep vast (name ts fs) (a ▹ s) ≡ goes deep vast (colon ts w a c fs) g
  after_name {a} {c} {w = w} x y ts fs = name_string Deep Large deep vast says-deep says-vast ts fs x ∙ skip_colon deep vast ts w a c fs y

  behind_name : (fuel : ℕ) → Rec fuel → {k a c : ℕ} {s r w : List ℕ} → 2 * length s + 1 ≤ fuel → String (a ▹ s) w (c ▹ r) → (g : At) → Ws (c ▹ r) g → Unblank g → size g ≤ length r
      → ReadPart members k (a ▹ s)
  unfolding run finish
  behind_name fuel rec le x (j ▹ []) y u z = sticks j (λ ts fs e. after_name x y ts fs)
  behind_name fuel rec {k} {a} {c} {s} {r} {w} le x (j ▹ b ∷ q) y u z = by (ℕ_discrete b 0x3A)
    where
      shorter : length r < length s
      shorter = string_shorter x

      on : Ws (c ▹ r) (j ▹ 0x3A ∷ q) → Skipped (j + 1 ▹ q) → ReadPart members k (a ▹ s)
      on v p = named_value fuel rec le (named x (around (closes v) p.ws)) (rec a_val k p.to (omega (arith, le, z, shorter, p.shorter)) p.unblank)

      by : Dec (b ≡ 0x3A) → ReadPart members k (a ▹ s)
      by (yes e) = on (subst (λ (o : ℕ). Ws (c ▹ r) (j ▹ o ∷ q)) e y) (read_ws (j + 1) q)
      by (no n) = sticks j (λ ts fs e. after_name x y ts fs ∙ stuck_there deep vast (colon ts w a c fs) j b q (no_colon deep vast ts w a c fs j b u (ne_eqb b 0x3A n)))

  read_members : (fuel : ℕ) → Rec fuel → (k : ℕ) (h : At) → 2 * size h + 1 ≤ fuel → Unblank h → ReadPart members k h
  unfolding run finish step
  read_members fuel rec k (i ▹ []) le u = sticks i (λ ts fs e. refl)
  read_members fuel rec k (i ▹ b ∷ s) le u = by (ℕ_discrete b 0x22)
    where
      ended_at : {w : List ℕ} (g : At) → Chars (i + 1 ▹ s) w g → ReadPart members k (i ▹ 0x22 ∷ s)
      ended_at (c ▹ r) x = let y = read_ws c r in behind_name fuel rec le (string x) y.to y.ws y.unblank y.shorter

      on : ReadChars (i + 1) s → ReadPart members k (i ▹ 0x22 ∷ s)
      on (to_quote {t} {g} x) = ended_at g x
      on (ReadChars.stick n f) = sticks n (λ ts fs e. f deep vast [] (a_name ts i) fs)

      by : Dec (b ≡ 0x22) → ReadPart members k (i ▹ b ∷ s)
      by (yes e) = subst (λ (x : ℕ). ReadPart members k (i ▹ x ∷ s)) (sym e) (on (read_chars (length s) (i + 1) s (omega arith)))
      by (no n) = sticks i (λ ts fs e. stuck_there deep vast (name ts fs) i b s (no_name deep vast ts fs i b u (ne_eqb b 0x22 n)))

  read_nest : (fuel : ℕ) → Rec fuel → (p : Nest) (k : ℕ) (h : At) → 2 * size h + rank p ≤ fuel → Unblank h → ReadPart (part p) k h
  read_nest fuel rec a_val k h le u = read_value fuel rec k h (omega (arith, le)) u
  read_nest fuel rec els k h le u = read_elements fuel rec k h le u
  read_nest fuel rec mems k h le u = read_members fuel rec k h le u

  descend : (fuel : ℕ) (p : Nest) (k : ℕ) (h : At) → 2 * size h + rank p ≤ fuel → Unblank h → ReadPart (part p) k h
  descend zero p k h le u = read_nest zero (λ q l g lt v. absurd (omega (arith, lt))) p k h le u
  descend (suc fuel) p k h le u = read_nest (suc fuel) (λ q l g lt v. descend fuel q l g (omega (arith, lt)) v) p k h le u

  -- EVERY VALUE IS READ, OR THE MACHINE STICKS.
  pub read_a_value : (k : ℕ) (h : At) → Unblank h → ReadPart value k h
  read_a_value k h u = descend (2 * size h) a_val k h (omega arith) u
