-- The walk over the parts of a payload: what its loop keeps, and what it comes to.
-- Assumes nothing.
use mathlib.Core.Path.{◌≡◌, refl, sym, ap, subst, ◌∙◌}
use mathlib.Core.Bool.{Bool, true, false}
use mathlib.Core.List.{List, [], ◌∷◌, ◌++◌, map, append_assoc, append-nil}
use Prim.Native.Nat.{ℕ, zero, suc, ◌+◌, ◌-◌, ◌*◌, ◌≤◌, ◌<◌}
use native.Mathlib.Numerals.{add-one}
use native.Mathlib.Omega.{arith}
use lib.Dec.{eqb}
use lib.ListN.{length, take, drop, get_or, set, replicate, length-set, length-append, length-replicate, take-append-drop}
use lib.Seq.{drop-cons, take-suc-set, drop-set-lt, length-take-le, drop-length, drop-drop}
use borrow.Author.Tests.{eqb-true, eqb-false}
use Rattle.std.proofs.Common.{None}
use Rattle.std.specs.Bool.{then_some}
use Rattle.grammar.specs.Laid.{part_of}
use Rattle.grammar.specs.declared.layout.Part as parts
use Rattle.grammar.specs.Layout.{Part, layout, code, codes, numbers}
use Rattle.images.specs.declared.parts.Parts.{Parts}
use Rattle.images.specs.Inner.{two_at, span_value, limit, told_by, Gets, Lacks, Takes, Fails, Walks}
use Rattle.images.proofs.CodeLaws.{get_byte, limit_other, told_other}
use mathlib.Core.Logic.{◌⊎◌, inl, inr, ⊎_elim}
use Rattle.std.proofs.lemmas.Bool.{cases_lt}

abbrev pub told : ℕ → List ℕ → Parts
told children values = record { children = children; values = values }

-- From the loop's place on: what is taken there is taken from the start, with the values and children so far; what fails there fails.
pub record Going (bytes : List ℕ) (from end : ℕ) (row values : List ℕ) (at children i : ℕ) : Type 0 where
  pub within : at ≤ end
  pub few : i ≤ 6
  pub bound : children ≤ i * 65535
  pub size : length values ≡ 6
  pub zeros : drop i values ≡ replicate (6 - i) 0
  pub good : (vs : List ℕ) (n : ℕ) → Takes bytes end at (drop (i + 1) row) vs n → Takes bytes end from (drop 1 row) (take i values ++ vs) (children + n)
  pub bad : Fails bytes end at (drop (i + 1) row) → Fails bytes end from (drop 1 row)

module _ (bytes : List ℕ) (from end : ℕ) (row : List ℕ) (seven : length row ≡ 7) where
  pub starts : from ≤ end → Going bytes from end row (replicate 6 0) from 0 0
  starts h = record {
    within = h;
    few = omega arith;
    bound = omega arith;
    size = refl;
    zeros = refl;
    good = λ vs n t. let e : n ≡ 0 + n = omega arith in subst (λ (m : ℕ). Takes bytes end from (drop 1 row) vs m) e t;
    bad = λ f. f;
  }

  module _ {values : List ℕ} {at children i : ℕ} (x : Going bytes from end row values at children i) where
    here : i < 6 → drop (i + 1) row ≡ get_or row (i + 1) 0 ∷ drop (i + 1 + 1) row
    here h = let l : i + 1 < length row = omega (arith, seven) in drop-cons row (i + 1) 0 l ∙ ap (λ (n : ℕ). get_or row (i + 1) 0 ∷ drop n row) (sym (add-one (i + 1)))

    pub goes_on : {v next k c : ℕ} → i < 6 → c ≡ get_or row (i + 1) 0 → (c ≡ 0 → ⊥) → Gets bytes at end c v next k → next ≤ end → k ≤ 65535
        → Going bytes from end row (set values i v) next (children + k) (i + 1)
    goes_on {v} {next} {k} {c} h q z g le few =
        let below : i < length values = omega (arith, x.size) in
        let taken : take (i + 1) (set values i v) ≡ take i values ++ (v ∷ []) = rw (add-one) (take-suc-set values i v below) in
        let cs = drop (i + 1 + 1) row in
        let codes : c ∷ cs ≡ drop (i + 1) row = ap (λ (n : ℕ). n ∷ cs) q ∙ sym (here h) in
        record {
          within = le;
          few = omega arith;
          bound = omega (arith, x.bound);
          size = length-set values i v ∙ x.size;
          zeros = rest below;
          good = λ vs n t.
              let e : children + (k + n) ≡ children + k + n = omega arith in
              let w : take i values ++ (v ∷ vs) ≡ take (i + 1) (set values i v) ++ vs = sym (ap (λ (l : List ℕ). l ++ vs) taken ∙ append_assoc (take i values) (v ∷ []) vs) in
              subst (λ (l : List ℕ). Takes bytes end from (drop 1 row) l (children + k + n)) w
              (subst (λ (m : ℕ). Takes bytes end from (drop 1 row) (take i values ++ (v ∷ vs)) m) e
              (x.good (v ∷ vs) (k + n) (subst (λ (l : List ℕ). Takes bytes end at l (v ∷ vs) (k + n)) codes (Takes.more z g t))));
          bad = λ f. x.bad (subst (λ (l : List ℕ). Fails bytes end at l) codes (Fails.later z g f));
        }
      where
        rest : i < length values → drop (i + 1) (set values i v) ≡ replicate (6 - (i + 1)) 0
        rest below =
            let a : drop (i + 1) (set values i v) ≡ drop (i + 1) values = drop-set-lt (i + 1) values i v (omega arith) in
            let b : drop (i + 1) values ≡ drop 1 (drop i values) = sym (drop-drop 1 i values) in
            let e : 6 - i ≡ suc (6 - (i + 1)) = omega arith in
            a ∙ b ∙ ap (drop 1) (x.zeros ∙ ap (λ (n : ℕ). replicate n 0) e)

    filled : values ≡ (take i values ++ []) ++ replicate (6 - length (take i values ++ [])) 0
    filled =
        let l : length (take i values) ≡ i = length-take-le i values (omega (arith, x.size, x.few)) in
        let n : take i values ++ [] ≡ take i values = append-nil (take i values) in
        sym (take-append-drop i values) ∙ ap (λ (r : List ℕ). take i values ++ r) (x.zeros ∙ ap (λ (m : ℕ). replicate (6 - m) 0) (sym l))
        ∙ sym (ap (λ (r : List ℕ). r ++ replicate (6 - length r) 0) n)

    ended : (b : Bool) → eqb at end ≡ b → ((e : at ≡ end) → Takes bytes end at (drop (i + 1) row) [] 0) → ((at ≡ end → ⊥) → Fails bytes end at (drop (i + 1) row))
        → Walks bytes from end (drop 1 row) (then_some b (told children values))
    ended true e t f = Walks.good (x.good [] 0 (t (eqb-true at end e))) (omega arith) filled
    ended false e t f = Walks.bad (x.bad (f (eqb-false at end e)))

    -- at the code 0
    pub stops : i < 6 → get_or row (i + 1) 0 ≡ 0 → Walks bytes from end (drop 1 row) (then_some (eqb at end) (told children values))
    stops h z =
        let cs = drop (i + 1 + 1) row in
        let codes : 0 ∷ cs ≡ drop (i + 1) row = ap (λ (n : ℕ). n ∷ cs) (sym z) ∙ sym (here h) in
        ended (eqb at end) refl
        (λ e. subst (λ (l : List ℕ). Takes bytes end at l [] 0) codes (subst (λ (j : ℕ). Takes bytes end j (0 ∷ cs) [] 0) (sym e) Takes.over))
        (λ n. subst (λ (l : List ℕ). Fails bytes end at l) codes (Fails.left n))

    -- after the last
    pub is_over : 6 ≤ i → Walks bytes from end (drop 1 row) (then_some (eqb at end) (told children values))
    is_over h =
        let j : i + 1 ≡ length row = omega (arith, x.few, seven) in
        let codes : [] ≡ drop (i + 1) row = sym (ap (λ (n : ℕ). drop n row) j ∙ drop-length row) in
        ended (eqb at end) refl
        (λ e. subst (λ (l : List ℕ). Takes bytes end at l [] 0) codes (subst (λ (k : ℕ). Takes bytes end k [] [] 0) (sym e) Takes.last))
        (λ n. subst (λ (l : List ℕ). Fails bytes end at l) codes (Fails.left_last n))

    pub is_done : get_or row (i + 1) 0 ≡ 0 → Walks bytes from end (drop 1 row) (then_some (eqb at end) (told children values))
    is_done z = ⊎_elim (λ h. stops h z) is_over (cases_lt i 6)

    -- where a part is wrong
    pub fails : {c : ℕ} → i < 6 → c ≡ get_or row (i + 1) 0 → (c ≡ 0 → ⊥) → Lacks bytes at end c
        → Walks bytes from end (drop 1 row) None
    fails {c} h q z g =
        let cs = drop (i + 1 + 1) row in
        let codes : c ∷ cs ≡ drop (i + 1) row = ap (λ (n : ℕ). n ∷ cs) q ∙ sym (here h) in
        Walks.bad (x.bad (subst (λ (l : List ℕ). Fails bytes end at l) codes (Fails.wrong z g)))

-- Where a part ends.
pub gets_within : {bytes : List ℕ} {at end c v next k : ℕ} → at ≤ end → Gets bytes at end c v next k → next ≤ end
gets_within h (Gets.a_span g) = g
gets_within h Gets.a_text = omega arith
gets_within h (Gets.a_count g) = g
gets_within h (Gets.a_byte f g i) = omega arith

-- ── The numbers of a row ──────────────────────────────────────────────────────────────────────────

abbrev pub row_numbers : List Part → List ℕ
row_numbers ps = numbers (layout 0 ps)

pub codes-length : (ps : List Part) → length (codes ps) ≡ length ps
unfolding codes
codes-length [] = refl
codes-length (p ∷ ps) = ap suc (codes-length ps)

pub row_long : (ps : List Part) → length ps ≤ 6 → length (row_numbers ps) ≡ 7
unfolding numbers
row_long ps h = omega (arith, length-append (codes ps) (replicate (6 - length ps) 0), codes-length ps, length-replicate {A = ℕ} (6 - length ps) 0)

code_at : (ps : List parts.Part) (l : List ℕ) (i : ℕ) (d : parts.Part) → i < length ps → code (part_of (get_or ps i d)) ≡ get_or (codes (map part_of ps) ++ l) i 0
unfolding codes
code_at [] l i d h = absurd (omega arith)
code_at (q ∷ ps) l zero d h = refl
code_at (q ∷ ps) l (suc i) d h = code_at ps l i d (omega arith)

pub row_code : (ps : List parts.Part) (i : ℕ) (d : parts.Part) → i < length ps → code (part_of (get_or ps i d)) ≡ get_or (row_numbers (map part_of ps)) (i + 1) 0
unfolding numbers
row_code ps i d h = rw (add-one) (code_at ps (replicate (6 - length (map part_of ps)) 0) i d h)

map_long : (ps : List parts.Part) → length (map part_of ps) ≡ length ps
map_long [] = refl
map_long (p ∷ ps) = ap suc (map_long ps)

pub row_seven : (ps : List parts.Part) → length ps ≤ 6 → length (row_numbers (map part_of ps)) ≡ 7
row_seven ps h = row_long (map part_of ps) (omega (arith, map_long ps))

-- A row of six numbers has no more parts.
pub few_parts : (ps : List parts.Part) → length (drop 1 (row_numbers (map part_of ps))) ≡ 6 → length ps ≤ 6
unfolding numbers
few_parts ps e =
    let n = length (map part_of ps) in
    omega (arith, e, length-append (codes (map part_of ps)) (replicate (6 - n) 0), codes-length (map part_of ps), length-replicate {A = ℕ} (6 - n) 0, map_long ps)

zero_at : (n i : ℕ) → ◌≡◌ {A = ℕ} (get_or (replicate n 0) i 0) 0
zero_at zero i = refl
zero_at (suc n) zero = refl
zero_at (suc n) (suc i) = zero_at n i

past_codes : (ps : List Part) (n i : ℕ) → length ps ≤ i → get_or (codes ps ++ replicate n 0) i 0 ≡ 0
unfolding codes
past_codes [] n i h = zero_at n i
past_codes (p ∷ ps) n zero h = absurd (omega arith)
past_codes (p ∷ ps) n (suc i) h = past_codes ps n i (omega arith)

pub row_past : (ps : List parts.Part) (i : ℕ) → length ps ≤ i → get_or (row_numbers (map part_of ps)) (i + 1) 0 ≡ 0
unfolding numbers
row_past ps i h = rw (add-one) (past_codes (map part_of ps) (6 - length (map part_of ps)) i (omega (arith, map_long ps)))

pub code_some : (p : parts.Part) → code (part_of p) ≡ 0 → ⊥
unfolding code
code_some parts.TheVariants.Span e = omega arith
code_some parts.TheVariants.Text e = omega arith
code_some parts.TheVariants.Count e = omega arith
code_some parts.TheVariants.Has e = omega arith
code_some parts.TheVariants.Bits e = omega arith
code_some (parts.TheVariants.Below n) e = omega arith

-- ── One part ──────────────────────────────────────────────────────────────────────────────────────

module _ {bytes : List ℕ} {at end : ℕ} where
  pub lacks_part : {p q : parts.Part} → p ≡ q → Lacks bytes at end (code (part_of q)) → Lacks bytes at end (code (part_of p))
  lacks_part e x = subst (λ (r : parts.Part). Lacks bytes at end (code (part_of r))) (sym e) x

  pub gets_part : {p q : parts.Part} {v n k : ℕ} → p ≡ q → Gets bytes at end (code (part_of q)) v n k → Gets bytes at end (code (part_of p)) v n k
  gets_part {v = v} {n = n} {k = k} e x = subst (λ (r : parts.Part). Gets bytes at end (code (part_of r)) v n k) (sym e) x

  pub lacks_byte : {c l : ℕ} → 4 ≤ c → limit c ≡ l → (end ≤ at) ⊎ ((at < end) × (l ≤ get_or bytes at 0)) → Lacks bytes at end c
  lacks_byte h e (inl x) = Lacks.no_byte h x
  lacks_byte h e (inr x) = Lacks.bad_byte h x.0 (omega (arith, e, x.1))

  pub has_byte : {c l b k : ℕ} → 4 ≤ c → limit c ≡ l → (at < end) × (b ≡ get_or bytes at 0) × (b < l) × (b ≤ 255) → k ≡ told_by c b → Gets bytes at end c b (at + 1) k
  has_byte h e x q = get_byte h x.0 x.1 (omega (arith, e, x.2)) q

  pub get_span : {v : ℕ} → at + 4 ≤ end → v ≡ span_value (two_at bytes at) (two_at bytes (at + 2)) → Gets bytes at end 1 v (at + 4) 0
  get_span h e = subst (λ (w : ℕ). Gets bytes at end 1 w (at + 4) 0) (sym e) (Gets.a_span h)

  pub get_text : at ≤ end → Gets bytes at end 2 (end - at) (at + (end - at)) 0
  get_text h = let e : end ≡ at + (end - at) = omega arith in subst (λ (n : ℕ). Gets bytes at end 2 (end - at) n 0) e Gets.a_text

  pub get_count : {v : ℕ} → at + 2 ≤ end → v ≡ two_at bytes at → Gets bytes at end 3 v (at + 2) v
  get_count h e = subst (λ (w : ℕ). Gets bytes at end 3 w (at + 2) w) (sym e) (Gets.a_count h)

pub below_limit : (n : ℕ) → limit (8 + n) ≡ n
below_limit n = let e = limit_other (8 + n) (λ e. omega arith) (λ e. omega arith) in omega (arith, e)

pub below_told : (n b : ℕ) → 0 ≡ told_by (8 + n) b
below_told n b = told_other (8 + n) b (λ e. omega arith) (λ e. omega arith)
