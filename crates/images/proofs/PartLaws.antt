-- A payload by its parts: what the walk over a row of codes takes is laid out as the row says, and what is laid out so it takes.
-- Assumes nothing.
use mathlib.Core.Path.{◌≡◌, refl, sym, ap, subst, ◌∙◌}
use mathlib.Core.Bool.{Bool, true, false}
use mathlib.Core.List.{List, [], ◌∷◌, ◌++◌, map}
use Prim.Native.Nat.{ℕ, zero, suc, ◌+◌, ◌-◌, ◌*◌, ◌/◌, ◌%◌, ◌≤◌, ◌<◌}
use native.Mathlib.Numerals.{add-one}
use native.Mathlib.Omega.{arith}
use lib.Dec.{T}
use lib.ListN.{length, get_or, replicate}
use lib.Seq.{slice, slice_empty, slice-cons, length-slice}
use Rattle.grammar.specs.Trees.{Field, byte, number, span, text}
use Rattle.grammar.specs.Image.{two, payload}
use Rattle.grammar.specs.Layout.{Part, place, words, count, has, bits, below, bits_in, Laid, over, a_span, a_text, a_count, a_flag, a_slice, a_byte, code, codes}
use Rattle.images.specs.Inner.{two_at, span_value, limit, told_by, Gets, Lacks, Takes, Fails}
use Rattle.images.proofs.CodeLaws.{limit_other, told_other}

-- A field in one number.
unfoldable pub value : Field → ℕ
value (byte b) = b
value (number n) = n
value (span a e) = span_value a e
value (text w) = length w

-- A text stands last.
unfoldable pub proper : List Part → Bool
proper [] = true
proper (words ∷ []) = true
proper (words ∷ (p ∷ ps)) = false
proper (place ∷ ps) = proper ps
proper (count ∷ ps) = proper ps
proper (has ∷ ps) = proper ps
proper (bits ∷ ps) = proper ps
proper (below n ∷ ps) = proper ps

pub two_back : (x y : ℕ) → y < 256 → two (x * 256 + y) ≡ x ∷ y ∷ []
two_back x y h =
    let d : (x * 256 + y) / 256 ≡ x = omega arith in
    let m : (x * 256 + y) % 256 ≡ y = omega arith in
    ap (λ (n : ℕ). n ∷ (x * 256 + y) % 256 ∷ []) d ∙ ap (λ (n : ℕ). x ∷ n ∷ []) m

pub two_is : (n x y : ℕ) → n / 256 ≡ x → n % 256 ≡ y → x * 256 + y ≡ n
two_is n x y e f = omega arith

-- A list that has a first element.
abbrev head : List ℕ → ℕ
head [] = 0
head (x ∷ xs) = x

abbrev tail : List ℕ → List ℕ
tail [] = []
tail (x ∷ xs) = xs

module _ (bytes : List ℕ) (end : ℕ) (within : end ≤ length bytes) where
  pub step : (at : ℕ) → at < end → slice at end bytes ≡ get_or bytes at 0 ∷ slice (at + 1) end bytes
  step at h = rw (add-one) (slice-cons at end bytes 0 h within)

  pub cut : (at : ℕ) {x : ℕ} {xs : List ℕ} → x ∷ xs ≡ slice at end bytes → (at < end) × (x ≡ get_or bytes at 0) × (xs ≡ slice (at + 1) end bytes)
  cut at {x} {xs} e =
      let l : suc (length xs) ≡ end - at = ap length e ∙ length-slice at end bytes within in
      let h : at < end = omega arith in
      let q : x ∷ xs ≡ get_or bytes at 0 ∷ slice (at + 1) end bytes = e ∙ step at h in
      (h, ap head q, ap tail q)

  module _ (small : (i : ℕ) → get_or bytes i 0 < 256) where
    pub record Laidly (ps : List Part) (at : ℕ) (vs : List ℕ) (n : ℕ) : Type 0 where
      pub fields : List Field
      pub laid : Laid ps fields n
      pub paid : payload fields ≡ slice at end bytes
      pub valued : map value fields ≡ vs

    two_here : (at : ℕ) → two (two_at bytes at) ≡ get_or bytes at 0 ∷ get_or bytes (at + 1) 0 ∷ []
    two_here at = two_back (get_or bytes at 0) (get_or bytes (at + 1) 0) (small (at + 1))

    two-slice : (at : ℕ) → at + 2 ≤ end → slice at end bytes ≡ two (two_at bytes at) ++ slice (at + 2) end bytes
    two-slice at h =
        let h1 : at < end = omega arith in
        let h2 : at + 1 < end = omega arith in
        let e : at + 1 + 1 ≡ at + 2 = omega arith in
        step at h1 ∙ ap (λ (l : List ℕ). get_or bytes at 0 ∷ l) (step (at + 1) h2 ∙ ap (λ (i : ℕ). get_or bytes (at + 1) 0 ∷ slice i end bytes) e)
        ∙ sym (ap (λ (l : List ℕ). l ++ slice (at + 2) end bytes) (two_here at))

    laid_as : {ps : List Part} {fs : List Field} {m n : ℕ} → m ≡ n → Laid ps fs m → Laid ps fs n
    laid_as {ps} {fs} e l = subst (λ (k : ℕ). Laid ps fs k) e l

    -- One part before others.
    spanned : {ps : List Part} {at m : ℕ} {vs : List ℕ} → at + 4 ≤ end → Laidly ps (at + 4) vs m
        → Laidly (place ∷ ps) at (span_value (two_at bytes at) (two_at bytes (at + 2)) ∷ vs) (0 + m)
    unfolding payload value
    spanned {ps} {at} {m} {vs} h x =
        let a = two_at bytes at in
        let e = two_at bytes (at + 2) in
        let h1 : at + 2 ≤ end = omega arith in
        let h2 : at + 2 + 2 ≤ end = omega arith in
        let q : at + 2 + 2 ≡ at + 4 = omega arith in
        record {
          fields = span a e ∷ x.fields;
          laid = laid_as (omega arith) (a_span {a = a} {e = e} x.laid);
          paid =
              ap (λ (l : List ℕ). two a ++ (two e ++ l)) x.paid
              ∙ sym (two-slice at h1 ∙ ap (λ (l : List ℕ). two a ++ l) (two-slice (at + 2) h2 ∙ ap (λ (i : ℕ). two e ++ slice i end bytes) q));
          valued = ap (λ (l : List ℕ). span_value a e ∷ l) x.valued;
        }

    counted : {ps : List Part} {at m : ℕ} {vs : List ℕ} → at + 2 ≤ end → Laidly ps (at + 2) vs m → Laidly (count ∷ ps) at (two_at bytes at ∷ vs) (two_at bytes at + m)
    unfolding payload value
    counted {ps} {at} {m} {vs} h x =
        let a = two_at bytes at in
        record {
          fields = number a ∷ x.fields;
          laid = a_count x.laid;
          paid = ap (λ (l : List ℕ). two a ++ l) x.paid ∙ sym (two-slice at h);
          valued = ap (λ (l : List ℕ). a ∷ l) x.valued;
        }

    lettered : {p : Part} {ps : List Part} {at m n : ℕ} {vs : List ℕ} → at < end
        → ((fs : List Field) → Laid ps fs m → Laid (p ∷ ps) (byte (get_or bytes at 0) ∷ fs) n) → Laidly ps (at + 1) vs m → Laidly (p ∷ ps) at (get_or bytes at 0 ∷ vs) n
    unfolding payload value
    lettered {p} {ps} {at} {m} {n} {vs} h f x =
        record {
          fields = byte (get_or bytes at 0) ∷ x.fields;
          laid = f x.fields x.laid;
          paid = ap (λ (l : List ℕ). get_or bytes at 0 ∷ l) x.paid ∙ sym (step at h);
          valued = ap (λ (l : List ℕ). get_or bytes at 0 ∷ l) x.valued;
        }

    worded : {at : ℕ} → Laidly (words ∷ []) at ((end - at) ∷ []) 0
    unfolding payload value
    worded {at} = record { fields = text (slice at end bytes) ∷ []; laid = a_text; paid = refl; valued = ap (λ (n : ℕ). n ∷ []) (length-slice at end bytes within) }

    over_only : (k : ℕ) {at n : ℕ} {vs : List ℕ} → Takes bytes end at (replicate k 0) vs n → ([] ≡ vs) × (0 ≡ n)
    over_only zero Takes.last = (refl, refl)
    over_only (suc k) Takes.over = (refl, refl)
    over_only (suc k) (Takes.more z g t) = absurd (z refl)

    worded_as : {at n : ℕ} {vs : List ℕ} → ([] ≡ vs) × (0 ≡ n) → Laidly (words ∷ []) at ((end - at) ∷ vs) (0 + n)
    worded_as {at} {n} e = subst (λ (l : List ℕ). Laidly (words ∷ []) at ((end - at) ∷ l) (0 + n)) e.0 (subst (λ (m : ℕ). Laidly (words ∷ []) at ((end - at) ∷ []) (0 + m)) e.1 worded)

    record ByteFirst (at c : ℕ) (cs vs : List ℕ) (n : ℕ) : Type 0 where
      pub tails : List ℕ
      pub others : ℕ
      pub in_time : at < end
      pub bounded : get_or bytes at 0 < limit c
      pub onward : Takes bytes end (at + 1) cs tails others
      pub values : get_or bytes at 0 ∷ tails ≡ vs
      pub sum : told_by c (get_or bytes at 0) + others ≡ n

    byte_first : {at c n : ℕ} {cs vs : List ℕ} → 4 ≤ c → Takes bytes end at (c ∷ cs) vs n → ByteFirst at c cs vs n
    byte_first h Takes.over = absurd (omega arith)
    byte_first h (Takes.more z (Gets.a_span f) t) = absurd (omega arith)
    byte_first h (Takes.more z Gets.a_text t) = absurd (omega arith)
    byte_first h (Takes.more z (Gets.a_count f) t) = absurd (omega arith)
    byte_first h (Takes.more z (Gets.a_byte f g i) t) = record { tails = _; others = _; in_time = g; bounded = i; onward = t; values = refl; sum = refl }

    below_byte : {m at n : ℕ} {ps : List Part} {vs : List ℕ} {cs : List ℕ} (x : ByteFirst at (8 + m) cs vs n) → Laidly ps (at + 1) x.tails x.others → Laidly (below m ∷ ps) at vs n
    below_byte {m} {at} {n} {ps} {vs} x y =
        let l = limit_other (8 + m) (λ e. omega arith) (λ e. omega arith) in
        let o = told_other (8 + m) (get_or bytes at 0) (λ e. omega arith) (λ e. omega arith) in
        let b : get_or bytes at 0 < m = omega (arith, x.bounded, l) in
        let k : x.others ≡ n = omega (arith, o, x.sum) in
        subst (λ (l : List ℕ). Laidly (below m ∷ ps) at l n) x.values (lettered x.in_time (λ fs z. laid_as k (a_byte b z)) y)

    pub takes_laid : (ps : List Part) (k : ℕ) {at n : ℕ} {vs : List ℕ} → T (proper ps) → Takes bytes end at (codes ps ++ replicate k 0) vs n → Laidly ps at vs n
    unfolding proper codes code payload value limit told_by
    takes_laid (words ∷ (_ ∷ _)) k {at = at} {n = n} {vs = vs} h t = elim h [ ]
    takes_laid [] zero h Takes.last = record { fields = []; laid = over; paid = sym (slice_empty end bytes); valued = refl }
    takes_laid [] (suc k) h Takes.over = record { fields = []; laid = over; paid = sym (slice_empty end bytes); valued = refl }
    takes_laid [] (suc k) h (Takes.more n g t) = absurd (n refl)
    takes_laid (place ∷ ps) k h (Takes.more n (Gets.a_span f) t) = spanned f (takes_laid ps k h t)
    takes_laid (place ∷ ps) k h (Takes.more n (Gets.a_byte f g i) t) = absurd (omega arith)
    takes_laid (words ∷ []) k h (Takes.more n Gets.a_text t) = worded_as (over_only k t)
    takes_laid (words ∷ []) k h (Takes.more n (Gets.a_byte f g i) t) = absurd (omega arith)
    takes_laid (count ∷ ps) k h (Takes.more n (Gets.a_count f) t) = counted f (takes_laid ps k h t)
    takes_laid (count ∷ ps) k h (Takes.more n (Gets.a_byte f g i) t) = absurd (omega arith)
    takes_laid (has ∷ ps) k h (Takes.more n (Gets.a_byte f g i) t) = lettered g (λ fs x. a_flag i x) (takes_laid ps k h t)
    takes_laid (bits ∷ ps) k h (Takes.more n (Gets.a_byte f g i) t) = lettered g (λ fs x. a_slice i x) (takes_laid ps k h t)
    takes_laid (below m ∷ ps) k h t = let x = byte_first (omega arith) t in below_byte x (takes_laid ps k h x.onward)

    -- ── And back ────────────────────────────────────────────────────────────────────────────────────

    pub two_cut : (at : ℕ) {n : ℕ} {rest : List ℕ} → two n ++ rest ≡ slice at end bytes → (at + 2 ≤ end) × (two_at bytes at ≡ n) × (rest ≡ slice (at + 2) end bytes)
    two_cut at {n} {rest} e =
        let x = cut at e in
        let y = cut (at + 1) x.2 in
        let q : at + 1 + 1 ≡ at + 2 = omega arith in
        (omega (arith, y.0), two_is n (get_or bytes at 0) (get_or bytes (at + 1) 0) x.1 y.1, y.2 ∙ ap (λ (i : ℕ). slice i end bytes) q)

    more_as : {at v w next onto k n m c : ℕ} {cs vs : List ℕ} → (c ≡ 0 → ⊥) → Gets bytes at end c v next k → next ≡ onto → v ≡ w → k + n ≡ m → Takes bytes end onto cs vs n
        → Takes bytes end at (c ∷ cs) (w ∷ vs) m
    more_as {at} {v} {w} {next} {onto} {k} {n} {m} {c} {cs} {vs} z g e f h t =
        subst (λ (i : ℕ). Takes bytes end at (c ∷ cs) (i ∷ vs) m) f
        (subst (λ (i : ℕ). Takes bytes end at (c ∷ cs) (v ∷ vs) i) h (Takes.more z g (subst (λ (i : ℕ). Takes bytes end i cs vs n) (sym e) t)))

    ends : (k : ℕ) {at : ℕ} → at ≡ end → Takes bytes end at (replicate k 0) [] 0
    ends zero e = subst (λ (i : ℕ). Takes bytes end i [] [] 0) (sym e) Takes.last
    ends (suc k) e = subst (λ (i : ℕ). Takes bytes end i (0 ∷ replicate k 0) [] 0) (sym e) Takes.over

    pub laid_takes : {ps : List Part} {fs : List Field} {n : ℕ} (k at : ℕ) → at ≤ end → Laid ps fs n → payload fs ≡ slice at end bytes
        → Takes bytes end at (codes ps ++ replicate k 0) (map value fs) n
    unfolding codes code payload value limit told_by
    laid_takes k at le over e = ends k (omega (arith, ap length e ∙ length-slice at end bytes within))
    laid_takes k at le (a_span {a = a} {e = b} l) e =
        let x = two_cut at e in
        let y = two_cut (at + 2) x.2 in
        let h : at + 4 ≤ end = omega (arith, y.0) in
        let v = ap (λ (i : ℕ). span_value i (two_at bytes (at + 2))) x.1 ∙ ap (λ (i : ℕ). span_value a i) y.1 in
        more_as (λ z. omega arith) (Gets.a_span h) (omega arith) v (omega arith) (laid_takes k (at + 2 + 2) (omega arith) l y.2)
    laid_takes k at le a_text e = more_as (λ z. omega arith) Gets.a_text refl (sym (ap length e ∙ length-slice at end bytes within)) (omega arith) (ends k refl)
    laid_takes k at le (a_count {m = m} {n = n} l) e =
        let x = two_cut at e in
        more_as (λ z. omega arith) (Gets.a_count x.0) refl x.1 (ap (λ (i : ℕ). i + n) x.1) (laid_takes k (at + 2) x.0 l x.2)
    laid_takes k at le (a_flag {b = b} h l) e =
        let x = cut at e in
        more_as (λ z. omega arith) (Gets.a_byte (omega arith) x.0 (omega (arith, x.1))) refl (sym x.1) (omega (arith, x.1)) (laid_takes k (at + 1) (omega (arith, x.0)) l x.2)
    laid_takes k at le (a_slice {b = b} {n = n} h l) e =
        let x = cut at e in
        more_as (λ z. omega arith) (Gets.a_byte (omega arith) x.0 (omega (arith, x.1))) refl (sym x.1) (sym (ap (λ (i : ℕ). bits_in i + n) x.1)) (laid_takes k (at + 1) (omega (arith, x.0)) l x.2)
    laid_takes k at le (a_byte {m = m} {b = b} h l) e =
        let x = cut at e in
        let i = limit_other (8 + m) (λ e. omega arith) (λ e. omega arith) in
        let o = told_other (8 + m) (get_or bytes at 0) (λ e. omega arith) (λ e. omega arith) in
        more_as (λ z. omega arith) (Gets.a_byte (omega arith) x.0 (omega (arith, x.1, i))) refl (sym x.1) (omega (arith, o)) (laid_takes k (at + 1) (omega (arith, x.0)) l x.2)

-- ── Never both ────────────────────────────────────────────────────────────────────────────────────

gets_not : {bytes : List ℕ} {at end c v next k : ℕ} → Gets bytes at end c v next k → Lacks bytes at end c → ⊥
gets_not (Gets.a_span h) (Lacks.no_span g) = omega arith
gets_not (Gets.a_span h) (Lacks.no_byte f g) = omega arith
gets_not (Gets.a_span h) (Lacks.bad_byte f g i) = omega arith
gets_not Gets.a_text (Lacks.no_byte f g) = omega arith
gets_not Gets.a_text (Lacks.bad_byte f g i) = omega arith
gets_not (Gets.a_count h) (Lacks.no_count g) = omega arith
gets_not (Gets.a_count h) (Lacks.no_byte f g) = omega arith
gets_not (Gets.a_count h) (Lacks.bad_byte f g i) = omega arith
gets_not (Gets.a_byte h i j) (Lacks.no_span g) = omega arith
gets_not (Gets.a_byte h i j) (Lacks.no_count g) = omega arith
gets_not (Gets.a_byte h i j) (Lacks.no_byte f g) = omega arith
gets_not (Gets.a_byte h i j) (Lacks.bad_byte f g l) = omega arith

pub gets_equal : {bytes : List ℕ} {at end c v w next onto k l : ℕ} → Gets bytes at end c v next k → Gets bytes at end c w onto l → (onto ≡ next) × (v ≡ w)
gets_equal (Gets.a_span h) (Gets.a_span g) = (refl, refl)
gets_equal (Gets.a_span h) (Gets.a_byte f g i) = absurd (omega arith)
gets_equal Gets.a_text Gets.a_text = (refl, refl)
gets_equal Gets.a_text (Gets.a_byte f g i) = absurd (omega arith)
gets_equal (Gets.a_count h) (Gets.a_count g) = (refl, refl)
gets_equal (Gets.a_count h) (Gets.a_byte f g i) = absurd (omega arith)
gets_equal (Gets.a_byte h i j) (Gets.a_span g) = absurd (omega arith)
gets_equal (Gets.a_byte h i j) Gets.a_text = absurd (omega arith)
gets_equal (Gets.a_byte h i j) (Gets.a_count g) = absurd (omega arith)
gets_equal (Gets.a_byte h i j) (Gets.a_byte f g l) = (refl, refl)

pub takes_fails : {bytes : List ℕ} {end at n : ℕ} {cs vs : List ℕ} → Takes bytes end at cs vs n → Fails bytes end at cs → ⊥
takes_fails Takes.over (Fails.left n) = n refl
takes_fails Takes.over (Fails.wrong n g) = n refl
takes_fails Takes.over (Fails.later n g f) = n refl
takes_fails Takes.last (Fails.left_last n) = n refl
takes_fails (Takes.more n g t) (Fails.left m) = n refl
takes_fails (Takes.more n g t) (Fails.wrong m h) = gets_not g h
takes_fails {bytes} {end} (Takes.more {cs = cs} n g t) (Fails.later m h f) = takes_fails t (subst (λ (i : ℕ). Fails bytes end i cs) (gets_equal g h).0 f)
