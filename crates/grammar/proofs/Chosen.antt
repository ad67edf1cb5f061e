-- What a checked table says of the production that is chosen.
-- Assumes nothing.
use mathlib.Core.Path.{◌≡◌, refl, sym, subst}
use mathlib.Core.Bool.{Bool, true, false, ◌&&◌, ◌||◌, not}
use mathlib.Core.Logic.{◌⊎◌, inl, inr}
use Prim.Native.Nat.{ℕ}
use native.Mathlib.Omega.{arith}
use lib.Dec.{T, ltb}
use Rattle.lexemes.specs.Kinds.{QUESTION_MARK, NULL_COAELSE}
use Rattle.grammar.specs.Productions.{Phrase, Body, always, exp_destruct, exp_object_iteration, exp_null_coaelse, row, Table, otherwise, ◌∣◌, View, rule}
use Rattle.grammar.specs.Reading.{has, choose}
use Rattle.grammar.proofs.Tables.{order, rank, moves, low, halts, fine, moved, numbered, sound_body, sound_table, halts_table, stops-table, unguarded, with_kind, Facts, plain, switched, an_expr, facts, careful, checked}

pub true_false : true ≡ false → ⊥
true_false e = let z : ◌≡◌ {A = ℕ} 0 1 = cc in omega arith

pub holds : (b : Bool) → T b → b ≡ true
holds true h = refl
holds false h = absurd h

pub and_left : (a b : Bool) → T (a && b) → T a
and_left true b h = tt
and_left false b h = h

pub and_right : (a b : Bool) → T (a && b) → T b
and_right true b h = h
and_right false b h = absurd h

pub or_cases : (a b : Bool) → T (a || b) → T a ⊎ T b
or_cases true b h = inl tt
or_cases false b h = inr h

-- Of a row's two bodies, one or the other.
pub pick : {A : Type 0} (P : A → Type 0) (t : Bool) (a b : A) → P a → P b → P (elim t [ true ↦ a | false ↦ b ])
pick P true a b x y = x
pick P false a b x y = y

pub pick_yes : {A : Type 0} (x : Bool) (a b : A) → x ≡ true → ◌≡◌ {A = A} (elim x [ true ↦ a | false ↦ b ]) a
pick_yes true a b e = refl
pick_yes false a b e = absurd (true_false (sym e))

pub pick_no : {A : Type 0} (x : Bool) (a b : A) → x ≡ false → ◌≡◌ {A = A} (elim x [ true ↦ a | false ↦ b ]) b
pick_no true a b e = absurd (true_false e)
pick_no false a b e = refl

module _ (s : ℕ) where
  sound_chosen : (q : Phrase) (t : Table) → T (sound_table q t) → T (sound_body q (choose s t))
  unfolding choose sound_table
  sound_chosen q (otherwise b) h = h
  sound_chosen q (row g t b ∣ rest) h =
      pick (λ (x : Body). T (sound_body q x)) (t && has s g) b (choose s rest) (and_left (sound_body q b) (sound_table q rest) h)
      (sound_chosen q rest (and_right (sound_body q b) (sound_table q rest) h))

  -- A row whose switch is none or one of two.
  halts_row : (r : ℕ) (t a : Bool) (b c : Body) → T (not t || halts r b) → T (halts r c) → T (halts r (elim (t && a) [ true ↦ b | false ↦ c ]))
  halts_row r true true b c h k = h
  halts_row r true false b c h k = k
  halts_row r false a b c h k = k

  halts_chosen : (r : ℕ) (t : Table) → has s exp_null_coaelse ≡ false → T (halts_table r t) → T (halts r (choose s t))
  unfolding choose halts_table has
  halts_chosen r (otherwise b) off h = h
  halts_chosen r (row always true b ∣ rest) off h = h
  halts_chosen r (row always false b ∣ rest) off h = halts_chosen r rest off h
  halts_chosen r (row exp_destruct t b ∣ rest) off h =
      halts_row r t (has s exp_destruct) b (choose s rest) (and_left (not t || halts r b) (halts_table r rest) h)
      (halts_chosen r rest off (and_right (not t || halts r b) (halts_table r rest) h))
  halts_chosen r (row exp_object_iteration t b ∣ rest) off h =
      halts_row r t (has s exp_object_iteration) b (choose s rest) (and_left (not t || halts r b) (halts_table r rest) h)
      (halts_chosen r rest off (and_right (not t || halts r b) (halts_table r rest) h))
  halts_chosen r (row exp_null_coaelse t b ∣ rest) off h = passed t (has s exp_null_coaelse) off (halts_chosen r rest off h)
    where
      passed : (t a : Bool) → a ≡ false → T (halts r (choose s rest)) → T (halts r (elim (t && a) [ true ↦ b | false ↦ choose s rest ]))
      passed t true e k = absurd (true_false e)
      passed true false e k = k
      passed false false e k = k

-- `?` and `??`: what a setting without null-coaelse stops at.
abbrev pub Stopper : ℕ → Type 0
Stopper k = (k ≡ QUESTION_MARK) ⊎ (k ≡ NULL_COAELSE)

-- What holds of the view with a known kind in it holds of the view.
pub at_kind {ℓ} : (P : View → Type ℓ) (v : View) {k : ℕ} → v.kind ≡ k → P (with_kind v k) → P v
at_kind P v e x = subst (λ (n : ℕ). P (with_kind v n)) (sym e) x

module _ (prefix s : ℕ) (q : Phrase) (v : View) where
  all_checked : T (checked prefix q v)
  all_checked = by (facts prefix q v)
    where
      by : Facts prefix q v → T (checked prefix q v)
      by (plain h same) = and_left (checked prefix q v) (unguarded (rule prefix q v)) h
      by (switched w h same) = h
      by (an_expr e h) = and_left (checked prefix q v) (unguarded (rule prefix q v)) h

  abbrev is_sound : Bool
  is_sound = sound_table q (rule prefix q v) && stops-table q (rule prefix q (with_kind v QUESTION_MARK)) && stops-table q (rule prefix q (with_kind v NULL_COAELSE))

  is_checked : T is_sound
  unfolding checked
  is_checked = and_left is_sound (careful prefix q v) all_checked

  pub careful_chosen : T (careful prefix q v)
  unfolding checked
  careful_chosen = and_right is_sound (careful prefix q v) all_checked

  sound_both : T (sound_table q (rule prefix q v) && stops-table q (rule prefix q (with_kind v QUESTION_MARK)))
  sound_both = and_left (sound_table q (rule prefix q v) && stops-table q (rule prefix q (with_kind v QUESTION_MARK))) (stops-table q (rule prefix q (with_kind v NULL_COAELSE))) is_checked

  sound : T (sound_body q (choose s (rule prefix q v)))
  sound = sound_chosen s q (rule prefix q v) (and_left (sound_table q (rule prefix q v)) (stops-table q (rule prefix q (with_kind v QUESTION_MARK))) sound_both)

  -- What is sound is low, fine, numbered, and moves if the phrase does.
  pub low_chosen : T (low (order q) (choose s (rule prefix q v)))
  unfolding sound_body
  low_chosen = let b = choose s (rule prefix q v) in and_left (low (order q) b) (fine b && (numbered b && (not (moves q) || moved b))) sound

  tail : T (fine (choose s (rule prefix q v)) && (numbered (choose s (rule prefix q v)) && (not (moves q) || moved (choose s (rule prefix q v)))))
  unfolding sound_body
  tail = let b = choose s (rule prefix q v) in and_right (low (order q) b) (fine b && (numbered b && (not (moves q) || moved b))) sound

  pub fine_chosen : T (fine (choose s (rule prefix q v)))
  fine_chosen = let b = choose s (rule prefix q v) in and_left (fine b) (numbered b && (not (moves q) || moved b)) tail

  pub numbered_chosen : T (numbered (choose s (rule prefix q v)))
  numbered_chosen = let b = choose s (rule prefix q v) in and_left (numbered b) (not (moves q) || moved b) (and_right (fine b) (numbered b && (not (moves q) || moved b)) tail)

  pub moved_chosen : T (moves q) → T (moved (choose s (rule prefix q v)))
  moved_chosen h =
      let b = choose s (rule prefix q v) in
      by (moves q) h (and_right (numbered b) (not (moves q) || moved b) (and_right (fine b) (numbered b && (not (moves q) || moved b)) tail))
    where
      by : (m : Bool) → T m → T (not m || moved (choose s (rule prefix q v))) → T (moved (choose s (rule prefix q v)))
      by true h k = k
      by false h k = absurd h

  stops : (t : Table) → T (ltb 0 (rank q)) → has s exp_null_coaelse ≡ false → T (stops-table q t) → T (halts (rank q) (choose s t))
  unfolding stops-table
  stops t h off k = halts_chosen s (rank q) t off (by (ltb 0 (rank q)) h k)
    where
      by : (m : Bool) → T m → T (not m || halts_table (rank q) t) → T (halts_table (rank q) t)
      by true h k = k
      by false h k = absurd h

  pub halting : T (ltb 0 (rank q)) → has s exp_null_coaelse ≡ false → Stopper v.kind → T (halts (rank q) (choose s (rule prefix q v)))
  halting h off (inl e) =
      at_kind (λ (w : View). T (halts (rank q) (choose s (rule prefix q w)))) v e
      (stops (rule prefix q (with_kind v QUESTION_MARK)) h off (and_right (sound_table q (rule prefix q v)) (stops-table q (rule prefix q (with_kind v QUESTION_MARK))) sound_both))
  halting h off (inr e) =
      at_kind (λ (w : View). T (halts (rank q) (choose s (rule prefix q w)))) v e
      (stops (rule prefix q (with_kind v NULL_COAELSE)) h off
      (and_right (sound_table q (rule prefix q v) && stops-table q (rule prefix q (with_kind v QUESTION_MARK))) (stops-table q (rule prefix q (with_kind v NULL_COAELSE))) is_checked))
