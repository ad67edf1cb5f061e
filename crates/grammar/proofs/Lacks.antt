-- What a smaller setting chooses where it lacks the switch of what a larger one chooses. Four phrases have switches.
-- Assumes nothing.
use mathlib.Core.Path.{◌≡◌, refl, sym, ap, subst, ◌∙◌}
use mathlib.Core.Bool.{Bool, true, false, ◌&&◌}
use mathlib.Core.List.{[]}
use mathlib.Core.Logic.{inl, inr}
use Prim.Native.Nat.{ℕ}
use lib.Dec.{T, eqb, leb}
use borrow.Author.Tests.{eqb-true}
use Rattle.lexemes.specs.Kinds.{QUESTION_MARK, NULL_COAELSE, IDENT, L_BRACK, R_BRACK, COLON, IN_KW}
use Rattle.grammar.specs.Lexemes.{said}
use Rattle.grammar.specs.Productions.{Phrase, Body, end, goto, fail, ◌▸◌, eat, sub, deep, close, Switch, always, exp_destruct, exp_object_iteration, exp_null_coaelse, row, Table, otherwise, ◌∣◌, View, rule, expression, suffix, infix_tail, pattern, for_clause, header, iteration}
use Rattle.grammar.specs.Reading.{has, choose}
use Rattle.grammar.specs.Settings.{◌⊑◌, switch_of}
use Rattle.grammar.proofs.Tables.{unguarded, with_kind, Switched, at_infix_tail, at_suffix, at_pattern, at_for_clause, Facts, plain, switched, an_expr, facts, checked}
use Rattle.grammar.proofs.Chosen.{true_false, and_right, pick_yes, pick_no, Stopper, at_kind}

-- If the smaller setting has the switch of what the larger chooses, it chooses the same.
pub chosen_same : (s s' : ℕ) (t : Table) → s ⊑ s' → has s (switch_of s' t) ≡ true → choose s t ≡ choose s' t
unfolding choose switch_of
chosen_same s s' (otherwise b) le h = refl
chosen_same s s' (row g t b ∣ rest) le h = by t (has s g) (has s' g) refl (le.switches g) h (λ q. chosen_same s s' rest le q)
  where
    by : (t a a' : Bool) → has s g ≡ a → (has s g ≡ true → a' ≡ true) → has s (elim (t && a') [ true ↦ g | false ↦ switch_of s' rest ]) ≡ true
        → (has s (switch_of s' rest) ≡ true → choose s rest ≡ choose s' rest)
        → ◌≡◌ {A = Body} (elim (t && a) [ true ↦ b | false ↦ choose s rest ]) (elim (t && a') [ true ↦ b | false ↦ choose s' rest ])
    by false a a' e f h ih = ih h
    by true true true e f h ih = refl
    by true true false e f h ih = absurd (true_false (sym (f e)))
    by true false true e f h ih = absurd (true_false (sym h ∙ e))
    by true false false e f h ih = ih h

both_left : (a b : Bool) → a && b ≡ true → a ≡ true
both_left true b e = refl
both_left false b e = e

both_right : (a b : Bool) → a && b ≡ true → b ≡ true
both_right true b e = e
both_right false b e = absurd (true_false (sym e))

-- A table's first row, taken apart.
unfoldable guard_of : Table → Switch
guard_of (otherwise b) = always
guard_of (row g t b ∣ rest) = g

unfoldable test_of : Table → Bool
test_of (otherwise b) = true
test_of (row g t b ∣ rest) = t

unfoldable body_of : Table → Body
body_of (otherwise b) = b
body_of (row g t b ∣ rest) = b

unfoldable rest_of : Table → Table
rest_of (otherwise b) = otherwise b
rest_of (row g t b ∣ rest) = rest

unfoldable last_of : Table → Body
last_of (otherwise b) = b
last_of (r ∣ rest) = last_of rest

-- Every row has the switch g.
data Only (g : Switch) : Table → Type 0 where
  only_last : {b : Body} → Only g (otherwise b)
  only_row : {t : Bool} {b : Body} {rest : Table} → Only g rest → Only g (row g t b ∣ rest)

module _ (prefix s s' : ℕ) where
  -- What is known where s lacks the switch of what s' chooses: it is the first row's, or a later one's.
  data Peeled (t : Table) : Type 0 where
    this : switch_of s' t ≡ guard_of t → test_of t ≡ true → has s (guard_of t) ≡ false → choose s' t ≡ body_of t → Peeled t
    later : switch_of s' t ≡ switch_of s' (rest_of t) → has s (switch_of s' (rest_of t)) ≡ false → test_of t && has s' (guard_of t) ≡ false → Peeled t

  peel : (t : Table) → has s (switch_of s' t) ≡ false → Peeled t
  unfolding switch_of choose guard_of test_of body_of rest_of has
  peel (otherwise b) h = absurd (true_false h)
  peel (row g t b ∣ rest) h = by (t && has s' g) refl
    where
      by : (x : Bool) → t && has s' g ≡ x → Peeled (row g t b ∣ rest)
      by true e = this (pick_yes _ g _ e) (both_left t (has s' g) e) (ap (λ (w : Switch). has s w) (sym (pick_yes _ g (switch_of s' rest) e)) ∙ h) (pick_yes _ b _ e)
      by false e = later (pick_no _ g _ e) (ap (λ (w : Switch). has s w) (sym (pick_no _ g (switch_of s' rest) e)) ∙ h) e

  -- A row whose switch is off, or whose test fails, is passed over.
  off_choose : (t : Table) → has s (guard_of t) ≡ false → choose s t ≡ choose s (rest_of t)
  unfolding choose guard_of rest_of
  off_choose (otherwise b) e = refl
  off_choose (row g t b ∣ rest) e = by t (has s g) e
    where
      by : (t a : Bool) → a ≡ false → ◌≡◌ {A = Body} (elim (t && a) [ true ↦ b | false ↦ choose s rest ]) (choose s rest)
      by true true e = absurd (true_false e)
      by true false e = refl
      by false a e = refl

  skip_choose : (t : Table) → test_of t ≡ false → choose s t ≡ choose s (rest_of t)
  unfolding choose test_of rest_of
  skip_choose (otherwise b) e = refl
  skip_choose (row g true b ∣ rest) e = absurd (true_false e)
  skip_choose (row g false b ∣ rest) e = refl

  only_choose : {g : Switch} {t : Table} → Only g t → has s g ≡ false → choose s t ≡ last_of t
  unfolding choose last_of guard_of rest_of
  only_choose only_last e = refl
  only_choose {g} (only_row {t} {b} {rest} o) e = off_choose (row g t b ∣ rest) e ∙ only_choose o e

  only_switch : {g : Switch} {t : Table} → Only g t → has s (switch_of s' t) ≡ false → (switch_of s' t ≡ g) × (has s g ≡ false)
  unfolding switch_of has guard_of rest_of
  only_switch only_last e = absurd (true_false e)
  only_switch {g} (only_row {t} {b} {rest} o) e = by (peel (row g t b ∣ rest) e) (λ h. only_switch o h)
    where
      by : Peeled (row g t b ∣ rest) → (has s (switch_of s' rest) ≡ false → (switch_of s' rest ≡ g) × (has s g ≡ false)) → (switch_of s' (row g t b ∣ rest) ≡ g) × (has s g ≡ false)
      by (this w x y z) ih = (w, y)
      by (later w x y) ih = (w ∙ (ih x).0, (ih x).1)

  unguarded_always : (t : Table) → T (unguarded t) → switch_of s' t ≡ always
  unfolding switch_of unguarded
  unguarded_always (otherwise b) h = refl
  unguarded_always (row always t b ∣ rest) h = by (t && has s' always) (unguarded_always rest h)
    where
      by : (a : Bool) → switch_of s' rest ≡ always → ◌≡◌ {A = Switch} (elim a [ true ↦ always | false ↦ switch_of s' rest ]) always
      by true e = refl
      by false e = e
  unguarded_always (row exp_destruct t b ∣ rest) h = absurd h
  unguarded_always (row exp_object_iteration t b ∣ rest) h = absurd h
  unguarded_always (row exp_null_coaelse t b ∣ rest) h = absurd h

  has_always : {g : Switch} → g ≡ always → has s g ≡ false → ⊥
  unfolding has
  has_always {g} e h = true_false (sym (ap (λ (x : Switch). has s x) e) ∙ h)

  -- Where s lacks the switch g of what s' chooses for phrase q.
  pub data Lacking (q : Phrase) (v : View) : Switch → Type 0 where
    stops : has s exp_null_coaelse ≡ false → Stopper v.kind → choose s (rule prefix q v) ≡ end → Lacking q v exp_null_coaelse
    wants : choose s (rule prefix q v) ≡ fail 5 IDENT → Lacking q v exp_destruct
    iterates : v.kind ≡ L_BRACK → v.kind₁ ≡ IDENT → v.kind₂ ≡ R_BRACK → v.kind₃ ≡ COLON
        → choose s (rule prefix q v) ≡ (sub pattern ▸ eat IN_KW ▸ expression ▸ close 33 [] ▸ end)
        → choose s' (rule prefix q v) ≡ (deep header ▸ goto (iteration (said v.says₁)))
        → Lacking q v exp_object_iteration

  -- expr_suffix at `?`, and expr_bp's loop at `??`, with null-coaelse off.
  suffix_ends : (f : ℕ) (v : View) → has s exp_null_coaelse ≡ false → v.kind ≡ QUESTION_MARK → choose s (rule prefix (suffix f) v) ≡ end
  unfolding rule choose has guard_of rest_of
  suffix_ends f v off e = at_kind (λ (w : View). choose s (rule prefix (suffix f) w) ≡ end) v e (off_choose (rule prefix (suffix f) (with_kind v QUESTION_MARK)) off)

  infix_ends : (m : ℕ) (v : View) → has s exp_null_coaelse ≡ false → v.kind ≡ NULL_COAELSE → choose s (rule prefix (infix_tail m) v) ≡ end
  unfolding rule choose has guard_of rest_of
  infix_ends m v off e =
      at_kind (λ (w : View). choose s (rule prefix (infix_tail m) w) ≡ end) v e (off_choose (rest_of (rule prefix (infix_tail m) (with_kind v NULL_COAELSE))) off)

  and_on : (t : Bool) → t && has s' always ≡ false → t ≡ false
  unfolding has
  and_on true e = e
  and_on false e = refl

  abbrev Lack : Phrase → View → Type 0
  Lack q v = Lacking q v (switch_of s' (rule prefix q v))

  by_suffix : (f : ℕ) (v : View) → Peeled (rule prefix (suffix f) v) → Lack (suffix f) v
  unfolding rule has guard_of test_of rest_of unguarded
  by_suffix f v (this sw t off c) =
      let e : v.kind ≡ QUESTION_MARK = eqb-true v.kind QUESTION_MARK t in
      subst (λ (g : Switch). Lacking (suffix f) v g) (sym sw) (stops off (inl e) (suffix_ends f v off e))
  by_suffix f v (later sw h t) = absurd (has_always (unguarded_always (rest_of (rule prefix (suffix f) v)) tt) h)

  by_infix : (m : ℕ) (v : View) → Peeled (rule prefix (infix_tail m) v) → Lack (infix_tail m) v
  unfolding rule has guard_of test_of rest_of unguarded
  by_infix m v (this sw t off c) = absurd (true_false off)
  by_infix m v (later sw h t) = second sw (peel (rest_of (rule prefix (infix_tail m) v)) h)
    where
      second : switch_of s' (rule prefix (infix_tail m) v) ≡ switch_of s' (rest_of (rule prefix (infix_tail m) v)) → Peeled (rest_of (rule prefix (infix_tail m) v)) → Lack (infix_tail m) v
      second sw₀ (this sw t off c) =
          let e : v.kind ≡ NULL_COAELSE = eqb-true v.kind NULL_COAELSE (both_left (eqb v.kind NULL_COAELSE) (leb m 2) t) in
          subst (λ (g : Switch). Lacking (infix_tail m) v g) (sym (sw₀ ∙ sw)) (stops off (inr e) (infix_ends m v off e))
      second sw₀ (later sw h t) = absurd (has_always (unguarded_always (rest_of (rest_of (rule prefix (infix_tail m) v))) tt) h)

  by_pattern : (v : View) → Peeled (rule prefix pattern v) → Lack pattern v
  unfolding rule has guard_of test_of rest_of last_of
  by_pattern v (this sw t off c) = absurd (true_false off)
  by_pattern v (later sw h t) =
      let only : Only exp_destruct (rest_of (rule prefix pattern v)) = only_row (only_row (only_row (only_row only_last))) in
      let o = only_switch only h in
      subst (λ (g : Switch). Lacking pattern v g) (sym (sw ∙ o.0)) (wants (skip_choose (rule prefix pattern v) (and_on _ t) ∙ only_choose only o.1))

  by_for_clause : (v : View) → Peeled (rule prefix for_clause v) → Lack for_clause v
  unfolding rule has guard_of test_of rest_of body_of switch_of choose
  by_for_clause v (this sw t off c) =
      let a = eqb v.kind L_BRACK in
      let b = eqb v.kind₁ IDENT in
      let d = eqb v.kind₂ R_BRACK in
      let e = eqb v.kind₃ COLON in
      let abd = both_left (a && b && d) e t in
      let ab = both_left (a && b) d abd in
      subst (λ (g : Switch). Lacking for_clause v g) (sym sw)
      (iterates (eqb-true v.kind L_BRACK (both_left a b ab)) (eqb-true v.kind₁ IDENT (both_right a b ab))
      (eqb-true v.kind₂ R_BRACK (both_right (a && b) d abd)) (eqb-true v.kind₃ COLON (both_right (a && b && d) e t))
      (off_choose (rule prefix for_clause v) off) c)
  by_for_clause v (later sw h t) = absurd (true_false h)

  by_switch : {q : Phrase} (v : View) → Switched q → Peeled (rule prefix q v) → Lack q v
  by_switch v (at_infix_tail {m}) p = by_infix m v p
  by_switch v (at_suffix {f}) p = by_suffix f v p
  by_switch v at_pattern p = by_pattern v p
  by_switch v at_for_clause p = by_for_clause v p

  pub lacking : (q : Phrase) (v : View) → has s (switch_of s' (rule prefix q v)) ≡ false → Lack q v
  lacking q v h = by (facts prefix q v)
    where
      none : T (checked prefix q v && unguarded (rule prefix q v)) → Lack q v
      none f = absurd (has_always (unguarded_always (rule prefix q v) (and_right (checked prefix q v) (unguarded (rule prefix q v)) f)) h)

      by : Facts prefix q v → Lack q v
      by (plain f same) = none f
      by (switched w f same) = by_switch v w (peel (rule prefix q v) h)
      by (an_expr e f) = none f
