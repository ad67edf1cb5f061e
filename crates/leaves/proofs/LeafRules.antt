-- What the phrases that read no other phrase go on as, where the code's tests have picked a way.
-- Assumes nothing.
use mathlib.Core.Path.{◌≡◌, refl, ap, subst⁻¹, ◌∙◌}
use mathlib.Core.Bool.{Bool, true, false}
use mathlib.Core.List.{List, [], ◌∷◌}
use Prim.Native.Nat.{ℕ, ◌+◌, ◌-◌}
use native.Mathlib.Omega.{arith}
use lib.Dec.{eqb}
use borrow.Author.Tests.{ne_eqb}
use Rattle.grammar.specs.Trees.{byte, number, span, text}
use Rattle.grammar.specs.Lexemes.{Lexeme, Said, says, spoiled, nothing, good, said, spoiled_at}
use Rattle.grammar.specs.Productions.{Phrase, Body, end, goto, fail, ◌▸◌, eat, leaf, sub, deep, close, rule, exp_destruct, row, Table, otherwise, ◌∣◌}
use Rattle.grammar.specs.Productions.{suffix, member_name, call_close, call_end, basic, string, field, field_named, pattern, array_pattern, object_pattern, array_pattern_close, object_pattern_close, object_rest, object_rest_end}
use Rattle.grammar.specs.Reading.{has, choose}
use Rattle.leaves.specs.Lexing.{Atom, Quoting, double, single, double_verbatim, single_verbatim, block}
use Rattle.leaves.specs.Meets.{power}
use Rattle.leaves.proofs.LexemeLaws.{sight}
use Rattle.leaves.specs.declared.Cursor.{Cursor}

module _ (g : ℕ) (c : Cursor) (xs : List Lexeme) (n : ℕ) where
  -- what a phrase is where the next lexeme has kind k and says t
  abbrev pub is : Phrase → ℕ → Said → Body
  is q k t = choose g (rule (power g) q (sight c xs n k t))

  -- ── Ends of patterns ────────────────────────────────────────────────────────────────────────────

  pub object_pattern_closes : (r : ℕ) (w : List ℕ) (k : ℕ) (t : Said) → is (object_pattern_close r w) k t ≡ eat 28 ▸ close 28 (number n ∷ byte r ∷ text w ∷ []) ▸ end
  unfolding choose rule sight
  object_pattern_closes r w k t = refl

  pub rest_named : (w : List ℕ) → is object_rest 55 (says w) ≡ eat 55 ▸ goto (object_rest_end 2 w)
  unfolding choose rule sight has said
  rest_named w = refl

  pub rest_bare : (k : ℕ) (t : Said) → ¬ (k ≡ 55) → is object_rest k t ≡ goto (object_rest_end 1 [])
  unfolding choose rule sight
  rest_bare k t h = simp (ne_eqb k 55 h)

  pub rest_comma : (r : ℕ) (w : List ℕ) (t : Said) → is (object_rest_end r w) 33 t ≡ eat 33 ▸ goto (object_pattern_close r w)
  unfolding choose rule sight has
  rest_comma r w t = refl

  pub rest_over : (r : ℕ) (w : List ℕ) (k : ℕ) (t : Said) → ¬ (k ≡ 33) → is (object_rest_end r w) k t ≡ goto (object_pattern_close r w)
  unfolding choose rule sight
  rest_over r w k t h = simp (ne_eqb k 33 h)

  -- ── Calls, names of members ─────────────────────────────────────────────────────────────────────

  pub call_closes : (a u m k : ℕ) (t : Said) → is (call_close a u m) k t ≡ eat 26 ▸ goto (call_end a u m)
  unfolding choose rule sight
  call_closes a u m k t = refl

  pub strict : (a u m : ℕ) (t : Said) → is (call_end a u m) 66 t ≡ eat 66 ▸ close 18 (span a c.at ∷ byte 1 ∷ number u ∷ number m ∷ []) ▸ goto (suffix 1)
  unfolding choose rule sight has
  strict a u m t = refl

  pub not_strict : (a u m k : ℕ) (t : Said) → ¬ (k ≡ 66) → is (call_end a u m) k t ≡ close 18 (span a c.at ∷ byte 0 ∷ number u ∷ number m ∷ []) ▸ goto (suffix 1)
  unfolding choose rule sight
  not_strict a u m k t h = simp (ne_eqb k 66 h)

  pub a_member : (f j : ℕ) (w : List ℕ) → is (member_name f j) 55 (says w) ≡ leaf 5 (text w ∷ []) ▸ close 20 (span c.start c.end ∷ byte f ∷ byte j ∷ []) ▸ goto (suffix 0)
  unfolding choose rule sight has said
  a_member f j w = refl

  pub no_member : (f j k : ℕ) (t : Said) → ¬ (k ≡ 55) → is (member_name f j) k t ≡ fail 5 55
  unfolding choose rule sight
  no_member f j k t h = simp (ne_eqb k 55 h)

  -- ── Patterns ────────────────────────────────────────────────────────────────────────────────────

  pub a_name : (w : List ℕ) → is pattern 55 (says w) ≡ leaf 25 (span c.start c.end ∷ text w ∷ []) ▸ end
  unfolding choose rule sight has said
  a_name w = refl

  -- a row whose switch is off
  off_row : (t : Bool) (b : Body) (rest : Table) → has g exp_destruct ≡ false → choose g (row exp_destruct t b ∣ rest) ≡ choose g rest
  unfolding choose
  off_row true b rest e = rw (e, choose) refl
  off_row false b rest e = refl

  pub no_pattern : (k : ℕ) (t : Said) → ¬ (k ≡ 55) → has g exp_destruct ≡ false → is pattern k t ≡ fail 5 55
  unfolding choose rule sight has
  no_pattern k t h off =
      let last = row exp_destruct true (fail 6 2) ∣ otherwise (fail 5 55) in
      let braces = row exp_destruct (eqb k 27) (deep object_pattern ▸ end) ∣ last in
      let brackets = row exp_destruct (eqb k 23) (deep array_pattern ▸ end) ∣ braces in
      simp (ne_eqb k 55 h)
      (off_row (eqb k 36) (leaf 26 [] ▸ end) brackets off ∙ off_row (eqb k 23) (deep array_pattern ▸ end) braces off
      ∙ off_row (eqb k 27) (deep object_pattern ▸ end) last off ∙ off_row true (fail 6 2) (otherwise (fail 5 55)) off)

  pub a_skip : (t : Said) → has g exp_destruct ≡ true → is pattern 36 t ≡ leaf 26 [] ▸ end
  unfolding choose rule sight has
  a_skip t i = rw (i, choose) refl

  pub bad_pattern : (k : ℕ) (t : Said) → ¬ (k ≡ 55) → has g exp_destruct ≡ true → ¬ (k ≡ 36) → ¬ (k ≡ 23) → ¬ (k ≡ 27) → is pattern k t ≡ fail 6 2
  unfolding choose rule sight has
  bad_pattern k t h i a b d = simp (ne_eqb k 55 h, ne_eqb k 36 a, ne_eqb k 23 b, ne_eqb k 27 d) (rw (i, choose) refl)

  -- ── Names of fields, strings ────────────────────────────────────────────────────────────────────

  pub field_name : (w : List ℕ) → is field 55 (says w) ≡ leaf 5 (text w ∷ []) ▸ goto (field_named 0 c.start)
  unfolding choose rule sight has said
  field_name w = refl

  pub field_string : (k : ℕ) (t : Said) → Quoting k → is field k t ≡ sub string ▸ goto (field_named 0 c.start)
  unfolding choose rule sight has
  field_string k t double = refl
  field_string k t single = refl
  field_string k t double_verbatim = refl
  field_string k t single_verbatim = refl
  field_string k t block = refl

  pub good_string : (k : ℕ) (w : List ℕ) → is string k (says w) ≡ leaf 5 (text w ∷ []) ▸ end
  unfolding choose rule sight has said good
  good_string k w = refl

  pub bad_string : (k m : ℕ) → is string k (spoiled m) ≡ fail 9 (c.start + 1 + m)
  unfolding choose rule sight has good spoiled_at
  bad_string k m = refl

  pub basic_string : (k : ℕ) (t : Said) → Quoting k → is basic k t ≡ goto string
  unfolding choose rule sight has
  basic_string k t double = refl
  basic_string k t single = refl
  basic_string k t double_verbatim = refl
  basic_string k t single_verbatim = refl
  basic_string k t block = refl

  -- ── Atoms ───────────────────────────────────────────────────────────────────────────────────────

  pub a_self : (t : Said) → is basic 81 t ≡ leaf 1 (byte 0 ∷ span c.start c.end ∷ []) ▸ end
  unfolding choose rule sight has
  a_self t = refl

  pub a_super : (t : Said) → is basic 82 t ≡ leaf 1 (byte 1 ∷ span c.start c.end ∷ []) ▸ end
  unfolding choose rule sight has
  a_super t = refl

  pub a_dollar : (t : Said) → is basic 34 t ≡ leaf 1 (byte 2 ∷ span c.start c.end ∷ []) ▸ end
  unfolding choose rule sight has
  a_dollar t = refl

  pub a_null : (t : Said) → is basic 78 t ≡ leaf 2 [] ▸ end
  unfolding choose rule sight has
  a_null t = refl

  pub a_true : (t : Said) → is basic 79 t ≡ leaf 3 (byte 1 ∷ []) ▸ end
  unfolding choose rule sight has
  a_true t = refl

  pub a_false : (t : Said) → is basic 80 t ≡ leaf 3 (byte 0 ∷ []) ▸ end
  unfolding choose rule sight has
  a_false t = refl

  pub a_number : (w : List ℕ) → is basic 37 (says w) ≡ leaf 4 (text w ∷ []) ▸ end
  unfolding choose rule sight has good said
  a_number w = refl

  pub large_number : is basic 37 nothing ≡ fail 17 0
  unfolding choose rule sight has good
  large_number = refl

  pub a_variable : (w : List ℕ) → is basic 55 (says w) ≡ leaf 6 (span c.start c.end ∷ text w ∷ []) ▸ end
  unfolding choose rule sight has said
  a_variable w = refl

-- no row of a string's
no_strings : {k : ℕ} → (Quoting k → ⊥) → (¬ (k ≡ 41)) × (¬ (k ≡ 43)) × (¬ (k ≡ 45)) × (¬ (k ≡ 47)) × (¬ (k ≡ 50))
no_strings f = (
  λ e. f (subst⁻¹ Quoting e double),
  λ e. f (subst⁻¹ Quoting e single),
  λ e. f (subst⁻¹ Quoting e double_verbatim),
  λ e. f (subst⁻¹ Quoting e single_verbatim),
  λ e. f (subst⁻¹ Quoting e block),
)

module _ (g : ℕ) (c : Cursor) (xs : List Lexeme) (n : ℕ) where
  pub array_pattern_closes : (m r : ℕ) (w : List ℕ) (k : ℕ) (t : Said)
      → choose g (rule (power g) (array_pattern_close n r w) (sight c xs (n + m) k t)) ≡ eat 24 ▸ close 27 (number n ∷ byte r ∷ number m ∷ text w ∷ []) ▸ end
  unfolding choose rule sight
  array_pattern_closes m r w k t =
      let e : n + m - n ≡ m = omega arith in
      ap (λ (j : ℕ). eat 24 ▸ close 27 (number n ∷ byte r ∷ number j ∷ text w ∷ []) ▸ end) e

  pub no_field : (k : ℕ) (t : Said) → ¬ (k ≡ 55) → (Quoting k → ⊥) → ¬ (k ≡ 23) → is g c xs n field k t ≡ fail 6 1
  unfolding choose rule sight
  no_field k t h f b =
      let q = no_strings f in
      simp (ne_eqb k 55 h, ne_eqb k 41 q.0, ne_eqb k 43 q.1, ne_eqb k 45 q.2, ne_eqb k 47 q.3, ne_eqb k 50 q.4, ne_eqb k 23 b)

  -- none of those of one lexeme, given as the code tests them, none of the others, and no string
  pub no_atom : (k : ℕ) (t : Said) → Atom k → ¬ (k ≡ 81) → ¬ (k ≡ 82) → ¬ (k ≡ 34) → ¬ (k ≡ 78) → ¬ (k ≡ 79) → ¬ (k ≡ 80) → ¬ (k ≡ 37) → ¬ (k ≡ 55) → (Quoting k → ⊥)
      → is g c xs n basic k t ≡ fail 7 0
  unfolding choose rule sight
  no_atom k t o h₁ h₂ h₃ h₄ h₅ h₆ h₇ h₈ f =
      let q = no_strings f in
      simp (
        ne_eqb k 81 h₁,
        ne_eqb k 82 h₂,
        ne_eqb k 34 h₃,
        ne_eqb k 78 h₄,
        ne_eqb k 79 h₅,
        ne_eqb k 80 h₆,
        ne_eqb k 37 h₇,
        ne_eqb k 55 h₈,
        ne_eqb k 41 q.0,
        ne_eqb k 43 q.1,
        ne_eqb k 45 q.2,
        ne_eqb k 47 q.3,
        ne_eqb k 50 q.4,
        ne_eqb k 25 o.0,
        ne_eqb k 23 o.1,
        ne_eqb k 27 o.2,
        ne_eqb k 67 o.3,
        ne_eqb k 71 o.4,
        ne_eqb k 74 o.5,
        ne_eqb k 84 o.6,
        ne_eqb k 75 o.7,
        ne_eqb k 68 o.8,
        ne_eqb k 69 o.9,
        ne_eqb k 70 o.10,
      )
