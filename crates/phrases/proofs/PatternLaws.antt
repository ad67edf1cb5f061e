-- Laws of patterns: what their phrases go on as, and the stretch over a field's name.
-- Assumes nothing.
use Rattle.std.specs.Prelude.{Ok, Err}
use mathlib.Core.Path.{◌≡◌, refl, sym, ap, subst⁻¹, ◌∙◌}
use mathlib.Core.Bool.{true}
use mathlib.Core.Logic.{◌⊎◌, inl, inr}
use mathlib.Core.List.{List, [], ◌∷◌}
use Prim.Native.Nat.{ℕ, ◌-◌}
use native.Mathlib.Omega.{arith}
use lib.Dec.{lit<, lit≤}
use lib.Seq.{slice}
use borrow.Author.Tests.{ne_eqb}
use Rattle.grammar.specs.Trees.{byte, span, text, Trees, count as size}
use Rattle.grammar.specs.Lexemes.{Lexeme, Said, says, said, kind_of, word_of}
use Rattle.grammar.specs.Productions.{Phrase, Body, end, goto, ◌▸◌, eat, sub, deep, close, rule, expression, exp_destruct}
use Rattle.grammar.specs.Productions.{pattern, array_pattern, object_pattern, pattern_starts, pattern_starts_end, array_rest, array_rest_end, pattern_ends, pattern_ends_end, array_pattern_close, pattern_field, pattern_into, pattern_default, default_value, default_end, pattern_fields, pattern_fields_end, object_pattern_close, object_rest}
use Rattle.grammar.specs.Reading.{has, choose, production, view, done, broken, Reading, ended, gone, eaten}
use Rattle.leaves.specs.Lexing.{Stands, Moved}
use Rattle.leaves.specs.Meets.{power, state, Seg, Eats, Breaks, Leads, Takes, Answer, reached}
use Rattle.leaves.proofs.LexemeLaws.{sight, lies, sees, name_says}
use Rattle.leaves.proofs.LeafRules.{is}
use Rattle.leaves.proofs.Steps
use Rattle.leaves.specs.declared.Cursor.{Cursor}
use Rattle.leaves.specs.declared.Done.{Done}
use Rattle.leaves.specs.declared.Refusal.{Refusal}

module _ (g : ℕ) (c : Cursor) (xs : List Lexeme) (n : ℕ) where
  -- ── The rest of an array ────────────────────────────────────────────────────────────────────────

  pub array_rest_named : (w : List ℕ) → is g c xs n (array_rest n) 55 (says w) ≡ eat 55 ▸ goto (array_rest_end n 2 w)
  unfolding choose rule sight has said
  array_rest_named w = refl

  pub array_rest_bare : (k : ℕ) (t : Said) → ¬ (k ≡ 55) → is g c xs n (array_rest n) k t ≡ goto (array_rest_end n 1 [])
  unfolding choose rule sight
  array_rest_bare k t h = simp (ne_eqb k 55 h)

  -- ── One field of an object ──────────────────────────────────────────────────────────────────────

  pub into_pattern : (w : List ℕ) (t : Said) → is g c xs n (pattern_into w) 29 t ≡ eat 29 ▸ sub pattern ▸ goto (pattern_default 1 w)
  unfolding choose rule sight has
  into_pattern w t = refl

  pub into_none : (w : List ℕ) (k : ℕ) (t : Said) → ¬ (k ≡ 29) → is g c xs n (pattern_into w) k t ≡ goto (pattern_default 0 w)
  unfolding choose rule sight
  into_none w k t h = simp (ne_eqb k 29 h)

  pub default_some : (h : ℕ) (w : List ℕ) (t : Said) → is g c xs n (pattern_default h w) 35 t ≡ eat 35 ▸ goto (default_value h w)
  unfolding choose rule sight has
  default_some h w t = refl

  pub default_none : (h : ℕ) (w : List ℕ) (k : ℕ) (t : Said) → ¬ (k ≡ 35) → is g c xs n (pattern_default h w) k t ≡ close 29 (byte h ∷ byte 0 ∷ span 0 0 ∷ text w ∷ []) ▸ end
  unfolding choose rule sight
  default_none h w k t i = simp (ne_eqb k 35 i)

  pub default_is : (h : ℕ) (w : List ℕ) (k : ℕ) (t : Said) → is g c xs n (default_value h w) k t ≡ expression ▸ goto (default_end h w c.start)
  unfolding choose rule sight
  default_is h w k t = refl

  pub default_ends : (h : ℕ) (w : List ℕ) (a k : ℕ) (t : Said) → is g c xs n (default_end h w a) k t ≡ close 29 (byte h ∷ byte 1 ∷ span a c.at ∷ text w ∷ []) ▸ end
  unfolding choose rule sight
  default_ends h w a k t = refl

module _ (g : ℕ) (c : Cursor) (xs : List Lexeme) (n : ℕ) where
  -- ── The fields of an object ─────────────────────────────────────────────────────────────────────

  pub fields_close : (t : Said) → is g c xs n pattern_fields 28 t ≡ goto (object_pattern_close 0 [])
  unfolding choose rule sight has
  fields_close t = refl

  pub fields_rest : (t : Said) → is g c xs n pattern_fields 32 t ≡ eat 32 ▸ goto object_rest
  unfolding choose rule sight has
  fields_rest t = refl

  pub fields_one : (k : ℕ) (t : Said) → ¬ (k ≡ 28) → ¬ (k ≡ 32) → is g c xs n pattern_fields k t ≡ sub pattern_field ▸ goto pattern_fields_end
  unfolding choose rule sight
  fields_one k t h i = simp (ne_eqb k 28 h, ne_eqb k 32 i)

  pub fields_more : (t : Said) → is g c xs n pattern_fields_end 33 t ≡ eat 33 ▸ goto pattern_fields
  unfolding choose rule sight has
  fields_more t = refl

  pub fields_over : (k : ℕ) (t : Said) → ¬ (k ≡ 33) → is g c xs n pattern_fields_end k t ≡ goto (object_pattern_close 0 [])
  unfolding choose rule sight
  fields_over k t h = simp (ne_eqb k 33 h)

-- ── Patterns one level deeper ─────────────────────────────────────────────────────────────────────

module _ (g : ℕ) (c : Cursor) (xs : List Lexeme) (n : ℕ) where
  pub an_array : (t : Said) → has g exp_destruct ≡ true → is g c xs n pattern 23 t ≡ deep array_pattern ▸ end
  unfolding choose rule sight has
  an_array t i = rw (i, choose) refl

  pub an_object : (t : Said) → has g exp_destruct ≡ true → is g c xs n pattern 27 t ≡ deep object_pattern ▸ end
  unfolding choose rule sight has
  an_object t i = rw (i, choose) refl

  array_opens : (k : ℕ) (t : Said) → is g c xs n array_pattern k t ≡ eat 23 ▸ goto pattern_starts
  unfolding choose rule sight
  array_opens k t = refl

  object_opens : (k : ℕ) (t : Said) → is g c xs n object_pattern k t ≡ eat 27 ▸ goto pattern_fields
  unfolding choose rule sight
  object_opens k t = refl

  -- ── The patterns before an array's rest ─────────────────────────────────────────────────────────

  pub starts_close : (t : Said) → is g c xs n pattern_starts 24 t ≡ goto (array_pattern_close n 0 [])
  unfolding choose rule sight has
  starts_close t = refl

  pub starts_rest : (t : Said) → is g c xs n pattern_starts 32 t ≡ eat 32 ▸ goto (array_rest n)
  unfolding choose rule sight has
  starts_rest t = refl

  pub starts_one : (k : ℕ) (t : Said) → ¬ (k ≡ 24) → ¬ (k ≡ 32) → is g c xs n pattern_starts k t ≡ sub pattern ▸ goto pattern_starts_end
  unfolding choose rule sight
  starts_one k t h i = simp (ne_eqb k 24 h, ne_eqb k 32 i)

  pub starts_more : (t : Said) → is g c xs n pattern_starts_end 33 t ≡ eat 33 ▸ goto pattern_starts
  unfolding choose rule sight has
  starts_more t = refl

  pub starts_over : (k : ℕ) (t : Said) → ¬ (k ≡ 33) → is g c xs n pattern_starts_end k t ≡ goto (array_pattern_close n 0 [])
  unfolding choose rule sight
  starts_over k t h = simp (ne_eqb k 33 h)

pub no_name : {k : ℕ} → (k ≡ 23) ⊎ (k ≡ 27) → ¬ (k ≡ 55)
no_name (inl h) e = omega (arith, h, e)
no_name (inr h) e = omega (arith, h, e)

module _ {g : ℕ} {s : List ℕ} {d w : ℕ} {c : Cursor} {o : List ℕ} where
  -- what stands inside brackets or braces is the pattern
  pub in_brackets : {c₁ : Cursor} {o₁ : List ℕ} {a : Answer} → Stands s c → c.kind ≡ 23 → has g exp_destruct ≡ true → ¬ (d ≡ 0) → Moved s c c₁
      → Leads g s (d - 1) (state (goto pattern_starts) 0 c₁ w o) 0 end 1 a o₁ → Takes g s (sub pattern) 1 0 d c w o a o₁
  in_brackets st k i h mv m =
      let opened = Steps.known (eat 23 ▸ goto pattern_starts) st k (λ xs t. array_opens g c xs 0 23 t) (Steps.at g s (d - 1) (goto array_pattern) 0 c w o) in
      let inner = Steps.as_deep {q = array_pattern} h (Steps.tail (lit≤ tt) m (Steps.taken (lit< tt) st mv k opened)) in
      Steps.as_sub (Steps.tail (lit≤ tt) (inner.takes end 0) (Steps.known (deep array_pattern ▸ end) st k (λ xs t. an_array g c xs 0 t i) (Steps.at g s d (goto pattern) 0 c w o)))

  pub in_braces : {c₁ : Cursor} {o₁ : List ℕ} {a : Answer} → Stands s c → c.kind ≡ 27 → has g exp_destruct ≡ true → ¬ (d ≡ 0) → Moved s c c₁
      → Leads g s (d - 1) (state (goto pattern_fields) 0 c₁ w o) 0 end 1 a o₁ → Takes g s (sub pattern) 1 0 d c w o a o₁
  in_braces st k i h mv m =
      let opened = Steps.known (eat 27 ▸ goto pattern_fields) st k (λ xs t. object_opens g c xs 0 27 t) (Steps.at g s (d - 1) (goto object_pattern) 0 c w o) in
      let inner = Steps.as_deep {q = object_pattern} h (Steps.tail (lit≤ tt) m (Steps.taken (lit< tt) st mv k opened)) in
      Steps.as_sub (Steps.tail (lit≤ tt) (inner.takes end 0) (Steps.known (deep object_pattern ▸ end) st k (λ xs t. an_object g c xs 0 t i) (Steps.at g s d (goto pattern) 0 c w o)))

  -- no level is left for it
  pub none_deeper : Stands s c → (c.kind ≡ 23) ⊎ (c.kind ≡ 27) → has g exp_destruct ≡ true → d ≡ 0 → Breaks g s d (state (goto pattern) 0 c w o) (record { number = 11; place = c; detail = 0 })
  none_deeper st (inl k) i h =
      Steps.breaks_on (Steps.too_deep h st) (Steps.known (deep array_pattern ▸ end) st k (λ xs t. an_array g c xs 0 t i) (Steps.at g s d (goto pattern) 0 c w o))
  none_deeper st (inr k) i h =
      Steps.breaks_on (Steps.too_deep h st) (Steps.known (deep object_pattern ▸ end) st k (λ xs t. an_object g c xs 0 t i) (Steps.at g s d (goto pattern) 0 c w o))

-- ── The patterns after an array's rest ────────────────────────────────────────────────────────────

-- where a pattern, or the rest itself, has ended
pub data Ending (m r : ℕ) (w : List ℕ) : Phrase → Type 0 where
  at_rest : Ending m r w (array_rest_end m r w)
  at_pattern : Ending m r w (pattern_ends_end m r w)

module _ (g : ℕ) (c : Cursor) (xs : List Lexeme) (n m r : ℕ) (w : List ℕ) where
  pub ending_comma : {q : Phrase} (t : Said) → Ending m r w q → is g c xs n q 33 t ≡ eat 33 ▸ goto (pattern_ends m r w)
  unfolding choose rule sight has
  ending_comma t at_rest = refl
  ending_comma t at_pattern = refl

  pub ending_over : {q : Phrase} (k : ℕ) (t : Said) → Ending m r w q → ¬ (k ≡ 33) → is g c xs n q k t ≡ goto (array_pattern_close m r w)
  unfolding choose rule sight
  ending_over k t at_rest h = simp (ne_eqb k 33 h)
  ending_over k t at_pattern h = simp (ne_eqb k 33 h)

  pub ends_close : (t : Said) → is g c xs n (pattern_ends m r w) 24 t ≡ goto (array_pattern_close m r w)
  unfolding choose rule sight has
  ends_close t = refl

  pub ends_one : (k : ℕ) (t : Said) → ¬ (k ≡ 24) → is g c xs n (pattern_ends m r w) k t ≡ sub pattern ▸ goto (pattern_ends_end m r w)
  unfolding choose rule sight
  ends_one k t h = simp (ne_eqb k 24 h)

-- ── A field's name: the production has its bytes, whatever stands there ───────────────────────────

field_is : (g p : ℕ) (xs : List Lexeme) (n : ℕ) → production (power g) g pattern_field p xs n ≡ eat 55 ▸ goto (pattern_into (said (word_of xs)))
unfolding production view choose rule
field_is g p xs n = refl

kind_eaten : {g : ℕ} {k d p p₁ : ℕ} {b : Body} {ts ts₁ : Trees} {xs xs₁ : List Lexeme} → Reading (power g) g (eat k ▸ b) ts d p xs (done ts₁ p₁ xs₁) → kind_of xs ≡ k
kind_eaten (eaten e r) = e

module _ {g : ℕ} {s : List ℕ} {d : ℕ} {n w : ℕ} {c : Cursor} {o : List ℕ} {a : Answer} where
  pub field_named : {y : Done} → Stands s c → Eats s 55 c w a → a ≡ Ok y
      → Seg g s d (state (goto pattern_field) n c w o) (c.end - c.at) 0 (state (goto (pattern_into (slice c.start c.end s))) n y.0 y.1 o)
  unfolding said
  field_named {y = there} st m q =
      let name = slice c.start c.end s in
      let p = Steps.ate m q (Steps.at g s d (eat 55 ▸ goto (pattern_into name)) n c w o) in
      let p₂ = Steps.ate m q (Steps.at g s d (eat 55 ▸ end) n c w o) in
      let x = m.moved there.0 there.1 there.2 q in
      let l = lies st in
      record {
        bytes = p.bytes;
        trees = p.trees;
        counted = p.counted;
        imaged = p.imaged;
        run = λ ts xs z h.
            let r = p.run ts xs z h in
            let r₂ = p₂.run ts xs z h in
            let y = sees st refl h in
            let k : c.kind ≡ 55 = sym y.kind ∙ kind_eaten (r₂.back (done (p₂.trees ts) there.0.at r₂.left) ended) in
            let e : said (word_of xs) ≡ name = ap said (name_says k (y.says (λ i. omega (arith, k, i)))) in
            let f : production (power g) g pattern_field c.at xs (size ts) ≡ eat 55 ▸ goto (pattern_into name) =
            field_is g c.at xs (size ts) ∙ ap (λ (v : List ℕ). eat 55 ▸ goto (pattern_into v)) e in
            record {
              left = r.left;
              kept = r.kept;
              back = λ u v. gone (subst⁻¹ (λ (b : Body). Reading (power g) g b ts d c.at xs u) f (r.back u v));
            };
        stored = p.stored;
        wrote = p.wrote;
        stands = p.stands;
        onward = omega (arith, x.0, x.2, l.from, l.on);
        credit = omega (arith, x.0, x.1, x.2, l.from, l.on);
      }

  pub field_broken : {a′ : Answer} {r : Refusal} → Eats s 55 c w a → a ≡ Err r → a′ ≡ Err r → (r : Refusal) × (a′ ≡ Err r) × Breaks g s d (state (goto pattern_field) n c w o) r
  field_broken {r = r} m q e = (
    r,
    e,
    record {
      breaks = λ ts xs z l.
          let h = Steps.refused ((m.eats g d o).takes (goto (pattern_into (said (word_of xs)))) n) q in
          let t = h.breaks ts xs z l in
          record {
            left = t.left;
            kept = t.kept;
            reading = gone (subst⁻¹ (λ (b : Body). Reading (power g) g b ts d c.at xs (broken r.number r.place.at t.left r.detail)) (field_is g c.at xs (size ts)) t.reading);
          };
      stands = (Steps.refused ((m.eats g d o).takes end n) q).stands;
    },
  )
