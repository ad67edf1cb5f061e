-- Laws that suffixes and arguments rest on.
-- Assumes nothing.
use Rattle.std.specs.Prelude.{Err}
use mathlib.Core.Path.{◌≡◌, refl, sym, ap, ap₂, subst, ◌∙◌}
use mathlib.Core.Bool.{Bool, true, false, ◌&&◌, not}
use mathlib.Core.List.{List, [], ◌∷◌}
use Prim.Native.Nat.{ℕ, ◌+◌, ◌-◌, ◌*◌, ◌≤◌}
use native.Mathlib.Omega.{arith}
use lib.Dec.{eqb, lit<, lit≤}
use lib.Seq.{slice, length-slice}
use borrow.Author.Tests.{eq-eqb, ne_eqb, not-true, not-false}
use Rattle.grammar.specs.Trees.{text}
use Rattle.grammar.specs.Image.{entry, payload}
use Rattle.grammar.specs.Lexemes.{Lexeme, Said, said, rest, kind_of, word_of}
use Rattle.grammar.specs.Writing.{Wrote}
use Rattle.grammar.specs.Reading.{choose, has}
use Rattle.grammar.specs.Productions.{Body, end, goto, fail, ◌▸◌, eat, sub, close, rule, expression, arguments, argument, argument_end, call_close, named_argument, suffix, member_name, bracket as bracket-phrase, inside, exp_null_coaelse}
use Rattle.grammar.proofs.Chosen.{pick_yes, pick_no}
use Rattle.leaves.specs.Lexing.{Stands, Moved, Named, named, no_name, no_value, Suffixed, mark, dot, bracket, paren, brace, no_mark, none as no_suffix}
use Rattle.leaves.specs.Meets.{power, State, state, Seg, Takes, Tells, TellsSome, Breaks, Argues, safely, Answer, reached}
use Rattle.leaves.proofs.LexemeLaws.{lies, Sees, sees_next, sight, seen, moved_once}
use Rattle.leaves.proofs.LeafLaws.{done_once, not_both}
use Rattle.leaves.proofs.Steps
use Rattle.leaves.specs.declared.Cursor.{Cursor}
use Rattle.leaves.specs.declared.Refusal.{Refusal}

-- ── Arguments ─────────────────────────────────────────────────────────────────────────────────────

-- a named one
pub is_named : {s : List ℕ} {c c₁ : Cursor} {k : ℕ} → Named s c k → ¬ (k ≡ 0) → Moved s c c₁ → (c.kind ≡ 55) × (c₁.kind ≡ 35) × (k ≡ 1)
is_named (named a mv b) h m = (a, ap (λ (x : Cursor). x.kind) (moved_once m mv) ∙ b, refl)
is_named (no_name f) h m = absurd (h refl)
is_named (no_value a mv f) h m = absurd (h refl)

-- what a test of two lexemes finds
pub not_two : {s : List ℕ} {c : Cursor} {k : ℕ} {xs : List Lexeme} → Named s c k → k ≡ 0 → Sees s c xs → eqb c.kind 55 && eqb (kind_of (rest xs)) 35 ≡ false
not_two (named a mv b) e y = absurd (omega (arith, e))
not_two {c = c} (no_name f) e y = simp (ne_eqb c.kind 55 f)
not_two {c = c} {xs = xs} (no_value a mv f) e y =
    let z = ne_eqb (kind_of (rest xs)) 35 (λ q. f (sym (sees_next y mv).kind ∙ q)) in
    ap₂ (λ (p q : Bool). p && q) (eq-eqb c.kind 55 a) z

module _ (g : ℕ) (c : Cursor) (xs : List Lexeme) (n a u m : ℕ) (t : Said) where
  two_named : kind_of (rest xs) ≡ 35 → choose g (rule (power g) (argument a u m) (sight c xs n 55 t)) ≡ sub named_argument ▸ goto (argument_end a u (m + 1))
  unfolding choose rule sight has
  two_named e = pick_yes _ _ _ (ap (λ (x : ℕ). (true && eqb x 35) && true) e)

  two-plain : (k : ℕ) → eqb k 55 && eqb (kind_of (rest xs)) 35 ≡ false → m ≡ 0 → choose g (rule (power g) (argument a u m) (sight c xs n k t)) ≡ expression ▸ goto (argument_end a (u + 1) m)
  unfolding choose rule sight has
  two-plain k e z = pick_no _ _ _ (ap (λ (x : Bool). x && true) e) ∙ pick_yes _ _ _ (ap (λ (x : Bool). x && true) (eq-eqb m 0 z))

  two_fault : (k : ℕ) → eqb k 55 && eqb (kind_of (rest xs)) 35 ≡ false → ¬ (m ≡ 0) → choose g (rule (power g) (argument a u m) (sight c xs n k t)) ≡ fail 8 1
  unfolding choose rule sight has
  two_fault k e z = pick_no _ _ _ (ap (λ (x : Bool). x && true) e) ∙ pick_no _ _ _ (ap (λ (x : Bool). x && true) (ne_eqb m 0 z))

module _ {g : ℕ} {s : List ℕ} {d : ℕ} {c : Cursor} {w : ℕ} {o : List ℕ} where
  -- one without a name, where none before it has one
  pub argues_plain : {m k : ℕ} {r : Answer} {o₁ : List ℕ} → Stands s c → Named s c k → k ≡ 0 → m ≡ 0 → Takes g s expression 1 0 d c w o r o₁ → Argues g s d m k c w o r o₁
  argues_plain {m} {k} st h e z r =
      record {
        argues = λ a u n.
            let p = Steps.goes (expression ▸ goto (argument_end a (u + 1) m)) st (λ xs y. seen (power g) g (argument a u m) n y refl refl ∙ two-plain g c xs n a u m (word_of xs) c.kind (not_two h e y) z)
            (Steps.at g s d (goto (argument a u m)) n c w o) in
            let q : expression ▸ goto (argument_end a (u + 1) m) ≡ expression ▸ goto (argument_end a (u + (1 - k)) (m + k)) =
            ap₂ (λ (i j : ℕ). expression ▸ goto (argument_end a i j)) (omega (arith, e)) (omega (arith, e)) in
            Steps.tail (omega arith) (r.takes (goto (argument_end a (u + (1 - k)) (m + k))) n) (Steps.body_is q p);
      }

  -- where one before it has
  pub argues_fault : {m k : ℕ} {r : Answer} {o₁ : List ℕ} → Stands s c → Named s c k → k ≡ 0 → ¬ (m ≡ 0) → r ≡ Err (record { number = 8; place = c; detail = 1 }) → Argues g s d m k c w o r o₁
  argues_fault {m} {k} st h e z r =
      record {
        argues = λ a u n.
            let p = Steps.goes (fail 8 1) st (λ xs y. seen (power g) g (argument a u m) n y refl refl ∙ two_fault g c xs n a u m (word_of xs) c.kind (not_two h e y) z)
            (Steps.at g s d (goto (argument a u m)) n c w o) in
            Steps.broke (Steps.fails st p) r;
      }

  -- one with a name
  pub argues_named : {m k : ℕ} {c₁ : Cursor} {r : Answer} {o₁ : List ℕ} → Stands s c → c.kind ≡ 55 → Moved s c c₁ → c₁.kind ≡ 35 → k ≡ 1 → Takes g s (sub named_argument) 1 0 d c w o r o₁ → Argues g s d m k c w o r o₁
  argues_named {m} {k} st i mv j e r =
      record {
        argues = λ a u n.
            let p = Steps.goes (sub named_argument ▸ goto (argument_end a u (m + 1))) st
            (λ xs y. seen (power g) g (argument a u m) n y i refl ∙ two_named g c xs n a u m (word_of xs) ((sees_next y mv).kind ∙ j)) (Steps.at g s d (goto (argument a u m)) n c w o) in
            let q : sub named_argument ▸ goto (argument_end a u (m + 1)) ≡ sub named_argument ▸ goto (argument_end a (u + (1 - k)) (m + k)) =
            ap₂ (λ (x y : ℕ). sub named_argument ▸ goto (argument_end a x y)) (omega (arith, e)) (omega (arith, e)) in
            Steps.tail (omega arith) (r.takes (goto (argument_end a (u + (1 - k)) (m + k))) n) (Steps.body_is q p);
      }

  -- its name and `=`
  pub name_taken : {c₁ c₂ : Cursor} → Stands s c → c.kind ≡ 55 → Moved s c c₁ → c₁.kind ≡ 35 → Moved s c₁ c₂
      → Seg g s d (state (goto named_argument) 0 c w o) (0 + (c.end - c.at) + 1) 0 (state (expression ▸ close 19 (text (slice c.start c.end s) ∷ []) ▸ end) 0 c₂ w o)
  unfolding choose rule sight has said
  name_taken st i mv j mv₁ =
      let p = Steps.called (eat 55 ▸ eat 35 ▸ expression ▸ close 19 (text (slice c.start c.end s) ∷ []) ▸ end) st i (λ xs. refl) (Steps.at g s d (goto named_argument) 0 c w o) in
      Steps.taken (lit< tt) mv.stands mv₁ j (Steps.taken_of (c.end - c.at) (omega arith) st mv i p)

  -- and its record
  pub name_closed : {w₁ w₂ j e : ℕ} {c₂ : Cursor} {o₁ o₂ : List ℕ} → Stands s c → c.end - c.at + 1 ≤ e
      → Seg g s d (state (goto named_argument) 0 c w o) e 0 (state (close 19 (text (slice c.start c.end s) ∷ []) ▸ end) 1 c₂ w₁ o₁)
      → Wrote o₁ w₁ (entry 19 (text (slice c.start c.end s) ∷ [])) w₂ o₂
      → Takes g s (sub named_argument) 1 0 d c w o (reached c₂ w₂ j) o₂
  unfolding entry payload
  name_closed st h p u =
      let l = lies st in
      Steps.as_sub (Steps.ends (omega (arith, h, l.from)) (Steps.closed (3 + (c.end - c.start)) (omega (arith, length-slice c.start c.end s l.within)) u p))

-- how many are named
pub named_few : {s : List ℕ} {c : Cursor} {k : ℕ} → Named s c k → k ≤ 1
named_few (named a mv b) = lit≤ tt
named_few (no_name f) = lit≤ tt
named_few (no_value a mv f) = lit≤ tt

module _ {g : ℕ} {s : List ℕ} {d : ℕ} {from : State} {e v a u m n w : ℕ} {c : Cursor} {o : List ℕ} where
  -- the list is over
  pub arguments_over : Stands s c → c.kind ≡ 26 → Seg g s d from e v (state (goto (arguments a u m)) n c w o) → Seg g s d from e v (state (goto (call_close a u m)) n c w o)
  unfolding choose rule sight has
  arguments_over st k p = Steps.known (goto (call_close a u m)) st k (λ xs t. refl) p

  -- or goes on with an argument
  pub arguments_on : Stands s c → ¬ (c.kind ≡ 26) → Seg g s d from e v (state (goto (arguments a u m)) n c w o) → Seg g s d from e v (state (goto (argument a u m)) n c w o)
  unfolding choose rule sight has
  arguments_on st k p = Steps.known (goto (argument a u m)) st refl (λ xs t. simp (ne_eqb _ 26 k)) p

  -- after an argument
  pub argument_over : Stands s c → ¬ (c.kind ≡ 33) → Seg g s d from e v (state (goto (argument_end a u m)) n c w o) → Seg g s d from e v (state (goto (call_close a u m)) n c w o)
  unfolding choose rule sight has
  argument_over st k p = Steps.known (goto (call_close a u m)) st refl (λ xs t. simp (ne_eqb _ 33 k)) p

  pub argument_on : {c₁ : Cursor} → Stands s c → c.kind ≡ 33 → Moved s c c₁ → Seg g s d from e v (state (goto (argument_end a u m)) n c w o)
      → Seg g s d from (e + 1) v (state (goto (arguments a u m)) n c₁ w o)
  unfolding choose rule sight has
  argument_on st k mv p = Steps.taken (lit< tt) st mv k (Steps.known (eat 33 ▸ goto (arguments a u m)) st k (λ xs t. refl) p)

-- ── Suffixes ──────────────────────────────────────────────────────────────────────────────────────

-- what is known of a kind that a suffix begins with
pub at_question : {g k : ℕ} → Suffixed g k true → k ≡ 36 → has g exp_null_coaelse ≡ true
at_question (mark a h) e = h
at_question (dot a) e = absurd (omega (arith, a, e))
at_question (bracket a) e = absurd (omega (arith, a, e))
at_question (paren a) e = absurd (omega (arith, a, e))
at_question (brace a) e = absurd (omega (arith, a, e))

pub at_brace : {g k : ℕ} → Suffixed g k true → ¬ (k ≡ 36) → ¬ (k ≡ 31) → ¬ (k ≡ 23) → ¬ (k ≡ 25) → k ≡ 27
at_brace (mark a h) p q r s = absurd (p a)
at_brace (dot a) p q r s = absurd (q a)
at_brace (bracket a) p q r s = absurd (r a)
at_brace (paren a) p q r s = absurd (s a)
at_brace (brace a) p q r s = a

module _ (g : ℕ) (c : Cursor) (xs : List Lexeme) (n f : ℕ) (t : Said) where
  mark_off : has g exp_null_coaelse ≡ false → choose g (rule (power g) (suffix f) (sight c xs n 36 t)) ≡ end
  unfolding choose rule sight has
  mark_off h = pick_no _ _ _ h

  nothing_more : (k : ℕ) → ¬ (k ≡ 36) → ¬ (k ≡ 31) → ¬ (k ≡ 23) → ¬ (k ≡ 25) → ¬ (k ≡ 27) → choose g (rule (power g) (suffix f) (sight c xs n k t)) ≡ end
  unfolding choose rule sight has
  nothing_more k h₁ h₂ h₃ h₄ h₅ =
      pick_no _ _ _ (ap (λ (x : Bool). x && has g exp_null_coaelse) (ne_eqb k 36 h₁))
      ∙ pick_no _ _ _ (ap (λ (x : Bool). x && true) (ne_eqb k 31 h₂))
      ∙ pick_no _ _ _ (ap (λ (x : Bool). x && true) (ne_eqb k 23 h₃))
      ∙ pick_no _ _ _ (ap (λ (x : Bool). x && true) (ne_eqb k 25 h₄))
      ∙ pick_no _ _ _ (ap (λ (x : Bool). x && true) (ne_eqb k 27 h₅))

module _ {g : ℕ} {s : List ℕ} {d : ℕ} {from : State} {e v f n w : ℕ} {c : Cursor} {o : List ℕ} where
  pub past-question : {c₁ : Cursor} → Stands s c → Moved s c c₁ → has g exp_null_coaelse ≡ true → c.kind ≡ 36 → Seg g s d from e v (state (goto (suffix f)) n c w o)
      → Seg g s d from (e + 1) v (state (safely f) n c₁ w o)
  unfolding choose rule sight
  past-question st mv h k p = Steps.taken (lit< tt) st mv k (Steps.known (eat 36 ▸ safely f) st k (λ xs t. pick_yes _ _ _ h) p)

  pub past_dot : {c₁ : Cursor} → Stands s c → Moved s c c₁ → c.kind ≡ 31 → Seg g s d from e v (state (goto (suffix f)) n c w o)
      → Seg g s d from (e + 1) v (state (goto (member_name f 0)) n c₁ w o)
  unfolding choose rule sight has
  past_dot st mv k p = Steps.taken (lit< tt) st mv k (Steps.known (eat 31 ▸ goto (member_name f 0)) st k (λ xs t. refl) p)

  pub past_bracket : {c₁ : Cursor} → Stands s c → Moved s c c₁ → c.kind ≡ 23 → Seg g s d from e v (state (goto (suffix f)) n c w o)
      → Seg g s d from (e + 1) v (state (goto (bracket-phrase f)) n c₁ w o)
  unfolding choose rule sight has
  past_bracket st mv k p = Steps.taken (lit< tt) st mv k (Steps.known (eat 23 ▸ goto (bracket-phrase f)) st k (λ xs t. refl) p)

  pub past_paren : {c₁ : Cursor} → Stands s c → Moved s c c₁ → c.kind ≡ 25 → Seg g s d from e v (state (goto (suffix f)) n c w o)
      → Seg g s d from (e + 1) v (state (goto (arguments c.start 0 0)) n c₁ w o)
  unfolding choose rule sight has
  past_paren st mv k p = Steps.taken (lit< tt) st mv k (Steps.known (eat 25 ▸ goto (arguments c.start 0 0)) st k (λ xs t. refl) p)

  pub past_brace : {c₁ : Cursor} → Stands s c → Moved s c c₁ → c.kind ≡ 27 → Seg g s d from e v (state (goto (suffix f)) n c w o)
      → Seg g s d from (e + 1) v (state (sub inside ▸ eat 28 ▸ close 11 [] ▸ goto (suffix 1)) n c₁ w o)
  unfolding choose rule sight has
  past_brace st mv k p = Steps.taken (lit< tt) st mv k (Steps.known (eat 27 ▸ sub inside ▸ eat 28 ▸ close 11 [] ▸ goto (suffix 1)) st k (λ xs t. refl) p)

  -- none
  pub no_more : Stands s c → Suffixed g c.kind false → Seg g s d from e v (state (goto (suffix f)) n c w o) → Seg g s d from e v (state end n c w o)
  no_more st (no_mark k h) p = Steps.known end st k (λ xs t. mark_off g c xs n f t h) p
  no_more st (no_suffix h₁ h₂ h₃ h₄ h₅) p = Steps.known end st refl (λ xs t. nothing_more g c xs n f t c.kind h₁ h₂ h₃ h₄ h₅) p

-- what the code's test `!suffix_at(..)` tells
pub suffix_there : {g k : ℕ} {r : Bool} → Suffixed g k r → not r ≡ false → Suffixed g k true
suffix_there {g} {k} {r} h n = subst (Suffixed g k) (not-false r n) h

pub suffix_absent : {g k : ℕ} {r : Bool} → Suffixed g k r → not r ≡ true → Suffixed g k false
suffix_absent {g} {k} {r} h n = subst (Suffixed g k) (not-true r n) h

-- ── Answers that are further on ───────────────────────────────────────────────────────────────────

-- ── Suffixes: each takes a byte ───────────────────────────────────────────────────────────────────

module _ {g : ℕ} {s : List ℕ} {d : ℕ} {from : State} {next : ℕ → Body} {n e v : ℕ} {o : List ℕ} where
  pub tail_on : {mid : State} {a : Answer} → 1 ≤ e → v ≤ 32 * e → Tells g s d mid next n a o → Seg g s d from e v mid → TellsSome g s d from next n a o
  tail_on i h m p = record { tells = Steps.tail_telling h m p; some = λ c w k q. let r = Steps.follows m q p in omega (arith, i, r.onward) }

  pub passed_on : {mid : State} {a : Answer} → ((r : Refusal) × (a ≡ Err r) × Breaks g s d mid r) → Seg g s d from e v mid → TellsSome g s d from next n a o
  passed_on x p = record { tells = Steps.passed_telling x p; some = λ c w k q. absurd (not_both x.1 q) }

  pub told_on : {c : Cursor} {w k : ℕ} → 1 ≤ e → v ≤ 32 * e → k ≤ 4 → Seg g s d from e v (state (next k) n c w o) → TellsSome g s d from next n (reached c w k) o
  told_on {c} i h l p =
      record { tells = Steps.says_on l h p; some = λ x y z q. let r : c.at ≡ x.at = ap (λ (b : Cursor). b.at) (done_once q).0 in omega (arith, i, r, p.onward) }
