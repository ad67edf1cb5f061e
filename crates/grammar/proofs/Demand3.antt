-- Two settings, one within the other: the larger never changes a tree, and where only the larger gives a tree the smaller is refused with
-- number 5 at the place that 01 names.
-- Assumes nothing.
use mathlib.Core.Path.{◌≡◌, refl, sym, subst, ◌∙◌}
use mathlib.Core.Bool.{Bool, true, false, ◌||◌, not}
use mathlib.Core.List.{List, []}
use mathlib.Core.Logic.{◌⊎◌, inl, inr}
use mathlib.Core.Option.{Option, some, none as nowhere}
use Prim.Native.Nat.{ℕ, zero, suc, ◌<◌}
use native.Mathlib.Omega.{arith}
use lib.Dec.{T, eqb, ltb, ltb→lt}
use Rattle.lexemes.specs.Kinds.{QUESTION_MARK, NULL_COAELSE, IDENT, L_BRACK, R_BRACK, COLON, IN_KW, EOF}
use Rattle.grammar.specs.Trees.{Trees, none, tree, ◌⊕◌, count}
use Rattle.grammar.specs.Lexemes.{Lexeme, rest, kind_of, stop_of, said}
use Rattle.grammar.specs.Productions.{Phrase, Body, end, goto, fail, ◌▸◌, eat, leaf, sub, deep, close, Switch, exp_destruct, exp_null_coaelse}
use Rattle.grammar.specs.Productions.{View, rule, pattern, array_pattern, pattern_starts, pattern_starts_end, header, iteration, expression, expr}
use Rattle.grammar.specs.Reading.{has, choose, view, production, Outcome, done, broken, Reading, ended, failed, gone, eaten, uneaten, leafed, closed, subbed, unsubbed, deepened, undeepened, too_deep, Reads}
use Rattle.grammar.specs.Settings.{◌⊑◌, switch_of, Place, at, place, or_else, first_in, first}
use Rattle.grammar.proofs.Once.{once, done_broken, same_left}
use Rattle.grammar.proofs.Tables.{rank, halts, fails, fine}
use Rattle.grammar.proofs.Chosen.{and_left, and_right, or_cases, pick_yes, pick_no, Stopper, at_kind, halting, fine_chosen}
use Rattle.grammar.proofs.Lacks.{chosen_same, Lacking, stops, wants, iterates, lacking}

-- ── A phrase that stands before `?` or `??` ───────────────────────────────────────────────────────

uneat : (k m : ℕ) → T (not (eqb k QUESTION_MARK || eqb k NULL_COAELSE)) → Stopper m → m ≡ k → ⊥
uneat k m h (inl e) q = subst (λ (w : ℕ). T (not (eqb w QUESTION_MARK || eqb w NULL_COAELSE))) (sym q ∙ e) h
uneat k m h (inr e) q = subst (λ (w : ℕ). T (not (eqb w QUESTION_MARK || eqb w NULL_COAELSE))) (sym q ∙ e) h

module _ (prefix s d p : ℕ) (xs : List Lexeme) where
  -- It is broken there with number 5, or ends there.
  data Halted (b : Body) (ts : Trees) : Type 0 where
    breaks : {x : ℕ} → Reading prefix s b ts d p xs (broken 5 p xs x) → Halted b ts
    ends : {us : Trees} → Reading prefix s b ts d p xs (done us p xs) → Halted b ts

  module _ (st : Stopper (kind_of xs)) where
    halt_body : (r : ℕ) → ((q : Phrase) → T (ltb 0 (rank q)) → rank q < r → (ts : Trees) → Halted (goto q) ts) → (b : Body) → T (halts r b) → (ts : Trees) → Halted b ts
    unfolding halts
    halt_body r ih end h ts = ends ended
    halt_body r ih (fail n x) h ts = absurd h
    halt_body r ih (goto q) h ts = ih q (and_left (ltb 0 (rank q)) (ltb (rank q) r) h) (ltb→lt (rank q) r (and_right (ltb 0 (rank q)) (ltb (rank q) r) h)) ts
    halt_body r ih (eat k ▸ b) h ts = breaks (uneaten (uneat k (kind_of xs) h st))
    halt_body r ih (leaf t fs ▸ b) h ts = absurd h
    halt_body r ih (close t fs ▸ b) h ts = by (halt_body r ih b h (tree t fs ts))
      where
        by : Halted b (tree t fs ts) → Halted (close t fs ▸ b) ts
        by (breaks x) = breaks (closed x)
        by (ends x) = ends (closed x)
    halt_body r ih (sub q ▸ b) h ts = absurd h
    halt_body r ih (deep q ▸ b) h ts = absurd h

    halt_goto : has s exp_null_coaelse ≡ false → (n : ℕ) (q : Phrase) → T (ltb 0 (rank q)) → rank q < n → (ts : Trees) → Halted (goto q) ts
    unfolding production view
    halt_goto off zero q h lt ts = absurd (omega arith)
    halt_goto off (suc n) q h lt ts =
        by (halt_body (rank q) (λ q' h' lt' us. halt_goto off n q' h' (omega arith) us) (choose s (rule prefix q (view p xs (count ts)))) (halting prefix s q (view p xs (count ts)) h off st) ts)
      where
        by : Halted (choose s (rule prefix q (view p xs (count ts)))) ts → Halted (goto q) ts
        by (breaks x) = breaks (gone x)
        by (ends x) = ends (gone x)

    halt_rest : has s exp_null_coaelse ≡ false → (b : Body) → T (halts 3 b) → (ts : Trees) → Halted b ts
    halt_rest off b h ts = halt_body 3 (λ q h' lt us. halt_goto off 3 q h' lt us) b h ts

-- ── `[k]:` read by a setting without object iteration ─────────────────────────────────────────────

module _ (prefix s : ℕ) where
  pattern_off : (v : View) → v.kind ≡ L_BRACK → has s exp_destruct ≡ false → choose s (rule prefix pattern v) ≡ fail 5 IDENT
  unfolding rule choose
  pattern_off v e off =
      at_kind (λ (w : View). choose s (rule prefix pattern w) ≡ fail 5 IDENT) v e
      (pick_no (has s exp_destruct) _ (elim (has s exp_destruct) [ true ↦ fail 6 2 | false ↦ fail 5 IDENT ]) off ∙ pick_no (has s exp_destruct) (fail 6 2) (fail 5 IDENT) off)

  pattern_on : (v : View) → v.kind ≡ L_BRACK → has s exp_destruct ≡ true → choose s (rule prefix pattern v) ≡ (deep array_pattern ▸ end)
  unfolding rule choose
  pattern_on v e on = at_kind (λ (w : View). choose s (rule prefix pattern w) ≡ (deep array_pattern ▸ end)) v e (pick_yes (has s exp_destruct) _ _ on)

  -- Without destructuring it is broken at `[`.
  header_off : (b : Body) (ts : Trees) (d p : ℕ) (xs : List Lexeme) → kind_of xs ≡ L_BRACK → has s exp_destruct ≡ false → Reading prefix s (sub pattern ▸ b) ts d p xs (broken 5 p xs IDENT)
  unfolding production view
  header_off b ts d p xs e off =
      unsubbed (subst (λ (w : Body). Reading prefix s w none d p xs (broken 5 p xs IDENT)) (sym (pattern_off (view p xs 0) e off)) failed)

  -- With it `[k]` is an array pattern, with one level of depth, and `in` is wanted at `:`.
  header_zero : (b : Body) (ts : Trees) (p : ℕ) (xs : List Lexeme) → kind_of xs ≡ L_BRACK → has s exp_destruct ≡ true → Reading prefix s (sub pattern ▸ b) ts zero p xs (broken 11 p xs 0)
  unfolding production view
  header_zero b ts p xs e on =
      unsubbed (subst (λ (w : Body). Reading prefix s w none zero p xs (broken 11 p xs 0)) (sym (pattern_on (view p xs 0) e on)) too_deep)

  -- b gives some trees and goes on at r with ys left.
  abbrev Gives : Body → Trees → ℕ → ℕ → List Lexeme → ℕ → List Lexeme → Type 0
  Gives b ts d p xs r ys = (us : Trees) × Reading prefix s b ts d p xs (done us r ys)

  go_on : {q : Phrase} {ts : Trees} {d p r : ℕ} {xs ys : List Lexeme} → Gives (production prefix s q p xs (count ts)) ts d p xs r ys → Gives (goto q) ts d p xs r ys
  go_on g = (g.0, gone g.1)

  key_gives : (d p : ℕ) (xs : List Lexeme) → kind_of xs ≡ IDENT → Gives (production prefix s pattern p xs 0) none d p xs (stop_of p xs) (rest xs)
  unfolding production view rule choose has
  key_gives d p xs e =
      at_kind (λ (w : View). Gives (choose s (rule prefix pattern w)) none d p xs (stop_of p xs) (rest xs)) (view p xs 0) e (_, leafed ended)

  end_gives : (ts : Trees) (d p : ℕ) (xs : List Lexeme) → kind_of xs ≡ R_BRACK → Gives (goto pattern_starts_end) ts d p xs (stop_of p xs) (rest xs)
  unfolding production view rule choose has
  end_gives ts d p xs e =
      go_on (at_kind (λ (w : View). Gives (choose s (rule prefix pattern_starts_end w)) ts d p xs (stop_of p xs) (rest xs)) (view p xs (count ts)) e (_, gone (eaten e (closed ended))))

  start_gives : (ts : Trees) (d p : ℕ) (xs : List Lexeme) → kind_of xs ≡ IDENT → kind_of (rest xs) ≡ R_BRACK
      → Gives (goto pattern_starts) ts d p xs (stop_of (stop_of p xs) (rest xs)) (rest (rest xs))
  unfolding production view rule choose has
  start_gives ts d p xs e e' =
      let k = key_gives d p xs e in
      let f = end_gives (ts ⊕ k.0) d (stop_of p xs) (rest xs) e' in
      go_on
      (at_kind (λ (w : View). Gives (choose s (rule prefix pattern_starts w)) ts d p xs (stop_of (stop_of p xs) (rest xs)) (rest (rest xs))) (view p xs (count ts)) e
      (f.0, subbed k.1 f.1))

  array_gives : (d p : ℕ) (xs : List Lexeme) → kind_of xs ≡ L_BRACK → kind_of (rest xs) ≡ IDENT → kind_of (rest (rest xs)) ≡ R_BRACK
      → Gives (production prefix s array_pattern p xs 0) none d p xs (stop_of (stop_of (stop_of p xs) (rest xs)) (rest (rest xs))) (rest (rest (rest xs)))
  unfolding production view rule choose has
  array_gives d p xs e₀ e₁ e₂ = let f = start_gives none d (stop_of p xs) (rest xs) e₁ e₂ in (f.0, eaten e₀ f.1)

  colon_in : COLON ≡ IN_KW → ⊥
  colon_in e = omega arith

  header_on : (b : Body) (ts : Trees) (d p : ℕ) (xs : List Lexeme) → kind_of xs ≡ L_BRACK → kind_of (rest xs) ≡ IDENT → kind_of (rest (rest xs)) ≡ R_BRACK
      → kind_of (rest (rest (rest xs))) ≡ COLON → has s exp_destruct ≡ true
      → Reading prefix s (sub pattern ▸ eat IN_KW ▸ b) ts (suc d) p xs (broken 5 (stop_of (stop_of (stop_of p xs) (rest xs)) (rest (rest xs))) (rest (rest (rest xs))) IN_KW)
  unfolding production view
  header_on b ts d p xs e₀ e₁ e₂ e₃ on =
      let f = array_gives d p xs e₀ e₁ e₂ in
      subbed
      (subst (λ (w : Body). Reading prefix s w none (suc d) p xs (done (none ⊕ f.0) (stop_of (stop_of (stop_of p xs) (rest xs)) (rest (rest xs))) (rest (rest (rest xs)))))
      (sym (pattern_on (view p xs 0) e₀ on)) (deepened f.1 ended))
      (uneaten (λ (e : kind_of (rest (rest (rest xs))) ≡ IN_KW). colon_in (sym e₃ ∙ e)))

  -- So a `[k]:` header is never read without object iteration.
  header_undone : (b : Body) (ts : Trees) (d p : ℕ) (xs : List Lexeme) (us : Trees) (r : ℕ) (ys : List Lexeme) → kind_of xs ≡ L_BRACK → kind_of (rest xs) ≡ IDENT
      → kind_of (rest (rest xs)) ≡ R_BRACK → kind_of (rest (rest (rest xs))) ≡ COLON → Reading prefix s (sub pattern ▸ eat IN_KW ▸ b) ts d p xs (done us r ys) → ⊥
  header_undone b ts d p xs us r ys e₀ e₁ e₂ e₃ x = by (has s exp_destruct) refl d x
    where
      by : (h : Bool) → has s exp_destruct ≡ h → (d : ℕ) → Reading prefix s (sub pattern ▸ eat IN_KW ▸ b) ts d p xs (done us r ys) → ⊥
      by false h d x = done_broken (once x (header_off (eat IN_KW ▸ b) ts d p xs e₀ h))
      by true h zero x = done_broken (once x (header_zero (eat IN_KW ▸ b) ts p xs e₀ h))
      by true h (suc d) x = done_broken (once x (header_on b ts d p xs e₀ e₁ e₂ e₃ h))

  fails_undone : (b : Body) (ts : Trees) (d p : ℕ) (xs : List Lexeme) (us : Trees) (r : ℕ) (ys : List Lexeme) → T (fails b) → Reading prefix s b ts d p xs (done us r ys) → ⊥
  unfolding fails
  fails_undone end ts d p xs us r ys h x = absurd h
  fails_undone (fail n k) ts d p xs us r ys h x = done_broken (once x failed)
  fails_undone (goto q) ts d p xs us r ys h x = absurd h
  fails_undone (k ▸ b) ts d p xs us r ys h x = absurd h

-- ── The larger setting gives the same tree ────────────────────────────────────────────────────────

module _ (prefix s s' : ℕ) (le : s ⊑ s') where
  -- s stopped at a `?` or `??` that it has no use for.
  abbrev Stopped : List Lexeme → Type 0
  Stopped ys = (has s exp_null_coaelse ≡ false) × Stopper (kind_of ys)

  -- Under s' the same, or s stopped.
  abbrev Grown : Body → Trees → ℕ → ℕ → List Lexeme → Trees → ℕ → List Lexeme → Type 0
  Grown b ts d p xs us r ys = (Reading prefix s' b ts d p xs (done us r ys)) ⊎ Stopped ys

  -- At a phrase for which s lacks what s' chooses.
  grow_lacking : (q : Phrase) (ts : Trees) (d p : ℕ) (xs : List Lexeme) (us : Trees) (r : ℕ) (ys : List Lexeme) (g : Switch) → Lacking prefix s s' q (view p xs (count ts)) g
      → Reading prefix s (choose s (rule prefix q (view p xs (count ts)))) ts d p xs (done us r ys) → Stopped ys
  unfolding view
  grow_lacking q ts d p xs us r ys g (stops off st e) x =
      (off, subst (λ (zs : List Lexeme). Stopper (kind_of zs)) (same_left (once ended (subst (λ (b : Body). Reading prefix s b ts d p xs (done us r ys)) e x))) st)
  grow_lacking q ts d p xs us r ys g (wants e) x = absurd (done_broken (once (subst (λ (b : Body). Reading prefix s b ts d p xs (done us r ys)) e x) failed))
  grow_lacking q ts d p xs us r ys g (iterates e₀ e₁ e₂ e₃ e e') x =
      absurd (header_undone prefix s _ ts d p xs us r ys e₀ e₁ e₂ e₃ (subst (λ (b : Body). Reading prefix s b ts d p xs (done us r ys)) e x))

  -- From what s chooses to what s' chooses.
  grow_phrase : (q : Phrase) (ts : Trees) (d p : ℕ) (xs : List Lexeme) (us : Trees) (r : ℕ) (ys : List Lexeme) → Reading prefix s (production prefix s q p xs (count ts)) ts d p xs (done us r ys)
      → Grown (production prefix s q p xs (count ts)) ts d p xs us r ys → Grown (production prefix s' q p xs (count ts)) ts d p xs us r ys
  unfolding production
  grow_phrase q ts d p xs us r ys x g = by (has s (switch_of s' (rule prefix q (view p xs (count ts))))) refl g
    where
      by : (h : Bool) → has s (switch_of s' (rule prefix q (view p xs (count ts)))) ≡ h → Grown (production prefix s q p xs (count ts)) ts d p xs us r ys
          → Grown (production prefix s' q p xs (count ts)) ts d p xs us r ys
      by true e (inl x') = inl (subst (λ (b : Body). Reading prefix s' b ts d p xs (done us r ys)) (chosen_same s s' (rule prefix q (view p xs (count ts))) le e) x')
      by true e (inr y) = inr y
      by false e g' = inr (grow_lacking q ts d p xs us r ys (switch_of s' (rule prefix q (view p xs (count ts)))) (lacking prefix s s' q (view p xs (count ts)) e) x)

  fine_smaller : (q : Phrase) (p : ℕ) (xs : List Lexeme) (n : ℕ) → T (fine (production prefix s q p xs n))
  unfolding production
  fine_smaller q p xs n = fine_chosen prefix s q (view p xs n)

  fine_larger : (q : Phrase) (p : ℕ) (xs : List Lexeme) (n : ℕ) → T (fine (production prefix s' q p xs n))
  unfolding production
  fine_larger q p xs n = fine_chosen prefix s' q (view p xs n)

  -- Behind a phrase that stopped.
  grow_stopped : (b : Body) (ts : Trees) (d p : ℕ) (xs : List Lexeme) (us : Trees) (r : ℕ) (ys : List Lexeme) → T (halts 3 b || fails b) → Stopped xs
      → Reading prefix s b ts d p xs (done us r ys) → Stopped ys
  grow_stopped b ts d p xs us r ys h y x = by (or_cases (halts 3 b) (fails b) h)
    where
      here : Halted prefix s d p xs b ts → Stopper (kind_of ys)
      here (breaks z) = absurd (done_broken (once x z))
      here (ends z) = subst (λ (zs : List Lexeme). Stopper (kind_of zs)) (same_left (once z x)) y.1

      by : T (halts 3 b) ⊎ T (fails b) → Stopped ys
      by (inl h') = (y.0, here (halt_rest prefix s d p xs y.1 y.0 b h' ts))
      by (inr h') = absurd (fails_undone prefix s b ts d p xs us r ys h' x)

  up {ℓ κ} : {A B : Type ℓ} {C : Type κ} → (A → B) → A ⊎ C → B ⊎ C
  up f (inl a) = inl (f a)
  up f (inr c) = inr c

  -- A phrase, and then what stands behind it.
  grow_two : {A B C S T' : Type 0} → (A → B → C) → (S → T') → A ⊎ S → B ⊎ T' → C ⊎ T'
  grow_two f g (inl a) (inl b) = inl (f a b)
  grow_two f g (inl a) (inr y) = inr y
  grow_two f g (inr x) b = inr (g x)

  grow : {b : Body} {ts : Trees} {d p : ℕ} {xs : List Lexeme} {us : Trees} {r : ℕ} {ys : List Lexeme} → T (fine b) → Reading prefix s b ts d p xs (done us r ys) → Grown b ts d p xs us r ys
  unfolding fine count
  grow h ended = inl ended
  grow {us = us} {r} {ys} h (gone {q} {ts} {d} {p} {xs} x) = up gone (grow_phrase q ts d p xs us r ys x (grow (fine_smaller q p xs (count ts)) x))
  grow h (eaten e x) = up (eaten e) (grow h x)
  grow h (leafed x) = up leafed (grow h x)
  grow h (closed x) = up closed (grow h x)
  grow {us = us} {r} {ys} h (subbed {q} {b} {ts} {us = vs} {d} {p} {r = k} {xs} {ys = zs} x y) =
      grow_two subbed (λ st. grow_stopped b (ts ⊕ vs) d k zs us r ys (and_left (halts 3 b || fails b) (fine b) h) st y)
      (grow_phrase q none d p xs vs k zs x (grow (fine_smaller q p xs 0) x))
      (grow (and_right (halts 3 b || fails b) (fine b) h) y)
  grow {us = us} {r} {ys} h (deepened {q} {b} {ts} {us = vs} {d} {p} {r = k} {xs} {ys = zs} x y) =
      grow_two deepened (λ st. grow_stopped b (ts ⊕ vs) (suc d) k zs us r ys (and_left (halts 3 b || fails b) (fine b) h) st y)
      (grow_phrase q none d p xs vs k zs x (grow (fine_smaller q p xs 0) x))
      (grow (and_right (halts 3 b || fails b) (fine b) h) y)

  -- THE FIRST HALF. What has a tree under s has the same tree under s'.
  pub same_tree : {depth : ℕ} {xs : List Lexeme} {us : Trees} {r : ℕ} {ys : List Lexeme} → Reads prefix s depth xs (done us r ys) → Reads prefix s' depth xs (done us r ys)
  unfolding count
  same_tree {xs = xs} (deepened {us = vs} {d} {r = k} {ys = zs} x y) = whole y
    where
      by : kind_of zs ≡ EOF → Grown (production prefix s' (expr 0) 0 xs 0) none d 0 xs vs k zs → Reads prefix s' (suc d) xs (done (none ⊕ vs) (stop_of k zs) (rest zs))
      by e (inl x') = deepened x' (eaten e ended)
      by e (inr y) = absurd (uneat EOF (kind_of zs) tt y.1 e)

      whole : {us : Trees} {r : ℕ} {ys : List Lexeme} → Reading prefix s (eat EOF ▸ end) (none ⊕ vs) (suc d) k zs (done us r ys) → Reads prefix s' (suc d) xs (done us r ys)
      whole (eaten e ended) = by e (grow_phrase (expr 0) none d 0 xs vs k zs x (grow (fine_smaller (expr 0) 0 xs 0) x))

  -- ── The place where the smaller setting breaks ──────────────────────────────────────────────────

  -- Under s: broken there with number 5, or stopped before a `?` or `??` there.
  data Early (b : Body) (ts : Trees) (d p : ℕ) (xs : List Lexeme) : Place → Type 0 where
    breaks_at : {k x : ℕ} {zs : List Lexeme} → Reading prefix s b ts d p xs (broken 5 k zs x) → Early b ts d p xs (at k zs)
    stops_at : {us : Trees} {k : ℕ} {zs : List Lexeme} → Stopped zs → Reading prefix s b ts d p xs (done us k zs) → Early b ts d p xs (at k zs)

  -- What s gives, by the first place.
  data Course (b : Body) (ts : Trees) (d p : ℕ) (xs : List Lexeme) (us : Trees) (r : ℕ) (ys : List Lexeme) : Option Place → Type 0 where
    agrees : Reading prefix s b ts d p xs (done us r ys) → Course b ts d p xs us r ys nowhere
    parts : {k : Place} → Early b ts d p xs k → Course b ts d p xs us r ys (some k)

  early_map : {b b' : Body} {ts ts' : Trees} {d p p' : ℕ} {xs xs' : List Lexeme} {k : Place} → ((o : Outcome) → Reading prefix s b ts d p xs o → Reading prefix s b' ts' d p' xs' o)
      → Early b ts d p xs k → Early b' ts' d p' xs' k
  early_map f (breaks_at x) = breaks_at (f _ x)
  early_map f (stops_at st x) = stops_at st (f _ x)

  course_map : {b b' : Body} {ts ts' : Trees} {d p p' : ℕ} {xs xs' : List Lexeme} {us : Trees} {r : ℕ} {ys : List Lexeme} {o : Option Place}
      → ((w : Outcome) → Reading prefix s b ts d p xs w → Reading prefix s b' ts' d p' xs' w) → Course b ts d p xs us r ys o → Course b' ts' d p' xs' us r ys o
  course_map f (agrees x) = agrees (f _ x)
  course_map f (parts x) = parts (early_map f x)

  -- The place of a `[k]:` header, by whether s has destructuring.
  abbrev there : Bool → ℕ → List Lexeme → Place
  there h p xs = elim h [ true ↦ at (stop_of (stop_of (stop_of p xs) (rest xs)) (rest (rest xs))) (rest (rest (rest xs))) | false ↦ at p xs ]

  -- Where s lacks what s' chooses.
  lacks : (q : Phrase) (ts : Trees) (d p : ℕ) (xs : List Lexeme) (us : Trees) (r : ℕ) (ys : List Lexeme) (g : Switch) → Lacking prefix s s' q (view p xs (count ts)) g
      → Reading prefix s' (choose s' (rule prefix q (view p xs (count ts)))) ts d p xs (done us r ys) → Early (choose s (rule prefix q (view p xs (count ts)))) ts d p xs (place s g p xs)
  unfolding view place
  lacks q ts d p xs us r ys g (stops off st e) x = subst (λ (b : Body). Early b ts d p xs (at p xs)) (sym e) (stops_at (off, st) ended)
  lacks q ts d p xs us r ys g (wants e) x = subst (λ (b : Body). Early b ts d p xs (at p xs)) (sym e) (breaks_at failed)
  lacks q ts d p xs us r ys g (iterates e₀ e₁ e₂ e₃ e e') x =
      subst (λ (b : Body). Early b ts d p xs (there (has s exp_destruct) p xs)) (sym e) (by d (has s exp_destruct) refl (subst (λ (b : Body). Reading prefix s' b ts d p xs (done us r ys)) e' x))
    where
      by : (d : ℕ) (h : Bool) → has s exp_destruct ≡ h → Reading prefix s' (deep header ▸ goto (iteration (said (view p xs (count ts)).says₁))) ts d p xs (done us r ys)
          → Early (sub pattern ▸ eat IN_KW ▸ expression ▸ close 33 [] ▸ end) ts d p xs (there h p xs)
      by d false h x = breaks_at (header_off prefix s _ ts d p xs e₀ h)
      by (suc d) true h x = breaks_at (header_on prefix s _ ts d p xs e₀ e₁ e₂ e₃ h)
      by zero true h x = absurd (done_broken (once x too_deep))

  -- From what is chosen to the phrase.
  phrase_course : (q : Phrase) (ts : Trees) (d p : ℕ) (xs : List Lexeme) (us : Trees) (r : ℕ) (ys : List Lexeme) (o : Option Place)
      → Reading prefix s' (production prefix s' q p xs (count ts)) ts d p xs (done us r ys) → Course (production prefix s' q p xs (count ts)) ts d p xs us r ys o
      → Course (production prefix s q p xs (count ts)) ts d p xs us r ys (first_in prefix s s' q p xs (count ts) o)
  unfolding production first_in
  phrase_course q ts d p xs us r ys o x v = by (has s (switch_of s' (rule prefix q (view p xs (count ts))))) refl
    where
      by : (h : Bool) → has s (switch_of s' (rule prefix q (view p xs (count ts)))) ≡ h
          → Course (choose s (rule prefix q (view p xs (count ts)))) ts d p xs us r ys (elim h [ true ↦ o | false ↦ some (place s (switch_of s' (rule prefix q (view p xs (count ts)))) p xs) ])
      by true e = subst (λ (b : Body). Course b ts d p xs us r ys o) (sym (chosen_same s s' (rule prefix q (view p xs (count ts))) le e)) v
      by false e = parts (lacks q ts d p xs us r ys _ (lacking prefix s s' q (view p xs (count ts)) e) x)

  -- Behind a phrase that stopped early.
  rest_early : (b : Body) (ts ts' : Trees) (d p : ℕ) (xs : List Lexeme) (k : ℕ) (zs : List Lexeme) (us : Trees) (r : ℕ) (ys : List Lexeme) → T (halts 3 b || fails b) → Stopped zs
      → Reading prefix s' b ts' d p xs (done us r ys) → Early b ts d k zs (at k zs)
  rest_early b ts ts' d p xs k zs us r ys h st y = by (or_cases (halts 3 b) (fails b) h)
    where
      here : Halted prefix s d k zs b ts → Early b ts d k zs (at k zs)
      here (breaks x) = breaks_at x
      here (ends x) = stops_at st x

      by : T (halts 3 b) ⊎ T (fails b) → Early b ts d k zs (at k zs)
      by (inl h') = here (halt_rest prefix s d k zs st.1 st.0 b h' ts)
      by (inr h') = absurd (fails_undone prefix s' b ts' d p xs us r ys h' y)

  sub_course : {q : Phrase} {b : Body} {ts : Trees} {d p : ℕ} {xs : List Lexeme} {vs : Trees} {k : ℕ} {zs : List Lexeme} {us : Trees} {r : ℕ} {ys : List Lexeme} {o₁ o₂ : Option Place}
      → T (halts 3 b || fails b) → Reading prefix s' b (ts ⊕ vs) d k zs (done us r ys) → Course (production prefix s q p xs 0) none d p xs vs k zs o₁ → Course b (ts ⊕ vs) d k zs us r ys o₂
      → Course (sub q ▸ b) ts d p xs us r ys (or_else o₁ o₂)
  unfolding or_else
  sub_course h y (agrees x) v = course_map (λ o z. subbed x z) v
  sub_course h y (parts (breaks_at x)) v = parts (breaks_at (unsubbed x))
  sub_course {b = b} {ts} {d} {vs = vs} {k} {zs} {us} {r} {ys} h y (parts (stops_at {us = us'} {k = k'} {zs = zs'} st x)) v =
      parts (early_map (λ o z. subbed x z) (rest_early b (ts ⊕ us') (ts ⊕ vs) d k zs k' zs' us r ys h st y))

  deep_course : {q : Phrase} {b : Body} {ts : Trees} {d p : ℕ} {xs : List Lexeme} {vs : Trees} {k : ℕ} {zs : List Lexeme} {us : Trees} {r : ℕ} {ys : List Lexeme} {o₁ o₂ : Option Place}
      → T (halts 3 b || fails b) → Reading prefix s' b (ts ⊕ vs) (suc d) k zs (done us r ys) → Course (production prefix s q p xs 0) none d p xs vs k zs o₁
      → Course b (ts ⊕ vs) (suc d) k zs us r ys o₂ → Course (deep q ▸ b) ts (suc d) p xs us r ys (or_else o₁ o₂)
  unfolding or_else
  deep_course h y (agrees x) v = course_map (λ o z. deepened x z) v
  deep_course h y (parts (breaks_at x)) v = parts (breaks_at (undeepened x))
  deep_course {b = b} {ts} {d} {vs = vs} {k} {zs} {us} {r} {ys} h y (parts (stops_at {us = us'} {k = k'} {zs = zs'} st x)) v =
      parts (early_map (λ o z. deepened x z) (rest_early b (ts ⊕ us') (ts ⊕ vs) (suc d) k zs k' zs' us r ys h st y))

  course : {b : Body} {ts : Trees} {d p : ℕ} {xs : List Lexeme} {us : Trees} {r : ℕ} {ys : List Lexeme} → T (fine b) → (x : Reading prefix s' b ts d p xs (done us r ys))
      → Course b ts d p xs us r ys (first prefix s s' x)
  unfolding fine first count
  course h ended = agrees ended
  course {us = us} {r} {ys} h (gone {q} {ts} {d} {p} {xs} x) =
      course_map (λ o z. gone z) (phrase_course q ts d p xs us r ys (first prefix s s' x) x (course (fine_larger q p xs (count ts)) x))
  course h (eaten e x) = course_map (λ o z. eaten e z) (course h x)
  course h (leafed x) = course_map (λ o z. leafed z) (course h x)
  course h (closed x) = course_map (λ o z. closed z) (course h x)
  course h (subbed {q} {b} {ts} {us = vs} {d} {p} {r = k} {xs} {ys = zs} x y) =
      sub_course (and_left (halts 3 b || fails b) (fine b) h) y
      (phrase_course q none d p xs vs k zs (first prefix s s' x) x (course (fine_larger q p xs 0) x))
      (course (and_right (halts 3 b || fails b) (fine b) h) y)
  course h (deepened {q} {b} {ts} {us = vs} {d} {p} {r = k} {xs} {ys = zs} x y) =
      deep_course (and_left (halts 3 b || fails b) (fine b) h) y
      (phrase_course q none d p xs vs k zs (first prefix s s' x) x (course (fine_larger q p xs 0) x))
      (course (and_right (halts 3 b || fails b) (fine b) h) y)

  -- THE SECOND HALF. What has a tree under s': if s lacks no switch that is used, it has the same tree under s; else number 5 at the first place.
  pub data Smaller (depth : ℕ) (xs : List Lexeme) (us : Trees) (r : ℕ) (ys : List Lexeme) : Option Place → Type 0 where
    same : Reads prefix s depth xs (done us r ys) → Smaller depth xs us r ys nowhere
    five : {k x : ℕ} {zs : List Lexeme} → Reads prefix s depth xs (broken 5 k zs x) → Smaller depth xs us r ys (some (at k zs))

  pub smaller : {depth : ℕ} {xs : List Lexeme} {us : Trees} {r : ℕ} {ys : List Lexeme} (x : Reads prefix s' depth xs (done us r ys)) → Smaller depth xs us r ys (first prefix s s' x)
  unfolding first or_else count
  smaller {xs = xs} (deepened {us = vs} {d} {r = k} {ys = zs} x y) = whole y
    where
      by : {o : Option Place} → kind_of zs ≡ EOF → Course (production prefix s (expr 0) 0 xs 0) none d 0 xs vs k zs o
          → Smaller (suc d) xs (none ⊕ vs) (stop_of k zs) (rest zs) (or_else o nowhere)
      by e (agrees x') = same (deepened x' (eaten e ended))
      by e (parts (breaks_at x')) = five (undeepened x')
      by e (parts (stops_at st x')) = five (deepened x' (uneaten (uneat EOF _ tt st.1)))

      whole : {us : Trees} {r : ℕ} {ys : List Lexeme} (z : Reading prefix s' (eat EOF ▸ end) (none ⊕ vs) (suc d) k zs (done us r ys))
          → Smaller (suc d) xs us r ys (first prefix s s' (deepened {q = expr 0} {b = eat EOF ▸ end} {ts = none} {us = vs} {d = d} {p = 0} {r = k} {xs = xs} {ys = zs} x z))
      whole (eaten e ended) = by e (phrase_course (expr 0) none d 0 xs vs k zs (first prefix s s' x) x (course (fine_larger (expr 0) 0 xs 0) x))

  -- DEMAND 3 of a source past numbers 1 to 4: under s the same tree, or number 5 at the first place.
  pub demand_3 : {depth : ℕ} {xs : List Lexeme} {us : Trees} {r : ℕ} {ys : List Lexeme} {o : Outcome} (x : Reads prefix s' depth xs (done us r ys)) → Reads prefix s depth xs o
      → (o ≡ done us r ys) ⊎ ((k : ℕ) × (zs : List Lexeme) × (n : ℕ) × (first prefix s s' x ≡ some (at k zs)) × (o ≡ broken 5 k zs n))
  demand_3 {depth} {xs} {us} {r} {ys} {o} x y = by refl (smaller x)
    where
      by : {f : Option Place} → first prefix s s' x ≡ f → Smaller depth xs us r ys f
          → (o ≡ done us r ys) ⊎ ((k : ℕ) × (zs : List Lexeme) × (n : ℕ) × (first prefix s s' x ≡ some (at k zs)) × (o ≡ broken 5 k zs n))
      by e (same z) = inl (once y z)
      by e (five {k} {x = n} {zs} z) = inr (k, zs, n, e, once y z)
