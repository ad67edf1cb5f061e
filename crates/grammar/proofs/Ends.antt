-- Every reading ends: before it takes a lexeme a phrase goes over only to phrases of lower order, and deeper only while depth is left.
-- Assumes nothing.
use mathlib.Core.Path.{◌≡◌, refl, sym, subst}
use mathlib.Core.Bool.{Bool, true, false, not}
use mathlib.Core.List.{List, [], ◌∷◌}
use Prim.Native.Nat.{ℕ, zero, suc, ◌-◌, ◌≤◌, ◌<◌}
use native.Mathlib.Omega.{arith}
use lib.Dec.{T, T_not, eqb, ltb, ltb→lt}
use lib.ListN.{length}
use borrow.Author.Tests.{eqb-true, eqb-false, eq-eqb}
use Rattle.lexemes.specs.Kinds.{EOF}
use Rattle.grammar.specs.Trees.{Trees, none, tree, ◌⊕◌, count}
use Rattle.grammar.specs.Lexemes.{Lexeme, rest, kind_of, stop_of}
use Rattle.grammar.specs.Productions.{Phrase, Body, end, goto, fail, ◌▸◌, eat, leaf, sub, deep, close, expr}
use Rattle.grammar.specs.Reading.{view, production, Outcome, done, broken, Reading, ended, failed, gone, eaten, uneaten, leafed, closed, subbed, unsubbed, deepened, undeepened, too_deep, Reads}
use Rattle.grammar.proofs.Tables.{order, low, top}
use Rattle.grammar.proofs.Chosen.{and_left, and_right, low_chosen}

rest_shorter : (xs : List Lexeme) → length (rest xs) ≤ length xs
rest_shorter [] = omega arith
rest_shorter (x ∷ xs) = omega arith

-- A kind that is not EOF's stands at a lexeme.
rest_short : (xs : List Lexeme) (k : ℕ) → T (not (eqb k EOF)) → kind_of xs ≡ k → length (rest xs) < length xs
rest_short [] k h e = absurd (T_not (eqb k EOF) h (subst T (sym (eq-eqb k EOF (sym e))) tt))
rest_short (x ∷ xs) k h e = omega arith

module _ (prefix s : ℕ) where
  -- A reading never goes back.
  onward : {b : Body} {ts us : Trees} {d p r : ℕ} {xs ys : List Lexeme} → Reading prefix s b ts d p xs (done us r ys) → length ys ≤ length xs
  onward ended = omega arith
  onward (gone r) = onward r
  onward (eaten {xs = xs} e r) = omega (arith, onward r, rest_shorter xs)
  onward (leafed {xs = xs} r) = omega (arith, onward r, rest_shorter xs)
  onward (closed r) = onward r
  onward (subbed r q) = omega (arith, onward r, onward q)
  onward (deepened r q) = omega (arith, onward r, onward q)

  abbrev Ends : Body → Trees → ℕ → ℕ → List Lexeme → Type 0
  Ends b ts d p xs = (o : Outcome) × Reading prefix s b ts d p xs o

  sub_ends : (q : Phrase) (b : Body) (ts : Trees) (d p : ℕ) (xs : List Lexeme) → Ends (production prefix s q p xs 0) none d p xs
      → ((us : Trees) (r : ℕ) (ys : List Lexeme) → length ys ≤ length xs → Ends b (ts ⊕ us) d r ys) → Ends (sub q ▸ b) ts d p xs
  sub_ends q b ts d p xs e after = by e.0 e.1
    where
      by : (o : Outcome) → Reading prefix s (production prefix s q p xs 0) none d p xs o → Ends (sub q ▸ b) ts d p xs
      by (done us r ys) x = let f = after us r ys (onward x) in (f.0, subbed x f.1)
      by (broken n r ys x) y = (broken n r ys x, unsubbed y)

  deep_ends : (q : Phrase) (b : Body) (ts : Trees) (d p : ℕ) (xs : List Lexeme) → ((d' : ℕ) → d ≡ suc d' → Ends (production prefix s q p xs 0) none d' p xs)
      → ((us : Trees) (r : ℕ) (ys : List Lexeme) → length ys ≤ length xs → Ends b (ts ⊕ us) d r ys) → Ends (deep q ▸ b) ts d p xs
  deep_ends q b ts zero p xs e after = (broken 11 p xs 0, too_deep)
  deep_ends q b ts (suc d) p xs e after = by (e d refl).0 (e d refl).1
    where
      by : (o : Outcome) → Reading prefix s (production prefix s q p xs 0) none d p xs o → Ends (deep q ▸ b) ts (suc d) p xs
      by (done us r ys) x = let f = after us r ys (onward x) in (f.0, deepened x f.1)
      by (broken n r ys x) y = (broken n r ys x, undeepened y)

  eat_ends : (k : ℕ) (b : Body) (ts : Trees) (d p : ℕ) (xs : List Lexeme) → (kind_of xs ≡ k → Ends b ts d (stop_of p xs) (rest xs)) → Ends (eat k ▸ b) ts d p xs
  eat_ends k b ts d p xs after = by (eqb (kind_of xs) k) refl
    where
      by : (x : Bool) → eqb (kind_of xs) k ≡ x → Ends (eat k ▸ b) ts d p xs
      by true e = let q = eqb-true (kind_of xs) k e in let f = after q in (f.0, eaten q f.1)
      by false e = (broken 5 p xs k, uneaten (eqb-false (kind_of xs) k e))

  -- Every phrase ends with so much depth left.
  abbrev Deep : ℕ → Type 0
  Deep d = (q : Phrase) (p : ℕ) (xs : List Lexeme) → Ends (production prefix s q p xs 0) none d p xs

  -- Every production ends with at most so many lexemes left.
  abbrev Fewer : ℕ → ℕ → Type 0
  Fewer d m = (b : Body) (ts : Trees) (p : ℕ) (xs : List Lexeme) → length xs ≤ m → T (low top b) → Ends b ts d p xs

  -- A production ends if what is deeper does, what has fewer lexemes left, and what stands lower.
  module _ (d m r : ℕ) (deeper : (d' : ℕ) → d ≡ suc d' → Deep d') (fewer : (m' : ℕ) → m ≡ suc m' → Fewer d m')
      (lower : (q : Phrase) (ts : Trees) (p : ℕ) (xs : List Lexeme) → length xs ≤ m → order q < r → Ends (production prefix s q p xs (count ts)) ts d p xs) where
    body_ends : (b : Body) (ts : Trees) (p : ℕ) (xs : List Lexeme) → length xs ≤ m → T (low r b) → Ends b ts d p xs
    unfolding low count
    body_ends end ts p xs le h = (done ts p xs, ended)
    body_ends (fail n x) ts p xs le h = (broken n p xs x, failed)
    body_ends (goto q) ts p xs le h = let e = lower q ts p xs le (ltb→lt (order q) r h) in (e.0, gone e.1)
    body_ends (eat k ▸ b) ts p xs le h =
        eat_ends k b ts d p xs
        (λ e. let lt = rest_short xs k (and_left (not (eqb k EOF)) (low top b) h) e in
        fewer (m - 1) (omega arith) b ts (stop_of p xs) (rest xs) (omega arith) (and_right (not (eqb k EOF)) (low top b) h))
    body_ends (leaf t fs ▸ b) ts p xs le h =
        let e = body_ends b (ts ⊕ tree t fs none) (stop_of p xs) (rest xs) (omega (arith, rest_shorter xs)) h in (e.0, leafed e.1)
    body_ends (close t fs ▸ b) ts p xs le h = let e = body_ends b (tree t fs ts) p xs le h in (e.0, closed e.1)
    body_ends (sub q ▸ b) ts p xs le h =
        sub_ends q b ts d p xs (lower q none p xs le (ltb→lt (order q) r (and_left (ltb (order q) r) (low r b) h)))
        (λ us j ys lt. body_ends b (ts ⊕ us) j ys (omega arith) (and_right (ltb (order q) r) (low r b) h))
    body_ends (deep q ▸ b) ts p xs le h = deep_ends q b ts d p xs (λ d' e. deeper d' e q p xs) (λ us j ys lt. body_ends b (ts ⊕ us) j ys (omega arith) h)

  low_production : (q : Phrase) (p : ℕ) (xs : List Lexeme) (n : ℕ) → T (low (order q) (production prefix s q p xs n))
  unfolding production
  low_production q p xs n = low_chosen prefix s q (view p xs n)

  -- By the order, then the lexemes left, then the depth.
  module _ (d m : ℕ) (deeper : (d' : ℕ) → d ≡ suc d' → Deep d') (fewer : (m' : ℕ) → m ≡ suc m' → Fewer d m') where
    phrase_ends : (r : ℕ) (q : Phrase) (ts : Trees) (p : ℕ) (xs : List Lexeme) → length xs ≤ m → order q < r → Ends (production prefix s q p xs (count ts)) ts d p xs
    phrase_ends zero q ts p xs le h = absurd (omega arith)
    phrase_ends (suc r) q ts p xs le h =
        body_ends d m (order q) deeper fewer (λ q' ts' p' xs' le' h'. phrase_ends r q' ts' p' xs' le' (omega arith)) (production prefix s q p xs (count ts)) ts p xs le
        (low_production q p xs (count ts))

  lexemes_end : (d : ℕ) → ((d' : ℕ) → d ≡ suc d' → Deep d') → (m : ℕ) → Fewer d m
  lexemes_end d deeper zero b ts p xs le h =
      body_ends d zero top deeper (λ m' e. absurd (omega arith)) (phrase_ends d zero deeper (λ m' e. absurd (omega arith)) top) b ts p xs le h
  lexemes_end d deeper (suc m) b ts p xs le h =
      body_ends d (suc m) top deeper (λ m' e b' ts' p' xs' le' h'. lexemes_end d deeper m b' ts' p' xs' (omega arith) h')
      (phrase_ends d (suc m) deeper (λ m' e b' ts' p' xs' le' h'. lexemes_end d deeper m b' ts' p' xs' (omega arith) h') top) b ts p xs le h

  phrase_at : (d : ℕ) → ((d' : ℕ) → d ≡ suc d' → Deep d') → Deep d
  unfolding count
  phrase_at d deeper q p xs = phrase_ends d (length xs) deeper (λ m' e. lexemes_end d deeper m') (suc (order q)) q none p xs (omega arith) (omega arith)

  pub phrases_end : (d : ℕ) → Deep d
  phrases_end zero = phrase_at zero (λ d' e. absurd (omega arith))
  phrases_end (suc d) = phrase_at (suc d) (λ d' e. subst Deep (omega arith) (phrases_end d))

  -- THERE IS ALWAYS AN OUTCOME, at every depth.
  pub ends : (depth : ℕ) (xs : List Lexeme) → (o : Outcome) × Reads prefix s depth xs o
  ends depth xs =
      deep_ends (expr 0) (eat EOF ▸ end) none depth 0 xs (λ d' e. phrases_end d' (expr 0) 0 xs)
      (λ us r ys le. eat_ends EOF end (none ⊕ us) depth r ys (λ e. (done (none ⊕ us) (stop_of r ys) (rest ys), ended)))
