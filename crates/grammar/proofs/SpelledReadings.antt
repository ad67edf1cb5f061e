-- A reading that is done spells its tree, in the forms of Spells.antt, whatever a phrase may stand before that nothing greedy stands before. One
-- induction over readings.
-- Assumes nothing.
use mathlib.Core.Bool.{Bool, true, false, ◌&&◌}
use Prim.Native.Nat.{ℕ, suc}
use lib.Dec.{T}
use Rattle.grammar.specs.Trees.{Trees, none, count}
use Rattle.grammar.specs.Productions.{Phrase, Body, row, Table, otherwise, ◌∣◌, rule}
use Rattle.grammar.specs.Reading.{has, choose, view, production, done, Reading, ended, gone, eaten, leafed, closed, subbed, deepened}
use Rattle.grammar.specs.Spells.{Lexemes, Open, greedily, Spells}
use Rattle.grammar.specs.Spells.{Category as C}
use Rattle.grammar.proofs.LexemeForms.{told, unsaid}
use Rattle.grammar.proofs.SpelledStates.{plain, rules, fresh}
use Rattle.grammar.proofs.SpelledPhrases.{After, Before, Keeps, KeepsAll, within}
use Rattle.grammar.proofs.SpelledKeeps.{keeps}

module _ (prefix s : ℕ) (Ends : Open → ℕ → Type 0) (may : (q : Open) (k : ℕ) → greedily s q k → Ends q k) where
  keeps_chosen : (d : ℕ) (X : Trees → Lexemes → Type 0) (x₀ : Lexemes) (ts : Trees) (xs : Lexemes) (t : Table) → KeepsAll (rules prefix s Ends d) X x₀ ts xs t
      → Keeps (rules prefix s Ends d) X x₀ ts xs (choose s t)
  unfolding choose KeepsAll
  keeps_chosen d X x₀ ts xs (otherwise b) k = k
  keeps_chosen d X x₀ ts xs (row g t b ∣ rows) k = by t (has s g) k.0 (λ n. keeps_chosen d X x₀ ts xs rows (k.1 n))
    where
      by : (t a : Bool) → (T t → T a → Keeps (rules prefix s Ends d) X x₀ ts xs b) → ((T t → T a → ⊥) → Keeps (rules prefix s Ends d) X x₀ ts xs (choose s rows))
          → Keeps (rules prefix s Ends d) X x₀ ts xs (elim (t && a) [ true ↦ b | false ↦ choose s rows ])
      by true true f g = f tt tt
      by true false f g = g (λ t a. a)
      by false a f g = g (λ t a. t)

  keeps_production : (d : ℕ) (q : Phrase) (p : ℕ) (x₀ xs : Lexemes) (ts : Trees) → Before (rules prefix s Ends d) q x₀ ts xs
      → Keeps (rules prefix s Ends d) (After (rules prefix s Ends d) q x₀) x₀ ts xs (production prefix s q p xs (count ts))
  unfolding production
  keeps_production d q p x₀ xs ts b =
      keeps_chosen d (After (rules prefix s Ends d) q x₀) x₀ ts xs (rule prefix q (view p xs (count ts))) (keeps (rules prefix s Ends d) may q p x₀ xs ts b)

  -- A READING THAT IS DONE SPELLS ITS TREE: the induction.
  spelled : {b : Body} {ts us : Trees} {d p r : ℕ} {xs ys : Lexemes} → Reading prefix s b ts d p xs (done us r ys) → (X : Trees → Lexemes → Type 0) (x₀ : Lexemes)
      → Keeps (rules prefix s Ends d) X x₀ ts xs b → X us ys
  unfolding Keeps count
  spelled ended X x₀ k = k
  spelled {us = us} {d = d} {ys = ys} (gone {q} {ts} {p = p} {xs = xs} x) X x₀ k =
      k.1 us ys (spelled x (After (rules prefix s Ends d) q x₀) x₀ (keeps_production d q p x₀ xs ts k.0))
  spelled (eaten {xs = xs} e x) X x₀ k = spelled x X x₀ (k.1 (unsaid (told xs k.0 e)))
  spelled (leafed x) X x₀ k = spelled x X x₀ k
  spelled (closed x) X x₀ k = spelled x X x₀ k
  spelled {d = d} (subbed {q} {us = vs} {p = p} {xs = xs} {ys = zs} x y) X x₀ k =
      spelled y X x₀ (k.1 vs zs (spelled x (After (rules prefix s Ends d) q xs) xs (keeps_production d q p xs xs none k.0)))
  spelled (deepened {q} {us = vs} {d = d} {p = p} {xs = xs} {ys = zs} x y) X x₀ k =
      spelled y X x₀ (k.1 vs zs (within (spelled x (After (rules prefix s Ends d) q xs) xs (keeps_production d q p xs xs none (k.0 d)))))

  -- AN EXPRESSION THAT IS READ AT DEPTH d, one level having been taken for it, IS SPELLED WITHIN ONE LEVEL MORE.
  pub expr_spells : {m d p r : ℕ} {xs ys : Lexemes} {us : Trees} → Reading prefix s (production prefix s (Phrase.expr m) p xs 0) none d p xs (done us r ys)
      → Spells prefix s Ends (suc d) (C.expr m) xs us ys
  unfolding Before After count
  expr_spells {m} {d} {p} {xs = xs} x =
      plain (rules prefix s Ends (suc d)) (spelled x (After (rules prefix s Ends d) (Phrase.expr m) xs) xs (keeps_production d (Phrase.expr m) p xs xs none fresh))

  -- A MEMBER THAT IS READ AT DEPTH d IS SPELLED WITHIN d LEVELS.
  pub member_spells : {d p r : ℕ} {xs ys : Lexemes} {us : Trees} → Reading prefix s (production prefix s Phrase.member p xs 0) none d p xs (done us r ys)
      → Spells prefix s Ends d C.member xs us ys
  unfolding Before After count
  member_spells {d} {p} {xs = xs} x = (spelled x (After (rules prefix s Ends d) Phrase.member xs) xs (keeps_production d Phrase.member p xs xs none fresh)).spelled
