-- Steps of a reading, to be put one behind the other: how one comes from one body to another over which lexemes, with trees like which. By
-- these a greedy spelling is shown to be read; each lemma is a step of a production.
-- Assumes nothing.
use mathlib.Core.Path.{◌≡◌, refl, sym, subst}
use mathlib.Core.Bool.{Bool, true, false, ◌&&◌}
use mathlib.Core.List.{List}
use Prim.Native.Nat.{ℕ, suc}
use lib.Dec.{T}
use Rattle.grammar.specs.Trees.{Field, Trees, none, tree, ◌⊕◌, count}
use Rattle.grammar.specs.Productions.{Phrase, Body, end, goto, ◌▸◌, eat, leaf, sub, deep, close, Switch, row, Table, otherwise, ◌∣◌, rule}
use Rattle.grammar.specs.Reading.{has, choose, view, production, Outcome, done, Reading, ended, gone, eaten, leafed, closed, subbed, deepened}
use Rattle.grammar.specs.Spells.{Lexemes, ◌is◌then◌, lexeme}
use Rattle.grammar.proofs.Alike.{Alike}

-- What stays the same within a phrase: the prefix power, the setting, the levels that are left.
pub record Under : Type 0 where
  pub prefix : ℕ
  pub setting : ℕ
  pub depth : ℕ

abbrev pub under : ℕ → ℕ → ℕ → Under
under prefix s d = record { prefix = prefix; setting = s; depth = d }

module _ (G : Under) where
  -- What phrase q is there.
  abbrev pub body_of : Phrase → ℕ → Lexemes → ℕ → Body
  body_of q p xs n = production G.prefix G.setting q p xs n

  abbrev ReadingOf : Body → Trees → ℕ → Lexemes → Outcome → Type 0
  ReadingOf b ts p xs o = Reading G.prefix G.setting b ts G.depth p xs o

  -- Phrase q is read from xs to ys, with trees like t.
  pub data Got (q : Phrase) (p : ℕ) (xs : Lexemes) (t : Trees) (ys : Lexemes) : Type 0 where
    got : (us : Trees) (r : ℕ) → ReadingOf (body_of q p xs 0) none p xs (done us r ys) → Alike t us → Got q p xs t ys

  -- From b with the trees ts at xs one comes to c with trees like t at ys.
  pub data Goes (b : Body) (ts : Trees) (p : ℕ) (xs : Lexemes) (c : Body) (t : Trees) (ys : Lexemes) : Type 0 where
    goes : (us : Trees) (r : ℕ) → ((o : Outcome) → ReadingOf c us r ys o → ReadingOf b ts p xs o) → Alike t us → Goes b ts p xs c t ys

-- Phrase q is read one level deeper.
pub data Deeply : Under → Phrase → ℕ → Lexemes → Trees → Lexemes → Type 0 where
  deeply : {prefix s d : ℕ} {q : Phrase} {p : ℕ} {xs ys : Lexemes} {t : Trees} → Got (under prefix s d) q p xs t ys → Deeply (under prefix s (suc d)) q p xs t ys

deepens : {prefix s d : ℕ} {q : Phrase} {b c : Body} {ts us u : Trees} {p r : ℕ} {xs ys zs : Lexemes}
    → Reading prefix s (production prefix s q p xs 0) none d p xs (done us r ys) → Goes (under prefix s (suc d)) b (ts ⊕ us) r ys c u zs
    → Goes (under prefix s (suc d)) (deep q ▸ b) ts p xs c u zs
deepens y (goes us r f a) = goes us r (λ o x. deepened y (f o x)) a

pub deeps : {G : Under} {q : Phrase} {b c : Body} {ts t u : Trees} {p : ℕ} {xs ys zs : Lexemes} → Deeply G q p xs t ys
    → ((us : Trees) (r : ℕ) → Alike t us → Goes G b (ts ⊕ us) r ys c u zs) → Goes G (deep q ▸ b) ts p xs c u zs
deeps (deeply (got us r y a)) g = deepens y (g us r a)

module _ {G : Under} where
  pub stay : {b : Body} {ts t : Trees} {p : ℕ} {xs : Lexemes} → Alike t ts → Goes G b ts p xs b t xs
  stay {ts = ts} {p = p} a = goes ts p (λ o x. x) a

  after : {b c d : Body} {ts us u : Trees} {p r : ℕ} {xs ys zs : Lexemes}
      → ((o : Outcome) → Reading G.prefix G.setting c us G.depth r ys o → Reading G.prefix G.setting b ts G.depth p xs o)
      → Goes G c us r ys d u zs → Goes G b ts p xs d u zs
  after f (goes us r g a) = goes us r (λ o x. f o (g o x)) a

  pub next : {b c d : Body} {ts t u : Trees} {p : ℕ} {xs ys zs : Lexemes} → Goes G b ts p xs c t ys
      → ((us : Trees) (r : ℕ) → Alike t us → Goes G c us r ys d u zs) → Goes G b ts p xs d u zs
  next (goes us r f a) g = after f (g us r a)

  pub eats : {k : ℕ} {b c : Body} {ts u : Trees} {p : ℕ} {xs ys zs : Lexemes} → xs is k then ys
      → ((r : ℕ) → Goes G b ts r ys c u zs) → Goes G (eat k ▸ b) ts p xs c u zs
  eats (lexeme {e = e}) g = after (λ o x. eaten refl x) (g e)

  pub leafs : {k tag : ℕ} {fs : List Field} {b c : Body} {ts u : Trees} {p : ℕ} {xs ys zs : Lexemes} → xs is k then ys
      → ((r : ℕ) → Goes G b (ts ⊕ tree tag fs none) r ys c u zs) → Goes G (leaf tag fs ▸ b) ts p xs c u zs
  leafs (lexeme {e = e}) g = after (λ o x. leafed x) (g e)

  pub closes : {tag : ℕ} {fs : List Field} {b c : Body} {ts u : Trees} {p : ℕ} {xs zs : Lexemes}
      → Goes G b (tree tag fs ts) p xs c u zs → Goes G (close tag fs ▸ b) ts p xs c u zs
  closes g = after (λ o x. closed x) g

  pub enters : {q : Phrase} {c : Body} {ts u : Trees} {p : ℕ} {xs zs : Lexemes}
      → Goes G (body_of G q p xs (count ts)) ts p xs c u zs → Goes G (goto q) ts p xs c u zs
  enters g = after (λ o x. gone x) g

  pub subs : {q : Phrase} {b c : Body} {ts t u : Trees} {p : ℕ} {xs ys zs : Lexemes} → Got G q p xs t ys
      → ((us : Trees) (r : ℕ) → Alike t us → Goes G b (ts ⊕ us) r ys c u zs) → Goes G (sub q ▸ b) ts p xs c u zs
  subs (got us r y a) g = after (λ o x. subbed y x) (g us r a)

  pub finish : {q : Phrase} {p : ℕ} {xs ys : Lexemes} {t : Trees} → Goes G (body_of G q p xs 0) none p xs end t ys → Got G q p xs t ys
  finish {ys = ys} (goes us r f a) = got us r (f (done us r ys) ended) a

  -- A phrase that goes on from nothing is read.
  pub from_goto : {q : Phrase} {p : ℕ} {xs ys : Lexemes} {t : Trees} → Goes G (goto q) none p xs end t ys → Got G q p xs t ys
  unfolding count
  from_goto {q} {p} {xs} {ys} {t} (goes us r f a) = by (f (done us r ys) ended) a
    where
      by : {us : Trees} {r : ℕ} → Reading G.prefix G.setting (goto q) none G.depth p xs (done us r ys) → Alike t us → Got G q p xs t ys
      by {us} {r} (gone x) a = got us r x a

  -- The same, the tree or the body written otherwise.
  pub respell : {b c : Body} {ts t u : Trees} {p : ℕ} {xs ys : Lexemes} → t ≡ u → Goes G b ts p xs c t ys → Goes G b ts p xs c u ys
  respell {b} {c} {ts} {p = p} {xs = xs} {ys = ys} e g = subst (λ (w : Trees). Goes G b ts p xs c w ys) e g

  pub rebody : {b c d : Body} {ts t : Trees} {p : ℕ} {xs ys : Lexemes} → c ≡ d → Goes G b ts p xs c t ys → Goes G b ts p xs d t ys
  rebody {b} {ts = ts} {t = t} {p = p} {xs = xs} {ys = ys} e g = subst (λ (w : Body). Goes G b ts p xs w t ys) e g

-- ── Which production ──────────────────────────────────────────────────────────────────────────────

-- The production b of a table, for that no earlier row fits.
pub data Picks (s : ℕ) : Table → Body → Type 0 where
  at_last : {b : Body} → Picks s (otherwise b) b
  this : {g : Switch} {t : Bool} {b : Body} {rows : Table} → T t → T (has s g) → Picks s (row g t b ∣ rows) b
  skip : {g : Switch} {t : Bool} {b c : Body} {rows : Table} → (T t → T (has s g) → ⊥) → Picks s rows b → Picks s (row g t c ∣ rows) b

picked : {s : ℕ} {t : Table} {b : Body} → Picks s t b → choose s t ≡ b
unfolding choose
picked at_last = refl
picked {s} (this {g} {t} {b} {rows} h k) = by t (has s g) h k
  where
    by : (t a : Bool) → T t → T a → ◌≡◌ {A = Body} (elim (t && a) [ true ↦ b | false ↦ choose s rows ]) b
    by true true h k = refl
    by true false h k = absurd k
    by false a h k = absurd h
picked {s} (skip {g} {t} {b} {c} {rows} n p) = by t (has s g) n (picked p)
  where
    by : (t a : Bool) → (T t → T a → ⊥) → choose s rows ≡ b → ◌≡◌ {A = Body} (elim (t && a) [ true ↦ c | false ↦ choose s rows ]) b
    by true true n e = absurd (n tt tt)
    by true false n e = e
    by false a n e = e

module _ {G : Under} where
  -- By the row that is picked.
  pub by_row : (q : Phrase) (n : ℕ) {b c : Body} {ts u : Trees} {p : ℕ} {xs zs : Lexemes} → Picks G.setting (rule G.prefix q (view p xs n)) b
      → Goes G b ts p xs c u zs → Goes G (body_of G q p xs n) ts p xs c u zs
  unfolding production
  by_row q n {c = c} {ts} {u} {p} {xs} {zs} k g = subst (λ (d : Body). Goes G d ts p xs c u zs) (sym (picked k)) g

  pub turns : {q : Phrase} {b c : Body} {ts u : Trees} {p : ℕ} {xs zs : Lexemes} → Picks G.setting (rule G.prefix q (view p xs (count ts))) b
      → Goes G b ts p xs c u zs → Goes G (goto q) ts p xs c u zs
  turns {q} {ts = ts} k g = enters (by_row q (count ts) k g)

  pub begins : {q : Phrase} {b : Body} {p : ℕ} {xs ys : Lexemes} {t : Trees} → Picks G.setting (rule G.prefix q (view p xs 0)) b
      → Goes G b none p xs end t ys → Got G q p xs t ys
  begins {q} k g = finish (by_row q 0 k g)
