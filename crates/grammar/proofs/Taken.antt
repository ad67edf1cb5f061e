-- A reading takes no bad lexeme: a source that has a tree has none.
-- Assumes nothing.
use mathlib.Core.Path.{◌≡◌, refl, sym, ap, subst, ◌∙◌}
use mathlib.Core.Bool.{Bool, true, false, ◌&&◌, ◌||◌, not}
use mathlib.Core.List.{List, [], ◌∷◌}
use mathlib.Core.Logic.{◌⊎◌, inl, inr}
use Prim.Native.Nat.{ℕ, suc}
use native.Mathlib.Omega.{arith}
use lib.Dec.{T}
use Rattle.strings.specs.Utf8.{Utf8}
use Rattle.lexemes.specs.declared.Lexeme.{Lexeme as Range}
use Rattle.lexemes.specs.Kinds.{EOF}
use Rattle.lexemes.specs.Kept.{bad_kinds, bad}
use Rattle.lexemes.specs.Kept as lexemes
use Rattle.lexemes.proofs.Laws.{lexeme_not_eof}
use Rattle.lexemes.proofs.KeptLaws.{every, every_at, NoneBad, kept_none_bad, Rest, kept_step}
use Rattle.grammar.specs.Trees.{Trees, none, ◌⊕◌, count}
use Rattle.grammar.specs.Lexemes.{Said, nothing, Lexeme, rest, kind_of}
use Rattle.grammar.specs.Words.{Possible, Worded}
use Rattle.grammar.specs.Spells.{Quoted}
use Rattle.grammar.specs.Says.{Told}
use Rattle.grammar.specs.Source.{Kept, kept}
use Rattle.grammar.specs.Productions.{Phrase, Body, end, goto, fail, ◌▸◌, eat, leaf, sub, deep, close, row, Table, otherwise, ◌∣◌, View, rule}
use Rattle.grammar.specs.Reading.{has, choose, view, production, done, Reading, ended, gone, eaten, leafed, closed, subbed, deepened, Reads}
use Rattle.grammar.proofs.Tables.{picky, picky_table, shuns, with_next, careful}
use Rattle.grammar.proofs.Chosen.{true_false, and_left, and_right, or_cases, pick, careful_chosen}
use Rattle.grammar.proofs.Possible.{next_possible, rest_worded, worded}

-- ── The production that is chosen ─────────────────────────────────────────────────────────────────

module _ (s : ℕ) where
  picky_chosen : (t : Table) → T (picky_table t) → T (picky true (choose s t))
  unfolding choose picky_table
  picky_chosen (otherwise b) h = h
  picky_chosen (row g t b ∣ rest) h =
      pick (λ (x : Body). T (picky true x)) (t && has s g) b (choose s rest) (and_left (picky true b) (picky_table rest) h)
      (picky_chosen rest (and_right (picky true b) (picky_table rest) h))

  shuns_row : (t a : Bool) (b c : Body) → T (picky false b || not t) → T (picky false c) → T (picky false (elim (t && a) [ true ↦ b | false ↦ c ]))
  shuns_row true true b c h k = by (or_cases (picky false b) false h)
    where
      by : T (picky false b) ⊎ T false → T (picky false b)
      by (inl x) = x
      by (inr x) = absurd x
  shuns_row true false b c h k = k
  shuns_row false a b c h k = k

  shuns_chosen : (t : Table) → T (shuns t) → T (picky false (choose s t))
  unfolding choose shuns
  shuns_chosen (otherwise b) h = h
  shuns_chosen (row g t b ∣ rest) h =
      shuns_row t (has s g) b (choose s rest) (and_left (picky false b || not t) (shuns rest) h) (shuns_chosen rest (and_right (picky false b || not t) (shuns rest) h))

quoted-good : {k : ℕ} → Quoted k → bad k ≡ true → ⊥
unfolding bad
quoted-good Quoted.double h = true_false (sym h)
quoted-good Quoted.single h = true_false (sym h)
quoted-good Quoted.double_verbatim h = true_false (sym h)
quoted-good Quoted.single_verbatim h = true_false (sym h)
quoted-good Quoted.block h = true_false (sym h)

-- A bad lexeme says nothing.
silent_bad : {k : ℕ} {v : Said} → Possible k v → bad k ≡ true → v ≡ nothing
unfolding bad
silent_bad (Possible.name n) h = absurd (true_false (sym h))
silent_bad (Possible.numeral n) h = absurd (true_false (sym h))
silent_bad (Possible.string q u) h = absurd (quoted-good q h)
silent_bad (Possible.spoiled q) h = absurd (quoted-good q h)
silent_bad (Possible.silent n) h = refl

-- ── Readings ──────────────────────────────────────────────────────────────────────────────────────

-- From these lexemes on to those that are left none is bad.
pub data Good : List Lexeme → List Lexeme → Type 0 where
  here : {xs : List Lexeme} → Good xs xs
  past : {x : Lexeme} {xs ys : List Lexeme} → bad x.kind ≡ false → Good xs ys → Good (x ∷ xs) ys

join : {xs ys zs : List Lexeme} → Good xs ys → Good ys zs → Good xs zs
join here h = h
join (past e g) h = past e (join g h)

step : {xs ys : List Lexeme} → bad (kind_of xs) ≡ false → Good (rest xs) ys → Good xs ys
step {xs = []} e g = g
step {xs = x ∷ xs} e g = past e g

worded_on : {xs ys : List Lexeme} → Good xs ys → Worded xs → Worded ys
worded_on here w = w
worded_on (past e g) w = worded_on g (rest_worded w)

-- None of these lexemes is the end's.
pub data Standing : List Lexeme → Type 0 where
  over : Standing []
  before : {x : Lexeme} {xs : List Lexeme} → (x.kind ≡ EOF → ⊥) → Standing xs → Standing (x ∷ xs)

standing_on : {xs ys : List Lexeme} → Good xs ys → Standing xs → Standing ys
standing_on here n = n
standing_on (past e g) (before h n) = standing_on g n

at_end : {xs : List Lexeme} → Standing xs → kind_of xs ≡ EOF → xs ≡ []
at_end over e = refl
at_end (before h n) e = absurd (h e)

-- What is picky with no leaf is so with one let pass.
later : (first : Bool) (b : Body) → T (picky false b) → T (picky first b)
unfolding picky
later first end h = tt
later first (fail n x) h = tt
later first (goto q) h = tt
later first (eat k ▸ b) h = h
later first (leaf t fs ▸ b) h = absurd h
later first (close t fs ▸ b) h = h
later first (sub q ▸ b) h = h
later first (deep q ▸ b) h = h

not_bad : (k : ℕ) → T (not (bad k)) → bad k ≡ false
not_bad k h = by (bad k) h
  where
    by : (b : Bool) → T (not b) → b ≡ false
    by true h = absurd h
    by false h = refl

-- With these lexemes left, a body takes no bad one next, and none later.
abbrev Wary : List Lexeme → Body → Type 0
Wary xs b = T (picky (not (bad (kind_of xs))) b)

module _ (prefix s : ℕ) where
  wary : (q : Phrase) (p : ℕ) (xs : List Lexeme) (n : ℕ) → Worded xs → Wary xs (production prefix s q p xs n)
  unfolding production view careful bad
  wary q p xs n w = by (bad (kind_of xs)) refl
    where
      v : View
      v = view p xs n

      ok : T (careful prefix q v)
      ok = careful_chosen prefix s q v

      shut : bad (kind_of xs) ≡ true → T (shuns (rule prefix q v))
      shut e =
          subst (λ (y : Said). T (shuns (rule prefix q (with_next v (kind_of xs) y)))) (sym (silent_bad (next_possible w) e))
          (every_at bad_kinds (λ (k : ℕ). shuns (rule prefix q (with_next v k nothing))) (and_right (picky_table (rule prefix q v)) (every bad_kinds (λ (k : ℕ). shuns (rule prefix q (with_next v k nothing)))) ok)
          (kind_of xs) (subst T (sym e) tt))

      by : (b : Bool) → bad (kind_of xs) ≡ b → T (picky (not b) (choose s (rule prefix q v)))
      by true e = shuns_chosen s (rule prefix q v) (shut e)
      by false e = picky_chosen s (rule prefix q v) (and_left (picky_table (rule prefix q v)) (every bad_kinds (λ (k : ℕ). shuns (rule prefix q (with_next v k nothing)))) ok)

  -- What a reading that is done has taken.
  pub taken : {b : Body} {ts us : Trees} {d p r : ℕ} {xs ys : List Lexeme} → Worded xs → Wary xs b → Reading prefix s b ts d p xs (done us r ys) → Good xs ys
  unfolding picky
  taken w h ended = here
  taken w h (gone {q} {ts} {d} {p} {xs} z) = taken w (wary q p xs (count ts) w) z
  taken {xs = xs} w h (eaten {k} {b} e z) =
      let e' : bad (kind_of xs) ≡ false = ap bad e ∙ not_bad k (and_left (not (bad k)) (picky false b) h) in
      step e' (taken (rest_worded w) (later _ b (and_right (not (bad k)) (picky false b) h)) z)
  taken {xs = xs} w h (leafed {b = b} z) =
      step (not_bad (kind_of xs) (and_left (not (bad (kind_of xs))) (picky false b) h)) (taken (rest_worded w) (later _ b (and_right (not (bad (kind_of xs))) (picky false b) h)) z)
  taken w h (closed {b = b} z) = taken w (later _ b h) z
  taken w h (subbed {q} {b} {p = p} {xs = xs} y z) =
      let g = taken w (wary q p xs 0 w) y in
      join g (taken (worded_on g w) (later _ b h) z)
  taken w h (deepened {q} {b} {p = p} {xs = xs} y z) =
      let g = taken w (wary q p xs 0 w) y in
      join g (taken (worded_on g w) (later _ b h) z)

  -- A reading of the whole source that is done has taken all its lexemes.
  pub all_taken : {depth r : ℕ} {us : Trees} {xs ys : List Lexeme} → Worded xs → Standing xs → Reads prefix s depth xs (done us r ys) → Good xs []
  unfolding picky
  all_taken {xs = xs} w n (deepened {q} {us = vs} {d} {p = p} {r = k} {ys = zs} y z) = whole z
    where
      g : Good xs zs
      g = taken w (wary q p xs 0 w) y

      whole : {us : Trees} {r : ℕ} {ys : List Lexeme} → Reading prefix s (eat EOF ▸ end) (none ⊕ vs) (suc d) k zs (done us r ys) → Good xs []
      whole (eaten e ended) = subst (λ (zs : List Lexeme). Good xs zs) (at_end (standing_on g n) e) g

-- ── Of sources ────────────────────────────────────────────────────────────────────────────────────

standing : {s : List ℕ} {at : ℕ} {ranges : List Range} {xs : List Lexeme} → lexemes.Kept s at ranges → Told s ranges xs → Standing xs
standing k Told.none = over
standing {s} {at} k (Told.more {k = kind} {a = a} {e = e} {w = w} {xs = ranges} {ys = ys} x t) = by (kept_step k) (λ r. standing r t)
  where
    by : Rest s at (record { kind = kind; start = a; end = e } ∷ ranges) → (lexemes.Kept s e ranges → Standing ys) → Standing (record { kind = kind; start = a; stop = e; word = w } ∷ ys)
    by (Rest.next f h l d n r) on = before (lexeme_not_eof s (omega arith) d) (on r)

none_bad : {s : List ℕ} {ranges : List Range} {xs : List Lexeme} → Told s ranges xs → Good xs [] → NoneBad ranges
none_bad Told.none g = NoneBad.over
none_bad (Told.more x t) (past e g) = NoneBad.also e (none_bad t g)

-- A SOURCE THAT HAS A TREE HAS NO BAD LEXEME.
pub tree_kept : {prefix g depth r : ℕ} {us : Trees} {s : List ℕ} {ranges : List Range} {xs ys : List Lexeme}
    → Utf8 s → lexemes.Kept s 0 ranges → Told s ranges xs → Reads prefix g depth xs (done us r ys) → Kept s xs
tree_kept {prefix} {g} u k t z = kept (kept_none_bad k (none_bad t (all_taken prefix g (worded u k t) (standing k t) z))) k t
