-- The theorems on the lexemes of a source: there is one list of them and no other, they cover the source without gap or overlap, and the kept
-- ones from a place are none, or one and the kept ones from its end.
-- Assumes nothing.
use mathlib.Core.Path.{◌≡◌, refl, sym, ◌∙◌, ap, subst}
use mathlib.Core.Bool.{Bool, true, false, not, cond, ◌&&◌}
use mathlib.Core.List.{List, [], ◌∷◌, ◌++◌}
use mathlib.Core.Logic.{◌⊎◌, inl, inr}
use Prim.Native.Nat.{ℕ, zero, suc, ◌+◌, ◌-◌, ◌≤◌, ◌<◌}
use native.Mathlib.Omega.{arith}
use native.Mathlib.Decide.{dec_lt}
use lib.Dec.{T, eqb, eqb→eq}
use lib.ListN.{length, get_or, take, drop, drop_of_length-le, take-append-drop}
use lib.Seq.{drop-drop}
use Rattle.regexes.proofs.Bools.{false_is, and_left, and_right, or_cases, all, all_at}
use Rattle.lexemes.specs.declared.Lexeme.{Lexeme}
use Rattle.lexemes.specs.declared.kept.Cursor.{Cursor}
use Rattle.lexemes.specs.Kinds.{EOF, WHITESPACE}
use Rattle.lexemes.specs.Lexeme.{LexemeAt, rule, lexeme}
use Rattle.lexemes.specs.Scan.{class_of, Ran, Alone}
use Rattle.lexemes.specs.Kept.{Lexemes, none, some, dropped_kinds, dropped, bad, keep, Kept, first, NextKept, first_bad, FirstBad, Stands, one_of}
use Rattle.lexemes.specs.Texts.{text_of}
use Rattle.lexemes.proofs.Operations.{alone_scanned, alone_low}
use Rattle.lexemes.proofs.Firsts.{blank_scanned}
use Rattle.lexemes.proofs.Laws.{lexeme_once, lexeme_bounds, lexeme_always, lexeme_not_eof}

module _ {s : List ℕ} where
  -- One list of lexemes, and no other.
  pub lexemes_once : {at : ℕ} {xs ys : List Lexeme} → Lexemes s at xs → Lexemes s at ys → xs ≡ ys
  lexemes_once (none h) (none g) = refl
  lexemes_once (none h) (some g l m) = absurd (omega arith)
  lexemes_once (some g l m) (none h) = absurd (omega arith)
  lexemes_once (some {l = l} {ls = xs} g d m) (some {l = l'} {ls = ys} g' d' m') =
      let e : l ≡ l' = lexeme_once s d d' in
      let f : xs ≡ ys = lexemes_once (subst (λ (x : Lexeme). Lexemes s x.end xs) e m) m' in
      cc

  lexemes_from : (n at : ℕ) → length s ≤ at + n → (xs : List Lexeme) × Lexemes s at xs
  lexemes_from zero at h = ([], none {at = at} (omega arith))
  lexemes_from (suc n) at h = by (dec_lt at (length s)) (lexemes_from n (lexeme_always s at).0.end)
    where
      by : Dec (at < length s) → (length s ≤ (lexeme_always s at).0.end + n → (xs : List Lexeme) × Lexemes s (lexeme_always s at).0.end xs) → (xs : List Lexeme) × Lexemes s at xs
      by (no g) rec = ([], none {at = at} (omega arith))
      by (yes g) rec =
          let l = lexeme_always s at in
          let b = lexeme_bounds s g l.1 in
          let r = rec (omega (arith, b.1)) in
          (l.0 ∷ r.0, some g l.1 r.1)

-- Every source has a list of lexemes, from every place.
pub lexemes_always : (s : List ℕ) (at : ℕ) → (xs : List Lexeme) × Lexemes s at xs
lexemes_always s at = lexemes_from (length s) at (omega arith)

-- The texts of a list of lexemes, one after the other.
unfoldable pub texts_of : List ℕ → List Lexeme → List ℕ
texts_of s [] = []
texts_of s (l ∷ ls) = text_of s l ++ texts_of s ls

-- They cover the source from the place on: each begins where the one before it ends, and ends further on.
pub lexemes_cover : {s : List ℕ} {at : ℕ} {xs : List Lexeme} → Lexemes s at xs → texts_of s xs ≡ drop at s
unfolding texts_of
lexemes_cover {s} {at} (none h) = sym (drop_of_length-le s {i = at} h)
lexemes_cover {s} {at} (some {l = l} {ls = ls} g d m) =
    let b = lexeme_bounds s g d in
    ap (λ (x : List ℕ). text_of s l ++ x) (lexemes_cover m) ∙ cut s l.start l.end (omega (arith, b)) ∙ ap (λ (i : ℕ). drop i s) b.0
  where
    cut : (s : List ℕ) (a e : ℕ) → a ≤ e → take (e - a) (drop a s) ++ drop e s ≡ drop a s
    cut s a e h =
        let q : e ≡ a + (e - a) = omega arith in
        ap (λ (x : List ℕ). take (e - a) (drop a s) ++ x) (ap (λ (i : ℕ). drop i s) q ∙ sym (drop-drop (e - a) a s)) ∙ take-append-drop (e - a) (drop a s)

-- Each of them ends further on than it begins, within the source.
pub data Forward (s : List ℕ) : ℕ → List Lexeme → Type 0 where
  end : {at : ℕ} → Forward s at []
  on : {at : ℕ} {l : Lexeme} {ls : List Lexeme} → l.start ≡ at → at < l.end → l.end ≤ length s → Forward s l.end ls → Forward s at (l ∷ ls)

pub lexemes_forward : {s : List ℕ} {at : ℕ} {xs : List Lexeme} → Lexemes s at xs → Forward s at xs
lexemes_forward (none h) = end
lexemes_forward {s} (some g d m) = let b = lexeme_bounds s g d in on b.0 b.1 b.2 (lexemes_forward m)

-- The kept lexemes: one list of them, and no other.
pub kept_once : {s : List ℕ} {at : ℕ} {xs ys : List Lexeme} → Kept s at xs → Kept s at ys → xs ≡ ys
kept_once k k' = k.kept ∙ ap keep (lexemes_once k.all k'.all) ∙ sym k'.kept

pub kept_always : (s : List ℕ) (at : ℕ) → (xs : List Lexeme) × Kept s at xs
kept_always s at = let l = lexemes_always s at in (keep l.0, record { lexemes = l.0; all = l.1; kept = refl })

pub next_once : {s : List ℕ} {at : ℕ} {l l' : Lexeme} → NextKept s at l → NextKept s at l' → l ≡ l'
next_once {at = at} n n' = n.is_first ∙ ap (first at) (kept_once n.is_left n'.is_left) ∙ sym n'.is_first

pub first_bad_once : {s : List ℕ} {l l' : Lexeme} → FirstBad s l → FirstBad s l' → l ≡ l'
first_bad_once {s} b b' = b.is_first ∙ ap (first_bad (length s)) (lexemes_once b.all b'.all) ∙ sym b'.is_first

pub stands_once : {s : List ℕ} {at : ℕ} {c c' : Cursor} → Stands s at c → Stands s at c' → c ≡ c'
stands_once {s} {at} {c} {c'} k k' =
    let e : c.last ≡ c'.last = k.last ∙ sym k'.last in
    let f : c.current ≡ c'.current = next_once k.current k'.current in
    λ i. record { last = e i; current = f i }

-- A test of every kind of a list holds of each.
unfoldable pub every : List ℕ → (ℕ → Bool) → Bool
every [] f = true
every (k ∷ ks) f = f k && every ks f

pub every_at : (ks : List ℕ) (f : ℕ → Bool) → T (every ks f) → (k : ℕ) → T (one_of ks k) → T (f k)
unfolding every
every_at [] f h k m = absurd m
every_at (x ∷ ks) f h k m = by (or_cases (eqb k x) (one_of ks k) m) (every_at ks f (and_right (f x) (every ks f) h) k)
  where
    by : T (eqb k x) ⊎ T (one_of ks k) → (T (one_of ks k) → T (f k)) → T (f k)
    by (inl e) later = subst (λ (j : ℕ). T (f j)) (sym (eqb→eq k x e)) (and_left (f x) (every ks f) h)
    by (inr m) later = later m

-- What is dropped is not bad.
pub dropped-good : (k : ℕ) → dropped k ≡ true → bad k ≡ false
unfolding dropped bad every
dropped-good k h = sym (false_is (bad k) (every_at dropped_kinds (λ (k : ℕ). not (bad k)) tt k (subst T (sym h) tt)))

-- None of these lexemes is bad.
pub data NoneBad : List Lexeme → Type 0 where
  over : NoneBad []
  also : {l : Lexeme} {ls : List Lexeme} → bad l.kind ≡ false → NoneBad ls → NoneBad (l ∷ ls)

-- The first bad one of all is the first of the kept ones.
first-bad-keep : (n : ℕ) (ls : List Lexeme) → first_bad n (keep ls) ≡ first_bad n ls
unfolding keep first_bad
first-bad-keep n [] = refl
first-bad-keep n (l ∷ ls) = by (dropped l.kind) refl (first-bad-keep n ls)
  where
    by : (b : Bool) → dropped l.kind ≡ b → first_bad n (keep ls) ≡ first_bad n ls → first_bad n (cond b (keep ls) (l ∷ keep ls)) ≡ cond (bad l.kind) l (first_bad n ls)
    by true e later = later ∙ sym (ap (λ (b : Bool). cond b l (first_bad n ls)) (dropped-good l.kind e))
    by false e later = ap (λ (x : Lexeme). cond (bad l.kind) l x) later

pub kept_first_bad : {s : List ℕ} {l : Lexeme} {ks : List Lexeme} → Kept s 0 ks → l ≡ first_bad (length s) ks → FirstBad s l
kept_first_bad {s} k e = record { lexemes = k.lexemes; all = k.all; is_first = e ∙ ap (first_bad (length s)) k.kept ∙ first-bad-keep (length s) k.lexemes }

none_bad_first : (n : ℕ) {ks : List Lexeme} → NoneBad ks → first_bad n ks ≡ lexeme EOF n n
unfolding first_bad
none_bad_first n over = refl
none_bad_first n (also {l = l} {ls = ls} g r) = ap (λ (b : Bool). cond b l (first_bad n ls)) g ∙ none_bad_first n r

-- Where none of the kept lexemes is bad, none of all is.
pub kept_none_bad : {s : List ℕ} {ks : List Lexeme} → Kept s 0 ks → NoneBad ks → FirstBad s (lexeme EOF (length s) (length s))
kept_none_bad {s} k h = kept_first_bad k (sym (none_bad_first (length s) h))

-- A lexeme before a list: dropped or kept.
module _ {s : List ℕ} {at : ℕ} {l : Lexeme} (h : at < length s) (d : LexemeAt s at l) where
  pub kept_drop : {xs : List Lexeme} → dropped l.kind ≡ true → Kept s l.end xs → Kept s at xs
  unfolding keep
  kept_drop e k =
      record { lexemes = l ∷ k.lexemes; all = some h d k.all; kept = k.kept ∙ sym (ap (λ (b : Bool). cond b (keep k.lexemes) (l ∷ keep k.lexemes)) e) }

  pub kept_keep : {xs : List Lexeme} → dropped l.kind ≡ false → Kept s l.end xs → Kept s at (l ∷ xs)
  unfolding keep
  kept_keep e k =
      record {
        lexemes = l ∷ k.lexemes;
        all = some h d k.all;
        kept = ap (λ (xs : List Lexeme). l ∷ xs) k.kept ∙ sym (ap (λ (b : Bool). cond b (keep k.lexemes) (l ∷ keep k.lexemes)) e);
      }

pub kept_none : {s : List ℕ} {at : ℕ} → length s ≤ at → Kept s at []
unfolding keep
kept_none h = record { lexemes = []; all = none h; kept = refl }

-- Kept lexemes from a place on: none, or one from there on, which ends within the source, and the kept lexemes from its end.
pub data Rest (s : List ℕ) (at : ℕ) : List Lexeme → Type 0 where
  nothing : Rest s at []
  next :
      {l : Lexeme} {ls : List Lexeme} → at ≤ l.start → l.start < l.end → l.end ≤ length s → LexemeAt s l.start l → dropped l.kind ≡ false →
      Kept s l.end ls → Rest s at (l ∷ ls)

sooner : {s : List ℕ} {at at' : ℕ} {xs : List Lexeme} → at ≤ at' → Rest s at' xs → Rest s at xs
sooner h nothing = nothing
sooner h (next {l = l} f a b d e k) = next {l = l} (omega arith) a b d e k

walk : {s : List ℕ} {at : ℕ} {ls : List Lexeme} → Lexemes s at ls → Rest s at (keep ls)
unfolding keep
walk (none h) = nothing
walk {s} {at} (some {l = l} {ls = ls} g d m) = by (dropped l.kind) refl (walk m)
  where
    by : (b : Bool) → dropped l.kind ≡ b → Rest s l.end (keep ls) → Rest s at (cond b (keep ls) (l ∷ keep ls))
    by true e r = sooner (omega (arith, lexeme_bounds s g d)) r
    by false e r =
        let b = lexeme_bounds s g d in
        next {l = l} (omega (arith, b)) (omega (arith, b)) b.2 (subst (λ (i : ℕ). LexemeAt s i l) (sym b.0) d) e record { lexemes = ls; all = m; kept = refl }

-- The law by which the phrases layer steps: the kept lexemes from a place are none, or one and the kept lexemes from its end.
pub kept_step : {s : List ℕ} {at : ℕ} {xs : List Lexeme} → Kept s at xs → Rest s at xs
kept_step {s} {at} k = subst (λ (xs : List Lexeme). Rest s at xs) (sym k.kept) (walk k.all)

-- From the cursor's side: with EOF as its current lexeme none is left, and any other is the first that is left.
pub next_eof : {s : List ℕ} {at : ℕ} {l : Lexeme} → NextKept s at l → l.kind ≡ EOF → Kept s at [] × (l ≡ lexeme EOF at at)
next_eof {s} {at} {l} n e = by n.left n.is_left n.is_first
  where
    by : (ks : List Lexeme) → Kept s at ks → l ≡ first at ks → Kept s at [] × (l ≡ lexeme EOF at at)
    by [] k q = (k, q)
    by (x ∷ ks) k q = absurd (no_eof (kept_step k))
      where
        no_eof : Rest s at (x ∷ ks) → ⊥
        no_eof (next f h g d n r) = lexeme_not_eof s (omega arith) d (sym (ap (λ (y : Lexeme). y.kind) q) ∙ e)

pub next-some : {s : List ℕ} {at : ℕ} {l : Lexeme} → NextKept s at l → (l.kind ≡ EOF → ⊥) → (ls : List Lexeme) × Kept s at (l ∷ ls) × Kept s l.end ls
next-some {s} {at} {l} n e = by n.left n.is_left n.is_first
  where
    by : (ks : List Lexeme) → Kept s at ks → l ≡ first at ks → (ls : List Lexeme) × Kept s at (l ∷ ls) × Kept s l.end ls
    by [] k q = absurd (e (ap (λ (y : Lexeme). y.kind) q))
    by (x ∷ ks) k q = (ks, subst (λ (y : Lexeme). Kept s at (y ∷ ks)) (sym q) k, subst (λ (y : Lexeme). Kept s y.end ks) (sym q) (rest (kept_step k)))
      where
        rest : Rest s at (x ∷ ks) → Kept s x.end ks
        rest (next f h g d n r) = r

-- A kept lexeme stands from the place on, and ends further on, within the source.
pub next_bounds : {s : List ℕ} {at : ℕ} {l : Lexeme} → NextKept s at l → (l.kind ≡ EOF → ⊥) → (at ≤ l.start) × (l.start < l.end) × (l.end ≤ length s)
next_bounds {s} {at} {l} n e = by (kept_step (next-some n e).1)
  where
    by : {ls : List Lexeme} → Rest s at (l ∷ ls) → (at ≤ l.start) × (l.start < l.end) × (l.end ≤ length s)
    by (next f h g d q r) = (f, h, g)

-- What the code finds on its way to the next kept lexeme, and to the first bad one.
pub record Skipping (s : List ℕ) (at i : ℕ) : Type 0 where
  pub on : {ks : List Lexeme} → Kept s i ks → Kept s at ks

module _ {s : List ℕ} {at : ℕ} where
  pub skip_start : Skipping s at at
  skip_start = record { on = λ k. k }

  module _ {i : ℕ} (m : Skipping s at i) where
    pub skip_on : {l : Lexeme} → i < length s → LexemeAt s i l → dropped l.kind ≡ true → Skipping s at l.end
    skip_on h d e = record { on = λ k. m.on (kept_drop h d e k) }

    pub skip_found : {l : Lexeme} → i < length s → LexemeAt s i l → dropped l.kind ≡ false → NextKept s at l
    skip_found {l} h d e = let r = kept_always s l.end in record { left = l ∷ r.0; is_left = m.on (kept_keep h d e r.1); is_first = refl }

    pub skip_end : length s ≤ i → NextKept s at (lexeme EOF at at)
    skip_end h = record { left = []; is_left = m.on (kept_none h); is_first = refl }

-- No lexeme up to a place is bad: the first bad one of those kept from there on is the source's.
pub record Good (s : List ℕ) (i : ℕ) : Type 0 where
  pub on : {l : Lexeme} {ks : List Lexeme} → Kept s i ks → l ≡ first_bad (length s) ks → FirstBad s l

pub good_start : {s : List ℕ} → Good s 0
good_start = record { on = λ k e. kept_first_bad k e }

module _ {s : List ℕ} {i : ℕ} {l : Lexeme} (m : Good s i) (n : NextKept s i l) where
  pub good_on : (l.kind ≡ EOF → ⊥) → bad l.kind ≡ false → Good s l.end
  unfolding first_bad
  good_on f e =
      let y = next-some n f in
      record {
        on = λ {l = b} {ks} k q. m.on y.1 (q ∙ ap (first_bad (length s)) (kept_once k y.2) ∙ sym (ap (λ (t : Bool). cond t l (first_bad (length s) y.0)) e));
      }

  pub good-bad : (l.kind ≡ EOF → ⊥) → bad l.kind ≡ true → FirstBad s l
  unfolding first_bad
  good-bad f e =
      let y = next-some n f in
      m.on y.1 (sym (ap (λ (t : Bool). cond t l (first_bad (length s) y.0)) e))

  pub good_end : l.kind ≡ EOF → FirstBad s (lexeme EOF (length s) (length s))
  unfolding first_bad
  good_end e = m.on (next_eof n e).0 refl

-- What the code sees at once: blanks, and operators of one byte.
all_kept : T (all (λ k. not (dropped k)) 37)
unfolding all dropped
all_kept = tt

pub alone_kept : {b c k : ℕ} → Alone b c k → dropped k ≡ false
alone_kept {k = k} a = sym (false_is (dropped k) (all_at (λ k. not (dropped k)) 37 all_kept k (alone_low a)))

module _ {s : List ℕ} {at : ℕ} (h : at < length s) where
  pub blank_lexeme : {e : ℕ} → class_of (get_or s at 0) ≡ 4 → Ran s (at + 1) 4 4 e → LexemeAt s at (lexeme WHITESPACE at e)
  blank_lexeme c r = rule h (blank_scanned s at c r) (λ e. omega arith) refl

  pub alone_lexeme : {k : ℕ} → Alone (get_or s at 0) (get_or s (at + 1) 0) k → LexemeAt s at (lexeme k at (at + 1))
  alone_lexeme a = rule h (alone_scanned s at a) (λ e. omega (arith, alone_low a)) refl

pub blank_dropped : dropped WHITESPACE ≡ true
unfolding dropped
blank_dropped = refl
