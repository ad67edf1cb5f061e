-- Sources whose kept lexemes agree in kind and text: each lexeme says the same, and so the same is found out about both, but for spans and places.
-- And a block always says its text, so that number 10 had nothing to be given for.
-- Assumes nothing.
use mathlib.Core.Path.{◌≡◌, refl, sym, ap, subst, ◌∙◌}
use mathlib.Core.Bool.{Bool, cond}
use mathlib.Core.List.{List, [], ◌∷◌}
use Prim.Native.Nat.{ℕ, suc, ◌+◌, ◌-◌, ◌≤◌, ◌<◌}
use native.Mathlib.Omega.{arith}
use native.Mathlib.Decide.{dec_lt, ℕ_discrete}
use lib.ListN.{length, get_or, take, drop, get_or-eq_default}
use lib.Seq.{slice}
use borrow.Author.Tests.{eq-eqb, ne_eqb}
use Rattle.strings.specs.Utf8.{Utf8}
use Rattle.strings.specs.Literals.{Quoted, BadEscape, Verbatim}
use Rattle.blocks.specs.Blocks.{BlockText}
use Rattle.blocks.proofs.Laws.{block_end_lem}
use Rattle.blocks.proofs.Alone.{same_text}
use Rattle.numerals.specs.Value.{TooLarge}
use Rattle.lexemes.specs.declared.Lexeme.{Lexeme as Range}
use Rattle.lexemes.specs.Kinds.{EOF, FLOAT, IDENT, STRING_BLOCK}
use Rattle.lexemes.specs.Lexeme.{LexemeAt, lexeme}
use Rattle.lexemes.specs.Texts.{part, plain}
use Rattle.lexemes.specs.Kept as lexemes
use Rattle.lexemes.specs.Same.{SameLexeme, SameList, SameLexemes, Place, here, at_end, later}
use Rattle.lexemes.specs.Same as same
use Rattle.lexemes.proofs.KeptLaws.{Rest, kept_step, kept_once}
use Rattle.lexemes.proofs.TextLaws.{double_verbatim_has_quotes, single_verbatim_has_quotes, block_is_good, block_decodes}
use Rattle.lexemes.proofs.SameLaws.{SameBad, no_bad, a_bad, same_first_bad, same_inside}
use Rattle.grammar.specs.Numbers.{LEXEME, ESCAPE, at_lexeme}
use Rattle.grammar.specs.Trees.{Trees}
use Rattle.grammar.specs.Lexemes.{Said, says, Lexeme, start_of, stop_of}
use Rattle.grammar.specs.Says.{Means, name, number, double, single, double_verbatim, single_verbatim, block, Spoils, in_double, in_single, Says, its_text, its_escape, no_text, Told}
use Rattle.grammar.specs.Reading.{Outcome, done, broken, Reads}
use Rattle.grammar.specs.Answer.{Verdict, refused, verdict, Judged, bad_setting, too_long, not_utf8, bad_lexeme, read, prefix_power, document_01}
use Rattle.grammar.specs.Source.{Bad, bad, Kept, kept}
use Rattle.grammar.specs.SameAnswers.{SameDetail, equal, as_far, SameVerdict, trees, settings, refusals}
use Rattle.grammar.proofs.Alike.{one_placeless}
use Rattle.grammar.proofs.SaysLaws.{says_once}
use Rattle.grammar.proofs.Possible.{slice-part}
use Rattle.grammar.proofs.Chosen.{true_false}
use Rattle.grammar.proofs.NumberLaws.{refusal, met_at_lexeme}
use Rattle.grammar.proofs.Whole.{utf8_cut}
use Rattle.grammar.proofs.Placeless.{placeless_lexemes, placeless_lexeme, placeless_detail, placeless_outcome, one_outcome, escape_from, Came, at_once, after, broken_came}

-- ── What a lexeme says rests on its kind and text ─────────────────────────────────────────────────

-- A lexeme of kind k from a to e of a source.
record Lies (s : List ℕ) (k a e : ℕ) : Type 0 where
  start : a < e
  within : e ≤ length s
  lexeme_there : LexemeAt s a (record { kind = k; start = a; end = e })

some_byte : (s : List ℕ) (i : ℕ) → get_or s i 0 ≡ 124 → i < length s
some_byte s i e = by (dec_lt i (length s))
  where
    by : Dec (i < length s) → i < length s
    by (yes h) = h
    by (no h) = absurd (omega (arith, e, get_or-eq_default s 0 {n = i} (omega arith)))

module _ (s t : List ℕ) (a e b f : ℕ) where
  -- The inside of a lexeme, the same in both.
  inside : (i j : ℕ) → a + i ≤ e → b + i ≤ f → e ≤ length s → f ≤ length t → part s a e ≡ part t b f → slice (a + i) (e - j) s ≡ slice (b + i) (f - j) t
  inside i j h g le lf q = slice-part (a + i) (e - j) s ∙ same_inside s t a e b f i j h g le lf q ∙ sym (slice-part (b + i) (f - j) t)

  whole : part s a e ≡ part t b f → slice a e s ≡ slice b f t
  whole q = slice-part a e s ∙ q ∙ sym (slice-part b f t)

  block_rest : part s (a + 3) (e - 0) ≡ part t (b + 3) (f - 0) → take (e - (a + 3)) (drop (a + 3) s) ≡ take (f - (b + 3)) (drop (b + 3) t)
  block_rest q =
      let x : e ≡ e - 0 = omega arith in
      let y : f - 0 ≡ f = omega arith in
      ap (λ (n : ℕ). part s (a + 3) n) x ∙ q ∙ ap (λ (n : ℕ). part t (b + 3) n) y

  same_block : {w : List ℕ} → Lies s STRING_BLOCK a e → Lies t STRING_BLOCK b f → part s a e ≡ part t b f → BlockText (drop (a + 3) s) w → BlockText (drop (b + 3) t) w
  same_block x y q m =
      let g = block_is_good s x.lexeme_there refl in
      let g' = block_is_good t y.lexeme_there refl in
      let h = some_byte s (a + 2) g.1 in
      let h' = some_byte t (b + 2) g'.1 in
      let l = block_end_lem g.0 (omega arith) in
      let l' = block_end_lem g'.0 (omega arith) in
      same_text t (b + 3) f g.0 (omega arith) (block_rest (same_inside s t a e b f 3 0 l.0 l'.0 x.within y.within q)) m

  same_means : {k : ℕ} {w : List ℕ} → Lies s k a e → Lies t k b f → part s a e ≡ part t b f → Means s k a e w → Means t k b f w
  same_means x y q name = subst (λ (w : List ℕ). Means t IDENT b f w) (sym (whole q)) name
  same_means x y q (number h) =
      subst (λ (w : List ℕ). Means t FLOAT b f (plain w)) (sym (whole q)) (number (subst (λ (w : List ℕ). TooLarge (plain w) → ⊥) (whole q) h))
  same_means {w = w} x y q (double m) = double (subst (λ (l : List ℕ). Quoted l w) (inside 1 1 (omega (arith, x.start)) (omega (arith, y.start)) x.within y.within q) m)
  same_means {w = w} x y q (single m) = single (subst (λ (l : List ℕ). Quoted l w) (inside 1 1 (omega (arith, x.start)) (omega (arith, y.start)) x.within y.within q) m)
  same_means {w = w} x y q (double_verbatim m) =
      let h = (double_verbatim_has_quotes s (omega (arith, x.start, x.within)) x.lexeme_there refl).0 in
      let h' = (double_verbatim_has_quotes t (omega (arith, y.start, y.within)) y.lexeme_there refl).0 in
      double_verbatim (subst (λ (l : List ℕ). Verbatim 0x22 l w) (inside 2 1 (omega (arith, h)) (omega (arith, h')) x.within y.within q) m)
  same_means {w = w} x y q (single_verbatim m) =
      let h = (single_verbatim_has_quotes s (omega (arith, x.start, x.within)) x.lexeme_there refl).0 in
      let h' = (single_verbatim_has_quotes t (omega (arith, y.start, y.within)) y.lexeme_there refl).0 in
      single_verbatim (subst (λ (l : List ℕ). Verbatim 0x27 l w) (inside 2 1 (omega (arith, h)) (omega (arith, h')) x.within y.within q) m)
  same_means x y q (block m) = block (same_block x y q m)

  same_spoils : {k n : ℕ} → Lies s k a e → Lies t k b f → part s a e ≡ part t b f → Spoils s k a e n → Spoils t k b f n
  same_spoils {n = n} x y q (in_double m) =
      in_double (subst (λ (l : List ℕ). BadEscape l n) (inside 1 1 (omega (arith, x.start)) (omega (arith, y.start)) x.within y.within q) m)
  same_spoils {n = n} x y q (in_single m) =
      in_single (subst (λ (l : List ℕ). BadEscape l n) (inside 1 1 (omega (arith, x.start)) (omega (arith, y.start)) x.within y.within q) m)

-- What one says the other says.
same_says : {s t : List ℕ} {k a e b f : ℕ} {w : Said} → Lies s k a e → Lies t k b f → part s a e ≡ part t b f → Says s k a e w → Says t k b f w
same_says {s} {t} {a = a} {e} {b} {f} x y q (its_text m) = its_text (same_means s t a e b f x y q m)
same_says {s} {t} {a = a} {e} {b} {f} x y q (its_escape m) = its_escape (same_spoils s t a e b f x y q m)
same_says {s} {t} {a = a} {e} {b} {f} x y q (no_text h g) =
    no_text (λ w m. h w (same_means t s b f a e y x (sym q) m)) (λ n m. g n (same_spoils t s b f a e y x (sym q) m))

-- The lexemes as the phrases see them, the same but for their places.
same_told : {s t : List ℕ} {p q : ℕ} {xs ys : List Range} {us vs : List Lexeme} → lexemes.Kept s p xs → lexemes.Kept t q ys → SameList s t xs ys → Told s xs us → Told t ys vs
    → placeless_lexemes us ≡ placeless_lexemes vs
unfolding placeless_lexemes placeless_lexeme
same_told x y same.none Told.none Told.none = refl
same_told {s} {t} {p} {q} x y (same.more z r) (Told.more {a = a} {e = e} {w = w} {xs = xs} {ys = us} m o) (Told.more {a = b} {e = f} {w = w'} {xs = ys} {ys = vs} m' o') =
    by z.kind z.text m m' (kept_step x) (kept_step y) (λ l l'. same_told l l' r o o')
  where
    by : {k k' : ℕ} → k ≡ k' → part s a e ≡ part t b f → Says s k a e w → Says t k' b f w' → Rest s p (record { kind = k; start = a; end = e } ∷ xs)
        → Rest t q (record { kind = k'; start = b; end = f } ∷ ys) → (lexemes.Kept s e xs → lexemes.Kept t f ys → placeless_lexemes us ≡ placeless_lexemes vs)
        → ◌≡◌ {A = List Lexeme} (record { kind = k; start = 0; stop = 0; word = w } ∷ placeless_lexemes us) (record { kind = k'; start = 0; stop = 0; word = w' } ∷ placeless_lexemes vs)
    by {k} {k'} i j m m' (Rest.next h₀ h₁ h₂ d h₃ l) (Rest.next g₀ g₁ g₂ d' g₃ l') on =
        let lies' : Lies t k' b f = record { start = g₁; within = g₂; lexeme_there = d' } in
        let lies : Lies s k a e = record { start = h₁; within = h₂; lexeme_there = d } in
        let word : w ≡ w' = says_once (same_says (subst (λ (n : ℕ). Lies s n a e) i lies) lies' j (subst (λ (n : ℕ). Says s n a e w) i m)) m' in
        let rest = on l l' in
        cc (i, word, rest)

-- ── Where a refusal stands ────────────────────────────────────────────────────────────────────────

-- What a reading has come to is the place behind all lexemes but those that are left.
placed : {s : List ℕ} {p r : ℕ} {xs : List Range} {us vs : List Lexeme} → Told s xs us → Came p us r vs → (i : ℕ) × (i + length vs ≡ length us) × Place p xs i (start_of r vs) (stop_of r vs)
placed Told.none at_once = (0, refl, at_end)
placed (Told.more m o) at_once = (0, omega arith, here)
placed (Told.more m o) (after c) = let z = placed o c in (suc z.0, omega (arith, z.1), later z.2)

placeless_length : (us : List Lexeme) → length (placeless_lexemes us) ≡ length us
unfolding placeless_lexemes
placeless_length [] = refl
placeless_length (u ∷ us) = ap suc (placeless_length us)

same_length : (us vs : List Lexeme) → placeless_lexemes us ≡ placeless_lexemes vs → length us ≡ length vs
same_length us vs e = sym (placeless_length us) ∙ ap length e ∙ placeless_length vs

details : {n m a x b y : ℕ} → n ≡ m → (n ≡ ESCAPE → a ≤ x) → (m ≡ ESCAPE → b ≤ y) → placeless_detail n a x ≡ placeless_detail m b y → SameDetail n a x b y
unfolding placeless_detail
details {n} {m} {a} {x} {b} {y} e h g q = by (ℕ_discrete n ESCAPE)
  where
    by : Dec (n ≡ ESCAPE) → SameDetail n a x b y
    by (yes i) =
        let o : x - a ≡ y - b =
        sym (ap (λ (c : Bool). cond c (x - a) x) (eq-eqb n ESCAPE i)) ∙ q ∙ ap (λ (c : Bool). cond c (y - b) y) (eq-eqb m ESCAPE (sym e ∙ i)) in
        let u : a + (x - a) ≡ x = omega (arith, h i) in
        let v : b + (x - a) ≡ y = omega (arith, g (sym e ∙ i), o) in
        subst (λ (k : ℕ). SameDetail k a x b y) (sym i) (subst (λ (k : ℕ). SameDetail ESCAPE a k b y) u (subst (λ (k : ℕ). SameDetail ESCAPE a (a + (x - a)) b k) v (as_far (x - a))))
    by (no i) =
        let o : x ≡ y =
        sym (ap (λ (c : Bool). cond c (x - a) x) (ne_eqb n ESCAPE i)) ∙ q ∙ ap (λ (c : Bool). cond c (y - b) y) (ne_eqb m ESCAPE (λ j. i (e ∙ j))) in
        subst (λ (k : ℕ). SameDetail n a x b k) o (equal i)

same_number : {n n' p p' y y' : ℕ} {us us' : List Lexeme} → broken n p us y ≡ broken n' p' us' y' → (n ≡ n') × (us ≡ us') × (y ≡ y')
same_number e = (cc, cc, cc)

same_trees : {ts ts' : Trees} {p p' : ℕ} {us us' : List Lexeme} → done ts p us ≡ done ts' p' us' → ts ≡ ts'
same_trees e = cc

module _ {s t : List ℕ} (x : SameLexemes s t) where
  same_outcome : (prefix g depth : ℕ) {us vs : List Lexeme} (o o' : Outcome) → Told s x.left us → Told t x.right vs → placeless_lexemes us ≡ placeless_lexemes vs
      → Reads prefix g depth us o → Reads prefix g depth vs o' → placeless_outcome o ≡ placeless_outcome o' → SameVerdict x.left x.right (verdict o) (verdict o')
  unfolding verdict placeless_outcome
  same_outcome prefix g depth (done ts p us) (done ts' p' us') m m' l r r' e = trees (one_placeless (same_trees e))
  same_outcome prefix g depth (done ts p us) (broken n p' us' y) m m' l r r' e = absurd (let z : ◌≡◌ {A = ℕ} 0 1 = cc in omega arith)
  same_outcome prefix g depth (broken n p us y) (done ts' p' us') m m' l r r' e = absurd (let z : ◌≡◌ {A = ℕ} 0 1 = cc in omega arith)
  same_outcome prefix g depth (broken n p us y) (broken n' p' us' y') m m' l r r' e =
      let q = same_number e in
      let i = placed m (broken_came prefix g r) in
      let j = placed m' (broken_came prefix g r') in
      let k : j.0 ≡ i.0 = omega (arith, i.1, j.1, same_length _ _ l, same_length us us' q.1) in
      subst (λ (k : ℕ). SameVerdict x.left x.right (refused n (start_of p us) (stop_of p us) y) (refused k (start_of p' us') (stop_of p' us') y')) q.0
      (refusals (met_at_lexeme n y (refusal prefix g r)) i.2 (subst (λ (k : ℕ). Place 0 x.right k (start_of p' us') (stop_of p' us')) k j.2) (details q.0 (escape_from prefix g r) (escape_from prefix g r') q.2))

  -- The lexemes that the premise tells are those that are read.
  told_left : {xs : List Range} {us : List Lexeme} → lexemes.Kept s 0 xs → Told s xs us → Told s x.left us
  told_left {us = us} k m = subst (λ (ys : List Range). Told s ys us) (kept_once k x.kept_left) m

  told_right : {xs : List Range} {us : List Lexeme} → lexemes.Kept t 0 xs → Told t xs us → Told t x.right us
  told_right {us = us} k m = subst (λ (ys : List Range). Told t ys us) (kept_once k x.kept_right) m

  bads : {k a e k' b f : ℕ} → (k ≡ EOF → ⊥) → SameBad 0 0 x.left x.right (length s) (length t) (lexeme k a e) (lexeme k' b f)
      → SameVerdict x.left x.right (refused LEXEME a e k) (refused LEXEME b f k')
  unfolding at_lexeme
  bads h (no_bad y z) = absurd (h (ap (λ (l : Range). l.kind) y))
  bads {k} {a} {e} {b = b} {f} h (a_bad y p q) =
      subst (λ (j : ℕ). SameVerdict x.left x.right (refused LEXEME a e k) (refused LEXEME b f j)) y (refusals tt p q (equal (λ i. omega (arith, i))))

  one_bad : {k a e n : ℕ} → (k ≡ EOF → ⊥) → SameBad 0 0 x.left x.right (length s) (length t) (lexeme k a e) (lexeme EOF n n) → ⊥
  one_bad h (no_bad y z) = h (ap (λ (l : Range). l.kind) y)
  one_bad h (a_bad y p q) = h y

  bad_one : {k a e n : ℕ} → (k ≡ EOF → ⊥) → SameBad 0 0 x.left x.right (length s) (length t) (lexeme EOF n n) (lexeme k a e) → ⊥
  bad_one h (no_bad y z) = h (ap (λ (l : Range). l.kind) z)
  bad_one h (a_bad y p q) = h (sym y)

  -- THE SAME IS FOUND OUT ABOUT BOTH, but for spans and places.
  pub same_judged : {g : ℕ} {v w : Verdict} → Utf8 s → Utf8 t → length s ≤ document_01.size → length t ≤ document_01.size → Judged Bad Kept document_01 g s v
      → Judged Bad Kept document_01 g t w → SameVerdict x.left x.right v w
  same_judged u u' h h' (bad_setting a) (bad_setting b) = settings
  same_judged u u' h h' (bad_setting a) (too_long b c) = absurd (true_false (sym b ∙ a))
  same_judged u u' h h' (bad_setting a) (not_utf8 b c d e) = absurd (true_false (sym b ∙ a))
  same_judged u u' h h' (bad_setting a) (bad_lexeme b c d e) = absurd (true_false (sym b ∙ a))
  same_judged u u' h h' (bad_setting a) (read b c d e f) = absurd (true_false (sym b ∙ a))
  same_judged u u' h h' (too_long a b) z = absurd (omega arith)
  same_judged u u' h h' (not_utf8 a b c d) z = absurd (utf8_cut c d u)
  same_judged u u' h h' (bad_lexeme a b c d) (bad_setting e) = absurd (true_false (sym a ∙ e))
  same_judged u u' h h' (bad_lexeme a b c d) (too_long e f) = absurd (omega arith)
  same_judged u u' h h' (bad_lexeme a b c d) (not_utf8 e f i j) = absurd (utf8_cut i j u')
  same_judged u u' h h' (bad_lexeme a b c (bad n y)) (bad_lexeme e f i (bad m z)) = bads n (same_first_bad x y z)
  same_judged u u' h h' (bad_lexeme a b c (bad n y)) (read e f i (kept z k o) j) = absurd (one_bad n (same_first_bad x y z))
  same_judged u u' h h' (read a b c d e) (bad_setting f) = absurd (true_false (sym a ∙ f))
  same_judged u u' h h' (read a b c d e) (too_long f i) = absurd (omega arith)
  same_judged u u' h h' (read a b c d e) (not_utf8 f i j k) = absurd (utf8_cut j k u')
  same_judged u u' h h' (read a b c (kept y k o) e) (bad_lexeme f i j (bad m z)) = absurd (bad_one m (same_first_bad x y z))
  same_judged {g} u u' h h' (read {o = o} a b c (kept y k l) r) (read {o = o'} f i j (kept y' k' l') r') =
      let m = told_left k l in
      let m' = told_right k' l' in
      let same = same_told x.kept_left x.kept_right x.same m m' in
      same_outcome (prefix_power g) g document_01.depth o o' m m' same r r' (one_outcome (prefix_power g) g same r r')

-- ── Number 10 ─────────────────────────────────────────────────────────────────────────────────────

-- A BLOCK OF A SOURCE SAYS ITS TEXT: 01's "a good block lexeme fails to decode" is true of none. So number 10 is not used.
pub block_says_its_text : {s : List ℕ} {at : ℕ} {l : Range} {w : Said} → LexemeAt s at l → l.kind ≡ STRING_BLOCK → Says s l.kind l.start l.end w → (t : List ℕ) × (w ≡ says t)
block_says_its_text {s} {l = l} d e m =
    let t = block_decodes s d e in
    (t.0, says_once m (its_text (subst (λ (k : ℕ). Means s k l.start l.end t.0) (sym e) (block t.1))))
