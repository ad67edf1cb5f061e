-- The theorems on the texts of lexemes: an IDENT is an identifier and no keyword, a FLOAT without underscores is a numeral, a string literal
-- has its quotes, a block decodes, and on a UTF-8 source what they decode to is UTF-8.
-- Assumes nothing.
use mathlib.Core.Path.{◌≡◌, refl, sym, ◌∙◌, ap, ap₂, subst}
use mathlib.Core.Bool.{Bool, true, false, not, cond, ◌&&◌, ◌||◌}
use mathlib.Core.List.{List, [], ◌∷◌, ◌++◌}
use mathlib.Core.Logic.{◌⊎◌, inl, inr, ⊎_elim}
use Prim.Native.Nat.{ℕ, zero, suc, ◌+◌, ◌-◌, ◌≤◌, ◌<◌}
use native.Mathlib.Omega.{arith}
use native.Mathlib.Numerals.{add-one}
use native.Mathlib.Nat.{le_refl, le_trans, le_of_lt}
use native.Mathlib.Decide.{ℕ_discrete}
use lib.Dec.{T, leb, ltb, ltb→lt, eqb, eqb_refl}
use lib.ListN.{length, get_or, take, drop, take-append-drop}
use lib.Seq.{drop-cons, drop-drop, take-length}
use Rattle.regexes.specs.Regex.{END, Range, only, Re, none, eps, one, ◌·◌, ◌∣◌, star, in_class, within, ◌to◌, Star, stop, more, Match, Rule, ◌⇒◌, Takes}
use Rattle.regexes.proofs.Bools.{every, each, and_left, and_right, or_cases, implies, implied, refuted}
use Rattle.regexes.proofs.Derive.{or, or_to, along}
use Rattle.regexes.proofs.Tables.{append_to}
use Rattle.lexemes.specs.declared.Lexeme.{Lexeme}
use Rattle.lexemes.specs.Letters.{text, letter, next}
use Rattle.lexemes.specs.Rules.{rules, alpha, alnum, digit, groups, some, opt, sign, quoted, verbatim, whole, fraction, exponent}
use Rattle.lexemes.specs.Kinds.{EOF, LEXING_ERROR, ERROR_STRING_BLOCK_MISSING_INDENT, IDENT, FLOAT, STRING_DOUBLE, STRING_SINGLE, STRING_DOUBLE_VERBATIM, STRING_SINGLE_VERBATIM, STRING_BLOCK}
use Rattle.lexemes.specs.Lexeme.{Beats, Ruled, longest, error, LexemeAt, end, rule, block, fault_kind, block_kind, block_end}
use Rattle.lexemes.specs.Scan.{Best}
use Rattle.lexemes.specs.Words.{word_text, word_bytes, word_from, word_kind, Spells, KeywordAt}
use Rattle.lexemes.specs.Texts.{part, text_of, All, Identifier, keywords, Among, plain, is_digit, is_e, Whole, digits, Fraction, point, Exponent, unsigned, signed, Numeral, numeral, Enclosed, EnclosedRaw}
use Rattle.lexemes.proofs.Letters.{of_letter, sound, up, inside as byte_inside}
use Rattle.strings.specs.Utf8.{Utf8}
use Rattle.strings.specs.Literals.{Quoted, Verbatim}
use Rattle.strings.proofs.LiteralLaws.{quoted-utf8, verbatim-utf8}
use Rattle.strings.proofs.CharacterLaws.{ascii_splits}
use Rattle.std.specs.Prelude.{Ok, Err}
use Rattle.blocks.specs.declared.BlockFault.{BlockFault}
use Rattle.blocks.specs.declared.BlockFault.TheVariants.{UnexpectedEnd, MissingNewLine, MissingTermination, MissingIndent}
use Rattle.blocks.specs.Blocks.{Block, BlockAt, BlockText}
use Rattle.blocks.proofs.Laws.{good_decodes}
use Rattle.blocks.proofs.Utf8.{text-utf8}
use Rattle.lexemes.proofs.Laws.{lexeme_bounds}
use Rattle.lexemes.proofs.Moves.{is, is_to, plain as plain_byte}
use Rattle.lexemes.proofs.Spaces.{within_to}
use Rattle.lexemes.proofs.Keywords.{others, words, rules_split, words_from, keyword_least, spells_same, text-length, from_up}

-- The rules of one kind.
rules_of : ℕ → List Rule → Re
unfolding or
rules_of k [] = none
rules_of k ((q ⇒ r) ∷ rs) = elim (eqb k q) [ true ↦ or r (rules_of k rs) | false ↦ rules_of k rs ]

takes_match : (s : List ℕ) (S : List Rule) (k i j : ℕ) → Takes (text s) S k i j → Match (text s) (rules_of k S) i j
unfolding Takes rules_of
takes_match s [] k i j m = absurd m
takes_match s ((q ⇒ r) ∷ rs) k i j m = by (eqb k q) refl m (takes_match s rs k i j)
  where
    by : (b : Bool) → eqb k q ≡ b → ((k ≡ q) × Match (text s) r i j) ⊎ Takes (text s) rs k i j → (Takes (text s) rs k i j → Match (text s) (rules_of k rs) i j)
        → Match (text s) (elim b [ true ↦ or r (rules_of k rs) | false ↦ rules_of k rs ]) i j
    by true e m later = or_to (text s) r (rules_of k rs) i j (⊎_elim (λ x. inl x.1) (λ x. inr (later x)) m)
    by false e m later = ⊎_elim (λ x. absurd (refuted (eqb k q) (subst (λ (t : Bool). T (not t)) (sym e) tt) (subst (λ (z : ℕ). T (eqb k z)) x.0 (eqb_refl k)))) later m

-- Parts of a source.
module _ (s : List ℕ) where
  part_nil : (i j : ℕ) → j ≤ i → part s i j ≡ []
  part_nil i j h = let e : j - i ≡ 0 = omega arith in ap (λ (n : ℕ). take n (drop i s)) e

  part_cons : (i j : ℕ) → i < j → i < length s → part s i j ≡ get_or s i 0 ∷ part s (i + 1) j
  part_cons i j h g =
      let e : j - i ≡ suc (j - (i + 1)) = omega arith in
      let d : drop i s ≡ get_or s i 0 ∷ drop (i + 1) s = drop-cons s i 0 g ∙ ap (λ (n : ℕ). get_or s i 0 ∷ drop n s) (sym (add-one i)) in
      ap₂ (λ (n : ℕ) (l : List ℕ). take n l) e d

  part_one : (i j : ℕ) → j ≡ i + 1 → i < length s → part s i j ≡ get_or s i 0 ∷ []
  part_one i j e h = part_cons i j (omega arith) h ∙ ap (λ (l : List ℕ). get_or s i 0 ∷ l) (part_nil (i + 1) j (omega arith))

  part_append : (n i j k : ℕ) → j ≡ i + n → j ≤ k → j ≤ length s → part s i k ≡ part s i j ++ part s j k
  part_append zero i j k e h g =
      let q : i ≡ j = omega arith in
      ap (λ (x : ℕ). part s x k) q ∙ sym (ap (λ (l : List ℕ). l ++ part s j k) (part_nil i j (omega arith)))
  part_append (suc n) i j k e h g =
      part_cons i k (omega arith) (omega arith)
      ∙ ap (λ (l : List ℕ). get_or s i 0 ∷ l) (part_append n (i + 1) j k (omega arith) h g)
      ∙ sym (ap (λ (l : List ℕ). l ++ part s j k) (part_cons i j (omega arith) (omega arith)))

-- Where every letter of an expression passes a test that only bytes of ASCII pass, every byte of what it matches does.
letters_in : (ℕ → Bool) → Re → Bool
letters_in f none = true
letters_in f eps = true
letters_in f (one c) = implies 131 (in_class c) f
letters_in f (a · b) = letters_in f a && letters_in f b
letters_in f (a ∣ b) = letters_in f a && letters_in f b
letters_in f (star a) = letters_in f a

all_append : (f : ℕ → Bool) (a b : List ℕ) → All f a → All f b → All f (a ++ b)
all_append f [] b x y = y
all_append f (c ∷ a) b x y = (x.0, all_append f a b x.1 y)

module _ (s : List ℕ) (f : ℕ → Bool) (low : T (implies 131 f (λ l. ltb l 128))) where
  -- A match that is all of such bytes.
  record Plainly (i j : ℕ) : Type 0 where
    up_to : i ≤ j
    all : j ≤ length s → All f (part s i j)

  stay : (i : ℕ) → Plainly i i
  stay i = record { up_to = omega arith; all = λ h. subst (λ (l : List ℕ). All f l) (sym (part_nil s i i (omega arith))) tt }

  join : (i j k : ℕ) → Plainly i j → Plainly j k → Plainly i k
  join i j k a b =
      record {
        up_to = omega (arith, a.up_to, b.up_to);
        all = λ h. subst (λ (l : List ℕ). All f l) (sym (part_append s (j - i) i j k (omega (arith, a.up_to)) b.up_to (omega (arith, b.up_to))))
            (all_append f (part s i j) (part s j k) (a.all (omega (arith, b.up_to))) (b.all h));
      }

  letter_one : (i j : ℕ) → T (f (letter s i)) → j ≡ next s i → Plainly i j
  letter_one i j t e =
      let small = ltb→lt (letter s i) 128 (implied 131 f (λ l. ltb l 128) low (letter s i) (omega (arith, (sound s).low i)) t) in
      let r = of_letter s i (letter s i) small refl in
      let q : j ≡ i + 1 = e ∙ r.1 in
      record {
        up_to = omega arith;
        all = λ h. subst (λ (l : List ℕ). All f l) (sym (part_one s i j q (omega arith))) (subst (λ (b : ℕ). T (f b)) (sym r.0) t, tt);
      }

  stars_in : (a : Re) → ((i j : ℕ) → Match (text s) a i j → Plainly i j) → (i k : ℕ) → Star (Match (text s) a) i k → Plainly i k
  stars_in a g i k stop = stay i
  stars_in a g i k (more {j = j} m r) = join i j k (g i j m) (stars_in a g j k r)

  plainly : (r : Re) → T (letters_in f r) → (i j : ℕ) → Match (text s) r i j → Plainly i j
  unfolding letters_in Match
  plainly none t i j m = absurd m
  plainly eps t i j m = subst (λ (x : ℕ). Plainly i x) m (stay i)
  plainly (one c) t i j m = letter_one i j (implied 131 (in_class c) f t (letter s i) (omega (arith, (sound s).low i)) m.0) m.1
  plainly (a · b) t i j m =
      join i m.0 j (plainly a (and_left (letters_in f a) (letters_in f b) t) i m.0 m.1) (plainly b (and_right (letters_in f a) (letters_in f b) t) m.0 j m.2)
  plainly (a ∣ b) t i j (inl m) = plainly a (and_left (letters_in f a) (letters_in f b) t) i j m
  plainly (a ∣ b) t i j (inr m) = plainly b (and_right (letters_in f a) (letters_in f b) t) i j m
  plainly (star a) t i j m = stars_in a (plainly a t) i j m

module _ (s : List ℕ) (at e : ℕ) (h : at < length s) (g : e ≤ length s) where
  -- One byte of ASCII, and what follows it.
  byte_then : (f : ℕ → Bool) → T (implies 131 f (λ l. ltb l 128)) → (j : ℕ) → T (f (letter s at)) → j ≡ next s at → T (f (get_or s at 0)) × (j ≡ at + 1)
  byte_then f low j t q =
      let small = ltb→lt (letter s at) 128 (implied 131 f (λ l. ltb l 128) low (letter s at) (omega (arith, (sound s).low at)) t) in
      let r = of_letter s at (letter s at) small refl in
      (subst (λ (b : ℕ). T (f b)) (sym r.0) t, q ∙ r.1)

-- Identifiers.
alpha_low : T (implies 131 (in_class alpha) (λ l. ltb l 128))
unfolding implies
alpha_low = tt

alnum_low : T (implies 131 (in_class alnum) (λ l. ltb l 128))
unfolding implies
alnum_low = tt

alnum_letters : T (letters_in (in_class alnum) (star (one alnum)))
unfolding letters_in implies
alnum_letters = tt

ident_text : (s : List ℕ) (at e : ℕ) → e ≤ length s → Match (text s) (one alpha · star (one alnum)) at e → Identifier (part s at e)
unfolding Match
ident_text s at e g m =
    let p = plainly s (in_class alnum) alnum_low (star (one alnum)) alnum_letters m.0 e m.2 in
    let b = letter_one s (in_class alpha) alpha_low at m.0 m.1.0 m.1.1 in
    let q = byte_then s at e (omega (arith, b.up_to, p.up_to, m.1.1, up s at)) g (in_class alpha) alpha_low m.0 m.1.0 m.1.1 in
    subst Identifier (sym (part_cons s at e (omega (arith, p.up_to, q.1)) (omega (arith, p.up_to, q.1))))
    (q.0, subst (λ (i : ℕ). All (in_class alnum) (part s i e)) q.1 (p.all g))

-- A part of a source spells itself; the texts of the keywords are the code's.
part_spells : (s : List ℕ) (n i j : ℕ) → j ≡ i + n → j ≤ length s → Spells s (part s i j) i j
unfolding Spells
part_spells s zero i j e h = subst (λ (t : List ℕ). Spells s t i j) (sym (part_nil s i j (omega arith))) (omega arith)
part_spells s (suc n) i j e h =
    subst (λ (t : List ℕ). Spells s t i j) (sym (part_cons s i j (omega arith) (omega arith))) (refl, part_spells s n (i + 1) j (omega arith) h)

texts : ℕ → ℕ → List (List ℕ)
texts w zero = []
texts w (suc n) = word_text w ∷ texts (suc w) n

keywords_texts : keywords ≡ texts 0 18
unfolding keywords texts word_text word_bytes word_from
keywords_texts = refl

which : (t : List ℕ) (v n : ℕ) → v + n ≤ 18 → Among t (texts v n) → (w : ℕ) × (w < 18) × (t ≡ word_text w)
unfolding texts
which t v zero h m = absurd m
which t v (suc n) h (inl e) = (v, omega arith, e)
which t v (suc n) h (inr m) = which t (suc v) n (omega arith) m

listed : (w v n : ℕ) → v ≤ w → w < v + n → Among (word_text w) (texts v n)
unfolding texts
listed w v zero h g = absurd (omega arith)
listed w v (suc n) h g = by (ℕ_discrete w v) (listed w (suc v) n)
  where
    by : Dec (w ≡ v) → (suc v ≤ w → w < suc v + n → Among (word_text w) (texts (suc v) n)) → (word_text w ≡ word_text v) ⊎ Among (word_text w) (texts (suc v) n)
    by (yes e) later = inl (ap word_text e)
    by (no e) later = inr (later (omega arith) (omega arith))

-- What the kind of the word that a whole text is says of it.
module _ (s : List ℕ) where
  self_spells : Spells s s 0 (length s)
  self_spells =
      let e : length s - 0 ≡ length s = omega arith in
      subst (λ (t : List ℕ). Spells s t 0 (length s)) (ap (λ (n : ℕ). take n s) e ∙ take-length s)
      (part_spells s (length s) 0 (length s) (omega arith) (le_refl (length s)))

  whole_spells : (w : ℕ) → Spells s (word_text w) 0 (length s) → s ≡ word_text w
  whole_spells w m = spells_same s s (word_text w) 0 (length s) self_spells m

  pub keyword_among : {k : ℕ} → KeywordAt s 0 (length s) k → (k ≡ IDENT → ⊥) → Among s keywords
  keyword_among (inl x) n =
      subst (λ (us : List (List ℕ)). Among s us) (sym keywords_texts)
      (subst (λ (t : List ℕ). Among t (texts 0 18)) (sym (whole_spells x.0 x.3)) (listed x.0 0 18 (omega arith) x.1))
  keyword_among (inr x) n = absurd (n x.0)

  pub none_among : {k : ℕ} → KeywordAt s 0 (length s) k → k ≡ IDENT → Among s keywords → ⊥
  none_among (inl x) e m = omega (arith, x.2, e, keyword_least x.0 x.1)
  none_among (inr x) e m =
      let w = which s 0 18 (omega arith) (subst (λ (us : List (List ℕ)). Among s us) keywords_texts m) in
      x.1 w.0 w.1 (subst (λ (t : List ℕ). Spells s t 0 (length s)) w.2 self_spells)

pub empty_among : Among [] keywords → ⊥
empty_among m =
    let w = which [] 0 18 (omega arith) (subst (λ (us : List (List ℕ)). Among [] us) keywords_texts m) in
    omega (arith, ap length w.2, text-length w.0 w.1, (from_up w.0 w.1).0)

ident_no_keyword : (s : List ℕ) (at e : ℕ) → at ≤ e → e ≤ length s → Best s rules at IDENT e → Among (part s at e) keywords → ⊥
ident_no_keyword s at e h g l m = no_word (l.first k (subst (λ (S : List Rule). Takes (text s) S k at e) (sym rules_split) (append_to (text s) others words k at e (inr (words_from s w.0 at e w.1 sp)))))
  where
    w : (w : ℕ) × (w < 18) × (part s at e ≡ word_text w)
    w = which (part s at e) 0 18 (omega arith) (subst (λ (us : List (List ℕ)). Among (part s at e) us) keywords_texts m)

    k : ℕ
    k = get_or word_kind w.0 0

    sp : Spells s (word_text w.0) at e
    sp = subst (λ (t : List ℕ). Spells s t at e) w.2 (part_spells s (e - at) at e (omega arith) g)

    no_word : (k ≡ IDENT) ⊎ Beats IDENT k → ⊥
    no_word (inl q) = omega (arith, q, keyword_least w.0 w.1)
    no_word (inr q) = omega (arith, q.0.0)

-- Numbers: digits and underscores without the underscores are digits.
abbrev grouped : ℕ → Bool
grouped l = is_digit l || eqb l 95

grouped_low : T (implies 131 grouped (λ l. ltb l 128))
unfolding implies
grouped_low = tt

digit_low : T (implies 131 is_digit (λ l. ltb l 128))
unfolding implies
digit_low = tt

digits_left : (t : List ℕ) → All grouped t → All is_digit (plain t)
unfolding plain
digits_left [] a = tt
digits_left (b ∷ bs) a = by (eqb b 95) refl a.0 (digits_left bs a.1)
  where
    by : (x : Bool) → eqb b 95 ≡ x → T (is_digit b || eqb b 95) → All is_digit (plain bs) → All is_digit (cond x (plain bs) (b ∷ plain bs))
    by true e t r = r
    by false e t r = (⊎_elim (λ z. z) (λ z. absurd (refuted (eqb b 95) (subst (λ (y : Bool). T (not y)) (sym e) tt) z)) (or_cases (is_digit b) (eqb b 95) t), r)

plain_append : (a b : List ℕ) → plain (a ++ b) ≡ plain a ++ plain b
unfolding plain
plain_append [] b = refl
plain_append (x ∷ a) b = by (eqb x 95) (plain_append a b)
  where
    by : (t : Bool) → plain (a ++ b) ≡ plain a ++ plain b → cond t (plain (a ++ b)) (x ∷ plain (a ++ b)) ≡ cond t (plain a) (x ∷ plain a) ++ plain b
    by true e = e
    by false e = ap (λ (l : List ℕ). x ∷ l) e

plain-keep : (b : ℕ) (bs : List ℕ) → T (not (eqb b 95)) → plain (b ∷ bs) ≡ b ∷ plain bs
unfolding plain
plain-keep b bs t = by (eqb b 95) t
  where
    by : (x : Bool) → T (not x) → cond x (plain bs) (b ∷ plain bs) ≡ b ∷ plain bs
    by true t = absurd t
    by false t = refl

groups_in : T (letters_in grouped (star digit · groups))
unfolding letters_in implies
groups_in = tt

-- One byte that passes a test and no underscore, then a match: the parts, without underscores.
module _ (s : List ℕ) (f : ℕ → Bool) (low : T (implies 131 f (λ l. ltb l 128))) (keeps : T (implies 128 f (λ b. not (eqb b 95)))) where
  kept_byte : (i j e : ℕ) → T (f (letter s i)) → j ≡ next s i → j ≤ e → e ≤ length s → T (f (get_or s i 0)) × (plain (part s i e) ≡ get_or s i 0 ∷ plain (part s j e))
  kept_byte i j e t q h g =
      let u = up s i in
      let r = byte_then s i e (omega arith) g f low j t q in
      let b = get_or s i 0 in
      let small = ltb→lt (letter s i) 128 (implied 131 f (λ l. ltb l 128) low (letter s i) (omega (arith, (sound s).low i)) t) in
      let z = (of_letter s i (letter s i) small refl).0 in (
        r.0,
        ap plain (part_cons s i e (omega arith) (omega arith))
            ∙ plain-keep b (part s (i + 1) e) (implied 128 f (λ b. not (eqb b 95)) keeps b (omega arith) r.0)
            ∙ ap (λ (x : ℕ). b ∷ plain (part s x e)) (sym r.1),
      )

module _ (s : List ℕ) where
  forward : (r : Re) (i j : ℕ) → Match (text s) r i j → i ≤ j
  forward r i j m = along (text s) (λ i j. i ≤ j) le_refl (λ i j k a b. le_trans a b) (λ i c t. le_of_lt (up s i)) r i j m

  -- Digits and groups after a first one.
  tail_digits : (i j : ℕ) → j ≤ length s → Match (text s) (star digit · groups) i j → All is_digit (plain (part s i j))
  tail_digits i j g m = digits_left (part s i j) ((plainly s grouped grouped_low (star digit · groups) groups_in i j m).all g)

  keep-digit : T (implies 128 is_digit (λ b. not (eqb b 95)))
  unfolding implies
  keep-digit = tt

  -- `[0-9]+(?:_[0-9]+)*`
  some-digits : (i j : ℕ) → j ≤ length s → Match (text s) (some digit · groups) i j → (b : ℕ) × (bs : List ℕ) × T (is_digit b) × All is_digit bs × (plain (part s i j) ≡ b ∷ bs)
  unfolding Match
  some-digits i j g m =
      let d = m.1.1 in
      let rest : Match (text s) (star digit · groups) m.1.0 j = (m.0, m.1.2, m.2) in
      let r = kept_byte s is_digit digit_low keep-digit i m.1.0 j (digit_of (letter s i) d.0) d.1 (forward (star digit · groups) m.1.0 j rest) g in
      (get_or s i 0, plain (part s m.1.0 j), r.0, tail_digits m.1.0 j g rest, r.1)
    where
      digit_of : (l : ℕ) → T (ltb l END && is_digit l) → T (is_digit l)
      digit_of l t = and_right (ltb l END) (is_digit l) t

  -- A class given by ranges, of bytes of ASCII that are no underscore.
  abbrev Clear : List Range → Type 0
  Clear rs = T (implies 131 (within rs) (λ l. ltb l 128)) × T (implies 128 (within rs) (λ b. not (eqb b 95)))

  clear_byte : (rs : List Range) → Clear rs → (i j e : ℕ) → Match (text s) (one (only rs)) i j → j ≤ e → e ≤ length s
      → T (within rs (get_or s i 0)) × (plain (part s i e) ≡ get_or s i 0 ∷ plain (part s j e))
  unfolding Match
  clear_byte rs c i j e m h g = kept_byte s (within rs) c.0 c.1 i j e (and_right (ltb (letter s i) END) (within rs (letter s i)) m.0) m.1 h g

  one_nine : Clear (49 to 57 ∷ [])
  unfolding implies
  one_nine = (tt, tt)

  zero_alone : Clear (48 to 48 ∷ [])
  unfolding implies
  zero_alone = (tt, tt)

  point_alone : Clear (46 to 46 ∷ [])
  unfolding implies
  point_alone = (tt, tt)

  e_alone : Clear (101 to 101 ∷ 69 to 69 ∷ [])
  unfolding implies
  e_alone = (tt, tt)

  sign_alone : Clear (43 to 43 ∷ 45 to 45 ∷ [])
  unfolding implies
  sign_alone = (tt, tt)

  only_one : (b c : ℕ) → T (within (b to b ∷ []) c) → c ≡ b
  only_one b c t = ⊎_elim (λ x. omega (arith, x.0, x.1)) (λ x. absurd x) (within_to (b to b ∷ []) c t)

  plain_nil : (i j : ℕ) → j ≤ i → plain (part s i j) ≡ []
  unfolding plain
  plain_nil i j h = ap plain (part_nil s i j h)

  whole_text : (i j : ℕ) → j ≤ length s → Match (text s) whole i j → Whole (plain (part s i j))
  unfolding Match
  whole_text i j g (inl m) =
      let r = clear_byte (48 to 48 ∷ []) zero_alone i j j m (omega arith) g in
      subst Whole (sym (r.1 ∙ ap₂ (λ (b : ℕ) (t : List ℕ). b ∷ t) (only_one 48 (get_or s i 0) r.0) (plain_nil j j (omega arith)))) Whole.zero
  whole_text i j g (inr m) =
      let r = clear_byte (49 to 57 ∷ []) one_nine i m.0 j m.1 (forward (star digit · groups) m.0 j m.2) g in
      subst Whole (sym r.1) (digits r.0 (tail_digits m.0 j g m.2))

  fraction-text : (i j : ℕ) → j ≤ length s → Match (text s) fraction i j → Fraction (plain (part s i j))
  unfolding Match
  fraction-text i j g (inl m) = subst Fraction (sym (plain_nil i j (omega arith))) Fraction.none
  fraction-text i j g (inr m) =
      let r = clear_byte (46 to 46 ∷ []) point_alone i m.0 j m.1 (forward (some digit · groups) m.0 j m.2) g in
      let d = some-digits m.0 j g m.2 in
      subst Fraction (sym (r.1 ∙ ap₂ (λ (b : ℕ) (t : List ℕ). b ∷ t) (only_one 46 (get_or s i 0) r.0) d.4)) (point d.2 d.3)

  exponent-text : (i j : ℕ) → j ≤ length s → Match (text s) exponent i j → Exponent (plain (part s i j))
  unfolding Match
  exponent-text i j g (inl m) = subst Exponent (sym (plain_nil i j (omega arith))) Exponent.none
  exponent-text i j g (inr m) =
      let r = clear_byte (101 to 101 ∷ 69 to 69 ∷ []) e_alone i m.0 j m.1 (forward (opt sign · some digit · groups) m.0 j m.2) g in
      subst Exponent (sym r.1) (after r.0 m.0 m.2.0 m.2.1 m.2.2)
    where
      after : {e : ℕ} → T (is_e e) → (p q : ℕ) → Match (text s) (opt sign) p q → Match (text s) (some digit · groups) q j → Exponent (e ∷ plain (part s p j))
      after {e} t p q (inl z) n =
          let d = some-digits q j g n in
          subst (λ (x : List ℕ). Exponent (e ∷ x)) (sym (ap (λ (y : ℕ). plain (part s y j)) z ∙ d.4)) (unsigned t d.2 d.3)
      after {e} t p q (inr z) n =
          let d = some-digits q j g n in
          let r = clear_byte (43 to 43 ∷ 45 to 45 ∷ []) sign_alone p q j z (forward (some digit · groups) q j n) g in
          subst (λ (x : List ℕ). Exponent (e ∷ x)) (sym (r.1 ∙ ap (λ (y : List ℕ). get_or s p 0 ∷ y) d.4)) (signed t r.0 d.2 d.3)

  -- A number without its underscores.
  number_text : (i j : ℕ) → j ≤ length s → Match (text s) (whole · fraction · exponent) i j → Numeral (plain (part s i j))
  unfolding Match
  number_text i j g m =
      let p = m.0 in
      let q = m.2.0 in
      let a = forward whole i p m.1 in
      let b = forward fraction p q m.2.1 in
      let c = forward exponent q j m.2.2 in
      subst Numeral
      (sym (ap plain (part_append s (p - i) i p j (omega arith) (omega arith) (omega arith) ∙ ap (λ (t : List ℕ). part s i p ++ t) (part_append s (q - p) p q j (omega arith) (omega arith) (omega arith)))
      ∙ plain_append (part s i p) (part s p q ++ part s q j) ∙ ap (λ (t : List ℕ). plain (part s i p) ++ t) (plain_append (part s p q) (part s q j))))
      (numeral (whole_text i p (omega arith) m.1) (fraction-text p q (omega arith) m.2.1) (exponent-text q j g m.2.2))

-- Literals: a byte first, a byte last, and something between.
module _ (s : List ℕ) where
  -- A part between two bytes.
  pub enclosed : (a e : ℕ) → a + 2 ≤ e → e ≤ length s → part s a e ≡ get_or s a 0 ∷ (part s (a + 1) (e - 1) ++ get_or s (e - 1) 0 ∷ [])
  enclosed a e h g =
      part_cons s a e (omega arith) (omega arith)
      ∙ ap (λ (t : List ℕ). get_or s a 0 ∷ t)
      (part_append s (e - 1 - (a + 1)) (a + 1) (e - 1) e (omega arith) (omega arith) (omega arith)
      ∙ ap (λ (t : List ℕ). part s (a + 1) (e - 1) ++ t) (part_one s (e - 1) e (omega arith) (omega arith)))

  -- `q body q`
  ends_with : (r : Re) (q i e : ℕ) → T (plain_byte q) → Match (text s) (r · is q) i e → (i + 1 ≤ e) × (get_or s (e - 1) 0 ≡ q)
  unfolding Match
  ends_with r q i e p m =
      let z = is_to s m.0 q e p m.2 in
      let f = forward s r i m.0 m.1 in
      let t : m.0 ≡ e - 1 = omega (arith, z.1) in
      (omega (arith, z.1), subst (λ (x : ℕ). get_or s x 0 ≡ q) t z.0)

  quoted-text : (r : Re) (q a e : ℕ) → T (plain_byte q) → e ≤ length s → Match (text s) (is q · r · is q) a e → (a + 2 ≤ e) × Enclosed q (part s (a + 1) (e - 1)) (part s a e)
  unfolding Match
  quoted-text r q a e p g m =
      let o = is_to s a q m.0 p m.1 in
      let c = ends_with r q m.0 e p m.2 in
      let h : a + 2 ≤ e = omega (arith, o.1, c.0) in
      (h, enclosed a e h g ∙ ap₂ (λ (x y : ℕ). x ∷ (part s (a + 1) (e - 1) ++ y ∷ [])) o.0 c.1)

  raw_text : (r : Re) (q a e : ℕ) → T (plain_byte q) → e ≤ length s → Match (text s) (is 64 · is q · r · is q) a e → (a + 3 ≤ e) × EnclosedRaw q (part s (a + 2) (e - 1)) (part s a e)
  unfolding Match
  raw_text r q a e p g m =
      let o = is_to s a 64 m.0 tt m.1 in
      let c = quoted-text r q m.0 e p g m.2 in
      let h : a + 3 ≤ e = omega (arith, o.1, c.0) in
      let z : m.0 + 1 ≡ a + 2 = omega (arith, o.1) in (
        h,
        part_cons s a e (omega arith) (omega arith)
            ∙ ap₂ (λ (x : ℕ) (t : List ℕ). x ∷ t) o.0
            (ap (λ (x : ℕ). part s x e) (sym o.1) ∙ c.1 ∙ ap (λ (x : ℕ). q ∷ (part s x (e - 1) ++ q ∷ [])) z),
      )

  -- What stands between two bytes of ASCII of a UTF-8 source is UTF-8.
  pub between_utf8 : (a e : ℕ) → a + 1 ≤ e → e < length s → get_or s a 0 < 0x80 → get_or s e 0 < 0x80 → Utf8 s → Utf8 (part s (a + 1) e)
  between_utf8 a e h g x y u =
      (ascii_splits (part s (a + 1) e)
      (subst Utf8 (cut (a + 1) e h g)
      (ascii_splits (take a s) (subst Utf8 (sym (take-append-drop a s) ∙ ap (λ (t : List ℕ). take a s ++ t) (head a (omega arith))) u) x).1) y).0
    where
      head : (i : ℕ) → i < length s → drop i s ≡ get_or s i 0 ∷ drop (i + 1) s
      head i l = drop-cons s i 0 l ∙ ap (λ (n : ℕ). get_or s i 0 ∷ drop n s) (sym (add-one i))

      cut : (i j : ℕ) → i ≤ j → j < length s → drop i s ≡ part s i j ++ (get_or s j 0 ∷ drop (j + 1) s)
      cut i j l k =
          let q : i + (j - i) ≡ j = omega arith in
          sym (take-append-drop (j - i) (drop i s)) ∙ ap (λ (t : List ℕ). part s i j ++ t) (drop-drop (j - i) i s ∙ ap (λ (n : ℕ). drop n s) q ∙ head j k)

  -- A kind that is neither EOF nor an error of the lexer nor a block's comes from a rule.
  abbrev ordinary : ℕ → List Bool
  ordinary k = not (eqb k EOF) ∷ not (eqb k LEXING_ERROR) ∷ not (leb STRING_BLOCK k && leb k ERROR_STRING_BLOCK_MISSING_INDENT) ∷ []

  not_block : (b : Block) → T (leb STRING_BLOCK (block_kind b) && leb (block_kind b) ERROR_STRING_BLOCK_MISSING_INDENT)
  not_block (Ok e) = tt
  not_block (Err b) = by b.fault
    where
      by : (f : BlockFault) → T (leb STRING_BLOCK (fault_kind f) && leb (fault_kind f) ERROR_STRING_BLOCK_MISSING_INDENT)
      by UnexpectedEnd = tt
      by MissingNewLine = tt
      by MissingTermination = tt
      by MissingIndent = tt

  by_rule : {at : ℕ} {l : Lexeme} (k : ℕ) → T (every (ordinary k)) → LexemeAt s at l → l.kind ≡ k → Best s rules l.start k l.end
  by_rule k t (end h x) q =
      absurd (refuted (eqb k EOF) (each (ordinary k) t).0 (subst (λ (z : ℕ). T (eqb z EOF)) (sym (ap (λ (l : Lexeme). l.kind) x) ∙ q) tt))
  by_rule {at} k t (rule {k = k'} {e = e} h (longest r) n x) q =
      let z : k' ≡ k = sym (ap (λ (l : Lexeme). l.kind) x) ∙ q in
      subst (λ (y : Lexeme). Best s rules y.start k y.end) (sym x) (subst (λ (y : ℕ). Best s rules at y e) z r)
  by_rule k t (rule {k = k'} h (error m y w) n x) q =
      absurd (refuted (eqb k LEXING_ERROR) (each (ordinary k) t).1.0 (subst (λ (z : ℕ). T (eqb z LEXING_ERROR)) (sym y ∙ sym (ap (λ (l : Lexeme). l.kind) x) ∙ q) tt))
  by_rule k t (block {b = b} h r d x) q =
      absurd (refuted (leb STRING_BLOCK k && leb k ERROR_STRING_BLOCK_MISSING_INDENT) (each (ordinary k) t).1.1.0
      (subst (λ (z : ℕ). T (leb STRING_BLOCK z && leb z ERROR_STRING_BLOCK_MISSING_INDENT)) (sym (ap (λ (l : Lexeme). l.kind) x) ∙ q) (not_block b)))

  -- The lexeme of such a kind, as its rule matches it.
  matched : {at : ℕ} {l : Lexeme} (k : ℕ) → T (every (ordinary k)) → LexemeAt s at l → l.kind ≡ k → Match (text s) (rules_of k rules) l.start l.end
  matched {at} {l} k t d q = takes_match s rules k l.start l.end (by_rule k t d q).takes

  -- The theorems, kind by kind.
  module _ {at : ℕ} {l : Lexeme} (h : at < length s) (d : LexemeAt s at l) where
    within-source : (l.start < l.end) × (l.end ≤ length s)
    within-source = let b = lexeme_bounds s h d in (omega (arith, b), b.2)

    pub ident_is_identifier : l.kind ≡ IDENT → Identifier (text_of s l) × (Among (text_of s l) keywords → ⊥)
    unfolding rules_of rules
    ident_is_identifier q =
        let b = within-source in
        (ident_text s l.start l.end b.1 (matched IDENT tt d q), ident_no_keyword s l.start l.end (omega arith) b.1 (by_rule IDENT tt d q))

    pub float_is_numeral : l.kind ≡ FLOAT → Numeral (plain (text_of s l))
    unfolding rules_of rules
    float_is_numeral q = number_text s l.start l.end within-source.1 (matched FLOAT tt d q)

    pub double_has_quotes : l.kind ≡ STRING_DOUBLE → (l.start + 2 ≤ l.end) × Enclosed 34 (part s (l.start + 1) (l.end - 1)) (text_of s l)
    unfolding rules_of rules
    double_has_quotes q = quoted-text (quoted "\"") 34 l.start l.end tt within-source.1 (matched STRING_DOUBLE tt d q)

    pub single_has_quotes : l.kind ≡ STRING_SINGLE → (l.start + 2 ≤ l.end) × Enclosed 39 (part s (l.start + 1) (l.end - 1)) (text_of s l)
    unfolding rules_of rules
    single_has_quotes q = quoted-text (quoted "'") 39 l.start l.end tt within-source.1 (matched STRING_SINGLE tt d q)

    pub double_verbatim_has_quotes : l.kind ≡ STRING_DOUBLE_VERBATIM → (l.start + 3 ≤ l.end) × EnclosedRaw 34 (part s (l.start + 2) (l.end - 1)) (text_of s l)
    unfolding rules_of rules
    double_verbatim_has_quotes q = raw_text (verbatim "\"") 34 l.start l.end tt within-source.1 (matched STRING_DOUBLE_VERBATIM tt d q)

    pub single_verbatim_has_quotes : l.kind ≡ STRING_SINGLE_VERBATIM → (l.start + 3 ≤ l.end) × EnclosedRaw 39 (part s (l.start + 2) (l.end - 1)) (text_of s l)
    unfolding rules_of rules
    single_verbatim_has_quotes q = raw_text (verbatim "'") 39 l.start l.end tt within-source.1 (matched STRING_SINGLE_VERBATIM tt d q)

  -- `|||`: three bars, and the block from there on.
  three_bars : (a p : ℕ) → Ruled s a STRING_BLOCK p → (p ≡ a + 3) × (get_or s (a + 2) 0 ≡ 124)
  unfolding rules_of rules Match
  three_bars a p (error n q r) = absurd (omega (arith, q))
  three_bars a p (longest r) =
      let m = takes_match s rules STRING_BLOCK a p r.takes in
      let x = is_to s a 124 m.0 tt m.1 in
      let y = is_to s m.0 124 m.2.0 tt m.2.1 in
      let z = is_to s m.2.0 124 p tt m.2.2 in
      let e : m.2.0 ≡ a + 2 = omega (arith, x.1, y.1) in
      (omega (arith, z.1), subst (λ (i : ℕ). get_or s i 0 ≡ 124) e z.0)

  pub block_is_good : {at : ℕ} {l : Lexeme} → LexemeAt s at l → l.kind ≡ STRING_BLOCK → BlockAt s (l.start + 3) (Ok l.end) × (get_or s (l.start + 2) 0 ≡ 124)
  block_is_good (end h x) q = absurd (omega (arith, q, ap (λ (l : Lexeme). l.kind) x))
  block_is_good (rule h r n x) q = absurd (n (sym (ap (λ (l : Lexeme). l.kind) x) ∙ q))
  block_is_good {at} {l} (block {p = p} {b = b} h r d x) q =
      let t = three_bars at p r in
      let a = ap (λ (l : Lexeme). l.start) x in
      let u : p ≡ l.start + 3 = omega (arith, t.0, a) in
      let v : at + 2 ≡ l.start + 2 = omega (arith, a) in
      (subst (λ (i : ℕ). BlockAt s i (Ok l.end)) u (good b (ap (λ (l : Lexeme). l.end) x) (sym (ap (λ (l : Lexeme). l.kind) x) ∙ q) d), subst (λ (i : ℕ). get_or s i 0 ≡ 124) v t.1)
    where
      good : (b : Block) → l.end ≡ block_end b → block_kind b ≡ STRING_BLOCK → BlockAt s p b → BlockAt s p (Ok l.end)
      good (Ok e) z k d = subst (λ (i : ℕ). BlockAt s p (Ok i)) (sym z) d
      good (Err b) z k d = absurd (by b.fault k)
        where
          by : (f : BlockFault) → fault_kind f ≡ STRING_BLOCK → ⊥
          by UnexpectedEnd k = omega (arith, k)
          by MissingNewLine k = omega (arith, k)
          by MissingTermination k = omega (arith, k)
          by MissingIndent k = omega (arith, k)

  -- "number 10 never occurs": a good block decodes.
  pub block_decodes : {at : ℕ} {l : Lexeme} → LexemeAt s at l → l.kind ≡ STRING_BLOCK → (t : List ℕ) × BlockText (drop (l.start + 3) s) t
  block_decodes d q = good_decodes (block_is_good d q).0

  -- On a UTF-8 source what literals and blocks decode to is UTF-8.
  module _ (u : Utf8 s) {at : ℕ} {l : Lexeme} (h : at < length s) (d : LexemeAt s at l) where
    inside : (n q : ℕ) → q < 0x80 → l.start + (n + 2) ≤ l.end → get_or s (l.start + n) 0 ≡ q → get_or s (l.end - 1) 0 ≡ q → Utf8 (part s (l.start + n + 1) (l.end - 1))
    inside n q small k x y = between_utf8 (l.start + n) (l.end - 1) (omega arith) (omega (arith, within-source h d)) (omega (arith, x)) (omega (arith, y)) u

    ends : (k : ℕ) → T (every (ordinary k)) → l.kind ≡ k → (r : Re) (q : ℕ) → T (plain_byte q) → rules_of k rules ≡ is q · r · is q
        → (l.start + 2 ≤ l.end) × (get_or s l.start 0 ≡ q) × (get_or s (l.end - 1) 0 ≡ q)
    unfolding Match
    ends k t e r q p z =
        let m = subst (λ (x : Re). Match (text s) x l.start l.end) z (matched k t d e) in
        let o = is_to s l.start q m.0 p m.1 in
        let c = ends_with r q m.0 l.end p m.2 in
        (omega (arith, o.1, c.0), o.0, c.1)

    pub double_decodes_utf8 : {t : List ℕ} → l.kind ≡ STRING_DOUBLE → Quoted (part s (l.start + 1) (l.end - 1)) t → Utf8 t
    unfolding rules_of rules
    double_decodes_utf8 e m =
        let z = ends STRING_DOUBLE tt e (quoted "\"") 34 tt refl in
        quoted-utf8 m (subst (λ (i : ℕ). Utf8 (part s i (l.end - 1))) (omega arith) (inside 0 34 (omega arith) (omega (arith, z.0)) (subst (λ (i : ℕ). get_or s i 0 ≡ 34) (omega arith) z.1) z.2))

    pub single_decodes_utf8 : {t : List ℕ} → l.kind ≡ STRING_SINGLE → Quoted (part s (l.start + 1) (l.end - 1)) t → Utf8 t
    unfolding rules_of rules
    single_decodes_utf8 e m =
        let z = ends STRING_SINGLE tt e (quoted "'") 39 tt refl in
        quoted-utf8 m (subst (λ (i : ℕ). Utf8 (part s i (l.end - 1))) (omega arith) (inside 0 39 (omega arith) (omega (arith, z.0)) (subst (λ (i : ℕ). get_or s i 0 ≡ 39) (omega arith) z.1) z.2))

    raw_ends : (k : ℕ) → T (every (ordinary k)) → l.kind ≡ k → (r : Re) (q : ℕ) → T (plain_byte q) → rules_of k rules ≡ is 64 · is q · r · is q
        → (l.start + 3 ≤ l.end) × (get_or s (l.start + 1) 0 ≡ q) × (get_or s (l.end - 1) 0 ≡ q)
    unfolding Match
    raw_ends k t e r q p z =
        let m = subst (λ (x : Re). Match (text s) x l.start l.end) z (matched k t d e) in
        let o = is_to s l.start 64 m.0 tt m.1 in
        let i = is_to s m.0 q m.2.0 p m.2.1 in
        let c = ends_with r q m.2.0 l.end p m.2.2 in
        (omega (arith, o.1, i.1, c.0), subst (λ (j : ℕ). get_or s j 0 ≡ q) o.1 i.0, c.1)

    pub double_verbatim_decodes_utf8 : {t : List ℕ} → l.kind ≡ STRING_DOUBLE_VERBATIM → Verbatim 34 (part s (l.start + 2) (l.end - 1)) t → Utf8 t
    unfolding rules_of rules
    double_verbatim_decodes_utf8 e m =
        let z = raw_ends STRING_DOUBLE_VERBATIM tt e (verbatim "\"") 34 tt refl in
        verbatim-utf8 {q = 34} (omega arith) m (subst (λ (i : ℕ). Utf8 (part s i (l.end - 1))) (omega arith) (inside 1 34 (omega arith) (omega (arith, z.0)) z.1 z.2))

    pub single_verbatim_decodes_utf8 : {t : List ℕ} → l.kind ≡ STRING_SINGLE_VERBATIM → Verbatim 39 (part s (l.start + 2) (l.end - 1)) t → Utf8 t
    unfolding rules_of rules
    single_verbatim_decodes_utf8 e m =
        let z = raw_ends STRING_SINGLE_VERBATIM tt e (verbatim "'") 39 tt refl in
        verbatim-utf8 {q = 39} (omega arith) m (subst (λ (i : ℕ). Utf8 (part s i (l.end - 1))) (omega arith) (inside 1 39 (omega arith) (omega (arith, z.0)) z.1 z.2))

    pub block_decodes_utf8 : {t : List ℕ} → l.kind ≡ STRING_BLOCK → BlockText (drop (l.start + 3) s) t → Utf8 t
    block_decodes_utf8 e m =
        let b = (block_is_good d e).1 in
        let z : l.start + 2 + 1 ≡ l.start + 3 = omega arith in
        text-utf8 m (subst (λ (i : ℕ). Utf8 (drop i s)) z (ascii_splits (take (l.start + 2) s) (subst Utf8 (sym (take-append-drop (l.start + 2) s) ∙ ap (λ (t : List ℕ). take (l.start + 2) s ++ t) (head b)) u) (omega (arith, b))).1)
      where
        head : get_or s (l.start + 2) 0 ≡ 124 → drop (l.start + 2) s ≡ get_or s (l.start + 2) 0 ∷ drop (l.start + 2 + 1) s
        head b = drop-cons s (l.start + 2) 0 (byte_inside s (l.start + 2) (omega (arith, b))) ∙ ap (λ (n : ℕ). get_or s (l.start + 2) 0 ∷ drop n s) (sym (add-one (l.start + 2)))
