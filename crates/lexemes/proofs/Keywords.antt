-- Words: what spells a keyword, the keywords' rules as the code's tables, and the word that a run of letters and digits is.
-- Assumes nothing.
use mathlib.Core.Path.{◌≡◌, refl, sym, ◌∙◌, ap, subst}
use mathlib.Core.Bool.{Bool, true, false, not, ◌&&◌}
use mathlib.Core.List.{List, [], ◌∷◌, ◌++◌}
use mathlib.Core.Logic.{◌⊎◌, inl, inr, ⊎_elim}
use Prim.Native.Nat.{ℕ, zero, suc, ◌+◌, ◌-◌, ◌*◌, ◌≤◌, ◌<◌}
use native.Mathlib.Omega.{arith}
use native.Mathlib.Nat.{add-zero}
use lib.Dec.{T, leb, leb→le, ltb, ltb→lt, eqb, eqb→eq, eqb_refl}
use lib.ListN.{length, get_or, take, drop, length-take, length-drop, take-append-drop}
use lib.Seq.{get_or-take, get_or-drop}
use Rattle.regexes.specs.Regex.{Re, ◌·◌, eps, one, Star, stop, more, Rule, ◌⇒◌, Match, Takes, in_class}
use Rattle.regexes.proofs.Bools.{and, and_left, and_right, every, Each, each, ask, asked, all, all_at, refuted}
use Rattle.regexes.proofs.Tables.{left, Among, steps, steps_eq, gives, silent, silent_eq, takes_forth, takes_back, append_to, append_from}
use Rattle.lexemes.specs.Kinds.{IDENT, TAILSTRICT_KW, ASSERT_KW}
use Rattle.lexemes.specs.Letters.{text, letter, next}
use Rattle.lexemes.specs.Rules.{rules, alpha, alnum}
use Rattle.lexemes.specs.Lexeme.{Beats, Ruled, longest}
use Rattle.lexemes.specs.Scan.{class_of, ascii_class, Ran, Best}
use Rattle.lexemes.specs.Words.{word_bytes, word_from, word_kind, word_text, Spells, Makes, KeywordAt}
use Rattle.lexemes.proofs.Letters.{sound}
use Rattle.lexemes.proofs.Moves.{Sees, is, is_to, is_from, plain, not_in, Rest, at_rest, go}
use Rattle.lexemes.proofs.Classes.{covers, classed, between, run_stop}

-- Where the words are in the table of bytes.
abbrev placed : ℕ → List Bool
placed w = leb (get_or word_from w 0 + 1) (get_or word_from (w + 1) 0) ∷ leb (get_or word_from (w + 1) 0) 95 ∷ []

all_placed : T (all (λ w. every (placed w)) 18)
unfolding all word_from
all_placed = tt

pub from_up : (w : ℕ) → w < 18 → (get_or word_from w 0 < get_or word_from (w + 1) 0) × (get_or word_from (w + 1) 0 ≤ 95)
from_up w h =
    let t = each (placed w) (all_at (λ w. every (placed w)) 18 all_placed w h) in
    let up = leb→le (get_or word_from w 0 + 1) (get_or word_from (w + 1) 0) t.0 in
    (omega arith, leb→le (get_or word_from (w + 1) 0) 95 t.1.0)

bytes_length : length word_bytes ≡ 95
unfolding word_bytes
bytes_length = refl

abbrev pub word_length : ℕ → ℕ
word_length w = get_or word_from (w + 1) 0 - get_or word_from w 0

pub text-length : (w : ℕ) → w < 18 → length (word_text w) ≡ word_length w
unfolding word_text
text-length w h = simp (length-take, length-drop) (omega (arith, (from_up w h).0, (from_up w h).1, bytes_length))

text_at : (w k : ℕ) → k < word_length w → get_or (word_text w) k 0 ≡ get_or word_bytes (get_or word_from w 0 + k) 0
unfolding word_text
text_at w k h = rw (get_or-take, get_or-drop)

abbrev pub letter_of : ℕ → ℕ
letter_of w = get_or (word_text w) 0 0

module _ (s : List ℕ) where
  -- A text is spelled, by its length and its bytes.
  pub spells_from : (t : List ℕ) (i j : ℕ) → j ≡ i + length t → ((k : ℕ) → k < length t → get_or s (i + k) 0 ≡ get_or t k 0) → Spells s t i j
  unfolding Spells
  spells_from [] i j e f = omega arith
  spells_from (b ∷ bs) i j e f = (
    subst (λ (x : ℕ). get_or s x 0 ≡ b) (add-zero i) (f 0 (omega arith)),
    spells_from bs (i + 1) j (omega arith) (λ k h. subst (λ (x : ℕ). get_or s x 0 ≡ get_or bs k 0) (omega arith) (f (suc k) (omega arith))),
  )

  pub spells_to : (t : List ℕ) (i j : ℕ) → Spells s t i j → (j ≡ i + length t) × ((k : ℕ) → k < length t → get_or s (i + k) 0 ≡ get_or t k 0)
  unfolding Spells
  spells_to [] i j e = (omega arith, λ k h. absurd (omega arith))
  spells_to (b ∷ bs) i j m =
      let r = spells_to bs (i + 1) j m.1 in
      (omega (arith, r.0), at r.1)
    where
      at : ((k : ℕ) → k < length bs → get_or s (i + 1 + k) 0 ≡ get_or bs k 0) → (k : ℕ) → k < suc (length bs) → get_or s (i + k) 0 ≡ get_or (b ∷ bs) k 0
      at f zero h = subst (λ (x : ℕ). get_or s x 0 ≡ b) (sym (add-zero i)) m.0
      at f (suc k) h = subst (λ (x : ℕ). get_or s x 0 ≡ get_or bs k 0) (omega arith) (f k (omega arith))

  pub spells_same : (t u : List ℕ) (i j : ℕ) → Spells s t i j → Spells s u i j → t ≡ u
  unfolding Spells
  spells_same [] [] i j m n = refl
  spells_same [] (b ∷ u) i j m n = absurd (omega (arith, m, (spells_to u (i + 1) j n.1).0))
  spells_same (a ∷ t) [] i j m n = absurd (omega (arith, n, (spells_to t (i + 1) j m.1).0))
  spells_same (a ∷ t) (b ∷ u) i j m n =
      let e : a ≡ b = sym m.0 ∙ n.0 in
      let f : t ≡ u = spells_same t u (i + 1) j m.1 n.1 in
      cc

  -- The keyword w, byte by byte.
  module _ (w i j : ℕ) (h : w < 18) where
    pub first_byte : Spells s (word_text w) i j → get_or s i 0 ≡ get_or (word_text w) 0 0
    first_byte m =
        subst (λ (x : ℕ). get_or s x 0 ≡ get_or (word_text w) 0 0) (add-zero i) ((spells_to (word_text w) i j m).1 0 (omega (arith, text-length w h, (from_up w h).0)))

-- The rules of the keywords stand last.
abbrev pub others : List Rule
others = take 56 rules

abbrev pub words : List Rule
words = drop 56 rules

pub rules_split : rules ≡ others ++ words
rules_split = sym (take-append-drop 56 rules)

lit : ℕ → List ℕ → Re
lit b [] = is b
lit b (b' ∷ bs) = is b · lit b' bs

lit_of : List ℕ → Re
lit_of [] = eps
lit_of (b ∷ bs) = lit b bs

tab : ℕ → ℕ → List Rule
tab w zero = []
tab w (suc n) = (get_or word_kind w 0 ⇒ lit_of (word_text w)) ∷ tab (suc w) n

words_tab : words ≡ tab 0 18
unfolding rules tab lit_of lit word_text word_kind word_bytes word_from
words_tab = refl

-- Each keyword: its bytes are plain, its kind is a keyword's, its bytes go on with a word.
plains : List ℕ → Bool
plains [] = true
plains (b ∷ bs) = plain b && plains bs

abbrev good : ℕ → List Bool
good w = plains (word_text w) ∷ leb TAILSTRICT_KW (get_or word_kind w 0) ∷ leb (get_or word_kind w 0) ASSERT_KW ∷ []

all_good : T (all (λ w. every (good w)) 18)
unfolding all plains word_text word_kind word_bytes word_from
all_good = tt

is_good_lem : (w : ℕ) → w < 18 → Each (good w)
is_good_lem w h = each (good w) (all_at (λ w. every (good w)) 18 all_good w h)

pub keyword_least : (w : ℕ) → w < 18 → TAILSTRICT_KW ≤ get_or word_kind w 0
keyword_least w h = leb→le TAILSTRICT_KW (get_or word_kind w 0) (is_good_lem w h).1.0

all_lettered : T (all (λ i. between 1 3 (get_or word_bytes i 0)) 95)
unfolding all word_bytes class_of ascii_class
all_lettered = tt

-- Texts that are alike have one kind.
alike : List ℕ → List ℕ → Bool
alike [] [] = true
alike [] (b ∷ bs) = false
alike (a ∷ xs) [] = false
alike (a ∷ xs) (b ∷ bs) = eqb a b && alike xs bs

alike_same : (t : List ℕ) → T (alike t t)
unfolding alike
alike_same [] = tt
alike_same (a ∷ xs) = and (eqb a a) (alike xs xs) (eqb_refl a) (alike_same xs)

agree : ℕ → ℕ → Bool
agree v w = ask (alike (word_text v) (word_text w)) (λ u. eqb (get_or word_kind v 0) (get_or word_kind w 0))

agrees : ℕ → Bool
agrees v = all (agree v) 18

all_agree : T (all agrees 18)
unfolding agrees all agree alike word_text word_kind word_bytes word_from
all_agree = tt

kinds_agree : (v w : ℕ) → v < 18 → w < 18 → word_text v ≡ word_text w → get_or word_kind v 0 ≡ get_or word_kind w 0
unfolding agrees agree
kinds_agree v w h g e =
    eqb→eq (get_or word_kind v 0) (get_or word_kind w 0)
    (asked (alike (word_text v) (word_text w)) (λ u. eqb (get_or word_kind v 0) (get_or word_kind w 0)) (all_at (agree v) 18 (all_at agrees 18 all_agree v h) w g)
    (subst (λ (t : List ℕ). T (alike (word_text v) t)) e (alike_same (word_text v))))

module _ (s : List ℕ) where
  lit_to : (b : ℕ) (bs : List ℕ) (i j : ℕ) → T (plains (b ∷ bs)) → Match (text s) (lit b bs) i j → Spells s (b ∷ bs) i j
  unfolding Match Spells plains lit
  lit_to b [] i j h m = let r = is_to s i b j (and_left (plain b) true h) m in (r.0, sym r.1)
  lit_to b (b' ∷ bs) i j h m =
      let r = is_to s i b m.0 (and_left (plain b) (plains (b' ∷ bs)) h) m.1 in
      (r.0, lit_to b' bs (i + 1) j (and_right (plain b) (plains (b' ∷ bs)) h) (subst (λ (x : ℕ). Match (text s) (lit b' bs) x j) r.1 m.2))

  lit_from : (b : ℕ) (bs : List ℕ) (i j : ℕ) → T (plains (b ∷ bs)) → Spells s (b ∷ bs) i j → Match (text s) (lit b bs) i j
  unfolding Match Spells plains lit
  lit_from b [] i j h m = is_from s i b j (and_left (plain b) true h) m.0 (sym m.1)
  lit_from b (b' ∷ bs) i j h m =
      (i + 1, is_from s i b (i + 1) (and_left (plain b) (plains (b' ∷ bs)) h) m.0 refl, lit_from b' bs (i + 1) j (and_right (plain b) (plains (b' ∷ bs)) h) m.1)

  lit_of_to : (t : List ℕ) (i j : ℕ) → T (plains t) → Match (text s) (lit_of t) i j → Spells s t i j
  unfolding lit_of Match Spells
  lit_of_to [] i j h m = m
  lit_of_to (b ∷ bs) i j h m = lit_to b bs i j h m

  lit_of_from : (t : List ℕ) (i j : ℕ) → T (plains t) → Spells s t i j → Match (text s) (lit_of t) i j
  unfolding lit_of Match Spells
  lit_of_from [] i j h m = m
  lit_of_from (b ∷ bs) i j h m = lit_from b bs i j h m

  -- A keyword of kind k is spelled from i to j.
  abbrev pub Keyword : ℕ → ℕ → ℕ → Type 0
  Keyword k i j = (w : ℕ) × (w < 18) × (k ≡ get_or word_kind w 0) × Spells s (word_text w) i j

  tab_to : (v n k i j : ℕ) → v + n ≤ 18 → Takes (text s) (tab v n) k i j → Keyword k i j
  unfolding Takes tab
  tab_to v zero k i j h t = absurd t
  tab_to v (suc n) k i j h (inl m) = (v, omega arith, m.0, lit_of_to (word_text v) i j (is_good_lem v (omega arith)).0 m.1)
  tab_to v (suc n) k i j h (inr t) = tab_to (suc v) n k i j (omega arith) t

  tab_from : (v n d w i j : ℕ) → w ≡ v + d → d < n → w < 18 → Spells s (word_text w) i j → Takes (text s) (tab v n) (get_or word_kind w 0) i j
  unfolding Takes tab
  tab_from v zero d w i j e g l m = absurd (omega arith)
  tab_from v (suc n) zero w i j e g l m =
      let f : w ≡ v = omega arith in
      inl (ap (λ (x : ℕ). get_or word_kind x 0) f, subst (λ (x : ℕ). Match (text s) (lit_of (word_text x)) i j) f (lit_of_from (word_text w) i j (is_good_lem w l).0 m))
  tab_from v (suc n) (suc d) w i j e g l m = inr (tab_from (suc v) n d w i j (omega arith) (omega arith) l m)

  pub words_to : (k i j : ℕ) → Takes (text s) words k i j → Keyword k i j
  words_to k i j t = tab_to 0 18 k i j (omega arith) (subst (λ (S : List Rule). Takes (text s) S k i j) words_tab t)

  pub words_from : (w i j : ℕ) → w < 18 → Spells s (word_text w) i j → Takes (text s) words (get_or word_kind w 0) i j
  words_from w i j h m = subst (λ (S : List Rule). Takes (text s) S (get_or word_kind w 0) i j) (sym words_tab) (tab_from 0 18 w w i j (omega arith) h h m)

-- The rule of identifiers, among the others.
abbrev ident_tail : List Rule
ident_tail = left 97 others

ident_first : T (steps others (in_class alpha) ident_tail)
unfolding steps rules
ident_first = tt

ident_more : T (steps ident_tail (in_class alnum) ident_tail)
unfolding steps rules
ident_more = tt

ident_over : T (steps ident_tail (λ l. not (in_class alnum l)) [])
unfolding steps rules
ident_over = tt

ident_gives : T (gives ident_tail IDENT)
unfolding gives left rules
ident_gives = tt

alpha_class : T (covers 1 1 (in_class alpha))
unfolding covers
alpha_class = tt

alnum_classes : T (covers 1 3 (in_class alnum))
unfolding covers
alnum_classes = tt

all_alpha : T (all (λ w. eqb (class_of (letter_of w)) 1) 18)
unfolding all word_text word_bytes word_from class_of ascii_class
all_alpha = tt

module _ (s : List ℕ) (at : ℕ) where
  -- What begins with a letter is an identifier, for the rules that are no keywords.
  module _ (x : Sees s at (in_class alpha) (at + 1)) where
    ident_left : left (letter s at) others ≡ ident_tail
    ident_left = steps_eq others (in_class alpha) ident_tail ident_first (letter s at) ((sound s).low at) x.passes

    pub only_ident : (k e : ℕ) → Takes (text s) others k at e → k ≡ IDENT
    unfolding Takes silent left rules
    only_ident k e t =
        ⊎_elim (λ w. absurd (subst (λ (ks : List ℕ). Among k ks) (silent_eq others tt) w.1))
        (λ d. ⊎_elim (λ m. m.0) (λ m. absurd m) (subst (λ (S : List Rule). Takes (text s) S k (next s at) e) ident_left d))
        (takes_forth (text s) others k at e t)

  -- A keyword is spelled like an identifier.
  module _ (k e : ℕ) (w : Keyword s k at e) where
    byte_at : (i : ℕ) → i < word_length w.0 → (1 ≤ class_of (get_or s (at + i) 0)) × (class_of (get_or s (at + i) 0) ≤ 3)
    byte_at i h =
        let sp = spells_to s (word_text w.0) at e w.3 in
        let len = text-length w.0 w.1 in
        let up = from_up w.0 w.1 in
        let j : ℕ = get_or word_from w.0 0 + i in
        let b : get_or s (at + i) 0 ≡ get_or word_bytes j 0 = sp.1 i (omega (arith, len)) ∙ text_at w.0 i h in
        let t = all_at (λ i. between 1 3 (get_or word_bytes i 0)) 95 all_lettered j (omega (arith, up.0, up.1)) in
        let x : ℕ = class_of (get_or word_bytes j 0) in
        (omega (arith, ap class_of b, leb→le 1 x (and_left (leb 1 x) (leb x 3) t)), omega (arith, ap class_of b, leb→le x 3 (and_right (leb 1 x) (leb x 3) t)))

    end : e ≡ at + word_length w.0
    end = omega (arith, (spells_to s (word_text w.0) at e w.3).0, text-length w.0 w.1)

    letters : (n i : ℕ) → i + n ≡ word_length w.0 → Star (Match (text s) (one alnum)) (at + i) e
    unfolding Match
    letters zero i h = subst (λ (x : ℕ). Star (Match (text s) (one alnum)) (at + i) x) (omega (arith, end)) stop
    letters (suc n) i h =
        let c = byte_at i (omega arith) in
        let y = classed s 1 3 (in_class alnum) (omega arith) alnum_classes (at + i) c.0 c.1 in
        more (y.passes, y.after) (subst (λ (x : ℕ). Star (Match (text s) (one alnum)) x e) (omega arith) (letters n (i + 1) (omega arith)))

    pub word_first : Sees s at (in_class alpha) (at + 1)
    word_first =
        let e₁ = eqb→eq (class_of (letter_of w.0)) 1 (all_at (λ w. eqb (class_of (letter_of w)) 1) 18 all_alpha w.0 w.1) in
        let c : class_of (get_or s at 0) ≡ 1 = ap class_of (first_byte s w.0 at e w.1 w.3) ∙ e₁ in
        classed s 1 1 (in_class alpha) (omega arith) alpha_class at (omega arith) (omega arith)

    pub word_ident : Takes (text s) others IDENT at e
    unfolding Takes Match left rules
    word_ident =
        takes_back (text s) others IDENT at e
        (subst (λ (S : List Rule). Takes (text s) S IDENT (next s at) e) (sym (ident_left word_first))
        (inl (refl, subst (λ (x : ℕ). Star (Match (text s) (one alnum)) x e) word_first.after (letters (word_length w.0 - 1) 1 (omega (arith, (from_up w.0 w.1).0))))))

  -- Where an identifier is the longest of the other rules, a keyword that is spelled there wins.
  module _ {e : ℕ} (ident : Best s others at IDENT e) where
    farthest : (k e' : ℕ) → Takes (text s) (others ++ words) k at e' → e' ≤ e
    farthest k e' t =
        ⊎_elim (λ x. ident.longest k e' x) (λ x. ident.longest IDENT e' (word_ident k e' (words_to s k at e' x))) (append_from (text s) others words k at e' t)

    beaten : (k : ℕ) → (k ≡ IDENT) ⊎ Beats IDENT k → k ≡ IDENT
    beaten k (inl x) = x
    beaten k (inr x) = absurd (omega (arith, x.0.0))

    keyword_kind : (w : ℕ) → w < 18 → (TAILSTRICT_KW ≤ get_or word_kind w 0) × (get_or word_kind w 0 ≤ ASSERT_KW)
    keyword_kind w h = (keyword_least w h, leb→le (get_or word_kind w 0) ASSERT_KW (is_good_lem w h).1.1.0)

    found : {k : ℕ} → KeywordAt s at e k → Best s (others ++ words) at k e
    found {k} (inl w) =
        record {
          takes = append_to (text s) others words k at e (inr (subst (λ (x : ℕ). Takes (text s) words x at e) (sym w.2) (words_from s w.0 at e w.1 w.3)));
          longest = farthest;
          first = λ k' t. ⊎_elim
              (λ x. inr (omega (arith, w.2, keyword_kind w.0 w.1), beaten k' (ident.first k' x)))
              (λ x. let v = words_to s k' at e x in inl (v.2 ∙ kinds_agree v.0 w.0 v.1 w.1 (spells_same s (word_text v.0) (word_text w.0) at e v.3 w.3) ∙ sym w.2))
              (append_from (text s) others words k' at e t);
        }
    found {k} (inr w) =
        record {
          takes = append_to (text s) others words k at e (inl (subst (λ (x : ℕ). Takes (text s) others x at e) (sym w.0) ident.takes));
          longest = farthest;
          first = λ k' t. ⊎_elim
              (λ x. inl (beaten k' (ident.first k' x) ∙ sym w.0))
              (λ x. let v = words_to s k' at e x in absurd (w.1 v.0 v.1 v.3))
              (append_from (text s) others words k' at e t);
        }

    pub keyword_wins : {k : ℕ} → KeywordAt s at e k → Best s rules at k e
    keyword_wins {k} w = subst (λ (S : List Rule). Best s S at k e) (sym rules_split) (found w)

pub word_scanned : (s : List ℕ) (at e : ℕ) → class_of (get_or s at 0) ≡ 1 → Ran s (at + 1) 1 3 e → {k : ℕ} → KeywordAt s at e k → Ruled s at k e
word_scanned s at e c ran w = longest (keyword_wins s at ident w)
  where
    ident : Best s others at IDENT e
    ident =
        go (classed s 1 1 (in_class alpha) (omega arith) alpha_class at (omega (arith, c)) (omega (arith, c)))
        (run_stop s 1 3 (in_class alnum) (omega arith) alnum_classes (at + 1) e ran ident_tail ident_more IDENT ident_over ident_gives) ident_first

-- ── Words as numbers ─────────────────────────────────────────────────────────────────────────────

-- A text as a number, its first byte lowest.
value : List ℕ → ℕ
value [] = 0
value (b ∷ bs) = b + 256 * value bs

-- A number so many bytes further up.
unfoldable pub shift : ℕ → ℕ → ℕ
shift zero b = b
shift (suc n) b = 256 * shift n b

-- What bytes make, and more bytes behind them; how large it is at most.
pub join : (s : List ℕ) (m n k i a b : ℕ) → k ≡ m + n → Makes s i m a → Makes s (i + m) n b → Makes s i k (a + shift m b)
unfolding Makes shift
join s zero n k i a b e f g =
    let p : i + 0 ≡ i = omega arith in
    let q : n ≡ k = omega arith in
    let r : b ≡ a + b = omega (arith, f) in
    subst (λ (x : ℕ). Makes s i k x) r (subst (λ (x : ℕ). Makes s i x b) q (subst (λ (j : ℕ). Makes s j n b) p g))
join s (suc m) n zero i a b e f g = absurd (omega arith)
join s (suc m) n (suc k) i a b e f g =
    let p : i + suc m ≡ i + 1 + m = omega arith in
    (f.0 + shift m b, f.1, join s m n k (i + 1) f.0 b (omega arith) f.2 (subst (λ (j : ℕ). Makes s j n b) p g), omega (arith, f.3))

pub below : (s : List ℕ) (m i a : ℕ) → Makes s i m a → a < shift m 1
unfolding Makes shift
below s zero i a f = omega (arith, f)
below s (suc m) i a f = omega (arith, f.1, f.3, below s m (i + 1) f.0 f.2)

module _ (s : List ℕ) where
  -- Bytes make the number of a text exactly where they spell it.
  made_spells : (t : List ℕ) (i r : ℕ) → T (plains t) → Makes s i (length t) r → r ≡ value t → Spells s t i (i + length t)
  unfolding Makes Spells plains value
  made_spells [] i r p m e = omega arith
  made_spells (b ∷ bs) i r p m e =
      let low : b ≤ 127 = leb→le b 127 (and_right (leb 1 b) (leb b 127) (and_left (plain b) (plains bs) p)) in (
        omega (arith, low, m.1, m.3, e),
        subst (λ (j : ℕ). Spells s bs (i + 1) j) (omega arith) (made_spells bs (i + 1) m.0 (and_right (plain b) (plains bs) p) m.2 (omega (arith, low, m.1, m.3, e))),
      )

  spells_made : (t : List ℕ) (i j r : ℕ) → Makes s i (length t) r → Spells s t i j → r ≡ value t
  unfolding Makes Spells value
  spells_made [] i j r m f = m
  spells_made (b ∷ bs) i j r m f = omega (arith, m.3, f.0, spells_made bs (i + 1) j m.0 m.2 f.1)

-- The keyword w has n bytes, the number v and the kind k; the keywords of n bytes have no other numbers than these; there are no other lengths.
unfoldable pub has : ℕ → ℕ → ℕ → ℕ → Bool
unfolding value word_text word_bytes word_from word_kind
has w n v k = every (ltb w 18 ∷ eqb (length (word_text w)) n ∷ eqb v (value (word_text w)) ∷ eqb (get_or word_kind w 0) k ∷ [])

unfoldable pub numbered : ℕ → List ℕ → Bool
unfolding all value word_text word_bytes word_from
numbered n vs = all (λ w. ask (eqb (length (word_text w)) n) (λ u. not (not_in vs (value (word_text w))))) 18

abbrev pub lengths : List ℕ
lengths = 10 ∷ 9 ∷ 8 ∷ 6 ∷ 5 ∷ 4 ∷ 3 ∷ 2 ∷ []

all_sized : T (all (λ w. not (not_in lengths (length (word_text w)))) 18)
unfolding all word_text word_bytes word_from
all_sized = tt

module _ (s : List ℕ) (i : ℕ) where
  -- A text of n bytes has n bytes.
  same_length : (t : List ℕ) (n : ℕ) → Spells s t i (i + n) → length t ≡ n
  same_length t n m = omega (arith, (spells_to s t i (i + n) m).0)

  pub is_keyword : (w n v k : ℕ) → T (has w n v k) → (r : ℕ) → Makes s i n r → r ≡ v → KeywordAt s i (i + n) k
  unfolding has
  is_keyword w n v k t r m e =
      let h = each (ltb w 18 ∷ eqb (length (word_text w)) n ∷ eqb v (value (word_text w)) ∷ eqb (get_or word_kind w 0) k ∷ []) t in
      let l : w < 18 = ltb→lt w 18 h.0 in
      let q : length (word_text w) ≡ n = eqb→eq (length (word_text w)) n h.1.0 in
      let m' : Makes s i (length (word_text w)) r = subst (λ (x : ℕ). Makes s i x r) (sym q) m in
      inl (
        w,
        l,
        sym (eqb→eq (get_or word_kind w 0) k h.1.1.1.0),
        subst (λ (x : ℕ). Spells s (word_text w) i (i + x)) q (made_spells s (word_text w) i r (is_good_lem w l).0 m' (e ∙ eqb→eq v (value (word_text w)) h.1.1.0)),
      )

  pub no_keyword : (n : ℕ) (vs : List ℕ) → T (numbered n vs) → (r : ℕ) → Makes s i n r → Rest vs r → KeywordAt s i (i + n) IDENT
  unfolding numbered
  no_keyword n vs t r m rest = inr (refl, not_one)
    where
      not_one : (w : ℕ) → w < 18 → Spells s (word_text w) i (i + n) → ⊥
      not_one w h f =
          let q = same_length (word_text w) n f in
          let e : r ≡ value (word_text w) = spells_made s (word_text w) i (i + n) r (subst (λ (x : ℕ). Makes s i x r) (sym q) m) f in
          refuted (not_in vs (value (word_text w)))
          (asked (eqb (length (word_text w)) n) (λ u. not (not_in vs (value (word_text w))))
          (all_at (λ w. ask (eqb (length (word_text w)) n) (λ u. not (not_in vs (value (word_text w))))) 18 t w h)
          (subst (λ (x : ℕ). T (eqb (length (word_text w)) x)) q (eqb_refl (length (word_text w)))))
          (subst (λ (x : ℕ). T (not_in vs x)) e (at_rest vs r rest))

  pub no_length : (n : ℕ) → Rest lengths n → KeywordAt s i (i + n) IDENT
  no_length n rest =
      inr (
        refl,
        λ w h f.
            refuted (not_in lengths (length (word_text w))) (all_at (λ w. not (not_in lengths (length (word_text w)))) 18 all_sized w h)
            (subst (λ (x : ℕ). T (not_in lengths x)) (sym (same_length (word_text w) n f)) (at_rest lengths n rest)),
      )
