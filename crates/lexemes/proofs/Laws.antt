-- The theorems on the lexeme at a place: there is one and only one, it ends further on and within the source, and no two rules but a keyword
-- and IDENT ever end a longest match at one place with different kinds.
-- Assumes nothing.
use mathlib.Core.Path.{◌≡◌, refl, sym, ◌∙◌, ap, ap₂, subst}
use mathlib.Core.Bool.{not}
use mathlib.Core.List.{List, [], ◌∷◌, ◌++◌}
use mathlib.Core.Logic.{◌⊎◌, inl, inr, ⊎_elim}
use Prim.Native.Nat.{ℕ, zero, suc, ◌+◌, ◌≤◌, ◌<◌}
use native.Mathlib.Omega.{arith}
use native.Mathlib.Decide.{dec_lt, ℕ_discrete}
use lib.Dec.{T, eqb, ltb, ltb→lt}
use lib.ListN.{length, get_or}
use Rattle.regexes.specs.Regex.{END, Rule, in_class, Class, only, but, within, Takes, Nothing}
use Rattle.regexes.proofs.Bools.{and_left, refuted}
use Rattle.regexes.proofs.Tables.{left, Among, silent_eq, takes_forth, takes_along, kinds, kind_of}
use Rattle.regexes.proofs.Longest.{takes_up, once, join_left, join_none}
use Rattle.regexes.proofs.Exists.{Outcome}
use Rattle.std.specs.Prelude.{Ok, Err}
use Rattle.blocks.specs.declared.BlockFault.{BlockFault}
use Rattle.blocks.specs.declared.BlockFault.TheVariants.{UnexpectedEnd, MissingNewLine, MissingTermination, MissingIndent}
use Rattle.blocks.specs.Blocks.{Block, BlockAt}
use Rattle.blocks.proofs.Laws.{block_once, block_end_lem, end_of}
use Rattle.blocks.proofs.Always.{block_always}
use Rattle.lexemes.specs.declared.Lexeme.{Lexeme}
use Rattle.lexemes.specs.Kinds.{EOF, IDENT, STRING_BLOCK, LEXING_ERROR}
use Rattle.lexemes.specs.Letters.{text, letter, next}
use Rattle.lexemes.specs.Rules.{rules}
use Rattle.lexemes.specs.Lexeme.{Beats, Ruled, longest, error, LexemeAt, end, rule, block, lexeme, fault_kind, block_kind, block_end}
use Rattle.lexemes.specs.Scan.{Best, Never}
use Rattle.lexemes.specs.Words.{word_text, word_kind, Spells, KeywordAt}
use Rattle.lexemes.proofs.Letters.{up, sound, next-within, letter_inside}
use Rattle.lexemes.proofs.Verbatim.{silent_rules}
use Rattle.lexemes.proofs.Keywords.{others, words, rules_split, words_to, word_first, word_ident, only_ident, keyword_wins}
use Rattle.lexemes.proofs.Automaton.{others_outcome}

module _ (s : List ℕ) where
  -- A letter of a class stands within the source.
  class_inside : (c : Class) (i : ℕ) → T (in_class c (letter s i)) → i < length s
  class_inside (only rs) i t = letter_inside s i (ltb→lt (letter s i) END (and_left (ltb (letter s i) END) (within rs (letter s i)) t))
  class_inside (but rs) i t = letter_inside s i (ltb→lt (letter s i) END (and_left (ltb (letter s i) END) (not (within rs (letter s i))) t))

  -- What a rule takes ends within the source, and is not empty.
  takes_within : (S : List Rule) (k i j : ℕ) → Takes (text s) S k i j → i ≤ length s → j ≤ length s
  takes_within =
      takes_along (text s) (λ i j. i ≤ length s → j ≤ length s) (λ i h. h) (λ i j k f g h. g (f h))
      (λ i c t h. next-within s i (class_inside c i t))

  takes_some : (k i j : ℕ) → Takes (text s) rules k i j → i < j
  takes_some k i j m =
      ⊎_elim (λ w. absurd (subst (λ (ks : List ℕ). Among k ks) (silent_eq rules silent_rules) w.1))
      (λ d. omega (arith, up s i, takes_up (text s) (sound s) (left (letter s i) rules) k (next s i) j d)) (takes_forth (text s) rules k i j m)

  pub ruled_bounds : {at k e : ℕ} → at < length s → Ruled s at k e → (at < e) × (e ≤ length s)
  ruled_bounds {at} {k} {e} h (longest l) = (takes_some k at e l.takes, takes_within rules k at e l.takes (omega arith))
  ruled_bounds {at} {k} {e} h (error n q r) = (omega (arith, r, up s at), omega (arith, r, next-within s at h))

  fair : (k k' : ℕ) → Beats k k' → Beats k' k → ⊥
  fair k k' x y = omega (arith, x.0, y.1)

  pub ruled_once : {at k e k' e' : ℕ} → Ruled s at k e → Ruled s at k' e' → (k ≡ k') × (e ≡ e')
  ruled_once (longest l) (longest m) = once (text s) (sound s) Beats fair l m
  ruled_once {k = k} {e = e} (longest l) (error n q r) = absurd (n.none_takes k e l.takes)
  ruled_once {k' = k} {e' = e} (error n q r) (longest m) = absurd (n.none_takes k e m.takes)
  ruled_once (error n q r) (error n' q' r') = (q ∙ sym q', r ∙ sym r')

  -- A keyword is spelled there, or none is.
  spelled : (t : List ℕ) (i j : ℕ) → Dec (Spells s t i j)
  unfolding Spells
  spelled [] i j = ℕ_discrete i j
  spelled (b ∷ bs) i j = both (ℕ_discrete (get_or s i 0) b) (spelled bs (i + 1) j)
    where
      both : Dec (get_or s i 0 ≡ b) → Dec (Spells s bs (i + 1) j) → Dec ((get_or s i 0 ≡ b) × Spells s bs (i + 1) j)
      both (yes x) (yes y) = yes (x, y)
      both (yes x) (no y) = no (λ z. y z.1)
      both (no x) d = no (λ z. x z.0)

  keyword : (i j n : ℕ) → n ≤ 18 → ((w : ℕ) → n ≤ w → w < 18 → Spells s (word_text w) i j → ⊥) → (k : ℕ) × KeywordAt s i j k
  keyword i j zero h un = (IDENT, inr (refl, λ w g. un w (omega arith) g))
  keyword i j (suc n) h un = by (spelled (word_text n) i j) (keyword i j n (omega arith))
    where
      by : Dec (Spells s (word_text n) i j) → (((w : ℕ) → n ≤ w → w < 18 → Spells s (word_text w) i j → ⊥) → (k : ℕ) × KeywordAt s i j k) → (k : ℕ) × KeywordAt s i j k
      by (yes x) rec = (get_or word_kind n 0, inl (n, omega arith, refl, x))
      by (no x) rec = rec (λ w g l y. past w (ℕ_discrete w n) g l y)
        where
          past : (w : ℕ) → Dec (w ≡ n) → n ≤ w → w < 18 → Spells s (word_text w) i j → ⊥
          past w (yes d) g l y = x (subst (λ (v : ℕ). Spells s (word_text v) i j) d y)
          past w (no d) g l y = un w (omega arith) l y

  -- Every place of a source has an answer.
  pub ruled_always : (at : ℕ) → (k : ℕ) × (e : ℕ) × Ruled s at k e
  ruled_always at = by (others_outcome s at)
    where
      no_words : ((k e : ℕ) → Takes (text s) others k at e → k ≡ IDENT → ⊥) → Nothing (text s) words at
      no_words n = record { none_takes = λ k e m. let w = words_to s k at e m in n IDENT e (word_ident s at k e w) refl }

      split : {k e : ℕ} → Best s (others ++ words) at k e → Best s rules at k e
      split {k} {e} l = subst (λ (S : List Rule). Best s S at k e) (sym rules_split) l

      by : Outcome Beats (text s) others at → (k : ℕ) × (e : ℕ) × Ruled s at k e
      by (inr n) =
          (LEXING_ERROR, next s at, error (subst (λ (S : List Rule). Never s S at) (sym rules_split) (join_none (text s) (sound s) others words at n (no_words (λ k e m q. n.none_takes k e m)))) refl refl)
      by (inl m) = word (ℕ_discrete m.0 IDENT)
        where
          word : Dec (m.0 ≡ IDENT) → (k : ℕ) × (e : ℕ) × Ruled s at k e
          word (yes q) =
              let w = keyword at m.1 18 (omega arith) (λ w g l. absurd (omega arith)) in
              (w.0, m.1, longest (keyword_wins s at (subst (λ (k : ℕ). Best s others at k m.1) q m.2) w.1))
          word (no q) = (
            m.0,
            m.1,
            longest (split (join_left (text s) (sound s) Beats others words at m.0 m.1 m.2
                (λ k e t. absurd (q (only_ident s at (word_first s at k e (words_to s k at e t)) m.0 m.1 m.2.takes))))),
          )

  -- "No two rules but a keyword and IDENT": two kinds that end a longest match at one place are the same, or one beats the other.
  pub ties : (at k k' e : ℕ) → Takes (text s) rules k at e → Takes (text s) rules k' at e → ((q f : ℕ) → Takes (text s) rules q at f → f ≤ e)
      → (k ≡ k') ⊎ (Beats k k' ⊎ Beats k' k)
  ties at k k' e a b far = by (ruled_always at).0 (ruled_always at).1 (ruled_always at).2
    where
      decide : (q : ℕ) → (k ≡ q) ⊎ Beats q k → (k' ≡ q) ⊎ Beats q k' → (k ≡ k') ⊎ (Beats k k' ⊎ Beats k' k)
      decide q (inl x) (inl y) = inl (x ∙ sym y)
      decide q (inl x) (inr y) = inr (inl (subst (λ (z : ℕ). Beats z k') (sym x) y))
      decide q (inr x) (inl y) = inr (inr (subst (λ (z : ℕ). Beats z k) (sym y) x))
      decide q (inr x) (inr y) = inl (x.1 ∙ sym y.1)

      by : (q f : ℕ) → Ruled s at q f → (k ≡ k') ⊎ (Beats k k' ⊎ Beats k' k)
      by q f (error n x y) = absurd (n.none_takes k e a)
      by q f (longest l) =
          let z : e ≡ f = omega (arith, far q f l.takes, l.longest k e a) in
          decide q (l.first k (subst (λ (i : ℕ). Takes (text s) rules k at i) z a)) (l.first k' (subst (λ (i : ℕ). Takes (text s) rules k' at i) z b))

  -- The lexeme at a place: only one, there is one, and it ends further on and within.
  pub lexeme_once : {at : ℕ} {l l' : Lexeme} → LexemeAt s at l → LexemeAt s at l' → l ≡ l'
  lexeme_once (end h x) (end h' y) = x ∙ sym y
  lexeme_once (end h x) (rule g r n y) = absurd (omega arith)
  lexeme_once (end h x) (block g r d y) = absurd (omega arith)
  lexeme_once (rule g r n y) (end h x) = absurd (omega arith)
  lexeme_once (block g r d y) (end h x) = absurd (omega arith)
  lexeme_once {at} (rule {k = k} {e = e} g r n x) (rule {k = k'} {e = e'} g' r' n' y) =
      let q = ruled_once r r' in
      x ∙ ap₂ (λ (a b : ℕ). lexeme a at b) q.0 q.1 ∙ sym y
  lexeme_once (rule g r n x) (block g' r' d y) = absurd (n (ruled_once r r').0)
  lexeme_once (block g r d x) (rule g' r' n y) = absurd (n (ruled_once r' r).0)
  lexeme_once {at} (block {p = p} {b = b} g r d x) (block {p = p'} {b = b'} g' r' d' y) =
      let q : b ≡ b' = block_once (subst (λ (i : ℕ). BlockAt s i b) (ruled_once r r').1 d) d' in
      x ∙ ap (λ (c : Block). lexeme (block_kind c) at (block_end c)) q ∙ sym y

  block_ends : (b : Block) → block_end b ≡ end_of b
  block_ends (Ok e) = refl
  block_ends (Err b) = refl

  pub lexeme_bounds : {at : ℕ} {l : Lexeme} → at < length s → LexemeAt s at l → (l.start ≡ at) × (at < l.end) × (l.end ≤ length s)
  lexeme_bounds h (end g x) = absurd (omega arith)
  lexeme_bounds h (rule g r n x) =
      let b = ruled_bounds g r in
      (ap (λ (l : Lexeme). l.start) x, omega (arith, b, ap (λ (l : Lexeme). l.end) x), omega (arith, b, ap (λ (l : Lexeme). l.end) x))
  lexeme_bounds h (block {p = p} {b = k} g r d x) =
      let b = ruled_bounds g r in
      let c = block_end_lem d b.1 in
      let e = ap (λ (l : Lexeme). l.end) x ∙ block_ends k in
      (ap (λ (l : Lexeme). l.start) x, omega (arith, b, c, e), omega (arith, c, e))

  pub lexeme_always : (at : ℕ) → (l : Lexeme) × LexemeAt s at l
  lexeme_always at = by (dec_lt at (length s)) (ruled_always at).0 (ruled_always at).1 (ruled_always at).2
    where
      by : Dec (at < length s) → (k e : ℕ) → Ruled s at k e → (l : Lexeme) × LexemeAt s at l
      by (no n) k e r = (lexeme EOF at at, end (omega arith) refl)
      by (yes h) k e r = which (ℕ_discrete k STRING_BLOCK)
        where
          which : Dec (k ≡ STRING_BLOCK) → (l : Lexeme) × LexemeAt s at l
          which (no n) = (lexeme k at e, rule h r n refl)
          which (yes q) =
              let b = block_always s e in
              (lexeme (block_kind b.0) at (block_end b.0), block h (subst (λ (x : ℕ). Ruled s at x e) q r) b.1 refl)

  -- EOF is no lexeme of a source.
  no_eof : T (kinds (λ k. not (eqb k EOF)) rules)
  unfolding kinds rules
  no_eof = tt

  not_eof : (b : Block) → block_kind b ≡ EOF → ⊥
  not_eof (Ok e) q = omega (arith, q)
  not_eof (Err b) q = by b.fault q
    where
      by : (f : BlockFault) → fault_kind f ≡ EOF → ⊥
      by UnexpectedEnd q = omega (arith, q)
      by MissingNewLine q = omega (arith, q)
      by MissingTermination q = omega (arith, q)
      by MissingIndent q = omega (arith, q)

  pub lexeme_not_eof : {at : ℕ} {l : Lexeme} → at < length s → LexemeAt s at l → l.kind ≡ EOF → ⊥
  lexeme_not_eof h (end g x) q = omega arith
  lexeme_not_eof {at} h (rule {k = k} {e = e} g (longest r) n x) q =
      refuted (eqb k EOF) (kind_of (text s) (λ k. not (eqb k EOF)) rules no_eof k at e r.takes) (subst (λ (z : ℕ). T (eqb z EOF)) (sym q ∙ ap (λ (l : Lexeme). l.kind) x) tt)
  lexeme_not_eof h (rule g (error m y z) n x) q = omega (arith, q, ap (λ (l : Lexeme). l.kind) x, y)
  lexeme_not_eof h (block {b = b} g r d x) q = not_eof b (sym (ap (λ (l : Lexeme). l.kind) x) ∙ q)
