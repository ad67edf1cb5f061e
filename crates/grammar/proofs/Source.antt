-- Every source has lexemes that say one thing, so the whole answer of document 01 is unique, there always is one, and demand 3 is true of it.
-- Assumes nothing.
use mathlib.Core.Path.{◌≡◌, refl, sym, ap, ◌∙◌}
use mathlib.Core.Bool.{Bool, true, false, cond, true≢false}
use mathlib.Core.List.{List, [], ◌∷◌}
use mathlib.Core.Logic.{◌⊎◌, inl, inr}
use Prim.Native.Nat.{ℕ, ◌+◌, ◌-◌}
use native.Mathlib.Omega.{arith}
use native.Mathlib.Decide.{ℕ_discrete}
use lib.Dec.{T}
use lib.ListN.{length, drop}
use lib.Seq.{slice}
use Rattle.strings.specs.Literals.{Quoted, BadEscape}
use Rattle.strings.proofs.Always.{valid_always, TextOrBadEscape, text_or_bad_escape}
use Rattle.strings.proofs.LiteralLaws.{verbatim_always}
use Rattle.std.specs.Prelude.{Ok, Err}
use Rattle.blocks.specs.Blocks.{Block, BlockAt, BlockText}
use Rattle.blocks.proofs.Laws.{good_decodes, text_is_good}
use Rattle.blocks.proofs.Always.{block_always}
use Rattle.numerals.specs.Value.{TooLarge}
use Rattle.numerals.proofs.Always.{too_large_or_not}
use Rattle.lexemes.specs.declared.Lexeme.{Lexeme as Range}
use Rattle.lexemes.specs.Kinds.{EOF, FLOAT, IDENT, STRING_DOUBLE, STRING_SINGLE, STRING_DOUBLE_VERBATIM, STRING_SINGLE_VERBATIM, STRING_BLOCK}
use Rattle.lexemes.specs.Texts.{plain}
use Rattle.lexemes.specs.Lexeme.{lexeme}
use Rattle.lexemes.specs.Kept.{FirstBad, first_bad, one_of}
use Rattle.lexemes.specs.Kept as lexemes
use Rattle.lexemes.proofs.KeptLaws.{lexemes_always, kept_always, kept_once, first_bad_once}
use Rattle.grammar.specs.Numbers.{fits}
use Rattle.grammar.specs.Lexemes.{Said, says, spoiled, nothing, Lexeme}
use Rattle.grammar.specs.Says.{Means, name, number, double, single, double_verbatim, single_verbatim, block, Spoils, in_double, in_single, Says, its_text, its_escape, no_text, Told}
use Rattle.grammar.specs.Answer.{Answer, valid_setting, prefix_power, document_01}
use Rattle.grammar.specs.Source.{Bad, bad, Kept, kept, Reads01}
use Rattle.grammar.proofs.SaysLaws.{told_once, no_spoils}
use Rattle.grammar.specs.Settings.{◌⊑◌}
use Rattle.grammar.proofs.Whole.{Lexing, answers_once, answers_always, answers_fit, Accepted, larger, Fifth, smaller}

-- ---- every lexeme says something or nothing

module _ (s : List ℕ) (a e : ℕ) where
  quoted_says : (k : ℕ) → ((w : List ℕ) → Quoted (slice (a + 1) (e - 1) s) w → Means s k a e w) → ((n : ℕ) → BadEscape (slice (a + 1) (e - 1) s) n → Spoils s k a e n)
      → (w : Said) × Says s k a e w
  quoted_says k text escape = by (text_or_bad_escape (slice (a + 1) (e - 1) s))
    where
      by : TextOrBadEscape (slice (a + 1) (e - 1) s) → (w : Said) × Says s k a e w
      by (inl q) = (says q.0, its_text (text q.0 q.1))
      by (inr q) = (spoiled q.0, its_escape (escape q.0 q.1))

  number_says : (w : Said) × Says s FLOAT a e w
  number_says = by (too_large_or_not (plain (slice a e s)))
    where
      back : (w : List ℕ) → Means s FLOAT a e w → TooLarge (plain (slice a e s)) → ⊥
      back w (number n) = n

      by : Dec (TooLarge (plain (slice a e s))) → (w : Said) × Says s FLOAT a e w
      by (yes l) = (nothing, no_text (λ w m. back w m l) (no_spoils (λ q. omega arith) (λ q. omega arith)))
      by (no n) = (_, its_text (number n))

  block_back : (w : List ℕ) → Means s STRING_BLOCK a e w → BlockText (drop (a + 3) s) w
  block_back w (block q) = q

  block_says : (w : Said) × Says s STRING_BLOCK a e w
  block_says = by (block_always s (a + 3))
    where
      not_good : (b : Block) → BlockAt s (a + 3) b → ((n : ℕ) → b ≡ Ok n → ⊥) → (w : Said) × Says s STRING_BLOCK a e w
      not_good b x h = (nothing, no_text (λ w m. let g = text_is_good (block_back w m) x in h g.0 g.1) (no_spoils (λ q. omega arith) (λ q. omega arith)))

      by : (b : Block) × BlockAt s (a + 3) b → (w : Said) × Says s STRING_BLOCK a e w
      by (Ok n, x) = let t = good_decodes x in (says t.0, its_text (block t.1))
      by (Err f, x) = not_good _ x (λ m q. let z : ◌≡◌ {A = ℕ} 0 1 = cc in omega arith)

  pub no_meaning : (k : ℕ) → (k ≡ IDENT → ⊥) → (k ≡ FLOAT → ⊥) → (k ≡ STRING_DOUBLE → ⊥) → (k ≡ STRING_SINGLE → ⊥) → (k ≡ STRING_DOUBLE_VERBATIM → ⊥) → (k ≡ STRING_SINGLE_VERBATIM → ⊥)
      → (k ≡ STRING_BLOCK → ⊥) → (w : List ℕ) → Means s k a e w → ⊥
  no_meaning k p q r t u v x w name = p refl
  no_meaning k p q r t u v x w (number n) = q refl
  no_meaning k p q r t u v x w (double y) = r refl
  no_meaning k p q r t u v x w (single y) = t refl
  no_meaning k p q r t u v x w (double_verbatim y) = u refl
  no_meaning k p q r t u v x w (single_verbatim y) = v refl
  no_meaning k p q r t u v x w (block y) = x refl

  pub says_always : (k : ℕ) → (w : Said) × Says s k a e w
  says_always k =
      by (ℕ_discrete k IDENT) (ℕ_discrete k FLOAT) (ℕ_discrete k STRING_DOUBLE) (ℕ_discrete k STRING_SINGLE) (ℕ_discrete k STRING_DOUBLE_VERBATIM) (ℕ_discrete k STRING_SINGLE_VERBATIM)
      (ℕ_discrete k STRING_BLOCK)
    where
      by : Dec (k ≡ IDENT) → Dec (k ≡ FLOAT) → Dec (k ≡ STRING_DOUBLE) → Dec (k ≡ STRING_SINGLE) → Dec (k ≡ STRING_DOUBLE_VERBATIM) → Dec (k ≡ STRING_SINGLE_VERBATIM) → Dec (k ≡ STRING_BLOCK)
          → (w : Said) × Says s k a e w
      by (yes q) f g h i j m = rw q (_, its_text name)
      by (no p) (yes q) g h i j m = rw q number_says
      by (no p) (no f) (yes q) h i j m = rw q (quoted_says STRING_DOUBLE (λ w x. double x) (λ n x. in_double x))
      by (no p) (no f) (no g) (yes q) i j m = rw q (quoted_says STRING_SINGLE (λ w x. single x) (λ n x. in_single x))
      by (no p) (no f) (no g) (no h) (yes q) j m = rw q (_, its_text (double_verbatim (verbatim_always 0x22 (slice (a + 2) (e - 1) s)).1))
      by (no p) (no f) (no g) (no h) (no i) (yes q) m = rw q (_, its_text (single_verbatim (verbatim_always 0x27 (slice (a + 2) (e - 1) s)).1))
      by (no p) (no f) (no g) (no h) (no i) (no j) (yes q) = rw q block_says
      by (no p) (no f) (no g) (no h) (no i) (no j) (no m) = (nothing, no_text (no_meaning k p f g h i j m) (no_spoils g h))

pub told_always : (s : List ℕ) (ranges : List Range) → (xs : List Lexeme) × Told s ranges xs
told_always s [] = ([], Told.none)
told_always s (l ∷ ls) =
    let w = says_always s l.start l.end l.kind in
    let rest = told_always s ls in
    (_, Told.more w.1 rest.1)

-- ---- a first bad lexeme, or kept ones

-- what is first bad is bad, or there is none
first_sort : (n : ℕ) (ls : List Range) → (first_bad n ls ≡ lexeme EOF n n) ⊎ (lexemes.bad (first_bad n ls).kind ≡ true)
unfolding first_bad
first_sort n [] = inl refl
first_sort n (l ∷ ls) = by (lexemes.bad l.kind) refl (first_sort n ls)
  where
    by : (t : Bool) → lexemes.bad l.kind ≡ t → (first_bad n ls ≡ lexeme EOF n n) ⊎ (lexemes.bad (first_bad n ls).kind ≡ true)
        → (cond t l (first_bad n ls) ≡ lexeme EOF n n) ⊎ (lexemes.bad (cond t l (first_bad n ls)).kind ≡ true)
    by true e rest = inr e
    by false e rest = rest

eof_good : lexemes.bad EOF ≡ false
unfolding lexemes.bad
eof_good = refl

lexed : (source : List ℕ) → ((k : ℕ) × (a : ℕ) × (e : ℕ) × Bad source k a e) ⊎ ((xs : List Lexeme) × Kept source xs)
lexed source = by (first_sort (length source) all.0)
  where
    all : (ls : List Range) × lexemes.Lexemes source 0 ls
    all = lexemes_always source 0

    found : FirstBad source (first_bad (length source) all.0)
    found = record { lexemes = all.0; all = all.1; is_first = refl }

    by : (first_bad (length source) all.0 ≡ lexeme EOF (length source) (length source)) ⊎ (lexemes.bad (first_bad (length source) all.0).kind ≡ true)
        → ((k : ℕ) × (a : ℕ) × (e : ℕ) × Bad source k a e) ⊎ ((xs : List Lexeme) × Kept source xs)
    by (inl e) =
        let ks = kept_always source 0 in
        let told = told_always source ks.0 in
        inr (told.0, kept (rw e at found) ks.1 told.1)
    by (inr b) = inl (_, _, _, bad (λ q. let z : ◌≡◌ {A = Bool} true false = sym b ∙ (ap lexemes.bad q ∙ eof_good) in absurd (true≢false z)) found)

same_lexeme : {k a e k' a' e' : ℕ} → lexeme k a e ≡ lexeme k' a' e' → (k ≡ k') × (a ≡ a') × (e ≡ e')
same_lexeme q = (ap (λ (l : Range). l.kind) q, ap (λ (l : Range). l.start) q, ap (λ (l : Range). l.end) q)

pub lexing : Lexing Bad Kept
lexing =
    record {
      valid = valid_always;
      lexed = λ source u. lexed source;
      one_bad = one_bad;
      one_kept = one_kept;
      not_both = not_both;
    }
  where
    one_bad : {source : List ℕ} {k a e k' a' e' : ℕ} → Bad source k a e → Bad source k' a' e' → (k ≡ k') × (a ≡ a') × (e ≡ e')
    one_bad (bad h x) (bad g y) = same_lexeme (first_bad_once x y)

    one_kept : {source : List ℕ} {xs ys : List Lexeme} → Kept source xs → Kept source ys → xs ≡ ys
    one_kept (kept b x t) (kept c y u) = told_once t (rw (kept_once y x) at u)

    not_both : {source : List ℕ} {k a e : ℕ} {xs : List Lexeme} → Bad source k a e → Kept source xs → ⊥
    not_both (bad h x) (kept b y t) = h (same_lexeme (first_bad_once x b)).0

-- ---- document 01's answer

-- No second answer or output meets the definition.
pub reads_once : {setting : ℕ} {source : List ℕ} {room : ℕ} {a a' : Answer} {out out' : List ℕ} → Reads01 setting source room a out → Reads01 setting source room a' out' → (a ≡ a') × (out ≡ out')
reads_once = answers_once lexing document_01

-- There always is one.
pub reads_always : (setting : ℕ) (source : List ℕ) (room : ℕ) → (a : Answer) × (out : List ℕ) × Reads01 setting source room a out
reads_always = answers_always lexing document_01

-- It keeps to the table of numbers.
pub reads_fit : {setting : ℕ} {source : List ℕ} {room : ℕ} {a : Answer} {out : List ℕ} → Reads01 setting source room a out
    → T (fits a.number a.start a.stop a.detail a.size)
reads_fit = answers_fit lexing document_01

-- ---- demand 3

-- Settings that it compares have one prefix power.
same_power : {s s' : ℕ} → s ⊑ s' → prefix_power s ≡ prefix_power s'
unfolding prefix_power
same_power le = ap (λ (b : Bool). cond b 22 20) le.signs

module _ (s s' : ℕ) (le : s ⊑ s') (source : List ℕ) (room : ℕ) {a a' : Answer} {out out' : List ℕ} (x : Reads01 s source room a out) (x' : Reads01 s' source room a' out') where
  -- A larger setting changes no tree and no refusal for room.
  pub larger_setting : valid_setting s' ≡ true → Accepted a → (a' ≡ a) × (out' ≡ out)
  larger_setting = larger lexing document_01 s s' le source room x x' (same_power le)

  -- Where the larger setting has a tree, the smaller has the same, or refuses with number 5 at the first place that the larger reads by a
  -- switch the smaller lacks.
  pub smaller_setting : valid_setting s ≡ true → Accepted a' → ((a ≡ a') × (out ≡ out')) ⊎ Fifth lexing document_01 s s' le source room x x'
  smaller_setting = smaller lexing document_01 s s' le source room x x' (same_power le)
