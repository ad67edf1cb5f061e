-- What a cursor tells of the lexemes that are left.
-- Assumes nothing.
use mathlib.Core.Path.{◌≡◌, refl, sym, ap, subst, subst⁻¹, ◌∙◌}
use mathlib.Core.List.{List, []}
use Prim.Native.Nat.{ℕ, ◌+◌, ◌≤◌, ◌<◌}
use native.Mathlib.Omega.{arith}
use lib.ListN.{length}
use lib.Seq.{slice}
use Rattle.lexemes.specs.declared.Lexeme.{Lexeme as Token}
use Rattle.blocks.specs.Blocks.{BlockAt}
use Rattle.blocks.proofs.Laws.{block_end_lem}
use Rattle.lexemes.proofs.Letters.{inside}
use Rattle.std.specs.Prelude.{Ok}
use Rattle.lexemes.specs.Lexeme.{lexeme}
use Rattle.lexemes.specs.Kept.{NextKept, first}
use Rattle.lexemes.proofs.KeptLaws.{Rest, nothing as no_rest, next, kept_step, next_once}
use Rattle.lexemes.proofs.TextLaws.{double_has_quotes, single_has_quotes, double_verbatim_has_quotes, single_verbatim_has_quotes, block_is_good}
use Rattle.grammar.specs.Lexemes.{Said, says, Lexeme, rest, kind_of, word_of, start_of, stop_of}
use Rattle.grammar.specs.Says.{Says, its_text, its_escape, no_text, name}
use Rattle.grammar.specs.Productions.{Phrase, View, rule}
use Rattle.grammar.specs.Reading.{choose, view, production}
use Rattle.leaves.specs.Lexing.{Left, over, more, Stands, Moved, Quoting, double, single, double_verbatim, single_verbatim, block}
use Rattle.leaves.specs.declared.Cursor.{Cursor}

-- Where the next kept lexeme from a place lies; a string has its quotes, and a good block is its block.
pub record Lies (s : List ℕ) (at : ℕ) (l : Token) : Type 0 where
  pub from : at ≤ l.start
  pub on : l.start ≤ l.end
  pub within : l.end ≤ length s
  pub some : ¬ (l.kind ≡ 1) → l.start < l.end
  pub quoted : l.kind ≡ 41 → l.start + 2 ≤ l.end
  pub quoted' : l.kind ≡ 43 → l.start + 2 ≤ l.end
  pub raw : l.kind ≡ 45 → l.start + 3 ≤ l.end
  pub raw' : l.kind ≡ 47 → l.start + 3 ≤ l.end
  pub block : l.kind ≡ 50 → l.start + 3 ≤ l.end
  pub block' : l.kind ≡ 50 → BlockAt s (l.start + 3) (Ok l.end)

pub next_lies : {s : List ℕ} {at : ℕ} {l : Token} → at ≤ length s → NextKept s at l → Lies s at l
next_lies {s} {at} {l} h n = subst⁻¹ (Lies s at) n.is_first (by (kept_step n.is_left))
  where
    by : {ks : List Token} → Rest s at ks → Lies s at (first at ks)
    by no_rest =
        record {
          from = omega arith;
          on = omega arith;
          within = h;
          some = λ f. absurd (f refl);
          quoted = λ e. omega (arith, e);
          quoted' = λ e. omega (arith, e);
          raw = λ e. omega (arith, e);
          raw' = λ e. omega (arith, e);
          block = λ e. omega (arith, e);
          block' = λ e. absurd (omega (arith, e));
        }
    by (next {l = l} from on within lexed keeps later) =
        record {
          from = from;
          on = omega arith;
          within = within;
          some = λ f. on;
          quoted = λ e. (double_has_quotes s (omega arith) lexed e).0;
          quoted' = λ e. (single_has_quotes s (omega arith) lexed e).0;
          raw = λ e. (double_verbatim_has_quotes s (omega arith) lexed e).0;
          raw' = λ e. (single_verbatim_has_quotes s (omega arith) lexed e).0;
          block = λ e. let b = block_is_good s lexed e in (block_end_lem b.0 (omega (arith, inside s (l.start + 2) (omega (arith, b.1))))).0;
          block' = λ e. (block_is_good s lexed e).0;
        }

-- What stands at a cursor.
pub lies : {s : List ℕ} {c : Cursor} → Stands s c → Lies s c.at (lexeme c.kind c.start c.end)
lies h = next_lies h.within h.next

-- A cursor sees the lexemes that are left.
pub record Sees (s : List ℕ) (c : Cursor) (xs : List Lexeme) : Type 0 where
  pub kind : kind_of xs ≡ c.kind
  pub start : start_of c.at xs ≡ c.start
  pub stop : stop_of c.at xs ≡ c.end
  pub later : Left s c.end (rest xs)
  pub says : ¬ (c.kind ≡ 1) → Says s c.kind c.start c.end (word_of xs)

token : {s : List ℕ} {c : Cursor} {l : Token} → Stands s c → NextKept s c.at l → l ≡ lexeme c.kind c.start c.end
token h n = next_once n h.next

pub sees : {s : List ℕ} {c : Cursor} {p : ℕ} {xs : List Lexeme} → Stands s c → p ≡ c.at → Left s p xs → Sees s c xs
sees {s} {c} h q (over {p = p} n) =
    let e : lexeme 1 p p ≡ lexeme c.kind c.start c.end = token h (subst (λ (m : ℕ). NextKept s m (lexeme 1 p p)) q n) in
    let k : 1 ≡ c.kind = ap (λ (x : Token). x.kind) e in
    let a : p ≡ c.start = ap (λ (x : Token). x.start) e in
    let z : p ≡ c.end = ap (λ (x : Token). x.end) e in
    record { kind = k; start = sym q ∙ a; stop = sym q ∙ z; later = subst (λ (m : ℕ). Left s m []) z (over n); says = λ f. absurd (f (sym k)) }
sees {s} {c} h q (more {p = p} {k = k} {a = a} {e = z} {w = w} {xs = xs} n f t l) =
    let e : lexeme k a z ≡ lexeme c.kind c.start c.end = token h (subst (λ (m : ℕ). NextKept s m (lexeme k a z)) q n) in
    let k' : k ≡ c.kind = ap (λ (x : Token). x.kind) e in
    let a' : a ≡ c.start = ap (λ (x : Token). x.start) e in
    let z' : z ≡ c.end = ap (λ (x : Token). x.end) e in
    record {
      kind = k';
      start = a';
      stop = z';
      later = subst (λ (m : ℕ). Left s m xs) z' l;
      says = λ _. subst (λ (y : Token). Says s y.kind y.start y.end w) e t;
    }

-- The same past a lexeme.
pub sees_next : {s : List ℕ} {c c₁ : Cursor} {xs : List Lexeme} → Sees s c xs → Moved s c c₁ → Sees s c₁ (rest xs)
sees_next y m = sees m.stands (sym m.at) y.later

-- A cursor is past one lexeme in one way.
pub moved_once : {s : List ℕ} {c c₁ c₂ : Cursor} → Moved s c c₁ → Moved s c c₂ → c₁ ≡ c₂
moved_once {s} {c} {c₁} {c₂} m m₂ =
    let a : c₁.at ≡ c₂.at = m.at ∙ sym m₂.at in
    let l : lexeme c₁.kind c₁.start c₁.end ≡ lexeme c₂.kind c₂.start c₂.end =
    next_once (subst (λ (p : ℕ). NextKept s p (lexeme c₁.kind c₁.start c₁.end)) a m.stands.next) m₂.stands.next in
    λ i. record { at = a i; kind = (l i).kind; start = (l i).start; end = (l i).end }

-- A name says its bytes.
pub name_says : {s : List ℕ} {k a e : ℕ} {w : Said} → k ≡ 55 → Says s k a e w → w ≡ says (slice a e s)
name_says {s} {k} {a} {e} {w} q t = go (subst (λ (m : ℕ). Says s m a e w) q t)
  where
    go : {w : Said} → Says s 55 a e w → w ≡ says (slice a e s)
    go (its_text name) = refl
    go (its_escape {n = n} x) = elim x [ ]
    go (no_text f g) = absurd (f (slice a e s) name)

-- ── What a production sees ────────────────────────────────────────────────────────────────────────

-- The view at a cursor where the next lexeme has kind k and says w, and xs are left.
unfoldable pub sight : Cursor → List Lexeme → ℕ → ℕ → Said → View
sight c xs n k w =
    record {
      kind = k;
      kind₁ = kind_of (rest xs);
      kind₂ = kind_of (rest (rest xs));
      kind₃ = kind_of (rest (rest (rest xs)));
      start = c.start;
      stop = c.end;
      before = c.at;
      says = w;
      says₁ = word_of (rest xs);
      count = n;
    }

pub seen : (power g : ℕ) {s : List ℕ} {c : Cursor} {xs : List Lexeme} {k : ℕ} {w : Said} (q : Phrase) (n : ℕ) → Sees s c xs → c.kind ≡ k → word_of xs ≡ w
    → production power g q c.at xs n ≡ choose g (rule power q (sight c xs n k w))
unfolding production view sight
seen power g {s} {c} {xs} {k} {w} q n y e f =
    ap (λ (a : ℕ). choose g (rule power q (of (kind_of xs) a (stop_of c.at xs) (word_of xs)))) y.start
    ∙ ap (λ (a : ℕ). choose g (rule power q (of (kind_of xs) c.start a (word_of xs)))) y.stop
    ∙ ap (λ (a : ℕ). choose g (rule power q (of a c.start c.end (word_of xs)))) (y.kind ∙ e)
    ∙ ap (λ (a : Said). choose g (rule power q (of k c.start c.end a))) f
  where
    of : ℕ → ℕ → ℕ → Said → View
    of k a e w =
        record { kind = k; kind₁ = kind_of (rest xs); kind₂ = kind_of (rest (rest xs)); kind₃ = kind_of (rest (rest (rest xs))); start = a; stop = e; before = c.at; says = w; says₁ = word_of (rest xs); count = n }

-- No string's kind.
pub not_quoting : {k : ℕ} → Quoting k → ¬ (k ≡ 41) → ¬ (k ≡ 43) → ¬ (k ≡ 45) → ¬ (k ≡ 47) → ¬ (k ≡ 50) → ⊥
not_quoting double a b c d e = a refl
not_quoting single a b c d e = b refl
not_quoting double_verbatim a b c d e = c refl
not_quoting single_verbatim a b c d e = d refl
not_quoting block a b c d e = e refl
