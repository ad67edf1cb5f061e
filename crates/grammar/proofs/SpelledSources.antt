-- THE GRAMMAR WITHOUT A PARSER (specs/Spells.antt), of sources: a source is read as a tree at depth n exactly when its kept lexemes are spelled
-- greedily within n levels, and the tree is that one; one that is spelled greedily, but not within n levels, is refused with number 11. There is
-- one such tree, but for spans; without the greedy rule there may be two.
-- Assumes nothing.
use mathlib.Core.Path.{◌≡◌, subst}
use mathlib.Core.List.{List, [], ◌∷◌}
use Prim.Native.Nat.{ℕ}
use native.Mathlib.Omega.{arith}
use Rattle.lexemes.specs.declared.Lexeme.{Lexeme as Range}
use Rattle.lexemes.specs.Kinds.{EOF, MINUS, MUL, IDENT}
use Rattle.lexemes.specs.Kept as lexemes
use Rattle.lexemes.proofs.KeptLaws.{Rest, kept_step}
use Rattle.lexemes.proofs.Laws.{lexeme_not_eof}
use Rattle.grammar.specs.Tags.{VARIABLE, PREFIX, INFIX}
use Rattle.grammar.specs.Trees.{Trees, none, tree, ◌⊕◌, byte, span, text}
use Rattle.grammar.specs.Lexemes.{says, said, Lexeme, rest, kind_of}
use Rattle.grammar.specs.Productions.{Body, expr}
use Rattle.grammar.specs.Reading.{production, done, broken, Outcome, Reading, ended, gone, eaten, leafed, closed, subbed, deepened, Reads}
use Rattle.grammar.specs.Says.{Told}
use Rattle.grammar.specs.Source.{Kept, kept}
use Rattle.grammar.specs.Spells.{Lexemes, lexeme, worded, Unary, Binary, Open, anywhere, greedily, Spells, SpelledWithin}
use Rattle.grammar.specs.Spells.{Category as C}
use Rattle.grammar.proofs.Once.{once, done_broken}
use Rattle.grammar.proofs.Ends.{ends}
use Rattle.grammar.proofs.Alike.{Alike}
use Rattle.grammar.proofs.Depths.{Same, same_as, done_once, broken_by_depth}
use Rattle.grammar.proofs.SpelledReadings.{expr_spells}
use Rattle.grammar.proofs.GreedyRead.{SameSpelling, same_spelling, greedy_once, greedy_reads}

-- ── All lexemes ───────────────────────────────────────────────────────────────────────────────────

-- No kept lexeme is EOF, so before EOF nothing is left.
data NoEof : Lexemes → Type 0 where
  nothing : NoEof []
  more : {x : Lexeme} {xs : Lexemes} → (x.kind ≡ EOF → ⊥) → NoEof xs → NoEof (x ∷ xs)

no_eof : {s : List ℕ} {at : ℕ} {ranges : List Range} {xs : Lexemes} → lexemes.Kept s at ranges → Told s ranges xs → NoEof xs
no_eof k Told.none = nothing
no_eof {s} {at} k (Told.more {k = kind} {a = a} {e = e} {w = w} {xs = ranges} {ys = xs} x t) = by (kept_step k) (λ r. no_eof r t)
  where
    by : Rest s at (record { kind = kind; start = a; end = e } ∷ ranges) → (lexemes.Kept s e ranges → NoEof xs)
        → NoEof (record { kind = kind; start = a; stop = e; word = w } ∷ xs)
    by (Rest.next f g l d n r) on = more (lexeme_not_eof s (omega arith) d) (on r)

no_eof_rest : {xs : Lexemes} → NoEof xs → NoEof (rest xs)
no_eof_rest nothing = nothing
no_eof_rest (more n h) = h

no_eof_left : {prefix s : ℕ} {b : Body} {ts us : Trees} {d p r : ℕ} {xs ys : Lexemes} → Reading prefix s b ts d p xs (done us r ys) → NoEof xs → NoEof ys
no_eof_left ended h = h
no_eof_left (gone x) h = no_eof_left x h
no_eof_left (eaten e x) h = no_eof_left x (no_eof_rest h)
no_eof_left (leafed x) h = no_eof_left x (no_eof_rest h)
no_eof_left (closed x) h = no_eof_left x h
no_eof_left (subbed x y) h = no_eof_left y (no_eof_left x h)
no_eof_left (deepened x y) h = no_eof_left y (no_eof_left x h)

-- ── Read exactly when spelled ─────────────────────────────────────────────────────────────────────

module _ {prefix s : ℕ} {bytes : List ℕ} {xs : Lexemes} where
  -- WHAT IS READ IS SPELLED: the kept lexemes of a source that is read at depth n spell its tree greedily within n levels, all of them.
  pub read_is_spelled : {n : ℕ} {ys : Lexemes} {us : Trees} {r : ℕ} → Kept bytes xs → Reads prefix s n xs (done us r ys)
      → SpelledWithin prefix s (greedily s) n xs us
  unfolding ◌⊕◌
  read_is_spelled {us = us} (kept b k t) (deepened x (eaten e ended)) = by (no_eof_left x (no_eof k t)) e (expr_spells prefix s (greedily s) (λ q k g. g) x)
    where
      by : {d : ℕ} {zs : Lexemes} → NoEof zs → kind_of zs ≡ EOF → Spells prefix s (greedily s) d (C.expr 0) xs us zs → SpelledWithin prefix s (greedily s) d xs us
      by nothing e g = g
      by (more n h) e g = absurd (n e)

module _ {prefix s : ℕ} {xs : Lexemes} where
  -- WHAT IS SPELLED IS READ: what is spelled greedily within n levels is read at depth n, as that tree.
  pub spelled_is_read : {n : ℕ} {t : Trees} → SpelledWithin prefix s (greedily s) n xs t → (us : Trees) × (r : ℕ) × Reads prefix s n xs (done us r []) × Alike t us
  spelled_is_read x = greedy_reads x

  -- ONE TREE: two greedy spellings of one list of lexemes, within whatever levels, are one tree but for spans.
  pub one_spelled : {n m : ℕ} {t u : Trees} → SpelledWithin prefix s (greedily s) n xs t → SpelledWithin prefix s (greedily s) m xs u → Alike t u
  one_spelled x y = by (greedy_once x y)
    where
      by : {t u : Trees} {ys zs : Lexemes} → SameSpelling t ys u zs → Alike t u
      by (same_spelling a) = a

  -- The tree that is read is the one that is spelled.
  pub read_as_spelled : {n m : ℕ} {ys : Lexemes} {us t : Trees} {r : ℕ} → Reads prefix s n xs (done us r ys)
      → SpelledWithin prefix s (greedily s) m xs t → Alike t us
  read_as_spelled x y = let z = greedy_reads y in by (done_once z.2 x) z.3
    where
      by : {t us vs : Trees} {r j : ℕ} {ys zs : Lexemes} → Same us r ys vs j zs → Alike t us → Alike t vs
      by same_as a = a

  -- A source that is refused at depth n is not spelled greedily within n levels.
  pub refused_not_spelled : {n k p x : ℕ} {ys : Lexemes} {t : Trees} → Reads prefix s n xs (broken k p ys x) → SpelledWithin prefix s (greedily s) n xs t → ⊥
  refused_not_spelled x y = done_broken (once (greedy_reads y).2 x)

  -- TOO DEEP: number 11, exactly where the lexemes are spelled greedily, but not within n levels.
  pub too_deep_is_eleven : {n m : ℕ} {bytes : List ℕ} {t : Trees} → Kept bytes xs → SpelledWithin prefix s (greedily s) m xs t
      → ((u : Trees) → SpelledWithin prefix s (greedily s) n xs u → ⊥) → (p : ℕ) × (ys : Lexemes) × (x : ℕ) × Reads prefix s n xs (broken 11 p ys x)
  too_deep_is_eleven {n} k y deep = by (ends prefix s n xs)
    where
      by : (o : Outcome) × Reads prefix s n xs o → (p : ℕ) × (ys : Lexemes) × (x : ℕ) × Reads prefix s n xs (broken 11 p ys x)
      by (done us r ys, x) = absurd (deep us (read_is_spelled k x))
      by (broken i p ys d, x) = (p, ys, d, subst (λ (j : ℕ). Reads prefix s n xs (broken j p ys d)) (broken_by_depth (greedy_reads y).2 x) x)

-- ── Without the greedy rule ───────────────────────────────────────────────────────────────────────

-- `-a*b`: -(a*b) and (-a)*b.
abbrev a_lexeme : ℕ → List ℕ → Lexeme
a_lexeme k w = record { kind = k; start = 0; stop = 0; word = says w }

abbrev minus_a_times_b : Lexemes
minus_a_times_b = a_lexeme MINUS [] ∷ a_lexeme IDENT (0x61 ∷ []) ∷ a_lexeme MUL [] ∷ a_lexeme IDENT (0x62 ∷ []) ∷ []

abbrev variable : ℕ → Trees
variable b = tree VARIABLE (span 0 0 ∷ text (b ∷ []) ∷ []) none

-- The sign outermost, as it is read; the product outermost.
abbrev sign-first : Trees
sign-first = tree PREFIX (byte 1 ∷ []) (tree INFIX (byte 0 ∷ span 0 0 ∷ []) (variable 0x61 ⊕ variable 0x62))

abbrev product_first : Trees
product_first = tree INFIX (byte 0 ∷ span 0 0 ∷ []) (tree PREFIX (byte 1 ∷ []) (variable 0x61) ⊕ variable 0x62)

one_variable : {d m : ℕ} {w : List ℕ} {xs : Lexemes}
    → Spells 20 0 anywhere d (C.operation m) (a_lexeme IDENT w ∷ xs) (tree VARIABLE (span 0 0 ∷ text w ∷ []) none) xs
unfolding said
one_variable = Spells.operand (Spells.whole_chain (Spells.bare (Spells.variable worded)) tt)

-- WITHOUT THE GREEDY RULE BOTH ARE SPELLED.
pub spells_both : SpelledWithin 20 0 anywhere 200 minus_a_times_b sign-first × SpelledWithin 20 0 anywhere 200 minus_a_times_b product_first
spells_both = (
  Spells.whole (Spells.prefixed Unary.minus lexeme (Spells.whole (Spells.infixed {m = 20} Binary.mul (omega arith) one_variable lexeme
      (Spells.whole one_variable tt)) tt)) tt,
  Spells.whole (Spells.infixed {m = 0} Binary.mul (omega arith) (Spells.prefixed Unary.minus lexeme (Spells.whole one_variable tt)) lexeme
      (Spells.whole one_variable tt)) tt,
)

-- ── The greedy rule, of readings ──────────────────────────────────────────────────────────────────

operation_over : {prefix s d m : ℕ} {xs ys : Lexemes} {t : Trees} → Spells prefix s (greedily s) d (C.operation m) xs t ys → greedily s Open.suffixes (kind_of ys)
operation_over (Spells.operand (Spells.whole_chain c g)) = g
operation_over (Spells.prefixed u k (Spells.whole e g)) = operation_over e
operation_over (Spells.infixed b le e k (Spells.whole f g)) = operation_over f

-- AN EXPRESSION THAT IS READ STANDS BEFORE NO SUFFIX AND NO OPERATOR OF ITS LEVEL. (So does each within it, and each optional part: `Spells`
-- with `greedily` says so at its own place.)
pub stands_before_none : {prefix s m d p r : ℕ} {xs ys : Lexemes} {us : Trees} → Reading prefix s (production prefix s (expr m) p xs 0) none d p xs (done us r ys)
    → greedily s (Open.operations m) (kind_of ys) × greedily s Open.suffixes (kind_of ys)
stands_before_none {prefix} {s} x = by (expr_spells prefix s (greedily s) (λ q k g. g) x)
  where
    by : {d m : ℕ} {xs ys : Lexemes} {t : Trees} → Spells prefix s (greedily s) d (C.expr m) xs t ys
        → greedily s (Open.operations m) (kind_of ys) × greedily s Open.suffixes (kind_of ys)
    by (Spells.whole e g) = (g, operation_over e)
