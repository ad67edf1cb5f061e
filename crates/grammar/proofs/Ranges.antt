-- The kept lexemes of a source go forward, none is empty, and none says more bytes than it has. So the laws about trees and images hold of
-- every source that is read, without a condition.
-- Assumes nothing.
use mathlib.Core.Path.{◌≡◌, refl}
use mathlib.Core.Bool.{Bool, true, false, cond}
use mathlib.Core.List.{List, [], ◌∷◌}
use Prim.Native.Nat.{ℕ, ◌+◌, ◌-◌, ◌*◌, ◌≤◌, ◌<◌}
use native.Mathlib.Omega.{arith}
use lib.Dec.{eqb}
use lib.ListN.{length}
use lib.Seq.{slice, length-slice}
use Rattle.strings.specs.Utf8.{Utf8}
use Rattle.strings.proofs.LiteralLaws.{quoted_short, verbatim_short}
use Rattle.blocks.specs.Blocks.{BlockAt}
use Rattle.std.specs.Prelude.{Ok}
use Rattle.blocks.proofs.Laws.{text_short}
use Rattle.lexemes.specs.declared.Lexeme.{Lexeme as Range}
use Rattle.lexemes.specs.Kinds.{STRING_BLOCK}
use Rattle.lexemes.specs.Texts.{plain}
use Rattle.lexemes.specs.Kept as lexemes
use Rattle.lexemes.proofs.KeptLaws.{Rest, kept_step}
use Rattle.lexemes.proofs.TextLaws.{block_is_good}
use Rattle.grammar.specs.Trees.{Trees}
use Rattle.grammar.specs.Image.{image}
use Rattle.grammar.specs.Records.{Sort, Is, Spans, Obeys}
use Rattle.grammar.specs.Lexemes.{Said, said, Lexeme, Ranged}
use Rattle.grammar.specs.Reading.{Reads, done}
use Rattle.grammar.specs.Says.{Means, name, number, double, single, double_verbatim, single_verbatim, block, Says, its_text, its_escape, no_text, Told}
use Rattle.grammar.specs.Source.{Kept, kept}
use Rattle.grammar.proofs.Possible.{kept_worded}
use Rattle.grammar.proofs.Obeys.{obeys}
use Rattle.grammar.proofs.Room.{Within, image-bound, payloads_fit}

plain_short : (s : List ℕ) → length (plain s) ≤ length s
unfolding plain
plain_short [] = omega arith
plain_short (b ∷ s) = by (eqb b 0x5F) (plain_short s)
  where
    by : (c : Bool) → length (plain s) ≤ length s → length (cond c (plain s) (b ∷ plain s)) ≤ length (b ∷ s)
    by true h = omega arith
    by false h = omega arith

-- A text has no more bytes than its lexeme. Of a block this needs that it is a good one.
means_short : {s : List ℕ} {k a e : ℕ} {w : List ℕ} → a < e → e ≤ length s → (k ≡ STRING_BLOCK → BlockAt s (a + 3) (Ok e)) → Means s k a e w → length w ≤ e - a
means_short {s} {k} {a} {e} h g b name = omega (arith, length-slice a e s g)
means_short {s} {k} {a} {e} h g b (number n) = omega (arith, plain_short (slice a e s), length-slice a e s g)
means_short {s} {k} {a} {e} h g b (double m) = omega (arith, quoted_short m, length-slice (a + 1) (e - 1) s (omega arith))
means_short {s} {k} {a} {e} h g b (single m) = omega (arith, quoted_short m, length-slice (a + 1) (e - 1) s (omega arith))
means_short {s} {k} {a} {e} h g b (double_verbatim m) = omega (arith, verbatim_short m, length-slice (a + 2) (e - 1) s (omega arith))
means_short {s} {k} {a} {e} h g b (single_verbatim m) = omega (arith, verbatim_short m, length-slice (a + 2) (e - 1) s (omega arith))
means_short {s} {k} {a} {e} h g b (block m) = omega (arith, text_short (b refl) m)

says_short : {s : List ℕ} {k a e : ℕ} {w : Said} → a < e → e ≤ length s → (k ≡ STRING_BLOCK → BlockAt s (a + 3) (Ok e)) → Says s k a e w → length (said w) ≤ e - a
unfolding said
says_short h g b (its_text m) = means_short h g b m
says_short h g b (its_escape x) = omega arith
says_short h g b (no_text m n) = omega arith

ranged : {s : List ℕ} {at : ℕ} {ranges : List Range} {xs : List Lexeme} → at ≤ length s → lexemes.Kept s at ranges → Told s ranges xs → Ranged (length s) at xs
ranged h k Told.none = Ranged.none h
ranged {s} {at} h k (Told.more {k = kind} {a = a} {e = e} {w = w} {xs = ranges} {ys = xs} x t) = by (kept_step k) (λ l r. ranged l r t)
  where
    by : Rest s at (record { kind = kind; start = a; end = e } ∷ ranges) → (e ≤ length s → lexemes.Kept s e ranges → Ranged (length s) e xs)
        → Ranged (length s) at (record { kind = kind; start = a; stop = e; word = w } ∷ xs)
    by (Rest.next f g l d n r) on = Ranged.more f g (says_short g l (λ q. (block_is_good s d q).0) x) (on l r)

pub kept_ranged : {source : List ℕ} {xs : List Lexeme} → Kept source xs → Ranged (length source) 0 xs
kept_ranged (kept b k t) = ranged (omega arith) k t

-- So, of every source that is read:
module _ {prefix s depth : ℕ} {source : List ℕ} {xs ys : List Lexeme} {us : Trees} {r : ℕ} (k : Kept source xs) (x : Reads prefix s depth xs (done us r ys)) where
  -- Its tree obeys the table, spans and texts included, with one root, an expression. (A source that is read is UTF-8.)
  pub source_obeys : Utf8 source → (σ : Sort) × Is σ Sort.expression × Obeys Spans.forward (σ ∷ []) us
  source_obeys u = obeys prefix s (kept_ranged k) (kept_worded u k) x

  -- Its image has at most 16 bytes for each of its bytes.
  pub source-bound : length (image us) ≤ 16 * length source
  source-bound = image-bound prefix s (kept_ranged k) x

  -- Every payload has at most 32 bytes more than the source, and with at most 65,000 bytes of source fits two bytes of length.
  pub source_payloads_fit : Within (32 + length source) us
  source_payloads_fit = payloads_fit prefix s (kept_ranged k) x
