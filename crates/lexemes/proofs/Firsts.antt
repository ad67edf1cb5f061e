-- The first byte of a lexeme: classes of one byte, blanks, and characters that no rule begins with.
-- Assumes nothing.
use mathlib.Core.Path.{◌≡◌, refl, sym, ◌∙◌, subst}
use mathlib.Core.Bool.{Bool, not, ◌&&◌, ◌||◌}
use mathlib.Core.List.{List, [], ◌∷◌}
use Prim.Native.Nat.{ℕ, ◌+◌, ◌≤◌, ◌<◌}
use native.Mathlib.Omega.{arith}
use native.Mathlib.Decide.{dec_lt}
use lib.Dec.{T, leb, leb→le, eqb, eqb→eq, eqb_refl}
use lib.ListN.{get_or}
use borrow.Author.Tests.{le-ltb}
use Rattle.regexes.specs.Regex.{◌to◌, within, Rule}
use Rattle.regexes.proofs.Bools.{and_left, and_right, all, all_at, implies, implied}
use Rattle.regexes.proofs.Tables.{left, steps, gives}
use Rattle.lexemes.specs.Kinds.{WHITESPACE, LEXING_ERROR}
use Rattle.lexemes.specs.Letters.{next}
use Rattle.lexemes.specs.Rules.{rules}
use Rattle.lexemes.specs.Lexeme.{Ruled, longest, error}
use Rattle.lexemes.specs.Scan.{class_of, ascii_class, Ran}
use Rattle.lexemes.proofs.Letters.{by_byte}
use Rattle.lexemes.proofs.Moves.{Sees, not_in, Rest, at_rest, go, never}
use Rattle.lexemes.proofs.Classes.{covers, classed, class_small, run_stop}
use Rattle.lexemes.proofs.Verbatim.{silent_rules}

-- The byte of a class that has one.
unfoldable pub only : ℕ → ℕ → Bool
unfolding implies class_of ascii_class
only k v = leb 1 k && implies 128 (λ b. eqb (class_of b) k) (eqb v)

pub is_byte : (k v b : ℕ) → T (only k v) → class_of b ≡ k → b ≡ v
unfolding only
is_byte k v b t e =
    sym (eqb→eq v b (implied 128 (λ b. eqb (class_of b) k) (eqb v) (and_right (leb 1 k) (implies 128 (λ b. eqb (class_of b) k) (eqb v)) t) b
    (class_small b (omega (arith, e, leb→le 1 k (and_left (leb 1 k) (implies 128 (λ b. eqb (class_of b) k) (eqb v)) t)))) (subst (λ (x : ℕ). T (eqb x k)) (sym e) (eqb_refl k))))

-- Blanks.
abbrev blank : ℕ → Bool
blank l = within (32 to 32 ∷ 9 to 9 ∷ 10 to 10 ∷ 13 to 13 ∷ []) l

abbrev blank_tail : List Rule
blank_tail = left 32 rules

blank_first : T (steps rules blank blank_tail)
unfolding steps rules
blank_first = tt

blank_more : T (steps blank_tail blank blank_tail)
unfolding steps rules
blank_more = tt

blank_over : T (steps blank_tail (λ l. not (blank l)) [])
unfolding steps rules
blank_over = tt

blank_gives : T (gives blank_tail WHITESPACE)
unfolding gives left rules
blank_gives = tt

blank_class : T (covers 4 4 blank)
unfolding covers
blank_class = tt

pub blank_scanned : (s : List ℕ) (at : ℕ) {e : ℕ} → class_of (get_or s at 0) ≡ 4 → Ran s (at + 1) 4 4 e → Ruled s at WHITESPACE e
blank_scanned s at {e} c ran =
    longest
    (go (classed s 4 4 blank (omega arith) blank_class at (omega (arith, c)) (omega (arith, c)))
    (run_stop s 4 4 blank (omega arith) blank_class (at + 1) e ran blank_tail blank_more WHITESPACE blank_over blank_gives) blank_first)

-- Letters with which no rule begins.
abbrev idle : ℕ → Bool
idle l = leb 128 l || eqb (class_of l) 0

idle_none : T (steps rules idle [])
unfolding steps rules class_of ascii_class
idle_none = tt

idle_class : T (implies 128 (λ b. eqb (class_of b) 0) idle)
unfolding implies class_of ascii_class
idle_class = tt

pub error_scanned : (s : List ℕ) (at : ℕ) {e : ℕ} → class_of (get_or s at 0) ≡ 0 → e ≡ next s at → Ruled s at LEXING_ERROR e
error_scanned s at c q = error (never x idle_none silent_rules) refl q
  where
    x : Sees s at idle (next s at)
    x =
        record {
          passes = by_byte s at idle tt tt tt
              (λ small. implied 128 (λ b. eqb (class_of b) 0) idle idle_class (get_or s at 0) small (subst (λ (x : ℕ). T (eqb x 0)) (sym c) tt));
          after = refl;
        }

-- A class that is none of the others.
ten : T (all (λ b. leb (class_of b) 10) 128)
unfolding all class_of ascii_class
ten = tt

at_most : (b : ℕ) → class_of b ≤ 10
unfolding class_of
at_most b = by (dec_lt b 128)
  where
    by : Dec (b < 128) → class_of b ≤ 10
    by (yes l) = leb→le (class_of b) 10 (all_at (λ b. leb (class_of b) 10) 128 ten b l)
    by (no n) = simp (le-ltb b 128 (omega arith)) (omega arith)

eleven : T (implies 11 (not_in (10 ∷ 9 ∷ 8 ∷ 7 ∷ 6 ∷ 5 ∷ 4 ∷ 3 ∷ 2 ∷ 1 ∷ [])) (eqb 0))
unfolding implies
eleven = tt

pub no_class : (b k : ℕ) → k ≡ class_of b → Rest (10 ∷ 9 ∷ 8 ∷ 7 ∷ 6 ∷ 5 ∷ 4 ∷ 3 ∷ 2 ∷ 1 ∷ []) k → class_of b ≡ 0
no_class b k e r =
    sym e
    ∙ sym (eqb→eq 0 k (implied 11 (not_in (10 ∷ 9 ∷ 8 ∷ 7 ∷ 6 ∷ 5 ∷ 4 ∷ 3 ∷ 2 ∷ 1 ∷ [])) (eqb 0) eleven k (omega (arith, e, at_most b)) (at_rest (10 ∷ 9 ∷ 8 ∷ 7 ∷ 6 ∷ 5 ∷ 4 ∷ 3 ∷ 2 ∷ 1 ∷ []) k r)))
