-- Where a greedy spelling goes on or is over, the productions do the same: which row is picked for operators, suffixes and optional parts.
-- Assumes nothing.
use mathlib.Core.Path.{sym, subst}
use mathlib.Core.List.{List, [], ◌∷◌}
use Prim.Native.Nat.{ℕ, ◌+◌, ◌≤◌}
use lib.Dec.{T, eqb, eqb→eq, leb, leb→le, le→leb, eqb_refl}
use Rattle.lexemes.specs.Kinds.{L_BRACK, L_PAREN, L_BRACE, DOT, QUESTION_MARK}
use Rattle.grammar.specs.Tags.{INFIX}
use Rattle.grammar.specs.Trees.{byte}
use Rattle.grammar.specs.Lexemes.{kind_of}
use Rattle.grammar.specs.Productions.{Phrase, end, goto, ◌▸◌, eat, deep, close, here as its-span, rule, Operator, op, operators, operator_rows}
use Rattle.grammar.specs.Reading.{has, view}
use Rattle.grammar.specs.Spells.{Lexemes, ◌is◌then◌, lexeme, Binary, Open, Continues, greedily}
use Rattle.grammar.proofs.Chosen.{and_left, and_right}
use Rattle.grammar.proofs.OperatorForms.{both, Sound, more, operators_sound, Found, here, there, found}
use Rattle.grammar.proofs.LexemeForms.{Not}
use Rattle.grammar.proofs.GreedySteps.{Picks, at_last, this, skip}

-- ── Operators, suffixes, options ──────────────────────────────────────────────────────────────────

module _ {s : ℕ} where
  -- The productions of an operation that is over, and of one that goes on.
  rows_end : (m p n : ℕ) (ys : Lexemes) → greedily s (Open.operations m) (kind_of ys) → (ops : List Operator) → Sound s ops
      → Picks s (operator_rows m (view p ys n) ops) end
  unfolding operator_rows view
  rows_end m p n ys g [] h = at_last
  rows_end m p n ys g (op k w l r o ∷ ops) (more b e a h) =
      skip (λ t on. g (Continues.operator (subst (λ (i : ℕ). Binary s i l o) (sym (eqb→eq (kind_of ys) k (and_left (eqb (kind_of ys) k) (leb m l) t))) (b on))
      (leb→le m l (and_right (eqb (kind_of ys) k) (leb m l) t)))) (rows_end m p n ys g ops h)

  pub tail_ends : (prefix m p n : ℕ) (ys : Lexemes) → greedily s (Open.operations m) (kind_of ys) → Picks s (rule prefix (Phrase.infix_tail m) (view p ys n)) end
  unfolding rule
  tail_ends prefix m p n ys g = rows_end m p n ys g operators (operators_sound s)

  rows_take : {k l o : ℕ} (m p n : ℕ) (ys zs : Lexemes) → ys is k then zs → m ≤ l → {ops : List Operator} → Found s k l o ops
      → Picks s (operator_rows m (view p ys n) ops) (eat k ▸ deep (Phrase.expr (l + 1)) ▸ close INFIX (byte o ∷ its-span (view p ys n) ∷ []) ▸ goto (Phrase.infix_tail m))
  unfolding operator_rows view
  rows_take {k} {l} m p n ys zs lexeme le (here on) = this (both (eqb k k) (leb m l) (eqb_refl k) (le→leb m l le)) on
  rows_take {k} m p n ys zs lexeme le (there {j} {l'} off f) = skip (λ t on. off (and_left (eqb k j) (leb m l') t)) (rows_take m p n ys zs lexeme le f)

  pub tail_takes : {k l o : ℕ} (prefix m p n : ℕ) (ys zs : Lexemes) → ys is k then zs → Binary s k l o → m ≤ l
      → Picks s (rule prefix (Phrase.infix_tail m) (view p ys n)) (eat k ▸ deep (Phrase.expr (l + 1)) ▸ close INFIX (byte o ∷ its-span (view p ys n) ∷ []) ▸ goto (Phrase.infix_tail m))
  unfolding rule
  tail_takes prefix m p n ys zs k b le = rows_take m p n ys zs k le (found s b)

  -- The production of suffixes that are over.
  pub suffix_ends : (prefix f p n : ℕ) (ys : Lexemes) → greedily s Open.suffixes (kind_of ys) → Picks s (rule prefix (Phrase.suffix f) (view p ys n)) end
  unfolding rule view has
  suffix_ends prefix f p n ys g =
      skip (λ t h. g (at QUESTION_MARK t (Continues.question h))) (skip (λ t h. g (at DOT t Continues.dot)) (skip (λ t h. g (at L_BRACK t Continues.bracket))
      (skip (λ t h. g (at L_PAREN t Continues.paren)) (skip (λ t h. g (at L_BRACE t Continues.brace)) at_last))))
    where
      at : (k : ℕ) → T (eqb (kind_of ys) k) → Continues s Open.suffixes k → Continues s Open.suffixes (kind_of ys)
      at k t c = subst (λ (i : ℕ). Continues s Open.suffixes i) (sym (eqb→eq (kind_of ys) k t)) c

  pub not_option : (k : ℕ) (ys : Lexemes) → greedily s (Open.optional k) (kind_of ys) → Not (kind_of ys) k
  not_option k ys g t = g (subst (λ (i : ℕ). Continues s (Open.optional k) i) (sym (eqb→eq (kind_of ys) k t)) Continues.option)
