-- What has a `\/`, and what both readers make of two texts: the definitions, tried.
-- Assumes nothing.
use mathlib.Core.Path.{refl}
use mathlib.Core.List.{List, [], ◌∷◌}
use Prim.Native.Nat.{ℕ}
use native.Mathlib.Omega.{arith}
use lib.Dec.{leb→le}
use Rattle.numerals.proofs.Always.{is_too_large}
use Rattle.grammar.specs.Tags.{ARRAY, NUMBER, STRING, PREFIX}
use Rattle.grammar.specs.Numbers.{ESCAPE}
use Rattle.grammar.specs.Trees.{byte, number, text, none, ◌⊕◌, count}
use Rattle.grammar.specs.Trees as trees
use Rattle.grammar.specs.Answer.{refused, tree, document_01}
use Rattle.grammar.specs.Answer as grammar
use Rattle.grammar.specs.Source.{Bad, Kept}
use Rattle.grammar.proofs.Computed.{low, low_utf8}
use Rattle.json_import.specs.Json.{Judged}
use Rattle.json_import.specs.Machine.{run, step, finish, begin, start, past, closed, escaped, ended, next, whole, is_over, signed, meant}
use Rattle.json_import.proofs.EveryText.{judged_run}
use Rattle.both.specs.Solidus.{outside, Solidus, HasSolidus}
use Rattle.both.proofs.Demands.{Found, same, nine, both_find}

-- ── What has a `\/` ───────────────────────────────────────────────────────────────────────────────

-- `"\/"` has one; `"\\/"`, a backslash and then a solidus, has none.
pub solidus : HasSolidus (0x22 ∷ 0x5C ∷ 0x2F ∷ 0x22 ∷ [])
solidus = Solidus.opens Solidus.here

nothing_left : Solidus outside [] → ⊥
nothing_left = elim [ ]

pub backslash_first : HasSolidus (0x22 ∷ 0x5C ∷ 0x5C ∷ 0x2F ∷ 0x22 ∷ []) → ⊥
backslash_first (Solidus.before n x) = n refl
backslash_first (Solidus.opens (Solidus.plain n m x)) = m refl
backslash_first (Solidus.opens (Solidus.escape n (Solidus.plain m l (Solidus.closes x)))) = nothing_left x
backslash_first (Solidus.opens (Solidus.escape n (Solidus.plain m l (Solidus.plain k j x)))) = k refl

-- ── Two texts ─────────────────────────────────────────────────────────────────────────────────────

-- `[-1]`, and `["\/"]`.
abbrev signed_one : List ℕ
signed_one = 0x5B ∷ 0x2D ∷ 0x31 ∷ 0x5D ∷ []

abbrev slashed_one : List ℕ
slashed_one = 0x5B ∷ 0x22 ∷ 0x5C ∷ 0x2F ∷ 0x22 ∷ 0x5D ∷ []

abbrev signed-tree : trees.Trees
signed-tree = trees.tree ARRAY (number 1 ∷ []) (trees.tree PREFIX (byte 1 ∷ []) (trees.tree NUMBER (text (0x31 ∷ []) ∷ []) none))

abbrev slashed_tree : trees.Trees
slashed_tree = trees.tree ARRAY (number 1 ∷ []) (trees.tree STRING (text (0x2F ∷ []) ∷ []) none)

-- The importer has a tree of both.
pub signed_imported : Judged signed_one (tree signed-tree)
unfolding run step finish begin start past closed escaped ended next whole is_over signed meant is_too_large low ◌⊕◌ count
signed_imported = judged_run signed_one (leb→le 4 65000 tt) (low_utf8 signed_one tt)

pub slashed_imported : Judged slashed_one (tree slashed_tree)
unfolding run step finish begin start past closed escaped ended next whole is_over signed meant low ◌⊕◌ count
slashed_imported = judged_run slashed_one (leb→le 6 65000 tt) (low_utf8 slashed_one tt)

-- The reader has the same tree of the first, and refuses the second.
no_string : HasSolidus signed_one → ⊥
no_string (Solidus.before a (Solidus.before b (Solidus.before c (Solidus.before d x)))) = nothing_left x

pub signed_read : grammar.Judged Bad Kept document_01 0 signed_one (tree signed-tree)
signed_read = by (both_find signed_imported)
  where
    by : Found signed_one signed-tree → grammar.Judged Bad Kept document_01 0 signed_one (tree signed-tree)
    by (same j n) = j
    by (nine j l q) = absurd (no_string q)

pub slashed_refused : (a e x : ℕ) × grammar.Judged Bad Kept document_01 0 slashed_one (refused ESCAPE a e x)
slashed_refused = by (both_find slashed_imported)
  where
    by : Found slashed_one slashed_tree → (a e x : ℕ) × grammar.Judged Bad Kept document_01 0 slashed_one (refused ESCAPE a e x)
    by (same j n) = absurd (n (Solidus.before (λ e. omega (arith, e)) (Solidus.opens Solidus.here)))
    by (nine {a} {e} {x} j l q) = (a, e, x, j)
