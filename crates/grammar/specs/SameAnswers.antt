-- What is found out about two sources, the same but for spans and places: 02, Item 10, "the same answer and image but for spans and places, and a
-- refusal stands at the same kept lexeme, or at the end for both. Item 3's detail counts as a place."
-- Assumes nothing.
use Rattle.std.specs.Prelude.{◌≡◌, List, ℕ, ◌+◌, T}
use Rattle.lexemes.specs.declared.Lexeme.{Lexeme as Range}
use Rattle.lexemes.specs.Same.{Place}
use Rattle.grammar.specs.Numbers.{SETTING, ESCAPE, at_lexeme}
use Rattle.grammar.specs.Trees.{Trees}
use Rattle.grammar.specs.Alike.{Alike}
use Rattle.grammar.specs.Answer.{Verdict, refused, tree}

-- A detail of number n at a lexeme that starts at a, and one at a lexeme that starts at b: they are the same; number 9's stands as far behind the
-- one's start as behind the other's.
pub data SameDetail : ℕ → ℕ → ℕ → ℕ → ℕ → Type 0 where
  equal : {n a x b : ℕ} → (n ≡ ESCAPE → ⊥) → SameDetail n a x b x
  as_far : {a b : ℕ} (o : ℕ) → SameDetail ESCAPE a (a + o) b (b + o)

-- Of two sources whose kept lexemes are xs and ys.
pub data SameVerdict (xs ys : List Range) : Verdict → Verdict → Type 0 where
  trees : {ts us : Trees} → Alike ts us → SameVerdict xs ys (tree ts) (tree us)
  settings : SameVerdict xs ys (refused SETTING 0 0 0) (refused SETTING 0 0 0)
  refusals : {n a e x b f y i : ℕ} → T (at_lexeme n) → Place 0 xs i a e → Place 0 ys i b f → SameDetail n a x b y
      → SameVerdict xs ys (refused n a e x) (refused n b f y)
