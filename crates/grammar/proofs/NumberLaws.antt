-- A phrase is broken with a number that the table of numbers has for a reading, and with a detail that it has for the number.
-- Assumes nothing.
use mathlib.Core.Path.{◌≡◌, refl, subst, subst⁻¹}
use mathlib.Core.Bool.{Bool, true, false, ◌&&◌, cond}
use mathlib.Core.List.{List, [], ◌∷◌}
use Prim.Native.Nat.{ℕ}
use lib.Dec.{T, eqb}
use borrow.Author.Tests.{eq-eqb}
use Rattle.grammar.specs.Numbers.{TREE, ENCODING, ROOM, Row, row, first, met, last, nowhere, point, lexeme, table, placed, is_lexeme, detailed, met_in, met_with, fits_in, fits, at_lexeme_in, at_lexeme}
use Rattle.grammar.specs.Trees.{Trees, count}
use Rattle.grammar.specs.Lexemes.{Lexeme}
use Rattle.grammar.specs.Productions.{Phrase, Body}
use Rattle.grammar.specs.Reading.{view, production, broken, Reading, failed, gone, eaten, uneaten, leafed, closed, subbed, unsubbed, deepened, undeepened, too_deep, Reads}
use Rattle.grammar.proofs.Tables.{numbered}
use Rattle.grammar.proofs.Chosen.{numbered_chosen}

module _ (prefix s : ℕ) where
  numbered_production : (q : Phrase) (p : ℕ) (xs : List Lexeme) (n : ℕ) → T (numbered (production prefix s q p xs n))
  unfolding production
  numbered_production q p xs n = numbered_chosen prefix s q (view p xs n)

  numbers : {b : Body} {ts : Trees} {d p n r x : ℕ} {xs ys : List Lexeme} → T (numbered b) → Reading prefix s b ts d p xs (broken n r ys x) → T (met_with n x)
  unfolding numbered met_with
  numbers h failed = h
  numbers h (gone {q} {ts} {d} {p} {xs} z) = numbers (numbered_production q p xs (count ts)) z
  numbers h (eaten e z) = numbers h z
  numbers h (uneaten e) = tt
  numbers h (leafed z) = numbers h z
  numbers h (closed z) = numbers h z
  numbers h (subbed y z) = numbers h z
  numbers h (unsubbed {q} {p = p} {xs = xs} z) = numbers (numbered_production q p xs 0) z
  numbers h (deepened y z) = numbers h z
  numbers h (undeepened {q} {p = p} {xs = xs} z) = numbers (numbered_production q p xs 0) z
  numbers h too_deep = tt

  pub refusal : {depth n r x : ℕ} {xs ys : List Lexeme} → Reads prefix s depth xs (broken n r ys x) → T (met_with n x)
  unfolding numbered
  refusal z = numbers tt z

-- ── What the table says of the numbers that are met ───────────────────────────────────────────────

-- They are not for a tree.
pub met_no_tree : (n x : ℕ) → T (met_with n x) → n ≡ TREE → ⊥
unfolding met_with
met_no_tree n x h e = subst (λ (m : ℕ). T (met_with m x)) e h

pub met_no_room : (n x : ℕ) → T (met_with n x) → n ≡ ROOM → ⊥
unfolding met_with
met_no_room n x h e = subst (λ (m : ℕ). T (met_with m x)) e h

-- They stand at a lexeme: so the table has it.
unfoldable at_lexemes : List Row → Bool
at_lexemes [] = true
at_lexemes (row m first p d ∷ rows) = at_lexemes rows
at_lexemes (row m last p d ∷ rows) = at_lexemes rows
at_lexemes (row m met nowhere d ∷ rows) = false
at_lexemes (row m met point d ∷ rows) = false
at_lexemes (row m met lexeme d ∷ rows) = at_lexemes rows

-- One row, which is the number's or not: from what it is known to say to what it is to say.
by_row : (t u v m r : Bool) → (T u → T v) → (T m → T r) → T (cond t u m) → T (cond t v r)
by_row true u v m r own rest h = own h
by_row false u v m r own rest h = rest h

with_true : (b : Bool) → T b → T (b && true)
with_true true h = tt
with_true false h = absurd h

module _ (n a e x : ℕ) where
  met_fits_in : (rows : List Row) → T (at_lexemes rows) → T (met_in n x rows) → T (fits_in n a e x 0 rows)
  unfolding at_lexemes met_in fits_in
  met_fits_in [] l h = absurd h
  met_fits_in (row m first p d ∷ rows) l h = by_row (eqb n m) false (placed p a e && (detailed d x && true)) _ _ (λ z. absurd z) (met_fits_in rows l) h
  met_fits_in (row m last p d ∷ rows) l h = by_row (eqb n m) false (placed p a e && (detailed d x && true)) _ _ (λ z. absurd z) (met_fits_in rows l) h
  met_fits_in (row m met nowhere d ∷ rows) l h = absurd l
  met_fits_in (row m met point d ∷ rows) l h = absurd l
  met_fits_in (row m met lexeme d ∷ rows) l h = by_row (eqb n m) (detailed d x) (detailed d x && true) _ _ (with_true (detailed d x)) (met_fits_in rows l) h

  pub met_fits : T (met_with n x) → T (fits n a e x 0)
  unfolding met_with fits table at_lexemes
  met_fits h = met_fits_in table tt h

pub point_fits : (n : ℕ) → T (fits ENCODING n n 0 0)
unfolding fits
point_fits n = subst⁻¹ (λ (b : Bool). T (b && true)) (eq-eqb n n refl) tt

-- So each of them does.
module _ (n x : ℕ) where
  met_at_in : (rows : List Row) → T (at_lexemes rows) → T (met_in n x rows) → T (at_lexeme_in n rows)
  unfolding at_lexemes met_in at_lexeme_in
  met_at_in [] l h = absurd h
  met_at_in (row m first p d ∷ rows) l h = by_row (eqb n m) false (is_lexeme p) _ _ (λ z. absurd z) (met_at_in rows l) h
  met_at_in (row m last p d ∷ rows) l h = by_row (eqb n m) false (is_lexeme p) _ _ (λ z. absurd z) (met_at_in rows l) h
  met_at_in (row m met nowhere d ∷ rows) l h = absurd l
  met_at_in (row m met point d ∷ rows) l h = absurd l
  met_at_in (row m met lexeme d ∷ rows) l h = by_row (eqb n m) (detailed d x) true _ _ (λ z. tt) (met_at_in rows l) h

  pub met_at_lexeme : T (met_with n x) → T (at_lexeme n)
  unfolding met_with at_lexeme table at_lexemes
  met_at_lexeme h = met_at_in table tt h
