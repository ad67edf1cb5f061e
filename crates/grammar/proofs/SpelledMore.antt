-- "Within" is said rightly: what is spelled within d levels is spelled within more.
-- Assumes nothing.
use Prim.Native.Nat.{ℕ, suc}
use Rattle.grammar.specs.Trees.{Trees}
use Rattle.grammar.specs.Spells.{Lexemes, Open, Spells}
use Rattle.grammar.specs.Spells.{Category as C}

module _ {prefix s : ℕ} {Ends : Open → ℕ → Type 0} where
  pub more_levels : {d : ℕ} {c : C} {xs ys : Lexemes} {ts : Trees} → Spells prefix s Ends d c xs ts ys → Spells prefix s Ends (suc d) c xs ts ys
  more_levels Spells.each_none = Spells.each_none
  more_levels (Spells.each_more a b c) = Spells.each_more (more_levels a) (more_levels b) c
  more_levels (Spells.row_shut a) = Spells.row_shut (more_levels a)
  more_levels (Spells.row_last a b) = Spells.row_last (more_levels a) (more_levels b)
  more_levels Spells.more_none = Spells.more_none
  more_levels (Spells.more_row a b) = Spells.more_row a (more_levels b)
  more_levels (Spells.perhaps_not a) = Spells.perhaps_not a
  more_levels (Spells.perhaps_so a b) = Spells.perhaps_so a (more_levels b)
  more_levels (Spells.whole a b) = Spells.whole (more_levels a) b
  more_levels (Spells.operand a) = Spells.operand (more_levels a)
  more_levels (Spells.prefixed a b c) = Spells.prefixed a b (more_levels c)
  more_levels (Spells.infixed a b c d e) = Spells.infixed a b (more_levels c) d (more_levels e)
  more_levels (Spells.whole_chain a b) = Spells.whole_chain (more_levels a) b
  more_levels (Spells.bare a) = Spells.bare (more_levels a)
  more_levels (Spells.member_of a b c) = Spells.member_of (more_levels a) b c
  more_levels (Spells.safe_member_of a b c d e) = Spells.safe_member_of a (more_levels b) c d e
  more_levels (Spells.index_of a b c d) = Spells.index_of (more_levels a) b (more_levels c) d
  more_levels (Spells.safe_index_of a b c d e f g) = Spells.safe_index_of a (more_levels b) c d e (more_levels f) g
  more_levels (Spells.slice_of a b c d e f g) = Spells.slice_of (more_levels a) b (more_levels c) d (more_levels e) (more_levels f) g
  more_levels Spells.part_not = Spells.part_not
  more_levels (Spells.part_so a) = Spells.part_so (more_levels a)
  more_levels Spells.step_not = Spells.step_not
  more_levels (Spells.step_so a b) = Spells.step_so a (more_levels b)
  more_levels (Spells.called a b c d e) = Spells.called (more_levels a) b (more_levels c) d e
  more_levels (Spells.called_by_name a b c d e f) = Spells.called_by_name (more_levels a) b (more_levels c) (more_levels d) e f
  more_levels (Spells.an_argument a b c) = Spells.an_argument a b (more_levels c)
  more_levels (Spells.extended a b) = Spells.extended (more_levels a) (more_levels b)
  more_levels (Spells.identity a b) = Spells.identity a b
  more_levels (Spells.null a) = Spells.null a
  more_levels (Spells.true a) = Spells.true a
  more_levels (Spells.false a) = Spells.false a
  more_levels (Spells.numeral a) = Spells.numeral a
  more_levels (Spells.literal a) = Spells.literal (more_levels a)
  more_levels (Spells.quoted a b) = Spells.quoted a b
  more_levels (Spells.variable a) = Spells.variable a
  more_levels (Spells.parens a b c) = Spells.parens a (more_levels b) c
  more_levels (Spells.array a b c) = Spells.array a (more_levels b) c
  more_levels (Spells.array_comprehension a b c d e) = Spells.array_comprehension a (more_levels b) c (more_levels d) e
  more_levels (Spells.an_object a) = Spells.an_object (more_levels a)
  more_levels (Spells.assert a b c) = Spells.assert (more_levels a) b (more_levels c)
  more_levels (Spells.locals a b c d) = Spells.locals a (more_levels b) c (more_levels d)
  more_levels (Spells.import a b c) = Spells.import a b (more_levels c)
  more_levels (Spells.error a b) = Spells.error a (more_levels b)
  more_levels (Spells.function a b c d e) = Spells.function a b (more_levels c) d (more_levels e)
  more_levels (Spells.if a b c d e) = Spells.if a (more_levels b) c (more_levels d) (more_levels e)
  more_levels (Spells.members a b c) = Spells.members a (more_levels b) c
  more_levels (Spells.object_comprehension a b c d e f) = Spells.object_comprehension a (more_levels b) (more_levels c) (more_levels d) (more_levels e) f
  more_levels (Spells.local_member a) = Spells.local_member (more_levels a)
  more_levels (Spells.assert_member a) = Spells.assert_member (more_levels a)
  more_levels (Spells.field_member a) = Spells.field_member (more_levels a)
  more_levels (Spells.a_local a b) = Spells.a_local a (more_levels b)
  more_levels (Spells.bind_value a b c) = Spells.bind_value (more_levels a) b (more_levels c)
  more_levels (Spells.bind_function a b c d e f) = Spells.bind_function a b (more_levels c) d e (more_levels f)
  more_levels (Spells.a_field a b c d) = Spells.a_field (more_levels a) b c (more_levels d)
  more_levels (Spells.a_method a b c d e f) = Spells.a_method (more_levels a) b (more_levels c) d e (more_levels f)
  more_levels (Spells.name_word a) = Spells.name_word a
  more_levels (Spells.name_literal a) = Spells.name_literal (more_levels a)
  more_levels (Spells.name_computed a b c) = Spells.name_computed a (more_levels b) c
  more_levels (Spells.asserted a b c) = Spells.asserted a (more_levels b) (more_levels c)
  more_levels (Spells.a_parameter a b) = Spells.a_parameter (more_levels a) (more_levels b)
  more_levels (Spells.first_clause a b) = Spells.first_clause a (more_levels b)
  more_levels (Spells.for_clause a b c) = Spells.for_clause (more_levels a) b (more_levels c)
  more_levels (Spells.if_clause i j a b c) = Spells.if_clause i j (more_levels a) b (more_levels c)
  more_levels (Spells.each_of a b c) = Spells.each_of (more_levels a) b (more_levels c)
  more_levels (Spells.each_field_of a b c d e f g h) = Spells.each_field_of a b c d e (more_levels f) g (more_levels h)
  more_levels (Spells.name_pattern a) = Spells.name_pattern a
  more_levels (Spells.skip a b) = Spells.skip a b
  more_levels (Spells.array_pattern a b c d) = Spells.array_pattern a b (more_levels c) d
  more_levels (Spells.array_pattern_rest a b c d e f) = Spells.array_pattern_rest a b (more_levels c) d (more_levels e) f
  more_levels (Spells.object_pattern a b c d) = Spells.object_pattern a b (more_levels c) d
  more_levels (Spells.object_pattern_rest a b c d e f) = Spells.object_pattern_rest a b (more_levels c) d e f
  more_levels (Spells.a_pattern_field a b c) = Spells.a_pattern_field a (more_levels b) (more_levels c)
