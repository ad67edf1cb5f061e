-- Whoever spells greedily is read: a greedy spelling within d levels is a reading of the same lexemes at depth d, with the same tree but for
-- spans. So of all trees that lexemes spell, the greedy rule picks one, and that is the reading's.
-- Assumes nothing.
use mathlib.Core.Path.{refl}
use mathlib.Core.List.{[]}
use Prim.Native.Nat.{ℕ}
use Rattle.grammar.specs.Trees.{Trees, ◌⊕◌, count}
use Rattle.grammar.specs.Productions.{Phrase}
use Rattle.grammar.specs.Reading.{done, Reads, eaten, ended, deepened}
use Rattle.grammar.specs.Spells.{Lexemes, greedily, Spells, SpelledWithin}
use Rattle.grammar.specs.Spells.{Category as C}
use Rattle.grammar.proofs.Alike.{Alike, alike_sym, alike_trans}
use Rattle.grammar.proofs.Depths.{Same, same_as, done_once}
use Rattle.grammar.proofs.GreedySteps.{under, Got, got, Deeply, deeply}
use Rattle.grammar.proofs.GreedyPicks.{not_option}
use Rattle.grammar.proofs.GreedyClaims.{ExprRead, OperationRead, SuffixedRead, ChainRead, BasicRead, ObjectRead, in_braces, ArgumentRead}
use Rattle.grammar.proofs.GreedyClaims.{EachOf, e_none, e_more, RowOf, r_shut, r_last, MoreOf, m_none, m_row, MaybeOf, m_not, m_so, PartRead}
use Rattle.grammar.proofs.GreedyClaims.{part_none, part-some, StepRead, step_none, step_some, ClausesRead, ParameterRead, BindRead}
use Rattle.grammar.proofs.GreedyClaims.{PatternRead, pat_name, EntryRead, FieldRead, NameRead, AssertionRead, LocalRead, a_local_read}
use Rattle.grammar.proofs.GreedyClaims.{MemberRead, mem_local, mem_assert, mem_field, StringRead, a_string_read, got_expr}
use Rattle.grammar.proofs.GreedySuffixes.{whole_expr, as_operation, infix_operation, a_sign, whole_suffixed, bare_chain, a_member}
use Rattle.grammar.proofs.GreedySuffixes.{a_safe_member, an_index, a_safe_index, an_extension}
use Rattle.grammar.proofs.GreedyCalls.{a_call, a_call_by_name, name_argument, a_slice}
use Rattle.grammar.proofs.GreedyPatterns.{skip_pattern, an_array_pattern, an_array_pattern_rest, an_object_pattern, an_object_pattern_rest, an_entry}
use Rattle.grammar.proofs.GreedyMembers.{parameter, value_bind, function_bind, bound, a_field, a_method, word_name, literal_name, computed_name, assertion}
use Rattle.grammar.proofs.GreedyObjects.{each_of, each_field_of, first_clause, more_for, more_if, object_goes, object_comprehension_goes}
use Rattle.grammar.proofs.GreedyBasics.{a_identity, a_null, a_true, a_false, a_numeral, a_variable, a_literal, a_parens, an_array}
use Rattle.grammar.proofs.GreedyBasics.{an_array_comprehension, an_object, an_assert, some_locals, an_import, an_error, a_function, an_if}

-- ── A greedy spelling is read ─────────────────────────────────────────────────────────────────────

module _ (prefix s : ℕ) where
  unfoldable Claim : ℕ → C → Lexemes → Trees → Lexemes → Type 0
  Claim d (C.expr m) xs t ys = ExprRead (under prefix s d) m xs t ys
  Claim d (C.operation m) xs t ys = OperationRead (under prefix s d) m xs t ys
  Claim d C.suffixed xs t ys = SuffixedRead (under prefix s d) xs t ys
  Claim d (C.chain f) xs t ys = ChainRead (under prefix s d) f xs t ys
  Claim d C.basic xs t ys = BasicRead (under prefix s d) xs t ys
  Claim d C.string xs t ys = StringRead xs t ys
  Claim d C.object xs t ys = ObjectRead (under prefix s d) xs t ys
  Claim d C.member xs t ys = MemberRead (under prefix s d) xs t ys
  Claim d C.local xs t ys = LocalRead (under prefix s d) xs t ys
  Claim d C.field xs t ys = FieldRead (under prefix s d) xs t ys
  Claim d C.parameter xs t ys = ParameterRead (under prefix s d) xs t ys
  Claim d C.bind xs t ys = BindRead (under prefix s d) xs t ys
  Claim d C.assertion xs t ys = AssertionRead (under prefix s d) xs t ys
  Claim d C.named_argument xs t ys = ArgumentRead (under prefix s d) xs t ys
  Claim d C.clauses xs t ys = ClausesRead (under prefix s d) xs t ys
  Claim d C.pattern xs t ys = PatternRead (under prefix s d) xs t ys
  Claim d C.pattern_field xs t ys = EntryRead (under prefix s d) xs t ys
  Claim d (C.name c) xs t ys = NameRead (under prefix s d) c xs t ys
  Claim d (C.part w b) xs t ys = PartRead (under prefix s d) w b xs t ys
  Claim d (C.step b) xs t ys = StepRead (under prefix s d) b xs t ys
  Claim d (C.perhaps k c h) xs t ys = MaybeOf k (Claim d c) h xs t ys
  Claim d (C.each c) xs t ys = EachOf (Claim d c) xs t ys
  Claim d (C.row c) xs t ys = RowOf (Claim d c) xs t ys
  Claim d (C.more c) xs t ys = MoreOf (Claim d c) xs t ys
  Claim d C.iteration xs t ys = (p : ℕ) → Got (under prefix s d) Phrase.for_clause p xs t ys

  read : {d : ℕ} {c : C} {xs ys : Lexemes} {t : Trees} → Spells prefix s (greedily s) d c xs t ys → Claim d c xs t ys
  unfolding Claim count
  read Spells.each_none = e_none
  read (Spells.each_more e x k) = e_more (read e) (read x) k
  read (Spells.row_shut e) = r_shut (read e)
  read (Spells.row_last e x) = r_last (read e) (read x)
  read Spells.more_none = m_none
  read (Spells.more_row k e) = m_row k (read e)
  read (Spells.perhaps_not {k = k} {xs = xs} g) = m_not (not_option k xs g)
  read (Spells.perhaps_so k e) = m_so k (read e)
  read (Spells.whole e g) = whole_expr (read e) g
  read (Spells.operand e) = as_operation (read e)
  read (Spells.prefixed u k e) = a_sign u k (read e)
  read (Spells.infixed b le e k f) = infix_operation b le (read e) k (read f)
  read (Spells.whole_chain c g) = whole_suffixed (read c) g
  read (Spells.bare e) = bare_chain (read e)
  read (Spells.member_of c k i) = a_member (read c) k i
  read (Spells.safe_member_of h c k j i) = a_safe_member h (read c) k j i
  read (Spells.index_of c k e j) = an_index (read c) k (read e) j
  read (Spells.safe_index_of h c k j l e i) = a_safe_index h (read c) k j l (read e) i
  read (Spells.slice_of c k p j q r l) = a_slice (read c) k (read p) j (read q) (read r) l
  read Spells.part_not = part_none
  read (Spells.part_so e) = part-some (read e)
  read Spells.step_not = step_none
  read (Spells.step_so k e) = step_some k (read e)
  read (Spells.called c k e j l) = a_call (read c) k (read e) j l
  read (Spells.called_by_name c k e f j l) = a_call_by_name (read c) k (read e) (read f) j l
  read (Spells.an_argument i k e) = name_argument i k (read e)
  read (Spells.extended c o) = an_extension (read c) (read o)
  read (Spells.identity i k) = a_identity i k
  read (Spells.null k) = a_null k
  read (Spells.true k) = a_true k
  read (Spells.false k) = a_false k
  read (Spells.numeral i) = a_numeral i
  read (Spells.literal e) = a_literal (read e)
  read (Spells.quoted q i) = a_string_read q i
  read (Spells.variable i) = a_variable i
  read (Spells.parens k e j) = a_parens k (read e) j
  read (Spells.array k e j) = an_array k (read e) j
  read (Spells.array_comprehension k e p c j) = an_array_comprehension k (read e) p (read c) j
  read (Spells.an_object o) = an_object (read o)
  read (Spells.assert a k e) = an_assert (read a) k (read e)
  read (Spells.locals k e j f) = some_locals k (read e) j (read f)
  read (Spells.import i k e) = an_import i k (read e)
  read (Spells.error k e) = an_error k (read e)
  read (Spells.function k j e l f) = a_function k j (read e) l (read f)
  read (Spells.if k e j f g) = an_if k (read e) j (read f) (read g)
  read (Spells.members k e j) = in_braces k refl (λ p. object_goes (read e) j p) j
  read (Spells.object_comprehension k l f m c j) = in_braces k refl (λ p. object_comprehension_goes (read l) (read f) (read m) (read c) j p) j
  read (Spells.a_local k b) = a_local_read k (bound (read b))
  read (Spells.local_member l) = mem_local (read l)
  read (Spells.assert_member a) = mem_assert (read a)
  read (Spells.field_member f) = mem_field (read f)
  read (Spells.bind_value p k e) = value_bind (read p) k (read e)
  read (Spells.bind_function i k e j l f) = function_bind i k (read e) j l (read f)
  read (Spells.a_field n p c e) = a_field (read n) p c (read e)
  read (Spells.a_method n k e j c f) = a_method (read n) k (read e) j c (read f)
  read (Spells.name_word i) = word_name i
  read (Spells.name_literal e) = literal_name (read e)
  read (Spells.name_computed k e j) = computed_name k (read e) j
  read (Spells.asserted k e f) = assertion k (read e) (read f)
  read (Spells.a_parameter p e) = parameter (read p) (read e)
  read (Spells.first_clause k i) = first_clause k (read i)
  read (Spells.for_clause c k i) = more_for (read c) k (read i)
  read (Spells.if_clause a b c k e) = more_if a b (read c) k (read e)
  read (Spells.each_of p k e) = each_of (read p) k (read e)
  read (Spells.each_field_of h k i j c p l e) = each_field_of h k i j c (read p) l (read e)
  read (Spells.name_pattern i) = pat_name i
  read (Spells.skip h k) = skip_pattern h k
  read (Spells.array_pattern h k e j) = an_array_pattern h k (read e) j
  read (Spells.array_pattern_rest h k e d m j) = an_array_pattern_rest h k (read e) d (read m) j
  read (Spells.object_pattern h k e j) = an_object_pattern h k (read e) j
  read (Spells.object_pattern_rest h k e d c j) = an_object_pattern_rest h k (read e) d c j
  read (Spells.a_pattern_field i p e) = an_entry i (read p) (read e)

-- ── The greedy rule picks one tree, the reading's ─────────────────────────────────────────────────

-- What two spellings have in common: the tree but for spans, and what is left.
pub data SameSpelling (t : Trees) (ys : Lexemes) : Trees → Lexemes → Type 0 where
  same_spelling : {u : Trees} → Alike t u → SameSpelling t ys u ys

module _ {prefix s : ℕ} where
  -- WHAT IS SPELLED GREEDILY WITHIN d LEVELS IS READ SO at that depth, with the same tree.
  pub greedy_read : {d m : ℕ} {xs ys : Lexemes} {t : Trees} → Spells prefix s (greedily s) d (C.expr m) xs t ys → (p : ℕ)
      → Deeply (under prefix s d) (Phrase.expr m) p xs t ys
  unfolding Claim
  greedy_read x p = got_expr (read prefix s x) p

  -- WHOEVER SPELLS THE SAME LEXEMES GREEDILY SPELLS THE SAME TREE, and stops at the same place.
  pub greedy_once : {d e m : ℕ} {xs ys zs : Lexemes} {t u : Trees} → Spells prefix s (greedily s) d (C.expr m) xs t ys
      → Spells prefix s (greedily s) e (C.expr m) xs u zs
      → SameSpelling t ys u zs
  greedy_once x y = by (greedy_read x 0) (greedy_read y 0)
    where
      at : {t u us vs : Trees} {r j : ℕ} {ys zs : Lexemes} → Same us r ys vs j zs → Alike t us → Alike u vs → SameSpelling t ys u zs
      at same_as a b = same_spelling (alike_trans a (alike_sym b))

      by : {d e : ℕ} {q : Phrase} {p : ℕ} {xs ys zs : Lexemes} {t u : Trees} → Deeply (under prefix s d) q p xs t ys
          → Deeply (under prefix s e) q p xs u zs → SameSpelling t ys u zs
      by (deeply (got us r x a)) (deeply (got vs j y b)) = at (done_once x y) a b

  -- A source that is spelled so is read.
  pub greedy_reads : {d : ℕ} {xs : Lexemes} {t : Trees} → SpelledWithin prefix s (greedily s) d xs t
      → (us : Trees) × (r : ℕ) × Reads prefix s d xs (done us r []) × Alike t us
  unfolding ◌⊕◌
  greedy_reads x = by (greedy_read x 0)
    where
      by : {d : ℕ} {xs : Lexemes} {t : Trees} → Deeply (under prefix s d) (Phrase.expr 0) 0 xs t []
          → (us : Trees) × (r : ℕ) × Reads prefix s d xs (done us r []) × Alike t us
      by (deeply (got us r y a)) = (us, r, deepened y (eaten refl ended), a)
