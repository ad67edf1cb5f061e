-- What each phrase has read where it begins and where it is over, in the forms of Spells.antt; and what it is for a production to keep to it.
-- Assumes nothing.
use mathlib.Core.Path.{◌≡◌}
use mathlib.Core.Bool.{not}
use Prim.Native.Nat.{ℕ, suc, ◌+◌}
use lib.Dec.{T, eqb}
use Rattle.lexemes.specs.Kinds.{EOF, L_BRACK, L_BRACE}
use Rattle.lexemes.specs.Kinds.{LOCAL_KW, ASSERT_KW}
use Rattle.grammar.specs.Trees.{Trees, none, tree, ◌⊕◌, count}
use Rattle.grammar.specs.Lexemes.{rest, kind_of}
use Rattle.grammar.specs.Productions.{Phrase, Body, end, goto, fail, ◌▸◌, eat, leaf, sub, deep, close, exp_destruct, row, Table, otherwise, ◌∣◌}
use Rattle.grammar.specs.Reading.{has}
use Rattle.grammar.specs.Spells.{Lexemes, ◌is◌then◌, Quoted, Open, Spells}
use Rattle.grammar.specs.Spells.{Category as C}
use Rattle.grammar.proofs.SpelledStates.{Sp, One, Over, plain, Tail, Last, Rules, rules, Fresh, Opened, Behind}
use Rattle.grammar.proofs.SpelledSuffixes.{Safe, SafeOpen, SafeIndexed, Dotted, Bracketed, Indexed, Halved, Sliced, Stepped, Stepping}
use Rattle.grammar.proofs.SpelledSuffixes.{EachArgument, LastArgument, Arguments, Called}
use Rattle.grammar.proofs.SpelledMembers.{Comprehending, Comprehended, EachMember, LastMember, AMember, Members, WithClauses, Inside, Headed, Signed}
use Rattle.grammar.proofs.SpelledMembers.{Iffed, Functioned, Keyed, Visible, Guarded, Header, Named}
use Rattle.grammar.proofs.SpelledPatterns.{deeper, Starts, Dots, Rested, Behind-rest, Closing, Shutting, Into, Defaulting, Defaulted, Entry}

module _ (R : Rules) where
  -- At its end. An expression and a pattern with brackets were read one level deeper than they are told.
  unfoldable pub After : Phrase → Lexemes → Trees → Lexemes → Type 0
  After (Phrase.expr m) x₀ ts x = Over (deeper R) m x₀ ts x
  After (Phrase.infix_tail m) x₀ ts x = Over (deeper R) m x₀ ts x
  After Phrase.suffixed x₀ ts x = One R C.suffixed x₀ ts x
  After (Phrase.suffix f) x₀ ts x = One R C.suffixed x₀ ts x
  After (Phrase.null_safe f) x₀ ts x = One R C.suffixed x₀ ts x
  After (Phrase.null_safe_index f) x₀ ts x = One R C.suffixed x₀ ts x
  After (Phrase.bracket f) x₀ ts x = One R C.suffixed x₀ ts x
  After (Phrase.member_name f n) x₀ ts x = One R C.suffixed x₀ ts x
  After (Phrase.null_safe_end f a) x₀ ts x = One R C.suffixed x₀ ts x
  After (Phrase.index_or_slice f a) x₀ ts x = One R C.suffixed x₀ ts x
  After (Phrase.slice_end b i j) x₀ ts x = One R C.suffixed x₀ ts x
  After (Phrase.slice_ended b i j a) x₀ ts x = One R C.suffixed x₀ ts x
  After (Phrase.slice_step b i j k l) x₀ ts x = One R C.suffixed x₀ ts x
  After (Phrase.slice_stepped b i j k l a) x₀ ts x = One R C.suffixed x₀ ts x
  After (Phrase.arguments a u n) x₀ ts x = One R C.suffixed x₀ ts x
  After (Phrase.argument a u n) x₀ ts x = One R C.suffixed x₀ ts x
  After (Phrase.argument_end a u n) x₀ ts x = One R C.suffixed x₀ ts x
  After (Phrase.call_close a u n) x₀ ts x = One R C.suffixed x₀ ts x
  After (Phrase.call_end a u n) x₀ ts x = One R C.suffixed x₀ ts x
  After Phrase.named_argument x₀ ts x = One R C.named_argument x₀ ts x
  After Phrase.basic x₀ ts x = One R C.basic x₀ ts x
  After Phrase.string x₀ ts x = One R C.string x₀ ts x
  After Phrase.array x₀ ts x = One R C.basic x₀ ts x
  After Phrase.array_first x₀ ts x = One R C.basic x₀ ts x
  After Phrase.array_comp x₀ ts x = One R C.basic x₀ ts x
  After Phrase.array_comp_end x₀ ts x = One R C.basic x₀ ts x
  After Phrase.elements x₀ ts x = One R C.basic x₀ ts x
  After Phrase.next_element x₀ ts x = One R C.basic x₀ ts x
  After Phrase.inside x₀ ts x = Inside R x₀ ts x
  After Phrase.member x₀ ts x = AMember R x₀ ts x
  After (Phrase.members c) x₀ ts x = Inside R x₀ ts x
  After (Phrase.next_member c) x₀ ts x = Inside R x₀ ts x
  After (Phrase.comprehension c) x₀ ts x = Inside R x₀ ts x
  After (Phrase.comprehension_end m) x₀ ts x = Inside R x₀ ts x
  After Phrase.field x₀ ts x = Sp R C.field x₀ ts x
  After (Phrase.field_named c a) x₀ ts x = Sp R C.field x₀ ts x
  After (Phrase.field_value i j c p m) x₀ ts x = Sp R C.field x₀ ts x
  After Phrase.params x₀ ts x = Sp R (C.row C.parameter) x₀ ts x
  After Phrase.params_end x₀ ts x = Sp R (C.row C.parameter) x₀ ts x
  After Phrase.param x₀ ts x = Sp R C.parameter x₀ ts x
  After Phrase.param_default x₀ ts x = Sp R C.parameter x₀ ts x
  After Phrase.binds x₀ ts x = One R C.basic x₀ ts x
  After Phrase.binds_end x₀ ts x = One R C.basic x₀ ts x
  After Phrase.local_body x₀ ts x = One R C.basic x₀ ts x
  After Phrase.bind x₀ ts x = Sp R C.bind x₀ ts x
  After Phrase.bind_named x₀ ts x = Sp R C.bind x₀ ts x
  After Phrase.bind_function x₀ ts x = Sp R C.bind x₀ ts x
  After (Phrase.else_part i j) x₀ ts x = One R C.basic x₀ ts x
  After (Phrase.function_body i j) x₀ ts x = One R C.basic x₀ ts x
  After Phrase.assertion x₀ ts x = Sp R C.assertion x₀ ts x
  After Phrase.condition x₀ ts x = Sp R C.assertion x₀ ts x
  After (Phrase.asserted a) x₀ ts x = Sp R C.assertion x₀ ts x
  After Phrase.clauses x₀ ts x = Sp R C.clauses x₀ ts x
  After Phrase.more_clauses x₀ ts x = Sp R C.clauses x₀ ts x
  After Phrase.for_clause x₀ ts x = Sp R C.iteration x₀ ts x
  After Phrase.header x₀ ts x = Header x₀ ts x
  After (Phrase.if_clause i j) x₀ ts x = Guarded R x₀ ts x
  After (Phrase.iteration w) x₀ ts x = Sp R C.iteration x₀ ts x
  After (Phrase.iteration_value c w) x₀ ts x = Sp R C.iteration x₀ ts x
  After Phrase.pattern x₀ ts x = Sp R C.pattern x₀ ts x
  After Phrase.array_pattern x₀ ts x = Sp (deeper R) C.pattern x₀ ts x
  After Phrase.pattern_starts x₀ ts x = Sp (deeper R) C.pattern x₀ ts x
  After Phrase.pattern_starts_end x₀ ts x = Sp (deeper R) C.pattern x₀ ts x
  After (Phrase.array_rest n) x₀ ts x = Sp (deeper R) C.pattern x₀ ts x
  After (Phrase.array_rest_end n r w) x₀ ts x = Sp (deeper R) C.pattern x₀ ts x
  After (Phrase.pattern_ends n r w) x₀ ts x = Sp (deeper R) C.pattern x₀ ts x
  After (Phrase.pattern_ends_end n r w) x₀ ts x = Sp (deeper R) C.pattern x₀ ts x
  After (Phrase.array_pattern_close n r w) x₀ ts x = Sp (deeper R) C.pattern x₀ ts x
  After Phrase.object_pattern x₀ ts x = Sp (deeper R) C.pattern x₀ ts x
  After Phrase.pattern_fields x₀ ts x = Sp (deeper R) C.pattern x₀ ts x
  After Phrase.pattern_fields_end x₀ ts x = Sp (deeper R) C.pattern x₀ ts x
  After Phrase.object_rest x₀ ts x = Sp (deeper R) C.pattern x₀ ts x
  After (Phrase.object_rest_end r w) x₀ ts x = Sp (deeper R) C.pattern x₀ ts x
  After (Phrase.object_pattern_close r w) x₀ ts x = Sp (deeper R) C.pattern x₀ ts x
  After Phrase.pattern_field x₀ ts x = Sp R C.pattern_field x₀ ts x
  After (Phrase.pattern_into w) x₀ ts x = Sp R C.pattern_field x₀ ts x
  After (Phrase.pattern_default h w) x₀ ts x = Sp R C.pattern_field x₀ ts x
  After (Phrase.default_value h w) x₀ ts x = Sp R C.pattern_field x₀ ts x
  After (Phrase.default_end h w a) x₀ ts x = Sp R C.pattern_field x₀ ts x

  -- At its start.
  unfoldable pub Before : Phrase → Lexemes → Trees → Lexemes → Type 0
  Before (Phrase.expr m) x₀ ts x = Fresh x₀ ts x
  Before (Phrase.infix_tail m) x₀ ts x = Tail R m x₀ ts x
  Before Phrase.suffixed x₀ ts x = Fresh x₀ ts x
  Before (Phrase.suffix f) x₀ ts x = One R (C.chain f) x₀ ts x
  Before (Phrase.null_safe f) x₀ ts x = Safe R f x₀ ts x
  Before (Phrase.null_safe_index f) x₀ ts x = SafeOpen R f x₀ ts x
  Before (Phrase.bracket f) x₀ ts x = Bracketed R f x₀ ts x
  Before (Phrase.member_name f n) x₀ ts x = Dotted R f n x₀ ts x
  Before (Phrase.null_safe_end f a) x₀ ts x = SafeIndexed R f x₀ ts x
  Before (Phrase.index_or_slice f a) x₀ ts x = Indexed R f x₀ ts x
  Before (Phrase.slice_end b i j) x₀ ts x = Halved R b x₀ ts x
  Before (Phrase.slice_ended b i j a) x₀ ts x = Sliced R (b + 2) x₀ ts x
  Before (Phrase.slice_step b i j k l) x₀ ts x = Stepping R b x₀ ts x
  Before (Phrase.slice_stepped b i j k l a) x₀ ts x = Stepped R (b + 4) x₀ ts x
  Before (Phrase.arguments a u n) x₀ ts x = EachArgument R u n x₀ ts x
  Before (Phrase.argument a u n) x₀ ts x = EachArgument R u n x₀ ts x
  Before (Phrase.argument_end a u n) x₀ ts x = LastArgument R u n x₀ ts x
  Before (Phrase.call_close a u n) x₀ ts x = Arguments R u n x₀ ts x
  Before (Phrase.call_end a u n) x₀ ts x = Called R u n x₀ ts x
  Before Phrase.named_argument x₀ ts x = Fresh x₀ ts x
  Before Phrase.basic x₀ ts x = Fresh x₀ ts x
  Before Phrase.string x₀ ts x = Quoted (kind_of x) × Fresh x₀ ts x
  Before Phrase.array x₀ ts x = Opened L_BRACK x₀ ts x
  Before Phrase.array_first x₀ ts x = Behind L_BRACK (Over R 0) x₀ ts x
  Before Phrase.array_comp x₀ ts x = Comprehending R x₀ ts x
  Before Phrase.array_comp_end x₀ ts x = Comprehended R x₀ ts x
  Before Phrase.elements x₀ ts x = Behind L_BRACK (Last R (C.expr 0)) x₀ ts x
  Before Phrase.next_element x₀ ts x = Behind L_BRACK (Sp R (C.each (C.expr 0))) x₀ ts x
  Before Phrase.inside x₀ ts x = Fresh x₀ ts x
  Before Phrase.member x₀ ts x = Fresh x₀ ts x
  Before (Phrase.members c) x₀ ts x = Last R C.member x₀ ts x × LastMember R c x₀ ts x
  Before (Phrase.next_member c) x₀ ts x = Sp R (C.each C.member) x₀ ts x × EachMember R c x₀ ts x
  Before (Phrase.comprehension c) x₀ ts x = Members R c x₀ ts x
  Before (Phrase.comprehension_end m) x₀ ts x = WithClauses R m x₀ ts x
  Before Phrase.field x₀ ts x = Fresh x₀ ts x
  Before (Phrase.field_named c a) x₀ ts x = One R (C.name c) x₀ ts x
  Before (Phrase.field_value i j c p m) x₀ ts x = Headed R c p m x₀ ts x
  Before Phrase.params x₀ ts x = Sp R (C.each C.parameter) x₀ ts x
  Before Phrase.params_end x₀ ts x = Last R C.parameter x₀ ts x
  Before Phrase.param x₀ ts x = Fresh x₀ ts x
  Before Phrase.param_default x₀ ts x = Sp R C.pattern x₀ ts x
  Before Phrase.binds x₀ ts x = Behind LOCAL_KW (Sp R (C.each C.bind)) x₀ ts x
  Before Phrase.binds_end x₀ ts x = Behind LOCAL_KW (Last R C.bind) x₀ ts x
  Before Phrase.local_body x₀ ts x = Behind LOCAL_KW (Sp R (C.row C.bind)) x₀ ts x
  Before Phrase.bind x₀ ts x = Fresh x₀ ts x
  Before Phrase.bind_named x₀ ts x = Named x₀ ts x
  Before Phrase.bind_function x₀ ts x = Signed R x₀ ts x
  Before (Phrase.else_part i j) x₀ ts x = Iffed R x₀ ts x
  Before (Phrase.function_body i j) x₀ ts x = Functioned R x₀ ts x
  Before Phrase.assertion x₀ ts x = Fresh x₀ ts x
  Before Phrase.condition x₀ ts x = Opened ASSERT_KW x₀ ts x
  Before (Phrase.asserted a) x₀ ts x = Behind ASSERT_KW (Sp R (C.expr 0)) x₀ ts x
  Before Phrase.clauses x₀ ts x = Fresh x₀ ts x
  Before Phrase.more_clauses x₀ ts x = Sp R C.clauses x₀ ts x
  Before Phrase.for_clause x₀ ts x = Fresh x₀ ts x
  Before Phrase.header x₀ ts x = Fresh x₀ ts x
  Before (Phrase.if_clause i j) x₀ ts x = Fresh x₀ ts x
  Before (Phrase.iteration w) x₀ ts x = Keyed R w x₀ ts x
  Before (Phrase.iteration_value c w) x₀ ts x = Visible R c w x₀ ts x
  Before Phrase.pattern x₀ ts x = Fresh x₀ ts x
  Before Phrase.array_pattern x₀ ts x = T (has R.setting exp_destruct) × Fresh x₀ ts x
  Before Phrase.pattern_starts x₀ ts x = Starts R (Sp R (C.each C.pattern)) L_BRACK x₀ ts x
  Before Phrase.pattern_starts_end x₀ ts x = Starts R (Last R C.pattern) L_BRACK x₀ ts x
  Before (Phrase.array_rest n) x₀ ts x = (n ≡ count ts) × Dots R C.pattern L_BRACK x₀ ts x
  Before (Phrase.array_rest_end n r w) x₀ ts x = (n ≡ count ts) × Rested R C.pattern L_BRACK r w x₀ ts x
  Before (Phrase.pattern_ends n r w) x₀ ts x = Behind-rest R (Sp R (C.each C.pattern)) n r w x₀ ts x
  Before (Phrase.pattern_ends_end n r w) x₀ ts x = Behind-rest R (Last R C.pattern) n r w x₀ ts x
  Before (Phrase.array_pattern_close n r w) x₀ ts x = Closing R n r w x₀ ts x
  Before Phrase.object_pattern x₀ ts x = T (has R.setting exp_destruct) × Fresh x₀ ts x
  Before Phrase.pattern_fields x₀ ts x = Starts R (Sp R (C.each C.pattern_field)) L_BRACE x₀ ts x
  Before Phrase.pattern_fields_end x₀ ts x = Starts R (Last R C.pattern_field) L_BRACE x₀ ts x
  Before Phrase.object_rest x₀ ts x = Dots R C.pattern_field L_BRACE x₀ ts x
  Before (Phrase.object_rest_end r w) x₀ ts x = Rested R C.pattern_field L_BRACE r w x₀ ts x
  Before (Phrase.object_pattern_close r w) x₀ ts x = Shutting R r w x₀ ts x
  Before Phrase.pattern_field x₀ ts x = Fresh x₀ ts x
  Before (Phrase.pattern_into w) x₀ ts x = Entry w x₀ ts x
  Before (Phrase.pattern_default h w) x₀ ts x = Into R h w x₀ ts x
  Before (Phrase.default_value h w) x₀ ts x = Defaulting R h w x₀ ts x
  Before (Phrase.default_end h w a) x₀ ts x = Defaulted R h w x₀ ts x

-- A phrase that was read one level deeper, at its end.
pub data Within (prefix s : ℕ) (Ends : Open → ℕ → Type 0) : ℕ → Phrase → Lexemes → Trees → Lexemes → Type 0 where
  within : {d : ℕ} {q : Phrase} {x₀ x : Lexemes} {ts : Trees} → After (rules prefix s Ends d) q x₀ ts x → Within prefix s Ends (suc d) q x₀ ts x

module _ {prefix s : ℕ} {Ends : Open → ℕ → Type 0} where
  pub entered : {d m : ℕ} {x₀ x : Lexemes} {t : Trees} → Within prefix s Ends d (Phrase.expr m) x₀ t x → Over (rules prefix s Ends d) m x₀ t x
  unfolding After
  entered (within a) = a

  pub inner : {d m : ℕ} {x₀ x : Lexemes} {t : Trees} → Within prefix s Ends d (Phrase.expr m) x₀ t x → Spells prefix s Ends d (C.expr m) x₀ t x
  inner {d} a = plain (rules prefix s Ends d) (entered a)

  pub inner_array : {d : ℕ} {x₀ x : Lexemes} {t : Trees} → Within prefix s Ends d Phrase.array_pattern x₀ t x → Spells prefix s Ends d C.pattern x₀ t x
  unfolding After
  inner_array (within a) = a

  pub inner_object : {d : ℕ} {x₀ x : Lexemes} {t : Trees} → Within prefix s Ends d Phrase.object_pattern x₀ t x → Spells prefix s Ends d C.pattern x₀ t x
  unfolding After
  inner_object (within a) = a

  pub inner_header : {d : ℕ} {x₀ x : Lexemes} {t : Trees} → Within prefix s Ends d Phrase.header x₀ t x → Header x₀ t x
  unfolding After
  inner_header (within a) = a

-- ── A production keeps to it ──────────────────────────────────────────────────────────────────────

module _ (R : Rules) where
  -- From x₀ the trees ts have been read and xs are left: what b ends with is as X says.
  unfoldable pub Keeps : (Trees → Lexemes → Type 0) → Lexemes → Trees → Lexemes → Body → Type 0
  Keeps X x₀ ts xs end = X ts xs
  Keeps X x₀ ts xs (fail n x) = Unit
  Keeps X x₀ ts xs (goto q) = Before R q x₀ ts xs × ((us : Trees) (ys : Lexemes) → After R q x₀ us ys → X us ys)
  Keeps X x₀ ts xs (eat k ▸ b) = T (not (eqb k EOF)) × (xs is k then rest xs → Keeps X x₀ ts (rest xs) b)
  Keeps X x₀ ts xs (leaf t fs ▸ b) = Keeps X x₀ (ts ⊕ tree t fs none) (rest xs) b
  Keeps X x₀ ts xs (close t fs ▸ b) = Keeps X x₀ (tree t fs ts) xs b
  Keeps X x₀ ts xs (sub q ▸ b) = Before R q xs none xs × ((us : Trees) (ys : Lexemes) → After R q xs us ys → Keeps X x₀ (ts ⊕ us) ys b)
  Keeps X x₀ ts xs (deep q ▸ b) =
      ((d : ℕ) → Before (rules R.prefix R.setting R.Ends d) q xs none xs) ×
      ((us : Trees) (ys : Lexemes) → Within R.prefix R.setting R.Ends R.levels q xs us ys → Keeps X x₀ (ts ⊕ us) ys b)

  -- Each row, where its test holds and its switch is on and no row before it was taken.
  unfoldable pub KeepsAll : (Trees → Lexemes → Type 0) → Lexemes → Trees → Lexemes → Table → Type 0
  KeepsAll X x₀ ts xs (otherwise b) = Keeps X x₀ ts xs b
  KeepsAll X x₀ ts xs (row g t b ∣ rows) = (T t → T (has R.setting g) → Keeps X x₀ ts xs b) × ((T t → T (has R.setting g) → ⊥) → KeepsAll X x₀ ts xs rows)
