-- What a phrase of suffixes has read so far: index parts, slices, calls.
-- Assumes nothing.
use mathlib.Core.Path.{◌≡◌, refl, sym, ap, ◌∙◌}
use mathlib.Core.List.{[], ◌∷◌}
use Prim.Native.Nat.{ℕ, ◌+◌, ◌≤◌}
use native.Mathlib.Omega.{arith}
use lib.Dec.{T}
use Rattle.lexemes.specs.Kinds.{L_BRACK, R_BRACK, L_PAREN, R_PAREN, COLON, DOT, COMMA, QUESTION_MARK, IDENT}
use Rattle.lexemes.specs.Kinds.{TAILSTRICT_KW}
use Rattle.grammar.specs.Tags.{STRING, CALL, INDEX_PART, SLICE}
use Rattle.grammar.specs.Trees.{byte, number, span, text, Trees, none, tree, ◌⊕◌, count}
use Rattle.grammar.specs.Lexemes.{Said, said}
use Rattle.grammar.specs.Productions.{exp_null_coaelse}
use Rattle.grammar.specs.Reading.{has}
use Rattle.grammar.specs.Spells.{Lexemes, ◌is◌saying◌then◌, ◌is◌then◌, Perhaps, Spells}
use Rattle.grammar.specs.Spells.{Category as C}
use Rattle.grammar.proofs.ImageLaws.{count-row}
use Rattle.grammar.proofs.Alike.{⊕_none, ⊕_assoc}
use Rattle.grammar.proofs.SpelledStates.{Sp, retree, One, Over, Last, shut, as_row, Rules, one, over, last}

module _ (R : Rules) where
  -- Suffixes
  pub data Safe (f : ℕ) : Lexemes → Trees → Lexemes → Type 0 where
    safe : {x₀ y z x : Lexemes} {t : Trees} → T (has R.setting exp_null_coaelse) → Sp R (C.chain f) x₀ t y → y is QUESTION_MARK then z
        → z is DOT then x → Safe f x₀ t x

  pub data SafeOpen (f : ℕ) : Lexemes → Trees → Lexemes → Type 0 where
    safe_open : {x₀ y x : Lexemes} {t : Trees} → Safe f x₀ t y → y is L_BRACK then x → SafeOpen f x₀ t x

  pub data SafeIndexed (f : ℕ) : Lexemes → Trees → Lexemes → Type 0 where
    safe_indexed : {x₀ y x : Lexemes} {t i : Trees} → SafeOpen f x₀ t y → Sp R (C.expr 0) y i x → SafeIndexed f x₀ (t ⊕ i) x

  pub data Dotted (f : ℕ) : ℕ → Lexemes → Trees → Lexemes → Type 0 where
    dotted : {x₀ y x : Lexemes} {t : Trees} → Sp R (C.chain f) x₀ t y → y is DOT then x → Dotted f 0 x₀ t x
    safely : {x₀ x : Lexemes} {t : Trees} → Safe f x₀ t x → Dotted f 1 x₀ t x

  pub data Bracketed (f : ℕ) : Lexemes → Trees → Lexemes → Type 0 where
    bracketed : {x₀ y x : Lexemes} {t : Trees} → Sp R (C.chain f) x₀ t y → y is L_BRACK then x → Bracketed f x₀ t x

  pub data Indexed (f : ℕ) : Lexemes → Trees → Lexemes → Type 0 where
    indexed : {x₀ y x : Lexemes} {t i : Trees} → Bracketed f x₀ t y → Sp R (C.expr 0) y i x → Indexed f x₀ (t ⊕ i) x

  pub spells_member : {f n a e : ℕ} {v : Said} {x₀ y x : Lexemes} {t : Trees} → Dotted f n x₀ t y → y is IDENT saying v then x
      → Sp R (C.chain 0) x₀ (tree INDEX_PART (span a e ∷ byte f ∷ byte n ∷ []) (t ⊕ tree STRING (text (said v) ∷ []) none)) x
  spells_member (dotted c k) i = Spells.member_of c k i
  spells_member (safely (safe h c k l)) i = Spells.safe_member_of h c k l i

  pub spells_index : {f a e : ℕ} {x₀ y x : Lexemes} {t : Trees} → Indexed f x₀ t y → y is R_BRACK then x
      → Sp R (C.chain 0) x₀ (tree INDEX_PART (span a e ∷ byte f ∷ byte 0 ∷ []) t) x
  spells_index (indexed (bracketed c k) e) j = Spells.index_of c k e j

  pub spells_safe_index : {f a e : ℕ} {x₀ y x : Lexemes} {t : Trees} → SafeIndexed f x₀ t y → y is R_BRACK then x
      → Sp R (C.chain 0) x₀ (tree INDEX_PART (span a e ∷ byte f ∷ byte 1 ∷ []) t) x
  spells_safe_index (safe_indexed (safe_open (safe h c k l) b) e) j = Spells.safe_index_of h c k l b e j

  -- Slices: up to the first `:` included; up to the end; all
  pub data Halved (b : ℕ) : Lexemes → Trees → Lexemes → Type 0 where
    halved : {f : ℕ} {x₀ x₁ x₂ x₃ x : Lexemes} {ts t t₁ : Trees} → Sp R (C.chain f) x₀ t x₁ → x₁ is L_BRACK then x₂ → Sp R (C.part 1 b) x₂ t₁ x₃
        → x₃ is COLON then x
        → ts ≡ t ⊕ t₁ → Halved b x₀ ts x

  pub data Sliced (b : ℕ) : Lexemes → Trees → Lexemes → Type 0 where
    sliced : {b₁ b₂ : ℕ} {x₀ y x : Lexemes} {ts us t₂ : Trees} → Halved b₁ x₀ us y → Sp R (C.part 2 b₂) y t₂ x → b ≡ b₁ + b₂ → ts ≡ us ⊕ t₂
        → Sliced b x₀ ts x

  pub data Stepped (b : ℕ) : Lexemes → Trees → Lexemes → Type 0 where
    stepped : {b₁ b₂ : ℕ} {x₀ y x : Lexemes} {ts us t₃ : Trees} → Sliced b₁ x₀ us y → Sp R (C.step b₂) y t₃ x → b ≡ b₁ + b₂ → ts ≡ us ⊕ t₃
        → Stepped b x₀ ts x

  pub data Stepping (b : ℕ) : Lexemes → Trees → Lexemes → Type 0 where
    stepping : {x₀ y x : Lexemes} {ts : Trees} → Sliced b x₀ ts y → y is COLON then x → Stepping b x₀ ts x

  pub from_start : {f : ℕ} {x₀ y x : Lexemes} {t : Trees} → Bracketed f x₀ t y → y is COLON then x → Halved 0 x₀ t x
  from_start {t = t} (bracketed c k) j = halved c k Spells.part_not j (sym (⊕_none t))

  pub from_index : {f : ℕ} {x₀ y x : Lexemes} {t : Trees} → Indexed f x₀ t y → y is COLON then x → Halved 1 x₀ t x
  from_index (indexed (bracketed c k) e) j = halved c k (Spells.part_so e) j refl

  pub without_end : {b : ℕ} {x₀ x : Lexemes} {t : Trees} → Halved b x₀ t x → Sliced b x₀ t x
  without_end {b} {t = t} h = sliced h Spells.part_not (omega arith) (sym (⊕_none t))

  pub with_end : {b : ℕ} {x₀ y x : Lexemes} {t u : Trees} → Halved b x₀ t y → Sp R (C.expr 0) y u x → Sliced (b + 2) x₀ (t ⊕ u) x
  with_end h e = sliced h (Spells.part_so e) refl refl

  pub without_step : {b : ℕ} {x₀ x : Lexemes} {t : Trees} → Sliced b x₀ t x → Stepped b x₀ t x
  without_step {b} {t = t} h = stepped h Spells.step_not (omega arith) (sym (⊕_none t))

  pub with_no_step : {b : ℕ} {x₀ x : Lexemes} {t : Trees} → Stepping b x₀ t x → Stepped b x₀ t x
  with_no_step {b} {t = t} (stepping h k) = stepped h (Spells.step_so k Spells.part_not) (omega arith) (sym (⊕_none t))

  pub with_step : {b : ℕ} {x₀ y x : Lexemes} {t u : Trees} → Stepping b x₀ t y → Sp R (C.expr 0) y u x → Stepped (b + 4) x₀ (t ⊕ u) x
  with_step (stepping h k) e = stepped h (Spells.step_so k (Spells.part_so e)) refl refl

  pub spells_slice : {b i₁ j₁ i₂ j₂ i₃ j₃ : ℕ} {x₀ y x : Lexemes} {ts : Trees} → Stepped b x₀ ts y → y is R_BRACK then x
      → Sp R (C.chain 1) x₀ (tree SLICE (byte b ∷ span i₁ j₁ ∷ span i₂ j₂ ∷ span i₃ j₃ ∷ []) ts) x
  spells_slice {b} {i₁} {j₁} {i₂} {j₂} {i₃} {j₃} {x₀} {y} {x} {ts} (stepped {b₂ = b₃} {t₃ = t₃}
      (sliced {t₂ = t₂} (halved c k p₁ j q₁) p₂ e₂ q₂) p₃ e₃ q₃) l =
      retree R (ap (λ (n : ℕ). byte n ∷ span i₁ j₁ ∷ span i₂ j₂ ∷ span i₃ j₃ ∷ []) (sym (e₃ ∙ ap (λ (n : ℕ). n + b₃) e₂)))
      (sym (q₃ ∙ ap (λ (us : Trees). us ⊕ t₃) (q₂ ∙ ap (λ (us : Trees). us ⊕ t₂) q₁)))
      (Spells.slice_of {i₁ = i₁} {i₂ = i₂} {i₃ = i₃} {j₁ = j₁} {j₂ = j₂} {j₃ = j₃} c k p₁ j p₂ p₃ l)

  -- Calls: arguments, a comma behind each; with one last; all of them; and then `)`
  pub data EachArgument : ℕ → ℕ → Lexemes → Trees → Lexemes → Type 0 where
    each_plain : {f u : ℕ} {x₀ y z x : Lexemes} {ts t us : Trees} → Sp R (C.chain f) x₀ t y → y is L_PAREN then z → Sp R (C.each (C.expr 0)) z us x
        → count us ≡ u → ts ≡ t ⊕ us
        → EachArgument u 0 x₀ ts x
    each_named : {f u n : ℕ} {x₀ y z w x : Lexemes} {ts t us ns : Trees} → Sp R (C.chain f) x₀ t y → y is L_PAREN then z
        → Sp R (C.each (C.expr 0)) z us w → Sp R (C.each C.named_argument) w ns x
        → count us ≡ u → count ns ≡ n → 1 ≤ n → ts ≡ t ⊕ us ⊕ ns → EachArgument u n x₀ ts x

  pub data LastArgument : ℕ → ℕ → Lexemes → Trees → Lexemes → Type 0 where
    last_plain : {f u : ℕ} {x₀ y z x : Lexemes} {ts t us : Trees} → Sp R (C.chain f) x₀ t y → y is L_PAREN then z → Last R (C.expr 0) z us x
        → count us ≡ u → ts ≡ t ⊕ us
        → LastArgument u 0 x₀ ts x
    last_named : {f u n : ℕ} {x₀ y z w x : Lexemes} {ts t us ns : Trees} → Sp R (C.chain f) x₀ t y → y is L_PAREN then z
        → Sp R (C.each (C.expr 0)) z us w → Last R C.named_argument w ns x
        → count us ≡ u → count ns ≡ n → 1 ≤ n → ts ≡ t ⊕ us ⊕ ns → LastArgument u n x₀ ts x

  pub data Arguments : ℕ → ℕ → Lexemes → Trees → Lexemes → Type 0 where
    args_plain : {f u : ℕ} {x₀ y z x : Lexemes} {ts t us : Trees} → Sp R (C.chain f) x₀ t y → y is L_PAREN then z → Sp R (C.row (C.expr 0)) z us x
        → count us ≡ u → ts ≡ t ⊕ us
        → Arguments u 0 x₀ ts x
    args_named : {f u n : ℕ} {x₀ y z w x : Lexemes} {ts t us ns : Trees} → Sp R (C.chain f) x₀ t y → y is L_PAREN then z
        → Sp R (C.each (C.expr 0)) z us w → Sp R (C.row C.named_argument) w ns x
        → count us ≡ u → count ns ≡ n → ts ≡ t ⊕ us ⊕ ns → Arguments u n x₀ ts x

  pub data Called (u n : ℕ) : Lexemes → Trees → Lexemes → Type 0 where
    called : {x₀ y x : Lexemes} {ts : Trees} → Arguments u n x₀ ts y → y is R_PAREN then x → Called u n x₀ ts x

  pub each_arguments : {u n : ℕ} {x₀ x : Lexemes} {ts : Trees} → EachArgument u n x₀ ts x → Arguments u n x₀ ts x
  each_arguments (each_plain c k e q r) = args_plain c k (Spells.row_shut e) q r
  each_arguments (each_named c k e g q q' o r) = args_named c k e (Spells.row_shut g) q q' r

  pub last_arguments : {u n : ℕ} {x₀ x : Lexemes} {ts : Trees} → LastArgument u n x₀ ts x → Arguments u n x₀ ts x
  last_arguments (last_plain c k e q r) = args_plain c k (as_row R e) q r
  last_arguments (last_named c k e g q q' o r) = args_named c k e (as_row R g) q q' r

  pub comma_behind : {u n : ℕ} {x₀ y x : Lexemes} {ts : Trees} → LastArgument u n x₀ ts y → y is COMMA then x → EachArgument u n x₀ ts x
  comma_behind (last_plain c k e q r) j = each_plain c k (shut R e j) q r
  comma_behind (last_named c k e g q q' o r) j = each_named c k e (shut R g j) q q' o r

  pub no_arguments : {f : ℕ} {x₀ y x : Lexemes} {t : Trees} → Sp R (C.chain f) x₀ t y → y is L_PAREN then x → EachArgument 0 0 x₀ t x
  unfolding count
  no_arguments {t = t} c k = each_plain c k Spells.each_none refl (sym (⊕_none t))

  pub positional : {u n : ℕ} {x₀ y x : Lexemes} {ts t : Trees} → n ≡ 0 → EachArgument u n x₀ ts y → Over R 0 y t x → LastArgument (u + 1) n x₀ (ts ⊕ t) x
  positional {u = u} {t = t} z (each_plain {t = t₀} {us = us} c k e q r) (over g o w) =
      last_plain {u = u + 1} c k (last e g) (omega (arith, count-row us t)) (ap (λ (ws : Trees). ws ⊕ t) r ∙ ⊕_assoc t₀ us t)
  positional z (each_named c k e g q q' o r) x = absurd (omega arith)

  pub by_name : {u n : ℕ} {x₀ y x : Lexemes} {ts t : Trees} → EachArgument u n x₀ ts y → One R C.named_argument y t x → LastArgument u (n + 1) x₀ (ts ⊕ t) x
  unfolding ◌⊕◌
  by_name {n = n} {t = t} (each_plain c k e q r) (one g o) =
      last_named {n = n + 1} c k e (last Spells.each_none g) q (omega arith) (omega arith) (ap (λ (ws : Trees). ws ⊕ t) r)
  by_name {n = n} {t = t} (each_named {t = t₀} {us = us} {ns = ns} c k e h q q' i r) (one g o) =
      last_named {n = n + 1} c k e (last h g) q (omega (arith, count-row ns t)) (omega arith) (ap (λ (ws : Trees). ws ⊕ t) r ∙ ⊕_assoc (t₀ ⊕ us) ns t)

  pub spells_call : {u n b a e : ℕ} {x₀ y x : Lexemes} {ts : Trees} → Called u n x₀ ts y → Perhaps R.Ends TAILSTRICT_KW b y x
      → Sp R (C.chain 1) x₀ (tree CALL (span a e ∷ byte b ∷ number u ∷ number n ∷ []) ts) x
  spells_call {u} {n} {b} {a} {e} (called (args_plain c k r q w) j) l =
      retree R (ap (λ (m : ℕ). span a e ∷ byte b ∷ number m ∷ number 0 ∷ []) q) (sym w) (Spells.called {a = a} {e = e} c k r j l)
  spells_call {u} {n} {b} {a} {e} (called (args_named {ns = ns} c k r h q q' w) j) l =
      retree R (ap (λ (m : ℕ). span a e ∷ byte b ∷ number m ∷ number (count ns) ∷ []) q ∙ ap (λ (m : ℕ). span a e ∷ byte b ∷ number u ∷ number m ∷ []) q') (sym w)
      (Spells.called_by_name {a = a} {e = e} c k r h j l)
