-- What a phrase of patterns has read so far.
-- Assumes nothing.
use mathlib.Core.Path.{◌≡◌, refl, sym, ap, ◌∙◌}
use mathlib.Core.List.{List, [], ◌∷◌}
use Prim.Native.Nat.{ℕ, suc, ◌-◌}
use native.Mathlib.Omega.{arith}
use lib.Dec.{T}
use Rattle.lexemes.specs.Kinds.{L_BRACK, R_BRACK, L_BRACE, R_BRACE, COLON, DOTDOTDOT, COMMA, ASSIGN, IDENT}
use Rattle.grammar.specs.Tags.{ARRAY_PATTERN, OBJECT_PATTERN, PATTERN_FIELD}
use Rattle.grammar.specs.Trees.{byte, number, span, text, Trees, none, tree, ◌⊕◌, count}
use Rattle.grammar.specs.Lexemes.{Said, said, kind_of}
use Rattle.grammar.specs.Productions.{exp_destruct}
use Rattle.grammar.specs.Reading.{has}
use Rattle.grammar.specs.Spells.{Lexemes, ◌is◌saying◌then◌, ◌is◌then◌, Perhaps, Rest, Open, Spells}
use Rattle.grammar.specs.Spells.{Category as C}
use Rattle.grammar.proofs.ImageLaws.{count-row}
use Rattle.grammar.proofs.Alike.{⊕_none, ⊕_assoc}
use Rattle.grammar.proofs.SpelledStates.{Sp, retree, Last, shut, as_row, Rules, rules, last}

-- One level more.
abbrev pub deeper : Rules → Rules
deeper R = rules R.prefix R.setting R.Ends (suc R.levels)

-- The name of a field.
pub data Entry (w : List ℕ) : Lexemes → Trees → Lexemes → Type 0 where
  entry : {v : Said} {x₀ x : Lexemes} → x₀ is IDENT saying v then x → said v ≡ w → Entry w x₀ none x

module _ (R : Rules) where
  -- Patterns: an array pattern up to its rest; with the rest; with patterns behind that
  pub data Starts (P : Lexemes → Trees → Lexemes → Type 0) (k : ℕ) : Lexemes → Trees → Lexemes → Type 0 where
    starts : {x₀ y x : Lexemes} {ts : Trees} → T (has R.setting exp_destruct) → x₀ is k then y → P y ts x → Starts P k x₀ ts x

  pub data Dots (c : C) (k : ℕ) : Lexemes → Trees → Lexemes → Type 0 where
    dots : {x₀ y z x : Lexemes} {ts : Trees} → T (has R.setting exp_destruct) → x₀ is k then y → Sp R (C.each c) y ts z → z is DOTDOTDOT then x → Dots c k x₀ ts x

  pub data Rested (c : C) (k r : ℕ) (w : List ℕ) : Lexemes → Trees → Lexemes → Type 0 where
    rested : {x₀ y z x : Lexemes} {ts : Trees} → T (has R.setting exp_destruct) → x₀ is k then y → Sp R (C.each c) y ts z → Rest R.Ends r w z x
        → Rested c k r w x₀ ts x

  pub drops : {c : C} {k : ℕ} {x₀ x : Lexemes} {ts : Trees} → Dots c k x₀ ts x → R.Ends (Open.optional IDENT) (kind_of x) → Rested c k 1 [] x₀ ts x
  drops (dots h k e d) n = rested h k e (Rest.dropped d n)

  pub keeps_name : {c : C} {k : ℕ} {v : Said} {x₀ y x : Lexemes} {ts : Trees} → Dots c k x₀ ts y → y is IDENT saying v then x → Rested c k 2 (said v) x₀ ts x
  keeps_name (dots h k e d) i = rested h k e (Rest.kept d i)

  -- A rest, a comma, and what P says.
  pub data Behind-rest (P : Lexemes → Trees → Lexemes → Type 0) (n r : ℕ) (w : List ℕ) : Lexemes → Trees → Lexemes → Type 0 where
    behind-rest : {x₀ y z x : Lexemes} {ts ps qs : Trees} → Rested C.pattern L_BRACK r w x₀ ps y → y is COMMA then z → P z qs x → n ≡ count ps
        → ts ≡ ps ⊕ qs → Behind-rest P n r w x₀ ts x

  pub data Closing : ℕ → ℕ → List ℕ → Lexemes → Trees → Lexemes → Type 0 where
    whole : {n : ℕ} {x₀ y x : Lexemes} {ts : Trees} → T (has R.setting exp_destruct) → x₀ is L_BRACK then y → Sp R (C.row C.pattern) y ts x
        → n ≡ count ts → Closing n 0 [] x₀ ts x
    rest_of : {n r : ℕ} {w : List ℕ} {x₀ y x : Lexemes} {ts ps qs : Trees} → Rested C.pattern L_BRACK r w x₀ ps y → Sp R (C.more C.pattern) y qs x
        → n ≡ count ps → ts ≡ ps ⊕ qs
        → Closing n r w x₀ ts x

  pub spells_array_pattern : {n r : ℕ} {w : List ℕ} {x₀ y x : Lexemes} {ts : Trees} → Closing n r w x₀ ts y → y is R_BRACK then x
      → Sp (deeper R) C.pattern x₀ (tree ARRAY_PATTERN (number n ∷ byte r ∷ number (count ts - n) ∷ text w ∷ []) ts) x
  spells_array_pattern {n} {ts = ts} (whole h k e q) j =
      retree (deeper R) (ap (λ (m : ℕ). number m ∷ byte 0 ∷ number 0 ∷ text [] ∷ []) (sym q) ∙ ap
      (λ (m : ℕ). number n ∷ byte 0 ∷ number m ∷ text [] ∷ []) nought) refl (Spells.array_pattern h k e j)
    where
      nought : 0 ≡ count ts - n
      nought = omega arith
  spells_array_pattern {n} {r} {w} {ts = ts} (rest_of {ps = ps} {qs} (rested h k e d) m q t) j =
      retree (deeper R) (ap (λ (i : ℕ). number i ∷ byte r ∷ number (count qs) ∷ text w ∷ []) (sym q) ∙ ap
      (λ (i : ℕ). number n ∷ byte r ∷ number i ∷ text w ∷ []) left) (sym t)
      (Spells.array_pattern_rest h k e d m j)
    where
      left : count qs ≡ count ts - n
      left = omega (arith, ap count t, count-row ps qs)

  pub no_ends : {n r : ℕ} {w : List ℕ} {x₀ x : Lexemes} {ts : Trees} → n ≡ count ts → Rested C.pattern L_BRACK r w x₀ ts x → Closing n r w x₀ ts x
  no_ends {ts = ts} q h = rest_of h Spells.more_none q (sym (⊕_none ts))

  some_ends : {n r : ℕ} {w : List ℕ} {x₀ x : Lexemes} {ts : Trees} → Behind-rest (Sp R (C.row C.pattern)) n r w x₀ ts x → Closing n r w x₀ ts x
  some_ends (behind-rest h k e q t) = rest_of h (Spells.more_row k e) q t

  pub shut_ends : {n r : ℕ} {w : List ℕ} {x₀ x : Lexemes} {ts : Trees} → Behind-rest (Sp R (C.each C.pattern)) n r w x₀ ts x → Closing n r w x₀ ts x
  shut_ends (behind-rest h k e q t) = rest_of h (Spells.more_row k (Spells.row_shut e)) q t

  pub open_ends : {n r : ℕ} {w : List ℕ} {x₀ x : Lexemes} {ts : Trees} → Behind-rest (Last R C.pattern) n r w x₀ ts x → Closing n r w x₀ ts x
  open_ends (behind-rest h k e q t) = rest_of h (Spells.more_row k (as_row R e)) q t

  pub comma_ends : {n r : ℕ} {w : List ℕ} {x₀ y x : Lexemes} {ts : Trees} → Behind-rest (Last R C.pattern) n r w x₀ ts y → y is COMMA then x
      → Behind-rest (Sp R (C.each C.pattern)) n r w x₀ ts x
  comma_ends (behind-rest h k e q t) j = behind-rest h k (shut R e j) q t

  pub add_end : {n r : ℕ} {w : List ℕ} {x₀ y x : Lexemes} {ts t : Trees} → Behind-rest (Sp R (C.each C.pattern)) n r w x₀ ts y → Sp R C.pattern y t x
      → Behind-rest (Last R C.pattern) n r w x₀ (ts ⊕ t) x
  add_end {t = t} (behind-rest {ps = ps} {qs} h k e q r) p = behind-rest h k (last e p) q (ap (λ (ws : Trees). ws ⊕ t) r ∙ ⊕_assoc ps qs t)

  pub first_ends : {n r : ℕ} {w : List ℕ} {x₀ y x : Lexemes} {ts : Trees} → n ≡ count ts → Rested C.pattern L_BRACK r w x₀ ts y → y is COMMA then x
      → Behind-rest (Sp R (C.each C.pattern)) n r w x₀ ts x
  first_ends {ts = ts} q h k = behind-rest h k Spells.each_none q (sym (⊕_none ts))

  -- An object pattern, but for `}`
  pub data Shutting : ℕ → List ℕ → Lexemes → Trees → Lexemes → Type 0 where
    all_fields : {x₀ y x : Lexemes} {ts : Trees} → T (has R.setting exp_destruct) → x₀ is L_BRACE then y → Sp R (C.row C.pattern_field) y ts x
        → Shutting 0 [] x₀ ts x
    and_rest : {r b : ℕ} {w : List ℕ} {x₀ y x : Lexemes} {ts : Trees} → Rested C.pattern_field L_BRACE r w x₀ ts y → Perhaps R.Ends COMMA b y x
        → Shutting r w x₀ ts x

  pub spells_object_pattern : {r : ℕ} {w : List ℕ} {x₀ y x : Lexemes} {ts : Trees} → Shutting r w x₀ ts y → y is R_BRACE then x
      → Sp (deeper R) C.pattern x₀ (tree OBJECT_PATTERN (number (count ts) ∷ byte r ∷ text w ∷ []) ts) x
  spells_object_pattern (all_fields h k e) j = Spells.object_pattern h k e j
  spells_object_pattern (and_rest (rested h k e d) c) j = Spells.object_pattern_rest h k e d c j

  -- Its fields: the name; and `:` with a pattern; and `=` with a default
  pub data Into (h : ℕ) (w : List ℕ) : Lexemes → Trees → Lexemes → Type 0 where
    into : {x₀ y x : Lexemes} {ts t : Trees} → Entry w x₀ ts y → Sp R (C.perhaps COLON C.pattern h) y t x → Into h w x₀ t x

  pub data Defaulting (h : ℕ) (w : List ℕ) : Lexemes → Trees → Lexemes → Type 0 where
    defaulting : {x₀ y x : Lexemes} {ts : Trees} → Into h w x₀ ts y → y is ASSIGN then x → Defaulting h w x₀ ts x

  pub data Defaulted (h : ℕ) (w : List ℕ) : Lexemes → Trees → Lexemes → Type 0 where
    defaulted : {x₀ y x : Lexemes} {ts t : Trees} → Defaulting h w x₀ ts y → Sp R (C.expr 0) y t x → Defaulted h w x₀ (ts ⊕ t) x

  pub spells_pattern_field : {h d a e : ℕ} {w : List ℕ} {x₀ y x : Lexemes} {p t : Trees} → Into h w x₀ p y → Sp R (C.perhaps ASSIGN (C.expr 0) d) y t x
      → Sp R C.pattern_field x₀ (tree PATTERN_FIELD (byte h ∷ byte d ∷ span a e ∷ text w ∷ []) (p ⊕ t)) x
  spells_pattern_field {h} {d} {a} {e} (into (entry i q) p) t =
      retree R (ap (λ (w : List ℕ). byte h ∷ byte d ∷ span a e ∷ text w ∷ []) q) refl (Spells.a_pattern_field {a = a} {e = e} i p t)
