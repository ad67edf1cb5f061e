-- What a phrase of arrays, objects, fields, binds or clauses has read so far.
-- Assumes nothing.
use mathlib.Core.Path.{◌≡◌, refl, sym, ap, subst, ◌∙◌}
use mathlib.Core.Bool.{Bool, true, false, ◌&&◌, ◌||◌, not}
use mathlib.Core.List.{List, [], ◌∷◌}
use Prim.Native.Nat.{ℕ, suc, ◌-◌}
use native.Mathlib.Omega.{arith}
use lib.Dec.{T, T_not, eqb, eqb→eq}
use Rattle.lexemes.specs.Kinds.{PLUS, L_BRACK, R_BRACK, L_PAREN, R_PAREN, L_BRACE, R_BRACE, COMMA, ASSIGN, FLOAT, IDENT}
use Rattle.lexemes.specs.Kinds.{LOCAL_KW, IF_KW, THEN_KW, FUNCTION_KW, IN_KW, ASSERT_KW}
use Rattle.grammar.specs.Tags.{NUMBER, STRING, ARRAY_COMP, OBJECT_COMP, EXTENSION, BIND, NAME_PATTERN, FIELD, IF_CLAUSE, OBJECT_ITERATION}
use Rattle.grammar.specs.Trees.{byte, number, span, text, Trees, none, node, tree, ◌⊕◌, count}
use Rattle.grammar.specs.Lexemes.{Said, says, spoiled, nothing, good, said, rest, kind_of, word_of}
use Rattle.grammar.specs.Productions.{exp_object_iteration, with_field, with_assert, with_member}
use Rattle.grammar.specs.Reading.{has}
use Rattle.grammar.specs.Spells.{Lexemes, ◌is◌saying◌then◌, ◌is◌then◌, Perhaps, Colons, Quoted, Open, Spells}
use Rattle.grammar.specs.Spells.{Category as C}
use Rattle.grammar.proofs.ImageLaws.{count-row}
use Rattle.grammar.proofs.Alike.{⊕_none, ⊕_assoc}
use Rattle.grammar.proofs.LexemeForms.{Not, told, seen, quoted_is, field_fault}
use Rattle.grammar.proofs.Chosen.{and_left, and_right}
use Rattle.grammar.proofs.SpelledStates.{Sp, retree, One, Over, plain, just, Last, shut, as_row, Rules, one, last}

one_less : (t cs : Trees) → count t ≡ 1 → count cs ≡ count (t ⊕ cs) - 1
one_less t cs e = omega (arith, count-row t cs)

faulty_kind : (c : ℕ) → T (eqb c 2 || eqb c 3) → T (not (eqb c 0))
faulty_kind c h = by c (eqb c 0) refl h
  where
    by : (c : ℕ) (b : Bool) → eqb c 0 ≡ b → T (eqb c 2 || eqb c 3) → T (not b)
    by c true e h = subst (λ (m : ℕ). T (eqb m 2 || eqb m 3)) (eqb→eq c 0 (subst T (sym e) tt)) h
    by c false e h = tt

-- A name; the header of an object iteration.
pub data Named : Lexemes → Trees → Lexemes → Type 0 where
  a_name : {a e : ℕ} {v : Said} {x₀ x : Lexemes} → x₀ is IDENT saying v then x → Named x₀ (tree NAME_PATTERN (span a e ∷ text (said v) ∷ []) none) x

pub data Header : Lexemes → Trees → Lexemes → Type 0 where
  header : {v : Said} {x₀ y z x : Lexemes} → x₀ is L_BRACK then y → y is IDENT saying v then z → z is R_BRACK then x → Header x₀ none x

-- An expression has a level, so the header before it had one.
iterates : {prefix s d : ℕ} {Ends : Open → ℕ → Type 0} {c : ℕ} {v : Said} {xs x₁ x₂ x₃ x₄ x₅ x₆ x₇ : Lexemes} {p t : Trees} → T (has s exp_object_iteration)
    → xs is L_BRACK then x₁ → x₁ is IDENT saying v then x₂ → x₂ is R_BRACK then x₃ → Colons Ends c x₃ x₄
    → Spells prefix s Ends d C.pattern x₄ p x₅ → x₅ is IN_KW then x₆ → Spells prefix s Ends d (C.expr 0) x₆ t x₇
    → Spells prefix s Ends d C.iteration xs (tree OBJECT_ITERATION (byte c ∷ text (said v) ∷ []) (p ⊕ t)) x₇
iterates h k i j c p n (Spells.whole e g) = Spells.each_field_of h k i j c p n (Spells.whole e g)

module _ (R : Rules) where
  -- Arrays: `[` and an expression; perhaps a comma; clauses
  pub data Comprehending : Lexemes → Trees → Lexemes → Type 0 where
    comprehending : {b : ℕ} {x₀ y z x : Lexemes} {t : Trees} → x₀ is L_BRACK then y → Over R 0 y t z → Perhaps R.Ends COMMA b z x → Comprehending x₀ t x

  pub data Comprehended : Lexemes → Trees → Lexemes → Type 0 where
    comprehended : {x₀ y x : Lexemes} {t cs : Trees} → Comprehending x₀ t y → Sp R C.clauses y cs x → Comprehended x₀ (t ⊕ cs) x

  pub spells_array_comprehension : {x₀ y x : Lexemes} {ts : Trees} → Comprehended x₀ ts y → y is R_BRACK then x
      → Sp R C.basic x₀ (tree ARRAY_COMP (number (count ts - 1) ∷ []) ts) x
  spells_array_comprehension (comprehended {t = t} {cs} (comprehending k e p) c) j =
      retree R (ap (λ (m : ℕ). number m ∷ []) (one_less t cs (just R e))) refl (Spells.array_comprehension k (plain R e) p c j)

  -- Members of an object: a comma behind each; with one last. By the fault that a comprehension of them would have
  pub data EachMember : ℕ → Lexemes → Trees → Lexemes → Type 0 where
    each_local : {x₀ x : Lexemes} {ts : Trees} → Sp R (C.each C.local) x₀ ts x → EachMember 4 x₀ ts x
    each_field : {x₀ y z w x : Lexemes} {ts ls f ms : Trees} → Sp R (C.each C.local) x₀ ls y → Sp R C.field y f z → z is COMMA then w
        → Sp R (C.each C.local) w ms x → ts ≡ ls ⊕ f ⊕ ms
        → EachMember 0 x₀ ts x
    each_other : {c : ℕ} {x₀ x : Lexemes} {ts : Trees} → T (eqb c 2 || eqb c 3) → EachMember c x₀ ts x

  pub data LastMember : ℕ → Lexemes → Trees → Lexemes → Type 0 where
    last_local : {x₀ x : Lexemes} {ts : Trees} → Last R C.local x₀ ts x → LastMember 4 x₀ ts x
    last_field : {x₀ y x : Lexemes} {ls f : Trees} → Sp R (C.each C.local) x₀ ls y → Sp R C.field y f x → LastMember 0 x₀ (ls ⊕ f) x
    local_after : {x₀ y z w x : Lexemes} {ts ls f ms : Trees} → Sp R (C.each C.local) x₀ ls y → Sp R C.field y f z → z is COMMA then w
        → Last R C.local w ms x → ts ≡ ls ⊕ f ⊕ ms
        → LastMember 0 x₀ ts x
    last_other : {c : ℕ} {x₀ x : Lexemes} {ts : Trees} → T (eqb c 2 || eqb c 3) → LastMember c x₀ ts x

  -- All of them, of a comprehension that has no fault.
  pub data Members (c : ℕ) : Lexemes → Trees → Lexemes → Type 0 where
    members : {x₀ y z x : Lexemes} {ts ls f ms : Trees} → Sp R (C.each C.local) x₀ ls y → Sp R C.field y f z → Sp R (C.more C.local) z ms x
        → ts ≡ ls ⊕ f ⊕ ms → Members c x₀ ts x
    faulty : {x₀ x : Lexemes} {ts : Trees} → T (not (eqb c 0)) → Members c x₀ ts x

  pub each_members : {c : ℕ} {x₀ x : Lexemes} {ts : Trees} → EachMember c x₀ ts x → Members c x₀ ts x
  each_members (each_local l) = faulty tt
  each_members (each_field l f k m e) = members l f (Spells.more_row k (Spells.row_shut m)) e
  each_members {c} (each_other h) = faulty (faulty_kind c h)

  pub last_members : {c : ℕ} {x₀ x : Lexemes} {ts : Trees} → LastMember c x₀ ts x → Members c x₀ ts x
  last_members (last_local l) = faulty tt
  last_members (last_field {ls = ls} {f = f} l d) = members l d Spells.more_none (sym (⊕_none (ls ⊕ f)))
  last_members (local_after l f k m e) = members l f (Spells.more_row k (as_row R m)) e
  last_members {c} (last_other h) = faulty (faulty_kind c h)

  pub member_comma : {c : ℕ} {x₀ y x : Lexemes} {ts : Trees} → LastMember c x₀ ts y → y is COMMA then x → EachMember c x₀ ts x
  member_comma (last_local l) k = each_local (shut R l k)
  member_comma (last_field {ls = ls} {f = f} l d) k = each_field l d k Spells.each_none (sym (⊕_none (ls ⊕ f)))
  member_comma (local_after l f j m e) k = each_field l f j (shut R m k) e
  member_comma (last_other h) k = each_other h

  pub add_local : {c : ℕ} {x₀ y x : Lexemes} {ts t : Trees} → EachMember c x₀ ts y → Sp R C.local y t x → LastMember c x₀ (ts ⊕ t) x
  add_local (each_local l) t = last_local (last l t)
  add_local {t = t} (each_field {ls = ls} {f = f} {ms = ms} l d k m e) u = local_after l d k (last m u) (ap (λ (ws : Trees). ws ⊕ t) e ∙ ⊕_assoc (ls ⊕ f) ms t)
  add_local (each_other h) t = last_other h

  pub add_assert : {c : ℕ} {x₀ y x : Lexemes} {ts t : Trees} → EachMember c x₀ ts y → Sp R C.assertion y t x → LastMember (with_assert c) x₀ (ts ⊕ t) x
  unfolding with_assert
  add_assert (each_local l) t = last_other tt
  add_assert (each_field l d k m e) t = last_other tt
  add_assert {c} (each_other h) t = last_other (by (eqb c 2))
    where
      by : (b : Bool) → T (eqb (elim b [ true ↦ 2 | false ↦ 3 ]) 2 || eqb (elim b [ true ↦ 2 | false ↦ 3 ]) 3)
      by true = tt
      by false = tt

  pub add_field : {c : ℕ} {x₀ y x : Lexemes} {ts t : Trees} → EachMember c x₀ ts y → Sp R C.field y t x → LastMember (with_field c) x₀ (ts ⊕ t) x
  unfolding with_field
  add_field (each_local l) t = last_field l t
  add_field (each_field l d k m e) t = last_other tt
  add_field {c} (each_other h) t = last_other (by (eqb c 4) (eqb c 0) refl refl)
    where
      by : (a b : Bool) → eqb c 4 ≡ a → eqb c 0 ≡ b
          → T (eqb (elim a [ true ↦ 0 | false ↦ elim b [ true ↦ 2 | false ↦ c ] ]) 2 || eqb (elim a [ true ↦ 0 | false ↦ elim b [ true ↦ 2 | false ↦ c ] ]) 3)
      by true b e e' = absurd (subst (λ (m : ℕ). T (eqb m 2 || eqb m 3)) (eqb→eq c 4 (subst T (sym e) tt)) h)
      by false true e e' = tt
      by false false e e' = h

  -- A member by itself, and what it is to those before it.
  pub record AMember (x₀ : Lexemes) (t : Trees) (x : Lexemes) : Type 0 where
    pub spelled : Sp R C.member x₀ t x
    pub adds : (c : ℕ) (y₀ : Lexemes) (ts : Trees) → EachMember c y₀ ts x₀ → LastMember (with_member c (kind_of x₀)) y₀ (ts ⊕ t) x

  pub a_local_member : {x₀ x : Lexemes} {t : Trees} → T (eqb (kind_of x₀) LOCAL_KW) → Sp R C.local x₀ t x → AMember x₀ t x
  unfolding with_member
  a_local_member {x₀} {x} {t} h l =
      record {
        spelled = Spells.local_member l;
        adds = λ c y₀ ts m. subst (λ (k : ℕ). LastMember (with_member c k) y₀ (ts ⊕ t) x) (sym (eqb→eq (kind_of x₀) LOCAL_KW h)) (add_local m l);
      }

  pub an_assert_member : {x₀ x : Lexemes} {t : Trees} → T (eqb (kind_of x₀) ASSERT_KW) → Sp R C.assertion x₀ t x → AMember x₀ t x
  unfolding with_member
  an_assert_member {x₀} {x} {t} h a =
      record {
        spelled = Spells.assert_member a;
        adds = λ c y₀ ts m. subst (λ (k : ℕ). LastMember (with_member c k) y₀ (ts ⊕ t) x) (sym (eqb→eq (kind_of x₀) ASSERT_KW h)) (add_assert m a);
      }

  pub a_field_member : {x₀ x : Lexemes} {t : Trees} → Not (kind_of x₀) LOCAL_KW → Not (kind_of x₀) ASSERT_KW → Sp R C.field x₀ t x → AMember x₀ t x
  a_field_member {x₀} {x} {t} n n' f =
      record {
        spelled = Spells.field_member f;
        adds = λ c y₀ ts m. subst (λ (i : ℕ). LastMember i y₀ (ts ⊕ t) x) (sym (field_fault c (kind_of x₀) n n')) (add_field m f);
      }

  -- And the clauses.
  pub data WithClauses (m : ℕ) : Lexemes → Trees → Lexemes → Type 0 where
    with_clauses : {x₀ y z w x : Lexemes} {ts ls f ms cs : Trees} → Sp R (C.each C.local) x₀ ls y → Sp R C.field y f z → Sp R (C.more C.local) z ms w
        → Sp R C.clauses w cs x
        → m ≡ count (ls ⊕ f ⊕ ms) → ts ≡ ls ⊕ f ⊕ ms ⊕ cs → WithClauses m x₀ ts x

  pub to_clauses : {c : ℕ} {x₀ y x : Lexemes} {ts cs : Trees} → T (eqb c 0) → Members c x₀ ts y → Sp R C.clauses y cs x → WithClauses (count ts) x₀ (ts ⊕ cs) x
  to_clauses {ts = ts} {cs} h (members l f m e) c = with_clauses l f m c (ap count e) (ap (λ (ws : Trees). ws ⊕ cs) e)
  to_clauses {c} h (faulty n) k = absurd (T_not (eqb c 0) n h)

  pub spells_object_comprehension : {m : ℕ} {x₀ x w y : Lexemes} {ts : Trees} → WithClauses m x₀ ts x → w is L_BRACE then x₀ → x is R_BRACE then y
      → Sp R C.object w (tree OBJECT_COMP (number m ∷ number (count ts - m) ∷ []) ts) y
  spells_object_comprehension {m} {ts = ts} (with_clauses {ls = ls} {f} {ms} {cs} l d r c e q) k j =
      retree R (ap (λ (k : ℕ). number k ∷ number (count cs) ∷ []) (sym e) ∙ ap (λ (k : ℕ). number m ∷ number k ∷ []) fits) (sym q)
      (Spells.object_comprehension k l d r c j)
    where
      fits : count cs ≡ count ts - m
      fits = omega (arith, ap count q, count-row (ls ⊕ f ⊕ ms) cs)

  -- Between braces.
  pub data Inside : Lexemes → Trees → Lexemes → Type 0 where
    inside : {x₀ x : Lexemes} {t : Trees} → ((w y : Lexemes) → w is L_BRACE then x₀ → x is R_BRACE then y → Sp R C.object w t y) → count t ≡ 1 → Inside x₀ t x

  -- Fields: the name, and `+` or parameters
  pub data Headed (c : ℕ) : ℕ → ℕ → Lexemes → Trees → Lexemes → Type 0 where
    headed : {p : ℕ} {x₀ y x : Lexemes} {n : Trees} → One R (C.name c) x₀ n y → Perhaps R.Ends PLUS p y x → Headed c p 0 x₀ n x
    headed_method : {x₀ y z w x : Lexemes} {n ps : Trees} → One R (C.name c) x₀ n y → y is L_PAREN then z → Sp R (C.row C.parameter) z ps w
        → w is R_PAREN then x → Headed c 0 1 x₀ (n ⊕ ps) x

  pub spells_field : {c p m v a e : ℕ} {x₀ y z x : Lexemes} {ts t : Trees} → Headed c p m x₀ ts y → Colons R.Ends v y z → Sp R (C.expr 0) z t x
      → Sp R C.field x₀ (tree FIELD (span a e ∷ byte c ∷ byte p ∷ byte m ∷ number (count ts - 1) ∷ byte v ∷ []) (ts ⊕ t)) x
  spells_field {c} {p} {v = v} {a} {e} {ts = ts} (headed (one n o) k) d t =
      retree R (ap (λ (m : ℕ). span a e ∷ byte c ∷ byte p ∷ byte 0 ∷ number m ∷ byte v ∷ []) nought) refl (Spells.a_field {a = a} {e = e} n k d t)
    where
      nought : 0 ≡ count ts - 1
      nought = omega arith
  spells_field {c} {v = v} {a} {e} (headed_method {n = nm} {ps} (one n o) k r j) d t =
      retree R (ap (λ (m : ℕ). span a e ∷ byte c ∷ byte 0 ∷ byte 1 ∷ number m ∷ byte v ∷ []) (one_less nm ps o)) refl (Spells.a_method {a = a} {e = e} n k r j d t)

  -- Binds: a name; a name and parameters
  pub data Signed : Lexemes → Trees → Lexemes → Type 0 where
    signed : {a e : ℕ} {v : Said} {x₀ y z w x : Lexemes} {ps : Trees} → x₀ is IDENT saying v then y → y is L_PAREN then z
        → Sp R (C.row C.parameter) z ps w → w is R_PAREN then x
        → Signed x₀ (node NAME_PATTERN (span a e ∷ text (said v) ∷ []) none ps) x

  pub with_params : {x₀ y z w x : Lexemes} {t ps : Trees} → Named x₀ t y → y is L_PAREN then z → Sp R (C.row C.parameter) z ps w → w is R_PAREN then x
      → Signed x₀ (t ⊕ ps) x
  unfolding ◌⊕◌
  with_params (a_name i) k r j = signed i k r j

  pub spells_value : {x₀ y z x : Lexemes} {t u : Trees} → Named x₀ t y → y is ASSIGN then z → Sp R (C.expr 0) z u x
      → Sp R C.bind x₀ (tree BIND (byte 0 ∷ number 0 ∷ []) (t ⊕ u)) x
  spells_value (a_name i) k e = Spells.bind_value (Spells.name_pattern i) k e

  pub spells_function : {x₀ y z x : Lexemes} {t u : Trees} → Signed x₀ t y → y is ASSIGN then z → Sp R (C.expr 0) z u x
      → Sp R C.bind x₀ (tree BIND (byte 1 ∷ number (count t - 1) ∷ []) (t ⊕ u)) x
  unfolding ◌⊕◌ count
  spells_function (signed {ps = ps} i k r j) l e = retree R (ap (λ (m : ℕ). byte 1 ∷ number m ∷ []) same) refl (Spells.bind_function i k r j l e)
    where
      same : count ps ≡ suc (count ps) - 1
      same = omega arith

  -- `if`: with its two expressions; `function`: with its parameters
  pub data Iffed : Lexemes → Trees → Lexemes → Type 0 where
    iffed : {x₀ y z w x : Lexemes} {c t : Trees} → x₀ is IF_KW then y → Sp R (C.expr 0) y c z → z is THEN_KW then w → Sp R (C.expr 0) w t x → Iffed x₀ (c ⊕ t) x

  pub data Functioned : Lexemes → Trees → Lexemes → Type 0 where
    functioned : {x₀ y z w x : Lexemes} {ps : Trees} → x₀ is FUNCTION_KW then y → y is L_PAREN then z → Sp R (C.row C.parameter) z ps w
        → w is R_PAREN then x → Functioned x₀ ps x

  -- The header of an object iteration; and its colons
  pub data Keyed (w : List ℕ) : Lexemes → Trees → Lexemes → Type 0 where
    keyed : {v : Said} {x₀ y z x : Lexemes} → T (has R.setting exp_object_iteration) → x₀ is L_BRACK then y → y is IDENT saying v then z
        → z is R_BRACK then x → said v ≡ w → Keyed w x₀ none x

  pub data Visible (c : ℕ) (w : List ℕ) : Lexemes → Trees → Lexemes → Type 0 where
    visible : {x₀ y x : Lexemes} {ts : Trees} → Keyed w x₀ ts y → Colons R.Ends c y x → Visible c w x₀ ts x

  pub with_key : {x₀ x : Lexemes} {ts : Trees} → T (has R.setting exp_object_iteration) → Header x₀ ts x → Keyed (said (word_of (rest x₀))) x₀ ts x
  with_key h (header ◌is◌then◌.lexeme ◌is◌saying◌then◌.worded j) = keyed h ◌is◌then◌.lexeme ◌is◌saying◌then◌.worded j refl

  pub spells_iteration : {c : ℕ} {w : List ℕ} {x₀ y z u x : Lexemes} {ts p t : Trees} → Visible c w x₀ ts y → Sp R C.pattern y p z → z is IN_KW then u
      → Sp R (C.expr 0) u t x
      → Sp R C.iteration x₀ (tree OBJECT_ITERATION (byte c ∷ text w ∷ []) (ts ⊕ p ⊕ t)) x
  unfolding ◌⊕◌
  spells_iteration {c} (visible (keyed h k i j q) l) p n t = retree R (ap (λ (w : List ℕ). byte c ∷ text w ∷ []) q) refl (iterates h k i j l p n t)

  -- An `if` clause, but for `if`
  pub data Guarded : Lexemes → Trees → Lexemes → Type 0 where
    guarded : (a e : ℕ) {x₀ x : Lexemes} {t : Trees} → Sp R (C.expr 0) x₀ t x → Guarded x₀ (tree IF_CLAUSE (span a e ∷ []) t) x

  pub add_guard : {x₀ y z x : Lexemes} {ts t : Trees} → Sp R C.clauses x₀ ts y → y is IF_KW then z → Guarded z t x → Sp R C.clauses x₀ (ts ⊕ t) x
  add_guard c k (guarded a e g) = Spells.if_clause a e c k g

  pub braced : {x₀ y z x : Lexemes} {t : Trees} → x₀ is L_BRACE then y → Inside y t z → z is R_BRACE then x → One R C.basic x₀ t x
  braced k (inside e o) j = one (Spells.an_object (e _ _ k j)) o

  pub extend : {f : ℕ} {x₀ y z w x : Lexemes} {t u : Trees} → Sp R (C.chain f) x₀ t y → y is L_BRACE then z → Inside z u w → w is R_BRACE then x
      → One R (C.chain 1) x₀ (tree EXTENSION [] (t ⊕ u)) x
  unfolding count
  extend c k (inside e o) j = one (Spells.extended c (e _ _ k j)) refl

  has-text : (v : Said) → T (good v) → v ≡ says (said v)
  unfolding good said
  has-text (says w) h = refl
  has-text (spoiled n) h = absurd h
  has-text nothing h = absurd h

  pub spells_literal : (xs : Lexemes) → Quoted (kind_of xs) → T (good (word_of xs)) → Sp R C.string xs (tree STRING (text (said (word_of xs)) ∷ []) none) (rest xs)
  spells_literal xs q h = Spells.quoted q (subst (λ (v : Said). xs is kind_of xs saying v then rest xs) (has-text (word_of xs) h) (told xs (quoted_is q) refl))

  pub spells_numeral : (xs : Lexemes) → T (eqb (kind_of xs) FLOAT && good (word_of xs)) → Sp R C.basic xs (tree NUMBER (text (said (word_of xs)) ∷ []) none) (rest xs)
  spells_numeral xs h =
      let k = and_left (eqb (kind_of xs) FLOAT) (good (word_of xs)) h in
      let g = and_right (eqb (kind_of xs) FLOAT) (good (word_of xs)) h in
      Spells.numeral (subst (λ (v : Said). xs is FLOAT saying v then rest xs) (has-text (word_of xs) g) (seen xs tt k))
