-- A lexer that computes, with fuel, for worked examples: by what is left of the rules after each letter. What it gives is a lexeme.
-- Assumes nothing.
use mathlib.Core.Path.{◌≡◌, refl, sym, subst}
use mathlib.Core.Bool.{Bool, true, false, ◌&&◌, true≢false}
use mathlib.Core.List.{List, [], ◌∷◌}
use mathlib.Core.Logic.{inl, inr, ⊎_elim}
use Prim.Native.Nat.{ℕ, zero, suc, ◌<◌}
use native.Mathlib.Omega.{arith}
use lib.Dec.{T, eqb, leb, ltb, leb→le, eqb→eq}
use lib.ListN.{length}
use borrow.Author.Tests.{ltb-true, ltb-false, eqb-false}
use Rattle.regexes.specs.Regex.{Text, Rule, Longest, Nothing}
use Rattle.regexes.proofs.Bools.{and_left, and_right}
use Rattle.regexes.proofs.Tables.{left, accepts, Among}
use Rattle.regexes.proofs.Longest.{Sound, empty, fail, on, halt}
use Rattle.lexemes.specs.declared.Lexeme.{Lexeme}
use Rattle.lexemes.specs.Kinds.{IDENT, STRING_BLOCK, TAILSTRICT_KW, ASSERT_KW}
use Rattle.lexemes.specs.Letters.{text, letter, next}
use Rattle.lexemes.specs.Rules.{rules}
use Rattle.lexemes.specs.Lexeme.{Beats, Ruled, longest, rule, lexeme}
use Rattle.lexemes.specs.Kept.{Lexemes, none, some}
use Rattle.lexemes.proofs.Letters.{sound}

-- The longest match at a place: a kind and where it ends; none; or the fuel is out.
pub data Munched : Type 0 where
  took : ℕ → ℕ → Munched
  nothing stuck : Munched

beats : ℕ → ℕ → Bool
beats k k' = leb TAILSTRICT_KW k && leb k ASSERT_KW && eqb k' IDENT

-- Where the table's rules can end, and what is left takes something or not.
unfoldable pub finish : List ℕ → ℕ → Munched → Munched
unfolding beats
finish ks p (took k e) = took k e
finish ks p stuck = stuck
finish [] p nothing = nothing
finish (k ∷ []) p nothing = took k p
finish (k ∷ k' ∷ []) p nothing = elim (beats k' k) [ true ↦ took k' p | false ↦ stuck ]
finish (k ∷ k' ∷ k'' ∷ ks) p nothing = stuck

unfoldable pub over : List Rule → Bool
over [] = true
over (r ∷ rs) = false

unfoldable pub munch : ℕ → Text → List Rule → ℕ → Munched
unfolding over finish left accepts
munch zero t S p = stuck
munch (suc fuel) t S p = elim (over S) [ true ↦ nothing | false ↦ finish (accepts S) p (munch fuel t (left (t.letter p) S) (t.next p)) ]

Gives : Text → List Rule → ℕ → Munched → Type 0
Gives t S p (took k e) = Longest Beats t S p k e
Gives t S p nothing = Nothing t S p
Gives t S p stuck = Unit {0}

beaten : (k k' : ℕ) → T (beats k k') → Beats k k'
unfolding beats
beaten k k' h =
    let A = leb TAILSTRICT_KW k in
    let B = leb k ASSERT_KW in
    let C = eqb k' IDENT in
    ((leb→le TAILSTRICT_KW k (and_left A B (and_left (A && B) C h)), leb→le k ASSERT_KW (and_right A B (and_left (A && B) C h))), eqb→eq k' IDENT (and_right (A && B) C h))

module _ (t : Text) (fine : Sound t) where
  finished : (S : List Rule) (p : ℕ) (ks : List ℕ) → accepts S ≡ ks → (m : Munched) → Gives t (left (t.letter p) S) (t.next p) m → Gives t S p (finish ks p m)
  unfolding finish Gives
  finished S p ks e (took k q) g = on t fine Beats S p k q g
  finished S p ks e stuck g = tt
  finished S p [] e nothing g = fail t fine S p e g
  finished S p (k ∷ []) e nothing g =
      halt t fine Beats S p k (subst (λ (ks : List ℕ). Among k ks) (sym e) (inl refl))
      (λ k' a. ⊎_elim (λ q. inl q) (λ q. absurd q) (subst (λ (ks : List ℕ). Among k' ks) e a)) g
  finished S p (k ∷ k' ∷ []) e nothing g = by (beats k' k) refl
    where
      by : (b : Bool) → beats k' k ≡ b → Gives t S p (elim b [ true ↦ took k' p | false ↦ stuck ])
      by true q =
          halt t fine Beats S p k' (subst (λ (ks : List ℕ). Among k' ks) (sym e) (inr (inl refl)))
          (λ j a. ⊎_elim (λ w. inr (subst (λ (x : ℕ). Beats k' x) (sym w) (beaten k' k (subst T (sym q) tt)))) (λ w. ⊎_elim (λ v. inl v) (λ v. absurd v) w)
          (subst (λ (ks : List ℕ). Among j ks) e a)) g
      by false q = tt
  finished S p (k ∷ k' ∷ k'' ∷ ks) e nothing g = tt

  none_left : (S : List Rule) (p : ℕ) → over S ≡ true → Gives t S p nothing
  unfolding over Gives
  none_left [] p e = empty t fine p
  none_left (r ∷ rs) p e = absurd (true≢false (sym e))

  munched : (fuel : ℕ) (S : List Rule) (p : ℕ) → Gives t S p (munch fuel t S p)
  unfolding munch Gives
  munched zero S p = tt
  munched (suc fuel) S p = by (over S) refl (finished S p (accepts S) refl (munch fuel t (left (t.letter p) S) (t.next p)) (munched fuel (left (t.letter p) S) (t.next p)))
    where
      by : (b : Bool) → over S ≡ b → Gives t S p (finish (accepts S) p (munch fuel t (left (t.letter p) S) (t.next p)))
          → Gives t S p (elim b [ true ↦ nothing | false ↦ finish (accepts S) p (munch fuel t (left (t.letter p) S) (t.next p)) ])
      by true e g = none_left S p e
      by false e g = g

-- The lexemes of a source that has no block and no character that no rule takes; an empty list of answers where that is not so.
pub data Lexed : Type 0 where
  all : List Lexeme → Lexed
  not_so : Lexed

-- one more lexeme before the others
unfoldable pub before : ℕ → ℕ → ℕ → Lexed → Lexed
before k a e (all ls) = all (lexeme k a e ∷ ls)
before k a e not_so = not_so

unfoldable pub step : ℕ → (ℕ → Lexed) → Munched → Lexed
step p later (took k e) = elim (eqb k STRING_BLOCK) [ true ↦ not_so | false ↦ before k p e (later e) ]
step p later nothing = not_so
step p later stuck = not_so

unfoldable pub lex : ℕ → List ℕ → ℕ → Lexed
unfolding munch step before letter next
lex zero s p = not_so
lex (suc fuel) s p = elim (ltb p (length s)) [ true ↦ step p (λ e. lex fuel s e) (munch 100 (text s) rules p) | false ↦ all [] ]

never : {ls : List Lexeme} → not_so ≡ all ls → ⊥
never e = let z : ◌≡◌ {A = ℕ} 0 1 = cc in omega arith

same : {ls ms : List Lexeme} → all ls ≡ all ms → ls ≡ ms
same e = cc

module _ (s : List ℕ) where
  before-some : {k p e : ℕ} {ls : List Lexeme} (later : Lexed) → ((ms : List Lexeme) → later ≡ all ms → Lexemes s e ms) → p < length s → Longest Beats (text s) rules p k e
      → (k ≡ STRING_BLOCK → ⊥) → before k p e later ≡ all ls → Lexemes s p ls
  unfolding before
  before-some {k} {p} {e} (all ms) rec h l n q = subst (λ (ls : List Lexeme). Lexemes s p ls) (same q) (some h (rule h (longest l) n refl) (rec ms refl))
  before-some not_so rec h l n q = absurd (never q)

  stepped : {p : ℕ} {ls : List Lexeme} (later : ℕ → Lexed) → ((e : ℕ) (ms : List Lexeme) → later e ≡ all ms → Lexemes s e ms) → p < length s → (m : Munched) → Gives (text s) rules p m
      → step p later m ≡ all ls → Lexemes s p ls
  unfolding step Gives
  stepped {p} {ls} later rec h (took k e) g q = by (eqb k STRING_BLOCK) refl q
    where
      by : (b : Bool) → eqb k STRING_BLOCK ≡ b → elim b [ true ↦ not_so | false ↦ before k p e (later e) ] ≡ all ls → Lexemes s p ls
      by true c q = absurd (never q)
      by false c q = before-some (later e) (rec e) h g (eqb-false k STRING_BLOCK c) q
  stepped later rec h nothing g q = absurd (never q)
  stepped later rec h stuck g q = absurd (never q)

  pub lexed : (fuel p : ℕ) (ls : List Lexeme) → lex fuel s p ≡ all ls → Lexemes s p ls
  unfolding lex
  lexed zero p ls q = absurd (never q)
  lexed (suc fuel) p ls q = by (ltb p (length s)) refl (λ e ms r. lexed fuel e ms r) q
    where
      by : (b : Bool) → ltb p (length s) ≡ b → ((e : ℕ) (ms : List Lexeme) → lex fuel s e ≡ all ms → Lexemes s e ms)
          → elim b [ true ↦ step p (λ e. lex fuel s e) (munch 100 (text s) rules p) | false ↦ all [] ] ≡ all ls → Lexemes s p ls
      by true c rec q = stepped (λ e. lex fuel s e) rec (ltb-true p (length s) c) (munch 100 (text s) rules p) (munched (text s) (sound s) 100 rules p) q
      by false c rec q = subst (λ (ls : List Lexeme). Lexemes s p ls) (same q) (none (ltb-false p (length s) c))

  -- One match by itself, as the rules make it.
  pub munched_ruled : (p k e : ℕ) → munch 100 (text s) rules p ≡ took k e → Ruled s p k e
  unfolding Gives
  munched_ruled p k e q = by (munch 100 (text s) rules p) (munched (text s) (sound s) 100 rules p) q
    where
      by : (m : Munched) → Gives (text s) rules p m → m ≡ took k e → Ruled s p k e
      by m g q = longest (is_took (subst (λ (x : Munched). Gives (text s) rules p x) q g))
        where
          is_took : Gives (text s) rules p (took k e) → Longest Beats (text s) rules p k e
          is_took x = x
