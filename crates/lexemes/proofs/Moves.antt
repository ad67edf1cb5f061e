-- The longest match past a letter, before one, and none: what stands at a place of the source, and how the tables of rules go on by it.
-- Assumes nothing.
use mathlib.Core.Path.{◌≡◌, refl, sym, ◌∙◌, subst}
use mathlib.Core.Bool.{Bool, true, false, not, ◌&&◌, ◌||◌}
use mathlib.Core.List.{List, [], ◌∷◌}
use mathlib.Core.Logic.{inl, inr, ⊎_elim}
use Prim.Native.Nat.{ℕ, ◌+◌, ◌≤◌, ◌<◌}
use native.Mathlib.Omega.{arith}
use native.Mathlib.Nat.{le_antisymm, le_refl}
use lib.Dec.{T, leb, leb→le, le→leb, eqb→eq, ltb, lt→ltb, eqb, eqb_refl}
use lib.ListN.{length, get_or}
use borrow.Author.Tests.{ne_eqb}
use Rattle.regexes.specs.Regex.{END, Re, one, only, ◌to◌, in_class, Match, Rule}
use Rattle.regexes.proofs.Bools.{and, and_left, and_right, or_cases, or_left}
use Rattle.regexes.proofs.Tables.{left, Among, steps, steps_eq, gives, gives_eq, silent, silent_eq}
use Rattle.regexes.proofs.Longest.{on, halt, fail, empty}
use Rattle.lexemes.specs.Letters.{WHITE, OTHER, text, letter, next}
use Rattle.lexemes.specs.Lexeme.{Beats}
use Rattle.lexemes.specs.Scan.{Best, Never}
use Rattle.lexemes.proofs.Letters.{inside, of_letter, letter-ascii, next-ascii, letter-past, next_past, inside_letter, by_byte, sound}

-- One letter.
abbrev pub is : ℕ → Re
is b = one (only (b to b ∷ []))

-- The letter at i passes the test, and the next place is j.
pub record Sees (s : List ℕ) (i : ℕ) (f : ℕ → Bool) (j : ℕ) : Type 0 where
  pub passes : T (f (letter s i))
  pub after : j ≡ next s i

-- None of the letters of a list.
abbrev pub not_in : List ℕ → ℕ → Bool
not_in [] l = true
not_in (x ∷ xs) l = not (eqb l x) && not_in xs l

abbrev pub NotAll : List ℕ → ℕ → Type 0
NotAll [] v = Unit {0}
NotAll (x ∷ xs) v = (v ≡ x → ⊥) × NotAll xs v

pub not_all : (xs : List ℕ) (v : ℕ) → NotAll xs v → T (not_in xs v)
not_all [] v n = tt
not_all (x ∷ xs) v n = and (not (eqb v x)) (not_in xs v) (subst (λ (t : Bool). T (not t)) (sym (ne_eqb v x n.0)) tt) (not_all xs v n.1)

-- What a `match` on single numbers leaves to its last arm, the last number first.
abbrev pub Rest : List ℕ → ℕ → Type 0
Rest [] v = Unit {0}
Rest (x ∷ xs) v = Rest xs v × (v ≡ x → ⊥)

pub at_rest : (xs : List ℕ) (v : ℕ) → Rest xs v → T (not_in xs v)
at_rest [] v r = tt
at_rest (x ∷ xs) v r = and (not (eqb v x)) (not_in xs v) (subst (λ (t : Bool). T (not t)) (sym (ne_eqb v x r.1)) tt) (at_rest xs v r.0)

-- A byte of ASCII other than 0; bytes of which none is a letter beyond ASCII.
abbrev pub plain : ℕ → Bool
plain b = leb 1 b && leb b 127

abbrev pub low : List ℕ → Bool
low xs = not_in xs WHITE && (not_in xs OTHER && not_in xs END)

-- A character that is none of xs, and not the end.
abbrev pub other : List ℕ → ℕ → Bool
other xs l = ltb l END && not_in xs l

module _ (s : List ℕ) (i : ℕ) where
  -- What stands at a place: a known byte; a character that is none of some bytes; anything that is none of them; the end.
  pub byte : (b : ℕ) → T (plain b) → get_or s i 0 ≡ b → Sees s i (eqb b) (i + 1)
  byte b t h =
      let lo : 1 ≤ b = leb→le 1 b (and_left (leb 1 b) (leb b 127) t) in
      let hi : b ≤ 127 = leb→le b 127 (and_right (leb 1 b) (leb b 127) t) in
      let here : i < length s = inside s i (omega arith) in
      record {
        passes = subst (λ (x : ℕ). T (eqb b x)) (sym (letter-ascii s i here (omega arith) ∙ h)) (eqb_refl b);
        after = sym (next-ascii s i here (omega arith));
      }

  none_of : (xs : List ℕ) → T (low xs) → NotAll xs (get_or s i 0) → T (not_in xs (letter s i))
  none_of xs t n =
      let t' = and_right (not_in xs WHITE) (not_in xs OTHER && not_in xs END) t in
      by_byte s i (not_in xs) (and_left (not_in xs WHITE) (not_in xs OTHER && not_in xs END) t)
      (and_left (not_in xs OTHER) (not_in xs END) t') (and_right (not_in xs OTHER) (not_in xs END) t') (λ h. not_all xs (get_or s i 0) n)

  pub char : (xs : List ℕ) → T (low xs) → i < length s → NotAll xs (get_or s i 0) → Sees s i (other xs) (next s i)
  char xs t h n =
      record {
        passes = and (ltb (letter s i) END) (not_in xs (letter s i)) (lt→ltb (letter s i) END (inside_letter s i h)) (none_of xs t n);
        after = refl;
      }

  pub none : (xs : List ℕ) → T (low xs) → NotAll xs (get_or s i 0) → Sees s i (not_in xs) (next s i)
  none xs t n = record { passes = none_of xs t n; after = refl }

  pub end : length s ≤ i → Sees s i (eqb END) (i + 1)
  end h = record { passes = subst (λ (x : ℕ). T (eqb END x)) (sym (letter-past s i h)) tt; after = sym (next_past s i h) }

  pub anything : Sees s i (λ l. true) (next s i)
  anything = record { passes = tt; after = refl }

module _ {s : List ℕ} {i j : ℕ} {f : ℕ → Bool} (x : Sees s i f j) where
  step : (S S' : List Rule) → T (steps S f S') → (P : List Rule → ℕ → Type 0) → P S' j → P (left (letter s i) S) (next s i)
  step S S' t P p =
      subst (λ (X : List Rule). P X (next s i)) (sym (steps_eq S f S' t (letter s i) ((sound s).low i) x.passes))
      (subst (λ (y : ℕ). P S' y) x.after p)

  -- The longest match goes on past the letter.
  pub go : {S S' : List Rule} {k e : ℕ} → Best s S' j k e → T (steps S f S') → Best s S i k e
  go {S} {S'} {k} {e} l t = on (text s) (sound s) Beats S i k e (step S S' t (λ X y. Best s X y k e) l)

  -- It ends before the letter, where what is left after that takes nothing.
  pub stop_before : {S S' : List Rule} {k : ℕ} → Never s S' j → T (steps S f S') → T (gives S k) → Best s S i k i
  stop_before {S} {S'} {k} n t a =
      halt (text s) (sound s) Beats S i k (subst (λ (ks : List ℕ). Among k ks) (sym (gives_eq S k a)) (inl refl))
      (λ k' m. inl (only k' (subst (λ (ks : List ℕ). Among k' ks) (gives_eq S k a) m))) (step S S' t (λ X y. Never s X y) n)
    where
      only : (k' : ℕ) → Among k' (k ∷ []) → k' ≡ k
      only k' (inl e) = e
      only k' (inr w) = absurd w

  -- Nothing is taken, where what is left after the letter takes nothing.
  pub fail_before : {S S' : List Rule} → Never s S' j → T (steps S f S') → T (silent S) → Never s S i
  fail_before {S} {S'} n t a = fail (text s) (sound s) S i (silent_eq S a) (step S S' t (λ X y. Never s X y) n)

module _ {s : List ℕ} {i j : ℕ} {f : ℕ → Bool} {S : List Rule} (x : Sees s i f j) where
  -- The same, where no rule goes on by the letter.
  pub stop : {k : ℕ} → T (steps S f []) → T (gives S k) → Best s S i k i
  stop t a = stop_before x (empty (text s) (sound s) j) t a

  pub never : T (steps S f []) → T (silent S) → Never s S i
  never t a = fail_before x (empty (text s) (sound s) j) t a

-- The match of one byte, to and from.
module _ (s : List ℕ) (i b j : ℕ) (p : T (plain b)) where
  pub is_to : Match (text s) (is b) i j → (get_or s i 0 ≡ b) × (j ≡ i + 1)
  unfolding Match
  is_to m =
      let l = letter s i in
      let t : T (leb b l && leb l b) =
      ⊎_elim (λ x. x) (λ x. absurd x) (or_cases (leb b l && leb l b) false (and_right (ltb l END) ((leb b l && leb l b) || false) m.0)) in
      let e : l ≡ b = le_antisymm (leb→le l b (and_right (leb b l) (leb l b) t)) (leb→le b l (and_left (leb b l) (leb l b) t)) in
      let r = of_letter s i b (omega (arith, leb→le b 127 (and_right (leb 1 b) (leb b 127) p))) e in
      (r.0, m.1 ∙ r.1)

  pub is_from : get_or s i 0 ≡ b → j ≡ i + 1 → Match (text s) (is b) i j
  unfolding Match
  is_from h e =
      let x = byte s i b p h in
      let q : letter s i ≡ b = sym (eqb→eq b (letter s i) x.passes) in
      (subst (λ (l : ℕ). T (in_class (only (b to b ∷ [])) l)) (sym q) itself, e ∙ x.after)
    where
      itself : T (in_class (only (b to b ∷ [])) b)
      itself =
          and (ltb b END) ((leb b b && leb b b) || false) (lt→ltb b END (omega (arith, leb→le b 127 (and_right (leb 1 b) (leb b 127) p))))
          (or_left (leb b b && leb b b) false (and (leb b b) (leb b b) (le→leb b b (le_refl b)) (le→leb b b (le_refl b))))
