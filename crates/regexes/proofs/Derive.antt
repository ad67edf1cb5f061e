-- Brzozowski's derivative: what is left of an expression after one letter. A match is empty, or goes on as a match of what is left.
-- `seq` and `or` take out what is nothing or empty and re-associate to the right, so that a loop comes back to an equal expression.
-- Assumes nothing.
use mathlib.Core.Path.{◌≡◌, refl, sym, ◌∙◌, subst}
use mathlib.Core.Bool.{Bool, true, false, ◌&&◌, ◌||◌}
use mathlib.Core.Logic.{◌⊎◌, inl, inr, ⊎_elim}
use Prim.Native.Nat.{ℕ}
use lib.Dec.{T}
use Rattle.regexes.specs.Regex.{Text, Re, none, eps, one, ◌·◌, ◌∣◌, star, in_class, Star, stop, more, Match}
use Rattle.regexes.proofs.Bools.{and, and_left, and_right, or_left, or_right_lem, or_cases}

unfoldable pub seq : Re → Re → Re
seq none b = none
seq eps b = b
seq (one c) b = one c · b
seq (a · a') b = a · seq a' b
seq (a ∣ a') b = (a ∣ a') · b
seq (star a) b = star a · b

unfoldable pub or_right : Re → Re → Re
or_right a none = a
or_right a eps = a ∣ eps
or_right a (one c) = a ∣ one c
or_right a (b · b') = a ∣ b · b'
or_right a (b ∣ b') = a ∣ b ∣ b'
or_right a (star b) = a ∣ star b

unfoldable pub or : Re → Re → Re
unfolding or_right
or none b = b
or eps b = or_right eps b
or (one c) b = or_right (one c) b
or (a · a') b = or_right (a · a') b
or (a ∣ a') b = or_right (a ∣ a') b
or (star a) b = or_right (star a) b

unfoldable pub nullable : Re → Bool
nullable none = false
nullable eps = true
nullable (one c) = false
nullable (a · b) = nullable a && nullable b
nullable (a ∣ b) = nullable a || nullable b
nullable (star a) = true

abbrev pub pick : Bool → Re → Re
pick true r = r
pick false r = none

unfoldable pub der : ℕ → Re → Re
unfolding seq or nullable
der l none = none
der l eps = none
der l (one c) = pick (in_class c l) eps
der l (a · b) = or (seq (der l a) b) (pick (nullable a) (der l b))
der l (a ∣ b) = or (der l a) (der l b)
der l (star a) = seq (der l a) (star a)

module _ (t : Text) where
  seq_to : (a b : Re) (i k : ℕ) → Match t (a · b) i k → Match t (seq a b) i k
  unfolding Match seq
  seq_to none b i k m = m.1
  seq_to eps b i k m = subst (λ (x : ℕ). Match t b x k) (sym m.1) m.2
  seq_to (one c) b i k m = m
  seq_to (a · a') b i k m = (m.1.0, m.1.1, seq_to a' b m.1.0 k (m.0, m.1.2, m.2))
  seq_to (a ∣ a') b i k m = m
  seq_to (star a) b i k m = m

  seq_from : (a b : Re) (i k : ℕ) → Match t (seq a b) i k → Match t (a · b) i k
  unfolding Match seq
  seq_from none b i k m = absurd m
  seq_from eps b i k m = (i, refl, m)
  seq_from (one c) b i k m = m
  seq_from (a · a') b i k m = let n = seq_from a' b m.0 k m.2 in (n.0, (m.0, m.1, n.1), n.2)
  seq_from (a ∣ a') b i k m = m
  seq_from (star a) b i k m = m

  or_right_to : (a b : Re) (i k : ℕ) → Match t a i k ⊎ Match t b i k → Match t (or_right a b) i k
  unfolding Match or_right
  or_right_to a none i k (inl m) = m
  or_right_to a none i k (inr m) = absurd m
  or_right_to a eps i k m = m
  or_right_to a (one c) i k m = m
  or_right_to a (b · b') i k m = m
  or_right_to a (b ∣ b') i k m = m
  or_right_to a (star b) i k m = m

  or_right_from : (a b : Re) (i k : ℕ) → Match t (or_right a b) i k → Match t a i k ⊎ Match t b i k
  unfolding Match or_right
  or_right_from a none i k m = inl m
  or_right_from a eps i k m = m
  or_right_from a (one c) i k m = m
  or_right_from a (b · b') i k m = m
  or_right_from a (b ∣ b') i k m = m
  or_right_from a (star b) i k m = m

  pub or_to : (a b : Re) (i k : ℕ) → Match t a i k ⊎ Match t b i k → Match t (or a b) i k
  unfolding Match or
  or_to none b i k (inl m) = absurd m
  or_to none b i k (inr m) = m
  or_to eps b i k m = or_right_to eps b i k m
  or_to (one c) b i k m = or_right_to (one c) b i k m
  or_to (a · a') b i k m = or_right_to (a · a') b i k m
  or_to (a ∣ a') b i k m = or_right_to (a ∣ a') b i k m
  or_to (star a) b i k m = or_right_to (star a) b i k m

  or_from : (a b : Re) (i k : ℕ) → Match t (or a b) i k → Match t a i k ⊎ Match t b i k
  unfolding Match or
  or_from none b i k m = inr m
  or_from eps b i k m = or_right_from eps b i k m
  or_from (one c) b i k m = or_right_from (one c) b i k m
  or_from (a · a') b i k m = or_right_from (a · a') b i k m
  or_from (a ∣ a') b i k m = or_right_from (a ∣ a') b i k m
  or_from (star a) b i k m = or_right_from (star a) b i k m

  pick_to : (p : Bool) (r : Re) (i k : ℕ) → T p → Match t r i k → Match t (pick p r) i k
  pick_to true r i k h m = m
  pick_to false r i k h m = absurd h

  pick_from : (p : Bool) (r : Re) (i k : ℕ) → Match t (pick p r) i k → T p × Match t r i k
  unfolding Match
  pick_from true r i k m = (tt, m)
  pick_from false r i k m = absurd m

  -- A match of what is left after the letter at i.
  abbrev pub Left : Re → ℕ → ℕ → Type 0
  Left r i j = Match t (der (t.letter i) r) (t.next i) j

  -- Empty and nullable, or a match of what is left.
  abbrev pub Goes : Re → ℕ → ℕ → Type 0
  Goes r i j = ((i ≡ j) × T (nullable r)) ⊎ Left r i j

  left_seq : (a b : Re) (i k : ℕ) → ((j : ℕ) × Left a i j × Match t b j k) ⊎ (T (nullable a) × Left b i k) → Left (a · b) i k
  unfolding Match der
  left_seq a b i k g =
      let d = der (t.letter i) a in
      let d' = der (t.letter i) b in
      or_to (seq d b) (pick (nullable a) d') (t.next i) k
      (⊎_elim (λ x. inl (seq_to d b (t.next i) k x)) (λ x. inr (pick_to (nullable a) d' (t.next i) k x.0 x.1)) g)

  forth_seq : (a b : Re) (i j k : ℕ) → Goes a i j → Goes b j k → Match t b j k → Goes (a · b) i k
  unfolding nullable
  forth_seq a b i j k (inr d) g m = inr (left_seq a b i k (inl (j, d, m)))
  forth_seq a b i j k (inl e) (inl f) m = inl (e.0 ∙ f.0, and (nullable a) (nullable b) e.1 f.1)
  forth_seq a b i j k (inl e) (inr d) m = inr (left_seq a b i k (inr (e.1, subst (λ (x : ℕ). Left b x k) (sym e.0) d)))

  forth_star : (a : Re) (i j k : ℕ) → Goes a i j → Goes (star a) j k → Star (Match t a) j k → Goes (star a) i k
  unfolding Match der
  forth_star a i j k (inr d) g m = inr (seq_to (der (t.letter i) a) (star a) (t.next i) k (j, d, m))
  forth_star a i j k (inl e) g m = subst (λ (x : ℕ). Goes (star a) x k) (sym e.0) g

  stars : (a : Re) → ((i j : ℕ) → Match t a i j → Goes a i j) → (i k : ℕ) → Star (Match t a) i k → Goes (star a) i k
  unfolding nullable
  stars a f i k stop = inl (refl, tt)
  stars a f i k (more {j = j} m s) = forth_star a i j k (f i j m) (stars a f j k s) s

  pub forth : (r : Re) (i j : ℕ) → Match t r i j → Goes r i j
  unfolding Match der nullable
  forth none i j m = absurd m
  forth eps i j m = inl (m, tt)
  forth (one c) i j m = inr (pick_to (in_class c (t.letter i)) eps (t.next i) j m.0 (sym m.1))
  forth (a · b) i k m = forth_seq a b i m.0 k (forth a i m.0 m.1) (forth b m.0 k m.2) m.2
  forth (a ∣ b) i j (inl m) =
      ⊎_elim (λ e. inl (e.0, or_left (nullable a) (nullable b) e.1))
      (λ d. inr (or_to (der (t.letter i) a) (der (t.letter i) b) (t.next i) j (inl d))) (forth a i j m)
  forth (a ∣ b) i j (inr m) =
      ⊎_elim (λ e. inl (e.0, or_right_lem (nullable a) (nullable b) e.1))
      (λ d. inr (or_to (der (t.letter i) a) (der (t.letter i) b) (t.next i) j (inr d))) (forth b i j m)
  forth (star a) i j m = stars a (forth a) i j m

  pub null : (r : Re) → T (nullable r) → (i : ℕ) → Match t r i i
  unfolding Match nullable
  null none h i = absurd h
  null eps h i = refl
  null (one c) h i = absurd h
  null (a · b) h i = (i, null a (and_left (nullable a) (nullable b) h) i, null b (and_right (nullable a) (nullable b) h) i)
  null (a ∣ b) h i = ⊎_elim (λ p. inl (null a p i)) (λ p. inr (null b p i)) (or_cases (nullable a) (nullable b) h)
  null (star a) h i = stop

  pub back : (r : Re) (i j : ℕ) → Left r i j → Match t r i j
  unfolding Match der
  back none i j m = m
  back eps i j m = absurd m
  back (one c) i j m = let h = pick_from (in_class c (t.letter i)) eps (t.next i) j m in (h.0, sym h.1)
  back (a · b) i j m =
      let d = der (t.letter i) a in
      let d' = der (t.letter i) b in
      ⊎_elim
      (λ x. let n = seq_from d b (t.next i) j x in (n.0, back a i n.0 n.1, n.2))
      (λ x. let n = pick_from (nullable a) d' (t.next i) j x in (i, null a n.0 i, back b i j n.1))
      (or_from (seq d b) (pick (nullable a) d') (t.next i) j m)
  back (a ∣ b) i j m =
      ⊎_elim (λ n. inl (back a i j n)) (λ n. inr (back b i j n))
      (or_from (der (t.letter i) a) (der (t.letter i) b) (t.next i) j m)
  back (star a) i j m =
      let n = seq_from (der (t.letter i) a) (star a) (t.next i) j m in
      more (back a i n.0 n.1) n.2

  -- A relation that holds of no step and of a step and then some holds of a match, if it holds of each letter.
  module _ (R : ℕ → ℕ → Type 0) (stay : (i : ℕ) → R i i) (then : (i j k : ℕ) → R i j → R j k → R i k) where
    stars_along : (a : Re) → ((i j : ℕ) → Match t a i j → R i j) → (i k : ℕ) → Star (Match t a) i k → R i k
    stars_along a f i k stop = stay i
    stars_along a f i k (more {j = j} m s) = then i j k (f i j m) (stars_along a f j k s)

    pub along : ((i : ℕ) (c : _) → T (in_class c (t.letter i)) → R i (t.next i)) → (r : Re) (i j : ℕ) → Match t r i j → R i j
    unfolding Match
    along step none i j m = absurd m
    along step eps i j m = subst (λ (x : ℕ). R i x) m (stay i)
    along step (one c) i j m = subst (λ (x : ℕ). R i x) (sym m.1) (step i c m.0)
    along step (a · b) i j m = then i m.0 j (along step a i m.0 m.1) (along step b m.0 j m.2)
    along step (a ∣ b) i j (inl m) = along step a i j m
    along step (a ∣ b) i j (inr m) = along step b i j m
    along step (star a) i j m = stars_along a (along step a) i j m
