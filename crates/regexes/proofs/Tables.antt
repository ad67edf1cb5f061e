-- Tables of rules: what is left of one after a letter, which kinds it gives of the empty text, and tests on these that antt computes.
-- Assumes nothing.
use mathlib.Core.Path.{◌≡◌, refl, sym, subst}
use mathlib.Core.Bool.{Bool, true, false, ◌&&◌}
use mathlib.Core.List.{List, [], ◌∷◌, ◌++◌}
use mathlib.Core.Logic.{◌⊎◌, inl, inr, ⊎_elim}
use Prim.Native.Nat.{ℕ, suc, ◌≤◌}
use native.Mathlib.Omega.{arith}
use native.Mathlib.Decide.{ℕ_discrete}
use lib.Dec.{T, eqb, eqb→eq}
use Rattle.regexes.specs.Regex.{Text, END, Class, Re, none, eps, one, ◌·◌, ◌∣◌, star, in_class, Match, Rule, ◌⇒◌, Takes, Range-discrete, Class-discrete, Re-discrete, Rule-discrete}
use Rattle.regexes.proofs.Bools.{and_left, and_right, implies, implied}
use Rattle.regexes.proofs.Derive.{nullable, der, forth, back, null, along}

-- A rule of which nothing is left is dropped.
unfoldable pub keep : ℕ → Re → List Rule → List Rule
keep k none rs = rs
keep k eps rs = (k ⇒ eps) ∷ rs
keep k (one c) rs = (k ⇒ one c) ∷ rs
keep k (a · b) rs = (k ⇒ a · b) ∷ rs
keep k (a ∣ b) rs = (k ⇒ a ∣ b) ∷ rs
keep k (star a) rs = (k ⇒ star a) ∷ rs

unfoldable pub left : ℕ → List Rule → List Rule
unfolding keep der
left l [] = []
left l ((q ⇒ r) ∷ rs) = keep q (der l r) (left l rs)

abbrev pub also : Bool → ℕ → List ℕ → List ℕ
also true k ks = k ∷ ks
also false k ks = ks

-- The kinds of the rules that match the empty text.
unfoldable pub accepts : List Rule → List ℕ
unfolding nullable
accepts [] = []
accepts ((q ⇒ r) ∷ rs) = also (nullable r) q (accepts rs)

abbrev pub Among : ℕ → List ℕ → Type 0
Among k [] = ⊥
Among k (x ∷ xs) = (k ≡ x) ⊎ Among k xs

also_here : (t : Bool) (k : ℕ) (ks : List ℕ) → T t → Among k (also t k ks)
also_here true k ks h = inl refl
also_here false k ks h = absurd h

also_there : (t : Bool) (k k' : ℕ) (ks : List ℕ) → Among k ks → Among k (also t k' ks)
also_there true k k' ks h = inr h
also_there false k k' ks h = h

also_from : (t : Bool) (k k' : ℕ) (ks : List ℕ) → Among k (also t k' ks) → ((k ≡ k') × T t) ⊎ Among k ks
also_from true k k' ks (inl e) = inl (e, tt)
also_from true k k' ks (inr h) = inr h
also_from false k k' ks h = inr h

-- Equality of tables, as a test. (mathlib's is shut, and would not compute.)
abbrev yesb : {A : Type 0} → Dec A → Bool
yesb (yes a) = true
yesb (no n) = false

yesb_eq : {A : Type 0} (d : Dec A) → T (yesb d) → A
yesb_eq (yes a) t = a
yesb_eq (no n) t = absurd t

listed : {A : Type 0} (x y : A) (xs ys : List A) → Dec (x ≡ y) → Dec (xs ≡ ys) → Dec (◌≡◌ {A = List A} (x ∷ xs) (y ∷ ys))
listed x y xs ys (yes e) (yes f) = yes (cc)
listed x y xs ys (yes e) (no n) = no (λ h. n (cc))
listed x y xs ys (no n) d = no (λ h. n (cc))

list_discrete : {A : Type 0} → Discrete A → Discrete (List A)
unfolding listed
list_discrete d [] [] = yes refl
list_discrete {A} d [] (y ∷ ys) = no (λ h. let z : ◌≡◌ {A = ℕ} 0 1 = cc in omega arith)
list_discrete {A} d (x ∷ xs) [] = no (λ h. let z : ◌≡◌ {A = ℕ} 0 1 = cc in omega arith)
list_discrete d (x ∷ xs) (y ∷ ys) = listed x y xs ys (d x y) (list_discrete d xs ys)

rule_discrete : Discrete Rule
unfolding list_discrete ℕ_discrete
rule_discrete = Rule-discrete ℕ_discrete (Re-discrete (Class-discrete (list_discrete (Range-discrete ℕ_discrete))))

unfoldable pub same : List Rule → List Rule → Bool
unfolding rule_discrete
same [] [] = true
same [] (q ∷ qs) = false
same (r ∷ rs) [] = false
same (r ∷ rs) (q ∷ qs) = yesb (rule_discrete r q) && same rs qs

pub same_eq : (rs qs : List Rule) → T (same rs qs) → rs ≡ qs
unfolding same
same_eq [] [] t = refl
same_eq [] (q ∷ qs) t = absurd t
same_eq (r ∷ rs) [] t = absurd t
same_eq (r ∷ rs) (q ∷ qs) t =
    let e : r ≡ q = yesb_eq (rule_discrete r q) (and_left (yesb (rule_discrete r q)) (same rs qs) t) in
    let f : rs ≡ qs = same_eq rs qs (and_right (yesb (rule_discrete r q)) (same rs qs) t) in
    cc

-- Every letter that passes the test takes the table S to the table S'.
unfoldable pub steps : List Rule → (ℕ → Bool) → List Rule → Bool
unfolding implies same left
steps S f S' = implies (suc END) f (λ l. same (left l S) S')

pub steps_eq : (S : List Rule) (f : ℕ → Bool) (S' : List Rule) → T (steps S f S') → (l : ℕ) → l ≤ END → T (f l) → left l S ≡ S'
unfolding steps
steps_eq S f S' t l h p = same_eq (left l S) S' (implied (suc END) f (λ l. same (left l S) S') t l (omega arith) p)

-- The table gives kind k, and no other, of the empty text; it gives none.
unfoldable pub single : List ℕ → ℕ → Bool
single [] k = false
single (x ∷ []) k = eqb x k
single (x ∷ y ∷ ys) k = false

unfoldable pub gives : List Rule → ℕ → Bool
unfolding accepts single
gives S k = single (accepts S) k

unfoldable pub empty : List ℕ → Bool
empty [] = true
empty (x ∷ xs) = false

unfoldable pub silent : List Rule → Bool
unfolding accepts empty
silent S = empty (accepts S)

pub gives_eq : (S : List Rule) (k : ℕ) → T (gives S k) → accepts S ≡ k ∷ []
unfolding gives
gives_eq S k t = one_kind (accepts S) t
  where
    one_kind : (ks : List ℕ) → T (single ks k) → ks ≡ k ∷ []
    one_kind [] t = absurd t
    one_kind (x ∷ []) t = let e : x ≡ k = eqb→eq x k t in cc
    one_kind (x ∷ y ∷ ys) t = absurd t

pub silent_eq : (S : List Rule) → T (silent S) → accepts S ≡ []
unfolding silent
silent_eq S t = no_kind (accepts S) t
  where
    no_kind : (ks : List ℕ) → T (empty ks) → ks ≡ []
    no_kind [] t = refl
    no_kind (x ∷ xs) t = absurd t

module _ (t : Text) where
  keep_to : (k : ℕ) (r : Re) (rs : List Rule) (k' i j : ℕ) → ((k' ≡ k) × Match t r i j) ⊎ Takes t rs k' i j → Takes t (keep k r rs) k' i j
  unfolding Match Takes keep
  keep_to k none rs k' i j (inl m) = absurd m.1
  keep_to k none rs k' i j (inr m) = m
  keep_to k eps rs k' i j m = m
  keep_to k (one c) rs k' i j m = m
  keep_to k (a · b) rs k' i j m = m
  keep_to k (a ∣ b) rs k' i j m = m
  keep_to k (star a) rs k' i j m = m

  keep_from : (k : ℕ) (r : Re) (rs : List Rule) (k' i j : ℕ) → Takes t (keep k r rs) k' i j → ((k' ≡ k) × Match t r i j) ⊎ Takes t rs k' i j
  unfolding Match Takes keep
  keep_from k none rs k' i j m = inr m
  keep_from k eps rs k' i j m = m
  keep_from k (one c) rs k' i j m = m
  keep_from k (a · b) rs k' i j m = m
  keep_from k (a ∣ b) rs k' i j m = m
  keep_from k (star a) rs k' i j m = m

  -- What is left of the table after the letter at i takes the text from the next place to j.
  abbrev pub TakesLeft : List Rule → ℕ → ℕ → ℕ → Type 0
  TakesLeft S k i j = Takes t (left (t.letter i) S) k (t.next i) j

  pub takes_back : (S : List Rule) (k i j : ℕ) → TakesLeft S k i j → Takes t S k i j
  unfolding Takes left
  takes_back [] k i j m = m
  takes_back ((q ⇒ r) ∷ rs) k i j m =
      ⊎_elim (λ x. inl (x.0, back t r i j x.1)) (λ x. inr (takes_back rs k i j x))
      (keep_from q (der (t.letter i) r) (left (t.letter i) rs) k (t.next i) j m)

  pub takes_forth : (S : List Rule) (k i j : ℕ) → Takes t S k i j → ((i ≡ j) × Among k (accepts S)) ⊎ TakesLeft S k i j
  unfolding Takes left accepts
  takes_forth [] k i j m = absurd m
  takes_forth ((q ⇒ r) ∷ rs) k i j (inl m) =
      ⊎_elim
      (λ e. inl (e.0, subst (λ (x : ℕ). Among x (also (nullable r) q (accepts rs))) (sym m.0) (also_here (nullable r) q (accepts rs) e.1)))
      (λ d. inr (keep_to q (der (t.letter i) r) (left (t.letter i) rs) k (t.next i) j (inl (m.0, d))))
      (forth t r i j m.1)
  takes_forth ((q ⇒ r) ∷ rs) k i j (inr m) =
      ⊎_elim
      (λ e. inl (e.0, also_there (nullable r) k q (accepts rs) e.1))
      (λ d. inr (keep_to q (der (t.letter i) r) (left (t.letter i) rs) k (t.next i) j (inr d)))
      (takes_forth rs k i j m)

  pub takes_null : (S : List Rule) (k i : ℕ) → Among k (accepts S) → Takes t S k i i
  unfolding Takes accepts
  takes_null [] k i m = m
  takes_null ((q ⇒ r) ∷ rs) k i m =
      ⊎_elim (λ e. inl (e.0, null t r e.1 i)) (λ x. inr (takes_null rs k i x)) (also_from (nullable r) k q (accepts rs) m)

  -- Two tables, one after the other.
  pub append_to : (A B : List Rule) (k i j : ℕ) → Takes t A k i j ⊎ Takes t B k i j → Takes t (A ++ B) k i j
  unfolding Takes
  append_to [] B k i j (inl m) = absurd m
  append_to [] B k i j (inr m) = m
  append_to ((q ⇒ r) ∷ A) B k i j (inl (inl m)) = inl m
  append_to ((q ⇒ r) ∷ A) B k i j (inl (inr m)) = inr (append_to A B k i j (inl m))
  append_to ((q ⇒ r) ∷ A) B k i j (inr m) = inr (append_to A B k i j (inr m))

  pub append_from : (A B : List Rule) (k i j : ℕ) → Takes t (A ++ B) k i j → Takes t A k i j ⊎ Takes t B k i j
  unfolding Takes
  append_from [] B k i j m = inr m
  append_from ((q ⇒ r) ∷ A) B k i j (inl m) = inl (inl m)
  append_from ((q ⇒ r) ∷ A) B k i j (inr m) = ⊎_elim (λ x. inl (inr x)) (λ x. inr x) (append_from A B k i j m)

  -- What holds along every match holds along what a table takes.
  module _ (R : ℕ → ℕ → Type 0) (stay : (i : ℕ) → R i i) (then : (i j k : ℕ) → R i j → R j k → R i k)
      (step : (i : ℕ) (c : Class) → T (in_class c (t.letter i)) → R i (t.next i)) where
    pub takes_along : (S : List Rule) (k i j : ℕ) → Takes t S k i j → R i j
    unfolding Takes
    takes_along [] k i j m = absurd m
    takes_along ((q ⇒ r) ∷ rs) k i j (inl m) = along t R stay then step r i j m.1
    takes_along ((q ⇒ r) ∷ rs) k i j (inr m) = takes_along rs k i j m

-- What holds of the kinds of all rules holds of the kind of a match.
unfoldable pub kinds : (ℕ → Bool) → List Rule → Bool
kinds f [] = true
kinds f ((q ⇒ r) ∷ rs) = f q && kinds f rs

pub kind_of : (t : Text) (f : ℕ → Bool) (S : List Rule) → T (kinds f S) → (k i j : ℕ) → Takes t S k i j → T (f k)
unfolding kinds Takes
kind_of t f [] h k i j m = absurd m
kind_of t f ((q ⇒ r) ∷ rs) h k i j (inl m) = subst (λ (x : ℕ). T (f x)) (sym m.0) (and_left (f q) (kinds f rs) h)
kind_of t f ((q ⇒ r) ∷ rs) h k i j (inr m) = kind_of t f rs (and_right (f q) (kinds f rs) h) k i j m
