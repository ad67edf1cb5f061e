-- How the longest match of a table goes on, stops and fails, by what is left of the table after a letter.
-- Assumes nothing.
use mathlib.Core.Path.{◌≡◌, sym, subst}
use mathlib.Core.List.{List, [], ◌++◌}
use mathlib.Core.Logic.{◌⊎◌, inl, inr, ⊎_elim}
use Prim.Native.Nat.{ℕ, ◌≤◌, ◌<◌}
use native.Mathlib.Omega.{arith}
use native.Mathlib.Nat.{le_refl, le_trans, le_of_lt, le_antisymm}
use Rattle.regexes.specs.Regex.{Text, END, Rule, Takes, Longest, Nothing}
use Rattle.regexes.proofs.Tables.{left, accepts, Among, takes_back, takes_forth, takes_null, takes_along, append_to, append_from}

-- A text whose places go on, and whose letters are at most END.
pub record Sound (t : Text) : Type 0 where
  pub up : (i : ℕ) → i < t.next i
  pub low : (i : ℕ) → t.letter i ≤ END

module _ (t : Text) (sound : Sound t) where
  pub takes_up : (S : List Rule) (k i j : ℕ) → Takes t S k i j → i ≤ j
  takes_up = takes_along t (λ i j. i ≤ j) le_refl (λ i j k p q. le_trans p q) (λ i c h. le_of_lt (sound.up i))

  pub empty : (p : ℕ) → Nothing t [] p
  unfolding Takes
  empty p = record { none_takes = λ k e m. m }

  -- Nothing is taken, where no rule matches the empty text and what is left takes nothing.
  pub fail : (S : List Rule) (p : ℕ) → accepts S ≡ [] → Nothing t (left (t.letter p) S) (t.next p) → Nothing t S p
  fail S p a n =
      record {
        none_takes = λ k e m. ⊎_elim (λ w. subst (λ (ks : List ℕ). Among k ks) a w.1) (λ d. n.none_takes k e d) (takes_forth t S k p e m);
      }

  module _ (Beats : ℕ → ℕ → Type 0) where
    -- The longest match goes on past the letter.
    pub on : (S : List Rule) (p k e : ℕ) → Longest Beats t (left (t.letter p) S) (t.next p) k e → Longest Beats t S p k e
    on S p k e h =
        let far : t.next p ≤ e = takes_up (left (t.letter p) S) k (t.next p) e h.takes in
        let up = sound.up p in
        record {
          takes = takes_back t S k p e h.takes;
          longest = λ k' e' m. ⊎_elim (λ w. omega (arith, w.0)) (λ d. h.longest k' e' d) (takes_forth t S k' p e' m);
          first = λ k' m. ⊎_elim (λ w. absurd (omega (arith, w.0))) (λ d. h.first k' d) (takes_forth t S k' p e m);
        }

    -- It stops here, where what is left takes nothing. Of the kinds that the table gives, k comes first.
    pub halt : (S : List Rule) (p k : ℕ) → Among k (accepts S) → ((k' : ℕ) → Among k' (accepts S) → (k' ≡ k) ⊎ Beats k k')
        → Nothing t (left (t.letter p) S) (t.next p) → Longest Beats t S p k p
    halt S p k a b n =
        record {
          takes = takes_null t S k p a;
          longest = λ k' e' m. ⊎_elim (λ w. omega (arith, w.0)) (λ d. absurd (n.none_takes k' e' d)) (takes_forth t S k' p e' m);
          first = λ k' m. ⊎_elim (λ w. b k' w.1) (λ d. absurd (n.none_takes k' p d)) (takes_forth t S k' p p m);
        }

    -- The longest match of two tables: the second reaches less far than the first, or the first takes nothing.
    pub join_left : (A B : List Rule) (p k e : ℕ) → Longest Beats t A p k e → ((k' e' : ℕ) → Takes t B k' p e' → e' < e) → Longest Beats t (A ++ B) p k e
    join_left A B p k e l n =
        record {
          takes = append_to t A B k p e (inl l.takes);
          longest = λ k' e' m. ⊎_elim (λ x. l.longest k' e' x) (λ x. le_of_lt (n k' e' x)) (append_from t A B k' p e' m);
          first = λ k' m. ⊎_elim (λ x. l.first k' x) (λ x. absurd (omega (arith, n k' e x))) (append_from t A B k' p e m);
        }

    pub join_right : (A B : List Rule) (p k e : ℕ) → Nothing t A p → Longest Beats t B p k e → Longest Beats t (A ++ B) p k e
    join_right A B p k e n l =
        record {
          takes = append_to t A B k p e (inr l.takes);
          longest = λ k' e' m. ⊎_elim (λ x. absurd (n.none_takes k' e' x)) (λ x. l.longest k' e' x) (append_from t A B k' p e' m);
          first = λ k' m. ⊎_elim (λ x. absurd (n.none_takes k' e x)) (λ x. l.first k' x) (append_from t A B k' p e m);
        }

    -- No second longest match, where no two kinds beat each other.
    pub once : ((k k' : ℕ) → Beats k k' → Beats k' k → ⊥) → {S : List Rule} {p k e k' e' : ℕ}
        → Longest Beats t S p k e → Longest Beats t S p k' e' → (k ≡ k') × (e ≡ e')
    once fair {S} {p} {k} {e} {k'} {e'} l m =
        let q : e ≡ e' = le_antisymm (m.longest k e l.takes) (l.longest k' e' m.takes) in (
          settle
              (l.first k' (subst (λ (x : ℕ). Takes t S k' p x) (sym q) m.takes))
              (m.first k (subst (λ (x : ℕ). Takes t S k p x) q l.takes)),
          q,
        )
      where
        settle : (k' ≡ k) ⊎ Beats k k' → (k ≡ k') ⊎ Beats k' k → k ≡ k'
        settle (inl x) y = sym x
        settle (inr x) (inl y) = y
        settle (inr x) (inr y) = absurd (fair k k' x y)

  pub join_none : (A B : List Rule) (p : ℕ) → Nothing t A p → Nothing t B p → Nothing t (A ++ B) p
  join_none A B p n m =
      record { none_takes = λ k e x. ⊎_elim (n.none_takes k e) (m.none_takes k e) (append_from t A B k p e x) }
