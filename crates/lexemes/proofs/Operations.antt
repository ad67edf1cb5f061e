-- Operators: what is left of the rules after one, two or three bytes, by tests that antt computes.
-- Assumes nothing.
use mathlib.Core.Path.{◌≡◌, refl, sym, ◌∙◌, ap, subst}
use mathlib.Core.Bool.{Bool, true, false, true≢false, not, cond, ◌&&◌}
use mathlib.Core.List.{List, [], ◌∷◌}
use Prim.Native.Nat.{ℕ, ◌+◌, ◌<◌}
use native.Mathlib.Omega.{arith}
use native.Mathlib.Decide.{dec_lt, ℕ_discrete}
use lib.Dec.{T, eqb, eqb→eq, ltb, ltb→lt}
use lib.ListN.{get_or}
use borrow.Author.Tests.{ne_eqb}
use Rattle.std.proofs.Common.{Option, Some, None}
use Rattle.std.proofs.lemmas.Option.{none-some}
use Rattle.std.specs.Option.{is_some, unwrap_or}
use Rattle.regexes.specs.Regex.{END}
use Rattle.regexes.proofs.Bools.{refuted, and, and_left, and_right, every, Each, each, ask, all, all_at, implies, implied}
use Rattle.regexes.proofs.Tables.{left, steps, gives, silent}
use Rattle.lexemes.specs.Kinds.{OR, DOT, DOTDOTDOT, STRING_BLOCK}
use Rattle.lexemes.specs.Letters.{WHITE, OTHER, next}
use Rattle.lexemes.specs.Rules.{rules}
use Rattle.lexemes.specs.Lexeme.{Ruled, longest}
use Rattle.lexemes.specs.Scan.{Best, class_of, ascii_class, named, single, pair, Alone, Lone}
use Rattle.lexemes.proofs.Letters.{by_byte}
use Rattle.lexemes.proofs.Moves.{Sees, plain, not_in, not_all, byte, none, go, stop, stop_before, never}
use Rattle.lexemes.proofs.Classes.{between, is_between, class_small, operator_class}
use Rattle.lexemes.proofs.Quotes.{done, ended}

-- A byte that begins an operator other than a dot.
abbrev begins : ℕ → Bool
begins b = between 10 10 b && not_in (46 ∷ []) b

-- After such a byte: its own operator, which goes on only as a pair.
abbrev after_one : ℕ → List Bool
after_one b =
    plain b ∷ gives (left b rules) (single b) ∷ steps rules (eqb b) (left b rules) ∷ steps (left b rules) (λ l. eqb (pair b l) 0) []
    ∷ eqb (pair b WHITE) 0 ∷ eqb (pair b OTHER) 0 ∷ eqb (pair b END) 0 ∷ []

ones : T (implies 128 begins (λ b. every (after_one b)))
unfolding implies gives steps left rules single pair class_of ascii_class
ones = tt

-- After a pair: its own operator, which goes on only from `||`.
abbrev past-pair : ℕ → ℕ → Bool
past-pair k d = ask (eqb k OR) (λ u. not (eqb d 124))

abbrev after_two : ℕ → ℕ → List Bool
after_two b c =
    plain c ∷ gives (left c (left b rules)) (pair b c) ∷ steps (left b rules) (eqb c) (left c (left b rules))
    ∷ steps (left c (left b rules)) (past-pair (pair b c)) [] ∷ past-pair (pair b c) WHITE ∷ past-pair (pair b c) OTHER ∷ past-pair (pair b c) END ∷ []

-- Of two bytes that are no operator nothing is asked.
abbrev is_pair : ℕ → ℕ → Bool
is_pair b c = not (eqb (pair b c) 0)

pairs_of : ℕ → Bool
pairs_of b = implies 128 (is_pair b) (λ c. every (after_two b c))

twos : T (implies 128 begins pairs_of)
unfolding pairs_of implies gives steps left rules single pair class_of ascii_class
twos = tt

-- The second byte of a pair is one of ASCII; `||` is the only pair of its kind.
pair_low : (b c : ℕ) → b < 128 → (pair b c ≡ 0 → ⊥) → c < 128
unfolding pair
pair_low b c h n = by (dec_lt c 128)
  where
    by : Dec (c < 128) → c < 128
    by (yes l) = l
    by (no m) = absurd (n (simp (ne_eqb c 61 (λ e. omega arith), ne_eqb b c (λ e. omega arith))))

or_of : ℕ → Bool
or_of b = implies 128 (λ c. eqb (pair b c) OR) (λ c. eqb b 124 && eqb c 124)

all_or : T (all or_of 128)
unfolding all or_of implies pair
all_or = tt

pair_or : (b c : ℕ) → b < 128 → c < 128 → pair b c ≡ OR → (b ≡ 124) × (c ≡ 124)
unfolding or_of
pair_or b c h g e =
    let t = implied 128 (λ c. eqb (pair b c) OR) (λ c. eqb b 124 && eqb c 124) (all_at or_of 128 all_or b h) c g (subst (λ (k : ℕ). T (eqb k OR)) (sym e) tt) in
    (eqb→eq b 124 (and_left (eqb b 124) (eqb c 124) t), eqb→eq c 124 (and_right (eqb b 124) (eqb c 124) t))

module _ (s : List ℕ) (at : ℕ) (h : class_of (get_or s at 0) ≡ 10) (n : get_or s at 0 ≡ 46 → ⊥) where
  small : get_or s at 0 < 128
  small = class_small (get_or s at 0) (omega (arith, h))

  operator : T (begins (get_or s at 0))
  operator =
      and (between 10 10 (get_or s at 0)) (not_in (46 ∷ []) (get_or s at 0)) (is_between 10 10 (get_or s at 0) (omega (arith, h)) (omega (arith, h))) (not_all (46 ∷ []) (get_or s at 0) (n, tt))

  one : Each (after_one (get_or s at 0))
  one = each (after_one (get_or s at 0)) (implied 128 begins (λ b. every (after_one b)) ones (get_or s at 0) small operator)

  -- "single": no pair stands there.
  single_scanned : pair (get_or s at 0) (get_or s (at + 1) 0) ≡ 0 → Ruled s at (single (get_or s at 0)) (at + 1)
  single_scanned e = longest (go (byte s at (get_or s at 0) one.0 refl) (stop x one.1.1.1.0 one.1.0) one.1.1.0)
    where
      x : Sees s (at + 1) (λ l. eqb (pair (get_or s at 0) l) 0) (next s (at + 1))
      x =
          record {
            passes = by_byte s (at + 1) (λ l. eqb (pair (get_or s at 0) l) 0) one.1.1.1.1.0 one.1.1.1.1.1.0 one.1.1.1.1.1.1.0
                (λ low. subst (λ (k : ℕ). T (eqb k 0)) (sym e) tt);
            after = refl;
          }

  module _ (p : pair (get_or s at 0) (get_or s (at + 1) 0) ≡ 0 → ⊥) (low : get_or s (at + 1) 0 < 128) where
    two : Each (after_two (get_or s at 0) (get_or s (at + 1) 0))
    unfolding pairs_of
    two =
        each (after_two (get_or s at 0) (get_or s (at + 1) 0))
        (implied 128 (is_pair (get_or s at 0)) (λ c. every (after_two (get_or s at 0) c)) (implied 128 begins pairs_of twos (get_or s at 0) small operator) (get_or s (at + 1) 0) low
        (subst (λ (t : Bool). T (not t)) (sym (ne_eqb (pair (get_or s at 0) (get_or s (at + 1) 0)) 0 p)) tt))

    second : {k e : ℕ} → Best s (left (get_or s (at + 1) 0) (left (get_or s at 0) rules)) (at + 2) k e → Ruled s at k e
    second {k} {e} l =
        longest
        (go (byte s at (get_or s at 0) one.0 refl)
        (go (byte s (at + 1) (get_or s (at + 1) 0) two.0 refl) (subst (λ (x : ℕ). Best s (left (get_or s (at + 1) 0) (left (get_or s at 0) rules)) x k e) (omega arith) l) two.1.1.0)
        one.1.1.0)

    pair_scanned : (pair (get_or s at 0) (get_or s (at + 1) 0) ≡ OR → get_or s (at + 2) 0 ≡ 124 → ⊥) → Ruled s at (pair (get_or s at 0) (get_or s (at + 1) 0)) (at + 2)
    pair_scanned z = second (stop x two.1.1.1.0 two.1.0)
      where
        past : (k : ℕ) → (k ≡ OR → get_or s (at + 2) 0 ≡ 124 → ⊥) → T (past-pair k (get_or s (at + 2) 0))
        past k z = asks (eqb k OR) (λ t. z (eqb→eq k OR t))
          where
            asks : (a : Bool) → (T a → get_or s (at + 2) 0 ≡ 124 → ⊥) → T (ask a (λ u. not (eqb (get_or s (at + 2) 0) 124)))
            asks true z = subst (λ (t : Bool). T (not t)) (sym (ne_eqb (get_or s (at + 2) 0) 124 (z tt))) tt
            asks false z = tt

        x : Sees s (at + 2) (past-pair (pair (get_or s at 0) (get_or s (at + 1) 0))) (next s (at + 2))
        x =
            record {
              passes = by_byte s (at + 2) (past-pair (pair (get_or s at 0) (get_or s (at + 1) 0))) two.1.1.1.1.0 two.1.1.1.1.1.0 two.1.1.1.1.1.1.0
                  (λ b. past (pair (get_or s at 0) (get_or s (at + 1) 0)) z);
              after = refl;
            }

-- `|||` and dots.
bars : T (steps rules (eqb 124) (left 124 rules))
unfolding steps rules
bars = tt

two_bars : T (steps (left 124 rules) (eqb 124) (left 124 (left 124 rules)))
unfolding steps rules
two_bars = tt

three_bars : T (steps (left 124 (left 124 rules)) (eqb 124) (done STRING_BLOCK))
unfolding steps rules
three_bars = tt

dot : T (steps rules (eqb 46) (left 46 rules))
unfolding steps rules
dot = tt

two_dots : T (steps (left 46 rules) (eqb 46) (left 46 (left 46 rules)))
unfolding steps rules
two_dots = tt

three_dots : T (steps (left 46 (left 46 rules)) (eqb 46) (done DOTDOTDOT))
unfolding steps rules
three_dots = tt

dot_ends : T (steps (left 46 rules) (not_in (46 ∷ [])) [])
unfolding steps rules
dot_ends = tt

two_dots_end : T (steps (left 46 (left 46 rules)) (not_in (46 ∷ [])) [])
unfolding steps rules
two_dots_end = tt

gives_dot : T (gives (left 46 rules) DOT)
unfolding gives left rules
gives_dot = tt

silent_dots : T (silent (left 46 (left 46 rules)))
unfolding silent left rules
silent_dots = tt

module _ (s : List ℕ) (at : ℕ) where
  -- Three of one byte.
  thrice : {k b : ℕ} → T (plain b) → get_or s at 0 ≡ b → get_or s (at + 1) 0 ≡ b → get_or s (at + 2) 0 ≡ b → T (steps rules (eqb b) (left b rules))
      → T (steps (left b rules) (eqb b) (left b (left b rules))) → T (steps (left b (left b rules)) (eqb b) (done k)) → Ruled s at k (at + 3)
  thrice {k} {b} p x y z t u v =
      longest
      (go (byte s at b p x)
      (go (byte s (at + 1) b p y)
      (subst (λ (i : ℕ). Best s (left b (left b rules)) i k (at + 3)) (omega arith)
      (go (byte s (at + 2) b p z) (subst (λ (i : ℕ). Best s (done k) i k (at + 3)) (omega arith) (ended s k (at + 3))) v))
      u) t)

  pub bars_scanned : get_or s at 0 ≡ 124 → get_or s (at + 1) 0 ≡ 124 → get_or s (at + 2) 0 ≡ 124 → Ruled s at STRING_BLOCK (at + 3)
  bars_scanned x y z = thrice {b = 124} tt x y z bars two_bars three_bars

  pub dots_scanned : get_or s at 0 ≡ 46 → get_or s (at + 1) 0 ≡ 46 → get_or s (at + 2) 0 ≡ 46 → Ruled s at DOTDOTDOT (at + 3)
  dots_scanned x y z = thrice {b = 46} tt x y z dot two_dots three_dots

  pub dot_scanned : get_or s at 0 ≡ 46 → (get_or s (at + 1) 0 ≡ 46 → ⊥) → Ruled s at DOT (at + 1)
  dot_scanned x n = longest (go (byte s at 46 tt x) (stop (none s (at + 1) (46 ∷ []) tt (n, tt)) dot_ends gives_dot) dot)

  pub two_dots_scanned : get_or s at 0 ≡ 46 → get_or s (at + 1) 0 ≡ 46 → (get_or s (at + 2) 0 ≡ 46 → ⊥) → Ruled s at DOT (at + 1)
  two_dots_scanned x y n =
      longest
      (go (byte s at 46 tt x)
      (stop_before (byte s (at + 1) 46 tt y) (never (none s (at + 1 + 1) (46 ∷ []) tt ((λ e. n (subst (λ (i : ℕ). get_or s i 0 ≡ 46) (omega arith) e)), tt)) two_dots_end silent_dots) two_dots gives_dot)
      dot)

-- An operator by its pair, which is 0 where there is none.
module _ (s : List ℕ) (at : ℕ) (h : class_of (get_or s at 0) ≡ 10) (n : get_or s at 0 ≡ 46 → ⊥) {two : ℕ} (e : two ≡ pair (get_or s at 0) (get_or s (at + 1) 0)) where
  pub one_byte : {k : ℕ} → two ≡ 0 → k ≡ single (get_or s at 0) → Ruled s at k (at + 1)
  one_byte z q = subst (λ (x : ℕ). Ruled s at x (at + 1)) (sym q) (single_scanned s at h n (sym e ∙ z))

  second_low : (two ≡ 0 → ⊥) → get_or s (at + 1) 0 < 128
  second_low z = pair_low (get_or s at 0) (get_or s (at + 1) 0) (small s at h n) (λ q. z (e ∙ q))

  pub two_bytes : (two ≡ 0 → ⊥) → (two ≡ OR → get_or s (at + 2) 0 ≡ 124 → ⊥) → Ruled s at two (at + 2)
  two_bytes z m = subst (λ (x : ℕ). Ruled s at x (at + 2)) (sym e) (pair_scanned s at h n (λ q. z (e ∙ q)) (second_low z) (λ q. m (e ∙ q)))

  pub three_bytes : two ≡ OR → get_or s (at + 2) 0 ≡ 124 → Ruled s at STRING_BLOCK (at + 3)
  three_bytes z g =
      let b = pair_or (get_or s at 0) (get_or s (at + 1) 0) (small s at h n) (second_low (λ q. omega (arith, q, z))) (sym e ∙ z) in
      bars_scanned s at b.0 b.1 g

-- An operator of one byte, seen by the byte after it.
pub flat : (x y : Bool) → ◌≡◌ {A = ℕ} (cond x 0 (cond y 0 0)) 0
flat true y = refl
flat false true = refl
flat false false = refl

-- The bytes that begin longer operators, or dots; the operators of the others stand alone.
abbrev pub longer : List ℕ
longer = 61 ∷ 33 ∷ 60 ∷ 62 ∷ 38 ∷ 63 ∷ 124 ∷ 46 ∷ []

no_longer : T (implies 256 (not_in longer) (λ b. eqb (pair b 61) 0 && eqb (pair b b) 0))
unfolding implies pair
no_longer = tt

pair_none : (b c : ℕ) → pair b 61 ≡ 0 → pair b b ≡ 0 → pair b c ≡ 0
unfolding pair
pair_none b c e q = by (ℕ_discrete c 61) (ℕ_discrete b c)
  where
    by : Dec (c ≡ 61) → Dec (b ≡ c) → pair b c ≡ 0
    by (yes x) d = subst (λ (y : ℕ). pair b y ≡ 0) (sym x) e
    by (no n) (yes x) = subst (λ (y : ℕ). pair b y ≡ 0) x q
    by (no n) (no m) = simp (ne_eqb c 61 n, ne_eqb b c m)

named_is : (k : ℕ) → (k ≡ 0 → ⊥) → named k ≡ Some k
named_is k n = ap (λ (t : Bool). cond t None (Some k)) (ne_eqb k 0 n)

pub named_some : {k x : ℕ} → Some x ≡ named k → (x ≡ k) × (k ≡ 0 → ⊥)
named_some {k} {x} e = by (ℕ_discrete k 0)
  where
    by : Dec (k ≡ 0) → (x ≡ k) × (k ≡ 0 → ⊥)
    by (yes z) = absurd (none-some x (sym (e ∙ ap named z)))
    by (no n) = (ap (λ (o : Option ℕ). unwrap_or o 0) (e ∙ named_is k n), n)

pub named_none : {k : ℕ} → None ≡ named k → k ≡ 0
named_none {k} e = by (ℕ_discrete k 0)
  where
    by : Dec (k ≡ 0) → k ≡ 0
    by (yes z) = z
    by (no n) = absurd (none-some k (e ∙ named_is k n))

lone : (b : ℕ) → b < 256 → T (not_in longer b) → (o : Option ℕ) → o ≡ named (single b) → Lone b o
lone b h t None e = tt
lone b h t (Some k) e = λ c. record {
  class = operator_class b h n.1;
  kind = n.0;
  no_pair = pair_none b c (eqb→eq (pair b 61) 0 (and_left (eqb (pair b 61) 0) (eqb (pair b b) 0) q)) (eqb→eq (pair b b) 0 (and_right (eqb (pair b 61) 0) (eqb (pair b b) 0) q));
  no_dots = λ x y. subst (λ (z : ℕ). T (not_in longer z)) x t;
}
  where
    n : (k ≡ single b) × (single b ≡ 0 → ⊥)
    n = named_some e

    q : T (eqb (pair b 61) 0 && eqb (pair b b) 0)
    q = implied 256 (not_in longer) (λ b. eqb (pair b 61) 0 && eqb (pair b b) 0) no_longer b h t

pub alone : (b : ℕ) {x k : ℕ} → x ≡ b → b < 256 → T (not_in longer b) → Some k ≡ named (single b) → Lone x (Some k)
alone b {k = k} e h t q = subst (λ (y : ℕ). Lone y (Some k)) (sym e) (lone b h t (Some k) q)

-- Whether a byte is an operator.
pub is_operator : (b : ℕ) → b < 256 → (o : Option ℕ) → o ≡ named (single b) → is_some o ≡ true → 10 ≡ class_of b
is_operator b h None e t = absurd (true≢false (sym t))
is_operator b h (Some k) e t = sym (operator_class b h (named_some e).1)

pub no_operator : (b : ℕ) (o : Option ℕ) → o ≡ named (single b) → is_some o ≡ false → single b ≡ 0
no_operator b None e t = named_none e
no_operator b (Some k) e t = absurd (true≢false t)

-- A byte of the operators' class is one.
all_single : T (implies 128 (λ b. eqb (class_of b) 10) (λ b. not (eqb (single b) 0)))
unfolding implies class_of ascii_class single
all_single = tt

pub single_some : (b : ℕ) → class_of b ≡ 10 → None ≡ named (single b) → ⊥
single_some b e z =
    refuted (eqb (single b) 0)
    (implied 128 (λ b. eqb (class_of b) 10) (λ b. not (eqb (single b) 0)) all_single b (class_small b (omega (arith, e))) (subst (λ (x : ℕ). T (eqb x 10)) (sym e) tt))
    (subst (λ (x : ℕ). T (eqb x 0)) (sym (named_none z)) tt)

-- An operator by its pair, which may be none.
module _ (s : List ℕ) (at : ℕ) (h : class_of (get_or s at 0) ≡ 10) (n : get_or s at 0 ≡ 46 → ⊥) where
  pub by_one : {k : ℕ} → None ≡ named (pair (get_or s at 0) (get_or s (at + 1) 0)) → Some k ≡ named (single (get_or s at 0)) → Ruled s at k (at + 1)
  by_one z e = one_byte s at h n refl (named_none z) (named_some e).0

  pub by_two : {k : ℕ} → Some k ≡ named (pair (get_or s at 0) (get_or s (at + 1) 0)) → (k ≡ OR → get_or s (at + 2) 0 ≡ 124 → ⊥) → Ruled s at k (at + 2)
  by_two e m = let x = named_some e in two_bytes s at h n x.0 (λ z. x.1 (sym x.0 ∙ z)) m

  pub by_three : {k : ℕ} → Some k ≡ named (pair (get_or s at 0) (get_or s (at + 1) 0)) → k ≡ OR → get_or s (at + 2) 0 ≡ 124 → Ruled s at STRING_BLOCK (at + 3)
  by_three e o g = three_bytes s at h n (named_some e).0 o g

pub alone_scanned : (s : List ℕ) (at : ℕ) {k : ℕ} → Alone (get_or s at 0) (get_or s (at + 1) 0) k → Ruled s at k (at + 1)
unfolding single
alone_scanned s at {k} a = by (ℕ_discrete (get_or s at 0) 46)
  where
    by : Dec (get_or s at 0 ≡ 46) → Ruled s at k (at + 1)
    by (yes e) = subst (λ (x : ℕ). Ruled s at x (at + 1)) (sym (a.kind ∙ ap single e)) (dot_scanned s at e (a.no_dots e))
    by (no n) = subst (λ (x : ℕ). Ruled s at x (at + 1)) (sym a.kind) (single_scanned s at a.class n a.no_pair)

all_low : T (all (λ b. ltb (single b) 37) 128)
unfolding all single
all_low = tt

pub alone_low : {b c k : ℕ} → Alone b c k → k < 37
alone_low {b} a = omega (arith, a.kind, ltb→lt (single b) 37 (all_at (λ b. ltb (single b) 37) 128 all_low b (class_small b (omega (arith, a.class)))))
