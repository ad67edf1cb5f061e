-- Where the machine sticks is where no JSON text continues.
-- Assumes nothing.
use mathlib.Core.Path.{◌≡◌, refl, sym, ap, subst, ◌∙◌}
use mathlib.Core.Bool.{Bool, true, false, cond, ◌&&◌, ◌||◌}
use mathlib.Core.List.{List, [], ◌∷◌, ◌++◌}
use Prim.Native.Nat.{ℕ, zero, suc, ◌+◌, ◌-◌, ◌*◌, ◌≤◌, ◌<◌}
use native.Mathlib.Omega.{arith}
use lib.Dec.{eqb, leb}
use lib.ListN.{length, take}
use Rattle.numerals.specs.Value.{is_digit}
use Rattle.strings.specs.Utf8.{utf8}
use Rattle.grammar.specs.Tags.{NULL, BOOL}
use Rattle.grammar.specs.Trees.{byte, Trees, none, tree, ◌⊕◌}
use Rattle.grammar.specs.Numbers.{DEPTH, LARGE}
use Rattle.grammar.specs.Answer.{Verdict, refused}
use Rattle.grammar.specs.Answer as answer
use Rattle.json_import.specs.Tokens.{is_blank, is_plain}
use Rattle.json_import.specs.Values.{field, array, object, can_begin}
use Rattle.json_import.specs.Json.{NOT_JSON}
use Rattle.json_import.specs.Machine.{Frame, arr, obj, Use, a_value, a_name, Shape, Escape, slash, u_none, u_one, u_two, u_three, high, high_slash, high_u, low_one, low_two, low_three, State, want, first, first_name, name, colon, after, word, minus, digits, chars, escape, stuck, broken, next, begun, whole, is_over, hex, meant, closed, escaped, signed, past, spelled, start, begin, ended, step, finish, run}
use Rattle.json_import.proofs.Skips.{stays_broken, stays_stuck}
use Rattle.json_import.proofs.Completes.{endless, boundless, Alive, complete}

-- ── A state that is alive stays so, or sticks where it is ─────────────────────────────────────────

pub data After (i : ℕ) (st : State) : Type 0 where
  alive : Alive st → After i st
  sticks : st ≡ stuck i → After i st

module _ {i : ℕ} where
  pick : (c : Bool) (x y : State) → After i x → After i y → After i (cond c x y)
  pick true x y p q = p
  pick false x y p q = q

  pick_2 : (c d : Bool) (x y z : State) → After i x → After i y → After i z → After i (cond c x (cond d y z))
  pick_2 c d x y z p q r = pick c x (cond d y z) p (pick d y z q r)

  pick_3 : (c d e : Bool) (x y z u : State) → After i x → After i y → After i z → After i u → After i (cond c x (cond d y (cond e z u)))
  pick_3 c d e x y z u p q r s = pick c x (cond d y (cond e z u)) p (pick_2 d e y z u q r s)

begun_on : (b : ℕ) → is_over (begun b) ≡ false
unfolding is_over
begun_on b = by (eqb b 0x30)
  where
    by : (c : Bool) → is_over (cond c Shape.zero Shape.int) ≡ false
    by true = refl
    by false = refl

start_after : (fs : List Frame) (i b : ℕ) → After i (start fs i b)
unfolding start
start_after fs i b =
    pick (is_digit b) (digits (begun b) false i (b ∷ []) fs) _ (alive (begun_on b))
    (pick_3 (eqb b 0x22) (eqb b 0x5B) (eqb b 0x7B) (chars [] a_value fs) (first fs) (first_name fs) _ (alive tt) (alive tt) (alive tt)
    (pick_3 (eqb b 0x2D) (eqb b 0x66) (eqb b 0x6E) (minus fs) (word (0x61 ∷ 0x6C ∷ 0x73 ∷ 0x65 ∷ []) (tree BOOL (byte 0 ∷ []) none) fs) (word (0x75 ∷ 0x6C ∷ 0x6C ∷ []) (tree NULL [] none) fs) _ (alive tt) (alive tt) (alive tt)
    (pick (eqb b 0x74) (word (0x72 ∷ 0x75 ∷ 0x65 ∷ []) (tree BOOL (byte 1 ∷ []) none) fs) (stuck i) (alive tt) (sticks refl))))

begin_after : (fs : List Frame) (i b : ℕ) → After i (begin endless boundless fs i b)
unfolding begin
begin_after fs i b = pick (can_begin b) (start fs i b) (stuck i) (start_after fs i b) (sticks refl)

past_after : (t : Trees) (fs : List Frame) (i b : ℕ) → After i (past t fs i b)
unfolding past
past_after t [] i b = pick (is_blank b) (after t []) (stuck i) (alive tt) (sticks refl)
past_after t (arr ts ∷ fs) i b =
    pick_3 (is_blank b) (eqb b 0x2C) (eqb b 0x5D) (after t (arr ts ∷ fs)) (want (arr (ts ⊕ t) ∷ fs)) (after (array (ts ⊕ t)) fs) (stuck i) (alive tt) (alive tt) (alive tt) (sticks refl)
past_after t (obj ts w a e ∷ fs) i b =
    pick_3 (is_blank b) (eqb b 0x2C) (eqb b 0x7D) (after t (obj ts w a e ∷ fs)) (name (ts ⊕ field w a e t) fs) (after (object (ts ⊕ field w a e t)) fs) (stuck i) (alive tt) (alive tt) (alive tt) (sticks refl)

closed_after : (w : List ℕ) (u : Use) (e : ℕ) (fs : List Frame) (i : ℕ) → After i (closed w u e fs)
unfolding closed
closed_after w a_value e fs i = alive tt
closed_after w (a_name ts a) e fs i = alive tt

spelled_after : (c : ℕ) (cs : List ℕ) (t : Trees) (fs : List Frame) (i b : ℕ) → After i (spelled (c ∷ cs) t fs i b)
unfolding spelled
spelled_after c [] t fs i b = pick (eqb b c) (after t fs) (stuck i) (alive tt) (sticks refl)
spelled_after c (d ∷ cs) t fs i b = pick (eqb b c) (word (d ∷ cs) t fs) (stuck i) (alive tt) (sticks refl)

escaped_after : (x : Escape) (w : List ℕ) (u : Use) (fs : List Frame) (i b : ℕ) → After i (escaped x w u fs i b)
unfolding escaped
escaped_after slash w u fs i b = pick_2 (eqb b 0x75) (leb 256 (meant b)) (escape u_none w u fs) (stuck i) (chars (w ++ (meant b ∷ [])) u fs) (alive tt) (sticks refl) (alive tt)
escaped_after u_none w u fs i b = pick (leb 16 (hex b)) (stuck i) (escape (u_one (hex b)) w u fs) (sticks refl) (alive tt)
escaped_after (u_one x) w u fs i b =
    pick (leb 16 (hex b) || (leb 0xDC (x * 16 + hex b) && leb (x * 16 + hex b) 0xDF)) (stuck i) (escape (u_two (x * 16 + hex b)) w u fs) (sticks refl) (alive tt)
escaped_after (u_two x) w u fs i b = pick (leb 16 (hex b)) (stuck i) (escape (u_three (x * 16 + hex b)) w u fs) (sticks refl) (alive tt)
escaped_after (u_three x) w u fs i b =
    pick_2 (leb 16 (hex b)) (leb 0xD800 (x * 16 + hex b) && leb (x * 16 + hex b) 0xDBFF) (stuck i) (escape (high (x * 16 + hex b)) w u fs) (chars (w ++ utf8 (x * 16 + hex b)) u fs) (sticks refl) (alive tt) (alive tt)
escaped_after (high n) w u fs i b = pick (eqb b 0x5C) (escape (high_slash n) w u fs) (stuck i) (alive tt) (sticks refl)
escaped_after (high_slash n) w u fs i b = pick (eqb b 0x75) (escape (high_u n) w u fs) (stuck i) (alive tt) (sticks refl)
escaped_after (high_u n) w u fs i b = pick (eqb (hex b) 13) (escape (low_one n) w u fs) (stuck i) (alive tt) (sticks refl)
escaped_after (low_one n) w u fs i b = pick (leb 12 (hex b) && leb (hex b) 15) (escape (low_two n (13 * 16 + hex b)) w u fs) (stuck i) (alive tt) (sticks refl)
escaped_after (low_two n x) w u fs i b = pick (leb 16 (hex b)) (stuck i) (escape (low_three n (x * 16 + hex b)) w u fs) (sticks refl) (alive tt)
escaped_after (low_three n x) w u fs i b =
    pick (leb 16 (hex b)) (stuck i) (chars (w ++ utf8 (0x10000 + (n - 0xD800) * 0x400 + (x * 16 + hex b - 0xDC00))) u fs) (sticks refl) (alive tt)

digits_after : (sh : Shape) (neg : Bool) (a : ℕ) (w : List ℕ) (fs : List Frame) (i b : ℕ) → After i (step endless boundless (digits sh neg a w fs) i b)
unfolding step
digits_after sh neg a w fs i b = by (is_over (next sh b)) refl
  where
    by : (c : Bool) → is_over (next sh b) ≡ c → After i (cond c (cond (whole sh) (past (signed neg w) fs i b) (stuck i)) (digits (next sh b) neg a (w ++ (b ∷ [])) fs))
    by true e = pick (whole sh) (past (signed neg w) fs i b) (stuck i) (past_after (signed neg w) fs i b) (sticks refl)
    by false e = alive e

step_after : (st : State) (i b : ℕ) → Alive st → After i (step endless boundless st i b)
unfolding step
step_after (want fs) i b x = pick (is_blank b) (want fs) (begin endless boundless fs i b) (alive tt) (begin_after fs i b)
step_after (first fs) i b x =
    pick_2 (is_blank b) (eqb b 0x5D) (first fs) (after (array none) fs) (begin endless boundless (arr none ∷ fs) i b) (alive tt) (alive tt) (begin_after (arr none ∷ fs) i b)
step_after (first_name fs) i b x =
    pick_3 (is_blank b) (eqb b 0x22) (eqb b 0x7D) (first_name fs) (chars [] (a_name none i) fs) (after (object none) fs) (stuck i) (alive tt) (alive tt) (alive tt) (sticks refl)
step_after (name ts fs) i b x = pick_2 (is_blank b) (eqb b 0x22) (name ts fs) (chars [] (a_name ts i) fs) (stuck i) (alive tt) (alive tt) (sticks refl)
step_after (colon ts w a e fs) i b x = pick_2 (is_blank b) (eqb b 0x3A) (colon ts w a e fs) (want (obj ts w a e ∷ fs)) (stuck i) (alive tt) (alive tt) (sticks refl)
step_after (after t fs) i b x = past_after t fs i b
step_after (word [] t fs) i b x = absurd x
step_after (word (c ∷ cs) t fs) i b x = spelled_after c cs t fs i b
step_after (minus fs) i b x = pick (is_digit b) (digits (begun b) true i (b ∷ []) fs) (stuck i) (alive (begun_on b)) (sticks refl)
step_after (digits sh neg a w fs) i b x = digits_after sh neg a w fs i b
step_after (chars w u fs) i b x =
    pick_3 (is_plain b) (eqb b 0x22) (eqb b 0x5C) (chars (w ++ (b ∷ [])) u fs) (closed w u (i + 1) fs) (escape slash w u fs) (stuck i) (alive tt) (closed_after w u (i + 1) fs i) (alive tt) (sticks refl)
step_after (escape y w u fs) i b x = escaped_after y w u fs i b
step_after (stuck n) i b x = absurd x
step_after (broken n a e) i b x = absurd x

-- ── With limits: as without them, or broken off ───────────────────────────────────────────────────

data Same (x y : State) : Type 0 where
  same : x ≡ y → Same x y
  broke : (n a e : ℕ) → (n ≡ NOT_JSON → ⊥) → x ≡ broken n a e → Same x y

itself : (x : State) → Same x x
itself x = same refl

pub number_of : {n a e x m b c y : ℕ} → refused n a e x ≡ refused m b c y → n ≡ m
number_of p = cc

place_of : {a b : ℕ} → refused NOT_JSON a a 0 ≡ refused NOT_JSON b b 0 → a ≡ b
place_of p = cc

pub no_tree : {t : Trees} {n a e x : ℕ} → answer.tree t ≡ refused n a e x → ⊥
no_tree p = let z : ◌≡◌ {A = ℕ} 0 1 = cc in omega arith

module _ (deep : ℕ → Bool) (vast : List ℕ → Bool) where
  both : (c : Bool) {x x' y y' : State} → Same x x' → Same y y' → Same (cond c x y) (cond c x' y')
  both true p q = p
  both false p q = q

  limited : (c : Bool) (n a e : ℕ) (x : State) → (n ≡ NOT_JSON → ⊥) → Same (cond c (broken n a e) x) x
  limited true n a e x h = broke n a e h refl
  limited false n a e x h = same refl

  begin_same : (fs : List Frame) (i b : ℕ) → Same (begin deep vast fs i b) (begin endless boundless fs i b)
  unfolding begin
  begin_same fs i b = both (can_begin b) (limited (deep (length fs)) DEPTH i i (start fs i b) (λ e. omega (arith, e))) (itself (stuck i))

  step_same : (st : State) (i b : ℕ) → Same (step deep vast st i b) (step endless boundless st i b)
  unfolding step
  step_same (want fs) i b = both (is_blank b) (itself (want fs)) (begin_same fs i b)
  step_same (first fs) i b = both (is_blank b) (itself (first fs)) (both (eqb b 0x5D) (itself (after (array none) fs)) (begin_same (arr none ∷ fs) i b))
  step_same (first_name fs) i b = same refl
  step_same (name ts fs) i b = same refl
  step_same (colon ts w a e fs) i b = same refl
  step_same (after t fs) i b = same refl
  step_same (word cs t fs) i b = same refl
  step_same (minus fs) i b = both (is_digit b) (limited (deep (length fs + 1)) DEPTH i i (digits (begun b) true i (b ∷ []) fs) (λ e. omega (arith, e))) (itself (stuck i))
  step_same (digits sh neg a w fs) i b =
      both (is_over (next sh b)) (both (whole sh) (limited (vast w) LARGE a i (past (signed neg w) fs i b) (λ e. omega (arith, e))) (itself (stuck i))) (itself (digits (next sh b) neg a (w ++ (b ∷ [])) fs))
  step_same (chars w u fs) i b = same refl
  step_same (escape x w u fs) i b = same refl
  step_same (stuck n) i b = same refl
  step_same (broken n a e) i b = same refl

  finish_same : (st : State) (i n : ℕ) → finish deep vast st i ≡ refused NOT_JSON n n 0 → finish endless boundless st i ≡ refused NOT_JSON n n 0
  unfolding finish
  finish_same (want fs) i n p = p
  finish_same (first fs) i n p = p
  finish_same (first_name fs) i n p = p
  finish_same (name ts fs) i n p = p
  finish_same (colon ts w a e fs) i n p = p
  finish_same (after t fs) i n p = p
  finish_same (word cs t fs) i n p = p
  finish_same (minus fs) i n p = p
  finish_same (digits sh neg a w fs) i n p = by (whole sh) (vast w) p
    where
      by : (c d : Bool) → cond c (cond d (refused LARGE a i 0) (ended deep vast (signed neg w) fs i)) (refused NOT_JSON i i 0) ≡ refused NOT_JSON n n 0
          → cond c (ended endless boundless (signed neg w) fs i) (refused NOT_JSON i i 0) ≡ refused NOT_JSON n n 0
      by false d q = q
      by true true q = absurd (omega (arith, number_of q))
      by true false q = ended_same fs q
        where
          ended_same : (fs : List Frame) → ended deep vast (signed neg w) fs i ≡ refused NOT_JSON n n 0 → ended endless boundless (signed neg w) fs i ≡ refused NOT_JSON n n 0
          ended_same [] q = q
          ended_same (f ∷ fs) q = q
  finish_same (chars w u fs) i n p = p
  finish_same (escape x w u fs) i n p = p
  finish_same (stuck m) i n p = p
  finish_same (broken m a e) i n p = p

  -- Where the machine sticks with limits, it sticks without them.
  pub run_same : (s : List ℕ) (st : State) (i n : ℕ) → run deep vast st i s ≡ refused NOT_JSON n n 0 → run endless boundless st i s ≡ refused NOT_JSON n n 0
  unfolding run
  run_same [] st i n p = finish_same st i n p
  run_same (b ∷ s) st i n p = by (step_same st i b) (λ x q. run_same s x (i + 1) n q)
    where
      by : Same (step deep vast st i b) (step endless boundless st i b)
          → ((x : State) → run deep vast x (i + 1) s ≡ refused NOT_JSON n n 0 → run endless boundless x (i + 1) s ≡ refused NOT_JSON n n 0)
          → run endless boundless (step endless boundless st i b) (i + 1) s ≡ refused NOT_JSON n n 0
      by (same e) rec = rec (step endless boundless st i b) (subst (λ (x : State). run deep vast x (i + 1) s ≡ refused NOT_JSON n n 0) e p)
      by (broke m a e h q) rec =
          absurd (h (number_of (sym (stays_broken deep vast m a e (i + 1) s) ∙ subst (λ (x : State). run deep vast x (i + 1) s ≡ refused NOT_JSON n n 0) q p)))

-- ── Where it sticks ───────────────────────────────────────────────────────────────────────────────

-- The machine without limits sticks behind d bytes: they go on to a text, and no more of them do.
pub record Stops (st : State) (i : ℕ) (s : List ℕ) (n : ℕ) : Type 0 where
  pub behind : ℕ
  pub at : n ≡ i + behind
  pub within : behind ≤ length s
  pub rest : List ℕ
  pub found : Trees
  pub goes_on : run endless boundless st i (take behind s ++ rest) ≡ answer.tree found
  pub no_further : (m : ℕ) → behind < m → m ≤ length s → (w : List ℕ) → run endless boundless st i (take m s ++ w) ≡ refused NOT_JSON n n 0

ended_place : (t : Trees) (fs : List Frame) (i n : ℕ) → ended endless boundless t fs i ≡ refused NOT_JSON n n 0 → n ≡ i
unfolding ended
ended_place t [] i n p = absurd (no_tree p)
ended_place t (f ∷ fs) i n p = sym (place_of p)

finish_place : (st : State) (i n : ℕ) → Alive st → finish endless boundless st i ≡ refused NOT_JSON n n 0 → n ≡ i
unfolding finish
finish_place (want fs) i n x p = sym (place_of p)
finish_place (first fs) i n x p = sym (place_of p)
finish_place (first_name fs) i n x p = sym (place_of p)
finish_place (name ts fs) i n x p = sym (place_of p)
finish_place (colon ts w a e fs) i n x p = sym (place_of p)
finish_place (after t fs) i n x p = ended_place t fs i n p
finish_place (word [] t fs) i n x p = absurd x
finish_place (word (c ∷ cs) t fs) i n x p = sym (place_of p)
finish_place (minus fs) i n x p = sym (place_of p)
finish_place (digits sh neg a w fs) i n x p = by (whole sh) p
  where
    by : (c : Bool) → cond c (ended endless boundless (signed neg w) fs i) (refused NOT_JSON i i 0) ≡ refused NOT_JSON n n 0 → n ≡ i
    by true q = ended_place (signed neg w) fs i n q
    by false q = sym (place_of q)
finish_place (chars w u fs) i n x p = sym (place_of p)
finish_place (escape y w u fs) i n x p = sym (place_of p)
finish_place (stuck m) i n x p = absurd x
finish_place (broken m a e) i n x p = absurd x

-- It sticks at once.
stop_here : (s : List ℕ) (st : State) (i n : ℕ) → Alive st → n ≡ i → ((m : ℕ) → 0 < m → m ≤ length s → (w : List ℕ) → run endless boundless st i (take m s ++ w) ≡ refused NOT_JSON n n 0) → Stops st i s n
stop_here s st i n x e f =
    let c = complete st x i in
    record { behind = 0; at = omega (arith, e); within = omega arith; rest = c.rest; found = c.found; goes_on = c.runs; no_further = f }

at_byte : (b : ℕ) (s : List ℕ) (st : State) (i n : ℕ) → step endless boundless st i b ≡ stuck i → n ≡ i → (m : ℕ) → 0 < m → m ≤ suc (length s) → (w : List ℕ)
    → run endless boundless st i (take m (b ∷ s) ++ w) ≡ refused NOT_JSON n n 0
unfolding run
at_byte b s st i n e p zero l h w = absurd (omega (arith, l))
at_byte b s st i n e p (suc m) l h w =
    ap (λ (x : State). run endless boundless x (i + 1) (take m s ++ w)) e ∙ stays_stuck endless boundless i (i + 1) (take m s ++ w) ∙ ap (λ (k : ℕ). refused NOT_JSON k k 0) (sym p)

later : (b : ℕ) (s : List ℕ) (st : State) (i n : ℕ) → (r : Stops (step endless boundless st i b) (i + 1) s n) → (m : ℕ) → suc r.behind < m → m ≤ suc (length s) → (w : List ℕ)
    → run endless boundless st i (take m (b ∷ s) ++ w) ≡ refused NOT_JSON n n 0
unfolding run
later b s st i n r zero l h w = absurd (omega (arith, l))
later b s st i n r (suc m) l h w = r.no_further m (omega (arith, l)) (omega (arith, h)) w

one_later : (b : ℕ) (s : List ℕ) (st : State) (i n : ℕ) → Stops (step endless boundless st i b) (i + 1) s n → Stops st i (b ∷ s) n
unfolding run
one_later b s st i n r =
    record {
      behind = suc r.behind;
      at = omega (arith, r.at);
      within = omega (arith, r.within);
      rest = r.rest;
      found = r.found;
      goes_on = r.goes_on;
      no_further = later b s st i n r;
    }

pub stop : (s : List ℕ) (st : State) (i n : ℕ) → Alive st → run endless boundless st i s ≡ refused NOT_JSON n n 0 → Stops st i s n
unfolding run
stop [] st i n x p = stop_here [] st i n x (finish_place st i n x p) (λ m l h w. absurd (omega (arith, l, h)))
stop (b ∷ s) st i n x p = by (step_after st i b x) (λ y. stop s (step endless boundless st i b) (i + 1) n y p)
  where
    by : After i (step endless boundless st i b) → (Alive (step endless boundless st i b) → Stops (step endless boundless st i b) (i + 1) s n) → Stops st i (b ∷ s) n
    by (alive y) rec = one_later b s st i n (rec y)
    by (sticks e) rec =
        let stuck_at : refused NOT_JSON i i 0 ≡ refused NOT_JSON n n 0 =
        sym (stays_stuck endless boundless i (i + 1) s) ∙ subst (λ (y : State). run endless boundless y (i + 1) s ≡ refused NOT_JSON n n 0) e p in
        stop_here (b ∷ s) st i n x (sym (place_of stuck_at)) (at_byte b s st i n e (sym (place_of stuck_at)))
