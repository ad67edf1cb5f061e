-- Without limits every state that is not stuck goes on to a whole text.
-- Assumes nothing.
use mathlib.Core.Path.{◌≡◌, refl, sym, subst, ◌∙◌}
use mathlib.Core.Bool.{Bool, true, false, cond, ◌&&◌, true≢false}
use mathlib.Core.List.{List, [], ◌∷◌, ◌++◌}
use Prim.Native.Nat.{ℕ, ◌+◌, ◌*◌, ◌<◌}
use native.Mathlib.Omega.{arith}
use native.Mathlib.Decide.{dec_lt}
use lib.Dec.{leb}
use borrow.Author.Tests.{eq-eqb}
use Rattle.grammar.specs.Trees.{Trees, none, ◌⊕◌}
use Rattle.grammar.specs.Answer.{Verdict, refused}
use Rattle.grammar.specs.Answer as answer
use Rattle.json_import.specs.Values.{leaf, field, array, object}
use Rattle.json_import.specs.Machine.{Frame, arr, obj, Use, a_value, a_name, Shape, zero, int, point, frac, mark, sign, exp, over, Escape, slash, u_none, u_one, u_two, u_three, high, high_slash, high_u, low_one, low_two, low_three, State, want, first, first_name, name, colon, after, word, minus, digits, chars, escape, stuck, broken, next, whole, is_over, Stopped, hex, meant, closed, escaped, signed, past, spelled, start, begin, ended, step, finish, run}
use Rattle.json_import.proofs.Tests.{above, below}
use Rattle.json_import.proofs.NumberRuns.{judged}

-- No limits.
abbrev pub endless : ℕ → Bool
endless k = false

abbrev pub boundless : List ℕ → Bool
boundless w = false

-- A state that can go on.
abbrev pub Alive : State → Type 0
Alive (want fs) = Unit {0}
Alive (first fs) = Unit {0}
Alive (first_name fs) = Unit {0}
Alive (name ts fs) = Unit {0}
Alive (colon ts w a e fs) = Unit {0}
Alive (after t fs) = Unit {0}
Alive (word [] t fs) = ⊥
Alive (word (c ∷ cs) t fs) = Unit {0}
Alive (minus fs) = Unit {0}
Alive (digits sh neg a w fs) = is_over sh ≡ false
Alive (chars w u fs) = Unit {0}
Alive (escape x w u fs) = Unit {0}
Alive (stuck n) = ⊥
Alive (broken n a e) = ⊥

pub record Completes (st : State) (i : ℕ) : Type 0 where
  pub rest : List ℕ
  pub found : Trees
  pub runs : run endless boundless st i rest ≡ answer.tree found

-- With a byte before it.
prepend : (st : State) (i b : ℕ) → Completes (step endless boundless st i b) (i + 1) → Completes st i
unfolding run
prepend st i b c = record { rest = b ∷ c.rest; found = c.found; runs = c.runs }

-- ── Closing what is open ──────────────────────────────────────────────────────────────────────────

-- Nothing, or a bracket first: no number goes on with it.
data Closing : List ℕ → Type 0 where
  nothing : Closing []
  bracket : {s : List ℕ} → Closing (0x5D ∷ s)
  brace : {s : List ℕ} → Closing (0x7D ∷ s)

record Closes (st : State) (i : ℕ) : Type 0 where
  pub completes : Completes st i
  pub closing : Closing completes.rest

close : (fs : List Frame) (t : Trees) (i : ℕ) → Closes (after t fs) i
unfolding run finish ended step past prepend
close [] t i = record { completes = record { rest = []; found = t; runs = refl }; closing = nothing }
close (arr ts ∷ fs) t i =
    let c = close fs (array (ts ⊕ t)) (i + 1) in record { completes = prepend (after t (arr ts ∷ fs)) i 0x5D c.completes; closing = bracket }
close (obj ts w a e ∷ fs) t i =
    let c = close fs (object (ts ⊕ field w a e t)) (i + 1) in record { completes = prepend (after t (obj ts w a e ∷ fs)) i 0x7D c.completes; closing = brace }

closes : (fs : List Frame) (t : Trees) (i : ℕ) → Completes (after t fs) i
closes fs t i = (close fs t i).completes

-- ── Strings and names ─────────────────────────────────────────────────────────────────────────────

complete_want : (fs : List Frame) (i : ℕ) → Completes (want fs) i
unfolding step begin start closed
complete_want fs i = prepend (want fs) i 0x22 (prepend (chars [] a_value fs) (i + 1) 0x22 (closes fs (leaf 5 []) (i + 1 + 1)))

complete_colon : (ts : Trees) (w : List ℕ) (a e : ℕ) (fs : List Frame) (i : ℕ) → Completes (colon ts w a e fs) i
unfolding step
complete_colon ts w a e fs i = prepend (colon ts w a e fs) i 0x3A (complete_want (obj ts w a e ∷ fs) (i + 1))

complete_chars : (w : List ℕ) (u : Use) (fs : List Frame) (i : ℕ) → Completes (chars w u fs) i
unfolding step closed
complete_chars w a_value fs i = prepend (chars w a_value fs) i 0x22 (closes fs (leaf 5 w) (i + 1))
complete_chars w (a_name ts a) fs i = prepend (chars w (a_name ts a) fs) i 0x22 (complete_colon ts w a (i + 1) fs (i + 1))

complete_name : (ts : Trees) (fs : List Frame) (i : ℕ) → Completes (name ts fs) i
unfolding step
complete_name ts fs i = prepend (name ts fs) i 0x22 (complete_chars [] (a_name ts i) fs (i + 1))

-- ── Escapes ───────────────────────────────────────────────────────────────────────────────────────

module _ (w : List ℕ) (u : Use) (fs : List Frame) where
  low_three_on : (n x i : ℕ) → Completes (escape (low_three n x) w u fs) i
  unfolding step escaped hex
  low_three_on n x i = prepend (escape (low_three n x) w u fs) i 0x30 (complete_chars _ u fs (i + 1))

  low_two_on : (n x i : ℕ) → Completes (escape (low_two n x) w u fs) i
  unfolding step escaped hex
  low_two_on n x i = prepend (escape (low_two n x) w u fs) i 0x30 (low_three_on n _ (i + 1))

  low_one_on : (n i : ℕ) → Completes (escape (low_one n) w u fs) i
  unfolding step escaped hex
  low_one_on n i = prepend (escape (low_one n) w u fs) i 0x43 (low_two_on n _ (i + 1))

  high_u_on : (n i : ℕ) → Completes (escape (high_u n) w u fs) i
  unfolding step escaped hex
  high_u_on n i = prepend (escape (high_u n) w u fs) i 0x44 (low_one_on n (i + 1))

  high_slash_on : (n i : ℕ) → Completes (escape (high_slash n) w u fs) i
  unfolding step escaped
  high_slash_on n i = prepend (escape (high_slash n) w u fs) i 0x75 (high_u_on n (i + 1))

  high_on : (n i : ℕ) → Completes (escape (high n) w u fs) i
  unfolding step escaped
  high_on n i = prepend (escape (high n) w u fs) i 0x5C (high_slash_on n (i + 1))

  u_three_on : (x i : ℕ) → Completes (escape (u_three x) w u fs) i
  unfolding step escaped hex
  u_three_on x i = prepend (escape (u_three x) w u fs) i 0x30 (by (leb 0xD800 (x * 16 + 0) && leb (x * 16 + 0) 0xDBFF) (x * 16 + 0))
    where
      by : (c : Bool) (n : ℕ) → Completes (cond c (escape (high n) w u fs) (chars (w ++ Rattle.strings.specs.Utf8.utf8 n) u fs)) (i + 1)
      by true n = high_on n (i + 1)
      by false n = complete_chars _ u fs (i + 1)

  u_two_on : (x i : ℕ) → Completes (escape (u_two x) w u fs) i
  unfolding step escaped hex
  u_two_on x i = prepend (escape (u_two x) w u fs) i 0x30 (u_three_on _ (i + 1))

  -- A digit `0` makes no low half.
  no_half : (x : ℕ) → (leb 0xDC (x * 16 + 0) && leb (x * 16 + 0) 0xDF) ≡ false
  no_half x = by (dec_lt (x * 16 + 0) 0xDC)
    where
      by : Dec (x * 16 + 0 < 0xDC) → (leb 0xDC (x * 16 + 0) && leb (x * 16 + 0) 0xDF) ≡ false
      by (yes p) = below 0xDC 0xDF (x * 16 + 0) p
      by (no p) = above 0xDC 0xDF (x * 16 + 0) (omega (arith, p))

  u_one_on : (x i : ℕ) → Completes (escape (u_one x) w u fs) i
  unfolding step escaped hex
  u_one_on x i =
      prepend (escape (u_one x) w u fs) i 0x30
      (subst (λ (c : Bool). Completes (cond c (stuck i) (escape (u_two (x * 16 + 0)) w u fs)) (i + 1)) (sym (no_half x)) (u_two_on (x * 16 + 0) (i + 1)))

  u_none_on : (i : ℕ) → Completes (escape u_none w u fs) i
  unfolding step escaped hex
  u_none_on i = prepend (escape u_none w u fs) i 0x30 (u_one_on _ (i + 1))

  slash_on : (i : ℕ) → Completes (escape slash w u fs) i
  unfolding step escaped meant
  slash_on i = prepend (escape slash w u fs) i 0x6E (complete_chars _ u fs (i + 1))

  complete_escape : (x : Escape) (i : ℕ) → Completes (escape x w u fs) i
  complete_escape slash i = slash_on i
  complete_escape u_none i = u_none_on i
  complete_escape (u_one x) i = u_one_on x i
  complete_escape (u_two x) i = u_two_on x i
  complete_escape (u_three x) i = u_three_on x i
  complete_escape (high n) i = high_on n i
  complete_escape (high_slash n) i = high_slash_on n i
  complete_escape (high_u n) i = high_u_on n i
  complete_escape (low_one n) i = low_one_on n i
  complete_escape (low_two n x) i = low_two_on n x i
  complete_escape (low_three n x) i = low_three_on n x i

-- ── Numbers and words ─────────────────────────────────────────────────────────────────────────────

over_bracket : (sh : Shape) → is_over (next sh 0x5D) ≡ true
unfolding next is_over
over_bracket zero = refl
over_bracket int = refl
over_bracket point = refl
over_bracket frac = refl
over_bracket mark = refl
over_bracket sign = refl
over_bracket exp = refl
over_bracket over = refl

over_brace : (sh : Shape) → is_over (next sh 0x7D) ≡ true
unfolding next is_over
over_brace zero = refl
over_brace int = refl
over_brace point = refl
over_brace frac = refl
over_brace mark = refl
over_brace sign = refl
over_brace exp = refl
over_brace over = refl

stopped : (sh : Shape) {s : List ℕ} → Closing s → Stopped sh s
stopped sh nothing = tt
stopped sh bracket = over_bracket sh
stopped sh brace = over_brace sh

module _ (neg : Bool) (a : ℕ) (fs : List Frame) where
  whole_on : (sh : Shape) (w : List ℕ) (i : ℕ) → whole sh ≡ true → Completes (digits sh neg a w fs) i
  whole_on sh w i p =
      let c = close fs (signed neg w) i in
      record { rest = c.completes.rest; found = c.completes.found; runs = judged endless boundless neg a fs sh w c.completes.rest i p (stopped sh c.closing) ∙ c.completes.runs }

  complete_digits : (sh : Shape) (w : List ℕ) (i : ℕ) → is_over sh ≡ false → Completes (digits sh neg a w fs) i
  unfolding step next whole is_over
  complete_digits zero w i p = whole_on zero w i refl
  complete_digits int w i p = whole_on int w i refl
  complete_digits point w i p = prepend (digits point neg a w fs) i 0x30 (whole_on frac _ (i + 1) refl)
  complete_digits frac w i p = whole_on frac w i refl
  complete_digits mark w i p = prepend (digits mark neg a w fs) i 0x30 (whole_on exp _ (i + 1) refl)
  complete_digits sign w i p = prepend (digits sign neg a w fs) i 0x30 (whole_on exp _ (i + 1) refl)
  complete_digits exp w i p = whole_on exp w i refl
  complete_digits over w i p = absurd (true≢false p)

complete_word : (c : ℕ) (cs : List ℕ) (t : Trees) (fs : List Frame) (i : ℕ) → Completes (word (c ∷ cs) t fs) i
unfolding step spelled
complete_word c [] t fs i =
    prepend (word (c ∷ []) t fs) i c (subst (λ (x : Bool). Completes (cond x (after t fs) (stuck i)) (i + 1)) (sym (eq-eqb c c refl)) (closes fs t (i + 1)))
complete_word c (d ∷ cs) t fs i =
    prepend (word (c ∷ d ∷ cs) t fs) i c (subst (λ (x : Bool). Completes (cond x (word (d ∷ cs) t fs) (stuck i)) (i + 1)) (sym (eq-eqb c c refl)) (complete_word d cs t fs (i + 1)))

-- EVERY STATE THAT IS ALIVE GOES ON TO A TEXT.
pub complete : (st : State) → Alive st → (i : ℕ) → Completes st i
unfolding step is_over
complete (want fs) x i = complete_want fs i
complete (first fs) x i = prepend (first fs) i 0x5D (closes fs (array none) (i + 1))
complete (first_name fs) x i = prepend (first_name fs) i 0x7D (closes fs (object none) (i + 1))
complete (name ts fs) x i = complete_name ts fs i
complete (colon ts w a e fs) x i = complete_colon ts w a e fs i
complete (after t fs) x i = closes fs t i
complete (word [] t fs) x i = absurd x
complete (word (c ∷ cs) t fs) x i = complete_word c cs t fs i
complete (minus fs) x i = prepend (minus fs) i 0x30 (complete_digits true i fs zero (0x30 ∷ []) (i + 1) refl)
complete (digits sh neg a w fs) x i = complete_digits neg a fs sh w i x
complete (chars w u fs) x i = complete_chars w u fs i
complete (escape y w u fs) x i = complete_escape w u fs y i
complete (stuck n) x i = absurd x
complete (broken n a e) x i = absurd x
