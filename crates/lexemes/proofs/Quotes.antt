-- Strings between quotes: the tables of rules on the way through one, and how far a scan has come.
-- Assumes nothing.
use mathlib.Core.Path.{◌≡◌, sym, subst}
use mathlib.Core.Bool.{true}
use mathlib.Core.List.{List, [], ◌∷◌}
use mathlib.Core.Logic.{inl, inr}
use Prim.Native.Nat.{ℕ, ◌+◌, ◌≤◌, ◌<◌}
use lib.Dec.{T, eqb}
use lib.ListN.{length, get_or}
use Rattle.regexes.specs.Regex.{END, Rule, ◌⇒◌, Re, ◌to◌, but, one, eps, ◌·◌, ◌∣◌, star}
use Rattle.regexes.proofs.Tables.{steps, gives, silent}
use Rattle.lexemes.specs.Letters.{next}
use Rattle.lexemes.specs.Rules.{rules}
use Rattle.lexemes.specs.Lexeme.{Ruled, longest}
use Rattle.lexemes.specs.Scan.{Best, Quote}
use Rattle.lexemes.proofs.Moves.{is, plain, low, other, NotAll, byte, char, end, anything, go, stop, stop_before, never}

-- A rule that is all taken.
abbrev pub done : ℕ → List Rule
done k = (k ⇒ eps) ∷ []

-- (?s:[^q\\]|\\.)*
abbrev body : ℕ → Re
body q = star (one (but (q to q ∷ 92 to 92 ∷ [])) ∣ is 92 · one (but []))

-- In a string, and after a backslash in it.
abbrev in_string : ℕ → ℕ → List Rule
in_string q g = (g ⇒ body q · is q) ∷ (g + 1 ⇒ body q) ∷ []

abbrev escaped : ℕ → ℕ → List Rule
escaped q g = (g ⇒ one (but []) · body q · is q) ∷ (g + 1 ⇒ one (but []) · body q) ∷ []

record Facts (q g : ℕ) : Type 0 where
  plain_q : T (plain q)
  low_q : T (low (q ∷ 92 ∷ []))
  opens : T (steps rules (eqb q) (in_string q g))
  goes : T (steps (in_string q g) (other (q ∷ 92 ∷ [])) (in_string q g))
  closes : T (steps (in_string q g) (eqb q) (done g))
  slash : T (steps (in_string q g) (eqb 92) (escaped q g))
  any : T (steps (escaped q g) (other []) (in_string q g))
  ends : T (steps (in_string q g) (eqb END) [])
  escaped_ends : T (steps (escaped q g) (eqb END) [])
  gives_open : T (gives (in_string q g) (g + 1))
  silent_escaped : T (silent (escaped q g))

double : Facts 34 41
unfolding steps gives silent rules
double = record { plain_q = tt; low_q = tt; opens = tt; goes = tt; closes = tt; slash = tt; any = tt; ends = tt; escaped_ends = tt; gives_open = tt; silent_escaped = tt }

single : Facts 39 43
unfolding steps gives silent rules
single = record { plain_q = tt; low_q = tt; opens = tt; goes = tt; closes = tt; slash = tt; any = tt; ends = tt; escaped_ends = tt; gives_open = tt; silent_escaped = tt }

facts : (q g : ℕ) → Quote q g → Facts q g
facts q g (inl e) = subst (λ (x : ℕ). Facts x g) (sym e.0) (subst (λ (x : ℕ). Facts 34 x) (sym e.1) double)
facts q g (inr e) = subst (λ (x : ℕ). Facts x g) (sym e.0) (subst (λ (x : ℕ). Facts 39 x) (sym e.1) single)

gives_done : (k : ℕ) → T (steps (done k) (λ l. true) []) × T (gives (done k) k)
unfolding steps gives
gives_done k = (tt, lib.Dec.eqb_refl k)

-- A match that is all taken ends where it is.
pub ended : (s : List ℕ) (k i : ℕ) → Best s (done k) i k i
ended s k i = stop (anything s i) (gives_done k).0 (gives_done k).1

-- A longest match in the string from i on is one from the string's start on.
pub record InString (s : List ℕ) (at q g i : ℕ) : Type 0 where
  pub quote : Quote q g
  pub on : (k e : ℕ) → Best s (in_string q g) i k e → Best s rules at k e

module _ {s : List ℕ} {at q g : ℕ} where
  pub opened : Quote q g → get_or s at 0 ≡ q → InString s at q g (at + 1)
  opened quote h =
      let F = facts q g quote in
      record { quote = quote; on = λ k e l. go (byte s at q F.plain_q h) l F.opens }

  module _ {i : ℕ} (m : InString s at q g i) where
    F : Facts q g
    F = facts q g m.quote

    pub passed : {j : ℕ} → i < length s → NotAll (q ∷ 92 ∷ []) (get_or s i 0) → j ≡ next s i → InString s at q g j
    passed h n e =
        record {
          quote = m.quote;
          on = λ k e' l. m.on k e' (go (char s i (q ∷ 92 ∷ []) F.low_q h n) (subst (λ (x : ℕ). Best s (in_string q g) x k e') e l) F.goes);
        }

    pub escape_passed : {j : ℕ} → get_or s i 0 ≡ 92 → i + 1 < length s → j ≡ next s (i + 1) → InString s at q g j
    escape_passed h b e =
        record {
          quote = m.quote;
          on = λ k e' l. m.on k e'
              (go (byte s i 92 tt h) (go (char s (i + 1) [] tt b tt) (subst (λ (x : ℕ). Best s (in_string q g) x k e') e l) F.any) F.slash);
        }

    pub closed : get_or s i 0 ≡ q → Ruled s at g (i + 1)
    closed h = longest (m.on g (i + 1) (go (byte s i q F.plain_q h) (ended s g (i + 1)) F.closes))

    pub cut_escape : get_or s i 0 ≡ 92 → length s ≤ i + 1 → Ruled s at (g + 1) i
    cut_escape h b =
        longest (m.on (g + 1) i (stop_before (byte s i 92 tt h) (never (end s (i + 1) b) F.escaped_ends F.silent_escaped) F.slash F.gives_open))

    pub cut : length s ≤ i → Ruled s at (g + 1) i
    cut b = longest (m.on (g + 1) i (stop (end s i b) F.ends F.gives_open))
