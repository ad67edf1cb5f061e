-- The machine at places of a text: one step on, and a step at which it sticks; words and escapes as the code goes through them.
-- Assumes nothing.
use mathlib.Core.Path.{◌≡◌, refl, sym, ap, subst, ◌∙◌}
use mathlib.Core.Bool.{Bool}
use mathlib.Core.List.{List, [], ◌∷◌, ◌++◌}
use Prim.Native.Nat.{ℕ, ◌+◌, ◌≤◌, ◌<◌}
use native.Mathlib.Omega.{arith}
use native.Mathlib.Decide.{dec_lt}
use lib.ListN.{length, drop, get_or, get_or-eq_default, drop_of_length-le}
use borrow.Author.Tests.{eq-eqb, ne_eqb}
use Rattle.strings.specs.Utf8.{utf8}
use Rattle.strings.proofs.Stores.{drop-next}
use Rattle.grammar.specs.Trees.{Trees}
use Rattle.grammar.specs.Answer.{refused}
use Rattle.json_import.specs.Json.{NOT_JSON}
use Rattle.json_import.specs.Machine.{Frame, Use, Escape, State, after, chars, escape, stuck, spelled, spelling, escaped, step, finish, run}
use Rattle.json_import.specs.Inner.{Leads, Sticks, WordTo, spelt, other, EscapeTo, code, stops}
use Rattle.std.specs.Prelude.{Result, Ok, Err, IsErrAnd}
use Rattle.std.proofs.lemmas.Result.{err_from_is_err_and}
use Rattle.json_import.specs.declared.text.Escaped.{Escaped}
use Rattle.json_import.specs.declared.Fault.{Fault}
use Rattle.json_import.specs.declared.Fault.TheVariants.{NotJson}
use Rattle.json_import.proofs.Skips.{stays_stuck}
use Rattle.json_import.proofs.Tokens.{other_letter}

-- What a `?` hands out is the fault that it met.
pub err_out : {T E : Type 0} {r : Result T E} {e : E} → IsErrAnd r (λ x. x ≡ e) → r ≡ Err e
err_out {r = r} h = let p = err_from_is_err_and r h in p.1 ∙ ap Err p.2

-- ── One byte ──────────────────────────────────────────────────────────────────────────────────────

-- A byte that is not 0 stands within the text.
pub byte_inside : (s : List ℕ) (at : ℕ) → (get_or s at 0 ≡ 0 → ⊥) → at < length s
byte_inside s at n = by (dec_lt at (length s))
  where
    by : Dec (at < length s) → at < length s
    by (yes h) = h
    by (no h) = absurd (n (get_or-eq_default s 0 (omega (arith, h))))

pub leads_here : {s : List ℕ} (st : State) (at : ℕ) → Leads s st at st at
leads_here st at = record { runs = λ deep large. refl }

pub leads_on : {s : List ℕ} {a b c : State} {i j k : ℕ} → Leads s a i b j → Leads s b j c k → Leads s a i c k
leads_on x y = record { runs = λ deep large. x.runs deep large ∙ y.runs deep large }

pub leads_stick : {s : List ℕ} {a b : State} {i j n : ℕ} → Leads s a i b j → Sticks s b j n → Sticks s a i n
leads_stick x y = record { runs = λ deep large. x.runs deep large ∙ y.runs deep large }

pub one_on : {s : List ℕ} (a b : State) (i j : ℕ) → i < length s → j ≡ i + 1 → ((deep : ℕ → Bool) (large : List ℕ → Bool) → step deep large a i (get_or s i 0) ≡ b) → Leads s a i b j
unfolding run
one_on {s} a b i j h e f =
    record {
      runs = λ deep large.
          ap (λ (l : List ℕ). run deep large a i l) (drop-next s i h) ∙ ap (λ (st : State). run deep large st (i + 1) (drop (i + 1) s)) (f deep large)
          ∙ ap (λ (k : ℕ). run deep large b k (drop k s)) (sym e);
    }

-- The machine sticks at this byte, or here the text ends in a state that no text ends in.
pub sticks_here : {s : List ℕ} (a : State) (i : ℕ) → ((deep : ℕ → Bool) (large : List ℕ → Bool) → finish deep large a i ≡ refused NOT_JSON i i 0)
    → (i < length s → (deep : ℕ → Bool) (large : List ℕ → Bool) → step deep large a i (get_or s i 0) ≡ stuck i) → Sticks s a i i
unfolding run
sticks_here {s} a i e f = by (dec_lt i (length s))
  where
    by : Dec (i < length s) → Sticks s a i i
    by (yes h) =
        record {
          runs = λ deep large.
              ap (λ (l : List ℕ). run deep large a i l) (drop-next s i h) ∙ ap (λ (st : State). run deep large st (i + 1) (drop (i + 1) s)) (f h deep large)
              ∙ stays_stuck deep large i (i + 1) (drop (i + 1) s);
        }
    by (no h) = let past : length s ≤ i = omega (arith, h) in record { runs = λ deep large. ap (λ (l : List ℕ). run deep large a i l) (drop_of_length-le s past) ∙ e deep large }

-- ── Words ─────────────────────────────────────────────────────────────────────────────────────────

-- The first i letters of a word stand from a place on.
pub record SpeltSoFar (s letters : List ℕ) (at i : ℕ) : Type 0 where
  pub most : i ≤ length letters
  pub within : at + i ≤ length s
  pub leads : (t : Trees) (fs : List Frame) → Leads s (spelling letters t fs) at (spelling (drop i letters) t fs) (at + i)

pub spelt_start : (s letters : List ℕ) (at : ℕ) → at ≤ length s → SpeltSoFar s letters at 0
spelt_start s letters at h =
    let same : at ≡ at + 0 = omega arith in
    record { most = omega arith; within = omega (arith, h); leads = λ t fs. subst (λ (k : ℕ). Leads s (spelling letters t fs) at (spelling letters t fs) k) same (leads_here _ at) }

right_letter : (deep : ℕ → Bool) (large : List ℕ → Bool) (c : ℕ) (cs : List ℕ) (t : Trees) (fs : List Frame) (i b : ℕ) → b ≡ c → step deep large (spelling (c ∷ cs) t fs) i b ≡ spelling cs t fs
unfolding step spelled
right_letter deep large c [] t fs i b e = rw (eq-eqb b c e) refl
right_letter deep large c (d ∷ cs) t fs i b e = rw (eq-eqb b c e) refl

wrong_letter : (deep : ℕ → Bool) (large : List ℕ → Bool) (c : ℕ) (cs : List ℕ) (t : Trees) (fs : List Frame) (i b : ℕ) → (b ≡ c → ⊥) → step deep large (spelling (c ∷ cs) t fs) i b ≡ stuck i
unfolding step
wrong_letter deep large c cs t fs i b n = other_letter c cs t fs i b (ne_eqb b c n)

no_letter : (deep : ℕ → Bool) (large : List ℕ → Bool) (c : ℕ) (cs : List ℕ) (t : Trees) (fs : List Frame) (i : ℕ) → finish deep large (spelling (c ∷ cs) t fs) i ≡ refused NOT_JSON i i 0
unfolding finish
no_letter deep large c cs t fs i = refl

module _ {s letters : List ℕ} {at i : ℕ} (x : SpeltSoFar s letters at i) (h : i < length letters) where
  pub spelt_more : at + i < length s → get_or s (at + i) 0 ≡ get_or letters i 0 → SpeltSoFar s letters at (i + 1)
  spelt_more l e =
      record {
        most = omega (arith, h);
        within = omega (arith, l);
        leads = λ t fs.
            leads_on (subst (λ (r : List ℕ). Leads s (spelling letters t fs) at (spelling r t fs) (at + i)) (drop-next letters i h) (x.leads t fs))
            (one_on (spelling (get_or letters i 0 ∷ drop (i + 1) letters) t fs) (spelling (drop (i + 1) letters) t fs) (at + i) (at + (i + 1)) l (omega arith)
            (λ deep large. right_letter deep large (get_or letters i 0) (drop (i + 1) letters) t fs (at + i) (get_or s (at + i) 0) e));
      }

  pub spelt_other : (at + i < length s → get_or s (at + i) 0 ≡ get_or letters i 0 → ⊥) → WordTo s letters at (Err (NotJson (at + i)))
  spelt_other n =
      other
      (λ t fs.
      leads_stick (subst (λ (r : List ℕ). Leads s (spelling letters t fs) at (spelling r t fs) (at + i)) (drop-next letters i h) (x.leads t fs))
      (sticks_here (spelling (get_or letters i 0 ∷ drop (i + 1) letters) t fs) (at + i) (λ deep large. no_letter deep large (get_or letters i 0) (drop (i + 1) letters) t fs (at + i))
      (λ l deep large. wrong_letter deep large (get_or letters i 0) (drop (i + 1) letters) t fs (at + i) (get_or s (at + i) 0) (n l))))

pub spelt_end : {s letters : List ℕ} {at i : ℕ} → SpeltSoFar s letters at i → length letters ≤ i → WordTo s letters at (Ok (at + length letters))
spelt_end {s} {letters} {at} {i} x h =
    let all : i ≡ length letters = omega (arith, x.most, h) in
    spelt {e = at + length letters} refl (omega (arith, x.within, all))
    (λ t fs.
    subst (λ (k : ℕ). Leads s (spelling letters t fs) at (after t fs) (at + k)) all
    (subst (λ (r : List ℕ). Leads s (spelling letters t fs) at (spelling r t fs) (at + i)) (drop_of_length-le letters h) (x.leads t fs)))

-- ── Escapes ───────────────────────────────────────────────────────────────────────────────────────

-- One byte more of an escape, before what it comes to.
pub one_before : {s : List ℕ} {k m at j : ℕ} {r : Result Escaped Fault} (x y : Escape) → at < length s → m ≡ k + 1 → j ≡ at + 1
    → ((w : List ℕ) (us : Use) (fs : List Frame) (i : ℕ) → escaped x w us fs i (get_or s at 0) ≡ escape y w us fs) → EscapeTo s y m j r → EscapeTo s x k at r
unfolding step
one_before {s} {k} {m} {at} {j} x y h p q f (code {e} on within below short leads) =
    code {e = e} (omega (arith, on, q)) within below (omega (arith, short, p, q))
    (λ w us fs. leads_on (one_on (escape x w us fs) (escape y w us fs) at j h q (λ deep large. f w us fs at)) (leads w us fs))
one_before {s} {k} {m} {at} {j} x y h p q f (stops sticks) =
    stops (λ w us fs. leads_stick (one_on (escape x w us fs) (escape y w us fs) at j h q (λ deep large. f w us fs at)) (sticks w us fs))

-- No escape goes on here.
pub stops-here : {s : List ℕ} {k at : ℕ} (x : Escape) → ((w : List ℕ) (us : Use) (fs : List Frame) (i : ℕ) → escaped x w us fs i (get_or s at 0) ≡ stuck i) → EscapeTo s x k at (Err (NotJson at))
unfolding step finish
stops-here {s} {k} {at} x f = stops (λ w us fs. sticks_here (escape x w us fs) at (λ deep large. refl) (λ l deep large. f w us fs at))

-- The last byte of an escape.
pub code_here : {s : List ℕ} {k at j : ℕ} (x : Escape) (c : ℕ) → at < length s → j ≡ at + 1 → c < 0x110000 → length (utf8 c) ≤ k + 1
    → ((w : List ℕ) (us : Use) (fs : List Frame) (i : ℕ) → escaped x w us fs i (get_or s at 0) ≡ chars (w ++ utf8 c) us fs) → EscapeTo s x k at (Ok (record { code = c; end = j }))
unfolding step
code_here {s} {k} {at} {j} x c h q below short f =
    code {e = record { code = c; end = j }} (omega (arith, q)) (omega (arith, h, q)) below (omega (arith, short, q))
    (λ w us fs. one_on (escape x w us fs) (chars (w ++ utf8 c) us fs) at j h q (λ deep large. f w us fs at))
