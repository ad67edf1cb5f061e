-- Every text has an answer: the machine's.
-- Assumes nothing.
use mathlib.Core.Path.{◌≡◌, refl, sym, subst, ◌∙◌}
use mathlib.Core.Bool.{Bool, false}
use mathlib.Core.List.{List, [], ◌∷◌, ◌++◌}
use Prim.Native.Nat.{ℕ, ◌≤◌, ◌<◌}
use native.Mathlib.Omega.{arith}
use native.Mathlib.Decide.{dec_le}
use lib.ListN.{length, take}
use Rattle.strings.specs.Utf8.{Utf8}
use Rattle.numerals.specs.Inner.{Says}
use Rattle.numerals.specs.Value.{TooLarge}
use Rattle.numerals.proofs.Always.{is_too_large, says_too_large}
use Rattle.grammar.specs.Trees.{Trees}
use Rattle.grammar.specs.Answer.{Verdict, refused, tree}
use Rattle.json_import.specs.Tokens.{At, ◌▹◌, is_blank, Ws}
use Rattle.json_import.specs.Values.{Part, value, Outcome, done, broken, Reads, too_deep, a_false, a_null, a_true, a_string, positive, minus, minus_broken, deep_number, a_number, large, empty_array, an_array, array_broken, last_element, next_element, element_broken, elements_broken, empty_object, an_object, object_broken, last_member, next_member, member_broken, members_broken}
use Rattle.json_import.specs.Json.{NOT_JSON, Text, whole, broken_off, Never, JsonText, json, Begun, begun, Continues, TooDeep, Judged, read, not_json}
use Rattle.json_import.specs.Machine.{want, after, stuck, past, is_deep, step, run}
use Rattle.json_import.proofs.Skips.{skip_want, skip_after}
use Rattle.json_import.proofs.Runs.{reads_run}
use Rattle.json_import.proofs.Tokens.{Unblank, Skipped, read_ws, read_ws_at}
use Rattle.json_import.proofs.Descends.{ReadPart, a_part, sticks, read_a_value, stuck_there}
use Rattle.json_import.proofs.Completes.{endless, boundless}
use Rattle.json_import.proofs.Stops.{number_of, no_tree, run_same, Stops, stop}
use Rattle.json_import.proofs.OneAnswer.{text_run, says_is_deep, text_run_01}

-- ── Every text is read, or the machine sticks ─────────────────────────────────────────────────────

-- What breaks a reading off is never number 19.
abbrev Limit : Outcome → Type 0
Limit (done t g) = Unit {0}
Limit (broken n a e) = n ≡ NOT_JSON → ⊥

module _ {Deep : ℕ → Type 0} {Large : List ℕ → Type 0} where
  limit : {p : Part} {k : ℕ} {h : At} {o : Outcome} → Reads Deep Large p k h o → Limit o
  limit (too_deep d c) = λ e. omega (arith, e)
  limit (a_false n) = tt
  limit (a_null n) = tt
  limit (a_true n) = tt
  limit (a_string n s) = tt
  limit (positive r) = limit r
  limit (minus n r) = tt
  limit (minus_broken n r) = limit r
  limit (deep_number d c) = λ e. omega (arith, e)
  limit (a_number n l m) = tt
  limit (large n l m) = λ e. omega (arith, e)
  limit (empty_array n c) = tt
  limit (an_array n w r) = tt
  limit (array_broken n w r) = limit r
  limit (last_element r c) = tt
  limit (next_element r c q) = tt
  limit (element_broken r) = limit r
  limit (elements_broken r c q) = limit q
  limit (empty_object n c) = tt
  limit (an_object n w r) = tt
  limit (object_broken n w r) = limit r
  limit (last_member n r c) = tt
  limit (next_member n r c q) = tt
  limit (member_broken n r) = limit r
  limit (members_broken n r c q) = limit q

module _ (Deep : ℕ → Type 0) (Large : List ℕ → Type 0) (deep : ℕ → Bool) (vast : List ℕ → Bool) (says-deep : (k : ℕ) → Says (deep k) (Deep k))
    (says-vast : (w : List ℕ) → Says (vast w) (Large w)) where
  pub data Reading (s : List ℕ) : Type 0 where
    a_text : {v : Verdict} → Text Deep Large s v → Reading s
    no_text : (n : ℕ) → run deep vast (want []) 0 s ≡ refused NOT_JSON n n 0 → Reading s

  left_over : (t : Trees) (i b : ℕ) → is_blank b ≡ false → step deep vast (after t []) i b ≡ stuck i
  unfolding step past
  left_over t i b p = rw p refl

  at_the_end : (s : List ℕ) {h m : At} {t : Trees} → Ws (0 ▹ s) h → Reads Deep Large value 0 h (done t m) → (g : At) → Ws m g → Unblank g → Reading s
  at_the_end s w r (j ▹ []) x u = a_text (whole w r x)
  at_the_end s {t = t} w r (j ▹ b ∷ q) x u =
      no_text j
      (skip_want deep vast [] w ∙ reads_run Deep Large deep vast says-deep says-vast r [] refl ∙ skip_after deep vast t [] x
      ∙ stuck_there deep vast (after t []) j b q (left_over t j b u))

  pub read_text : (s : List ℕ) → Reading s
  read_text s = by (read_ws 0 s)
    where
      on : {h : At} → Ws (0 ▹ s) h → ReadPart Deep Large deep vast says-deep says-vast value 0 h → Reading s
      on w (a_part {o = done t m} r) = let x = read_ws_at m in at_the_end s w r x.to x.ws x.unblank
      on w (a_part {o = broken n a e} r) = a_text (broken_off w r)
      on w (sticks n f) = no_text n (skip_want deep vast [] w ∙ f [] refl)

      by : Skipped (0 ▹ s) → Reading s
      by x = on x.ws (read_a_value Deep Large deep vast says-deep says-vast 0 x.to x.unblank)

  -- A text that is read has no 19.
  pub not_19 : {s : List ℕ} {v : Verdict} {n : ℕ} → Text Deep Large s v → v ≡ refused NOT_JSON n n 0 → ⊥
  not_19 (whole w r x) e = no_tree e
  not_19 (broken_off w r) e = limit r (number_of e)

-- ── JSON texts, without limits ────────────────────────────────────────────────────────────────────

json_run : {s : List ℕ} → JsonText s → (n : ℕ) → run endless boundless (want []) 0 s ≡ refused NOT_JSON n n 0 → ⊥
json_run (json t) n p = no_tree (sym (text_run Never Never endless boundless (λ k x. x) (λ w x. x) t) ∙ p)

run_json : (s : List ℕ) (t : Trees) → run endless boundless (want []) 0 s ≡ tree t → JsonText s
run_json s t p = by (read_text Never Never endless boundless (λ k x. x) (λ w x. x) s)
  where
    of : {v : Verdict} → v ≡ tree t → Text Never Never s v → JsonText s
    of e x = json (subst (Text Never Never s) e x)

    by : Reading Never Never endless boundless (λ k x. x) (λ w x. x) s → JsonText s
    by (a_text x) = of (sym (text_run Never Never endless boundless (λ k y. y) (λ w y. y) x) ∙ p) x
    by (no_text n q) = absurd (no_tree (sym p ∙ q))

-- Where the machine sticks is where no JSON text continues.
stops_continues : {s : List ℕ} {n : ℕ} → Stops (want []) 0 s n → Continues s n
stops_continues {s} {n} r =
    let e : r.behind ≡ n = omega (arith, r.at) in
    let goes : JsonText (take n s ++ r.rest) = run_json (take n s ++ r.rest) r.found (subst (λ (k : ℕ). run endless boundless (want []) 0 (take k s ++ r.rest) ≡ tree r.found) e r.goes_on) in
    record { within = omega (arith, r.within, e); begins = begun r.rest goes; longest = λ m h b. by m h b (dec_le m n) }
  where
    no_more : (m : ℕ) → m ≤ length s → n < m → Begun (take m s) → ⊥
    no_more m h l (begun w j) = json_run j n (r.no_further m (omega (arith, r.at, l)) h w)

    by : (m : ℕ) → m ≤ length s → Begun (take m s) → Dec (m ≤ n) → m ≤ n
    by m h b (yes l) = l
    by m h b (no l) = absurd (no_more m h (omega (arith, l)) b)

pub sticks_continues : (s : List ℕ) (n : ℕ) → run is_deep is_too_large (want []) 0 s ≡ refused NOT_JSON n n 0 → Continues s n
sticks_continues s n p = stops_continues (stop s (want []) 0 n tt (run_same is_deep is_too_large s (want []) 0 n p))

-- EVERY TEXT WITHIN 2 AND 3 IS JUDGED AS THE MACHINE RUNS.
pub judged_run : (s : List ℕ) → length s ≤ 65000 → Utf8 s → Judged s (run is_deep is_too_large (want []) 0 s)
judged_run s l u = by (read_text TooDeep TooLarge is_deep is_too_large says_is_deep says_too_large s)
  where
    by : Reading TooDeep TooLarge is_deep is_too_large says_is_deep says_too_large s → Judged s (run is_deep is_too_large (want []) 0 s)
    by (a_text {v} t) = subst (Judged s) (sym (text_run_01 t)) (read l u t)
    by (no_text n p) =
        subst (Judged s) (sym p)
        (not_json l u (λ v t. not_19 TooDeep TooLarge is_deep is_too_large says_is_deep says_too_large t (sym (text_run_01 t) ∙ p)) (sticks_continues s n p))
