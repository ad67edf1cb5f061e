-- Laws of the importer's answers: what is found out about a text is answered, and what is behind the image is cleared.
-- Assumes nothing.
use mathlib.Core.Path.{◌≡◌, refl, sym, ap, subst, ◌∙◌}
use mathlib.Core.Bool.{Bool, true, false, cond}
use mathlib.Core.List.{List, [], ◌++◌, append-nil}
use Prim.Native.Nat.{ℕ, ◌+◌, ◌-◌, ◌≤◌, ◌<◌}
use native.Mathlib.Omega.{arith}
use borrow.Author.Tests.{leb-true, leb-false, le-leb, lt-leb}
use lib.Dec.{eqb, leb}
use lib.ListN.{length, take, drop, replicate, length-drop, drop_of_length-le}
use lib.Seq.{sets, sets-eq, take_at, take_all, length-sets}
use Rattle.strings.specs.Utf8.{Utf8, ValidTo}
use Rattle.strings.proofs.CharacterLaws.{valid_whole}
use Rattle.numerals.proofs.Always.{is_too_large, says_too_large}
use Rattle.grammar.specs.Numbers.{TREE, LONG, ENCODING, DEPTH, ROOM}
use Rattle.grammar.specs.Trees.{Trees}
use Rattle.grammar.specs.Image.{image}
use Rattle.grammar.specs.Answer.{Answer, Verdict, refused, tree, answer, output}
use Rattle.json_import.specs.Json.{NOT_JSON, Judged}
use Rattle.json_import.specs.Machine.{want}
use Rattle.json_import.specs.Leaves.{Comes, verdict}
use Rattle.json_import.specs.Steps.{ParsedTo, parsed}
use Rattle.json_import.specs.Importer.{Importing, numbers, importing, written, Finds, Imports}
use Rattle.std.specs.Prelude.{Ok, Err}
use Rattle.json_import.specs.declared.Fault.{Fault}
use Rattle.json_import.specs.declared.Fault.TheVariants as faults
use Rattle.json_import.specs.declared.Unread.TheVariants.{Long, Encoding, NotJson, Depth, Room, Large}
use Rattle.json_import.proofs.EveryText.{judged_run}

-- ── The case that has these numbers ───────────────────────────────────────────────────────────────

case_of : Answer → Importing
case_of a = by (eqb a.number)
  where
    by : (ℕ → Bool) → Importing
    by is =
        cond (is TREE) (Ok a.size)
        (cond (is LONG) (Err Long)
        (cond (is ENCODING) (Err (Encoding a.start))
        (cond (is NOT_JSON) (Err (NotJson a.start))
        (cond (is DEPTH) (Err (Depth a.start))
        (cond (is ROOM) (Err (Room a.size))
        (Err (Large a.start a.stop)))))))

case_back : (r : Importing) → case_of (numbers r) ≡ r
unfolding numbers case_of
case_back (Ok n) = refl
case_back (Err Long) = refl
case_back (Err (Encoding n)) = refl
case_back (Err (NotJson n)) = refl
case_back (Err (Depth n)) = refl
case_back (Err (Room n)) = refl
case_back (Err (Large a e)) = refl

-- No two cases have the same numbers.
pub same_case : (r r' : Importing) → numbers r ≡ numbers r' → r ≡ r'
same_case r r' e = sym (case_back r) ∙ ap case_of e ∙ case_back r'

-- ── A tree's answer and output, with room and without ─────────────────────────────────────────────

has_room : (b : Bool) → TREE ≡ cond b TREE ROOM → b ≡ true
has_room true e = refl
has_room false e = absurd (omega (arith, e))

no_room : (b : Bool) → ROOM ≡ cond b TREE ROOM → b ≡ false
no_room true e = absurd (omega (arith, e))
no_room false e = refl

module _ (room : ℕ) (ts : Trees) where
  by_room : Bool → Answer
  by_room b = record { number = cond b TREE ROOM; start = 0; stop = 0; detail = 0; size = length (image ts) }

  out_by_room : Bool → List ℕ
  out_by_room b = cond b (image ts ++ replicate (room - length (image ts)) 0) (replicate room 0)

  pub fits-answer : length (image ts) ≤ room → answer room (tree ts) ≡ numbers (Ok (length (image ts)))
  unfolding answer numbers by_room
  fits-answer h = ap by_room (le-leb (length (image ts)) room h)

  pub fits-output : length (image ts) ≤ room → output room (tree ts) ≡ image ts ++ replicate (room - length (image ts)) 0
  unfolding output out_by_room
  fits-output h = ap out_by_room (le-leb (length (image ts)) room h)

  pub lacks_answer : room < length (image ts) → answer room (tree ts) ≡ numbers (Err (Room (length (image ts))))
  unfolding answer numbers by_room
  lacks_answer h = ap by_room (lt-leb (length (image ts)) room h)

  pub lacks_output : room < length (image ts) → output room (tree ts) ≡ replicate room 0
  unfolding output out_by_room
  lacks_output h = ap out_by_room (lt-leb (length (image ts)) room h)

  -- and back
  pub tree-answer : (n : ℕ) → numbers (Ok n) ≡ answer room (tree ts) → (n ≡ length (image ts)) × (length (image ts) ≤ room)
  unfolding numbers answer
  tree-answer n e = (ap (λ (a : Answer). a.size) e, leb-true (length (image ts)) room (has_room (leb (length (image ts)) room) (ap (λ (a : Answer). a.number) e)))

  pub room_answer : (n : ℕ) → numbers (Err (Room n)) ≡ answer room (tree ts) → (n ≡ length (image ts)) × (room < length (image ts))
  unfolding numbers answer
  room_answer n e = (ap (λ (a : Answer). a.size) e, leb-false (length (image ts)) room (no_room (leb (length (image ts)) room) (ap (λ (a : Answer). a.number) e)))

-- What any number but 0 leaves.
pub refusal-output : (room : ℕ) (v : Verdict) → ¬ ((answer room v).number ≡ TREE) → output room v ≡ replicate room 0
unfolding answer output
refusal-output room (refused n a e x) h = refl
refusal-output room (tree ts) h = by (leb (length (image ts)) room) h
  where
    by : (b : Bool) → ¬ (cond b TREE ROOM ≡ TREE) → cond b (image ts ++ replicate (room - length (image ts)) 0) (replicate room 0) ≡ replicate room 0
    by true h = absurd (h refl)
    by false h = refl

-- ── What is found ─────────────────────────────────────────────────────────────────────────────────

-- All bytes are valid.
pub valid_all : {s : List ℕ} {n : ℕ} → ValidTo s n → length s ≤ n → Utf8 s
valid_all v h = valid_whole v (omega (arith, v.within))

-- What the machine comes to is what is found out about a text.
judged_comes : {s : List ℕ} {v : Verdict} → length s ≤ 65000 → Utf8 s → Comes s (want []) 0 v → Judged s v
judged_comes {s} l u x = subst (Judged s) (x.runs is_too_large says_too_large) (judged_run s l u)

fault_numbers : (f : Fault) (room : ℕ) → numbers (Err (importing f)) ≡ answer room (verdict f)
unfolding numbers answer
fault_numbers (faults.NotJson n) room = refl
fault_numbers (faults.Deep n) room = refl
fault_numbers (faults.Large a e) room = refl

-- A refusal has no image.
fault_size : (f : Fault) → written (Err (importing f)) ≡ 0
unfolding numbers
fault_size (faults.NotJson n) = refl
fault_size (faults.Deep n) = refl
fault_size (faults.Large a e) = refl

fault_output : (f : Fault) (room : ℕ) → output room (verdict f) ≡ replicate room 0
unfolding output
fault_output (faults.NotJson n) room = refl
fault_output (faults.Deep n) room = refl
fault_output (faults.Large a e) room = refl

same_long : (out out' bs : List ℕ) → out' ≡ sets out 0 bs → length out' ≡ length out
same_long out out' bs e = ap length e ∙ length-sets out 0 bs

minus_none : (n : ℕ) → n - 0 ≡ n
minus_none n = omega arith

module _ {s out out' : List ℕ} where
  -- a refusal
  finds_refusal : {v : Verdict} {r : Importing} → Judged s v → numbers r ≡ answer (length out) v → written r ≡ 0 → output (length out) v ≡ replicate (length out) 0 → Finds s out r out'
  finds_refusal {v} {r} j q z o =
      record {
        found = v;
        judged = j;
        told = q;
        room = omega (arith, z);
        left = o ∙ ap (λ (n : ℕ). replicate n 0) (sym (minus_none (length out))) ∙ ap (λ (n : ℕ). take n out' ++ replicate (length out - n) 0) (sym z);
      }

  pub finds_long : 65000 < length s → Finds s out (Err Long) out'
  unfolding numbers answer output
  finds_long h = finds_refusal (Judged.too_long h) refl refl refl

  pub finds_encoding : {n : ℕ} → length s ≤ 65000 → ValidTo s n → n < length s → Finds s out (Err (Encoding n)) out'
  unfolding numbers answer output
  finds_encoding l v h = finds_refusal (Judged.not_utf8 l v h) refl refl refl

  module _ (l : length s ≤ 65000) (u : Utf8 s) where
    pub finds_broken : {f : Fault} → ParsedTo s out (Err f) out' → Finds s out (Err (importing f)) out'
    finds_broken {f} (ParsedTo.broken comes) = finds_refusal (judged_comes l u comes) (fault_numbers f (length out)) (fault_size f) (fault_output f (length out))

    -- without room
    pub finds_room : {w : ℕ} → ParsedTo s out (Ok w) out' → length out' < w → Finds s out (Err (Room w)) out'
    unfolding numbers
    finds_room {w = w} (parsed t comes put) h =
        let z : length out < length (image t) = omega (arith, put.to, h, same_long out out' (image t) put.stored) in
        let q : w ≡ length (image t) = omega (arith, put.to) in
        record {
          found = tree t;
          judged = judged_comes l u comes;
          told = ap (λ (n : ℕ). numbers (Err (Room n))) q ∙ sym (lacks_answer (length out) t z);
          room = omega arith;
          left = lacks_output (length out) t z ∙ ap (λ (n : ℕ). replicate n 0) (sym (minus_none (length out)));
        }

    -- with room
    pub finds_tree : {w : ℕ} → ParsedTo s out (Ok w) out' → w ≤ length out' → Finds s out (Ok w) out'
    unfolding numbers
    finds_tree {w = w} (parsed t comes put) h =
        let z : length (image t) ≤ length out = omega (arith, put.to, h, same_long out out' (image t) put.stored) in
        let q : w ≡ length (image t) = omega (arith, put.to) in
        let p : out' ≡ image t ++ drop (0 + length (image t)) out = put.stored ∙ sets-eq (image t) out 0 (omega (arith, z)) in
        record {
          found = tree t;
          judged = judged_comes l u comes;
          told = ap (λ (n : ℕ). numbers (Ok n)) q ∙ sym (fits-answer (length out) t z);
          room = omega (arith, q, z);
          left =
              fits-output (length out) t z
              ∙ ap (λ (n : ℕ). image t ++ replicate (length out - n) 0) (sym q)
              ∙ ap (λ (m : List ℕ). m ++ replicate (length out - w) 0) (sym (ap (take w) p ∙ take_at (image t) (drop (0 + length (image t)) out) w (sym q)));
        }

  -- and what is beyond it cleared
  pub imports_cleared : {r : Importing} {n : ℕ} {last : List ℕ} → Finds s out r out' → n ≡ written r → length out' ≡ length out
      → last ≡ replicate (length (take (length out' - n) (drop n out'))) 0 → Imports s out r (take n out' ++ (last ++ drop (length out' - n) (drop n out')))
  imports_cleared {r} {n} {last} f q k e =
      record {
        found = f.found;
        judged = f.judged;
        answered = f.told;
        written =
            ap (λ (m : List ℕ). take n out' ++ (last ++ m)) (drop_of_length-le (drop n out') {i = length out' - n} (omega (arith, length-drop n out')))
            ∙ ap (λ (m : List ℕ). take n out' ++ m) (append-nil last ∙ e ∙ ap (λ (m : ℕ). replicate m 0) long)
            ∙ ap (λ (m : ℕ). take m out' ++ replicate (length out - m) 0) q
            ∙ sym f.left;
      }
    where
      long : length (take (length out' - n) (drop n out')) ≡ length out - n
      long = ap length (take_all (length out' - n) (drop n out') (omega (arith, length-drop n out'))) ∙ length-drop n out' ∙ ap (λ (m : ℕ). m - n) k
