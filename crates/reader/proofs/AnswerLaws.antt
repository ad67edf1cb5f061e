-- Laws of the reader's answers: no two cases have the same numbers, and what 0 and 12 say of a source.
-- Assumes nothing.
use mathlib.Core.Path.{◌≡◌, refl, sym, ap, subst, ◌∙◌}
use mathlib.Core.Bool.{Bool, true, false, cond}
use mathlib.Core.List.{List, ◌++◌}
use Prim.Native.Nat.{ℕ, ◌-◌, ◌≤◌, ◌<◌}
use native.Mathlib.Omega.{arith}
use borrow.Author.Tests.{leb-true, leb-false, le-leb, lt-leb}
use lib.Dec.{eqb, leb}
use lib.ListN.{length, replicate}
use Rattle.grammar.specs.Numbers.{TREE, SETTING, LONG, ENCODING, LEXEME, WANTED, ABSENT, EXPRESSION, MISPLACED, ESCAPE, DEPTH, ROOM}
use Rattle.grammar.specs.Trees.{Trees}
use Rattle.grammar.specs.Image.{image}
use Rattle.grammar.specs.Answer.{Answer, Verdict, refused, tree, Judged, answer, output, document_01}
use Rattle.grammar.specs.Source.{Bad, Kept, Reads01}
use Rattle.grammar.proofs.Whole.{Accepted, Parsed, parsed, judged_tree}
use Rattle.grammar.proofs.Source.{lexing}
use Rattle.reader.specs.Reader.{Reading, numbers}
use Rattle.std.specs.Prelude.{Ok, Err}
use Rattle.reader.specs.declared.Unread.TheVariants.{Setting, Long, Encoding, Lexeme, Wanted, Absent, Expression, Misplaced, Escape, Depth, Room, Large}

-- ── The case that has these numbers ───────────────────────────────────────────────────────────────

case_of : Answer → Reading
case_of a = by (eqb a.number)
  where
    by : (ℕ → Bool) → Reading
    by is =
        cond (is TREE) (Ok a.size)
        (cond (is SETTING) (Err Setting)
        (cond (is LONG) (Err Long)
        (cond (is ENCODING) (Err (Encoding a.start))
        (cond (is LEXEME) (Err (Lexeme a.start a.stop a.detail))
        (cond (is WANTED) (Err (Wanted a.start a.stop a.detail))
        (cond (is ABSENT) (Err (Absent a.start a.stop a.detail))
        (cond (is EXPRESSION) (Err (Expression a.start a.stop))
        (cond (is MISPLACED) (Err (Misplaced a.start a.stop a.detail))
        (cond (is ESCAPE) (Err (Escape a.start a.stop a.detail))
        (cond (is DEPTH) (Err (Depth a.start a.stop))
        (cond (is ROOM) (Err (Room a.size))
        (Err (Large a.start a.stop)))))))))))))

case_back : (r : Reading) → case_of (numbers r) ≡ r
unfolding numbers case_of
case_back (Ok n) = refl
case_back (Err Setting) = refl
case_back (Err Long) = refl
case_back (Err (Encoding n)) = refl
case_back (Err (Lexeme a e k)) = refl
case_back (Err (Wanted a e k)) = refl
case_back (Err (Absent a e x)) = refl
case_back (Err (Expression a e)) = refl
case_back (Err (Misplaced a e x)) = refl
case_back (Err (Escape a e x)) = refl
case_back (Err (Depth a e)) = refl
case_back (Err (Room n)) = refl
case_back (Err (Large a e)) = refl

-- No two cases have the same numbers.
pub same_case : (r r' : Reading) → numbers r ≡ numbers r' → r ≡ r'
same_case r r' e = sym (case_back r) ∙ ap case_of e ∙ case_back r'

-- ── Numbers 0 and 12 say that there is a tree ─────────────────────────────────────────────────────

-- The rules derive this tree of a source that is past numbers 1 to 4.
abbrev pub HasTree : ℕ → List ℕ → Trees → Type 0
HasTree setting source ts = Parsed lexing document_01 setting source ts

pub derived_judged : {setting : ℕ} {source : List ℕ} {ts : Trees} → HasTree setting source ts → Judged Bad Kept document_01 setting source (tree ts)
derived_judged d = judged_tree lexing document_01 d

-- An answer and an output with one of these numbers are those of a derived tree.
pub accepted_derived : {setting : ℕ} {source : List ℕ} {room : ℕ} {a : Answer} {out : List ℕ} → Reads01 setting source room a out → Accepted a
    → (ts : Trees) × HasTree setting source ts × (a ≡ answer room (tree ts)) × (out ≡ output room (tree ts))
accepted_derived {room = room} x h =
    let p = parsed lexing document_01 room x.judged (subst Accepted x.answered h) in
    (p.0, p.2, x.answered ∙ ap (answer room) p.1, x.written ∙ ap (output room) p.1)

-- ── A tree's answer and output, with room and without ─────────────────────────────────────────────

pub has_room : (b : Bool) → TREE ≡ cond b TREE ROOM → b ≡ true
has_room true e = refl
has_room false e = absurd (omega (arith, e))

no_room : (b : Bool) → ROOM ≡ cond b TREE ROOM → b ≡ false
no_room true e = absurd (omega (arith, e))
no_room false e = refl

module _ (room : ℕ) (ts : Trees) where
  by_room : Bool → Answer
  by_room b = record { number = cond b TREE ROOM; start = 0; stop = 0; detail = 0; size = length (image ts) }

  out_by_room : Bool → List ℕ
  out_by_room b = cond b (image ts ++ replicate (room - length (image ts)) 0) (replicate room 0)

  pub fits-answer : length (image ts) ≤ room → answer room (tree ts) ≡ numbers (Ok (length (image ts)))
  unfolding answer numbers by_room
  fits-answer h = ap by_room (le-leb (length (image ts)) room h)

  pub fits-output : length (image ts) ≤ room → output room (tree ts) ≡ image ts ++ replicate (room - length (image ts)) 0
  unfolding output out_by_room
  fits-output h = ap out_by_room (le-leb (length (image ts)) room h)

  pub lacks_answer : room < length (image ts) → answer room (tree ts) ≡ numbers (Err (Room (length (image ts))))
  unfolding answer numbers by_room
  lacks_answer h = ap by_room (lt-leb (length (image ts)) room h)

  pub lacks_output : room < length (image ts) → output room (tree ts) ≡ replicate room 0
  unfolding output out_by_room
  lacks_output h = ap out_by_room (lt-leb (length (image ts)) room h)

  -- and back
  pub tree-answer : (n : ℕ) → numbers (Ok n) ≡ answer room (tree ts) → (n ≡ length (image ts)) × (length (image ts) ≤ room)
  unfolding numbers answer
  tree-answer n e = (ap (λ (a : Answer). a.size) e, leb-true (length (image ts)) room (has_room (leb (length (image ts)) room) (ap (λ (a : Answer). a.number) e)))

  pub room_answer : (n : ℕ) → numbers (Err (Room n)) ≡ answer room (tree ts) → (n ≡ length (image ts)) × (room < length (image ts))
  unfolding numbers answer
  room_answer n e = (ap (λ (a : Answer). a.size) e, leb-false (length (image ts)) room (no_room (leb (length (image ts)) room) (ap (λ (a : Answer). a.number) e)))

-- What any number but 0 leaves.
pub refusal-output : (room : ℕ) (v : Verdict) → ¬ ((answer room v).number ≡ TREE) → output room v ≡ replicate room 0
unfolding answer output
refusal-output room (refused n a e x) h = refl
refusal-output room (tree ts) h = by (leb (length (image ts)) room) h
  where
    by : (b : Bool) → ¬ (cond b TREE ROOM ≡ TREE) → cond b (image ts ++ replicate (room - length (image ts)) 0) (replicate room 0) ≡ replicate room 0
    by true h = absurd (h refl)
    by false h = refl
