-- Lines and the text that they make: how a walk puts it together, and that the text has every line.
-- Assumes nothing.
use mathlib.Core.Path.{◌≡◌, refl, sym, ◌∙◌, ap}
use mathlib.Core.Bool.{false}
use mathlib.Core.List.{List, [], ◌∷◌, ◌++◌, append_assoc}
use Prim.Native.Nat.{ℕ, ◌+◌, ◌≤◌}
use native.Mathlib.Omega.{arith}
use lib.ListN.{length, length-append}
use Rattle.blocks.specs.Blocks.{Run, stop, more, LineFeed, InLine, Lines, empty, content, joined, text}
use Rattle.blocks.proofs.Runs.{run_length}

-- lines, each with its LF
abbrev pub ended : List (List ℕ) → List ℕ
ended [] = []
ended (line ∷ lines) = line ++ 0x0A ∷ ended lines

-- as many empty lines as there are LFs
abbrev pub empties : List ℕ → List (List ℕ)
empties [] = []
empties (b ∷ bs) = [] ∷ empties bs

pub ended_append : (ls ms : List (List ℕ)) → ended (ls ++ ms) ≡ ended ls ++ ended ms
ended_append [] ms = refl
ended_append (l ∷ ls) ms = ap (λ (t : List ℕ). l ++ 0x0A ∷ t) (ended_append ls ms) ∙ sym (append_assoc l (0x0A ∷ ended ls) (ended ms))

pub joined_ended : (l : List ℕ) (ls : List (List ℕ)) → joined (l ∷ ls) ++ 0x0A ∷ [] ≡ ended (l ∷ ls)
unfolding joined
joined_ended l [] = refl
joined_ended l (m ∷ ls) = append_assoc l (0x0A ∷ joined (m ∷ ls)) (0x0A ∷ []) ∙ ap (λ (t : List ℕ). l ++ 0x0A ∷ t) (joined_ended m ls)

pub joined_after : (ls : List (List ℕ)) (m : List ℕ) (ms : List (List ℕ)) → joined (ls ++ m ∷ ms) ≡ ended ls ++ joined (m ∷ ms)
unfolding joined
joined_after [] m ms = refl
joined_after (l ∷ []) m ms = sym (append_assoc l (0x0A ∷ []) (joined (m ∷ ms)))
joined_after (l ∷ k ∷ ls) m ms =
    ap (λ (t : List ℕ). l ++ 0x0A ∷ t) (joined_after (k ∷ ls) m ms) ∙ sym (append_assoc l (0x0A ∷ ended (k ∷ ls)) (joined (m ∷ ms)))

module _ {indent : List ℕ} where
  pub lines_join :
      {s t r : List ℕ} {ls ms : List (List ℕ)} → Lines indent s ls t → Lines indent t ms r → Lines indent s (ls ++ ms) r
  lines_join Lines.none e = e
  lines_join (empty d) e = empty (lines_join d e)
  lines_join (content h q d) e = content h q (lines_join d e)

  pub empty_lines : {s es r : List ℕ} → Run LineFeed s es r → Lines indent s (empties es) r
  empty_lines Run.end = Lines.none
  empty_lines (stop h) = Lines.none
  empty_lines (more {s = s} {r = r} p d) = rw p (empty (empty_lines d))

  -- lines, each with its LF, and what follows are no longer than what they were read from
  pub lines_length : {s r : List ℕ} {ls : List (List ℕ)} → Lines indent s ls r → length (ended ls) + length r ≤ length s
  lines_length Lines.none = omega arith
  lines_length (empty d) = let h = lines_length d in omega arith
  lines_length (content {t = t} {line = line} {u = u} {lines = ls} e q d) =
      let h = lines_length d in
      omega (arith, ap length e, length-append indent t, run_length q, length-append line (0x0A ∷ ended ls))

pub ended_empties : {s es r : List ℕ} → Run LineFeed s es r → ended (empties es) ≡ es
ended_empties Run.end = refl
ended_empties (stop h) = refl
ended_empties (more p d) = rw (p, ended_empties d)

-- A line with its LF and the empty lines after it: what was read is what is stored.
pub paragraph :
    {indent s t l u es r : List ℕ} → s ≡ indent ++ t → Run InLine t l (0x0A ∷ u) → Run LineFeed u es r → Lines indent s (l ∷ empties es) r
paragraph e q d = content e q (empty_lines d)

pub paragraph_ended : (l : List ℕ) {u es r : List ℕ} → Run LineFeed u es r → ended (l ∷ empties es) ≡ l ++ 0x0A ∷ es
paragraph_ended l d = ap (λ (t : List ℕ). l ++ 0x0A ∷ t) (ended_empties d)

-- The text without `-` is every line with its LF.
pub text-plain : (ls : List (List ℕ)) (m : List ℕ) (ms : List (List ℕ)) → text false (ls ++ m ∷ ms) ≡ ended (ls ++ m ∷ ms)
unfolding text
text-plain ls m ms =
    ap (λ (t : List ℕ). t ++ 0x0A ∷ []) (joined_after ls m ms) ∙ append_assoc (ended ls) (joined (m ∷ ms)) (0x0A ∷ [])
    ∙ ap (λ (t : List ℕ). ended ls ++ t) (joined_ended m ms) ∙ sym (ended_append ls (m ∷ ms))
