-- THE DEMANDS ON A NIGHT, as theorems about `night::read`. What it promises is `Night` (specs/Night.antt): of a setting, the sources with their
-- ends, the output's length with the ends of its parts and the length of the list for the answers, which number the call gives and what it
-- leaves. It is told by what a single call promises (`Reads01`, crates/grammar/specs/Source.antt) and by nothing else.
-- Assumes nothing.
use mathlib.Core.Path.{◌≡◌, refl, sym, ap, ◌∙◌}
use mathlib.Core.Bool.{true}
use mathlib.Core.List.{List}
use mathlib.Core.Logic.{◌⊎◌}
use Prim.Native.Nat.{ℕ, ◌+◌, ◌*◌, ◌<◌}
use native.Mathlib.Omega.{arith}
use lib.ListN.{length, replicate}
use lib.Seq.{length-slice}
use Rattle.grammar.specs.Numbers.{TREE}
use Rattle.grammar.specs.Settings.{◌⊑◌}
use Rattle.grammar.specs.Answer.{Answer, valid_setting, document_01}
use Rattle.grammar.specs.Source.{Reads01}
use Rattle.grammar.proofs.Whole.{Accepted, Fifth}
use Rattle.grammar.proofs.Source.{lexing, reads_once, larger_setting, smaller_setting}
use Rattle.reader.specs.Reader.{Reading, numbers, Reads}
use Rattle.reader.proofs.AnswerLaws.{refusal-output}
use Rattle.night.specs.Night.{READ, LISTS, begins, stops, file, size_of, answer_of, Fit, Each, Night, read, unfit}
use Rattle.night.proofs.Parts.{same_parts}
use Rattle.night.proofs.NightLaws.{same_five, reads_same}
use contract.Lifetimes.{Lfts}
use borrow.Fn.Kinds.{Dens}
use Rattle.night.proofs.read.Kinds.{ps}
use Rattle.night.proofs.read.Reads as reads
use Rattle.night.proofs.read.Statement.{statement}
use Rattle.night.proofs.read.Met.{met}

-- ── There is always an answer ─────────────────────────────────────────────────────────────────────

-- Each call stays in bounds and ends, and what it promises is so.
pub total : {M : Type 1} → statement M
total = met

-- It asks nothing of its caller.
pub asks_nothing : (κs : Lfts 5) (a : Dens κs ps) → reads.Asked κs a
asks_nothing κs a = tt

-- ── 20 exactly for lists that do not fit ──────────────────────────────────────────────────────────

module _ {setting : ℕ} {sources ends : List ℕ} {room : ℕ} {parts : List ℕ} {count : ℕ} where
  pub fit_is_read : {n : ℕ} {out answers : List ℕ} → Fit ends (length sources) parts room count → Night setting sources ends room parts count n out answers → n ≡ READ
  fit_is_read f (read g u v e) = refl
  fit_is_read f (unfit g) = absurd (g f)

  pub unfit_is_refused : {n : ℕ} {out answers : List ℕ} → (Fit ends (length sources) parts room count → ⊥) → Night setting sources ends room parts count n out answers
      → (n ≡ LISTS) × (out ≡ replicate room 0) × (answers ≡ replicate count 0)
  unfit_is_refused g (read f u v e) = absurd (g f)
  unfit_is_refused g (unfit h) = (refl, refl, refl)

  -- What 0 says.
  pub read_fits : {n : ℕ} {out answers : List ℕ} → Night setting sources ends room parts count n out answers → n ≡ READ
      → Fit ends (length sources) parts room count × (length out ≡ room) × (length answers ≡ count) × Each setting sources ends parts out answers
  read_fits (read f u v e) q = (f, u, v, e)
  read_fits (unfit g) q = absurd (omega (arith, q))

-- ── Each file is answered as by a single call ─────────────────────────────────────────────────────

module _ {setting : ℕ} {sources ends : List ℕ} {room : ℕ} {parts : List ℕ} {count : ℕ} {out answers : List ℕ} (x : Night setting sources ends room parts count READ out answers)
    (i : ℕ) (here : i < length ends) where
  pub single : Reads01 setting (file ends sources i) (size_of parts i) (answer_of answers i) (file parts out i)
  single = (read_fits x refl).3.single i here

  -- Whatever `read` answers to the file by itself, with an output as long as its part.
  pub as_single : (o : List ℕ) (reading : Reading) (o' : List ℕ) → length o ≡ size_of parts i → Reads setting (file ends sources i) o reading o'
      → (answer_of answers i ≡ numbers reading) × (file parts out i ≡ o')
  as_single o reading o' l y = reads_once single (reads_same refl l refl refl y)

  -- After a refusal of the file its part is all zero.
  pub zero_after_refusal : ¬ ((answer_of answers i).number ≡ TREE) → file parts out i ≡ replicate (size_of parts i) 0
  zero_after_refusal n = single.written ∙ refusal-output (size_of parts i) single.found (λ e. n (ap (λ (a : Answer). a.number) single.answered ∙ e))

-- No other file matters: two nights under one setting that have a file in common, and parts of one length for it, wherever it stands among whatever
-- others, read or refused, have its answer and its part in common.
pub others_do_not_matter : {setting : ℕ} {sources ends : List ℕ} {room : ℕ} {parts : List ℕ} {count : ℕ} {out answers : List ℕ} {sources' ends' : List ℕ} {room' : ℕ} {parts' : List ℕ} {count' : ℕ} {out' answers' : List ℕ}
    → Night setting sources ends room parts count READ out answers → Night setting sources' ends' room' parts' count' READ out' answers'
    → (i j : ℕ) → i < length ends → j < length ends' → file ends sources i ≡ file ends' sources' j → size_of parts i ≡ size_of parts' j
    → (answer_of answers i ≡ answer_of answers' j) × (file parts out i ≡ file parts' out' j)
others_do_not_matter x y i j h k p q = reads_once (single x i h) (reads_same (sym p) (sym q) refl refl (single y j k))

-- ── Demand 3, file by file ────────────────────────────────────────────────────────────────────────

-- Two nights of the same files, the second with every switch of the first, and both with 8 or both without.
module _ (s s' : ℕ) (le : s ⊑ s') {sources ends : List ℕ} {room : ℕ} {parts : List ℕ} {count : ℕ} {out answers out' answers' : List ℕ}
    (x : Night s sources ends room parts count READ out answers) (x' : Night s' sources ends room parts count READ out' answers') (i : ℕ) (here : i < length ends) where
  -- It changes no tree and no refusal for room.
  pub larger : valid_setting s' ≡ true → Accepted (answer_of answers i) → (answer_of answers' i ≡ answer_of answers i) × (file parts out' i ≡ file parts out i)
  larger = larger_setting s s' le (file ends sources i) (size_of parts i) (single x i here) (single x' i here)

  -- Where it has a tree, the smaller setting has the same, or refuses with number 5 at the first place that the larger reads by a switch that the
  -- smaller lacks (`Fifth`, crates/grammar/proofs/Whole.antt).
  pub smaller : valid_setting s ≡ true → Accepted (answer_of answers' i)
      → ((answer_of answers i ≡ answer_of answers' i) × (file parts out i ≡ file parts out' i))
      ⊎ Fifth lexing document_01 s s' le (file ends sources i) (size_of parts i) (single x i here) (single x' i here)
  smaller = smaller_setting s s' le (file ends sources i) (size_of parts i) (single x i here) (single x' i here)

-- ── No second answer ──────────────────────────────────────────────────────────────────────────────

module _ {setting : ℕ} {sources ends : List ℕ} {room : ℕ} {parts : List ℕ} {count : ℕ} where
  -- outputs whose parts are those of single calls
  same_outputs : {out out' answers answers' : List ℕ} → Fit ends (length sources) parts room count → length out ≡ room → length out' ≡ room
      → Each setting sources ends parts out answers → Each setting sources ends parts out' answers' → out ≡ out'
  same_outputs {out} {out'} f u v e e' =
      same_parts (begins parts) (stops parts) (length parts) refl (λ i h. refl) f.output.forward out out'
      (λ i h. (reads_once (e.single i (omega (arith, h, f.parts))) (e'.single i (omega (arith, h, f.parts)))).1) (f.output.whole ∙ sym u) (f.output.whole ∙ sym v)

  -- and their lists of answers
  same_answers : {out out' answers answers' : List ℕ} → Fit ends (length sources) parts room count → length answers ≡ count → length answers' ≡ count
      → Each setting sources ends parts out answers → Each setting sources ends parts out' answers' → answers ≡ answers'
  same_answers {answers = answers} {answers'} f u v e e' =
      same_parts (λ (i : ℕ). 5 * i) (λ (i : ℕ). 5 * i + 5) (length ends) refl (λ i h. omega arith) (λ i h. omega arith) answers answers'
      (λ i h. same_five _ _
      (length-slice (5 * i) (5 * i + 5) answers (omega (arith, h, u, f.answers)) ∙ omega arith)
      (length-slice (5 * i) (5 * i + 5) answers' (omega (arith, h, v, f.answers)) ∙ omega arith)
      (reads_once (e.single i h) (e'.single i h)).0)
      (sym (u ∙ f.answers)) (sym (v ∙ f.answers))

  -- No second number, output or list of answers meets the contract.
  pub no_second : {n n' : ℕ} {out out' answers answers' : List ℕ} → Night setting sources ends room parts count n out answers → Night setting sources ends room parts count n' out' answers'
      → (n ≡ n') × (out ≡ out') × (answers ≡ answers')
  no_second (read f u v e) (read g w y e') = (refl, same_outputs f u w e e', same_answers f v y e e')
  no_second (read f u v e) (unfit g) = absurd (g f)
  no_second (unfit g) (read f u v e) = absurd (g f)
  no_second (unfit g) (unfit h) = (refl, refl, refl)
