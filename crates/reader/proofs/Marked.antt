-- 01's marked readings, of `read`: whatever answers as it promises gives these answers, and leaves these outputs.
-- Assumes nothing.
use mathlib.Core.Path.{◌≡◌, subst, ◌∙◌}
use mathlib.Core.List.{List, ◌++◌}
use Prim.Native.Nat.{ℕ, ◌-◌, ◌≤◌}
use lib.ListN.{length, replicate}
use Rattle.grammar.specs.Trees.{Trees}
use Rattle.grammar.specs.Image.{image}
use Rattle.grammar.specs.Answer.{tree, Judged, document_01}
use Rattle.grammar.specs.Source.{Bad, Kept}
use Rattle.grammar.proofs.Marked.{Claim, reads, refuses, Holds, Each, Every, each_so, every_so, marked, further, marked_readings, further_readings}
use Rattle.reader.specs.Reader.{Reading, refusal, numbers, Reads}
use Rattle.std.specs.Prelude.{Ok}
use Rattle.reader.proofs.AnswerLaws.{same_case, fits-answer, fits-output}
use Rattle.reader.proofs.Demands.{answers_found, refused_is_refused}

-- Where there is room for the image, it is answered and stands in the output, with zeros after it; a refusal is answered whatever the room, and leaves zeros.
abbrev pub Answered : Claim → Type 0
Answered (reads s bytes img) =
    (out : List ℕ) (r : Reading) (out' : List ℕ) → length img ≤ length out → Reads s bytes out r out' → (r ≡ Ok (length img)) × (out' ≡ img ++ replicate (length out - length img) 0)
Answered (refuses s bytes n a e x) = (out : List ℕ) (r : Reading) (out' : List ℕ) → Reads s bytes out r out' → (numbers r ≡ refusal n a e x) × (out' ≡ replicate (length out) 0)

tree-answered : (s : ℕ) (bytes : List ℕ) (ts : Trees) → Judged Bad Kept document_01 s bytes (tree ts) → Answered (reads s bytes (image ts))
tree-answered s bytes ts j out r out' h x =
    let z = answers_found s bytes out r out' x j in (same_case _ _ (z.0 ∙ fits-answer (length out) ts h), z.1 ∙ fits-output (length out) ts h)

answered : (c : Claim) → Holds c → Answered c
answered (reads s bytes img) h = subst (λ (i : List ℕ). Answered (reads s bytes i)) h.2 (tree-answered s bytes h.0 h.1)
answered (refuses s bytes n a e d) h = λ out r out' x. refused_is_refused s bytes out r out' x n a e d h

-- The thirteen (`marked_are_thirteen`).
pub marked_answered : Every Answered marked
marked_answered = every_so answered marked marked_readings

-- The further sentences.
pub further_answered : Each Answered further
further_answered = each_so answered further further_readings
