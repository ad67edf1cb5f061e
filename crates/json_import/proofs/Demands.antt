-- WHAT IS ASKED OF THE IMPORTER, as theorems about `read_json`. What it promises is `Imports s out r out'` (specs/Importer.antt): of a text and an output as it
-- was lent, which answer it gives and what it leaves in the output, as document 02 has them (`ReadsJson`, specs/Json.antt).
-- Assumes nothing.
use mathlib.Core.Path.{◌≡◌, refl, ap, subst, ◌∙◌}
use mathlib.Core.List.{List, ◌++◌}
use Prim.Native.Nat.{ℕ, ◌-◌, ◌≤◌, ◌<◌}
use lib.ListN.{length, replicate}
use Rattle.std.specs.Prelude.{Ok, Err}
use Rattle.strings.specs.Utf8.{Utf8}
use Rattle.numerals.specs.Value.{TooLarge}
use Rattle.grammar.specs.Numbers.{TREE}
use Rattle.grammar.specs.Trees.{Trees}
use Rattle.grammar.specs.Image.{image}
use Rattle.grammar.specs.Answer.{Answer, Verdict, refused, tree, answer, output}
use Rattle.json_import.specs.Json.{Text, TooDeep, Continues, Judged, read, not_json, ReadsJson}
use Rattle.json_import.specs.Importer.{Importing, refusal, numbers, Imports}
use Rattle.json_import.specs.declared.Unread.TheVariants.{NotJson, Room}
use Rattle.json_import.proofs.OneAnswer.{one_answer}
use Rattle.json_import.proofs.ImportLaws.{same_case, fits-answer, fits-output, lacks_answer, refusal-output}
use contract.Lifetimes.{Lfts}
use borrow.Fn.Kinds.{Dens}
use Rattle.json_import.proofs.read_json.Kinds.{ps}
use Rattle.json_import.proofs.read_json.Reads as reads
use Rattle.json_import.proofs.read_json.Statement.{statement}
use Rattle.json_import.proofs.read_json.Met.{met}

-- Each call of `read_json` stays in bounds and ends, and what it promises is so.
pub total : {M : Type 1} → statement M
total = met

-- It asks nothing of its caller.
pub asks_nothing : (κs : Lfts 2) (a : Dens κs ps) → reads.Asked κs a
asks_nothing κs a = tt

-- One call: an answer and an output as promised.
module _ (s out : List ℕ) (r : Importing) (out' : List ℕ) (x : Imports s out r out') where
  -- Whatever is found out about a text, `read_json` answers, and leaves in the output.
  pub answers_found : {v : Verdict} → Judged s v → (numbers r ≡ answer (length out) v) × (out' ≡ output (length out) v)
  answers_found j = one_answer x (record { found = _; judged = j; answered = refl; written = refl })

  -- After a refusal, which is any number but 0, the output is all zero.
  pub zero_after_refusal : ¬ ((numbers r).number ≡ TREE) → out' ≡ replicate (length out) 0
  zero_after_refusal n = x.written ∙ refusal-output (length out) x.found (λ e. n (ap (λ (a : Answer). a.number) x.answered ∙ e))

  -- A text that is short enough, is UTF-8 and is read to its end is answered with its tree: the image and zeros behind it; or refused for room only.
  pub text_is_tree : (t : Trees) → length s ≤ 65000 → Utf8 s → Text TooDeep TooLarge s (tree t) → length (image t) ≤ length out
      → (r ≡ Ok (length (image t))) × (out' ≡ image t ++ replicate (length out - length (image t)) 0)
  text_is_tree t l u y h =
      let z = answers_found (read l u y) in
      (same_case _ _ (z.0 ∙ fits-answer (length out) t h), z.1 ∙ fits-output (length out) t h)

  pub text_is_room : (t : Trees) → length s ≤ 65000 → Utf8 s → Text TooDeep TooLarge s (tree t) → length out < length (image t) → r ≡ Err (Room (length (image t)))
  text_is_room t l u y h = same_case _ _ ((answers_found (read l u y)).0 ∙ lacks_answer (length out) t h)

  -- What is broken off by 11 or 17 is refused so.
  pub broken_is_refused : (n a e : ℕ) → length s ≤ 65000 → Utf8 s → Text TooDeep TooLarge s (refused n a e 0) → (numbers r ≡ refusal n a e) × (out' ≡ replicate (length out) 0)
  unfolding answer output
  broken_is_refused n a e l u y = answers_found (read l u y)

  -- 19 is answered exactly of a text within 2 and 3 that has no reading, at the first byte where no JSON text continues.
  pub no_text_is_19 : (n : ℕ) → length s ≤ 65000 → Utf8 s → ((v : Verdict) → Text TooDeep TooLarge s v → ⊥) → Continues s n → r ≡ Err (NotJson n)
  unfolding answer numbers
  no_text_is_19 n l u f c = same_case _ _ (answers_found (not_json l u f c)).0

  -- No second answer and no second output meet the contract, whatever the output held.
  pub no_second : (out₁ : List ℕ) (r₁ : Importing) (out₁' : List ℕ) → length out₁ ≡ length out → Imports s out₁ r₁ out₁' → (r ≡ r₁) × (out' ≡ out₁')
  no_second out₁ r₁ out₁' l y =
      let z = one_answer x (subst (λ (room : ℕ). ReadsJson s room (numbers r₁) out₁') l y) in (same_case _ _ z.0, z.1)
