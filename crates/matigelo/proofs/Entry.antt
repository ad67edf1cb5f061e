-- What `matigelo_read` and `matigelo_json` hand to C is fixed, as their contracts are: the array of five numbers, and the output.
-- Assumes nothing.
use mathlib.Core.Path.{◌≡◌}
use mathlib.Core.List.{List}
use Prim.Native.Nat.{ℕ}
use lib.ListN.{length}
use Rattle.grammar.specs.Source.{Reads01}
use Rattle.grammar.proofs.Source.{reads_once}
use Rattle.reader.specs.Five.{five}
use Rattle.night.proofs.NightLaws.{same_five}
use Rattle.json_import.specs.Json.{ReadsJson}
use Rattle.json_import.specs.Importer as importer
use Rattle.json_import.proofs.OneAnswer.{one_answer}

-- No second array and no second output meet the contract.
pub one_array : {setting : ℕ} {source : List ℕ} {room : ℕ} (a b : List ℕ) {out out' : List ℕ} → length a ≡ 5 → length b ≡ 5
    → Reads01 setting source room (five a) out → Reads01 setting source room (five b) out' → (a ≡ b) × (out ≡ out')
one_array a b l m x y = let z = reads_once x y in (same_five a b l m z.0, z.1)

-- The same of a station's text.
pub one_array_json : {s : List ℕ} {room : ℕ} (a b : List ℕ) {out out' : List ℕ} → length a ≡ 5 → length b ≡ 5
    → ReadsJson s room (importer.five a) out → ReadsJson s room (importer.five b) out' → (a ≡ b) × (out ≡ out')
one_array_json a b l m x y = let z = one_answer x y in (same_five a b l m z.0, z.1)
