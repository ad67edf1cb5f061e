-- What a decoder answers and leaves in the part of the output that it is lent. Every decoder of every layer has this contract.
-- Assumes nothing.
use Rattle.std.specs.Prelude.{Result, Ok, Err, List, ℕ, length, replicate}
use Rattle.std.proofs.lemmas.List.Edits.{sets}
use Rattle.strings.specs.declared.Refused.{Refused}

-- a decoder's answer
abbrev pub Decoded : Type 0
Decoded = Result ℕ Refused

-- R3, R42. `Means t` says that t is the text meant, `Fault n` that there is none, and what is told of that. If there is a text, its whole length is
-- the answer and as much of it as has room stands from the part's start on (`sets` stores nothing past the end), the rest as it was. If
-- there is none, n is the answer and the part is all zero.
pub data Decoding (Means : List ℕ → Type 0) (Fault : ℕ → Type 0) (out : List ℕ) : Decoded → List ℕ → Type 0 where
  text : {t : List ℕ} → Means t → Decoding Means Fault out (Ok (length t)) (sets out 0 t)
  refused : {n : ℕ} → Fault n → Decoding Means Fault out (Err (record { at = n })) (replicate (length out) 0)

-- The fault of a decoder that always finds a text.
abbrev pub Never : ℕ → Type 0
Never n = ⊥

-- The fault of one that tells no more than that there is no text.
pub data Missing (Means : List ℕ → Type 0) : ℕ → Type 0 where
  missing : ((t : List ℕ) → Means t → ⊥) → Missing Means 0
