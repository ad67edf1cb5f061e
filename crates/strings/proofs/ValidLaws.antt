-- Laws of the bytes that are valid so far: a block of ASCII more, and what stops them.
-- Assumes nothing.
use mathlib.Core.Path.{◌≡◌}
use mathlib.Core.List.{List}
use Prim.Native.Nat.{ℕ, zero, suc, ◌+◌, ◌≤◌, ◌<◌}
use native.Mathlib.Omega.{arith}
use native.Mathlib.Numerals.{unary_clauses}
use native.Mathlib.Decide.{dec_lt}
use lib.ListN.{length, get_or, drop}
use lib.Seq.{drop-cons}
use Rattle.strings.specs.Utf8.{In, row_00_7F, CharacterLength, begins, ValidTo}
use Rattle.strings.specs.Valid.{NoneAbove, ValidSoFar, ValidUpTo, reached, stopped}
use Rattle.strings.proofs.Reading.{past_end}
use Rattle.strings.proofs.CharacterLaws.{CharacterAt, character_at, valid_on, valid_stop}

-- One byte more, and perhaps a larger bound.
pub none_above_on : {s : List ℕ} {from n m m' : ℕ} → NoneAbove s from n m → m ≤ m' → get_or s (from + n) 0 ≤ m' → NoneAbove s from (n + 1) m'
none_above_on {s} {from} {n} {m} {m'} a h last = record { at_most = λ k g. by k g (dec_lt k n) }
  where
    by : (k : ℕ) → k < n + 1 → Dec (k < n) → get_or s (from + k) 0 ≤ m'
    by k g (yes l) = omega (arith, a.at_most k l)
    by k g (no l) = let e : n ≡ k = omega arith in rw e at last

-- A byte of ASCII is a character.
ascii_at : (s : List ℕ) (at : ℕ) → at < length s → get_or s at 0 < 0x80 → CharacterAt s at 1
ascii_at s at h a =
    let low : In 0x00 0x7F (get_or s at 0) = omega arith in
    let one : CharacterLength (drop at s) 1 = rw (drop-cons s at 0 h) (begins {r = drop (suc at) s} {n = 1} (row_00_7F low) (omega arith)) in
    character_at s at 1 one (omega arith)

-- One character more is valid too.
pub valid_more : {s : List ℕ} {at n : ℕ} → ValidSoFar s at → CharacterAt s at n → ValidSoFar s (at + n)
valid_more v c = record { within = c.within; valid = valid_on v.valid c }

-- So many bytes of ASCII more are valid too.
pub ascii_more : {s : List ℕ} {at m : ℕ} (n : ℕ) → at + n ≤ length s → NoneAbove s at n m → m < 0x80 → ValidSoFar s at → ValidSoFar s (at + n)
ascii_more zero h a b v = simp unary_clauses v
ascii_more {s} {at} (suc n) h a b v =
    let before : NoneAbove s at n _ = record { at_most = λ k g. a.at_most k (omega arith) } in
    let last = ascii_at s (at + n) (omega arith) (omega (arith, a.at_most n (omega arith))) in
    let place : at + suc n ≡ at + n + 1 = omega arith in
    rw place (valid_more (ascii_more n (omega arith) before b v) last)

-- What is reached at the end, or stopped before it, is all that is valid.
pub valid_end : {s : List ℕ} {at : ℕ} → ValidUpTo s (length s) at → ValidTo s at
valid_end (reached h v) = valid_stop _ _ v.within v.valid (past_end _ _ h)
valid_end (stopped h v) = v

pub stopped_short : {s : List ℕ} {to at : ℕ} → ValidUpTo s to at → at < to → ValidTo s at
stopped_short (reached h v) l = absurd (omega arith)
stopped_short (stopped h v) l = v

pub valid_there : {s : List ℕ} {to at : ℕ} → ValidUpTo s to at → to ≤ at → ValidSoFar s at
valid_there (reached h v) l = v
valid_there (stopped h v) l = absurd (omega arith)
