-- For each byte of records 1, 12, 13 and 16 the lexeme that it is written as: tables, a row for each byte from 0 on.
-- Assumes nothing.
use mathlib.Core.Path.{◌≡◌, subst}
use mathlib.Core.Bool.{not}
use Prim.Native.Nat.{ℕ, zero, suc, ◌+◌, ◌≤◌, ◌<◌}
use native.Mathlib.Omega.{arith}
use lib.Dec.{T}
use Rattle.grammar.specs.Productions.{exp_null_coaelse}
use Rattle.grammar.specs.Reading.{has}
use Rattle.grammar.specs.Spells.{Unary, Identity, Import, Binary}
use Rattle.grammar.proofs.Stretches.{suffixing}
use Rattle.grammar.proofs.Possible.{wordless}

-- A P for each number from n up to, not including, m.
infixr 40 ◌row◌
data Rows (P : ℕ → Type 0) (m : ℕ) : ℕ → Type 0 where
  none : Rows P m m
  ◌row◌ : {n : ℕ} → P n → Rows P m (suc n) → Rows P m n

find : {P : ℕ → Type 0} {m n : ℕ} → Rows P m n → (g : ℕ) → n + g < m → P (n + g)
find none g h = absurd (omega arith)
find {P} (◌row◌ {n} p t) zero h = let e : n ≡ n + zero = omega arith in subst P e p
find {P} (◌row◌ {n} p t) (suc g) h = let e : suc n + g ≡ n + suc g = omega arith in subst P e (find t g (omega arith))

at : {P : ℕ → Type 0} {m : ℕ} → Rows P m 0 → (o : ℕ) → o < m → P o
at {P} t o h = let e : 0 + o ≡ o = omega arith in subst P e (find t o (omega arith))

pub data IdentityOf (o : ℕ) : Type 0 where
  an_identity : {k : ℕ} → Identity k o → T (wordless k) → IdentityOf o

pub data ImportOf (o : ℕ) : Type 0 where
  an_import : {k : ℕ} → Import k o → T (wordless k) → ImportOf o

pub data SignOf (o : ℕ) : Type 0 where
  a_sign : {k : ℕ} → Unary k o → T (wordless k) → SignOf o

pub data OperatorOf (s o : ℕ) : Type 0 where
  an_operator : {k l : ℕ} → Binary s k l o → T (wordless k) → T (not (suffixing k)) → OperatorOf s o

identities : Rows IdentityOf 3 0
identities = an_identity Identity.self tt row an_identity Identity.super tt row an_identity Identity.dollar tt row none

imports : Rows ImportOf 3 0
imports = an_import Import.import tt row an_import Import.importstr tt row an_import Import.importbin tt row none

signs : Rows SignOf 4 0
signs = a_sign Unary.plus tt row a_sign Unary.minus tt row a_sign Unary.bit_not tt row a_sign Unary.not tt row none

pub identity_of : (o : ℕ) → o ≤ 2 → IdentityOf o
identity_of o h = at identities o (omega arith)

pub import_of : (o : ℕ) → o ≤ 2 → ImportOf o
import_of o h = at imports o (omega arith)

pub sign_of : (o : ℕ) → o ≤ 3 → SignOf o
sign_of o h = at signs o (omega arith)

module _ {s : ℕ} (on : T (has s exp_null_coaelse)) where
  binaries : Rows (OperatorOf s) 20 0
  binaries =
      an_operator Binary.mul tt tt row
      an_operator Binary.div tt tt row
      an_operator Binary.modulo tt tt row
      an_operator Binary.plus tt tt row
      an_operator Binary.minus tt tt row
      an_operator Binary.lhs tt tt row
      an_operator Binary.rhs tt tt row
      an_operator Binary.lt tt tt row
      an_operator Binary.gt tt tt row
      an_operator Binary.le tt tt row
      an_operator Binary.ge tt tt row
      an_operator Binary.bit_and tt tt row
      an_operator Binary.bit_or tt tt row
      an_operator Binary.bit_xor tt tt row
      an_operator Binary.eq tt tt row
      an_operator Binary.ne tt tt row
      an_operator Binary.and tt tt row
      an_operator Binary.or tt tt row
      an_operator (Binary.coalesce on) tt tt row
      an_operator Binary.in_object tt tt row
      none

  pub operator_of : (o : ℕ) → o ≤ 19 → OperatorOf s o
  operator_of o h = at binaries o (omega arith)
