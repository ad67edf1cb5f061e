-- `writers::put_number` meets its contract: one writing after the other, or two stores.
-- Assumes nothing.
use mathlib.Core.Path.{refl}
use Prim.Native.Nat.{◌/◌, ◌%◌}
use native.Mathlib.Omega.{arith}
use lib.ListN.{length-set}
use borrow.Author.Rules.{rules}
use Rattle.grammar.proofs.WritingLaws.{and_then, both}
use Rattle.grammar.proofs.writers.put_number.Statement.{statement}
use Rattle.grammar.proofs.writers.put_number.Tie as tie

returns : tie.Need-returns-then-out-w
returns c = and_then c.put_byte-w1.ensures c.put_byte.ensures

slice_write_out_2 : tie.Need-bounds-out-w-2
slice_write_out_2 c = simp length-set (omega arith)

returns_2 : tie.Need-returns
returns_2 c =
    let args = c.args in
    record { to = refl; stored = both args.out.now args.w (args.n / 256) (args.n % 256) }

pub put_number_spec : {M : Type 1} → statement M
put_number_spec =
    tie.close
    (tie.spec
    (λ c. search rules)
    (λ c. search rules)
    (λ c κs. search rules)
    (λ c. search rules)
    (λ c κs. search rules)
    (λ c. search rules)
    returns
    (λ c. search rules)
    (λ c. search rules)
    (λ c. search rules)
    (λ c. search rules)
    slice_write_out_2
    (λ c. search rules)
    (λ c. search rules)
    returns_2)
