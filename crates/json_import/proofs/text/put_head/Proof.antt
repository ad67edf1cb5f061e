-- `put_head` meets its contract: the bytes of the head, one behind the other.
-- Assumes nothing.
use mathlib.Core.Path.{refl}
use mathlib.Core.List.{[], ◌∷◌}
use Prim.Native.Nat.{◌/◌, ◌%◌}
use native.Mathlib.Omega.{arith}
use lib.ListN.{length-set}
use borrow.Author.Rules.{rules}
use Rattle.json_import.proofs.NextPlaces.{then_byte}
use Rattle.json_import.proofs.text.put_head.Statement.{statement}
use Rattle.json_import.proofs.text.put_head.Tie as tie

add_end : tie.Need-overflow_add-end
add_end c = search rules

put_head_requires : tie.Need-put_head-requires
put_head_requires c κs = search rules

same_length : tie.Need-shape_of-out-then-out-end
same_length c = search rules

returns : tie.Need-returns-then-out-end
returns c = search rules

slice_write_out : tie.Need-bounds-out-w
slice_write_out c = search rules

cast_out : tie.Need-overflow_cast-out
cast_out c = search rules

add_out : tie.Need-overflow_add-out
add_out c = search rules

slice_write_out_2 : tie.Need-bounds-out-w-2
slice_write_out_2 c = simp length-set (omega arith)

cast_out_2 : tie.Need-overflow_cast-out-2
cast_out_2 c = search rules

add_out_2 : tie.Need-overflow_add-out-2
add_out_2 c = search rules

slice_write_out_3 : tie.Need-bounds-out-w-3
slice_write_out_3 c = simp length-set (omega arith)

same_length_2 : tie.Need-shape_of-out
same_length_2 c = simp length-set

returns_2 : tie.Need-returns
returns_2 c =
    let out = c.args.out.now in
    let w = c.args.w in
    let tag = c.args.tag in
    let n = c.args.n in
    record { to = refl; stored = then_byte out w (tag ∷ n / 256 ∷ []) (n % 256) (then_byte out w (tag ∷ []) (n / 256) refl (omega arith)) (omega arith) }

pub put_head_spec : {M : Type 1} → statement M
put_head_spec =
    tie.close
    (tie.spec
    add_end
    put_head_requires
    same_length
    returns
    slice_write_out
    cast_out
    add_out
    slice_write_out_2
    cast_out_2
    add_out_2
    slice_write_out_3
    same_length_2
    returns_2)
