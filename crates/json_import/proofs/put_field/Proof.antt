-- `put_field` meets its contract: the bytes of the record, one behind the other.
-- Assumes nothing.
use mathlib.Core.Path.{refl}
use mathlib.Core.List.{[], ◌∷◌}
use Prim.Native.Nat.{◌/◌, ◌%◌}
use native.Mathlib.Omega.{arith}
use lib.ListN.{length-set}
use Rattle.grammar.specs.Tags.{FIELD}
use Rattle.grammar.specs.Image.{payload, entry}
use Rattle.json_import.proofs.NextPlaces.{field_long, then_byte}
use borrow.Author.Rules.{rules}
use Rattle.json_import.proofs.put_field.Statement.{statement}
use Rattle.json_import.proofs.put_field.Tie as tie

add_end : tie.Need-overflow_add-end
add_end c = search rules

put_field_requires : tie.Need-put_field-requires
put_field_requires c κs = search rules

same_length : tie.Need-shape_of-out-then-out-end
same_length c = search rules

returns : tie.Need-returns-then-out-end
returns c = search rules

slice_write_out : tie.Need-bounds-out-w
slice_write_out c = search rules

add_out : tie.Need-overflow_add-out
add_out c = search rules

slice_write_out_2 : tie.Need-bounds-out-w-2
slice_write_out_2 c = simp length-set (omega arith)

add_out_2 : tie.Need-overflow_add-out-2
add_out_2 c = search rules

slice_write_out_3 : tie.Need-bounds-out-w-3
slice_write_out_3 c = simp length-set (omega arith)

cast_out : tie.Need-overflow_cast-out
cast_out c = search rules

add_out_3 : tie.Need-overflow_add-out-3
add_out_3 c = search rules

slice_write_out_4 : tie.Need-bounds-out-w-4
slice_write_out_4 c = simp length-set (omega arith)

cast_out_2 : tie.Need-overflow_cast-out-2
cast_out_2 c = search rules

add_out_4 : tie.Need-overflow_add-out-4
add_out_4 c = search rules

slice_write_out_5 : tie.Need-bounds-out-w-5
slice_write_out_5 c = simp length-set (omega arith)

cast_out_3 : tie.Need-overflow_cast-out-3
cast_out_3 c = search rules

add_out_5 : tie.Need-overflow_add-out-5
add_out_5 c = search rules

slice_write_out_6 : tie.Need-bounds-out-w-6
slice_write_out_6 c = simp length-set (omega arith)

cast_out_4 : tie.Need-overflow_cast-out-4
cast_out_4 c = search rules

add_out_6 : tie.Need-overflow_add-out-6
add_out_6 c = search rules

slice_write_out_7 : tie.Need-bounds-out-w-7
slice_write_out_7 c = simp length-set (omega arith)

add_out_7 : tie.Need-overflow_add-out-7
add_out_7 c = search rules

slice_write_out_8 : tie.Need-bounds-out-w-8
slice_write_out_8 c = simp length-set (omega arith)

add_out_8 : tie.Need-overflow_add-out-8
add_out_8 c = search rules

slice_write_out_9 : tie.Need-bounds-out-w-9
slice_write_out_9 c = simp length-set (omega arith)

add_out_9 : tie.Need-overflow_add-out-9
add_out_9 c = search rules

slice_write_out_10 : tie.Need-bounds-out-w-10
slice_write_out_10 c = simp length-set (omega arith)

add_out_10 : tie.Need-overflow_add-out-10
add_out_10 c = search rules

slice_write_out_11 : tie.Need-bounds-out-w-11
slice_write_out_11 c = simp length-set (omega arith)

add_out_11 : tie.Need-overflow_add-out-11
add_out_11 c = search rules

slice_write_out_12 : tie.Need-bounds-out-w-12
slice_write_out_12 c = simp length-set (omega arith)

add_out_12 : tie.Need-overflow_add-out-12
add_out_12 c = search rules

slice_write_out_13 : tie.Need-bounds-out-w-13
slice_write_out_13 c = simp length-set (omega arith)

same_length_2 : tie.Need-shape_of-out
same_length_2 c = simp length-set

returns_2 : tie.Need-returns
unfolding entry payload
returns_2 c =
    let out = c.args.out.now in
    let w = c.args.w in
    let a = c.args.a in
    let e = c.args.e in
    record { to = omega (arith, field_long a e); stored = then_byte out w (FIELD ∷ 0 ∷ 10 ∷ a / 256 ∷ a % 256 ∷ e / 256 ∷ e % 256 ∷ 0 ∷ 0 ∷ 0 ∷ 0 ∷ 0 ∷ []) 0 (then_byte out w (FIELD ∷ 0 ∷ 10 ∷ a / 256 ∷ a % 256 ∷ e / 256 ∷ e % 256 ∷ 0 ∷ 0 ∷ 0 ∷ 0 ∷ []) 0 (then_byte out w (FIELD ∷ 0 ∷ 10 ∷ a / 256 ∷ a % 256 ∷ e / 256 ∷ e % 256 ∷ 0 ∷ 0 ∷ 0 ∷ []) 0 (then_byte out w (FIELD ∷ 0 ∷ 10 ∷ a / 256 ∷ a % 256 ∷ e / 256 ∷ e % 256 ∷ 0 ∷ 0 ∷ []) 0 (then_byte out w (FIELD ∷ 0 ∷ 10 ∷ a / 256 ∷ a % 256 ∷ e / 256 ∷ e % 256 ∷ 0 ∷ []) 0 (then_byte out w (FIELD ∷ 0 ∷ 10 ∷ a / 256 ∷ a % 256 ∷ e / 256 ∷ e % 256 ∷ []) 0 (then_byte out w (FIELD ∷ 0 ∷ 10 ∷ a / 256 ∷ a % 256 ∷ e / 256 ∷ []) (e % 256) (then_byte out w (FIELD ∷ 0 ∷ 10 ∷ a / 256 ∷ a % 256 ∷ []) (e / 256) (then_byte out w (FIELD ∷ 0 ∷ 10 ∷ a / 256 ∷ []) (a % 256) (then_byte out w (FIELD ∷ 0 ∷ 10 ∷ []) (a / 256) (then_byte out w (FIELD ∷ 0 ∷ []) 10 (then_byte out w (FIELD ∷ []) 0 refl (omega arith)) (omega arith)) (omega arith)) (omega arith)) (omega arith)) (omega arith)) (omega arith)) (omega arith)) (omega arith)) (omega arith)) (omega arith)) (omega arith) }

pub put_field_spec : {M : Type 1} → statement M
put_field_spec =
    tie.close
    (tie.spec
    add_end
    put_field_requires
    same_length
    returns
    slice_write_out
    add_out
    slice_write_out_2
    add_out_2
    slice_write_out_3
    cast_out
    add_out_3
    slice_write_out_4
    cast_out_2
    add_out_4
    slice_write_out_5
    cast_out_3
    add_out_5
    slice_write_out_6
    cast_out_4
    add_out_6
    slice_write_out_7
    add_out_7
    slice_write_out_8
    add_out_8
    slice_write_out_9
    add_out_9
    slice_write_out_10
    add_out_10
    slice_write_out_11
    add_out_11
    slice_write_out_12
    add_out_12
    slice_write_out_13
    same_length_2
    returns_2)
