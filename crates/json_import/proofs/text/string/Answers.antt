-- `string`: byte by byte, and escape by escape.
-- Assumes nothing.
use Rattle.std.proofs.Common.{refl, sym, arith, ◌∙◌}
use Rattle.json_import.proofs.Places.{err_out, byte_inside}
use Rattle.json_import.proofs.StringPlaces.{chars_start, chars_plain, chars_closed, string_stops, string_goes_on, chars_stuck, found_code}
use Rattle.json_import.proofs.text.string.Goals as goal

pub loop-i-init : goal.loop-i-init
loop-i-init c = chars_start _ _ _ _ c.requires.0

pub overflow_add-n-then-is_plain : goal.overflow_add-n-then-is_plain
overflow_add-n-then-is_plain c = let x = c.loop-i.invariant in omega (arith, x.count, x.short, c.loop-i-test.true, c.requires.1, c.requires.2)

pub loop-i-preserved-then-is_plain : goal.loop-i-preserved-then-is_plain
loop-i-preserved-then-is_plain c = chars_plain c.loop-i.invariant c.loop-i-test.true _ (sym c.is_plain.ensures ∙ c.if-is_plain.true) c.put.ensures

pub overflow_sub-n : goal.overflow_sub-n
overflow_sub-n c = omega (arith, c.loop-i.invariant.count)

pub put_head-requires : goal.put_head-requires
put_head-requires c =
    let x = c.loop-i.invariant in (omega (arith, c.requires.2), omega (arith, x.count, x.short, c.loop-i-test.true, c.requires.1))

pub returns-in-34 : goal.returns-in-34
returns-in-34 c =
    let x = c.loop-i.invariant in chars_closed x c.loop-i-test.true _ _ _ c.in-34.is (omega (arith, x.count)) c.put_head.ensures

pub returns-in_err-code-in-92 : goal.returns-in_err-code-in-92
returns-in_err-code-in-92 c = rw (err_out c.from_residual.ensures.1) (string_stops c.loop-i.invariant refl c.in-92.is c.escape.ensures (grind arith))

pub put_code-n-requires : goal.put_code-n-requires
put_code-n-requires c =
    let x = c.loop-i.invariant in
    (grind (arith, found_code), omega (arith, x.count, x.short, c.loop-i-test.true, c.requires.1, c.requires.2))

pub loop-i-preserved : goal.loop-i-preserved
loop-i-preserved c = grind (arith, string_goes_on)

pub returns-in_default : goal.returns-in_default
returns-in_default c =
    chars_stuck c.loop-i.invariant (λ l. sym c.is_plain.ensures ∙ c.if-is_plain.false) (λ z. omega (arith, z)) (λ z. omega (arith, z)) _

pub returns : goal.returns
returns c =
    let x = c.loop-i.invariant in
    chars_stuck x (λ l. absurd (omega (arith, l, c.loop-i-test.false)))
    (λ z. omega (arith, c.loop-i-test.false, byte_inside c.args.text.now c.loop-i.i (λ e. omega (arith, e, z))))
    (λ z. omega (arith, c.loop-i-test.false, byte_inside c.args.text.now c.loop-i.i (λ e. omega (arith, e, z)))) _
