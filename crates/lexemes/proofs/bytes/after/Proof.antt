-- `lexemes::bytes::after` meets its contract: as many bytes on as the first one says.
-- Assumes nothing.
use native.Mathlib.Omega.{arith}
use borrow.Author.Rules.{rules}
use Rattle.lexemes.proofs.Letters.{next-ascii, next-two, next-three, next_four}
use Rattle.lexemes.proofs.bytes.after.Statement.{statement}
use Rattle.lexemes.proofs.bytes.after.Tie as tie

shared_slice_read_b : tie.Need-bounds-src-i
shared_slice_read_b c = search rules

add_result : tie.Need-overflow_add-result
add_result c = search rules

returns : tie.Need-returns-then-b-lt128
returns c =
    let args = c.args in
    let s = args.src.now in
    let pre = c.requires in
    let if1 = c.if-b-lt128 in
    omega (arith, next-ascii s args.i pre if1.true)

clip_requires : tie.Need-clip-requires
clip_requires c κs = search rules

returns_2 : tie.Need-returns-then-b-lt224
returns_2 c =
    let args = c.args in
    let s = args.src.now in
    let pre = c.requires in
    let if1 = c.if-b-lt128 in
    let if2 = c.if-b-lt224 in
    let clip = c.clip in
    omega (arith, next-two s args.i pre if1.false if2.true, clip.ensures)

clip_requires_2 : tie.Need-clip-requires-then-b-lt240
clip_requires_2 c κs = search rules

returns_3 : tie.Need-returns-then-b-lt240
returns_3 c =
    let args = c.args in
    let s = args.src.now in
    let pre = c.requires in
    let if2 = c.if-b-lt224 in
    let if3 = c.if-b-lt240 in
    let clip2 = c.clip-then-b-lt240 in
    omega (arith, next-three s args.i pre if2.false if3.true, clip2.ensures)

clip_requires_3 : tie.Need-clip-requires-2
clip_requires_3 c κs = search rules

returns_4 : tie.Need-returns
returns_4 c =
    let args = c.args in
    let s = args.src.now in
    let pre = c.requires in
    let if3 = c.if-b-lt240 in
    let clip3 = c.clip-2 in
    omega (arith, next_four s args.i pre if3.false, clip3.ensures)

pub after_spec : {M : Type 1} → statement M
after_spec =
    tie.close
    (tie.spec
    shared_slice_read_b
    add_result
    returns
    clip_requires
    returns_2
    clip_requires_2
    returns_3
    clip_requires_3
    returns_4)
