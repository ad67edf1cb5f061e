-- In each range the bytes stored are those of the code point.
use Rattle.std.proofs.Common.{length, ap, arith}
use Rattle.strings.proofs.Utf8Laws.{utf8_1, utf8_2, utf8_3, utf8_4}
use Rattle.strings.proofs.utf8.put_code.Goals as goal

pub returns-in-0-to-127 : goal.returns-in-0-to-127
returns-in-0-to-127 c = rw (utf8_1 c.args.code (omega arith)) c.put_all.ensures

pub returns-in-128-to-2047 : goal.returns-in-128-to-2047
returns-in-128-to-2047 c =
    let is = utf8_2 c.args.code (omega arith) (omega arith) in
    (cc, omega (arith, ap length is))

pub returns-in-2048-to-65535 : goal.returns-in-2048-to-65535
returns-in-2048-to-65535 c =
    let is = utf8_3 c.args.code (omega arith) (omega arith) in
    (cc, omega (arith, ap length is))

pub returns-in_default : goal.returns-in_default
returns-in_default c =
    let is = utf8_4 c.args.code (omega arith) in
    (cc, omega (arith, ap length is))
