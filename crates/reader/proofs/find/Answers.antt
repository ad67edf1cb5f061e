-- `reader::find` meets its contract.
-- Assumes nothing.
use mathlib.Core.Path.{refl}
use borrow.Author.Rules.{rules}
use Rattle.grammar.specs.Answer.{bad_setting, too_long, not_utf8, bad_lexeme}
use Rattle.grammar.specs.Source.{bad}
use Rattle.reader.specs.Reader.{numbers, Admitted}
use Rattle.reader.proofs.ReaderLaws.{is_setting, no_setting, valid_all, finds_refusal, broken_met, finds_broken, finds_long, finds_tree}
use Rattle.reader.proofs.find.Goals as goal

pub returns-then-not-known : goal.returns-then-not-known
unfolding numbers
returns-then-not-known c = finds_refusal (bad_setting (no_setting c.args.setting c.valid-known.result c.valid-known.ensures (search rules))) refl

pub returns-then-source-gt-LONGEST : goal.returns-then-source-gt-LONGEST
unfolding numbers
returns-then-source-gt-LONGEST c = finds_refusal (too_long (is_setting c.args.setting c.valid-known.result c.valid-known.ensures (search rules)) c.if-source-gt-LONGEST.true) refl

pub returns-then-valid-source : goal.returns-then-valid-source
unfolding numbers
returns-then-valid-source c =
    finds_refusal (not_utf8 (is_setting c.args.setting c.valid-known.result c.valid-known.ensures (search rules)) c.if-source-gt-LONGEST.false c.valid_to-valid.ensures c.if-valid-source.true) refl

pub parse-requires : goal.parse-requires
parse-requires c =
    let admitted : Admitted c.args.setting c.args.source.now = record {
      known = is_setting c.args.setting c.valid-known.result c.valid-known.ensures (search rules);
      short = c.if-source-gt-LONGEST.false;
      valid = valid_all c.valid_to-valid.ensures c.if-valid-source.false;
    } in
    admitted

pub returns-then-bad-ne-EOF : goal.returns-then-bad-ne-EOF
unfolding numbers
returns-then-bad-ne-EOF c =
    let admitted : Admitted c.args.setting c.args.source.now = record {
      known = is_setting c.args.setting c.valid-known.result c.valid-known.ensures (search rules);
      short = c.if-source-gt-LONGEST.false;
      valid = valid_all c.valid_to-valid.ensures c.if-valid-source.false;
    } in
    finds_refusal (bad_lexeme admitted.known admitted.short admitted.valid (bad c.if-bad-ne-EOF.true c.first_bad-bad.ensures)) refl

pub refused-requires : goal.refused-requires
refused-requires c =
    let admitted : Admitted c.args.setting c.args.source.now = record {
      known = is_setting c.args.setting c.valid-known.result c.valid-known.ensures (search rules);
      short = c.if-source-gt-LONGEST.false;
      valid = valid_all c.valid_to-valid.ensures c.if-valid-source.false;
    } in
    broken_met admitted c.parse.ensures c.in-Err.is

pub returns-else-bad-ne-EOF : goal.returns-else-bad-ne-EOF
returns-else-bad-ne-EOF c =
    let admitted : Admitted c.args.setting c.args.source.now = record {
      known = is_setting c.args.setting c.valid-known.result c.valid-known.ensures (search rules);
      short = c.if-source-gt-LONGEST.false;
      valid = valid_all c.valid_to-valid.ensures c.if-valid-source.false;
    } in
    finds_broken admitted c.parse.ensures c.in-Err.is c.first_bad-bad.ensures c.if-bad-ne-EOF.false c.refused.ensures

pub returns-then-output-w : goal.returns-then-output-w
returns-then-output-w c =
    let admitted : Admitted c.args.setting c.args.source.now = record {
      known = is_setting c.args.setting c.valid-known.result c.valid-known.ensures (search rules);
      short = c.if-source-gt-LONGEST.false;
      valid = valid_all c.valid_to-valid.ensures c.if-valid-source.false;
    } in
    finds_long admitted c.parse.ensures c.in-Ok.is c.if-output-w.true

pub returns-else-output-w : goal.returns-else-output-w
returns-else-output-w c =
    let admitted : Admitted c.args.setting c.args.source.now = record {
      known = is_setting c.args.setting c.valid-known.result c.valid-known.ensures (search rules);
      short = c.if-source-gt-LONGEST.false;
      valid = valid_all c.valid_to-valid.ensures c.if-valid-source.false;
    } in
    finds_tree admitted c.parse.ensures c.in-Ok.is c.if-output-w.false
