-- The class of a byte by the table: what its entry says.
-- Assumes nothing.
use native.Mathlib.Omega.{arith}
use Rattle.lexemes.specs.Scan.{class_table}
use Rattle.lexemes.proofs.Classes.{table_right, class_most, entry_says}
use Rattle.lexemes.proofs.bytes.class_of.Goals as goal

pub returns-in-48 : goal.returns-in-48
unfolding class_table
returns-in-48 c = entry_says c.args.b 0 c.ranges.b.fits c.in-48.is

pub returns-in-49 : goal.returns-in-49
unfolding class_table
returns-in-49 c = entry_says c.args.b 1 c.ranges.b.fits c.in-49.is

pub returns-in-50 : goal.returns-in-50
unfolding class_table
returns-in-50 c = entry_says c.args.b 2 c.ranges.b.fits c.in-50.is

pub returns-in-51 : goal.returns-in-51
unfolding class_table
returns-in-51 c = entry_says c.args.b 3 c.ranges.b.fits c.in-51.is

pub returns-in-52 : goal.returns-in-52
unfolding class_table
returns-in-52 c = entry_says c.args.b 4 c.ranges.b.fits c.in-52.is

pub returns-in-53 : goal.returns-in-53
unfolding class_table
returns-in-53 c = entry_says c.args.b 5 c.ranges.b.fits c.in-53.is

pub returns-in-54 : goal.returns-in-54
unfolding class_table
returns-in-54 c = entry_says c.args.b 6 c.ranges.b.fits c.in-54.is

pub returns-in-55 : goal.returns-in-55
unfolding class_table
returns-in-55 c = entry_says c.args.b 7 c.ranges.b.fits c.in-55.is

pub returns-in-56 : goal.returns-in-56
unfolding class_table
returns-in-56 c = entry_says c.args.b 8 c.ranges.b.fits c.in-56.is

pub returns-in-57 : goal.returns-in-57
unfolding class_table
returns-in-57 c = entry_says c.args.b 9 c.ranges.b.fits c.in-57.is

pub returns-in_default : goal.returns-in_default
unfolding class_table
returns-in_default c = omega (arith, c.in_default, table_right c.args.b c.ranges.b.fits, class_most c.args.b c.ranges.b.fits)
