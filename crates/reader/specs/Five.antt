-- An answer as a list: five numbers in document 01's order, "number, start, end, detail, length".
-- Assumes nothing.
use Rattle.std.specs.Prelude.{List, ℕ, get_or}
use Rattle.grammar.specs.Answer.{Answer}

-- R2.
abbrev pub five : List ℕ → Answer
five a = record { number = get_or a 0 0; start = get_or a 1 0; stop = get_or a 2 0; detail = get_or a 3 0; size = get_or a 4 0 }
