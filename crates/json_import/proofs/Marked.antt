-- Some texts, and where no JSON text continues: the definition of number 19's place, tried.
-- Assumes nothing.
use mathlib.Core.Path.{refl}
use mathlib.Core.List.{[], ◌∷◌}
use Rattle.numerals.specs.Inner.{ascii}
use Rattle.numerals.proofs.Always.{is_too_large}
use Rattle.json_import.specs.Json.{Continues}
use Rattle.json_import.specs.Machine.{run, step, finish, begin, start, past, spelled, escaped, next, whole, is_over, signed, hex, meant}
use Rattle.json_import.proofs.EveryText.{sticks_continues}

-- Nothing; two blanks; a text that merely stops; a word that goes wrong.
pub empty : Continues [] 0
unfolding run finish
empty = sticks_continues [] 0 refl

pub blanks : Continues (ascii "  ") 2
unfolding run step finish
blanks = sticks_continues (ascii "  ") 2 refl

pub short_word : Continues (ascii "tru") 3
unfolding run step finish begin start spelled
short_word = sticks_continues (ascii "tru") 3 refl

pub wrong_word : Continues (ascii "trux") 3
unfolding run step finish begin start spelled
wrong_word = sticks_continues (ascii "trux") 3 refl

-- A leading zero; a comma that trails; something behind the value.
pub leading_zero : Continues (ascii "01") 1
unfolding run step finish begin start past next whole is_over signed is_too_large
leading_zero = sticks_continues (ascii "01") 1 refl

pub trailing_comma : Continues (ascii "[null,]") 6
unfolding run step finish begin start past spelled
trailing_comma = sticks_continues (ascii "[null,]") 6 refl

pub behind : Continues (ascii "[] x") 3
unfolding run step finish begin start past
behind = sticks_continues (ascii "[] x") 3 refl

-- `"\x`: the letter, not the backslash. `"\uDC`: a low half alone, at its second digit. `"\uD800"`: the quote. `"\uD800\u0`: the first digit of what is no low half.
pub no_escape : Continues (0x22 ∷ 0x5C ∷ 0x78 ∷ []) 2
unfolding run step finish begin start escaped meant
no_escape = sticks_continues (0x22 ∷ 0x5C ∷ 0x78 ∷ []) 2 refl

pub low_alone : Continues (0x22 ∷ 0x5C ∷ 0x75 ∷ 0x44 ∷ 0x43 ∷ []) 4
unfolding run step finish begin start escaped meant hex
low_alone = sticks_continues (0x22 ∷ 0x5C ∷ 0x75 ∷ 0x44 ∷ 0x43 ∷ []) 4 refl

pub high_alone : Continues (0x22 ∷ 0x5C ∷ 0x75 ∷ 0x44 ∷ 0x38 ∷ 0x30 ∷ 0x30 ∷ 0x22 ∷ []) 7
unfolding run step finish begin start escaped meant hex
high_alone = sticks_continues (0x22 ∷ 0x5C ∷ 0x75 ∷ 0x44 ∷ 0x38 ∷ 0x30 ∷ 0x30 ∷ 0x22 ∷ []) 7 refl

pub no_low : Continues (0x22 ∷ 0x5C ∷ 0x75 ∷ 0x44 ∷ 0x38 ∷ 0x30 ∷ 0x30 ∷ 0x5C ∷ 0x75 ∷ 0x30 ∷ []) 9
unfolding run step finish begin start escaped meant hex
no_low = sticks_continues (0x22 ∷ 0x5C ∷ 0x75 ∷ 0x44 ∷ 0x38 ∷ 0x30 ∷ 0x30 ∷ 0x5C ∷ 0x75 ∷ 0x30 ∷ []) 9 refl
