use Rattle.std.proofs.Common.{ap, subst, sym, refl}
use Rattle.blocks.specs.Inside.{Says}
use Rattle.images.specs.Inner.{Worded, text_code, tail_part}
use Rattle.images.proofs.CodeLaws.{free_says, number_says, utf8_says, name_says, empty_says}
use Rattle.images.proofs.records.worded.Goals as goal

pub returns-in-Free : goal.returns-in-Free
returns-in-Free c = free_says (ap text_code c.in-Free.is)

pub returns-in-Number : goal.returns-in-Number
returns-in-Number c = number_says (ap text_code c.in-Number.is) c.is_number.ensures

pub returns-in-Utf8 : goal.returns-in-Utf8
returns-in-Utf8 c = utf8_says (ap text_code c.in-Utf8.is) c.is_utf8.ensures

pub returns-in-Name : goal.returns-in-Name
returns-in-Name c = name_says (ap text_code c.in-Name.is) c.is_name.ensures

pub returns-in-Empty : goal.returns-in-Empty
returns-in-Empty c = subst (Says (Worded (text_code c.args.text) (tail_part c.args.size c.args.end c.args.bytes.now))) (sym c.is_empty.ensures) (empty_says _ (ap text_code c.in-Empty.is) refl)
