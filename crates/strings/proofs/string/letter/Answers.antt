-- Each arm is a row of `Letter`.
use Rattle.strings.specs.Literals.{backslash, double, single, backspace, form_feed, line_feed, return, tab}
use Rattle.strings.proofs.string.letter.Goals as goal

pub returns-in-92 : goal.returns-in-92
returns-in-92 c = rw c.in-92.is backslash

pub returns-in-34 : goal.returns-in-34
returns-in-34 c = rw c.in-34.is double

pub returns-in-39 : goal.returns-in-39
returns-in-39 c = rw c.in-39.is single

pub returns-in-98 : goal.returns-in-98
returns-in-98 c = rw c.in-98.is backspace

pub returns-in-102 : goal.returns-in-102
returns-in-102 c = rw c.in-102.is form_feed

pub returns-in-110 : goal.returns-in-110
returns-in-110 c = rw c.in-110.is line_feed

pub returns-in-114 : goal.returns-in-114
returns-in-114 c = rw c.in-114.is return

pub returns-in-116 : goal.returns-in-116
returns-in-116 c = rw c.in-116.is tab
