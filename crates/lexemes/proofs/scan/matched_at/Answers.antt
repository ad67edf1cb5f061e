-- `lexemes::scan::matched_at` meets its contract: each scanner's answer, by the class of the first byte.
-- Assumes nothing.
use mathlib.Core.Path.{refl, sym, ◌∙◌, ap}
use mathlib.Core.Logic.{inl, inr}
use lib.ListN.{get_or}
use Rattle.lexemes.specs.Scan.{class_number}
use Rattle.lexemes.proofs.Firsts.{only, is_byte}
use Rattle.lexemes.proofs.scan.matched_at.Goals as goal

pub string_at-requires : goal.string_at-requires
unfolding only
string_at-requires c = (c.requires.0, is_byte 5 34 (get_or c.args.src.now c.args.at 0) tt (sym c.requires.1 ∙ ap class_number c.in-Double.is), inl (refl, refl))

pub string_at-requires-in-Single : goal.string_at-requires-in-Single
unfolding only
string_at-requires-in-Single c = (c.requires.0, is_byte 6 39 (get_or c.args.src.now c.args.at 0) tt (sym c.requires.1 ∙ ap class_number c.in-Single.is), inr (refl, refl))

pub at_sign-requires : goal.at_sign-requires
unfolding only
at_sign-requires c = (c.requires.0, is_byte 7 64 (get_or c.args.src.now c.args.at 0) tt (sym c.requires.1 ∙ ap class_number c.in-At.is))

pub hash_at-requires : goal.hash_at-requires
unfolding only
hash_at-requires c = (c.requires.0, is_byte 8 35 (get_or c.args.src.now c.args.at 0) tt (sym c.requires.1 ∙ ap class_number c.in-Hash.is))

pub slash_at-requires : goal.slash_at-requires
unfolding only
slash_at-requires c = (c.requires.0, is_byte 9 47 (get_or c.args.src.now c.args.at 0) tt (sym c.requires.1 ∙ ap class_number c.in-Slash.is))
