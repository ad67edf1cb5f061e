use Rattle.std.proofs.Common.{arith, subst, sym, ap, Some}
use Rattle.images.proofs.RootLaws.{no_true}
use Rattle.mass.specs.Mass.{Braces}
use Rattle.mass.specs.Inner.{Shows}
use Rattle.mass.proofs.StandLaws.{seen}
use Rattle.mass.proofs.FieldLaws.{root_within, tag_read}
use Rattle.mass.proofs.ObjectLaws.{members_of, says_of, spot_some, mass_is, depth_is, no_object, shows_undecided, decided, shows_neither, shows_both, shows_mass, shows_depth}
use Rattle.mass.proofs.members.listing.Goals as goal

pub overflow_mul-at : goal.overflow_mul-at
overflow_mul-at c = omega (arith, (seen c.requires.root).in_array)

pub offset_bounds-links-n : goal.offset_bounds-links-n
offset_bounds-links-n c = omega (arith, (seen c.requires.root).in_array)

pub bounds-links-n : goal.bounds-links-n
bounds-links-n c = omega (arith, (seen c.requires.root).in_array)

pub overflow_mul-n : goal.overflow_mul-n
overflow_mul-n c = omega (arith, (seen c.requires.root).in_array)

pub overflow_add-n : goal.overflow_add-n
overflow_add-n c = omega (arith, (seen c.requires.root).in_array)

pub offset_bounds-links-n-2 : goal.offset_bounds-links-n-2
offset_bounds-links-n-2 c = omega (arith, (seen c.requires.root).in_array)

pub bounds-links-n-2 : goal.bounds-links-n-2
bounds-links-n-2 c = omega (arith, (seen c.requires.root).in_array)

pub bounds-bytes-at : goal.bounds-bytes-at
bounds-bytes-at c = root_within c.requires.root

pub returns-then-not-is_object : goal.returns-then-not-is_object
returns-then-not-is_object c = record { each = λ tag fields cs r. no_object (λ b. no_true (c.is_object.ensures.1 (subst Braces (sym (tag_read r)) b)) c.if-not-is_object.true) }

pub raised-own-requires : goal.raised-own-requires
raised-own-requires c = members_of c.requires.root

pub returns-then-own : goal.returns-then-own
returns-then-own c = record { each = λ tag fields cs r. shows_undecided (says_of r c.raised-own.ensures) (subst Braces (tag_read r) (c.is_object.ensures.0 c.if-not-is_object.false)) c.if-own.true }

pub alone-requires : goal.alone-requires
alone-requires c = (spot_some (mass_is (says_of c.requires.root c.raised-own.ensures) c.in-Some-None.is-0)).0

pub returns-in-Some-None : goal.returns-in-Some-None
returns-in-Some-None c =
    record {
      each = λ tag fields cs r.
          let s = says_of r c.raised-own.ensures in
          subst (Shows tag cs) (ap Some (sym c.alone.ensures)) (shows_mass (decided s c.if-own.false) (subst Braces (tag_read r) (c.is_object.ensures.0 c.if-not-is_object.false)) (mass_is s c.in-Some-None.is-0) (depth_is s c.in-Some-None.is-1));
    }

pub alone-requires-in-None-Some : goal.alone-requires-in-None-Some
alone-requires-in-None-Some c = (spot_some (depth_is (says_of c.requires.root c.raised-own.ensures) c.in-None-Some.is-1)).0

pub returns-in-None-Some : goal.returns-in-None-Some
returns-in-None-Some c =
    record {
      each = λ tag fields cs r.
          let s = says_of r c.raised-own.ensures in
          subst (Shows tag cs) (ap Some (sym c.alone-in-None-Some.ensures)) (shows_depth (decided s c.if-own.false) (subst Braces (tag_read r) (c.is_object.ensures.0 c.if-not-is_object.false)) (mass_is s c.in-None-Some.is-0) (depth_is s c.in-None-Some.is-1));
    }

pub returns-in-Some-Some : goal.returns-in-Some-Some
returns-in-Some-Some c =
    record { each = λ tag fields cs r. let s = says_of r c.raised-own.ensures in shows_both (decided s c.if-own.false) (mass_is s c.in-Some-Some.is-0) (depth_is s c.in-Some-Some.is-1) }

pub returns-in-None-None : goal.returns-in-None-None
returns-in-None-None c =
    record { each = λ tag fields cs r. let s = says_of r c.raised-own.ensures in shows_neither (decided s c.if-own.false) (mass_is s c.in-None-None.is-0) (depth_is s c.in-None-None.is-1) }
