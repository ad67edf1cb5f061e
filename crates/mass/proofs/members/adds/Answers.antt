use Rattle.std.proofs.Common.{arith, subst, ◌∙◌}
use Rattle.mass.specs.Inner.{Calls}
use Rattle.mass.proofs.StandLaws.{seen}
use Rattle.mass.proofs.FieldLaws.{root_within, no_field, as_field, field_adds, no_plus, field_face, face_within, adds_computed, named, tag_read}
use Rattle.mass.proofs.members.adds.Goals as goal

pub overflow_mul-at : goal.overflow_mul-at
overflow_mul-at c = omega (arith, (seen c.requires.root).in_array)

pub offset_bounds-links-n : goal.offset_bounds-links-n
offset_bounds-links-n c = omega (arith, (seen c.requires.root).in_array)

pub bounds-links-n : goal.bounds-links-n
bounds-links-n c = omega (arith, (seen c.requires.root).in_array)

pub overflow_mul-first : goal.overflow_mul-first
overflow_mul-first c = omega (arith, (seen c.requires.root).in_array)

pub overflow_add-first : goal.overflow_add-first
overflow_add-first c = omega (arith, (seen c.requires.root).in_array)

pub offset_bounds-links-n-2 : goal.offset_bounds-links-n-2
offset_bounds-links-n-2 c = omega (arith, (seen c.requires.root).in_array)

pub bounds-links-n-2 : goal.bounds-links-n-2
bounds-links-n-2 c = omega (arith, (seen c.requires.root).in_array)

pub bounds-bytes-at : goal.bounds-bytes-at
bounds-bytes-at c = root_within c.requires.root

pub returns-then-bytes-at-ne-FIELD : goal.returns-then-bytes-at-ne-FIELD
returns-then-bytes-at-ne-FIELD c = record { each = λ tag fields cs r. no_field (λ e. c.if-bytes-at-ne-FIELD.true (tag_read r ∙ e)) }

pub bounds-bytes-at-2 : goal.bounds-bytes-at-2
bounds-bytes-at-2 c = omega (arith, face_within (field_face (as_field c.requires.root c.if-bytes-at-ne-FIELD.false)))

pub returns-then-bytes-at-ne1 : goal.returns-then-bytes-at-ne1
returns-then-bytes-at-ne1 c = record { each = λ tag fields cs r. field_adds r c.if-bytes-at-ne-FIELD.false (no_plus (field_face (as_field r c.if-bytes-at-ne-FIELD.false)) c.if-bytes-at-ne1.true) }

pub returns-then-bytes-at-eq1 : goal.returns-then-bytes-at-eq1
returns-then-bytes-at-eq1 c = record { each = λ tag fields cs r. field_adds r c.if-bytes-at-ne-FIELD.false (adds_computed (field_face (as_field r c.if-bytes-at-ne-FIELD.false)) c.if-bytes-at-ne1.false c.if-bytes-at-eq1.true) }

pub overflow_mul-first-2 : goal.overflow_mul-first-2
overflow_mul-first-2 c = omega (arith, (named (as_field c.requires.root c.if-bytes-at-ne-FIELD.false) (field_face (as_field c.requires.root c.if-bytes-at-ne-FIELD.false)) c.if-bytes-at-ne1.false c.if-bytes-at-eq1.false).in_array)

pub offset_bounds-links-first : goal.offset_bounds-links-first
offset_bounds-links-first c = omega (arith, (named (as_field c.requires.root c.if-bytes-at-ne-FIELD.false) (field_face (as_field c.requires.root c.if-bytes-at-ne-FIELD.false)) c.if-bytes-at-ne1.false c.if-bytes-at-eq1.false).in_array)

pub bounds-links-first : goal.bounds-links-first
bounds-links-first c = omega (arith, (named (as_field c.requires.root c.if-bytes-at-ne-FIELD.false) (field_face (as_field c.requires.root c.if-bytes-at-ne-FIELD.false)) c.if-bytes-at-ne1.false c.if-bytes-at-eq1.false).in_array)

pub called-requires : goal.called-requires
called-requires c = (named (as_field c.requires.root c.if-bytes-at-ne-FIELD.false) (field_face (as_field c.requires.root c.if-bytes-at-ne-FIELD.false)) c.if-bytes-at-ne1.false c.if-bytes-at-eq1.false).read.within

pub returns : goal.returns
returns c =
    record {
      each = λ tag fields cs r.
          let f = c.if-bytes-at-ne-FIELD.false in
          let x = named (as_field r f) (field_face (as_field r f)) c.if-bytes-at-ne1.false c.if-bytes-at-eq1.false in
          field_adds r f (x.adds c.called.result (subst (λ w. Calls w c.called.result) x.read.reads c.called.ensures));
    }
