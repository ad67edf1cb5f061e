use Rattle.std.proofs.Common.{◌≡◌, ℕ, [], drop, get_or, length, sym, ap, subst, ◌∙◌, arith}
use Rattle.grammar.specs.Laid.{laid_out}
use Rattle.grammar.specs.Layout.{layout_of}
use Rattle.images.specs.Inner.{age_code, dated_row, Stepped, roots}
use Rattle.images.proofs.PartWalk.{few_parts}
use Rattle.images.proofs.RootLaws.{lands_at}
use Rattle.images.proofs.RecordLaws.{layout_is, is_cut, is_bad}
use Rattle.images.proofs.NextLaws.{walks_row, walks_bad, walks_good, roots-length, ext_end, six_numbers, row_known, row_few, row_own, refused_as, Ready, ready_missing, ready_underived, ready_sums, ready_size, ready_next, count-image}
use Rattle.images.proofs.records.record.Goals as goal

pub returns-in_err-row : goal.returns-in_err-row
returns-in_err-row c = λ s.
    subst (Stepped c.args.bytes.now c.args.links.now c.args.at s.ts) (sym (refused_as _ c.from_residual.ensures.1 c.in_err-row.ensures.value))
    (Stepped.unknown (sym c.layout.ensures ∙ ap laid_out c.in_err-row.ensures.ok_part))

pub returns-in_err-end : goal.returns-in_err-end
returns-in_err-end c = λ s.
    let l : _ ≡ layout_of (get_or c.args.bytes.now c.args.at 0) = ap laid_out (sym c.in_ok-row.ensures.ok_part) ∙ c.layout.ensures in
    subst (Stepped c.args.bytes.now c.args.links.now c.args.at s.ts) (sym (refused_as _ c.from_residual-in_err-end.ensures.1 c.in_err-end.ensures.value))
    (Stepped.malformed (row_known (get_or c.args.bytes.now c.args.at 0) l) (is_cut (λ i. omega (arith, c.type_inv.bytes i)) c.requires.1 s (rw c.in_err-end.ensures.ok_part at c.payload_end.ensures)))

pub taken-requires : goal.taken-requires
taken-requires c =
    let e = ext_end (rw c.in_ok-end.ensures.ok_part at c.payload_end.ensures) in
    (omega (arith, e.0), e.1, few_parts c.parts.result.now (ap length c.parts.ensures ∙ six_numbers (get_or c.args.bytes.now c.args.at 0) (age_code c.aged-age.result)))

pub returns-in_err-found : goal.returns-in_err-found
returns-in_err-found c = λ s.
    let l : _ ≡ layout_of (get_or c.args.bytes.now c.args.at 0) = ap laid_out (sym c.in_ok-row.ensures.ok_part) ∙ c.layout.ensures in
    let e = ext_end (rw c.in_ok-end.ensures.ok_part at c.payload_end.ensures) in
    subst (Stepped c.args.bytes.now c.args.links.now c.args.at s.ts) (sym (refused_as _ c.from_residual-in_err-found.ensures.1 c.in_err-found.ensures.value))
    (Stepped.malformed (row_known (get_or c.args.bytes.now c.args.at 0) l)
    (is_bad (λ i. omega (arith, c.type_inv.bytes i)) c.requires.1 s e.0 e.1 (layout_is (get_or c.args.bytes.now c.args.at 0) (row_known (get_or c.args.bytes.now c.args.at 0) l)) (walks_bad (walks_row (c.parts.ensures ∙ ap (λ (k : ℕ). drop 1 (dated_row (get_or c.args.bytes.now c.args.at 0) k)) c.aged-age.ensures) (rw c.in_err-found.ensures.ok_part at c.taken.ensures.walk)))))

pub overflow_add-children : goal.overflow_add-children
overflow_add-children c =
    let l : _ ≡ layout_of (get_or c.args.bytes.now c.args.at 0) = ap laid_out (sym c.in_ok-row.ensures.ok_part) ∙ c.layout.ensures in
    omega (arith, row_few (get_or c.args.bytes.now c.args.at 0) l, rw c.in_ok-found.ensures.ok_part at c.taken.ensures.few)

pub returns-then-standing-children : goal.returns-then-standing-children
returns-then-standing-children c = λ s.
    let l : _ ≡ layout_of (get_or c.args.bytes.now c.args.at 0) = ap laid_out (sym c.in_ok-row.ensures.ok_part) ∙ c.layout.ensures in
    let e = ext_end (rw c.in_ok-end.ensures.ok_part at c.payload_end.ensures) in
    let r : Ready c.args.bytes.now c.args.at (age_code c.args.age) c.in_ok-end.end c.in_ok-found.found = record {
      small = (λ i. omega (arith, c.type_inv.bytes i));
      inside = c.requires.1;
      known = row_known (get_or c.args.bytes.now c.args.at 0) l;
      layout = layout_is (get_or c.args.bytes.now c.args.at 0) (row_known (get_or c.args.bytes.now c.args.at 0) l);
      is_end = e.0;
      within = e.1;
      walk = walks_good (walks_row (c.parts.ensures ∙ ap (λ (k : ℕ). drop 1 (dated_row (get_or c.args.bytes.now c.args.at 0) k)) c.aged-age.ensures) (rw c.in_ok-found.ensures.ok_part at c.taken.ensures.walk));
    } in
    ready_missing r s (row_own (get_or c.args.bytes.now c.args.at 0) c.in_ok-found.found.children l) c.if-standing-children.true

pub checked-requires : goal.checked-requires
checked-requires c =
    let l : _ ≡ layout_of (get_or c.args.bytes.now c.args.at 0) = ap laid_out (sym c.in_ok-row.ensures.ok_part) ∙ c.layout.ensures in
    let e = ext_end (rw c.in_ok-end.ensures.ok_part at c.payload_end.ensures) in
    let r : Ready c.args.bytes.now c.args.at (age_code c.args.age) c.in_ok-end.end c.in_ok-found.found = record {
      small = (λ i. omega (arith, c.type_inv.bytes i));
      inside = c.requires.1;
      known = row_known (get_or c.args.bytes.now c.args.at 0) l;
      layout = layout_is (get_or c.args.bytes.now c.args.at 0) (row_known (get_or c.args.bytes.now c.args.at 0) l);
      is_end = e.0;
      within = e.1;
      walk = walks_good (walks_row (c.parts.ensures ∙ ap (λ (k : ℕ). drop 1 (dated_row (get_or c.args.bytes.now c.args.at 0) k)) c.aged-age.ensures) (rw c.in_ok-found.ensures.ok_part at c.taken.ensures.walk));
    } in
    let s = c.requires.0 in (
      (λ f. record { tags = roots s.ts []; chain = s.chain; enough = omega (arith, ready_sums r s f, roots-length s.ts, s.opened, (row_own (get_or c.args.bytes.now c.args.at 0) c.in_ok-found.found.children l), c.if-standing-children.false) }),
      ready_size r s,
      r.within,
    )

pub returns-in_err-first : goal.returns-in_err-first
returns-in_err-first c = λ s.
    let l : _ ≡ layout_of (get_or c.args.bytes.now c.args.at 0) = ap laid_out (sym c.in_ok-row.ensures.ok_part) ∙ c.layout.ensures in
    let e = ext_end (rw c.in_ok-end.ensures.ok_part at c.payload_end.ensures) in
    let r : Ready c.args.bytes.now c.args.at (age_code c.args.age) c.in_ok-end.end c.in_ok-found.found = record {
      small = (λ i. omega (arith, c.type_inv.bytes i));
      inside = c.requires.1;
      known = row_known (get_or c.args.bytes.now c.args.at 0) l;
      layout = layout_is (get_or c.args.bytes.now c.args.at 0) (row_known (get_or c.args.bytes.now c.args.at 0) l);
      is_end = e.0;
      within = e.1;
      walk = walks_good (walks_row (c.parts.ensures ∙ ap (λ (k : ℕ). drop 1 (dated_row (get_or c.args.bytes.now c.args.at 0) k)) c.aged-age.ensures) (rw c.in_ok-found.ensures.ok_part at c.taken.ensures.walk));
    } in
    subst (Stepped c.args.bytes.now c.args.links.now c.args.at s.ts) (sym (refused_as _ c.from_residual-in_err-first.ensures.1 c.in_err-first.ensures.value))
    (ready_underived r s (row_own (get_or c.args.bytes.now c.args.at 0) c.in_ok-found.found.children l) (omega arith) (rw c.in_err-first.ensures.ok_part at (c.checked.ensures.0 (roots s.ts []) s.chain (λ f. omega (arith, ready_sums r s f, roots-length s.ts, s.opened, (row_own (get_or c.args.bytes.now c.args.at 0) c.in_ok-found.found.children l), c.if-standing-children.false)))))

pub overflow_add-result : goal.overflow_add-result
overflow_add-result c = let s = c.requires.0 in omega (arith, s.opened, s.place, count-image s.ts, c.ranges.at)

pub returns : goal.returns
returns c = λ s.
    let l : _ ≡ layout_of (get_or c.args.bytes.now c.args.at 0) = ap laid_out (sym c.in_ok-row.ensures.ok_part) ∙ c.layout.ensures in
    let e = ext_end (rw c.in_ok-end.ensures.ok_part at c.payload_end.ensures) in
    let r : Ready c.args.bytes.now c.args.at (age_code c.args.age) c.in_ok-end.end c.in_ok-found.found = record {
      small = (λ i. omega (arith, c.type_inv.bytes i));
      inside = c.requires.1;
      known = row_known (get_or c.args.bytes.now c.args.at 0) l;
      layout = layout_is (get_or c.args.bytes.now c.args.at 0) (row_known (get_or c.args.bytes.now c.args.at 0) l);
      is_end = e.0;
      within = e.1;
      walk = walks_good (walks_row (c.parts.ensures ∙ ap (λ (k : ℕ). drop 1 (dated_row (get_or c.args.bytes.now c.args.at 0) k)) c.aged-age.ensures) (rw c.in_ok-found.ensures.ok_part at c.taken.ensures.walk));
    } in
    ready_next r s (row_own (get_or c.args.bytes.now c.args.at 0) c.in_ok-found.found.children l) (omega arith) (rw c.in_ok-first.ensures.ok_part at (c.checked.ensures.0 (roots s.ts []) s.chain (λ f. omega (arith, ready_sums r s f, roots-length s.ts, s.opened, (row_own (get_or c.args.bytes.now c.args.at 0) c.in_ok-found.found.children l), c.if-standing-children.false)))) (lands_at (rw c.in_ok-first.ensures.ok_part at c.checked.ensures.1)) c.aged-age.ensures
