use Rattle.std.proofs.Common.{◌≡◌, ap, ◌∙◌, ℕ, Bool, true, get_or}
use Rattle.grammar.specs.Layout.{bits_in}
use Rattle.images.specs.Inner.{question, asks, row_of, rows, look, count_by, sort_by, text_by, fine_by, fines, pick, rest_kind, unless, slice_fine, method_fine, sort_code}
use Rattle.images.proofs.CodeLaws.{given_as, named_as, asks_given, pick_zero, pick_other}
use Rattle.images.proofs.asks.asks.Goals as goal
use Rattle.images.proofs.asks.asks.Goals.{then-a-eq0, else-a-eq0, then-b-eq0-2, else-b-eq0-2}

pub returns-in-8 : goal.returns-in-8
unfolding asks row_of rows look count_by sort_by text_by fine_by fines pick unless slice_fine method_fine
returns-in-8 c = asks_given 8 c.args.v _ _ c.in-8.is c.then_some.ensures (given_as _ (c.three.ensures ∙ ap (λ (n : ℕ). question true 1 0 1 10 n 12 0 0) c.saturating_sub.ensures))

pub returns-in-10 : goal.returns-in-10
unfolding asks row_of rows look count_by sort_by text_by fine_by fines pick unless slice_fine method_fine
returns-in-10 c =
    let v = c.args.v in
    asks_given 10 v _ _ c.in-10.is c.then_some-in-10.ensures
    (given_as _ (c.three-in-10.ensures ∙ ap (λ (n : ℕ). question true (get_or v 0 0) 16 1 10 n 12 0 0) c.saturating_sub-in-10.ensures))

pub returns-in-23 : goal.returns-in-23
unfolding asks row_of rows look count_by sort_by text_by fine_by fines pick unless slice_fine method_fine
returns-in-23 c =
    let v = c.args.v in
    asks_given 23 v _ _ c.in-23.is c.then_some-in-23.ensures
    (given_as _ (c.two-in-23.ensures ∙ ap (λ (n : ℕ). question true 1 0 n 0 0 0 0 0) c.bits.ensures.value)
    ∙ ap (λ (f : Bool). question f 1 0 (bits_in (get_or v 0 0)) 0 0 0 0 0) c.slice_fine.ensures)

pub returns-after-a-eq0 : goal.returns-after-a-eq0
unfolding asks row_of rows look count_by sort_by text_by fine_by fines pick unless slice_fine method_fine
returns-after-a-eq0 c =
    let v = c.args.v in
    let p : sort_code c.if-a-eq0.bound ≡ pick (get_or v 0 0) 13 14 = elim c.if-a-eq0.branch [
      | then-a-eq0 w ↦ ap sort_code w.bound-is ∙ pick_zero _ 13 14 w.if-a-eq0.true
      | else-a-eq0 w ↦ ap sort_code w.bound-is ∙ pick_other _ 13 14 w.if-a-eq0.false
    ] in
    asks_given 24 v _ _ c.in-24.is c.then_some-in-24.ensures
    (given_as _ (c.three-in-24.ensures ∙ ap (λ (s : ℕ). question true 1 s (get_or v 1 0) 5 1 0 0 0) p)
    ∙ ap (λ (f : Bool). question f 1 (pick (get_or v 0 0) 13 14) (get_or v 1 0) 5 1 0 0 0) c.unless.ensures)

pub returns-in-27 : goal.returns-in-27
unfolding asks row_of rows look count_by sort_by text_by fine_by fines pick unless slice_fine method_fine
returns-in-27 c =
    let v = c.args.v in
    asks_given 27 v _ _ c.in-27.is c.then_some-in-27.ensures
    (given_as _ (c.with-asked.ensures ∙ named_as _ _ c.two-in-27.ensures ∙ ap (λ (t : ℕ). question true (get_or v 0 0) 13 (get_or v 2 0) 13 0 0 t (get_or v 3 0)) c.rest_kind.ensures)
    ∙ ap (λ (f : Bool). question f (get_or v 0 0) 13 (get_or v 2 0) 13 0 0 (rest_kind (get_or v 1 0)) (get_or v 3 0)) c.unless-in-27.ensures)

pub returns-in-29 : goal.returns-in-29
unfolding asks row_of rows look count_by sort_by text_by fine_by fines pick unless slice_fine method_fine
returns-in-29 c =
    let v = c.args.v in
    asks_given 29 v _ _ c.in-29.is c.then_some-in-29.ensures
    (given_as _ (c.with-asked-in-29.ensures ∙ named_as _ _ c.two-in-29.ensures) ∙ ap (λ (f : Bool). question f (get_or v 0 0) 13 (get_or v 1 0) 0 0 0 3 (get_or v 3 0)) c.unless-in-29.ensures)

pub returns-after-b-eq0-2 : goal.returns-after-b-eq0-2
unfolding asks row_of rows look count_by sort_by text_by fine_by fines pick unless slice_fine method_fine
returns-after-b-eq0-2 c =
    let v = c.args.v in
    let p : sort_code c.if-b-eq0-2.name ≡ pick (get_or v 1 0) 1 0 = elim c.if-b-eq0-2.branch [
      | then-b-eq0-2 w ↦ ap sort_code w.name-is ∙ pick_zero _ 1 0 w.if-b-eq0-2.true
      | else-b-eq0-2 w ↦ ap sort_code w.name-is ∙ pick_other _ 1 0 w.if-b-eq0-2.false
    ] in
    asks_given 31 v _ _ c.in-31.is c.then_some-in-31.ensures
    (given_as _ (c.three-in-31.ensures ∙ ap (λ (s : ℕ). question true 1 s (get_or v 4 0) 5 1 0 0 0) p)
    ∙ ap (λ (f : Bool). question f 1 (pick (get_or v 1 0) 1 0) (get_or v 4 0) 5 1 0 0 0) c.method_fine.ensures)
