-- `member_name` meets its contract: a name, and an index part over what it is a member of; else it breaks off.
-- Assumes nothing.
use borrow.Author.Rules.{rules}
use Prim.Native.Nat.{◌<◌, ℕ}
use Rattle.grammar.specs.Image.{entry, payload}
use Rattle.grammar.specs.Productions.{◌▸◌, close, fail, goto, leaf, suffix}
use Rattle.grammar.specs.Trees.{byte, span, text}
use Rattle.leaves.proofs.LeafLaws.{bytes_short, fits, text_size, within}
use Rattle.leaves.proofs.LeafRules.{a_member, no_member}
use Rattle.leaves.proofs.LexemeLaws.{lies}
use Rattle.leaves.proofs.PartLaws.{wrote_lent}
use lib.Seq.{slice}
use mathlib.Core.List.{List, [], ◌∷◌}
use mathlib.Core.Path.{refl}
use native.Mathlib.Omega.{arith}
use Rattle.leaves.proofs.Steps
use Rattle.leaves.proofs.member_name.Statement.{statement}
use Rattle.leaves.proofs.member_name.Tie as tie

error_requires : tie.Need-error-requires
error_requires c κs = search rules

returns : tie.Need-returns-then-c-ne-IDENT
returns c =
    let pre' = c.requires in
    let args' = c.args in
    let if1' = c.if-c-ne-IDENT in
    let error' = c.error in
    let st = pre'.0.stands in
    record {
      tells = λ g d.
          Steps.broke_telling
          (Steps.fails st (Steps.known (fail 5 55) st refl (λ xs t. no_member g args'.c xs 1 args'.first args'.safe args'.c.kind t if1'.true) Steps.here))
          error'.ensures;
    }

cast_put_word : tie.Need-overflow_cast-start
cast_put_word c = search rules

cast_put_word_2 : tie.Need-overflow_cast-end
cast_put_word_2 c = search rules

sub_put_word : tie.Need-slice_bounds-put_word-count
sub_put_word c =
    let pre' = c.requires in
    let st = pre'.0.stands in
    (lies st).on

part_put_word_start : tie.Need-slice_bounds-put_word-start
part_put_word_start c =
    let pre' = c.requires in
    let st = pre'.0.stands in
    (lies st).on

part_put_word_end : tie.Need-slice_bounds-put_word-end
part_put_word_end c =
    let pre' = c.requires in
    let st = pre'.0.stands in
    (lies st).within

put_word_requires : tie.Need-put_word-w1-requires
put_word_requires c κs =
    let pre' = c.requires in
    (fits pre'.0, omega (arith, bytes_short pre'.0))

put_index_requires : tie.Need-put_index-w2-requires
unfolding entry payload
put_index_requires c κs =
    let pre' = c.requires in
    let put-word' = c.put_word-w1 in
    let st = pre'.0.stands in
    let places = within pre'.0 in
    let size = bytes_short pre'.0 in
    (omega (arith, put-word'.ensures.to, size, pre'.0.room, pre'.0.stands.short, st.within), places.0, places.1, pre'.1)

eat_any_requires : tie.Need-eat_any-requires
eat_any_requires c κs = search rules

same_length : tie.Need-shape_of-out
same_length c = search rules

returns_2 : tie.Need-returns
unfolding entry payload
returns_2 c =
    let args' = c.args in
    let pre' = c.requires in
    let put-word' = c.put_word-w1 in
    let if1' = c.if-c-ne-IDENT in
    let put-index' = c.put_index-w2 in
    let eat-any' = c.eat_any in
    let src = args'.src.now in
    let name = slice args'.c.start args'.c.end src in
    let st = pre'.0.stands in
    let written = wrote_lent 5 (λ (l : List ℕ). text l ∷ []) src args'.c.start args'.c.end put-word'.ensures in
    let some : 1 < args'.c.kind = omega (arith, if1'.false) in
    record {
      tells = λ g d.
          let there =
          Steps.called (leaf 5 (text name ∷ []) ▸ close 20 (span args'.c.start args'.c.end ∷ byte args'.first ∷ byte args'.safe ∷ []) ▸ goto (suffix 0)) st if1'.false
          (λ xs. a_member g args'.c xs 1 args'.first args'.safe name) Steps.here in
          Steps.says_on (omega arith) (omega arith) (Steps.closed 9 (omega arith) put-index'.ensures (Steps.leaved st eat-any'.ensures some (text_size 5 st) written there));
    }

pub member_name_spec : {M : Type 1} → statement M
member_name_spec = tie.close (tie.spec error_requires returns cast_put_word cast_put_word_2 sub_put_word part_put_word_start part_put_word_end put_word_requires put_index_requires eat_any_requires same_length returns_2)
