-- `fixed_name` meets its contract: a name or a string; else it breaks off.
-- Assumes nothing.
use Prim.Native.Nat.{◌<◌, ℕ}
use Rattle.grammar.specs.Productions.{◌▸◌, fail, field_named, goto, leaf, string, sub}
use Rattle.grammar.specs.Trees.{text}
use Rattle.leaves.proofs.LeafLaws.{bytes_short, fits, is_quoted, not_quoted, text_size}
use Rattle.leaves.proofs.LeafRules.{field_name, field_string, no_field}
use Rattle.leaves.proofs.LexemeLaws.{lies}
use Rattle.leaves.proofs.PartLaws.{wrote_lent}
use lib.Seq.{slice}
use mathlib.Core.List.{List, [], ◌∷◌}
use mathlib.Core.Path.{refl}
use native.Mathlib.Omega.{arith}
use Rattle.leaves.proofs.Steps
use Rattle.leaves.proofs.fixed_name.Goals as goal

pub slice_bounds-put_word-count : goal.slice_bounds-put_word-count
slice_bounds-put_word-count c =
    let st = c.requires.0.stands in
    (lies st).on

pub slice_bounds-put_word-start : goal.slice_bounds-put_word-start
slice_bounds-put_word-start c =
    let st = c.requires.0.stands in
    (lies st).on

pub slice_bounds-put_word-end : goal.slice_bounds-put_word-end
slice_bounds-put_word-end c =
    let st = c.requires.0.stands in
    (lies st).within

pub returns-then-c-eq-IDENT : goal.returns-then-c-eq-IDENT
returns-then-c-eq-IDENT c =
    let src = c.args.src.now in
    let name = slice c.args.c.start c.args.c.end src in
    let st = c.requires.0.stands in
    let written = wrote_lent 5 (λ (l : List ℕ). text l ∷ []) src c.args.c.start c.args.c.end c.put_word-w1.ensures in
    let some : 1 < c.args.c.kind = omega (arith, c.if-c-eq-IDENT.true) in
    record {
      tells = λ g d.
          let there = Steps.called (leaf 5 (text name ∷ []) ▸ goto (field_named 0 c.args.c.start)) st c.if-c-eq-IDENT.true (λ xs. field_name g c.args.c xs 0 name) Steps.here in
          Steps.says_on (omega arith) (omega arith) (Steps.leaved st c.eat_any.ensures some (text_size 5 st) written there);
    }

pub returns-then-not-is_string_token : goal.returns-then-not-is_string_token
returns-then-not-is_string_token c =
    let st = c.requires.0.stands in
    let none = not_quoted c.is_string_token.ensures c.if-not-is_string_token.true in
    record {
      tells = λ g d.
          Steps.broke_telling
          (Steps.fails st (Steps.known (fail 6 1) st refl (λ xs t. no_field g c.args.c xs 0 c.args.c.kind t c.if-c-eq-IDENT.false none c.requires.1) Steps.here))
          c.error.ensures;
    }

pub returns-in_err-c1 : goal.returns-in_err-c1
returns-in_err-c1 c =
    let st = c.requires.0.stands in
    let quoted = is_quoted c.is_string_token.ensures c.if-not-is_string_token.false in
    record {
      tells = λ g d.
          let there = Steps.known (sub string ▸ goto (field_named 0 c.args.c.start)) st refl (λ xs t. field_string g c.args.c xs 0 c.args.c.kind t quoted) Steps.here in
          Steps.passed_telling (Steps.takes_broken (Steps.as_sub (c.parse_string_content.ensures.ends g d)) c.in_err-c1.was (Steps.handed c.from_residual.ensures)) there;
    }

pub returns : goal.returns
returns c =
    let st = c.requires.0.stands in
    let quoted = is_quoted c.is_string_token.ensures c.if-not-is_string_token.false in
    record {
      tells = λ g d.
          let there = Steps.known (sub string ▸ goto (field_named 0 c.args.c.start)) st refl (λ xs t. field_string g c.args.c xs 0 c.args.c.kind t quoted) Steps.here in
          Steps.says_on (omega arith) (omega arith) (Steps.took (Steps.as_sub (c.parse_string_content.ensures.ends g d)) c.in_ok-c1.was there);
    }
