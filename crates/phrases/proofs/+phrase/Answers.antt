use Prim.Native.Nat.{ℕ, ◌+◌, ◌-◌, ◌*◌, ◌≤◌}
use Prim.Native.Nat.{ℕ, ◌+◌, ◌-◌, ◌<◌, ◌^◌}
use Prim.Native.Nat.{ℕ, ◌+◌, ◌-◌, ◌≤◌, ◌<◌, ◌^◌}
use Prim.Native.Nat.{ℕ, ◌+◌, ◌-◌, ◌≤◌}
use Prim.Native.Nat.{ℕ, ◌+◌, ◌-◌}
use Prim.Native.Nat.{ℕ, ◌+◌, ◌≤◌, ◌<◌}
use Prim.Native.Nat.{ℕ, ◌+◌, ◌≤◌}
use Prim.Native.Nat.{ℕ, ◌+◌}
use Prim.Native.Nat.{ℕ, ◌-◌, ◌≤◌}
use Prim.Native.Nat.{ℕ, ◌-◌}
use Prim.Native.Nat.{ℕ, ◌<◌}
use Prim.Native.Nat.{ℕ}
use Rattle.grammar.specs.Image.{entry, payload}
use Rattle.grammar.specs.Lexemes.{Lexeme, Said}
use Rattle.grammar.specs.Lexemes.{said}
use Rattle.grammar.specs.Productions.{Body, end, close, ◌▸◌, expression}
use Rattle.grammar.specs.Productions.{Body, goto, arguments, argument, argument_end}
use Rattle.grammar.specs.Productions.{Body, goto, eat, close, ◌▸◌, rule, expression, suffix, bracket, index_or_slice, slice_end}
use Rattle.grammar.specs.Productions.{Body, goto, eat, close, ◌▸◌, rule, expression, suffix, null_safe, null_safe_index, null_safe_end, member_name}
use Rattle.grammar.specs.Productions.{Body, goto, eat, leaf, sub, ◌▸◌, rule, bind, bind_named, bind_function, pattern, params}
use Rattle.grammar.specs.Productions.{Body, goto, eat, sub, close, ◌▸◌, inside, suffix, member_name, bracket, arguments}
use Rattle.grammar.specs.Productions.{Body, goto, eat, sub, deep, close, ◌▸◌, expr, infix_tail, suffixed}
use Rattle.grammar.specs.Productions.{Body, goto, eat, sub, ◌▸◌, pattern, pattern_field, pattern_into, pattern_default}
use Rattle.grammar.specs.Productions.{Body, goto, eat, sub, ◌▸◌, pattern_fields, pattern_fields_end, pattern_field, object_pattern_close, object_rest}
use Rattle.grammar.specs.Productions.{Body, goto, eat, sub, ◌▸◌, rule, bind, binds, binds_end, local_body}
use Rattle.grammar.specs.Productions.{Body, goto, eat, sub, ◌▸◌, rule, expression, array, array_first, array_comp, array_comp_end, clauses, elements, next_element}
use Rattle.grammar.specs.Productions.{Body, goto, eat, sub, ◌▸◌, rule, field, field_value, params}
use Rattle.grammar.specs.Productions.{Body, goto, eat, ◌▸◌, array_rest, array_rest_end}
use Rattle.grammar.specs.Productions.{Body, goto, eat, ◌▸◌, rule, expression, field, field_named}
use Rattle.grammar.specs.Productions.{Body, goto, eat, ◌▸◌, rule, expression, slice_end, slice_ended, slice_step}
use Rattle.grammar.specs.Productions.{Body, goto, end, close, sub, ◌▸◌, rule, inside, member, members, next_member, comprehension, with_member}
use Rattle.grammar.specs.Productions.{Body, goto, end, close, ◌▸◌, expression, field_value}
use Rattle.grammar.specs.Productions.{Body, goto, end, close, ◌▸◌, expression, named_argument}
use Rattle.grammar.specs.Productions.{Body, goto, end, eat, close, ◌▸◌, expression, assertion, condition, asserted}
use Rattle.grammar.specs.Productions.{Body, goto, end, eat, close, ◌▸◌, expression, basic, else_part}
use Rattle.grammar.specs.Productions.{Body, goto, end, eat, close, ◌▸◌, expression, basic}
use Rattle.grammar.specs.Productions.{Body, goto, end, eat, close, ◌▸◌, expression, for_clause}
use Rattle.grammar.specs.Productions.{Body, goto, end, eat, close, ◌▸◌, expression, pattern_default, default_value, default_end}
use Rattle.grammar.specs.Productions.{Body, goto, end, eat, close, ◌▸◌, rule, expression, local_body}
use Rattle.grammar.specs.Productions.{Body, goto, end, eat, deep, close, ◌▸◌, expr, infix_tail}
use Rattle.grammar.specs.Productions.{Body, goto, end, eat, sub, close, ◌▸◌, expression, basic, assertion}
use Rattle.grammar.specs.Productions.{Body, goto, end, eat, sub, close, ◌▸◌, expression, basic, params, function_body}
use Rattle.grammar.specs.Productions.{Body, goto, end, eat, sub, close, ◌▸◌, expression, param, param_default, pattern}
use Rattle.grammar.specs.Productions.{Body, goto, end, eat, sub, close, ◌▸◌, expression, pattern, for_clause}
use Rattle.grammar.specs.Productions.{Body, goto, end, eat, sub, close, ◌▸◌, rule, expression, basic, array, binds, inside}
use Rattle.grammar.specs.Productions.{Body, goto, end, eat, sub, ◌▸◌, pattern, pattern_starts, pattern_starts_end, array_pattern_close, array_rest, exp_destruct}
use Rattle.grammar.specs.Productions.{Body, goto, end, eat, sub, ◌▸◌, rule, bind, assertion, field, member}
use Rattle.grammar.specs.Productions.{Body, goto, end, eat, sub, ◌▸◌, rule, expression, clauses, more_clauses, for_clause, if_clause}
use Rattle.grammar.specs.Productions.{Body, goto, end, eat, sub, ◌▸◌, rule, params, params_end, param}
use Rattle.grammar.specs.Productions.{Body, goto, end, fail, sub, close, ◌▸◌, comprehension, comprehension_end, clauses}
use Rattle.grammar.specs.Productions.{Body, goto, sub, ◌▸◌, rule, suffixed, suffix, basic}
use Rattle.grammar.specs.Productions.{Body, goto, ◌▸◌, rule, expression, slice_step, slice_stepped}
use Rattle.grammar.specs.Productions.{Phrase, Body, goto, eat, sub, ◌▸◌, pattern, array_rest_end, pattern_ends, pattern_ends_end, array_pattern_close}
use Rattle.grammar.specs.Reading.{choose, has}
use Rattle.grammar.specs.Reading.{choose}
use Rattle.grammar.specs.Reading.{has}
use Rattle.grammar.specs.Tags.{ARRAY, ARRAY_COMP}
use Rattle.grammar.specs.Tags.{ASSERT_EXPR}
use Rattle.grammar.specs.Tags.{ASSERT}
use Rattle.grammar.specs.Tags.{ERROR}
use Rattle.grammar.specs.Tags.{LOCAL}
use Rattle.grammar.specs.Tags.{NAMED_ARGUMENT}
use Rattle.grammar.specs.Tags.{NAME_PATTERN}
use Rattle.grammar.specs.Tags.{OBJECT_COMP}
use Rattle.grammar.specs.Trees.{Field, byte, span, text}
use Rattle.grammar.specs.Trees.{byte, number, span}
use Rattle.grammar.specs.Trees.{byte, number}
use Rattle.grammar.specs.Trees.{byte, span}
use Rattle.grammar.specs.Trees.{byte, text}
use Rattle.grammar.specs.Trees.{byte}
use Rattle.grammar.specs.Trees.{number, span}
use Rattle.grammar.specs.Trees.{number}
use Rattle.grammar.specs.Trees.{span, text}
use Rattle.grammar.specs.Trees.{span}
use Rattle.grammar.specs.Trees.{text}
use Rattle.leaves.proofs.LeafLaws.{ate_stands, few}
use Rattle.leaves.proofs.LeafLaws.{bytes_short, within}
use Rattle.leaves.proofs.LeafLaws.{few}
use Rattle.leaves.proofs.LeafLaws.{fits, few, past_stands}
use Rattle.leaves.proofs.LeafLaws.{moved_on, onward, one_fault}
use Rattle.leaves.proofs.LeafLaws.{moved_on}
use Rattle.leaves.proofs.LeafLaws.{past_stands, moved_past}
use Rattle.leaves.proofs.LeafLaws.{within, bytes_short, name_size, fits}
use Rattle.leaves.proofs.LeafLaws.{within}
use Rattle.leaves.proofs.LeafRules.{no_pattern}
use Rattle.leaves.proofs.LexemeLaws.{lies}
use Rattle.leaves.proofs.LexemeLaws.{sight, lies}
use Rattle.leaves.proofs.LexemeLaws.{sight}
use Rattle.leaves.proofs.PartLaws.{lent_short, wrote_lent}
use Rattle.leaves.proofs.PartLaws.{lent_short}
use Rattle.leaves.proofs.PartLaws.{wrote_lent}
use Rattle.leaves.proofs.Steps
use Rattle.leaves.specs.Lexing.{Header}
use Rattle.leaves.specs.Lexing.{Moved, normal, string, binary}
use Rattle.leaves.specs.Lexing.{Stands, Past}
use Rattle.leaves.specs.Lexing.{Stands}
use Rattle.leaves.specs.Meets.{Ready, state, Seg, Leads, Takes}
use Rattle.leaves.specs.Meets.{power, state, Seg}
use Rattle.leaves.specs.Meets.{state, Seg, Takes}
use Rattle.leaves.specs.Meets.{state, Seg, bound}
use Rattle.leaves.specs.Meets.{state, Seg, bracketed}
use Rattle.leaves.specs.Meets.{state, Seg, safely}
use Rattle.leaves.specs.Meets.{state, Seg, sliced}
use Rattle.leaves.specs.Meets.{state, Seg, titled}
use Rattle.leaves.specs.Meets.{state, Seg}
use Rattle.leaves.specs.declared.Cursor.{Cursor}
use Rattle.lexemes.specs.Kinds.{COLON, ASSERT_KW}
use Rattle.lexemes.specs.Kinds.{IDENT, ASSIGN}
use Rattle.lexemes.specs.Kinds.{IDENT, L_PAREN, R_PAREN}
use Rattle.lexemes.specs.Kinds.{R_BRACK, COMMA}
use Rattle.lexemes.specs.Kinds.{R_PAREN, R_BRACE}
use Rattle.lexemes.specs.Kinds.{SEMI}
use Rattle.phrases.proofs.ClauseLaws.{array_for, array_no_for}
use Rattle.phrases.proofs.ClauseLaws.{clauses_begin, if_read, if_broken}
use Rattle.phrases.proofs.ClauseLaws.{members_next, members_last, members_for}
use Rattle.phrases.proofs.ClauseLaws.{plain_clause, over_pattern}
use Rattle.phrases.proofs.ClauseLaws.{too_deep_clause, iterates, iteration_closed}
use Rattle.phrases.proofs.CountLaws.{argument_grows}
use Rattle.phrases.proofs.CountLaws.{counts_on, passed_counting}
use Rattle.phrases.proofs.CountLaws.{step_grows}
use Rattle.phrases.proofs.ExpressionLaws.{a_paren, an_array, an_object, a_local, an_error, imports_at}
use Rattle.phrases.proofs.ExpressionLaws.{a_sign, no_sign, sign_kind}
use Rattle.phrases.proofs.ExpressionLaws.{an_operator, weak_operator, no_operator, infix_kind}
use Rattle.phrases.proofs.FieldLaws.{colons, goes_broken, some_colon}
use Rattle.phrases.proofs.FieldLaws.{place}
use Rattle.phrases.proofs.FieldLaws.{with_params}
use Rattle.phrases.proofs.KeywordLaws.{array_clauses, array_clauses_end}
use Rattle.phrases.proofs.KeywordLaws.{asserts_on, conditions, with_message, no_message}
use Rattle.phrases.proofs.KeywordLaws.{claims_on}
use Rattle.phrases.proofs.KeywordLaws.{clauses_break, good_clauses, bad_clauses, clauses_end}
use Rattle.phrases.proofs.KeywordLaws.{functions_on, function_bodies, none_before}
use Rattle.phrases.proofs.KeywordLaws.{ifs_on, else_on, no_else}
use Rattle.phrases.proofs.KeywordLaws.{import_some, imports_on}
use Rattle.phrases.proofs.KeywordLaws.{parameters, with_default, no_default}
use Rattle.phrases.proofs.PatternLaws.{Ending, at_rest, at_pattern, ending_comma, ending_over, ends_close, ends_one}
use Rattle.phrases.proofs.PatternLaws.{array_rest_named, array_rest_bare}
use Rattle.phrases.proofs.PatternLaws.{default_some, default_none, default_is, default_ends}
use Rattle.phrases.proofs.PatternLaws.{fields_close, fields_rest, fields_one, fields_more, fields_over}
use Rattle.phrases.proofs.PatternLaws.{into_pattern, into_none, field_named as name_read, field_broken}
use Rattle.phrases.proofs.PatternLaws.{starts_close, starts_rest, starts_one, starts_more, starts_over, in_brackets, in_braces, none_deeper, no_name}
use Rattle.phrases.proofs.SuffixLaws.{at_question, at_brace, past-question, past_dot, past_bracket, past_paren, past_brace, tail_on, passed_on, told_on}
use Rattle.phrases.proofs.SuffixLaws.{is_named, argues_plain, argues_fault, argues_named, name_taken, name_closed}
use Rattle.phrases.proofs.SuffixLaws.{named_few, arguments_over, arguments_on, argument_over, argument_on}
use Rattle.phrases.proofs.SuffixLaws.{suffix_there, suffix_absent, no_more}
use borrow.Author.Tests.{eqb-true}
use borrow.Author.Tests.{ne_eqb}
use lib.Dec.{lit<, lit≤}
use lib.Dec.{lit<}
use lib.Dec.{lit≤}
use lib.ListN.{length}
use lib.Seq.{slice, length-slice}
use lib.Seq.{slice}
use mathlib.Core.Bool.{true}
use mathlib.Core.List.{List, [], ◌∷◌}
use mathlib.Core.List.{List, []}
use mathlib.Core.List.{List}
use mathlib.Core.List.{[], ◌∷◌}
use mathlib.Core.List.{[]}
use mathlib.Core.Logic.{◌⊎◌, inl, inr, ⊎_elim}
use mathlib.Core.Path.{refl, subst}
use mathlib.Core.Path.{refl, subst⁻¹}
use mathlib.Core.Path.{refl, ◌∙◌}
use mathlib.Core.Path.{refl}
use mathlib.Core.Path.{subst}
use mathlib.Core.Path.{◌≡◌, refl, sym, ap, ◌∙◌}
use mathlib.Core.Path.{◌≡◌, refl, sym, ◌∙◌}
use mathlib.Core.Path.{◌≡◌, refl}
use mathlib.Core.Path.{◌≡◌}
use native.Mathlib.Omega.{arith}
use Rattle.leaves.specs.Meets.{Answer}
use Rattle.phrases.proofs.+phrase.Goals as goal

abbrev tail : Body
tail = eat SEMI ▸ expression ▸ close ASSERT_EXPR [] ▸ end

abbrev reading : ℕ → Cursor → Body
reading fault c = sub member ▸ goto (members (with_member fault c.kind))

pub arg-expr-requires-2 : goal.arg-expr-requires-2
arg-expr-requires-2 t c =
    let record_of : (Body) =
    let x = c.args in close NAMED_ARGUMENT (text (slice x.c.start x.c.end x.src.now) ∷ []) ▸ end in
    let named : ((c.args.c.kind ≡ IDENT) × (c.eat_any-c1.result.kind ≡ ASSIGN) × (c.args.k ≡ 1)) =
    is_named c.requires.1 c.if-k-eq0.false c.eat_any-c1.ensures in
    let headed : ((let x0 = c.args in Seg x0.set x0.src.now x0.left (state (goto named_argument) 0 x0.c x0.w x0.out.now) (0 + (x0.c.end - x0.c.at) + 1) 0 (state (expression ▸ record_of) 0 c.eat_any.result c.args.w c.args.out.now))) =
    name_taken c.requires.0.stands named.0 c.eat_any-c1.ensures named.1 c.eat_any.ensures in
    (omega (arith, c.decreases), Steps.ready c.requires.0 (omega arith) headed)

pub arg-overflow_cast-from : goal.arg-overflow_cast-from
arg-overflow_cast-from t c =
    let fits : c.args.c.start < 2 ^ 64 = omega (arith, (within c.requires.0).0) in
    record { fits = fits }

pub arg-overflow_cast-to : goal.arg-overflow_cast-to
arg-overflow_cast-to t c =
    let fits : c.args.c.end < 2 ^ 64 = omega (arith, (within c.requires.0).1) in
    record { fits = fits }

pub arg-slice_bounds-put_word-count : goal.arg-slice_bounds-put_word-count
arg-slice_bounds-put_word-count t c =
    (lies c.requires.0.stands).on

pub arg-slice_bounds-put_word-end : goal.arg-slice_bounds-put_word-end
arg-slice_bounds-put_word-end t c =
    (lies c.requires.0.stands).within

pub arg-put_word-w3-requires : goal.arg-put_word-w3-requires
arg-put_word-w3-requires t c =
    let record_of : (Body) =
    let x = c.args in close NAMED_ARGUMENT (text (slice x.c.start x.c.end x.src.now) ∷ []) ▸ end in
    let named : ((c.args.c.kind ≡ IDENT) × (c.eat_any-c1.result.kind ≡ ASSIGN) × (c.args.k ≡ 1)) =
    is_named c.requires.1 c.if-k-eq0.false c.eat_any-c1.ensures in
    let headed : ((let x0 = c.args in Seg x0.set x0.src.now x0.left (state (goto named_argument) 0 x0.c x0.w x0.out.now) (0 + (x0.c.end - x0.c.at) + 1) 0 (state (expression ▸ record_of) 0 c.eat_any.result c.args.w c.args.out.now))) =
    name_taken c.requires.0.stands named.0 c.eat_any-c1.ensures named.1 c.eat_any.ensures in
    let valued : ((let x0 = c.args in Seg x0.set x0.src.now x0.left (state (goto named_argument) 0 x0.c x0.w x0.out.now) (0 + (x0.c.end - x0.c.at) + 1) 0 (state record_of 1 c.in_ok-c2.field-0.0 c.in_ok-c2.field-0.1 c.expr-2.new.out))) =
    Steps.took c.expr-2.ensures c.in_ok-c2.was headed in
    let p = c.requires.0 in (Steps.fits p (lit≤ tt) valued, omega (arith, bytes_short p))

pub arg-returns-then-named-ne0 : goal.arg-returns-then-named-ne0
arg-returns-then-named-ne0 t c =
    let p = c.requires in argues_fault p.0.stands p.1 c.if-k-eq0.true c.if-named-ne0.true c.error.ensures

pub arg-returns-then-k-eq0 : goal.arg-returns-then-k-eq0
arg-returns-then-k-eq0 t c =
    let p = c.requires in
    argues_plain p.0.stands p.1 c.if-k-eq0.true c.if-named-ne0.false c.expr.ensures

pub arg-returns-in_err-c2 : goal.arg-returns-in_err-c2
arg-returns-in_err-c2 t c =
    let named : ((c.args.c.kind ≡ IDENT) × (c.eat_any-c1.result.kind ≡ ASSIGN) × (c.args.k ≡ 1)) =
    is_named c.requires.1 c.if-k-eq0.false c.eat_any-c1.ensures in
    let record_of : (Body) =
    let x = c.args in close NAMED_ARGUMENT (text (slice x.c.start x.c.end x.src.now) ∷ []) ▸ end in
    let headed : ((let x0 = c.args in Seg x0.set x0.src.now x0.left (state (goto named_argument) 0 x0.c x0.w x0.out.now) (0 + (x0.c.end - x0.c.at) + 1) 0 (state (expression ▸ record_of) 0 c.eat_any.result c.args.w c.args.out.now))) =
    name_taken c.requires.0.stands named.0 c.eat_any-c1.ensures named.1 c.eat_any.ensures in
    let is = named in
    argues_named c.requires.0.stands is.0 c.eat_any-c1.ensures is.1 is.2 (Steps.as_sub (Steps.passed (Steps.takes_broken c.expr-2.ensures c.in_err-c2.was (Steps.handed c.from_residual.ensures)) headed))

pub arg-returns : goal.arg-returns
arg-returns t c =
    let named : ((c.args.c.kind ≡ IDENT) × (c.eat_any-c1.result.kind ≡ ASSIGN) × (c.args.k ≡ 1)) =
    is_named c.requires.1 c.if-k-eq0.false c.eat_any-c1.ensures in
    let record_of : (Body) =
    let x = c.args in close NAMED_ARGUMENT (text (slice x.c.start x.c.end x.src.now) ∷ []) ▸ end in
    let headed : ((let x0 = c.args in Seg x0.set x0.src.now x0.left (state (goto named_argument) 0 x0.c x0.w x0.out.now) (0 + (x0.c.end - x0.c.at) + 1) 0 (state (expression ▸ record_of) 0 c.eat_any.result c.args.w c.args.out.now))) =
    name_taken c.requires.0.stands named.0 c.eat_any-c1.ensures named.1 c.eat_any.ensures in
    let valued : ((let x0 = c.args in Seg x0.set x0.src.now x0.left (state (goto named_argument) 0 x0.c x0.w x0.out.now) (0 + (x0.c.end - x0.c.at) + 1) 0 (state record_of 1 c.in_ok-c2.field-0.0 c.in_ok-c2.field-0.1 c.expr-2.new.out))) =
    Steps.took c.expr-2.ensures c.in_ok-c2.was headed in
    let is = named in
    let g = c.args in
    let st = c.requires.0.stands in
    argues_named st is.0 c.eat_any-c1.ensures is.1 is.2
    (name_closed st (omega arith) valued (wrote_lent NAMED_ARGUMENT (λ (l : List ℕ). text l ∷ []) g.src.now g.c.start g.c.end c.put_word-w3.ensures))

pub args-call_close-requires-then-c1-ne-COMMA : goal.args-call_close-requires-then-c1-ne-COMMA
args-call_close-requires-then-c1-ne-COMMA t c =
    let one : (let x = c.loop-cur in (let a0 = c.args in let x0 = c.loop-cur in Seg a0.set a0.src.now a0.left (state (goto (arguments a0.from x0.unnamed x0.named)) (1 + (x0.unnamed + x0.named)) x0.cur x0.at x0.out) 0 0 (state (goto (argument c.args.from x.unnamed x.named)) (1 + (x.unnamed + x.named)) x.cur x.at x.out))) =
    arguments_on c.loop-cur.invariant.0.ok.stands c.if-cur-eq-R_PAREN.false (let a0 = c.args in
    let x0 = c.loop-cur in Steps.at a0.set a0.src.now a0.left (goto (arguments a0.from x0.unnamed x0.named)) (1 + (x0.unnamed + x0.named)) x0.cur x0.at x0.out) in
    let few : (c.named_at-k.result ≤ 1) =
    named_few c.named_at-k.ensures in
    let unnamed : (ℕ) =
    c.loop-cur.unnamed + (1 - c.named_at-k.result) in
    let named : (ℕ) =
    c.loop-cur.named + c.named_at-k.result in
    let took : ((let a0 = c.args in let x0 = c.loop-cur in Seg a0.set a0.src.now a0.left (state (goto (arguments a0.from x0.unnamed x0.named)) (1 + (x0.unnamed + x0.named)) x0.cur x0.at x0.out) 0 0 (state (goto (argument_end c.args.from unnamed named)) (1 + (unnamed + named)) c.in_ok-c1.field-0.0 c.in_ok-c1.field-0.1 c.arg.new.out))) =
    let x = c.loop-cur in
    let went = Steps.went (c.arg.ensures.argues c.args.from x.unnamed (1 + (x.unnamed + x.named))) c.in_ok-c1.was one in
    Steps.count_is (omega (arith, few)) went in
    let enough : (unnamed + named ≤ c.in_ok-c1.field-0.0.at) =
    omega (arith, c.loop-cur.invariant.1, argument_grows c.arg.ensures c.in_ok-c1.was, few) in
    (Steps.ready c.loop-cur.invariant.0.ok (lit≤ tt) took, c.requires.1, omega (arith, enough), omega (arith, enough))

pub args-eat_any-cur-requires : goal.args-eat_any-cur-requires
args-eat_any-cur-requires t c =
    let one : (let x = c.loop-cur in (let a0 = c.args in let x0 = c.loop-cur in Seg a0.set a0.src.now a0.left (state (goto (arguments a0.from x0.unnamed x0.named)) (1 + (x0.unnamed + x0.named)) x0.cur x0.at x0.out) 0 0 (state (goto (argument c.args.from x.unnamed x.named)) (1 + (x.unnamed + x.named)) x.cur x.at x.out))) =
    arguments_on c.loop-cur.invariant.0.ok.stands c.if-cur-eq-R_PAREN.false (let a0 = c.args in
    let x0 = c.loop-cur in Steps.at a0.set a0.src.now a0.left (goto (arguments a0.from x0.unnamed x0.named)) (1 + (x0.unnamed + x0.named)) x0.cur x0.at x0.out) in
    let few : (c.named_at-k.result ≤ 1) =
    named_few c.named_at-k.ensures in
    let unnamed : (ℕ) =
    c.loop-cur.unnamed + (1 - c.named_at-k.result) in
    let named : (ℕ) =
    c.loop-cur.named + c.named_at-k.result in
    let took : ((let a0 = c.args in let x0 = c.loop-cur in Seg a0.set a0.src.now a0.left (state (goto (arguments a0.from x0.unnamed x0.named)) (1 + (x0.unnamed + x0.named)) x0.cur x0.at x0.out) 0 0 (state (goto (argument_end c.args.from unnamed named)) (1 + (unnamed + named)) c.in_ok-c1.field-0.0 c.in_ok-c1.field-0.1 c.arg.new.out))) =
    let x = c.loop-cur in
    let went = Steps.went (c.arg.ensures.argues c.args.from x.unnamed (1 + (x.unnamed + x.named))) c.in_ok-c1.was one in
    Steps.count_is (omega (arith, few)) went in
    let there : (Stands c.args.src.now c.in_ok-c1.field-0.0) =
    took.stands c.loop-cur.invariant.0.ok.stands in
    there

pub args-overflow_sub-unnamed : goal.args-overflow_sub-unnamed
args-overflow_sub-unnamed t c =
    let few : (c.named_at-k.result ≤ 1) =
    named_few c.named_at-k.ensures in
    few

pub args-overflow_add-unnamed : goal.args-overflow_add-unnamed
args-overflow_add-unnamed t c =
    let few : (c.named_at-k.result ≤ 1) =
    named_few c.named_at-k.ensures in
    let i = c.loop-cur.invariant in omega (arith, i.1, few, i.0.ok.stands.short, i.0.ok.stands.within)

pub args-overflow_add-named : goal.args-overflow_add-named
args-overflow_add-named t c =
    let few : (c.named_at-k.result ≤ 1) =
    named_few c.named_at-k.ensures in
    let i = c.loop-cur.invariant in omega (arith, i.1, few, i.0.ok.stands.short, i.0.ok.stands.within)

pub args-loop-cur-init : goal.args-loop-cur-init
args-loop-cur-init t c =
    (Steps.begun c.requires.0, omega arith)

pub args-loop-cur-smaller : goal.args-loop-cur-smaller
args-loop-cur-smaller t c =
    let unnamed : (ℕ) =
    c.loop-cur.unnamed + (1 - c.named_at-k.result) in
    let named : (ℕ) =
    c.loop-cur.named + c.named_at-k.result in
    let one : (let x = c.loop-cur in (let a0 = c.args in let x0 = c.loop-cur in Seg a0.set a0.src.now a0.left (state (goto (arguments a0.from x0.unnamed x0.named)) (1 + (x0.unnamed + x0.named)) x0.cur x0.at x0.out) 0 0 (state (goto (argument c.args.from x.unnamed x.named)) (1 + (x.unnamed + x.named)) x.cur x.at x.out))) =
    arguments_on c.loop-cur.invariant.0.ok.stands c.if-cur-eq-R_PAREN.false (let a0 = c.args in
    let x0 = c.loop-cur in Steps.at a0.set a0.src.now a0.left (goto (arguments a0.from x0.unnamed x0.named)) (1 + (x0.unnamed + x0.named)) x0.cur x0.at x0.out) in
    let few : (c.named_at-k.result ≤ 1) =
    named_few c.named_at-k.ensures in
    let took : ((let a0 = c.args in let x0 = c.loop-cur in Seg a0.set a0.src.now a0.left (state (goto (arguments a0.from x0.unnamed x0.named)) (1 + (x0.unnamed + x0.named)) x0.cur x0.at x0.out) 0 0 (state (goto (argument_end c.args.from unnamed named)) (1 + (unnamed + named)) c.in_ok-c1.field-0.0 c.in_ok-c1.field-0.1 c.arg.new.out))) =
    let x = c.loop-cur in
    let went = Steps.went (c.arg.ensures.argues c.args.from x.unnamed (1 + (x.unnamed + x.named))) c.in_ok-c1.was one in
    Steps.count_is (omega (arith, few)) went in
    let there : (Stands c.args.src.now c.in_ok-c1.field-0.0) =
    took.stands c.loop-cur.invariant.0.ok.stands in
    let next : ((let a0 = c.args in let x0 = c.loop-cur in Seg a0.set a0.src.now a0.left (state (goto (arguments a0.from x0.unnamed x0.named)) (1 + (x0.unnamed + x0.named)) x0.cur x0.at x0.out) 1 0 (state (goto (arguments c.args.from unnamed named)) (1 + (unnamed + named)) c.eat_any-cur.result c.in_ok-c1.field-0.1 c.arg.new.out))) =
    argument_on there c.if-c1-ne-COMMA.false c.eat_any-cur.ensures took in
    Steps.closer c.loop-cur.invariant.0.ok (lit≤ tt) next

pub args-loop-cur-preserved : goal.args-loop-cur-preserved
args-loop-cur-preserved t c =
    let one : (let x = c.loop-cur in (let a0 = c.args in let x0 = c.loop-cur in Seg a0.set a0.src.now a0.left (state (goto (arguments a0.from x0.unnamed x0.named)) (1 + (x0.unnamed + x0.named)) x0.cur x0.at x0.out) 0 0 (state (goto (argument c.args.from x.unnamed x.named)) (1 + (x.unnamed + x.named)) x.cur x.at x.out))) =
    arguments_on c.loop-cur.invariant.0.ok.stands c.if-cur-eq-R_PAREN.false (let a0 = c.args in
    let x0 = c.loop-cur in Steps.at a0.set a0.src.now a0.left (goto (arguments a0.from x0.unnamed x0.named)) (1 + (x0.unnamed + x0.named)) x0.cur x0.at x0.out) in
    let few : (c.named_at-k.result ≤ 1) =
    named_few c.named_at-k.ensures in
    let unnamed : (ℕ) =
    c.loop-cur.unnamed + (1 - c.named_at-k.result) in
    let named : (ℕ) =
    c.loop-cur.named + c.named_at-k.result in
    let took : ((let a0 = c.args in let x0 = c.loop-cur in Seg a0.set a0.src.now a0.left (state (goto (arguments a0.from x0.unnamed x0.named)) (1 + (x0.unnamed + x0.named)) x0.cur x0.at x0.out) 0 0 (state (goto (argument_end c.args.from unnamed named)) (1 + (unnamed + named)) c.in_ok-c1.field-0.0 c.in_ok-c1.field-0.1 c.arg.new.out))) =
    let x = c.loop-cur in
    let went = Steps.went (c.arg.ensures.argues c.args.from x.unnamed (1 + (x.unnamed + x.named))) c.in_ok-c1.was one in
    Steps.count_is (omega (arith, few)) went in
    let there : (Stands c.args.src.now c.in_ok-c1.field-0.0) =
    took.stands c.loop-cur.invariant.0.ok.stands in
    let enough : (unnamed + named ≤ c.in_ok-c1.field-0.0.at) =
    omega (arith, c.loop-cur.invariant.1, argument_grows c.arg.ensures c.in_ok-c1.was, few) in
    let next : ((let a0 = c.args in let x0 = c.loop-cur in Seg a0.set a0.src.now a0.left (state (goto (arguments a0.from x0.unnamed x0.named)) (1 + (x0.unnamed + x0.named)) x0.cur x0.at x0.out) 1 0 (state (goto (arguments c.args.from unnamed named)) (1 + (unnamed + named)) c.eat_any-cur.result c.in_ok-c1.field-0.1 c.arg.new.out))) =
    argument_on there c.if-c1-ne-COMMA.false c.eat_any-cur.ensures took in
    (Steps.turned c.loop-cur.invariant.0 (lit≤ tt) next, omega (arith, enough, moved_on there c.eat_any-cur.ensures))

pub args-returns-then-cur-eq-R_PAREN : goal.args-returns-then-cur-eq-R_PAREN
args-returns-then-cur-eq-R_PAREN t c =
    let i = c.loop-cur.invariant.0 in
    Steps.tail_telling (lit≤ tt) (c.call_close.ensures.tells _ _ _) (arguments_over i.ok.stands c.if-cur-eq-R_PAREN.true i.seg)

pub args-returns-in_err-c1 : goal.args-returns-in_err-c1
args-returns-in_err-c1 t c =
    let one : (let x = c.loop-cur in (let a0 = c.args in let x0 = c.loop-cur in Seg a0.set a0.src.now a0.left (state (goto (arguments a0.from x0.unnamed x0.named)) (1 + (x0.unnamed + x0.named)) x0.cur x0.at x0.out) 0 0 (state (goto (argument c.args.from x.unnamed x.named)) (1 + (x.unnamed + x.named)) x.cur x.at x.out))) =
    arguments_on c.loop-cur.invariant.0.ok.stands c.if-cur-eq-R_PAREN.false (let a0 = c.args in
    let x0 = c.loop-cur in Steps.at a0.set a0.src.now a0.left (goto (arguments a0.from x0.unnamed x0.named)) (1 + (x0.unnamed + x0.named)) x0.cur x0.at x0.out) in
    Steps.passed_telling (Steps.leads_broken (c.arg.ensures.argues _ _ _) c.in_err-c1.was (Steps.handed c.from_residual.ensures)) (Steps.then c.loop-cur.invariant.0.seg one)

pub args-returns-then-c1-ne-COMMA : goal.args-returns-then-c1-ne-COMMA
args-returns-then-c1-ne-COMMA t c =
    let one : (let x = c.loop-cur in (let a0 = c.args in let x0 = c.loop-cur in Seg a0.set a0.src.now a0.left (state (goto (arguments a0.from x0.unnamed x0.named)) (1 + (x0.unnamed + x0.named)) x0.cur x0.at x0.out) 0 0 (state (goto (argument c.args.from x.unnamed x.named)) (1 + (x.unnamed + x.named)) x.cur x.at x.out))) =
    arguments_on c.loop-cur.invariant.0.ok.stands c.if-cur-eq-R_PAREN.false (let a0 = c.args in
    let x0 = c.loop-cur in Steps.at a0.set a0.src.now a0.left (goto (arguments a0.from x0.unnamed x0.named)) (1 + (x0.unnamed + x0.named)) x0.cur x0.at x0.out) in
    let few : (c.named_at-k.result ≤ 1) =
    named_few c.named_at-k.ensures in
    let unnamed : (ℕ) =
    c.loop-cur.unnamed + (1 - c.named_at-k.result) in
    let named : (ℕ) =
    c.loop-cur.named + c.named_at-k.result in
    let took : ((let a0 = c.args in let x0 = c.loop-cur in Seg a0.set a0.src.now a0.left (state (goto (arguments a0.from x0.unnamed x0.named)) (1 + (x0.unnamed + x0.named)) x0.cur x0.at x0.out) 0 0 (state (goto (argument_end c.args.from unnamed named)) (1 + (unnamed + named)) c.in_ok-c1.field-0.0 c.in_ok-c1.field-0.1 c.arg.new.out))) =
    let x = c.loop-cur in
    let went = Steps.went (c.arg.ensures.argues c.args.from x.unnamed (1 + (x.unnamed + x.named))) c.in_ok-c1.was one in
    Steps.count_is (omega (arith, few)) went in
    let there : (Stands c.args.src.now c.in_ok-c1.field-0.0) =
    took.stands c.loop-cur.invariant.0.ok.stands in
    Steps.tail_telling (lit≤ tt) (c.call_close-then-c1-ne-COMMA.ensures.tells _ _ _) (argument_over there c.if-c1-ne-COMMA.true (Steps.then c.loop-cur.invariant.0.seg took))

pub array-past_comma-next-requires : goal.array-past_comma-next-requires
unfolding choose has rule sight
array-past_comma-next-requires t c =
    let entered =
    Steps.known (expression ▸ goto array_first) c.requires.stands refl (λ xs t. simp (ne_eqb _ R_BRACK c.if-c-eq-R_BRACK.false)) (let x0 = c.args in Steps.at x0.set x0.src.now x0.left (goto array) 0 x0.c x0.w x0.out.now) in
    let first =
    Steps.took c.expr.ensures c.in_ok-c1.was entered in
    let there =
    first.stands c.requires.stands in
    there

pub array-specs-requires : goal.array-specs-requires
unfolding choose has rule sight
array-specs-requires t c =
    let entered =
    Steps.known (expression ▸ goto array_first) c.requires.stands refl (λ xs t. simp (ne_eqb _ R_BRACK c.if-c-eq-R_BRACK.false)) (let x0 = c.args in Steps.at x0.set x0.src.now x0.left (goto array) 0 x0.c x0.w x0.out.now) in
    let first =
    Steps.took c.expr.ensures c.in_ok-c1.was entered in
    let there =
    first.stands c.requires.stands in
    let found =
    array_for there c.past_comma-next.ensures c.if-next-eq-FOR_KW.true first in
    (omega (arith, c.decreases), (Steps.ready c.requires (lit≤ tt) found, c.if-next-eq-FOR_KW.true))

pub array-array_close-requires-then-next-eq-FOR_KW : goal.array-array_close-requires-then-next-eq-FOR_KW
unfolding choose has rule sight
array-array_close-requires-then-next-eq-FOR_KW t c =
    let entered =
    Steps.known (expression ▸ goto array_first) c.requires.stands refl (λ xs t. simp (ne_eqb _ R_BRACK c.if-c-eq-R_BRACK.false)) (let x0 = c.args in Steps.at x0.set x0.src.now x0.left (goto array) 0 x0.c x0.w x0.out.now) in
    let first =
    Steps.took c.expr.ensures c.in_ok-c1.was entered in
    let there =
    first.stands c.requires.stands in
    let found =
    array_for there c.past_comma-next.ensures c.if-next-eq-FOR_KW.true first in
    let clausal =
    let f = c.past_comma-next.result in
    Steps.known (sub clauses ▸ goto array_comp_end) (found.stands c.requires.stands) refl (λ xs t. array_clauses c.args.set f xs 1 f.kind t) found in
    let listed =
    Steps.took (Steps.counted c.specs.ensures c.in_ok-c2.was).0 refl clausal in
    (Steps.ready c.requires (lit≤ tt) listed, omega (arith, (Steps.counted c.specs.ensures c.in_ok-c2.was).1))

pub array-array_close-requires-then-next-eq-R_BRACK : goal.array-array_close-requires-then-next-eq-R_BRACK
unfolding choose has rule sight
array-array_close-requires-then-next-eq-R_BRACK t c =
    let comma =
    let i = c.loop-cur.invariant in
    let st = i.0.ok.stands in
    let is = c.if-cur-ne-COMMA.false in
    Steps.taken (lit< tt) st (moved_past i.2 is) is (Steps.known (eat COMMA ▸ goto next_element) st is (λ xs t. refl) (let x0 = c.args in Steps.at x0.set x0.src.now x0.left (goto elements) c.loop-cur.n c.loop-cur.cur c.loop-cur.at c.loop-cur.out)) in
    let behind =
    (past_stands c.loop-cur.invariant.0.ok.stands c.loop-cur.invariant.2).0 in
    let shut =
    Steps.known (bracketed ARRAY c.loop-cur.n) behind c.if-next-eq-R_BRACK.true (λ xs t. refl) comma in
    let i = c.loop-cur.invariant in (Steps.ready i.0.ok (lit≤ tt) shut, omega (arith, i.1, shut.onward))

pub array-expr-requires-in-loop-cur : goal.array-expr-requires-in-loop-cur
unfolding choose has rule sight
array-expr-requires-in-loop-cur t c =
    let comma =
    let i = c.loop-cur.invariant in
    let st = i.0.ok.stands in
    let is = c.if-cur-ne-COMMA.false in
    Steps.taken (lit< tt) st (moved_past i.2 is) is (Steps.known (eat COMMA ▸ goto next_element) st is (λ xs t. refl) (let x0 = c.args in Steps.at x0.set x0.src.now x0.left (goto elements) c.loop-cur.n c.loop-cur.cur c.loop-cur.at c.loop-cur.out)) in
    let behind =
    (past_stands c.loop-cur.invariant.0.ok.stands c.loop-cur.invariant.2).0 in
    let more =
    Steps.known (expression ▸ goto elements) behind refl (λ xs t. simp (ne_eqb _ R_BRACK c.if-next-eq-R_BRACK.false)) comma in
    (omega (arith, c.decreases), Steps.ready c.loop-cur.invariant.0.ok (lit≤ tt) more)

pub array-loop-cur-init : goal.array-loop-cur-init
unfolding choose has rule sight
array-loop-cur-init t c =
    let entered =
    Steps.known (expression ▸ goto array_first) c.requires.stands refl (λ xs t. simp (ne_eqb _ R_BRACK c.if-c-eq-R_BRACK.false)) (let x0 = c.args in Steps.at x0.set x0.src.now x0.left (goto array) 0 x0.c x0.w x0.out.now) in
    let first =
    Steps.took c.expr.ensures c.in_ok-c1.was entered in
    let there =
    first.stands c.requires.stands in
    let listing =
    array_no_for there c.past_comma-next.ensures c.if-next-eq-FOR_KW.false first in
    (Steps.begun (Steps.ready c.requires (lit≤ tt) listing), omega (arith, step_grows c.expr.ensures c.in_ok-c1.was), c.past_comma-next.ensures)

pub array-past_comma-next-requires-in-loop-cur : goal.array-past_comma-next-requires-in-loop-cur
unfolding choose has rule sight
array-past_comma-next-requires-in-loop-cur t c =
    let comma =
    let i = c.loop-cur.invariant in
    let st = i.0.ok.stands in
    let is = c.if-cur-ne-COMMA.false in
    Steps.taken (lit< tt) st (moved_past i.2 is) is (Steps.known (eat COMMA ▸ goto next_element) st is (λ xs t. refl) (let x0 = c.args in Steps.at x0.set x0.src.now x0.left (goto elements) c.loop-cur.n c.loop-cur.cur c.loop-cur.at c.loop-cur.out)) in
    let behind =
    (past_stands c.loop-cur.invariant.0.ok.stands c.loop-cur.invariant.2).0 in
    let more =
    Steps.known (expression ▸ goto elements) behind refl (λ xs t. simp (ne_eqb _ R_BRACK c.if-next-eq-R_BRACK.false)) comma in
    let again =
    Steps.took c.expr-in-loop-cur.ensures c.in_ok-c3.was more in
    again.stands c.loop-cur.invariant.0.ok.stands

pub array-loop-cur-smaller : goal.array-loop-cur-smaller
unfolding choose has rule sight
array-loop-cur-smaller t c =
    let comma =
    let i = c.loop-cur.invariant in
    let st = i.0.ok.stands in
    let is = c.if-cur-ne-COMMA.false in
    Steps.taken (lit< tt) st (moved_past i.2 is) is (Steps.known (eat COMMA ▸ goto next_element) st is (λ xs t. refl) (let x0 = c.args in Steps.at x0.set x0.src.now x0.left (goto elements) c.loop-cur.n c.loop-cur.cur c.loop-cur.at c.loop-cur.out)) in
    let behind =
    (past_stands c.loop-cur.invariant.0.ok.stands c.loop-cur.invariant.2).0 in
    let more =
    Steps.known (expression ▸ goto elements) behind refl (λ xs t. simp (ne_eqb _ R_BRACK c.if-next-eq-R_BRACK.false)) comma in
    let again =
    Steps.took c.expr-in-loop-cur.ensures c.in_ok-c3.was more in
    Steps.closer c.loop-cur.invariant.0.ok (lit≤ tt) again

pub array-loop-cur-preserved : goal.array-loop-cur-preserved
unfolding choose has rule sight
array-loop-cur-preserved t c =
    let comma =
    let i = c.loop-cur.invariant in
    let st = i.0.ok.stands in
    let is = c.if-cur-ne-COMMA.false in
    Steps.taken (lit< tt) st (moved_past i.2 is) is (Steps.known (eat COMMA ▸ goto next_element) st is (λ xs t. refl) (let x0 = c.args in Steps.at x0.set x0.src.now x0.left (goto elements) c.loop-cur.n c.loop-cur.cur c.loop-cur.at c.loop-cur.out)) in
    let behind =
    (past_stands c.loop-cur.invariant.0.ok.stands c.loop-cur.invariant.2).0 in
    let more =
    Steps.known (expression ▸ goto elements) behind refl (λ xs t. simp (ne_eqb _ R_BRACK c.if-next-eq-R_BRACK.false)) comma in
    let again =
    Steps.took c.expr-in-loop-cur.ensures c.in_ok-c3.was more in
    let i = c.loop-cur.invariant in (Steps.turned i.0 (lit≤ tt) again, omega (arith, i.1, again.onward), c.past_comma-next-in-loop-cur.ensures)

pub array-returns-then-c-eq-R_BRACK : goal.array-returns-then-c-eq-R_BRACK
unfolding choose has rule sight
array-returns-then-c-eq-R_BRACK t c =
    let st = c.requires.stands in
    Steps.tail (lit≤ tt) (c.array_close.ensures.ends _ _ _) (Steps.known (bracketed ARRAY 0) st c.if-c-eq-R_BRACK.true (λ xs t. refl) Steps.here)

pub array-returns-in_err-c1 : goal.array-returns-in_err-c1
unfolding choose has rule sight
array-returns-in_err-c1 t c =
    let entered =
    Steps.known (expression ▸ goto array_first) c.requires.stands refl (λ xs t. simp (ne_eqb _ R_BRACK c.if-c-eq-R_BRACK.false)) (let x0 = c.args in Steps.at x0.set x0.src.now x0.left (goto array) 0 x0.c x0.w x0.out.now) in
    Steps.passed (Steps.takes_broken c.expr.ensures c.in_err-c1.was (Steps.handed c.from_residual.ensures)) entered

pub array-returns-in_err-c2 : goal.array-returns-in_err-c2
unfolding choose has rule sight
array-returns-in_err-c2 t c =
    let entered =
    Steps.known (expression ▸ goto array_first) c.requires.stands refl (λ xs t. simp (ne_eqb _ R_BRACK c.if-c-eq-R_BRACK.false)) (let x0 = c.args in Steps.at x0.set x0.src.now x0.left (goto array) 0 x0.c x0.w x0.out.now) in
    let first =
    Steps.took c.expr.ensures c.in_ok-c1.was entered in
    let there =
    first.stands c.requires.stands in
    let found =
    array_for there c.past_comma-next.ensures c.if-next-eq-FOR_KW.true first in
    let clausal =
    let f = c.past_comma-next.result in
    Steps.known (sub clauses ▸ goto array_comp_end) (found.stands c.requires.stands) refl (λ xs t. array_clauses c.args.set f xs 1 f.kind t) found in
    Steps.passed (Steps.counts_broken c.specs.ensures c.in_err-c2.was (Steps.handed c.from_residual-in_err-c2.ensures)) clausal

pub array-returns-then-next-eq-FOR_KW : goal.array-returns-then-next-eq-FOR_KW
unfolding choose has rule sight
array-returns-then-next-eq-FOR_KW t c =
    let many =
    c.in_ok-c2.field-0.2 in
    let entered =
    Steps.known (expression ▸ goto array_first) c.requires.stands refl (λ xs t. simp (ne_eqb _ R_BRACK c.if-c-eq-R_BRACK.false)) (let x0 = c.args in Steps.at x0.set x0.src.now x0.left (goto array) 0 x0.c x0.w x0.out.now) in
    let first =
    Steps.took c.expr.ensures c.in_ok-c1.was entered in
    let there =
    first.stands c.requires.stands in
    let found =
    array_for there c.past_comma-next.ensures c.if-next-eq-FOR_KW.true first in
    let clausal =
    let f = c.past_comma-next.result in
    Steps.known (sub clauses ▸ goto array_comp_end) (found.stands c.requires.stands) refl (λ xs t. array_clauses c.args.set f xs 1 f.kind t) found in
    let listed =
    Steps.took (Steps.counted c.specs.ensures c.in_ok-c2.was).0 refl clausal in
    let c₂ = c.in_ok-c2.field-0.0 in
    let st = listed.stands c.requires.stands in
    Steps.tail (lit≤ tt) (c.array_close-then-next-eq-FOR_KW.ensures.ends _ _ _)
    (Steps.known (bracketed ARRAY_COMP many) st refl (λ xs t. array_clauses_end c.args.set c₂ xs many c₂.kind t) listed)

pub array-returns-then-cur-ne-COMMA : goal.array-returns-then-cur-ne-COMMA
unfolding choose has rule sight
array-returns-then-cur-ne-COMMA t c =
    let entered =
    Steps.known (expression ▸ goto array_first) c.requires.stands refl (λ xs t. simp (ne_eqb _ R_BRACK c.if-c-eq-R_BRACK.false)) (let x0 = c.args in Steps.at x0.set x0.src.now x0.left (goto array) 0 x0.c x0.w x0.out.now) in
    let first =
    Steps.took c.expr.ensures c.in_ok-c1.was entered in
    let there =
    first.stands c.requires.stands in
    let listing =
    array_no_for there c.past_comma-next.ensures c.if-next-eq-FOR_KW.false first in
    let so_far =
    Steps.then listing c.loop-cur.invariant.0.seg in
    Steps.tail (lit≤ tt) (c.array_close-then-cur-ne-COMMA.ensures.ends _ _ _)
    (Steps.known (bracketed ARRAY c.loop-cur.n) c.loop-cur.invariant.0.ok.stands refl (λ xs t. simp (ne_eqb _ COMMA c.if-cur-ne-COMMA.true)) so_far)

pub array-returns-then-next-eq-R_BRACK : goal.array-returns-then-next-eq-R_BRACK
unfolding choose has rule sight
array-returns-then-next-eq-R_BRACK t c =
    let entered =
    Steps.known (expression ▸ goto array_first) c.requires.stands refl (λ xs t. simp (ne_eqb _ R_BRACK c.if-c-eq-R_BRACK.false)) (let x0 = c.args in Steps.at x0.set x0.src.now x0.left (goto array) 0 x0.c x0.w x0.out.now) in
    let first =
    Steps.took c.expr.ensures c.in_ok-c1.was entered in
    let there =
    first.stands c.requires.stands in
    let listing =
    array_no_for there c.past_comma-next.ensures c.if-next-eq-FOR_KW.false first in
    let so_far =
    Steps.then listing c.loop-cur.invariant.0.seg in
    let comma =
    let i = c.loop-cur.invariant in
    let st = i.0.ok.stands in
    let is = c.if-cur-ne-COMMA.false in
    Steps.taken (lit< tt) st (moved_past i.2 is) is (Steps.known (eat COMMA ▸ goto next_element) st is (λ xs t. refl) (let x0 = c.args in Steps.at x0.set x0.src.now x0.left (goto elements) c.loop-cur.n c.loop-cur.cur c.loop-cur.at c.loop-cur.out)) in
    let behind =
    (past_stands c.loop-cur.invariant.0.ok.stands c.loop-cur.invariant.2).0 in
    let shut =
    Steps.known (bracketed ARRAY c.loop-cur.n) behind c.if-next-eq-R_BRACK.true (λ xs t. refl) comma in
    Steps.tail (lit≤ tt) (c.array_close-then-next-eq-R_BRACK.ensures.ends _ _ _) (Steps.onto so_far shut)

pub array-returns-in_err-c3 : goal.array-returns-in_err-c3
unfolding choose has rule sight
array-returns-in_err-c3 t c =
    let entered =
    Steps.known (expression ▸ goto array_first) c.requires.stands refl (λ xs t. simp (ne_eqb _ R_BRACK c.if-c-eq-R_BRACK.false)) (let x0 = c.args in Steps.at x0.set x0.src.now x0.left (goto array) 0 x0.c x0.w x0.out.now) in
    let first =
    Steps.took c.expr.ensures c.in_ok-c1.was entered in
    let there =
    first.stands c.requires.stands in
    let listing =
    array_no_for there c.past_comma-next.ensures c.if-next-eq-FOR_KW.false first in
    let so_far =
    Steps.then listing c.loop-cur.invariant.0.seg in
    let comma =
    let i = c.loop-cur.invariant in
    let st = i.0.ok.stands in
    let is = c.if-cur-ne-COMMA.false in
    Steps.taken (lit< tt) st (moved_past i.2 is) is (Steps.known (eat COMMA ▸ goto next_element) st is (λ xs t. refl) (let x0 = c.args in Steps.at x0.set x0.src.now x0.left (goto elements) c.loop-cur.n c.loop-cur.cur c.loop-cur.at c.loop-cur.out)) in
    let behind =
    (past_stands c.loop-cur.invariant.0.ok.stands c.loop-cur.invariant.2).0 in
    let more =
    Steps.known (expression ▸ goto elements) behind refl (λ xs t. simp (ne_eqb _ R_BRACK c.if-next-eq-R_BRACK.false)) comma in
    Steps.passed (Steps.takes_broken c.expr-in-loop-cur.ensures c.in_err-c3.was (Steps.handed c.from_residual-in_err-c3.ensures)) (Steps.onto so_far more)

pub array-shape_of-out-in_err-c2 : goal.array-shape_of-out-in_err-c2
unfolding choose has rule sight
array-shape_of-out-in_err-c2 t c =
    let entered =
    Steps.known (expression ▸ goto array_first) c.requires.stands refl (λ xs t. simp (ne_eqb _ R_BRACK c.if-c-eq-R_BRACK.false)) (let x0 = c.args in Steps.at x0.set x0.src.now x0.left (goto array) 0 x0.c x0.w x0.out.now) in
    let first =
    Steps.took c.expr.ensures c.in_ok-c1.was entered in
    let there =
    first.stands c.requires.stands in
    let found =
    array_for there c.past_comma-next.ensures c.if-next-eq-FOR_KW.true first in
    let clausal =
    let f = c.past_comma-next.result in
    Steps.known (sub clauses ▸ goto array_comp_end) (found.stands c.requires.stands) refl (λ xs t. array_clauses c.args.set f xs 1 f.kind t) found in
    c.specs.auto.out ∙ Steps.same clausal

pub array-shape_of-out-then-next-eq-FOR_KW : goal.array-shape_of-out-then-next-eq-FOR_KW
unfolding choose has rule sight
array-shape_of-out-then-next-eq-FOR_KW t c =
    let entered =
    Steps.known (expression ▸ goto array_first) c.requires.stands refl (λ xs t. simp (ne_eqb _ R_BRACK c.if-c-eq-R_BRACK.false)) (let x0 = c.args in Steps.at x0.set x0.src.now x0.left (goto array) 0 x0.c x0.w x0.out.now) in
    let first =
    Steps.took c.expr.ensures c.in_ok-c1.was entered in
    let there =
    first.stands c.requires.stands in
    let found =
    array_for there c.past_comma-next.ensures c.if-next-eq-FOR_KW.true first in
    let clausal =
    let f = c.past_comma-next.result in
    Steps.known (sub clauses ▸ goto array_comp_end) (found.stands c.requires.stands) refl (λ xs t. array_clauses c.args.set f xs 1 f.kind t) found in
    let listed =
    Steps.took (Steps.counted c.specs.ensures c.in_ok-c2.was).0 refl clausal in
    c.array_close-then-next-eq-FOR_KW.auto.out ∙ Steps.same listed

pub array-shape_of-out-then-cur-ne-COMMA : goal.array-shape_of-out-then-cur-ne-COMMA
unfolding choose has rule sight
array-shape_of-out-then-cur-ne-COMMA t c =
    let entered =
    Steps.known (expression ▸ goto array_first) c.requires.stands refl (λ xs t. simp (ne_eqb _ R_BRACK c.if-c-eq-R_BRACK.false)) (let x0 = c.args in Steps.at x0.set x0.src.now x0.left (goto array) 0 x0.c x0.w x0.out.now) in
    let first =
    Steps.took c.expr.ensures c.in_ok-c1.was entered in
    let there =
    first.stands c.requires.stands in
    let listing =
    array_no_for there c.past_comma-next.ensures c.if-next-eq-FOR_KW.false first in
    let so_far =
    Steps.then listing c.loop-cur.invariant.0.seg in
    c.array_close-then-cur-ne-COMMA.auto.out ∙ Steps.same so_far

pub array-shape_of-out-then-next-eq-R_BRACK : goal.array-shape_of-out-then-next-eq-R_BRACK
unfolding choose has rule sight
array-shape_of-out-then-next-eq-R_BRACK t c =
    let entered =
    Steps.known (expression ▸ goto array_first) c.requires.stands refl (λ xs t. simp (ne_eqb _ R_BRACK c.if-c-eq-R_BRACK.false)) (let x0 = c.args in Steps.at x0.set x0.src.now x0.left (goto array) 0 x0.c x0.w x0.out.now) in
    let first =
    Steps.took c.expr.ensures c.in_ok-c1.was entered in
    let there =
    first.stands c.requires.stands in
    let listing =
    array_no_for there c.past_comma-next.ensures c.if-next-eq-FOR_KW.false first in
    let so_far =
    Steps.then listing c.loop-cur.invariant.0.seg in
    c.array_close-then-next-eq-R_BRACK.auto.out ∙ Steps.same so_far

pub array-shape_of-out-in_err-c3 : goal.array-shape_of-out-in_err-c3
unfolding choose has rule sight
array-shape_of-out-in_err-c3 t c =
    let entered =
    Steps.known (expression ▸ goto array_first) c.requires.stands refl (λ xs t. simp (ne_eqb _ R_BRACK c.if-c-eq-R_BRACK.false)) (let x0 = c.args in Steps.at x0.set x0.src.now x0.left (goto array) 0 x0.c x0.w x0.out.now) in
    let first =
    Steps.took c.expr.ensures c.in_ok-c1.was entered in
    let there =
    first.stands c.requires.stands in
    let listing =
    array_no_for there c.past_comma-next.ensures c.if-next-eq-FOR_KW.false first in
    let so_far =
    Steps.then listing c.loop-cur.invariant.0.seg in
    c.expr-in-loop-cur.auto.out ∙ Steps.same so_far

pub assert-expr-requires : goal.assert-expr-requires
assert-expr-requires t c =
    let begun : ((let x0 = c.args in Seg x0.set x0.src.now x0.left (state (goto assertion) 0 x0.c x0.w x0.out.now) 0 0 (state (eat ASSERT_KW ▸ goto condition) 0 c.args.c c.args.w c.args.out.now))) =
    let x = c.args in Steps.known (eat ASSERT_KW ▸ goto condition) c.requires.stands refl (λ xs t. asserts_on x.set x.c xs 0 x.c.kind t) (let x0 = c.args in Steps.at x0.set x0.src.now x0.left (goto assertion) 0 x0.c x0.w x0.out.now) in
    let from : (ℕ) =
    c.in_ok-c1.field-0.0.start in
    let opened : ((let x0 = c.args in Seg x0.set x0.src.now x0.left (state (goto assertion) 0 x0.c x0.w x0.out.now) 1 0 (state (expression ▸ goto (asserted from)) 0 c.in_ok-c1.field-0.0 c.in_ok-c1.field-0.1 c.args.out.now))) =
    let c₁ = c.in_ok-c1.field-0.0 in
    let past = Steps.ate c.eat.ensures c.in_ok-c1.was begun in
    Steps.known (expression ▸ goto (asserted from)) (past.stands c.requires.stands) refl (λ xs t. conditions c.args.set c₁ xs 0 c₁.kind t) past in
    (omega (arith, c.decreases), Steps.ready c.requires (lit≤ tt) opened)

pub assert-eat_any-requires : goal.assert-eat_any-requires
assert-eat_any-requires t c =
    let from : (ℕ) =
    c.in_ok-c1.field-0.0.start in
    let begun : ((let x0 = c.args in Seg x0.set x0.src.now x0.left (state (goto assertion) 0 x0.c x0.w x0.out.now) 0 0 (state (eat ASSERT_KW ▸ goto condition) 0 c.args.c c.args.w c.args.out.now))) =
    let x = c.args in Steps.known (eat ASSERT_KW ▸ goto condition) c.requires.stands refl (λ xs t. asserts_on x.set x.c xs 0 x.c.kind t) (let x0 = c.args in Steps.at x0.set x0.src.now x0.left (goto assertion) 0 x0.c x0.w x0.out.now) in
    let opened : ((let x0 = c.args in Seg x0.set x0.src.now x0.left (state (goto assertion) 0 x0.c x0.w x0.out.now) 1 0 (state (expression ▸ goto (asserted from)) 0 c.in_ok-c1.field-0.0 c.in_ok-c1.field-0.1 c.args.out.now))) =
    let c₁ = c.in_ok-c1.field-0.0 in
    let past = Steps.ate c.eat.ensures c.in_ok-c1.was begun in
    Steps.known (expression ▸ goto (asserted from)) (past.stands c.requires.stands) refl (λ xs t. conditions c.args.set c₁ xs 0 c₁.kind t) past in
    let judged : ((let x0 = c.args in Seg x0.set x0.src.now x0.left (state (goto assertion) 0 x0.c x0.w x0.out.now) 1 0 (state (goto (asserted from)) 1 c.in_ok-c2.field-0.0 c.in_ok-c2.field-0.1 c.expr.new.out))) =
    Steps.took c.expr.ensures c.in_ok-c2.was opened in
    let there : (Stands c.args.src.now c.in_ok-c2.field-0.0) =
    judged.stands c.requires.stands in
    there

pub assert-expr-requires-2 : goal.assert-expr-requires-2
assert-expr-requires-2 t c =
    let from : (ℕ) =
    c.in_ok-c1.field-0.0.start in
    let begun : ((let x0 = c.args in Seg x0.set x0.src.now x0.left (state (goto assertion) 0 x0.c x0.w x0.out.now) 0 0 (state (eat ASSERT_KW ▸ goto condition) 0 c.args.c c.args.w c.args.out.now))) =
    let x = c.args in Steps.known (eat ASSERT_KW ▸ goto condition) c.requires.stands refl (λ xs t. asserts_on x.set x.c xs 0 x.c.kind t) (let x0 = c.args in Steps.at x0.set x0.src.now x0.left (goto assertion) 0 x0.c x0.w x0.out.now) in
    let opened : ((let x0 = c.args in Seg x0.set x0.src.now x0.left (state (goto assertion) 0 x0.c x0.w x0.out.now) 1 0 (state (expression ▸ goto (asserted from)) 0 c.in_ok-c1.field-0.0 c.in_ok-c1.field-0.1 c.args.out.now))) =
    let c₁ = c.in_ok-c1.field-0.0 in
    let past = Steps.ate c.eat.ensures c.in_ok-c1.was begun in
    Steps.known (expression ▸ goto (asserted from)) (past.stands c.requires.stands) refl (λ xs t. conditions c.args.set c₁ xs 0 c₁.kind t) past in
    let judged : ((let x0 = c.args in Seg x0.set x0.src.now x0.left (state (goto assertion) 0 x0.c x0.w x0.out.now) 1 0 (state (goto (asserted from)) 1 c.in_ok-c2.field-0.0 c.in_ok-c2.field-0.1 c.expr.new.out))) =
    Steps.took c.expr.ensures c.in_ok-c2.was opened in
    let there : (Stands c.args.src.now c.in_ok-c2.field-0.0) =
    judged.stands c.requires.stands in
    let past : ((let x0 = c.args in Seg x0.set x0.src.now x0.left (state (goto assertion) 0 x0.c x0.w x0.out.now) 2 0 (state (expression ▸ (close ASSERT (span from c.in_ok-c2.field-0.0.at ∷ byte 1 ∷ []) ▸ end)) 1 c.eat_any.result c.in_ok-c2.field-0.1 c.expr.new.out))) =
    let colon = c.if-c2-ne-COLON.false in
    Steps.taken (lit< tt) there c.eat_any.ensures colon
    (Steps.known (eat COLON ▸ expression ▸ (close ASSERT (span from c.in_ok-c2.field-0.0.at ∷ byte 1 ∷ []) ▸ end)) there colon (λ xs t. with_message c.args.set c.in_ok-c2.field-0.0 xs 1 from t) judged) in
    (omega (arith, c.decreases), Steps.ready c.requires (lit≤ tt) past)

pub assert-put_marked-w3-requires : goal.assert-put_marked-w3-requires
assert-put_marked-w3-requires t c =
    let from : (ℕ) =
    c.in_ok-c1.field-0.0.start in
    let begun : ((let x0 = c.args in Seg x0.set x0.src.now x0.left (state (goto assertion) 0 x0.c x0.w x0.out.now) 0 0 (state (eat ASSERT_KW ▸ goto condition) 0 c.args.c c.args.w c.args.out.now))) =
    let x = c.args in Steps.known (eat ASSERT_KW ▸ goto condition) c.requires.stands refl (λ xs t. asserts_on x.set x.c xs 0 x.c.kind t) (let x0 = c.args in Steps.at x0.set x0.src.now x0.left (goto assertion) 0 x0.c x0.w x0.out.now) in
    let opened : ((let x0 = c.args in Seg x0.set x0.src.now x0.left (state (goto assertion) 0 x0.c x0.w x0.out.now) 1 0 (state (expression ▸ goto (asserted from)) 0 c.in_ok-c1.field-0.0 c.in_ok-c1.field-0.1 c.args.out.now))) =
    let c₁ = c.in_ok-c1.field-0.0 in
    let past = Steps.ate c.eat.ensures c.in_ok-c1.was begun in
    Steps.known (expression ▸ goto (asserted from)) (past.stands c.requires.stands) refl (λ xs t. conditions c.args.set c₁ xs 0 c₁.kind t) past in
    let judged : ((let x0 = c.args in Seg x0.set x0.src.now x0.left (state (goto assertion) 0 x0.c x0.w x0.out.now) 1 0 (state (goto (asserted from)) 1 c.in_ok-c2.field-0.0 c.in_ok-c2.field-0.1 c.expr.new.out))) =
    Steps.took c.expr.ensures c.in_ok-c2.was opened in
    let there : (Stands c.args.src.now c.in_ok-c2.field-0.0) =
    judged.stands c.requires.stands in
    let short : ((from < 65536) × (c.in_ok-c2.field-0.0.at < 65536)) =
    let p = c.requires in ((within (Steps.ready p (lit≤ tt) opened)).0, place p there) in
    (Steps.fits c.requires (lit≤ tt) judged, short.0, short.1)

pub assert-put_marked-w4-requires : goal.assert-put_marked-w4-requires
assert-put_marked-w4-requires t c =
    let from : (ℕ) =
    c.in_ok-c1.field-0.0.start in
    let begun : ((let x0 = c.args in Seg x0.set x0.src.now x0.left (state (goto assertion) 0 x0.c x0.w x0.out.now) 0 0 (state (eat ASSERT_KW ▸ goto condition) 0 c.args.c c.args.w c.args.out.now))) =
    let x = c.args in Steps.known (eat ASSERT_KW ▸ goto condition) c.requires.stands refl (λ xs t. asserts_on x.set x.c xs 0 x.c.kind t) (let x0 = c.args in Steps.at x0.set x0.src.now x0.left (goto assertion) 0 x0.c x0.w x0.out.now) in
    let opened : ((let x0 = c.args in Seg x0.set x0.src.now x0.left (state (goto assertion) 0 x0.c x0.w x0.out.now) 1 0 (state (expression ▸ goto (asserted from)) 0 c.in_ok-c1.field-0.0 c.in_ok-c1.field-0.1 c.args.out.now))) =
    let c₁ = c.in_ok-c1.field-0.0 in
    let past = Steps.ate c.eat.ensures c.in_ok-c1.was begun in
    Steps.known (expression ▸ goto (asserted from)) (past.stands c.requires.stands) refl (λ xs t. conditions c.args.set c₁ xs 0 c₁.kind t) past in
    let judged : ((let x0 = c.args in Seg x0.set x0.src.now x0.left (state (goto assertion) 0 x0.c x0.w x0.out.now) 1 0 (state (goto (asserted from)) 1 c.in_ok-c2.field-0.0 c.in_ok-c2.field-0.1 c.expr.new.out))) =
    Steps.took c.expr.ensures c.in_ok-c2.was opened in
    let there : (Stands c.args.src.now c.in_ok-c2.field-0.0) =
    judged.stands c.requires.stands in
    let past : ((let x0 = c.args in Seg x0.set x0.src.now x0.left (state (goto assertion) 0 x0.c x0.w x0.out.now) 2 0 (state (expression ▸ (close ASSERT (span from c.in_ok-c2.field-0.0.at ∷ byte 1 ∷ []) ▸ end)) 1 c.eat_any.result c.in_ok-c2.field-0.1 c.expr.new.out))) =
    let colon = c.if-c2-ne-COLON.false in
    Steps.taken (lit< tt) there c.eat_any.ensures colon
    (Steps.known (eat COLON ▸ expression ▸ (close ASSERT (span from c.in_ok-c2.field-0.0.at ∷ byte 1 ∷ []) ▸ end)) there colon (λ xs t. with_message c.args.set c.in_ok-c2.field-0.0 xs 1 from t) judged) in
    let valued : ((let x0 = c.args in Seg x0.set x0.src.now x0.left (state (goto assertion) 0 x0.c x0.w x0.out.now) 2 0 (state ((close ASSERT (span from c.in_ok-c2.field-0.0.at ∷ byte 1 ∷ []) ▸ end)) 2 c.in_ok-c3.field-0.0 c.in_ok-c3.field-0.1 c.expr-2.new.out))) =
    Steps.took c.expr-2.ensures c.in_ok-c3.was past in
    let short : ((from < 65536) × (c.in_ok-c2.field-0.0.at < 65536)) =
    let p = c.requires in ((within (Steps.ready p (lit≤ tt) opened)).0, place p there) in
    (Steps.fits c.requires (lit≤ tt) valued, short.0, short.1)

pub assert-returns-in_err-c1 : goal.assert-returns-in_err-c1
assert-returns-in_err-c1 t c =
    let begun : ((let x0 = c.args in Seg x0.set x0.src.now x0.left (state (goto assertion) 0 x0.c x0.w x0.out.now) 0 0 (state (eat ASSERT_KW ▸ goto condition) 0 c.args.c c.args.w c.args.out.now))) =
    let x = c.args in Steps.known (eat ASSERT_KW ▸ goto condition) c.requires.stands refl (λ xs t. asserts_on x.set x.c xs 0 x.c.kind t) (let x0 = c.args in Steps.at x0.set x0.src.now x0.left (goto assertion) 0 x0.c x0.w x0.out.now) in
    Steps.as_sub (Steps.passed (Steps.eats_broken c.eat.ensures c.in_err-c1.was (Steps.handed c.from_residual.ensures)) begun)

pub assert-returns-in_err-c2 : goal.assert-returns-in_err-c2
assert-returns-in_err-c2 t c =
    let begun : ((let x0 = c.args in Seg x0.set x0.src.now x0.left (state (goto assertion) 0 x0.c x0.w x0.out.now) 0 0 (state (eat ASSERT_KW ▸ goto condition) 0 c.args.c c.args.w c.args.out.now))) =
    let x = c.args in Steps.known (eat ASSERT_KW ▸ goto condition) c.requires.stands refl (λ xs t. asserts_on x.set x.c xs 0 x.c.kind t) (let x0 = c.args in Steps.at x0.set x0.src.now x0.left (goto assertion) 0 x0.c x0.w x0.out.now) in
    let from : (ℕ) =
    c.in_ok-c1.field-0.0.start in
    let opened : ((let x0 = c.args in Seg x0.set x0.src.now x0.left (state (goto assertion) 0 x0.c x0.w x0.out.now) 1 0 (state (expression ▸ goto (asserted from)) 0 c.in_ok-c1.field-0.0 c.in_ok-c1.field-0.1 c.args.out.now))) =
    let c₁ = c.in_ok-c1.field-0.0 in
    let past = Steps.ate c.eat.ensures c.in_ok-c1.was begun in
    Steps.known (expression ▸ goto (asserted from)) (past.stands c.requires.stands) refl (λ xs t. conditions c.args.set c₁ xs 0 c₁.kind t) past in
    Steps.as_sub (Steps.passed (Steps.takes_broken c.expr.ensures c.in_err-c2.was (Steps.handed c.from_residual-in_err-c2.ensures)) opened)

pub assert-returns-then-c2-ne-COLON : goal.assert-returns-then-c2-ne-COLON
unfolding entry payload
assert-returns-then-c2-ne-COLON t c =
    let from : (ℕ) =
    c.in_ok-c1.field-0.0.start in
    let begun : ((let x0 = c.args in Seg x0.set x0.src.now x0.left (state (goto assertion) 0 x0.c x0.w x0.out.now) 0 0 (state (eat ASSERT_KW ▸ goto condition) 0 c.args.c c.args.w c.args.out.now))) =
    let x = c.args in Steps.known (eat ASSERT_KW ▸ goto condition) c.requires.stands refl (λ xs t. asserts_on x.set x.c xs 0 x.c.kind t) (let x0 = c.args in Steps.at x0.set x0.src.now x0.left (goto assertion) 0 x0.c x0.w x0.out.now) in
    let opened : ((let x0 = c.args in Seg x0.set x0.src.now x0.left (state (goto assertion) 0 x0.c x0.w x0.out.now) 1 0 (state (expression ▸ goto (asserted from)) 0 c.in_ok-c1.field-0.0 c.in_ok-c1.field-0.1 c.args.out.now))) =
    let c₁ = c.in_ok-c1.field-0.0 in
    let past = Steps.ate c.eat.ensures c.in_ok-c1.was begun in
    Steps.known (expression ▸ goto (asserted from)) (past.stands c.requires.stands) refl (λ xs t. conditions c.args.set c₁ xs 0 c₁.kind t) past in
    let judged : ((let x0 = c.args in Seg x0.set x0.src.now x0.left (state (goto assertion) 0 x0.c x0.w x0.out.now) 1 0 (state (goto (asserted from)) 1 c.in_ok-c2.field-0.0 c.in_ok-c2.field-0.1 c.expr.new.out))) =
    Steps.took c.expr.ensures c.in_ok-c2.was opened in
    let there : (Stands c.args.src.now c.in_ok-c2.field-0.0) =
    judged.stands c.requires.stands in
    let c₂ = c.in_ok-c2.field-0.0 in
    let bare = Steps.known ((close ASSERT (span from c.in_ok-c2.field-0.0.at ∷ byte 0 ∷ []) ▸ end)) there refl (λ xs t. no_message c.args.set c₂ xs 1 _ c₂.kind t c.if-c2-ne-COLON.true) judged in
    Steps.as_sub (Steps.ends (lit≤ tt) (Steps.closed 8 (lit≤ tt) c.put_marked-w3.ensures bare))

pub assert-returns-in_err-c3 : goal.assert-returns-in_err-c3
assert-returns-in_err-c3 t c =
    let from : (ℕ) =
    c.in_ok-c1.field-0.0.start in
    let begun : ((let x0 = c.args in Seg x0.set x0.src.now x0.left (state (goto assertion) 0 x0.c x0.w x0.out.now) 0 0 (state (eat ASSERT_KW ▸ goto condition) 0 c.args.c c.args.w c.args.out.now))) =
    let x = c.args in Steps.known (eat ASSERT_KW ▸ goto condition) c.requires.stands refl (λ xs t. asserts_on x.set x.c xs 0 x.c.kind t) (let x0 = c.args in Steps.at x0.set x0.src.now x0.left (goto assertion) 0 x0.c x0.w x0.out.now) in
    let opened : ((let x0 = c.args in Seg x0.set x0.src.now x0.left (state (goto assertion) 0 x0.c x0.w x0.out.now) 1 0 (state (expression ▸ goto (asserted from)) 0 c.in_ok-c1.field-0.0 c.in_ok-c1.field-0.1 c.args.out.now))) =
    let c₁ = c.in_ok-c1.field-0.0 in
    let past = Steps.ate c.eat.ensures c.in_ok-c1.was begun in
    Steps.known (expression ▸ goto (asserted from)) (past.stands c.requires.stands) refl (λ xs t. conditions c.args.set c₁ xs 0 c₁.kind t) past in
    let judged : ((let x0 = c.args in Seg x0.set x0.src.now x0.left (state (goto assertion) 0 x0.c x0.w x0.out.now) 1 0 (state (goto (asserted from)) 1 c.in_ok-c2.field-0.0 c.in_ok-c2.field-0.1 c.expr.new.out))) =
    Steps.took c.expr.ensures c.in_ok-c2.was opened in
    let there : (Stands c.args.src.now c.in_ok-c2.field-0.0) =
    judged.stands c.requires.stands in
    let past : ((let x0 = c.args in Seg x0.set x0.src.now x0.left (state (goto assertion) 0 x0.c x0.w x0.out.now) 2 0 (state (expression ▸ (close ASSERT (span from c.in_ok-c2.field-0.0.at ∷ byte 1 ∷ []) ▸ end)) 1 c.eat_any.result c.in_ok-c2.field-0.1 c.expr.new.out))) =
    let colon = c.if-c2-ne-COLON.false in
    Steps.taken (lit< tt) there c.eat_any.ensures colon
    (Steps.known (eat COLON ▸ expression ▸ (close ASSERT (span from c.in_ok-c2.field-0.0.at ∷ byte 1 ∷ []) ▸ end)) there colon (λ xs t. with_message c.args.set c.in_ok-c2.field-0.0 xs 1 from t) judged) in
    Steps.as_sub (Steps.passed (Steps.takes_broken c.expr-2.ensures c.in_err-c3.was (Steps.handed c.from_residual-in_err-c3.ensures)) past)

pub assert-returns : goal.assert-returns
unfolding entry payload
assert-returns t c =
    let from : (ℕ) =
    c.in_ok-c1.field-0.0.start in
    let begun : ((let x0 = c.args in Seg x0.set x0.src.now x0.left (state (goto assertion) 0 x0.c x0.w x0.out.now) 0 0 (state (eat ASSERT_KW ▸ goto condition) 0 c.args.c c.args.w c.args.out.now))) =
    let x = c.args in Steps.known (eat ASSERT_KW ▸ goto condition) c.requires.stands refl (λ xs t. asserts_on x.set x.c xs 0 x.c.kind t) (let x0 = c.args in Steps.at x0.set x0.src.now x0.left (goto assertion) 0 x0.c x0.w x0.out.now) in
    let opened : ((let x0 = c.args in Seg x0.set x0.src.now x0.left (state (goto assertion) 0 x0.c x0.w x0.out.now) 1 0 (state (expression ▸ goto (asserted from)) 0 c.in_ok-c1.field-0.0 c.in_ok-c1.field-0.1 c.args.out.now))) =
    let c₁ = c.in_ok-c1.field-0.0 in
    let past = Steps.ate c.eat.ensures c.in_ok-c1.was begun in
    Steps.known (expression ▸ goto (asserted from)) (past.stands c.requires.stands) refl (λ xs t. conditions c.args.set c₁ xs 0 c₁.kind t) past in
    let judged : ((let x0 = c.args in Seg x0.set x0.src.now x0.left (state (goto assertion) 0 x0.c x0.w x0.out.now) 1 0 (state (goto (asserted from)) 1 c.in_ok-c2.field-0.0 c.in_ok-c2.field-0.1 c.expr.new.out))) =
    Steps.took c.expr.ensures c.in_ok-c2.was opened in
    let there : (Stands c.args.src.now c.in_ok-c2.field-0.0) =
    judged.stands c.requires.stands in
    let past : ((let x0 = c.args in Seg x0.set x0.src.now x0.left (state (goto assertion) 0 x0.c x0.w x0.out.now) 2 0 (state (expression ▸ (close ASSERT (span from c.in_ok-c2.field-0.0.at ∷ byte 1 ∷ []) ▸ end)) 1 c.eat_any.result c.in_ok-c2.field-0.1 c.expr.new.out))) =
    let colon = c.if-c2-ne-COLON.false in
    Steps.taken (lit< tt) there c.eat_any.ensures colon
    (Steps.known (eat COLON ▸ expression ▸ (close ASSERT (span from c.in_ok-c2.field-0.0.at ∷ byte 1 ∷ []) ▸ end)) there colon (λ xs t. with_message c.args.set c.in_ok-c2.field-0.0 xs 1 from t) judged) in
    let valued : ((let x0 = c.args in Seg x0.set x0.src.now x0.left (state (goto assertion) 0 x0.c x0.w x0.out.now) 2 0 (state ((close ASSERT (span from c.in_ok-c2.field-0.0.at ∷ byte 1 ∷ []) ▸ end)) 2 c.in_ok-c3.field-0.0 c.in_ok-c3.field-0.1 c.expr-2.new.out))) =
    Steps.took c.expr-2.ensures c.in_ok-c3.was past in
    Steps.as_sub (Steps.ends (lit≤ tt) (Steps.closed 8 (lit≤ tt) c.put_marked-w4.ensures valued))

pub assert-shape_of-out : goal.assert-shape_of-out
assert-shape_of-out t c =
    let from : (ℕ) =
    c.in_ok-c1.field-0.0.start in
    let begun : ((let x0 = c.args in Seg x0.set x0.src.now x0.left (state (goto assertion) 0 x0.c x0.w x0.out.now) 0 0 (state (eat ASSERT_KW ▸ goto condition) 0 c.args.c c.args.w c.args.out.now))) =
    let x = c.args in Steps.known (eat ASSERT_KW ▸ goto condition) c.requires.stands refl (λ xs t. asserts_on x.set x.c xs 0 x.c.kind t) (let x0 = c.args in Steps.at x0.set x0.src.now x0.left (goto assertion) 0 x0.c x0.w x0.out.now) in
    let opened : ((let x0 = c.args in Seg x0.set x0.src.now x0.left (state (goto assertion) 0 x0.c x0.w x0.out.now) 1 0 (state (expression ▸ goto (asserted from)) 0 c.in_ok-c1.field-0.0 c.in_ok-c1.field-0.1 c.args.out.now))) =
    let c₁ = c.in_ok-c1.field-0.0 in
    let past = Steps.ate c.eat.ensures c.in_ok-c1.was begun in
    Steps.known (expression ▸ goto (asserted from)) (past.stands c.requires.stands) refl (λ xs t. conditions c.args.set c₁ xs 0 c₁.kind t) past in
    let judged : ((let x0 = c.args in Seg x0.set x0.src.now x0.left (state (goto assertion) 0 x0.c x0.w x0.out.now) 1 0 (state (goto (asserted from)) 1 c.in_ok-c2.field-0.0 c.in_ok-c2.field-0.1 c.expr.new.out))) =
    Steps.took c.expr.ensures c.in_ok-c2.was opened in
    let there : (Stands c.args.src.now c.in_ok-c2.field-0.0) =
    judged.stands c.requires.stands in
    let past : ((let x0 = c.args in Seg x0.set x0.src.now x0.left (state (goto assertion) 0 x0.c x0.w x0.out.now) 2 0 (state (expression ▸ (close ASSERT (span from c.in_ok-c2.field-0.0.at ∷ byte 1 ∷ []) ▸ end)) 1 c.eat_any.result c.in_ok-c2.field-0.1 c.expr.new.out))) =
    let colon = c.if-c2-ne-COLON.false in
    Steps.taken (lit< tt) there c.eat_any.ensures colon
    (Steps.known (eat COLON ▸ expression ▸ (close ASSERT (span from c.in_ok-c2.field-0.0.at ∷ byte 1 ∷ []) ▸ end)) there colon (λ xs t. with_message c.args.set c.in_ok-c2.field-0.0 xs 1 from t) judged) in
    let valued : ((let x0 = c.args in Seg x0.set x0.src.now x0.left (state (goto assertion) 0 x0.c x0.w x0.out.now) 2 0 (state ((close ASSERT (span from c.in_ok-c2.field-0.0.at ∷ byte 1 ∷ []) ▸ end)) 2 c.in_ok-c3.field-0.0 c.in_ok-c3.field-0.1 c.expr-2.new.out))) =
    Steps.took c.expr-2.ensures c.in_ok-c3.was past in
    omega (arith, Steps.same valued, c.put_marked-w4.auto)

pub basic-expr-requires : goal.basic-expr-requires
basic-expr-requires t c =
    let paren : ((let x0 = c.args in (let x0 = c.args in Seg x0.set x0.src.now x0.left (state (goto basic) 0 x0.c x0.w x0.out.now) 1 0 (state (expression ▸ eat R_PAREN ▸ end) 0 c.eat_any.result x0.w x0.out.now)))) =
    (let st = c.requires.stands in Steps.taken (lit< tt) st c.eat_any.ensures c.in-25.is (Steps.known (eat _ ▸ (expression ▸ eat R_PAREN ▸ end)) st c.in-25.is (λ xs t. a_paren _ _ xs 0 t) (let x0 = c.args in (let x0 = c.args in Steps.at x0.set x0.src.now x0.left (goto basic) 0 x0.c x0.w x0.out.now)))) in
    (omega (arith, c.decreases), Steps.ready c.requires (lit≤ tt) paren)

pub basic-array-requires : goal.basic-array-requires
basic-array-requires t c =
    let bracket : ((let x0 = c.args in (let x0 = c.args in Seg x0.set x0.src.now x0.left (state (goto basic) 0 x0.c x0.w x0.out.now) 1 0 (state (goto array) 0 c.eat_any-in-23.result x0.w x0.out.now)))) =
    (let st = c.requires.stands in Steps.taken (lit< tt) st c.eat_any-in-23.ensures c.in-23.is (Steps.known (eat _ ▸ (goto array)) st c.in-23.is (λ xs t. an_array _ _ xs 0 t) (let x0 = c.args in (let x0 = c.args in Steps.at x0.set x0.src.now x0.left (goto basic) 0 x0.c x0.w x0.out.now)))) in
    (omega (arith, c.decreases), Steps.ready c.requires (lit≤ tt) bracket)

pub basic-inside-requires : goal.basic-inside-requires
basic-inside-requires t c =
    let brace : ((let x0 = c.args in (let x0 = c.args in Seg x0.set x0.src.now x0.left (state (goto basic) 0 x0.c x0.w x0.out.now) 1 0 (state (sub inside ▸ eat R_BRACE ▸ end) 0 c.eat_any-in-27.result x0.w x0.out.now)))) =
    (let st = c.requires.stands in Steps.taken (lit< tt) st c.eat_any-in-27.ensures c.in-27.is (Steps.known (eat _ ▸ (sub inside ▸ eat R_BRACE ▸ end)) st c.in-27.is (λ xs t. an_object _ _ xs 0 t) (let x0 = c.args in (let x0 = c.args in Steps.at x0.set x0.src.now x0.left (goto basic) 0 x0.c x0.w x0.out.now)))) in
    (omega (arith, c.decreases), Steps.ready c.requires (lit≤ tt) brace)

pub basic-local-requires : goal.basic-local-requires
basic-local-requires t c =
    let binding : ((let x0 = c.args in (let x0 = c.args in Seg x0.set x0.src.now x0.left (state (goto basic) 0 x0.c x0.w x0.out.now) 1 0 (state (goto binds) 0 c.eat_any-in-67.result x0.w x0.out.now)))) =
    (let st = c.requires.stands in Steps.taken (lit< tt) st c.eat_any-in-67.ensures c.in-67.is (Steps.known (eat _ ▸ (goto binds)) st c.in-67.is (λ xs t. a_local _ _ xs 0 t) (let x0 = c.args in (let x0 = c.args in Steps.at x0.set x0.src.now x0.left (goto basic) 0 x0.c x0.w x0.out.now)))) in
    (omega (arith, c.decreases), Steps.ready c.requires (lit≤ tt) binding)

pub basic-expr-requires-in-75 : goal.basic-expr-requires-in-75
basic-expr-requires-in-75 t c =
    let record_of : (Body) =
    let x = c.args in close ERROR (span x.c.start x.c.end ∷ []) ▸ end in
    let raising : ((let x0 = c.args in (let x0 = c.args in Seg x0.set x0.src.now x0.left (state (goto basic) 0 x0.c x0.w x0.out.now) 1 0 (state (expression ▸ record_of) 0 c.eat_any-in-75.result x0.w x0.out.now)))) =
    (let st = c.requires.stands in Steps.taken (lit< tt) st c.eat_any-in-75.ensures c.in-75.is (Steps.known (eat _ ▸ (expression ▸ record_of)) st c.in-75.is (λ xs t. an_error _ _ xs 0 t) (let x0 = c.args in (let x0 = c.args in Steps.at x0.set x0.src.now x0.left (goto basic) 0 x0.c x0.w x0.out.now)))) in
    (omega (arith, c.decreases), Steps.ready c.requires (lit≤ tt) raising)

pub basic-eat-requires : goal.basic-eat-requires
basic-eat-requires t c =
    let paren : ((let x0 = c.args in (let x0 = c.args in Seg x0.set x0.src.now x0.left (state (goto basic) 0 x0.c x0.w x0.out.now) 1 0 (state (expression ▸ eat R_PAREN ▸ end) 0 c.eat_any.result x0.w x0.out.now)))) =
    (let st = c.requires.stands in Steps.taken (lit< tt) st c.eat_any.ensures c.in-25.is (Steps.known (eat _ ▸ (expression ▸ eat R_PAREN ▸ end)) st c.in-25.is (λ xs t. a_paren _ _ xs 0 t) (let x0 = c.args in (let x0 = c.args in Steps.at x0.set x0.src.now x0.left (goto basic) 0 x0.c x0.w x0.out.now)))) in
    let parened : ((let x0 = c.args in Seg x0.set x0.src.now x0.left (state (goto basic) 0 x0.c x0.w x0.out.now) 1 0 (state (eat R_PAREN ▸ end) 1 c.in_ok-c1-in-25.field-0.0 c.in_ok-c1-in-25.field-0.1 c.expr.new.out))) =
    Steps.took c.expr.ensures c.in_ok-c1-in-25.was paren in
    (lit< tt, parened.stands c.requires.stands)

pub basic-eat-requires-in-27 : goal.basic-eat-requires-in-27
basic-eat-requires-in-27 t c =
    let brace : ((let x0 = c.args in (let x0 = c.args in Seg x0.set x0.src.now x0.left (state (goto basic) 0 x0.c x0.w x0.out.now) 1 0 (state (sub inside ▸ eat R_BRACE ▸ end) 0 c.eat_any-in-27.result x0.w x0.out.now)))) =
    (let st = c.requires.stands in Steps.taken (lit< tt) st c.eat_any-in-27.ensures c.in-27.is (Steps.known (eat _ ▸ (sub inside ▸ eat R_BRACE ▸ end)) st c.in-27.is (λ xs t. an_object _ _ xs 0 t) (let x0 = c.args in (let x0 = c.args in Steps.at x0.set x0.src.now x0.left (goto basic) 0 x0.c x0.w x0.out.now)))) in
    let braced : ((let x0 = c.args in Seg x0.set x0.src.now x0.left (state (goto basic) 0 x0.c x0.w x0.out.now) 1 7 (state (eat R_BRACE ▸ end) 1 c.in_ok-c2-in-27.field-0.0 c.in_ok-c2-in-27.field-0.1 c.inside.new.out))) =
    Steps.took_owing c.inside.ensures c.in_ok-c2-in-27.was brace in
    (lit< tt, braced.stands c.requires.stands)

pub basic-put_mark-w2-requires : goal.basic-put_mark-w2-requires
basic-put_mark-w2-requires t c =
    let record_of : (Body) =
    let x = c.args in close ERROR (span x.c.start x.c.end ∷ []) ▸ end in
    let raising : ((let x0 = c.args in (let x0 = c.args in Seg x0.set x0.src.now x0.left (state (goto basic) 0 x0.c x0.w x0.out.now) 1 0 (state (expression ▸ record_of) 0 c.eat_any-in-75.result x0.w x0.out.now)))) =
    (let st = c.requires.stands in Steps.taken (lit< tt) st c.eat_any-in-75.ensures c.in-75.is (Steps.known (eat _ ▸ (expression ▸ record_of)) st c.in-75.is (λ xs t. an_error _ _ xs 0 t) (let x0 = c.args in (let x0 = c.args in Steps.at x0.set x0.src.now x0.left (goto basic) 0 x0.c x0.w x0.out.now)))) in
    let raised : ((let x0 = c.args in Seg x0.set x0.src.now x0.left (state (goto basic) 0 x0.c x0.w x0.out.now) 1 0 (state record_of 1 c.in_ok-c3-in-75.field-0.0 c.in_ok-c3-in-75.field-0.1 c.expr-in-75.new.out))) =
    Steps.took c.expr-in-75.ensures c.in_ok-c3-in-75.was raising in
    let p = c.requires in (Steps.fits p (lit≤ tt) raised, (within p).0, (within p).1)

pub basic-load-requires : goal.basic-load-requires
basic-load-requires t c =
    (omega (arith, c.decreases), (c.requires, imports_at c.in-68.is string))

pub basic-load-requires-in-69 : goal.basic-load-requires-in-69
basic-load-requires-in-69 t c =
    (omega (arith, c.decreases), (c.requires, imports_at c.in-69.is binary))

pub basic-load-requires-in-70 : goal.basic-load-requires-in-70
basic-load-requires-in-70 t c =
    (omega (arith, c.decreases), (c.requires, imports_at c.in-70.is normal))

pub basic-returns-in_err-c1-in-25 : goal.basic-returns-in_err-c1-in-25
basic-returns-in_err-c1-in-25 t c =
    let paren : ((let x0 = c.args in (let x0 = c.args in Seg x0.set x0.src.now x0.left (state (goto basic) 0 x0.c x0.w x0.out.now) 1 0 (state (expression ▸ eat R_PAREN ▸ end) 0 c.eat_any.result x0.w x0.out.now)))) =
    (let st = c.requires.stands in Steps.taken (lit< tt) st c.eat_any.ensures c.in-25.is (Steps.known (eat _ ▸ (expression ▸ eat R_PAREN ▸ end)) st c.in-25.is (λ xs t. a_paren _ _ xs 0 t) (let x0 = c.args in (let x0 = c.args in Steps.at x0.set x0.src.now x0.left (goto basic) 0 x0.c x0.w x0.out.now)))) in
    Steps.as_sub (Steps.passed (Steps.takes_broken c.expr.ensures c.in_err-c1-in-25.was (Steps.handed c.from_residual.ensures)) paren)

pub basic-returns-in_err-c2-in-27 : goal.basic-returns-in_err-c2-in-27
basic-returns-in_err-c2-in-27 t c =
    let brace : ((let x0 = c.args in (let x0 = c.args in Seg x0.set x0.src.now x0.left (state (goto basic) 0 x0.c x0.w x0.out.now) 1 0 (state (sub inside ▸ eat R_BRACE ▸ end) 0 c.eat_any-in-27.result x0.w x0.out.now)))) =
    (let st = c.requires.stands in Steps.taken (lit< tt) st c.eat_any-in-27.ensures c.in-27.is (Steps.known (eat _ ▸ (sub inside ▸ eat R_BRACE ▸ end)) st c.in-27.is (λ xs t. an_object _ _ xs 0 t) (let x0 = c.args in (let x0 = c.args in Steps.at x0.set x0.src.now x0.left (goto basic) 0 x0.c x0.w x0.out.now)))) in
    Steps.as_sub (Steps.passed (Steps.takes_broken c.inside.ensures c.in_err-c2-in-27.was (Steps.handed c.from_residual-in_err-c2-in-27.ensures)) brace)

pub basic-returns-in_err-c3-in-75 : goal.basic-returns-in_err-c3-in-75
basic-returns-in_err-c3-in-75 t c =
    let record_of : (Body) =
    let x = c.args in close ERROR (span x.c.start x.c.end ∷ []) ▸ end in
    let raising : ((let x0 = c.args in (let x0 = c.args in Seg x0.set x0.src.now x0.left (state (goto basic) 0 x0.c x0.w x0.out.now) 1 0 (state (expression ▸ record_of) 0 c.eat_any-in-75.result x0.w x0.out.now)))) =
    (let st = c.requires.stands in Steps.taken (lit< tt) st c.eat_any-in-75.ensures c.in-75.is (Steps.known (eat _ ▸ (expression ▸ record_of)) st c.in-75.is (λ xs t. an_error _ _ xs 0 t) (let x0 = c.args in (let x0 = c.args in Steps.at x0.set x0.src.now x0.left (goto basic) 0 x0.c x0.w x0.out.now)))) in
    Steps.as_sub (Steps.passed (Steps.takes_broken c.expr-in-75.ensures c.in_err-c3-in-75.was (Steps.handed c.from_residual-in_err-c3-in-75.ensures)) raising)

pub basic-returns-in_ok-c1-in-25 : goal.basic-returns-in_ok-c1-in-25
basic-returns-in_ok-c1-in-25 t c =
    let paren : ((let x0 = c.args in (let x0 = c.args in Seg x0.set x0.src.now x0.left (state (goto basic) 0 x0.c x0.w x0.out.now) 1 0 (state (expression ▸ eat R_PAREN ▸ end) 0 c.eat_any.result x0.w x0.out.now)))) =
    (let st = c.requires.stands in Steps.taken (lit< tt) st c.eat_any.ensures c.in-25.is (Steps.known (eat _ ▸ (expression ▸ eat R_PAREN ▸ end)) st c.in-25.is (λ xs t. a_paren _ _ xs 0 t) (let x0 = c.args in (let x0 = c.args in Steps.at x0.set x0.src.now x0.left (goto basic) 0 x0.c x0.w x0.out.now)))) in
    let parened : ((let x0 = c.args in Seg x0.set x0.src.now x0.left (state (goto basic) 0 x0.c x0.w x0.out.now) 1 0 (state (eat R_PAREN ▸ end) 1 c.in_ok-c1-in-25.field-0.0 c.in_ok-c1-in-25.field-0.1 c.expr.new.out))) =
    Steps.took c.expr.ensures c.in_ok-c1-in-25.was paren in
    Steps.as_sub (Steps.eat_last c.eat.ensures (lit≤ tt) parened)

pub basic-returns-in-23 : goal.basic-returns-in-23
basic-returns-in-23 t c =
    let bracket : ((let x0 = c.args in (let x0 = c.args in Seg x0.set x0.src.now x0.left (state (goto basic) 0 x0.c x0.w x0.out.now) 1 0 (state (goto array) 0 c.eat_any-in-23.result x0.w x0.out.now)))) =
    (let st = c.requires.stands in Steps.taken (lit< tt) st c.eat_any-in-23.ensures c.in-23.is (Steps.known (eat _ ▸ (goto array)) st c.in-23.is (λ xs t. an_array _ _ xs 0 t) (let x0 = c.args in (let x0 = c.args in Steps.at x0.set x0.src.now x0.left (goto basic) 0 x0.c x0.w x0.out.now)))) in
    Steps.as_sub (Steps.tail (lit≤ tt) c.array.ensures bracket)

pub basic-returns-in_ok-c2-in-27 : goal.basic-returns-in_ok-c2-in-27
basic-returns-in_ok-c2-in-27 t c =
    let brace : ((let x0 = c.args in (let x0 = c.args in Seg x0.set x0.src.now x0.left (state (goto basic) 0 x0.c x0.w x0.out.now) 1 0 (state (sub inside ▸ eat R_BRACE ▸ end) 0 c.eat_any-in-27.result x0.w x0.out.now)))) =
    (let st = c.requires.stands in Steps.taken (lit< tt) st c.eat_any-in-27.ensures c.in-27.is (Steps.known (eat _ ▸ (sub inside ▸ eat R_BRACE ▸ end)) st c.in-27.is (λ xs t. an_object _ _ xs 0 t) (let x0 = c.args in (let x0 = c.args in Steps.at x0.set x0.src.now x0.left (goto basic) 0 x0.c x0.w x0.out.now)))) in
    let braced : ((let x0 = c.args in Seg x0.set x0.src.now x0.left (state (goto basic) 0 x0.c x0.w x0.out.now) 1 7 (state (eat R_BRACE ▸ end) 1 c.in_ok-c2-in-27.field-0.0 c.in_ok-c2-in-27.field-0.1 c.inside.new.out))) =
    Steps.took_owing c.inside.ensures c.in_ok-c2-in-27.was brace in
    Steps.as_sub (Steps.eat_last c.eat-in-27.ensures (lit≤ tt) braced)

pub basic-returns-in-67 : goal.basic-returns-in-67
basic-returns-in-67 t c =
    let binding : ((let x0 = c.args in (let x0 = c.args in Seg x0.set x0.src.now x0.left (state (goto basic) 0 x0.c x0.w x0.out.now) 1 0 (state (goto binds) 0 c.eat_any-in-67.result x0.w x0.out.now)))) =
    (let st = c.requires.stands in Steps.taken (lit< tt) st c.eat_any-in-67.ensures c.in-67.is (Steps.known (eat _ ▸ (goto binds)) st c.in-67.is (λ xs t. a_local _ _ xs 0 t) (let x0 = c.args in (let x0 = c.args in Steps.at x0.set x0.src.now x0.left (goto basic) 0 x0.c x0.w x0.out.now)))) in
    Steps.as_sub (Steps.tail (lit≤ tt) c.local.ensures binding)

pub basic-returns-in-71 : goal.basic-returns-in-71
basic-returns-in-71 t c =
    Steps.as_sub c.cond.ensures

pub basic-returns-in-74 : goal.basic-returns-in-74
basic-returns-in-74 t c =
    Steps.as_sub c.func.ensures

pub basic-returns-in-84 : goal.basic-returns-in-84
basic-returns-in-84 t c =
    Steps.as_sub c.claim.ensures

pub basic-returns-in_ok-c3-in-75 : goal.basic-returns-in_ok-c3-in-75
unfolding entry payload
basic-returns-in_ok-c3-in-75 t c =
    let record_of : (Body) =
    let x = c.args in close ERROR (span x.c.start x.c.end ∷ []) ▸ end in
    let raising : ((let x0 = c.args in (let x0 = c.args in Seg x0.set x0.src.now x0.left (state (goto basic) 0 x0.c x0.w x0.out.now) 1 0 (state (expression ▸ record_of) 0 c.eat_any-in-75.result x0.w x0.out.now)))) =
    (let st = c.requires.stands in Steps.taken (lit< tt) st c.eat_any-in-75.ensures c.in-75.is (Steps.known (eat _ ▸ (expression ▸ record_of)) st c.in-75.is (λ xs t. an_error _ _ xs 0 t) (let x0 = c.args in (let x0 = c.args in Steps.at x0.set x0.src.now x0.left (goto basic) 0 x0.c x0.w x0.out.now)))) in
    let raised : ((let x0 = c.args in Seg x0.set x0.src.now x0.left (state (goto basic) 0 x0.c x0.w x0.out.now) 1 0 (state record_of 1 c.in_ok-c3-in-75.field-0.0 c.in_ok-c3-in-75.field-0.1 c.expr-in-75.new.out))) =
    Steps.took c.expr-in-75.ensures c.in_ok-c3-in-75.was raising in
    Steps.as_sub (Steps.ends (lit≤ tt) (Steps.closed 7 (lit≤ tt) c.put_mark-w2.ensures raised))

pub basic-returns-in-68 : goal.basic-returns-in-68
basic-returns-in-68 t c =
    Steps.as_sub c.load.ensures

pub basic-returns-in-69 : goal.basic-returns-in-69
basic-returns-in-69 t c =
    Steps.as_sub c.load-in-69.ensures

pub basic-returns-in-70 : goal.basic-returns-in-70
basic-returns-in-70 t c =
    Steps.as_sub c.load-in-70.ensures

pub basic-returns-in_default : goal.basic-returns-in_default
basic-returns-in_default t c =
    Steps.as_sub (c.atom.ensures.ends _ _)

pub bind-rhs-requires : goal.bind-rhs-requires
unfolding choose has rule sight
bind-rhs-requires t c =
    let other =
    Steps.known (sub pattern ▸ bound 0 0) c.requires.stands refl (λ xs t. simp (ne_eqb _ IDENT c.if-c-ne-IDENT.true)) (let x0 = c.args in Steps.at x0.set x0.src.now x0.left (goto bind) 0 x0.c x0.w x0.out.now) in
    let into =
    Steps.took c.pat.ensures c.in_ok-c1.was other in
    (omega (arith, c.decreases), (Steps.ready c.requires (lit≤ tt) into, omega arith))

pub bind-slice_bounds-put_name-count : goal.bind-slice_bounds-put_name-count
bind-slice_bounds-put_name-count t c =
    (lies c.requires.stands).on

pub bind-slice_bounds-put_name-end : goal.bind-slice_bounds-put_name-end
bind-slice_bounds-put_name-end t c =
    (lies c.requires.stands).within

pub bind-put_name-w1-requires : goal.bind-put_name-w1-requires
bind-put_name-w1-requires t c =
    let p = c.requires in (fits p, (within p).0, (within p).1, omega (arith, bytes_short p))

pub bind-rhs-requires-then-c1-ne-L_PAREN : goal.bind-rhs-requires-then-c1-ne-L_PAREN
unfolding choose has rule said sight
bind-rhs-requires-then-c1-ne-L_PAREN t c =
    let named =
    let x = c.args in
    let from = x.c.start in
    let to = x.c.end in
    let st = c.requires.stands in
    let is = c.if-c-ne-IDENT.false in
    let written = wrote_lent NAME_PATTERN (λ (l : List ℕ). span from to ∷ text l ∷ []) x.src.now from to c.put_name-w1.ensures in
    Steps.leaved st c.eat_any-c1.ensures (omega (arith, is)) (name_size NAME_PATTERN st) written
    (Steps.called (leaf NAME_PATTERN (span from to ∷ text (slice from to x.src.now) ∷ []) ▸ goto bind_named) st is (λ xs. refl) (let x0 = c.args in Steps.at x0.set x0.src.now x0.left (goto bind) 0 x0.c x0.w x0.out.now)) in
    let plain =
    Steps.known (bound 0 0) c.eat_any-c1.ensures.stands refl (λ xs t. simp (ne_eqb _ L_PAREN c.if-c1-ne-L_PAREN.true)) named in
    (omega (arith, c.decreases), (Steps.ready c.requires (lit≤ tt) plain, omega arith))

pub bind-params-requires : goal.bind-params-requires
unfolding choose has rule said sight
bind-params-requires t c =
    let named =
    let x = c.args in
    let from = x.c.start in
    let to = x.c.end in
    let st = c.requires.stands in
    let is = c.if-c-ne-IDENT.false in
    let written = wrote_lent NAME_PATTERN (λ (l : List ℕ). span from to ∷ text l ∷ []) x.src.now from to c.put_name-w1.ensures in
    Steps.leaved st c.eat_any-c1.ensures (omega (arith, is)) (name_size NAME_PATTERN st) written
    (Steps.called (leaf NAME_PATTERN (span from to ∷ text (slice from to x.src.now) ∷ []) ▸ goto bind_named) st is (λ xs. refl) (let x0 = c.args in Steps.at x0.set x0.src.now x0.left (goto bind) 0 x0.c x0.w x0.out.now)) in
    let opened =
    let st = c.eat_any-c1.ensures.stands in
    let is = c.if-c1-ne-L_PAREN.false in
    Steps.taken (lit< tt) st c.eat_any.ensures is (Steps.known (eat L_PAREN ▸ sub params ▸ eat R_PAREN ▸ goto bind_function) st is (λ xs t. refl) named) in
    (omega (arith, c.decreases), Steps.ready c.requires (lit≤ tt) opened)

pub bind-eat-requires : goal.bind-eat-requires
unfolding choose has rule said sight
bind-eat-requires t c =
    let named =
    let x = c.args in
    let from = x.c.start in
    let to = x.c.end in
    let st = c.requires.stands in
    let is = c.if-c-ne-IDENT.false in
    let written = wrote_lent NAME_PATTERN (λ (l : List ℕ). span from to ∷ text l ∷ []) x.src.now from to c.put_name-w1.ensures in
    Steps.leaved st c.eat_any-c1.ensures (omega (arith, is)) (name_size NAME_PATTERN st) written
    (Steps.called (leaf NAME_PATTERN (span from to ∷ text (slice from to x.src.now) ∷ []) ▸ goto bind_named) st is (λ xs. refl) (let x0 = c.args in Steps.at x0.set x0.src.now x0.left (goto bind) 0 x0.c x0.w x0.out.now)) in
    let opened =
    let st = c.eat_any-c1.ensures.stands in
    let is = c.if-c1-ne-L_PAREN.false in
    Steps.taken (lit< tt) st c.eat_any.ensures is (Steps.known (eat L_PAREN ▸ sub params ▸ eat R_PAREN ▸ goto bind_function) st is (λ xs t. refl) named) in
    let listed =
    Steps.took_owing (Steps.counted c.params.ensures c.in_ok-c2.was).0 refl opened in
    (lit< tt, listed.stands c.requires.stands)

pub bind-rhs-requires-2 : goal.bind-rhs-requires-2
unfolding choose has rule said sight
bind-rhs-requires-2 t c =
    let named =
    let x = c.args in
    let from = x.c.start in
    let to = x.c.end in
    let st = c.requires.stands in
    let is = c.if-c-ne-IDENT.false in
    let written = wrote_lent NAME_PATTERN (λ (l : List ℕ). span from to ∷ text l ∷ []) x.src.now from to c.put_name-w1.ensures in
    Steps.leaved st c.eat_any-c1.ensures (omega (arith, is)) (name_size NAME_PATTERN st) written
    (Steps.called (leaf NAME_PATTERN (span from to ∷ text (slice from to x.src.now) ∷ []) ▸ goto bind_named) st is (λ xs. refl) (let x0 = c.args in Steps.at x0.set x0.src.now x0.left (goto bind) 0 x0.c x0.w x0.out.now)) in
    let opened =
    let st = c.eat_any-c1.ensures.stands in
    let is = c.if-c1-ne-L_PAREN.false in
    Steps.taken (lit< tt) st c.eat_any.ensures is (Steps.known (eat L_PAREN ▸ sub params ▸ eat R_PAREN ▸ goto bind_function) st is (λ xs t. refl) named) in
    let listed =
    Steps.took_owing (Steps.counted c.params.ensures c.in_ok-c2.was).0 refl opened in
    let shut =
    Steps.ate c.eat.ensures c.in_ok-c3.was listed in
    let few = (Steps.counted c.params.ensures c.in_ok-c2.was).1 in
    (omega (arith, c.decreases), (Steps.ready c.requires (lit≤ tt) shut, omega (arith, few, (c.eat.ensures.moved _ _ _ c.in_ok-c3.was).0)))

pub bind-returns-in_err-c1 : goal.bind-returns-in_err-c1
unfolding choose has rule sight
bind-returns-in_err-c1 t c =
    let other =
    Steps.known (sub pattern ▸ bound 0 0) c.requires.stands refl (λ xs t. simp (ne_eqb _ IDENT c.if-c-ne-IDENT.true)) (let x0 = c.args in Steps.at x0.set x0.src.now x0.left (goto bind) 0 x0.c x0.w x0.out.now) in
    Steps.as_sub (Steps.passed (Steps.takes_broken c.pat.ensures c.in_err-c1.was (Steps.handed c.from_residual.ensures)) other)

pub bind-returns-then-c-ne-IDENT : goal.bind-returns-then-c-ne-IDENT
unfolding choose has rule sight
bind-returns-then-c-ne-IDENT t c =
    let other =
    Steps.known (sub pattern ▸ bound 0 0) c.requires.stands refl (λ xs t. simp (ne_eqb _ IDENT c.if-c-ne-IDENT.true)) (let x0 = c.args in Steps.at x0.set x0.src.now x0.left (goto bind) 0 x0.c x0.w x0.out.now) in
    let into =
    Steps.took c.pat.ensures c.in_ok-c1.was other in
    Steps.as_sub (Steps.tail (lit≤ tt) (c.rhs.ensures.leads (0 + 1)) into)

pub bind-returns-then-c1-ne-L_PAREN : goal.bind-returns-then-c1-ne-L_PAREN
unfolding choose has rule said sight
bind-returns-then-c1-ne-L_PAREN t c =
    let named =
    let x = c.args in
    let from = x.c.start in
    let to = x.c.end in
    let st = c.requires.stands in
    let is = c.if-c-ne-IDENT.false in
    let written = wrote_lent NAME_PATTERN (λ (l : List ℕ). span from to ∷ text l ∷ []) x.src.now from to c.put_name-w1.ensures in
    Steps.leaved st c.eat_any-c1.ensures (omega (arith, is)) (name_size NAME_PATTERN st) written
    (Steps.called (leaf NAME_PATTERN (span from to ∷ text (slice from to x.src.now) ∷ []) ▸ goto bind_named) st is (λ xs. refl) (let x0 = c.args in Steps.at x0.set x0.src.now x0.left (goto bind) 0 x0.c x0.w x0.out.now)) in
    let plain =
    Steps.known (bound 0 0) c.eat_any-c1.ensures.stands refl (λ xs t. simp (ne_eqb _ L_PAREN c.if-c1-ne-L_PAREN.true)) named in
    Steps.as_sub (Steps.tail (lit≤ tt) (c.rhs-then-c1-ne-L_PAREN.ensures.leads (0 + 1)) plain)

pub bind-returns-in_err-c2 : goal.bind-returns-in_err-c2
unfolding choose has rule said sight
bind-returns-in_err-c2 t c =
    let named =
    let x = c.args in
    let from = x.c.start in
    let to = x.c.end in
    let st = c.requires.stands in
    let is = c.if-c-ne-IDENT.false in
    let written = wrote_lent NAME_PATTERN (λ (l : List ℕ). span from to ∷ text l ∷ []) x.src.now from to c.put_name-w1.ensures in
    Steps.leaved st c.eat_any-c1.ensures (omega (arith, is)) (name_size NAME_PATTERN st) written
    (Steps.called (leaf NAME_PATTERN (span from to ∷ text (slice from to x.src.now) ∷ []) ▸ goto bind_named) st is (λ xs. refl) (let x0 = c.args in Steps.at x0.set x0.src.now x0.left (goto bind) 0 x0.c x0.w x0.out.now)) in
    let opened =
    let st = c.eat_any-c1.ensures.stands in
    let is = c.if-c1-ne-L_PAREN.false in
    Steps.taken (lit< tt) st c.eat_any.ensures is (Steps.known (eat L_PAREN ▸ sub params ▸ eat R_PAREN ▸ goto bind_function) st is (λ xs t. refl) named) in
    Steps.as_sub (Steps.passed (Steps.counts_broken c.params.ensures c.in_err-c2.was (Steps.handed c.from_residual-in_err-c2.ensures)) opened)

pub bind-returns-in_err-c3 : goal.bind-returns-in_err-c3
unfolding choose has rule said sight
bind-returns-in_err-c3 t c =
    let named =
    let x = c.args in
    let from = x.c.start in
    let to = x.c.end in
    let st = c.requires.stands in
    let is = c.if-c-ne-IDENT.false in
    let written = wrote_lent NAME_PATTERN (λ (l : List ℕ). span from to ∷ text l ∷ []) x.src.now from to c.put_name-w1.ensures in
    Steps.leaved st c.eat_any-c1.ensures (omega (arith, is)) (name_size NAME_PATTERN st) written
    (Steps.called (leaf NAME_PATTERN (span from to ∷ text (slice from to x.src.now) ∷ []) ▸ goto bind_named) st is (λ xs. refl) (let x0 = c.args in Steps.at x0.set x0.src.now x0.left (goto bind) 0 x0.c x0.w x0.out.now)) in
    let opened =
    let st = c.eat_any-c1.ensures.stands in
    let is = c.if-c1-ne-L_PAREN.false in
    Steps.taken (lit< tt) st c.eat_any.ensures is (Steps.known (eat L_PAREN ▸ sub params ▸ eat R_PAREN ▸ goto bind_function) st is (λ xs t. refl) named) in
    let listed =
    Steps.took_owing (Steps.counted c.params.ensures c.in_ok-c2.was).0 refl opened in
    Steps.as_sub (Steps.passed (Steps.eats_broken c.eat.ensures c.in_err-c3.was (Steps.handed c.from_residual-in_err-c3.ensures)) listed)

pub bind-returns : goal.bind-returns
unfolding choose has rule said sight
bind-returns t c =
    let many =
    c.in_ok-c2.field-0.2 in
    let named =
    let x = c.args in
    let from = x.c.start in
    let to = x.c.end in
    let st = c.requires.stands in
    let is = c.if-c-ne-IDENT.false in
    let written = wrote_lent NAME_PATTERN (λ (l : List ℕ). span from to ∷ text l ∷ []) x.src.now from to c.put_name-w1.ensures in
    Steps.leaved st c.eat_any-c1.ensures (omega (arith, is)) (name_size NAME_PATTERN st) written
    (Steps.called (leaf NAME_PATTERN (span from to ∷ text (slice from to x.src.now) ∷ []) ▸ goto bind_named) st is (λ xs. refl) (let x0 = c.args in Steps.at x0.set x0.src.now x0.left (goto bind) 0 x0.c x0.w x0.out.now)) in
    let opened =
    let st = c.eat_any-c1.ensures.stands in
    let is = c.if-c1-ne-L_PAREN.false in
    Steps.taken (lit< tt) st c.eat_any.ensures is (Steps.known (eat L_PAREN ▸ sub params ▸ eat R_PAREN ▸ goto bind_function) st is (λ xs t. refl) named) in
    let listed =
    Steps.took_owing (Steps.counted c.params.ensures c.in_ok-c2.was).0 refl opened in
    let shut =
    Steps.ate c.eat.ensures c.in_ok-c3.was listed in
    let m = many in
    let last = Steps.known (bound 1 m) (shut.stands c.requires.stands) refl (λ xs t. with_params _ m (omega arith)) shut in
    Steps.as_sub (Steps.tail (lit≤ tt) (c.rhs-2.ensures.leads _) last)

pub bind-shape_of-out : goal.bind-shape_of-out
unfolding choose has rule said sight
bind-shape_of-out t c =
    let named =
    let x = c.args in
    let from = x.c.start in
    let to = x.c.end in
    let st = c.requires.stands in
    let is = c.if-c-ne-IDENT.false in
    let written = wrote_lent NAME_PATTERN (λ (l : List ℕ). span from to ∷ text l ∷ []) x.src.now from to c.put_name-w1.ensures in
    Steps.leaved st c.eat_any-c1.ensures (omega (arith, is)) (name_size NAME_PATTERN st) written
    (Steps.called (leaf NAME_PATTERN (span from to ∷ text (slice from to x.src.now) ∷ []) ▸ goto bind_named) st is (λ xs. refl) (let x0 = c.args in Steps.at x0.set x0.src.now x0.left (goto bind) 0 x0.c x0.w x0.out.now)) in
    let opened =
    let st = c.eat_any-c1.ensures.stands in
    let is = c.if-c1-ne-L_PAREN.false in
    Steps.taken (lit< tt) st c.eat_any.ensures is (Steps.known (eat L_PAREN ▸ sub params ▸ eat R_PAREN ▸ goto bind_function) st is (λ xs t. refl) named) in
    let listed =
    Steps.took_owing (Steps.counted c.params.ensures c.in_ok-c2.was).0 refl opened in
    let shut =
    Steps.ate c.eat.ensures c.in_ok-c3.was listed in
    omega (arith, Steps.same shut, c.out-4-1.given)

pub body-expr-requires : goal.body-expr-requires
unfolding choose has rule sight
body-expr-requires t c =
    let record_of =
    close LOCAL (number c.args.n ∷ []) ▸ end in
    let begun =
    Steps.known (eat SEMI ▸ expression ▸ record_of) c.requires.0.stands refl (λ xs t. refl) (let x0 = c.args in Steps.at x0.set x0.src.now x0.left (goto local_body) x0.n x0.c x0.w x0.out.now) in
    let opened =
    Steps.ate c.eat.ensures c.in_ok-c1.was begun in
    (omega (arith, c.decreases), Steps.ready c.requires.0 (lit≤ tt) opened)

pub body-put_count-w3-requires : goal.body-put_count-w3-requires
unfolding choose has rule sight
body-put_count-w3-requires t c =
    let record_of =
    close LOCAL (number c.args.n ∷ []) ▸ end in
    let begun =
    Steps.known (eat SEMI ▸ expression ▸ record_of) c.requires.0.stands refl (λ xs t. refl) (let x0 = c.args in Steps.at x0.set x0.src.now x0.left (goto local_body) x0.n x0.c x0.w x0.out.now) in
    let opened =
    Steps.ate c.eat.ensures c.in_ok-c1.was begun in
    let valued =
    Steps.took c.expr.ensures c.in_ok-c2.was opened in
    let p = c.requires in (Steps.fits p.0 (lit≤ tt) valued, few p.0 p.1)

pub body-returns-in_err-c1 : goal.body-returns-in_err-c1
unfolding choose has rule sight
body-returns-in_err-c1 t c =
    let record_of =
    close LOCAL (number c.args.n ∷ []) ▸ end in
    let begun =
    Steps.known (eat SEMI ▸ expression ▸ record_of) c.requires.0.stands refl (λ xs t. refl) (let x0 = c.args in Steps.at x0.set x0.src.now x0.left (goto local_body) x0.n x0.c x0.w x0.out.now) in
    Steps.passed (Steps.eats_broken c.eat.ensures c.in_err-c1.was (Steps.handed c.from_residual.ensures)) begun

pub body-returns-in_err-c2 : goal.body-returns-in_err-c2
unfolding choose has rule sight
body-returns-in_err-c2 t c =
    let record_of =
    close LOCAL (number c.args.n ∷ []) ▸ end in
    let begun =
    Steps.known (eat SEMI ▸ expression ▸ record_of) c.requires.0.stands refl (λ xs t. refl) (let x0 = c.args in Steps.at x0.set x0.src.now x0.left (goto local_body) x0.n x0.c x0.w x0.out.now) in
    let opened =
    Steps.ate c.eat.ensures c.in_ok-c1.was begun in
    Steps.passed (Steps.takes_broken c.expr.ensures c.in_err-c2.was (Steps.handed c.from_residual-in_err-c2.ensures)) opened

pub body-returns : goal.body-returns
unfolding choose entry has payload rule sight
body-returns t c =
    let record_of =
    close LOCAL (number c.args.n ∷ []) ▸ end in
    let begun =
    Steps.known (eat SEMI ▸ expression ▸ record_of) c.requires.0.stands refl (λ xs t. refl) (let x0 = c.args in Steps.at x0.set x0.src.now x0.left (goto local_body) x0.n x0.c x0.w x0.out.now) in
    let opened =
    Steps.ate c.eat.ensures c.in_ok-c1.was begun in
    let valued =
    Steps.took c.expr.ensures c.in_ok-c2.was opened in
    Steps.ends (lit≤ tt) (Steps.closed 5 (lit≤ tt) c.put_count-w3.ensures valued)

pub chain-link-requires : goal.chain-link-requires
chain-link-requires t c =
    (omega (arith, c.decreases), (c.loop-cur.invariant.0.ok, suffix_there c.suffix_at.ensures c.if-not-suffix_at.false-raw, c.loop-cur.invariant.1))

pub chain-returns-in_err-c1 : goal.chain-returns-in_err-c1
unfolding choose has rule sight
chain-returns-in_err-c1 t c =
    let begun =
    Steps.known (sub basic ▸ goto (suffix 1)) c.requires.stands refl (λ xs t. refl) (let x0 = c.args in Steps.at x0.set x0.src.now x0.left (goto suffixed) 0 x0.c x0.w x0.out.now) in
    Steps.as_sub (Steps.passed (Steps.takes_broken c.basic.ensures c.in_err-c1.was (Steps.handed c.from_residual.ensures)) begun)

pub chain-loop-cur-init : goal.chain-loop-cur-init
unfolding choose has rule sight
chain-loop-cur-init t c =
    let begun =
    Steps.known (sub basic ▸ goto (suffix 1)) c.requires.stands refl (λ xs t. refl) (let x0 = c.args in Steps.at x0.set x0.src.now x0.left (goto suffixed) 0 x0.c x0.w x0.out.now) in
    let based =
    Steps.took c.basic.ensures c.in_ok-c1.was begun in
    (Steps.begun (Steps.ready c.requires (lit≤ tt) based), lit≤ tt)

pub chain-returns-then-not-suffix_at : goal.chain-returns-then-not-suffix_at
unfolding choose has rule sight
chain-returns-then-not-suffix_at t c =
    let begun =
    Steps.known (sub basic ▸ goto (suffix 1)) c.requires.stands refl (λ xs t. refl) (let x0 = c.args in Steps.at x0.set x0.src.now x0.left (goto suffixed) 0 x0.c x0.w x0.out.now) in
    let based =
    Steps.took c.basic.ensures c.in_ok-c1.was begun in
    let so_far =
    Steps.then based c.loop-cur.invariant.0.seg in
    let none = suffix_absent c.suffix_at.ensures c.if-not-suffix_at.true-raw in
    Steps.as_sub (Steps.ends (lit≤ tt) (no_more c.loop-cur.invariant.0.ok.stands none so_far))

pub chain-returns-in_err-c2 : goal.chain-returns-in_err-c2
unfolding choose has rule sight
chain-returns-in_err-c2 t c =
    let begun =
    Steps.known (sub basic ▸ goto (suffix 1)) c.requires.stands refl (λ xs t. refl) (let x0 = c.args in Steps.at x0.set x0.src.now x0.left (goto suffixed) 0 x0.c x0.w x0.out.now) in
    let based =
    Steps.took c.basic.ensures c.in_ok-c1.was begun in
    let so_far =
    Steps.then based c.loop-cur.invariant.0.seg in
    Steps.as_sub (Steps.passed (Steps.tells_broken c.link.ensures.tells c.in_err-c2.was (Steps.handed c.from_residual-in_err-c2.ensures)) so_far)

pub chain-loop-cur-smaller : goal.chain-loop-cur-smaller
chain-loop-cur-smaller t c =
    let on =
    Steps.follows c.link.ensures.tells c.in_ok-c2.was (let l = c.loop-cur in let x = c.args in Steps.at x.set x.src.now x.left (goto (suffix l.first)) 1 l.cur l.at l.out) in
    omega (arith, c.link.ensures.some _ _ _ c.in_ok-c2.was, (on.stands c.loop-cur.invariant.0.ok.stands).within)

pub chain-loop-cur-preserved : goal.chain-loop-cur-preserved
chain-loop-cur-preserved t c =
    let on =
    Steps.follows c.link.ensures.tells c.in_ok-c2.was (let l = c.loop-cur in let x = c.args in Steps.at x.set x.src.now x.left (goto (suffix l.first)) 1 l.cur l.at l.out) in
    (Steps.turned c.loop-cur.invariant.0 (lit≤ tt) on, Steps.told_small c.link.ensures.tells c.in_ok-c2.was)

pub claim-eat-requires : goal.claim-eat-requires
claim-eat-requires t c =
    let begun =
    Steps.known (sub assertion ▸ tail) c.requires.0.stands c.requires.1 (λ xs t. claims_on c.args.set c.args.c xs 0 t) (let x0 = c.args in Steps.at x0.set x0.src.now x0.left (goto basic) 0 x0.c x0.w x0.out.now) in
    let asserted =
    Steps.took c.assert.ensures c.in_ok-c1.was begun in
    (lit< tt, asserted.stands c.requires.0.stands)

pub claim-expr-requires : goal.claim-expr-requires
claim-expr-requires t c =
    let begun =
    Steps.known (sub assertion ▸ tail) c.requires.0.stands c.requires.1 (λ xs t. claims_on c.args.set c.args.c xs 0 t) (let x0 = c.args in Steps.at x0.set x0.src.now x0.left (goto basic) 0 x0.c x0.w x0.out.now) in
    let asserted =
    Steps.took c.assert.ensures c.in_ok-c1.was begun in
    let ended =
    Steps.ate c.eat.ensures c.in_ok-c2.was asserted in
    (omega (arith, c.decreases), Steps.ready c.requires.0 (lit≤ tt) ended)

pub claim-put_none-w4-requires : goal.claim-put_none-w4-requires
claim-put_none-w4-requires t c =
    let begun =
    Steps.known (sub assertion ▸ tail) c.requires.0.stands c.requires.1 (λ xs t. claims_on c.args.set c.args.c xs 0 t) (let x0 = c.args in Steps.at x0.set x0.src.now x0.left (goto basic) 0 x0.c x0.w x0.out.now) in
    let asserted =
    Steps.took c.assert.ensures c.in_ok-c1.was begun in
    let ended =
    Steps.ate c.eat.ensures c.in_ok-c2.was asserted in
    let valued =
    Steps.took c.expr.ensures c.in_ok-c3.was ended in
    Steps.fits c.requires.0 (lit≤ tt) valued

pub claim-returns-in_err-c1 : goal.claim-returns-in_err-c1
claim-returns-in_err-c1 t c =
    let begun =
    Steps.known (sub assertion ▸ tail) c.requires.0.stands c.requires.1 (λ xs t. claims_on c.args.set c.args.c xs 0 t) (let x0 = c.args in Steps.at x0.set x0.src.now x0.left (goto basic) 0 x0.c x0.w x0.out.now) in
    Steps.passed (Steps.takes_broken c.assert.ensures c.in_err-c1.was (Steps.handed c.from_residual.ensures)) begun

pub claim-returns-in_err-c2 : goal.claim-returns-in_err-c2
claim-returns-in_err-c2 t c =
    let begun =
    Steps.known (sub assertion ▸ tail) c.requires.0.stands c.requires.1 (λ xs t. claims_on c.args.set c.args.c xs 0 t) (let x0 = c.args in Steps.at x0.set x0.src.now x0.left (goto basic) 0 x0.c x0.w x0.out.now) in
    let asserted =
    Steps.took c.assert.ensures c.in_ok-c1.was begun in
    Steps.passed (Steps.eats_broken c.eat.ensures c.in_err-c2.was (Steps.handed c.from_residual-in_err-c2.ensures)) asserted

pub claim-returns-in_err-c3 : goal.claim-returns-in_err-c3
claim-returns-in_err-c3 t c =
    let begun =
    Steps.known (sub assertion ▸ tail) c.requires.0.stands c.requires.1 (λ xs t. claims_on c.args.set c.args.c xs 0 t) (let x0 = c.args in Steps.at x0.set x0.src.now x0.left (goto basic) 0 x0.c x0.w x0.out.now) in
    let asserted =
    Steps.took c.assert.ensures c.in_ok-c1.was begun in
    let ended =
    Steps.ate c.eat.ensures c.in_ok-c2.was asserted in
    Steps.passed (Steps.takes_broken c.expr.ensures c.in_err-c3.was (Steps.handed c.from_residual-in_err-c3.ensures)) ended

pub claim-returns : goal.claim-returns
unfolding entry payload
claim-returns t c =
    let begun =
    Steps.known (sub assertion ▸ tail) c.requires.0.stands c.requires.1 (λ xs t. claims_on c.args.set c.args.c xs 0 t) (let x0 = c.args in Steps.at x0.set x0.src.now x0.left (goto basic) 0 x0.c x0.w x0.out.now) in
    let asserted =
    Steps.took c.assert.ensures c.in_ok-c1.was begun in
    let ended =
    Steps.ate c.eat.ensures c.in_ok-c2.was asserted in
    let valued =
    Steps.took c.expr.ensures c.in_ok-c3.was ended in
    Steps.ends (lit≤ tt) (Steps.closed 3 (lit≤ tt) c.put_none-w4.ensures valued)

pub claim-shape_of-out : goal.claim-shape_of-out
claim-shape_of-out t c =
    let begun =
    Steps.known (sub assertion ▸ tail) c.requires.0.stands c.requires.1 (λ xs t. claims_on c.args.set c.args.c xs 0 t) (let x0 = c.args in Steps.at x0.set x0.src.now x0.left (goto basic) 0 x0.c x0.w x0.out.now) in
    let asserted =
    Steps.took c.assert.ensures c.in_ok-c1.was begun in
    let ended =
    Steps.ate c.eat.ensures c.in_ok-c2.was asserted in
    let valued =
    Steps.took c.expr.ensures c.in_ok-c3.was ended in
    omega (arith, Steps.same valued, c.put_none-w4.auto)

pub comp-put_counts-w2-requires : goal.comp-put_counts-w2-requires
comp-put_counts-w2-requires t c =
    let listed =
    Steps.counted c.specs.ensures c.in_ok-c1.was in
    let read =
    let x = c.args in
    Steps.took listed.0 refl
    (Steps.known (sub clauses ▸ goto (comprehension_end x.n)) c.requires.0.stands refl (λ xs t. good_clauses x.set x.c xs x.n x.fault x.c.kind t c.if-fault-ne0.false) (let x0 = c.args in Steps.at x0.set x0.src.now x0.left (goto (comprehension x0.fault)) x0.n x0.c x0.w x0.out.now)) in
    let p = c.requires in
    (Steps.fits p.0 (lit≤ tt) read, few p.0 p.2, omega (arith, listed.1, (read.stands p.0.stands).within, p.0.stands.short))

pub comp-returns-in_err-c1 : goal.comp-returns-in_err-c1
comp-returns-in_err-c1 t c =
    clauses_break c.args.fault c.requires.0.stands c.specs.ensures c.in_err-c1.was (Steps.handed c.from_residual.ensures)

pub comp-returns-then-fault-ne0 : goal.comp-returns-then-fault-ne0
comp-returns-then-fault-ne0 t c =
    let listed =
    Steps.counted c.specs.ensures c.in_ok-c1.was in
    let faulty =
    let x = c.args in
    Steps.took listed.0 refl
    (Steps.known (sub clauses ▸ fail 8 x.fault) c.requires.0.stands refl (λ xs t. bad_clauses x.set x.c xs x.n x.fault x.c.kind t c.if-fault-ne0.true) (let x0 = c.args in Steps.at x0.set x0.src.now x0.left (goto (comprehension x0.fault)) x0.n x0.c x0.w x0.out.now)) in
    Steps.broke (Steps.fails (faulty.stands c.requires.0.stands) faulty) c.error.ensures

pub comp-returns : goal.comp-returns
unfolding entry payload
comp-returns t c =
    let many =
    c.in_ok-c1.field-0.2 in
    let listed =
    Steps.counted c.specs.ensures c.in_ok-c1.was in
    let read =
    let x = c.args in
    Steps.took listed.0 refl
    (Steps.known (sub clauses ▸ goto (comprehension_end x.n)) c.requires.0.stands refl (λ xs t. good_clauses x.set x.c xs x.n x.fault x.c.kind t c.if-fault-ne0.false) (let x0 = c.args in Steps.at x0.set x0.src.now x0.left (goto (comprehension x0.fault)) x0.n x0.c x0.w x0.out.now)) in
    let g = c.args in
    let c₁ = c.in_ok-c1.field-0.0 in
    let st = read.stands c.requires.0.stands in
    Steps.owes (lit≤ tt) (Steps.closed 7 (lit≤ tt) c.put_counts-w2.ensures
    (Steps.known (close OBJECT_COMP (number g.n ∷ number many ∷ []) ▸ end) st refl (λ xs t. clauses_end g.set c₁ xs g.n many c₁.kind t) read))

pub cond-eat_any-requires : goal.cond-eat_any-requires
cond-eat_any-requires t c =
    c.requires.0.stands

pub cond-expr-requires : goal.cond-expr-requires
cond-expr-requires t c =
    let tail =
    goto (else_part c.args.c.start c.args.c.end) in
    let opened =
    let st = c.requires.0.stands in
    Steps.taken (lit< tt) st c.eat_any.ensures c.requires.1
    (Steps.known (eat 71 ▸ expression ▸ eat 72 ▸ expression ▸ tail) st c.requires.1 (λ xs t. ifs_on c.args.set c.args.c xs 0 t) (Steps.at c.args.set c.args.src.now c.args.left (goto basic) 0 c.args.c c.args.w c.args.out.now)) in
    (omega (arith, c.decreases), Steps.ready c.requires.0 (lit≤ tt) opened)

pub cond-eat-requires : goal.cond-eat-requires
cond-eat-requires t c =
    let tail =
    goto (else_part c.args.c.start c.args.c.end) in
    let opened =
    let st = c.requires.0.stands in
    Steps.taken (lit< tt) st c.eat_any.ensures c.requires.1
    (Steps.known (eat 71 ▸ expression ▸ eat 72 ▸ expression ▸ tail) st c.requires.1 (λ xs t. ifs_on c.args.set c.args.c xs 0 t) (Steps.at c.args.set c.args.src.now c.args.left (goto basic) 0 c.args.c c.args.w c.args.out.now)) in
    let judged =
    Steps.took c.expr.ensures c.in_ok-c1.was opened in
    (lit< tt, judged.stands c.requires.0.stands)

pub cond-expr-requires-2 : goal.cond-expr-requires-2
cond-expr-requires-2 t c =
    let tail =
    goto (else_part c.args.c.start c.args.c.end) in
    let opened =
    let st = c.requires.0.stands in
    Steps.taken (lit< tt) st c.eat_any.ensures c.requires.1
    (Steps.known (eat 71 ▸ expression ▸ eat 72 ▸ expression ▸ tail) st c.requires.1 (λ xs t. ifs_on c.args.set c.args.c xs 0 t) (Steps.at c.args.set c.args.src.now c.args.left (goto basic) 0 c.args.c c.args.w c.args.out.now)) in
    let judged =
    Steps.took c.expr.ensures c.in_ok-c1.was opened in
    let thened =
    Steps.ate c.eat.ensures c.in_ok-c2.was judged in
    (omega (arith, c.decreases), Steps.ready c.requires.0 (lit≤ tt) thened)

pub cond-put_marked-w4-requires : goal.cond-put_marked-w4-requires
cond-put_marked-w4-requires t c =
    let tail =
    goto (else_part c.args.c.start c.args.c.end) in
    let opened =
    let st = c.requires.0.stands in
    Steps.taken (lit< tt) st c.eat_any.ensures c.requires.1
    (Steps.known (eat 71 ▸ expression ▸ eat 72 ▸ expression ▸ tail) st c.requires.1 (λ xs t. ifs_on c.args.set c.args.c xs 0 t) (Steps.at c.args.set c.args.src.now c.args.left (goto basic) 0 c.args.c c.args.w c.args.out.now)) in
    let judged =
    Steps.took c.expr.ensures c.in_ok-c1.was opened in
    let thened =
    Steps.ate c.eat.ensures c.in_ok-c2.was judged in
    let chosen =
    Steps.took c.expr-2.ensures c.in_ok-c3.was thened in
    let p = c.requires.0 in (Steps.fits p (lit≤ tt) chosen, (within p).0, (within p).1)

pub cond-eat_any-requires-2 : goal.cond-eat_any-requires-2
cond-eat_any-requires-2 t c =
    let tail =
    goto (else_part c.args.c.start c.args.c.end) in
    let opened =
    let st = c.requires.0.stands in
    Steps.taken (lit< tt) st c.eat_any.ensures c.requires.1
    (Steps.known (eat 71 ▸ expression ▸ eat 72 ▸ expression ▸ tail) st c.requires.1 (λ xs t. ifs_on c.args.set c.args.c xs 0 t) (Steps.at c.args.set c.args.src.now c.args.left (goto basic) 0 c.args.c c.args.w c.args.out.now)) in
    let judged =
    Steps.took c.expr.ensures c.in_ok-c1.was opened in
    let thened =
    Steps.ate c.eat.ensures c.in_ok-c2.was judged in
    let chosen =
    Steps.took c.expr-2.ensures c.in_ok-c3.was thened in
    chosen.stands c.requires.0.stands

pub cond-expr-requires-3 : goal.cond-expr-requires-3
cond-expr-requires-3 t c =
    let tail =
    goto (else_part c.args.c.start c.args.c.end) in
    let opened =
    let st = c.requires.0.stands in
    Steps.taken (lit< tt) st c.eat_any.ensures c.requires.1
    (Steps.known (eat 71 ▸ expression ▸ eat 72 ▸ expression ▸ tail) st c.requires.1 (λ xs t. ifs_on c.args.set c.args.c xs 0 t) (Steps.at c.args.set c.args.src.now c.args.left (goto basic) 0 c.args.c c.args.w c.args.out.now)) in
    let judged =
    Steps.took c.expr.ensures c.in_ok-c1.was opened in
    let thened =
    Steps.ate c.eat.ensures c.in_ok-c2.was judged in
    let chosen =
    Steps.took c.expr-2.ensures c.in_ok-c3.was thened in
    let past =
    let here = chosen in
    let st = here.stands c.requires.0.stands in
    let at_else = c.if-c3-ne-ELSE_KW.false in
    Steps.taken (lit< tt) st c.eat_any-2.ensures at_else
    (Steps.known (eat 73 ▸ expression ▸ close 22 (span c.args.c.start c.args.c.end ∷ byte 1 ∷ []) ▸ end) st at_else (λ xs t. else_on c.args.set c.in_ok-c3.field-0.0 xs 2 c.args.c.start c.args.c.end t) here) in
    (omega (arith, c.decreases), Steps.ready c.requires.0 (lit≤ tt) past)

pub cond-put_marked-w5-requires : goal.cond-put_marked-w5-requires
cond-put_marked-w5-requires t c =
    let tail =
    goto (else_part c.args.c.start c.args.c.end) in
    let opened =
    let st = c.requires.0.stands in
    Steps.taken (lit< tt) st c.eat_any.ensures c.requires.1
    (Steps.known (eat 71 ▸ expression ▸ eat 72 ▸ expression ▸ tail) st c.requires.1 (λ xs t. ifs_on c.args.set c.args.c xs 0 t) (Steps.at c.args.set c.args.src.now c.args.left (goto basic) 0 c.args.c c.args.w c.args.out.now)) in
    let judged =
    Steps.took c.expr.ensures c.in_ok-c1.was opened in
    let thened =
    Steps.ate c.eat.ensures c.in_ok-c2.was judged in
    let chosen =
    Steps.took c.expr-2.ensures c.in_ok-c3.was thened in
    let past =
    let here = chosen in
    let st = here.stands c.requires.0.stands in
    let at_else = c.if-c3-ne-ELSE_KW.false in
    Steps.taken (lit< tt) st c.eat_any-2.ensures at_else
    (Steps.known (eat 73 ▸ expression ▸ close 22 (span c.args.c.start c.args.c.end ∷ byte 1 ∷ []) ▸ end) st at_else (λ xs t. else_on c.args.set c.in_ok-c3.field-0.0 xs 2 c.args.c.start c.args.c.end t) here) in
    let value =
    Steps.took c.expr-3.ensures c.in_ok-c4.was past in
    let p = c.requires.0 in (Steps.fits p (lit≤ tt) value, (within p).0, (within p).1)

pub cond-returns-in_err-c1 : goal.cond-returns-in_err-c1
cond-returns-in_err-c1 t c =
    let tail =
    goto (else_part c.args.c.start c.args.c.end) in
    let opened =
    let st = c.requires.0.stands in
    Steps.taken (lit< tt) st c.eat_any.ensures c.requires.1
    (Steps.known (eat 71 ▸ expression ▸ eat 72 ▸ expression ▸ tail) st c.requires.1 (λ xs t. ifs_on c.args.set c.args.c xs 0 t) (Steps.at c.args.set c.args.src.now c.args.left (goto basic) 0 c.args.c c.args.w c.args.out.now)) in
    Steps.passed (Steps.takes_broken c.expr.ensures c.in_err-c1.was (Steps.handed c.from_residual.ensures)) opened

pub cond-returns-in_err-c2 : goal.cond-returns-in_err-c2
cond-returns-in_err-c2 t c =
    let tail =
    goto (else_part c.args.c.start c.args.c.end) in
    let opened =
    let st = c.requires.0.stands in
    Steps.taken (lit< tt) st c.eat_any.ensures c.requires.1
    (Steps.known (eat 71 ▸ expression ▸ eat 72 ▸ expression ▸ tail) st c.requires.1 (λ xs t. ifs_on c.args.set c.args.c xs 0 t) (Steps.at c.args.set c.args.src.now c.args.left (goto basic) 0 c.args.c c.args.w c.args.out.now)) in
    let judged =
    Steps.took c.expr.ensures c.in_ok-c1.was opened in
    Steps.passed (Steps.eats_broken c.eat.ensures c.in_err-c2.was (Steps.handed c.from_residual-in_err-c2.ensures)) judged

pub cond-returns-in_err-c3 : goal.cond-returns-in_err-c3
cond-returns-in_err-c3 t c =
    let tail =
    goto (else_part c.args.c.start c.args.c.end) in
    let opened =
    let st = c.requires.0.stands in
    Steps.taken (lit< tt) st c.eat_any.ensures c.requires.1
    (Steps.known (eat 71 ▸ expression ▸ eat 72 ▸ expression ▸ tail) st c.requires.1 (λ xs t. ifs_on c.args.set c.args.c xs 0 t) (Steps.at c.args.set c.args.src.now c.args.left (goto basic) 0 c.args.c c.args.w c.args.out.now)) in
    let judged =
    Steps.took c.expr.ensures c.in_ok-c1.was opened in
    let thened =
    Steps.ate c.eat.ensures c.in_ok-c2.was judged in
    Steps.passed (Steps.takes_broken c.expr-2.ensures c.in_err-c3.was (Steps.handed c.from_residual-in_err-c3.ensures)) thened

pub cond-returns-then-c3-ne-ELSE_KW : goal.cond-returns-then-c3-ne-ELSE_KW
unfolding entry payload
cond-returns-then-c3-ne-ELSE_KW t c =
    let tail =
    goto (else_part c.args.c.start c.args.c.end) in
    let opened =
    let st = c.requires.0.stands in
    Steps.taken (lit< tt) st c.eat_any.ensures c.requires.1
    (Steps.known (eat 71 ▸ expression ▸ eat 72 ▸ expression ▸ tail) st c.requires.1 (λ xs t. ifs_on c.args.set c.args.c xs 0 t) (Steps.at c.args.set c.args.src.now c.args.left (goto basic) 0 c.args.c c.args.w c.args.out.now)) in
    let judged =
    Steps.took c.expr.ensures c.in_ok-c1.was opened in
    let thened =
    Steps.ate c.eat.ensures c.in_ok-c2.was judged in
    let chosen =
    Steps.took c.expr-2.ensures c.in_ok-c3.was thened in
    let c₆ = c.in_ok-c3.field-0.0 in
    let bare = Steps.known (close 22 (span c.args.c.start c.args.c.end ∷ byte 0 ∷ []) ▸ end) (chosen.stands c.requires.0.stands) refl (λ xs t. no_else c.args.set c₆ xs 2 c.args.c.start c.args.c.end c₆.kind t c.if-c3-ne-ELSE_KW.true) chosen in
    Steps.ends (lit≤ tt) (Steps.closed 8 (lit≤ tt) c.put_marked-w4.ensures bare)

pub cond-returns-in_err-c4 : goal.cond-returns-in_err-c4
cond-returns-in_err-c4 t c =
    let tail =
    goto (else_part c.args.c.start c.args.c.end) in
    let opened =
    let st = c.requires.0.stands in
    Steps.taken (lit< tt) st c.eat_any.ensures c.requires.1
    (Steps.known (eat 71 ▸ expression ▸ eat 72 ▸ expression ▸ tail) st c.requires.1 (λ xs t. ifs_on c.args.set c.args.c xs 0 t) (Steps.at c.args.set c.args.src.now c.args.left (goto basic) 0 c.args.c c.args.w c.args.out.now)) in
    let judged =
    Steps.took c.expr.ensures c.in_ok-c1.was opened in
    let thened =
    Steps.ate c.eat.ensures c.in_ok-c2.was judged in
    let chosen =
    Steps.took c.expr-2.ensures c.in_ok-c3.was thened in
    let past =
    let here = chosen in
    let st = here.stands c.requires.0.stands in
    let at_else = c.if-c3-ne-ELSE_KW.false in
    Steps.taken (lit< tt) st c.eat_any-2.ensures at_else
    (Steps.known (eat 73 ▸ expression ▸ close 22 (span c.args.c.start c.args.c.end ∷ byte 1 ∷ []) ▸ end) st at_else (λ xs t. else_on c.args.set c.in_ok-c3.field-0.0 xs 2 c.args.c.start c.args.c.end t) here) in
    Steps.passed (Steps.takes_broken c.expr-3.ensures c.in_err-c4.was (Steps.handed c.from_residual-in_err-c4.ensures)) past

pub cond-returns : goal.cond-returns
unfolding entry payload
cond-returns t c =
    let tail =
    goto (else_part c.args.c.start c.args.c.end) in
    let opened =
    let st = c.requires.0.stands in
    Steps.taken (lit< tt) st c.eat_any.ensures c.requires.1
    (Steps.known (eat 71 ▸ expression ▸ eat 72 ▸ expression ▸ tail) st c.requires.1 (λ xs t. ifs_on c.args.set c.args.c xs 0 t) (Steps.at c.args.set c.args.src.now c.args.left (goto basic) 0 c.args.c c.args.w c.args.out.now)) in
    let judged =
    Steps.took c.expr.ensures c.in_ok-c1.was opened in
    let thened =
    Steps.ate c.eat.ensures c.in_ok-c2.was judged in
    let chosen =
    Steps.took c.expr-2.ensures c.in_ok-c3.was thened in
    let past =
    let here = chosen in
    let st = here.stands c.requires.0.stands in
    let at_else = c.if-c3-ne-ELSE_KW.false in
    Steps.taken (lit< tt) st c.eat_any-2.ensures at_else
    (Steps.known (eat 73 ▸ expression ▸ close 22 (span c.args.c.start c.args.c.end ∷ byte 1 ∷ []) ▸ end) st at_else (λ xs t. else_on c.args.set c.in_ok-c3.field-0.0 xs 2 c.args.c.start c.args.c.end t) here) in
    let value =
    Steps.took c.expr-3.ensures c.in_ok-c4.was past in
    Steps.ends (lit≤ tt) (Steps.closed 8 (lit≤ tt) c.put_marked-w5.ensures value)

pub cond-shape_of-out-then-c3-ne-ELSE_KW : goal.cond-shape_of-out-then-c3-ne-ELSE_KW
cond-shape_of-out-then-c3-ne-ELSE_KW t c =
    let tail =
    goto (else_part c.args.c.start c.args.c.end) in
    let opened =
    let st = c.requires.0.stands in
    Steps.taken (lit< tt) st c.eat_any.ensures c.requires.1
    (Steps.known (eat 71 ▸ expression ▸ eat 72 ▸ expression ▸ tail) st c.requires.1 (λ xs t. ifs_on c.args.set c.args.c xs 0 t) (Steps.at c.args.set c.args.src.now c.args.left (goto basic) 0 c.args.c c.args.w c.args.out.now)) in
    let judged =
    Steps.took c.expr.ensures c.in_ok-c1.was opened in
    let thened =
    Steps.ate c.eat.ensures c.in_ok-c2.was judged in
    let chosen =
    Steps.took c.expr-2.ensures c.in_ok-c3.was thened in
    omega (arith, Steps.same chosen, c.put_marked-w4.auto)

pub cond-shape_of-out-in_err-c4 : goal.cond-shape_of-out-in_err-c4
cond-shape_of-out-in_err-c4 t c =
    let tail =
    goto (else_part c.args.c.start c.args.c.end) in
    let opened =
    let st = c.requires.0.stands in
    Steps.taken (lit< tt) st c.eat_any.ensures c.requires.1
    (Steps.known (eat 71 ▸ expression ▸ eat 72 ▸ expression ▸ tail) st c.requires.1 (λ xs t. ifs_on c.args.set c.args.c xs 0 t) (Steps.at c.args.set c.args.src.now c.args.left (goto basic) 0 c.args.c c.args.w c.args.out.now)) in
    let judged =
    Steps.took c.expr.ensures c.in_ok-c1.was opened in
    let thened =
    Steps.ate c.eat.ensures c.in_ok-c2.was judged in
    let chosen =
    Steps.took c.expr-2.ensures c.in_ok-c3.was thened in
    let past =
    let here = chosen in
    let st = here.stands c.requires.0.stands in
    let at_else = c.if-c3-ne-ELSE_KW.false in
    Steps.taken (lit< tt) st c.eat_any-2.ensures at_else
    (Steps.known (eat 73 ▸ expression ▸ close 22 (span c.args.c.start c.args.c.end ∷ byte 1 ∷ []) ▸ end) st at_else (λ xs t. else_on c.args.set c.in_ok-c3.field-0.0 xs 2 c.args.c.start c.args.c.end t) here) in
    omega (arith, Steps.same past, c.expr-3.auto)

pub cond-shape_of-out : goal.cond-shape_of-out
cond-shape_of-out t c =
    let tail =
    goto (else_part c.args.c.start c.args.c.end) in
    let opened =
    let st = c.requires.0.stands in
    Steps.taken (lit< tt) st c.eat_any.ensures c.requires.1
    (Steps.known (eat 71 ▸ expression ▸ eat 72 ▸ expression ▸ tail) st c.requires.1 (λ xs t. ifs_on c.args.set c.args.c xs 0 t) (Steps.at c.args.set c.args.src.now c.args.left (goto basic) 0 c.args.c c.args.w c.args.out.now)) in
    let judged =
    Steps.took c.expr.ensures c.in_ok-c1.was opened in
    let thened =
    Steps.ate c.eat.ensures c.in_ok-c2.was judged in
    let chosen =
    Steps.took c.expr-2.ensures c.in_ok-c3.was thened in
    let past =
    let here = chosen in
    let st = here.stands c.requires.0.stands in
    let at_else = c.if-c3-ne-ELSE_KW.false in
    Steps.taken (lit< tt) st c.eat_any-2.ensures at_else
    (Steps.known (eat 73 ▸ expression ▸ close 22 (span c.args.c.start c.args.c.end ∷ byte 1 ∷ []) ▸ end) st at_else (λ xs t. else_on c.args.set c.in_ok-c3.field-0.0 xs 2 c.args.c.start c.args.c.end t) here) in
    let value =
    Steps.took c.expr-3.ensures c.in_ok-c4.was past in
    omega (arith, Steps.same value, c.put_marked-w5.auto)

pub each-pat-requires : goal.each-pat-requires
each-pat-requires t c =
    let key : (Cursor) =
    c.eat_any-key.result in
    let size : (ℕ) =
    key.end - key.start + 1 in
    let shape : (Body) =
    close 35 (byte c.visibility-v.result.byte ∷ text (slice key.start key.end c.args.src.now) ∷ []) ▸ end in
    let headed : ((let a0 = c.args in Seg a0.set a0.src.now a0.left (state (goto for_clause) 0 a0.c a0.w a0.out.now) size 0 (state (sub pattern ▸ eat 76 ▸ expression ▸ shape) 0 c.visibility-v.result.cursor c.args.w c.args.out.now))) =
    let p = c.requires in let left = c.if-left-eq0.false in
    iterates left p.0.stands p.1 c.eat_any-key.ensures c.eat_any-bracket.ensures c.eat_any-colon.ensures
    c.eat_any.ensures c.visibility-v.ensures in
    (omega (arith, c.decreases), Steps.ready c.requires.0 (omega arith) headed)

pub each-eat-requires : goal.each-eat-requires
each-eat-requires t c =
    let key : (Cursor) =
    c.eat_any-key.result in
    let size : (ℕ) =
    key.end - key.start + 1 in
    let shape : (Body) =
    close 35 (byte c.visibility-v.result.byte ∷ text (slice key.start key.end c.args.src.now) ∷ []) ▸ end in
    let headed : ((let a0 = c.args in Seg a0.set a0.src.now a0.left (state (goto for_clause) 0 a0.c a0.w a0.out.now) size 0 (state (sub pattern ▸ eat 76 ▸ expression ▸ shape) 0 c.visibility-v.result.cursor c.args.w c.args.out.now))) =
    let p = c.requires in let left = c.if-left-eq0.false in
    iterates left p.0.stands p.1 c.eat_any-key.ensures c.eat_any-bracket.ensures c.eat_any-colon.ensures
    c.eat_any.ensures c.visibility-v.ensures in
    let into : ((let a0 = c.args in Seg a0.set a0.src.now a0.left (state (goto for_clause) 0 a0.c a0.w a0.out.now) size 0 (state (eat 76 ▸ expression ▸ shape) 1 c.in_ok-c2.field-0.0 c.in_ok-c2.field-0.1 c.pat.new.out))) =
    Steps.took c.pat.ensures c.in_ok-c2.was headed in
    (lit< tt, into.stands c.requires.0.stands)

pub each-expr-requires : goal.each-expr-requires
each-expr-requires t c =
    let key : (Cursor) =
    c.eat_any-key.result in
    let size : (ℕ) =
    key.end - key.start + 1 in
    let shape : (Body) =
    close 35 (byte c.visibility-v.result.byte ∷ text (slice key.start key.end c.args.src.now) ∷ []) ▸ end in
    let headed : ((let a0 = c.args in Seg a0.set a0.src.now a0.left (state (goto for_clause) 0 a0.c a0.w a0.out.now) size 0 (state (sub pattern ▸ eat 76 ▸ expression ▸ shape) 0 c.visibility-v.result.cursor c.args.w c.args.out.now))) =
    let p = c.requires in let left = c.if-left-eq0.false in
    iterates left p.0.stands p.1 c.eat_any-key.ensures c.eat_any-bracket.ensures c.eat_any-colon.ensures
    c.eat_any.ensures c.visibility-v.ensures in
    let into : ((let a0 = c.args in Seg a0.set a0.src.now a0.left (state (goto for_clause) 0 a0.c a0.w a0.out.now) size 0 (state (eat 76 ▸ expression ▸ shape) 1 c.in_ok-c2.field-0.0 c.in_ok-c2.field-0.1 c.pat.new.out))) =
    Steps.took c.pat.ensures c.in_ok-c2.was headed in
    let opened : ((let a0 = c.args in Seg a0.set a0.src.now a0.left (state (goto for_clause) 0 a0.c a0.w a0.out.now) (size + 1) 0 (state (expression ▸ shape) 1 c.in_ok-c3.field-0.0 c.in_ok-c3.field-0.1 c.pat.new.out))) =
    Steps.ate c.eat.ensures c.in_ok-c3.was into in
    (omega (arith, c.decreases), Steps.ready c.requires.0 (omega arith) opened)

pub each-overflow_cast-from : goal.each-overflow_cast-from
each-overflow_cast-from t c =
    let key : (Cursor) =
    c.eat_any-key.result in
    let stood : (Stands c.args.src.now key) =
    c.eat_any-key.ensures.stands in
    let fits : key.start < 2 ^ 64 = omega (arith, (lies stood).on, (lies stood).within, stood.short) in
    record { fits = fits }

pub each-overflow_cast-to : goal.each-overflow_cast-to
each-overflow_cast-to t c =
    let key : (Cursor) =
    c.eat_any-key.result in
    let stood : (Stands c.args.src.now key) =
    c.eat_any-key.ensures.stands in
    let fits : key.end < 2 ^ 64 = omega (arith, (lies stood).within, stood.short) in
    record { fits = fits }

pub each-slice_bounds-put_iteration-count : goal.each-slice_bounds-put_iteration-count
each-slice_bounds-put_iteration-count t c =
    let key : (Cursor) =
    c.eat_any-key.result in
    let stood : (Stands c.args.src.now key) =
    c.eat_any-key.ensures.stands in
    (lies stood).on

pub each-slice_bounds-put_iteration-start : goal.each-slice_bounds-put_iteration-start
each-slice_bounds-put_iteration-start t c =
    let key : (Cursor) =
    c.eat_any-key.result in
    let stood : (Stands c.args.src.now key) =
    c.eat_any-key.ensures.stands in
    (lies stood).on

pub each-slice_bounds-put_iteration-end : goal.each-slice_bounds-put_iteration-end
each-slice_bounds-put_iteration-end t c =
    let key : (Cursor) =
    c.eat_any-key.result in
    let stood : (Stands c.args.src.now key) =
    c.eat_any-key.ensures.stands in
    (lies stood).within

pub each-put_iteration-w5-requires : goal.each-put_iteration-w5-requires
each-put_iteration-w5-requires t c =
    let key : (Cursor) =
    c.eat_any-key.result in
    let stood : (Stands c.args.src.now key) =
    c.eat_any-key.ensures.stands in
    let size : (ℕ) =
    key.end - key.start + 1 in
    let shape : (Body) =
    close 35 (byte c.visibility-v.result.byte ∷ text (slice key.start key.end c.args.src.now) ∷ []) ▸ end in
    let headed : ((let a0 = c.args in Seg a0.set a0.src.now a0.left (state (goto for_clause) 0 a0.c a0.w a0.out.now) size 0 (state (sub pattern ▸ eat 76 ▸ expression ▸ shape) 0 c.visibility-v.result.cursor c.args.w c.args.out.now))) =
    let p = c.requires in let left = c.if-left-eq0.false in
    iterates left p.0.stands p.1 c.eat_any-key.ensures c.eat_any-bracket.ensures c.eat_any-colon.ensures
    c.eat_any.ensures c.visibility-v.ensures in
    let into : ((let a0 = c.args in Seg a0.set a0.src.now a0.left (state (goto for_clause) 0 a0.c a0.w a0.out.now) size 0 (state (eat 76 ▸ expression ▸ shape) 1 c.in_ok-c2.field-0.0 c.in_ok-c2.field-0.1 c.pat.new.out))) =
    Steps.took c.pat.ensures c.in_ok-c2.was headed in
    let opened : ((let a0 = c.args in Seg a0.set a0.src.now a0.left (state (goto for_clause) 0 a0.c a0.w a0.out.now) (size + 1) 0 (state (expression ▸ shape) 1 c.in_ok-c3.field-0.0 c.in_ok-c3.field-0.1 c.pat.new.out))) =
    Steps.ate c.eat.ensures c.in_ok-c3.was into in
    let value : ((let a0 = c.args in Seg a0.set a0.src.now a0.left (state (goto for_clause) 0 a0.c a0.w a0.out.now) (size + 1) 0 (state shape 2 c.in_ok-c4.field-0.0 c.in_ok-c4.field-0.1 c.expr.new.out))) =
    Steps.took c.expr.ensures c.in_ok-c4.was opened in
    let r = c.requires.0 in
    let short = lent_short c.args.src.now key.start key.end r.stands.short (lies stood).within in
    (Steps.fits r (lit≤ tt) value, omega (arith, short))

pub each-returns-then-left-eq0 : goal.each-returns-then-left-eq0
each-returns-then-left-eq0 t c =
    let p = c.requires in too_deep_clause c.if-left-eq0.true p.0.stands p.1 c.error.ensures

pub each-returns-in_err-c2 : goal.each-returns-in_err-c2
each-returns-in_err-c2 t c =
    let key : (Cursor) =
    c.eat_any-key.result in
    let size : (ℕ) =
    key.end - key.start + 1 in
    let shape : (Body) =
    close 35 (byte c.visibility-v.result.byte ∷ text (slice key.start key.end c.args.src.now) ∷ []) ▸ end in
    let headed : ((let a0 = c.args in Seg a0.set a0.src.now a0.left (state (goto for_clause) 0 a0.c a0.w a0.out.now) size 0 (state (sub pattern ▸ eat 76 ▸ expression ▸ shape) 0 c.visibility-v.result.cursor c.args.w c.args.out.now))) =
    let p = c.requires in let left = c.if-left-eq0.false in
    iterates left p.0.stands p.1 c.eat_any-key.ensures c.eat_any-bracket.ensures c.eat_any-colon.ensures
    c.eat_any.ensures c.visibility-v.ensures in
    Steps.passed (Steps.takes_broken c.pat.ensures c.in_err-c2.was (Steps.handed c.from_residual.ensures)) headed

pub each-returns-in_err-c3 : goal.each-returns-in_err-c3
each-returns-in_err-c3 t c =
    let key : (Cursor) =
    c.eat_any-key.result in
    let size : (ℕ) =
    key.end - key.start + 1 in
    let shape : (Body) =
    close 35 (byte c.visibility-v.result.byte ∷ text (slice key.start key.end c.args.src.now) ∷ []) ▸ end in
    let headed : ((let a0 = c.args in Seg a0.set a0.src.now a0.left (state (goto for_clause) 0 a0.c a0.w a0.out.now) size 0 (state (sub pattern ▸ eat 76 ▸ expression ▸ shape) 0 c.visibility-v.result.cursor c.args.w c.args.out.now))) =
    let p = c.requires in let left = c.if-left-eq0.false in
    iterates left p.0.stands p.1 c.eat_any-key.ensures c.eat_any-bracket.ensures c.eat_any-colon.ensures
    c.eat_any.ensures c.visibility-v.ensures in
    let into : ((let a0 = c.args in Seg a0.set a0.src.now a0.left (state (goto for_clause) 0 a0.c a0.w a0.out.now) size 0 (state (eat 76 ▸ expression ▸ shape) 1 c.in_ok-c2.field-0.0 c.in_ok-c2.field-0.1 c.pat.new.out))) =
    Steps.took c.pat.ensures c.in_ok-c2.was headed in
    Steps.passed (Steps.eats_broken c.eat.ensures c.in_err-c3.was (Steps.handed c.from_residual-in_err-c3.ensures)) into

pub each-returns-in_err-c4 : goal.each-returns-in_err-c4
each-returns-in_err-c4 t c =
    let key : (Cursor) =
    c.eat_any-key.result in
    let size : (ℕ) =
    key.end - key.start + 1 in
    let shape : (Body) =
    close 35 (byte c.visibility-v.result.byte ∷ text (slice key.start key.end c.args.src.now) ∷ []) ▸ end in
    let headed : ((let a0 = c.args in Seg a0.set a0.src.now a0.left (state (goto for_clause) 0 a0.c a0.w a0.out.now) size 0 (state (sub pattern ▸ eat 76 ▸ expression ▸ shape) 0 c.visibility-v.result.cursor c.args.w c.args.out.now))) =
    let p = c.requires in let left = c.if-left-eq0.false in
    iterates left p.0.stands p.1 c.eat_any-key.ensures c.eat_any-bracket.ensures c.eat_any-colon.ensures
    c.eat_any.ensures c.visibility-v.ensures in
    let into : ((let a0 = c.args in Seg a0.set a0.src.now a0.left (state (goto for_clause) 0 a0.c a0.w a0.out.now) size 0 (state (eat 76 ▸ expression ▸ shape) 1 c.in_ok-c2.field-0.0 c.in_ok-c2.field-0.1 c.pat.new.out))) =
    Steps.took c.pat.ensures c.in_ok-c2.was headed in
    let opened : ((let a0 = c.args in Seg a0.set a0.src.now a0.left (state (goto for_clause) 0 a0.c a0.w a0.out.now) (size + 1) 0 (state (expression ▸ shape) 1 c.in_ok-c3.field-0.0 c.in_ok-c3.field-0.1 c.pat.new.out))) =
    Steps.ate c.eat.ensures c.in_ok-c3.was into in
    Steps.passed (Steps.takes_broken c.expr.ensures c.in_err-c4.was (Steps.handed c.from_residual-in_err-c4.ensures)) opened

pub each-shape_of-out : goal.each-shape_of-out
each-shape_of-out t c =
    let key : (Cursor) =
    c.eat_any-key.result in
    let stood : (Stands c.args.src.now key) =
    c.eat_any-key.ensures.stands in
    let size : (ℕ) =
    key.end - key.start + 1 in
    let shape : (Body) =
    close 35 (byte c.visibility-v.result.byte ∷ text (slice key.start key.end c.args.src.now) ∷ []) ▸ end in
    let headed : ((let a0 = c.args in Seg a0.set a0.src.now a0.left (state (goto for_clause) 0 a0.c a0.w a0.out.now) size 0 (state (sub pattern ▸ eat 76 ▸ expression ▸ shape) 0 c.visibility-v.result.cursor c.args.w c.args.out.now))) =
    let p = c.requires in let left = c.if-left-eq0.false in
    iterates left p.0.stands p.1 c.eat_any-key.ensures c.eat_any-bracket.ensures c.eat_any-colon.ensures
    c.eat_any.ensures c.visibility-v.ensures in
    let into : ((let a0 = c.args in Seg a0.set a0.src.now a0.left (state (goto for_clause) 0 a0.c a0.w a0.out.now) size 0 (state (eat 76 ▸ expression ▸ shape) 1 c.in_ok-c2.field-0.0 c.in_ok-c2.field-0.1 c.pat.new.out))) =
    Steps.took c.pat.ensures c.in_ok-c2.was headed in
    let opened : ((let a0 = c.args in Seg a0.set a0.src.now a0.left (state (goto for_clause) 0 a0.c a0.w a0.out.now) (size + 1) 0 (state (expression ▸ shape) 1 c.in_ok-c3.field-0.0 c.in_ok-c3.field-0.1 c.pat.new.out))) =
    Steps.ate c.eat.ensures c.in_ok-c3.was into in
    let value : ((let a0 = c.args in Seg a0.set a0.src.now a0.left (state (goto for_clause) 0 a0.c a0.w a0.out.now) (size + 1) 0 (state shape 2 c.in_ok-c4.field-0.0 c.in_ok-c4.field-0.1 c.expr.new.out))) =
    Steps.took c.expr.ensures c.in_ok-c4.was opened in
    let closed : ((let a0 = c.args in Seg a0.set a0.src.now a0.left (state (goto for_clause) 0 a0.c a0.w a0.out.now) 0 0 (state end 1 c.in_ok-c4.field-0.0 c.put_iteration-w5.result c.put_iteration-w5.new.out))) =
    iteration_closed key.start key.end c.visibility-v.result.byte (lies stood).within c.put_iteration-w5.ensures value in
    Steps.same closed

pub each-returns : goal.each-returns
each-returns t c =
    let key : (Cursor) =
    c.eat_any-key.result in
    let stood : (Stands c.args.src.now key) =
    c.eat_any-key.ensures.stands in
    let size : (ℕ) =
    key.end - key.start + 1 in
    let shape : (Body) =
    close 35 (byte c.visibility-v.result.byte ∷ text (slice key.start key.end c.args.src.now) ∷ []) ▸ end in
    let headed : ((let a0 = c.args in Seg a0.set a0.src.now a0.left (state (goto for_clause) 0 a0.c a0.w a0.out.now) size 0 (state (sub pattern ▸ eat 76 ▸ expression ▸ shape) 0 c.visibility-v.result.cursor c.args.w c.args.out.now))) =
    let p = c.requires in let left = c.if-left-eq0.false in
    iterates left p.0.stands p.1 c.eat_any-key.ensures c.eat_any-bracket.ensures c.eat_any-colon.ensures
    c.eat_any.ensures c.visibility-v.ensures in
    let into : ((let a0 = c.args in Seg a0.set a0.src.now a0.left (state (goto for_clause) 0 a0.c a0.w a0.out.now) size 0 (state (eat 76 ▸ expression ▸ shape) 1 c.in_ok-c2.field-0.0 c.in_ok-c2.field-0.1 c.pat.new.out))) =
    Steps.took c.pat.ensures c.in_ok-c2.was headed in
    let opened : ((let a0 = c.args in Seg a0.set a0.src.now a0.left (state (goto for_clause) 0 a0.c a0.w a0.out.now) (size + 1) 0 (state (expression ▸ shape) 1 c.in_ok-c3.field-0.0 c.in_ok-c3.field-0.1 c.pat.new.out))) =
    Steps.ate c.eat.ensures c.in_ok-c3.was into in
    let value : ((let a0 = c.args in Seg a0.set a0.src.now a0.left (state (goto for_clause) 0 a0.c a0.w a0.out.now) (size + 1) 0 (state shape 2 c.in_ok-c4.field-0.0 c.in_ok-c4.field-0.1 c.expr.new.out))) =
    Steps.took c.expr.ensures c.in_ok-c4.was opened in
    let closed : ((let a0 = c.args in Seg a0.set a0.src.now a0.left (state (goto for_clause) 0 a0.c a0.w a0.out.now) 0 0 (state end 1 c.in_ok-c4.field-0.0 c.put_iteration-w5.result c.put_iteration-w5.new.out))) =
    iteration_closed key.start key.end c.visibility-v.result.byte (lies stood).within c.put_iteration-w5.ensures value in
    Steps.ends (lit≤ tt) closed

pub ends-loop-cur-init : goal.ends-loop-cur-init
ends-loop-cur-init t c =
    let word =
    slice c.args.name.start c.args.name.end c.args.src.now in
    let n = c.args.n in
    let none : n ≡ n + 0 = omega arith in
    (array_rest_end n c.args.keep word, at_rest, record { ok = c.requires.0; seg = Steps.count_is none Steps.here; same = refl }, omega arith)

pub ends-array_pattern_close-requires-then-next-eq-R_BRACK : goal.ends-array_pattern_close-requires-then-next-eq-R_BRACK
ends-array_pattern_close-requires-then-next-eq-R_BRACK t c =
    let word =
    slice c.args.name.start c.args.name.end c.args.src.now in
    let comma =
    let st = c.loop-cur.invariant.2.ok.stands in
    let is = c.if-cur-ne-COMMA.false in
    Steps.taken (lit< tt) st c.eat_any-next.ensures is
    (Steps.known (eat 33 ▸ goto (pattern_ends c.args.n c.args.keep word)) st is
    (λ xs t. ending_comma c.args.set _ xs _ c.args.n c.args.keep word t c.loop-cur.invariant.1) (let a0 = c.args in Steps.at a0.set a0.src.now a0.left (goto c.loop-cur.invariant.0) (a0.n + c.loop-cur.m) c.loop-cur.cur c.loop-cur.at c.loop-cur.out)) in
    let i = c.loop-cur.invariant in
    let p = c.requires in let on = comma.onward in
    (Steps.ready i.2.ok (lit≤ tt) comma, omega (arith, p.1, i.2.seg.onward, on), omega (arith, i.3, on), p.2, p.3)

pub ends-pat-requires : goal.ends-pat-requires
ends-pat-requires t c =
    let word =
    slice c.args.name.start c.args.name.end c.args.src.now in
    let comma =
    let st = c.loop-cur.invariant.2.ok.stands in
    let is = c.if-cur-ne-COMMA.false in
    Steps.taken (lit< tt) st c.eat_any-next.ensures is
    (Steps.known (eat 33 ▸ goto (pattern_ends c.args.n c.args.keep word)) st is
    (λ xs t. ending_comma c.args.set _ xs _ c.args.n c.args.keep word t c.loop-cur.invariant.1) (let a0 = c.args in Steps.at a0.set a0.src.now a0.left (goto c.loop-cur.invariant.0) (a0.n + c.loop-cur.m) c.loop-cur.cur c.loop-cur.at c.loop-cur.out)) in
    (omega (arith, c.decreases), Steps.ready c.loop-cur.invariant.2.ok (lit≤ tt) comma)

pub ends-overflow_add-m : goal.ends-overflow_add-m
ends-overflow_add-m t c =
    let i = c.loop-cur.invariant in omega (arith, i.3, i.2.ok.stands.within, i.2.ok.stands.short)

pub ends-loop-cur-smaller : goal.ends-loop-cur-smaller
ends-loop-cur-smaller t c =
    let word =
    slice c.args.name.start c.args.name.end c.args.src.now in
    let comma =
    let st = c.loop-cur.invariant.2.ok.stands in
    let is = c.if-cur-ne-COMMA.false in
    Steps.taken (lit< tt) st c.eat_any-next.ensures is
    (Steps.known (eat 33 ▸ goto (pattern_ends c.args.n c.args.keep word)) st is
    (λ xs t. ending_comma c.args.set _ xs _ c.args.n c.args.keep word t c.loop-cur.invariant.1) (let a0 = c.args in Steps.at a0.set a0.src.now a0.left (goto c.loop-cur.invariant.0) (a0.n + c.loop-cur.m) c.loop-cur.cur c.loop-cur.at c.loop-cur.out)) in
    let opened =
    Steps.known (sub pattern ▸ goto (pattern_ends_end c.args.n c.args.keep word)) c.eat_any-next.ensures.stands refl
    (λ xs t. ends_one c.args.set _ xs _ c.args.n c.args.keep word _ t c.if-next-eq-R_BRACK.false) comma in
    let one =
    let n = c.args.n in
    let sum : n + c.loop-cur.m + 1 ≡ n + (c.loop-cur.m + 1) = omega arith in
    Steps.count_is sum (Steps.took c.pat.ensures c.in_ok-c1.was opened) in
    Steps.closer c.loop-cur.invariant.2.ok (lit≤ tt) one

pub ends-loop-cur-preserved : goal.ends-loop-cur-preserved
ends-loop-cur-preserved t c =
    let word =
    slice c.args.name.start c.args.name.end c.args.src.now in
    let comma =
    let st = c.loop-cur.invariant.2.ok.stands in
    let is = c.if-cur-ne-COMMA.false in
    Steps.taken (lit< tt) st c.eat_any-next.ensures is
    (Steps.known (eat 33 ▸ goto (pattern_ends c.args.n c.args.keep word)) st is
    (λ xs t. ending_comma c.args.set _ xs _ c.args.n c.args.keep word t c.loop-cur.invariant.1) (let a0 = c.args in Steps.at a0.set a0.src.now a0.left (goto c.loop-cur.invariant.0) (a0.n + c.loop-cur.m) c.loop-cur.cur c.loop-cur.at c.loop-cur.out)) in
    let opened =
    Steps.known (sub pattern ▸ goto (pattern_ends_end c.args.n c.args.keep word)) c.eat_any-next.ensures.stands refl
    (λ xs t. ends_one c.args.set _ xs _ c.args.n c.args.keep word _ t c.if-next-eq-R_BRACK.false) comma in
    let one =
    let n = c.args.n in
    let sum : n + c.loop-cur.m + 1 ≡ n + (c.loop-cur.m + 1) = omega arith in
    Steps.count_is sum (Steps.took c.pat.ensures c.in_ok-c1.was opened) in
    let i = c.loop-cur.invariant in
    (pattern_ends_end c.args.n c.args.keep word, at_pattern, Steps.turned i.2 (lit≤ tt) one, omega (arith, i.3, one.onward))

pub ends-returns-then-cur-ne-COMMA : goal.ends-returns-then-cur-ne-COMMA
ends-returns-then-cur-ne-COMMA t c =
    let word =
    slice c.args.name.start c.args.name.end c.args.src.now in
    let a = c.args in let i = c.loop-cur.invariant in
    Steps.tail (omega arith) (c.array_pattern_close.ensures.ends a.set a.left)
    (Steps.known (goto (array_pattern_close a.n a.keep word)) i.2.ok.stands refl
    (λ xs t. ending_over a.set _ xs _ a.n a.keep word _ t i.1 c.if-cur-ne-COMMA.true) i.2.seg)

pub ends-returns-then-next-eq-R_BRACK : goal.ends-returns-then-next-eq-R_BRACK
ends-returns-then-next-eq-R_BRACK t c =
    let word =
    slice c.args.name.start c.args.name.end c.args.src.now in
    let comma =
    let st = c.loop-cur.invariant.2.ok.stands in
    let is = c.if-cur-ne-COMMA.false in
    Steps.taken (lit< tt) st c.eat_any-next.ensures is
    (Steps.known (eat 33 ▸ goto (pattern_ends c.args.n c.args.keep word)) st is
    (λ xs t. ending_comma c.args.set _ xs _ c.args.n c.args.keep word t c.loop-cur.invariant.1) (let a0 = c.args in Steps.at a0.set a0.src.now a0.left (goto c.loop-cur.invariant.0) (a0.n + c.loop-cur.m) c.loop-cur.cur c.loop-cur.at c.loop-cur.out)) in
    let a = c.args in
    Steps.tail (omega arith) (c.array_pattern_close-then-next-eq-R_BRACK.ensures.ends a.set a.left)
    (Steps.onto c.loop-cur.invariant.2.seg (Steps.known (goto (array_pattern_close a.n a.keep word)) c.eat_any-next.ensures.stands c.if-next-eq-R_BRACK.true
    (λ xs t. ends_close a.set _ xs _ a.n a.keep word t) comma))

pub ends-returns-in_err-c1 : goal.ends-returns-in_err-c1
ends-returns-in_err-c1 t c =
    let word =
    slice c.args.name.start c.args.name.end c.args.src.now in
    let comma =
    let st = c.loop-cur.invariant.2.ok.stands in
    let is = c.if-cur-ne-COMMA.false in
    Steps.taken (lit< tt) st c.eat_any-next.ensures is
    (Steps.known (eat 33 ▸ goto (pattern_ends c.args.n c.args.keep word)) st is
    (λ xs t. ending_comma c.args.set _ xs _ c.args.n c.args.keep word t c.loop-cur.invariant.1) (let a0 = c.args in Steps.at a0.set a0.src.now a0.left (goto c.loop-cur.invariant.0) (a0.n + c.loop-cur.m) c.loop-cur.cur c.loop-cur.at c.loop-cur.out)) in
    let opened =
    Steps.known (sub pattern ▸ goto (pattern_ends_end c.args.n c.args.keep word)) c.eat_any-next.ensures.stands refl
    (λ xs t. ends_one c.args.set _ xs _ c.args.n c.args.keep word _ t c.if-next-eq-R_BRACK.false) comma in
    Steps.passed (Steps.takes_broken c.pat.ensures c.in_err-c1.was (Steps.handed c.from_residual.ensures)) (Steps.onto c.loop-cur.invariant.2.seg opened)

pub expr-loop-op-init : goal.expr-loop-op-init
expr-loop-op-init t c =
    let head =
    Steps.went c.sign.ensures c.in_ok-c1.was (let g0 = c.args in Steps.at g0.set g0.src.now (g0.left - 1) (goto (expr g0.least)) 0 g0.c g0.w g0.out.now) in
    Steps.begun (Steps.ready c.requires (lit≤ tt) head)

pub expr-expr-requires : goal.expr-expr-requires
expr-expr-requires t c =
    let tail =
    let cur = c.loop-op.cur in
    close 13 (byte c.in-Some.op.byte ∷ span cur.start cur.end ∷ []) ▸ goto (infix_tail c.args.least) in
    let opened =
    let g = c.args in
    let cur = c.loop-op.cur in let found = c.infix.ensures in
    let st = c.loop-op.invariant.ok.stands in
    Steps.taken (infix_kind g.set found c.in-Some.is) st c.eat_any.ensures refl
    (Steps.known (eat cur.kind ▸ deep (expr c.in-Some.op.right) ▸ tail) st refl
    (λ xs t. an_operator g.set cur xs 1 g.least cur.kind t found c.in-Some.is c.if-op-least.false) (let g0 = c.args in Steps.at g0.set g0.src.now (g0.left - 1) (goto (infix_tail g0.least)) 1 c.loop-op.cur c.loop-op.at c.loop-op.out)) in
    (omega (arith, c.decreases, c.if-left-eq0.false), Steps.ready c.loop-op.invariant.ok (lit≤ tt) opened)

pub expr-put_kind-at-requires : goal.expr-put_kind-at-requires
expr-put_kind-at-requires t c =
    let tail =
    let cur = c.loop-op.cur in
    close 13 (byte c.in-Some.op.byte ∷ span cur.start cur.end ∷ []) ▸ goto (infix_tail c.args.least) in
    let opened =
    let g = c.args in
    let cur = c.loop-op.cur in let found = c.infix.ensures in
    let st = c.loop-op.invariant.ok.stands in
    Steps.taken (infix_kind g.set found c.in-Some.is) st c.eat_any.ensures refl
    (Steps.known (eat cur.kind ▸ deep (expr c.in-Some.op.right) ▸ tail) st refl
    (λ xs t. an_operator g.set cur xs 1 g.least cur.kind t found c.in-Some.is c.if-op-least.false) (let g0 = c.args in Steps.at g0.set g0.src.now (g0.left - 1) (goto (infix_tail g0.least)) 1 c.loop-op.cur c.loop-op.at c.loop-op.out)) in
    let value =
    Steps.took c.expr.ensures c.in_ok-c2.was opened in
    let p = c.loop-op.invariant.ok in
    let l = lies p.stands in let z = (value.stands p.stands).within in
    (Steps.fits p (lit≤ tt) value, omega (arith, l.from, l.on, l.within, z, p.stands.short), omega (arith, l.from, l.on, l.within, z, p.stands.short))

pub expr-loop-op-smaller : goal.expr-loop-op-smaller
unfolding entry payload
expr-loop-op-smaller t c =
    let tail =
    let cur = c.loop-op.cur in
    close 13 (byte c.in-Some.op.byte ∷ span cur.start cur.end ∷ []) ▸ goto (infix_tail c.args.least) in
    let opened =
    let g = c.args in
    let cur = c.loop-op.cur in let found = c.infix.ensures in
    let st = c.loop-op.invariant.ok.stands in
    Steps.taken (infix_kind g.set found c.in-Some.is) st c.eat_any.ensures refl
    (Steps.known (eat cur.kind ▸ deep (expr c.in-Some.op.right) ▸ tail) st refl
    (λ xs t. an_operator g.set cur xs 1 g.least cur.kind t found c.in-Some.is c.if-op-least.false) (let g0 = c.args in Steps.at g0.set g0.src.now (g0.left - 1) (goto (infix_tail g0.least)) 1 c.loop-op.cur c.loop-op.at c.loop-op.out)) in
    let value =
    Steps.took c.expr.ensures c.in_ok-c2.was opened in
    let joined =
    Steps.closed 8 (lit≤ tt) c.put_kind-at.ensures value in
    Steps.closer c.loop-op.invariant.ok (lit≤ tt) joined

pub expr-loop-op-preserved : goal.expr-loop-op-preserved
unfolding entry payload
expr-loop-op-preserved t c =
    let tail =
    let cur = c.loop-op.cur in
    close 13 (byte c.in-Some.op.byte ∷ span cur.start cur.end ∷ []) ▸ goto (infix_tail c.args.least) in
    let opened =
    let g = c.args in
    let cur = c.loop-op.cur in let found = c.infix.ensures in
    let st = c.loop-op.invariant.ok.stands in
    Steps.taken (infix_kind g.set found c.in-Some.is) st c.eat_any.ensures refl
    (Steps.known (eat cur.kind ▸ deep (expr c.in-Some.op.right) ▸ tail) st refl
    (λ xs t. an_operator g.set cur xs 1 g.least cur.kind t found c.in-Some.is c.if-op-least.false) (let g0 = c.args in Steps.at g0.set g0.src.now (g0.left - 1) (goto (infix_tail g0.least)) 1 c.loop-op.cur c.loop-op.at c.loop-op.out)) in
    let value =
    Steps.took c.expr.ensures c.in_ok-c2.was opened in
    let joined =
    Steps.closed 8 (lit≤ tt) c.put_kind-at.ensures value in
    Steps.turned c.loop-op.invariant (lit≤ tt) joined

pub expr-returns-then-left-eq0 : goal.expr-returns-then-left-eq0
expr-returns-then-left-eq0 t c =
    record { takes = λ b n. Steps.broke (Steps.too_deep c.if-left-eq0.true c.requires.stands) c.error.ensures }

pub expr-returns-in_err-c1 : goal.expr-returns-in_err-c1
expr-returns-in_err-c1 t c =
    Steps.as_deep c.if-left-eq0.false (Steps.passed (Steps.leads_broken c.sign.ensures c.in_err-c1.was (Steps.handed c.from_residual.ensures)) Steps.here)

pub expr-returns-in_default : goal.expr-returns-in_default
expr-returns-in_default t c =
    let head =
    Steps.went c.sign.ensures c.in_ok-c1.was (let g0 = c.args in Steps.at g0.set g0.src.now (g0.left - 1) (goto (expr g0.least)) 0 g0.c g0.w g0.out.now) in
    let whole =
    Steps.then head c.loop-op.invariant.seg in
    let g = c.args in let cur = c.loop-op.cur in
    Steps.as_deep c.if-left-eq0.false (Steps.ends (lit≤ tt) (Steps.known end c.loop-op.invariant.ok.stands refl
    (λ xs t. no_operator g.set cur xs 1 g.least cur.kind t c.infix.ensures c.in_default.is) whole))

pub expr-returns-then-op-least : goal.expr-returns-then-op-least
expr-returns-then-op-least t c =
    let head =
    Steps.went c.sign.ensures c.in_ok-c1.was (let g0 = c.args in Steps.at g0.set g0.src.now (g0.left - 1) (goto (expr g0.least)) 0 g0.c g0.w g0.out.now) in
    let whole =
    Steps.then head c.loop-op.invariant.seg in
    let g = c.args in
    let cur = c.loop-op.cur in
    Steps.as_deep c.if-left-eq0.false (Steps.ends (lit≤ tt) (Steps.known end c.loop-op.invariant.ok.stands refl
    (λ xs t. weak_operator g.set cur xs 1 g.least cur.kind t c.infix.ensures c.in-Some.is c.if-op-least.true) whole))

pub expr-returns-in_err-c2 : goal.expr-returns-in_err-c2
expr-returns-in_err-c2 t c =
    let head =
    Steps.went c.sign.ensures c.in_ok-c1.was (let g0 = c.args in Steps.at g0.set g0.src.now (g0.left - 1) (goto (expr g0.least)) 0 g0.c g0.w g0.out.now) in
    let whole =
    Steps.then head c.loop-op.invariant.seg in
    let tail =
    let cur = c.loop-op.cur in
    close 13 (byte c.in-Some.op.byte ∷ span cur.start cur.end ∷ []) ▸ goto (infix_tail c.args.least) in
    let opened =
    let g = c.args in
    let cur = c.loop-op.cur in let found = c.infix.ensures in
    let st = c.loop-op.invariant.ok.stands in
    Steps.taken (infix_kind g.set found c.in-Some.is) st c.eat_any.ensures refl
    (Steps.known (eat cur.kind ▸ deep (expr c.in-Some.op.right) ▸ tail) st refl
    (λ xs t. an_operator g.set cur xs 1 g.least cur.kind t found c.in-Some.is c.if-op-least.false) (let g0 = c.args in Steps.at g0.set g0.src.now (g0.left - 1) (goto (infix_tail g0.least)) 1 c.loop-op.cur c.loop-op.at c.loop-op.out)) in
    Steps.as_deep c.if-left-eq0.false (Steps.passed (Steps.takes_broken c.expr.ensures c.in_err-c2.was (Steps.handed c.from_residual-in_err-c2.ensures)) (Steps.onto whole opened))

pub field-eat_any-requires : goal.field-eat_any-requires
field-eat_any-requires t c =
    let computed : (ℕ) =
    c.in_ok-c1.field-0.2 in
    let named : ((Seg c.args.set c.args.src.now c.args.left (state (goto field) 0 c.args.c c.args.w c.args.out.now) 0 0 (state (titled c.args.c.start computed) 1 c.in_ok-c1.field-0.0 c.in_ok-c1.field-0.1 c.name.new.out))) =
    Steps.follows c.name.ensures c.in_ok-c1.was (Steps.at c.args.set c.args.src.now c.args.left (goto field) 0 c.args.c c.args.w c.args.out.now) in
    let there : (Stands c.args.src.now c.in_ok-c1.field-0.0) =
    named.stands c.requires.stands in
    there

pub field-params-requires : goal.field-params-requires
unfolding choose has rule sight
field-params-requires t c =
    let computed : (ℕ) =
    c.in_ok-c1.field-0.2 in
    let named : ((Seg c.args.set c.args.src.now c.args.left (state (goto field) 0 c.args.c c.args.w c.args.out.now) 0 0 (state (titled c.args.c.start computed) 1 c.in_ok-c1.field-0.0 c.in_ok-c1.field-0.1 c.name.new.out))) =
    Steps.follows c.name.ensures c.in_ok-c1.was (Steps.at c.args.set c.args.src.now c.args.left (goto field) 0 c.args.c c.args.w c.args.out.now) in
    let there : (Stands c.args.src.now c.in_ok-c1.field-0.0) =
    named.stands c.requires.stands in
    let opened : ((Seg c.args.set c.args.src.now c.args.left (state (goto field) 0 c.args.c c.args.w c.args.out.now) 1 0 (state (sub params ▸ eat 26 ▸ (goto (field_value c.args.c.start c.in_ok-c1.field-0.0.at computed 0 1))) 1 c.eat_any.result c.in_ok-c1.field-0.1 c.name.new.out))) =
    let is = c.if-c1-eq-L_PAREN.true in
    Steps.taken (lit< tt) there c.eat_any.ensures is (Steps.known (eat 25 ▸ sub params ▸ eat 26 ▸ (goto (field_value c.args.c.start c.in_ok-c1.field-0.0.at computed 0 1))) there is (λ xs t. refl) named) in
    (omega (arith, c.decreases), Steps.ready c.requires (lit≤ tt) opened)

pub field-eat-requires : goal.field-eat-requires
unfolding choose has rule sight
field-eat-requires t c =
    let computed : (ℕ) =
    c.in_ok-c1.field-0.2 in
    let named : ((Seg c.args.set c.args.src.now c.args.left (state (goto field) 0 c.args.c c.args.w c.args.out.now) 0 0 (state (titled c.args.c.start computed) 1 c.in_ok-c1.field-0.0 c.in_ok-c1.field-0.1 c.name.new.out))) =
    Steps.follows c.name.ensures c.in_ok-c1.was (Steps.at c.args.set c.args.src.now c.args.left (goto field) 0 c.args.c c.args.w c.args.out.now) in
    let there : (Stands c.args.src.now c.in_ok-c1.field-0.0) =
    named.stands c.requires.stands in
    let opened : ((Seg c.args.set c.args.src.now c.args.left (state (goto field) 0 c.args.c c.args.w c.args.out.now) 1 0 (state (sub params ▸ eat 26 ▸ (goto (field_value c.args.c.start c.in_ok-c1.field-0.0.at computed 0 1))) 1 c.eat_any.result c.in_ok-c1.field-0.1 c.name.new.out))) =
    let is = c.if-c1-eq-L_PAREN.true in
    Steps.taken (lit< tt) there c.eat_any.ensures is (Steps.known (eat 25 ▸ sub params ▸ eat 26 ▸ (goto (field_value c.args.c.start c.in_ok-c1.field-0.0.at computed 0 1))) there is (λ xs t. refl) named) in
    let many : (ℕ) =
    c.in_ok-c2.field-0.2 in
    let listed : ((Seg c.args.set c.args.src.now c.args.left (state (goto field) 0 c.args.c c.args.w c.args.out.now) 1 4 (state (eat 26 ▸ (goto (field_value c.args.c.start c.in_ok-c1.field-0.0.at computed 0 1))) (1 + many) c.in_ok-c2.field-0.0 c.in_ok-c2.field-0.1 c.params.new.out))) =
    Steps.took_owing (Steps.counted c.params.ensures c.in_ok-c2.was).0 refl opened in
    (lit< tt, listed.stands c.requires.stands)

pub field-value-requires : goal.field-value-requires
unfolding choose has rule sight
field-value-requires t c =
    let computed : (ℕ) =
    c.in_ok-c1.field-0.2 in
    let named : ((Seg c.args.set c.args.src.now c.args.left (state (goto field) 0 c.args.c c.args.w c.args.out.now) 0 0 (state (titled c.args.c.start computed) 1 c.in_ok-c1.field-0.0 c.in_ok-c1.field-0.1 c.name.new.out))) =
    Steps.follows c.name.ensures c.in_ok-c1.was (Steps.at c.args.set c.args.src.now c.args.left (goto field) 0 c.args.c c.args.w c.args.out.now) in
    let there : (Stands c.args.src.now c.in_ok-c1.field-0.0) =
    named.stands c.requires.stands in
    let title : ((c.args.c.start < 65536) × (c.in_ok-c1.field-0.0.at < 65536) × (computed ≤ 4)) =
    let r = c.requires in ((within r).0, place r there, Steps.told_small c.name.ensures c.in_ok-c1.was) in
    let many : (ℕ) =
    c.in_ok-c2.field-0.2 in
    let opened : ((Seg c.args.set c.args.src.now c.args.left (state (goto field) 0 c.args.c c.args.w c.args.out.now) 1 0 (state (sub params ▸ eat 26 ▸ (goto (field_value c.args.c.start c.in_ok-c1.field-0.0.at computed 0 1))) 1 c.eat_any.result c.in_ok-c1.field-0.1 c.name.new.out))) =
    let is = c.if-c1-eq-L_PAREN.true in
    Steps.taken (lit< tt) there c.eat_any.ensures is (Steps.known (eat 25 ▸ sub params ▸ eat 26 ▸ (goto (field_value c.args.c.start c.in_ok-c1.field-0.0.at computed 0 1))) there is (λ xs t. refl) named) in
    let listed : ((Seg c.args.set c.args.src.now c.args.left (state (goto field) 0 c.args.c c.args.w c.args.out.now) 1 4 (state (eat 26 ▸ (goto (field_value c.args.c.start c.in_ok-c1.field-0.0.at computed 0 1))) (1 + many) c.in_ok-c2.field-0.0 c.in_ok-c2.field-0.1 c.params.new.out))) =
    Steps.took_owing (Steps.counted c.params.ensures c.in_ok-c2.was).0 refl opened in
    let shut : ((Seg c.args.set c.args.src.now c.args.left (state (goto field) 0 c.args.c c.args.w c.args.out.now) 2 4 (state ((goto (field_value c.args.c.start c.in_ok-c1.field-0.0.at computed 0 1))) (many + 1) c.in_ok-c3.field-0.0 c.in_ok-c3.field-0.1 c.params.new.out))) =
    let n = many in
    Steps.count_is (let z : 1 + n ≡ n + 1 = omega arith in z) (Steps.ate c.eat.ensures c.in_ok-c3.was listed) in
    let few = (Steps.counted c.params.ensures c.in_ok-c2.was).1 in
    let on = (c.eat.ensures.moved _ _ _ c.in_ok-c3.was).0 in
    (omega (arith, c.decreases), (Steps.ready c.requires (lit≤ tt) shut, title.0, title.1, title.2, omega (arith, few, on)))

pub field-eat_any-requires-then-c1-eq-PLUS : goal.field-eat_any-requires-then-c1-eq-PLUS
field-eat_any-requires-then-c1-eq-PLUS t c =
    let computed : (ℕ) =
    c.in_ok-c1.field-0.2 in
    let named : ((Seg c.args.set c.args.src.now c.args.left (state (goto field) 0 c.args.c c.args.w c.args.out.now) 0 0 (state (titled c.args.c.start computed) 1 c.in_ok-c1.field-0.0 c.in_ok-c1.field-0.1 c.name.new.out))) =
    Steps.follows c.name.ensures c.in_ok-c1.was (Steps.at c.args.set c.args.src.now c.args.left (goto field) 0 c.args.c c.args.w c.args.out.now) in
    let there : (Stands c.args.src.now c.in_ok-c1.field-0.0) =
    named.stands c.requires.stands in
    there

pub field-value-requires-then-c1-eq-PLUS : goal.field-value-requires-then-c1-eq-PLUS
unfolding choose has rule sight
field-value-requires-then-c1-eq-PLUS t c =
    let computed : (ℕ) =
    c.in_ok-c1.field-0.2 in
    let named : ((Seg c.args.set c.args.src.now c.args.left (state (goto field) 0 c.args.c c.args.w c.args.out.now) 0 0 (state (titled c.args.c.start computed) 1 c.in_ok-c1.field-0.0 c.in_ok-c1.field-0.1 c.name.new.out))) =
    Steps.follows c.name.ensures c.in_ok-c1.was (Steps.at c.args.set c.args.src.now c.args.left (goto field) 0 c.args.c c.args.w c.args.out.now) in
    let there : (Stands c.args.src.now c.in_ok-c1.field-0.0) =
    named.stands c.requires.stands in
    let title : ((c.args.c.start < 65536) × (c.in_ok-c1.field-0.0.at < 65536) × (computed ≤ 4)) =
    let r = c.requires in ((within r).0, place r there, Steps.told_small c.name.ensures c.in_ok-c1.was) in
    let adds : ((Seg c.args.set c.args.src.now c.args.left (state (goto field) 0 c.args.c c.args.w c.args.out.now) 1 0 (state ((goto (field_value c.args.c.start c.in_ok-c1.field-0.0.at computed 1 0))) 1 c.eat_any-then-c1-eq-PLUS.result c.in_ok-c1.field-0.1 c.name.new.out))) =
    let is = c.if-c1-eq-PLUS.true in
    Steps.taken (lit< tt) there c.eat_any-then-c1-eq-PLUS.ensures is (Steps.known (eat 16 ▸ (goto (field_value c.args.c.start c.in_ok-c1.field-0.0.at computed 1 0))) there is (λ xs t. refl) named) in
    (omega (arith, c.decreases), (Steps.ready c.requires (lit≤ tt) adds, title.0, title.1, title.2, omega arith))

pub field-value-requires-2 : goal.field-value-requires-2
unfolding choose has rule sight
field-value-requires-2 t c =
    let computed : (ℕ) =
    c.in_ok-c1.field-0.2 in
    let named : ((Seg c.args.set c.args.src.now c.args.left (state (goto field) 0 c.args.c c.args.w c.args.out.now) 0 0 (state (titled c.args.c.start computed) 1 c.in_ok-c1.field-0.0 c.in_ok-c1.field-0.1 c.name.new.out))) =
    Steps.follows c.name.ensures c.in_ok-c1.was (Steps.at c.args.set c.args.src.now c.args.left (goto field) 0 c.args.c c.args.w c.args.out.now) in
    let there : (Stands c.args.src.now c.in_ok-c1.field-0.0) =
    named.stands c.requires.stands in
    let title : ((c.args.c.start < 65536) × (c.in_ok-c1.field-0.0.at < 65536) × (computed ≤ 4)) =
    let r = c.requires in ((within r).0, place r there, Steps.told_small c.name.ensures c.in_ok-c1.was) in
    let plain : ((Seg c.args.set c.args.src.now c.args.left (state (goto field) 0 c.args.c c.args.w c.args.out.now) 0 0 (state ((goto (field_value c.args.c.start c.in_ok-c1.field-0.0.at computed 0 0))) 1 c.in_ok-c1.field-0.0 c.in_ok-c1.field-0.1 c.name.new.out))) =
    Steps.known ((goto (field_value c.args.c.start c.in_ok-c1.field-0.0.at computed 0 0))) there refl (λ xs t. simp (ne_eqb _ 25 c.if-c1-eq-L_PAREN.false, ne_eqb _ 16 c.if-c1-eq-PLUS.false)) named in
    (omega (arith, c.decreases), (Steps.ready c.requires (lit≤ tt) plain, title.0, title.1, title.2, omega arith))

pub field-returns-in_err-c1 : goal.field-returns-in_err-c1
field-returns-in_err-c1 t c =
    Steps.as_sub (Steps.passed (Steps.tells_broken c.name.ensures c.in_err-c1.was (Steps.handed c.from_residual.ensures)) Steps.here)

pub field-returns-in_err-c2 : goal.field-returns-in_err-c2
unfolding choose has rule sight
field-returns-in_err-c2 t c =
    let computed : (ℕ) =
    c.in_ok-c1.field-0.2 in
    let named : ((Seg c.args.set c.args.src.now c.args.left (state (goto field) 0 c.args.c c.args.w c.args.out.now) 0 0 (state (titled c.args.c.start computed) 1 c.in_ok-c1.field-0.0 c.in_ok-c1.field-0.1 c.name.new.out))) =
    Steps.follows c.name.ensures c.in_ok-c1.was (Steps.at c.args.set c.args.src.now c.args.left (goto field) 0 c.args.c c.args.w c.args.out.now) in
    let there : (Stands c.args.src.now c.in_ok-c1.field-0.0) =
    named.stands c.requires.stands in
    let opened : ((Seg c.args.set c.args.src.now c.args.left (state (goto field) 0 c.args.c c.args.w c.args.out.now) 1 0 (state (sub params ▸ eat 26 ▸ (goto (field_value c.args.c.start c.in_ok-c1.field-0.0.at computed 0 1))) 1 c.eat_any.result c.in_ok-c1.field-0.1 c.name.new.out))) =
    let is = c.if-c1-eq-L_PAREN.true in
    Steps.taken (lit< tt) there c.eat_any.ensures is (Steps.known (eat 25 ▸ sub params ▸ eat 26 ▸ (goto (field_value c.args.c.start c.in_ok-c1.field-0.0.at computed 0 1))) there is (λ xs t. refl) named) in
    Steps.as_sub (Steps.passed (Steps.counts_broken c.params.ensures c.in_err-c2.was (Steps.handed c.from_residual-in_err-c2.ensures)) opened)

pub field-shape_of-out-in_err-c3 : goal.field-shape_of-out-in_err-c3
unfolding choose has rule sight
field-shape_of-out-in_err-c3 t c =
    let computed : (ℕ) =
    c.in_ok-c1.field-0.2 in
    let named : ((Seg c.args.set c.args.src.now c.args.left (state (goto field) 0 c.args.c c.args.w c.args.out.now) 0 0 (state (titled c.args.c.start computed) 1 c.in_ok-c1.field-0.0 c.in_ok-c1.field-0.1 c.name.new.out))) =
    Steps.follows c.name.ensures c.in_ok-c1.was (Steps.at c.args.set c.args.src.now c.args.left (goto field) 0 c.args.c c.args.w c.args.out.now) in
    let there : (Stands c.args.src.now c.in_ok-c1.field-0.0) =
    named.stands c.requires.stands in
    let opened : ((Seg c.args.set c.args.src.now c.args.left (state (goto field) 0 c.args.c c.args.w c.args.out.now) 1 0 (state (sub params ▸ eat 26 ▸ (goto (field_value c.args.c.start c.in_ok-c1.field-0.0.at computed 0 1))) 1 c.eat_any.result c.in_ok-c1.field-0.1 c.name.new.out))) =
    let is = c.if-c1-eq-L_PAREN.true in
    Steps.taken (lit< tt) there c.eat_any.ensures is (Steps.known (eat 25 ▸ sub params ▸ eat 26 ▸ (goto (field_value c.args.c.start c.in_ok-c1.field-0.0.at computed 0 1))) there is (λ xs t. refl) named) in
    let many : (ℕ) =
    c.in_ok-c2.field-0.2 in
    let listed : ((Seg c.args.set c.args.src.now c.args.left (state (goto field) 0 c.args.c c.args.w c.args.out.now) 1 4 (state (eat 26 ▸ (goto (field_value c.args.c.start c.in_ok-c1.field-0.0.at computed 0 1))) (1 + many) c.in_ok-c2.field-0.0 c.in_ok-c2.field-0.1 c.params.new.out))) =
    Steps.took_owing (Steps.counted c.params.ensures c.in_ok-c2.was).0 refl opened in
    Steps.same listed

pub field-returns-in_err-c3 : goal.field-returns-in_err-c3
unfolding choose has rule sight
field-returns-in_err-c3 t c =
    let computed : (ℕ) =
    c.in_ok-c1.field-0.2 in
    let named : ((Seg c.args.set c.args.src.now c.args.left (state (goto field) 0 c.args.c c.args.w c.args.out.now) 0 0 (state (titled c.args.c.start computed) 1 c.in_ok-c1.field-0.0 c.in_ok-c1.field-0.1 c.name.new.out))) =
    Steps.follows c.name.ensures c.in_ok-c1.was (Steps.at c.args.set c.args.src.now c.args.left (goto field) 0 c.args.c c.args.w c.args.out.now) in
    let there : (Stands c.args.src.now c.in_ok-c1.field-0.0) =
    named.stands c.requires.stands in
    let opened : ((Seg c.args.set c.args.src.now c.args.left (state (goto field) 0 c.args.c c.args.w c.args.out.now) 1 0 (state (sub params ▸ eat 26 ▸ (goto (field_value c.args.c.start c.in_ok-c1.field-0.0.at computed 0 1))) 1 c.eat_any.result c.in_ok-c1.field-0.1 c.name.new.out))) =
    let is = c.if-c1-eq-L_PAREN.true in
    Steps.taken (lit< tt) there c.eat_any.ensures is (Steps.known (eat 25 ▸ sub params ▸ eat 26 ▸ (goto (field_value c.args.c.start c.in_ok-c1.field-0.0.at computed 0 1))) there is (λ xs t. refl) named) in
    let many : (ℕ) =
    c.in_ok-c2.field-0.2 in
    let listed : ((Seg c.args.set c.args.src.now c.args.left (state (goto field) 0 c.args.c c.args.w c.args.out.now) 1 4 (state (eat 26 ▸ (goto (field_value c.args.c.start c.in_ok-c1.field-0.0.at computed 0 1))) (1 + many) c.in_ok-c2.field-0.0 c.in_ok-c2.field-0.1 c.params.new.out))) =
    Steps.took_owing (Steps.counted c.params.ensures c.in_ok-c2.was).0 refl opened in
    Steps.as_sub (Steps.passed (Steps.eats_broken c.eat.ensures c.in_err-c3.was (Steps.handed c.from_residual-in_err-c3.ensures)) listed)

pub field-shape_of-out-then-c1-eq-L_PAREN : goal.field-shape_of-out-then-c1-eq-L_PAREN
unfolding choose has rule sight
field-shape_of-out-then-c1-eq-L_PAREN t c =
    let computed : (ℕ) =
    c.in_ok-c1.field-0.2 in
    let many : (ℕ) =
    c.in_ok-c2.field-0.2 in
    let named : ((Seg c.args.set c.args.src.now c.args.left (state (goto field) 0 c.args.c c.args.w c.args.out.now) 0 0 (state (titled c.args.c.start computed) 1 c.in_ok-c1.field-0.0 c.in_ok-c1.field-0.1 c.name.new.out))) =
    Steps.follows c.name.ensures c.in_ok-c1.was (Steps.at c.args.set c.args.src.now c.args.left (goto field) 0 c.args.c c.args.w c.args.out.now) in
    let there : (Stands c.args.src.now c.in_ok-c1.field-0.0) =
    named.stands c.requires.stands in
    let opened : ((Seg c.args.set c.args.src.now c.args.left (state (goto field) 0 c.args.c c.args.w c.args.out.now) 1 0 (state (sub params ▸ eat 26 ▸ (goto (field_value c.args.c.start c.in_ok-c1.field-0.0.at computed 0 1))) 1 c.eat_any.result c.in_ok-c1.field-0.1 c.name.new.out))) =
    let is = c.if-c1-eq-L_PAREN.true in
    Steps.taken (lit< tt) there c.eat_any.ensures is (Steps.known (eat 25 ▸ sub params ▸ eat 26 ▸ (goto (field_value c.args.c.start c.in_ok-c1.field-0.0.at computed 0 1))) there is (λ xs t. refl) named) in
    let listed : ((Seg c.args.set c.args.src.now c.args.left (state (goto field) 0 c.args.c c.args.w c.args.out.now) 1 4 (state (eat 26 ▸ (goto (field_value c.args.c.start c.in_ok-c1.field-0.0.at computed 0 1))) (1 + many) c.in_ok-c2.field-0.0 c.in_ok-c2.field-0.1 c.params.new.out))) =
    Steps.took_owing (Steps.counted c.params.ensures c.in_ok-c2.was).0 refl opened in
    let shut : ((Seg c.args.set c.args.src.now c.args.left (state (goto field) 0 c.args.c c.args.w c.args.out.now) 2 4 (state ((goto (field_value c.args.c.start c.in_ok-c1.field-0.0.at computed 0 1))) (many + 1) c.in_ok-c3.field-0.0 c.in_ok-c3.field-0.1 c.params.new.out))) =
    let n = many in
    Steps.count_is (let z : 1 + n ≡ n + 1 = omega arith in z) (Steps.ate c.eat.ensures c.in_ok-c3.was listed) in
    omega (arith, Steps.same shut, c.out-then-c1-eq-L_PAREN-2-1.given)

pub field-returns-then-c1-eq-L_PAREN : goal.field-returns-then-c1-eq-L_PAREN
unfolding choose has rule sight
field-returns-then-c1-eq-L_PAREN t c =
    let computed : (ℕ) =
    c.in_ok-c1.field-0.2 in
    let many : (ℕ) =
    c.in_ok-c2.field-0.2 in
    let named : ((Seg c.args.set c.args.src.now c.args.left (state (goto field) 0 c.args.c c.args.w c.args.out.now) 0 0 (state (titled c.args.c.start computed) 1 c.in_ok-c1.field-0.0 c.in_ok-c1.field-0.1 c.name.new.out))) =
    Steps.follows c.name.ensures c.in_ok-c1.was (Steps.at c.args.set c.args.src.now c.args.left (goto field) 0 c.args.c c.args.w c.args.out.now) in
    let there : (Stands c.args.src.now c.in_ok-c1.field-0.0) =
    named.stands c.requires.stands in
    let opened : ((Seg c.args.set c.args.src.now c.args.left (state (goto field) 0 c.args.c c.args.w c.args.out.now) 1 0 (state (sub params ▸ eat 26 ▸ (goto (field_value c.args.c.start c.in_ok-c1.field-0.0.at computed 0 1))) 1 c.eat_any.result c.in_ok-c1.field-0.1 c.name.new.out))) =
    let is = c.if-c1-eq-L_PAREN.true in
    Steps.taken (lit< tt) there c.eat_any.ensures is (Steps.known (eat 25 ▸ sub params ▸ eat 26 ▸ (goto (field_value c.args.c.start c.in_ok-c1.field-0.0.at computed 0 1))) there is (λ xs t. refl) named) in
    let listed : ((Seg c.args.set c.args.src.now c.args.left (state (goto field) 0 c.args.c c.args.w c.args.out.now) 1 4 (state (eat 26 ▸ (goto (field_value c.args.c.start c.in_ok-c1.field-0.0.at computed 0 1))) (1 + many) c.in_ok-c2.field-0.0 c.in_ok-c2.field-0.1 c.params.new.out))) =
    Steps.took_owing (Steps.counted c.params.ensures c.in_ok-c2.was).0 refl opened in
    let shut : ((Seg c.args.set c.args.src.now c.args.left (state (goto field) 0 c.args.c c.args.w c.args.out.now) 2 4 (state ((goto (field_value c.args.c.start c.in_ok-c1.field-0.0.at computed 0 1))) (many + 1) c.in_ok-c3.field-0.0 c.in_ok-c3.field-0.1 c.params.new.out))) =
    let n = many in
    Steps.count_is (let z : 1 + n ≡ n + 1 = omega arith in z) (Steps.ate c.eat.ensures c.in_ok-c3.was listed) in
    Steps.as_sub (Steps.tail (lit≤ tt) c.value.ensures shut)

pub field-returns-then-c1-eq-PLUS : goal.field-returns-then-c1-eq-PLUS
unfolding choose has rule sight
field-returns-then-c1-eq-PLUS t c =
    let computed : (ℕ) =
    c.in_ok-c1.field-0.2 in
    let named : ((Seg c.args.set c.args.src.now c.args.left (state (goto field) 0 c.args.c c.args.w c.args.out.now) 0 0 (state (titled c.args.c.start computed) 1 c.in_ok-c1.field-0.0 c.in_ok-c1.field-0.1 c.name.new.out))) =
    Steps.follows c.name.ensures c.in_ok-c1.was (Steps.at c.args.set c.args.src.now c.args.left (goto field) 0 c.args.c c.args.w c.args.out.now) in
    let there : (Stands c.args.src.now c.in_ok-c1.field-0.0) =
    named.stands c.requires.stands in
    let adds : ((Seg c.args.set c.args.src.now c.args.left (state (goto field) 0 c.args.c c.args.w c.args.out.now) 1 0 (state ((goto (field_value c.args.c.start c.in_ok-c1.field-0.0.at computed 1 0))) 1 c.eat_any-then-c1-eq-PLUS.result c.in_ok-c1.field-0.1 c.name.new.out))) =
    let is = c.if-c1-eq-PLUS.true in
    Steps.taken (lit< tt) there c.eat_any-then-c1-eq-PLUS.ensures is (Steps.known (eat 16 ▸ (goto (field_value c.args.c.start c.in_ok-c1.field-0.0.at computed 1 0))) there is (λ xs t. refl) named) in
    Steps.as_sub (Steps.tail (lit≤ tt) c.value-then-c1-eq-PLUS.ensures adds)

pub field-returns : goal.field-returns
unfolding choose has rule sight
field-returns t c =
    let computed : (ℕ) =
    c.in_ok-c1.field-0.2 in
    let named : ((Seg c.args.set c.args.src.now c.args.left (state (goto field) 0 c.args.c c.args.w c.args.out.now) 0 0 (state (titled c.args.c.start computed) 1 c.in_ok-c1.field-0.0 c.in_ok-c1.field-0.1 c.name.new.out))) =
    Steps.follows c.name.ensures c.in_ok-c1.was (Steps.at c.args.set c.args.src.now c.args.left (goto field) 0 c.args.c c.args.w c.args.out.now) in
    let there : (Stands c.args.src.now c.in_ok-c1.field-0.0) =
    named.stands c.requires.stands in
    let plain : ((Seg c.args.set c.args.src.now c.args.left (state (goto field) 0 c.args.c c.args.w c.args.out.now) 0 0 (state ((goto (field_value c.args.c.start c.in_ok-c1.field-0.0.at computed 0 0))) 1 c.in_ok-c1.field-0.0 c.in_ok-c1.field-0.1 c.name.new.out))) =
    Steps.known ((goto (field_value c.args.c.start c.in_ok-c1.field-0.0.at computed 0 0))) there refl (λ xs t. simp (ne_eqb _ 25 c.if-c1-eq-L_PAREN.false, ne_eqb _ 16 c.if-c1-eq-PLUS.false)) named in
    Steps.as_sub (Steps.tail (lit≤ tt) c.value-2.ensures plain)

pub func-params-requires : goal.func-params-requires
func-params-requires t c =
    let tail =
    goto (function_body c.args.c.start c.args.c.end) in
    let opened =
    let st = c.requires.0.stands in
    Steps.taken (lit< tt) st c.eat_any.ensures c.requires.1
    (Steps.known (eat 74 ▸ eat 25 ▸ sub params ▸ eat 26 ▸ tail) st c.requires.1 (λ xs t. functions_on c.args.set c.args.c xs 0 t) (Steps.at c.args.set c.args.src.now c.args.left (goto basic) 0 c.args.c c.args.w c.args.out.now)) in
    let inside =
    Steps.ate c.eat.ensures c.in_ok-c1.was opened in
    (omega (arith, c.decreases), Steps.ready c.requires.0 (lit≤ tt) inside)

pub func-eat-requires-2 : goal.func-eat-requires-2
func-eat-requires-2 t c =
    let tail =
    goto (function_body c.args.c.start c.args.c.end) in
    let opened =
    let st = c.requires.0.stands in
    Steps.taken (lit< tt) st c.eat_any.ensures c.requires.1
    (Steps.known (eat 74 ▸ eat 25 ▸ sub params ▸ eat 26 ▸ tail) st c.requires.1 (λ xs t. functions_on c.args.set c.args.c xs 0 t) (Steps.at c.args.set c.args.src.now c.args.left (goto basic) 0 c.args.c c.args.w c.args.out.now)) in
    let inside =
    Steps.ate c.eat.ensures c.in_ok-c1.was opened in
    let many =
    c.in_ok-c2.field-0.2 in
    let listed =
    Steps.count_is (none_before many) (Steps.took_owing (Steps.counted c.params.ensures c.in_ok-c2.was).0 refl inside) in
    (lit< tt, listed.stands c.requires.0.stands)

pub func-expr-requires : goal.func-expr-requires
func-expr-requires t c =
    let many =
    c.in_ok-c2.field-0.2 in
    let tail =
    goto (function_body c.args.c.start c.args.c.end) in
    let opened =
    let st = c.requires.0.stands in
    Steps.taken (lit< tt) st c.eat_any.ensures c.requires.1
    (Steps.known (eat 74 ▸ eat 25 ▸ sub params ▸ eat 26 ▸ tail) st c.requires.1 (λ xs t. functions_on c.args.set c.args.c xs 0 t) (Steps.at c.args.set c.args.src.now c.args.left (goto basic) 0 c.args.c c.args.w c.args.out.now)) in
    let inside =
    Steps.ate c.eat.ensures c.in_ok-c1.was opened in
    let listed =
    Steps.count_is (none_before many) (Steps.took_owing (Steps.counted c.params.ensures c.in_ok-c2.was).0 refl inside) in
    let bodied =
    let c₄ = c.in_ok-c3.field-0.0 in
    let shut = Steps.ate c.eat-2.ensures c.in_ok-c3.was listed in
    Steps.known (expression ▸ (close 21 (span c.args.c.start c.args.c.end ∷ number many ∷ []) ▸ end)) (shut.stands c.requires.0.stands) refl
    (λ xs t. function_bodies c.args.set c₄ xs many c.args.c.start c.args.c.end c₄.kind t) shut in
    (omega (arith, c.decreases), Steps.ready c.requires.0 (lit≤ tt) bodied)

pub func-put_function-w5-requires : goal.func-put_function-w5-requires
func-put_function-w5-requires t c =
    let tail =
    goto (function_body c.args.c.start c.args.c.end) in
    let opened =
    let st = c.requires.0.stands in
    Steps.taken (lit< tt) st c.eat_any.ensures c.requires.1
    (Steps.known (eat 74 ▸ eat 25 ▸ sub params ▸ eat 26 ▸ tail) st c.requires.1 (λ xs t. functions_on c.args.set c.args.c xs 0 t) (Steps.at c.args.set c.args.src.now c.args.left (goto basic) 0 c.args.c c.args.w c.args.out.now)) in
    let inside =
    Steps.ate c.eat.ensures c.in_ok-c1.was opened in
    let many =
    c.in_ok-c2.field-0.2 in
    let listed =
    Steps.count_is (none_before many) (Steps.took_owing (Steps.counted c.params.ensures c.in_ok-c2.was).0 refl inside) in
    let bodied =
    let c₄ = c.in_ok-c3.field-0.0 in
    let shut = Steps.ate c.eat-2.ensures c.in_ok-c3.was listed in
    Steps.known (expression ▸ (close 21 (span c.args.c.start c.args.c.end ∷ number many ∷ []) ▸ end)) (shut.stands c.requires.0.stands) refl
    (λ xs t. function_bodies c.args.set c₄ xs many c.args.c.start c.args.c.end c₄.kind t) shut in
    let value =
    Steps.took c.expr.ensures c.in_ok-c4.was bodied in
    let r = c.requires.0 in
    let few = (Steps.counted c.params.ensures c.in_ok-c2.was).1 in
    (Steps.fits r (lit≤ tt) value, (within r).0, (within r).1, omega (arith, few, (listed.stands r.stands).within, r.stands.short))

pub func-returns-in_err-c1 : goal.func-returns-in_err-c1
func-returns-in_err-c1 t c =
    let tail =
    goto (function_body c.args.c.start c.args.c.end) in
    let opened =
    let st = c.requires.0.stands in
    Steps.taken (lit< tt) st c.eat_any.ensures c.requires.1
    (Steps.known (eat 74 ▸ eat 25 ▸ sub params ▸ eat 26 ▸ tail) st c.requires.1 (λ xs t. functions_on c.args.set c.args.c xs 0 t) (Steps.at c.args.set c.args.src.now c.args.left (goto basic) 0 c.args.c c.args.w c.args.out.now)) in
    Steps.passed (Steps.eats_broken c.eat.ensures c.in_err-c1.was (Steps.handed c.from_residual.ensures)) opened

pub func-returns-in_err-c2 : goal.func-returns-in_err-c2
func-returns-in_err-c2 t c =
    let tail =
    goto (function_body c.args.c.start c.args.c.end) in
    let opened =
    let st = c.requires.0.stands in
    Steps.taken (lit< tt) st c.eat_any.ensures c.requires.1
    (Steps.known (eat 74 ▸ eat 25 ▸ sub params ▸ eat 26 ▸ tail) st c.requires.1 (λ xs t. functions_on c.args.set c.args.c xs 0 t) (Steps.at c.args.set c.args.src.now c.args.left (goto basic) 0 c.args.c c.args.w c.args.out.now)) in
    let inside =
    Steps.ate c.eat.ensures c.in_ok-c1.was opened in
    Steps.passed (Steps.counts_broken c.params.ensures c.in_err-c2.was (Steps.handed c.from_residual-in_err-c2.ensures)) inside

pub func-returns-in_err-c3 : goal.func-returns-in_err-c3
func-returns-in_err-c3 t c =
    let tail =
    goto (function_body c.args.c.start c.args.c.end) in
    let opened =
    let st = c.requires.0.stands in
    Steps.taken (lit< tt) st c.eat_any.ensures c.requires.1
    (Steps.known (eat 74 ▸ eat 25 ▸ sub params ▸ eat 26 ▸ tail) st c.requires.1 (λ xs t. functions_on c.args.set c.args.c xs 0 t) (Steps.at c.args.set c.args.src.now c.args.left (goto basic) 0 c.args.c c.args.w c.args.out.now)) in
    let inside =
    Steps.ate c.eat.ensures c.in_ok-c1.was opened in
    let many =
    c.in_ok-c2.field-0.2 in
    let listed =
    Steps.count_is (none_before many) (Steps.took_owing (Steps.counted c.params.ensures c.in_ok-c2.was).0 refl inside) in
    Steps.passed (Steps.eats_broken c.eat-2.ensures c.in_err-c3.was (Steps.handed c.from_residual-in_err-c3.ensures)) listed

pub func-returns-in_err-c4 : goal.func-returns-in_err-c4
func-returns-in_err-c4 t c =
    let many =
    c.in_ok-c2.field-0.2 in
    let tail =
    goto (function_body c.args.c.start c.args.c.end) in
    let opened =
    let st = c.requires.0.stands in
    Steps.taken (lit< tt) st c.eat_any.ensures c.requires.1
    (Steps.known (eat 74 ▸ eat 25 ▸ sub params ▸ eat 26 ▸ tail) st c.requires.1 (λ xs t. functions_on c.args.set c.args.c xs 0 t) (Steps.at c.args.set c.args.src.now c.args.left (goto basic) 0 c.args.c c.args.w c.args.out.now)) in
    let inside =
    Steps.ate c.eat.ensures c.in_ok-c1.was opened in
    let listed =
    Steps.count_is (none_before many) (Steps.took_owing (Steps.counted c.params.ensures c.in_ok-c2.was).0 refl inside) in
    let bodied =
    let c₄ = c.in_ok-c3.field-0.0 in
    let shut = Steps.ate c.eat-2.ensures c.in_ok-c3.was listed in
    Steps.known (expression ▸ (close 21 (span c.args.c.start c.args.c.end ∷ number many ∷ []) ▸ end)) (shut.stands c.requires.0.stands) refl
    (λ xs t. function_bodies c.args.set c₄ xs many c.args.c.start c.args.c.end c₄.kind t) shut in
    Steps.passed (Steps.takes_broken c.expr.ensures c.in_err-c4.was (Steps.handed c.from_residual-in_err-c4.ensures)) bodied

pub func-shape_of-out : goal.func-shape_of-out
func-shape_of-out t c =
    let many =
    c.in_ok-c2.field-0.2 in
    let tail =
    goto (function_body c.args.c.start c.args.c.end) in
    let opened =
    let st = c.requires.0.stands in
    Steps.taken (lit< tt) st c.eat_any.ensures c.requires.1
    (Steps.known (eat 74 ▸ eat 25 ▸ sub params ▸ eat 26 ▸ tail) st c.requires.1 (λ xs t. functions_on c.args.set c.args.c xs 0 t) (Steps.at c.args.set c.args.src.now c.args.left (goto basic) 0 c.args.c c.args.w c.args.out.now)) in
    let inside =
    Steps.ate c.eat.ensures c.in_ok-c1.was opened in
    let listed =
    Steps.count_is (none_before many) (Steps.took_owing (Steps.counted c.params.ensures c.in_ok-c2.was).0 refl inside) in
    let bodied =
    let c₄ = c.in_ok-c3.field-0.0 in
    let shut = Steps.ate c.eat-2.ensures c.in_ok-c3.was listed in
    Steps.known (expression ▸ (close 21 (span c.args.c.start c.args.c.end ∷ number many ∷ []) ▸ end)) (shut.stands c.requires.0.stands) refl
    (λ xs t. function_bodies c.args.set c₄ xs many c.args.c.start c.args.c.end c₄.kind t) shut in
    let value =
    Steps.took c.expr.ensures c.in_ok-c4.was bodied in
    omega (arith, Steps.same value, c.put_function-w5.auto)

pub func-returns : goal.func-returns
unfolding entry payload
func-returns t c =
    let many =
    c.in_ok-c2.field-0.2 in
    let tail =
    goto (function_body c.args.c.start c.args.c.end) in
    let opened =
    let st = c.requires.0.stands in
    Steps.taken (lit< tt) st c.eat_any.ensures c.requires.1
    (Steps.known (eat 74 ▸ eat 25 ▸ sub params ▸ eat 26 ▸ tail) st c.requires.1 (λ xs t. functions_on c.args.set c.args.c xs 0 t) (Steps.at c.args.set c.args.src.now c.args.left (goto basic) 0 c.args.c c.args.w c.args.out.now)) in
    let inside =
    Steps.ate c.eat.ensures c.in_ok-c1.was opened in
    let listed =
    Steps.count_is (none_before many) (Steps.took_owing (Steps.counted c.params.ensures c.in_ok-c2.was).0 refl inside) in
    let bodied =
    let c₄ = c.in_ok-c3.field-0.0 in
    let shut = Steps.ate c.eat-2.ensures c.in_ok-c3.was listed in
    Steps.known (expression ▸ (close 21 (span c.args.c.start c.args.c.end ∷ number many ∷ []) ▸ end)) (shut.stands c.requires.0.stands) refl
    (λ xs t. function_bodies c.args.set c₄ xs many c.args.c.start c.args.c.end c₄.kind t) shut in
    let value =
    Steps.took c.expr.ensures c.in_ok-c4.was bodied in
    Steps.ends (lit≤ tt) (Steps.closed 9 (lit≤ tt) c.put_function-w5.ensures value)

pub index-slice-requires : goal.index-slice-requires
unfolding choose has rule sight
index-slice-requires t c =
    let bare =
    let st = c.requires.0.stands in let is = c.if-c-eq-COLON.true in
    Steps.taken (lit< tt) st c.eat_any.ensures is (Steps.known (eat 29 ▸ goto (slice_end 0 0 0)) st is (λ xs t. refl) (Steps.at c.args.set c.args.src.now c.args.left (goto (bracket c.args.first)) 1 c.args.c c.args.w c.args.out.now)) in
    (omega (arith, c.decreases), (Steps.ready c.requires.0 (lit≤ tt) bare, lit≤ tt, lit< tt, lit< tt))

pub index-eat_any-requires-then-c1-eq-COLON : goal.index-eat_any-requires-then-c1-eq-COLON
unfolding choose has rule sight
index-eat_any-requires-then-c1-eq-COLON t c =
    let tail =
    goto (index_or_slice c.args.first c.args.c.start) in
    let opened =
    Steps.known (expression ▸ tail) c.requires.0.stands refl (λ xs t. simp (ne_eqb _ 29 c.if-c-eq-COLON.false)) (Steps.at c.args.set c.args.src.now c.args.left (goto (bracket c.args.first)) 1 c.args.c c.args.w c.args.out.now) in
    let read =
    Steps.took c.expr.ensures c.in_ok-c1.was opened in
    let there =
    read.stands c.requires.0.stands in
    there

pub index-slice-requires-then-c1-eq-COLON : goal.index-slice-requires-then-c1-eq-COLON
unfolding choose has rule sight
index-slice-requires-then-c1-eq-COLON t c =
    let tail =
    goto (index_or_slice c.args.first c.args.c.start) in
    let opened =
    Steps.known (expression ▸ tail) c.requires.0.stands refl (λ xs t. simp (ne_eqb _ 29 c.if-c-eq-COLON.false)) (Steps.at c.args.set c.args.src.now c.args.left (goto (bracket c.args.first)) 1 c.args.c c.args.w c.args.out.now) in
    let read =
    Steps.took c.expr.ensures c.in_ok-c1.was opened in
    let there =
    read.stands c.requires.0.stands in
    let colon =
    let is = c.if-c1-eq-COLON.true in
    Steps.taken (lit< tt) there c.eat_any-then-c1-eq-COLON.ensures is
    (Steps.known (eat 29 ▸ goto (slice_end 1 c.args.c.start c.in_ok-c1.field-0.0.at)) there is (λ xs t. refl) read) in
    let r = c.requires.0 in
    (omega (arith, c.decreases), (Steps.ready r (lit≤ tt) colon, lit≤ tt, (within r).0, omega (arith, there.within, r.stands.short)))

pub index-eat-requires : goal.index-eat-requires
unfolding choose has rule sight
index-eat-requires t c =
    let tail =
    goto (index_or_slice c.args.first c.args.c.start) in
    let opened =
    Steps.known (expression ▸ tail) c.requires.0.stands refl (λ xs t. simp (ne_eqb _ 29 c.if-c-eq-COLON.false)) (Steps.at c.args.set c.args.src.now c.args.left (goto (bracket c.args.first)) 1 c.args.c c.args.w c.args.out.now) in
    let read =
    Steps.took c.expr.ensures c.in_ok-c1.was opened in
    let there =
    read.stands c.requires.0.stands in
    (lit< tt, there)

pub index-put_index-w3-requires : goal.index-put_index-w3-requires
unfolding choose has rule sight
index-put_index-w3-requires t c =
    let tail =
    goto (index_or_slice c.args.first c.args.c.start) in
    let opened =
    Steps.known (expression ▸ tail) c.requires.0.stands refl (λ xs t. simp (ne_eqb _ 29 c.if-c-eq-COLON.false)) (Steps.at c.args.set c.args.src.now c.args.left (goto (bracket c.args.first)) 1 c.args.c c.args.w c.args.out.now) in
    let read =
    Steps.took c.expr.ensures c.in_ok-c1.was opened in
    let there =
    read.stands c.requires.0.stands in
    let shape =
    close 20 (span c.args.c.start c.in_ok-c1.field-0.0.at ∷ byte c.args.first ∷ byte 0 ∷ []) ▸ goto (suffix 0) in
    let closing =
    Steps.known (eat 24 ▸ shape) there refl (λ xs t. simp (ne_eqb _ 29 c.if-c1-eq-COLON.false)) read in
    let over =
    Steps.ate c.eat.ensures c.in_ok-c2.was closing in
    let p = c.requires in
    (Steps.fits p.0 (lit≤ tt) over, (within p.0).0, omega (arith, there.within, p.0.stands.short), p.1)

pub index-returns-then-c-eq-COLON : goal.index-returns-then-c-eq-COLON
unfolding choose has rule sight
index-returns-then-c-eq-COLON t c =
    let bare =
    let st = c.requires.0.stands in let is = c.if-c-eq-COLON.true in
    Steps.taken (lit< tt) st c.eat_any.ensures is (Steps.known (eat 29 ▸ goto (slice_end 0 0 0)) st is (λ xs t. refl) (Steps.at c.args.set c.args.src.now c.args.left (goto (bracket c.args.first)) 1 c.args.c c.args.w c.args.out.now)) in
    Steps.tail_telling (lit≤ tt) (c.slice.ensures.tells 1) bare

pub index-returns-in_err-c1 : goal.index-returns-in_err-c1
unfolding choose has rule sight
index-returns-in_err-c1 t c =
    let tail =
    goto (index_or_slice c.args.first c.args.c.start) in
    let opened =
    Steps.known (expression ▸ tail) c.requires.0.stands refl (λ xs t. simp (ne_eqb _ 29 c.if-c-eq-COLON.false)) (Steps.at c.args.set c.args.src.now c.args.left (goto (bracket c.args.first)) 1 c.args.c c.args.w c.args.out.now) in
    Steps.passed_telling (Steps.takes_broken c.expr.ensures c.in_err-c1.was (Steps.handed c.from_residual.ensures)) opened

pub index-returns-then-c1-eq-COLON : goal.index-returns-then-c1-eq-COLON
unfolding choose has rule sight
index-returns-then-c1-eq-COLON t c =
    let tail =
    goto (index_or_slice c.args.first c.args.c.start) in
    let opened =
    Steps.known (expression ▸ tail) c.requires.0.stands refl (λ xs t. simp (ne_eqb _ 29 c.if-c-eq-COLON.false)) (Steps.at c.args.set c.args.src.now c.args.left (goto (bracket c.args.first)) 1 c.args.c c.args.w c.args.out.now) in
    let read =
    Steps.took c.expr.ensures c.in_ok-c1.was opened in
    let there =
    read.stands c.requires.0.stands in
    let colon =
    let is = c.if-c1-eq-COLON.true in
    Steps.taken (lit< tt) there c.eat_any-then-c1-eq-COLON.ensures is
    (Steps.known (eat 29 ▸ goto (slice_end 1 c.args.c.start c.in_ok-c1.field-0.0.at)) there is (λ xs t. refl) read) in
    Steps.tail_telling (lit≤ tt) (c.slice-then-c1-eq-COLON.ensures.tells 2) colon

pub index-returns-in_err-c2 : goal.index-returns-in_err-c2
unfolding choose has rule sight
index-returns-in_err-c2 t c =
    let tail =
    goto (index_or_slice c.args.first c.args.c.start) in
    let opened =
    Steps.known (expression ▸ tail) c.requires.0.stands refl (λ xs t. simp (ne_eqb _ 29 c.if-c-eq-COLON.false)) (Steps.at c.args.set c.args.src.now c.args.left (goto (bracket c.args.first)) 1 c.args.c c.args.w c.args.out.now) in
    let read =
    Steps.took c.expr.ensures c.in_ok-c1.was opened in
    let there =
    read.stands c.requires.0.stands in
    let shape =
    close 20 (span c.args.c.start c.in_ok-c1.field-0.0.at ∷ byte c.args.first ∷ byte 0 ∷ []) ▸ goto (suffix 0) in
    let closing =
    Steps.known (eat 24 ▸ shape) there refl (λ xs t. simp (ne_eqb _ 29 c.if-c1-eq-COLON.false)) read in
    Steps.passed_telling (Steps.eats_broken c.eat.ensures c.in_err-c2.was (Steps.handed c.from_residual-in_err-c2.ensures)) closing

pub index-returns : goal.index-returns
unfolding choose entry has payload rule sight
index-returns t c =
    let tail =
    goto (index_or_slice c.args.first c.args.c.start) in
    let opened =
    Steps.known (expression ▸ tail) c.requires.0.stands refl (λ xs t. simp (ne_eqb _ 29 c.if-c-eq-COLON.false)) (Steps.at c.args.set c.args.src.now c.args.left (goto (bracket c.args.first)) 1 c.args.c c.args.w c.args.out.now) in
    let read =
    Steps.took c.expr.ensures c.in_ok-c1.was opened in
    let there =
    read.stands c.requires.0.stands in
    let shape =
    close 20 (span c.args.c.start c.in_ok-c1.field-0.0.at ∷ byte c.args.first ∷ byte 0 ∷ []) ▸ goto (suffix 0) in
    let closing =
    Steps.known (eat 24 ▸ shape) there refl (λ xs t. simp (ne_eqb _ 29 c.if-c1-eq-COLON.false)) read in
    let over =
    Steps.ate c.eat.ensures c.in_ok-c2.was closing in
    Steps.says_on (lit≤ tt) (lit≤ tt) (Steps.closed 9 (lit≤ tt) c.put_index-w3.ensures over)

pub init-expr-requires : goal.init-expr-requires
init-expr-requires t c =
    let word =
    slice c.args.name.start c.args.name.end c.args.src.now in
    let opened =
    let i = c.args.into in let st = c.requires.0.stands in let is = c.if-c-ne-ASSIGN.false in
    Steps.known (expression ▸ (goto (default_end c.args.into word c.eat_any-c1.result.start))) c.eat_any-c1.ensures.stands refl (λ xs t. default_is c.args.set _ xs _ i word _ t)
    (Steps.taken (lit< tt) st c.eat_any-c1.ensures is
    (Steps.known (eat 35 ▸ goto (default_value i word)) st is (λ xs t. default_some c.args.set _ xs _ i word t) (let i0 = c.args.into in Steps.at c.args.set c.args.src.now c.args.left (goto (pattern_default i0 word)) i0 c.args.c c.args.w c.args.out.now))) in
    (omega (arith, c.decreases), Steps.ready c.requires.0 (lit≤ tt) opened)

pub init-put_pattern_field-w3-requires : goal.init-put_pattern_field-w3-requires
init-put_pattern_field-w3-requires t c =
    let word =
    slice c.args.name.start c.args.name.end c.args.src.now in
    let opened =
    let i = c.args.into in let st = c.requires.0.stands in let is = c.if-c-ne-ASSIGN.false in
    Steps.known (expression ▸ (goto (default_end c.args.into word c.eat_any-c1.result.start))) c.eat_any-c1.ensures.stands refl (λ xs t. default_is c.args.set _ xs _ i word _ t)
    (Steps.taken (lit< tt) st c.eat_any-c1.ensures is
    (Steps.known (eat 35 ▸ goto (default_value i word)) st is (λ xs t. default_some c.args.set _ xs _ i word t) (let i0 = c.args.into in Steps.at c.args.set c.args.src.now c.args.left (goto (pattern_default i0 word)) i0 c.args.c c.args.w c.args.out.now))) in
    let value =
    Steps.took c.expr.ensures c.in_ok-c2.was opened in
    let r = c.requires.0 in
    let short = lent_short c.args.src.now c.args.name.start c.args.name.end r.stands.short c.requires.2 in
    let from = (within (Steps.ready r (lit≤ tt) opened)).0 in
    (Steps.fits r (lit≤ tt) value, from, omega (arith, (value.stands r.stands).within, r.stands.short), omega (arith, short))

pub init-returns-then-c-ne-ASSIGN : goal.init-returns-then-c-ne-ASSIGN
unfolding entry payload
init-returns-then-c-ne-ASSIGN t c =
    let word =
    slice c.args.name.start c.args.name.end c.args.src.now in
    let name = c.args.name in
    let size = length-slice name.start name.end c.args.src.now c.requires.2 in
    let wrote = wrote_lent 29 (λ (l : List ℕ). (byte c.args.into ∷ byte 0 ∷ span 0 0 ∷ text l ∷ [])) c.args.src.now name.start name.end c.put_pattern_field-w1.ensures in
    Steps.owes (omega arith) (Steps.closed (9 + (name.end - name.start)) (omega (arith, size)) wrote
    (Steps.known (close 29 ((byte c.args.into ∷ byte 0 ∷ span 0 0 ∷ text word ∷ [])) ▸ end) c.requires.0.stands refl
    (λ xs t. default_none c.args.set _ xs _ c.args.into word _ t c.if-c-ne-ASSIGN.true) Steps.here))

pub init-returns-in_err-c2 : goal.init-returns-in_err-c2
init-returns-in_err-c2 t c =
    let word =
    slice c.args.name.start c.args.name.end c.args.src.now in
    let opened =
    let i = c.args.into in let st = c.requires.0.stands in let is = c.if-c-ne-ASSIGN.false in
    Steps.known (expression ▸ (goto (default_end c.args.into word c.eat_any-c1.result.start))) c.eat_any-c1.ensures.stands refl (λ xs t. default_is c.args.set _ xs _ i word _ t)
    (Steps.taken (lit< tt) st c.eat_any-c1.ensures is
    (Steps.known (eat 35 ▸ goto (default_value i word)) st is (λ xs t. default_some c.args.set _ xs _ i word t) (let i0 = c.args.into in Steps.at c.args.set c.args.src.now c.args.left (goto (pattern_default i0 word)) i0 c.args.c c.args.w c.args.out.now))) in
    Steps.passed (Steps.takes_broken c.expr.ensures c.in_err-c2.was (Steps.handed c.from_residual.ensures)) opened

pub init-returns : goal.init-returns
unfolding entry payload
init-returns t c =
    let word =
    slice c.args.name.start c.args.name.end c.args.src.now in
    let opened =
    let i = c.args.into in let st = c.requires.0.stands in let is = c.if-c-ne-ASSIGN.false in
    Steps.known (expression ▸ (goto (default_end c.args.into word c.eat_any-c1.result.start))) c.eat_any-c1.ensures.stands refl (λ xs t. default_is c.args.set _ xs _ i word _ t)
    (Steps.taken (lit< tt) st c.eat_any-c1.ensures is
    (Steps.known (eat 35 ▸ goto (default_value i word)) st is (λ xs t. default_some c.args.set _ xs _ i word t) (let i0 = c.args.into in Steps.at c.args.set c.args.src.now c.args.left (goto (pattern_default i0 word)) i0 c.args.c c.args.w c.args.out.now))) in
    let value =
    Steps.took c.expr.ensures c.in_ok-c2.was opened in
    let name = c.args.name in
    let f = c.eat_any-c1.result.start in let e = c.in_ok-c2.field-0.0.at in
    let size = length-slice name.start name.end c.args.src.now c.requires.2 in
    let wrote = wrote_lent 29 (λ (l : List ℕ). (byte c.args.into ∷ byte 1 ∷ span f e ∷ text l ∷ [])) c.args.src.now name.start name.end c.put_pattern_field-w3.ensures in
    let st = value.stands c.requires.0.stands in
    Steps.owes (omega arith) (Steps.closed (9 + (name.end - name.start)) (omega (arith, size)) wrote
    (Steps.known (close 29 ((byte c.args.into ∷ byte 1 ∷ span f e ∷ text word ∷ [])) ▸ end) st refl (λ xs t. default_ends c.args.set _ xs _ c.args.into word _ _ t) value))

pub inside-loop-c1-init : goal.inside-loop-c1-init
unfolding choose has rule sight
inside-loop-c1-init t c =
    let r = c.requires in
    (record { ok = r; seg = Steps.known (reading 4 c.args.c) r.stands refl (λ xs t. simp (ne_eqb _ 28 c.if-c-eq-R_BRACE.false)) Steps.here; same = refl }, omega arith, lit≤ tt)

pub inside-with_member-fault-requires : goal.inside-with_member-fault-requires
inside-with_member-fault-requires t c =
    c.loop-c1.invariant.2

pub inside-past_comma-cur-requires : goal.inside-past_comma-cur-requires
inside-past_comma-cur-requires t c =
    let joined : ((let a0 = c.args in Seg a0.set a0.src.now a0.left (state (reading c.loop-c1.fault c.loop-c1.cur) c.loop-c1.n c.loop-c1.cur c.loop-c1.at c.loop-c1.out) 0 0 (state (goto (members (with_member c.loop-c1.fault c.loop-c1.cur.kind))) (c.loop-c1.n + 1) c.in_ok-c1.field-0.0 c.in_ok-c1.field-0.1 c.member.new.out))) =
    Steps.took c.member.ensures c.in_ok-c1.was (let a0 = c.args in Steps.at a0.set a0.src.now a0.left (reading c.loop-c1.fault c.loop-c1.cur) c.loop-c1.n c.loop-c1.cur c.loop-c1.at c.loop-c1.out) in
    let there : (Stands c.args.src.now c.in_ok-c1.field-0.0) =
    joined.stands c.loop-c1.invariant.0.ok.stands in
    there

pub inside-comp-requires : goal.inside-comp-requires
inside-comp-requires t c =
    let told : (ℕ) =
    c.with_member-fault.result in
    let small : (told ≤ 4) =
    c.with_member-fault.ensures.1 in
    let joined : ((let a0 = c.args in Seg a0.set a0.src.now a0.left (state (reading c.loop-c1.fault c.loop-c1.cur) c.loop-c1.n c.loop-c1.cur c.loop-c1.at c.loop-c1.out) 0 0 (state (goto (members (with_member c.loop-c1.fault c.loop-c1.cur.kind))) (c.loop-c1.n + 1) c.in_ok-c1.field-0.0 c.in_ok-c1.field-0.1 c.member.new.out))) =
    Steps.took c.member.ensures c.in_ok-c1.was (let a0 = c.args in Steps.at a0.set a0.src.now a0.left (reading c.loop-c1.fault c.loop-c1.cur) c.loop-c1.n c.loop-c1.cur c.loop-c1.at c.loop-c1.out) in
    let there : (Stands c.args.src.now c.in_ok-c1.field-0.0) =
    joined.stands c.loop-c1.invariant.0.ok.stands in
    let grown : (c.loop-c1.cur.at + 1 ≤ c.past_comma-cur.result.at) =
    omega (arith, step_grows c.member.ensures c.in_ok-c1.was, (past_stands there c.past_comma-cur.ensures).1) in
    let many : (c.loop-c1.n + 1 ≤ c.past_comma-cur.result.at) =
    omega (arith, c.loop-c1.invariant.1, grown) in
    let known : ((let a0 = c.args in Seg a0.set a0.src.now a0.left (state (reading c.loop-c1.fault c.loop-c1.cur) c.loop-c1.n c.loop-c1.cur c.loop-c1.at c.loop-c1.out) 0 0 (state (goto (members told)) (c.loop-c1.n + 1) c.in_ok-c1.field-0.0 c.in_ok-c1.field-0.1 c.member.new.out))) =
    Steps.body_is (ap (λ (f : ℕ). goto (members f)) (sym c.with_member-fault.ensures.0)) joined in
    let at_for : (((let a0 = c.args in Seg a0.set a0.src.now a0.left (state (reading c.loop-c1.fault c.loop-c1.cur) c.loop-c1.n c.loop-c1.cur c.loop-c1.at c.loop-c1.out) 0 0 (state (goto (comprehension told)) (c.loop-c1.n + 1) c.past_comma-cur.result c.in_ok-c1.field-0.1 c.member.new.out)))) =
    members_for there c.past_comma-cur.ensures c.if-cur-eq-FOR_KW.true known in
    (omega (arith, c.decreases), (Steps.ready c.loop-c1.invariant.0.ok (lit≤ tt) at_for, c.if-cur-eq-FOR_KW.true, many, small))

pub inside-members_close-requires-then-c1-ne-COMMA : goal.inside-members_close-requires-then-c1-ne-COMMA
inside-members_close-requires-then-c1-ne-COMMA t c =
    let joined : ((let a0 = c.args in Seg a0.set a0.src.now a0.left (state (reading c.loop-c1.fault c.loop-c1.cur) c.loop-c1.n c.loop-c1.cur c.loop-c1.at c.loop-c1.out) 0 0 (state (goto (members (with_member c.loop-c1.fault c.loop-c1.cur.kind))) (c.loop-c1.n + 1) c.in_ok-c1.field-0.0 c.in_ok-c1.field-0.1 c.member.new.out))) =
    Steps.took c.member.ensures c.in_ok-c1.was (let a0 = c.args in Steps.at a0.set a0.src.now a0.left (reading c.loop-c1.fault c.loop-c1.cur) c.loop-c1.n c.loop-c1.cur c.loop-c1.at c.loop-c1.out) in
    let there : (Stands c.args.src.now c.in_ok-c1.field-0.0) =
    joined.stands c.loop-c1.invariant.0.ok.stands in
    let grown : (c.loop-c1.cur.at + 1 ≤ c.past_comma-cur.result.at) =
    omega (arith, step_grows c.member.ensures c.in_ok-c1.was, (past_stands there c.past_comma-cur.ensures).1) in
    let many : (c.loop-c1.n + 1 ≤ c.past_comma-cur.result.at) =
    omega (arith, c.loop-c1.invariant.1, grown) in
    let told : (ℕ) =
    c.with_member-fault.result in
    let known : ((let a0 = c.args in Seg a0.set a0.src.now a0.left (state (reading c.loop-c1.fault c.loop-c1.cur) c.loop-c1.n c.loop-c1.cur c.loop-c1.at c.loop-c1.out) 0 0 (state (goto (members told)) (c.loop-c1.n + 1) c.in_ok-c1.field-0.0 c.in_ok-c1.field-0.1 c.member.new.out))) =
    Steps.body_is (ap (λ (f : ℕ). goto (members f)) (sym c.with_member-fault.ensures.0)) joined in
    let shape : (Body) =
    close 9 (number (c.loop-c1.n + 1) ∷ []) ▸ end in
    let last : (((let a0 = c.args in Seg a0.set a0.src.now a0.left (state (reading c.loop-c1.fault c.loop-c1.cur) c.loop-c1.n c.loop-c1.cur c.loop-c1.at c.loop-c1.out) 0 0 (state shape (c.loop-c1.n + 1) c.past_comma-cur.result c.in_ok-c1.field-0.1 c.member.new.out)))) =
    members_last there c.past_comma-cur.ensures c.if-c1-ne-COMMA.true c.if-cur-eq-FOR_KW.false known in
    (let r = Steps.ready c.loop-c1.invariant.0.ok (lit≤ tt) last in (fits r, few r many))

pub inside-members_close-requires-then-cur-eq-R_BRACE : goal.inside-members_close-requires-then-cur-eq-R_BRACE
unfolding choose has rule sight
inside-members_close-requires-then-cur-eq-R_BRACE t c =
    let joined : ((let a0 = c.args in Seg a0.set a0.src.now a0.left (state (reading c.loop-c1.fault c.loop-c1.cur) c.loop-c1.n c.loop-c1.cur c.loop-c1.at c.loop-c1.out) 0 0 (state (goto (members (with_member c.loop-c1.fault c.loop-c1.cur.kind))) (c.loop-c1.n + 1) c.in_ok-c1.field-0.0 c.in_ok-c1.field-0.1 c.member.new.out))) =
    Steps.took c.member.ensures c.in_ok-c1.was (let a0 = c.args in Steps.at a0.set a0.src.now a0.left (reading c.loop-c1.fault c.loop-c1.cur) c.loop-c1.n c.loop-c1.cur c.loop-c1.at c.loop-c1.out) in
    let there : (Stands c.args.src.now c.in_ok-c1.field-0.0) =
    joined.stands c.loop-c1.invariant.0.ok.stands in
    let grown : (c.loop-c1.cur.at + 1 ≤ c.past_comma-cur.result.at) =
    omega (arith, step_grows c.member.ensures c.in_ok-c1.was, (past_stands there c.past_comma-cur.ensures).1) in
    let many : (c.loop-c1.n + 1 ≤ c.past_comma-cur.result.at) =
    omega (arith, c.loop-c1.invariant.1, grown) in
    let stood : (Stands c.args.src.now c.past_comma-cur.result) =
    (past_stands there c.past_comma-cur.ensures).0 in
    let shape : (Body) =
    close 9 (number (c.loop-c1.n + 1) ∷ []) ▸ end in
    let told : (ℕ) =
    c.with_member-fault.result in
    let known : ((let a0 = c.args in Seg a0.set a0.src.now a0.left (state (reading c.loop-c1.fault c.loop-c1.cur) c.loop-c1.n c.loop-c1.cur c.loop-c1.at c.loop-c1.out) 0 0 (state (goto (members told)) (c.loop-c1.n + 1) c.in_ok-c1.field-0.0 c.in_ok-c1.field-0.1 c.member.new.out))) =
    Steps.body_is (ap (λ (f : ℕ). goto (members f)) (sym c.with_member-fault.ensures.0)) joined in
    let next : (((let a0 = c.args in Seg a0.set a0.src.now a0.left (state (reading c.loop-c1.fault c.loop-c1.cur) c.loop-c1.n c.loop-c1.cur c.loop-c1.at c.loop-c1.out) 0 0 (state (goto (next_member told)) (c.loop-c1.n + 1) c.past_comma-cur.result c.in_ok-c1.field-0.1 c.member.new.out)))) =
    members_next there c.past_comma-cur.ensures c.if-c1-ne-COMMA.false known in
    let shut : (((let a0 = c.args in Seg a0.set a0.src.now a0.left (state (reading c.loop-c1.fault c.loop-c1.cur) c.loop-c1.n c.loop-c1.cur c.loop-c1.at c.loop-c1.out) 0 0 (state shape (c.loop-c1.n + 1) c.past_comma-cur.result c.in_ok-c1.field-0.1 c.member.new.out)))) =
    Steps.known shape stood c.if-cur-eq-R_BRACE.true (λ xs t. refl) next in
    (let r = Steps.ready c.loop-c1.invariant.0.ok (lit≤ tt) shut in (fits r, few r many))

pub inside-loop-c1-smaller : goal.inside-loop-c1-smaller
inside-loop-c1-smaller t c =
    let joined : ((let a0 = c.args in Seg a0.set a0.src.now a0.left (state (reading c.loop-c1.fault c.loop-c1.cur) c.loop-c1.n c.loop-c1.cur c.loop-c1.at c.loop-c1.out) 0 0 (state (goto (members (with_member c.loop-c1.fault c.loop-c1.cur.kind))) (c.loop-c1.n + 1) c.in_ok-c1.field-0.0 c.in_ok-c1.field-0.1 c.member.new.out))) =
    Steps.took c.member.ensures c.in_ok-c1.was (let a0 = c.args in Steps.at a0.set a0.src.now a0.left (reading c.loop-c1.fault c.loop-c1.cur) c.loop-c1.n c.loop-c1.cur c.loop-c1.at c.loop-c1.out) in
    let there : (Stands c.args.src.now c.in_ok-c1.field-0.0) =
    joined.stands c.loop-c1.invariant.0.ok.stands in
    let stood : (Stands c.args.src.now c.past_comma-cur.result) =
    (past_stands there c.past_comma-cur.ensures).0 in
    let grown : (c.loop-c1.cur.at + 1 ≤ c.past_comma-cur.result.at) =
    omega (arith, step_grows c.member.ensures c.in_ok-c1.was, (past_stands there c.past_comma-cur.ensures).1) in
    omega (arith, grown, stood.within)

pub inside-loop-c1-preserved : goal.inside-loop-c1-preserved
unfolding choose has rule sight
inside-loop-c1-preserved t c =
    let told : (ℕ) =
    c.with_member-fault.result in
    let small : (told ≤ 4) =
    c.with_member-fault.ensures.1 in
    let joined : ((let a0 = c.args in Seg a0.set a0.src.now a0.left (state (reading c.loop-c1.fault c.loop-c1.cur) c.loop-c1.n c.loop-c1.cur c.loop-c1.at c.loop-c1.out) 0 0 (state (goto (members (with_member c.loop-c1.fault c.loop-c1.cur.kind))) (c.loop-c1.n + 1) c.in_ok-c1.field-0.0 c.in_ok-c1.field-0.1 c.member.new.out))) =
    Steps.took c.member.ensures c.in_ok-c1.was (let a0 = c.args in Steps.at a0.set a0.src.now a0.left (reading c.loop-c1.fault c.loop-c1.cur) c.loop-c1.n c.loop-c1.cur c.loop-c1.at c.loop-c1.out) in
    let there : (Stands c.args.src.now c.in_ok-c1.field-0.0) =
    joined.stands c.loop-c1.invariant.0.ok.stands in
    let grown : (c.loop-c1.cur.at + 1 ≤ c.past_comma-cur.result.at) =
    omega (arith, step_grows c.member.ensures c.in_ok-c1.was, (past_stands there c.past_comma-cur.ensures).1) in
    let many : (c.loop-c1.n + 1 ≤ c.past_comma-cur.result.at) =
    omega (arith, c.loop-c1.invariant.1, grown) in
    let stood : (Stands c.args.src.now c.past_comma-cur.result) =
    (past_stands there c.past_comma-cur.ensures).0 in
    let known : ((let a0 = c.args in Seg a0.set a0.src.now a0.left (state (reading c.loop-c1.fault c.loop-c1.cur) c.loop-c1.n c.loop-c1.cur c.loop-c1.at c.loop-c1.out) 0 0 (state (goto (members told)) (c.loop-c1.n + 1) c.in_ok-c1.field-0.0 c.in_ok-c1.field-0.1 c.member.new.out))) =
    Steps.body_is (ap (λ (f : ℕ). goto (members f)) (sym c.with_member-fault.ensures.0)) joined in
    let next : (((let a0 = c.args in Seg a0.set a0.src.now a0.left (state (reading c.loop-c1.fault c.loop-c1.cur) c.loop-c1.n c.loop-c1.cur c.loop-c1.at c.loop-c1.out) 0 0 (state (goto (next_member told)) (c.loop-c1.n + 1) c.past_comma-cur.result c.in_ok-c1.field-0.1 c.member.new.out)))) =
    members_next there c.past_comma-cur.ensures c.if-c1-ne-COMMA.false known in
    let again : (((let a0 = c.args in Seg a0.set a0.src.now a0.left (state (reading c.loop-c1.fault c.loop-c1.cur) c.loop-c1.n c.loop-c1.cur c.loop-c1.at c.loop-c1.out) 0 0 (state (reading told c.past_comma-cur.result) (c.loop-c1.n + 1) c.past_comma-cur.result c.in_ok-c1.field-0.1 c.member.new.out)))) =
    Steps.known (reading told c.past_comma-cur.result) stood refl
    (λ xs t. simp (ne_eqb _ 28 c.if-cur-eq-R_BRACE.false, ne_eqb _ 83 c.if-cur-eq-FOR_KW.false)) next in
    (Steps.turned c.loop-c1.invariant.0 (lit≤ tt) again, many, small)

pub inside-returns-then-c-eq-R_BRACE : goal.inside-returns-then-c-eq-R_BRACE
unfolding choose has rule sight
inside-returns-then-c-eq-R_BRACE t c =
    Steps.as_sub (Steps.tail (lit≤ tt) ((c.members_close.ensures.ends c.args.src.now).ends c.args.set c.args.left 0)
    (Steps.known (close 9 (number 0 ∷ []) ▸ end) c.requires.stands c.if-c-eq-R_BRACE.true (λ xs t. refl) Steps.here))

pub inside-returns-in_err-c1 : goal.inside-returns-in_err-c1
inside-returns-in_err-c1 t c =
    Steps.as_sub (Steps.passed (Steps.takes_broken c.member.ensures c.in_err-c1.was (Steps.handed c.from_residual.ensures)) c.loop-c1.invariant.0.seg)

pub inside-returns-then-cur-eq-FOR_KW : goal.inside-returns-then-cur-eq-FOR_KW
inside-returns-then-cur-eq-FOR_KW t c =
    let joined : ((let a0 = c.args in Seg a0.set a0.src.now a0.left (state (reading c.loop-c1.fault c.loop-c1.cur) c.loop-c1.n c.loop-c1.cur c.loop-c1.at c.loop-c1.out) 0 0 (state (goto (members (with_member c.loop-c1.fault c.loop-c1.cur.kind))) (c.loop-c1.n + 1) c.in_ok-c1.field-0.0 c.in_ok-c1.field-0.1 c.member.new.out))) =
    Steps.took c.member.ensures c.in_ok-c1.was (let a0 = c.args in Steps.at a0.set a0.src.now a0.left (reading c.loop-c1.fault c.loop-c1.cur) c.loop-c1.n c.loop-c1.cur c.loop-c1.at c.loop-c1.out) in
    let there : (Stands c.args.src.now c.in_ok-c1.field-0.0) =
    joined.stands c.loop-c1.invariant.0.ok.stands in
    let told : (ℕ) =
    c.with_member-fault.result in
    let known : ((let a0 = c.args in Seg a0.set a0.src.now a0.left (state (reading c.loop-c1.fault c.loop-c1.cur) c.loop-c1.n c.loop-c1.cur c.loop-c1.at c.loop-c1.out) 0 0 (state (goto (members told)) (c.loop-c1.n + 1) c.in_ok-c1.field-0.0 c.in_ok-c1.field-0.1 c.member.new.out))) =
    Steps.body_is (ap (λ (f : ℕ). goto (members f)) (sym c.with_member-fault.ensures.0)) joined in
    let at_for : (((let a0 = c.args in Seg a0.set a0.src.now a0.left (state (reading c.loop-c1.fault c.loop-c1.cur) c.loop-c1.n c.loop-c1.cur c.loop-c1.at c.loop-c1.out) 0 0 (state (goto (comprehension told)) (c.loop-c1.n + 1) c.past_comma-cur.result c.in_ok-c1.field-0.1 c.member.new.out)))) =
    members_for there c.past_comma-cur.ensures c.if-cur-eq-FOR_KW.true known in
    Steps.as_sub (Steps.tail (lit≤ tt) c.comp.ensures (Steps.onto c.loop-c1.invariant.0.seg at_for))

pub inside-returns-then-c1-ne-COMMA : goal.inside-returns-then-c1-ne-COMMA
inside-returns-then-c1-ne-COMMA t c =
    let joined : ((let a0 = c.args in Seg a0.set a0.src.now a0.left (state (reading c.loop-c1.fault c.loop-c1.cur) c.loop-c1.n c.loop-c1.cur c.loop-c1.at c.loop-c1.out) 0 0 (state (goto (members (with_member c.loop-c1.fault c.loop-c1.cur.kind))) (c.loop-c1.n + 1) c.in_ok-c1.field-0.0 c.in_ok-c1.field-0.1 c.member.new.out))) =
    Steps.took c.member.ensures c.in_ok-c1.was (let a0 = c.args in Steps.at a0.set a0.src.now a0.left (reading c.loop-c1.fault c.loop-c1.cur) c.loop-c1.n c.loop-c1.cur c.loop-c1.at c.loop-c1.out) in
    let there : (Stands c.args.src.now c.in_ok-c1.field-0.0) =
    joined.stands c.loop-c1.invariant.0.ok.stands in
    let told : (ℕ) =
    c.with_member-fault.result in
    let known : ((let a0 = c.args in Seg a0.set a0.src.now a0.left (state (reading c.loop-c1.fault c.loop-c1.cur) c.loop-c1.n c.loop-c1.cur c.loop-c1.at c.loop-c1.out) 0 0 (state (goto (members told)) (c.loop-c1.n + 1) c.in_ok-c1.field-0.0 c.in_ok-c1.field-0.1 c.member.new.out))) =
    Steps.body_is (ap (λ (f : ℕ). goto (members f)) (sym c.with_member-fault.ensures.0)) joined in
    let shape : (Body) =
    close 9 (number (c.loop-c1.n + 1) ∷ []) ▸ end in
    let last : (((let a0 = c.args in Seg a0.set a0.src.now a0.left (state (reading c.loop-c1.fault c.loop-c1.cur) c.loop-c1.n c.loop-c1.cur c.loop-c1.at c.loop-c1.out) 0 0 (state shape (c.loop-c1.n + 1) c.past_comma-cur.result c.in_ok-c1.field-0.1 c.member.new.out)))) =
    members_last there c.past_comma-cur.ensures c.if-c1-ne-COMMA.true c.if-cur-eq-FOR_KW.false known in
    let a = c.args in
    Steps.as_sub (Steps.tail (lit≤ tt) ((c.members_close-then-c1-ne-COMMA.ensures.ends a.src.now).ends a.set a.left (c.loop-c1.n + 1))
    (Steps.onto c.loop-c1.invariant.0.seg last))

pub inside-shape_of-out-then-cur-eq-FOR_KW : goal.inside-shape_of-out-then-cur-eq-FOR_KW
inside-shape_of-out-then-cur-eq-FOR_KW t c =
    let as_long : (length c.member.new.out ≡ length c.args.out.now) =
    c.member.auto.out ∙ c.loop-c1.invariant.0.same in
    c.comp.auto.out ∙ as_long

pub inside-shape_of-out-then-c1-ne-COMMA : goal.inside-shape_of-out-then-c1-ne-COMMA
inside-shape_of-out-then-c1-ne-COMMA t c =
    let as_long : (length c.member.new.out ≡ length c.args.out.now) =
    c.member.auto.out ∙ c.loop-c1.invariant.0.same in
    c.members_close-then-c1-ne-COMMA.auto.out ∙ as_long

pub inside-shape_of-out-then-cur-eq-R_BRACE : goal.inside-shape_of-out-then-cur-eq-R_BRACE
inside-shape_of-out-then-cur-eq-R_BRACE t c =
    let as_long : (length c.member.new.out ≡ length c.args.out.now) =
    c.member.auto.out ∙ c.loop-c1.invariant.0.same in
    c.members_close-then-cur-eq-R_BRACE.auto.out ∙ as_long

pub inside-returns-then-cur-eq-R_BRACE : goal.inside-returns-then-cur-eq-R_BRACE
unfolding choose has rule sight
inside-returns-then-cur-eq-R_BRACE t c =
    let joined : ((let a0 = c.args in Seg a0.set a0.src.now a0.left (state (reading c.loop-c1.fault c.loop-c1.cur) c.loop-c1.n c.loop-c1.cur c.loop-c1.at c.loop-c1.out) 0 0 (state (goto (members (with_member c.loop-c1.fault c.loop-c1.cur.kind))) (c.loop-c1.n + 1) c.in_ok-c1.field-0.0 c.in_ok-c1.field-0.1 c.member.new.out))) =
    Steps.took c.member.ensures c.in_ok-c1.was (let a0 = c.args in Steps.at a0.set a0.src.now a0.left (reading c.loop-c1.fault c.loop-c1.cur) c.loop-c1.n c.loop-c1.cur c.loop-c1.at c.loop-c1.out) in
    let there : (Stands c.args.src.now c.in_ok-c1.field-0.0) =
    joined.stands c.loop-c1.invariant.0.ok.stands in
    let stood : (Stands c.args.src.now c.past_comma-cur.result) =
    (past_stands there c.past_comma-cur.ensures).0 in
    let shape : (Body) =
    close 9 (number (c.loop-c1.n + 1) ∷ []) ▸ end in
    let told : (ℕ) =
    c.with_member-fault.result in
    let known : ((let a0 = c.args in Seg a0.set a0.src.now a0.left (state (reading c.loop-c1.fault c.loop-c1.cur) c.loop-c1.n c.loop-c1.cur c.loop-c1.at c.loop-c1.out) 0 0 (state (goto (members told)) (c.loop-c1.n + 1) c.in_ok-c1.field-0.0 c.in_ok-c1.field-0.1 c.member.new.out))) =
    Steps.body_is (ap (λ (f : ℕ). goto (members f)) (sym c.with_member-fault.ensures.0)) joined in
    let next : (((let a0 = c.args in Seg a0.set a0.src.now a0.left (state (reading c.loop-c1.fault c.loop-c1.cur) c.loop-c1.n c.loop-c1.cur c.loop-c1.at c.loop-c1.out) 0 0 (state (goto (next_member told)) (c.loop-c1.n + 1) c.past_comma-cur.result c.in_ok-c1.field-0.1 c.member.new.out)))) =
    members_next there c.past_comma-cur.ensures c.if-c1-ne-COMMA.false known in
    let shut : (((let a0 = c.args in Seg a0.set a0.src.now a0.left (state (reading c.loop-c1.fault c.loop-c1.cur) c.loop-c1.n c.loop-c1.cur c.loop-c1.at c.loop-c1.out) 0 0 (state shape (c.loop-c1.n + 1) c.past_comma-cur.result c.in_ok-c1.field-0.1 c.member.new.out)))) =
    Steps.known shape stood c.if-cur-eq-R_BRACE.true (λ xs t. refl) next in
    let a = c.args in
    Steps.as_sub (Steps.tail (lit≤ tt) ((c.members_close-then-cur-eq-R_BRACE.ensures.ends a.src.now).ends a.set a.left (c.loop-c1.n + 1))
    (Steps.onto c.loop-c1.invariant.0.seg shut))

pub item-init-requires : goal.item-init-requires
item-init-requires t c =
    let word : (List ℕ) =
    slice c.args.c.start c.args.c.end c.args.src.now in
    let size : (ℕ) =
    c.args.c.end - c.args.c.at in
    let named : ((Seg c.args.set c.args.src.now c.args.left (state (goto pattern_field) 0 c.args.c c.args.w c.args.out.now) size 0 (state (goto (pattern_into word)) 0 c.in_ok-c1.field-0.0 c.in_ok-c1.field-0.1 c.args.out.now))) =
    name_read c.requires.stands c.eat.ensures c.in_ok-c1.was in
    let there : (Stands c.args.src.now c.in_ok-c1.field-0.0) =
    named.stands c.requires.stands in
    let bare : ((Seg c.args.set c.args.src.now c.args.left (state (goto pattern_field) 0 c.args.c c.args.w c.args.out.now) size 0 (state (goto (pattern_default 0 word)) 0 c.in_ok-c1.field-0.0 c.in_ok-c1.field-0.1 c.args.out.now))) =
    Steps.known (goto (pattern_default 0 word)) there refl (λ xs t. into_none c.args.set _ xs 0 word _ t c.if-c1-ne-COLON.true) named in
    let l = lies c.requires.stands in
    (omega (arith, c.decreases), (Steps.ready c.requires (omega arith) bare, l.on, l.within))

pub item-eat_any-requires : goal.item-eat_any-requires
item-eat_any-requires t c =
    let word : (List ℕ) =
    slice c.args.c.start c.args.c.end c.args.src.now in
    let size : (ℕ) =
    c.args.c.end - c.args.c.at in
    let named : ((Seg c.args.set c.args.src.now c.args.left (state (goto pattern_field) 0 c.args.c c.args.w c.args.out.now) size 0 (state (goto (pattern_into word)) 0 c.in_ok-c1.field-0.0 c.in_ok-c1.field-0.1 c.args.out.now))) =
    name_read c.requires.stands c.eat.ensures c.in_ok-c1.was in
    let there : (Stands c.args.src.now c.in_ok-c1.field-0.0) =
    named.stands c.requires.stands in
    there

pub item-pat-requires : goal.item-pat-requires
item-pat-requires t c =
    let word : (List ℕ) =
    slice c.args.c.start c.args.c.end c.args.src.now in
    let size : (ℕ) =
    c.args.c.end - c.args.c.at in
    let named : ((Seg c.args.set c.args.src.now c.args.left (state (goto pattern_field) 0 c.args.c c.args.w c.args.out.now) size 0 (state (goto (pattern_into word)) 0 c.in_ok-c1.field-0.0 c.in_ok-c1.field-0.1 c.args.out.now))) =
    name_read c.requires.stands c.eat.ensures c.in_ok-c1.was in
    let there : (Stands c.args.src.now c.in_ok-c1.field-0.0) =
    named.stands c.requires.stands in
    let opened : ((Seg c.args.set c.args.src.now c.args.left (state (goto pattern_field) 0 c.args.c c.args.w c.args.out.now) (size + 1) 0 (state (sub pattern ▸ goto (pattern_default 1 word)) 0 c.eat_any.result c.in_ok-c1.field-0.1 c.args.out.now))) =
    let is = c.if-c1-ne-COLON.false in
    Steps.taken (lit< tt) there c.eat_any.ensures is
    (Steps.known (eat 29 ▸ sub pattern ▸ goto (pattern_default 1 word)) there is (λ xs t. into_pattern c.args.set _ xs 0 word t) named) in
    (omega (arith, c.decreases), Steps.ready c.requires (omega arith) opened)

pub item-init-requires-2 : goal.item-init-requires-2
item-init-requires-2 t c =
    let word : (List ℕ) =
    slice c.args.c.start c.args.c.end c.args.src.now in
    let size : (ℕ) =
    c.args.c.end - c.args.c.at in
    let named : ((Seg c.args.set c.args.src.now c.args.left (state (goto pattern_field) 0 c.args.c c.args.w c.args.out.now) size 0 (state (goto (pattern_into word)) 0 c.in_ok-c1.field-0.0 c.in_ok-c1.field-0.1 c.args.out.now))) =
    name_read c.requires.stands c.eat.ensures c.in_ok-c1.was in
    let there : (Stands c.args.src.now c.in_ok-c1.field-0.0) =
    named.stands c.requires.stands in
    let opened : ((Seg c.args.set c.args.src.now c.args.left (state (goto pattern_field) 0 c.args.c c.args.w c.args.out.now) (size + 1) 0 (state (sub pattern ▸ goto (pattern_default 1 word)) 0 c.eat_any.result c.in_ok-c1.field-0.1 c.args.out.now))) =
    let is = c.if-c1-ne-COLON.false in
    Steps.taken (lit< tt) there c.eat_any.ensures is
    (Steps.known (eat 29 ▸ sub pattern ▸ goto (pattern_default 1 word)) there is (λ xs t. into_pattern c.args.set _ xs 0 word t) named) in
    let into : ((Seg c.args.set c.args.src.now c.args.left (state (goto pattern_field) 0 c.args.c c.args.w c.args.out.now) (size + 1) 0 (state (goto (pattern_default 1 word)) 1 c.in_ok-c2.field-0.0 c.in_ok-c2.field-0.1 c.pat.new.out))) =
    Steps.took c.pat.ensures c.in_ok-c2.was opened in
    let l = lies c.requires.stands in
    (omega (arith, c.decreases), (Steps.ready c.requires (omega arith) into, l.on, l.within))

pub item-returns-in_err-c1 : goal.item-returns-in_err-c1
item-returns-in_err-c1 t c =
    Steps.as_sub (Steps.passed (field_broken c.eat.ensures c.in_err-c1.was (Steps.handed c.from_residual.ensures)) Steps.here)

pub item-returns-then-c1-ne-COLON : goal.item-returns-then-c1-ne-COLON
item-returns-then-c1-ne-COLON t c =
    let size : (ℕ) =
    c.args.c.end - c.args.c.at in
    let paid : (9 + (c.args.c.end - c.args.c.start) ≤ 32 * size) =
    let m = c.eat.ensures.moved _ _ _ c.in_ok-c1.was in let l = lies c.requires.stands in omega (arith, m.0, m.2, l.from, l.on) in
    let word : (List ℕ) =
    slice c.args.c.start c.args.c.end c.args.src.now in
    let named : ((Seg c.args.set c.args.src.now c.args.left (state (goto pattern_field) 0 c.args.c c.args.w c.args.out.now) size 0 (state (goto (pattern_into word)) 0 c.in_ok-c1.field-0.0 c.in_ok-c1.field-0.1 c.args.out.now))) =
    name_read c.requires.stands c.eat.ensures c.in_ok-c1.was in
    let there : (Stands c.args.src.now c.in_ok-c1.field-0.0) =
    named.stands c.requires.stands in
    let bare : ((Seg c.args.set c.args.src.now c.args.left (state (goto pattern_field) 0 c.args.c c.args.w c.args.out.now) size 0 (state (goto (pattern_default 0 word)) 0 c.in_ok-c1.field-0.0 c.in_ok-c1.field-0.1 c.args.out.now))) =
    Steps.known (goto (pattern_default 0 word)) there refl (λ xs t. into_none c.args.set _ xs 0 word _ t c.if-c1-ne-COLON.true) named in
    Steps.as_sub (Steps.tail (omega (arith, paid)) c.init.ensures bare)

pub item-returns-in_err-c2 : goal.item-returns-in_err-c2
item-returns-in_err-c2 t c =
    let word : (List ℕ) =
    slice c.args.c.start c.args.c.end c.args.src.now in
    let size : (ℕ) =
    c.args.c.end - c.args.c.at in
    let named : ((Seg c.args.set c.args.src.now c.args.left (state (goto pattern_field) 0 c.args.c c.args.w c.args.out.now) size 0 (state (goto (pattern_into word)) 0 c.in_ok-c1.field-0.0 c.in_ok-c1.field-0.1 c.args.out.now))) =
    name_read c.requires.stands c.eat.ensures c.in_ok-c1.was in
    let there : (Stands c.args.src.now c.in_ok-c1.field-0.0) =
    named.stands c.requires.stands in
    let opened : ((Seg c.args.set c.args.src.now c.args.left (state (goto pattern_field) 0 c.args.c c.args.w c.args.out.now) (size + 1) 0 (state (sub pattern ▸ goto (pattern_default 1 word)) 0 c.eat_any.result c.in_ok-c1.field-0.1 c.args.out.now))) =
    let is = c.if-c1-ne-COLON.false in
    Steps.taken (lit< tt) there c.eat_any.ensures is
    (Steps.known (eat 29 ▸ sub pattern ▸ goto (pattern_default 1 word)) there is (λ xs t. into_pattern c.args.set _ xs 0 word t) named) in
    Steps.as_sub (Steps.passed (Steps.takes_broken c.pat.ensures c.in_err-c2.was (Steps.handed c.from_residual-in_err-c2.ensures)) opened)

pub item-returns : goal.item-returns
item-returns t c =
    let size : (ℕ) =
    c.args.c.end - c.args.c.at in
    let paid : (9 + (c.args.c.end - c.args.c.start) ≤ 32 * size) =
    let m = c.eat.ensures.moved _ _ _ c.in_ok-c1.was in let l = lies c.requires.stands in omega (arith, m.0, m.2, l.from, l.on) in
    let word : (List ℕ) =
    slice c.args.c.start c.args.c.end c.args.src.now in
    let named : ((Seg c.args.set c.args.src.now c.args.left (state (goto pattern_field) 0 c.args.c c.args.w c.args.out.now) size 0 (state (goto (pattern_into word)) 0 c.in_ok-c1.field-0.0 c.in_ok-c1.field-0.1 c.args.out.now))) =
    name_read c.requires.stands c.eat.ensures c.in_ok-c1.was in
    let there : (Stands c.args.src.now c.in_ok-c1.field-0.0) =
    named.stands c.requires.stands in
    let opened : ((Seg c.args.set c.args.src.now c.args.left (state (goto pattern_field) 0 c.args.c c.args.w c.args.out.now) (size + 1) 0 (state (sub pattern ▸ goto (pattern_default 1 word)) 0 c.eat_any.result c.in_ok-c1.field-0.1 c.args.out.now))) =
    let is = c.if-c1-ne-COLON.false in
    Steps.taken (lit< tt) there c.eat_any.ensures is
    (Steps.known (eat 29 ▸ sub pattern ▸ goto (pattern_default 1 word)) there is (λ xs t. into_pattern c.args.set _ xs 0 word t) named) in
    let into : ((Seg c.args.set c.args.src.now c.args.left (state (goto pattern_field) 0 c.args.c c.args.w c.args.out.now) (size + 1) 0 (state (goto (pattern_default 1 word)) 1 c.in_ok-c2.field-0.0 c.in_ok-c2.field-0.1 c.pat.new.out))) =
    Steps.took c.pat.ensures c.in_ok-c2.was opened in
    Steps.as_sub (Steps.tail (omega (arith, paid)) c.init-2.ensures into)

pub link-safe-requires : goal.link-safe-requires
link-safe-requires t c =
    let questioned : (((let a0 = c.args in Seg a0.set a0.src.now a0.left (state (goto (suffix a0.first)) 1 a0.c a0.w a0.out.now) 1 0 (state (safely c.args.first) 1 c.eat_any-c1.result c.args.w c.args.out.now)))) =
    let p = c.requires in past-question p.0.stands c.eat_any-c1.ensures (at_question p.1 c.in-36.is) c.in-36.is ((let a0 = c.args in Steps.at a0.set a0.src.now a0.left (goto (suffix a0.first)) 1 a0.c a0.w a0.out.now)) in
    (omega (arith, c.decreases), (Steps.ready c.requires.0 (lit≤ tt) questioned, c.requires.2))

pub link-member_name-requires : goal.link-member_name-requires
link-member_name-requires t c =
    let dotted : (((let a0 = c.args in Seg a0.set a0.src.now a0.left (state (goto (suffix a0.first)) 1 a0.c a0.w a0.out.now) 1 0 (state (goto (member_name c.args.first 0)) 1 c.eat_any-c1.result c.args.w c.args.out.now)))) =
    past_dot c.requires.0.stands c.eat_any-c1.ensures c.in-31.is ((let a0 = c.args in Steps.at a0.set a0.src.now a0.left (goto (suffix a0.first)) 1 a0.c a0.w a0.out.now)) in
    (Steps.ready c.requires.0 (lit≤ tt) dotted, c.requires.2)

pub link-index-requires : goal.link-index-requires
link-index-requires t c =
    let bracketed : (((let a0 = c.args in Seg a0.set a0.src.now a0.left (state (goto (suffix a0.first)) 1 a0.c a0.w a0.out.now) 1 0 (state (goto (bracket c.args.first)) 1 c.eat_any-c1.result c.args.w c.args.out.now)))) =
    past_bracket c.requires.0.stands c.eat_any-c1.ensures c.in-23.is ((let a0 = c.args in Steps.at a0.set a0.src.now a0.left (goto (suffix a0.first)) 1 a0.c a0.w a0.out.now)) in
    (omega (arith, c.decreases), (Steps.ready c.requires.0 (lit≤ tt) bracketed, c.requires.2))

pub link-args-requires : goal.link-args-requires
link-args-requires t c =
    let called : (((let a0 = c.args in Seg a0.set a0.src.now a0.left (state (goto (suffix a0.first)) 1 a0.c a0.w a0.out.now) 1 0 (state (goto (arguments c.args.c.start 0 0)) 1 c.eat_any-c1.result c.args.w c.args.out.now)))) =
    past_paren c.requires.0.stands c.eat_any-c1.ensures c.in-25.is ((let a0 = c.args in Steps.at a0.set a0.src.now a0.left (goto (suffix a0.first)) 1 a0.c a0.w a0.out.now)) in
    (omega (arith, c.decreases), (Steps.ready c.requires.0 (lit≤ tt) called, (within c.requires.0).0))

pub link-inside-requires : goal.link-inside-requires
link-inside-requires t c =
    let braced : (((let a0 = c.args in Seg a0.set a0.src.now a0.left (state (goto (suffix a0.first)) 1 a0.c a0.w a0.out.now) 1 0 (state (sub inside ▸ eat 28 ▸ close 11 [] ▸ goto (suffix 1)) 1 c.eat_any-c1.result c.args.w c.args.out.now)))) =
    let p = c.requires in let r = c.in_default.in_default-own.rest in
    past_brace p.0.stands c.eat_any-c1.ensures (at_brace p.1 r.0.0.0.1 r.0.0.1 r.0.1 r.1) ((let a0 = c.args in Steps.at a0.set a0.src.now a0.left (goto (suffix a0.first)) 1 a0.c a0.w a0.out.now)) in
    (omega (arith, c.decreases), Steps.ready c.requires.0 (lit≤ tt) braced)

pub link-eat-requires : goal.link-eat-requires
link-eat-requires t c =
    let braced : (((let a0 = c.args in Seg a0.set a0.src.now a0.left (state (goto (suffix a0.first)) 1 a0.c a0.w a0.out.now) 1 0 (state (sub inside ▸ eat 28 ▸ close 11 [] ▸ goto (suffix 1)) 1 c.eat_any-c1.result c.args.w c.args.out.now)))) =
    let p = c.requires in let r = c.in_default.in_default-own.rest in
    past_brace p.0.stands c.eat_any-c1.ensures (at_brace p.1 r.0.0.0.1 r.0.0.1 r.0.1 r.1) ((let a0 = c.args in Steps.at a0.set a0.src.now a0.left (goto (suffix a0.first)) 1 a0.c a0.w a0.out.now)) in
    let object : ((let a0 = c.args in Seg a0.set a0.src.now a0.left (state (goto (suffix a0.first)) 1 a0.c a0.w a0.out.now) 1 7 (state (eat 28 ▸ close 11 [] ▸ goto (suffix 1)) 2 c.in_ok-c2-in_default.field-0.0 c.in_ok-c2-in_default.field-0.1 c.inside.new.out))) =
    Steps.took_owing c.inside.ensures c.in_ok-c2-in_default.was braced in
    (lit< tt, object.stands c.requires.0.stands)

pub link-put_none-w4-requires : goal.link-put_none-w4-requires
link-put_none-w4-requires t c =
    let braced : (((let a0 = c.args in Seg a0.set a0.src.now a0.left (state (goto (suffix a0.first)) 1 a0.c a0.w a0.out.now) 1 0 (state (sub inside ▸ eat 28 ▸ close 11 [] ▸ goto (suffix 1)) 1 c.eat_any-c1.result c.args.w c.args.out.now)))) =
    let p = c.requires in let r = c.in_default.in_default-own.rest in
    past_brace p.0.stands c.eat_any-c1.ensures (at_brace p.1 r.0.0.0.1 r.0.0.1 r.0.1 r.1) ((let a0 = c.args in Steps.at a0.set a0.src.now a0.left (goto (suffix a0.first)) 1 a0.c a0.w a0.out.now)) in
    let object : ((let a0 = c.args in Seg a0.set a0.src.now a0.left (state (goto (suffix a0.first)) 1 a0.c a0.w a0.out.now) 1 7 (state (eat 28 ▸ close 11 [] ▸ goto (suffix 1)) 2 c.in_ok-c2-in_default.field-0.0 c.in_ok-c2-in_default.field-0.1 c.inside.new.out))) =
    Steps.took_owing c.inside.ensures c.in_ok-c2-in_default.was braced in
    let over : ((let a0 = c.args in Seg a0.set a0.src.now a0.left (state (goto (suffix a0.first)) 1 a0.c a0.w a0.out.now) 2 7 (state (close 11 [] ▸ goto (suffix 1)) 2 c.in_ok-c3-in_default.field-0.0 c.in_ok-c3-in_default.field-0.1 c.inside.new.out))) =
    Steps.ate c.eat.ensures c.in_ok-c3-in_default.was object in
    Steps.fits c.requires.0 (lit≤ tt) over

pub link-returns-in_err-c2-in_default : goal.link-returns-in_err-c2-in_default
link-returns-in_err-c2-in_default t c =
    let braced : (((let a0 = c.args in Seg a0.set a0.src.now a0.left (state (goto (suffix a0.first)) 1 a0.c a0.w a0.out.now) 1 0 (state (sub inside ▸ eat 28 ▸ close 11 [] ▸ goto (suffix 1)) 1 c.eat_any-c1.result c.args.w c.args.out.now)))) =
    let p = c.requires in let r = c.in_default.in_default-own.rest in
    past_brace p.0.stands c.eat_any-c1.ensures (at_brace p.1 r.0.0.0.1 r.0.0.1 r.0.1 r.1) ((let a0 = c.args in Steps.at a0.set a0.src.now a0.left (goto (suffix a0.first)) 1 a0.c a0.w a0.out.now)) in
    passed_on (Steps.takes_broken c.inside.ensures c.in_err-c2-in_default.was (Steps.handed c.from_residual.ensures)) braced

pub link-returns-in_err-c3-in_default : goal.link-returns-in_err-c3-in_default
link-returns-in_err-c3-in_default t c =
    let braced : (((let a0 = c.args in Seg a0.set a0.src.now a0.left (state (goto (suffix a0.first)) 1 a0.c a0.w a0.out.now) 1 0 (state (sub inside ▸ eat 28 ▸ close 11 [] ▸ goto (suffix 1)) 1 c.eat_any-c1.result c.args.w c.args.out.now)))) =
    let p = c.requires in let r = c.in_default.in_default-own.rest in
    past_brace p.0.stands c.eat_any-c1.ensures (at_brace p.1 r.0.0.0.1 r.0.0.1 r.0.1 r.1) ((let a0 = c.args in Steps.at a0.set a0.src.now a0.left (goto (suffix a0.first)) 1 a0.c a0.w a0.out.now)) in
    let object : ((let a0 = c.args in Seg a0.set a0.src.now a0.left (state (goto (suffix a0.first)) 1 a0.c a0.w a0.out.now) 1 7 (state (eat 28 ▸ close 11 [] ▸ goto (suffix 1)) 2 c.in_ok-c2-in_default.field-0.0 c.in_ok-c2-in_default.field-0.1 c.inside.new.out))) =
    Steps.took_owing c.inside.ensures c.in_ok-c2-in_default.was braced in
    passed_on (Steps.eats_broken c.eat.ensures c.in_err-c3-in_default.was (Steps.handed c.from_residual-in_err-c3-in_default.ensures)) object

pub link-returns-in-36 : goal.link-returns-in-36
link-returns-in-36 t c =
    let questioned : (((let a0 = c.args in Seg a0.set a0.src.now a0.left (state (goto (suffix a0.first)) 1 a0.c a0.w a0.out.now) 1 0 (state (safely c.args.first) 1 c.eat_any-c1.result c.args.w c.args.out.now)))) =
    let p = c.requires in past-question p.0.stands c.eat_any-c1.ensures (at_question p.1 c.in-36.is) c.in-36.is ((let a0 = c.args in Steps.at a0.set a0.src.now a0.left (goto (suffix a0.first)) 1 a0.c a0.w a0.out.now)) in
    tail_on (lit≤ tt) (lit≤ tt) c.safe.ensures questioned

pub link-returns-in-31 : goal.link-returns-in-31
link-returns-in-31 t c =
    let dotted : (((let a0 = c.args in Seg a0.set a0.src.now a0.left (state (goto (suffix a0.first)) 1 a0.c a0.w a0.out.now) 1 0 (state (goto (member_name c.args.first 0)) 1 c.eat_any-c1.result c.args.w c.args.out.now)))) =
    past_dot c.requires.0.stands c.eat_any-c1.ensures c.in-31.is ((let a0 = c.args in Steps.at a0.set a0.src.now a0.left (goto (suffix a0.first)) 1 a0.c a0.w a0.out.now)) in
    let a = c.args in
    tail_on (lit≤ tt) (lit≤ tt) (c.member_name.ensures.tells a.set a.left) dotted

pub link-returns-in-23 : goal.link-returns-in-23
link-returns-in-23 t c =
    let bracketed : (((let a0 = c.args in Seg a0.set a0.src.now a0.left (state (goto (suffix a0.first)) 1 a0.c a0.w a0.out.now) 1 0 (state (goto (bracket c.args.first)) 1 c.eat_any-c1.result c.args.w c.args.out.now)))) =
    past_bracket c.requires.0.stands c.eat_any-c1.ensures c.in-23.is ((let a0 = c.args in Steps.at a0.set a0.src.now a0.left (goto (suffix a0.first)) 1 a0.c a0.w a0.out.now)) in
    tail_on (lit≤ tt) (lit≤ tt) c.index.ensures bracketed

pub link-returns-in-25 : goal.link-returns-in-25
link-returns-in-25 t c =
    let called : (((let a0 = c.args in Seg a0.set a0.src.now a0.left (state (goto (suffix a0.first)) 1 a0.c a0.w a0.out.now) 1 0 (state (goto (arguments c.args.c.start 0 0)) 1 c.eat_any-c1.result c.args.w c.args.out.now)))) =
    past_paren c.requires.0.stands c.eat_any-c1.ensures c.in-25.is ((let a0 = c.args in Steps.at a0.set a0.src.now a0.left (goto (suffix a0.first)) 1 a0.c a0.w a0.out.now)) in
    tail_on (lit≤ tt) (lit≤ tt) c.args-in-25.ensures called

pub link-returns-in_ok-c3-in_default : goal.link-returns-in_ok-c3-in_default
unfolding entry payload
link-returns-in_ok-c3-in_default t c =
    let braced : (((let a0 = c.args in Seg a0.set a0.src.now a0.left (state (goto (suffix a0.first)) 1 a0.c a0.w a0.out.now) 1 0 (state (sub inside ▸ eat 28 ▸ close 11 [] ▸ goto (suffix 1)) 1 c.eat_any-c1.result c.args.w c.args.out.now)))) =
    let p = c.requires in let r = c.in_default.in_default-own.rest in
    past_brace p.0.stands c.eat_any-c1.ensures (at_brace p.1 r.0.0.0.1 r.0.0.1 r.0.1 r.1) ((let a0 = c.args in Steps.at a0.set a0.src.now a0.left (goto (suffix a0.first)) 1 a0.c a0.w a0.out.now)) in
    let object : ((let a0 = c.args in Seg a0.set a0.src.now a0.left (state (goto (suffix a0.first)) 1 a0.c a0.w a0.out.now) 1 7 (state (eat 28 ▸ close 11 [] ▸ goto (suffix 1)) 2 c.in_ok-c2-in_default.field-0.0 c.in_ok-c2-in_default.field-0.1 c.inside.new.out))) =
    Steps.took_owing c.inside.ensures c.in_ok-c2-in_default.was braced in
    let over : ((let a0 = c.args in Seg a0.set a0.src.now a0.left (state (goto (suffix a0.first)) 1 a0.c a0.w a0.out.now) 2 7 (state (close 11 [] ▸ goto (suffix 1)) 2 c.in_ok-c3-in_default.field-0.0 c.in_ok-c3-in_default.field-0.1 c.inside.new.out))) =
    Steps.ate c.eat.ensures c.in_ok-c3-in_default.was object in
    told_on (lit≤ tt) (lit≤ tt) (lit≤ tt) (Steps.closed 3 (lit≤ tt) c.put_none-w4.ensures over)

pub load-expr-requires : goal.load-expr-requires
load-expr-requires t c =
    let shut =
    close 16 (byte c.args.which ∷ span c.args.c.start c.args.c.end ∷ []) ▸ end in
    let opened =
    let st = c.requires.0.stands in
    Steps.taken (import_some c.requires.1) st c.eat_any.ensures refl
    (Steps.known (eat c.args.c.kind ▸ expression ▸ shut) st refl (λ xs t. imports_on c.args.set c.args.c xs 0 t c.requires.1) (Steps.at c.args.set c.args.src.now c.args.left (goto basic) 0 c.args.c c.args.w c.args.out.now)) in
    (omega (arith, c.decreases), Steps.ready c.requires.0 (lit≤ tt) opened)

pub load-put_kind-w2-requires : goal.load-put_kind-w2-requires
load-put_kind-w2-requires t c =
    let shut =
    close 16 (byte c.args.which ∷ span c.args.c.start c.args.c.end ∷ []) ▸ end in
    let opened =
    let st = c.requires.0.stands in
    Steps.taken (import_some c.requires.1) st c.eat_any.ensures refl
    (Steps.known (eat c.args.c.kind ▸ expression ▸ shut) st refl (λ xs t. imports_on c.args.set c.args.c xs 0 t c.requires.1) (Steps.at c.args.set c.args.src.now c.args.left (goto basic) 0 c.args.c c.args.w c.args.out.now)) in
    let value =
    Steps.took c.expr.ensures c.in_ok-c1.was opened in
    let p = c.requires.0 in (Steps.fits p (lit≤ tt) value, (within p).0, (within p).1)

pub load-returns-in_err-c1 : goal.load-returns-in_err-c1
load-returns-in_err-c1 t c =
    let shut =
    close 16 (byte c.args.which ∷ span c.args.c.start c.args.c.end ∷ []) ▸ end in
    let opened =
    let st = c.requires.0.stands in
    Steps.taken (import_some c.requires.1) st c.eat_any.ensures refl
    (Steps.known (eat c.args.c.kind ▸ expression ▸ shut) st refl (λ xs t. imports_on c.args.set c.args.c xs 0 t c.requires.1) (Steps.at c.args.set c.args.src.now c.args.left (goto basic) 0 c.args.c c.args.w c.args.out.now)) in
    Steps.passed (Steps.takes_broken c.expr.ensures c.in_err-c1.was (Steps.handed c.from_residual.ensures)) opened

pub load-returns : goal.load-returns
unfolding entry payload
load-returns t c =
    let shut =
    close 16 (byte c.args.which ∷ span c.args.c.start c.args.c.end ∷ []) ▸ end in
    let opened =
    let st = c.requires.0.stands in
    Steps.taken (import_some c.requires.1) st c.eat_any.ensures refl
    (Steps.known (eat c.args.c.kind ▸ expression ▸ shut) st refl (λ xs t. imports_on c.args.set c.args.c xs 0 t c.requires.1) (Steps.at c.args.set c.args.src.now c.args.left (goto basic) 0 c.args.c c.args.w c.args.out.now)) in
    let value =
    Steps.took c.expr.ensures c.in_ok-c1.was opened in
    Steps.ends (lit≤ tt) (Steps.closed 8 (lit≤ tt) c.put_kind-w2.ensures value)

pub local-loop-cur-init : goal.local-loop-cur-init
local-loop-cur-init t c =
    (Steps.begun c.requires, omega arith)

pub local-body-requires : goal.local-body-requires
local-body-requires t c =
    (omega (arith, c.decreases), (c.loop-cur.invariant.0.ok, c.loop-cur.invariant.1))

pub local-bind-requires : goal.local-bind-requires
local-bind-requires t c =
    (omega (arith, c.decreases), c.loop-cur.invariant.0.ok)

pub local-overflow_add-n : goal.local-overflow_add-n
local-overflow_add-n t c =
    let i = c.loop-cur.invariant in omega (arith, i.1, i.0.ok.stands.within, i.0.ok.stands.short)

pub local-body-requires-then-c1-ne-COMMA : goal.local-body-requires-then-c1-ne-COMMA
unfolding choose has rule sight
local-body-requires-then-c1-ne-COMMA t c =
    let one =
    Steps.known (sub bind ▸ goto binds_end) c.loop-cur.invariant.0.ok.stands refl (λ xs t. simp (ne_eqb _ 30 c.if-cur-eq-SEMI.false)) (let a0 = c.args in Steps.at a0.set a0.src.now a0.left (goto binds) c.loop-cur.n c.loop-cur.cur c.loop-cur.at c.loop-cur.out) in
    let bound =
    Steps.took c.bind.ensures c.in_ok-c1.was one in
    let i = c.loop-cur.invariant in
    let more = step_grows c.bind.ensures c.in_ok-c1.was in
    (omega (arith, c.decreases), (Steps.ready i.0.ok (lit≤ tt) bound, omega (arith, i.1, more)))

pub local-eat_any-cur-requires : goal.local-eat_any-cur-requires
unfolding choose has rule sight
local-eat_any-cur-requires t c =
    let one =
    Steps.known (sub bind ▸ goto binds_end) c.loop-cur.invariant.0.ok.stands refl (λ xs t. simp (ne_eqb _ 30 c.if-cur-eq-SEMI.false)) (let a0 = c.args in Steps.at a0.set a0.src.now a0.left (goto binds) c.loop-cur.n c.loop-cur.cur c.loop-cur.at c.loop-cur.out) in
    let bound =
    Steps.took c.bind.ensures c.in_ok-c1.was one in
    bound.stands c.loop-cur.invariant.0.ok.stands

pub local-loop-cur-smaller : goal.local-loop-cur-smaller
unfolding choose has rule sight
local-loop-cur-smaller t c =
    let one =
    Steps.known (sub bind ▸ goto binds_end) c.loop-cur.invariant.0.ok.stands refl (λ xs t. simp (ne_eqb _ 30 c.if-cur-eq-SEMI.false)) (let a0 = c.args in Steps.at a0.set a0.src.now a0.left (goto binds) c.loop-cur.n c.loop-cur.cur c.loop-cur.at c.loop-cur.out) in
    let bound =
    Steps.took c.bind.ensures c.in_ok-c1.was one in
    let next =
    let st = bound.stands c.loop-cur.invariant.0.ok.stands in let comma = c.if-c1-ne-COMMA.false in
    Steps.taken (lit< tt) st c.eat_any-cur.ensures comma (Steps.known (eat 33 ▸ goto binds) st comma (λ xs t. refl) bound) in
    Steps.closer c.loop-cur.invariant.0.ok (lit≤ tt) next

pub local-loop-cur-preserved : goal.local-loop-cur-preserved
unfolding choose has rule sight
local-loop-cur-preserved t c =
    let one =
    Steps.known (sub bind ▸ goto binds_end) c.loop-cur.invariant.0.ok.stands refl (λ xs t. simp (ne_eqb _ 30 c.if-cur-eq-SEMI.false)) (let a0 = c.args in Steps.at a0.set a0.src.now a0.left (goto binds) c.loop-cur.n c.loop-cur.cur c.loop-cur.at c.loop-cur.out) in
    let bound =
    Steps.took c.bind.ensures c.in_ok-c1.was one in
    let next =
    let st = bound.stands c.loop-cur.invariant.0.ok.stands in let comma = c.if-c1-ne-COMMA.false in
    Steps.taken (lit< tt) st c.eat_any-cur.ensures comma (Steps.known (eat 33 ▸ goto binds) st comma (λ xs t. refl) bound) in
    let i = c.loop-cur.invariant in (Steps.turned i.0 (lit≤ tt) next, omega (arith, i.1, next.onward))

pub local-returns-then-cur-eq-SEMI : goal.local-returns-then-cur-eq-SEMI
unfolding choose has rule sight
local-returns-then-cur-eq-SEMI t c =
    let i = c.loop-cur.invariant.0 in
    Steps.tail (lit≤ tt) c.body.ensures (Steps.known (goto local_body) i.ok.stands c.if-cur-eq-SEMI.true (λ xs t. refl) i.seg)

pub local-returns-in_err-c1 : goal.local-returns-in_err-c1
unfolding choose has rule sight
local-returns-in_err-c1 t c =
    let one =
    Steps.known (sub bind ▸ goto binds_end) c.loop-cur.invariant.0.ok.stands refl (λ xs t. simp (ne_eqb _ 30 c.if-cur-eq-SEMI.false)) (let a0 = c.args in Steps.at a0.set a0.src.now a0.left (goto binds) c.loop-cur.n c.loop-cur.cur c.loop-cur.at c.loop-cur.out) in
    Steps.passed (Steps.takes_broken c.bind.ensures c.in_err-c1.was (Steps.handed c.from_residual.ensures)) (Steps.then c.loop-cur.invariant.0.seg one)

pub local-returns-then-c1-ne-COMMA : goal.local-returns-then-c1-ne-COMMA
unfolding choose has rule sight
local-returns-then-c1-ne-COMMA t c =
    let one =
    Steps.known (sub bind ▸ goto binds_end) c.loop-cur.invariant.0.ok.stands refl (λ xs t. simp (ne_eqb _ 30 c.if-cur-eq-SEMI.false)) (let a0 = c.args in Steps.at a0.set a0.src.now a0.left (goto binds) c.loop-cur.n c.loop-cur.cur c.loop-cur.at c.loop-cur.out) in
    let bound =
    Steps.took c.bind.ensures c.in_ok-c1.was one in
    let i = c.loop-cur.invariant.0 in
    let last = Steps.known (goto local_body) (bound.stands i.ok.stands) refl (λ xs t. simp (ne_eqb _ 33 c.if-c1-ne-COMMA.true)) bound in
    Steps.tail (lit≤ tt) c.body-then-c1-ne-COMMA.ensures (Steps.then i.seg last)

pub member-bind-requires : goal.member-bind-requires
unfolding choose has rule sight
member-bind-requires t c =
    let local =
    let st = c.requires.stands in let at_local = c.if-c-eq-LOCAL_KW.true in
    Steps.taken (lit< tt) st c.eat_any.ensures at_local (Steps.known (eat 67 ▸ sub bind ▸ end) st at_local (λ xs t. refl) (let x0 = c.args in Steps.at x0.set x0.src.now x0.left (goto member) 0 x0.c x0.w x0.out.now)) in
    (omega (arith, c.decreases), Steps.ready c.requires (lit≤ tt) local)

pub member-assert-requires : goal.member-assert-requires
member-assert-requires t c =
    (omega (arith, c.decreases), c.requires)

pub member-field-requires : goal.member-field-requires
member-field-requires t c =
    (omega (arith, c.decreases), c.requires)

pub member-returns-then-c-eq-LOCAL_KW : goal.member-returns-then-c-eq-LOCAL_KW
unfolding choose has rule sight
member-returns-then-c-eq-LOCAL_KW t c =
    let local =
    let st = c.requires.stands in let at_local = c.if-c-eq-LOCAL_KW.true in
    Steps.taken (lit< tt) st c.eat_any.ensures at_local (Steps.known (eat 67 ▸ sub bind ▸ end) st at_local (λ xs t. refl) (let x0 = c.args in Steps.at x0.set x0.src.now x0.left (goto member) 0 x0.c x0.w x0.out.now)) in
    Steps.as_sub (Steps.tail (lit≤ tt) (c.bind.ensures.takes end 0) local)

pub member-returns-then-c-eq-ASSERT_KW : goal.member-returns-then-c-eq-ASSERT_KW
unfolding choose has rule sight
member-returns-then-c-eq-ASSERT_KW t c =
    let claim =
    Steps.known (sub assertion ▸ end) c.requires.stands c.if-c-eq-ASSERT_KW.true (λ xs t. refl) (let x0 = c.args in Steps.at x0.set x0.src.now x0.left (goto member) 0 x0.c x0.w x0.out.now) in
    Steps.as_sub (Steps.tail (lit≤ tt) (c.assert.ensures.takes end 0) claim)

pub member-returns : goal.member-returns
unfolding choose has rule sight
member-returns t c =
    let one =
    Steps.known (sub field ▸ end) c.requires.stands refl (λ xs t. simp (ne_eqb _ 67 c.if-c-eq-LOCAL_KW.false, ne_eqb _ 84 c.if-c-eq-ASSERT_KW.false)) (let x0 = c.args in Steps.at x0.set x0.src.now x0.left (goto member) 0 x0.c x0.w x0.out.now) in
    Steps.as_sub (Steps.tail (lit≤ tt) (c.field.ensures.takes end 0) one)

pub name-expr-requires : goal.name-expr-requires
unfolding choose has rule sight
name-expr-requires t c =
    let tail =
    eat 24 ▸ goto (field_named 1 c.args.c.start) in
    let opened =
    let st = c.requires.stands in let bracket = c.if-c-ne-L_BRACK.false in
    Steps.taken (lit< tt) st c.eat_any.ensures bracket (Steps.known (eat 23 ▸ expression ▸ tail) st bracket (λ xs t. refl) (Steps.at c.args.set c.args.src.now c.args.left (goto field) 0 c.args.c c.args.w c.args.out.now)) in
    (omega (arith, c.decreases), Steps.ready c.requires (lit≤ tt) opened)

pub name-eat-requires : goal.name-eat-requires
unfolding choose has rule sight
name-eat-requires t c =
    let tail =
    eat 24 ▸ goto (field_named 1 c.args.c.start) in
    let opened =
    let st = c.requires.stands in let bracket = c.if-c-ne-L_BRACK.false in
    Steps.taken (lit< tt) st c.eat_any.ensures bracket (Steps.known (eat 23 ▸ expression ▸ tail) st bracket (λ xs t. refl) (Steps.at c.args.set c.args.src.now c.args.left (goto field) 0 c.args.c c.args.w c.args.out.now)) in
    let value =
    Steps.took c.expr.ensures c.in_ok-c1.was opened in
    (lit< tt, value.stands c.requires.stands)

pub name-returns-then-c-ne-L_BRACK : goal.name-returns-then-c-ne-L_BRACK
name-returns-then-c-ne-L_BRACK t c =
    let a = c.args in c.fixed_name.ensures.tells a.set a.left

pub name-returns-in_err-c1 : goal.name-returns-in_err-c1
unfolding choose has rule sight
name-returns-in_err-c1 t c =
    let tail =
    eat 24 ▸ goto (field_named 1 c.args.c.start) in
    let opened =
    let st = c.requires.stands in let bracket = c.if-c-ne-L_BRACK.false in
    Steps.taken (lit< tt) st c.eat_any.ensures bracket (Steps.known (eat 23 ▸ expression ▸ tail) st bracket (λ xs t. refl) (Steps.at c.args.set c.args.src.now c.args.left (goto field) 0 c.args.c c.args.w c.args.out.now)) in
    Steps.passed_telling (Steps.takes_broken c.expr.ensures c.in_err-c1.was (Steps.handed c.from_residual.ensures)) opened

pub name-returns-in_err-c2 : goal.name-returns-in_err-c2
unfolding choose has rule sight
name-returns-in_err-c2 t c =
    let tail =
    eat 24 ▸ goto (field_named 1 c.args.c.start) in
    let opened =
    let st = c.requires.stands in let bracket = c.if-c-ne-L_BRACK.false in
    Steps.taken (lit< tt) st c.eat_any.ensures bracket (Steps.known (eat 23 ▸ expression ▸ tail) st bracket (λ xs t. refl) (Steps.at c.args.set c.args.src.now c.args.left (goto field) 0 c.args.c c.args.w c.args.out.now)) in
    let value =
    Steps.took c.expr.ensures c.in_ok-c1.was opened in
    Steps.passed_telling (Steps.eats_broken c.eat.ensures c.in_err-c2.was (Steps.handed c.from_residual-in_err-c2.ensures)) value

pub name-returns : goal.name-returns
unfolding choose has rule sight
name-returns t c =
    let tail =
    eat 24 ▸ goto (field_named 1 c.args.c.start) in
    let opened =
    let st = c.requires.stands in let bracket = c.if-c-ne-L_BRACK.false in
    Steps.taken (lit< tt) st c.eat_any.ensures bracket (Steps.known (eat 23 ▸ expression ▸ tail) st bracket (λ xs t. refl) (Steps.at c.args.set c.args.src.now c.args.left (goto field) 0 c.args.c c.args.w c.args.out.now)) in
    let value =
    Steps.took c.expr.ensures c.in_ok-c1.was opened in
    Steps.says_on (lit≤ tt) (lit≤ tt) (Steps.ate c.eat.ensures c.in_ok-c2.was value)

pub obj-loop-cur-init : goal.obj-loop-cur-init
obj-loop-cur-init t c =
    (Steps.begun c.requires, omega arith)

pub obj-object_rest-requires : goal.obj-object_rest-requires
obj-object_rest-requires t c =
    let rested =
    let st = c.loop-cur.invariant.0.ok.stands in let dots = c.if-cur-eq-DOTDOTDOT.true in
    Steps.taken (lit< tt) st c.eat_any.ensures dots (Steps.known (eat 32 ▸ goto object_rest) st dots (λ xs t. fields_rest c.args.set _ xs _ t) (let a0 = c.args in Steps.at a0.set a0.src.now a0.left (goto pattern_fields) c.loop-cur.n c.loop-cur.cur c.loop-cur.at c.loop-cur.out)) in
    let i = c.loop-cur.invariant in (Steps.ready i.0.ok (lit≤ tt) rested, omega (arith, i.1, rested.onward))

pub obj-item-requires : goal.obj-item-requires
obj-item-requires t c =
    (omega (arith, c.decreases), c.loop-cur.invariant.0.ok)

pub obj-overflow_add-n : goal.obj-overflow_add-n
obj-overflow_add-n t c =
    let i = c.loop-cur.invariant in omega (arith, i.1, i.0.ok.stands.within, i.0.ok.stands.short)

pub obj-object_pattern_close-requires-then-c1-ne-COMMA : goal.obj-object_pattern_close-requires-then-c1-ne-COMMA
obj-object_pattern_close-requires-then-c1-ne-COMMA t c =
    let opened =
    Steps.known (sub pattern_field ▸ goto pattern_fields_end) c.loop-cur.invariant.0.ok.stands refl
    (λ xs t. fields_one c.args.set _ xs _ _ t c.if-cur-eq-R_BRACE.false c.if-cur-eq-DOTDOTDOT.false) (let a0 = c.args in Steps.at a0.set a0.src.now a0.left (goto pattern_fields) c.loop-cur.n c.loop-cur.cur c.loop-cur.at c.loop-cur.out) in
    let one =
    Steps.took c.item.ensures c.in_ok-c1.was opened in
    let i = c.loop-cur.invariant in
    let more = step_grows c.item.ensures c.in_ok-c1.was in
    (Steps.ready i.0.ok (lit≤ tt) one, omega (arith, i.1, more), omega arith, omega arith)

pub obj-eat_any-cur-requires : goal.obj-eat_any-cur-requires
obj-eat_any-cur-requires t c =
    let opened =
    Steps.known (sub pattern_field ▸ goto pattern_fields_end) c.loop-cur.invariant.0.ok.stands refl
    (λ xs t. fields_one c.args.set _ xs _ _ t c.if-cur-eq-R_BRACE.false c.if-cur-eq-DOTDOTDOT.false) (let a0 = c.args in Steps.at a0.set a0.src.now a0.left (goto pattern_fields) c.loop-cur.n c.loop-cur.cur c.loop-cur.at c.loop-cur.out) in
    let one =
    Steps.took c.item.ensures c.in_ok-c1.was opened in
    one.stands c.loop-cur.invariant.0.ok.stands

pub obj-loop-cur-smaller : goal.obj-loop-cur-smaller
obj-loop-cur-smaller t c =
    let opened =
    Steps.known (sub pattern_field ▸ goto pattern_fields_end) c.loop-cur.invariant.0.ok.stands refl
    (λ xs t. fields_one c.args.set _ xs _ _ t c.if-cur-eq-R_BRACE.false c.if-cur-eq-DOTDOTDOT.false) (let a0 = c.args in Steps.at a0.set a0.src.now a0.left (goto pattern_fields) c.loop-cur.n c.loop-cur.cur c.loop-cur.at c.loop-cur.out) in
    let one =
    Steps.took c.item.ensures c.in_ok-c1.was opened in
    let next =
    let st = one.stands c.loop-cur.invariant.0.ok.stands in let comma = c.if-c1-ne-COMMA.false in
    Steps.taken (lit< tt) st c.eat_any-cur.ensures comma
    (Steps.known (eat 33 ▸ goto pattern_fields) st comma (λ xs t. fields_more c.args.set _ xs _ t) one) in
    Steps.closer c.loop-cur.invariant.0.ok (lit≤ tt) next

pub obj-loop-cur-preserved : goal.obj-loop-cur-preserved
obj-loop-cur-preserved t c =
    let opened =
    Steps.known (sub pattern_field ▸ goto pattern_fields_end) c.loop-cur.invariant.0.ok.stands refl
    (λ xs t. fields_one c.args.set _ xs _ _ t c.if-cur-eq-R_BRACE.false c.if-cur-eq-DOTDOTDOT.false) (let a0 = c.args in Steps.at a0.set a0.src.now a0.left (goto pattern_fields) c.loop-cur.n c.loop-cur.cur c.loop-cur.at c.loop-cur.out) in
    let one =
    Steps.took c.item.ensures c.in_ok-c1.was opened in
    let next =
    let st = one.stands c.loop-cur.invariant.0.ok.stands in let comma = c.if-c1-ne-COMMA.false in
    Steps.taken (lit< tt) st c.eat_any-cur.ensures comma
    (Steps.known (eat 33 ▸ goto pattern_fields) st comma (λ xs t. fields_more c.args.set _ xs _ t) one) in
    let i = c.loop-cur.invariant in (Steps.turned i.0 (lit≤ tt) next, omega (arith, i.1, next.onward))

pub obj-returns-then-cur-eq-R_BRACE : goal.obj-returns-then-cur-eq-R_BRACE
obj-returns-then-cur-eq-R_BRACE t c =
    let a = c.args in
    let i = c.loop-cur.invariant.0 in
    Steps.tail (omega arith) (c.object_pattern_close.ensures.ends a.set a.left)
    (Steps.known (goto (object_pattern_close 0 [])) i.ok.stands c.if-cur-eq-R_BRACE.true (λ xs t. fields_close a.set _ xs _ t) i.seg)

pub obj-returns-then-cur-eq-DOTDOTDOT : goal.obj-returns-then-cur-eq-DOTDOTDOT
obj-returns-then-cur-eq-DOTDOTDOT t c =
    let rested =
    let st = c.loop-cur.invariant.0.ok.stands in let dots = c.if-cur-eq-DOTDOTDOT.true in
    Steps.taken (lit< tt) st c.eat_any.ensures dots (Steps.known (eat 32 ▸ goto object_rest) st dots (λ xs t. fields_rest c.args.set _ xs _ t) (let a0 = c.args in Steps.at a0.set a0.src.now a0.left (goto pattern_fields) c.loop-cur.n c.loop-cur.cur c.loop-cur.at c.loop-cur.out)) in
    let a = c.args in
    Steps.tail (lit≤ tt) (c.object_rest.ensures.ends a.set a.left) (Steps.onto c.loop-cur.invariant.0.seg rested)

pub obj-returns-in_err-c1 : goal.obj-returns-in_err-c1
obj-returns-in_err-c1 t c =
    let opened =
    Steps.known (sub pattern_field ▸ goto pattern_fields_end) c.loop-cur.invariant.0.ok.stands refl
    (λ xs t. fields_one c.args.set _ xs _ _ t c.if-cur-eq-R_BRACE.false c.if-cur-eq-DOTDOTDOT.false) (let a0 = c.args in Steps.at a0.set a0.src.now a0.left (goto pattern_fields) c.loop-cur.n c.loop-cur.cur c.loop-cur.at c.loop-cur.out) in
    Steps.passed (Steps.takes_broken c.item.ensures c.in_err-c1.was (Steps.handed c.from_residual.ensures)) (Steps.then c.loop-cur.invariant.0.seg opened)

pub obj-returns-then-c1-ne-COMMA : goal.obj-returns-then-c1-ne-COMMA
obj-returns-then-c1-ne-COMMA t c =
    let opened =
    Steps.known (sub pattern_field ▸ goto pattern_fields_end) c.loop-cur.invariant.0.ok.stands refl
    (λ xs t. fields_one c.args.set _ xs _ _ t c.if-cur-eq-R_BRACE.false c.if-cur-eq-DOTDOTDOT.false) (let a0 = c.args in Steps.at a0.set a0.src.now a0.left (goto pattern_fields) c.loop-cur.n c.loop-cur.cur c.loop-cur.at c.loop-cur.out) in
    let one =
    Steps.took c.item.ensures c.in_ok-c1.was opened in
    let b = c.args in
    let i = c.loop-cur.invariant.0 in
    Steps.tail (omega arith) (c.object_pattern_close-then-c1-ne-COMMA.ensures.ends b.set b.left)
    (Steps.known (goto (object_pattern_close 0 [])) (one.stands i.ok.stands) refl (λ xs t. fields_over b.set _ xs _ _ t c.if-c1-ne-COMMA.true) (Steps.then i.seg one))

pub param-pat-requires : goal.param-pat-requires
param-pat-requires t c =
    (omega (arith, c.decreases), c.requires)

pub param-put_flag-w2-requires : goal.param-put_flag-w2-requires
param-put_flag-w2-requires t c =
    let begun =
    let x = c.args in Steps.known (sub pattern ▸ goto param_default) c.requires.stands refl (λ xs t. parameters x.set x.c xs 0 x.c.kind t) (Steps.at c.args.set c.args.src.now c.args.left (goto param) 0 c.args.c c.args.w c.args.out.now) in
    let into =
    Steps.took c.pat.ensures c.in_ok-c1.was begun in
    Steps.fits c.requires (lit≤ tt) into

pub param-eat_any-requires : goal.param-eat_any-requires
param-eat_any-requires t c =
    let begun =
    let x = c.args in Steps.known (sub pattern ▸ goto param_default) c.requires.stands refl (λ xs t. parameters x.set x.c xs 0 x.c.kind t) (Steps.at c.args.set c.args.src.now c.args.left (goto param) 0 c.args.c c.args.w c.args.out.now) in
    let into =
    Steps.took c.pat.ensures c.in_ok-c1.was begun in
    into.stands c.requires.stands

pub param-expr-requires : goal.param-expr-requires
param-expr-requires t c =
    let begun =
    let x = c.args in Steps.known (sub pattern ▸ goto param_default) c.requires.stands refl (λ xs t. parameters x.set x.c xs 0 x.c.kind t) (Steps.at c.args.set c.args.src.now c.args.left (goto param) 0 c.args.c c.args.w c.args.out.now) in
    let into =
    Steps.took c.pat.ensures c.in_ok-c1.was begun in
    let opened =
    let st = into.stands c.requires.stands in let assign = c.if-c1-ne-ASSIGN.false in
    Steps.taken (lit< tt) st c.eat_any.ensures assign
    (Steps.known (eat 35 ▸ expression ▸ close 30 (byte 1 ∷ []) ▸ end) st assign (λ xs t. with_default c.args.set c.in_ok-c1.field-0.0 xs 1 t) into) in
    (omega (arith, c.decreases), Steps.ready c.requires (lit≤ tt) opened)

pub param-put_flag-w3-requires : goal.param-put_flag-w3-requires
param-put_flag-w3-requires t c =
    let begun =
    let x = c.args in Steps.known (sub pattern ▸ goto param_default) c.requires.stands refl (λ xs t. parameters x.set x.c xs 0 x.c.kind t) (Steps.at c.args.set c.args.src.now c.args.left (goto param) 0 c.args.c c.args.w c.args.out.now) in
    let into =
    Steps.took c.pat.ensures c.in_ok-c1.was begun in
    let opened =
    let st = into.stands c.requires.stands in let assign = c.if-c1-ne-ASSIGN.false in
    Steps.taken (lit< tt) st c.eat_any.ensures assign
    (Steps.known (eat 35 ▸ expression ▸ close 30 (byte 1 ∷ []) ▸ end) st assign (λ xs t. with_default c.args.set c.in_ok-c1.field-0.0 xs 1 t) into) in
    let value =
    Steps.took c.expr.ensures c.in_ok-c2.was opened in
    Steps.fits c.requires (lit≤ tt) value

pub param-returns-in_err-c1 : goal.param-returns-in_err-c1
param-returns-in_err-c1 t c =
    let begun =
    let x = c.args in Steps.known (sub pattern ▸ goto param_default) c.requires.stands refl (λ xs t. parameters x.set x.c xs 0 x.c.kind t) (Steps.at c.args.set c.args.src.now c.args.left (goto param) 0 c.args.c c.args.w c.args.out.now) in
    Steps.taking_none (Steps.handed c.from_residual.ensures) (Steps.as_sub (Steps.passed (Steps.takes_broken c.pat.ensures c.in_err-c1.was (Steps.handed c.from_residual.ensures)) begun))

pub param-returns-then-c1-ne-ASSIGN : goal.param-returns-then-c1-ne-ASSIGN
unfolding entry payload
param-returns-then-c1-ne-ASSIGN t c =
    let begun =
    let x = c.args in Steps.known (sub pattern ▸ goto param_default) c.requires.stands refl (λ xs t. parameters x.set x.c xs 0 x.c.kind t) (Steps.at c.args.set c.args.src.now c.args.left (goto param) 0 c.args.c c.args.w c.args.out.now) in
    let into =
    Steps.took c.pat.ensures c.in_ok-c1.was begun in
    let c₁' = c.in_ok-c1.field-0.0 in let st = into.stands c.requires.stands in
    let plain = Steps.known (close 30 (byte 0 ∷ []) ▸ end) st refl (λ xs t. no_default c.args.set c₁' xs 1 c₁'.kind t c.if-c1-ne-ASSIGN.true) into in
    Steps.taking (Steps.as_sub (Steps.owes (lit≤ tt) (Steps.closed 4 (lit≤ tt) c.put_flag-w2.ensures plain))) (step_grows c.pat.ensures c.in_ok-c1.was)

pub param-returns-in_err-c2 : goal.param-returns-in_err-c2
param-returns-in_err-c2 t c =
    let begun =
    let x = c.args in Steps.known (sub pattern ▸ goto param_default) c.requires.stands refl (λ xs t. parameters x.set x.c xs 0 x.c.kind t) (Steps.at c.args.set c.args.src.now c.args.left (goto param) 0 c.args.c c.args.w c.args.out.now) in
    let into =
    Steps.took c.pat.ensures c.in_ok-c1.was begun in
    let opened =
    let st = into.stands c.requires.stands in let assign = c.if-c1-ne-ASSIGN.false in
    Steps.taken (lit< tt) st c.eat_any.ensures assign
    (Steps.known (eat 35 ▸ expression ▸ close 30 (byte 1 ∷ []) ▸ end) st assign (λ xs t. with_default c.args.set c.in_ok-c1.field-0.0 xs 1 t) into) in
    Steps.taking_none (Steps.handed c.from_residual-in_err-c2.ensures) (Steps.as_sub (Steps.passed (Steps.takes_broken c.expr.ensures c.in_err-c2.was (Steps.handed c.from_residual-in_err-c2.ensures)) opened))

pub param-returns : goal.param-returns
unfolding entry payload
param-returns t c =
    let begun =
    let x = c.args in Steps.known (sub pattern ▸ goto param_default) c.requires.stands refl (λ xs t. parameters x.set x.c xs 0 x.c.kind t) (Steps.at c.args.set c.args.src.now c.args.left (goto param) 0 c.args.c c.args.w c.args.out.now) in
    let into =
    Steps.took c.pat.ensures c.in_ok-c1.was begun in
    let opened =
    let st = into.stands c.requires.stands in let assign = c.if-c1-ne-ASSIGN.false in
    Steps.taken (lit< tt) st c.eat_any.ensures assign
    (Steps.known (eat 35 ▸ expression ▸ close 30 (byte 1 ∷ []) ▸ end) st assign (λ xs t. with_default c.args.set c.in_ok-c1.field-0.0 xs 1 t) into) in
    let value =
    Steps.took c.expr.ensures c.in_ok-c2.was opened in
    let v = value in
    Steps.taking (Steps.as_sub (Steps.owes (lit≤ tt) (Steps.closed 4 (lit≤ tt) c.put_flag-w3.ensures v))) (omega (arith, v.onward))

pub param-shape_of-out : goal.param-shape_of-out
param-shape_of-out t c =
    let begun =
    let x = c.args in Steps.known (sub pattern ▸ goto param_default) c.requires.stands refl (λ xs t. parameters x.set x.c xs 0 x.c.kind t) (Steps.at c.args.set c.args.src.now c.args.left (goto param) 0 c.args.c c.args.w c.args.out.now) in
    let into =
    Steps.took c.pat.ensures c.in_ok-c1.was begun in
    let opened =
    let st = into.stands c.requires.stands in let assign = c.if-c1-ne-ASSIGN.false in
    Steps.taken (lit< tt) st c.eat_any.ensures assign
    (Steps.known (eat 35 ▸ expression ▸ close 30 (byte 1 ∷ []) ▸ end) st assign (λ xs t. with_default c.args.set c.in_ok-c1.field-0.0 xs 1 t) into) in
    let value =
    Steps.took c.expr.ensures c.in_ok-c2.was opened in
    omega (arith, Steps.same value, c.put_flag-w3.auto)

pub params-loop-cur-init : goal.params-loop-cur-init
params-loop-cur-init t c =
    (Steps.begun c.requires, omega arith)

pub params-returns-then-cur-eq-R_PAREN : goal.params-returns-then-cur-eq-R_PAREN
unfolding choose has rule sight
params-returns-then-cur-eq-R_PAREN t c =
    let i = c.loop-cur.invariant in counts_on (lit≤ tt) i.1 (Steps.known end i.0.ok.stands c.if-cur-eq-R_PAREN.true (λ xs t. refl) i.0.seg)

pub params-param-requires : goal.params-param-requires
params-param-requires t c =
    (omega (arith, c.decreases), c.loop-cur.invariant.0.ok)

pub params-returns-in_err-c1 : goal.params-returns-in_err-c1
unfolding choose has rule sight
params-returns-in_err-c1 t c =
    let one =
    Steps.known (sub param ▸ goto params_end) c.loop-cur.invariant.0.ok.stands refl (λ xs t. simp (ne_eqb _ 26 c.if-cur-eq-R_PAREN.false)) (let a0 = c.args in Steps.at a0.set a0.src.now a0.left (goto params) c.loop-cur.n c.loop-cur.cur c.loop-cur.at c.loop-cur.out) in
    passed_counting (Steps.takes_broken c.param.ensures.takes c.in_err-c1.was (Steps.handed c.from_residual.ensures)) (Steps.then c.loop-cur.invariant.0.seg one)

pub params-overflow_add-n : goal.params-overflow_add-n
params-overflow_add-n t c =
    let i = c.loop-cur.invariant in omega (arith, i.1, i.0.ok.stands.within, i.0.ok.stands.short)

pub params-returns-then-c1-ne-COMMA : goal.params-returns-then-c1-ne-COMMA
unfolding choose has rule sight
params-returns-then-c1-ne-COMMA t c =
    let one =
    Steps.known (sub param ▸ goto params_end) c.loop-cur.invariant.0.ok.stands refl (λ xs t. simp (ne_eqb _ 26 c.if-cur-eq-R_PAREN.false)) (let a0 = c.args in Steps.at a0.set a0.src.now a0.left (goto params) c.loop-cur.n c.loop-cur.cur c.loop-cur.at c.loop-cur.out) in
    let took =
    Steps.took_owing c.param.ensures.takes c.in_ok-c1.was one in
    let i = c.loop-cur.invariant in
    let last = Steps.known end (took.stands i.0.ok.stands) refl (λ xs t. simp (ne_eqb _ 33 c.if-c1-ne-COMMA.true)) took in
    counts_on (lit≤ tt) (omega (arith, i.1, c.param.ensures.some _ _ _ c.in_ok-c1.was)) (Steps.onto i.0.seg last)

pub params-eat_any-cur-requires : goal.params-eat_any-cur-requires
unfolding choose has rule sight
params-eat_any-cur-requires t c =
    let one =
    Steps.known (sub param ▸ goto params_end) c.loop-cur.invariant.0.ok.stands refl (λ xs t. simp (ne_eqb _ 26 c.if-cur-eq-R_PAREN.false)) (let a0 = c.args in Steps.at a0.set a0.src.now a0.left (goto params) c.loop-cur.n c.loop-cur.cur c.loop-cur.at c.loop-cur.out) in
    let took =
    Steps.took_owing c.param.ensures.takes c.in_ok-c1.was one in
    took.stands c.loop-cur.invariant.0.ok.stands

pub params-loop-cur-smaller : goal.params-loop-cur-smaller
unfolding choose has rule sight
params-loop-cur-smaller t c =
    let one =
    Steps.known (sub param ▸ goto params_end) c.loop-cur.invariant.0.ok.stands refl (λ xs t. simp (ne_eqb _ 26 c.if-cur-eq-R_PAREN.false)) (let a0 = c.args in Steps.at a0.set a0.src.now a0.left (goto params) c.loop-cur.n c.loop-cur.cur c.loop-cur.at c.loop-cur.out) in
    let took =
    Steps.took_owing c.param.ensures.takes c.in_ok-c1.was one in
    let next =
    let st = took.stands c.loop-cur.invariant.0.ok.stands in
    Steps.taken (lit< tt) st c.eat_any-cur.ensures c.if-c1-ne-COMMA.false (Steps.known (eat 33 ▸ goto params) st c.if-c1-ne-COMMA.false (λ xs t. refl) took) in
    Steps.closer c.loop-cur.invariant.0.ok (lit≤ tt) next

pub params-loop-cur-preserved : goal.params-loop-cur-preserved
unfolding choose has rule sight
params-loop-cur-preserved t c =
    let one =
    Steps.known (sub param ▸ goto params_end) c.loop-cur.invariant.0.ok.stands refl (λ xs t. simp (ne_eqb _ 26 c.if-cur-eq-R_PAREN.false)) (let a0 = c.args in Steps.at a0.set a0.src.now a0.left (goto params) c.loop-cur.n c.loop-cur.cur c.loop-cur.at c.loop-cur.out) in
    let took =
    Steps.took_owing c.param.ensures.takes c.in_ok-c1.was one in
    let next =
    let st = took.stands c.loop-cur.invariant.0.ok.stands in
    Steps.taken (lit< tt) st c.eat_any-cur.ensures c.if-c1-ne-COMMA.false (Steps.known (eat 33 ▸ goto params) st c.if-c1-ne-COMMA.false (λ xs t. refl) took) in
    let i = c.loop-cur.invariant in (Steps.turned i.0 (lit≤ tt) next, omega (arith, i.1, next.onward))

pub pat-pattern_atom-requires : goal.pat-pattern_atom-requires
pat-pattern_atom-requires t c =
    (c.requires, c.if-c-ne-L_BRACK.true, c.if-not-object.true)

pub pat-obj-requires : goal.pat-obj-requires
pat-obj-requires t c =
    let inner =
    let r = c.requires in onward r c.eat_any-cur.ensures.stands (moved_on r.stands c.eat_any-cur.ensures) in
    (omega (arith, c.decreases, c.if-left-eq0.false), inner)

pub pat-loop-cur-init : goal.pat-loop-cur-init
pat-loop-cur-init t c =
    let inner =
    let r = c.requires in onward r c.eat_any-cur.ensures.stands (moved_on r.stands c.eat_any-cur.ensures) in
    (Steps.begun inner, omega arith)

pub pat-rest-requires : goal.pat-rest-requires
pat-rest-requires t c =
    let rested =
    let l = c.loop-cur in let st = l.invariant.0.ok.stands in let dots = c.if-cur-eq-DOTDOTDOT.true in
    Steps.taken (lit< tt) st c.eat_any.ensures dots
    (Steps.known (eat 32 ▸ goto (array_rest l.n)) st dots (λ xs t. starts_rest c.args.set _ xs _ t) (let a0 = c.args in Steps.at a0.set a0.src.now (a0.left - 1) (goto pattern_starts) c.loop-cur.n c.loop-cur.cur c.loop-cur.at c.loop-cur.out)) in
    let i = c.loop-cur.invariant in
    (omega (arith, c.decreases, c.if-left-eq0.false), (Steps.ready i.0.ok (lit≤ tt) rested, omega (arith, i.1, rested.onward)))

pub pat-pat-requires : goal.pat-pat-requires
pat-pat-requires t c =
    (omega (arith, c.decreases, c.if-left-eq0.false), c.loop-cur.invariant.0.ok)

pub pat-overflow_add-n : goal.pat-overflow_add-n
pat-overflow_add-n t c =
    let i = c.loop-cur.invariant in omega (arith, i.1, i.0.ok.stands.within, i.0.ok.stands.short)

pub pat-array_pattern_close-requires-then-c1-ne-COMMA : goal.pat-array_pattern_close-requires-then-c1-ne-COMMA
pat-array_pattern_close-requires-then-c1-ne-COMMA t c =
    let opened =
    Steps.known (sub pattern ▸ goto pattern_starts_end) c.loop-cur.invariant.0.ok.stands refl
    (λ xs t. starts_one c.args.set _ xs _ _ t c.if-cur-eq-R_BRACK.false c.if-cur-eq-DOTDOTDOT.false) (let a0 = c.args in Steps.at a0.set a0.src.now (a0.left - 1) (goto pattern_starts) c.loop-cur.n c.loop-cur.cur c.loop-cur.at c.loop-cur.out) in
    let one =
    Steps.took c.pat.ensures c.in_ok-c1.was opened in
    let i = c.loop-cur.invariant in
    let more = step_grows c.pat.ensures c.in_ok-c1.was in
    (Steps.ready i.0.ok (lit≤ tt) one, omega (arith, i.1, more), omega arith, omega arith, omega arith)

pub pat-eat_any-cur-requires-in-loop-cur : goal.pat-eat_any-cur-requires-in-loop-cur
pat-eat_any-cur-requires-in-loop-cur t c =
    let opened =
    Steps.known (sub pattern ▸ goto pattern_starts_end) c.loop-cur.invariant.0.ok.stands refl
    (λ xs t. starts_one c.args.set _ xs _ _ t c.if-cur-eq-R_BRACK.false c.if-cur-eq-DOTDOTDOT.false) (let a0 = c.args in Steps.at a0.set a0.src.now (a0.left - 1) (goto pattern_starts) c.loop-cur.n c.loop-cur.cur c.loop-cur.at c.loop-cur.out) in
    let one =
    Steps.took c.pat.ensures c.in_ok-c1.was opened in
    one.stands c.loop-cur.invariant.0.ok.stands

pub pat-loop-cur-smaller : goal.pat-loop-cur-smaller
pat-loop-cur-smaller t c =
    let opened =
    Steps.known (sub pattern ▸ goto pattern_starts_end) c.loop-cur.invariant.0.ok.stands refl
    (λ xs t. starts_one c.args.set _ xs _ _ t c.if-cur-eq-R_BRACK.false c.if-cur-eq-DOTDOTDOT.false) (let a0 = c.args in Steps.at a0.set a0.src.now (a0.left - 1) (goto pattern_starts) c.loop-cur.n c.loop-cur.cur c.loop-cur.at c.loop-cur.out) in
    let one =
    Steps.took c.pat.ensures c.in_ok-c1.was opened in
    let next =
    let st = one.stands c.loop-cur.invariant.0.ok.stands in let comma = c.if-c1-ne-COMMA.false in
    Steps.taken (lit< tt) st c.eat_any-cur-in-loop-cur.ensures comma
    (Steps.known (eat 33 ▸ goto pattern_starts) st comma (λ xs t. starts_more c.args.set _ xs _ t) one) in
    Steps.closer c.loop-cur.invariant.0.ok (lit≤ tt) next

pub pat-loop-cur-preserved : goal.pat-loop-cur-preserved
pat-loop-cur-preserved t c =
    let opened =
    Steps.known (sub pattern ▸ goto pattern_starts_end) c.loop-cur.invariant.0.ok.stands refl
    (λ xs t. starts_one c.args.set _ xs _ _ t c.if-cur-eq-R_BRACK.false c.if-cur-eq-DOTDOTDOT.false) (let a0 = c.args in Steps.at a0.set a0.src.now (a0.left - 1) (goto pattern_starts) c.loop-cur.n c.loop-cur.cur c.loop-cur.at c.loop-cur.out) in
    let one =
    Steps.took c.pat.ensures c.in_ok-c1.was opened in
    let next =
    let st = one.stands c.loop-cur.invariant.0.ok.stands in let comma = c.if-c1-ne-COMMA.false in
    Steps.taken (lit< tt) st c.eat_any-cur-in-loop-cur.ensures comma
    (Steps.known (eat 33 ▸ goto pattern_starts) st comma (λ xs t. starts_more c.args.set _ xs _ t) one) in
    let i = c.loop-cur.invariant in (Steps.turned i.0 (lit≤ tt) next, omega (arith, i.1, next.onward))

pub pat-returns-then-not-object : goal.pat-returns-then-not-object
pat-returns-then-not-object t c =
    Steps.as_sub (c.pattern_atom.ensures.ends c.args.left)

pub pat-returns-then-not-has_destruct : goal.pat-returns-then-not-has_destruct
pat-returns-then-not-has_destruct t c =
    let either =
    ⊎_elim (λ x. inr x.if-not-object.false) (λ y. inl y.if-c-ne-L_BRACK.false) c.if-c-ne-L_BRACK.branch-raw in
    let a = c.args in let tested = c.has_destruct in
    let off = sym tested.ensures ∙ c.if-not-has_destruct.true in
    Steps.as_sub (one_fault c.requires.stands (λ xs t. no_pattern a.set a.c xs 0 a.c.kind t (no_name either) off) c.error.ensures)

pub pat-returns-then-left-eq0 : goal.pat-returns-then-left-eq0
pat-returns-then-left-eq0 t c =
    let either =
    ⊎_elim (λ x. inr x.if-not-object.false) (λ y. inl y.if-c-ne-L_BRACK.false) c.if-c-ne-L_BRACK.branch-raw in
    let on =
    let tested = c.has_destruct in sym tested.ensures ∙ c.if-not-has_destruct.false in
    Steps.as_sub (Steps.broke (none_deeper c.requires.stands either on c.if-left-eq0.true) c.error-then-left-eq0.ensures)

pub pat-returns-then-object : goal.pat-returns-then-object
pat-returns-then-object t c =
    let on =
    let tested = c.has_destruct in sym tested.ensures ∙ c.if-not-has_destruct.false in
    in_braces c.requires.stands (eqb-true c.args.c.kind 27 c.if-object.true-raw) on c.if-left-eq0.false c.eat_any-cur.ensures c.obj.ensures

pub pat-returns-then-cur-eq-R_BRACK : goal.pat-returns-then-cur-eq-R_BRACK
pat-returns-then-cur-eq-R_BRACK t c =
    let on =
    let tested = c.has_destruct in sym tested.ensures ∙ c.if-not-has_destruct.false in
    let bracket =
    let k = c.args.c.kind in ⊎_elim (λ x. absurd (c.if-object.false x.if-not-object.false)) (λ y. y.if-c-ne-L_BRACK.false) c.if-c-ne-L_BRACK.branch-raw in
    let a = c.args in
    let i = c.loop-cur.invariant.0 in let n = c.loop-cur.n in
    let shut = Steps.known (goto (array_pattern_close n 0 [])) i.ok.stands c.if-cur-eq-R_BRACK.true (λ xs t. starts_close a.set _ xs _ t) i.seg in
    (in_brackets c.requires.stands bracket on c.if-left-eq0.false c.eat_any-cur.ensures (Steps.tail (omega arith) (c.array_pattern_close.ensures.ends a.set (a.left - 1)) (Steps.count_is (let z : n ≡ n + 0 = omega arith in z) shut)))

pub pat-returns-then-cur-eq-DOTDOTDOT : goal.pat-returns-then-cur-eq-DOTDOTDOT
pat-returns-then-cur-eq-DOTDOTDOT t c =
    let on =
    let tested = c.has_destruct in sym tested.ensures ∙ c.if-not-has_destruct.false in
    let bracket =
    let k = c.args.c.kind in ⊎_elim (λ x. absurd (c.if-object.false x.if-not-object.false)) (λ y. y.if-c-ne-L_BRACK.false) c.if-c-ne-L_BRACK.branch-raw in
    let rested =
    let l = c.loop-cur in let st = l.invariant.0.ok.stands in let dots = c.if-cur-eq-DOTDOTDOT.true in
    Steps.taken (lit< tt) st c.eat_any.ensures dots
    (Steps.known (eat 32 ▸ goto (array_rest l.n)) st dots (λ xs t. starts_rest c.args.set _ xs _ t) (let a0 = c.args in Steps.at a0.set a0.src.now (a0.left - 1) (goto pattern_starts) c.loop-cur.n c.loop-cur.cur c.loop-cur.at c.loop-cur.out)) in
    (in_brackets c.requires.stands bracket on c.if-left-eq0.false c.eat_any-cur.ensures (Steps.tail (lit≤ tt) c.rest.ensures (Steps.onto c.loop-cur.invariant.0.seg rested)))

pub pat-returns-in_err-c1 : goal.pat-returns-in_err-c1
pat-returns-in_err-c1 t c =
    let on =
    let tested = c.has_destruct in sym tested.ensures ∙ c.if-not-has_destruct.false in
    let bracket =
    let k = c.args.c.kind in ⊎_elim (λ x. absurd (c.if-object.false x.if-not-object.false)) (λ y. y.if-c-ne-L_BRACK.false) c.if-c-ne-L_BRACK.branch-raw in
    let opened =
    Steps.known (sub pattern ▸ goto pattern_starts_end) c.loop-cur.invariant.0.ok.stands refl
    (λ xs t. starts_one c.args.set _ xs _ _ t c.if-cur-eq-R_BRACK.false c.if-cur-eq-DOTDOTDOT.false) (let a0 = c.args in Steps.at a0.set a0.src.now (a0.left - 1) (goto pattern_starts) c.loop-cur.n c.loop-cur.cur c.loop-cur.at c.loop-cur.out) in
    (in_brackets c.requires.stands bracket on c.if-left-eq0.false c.eat_any-cur.ensures (Steps.passed (Steps.takes_broken c.pat.ensures c.in_err-c1.was (Steps.handed c.from_residual.ensures)) (Steps.then c.loop-cur.invariant.0.seg opened)))

pub pat-returns-then-c1-ne-COMMA : goal.pat-returns-then-c1-ne-COMMA
pat-returns-then-c1-ne-COMMA t c =
    let on =
    let tested = c.has_destruct in sym tested.ensures ∙ c.if-not-has_destruct.false in
    let bracket =
    let k = c.args.c.kind in ⊎_elim (λ x. absurd (c.if-object.false x.if-not-object.false)) (λ y. y.if-c-ne-L_BRACK.false) c.if-c-ne-L_BRACK.branch-raw in
    let opened =
    Steps.known (sub pattern ▸ goto pattern_starts_end) c.loop-cur.invariant.0.ok.stands refl
    (λ xs t. starts_one c.args.set _ xs _ _ t c.if-cur-eq-R_BRACK.false c.if-cur-eq-DOTDOTDOT.false) (let a0 = c.args in Steps.at a0.set a0.src.now (a0.left - 1) (goto pattern_starts) c.loop-cur.n c.loop-cur.cur c.loop-cur.at c.loop-cur.out) in
    let one =
    Steps.took c.pat.ensures c.in_ok-c1.was opened in
    let b = c.args in
    let i = c.loop-cur.invariant.0 in let n = c.loop-cur.n + 1 in let st = one.stands i.ok.stands in
    let shut = Steps.known (goto (array_pattern_close n 0 [])) st refl (λ xs t. starts_over b.set _ xs _ _ t c.if-c1-ne-COMMA.true) (Steps.then i.seg one) in
    (in_brackets c.requires.stands bracket on c.if-left-eq0.false c.eat_any-cur.ensures (Steps.tail (omega arith) (c.array_pattern_close-then-c1-ne-COMMA.ensures.ends b.set (b.left - 1)) (Steps.count_is (let z : n ≡ n + 0 = omega arith in z) shut)))

pub rest-ends-requires : goal.rest-ends-requires
rest-ends-requires t c =
    let named =
    let a = c.args in let st = c.requires.0.stands in
    let name = slice a.c.start a.c.end a.src.now in
    let at_name = c.if-c-eq-IDENT.true in
    Steps.taken_of (a.c.end - a.c.at) (omega arith) st c.eat_any.ensures at_name
    (Steps.called (eat 55 ▸ goto (array_rest_end a.n 2 name)) st at_name (λ xs. array_rest_named a.set a.c xs a.n name) (let x0 = c.args in Steps.at x0.set x0.src.now x0.left (goto (array_rest x0.n)) x0.n x0.c x0.w x0.out.now)) in
    let l = lies c.requires.0.stands in
    (omega (arith, c.decreases), (Steps.ready c.requires.0 (omega arith) named, omega (arith, c.requires.1, named.onward), l.on, l.within))

pub rest-ends-requires-2 : goal.rest-ends-requires-2
rest-ends-requires-2 t c =
    (omega (arith, c.decreases), (c.requires.0, c.requires.1, omega arith, omega arith))

pub rest-returns-then-c-eq-IDENT : goal.rest-returns-then-c-eq-IDENT
rest-returns-then-c-eq-IDENT t c =
    let named =
    let a = c.args in let st = c.requires.0.stands in
    let name = slice a.c.start a.c.end a.src.now in
    let at_name = c.if-c-eq-IDENT.true in
    Steps.taken_of (a.c.end - a.c.at) (omega arith) st c.eat_any.ensures at_name
    (Steps.called (eat 55 ▸ goto (array_rest_end a.n 2 name)) st at_name (λ xs. array_rest_named a.set a.c xs a.n name) (let x0 = c.args in Steps.at x0.set x0.src.now x0.left (goto (array_rest x0.n)) x0.n x0.c x0.w x0.out.now)) in
    let l = lies c.requires.0.stands in Steps.tail (omega (arith, l.from, l.on)) c.ends.ensures named

pub rest-returns : goal.rest-returns
rest-returns t c =
    let a = c.args in
    Steps.tail (omega arith) c.ends-2.ensures
    (Steps.known (goto (array_rest_end a.n 1 [])) c.requires.0.stands refl (λ xs t. array_rest_bare a.set a.c xs a.n a.c.kind t c.if-c-eq-IDENT.false) Steps.here)

pub rhs-expr-requires : goal.rhs-expr-requires
rhs-expr-requires t c =
    (omega (arith, c.decreases), Steps.ready c.requires.0 (lit≤ tt) ((Steps.ate c.eat.ensures c.in_ok-c1.was (let x0 = c.args in Steps.at x0.set x0.src.now x0.left (bound x0.function x0.n) 0 x0.c x0.w x0.out.now))))

pub rhs-put_bind-w3-requires : goal.rhs-put_bind-w3-requires
rhs-put_bind-w3-requires t c =
    let p = c.requires in (Steps.fits p.0 (lit≤ tt) ((Steps.took c.expr.ensures c.in_ok-c2.was ((Steps.ate c.eat.ensures c.in_ok-c1.was (let x0 = c.args in Steps.at x0.set x0.src.now x0.left (bound x0.function x0.n) 0 x0.c x0.w x0.out.now))))), omega (arith, p.1, p.0.stands.within, p.0.stands.short))

pub rhs-returns-in_err-c1 : goal.rhs-returns-in_err-c1
rhs-returns-in_err-c1 t c =
    record { leads = λ n. Steps.passed (Steps.eats_broken c.eat.ensures c.in_err-c1.was (Steps.handed c.from_residual.ensures)) Steps.here }

pub rhs-returns-in_err-c2 : goal.rhs-returns-in_err-c2
rhs-returns-in_err-c2 t c =
    record { leads = λ n. Steps.passed (Steps.takes_broken c.expr.ensures c.in_err-c2.was (Steps.handed c.from_residual-in_err-c2.ensures)) ((Steps.ate c.eat.ensures c.in_ok-c1.was (let x0 = c.args in Steps.at x0.set x0.src.now x0.left (bound x0.function x0.n) n x0.c x0.w x0.out.now))) }

pub rhs-returns : goal.rhs-returns
unfolding entry payload
rhs-returns t c =
    record { leads = λ n. Steps.ends (lit≤ tt) (Steps.closed 6 (lit≤ tt) c.put_bind-w3.ensures ((Steps.took c.expr.ensures c.in_ok-c2.was ((Steps.ate c.eat.ensures c.in_ok-c1.was (let x0 = c.args in Steps.at x0.set x0.src.now x0.left (bound x0.function x0.n) n x0.c x0.w x0.out.now)))))) }

pub safe-member_name-requires : goal.safe-member_name-requires
safe-member_name-requires t c =
    let dotted =
    Steps.ate c.eat.ensures c.in_ok-c1.was (let x0 = c.args in Steps.at x0.set x0.src.now x0.left (safely x0.first) 1 x0.c x0.w x0.out.now) in
    let p = c.requires in (Steps.ready p.0 (lit≤ tt) dotted, p.1)

pub safe-eat_any-c2-requires : goal.safe-eat_any-c2-requires
safe-eat_any-c2-requires t c =
    let dotted =
    Steps.ate c.eat.ensures c.in_ok-c1.was (let x0 = c.args in Steps.at x0.set x0.src.now x0.left (safely x0.first) 1 x0.c x0.w x0.out.now) in
    dotted.stands c.requires.0.stands

pub safe-expr-requires : goal.safe-expr-requires
unfolding choose has rule sight
safe-expr-requires t c =
    let dotted =
    Steps.ate c.eat.ensures c.in_ok-c1.was (let x0 = c.args in Steps.at x0.set x0.src.now x0.left (safely x0.first) 1 x0.c x0.w x0.out.now) in
    let opened =
    let f = c.args.first in let st = dotted.stands c.requires.0.stands in let bracket = c.if-c1-ne-L_BRACK.false in
    Steps.known (expression ▸ goto (null_safe_end f c.eat_any-c2.result.start)) c.eat_any-c2.ensures.stands refl (λ xs t. refl)
    (Steps.taken (lit< tt) st c.eat_any-c2.ensures bracket (Steps.known (eat 23 ▸ goto (null_safe_index f)) st bracket (λ xs t. refl) dotted)) in
    (omega (arith, c.decreases), Steps.ready c.requires.0 (lit≤ tt) opened)

pub safe-eat-requires-2 : goal.safe-eat-requires-2
unfolding choose has rule sight
safe-eat-requires-2 t c =
    let dotted =
    Steps.ate c.eat.ensures c.in_ok-c1.was (let x0 = c.args in Steps.at x0.set x0.src.now x0.left (safely x0.first) 1 x0.c x0.w x0.out.now) in
    let opened =
    let f = c.args.first in let st = dotted.stands c.requires.0.stands in let bracket = c.if-c1-ne-L_BRACK.false in
    Steps.known (expression ▸ goto (null_safe_end f c.eat_any-c2.result.start)) c.eat_any-c2.ensures.stands refl (λ xs t. refl)
    (Steps.taken (lit< tt) st c.eat_any-c2.ensures bracket (Steps.known (eat 23 ▸ goto (null_safe_index f)) st bracket (λ xs t. refl) dotted)) in
    let shut =
    close 20 (span c.eat_any-c2.result.start c.in_ok-c3.field-0.0.at ∷ byte c.args.first ∷ byte 1 ∷ []) ▸ goto (suffix 0) in
    let read =
    let value = Steps.took c.expr.ensures c.in_ok-c3.was opened in
    Steps.known (eat 24 ▸ shut) (value.stands c.requires.0.stands) refl (λ xs t. refl) value in
    (lit< tt, read.stands c.requires.0.stands)

pub safe-put_index-w5-requires : goal.safe-put_index-w5-requires
unfolding choose has rule sight
safe-put_index-w5-requires t c =
    let dotted =
    Steps.ate c.eat.ensures c.in_ok-c1.was (let x0 = c.args in Steps.at x0.set x0.src.now x0.left (safely x0.first) 1 x0.c x0.w x0.out.now) in
    let opened =
    let f = c.args.first in let st = dotted.stands c.requires.0.stands in let bracket = c.if-c1-ne-L_BRACK.false in
    Steps.known (expression ▸ goto (null_safe_end f c.eat_any-c2.result.start)) c.eat_any-c2.ensures.stands refl (λ xs t. refl)
    (Steps.taken (lit< tt) st c.eat_any-c2.ensures bracket (Steps.known (eat 23 ▸ goto (null_safe_index f)) st bracket (λ xs t. refl) dotted)) in
    let shut =
    close 20 (span c.eat_any-c2.result.start c.in_ok-c3.field-0.0.at ∷ byte c.args.first ∷ byte 1 ∷ []) ▸ goto (suffix 0) in
    let read =
    let value = Steps.took c.expr.ensures c.in_ok-c3.was opened in
    Steps.known (eat 24 ▸ shut) (value.stands c.requires.0.stands) refl (λ xs t. refl) value in
    let over =
    Steps.ate c.eat-2.ensures c.in_ok-c4.was read in
    let p = c.requires in
    let i = Steps.ready p.0 (lit≤ tt) opened in
    (Steps.fits p.0 (lit≤ tt) over, (within i).0, omega (arith, (read.stands p.0.stands).within, p.0.stands.short), p.1)

pub safe-returns-in_err-c1 : goal.safe-returns-in_err-c1
safe-returns-in_err-c1 t c =
    Steps.passed_telling (Steps.eats_broken c.eat.ensures c.in_err-c1.was (Steps.handed c.from_residual.ensures)) Steps.here

pub safe-returns-then-c1-ne-L_BRACK : goal.safe-returns-then-c1-ne-L_BRACK
unfolding choose has rule sight
safe-returns-then-c1-ne-L_BRACK t c =
    let dotted =
    Steps.ate c.eat.ensures c.in_ok-c1.was (let x0 = c.args in Steps.at x0.set x0.src.now x0.left (safely x0.first) 1 x0.c x0.w x0.out.now) in
    let y = c.args in
    let st = dotted.stands c.requires.0.stands in
    Steps.tail_telling (lit≤ tt) (c.member_name.ensures.tells y.set y.left)
    (Steps.known (goto (member_name y.first 1)) st refl (λ xs t. simp (ne_eqb _ 23 c.if-c1-ne-L_BRACK.true)) dotted)

pub safe-returns-in_err-c3 : goal.safe-returns-in_err-c3
unfolding choose has rule sight
safe-returns-in_err-c3 t c =
    let dotted =
    Steps.ate c.eat.ensures c.in_ok-c1.was (let x0 = c.args in Steps.at x0.set x0.src.now x0.left (safely x0.first) 1 x0.c x0.w x0.out.now) in
    let opened =
    let f = c.args.first in let st = dotted.stands c.requires.0.stands in let bracket = c.if-c1-ne-L_BRACK.false in
    Steps.known (expression ▸ goto (null_safe_end f c.eat_any-c2.result.start)) c.eat_any-c2.ensures.stands refl (λ xs t. refl)
    (Steps.taken (lit< tt) st c.eat_any-c2.ensures bracket (Steps.known (eat 23 ▸ goto (null_safe_index f)) st bracket (λ xs t. refl) dotted)) in
    Steps.passed_telling (Steps.takes_broken c.expr.ensures c.in_err-c3.was (Steps.handed c.from_residual-in_err-c3.ensures)) opened

pub safe-returns-in_err-c4 : goal.safe-returns-in_err-c4
unfolding choose has rule sight
safe-returns-in_err-c4 t c =
    let dotted =
    Steps.ate c.eat.ensures c.in_ok-c1.was (let x0 = c.args in Steps.at x0.set x0.src.now x0.left (safely x0.first) 1 x0.c x0.w x0.out.now) in
    let opened =
    let f = c.args.first in let st = dotted.stands c.requires.0.stands in let bracket = c.if-c1-ne-L_BRACK.false in
    Steps.known (expression ▸ goto (null_safe_end f c.eat_any-c2.result.start)) c.eat_any-c2.ensures.stands refl (λ xs t. refl)
    (Steps.taken (lit< tt) st c.eat_any-c2.ensures bracket (Steps.known (eat 23 ▸ goto (null_safe_index f)) st bracket (λ xs t. refl) dotted)) in
    let shut =
    close 20 (span c.eat_any-c2.result.start c.in_ok-c3.field-0.0.at ∷ byte c.args.first ∷ byte 1 ∷ []) ▸ goto (suffix 0) in
    let read =
    let value = Steps.took c.expr.ensures c.in_ok-c3.was opened in
    Steps.known (eat 24 ▸ shut) (value.stands c.requires.0.stands) refl (λ xs t. refl) value in
    Steps.passed_telling (Steps.eats_broken c.eat-2.ensures c.in_err-c4.was (Steps.handed c.from_residual-in_err-c4.ensures)) read

pub safe-returns : goal.safe-returns
unfolding choose entry has payload rule sight
safe-returns t c =
    let dotted =
    Steps.ate c.eat.ensures c.in_ok-c1.was (let x0 = c.args in Steps.at x0.set x0.src.now x0.left (safely x0.first) 1 x0.c x0.w x0.out.now) in
    let opened =
    let f = c.args.first in let st = dotted.stands c.requires.0.stands in let bracket = c.if-c1-ne-L_BRACK.false in
    Steps.known (expression ▸ goto (null_safe_end f c.eat_any-c2.result.start)) c.eat_any-c2.ensures.stands refl (λ xs t. refl)
    (Steps.taken (lit< tt) st c.eat_any-c2.ensures bracket (Steps.known (eat 23 ▸ goto (null_safe_index f)) st bracket (λ xs t. refl) dotted)) in
    let shut =
    close 20 (span c.eat_any-c2.result.start c.in_ok-c3.field-0.0.at ∷ byte c.args.first ∷ byte 1 ∷ []) ▸ goto (suffix 0) in
    let read =
    let value = Steps.took c.expr.ensures c.in_ok-c3.was opened in
    Steps.known (eat 24 ▸ shut) (value.stands c.requires.0.stands) refl (λ xs t. refl) value in
    let over =
    Steps.ate c.eat-2.ensures c.in_ok-c4.was read in
    Steps.says_on (lit≤ tt) (lit≤ tt) (Steps.closed 9 (lit≤ tt) c.put_index-w5.ensures over)

pub sign-chain-requires : goal.sign-chain-requires
sign-chain-requires t c =
    (omega (arith, c.decreases), c.requires)

pub sign-expr-requires : goal.sign-expr-requires
sign-expr-requires t c =
    let shut : (Body) =
    close 12 (byte c.in-Some.o ∷ []) ▸ goto (infix_tail c.args.least) in
    let opened : ((let x0 = c.args in Seg x0.set x0.src.now x0.left (state (goto (expr x0.least)) 0 x0.c x0.w x0.out.now) 1 0 (state (deep (expr c.prefix_power.result) ▸ shut) 0 c.eat_any.result c.args.w c.args.out.now))) =
    let a = c.args in let st = c.requires.stands in let u = c.unary_op.ensures in
    subst⁻¹ (λ (n : ℕ). (let x0 = c.args in Seg x0.set x0.src.now x0.left (state (goto (expr x0.least)) 0 x0.c x0.w x0.out.now) 1 0 (state (deep (expr n) ▸ shut) 0 c.eat_any.result a.w a.out.now))) c.prefix_power.ensures
    (Steps.taken (sign_kind u c.in-Some.is) st c.eat_any.ensures refl
    (Steps.known (eat a.c.kind ▸ deep (expr (power a.set)) ▸ shut) st refl (λ xs t. a_sign a.set a.c xs 0 a.least a.c.kind t u c.in-Some.is) (let x0 = c.args in Steps.at x0.set x0.src.now x0.left (goto (expr x0.least)) 0 x0.c x0.w x0.out.now))) in
    (omega (arith, c.decreases), Steps.ready c.requires (lit≤ tt) opened)

pub sign-put_flag-w2-requires : goal.sign-put_flag-w2-requires
sign-put_flag-w2-requires t c =
    let shut : (Body) =
    close 12 (byte c.in-Some.o ∷ []) ▸ goto (infix_tail c.args.least) in
    let opened : ((let x0 = c.args in Seg x0.set x0.src.now x0.left (state (goto (expr x0.least)) 0 x0.c x0.w x0.out.now) 1 0 (state (deep (expr c.prefix_power.result) ▸ shut) 0 c.eat_any.result c.args.w c.args.out.now))) =
    let a = c.args in let st = c.requires.stands in let u = c.unary_op.ensures in
    subst⁻¹ (λ (n : ℕ). (let x0 = c.args in Seg x0.set x0.src.now x0.left (state (goto (expr x0.least)) 0 x0.c x0.w x0.out.now) 1 0 (state (deep (expr n) ▸ shut) 0 c.eat_any.result a.w a.out.now))) c.prefix_power.ensures
    (Steps.taken (sign_kind u c.in-Some.is) st c.eat_any.ensures refl
    (Steps.known (eat a.c.kind ▸ deep (expr (power a.set)) ▸ shut) st refl (λ xs t. a_sign a.set a.c xs 0 a.least a.c.kind t u c.in-Some.is) (let x0 = c.args in Steps.at x0.set x0.src.now x0.left (goto (expr x0.least)) 0 x0.c x0.w x0.out.now))) in
    let value : ((let x0 = c.args in Seg x0.set x0.src.now x0.left (state (goto (expr x0.least)) 0 x0.c x0.w x0.out.now) 1 0 (state shut 1 c.in_ok-c1.field-0.0 c.in_ok-c1.field-0.1 c.expr.new.out))) =
    Steps.took c.expr.ensures c.in_ok-c1.was opened in
    Steps.fits c.requires (lit≤ tt) value

pub sign-returns-in_default : goal.sign-returns-in_default
sign-returns-in_default t c =
    let a = c.args in
    let u = c.unary_op.ensures in
    Steps.tail (omega arith) (c.chain.ensures.takes (goto (infix_tail a.least)) 0)
    (Steps.known (sub suffixed ▸ goto (infix_tail a.least)) c.requires.stands refl
    (λ xs t. no_sign a.set a.c xs 0 a.least a.c.kind t u c.in_default.is) Steps.here)

pub sign-returns-in_err-c1 : goal.sign-returns-in_err-c1
sign-returns-in_err-c1 t c =
    let shut : (Body) =
    close 12 (byte c.in-Some.o ∷ []) ▸ goto (infix_tail c.args.least) in
    let opened : ((let x0 = c.args in Seg x0.set x0.src.now x0.left (state (goto (expr x0.least)) 0 x0.c x0.w x0.out.now) 1 0 (state (deep (expr c.prefix_power.result) ▸ shut) 0 c.eat_any.result c.args.w c.args.out.now))) =
    let a = c.args in let st = c.requires.stands in let u = c.unary_op.ensures in
    subst⁻¹ (λ (n : ℕ). (let x0 = c.args in Seg x0.set x0.src.now x0.left (state (goto (expr x0.least)) 0 x0.c x0.w x0.out.now) 1 0 (state (deep (expr n) ▸ shut) 0 c.eat_any.result a.w a.out.now))) c.prefix_power.ensures
    (Steps.taken (sign_kind u c.in-Some.is) st c.eat_any.ensures refl
    (Steps.known (eat a.c.kind ▸ deep (expr (power a.set)) ▸ shut) st refl (λ xs t. a_sign a.set a.c xs 0 a.least a.c.kind t u c.in-Some.is) (let x0 = c.args in Steps.at x0.set x0.src.now x0.left (goto (expr x0.least)) 0 x0.c x0.w x0.out.now))) in
    Steps.passed (Steps.takes_broken c.expr.ensures c.in_err-c1.was (Steps.handed c.from_residual.ensures)) opened

pub sign-returns : goal.sign-returns
unfolding entry payload
sign-returns t c =
    let shut : (Body) =
    close 12 (byte c.in-Some.o ∷ []) ▸ goto (infix_tail c.args.least) in
    let opened : ((let x0 = c.args in Seg x0.set x0.src.now x0.left (state (goto (expr x0.least)) 0 x0.c x0.w x0.out.now) 1 0 (state (deep (expr c.prefix_power.result) ▸ shut) 0 c.eat_any.result c.args.w c.args.out.now))) =
    let a = c.args in let st = c.requires.stands in let u = c.unary_op.ensures in
    subst⁻¹ (λ (n : ℕ). (let x0 = c.args in Seg x0.set x0.src.now x0.left (state (goto (expr x0.least)) 0 x0.c x0.w x0.out.now) 1 0 (state (deep (expr n) ▸ shut) 0 c.eat_any.result a.w a.out.now))) c.prefix_power.ensures
    (Steps.taken (sign_kind u c.in-Some.is) st c.eat_any.ensures refl
    (Steps.known (eat a.c.kind ▸ deep (expr (power a.set)) ▸ shut) st refl (λ xs t. a_sign a.set a.c xs 0 a.least a.c.kind t u c.in-Some.is) (let x0 = c.args in Steps.at x0.set x0.src.now x0.left (goto (expr x0.least)) 0 x0.c x0.w x0.out.now))) in
    let value : ((let x0 = c.args in Seg x0.set x0.src.now x0.left (state (goto (expr x0.least)) 0 x0.c x0.w x0.out.now) 1 0 (state shut 1 c.in_ok-c1.field-0.0 c.in_ok-c1.field-0.1 c.expr.new.out))) =
    Steps.took c.expr.ensures c.in_ok-c1.was opened in
    Steps.ends (lit≤ tt) (Steps.closed 4 (lit≤ tt) c.put_flag-w2.ensures value)

pub slice-step-requires : goal.slice-step-requires
unfolding choose has rule sight
slice-step-requires t c =
    let p = c.requires in (
      omega (arith, c.decreases),
      (
        Steps.ready p.0 (lit≤ tt) ((let x = c.args in let st = c.requires.0.stands in let colon = c.if-c-eq-COLON.true in
            Steps.taken (lit< tt) st c.eat_any.ensures colon
            (Steps.known (eat 29 ▸ goto (slice_step x.parts x.x.start x.x.end 0 0)) st colon (λ xs t. refl) (let x0 = c.args in Steps.at x0.set x0.src.now x0.left (goto (slice_end x0.parts x0.x.start x0.x.end)) 0 x0.c x0.w x0.out.now)))),
        omega (arith, p.1),
        p.2,
        p.3,
        lit< tt,
        lit< tt,
      ),
    )

pub slice-expr-requires : goal.slice-expr-requires
slice-expr-requires t c =
    (omega (arith, c.decreases), c.requires.0)

pub slice-eat_any-requires-then-c1-eq-COLON : goal.slice-eat_any-requires-then-c1-eq-COLON
unfolding choose has rule sight
slice-eat_any-requires-then-c1-eq-COLON t c =
    let tail =
    let x = c.args in goto (slice_ended x.parts x.x.start x.x.end x.c.start) in
    ((Steps.took c.expr.ensures c.in_ok-c1.was ((Steps.known (expression ▸ tail) c.requires.0.stands refl (λ xs t. simp (ne_eqb _ 29 c.if-c-eq-COLON.false, ne_eqb _ 24 c.if-c-eq-R_BRACK.false)) (let x0 = c.args in Steps.at x0.set x0.src.now x0.left (goto (slice_end x0.parts x0.x.start x0.x.end)) 0 x0.c x0.w x0.out.now))))).stands c.requires.0.stands

pub slice-overflow_add-parts : goal.slice-overflow_add-parts
slice-overflow_add-parts t c =
    omega (arith, c.requires.1)

pub slice-step-requires-then-c1-eq-COLON : goal.slice-step-requires-then-c1-eq-COLON
unfolding choose has rule sight
slice-step-requires-then-c1-eq-COLON t c =
    let tail =
    let x = c.args in goto (slice_ended x.parts x.x.start x.x.end x.c.start) in
    let on =
    let x = c.args in goto (slice_step (x.parts + 2) x.x.start x.x.end x.c.start c.in_ok-c1.field-0.0.at) in
    let p = c.requires in let st = ((Steps.took c.expr.ensures c.in_ok-c1.was ((Steps.known (expression ▸ tail) c.requires.0.stands refl (λ xs t. simp (ne_eqb _ 29 c.if-c-eq-COLON.false, ne_eqb _ 24 c.if-c-eq-R_BRACK.false)) (let x0 = c.args in Steps.at x0.set x0.src.now x0.left (goto (slice_end x0.parts x0.x.start x0.x.end)) 0 x0.c x0.w x0.out.now))))).stands p.0.stands in
    let r = Steps.ready p.0 (lit≤ tt) ((let st = ((Steps.took c.expr.ensures c.in_ok-c1.was ((Steps.known (expression ▸ tail) c.requires.0.stands refl (λ xs t. simp (ne_eqb _ 29 c.if-c-eq-COLON.false, ne_eqb _ 24 c.if-c-eq-R_BRACK.false)) (let x0 = c.args in Steps.at x0.set x0.src.now x0.left (goto (slice_end x0.parts x0.x.start x0.x.end)) 0 x0.c x0.w x0.out.now))))).stands c.requires.0.stands in let colon = c.if-c1-eq-COLON.true in
    Steps.taken (lit< tt) st c.eat_any-then-c1-eq-COLON.ensures colon (Steps.known (eat 29 ▸ on) st colon (λ xs t. refl) ((Steps.took c.expr.ensures c.in_ok-c1.was ((Steps.known (expression ▸ tail) c.requires.0.stands refl (λ xs t. simp (ne_eqb _ 29 c.if-c-eq-COLON.false, ne_eqb _ 24 c.if-c-eq-R_BRACK.false)) (let x0 = c.args in Steps.at x0.set x0.src.now x0.left (goto (slice_end x0.parts x0.x.start x0.x.end)) 0 x0.c x0.w x0.out.now)))))))) in
    (omega (arith, c.decreases), (r, omega (arith, p.1), p.2, p.3, (within p.0).0, omega (arith, st.within, r.stands.short)))

pub slice-overflow_add-parts-2 : goal.slice-overflow_add-parts-2
slice-overflow_add-parts-2 t c =
    omega (arith, c.requires.1)

pub slice-slice_close-requires-2 : goal.slice-slice_close-requires-2
unfolding choose has rule sight
slice-slice_close-requires-2 t c =
    let tail =
    let x = c.args in goto (slice_ended x.parts x.x.start x.x.end x.c.start) in
    let p = c.requires in
    let r = Steps.ready p.0 (lit≤ tt) ((Steps.took c.expr.ensures c.in_ok-c1.was ((Steps.known (expression ▸ tail) c.requires.0.stands refl (λ xs t. simp (ne_eqb _ 29 c.if-c-eq-COLON.false, ne_eqb _ 24 c.if-c-eq-R_BRACK.false)) (let x0 = c.args in Steps.at x0.set x0.src.now x0.left (goto (slice_end x0.parts x0.x.start x0.x.end)) 0 x0.c x0.w x0.out.now))))) in
    (r, p.2, p.3, (within p.0).0, omega (arith, r.stands.within, r.stands.short), lit< tt, lit< tt)

pub slice-returns-then-c-eq-COLON : goal.slice-returns-then-c-eq-COLON
unfolding choose has rule sight
slice-returns-then-c-eq-COLON t c =
    record {
      tells = λ n. Steps.tail_telling (lit≤ tt) (c.step.ensures.tells n) ((let x = c.args in let st = c.requires.0.stands in let colon = c.if-c-eq-COLON.true in
          Steps.taken (lit< tt) st c.eat_any.ensures colon
          (Steps.known (eat 29 ▸ goto (slice_step x.parts x.x.start x.x.end 0 0)) st colon (λ xs t. refl) (let x0 = c.args in Steps.at x0.set x0.src.now x0.left (goto (slice_end x0.parts x0.x.start x0.x.end)) n x0.c x0.w x0.out.now))));
    }

pub slice-returns-then-c-eq-R_BRACK : goal.slice-returns-then-c-eq-R_BRACK
unfolding choose has rule sight
slice-returns-then-c-eq-R_BRACK t c =
    let y = c.args in
    record {
      tells = λ n. Steps.tail_telling (lit≤ tt) (c.slice_close.ensures.tells y.set y.left n)
          (Steps.known (sliced y.parts (span y.x.start y.x.end) (span 0 0) (span 0 0)) c.requires.0.stands c.if-c-eq-R_BRACK.true (λ xs t. refl) Steps.here);
    }

pub slice-returns-in_err-c1 : goal.slice-returns-in_err-c1
unfolding choose has rule sight
slice-returns-in_err-c1 t c =
    let tail =
    let x = c.args in goto (slice_ended x.parts x.x.start x.x.end x.c.start) in
    record { tells = λ n. Steps.passed_telling (Steps.takes_broken c.expr.ensures c.in_err-c1.was (Steps.handed c.from_residual.ensures)) ((Steps.known (expression ▸ tail) c.requires.0.stands refl (λ xs t. simp (ne_eqb _ 29 c.if-c-eq-COLON.false, ne_eqb _ 24 c.if-c-eq-R_BRACK.false)) (let x0 = c.args in Steps.at x0.set x0.src.now x0.left (goto (slice_end x0.parts x0.x.start x0.x.end)) n x0.c x0.w x0.out.now))) }

pub slice-returns-then-c1-eq-COLON : goal.slice-returns-then-c1-eq-COLON
unfolding choose has rule sight
slice-returns-then-c1-eq-COLON t c =
    let tail =
    let x = c.args in goto (slice_ended x.parts x.x.start x.x.end x.c.start) in
    let on =
    let x = c.args in goto (slice_step (x.parts + 2) x.x.start x.x.end x.c.start c.in_ok-c1.field-0.0.at) in
    record {
      tells = λ n. Steps.tail_telling (lit≤ tt) (c.step-then-c1-eq-COLON.ensures.tells (n + 1)) ((let st = ((Steps.took c.expr.ensures c.in_ok-c1.was ((Steps.known (expression ▸ tail) c.requires.0.stands refl (λ xs t. simp (ne_eqb _ 29 c.if-c-eq-COLON.false, ne_eqb _ 24 c.if-c-eq-R_BRACK.false)) (let x0 = c.args in Steps.at x0.set x0.src.now x0.left (goto (slice_end x0.parts x0.x.start x0.x.end)) n x0.c x0.w x0.out.now))))).stands c.requires.0.stands in let colon = c.if-c1-eq-COLON.true in
          Steps.taken (lit< tt) st c.eat_any-then-c1-eq-COLON.ensures colon (Steps.known (eat 29 ▸ on) st colon (λ xs t. refl) ((Steps.took c.expr.ensures c.in_ok-c1.was ((Steps.known (expression ▸ tail) c.requires.0.stands refl (λ xs t. simp (ne_eqb _ 29 c.if-c-eq-COLON.false, ne_eqb _ 24 c.if-c-eq-R_BRACK.false)) (let x0 = c.args in Steps.at x0.set x0.src.now x0.left (goto (slice_end x0.parts x0.x.start x0.x.end)) n x0.c x0.w x0.out.now))))))));
    }

pub slice-returns : goal.slice-returns
unfolding choose has rule sight
slice-returns t c =
    let tail =
    let x = c.args in goto (slice_ended x.parts x.x.start x.x.end x.c.start) in
    let y = c.args in
    let whole = sliced (y.parts + 2) (span y.x.start y.x.end) (span y.c.start c.in_ok-c1.field-0.0.at) (span 0 0) in
    record {
      tells = λ n. Steps.tail_telling (lit≤ tt) (c.slice_close-2.ensures.tells y.set y.left (n + 1))
          (Steps.known whole (((Steps.took c.expr.ensures c.in_ok-c1.was ((Steps.known (expression ▸ tail) c.requires.0.stands refl (λ xs t. simp (ne_eqb _ 29 c.if-c-eq-COLON.false, ne_eqb _ 24 c.if-c-eq-R_BRACK.false)) (let x0 = c.args in Steps.at x0.set x0.src.now x0.left (goto (slice_end x0.parts x0.x.start x0.x.end)) n x0.c x0.w x0.out.now))))).stands c.requires.0.stands) refl (λ xs t. simp (ne_eqb _ 29 c.if-c1-eq-COLON.false)) ((Steps.took c.expr.ensures c.in_ok-c1.was ((Steps.known (expression ▸ tail) c.requires.0.stands refl (λ xs t. simp (ne_eqb _ 29 c.if-c-eq-COLON.false, ne_eqb _ 24 c.if-c-eq-R_BRACK.false)) (let x0 = c.args in Steps.at x0.set x0.src.now x0.left (goto (slice_end x0.parts x0.x.start x0.x.end)) n x0.c x0.w x0.out.now))))));
    }

pub spec-each-requires : goal.spec-each-requires
spec-each-requires t c =
    (omega (arith, c.decreases), (c.requires, subst (Header c.args.set c.args.src.now c.args.c) c.if-header_at.true c.header_at.ensures))

pub spec-pat-requires : goal.spec-pat-requires
spec-pat-requires t c =
    (omega (arith, c.decreases), c.requires)

pub spec-eat-requires : goal.spec-eat-requires
spec-eat-requires t c =
    let plain =
    plain_clause c.requires.stands c.header_at.ensures c.if-header_at.false (Steps.at c.args.set c.args.src.now c.args.left (goto for_clause) 0 c.args.c c.args.w c.args.out.now) in
    let into =
    Steps.took c.pat.ensures c.in_ok-c1.was plain in
    (lit< tt, into.stands c.requires.stands)

pub spec-expr-requires : goal.spec-expr-requires
spec-expr-requires t c =
    let plain =
    plain_clause c.requires.stands c.header_at.ensures c.if-header_at.false (Steps.at c.args.set c.args.src.now c.args.left (goto for_clause) 0 c.args.c c.args.w c.args.out.now) in
    let into =
    Steps.took c.pat.ensures c.in_ok-c1.was plain in
    let opened =
    Steps.ate c.eat.ensures c.in_ok-c2.was into in
    (omega (arith, c.decreases), Steps.ready c.requires (lit≤ tt) opened)

pub spec-put_none-w4-requires : goal.spec-put_none-w4-requires
spec-put_none-w4-requires t c =
    let plain =
    plain_clause c.requires.stands c.header_at.ensures c.if-header_at.false (Steps.at c.args.set c.args.src.now c.args.left (goto for_clause) 0 c.args.c c.args.w c.args.out.now) in
    let into =
    Steps.took c.pat.ensures c.in_ok-c1.was plain in
    let opened =
    Steps.ate c.eat.ensures c.in_ok-c2.was into in
    let value =
    Steps.took c.expr.ensures c.in_ok-c3.was opened in
    Steps.fits c.requires (lit≤ tt) value

pub spec-returns-then-header_at : goal.spec-returns-then-header_at
spec-returns-then-header_at t c =
    Steps.as_sub c.each.ensures

pub spec-returns-in_err-c1 : goal.spec-returns-in_err-c1
spec-returns-in_err-c1 t c =
    let plain =
    plain_clause c.requires.stands c.header_at.ensures c.if-header_at.false (Steps.at c.args.set c.args.src.now c.args.left (goto for_clause) 0 c.args.c c.args.w c.args.out.now) in
    Steps.as_sub (Steps.passed (Steps.takes_broken c.pat.ensures c.in_err-c1.was (Steps.handed c.from_residual.ensures)) plain)

pub spec-returns-in_err-c2 : goal.spec-returns-in_err-c2
spec-returns-in_err-c2 t c =
    let plain =
    plain_clause c.requires.stands c.header_at.ensures c.if-header_at.false (Steps.at c.args.set c.args.src.now c.args.left (goto for_clause) 0 c.args.c c.args.w c.args.out.now) in
    let into =
    Steps.took c.pat.ensures c.in_ok-c1.was plain in
    Steps.as_sub (Steps.passed (Steps.eats_broken c.eat.ensures c.in_err-c2.was (Steps.handed c.from_residual-in_err-c2.ensures)) into)

pub spec-returns-in_err-c3 : goal.spec-returns-in_err-c3
spec-returns-in_err-c3 t c =
    let plain =
    plain_clause c.requires.stands c.header_at.ensures c.if-header_at.false (Steps.at c.args.set c.args.src.now c.args.left (goto for_clause) 0 c.args.c c.args.w c.args.out.now) in
    let into =
    Steps.took c.pat.ensures c.in_ok-c1.was plain in
    let opened =
    Steps.ate c.eat.ensures c.in_ok-c2.was into in
    Steps.as_sub (Steps.passed (Steps.takes_broken c.expr.ensures c.in_err-c3.was (Steps.handed c.from_residual-in_err-c3.ensures)) opened)

pub spec-returns : goal.spec-returns
unfolding entry payload
spec-returns t c =
    let plain =
    plain_clause c.requires.stands c.header_at.ensures c.if-header_at.false (Steps.at c.args.set c.args.src.now c.args.left (goto for_clause) 0 c.args.c c.args.w c.args.out.now) in
    let into =
    Steps.took c.pat.ensures c.in_ok-c1.was plain in
    let opened =
    Steps.ate c.eat.ensures c.in_ok-c2.was into in
    let value =
    Steps.took c.expr.ensures c.in_ok-c3.was opened in
    Steps.as_sub (Steps.ends (lit≤ tt) (Steps.closed 3 (lit≤ tt) c.put_none-w4.ensures value))

pub spec-shape_of-out : goal.spec-shape_of-out
spec-shape_of-out t c =
    let plain =
    plain_clause c.requires.stands c.header_at.ensures c.if-header_at.false (Steps.at c.args.set c.args.src.now c.args.left (goto for_clause) 0 c.args.c c.args.w c.args.out.now) in
    let into =
    Steps.took c.pat.ensures c.in_ok-c1.was plain in
    let opened =
    Steps.ate c.eat.ensures c.in_ok-c2.was into in
    let value =
    Steps.took c.expr.ensures c.in_ok-c3.was opened in
    omega (arith, Steps.same value, c.put_none-w4.auto)

pub specs-loop-cur-init : goal.specs-loop-cur-init
specs-loop-cur-init t c =
    let p = c.requires in (record { ok = p.0; seg = clauses_begin p.0.stands p.1 Steps.here; same = refl }, omega arith)

pub specs-spec-requires : goal.specs-spec-requires
unfolding choose has rule sight
specs-spec-requires t c =
    let past_for =
    let st = c.loop-cur.invariant.0.ok.stands in let at_for = c.if-cur-eq-FOR_KW.true in
    Steps.taken (lit< tt) st c.eat_any.ensures at_for (Steps.known (eat 83 ▸ sub for_clause ▸ goto more_clauses) st at_for (λ xs t. refl) (let a0 = c.args in Steps.at a0.set a0.src.now a0.left (goto more_clauses) c.loop-cur.n c.loop-cur.cur c.loop-cur.at c.loop-cur.out)) in
    (omega (arith, c.decreases), Steps.ready c.loop-cur.invariant.0.ok (lit≤ tt) past_for)

pub specs-overflow_add-n : goal.specs-overflow_add-n
specs-overflow_add-n t c =
    let i = c.loop-cur.invariant in record { fits = omega (arith, i.1, i.0.ok.stands.short, i.0.ok.stands.within) }

pub specs-loop-cur-smaller-then-cur-eq-FOR_KW : goal.specs-loop-cur-smaller-then-cur-eq-FOR_KW
unfolding choose has rule sight
specs-loop-cur-smaller-then-cur-eq-FOR_KW t c =
    let past_for =
    let st = c.loop-cur.invariant.0.ok.stands in let at_for = c.if-cur-eq-FOR_KW.true in
    Steps.taken (lit< tt) st c.eat_any.ensures at_for (Steps.known (eat 83 ▸ sub for_clause ▸ goto more_clauses) st at_for (λ xs t. refl) (let a0 = c.args in Steps.at a0.set a0.src.now a0.left (goto more_clauses) c.loop-cur.n c.loop-cur.cur c.loop-cur.at c.loop-cur.out)) in
    let over_for =
    Steps.took c.spec.ensures c.in_ok-c1.was past_for in
    Steps.closer c.loop-cur.invariant.0.ok (lit≤ tt) over_for

pub specs-loop-cur-preserved-then-cur-eq-FOR_KW : goal.specs-loop-cur-preserved-then-cur-eq-FOR_KW
unfolding choose has rule sight
specs-loop-cur-preserved-then-cur-eq-FOR_KW t c =
    let past_for =
    let st = c.loop-cur.invariant.0.ok.stands in let at_for = c.if-cur-eq-FOR_KW.true in
    Steps.taken (lit< tt) st c.eat_any.ensures at_for (Steps.known (eat 83 ▸ sub for_clause ▸ goto more_clauses) st at_for (λ xs t. refl) (let a0 = c.args in Steps.at a0.set a0.src.now a0.left (goto more_clauses) c.loop-cur.n c.loop-cur.cur c.loop-cur.at c.loop-cur.out)) in
    let over_for =
    Steps.took c.spec.ensures c.in_ok-c1.was past_for in
    let i = c.loop-cur.invariant in (Steps.turned i.0 (lit≤ tt) over_for, omega (arith, i.1, over_for.onward))

pub specs-expr-requires : goal.specs-expr-requires
unfolding choose has rule sight
specs-expr-requires t c =
    let test =
    sub (if_clause c.loop-cur.cur.start c.loop-cur.cur.end) ▸ goto more_clauses in
    let past_if =
    let st = c.loop-cur.invariant.0.ok.stands in let at-if = c.if-cur-ne-IF_KW.false in
    Steps.taken (lit< tt) st c.eat_any-in-loop-cur.ensures at-if (Steps.known (eat 71 ▸ test) st at-if (λ xs t. refl) (let a0 = c.args in Steps.at a0.set a0.src.now a0.left (goto more_clauses) c.loop-cur.n c.loop-cur.cur c.loop-cur.at c.loop-cur.out)) in
    (omega (arith, c.decreases), Steps.ready c.loop-cur.invariant.0.ok (lit≤ tt) past_if)

pub specs-put_mark-at-requires : goal.specs-put_mark-at-requires
unfolding choose has rule sight
specs-put_mark-at-requires t c =
    let test =
    sub (if_clause c.loop-cur.cur.start c.loop-cur.cur.end) ▸ goto more_clauses in
    let past_if =
    let st = c.loop-cur.invariant.0.ok.stands in let at-if = c.if-cur-ne-IF_KW.false in
    Steps.taken (lit< tt) st c.eat_any-in-loop-cur.ensures at-if (Steps.known (eat 71 ▸ test) st at-if (λ xs t. refl) (let a0 = c.args in Steps.at a0.set a0.src.now a0.left (goto more_clauses) c.loop-cur.n c.loop-cur.cur c.loop-cur.at c.loop-cur.out)) in
    let a = c.args in let ok = c.loop-cur.invariant.0.ok in
    let here = Steps.at a.set a.src.now a.left (expression ▸ end) 0 c.eat_any-in-loop-cur.result c.loop-cur.at c.loop-cur.out in
    (Steps.fits (Steps.ready ok (lit≤ tt) past_if) (lit≤ tt) (Steps.took c.expr.ensures c.in_ok-c2.was here), (within ok).0, (within ok).1)

pub specs-overflow_add-n-in-loop-cur : goal.specs-overflow_add-n-in-loop-cur
specs-overflow_add-n-in-loop-cur t c =
    let i = c.loop-cur.invariant in record { fits = omega (arith, i.1, i.0.ok.stands.short, i.0.ok.stands.within) }

pub specs-loop-cur-smaller : goal.specs-loop-cur-smaller
unfolding choose has rule sight
specs-loop-cur-smaller t c =
    let test =
    sub (if_clause c.loop-cur.cur.start c.loop-cur.cur.end) ▸ goto more_clauses in
    let past_if =
    let st = c.loop-cur.invariant.0.ok.stands in let at-if = c.if-cur-ne-IF_KW.false in
    Steps.taken (lit< tt) st c.eat_any-in-loop-cur.ensures at-if (Steps.known (eat 71 ▸ test) st at-if (λ xs t. refl) (let a0 = c.args in Steps.at a0.set a0.src.now a0.left (goto more_clauses) c.loop-cur.n c.loop-cur.cur c.loop-cur.at c.loop-cur.out)) in
    let over_if =
    let k = c.loop-cur.cur in
    Steps.took_owing (if_read k.start k.end c.eat_any-in-loop-cur.ensures.stands c.expr.ensures c.in_ok-c2.was c.put_mark-at.ensures) refl past_if in
    Steps.closer c.loop-cur.invariant.0.ok (lit≤ tt) over_if

pub specs-loop-cur-preserved : goal.specs-loop-cur-preserved
unfolding choose has rule sight
specs-loop-cur-preserved t c =
    let test =
    sub (if_clause c.loop-cur.cur.start c.loop-cur.cur.end) ▸ goto more_clauses in
    let past_if =
    let st = c.loop-cur.invariant.0.ok.stands in let at-if = c.if-cur-ne-IF_KW.false in
    Steps.taken (lit< tt) st c.eat_any-in-loop-cur.ensures at-if (Steps.known (eat 71 ▸ test) st at-if (λ xs t. refl) (let a0 = c.args in Steps.at a0.set a0.src.now a0.left (goto more_clauses) c.loop-cur.n c.loop-cur.cur c.loop-cur.at c.loop-cur.out)) in
    let over_if =
    let k = c.loop-cur.cur in
    Steps.took_owing (if_read k.start k.end c.eat_any-in-loop-cur.ensures.stands c.expr.ensures c.in_ok-c2.was c.put_mark-at.ensures) refl past_if in
    let i = c.loop-cur.invariant in (Steps.turned i.0 (lit≤ tt) over_if, omega (arith, i.1, over_if.onward))

pub specs-returns-in_err-c1 : goal.specs-returns-in_err-c1
unfolding choose has rule sight
specs-returns-in_err-c1 t c =
    let past_for =
    let st = c.loop-cur.invariant.0.ok.stands in let at_for = c.if-cur-eq-FOR_KW.true in
    Steps.taken (lit< tt) st c.eat_any.ensures at_for (Steps.known (eat 83 ▸ sub for_clause ▸ goto more_clauses) st at_for (λ xs t. refl) (let a0 = c.args in Steps.at a0.set a0.src.now a0.left (goto more_clauses) c.loop-cur.n c.loop-cur.cur c.loop-cur.at c.loop-cur.out)) in
    passed_counting (Steps.takes_broken c.spec.ensures c.in_err-c1.was (Steps.handed c.from_residual.ensures)) (Steps.onto c.loop-cur.invariant.0.seg past_for)

pub specs-returns-then-cur-ne-IF_KW : goal.specs-returns-then-cur-ne-IF_KW
unfolding choose has rule sight
specs-returns-then-cur-ne-IF_KW t c =
    let i = c.loop-cur.invariant in
    counts_on (lit≤ tt) i.1 (Steps.known end i.0.ok.stands refl (λ xs t. simp (ne_eqb _ 83 c.if-cur-eq-FOR_KW.false, ne_eqb _ 71 c.if-cur-ne-IF_KW.true)) i.0.seg)

pub specs-returns-in_err-c2 : goal.specs-returns-in_err-c2
unfolding choose has rule sight
specs-returns-in_err-c2 t c =
    let test =
    sub (if_clause c.loop-cur.cur.start c.loop-cur.cur.end) ▸ goto more_clauses in
    let past_if =
    let st = c.loop-cur.invariant.0.ok.stands in let at-if = c.if-cur-ne-IF_KW.false in
    Steps.taken (lit< tt) st c.eat_any-in-loop-cur.ensures at-if (Steps.known (eat 71 ▸ test) st at-if (λ xs t. refl) (let a0 = c.args in Steps.at a0.set a0.src.now a0.left (goto more_clauses) c.loop-cur.n c.loop-cur.cur c.loop-cur.at c.loop-cur.out)) in
    let l = c.loop-cur in
    passed_counting (Steps.takes_broken (if_broken l.cur.start l.cur.end c.eat_any-in-loop-cur.ensures.stands c.expr.ensures c.in_err-c2.was (Steps.handed c.from_residual-in_err-c2.ensures)) (Steps.handed c.from_residual-in_err-c2.ensures) (Steps.handed c.from_residual-in_err-c2.ensures))
    (Steps.onto l.invariant.0.seg past_if)

pub step-expr-requires : goal.step-expr-requires
step-expr-requires t c =
    (omega (arith, c.decreases), c.requires.0)

pub step-overflow_add-parts : goal.step-overflow_add-parts
step-overflow_add-parts t c =
    omega (arith, c.requires.1)

pub step-slice_close-requires-2 : goal.step-slice_close-requires-2
unfolding choose has rule sight
step-slice_close-requires-2 t c =
    let tail =
    let x = c.args in goto (slice_stepped x.parts x.x.start x.x.end x.y.start x.y.end x.c.start) in
    let p = c.requires in
    let r = Steps.ready p.0 (lit≤ tt) ((Steps.took c.expr.ensures c.in_ok-c1.was ((Steps.known (expression ▸ tail) c.requires.0.stands refl (λ xs t. simp (ne_eqb _ 24 c.if-c-eq-R_BRACK.false)) (let x0 = c.args in
    let from0 = goto (slice_step x0.parts x0.x.start x0.x.end x0.y.start x0.y.end) in Steps.at x0.set x0.src.now x0.left from0 0 x0.c x0.w x0.out.now))))) in
    (r, p.2, p.3, p.4, p.5, (within p.0).0, omega (arith, r.stands.within, r.stands.short))

pub step-returns-then-c-eq-R_BRACK : goal.step-returns-then-c-eq-R_BRACK
unfolding choose has rule sight
step-returns-then-c-eq-R_BRACK t c =
    let y = c.args in
    let bare = sliced y.parts (span y.x.start y.x.end) (span y.y.start y.y.end) (span 0 0) in
    record {
      tells = λ n. Steps.tail_telling (lit≤ tt) (c.slice_close.ensures.tells y.set y.left n)
          (Steps.known bare c.requires.0.stands c.if-c-eq-R_BRACK.true (λ xs t. refl) Steps.here);
    }

pub step-returns-in_err-c1 : goal.step-returns-in_err-c1
unfolding choose has rule sight
step-returns-in_err-c1 t c =
    let tail =
    let x = c.args in goto (slice_stepped x.parts x.x.start x.x.end x.y.start x.y.end x.c.start) in
    record {
      tells = λ n. Steps.passed_telling (Steps.takes_broken c.expr.ensures c.in_err-c1.was (Steps.handed c.from_residual.ensures)) ((Steps.known (expression ▸ tail) c.requires.0.stands refl (λ xs t. simp (ne_eqb _ 24 c.if-c-eq-R_BRACK.false)) (let x0 = c.args in
          let from0 = goto (slice_step x0.parts x0.x.start x0.x.end x0.y.start x0.y.end) in Steps.at x0.set x0.src.now x0.left from0 n x0.c x0.w x0.out.now)));
    }

pub step-returns : goal.step-returns
unfolding choose has rule sight
step-returns t c =
    let tail =
    let x = c.args in goto (slice_stepped x.parts x.x.start x.x.end x.y.start x.y.end x.c.start) in
    let y = c.args in
    let whole = sliced (y.parts + 4) (span y.x.start y.x.end) (span y.y.start y.y.end) (span y.c.start c.in_ok-c1.field-0.0.at) in
    record {
      tells = λ n. Steps.tail_telling (lit≤ tt) (c.slice_close-2.ensures.tells y.set y.left (n + 1))
          (Steps.known whole (((Steps.took c.expr.ensures c.in_ok-c1.was ((Steps.known (expression ▸ tail) c.requires.0.stands refl (λ xs t. simp (ne_eqb _ 24 c.if-c-eq-R_BRACK.false)) (let x0 = c.args in
          let from0 = goto (slice_step x0.parts x0.x.start x0.x.end x0.y.start x0.y.end) in Steps.at x0.set x0.src.now x0.left from0 n x0.c x0.w x0.out.now))))).stands c.requires.0.stands) refl (λ xs t. refl) ((Steps.took c.expr.ensures c.in_ok-c1.was ((Steps.known (expression ▸ tail) c.requires.0.stands refl (λ xs t. simp (ne_eqb _ 24 c.if-c-eq-R_BRACK.false)) (let x0 = c.args in
          let from0 = goto (slice_step x0.parts x0.x.start x0.x.end x0.y.start x0.y.end) in Steps.at x0.set x0.src.now x0.left from0 n x0.c x0.w x0.out.now))))));
    }

pub value-visibility-v-requires : goal.value-visibility-v-requires
value-visibility-v-requires t c =
    ate_stands c.requires.0.stands c.eat.ensures c.in_ok-c1.was

pub value-expr-requires : goal.value-expr-requires
value-expr-requires t c =
    let opened =
    colons c.requires.0.stands c.eat.ensures c.in_ok-c1.was c.visibility-v.ensures (let x0 = c.args in
    let from0 = goto (field_value x0.h.start x0.h.end x0.h.computed x0.h.plus x0.h.method) in Steps.at x0.set x0.src.now x0.left from0 (x0.h.params + 1) x0.c x0.w x0.out.now) in
    (omega (arith, c.decreases), Steps.ready c.requires.0 (lit≤ tt) opened)

pub value-put_field-w4-requires : goal.value-put_field-w4-requires
value-put_field-w4-requires t c =
    let opened =
    colons c.requires.0.stands c.eat.ensures c.in_ok-c1.was c.visibility-v.ensures (let x0 = c.args in
    let from0 = goto (field_value x0.h.start x0.h.end x0.h.computed x0.h.plus x0.h.method) in Steps.at x0.set x0.src.now x0.left from0 (x0.h.params + 1) x0.c x0.w x0.out.now) in
    let value =
    Steps.took c.expr.ensures c.in_ok-c3.was opened in
    let p = c.requires in (Steps.fits p.0 (lit≤ tt) value, p.1, p.2, p.3, few p.0 p.4)

pub value-returns-in_err-c1 : goal.value-returns-in_err-c1
value-returns-in_err-c1 t c =
    let a = c.args in let h = a.h in
    Steps.passed (goes_broken (λ xs. some_colon a.set a.c.at xs 0 h.start h.end h.computed h.plus h.method (h.params + 1))
    c.eat.ensures c.in_err-c1.was (Steps.handed c.from_residual.ensures)) Steps.here

pub value-returns-in_err-c3 : goal.value-returns-in_err-c3
value-returns-in_err-c3 t c =
    let opened =
    colons c.requires.0.stands c.eat.ensures c.in_ok-c1.was c.visibility-v.ensures (let x0 = c.args in
    let from0 = goto (field_value x0.h.start x0.h.end x0.h.computed x0.h.plus x0.h.method) in Steps.at x0.set x0.src.now x0.left from0 (x0.h.params + 1) x0.c x0.w x0.out.now) in
    Steps.passed (Steps.takes_broken c.expr.ensures c.in_err-c3.was (Steps.handed c.from_residual-in_err-c3.ensures)) opened

pub value-returns : goal.value-returns
unfolding entry payload
value-returns t c =
    let opened =
    colons c.requires.0.stands c.eat.ensures c.in_ok-c1.was c.visibility-v.ensures (let x0 = c.args in
    let from0 = goto (field_value x0.h.start x0.h.end x0.h.computed x0.h.plus x0.h.method) in Steps.at x0.set x0.src.now x0.left from0 (x0.h.params + 1) x0.c x0.w x0.out.now) in
    let value =
    Steps.took c.expr.ensures c.in_ok-c3.was opened in
    Steps.ends (lit≤ tt) (Steps.closed 13 (lit≤ tt) c.put_field-w4.ensures value)

pub arg-slice_bounds-put_word-start : goal.arg-slice_bounds-put_word-start
arg-slice_bounds-put_word-start t c = (lies c.requires.0.stands).on

pub bind-slice_bounds-put_name-start : goal.bind-slice_bounds-put_name-start
bind-slice_bounds-put_name-start t c = (lies c.requires.stands).on
