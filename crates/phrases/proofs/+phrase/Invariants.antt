-- The measures of the cycle, and what its loops keep. A member goes by the depth that is left, 40 for each level, and its rank; a loop goes by the
-- bytes that are left, and has come by a stretch from its start to where it is.
-- Assumes nothing.
use Rattle.std.specs.Prelude.{◌+◌, ◌-◌, ◌*◌, ◌≤◌, length}
use Rattle.std.proofs.Math.Seq.{slice}
use Rattle.grammar.specs.Productions.{Phrase, goto, sub, ◌▸◌, arguments, elements, suffix, array_rest_end, infix_tail, inside, member, members, with_member, binds, pattern_fields, params, pattern_starts, clauses, more_clauses}
use Rattle.leaves.specs.Lexing.{Past}
use Rattle.leaves.proofs.Steps
use Rattle.phrases.proofs.PatternLaws.{Ending}
use Rattle.phrases.proofs.+phrase.Given as goal

abbrev pub decreases-arg : goal.decreases-arg
decreases-arg l = 40 * l.left + 1

abbrev pub decreases-args : goal.decreases-args
decreases-args l = 40 * l.left + 2

abbrev pub decreases-array : goal.decreases-array
decreases-array l = 40 * l.left + 6

abbrev pub decreases-assert : goal.decreases-assert
decreases-assert l = 40 * l.left + 1

abbrev pub decreases-basic : goal.decreases-basic
decreases-basic l = 40 * l.left + 7

abbrev pub decreases-bind : goal.decreases-bind
decreases-bind l = 40 * l.left + 4

abbrev pub decreases-body : goal.decreases-body
decreases-body l = 40 * l.left + 1

abbrev pub decreases-chain : goal.decreases-chain
decreases-chain l = 40 * l.left + 8

abbrev pub decreases-claim : goal.decreases-claim
decreases-claim l = 40 * l.left + 2

abbrev pub decreases-comp : goal.decreases-comp
decreases-comp l = 40 * l.left + 5

abbrev pub decreases-cond : goal.decreases-cond
decreases-cond l = 40 * l.left + 1

abbrev pub decreases-each : goal.decreases-each
decreases-each l = 40 * l.left + 2

abbrev pub decreases-ends : goal.decreases-ends
decreases-ends l = 40 * l.left + 2

abbrev pub decreases-expr : goal.decreases-expr
decreases-expr l = 40 * l.left + 0

abbrev pub decreases-field : goal.decreases-field
decreases-field l = 40 * l.left + 4

abbrev pub decreases-func : goal.decreases-func
decreases-func l = 40 * l.left + 4

abbrev pub decreases-index : goal.decreases-index
decreases-index l = 40 * l.left + 3

abbrev pub decreases-init : goal.decreases-init
decreases-init l = 40 * l.left + 2

abbrev pub decreases-inside : goal.decreases-inside
decreases-inside l = 40 * l.left + 6

abbrev pub decreases-item : goal.decreases-item
decreases-item l = 40 * l.left + 3

abbrev pub decreases-link : goal.decreases-link
decreases-link l = 40 * l.left + 7

abbrev pub decreases-load : goal.decreases-load
decreases-load l = 40 * l.left + 1

abbrev pub decreases-local : goal.decreases-local
decreases-local l = 40 * l.left + 5

abbrev pub decreases-member : goal.decreases-member
decreases-member l = 40 * l.left + 5

abbrev pub decreases-name : goal.decreases-name
decreases-name l = 40 * l.left + 1

abbrev pub decreases-obj : goal.decreases-obj
decreases-obj l = 40 * l.left + 4

abbrev pub decreases-param : goal.decreases-param
decreases-param l = 40 * l.left + 2

abbrev pub decreases-params : goal.decreases-params
decreases-params l = 40 * l.left + 3

abbrev pub decreases-pat : goal.decreases-pat
decreases-pat l = 40 * l.left + 1

abbrev pub decreases-rest : goal.decreases-rest
decreases-rest l = 40 * l.left + 3

abbrev pub decreases-rhs : goal.decreases-rhs
decreases-rhs l = 40 * l.left + 1

abbrev pub decreases-safe : goal.decreases-safe
decreases-safe l = 40 * l.left + 1

abbrev pub decreases-sign : goal.decreases-sign
decreases-sign l = 40 * l.left + 9

abbrev pub decreases-slice : goal.decreases-slice
decreases-slice l = 40 * l.left + 2

abbrev pub decreases-spec : goal.decreases-spec
decreases-spec l = 40 * l.left + 3

abbrev pub decreases-specs : goal.decreases-specs
decreases-specs l = 40 * l.left + 4

abbrev pub decreases-step : goal.decreases-step
decreases-step l = 40 * l.left + 1

abbrev pub decreases-value : goal.decreases-value
decreases-value l = 40 * l.left + 1

abbrev pub invariant-args-loop-cur : goal.invariant-args-loop-cur
invariant-args-loop-cur l =
    Steps.Turns l.set l.src l.left (goto (arguments l.from 0 0)) 1 l.initial.cur l.initial.at l.initial.out (goto (arguments l.from l.unnamed l.named)) (1 + (l.unnamed + l.named)) l.cur l.at l.out × (l.unnamed + l.named ≤ l.cur.at)

abbrev pub decreases-args-loop-cur : goal.decreases-args-loop-cur
decreases-args-loop-cur l = length l.src - l.cur.at

abbrev pub invariant-array-loop-cur : goal.invariant-array-loop-cur
invariant-array-loop-cur l =
    Steps.Turns l.set l.src l.left (goto elements) 1 l.initial.cur l.initial.at l.initial.out (goto elements) l.n l.cur l.at l.out × (l.n ≤ l.cur.at) × Past l.src l.cur l.next

abbrev pub decreases-array-loop-cur : goal.decreases-array-loop-cur
decreases-array-loop-cur l = length l.src - l.cur.at

abbrev pub invariant-chain-loop-cur : goal.invariant-chain-loop-cur
invariant-chain-loop-cur l =
    Steps.Turns l.set l.src l.left (goto (suffix 1)) 1 l.initial.cur l.initial.at l.initial.out (goto (suffix l.first)) 1 l.cur l.at l.out × (l.first ≤ 4)

abbrev pub decreases-chain-loop-cur : goal.decreases-chain-loop-cur
decreases-chain-loop-cur l = length l.src - l.cur.at

abbrev pub invariant-ends-loop-cur : goal.invariant-ends-loop-cur
invariant-ends-loop-cur l =
    (q : Phrase) × Ending l.n l.keep (slice l.name.start l.name.end l.src) q × Steps.Turns l.set l.src l.left (goto (array_rest_end l.n l.keep (slice l.name.start l.name.end l.src))) l.n l.initial.cur l.initial.at l.initial.out (goto q) (l.n + l.m) l.cur l.at l.out × (l.m ≤ l.cur.at)

abbrev pub decreases-ends-loop-cur : goal.decreases-ends-loop-cur
decreases-ends-loop-cur l = length l.src - l.cur.at

abbrev pub invariant-expr-loop-op : goal.invariant-expr-loop-op
invariant-expr-loop-op l =
    Steps.Turns l.set l.src (l.left - 1) (goto (infix_tail l.least)) 1 l.initial.cur l.initial.at l.initial.out (goto (infix_tail l.least)) 1 l.cur l.at l.out

abbrev pub decreases-expr-loop-op : goal.decreases-expr-loop-op
decreases-expr-loop-op l = length l.src - l.cur.at

abbrev pub invariant-inside-loop-c1 : goal.invariant-inside-loop-c1
invariant-inside-loop-c1 l =
    Steps.Turns l.set l.src l.left (goto inside) 0 l.initial.cur l.initial.at l.initial.out (sub member ▸ goto (members (with_member l.fault l.cur.kind))) l.n l.cur l.at l.out × (l.n ≤ l.cur.at) × (l.fault ≤ 4)

abbrev pub decreases-inside-loop-c1 : goal.decreases-inside-loop-c1
decreases-inside-loop-c1 l = length l.src - l.cur.at

abbrev pub invariant-local-loop-cur : goal.invariant-local-loop-cur
invariant-local-loop-cur l =
    Steps.Turns l.set l.src l.left (goto binds) 0 l.initial.cur l.initial.at l.initial.out (goto binds) l.n l.cur l.at l.out × (l.n ≤ l.cur.at)

abbrev pub decreases-local-loop-cur : goal.decreases-local-loop-cur
decreases-local-loop-cur l = length l.src - l.cur.at

abbrev pub invariant-obj-loop-cur : goal.invariant-obj-loop-cur
invariant-obj-loop-cur l =
    Steps.Turns l.set l.src l.left (goto pattern_fields) 0 l.initial.cur l.initial.at l.initial.out (goto pattern_fields) l.n l.cur l.at l.out × (l.n ≤ l.cur.at)

abbrev pub decreases-obj-loop-cur : goal.decreases-obj-loop-cur
decreases-obj-loop-cur l = length l.src - l.cur.at

abbrev pub invariant-params-loop-cur : goal.invariant-params-loop-cur
invariant-params-loop-cur l =
    Steps.Turns l.set l.src l.left (goto params) 0 l.initial.cur l.initial.at l.initial.out (goto params) l.n l.cur l.at l.out × (l.initial.cur.at + l.n ≤ l.cur.at)

abbrev pub decreases-params-loop-cur : goal.decreases-params-loop-cur
decreases-params-loop-cur l = length l.src - l.cur.at

abbrev pub invariant-pat-loop-cur : goal.invariant-pat-loop-cur
invariant-pat-loop-cur l =
    Steps.Turns l.set l.src (l.left - 1) (goto pattern_starts) 0 l.initial.cur l.initial.at l.initial.out (goto pattern_starts) l.n l.cur l.at l.out × (l.n ≤ l.cur.at)

abbrev pub decreases-pat-loop-cur : goal.decreases-pat-loop-cur
decreases-pat-loop-cur l = length l.src - l.cur.at

abbrev pub invariant-specs-loop-cur : goal.invariant-specs-loop-cur
invariant-specs-loop-cur l =
    Steps.Turns l.set l.src l.left (goto clauses) 0 l.initial.cur l.initial.at l.initial.out (goto more_clauses) l.n l.cur l.at l.out × (l.initial.cur.at + l.n ≤ l.cur.at)

abbrev pub decreases-specs-loop-cur : goal.decreases-specs-loop-cur
decreases-specs-loop-cur l = length l.src - l.cur.at
