use Rattle.std.proofs.Common.{◌≡◌, [], length, ◌+◌, ◌-◌, ◌*◌}
use Rattle.cad_grammar.specs.declared.token.Sign.TheVariants as s
use Rattle.cad_grammar.specs.declared.level.Level.TheVariants as level
use Rattle.cad_grammar.specs.Levels.{tighter}
use Rattle.cad_grammar.specs.ExpressionGrammar.{extend}
use Rattle.cad_grammar.specs.Views.{expr_of}
use Rattle.cad_parse_type.specs.Code.Reading.{climb, listed}
use Rattle.cad_parse_type.specs.Code.Views.{seen}
use Rattle.cad_parse_expr.specs.Code.Reading as spec
use Rattle.cad_parse_expr.specs.Code.Views.{exprs_in, arguments_in, entries_in}
use Rattle.cad_parse_expr.proofs.reader.+read.Given as goal

abbrev pub decreases-read : goal.decreases-read
decreases-read l = 128 * l.depth

abbrev pub decreases-at : goal.decreases-at
decreases-at l = 128 * l.depth + (6 * spec.looseness l.level + 6)

abbrev pub decreases-chain : goal.decreases-chain
decreases-chain l = 128 * l.depth + (6 * spec.looseness l.level + 5)

abbrev pub decreases-tail : goal.decreases-tail
decreases-tail l = 128 * l.depth + (6 * spec.looseness l.level + 3)

abbrev pub decreases-operation : goal.decreases-operation
decreases-operation l = 128 * l.depth + (6 * spec.looseness l.level + 2)

abbrev pub decreases-argument : goal.decreases-argument
decreases-argument l = 128 * l.depth + 2

abbrev pub decreases-entry : goal.decreases-entry
decreases-entry l = 128 * l.depth + 2

abbrev pub decreases-arguments : goal.decreases-arguments
decreases-arguments l = 128 * l.depth + 3

abbrev pub decreases-elements : goal.decreases-elements
decreases-elements l = 128 * l.depth + 3

abbrev pub decreases-entries : goal.decreases-entries
decreases-entries l = 128 * l.depth + 3

abbrev pub decreases-grouped : goal.decreases-grouped
decreases-grouped l = 128 * l.depth + 4

abbrev pub decreases-array : goal.decreases-array
decreases-array l = 128 * l.depth + 4

abbrev pub decreases-pairs : goal.decreases-pairs
decreases-pairs l = 128 * l.depth + 4

abbrev pub decreases-created : goal.decreases-created
decreases-created l = 128 * l.depth + 4

abbrev pub decreases-primary : goal.decreases-primary
decreases-primary l = 128 * l.depth + 5

abbrev pub decreases-index_tail : goal.decreases-index_tail
decreases-index_tail l = 128 * l.depth + 4

abbrev pub decreases-call_tail : goal.decreases-call_tail
decreases-call_tail l = 128 * l.depth + 4

abbrev pub decreases-typed_call : goal.decreases-typed_call
decreases-typed_call l = 128 * l.depth + 5

abbrev pub decreases-postfix_tail : goal.decreases-postfix_tail
decreases-postfix_tail l = 128 * l.depth + 8

abbrev pub decreases-unary : goal.decreases-unary
decreases-unary l = 128 * l.depth + 1

abbrev pub decreases-borrowed : goal.decreases-borrowed
decreases-borrowed l = 128 * l.depth + 1

abbrev pub decreases-prefix : goal.decreases-prefix
decreases-prefix l = 128 * l.depth + 17

abbrev pub decreases-fallback : goal.decreases-fallback
decreases-fallback l = 128 * l.depth + 1

abbrev pub decreases-coalesce : goal.decreases-coalesce
decreases-coalesce l = 128 * l.depth + 59

abbrev pub decreases-branches : goal.decreases-branches
decreases-branches l = 128 * l.depth + 1

abbrev pub decreases-conditional : goal.decreases-conditional
decreases-conditional l = 128 * l.depth + 83

abbrev pub decreases-with_tails : goal.decreases-with_tails
decreases-with_tails l = 128 * l.depth + (6 * spec.looseness l.level + 4)

abbrev pub invariant-with_tails-loop-turn : goal.invariant-with_tails-loop-turn
invariant-with_tails-loop-turn l =
    climb extend (spec.tail (spec.read l.depth) l.level (spec.at (spec.read l.depth) (tighter l.level))) (length l.spot.tokens.now) (expr_of l.fn.a) (seen l.spot)
    ≡ climb extend (spec.tail (spec.read l.depth) l.level (spec.at (spec.read l.depth) (tighter l.level))) (l._turn-end - l._turn) (expr_of l.a) (seen l.rest)

abbrev pub invariant-arguments-loop-turn : goal.invariant-arguments-loop-turn
invariant-arguments-loop-turn l =
    listed (spec.argument (spec.read l.depth)) s.CloseParenthesis (length l.spot.tokens.now) [] (seen l.spot)
    ≡ listed (spec.argument (spec.read l.depth)) s.CloseParenthesis (l._turn-end - l._turn) (arguments_in l.found) (seen l.rest)

abbrev pub invariant-elements-loop-turn : goal.invariant-elements-loop-turn
invariant-elements-loop-turn l =
    listed (spec.read l.depth level.Conditional) s.CloseBracket (length l.spot.tokens.now) [] (seen l.spot)
    ≡ listed (spec.read l.depth level.Conditional) s.CloseBracket (l._turn-end - l._turn) (exprs_in l.found) (seen l.rest)

abbrev pub invariant-entries-loop-turn : goal.invariant-entries-loop-turn
invariant-entries-loop-turn l =
    listed (spec.entry (spec.read l.depth)) s.CloseBrace (length l.spot.tokens.now) [] (seen l.spot)
    ≡ listed (spec.entry (spec.read l.depth)) s.CloseBrace (l._turn-end - l._turn) (entries_in l.found) (seen l.rest)
