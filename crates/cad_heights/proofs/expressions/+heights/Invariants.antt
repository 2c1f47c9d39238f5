use Rattle.std.proofs.Common.{◌≡◌, ◌<◌, ◌^◌, ◌-◌, map, min, max, drop}
use Rattle.cad_grammar.specs.Trees.{arguments_of, entries_of, exprs_of}
use Rattle.cad_grammar.specs.Views.{argument_of, entry_of, expr_of}
use Rattle.cad_heights.specs.Heights as spec
use Rattle.cad_heights.proofs.expressions.+heights.Given as goal

abbrev pub invariant-exprs_height-loop-expr : goal.invariant-exprs_height-loop-expr
invariant-exprs_height-loop-expr l =
    (min (max l.highest (spec.exprs_height (exprs_of (map expr_of (drop l.expr-index l.all))))) (2 ^ 64 - 1) ≡ min (spec.exprs_height (exprs_of (map expr_of l.all))) (2 ^ 64 - 1)) × (l.highest < 2 ^ 64)

abbrev pub invariant-arguments_height-loop-argument : goal.invariant-arguments_height-loop-argument
invariant-arguments_height-loop-argument l =
    (min (max l.highest (spec.arguments_height (arguments_of (map argument_of (drop l.argument-index l.all))))) (2 ^ 64 - 1) ≡ min (spec.arguments_height (arguments_of (map argument_of l.all))) (2 ^ 64 - 1)) × (l.highest < 2 ^ 64)

abbrev pub invariant-entries_height-loop-entry : goal.invariant-entries_height-loop-entry
invariant-entries_height-loop-entry l =
    (min (max l.highest (spec.entries_height (entries_of (map entry_of (drop l.entry-index l.all))))) (2 ^ 64 - 1) ≡ min (spec.entries_height (entries_of (map entry_of l.all))) (2 ^ 64 - 1)) × (l.highest < 2 ^ 64)
