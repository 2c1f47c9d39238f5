use Rattle.std.proofs.Common.{◌≡◌, map, drop}
use Rattle.cad_scopes.specs.Views.{scope_of}
use Rattle.cad_grammar.specs.Trees.{exprs_of, arguments_of, entries_of}
use Rattle.cad_declarations.specs.Points as p
use Rattle.cad_declarations.specs.Written as w
use Rattle.cad_grammar.specs.Views as g
use Rattle.cad_stop_points.proofs.expression_types.+expressions.Given as goal

abbrev pub invariant-types_in_expressions-loop-e : goal.invariant-types_in_expressions-loop-e
invariant-types_in_expressions-loop-e l =
    p.types_are_there (scope_of l.scope) (w.types_of_exprs (exprs_of (map g.expr_of (drop l.e-index l.all)))) ≡ p.types_are_there (scope_of l.scope) (w.types_of_exprs (exprs_of (map g.expr_of l.all)))

abbrev pub invariant-types_in_arguments-loop-a : goal.invariant-types_in_arguments-loop-a
invariant-types_in_arguments-loop-a l =
    p.types_are_there (scope_of l.scope) (w.types_of_arguments (arguments_of (map g.argument_of (drop l.a-index l.all)))) ≡ p.types_are_there (scope_of l.scope) (w.types_of_arguments (arguments_of (map g.argument_of l.all)))

abbrev pub invariant-types_in_entries-loop-entry : goal.invariant-types_in_entries-loop-entry
invariant-types_in_entries-loop-entry l =
    p.types_are_there (scope_of l.scope) (w.types_of_entries (entries_of (map g.entry_of (drop l.entry-index l.all)))) ≡ p.types_are_there (scope_of l.scope) (w.types_of_entries (entries_of (map g.entry_of l.all)))
