use Rattle.std.proofs.Common.{◌≡◌, map, drop}
use Rattle.cad_grammar.specs.Trees as s
use Rattle.cad_grammar.specs.Views.{expr_of, entry_of}
use Rattle.cad_grammar.specs.Views as grammar
use Rattle.cad_declarations.specs.Views.{argument_of}
use Rattle.cad_environment.specs.Views.{environment_of, typing_of}
use Rattle.cad_parameters.specs.Views.{count_view, parameter_view}
use Rattle.cad_infer_containers.specs.Views.{typings_of}
use Rattle.cad_infer_parts.specs.Code.Rows.{before_rest, before_arguments}
use Rattle.cad_infer_parts.specs.Code.Steps as spec
use Rattle.cad_infer_parts.specs.Views.{expected_of}
use Rattle.cad_infer.proofs.+infer.Given as goal

abbrev pub invariant-rows::push_arguments-loop-a : goal.invariant-rows::push_arguments-loop-a
invariant-rows::push_arguments-loop-a l =
    before_arguments (map argument_of l.found.items) (spec.arguments (environment_of l.inner) (count_view l.count) (map parameter_view l.left) (s.arguments_of (map grammar.argument_of (drop l.a-index l.all))))
    ≡ before_arguments (map argument_of l.initial.found.items) (spec.arguments (environment_of l.fn.env) (count_view l.count) (map parameter_view l.fn.parameters) (s.arguments_of (map grammar.argument_of l.all)))

abbrev pub invariant-rows::push_elements-loop-a : goal.invariant-rows::push_elements-loop-a
invariant-rows::push_elements-loop-a l =
    before_rest (map typing_of l.found.items) (spec.elements (environment_of l.inner) (expected_of l.expected) (s.exprs_of (map expr_of (drop l.a-index l.all))))
    ≡ before_rest (map typing_of l.initial.found.items) (spec.elements (environment_of l.fn.env) (expected_of l.expected) (s.exprs_of (map expr_of l.all)))

abbrev pub invariant-rows::push_entries-loop-entry : goal.invariant-rows::push_entries-loop-entry
invariant-rows::push_entries-loop-entry l =
    before_rest (map typings_of l.found.items) (spec.entries (environment_of l.inner) (expected_of l.key) (expected_of l.value) (s.entries_of (map entry_of (drop l.entry-index l.all))))
    ≡ before_rest (map typings_of l.initial.found.items) (spec.entries (environment_of l.fn.env) (expected_of l.key) (expected_of l.value) (s.entries_of (map entry_of l.all)))
