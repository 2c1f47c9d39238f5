use Rattle.std.proofs.Common.{◌≡◌, ◌++◌, map, drop}
use Rattle.std.specs.List.{filter_map}
use Rattle.cad_grammar.specs.Views.{expr_of}
use Rattle.cad_declarations.specs.Views.{before_of}
use Rattle.cad_environment.specs.Views.{environment_of}
use Rattle.cad_typing.specs.Conditions as spec
use Rattle.cad_statements.proofs.conditions.push_values.Given as goal

abbrev pub invariant-loop-value : goal.invariant-loop-value
invariant-loop-value l =
    map before_of l.values.items ++ filter_map (spec.value_at_entry (environment_of l.env) l.at) (map (λ e. expr_of e.now) (drop l.value-index l.all))
    ≡ map before_of l.initial.values.items ++ filter_map (spec.value_at_entry (environment_of l.env) l.at) (map (λ e. expr_of e.now) l.all)
